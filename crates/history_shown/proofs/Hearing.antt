-- What a register's schedule so far says of the history so far.
use Rattle.std.proofs.Common.{◌≡◌, ◌<◌, ◌⊎◌, inl, inr, ℕ, ◌-◌, true, List, ◌∷◌, Option, Some, None, refl, sym, ◌∙◌, ap, subst}
use Rattle.std.specs.Prelude.{All, Contains}
use Rattle.std.proofs.lemmas.List.Elements.{All-head, All-tail, All-cons}
use Rattle.srb.specs.declared.Kind.TheVariants.{Read, Write}
use Rattle.machine.specs.declared.ClientRequest.{ClientRequest}
use Rattle.machine.specs.declared.Label.{Label}
use Rattle.machine.specs.declared.Label.TheVariants.{Call}
use Rattle.machine.specs.Rules.{Rules, first_sector}
use Rattle.machine_laws.specs.Sectors.{part_of}
use Rattle.history_laws.specs.Schedules.{Event, Seen, Effect, value_after, IsNoAnswer, IsNoEffect}
use Rattle.history_laws.proofs.Mirroring.{further, newest}
use Rattle.register.specs.declared.Sight.{Sight}
use Rattle.register.specs.declared.Sight.TheVariants.{Write as WriteSight, Read as ReadSight}
use Rattle.register.specs.Schedules as register
use Rattle.history.specs.Sights.{has_sector, bytes_at, is_call_of, success_of}
use Rattle.history_shown.proofs.Turning.{IsShown, in_front, shown_more, shown_before}

-- A CALL THAT IS SHOWN

pub record HeardWrite (code : List ℕ → ℕ) (rules : Rules) (p i : ℕ) (past : List Event) (n v : ℕ) : Type 0 where
  pub request : ClientRequest
  pub called : Contains past (Seen (Call n request))
  pub is_write : request.kind ≡ Write
  pub has : has_sector rules p i request ≡ true
  pub value : v ≡ code (bytes_at rules i request request.bytes)

pub record HeardRead (code : List ℕ → ℕ) (count : ℕ) (rules : Rules) (p i : ℕ) (past : List Event) (labels : List Label) (n v : ℕ) : Type 0 where
  pub request : ClientRequest
  pub called : Contains past (Seen (Call n request))
  pub is_read : request.kind ≡ Read
  pub has : has_sector rules p i request ≡ true
  pub low : v < count
  pub answer : All (IsNoAnswer n) past → (bytes : List ℕ) × (success_of n labels ≡ Some bytes) × (v ≡ code (bytes_at rules i request bytes))

-- ALL OF IT

pub record Heard (code : List ℕ → ℕ) (count : ℕ) (rules : Rules) (p i : ℕ) (start : List ℕ) (past : List Event) (told : List register.Event) (labels : List Label) : Type 0 where
  pub value : code (value_after start past) ≡ register.value_after (code start) told
  pub writes : (n v : ℕ) → Contains told (register.Seen (WriteSight n v)) → HeardWrite code rules p i past n v
  pub reads : (n v : ℕ) → Contains told (register.Seen (ReadSight n v)) → HeardRead code count rules p i past labels n v
  pub waits : (n : ℕ) → IsShown n told → All (register.IsNoEnd n) told → All (IsNoAnswer n) past
  pub once : (n : ℕ) → All (register.IsNoEffect n) told → All (IsNoEffect n) past
  pub effects : (n v : ℕ) → Contains told (register.Effect n v) → (sector : List ℕ) × Contains past (Effect n sector)
  pub wrote : (n : ℕ) (q : ClientRequest) → Contains past (Seen (Call n q)) → q.kind ≡ Write → has_sector rules p i q ≡ true → IsShown n told
  pub will_read : (n : ℕ) (q : ClientRequest) (bytes : List ℕ) → Contains past (Seen (Call n q)) → q.kind ≡ Read → has_sector rules p i q ≡ true → All (IsNoAnswer n) past
      → success_of n labels ≡ Some bytes → IsShown n told
  pub got : (n : ℕ) (sector : List ℕ) (q : ClientRequest) (bytes : List ℕ) → Contains past (Effect n sector) → Contains past (Seen (Call n q)) → q.kind ≡ Read → All (IsNoAnswer n) past
      → success_of n labels ≡ Some bytes → part_of rules bytes (i - first_sector rules q) ≡ sector
  pub one_call : (n : ℕ) (q r : ClientRequest) → Contains past (Seen (Call n q)) → Contains past (Seen (Call n r)) → q ≡ r

label_is : {a b : Label} → Seen a ≡ Seen b → a ≡ b
label_is e = cc (e)

call_is : {n m : ℕ} {q r : ClientRequest} → Call n q ≡ Call m r → (n ≡ m) × (q ≡ r)
call_is e = (cc (e), cc (e))

module _ (code : List ℕ → ℕ) (count : ℕ) (rules : Rules) (p i : ℕ) (start : List ℕ) (past : List Event) where
  write_more : (event : Event) (n v : ℕ) → HeardWrite code rules p i past n v → HeardWrite code rules p i (event ∷ past) n v
  write_more event n v w = record { request = w.request; called = further event past _ w.called; is_write = w.is_write; has = w.has; value = w.value }

  -- AN EFFECT

  read_more : (labels : List Label) (event : Event) (n v : ℕ) → HeardRead code count rules p i past labels n v → HeardRead code count rules p i (event ∷ past) labels n v
  read_more labels event n v r = record {
    request = r.request;
    called = further event past _ r.called;
    is_read = r.is_read;
    has = r.has;
    low = r.low;
    answer = λ awaits. r.answer (All-tail (IsNoAnswer n) event past awaits);
  }

  -- an effect on the register is one on the sector
  pub heard_effect : (told : List register.Event) (labels : List Label) (m v : ℕ) (sector : List ℕ) → Heard code count rules p i start past told labels → code sector ≡ v
      → ((q : ClientRequest) (bytes : List ℕ) → Contains past (Seen (Call m q)) → q.kind ≡ Read → All (IsNoAnswer m) past → success_of m labels ≡ Some bytes → part_of rules bytes (i - first_sector rules q) ≡ sector)
      → Heard code count rules p i start (Effect m sector ∷ past) (register.Effect m v ∷ told) labels
  heard_effect told labels m v sector h is_value is_got = record {
    value = is_value;
    writes = λ n w there. write_more (Effect m sector) n w (h.writes n w (seen_before n (WriteSight n w) there));
    reads = λ n w there. read_more labels (Effect m sector) n w (h.reads n w (seen_before n (ReadSight n w) there));
    waits = λ n shown all. All-cons (IsNoAnswer n) (Effect m sector) past tt (h.waits n shown (All-tail (register.IsNoEnd n) (register.Effect m v) told all));
    once = λ n all. All-cons (IsNoEffect n) (Effect m sector) past (All-head (register.IsNoEffect n) (register.Effect m v) told all) (h.once n (All-tail (register.IsNoEffect n) (register.Effect m v) told all));
    effects = λ n w there. elim (in_front (register.Effect m v) told (register.Effect n w) there) [
      | inl e ↦ let number : m ≡ n = cc (e) in (sector, subst (λ k. Contains (Effect m sector ∷ past) (Effect k sector)) number (newest (Effect m sector) past))
      | inr before ↦ let old = h.effects n w before in (old.0, further (Effect m sector) past _ old.1)
    ];
    wrote = λ n q there is_write has. h.wrote n q (call_before n q there) is_write has;
    will_read = λ n q bytes there is_read has awaits e. h.will_read n q bytes (call_before n q there) is_read has (All-tail (IsNoAnswer n) (Effect m sector) past awaits) e;
    got = λ n s q bytes effect there is_read awaits e. elim (in_front (Effect m sector) past (Effect n s) effect) [
      | inl same ↦
          let number : m ≡ n = cc (same) in
          let is : sector ≡ s = cc (same) in
          is_got q bytes (subst (λ k. Contains past (Seen (Call k q))) (sym number) (call_before n q there)) is_read
          (subst (λ k. All (IsNoAnswer k) past) (sym number) (All-tail (IsNoAnswer n) (Effect m sector) past awaits)) (subst (λ k. success_of k labels ≡ Some bytes) (sym number) e) ∙ is
      | inr before ↦ h.got n s q bytes before (call_before n q there) is_read (All-tail (IsNoAnswer n) (Effect m sector) past awaits) e
    ];
    one_call = λ n q r a b. h.one_call n q r (call_before n q a) (call_before n r b);
  }
    where
      seen_before : (n : ℕ) (x : Sight) → Contains (register.Effect m v ∷ told) (register.Seen x) → Contains told (register.Seen x)
      seen_before n x there = elim (in_front (register.Effect m v) told (register.Seen x) there) [ inl e ↦ absurd (cc (e)) | inr before ↦ before ]

      call_before : (n : ℕ) (q : ClientRequest) → Contains (Effect m sector ∷ past) (Seen (Call n q)) → Contains past (Seen (Call n q))
      call_before n q there = elim (in_front (Effect m sector) past (Seen (Call n q)) there) [ inl e ↦ absurd (cc (e)) | inr before ↦ before ]

-- A LABEL

abbrev pub with_told : List register.Event → Option Sight → List register.Event
with_told told None = told
with_told told (Some x) = register.Seen x ∷ told

-- what is so of a label and of the sight that it shows, if any
pub record Shows (code : List ℕ → ℕ) (count : ℕ) (rules : Rules) (p i : ℕ) (past : List Event) (told : List register.Event) (label : Label) (labels : List Label) (x : Option Sight) : Type 0 where
  pub new_write : (n v : ℕ) → x ≡ Some (WriteSight n v) → HeardWrite code rules p i (Seen label ∷ past) n v
  pub new_read : (n v : ℕ) → x ≡ Some (ReadSight n v) → HeardRead code count rules p i (Seen label ∷ past) labels n v
  -- a request that was shown isn't answered by it, unless its end is shown
  pub goes_on : (n : ℕ) → IsShown n told → All (register.IsNoEnd n) (with_told told x) → IsNoAnswer n (Seen label)
  -- one that is shown now is called by it
  pub is_new : (n : ℕ) (y : Sight) → x ≡ Some y → is_call_of n y ≡ true → All (IsNoAnswer n) (Seen label ∷ past)
  pub later : (n : ℕ) → IsNoAnswer n (Seen label) → success_of n (label ∷ labels) ≡ success_of n labels
  pub shows_write : (n : ℕ) (q : ClientRequest) → label ≡ Call n q → q.kind ≡ Write → has_sector rules p i q ≡ true → IsShown n (with_told told x)
  pub shows_read : (n : ℕ) (q : ClientRequest) (bytes : List ℕ) → label ≡ Call n q → q.kind ≡ Read → has_sector rules p i q ≡ true → success_of n labels ≡ Some bytes → IsShown n (with_told told x)
  pub none_yet : (n : ℕ) (q : ClientRequest) (sector : List ℕ) → label ≡ Call n q → Contains past (Effect n sector) → ⊥
  pub first_call : (n : ℕ) (q r : ClientRequest) → label ≡ Call n q → Contains past (Seen (Call n r)) → ⊥

module _ (code : List ℕ → ℕ) (count : ℕ) (rules : Rules) (p i : ℕ) (start : List ℕ) (past : List Event) (told : List register.Event) (label : Label) (labels : List Label) where
  call_or : (n : ℕ) (q : ClientRequest) → Contains (Seen label ∷ past) (Seen (Call n q)) → (label ≡ Call n q) ⊎ Contains past (Seen (Call n q))
  call_or n q there = elim (in_front (Seen label) past (Seen (Call n q)) there) [ inl e ↦ inl (label_is e) | inr before ↦ inr before ]

  effect_before : (n : ℕ) (sector : List ℕ) → Contains (Seen label ∷ past) (Effect n sector) → Contains past (Effect n sector)
  effect_before n sector there = elim (in_front (Seen label) past (Effect n sector) there) [ inl e ↦ absurd (cc (e)) | inr before ↦ before ]

  kept : (n : ℕ) (x : Option Sight) → IsShown n told → IsShown n (with_told told x)
  kept n None h = h
  kept n (Some y) h = shown_more n y told h

  told_before : (n : ℕ) (x : Option Sight) → All (register.IsNoEnd n) (with_told told x) → All (register.IsNoEnd n) told
  told_before n None all = all
  told_before n (Some y) all = All-tail (register.IsNoEnd n) (register.Seen y) told all

  no_effects : (n : ℕ) (x : Option Sight) → All (register.IsNoEffect n) (with_told told x) → All (register.IsNoEffect n) told
  no_effects n None all = all
  no_effects n (Some y) all = All-tail (register.IsNoEffect n) (register.Seen y) told all

  same_value : (x : Option Sight) → register.value_after (code start) (with_told told x) ≡ register.value_after (code start) told
  same_value None = refl
  same_value (Some y) = refl

  effect_told : (x : Option Sight) (n v : ℕ) → Contains (with_told told x) (register.Effect n v) → Contains told (register.Effect n v)
  effect_told None n v there = there
  effect_told (Some y) n v there = elim (in_front (register.Seen y) told (register.Effect n v) there) [ inl e ↦ absurd (cc (e)) | inr before ↦ before ]

  seen_or : (x : Option Sight) (y : Sight) → Contains (with_told told x) (register.Seen y) → (x ≡ Some y) ⊎ Contains told (register.Seen y)
  seen_or None y there = inr there
  seen_or (Some z) y there = elim (in_front (register.Seen z) told (register.Seen y) there) [ inl e ↦ let same : z ≡ y = cc (e) in inl (ap Some same) | inr before ↦ inr before ]

  shown_or : (x : Option Sight) (n : ℕ) → IsShown n (with_told told x) → IsShown n told ⊎ ((y : Sight) × (x ≡ Some y) × (is_call_of n y ≡ true))
  shown_or None n h = inl h
  shown_or (Some y) n h = elim (shown_before n y told h) [ inl before ↦ inl before | inr now ↦ inr (y, refl, now) ]

  pub heard_label : (x : Option Sight) → Shows code count rules p i past told label labels x → Heard code count rules p i start past told (label ∷ labels)
      → Heard code count rules p i start (Seen label ∷ past) (with_told told x) labels
  heard_label x s h = record {
    value = h.value ∙ sym (same_value x);
    writes = λ n v there. elim (seen_or x (WriteSight n v) there) [ inl now ↦ s.new_write n v now | inr before ↦ write_more code count rules p i start past (Seen label) n v (h.writes n v before) ];
    reads = λ n v there. elim (seen_or x (ReadSight n v) there) [ inl now ↦ s.new_read n v now | inr before ↦ read_on n v (h.reads n v before) ];
    waits = λ n shown all. elim (shown_or x n shown) [
      | inl before ↦ All-cons (IsNoAnswer n) (Seen label) past (s.goes_on n before all) (h.waits n before (told_before n x all))
      | inr (y, now, is) ↦ s.is_new n y now is
    ];
    once = λ n all. All-cons (IsNoEffect n) (Seen label) past tt (h.once n (no_effects n x all));
    effects = λ n v there. let old = h.effects n v (effect_told x n v there) in (old.0, further (Seen label) past _ old.1);
    wrote = λ n q there is_write has. elim (call_or n q there) [ inl now ↦ s.shows_write n q now is_write has | inr before ↦ kept n x (h.wrote n q before is_write has) ];
    will_read = λ n q bytes there is_read has awaits e. elim (call_or n q there) [
      | inl now ↦ s.shows_read n q bytes now is_read has e
      | inr before ↦ kept n x (h.will_read n q bytes before is_read has (All-tail (IsNoAnswer n) (Seen label) past awaits) (s.later n (All-head (IsNoAnswer n) (Seen label) past awaits) ∙ e))
    ];
    got = λ n sector q bytes effect there is_read awaits e. elim (call_or n q there) [
      | inl now ↦ absurd (s.none_yet n q sector now (effect_before n sector effect))
      | inr before ↦ h.got n sector q bytes (effect_before n sector effect) before is_read (All-tail (IsNoAnswer n) (Seen label) past awaits) (s.later n (All-head (IsNoAnswer n) (Seen label) past awaits) ∙ e)
    ];
    one_call = λ n q r a b. elim (call_or n q a) [
      | inl now ↦ elim (call_or n r b) [ inl now' ↦ (call_is (sym now ∙ now')).1 | inr before ↦ absurd (s.first_call n q r now before) ]
      | inr before ↦ elim (call_or n r b) [ inl now ↦ absurd (s.first_call n r q now before) | inr before' ↦ h.one_call n q r before before' ]
    ];
  }
    where
      read_on : (n v : ℕ) → HeardRead code count rules p i past (label ∷ labels) n v → HeardRead code count rules p i (Seen label ∷ past) labels n v
      read_on n v r = record {
        request = r.request;
        called = further (Seen label) past _ r.called;
        is_read = r.is_read;
        has = r.has;
        low = r.low;
        answer = λ awaits.
            let old = r.answer (All-tail (IsNoAnswer n) (Seen label) past awaits) in
            (old.0, sym (s.later n (All-head (IsNoAnswer n) (Seen label) past awaits)) ∙ old.1, old.2);
      }
