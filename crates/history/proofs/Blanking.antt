-- What a sector shows where bytes were not recorded.
use Rattle.std.proofs.Common.{◌≡◌, ◌⊎◌, inl, inr, ℕ, zero, suc, ◌+◌, ◌-◌, ◌*◌, ◌==◌, ◌||◌, Bool, true, false, List, [], ◌∷◌, ◌++◌, Option, Some, None, refl, sym, ◌∙◌, ap, subst, arith, length, take}
use Rattle.std.specs.Prelude.{All, Contains, if◌then◌else◌}
use Rattle.std.specs.List.{list_any}
use Rattle.std.proofs.Math.Seq.{take-nil, drop-nil}
use Rattle.std.proofs.lemmas.Bool.{eqb-true}
use Rattle.std.proofs.lemmas.List.{nil_from_length}
use Rattle.std.proofs.lemmas.List.Elements.{All-nil, All-head, All-tail, All-cons}
use Rattle.ntstatus.specs.declared.NtStatus.{NtStatus}
use Rattle.ntstatus.specs.declared.NtStatus.TheVariants.{Success}
use Rattle.srb.specs.declared.Kind.{Kind}
use Rattle.srb.specs.declared.Kind.TheVariants.{Read, Write, Flush}
use Rattle.machine.specs.declared.ClientRequest.{ClientRequest}
use Rattle.machine.specs.declared.Label.{Label}
use Rattle.machine.specs.declared.Label.TheVariants.{Call, Device, Answer, Cancel, Pause, Resume, Remove, Surprise, Removed}
use Rattle.machine.specs.Rules.{Rules, first_sector}
use Rattle.machine_laws.specs.Sectors.{part_of}
use Rattle.history_laws.proofs.Mirroring.{further, newest}
use Rattle.register.specs.declared.Sight.{Sight}
use Rattle.register.specs.declared.Sight.TheVariants.{Write as WriteSight, Read as ReadSight, Done, Failed}
use Rattle.register.specs.Values.{code}
use Rattle.register.specs.Schedules.{Event, Seen, Effect, seen_of, value_after, unrecorded, IsNoEnd, IsNoEffect, IsWritten, IsRead, IsCalledFor, TakesEffect, May, IsSchedule}
use Rattle.register.proofs.Coding.{none_is}
use Rattle.history.specs.Sights.{has_sector, bytes_at, success_bytes, success_of, is_call_of, end_of, read_sight, value_of, call_sight, sight_of, with_sight, sights_of}
use Rattle.history.specs.Gaps.{with_bytes, has_none, IsFilled, AreFilled}
use Rattle.history.specs.Filling.{BlanksAreScheduled}

-- NO BYTES

no_part : (rules : Rules) (place : ℕ) → part_of rules [] place ≡ []
no_part rules place = ap (take ((place + 1) * rules.sector_size - place * rules.sector_size)) (drop-nil (place * rules.sector_size)) ∙ take-nil ((place + 1) * rules.sector_size - place * rules.sector_size)

no_value : (rules : Rules) (i : ℕ) (q : ClientRequest) (bytes : List ℕ) → bytes ≡ [] → code (bytes_at rules i q bytes) ≡ unrecorded
no_value rules i q bytes none = ap (λ bs. code (bytes_at rules i q bs)) none ∙ ap code (no_part rules (i - first_sector rules q)) ∙ none_is

-- SIGHTS

-- what is seen where the value was not recorded
abbrev without_value : Sight → Sight
without_value (WriteSight n value) = WriteSight n unrecorded
without_value (ReadSight n value) = ReadSight n unrecorded
without_value (Done n) = Done n
without_value (Failed n) = Failed n

-- the same is seen, or it is without its value
abbrev IsBlank : Sight → Sight → Type 0
IsBlank x y = (y ≡ x) ⊎ (y ≡ without_value x)

abbrev AreBlank : List Sight → List Sight → Type 0
AreBlank [] [] = Unit {0}
AreBlank (x ∷ xs) (y ∷ ys) = IsBlank x y × AreBlank xs ys
AreBlank _ _ = ⊥

abbrev AreBlankIf : Option Sight → Option Sight → Type 0
AreBlankIf None None = Unit {0}
AreBlankIf (Some x) (Some y) = IsBlank x y
AreBlankIf _ _ = ⊥

call_without : (n : ℕ) (x : Sight) → is_call_of n (without_value x) ≡ is_call_of n x
call_without n (WriteSight m value) = refl
call_without n (ReadSight m value) = refl
call_without n (Done m) = refl
call_without n (Failed m) = refl

call_blank : (n : ℕ) (x y : Sight) → IsBlank x y → is_call_of n y ≡ is_call_of n x
call_blank n x y (inl same) = ap (is_call_of n) same
call_blank n x y (inr none) = ap (is_call_of n) none ∙ call_without n x

any_blank : (n : ℕ) (xs ys : List Sight) → AreBlank xs ys → list_any (is_call_of n) ys ≡ list_any (is_call_of n) xs
any_blank n [] [] h = refl
any_blank n [] (y ∷ ys) h = absurd h
any_blank n (x ∷ xs) [] h = absurd h
any_blank n (x ∷ xs) (y ∷ ys) h = ap (λ b. b || list_any (is_call_of n) ys) (call_blank n x y h.0) ∙ ap (λ b. is_call_of n x || b) (any_blank n xs ys h.1)

blank_push : (xs ys : List Sight) (x y : Sight) → AreBlank xs ys → IsBlank x y → AreBlank (xs ++ x ∷ []) (ys ++ y ∷ [])
blank_push [] [] x y h is = (is, tt)
blank_push [] (z ∷ ys) x y h is = absurd h
blank_push (z ∷ xs) [] x y h is = absurd h
blank_push (z ∷ xs) (w ∷ ys) x y h is = (h.0, blank_push xs ys x y h.1 is)

blank_with : (xs ys : List Sight) (x y : Option Sight) → AreBlank xs ys → AreBlankIf x y → AreBlank (with_sight xs x) (with_sight ys y)
blank_with xs ys None None h is = h
blank_with xs ys None (Some y) h is = absurd is
blank_with xs ys (Some x) None h is = absurd is
blank_with xs ys (Some x) (Some y) h is = blank_push xs ys x y h is

-- the last of them, and those before
record Parted (xs : List Sight) (x : Sight) (ys : List Sight) : Type 0 where
  before : List Sight
  last : Sight
  is : ys ≡ before ++ last ∷ []
  blank : AreBlank xs before
  blank_last : IsBlank x last

parted : (xs : List Sight) (x : Sight) (ys : List Sight) → AreBlank (xs ++ x ∷ []) ys → Parted xs x ys
parted [] x [] h = absurd h
parted [] x (y ∷ []) h = record { before = []; last = y; is = refl; blank = tt; blank_last = h.0 }
parted [] x (y ∷ z ∷ ys) h = absurd h.1
parted (w ∷ xs) x [] h = absurd h
parted (w ∷ xs) x (y ∷ ys) h =
    let rest : Parted xs x ys = parted xs x ys h.1 in
    record { before = y ∷ rest.before; last = rest.last; is = ap (λ zs. y ∷ zs) rest.is; blank = (h.0, rest.blank); blank_last = rest.blank_last }

-- LABELS

-- the bytes of an answer are the same, or none were recorded
abbrev AreLike : Option (List ℕ) → Option (List ℕ) → Type 0
AreLike None None = Unit {0}
AreLike (Some whole) (Some bytes) = (bytes ≡ whole) ⊎ (bytes ≡ [])
AreLike _ _ = ⊥

alike : (bytes : Option (List ℕ)) → AreLike bytes bytes
alike None = tt
alike (Some bytes) = inl refl

success_like : (status : NtStatus) (whole bytes : List ℕ) → (bytes ≡ whole) ⊎ (bytes ≡ []) → AreLike (success_bytes status whole) (success_bytes status bytes)
success_like Success whole bytes h = h
success_like _ whole bytes h = tt

none_recorded : (bytes : List ℕ) → (length bytes == 0) ≡ true → bytes ≡ []
none_recorded bytes e = nil_from_length bytes (eqb-true (length bytes) 0 e)

module _ (n : ℕ) (labels wholes : List Label) (rest : AreLike (success_of n wholes) (success_of n labels)) where
  same_answer : (label : Label) → AreLike (success_of n (label ∷ wholes)) (success_of n (label ∷ labels))
  same_answer (Answer m status informed bytes) = by_number (m == n)
    where
      by_number : (b : Bool) → AreLike (if b then success_bytes status bytes else success_of n wholes) (if b then success_bytes status bytes else success_of n labels)
      by_number true = alike (success_bytes status bytes)
      by_number false = rest
  same_answer (Call m q) = rest
  same_answer (Device label) = rest
  same_answer (Cancel m) = rest
  same_answer Pause = rest
  same_answer Resume = rest
  same_answer Remove = rest
  same_answer Surprise = rest
  same_answer Removed = rest

  other_answer : (label : Label) (bytes : List ℕ) → has_none label ≡ true → AreLike (success_of n (with_bytes label bytes ∷ wholes)) (success_of n (label ∷ labels))
  other_answer (Answer m status informed old) bytes none = by_number (m == n)
    where
      by_number : (b : Bool) → AreLike (if b then success_bytes status bytes else success_of n wholes) (if b then success_bytes status old else success_of n labels)
      by_number true = success_like status bytes old (inr (none_recorded old none))
      by_number false = rest
  other_answer (Call m q) bytes none = rest
  other_answer (Device label) bytes none = rest
  other_answer (Cancel m) bytes none = rest
  other_answer Pause bytes none = rest
  other_answer Resume bytes none = rest
  other_answer Remove bytes none = rest
  other_answer Surprise bytes none = rest
  other_answer Removed bytes none = rest

  answer_like : (gap : Bool) (label whole : Label) → IsFilled gap label whole → AreLike (success_of n (whole ∷ wholes)) (success_of n (label ∷ labels))
  answer_like false label whole is = subst (λ w. AreLike (success_of n (w ∷ wholes)) (success_of n (label ∷ labels))) (sym is) (same_answer label)
  answer_like true label whole h = subst (λ w. AreLike (success_of n (w ∷ wholes)) (success_of n (label ∷ labels))) (sym h.is) (other_answer label h.bytes h.none)

answers_like : (n : ℕ) (gaps : List Bool) (labels wholes : List Label) → AreFilled gaps labels wholes → AreLike (success_of n wholes) (success_of n labels)
answers_like n [] [] [] h = tt
answers_like n (gap ∷ gaps) (label ∷ labels) (whole ∷ wholes) h = answer_like n labels wholes (answers_like n gaps labels wholes h.1) gap label whole h.0
answers_like n [] [] (whole ∷ wholes) h = absurd h
answers_like n [] (label ∷ labels) wholes h = absurd h
answers_like n (gap ∷ gaps) [] wholes h = absurd h
answers_like n (gap ∷ gaps) (label ∷ labels) [] h = absurd h

-- WHAT THEY SHOW

module _ (rules : Rules) (p i : ℕ) where
  read_like : (n : ℕ) (q : ClientRequest) (whole bytes : Option (List ℕ)) → AreLike whole bytes → AreBlankIf (read_sight n (value_of code rules i q whole)) (read_sight n (value_of code rules i q bytes))
  read_like n q None None h = tt
  read_like n q None (Some bytes) h = absurd h
  read_like n q (Some whole) None h = absurd h
  read_like n q (Some whole) (Some bytes) (inl same) = inl (ap (λ bs. ReadSight n (code (bytes_at rules i q bs))) same)
  read_like n q (Some whole) (Some bytes) (inr none) = inr (ap (ReadSight n) (no_value rules i q bytes none))

  module _ (xs ys : List Sight) (blank : AreBlank xs ys) (labels wholes : List Label) (later : (n : ℕ) → AreLike (success_of n wholes) (success_of n labels)) where
    same_call : (n : ℕ) (q : ClientRequest) (kind : Kind) → AreBlankIf (call_sight code rules i n q kind wholes) (call_sight code rules i n q kind labels)
    same_call n q Write = inl refl
    same_call n q Read = read_like n q (success_of n wholes) (success_of n labels) (later n)
    same_call n q Flush = tt

    other_call : (n : ℕ) (q : ClientRequest) (bytes : List ℕ) (kind : Kind) → q.bytes ≡ [] → AreBlankIf (call_sight code rules i n (record q { bytes = bytes }) kind wholes) (call_sight code rules i n q kind labels)
    other_call n q bytes Write none = inr (ap (WriteSight n) (no_value rules i q q.bytes none))
    other_call n q bytes Read none = read_like n q (success_of n wholes) (success_of n labels) (later n)
    other_call n q bytes Flush none = tt

    ended_like : (n : ℕ) (status : NtStatus) → AreBlankIf (if list_any (is_call_of n) xs then Some (end_of n status) else None) (if list_any (is_call_of n) ys then Some (end_of n status) else None)
    ended_like n status =
        subst (λ b. AreBlankIf (if list_any (is_call_of n) xs then Some (end_of n status) else None) (if b then Some (end_of n status) else None)) (sym (any_blank n xs ys blank)) (by_seen (list_any (is_call_of n) xs))
      where
        by_seen : (b : Bool) → AreBlankIf (if b then Some (end_of n status) else None) (if b then Some (end_of n status) else None)
        by_seen true = inl refl
        by_seen false = tt

    same_sight : (label : Label) → AreBlankIf (sight_of code rules p i xs label wholes) (sight_of code rules p i ys label labels)
    same_sight (Call n q) = by_sector (has_sector rules p i q)
      where
        by_sector : (b : Bool) → AreBlankIf (if b then call_sight code rules i n q q.kind wholes else None) (if b then call_sight code rules i n q q.kind labels else None)
        by_sector true = same_call n q q.kind
        by_sector false = tt
    same_sight (Answer n status informed bytes) = ended_like n status
    same_sight (Device label) = tt
    same_sight (Cancel n) = tt
    same_sight Pause = tt
    same_sight Resume = tt
    same_sight Remove = tt
    same_sight Surprise = tt
    same_sight Removed = tt

    other_sight : (label : Label) (bytes : List ℕ) → has_none label ≡ true → AreBlankIf (sight_of code rules p i xs (with_bytes label bytes) wholes) (sight_of code rules p i ys label labels)
    other_sight (Call n q) bytes none = by_sector (has_sector rules p i q)
      where
        by_sector : (b : Bool) → AreBlankIf (if b then call_sight code rules i n (record q { bytes = bytes }) q.kind wholes else None) (if b then call_sight code rules i n q q.kind labels else None)
        by_sector true = other_call n q bytes q.kind (none_recorded q.bytes none)
        by_sector false = tt
    other_sight (Answer n status informed old) bytes none = ended_like n status
    other_sight (Device label) bytes none = tt
    other_sight (Cancel n) bytes none = tt
    other_sight Pause bytes none = tt
    other_sight Resume bytes none = tt
    other_sight Remove bytes none = tt
    other_sight Surprise bytes none = tt
    other_sight Removed bytes none = tt

    sight_like : (gap : Bool) (label whole : Label) → IsFilled gap label whole → AreBlankIf (sight_of code rules p i xs whole wholes) (sight_of code rules p i ys label labels)
    sight_like false label whole is = subst (λ w. AreBlankIf (sight_of code rules p i xs w wholes) (sight_of code rules p i ys label labels)) (sym is) (same_sight label)
    sight_like true label whole h = subst (λ w. AreBlankIf (sight_of code rules p i xs w wholes) (sight_of code rules p i ys label labels)) (sym h.is) (other_sight label h.bytes h.none)

  sights_like : (gaps : List Bool) (labels wholes : List Label) (xs ys : List Sight) → AreFilled gaps labels wholes → AreBlank xs ys → AreBlank (sights_of code rules p i xs wholes) (sights_of code rules p i ys labels)
  sights_like [] [] [] xs ys h blank = blank
  sights_like (gap ∷ gaps) (label ∷ labels) (whole ∷ wholes) xs ys h blank =
      sights_like gaps labels wholes _ _ h.1
      (blank_with xs ys _ _ blank (sight_like xs ys blank labels wholes (λ n. answers_like n gaps labels wholes h.1) gap label whole h.0))
  sights_like [] [] (whole ∷ wholes) xs ys h blank = absurd h
  sights_like [] (label ∷ labels) wholes xs ys h blank = absurd h
  sights_like (gap ∷ gaps) [] wholes xs ys h blank = absurd h
  sights_like (gap ∷ gaps) (label ∷ labels) [] xs ys h blank = absurd h

-- SCHEDULES

first_or_behind : {X : Type 0} (y : X) (xs : List X) (x : X) → Contains (y ∷ xs) x → (y ≡ x) ⊎ Contains xs x
first_or_behind y xs x (zero, low, is) = inl is
first_or_behind y xs x (suc k, low, is) = inr (k, omega arith, is)

-- these events are those, and some values of calls were not recorded
record Retold (start : ℕ) (past others : List Event) (ys : List Sight) : Type 0 where
  seen : seen_of others ≡ ys
  turns : IsSchedule start others
  value : value_after start others ≡ value_after start past
  writes : (n v : ℕ) → Contains past (Seen (WriteSight n v)) → IsWritten others n v
  reads : (n v : ℕ) → Contains past (Seen (ReadSight n v)) → IsRead others n v
  effects : (n v : ℕ) → Contains past (Effect n v) → Contains others (Effect n v)
  awaits : (n : ℕ) → All (IsNoEnd n) past → All (IsNoEnd n) others
  once : (n : ℕ) → All (IsNoEffect n) past → All (IsNoEffect n) others

written_more : (event : Event) (past : List Event) (n v : ℕ) → IsWritten past n v → IsWritten (event ∷ past) n v
written_more event past n v (inl there) = inl (further event past _ there)
written_more event past n v (inr there) = inr (further event past _ there)

read_more : (event : Event) (past : List Event) (n v : ℕ) → IsRead past n v → IsRead (event ∷ past) n v
read_more event past n v (inl there) = inl (further event past _ there)
read_more event past n v (inr there) = inr (further event past _ there)

seen_is : {x y : Sight} → Seen x ≡ Seen y → x ≡ y
seen_is e = cc (e)

module _ (start : ℕ) (past others : List Event) (ys : List Sight) (r : Retold start past others ys) where
  written : (n v : ℕ) → IsWritten past n v → IsWritten others n v
  written n v (inl there) = r.writes n v there
  written n v (inr there) = elim (r.writes n unrecorded there) [ inl none ↦ inr none | inr none ↦ inr none ]

  read : (n v : ℕ) → IsRead past n v → IsRead others n v
  read n v (inl there) = r.reads n v there
  read n v (inr there) = elim (r.reads n unrecorded there) [ inl none ↦ inr none | inr none ↦ inr none ]

  called_for : (n v : ℕ) → IsCalledFor start past n v → IsCalledFor start others n v
  called_for n v (inl is) = inl (written n v is)
  called_for n v (inr both) = inr (read n v both.0, both.1 ∙ sym r.value)

  retold_effect : (n v : ℕ) → TakesEffect start past n v → Retold start (Effect n v ∷ past) (Effect n v ∷ others) ys
  retold_effect n v takes = record {
    seen = r.seen;
    turns = (record { called = called_for n v takes.called; awaits = r.awaits n takes.awaits; once = r.once n takes.once }, r.turns);
    value = refl;
    writes = λ m w there. elim (first_or_behind (Effect n v) past (Seen (WriteSight m w)) there) [ inl e ↦ absurd (cc (e)) | inr before ↦ written_more (Effect n v) others m w (r.writes m w before) ];
    reads = λ m w there. elim (first_or_behind (Effect n v) past (Seen (ReadSight m w)) there) [ inl e ↦ absurd (cc (e)) | inr before ↦ read_more (Effect n v) others m w (r.reads m w before) ];
    effects = λ m w there. elim (first_or_behind (Effect n v) past (Effect m w) there) [
      | inl e ↦ subst (Contains (Effect n v ∷ others)) e (newest (Effect n v) others)
      | inr before ↦ further (Effect n v) others _ (r.effects m w before)
    ];
    awaits = λ m all. All-cons (IsNoEnd m) (Effect n v) others tt (r.awaits m (All-tail (IsNoEnd m) (Effect n v) past all));
    once = λ m all. All-cons (IsNoEffect m) (Effect n v) others (All-head (IsNoEffect m) (Effect n v) past all) (r.once m (All-tail (IsNoEffect m) (Effect n v) past all));
  }

  may_blank : (x y : Sight) → IsBlank x y → May start past (Seen x) → May start others (Seen y)
  may_blank x y (inl same) may = subst (λ s. May start others (Seen s)) (sym same) (by_sight x may)
    where
      by_sight : (x : Sight) → May start past (Seen x) → May start others (Seen x)
      by_sight (Done n) did = (did.0, r.effects n did.0 did.1)
      by_sight (WriteSight n v) did = tt
      by_sight (ReadSight n v) did = tt
      by_sight (Failed n) did = tt
  may_blank x y (inr none) may = subst (λ s. May start others (Seen s)) (sym none) (by_sight x may)
    where
      by_sight : (x : Sight) → May start past (Seen x) → May start others (Seen (without_value x))
      by_sight (Done n) did = (did.0, r.effects n did.0 did.1)
      by_sight (WriteSight n v) did = tt
      by_sight (ReadSight n v) did = tt
      by_sight (Failed n) did = tt

  end_blank : (m : ℕ) (x y : Sight) → IsBlank x y → IsNoEnd m (Seen x) → IsNoEnd m (Seen y)
  end_blank m x y (inl same) other = subst (λ s. IsNoEnd m (Seen s)) (sym same) other
  end_blank m x y (inr none) other = subst (λ s. IsNoEnd m (Seen s)) (sym none) (by_sight x other)
    where
      by_sight : (x : Sight) → IsNoEnd m (Seen x) → IsNoEnd m (Seen (without_value x))
      by_sight (Done n) other = other
      by_sight (Failed n) other = other
      by_sight (WriteSight n v) other = tt
      by_sight (ReadSight n v) other = tt

  retold_seen : (x y : Sight) → IsBlank x y → May start past (Seen x) → Retold start (Seen x ∷ past) (Seen y ∷ others) (ys ++ y ∷ [])
  retold_seen x y blank may = record {
    seen = ap (λ zs. zs ++ y ∷ []) r.seen;
    turns = (may_blank x y blank may, r.turns);
    value = r.value;
    writes = λ m w there. elim (first_or_behind (Seen x) past (Seen (WriteSight m w)) there) [ inl e ↦ write_now m w (seen_is e) blank | inr before ↦ written_more (Seen y) others m w (r.writes m w before) ];
    reads = λ m w there. elim (first_or_behind (Seen x) past (Seen (ReadSight m w)) there) [ inl e ↦ read_now m w (seen_is e) blank | inr before ↦ read_more (Seen y) others m w (r.reads m w before) ];
    effects = λ m w there. elim (first_or_behind (Seen x) past (Effect m w) there) [ inl e ↦ absurd (cc (e)) | inr before ↦ further (Seen y) others _ (r.effects m w before) ];
    awaits = λ m all. All-cons (IsNoEnd m) (Seen y) others (end_blank m x y blank (All-head (IsNoEnd m) (Seen x) past all)) (r.awaits m (All-tail (IsNoEnd m) (Seen x) past all));
    once = λ m all. All-cons (IsNoEffect m) (Seen y) others tt (r.once m (All-tail (IsNoEffect m) (Seen x) past all));
  }
    where
      write_now : (m w : ℕ) → x ≡ WriteSight m w → IsBlank x y → IsWritten (Seen y ∷ others) m w
      write_now m w is (inl same) = inl (subst (λ s. Contains (Seen y ∷ others) (Seen s)) (same ∙ is) (newest (Seen y) others))
      write_now m w is (inr none) = inr (subst (λ s. Contains (Seen y ∷ others) (Seen s)) (none ∙ ap without_value is) (newest (Seen y) others))

      read_now : (m w : ℕ) → x ≡ ReadSight m w → IsBlank x y → IsRead (Seen y ∷ others) m w
      read_now m w is (inl same) = inl (subst (λ s. Contains (Seen y ∷ others) (Seen s)) (same ∙ is) (newest (Seen y) others))
      read_now m w is (inr none) = inr (subst (λ s. Contains (Seen y ∷ others) (Seen s)) (none ∙ ap without_value is) (newest (Seen y) others))

retold_none : (start : ℕ) → Retold start [] [] []
retold_none start = record {
  seen = refl;
  turns = tt;
  value = refl;
  writes = λ n v there. absurd (nothing there);
  reads = λ n v there. absurd (nothing there);
  effects = λ n v there. absurd (nothing there);
  awaits = λ n all. All-nil (IsNoEnd n);
  once = λ n all. All-nil (IsNoEffect n);
}
  where
    nothing : {X : Type 0} {x : X} → Contains [] x → ⊥
    nothing (k, low, is) = absurd (omega arith)

retold : (start : ℕ) (past : List Event) (ys : List Sight) → IsSchedule start past → AreBlank (seen_of past) ys → (others : List Event) × Retold start past others ys
retold start [] [] turns blank = ([], retold_none start)
retold start [] (y ∷ ys) turns blank = absurd blank
retold start (Effect n v ∷ past) ys turns blank =
    let before : (others : List Event) × Retold start past others ys = retold start past ys turns.1 blank in
    (Effect n v ∷ before.0, retold_effect start past before.0 ys before.1 n v turns.0)
retold start (Seen x ∷ past) ys turns blank =
    let two : Parted (seen_of past) x ys = parted (seen_of past) x ys blank in
    let before : (others : List Event) × Retold start past others two.before = retold start past two.before turns.1 two.blank in
    (Seen two.last ∷ before.0, subst (Retold start (Seen x ∷ past) (Seen two.last ∷ before.0)) (sym two.is) (retold_seen start past before.0 two.before before.1 x two.last two.blank_last turns.0))

pub blanks_scheduled : BlanksAreScheduled
blanks_scheduled rules p i start gaps history whole filled h =
    let found : (others : List Event) × Retold start h.events others (sights_of code rules p i [] history) =
    retold start h.events (sights_of code rules p i [] history) h.in_turn
    (subst (λ xs. AreBlank xs (sights_of code rules p i [] history)) (sym h.seen) (sights_like rules p i gaps history whole [] [] filled tt)) in
    record { events = found.0; in_turn = found.1.turns; seen = found.1.seen }
