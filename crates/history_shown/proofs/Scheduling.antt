-- A sector that shows what has a schedule as a register has a schedule.
use Rattle.std.proofs.Common.{◌≡◌, ◌≢◌, ◌<◌, inl, inr, ℕ, zero, suc, ◌+◌, ◌-◌, ◌==◌, ◌&&◌, Bool, true, false, List, [], ◌∷◌, ◌++◌, Option, Some, None, refl, sym, ◌∙◌, ap, subst, arith, length, set, length-append, append-nil}
use Rattle.std.specs.Prelude.{All, Contains, is_none, slice_get, if◌then◌else◌}
use Rattle.std.specs.List.{list_any}
use Rattle.std.proofs.lemmas.Bool.{and_parts, eqb-true}
use Rattle.std.proofs.lemmas.Bool.Decides.{nat_tests}
use Rattle.std.proofs.lemmas.List.Elements.{All-nil, All-head, All-tail, All-cons, All-append, All-contains, All-weaker}
use Rattle.std.proofs.lemmas.List.{length-set}
use Rattle.ntstatus.specs.declared.NtStatus.{NtStatus}
use Rattle.ntstatus.specs.declared.NtStatus.TheVariants.{Success}
use Rattle.srb.specs.declared.Kind.{Kind}
use Rattle.srb.specs.declared.Kind.TheVariants.{Read, Write, Flush}
use Rattle.machine.specs.declared.ClientRequest.{ClientRequest}
use Rattle.machine.specs.declared.Label.{Label}
use Rattle.machine.specs.declared.Label.TheVariants.{Call, Device, Answer, Cancel, Pause, Resume, Remove, Surprise, Removed}
use Rattle.machine.specs.Rules.{Rules, is_transfer, first_sector}
use Rattle.machine_laws.specs.Sectors.{part_of, bytes_for}
use Rattle.history_laws.specs.declared.Asked.{Asked}
use Rattle.history_laws.specs.Schedules.{Event, Seen, Effect, labels_of, value_after, IsAt, IsNoAnswer, IsNoEffect, IsOpen, Moves, TakesEffect, TookEffect, IsAnswer, May, MayFollow}
use Rattle.history_laws.specs.Fitting.{refused, carried, entry_of, ends_by, ends_open, without, asked_after, owed_after, fits, all_fit}
use Rattle.history_laws.proofs.Mirroring.{IsBelow, newest, below_more, below_no_answer, open_more}
use Rattle.history_runs.proofs.Seeing.{asked_more}
use Rattle.register.specs.declared.Sight.{Sight}
use Rattle.register.specs.declared.Sight.TheVariants.{Write as WriteSight, Read as ReadSight}
use Rattle.register.specs.Schedules as register
use Rattle.register.specs.Schedules.{HasSchedule}
use Rattle.history.specs.Sights.{has_sector, bytes_at, success_of, is_call_of, end_of, read_sight, value_of, call_sight, sight_of, with_sight, sights_of}
use Rattle.history_shown.specs.Laws.{Tells, IsReadBelow, IsRecorded, ShownAreScheduled}
use Rattle.history_shown.proofs.Turning.{in_front, Comes, sights_in, turned, comes_next, IsShown, shown_now, told_shown, place_is, at_has, has_at}
use Rattle.history_shown.proofs.Hearing.{HeardWrite, HeardRead, Heard, Shows, heard_effect, heard_label}

-- WHAT FITS

fit_parts : (b rest : Bool) → (if b then rest else false) ≡ true → (b ≡ true) × (rest ≡ true)
fit_parts true rest e = (refl, e)
fit_parts false rest e = cc (e)

-- each number so far was given, and what awaits its answer is open
record Known (past : List Event) (asked : List (Option Asked)) (owed : Option NtStatus) : Type 0 where
  given : All (IsBelow (length asked)) past
  waiting : (n : ℕ) (a : Asked) → slice_get asked n ≡ Some (Some a) → (q : ClientRequest) × IsOpen past n q
  owing : (status : NtStatus) → owed ≡ Some status → (q : ClientRequest) × IsOpen past (length asked - 1) q × (slice_get asked (length asked - 1) ≡ Some None)

known_more : (past : List Event) (asked : List (Option Asked)) (owed : Option NtStatus) (event : Event) → IsBelow (length asked) event → ((n : ℕ) → IsNoAnswer n event) → Known past asked owed → Known (event ∷ past) asked owed
known_more past asked owed event below other k = record {
  given = All-cons (IsBelow (length asked)) event past below k.given;
  waiting = λ n a h. let old = k.waiting n a h in (old.0, open_more event past n old.0 (other n) old.1);
  owing = λ status e. let old = k.owing status e in (old.0, open_more event past (length asked - 1) old.0 (other (length asked - 1)) old.1, old.2);
}

some_some : {a b : Asked} → Some (Some a) ≡ Some (Some b) → a ≡ b
some_some e = cc (e)

set_none : (asked : List (Option Asked)) (n m : ℕ) (a : Asked) → slice_get (set asked n None) m ≡ Some (Some a) → (m ≢ n) × (slice_get asked m ≡ Some (Some a))
set_none [] n m a e = cc (e)
set_none (y ∷ asked) zero zero a e = cc (e)
set_none (y ∷ asked) zero (suc m) a e = (λ same. absurd (omega arith), e)
set_none (y ∷ asked) (suc n) zero a e = (λ same. absurd (omega arith), e)
set_none (y ∷ asked) (suc n) (suc m) a e = let rest : (m ≢ n) × (slice_get asked m ≡ Some (Some a)) = set_none asked n m a e in (λ same. let same' : m ≡ n = omega arith in rest.0 same', rest.1)

pub last_entry : (asked : List (Option Asked)) (x : Option Asked) → slice_get (asked ++ x ∷ []) (length asked) ≡ Some x
last_entry [] x = refl
last_entry (y ∷ asked) x = last_entry asked x

is_waiting : (found : Option (Option Asked)) (status : NtStatus) (informed count : ℕ) → ends_open found status informed count ≡ true → (a : Asked) × (found ≡ Some (Some a))
is_waiting (Some (Some a)) status informed count e = (a, refl)
is_waiting (Some None) status informed count e = cc (e)
is_waiting None status informed count e = cc (e)

-- SIGHTS

end_no_write : (n m v : ℕ) (status : NtStatus) → end_of n status ≡ WriteSight m v → ⊥
end_no_write n m v Success e = cc (e)
end_no_write n m v _ e = cc (e)

end_no_read : (n m v : ℕ) (status : NtStatus) → end_of n status ≡ ReadSight m v → ⊥
end_no_read n m v Success e = cc (e)
end_no_read n m v _ e = cc (e)

end_no_call : (n m : ℕ) (status : NtStatus) → is_call_of m (end_of n status) ≡ true → ⊥
end_no_call n m Success e = cc (e)
end_no_call n m _ e = cc (e)

end_is : (n m : ℕ) (status : NtStatus) → register.IsNoEnd m (register.Seen (end_of n status)) → n ≢ m
end_is n m Success other = other
end_is n m _ other = other

passed_over : (n m : ℕ) (status : NtStatus) (informed : ℕ) (bytes : List ℕ) (later : List Label) → n ≢ m → success_of m (Answer n status informed bytes ∷ later) ≡ success_of m later
passed_over n m status informed bytes later other = let e : (n == m) ≡ false = grind (arith, nat_tests) in rw e refl

succeeds_now : (n : ℕ) (status : NtStatus) (informed : ℕ) (bytes : List ℕ) (later : List Label) → status ≡ Success → success_of n (Answer n status informed bytes ∷ later) ≡ Some bytes
succeeds_now n status informed bytes later success = let e : (n == n) ≡ true = grind (arith, nat_tests) in rw (e, success) refl

call_is : {n m : ℕ} {q r : ClientRequest} → Call n q ≡ Call m r → (n ≡ m) × (q ≡ r)
call_is e = (cc (e), cc (e))

some_sight : {x y : Sight} → Some x ≡ Some y → x ≡ y
some_sight e = cc (e)

-- what is read has a value below the count, and bytes were recorded
abbrev IsKnown : ℕ → Sight → Type 0
IsKnown count x = IsReadBelow count x × IsRecorded x

both_known : (count : ℕ) (sights : List Sight) → All (IsReadBelow count) sights → All IsRecorded sights → All (IsKnown count) sights
both_known count [] low all = All-nil (IsKnown count)
both_known count (x ∷ sights) low all =
    All-cons (IsKnown count) x sights (All-head (IsReadBelow count) x sights low, All-head IsRecorded x sights all) (both_known count sights (All-tail (IsReadBelow count) x sights low) (All-tail IsRecorded x sights all))

all_front : {X : Type 0} (P : X → Type 0) (xs ys : List X) → All P (xs ++ ys) → All P xs
all_front P [] ys all = All-nil P
all_front P (x ∷ xs) ys all = All-cons P x xs (All-head P x (xs ++ ys) all) (all_front P xs ys (All-tail P x (xs ++ ys) all))

all_back : {X : Type 0} (P : X → Type 0) (xs ys : List X) → All P (xs ++ ys) → All P ys
all_back P [] ys all = all
all_back P (x ∷ xs) ys all = all_back P xs ys (All-tail P x (xs ++ ys) all)

-- what was told is among the sights
seen_all : (P : Sight → Type 0) (told : List register.Event) (x : Sight) → All P (register.seen_of told) → Contains told (register.Seen x) → P x
seen_all P [] x all (k, low, is) = absurd (omega arith)
seen_all P (register.Effect m v ∷ told) x all there = elim (in_front (register.Effect m v) told (register.Seen x) there) [ inl e ↦ absurd (cc (e)) | inr before ↦ seen_all P told x all before ]
seen_all P (register.Seen y ∷ told) x all there = elim (in_front (register.Seen y) told (register.Seen x) there) [
  | inl e ↦ let same : y ≡ x = cc (e) in subst P same (All-head P y [] (all_back P (register.seen_of told) (y ∷ []) all))
  | inr before ↦ seen_all P told x (all_front P (register.seen_of told) (y ∷ []) all) before
]

module _ (code : List ℕ → ℕ) (count : ℕ) (tells : Tells code count) (rules : Rules) (p i : ℕ) (start : List ℕ) where
  abbrev GoesOn : List Event → List Label → Type 0
  GoesOn past labels = (events : List Event) × MayFollow rules p i start past events × (labels_of events ≡ labels)

  abbrev Hears : List Event → List register.Event → List Label → Type 0
  Hears past told labels = Heard code count rules p i start past told labels

  -- AN EFFECT

  record IsEffect (past : List Event) (labels : List Label) (n v : ℕ) : Type 0 where
    sector : List ℕ
    takes : TakesEffect rules p i start past n sector
    is_value : code sector ≡ v
    is_got : (q : ClientRequest) (bytes : List ℕ) → Contains past (Seen (Call n q)) → q.kind ≡ Read → All (IsNoAnswer n) past → success_of n labels ≡ Some bytes
        → part_of rules bytes (i - first_sector rules q) ≡ sector

  effect_of : (past : List Event) (told : List register.Event) (labels : List Label) (n v : ℕ) → Hears past told labels → All IsRecorded (register.seen_of told) → register.TakesEffect (code start) told n v → IsEffect past labels n v
  effect_of past told labels n v h recorded t = by_call t.called
    where
      of_write : HeardWrite code rules p i past n v → Contains told (register.Seen (WriteSight n v)) → IsEffect past labels n v
      of_write w there = record {
        sector = bytes_for rules w.request (i - first_sector rules w.request);
        takes = record {
          request = w.request;
          place = i - first_sector rules w.request;
          is_open = record { called = w.called; awaits = h.waits n (told_shown n (WriteSight n v) told (same n) there) t.awaits };
          there = has_at rules p i w.request w.has;
          once = h.once n t.once;
          moves = subst (λ kind. Moves rules (value_after start past) w.request (i - first_sector rules w.request) kind (bytes_for rules w.request (i - first_sector rules w.request))) (sym w.is_write) refl;
        };
        is_value = sym w.value;
        is_got = λ q bytes called is_read awaits e. let own : w.request ≡ q = h.one_call n w.request q w.called called in
            let both : Write ≡ Read = sym w.is_write ∙ ap (λ r. r.kind) own ∙ is_read in cc (both);
      }
        where
          same : (m : ℕ) → (m == m) ≡ true
          same m = grind (arith, nat_tests)

      of_read : HeardRead code count rules p i past labels n v → Contains told (register.Seen (ReadSight n v)) → v ≡ register.value_after (code start) told → IsEffect past labels n v
      of_read r there met = record {
        sector = value_after start past;
        takes = record {
          request = r.request;
          place = i - first_sector rules r.request;
          is_open = record { called = r.called; awaits = h.waits n (told_shown n (ReadSight n v) told (same n) there) t.awaits };
          there = has_at rules p i r.request r.has;
          once = h.once n t.once;
          moves = subst (λ kind. Moves rules (value_after start past) r.request (i - first_sector rules r.request) kind (value_after start past)) (sym r.is_read) refl;
        };
        is_value = h.value ∙ sym met;
        is_got = λ q bytes called is_read awaits e.
            let own : r.request ≡ q = h.one_call n r.request q r.called called in
            let found : (b : List ℕ) × (success_of n labels ≡ Some b) × (v ≡ code (bytes_at rules i r.request b)) = r.answer awaits in
            let is : found.0 ≡ bytes = bytes_are (sym found.1 ∙ e) in
            let there : v ≡ code (part_of rules bytes (i - first_sector rules q)) = found.2 ∙ ap (λ b. code (bytes_at rules i r.request b)) is ∙ ap (λ s. code (bytes_at rules i s bytes)) own in
            tells (part_of rules bytes (i - first_sector rules q)) (value_after start past) (subst (λ m. m < count) there r.low) (sym there ∙ met ∙ sym h.value);
      }
        where
          same : (m : ℕ) → (m == m) ≡ true
          same m = grind (arith, nat_tests)

          bytes_are : {a b : List ℕ} → Some a ≡ Some b → a ≡ b
          bytes_are e = cc (e)

      by_call : register.IsCalledFor (code start) told n v → IsEffect past labels n v
      by_call (inl (inl there)) = of_write (h.writes n v there) there
      by_call (inr (inl there, met)) = of_read (h.reads n v there) there met
      by_call (inl (inr none)) = absurd (seen_all IsRecorded told (WriteSight n register.unrecorded) recorded none refl)
      by_call (inr (inr none, met)) = absurd (seen_all IsRecorded told (ReadSight n register.unrecorded) recorded none refl)

  -- TO THE NEXT SIGHT

  -- what goes on where the sight comes next
  abbrev FromSight : List register.Event → List Label → List (Option Asked) → Option NtStatus → Sight → List Sight → Type 0
  FromSight told labels asked owed x more = (past' : List Event) (told' rest' : List register.Event) → Hears past' told' labels → Known past' asked owed → register.seen_of told' ≡ register.seen_of told
      → register.May (code start) told' (register.Seen x) → Comes (code start) (register.Seen x ∷ told') rest' → sights_in rest' ≡ more → GoesOn past' labels

  reach : (rest told : List register.Event) (past : List Event) (labels : List Label) (asked : List (Option Asked)) (owed : Option NtStatus) (x : Sight) (more : List Sight) → Hears past told labels → All IsRecorded (register.seen_of told) → Known past asked owed
      → Comes (code start) told rest → sights_in rest ≡ x ∷ more → FromSight told labels asked owed x more → GoesOn past labels
  reach [] told past labels asked owed x more h recorded k c e on = absurd (cc (e))
  reach (register.Seen y ∷ rest) told past labels asked owed x more h recorded k c e on =
      let same : y ≡ x = cc (e) in
      let others : sights_in rest ≡ more = cc (e) in
      on past told rest h k refl (subst (λ z. register.May (code start) told (register.Seen z)) same c.0) (subst (λ z. Comes (code start) (register.Seen z ∷ told) rest) same c.1) others
  reach (register.Effect n v ∷ rest) told past labels asked owed x more h recorded k c e on =
      let f : IsEffect past labels n v = effect_of past told labels n v h recorded c.0 in
      let low : n < length asked = All-contains (IsBelow (length asked)) past (Seen (Call n f.takes.request)) k.given f.takes.is_open.called in
      let next : GoesOn (Effect n f.sector ∷ past) labels =
      reach rest (register.Effect n v ∷ told) (Effect n f.sector ∷ past) labels asked owed x more (heard_effect code count rules p i start past told labels n v f.sector h f.is_value f.is_got) recorded
      (known_more past asked owed (Effect n f.sector) low (λ m. tt) k) c.1 e on in
      (Effect n f.sector ∷ next.0, (f.takes, next.1), next.2)

  -- A LABEL

  abbrev MayTold : List register.Event → Option Sight → Type 0
  MayTold told None = Unit {0}
  MayTold told (Some x) = register.May (code start) told (register.Seen x)

  -- the label may come, and what is so of it and behind it
  record Prepared (past : List Event) (told : List register.Event) (label : Label) (labels : List Label) (asked' : List (Option Asked)) (owed' : Option NtStatus) (x : Option Sight) : Type 0 where
    may : May rules p i start past (Seen label)
    shows : Shows code count rules p i past told label labels x
    known : Known (Seen label ∷ past) asked' owed'

  abbrev Prepares : Label → List Label → List (Option Asked) → Option NtStatus → Type 0
  Prepares label labels asked owed = (past : List Event) (told : List register.Event) (x : Option Sight) → Hears past told (label ∷ labels) → Known past asked owed
      → sight_of code rules p i (register.seen_of told) label labels ≡ x → ((y : Sight) → x ≡ Some y → IsReadBelow count y) → MayTold told x
      → Prepared past told label labels (asked_after rules asked owed label) (owed_after rules owed label) x

  -- what goes on at these labels
  abbrev Schedules : List Label → Type 0
  Schedules labels = (past : List Event) (told rest : List register.Event) (asked : List (Option Asked)) (owed : Option NtStatus) → Hears past told labels → All IsRecorded (register.seen_of told) → Known past asked owed → all_fit rules asked owed labels ≡ true
      → Comes (code start) told rest → All (IsKnown count) (sights_in rest) → sights_of code rules p i (register.seen_of told) labels ≡ register.seen_of told ++ sights_in rest → GoesOn past labels

  on_label : (label : Label) (labels : List Label) → ((asked : List (Option Asked)) (owed : Option NtStatus) → fits rules asked owed label ≡ true → Prepares label labels asked owed) → Schedules labels → Schedules (label ∷ labels)
  on_label label labels prepares on past told rest asked owed h recorded k fit c low e =
      let parts = fit_parts (fits rules asked owed label) (all_fit rules (asked_after rules asked owed label) (owed_after rules owed label) labels) fit in
      by_sight (prepares asked owed parts.0) parts.1 (sight_of code rules p i (register.seen_of told) label labels) refl e
    where
      by_sight : Prepares label labels asked owed → all_fit rules (asked_after rules asked owed label) (owed_after rules owed label) labels ≡ true → (x : Option Sight)
          → sight_of code rules p i (register.seen_of told) label labels ≡ x → sights_of code rules p i (with_sight (register.seen_of told) x) labels ≡ register.seen_of told ++ sights_in rest → GoesOn past (label ∷ labels)
      by_sight prepare fit' None is e' =
          let ready = prepare past told None h k is (λ y f. cc (f)) tt in
          let next : GoesOn (Seen label ∷ past) labels =
          on (Seen label ∷ past) told rest (asked_after rules asked owed label) (owed_after rules owed label) (heard_label code count rules p i start past told label labels None ready.shows h) recorded ready.known fit' c low e' in
          (Seen label ∷ next.0, (ready.may, next.1), ap (λ ls. label ∷ ls) next.2)
      by_sight prepare fit' (Some x) is e' = from (comes_next code rules p i labels (register.seen_of told) x (sights_in rest) e')
        where
          from : (more : List Sight) × (sights_in rest ≡ x ∷ more) × (sights_of code rules p i (register.seen_of told ++ x ∷ []) labels ≡ (register.seen_of told ++ x ∷ []) ++ more) → GoesOn past (label ∷ labels)
          from (more, comes, later) =
              let low' : All (IsKnown count) (x ∷ more) = subst (All (IsKnown count)) comes low in
              let now : IsKnown count x = All-head (IsKnown count) x more low' in
              reach rest told past (label ∷ labels) asked owed x more h recorded k c comes
              (λ past' told' rest' h' k' same may c' others.
              let ready = prepare past' told' (Some x) h' k' (ap (λ sights. sight_of code rules p i sights label labels) same ∙ is)
              (λ y f. subst (IsReadBelow count) (some_sight f) now.0) may in
              let next : GoesOn (Seen label ∷ past') labels =
              on (Seen label ∷ past') (register.Seen x ∷ told') rest' (asked_after rules asked owed label) (owed_after rules owed label)
              (heard_label code count rules p i start past' told' label labels (Some x) ready.shows h')
              (All-append IsRecorded (register.seen_of told') (x ∷ []) (subst (All IsRecorded) (sym same) recorded) (All-cons IsRecorded x [] now.1 (All-nil IsRecorded))) ready.known fit' c' (subst (All (IsKnown count)) (sym others) (All-tail (IsKnown count) x more low'))
              (subst (λ sights. sights_of code rules p i (sights ++ x ∷ []) labels ≡ (sights ++ x ∷ []) ++ sights_in rest') (sym same) (later ∙ ap (λ ys. (register.seen_of told ++ x ∷ []) ++ ys) (sym others))) in
              (Seen label ∷ next.0, (ready.may, next.1), ap (λ ls. label ∷ ls) next.2))

  -- NO CALL AND NO ANSWER

  other_shows : (past : List Event) (told : List register.Event) (label : Label) (labels : List Label) → ((n : ℕ) → IsNoAnswer n (Seen label)) → ((n : ℕ) (q : ClientRequest) → label ≡ Call n q → ⊥)
      → ((n : ℕ) → success_of n (label ∷ labels) ≡ success_of n labels) → Shows code count rules p i past told label labels None
  other_shows past told label labels no_answer no_call later = record {
    new_write = λ n v e. cc (e);
    new_read = λ n v e. cc (e);
    goes_on = λ n shown all. no_answer n;
    is_new = λ n y e call. cc (e);
    later = λ n other. later n;
    shows_write = λ n q e is has. absurd (no_call n q e);
    shows_read = λ n q bytes e is has success. absurd (no_call n q e);
    none_yet = λ n q sector e effect. no_call n q e;
    first_call = λ n q r e before. no_call n q e;
  }

  prepare_other : (label : Label) (labels : List Label) (asked : List (Option Asked)) (owed : Option NtStatus) → ((past : List Event) → May rules p i start past (Seen label)) → ((n : ℕ) → IsNoAnswer n (Seen label))
      → ((n : ℕ) (q : ClientRequest) → label ≡ Call n q → ⊥) → ((n : ℕ) → success_of n (label ∷ labels) ≡ success_of n labels) → IsBelow (length asked) (Seen label)
      → ((sights : List Sight) → sight_of code rules p i sights label labels ≡ None) → (asked_after rules asked owed label ≡ asked) → (owed_after rules owed label ≡ owed) → Prepares label labels asked owed
  prepare_other label labels asked owed may no_answer no_call later below silent same_asked same_owed past told x h k is low told_may = record {
    may = may past;
    shows = subst (Shows code count rules p i past told label labels) (sym (silent (register.seen_of told)) ∙ is) (other_shows past told label labels no_answer no_call later);
    known = rw (same_asked, same_owed) (known_more past asked owed (Seen label) below no_answer k);
  }

  -- A CALL

  module _ (n : ℕ) (q : ClientRequest) (labels : List Label) (asked : List (Option Asked)) (owed : Option NtStatus) (number : n ≡ length asked) (past : List Event) (told : List register.Event)
      (h : Hears past told (Call n q ∷ labels)) (k : Known past asked owed) where
    call_open : IsOpen (Seen (Call n q) ∷ past) n q
    call_open = record {
      called = newest (Seen (Call n q)) past;
      awaits = All-cons (IsNoAnswer n) (Seen (Call n q)) past tt (All-weaker (IsBelow n) (IsNoAnswer n) (below_no_answer n) past (subst (λ m. All (IsBelow m) past) (sym number) k.given));
    }

    call_length : (entry : Option Asked) → length (asked ++ entry ∷ []) ≡ length asked + 1
    call_length entry = length-append asked (entry ∷ [])

    call_known : Known (Seen (Call n q) ∷ past) (asked ++ entry_of (refused rules q) q ∷ []) (refused rules q)
    call_known = record {
      given = let e = call_length (entry_of (refused rules q) q) in
          All-cons (IsBelow (length (asked ++ entry_of (refused rules q) q ∷ []))) (Seen (Call n q)) past (omega arith)
          (All-weaker (IsBelow (length asked)) (IsBelow (length (asked ++ entry_of (refused rules q) q ∷ []))) (below_more (length asked) (length (asked ++ entry_of (refused rules q) q ∷ [])) (omega arith)) past k.given);
      waiting = λ m a has. elim (asked_more asked (entry_of (refused rules q) q) m a has) [
        | inl old ↦ let w = k.waiting m a old in (w.0, open_more (Seen (Call n q)) past m w.0 tt w.1)
        | inr (last, is) ↦ (q, subst (λ v. IsOpen (Seen (Call n q) ∷ past) v q) (number ∙ sym last) call_open)
      ];
      owing = λ status e.
          let long = call_length (entry_of (refused rules q) q) in
          let last : length (asked ++ entry_of (refused rules q) q ∷ []) - 1 ≡ length asked = omega arith in (
            q,
            subst (λ v. IsOpen (Seen (Call n q) ∷ past) v q) (number ∙ sym last) call_open,
            ap (λ v. slice_get (asked ++ entry_of (refused rules q) q ∷ []) v) last ∙ last_entry asked (entry_of (refused rules q) q) ∙ ap Some (ap (λ answer. entry_of answer q) e),
          );
    }

    not_before : (m : ℕ) → n ≡ m → m < length asked → ⊥
    not_before m same low = absurd (omega arith)

    call_none_yet : (m : ℕ) (r : ClientRequest) (sector : List ℕ) → Call n q ≡ Call m r → Contains past (Effect m sector) → ⊥
    call_none_yet m r sector e there = not_before m (call_is e).0 (All-contains (IsBelow (length asked)) past (Effect m sector) k.given there)

    call_first : (m : ℕ) (r s : ClientRequest) → Call n q ≡ Call m r → Contains past (Seen (Call m s)) → ⊥
    call_first m r s e there = not_before m (call_is e).0 (All-contains (IsBelow (length asked)) past (Seen (Call m s)) k.given there)

    call_hidden : (q.kind ≡ Write → has_sector rules p i q ≡ true → ⊥) → ((bytes : List ℕ) → q.kind ≡ Read → has_sector rules p i q ≡ true → success_of n labels ≡ Some bytes → ⊥)
        → Shows code count rules p i past told (Call n q) labels None
    call_hidden no_write no_read = record {
      new_write = λ m v e. cc (e);
      new_read = λ m v e. cc (e);
      goes_on = λ m shown all. tt;
      is_new = λ m y e call. cc (e);
      later = λ m other. refl;
      shows_write = λ m r e is has. let same : q ≡ r = (call_is e).1 in absurd (no_write (ap (λ x. x.kind) same ∙ is) (subst (λ x. has_sector rules p i x ≡ true) (sym same) has));
      shows_read = λ m r bytes e is has success. let same : q ≡ r = (call_is e).1 in
          absurd (no_read bytes (ap (λ x. x.kind) same ∙ is) (subst (λ x. has_sector rules p i x ≡ true) (sym same) has) (subst (λ v. success_of v labels ≡ Some bytes) (sym (call_is e).0) success));
      none_yet = call_none_yet;
      first_call = call_first;
    }

    call_shown : (y : Sight) → is_call_of n y ≡ true → ((m : ℕ) → is_call_of m y ≡ true → n ≡ m) → ((v : ℕ) → y ≡ WriteSight n v → HeardWrite code rules p i (Seen (Call n q) ∷ past) n v)
        → ((v : ℕ) → y ≡ ReadSight n v → HeardRead code count rules p i (Seen (Call n q) ∷ past) labels n v) → Shows code count rules p i past told (Call n q) labels (Some y)
    call_shown y is_call only write read = record {
      new_write = λ m v e. let same : y ≡ WriteSight m v = some_sight e in let number : n ≡ m = only m (ap (is_call_of m) same ∙ equal m) in
          subst (λ z. HeardWrite code rules p i (Seen (Call n q) ∷ past) z v) number (write v (same ∙ ap (λ z. WriteSight z v) (sym number)));
      new_read = λ m v e. let same : y ≡ ReadSight m v = some_sight e in let number : n ≡ m = only m (ap (is_call_of m) same ∙ equal m) in
          subst (λ z. HeardRead code count rules p i (Seen (Call n q) ∷ past) labels z v) number (read v (same ∙ ap (λ z. ReadSight z v) (sym number)));
      goes_on = λ m shown all. tt;
      is_new = λ m z e call. let number : n ≡ m = only m (ap (is_call_of m) (some_sight e) ∙ call) in subst (λ v. All (IsNoAnswer v) (Seen (Call n q) ∷ past)) number call_open.awaits;
      later = λ m other. refl;
      shows_write = λ m r e is has. subst (λ v. IsShown v (register.Seen y ∷ told)) (call_is e).0 (shown_now n y told is_call);
      shows_read = λ m r bytes e is has success. subst (λ v. IsShown v (register.Seen y ∷ told)) (call_is e).0 (shown_now n y told is_call);
      none_yet = call_none_yet;
      first_call = call_first;
    }
      where
        equal : (m : ℕ) → (m == m) ≡ true
        equal m = grind (arith, nat_tests)

    call_write : q.kind ≡ Write → has_sector rules p i q ≡ true → Shows code count rules p i past told (Call n q) labels (Some (WriteSight n (code (bytes_at rules i q q.bytes))))
    call_write is has =
        call_shown (WriteSight n (code (bytes_at rules i q q.bytes))) (equal n) (λ m e. eqb-true n m e)
        (λ v e. let value : code (bytes_at rules i q q.bytes) ≡ v = cc (e) in record { request = q; called = newest (Seen (Call n q)) past; is_write = is; has = has; value = sym value })
        (λ v e. cc (e))
      where
        equal : (m : ℕ) → (m == m) ≡ true
        equal m = grind (arith, nat_tests)

    call_read : q.kind ≡ Read → has_sector rules p i q ≡ true → (bytes : List ℕ) → success_of n labels ≡ Some bytes → code (bytes_at rules i q bytes) < count
        → Shows code count rules p i past told (Call n q) labels (Some (ReadSight n (code (bytes_at rules i q bytes))))
    call_read is has bytes success low =
        call_shown (ReadSight n (code (bytes_at rules i q bytes))) (equal n) (λ m e. eqb-true n m e) (λ v e. cc (e))
        (λ v e. let value : code (bytes_at rules i q bytes) ≡ v = cc (e) in record {
          request = q;
          called = newest (Seen (Call n q)) past;
          is_read = is;
          has = has;
          low = subst (λ m. m < count) value low;
          answer = λ awaits. (bytes, success, sym value);
        })
      where
        equal : (m : ℕ) → (m == m) ≡ true
        equal m = grind (arith, nat_tests)

    call_shows : (x : Option Sight) → (if has_sector rules p i q then call_sight code rules i n q q.kind labels else None) ≡ x → ((y : Sight) → x ≡ Some y → IsReadBelow count y)
        → Shows code count rules p i past told (Call n q) labels x
    call_shows x is low = by_sector (has_sector rules p i q) refl is
      where
        by_answer : q.kind ≡ Read → has_sector rules p i q ≡ true → (answer : Option (List ℕ)) → success_of n labels ≡ answer → read_sight n (value_of code rules i q answer) ≡ x
            → Shows code count rules p i past told (Call n q) labels x
        by_answer is_read has None e f =
            subst (Shows code count rules p i past told (Call n q) labels) f
            (call_hidden (λ is_write has'. let both : Read ≡ Write = sym is_read ∙ is_write in cc (both)) (λ bytes is' has' e'. let both : None ≡ Some bytes = sym e ∙ e' in cc (both)))
        by_answer is_read has (Some bytes) e f =
            subst (Shows code count rules p i past told (Call n q) labels) f
            (call_read is_read has bytes e (low (ReadSight n (code (bytes_at rules i q bytes))) (sym f)))

        by_kind : has_sector rules p i q ≡ true → (kind : Kind) → q.kind ≡ kind → call_sight code rules i n q kind labels ≡ x → Shows code count rules p i past told (Call n q) labels x
        by_kind has Write e f = subst (Shows code count rules p i past told (Call n q) labels) f (call_write e has)
        by_kind has Read e f = by_answer e has (success_of n labels) refl f
        by_kind has Flush e f =
            subst (Shows code count rules p i past told (Call n q) labels) f
            (call_hidden (λ is_write has'. let both : Flush ≡ Write = sym e ∙ is_write in cc (both)) (λ bytes is_read has' e'. let both : Flush ≡ Read = sym e ∙ is_read in cc (both)))

        by_sector : (b : Bool) → has_sector rules p i q ≡ b → (if b then call_sight code rules i n q q.kind labels else None) ≡ x → Shows code count rules p i past told (Call n q) labels x
        by_sector true has f = by_kind has q.kind refl f
        by_sector false has f = subst (Shows code count rules p i past told (Call n q) labels) f (call_hidden (λ is_write has'. cc (has, has')) (λ bytes is_read has' e. cc (has, has')))

  prepare_call : (n : ℕ) (q : ClientRequest) (labels : List Label) (asked : List (Option Asked)) (owed : Option NtStatus) → fits rules asked owed (Call n q) ≡ true → Prepares (Call n q) labels asked owed
  prepare_call n q labels asked owed fit past told x h k is low told_may =
      let tests = and_parts (is_none owed) ((n == length asked) && (length q.bytes == carried (refused rules q) q)) fit in
      let number : n ≡ length asked = eqb-true n (length asked) (and_parts (n == length asked) (length q.bytes == carried (refused rules q) q) tests.1).0 in
      record { may = tt; shows = call_shows n q labels asked owed number past told h k x is low; known = call_known n q labels asked owed number past told h k }

  -- AN ANSWER

  module _ (n : ℕ) (status : NtStatus) (informed : ℕ) (bytes : List ℕ) (labels : List Label) (asked : List (Option Asked)) (owed : Option NtStatus)
      (fit : ends_by asked owed n status informed (length bytes) ≡ true) (past : List Event) (told : List register.Event) (h : Hears past told (Answer n status informed bytes ∷ labels)) (k : Known past asked owed) where
    answers_open : (q : ClientRequest) × IsOpen past n q
    answers_open = by_owed owed fit k
      where
        by_owed : (owed : Option NtStatus) → ends_by asked owed n status informed (length bytes) ≡ true → Known past asked owed → (q : ClientRequest) × IsOpen past n q
        by_owed None f k' = let w = is_waiting (slice_get asked n) status informed (length bytes) f in k'.waiting n w.0 w.1
        by_owed (Some due) f k' =
            let last : n ≡ length asked - 1 = eqb-true n (length asked - 1) (and_parts (n == length asked - 1) _ f).0 in
            let w = k'.owing due refl in (w.0, subst (λ v. IsOpen past v w.0) (sym last) w.1)

    answer_below : n < length asked
    answer_below = All-contains (IsBelow (length asked)) past (Seen (Call n answers_open.0)) k.given answers_open.1.called

    answer_known : Known (Seen (Answer n status informed bytes) ∷ past) (without asked owed n) None
    answer_known = by_owed owed fit k
      where
        by_owed : (owed : Option NtStatus) → ends_by asked owed n status informed (length bytes) ≡ true → Known past asked owed → Known (Seen (Answer n status informed bytes) ∷ past) (without asked owed n) None
        by_owed None f k' = record {
          given = let e = length-set asked n None in rw e (All-cons (IsBelow (length asked)) (Seen (Answer n status informed bytes)) past answer_below k'.given);
          waiting = λ m a has. let kept = set_none asked n m a has in let w = k'.waiting m a kept.1 in
              (w.0, open_more (Seen (Answer n status informed bytes)) past m w.0 (λ e. kept.0 (sym e)) w.1);
          owing = λ due e. cc (e);
        }
        by_owed (Some due) f k' = record {
          given = All-cons (IsBelow (length asked)) (Seen (Answer n status informed bytes)) past answer_below k'.given;
          waiting = λ m a has. let w = k'.waiting m a has in
              (w.0, open_more (Seen (Answer n status informed bytes)) past m w.0 (λ e. other m a has e) w.1);
          owing = λ due' e. cc (e);
        }
          where
            other : (m : ℕ) (a : Asked) → slice_get asked m ≡ Some (Some a) → n ≡ m → ⊥
            other m a has e =
                let last : n ≡ length asked - 1 = eqb-true n (length asked - 1) (and_parts (n == length asked - 1) _ f).0 in
                let none : slice_get asked m ≡ Some None = ap (λ v. slice_get asked v) (sym e ∙ last) ∙ (k'.owing due refl).2 in
                cc (has, none)

    answer_shows : (b : Bool) → list_any (is_call_of n) (register.seen_of told) ≡ b → Shows code count rules p i past told (Answer n status informed bytes) labels (if b then Some (end_of n status) else None)
    answer_shows true shown = record {
      new_write = λ m v e. absurd (end_no_write n m v status (some_sight e));
      new_read = λ m v e. absurd (end_no_read n m v status (some_sight e));
      goes_on = λ m is_shown all. end_is n m status (All-head (register.IsNoEnd m) (register.Seen (end_of n status)) told all);
      is_new = λ m y e call. absurd (end_no_call n m status (ap (is_call_of m) (some_sight e) ∙ call));
      later = λ m other. passed_over n m status informed bytes labels other;
      shows_write = λ m q e is has. cc (e);
      shows_read = λ m q b e is has success. cc (e);
      none_yet = λ m q sector e there. cc (e);
      first_call = λ m q r e there. cc (e);
    }
    answer_shows false hidden = record {
      new_write = λ m v e. cc (e);
      new_read = λ m v e. cc (e);
      goes_on = λ m is_shown all e. let same : list_any (is_call_of n) (register.seen_of told) ≡ true = subst (λ v. IsShown v told) (sym e) is_shown in cc (same, hidden);
      is_new = λ m y e call. cc (e);
      later = λ m other. passed_over n m status informed bytes labels other;
      shows_write = λ m q e is has. cc (e);
      shows_read = λ m q b e is has success. cc (e);
      none_yet = λ m q sector e there. cc (e);
      first_call = λ m q r e there. cc (e);
    }

    -- a request that succeeds, and has the sector, was shown
    was_shown : (q : ClientRequest) → IsOpen past n q → status ≡ Success → (place : ℕ) → IsAt rules p i q place → IsShown n told
    was_shown q is_open success place at = by_kind q.kind refl
      where
        by_kind : (kind : Kind) → q.kind ≡ kind → IsShown n told
        by_kind Write e = h.wrote n q is_open.called e (at_has rules p i q place at)
        by_kind Read e = h.will_read n q bytes is_open.called e (at_has rules p i q place at) is_open.awaits (succeeds_now n status informed bytes labels success)
        by_kind Flush e = let t : is_transfer q.kind ≡ true = at.transfer in absurd (never (sym (ap is_transfer e) ∙ t))
          where
            never : is_transfer Flush ≡ true → ⊥
            never f = cc (f)

    answer_may : (b : Bool) → list_any (is_call_of n) (register.seen_of told) ≡ b → MayTold told (if b then Some (end_of n status) else None) → IsAnswer rules p i past n status bytes
    answer_may b shown may = record {
      request = answers_open.0;
      is_open = answers_open.1;
      effect = λ success place at. took success place at b shown may;
    }
      where
        took : status ≡ Success → (place : ℕ) → IsAt rules p i answers_open.0 place → (b : Bool) → list_any (is_call_of n) (register.seen_of told) ≡ b → MayTold told (if b then Some (end_of n status) else None)
            → TookEffect rules past n answers_open.0 place bytes
        took success place at false hidden may' = let shown' : list_any (is_call_of n) (register.seen_of told) ≡ true = was_shown answers_open.0 answers_open.1 success place at in cc (shown', hidden)
        took success place at true is may' =
            let did : (v : ℕ) × Contains told (register.Effect n v) = subst (λ s. MayTold told (Some (end_of n s))) success may' in
            let found = h.effects n did.0 did.1 in
            record {
              sector = found.0;
              before = found.1;
              hands_over = λ read. ap (λ v. part_of rules bytes v) (sym (place_is rules p i answers_open.0 place at))
                  ∙ h.got n found.0 answers_open.0 bytes found.1 answers_open.1.called read answers_open.1.awaits (succeeds_now n status informed bytes labels success);
            }

  prepare_answer : (n : ℕ) (status : NtStatus) (informed : ℕ) (bytes : List ℕ) (labels : List Label) (asked : List (Option Asked)) (owed : Option NtStatus) → fits rules asked owed (Answer n status informed bytes) ≡ true
      → Prepares (Answer n status informed bytes) labels asked owed
  prepare_answer n status informed bytes labels asked owed fit past told x h k is low told_may = by_shown (list_any (is_call_of n) (register.seen_of told)) refl is
    where
      by_shown : (b : Bool) → list_any (is_call_of n) (register.seen_of told) ≡ b → (if b then Some (end_of n status) else None) ≡ x
          → Prepared past told (Answer n status informed bytes) labels (without asked owed n) None x
      by_shown b shown e = record {
        may = answer_may n status informed bytes labels asked owed fit past told h k b shown (subst (MayTold told) (sym e) told_may);
        shows = subst (Shows code count rules p i past told (Answer n status informed bytes) labels) e (answer_shows n status informed bytes labels asked owed fit past told h k b shown);
        known = answer_known n status informed bytes labels asked owed fit past told h k;
      }

  -- ALL LABELS

  schedules : (labels : List Label) → Schedules labels
  schedules [] = λ past told rest asked owed h recorded k fit c low e. ([], tt, refl)
  schedules (Call n q ∷ labels) = on_label (Call n q) labels (λ asked owed fit. prepare_call n q labels asked owed fit) (schedules labels)
  schedules (Answer n status informed bytes ∷ labels) = on_label (Answer n status informed bytes) labels (λ asked owed fit. prepare_answer n status informed bytes labels asked owed fit) (schedules labels)
  schedules (Device label ∷ labels) =
      on_label (Device label) labels (λ asked owed fit. prepare_other (Device label) labels asked owed (λ past. tt) (λ n. tt) (λ n q e. cc (e)) (λ n. refl) tt (λ sights. refl) refl refl) (schedules labels)
  schedules (Cancel number ∷ labels) =
      on_label (Cancel number) labels (λ asked owed fit. prepare_other (Cancel number) labels asked owed (λ past. tt) (λ n. tt) (λ n q e. cc (e)) (λ n. refl) tt (λ sights. refl) refl refl) (schedules labels)
  schedules (Pause ∷ labels) = on_label Pause labels (λ asked owed fit. prepare_other Pause labels asked owed (λ past. tt) (λ n. tt) (λ n q e. cc (e)) (λ n. refl) tt (λ sights. refl) refl refl) (schedules labels)
  schedules (Resume ∷ labels) = on_label Resume labels (λ asked owed fit. prepare_other Resume labels asked owed (λ past. tt) (λ n. tt) (λ n q e. cc (e)) (λ n. refl) tt (λ sights. refl) refl refl) (schedules labels)
  schedules (Remove ∷ labels) = on_label Remove labels (λ asked owed fit. prepare_other Remove labels asked owed (λ past. tt) (λ n. tt) (λ n q e. cc (e)) (λ n. refl) tt (λ sights. refl) refl refl) (schedules labels)
  schedules (Surprise ∷ labels) = on_label Surprise labels (λ asked owed fit. prepare_other Surprise labels asked owed (λ past. tt) (λ n. tt) (λ n q e. cc (e)) (λ n. refl) tt (λ sights. refl) refl refl) (schedules labels)
  schedules (Removed ∷ labels) = on_label Removed labels (λ asked owed fit. prepare_other Removed labels asked owed (λ past. tt) (λ n. tt) (λ n q e. cc (e)) (λ n. refl) tt (λ sights. refl) refl refl) (schedules labels)

  nothing_heard : (labels : List Label) → Hears [] [] labels
  nothing_heard labels = record {
    value = refl;
    writes = λ n v there. absurd (nothing there);
    reads = λ n v there. absurd (nothing there);
    waits = λ n shown all. All-nil (IsNoAnswer n);
    once = λ n all. All-nil (IsNoEffect n);
    effects = λ n v there. absurd (nothing there);
    wrote = λ n q there is has. absurd (nothing there);
    will_read = λ n q bytes there is has awaits e. absurd (nothing there);
    got = λ n sector q bytes there called is awaits e. absurd (nothing there);
    one_call = λ n q r a b. absurd (nothing a);
  }
    where
      nothing : {X : Type 0} {x : X} → Contains [] x → ⊥
      nothing (k, low, is) = absurd (omega arith)

  nothing_known : Known [] (None ∷ []) None
  nothing_known = record { given = All-nil (IsBelow 1); waiting = λ n a e. absurd (none n a e); owing = λ status e. cc (e) }
    where
      none : (n : ℕ) (a : Asked) → slice_get (None ∷ []) n ≡ Some (Some a) → ⊥
      none zero a e = cc (e)
      none (suc n) a e = cc (e)

pub shown_scheduled : ShownAreScheduled
shown_scheduled code count rules p i start history tells fit low recorded h =
    let all = turned (code start) h.events [] h.in_turn tt in
    let same : sights_in all.0 ≡ sights_of code rules p i [] history = all.2 ∙ append-nil (register.seen_of h.events) ∙ h.seen in
    let found = schedules code count tells rules p i start history [] [] all.0 (None ∷ []) None (nothing_heard code count tells rules p i start history) (All-nil IsRecorded) (nothing_known code count tells rules p i start) fit all.1
    (subst (All (IsKnown count)) (sym same) (both_known count (sights_of code rules p i [] history) low recorded)) (sym same) in
    record { events = found.0; in_turn = found.1; seen = found.2 }
