-- Where labels fit, calls count up, and a request is answered once in a session.
use Rattle.std.proofs.Common.{◌≡◌, inl, inr, ℕ, zero, suc, ◌+◌, ◌-◌, ◌==◌, ◌&&◌, Bool, true, false, List, [], ◌∷◌, ◌++◌, Option, Some, None, refl, sym, ◌∙◌, ap, subst, arith, length, length-append, set}
use Rattle.std.specs.Prelude.{is_none, slice_get, if◌then◌else◌}
use Rattle.std.proofs.lemmas.Bool.{and_parts, eqb-true}
use Rattle.std.proofs.lemmas.List.{length-set}
use Rattle.ntstatus.specs.declared.NtStatus.{NtStatus}
use Rattle.machine.specs.declared.ClientRequest.{ClientRequest}
use Rattle.machine.specs.declared.Label.TheVariants.{Call, Device, Answer, Cancel, Pause, Resume, Remove, Surprise, Removed}
use Rattle.machine.specs.Rules.{Rules}
use Rattle.history_laws.specs.declared.Asked.{Asked}
use Rattle.history_laws.specs.Fitting.{asked_after, carried, ends_by, ends_open, entry_of, fits, owed_after, refused, without}
use Rattle.loss.specs.Sessions.{Line, Told, Lost, Ended}
use Rattle.loss.specs.Held.{IsOneOf}
use Rattle.history_loss_fits.specs.Laws.{labels_fit}

-- calls count up from this number, and no answer comes of these any more
abbrev pub IsCounted : ℕ → List ℕ → List Line → Type 0
IsCounted next done [] = Unit {0}
IsCounted next done (Lost ∷ lines) = IsCounted 1 [] lines
IsCounted next done (Ended ∷ lines) = IsCounted 1 [] lines
IsCounted next done (Told (Call n q) ∷ lines) = (n ≡ next) × IsCounted (next + 1) done lines
IsCounted next done (Told (Answer n status informed bytes) ∷ lines) = (IsOneOf n done → ⊥) × IsCounted next (n ∷ done) lines
IsCounted next done (Told _ ∷ lines) = IsCounted next done lines

fit_parts : (b rest : Bool) → (if b then rest else false) ≡ true → (b ≡ true) × (rest ≡ true)
fit_parts true rest e = (refl, e)
fit_parts false rest e = absurd (cc (e))

-- ENTRIES

get_more : (asked : List (Option Asked)) (x y : Option Asked) (m : ℕ) → slice_get asked m ≡ Some y → slice_get (asked ++ x ∷ []) m ≡ Some y
get_more [] x y m e = absurd (cc (e))
get_more (a ∷ asked) x y zero e = e
get_more (a ∷ asked) x y (suc m) e = get_more asked x y m e

get_last : (asked : List (Option Asked)) (x : Option Asked) → slice_get (asked ++ x ∷ []) (length asked) ≡ Some x
get_last [] x = refl
get_last (a ∷ asked) x = get_last asked x

none_last : (asked : List (Option Asked)) (y : Option Asked) → slice_get asked (length asked) ≡ Some y → ⊥
none_last [] y e = cc (e)
none_last (a ∷ asked) y e = none_last asked y e

set_keeps : (asked : List (Option Asked)) (n m : ℕ) → slice_get asked m ≡ Some None → slice_get (set asked n None) m ≡ Some None
set_keeps [] n m e = absurd (cc (e))
set_keeps (a ∷ asked) zero zero e = refl
set_keeps (a ∷ asked) zero (suc m) e = e
set_keeps (a ∷ asked) (suc n) zero e = e
set_keeps (a ∷ asked) (suc n) (suc m) e = set_keeps asked n m e

set_here : (asked : List (Option Asked)) (n : ℕ) (y : Option Asked) → slice_get asked n ≡ Some y → slice_get (set asked n None) n ≡ Some None
set_here [] n y e = absurd (cc (e))
set_here (a ∷ asked) zero y e = refl
set_here (a ∷ asked) (suc n) y e = set_here asked n y e

is_waiting : (found : Option (Option Asked)) (status : NtStatus) (informed count : ℕ) → ends_open found status informed count ≡ true → (a : Asked) × (found ≡ Some (Some a))
is_waiting (Some (Some a)) status informed count e = (a, refl)
is_waiting (Some None) status informed count e = absurd (cc (e))
is_waiting None status informed count e = absurd (cc (e))

none_is : (owed : Option NtStatus) → is_none owed ≡ true → owed ≡ None
none_is None e = refl
none_is (Some status) e = absurd (cc (e))

-- what was answered awaits nothing
record Shut (asked : List (Option Asked)) (owed : Option NtStatus) (done : List ℕ) : Type 0 where
  closed : (m : ℕ) → IsOneOf m done → slice_get asked m ≡ Some None
  refusal : (status : NtStatus) → owed ≡ Some status → slice_get asked (length asked - 1) ≡ Some None
  other : (status : NtStatus) → owed ≡ Some status → (m : ℕ) → IsOneOf m done → m ≡ length asked - 1 → ⊥

shut_first : Shut (None ∷ []) None []
shut_first = record { closed = λ m h. absurd h; refusal = λ status e. absurd (cc (e)); other = λ status e m h is. h }

shut_call : (asked : List (Option Asked)) (done : List ℕ) (answer : Option NtStatus) (q : ClientRequest) → Shut asked None done → Shut (asked ++ entry_of answer q ∷ []) answer done
shut_call asked done answer q s = record {
  closed = λ m h. get_more asked (entry_of answer q) None m (s.closed m h);
  refusal = λ status e. ap (λ k. slice_get (asked ++ entry_of answer q ∷ []) k) last ∙ get_last asked (entry_of answer q) ∙ ap (λ x. Some (entry_of x q)) e;
  other = λ status e m h is. none_last asked None (sym (ap (λ k. slice_get asked k) (is ∙ last)) ∙ s.closed m h);
}
  where
    last : length (asked ++ entry_of answer q ∷ []) - 1 ≡ length asked
    last = let e : length (asked ++ entry_of answer q ∷ []) ≡ length asked + 1 = length-append asked (entry_of answer q ∷ []) in omega (arith, e)

module _ (asked : List (Option Asked)) (done : List ℕ) (n : ℕ) (status : NtStatus) (informed count : ℕ) where
  fresh : (owed : Option NtStatus) → ends_by asked owed n status informed count ≡ true → Shut asked owed done → IsOneOf n done → ⊥
  fresh None f s h = let w : (a : Asked) × (slice_get asked n ≡ Some (Some a)) = is_waiting (slice_get asked n) status informed count f in let none = s.closed n h in let some = w.1 in cc (none, some)
  fresh (Some due) f s h = s.other due refl n h (eqb-true n (length asked - 1) (and_parts (n == length asked - 1) _ f).0)

  shut_answer : (owed : Option NtStatus) → ends_by asked owed n status informed count ≡ true → Shut asked owed done → Shut (without asked owed n) None (n ∷ done)
  shut_answer None f s = record {
    closed = closed;
    refusal = λ due e. absurd (cc (e));
    other = λ due e m h is. absurd (cc (e));
  }
    where
      closed : (m : ℕ) → IsOneOf m (n ∷ done) → slice_get (set asked n None) m ≡ Some None
      closed m (inl e) = let w : (a : Asked) × (slice_get asked n ≡ Some (Some a)) = is_waiting (slice_get asked n) status informed count f in
          subst (λ k. slice_get (set asked n None) k ≡ Some None) (sym e) (set_here asked n (Some w.0) w.1)
      closed m (inr h) = set_keeps asked n m (s.closed m h)
  shut_answer (Some due) f s = record {
    closed = closed;
    refusal = λ next e. absurd (cc (e));
    other = λ next e m h is. absurd (cc (e));
  }
    where
      closed : (m : ℕ) → IsOneOf m (n ∷ done) → slice_get asked m ≡ Some None
      closed m (inl e) = let last : n ≡ length asked - 1 = eqb-true n (length asked - 1) (and_parts (n == length asked - 1) _ f).0 in
          subst (λ k. slice_get asked k ≡ Some None) (sym (e ∙ last)) (s.refusal due refl)
      closed m (inr h) = s.closed m h

same_length : (asked : List (Option Asked)) (owed : Option NtStatus) (n : ℕ) → length (without asked owed n) ≡ length asked
same_length asked None n = length-set asked n None
same_length asked (Some status) n = refl

counted : (rules : Rules) (lines : List Line) (asked : List (Option Asked)) (owed : Option NtStatus) (done : List ℕ) → Shut asked owed done → labels_fit rules asked owed lines ≡ true → IsCounted (length asked) done lines
counted rules [] asked owed done s fit = tt
counted rules (Lost ∷ lines) asked owed done s fit = counted rules lines (None ∷ []) None [] shut_first fit
counted rules (Ended ∷ lines) asked owed done s fit = counted rules lines (None ∷ []) None [] shut_first fit
counted rules (Told (Call n q) ∷ lines) asked owed done s fit =
    let parts : (fits rules asked owed (Call n q) ≡ true) × (labels_fit rules (asked_after rules asked owed (Call n q)) (owed_after rules owed (Call n q)) lines ≡ true) =
    fit_parts (fits rules asked owed (Call n q)) (labels_fit rules (asked_after rules asked owed (Call n q)) (owed_after rules owed (Call n q)) lines) fit in
    let tests : _ × _ = and_parts (is_none owed) ((n == length asked) && (length q.bytes == carried (refused rules q) q)) parts.0 in (
      eqb-true n (length asked) (and_parts (n == length asked) (length q.bytes == carried (refused rules q) q) tests.1).0,
      subst (λ k. IsCounted k done lines) (length-append asked (entry_of (refused rules q) q ∷ []))
          (counted rules lines (asked ++ entry_of (refused rules q) q ∷ []) (refused rules q) done (shut_call asked done (refused rules q) q (subst (λ x. Shut asked x done) (none_is owed tests.0) s)) parts.1),
    )
counted rules (Told (Answer n status informed bytes) ∷ lines) asked owed done s fit =
    let parts : (fits rules asked owed (Answer n status informed bytes) ≡ true) × (labels_fit rules (without asked owed n) None lines ≡ true) =
    fit_parts (fits rules asked owed (Answer n status informed bytes)) (labels_fit rules (without asked owed n) None lines) fit in (
      fresh asked done n status informed (length bytes) owed parts.0 s,
      subst (λ k. IsCounted k (n ∷ done) lines) (same_length asked owed n) (counted rules lines (without asked owed n) None (n ∷ done) (shut_answer asked done n status informed (length bytes) owed parts.0 s) parts.1),
    )
counted rules (Told (Device label) ∷ lines) asked owed done s fit = counted rules lines asked owed done s fit
counted rules (Told (Cancel n) ∷ lines) asked owed done s fit = counted rules lines asked owed done s fit
counted rules (Told Pause ∷ lines) asked owed done s fit = counted rules lines asked owed done s fit
counted rules (Told Resume ∷ lines) asked owed done s fit = counted rules lines asked owed done s fit
counted rules (Told Remove ∷ lines) asked owed done s fit = counted rules lines asked owed done s fit
counted rules (Told Surprise ∷ lines) asked owed done s fit = counted rules lines asked owed done s fit
counted rules (Told Removed ∷ lines) asked owed done s fit = counted rules lines asked owed done s fit

pub fitting_counted : (rules : Rules) (lines : List Line) → labels_fit rules (None ∷ []) None lines ≡ true → IsCounted 1 [] lines
fitting_counted rules lines fit = counted rules lines (None ∷ []) None [] shut_first fit
