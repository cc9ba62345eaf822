-- Which requests are open.
use Rattle.std.proofs.Common.{◌≡◌, ◌<◌, ◌⊎◌, inl, inr, ℕ, zero, suc, ◌+◌, ◌-◌, ◌==◌, ◌&&◌, Bool, true, false, List, [], ◌∷◌, ◌++◌, Option, Some, None, refl, sym, ◌∙◌, ap, subst, arith, length, length-append, set}
use Rattle.std.specs.Prelude.{is_none, option_map, slice_get}
use Rattle.std.specs.declared.cmp.Ordering.{Ordering}
use Rattle.std.specs.declared.cmp.Ordering.TheVariants.{Less, Equal, Greater}
use Rattle.std.specs.Ordering.{is_eq, nat_cmp}
use Rattle.std.specs.BTreeMap.{BTreeMap, is_at}
use Rattle.std.specs.Map.{lookup}
use Rattle.std.proofs.lemmas.Map.Lookups.{exact_unsigned}
use Rattle.std.proofs.lemmas.Bool.{and_parts, eqb-true}
use Rattle.std.proofs.lemmas.Option.{slice_get_past}
use Rattle.std.proofs.lemmas.List.{length-set}
use Rattle.ntstatus.specs.declared.NtStatus.{NtStatus}
use Rattle.ntstatus.specs.declared.NtStatus.TheVariants.{Success}
use Rattle.ntstatus.specs.Codes.{value_of}
use Rattle.machine.specs.declared.ClientRequest.{ClientRequest}
use Rattle.machine.specs.declared.Label.{Label}
use Rattle.machine.specs.declared.Label.TheVariants.{Call, Device, Answer, Cancel, Pause, Resume, Remove, Surprise, Removed}
use Rattle.machine.specs.Rules.{Rules}
use Rattle.history_laws.specs.declared.Asked.{Asked}
use Rattle.history_laws.specs.Fitting.{asked_of, carried, ends, ends_open, ends_by, fits, refused, entry_of, without, asked_after, owed_after}
use Rattle.history.specs.Gaps.{has_none, brought_by, due_by, fits_blank, fits_by}
use Rattle.history_fitting.specs.declared.fitting.Known.{Known}
use Rattle.history_fitting.specs.Opened.{opened_at, ends_request, may_end, may_come, brought_to, due, may_come_blank, may_come_by, Puts, PutsCall, PutsAnswer, Takes, flat, AreOpen}

-- LISTS

get_before : {X : Type 0} (xs ys : List X) (m : ℕ) → m < length xs → slice_get (xs ++ ys) m ≡ slice_get xs m
get_before [] ys m low = absurd (omega arith)
get_before (x ∷ xs) ys zero low = refl
get_before (x ∷ xs) ys (suc m) low = get_before xs ys m (omega arith)

get_last : {X : Type 0} (xs : List X) (x : X) → slice_get (xs ++ x ∷ []) (length xs) ≡ Some x
get_last [] x = refl
get_last (y ∷ xs) x = get_last xs x

get_other : {X : Type 0} (xs : List X) (n m : ℕ) (x : X) → (m ≡ n → ⊥) → slice_get (set xs n x) m ≡ slice_get xs m
get_other [] n m x differ = refl
get_other (y ∷ xs) zero zero x differ = absurd (differ refl)
get_other (y ∷ xs) zero (suc m) x differ = refl
get_other (y ∷ xs) (suc n) zero x differ = refl
get_other (y ∷ xs) (suc n) (suc m) x differ = get_other xs n m x (λ same. differ (ap suc same))

emptied : (asked : List (Option Asked)) (n : ℕ) → flat (slice_get (set asked n None) n) ≡ None
emptied [] n = refl
emptied (a ∷ asked) zero = refl
emptied (a ∷ asked) (suc n) = emptied asked n

order : (a b : ℕ) → (a < b) ⊎ ((a ≡ b) ⊎ (b < a))
order a b = grind arith

alike : (a b : ℕ) → (a ≡ b) ⊎ (a ≡ b → ⊥)
alike a b = grind arith

pub none_of : {X Y : Type 0} (f : X → Y) (x : Option X) → option_map f x ≡ None → x ≡ None
none_of f None h = refl
none_of f (Some x) h = absurd (cc (h))

-- MAPS

-- another number isn't found at this one
pub not_number : (n m : ℕ) → (m ≡ n → ⊥) → is_at (nat_cmp n) m ≡ false
not_number n m differ = by (nat_cmp n m) refl
  where
    by : (o : Ordering) → nat_cmp n m ≡ o → is_eq o ≡ false
    by Less e = refl
    by Greater e = refl
    by Equal e = absurd (differ (sym (exact_unsigned n m e)))

pub nothing_open : (opened : BTreeMap ℕ ClientRequest) → opened.entries ≡ [] → (n : ℕ) → opened_at opened n ≡ None
nothing_open opened none n = ap (lookup (is_at (nat_cmp n))) none

pub puts_by : (old new : BTreeMap ℕ ClientRequest) (n : ℕ) (found : Option ClientRequest) → opened_at new n ≡ found → ((m : ℕ) → is_at (nat_cmp n) m ≡ false → opened_at new m ≡ opened_at old m) → Puts old n found new
puts_by old new n found here others = record { here = here; others = λ m differ. others m (not_number n m differ) }

-- WHAT MAY COME

abbrev ends_flat : Option Asked → NtStatus → ℕ → ℕ → Bool
ends_flat None status informed count = false
ends_flat (Some asked) status informed count = ends asked status informed count

request_is : (q : Option ClientRequest) (status : NtStatus) (informed count : ℕ) → ends_request q status informed count ≡ ends_flat (option_map asked_of q) status informed count
request_is None status informed count = refl
request_is (Some q) status informed count = refl

open_is : (asked : Option (Option Asked)) (status : NtStatus) (informed count : ℕ) → ends_open asked status informed count ≡ ends_flat (flat asked) status informed count
open_is None status informed count = refl
open_is (Some None) status informed count = refl
open_is (Some (Some asked)) status informed count = refl

-- and as many bytes are due
abbrev brought_flat : Option Asked → NtStatus → ℕ
brought_flat None status = 0
brought_flat (Some asked) status = brought_by (Some (Some asked)) status

brought_request : (q : Option ClientRequest) (status : NtStatus) → brought_to q status ≡ brought_flat (option_map asked_of q) status
brought_request None status = refl
brought_request (Some q) Success = refl
brought_request (Some q) _ = refl

brought_open : (asked : Option (Option Asked)) (status : NtStatus) → brought_by asked status ≡ brought_flat (flat asked) status
brought_open None status = refl
brought_open (Some None) status = refl
brought_open (Some (Some asked)) status = refl

brought_is : (q : Option ClientRequest) (asked : Option (Option Asked)) (status : NtStatus) → option_map asked_of q ≡ flat asked → brought_to q status ≡ brought_by asked status
brought_is q asked status same = brought_request q status ∙ ap (λ x. brought_flat x status) same ∙ sym (brought_open asked status)

module _ (rules : Rules) (asked : List (Option Asked)) (known : Known) (a : AreOpen asked known) where
  end_is : (owed : Option NtStatus) (n : ℕ) (status : NtStatus) (informed count : ℕ) → may_end known owed n status informed count ≡ ends_by asked owed n status informed count
  end_is None n status informed count =
      request_is (opened_at known.opened n) status informed count ∙ ap (λ x. ends_flat x status informed count) (sym (a.is n)) ∙ sym (open_is (slice_get asked n) status informed count)
  end_is (Some owed) n status informed count =
      let e : known.calls ≡ length asked - 1 = (let c = a.count in omega arith) in
      ap (λ k. (n == k) && ((value_of status == value_of owed) && ((informed == 0) && (count == 0)))) e

  pub comes_is : (label : Label) → may_come rules known label ≡ fits rules asked known.owed label
  comes_is (Call n q) =
      let e : known.calls + 1 ≡ length asked = (let c = a.count in omega arith) in
      ap (λ k. is_none known.owed && ((n == k) && (length q.bytes == carried (refused rules q) q))) e
  comes_is (Answer n status informed bytes) = end_is known.owed n status informed (length bytes)
  comes_is (Device label) = refl
  comes_is (Cancel n) = refl
  comes_is Pause = refl
  comes_is Resume = refl
  comes_is Remove = refl
  comes_is Surprise = refl
  comes_is Removed = refl

  due_is : (owed : Option NtStatus) (n : ℕ) (status : NtStatus) → due known owed n status ≡ due_by asked owed n status
  due_is None n status = brought_is (opened_at known.opened n) (slice_get asked n) status (sym (a.is n))
  due_is (Some owed) n status = refl

  blank_is : (label : Label) → may_come_blank known label ≡ has_none label && fits_blank rules asked known.owed label
  blank_is (Call n q) =
      let e : known.calls + 1 ≡ length asked = (let c = a.count in omega arith) in
      ap (λ k. (length q.bytes == 0) && (is_none known.owed && (n == k))) e
  blank_is (Answer n status informed bytes) =
      ap (λ count. (length bytes == 0) && may_end known known.owed n status informed count) (due_is known.owed n status)
      ∙ ap (λ b. (length bytes == 0) && b) (end_is known.owed n status informed (due_by asked known.owed n status))
  blank_is (Device label) = refl
  blank_is (Cancel n) = refl
  blank_is Pause = refl
  blank_is Resume = refl
  blank_is Remove = refl
  blank_is Surprise = refl
  blank_is Removed = refl

  pub comes_by : (gap : Bool) (label : Label) → may_come_by gap rules known label ≡ fits_by gap rules asked known.owed label
  comes_by false label = comes_is label
  comes_by true label = blank_is label

-- no request that is to come is open
pub opened_past : (known : Known) (asked : List (Option Asked)) → AreOpen asked known → (n : ℕ) → known.calls < n → opened_at known.opened n ≡ None
opened_past known asked a n high = none_of asked_of (opened_at known.opened n) (sym (a.is n) ∙ ap flat (slice_get_past asked n (let c = a.count in omega (arith, c, high))))

-- ONE LABEL MORE

pub call_is_next : (rules : Rules) (known : Known) (n : ℕ) (q : ClientRequest) → may_come rules known (Call n q) ≡ true → n ≡ known.calls + 1
call_is_next rules known n q can = eqb-true n (known.calls + 1) (and_parts _ _ (and_parts _ _ can).1).0

-- a call has the next number
abbrev IsNext : Known → Label → Type 0
IsNext known (Call n q) = n ≡ known.calls + 1
IsNext known _ = Unit {0}

comes_next : (rules : Rules) (known : Known) (label : Label) → may_come rules known label ≡ true → IsNext known label
comes_next rules known (Call n q) can = call_is_next rules known n q can
comes_next rules known (Answer n status informed bytes) can = tt
comes_next rules known (Device label) can = tt
comes_next rules known (Cancel n) can = tt
comes_next rules known Pause can = tt
comes_next rules known Resume can = tt
comes_next rules known Remove can = tt
comes_next rules known Surprise can = tt
comes_next rules known Removed can = tt

blank_comes_next : (known : Known) (label : Label) → may_come_blank known label ≡ true → IsNext known label
blank_comes_next known (Call n q) can = eqb-true n (known.calls + 1) (and_parts _ _ (and_parts _ _ can).1).1
blank_comes_next known (Answer n status informed bytes) can = tt
blank_comes_next known (Device label) can = tt
blank_comes_next known (Cancel n) can = tt
blank_comes_next known Pause can = tt
blank_comes_next known Resume can = tt
blank_comes_next known Remove can = tt
blank_comes_next known Surprise can = tt
blank_comes_next known Removed can = tt

module _ (rules : Rules) (asked : List (Option Asked)) (old new : Known) (a : AreOpen asked old) where
  call_open : (n : ℕ) (q : ClientRequest) (r : Option NtStatus) → n ≡ old.calls + 1 → new.calls ≡ n → new.owed ≡ r → PutsCall r old.opened n q new.opened → AreOpen (asked ++ entry_of r q ∷ []) new
  call_open n q r next calls owed puts = record {
    count = let e : length (asked ++ entry_of r q ∷ []) ≡ length asked + 1 = length-append asked (entry_of r q ∷ []) in let c = a.count in omega (arith, e, c, calls, next);
    is = λ m. by_order m (order m (length asked));
    owing = λ status is. by_owed r owed puts status is;
  }
    where
      at_end : n ≡ length asked
      at_end = let c = a.count in omega (arith, c, next)

      same_at : (r : Option NtStatus) → PutsCall r old.opened n q new.opened → (m : ℕ) → (m ≡ n → ⊥) → opened_at new.opened m ≡ opened_at old.opened m
      same_at None puts m differ = puts.others m differ
      same_at (Some status) puts m differ = ap (λ o. opened_at o m) puts

      here : (r : Option NtStatus) → PutsCall r old.opened n q new.opened → entry_of r q ≡ option_map asked_of (opened_at new.opened n)
      here None puts = sym (ap (option_map asked_of) puts.here)
      here (Some status) puts = sym (ap (λ o. option_map asked_of (opened_at o n)) puts ∙ ap (option_map asked_of) (opened_past old asked a n (omega (arith, next))))

      by_order : (m : ℕ) → (m < length asked) ⊎ ((m ≡ length asked) ⊎ (length asked < m)) → flat (slice_get (asked ++ entry_of r q ∷ []) m) ≡ option_map asked_of (opened_at new.opened m)
      by_order m (inl low) =
          ap flat (get_before asked (entry_of r q ∷ []) m low) ∙ a.is m ∙ sym (ap (option_map asked_of) (same_at r puts m (λ same. absurd (omega (arith, same, at_end, low)))))
      by_order m (inr (inl same)) =
          ap (λ k. flat (slice_get (asked ++ entry_of r q ∷ []) k)) same ∙ ap flat (get_last asked (entry_of r q)) ∙ here r puts
          ∙ ap (λ k. option_map asked_of (opened_at new.opened k)) (at_end ∙ sym same)
      by_order m (inr (inr high)) =
          let longer : length (asked ++ entry_of r q ∷ []) ≡ length asked + 1 = length-append asked (entry_of r q ∷ []) in
          ap flat (slice_get_past (asked ++ entry_of r q ∷ []) m (omega (arith, longer, high)))
          ∙ sym (ap (option_map asked_of) (same_at r puts m (λ same. absurd (omega (arith, same, at_end, high))) ∙ opened_past old asked a m (let c = a.count in omega (arith, c, high))))

      by_owed : (r : Option NtStatus) → new.owed ≡ r → PutsCall r old.opened n q new.opened → (status : NtStatus) → new.owed ≡ Some status → opened_at new.opened new.calls ≡ None
      by_owed None e puts status is = absurd (cc (sym e ∙ is))
      by_owed (Some s) e puts status is =
          ap (opened_at new.opened) calls ∙ ap (λ o. opened_at o n) puts ∙ opened_past old asked a n (omega (arith, next))

  answer_open : (n : ℕ) (owed : Option NtStatus) → new.calls ≡ old.calls → new.owed ≡ None → PutsAnswer owed old.opened n new.opened → AreOpen (without asked owed n) new
  answer_open n None calls none puts = record {
    count = let e : length (set asked n None) ≡ length asked = length-set asked n None in let c = a.count in omega (arith, e, c, calls);
    is = λ m. by_number m (alike m n);
    owing = λ status is. absurd (cc (sym none ∙ is));
  }
    where
      by_number : (m : ℕ) → (m ≡ n) ⊎ (m ≡ n → ⊥) → flat (slice_get (set asked n None) m) ≡ option_map asked_of (opened_at new.opened m)
      by_number m (inl same) =
          ap (λ k. flat (slice_get (set asked n None) k)) same ∙ emptied asked n ∙ sym (ap (λ k. option_map asked_of (opened_at new.opened k)) same ∙ ap (option_map asked_of) puts.here)
      by_number m (inr differ) = ap flat (get_other asked n m None differ) ∙ a.is m ∙ sym (ap (option_map asked_of) (puts.others m differ))
  answer_open n (Some owed) calls none puts = record {
    count = let c = a.count in omega (arith, c, calls);
    is = λ m. a.is m ∙ sym (ap (λ o. option_map asked_of (opened_at o m)) puts);
    owing = λ status is. absurd (cc (sym none ∙ is));
  }

  open_behind : (label : Label) → IsNext old label → Takes rules old label new → AreOpen (asked_after rules asked old.owed label) new
  open_behind (Call n q) next takes = call_open n q (refused rules q) next takes.0 takes.1 takes.2
  open_behind (Answer n status informed bytes) next takes = answer_open n old.owed takes.0 takes.1 takes.2
  open_behind (Device label) next is = subst (AreOpen asked) (sym is) a
  open_behind (Cancel n) next is = subst (AreOpen asked) (sym is) a
  open_behind Pause next is = subst (AreOpen asked) (sym is) a
  open_behind Resume next is = subst (AreOpen asked) (sym is) a
  open_behind Remove next is = subst (AreOpen asked) (sym is) a
  open_behind Surprise next is = subst (AreOpen asked) (sym is) a
  open_behind Removed next is = subst (AreOpen asked) (sym is) a

  pub open_next : (label : Label) → may_come rules old label ≡ true → Takes rules old label new → AreOpen (asked_after rules asked old.owed label) new
  open_next label can takes = open_behind label (comes_next rules old label can) takes

  pub open_next_by : (gap : Bool) (label : Label) → may_come_by gap rules old label ≡ true → Takes rules old label new → AreOpen (asked_after rules asked old.owed label) new
  open_next_by false label can takes = open_next label can takes
  open_next_by true label can takes = open_behind label (blank_comes_next old label can) takes

pub owed_next : (rules : Rules) (old new : Known) (label : Label) → Takes rules old label new → new.owed ≡ owed_after rules old.owed label
owed_next rules old new (Call n q) takes = takes.1
owed_next rules old new (Answer n status informed bytes) takes = takes.1
owed_next rules old new (Device label) is = ap (λ k. k.owed) is
owed_next rules old new (Cancel n) is = ap (λ k. k.owed) is
owed_next rules old new Pause is = ap (λ k. k.owed) is
owed_next rules old new Resume is = ap (λ k. k.owed) is
owed_next rules old new Remove is = ap (λ k. k.owed) is
owed_next rules old new Surprise is = ap (λ k. k.owed) is
owed_next rules old new Removed is = ap (λ k. k.owed) is

-- nothing is open before the first label
pub open_first : (known : Known) → known.calls ≡ 0 → known.owed ≡ None → ((n : ℕ) → opened_at known.opened n ≡ None) → AreOpen (None ∷ []) known
open_first known calls owed none = record {
  count = ap suc (sym calls);
  is = λ m. by_number m ∙ sym (ap (option_map asked_of) (none m));
  owing = λ status is. none known.calls;
}
  where
    by_number : (m : ℕ) → flat (slice_get (None ∷ []) m) ≡ None
    by_number zero = refl
    by_number (suc m) = refl
