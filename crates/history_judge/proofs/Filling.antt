-- What labels do to what waits.
use Rattle.std.proofs.Common.{◌≡◌, ℕ, ◌==◌, ◌||◌, Bool, true, false, List, [], ◌∷◌, ◌++◌, inl, inr, Option, Some, None, refl, sym, ◌∙◌, ap, subst, append_assoc, eq-eqb}
use Rattle.std.specs.Prelude.{option_map, if◌then◌else◌}
use Rattle.std.specs.List.{list_any}
use Rattle.std.proofs.lemmas.Bool.{cases_Bool, eqb-true}
use Rattle.std.proofs.lemmas.List.Folds.{list_any-append}
use Rattle.ntstatus.specs.declared.NtStatus.{NtStatus}
use Rattle.srb.specs.declared.Kind.{Kind}
use Rattle.srb.specs.declared.Kind.TheVariants.{Read, Write, Flush}
use Rattle.machine.specs.declared.ClientRequest.{ClientRequest}
use Rattle.machine.specs.declared.Label.{Label}
use Rattle.machine.specs.declared.Label.TheVariants.{Call, Device, Answer, Cancel, Pause, Resume, Remove, Surprise, Removed}
use Rattle.machine.specs.Rules.{Rules}
use Rattle.register.specs.Values.{code}
use Rattle.register.specs.declared.Sight.{Sight}
use Rattle.history.specs.declared.Wait.{Wait}
use Rattle.history.specs.declared.Wait.TheVariants.{Known, Awaits}
use Rattle.history.specs.Sights.{has_sector, success_bytes, is_call_of, end_of}
use Rattle.history.specs.Waits.{read_by, with_wait, fill, is_wait_of, ended, called, step}
use Rattle.history_judge.specs.inside.Cells.{all_known, is_write, is_read, with_last, call_wait, read_end, answer_left, label_left, is_awaited, IsToldOf}

-- NUMBERS

pub apart : (a b : ℕ) → (a ≡ b → ⊥) → (a == b) ≡ false
apart a b differ = elim (cases_Bool (a == b)) [
  | inl same ↦ absurd (differ (eqb-true a b same))
  | inr other ↦ other
]

same_number : (a b : ℕ) → (a == b) ≡ true → (b == a) ≡ true
same_number a b e = eq-eqb b a (sym (eqb-true a b e))

-- WHETHER ANY

or_true : (a : Bool) → (a || true) ≡ true
or_true true = refl
or_true false = refl

or_assoc : (a b c : Bool) → (a || (b || c)) ≡ ((a || b) || c)
or_assoc true b c = refl
or_assoc false b c = refl

pub push_not : (f : Wait → Bool) (waits : List Wait) (wait : Wait) → f wait ≡ false → list_any f (waits ++ wait ∷ []) ≡ list_any f waits
push_not f waits wait fails = list_any-append f waits (wait ∷ []) ∙ or_false (list_any f waits) (f wait) fails
  where
    or_false : (a b : Bool) → b ≡ false → (a || (b || false)) ≡ a
    or_false true b h = refl
    or_false false b h = ap (λ x. x || false) h

pub push_one : (f : Wait → Bool) (waits : List Wait) (wait : Wait) → f wait ≡ true → list_any f (waits ++ wait ∷ []) ≡ true
push_one f waits wait holds = list_any-append f waits (wait ∷ []) ∙ or_one (list_any f waits) (f wait) holds
  where
    or_one : (a b : Bool) → b ≡ true → (a || (b || false)) ≡ true
    or_one true b h = refl
    or_one false b h = ap (λ x. x || false) h

-- THE ANSWER TO A READ

module _ (rules : Rules) (n : ℕ) where
  pub fill_known : (brings : Option (List ℕ)) (sights : List Sight) (waits : List Wait) → fill code rules n brings (all_known sights ++ waits) ≡ all_known sights ++ fill code rules n brings waits
  fill_known brings [] waits = refl
  fill_known brings (sight ∷ sights) waits = ap (λ xs. Known sight ∷ xs) (fill_known brings sights waits)

  -- nothing changes where no such read waits
  pub fill_none : (brings : Option (List ℕ)) (waits : List Wait) → list_any (is_awaited n) waits ≡ false → fill code rules n brings waits ≡ waits
  fill_none brings [] h = refl
  fill_none brings (Known sight ∷ waits) h = ap (λ xs. Known sight ∷ xs) (fill_none brings waits h)
  fill_none brings (Awaits m place ∷ waits) h = by_number (n == m) h (fill_none brings waits)
    where
      by_number : (t : Bool) → (t || list_any (is_awaited n) waits) ≡ false → (list_any (is_awaited n) waits ≡ false → fill code rules n brings waits ≡ waits)
          → with_wait (if t then option_map Known (read_by code rules m place brings) else Some (Awaits m place)) (fill code rules n brings waits) ≡ Awaits m place ∷ waits
      by_number true e rest = absurd (cc (e))
      by_number false e rest = ap (λ xs. Awaits m place ∷ xs) (rest e)

  -- a failure shows no call
  fill_fails : (waits : List Wait) → list_any (is_wait_of n) (fill code rules n None waits) ≡ list_any (is_wait_of n) waits
  fill_fails [] = refl
  fill_fails (Known sight ∷ waits) = ap (λ b. is_call_of n sight || b) (fill_fails waits)
  fill_fails (Awaits m place ∷ waits) = by_number (n == m) (fill_fails waits)
    where
      by_number : (t : Bool) → list_any (is_wait_of n) (fill code rules n None waits) ≡ list_any (is_wait_of n) waits
          → list_any (is_wait_of n) (with_wait (if t then option_map Known (read_by code rules m place None) else Some (Awaits m place)) (fill code rules n None waits)) ≡ list_any (is_wait_of n) waits
      by_number true rest = rest
      by_number false rest = rest

  -- a success shows that of what waits
  fill_brings : (bytes : List ℕ) (waits : List Wait) → list_any (is_wait_of n) (fill code rules n (Some bytes) waits) ≡ (list_any (is_wait_of n) waits || list_any (is_awaited n) waits)
  fill_brings bytes [] = refl
  fill_brings bytes (Known sight ∷ waits) =
      ap (λ b. is_call_of n sight || b) (fill_brings bytes waits) ∙ or_assoc (is_call_of n sight) (list_any (is_wait_of n) waits) (list_any (is_awaited n) waits)
  fill_brings bytes (Awaits m place ∷ waits) = by_number (n == m) refl (fill_brings bytes waits)
    where
      by_number : (t : Bool) → (n == m) ≡ t → list_any (is_wait_of n) (fill code rules n (Some bytes) waits) ≡ (list_any (is_wait_of n) waits || list_any (is_awaited n) waits)
          → list_any (is_wait_of n) (with_wait (if t then option_map Known (read_by code rules m place (Some bytes)) else Some (Awaits m place)) (fill code rules n (Some bytes) waits))
          ≡ (list_any (is_wait_of n) waits || (t || list_any (is_awaited n) waits))
      by_number true e rest = ap (λ b. b || list_any (is_wait_of n) (fill code rules n (Some bytes) waits)) (same_number n m e) ∙ sym (or_true (list_any (is_wait_of n) waits))
      by_number false e rest = rest

  -- requests of other numbers are seen as before
  pub others_called : (m : ℕ) → (n ≡ m → ⊥) → (brings : Option (List ℕ)) (waits : List Wait) → list_any (is_wait_of m) (fill code rules n brings waits) ≡ list_any (is_wait_of m) waits
  others_called m differ brings [] = refl
  others_called m differ brings (Known sight ∷ waits) = ap (λ b. is_call_of m sight || b) (others_called m differ brings waits)
  others_called m differ brings (Awaits k place ∷ waits) = by_number (n == k) refl brings (others_called m differ brings waits)
    where
      by_number : (t : Bool) → (n == k) ≡ t → (found : Option (List ℕ)) → list_any (is_wait_of m) (fill code rules n brings waits) ≡ list_any (is_wait_of m) waits
          → list_any (is_wait_of m) (with_wait (if t then option_map Known (read_by code rules k place found) else Some (Awaits k place)) (fill code rules n brings waits)) ≡ list_any (is_wait_of m) waits
      by_number true e None rest = rest
      by_number true e (Some bytes) rest =
          let other : (k == m) ≡ false = subst (λ x. (x == m) ≡ false) (eqb-true n k e) (apart n m differ) in
          ap (λ b. b || list_any (is_wait_of m) (fill code rules n brings waits)) other ∙ rest
      by_number false e found rest = rest

  pub others_awaited : (m : ℕ) → (n ≡ m → ⊥) → (brings : Option (List ℕ)) (waits : List Wait) → list_any (is_awaited m) (fill code rules n brings waits) ≡ list_any (is_awaited m) waits
  others_awaited m differ brings [] = refl
  others_awaited m differ brings (Known sight ∷ waits) = others_awaited m differ brings waits
  others_awaited m differ brings (Awaits k place ∷ waits) = by_number (n == k) refl brings (others_awaited m differ brings waits)
    where
      by_number : (t : Bool) → (n == k) ≡ t → (found : Option (List ℕ)) → list_any (is_awaited m) (fill code rules n brings waits) ≡ list_any (is_awaited m) waits
          → list_any (is_awaited m) (with_wait (if t then option_map Known (read_by code rules k place found) else Some (Awaits k place)) (fill code rules n brings waits)) ≡ ((m == k) || list_any (is_awaited m) waits)
      by_number true e found rest =
          let other : (m == k) ≡ false = subst (λ x. (m == x) ≡ false) (eqb-true n k e) (apart m n (λ same. differ (sym same))) in
          by_found found ∙ rest ∙ sym (ap (λ b. b || list_any (is_awaited m) waits) other)
        where
          by_found : (found : Option (List ℕ)) → list_any (is_awaited m) (with_wait (option_map Known (read_by code rules k place found)) (fill code rules n brings waits)) ≡ list_any (is_awaited m) (fill code rules n brings waits)
          by_found None = refl
          by_found (Some bytes) = refl
      by_number false e found rest = ap (λ b. (m == k) || b) rest

-- ONE LABEL

called_is : (rules : Rules) (i n : ℕ) (q : ClientRequest) (kind : Kind) (waits : List Wait) → called code rules i n q kind waits ≡ with_last waits (call_wait rules i n q kind)
called_is rules i n q Write waits = refl
called_is rules i n q Read waits = refl
called_is rules i n q Flush waits = refl

last_behind : (before waits : List Wait) (wait : Option Wait) → before ++ with_last waits wait ≡ with_last (before ++ waits) wait
last_behind before waits None = refl
last_behind before waits (Some wait) = sym (append_assoc before waits (wait ∷ []))

module _ (rules : Rules) (p i : ℕ) (seen : List Sight) (old waits : List Wait) (is : all_known seen ++ old ≡ waits) where
  call_step : (n : ℕ) (q : ClientRequest) → has_sector rules p i q ≡ true → all_known seen ++ with_last old (call_wait rules i n q q.kind) ≡ step code rules p i waits (Call n q)
  call_step n q has =
      last_behind (all_known seen) old (call_wait rules i n q q.kind)
      ∙ ap (λ ws. with_last ws (call_wait rules i n q q.kind)) is
      ∙ sym (called_is rules i n q q.kind waits)
      ∙ sym (ap (λ b. if b then called code rules i n q q.kind waits else waits) has)

  module _ (n : ℕ) (status : NtStatus) where
    -- what is filled waits behind what is known
    filled_is : (brings : Option (List ℕ)) → all_known seen ++ fill code rules n brings old ≡ fill code rules n brings waits
    filled_is brings = sym (fill_known rules n brings seen old) ∙ ap (fill code rules n brings) is

    by_called : (left : List Wait) (t : Bool) → list_any (is_wait_of n) left ≡ t → ended n status left ≡ (if t then left ++ Known (end_of n status) ∷ [] else left)
    by_called left t e = ap (λ b. if b then left ++ Known (end_of n status) ∷ [] else left) e

    read_step : (brings : Option (List ℕ)) → list_any (is_wait_of n) waits ≡ false → list_any (is_awaited n) waits ≡ true
        → all_known seen ++ with_last (fill code rules n brings old) (read_end n status brings) ≡ ended n status (fill code rules n brings waits)
    read_step None none awaited =
        filled_is None ∙ sym (by_called (fill code rules n None waits) false (fill_fails rules n waits ∙ none))
    read_step (Some bytes) none awaited =
        last_behind (all_known seen) (fill code rules n (Some bytes) old) (Some (Known (end_of n status)))
        ∙ ap (λ ws. ws ++ Known (end_of n status) ∷ []) (filled_is (Some bytes))
        ∙ sym (by_called (fill code rules n (Some bytes) waits) true (fill_brings rules n bytes waits ∙ ap (λ b. b || list_any (is_awaited n) waits) none ∙ awaited))

    other_step : (brings : Option (List ℕ)) (t : Bool) → list_any (is_wait_of n) waits ≡ t → list_any (is_awaited n) waits ≡ false
        → ended n status (fill code rules n brings waits) ≡ (if t then waits ++ Known (end_of n status) ∷ [] else waits)
    other_step brings t told none = ap (ended n status) (fill_none rules n brings waits none) ∙ by_called waits t told

  answer_step : (n : ℕ) (status : NtStatus) (bytes : List ℕ) (kind : Kind) → list_any (is_wait_of n) waits ≡ is_write kind → list_any (is_awaited n) waits ≡ is_read kind
      → all_known seen ++ answer_left rules kind n status bytes old ≡ ended n status (fill code rules n (success_bytes status bytes) waits)
  answer_step n status bytes Read told awaited = read_step n status (success_bytes status bytes) told awaited
  answer_step n status bytes Write told awaited =
      last_behind (all_known seen) old (Some (Known (end_of n status))) ∙ ap (λ ws. ws ++ Known (end_of n status) ∷ []) is ∙ sym (other_step n status (success_bytes status bytes) true told awaited)
  answer_step n status bytes Flush told awaited = is ∙ sym (other_step n status (success_bytes status bytes) false told awaited)

  pub label_step : (kind : Kind) (label : Label) → IsToldOf rules p i waits kind label → all_known seen ++ label_left rules i kind label old ≡ step code rules p i waits label
  label_step kind (Call n q) told = call_step n q told
  label_step kind (Answer n status informed bytes) told = answer_step n status bytes kind told.0 told.1
  label_step kind (Device label) told = is
  label_step kind (Cancel n) told = is
  label_step kind Pause told = is
  label_step kind Resume told = is
  label_step kind Remove told = is
  label_step kind Surprise told = is
  label_step kind Removed told = is
