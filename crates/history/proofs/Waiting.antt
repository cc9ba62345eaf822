-- Label by label a sector shows what a look ahead says that it does.
use Rattle.std.proofs.Common.{◌≡◌, inl, inr, ℕ, ◌-◌, ◌==◌, ◌||◌, Bool, true, false, List, [], ◌∷◌, ◌++◌, Option, Some, None, refl, sym, ◌∙◌, ap, eq-eqb}
use Rattle.std.specs.Prelude.{option_map, if◌then◌else◌}
use Rattle.std.specs.List.{list_any}
use Rattle.std.proofs.lemmas.Bool.{cases_Bool, eqb-true}
use Rattle.ntstatus.specs.declared.NtStatus.{NtStatus}
use Rattle.srb.specs.declared.Kind.{Kind}
use Rattle.srb.specs.declared.Kind.TheVariants.{Read, Write, Flush}
use Rattle.machine.specs.declared.ClientRequest.{ClientRequest}
use Rattle.machine.specs.declared.Label.{Label}
use Rattle.machine.specs.declared.Label.TheVariants.{Call, Device, Answer, Cancel, Pause, Resume, Remove, Surprise, Removed}
use Rattle.machine.specs.Rules.{Rules, first_sector}
use Rattle.register.specs.declared.Sight.{Sight}
use Rattle.register.specs.declared.Sight.TheVariants.{Write as WriteSight}
use Rattle.history.specs.Sights.{has_sector, bytes_at, success_bytes, success_of, is_call_of, end_of, read_sight, value_of, call_sight, sight_of, with_sight, sights_of}
use Rattle.history.specs.declared.Wait.{Wait}
use Rattle.history.specs.declared.Wait.TheVariants.{Known, Awaits}
use Rattle.history.specs.Waits.{read_by, with_wait, fill, is_wait_of, ended, called, step, waits_of, known, ShownByWaits}

other_way : (n m : ℕ) → (n == m) ≡ false → (m == n) ≡ false
other_way n m e = elim (cases_Bool (m == n)) [
  | inl same ↦ absurd (cc (sym (eq-eqb n m (sym (eqb-true m n same))) ∙ e))
  | inr other ↦ other
]

abbrev front : Option Sight → List Sight → List Sight
front None sights = sights
front (Some sight) sights = sight ∷ sights

front_nil : (x : Option Sight) → front x [] ≡ with_sight [] x
front_nil None = refl
front_nil (Some sight) = refl

front_push : (x y : Option Sight) (sights : List Sight) → front x (with_sight sights y) ≡ with_sight (front x sights) y
front_push None y sights = refl
front_push (Some sight) None sights = refl
front_push (Some sight) (Some other) sights = refl

module _ (code : List ℕ → ℕ) (rules : Rules) (p i : ℕ) where
  -- what a wait comes to by the labels behind
  abbrev comes_to : List Label → Wait → Option Sight
  comes_to labels (Known sight) = Some sight
  comes_to labels (Awaits n place) = read_by code rules n place (success_of n labels)

  abbrev come_to : List Wait → List Label → List Sight
  come_to [] labels = []
  come_to (wait ∷ waits) labels = front (comes_to labels wait) (come_to waits labels)

  at_end : (waits : List Wait) → come_to waits [] ≡ known waits
  at_end [] = refl
  at_end (Known sight ∷ waits) = ap (λ xs. sight ∷ xs) (at_end waits)
  at_end (Awaits n place ∷ waits) = at_end waits

  pushed : (waits : List Wait) (wait : Wait) (labels : List Label) → come_to (waits ++ wait ∷ []) labels ≡ with_sight (come_to waits labels) (comes_to labels wait)
  pushed [] wait labels = front_nil (comes_to labels wait)
  pushed (w ∷ waits) wait labels =
      ap (front (comes_to labels w)) (pushed waits wait labels) ∙ front_push (comes_to labels w) (comes_to labels wait) (come_to waits labels)

  -- a label that is no answer changes nothing
  passed_over : (waits : List Wait) (label : Label) (labels : List Label) → ((n : ℕ) → success_of n (label ∷ labels) ≡ success_of n labels) → come_to waits (label ∷ labels) ≡ come_to waits labels
  passed_over [] label labels h = refl
  passed_over (Known sight ∷ waits) label labels h = ap (λ xs. sight ∷ xs) (passed_over waits label labels h)
  passed_over (Awaits n place ∷ waits) label labels h =
      ap (λ x. front (read_by code rules n place x) (come_to waits (label ∷ labels))) (h n)
      ∙ ap (front (read_by code rules n place (success_of n labels))) (passed_over waits label labels h)

  -- A CALL

  read_is : (n : ℕ) (q : ClientRequest) (bytes : Option (List ℕ)) → read_sight n (value_of code rules i q bytes) ≡ read_by code rules n (i - first_sector rules q) bytes
  read_is n q None = refl
  read_is n q (Some bytes) = refl

  call_next : (waits : List Wait) (n : ℕ) (q : ClientRequest) (labels : List Label)
      → with_sight (come_to waits labels) (if has_sector rules p i q then call_sight code rules i n q q.kind labels else None) ≡ come_to (if has_sector rules p i q then called code rules i n q q.kind waits else waits) labels
  call_next waits n q labels = by_sector (has_sector rules p i q)
    where
      by_kind : (kind : Kind) → with_sight (come_to waits labels) (call_sight code rules i n q kind labels) ≡ come_to (called code rules i n q kind waits) labels
      by_kind Write = sym (pushed waits (Known (WriteSight n (code (bytes_at rules i q q.bytes)))) labels)
      by_kind Read = ap (with_sight (come_to waits labels)) (read_is n q (success_of n labels)) ∙ sym (pushed waits (Awaits n (i - first_sector rules q)) labels)
      by_kind Flush = refl

      by_sector : (b : Bool) → with_sight (come_to waits labels) (if b then call_sight code rules i n q q.kind labels else None) ≡ come_to (if b then called code rules i n q q.kind waits else waits) labels
      by_sector true = by_kind q.kind
      by_sector false = refl

  -- AN ANSWER

  module _ (n : ℕ) (status : NtStatus) (informed : ℕ) (bytes : List ℕ) (labels : List Label) where
    abbrev brings : Option (List ℕ)
    brings = success_bytes status bytes

    filled : (waits : List Wait) → come_to waits (Answer n status informed bytes ∷ labels) ≡ come_to (fill code rules n brings waits) labels
    filled [] = refl
    filled (Known sight ∷ waits) = ap (λ xs. sight ∷ xs) (filled waits)
    filled (Awaits m place ∷ waits) = by_number (n == m) (filled waits)
      where
        by_read : (x : Option Sight) → come_to waits (Answer n status informed bytes ∷ labels) ≡ come_to (fill code rules n brings waits) labels
            → front x (come_to waits (Answer n status informed bytes ∷ labels)) ≡ come_to (with_wait (option_map Known x) (fill code rules n brings waits)) labels
        by_read None rest = rest
        by_read (Some sight) rest = ap (λ xs. sight ∷ xs) rest

        by_number : (b : Bool) → come_to waits (Answer n status informed bytes ∷ labels) ≡ come_to (fill code rules n brings waits) labels
            → front (read_by code rules m place (if b then brings else success_of m labels)) (come_to waits (Answer n status informed bytes ∷ labels))
            ≡ come_to (with_wait (if b then option_map Known (read_by code rules m place brings) else Some (Awaits m place)) (fill code rules n brings waits)) labels
        by_number true rest = by_read (read_by code rules m place brings) rest
        by_number false rest = ap (front (read_by code rules m place (success_of m labels))) rest

    abbrev Told : List Wait → Type 0
    Told ws = list_any (is_call_of n) (come_to ws labels) ≡ list_any (is_wait_of n) ws

    -- nothing of this number waits any more
    told : (waits : List Wait) → Told (fill code rules n brings waits)
    told [] = refl
    told (Known sight ∷ waits) = ap (λ b. is_call_of n sight || b) (told waits)
    told (Awaits m place ∷ waits) = by_number (n == m) refl (told waits)
      where
        by_read : (x : Option Sight) → Told (fill code rules n brings waits) → Told (with_wait (option_map Known x) (fill code rules n brings waits))
        by_read None rest = rest
        by_read (Some sight) rest = ap (λ b. is_call_of n sight || b) rest

        by_success : (x : Option (List ℕ)) → (m == n) ≡ false → Told (fill code rules n brings waits)
            → list_any (is_call_of n) (front (read_by code rules m place x) (come_to (fill code rules n brings waits) labels)) ≡ list_any (is_wait_of n) (fill code rules n brings waits)
        by_success None other rest = rest
        by_success (Some b) other rest = ap (λ c. c || list_any (is_call_of n) (come_to (fill code rules n brings waits) labels)) other ∙ rest

        by_number : (b : Bool) → (n == m) ≡ b → Told (fill code rules n brings waits)
            → Told (with_wait (if b then option_map Known (read_by code rules m place brings) else Some (Awaits m place)) (fill code rules n brings waits))
        by_number true e rest = by_read (read_by code rules m place brings) rest
        by_number false e rest = by_success (success_of m labels) (other_way n m e) rest

    answer_next : (waits : List Wait)
        → with_sight (come_to waits (Answer n status informed bytes ∷ labels)) (if list_any (is_call_of n) (come_to waits (Answer n status informed bytes ∷ labels)) then Some (end_of n status) else None)
        ≡ come_to (ended n status (fill code rules n brings waits)) labels
    answer_next waits =
        ap (λ xs. with_sight xs (if list_any (is_call_of n) xs then Some (end_of n status) else None)) (filled waits)
        ∙ ap (λ b. with_sight (come_to (fill code rules n brings waits) labels) (if b then Some (end_of n status) else None)) (told waits)
        ∙ by_end (fill code rules n brings waits) (list_any (is_wait_of n) (fill code rules n brings waits))
      where
        by_end : (left : List Wait) (b : Bool) → with_sight (come_to left labels) (if b then Some (end_of n status) else None) ≡ come_to (if b then left ++ Known (end_of n status) ∷ [] else left) labels
        by_end left true = sym (pushed left (Known (end_of n status)) labels)
        by_end left false = refl

  -- LABEL BY LABEL

  next : (waits : List Wait) (label : Label) (labels : List Label)
      → with_sight (come_to waits (label ∷ labels)) (sight_of code rules p i (come_to waits (label ∷ labels)) label labels) ≡ come_to (step code rules p i waits label) labels
  next waits (Call n q) labels =
      ap (λ xs. with_sight xs (if has_sector rules p i q then call_sight code rules i n q q.kind labels else None)) (passed_over waits (Call n q) labels (λ m. refl)) ∙ call_next waits n q labels
  next waits (Answer n status informed bytes) labels = answer_next n status informed bytes labels waits
  next waits (Device label) labels = passed_over waits (Device label) labels (λ m. refl)
  next waits (Cancel n) labels = passed_over waits (Cancel n) labels (λ m. refl)
  next waits Pause labels = passed_over waits Pause labels (λ m. refl)
  next waits Resume labels = passed_over waits Resume labels (λ m. refl)
  next waits Remove labels = passed_over waits Remove labels (λ m. refl)
  next waits Surprise labels = passed_over waits Surprise labels (λ m. refl)
  next waits Removed labels = passed_over waits Removed labels (λ m. refl)

  whole : (waits : List Wait) (labels : List Label) → sights_of code rules p i (come_to waits labels) labels ≡ known (waits_of code rules p i waits labels)
  whole waits [] = at_end waits
  whole waits (label ∷ labels) = ap (λ xs. sights_of code rules p i xs labels) (next waits label labels) ∙ whole (step code rules p i waits label) labels

pub shown_by_waits : ShownByWaits
shown_by_waits code rules p i history = whole code rules p i [] history
