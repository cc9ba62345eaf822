-- The packets here: nothing of them was sent.
use Rattle.hold_filter.proofs.Common.{◌≡◌, ℕ, zero, suc, Bool, true, false, List, [], ◌∷◌, ◌++◌, refl, map, replicate, IsFalse, IsPermutation, list_all, length-replicate, IsPermutation-trans, IsPermutation-append_left, IsPermutation-append_right, IsPermutation-middle, IsPermutation-to_front, IsPermutation-map, Rules, Untouched, is_untouched, is_started, HasPlaces, IsWaiting, Held, packet_in, open_here, IsAsked}
use Rattle.hold_filter.proofs.Lists.{to_front}

pub untouched_all : (n : ℕ) → list_all is_untouched (replicate n Untouched) ≡ true
untouched_all zero = refl
untouched_all (suc n) = untouched_all n

pub true_false : {P : Type 0} (b : Bool) → b ≡ true → b ≡ false → P
true_false true h k = absurd (cc (k))
true_false false h k = absurd (cc (h))

-- one of the held among all that are here
pub held_first : (held before : List (ℕ × Held)) (at : ℕ) (x : Held) (behind : List (ℕ × Held)) (ended : List Held)
    → held ≡ before ++ (at, x) ∷ behind
    → IsPermutation (map packet_in held ++ ended) (x ∷ (map packet_in (before ++ behind) ++ ended))
held_first held before at x behind ended is =
    IsPermutation-append_left ended _ _ (IsPermutation-map packet_in _ _ (to_front held before (at, x) behind is))

-- one more of those that ended
pub ended_first : (held ended : List (ℕ × Held)) (at : ℕ) (x : Held)
    → IsPermutation (map packet_in held ++ map packet_in (ended ++ (at, x) ∷ []))
    (x ∷ (map packet_in held ++ map packet_in ended))
ended_first held ended at x =
    let last : IsPermutation (map packet_in (ended ++ (at, x) ∷ [])) (x ∷ map packet_in ended) =
    IsPermutation-map packet_in _ _ (IsPermutation-to_front ended (at, x)) in
    IsPermutation-trans _ _ _ (IsPermutation-append_right (map packet_in held) _ _ last)
    (IsPermutation-middle (map packet_in held) x (map packet_in ended))

-- the last of those that are held
pub last_first : (held : List (ℕ × Held)) (at : ℕ) (x : Held) (ended : List Held)
    → IsPermutation (map packet_in (held ++ (at, x) ∷ []) ++ ended) (x ∷ (map packet_in held ++ ended))
last_first held at x ended =
    IsPermutation-append_left ended _ _ (IsPermutation-map packet_in _ _ (IsPermutation-to_front held (at, x)))

module _ (rules : Rules) (late : Bool) where
  pub not_started : (held : Held) → IsFalse (is_started (open_here rules late held))
  not_started held = rw untouched_all refl

  pub has_places : (held : Held) → IsAsked rules held → HasPlaces (open_here rules late held)
  has_places held asked = rw length-replicate asked.places

  pub waits : (held : Held) → IsFalse held.irp.value.cancelled → IsWaiting (open_here rules late held)
  waits held timely = record { not_started = not_started held; not_cancelled = timely }
