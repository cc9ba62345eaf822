-- A label that was told takes off what was armed for its piece.
use Rattle.book.proofs.Common.{◌≡◌, ◌≢◌, inl, inr, ℕ, ◌<◌, ◌≤◌, List, [], ◌∷◌, length, zero, suc, Some, None, refl, sym, subst, ◌∙◌, arith, Label, Armed, Forgets, IsFreeOf, claimed_at, Claimed, HaveNoted, IsClaimed, Leaves, piece_told}
use Rattle.std.specs.Prelude.{◌⊎◌}
use Rattle.srb.specs.declared.DeviceLabel.TheVariants.{Start, Act, Fault, Return}
use Rattle.machine.specs.declared.Label.TheVariants.{Call, Device, Answer, Cancel, Pause, Resume, Remove, Surprise, Removed}

-- nothing is claimed beyond the tags
none_beyond : (tags : Claimed) (tag : ℕ) → length tags ≤ tag → claimed_at tags tag ≡ None
none_beyond [] tag beyond = refl
none_beyond (claimed ∷ tags) zero beyond = absurd (omega (arith, beyond))
none_beyond (claimed ∷ tags) (suc tag) beyond = none_beyond tags tag (omega (arith, beyond))

within_or_beyond : (tag many : ℕ) → (tag < many) ⊎ (many ≤ tag)
within_or_beyond tag many = grind arith

some_same : {x y : ℕ} → Some x ≡ Some y → x ≡ y
some_same {x} {y} e = cc

leaves_all : (piece : ℕ) (label : Label) → piece_told label ≡ None → Leaves piece label
leaves_all piece (Device (Act other bytes)) none = absurd (cc (none))
leaves_all piece (Device (Fault other)) none = absurd (cc (none))
leaves_all piece (Device (Return other class)) none = absurd (cc (none))
leaves_all piece _ none = tt

other_than : (piece told other : ℕ) → Some other ≡ Some told → piece ≢ told → other ≢ piece
other_than piece told other is apart e = apart (sym e ∙ some_same is)

leaves_other : (piece told : ℕ) (label : Label) → piece_told label ≡ Some told → piece ≢ told → Leaves piece label
leaves_other piece told (Device (Act other bytes)) is apart = other_than piece told other is apart
leaves_other piece told (Device (Fault other)) is apart = other_than piece told other is apart
leaves_other piece told (Device (Return other class)) is apart = other_than piece told other is apart
leaves_other piece told _ is apart = tt

pub nothing_noted : (label : Label) (tags : Claimed) → piece_told label ≡ None → HaveNoted label tags tags
nothing_noted label tags none tag number armed claimed = (claimed, leaves_all armed.piece label none)

module _ (label : Label) (old new : Claimed) (piece : ℕ) (told : piece_told label ≡ Some piece) (many : length new ≡ length old)
    (each : (tag : ℕ) → tag < length old → Forgets piece (claimed_at old tag) (claimed_at new tag)) where
  by_forgets : (tag number : ℕ) (armed : Armed) → IsClaimed new tag number armed → Forgets piece (claimed_at old tag) (claimed_at new tag) → IsClaimed old tag number armed × Leaves armed.piece label
  by_forgets tag number armed claimed (inl (holds, none)) = absurd (differ (sym none ∙ claimed))
    where
      differ : {x : List (ℕ × Armed)} → None ≡ Some x → ⊥
      differ {x} e = absurd (cc (e))
  by_forgets tag number armed claimed (inr (free, same)) =
      let was : IsClaimed old tag number armed = sym same ∙ claimed in
      let other : IsFreeOf piece (Some ((number, armed) ∷ [])) = subst (IsFreeOf piece) was free in
      (was, leaves_other armed.piece piece label told (other number armed refl))

  by_place : (tag number : ℕ) (armed : Armed) → IsClaimed new tag number armed → (tag < length old) ⊎ (length old ≤ tag) → IsClaimed old tag number armed × Leaves armed.piece label
  by_place tag number armed claimed (inl within) = by_forgets tag number armed claimed (each tag within)
  by_place tag number armed claimed (inr beyond) = absurd (differ (sym (none_beyond new tag (omega (arith, many, beyond))) ∙ claimed))
    where
      differ : {x : List (ℕ × Armed)} → None ≡ Some x → ⊥
      differ {x} e = absurd (cc (e))

  pub noted_by : HaveNoted label old new
  noted_by tag number armed claimed = by_place tag number armed claimed (within_or_beyond tag (length old))
