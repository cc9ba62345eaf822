-- What was so of a piece as it started stays so as long as it is on its tag.
use Rattle.std.proofs.Common.{◌≡◌, inl, inr, ℕ, ◌==◌, Bool, true, false, List, [], ◌∷◌, map, Result, Ok, Err, IsPermutation, refl, sym, ap, subst, if◌then◌else◌}
use Rattle.std.specs.Prelude.{All}
use Rattle.std.proofs.lemmas.List.Elements.{All-head, All-tail, All-cons, All-map}
use Rattle.std.proofs.lemmas.List.Sorted.{IsPermutation-sym, All-permutation}
use Rattle.srb.specs.declared.Srb.{Srb}
use Rattle.srb.specs.declared.Entry.{Entry}
use Rattle.srb.specs.declared.Completion.{Completion}
use Rattle.srb.specs.declared.DeviceLabel.{DeviceLabel}
use Rattle.srb.specs.declared.DeviceLabel.TheVariants.{Start, Act, Fault, Return}
use Rattle.adapter.specs.View.{TagInUse, AdapterView, MovesBy, MovesOn, MovesByAll, NotesReset, acted, faulted, met_by_reset, in_use_from}
use Rattle.adapter.specs.Booking.{Books, with_booked, booked_on, with_booking}

module _ (P : ℕ → ℕ → List ℕ → Type 0) where
  -- of this piece
  abbrev pub IsTagged : TagInUse → Type 0
  IsTagged u = P u.piece u.tag u.srb.block

  abbrev pub AllTagged : AdapterView → Type 0
  AllTagged v = All IsTagged v.tags

  -- of what starts by this label
  abbrev pub StartsSo : DeviceLabel → Type 0
  StartsSo (Start piece tag block) = P piece tag block
  StartsSo (Act piece bytes) = Unit {0}
  StartsSo (Fault piece) = Unit {0}
  StartsSo (Return piece class) = Unit {0}

  one_so : (old new : AdapterView) (u u' : TagInUse) (others tags : List TagInUse) → IsPermutation old.tags (u ∷ others) → IsPermutation tags (u' ∷ others) → (IsTagged u → IsTagged u') → AllTagged old → All IsTagged tags
  one_so old new u u' others tags before after mine all =
      let were : All IsTagged (u ∷ others) = All-permutation IsTagged _ _ before all in
      All-permutation IsTagged _ _ (IsPermutation-sym _ _ after) (All-cons IsTagged u' others (mine (All-head IsTagged u others were)) (All-tail IsTagged u others were))

  moved_so : (old new : AdapterView) (tag : ℕ) (label : DeviceLabel) → StartsSo label → MovesOn old tag label new → AllTagged old → AllTagged new
  moved_so old new tag (Start piece started block) so (same, h) all =
      let first : IsTagged (in_use_from old tag piece h.srb) = subst (λ b. P piece tag b) (sym h.has_block) (subst (λ t. P piece t block) same so) in
      subst AllTagged (sym h.accepts.after) (All-permutation IsTagged _ _ (IsPermutation-sym _ _ h.accepts.in_use) (All-cons IsTagged (in_use_from old tag piece h.srb) old.tags first all))
  moved_so old new tag (Act piece bytes) so h all = subst AllTagged (sym h.after) (one_so old new h.use' (acted h.moved h.left h.use') h.others h.tags h.is_on.in_use h.in_use (λ k. k) all)
  moved_so old new tag (Fault piece) so h all =
      subst AllTagged (sym h.after) (one_so old new h.use' (faulted h.left h.use') h.others h.tags h.is_on.in_use h.in_use
      (λ k. subst (λ (b : List ℕ). P h.use'.piece h.use'.tag b) (sym (ap (λ (srb : Srb). srb.block) h.spoiled.same)) k) all)
  moved_so old new tag (Return piece class) so h all =
      subst AllTagged (sym h.after) (All-permutation IsTagged _ _ (IsPermutation-sym _ _ h.in_use) (All-tail IsTagged h.use' h.others (All-permutation IsTagged _ _ h.is_on.in_use all)))

  pub all_moved_so : (old : AdapterView) (labels : List DeviceLabel) (new : AdapterView) → All StartsSo labels → MovesByAll old labels new → AllTagged old → AllTagged new
  all_moved_so old [] new so h all = subst AllTagged (sym h) all
  all_moved_so old (label ∷ labels) new so (after, (tag, moves), rest) all =
      all_moved_so after labels new (All-tail StartsSo label labels so) rest
      (moved_so old after tag label (All-head StartsSo label labels so) moves all)

  pub reset_so : (old new : AdapterView) → NotesReset old new → AllTagged old → AllTagged new
  reset_so old new h all = subst AllTagged (sym h.after) (All-permutation IsTagged _ _ (IsPermutation-sym _ _ h.in_use) (All-map IsTagged met_by_reset old.tags all))

  booked_one : (what : Result Entry Completion) (u : TagInUse) → IsTagged u → IsTagged (with_booked what u)
  booked_one (Ok entry) u k = k
  booked_one (Err completion) u k = k

  booked_by : (tag : ℕ) (what : Result Entry Completion) (u : TagInUse) (b : Bool) → (u.tag == tag) ≡ b → IsTagged u → IsTagged (booked_on tag what u)
  booked_by tag what u true is k = rw is (booked_one what u k)
  booked_by tag what u false is k = rw is k

  booking_so : (old new : AdapterView) (tag : ℕ) (what : Result Entry Completion) (b : Bool) → new ≡ (if b then with_booking tag what old else old) → AllTagged old → AllTagged new
  booking_so old new tag what true after all = subst AllTagged (sym after) (All-map IsTagged (booked_on tag what) old.tags (λ i d low. booked_by tag what _ _ refl (all i d low)))
  booking_so old new tag what false after all = subst AllTagged (sym after) all

  pub booked_so : (old : AdapterView) (tag piece : ℕ) (what : Result Entry Completion) (new : AdapterView) → Books old tag piece what new → AllTagged old → AllTagged new
  booked_so old tag piece what new h all = booking_so old new tag what h.booked h.after all
