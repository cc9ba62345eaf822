-- Pieces that begin off the grid.
use Rattle.std.proofs.Common.{◌≡◌, ◌+◌, ◌%◌, [], ◌∷◌, refl, ap, ◌∙◌, sym, true, arith, rules}
use Rattle.std.proofs.lemmas.List.Sorted.{IsPermutation-refl}
use Rattle.machine.specs.Rules.{Rules}
use Rattle.machine.specs.State.{OpenRequest, Untouched, Back}
use Rattle.machine.proofs.Same.{IsSame-refl}
use Rattle.machine.proofs.Forms.{write_forms, one_write}
use Rattle.worked_runs.specs.Small.{small, full_of, write, write_block, opened, one_place}
use Rattle.worked_runs.specs.Impossible.{NeverWritesAt, worn_out}
use Rattle.worked_runs.specs.Cut.{wide, anywhere, three, three_wait, ReachesThreeWait, StartsAnywhere, StartsAgain}
use Rattle.worked_runs.proofs.Steps.{called, started, tag_0}
use Rattle.worked_runs.proofs.Refuting.{never_started}

pub reaches_three_wait : ReachesThreeWait
reaches_three_wait = (_, called wide _ (write 0 6 three) refl refl refl, IsSame-refl _)

-- sector 3 of the disk is place 1
pub writes_not_off_grid : NeverWritesAt wide three_wait 3
writes_not_off_grid piece tag count fua block means =
    never_started wide three_wait piece tag block (
      (λ places may h asks.
          let same : (3 ≡ 2 + (0 + places.first)) × (count ≡ places.count) = one_write block _ _ _ _ _ _ means (write_forms block _ _ _ asks) in
          let from : places.first ≡ 1 = omega arith in
          let begins : places.first % 2 ≡ 0 = h.begins refl in
          let odd : 1 % 2 ≡ 0 = sym (ap (λ first. first % 2) from) ∙ begins in
          absurd (omega (arith, odd))),
      tt,
    )

pub starts_anywhere : StartsAnywhere
starts_anywhere = (
  _,
  started anywhere _ (opened 1 (write 0 6 three) (Untouched ∷ Untouched ∷ Untouched ∷ [])) [] (record { first = 1; count = 2 }) 0 (write_block 3 2) refl tag_0
      (IsPermutation-refl _) (search rules) (search rules) (search rules) (search rules),
  IsSame-refl _,
)

pub starts_again : StartsAgain
starts_again =
    let rules' : Rules = record small { any_cut = true } in
    let o : OpenRequest = record (opened 1 (write 0 2 (full_of 165)) (Back ∷ [])) { busy_returns = 2 } in (
      _,
      started rules' _ o [] (one_place 0) 0 (write_block 2 1) refl tag_0 (IsPermutation-refl _) (search rules) (search rules) (search rules) (search rules),
      IsSame-refl _,
    )
