-- Starts of commands of sixteen bytes.
use Rattle.std.proofs.Common.{[], ◌∷◌, refl, rules}
use Rattle.std.proofs.lemmas.List.Sorted.{IsPermutation-refl}
use Rattle.ntstatus.specs.declared.NtStatus.TheVariants.{Success}
use Rattle.srb.specs.declared.Class.TheVariants.{Good}
use Rattle.srb.specs.Fate.{Fate, Fresh, Acted}
use Rattle.machine.specs.State.{OpenRequest, Piece, Mark, Untouched, Out, Done}
use Rattle.machine.proofs.Same.{IsSame-refl}
use Rattle.worked_runs.specs.Small.{sectors, read, flush, opened, one_place, piece_of}
use Rattle.worked_runs.specs.Long.{far, last_short, first_long, long_sync_block, StartsInEachForm, FlushesFar}
use Rattle.worked_runs.proofs.Steps.{called, started, acted, returned, answered, tag_0, tag_1}

pub starts_in_each_form : StartsInEachForm
starts_in_each_form =
    let r : Mark → Mark → OpenRequest = λ x y. opened 1 (read 0 4) (x ∷ y ∷ []) in
    let p : Fate → Piece = λ fate. piece_of 1 0 1 0 fate in (
      _,
      called far _ (read 0 4) refl refl refl,
      (
        _,
        started far _ (r Untouched Untouched) [] (one_place 0) 0 last_short refl tag_0 (IsPermutation-refl _) (search rules) (search rules) (search rules) (search rules),
        (
          _,
          started far _ (r Out Untouched) [] (one_place 1) 1 first_long refl (tag_1 (p Fresh) refl) (IsPermutation-refl _) (search rules) (search rules) (search rules) (search rules),
          IsSame-refl _,
        ),
      ),
    )

pub flushes_far : FlushesFar
flushes_far =
    let f : Mark → OpenRequest = λ mark. opened 1 flush (mark ∷ []) in
    let p : Fate → Piece = λ fate. piece_of 1 0 1 0 fate in (
      _,
      called far _ flush refl refl refl,
      (
        _,
        started far _ (f Untouched) [] (one_place 0) 0 long_sync_block refl tag_0 (IsPermutation-refl _) (search rules) (search rules) (search rules) (search rules),
        (
          _,
          acted far _ (p Fresh) [] (f Out) ([] ∷ []) (sectors 17 34 51) [] refl (search rules) (search rules) refl refl (search rules) refl,
          (
            _,
            returned far _ (p (Acted ([] ∷ []))) [] (f Out) [] Good (Done [] ∷ []) refl (IsPermutation-refl _) (IsPermutation-refl _) refl (search rules),
            (
              _,
              answered far _ (f (Done [])) [] Success [] refl (IsPermutation-refl _) (search rules) (search rules) (search rules) refl,
              IsSame-refl _,
            ),
          ),
        ),
      ),
    )
