-- Answers that come too early, or with the wrong status.
use Rattle.std.proofs.Common.{[], ◌∷◌, refl, true, rules}
use Rattle.std.specs.Prelude.{IsPermutation}
use Rattle.std.proofs.lemmas.List.Sorted.{IsPermutation-refl}
use Rattle.ntstatus.specs.declared.NtStatus.TheVariants.{Success, DeviceDataError, DeviceNotReady}
use Rattle.srb.specs.declared.Class.TheVariants.{Good, Bad}
use Rattle.srb.specs.Fate.{Fate, Fresh, Acted, Faulted}
use Rattle.machine.specs.State.{OpenRequest, Piece, Mark, Untouched, Out, Done, Failed}
use Rattle.machine.proofs.Commuting.{swapped, out_ends_not, untouched_ends_not}
use Rattle.machine.proofs.Same.{IsSame-refl}
use Rattle.worked_runs.specs.Small.{small, zeros, full_of, read, write, read_block, write_block, error_of_key, opened, one_place, piece_of}
use Rattle.worked_runs.specs.Impossible.{NeverAnswers, NeverAnswersAs, one_failed, ReachesOneFailed, one_waits, ReachesOneWaits, cancelled_out, ReachesCancelledOut, unsent, ReachesUnsent, unsent_cancelled, ReachesUnsentCancelled, both_failed, ReachesBothFailed}
use Rattle.worked_runs.proofs.Steps.{called, started, acted, faulted, returned, cancelled, tag_0, tag_1}
use Rattle.worked_runs.proofs.Refuting.{never_answered, never_succeeds}

pub reaches_one_failed : ReachesOneFailed
reaches_one_failed =
    let r : Mark → Mark → OpenRequest = λ a b. opened 1 (read 0 6) (a ∷ b ∷ Untouched ∷ []) in
    let p : Fate → Piece = λ fate. piece_of 1 0 1 0 fate in
    let k : Piece = piece_of 2 1 1 1 Fresh in
    let is_out : IsPermutation (k ∷ p Fresh ∷ []) (p Fresh ∷ k ∷ []) = swapped k (p Fresh) [] in (
      _,
      called small _ (read 0 6) refl refl refl,
      (
        _,
        started small _ (r Untouched Untouched) [] (one_place 0) 0 (read_block 2 1) refl tag_0 (IsPermutation-refl _) (search rules) (search rules) (search rules) (search rules),
        (
          _,
          started small _ (r Out Untouched) [] (one_place 1) 1 (read_block 3 1) refl (tag_1 (p Fresh) refl) (IsPermutation-refl _) (search rules) (search rules) (search rules) (search rules),
          (
            _,
            faulted small _ (p Fresh) (k ∷ []) refl (record { is_out = is_out; is_number = refl; is_fresh = refl }),
            (
              _,
              returned small _ (p Faulted) (k ∷ []) (r Out Out) [] (Bad (error_of_key 3)) (Failed DeviceDataError ∷ []) refl (IsPermutation-refl _) (IsPermutation-refl _) refl (search rules),
              IsSame-refl _,
            ),
          ),
        ),
      ),
    )

pub answers_not_one_failed : NeverAnswers small one_failed 1
answers_not_one_failed status informed bytes =
    let o : OpenRequest = opened 1 (read 0 6) (Failed DeviceDataError ∷ Out ∷ Untouched ∷ []) in
    never_answered small one_failed 1 status informed bytes refl ((λ number (e0, (e1, e2)) success cause hands. out_ends_not small one_failed o e1), tt)

pub reaches_one_waits : ReachesOneWaits
reaches_one_waits =
    let r : Mark → OpenRequest = λ b. opened 1 (read 0 6) (Failed DeviceDataError ∷ b ∷ Untouched ∷ []) in
    let k : Fate → Piece = λ fate. piece_of 2 1 1 1 fate in
    let sector = full_of 0 ∷ [] in (
      _,
      acted small _ (k Fresh) [] (r Out) sector zeros (full_of 0) refl (search rules) (search rules) refl refl (search rules) refl,
      (
        _,
        returned small _ (k (Acted sector)) [] (r Out) [] Good (Done (full_of 0) ∷ []) refl (IsPermutation-refl _) (IsPermutation-refl _) refl (search rules),
        IsSame-refl _,
      ),
    )

pub answers_not_one_waits : NeverAnswers small one_waits 1
answers_not_one_waits status informed bytes =
    let o : OpenRequest = opened 1 (read 0 6) (Failed DeviceDataError ∷ Done (full_of 0) ∷ Untouched ∷ []) in
    never_answered small one_waits 1 status informed bytes refl ((λ number (e0, (e1, (e2, e3))) success cause hands. untouched_ends_not small one_waits o refl refl e2), tt)

pub reaches_cancelled_out : ReachesCancelledOut
reaches_cancelled_out =
    let w : Mark → OpenRequest = λ mark. opened 1 (write 0 2 (full_of 165)) (mark ∷ []) in (
      _,
      called small _ (write 0 2 (full_of 165)) refl refl refl,
      (
        _,
        started small _ (w Untouched) [] (one_place 0) 0 (write_block 2 1) refl tag_0 (IsPermutation-refl _) (search rules) (search rules) (search rules) (search rules),
        (
          _,
          cancelled small _ (w Out) [] refl (IsPermutation-refl _) refl,
          IsSame-refl _,
        ),
      ),
    )

pub answers_not_cancelled_out : NeverAnswers small cancelled_out 1
answers_not_cancelled_out status informed bytes =
    let o : OpenRequest = record (opened 1 (write 0 2 (full_of 165)) (Out ∷ [])) { cancelled = true } in
    never_answered small cancelled_out 1 status informed bytes refl ((λ number (e0, e1) success cause hands. out_ends_not small cancelled_out o e0), tt)

pub reaches_unsent : ReachesUnsent
reaches_unsent = (_, called small _ (write 0 2 (full_of 165)) refl refl refl, IsSame-refl _)

pub answers_not_unsent : NeverAnswers small unsent 1
answers_not_unsent status informed bytes =
    let o : OpenRequest = opened 1 (write 0 2 (full_of 165)) (Untouched ∷ []) in
    never_answered small unsent 1 status informed bytes refl ((λ number (e0, e1) success cause hands. untouched_ends_not small unsent o refl refl e0), tt)

pub reaches_unsent_cancelled : ReachesUnsentCancelled
reaches_unsent_cancelled = (_, cancelled small _ (opened 1 (write 0 2 (full_of 165)) (Untouched ∷ [])) [] refl (IsPermutation-refl _) refl, IsSame-refl _)

pub succeeds_not_unsent_cancelled : NeverAnswersAs small unsent_cancelled 1 Success
succeeds_not_unsent_cancelled = never_succeeds small unsent_cancelled 1 refl (refl, tt)

pub reaches_both_failed : ReachesBothFailed
reaches_both_failed =
    let r : Mark → Mark → OpenRequest = λ a b. opened 1 (read 0 4) (a ∷ b ∷ []) in
    let p : Fate → Piece = λ fate. piece_of 1 0 1 0 fate in
    let k : Fate → Piece = λ fate. piece_of 2 1 1 1 fate in
    let a = Failed DeviceDataError in
    let b = Failed DeviceNotReady in (
      _,
      called small _ (read 0 4) refl refl refl,
      (
        _,
        started small _ (r Untouched Untouched) [] (one_place 0) 0 (read_block 2 1) refl tag_0 (IsPermutation-refl _) (search rules) (search rules) (search rules) (search rules),
        (
          _,
          started small _ (r Out Untouched) [] (one_place 1) 1 (read_block 3 1) refl (tag_1 (p Fresh) refl) (IsPermutation-refl _) (search rules) (search rules) (search rules) (search rules),
          (
            _,
            faulted small _ (k Fresh) (p Fresh ∷ []) refl (search rules),
            (
              _,
              returned small _ (k Faulted) (p Fresh ∷ []) (r Out Out) [] (Bad (error_of_key 2)) (b ∷ []) refl (IsPermutation-refl _) (IsPermutation-refl _) refl (search rules),
              (
                _,
                faulted small _ (p Fresh) [] refl (search rules),
                (
                  _,
                  returned small _ (p Faulted) [] (r Out b) [] (Bad (error_of_key 3)) (a ∷ []) refl (IsPermutation-refl _) (IsPermutation-refl _) refl (search rules),
                  IsSame-refl _,
                ),
              ),
            ),
          ),
        ),
      ),
    )

pub answers_not_as_higher : NeverAnswersAs small both_failed 1 DeviceNotReady
answers_not_as_higher informed bytes = never_answered small both_failed 1 DeviceNotReady informed bytes refl ((λ number ended success cause hands. cc (cause)), tt)
