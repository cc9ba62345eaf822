-- Runs of requests that are cut short or fail.
use Rattle.std.proofs.Common.{ℕ, true, [], ◌∷◌, ◌++◌, refl, inl, inr, rules}
use Rattle.std.proofs.lemmas.List.Sorted.{IsPermutation-refl}
use Rattle.ntstatus.specs.declared.NtStatus.TheVariants.{Cancelled, DeviceBusy, DeviceDataError, DeviceNotReady, IoDeviceError}
use Rattle.srb.specs.declared.Class.TheVariants.{Good, Busy, Bad}
use Rattle.srb.specs.Fate.{Fate, Fresh, Acted, Faulted}
use Rattle.srb.specs.declared.DeviceLabel.TheVariants.{Act, Return}
use Rattle.machine.specs.declared.Label.TheVariants.{Device, Answer}
use Rattle.machine.specs.State.{OpenRequest, Piece, Mark, Untouched, Out, Done, Failed, Back, opening}
use Rattle.machine.proofs.Same.{IsSame-refl, Run-append}
use Rattle.worked_runs.specs.Small.{small, zeros, full_of, sectors, idle, read, write, write_block, bus_reset, opened, one_place, piece_of}
use Rattle.worked_runs.specs.Failed.{busy_twice, cancelled_in_three, IsCutShort, StaysBusy, IsResetBeforeAct, IsResetAfterAct, both_fail, AnswersLowestFailure}
use Rattle.worked_runs.specs.Impossible.{cut, both_failed, worn_out, ReachesWornOut}
use Rattle.worked_runs.proofs.Early.{reaches_both_failed}
use Rattle.worked_runs.proofs.Losing.{reaches_cut}
use Rattle.worked_runs.proofs.Steps.{called, started, acted, faulted, returned, answered, tag_0}

pub is_cut_short : IsCutShort
is_cut_short =
    let w : Mark → Mark → OpenRequest = λ a b. record (opened 1 (write 0 6 (full_of 165 ++ full_of 165 ++ full_of 165)) (a ∷ b ∷ Untouched ∷ [])) { cancelled = true } in
    let k : Fate → Piece = λ fate. piece_of 2 1 1 1 fate in
    let sector = full_of 165 ∷ [] in
    let d = Done (full_of 165) in
    Run-append small (opening zeros) cancelled_in_three cut (Device (Act 2 (full_of 165)) ∷ Device (Return 2 Good) ∷ Answer 1 Cancelled 0 [] ∷ []) (idle (sectors 165 165 0) 2 3) reaches_cut (
      _,
      acted small _ (k Fresh) [] (w d Out) sector (sectors 165 165 0) (full_of 165) refl (search rules) (search rules) refl refl (search rules) refl,
      (
        _,
        returned small _ (k (Acted sector)) [] (w d Out) [] Good (d ∷ []) refl (IsPermutation-refl _) (IsPermutation-refl _) refl (search rules),
        (
          _,
          answered small _ (w d d) [] Cancelled [] refl (IsPermutation-refl _) (inl refl, (inl refl, (inr (Cancelled, inl (refl, refl)), tt))) (search rules) (inl (refl, refl)) refl,
          IsSame-refl _,
        ),
      ),
    )

pub reaches_worn_out : ReachesWornOut
reaches_worn_out =
    let w : ℕ → Mark → OpenRequest = λ times mark. record (opened 1 (write 0 2 (full_of 165)) (mark ∷ [])) { busy_returns = times } in
    let p : ℕ → Piece = λ number. piece_of number 0 1 0 Fresh in (
      _,
      called small _ (write 0 2 (full_of 165)) refl refl refl,
      (
        _,
        started small _ (w 0 Untouched) [] (one_place 0) 0 (write_block 2 1) refl tag_0 (IsPermutation-refl _) (search rules) (search rules) (search rules) (search rules),
        (
          _,
          returned small _ (p 1) [] (w 0 Out) [] Busy (Back ∷ []) refl (IsPermutation-refl _) (IsPermutation-refl _) refl (search rules),
          (
            _,
            started small _ (w 1 Back) [] (one_place 0) 0 (write_block 2 1) refl tag_0 (IsPermutation-refl _) (search rules) (search rules) (search rules) (search rules),
            (
              _,
              returned small _ (p 2) [] (w 1 Out) [] Busy (Back ∷ []) refl (IsPermutation-refl _) (IsPermutation-refl _) refl (search rules),
              IsSame-refl _,
            ),
          ),
        ),
      ),
    )

pub stays_busy : StaysBusy
stays_busy =
    let w : OpenRequest = record (opened 1 (write 0 2 (full_of 165)) (Back ∷ [])) { busy_returns = 2 } in
    Run-append small (opening zeros) busy_twice worn_out (Answer 1 DeviceBusy 0 [] ∷ []) (idle zeros 2 3) reaches_worn_out (
      _,
      answered small _ w [] DeviceBusy [] refl (IsPermutation-refl _) (inr (DeviceBusy, inr (search rules, refl)), tt) (search rules) (search rules) refl,
      IsSame-refl _,
    )

pub is_reset_before_act : IsResetBeforeAct
is_reset_before_act =
    let w : Mark → OpenRequest = λ mark. opened 1 (write 0 2 (full_of 165)) (mark ∷ []) in
    let p : Fate → Piece = λ fate. piece_of 1 0 1 0 fate in (
      _,
      called small _ (write 0 2 (full_of 165)) refl refl refl,
      (
        _,
        started small _ (w Untouched) [] (one_place 0) 0 (write_block 2 1) refl tag_0 (IsPermutation-refl _) (search rules) (search rules) (search rules) (search rules),
        (
          _,
          faulted small _ (p Fresh) [] refl (search rules),
          (
            _,
            returned small _ (p Faulted) [] (w Out) [] (Bad bus_reset) (Failed IoDeviceError ∷ []) refl (IsPermutation-refl _) (IsPermutation-refl _) refl (search rules),
            (
              _,
              answered small _ (w (Failed IoDeviceError)) [] IoDeviceError [] refl (IsPermutation-refl _) (inr (IoDeviceError, refl), tt) (search rules) refl refl,
              IsSame-refl _,
            ),
          ),
        ),
      ),
    )

pub is_reset_after_act : IsResetAfterAct
is_reset_after_act =
    let w : Mark → OpenRequest = λ mark. opened 1 (write 0 2 (full_of 165)) (mark ∷ []) in
    let p : Fate → Piece = λ fate. piece_of 1 0 1 0 fate in
    let sector = full_of 165 ∷ [] in (
      _,
      called small _ (write 0 2 (full_of 165)) refl refl refl,
      (
        _,
        started small _ (w Untouched) [] (one_place 0) 0 (write_block 2 1) refl tag_0 (IsPermutation-refl _) (search rules) (search rules) (search rules) (search rules),
        (
          _,
          acted small _ (p Fresh) [] (w Out) sector (sectors 165 0 0) (full_of 165) refl (search rules) (search rules) refl refl (search rules) refl,
          (
            _,
            returned small _ (p (Acted sector)) [] (w Out) [] (Bad bus_reset) (Failed IoDeviceError ∷ []) refl (IsPermutation-refl _) (IsPermutation-refl _) refl (search rules),
            (
              _,
              answered small _ (w (Failed IoDeviceError)) [] IoDeviceError [] refl (IsPermutation-refl _) (inr (IoDeviceError, refl), tt) (search rules) refl refl,
              IsSame-refl _,
            ),
          ),
        ),
      ),
    )

pub answers_lowest_failure : AnswersLowestFailure
answers_lowest_failure =
    let r : OpenRequest = opened 1 (read 0 4) (Failed DeviceDataError ∷ Failed DeviceNotReady ∷ []) in
    Run-append small (opening zeros) both_fail both_failed (Answer 1 DeviceDataError 0 [] ∷ []) (idle zeros 2 3) reaches_both_failed (
      _,
      answered small _ r [] DeviceDataError [] refl (IsPermutation-refl _) (inr (DeviceDataError, refl), (inr (DeviceNotReady, refl), tt)) (search rules) refl refl,
      IsSame-refl _,
    )
