-- Pieces that may not be started, and a removal that may not end.
use Rattle.std.proofs.Common.{◌≡◌, ◌+◌, ◌<◌, ◌≤◌, [], ◌∷◌, ◌++◌, refl, sym, ap, ◌∙◌, inl, inr, true, false, arith, rules}
use Rattle.std.proofs.lemmas.List.Sorted.{IsPermutation-refl}
use Rattle.ntstatus.specs.declared.NtStatus.TheVariants.{DeviceDataError}
use Rattle.srb.specs.declared.Class.TheVariants.{Good, Bad}
use Rattle.srb.specs.Fate.{Fate, Fresh, Acted, Faulted}
use Rattle.machine.specs.declared.Label.TheVariants.{Pause, Removed}
use Rattle.machine.specs.State.{OpenRequest, Piece, Mark, Untouched, Out, Done, Failed, Back, opening}
use Rattle.machine.specs.Cutting.{mark_at, is_back, restarts_left}
use Rattle.machine.proofs.Same.{IsSame-refl, Run-append}
use Rattle.machine.proofs.Forms.{write_forms, one_write}
use Rattle.worked_runs.specs.Small.{small, zeros, full_of, sectors, read, write, read_block, write_block, error_of_key, opened, one_place, piece_of}
use Rattle.worked_runs.specs.Impossible.{Never, NeverStarts, NeverWritesAt, NeverWritesBeyond, neighbours, NeverOpensPastEnd, last_sector, ReachesLastSector, first_bad, ReachesFirstBad, SendsTheOther, one_below, two_reads, waits_behind, held_behind, ReachesHeldBehind, held_alone, ReachesHeldAlone, worn_out, removing_out, ReachesRemovingOut}
use Rattle.worked_runs.proofs.Steps.{called, started, acted, faulted, returned, answered, paused, removing, tag_0}
use Rattle.worked_runs.proofs.Losing.{reaches_waits_behind, reaches_alone}
use Rattle.worked_runs.proofs.Refuting.{never_started, first_waits}

pub never_opens_past_end : NeverOpensPastEnd
never_opens_past_end bytes block piece tag s' (s1, inl (free, call), (s2, inl (free', start), rest)) = cc (call.admits.after.owed, free')
never_opens_past_end bytes block piece tag s' (s1, inl (free, call), (s2, inr none, rest)) = absurd none
never_opens_past_end bytes block piece tag s' (s1, inr none, rest) = absurd none

pub reaches_last_sector : ReachesLastSector
reaches_last_sector = (_, called neighbours _ (write 4 2 (full_of 165)) refl refl refl, IsSame-refl _)

pub writes_not_past_end : NeverWritesBeyond neighbours last_sector 5
writes_not_past_end piece tag lba count fua block means past =
    never_started neighbours last_sector piece tag block (
      (λ places may h asks.
          let same : (lba ≡ 2 + (2 + places.first)) × (count ≡ places.count) = one_write block _ _ _ _ _ _ means (write_forms block _ _ _ asks) in
          let inside : places.first + places.count ≤ 1 = h.inside in
          omega arith),
      tt,
    )

pub reaches_first_bad : ReachesFirstBad
reaches_first_bad =
    let w : Mark → OpenRequest = λ a. opened 1 (write 0 4 (full_of 165 ++ full_of 165)) (a ∷ Untouched ∷ []) in
    let p : Fate → Piece = λ fate. piece_of 1 0 1 0 fate in (
      _,
      called small _ (write 0 4 (full_of 165 ++ full_of 165)) refl refl refl,
      (
        _,
        started small _ (w Untouched) [] (one_place 0) 0 (write_block 2 1) refl tag_0 (IsPermutation-refl _) (search rules) (search rules) (search rules) (search rules),
        (
          _,
          faulted small _ (p Fresh) [] refl (search rules),
          (
            _,
            returned small _ (p Faulted) [] (w Out) [] (Bad (error_of_key 3)) (Failed DeviceDataError ∷ []) refl (IsPermutation-refl _) (IsPermutation-refl _) refl (search rules),
            IsSame-refl _,
          ),
        ),
      ),
    )

pub writes_not_again : NeverWritesAt small first_bad 2
writes_not_again piece tag count fua block means =
    let o : OpenRequest = opened 1 (write 0 4 (full_of 165 ++ full_of 165)) (Failed DeviceDataError ∷ Untouched ∷ []) in
    never_started small first_bad piece tag block (
      (λ places may h asks.
          let same : (2 ≡ 2 + (0 + places.first)) × (count ≡ places.count) = one_write block _ _ _ _ _ _ means (write_forms block _ _ _ asks) in
          let from : places.first ≡ 0 = omega arith in
          let waits : false ≡ true = first_waits small o places (Failed DeviceDataError) (Untouched ∷ []) refl from h in
          cc),
      tt,
    )

pub sends_the_other : SendsTheOther
sends_the_other =
    let w : Mark → OpenRequest = λ b. opened 1 (write 0 4 (full_of 165 ++ full_of 165)) (Failed DeviceDataError ∷ b ∷ []) in
    let k : Fate → Piece = λ fate. piece_of 2 0 1 1 fate in
    let sector = full_of 165 ∷ [] in (
      _,
      started small _ (w Untouched) [] (one_place 1) 0 (write_block 3 1) refl tag_0 (IsPermutation-refl _) (search rules) (search rules) (search rules) (search rules),
      (
        _,
        acted small _ (k Fresh) [] (w Out) sector (sectors 0 165 0) (full_of 165) refl (search rules) (search rules) refl refl (search rules) refl,
        (
          _,
          returned small _ (k (Acted sector)) [] (w Out) [] Good (Done (full_of 165) ∷ []) refl (IsPermutation-refl _) (IsPermutation-refl _) refl (search rules),
          (
            _,
            answered small _ (w (Done (full_of 165))) [] DeviceDataError [] refl (IsPermutation-refl _) (inr (DeviceDataError, refl), (inl refl, tt)) (search rules) refl refl,
            IsSame-refl _,
          ),
        ),
      ),
    )

pub reaches_held_behind : ReachesHeldBehind
reaches_held_behind = Run-append one_below (opening zeros) two_reads waits_behind (Pause ∷ []) held_behind reaches_waits_behind (_, paused one_below _ refl refl refl, IsSame-refl _)

pub starts_not_behind : NeverStarts one_below held_behind
starts_not_behind piece tag block =
    let r : OpenRequest = opened 1 (read 0 2) (Out ∷ []) in
    never_started one_below held_behind piece tag block (
      (λ places may h asks. let late : true ≡ false = may.not_held refl in cc),
      (
        (λ places may h asks.
            let from : places.first ≡ 0 = omega (arith, h.inside, h.some) in
            let waits : false ≡ true = first_waits one_below r places Out [] refl from h in
            cc),
        tt,
      ),
    )

pub reaches_held_alone : ReachesHeldAlone
reaches_held_alone = reaches_alone true

pub starts_not_alone : NeverStarts one_below held_alone
starts_not_alone piece tag block =
    never_started one_below held_alone piece tag block ((λ places may h asks. let late : true ≡ false = may.not_held refl in cc), tt)

pub starts_not_again : NeverStarts small worn_out
starts_not_again piece tag block =
    never_started small worn_out piece tag block (
      (λ places may h asks.
          let from : places.first ≡ 0 = omega (arith, h.inside, h.some) in
          let left : 0 < restarts_left small r = h.spare refl (ap (λ first. is_back (mark_at r first)) from) in
          absurd (omega arith)),
      tt,
    )
  where
    r : OpenRequest
    r = record (opened 1 (write 0 2 (full_of 165)) (Back ∷ [])) { busy_returns = 2 }

pub reaches_removing_out : ReachesRemovingOut
reaches_removing_out =
    let r : Mark → OpenRequest = λ mark. opened 1 (read 0 2) (mark ∷ []) in (
      _,
      called small _ (read 0 2) refl refl refl,
      (
        _,
        started small _ (r Untouched) [] (one_place 0) 0 (read_block 2 1) refl tag_0 (IsPermutation-refl _) (search rules) (search rules) (search rules) (search rules),
        (
          _,
          paused small _ refl refl refl,
          (
            _,
            removing small _ refl refl,
            IsSame-refl _,
          ),
        ),
      ),
    )

pub ends_not_with_piece_out : Never small removing_out Removed
ends_not_with_piece_out s' (inl (free, h)) = cc (h.none_open)
ends_not_with_piece_out s' (inr none) = none
