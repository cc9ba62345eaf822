-- Runs of requests that are carried out.
use Rattle.std.proofs.Common.{ℕ, ◌+◌, Bool, true, false, [], ◌∷◌, ◌++◌, refl, rules}
use Rattle.std.proofs.lemmas.List.Sorted.{IsPermutation-refl}
use Rattle.ntstatus.specs.declared.NtStatus.TheVariants.{Success}
use Rattle.srb.specs.declared.Class.TheVariants.{Good, Busy}
use Rattle.sector.specs.declared.Extent.{Extent}
use Rattle.srb.specs.Fate.{Fate, Fresh, Acted}
use Rattle.srb.specs.declared.DeviceLabel.TheVariants.{Act, Return}
use Rattle.machine.specs.declared.Label.TheVariants.{Device, Answer}
use Rattle.machine.specs.State.{OpenRequest, Piece, Mark, Untouched, Out, Done, Back}
use Rattle.machine.specs.Sending.{given_back}
use Rattle.machine.specs.Step.{Run}
use Rattle.machine.proofs.Same.{IsSame-refl}
use Rattle.worked_runs.specs.Small.{small, zeros, full_of, sectors, idle, read, write, flush, read_block, write_block, sync_block, opened, one_place, piece_of}
use Rattle.worked_runs.specs.Served.{WritesThenReads, pairs, JoinsInOrder, Flushes, written_through, WritesThrough, SendsAgain, SucceedsThoughCancelled}
use Rattle.worked_runs.proofs.Steps.{called, started, acted, returned, answered, cancelled, tag_0, tag_1}

pub writes_then_reads : WritesThenReads
writes_then_reads =
    let w : Mark → OpenRequest = λ mark. opened 1 (write 0 2 (full_of 165)) (mark ∷ []) in
    let r : Mark → OpenRequest = λ mark. opened 2 (read 0 2) (mark ∷ []) in
    let p : Fate → Piece = λ fate. piece_of 1 0 1 0 fate in
    let k : Fate → Piece = λ fate. piece_of 2 0 2 0 fate in
    let sector = full_of 165 ∷ [] in (
      _,
      called small _ (write 0 2 (full_of 165)) refl refl refl,
      (
        _,
        started small _ (w Untouched) [] (one_place 0) 0 (write_block 2 1) refl tag_0 (IsPermutation-refl _) (search rules) (search rules) (search rules) (search rules),
        (
          _,
          acted small _ (p Fresh) [] (w Out) sector (sectors 165 0 0) (full_of 165) refl (search rules) (search rules) refl refl (search rules) refl,
          (
            _,
            returned small _ (p (Acted sector)) [] (w Out) [] Good (Done (full_of 165) ∷ []) refl (IsPermutation-refl _) (IsPermutation-refl _) refl (search rules),
            (
              _,
              answered small _ (w (Done (full_of 165))) [] Success [] refl (IsPermutation-refl _) (search rules) (search rules) (search rules) refl,
              (
                _,
                called small _ (read 0 2) refl refl refl,
                (
                  _,
                  started small _ (r Untouched) [] (one_place 0) 0 (read_block 2 1) refl tag_0 (IsPermutation-refl _) (search rules) (search rules) (search rules) (search rules),
                  (
                    _,
                    acted small _ (k Fresh) [] (r Out) sector (sectors 165 0 0) (full_of 165) refl (search rules) (search rules) refl refl (search rules) refl,
                    (
                      _,
                      returned small _ (k (Acted sector)) [] (r Out) [] Good (Done (full_of 165) ∷ []) refl (IsPermutation-refl _) (IsPermutation-refl _) refl (search rules),
                      (
                        _,
                        answered small _ (r (Done (full_of 165))) [] Success (full_of 165) refl (IsPermutation-refl _) (search rules) (search rules) (search rules) refl,
                        IsSame-refl _,
                      ),
                    ),
                  ),
                ),
              ),
            ),
          ),
        ),
      ),
    )

pub joins_in_order : JoinsInOrder
joins_in_order =
    let r : Mark → Mark → Mark → OpenRequest = λ a b c. opened 1 (read 0 6) (a ∷ b ∷ c ∷ []) in
    let first_two : Extent = record { first = 0; count = 2 } in
    let p : Fate → Piece = λ fate. record { number = 1; tag = 0; owner = 1; places = first_two; fate = fate } in
    let k : Fate → Piece = λ fate. piece_of 2 1 1 2 fate in
    let array = sectors 17 34 51 in
    let low = full_of 17 ∷ full_of 34 ∷ [] in
    let high = full_of 51 ∷ [] in
    let a = Done (full_of 17) in
    let b = Done (full_of 34) in
    let c = Done (full_of 51) in (
      _,
      called pairs _ (read 0 6) refl refl refl,
      (
        _,
        started pairs _ (r Untouched Untouched Untouched) [] first_two 0 (read_block 2 2) refl tag_0 (IsPermutation-refl _) (search rules) (search rules) (search rules) (search rules),
        (
          _,
          started pairs _ (r Out Out Untouched) [] (one_place 2) 1 (read_block 4 1) refl (tag_1 (p Fresh) refl) (IsPermutation-refl _) (search rules) (search rules) (search rules) (search rules),
          (
            _,
            acted pairs _ (k Fresh) (p Fresh ∷ []) (r Out Out Out) high array (full_of 51) refl (search rules) (search rules) refl refl (search rules) refl,
            (
              _,
              returned pairs _ (k (Acted high)) (p Fresh ∷ []) (r Out Out Out) [] Good (c ∷ []) refl (IsPermutation-refl _) (IsPermutation-refl _) refl (search rules),
              (
                _,
                acted pairs _ (p Fresh) [] (r Out Out c) low array (full_of 17 ++ full_of 34) refl (search rules) (search rules) refl refl (search rules) refl,
                (
                  _,
                  returned pairs _ (p (Acted low)) [] (r Out Out c) [] Good (a ∷ b ∷ []) refl (IsPermutation-refl _) (IsPermutation-refl _) refl (search rules),
                  (
                    _,
                    answered pairs _ (r a b c) [] Success (full_of 17 ++ full_of 34 ++ full_of 51) refl (IsPermutation-refl _) (search rules) (search rules) (search rules) refl,
                    IsSame-refl _,
                  ),
                ),
              ),
            ),
          ),
        ),
      ),
    )

pub flushes : Flushes
flushes =
    let f : Mark → OpenRequest = λ mark. opened 1 flush (mark ∷ []) in
    let p : Fate → Piece = λ fate. piece_of 1 0 1 0 fate in (
      _,
      called small _ flush refl refl refl,
      (
        _,
        started small _ (f Untouched) [] (one_place 0) 0 sync_block refl tag_0 (IsPermutation-refl _) (search rules) (search rules) (search rules) (search rules),
        (
          _,
          acted small _ (p Fresh) [] (f Out) ([] ∷ []) zeros [] refl (search rules) (search rules) refl refl (search rules) refl,
          (
            _,
            returned small _ (p (Acted ([] ∷ []))) [] (f Out) [] Good (Done [] ∷ []) refl (IsPermutation-refl _) (IsPermutation-refl _) refl (search rules),
            (
              _,
              answered small _ (f (Done [])) [] Success [] refl (IsPermutation-refl _) (search rules) (search rules) (search rules) refl,
              IsSame-refl _,
            ),
          ),
        ),
      ),
    )

-- a write of one sector that is at the adapter, whatever has become of it before
abbrev at_adapter : ℕ → Bool → Bool → OpenRequest
at_adapter times through marked = record (opened 1 (record (write 0 2 (full_of 165)) { through = through }) (Out ∷ [])) { cancelled = marked; busy_returns = times }

-- it is carried out
written : (number times : ℕ) (through marked : Bool)
    → Run small (record (idle zeros 2 (number + 1)) { requests = at_adapter times through marked ∷ []; pieces = piece_of number 0 1 0 Fresh ∷ [] })
    (Device (Act number (full_of 165)) ∷ Device (Return number Good) ∷ Answer 1 Success 2 [] ∷ []) (idle (sectors 165 0 0) 2 (number + 1))
written number times through marked =
    let w : OpenRequest = at_adapter times through marked in
    let p : Fate → Piece = λ fate. piece_of number 0 1 0 fate in
    let sector = full_of 165 ∷ [] in (
      _,
      acted small _ (p Fresh) [] w sector (sectors 165 0 0) (full_of 165) refl (search rules) (search rules) refl refl (search rules) refl,
      (
        _,
        returned small _ (p (Acted sector)) [] w [] Good (Done (full_of 165) ∷ []) refl (IsPermutation-refl _) (IsPermutation-refl _) refl (search rules),
        (
          _,
          answered small _ (given_back (p (Acted sector)) Good (Done (full_of 165) ∷ []) w) [] Success [] refl (IsPermutation-refl _) (search rules) (search rules) (search rules) refl,
          IsSame-refl _,
        ),
      ),
    )

pub writes_through : WritesThrough
writes_through = (
  _,
  called small _ written_through refl refl refl,
  (
    _,
    started small _ (opened 1 written_through (Untouched ∷ [])) [] (one_place 0) 0 _ refl tag_0 (IsPermutation-refl _) (search rules) (search rules) (search rules) (search rules),
    written 1 0 true false,
  ),
)

pub sends_again : SendsAgain
sends_again =
    let w : ℕ → Mark → OpenRequest = λ times mark. record (opened 1 (write 0 2 (full_of 165)) (mark ∷ [])) { busy_returns = times } in (
      _,
      called small _ (write 0 2 (full_of 165)) refl refl refl,
      (
        _,
        started small _ (w 0 Untouched) [] (one_place 0) 0 (write_block 2 1) refl tag_0 (IsPermutation-refl _) (search rules) (search rules) (search rules) (search rules),
        (
          _,
          returned small _ (piece_of 1 0 1 0 Fresh) [] (w 0 Out) [] Busy (Back ∷ []) refl (IsPermutation-refl _) (IsPermutation-refl _) refl (search rules),
          (
            _,
            started small _ (w 1 Back) [] (one_place 0) 0 (write_block 2 1) refl tag_0 (IsPermutation-refl _) (search rules) (search rules) (search rules) (search rules),
            written 2 1 false false,
          ),
        ),
      ),
    )

pub succeeds_though_cancelled : SucceedsThoughCancelled
succeeds_though_cancelled =
    let w : Mark → OpenRequest = λ mark. opened 1 (write 0 2 (full_of 165)) (mark ∷ []) in (
      _,
      called small _ (write 0 2 (full_of 165)) refl refl refl,
      (
        _,
        started small _ (w Untouched) [] (one_place 0) 0 (write_block 2 1) refl tag_0 (IsPermutation-refl _) (search rules) (search rules) (search rules) (search rules),
        (
          _,
          cancelled small _ (w Out) [] refl (IsPermutation-refl _) refl,
          written 1 0 false true,
        ),
      ),
    )
