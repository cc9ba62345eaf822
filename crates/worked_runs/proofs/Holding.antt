-- Runs with a hold, and with a removal.
use Rattle.std.proofs.Common.{true, [], ◌∷◌, ◌++◌, refl, inl, inr, rules}
use Rattle.std.proofs.lemmas.List.Sorted.{IsPermutation-refl}
use Rattle.ntstatus.specs.declared.NtStatus.TheVariants.{Success, NoSuchDevice, DeletePending}
use Rattle.srb.specs.declared.Class.TheVariants.{Good}
use Rattle.srb.specs.Fate.{Fate, Fresh, Acted}
use Rattle.machine.specs.State.{OpenRequest, Piece, Mark, Untouched, Out, Done}
use Rattle.machine.proofs.Commuting.{swapped}
use Rattle.machine.proofs.Same.{IsSame-refl}
use Rattle.worked_runs.specs.Small.{small, full_of, sectors, read, write, read_block, write_block, opened, one_place, piece_of}
use Rattle.worked_runs.specs.Held.{HoldsThenResumes, RemovesAll, SurprisesAll}
use Rattle.worked_runs.proofs.Steps.{called, started, acted, returned, answered, paused, resumed, removing, surprised, removed, refused, told, tag_0, tag_1}

pub holds_then_resumes : HoldsThenResumes
holds_then_resumes =
    let r : Mark → OpenRequest = λ mark. opened 1 (read 0 2) (mark ∷ []) in
    let held : OpenRequest = record (opened 2 (read 2 2) (Untouched ∷ [])) { late = true } in
    let q : Mark → OpenRequest = λ mark. opened 2 (read 2 2) (mark ∷ []) in
    let p : Fate → Piece = λ fate. piece_of 1 0 1 0 fate in
    let k : Fate → Piece = λ fate. piece_of 2 0 2 0 fate in
    let array = sectors 17 34 51 in
    let a = full_of 17 in
    let b = full_of 34 in (
      _,
      called small _ (read 0 2) refl refl refl,
      (
        _,
        started small _ (r Untouched) [] (one_place 0) 0 (read_block 2 1) refl tag_0 (IsPermutation-refl _) (search rules) (search rules) (search rules) (search rules),
        (
          _,
          paused small _ refl refl refl,
          (
            _,
            called small _ (read 2 2) refl refl refl,
            (
              _,
              acted small _ (p Fresh) [] (r Out) (a ∷ []) array a refl (search rules) (search rules) refl refl (search rules) refl,
              (
                _,
                returned small _ (p (Acted (a ∷ []))) [] (r Out) (held ∷ []) Good (Done a ∷ []) refl (IsPermutation-refl _) (swapped held (r Out) []) refl (search rules),
                (
                  _,
                  answered small _ (r (Done a)) (held ∷ []) Success a refl (IsPermutation-refl _) (search rules) (search rules) (search rules) refl,
                  (
                    _,
                    resumed small _ refl refl,
                    (
                      _,
                      started small _ (q Untouched) [] (one_place 0) 0 (read_block 3 1) refl tag_0 (IsPermutation-refl _) (search rules) (search rules) (search rules) (search rules),
                      (
                        _,
                        acted small _ (k Fresh) [] (q Out) (b ∷ []) array b refl (search rules) (search rules) refl refl (search rules) refl,
                        (
                          _,
                          returned small _ (k (Acted (b ∷ []))) [] (q Out) [] Good (Done b ∷ []) refl (IsPermutation-refl _) (IsPermutation-refl _) refl (search rules),
                          (
                            _,
                            answered small _ (q (Done b)) [] Success b refl (IsPermutation-refl _) (search rules) (search rules) (search rules) refl,
                            IsSame-refl _,
                          ),
                        ),
                      ),
                    ),
                  ),
                ),
              ),
            ),
          ),
        ),
      ),
    )

pub removes_all : RemovesAll
removes_all =
    let data' = full_of 165 ++ full_of 165 ++ full_of 165 in
    let w : Mark → Mark → OpenRequest = λ a b. opened 1 (write 0 6 data') (a ∷ b ∷ Untouched ∷ []) in
    let held : OpenRequest = record (opened 2 (read 0 2) (Untouched ∷ [])) { late = true } in
    let p : Fate → Piece = λ fate. piece_of 1 0 1 0 fate in
    let k : Fate → Piece = λ fate. piece_of 2 1 1 1 fate in
    let sector = full_of 165 ∷ [] in
    let d = Done (full_of 165) in (
      _,
      called small _ (write 0 6 data') refl refl refl,
      (
        _,
        started small _ (w Untouched Untouched) [] (one_place 0) 0 (write_block 2 1) refl tag_0 (IsPermutation-refl _) (search rules) (search rules) (search rules) (search rules),
        (
          _,
          started small _ (w Out Untouched) [] (one_place 1) 1 (write_block 3 1) refl (tag_1 (p Fresh) refl) (IsPermutation-refl _) (search rules) (search rules) (search rules) (search rules),
          (
            _,
            paused small _ refl refl refl,
            (
              _,
              called small _ (read 0 2) refl refl refl,
              (
                _,
                removing small _ refl refl,
                (
                  _,
                  answered small _ held (w Out Out ∷ []) DeletePending [] refl (IsPermutation-refl _) (inr (DeletePending, inr (refl, refl)), tt) (search rules) (inr (refl, refl)) refl,
                  (
                    _,
                    acted small _ (p Fresh) (k Fresh ∷ []) (w Out Out) sector (sectors 165 0 0) (full_of 165)
                        refl (record { is_out = swapped (k Fresh) (p Fresh) []; is_number = refl; is_fresh = refl }) (search rules) refl refl (search rules) refl,
                    (
                      _,
                      returned small _ (p (Acted sector)) (k Fresh ∷ []) (w Out Out) [] Good (d ∷ []) refl (IsPermutation-refl _) (IsPermutation-refl _) refl (search rules),
                      (
                        _,
                        acted small _ (k Fresh) [] (w d Out) sector (sectors 165 165 0) (full_of 165) refl (search rules) (search rules) refl refl (search rules) refl,
                        (
                          _,
                          returned small _ (k (Acted sector)) [] (w d Out) [] Good (d ∷ []) refl (IsPermutation-refl _) (IsPermutation-refl _) refl (search rules),
                          (
                            _,
                            answered small _ (w d d) [] NoSuchDevice [] refl (IsPermutation-refl _) (inl refl, (inl refl, (inr (NoSuchDevice, inr (refl, refl)), tt))) (search rules) (inr (refl, refl)) refl,
                            (
                              _,
                              removed small _ refl refl refl refl,
                              (
                                _,
                                refused small _ (read 0 2) DeletePending refl refl refl,
                                (
                                  _,
                                  told small _ 3 DeletePending refl,
                                  IsSame-refl _,
                                ),
                              ),
                            ),
                          ),
                        ),
                      ),
                    ),
                  ),
                ),
              ),
            ),
          ),
        ),
      ),
    )

pub surprises_all : SurprisesAll
surprises_all =
    let r : Mark → OpenRequest = λ mark. opened 1 (read 0 2) (mark ∷ []) in
    let q : Mark → OpenRequest = λ mark. opened 2 (read 2 2) (mark ∷ []) in
    let late : OpenRequest = record (opened 3 (read 4 2) (Untouched ∷ [])) { late = true } in
    let p : Fate → Piece = λ fate. piece_of 1 0 1 0 fate in
    let k : Fate → Piece = λ fate. piece_of 2 1 2 0 fate in
    let array = sectors 17 34 51 in
    let a = full_of 17 in
    let b = full_of 34 in
    (_, called small _ (read 0 2) refl refl refl, (_, started small _ (r Untouched) [] (one_place 0) 0 (read_block 2 1) refl tag_0 (IsPermutation-refl _) (search rules) (search rules) (search rules) (search rules), (_, called small _ (read 2 2) refl refl refl, (_, started small _ (q Untouched) (r Out ∷ []) (one_place 0) 1 (read_block 3 1) refl (tag_1 (p Fresh) refl) (IsPermutation-refl _) (search rules) (search rules) (search rules) (search rules), (_, called small _ (read 4 2) refl refl refl, (_, surprised small _ refl refl, (_, answered small _ late (q Out ∷ r Out ∷ []) DeletePending [] refl (IsPermutation-refl _) (inr (DeletePending, inr (refl, refl)), tt) (search rules) (inr (refl, refl)) refl, (_, acted small _ (k Fresh) (p Fresh ∷ []) (q Out) (b ∷ []) array b refl (record { is_out = IsPermutation-refl _; is_number = refl; is_fresh = refl }) (search rules) refl refl (search rules) refl, (_, returned small _ (k (Acted (b ∷ []))) (p Fresh ∷ []) (q Out) (r Out ∷ []) Good (Done b ∷ []) refl (IsPermutation-refl _) (IsPermutation-refl _) refl (search rules), (_, answered small _ (q (Done b)) (r Out ∷ []) Success b refl (IsPermutation-refl _) (search rules) (search rules) (search rules) refl, (_, acted small _ (p Fresh) [] (r Out) (a ∷ []) array a refl (search rules) (search rules) refl refl (search rules) refl, (_, returned small _ (p (Acted (a ∷ []))) [] (r Out) [] Good (Done a ∷ []) refl (IsPermutation-refl _) (IsPermutation-refl _) refl (search rules), (_, answered small _ (r (Done a)) [] Success a refl (IsPermutation-refl _) (search rules) (search rules) (search rules) refl, (_, removed small _ refl refl refl refl, IsSame-refl _))))))))))))))
