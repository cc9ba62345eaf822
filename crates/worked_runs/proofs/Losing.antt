-- Requests lost, answered twice, or given what isn't theirs.
use Rattle.std.proofs.Common.{◌≡◌, Bool, [], ◌∷◌, ◌++◌, refl, inl, inr, true, false, rules}
use Rattle.std.proofs.lemmas.List.Sorted.{IsPermutation-refl}
use Rattle.std.proofs.lemmas.List.Elements.{All-from_recursion}
use Rattle.ntstatus.specs.declared.NtStatus.TheVariants.{Success, Cancelled}
use Rattle.srb.specs.declared.Class.TheVariants.{Good}
use Rattle.srb.specs.Fate.{Fate, Fresh, Acted}
use Rattle.sector.specs.declared.Extent.{Extent}
use Rattle.machine.specs.declared.Label.TheVariants.{Answer}
use Rattle.machine.specs.State.{OpenRequest, Piece, Mark, State, Untouched, Out, Done}
use Rattle.machine.specs.Settled.{Settled, WaitsIfCancelled, IsAllSent, HasGone, IsHeldBack, HasMore, IsAtWork}
use Rattle.machine.specs.Step.{Run}
use Rattle.machine.proofs.Commuting.{swapped, untouched_ends_not}
use Rattle.machine.proofs.Same.{IsSame-refl, Step-same}
use Rattle.worked_runs.specs.Small.{small, zeros, full_of, sectors, idle, read, write, read_block, write_block, opened, one_place, piece_of}
use Rattle.worked_runs.specs.Served.{pairs}
use Rattle.worked_runs.specs.Impossible.{Never, NeverAnswers, NeverAnswersAs, NeverStarts, cut, ReachesCut, AnswersOnce, NeverRefusesWithoutCause, last_unsent, ReachesLastUnsent, both_back, ReachesBothBack, one_of_two, ReachesOneOfTwo, one_below, waits_behind, ReachesWaitsBehind, behind, alone, first_answered, left_behind, ReachesLeftBehind}
use Rattle.worked_runs.proofs.Steps.{called, started, acted, returned, answered, cancelled, tag_0, tag_1}
use Rattle.worked_runs.proofs.Refuting.{never_answered, never_succeeds, never_started}

pub reaches_cut : ReachesCut
reaches_cut =
    let w : Bool → Mark → Mark → OpenRequest = λ marked a b. record (opened 1 (write 0 6 (full_of 165 ++ full_of 165 ++ full_of 165)) (a ∷ b ∷ Untouched ∷ [])) { cancelled = marked } in
    let p : Fate → Piece = λ fate. piece_of 1 0 1 0 fate in
    let k : Piece = piece_of 2 1 1 1 Fresh in
    let sector = full_of 165 ∷ [] in (
      _,
      called small _ (write 0 6 (full_of 165 ++ full_of 165 ++ full_of 165)) refl refl refl,
      (
        _,
        started small _ (w false Untouched Untouched) [] (one_place 0) 0 (write_block 2 1) refl tag_0 (IsPermutation-refl _) (search rules) (search rules) (search rules) (search rules),
        (
          _,
          started small _ (w false Out Untouched) [] (one_place 1) 1 (write_block 3 1) refl (tag_1 (p Fresh) refl) (IsPermutation-refl _) (search rules) (search rules) (search rules) (search rules),
          (
            _,
            cancelled small _ (w false Out Out) [] refl (IsPermutation-refl _) refl,
            (
              _,
              acted small _ (p Fresh) (k ∷ []) (w true Out Out) sector (sectors 165 0 0) (full_of 165)
                  refl (record { is_out = swapped k (p Fresh) []; is_number = refl; is_fresh = refl }) (search rules) refl refl (search rules) refl,
              (
                _,
                returned small _ (p (Acted sector)) (k ∷ []) (w true Out Out) [] Good (Done (full_of 165) ∷ []) refl (IsPermutation-refl _) (IsPermutation-refl _) refl (search rules),
                IsSame-refl _,
              ),
            ),
          ),
        ),
      ),
    )

pub starts_not_cut : NeverStarts small cut
starts_not_cut piece tag block = never_started small cut piece tag block ((λ places may h asks. let marked : true ≡ false = may.not_cancelled in cc), tt)

pub answers_once : AnswersOnce
answers_once =
    let r : OpenRequest = opened 1 (read 0 2) (Untouched ∷ []) in
    let marked : OpenRequest = record r { cancelled = true } in (
      _,
      called small _ (read 0 2) refl refl refl,
      (
        _,
        cancelled small _ r [] refl (IsPermutation-refl _) refl,
        (
          _,
          answered small _ marked [] Cancelled [] refl (IsPermutation-refl _) (inr (Cancelled, inl (refl, refl)), tt) (search rules) (inl (refl, refl)) refl,
          IsSame-refl _,
        ),
      ),
    )

pub answers_not_twice : NeverAnswers small (idle zeros 2 1) 1
answers_not_twice status informed bytes = never_answered small (idle zeros 2 1) 1 status informed bytes refl tt

pub refuses_not_without_cause : NeverRefusesWithoutCause
refuses_not_without_cause status informed bytes s' (s1, inl (free, call), (s2, step, rest)) =
    let o : OpenRequest = opened 1 (read 0 2) (Untouched ∷ []) in
    let there : State = record (idle zeros 2 1) { requests = o ∷ [] } in
    never_answered small there 1 status informed bytes refl ((λ number (e0, e1) success cause hands. untouched_ends_not small there o refl refl e0), tt)
    s2 (Step-same small (Answer 1 status informed bytes) s1 there s2 s2 call.admits.after (IsSame-refl s2) step)
refuses_not_without_cause status informed bytes s' (s1, inr none, rest) = absurd none

pub reaches_last_unsent : ReachesLastUnsent
reaches_last_unsent =
    let r : Mark → Mark → OpenRequest = λ a b. opened 1 (read 0 6) (a ∷ b ∷ Untouched ∷ []) in
    let first_two : Extent = record { first = 0; count = 2 } in
    let p : Fate → Piece = λ fate. record { number = 1; tag = 0; owner = 1; places = first_two; fate = fate } in
    let array = sectors 17 34 51 in
    let low = full_of 17 ∷ full_of 34 ∷ [] in (
      _,
      called pairs _ (read 0 6) refl refl refl,
      (
        _,
        started pairs _ (r Untouched Untouched) [] first_two 0 (read_block 2 2) refl tag_0 (IsPermutation-refl _) (search rules) (search rules) (search rules) (search rules),
        (
          _,
          acted pairs _ (p Fresh) [] (r Out Out) low array (full_of 17 ++ full_of 34) refl (search rules) (search rules) refl refl (search rules) refl,
          (
            _,
            returned pairs _ (p (Acted low)) [] (r Out Out) [] Good (Done (full_of 17) ∷ Done (full_of 34) ∷ []) refl (IsPermutation-refl _) (IsPermutation-refl _) refl (search rules),
            IsSame-refl _,
          ),
        ),
      ),
    )

pub succeeds_not_without_last : NeverAnswersAs pairs last_unsent 1 Success
succeeds_not_without_last = never_succeeds pairs last_unsent 1 refl (refl, tt)

pub reaches_both_back : ReachesBothBack
reaches_both_back =
    let r : Mark → Mark → OpenRequest = λ a b. opened 1 (read 0 4) (a ∷ b ∷ []) in
    let p : Fate → Piece = λ fate. piece_of 1 0 1 0 fate in
    let k : Fate → Piece = λ fate. piece_of 2 1 1 1 fate in
    let array = sectors 17 34 51 in
    let a = full_of 17 in
    let b = full_of 34 in (
      _,
      called small _ (read 0 4) refl refl refl,
      (
        _,
        started small _ (r Untouched Untouched) [] (one_place 0) 0 (read_block 2 1) refl tag_0 (IsPermutation-refl _) (search rules) (search rules) (search rules) (search rules),
        (
          _,
          started small _ (r Out Untouched) [] (one_place 1) 1 (read_block 3 1) refl (tag_1 (p Fresh) refl) (IsPermutation-refl _) (search rules) (search rules) (search rules) (search rules),
          (
            _,
            acted small _ (k Fresh) (p Fresh ∷ []) (r Out Out) (b ∷ []) array b refl (search rules) (search rules) refl refl (search rules) refl,
            (
              _,
              returned small _ (k (Acted (b ∷ []))) (p Fresh ∷ []) (r Out Out) [] Good (Done b ∷ []) refl (IsPermutation-refl _) (IsPermutation-refl _) refl (search rules),
              (
                _,
                acted small _ (p Fresh) [] (r Out (Done b)) (a ∷ []) array a refl (search rules) (search rules) refl refl (search rules) refl,
                (
                  _,
                  returned small _ (p (Acted (a ∷ []))) [] (r Out (Done b)) [] Good (Done a ∷ []) refl (IsPermutation-refl _) (IsPermutation-refl _) refl (search rules),
                  IsSame-refl _,
                ),
              ),
            ),
          ),
        ),
      ),
    )

pub joins_not_by_return : Never small both_back (Answer 1 Success 4 (full_of 34 ++ full_of 17))
joins_not_by_return =
    never_answered small both_back 1 Success 4 (full_of 34 ++ full_of 17) refl ((λ number ended success cause hands. cc (hands)), tt)

pub reaches_one_of_two : ReachesOneOfTwo
reaches_one_of_two =
    let r : Mark → OpenRequest = λ mark. opened 1 (read 0 2) (mark ∷ []) in
    let other : OpenRequest = opened 2 (read 0 2) (Untouched ∷ []) in
    let p : Fate → Piece = λ fate. piece_of 1 0 1 0 fate in
    let a = full_of 17 in (
      _,
      called small _ (read 0 2) refl refl refl,
      (
        _,
        started small _ (r Untouched) [] (one_place 0) 0 (read_block 2 1) refl tag_0 (IsPermutation-refl _) (search rules) (search rules) (search rules) (search rules),
        (
          _,
          called small _ (read 0 2) refl refl refl,
          (
            _,
            acted small _ (p Fresh) [] (r Out) (a ∷ []) (sectors 17 34 51) a refl (search rules) (search rules) refl refl (search rules) refl,
            (
              _,
              returned small _ (p (Acted (a ∷ []))) [] (r Out) (other ∷ []) Good (Done a ∷ []) refl (IsPermutation-refl _) (swapped other (r Out) []) refl (search rules),
              IsSame-refl _,
            ),
          ),
        ),
      ),
    )

pub answers_not_the_other : NeverAnswers small one_of_two 2
answers_not_the_other status informed bytes =
    let other : OpenRequest = opened 2 (read 0 2) (Untouched ∷ []) in
    never_answered small one_of_two 2 status informed bytes refl (
      (λ number ended success cause hands. cc (number)),
      (
        (λ number (e0, e1) success cause hands. untouched_ends_not small one_of_two other refl refl e0),
        tt,
      ),
    )

pub reaches_waits_behind : ReachesWaitsBehind
reaches_waits_behind =
    let r : Mark → OpenRequest = λ mark. opened 1 (read 0 2) (mark ∷ []) in (
      _,
      called one_below _ (read 0 2) refl refl refl,
      (
        _,
        started one_below _ (r Untouched) [] (one_place 0) 0 (read_block 2 1) refl tag_0 (IsPermutation-refl _) (search rules) (search rules) (search rules) (search rules),
        (
          _,
          called one_below _ (read 2 2) refl refl refl,
          IsSame-refl _,
        ),
      ),
    )

pub settled_behind : Settled one_below waits_behind
settled_behind =
    let r : OpenRequest = opened 1 (read 0 2) (Out ∷ []) in
    let other : OpenRequest = opened 2 (read 2 2) (Untouched ∷ []) in
    let both = other ∷ r ∷ [] in
    record {
      none_owed = refl;
      idle = λ none. cc (none);
      idle_unpaused = λ none. cc (none);
      cancelled = All-from_recursion WaitsIfCancelled both ((λ h. cc (h)), ((λ h. cc (h)), tt));
      removing = λ h. cc (h);
      sent = λ below stays. All-from_recursion (IsAllSent one_below) both (
        (λ timely started. cc (started)),
        ((λ timely started. All-from_recursion (HasGone one_below r) (Out ∷ []) (tt, tt)), tt),
      );
      released = λ below stays. All-from_recursion (IsHeldBack one_below waits_behind) both ((λ h. inr (search rules)), ((λ h. cc (h)), tt));
      alive = All-from_recursion HasMore both ((λ h. cc (h)), ((λ h. inl refl), tt));
      at_work = λ below. All-from_recursion IsAtWork both ((λ h. cc (h)), ((λ h. refl), tt));
      within_window = search rules;
    }

-- the first of the two is answered, with or without a pause
pub reaches_alone : (held : Bool) → Run one_below (behind held) first_answered (alone held)
reaches_alone held =
    let r : Mark → OpenRequest = λ mark. opened 1 (read 0 2) (mark ∷ []) in
    let other : OpenRequest = record (opened 2 (read 2 2) (Untouched ∷ [])) { late = held } in
    let p : Fate → Piece = λ fate. piece_of 1 0 1 0 fate in
    let sector = full_of 0 ∷ [] in (
      _,
      acted one_below _ (p Fresh) [] (r Out) sector zeros (full_of 0) refl (search rules) (search rules) refl refl (search rules) refl,
      (
        _,
        returned one_below _ (p (Acted sector)) [] (r Out) (other ∷ []) Good (Done (full_of 0) ∷ []) refl (IsPermutation-refl _) (swapped other (r Out) []) refl (search rules),
        (
          _,
          answered one_below _ (r (Done (full_of 0))) (other ∷ []) Success (full_of 0) refl (IsPermutation-refl _) (search rules) (search rules) (search rules) refl,
          IsSame-refl _,
        ),
      ),
    )

pub reaches_left_behind : ReachesLeftBehind
reaches_left_behind = reaches_alone false

pub settled_not_left : Settled one_below left_behind → ⊥
settled_not_left h = cc (h.idle_unpaused refl refl)
