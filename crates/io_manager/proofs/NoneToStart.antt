-- Where none is left to start, the end of a request lets none start.
use Rattle.std.proofs.Common.{◌≡◌, ◌<◌, ◌≤◌, inl, inr, ℕ, suc, ◌+◌, Bool, true, false, cond, List, [], ◌∷◌, Option, Some, None, refl, sym, ◌∙◌, ap, subst, arith, map, length, get_or}
use Rattle.std.specs.Prelude.{IsPermutation, IsTrue, IsFalse, All, Contains, count_by}
use Rattle.std.specs.List.{list_any, remove}
use Rattle.io_manager.proofs.Common.{IsPermutation-sym, IsPermutation-remove, All-permutation, Contains-permutation, length_permutation, All-head, All-tail, All-weaker, All-contains, NtStatus, DeviceLabel, Start, Act, Fault, Return, Climb, Rules, HasOtherTag, IsStart, IsUnsent, Starts, is_started, sent, Answers, HasEnded, IsAtWork, IsFull, IsWithin, is_out, has_out, started_count, AreDistinct, request_number, Run, as_label, out_ends_not, distinct_first, is_first, DeviceView, IsOrderly, HandsUp, StaysIfStarted, IsKeptBack, HasNoneToStart}
use Rattle.machine.specs.State.{Mark, Untouched, Out, Done, Failed, Back, OpenRequest, State, IsSame}
use Rattle.io_manager.proofs.Starting.{free_leaves, out_first, unsent_first, HasOutAt, out_along, count_first, count_same, one_more, started_along}

-- WHAT HAS ENDED

ended_not_out : (rules : Rules) (s : State) (o : OpenRequest) (marks : List Mark) → All (HasEnded rules s o) marks → list_any is_out marks ≡ false
ended_not_out rules s o [] h = refl
ended_not_out rules s o (Out ∷ marks) h = absurd (out_ends_not rules s o (All-head (HasEnded rules s o) Out marks h))
ended_not_out rules s o (Untouched ∷ marks) h = ended_not_out rules s o marks (All-tail (HasEnded rules s o) Untouched marks h)
ended_not_out rules s o (Done sector ∷ marks) h = ended_not_out rules s o marks (All-tail (HasEnded rules s o) (Done sector) marks h)
ended_not_out rules s o (Failed status ∷ marks) h = ended_not_out rules s o marks (All-tail (HasEnded rules s o) (Failed status) marks h)
ended_not_out rules s o (Back ∷ marks) h = ended_not_out rules s o marks (All-tail (HasEnded rules s o) Back marks h)

not_at_work : (o : OpenRequest) → IsAtWork o → IsFalse (has_out o) → IsFalse (is_started o)
not_at_work o h none = by_test (is_started o) refl
  where
    by_test : (b : Bool) → is_started o ≡ b → is_started o ≡ false
    by_test false e = e
    by_test true e = let f : has_out o ≡ true = h e in cc (f, none)

too_many : (window : Option ℕ) (before after : ℕ) → IsFull window before → before < after → IsWithin window after → ⊥
too_many None before after full more within = absurd full
too_many (Some window) before after full more within = absurd (omega (arith, full, more, within))

out_unsent : (mark : Mark) → mark ≡ Out → IsUnsent mark → ⊥
out_unsent mark is unsent = let e : IsUnsent Out = subst IsUnsent is unsent in cc (e)

both_ways : (b : Bool) → IsTrue b → IsFalse b → ⊥
both_ways b is not_so = cc (is, not_so)

none_more : (a n : ℕ) → a ≡ 0 + n → a ≡ n
none_more a n e = omega arith

-- ONE REQUEST IS ANSWERED

module _ (rules : Rules) (s : State) (number : ℕ) (status : NtStatus) (bytes : List ℕ) (t : State) (a : Answers rules s number status bytes t)
    (none : HasNoneToStart rules s) where
  same_count : length s.pieces < rules.depth → started_count s ≡ count_by is_started a.others
  same_count free =
      let at_work : IsAtWork a.request = All-head IsAtWork a.request a.others (All-permutation IsAtWork _ _ a.is_open (none.at_work free)) in
      let unstarted : is_started a.request ≡ false = not_at_work a.request at_work (ended_not_out rules s a.request a.request.marks a.ended) in
      none_more _ _ (count_same s.requests (a.request ∷ a.others) a.is_open ∙ count_first a.request a.others ∙ ap (λ b. cond b 1 0 + count_by is_started a.others) unstarted)

  -- none is left after it
  pub none_after : (s' : State) → IsSame t s' → HasNoneToStart rules s'
  none_after s' same =
      let fewer : length s'.pieces < rules.depth → length s.pieces < rules.depth = λ free.
      (let n : length s'.pieces ≡ length t.pieces = length_permutation _ _ same.pieces in
      let m : length s.pieces ≡ length t.pieces = length_permutation _ _ a.after.pieces in
      omega arith) in
      let there : (P : OpenRequest → Type 0) → All P s.requests → All P s'.requests = λ P all.
      All-permutation P _ _ same.requests (All-permutation P _ _ (IsPermutation-sym _ _ a.after.requests) (All-tail P a.request a.others (All-permutation P _ _ a.is_open all))) in
      let count : length s.pieces < rules.depth → started_count s ≡ started_count s' = λ free.
      same_count free ∙ count_same _ _ (IsPermutation-sym _ _ a.after.requests) ∙ count_same _ _ same.requests in
      record {
        at_work = λ free. there IsAtWork (none.at_work (fewer free));
        kept_back = λ free staying.
            All-weaker (IsKeptBack rules s) (IsKeptBack rules s')
            (λ o kept timely unstarted. elim (kept timely unstarted) [
              | inl held ↦ inl (subst IsTrue (sym a.after.paused ∙ same.paused) held.0, held.1)
              | inr full ↦ inr (subst (IsFull rules.window) (count (fewer free)) full)
            ])
            s'.requests (there (IsKeptBack rules s) (none.kept_back (fewer free) (subst IsFalse (sym same.removing ∙ a.after.removing) staying)));
      }

  module _ (fits : (tag : ℕ) → tag < rules.depth → All (HasOtherTag tag) s.pieces → length s.pieces < rules.depth) (new : State) (within : IsWithin rules.window (started_count new))
      (distinct : AreDistinct new) (stay : All (StaysIfStarted new) t.requests) where
    -- a first start would be of a request that has started, which stays as it is, or of one more than the window has places for
    not_first : (piece tag : ℕ) (block : List ℕ) (starts : List DeviceLabel) (mid : State) → Starts rules t piece tag block mid
        → All IsStart starts → Run rules mid (map as_label starts) new → ⊥
    not_first piece tag block starts mid h only run = by_test (is_started h.owner) refl
      where
        free : length s.pieces < rules.depth
        free = fits tag h.on_tag.within (All-permutation (HasOtherTag tag) _ _ a.after.pieces h.on_tag.free)

        owner_in : Contains t.requests h.owner
        owner_in = Contains-permutation _ _ h.owner (IsPermutation-sym _ _ h.is_open) (0, omega arith, refl)

        owner_was : Contains s.requests h.owner
        owner_was =
            let c : Contains a.others h.owner = Contains-permutation _ _ h.owner a.after.requests owner_in in
            Contains-permutation _ _ h.owner (IsPermutation-sym _ _ a.is_open) (suc c.0, (let l : c.0 < length a.others = c.1 in omega arith), c.2)

        sent_out : HasOutAt new h.owner.number h.places.first
        sent_out = out_along rules starts mid new h.owner.number h.places.first only run (record {
          request = sent h.places h.owner;
          is_open = Contains-permutation _ _ (sent h.places h.owner) (IsPermutation-sym _ _ h.after.requests) (0, omega arith, refl);
          is_number = refl;
          out = out_first rules h.owner h.places h.sendable;
        })

        stayed : Contains new.requests h.owner → ⊥
        stayed (k, low, is) =
            let p : IsPermutation new.requests (h.owner ∷ remove new.requests k) = IsPermutation-remove new.requests k h.owner low (sym is) in
            let same : h.owner ≡ sent_out.request =
            is_first request_number h.owner (remove new.requests k) sent_out.request (distinct_first request_number new.requests h.owner (remove new.requests k) distinct.requests p)
            (Contains-permutation _ _ sent_out.request p sent_out.is_open) sent_out.is_number in
            out_unsent _ (ap (λ (o : OpenRequest). get_or o.marks h.places.first Untouched) same ∙ sent_out.out) (unsent_first rules h.owner h.places h.sendable)

        counted : IsFalse (is_started h.owner) → started_count s < started_count new
        counted unstarted =
            let one : started_count t < started_count mid = one_more rules t piece tag block mid h unstarted in
            let rest : started_count mid ≤ started_count new = started_along rules starts mid new only run in
            let same : started_count s ≡ started_count t = same_count free ∙ count_same _ _ (IsPermutation-sym _ _ a.after.requests) in
            omega arith

        by_test : (b : Bool) → is_started h.owner ≡ b → ⊥
        by_test true e = stayed (All-contains (StaysIfStarted new) t.requests h.owner stay owner_in e)
        by_test false e =
            let staying : IsFalse s.removing = subst IsFalse a.after.removing h.may_start.not_removing in
            elim (All-contains (IsKeptBack rules s) s.requests h.owner (none.kept_back free staying) owner_was h.may_start.not_cancelled e) [
              | inl held ↦ both_ways h.owner.late held.1 (h.may_start.not_held (subst IsTrue (sym a.after.paused) held.0))
              | inr full ↦ too_many rules.window (started_count s) (started_count new) full (counted e) within
            ]

    pub none_starts : (starts : List DeviceLabel) → All IsStart starts → Run rules t (map as_label starts) new → starts ≡ []
    none_starts [] only run = refl
    none_starts (Start piece tag block ∷ starts) only (mid, inl (free, step), run) = absurd (not_first piece tag block starts mid step (All-tail IsStart _ starts only) run)
    none_starts (Start piece tag block ∷ starts) only (mid, inr owing, run) = absurd owing
    none_starts (Act piece bytes ∷ starts) only run = absurd (All-head IsStart _ starts only)
    none_starts (Fault piece ∷ starts) only run = absurd (All-head IsStart _ starts only)
    none_starts (Return piece class ∷ starts) only run = absurd (All-head IsStart _ starts only)

-- A PACKET IS HANDED UP

pub handed_still : (takes_srb : Bool) (old new : DeviceView) (climb : Climb) (spot : ℕ) (h : HandsUp takes_srb old climb spot new)
    → IsOrderly old → IsOrderly new → HasNoneToStart old.rules old.state → (h.left.starts ≡ []) × HasNoneToStart new.rules new.state
handed_still takes_srb old new climb spot h order order' none =
    let within : IsWithin old.rules.window (started_count new.state) =
    subst (λ (r : Rules). IsWithin r.window (started_count new.state)) h.left.moves.same_rules order'.sending.within_window in
    let no_starts : h.left.starts ≡ [] =
    none_starts old.rules old.state h.answer.packet.number h.answer.status h.answer.bytes h.answer.answered h.answer.answers none (λ tag low free. free_leaves old tag order low free)
    new.state within order'.distinct h.left.started_stay h.left.starts h.left.only_starts h.left.moves.run in
    let same : IsSame h.answer.answered new.state = subst (λ starts. Run old.rules h.answer.answered (map as_label starts) new.state) no_starts h.left.moves.run in (
      no_starts,
      subst (λ r. HasNoneToStart r new.state) (sym h.left.moves.same_rules) (none_after old.rules old.state h.answer.packet.number h.answer.status h.answer.bytes h.answer.answered h.answer.answers none new.state same),
    )
