-- The rule that is named is one that the label breaks; where none is named some step goes by the label.
use Rattle.std.proofs.Common.{◌≡◌, ◌≢◌, ◌<◌, ◌≤◌, inl, inr, ℕ, zero, suc, ◌+◌, Bool, true, false, List, [], ◌∷◌, Option, Some, None, refl, sym, ◌∙◌, ap, subst, arith, map, length, get_or, take, cond, ltb, eqb}
use Rattle.std.specs.Prelude.{◌==◌, ◌&&◌, ◌||◌, not, ◌↔◌, IsPermutation, All, Contains, IsTrue, MatchOption, slice_get, option_map, if◌then◌else◌}
use Rattle.std.specs.List.{IsDistinct, find, list_all, position, position_or_len}
use Rattle.std.specs.Option.{option_or}
use Rattle.std.proofs.lemmas.Bool.{both_ways, eqb-true, eqb-false, ltb-false, not-true}
use Rattle.std.proofs.lemmas.List.{nil_from_length}
use Rattle.std.proofs.lemmas.List.Elements.{All-contains, Contains-get_or}
use Rattle.std.proofs.lemmas.List.Folds.{list_all_at}
use Rattle.std.proofs.lemmas.List.Quantifiers.{position-Some}
use Rattle.ntstatus.specs.declared.NtStatus.{NtStatus}
use Rattle.ntstatus.specs.declared.NtStatus.TheVariants.{Success, Cancelled, DeviceBusy, NoSuchDevice, DeletePending}
use Rattle.machine.specs.declared.ClientRequest.{ClientRequest}
use Rattle.machine.specs.declared.Label.{Label}
use Rattle.machine.specs.declared.Label.TheVariants as label
use Rattle.machine.specs.Rules.{Rules}
use Rattle.machine.specs.State.{Mark, Untouched, Out, Done, Failed, Back, OpenRequest, Owed, State}
use Rattle.machine.specs.Calling.{refusal, bytes_carried, new_request, Admits, Calls, AnswersRefused}
use Rattle.machine.specs.Cutting.{mark_at}
use Rattle.machine.specs.Settled.{is_out}
use Rattle.machine.specs.Answering.{is_done, IsGivenUp, Cause, HasCause, HasEnded, AnswersWith, answer_bytes, information}
use Rattle.machine.specs.Holding.{Cancels, Pauses, Resumes, Removes, Surprises, Ends, as_cancelled, as_timely, held_back}
use Rattle.machine.specs.Numbers.{AreDistinct, request_number}
use Rattle.machine.specs.Step.{OwingStep}
use Rattle.machine.proofs.Permuting.{first_unique}
use Rattle.machine.proofs.Same.{IsSame-refl}
use Rattle.judge.specs.Deciding.{has_number, same_status, is_given_up, is_worn_out, has_ended, is_cause}
use Rattle.judge.specs.declared.label_rules.Difference.{Difference}
use Rattle.judge.specs.declared.label_rules.OwedRule.TheVariants as owed_rule
use Rattle.judge.specs.declared.label_rules.CallRule.TheVariants as call_rule
use Rattle.judge.specs.declared.label_rules.AnswerRule.{AnswerRule}
use Rattle.judge.specs.declared.label_rules.AnswerRule.TheVariants as answer_rule
use Rattle.judge.specs.declared.label_rules.CancelRule.TheVariants as cancel_rule
use Rattle.judge.specs.declared.label_rules.RemovalRule.TheVariants as removal_rule
use Rattle.judge.specs.Breaking.{IsOpen, Differs, Owes, IsLowest, EndsWrong, BreaksOwed, BreaksOwedAnswer, BreaksCallOf, BreaksAnswerOf, BreaksCancelOf, BreaksRemoval}
use Rattle.judge.specs.Ruling.{difference, unpaid_rule, owing_rule, carried_rule, calling_rule, is_unended, is_undone, unended_rule, status_due, status_rule, information_rule, bytes_rule, ending_rule, answering_rule_of, answering_rule, cancelling_rule_of, cancelling_rule, pausing_rule, paused_rule, surprising_rule, none_open_rule, removed_rule}
use Rattle.judge.proofs.Deciding.{decides_status, decides_ended, decides_cause, decides_all_ended}
use Rattle.judge.proofs.Picking.{first_of, found_pass, found_fail}
use Rattle.judge.proofs.Refuting.{EndsSo}

-- THE ONE OF A NUMBER

module _ {X : Type 0} (key : X → ℕ) (n : ℕ) where
  pub found_there : (xs : List X) (x : X) → find (λ y. eqb (key y) n) xs ≡ Some x → Contains xs x × (key x ≡ n)
  found_there xs x e = let h : Contains xs x × (eqb (key x) n ≡ true) = found_pass (λ y. eqb (key y) n) xs x e in (h.0, eqb-true _ _ h.1)

  pub found_nowhere : (xs : List X) → find (λ y. eqb (key y) n) xs ≡ None → (x : X) → Contains xs x → key x ≢ n
  found_nowhere xs e x c = λ same. eqb-false (key x) n (found_fail (λ y. eqb (key y) n) xs e x c) same

module _ {X : Type 0} (key : X → ℕ) where
  pub only_one : (xs : List X) (x y : X) → IsDistinct eqb (map key xs) → Contains xs x → Contains xs y → key y ≡ key x → y ≡ x
  only_one xs x y d c k e =
      let p : (others : List X) × IsPermutation xs (x ∷ others) = first_of xs x c in
      let q : (others : List X) × IsPermutation xs (y ∷ others) = first_of xs y k in
      sym (first_unique key xs x y p.0 q.0 d p.1 q.1 e).0

-- DIFFERENCES

-- the first byte in which they differ, where the numbers begin with another than 0
record DiffersFrom (first : ℕ) (due told : List ℕ) (d : Difference) : Type 0 where
  place : ℕ
  at_place : d.at ≡ first + place
  before : take place told ≡ take place due
  is_due : slice_get due place ≡ d.due
  is_told : slice_get told place ≡ d.told
  unlike : d.told ≢ d.due

differs_from : (first : ℕ) (due told : List ℕ) → MatchOption (difference first due told) (due ≡ told) (DiffersFrom first due told)
differs_from first [] [] = refl
differs_from first [] (t ∷ told) = record { place = 0; at_place = omega arith; before = refl; is_due = refl; is_told = refl; unlike = λ e. cc (e) }
differs_from first (d ∷ due) [] = record { place = 0; at_place = omega arith; before = refl; is_due = refl; is_told = refl; unlike = λ e. cc (e) }
differs_from first (d ∷ due) (t ∷ told) = by (d == t) refl (difference (first + 1) due told) (differs_from (first + 1) due told)
  where
    by : (b : Bool) → (d == t) ≡ b → (o : Option Difference) → MatchOption o (due ≡ told) (DiffersFrom (first + 1) due told)
        → MatchOption (if b then o else Some (record { at = first; due = Some d; told = Some t })) ((d ∷ due) ≡ (t ∷ told)) (DiffersFrom first (d ∷ due) (t ∷ told))
    by true e None h = let same : d ≡ t = eqb-true _ _ e in cc (same, h)
    by true e (Some x) h = record {
      place = suc h.place;
      at_place = omega (arith, h.at_place);
      before = cc (eqb-true d t e, h.before);
      is_due = h.is_due;
      is_told = h.is_told;
      unlike = h.unlike;
    }
    by false e o h = record { place = 0; at_place = omega arith; before = refl; is_due = refl; is_told = refl; unlike = λ f. let same : d ≡ t = cc (f) in eqb-false d t e same }

pub differs : (due told : List ℕ) → MatchOption (difference 0 due told) (due ≡ told) (Differs due told)
differs due told = by (difference 0 due told) (differs_from 0 due told)
  where
    by : (o : Option Difference) → MatchOption o (due ≡ told) (DiffersFrom 0 due told) → MatchOption o (due ≡ told) (Differs due told)
    by None h = h
    by (Some d) h =
        let same : h.place ≡ d.at = omega (arith, h.at_place) in
        record {
          before = subst (λ k. take k told ≡ take k due) same h.before;
          is_due = subst (λ k. slice_get due k ≡ d.due) same h.is_due;
          is_told = subst (λ k. slice_get told k ≡ d.told) same h.is_told;
          unlike = h.unlike;
        }

-- WHAT A PLACE IS THAT ISN'T FOUND

pub all_passed : {X : Type 0} (q : X → Bool) (xs : List X) → position (λ x. not (q x)) xs ≡ None → list_all q xs ≡ true
all_passed q xs e = by (ltb (position_or_len (λ x. not (q x)) xs) (length xs)) refl e
  where
    all : {X : Type 0} (q : X → Bool) (xs : List X) → length xs ≤ position_or_len (λ x. not (q x)) xs → list_all q xs ≡ true
    all q [] h = refl
    all q (y ∷ ys) h = each (q y) h (all q ys)
      where
        each : (b : Bool) → suc (length ys) ≤ cond (not (not b)) (1 + position_or_len (λ x. not (q x)) ys) 0 → (length ys ≤ position_or_len (λ x. not (q x)) ys → list_all q ys ≡ true) → (b && list_all q ys) ≡ true
        each true h again = again (omega arith)
        each false h again = absurd (omega arith)

    by : (b : Bool) → ltb (position_or_len (λ x. not (q x)) xs) (length xs) ≡ b → cond b (Some (position_or_len (λ x. not (q x)) xs)) None ≡ None → list_all q xs ≡ true
    by true t e = cc (e)
    by false t e = all q xs (ltb-false _ _ t)

-- the first that names a rule
pub either : {R : Type 0} (P Q : Type 0) (B : R → Type 0) (a b : Option R) → MatchOption a P B → (P → MatchOption b Q B) → MatchOption (option_or a b) (P × Q) B
either P Q B None None h k = (h, k h)
either P Q B None (Some r) h k = k h
either P Q B (Some r) b h k = h

abbrev owing : ℕ → NtStatus → Owed
owing number status = record { number = number; status = status }

module _ (rules : Rules) (s : State) where
  -- CALLS

  abbrev opened : ℕ → ClientRequest → State
  opened number q = record s { next_request = number + 1; requests = new_request rules s number q ∷ s.requests }

  carried_named : (number : ℕ) (q : ClientRequest) → number ≡ s.next_request → (answer : Option NtStatus) → refusal rules s q ≡ answer
      → MatchOption (carried_rule q answer) ((s' : State) × Calls rules s number q s') (BreaksCallOf rules s number q)
  carried_named number q e None refused = by (length q.bytes == bytes_carried q.kind q.length) refl
    where
      by : (b : Bool) → (length q.bytes == bytes_carried q.kind q.length) ≡ b
          → MatchOption (if b then None else Some (call_rule.Bytes (bytes_carried q.kind q.length) (length q.bytes))) ((s' : State) × Calls rules s number q s') (BreaksCallOf rules s number q)
      by true t = (
        opened number q,
        record {
          next_number = e;
          admits = subst (λ a. Admits rules s number q a (opened number q)) (sym refused) (record {
            new_number = omega arith;
            not_refused = refused;
            carries = eqb-true _ _ t;
            after = IsSame-refl _;
          });
        },
      )
      by false t = (refused, refl, refl, λ same. eqb-false _ _ t same)
  carried_named number q e (Some status) refused = by (length q.bytes == 0) refl
    where
      owing : State
      owing = record s { next_request = number + 1; owed = Some (record { number = number; status = status }) }

      by : (b : Bool) → (length q.bytes == 0) ≡ b
          → MatchOption (if b then None else Some (call_rule.Refused status (length q.bytes))) ((s' : State) × Calls rules s number q s') (BreaksCallOf rules s number q)
      by true t = (
        record s { next_request = number + 1; owed = Some (record { number = number; status = status }) },
        record {
          next_number = e;
          admits = subst (λ a. Admits rules s number q a (record s { next_request = number + 1; owed = Some (record { number = number; status = status }) })) (sym refused) (record {
            no_bytes = nil_from_length q.bytes (eqb-true _ _ t);
            after = IsSame-refl _;
          });
        },
      )
      by false t = (refused, refl, λ none. eqb-false _ _ t none)

  pub calls_named : (number : ℕ) (q : ClientRequest) → MatchOption (calling_rule rules s number q) ((s' : State) × Calls rules s number q s') (BreaksCallOf rules s number q)
  calls_named number q = by (number == s.next_request) refl
    where
      by : (b : Bool) → (number == s.next_request) ≡ b
          → MatchOption (if b then carried_rule q (refusal rules s q) else Some (call_rule.Number s.next_request number)) ((s' : State) × Calls rules s number q s') (BreaksCallOf rules s number q)
      by true t = carried_named number q (eqb-true _ _ t) (refusal rules s q) refl
      by false t = (refl, refl, λ same. eqb-false _ _ t same)

  -- CANCELS

  module _ (d : AreDistinct s) where
    pub is_open : (number : ℕ) (o : OpenRequest) → find (has_number number) s.requests ≡ Some o → IsOpen s number o
    is_open number o e =
        let h : Contains s.requests o × (o.number ≡ number) = found_there request_number number s.requests o e in
        record { is_there = h.0; is_number = h.1; alone = λ other c same. only_one request_number s.requests o other d.requests h.0 c (same ∙ sym h.1) }

    pub cancels_named : (number : ℕ) → MatchOption (cancelling_rule s number) ((s' : State) × Cancels s number s') (BreaksCancelOf s number)
    cancels_named number = by (find (has_number number) s.requests) refl
      where
        flagged : (o : OpenRequest) → IsOpen s number o → (b : Bool) → o.cancelled ≡ b
            → MatchOption (if b then Some (cancel_rule.Before number) else None) ((s' : State) × Cancels s number s') (BreaksCancelOf s number)
        flagged o isopen true c = (refl, o, isopen, c)
        flagged o isopen false c =
            let p : (others : List OpenRequest) × IsPermutation s.requests (o ∷ others) = first_of s.requests o isopen.is_there in
            (record s { requests = as_cancelled o ∷ p.0 }, record { request = o; others = p.0; is_open = p.1; is_number = isopen.is_number; not_yet = c; after = IsSame-refl _ })

        by : (o : Option OpenRequest) → find (has_number number) s.requests ≡ o → MatchOption (cancelling_rule_of number o) ((s' : State) × Cancels s number s') (BreaksCancelOf s number)
        by None e = (refl, found_nowhere request_number number s.requests e)
        by (Some o) e = flagged o (is_open number o e) o.cancelled refl

  -- THE HOLD AND REMOVAL

  pub pauses_named : MatchOption (pausing_rule s) ((s' : State) × Pauses rules s s') (BreaksRemoval s label.Pause)
  pauses_named = by s.paused refl s.removing refl
    where
      by : (p : Bool) → s.paused ≡ p → (r : Bool) → s.removing ≡ r
          → MatchOption (if p then Some removal_rule.Paused else (if r then Some removal_rule.Removing else None)) ((s' : State) × Pauses rules s s') (BreaksRemoval s label.Pause)
      by true e r f = (tt, e)
      by false e true f = (tt, f)
      by false e false f = (record s { paused = true; requests = held_back rules.window s.requests }, record { not_paused = e; not_removing = f; after = IsSame-refl _ })

  pub resumes_named : MatchOption (paused_rule s) ((s' : State) × Resumes s s') (BreaksRemoval s label.Resume)
  resumes_named = by s.paused refl
    where
      by : (p : Bool) → s.paused ≡ p → MatchOption (if p then None else Some removal_rule.NotPaused) ((s' : State) × Resumes s s') (BreaksRemoval s label.Resume)
      by true e = (record s { paused = false; requests = map as_timely s.requests }, record { is_paused = e; after = IsSame-refl _ })
      by false e = (refl, e)

  pub removes_named : MatchOption (paused_rule s) ((s' : State) × Removes s s') (BreaksRemoval s label.Remove)
  removes_named = by s.paused refl
    where
      by : (p : Bool) → s.paused ≡ p → MatchOption (if p then None else Some removal_rule.NotPaused) ((s' : State) × Removes s s') (BreaksRemoval s label.Remove)
      by true e = (record s { paused = false; removing = true }, record { is_paused = e; after = IsSame-refl _ })
      by false e = (refl, e)

  pub surprises_named : MatchOption (surprising_rule s) ((s' : State) × Surprises rules s s') (BreaksRemoval s label.Surprise)
  surprises_named = by s.removing refl
    where
      by : (r : Bool) → s.removing ≡ r → MatchOption (if r then Some removal_rule.Removing else None) ((s' : State) × Surprises rules s s') (BreaksRemoval s label.Surprise)
      by true e = (refl, e)
      by false e = (record s { paused = false; removing = true; requests = if s.paused then s.requests else held_back rules.window s.requests }, record { not_removing = e; drains = IsSame-refl _ })

  pub ends_named : MatchOption (removed_rule s) ((s' : State) × Ends s s') (BreaksRemoval s label.Removed)
  ends_named = by s.removing refl s.removed refl s.requests refl
    where
      by : (g : Bool) → s.removing ≡ g → (r : Bool) → s.removed ≡ r → (xs : List OpenRequest) → s.requests ≡ xs
          → MatchOption (if not g then Some removal_rule.NotRemoving else (if r then Some removal_rule.Removed else none_open_rule (slice_get xs 0))) ((s' : State) × Ends s s') (BreaksRemoval s label.Removed)
      by false e r f xs is = (tt, e)
      by true e true f xs is = (tt, f)
      by true e false f [] is = (record s { removed = true }, record { is_removing = e; once = f; none_open = is; after = IsSame-refl _ })
      by true e false f (x ∷ xs) is = (tt, (x, subst (λ ys. Contains ys x) (sym is) (0, omega arith, refl), refl))

  -- ANSWERS

  module _ (o : OpenRequest) (status : NtStatus) (informed : ℕ) (bytes : List ℕ) where
    abbrev Wrong : AnswerRule → Type 0
    Wrong r = EndsWrong rules s o status informed bytes r

    out_is : (m : Mark) → is_out m ≡ true → m ≡ Out
    out_is Out e = refl
    out_is Untouched e = cc (e)
    out_is (Done sector) e = cc (e)
    out_is (Failed failure) e = cc (e)
    out_is Back e = cc (e)

    unended_named : MatchOption (unended_rule o (position (is_unended (is_given_up s o) (is_worn_out rules o)) o.marks)) (All (HasEnded rules s o) o.marks) Wrong
    unended_named = by (position (is_unended (is_given_up s o) (is_worn_out rules o)) o.marks) refl
      where
        waits : (k : ℕ) → k < length o.marks → not (has_ended rules s o (mark_at o k)) ≡ true → (b : Bool) → is_out (mark_at o k) ≡ b
            → Wrong (if b then answer_rule.Out k else answer_rule.Waits k)
        waits k low isopen true e = (low, out_is (mark_at o k) e)
        waits k low isopen false e = (low, λ ended. both_ways _ (not-true _ isopen) ((decides_ended rules s o (mark_at o k)).1 ended))

        by : (p : Option ℕ) → position (is_unended (is_given_up s o) (is_worn_out rules o)) o.marks ≡ p → MatchOption (unended_rule o p) (All (HasEnded rules s o) o.marks) Wrong
        by None e = (decides_all_ended rules s o o.marks).0 (all_passed (has_ended rules s o) o.marks e)
        by (Some k) e =
            let at : _ × _ × _ = position-Some (is_unended (is_given_up s o) (is_worn_out rules o)) o.marks k Untouched e in
            waits k at.0 at.1 (is_out (mark_at o k)) refl

    -- the status that is due is one that the place gives
    given_due : (c r : Bool) → o.cancelled ≡ c → s.removing ≡ r → (c || r) ≡ true
        → IsGivenUp s o (if c then Cancelled else (if r then (if o.late then DeletePending else NoSuchDevice) else DeviceBusy))
    given_due true r e f h = inl (e, refl)
    given_due false true e f h = inr (f, refl)
    given_due false false e f h = cc (h)

    due_or_busy : (c r : Bool) → o.cancelled ≡ c → s.removing ≡ r → HasEnded rules s o Back
        → Cause rules s o Back (if c then Cancelled else (if r then (if o.late then DeletePending else NoSuchDevice) else DeviceBusy))
    due_or_busy true r e f h = inl (inl (e, refl))
    due_or_busy false true e f h = inl (inr (f, refl))
    due_or_busy false false e f (inl h) = cc (h)
    due_or_busy false false e f (inr h) = by h.0 h.1
      where
        by : (st : NtStatus) → Cause rules s o Back st → Cause rules s o Back DeviceBusy
        by st (inl (inl g)) = absurd (both_ways o.cancelled e g.0)
        by st (inl (inr g)) = absurd (both_ways s.removing f g.0)
        by st (inr w) = inr (w.0, refl)

    given_or : (st : NtStatus) → IsGivenUp s o st → (o.cancelled || s.removing) ≡ true
    given_or st (inl g) = rw (g.0) refl
    given_or st (inr g) = by o.cancelled g.0
      where
        by : (c : Bool) → s.removing ≡ true → (c || s.removing) ≡ true
        by true e = refl
        by false e = e

    due_given : (mark : Mark) → is_done mark ≡ false → HasEnded rules s o mark → Cause rules s o mark (status_due s o mark)
    due_given (Failed failure) e h = refl
    due_given Untouched e (inl h) = cc (h)
    due_given Untouched e (inr h) = given_due o.cancelled s.removing refl refl (given_or h.0 h.1)
    due_given Back e h = due_or_busy o.cancelled s.removing refl refl h
    due_given Out e (inl h) = cc (h)
    due_given Out e (inr h) = absurd h.1
    due_given (Done sector) e h = cc (e)

    all_lowest : (marks : List Mark) → list_all is_done marks ≡ true → HasCause rules s o marks status
    all_lowest [] h = tt
    all_lowest (Done sector ∷ marks) h = all_lowest marks h
    all_lowest (Untouched ∷ marks) h = cc (h)
    all_lowest (Out ∷ marks) h = cc (h)
    all_lowest (Failed failure ∷ marks) h = cc (h)
    all_lowest (Back ∷ marks) h = cc (h)

    lowest_at : (marks : List Mark) (k : ℕ) → k < length marks → is_done (get_or marks k Untouched) ≡ false → ((lower : ℕ) → lower < k → is_done (get_or marks lower Untouched) ≡ true)
        → Cause rules s o (get_or marks k Untouched) status → HasCause rules s o marks status
    lowest_at [] k low isopen below h = absurd (omega arith)
    lowest_at (Done sector ∷ marks) zero low isopen below h = cc (isopen)
    lowest_at (Done sector ∷ marks) (suc k) low isopen below h = lowest_at marks k (omega arith) isopen (λ lower less. below (suc lower) (omega arith)) h
    lowest_at (Untouched ∷ marks) zero low isopen below h = h
    lowest_at (Untouched ∷ marks) (suc k) low isopen below h = let e : is_done Untouched ≡ true = below 0 (omega arith) in cc (e)
    lowest_at (Out ∷ marks) zero low isopen below h = h
    lowest_at (Out ∷ marks) (suc k) low isopen below h = let e : is_done Out ≡ true = below 0 (omega arith) in cc (e)
    lowest_at (Failed failure ∷ marks) zero low isopen below h = h
    lowest_at (Failed failure ∷ marks) (suc k) low isopen below h = let e : is_done (Failed failure) ≡ true = below 0 (omega arith) in cc (e)
    lowest_at (Back ∷ marks) zero low isopen below h = h
    lowest_at (Back ∷ marks) (suc k) low isopen below h = let e : is_done Back ≡ true = below 0 (omega arith) in cc (e)

    abbrev EndsAs : Type 0
    EndsAs = ((status ≡ Success) ↔ IsTrue (list_all is_done o.marks)) × HasCause rules s o o.marks status

    status_named : All (HasEnded rules s o) o.marks → MatchOption (status_rule rules s o status (position is_undone o.marks)) EndsAs Wrong
    status_named ended = by (position is_undone o.marks) refl
      where
        all_done : list_all is_done o.marks ≡ true → (b : Bool) → same_status status Success ≡ b → MatchOption (if b then None else Some (answer_rule.AllDone status)) EndsAs Wrong
        all_done all true e = ((λ p. all, λ t. (decides_status status Success).0 e), all_lowest o.marks all)
        all_done all false e = (all, refl, λ same. both_ways _ e ((decides_status status Success).1 same))

        undone : (k : ℕ) → IsLowest o k → list_all is_done o.marks ≡ false → (b : Bool) → same_status status Success ≡ b → (c : Bool) → is_cause rules s o status (mark_at o k) ≡ c
            → MatchOption (if b then Some (answer_rule.NotDone k) else (if c then None else Some (answer_rule.Status k (status_due s o (mark_at o k)) status))) EndsAs Wrong
        undone k lowest some true e c f = (lowest, (decides_status status Success).0 e)
        undone k lowest some false e true f = (
          (λ same. absurd (both_ways _ e ((decides_status status Success).1 same)), λ t. absurd (both_ways _ some t)),
          lowest_at o.marks k lowest.within lowest.not_done lowest.below ((decides_cause rules s o status (mark_at o k)).0 f),
        )
        undone k lowest some false e false f = (
          lowest,
          refl,
          due_given (mark_at o k) lowest.not_done (All-contains (HasEnded rules s o) o.marks (mark_at o k) ended (Contains-get_or o.marks k Untouched lowest.within)),
          λ cause. both_ways _ f ((decides_cause rules s o status (mark_at o k)).1 cause),
        )

        by : (p : Option ℕ) → position is_undone o.marks ≡ p → MatchOption (status_rule rules s o status p) EndsAs Wrong
        by None e = all_done (all_passed is_done o.marks e) (same_status status Success) refl
        by (Some k) e =
            let at : _ × _ × _ = position-Some is_undone o.marks k Untouched e in
            let isopen : is_done (mark_at o k) ≡ false = not-true _ at.1 in
            undone k (record { within = at.0; not_done = isopen; below = λ lower less. done_below _ (at.2 lower less) }) (list_all_at is_done o.marks k Untouched at.0 isopen)
            (same_status status Success) refl (is_cause rules s o status (mark_at o k)) refl
          where
            done_below : (b : Bool) → not b ≡ false → b ≡ true
            done_below true h = refl
            done_below false h = cc (h)

    abbrev Informs : Type 0
    Informs = informed ≡ information o.request status

    information_named : MatchOption (information_rule o.request status informed) Informs Wrong
    information_named = by (informed == information o.request status) refl
      where
        by : (b : Bool) → (informed == information o.request status) ≡ b
            → MatchOption (if b then None else Some (answer_rule.Information (information o.request status) informed)) Informs Wrong
        by true e = eqb-true _ _ e
        by false e = (refl, refl, λ same. eqb-false _ _ e same)

    abbrev HandsBack : Type 0
    HandsBack = bytes ≡ answer_bytes o.request.kind o.marks

    bytes_named : MatchOption (bytes_rule o bytes) HandsBack Wrong
    bytes_named = by (difference 0 (answer_bytes o.request.kind o.marks) bytes) (differs (answer_bytes o.request.kind o.marks) bytes)
      where
        by : (p : Option Difference) → MatchOption p (answer_bytes o.request.kind o.marks ≡ bytes) (Differs (answer_bytes o.request.kind o.marks) bytes)
            → MatchOption (option_map answer_rule.Bytes p) HandsBack Wrong
        by None h = sym h
        by (Some d) h = h

    abbrev HaveEnded : Type 0
    HaveEnded = All (HasEnded rules s o) o.marks

    abbrev after_status : Option AnswerRule
    after_status = option_or (information_rule o.request status informed) (bytes_rule o bytes)

    abbrev after_ended : Option AnswerRule
    after_ended = option_or (status_rule rules s o status (position is_undone o.marks)) after_status

    ending_named : MatchOption (ending_rule rules s o status informed bytes) (EndsSo rules s o status informed bytes) Wrong
    ending_named = by (ending_rule rules s o status informed bytes)
        (either HaveEnded (EndsAs × (Informs × HandsBack)) Wrong (unended_rule o (position (is_unended (is_given_up s o) (is_worn_out rules o)) o.marks)) after_ended unended_named (λ ended.
        either EndsAs (Informs × HandsBack) Wrong (status_rule rules s o status (position is_undone o.marks)) after_status (status_named ended) (λ so.
        either Informs HandsBack Wrong (information_rule o.request status informed) (bytes_rule o bytes) information_named (λ told. bytes_named))))
      where
        by : (p : Option AnswerRule) → MatchOption p (HaveEnded × (EndsAs × (Informs × HandsBack))) Wrong → MatchOption p (EndsSo rules s o status informed bytes) Wrong
        by None h = record { ended = h.0; success = h.1.0.0; cause = h.1.0.1; informs = h.1.1.0; hands_back = h.1.1.1 }
        by (Some r) h = h

    breaks_open : (number : ℕ) → IsOpen s number o → (r : AnswerRule) → Wrong r → BreaksAnswerOf rules s number status informed bytes r
    breaks_open number isopen (answer_rule.NotOpen n) h = absurd h
    breaks_open number isopen (answer_rule.Out place) h = (o, isopen, h)
    breaks_open number isopen (answer_rule.Waits place) h = (o, isopen, h)
    breaks_open number isopen (answer_rule.NotDone place) h = (o, isopen, h)
    breaks_open number isopen (answer_rule.AllDone told) h = (o, isopen, h)
    breaks_open number isopen (answer_rule.Status place due told) h = (o, isopen, h)
    breaks_open number isopen (answer_rule.Information due told) h = (o, isopen, h)
    breaks_open number isopen (answer_rule.Bytes d) h = (o, isopen, h)

  module _ (d : AreDistinct s) (number : ℕ) (status : NtStatus) (informed : ℕ) (bytes : List ℕ) where
    pub answers_named : MatchOption (answering_rule rules s number status informed bytes) ((s' : State) × AnswersWith rules s number status informed bytes s') (BreaksAnswerOf rules s number status informed bytes)
    answers_named = by (find (has_number number) s.requests) refl
      where
        ends : (o : OpenRequest) → IsOpen s number o → (p : Option AnswerRule) → MatchOption p (EndsSo rules s o status informed bytes) (EndsWrong rules s o status informed bytes)
            → MatchOption p ((s' : State) × AnswersWith rules s number status informed bytes s') (BreaksAnswerOf rules s number status informed bytes)
        ends o isopen None h =
            let p : (others : List OpenRequest) × IsPermutation s.requests (o ∷ others) = first_of s.requests o isopen.is_there in (
              record s { requests = p.0 },
              record {
                answers = record {
                  request = o;
                  others = p.0;
                  is_open = p.1;
                  is_number = isopen.is_number;
                  ended = h.ended;
                  success = h.success;
                  cause = h.cause;
                  hands_back = h.hands_back;
                  after = IsSame-refl _;
                };
                informs = h.informs;
              },
            )
        ends o isopen (Some r) h = breaks_open o status informed bytes number isopen r h

        by : (p : Option OpenRequest) → find (has_number number) s.requests ≡ p
            → MatchOption (answering_rule_of rules s number status informed bytes p) ((s' : State) × AnswersWith rules s number status informed bytes s') (BreaksAnswerOf rules s number status informed bytes)
        by None e = (refl, found_nowhere request_number number s.requests e)
        by (Some o) e = ends o (is_open d number o e) (ending_rule rules s o status informed bytes) (ending_named o status informed bytes)

  -- WHERE AN ANSWER IS OWED

  module _ (owed : Owed) (is : s.owed ≡ Some owed) where
    owes : Owes s owed.number owed.status
    owes = is

    unpaid_named : (number : ℕ) (status : NtStatus) (informed : ℕ) (bytes : List ℕ)
        → MatchOption (unpaid_rule owed number status informed bytes) ((s' : State) × AnswersRefused s number status informed bytes s') (BreaksOwedAnswer s number status informed bytes)
    unpaid_named number status informed bytes = by (owed.number == number) refl (same_status owed.status status) refl (informed == 0) refl (length bytes == 0) refl
      where
        by : (a : Bool) → (owed.number == number) ≡ a → (b : Bool) → same_status owed.status status ≡ b → (c : Bool) → (informed == 0) ≡ c → (d : Bool) → (length bytes == 0) ≡ d
            → MatchOption (if not a then Some (owed_rule.Other owed.number owed.status)
            else (if not b then Some (owed_rule.Status owed.number owed.status status)
            else (if not c then Some (owed_rule.Information owed.number informed)
            else (if not d then Some (owed_rule.Bytes owed.number (length bytes)) else None))))
            ((s' : State) × AnswersRefused s number status informed bytes s') (BreaksOwedAnswer s number status informed bytes)
        by false e b f c g d h = (owes, λ same. eqb-false _ _ e (sym same))
        by true e false f c g d h = (owes, refl, λ same. both_ways _ f ((decides_status owed.status status).1 (sym same)))
        by true e true f false g d h = ((owed.status, owes), refl, λ none. eqb-false _ _ g none)
        by true e true f true g false h = ((owed.status, owes), refl, λ none. eqb-false _ _ h none)
        by true e true f true g true h = (
          record s { owed = None },
          record {
            is_owed = is ∙ ap (λ n. Some (owing n owed.status)) (eqb-true _ _ e) ∙ ap (λ v. Some (owing number v)) ((decides_status owed.status status).0 f);
            none_moved = eqb-true _ _ g;
            no_bytes = nil_from_length bytes (eqb-true _ _ h);
            after = IsSame-refl _;
          },
        )

    pub owed_named : (l : Label) → MatchOption (owing_rule owed l) ((s' : State) × OwingStep s l s') (BreaksOwed s l)
    owed_named (label.Answer number status informed bytes) = unpaid_named number status informed bytes
    owed_named _ = owes
