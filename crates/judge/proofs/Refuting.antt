-- A rule that a label breaks refutes each step by it.
use Rattle.std.proofs.Common.{◌≡◌, ◌<◌, inl, inr, ℕ, zero, suc, List, [], ◌∷◌, Option, Some, None, sym, ◌∙◌, ap, subst, arith, length, get_or}
use Rattle.std.specs.Prelude.{◌↔◌, Contains, All, IsTrue, IsFalse, slice_get}
use Rattle.std.specs.List.{list_all}
use Rattle.std.proofs.lemmas.Bool.{both_ways}
use Rattle.std.proofs.lemmas.List.Elements.{All-contains, Contains-get_or}
use Rattle.std.proofs.lemmas.List.Folds.{list_all_at}
use Rattle.ntstatus.specs.declared.NtStatus.{NtStatus}
use Rattle.ntstatus.specs.declared.NtStatus.TheVariants.{Success}
use Rattle.srb.specs.declared.DeviceLabel.TheVariants as device
use Rattle.machine.specs.declared.ClientRequest.{ClientRequest}
use Rattle.machine.specs.declared.Label.{Label}
use Rattle.machine.specs.declared.Label.TheVariants as label
use Rattle.machine.specs.Rules.{Rules}
use Rattle.machine.specs.State.{Mark, Untouched, Out, Done, Failed, Back, OpenRequest, Owed, State}
use Rattle.machine.specs.Calling.{Admits, Calls, AnswersRefused}
use Rattle.machine.specs.Cutting.{mark_at}
use Rattle.machine.specs.Answering.{is_done, Cause, HasEnded, HasCause, AnswersWith, answer_bytes, information}
use Rattle.machine.specs.Holding.{Cancels, Pauses, Ends}
use Rattle.machine.specs.Step.{Step}
use Rattle.judge.specs.declared.label_rules.Rule.{Rule}
use Rattle.judge.specs.declared.label_rules.Rule.TheVariants as rule
use Rattle.judge.specs.declared.label_rules.OwedRule.{OwedRule}
use Rattle.judge.specs.declared.label_rules.OwedRule.TheVariants as owed_rule
use Rattle.judge.specs.declared.label_rules.CallRule.{CallRule}
use Rattle.judge.specs.declared.label_rules.CallRule.TheVariants as call_rule
use Rattle.judge.specs.declared.start_rules.StartRule.{StartRule}
use Rattle.judge.specs.declared.piece_rules.ActRule.{ActRule}
use Rattle.judge.specs.declared.piece_rules.ReturnRule.{ReturnRule}
use Rattle.judge.specs.declared.label_rules.AnswerRule.{AnswerRule}
use Rattle.judge.specs.declared.label_rules.AnswerRule.TheVariants as answer_rule
use Rattle.judge.specs.declared.label_rules.CancelRule.{CancelRule}
use Rattle.judge.specs.declared.label_rules.CancelRule.TheVariants as cancel_rule
use Rattle.judge.specs.declared.label_rules.RemovalRule.{RemovalRule}
use Rattle.judge.specs.declared.label_rules.RemovalRule.TheVariants as removal_rule
use Rattle.judge.specs.Breaking.{IsOpen, EndsWrong, BreaksOwedAnswer, BreaksOwed, IsOwedFirst, BreaksCallOf, BreaksCall, BreaksAnswerOf, BreaksAnswer, BreaksCancelOf, BreaksCancel, IsSoNow, IsOfPause, IsOfEnd, BreaksRemoval, BreaksStart, BreaksActing, BreaksReturn, LineBreaks, BreakingRefutes, LineBreakingRefutes}
use Rattle.trace_line.specs.declared.Line.{Line}
use Rattle.trace_line.specs.Lines.{LabelIsOf, LineStep}
use Rattle.judge.specs.Judging.{plain}
use Rattle.judge.proofs.Lines.{none_told}
use Rattle.judge.proofs.RefutingPieces.{there, refutes_start, refutes_act, refutes_fault, refutes_return}

same_owed : (a b : Owed) → Some a ≡ Some b → a ≡ b
same_owed a b e = cc (e)

module _ (rules : Rules) (s : State) where
  -- CALLS

  refutes_call : (number : ℕ) (q : ClientRequest) (r : CallRule) → BreaksCallOf rules s number q r → (s' : State) → Calls rules s number q s' → ⊥
  refutes_call number q (call_rule.Number due told) h s' step = h.2 (h.1 ∙ step.next_number ∙ sym h.0)
  refutes_call number q (call_rule.Refused status count) h s' step =
      let admits : Admits rules s number q (Some status) s' = subst (λ a. Admits rules s number q a s') h.0 step.admits in
      h.2 (h.1 ∙ ap length admits.no_bytes)
  refutes_call number q (call_rule.Bytes due told) h s' step =
      let admits : Admits rules s number q None s' = subst (λ a. Admits rules s number q a s') h.0 step.admits in
      h.3 (h.2 ∙ admits.carries ∙ sym h.1)

  -- ANSWERS

  -- how an isopen request ends
  pub record EndsSo (o : OpenRequest) (status : NtStatus) (informed : ℕ) (bytes : List ℕ) : Type 0 where
    pub ended : All (HasEnded rules s o) o.marks
    pub success : (status ≡ Success) ↔ IsTrue (list_all is_done o.marks)
    pub cause : HasCause rules s o o.marks status
    pub hands_back : bytes ≡ answer_bytes o.request.kind o.marks
    pub informs : informed ≡ information o.request status

  not_out : (o : OpenRequest) → HasEnded rules s o Out → ⊥
  not_out o (inl e) = cc (e)
  not_out o (inr h) = absurd h.1

  cause_at : (o : OpenRequest) (status : NtStatus) (marks : List Mark) (place : ℕ) → place < length marks → IsFalse (is_done (get_or marks place Untouched))
      → ((lower : ℕ) → lower < place → IsTrue (is_done (get_or marks lower Untouched))) → HasCause rules s o marks status → Cause rules s o (get_or marks place Untouched) status
  cause_at o status [] place low isopen below h = absurd (omega arith)
  cause_at o status (Done sector ∷ marks) zero low isopen below h = cc (isopen)
  cause_at o status (Done sector ∷ marks) (suc place) low isopen below h = cause_at o status marks place (omega arith) isopen (λ k less. below (suc k) (omega arith)) h
  cause_at o status (Untouched ∷ marks) zero low isopen below h = h
  cause_at o status (Untouched ∷ marks) (suc place) low isopen below h = let e : IsTrue (is_done Untouched) = below 0 (omega arith) in cc (e)
  cause_at o status (Out ∷ marks) zero low isopen below h = h
  cause_at o status (Out ∷ marks) (suc place) low isopen below h = let e : IsTrue (is_done Out) = below 0 (omega arith) in cc (e)
  cause_at o status (Failed failure ∷ marks) zero low isopen below h = h
  cause_at o status (Failed failure ∷ marks) (suc place) low isopen below h = let e : IsTrue (is_done (Failed failure)) = below 0 (omega arith) in cc (e)
  cause_at o status (Back ∷ marks) zero low isopen below h = h
  cause_at o status (Back ∷ marks) (suc place) low isopen below h = let e : IsTrue (is_done Back) = below 0 (omega arith) in cc (e)

  refutes_ending : (o : OpenRequest) (status : NtStatus) (informed : ℕ) (bytes : List ℕ) (r : AnswerRule) → EndsWrong rules s o status informed bytes r → EndsSo o status informed bytes → ⊥
  refutes_ending o status informed bytes (answer_rule.NotOpen n) h ends = absurd h
  refutes_ending o status informed bytes (answer_rule.Out place) h ends =
      not_out o (subst (λ m. HasEnded rules s o m) h.1 (All-contains (HasEnded rules s o) o.marks _ ends.ended (Contains-get_or o.marks place Untouched h.0)))
  refutes_ending o status informed bytes (answer_rule.Waits place) h ends = h.1 (All-contains (HasEnded rules s o) o.marks _ ends.ended (Contains-get_or o.marks place Untouched h.0))
  refutes_ending o status informed bytes (answer_rule.NotDone place) h ends =
      both_ways (list_all is_done o.marks) (list_all_at is_done o.marks place Untouched h.0.within h.0.not_done) (ends.success.0 h.1)
  refutes_ending o status informed bytes (answer_rule.AllDone told) h ends = h.2 (h.1 ∙ ends.success.1 h.0)
  refutes_ending o status informed bytes (answer_rule.Status place due told) h ends =
      h.3 (subst (λ t. Cause rules s o (mark_at o place) t) (sym h.1) (cause_at o status o.marks place h.0.within h.0.not_done h.0.below ends.cause))
  refutes_ending o status informed bytes (answer_rule.Information due told) h ends = h.2 (h.1 ∙ ends.informs ∙ sym h.0)
  refutes_ending o status informed bytes (answer_rule.Bytes d) h ends = h.unlike (sym h.is_told ∙ ap (λ l. slice_get l d.at) ends.hands_back ∙ h.is_due)

  ends_so : (number : ℕ) (status : NtStatus) (informed : ℕ) (bytes : List ℕ) (s' : State) (step : AnswersWith rules s number status informed bytes s') (o : OpenRequest) → IsOpen s number o → EndsSo o status informed bytes
  ends_so number status informed bytes s' step o isopen =
      let a = step.answers in
      let same : a.request ≡ o = isopen.alone a.request (there rules s a.request a.others a.is_open) a.is_number in
      subst (λ x. EndsSo x status informed bytes) same (record {
        ended = step.answers.ended;
        success = step.answers.success;
        cause = step.answers.cause;
        hands_back = step.answers.hands_back;
        informs = step.informs;
      })

  refutes_answer : (number : ℕ) (status : NtStatus) (informed : ℕ) (bytes : List ℕ) (r : AnswerRule) → BreaksAnswerOf rules s number status informed bytes r
      → (s' : State) → AnswersWith rules s number status informed bytes s' → ⊥
  refutes_answer number status informed bytes (answer_rule.NotOpen n) h s' step = h.1 step.answers.request (there rules s step.answers.request step.answers.others step.answers.is_open) step.answers.is_number
  refutes_answer number status informed bytes (answer_rule.Out place) h s' step = refutes_ending h.0 status informed bytes (answer_rule.Out place) h.2 (ends_so number status informed bytes s' step h.0 h.1)
  refutes_answer number status informed bytes (answer_rule.Waits place) h s' step = refutes_ending h.0 status informed bytes (answer_rule.Waits place) h.2 (ends_so number status informed bytes s' step h.0 h.1)
  refutes_answer number status informed bytes (answer_rule.NotDone place) h s' step = refutes_ending h.0 status informed bytes (answer_rule.NotDone place) h.2 (ends_so number status informed bytes s' step h.0 h.1)
  refutes_answer number status informed bytes (answer_rule.AllDone told) h s' step = refutes_ending h.0 status informed bytes (answer_rule.AllDone told) h.2 (ends_so number status informed bytes s' step h.0 h.1)
  refutes_answer number status informed bytes (answer_rule.Status place due told) h s' step = refutes_ending h.0 status informed bytes (answer_rule.Status place due told) h.2 (ends_so number status informed bytes s' step h.0 h.1)
  refutes_answer number status informed bytes (answer_rule.Information due told) h s' step = refutes_ending h.0 status informed bytes (answer_rule.Information due told) h.2 (ends_so number status informed bytes s' step h.0 h.1)
  refutes_answer number status informed bytes (answer_rule.Bytes d) h s' step = refutes_ending h.0 status informed bytes (answer_rule.Bytes d) h.2 (ends_so number status informed bytes s' step h.0 h.1)

  -- WHERE AN ANSWER IS OWED

  refutes_owed_answer : (number : ℕ) (status : NtStatus) (informed : ℕ) (bytes : List ℕ) (r : OwedRule) → BreaksOwedAnswer s number status informed bytes r
      → (s' : State) → AnswersRefused s number status informed bytes s' → ⊥
  refutes_owed_answer number status informed bytes (owed_rule.Other n due) h s' step =
      h.1 (sym (ap (λ (x : Owed). x.number) (same_owed _ _ (sym h.0 ∙ step.is_owed))))
  refutes_owed_answer number status informed bytes (owed_rule.Status n due told) h s' step =
      h.2 (h.1 ∙ sym (ap (λ (x : Owed). x.status) (same_owed _ _ (sym h.0 ∙ step.is_owed))))
  refutes_owed_answer number status informed bytes (owed_rule.Information n told) h s' step = h.2 (h.1 ∙ step.none_moved)
  refutes_owed_answer number status informed bytes (owed_rule.Bytes n count) h s' step = h.2 (h.1 ∙ ap length step.no_bytes)

  owes_some : (number : ℕ) (status : NtStatus) (informed : ℕ) (bytes : List ℕ) (r : OwedRule) → BreaksOwedAnswer s number status informed bytes r → (owed : Owed) × (s.owed ≡ Some owed)
  owes_some number status informed bytes (owed_rule.Other n due) h = (_, h.0)
  owes_some number status informed bytes (owed_rule.Status n due told) h = (_, h.0)
  owes_some number status informed bytes (owed_rule.Information n told) h = (_, h.0.1)
  owes_some number status informed bytes (owed_rule.Bytes n count) h = (_, h.0.1)

  owes_first : (r : OwedRule) → IsOwedFirst s r → (owed : Owed) × (s.owed ≡ Some owed)
  owes_first (owed_rule.Other n due) h = (_, h)
  owes_first (owed_rule.Status n due told) h = absurd h
  owes_first (owed_rule.Information n told) h = absurd h
  owes_first (owed_rule.Bytes n count) h = absurd h

  refutes_owed : (l : Label) (r : OwedRule) → BreaksOwed s l r → (s' : State) → Step rules s l s' → ⊥
  refutes_owed (label.Answer number status informed bytes) r h s' (inl step) = let owes : (owed : Owed) × (s.owed ≡ Some owed) = owes_some number status informed bytes r h in cc (owes.1, step.0)
  refutes_owed (label.Answer number status informed bytes) r h s' (inr step) = refutes_owed_answer number status informed bytes r h s' step
  refutes_owed _ r h s' (inl step) = let owes : (owed : Owed) × (s.owed ≡ Some owed) = owes_first r h in cc (owes.1, step.0)
  refutes_owed _ r h s' (inr step) = step

  -- CANCELLATION, THE HOLD AND REMOVAL

  refutes_cancel : (number : ℕ) (r : CancelRule) → BreaksCancelOf s number r → (s' : State) → Cancels s number s' → ⊥
  refutes_cancel number (cancel_rule.NotOpen n) h s' step = h.1 step.request (there rules s step.request step.others step.is_open) step.is_number
  refutes_cancel number (cancel_rule.Before n) h s' step =
      let same : step.request ≡ h.1 = h.2.alone step.request (there rules s step.request step.others step.is_open) step.is_number in
      both_ways step.request.cancelled step.not_yet (subst (λ (x : OpenRequest). IsTrue x.cancelled) (sym same) h.3)

  refutes_pause : (r : RemovalRule) → IsOfPause r → IsSoNow s r → (s' : State) → Pauses rules s s' → ⊥
  refutes_pause removal_rule.Paused u h s' step = both_ways s.paused step.not_paused h
  refutes_pause removal_rule.Removing u h s' step = both_ways s.removing step.not_removing h
  refutes_pause removal_rule.NotPaused u h s' step = absurd u
  refutes_pause removal_rule.NotRemoving u h s' step = absurd u
  refutes_pause removal_rule.Removed u h s' step = absurd u
  refutes_pause (removal_rule.Open n) u h s' step = absurd u

  none_there : (o : OpenRequest) → Contains s.requests o → s.requests ≡ [] → ⊥
  none_there o h e = let nowhere : Contains [] o = subst (λ xs. Contains xs o) e h in absurd (omega (arith, nowhere.1))

  refutes_end : (r : RemovalRule) → IsOfEnd r → IsSoNow s r → (s' : State) → Ends s s' → ⊥
  refutes_end removal_rule.NotRemoving u h s' step = both_ways s.removing h step.is_removing
  refutes_end removal_rule.Removed u h s' step = both_ways s.removed step.once h
  refutes_end (removal_rule.Open n) u h s' step = none_there h.0 h.1 step.none_open
  refutes_end removal_rule.Paused u h s' step = absurd u
  refutes_end removal_rule.NotPaused u h s' step = absurd u
  refutes_end removal_rule.Removing u h s' step = absurd u

  -- EACH RULE

  refutes_call_label : (l : Label) (r : CallRule) → BreaksCall rules s l r → (s' : State) → Step rules s l s' → ⊥
  refutes_call_label (label.Call number q) r h s' (inl step) = refutes_call number q r h s' step.1
  refutes_call_label (label.Call number q) r h s' (inr step) = step
  refutes_call_label _ r h s' step = absurd h

  refutes_answer_label : (l : Label) (r : AnswerRule) → BreaksAnswer rules s l r → (s' : State) → Step rules s l s' → ⊥
  refutes_answer_label (label.Answer number status informed bytes) r h s' (inl step) = refutes_answer number status informed bytes r h.1 s' step.1
  refutes_answer_label (label.Answer number status informed bytes) r h s' (inr step) = cc (h.0, step.is_owed)
  refutes_answer_label _ r h s' step = absurd h

  refutes_cancel_label : (l : Label) (r : CancelRule) → BreaksCancel s l r → (s' : State) → Step rules s l s' → ⊥
  refutes_cancel_label (label.Cancel number) r h s' (inl step) = refutes_cancel number r h s' step.1
  refutes_cancel_label (label.Cancel number) r h s' (inr step) = step
  refutes_cancel_label _ r h s' step = absurd h

  refutes_removal_label : (l : Label) (r : RemovalRule) → BreaksRemoval s l r → (s' : State) → Step rules s l s' → ⊥
  refutes_removal_label label.Pause r h s' (inl step) = refutes_pause r h.0 h.1 s' step.1
  refutes_removal_label label.Pause r h s' (inr step) = step
  refutes_removal_label label.Resume r h s' (inl step) = both_ways s.paused (subst (IsSoNow s) h.0 h.1) step.1.is_paused
  refutes_removal_label label.Resume r h s' (inr step) = step
  refutes_removal_label label.Remove r h s' (inl step) = both_ways s.paused (subst (IsSoNow s) h.0 h.1) step.1.is_paused
  refutes_removal_label label.Remove r h s' (inr step) = step
  refutes_removal_label label.Surprise r h s' (inl step) = both_ways s.removing step.1.not_removing (subst (IsSoNow s) h.0 h.1)
  refutes_removal_label label.Surprise r h s' (inr step) = step
  refutes_removal_label label.Removed r h s' (inl step) = refutes_end r h.0 h.1 s' step.1
  refutes_removal_label label.Removed r h s' (inr step) = step
  refutes_removal_label _ r h s' step = absurd h

  refutes_start_label : (owner : Option ℕ) (l : Label) (r : StartRule) → BreaksStart rules s owner l r → (s' : State) → Step rules s l s' → LabelIsOf s s' l owner → ⊥
  refutes_start_label owner (label.Device (device.Start number tag block)) r h s' (inl step) is = refutes_start rules s owner number tag block r h s' step.1 is
  refutes_start_label owner (label.Device (device.Start number tag block)) r h s' (inr step) is = step
  refutes_start_label owner _ r h s' step is = absurd h

  refutes_act_label : (l : Label) (r : ActRule) → BreaksActing rules s l r → (s' : State) → Step rules s l s' → ⊥
  refutes_act_label (label.Device (device.Act number bytes)) r h s' (inl step) = refutes_act rules s number bytes r h s' step.1
  refutes_act_label (label.Device (device.Act number bytes)) r h s' (inr step) = step
  refutes_act_label (label.Device (device.Fault number)) r h s' (inl step) = refutes_fault rules s number r h s' step.1
  refutes_act_label (label.Device (device.Fault number)) r h s' (inr step) = step
  refutes_act_label _ r h s' step = absurd h

  refutes_return_label : (l : Label) (r : ReturnRule) → BreaksReturn s l r → (s' : State) → Step rules s l s' → ⊥
  refutes_return_label (label.Device (device.Return number class)) r h s' (inl step) = refutes_return rules s number class r h s' step.1
  refutes_return_label (label.Device (device.Return number class)) r h s' (inr step) = step
  refutes_return_label _ r h s' step = absurd h

  pub refutes : (line : Line) (r : Rule) → LineBreaks rules s line r → (s' : State) → LineStep rules s line s' → ⊥
  refutes line (rule.Owed r) h s' step = refutes_owed line.label r h s' step.step
  refutes line (rule.Call r) h s' step = refutes_call_label line.label r h s' step.step
  refutes line (rule.Start r) h s' step = refutes_start_label line.owner line.label r h s' step.step step.is_of
  refutes line (rule.Act r) h s' step = refutes_act_label line.label r h s' step.step
  refutes line (rule.Return r) h s' step = refutes_return_label line.label r h s' step.step
  refutes line (rule.Answer r) h s' step = refutes_answer_label line.label r h s' step.step
  refutes line (rule.Cancel r) h s' step = refutes_cancel_label line.label r h s' step.step
  refutes line (rule.Removal r) h s' step = refutes_removal_label line.label r h s' step.step

pub refutes_lines : LineBreakingRefutes
refutes_lines rules s line r h step = refutes rules s line r h step.0 step.1

pub refutes_all : BreakingRefutes
refutes_all rules s l r h step = refutes rules s (plain l) r h step.0 (record { step = step.1; is_of = none_told s step.0 l })
