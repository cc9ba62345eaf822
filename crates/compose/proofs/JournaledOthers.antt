-- No step but that of an entry has an act.
use Rattle.std.proofs.Common.{◌≡◌, inl, inr, ℕ, Bool, true, false, List, [], ◌∷◌, ◌++◌, map, Option, None, Some, refl, sym, ap, subst, if◌then◌else◌}
use Rattle.compose.proofs.Common.{All, append-nil, All-head, All-tail, Entry, DeviceLabel, ClientRequest, Label, Piece, IsStart, as_label, AreOfActs, fault_of, Handle, Id, Refusal, InvalidHandle, InvalidParameter, DeletePending, DeviceBusy, InsufficientResources, InvalidDeviceRequest, NotFound, Reply, ManagerView, Told, labels_of, end_labels, as_answer, as_cancel, tells_nothing, pnp_state, IsRightBy, TransferReplies, OpenReplies, CloseReplies, CancelReplies, MarkReplies, PnpReplies, IsRecalled, RecallReplies, FinishReplies, CancelsAllOf, CancelsOne, CancelsTarget, IsTurnedAway, Event, IsNoAct, IsRight}
use Rattle.srb.specs.declared.DeviceLabel.TheVariants.{Start, Act, Fault, Return}
use Rattle.machine.specs.declared.Label.TheVariants.{Call, Cancel, Pause, Resume, Remove as RemoveLabel, Surprise}
use Rattle.pnp.specs.declared.State.{State as PnpState}
use Rattle.pnp.specs.declared.State.TheVariants.{Started, RemovePending, Removing, Removed}
use Rattle.pnp.specs.Table.{Event as PnpEvent, QueryRemove as Query, Remove as RemoveDevice, SurpriseRemove as SurpriseOf}
use Rattle.io_manager.specs.declared.Answer.{Answer}
use Rattle.io_manager.specs.declared.Reply.TheVariants.{Handle as HandleReply, Ok as OkReply, Request as Requested, Answered, Refused, Ignored}
use Rattle.compose.specs.declared.Event.TheVariants.{Open, Close, Read as ReadEvent, Write as WriteEvent, Flush as FlushEvent, CancelIoEx, Mark, QueryRemove, CancelRemove, Remove, SurpriseRemove, Act as ActEvent, Finish, Reset}
use Rattle.compose.proofs.Journaled.{acts_longer, acts_joined}

module _ (trace : List Label) where
  abbrev IsBare : List Label → Type 0
  IsBare labels = AreOfActs trace labels []

  starts_bare : (ls : List DeviceLabel) → All IsStart ls → IsBare (map as_label ls)
  starts_bare [] all = refl
  starts_bare (Start k t block ∷ ls) all = ([], refl, starts_bare ls (All-tail IsStart (Start k t block) ls all))
  starts_bare (Act k bytes ∷ ls) all = absurd (All-head IsStart (Act k bytes) ls all)
  starts_bare (Fault k ∷ ls) all = absurd (All-head IsStart (Fault k) ls all)
  starts_bare (Return k class ∷ ls) all = absurd (All-head IsStart (Return k class) ls all)

  faults_bare : (ps : List Piece) → IsBare (map as_label (map fault_of ps))
  faults_bare [] = refl
  faults_bare (p ∷ ps) = ([], refl, faults_bare ps)

  cancels_bare : (ns : List ℕ) → IsBare (map as_cancel ns)
  cancels_bare [] = refl
  cancels_bare (n ∷ ns) = ([], refl, cancels_bare ns)

  answers_bare : (xs : List Answer) → IsBare (map as_answer xs)
  answers_bare [] = refl
  answers_bare (x ∷ xs) = ([], refl, answers_bare xs)

  ends_bare : (b : Bool) → IsBare (end_labels b)
  ends_bare true = ([], refl, refl)
  ends_bare false = refl

  -- a step that tells no act
  record TellsBare (told : Told) : Type 0 where
    own : IsBare told.own
    device : IsBare (map as_label told.device)

  told_bare : (told : Told) → TellsBare told → IsBare (labels_of told)
  told_bare told h =
      acts_joined trace _ _ [] [] (acts_joined trace _ _ [] [] (acts_joined trace _ _ [] [] h.own h.device) (answers_bare told.answers)) (ends_bare told.ends)

  telling : (told : Told) (own : List Label) (device : List DeviceLabel) → told.own ≡ own → told.device ≡ device → IsBare own → IsBare (map as_label device) → TellsBare told
  telling told own device own_is device_is o d = record {
    own = subst IsBare (sym own_is) o;
    device = subst (λ (ls : List DeviceLabel). IsBare (map as_label ls)) (sym device_is) d;
  }

  nothing : (old : ManagerView) (told : Told) → told ≡ tells_nothing old → TellsBare told
  nothing old told is = telling told [] [] (ap (λ (t : Told). t.own) is) (ap (λ (t : Told). t.device) is) refl refl

  one_bare : (old : ManagerView) (q : ClientRequest) (told : Told) (number : ℕ) → told.own ≡ Call number q ∷ [] → All IsStart told.device → TellsBare told
  one_bare old q told number own starts = telling told (Call number q ∷ []) told.device own refl ([], refl, refl) (starts_bare told.device starts)

  turned_bare : (old : ManagerView) (q : ClientRequest) (reason : Refusal) (new : ManagerView) (told : Told) → IsTurnedAway old q reason new told → TellsBare told
  turned_bare old q DeviceBusy new told h = nothing old told h.1.nothing
  turned_bare old q InsufficientResources new told h = telling told [] [] (ap (λ (t : Told). t.own) h.2.nothing) (ap (λ (t : Told). t.device) h.2.nothing) refl refl
  turned_bare old q InvalidHandle new told h = absurd h
  turned_bare old q InvalidParameter new told h = absurd h
  turned_bare old q DeletePending new told h = absurd h
  turned_bare old q InvalidDeviceRequest new told h = absurd h
  turned_bare old q NotFound new told h = absurd h

  transfer_bare : (old : ManagerView) (handle : Handle) (q : ClientRequest) (buffer : List ℕ) (reply : Reply) (new : ManagerView) (told : Told) → TransferReplies old handle q buffer reply new told → TellsBare told
  transfer_bare old handle q buffer (Requested id) new told h = one_bare old q told id.number h.own h.only_starts
  transfer_bare old handle q buffer (Answered answer) new told h =
      telling told _ [] (ap (λ (t : Told). t.own) h.0.tells) (ap (λ (t : Told). t.device) h.0.tells) ([], refl, ([], refl, refl)) refl
  transfer_bare old handle q buffer (Refused reason bytes) new told (is, inl h) =
      telling told _ [] (ap (λ (t : Told). t.own) h.tells) (ap (λ (t : Told). t.device) h.tells) ([], refl, ([], refl, refl)) refl
  transfer_bare old handle q buffer (Refused reason bytes) new told (is, inr h) = turned_bare old q reason new told h
  transfer_bare old handle q buffer (HandleReply given) new told h = absurd h
  transfer_bare old handle q buffer OkReply new told h = absurd h
  transfer_bare old handle q buffer Ignored new told h = absurd h

  open_bare : (old : ManagerView) (partition : ℕ) (reply : Reply) (new : ManagerView) (told : Told) → OpenReplies old partition reply new told → TellsBare told
  open_bare old partition (HandleReply handle) new told h = nothing old told h.0.nothing
  open_bare old partition (Refused reason bytes) new told h = nothing old told h.1.unmoved.nothing
  open_bare old partition OkReply new told h = absurd h
  open_bare old partition (Requested id) new told h = absurd h
  open_bare old partition (Answered answer) new told h = absurd h
  open_bare old partition Ignored new told h = absurd h

  all_bare : (old : ManagerView) (handle : ℕ) (told : Told) → CancelsAllOf old handle told → TellsBare told
  all_bare old handle told h = telling told (map as_cancel h.numbers) [] h.own h.no_device (cancels_bare h.numbers) refl

  maybe_bare : (b : Bool) (number : ℕ) → IsBare (if b then [] else Cancel number ∷ [])
  maybe_bare true number = refl
  maybe_bare false number = ([], refl, refl)

  one_cancel_bare : (old : ManagerView) (number : ℕ) (told : Told) → CancelsOne old number told → TellsBare told
  one_cancel_bare old number told h = telling told (if h.request.cancelled then [] else Cancel number ∷ []) [] h.own h.no_device (maybe_bare h.request.cancelled number) refl

  close_bare : (old : ManagerView) (handle : Handle) (reply : Reply) (new : ManagerView) (told : Told) → CloseReplies old handle reply new told → TellsBare told
  close_bare old handle OkReply new told h = all_bare old handle.number told h.1
  close_bare old handle (Refused reason bytes) new told h = nothing old told h.1.unmoved.nothing
  close_bare old handle (HandleReply given) new told h = absurd h
  close_bare old handle (Requested id) new told h = absurd h
  close_bare old handle (Answered answer) new told h = absurd h
  close_bare old handle Ignored new told h = absurd h

  target_bare : (old : ManagerView) (handle : Handle) (target : Option Id) (told : Told) → CancelsTarget old handle target told → TellsBare told
  target_bare old handle None told h = all_bare old handle.number told h
  target_bare old handle (Some id) told h = one_cancel_bare old id.number told h

  cancel_bare : (old : ManagerView) (handle : Handle) (target : Option Id) (reply : Reply) (new : ManagerView) (told : Told) → CancelReplies old handle target reply new told → TellsBare told
  cancel_bare old handle target OkReply new told h = target_bare old handle target told h.2
  cancel_bare old handle target (Refused reason bytes) new told h = nothing old told h.1.unmoved.nothing
  cancel_bare old handle target (HandleReply given) new told h = absurd h
  cancel_bare old handle target (Requested id) new told h = absurd h
  cancel_bare old handle target (Answered answer) new told h = absurd h
  cancel_bare old handle target Ignored new told h = absurd h

  mark_bare : (old : ManagerView) (number : ℕ) (reply : Reply) (new : ManagerView) (told : Told) → MarkReplies old number reply new told → TellsBare told
  mark_bare old number OkReply new told h = one_cancel_bare old number told h.0
  mark_bare old number Ignored new told h = nothing old told h.0.nothing
  mark_bare old number (HandleReply given) new told h = absurd h
  mark_bare old number (Requested id) new told h = absurd h
  mark_bare old number (Answered answer) new told h = absurd h
  mark_bare old number (Refused reason bytes) new told h = absurd h

  pnp_bare : (old : ManagerView) (event : PnpEvent) (after : PnpState) (label : Label) (reply : Reply) (new : ManagerView) (told : Told) → IsBare (label ∷ []) → PnpReplies old event after label reply new told → TellsBare told
  pnp_bare old event after label OkReply new told bare h = telling told (label ∷ []) [] h.tells.own h.no_device bare refl
  pnp_bare old event after label (Refused reason bytes) new told bare h = nothing old told h.refuses.unmoved.nothing
  pnp_bare old event after label (HandleReply given) new told bare h = absurd h
  pnp_bare old event after label (Requested id) new told bare h = absurd h
  pnp_bare old event after label (Answered answer) new told bare h = absurd h
  pnp_bare old event after label Ignored new told bare h = absurd h

  recalled_bare : (p : PnpState) (old new : ManagerView) (told : Told) → IsRecalled p old new told → TellsBare told
  recalled_bare Started old new told h = nothing old told h.nothing
  recalled_bare RemovePending old new told h = telling told (Resume ∷ []) told.device h.0.own refl ([], refl, refl) (starts_bare told.device h.1)
  recalled_bare Removing old new told h = absurd h
  recalled_bare Removed old new told h = absurd h

  recall_bare : (old : ManagerView) (reply : Reply) (new : ManagerView) (told : Told) → RecallReplies old reply new told → TellsBare told
  recall_bare old OkReply new told h = recalled_bare (pnp_state old.state) old new told h.0
  recall_bare old (Refused reason bytes) new told h = nothing old told h.refuses.unmoved.nothing
  recall_bare old (HandleReply given) new told h = absurd h
  recall_bare old (Requested id) new told h = absurd h
  recall_bare old (Answered answer) new told h = absurd h
  recall_bare old Ignored new told h = absurd h

  finish_bare : (old : ManagerView) (tag : ℕ) (reply : Reply) (new : ManagerView) (told : Told) → FinishReplies old tag reply new told → TellsBare told
  finish_bare old tag OkReply new told h =
      telling told [] (Return h.0.piece.number h.0.class ∷ h.0.starts) h.0.no_own h.0.device refl ([], refl, starts_bare h.0.starts h.0.only_starts)
  finish_bare old tag Ignored new told h = nothing old told h.0.nothing
  finish_bare old tag (HandleReply given) new told h = absurd h
  finish_bare old tag (Requested id) new told h = absurd h
  finish_bare old tag (Answered answer) new told h = absurd h
  finish_bare old tag (Refused reason bytes) new told h = absurd h

  right_bare : (reset : Bool) (told : Told) (old new : ManagerView) → IsRightBy reset told old new → TellsBare told → IsBare new.labels
  right_bare reset told old new by h = subst IsBare (sym by.in_order) (told_bare told h)

  other_bare : (old : ManagerView) (event : Event) (reply : Reply) (new : ManagerView) → IsNoAct event → IsRight old event reply new → IsBare new.labels
  other_bare old (Open partition) reply new other h = right_bare false h.told old new h.by (open_bare old partition reply new h.told h.replies)
  other_bare old (Close handle) reply new other h = right_bare false h.told old new h.by (close_bare old handle reply new h.told h.replies)
  other_bare old (ReadEvent handle offset buffer) reply new other h = right_bare false h.told old new h.by (transfer_bare old handle _ buffer reply new h.told h.replies.replies)
  other_bare old (WriteEvent handle offset bytes through) reply new other h = right_bare false h.told old new h.by (transfer_bare old handle _ bytes reply new h.told h.replies.replies)
  other_bare old (FlushEvent handle) reply new other h = right_bare false h.told old new h.by (transfer_bare old handle _ [] reply new h.told h.replies.replies)
  other_bare old (CancelIoEx handle target) reply new other h = right_bare false h.told old new h.by (cancel_bare old handle target reply new h.told h.replies)
  other_bare old (Mark number) reply new other h = right_bare false h.told old new h.by (mark_bare old number reply new h.told h.replies)
  other_bare old QueryRemove reply new other h = right_bare false h.told old new h.by (pnp_bare old Query RemovePending Pause reply new h.told ([], refl, refl) h.replies)
  other_bare old CancelRemove reply new other h = right_bare false h.told old new h.by (recall_bare old reply new h.told h.replies)
  other_bare old Remove reply new other h = right_bare false h.told old new h.by (pnp_bare old RemoveDevice Removing RemoveLabel reply new h.told ([], refl, refl) h.replies)
  other_bare old SurpriseRemove reply new other h = right_bare false h.told old new h.by (pnp_bare old SurpriseOf Removing Surprise reply new h.told ([], refl, refl) h.replies)
  other_bare old (ActEvent tag) reply new other h = absurd other
  other_bare old (Finish tag) reply new other h = right_bare false h.told old new h.by (finish_bare old tag reply new h.told h.replies)
  other_bare old Reset reply new other h =
      right_bare true h.1.told old new h.1.by (telling h.1.told [] (map fault_of h.1.replies.fresh) h.1.replies.no_own h.1.replies.device refl (faults_bare h.1.replies.fresh))

-- the entries stay those of the acts of the trace
pub others_step : (trace : List Label) (entries : List Entry) (old : ManagerView) (event : Event) (reply : Reply) (new : ManagerView) → IsNoAct event → IsRight old event reply new
    → AreOfActs trace trace entries → AreOfActs (trace ++ new.labels) (trace ++ new.labels) entries
others_step trace entries old event reply new other right were =
    let joined : AreOfActs (trace ++ new.labels) (trace ++ new.labels) (entries ++ []) =
    acts_joined (trace ++ new.labels) trace new.labels entries [] (acts_longer trace new.labels trace entries were) (other_bare (trace ++ new.labels) old event reply new other right) in
    rw (append-nil entries) at joined
