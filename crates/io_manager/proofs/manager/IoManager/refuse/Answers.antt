use Rattle.std.proofs.Common.{◌≡◌, true, false, ℕ, List, Some, sym, refl, ◌∙◌, ap, subst, length, replicate}
use Rattle.io_manager.proofs.Common.{length-replicate, ClientRequest, refusal, DeviceBusy, Refused, ManagerView, are_used_up, partition_of, call_on, without_bytes, IsRight, CallReplies, AnswersAtOnce, reply_at_once, status_at_once, view_of, ManagerKept}
use Rattle.io_manager.proofs.AnsweredAtOnce.{used_up_shown, at_once_kept}
use Rattle.io_manager.proofs.WouldOpen.{asked_is}
use Rattle.io_manager.proofs.manager.IoManager.refuse.Goals as goal

pub returns-in-UsedUp : goal.returns-in-UsedUp
returns-in-UsedUp g c = record {
  right = λ buffer long.
      used_up_shown c.self.inside.parts.limits (g.D.Shown.view c.self.inside.parts.device) c.self.inside.parts.tables c.args.self.now c.args.handle c.args.asked.kind c.args.asked.offset buffer c.args.asked.through
      c.self.invariant.kept c.self.view_is c.requires.taken (Refused DeviceBusy buffer) (subst (λ (v : ManagerView). are_used_up v.state.next_request ≡ true) (sym c.self.view_is) c.in-UsedUp.ensures) refl;
}

refused : (g : _) (c : goal.After-tell_at_once-number g) (buffer : List ℕ) → c.args.asked.length ≡ length buffer
    → IsRight (CallReplies c.args.self.now c.args.handle (call_on c.args.self.now c.args.handle c.args.asked.kind c.args.asked.offset buffer c.args.asked.through) buffer (Refused c.in-Refused.refusal buffer)
    (view_of c.self.inside.parts.limits (g.D.Shown.view c.self.inside.parts.device) c.tell_at_once-number.new.self)) c.args.self.now
    (view_of c.self.inside.parts.limits (g.D.Shown.view c.self.inside.parts.device) c.tell_at_once-number.new.self)
    × ManagerKept c.self.inside.parts.limits (g.D.Shown.view c.self.inside.parts.device) c.tell_at_once-number.new.self
refused g c buffer long =
    let called : c.request_for-request.result ≡ without_bytes (call_on c.args.self.now c.args.handle c.args.asked.kind c.args.asked.offset buffer c.args.asked.through) =
    c.request_for-request.ensures
    ∙ asked_is c.args.self.now c.args.handle c.partition_of-partition.result c.args.asked buffer (c.partition_of-partition.ensures ∙ ap (λ (v : ManagerView). partition_of v.handles c.args.handle) c.self.view_is) long in
    at_once_kept c.self.inside.parts.limits (g.D.Shown.view c.self.inside.parts.device) c.self.inside.parts.tables c.args.self.now c.args.handle c.args.asked.kind c.args.asked.offset buffer c.args.asked.through
    c.self.invariant.kept c.self.view_is c.requires.taken c.request_for-request.result c.in-Ends.at_once (Refused c.in-Refused.refusal buffer) c.tell_at_once-number.new.self
    (subst (λ (v : ManagerView). are_used_up v.state.next_request ≡ false) (sym c.self.view_is) c.in-Ends.ensures.0) called
    (subst (λ (q : ClientRequest). refusal c.args.self.now.rules c.args.self.now.state q ≡ Some (status_at_once c.in-Ends.at_once)) (sym c.request_for-request.ensures) c.in-Ends.ensures.1)
    (subst (λ status. AnswersAtOnce c.self.inside.parts.tables c.request_for-request.result status c.tell_at_once-number.new.self) (c.status.ensures ∙ ap status_at_once (sym c.in-Refused.is)) c.tell_at_once-number.ensures.tells)
    (ap (reply_at_once c.self.inside.parts.tables.next_request buffer) (sym c.in-Refused.is))

pub invariant_of-self : goal.invariant_of-self
invariant_of-self g c = record {
  takes_buffers = c.self.invariant.takes_buffers;
  locations = c.self.invariant.locations;
  vacant = c.self.invariant.vacant;
  kept = (refused g c (replicate c.args.asked.length 0) (sym (length-replicate c.args.asked.length 0))).1;
}

pub returns-in-Refused : goal.returns-in-Refused
returns-in-Refused g c = record { right = λ buffer long. (refused g c buffer long).0 }
