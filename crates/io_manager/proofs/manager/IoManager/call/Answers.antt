use Rattle.std.proofs.Common.{◌≡◌, true, false, Some, sym, ◌∙◌, ap, subst}
use Rattle.io_manager.proofs.Common.{ClientRequest, refusal, ManagerView, are_used_up, partition_of, call_on, without_bytes, status_at_once, IsRight, CallReplies, view_of, ManagerKept}
use Rattle.io_manager.proofs.AnsweredAtOnce.{used_up_shown, at_once_kept}
use Rattle.io_manager.proofs.WouldOpen.{asked_is}
use Rattle.io_manager.proofs.manager.IoManager.call.Goals as goal

pub returns-in-UsedUp : goal.returns-in-UsedUp
returns-in-UsedUp g c = record {
  right =
      used_up_shown c.self.inside.parts.limits (g.D.Shown.view c.self.inside.parts.device) c.self.inside.parts.tables c.args.self.now c.args.handle c.args.asked.kind c.args.asked.offset c.args.buffer c.args.asked.through
      c.self.invariant.kept c.self.view_is c.requires.taken c.refused.result (subst (λ (v : ManagerView). are_used_up v.state.next_request ≡ true) (sym c.self.view_is) c.in-UsedUp.ensures) c.refused.ensures;
}

answered : (g : _) (c : goal.After-answer_at_once g)
    → IsRight (CallReplies c.args.self.now c.args.handle (call_on c.args.self.now c.args.handle c.args.asked.kind c.args.asked.offset c.args.buffer c.args.asked.through) c.args.buffer c.answer_at_once.result
    (view_of c.self.inside.parts.limits (g.D.Shown.view c.self.inside.parts.device) c.answer_at_once.new.self)) c.args.self.now
    (view_of c.self.inside.parts.limits (g.D.Shown.view c.self.inside.parts.device) c.answer_at_once.new.self)
    × ManagerKept c.self.inside.parts.limits (g.D.Shown.view c.self.inside.parts.device) c.answer_at_once.new.self
answered g c =
    let called : c.request_for-request.result ≡ without_bytes (call_on c.args.self.now c.args.handle c.args.asked.kind c.args.asked.offset c.args.buffer c.args.asked.through) =
    c.request_for-request.ensures
    ∙ asked_is c.args.self.now c.args.handle c.partition_of-partition.result c.args.asked c.args.buffer (c.partition_of-partition.ensures ∙ ap (λ (v : ManagerView). partition_of v.handles c.args.handle) c.self.view_is) c.requires.length in
    at_once_kept c.self.inside.parts.limits (g.D.Shown.view c.self.inside.parts.device) c.self.inside.parts.tables c.args.self.now c.args.handle c.args.asked.kind c.args.asked.offset c.args.buffer c.args.asked.through
    c.self.invariant.kept c.self.view_is c.requires.taken c.request_for-request.result c.in-Ends.at_once c.answer_at_once.result c.answer_at_once.new.self
    (subst (λ (v : ManagerView). are_used_up v.state.next_request ≡ false) (sym c.self.view_is) c.in-Ends.ensures.0) called
    (subst (λ (q : ClientRequest). refusal c.args.self.now.rules c.args.self.now.state q ≡ Some (status_at_once c.in-Ends.at_once)) (sym c.request_for-request.ensures) c.in-Ends.ensures.1)
    c.answer_at_once.ensures.tells c.answer_at_once.ensures.replies

pub invariant_of-self : goal.invariant_of-self
invariant_of-self g c = record {
  takes_buffers = c.self.invariant.takes_buffers;
  locations = c.self.invariant.locations;
  vacant = c.self.invariant.vacant;
  kept = (answered g c).1;
}

pub returns-in-Ends : goal.returns-in-Ends
returns-in-Ends g c = record { right = (answered g c).0 }
