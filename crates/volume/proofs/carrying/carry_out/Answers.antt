use Rattle.volume.proofs.Common.{sym, subst, ClientRequest, ManagerView, Ends, Goes, Turns}
use Rattle.volume.proofs.Calling.{called, ends_called, goes_called, turns_called}
use Rattle.volume.proofs.Untraced.{read_stepped}
use Rattle.volume.proofs.carrying.carry_out.Goals as goal

pub await_answer-requires-clause-goes : goal.await_answer-requires-clause-goes
await_answer-requires-clause-goes g c =
    let q : ClientRequest = c.requires.asks.0 in (
      c.args.stack.now,
      c.in-Request.field-0.number,
      q,
      c.requires.ready,
      subst (λ (v : ManagerView). Goes c.args.stack.now c.in-Request.field-0.number q v) (sym c.in-Request.ensures.steps.after)
          (goes_called c.args.stack.now c.requires.ready q c.in-Request.field-0 c.in-Request.ensures.steps.stepped
          (called c.args.stack.now c.args.event q _ c.in-Request.ensures.steps.stepped c.requires.asks.1 c.in-Request.ensures.steps.right)),
    )

pub returns-in-Request : goal.returns-in-Request
returns-in-Request g c = λ q asks known.
    c.await_answer.ensures c.args.stack.now c.in-Request.field-0.number q c.requires.ready
    (subst (λ (v : ManagerView). Goes c.args.stack.now c.in-Request.field-0.number q v) (sym c.in-Request.ensures.steps.after)
    (goes_called c.args.stack.now c.requires.ready q c.in-Request.field-0 c.in-Request.ensures.steps.stepped
    (called c.args.stack.now c.args.event q _ c.in-Request.ensures.steps.stepped asks c.in-Request.ensures.steps.right)))

pub returns-in-Answered : goal.returns-in-Answered
returns-in-Answered g c = λ q asks known.
    subst (λ (v : ManagerView). Ends c.args.stack.now q c.in-Answered.answer v) (sym c.in-Answered.ensures.steps.after)
    (ends_called c.args.stack.now c.requires.ready q known c.in-Answered.answer c.in-Answered.ensures.steps.stepped
    (called c.args.stack.now c.args.event q _ c.in-Answered.ensures.steps.stepped asks c.in-Answered.ensures.steps.right)
    (read_stepped _ _ _ _ c.in-Answered.ensures.steps c.in-Answered.ensures.between))

pub returns-in-Refused : goal.returns-in-Refused
returns-in-Refused g c = λ q asks known.
    subst (λ (v : ManagerView). Turns c.args.stack.now q c.in-Refused.refusal v) (sym c.in-Refused.ensures.steps.after)
    (turns_called c.args.stack.now c.requires.ready q known c.in-Refused.refusal c.in-Refused.bytes c.in-Refused.ensures.steps.stepped
    (called c.args.stack.now c.args.event q _ c.in-Refused.ensures.steps.stepped asks c.in-Refused.ensures.steps.right)
    (read_stepped _ _ _ _ c.in-Refused.ensures.steps c.in-Refused.ensures.between))
