use Rattle.serving.proofs.Common.{sym, led}
use Rattle.serving.proofs.Carrying.{keeps_on}
use Rattle.serving.proofs.pens.TracePen.step.Goals as goal

pub returns-clause-told : goal.returns-clause-told
returns-clause-told g c = record {
  stepped = c.step-reply.new.self;
  right = c.step-reply.ensures.right;
  after = c.tell.ensures.taken;
  wrote = λ bytes.
      c.tell.ensures.wrote
      (keeps_on c.step-reply.new.self c.args.stack.now (sym (led c.args.stack.now c.args.event c.step-reply.result c.step-reply.new.self c.step-reply.ensures.right).by.same_rules) bytes);
}
