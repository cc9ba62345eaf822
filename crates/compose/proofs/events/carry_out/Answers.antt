use Rattle.compose.proofs.Common.{◌∙◌, ap, Rules}
use Rattle.compose.proofs.KeepsLabels.{step_keeps, step_same_rules}
use Rattle.compose.proofs.events.carry_out.Goals as goal

pub take_labels-labels-requires-clause-kept : goal.take_labels-labels-requires-clause-kept
take_labels-labels-requires-clause-kept g c = step_keeps c.args.manager.now c.args.event c.step-reply.result c.step-reply.new.manager c.step-reply.ensures.right ∙ c.requires.kept

pub take_labels-labels-requires-clause-bytes : goal.take_labels-labels-requires-clause-bytes
take_labels-labels-requires-clause-bytes g c =
    ap (λ (r : Rules). r.keeps_bytes) (step_same_rules c.args.manager.now c.args.event c.step-reply.result c.step-reply.new.manager c.step-reply.ensures.right) ∙ c.requires.bytes
