use Rattle.script.proofs.PrintedLabels.{none_written, step_written}
use Rattle.script.proofs.player.write_labels.Goals as goal

pub loop-label-init : goal.loop-label-init
loop-label-init g c = none_written _ _ _ c.requires.answers c.requires.bytes

pub loop-label-preserved : goal.loop-label-preserved
loop-label-preserved g c =
    step_written c.args.style _ _ c.loop-label.stack c.take_shown.new.self c.in-Some.label _ _ _ _ c.loop-label.invariant c.in-Some.ensures
    c.give_bytes.ensures.taken c.give_bytes.ensures.label c.in_ok-write_label.ensures
