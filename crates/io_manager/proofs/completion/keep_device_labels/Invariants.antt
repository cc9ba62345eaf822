use Rattle.io_manager.specs.inside.Completion.{and_recorded}
use Rattle.io_manager.proofs.completion.keep_device_labels.Given as goal

abbrev pub ghost-with : goal.ghost-with
ghost-with g a = and_recorded a.self.now.items (g.D.Shown.view a._from.now)
