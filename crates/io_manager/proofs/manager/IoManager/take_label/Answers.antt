use Rattle.io_manager.proofs.TakenOut.{taken_whole}
use Rattle.io_manager.proofs.manager.IoManager.take_label.Goals as goal

pub returns : goal.returns
returns g c = record { takes = taken_whole c.args.self.now c.take_shown.result c.take_shown.new.self c.requires.bytes c.take_shown.ensures.takes }
