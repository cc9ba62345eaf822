use Rattle.io_manager.specs.inside.Completion.{and_answers}
use Rattle.io_manager.proofs.noting.note_answers.Given as goal

abbrev pub ghost-with : goal.ghost-with
ghost-with a = and_answers a.self.now.items a._from.now.items
