use Rattle.io_manager.proofs.Common.{◌++◌, map, as_answer}
use Rattle.io_manager.proofs.completion.keep_answers.Given as goal

abbrev pub ghost-with : goal.ghost-with
ghost-with a = a.self.now.items ++ map as_answer a._from.now.items
