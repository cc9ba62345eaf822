use Rattle.io_manager.specs.inside.Admitting.{with_bytes}
use Rattle.io_manager.proofs.tables.tell_call.Given as goal

abbrev pub ghost-tell_as : goal.ghost-tell_as
ghost-tell_as a = with_bytes a.from.now.items a.item
