use Rattle.saddlemug.proofs.Faulty.{tells_fault, tells_none}
use Rattle.saddlemug.proofs.faults.saddlemug_settings_words.Goals as goal

pub returns-in-Some : goal.returns-in-Some
returns-in-Some c = tells_fault c.args.settings.now c.in-Some.fault c.args.buffer.now c.tell.result c.tell.new.buffer c.in-Some.ensures c.tell.ensures

pub returns-in-None : goal.returns-in-None
returns-in-None c =
    tells_none c.args.settings.now c.args.buffer.now c.tell_none.result c.tell_none.new.buffer c.in-None.ensures c.tell_none.ensures
