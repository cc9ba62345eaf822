use Rattle.std.proofs.Common.{arith, refl, rules}
use Rattle.label_text.proofs.Numbers.{no_number, read_number}
use Rattle.label_text.proofs.words.piece.Goals as goal

pub returns-in-Ok : goal.returns-in-Ok
returns-in-Ok c =
    read_number 128 c.args.word.now c.parse.result c.in-Ok.number c.is_written.result c.then_some.result (omega arith) (omega arith) c.parse.ensures.value.0 c.in-Ok.is c.is_written.ensures c.then_some.ensures

pub returns-in-Err : goal.returns-in-Err
returns-in-Err c = no_number 128 c.args.word.now c.parse.result _ (omega arith) c.parse.ensures.value.0 (search rules) refl
