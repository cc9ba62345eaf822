use Rattle.label_text.proofs.BytesLeft.{none_read, some_read}
use Rattle.label_text.proofs.reading.bytes.Goals as goal

pub returns-in_default-2 : goal.returns-in_default-2
returns-in_default-2 c = none_read _ c.in_ok-bytes.field-0 c.args.words.now c.in-Some.digits.now c.in_default-2.is c.in_ok-bytes.ensures c.in-Some.ensures.left

pub returns : goal.returns
returns c = some_read _ c.in_ok-bytes.field-0 c.in-Some-2.bytes c.args.words.now c.in-Some.digits.now c.new.result c.in-Some-2.is c.new.ensures c.in_ok-bytes.ensures c.in-Some.ensures.left
