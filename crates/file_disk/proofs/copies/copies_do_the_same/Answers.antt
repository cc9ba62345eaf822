use Rattle.file_disk.proofs.Copying.{copies_send, copies_suit, copies_transfer}
use Rattle.file_disk.proofs.copies.copies_do_the_same.Goals as goal

pub returns-clause-transfer : goal.returns-clause-transfer
returns-clause-transfer c = copies_transfer

pub returns-clause-suit : goal.returns-clause-suit
returns-clause-suit c = copies_suit

pub returns-clause-send : goal.returns-clause-send
returns-clause-send c = copies_send
