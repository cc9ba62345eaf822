use Rattle.std.proofs.Common.{◌≡◌, sym, subst, ◌∙◌, ap}
use Rattle.nbd.specs.Beside.{Account}
use Rattle.nbd.specs.declared.beside.Happening.TheVariants.{Answered, Read}
use Rattle.library_tests.specs.Desks.{said_at}
use Rattle.library_tests.specs.declared.desk.Told.{Told}
use Rattle.library_tests.specs.declared.desk.Stage.TheVariants.{Fresh, OneRead, PassedOn, OneTold}
use Rattle.library_tests.proofs.Desking.{goes_from, reads_first, reads_second, tells_first, tells_second}
use Rattle.library_tests.proofs.desk.ToldDesk.next.Goals as goal

pub returns-in-Fresh : goal.returns-in-Fresh
returns-in-Fresh c = λ (first : Told) a is. goes_from (λ (t : Told). t.stage) first _ _ a Read is (rw c.in-Fresh.is (reads_first))

pub returns-in-OneRead : goal.returns-in-OneRead
returns-in-OneRead c = λ (first : Told) a is. goes_from (λ (t : Told). t.stage) first _ _ a Read is (rw c.in-OneRead.is (reads_second))

pub returns-in-PassedOn : goal.returns-in-PassedOn
returns-in-PassedOn c = λ (first : Told) a is. goes_from (λ (t : Told). t.stage) first _ _ a (Answered 1 8 _) is (rw c.in-PassedOn.is (tells_second))

pub returns-in-OneTold : goal.returns-in-OneTold
returns-in-OneTold c = λ (first : Told) a is. goes_from (λ (t : Told). t.stage) first _ _ a (Answered 0 7 _) is (rw c.in-OneTold.is (tells_first _ c.new.ensures.items))
