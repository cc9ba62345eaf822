-- Each packet taken leaves fewer below, or uses up a restart.
use Rattle.class_disk.specs.inside.TableView.{books_of}
use Rattle.class_disk.proofs.TakingAll.{takes_nothing, takes_more, takes_all}
use Rattle.class_disk.proofs.Extension.take_all.Goals as goal

pub taking-init : goal.taking-init
taking-init g c = takes_nothing c.args.way _ (books_of c.args.self.now.table)

pub take_one-requires-clause-midway : goal.take_one-requires-clause-midway
take_one-requires-clause-midway g c =
    let (first, labels, m) = c.requires.midway in
    (_, _, c.taking.invariant.stays first labels m)

pub taking-smaller : goal.taking-smaller
taking-smaller g c = c.taking-test.ensures.fewer

pub taking-preserved : goal.taking-preserved
taking-preserved g c = takes_more c.args.way _ (books_of c.args.self.now.table) _ _ _ _ c.taking.invariant c.taking-test.ensures

pub returns : goal.returns
returns g c = takes_all c.args.way _ (books_of c.args.self.now.table) _ _ _ _ c.taking.invariant c.taking-test.ensures
