use Rattle.std.proofs.Common.{◌<◌, ◌≤◌, length, arith, rules, tests}
use Rattle.book.proofs.Following.{disarmed_all, disarmed_first, disarmed_more}
use Rattle.book.proofs.settling.disarm_piece.Goals as goal

pub loop-tag-init : goal.loop-tag-init
loop-tag-init g c = record { disarmed = disarmed_first c.args.journal.now c.args.piece }

pub disarm_on-requires : goal.disarm_on-requires
disarm_on-requires g c =
    let less : c.loop-tag.tag < length c.args.journal.now.slots = search (rules, tests) in
    let many = c.loop-tag.invariant.disarmed.as_many in
    omega (arith, less, many)

pub loop-tag-preserved : goal.loop-tag-preserved
loop-tag-preserved g c = record {
  disarmed = disarmed_more c.args.journal.now c.loop-tag.journal c.disarm_on.new.journal c.loop-tag.tag c.args.piece c.loop-tag.invariant.disarmed c.disarm_on.ensures;
}

pub returns : goal.returns
returns g c =
    let most : length c.args.journal.now.slots ≤ c.loop-tag.tag = search (rules, tests) in
    disarmed_all c.args.journal.now c.loop-tag.journal c.loop-tag.tag c.args.piece c.loop-tag.invariant.disarmed most
