use Rattle.std.proofs.Common.{◌≤◌, length, rules, tests}
use Rattle.book.proofs.Following.{followed_all, followed_more, followed_none}
use Rattle.book.proofs.settling.settle_all.Goals as goal

pub loop-place-init : goal.loop-place-init
loop-place-init g c = record { on_tags = c.requires.on_tags; follows = followed_none c.args.traced.now.stack.adapter c.args.traced.now.entries c.args.from c.args.journal.now }

pub loop-place-preserved : goal.loop-place-preserved
loop-place-preserved g c =
    let low : c.args.from ≤ c.loop-place.place = search (rules, tests) in
    record {
      on_tags = c.settle_label.ensures.on_tags;
      follows =
          followed_more c.args.traced.now.stack.adapter c.args.traced.now.entries c.args.from c.loop-place.place c.args.journal.now c.loop-place.journal c.settle_label.new.journal c.entry.result.now low
          c.loop-place.invariant.follows c.entry.ensures c.settle_label.ensures.follows;
    }

pub returns-clause-follows : goal.returns-clause-follows
returns-clause-follows g c =
    let low : c.args.from ≤ c.loop-place.place = search (rules, tests) in
    let most : length c.args.traced.now.entries ≤ c.loop-place.place = search (rules, tests) in
    followed_all c.args.traced.now.stack.adapter c.args.traced.now.entries c.args.from c.loop-place.place c.args.journal.now c.loop-place.journal low most c.loop-place.invariant.follows
