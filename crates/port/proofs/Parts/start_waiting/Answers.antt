use Rattle.std.proofs.Common.{◌≡◌, ap, arith, inr, length, refl}
use Rattle.machine.specs.Rules.{Rules}
use Rattle.port.specs.inside.TableView.{books_of}
use Rattle.port.proofs.Starting.{releases_none, releases_then}
use Rattle.port.proofs.Queued.{none_waits}
use Rattle.port.proofs.Orderly.{in_hand, busy_after}
use Rattle.port.proofs.Parts.start_waiting.Goals as goal

pub loop-tag-init : goal.loop-tag-init
loop-tag-init g c = record {
  kept = λ rooms h. h;
  releases = releases_none _ _;
  lower = inr (λ l below. absurd (omega arith));
  end = refl;
}

pub start_one-requires-clause-kept : goal.start_one-requires-clause-kept
start_one-requires-clause-kept g c = (c.requires.0, c.loop-tag.invariant.kept _ c.requires.1)

pub start_one-requires-clause-tag : goal.start_one-requires-clause-tag
start_one-requires-clause-tag g c =
    let d : (books_of c.loop-tag.self.queues).sizes.depth ≡ (books_of c.args.self.now.queues).sizes.depth = ap (λ (r : Rules). r.depth) c.loop-tag.invariant.releases.moves.same_rules in
    let k = (c.loop-tag.invariant.kept _ c.requires.1).sizes.depth in
    omega arith

pub loop-tag-preserved : goal.loop-tag-preserved
loop-tag-preserved g c = record {
  kept = λ rooms h. c.start_one.ensures.rooms rooms (c.loop-tag.invariant.kept rooms h);
  releases = releases_then _ _ _ _ _ _ c.loop-tag.invariant.releases c.start_one.ensures.releases;
  lower = c.start_one.ensures.lower;
  end = c.loop-tag.invariant.end;
}

pub returns-then-len-eq0-clause-rooms : goal.returns-then-len-eq0-clause-rooms
returns-then-len-eq0-clause-rooms g c = λ rooms h.
    let none : length c.loop-tag.self.queues.waiting.entries ≡ 0 = omega (arith, c.len.ensures, c.if-len-eq0.true) in
    in_hand _ _ rooms (c.loop-tag.invariant.kept rooms h) (λ free. none_waits c.loop-tag.self.queues.waiting.entries none)

pub returns-clause-rooms : goal.returns-clause-rooms
returns-clause-rooms g c = λ rooms h.
    let d : (books_of c.loop-tag.self.queues).sizes.depth ≡ (books_of c.args.self.now.queues).sizes.depth = ap (λ (r : Rules). r.depth) c.loop-tag.invariant.releases.moves.same_rules in
    let k = (c.loop-tag.invariant.kept rooms h).sizes.depth in
    in_hand _ _ rooms (c.loop-tag.invariant.kept rooms h) (busy_after (books_of c.loop-tag.self.queues) (g.A.Adapter.view c.loop-tag.self.adapter) c.loop-tag.tag (omega arith) c.loop-tag.invariant.lower)
