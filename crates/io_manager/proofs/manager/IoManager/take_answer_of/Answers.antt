use Rattle.io_manager.proofs.Common.{rules, arith, ◌≡◌, ◌<◌, ◌≤◌, ◌+◌, deque_len}
use Rattle.std.specs.Prelude.{remove}
use Rattle.io_manager.specs.inside.Handover.{IsAt}
use Rattle.io_manager.proofs.TakenOut.{with_fewer, of_some}
use Rattle.io_manager.proofs.manager.IoManager.take_answer_of.Goals as goal

pub invariant_of-self : goal.invariant_of-self
invariant_of-self g c =
    let untaken = c.self.inside.parts.tables.untaken in
    let at : IsAt untaken.items c.args.number c.in_ok-at.at = c.in_ok-at.ensures in
    let less : c.in_ok-at.at < deque_len untaken = search (at.within, rules) in
    let is = c.remove.ensures.succeeds at.answer less in
    let items : c.remove.new.self.items ≡ remove untaken.items c.in_ok-at.at = of_some _ _ _ is c.remove.ensures.items in
    let fewer : deque_len c.remove.new.self + 1 ≡ deque_len untaken = of_some _ _ _ is c.remove.ensures.len in
    let shorter : deque_len c.remove.new.self ≤ deque_len untaken = omega arith in
    record {
      takes_buffers = c.self.invariant.takes_buffers;
      locations = c.self.invariant.locations;
      vacant = c.self.invariant.vacant;
      kept = with_fewer _ _ c.self.inside.parts.tables (record c.self.inside.parts.tables { untaken = c.remove.new.self }) c.in_ok-at.at c.self.invariant.kept items shorter c.remove.ensures.capacity;
    }
