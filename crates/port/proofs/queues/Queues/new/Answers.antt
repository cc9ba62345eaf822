use Rattle.std.proofs.Common.{ℕ, ◌∙◌, refl, ap, map, arith}
use Rattle.std.specs.Prelude.{is_some, count_by}
use Rattle.std.specs.VecDeque.{deque_capacity}
use Rattle.linked.specs.Queue.{Queue}
use Rattle.port.specs.declared.queues.Waiting.{Waiting}
use Rattle.port.specs.inside.TableView.{Capacity, held_at}
use Rattle.port.proofs.queues.Queues.new.Goals as goal

abbrev capacity_of : ℕ → ℕ → ℕ → ℕ → Capacity
capacity_of started waiting done rooms = record { started = started; waiting = waiting; done = done; rooms = rooms }

pub returns : goal.returns
returns c = record {
  sizes_are = refl;
  waiting = ap (λ q. map held_at q.entries) c.new.ensures;
  started = omega (arith, c.loop.invariant.filled, c.loop.auto, c.loop-test);
  done = c.new-2.ensures.items;
  last_request = refl;
  next_piece = refl;
  submitted = refl;
  removing = refl;
  places = ap (count_by is_some) c.new-3.ensures.empty;
  rooms = c.new-3.ensures.empty;
  capacity = ap (λ (n : ℕ). capacity_of n c.new.result.places (deque_capacity c.new-2.result.list) c.new-3.result.capacity) c.loop.invariant.exact
      ∙ ap (λ (q : Queue Waiting). capacity_of c.args.sizes.depth q.places (deque_capacity c.new-2.result.list) c.new-3.result.capacity) c.new.ensures
      ∙ ap (λ (n : ℕ). capacity_of c.args.sizes.depth 0 n c.new-3.result.capacity) c.new-2.ensures.places
      ∙ ap (λ (n : ℕ). capacity_of c.args.sizes.depth 0 0 n) c.new-3.ensures.capacity;
}
