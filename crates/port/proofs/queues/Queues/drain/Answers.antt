use Rattle.std.specs.VecDeque.{deque_capacity}
use Rattle.linked.specs.Queue.{Queue}
use Rattle.port.specs.declared.queues.Waiting.{Waiting}
use Rattle.std.proofs.Common.{ℕ, true, ◌++◌, [], ◌∷◌, List, ap, sym, refl, ◌∙◌, arith, length, map, length-append, append_assoc}
use Rattle.std.proofs.lemmas.List.{append-nil, map-append}
use Rattle.port.specs.declared.queues.PortPacket.{PortPacket}
use Rattle.port.specs.declared.queues.Ended.{Ended}
use Rattle.port.specs.inside.TableView.{TableView, books_of, held_at}
use Rattle.port.specs.inside.TableCalls.{gone}
use Rattle.port.proofs.Searching.{drained_by}
use Rattle.port.proofs.Queued.{popped}
use Rattle.port.proofs.queues.Queues.drain.Goals as goal

pub loop-spot-init : goal.loop-spot-init
loop-spot-init c = record { before = []; waited = refl; went = sym (append-nil _); others = refl; few = c.requires }

pub push_back_reserved-requires : goal.push_back_reserved-requires
push_back_reserved-requires c =
    let l = ap (λ (hs : List PortPacket). length hs) (popped _ _ _ _ c.in-Some.ensures) in
    let few = c.loop-spot.invariant.few in
    omega (arith, c.loop-spot.self.done.list.ok, c.loop-spot.self.done_places)

pub loop-spot-smaller : goal.loop-spot-smaller
loop-spot-smaller c = let l = ap (λ (hs : List PortPacket). length hs) (popped _ _ _ _ c.in-Some.ensures) in omega arith

pub loop-spot-preserved : goal.loop-spot-preserved
loop-spot-preserved c =
    let h = held_at (c.in-Some.spot, c.in-Some.waiting) in
    let i = c.loop-spot.invariant in
    let p = popped _ _ _ _ c.in-Some.ensures in
    let l = ap (λ (hs : List PortPacket). length hs) p in
    let m = ap (λ (ds : List Ended). length ds) c.push_back_reserved.ensures.items in
    record {
      before = i.before ++ h ∷ [];
      waited = i.waited ∙ ap (λ (hs : List PortPacket). i.before ++ hs) p ∙ sym (append_assoc i.before (h ∷ []) _);
      went = c.push_back_reserved.ensures.items ∙ ap (λ (ds : List Ended). ds ++ gone h ∷ []) i.went ∙ append_assoc _ (map gone i.before) (gone h ∷ []) ∙ ap (λ (ds : List Ended). c.args.self.now.done.list.items ++ ds) (sym (map-append gone i.before (h ∷ [])));
      others = ap (λ (n : ℕ). record (books_of c.loop-spot.self) { waiting = map held_at c.pop_front.new.self.entries; done = c.push_back_reserved.new.self.list.items; capacity = record (books_of c.loop-spot.self).capacity { waiting = n; done = deque_capacity c.push_back_reserved.new.self.list } }) (ap (λ (q : Queue Waiting). q.places) c.in-Some.ensures.after)
          ∙ ap (λ (n : ℕ). record (books_of c.loop-spot.self) { waiting = map held_at c.pop_front.new.self.entries; done = c.push_back_reserved.new.self.list.items; capacity = record (books_of c.loop-spot.self).capacity { done = n } }) c.push_back_reserved.ensures.capacity
          ∙ ap (λ (x : TableView). record x { waiting = map held_at c.pop_front.new.self.entries; done = c.push_back_reserved.new.self.list.items }) i.others;
      few = omega (arith, i.few, length-append c.loop-spot.self.done.list.items (gone h ∷ []));
    }

pub returns : goal.returns
returns c =
    let none = ap (λ es. length (map held_at es)) c.in_default.ensures.empty in
    let same = ap (λ q. length (map held_at q.entries)) c.in_default.ensures.same in
    ap (λ (q : Queue Waiting). record (books_of c.loop-spot.self) { waiting = map held_at c.pop_front.new.self.entries; removing = true; capacity = record (books_of c.loop-spot.self).capacity { waiting = q.places } }) c.in_default.ensures.same
    ∙ drained_by (books_of c.args.self.now) (books_of c.loop-spot.self) c.loop-spot.invariant.before (map held_at c.pop_front.new.self.entries) c.loop-spot.invariant.waited c.loop-spot.invariant.went c.loop-spot.invariant.others
    none (same ∙ none)
