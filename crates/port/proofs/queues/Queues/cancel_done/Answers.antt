use Rattle.std.specs.VecDeque.{deque_capacity}
use Rattle.std.proofs.Common.{ℕ, ◌<◌, ◌∙◌, refl, sym, ap, subst, length}
use Rattle.port.specs.inside.TableView.{books_of}
use Rattle.port.proofs.Searching.{found_within, cancels_marked, cancels_no_ended}
use Rattle.port.proofs.queues.Queues.cancel_done.Goals as goal

pub mark-requires : goal.mark-requires
mark-requires c =
    subst (λ ds. c.in-Some.index < length ds) (sym (ap (λ l. l.items) c.find.ensures.same)) (found_within c.args.number c.in-Some.index c.args.self.now.done.list.items (sym c.in-Some.is ∙ c.find.ensures.found))

pub returns-in_default-clause-cancels : goal.returns-in_default-clause-cancels
returns-in_default-clause-cancels c =
    cancels_no_ended (books_of c.args.self.now) _ c.args.number (sym c.in_default.is ∙ c.find.ensures.found) (ap (λ l. record (books_of c.args.self.now) { done = l.items; capacity = record (books_of c.args.self.now).capacity { done = deque_capacity l } }) c.find.ensures.same)

pub returns-clause-cancels : goal.returns-clause-cancels
returns-clause-cancels c =
    cancels_marked (books_of c.args.self.now) _ c.args.number c.in-Some.index c.find.new.self.list.items c.mark.new.self.list.items (sym c.in-Some.is ∙ c.find.ensures.found) (ap (λ l. l.items) c.find.ensures.same) c.mark.ensures.marks
    (ap (λ (n : ℕ). record (books_of c.args.self.now) { done = c.mark.new.self.list.items; capacity = record (books_of c.args.self.now).capacity { done = n } }) (c.mark.ensures.capacity ∙ ap (λ l. deque_capacity l) c.find.ensures.same))
