use Rattle.std.proofs.Common.{ℕ, ap, refl}
use Rattle.port.specs.inside.TableView.{books_of}
use Rattle.port.proofs.Queued.{with_queue, withdrawn_none, withdrawn}
use Rattle.port.proofs.queues.Queues.withdraw_at.Goals as goal

pub returns-in_default-clause-withdraws : goal.returns-in_default-clause-withdraws
returns-in_default-clause-withdraws c = withdrawn_none (books_of c.args.self.now) _ c.args.self.now.waiting c.remove_number.new.self c.args.spot c.args.number refl c.in_default.ensures refl

pub returns-clause-withdraws : goal.returns-clause-withdraws
returns-clause-withdraws c = withdrawn (books_of c.args.self.now) _ c.args.self.now.waiting c.remove_number.new.self c.args.spot c.args.number _ _ _ refl c.requires.not_cancelled c.in-Some.ensures (c.mark_cancelled.ensures.entry _ _) c.mark_cancelled.ensures.payload refl c.push_back_reserved.ensures.items
    (ap (λ (n : ℕ). record (with_queue (books_of c.args.self.now) c.remove_number.new.self) { done = c.push_back_reserved.new.self.list.items; capacity = record (with_queue (books_of c.args.self.now) c.remove_number.new.self).capacity { done = n } }) c.push_back_reserved.ensures.capacity)
