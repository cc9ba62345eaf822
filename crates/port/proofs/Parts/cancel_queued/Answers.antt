use Rattle.port.specs.inside.TableView.{books_of}
use Rattle.port.proofs.Spots.{queued}
use Rattle.port.proofs.Parts.cancel_queued.Goals as goal

pub returns-clause-rooms : goal.returns-clause-rooms
returns-clause-rooms g c = (queued (books_of c.args.self.now.queues) (books_of c.withdraw_at.new.self) (g.A.Adapter.view c.args.self.now.adapter) c.args.spot c.args.number c.withdraw_at.result c.withdraw_at.ensures.withdraws).rooms

pub returns-clause-cancels : goal.returns-clause-cancels
returns-clause-cancels g c = (queued (books_of c.args.self.now.queues) (books_of c.withdraw_at.new.self) (g.A.Adapter.view c.args.self.now.adapter) c.args.spot c.args.number c.withdraw_at.result c.withdraw_at.ensures.withdraws).cancels
