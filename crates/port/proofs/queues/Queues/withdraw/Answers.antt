use Rattle.std.proofs.Common.{refl, ap}
use Rattle.port.specs.inside.TableView.{books_of}
use Rattle.port.proofs.Queued.{found_none, found}
use Rattle.port.proofs.queues.Queues.withdraw.Goals as goal

pub returns-in_default : goal.returns-in_default
returns-in_default c = found_none (books_of c.args.self.now) _ c.args.self.now.waiting c.find.new.self c.args.number _ refl c.in_default.ensures.none c.in_default.ensures.after refl

pub returns : goal.returns
returns c = found (books_of c.args.self.now) _ c.args.self.now.waiting c.find.new.self c.args.number c.in-Some.spot c.withdraw_at.result refl c.in-Some.ensures c.withdraw_at.ensures.withdraws
