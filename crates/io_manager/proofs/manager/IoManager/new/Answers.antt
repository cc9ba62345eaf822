use Rattle.io_manager.proofs.Opened.{ManagerKept-opening, first_view}
use Rattle.io_manager.proofs.manager.IoManager.new.Goals as goal

pub invariant_of-result : goal.invariant_of-result
invariant_of-result g c = record {
  takes_buffers = c.requires.takes_buffers;
  locations = c.requires.locations;
  vacant = c.requires.unasked.vacant;
  kept =
      ManagerKept-opening c.args.limits (g.D.Shown.view c.args.device) c.in-Ok.tables c.shows_order.ensures.order c.requires.unasked c.requires.limits
      c.in-Ok.ensures.empty c.in-Ok.ensures.places;
}

pub returns-clause-view : goal.returns-clause-view
returns-clause-view g c =
    first_view c.args.limits (g.D.Shown.view c.args.device) c.in-Ok.tables c.shows_order.ensures.order c.requires.unasked c.requires.limits
    c.in-Ok.ensures.empty c.in-Ok.ensures.places
