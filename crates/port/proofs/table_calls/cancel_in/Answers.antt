use Rattle.std.proofs.Common.{ap, ◌∙◌, sym, refl}
use Rattle.irp.specs.declared.Irp.{Irp}
use Rattle.port.specs.inside.TableView.{entry}
use Rattle.port.specs.inside.TableCalls.{is_cancellable}
use Rattle.port.proofs.table_calls.cancel_in.Goals as goal

pub returns : goal.returns
returns c = record {
  held = c.in-Some.held;
  marked = record { irp = c.mark_cancelled.new.irp; request = c.in-Some.held.request; spot = c.in-Some.held.spot };
  is_there = c.in-Some.is;
  can = ap (λ (i : Irp). is_cancellable c.args.number (entry i c.in-Some.held.request c.in-Some.held.spot)) (sym c.deref.ensures) ∙ sym c.is_cancellable.ensures ∙ c.if-not-is_cancellable.false;
  same_entry = c.mark_cancelled.ensures.entry _ _;
  after = refl;
}
