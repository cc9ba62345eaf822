use Rattle.class_disk.proofs.Common.{sym, ◌∙◌, ap, option_copied}
use Rattle.class_disk.proofs.Cancelling.{cannot_there, can_there}
use Rattle.class_disk.proofs.table.Table.can_cancel.Goals as goal

pub returns-in-Some : goal.returns-in-Some
returns-in-Some c =
    can_there c.args.self.now c.args.slot c.args.number c.in-Some.found.now c.is_open_under.result
    (sym c.get.ensures ∙ ap option_copied c.in-Some.is) c.is_open_under.ensures

pub returns-in-None : goal.returns-in-None
returns-in-None c = cannot_there c.args.self.now c.args.slot c.args.number (sym c.get.ensures ∙ ap option_copied c.in-None.is)
