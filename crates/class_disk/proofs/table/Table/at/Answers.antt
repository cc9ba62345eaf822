-- What is open stands there.
use Rattle.std.proofs.Common.{rules, Some, sym, ◌∙◌, ap}
use Rattle.std.specs.Option.{option_copied}
use Rattle.class_disk.proofs.Replacing.{stands_there, stands_as}
use Rattle.class_disk.proofs.table.Table.at.Goals as goal

pub unreachable-requires : goal.unreachable-requires
unreachable-requires c =
    let (t, there) = stands_there c.args.self.now c.args.slot c.requires.0 c.requires.1 in
    search rules

pub returns : goal.returns
returns c = λ o is_open.
    stands_as c.args.self.now c.args.slot c.in-Some-Open.transfer o
    (sym c.get.ensures ∙ ap option_copied c.in-Some-Open.is ∙ ap Some c.in-Some-Open.field-0-is) is_open
