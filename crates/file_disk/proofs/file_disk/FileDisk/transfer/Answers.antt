use Rattle.std.proofs.Common.{◌≡◌, Err, rules, subst}
use Rattle.file_disk.specs.Transfers.{DiskView, FailsByRow}
use Rattle.file_disk.proofs.Booking.{refused_suits}
use Rattle.file_disk.proofs.file_disk.FileDisk.transfer.Goals as goal

pub returns-in_err-command-clause-suits : goal.returns-in_err-command-clause-suits
returns-in_err-command-clause-suits g c =
    let given : c.from_residual.result ≡ Err c.in_err-command.field-0.0 = search rules in
    rw given (refused_suits c.args.self.now c.args.tag c.args.piece c.args.srb.now c.in_err-command.field-0.0
    (subst (λ (d : DiskView). FailsByRow d c.args.srb.now c.in_err-command.field-0.0) c.self.view_is c.in_err-command.ensures))
