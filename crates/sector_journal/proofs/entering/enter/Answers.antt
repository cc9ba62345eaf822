use Rattle.sector_journal.proofs.Common.{sym, ◌∙◌, refused_ends}
use Rattle.sector_journal.proofs.Carried.{moved_enters, failed_refuses}
use Rattle.sector_journal.proofs.entering.enter.Goals as goal

pub returns-in-Err : goal.returns-in-Err
returns-in-Err g c =
    failed_refuses (g.M.Medium.view c.args.medium.now) c.args.write_protected c.args.srb c.args.srb c.in-Err.completion (g.M.Medium.view c.args.medium.now)
    (refused_ends (g.M.Medium.view c.args.medium.now) c.args.write_protected c.args.srb c.in-Err.completion c.in-Err.ensures)

pub returns-in-Ok-perform : goal.returns-in-Ok-perform
returns-in-Ok-perform g c =
    moved_enters (g.M.Medium.view c.args.medium.now) c.args.write_protected c.args.srb c.in-Ok-perform.bytes (g.M.Medium.view c.perform.new.medium)
    c.args.tag c.args.piece c.in-Some.kind c.in-Some.extent (g.met.M.Medium.whole c.args.medium.now) (c.in-Ok-perform.ensures c.args.write_protected c.in-Ok.ensures)
    (λ command means. sym (c.named_in-named.ensures.by_meaning command (rw c.as_slice.ensures.value means)) ∙ c.in-Some.is)

pub returns-in-Err-perform : goal.returns-in-Err-perform
returns-in-Err-perform g c =
    failed_refuses (g.M.Medium.view c.args.medium.now) c.args.write_protected c.args.srb c.args.srb c.in-Err-perform.completion (g.M.Medium.view c.perform.new.medium)
    (c.in-Err-perform.ensures c.args.write_protected c.in-Ok.ensures)
