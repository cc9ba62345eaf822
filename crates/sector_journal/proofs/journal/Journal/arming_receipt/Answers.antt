use Rattle.sector_journal.proofs.Common.{sym, ap, ◌∙◌, option_copied}
use Rattle.sector_journal.proofs.journal.Journal.arming_receipt.Goals as goal

pub claim-requires : goal.claim-requires
claim-requires g c = (c.self.invariant.kept.ready c.args.tag c.in_ok-armed.armed.now (sym c.get.ensures ∙ ap option_copied c.in_ok-armed.was)).noted
