use Rattle.std.proofs.Common.{Some, refl, sym, ◌∙◌}
use Rattle.compose.specs.declared.Event.TheVariants.{Act}
use Rattle.host.proofs.Standing.{after_leaves, count_stays}
use Rattle.host.proofs.kept.KeptBook.act_failed.Goals as goal

pub invariant_of-self : goal.invariant_of-self
invariant_of-self g c =
    c.self.invariant ∙ sym (count_stays _ _ (after_leaves c.laws_of_numbers.ensures.count g.N.TraceNaming.slots (Some c.args.completion) c.self.inside.book c.act_failed.ensures.0 (Act c.args.tag) c.act_failed.result c.act_failed.new.self refl c.act_failed.ensures.1 c.act_failed.ensures.2))
