use Rattle.std.proofs.Common.{refl, subst}
use Rattle.nbd.specs.declared.End.TheVariants.{Input}
use Rattle.nbd.specs.inside.Handshake.{Haggles}
use Rattle.nbd.proofs.Serving.{told_nothing}
use Rattle.nbd.proofs.Haggling.{cut_short, ends_among_options, ends_by_option, haggles_more, haggles_none}
use Rattle.nbd.proofs.handshake.haggle.Goals as goal

pub loop-init : goal.loop-init
loop-init g c = haggles_none _ _ _ _ _

pub returns-in-Ok-Requests-clause-opened : goal.returns-in-Ok-Requests-clause-opened
returns-in-Ok-Requests-clause-opened g c =
    subst (Haggles _ _ _ _ _ _ _ _) c.in-Ok-Requests.field-0-is (haggles_more _ _ _ _ _ _ _ _ _ _ _ _ c.loop.invariant c.in-Ok-Requests.ensures.asked)

pub returns-in-Ok-Ended-clause-ended : goal.returns-in-Ok-Ended-clause-ended
returns-in-Ok-Ended-clause-ended g c =
    ends_by_option _ _ _ _ _ _ _ _ _ (subst (Haggles _ _ _ _ _ _ _ _) c.in-Ok-Ended.field-0-is (haggles_more _ _ _ _ _ _ _ _ _ _ _ _ c.loop.invariant c.in-Ok-Ended.ensures.asked))

pub loop-preserved : goal.loop-preserved
loop-preserved g c =
    subst (Haggles _ _ _ _ _ _ _ _) c.in-Ok-Options.field-0-is (haggles_more _ _ _ _ _ _ _ _ _ _ _ _ c.loop.invariant c.in-Ok-Options.ensures.asked)

pub returns-in-Err-clause-ended : goal.returns-in-Err-clause-ended
returns-in-Err-clause-ended g c = ends_among_options _ _ _ _ _ _ _ _ _ _ c.loop.invariant c.in-Err.ensures.ended c.in-Err.ensures.told

pub returns-clause-ended : goal.returns-clause-ended
returns-clause-ended g c = ends_among_options _ _ _ _ _ _ _ _ _ _ c.loop.invariant (cut_short _ Input refl) (told_nothing Input _)
