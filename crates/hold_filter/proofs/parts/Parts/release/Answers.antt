use Rattle.hold_filter.proofs.Releasing.{releases_none, releases_then}
use Rattle.hold_filter.proofs.Moving.{in_hand}
use Rattle.hold_filter.proofs.Staying.{spares_same, spares_then}
use Rattle.hold_filter.proofs.parts.Parts.release.Goals as goal

pub loop-init : goal.loop-init
loop-init g c = record { kept = c.requires.kept; spares = spares_same _ _; releases = releases_none _ }

pub loop-preserved : goal.loop-preserved
loop-preserved g c = record {
  kept = c.release_one.ensures.kept;
  spares = spares_then _ _ _ _ _ _ c.loop.invariant.spares c.release_one.ensures.spares;
  releases = releases_then _ _ _ c.loop.invariant.releases c.release_one.ensures.releases;
}

pub returns-clause-in_hand : goal.returns-clause-in_hand
returns-clause-in_hand g c = in_hand _ _ _ c.release_one.ensures.kept c.loop-test.ensures.goes

pub returns-clause-releases : goal.returns-clause-releases
returns-clause-releases g c = releases_then _ _ _ c.loop.invariant.releases c.release_one.ensures.releases

pub returns-clause-spares : goal.returns-clause-spares
returns-clause-spares g c = spares_then _ _ _ _ _ _ c.loop.invariant.spares c.release_one.ensures.spares
