use Rattle.std.proofs.Common.{◌≡◌, None, Some, refl, subst}
use Rattle.std.specs.Prelude.{if◌then◌else◌}
use Rattle.history_fitting.proofs.Bounds.{are_in, extent_by, within_bounds, out_of_bounds}
use Rattle.history_fitting.proofs.service.Service.within.Goals as goal

pub returns-in_default-clause-exact : goal.returns-in_default-clause-exact
returns-in_default-clause-exact c =
    subst (λ n. None ≡ (if are_in c.args.self.now.sector_size c.args.request.now.offset c.args.request.now.length n c.args.self.now.longest
    then Some (extent_by c.args.self.now.sector_size c.args.request.now.offset c.args.request.now.length) else None)) c.sectors_of-sectors.ensures
    (out_of_bounds c.args.self.now.sector_size c.args.request.now.offset c.args.request.now.length c.sectors_of-sectors.result c.args.self.now.longest c.requires
    (λ whole. let wrong = c.in_default.ensures.accepted.1 whole in cc (wrong)))

pub returns-clause-exact : goal.returns-clause-exact
returns-clause-exact c =
    subst (λ n. Some c.in-Ok.extent ≡ (if are_in c.args.self.now.sector_size c.args.request.now.offset c.args.request.now.length n c.args.self.now.longest
    then Some (extent_by c.args.self.now.sector_size c.args.request.now.offset c.args.request.now.length) else None)) c.sectors_of-sectors.ensures
    (within_bounds c.args.self.now.sector_size c.args.request.now.offset c.args.request.now.length c.sectors_of-sectors.result c.args.self.now.longest c.in-Ok.extent c.requires
    (c.in-Ok.ensures.accepted.0 refl) c.in-Ok.ensures.starts c.in-Ok.ensures.counts c.if-extent-self.false)
