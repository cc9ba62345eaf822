use Rattle.volume.proofs.Common.{◌≡◌, ◌⊎◌, subst, VolumeView}
use Rattle.volume.specs.inside.Written.{HoldsZeros}
use Rattle.volume.proofs.Sparsely.{run_there}
use Rattle.volume.proofs.sparse.SparseVolume.run.Goals as goal

pub returns : goal.returns
returns g c =
    let usual : (c.args.self.now.content.sector_size ≡ 512) ⊎ (c.args.self.now.content.sector_size ≡ 4096) =
    subst (λ n. (n ≡ 512) ⊎ (n ≡ 4096)) c.sizes-sizes.ensures.sector_size c.sizes-sizes.ensures.usual in
    run_there c.self.inside.written c.args.self.now.content c.args.offset c.args.count c.run.result
    (subst (λ (v : VolumeView). HoldsZeros c.self.inside.written v.content.bytes) c.self.view_is c.self.invariant) usual c.requires
    c.run.ensures.some c.run.ensures.few c.run.ensures.whole c.run.ensures.zeros
