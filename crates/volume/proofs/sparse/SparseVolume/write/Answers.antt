use Rattle.volume.proofs.Common.{◌≡◌, ◌∙◌, ap, sym, subst, length, VolumeView}
use Rattle.volume.proofs.Zeros.{Marks}
use Rattle.volume.proofs.Sparsely.{zeros_written}
use Rattle.volume.proofs.sparse.SparseVolume.write.Goals as goal

pub invariant_of-self : goal.invariant_of-self
invariant_of-self g c =
    let size : c.size-size.result ≡ length c.self.inside.volume.content.bytes = c.size-size.ensures.size ∙ sym (ap (λ (v : VolumeView). length v.content.bytes) c.self.view_is) in
    let marks : Marks c.mark.new.self c.args.offset (length c.args.bytes) (length c.self.inside.volume.content.bytes) =
    subst (λ n. Marks c.mark.new.self c.args.offset n (length c.self.inside.volume.content.bytes)) c.len.ensures
    (subst (λ n. Marks c.mark.new.self c.args.offset c.len.result n) size c.mark.ensures.marks) in
    zeros_written c.self.inside.written c.mark.new.self c.self.inside.volume c.write.new.self c.args.offset c.args.bytes c.mark.ensures.keeps marks c.self.invariant
    c.write.result c.write.ensures.in_bounds c.write.ensures.writes
