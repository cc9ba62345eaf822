use Rattle.class_disk.proofs.Common.{◌≡◌, ◌∙◌, ap, Extent, piece_of}
use Rattle.class_disk.proofs.AsksWhole.{part_is}
use Rattle.class_disk.proofs.blocks.part_request.Goals as goal

pub returns-in-Read : goal.returns-in-Read
returns-in-Read c =
    let limit = c.args.sizes.now.max_transfer in
    let r = c.args.request.now in
    let e : c.piece.result ≡ piece_of r.extent limit c.args.k = c.piece.ensures ∙ ap (λ x. piece_of x c.plan.result.limit c.args.k) c.plan.ensures.extent ∙ ap (λ l. piece_of r.extent l c.args.k) c.plan.ensures.limit in
    ap (λ (x : Extent). record r { extent = x }) e ∙ part_is limit r c.args.k c.in-Read.is
