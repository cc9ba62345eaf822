use Rattle.class_disk.proofs.Common.{◌≤◌, ◌++◌, ◌+◌, ◌∙◌, ap, arith, length, drop, joined_of}
use Rattle.std.specs.Prelude.{vec_capacity, vec_len, IsOk}
use Rattle.class_disk.proofs.PartFolds.{joined_more, joined_fits, joined_at_end, appended_if}
use Rattle.class_disk.proofs.buffers.joined.Goals as goal

pub loop-part-init : goal.loop-part-init
loop-part-init c = (
  ap (λ xs. xs ++ joined_of c.args.parts.now) c.clear.ensures.items,
  omega (arith, c.requires, ap length c.into_vec-bytes.ensures, c.into_vec-bytes.result.ok.0, c.into_vec-bytes.result.ok.1, c.clear.ensures.capacity),
)

pub loop-part-preserved : goal.loop-part-preserved
loop-part-preserved c =
    let i = c.loop-part.invariant in
    let fits = joined_fits c.args.parts.now c.loop-part.part-index c.part-item.result c.loop-part.bytes.items (vec_capacity c.loop-part.bytes) c.loop-part-test.true c.part-item.is i.0 i.1 in
    let room : vec_len c.loop-part.bytes + length c.bytes.result.now ≤ vec_capacity c.loop-part.bytes = omega (arith, fits, c.loop-part.bytes.ok.0, ap length c.bytes.ensures) in
    let ok : IsOk c.extend_from_slice.result = c.extend_from_slice.ensures.succeeds room in
    let items = appended_if _ c.loop-part.bytes.items c.bytes.result.now c.extend_from_slice.new.self.items c.extend_from_slice.ensures.items ok ∙ ap (λ xs. c.loop-part.bytes.items ++ xs) c.bytes.ensures in (
      ap (λ xs. xs ++ joined_of (drop (c.loop-part.part-index + 1) c.args.parts.now)) items ∙ joined_more c.args.parts.now c.loop-part.part-index c.part-item.result c.loop-part.bytes.items c.loop-part-test.true c.part-item.is i.0,
      omega (arith, i.1, c.extend_from_slice.ensures.capacity),
    )

pub returns : goal.returns
returns c = c.new.ensures ∙ joined_at_end c.args.parts.now c.loop-part.part-index c.loop-part.bytes.items c.loop-part-test.false c.loop-part.invariant.0
