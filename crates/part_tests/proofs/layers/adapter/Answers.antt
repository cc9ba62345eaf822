-- The adapter over the new disk has these sizes.
use Rattle.std.proofs.Common.{◌≡◌, ◌≤◌, ◌∙◌, ap, ℕ, List, length, replicate, false, arith}
use Rattle.std.proofs.lemmas.List.{length-replicate}
use Rattle.miniport.specs.Memory.{MemView, new_view}
use Rattle.disk.specs.VecDisk.{shown}
use Rattle.part_tests.proofs.Opened.{sizes_is}
use Rattle.part_tests.proofs.layers.adapter.Goals as goal

pub returns : goal.returns
returns c =
    let as_new : c.in-Ok-new.adapter ≡ new_view (shown c.in-Ok.disk) c.args.transfer 2 false = c.in-Ok-new.ensures in
    let none_accepted : c.in-Ok-new.adapter.shown.accepted ≡ 0 = ap (λ (a : MemView). a.shown.accepted) as_new in
    record {
      fresh = record {
        tags = ap (λ (a : MemView). a.shown.tags) as_new;
        labels = ap (λ (a : MemView). a.shown.labels) as_new;
        accepted = omega arith;
      };
      sizes = sizes_is c.in-Ok-new.adapter.shown c.args.sectors c.args.transfer
          (ap (λ (a : MemView). a.shown.sector_size) as_new ∙ c.in-Ok.ensures.blank.size_is)
          (ap (λ (a : MemView). length a.shown.sectors) as_new ∙ ap (λ (xs : List (List ℕ)). length xs) c.in-Ok.ensures.blank.zeros
          ∙ length-replicate c.args.sectors (replicate {A = ℕ} 512 0))
          (ap (λ (a : MemView). a.shown.max_transfer) as_new)
          (ap (λ (a : MemView). a.shown.depth) as_new)
          (ap (λ (a : MemView). a.shown.faithful) as_new)
          (ap (λ (a : MemView). a.shown.keeps_bytes) as_new);
    }
