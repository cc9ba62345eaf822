use Rattle.std.proofs.Common.{◌≡◌, ◌<◌, ℕ, true, false, inl, inr, ◌∙◌, sym, ap, subst, arith, rules}
use Rattle.std.specs.Prelude.{◌⊎◌}
use Rattle.machine.specs.Map.{IsMap}
use Rattle.machine.specs.Rules.{Rules}
use Rattle.machine.specs.State.{State, opening}
use Rattle.traced.specs.declared.sizes.StackSizes.{StackSizes}
use Rattle.traced.specs.Sizes.{sizes_of}
use Rattle.host_tests.proofs.disks.start_over.Goals as goal

some_bytes : (n : ℕ) → (n ≡ 512) ⊎ (n ≡ 4096) → 0 < n
some_bytes n (inl e) = omega arith
some_bytes n (inr e) = omega arith

sized : ℕ → ℕ → ℕ → StackSizes
sized bytes count most = record { sector_size = bytes; sectors = count; longest = 65536; max_transfer = most; busy_limit = 17 }

sized_same : (bytes bytes' count count' most most' : ℕ) → bytes ≡ bytes' → count ≡ count' → most ≡ most' → sized bytes count most ≡ sized bytes' count' most'
sized_same bytes bytes' count count' most most' b c m = ap (λ (n : ℕ). sized n count most) b ∙ ap (λ (n : ℕ). sized bytes' n most) c ∙ ap (λ (n : ℕ). sized bytes' count' n) m

pub returns-in-Ok-clause-new : goal.returns-in-Ok-clause-new
returns-in-Ok-clause-new g c =
    let first = c.in-Ok.ensures.view in
    record {
      on_grid = ap (λ (r : Rules). r.any_cut) first.rules;
      keeps_bytes =
          let same : c.in-Ok.stack.rules.keeps_bytes ≡ c.keeps_bytes-keeps_bytes.result = ap (λ (r : Rules). r.keeps_bytes) first.rules ∙ sym c.keeps_bytes-keeps_bytes.ensures in
          let told : c.keeps_bytes-keeps_bytes.result ≡ true = search rules in
          same ∙ told;
      arrays = _;
      state = first.state;
      no_handles = first.no_handles;
      first_handle = first.first_handle;
      no_requests = first.no_requests;
      no_labels = first.no_labels;
      no_answers = first.no_answers;
    }

pub returns-in-Ok-clause-apart : goal.returns-in-Ok-clause-apart
returns-in-Ok-clause-apart g c =
    let same : c.in-Ok.stack.adapter.faithful ≡ c.is_faithful-faithful.result = c.in-Ok.ensures.view.same_disk.faithful ∙ sym c.is_faithful-faithful.ensures in
    let told : c.is_faithful-faithful.result ≡ false = search rules in
    same ∙ told

pub returns-in-Ok-clause-sizes : goal.returns-in-Ok-clause-sizes
unfolding sized
returns-in-Ok-clause-sizes g c =
    let first = c.in-Ok.ensures.view in
    let bytes = c.sector_size.ensures.exact in
    let count = c.sectors.ensures.exact in
    let most = c.max_transfer.ensures.exact in
    let order = c.sector_size.ensures.order in (
      sized_same _ _ _ _ _ _ bytes count most ∙ sym (ap sizes_of first.rules),
      record {
        some_bytes = subst (λ (n : ℕ). 0 < n) (sym bytes) (some_bytes _ order.sector_size);
        some_sectors = let least = order.max_transfer.0 in omega (arith, most);
      },
    )

pub returns-in-Ok-clause-map : goal.returns-in-Ok-clause-map
returns-in-Ok-clause-map g c =
    let first = c.in-Ok.ensures.view in
    subst (λ (r : Rules). IsMap r.disk_sectors r.partitions) (sym first.rules) first.told.is_map

pub returns-in-Ok-clause-opens : goal.returns-in-Ok-clause-opens
returns-in-Ok-clause-opens g c =
    let state = c.in-Ok.ensures.view.state in
    state ∙ ap opening (sym (ap (λ (s : State). s.arrays) state))

pub returns-in-Ok-clause-depth : goal.returns-in-Ok-clause-depth
returns-in-Ok-clause-depth g c = ap (λ (r : Rules). r.depth) c.in-Ok.ensures.view.rules
