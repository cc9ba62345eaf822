use Rattle.std.proofs.Common.{◌≡◌, ◌≤◌, ℕ, sym, ap, subst, ◌∙◌, rules}
use Rattle.traced.specs.declared.sizes.StackSizes.{StackSizes}
use Rattle.host_tests.proofs.disks.start_for.Goals as goal

pub returns-clause-disk : goal.returns-clause-disk
returns-clause-disk g c =
    let told = ap (λ (s : StackSizes). s.sector_size) c.in_ok-stack.ensures.sizes.0 in
    let many = ap (λ (s : StackSizes). s.sectors) c.in_ok-stack.ensures.sizes.0 in
    let bytes : c.sector_size-sector_size.result ≡ c.in_ok-stack.sizes.sector_size = search rules in
    let count : c.sectors-sectors.result ≡ c.in_ok-stack.sizes.sectors = search rules in
    let least : 1 ≤ c.sectors-sectors.result = search rules in
    record {
      sector_size = sym c.sector_size-sector_size.ensures ∙ (bytes ∙ told);
      sectors = sym c.sectors-sectors.ensures ∙ (count ∙ many);
      some = subst (λ (n : ℕ). 1 ≤ n) c.sectors-sectors.ensures least;
      map = c.in_ok-stack.ensures.map;
    }
