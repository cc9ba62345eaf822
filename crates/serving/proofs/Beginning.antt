-- A stack over a storage before its first event.
use Rattle.serving.proofs.Common.{◌≡◌, ℕ, Bool, false, List, [], Result, Ok, length, map, refl, sym, ap, subst, ◌∙◌, All, All-nil, sectors_in, AdapterView, TagInUse, Extent, Rules, State, IsSame, opening, IsSame-refl, MbrFault, told_by, Config, extents_of, ManagerView, IsStartedUse, first_rules, limits_of, rules_over, DiskView, IsTold, StandsIn, shown_to, IsStartedOver}
use Rattle.std.specs.Prelude.{◌≤◌, Some, IsFalse}
use Rattle.machine.specs.Rules.{sectors_of}
use Rattle.machine.specs.Sending.{array_at}
use Rattle.machine_laws.specs.Reached.{AreWhole, IsReached, OpeningsAreReached}
use Rattle.machine_laws.specs.WriteLaws.{RunsKeepLengths}

module _ (keeps : Bool) (c : Config) (table : List ℕ) (stack : ManagerView) (started : IsStartedOver keeps c table stack) where
  -- the arrays that its run starts from
  abbrev pub first_arrays : List (List (List ℕ))
  first_arrays = map (sectors_in started.disk.sectors) started.first.partitions

  -- they have the sectors of their partitions
  pub whole_at_first : RunsKeepLengths → OpeningsAreReached → IsReached stack.rules stack.state → AreWhole stack.rules first_arrays
  whole_at_first long opens reached p =
      let opened : IsReached stack.rules (opening reached.arrays) = opens stack.rules reached.arrays reached.whole in
      let same : length (array_at stack.state.arrays p) ≡ length (array_at reached.arrays p) = (long stack.rules (opening reached.arrays) reached.labels stack.state opened reached.run).sectors p in
      let first : stack.state.arrays ≡ first_arrays = ap (λ (s : State). s.arrays) started.first.state in
      subst (λ (n : ℕ). sectors_of stack.rules (Some p) ≤ n) (sym same ∙ ap (λ (arrays : List (List (List ℕ))). length (array_at arrays p)) first) (reached.whole p)

  pub told_at_first : IsFalse stack.rules.faithful → AreWhole stack.rules first_arrays → IsTold first_arrays [] [] (shown_to keeps stack)
  told_at_first apart whole = record {
    apart = apart;
    whole = whole;
    did = (subst (λ (s : State). IsSame (opening first_arrays) s) (sym started.first.state) (IsSame-refl (opening first_arrays)), refl);
    run = subst (λ (s : State). IsSame (opening first_arrays) s) (sym started.first.state) (IsSame-refl (opening first_arrays));
    journaled = record {
      of_acts = refl;
      started = subst (λ (us : List TagInUse). All (IsStartedUse []) us) (sym started.first.same_disk.idle.no_tags) (All-nil (IsStartedUse []));
    };
  }

  pub stands_at_first : (disk : DiskView) → disk.sector_size ≡ c.sector_size → disk.sectors ≡ c.sectors → StandsIn (shown_to keeps stack) disk
  stands_at_first disk size count = record {
    apart = started.first.same_disk.faithful ∙ started.apart;
    sector_size = size ∙ sym started.sector_size ∙ ap (λ (r : Rules). r.sector_size) (sym started.first.rules);
    sectors = count ∙ sym started.sectors ∙ ap (λ (r : Rules). r.disk_sectors) (sym started.first.rules);
  }

  -- where the table gives the partitions of the settings, the stack has those
  same_partitions : told_by c.sectors table ≡ Ok (extents_of c) → started.first.partitions ≡ extents_of c
  same_partitions told =
      let found : told_by c.sectors table ≡ Ok started.first.partitions =
      ap (λ (n : ℕ). told_by n table) (sym started.sectors) ∙ ap (λ (t : List ℕ). told_by (length started.disk.sectors) t) (sym started.begins) ∙ started.first.told.told in
      let same : ◌≡◌ {A = Result (List Extent) MbrFault} (Ok (extents_of c)) (Ok started.first.partitions) = sym told ∙ found in
      same_items (extents_of c) started.first.partitions same
    where
      same_items : (xs ys : List Extent) → ◌≡◌ {A = Result (List Extent) MbrFault} (Ok xs) (Ok ys) → ys ≡ xs
      same_items xs ys e = cc

  -- and the rules of the settings
  pub rules_at_first : told_by c.sectors table ≡ Ok (extents_of c) → stack.rules ≡ rules_over false keeps c
  rules_at_first told = started.first.rules ∙ same_rules started.disk started.first.partitions started.apart started.kept started.sector_size started.sectors started.max_transfer started.depth (same_partitions told)
    where
      same_rules : (disk : AdapterView) (partitions : List Extent) → disk.faithful ≡ false → disk.keeps_bytes ≡ keeps → disk.sector_size ≡ c.sector_size → length disk.sectors ≡ c.sectors → disk.max_transfer ≡ c.max_transfer → disk.depth ≡ c.depth
          → partitions ≡ extents_of c → first_rules disk (limits_of c) partitions ≡ rules_over false keeps c
      same_rules disk partitions apart kept sector_size sectors max_transfer depth same = cc
