-- A stack before its first event is ready.
use Rattle.volume.proofs.Common.{◌≡◌, ◌≤◌, inl, inr, ℕ, ◌+◌, true, false, List, [], Option, Some, refl, sym, ◌∙◌, ap, subst, arith, length, map, length-take, length-drop, All, IsPermutation, IsTrue, count_by, is_some, nat_le, slice_range, cases_lt, nat_tests, IsPermutation-refl, Extent, IsSector, sectors_in, AdapterView, IsInOrder, TagInUse, IsPartition, Rules, sectors_of, State, opening, array_at, IsSame-refl, AreWhole, IsReached, IsRead, piece_on_tag, use_on_tag, ManagerView, are_used_up, handle_limit, OpenHandle, Settings, IsFirstView, first_rules, content_of, extent_at, handle_count, parted_at, Refusal, InvalidHandle, InvalidParameter, DeletePending, DeviceBusy, InsufficientResources, InvalidDeviceRequest, NotFound, IsOpenRefusal, IsRefusedOf, LacksHandle, AreUsable, IsIdle, IsReady}
use Rattle.std.proofs.lemmas.List.Elements.{All-nil}
use Rattle.device.specs.View.{MayAct}
use Rattle.volume.proofs.Disk.{array_is, extent_past, sectors_of-extent}

module _ (disk : AdapterView) (settings : Settings) (order : IsInOrder disk) (faithful : IsTrue disk.faithful) (v : ManagerView) (first : IsFirstView disk settings v) where
  abbrev rules : Rules
  rules = first_rules disk settings first.partitions

  abbrev arrays : List (List (List ℕ))
  arrays = map (sectors_in disk.sectors) first.partitions

  takes_one : nat_le settings.open_requests 0 ≡ false
  takes_one = by settings.open_requests first.in_range.open_requests.0
    where
      by : (n : ℕ) → 1 ≤ n → nat_le n 0 ≡ false
      by n h = grind (arith, nat_tests)

  usable : AreUsable rules
  usable = record {
    sector_size = order.sector_size;
    few = order.sectors.1;
    partitions = first.told.is_map.each;
    longest = refl;
    takes_one = takes_one;
    faithful = faithful;
  }

  whole_arrays : AreWhole rules arrays
  whole_arrays p = elim (cases_lt p (length first.partitions)) [
    | inl low ↦
        let e : Extent = extent_at first.partitions p in
        let part : IsPartition (length disk.sectors) e = first.told.is_map.each p (record { first = 0; count = 0 }) low in
        let inside : e.first + e.count ≤ length disk.sectors = part.inside in
        let long : length (array_at arrays p) ≡ e.count = ap length (array_is disk.sectors first.partitions p low) ∙ range_length disk.sectors e.first e.count inside in
        let count : sectors_of rules (Some p) ≡ e.count = sectors_of-extent rules p in
        omega arith
    | inr past ↦
        let count : sectors_of rules (Some p) ≡ 0 = sectors_of-extent rules p ∙ extent_past first.partitions p past in
        omega arith
  ]
    where
      range_length : (xs : List (List ℕ)) (from count : ℕ) → from + count ≤ length xs → length (slice_range xs from (from + count)) ≡ count
      range_length xs from count h = simp (length-take, length-drop) (omega arith)

  reached : IsReached rules (opening arrays)
  reached = record { arrays = arrays; labels = []; whole = whole_arrays; run = IsSame-refl (opening arrays) }

  read : IsRead rules (opening arrays) v.adapter
  read = record {
    same_size = sym first.same_disk.sector_size;
    same_sectors = ap length (sym first.same_disk.sectors);
    same_depth = sym first.same_disk.depth;
    arrays = ap (λ sectors. map (sectors_in sectors) first.partitions) (sym first.same_disk.sectors);
    pieces = subst (λ (tags : List TagInUse). IsPermutation (map piece_on_tag (opening arrays).pieces) (map use_on_tag tags)) (sym first.same_disk.idle.no_tags) (IsPermutation-refl _);
    may_act = subst (λ (tags : List TagInUse). All (MayAct rules (opening arrays)) tags) (sym first.same_disk.idle.no_tags) (All-nil (MayAct rules (opening arrays)));
  }

  pub ready_at_start : IsReady v
  ready_at_start = record {
    usable = subst AreUsable (sym first.rules) usable;
    idle = subst IsIdle (sym first.state) (record { none_open = refl; none_out = refl; none_owed = refl; not_paused = refl; not_removing = refl });
    reached = subst (λ (r : Rules). IsReached r v.state) (sym first.rules) (subst (λ (s : State). IsReached rules s) (sym first.state) reached);
    read = subst (λ (r : Rules). IsRead r v.state v.adapter) (sym first.rules) (subst (λ (s : State). IsRead rules s v.adapter) (sym first.state) read);
    whole_sectors =
        subst (λ (r : Rules). All (IsSector r.sector_size) v.adapter.sectors) (sym first.rules)
        (subst (λ xs. All (IsSector disk.sector_size) xs) (sym first.same_disk.sectors) order.whole_sectors);
    no_labels = first.no_labels;
    no_answers = first.no_answers;
  }

  -- the bytes that the disk had
  pub content_at_start : (p : ℕ) → content_of v p ≡ parted_at disk.sector_size disk.sectors (extent_at first.partitions p)
  content_at_start p =
      ap (λ (r : Rules). parted_at r.sector_size v.adapter.sectors (extent_at r.partitions p)) first.rules
      ∙ ap (λ xs. parted_at disk.sector_size xs (extent_at first.partitions p)) first.same_disk.sectors

  -- it has no handle open
  pub none_at_start : handle_count v ≡ 0
  none_at_start = ap (λ (handles : List (Option OpenHandle)). count_by is_some handles) first.no_handles

  -- a partition that the stack doesn't have is none of the disk's
  pub refused_of : (p : ℕ) (reason : Refusal) → IsOpenRefusal v p reason → IsRefusedOf disk p reason
  refused_of p InvalidParameter h = (first.partitions, first.told, subst (λ (r : Rules). length r.partitions ≤ p) first.rules h)
  refused_of p DeviceBusy h = absurd (handles_left h)
    where
      handles_left : LacksHandle v → ⊥
      handles_left (inl used) = let none : are_used_up 1 ≡ true = subst (λ next. are_used_up next ≡ true) first.first_handle used in absurd (let k : false ≡ true = none in cc)
      handles_left (inr full) = let many : handle_limit ≤ handle_count v = full in
          let none : handle_count v ≡ 0 = none_at_start in omega arith
  refused_of p InsufficientResources h = absurd h
  refused_of p InvalidHandle h = absurd h
  refused_of p DeletePending h = absurd h
  refused_of p InvalidDeviceRequest h = absurd h
  refused_of p NotFound h = absurd h
