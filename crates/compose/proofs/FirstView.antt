-- What a stack shows before its first event: the opening of each layer over the one below.
use Rattle.compose.proofs.Common.{◌≡◌, ◌≤◌, ◌+◌, inr, ℕ, Bool, true, false, List, refl, sym, ◌∙◌, ap, subst, map, length, arith, Extent, AdapterView, IsInOrder, IsMap, sectors_in, opening, DeviceView, Probed, IsSameDisk, is_long, IsProbed, IsReadBy, asked_by_probe, Limits, ManagerView, Settings, StartFault, AreInRange, IsFirstView, IsSpent}
use Rattle.std.specs.Prelude.{if◌then◌else◌}
use Rattle.port.specs.Opening.{IsFresh, opening_view as port_opening}
use Rattle.class_disk.specs.Opening.{opening_over as disk_opening, IsFreshPort}
use Rattle.hold_filter.specs.Opening.{opening_over as filter_opening, IsFreshBelow}
use Rattle.partition.specs.Opening.{opening_view as partitions_opening, IsFreshDisk}
use Rattle.io_manager.specs.Opening.{AreFirsts, IsUnasked, AreFor, IsFirstView as IsFirstManager}
use Rattle.compose.specs.declared.StartFault.TheVariants.{NoMemory}

-- the partitions over the filter, the class driver and the port of an adapter
abbrev pub layers_over : ℕ → List Extent → AdapterView → DeviceView
layers_over window table v = partitions_opening table (filter_opening window (disk_opening (port_opening v)))

-- a port of which nothing was asked, and the class driver over it
pub port_fresh : (v : AdapterView) (p : DeviceView) → p ≡ port_opening v → IsInOrder v → IsFreshPort p
port_fresh v p port order =
    let some : 1 ≤ v.max_transfer = order.max_transfer.0 in
    subst IsFreshPort (sym port) (record {
      port = record { longest = refl; one_piece = refl; first_busy = refl; one_disk = refl; no_window = refl; uncounted = refl; some_transfer = omega arith };
      state = refl;
      packets = refl;
      rooms = refl;
      submitted = refl;
    })

pub disk_fresh : (v : AdapterView) (p d : DeviceView) → p ≡ port_opening v → d ≡ disk_opening p → IsFreshBelow d
disk_fresh v p d port class =
    subst IsFreshBelow (sym (class ∙ ap disk_opening port))
    (record { rooms = λ spot. refl; no_window = refl; state = refl; packets = refl; submitted = refl })

module _ (disk v : AdapterView) (settings : Settings) (in_range : AreInRange settings) (probed : Probed) (are : IsProbed disk probed) (same : IsSameDisk (asked_by_probe disk) disk v) where
  is_map : IsMap (length v.sectors) probed.partitions.items
  is_map = subst (λ (xs : List (List ℕ)). IsMap (length xs) probed.partitions.items) (sym same.sectors) are.partitions.is_map

  -- each layer shows its opening over the one below, up from the port
  module _ (p d f : DeviceView) (port : p ≡ port_opening v) (class : d ≡ disk_opening p) (filter : f ≡ filter_opening settings.window d) where
    filter_is : f ≡ filter_opening settings.window (disk_opening (port_opening v))
    filter_is = filter ∙ ap (λ (b : DeviceView). filter_opening settings.window b) (class ∙ ap disk_opening port)

    pub fresh_partitions : IsFreshDisk probed.partitions.items f
    fresh_partitions = subst (IsFreshDisk probed.partitions.items) (sym filter_is) (record { whole = refl; partitions = is_map; state = refl; packets = refl; rooms = refl })

    module _ (t : DeviceView) (partitions : t ≡ partitions_opening probed.partitions.items f) where
      layers_are : t ≡ layers_over settings.window probed.partitions.items v
      layers_are = partitions ∙ ap (λ (b : DeviceView). partitions_opening probed.partitions.items b) filter_is

      -- the adapter below all of them
      pub adapter_is : t.adapter ≡ v
      adapter_is = ap (λ (b : DeviceView). b.adapter) layers_are

      pub unasked : IsUnasked t
      unasked = subst IsUnasked (sym layers_are) (record {
        is_map = is_map;
        state = refl;
        no_packets = refl;
        vacant = λ spot. refl;
        none_submitted = refl;
        many = omega arith;
        no_labels = same.idle.no_labels;
      })

      -- what the probe and the adapter tell are the limits of a manager over them
      pub limits_for : IsInOrder v → (limits : Limits) → limits.sector_size ≡ probed.sector_size → limits.max_transfer ≡ v.max_transfer → limits.depth ≡ v.depth → limits.keeps_bytes ≡ v.keeps_bytes → limits.open_requests ≡ settings.open_requests
          → AreFirsts limits.first_sectors probed.partitions.items → AreFor t limits
      limits_for order limits sector_size max_transfer depth keeps_bytes open_requests firsts =
          let some_transfer : 1 ≤ v.max_transfer = order.max_transfer.0 in
          let some_open : 1 ≤ settings.open_requests = in_range.open_requests.0 in
          let few_open : settings.open_requests ≤ 64 = in_range.open_requests.1 in
          subst (λ (b : DeviceView). AreFor b limits) (sym layers_are) (record {
            sector_size = sector_size ∙ are.sector_size ∙ sym same.sector_size;
            max_transfer = max_transfer;
            some_transfer = omega arith;
            depth = depth;
            keeps_bytes = keeps_bytes;
            firsts = firsts;
            some_open = (omega arith, omega arith);
          })

      pub first_view : (limits : Limits) → limits.open_requests ≡ settings.open_requests → IsReadBy disk v → (view : ManagerView)
          → IsFirstManager limits t view → IsFirstView disk settings view
      first_view limits open_requests read view first =
          let h : IsFirstManager limits (layers_over settings.window probed.partitions.items v) view = subst (λ (b : DeviceView). IsFirstManager limits b view) layers_are first in
          record {
            in_range = in_range;
            partitions = probed.partitions.items;
            told = are.partitions;
            rules =
                let sector_size = same.sector_size in
                let max_transfer = same.max_transfer in
                let sectors : length v.sectors ≡ length disk.sectors = ap length same.sectors in
                let depth = same.depth in
                let faithful = same.faithful in
                let keeps_bytes = same.keeps_bytes in
                h.rules ∙ cc;
            state = h.state ∙ ap (λ (xs : List (List ℕ)). opening (map (sectors_in xs) probed.partitions.items)) same.sectors;
            same_disk = subst (λ (a : AdapterView). IsSameDisk (asked_by_probe disk) disk a) (sym h.adapter) same;
            read = subst (λ (a : AdapterView). IsReadBy disk a) (sym h.adapter) read;
            no_handles = h.no_handles;
            first_handle = h.first_handle;
            no_requests = h.no_requests;
            no_labels = h.no_labels;
            no_answers = h.no_answers;
          }

-- memory was refused behind the probe
pub lacks_memory : (disk v after : AdapterView) (settings : Settings) (fault : StartFault) → fault ≡ NoMemory → after ≡ v → AreInRange settings → IsSameDisk (asked_by_probe disk) disk v → IsReadBy disk v
    → IsSpent disk settings fault after
lacks_memory disk v after settings fault is same in_range same_disk read =
    subst (λ (f : StartFault). IsSpent disk settings f after) (sym is)
    (subst (IsSpent disk settings NoMemory) (sym same) (record { same = same_disk; why = (in_range, inr read) }))

-- a probe sent three commands at most to an adapter that had accepted none
pub fresh_after : (disk v : AdapterView) → disk.accepted ≡ 0 → IsSameDisk (asked_by_probe disk) disk v → IsFresh v
fresh_after disk v none same = record { tags = same.idle.no_tags; labels = same.idle.no_labels; accepted = by (is_long disk) same.accepted }
  where
    by : (long : Bool) → v.accepted ≤ disk.accepted + ((if long then 2 else 1) + 1) → v.accepted ≤ 3
    by true h = let few : v.accepted ≤ disk.accepted + 3 = h in omega (arith, few, none)
    by false h = let few : v.accepted ≤ disk.accepted + 2 = h in omega (arith, few, none)
