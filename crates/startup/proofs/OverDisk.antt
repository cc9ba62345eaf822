-- What is opened over the adapter of some settings.
use Rattle.std.proofs.Common.{◌≡◌, ◌≤◌, ℕ, Bool, true, List, [], ◌∷◌, Option, Some, None, Ok, map, length, get_or, refl, sym, ap, ◌∙◌, subst, All, inl, inr}
use Rattle.std.specs.List.{concat}
use Rattle.std.proofs.lemmas.Bool.{cases_lt}
use Rattle.std.proofs.lemmas.List.{get_or_past}
use Rattle.std.proofs.lemmas.List.Elements.{All-head, All-tail}
use Rattle.sector.specs.declared.Extent.{Extent}
use Rattle.adapter.specs.View.{AdapterView}
use Rattle.disk.specs.Medium.{MediumView}
use Rattle.miniport.specs.Apart.{apart, IsNewBooked}
use Rattle.miniport.specs.FirstSector.{sectors_from}
use Rattle.miniport.specs.Memory.{MemView}
use Rattle.machine.specs.Map.{IsMap, IsPartition}
use Rattle.sector.specs.Extents.{sectors_in}
use Rattle.machine.specs.State.{opening}
use Rattle.mbr.specs.declared.MbrFault.{MbrFault}
use Rattle.mbr.specs.Table.{partitions_of}
use Rattle.mbr.specs.Faults.{partitions_fault, unless_fault, said_of, told_by}
use Rattle.probe.specs.Probing.{told_partitions}
use Rattle.io_manager.specs.Shown.{ManagerView}
use Rattle.io_manager.specs.declared.Refusal.TheVariants.{InvalidHandle, InvalidParameter, DeletePending, DeviceBusy, InsufficientResources, InvalidDeviceRequest, NotFound}
use Rattle.compose.specs.declared.StartFault.{StartFault}
use Rattle.compose.specs.declared.StartFault.TheVariants.{Settings as WrongSettings, Device as FailedCommand, Mbr as WrongTable, NoMemory as WantOfMemory}
use Rattle.compose.specs.Opening.{IsFirstView, IsSpent, first_rules}
use Rattle.settings.specs.declared.Config.{Config}
use Rattle.settings.specs.InRange.{AreInRange}
use Rattle.settings.specs.Medium.{disk_of, entries_of, extents_of, table_sector, zeros, HasBlankPartitions, IsNewAdapter, IsNewDisk}
use Rattle.volume.specs.declared.OpenFault.{OpenFault}
use Rattle.volume.specs.declared.OpenFault.TheVariants.{Start as NotStarted, Refused}
use Rattle.volume.specs.Opening.{IsOpenFault as IsOpenFaultOver, ShowsDisk}
use Rattle.volume.specs.Shown.{Content, VolumeView, extent_at, parted_at}
use Rattle.startup.specs.Started.{limits_of, rules_over, IsApartFault, IsOpenFault, IsStackFault, IsStartFault, IsStartOf, IsStartOver, IsUnreadTable, IsVolumeOf}

-- partitions that were told are all that the entries say
unfaulted : (fault : Option MbrFault) (given told : List Extent) → unless_fault fault given ≡ Ok told → told ≡ given
unfaulted None given told e = cc (e)
unfaulted (Some why) given told e = absurd (cc (e))

-- the sectors of each are zeros
zero_sectors : (c : Config) (sectors : List (List ℕ)) → HasBlankPartitions c sectors → (extents : List Extent) → All (IsPartition c.sectors) extents
    → map (sectors_in sectors) extents ≡ map (λ extent. zeros c extent.count) extents
zero_sectors c sectors blank [] = λ each. refl
zero_sectors c sectors blank (extent ∷ extents) = λ each.
    let first = blank extent (All-head (IsPartition c.sectors) extent extents each) in
    let rest = zero_sectors c sectors blank extents (All-tail (IsPartition c.sectors) extent extents each) in
    cc (first, rest)

-- so are those of the one of any number
blank_at : (c : Config) (sectors : List (List ℕ)) → HasBlankPartitions c sectors → (partitions : List Extent) → All (IsPartition c.sectors) partitions → (p : ℕ)
    → sectors_in sectors (extent_at partitions p) ≡ zeros c (extent_at partitions p).count
blank_at c sectors blank partitions each p = elim (cases_lt p (length partitions)) [
  | inl low ↦ blank (extent_at partitions p) (each p (record { first = 0; count = 0 }) low)
  | inr past ↦ subst (λ (e : Extent). sectors_in sectors e ≡ zeros c e.count) (sym (get_or_past partitions p (record { first = 0; count = 0 }) past)) refl
]

-- an adapter that shows the disk of these settings, with a first sector that says what they say
pub record Shows (c : Config) (disk : AdapterView) : Type 0 where
  pub sector_size : disk.sector_size ≡ c.sector_size
  pub sectors : disk.sectors ≡ disk_of c
  pub count : length disk.sectors ≡ c.sectors
  pub max_transfer : disk.max_transfer ≡ c.max_transfer
  pub depth : disk.depth ≡ c.depth
  pub says : told_by c.sectors (get_or disk.sectors 0 []) ≡ said_of c.sectors (entries_of c)
  pub extents : partitions_of (entries_of c) ≡ extents_of c
  pub blank : HasBlankPartitions c disk.sectors

module _ (c : Config) (disk : AdapterView) (shows : Shows c disk) where
  -- what the probe of this adapter is told is what the settings say
  pub told_is : told_partitions disk ≡ said_of c.sectors (entries_of c)
  told_is = ap (λ (n : ℕ). told_by n (get_or disk.sectors 0 [])) shows.count ∙ shows.says

  pub same_extents : (told : List Extent) → told_partitions disk ≡ Ok told → told ≡ extents_of c
  same_extents told e = unfaulted (partitions_fault c.sectors (partitions_of (entries_of c))) (partitions_of (entries_of c)) told (sym told_is ∙ e) ∙ shows.extents

  -- which are a map
  pub map_of : (told : List Extent) → told ≡ extents_of c → IsMap (length disk.sectors) told → IsMap c.sectors (extents_of c)
  map_of told same h = subst (λ (n : ℕ). IsMap n (extents_of c)) shows.count (subst (IsMap (length disk.sectors)) same h)

  rules_started : (is_faithful keeps_bytes : Bool) (told : List Extent) → disk.faithful ≡ is_faithful → disk.keeps_bytes ≡ keeps_bytes → told ≡ extents_of c
      → first_rules disk (limits_of c) told ≡ rules_over is_faithful keeps_bytes c
  rules_started is_faithful keeps_bytes told faithful keeps same =
      let sector_size = shows.sector_size in
      let count = shows.count in
      let max_transfer = shows.max_transfer in
      let depth = shows.depth in
      cc

  pub started_over : (is_faithful keeps_bytes : Bool) (stack : ManagerView) → disk.faithful ≡ is_faithful → disk.keeps_bytes ≡ keeps_bytes → IsFirstView disk (limits_of c) stack
      → IsStartOver is_faithful keeps_bytes c stack
  started_over is_faithful keeps_bytes stack faithful keeps first =
      let same : first.partitions ≡ extents_of c = same_extents first.partitions first.told.told in
      let is_map : IsMap c.sectors (extents_of c) = map_of first.partitions same first.told.is_map in
      let arrays : map (sectors_in disk.sectors) first.partitions ≡ map (λ (extent : Extent). zeros c extent.count) (extents_of c) =
      ap (map (sectors_in disk.sectors)) same ∙ zero_sectors c disk.sectors shows.blank (extents_of c) is_map.each in
      record {
        rules = first.rules ∙ rules_started is_faithful keeps_bytes first.partitions faithful keeps same;
        is_map = is_map;
        state = first.state ∙ ap opening arrays;
        adapter = record {
          sector_size = first.same_disk.sector_size ∙ shows.sector_size;
          sectors = first.same_disk.sectors ∙ shows.sectors;
          max_transfer = first.same_disk.max_transfer ∙ shows.max_transfer;
          depth = first.same_disk.depth ∙ shows.depth;
          idle = first.same_disk.idle;
        };
        faithful = first.same_disk.faithful ∙ faithful;
        no_handles = first.no_handles;
        first_handle = first.first_handle;
        no_requests = first.no_requests;
        no_labels = first.no_labels;
        no_answers = first.no_answers;
      }

-- BESIDE THE DISK

module _ (c : Config) (medium : MediumView) (new : IsNewDisk c medium) (many : length medium.sectors ≡ c.sectors) where
  pub unread : (why : StartFault) → IsUnreadTable medium why → IsApartFault c why
  unread WrongSettings h = absurd h
  unread (FailedCommand status) h = inl ((new.bad 0).0 h.0, h.1)
  unread (WrongTable fault) h = absurd h
  unread WantOfMemory h = tt

  module _ (first : List ℕ) (booked : MemView) (bytes : first ≡ get_or medium.sectors 0 []) (is : IsNewBooked first c.sectors c.max_transfer c.depth booked) where
    -- the first sector of the disk is the partition table
    is_table : first ≡ table_sector c
    is_table = bytes ∙ ap (λ (xs : List (List ℕ)). get_or xs 0 []) new.sectors

    has_table : IsNewBooked (table_sector c) c.sectors c.max_transfer c.depth booked
    has_table = subst (λ (table : List ℕ). IsNewBooked table c.sectors c.max_transfer c.depth booked) is_table is

    -- an adapter that has it shows the whole disk, since there are zeros behind it
    pub shows_apart : length first ≡ medium.sector_size → ((sectors : ℕ) → told_by sectors (get_or medium.sectors 0 []) ≡ said_of sectors (entries_of c))
        → partitions_of (entries_of c) ≡ extents_of c → HasBlankPartitions c medium.sectors → Shows c (apart booked.shown)
    shows_apart long says extents blank =
        let size : length (table_sector c) ≡ c.sector_size = ap length (sym is_table) ∙ (long ∙ new.sector_size) in
        let sectors : booked.shown.sectors ≡ disk_of c = has_table.sectors_are ∙ ap (λ (n : ℕ). sectors_from n c.sectors (table_sector c)) size in
        let same : medium.sectors ≡ booked.shown.sectors = new.sectors ∙ sym sectors in
        record {
          sector_size = has_table.size_is ∙ size;
          sectors = sectors;
          count = ap length (sym same) ∙ many;
          max_transfer = has_table.transfer_is;
          depth = has_table.depth_is;
          says = ap (λ (xs : List (List ℕ)). told_by c.sectors (get_or xs 0 [])) (sym same) ∙ says c.sectors;
          extents = extents;
          blank = subst (λ (xs : List (List ℕ)). HasBlankPartitions c xs) same blank;
        }

    pub not_started_apart : AreInRange c → Shows c (apart booked.shown) → (why : StartFault) (after : AdapterView) → IsSpent (apart booked.shown) (limits_of c) why after → IsApartFault c why
    not_started_apart settings shows WrongSettings after spent = absurd (spent.why.0 (record { window = settings.window; open_requests = settings.open_requests }))
    not_started_apart settings shows (FailedCommand status) after spent = inr (record { adapter = booked; new = has_table; after = after; fails = spent.why.1 })
    not_started_apart settings shows (WrongTable fault) after spent = sym (told_is c (apart booked.shown) shows) ∙ spent.why.1.1
    not_started_apart settings shows WantOfMemory after spent = tt

-- OVER THE DISK ITSELF

-- a stack that did not start was not refused for the rules of its settings
pub not_refused : (c : Config) (why : StartFault) → IsStackFault c why → IsStartFault c why
not_refused c WrongSettings h = absurd h
not_refused c (FailedCommand status) h = h
not_refused c (WrongTable fault) h = h
not_refused c WantOfMemory h = h

module _ (c : Config) (view : MemView) (new : IsNewAdapter c view)
    (says : told_by c.sectors (get_or view.shown.sectors 0 []) ≡ said_of c.sectors (entries_of c))
    (extents : partitions_of (entries_of c) ≡ extents_of c) where
  shows_disk : HasBlankPartitions c view.shown.sectors → Shows c view.shown
  shows_disk blank = record {
    sector_size = new.sector_size;
    sectors = new.sectors;
    count = new.count;
    max_transfer = new.max_transfer;
    depth = new.depth;
    says = says;
    extents = extents;
    blank = blank;
  }

  pub started : (keeps_bytes : Bool) (stack : ManagerView) → view.shown.keeps_bytes ≡ keeps_bytes → HasBlankPartitions c view.shown.sectors → IsFirstView view.shown (limits_of c) stack
      → IsStartOf keeps_bytes c stack
  started keeps_bytes stack keeps blank first = started_over c view.shown (shows_disk blank) true keeps_bytes stack new.faithful keeps first

  pub not_started : AreInRange c → HasBlankPartitions c view.shown.sectors → (why : StartFault) (after : AdapterView) → IsSpent view.shown (limits_of c) why after → IsStackFault c why
  not_started settings blank WrongSettings after spent = absurd (spent.why.0 (record { window = settings.window; open_requests = settings.open_requests }))
  not_started settings blank (FailedCommand status) after spent = record { adapter = view; new = new; blank = blank; after = after; fails = spent.why.1 }
  not_started settings blank (WrongTable fault) after spent = sym (told_is c view.shown (shows_disk blank)) ∙ spent.why.1.1
  not_started settings blank WantOfMemory after spent = tt

  pub opened : (p : ℕ) (volume : VolumeView) → HasBlankPartitions c view.shown.sectors → ShowsDisk view.shown p volume.content → volume.partition ≡ p → IsVolumeOf c p volume
  opened p volume blank shows is_on =
      let same : shows.partitions ≡ extents_of c = same_extents c view.shown (shows_disk blank) shows.partitions shows.told.told in
      let is_map : IsMap c.sectors (extents_of c) = map_of c view.shown (shows_disk blank) shows.partitions same shows.told.is_map in
      let sector_size : view.shown.sector_size ≡ c.sector_size = new.sector_size in
      let sectors : view.shown.sectors ≡ disk_of c = new.sectors in
      let content : volume.content ≡ parted_at c.sector_size (disk_of c) (extent_at (extents_of c) p) = shows.content ∙ cc (sector_size, sectors, same) in
      record {
        is_map = is_map;
        content = content;
        blank =
            ap (λ (shown : Content). shown.bytes) shows.content ∙ ap (λ (es : List Extent). concat (sectors_in view.shown.sectors (extent_at es p))) same
            ∙ ap concat (blank_at c view.shown.sectors blank (extents_of c) is_map.each p);
        partition = is_on;
      }

  pub not_opened : AreInRange c → HasBlankPartitions c view.shown.sectors → (p : ℕ) (why : OpenFault) (after : AdapterView) → IsOpenFaultOver view.shown (limits_of c) p why after → IsOpenFault c p why
  not_opened settings blank p (NotStarted fault) after h = not_started settings blank fault after h
  not_opened settings blank p (Refused InvalidParameter) after h = subst (λ (es : List Extent). length es ≤ p) (same_extents c view.shown (shows_disk blank) h.0.0 h.0.1.told) h.0.2
  not_opened settings blank p (Refused DeviceBusy) after h = absurd h.0
  not_opened settings blank p (Refused InsufficientResources) after h = absurd h.0
  not_opened settings blank p (Refused InvalidHandle) after h = absurd h.0
  not_opened settings blank p (Refused DeletePending) after h = absurd h.0
  not_opened settings blank p (Refused InvalidDeviceRequest) after h = absurd h.0
  not_opened settings blank p (Refused NotFound) after h = absurd h.0
