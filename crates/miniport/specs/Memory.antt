-- What an adapter in memory shows, and what becomes of it.
use Rattle.std.specs.Prelude.{◌≡◌, ℕ, ◌+◌, Bool, not, true, List, [], length, map, replicate, slice_set, count_by, Option, Some, None, Result}
use Rattle.cdb.specs.declared.Cdb.{Cdb}
use Rattle.cdb.specs.declared.CdbFault.{CdbFault}
use Rattle.srb.specs.declared.Completion.{Completion}
use Rattle.adapter.specs.View.{TagInUse, AdapterView, IsOn, ActsOn, FaultsOn}
use Rattle.disk.specs.Medium.{MediumView}
use Rattle.miniport.specs.Faults.{Disk, Decodes, fault_of, success, bus_reset}
use Rattle.miniport.specs.inside.Slots.{Table, tags_of, slot_completion}

pub record MemView : Type 0 where
  -- what any adapter shows
  pub shown : AdapterView
  -- the numbers of the bad sectors
  pub bad : List ℕ
  pub write_protected : Bool
  -- for each tag the completion with which its piece would come back now
  pub due : List (Option Completion)

-- the disk that decides what is carried out
abbrev pub disk_shown : MemView → Disk
disk_shown view = record {
  sector_size = view.shown.sector_size;
  sectors = length view.shown.sectors;
  bad = view.bad;
  write_protected = view.write_protected;
}

abbrev pub shown_of : MediumView → ℕ → Table → AdapterView
shown_of medium max_transfer table = record {
  sector_size = medium.sector_size;
  sectors = medium.sectors;
  faithful = true;
  keeps_bytes = table.keeps_bytes;
  max_transfer = max_transfer;
  depth = length table.slots;
  tags = tags_of medium.sector_size 0 table.slots;
  accepted = table.accepted;
  failures = table.failures;
  reserved = medium.reserved;
  run = medium.run;
  labels = table.labels;
}

abbrev pub view_of : MediumView → ℕ → Bool → Table → MemView
view_of medium max_transfer write_protected table = record {
  shown = shown_of medium max_transfer table;
  bad = medium.bad;
  write_protected = write_protected;
  due = map slot_completion table.slots;
}

-- an adapter with no piece on a tag and nothing counted
abbrev pub new_view : MediumView → ℕ → ℕ → Bool → MemView
new_view medium max_transfer depth write_protected = record {
  shown = record {
    sector_size = medium.sector_size;
    sectors = medium.sectors;
    faithful = true;
    keeps_bytes = true;
    max_transfer = max_transfer;
    depth = depth;
    tags = [];
    accepted = 0;
    failures = 0;
    reserved = medium.reserved;
    run = medium.run;
    labels = [];
  };
  bad = medium.bad;
  write_protected = write_protected;
  due = replicate depth None;
}

-- WHAT ITS CALLS DO, BEYOND ANY ADAPTER'S

-- beside what any adapter shows, only the completion due on a tag changes
abbrev pub Dues : ℕ → Option Completion → MemView → MemView → Type 0
Dues tag completion old new = new ≡ record old { shown = new.shown; due = slice_set old.due tag completion }

-- only what any adapter shows changes
abbrev pub SameDues : MemView → MemView → Type 0
SameDues old new = new ≡ record old { shown = new.shown }

-- the piece is carried out, or fails with a completion
abbrev pub EndsBy : MemView → ℕ → ℕ → Option Completion → MemView → Type 0
EndsBy old tag piece None new = ((bytes : List ℕ) × ActsOn old.shown tag piece bytes new.shown) × Dues tag (Some success) old new
EndsBy old tag piece (Some completion) new =
    FaultsOn old.shown tag piece new.shown × (new.shown.failures ≡ old.shown.failures + 1) × Dues tag (Some completion) old new

-- the tag's piece fails exactly by the first row of the table that fits
pub record ActsByTable (old : MemView) (tag : ℕ) (new : MemView) : Type 0 where
  pub use' : TagInUse
  pub others : List TagInUse
  pub decoded : Result Cdb CdbFault
  pub is_on : IsOn old.shown tag use' others
  pub decodes : Decodes use'.srb.block decoded
  pub ends : EndsBy old tag use'.piece (fault_of (disk_shown old) use'.srb decoded) new

-- the tag's piece fails with a completion, whatever its command asks for
pub record FailsWith (old : MemView) (tag : ℕ) (completion : Completion) (new : MemView) : Type 0 where
  pub use' : TagInUse
  pub others : List TagInUse
  pub is_on : IsOn old.shown tag use' others
  pub ends : EndsBy old tag use'.piece (Some completion) new

abbrev pub is_unmet : TagInUse → Bool
is_unmet use' = not use'.was_reset

abbrev pub due_after_reset : Option Completion → Option Completion
due_after_reset None = None
due_after_reset (Some completion) = Some bus_reset

-- each piece out is due as BUS_RESET; a failure is counted for each that no reset met before
pub record ResetsAll (old new : MemView) : Type 0 where
  pub counted : new.shown.failures ≡ old.shown.failures + count_by is_unmet old.shown.tags
  pub due : new ≡ record old { shown = new.shown; due = map due_after_reset old.due }
