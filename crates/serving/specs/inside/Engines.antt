-- A stack, and what moves its pieces.
use Rattle.std.specs.Prelude.{◌≡◌, ◌⊎◌, Bool, List, [], All, Option, Some, None, IsTrue}
use Rattle.io_manager.specs.Shown.{ManagerView}
use Rattle.file_disk.specs.Transfers.{DiskView}
use Rattle.movers.specs.Moving.{MoversView}
use Rattle.serving.specs.Beside.{Aloft, Deals, FoundFull, GoesBeside, Gone, HasFailed, IsNewIn, Moment, moves_in}
use Rattle.serving.specs.Carried.{StandsIn}

pub record EngineView : Type 0 where
  pub stack : ManagerView
  -- whether the storage had no room for the newest of the writes that it refused
  pub full : Bool
  -- its owner's disk
  pub disk : DiskView
  -- the pieces that threads have
  pub aloft : Aloft

-- what is kept between two steps
pub record EngineKept (stack : ManagerView) (disk : DiskView) (movers : MoversView) : Type 0 where
  pub stands : StandsIn stack disk
  pub taken : stack.labels ≡ []
  -- the threads' disks are as large
  pub sector_size : movers.sizes.sector_size ≡ disk.sector_size
  pub sectors : movers.sizes.sectors ≡ disk.sectors

-- pieces were handed out, and nothing else happened
pub record EngineHands (old new : EngineView) : Type 0 where
  pub moments : List Moment
  pub same : new ≡ record old { aloft = new.aloft }
  pub deals : Deals old.aloft old.disk moments new.aloft old.disk
  pub none_moved : moves_in moments ≡ []

-- it went on by pieces, when no answer waited to be taken; with `failed` one that syncs failed
pub record EngineGoes (old : EngineView) (failed : Bool) (new : EngineView) : Type 0 where
  pub gone : Gone
  pub went : GoesBeside old.stack gone.labels (moves_in gone.moments) new.stack
  pub deals : Deals old.aloft old.disk gone.moments new.aloft new.disk
  pub newest : All (IsNewIn gone) new.stack.answers
  pub full : IsTrue new.full → IsTrue old.full ⊎ FoundFull gone
  pub fails : IsTrue failed → HasFailed gone

-- a piece was moved behind those that were handed out, or these are all
abbrev pub EngineMoves : EngineView → Option Bool → EngineView → Type 0
EngineMoves old None new = EngineHands old new
EngineMoves old (Some failed) new = EngineGoes old failed new
