-- A desk whose requests are served side by side, and what holds of it since the session began.
use Rattle.std.specs.Prelude.{◌≡◌, ◌<◌, ℕ, List, ◌++◌, All, IsPermutation, IsTrue, length, Option}
use Rattle.io_manager.specs.declared.Handle.{Handle}
use Rattle.nbd.specs.declared.arrays.Sizes.{Sizes}
use Rattle.nbd.specs.Beside.{Account}
use Rattle.serving.specs.Beside.{Deals, FoundFull, GoesBeside, Gone, HasFailed, IsNewIn, ToldInTurn, moves_in, nothing_gone}
use Rattle.serving.specs.declared.dues.Due.{Due}
use Rattle.serving.specs.declared.dues.Ready.{Ready}
use Rattle.serving.specs.inside.Dues.{IsNextIn, IsSlotIn, due_places, ready_place}
use Rattle.serving.specs.inside.Engines.{EngineView}

pub record BusyView : Type 0 where
  pub engine : EngineView
  pub handle : Handle
  pub sizes : Sizes
  pub slots : List (Option Due)
  -- an answer that is told next
  pub ready : Option Ready
  -- how many requests were read
  pub read : ℕ
  -- a sync failed while the requests in front of this place were out
  pub spoiled : ℕ
  -- the bytes that weren't read
  pub left : Option (List ℕ)

-- the places of the requests that aren't answered
abbrev pub places_due : BusyView → List ℕ
places_due b = ready_place b.ready ++ due_places b.slots

-- by what happened so far
pub record SinceBy (first : BusyView) (a : Account) (gone : Gone) (now : BusyView) : Type 0 where
  pub went : GoesBeside first.engine.stack gone.labels (moves_in gone.moments) now.engine.stack
  pub deals : Deals first.engine.aloft first.engine.disk gone.moments now.engine.aloft now.engine.disk
  pub full : IsTrue now.engine.full → FoundFull gone
  pub spoiled : 0 < now.spoiled → HasFailed gone
  -- no piece came back since these were answered
  pub waiting : All (IsNewIn gone) now.engine.stack.answers
  pub same_handle : now.handle ≡ first.handle
  pub same_sizes : now.sizes ≡ first.sizes
  pub counted : now.read ≡ length a.taken
  pub told : ToldInTurn first.engine.stack first.handle first.sizes a.taken nothing_gone a.told gone
  pub next : IsNextIn first.engine.stack first.handle first.sizes gone a.taken now.ready
  pub slots : All (IsSlotIn first.engine.stack first.handle first.sizes gone a.taken) now.slots
  pub due : IsPermutation (places_due now) a.due

abbrev pub SinceFirst : BusyView → Account → BusyView → Type 0
SinceFirst first a now = (gone : Gone) × SinceBy first a gone now
