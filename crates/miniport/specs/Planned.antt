-- Which commands fail by a plan, and what an adapter with such a plan shows.
use Rattle.std.specs.Prelude.{◌≡◌, ℕ, List, map, Option, Some, None}
use Rattle.ntstatus.specs.First.{first_some}
use Rattle.sector.specs.declared.Extent.{Extent}
use Rattle.srb.specs.declared.Completion.{Completion}
use Rattle.injection.specs.declared.Kind.{Kind}
use Rattle.injection.specs.declared.Kind.TheVariants.{MediumError, HardwareError, NotReady, AbortedCommand, Busy, Delay}
use Rattle.injection.specs.declared.Rule.{Rule}
use Rattle.injection.specs.Rules.{Names, behind, kind_if_due}
use Rattle.adapter.specs.View.{TagInUse, IsOn}
use Rattle.miniport.specs.Faults.{error}
use Rattle.miniport.specs.Memory.{MemView, ActsByTable, FailsWith}

-- the rule by which the command of this number fails, counted from 0, and no other
abbrev pub once : ℕ → Rule
once before = record { sectors = None; every = 1; times = 1; kind = HardwareError; wait = before }

-- a failure of the hardware, of which no more is known
abbrev pub hardware_error : Completion
hardware_error = error 4 0x00 0x00

-- how a command fails by a rule; none does of those that come back busy or are delayed
abbrev pub completion_of : Kind → Option Completion
completion_of MediumError = Some (error 3 0x00 0x00)
completion_of HardwareError = Some hardware_error
completion_of NotReady = Some (error 2 0x04 0x00)
completion_of AbortedCommand = Some (error 11 0x00 0x00)
completion_of Busy = None
completion_of (Delay ms) = None

pub record PlannedView : Type 0 where
  -- the adapter in memory, which counts and records the failures by the plan as well
  pub inner : MemView
  pub rules : List Rule

-- the command of the tag's piece fails so, or goes by the table
abbrev pub EndsWith : Option Completion → MemView → ℕ → MemView → Type 0
EndsWith None old tag new = ActsByTable old tag new
EndsWith (Some completion) old tag new = FailsWith old tag completion new

abbrev pub EndsByPlan : Option Kind → MemView → ℕ → MemView → Type 0
EndsByPlan None old tag new = ActsByTable old tag new
EndsByPlan (Some kind) old tag new = EndsWith (completion_of kind) old tag new

-- the tag's piece, which had done nothing yet, fails by the first rule that is due, or goes by the table; each rule has
-- counted its command
pub record ActsByPlan (old : PlannedView) (tag : ℕ) (new : PlannedView) : Type 0 where
  pub use' : TagInUse
  pub others : List TagInUse
  pub asked : Extent
  pub is_on : IsOn old.inner.shown tag use' others
  pub names : Names use'.srb.block asked
  pub ends : EndsByPlan (first_some (map (kind_if_due asked) old.rules)) old.inner tag new.inner
  pub counted : new.rules ≡ map (behind asked) old.rules
