-- A request that no other write meets, and what is promised of one.
use Rattle.std.specs.Prelude.{◌≡◌, ◌≢◌, ◌<◌, ℕ, ◌+◌, List, [], ◌∷◌, All}
use Rattle.std.specs.List.{concat}
use Rattle.ntstatus.specs.declared.NtStatus.{NtStatus}
use Rattle.ntstatus.specs.declared.NtStatus.TheVariants.{Success}
use Rattle.sector.specs.declared.Extent.{Extent}
use Rattle.srb.specs.declared.Kind.TheVariants.{Read, Write}
use Rattle.machine.specs.declared.ClientRequest.{ClientRequest}
use Rattle.machine.specs.declared.Label.{Label}
use Rattle.machine.specs.Rules.{Rules, first_sector, place_count}
use Rattle.machine.specs.State.{OpenRequest, State}
use Rattle.machine.specs.Calling.{Opens}
use Rattle.machine.specs.Sending.{partition_number, sectors_at}
use Rattle.machine.specs.Answering.{Answers}
use Rattle.machine.specs.Step.{Run}

-- the first sector past the places of a request
abbrev pub past : Rules → ClientRequest → ℕ
past rules q = first_sector rules q + place_count rules q

pub record Meets (rules : Rules) (q other : ClientRequest) : Type 0 where
  pub same_partition : partition_number q ≡ partition_number other
  pub begins : first_sector rules other < past rules q
  pub ends : first_sector rules q < past rules other

-- no write of another number that shares a place
abbrev pub LeavesAlone : Rules → ℕ → ClientRequest → OpenRequest → Type 0
LeavesAlone rules number q o = o.number ≢ number → o.request.kind ≡ Write → Meets rules q o.request → ⊥

abbrev pub IsSoloAt : Rules → ℕ → ClientRequest → State → Type 0
IsSoloAt rules number q s = All (LeavesAlone rules number q) s.requests

-- at each state of the run, from the first to the last
abbrev pub IsSolo : (rules : Rules) (number : ℕ) (q : ClientRequest) (s : State) (labels : List Label) (s' : State) → Run rules s labels s' → Type 0
IsSolo rules number q s [] s' run = IsSoloAt rules number q s
IsSolo rules number q s (label ∷ labels) s' run = IsSoloAt rules number q s × IsSolo rules number q run.0 labels s' run.2

abbrev pub all_places : Rules → ClientRequest → Extent
all_places rules q = record { first = 0; count = place_count rules q }

-- a solo request from its call to its answer, whatever its status
pub record IsAnswered (rules : Rules) (number : ℕ) (q : ClientRequest) (status : NtStatus) (bytes : List ℕ) (before after : State) : Type 0 where
  pub called : State
  pub labels : List Label
  pub ended : State
  pub opens : Opens rules before number q called
  pub run : Run rules called labels ended
  pub solo : IsSolo rules number q called labels ended run
  pub answers : Answers rules ended number status bytes after

-- one that succeeds
abbrev pub IsServed : Rules → ℕ → ClientRequest → List ℕ → State → State → Type 0
IsServed rules number q bytes before after = IsAnswered rules number q Success bytes before after

-- a solo read that succeeds gives the bytes of the array at its call
abbrev pub SoloReads : Rules → State → Type 0
SoloReads rules before = (number : ℕ) (q : ClientRequest) (bytes : List ℕ) (after : State)
    → q.kind ≡ Read → IsServed rules number q bytes before after → bytes ≡ concat (sectors_at rules before q (all_places rules q))

-- a solo write that succeeds stands in the array at its answer
abbrev pub SoloWrites : Rules → State → Type 0
SoloWrites rules before = (number : ℕ) (q : ClientRequest) (bytes : List ℕ) (after : State)
    → q.kind ≡ Write → IsServed rules number q bytes before after → q.bytes ≡ concat (sectors_at rules after q (all_places rules q))
