-- Requests that are served one at a time, and what stands of them behind a loss of power.
use Rattle.std.specs.Prelude.{◌≡◌, ◌≢◌, ◌<◌, ℕ, Bool, true, false, List, [], ◌∷◌, ◌++◌, length, All, Contains, IsTrue}
use Rattle.ntstatus.specs.declared.NtStatus.{NtStatus}
use Rattle.ntstatus.specs.declared.NtStatus.TheVariants.{Success}
use Rattle.srb.specs.declared.Kind.TheVariants.{Read, Write, Flush}
use Rattle.machine.specs.declared.ClientRequest.{ClientRequest}
use Rattle.machine.specs.declared.Label.{Label}
use Rattle.machine.specs.declared.Label.TheVariants.{Call as CallLabel, Device, Answer, Removed}
use Rattle.machine.specs.Rules.{Rules, place_count}
use Rattle.machine_laws.specs.Reached.{AreWhole}
use Rattle.file_disk.specs.Calls.{Call}
use Rattle.loss.specs.Laws.{sector_of, value_for}
use Rattle.loss.specs.Sessions.{Moment}
use Rattle.file_sessions.specs.Sessions.{IsSession}
use Rattle.file_sessions.specs.Stored.{Content, Remains, Survives}

-- ONE REQUEST BEHIND THE OTHER

-- a request, its answer, and what was told behind its call
pub record Round : Type 0 where
  pub number : ℕ
  pub request : ClientRequest
  pub status : NtStatus
  pub informed : ℕ
  pub bytes : List ℕ
  pub behind : List Label

-- a label of the adapter, an answer, or the end of a removal
abbrev pub IsOfOne : Label → Type 0
IsOfOne (Device label) = Unit {0}
IsOfOne (Answer number status informed bytes) = Unit {0}
IsOfOne Removed = Unit {0}
IsOfOne _ = ⊥

-- nothing else is called or cancelled meanwhile, and the answer is among what was told
pub record IsRound (r : Round) : Type 0 where
  pub alone : All IsOfOne r.behind
  pub answered : Contains r.behind (Answer r.number r.status r.informed r.bytes)

abbrev pub labels_of : Round → List Label
labels_of r = CallLabel r.number r.request ∷ r.behind

abbrev pub labels_of_all : List Round → List Label
labels_of_all [] = []
labels_of_all (r ∷ rs) = labels_of r ++ labels_of_all rs

-- A SECTOR

-- the request writes no sector of this number
abbrev pub IsAway : Rules → ℕ → Round → Type 0
IsAway rules i r = r.request.kind ≡ Write → (place : ℕ) → place < place_count rules r.request → sector_of rules r.request place ≢ i

-- a flush, or a write past volatile caches
abbrev pub syncs : ClientRequest → Bool
syncs q = elim (q.kind) [
  | Read ↦ false
  | Write ↦ q.through
  | Flush ↦ true
]

-- what should make certain succeeded
abbrev pub SyncsWell : Round → Type 0
SyncsWell r = IsTrue (syncs r.request) → r.status ≡ Success

-- it makes nothing certain
abbrev pub IsPlain : Round → Type 0
IsPlain r = IsTrue (syncs r.request) → ⊥

-- a write that was answered SUCCESS, and a place of it
pub record IsWritten (rules : Rules) (w : Round) (place : ℕ) : Type 0 where
  pub is_write : w.request.kind ≡ Write
  pub succeeds : w.status ≡ Success
  pub inside : place < place_count rules w.request
  pub on_disk : sector_of rules w.request place < rules.disk_sectors

-- the file holds the write's bytes there, all of which its call brought
pub record Stands (rules : Rules) (w : Round) (place : ℕ) (after : Content) : Type 0 where
  pub bytes : after (sector_of rules w.request place) ≡ value_for rules w.request place
  pub all : length w.request.bytes ≡ w.request.length

pub record IsFlushed (f : Round) : Type 0 where
  pub is_flush : f.request.kind ≡ Flush
  pub succeeds : f.status ≡ Success

-- THE LAWS

-- a write that was answered SUCCESS, then a flush that was called and answered SUCCESS; between them no sync failed, and no other write of
-- the sector was called since, up to this moment: the file holds the write's bytes there, whatever a loss of power left
abbrev pub FlushedSurvives : Type 0
FlushedSurvives = (rules : Rules) (arrays : List (List (List ℕ))) (before after : Content) (calls : List Call) (end : Moment)
    (first : List Round) (w : Round) (between : List Round) (f : Round) (later : List Round) (told rest : List Label) (place : ℕ)
    → IsSession rules arrays before calls (labels_of_all first ++ (labels_of w ++ (labels_of_all between ++ (labels_of f ++ told)))) end
    → AreWhole rules arrays → All IsRound first → IsRound w → All IsRound between → IsRound f → All IsRound later → labels_of_all later ≡ told ++ rest
    → IsWritten rules w place → IsFlushed f
    → All (IsAway rules (sector_of rules w.request place)) between → All SyncsWell between → All (IsAway rules (sector_of rules w.request place)) later
    → Survives rules.sector_size rules.disk_sectors before calls after
    → Stands rules w place after

-- so it is at once where the write went past volatile caches, also where later syncs fail
abbrev pub SecuredSurvives : Type 0
SecuredSurvives = (rules : Rules) (arrays : List (List (List ℕ))) (before after : Content) (calls : List Call) (end : Moment)
    (first : List Round) (w : Round) (later : List Round) (told rest : List Label) (place : ℕ)
    → IsSession rules arrays before calls (labels_of_all first ++ (labels_of w ++ told)) end
    → AreWhole rules arrays → All IsRound first → IsRound w → All IsRound later → labels_of_all later ≡ told ++ rest
    → IsWritten rules w place → w.request.through ≡ true
    → All (IsAway rules (sector_of rules w.request place)) later
    → Survives rules.sector_size rules.disk_sectors before calls after
    → Stands rules w place after

-- a sector that no request writes is as it was, whatever a loss left
abbrev pub UntouchedSurvives : Type 0
UntouchedSurvives = (rules : Rules) (arrays : List (List (List ℕ))) (before after : Content) (calls : List Call) (end : Moment) (served : List Round) (told rest : List Label) (i : ℕ)
    → IsSession rules arrays before calls told end → AreWhole rules arrays → All IsRound served → labels_of_all served ≡ told ++ rest
    → All (IsAway rules i) served → i < rules.disk_sectors
    → Survives rules.sector_size rules.disk_sectors before calls after
    → after i ≡ before i

-- a write that was answered SUCCESS outlives its process, where no sync failed since and none is under way
abbrev pub AnsweredRemains : Type 0
AnsweredRemains = (rules : Rules) (arrays : List (List (List ℕ))) (before after : Content) (calls : List Call) (end : Moment)
    (first : List Round) (w : Round) (behind later : List Round) (told rest : List Label) (place : ℕ)
    → IsSession rules arrays before calls (labels_of_all first ++ (labels_of w ++ (labels_of_all behind ++ told))) end
    → AreWhole rules arrays → All IsRound first → IsRound w → All IsRound behind → All IsRound later → labels_of_all later ≡ told ++ rest
    → IsWritten rules w place
    → All (IsAway rules (sector_of rules w.request place)) behind → All SyncsWell behind
    → All (IsAway rules (sector_of rules w.request place)) later → All IsPlain later
    → Remains rules.sector_size rules.disk_sectors before calls after
    → Stands rules w place after

-- what may be left where a process ended may be left where power was lost
abbrev pub RemainsSurvive : Type 0
RemainsSurvive = (size sectors : ℕ) (before after : Content) (calls : List Call) → Remains size sectors before calls after → Survives size sectors before calls after
