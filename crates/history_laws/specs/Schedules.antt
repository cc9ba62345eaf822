-- A schedule of one sector: the history, with the moments at which requests take effect on the sector (Herlihy and Wing: a linearization).
use Rattle.std.specs.Prelude.{◌≡◌, ◌≢◌, ◌<◌, ℕ, List, [], ◌∷◌, Some, IsTrue, All, Contains}
use Rattle.ntstatus.specs.declared.NtStatus.{NtStatus}
use Rattle.ntstatus.specs.declared.NtStatus.TheVariants.{Success}
use Rattle.srb.specs.declared.Kind.{Kind}
use Rattle.srb.specs.declared.Kind.TheVariants.{Read, Write, Flush}
use Rattle.machine.specs.declared.ClientRequest.{ClientRequest}
use Rattle.machine.specs.declared.Label.{Label}
use Rattle.machine.specs.declared.Label.TheVariants.{Call, Answer}
use Rattle.machine.specs.Rules.{Rules, is_transfer, is_in_bounds, place_count}
use Rattle.machine_laws.specs.Sectors.{sector_of, part_of, bytes_for}
use Rattle.machine_laws.specs.NumberLaws.{IsNoAnswerOf}

-- a label of the history, or a request's effect on the sector, with the bytes that it read or wrote
pub data Event : Type 0 where
  Seen : (label : Label) → Event
  Effect : (number : ℕ) (sector : List ℕ) → Event

-- the history of a schedule
abbrev pub labels_of : List Event → List Label
labels_of [] = []
labels_of (Seen label ∷ events) = label ∷ labels_of events
labels_of (Effect number sector ∷ events) = labels_of events

-- what stands in the sector after these events, the last of them first
abbrev pub value_after : List ℕ → List Event → List ℕ
value_after start [] = start
value_after start (Seen label ∷ past) = value_after start past
value_after start (Effect number sector ∷ past) = sector

-- this place of a request that nothing refuses is sector i of partition p
pub record IsAt (rules : Rules) (p i : ℕ) (q : ClientRequest) (place : ℕ) : Type 0 where
  pub partition : q.partition ≡ Some p
  pub transfer : IsTrue (is_transfer q.kind)
  pub in_bounds : IsTrue (is_in_bounds rules q)
  pub sector : sector_of rules q place ≡ i
  pub inside : place < place_count rules q

abbrev pub IsNoAnswer : ℕ → Event → Type 0
IsNoAnswer n (Seen label) = IsNoAnswerOf n label
IsNoAnswer n (Effect number sector) = Unit {0}

abbrev pub IsNoEffect : ℕ → Event → Type 0
IsNoEffect n (Seen label) = Unit {0}
IsNoEffect n (Effect number sector) = number ≢ n

-- the request was called, and not yet answered
pub record IsOpen (past : List Event) (number : ℕ) (q : ClientRequest) : Type 0 where
  pub called : Contains past (Seen (Call number q))
  pub awaits : All (IsNoAnswer number) past

-- a read has the bytes that stood there, and a write its own
abbrev pub Moves : Rules → List ℕ → ClientRequest → ℕ → Kind → List ℕ → Type 0
Moves rules value q place Read sector = sector ≡ value
Moves rules value q place Write sector = sector ≡ bytes_for rules q place
Moves rules value q place Flush sector = ⊥

-- an open request takes effect, once
pub record TakesEffect (rules : Rules) (p i : ℕ) (start : List ℕ) (past : List Event) (number : ℕ) (sector : List ℕ) : Type 0 where
  pub request : ClientRequest
  pub place : ℕ
  pub is_open : IsOpen past number request
  pub there : IsAt rules p i request place
  pub once : All (IsNoEffect number) past
  pub moves : Moves rules (value_after start past) request place request.kind sector

-- the request took effect before, and a read hands over what it had then
pub record TookEffect (rules : Rules) (past : List Event) (number : ℕ) (q : ClientRequest) (place : ℕ) (bytes : List ℕ) : Type 0 where
  pub sector : List ℕ
  pub before : Contains past (Effect number sector)
  pub hands_over : q.kind ≡ Read → part_of rules bytes place ≡ sector

-- an open request is answered; if it succeeds, it took effect
pub record IsAnswer (rules : Rules) (p i : ℕ) (past : List Event) (number : ℕ) (status : NtStatus) (bytes : List ℕ) : Type 0 where
  pub request : ClientRequest
  pub is_open : IsOpen past number request
  pub effect : status ≡ Success → (place : ℕ) → IsAt rules p i request place → TookEffect rules past number request place bytes

-- the event may come after these
abbrev pub May : Rules → ℕ → ℕ → List ℕ → List Event → Event → Type 0
May rules p i start past (Effect number sector) = TakesEffect rules p i start past number sector
May rules p i start past (Seen (Answer number status informed bytes)) = IsAnswer rules p i past number status bytes
May rules p i start past (Seen _) = Unit {0}

-- each event may come after those before it
abbrev pub MayFollow : Rules → ℕ → ℕ → List ℕ → List Event → List Event → Type 0
MayFollow rules p i start past [] = Unit {0}
MayFollow rules p i start past (event ∷ events) = May rules p i start past event × MayFollow rules p i start (event ∷ past) events

-- the history has a schedule at sector i of partition p, which has these bytes at the start
pub record IsScheduled (rules : Rules) (p i : ℕ) (start : List ℕ) (history : List Label) : Type 0 where
  pub events : List Event
  pub in_turn : MayFollow rules p i start [] events
  pub seen : labels_of events ≡ history
