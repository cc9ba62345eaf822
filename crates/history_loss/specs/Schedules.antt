-- A schedule of one sector over several sessions: what clients saw, with the moments at which requests take effect on the sector, or fail.
-- A failed flush or write past volatile caches puts all sectors in doubt, so the moments of failures are the same for all sectors; no others are.
use Rattle.std.specs.Prelude.{◌≡◌, ◌≢◌, ◌<◌, ℕ, ◌+◌, true, false, List, [], ◌∷◌, IsTrue, All, Contains, is_none, nat_le, if◌then◌else◌}
use Rattle.ntstatus.specs.declared.NtStatus.{NtStatus}
use Rattle.ntstatus.specs.declared.NtStatus.TheVariants.{Success}
use Rattle.sector.specs.declared.Extent.{Extent}
use Rattle.srb.specs.declared.Kind.{Kind}
use Rattle.srb.specs.declared.Kind.TheVariants.{Read, Write, Flush}
use Rattle.machine.specs.declared.ClientRequest.{ClientRequest}
use Rattle.machine.specs.declared.Label.TheVariants.{Call, Answer}
use Rattle.machine.specs.Rules.{Rules, is_transfer, is_in_bounds, place_count}
use Rattle.machine_laws.specs.Sectors.{part_of}
use Rattle.machine_laws.specs.NumberLaws.{IsNoAnswerOf}
use Rattle.loss.specs.Held.{Held, Syncs, IsOneOf, act_changes, changed, changed_by, fault_changes, left, surely}
use Rattle.loss.specs.Moved.{work_of}
use Rattle.loss.specs.Sessions.{Line, Told, Lost, Ended}
use Rattle.loss.specs.Laws.{sector_of, value_for}

-- EVENTS

pub data Event : Type 0 where
  -- what clients saw
  Seen : (line : Line) → Event
  -- a read or a write takes effect on the sector, with the bytes that it read or wrote
  Effect : (number : ℕ) (sector : List ℕ) → Event
  -- a write or a flush fails at one of its places, on whatever sector that lies
  Fails : (number place : ℕ) → Event

-- what all sectors share
abbrev pub shared_of : List Event → List Event
shared_of [] = []
shared_of (Effect number sector ∷ events) = shared_of events
shared_of (Seen line ∷ events) = Seen line ∷ shared_of events
shared_of (Fails number place ∷ events) = Fails number place ∷ shared_of events

abbrev pub lines_of : List Event → List Line
lines_of [] = []
lines_of (Seen line ∷ events) = line ∷ lines_of events
lines_of (Effect number sector ∷ events) = lines_of events
lines_of (Fails number place ∷ events) = lines_of events

-- the session so far behind an event, the last event first: behind a loss, or an end, it begins anew
abbrev pub so_far : Event → List Event → List Event
so_far (Seen Lost) past = []
so_far (Seen Ended) past = []
so_far event past = event ∷ past

-- one more than each of two numbers, of which the second is one more already
abbrev pub above : ℕ → ℕ → ℕ
above number next = if nat_le next number then number + 1 else next

-- the number of the next call
abbrev pub next_number : List Event → ℕ
next_number [] = 1
next_number (Seen (Told (Call number q)) ∷ past) = above number (next_number past)
next_number (_ ∷ past) = next_number past

-- REQUESTS AND PLACES

-- nothing refuses the request, if it has a place
pub record IsAdmitted (rules : Rules) (q : ClientRequest) : Type 0 where
  pub known : is_none q.partition ≡ false
  pub in_bounds : is_transfer q.kind ≡ true → is_in_bounds rules q ≡ true

-- this place of a request that nothing refuses is sector i of the disk
pub record IsAt (rules : Rules) (i : ℕ) (q : ClientRequest) (place : ℕ) : Type 0 where
  pub admitted : IsAdmitted rules q
  pub transfer : IsTrue (is_transfer q.kind)
  pub sector : sector_of rules q place ≡ i
  pub inside : place < place_count rules q

abbrev pub IsNoAnswer : ℕ → Event → Type 0
IsNoAnswer n (Seen (Told label)) = IsNoAnswerOf n label
IsNoAnswer n _ = Unit {0}

abbrev pub IsNoEffect : ℕ → Event → Type 0
IsNoEffect n (Effect number sector) = number ≢ n
IsNoEffect n _ = Unit {0}

abbrev pub IsNoFailure : ℕ → ℕ → Event → Type 0
IsNoFailure n k (Fails number place) = number ≡ n → place ≢ k
IsNoFailure n k _ = Unit {0}

-- the request was called, and not yet answered
pub record IsOpen (past : List Event) (number : ℕ) (q : ClientRequest) : Type 0 where
  pub called : Contains past (Seen (Told (Call number q)))
  pub awaits : All (IsNoAnswer number) past

-- this place of the request did not fail, and took no effect if it is sector i
pub record IsIdle (rules : Rules) (i : ℕ) (past : List Event) (number : ℕ) (q : ClientRequest) (place : ℕ) : Type 0 where
  pub effect : IsAt rules i q place → All (IsNoEffect number) past
  pub failure : All (IsNoFailure number place) past

-- WHAT STANDS IN THE SECTOR

abbrev pub one_place : ℕ → Extent
one_place place = record { first = place; count = 1 }

-- sector i behind the effect of a request at one of its places, as behind the act of a piece there
abbrev pub acted : Rules → ℕ → ℕ → ClientRequest → ℕ → ℕ → Held → Held
acted rules next number q place i h = changed_by next (act_changes rules.sector_size number (work_of rules q (one_place place)) i) h

-- behind its failure there, as behind that of a piece
abbrev pub failed : Rules → ℕ → ClientRequest → ℕ → ℕ → Held → Held
failed rules next q place i h = changed_by next (fault_changes rules.sector_size (work_of rules q (one_place place)) i) h

-- behind an answer: what was overwritten before a flush was called is gone once it is answered SUCCESS
abbrev pub answered : ℕ → ℕ → Kind → NtStatus → Held → Held
answered next number Flush Success h = changed next (Syncs number) h
answered next number kind status h = h

-- EACH EVENT

-- a read has bytes that may stand there, and a write its own
abbrev pub Carries : Rules → Held → ClientRequest → ℕ → Kind → List ℕ → Type 0
Carries rules h q place Read sector = IsOneOf sector h.now
Carries rules h q place Write sector = sector ≡ value_for rules q place
Carries rules h q place Flush sector = ⊥

-- an open request takes effect at a place, once
pub record TakesEffect (rules : Rules) (i : ℕ) (past : List Event) (h : Held) (number : ℕ) (sector : List ℕ) (h' : Held) : Type 0 where
  pub request : ClientRequest
  pub place : ℕ
  pub is_open : IsOpen past number request
  pub there : IsAt rules i request place
  pub idle : IsIdle rules i past number request place
  pub carries : Carries rules h request place request.kind sector
  pub after : h' ≡ acted rules (next_number past) number request place i h

-- or it fails there
pub record FailsThere (rules : Rules) (i : ℕ) (past : List Event) (h : Held) (number place : ℕ) (h' : Held) : Type 0 where
  pub request : ClientRequest
  pub is_open : IsOpen past number request
  pub admitted : IsAdmitted rules request
  pub inside : place < place_count rules request
  pub idle : IsIdle rules i past number request place
  pub after : h' ≡ failed rules (next_number past) request place i h

-- the request took effect before, and a read hands over what it had then
pub record TookEffect (rules : Rules) (past : List Event) (number : ℕ) (q : ClientRequest) (place : ℕ) (bytes : List ℕ) : Type 0 where
  pub sector : List ℕ
  pub before : Contains past (Effect number sector)
  pub hands_over : q.kind ≡ Read → part_of rules bytes place ≡ sector

-- an open request is answered; if it succeeds, it took effect, and failed at no place
pub record IsAnswer (rules : Rules) (i : ℕ) (past : List Event) (h : Held) (number : ℕ) (status : NtStatus) (bytes : List ℕ) (h' : Held) : Type 0 where
  pub request : ClientRequest
  pub is_open : IsOpen past number request
  pub effect : status ≡ Success → (place : ℕ) → IsAt rules i request place → TookEffect rules past number request place bytes
  pub sound : status ≡ Success → (place : ℕ) → place < place_count rules request → All (IsNoFailure number place) past
  pub after : h' ≡ answered (next_number past) number request.kind status h

-- a session ends, and leaves one of these values
pub record Leaves (rules : Rules) (i : ℕ) (values : List (List ℕ)) (h' : Held) : Type 0 where
  pub value : List ℕ
  pub among : i < rules.disk_sectors → IsOneOf value values
  pub after : h' ≡ surely value

-- the event may come behind these, where the sector held this, and makes of it that
abbrev pub Takes : Rules → ℕ → List Event → Held → Event → Held → Type 0
Takes rules i past h (Effect number sector) h' = TakesEffect rules i past h number sector h'
Takes rules i past h (Fails number place) h' = FailsThere rules i past h number place h'
Takes rules i past h (Seen Lost) h' = Leaves rules i (left h) h'
Takes rules i past h (Seen Ended) h' = Leaves rules i h.now h'
Takes rules i past h (Seen (Told (Answer number status informed bytes))) h' = IsAnswer rules i past h number status bytes h'
Takes rules i past h (Seen (Told _)) h' = h' ≡ h

-- each event may come behind those before it
abbrev pub MayFollow : Rules → ℕ → List Event → Held → List Event → Type 0
MayFollow rules i past h [] = Unit {0}
MayFollow rules i past h (event ∷ events) = (h' : Held) × Takes rules i past h event h' × MayFollow rules i (so_far event past) h' events

-- sector i, which has these bytes at the start, has a schedule that shares these events
pub record IsScheduled (rules : Rules) (i : ℕ) (start : List ℕ) (shared : List Event) : Type 0 where
  pub events : List Event
  pub in_turn : MayFollow rules i [] (surely start) events
  pub shares : shared_of events ≡ shared

-- a history over a disk: the moments of failures, once for all sectors, and with them a schedule of each sector
pub record AreScheduled (rules : Rules) (disk : ℕ → List ℕ) (history : List Line) : Type 0 where
  pub shared : List Event
  pub seen : lines_of shared ≡ history
  pub each : (i : ℕ) → IsScheduled rules i (disk i) shared
