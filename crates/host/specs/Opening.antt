-- What a host is opened with.
use Rattle.std.specs.Prelude.{◌≡◌, ◌<◌, ◌≤◌, ℕ, ◌+◌, List, [], Option, None, Some, IsFalse, All, length, max, replicate, slice_get}
use Rattle.atomic_table.specs.Seated.{TableId}
use Rattle.sector.specs.Extents.{IsSector}
use Rattle.disk.specs.Medium.{MediumView}
use Rattle.machine.specs.Map.{IsMap}
use Rattle.machine.specs.Rules.{Rules}
use Rattle.machine.specs.State.{State, opening}
use Rattle.io_manager.specs.declared.Handle.{Handle}
use Rattle.io_manager.specs.declared.OpenHandle.{OpenHandle}
use Rattle.io_manager.specs.Shown.{ManagerView}
use Rattle.remove_lock.specs.Gate.{Standing as PassStanding, standing as pass_of, fresh as fresh_pass}
use Rattle.cancel_marks.specs.Marks.{Standing as SeatStanding, standing as seat_of, starting, IsOther}
use Rattle.sector_journal.specs.Journal.{JournalView}
use Rattle.traced.specs.declared.sizes.StackSizes.{StackSizes}
use Rattle.traced.specs.Sizes.{AreSizes, sizes_of}
use Rattle.traced.specs.Opening.{AreClientsOf, IsFirst, IsOpenOn, NamesNone}
use Rattle.host.specs.declared.opened.Resources.{Resources}
use Rattle.host.specs.declared.opened.HostFault.{HostFault}
use Rattle.host.specs.declared.opened.HostFault.TheVariants.{TooManyClients, NoPartition, NoMemory}
use Rattle.host.specs.Accounts.{partition_of}
use Rattle.host.specs.Clients.{ticket_limit}

-- how many clients there may be
abbrev pub client_limit : ℕ
client_limit = 64

-- all that a host's type names: the rules of its stack, the state that it was opened with, the clients' partitions, all
-- handles, the marks with the number of their slots, the history, the ledger with the number of its parts, the gate, and
-- the ledger of the keeper's steps
pub record Names : Type 0 where
  pub rules : Rules
  pub opening : State
  pub partitions : List ℕ
  pub handles : List (Option OpenHandle)
  pub marks : TableId
  pub slots : ℕ
  pub table : TableId
  pub name : ℕ
  pub parts : ℕ
  pub gate : TableId
  pub keeper : ℕ

-- nothing was asked in this state: nothing is open or out, and the next numbers are 1
abbrev pub IsOpening : State → Type 0
IsOpening s = s ≡ opening s.arrays

-- a pass of a client, which has made no step
abbrev pub IsClientPass : TableId → PassStanding → Type 0
IsClientPass gate pass = pass ≡ pass_of gate (fresh_pass ticket_limit)

-- a handle that is open for client c, on its partition
abbrev pub IsHandleFor : List ℕ → List (Option OpenHandle) → ℕ → Handle → Type 0
IsHandleFor partitions open' c handle = (handle.number ≡ c + 1) × IsOpenOn open' handle (partition_of partitions c)

-- there is one handle for each client
pub record AreHandlesFor (partitions : List ℕ) (open' : List (Option OpenHandle)) (handles : List Handle) : Type 0 where
  pub count : length handles ≡ length partitions
  pub each : (c : ℕ) (handle : Handle) → slice_get handles c ≡ Some handle → IsHandleFor partitions open' c handle

-- the resources are a list of the partitions, a table of this many slots with its owner's seat and one for each client, and a
-- gate with a pass for each client and one more
pub record AreResources (partitions : List ℕ) (slots : ℕ) (resources : Resources) : Type 0 where
  pub kept : resources.partitions.items ≡ partitions
  pub slots_is : resources.marks.1 ≡ slots
  pub owner_is : resources.owner ≡ seat_of resources.marks.0 0 (starting (max slots 1))
  pub count_seats : length resources.seats.items ≡ length partitions
  pub are_seats : All (IsOther resources.marks.0) resources.seats.items
  pub count_passes : length resources.passes.items ≡ length partitions + 1
  pub are_passes : All (IsClientPass resources.gate) resources.passes.items

-- nothing was asked of the stack but a handle for each client; there is a part of the ledger, a seat and a pass for
-- each, and one more of each; the ledger of the keeper's steps has one part
pub record IsReady (partitions : List ℕ) (stack : ManagerView) (handles : List Handle) (sizes : StackSizes) (slots parts steps : ℕ)
    (marks : TableId × ℕ) (owner : SeatStanding) (seats : List SeatStanding) (gate : TableId) (passes : List PassStanding) : Type 0 where
  pub few : length partitions ≤ client_limit
  pub first : IsFirst stack
  pub opens : IsOpening stack.state
  pub apart : IsFalse stack.adapter.faithful
  pub clients : AreClientsOf partitions stack.handles
  pub given : AreHandlesFor partitions stack.handles handles
  pub as_many : stack.rules.open_requests ≡ Some slots
  pub same_sizes : sizes ≡ sizes_of stack.rules
  pub are_sizes : AreSizes sizes
  pub parts_is : parts ≡ length partitions + 1
  pub steps_is : steps ≡ 1
  pub slots_is : marks.1 ≡ slots
  pub owner_is : owner ≡ seat_of marks.0 0 (starting (max slots 1))
  pub count_seats : length seats ≡ length partitions
  pub are_seats : All (IsOther marks.0) seats
  pub count_passes : length passes ≡ length partitions + 1
  pub are_passes : All (IsClientPass gate) passes

-- the medium has as many sectors as the stack's disk, of the same size, and the partitions lie in it
pub record IsDiskFor (rules : Rules) (medium : MediumView) : Type 0 where
  pub sector_size : medium.sector_size ≡ rules.sector_size
  pub sectors : length medium.sectors ≡ rules.disk_sectors
  pub some : 1 ≤ length medium.sectors
  pub map : IsMap rules.disk_sectors rules.partitions

-- a journal of such a medium's sectors, of the stack's depth, in which nothing was entered or armed
pub record IsJournalFor (rules : Rules) (journal : JournalView) : Type 0 where
  pub disk : IsDiskFor rules journal.medium
  pub no_entry : journal.entered ≡ []
  pub none_armed : journal.slots ≡ replicate rules.depth None

-- whole sectors of a stack's disk, in which the partitions lie
pub record IsDiskOf (rules : Rules) (disk : List (List ℕ)) : Type 0 where
  pub whole : All (IsSector rules.sector_size) disk
  pub some : 1 ≤ length disk
  pub map : IsMap (length disk) rules.partitions

-- why there is no host: there are too many clients, one of their partitions is not there, or memory was refused
abbrev pub IsHostFault : Rules → List ℕ → HostFault → Type 0
IsHostFault rules partitions TooManyClients = client_limit < length partitions
IsHostFault rules partitions NoPartition = NamesNone rules partitions
IsHostFault rules partitions NoMemory = Unit {0}
