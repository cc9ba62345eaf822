-- Handles opened for the clients of a traced stack, of which nothing was asked yet.
use Rattle.std.specs.Prelude.{◌≡◌, Contains, ◌<◌, ◌≤◌, ℕ, ◌+◌, List, [], Option, Some, None, length, slice_get, slice_index_or, IsFalse, IsTrue}
use Rattle.machine.specs.Rules.{Rules}
use Rattle.machine.specs.State.{opening}
use Rattle.machine_laws.specs.LabelsLeft.{labels_left}
use Rattle.machine_laws.specs.NumberLaws.{awaited}
use Rattle.io_manager.specs.declared.Answer.{Answer}
use Rattle.io_manager.specs.declared.Handle.{Handle}
use Rattle.io_manager.specs.declared.OpenHandle.{OpenHandle}
use Rattle.io_manager.specs.declared.Refusal.TheVariants.{InvalidParameter, DeviceBusy}
use Rattle.io_manager.specs.Calls.{handle_limit}
use Rattle.io_manager.specs.Shown.{ManagerView}
use Rattle.traced.specs.declared.opening.OpenFault.{OpenFault}
use Rattle.traced.specs.declared.opening.OpenFault.TheVariants.{Refused, NoMemory}
use Rattle.traced.specs.Serving.{open_at}

-- nothing was asked of the stack yet, which cuts requests on the grid of the longest transfer, and keeps its labels' bytes
pub record IsNew (v : ManagerView) : Type 0 where
  pub on_grid : IsFalse v.rules.any_cut
  pub keeps_bytes : IsTrue v.rules.keeps_bytes
  pub arrays : List (List (List ℕ))
  pub state : v.state ≡ opening arrays
  pub no_handles : v.handles ≡ []
  pub first_handle : v.next_handle ≡ 1
  pub no_requests : v.holders ≡ []
  pub no_labels : v.labels ≡ []
  pub no_answers : v.answers ≡ []

-- handles were opened on the stack, and nothing else was asked of it
pub record IsFirst (v : ManagerView) : Type 0 where
  pub on_grid : IsFalse v.rules.any_cut
  pub keeps_bytes : IsTrue v.rules.keeps_bytes
  pub no_labels : v.labels ≡ []
  pub first : v.state.next_request ≡ 1
  pub none_wait : awaited v.state ≡ []
  pub none_open : (k : ℕ) → open_at v k ≡ None
  pub no_answers : (answer : Answer) → Contains v.answers answer → ⊥
  -- only the labels of a removal and of its end are left
  pub few_left : labels_left v.rules v.state ≤ 2

-- client c has handle c + 1, on its partition
pub record HasHandle (handles : List (Option OpenHandle)) (c partition : ℕ) : Type 0 where
  pub slot : ℕ
  pub there : slice_index_or handles slot None ≡ Some (record { number = c + 1; partition = partition })

-- each client has a handle on its partition, and no other handle is open
pub record AreClientsOf (partitions : List ℕ) (handles : List (Option OpenHandle)) : Type 0 where
  pub each : (c partition : ℕ) → slice_get partitions c ≡ Some partition → HasHandle handles c partition
  pub others : (slot : ℕ) (handle : OpenHandle) → slice_index_or handles slot None ≡ Some handle → (c : ℕ) × (handle.number ≡ c + 1) × (c < length partitions)

-- the handle is open, in the slot and under the number that it names
abbrev pub IsOpenOn : List (Option OpenHandle) → Handle → ℕ → Type 0
IsOpenOn open' handle partition = slice_index_or open' handle.slot None ≡ Some (record { number = handle.number; partition = partition })

-- the handles that were given: one for each of these partitions, in order, with the numbers from 1 on
pub record AreHandlesOf (partitions : List ℕ) (handles : List Handle) (v : ManagerView) : Type 0 where
  pub count : length handles ≡ length partitions
  pub number : (c : ℕ) (handle : Handle) → slice_get handles c ≡ Some handle → handle.number ≡ c + 1
  pub opened : (c : ℕ) (handle : Handle) (partition : ℕ) → slice_get handles c ≡ Some handle → slice_get partitions c ≡ Some partition → IsOpenOn v.handles handle partition

-- nothing but the handles changed, and there is one for each client
pub record AreOpened (partitions : List ℕ) (handles : List Handle) (old new : ManagerView) : Type 0 where
  pub same_rules : new.rules ≡ old.rules
  pub same_state : new.state ≡ old.state
  pub first : IsFirst new
  pub clients : AreClientsOf partitions new.handles
  pub given : AreHandlesOf partitions handles new

-- one of these partitions is not there
abbrev pub NamesNone : Rules → List ℕ → Type 0
NamesNone rules partitions = (c : ℕ) × (partition : ℕ) × (slice_get partitions c ≡ Some partition) × (length rules.partitions ≤ partition)

-- why not all handles could be opened: one of these partitions is not there, there are more of them than handles may be
-- open, or memory was refused
abbrev pub IsOpenFault : Rules → List ℕ → OpenFault → Type 0
IsOpenFault rules partitions (Refused InvalidParameter) = NamesNone rules partitions
IsOpenFault rules partitions (Refused DeviceBusy) = handle_limit < length partitions
IsOpenFault rules partitions (Refused _) = ⊥
IsOpenFault rules partitions NoMemory = Unit {0}

-- ONE HANDLE

-- neither the rules nor the state changed
abbrev pub IsSame : ManagerView → ManagerView → Type 0
IsSame old new = (new.rules ≡ old.rules) × (new.state ≡ old.state)
