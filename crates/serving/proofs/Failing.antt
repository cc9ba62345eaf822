-- Why no partition of a disk in a storage was opened.
use Rattle.serving.proofs.Common.{◌≡◌, ◌<◌, ◌≤◌, ◌⊎◌, inl, inr, ℕ, Bool, true, false, List, ◌∷◌, [], Some, None, Result, Ok, Err, length, refl, sym, subst, arith, IfErr, count_by, is_some, nat_le, nat_tests, when, first_some, Rules, Config, extents_of, Handle, InvalidParameter, Reply, are_used_up, handle_limit, open_refusal, ManagerView, Open, IsRight, rules_over, Error, Usage, Startup, NoPartition, Disk, Malformed, InputEnded, TraceNotOpened, TraceInUse, TraceFailed, OutputFailed, NoMemory, NotOpened, NotCreated, InUse, OtherSize, Unreadable, OtherTable, HasFaults, IsConfig, IsOutput}
use Rattle.ntstatus.specs.declared.NtStatus.TheVariants.{InvalidParameter as ParameterStatus, DeletePending as PendingStatus, DeviceBusy as BusyStatus}
use Rattle.io_manager.specs.declared.Reply.TheVariants.{Refused}
use Rattle.startup.specs.declared.faults.Error.TheVariants.{ConfigUnreadable, Settings as WrongSettings, Start, NoMemory as LacksMemory}
use Rattle.file_disk.specs.Calls.{Call}
use Rattle.serving.specs.OnDisk.{AreServable, HasNoFaults, IsNotStarted, IsOpenFault, IsTableFault, ReadsTable}

-- an open that is refused for its parameter is one of a partition that isn't there
refused_past : (old : ManagerView) (partition : ℕ) → open_refusal old partition ≡ Some ParameterStatus → length old.rules.partitions ≤ partition
refused_past old partition h =
    by (are_used_up old.next_handle) old.state.removing (nat_le (length old.rules.partitions) partition) (nat_le handle_limit (count_by is_some old.handles)) refl h
  where
    by : (used removing past full : Bool) → nat_le (length old.rules.partitions) partition ≡ past
        → first_some (when used BusyStatus ∷ when removing PendingStatus ∷ when past ParameterStatus ∷ when full BusyStatus ∷ []) ≡ Some ParameterStatus → length old.rules.partitions ≤ partition
    by used removing true full p e = grind (arith, nat_tests)
    by true removing false full p e = absurd (let k : Some BusyStatus ≡ Some ParameterStatus = e in cc)
    by false true false full p e = absurd (let k : Some PendingStatus ≡ Some ParameterStatus = e in cc)
    by false false false true p e = absurd (let k : Some BusyStatus ≡ Some ParameterStatus = e in cc)
    by false false false false p e = absurd (let k : None ≡ Some ParameterStatus = e in cc)

pub on_refused : (old new : ManagerView) (partition : ℕ) (reply : Reply) (found : Result Handle Error) → IsRight old (Open partition) reply new
    → IfErr found (λ fault. (fault ≡ NoMemory) ⊎ ((fault ≡ NoPartition) × ((bytes : List ℕ) × (reply ≡ Refused InvalidParameter bytes))))
    → IfErr found (λ fault. (fault ≡ NoMemory) ⊎ ((fault ≡ NoPartition) × (length old.rules.partitions ≤ partition)))
on_refused old new partition reply (Ok handle) right is = tt
on_refused old new partition reply (Err fault) right (inl lacks) = inl lacks
on_refused old new partition reply (Err fault) right (inr (none, (bytes, is))) =
    inr (none, refused_past old partition (subst (λ (r : Reply). IsRight old (Open partition) r new) is right).replies.0)

-- OPENING

-- there is no such partition, and nothing was called
pub no_partition : (c : Config) (p : ℕ) (calls : List Call) (fault : Error) → HasNoFaults c → (fault ≡ NoPartition) × (length (extents_of c) ≤ p) → IsOpenFault c p calls fault calls
no_partition c p calls fault none h = subst (λ (f : Error). IsOpenFault c p calls f calls) (sym h.0) (none, h.1, refl)

module _ (c : Config) (p : ℕ) (before after : List Call) (servable : AreServable c p) where
  -- sector 0 does not give the partitions of the settings
  pub fault_of_table : (fault : Error) → IsTableFault c before fault after → IsOpenFault c p before fault after
  fault_of_table NoMemory h = (servable, inl h)
  fault_of_table (Disk Unreadable) h = (servable, h)
  fault_of_table (Disk (OtherTable difference)) h = (servable, h)
  fault_of_table (Disk NotOpened) h = absurd h
  fault_of_table (Disk NotCreated) h = absurd h
  fault_of_table (Disk InUse) h = absurd h
  fault_of_table (Disk (OtherSize found wanted)) h = absurd h
  fault_of_table (Disk HasFaults) h = absurd h
  fault_of_table (Disk IsConfig) h = absurd h
  fault_of_table (Disk IsOutput) h = absurd h
  fault_of_table Usage h = absurd h
  fault_of_table (Startup why) h = absurd h
  fault_of_table NoPartition h = absurd h
  fault_of_table Malformed h = absurd h
  fault_of_table InputEnded h = absurd h
  fault_of_table OutputFailed h = absurd h
  fault_of_table TraceNotOpened h = absurd h
  fault_of_table TraceInUse h = absurd h
  fault_of_table TraceFailed h = absurd h

  module _ (read : ReadsTable c before after) where
    -- no stack could be started
    pub fault_of_start : (fault : Error) → IsNotStarted c read.table fault → IsOpenFault c p before fault after
    fault_of_start NoMemory h = (servable, inr read)
    fault_of_start (Startup (Start why)) h = (servable, record { read = read; stops = h })
    fault_of_start (Startup ConfigUnreadable) h = absurd h
    fault_of_start (Startup (WrongSettings why)) h = absurd h
    fault_of_start (Startup LacksMemory) h = absurd h
    fault_of_start (Disk why) h = absurd h
    fault_of_start Usage h = absurd h
    fault_of_start NoPartition h = absurd h
    fault_of_start Malformed h = absurd h
    fault_of_start InputEnded h = absurd h
    fault_of_start OutputFailed h = absurd h
    fault_of_start TraceNotOpened h = absurd h
    fault_of_start TraceInUse h = absurd h
    fault_of_start TraceFailed h = absurd h

    -- no handle was given
    pub fault_of_handle : (keeps : Bool) (rules : Rules) → rules ≡ rules_over false keeps c → (fault : Error) → (fault ≡ NoMemory) ⊎ ((fault ≡ NoPartition) × (length rules.partitions ≤ p)) → IsOpenFault c p before fault after
    fault_of_handle keeps rules same fault (inl lacks) = subst (λ (f : Error). IsOpenFault c p before f after) (sym lacks) (servable, inr read)
    fault_of_handle keeps rules same fault (inr none) =
        let past : length (extents_of c) ≤ p = subst (λ (r : Rules). length r.partitions ≤ p) same none.1 in
        let low : p < length (extents_of c) = servable.1 in
        absurd (omega (arith, past, low))
