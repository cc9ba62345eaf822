-- What the SRB of a piece asks of a file.
use Rattle.std.proofs.Common.{◌≡◌, ℕ, ◌*◌, Bool, true, false, List, Option, Some, length, refl, sym, ap, subst, ◌∙◌}
use Rattle.std.specs.Prelude.{if◌then◌else◌}
use Rattle.sector.specs.declared.Extent.{Extent}
use Rattle.cdb.specs.declared.Cdb.{Cdb}
use Rattle.cdb.specs.declared.Cdb.TheVariants.{Read10, Write10, Sync10, Read16, Write16, Sync16}
use Rattle.cdb.specs.Facts.{bytes_of}
use Rattle.srb.specs.declared.Kind.{Kind}
use Rattle.srb.specs.declared.Kind.TheVariants.{Read, Write, Flush}
use Rattle.machine.specs.declared.ClientRequest.{ClientRequest}
use Rattle.machine.specs.Rules.{Rules}
use Rattle.machine.specs.Sending.{command_for}
use Rattle.file_disk.specs.declared.file_disk.Task.{Task}
use Rattle.file_disk.specs.declared.file_disk.Task.TheVariants.{Read as ReadTask, Write as WriteTask, Flush as FlushTask}
use Rattle.file_disk.specs.Transfers.{task_in}
use Rattle.loss.specs.Held.{Work}
use Rattle.loss.specs.Moved.{work_of}

-- the task of these sectors is the work, for which there are as many bytes
abbrev pub Matches : ℕ → Work → List ℕ → Task → Extent → Type 0
Matches size w bytes ReadTask extent = (w.kind ≡ Read) × (extent ≡ w.extent) × (length bytes ≡ w.extent.count * size)
Matches size w bytes (WriteTask through) extent = (w.kind ≡ Write) × (w.through ≡ through) × (extent ≡ w.extent) × (length bytes ≡ w.extent.count * size)
Matches size w bytes FlushTask extent = w.kind ≡ Flush

abbrev Found : Task → Extent → Option (Task × Extent)
Found task extent = Some (task, extent)

record IsTask (task : Task) (extent : Extent) (task' : Task) (extent' : Extent) : Type 0 where
  same_task : task ≡ task'
  same_extent : extent ≡ extent'

found_one : (task task' : Task) (extent extent' : Extent) → Found task extent ≡ Found task' extent' → IsTask task extent task' extent'
found_one task task' extent extent' e = let same : ◌≡◌ {A = Task × Extent} (task, extent) (task', extent') = cc (e) in record { same_task = ap (λ p. p.0) same; same_extent = ap (λ p. p.1) same }

read_is : (b : Bool) (lba count : ℕ) (through : Bool) (task : Task) (extent : Extent) → task_in (if b then Read10 lba count through else Read16 lba count through) ≡ Some (task, extent)
    → IsTask ReadTask (record { first = lba; count = count }) task extent
read_is true lba count through task extent e = found_one ReadTask task (record { first = lba; count = count }) extent e
read_is false lba count through task extent e = found_one ReadTask task (record { first = lba; count = count }) extent e

write_is : (b : Bool) (lba count : ℕ) (through : Bool) (task : Task) (extent : Extent) → task_in (if b then Write10 lba count through else Write16 lba count through) ≡ Some (task, extent)
    → IsTask (WriteTask through) (record { first = lba; count = count }) task extent
write_is true lba count through task extent e = found_one (WriteTask through) task (record { first = lba; count = count }) extent e
write_is false lba count through task extent e = found_one (WriteTask through) task (record { first = lba; count = count }) extent e

flush_is : (b : Bool) (task : Task) (extent : Extent) → task_in (if b then Sync10 0 0 else Sync16 0 0) ≡ Some (task, extent) → FlushTask ≡ task
flush_is true task extent e = (found_one FlushTask task (record { first = 0; count = 0 }) extent e).same_task
flush_is false task extent e = (found_one FlushTask task (record { first = 0; count = 0 }) extent e).same_task

read_bytes : (b : Bool) (size lba count : ℕ) (through : Bool) → bytes_of size (if b then Read10 lba count through else Read16 lba count through) ≡ count * size
read_bytes true size lba count through = refl
read_bytes false size lba count through = refl

write_bytes : (b : Bool) (size lba count : ℕ) (through : Bool) → bytes_of size (if b then Write10 lba count through else Write16 lba count through) ≡ count * size
write_bytes true size lba count through = refl
write_bytes false size lba count through = refl

module _ (size : ℕ) (rules : Rules) (q : ClientRequest) (places : Extent) (bytes : List ℕ) (task : Task) (extent : Extent) where
  abbrev w : Work
  w = work_of rules q places

  by_kind : (kind : Kind) → q.kind ≡ kind → task_in (command_for rules q places kind) ≡ Some (task, extent) → length bytes ≡ bytes_of size (command_for rules q places kind) → Matches size w bytes task extent
  by_kind Read is asks long =
      let t = read_is _ w.extent.first places.count q.through task extent asks in
      subst (λ (x : Task). Matches size w bytes x extent) t.same_task (is, sym t.same_extent, long ∙ read_bytes _ size w.extent.first places.count q.through)
  by_kind Write is asks long =
      let t = write_is _ w.extent.first places.count q.through task extent asks in
      subst (λ (x : Task). Matches size w bytes x extent) t.same_task (is, refl, sym t.same_extent, long ∙ write_bytes _ size w.extent.first places.count q.through)
  by_kind Flush is asks long = subst (λ (x : Task). Matches size w bytes x extent) (flush_is _ task extent asks) is

  pub matches : (command : Cdb) → command ≡ command_for rules q places q.kind → task_in command ≡ Some (task, extent) → length bytes ≡ bytes_of size command → Matches size w bytes task extent
  matches command is asks long =
      by_kind q.kind refl (subst (λ (c : Cdb). task_in c ≡ Some (task, extent)) is asks) (subst (λ (c : Cdb). length bytes ≡ bytes_of size c) is long)
