-- What comes of a piece may be booked.
use Rattle.std.proofs.Common.{◌≡◌, ◌≤◌, ◌⊎◌, inl, inr, ℕ, ◌+◌, ◌*◌, true, false, List, [], length, Option, Some, None, Result, Ok, Err, refl, sym, ap, subst, ◌∙◌, arith}
use Rattle.std.specs.Prelude.{MatchOption, ⊤}
use Rattle.sector.specs.declared.Extent.{Extent}
use Rattle.cdb.specs.Meaning.{Means}
use Rattle.cdb.specs.declared.Cdb.{Cdb}
use Rattle.cdb.specs.declared.Cdb.TheVariants.{Read10, Write10, Sync10, ReadCapacity10, Read16, Write16, Sync16, ReadCapacity16}
use Rattle.srb.specs.declared.Srb.{Srb}
use Rattle.srb.specs.declared.Entry.{Entry}
use Rattle.srb.specs.declared.Kind.{Kind}
use Rattle.srb.specs.declared.Kind.TheVariants.{Write, Flush}
use Rattle.srb.specs.declared.Completion.{Completion}
use Rattle.srb.specs.declared.Class.TheVariants.{Bad}
use Rattle.srb.specs.Fate.{class_of}
use Rattle.adapter.specs.Booking.{MayBeOf, Suits, asked_extent, entry_sent}
use Rattle.miniport.specs.Checking.{disk_with}
use Rattle.miniport.specs.Faults.{invalid_request}
use Rattle.miniport.proofs.Bad.{fault_is_bad}
use Rattle.file_disk.specs.declared.storage.Failure.{Failure}
use Rattle.file_disk.specs.declared.storage.Failure.TheVariants.{Protected, Full, Failed}
use Rattle.file_disk.specs.declared.file_disk.Task.{Task}
use Rattle.file_disk.specs.declared.file_disk.Task.TheVariants.{Read as ReadTask, Write as WriteTask, Flush as FlushTask}
use Rattle.file_disk.specs.Calls.{Call}
use Rattle.file_disk.specs.Transfers.{Carries, DiskView, Does, FailsByRow, Fits, IsSentOr, LacksMemory, TellsRoom, Transfers, entry_of, hardware_fault, kind_of, read_fault, task_in, write_fault}

-- WHAT A COMMAND NAMES

abbrev HasMoved : List ℕ → Task → List ℕ → Type 0
HasMoved sent ReadTask bytes = length bytes ≡ length sent
HasMoved sent (WriteTask through) bytes = bytes ≡ sent
HasMoved sent FlushTask bytes = length bytes ≡ length sent

module _ (disk : DiskView) (srb : Srb) where
  -- its sectors lie in the disk, and are as many as its bytes
  named_within : (command : Cdb) → Fits disk srb command
      → MatchOption (task_in command) ⊤ (λ named. (named.1.first + named.1.count ≤ disk.sectors) × (length srb.data ≤ named.1.count * disk.sector_size))
  named_within (Read10 lba count fua) h = (h.fits.within, omega (arith, h.fits.as_long))
  named_within (Write10 lba count fua) h = (h.fits.within, omega (arith, h.fits.as_long))
  named_within (Sync10 lba count) h = (h.fits.within, omega (arith, h.fits.as_long))
  named_within ReadCapacity10 h = tt
  named_within (Read16 lba count fua) h = (h.fits.within, omega (arith, h.fits.as_long))
  named_within (Write16 lba count fua) h = (h.fits.within, omega (arith, h.fits.as_long))
  named_within (Sync16 lba count) h = (h.fits.within, omega (arith, h.fits.as_long))
  named_within (ReadCapacity16 allocation) h = tt

  pub within : (command : Cdb) (task : Task) (extent : Extent) (named : Option (Task × Extent)) → Fits disk srb command → named ≡ task_in command → named ≡ Some (task, extent)
      → (extent.first + extent.count ≤ disk.sectors) × (length srb.data ≤ extent.count * disk.sector_size)
  within command task extent named h e is =
      subst (λ (n : Option (Task × Extent)). MatchOption n ⊤ (λ named. (named.1.first + named.1.count ≤ disk.sectors) × (length srb.data ≤ named.1.count * disk.sector_size))) (sym e ∙ is) (named_within command h)

  -- an entry of what it moved may be of it
  named_may : (tag piece : ℕ) (bytes : List ℕ) (command : Cdb) → Fits disk srb command
      → MatchOption (task_in command) ⊤ (λ named. HasMoved srb.data named.0 bytes → MayBeOf disk.sector_size disk.sectors srb.data (record { piece = piece; tag = tag; extent = named.1; kind = kind_of named.0; bytes = bytes }) command)
  named_may tag piece bytes (Read10 lba count fua) h = λ moved. record { kind_is = refl; first_is = refl; count_is = refl; inside = h.fits.within; whole = h.fits.as_long; as_many = moved }
  named_may tag piece bytes (Write10 lba count fua) h = λ moved.
      (record { kind_is = refl; first_is = refl; count_is = refl; inside = h.fits.within; whole = h.fits.as_long; as_many = ap (λ (b : List ℕ). length b) moved }, moved)
  named_may tag piece bytes (Sync10 lba count) h = λ moved. record { kind_is = refl; first_is = refl; count_is = refl; none = h.fits.as_long; none_booked = moved ∙ h.fits.as_long }
  named_may tag piece bytes ReadCapacity10 h = tt
  named_may tag piece bytes (Read16 lba count fua) h = λ moved. record { kind_is = refl; first_is = refl; count_is = refl; inside = h.fits.within; whole = h.fits.as_long; as_many = moved }
  named_may tag piece bytes (Write16 lba count fua) h = λ moved.
      (record { kind_is = refl; first_is = refl; count_is = refl; inside = h.fits.within; whole = h.fits.as_long; as_many = ap (λ (b : List ℕ). length b) moved }, moved)
  named_may tag piece bytes (Sync16 lba count) h = λ moved. record { kind_is = refl; first_is = refl; count_is = refl; none = h.fits.as_long; none_booked = moved ∙ h.fits.as_long }
  named_may tag piece bytes (ReadCapacity16 allocation) h = tt

-- WHAT AN SRB SENDS

abbrev entry_with : ℕ → ℕ → Srb → ℕ → ℕ → Kind → Entry
entry_with tag piece srb first count kind = record { piece = piece; tag = tag; extent = record { first = first; count = count }; kind = kind; bytes = srb.data }

same_entry : (tag piece : ℕ) (srb : Srb) (first count : ℕ) (kind : Kind) → (asked_extent srb.block).first ≡ first → (asked_extent srb.block).count ≡ count → (entry_sent tag piece srb).kind ≡ kind
    → entry_sent tag piece srb ≡ entry_with tag piece srb first count kind
same_entry tag piece srb first count kind f c k =
    ap (λ (n : ℕ). entry_with tag piece srb n (asked_extent srb.block).count (entry_sent tag piece srb).kind) f
    ∙ ap (λ (n : ℕ). entry_with tag piece srb first n (entry_sent tag piece srb).kind) c
    ∙ ap (λ (what : Kind). entry_with tag piece srb first count what) k

-- the entry of what it sends is that of the task and the sectors that its command names
sent_named : (tag piece : ℕ) (srb : Srb) (command : Cdb) → Means srb.block command
    → MatchOption (task_in command) ⊤ (λ named. IsSentOr named.0 None → entry_sent tag piece srb ≡ record { piece = piece; tag = tag; extent = named.1; kind = kind_of named.0; bytes = srb.data })
sent_named tag piece srb (Read10 lba count fua) m = λ sends. absurd sends
sent_named tag piece srb (Write10 lba count fua) m = λ sends.
    same_entry tag piece srb lba count Write (rw (m.0.operation) m.1.address) (rw (m.0.operation) m.1.blocks) (rw (m.0.operation) refl)
sent_named tag piece srb (Sync10 lba count) m = λ sends.
    same_entry tag piece srb lba count Flush (rw (m.0.operation) m.1.address) (rw (m.0.operation) m.1.blocks) (rw (m.0.operation) refl)
sent_named tag piece srb ReadCapacity10 m = tt
sent_named tag piece srb (Read16 lba count fua) m = λ sends. absurd sends
sent_named tag piece srb (Write16 lba count fua) m = λ sends.
    same_entry tag piece srb lba count Write (rw (m.0.operation) m.1.address) (rw (m.0.operation) m.1.blocks) (rw (m.0.operation) refl)
sent_named tag piece srb (Sync16 lba count) m = λ sends.
    same_entry tag piece srb lba count Flush (rw (m.0.operation) m.1.address) (rw (m.0.operation) m.1.blocks) (rw (m.0.operation) refl)
sent_named tag piece srb (ReadCapacity16 allocation) m = tt

-- WHAT A TASK CAME TO

moved_by : (offset : ℕ) (sent bytes : List ℕ) (task : Task) (calls : List Call) → Does offset sent task (Ok bytes) calls ⊎ ((task ≡ ReadTask) × LacksMemory (Ok bytes) calls) → HasMoved sent task bytes
moved_by offset sent bytes ReadTask calls (inl h) = h.0
moved_by offset sent bytes (WriteTask through) calls (inl h) = h.0
moved_by offset sent bytes FlushTask calls (inl h) = h.0
moved_by offset sent bytes task calls (inr h) = absurd (let e : ◌≡◌ {A = Result (List ℕ) Completion} (Ok bytes) (Err hardware_fault) = h.1.0 in cc)

write_bad : (why : Failure) → class_of (write_fault why) ≡ Bad (write_fault why)
write_bad Protected = refl
write_bad Full = refl
write_bad Failed = refl

same_bad : (one completion : Completion) → completion ≡ one → class_of one ≡ Bad one → class_of completion ≡ Bad completion
same_bad one completion is bad = subst (λ (c : Completion). class_of c ≡ Bad c) (sym is) bad

failed_bad : (offset : ℕ) (sent : List ℕ) (task : Task) (completion : Completion) (calls : List Call) → Does offset sent task (Err completion) calls ⊎ ((task ≡ ReadTask) × LacksMemory (Err completion) calls) → class_of completion ≡ Bad completion
failed_bad offset sent ReadTask completion calls (inl h) = same_bad read_fault completion h.1 refl
failed_bad offset sent (WriteTask false) completion calls (inl h) = same_bad (write_fault h.1.0) completion h.1.1 (write_bad h.1.0)
failed_bad offset sent (WriteTask true) completion calls (inl h) = elim h.1 [
  | inl w ↦ same_bad (write_fault w.0) completion w.1 (write_bad w.0)
  | inr s ↦ same_bad hardware_fault completion s.1 refl
]
failed_bad offset sent FlushTask completion calls (inl h) = same_bad hardware_fault completion h.1.1 refl
failed_bad offset sent task completion calls (inr h) = same_bad hardware_fault completion (let e : ◌≡◌ {A = Result (List ℕ) Completion} (Err completion) (Err hardware_fault) = h.1.0 in cc) refl

-- WHAT COMES OF A PIECE

module _ (old : DiskView) (tag piece : ℕ) (srb : Srb) where
  pub refused : (completion : Completion) → FailsByRow old srb completion → Transfers old tag piece srb (Err completion) old
  refused completion h = inr (inr (record { completion = completion; refused = h; fails = refl; same = refl }))

  pub refused_suits : (completion : Completion) → FailsByRow old srb completion → class_of completion ≡ Bad completion
  refused_suits completion h = fault_is_bad (disk_with (record { sector_size = old.sector_size; sectors = old.sectors; write_protected = old.write_protected }) []) srb h.decoded completion (h.fault [])

  pub asks_nothing : (command : Cdb) (completion : Completion) (named : Option (Task × Extent)) → Fits old srb command → named ≡ task_in command → named ≡ None → completion ≡ invalid_request → Transfers old tag piece srb (Err completion) old
  asks_nothing command completion named fits e none is =
      inr (inl (record { command = command; passes = fits; nothing = sym e ∙ none; fails = ap (λ (c : Completion). Err c) is; same = refl }))

  pub nothing_suits : (completion : Completion) → completion ≡ invalid_request → class_of completion ≡ Bad completion
  nothing_suits completion is = same_bad invalid_request completion is refl

  module _ (command : Cdb) (task : Task) (extent : Extent) (named : Option (Task × Extent)) (fits : Fits old srb command) (e : named ≡ task_in command) (is : named ≡ Some (task, extent)) (new : DiskView) where
    pub carried_out : (moved : Result (List ℕ) Completion) → Carries old task extent srb.data moved new → TellsRoom old new → new ≡ record old { calls = new.calls; full = new.full }
        → Transfers old tag piece srb (entry_of tag piece task extent moved) new
    carried_out moved carries room after =
        inl (record { command = command; task = task; extent = extent; moved = moved; passes = fits; asks = sym e ∙ is; carries = carries; becomes = refl; room = room; after = after })

    pub entry_suits : (bytes : List ℕ) → Carries old task extent srb.data (Ok bytes) new → Suits old.sector_size old.sectors srb (entry_of tag piece task extent (Ok bytes))
    entry_suits bytes carries = record {
      command = command;
      means = fits.means;
      may =
          subst (λ (n : Option (Task × Extent)). MatchOption n ⊤ (λ named. HasMoved srb.data named.0 bytes → MayBeOf old.sector_size old.sectors srb.data (record { piece = piece; tag = tag; extent = named.1; kind = kind_of named.0; bytes = bytes }) command))
          (sym e ∙ is) (named_may old srb tag piece bytes command fits) (moved_by _ srb.data bytes task carries.calls carries.made);
    }

    sent_is : IsSentOr task None → entry_sent tag piece srb ≡ record { piece = piece; tag = tag; extent = extent; kind = kind_of task; bytes = srb.data }
    sent_is =
        subst (λ (n : Option (Task × Extent)). MatchOption n ⊤ (λ named. IsSentOr named.0 None → entry_sent tag piece srb ≡ record { piece = piece; tag = tag; extent = named.1; kind = kind_of named.0; bytes = srb.data }))
        (sym e ∙ is) (sent_named tag piece srb command fits.means)

    pub sent_out : IsSentOr task None → Carries old task extent srb.data (Ok srb.data) new → TellsRoom old new → new ≡ record old { calls = new.calls; full = new.full }
        → Transfers old tag piece srb (Ok (entry_sent tag piece srb)) new
    sent_out sends carries room after = subst (λ (x : Entry). Transfers old tag piece srb (Ok x) new) (sym (sent_is sends)) (carried_out (Ok srb.data) carries room after)

    pub sent_suits : IsSentOr task None → Carries old task extent srb.data (Ok srb.data) new → Suits old.sector_size old.sectors srb (Ok (entry_sent tag piece srb))
    sent_suits sends carries = subst (λ (x : Entry). Suits old.sector_size old.sectors srb (Ok x)) (sym (sent_is sends)) (entry_suits srb.data carries)

    pub failure_suits : (completion : Completion) → Carries old task extent srb.data (Err completion) new → class_of completion ≡ Bad completion
    failure_suits completion carries = failed_bad _ srb.data task completion carries.calls carries.made
