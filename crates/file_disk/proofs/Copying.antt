-- What a disk did for a copy of an SRB, it did for the SRB itself.
use Rattle.std.proofs.Common.{◌≡◌, ℕ, List, length, Result, Ok, Err, inl, inr, refl, sym, subst, ◌∙◌, ap}
use Rattle.cdb.specs.declared.Cdb.{Cdb}
use Rattle.cdb.specs.declared.CdbFault.{CdbFault}
use Rattle.cdb.specs.Meaning.{Means}
use Rattle.srb.specs.declared.Srb.{Srb}
use Rattle.srb.specs.declared.Entry.{Entry}
use Rattle.srb.specs.declared.Completion.{Completion}
use Rattle.adapter.specs.Booking.{IsOfSrb, MayBeOf}
use Rattle.miniport.specs.Faults.{Disk, Decodes, fault_of, fault_of_command}
use Rattle.file_disk.specs.Transfers.{Carries, DiskView, FailsByRow, Fits}
use Rattle.file_disk.specs.Copies.{CopiesSend, CopiesSuit, CopiesTransfer, IsCopyOf}

same_length : (srb copy : Srb) → IsCopyOf srb copy → length copy.data ≡ length srb.data
same_length srb copy is = ap (λ (b : List ℕ). length b) is.same_data

same_command : (disk : Disk) (srb copy : Srb) (command : Cdb) → IsCopyOf srb copy → fault_of_command disk copy command ≡ fault_of_command disk srb command
same_command disk srb copy command is = rw (is.same_flags, same_length srb copy is) refl

same_fault : (disk : Disk) (srb copy : Srb) (decoded : Result Cdb CdbFault) → IsCopyOf srb copy → fault_of disk copy decoded ≡ fault_of disk srb decoded
same_fault disk srb copy (Ok command) is = rw (is.same_function, is.same_flags, same_length srb copy is) refl
same_fault disk srb copy (Err fault) is = rw is.same_function refl

passes : (disk : DiskView) (srb copy : Srb) (command : Cdb) → IsCopyOf srb copy → Fits disk copy command → Fits disk srb command
passes disk srb copy command is h = record {
  means = subst (λ b. Means b command) is.same_block h.means;
  fits = record {
    within = h.fits.within;
    as_long = sym (same_length srb copy is) ∙ h.fits.as_long;
    left = λ bad. sym (same_command _ srb copy command is) ∙ h.fits.left bad;
  };
  fault = λ bad. sym (same_fault _ srb copy (Ok command) is) ∙ h.fault bad;
}

refused : (disk : DiskView) (srb copy : Srb) (completion : Completion) → IsCopyOf srb copy → FailsByRow disk copy completion → FailsByRow disk srb completion
refused disk srb copy completion is h = record {
  decoded = h.decoded;
  decodes = subst (λ b. Decodes b h.decoded) is.same_block h.decodes;
  fault = λ bad. sym (same_fault _ srb copy h.decoded is) ∙ h.fault bad;
}

pub copies_transfer : CopiesTransfer
copies_transfer old new tag piece srb copy what is (inl h) = inl (record {
  command = h.command;
  task = h.task;
  extent = h.extent;
  moved = h.moved;
  passes = passes old srb copy h.command is h.passes;
  asks = h.asks;
  carries = subst (λ (b : List ℕ). Carries old h.task h.extent b h.moved new) is.same_data h.carries;
  becomes = h.becomes;
  room = h.room;
  after = h.after;
})
copies_transfer old new tag piece srb copy what is (inr (inl h)) = inr (inl (record { command = h.command; passes = passes old srb copy h.command is h.passes; nothing = h.nothing; fails = h.fails; same = h.same }))
copies_transfer old new tag piece srb copy what is (inr (inr h)) = inr (inr (record { completion = h.completion; refused = refused old srb copy h.completion is h.refused; fails = h.fails; same = h.same }))

of_srb : (size sectors : ℕ) (srb copy : Srb) (entry : Entry) → IsCopyOf srb copy → IsOfSrb size sectors copy entry → IsOfSrb size sectors srb entry
of_srb size sectors srb copy entry is h = record {
  command = h.command;
  means = subst (λ b. Means b h.command) is.same_block h.means;
  may = subst (λ (b : List ℕ). MayBeOf size sectors b entry h.command) is.same_data h.may;
}

pub copies_suit : CopiesSuit
copies_suit size sectors srb copy (Ok entry) is h = of_srb size sectors srb copy entry is h
copies_suit size sectors srb copy (Err completion) is h = h

pub copies_send : CopiesSend
copies_send tag piece srb copy is = rw (is.same_block, is.same_data) refl
