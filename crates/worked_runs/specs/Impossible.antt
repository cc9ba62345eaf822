-- What a wrong body would do, and no state follows by it.
use Rattle.std.specs.Prelude.{◌<◌, ◌+◌, ℕ, Bool, true, false, List, [], ◌∷◌, ◌++◌, Some}
use Rattle.ntstatus.specs.declared.NtStatus.{NtStatus}
use Rattle.ntstatus.specs.declared.NtStatus.TheVariants.{Success, Cancelled, DeviceDataError, DeviceNotReady}
use Rattle.cdb.specs.Meaning.{AsksToWrite}
use Rattle.srb.specs.Fate.{Fresh}
use Rattle.srb.specs.declared.DeviceLabel.TheVariants.{Start, Act, Fault, Return}
use Rattle.srb.specs.declared.Class.TheVariants.{Good, Bad}
use Rattle.machine.specs.declared.Label.{Label}
use Rattle.machine.specs.declared.Label.TheVariants.{Call, Device, Answer, Cancel, Pause, Remove}
use Rattle.machine.specs.Rules.{Rules}
use Rattle.machine.specs.State.{State, Untouched, Out, Done, Failed, Back, opening}
use Rattle.machine.specs.Step.{Step, Run}
use Rattle.worked_runs.specs.Small.{small, zeros, full_of, sectors, idle, read, write, read_block, write_block, error_of_key, opened, piece_of}
use Rattle.worked_runs.specs.Served.{pairs}
use Rattle.worked_runs.specs.Failed.{busy_twice, cancelled_in_three, both_fail}

-- no state follows by this label
abbrev pub Never : Rules → State → Label → Type 0
Never rules s label = (s' : State) → Step rules s label s' → ⊥

-- the request has no answer, whatever the status
abbrev pub NeverAnswers : Rules → State → ℕ → Type 0
NeverAnswers rules s request = (status : NtStatus) (informed : ℕ) (bytes : List ℕ) → Never rules s (Answer request status informed bytes)

-- the request has no answer of this status
abbrev pub NeverAnswersAs : Rules → State → ℕ → NtStatus → Type 0
NeverAnswersAs rules s request status = (informed : ℕ) (bytes : List ℕ) → Never rules s (Answer request status informed bytes)

-- no piece starts, whatever its command
abbrev pub NeverStarts : Rules → State → Type 0
NeverStarts rules s = (piece tag : ℕ) (block : List ℕ) → Never rules s (Device (Start piece tag block))

-- no piece starts whose write begins at this sector of the disk
abbrev pub NeverWritesAt : Rules → State → ℕ → Type 0
NeverWritesAt rules s lba = (piece tag count : ℕ) (fua : Bool) (block : List ℕ) → AsksToWrite block lba count fua → Never rules s (Device (Start piece tag block))

-- no piece starts whose write goes past the sectors below this one
abbrev pub NeverWritesBeyond : Rules → State → ℕ → Type 0
NeverWritesBeyond rules s end =
    (piece tag lba count : ℕ) (fua : Bool) (block : List ℕ) → AsksToWrite block lba count fua → end < lba + count → Never rules s (Device (Start piece tag block))

-- ANSWERS TOO EARLY

-- a write whose piece is out, whatever it writes and whatever its command
abbrev pub NeverAnswersBeforeReturn : Type 0
NeverAnswersBeforeReturn = (bytes block : List ℕ) (status : NtStatus) (informed : ℕ) (handed : List ℕ) (s' : State)
    → Run small (opening zeros) (Call 1 (write 0 2 bytes) ∷ Device (Start 1 0 block) ∷ Answer 1 status informed handed ∷ []) s' → ⊥

-- of three pieces the first came back bad, the second is out and the third waits
abbrev pub one_failed : State
one_failed = record (idle zeros 2 3) { requests = opened 1 (read 0 6) (Failed DeviceDataError ∷ Out ∷ Untouched ∷ []) ∷ []; pieces = piece_of 2 1 1 1 Fresh ∷ [] }

abbrev pub ReachesOneFailed : Type 0
ReachesOneFailed = Run small (opening zeros) (
    Call 1 (read 0 6) ∷ Device (Start 1 0 (read_block 2 1)) ∷ Device (Start 2 1 (read_block 3 1)) ∷ Device (Fault 1) ∷ Device (Return 1 (Bad (error_of_key 3)))
    ∷ []) one_failed

-- the second piece came back good, and the third still waits
abbrev pub one_waits : State
one_waits = record (idle zeros 2 3) { requests = opened 1 (read 0 6) (Failed DeviceDataError ∷ Done (full_of 0) ∷ Untouched ∷ []) ∷ [] }

abbrev pub ReachesOneWaits : Type 0
ReachesOneWaits = Run small one_failed (Device (Act 2 (full_of 0)) ∷ Device (Return 2 Good) ∷ []) one_waits

-- a cancelled write whose piece is at the adapter
abbrev pub cancelled_out : State
cancelled_out = record (idle zeros 2 2) {
  requests = record (opened 1 (write 0 2 (full_of 165)) (Out ∷ [])) { cancelled = true } ∷ [];
  pieces = piece_of 1 0 1 0 Fresh ∷ [];
}

abbrev pub ReachesCancelledOut : Type 0
ReachesCancelledOut = Run small (opening zeros) (Call 1 (write 0 2 (full_of 165)) ∷ Device (Start 1 0 (write_block 2 1)) ∷ Cancel 1 ∷ []) cancelled_out

-- a write that waits to be sent, and the same one cancelled
abbrev pub unsent : State
unsent = record (idle zeros 2 1) { requests = opened 1 (write 0 2 (full_of 165)) (Untouched ∷ []) ∷ [] }

abbrev pub ReachesUnsent : Type 0
ReachesUnsent = Run small (opening zeros) (Call 1 (write 0 2 (full_of 165)) ∷ []) unsent

abbrev pub unsent_cancelled : State
unsent_cancelled = record (idle zeros 2 1) { requests = record (opened 1 (write 0 2 (full_of 165)) (Untouched ∷ [])) { cancelled = true } ∷ [] }

abbrev pub ReachesUnsentCancelled : Type 0
ReachesUnsentCancelled = Run small unsent (Cancel 1 ∷ []) unsent_cancelled

-- both pieces failed, the higher one first and for want of readiness
abbrev pub both_failed : State
both_failed = record (idle zeros 2 3) { requests = opened 1 (read 0 4) (Failed DeviceDataError ∷ Failed DeviceNotReady ∷ []) ∷ [] }

abbrev pub ReachesBothFailed : Type 0
ReachesBothFailed = Run small (opening zeros) both_fail both_failed

-- STARTS WHAT IT MAY NOT

-- sectors 2 to 4 of the disk are one partition, 5 to 7 the next; pieces of two sectors
abbrev pub neighbours : Rules
neighbours = record small { disk_sectors = 8; partitions = (record { first = 2; count = 3 }) ∷ (record { first = 5; count = 3 }) ∷ []; max_transfer = 2 }

abbrev pub both_zeros : List (List (List ℕ))
both_zeros = zeros ++ zeros

-- a write that begins in the last sector and ends past it starts nothing
abbrev pub NeverOpensPastEnd : Type 0
NeverOpensPastEnd = (bytes block : List ℕ) (piece tag : ℕ) (s' : State)
    → Run neighbours (opening both_zeros) (Call 1 (write 4 4 bytes) ∷ Device (Start piece tag block) ∷ []) s' → ⊥

abbrev pub last_sector : State
last_sector = record (idle both_zeros 2 1) { requests = opened 1 (write 4 2 (full_of 165)) (Untouched ∷ []) ∷ [] }

abbrev pub ReachesLastSector : Type 0
ReachesLastSector = Run neighbours (opening both_zeros) (Call 1 (write 4 2 (full_of 165)) ∷ []) last_sector

-- the first of two pieces came back bad, and the second waits
abbrev pub first_bad : State
first_bad = record (idle zeros 2 2) { requests = opened 1 (write 0 4 (full_of 165 ++ full_of 165)) (Failed DeviceDataError ∷ Untouched ∷ []) ∷ [] }

abbrev pub ReachesFirstBad : Type 0
ReachesFirstBad = Run small (opening zeros) (
    Call 1 (write 0 4 (full_of 165 ++ full_of 165)) ∷ Device (Start 1 0 (write_block 2 1)) ∷ Device (Fault 1) ∷ Device (Return 1 (Bad (error_of_key 3)))
    ∷ []) first_bad

-- the second piece is still sent, and the answer is the failure of the first
abbrev pub SendsTheOther : Type 0
SendsTheOther = Run small first_bad (
    Device (Start 2 0 (write_block 3 1)) ∷ Device (Act 2 (full_of 165)) ∷ Device (Return 2 Good) ∷ Answer 1 DeviceDataError 0 []
    ∷ []) (idle (sectors 0 165 0) 2 3)

-- a write whose piece came back busy one time more than it may start again
abbrev pub worn_out : State
worn_out = record (idle zeros 2 3) { requests = record (opened 1 (write 0 2 (full_of 165)) (Back ∷ [])) { busy_returns = 2 } ∷ [] }

abbrev pub ReachesWornOut : Type 0
ReachesWornOut = Run small (opening zeros) busy_twice worn_out

-- one request below the hold at a time
abbrev pub one_below : Rules
one_below = record small { window = Some 1 }

-- one read at the adapter and one behind it, held by a pause or not
abbrev pub behind : Bool → State
behind held = record (idle zeros 3 2) {
  requests = record (opened 2 (read 2 2) (Untouched ∷ [])) { late = held } ∷ opened 1 (read 0 2) (Out ∷ []) ∷ [];
  pieces = piece_of 1 0 1 0 Fresh ∷ [];
  paused = held;
}

-- two reads are called, and the first is started
abbrev pub two_reads : List Label
two_reads = Call 1 (read 0 2) ∷ Device (Start 1 0 (read_block 2 1)) ∷ Call 2 (read 2 2) ∷ []

-- the state in which the first request has been answered
abbrev pub alone : Bool → State
alone held = record (idle zeros 3 2) { requests = record (opened 2 (read 2 2) (Untouched ∷ [])) { late = held } ∷ []; paused = held }

-- the first read is carried out and answered
abbrev pub first_answered : List Label
first_answered = Device (Act 1 (full_of 0)) ∷ Device (Return 1 Good) ∷ Answer 1 Success 2 (full_of 0) ∷ []

-- a pause found one read at the adapter and one that waited behind it
abbrev pub held_behind : State
held_behind = behind true

abbrev pub ReachesHeldBehind : Type 0
ReachesHeldBehind = Run one_below (opening zeros) (two_reads ++ Pause ∷ []) held_behind

-- the first read has been answered, and the pause goes on
abbrev pub held_alone : State
held_alone = alone true

abbrev pub ReachesHeldAlone : Type 0
ReachesHeldAlone = Run one_below held_behind first_answered held_alone

-- a removal found a piece out
abbrev pub removing_out : State
removing_out = record (idle zeros 2 2) { requests = opened 1 (read 0 2) (Out ∷ []) ∷ []; pieces = piece_of 1 0 1 0 Fresh ∷ []; removing = true }

abbrev pub ReachesRemovingOut : Type 0
ReachesRemovingOut = Run small (opening zeros) (Call 1 (read 0 2) ∷ Device (Start 1 0 (read_block 2 1)) ∷ Pause ∷ Remove ∷ []) removing_out

-- a cancel found two of three pieces out; one has come back since
abbrev pub cut : State
cut = record (idle (sectors 165 0 0) 2 3) {
  requests = record (opened 1 (write 0 6 (full_of 165 ++ full_of 165 ++ full_of 165)) (Done (full_of 165) ∷ Out ∷ Untouched ∷ [])) { cancelled = true } ∷ [];
  pieces = piece_of 2 1 1 1 Fresh ∷ [];
}

abbrev pub ReachesCut : Type 0
ReachesCut = Run small (opening zeros) cancelled_in_three cut

-- LOSES, REPEATS OR MIXES UP

-- a read that waits is cancelled, and answered for it
abbrev pub AnswersOnce : Type 0
AnswersOnce = Run small (opening zeros) (Call 1 (read 0 2) ∷ Cancel 1 ∷ Answer 1 Cancelled 0 [] ∷ []) (idle zeros 2 1)

-- a call that nothing refuses has no answer yet
abbrev pub NeverRefusesWithoutCause : Type 0
NeverRefusesWithoutCause = (status : NtStatus) (informed : ℕ) (bytes : List ℕ) (s' : State) → Run small (opening zeros) (Call 1 (read 0 2) ∷ Answer 1 status informed bytes ∷ []) s' → ⊥

-- a read of three sectors of which the last, a piece of its own, was not sent
abbrev pub last_unsent : State
last_unsent = record (idle (sectors 17 34 51) 2 2) { requests = opened 1 (read 0 6) (Done (full_of 17) ∷ Done (full_of 34) ∷ Untouched ∷ []) ∷ [] }

abbrev pub ReachesLastUnsent : Type 0
ReachesLastUnsent = Run pairs (opening (sectors 17 34 51)) (
    Call 1 (read 0 6) ∷ Device (Start 1 0 (read_block 2 2)) ∷ Device (Act 1 (full_of 17 ++ full_of 34)) ∷ Device (Return 1 Good)
    ∷ []) last_unsent

-- both sectors of a read have come back, the higher one first
abbrev pub both_back : State
both_back = record (idle (sectors 17 34 51) 2 3) { requests = opened 1 (read 0 4) (Done (full_of 17) ∷ Done (full_of 34) ∷ []) ∷ [] }

abbrev pub ReachesBothBack : Type 0
ReachesBothBack = Run small (opening (sectors 17 34 51)) (
    Call 1 (read 0 4) ∷ Device (Start 1 0 (read_block 2 1)) ∷ Device (Start 2 1 (read_block 3 1))
    ∷ Device (Act 2 (full_of 34)) ∷ Device (Return 2 Good) ∷ Device (Act 1 (full_of 17)) ∷ Device (Return 1 Good)
    ∷ []) both_back

-- of two equal reads the first has been carried out
abbrev pub one_of_two : State
one_of_two = record (idle (sectors 17 34 51) 3 2) { requests = opened 1 (read 0 2) (Done (full_of 17) ∷ []) ∷ opened 2 (read 0 2) (Untouched ∷ []) ∷ [] }

abbrev pub ReachesOneOfTwo : Type 0
ReachesOneOfTwo = Run small (opening (sectors 17 34 51)) (
    Call 1 (read 0 2) ∷ Device (Start 1 0 (read_block 2 1)) ∷ Call 2 (read 0 2) ∷ Device (Act 1 (full_of 17)) ∷ Device (Return 1 Good)
    ∷ []) one_of_two

-- a read waits behind another for the one place below the hold, and then alone
abbrev pub waits_behind : State
waits_behind = behind false

abbrev pub ReachesWaitsBehind : Type 0
ReachesWaitsBehind = Run one_below (opening zeros) two_reads waits_behind

abbrev pub left_behind : State
left_behind = alone false

abbrev pub ReachesLeftBehind : Type 0
ReachesLeftBehind = Run one_below waits_behind first_answered left_behind
