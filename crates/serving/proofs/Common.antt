-- What the proofs of this crate import, in one place.
pub use Rattle.adapter.proofs.Handed.{srb_on_is}
pub use Rattle.adapter.specs.Booking.{Books, IsArmed, IsBookable, Suits, entry_sent, handed, sent_of, with_booking}
pub use Rattle.adapter.specs.Calls.{HasNoneFresh}
pub use Rattle.adapter.specs.View.{AdapterView, IsInOrder, TagInUse}
pub use Rattle.clap.proofs.WalkLemmas.{first_value-rows, one_text-rows}
pub use Rattle.clap.specs.Walk.{one_of, rows_of}
pub use Rattle.clap.specs.Words.{Text, found_of, one_text}
pub use Rattle.clap.specs.declared.parser.matches.Found.{Found}
pub use Rattle.compose.proofs.JournaledKept.{IsLed, led}
pub use Rattle.compose.proofs.JournaledStep.{there_mapped}
pub use Rattle.compose.specs.Journaled.{IsStartedUse}
pub use Rattle.compose.specs.Opening.{first_rules}
pub use Rattle.compose.specs.Right.{IsRight, StepsUntraced}
pub use Rattle.compose.specs.StepLaws.{IsTransferEvent}
pub use Rattle.compose.specs.declared.Event.{Event}
pub use Rattle.compose.specs.declared.Event.TheVariants.{Act, CancelIoEx, CancelRemove, Close, Finish, Flush, Mark, Open, QueryRemove, Read, Remove, Reset, SurpriseRemove, Write}
pub use Rattle.file_disk.specs.Transfers.{DiskView, IsOfPiece, SyncsAfter, Transfers, entry_moved}
pub use Rattle.file_disk.specs.declared.file_disk.Moved.{Moved}
pub use Rattle.file_disk.specs.declared.storage.Failure.{Failure}
pub use Rattle.io_manager.specs.Calls.{are_used_up, call_on, handle_limit, open_refusal, partition_of, status_of_refusal, without_bytes}
pub use Rattle.io_manager.specs.Right.{FitsTogether, IsOnTag, TakesAnswerOf}
pub use Rattle.io_manager.specs.Shown.{ManagerView}
pub use Rattle.io_manager.specs.declared.Answer.{Answer}
pub use Rattle.io_manager.specs.declared.Handle.{Handle}
pub use Rattle.io_manager.specs.declared.Id.{Id}
pub use Rattle.io_manager.specs.declared.Refusal.{Refusal}
pub use Rattle.io_manager.specs.declared.Refusal.TheVariants.{DeletePending, DeviceBusy, InsufficientResources, InvalidDeviceRequest, InvalidHandle, InvalidParameter, NotFound}
pub use Rattle.io_manager.specs.declared.Reply.{Reply}
pub use Rattle.machine.proofs.Same.{IsSame-refl, Run-append}
pub use Rattle.machine.specs.Calling.{Admits, bytes_carried, refusal}
pub use Rattle.machine.specs.Numbers.{request_number}
pub use Rattle.machine.specs.Rules.{Rules}
pub use Rattle.machine.specs.Sending.{HasOtherTag}
pub use Rattle.machine.specs.Settled.{Settled}
pub use Rattle.machine.specs.State.{IsSame, OpenRequest, Owed, State, opening}
pub use Rattle.machine.specs.Step.{DeviceStep, Run, Step, as_label}
pub use Rattle.machine.specs.declared.ClientRequest.{ClientRequest}
pub use Rattle.machine.specs.declared.Label.{Label}
pub use Rattle.machine_laws.specs.NumberLaws.{CallsAreAnswered, answer_numbers, owed_number}
pub use Rattle.machine_laws.specs.Reached.{IsReached}
pub use Rattle.mbr.specs.Faults.{told_by}
pub use Rattle.mbr.specs.declared.MbrFault.{MbrFault}
pub use Rattle.miniport.proofs.OneSector.{counted}
pub use Rattle.miniport.specs.Apart.{IsNewBooked, apart}
pub use Rattle.miniport.specs.Memory.{MemView}
pub use Rattle.nbd.specs.Handshake.{IsSession}
pub use Rattle.nbd.specs.Requests.{IsWithin}
pub use Rattle.nbd.specs.declared.End.{End}
pub use Rattle.nbd.specs.declared.arrays.Sizes.{Sizes}
pub use Rattle.nbd.specs.declared.requests.Command.{Command}
pub use Rattle.nbd.specs.declared.requests.Command.TheVariants.{WriteZeroes}
pub use Rattle.nbd.specs.declared.requests.ReplyError.{ReplyError}
pub use Rattle.ntstatus.specs.First.{first_some, when}
pub use Rattle.ntstatus.specs.declared.NtStatus.{NtStatus}
pub use Rattle.ntstatus.specs.declared.NtStatus.TheVariants.{Success}
pub use Rattle.sector.specs.Extents.{sectors_in}
pub use Rattle.sector.specs.declared.Extent.{Extent}
pub use Rattle.serving.specs.Carried.{BooksArmed, CarriedView, Deed, Files, Goes, HasBooked, HasNoneToBook, IsAnsweredBy, IsRefusedAtOnce, IsTold, Requests, StandsIn, TellsOn, entries_of, entry_in, over}
pub use Rattle.serving.specs.Traces.{StepsFor, TraceView, Wrote, lines_of, quiet, shown_lines, shown_to}
pub use Rattle.serving.specs.CommandLine.{IsFlag, SpellsPartition}
pub use Rattle.serving.specs.Filed.{ComesTo, FiledKept, FiledView, HasCleared, IsAsked, IsDone, Writes}
pub use Rattle.serving.specs.OnDisk.{Differs, DiffersFrom, IsFirstOther, IsStartedOver, StopsPutting}
pub use Rattle.serving.specs.Serving.{IsServed, IsStartFault, array_of, fault_of_end, fault_of_open, may_fail, new_array}
pub use Rattle.serving.specs.declared.faults.Difference.{Difference}
pub use Rattle.serving.specs.declared.faults.Difference.TheVariants.{BadTable}
pub use Rattle.serving.specs.declared.faults.DiskFault.TheVariants.{HasFaults, InUse, IsConfig, IsOutput, NotCreated, NotOpened, OtherSize, OtherTable, Unreadable}
pub use Rattle.serving.specs.declared.faults.Error.{Error}
pub use Rattle.serving.specs.declared.faults.Error.TheVariants.{Disk, InputEnded, Malformed, NoMemory, NoPartition, OutputFailed, Startup, TraceFailed, TraceInUse, TraceNotOpened, Usage}
pub use Rattle.settings.specs.Medium.{extent_of, extents_of}
pub use Rattle.settings.specs.declared.Config.{Config}
pub use Rattle.settings.specs.declared.Partition.{Partition}
pub use Rattle.srb.specs.declared.Booked.TheVariants.{Sent}
pub use Rattle.srb.specs.declared.Completion.{Completion}
pub use Rattle.srb.specs.declared.DeviceLabel.{DeviceLabel}
pub use Rattle.srb.specs.declared.Entry.{Entry}
pub use Rattle.srb.specs.declared.Srb.{Srb}
pub use Rattle.startup.specs.Reading.{AreRead}
pub use Rattle.startup.specs.Started.{limits_of, rules_over}
pub use Rattle.std.proofs.Common.{Bool, Err, IsFalse, List, None, Ok, Option, Result, Some, [], ap, append-nil, append_assoc, arith, codes, cond, drop, false, get_or, inl, inr, length, map, refl, replicate, rules, slice_index, subst, suc, sym, take, true, zero, ℕ, ◌++◌, ◌+◌, ◌-◌, ◌<◌, ◌==◌, ◌^◌, ◌∙◌, ◌∷◌, ◌≡◌, ◌≢◌, ◌≤◌, ◌⊎◌}
pub use Rattle.std.proofs.Math.Seq.{take-length}
pub use Rattle.std.proofs.lemmas.Bool.Decides.{nat_tests}
pub use Rattle.std.proofs.lemmas.List.{map-append, take_more}
pub use Rattle.std.proofs.lemmas.List.Elements.{All-append, All-cons, All-contains, All-contains_itself, All-head, All-map, All-nil, All-tail, All-weaker, Contains-append_cases, Contains-append_left, Contains-append_right}
pub use Rattle.std.proofs.lemmas.List.Sorted.{All-permutation, Contains-permutation, IsPermutation-append_comm, IsPermutation-append_left, IsPermutation-append_right, IsPermutation-refl, IsPermutation-trans}
pub use Rattle.std.specs.Prelude.{All, Contains, IfErr, IfOk, IsNone, IsPermutation, MatchBool, MatchOption, MatchResult, OnOk, count_by, if◌then◌else◌, is_some, nat_le, remove, slice_get}
pub use Rattle.std.specs.Result.{OkIff, result_err}
pub use Rattle.std.specs.Str.Parse.{IsNumeral, ParsesUnsigned, digits_value, without_leading_plus}
pub use Rattle.volume.proofs.Closing.{given_known, given_on}
pub use Rattle.volume.proofs.Steps.{ActsOr, FinishesOr, IsFrom, acts_done, acts_kept, acts_or, answers-append, finishes_done, finishes_or, from_next, from_zero, none_left, quiet_rest, rest_of, untaken_told}
pub use Rattle.volume.specs.Opening.{IsOn}
pub use Rattle.volume.specs.Working.{Asks, IsQuiet, answers_of, fresh_count, tags_out, work}
pub use Rattle.volume.specs.declared.OpenFault.{OpenFault}
