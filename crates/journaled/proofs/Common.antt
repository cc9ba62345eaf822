-- What the proofs of this crate import, in one place.
pub use Rattle.adapter.specs.Booking.{Books, IsArmed, IsBookable, Suits, with_booking}
pub use Rattle.adapter.specs.Calls.{HasNoneFresh}
pub use Rattle.adapter.specs.View.{AdapterView, IsInOrder, TagInUse}
pub use Rattle.asking.specs.Asking.{kind_asked}
pub use Rattle.compose.proofs.JournaledKept.{IsLed, led}
pub use Rattle.compose.specs.Journaled.{ArmedMayBeBooked, BookedActsAddEntries, IdleActsKeepEntries, IsJournaled, IsNoAct, IsOfPiece, IsStartedUse, StepsKeepEntries, StepsStayApart, with_entry}
pub use Rattle.compose.specs.Right.{IsRight, opened_by}
pub use Rattle.compose.specs.StepLaws.{CallsFirst, IsNoCall, IsTransferEvent, OpensNone, OpensOrLacksMemory, StepsCallOnce, StepsOpenAsTold}
pub use Rattle.compose.specs.declared.Event.{Event}
pub use Rattle.compose.specs.declared.Event.TheVariants.{Act}
pub use Rattle.disk.specs.Medium.{MediumView}
pub use Rattle.io_manager.specs.Calls.{are_used_up, call_on, disk_extent, number_limit, opened_as, status_of_refusal, would_open}
pub use Rattle.io_manager.specs.Right.{FitsTogether, IsRightBy, TakesAnswer, TakesLabel, Told}
pub use Rattle.io_manager.specs.Shown.{ManagerView}
pub use Rattle.io_manager.specs.declared.Answer.{Answer}
pub use Rattle.io_manager.specs.declared.Handle.{Handle}
pub use Rattle.io_manager.specs.declared.Id.{Id}
pub use Rattle.io_manager.specs.declared.Refusal.{Refusal}
pub use Rattle.io_manager.specs.declared.Reply.{Reply}
pub use Rattle.journaled.specs.Acting.{BooksArmed, CameTo, HasBooked, HasNoneToBook, IsNumbered, IsThat}
pub use Rattle.journaled.specs.Opening.{IsStarted, IsUnused}
pub use Rattle.journaled.specs.Right.{BooksFor, HoldsRoom, IsServed, MakesRoom, StepsBooked, WouldOpen, is_opened}
pub use Rattle.journaled.specs.Shown.{GivesBack, IsAsLarge, IsBelow, JournaledKept, JournaledView, KeepsEntries, StandsIn, next_behind, over}
pub use Rattle.journaled.specs.Told.{IsTold, StaysTold, TellsOn}
pub use Rattle.machine.proofs.Same.{IsSame-refl, Run-append}
pub use Rattle.machine.specs.Calling.{refusal}
pub use Rattle.machine.specs.Map.{IsMap, IsPartition}
pub use Rattle.machine.specs.Rules.{Rules, first_sector, home, is_in_bounds, is_transfer, sectors_of}
pub use Rattle.machine.specs.Sending.{array_at}
pub use Rattle.machine.specs.State.{IsSame, State, opening}
pub use Rattle.machine.specs.Step.{Run, as_label}
pub use Rattle.machine.specs.declared.ClientRequest.{ClientRequest}
pub use Rattle.machine.specs.declared.Label.{Label}
pub use Rattle.machine_laws.specs.NumberLaws.{AreFrom, CallsCount, CallsRise, call_numbers}
pub use Rattle.machine_laws.specs.Reached.{AreWhole, IsReached}
pub use Rattle.machine_laws.specs.WriteLaws.{HaveSameLengths, RunsKeepLengths}
pub use Rattle.ntstatus.proofs.First.{none_first}
pub use Rattle.ntstatus.specs.declared.NtStatus.{NtStatus}
pub use Rattle.sector.specs.Extents.{IsSector, sectors_in}
pub use Rattle.sector.specs.declared.Extent.{Extent}
pub use Rattle.sector_journal.proofs.Bookable.{entered_bookable}
pub use Rattle.sector_journal.specs.Arming.{AskTheSame}
pub use Rattle.sector_journal.specs.Entering.{Enters}
pub use Rattle.sector_journal.specs.Journal.{Acts, Admits, Arms, Does, GainsRoom, JournalView, MayArm, Releases, entries_in, entries_of, of_arming, without}
pub use Rattle.sector_journal.specs.Reserving.{is_of}
pub use Rattle.sector_journal.specs.Slots.{HasNone, armed_at}
pub use Rattle.sector_journal.specs.declared.acted.Entered.{Entered}
pub use Rattle.sector_journal.specs.declared.reservation.Reservation.{Reservation}
pub use Rattle.sector_journal.specs.declared.slots.Armed.{Armed}
pub use Rattle.srb.specs.Fate.{class_of}
pub use Rattle.srb.specs.Replaying.{Replays}
pub use Rattle.srb.specs.declared.Class.TheVariants.{Bad}
pub use Rattle.srb.specs.declared.Completion.{Completion}
pub use Rattle.srb.specs.declared.DeviceLabel.{DeviceLabel}
pub use Rattle.srb.specs.declared.Entry.{Entry}
pub use Rattle.srb.specs.declared.Srb.{Srb}
pub use Rattle.std.proofs.Common.{Bool, Err, IsFalse, List, None, Ok, Option, Result, Some, [], ap, append-nil, arith, cond, drop, false, get_or-set_same, if◌then◌else◌, inl, inr, length, length-append, map, not, refl, subst, suc, sym, take, true, zero, zero-add, ℕ, ◌&&◌, ◌++◌, ◌+◌, ◌-◌, ◌/◌, ◌<◌, ◌^◌, ◌∙◌, ◌∷◌, ◌≡◌, ◌≢◌, ◌≤◌, ◌⊎◌}
pub use Rattle.std.proofs.Math.Nat.{zero-div}
pub use Rattle.std.proofs.lemmas.Bool.{and_parts, leb-true, not-false}
pub use Rattle.std.proofs.lemmas.Bool.Decides.{nat_tests}
pub use Rattle.std.proofs.lemmas.List.{map_push}
pub use Rattle.std.proofs.lemmas.List.Edits.{remove-append_right}
pub use Rattle.std.proofs.lemmas.List.Elements.{All-append, All-cons, All-drop, All-head, All-nil, All-tail, All-take, All-weaker}
pub use Rattle.std.proofs.lemmas.List.Recursion.{is_position_or_len}
pub use Rattle.std.specs.List.{position, position_or_len, remove}
pub use Rattle.std.specs.Prelude.{All, IsTrue, MatchBool, MatchOption, OnErr, OnOk, is_err, is_none, is_some, min, nat_eq, nat_lt, slice_get}
