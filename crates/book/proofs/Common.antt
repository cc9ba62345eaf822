-- What the proofs of this crate import, in one place.
pub use Rattle.adapter.proofs.Booked.{all_spoiled, is_there}
pub use Rattle.adapter.proofs.Joining.{unspoiled}
pub use Rattle.adapter.specs.Booking.{Books, IsArmed, IsBookable, IsOfSrb, booked_on, with_booked, with_booking}
pub use Rattle.adapter.specs.Calls.{HasNoneFresh}
pub use Rattle.adapter.specs.View.{AdapterView, IsInOrder, IsSpoiled, MovesByAll, MovesOn, ReservesMore, TagInUse, acted, faulted, in_use_from, met_by_reset}
pub use Rattle.asking.specs.Asking.{bytes_of, kind_asked}
pub use Rattle.book.specs.Acting.{BooksFailure, HasNoNext, HoldsBooked, IsAsLarge, MayBook, TakesEntry, TakesNot}
pub use Rattle.book.specs.Arming.{Forgets, IsFreeOf, IsOfOther, IsOfTag, IsOfThis, IsReceipt, claimed_at}
pub use Rattle.book.specs.Book.{ActsAreOf, BookView, BooksOne, CallsAfter, HasBooked, HoldsFailure, IsBlank, IsKept, IsLastAct, ServesAfter, ServesEvent, StaysKept, book_of}
pub use Rattle.book.specs.Rooms.{ArmsTag, FailsAs, Follows, FollowsDevice, FollowsFrom, FollowsOn, IsDisarmed, IsDisarmedOn, IsLeft, KeepsRoom, MakesRoom, Transfers}
pub use Rattle.book.specs.Staying.{AreOnTags, ArmedStays, Claimed, HaveNoted, HaveNotedAll, IsClaimed, IsOnTag, Leaves, LeavesPiece, piece_told}
pub use Rattle.book.specs.Taken.{BeginsWith, TakesNext, entries_claimed, numbered_from}
pub use Rattle.cdb.specs.Meaning.{AsksToWrite}
pub use Rattle.chronicle.specs.Claims.{AllStand}
pub use Rattle.compose.proofs.JournaledKept.{IsLed, led}
pub use Rattle.compose.proofs.JournaledStep.{ActsAsBooked, booked_step, there_mapped}
pub use Rattle.compose.specs.Journaled.{ArmedMayBeBooked, BookedActsAddEntries, IdleActsKeepEntries, IsJournaled, IsNoAct, IsStartedUse, StepsKeepEntries, StepsStayApart}
pub use Rattle.compose.specs.Right.{IsRight}
pub use Rattle.compose.specs.StepLaws.{StepsTakeNoMemory}
pub use Rattle.compose.specs.declared.Event.{Event}
pub use Rattle.device.specs.View.{piece_on_tag, use_on_tag}
pub use Rattle.io_manager.proofs.AdapterJoins.{reserves_more}
pub use Rattle.io_manager.specs.Right.{FitsTogether, TakesAnswerOf}
pub use Rattle.io_manager.specs.Shown.{ManagerView}
pub use Rattle.io_manager.specs.declared.OpenHandle.{OpenHandle}
pub use Rattle.io_manager.specs.declared.Refusal.TheVariants.{InsufficientResources}
pub use Rattle.io_manager.specs.declared.Reply.{Reply}
pub use Rattle.io_manager.specs.declared.Reply.TheVariants.{Refused}
pub use Rattle.journaled.specs.Right.{is_opened}
pub use Rattle.machine.proofs.Numbers.{AreDistinct-Run, AreDistinct-opening}
pub use Rattle.machine.proofs.Same.{IsSame-refl}
pub use Rattle.machine.specs.Rules.{Rules, sectors_of}
pub use Rattle.machine.specs.Sending.{array_at}
pub use Rattle.machine.specs.State.{Piece, State, opening}
pub use Rattle.machine.specs.Step.{Run, as_label}
pub use Rattle.machine.specs.declared.Label.{Label}
pub use Rattle.machine_laws.specs.Booked.{AreOfActs}
pub use Rattle.machine_laws.specs.Reached.{AreWhole, IsReached}
pub use Rattle.machine_laws.specs.WriteLaws.{HaveSameLengths, RunsKeepLengths}
pub use Rattle.sector.specs.declared.Extent.{Extent}
pub use Rattle.sector_journal.proofs.Bookable.{of_srb}
pub use Rattle.sector_journal.specs.Arming.{AskTheSame}
pub use Rattle.sector_journal.specs.Journal.{Acts, Admits, AreOfArmings, Arms, Disarms, GainsRoom, IsOfArming, JournalView, MayArm, Releases, entries_in}
pub use Rattle.sector_journal.specs.Slots.{HasNone, armed_at}
pub use Rattle.sector_journal.specs.declared.acted.Entered.{Entered}
pub use Rattle.sector_journal.specs.declared.slots.Armed.{Armed}
pub use Rattle.srb.specs.Fate.{Fresh, class_of}
pub use Rattle.srb.specs.declared.Class.TheVariants.{Bad}
pub use Rattle.srb.specs.declared.Completion.{Completion}
pub use Rattle.srb.specs.declared.DeviceLabel.{DeviceLabel}
pub use Rattle.srb.specs.declared.Entry.{Entry}
pub use Rattle.srb.specs.declared.Kind.{Kind}
pub use Rattle.srb.specs.declared.Srb.{Srb}
pub use Rattle.std.proofs.Common.{Bool, Err, IsFalse, List, None, Ok, Option, Result, Some, [], ap, arith, false, get_or-set_other, get_or-set_same, if◌then◌else◌, inl, inr, length, map, refl, replicate, rules, subst, suc, sym, true, vec_len, zero, ℕ, ◌++◌, ◌+◌, ◌-◌, ◌<◌, ◌==◌, ◌∙◌, ◌∷◌, ◌≡◌, ◌≢◌, ◌≤◌}
pub use Rattle.std.proofs.lemmas.Bool.Decides.{Decides-eqb}
pub use Rattle.std.proofs.lemmas.List.{append-nil, get_or_past, length-set, map_push}
pub use Rattle.std.proofs.lemmas.List.Elements.{All-cons, All-contains, All-contains_itself, All-head, All-nil, All-tail, All-weaker, Contains-append_left, Contains-append_right}
pub use Rattle.std.proofs.lemmas.List.Sorted.{Contains-permutation, IsPermutation-remove, IsPermutation-sym}
pub use Rattle.std.proofs.lemmas.Option.{slice_get_within}
pub use Rattle.std.specs.List.{remove}
pub use Rattle.std.specs.Prelude.{MatchBool, MatchOption, slice_set}
pub use Rattle.std.specs.Vec.{vec_capacity}
pub use Rattle.traced.proofs.Booking.{served_wants}
pub use Rattle.traced.proofs.Telling.{labels_noted}
pub use Rattle.traced.specs.Serving.{is_call_event}
pub use Rattle.traced.specs.Traced.{AreLooked, CarriesSeen, IsCarried, IsLooked, IsServed, IsTraced, TracedView, may_want, log_of}
pub use Rattle.traced.specs.declared.TraceEntry.{TraceEntry}
