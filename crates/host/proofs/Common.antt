-- What the proofs of this crate import, in one place.
pub use Rattle.asking.specs.Asking.{bytes_of}
pub use Rattle.atomic_table.specs.Seated.{TableId}
pub use Rattle.book.specs.Acting.{ActsEntry}
pub use Rattle.book.specs.Book.{ActsAreOf, AreBooked, BookView, HoldsFailure, IsLastAct, IsStepped, ServesAfter, ServesEvent, call_handle}
pub use Rattle.book.specs.Taken.{BeginsWith, numbered_from}
pub use Rattle.cancel_marks.specs.Marks.{IsOther}
pub use Rattle.chronicle.specs.Claims.{AllStand}
pub use Rattle.compose.specs.Journaled.{IsNoAct}
pub use Rattle.compose.specs.declared.Event.{Event}
pub use Rattle.host.specs.Accounts.{AccountKept, AccountView, EndsWithAnswer, IsCalled, IsTaken, IsTurnedDown, told_request}
pub use Rattle.host.specs.Calls.{AnswerLaws, HasCounted, IsAnsweredAtOnce, IsTold, Stands, buffer_of, request_of}
pub use Rattle.host.specs.Clients.{AreNumbered, ClientView, client_at, ticket_limit}
pub use Rattle.host.specs.Closing.{AreBorneOut, AreFirst, HasReceiptsIn, IsBorneOut, IsClosed, IsFaithfulRun, SettledAtRemoved, act_count, call_places, total}
pub use Rattle.host.specs.Keepers.{HasNoted, KeeperView, is_notice, label_of, notice_of}
pub use Rattle.host.specs.Opening.{IsClientPass, IsDiskOf, IsJournalFor, IsOpening, IsReady, Names, client_limit}
pub use Rattle.host.specs.Receipts.{AreBelow, AreCalls, AreRising, Receipt, ReceiptsView, none_yet, places_of, receipt}
pub use Rattle.host.specs.Replies.{IsPnpReply, IsReplyTo, IsTagReply}
pub use Rattle.host.specs.Tickets.{HoldsRequest, TicketView, WasOpen}
pub use Rattle.host.specs.declared.call.Places.{Places}
pub use Rattle.host.specs.declared.notice.Minor.{Minor}
pub use Rattle.host.specs.declared.notice.Notice.{Notice}
pub use Rattle.io_manager.specs.Calls.{IsWant, are_used_up, bytes_called, call_on, partition_at, partition_of, status_of_refusal, without_bytes}
pub use Rattle.io_manager.specs.Right.{ActReplies, FinishReplies, PnpReplies, RecallReplies, RefusesAlone, Told, as_answer}
pub use Rattle.io_manager.specs.Shown.{Holder, ManagerView}
pub use Rattle.io_manager.specs.declared.OpenHandle.{OpenHandle}
pub use Rattle.io_manager.specs.declared.Refusal.TheVariants.{DeletePending, DeviceBusy, InsufficientResources, InvalidDeviceRequest, InvalidHandle, InvalidParameter, NotFound}
pub use Rattle.io_manager.specs.declared.Reply.{Reply}
pub use Rattle.machine.proofs.Numbers.{AreDistinct-Run}
pub use Rattle.machine.proofs.Places.{some_places, taken_in}
pub use Rattle.machine.specs.Calling.{Admits, Opens, new_request, refusal}
pub use Rattle.machine.specs.Map.{IsMap}
pub use Rattle.machine.specs.Numbers.{AreDistinct, IsGiven}
pub use Rattle.machine.specs.Rules.{Rules, place_count}
pub use Rattle.machine.specs.Sending.{IsStart, Starts, new_piece, sent}
pub use Rattle.machine.specs.State.{State, opening}
pub use Rattle.machine.specs.Step.{Run, Step, as_label}
pub use Rattle.machine.specs.declared.ClientRequest.{ClientRequest}
pub use Rattle.machine.specs.declared.Label.{Label}
pub use Rattle.machine_laws.specs.Along.{Always}
pub use Rattle.machine_laws.specs.Booked.{AreOfActs, JournalsCloseRuns}
pub use Rattle.machine_laws.specs.EndLaws.{IsEmpty, RemovedAreEmpty}
pub use Rattle.machine_laws.specs.NumberLaws.{CallsCount, IsNoAnswerOf, IsNoCallOf, awaited, call_numbers}
pub use Rattle.machine_laws.specs.Reached.{RunsSplit}
pub use Rattle.ntstatus.specs.declared.NtStatus.{NtStatus}
pub use Rattle.ntstatus.specs.declared.NtStatus.TheVariants.{Success}
pub use Rattle.remove_lock.specs.declared.rule.View.{View}
pub use Rattle.sector.specs.Extents.{IsSector}
pub use Rattle.sector.specs.declared.Extent.{Extent}
pub use Rattle.sector_journal.proofs.Kept.{replays_first}
pub use Rattle.sector_journal.specs.Journal.{JournalView, entries_in, entries_of}
pub use Rattle.sector_journal.specs.declared.acted.Entered.{Entered}
pub use Rattle.srb.specs.Replaying.{Replays}
pub use Rattle.srb.specs.declared.DeviceLabel.{DeviceLabel}
pub use Rattle.srb.specs.declared.Entry.{Entry}
pub use Rattle.srb.specs.declared.Kind.{Kind}
pub use Rattle.std.proofs.Common.{Bool, List, Option, Some, [], ap, append_assoc, arith, false, if◌then◌else◌, length, map, refl, replicate, subst, suc, sym, true, zero, ℕ, ◌&&◌, ◌++◌, ◌+◌, ◌-◌, ◌<◌, ◌==◌, ◌∙◌, ◌∷◌, ◌≡◌, ◌≢◌, ◌≤◌}
pub use Rattle.std.proofs.Math.Seq.{get_or-append_seam}
pub use Rattle.std.proofs.lemmas.Bool.Decides.{nat_tests}
pub use Rattle.std.proofs.lemmas.List.{append-nil, get_or_append_left, length-replicate, take-append-drop}
pub use Rattle.std.proofs.lemmas.List.Elements.{All-append, All-cons, All-drop, All-head, All-nil, All-replicate, All-tail, All-take, All-weaker}
pub use Rattle.std.proofs.lemmas.List.Sorted.{All-permutation, IsPermutation-sym}
pub use Rattle.std.proofs.lemmas.Option.{slice_get-get_or, slice_get_read, slice_get_within}
pub use Rattle.std.specs.Borrow.{MutBor}
pub use Rattle.std.specs.List.{list_any}
pub use Rattle.std.specs.Prelude.{Err, IfOk, IfSome, Ok, Result, drop, slice_get, slice_index_or, take}
pub use Rattle.std.specs.Vec.Iter.{into_iter_items, into_iter_len}
pub use Rattle.traced.specs.Entries.{AreRowed, HasOwner, calls, entry, is_call, is_row, owner_of, row_of}
pub use Rattle.traced.specs.Opening.{AreOpened, IsNew, IsOpenOn}
pub use Rattle.traced.specs.Log.{LogView, noted, noted_all, owners_after}
pub use Rattle.traced.specs.Rows.{RowView}
pub use Rattle.traced.specs.Serving.{is_handle_event, open_at}
pub use Rattle.traced.specs.Shares.{ShareView}
pub use Rattle.traced.specs.Sizes.{AreSizes, sizes_of}
pub use Rattle.traced.specs.Told.{AreNoCalls}
pub use Rattle.traced.specs.Traced.{AreLooked, AreRowsOf, CarriesSeen, IsCarried, IsLooked, IsServed, IsTraced, TracedView, may_want, log_of}
pub use Rattle.traced.specs.declared.TraceEntry.{TraceEntry}
pub use Rattle.traced.specs.declared.sizes.StackSizes.{StackSizes}
