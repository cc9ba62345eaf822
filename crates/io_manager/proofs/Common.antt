-- What the proofs of this crate import, in one place.
pub use Rattle.adapter.proofs.Booked.{books_labels}
pub use Rattle.adapter.proofs.Joining.{moves_joined, reserves_none}
pub use Rattle.adapter.specs.Booking.{IsArmed, booked_on, with_booked, with_booking}
pub use Rattle.adapter.specs.Calls.{HasNoneFresh, tag_of}
pub use Rattle.adapter.specs.Performing.{CarriesOut}
pub use Rattle.adapter.specs.View.{AdapterView, HaveOtherTags, IsInOrder, MovesByAll, MovesOn, NotesReset, ReservesMore, TagInUse, acted, faulted, in_use_from, met_by_reset}
pub use Rattle.cdb.proofs.Once.{means_once}
pub use Rattle.cdb.specs.Meaning.{AsksToWrite, IsPlain, Means}
pub use Rattle.cdb.specs.declared.Cdb.{Cdb}
pub use Rattle.cdb.specs.declared.Cdb.TheVariants.{Read10, Read16, ReadCapacity10, ReadCapacity16, Sync10, Sync16, Write10, Write16}
pub use Rattle.device.proofs.Reserving.{near_same}
pub use Rattle.device.specs.Served.{ActsNot, ActsOrFaults, CancelsAt, DrainsAll, Finishes, FinishesNot, Frees, HandsUp, IsActOrFault, IsBeside, Moves, PausesAll, Reserves, ReservesNear, ReservesNone, Resets, ResumesAll, SameRooms, SetsRoom, StaysIfStarted, Submits, fault_of}
pub use Rattle.device.specs.View.{AsksInLocation, Carries, DeviceView, IsBounded, IsOrderly, IsRead, IsTopmost, KeepsOutside, OnTag, Packet, Reserved, packet_number, packet_of, payload_bytes, piece_on_tag, request_at, room_at, sectors_asked, sent_bytes, transfer_length, use_on_tag, whole_for}
pub use Rattle.device.specs.declared.climbing.Climb.{Climb}
pub use Rattle.device.specs.declared.climbing.Climb.TheVariants.{Finished, Routine}
pub use Rattle.io_manager.specs.Calls.{Need, are_used_up, bytes_called, call_on, disk_extent, handle_limit, number_limit, open_refusal, opened_as, partition_at, partition_of, reserved_by, status_of_refusal, without_bytes, would_open}
pub use Rattle.io_manager.specs.Opening.{AreEmpty, AreFirsts, AreFor, HasNoRooms, IsFirstView, IsUnasked, rules_of}
pub use Rattle.io_manager.specs.Right.{ActReplies, AdapterMoves, AreRising, BooksPiece, CallReplies, CancelReplies, CloseReplies, FinishReplies, FitsTogether, HasSlot, IsAbove, IsHandleOpen, IsInvalid, IsNextAnswer, IsOfAnother, IsOnTag, IsRecalled, IsRight, IsRightBy, IsRightReset, MarkReplies, OpenReplies, PnpReplies, RecallReplies, Refuses, ReservesFor, SameHandles, SamePlacesUnless, TakesLabel, TakesShown, TellsOne, Told, TransferReplies, answer_number, as_answer, as_cancel, end_labels, is_answer_of, labels_of, pnp_state, tells_nothing, unless_answered}
pub use Rattle.io_manager.specs.Shown.{Holder, ManagerView}
pub use Rattle.io_manager.specs.declared.Asked.{Asked}
pub use Rattle.io_manager.specs.declared.Handle.{Handle}
pub use Rattle.io_manager.specs.declared.Id.{Id}
pub use Rattle.io_manager.specs.declared.Limits.{Limits}
pub use Rattle.io_manager.specs.declared.OpenHandle.{OpenHandle}
pub use Rattle.io_manager.specs.declared.Refusal.{Refusal}
pub use Rattle.io_manager.specs.declared.Refusal.TheVariants.{DeviceBusy, InsufficientResources, InvalidDeviceRequest, InvalidHandle, NotFound}
pub use Rattle.io_manager.specs.declared.Reply.{Reply}
pub use Rattle.io_manager.specs.declared.Reply.TheVariants.{Refused}
pub use Rattle.io_manager.specs.declared.admission.AtOnce.{AtOnce}
pub use Rattle.io_manager.specs.declared.admission.LabelBytes.{LabelBytes}
pub use Rattle.io_manager.specs.declared.cancelling.PacketBelow.{PacketBelow}
pub use Rattle.io_manager.specs.declared.chains.Chains.{Chains}
pub use Rattle.io_manager.specs.declared.tables.Tables.{Tables}
pub use Rattle.io_manager.specs.inside.Admitting.{AnswersAtOnce, IsAdmissible, OpensHandle, answer_room_of, asked_for, first_location, handle_refusal, is_going, reply_at_once, status_at_once}
pub use Rattle.io_manager.specs.inside.Cancelling.{CancelsAll, CancelsSlot, CancelsUnlessMarked, ClosesSlot, HasNoneOf, HasNoneToMark, HasSome, IsBelowUnmarked, IsLowestToMark, IsNotOpenAt, IsOpenAt, IsUnmarked, MarksAt, as_marked}
pub use Rattle.io_manager.specs.inside.Chains.{AreChained, AreCounted, AreEnds, AreLinked, AreNumbered, CanJoin, CanLeave, IsChain, IsJoint, IsLowestFrom, IsNextFrom, IsNumbered, IsOpenIn, IsWaiting, LeadsTo, PutsLast, TakesOut, chain_end, count_open, of_handle, remainder_of}
pub use Rattle.io_manager.specs.inside.Completion.{AreFilled, Closes, EndsRemoval, Gathers, HasNone, TakesEnded, answer_for, brought, done_of, shown_label, unlabelled}
pub use Rattle.io_manager.specs.inside.Inside.{AllWriteInside, LieIn, WritesInside}
pub use Rattle.io_manager.specs.inside.Ordering.{inserted, lower_first}
pub use Rattle.io_manager.specs.inside.Queue.{QueueView, SameQueue, TakesFirst, answer_in_memory}
pub use Rattle.io_manager.specs.inside.Removal.{Does, MayDo, RequestReplies, label_of}
pub use Rattle.io_manager.specs.inside.Sound.{AreApart, AreHeld, EndsIf, EndsInRange, FitsBelow, HasNoneToStart, IsHeldAt, IsInState, IsKeptBack, IsSoundWith, ManagerKept, TakesLabels, WasGiven, shown_state, view_of}
pub use Rattle.irp.specs.declared.Driver.{Driver}
pub use Rattle.irp.specs.declared.Irp.{Irp}
pub use Rattle.irp.specs.declared.Payload.{Payload}
pub use Rattle.irp.specs.declared.StackLocation.{StackLocation}
pub use Rattle.machine.proofs.Commuting.{Answers-swap, HasPlaces-with_marks, Start-first, out_ends_not, swapped}
pub use Rattle.machine.proofs.Permuting.{All-changed, distinct_first, is_first}
pub use Rattle.machine.proofs.Placed.{get_or-splice_above, get_or-splice_below, get_or-splice_inside}
pub use Rattle.machine.proofs.Places.{IsTakenIn, taken_in}
pub use Rattle.machine.proofs.Same.{AnswersWith-same, IsSame-refl, IsSame-sym, Run-append, Run-same}
pub use Rattle.machine.proofs.Settling.{Settled-same}
pub use Rattle.machine.specs.Answering.{Answers, AnswersWith, Cause, HasCause, HasEnded, answer_bytes, information, is_done}
pub use Rattle.machine.specs.Bare.{in_memory}
pub use Rattle.machine.specs.Calling.{AnswersRefused, Opens, new_request, refusal}
pub use Rattle.machine.specs.Holding.{Cancels, Pauses, as_cancelled, as_timely, beyond, held_back}
pub use Rattle.machine.specs.Map.{IsPartition}
pub use Rattle.machine.specs.Numbers.{AreDistinct, HavePlaces, IsGiven, request_number}
pub use Rattle.machine.specs.Rules.{Rules, as_client, first_sector, home, is_in_bounds, is_transfer, place_count, sectors_of}
pub use Rattle.machine.specs.Sending.{HasOtherTag, IsFreshPiece, IsSendable, IsStart, IsUnsent, Starts, Transfers, command_for, given_back, is_started, is_untouched, partition_number, sent}
pub use Rattle.machine.specs.Settled.{HasGone, HasMore, IsAllSent, IsAtWork, IsFinished, IsFull, IsHeld, IsHeldBack, IsWithin, Settled, Waits, WaitsIfCancelled, has_out, is_out, started_count}
pub use Rattle.machine.specs.Solo.{past}
pub use Rattle.machine.specs.State.{IsSame, Piece, State, opening}
pub use Rattle.machine.specs.Step.{DeviceStep, FreeStep, OwingStep, Run, as_label}
pub use Rattle.machine.specs.Window.{IsTimely}
pub use Rattle.machine.specs.declared.ClientRequest.{ClientRequest}
pub use Rattle.machine.specs.declared.Label.{Label}
pub use Rattle.machine.specs.declared.Label.TheVariants.{Call, Cancel, Pause, Remove, Resume, Surprise}
pub use Rattle.machine_laws.proofs.DiskMap.{length-part, slice_is_part}
pub use Rattle.machine_laws.proofs.Serving.{IsSized}
pub use Rattle.machine_laws.proofs.Sound.{IsSound-Run, IsSound-reached}
pub use Rattle.machine_laws.specs.Reached.{AreWhole, IsReached}
pub use Rattle.ntstatus.proofs.First.{none_first}
pub use Rattle.ntstatus.specs.First.{first_some, when}
pub use Rattle.ntstatus.specs.declared.NtStatus.{NtStatus}
pub use Rattle.ntstatus.specs.declared.NtStatus.TheVariants.{Success}
pub use Rattle.pnp.specs.Table.{event_of, next}
pub use Rattle.pnp.specs.declared.State.TheVariants.{Removing, Started}
pub use Rattle.sector.proofs.Splicing.{length-splice}
pub use Rattle.sector.specs.Extents.{IsIn, sectors_in}
pub use Rattle.sector.specs.Splice.{splice}
pub use Rattle.sector.specs.declared.Extent.{Extent}
pub use Rattle.slab.proofs.SlabLemmas.{Contains-cons}
pub use Rattle.slab.specs.Slab.{Slab, get, slab_len}
pub use Rattle.srb.specs.declared.Completion.{Completion}
pub use Rattle.srb.specs.declared.DeviceLabel.{DeviceLabel}
pub use Rattle.srb.specs.declared.DeviceLabel.TheVariants.{Act, Fault, Return, Start}
pub use Rattle.srb.specs.declared.Entry.{Entry}
pub use Rattle.srb.specs.declared.Kind.{Kind}
pub use Rattle.srb.specs.declared.Kind.TheVariants.{Flush, Read, Write}
pub use Rattle.srb.specs.declared.Srb.{Srb}
pub use Rattle.std.proofs.Common.{Bool, List, None, [], ap, arith, false, inl, inr, map, refl, rules, subst, sym, take, true, ℕ, ◌++◌, ◌+◌, ◌/◌, ◌<◌, ◌^◌, ◌∙◌, ◌∷◌, ◌≡◌, ◌≢◌, ◌≤◌, ◌⊎◌}
pub use Rattle.std.proofs.Math.Bool.{or-true}
pub use Rattle.std.proofs.Math.Nat.{mod-add-div', zero-div, zero-mul}
pub use Rattle.std.proofs.Math.Seq.{drop-append_seam, map-set_same, take-append_seam}
pub use Rattle.std.proofs.lemmas.Bool.{and_parts, cases_eq, cases_lt, leb-false, leb-true, ltb-false, not-false}
pub use Rattle.std.proofs.lemmas.Bool.Decides.{Decides-eqb, nat_tests}
pub use Rattle.std.proofs.lemmas.Cmp.{nat_eq_equiv}
pub use Rattle.std.proofs.lemmas.List.{append-nil, drop_all, get_or-set_other, get_or-set_same, length-drop, length-map, length-replicate, length-set, map-append, take_all}
pub use Rattle.std.proofs.lemmas.List.Edits.{get_or-between, length-between}
pub use Rattle.std.proofs.lemmas.List.Elements.{All-append, All-cons, All-contains, All-get_or, All-head, All-map, All-nil, All-tail, All-weaker, Contains-append_cases, Contains-append_left, Contains-append_right}
pub use Rattle.std.proofs.lemmas.List.FromFn.{get_or-range_with_len, length-range_with_len}
pub use Rattle.std.proofs.lemmas.List.Kept.{AllPairs-cons}
pub use Rattle.std.proofs.lemmas.List.Sorted.{All-permutation, Contains-permutation, IsPermutation-append_left, IsPermutation-cons, IsPermutation-map, IsPermutation-refl, IsPermutation-remove, IsPermutation-sym, IsPermutation-trans, length_permutation, list_any-IsPermutation, sum_by-IsPermutation}
pub use Rattle.std.proofs.lemmas.List.Sums.{sum_by-cons}
pub use Rattle.std.proofs.lemmas.Map.Made.{IsDistinct-from_AllPairs, is_member-Decides, length-le_from_is_member}
pub use Rattle.std.proofs.lemmas.Nat.{mod_below}
pub use Rattle.std.proofs.lemmas.Option.{slice_get-get_or, slice_get_past}
pub use Rattle.std.specs.Borrow.{Bor}
pub use Rattle.std.specs.Global.{Box}
pub use Rattle.std.specs.Int.{div_ceil}
pub use Rattle.std.specs.List.{HoldsAt, IsDistinct, list_all, list_any, range_with_len}
pub use Rattle.std.specs.Prelude.{IfOk, IsNone, IsPermutation, MatchBool, OnErr, count_by, is_some, nat_le, slice_get, slice_index, slice_set}
pub use Rattle.std.specs.Result.{result_ok}
pub use Rattle.std.specs.Set.{is_member}
pub use Rattle.std.specs.VecDeque.{deque_capacity, deque_len}
