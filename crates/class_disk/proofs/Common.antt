-- What the proofs of this crate import, in one place.
pub use Rattle.adapter.proofs.Booked.{books_sectors, books_tags}
pub use Rattle.adapter.proofs.Joining.{moves_joined, moves_none, reserves_none}
pub use Rattle.adapter.specs.Booking.{with_booked}
pub use Rattle.adapter.specs.View.{AdapterView, MovesByAll, ReservesMore, TagInUse}
pub use Rattle.cdb.specs.Meaning.{IsPlain, Means}
pub use Rattle.class_disk.specs.Opening.{IsFreshPort, TakesParts, most_over}
pub use Rattle.class_disk.specs.Shown.{IsPort, class_rules}
pub use Rattle.class_disk.specs.declared.Sizes.{Sizes}
pub use Rattle.class_disk.specs.declared.noted.Noted.{Noted}
pub use Rattle.class_disk.specs.declared.parts.Outcome.{Outcome}
pub use Rattle.class_disk.specs.declared.parts.PartId.{PartId}
pub use Rattle.class_disk.specs.declared.parts.Place.{Place}
pub use Rattle.class_disk.specs.declared.parts.Progress.{Progress}
pub use Rattle.class_disk.specs.declared.parts.Progress.TheVariants.{Ready}
pub use Rattle.class_disk.specs.declared.parts.TransferPacket.{TransferPacket}
pub use Rattle.class_disk.specs.declared.parts.Way.{Way}
pub use Rattle.class_disk.specs.declared.parts.Way.TheVariants.{Returned, Unsent}
pub use Rattle.class_disk.specs.declared.requests.Places.{Places}
pub use Rattle.class_disk.specs.declared.requests.Slot.{Slot}
pub use Rattle.class_disk.specs.declared.requests.Slot.TheVariants.{Open}
pub use Rattle.class_disk.specs.declared.requests.Transfer.{Transfer}
pub use Rattle.class_disk.specs.declared.table.Table.{Table}
pub use Rattle.class_disk.specs.inside.Blocks.{AreSizes, FitsBlock, IsOwnPacket, IsWholeDisk, data_length, disk_command, goes_whole, part_count_of, part_request_of, requests_for}
pub use Rattle.class_disk.specs.inside.Driver.{AreAsked, AreBelow, AreKept, AreSpotted, AsksUnder, HaveCauses, IsAsked, IsAskedBy, IsBuffered, IsBufferedBy, IsCause, IsCauseBy, IsCoupled, IsInHand, IsOpen, IsReadyBy, IsReadyPart, IsSpotted, IsSpottedBy, IsWritten, IsWrittenBy, WentAs, WentInTurn, busy_left, known, knowns, marks_left, note, note_by, packet_above, places_of, request_of_part, tickets, tickets_held, tickets_open, view_of}
pub use Rattle.class_disk.specs.inside.DuringACall.{AreNewParts, CanCut, CanSendAgain, CanSendPart, CanSubmit, CancelsAll, CancelsBelow, FindsNone, GoesOn, IsMidway, IsNewPart, IsOpening, IsTaking, MakesNone, MakesParts, MakesRoom, OpeningSoFar, SendsAll, SendsDown, SendsDownAgain, StaysOwned, StaysTaken, TakesAll, TakesOne, packet_of_part}
pub use Rattle.class_disk.specs.inside.Invariant.{AgreesOnCancel, AreCut, AreParts, EndedAre, EndedBy, EndsUnsent, HasPartBefore, HasSome, IsAhead, IsCancelledAs, IsIfEnded, IsInPieces, IsMadeUp, IsNothing, IsOver, IsOverMark, IsOverNote, IsSound, IsUntouched, Keeps, NeverSent, begins_back, noted_busy, one_if_back, parts_back, places_in}
pub use Rattle.class_disk.specs.inside.Joint.{Divided, IsPartOf, Joint, Kept, Known, Note, Sent, above, below, known_of, lifted_pieces, note_of, parts_busy, parts_marks, parts_requests, pieces_above, pieces_below, requests_below, shown, shown_mark}
pub use Rattle.class_disk.specs.inside.Machine.{divided_of, is_owned_by, joint_of, open_under, part_of, shown_state}
pub use Rattle.class_disk.specs.inside.Owners.{AreOwnedFrom, KeepsOwners, owner_at, place_at, slot_at}
pub use Rattle.class_disk.specs.inside.Parts.{AreLeft, EndsAs, EndsBack, GoesAgain, HasBuffers, HasReason, HoldsData, IsBufferOf, IsDown, IsHere, IsHereBy, below_by, bytes_by, failure_by, failure_of, given_by, given_of, joined_of, lowest_status, own_length, payload_in, restarts_of, status_by, status_or, ticket_for, unfinished_by, unfinished_of}
pub use Rattle.class_disk.specs.inside.PortRules.{below_rules}
pub use Rattle.class_disk.specs.inside.Rooms.{AllOut}
pub use Rattle.class_disk.specs.inside.TableCalls.{AddsNoSlot, AddsSlot, CanCancelAt, CanSend, CanTake, CancelsAtSlot, CancelsNoneAt, CannotCancel, CannotCancelAt, Completes, IsDataOf, IsPartAt, IsReadyAt, OpensAt, RemovesSlot, SendsAgain, SendsAs, SendsPart, SendsPartAgain, TakesEnded, TakesNone, again_part, bytes_from, can_cancel, cancelled_one, empty_books, ended_at, ended_books, ended_part, given_up, is_cancellable, joined_up, new_opened, payload_up, sent_opened, sent_part}
pub use Rattle.class_disk.specs.inside.TableView.{ClosedSlot, HasPlaceForMore, IsVacantFor, Opened, PutsBack, TableView, TakesOut, all_open, before, books_of, ended_in, held_as, held_from, is_whole, open_at, open_from, opened, opened_of, payload_of, put_at, reserved_for, room_in_all, room_of, rooms_from}
pub use Rattle.device.proofs.Bounded.{carries_bytes, not_refused, sectors_are}
pub use Rattle.device.proofs.Reserving.{home_further, near_after, near_part, near_same, packets_apart}
pub use Rattle.device.specs.Climbing.{Climbs, FinishesPacket}
pub use Rattle.device.specs.Served.{ActsNot, ActsOrFaults, AwaitsRestart, AwaitsRestartIfEnded, BooksPiece, CancelsAt, CancelsIfOpen, DrainsAll, Finishes, FinishesNot, ForgetsLabels, Frees, HandsUp, HandsUpNone, HasOtherNumber, HasOtherSpot, IsActOrFault, IsAt, IsBeside, IsFreshOn, Moves, NoneToCancel, Reserves, ReservesNear, ReservesNone, ReservesSpot, Resets, SamePlaces, SameRooms, SetsRoom, StaysOpen, Submits, TakesLabel, cut, fault_of, is_fresh_piece, piece_tag, sectors_moved}
pub use Rattle.device.specs.View.{AsksFor, AsksInLocation, Carries, DeviceView, IsBounded, IsOffRooms, IsOrderly, IsReady, IsReserved, IsTopmost, OnTag, Packet, WaitsForTag, direction, label_places, packet_number, packet_of, packet_spot, payload_bytes, piece_on_tag, request_at, request_of, room_at, sectors_asked, sent_bytes, transfer_length, use_on_tag, whole_for}
pub use Rattle.device.specs.declared.climbing.Climb.{Climb}
pub use Rattle.device.specs.declared.climbing.Climb.TheVariants.{Finished, Routine}
pub use Rattle.device.specs.declared.layer.Room.{Room}
pub use Rattle.device.specs.inside.Out.{IsGood, Ticket, ticket_spot}
pub use Rattle.irp.specs.declared.Irp.{Irp}
pub use Rattle.irp.specs.declared.Payload.{Payload}
pub use Rattle.irp.specs.declared.Payload.TheVariants.{Buffer}
pub use Rattle.irp.specs.declared.StackLocation.{StackLocation}
pub use Rattle.machine.proofs.Commuting.{out_ends_not, started_marks, untouched_ends_not}
pub use Rattle.machine.proofs.Counted.{AreCounted-Answers, AreCounted-Cancels, AreCounted-Opens, AreCounted-Run, AreCounted-opening, AreCounted-same, ComesBackWhole, comes_back_whole}
pub use Rattle.machine.proofs.Earned.{HaveEarned-Answers, HaveEarned-DeviceStep, HaveEarned-Opens, HaveEarned-Step, HaveEarned-opening}
pub use Rattle.machine.proofs.Numbers.{AreDistinct-Admits, AreDistinct-DeviceStep, AreDistinct-Run, AreDistinct-Step, AreDistinct-opening, AreDistinct-same, requests_in_order}
pub use Rattle.machine.proofs.OnePiece.{AreOnePiece-Answers, AreOnePiece-DeviceStep, AreOnePiece-Opens, AreOnePiece-Step, AreOnePiece-opening}
pub use Rattle.machine.proofs.Owners.{Owns, owns}
pub use Rattle.machine.proofs.Permuting.{All-changed, IsPermutation-uncons, distinct_first, first_unique}
pub use Rattle.machine.proofs.Placed.{ArePlaced-Answers, ArePlaced-DeviceStep, ArePlaced-Opens, ArePlaced-Step, ArePlaced-opening, ArePlaced-same, get_or-splice_inside, leaves}
pub use Rattle.machine.proofs.Places.{taken_in}
pub use Rattle.machine.proofs.Same.{Any-permutation, DeviceStep-same, IsSame-refl, IsSame-sym, IsSame-trans, Run-append, Run-same, Step-same, none_there}
pub use Rattle.machine.specs.Answering.{Answers, Cause, HasCause, HasEnded, IsGivenUp, answer_bytes, bytes_of_mark, information, is_done}
pub use Rattle.machine.specs.Calling.{Opens, bytes_carried, new_request, refusal}
pub use Rattle.machine.specs.Cutting.{mark_at, restarts}
pub use Rattle.machine.specs.Holding.{Cancels, as_cancelled, held_back}
pub use Rattle.machine.specs.Marks.{AreCounted, HasAlike, HasEarned, IsAll, IsAllOf, IsBusyBy, IsCounted, IsEarned, IsLike}
pub use Rattle.machine.specs.Numbers.{AreDistinct, HasPlaces, HavePlaces, IsGiven, request_number}
pub use Rattle.machine.specs.Pieces.{IsPlaced}
pub use Rattle.machine.specs.Rules.{Rules, as_client, first_sector, home, is_transfer, place_count, sectors_of}
pub use Rattle.machine.specs.Sending.{HasTag, IsLowestFreeTag, IsSendable, IsStart, IsUnsent, IsWholeRequest, LeavesMarks, Returns, Starts, command_for, flush_command, given_back, is_started, is_unsent, is_untouched, new_piece, one_if_busy, read_command, sent, status_of_completion, with_fate, write_command}
pub use Rattle.machine.specs.Settled.{HasGone, IsAllSent, IsWithin, Settled, started_count}
pub use Rattle.machine.specs.Solo.{all_places}
pub use Rattle.machine.specs.State.{Back, Done, Failed, IsSame, Mark, OpenRequest, Out, Piece, State, Untouched, opening, with_marks}
pub use Rattle.machine.specs.Step.{DeviceStep, Run, Step, as_label}
pub use Rattle.machine.specs.declared.ClientRequest.{ClientRequest}
pub use Rattle.machine.specs.declared.Label.TheVariants.{Answer, Cancel}
pub use Rattle.machine.specs.declared.Request.{Request}
pub use Rattle.ntstatus.specs.declared.NtStatus.{NtStatus}
pub use Rattle.ntstatus.specs.declared.NtStatus.TheVariants.{Cancelled, DeletePending, DeviceBusy, NoSuchDevice, Success}
pub use Rattle.sector.proofs.Splicing.{length-splice}
pub use Rattle.sector.specs.Extents.{IsIn, sectors_in}
pub use Rattle.sector.specs.Splice.{splice}
pub use Rattle.sector.specs.declared.Extent.{Extent}
pub use Rattle.slab.proofs.SlabLemmas.{Contains-cons, Contains-entries}
pub use Rattle.slab.specs.Slab.{Slab, Updates, entries_from, get, slab_len}
pub use Rattle.split.specs.Pieces.{piece_of}
pub use Rattle.srb.specs.Fate.{Acted, Fate, Faulted, Fresh, is_fresh}
pub use Rattle.srb.specs.declared.Class.{Class}
pub use Rattle.srb.specs.declared.Completion.{Completion}
pub use Rattle.srb.specs.declared.DeviceLabel.{DeviceLabel}
pub use Rattle.srb.specs.declared.DeviceLabel.TheVariants.{Act, Fault, Return, Start}
pub use Rattle.srb.specs.declared.Entry.{Entry}
pub use Rattle.srb.specs.declared.Kind.{Kind}
pub use Rattle.srb.specs.declared.Kind.TheVariants.{Flush, Read, Write}
pub use Rattle.srb.specs.declared.Srb.{Srb}
pub use Rattle.srb.specs.declared.SrbFunction.TheVariants.{ExecuteScsi}
pub use Rattle.std.proofs.Common.{Bool, List, MutBor, [], ap, arith, cond, drop, false, inl, inr, length, map, refl, replicate, rules, subst, suc, sym, take, true, zero, ℕ, ◌*◌, ◌++◌, ◌+◌, ◌-◌, ◌==◌, ◌∙◌, ◌∷◌, ◌≡◌, ◌≢◌, ◌≤◌, ◌⊎◌}
pub use Rattle.std.proofs.Math.Nat.{add-div_left, add-mod_left, div-eq_of_eq-mul_left, div-eq_of_lt, mod-add-div', mod-eq_of_lt, mod-lt, mod_self, mul-div_cancel, mul-le-mul_left, mul-le-mul_right, mul-mod_left}
pub use Rattle.std.proofs.Math.Seq.{drop-append-add, drop-nil, take-append-add, take-append_seam}
pub use Rattle.std.proofs.lemmas.Bool.{cases_Bool, eqb-false, eqb-true, ne_eqb}
pub use Rattle.std.proofs.lemmas.Bool.Decides.{nat_tests}
pub use Rattle.std.proofs.lemmas.List.{drop-append-le, drop-map, drop-take, get_or-append-add, get_or-map, get_or-replicate, get_or_append_left, length-map, length-replicate, length_push, map-append, take-append-le, take-map}
pub use Rattle.std.proofs.lemmas.List.Elements.{All-append, All-cons, All-contains, All-head, All-map, All-nil, All-pop, All-replicate, All-tail, All-weaker, Contains-append_cases, Contains-append_left, Contains-append_right, Contains-get_or, filter-append}
pub use Rattle.std.proofs.lemmas.List.Sorted.{All-permutation, Contains-permutation, IsPermutation-append, IsPermutation-append_comm, IsPermutation-append_left, IsPermutation-append_right, IsPermutation-cons, IsPermutation-map, IsPermutation-middle, IsPermutation-refl, IsPermutation-remove, IsPermutation-sym, IsPermutation-trans, length_permutation, sum_by-IsPermutation}
pub use Rattle.std.proofs.lemmas.List.Sums.{sum_by-cons}
pub use Rattle.std.proofs.lemmas.Map.Keys.{IsDistinct-IsPermutation, IsDistinct-cons}
pub use Rattle.std.proofs.lemmas.Option.{get_or_from_slice_get, slice_get_within}
pub use Rattle.std.specs.Global.{Box}
pub use Rattle.std.specs.List.{AllByRecursion, IsDistinct, concat, list_all, list_any, range_with_len, remove}
pub use Rattle.std.specs.List.Sorted.{IsStrictlyIncreasing}
pub use Rattle.std.specs.Option.{option_copied}
pub use Rattle.std.specs.Prelude.{IsFalse, IsPermutation, slice_get, slice_range}
pub use Rattle.std.specs.VecDeque.{deque_capacity}
