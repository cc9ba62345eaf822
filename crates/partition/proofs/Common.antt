-- What the proofs of this crate import, in one place.
pub use Rattle.adapter.specs.View.{AdapterView, ReservesMore}
pub use Rattle.cdb.specs.Meaning.{IsPlain, Means}
pub use Rattle.device.proofs.Reserving.{home_of_whole, near_after}
pub use Rattle.device.proofs.Returning.{above_is, always_asks}
pub use Rattle.device.specs.Climbing.{BringsRoutine, Climbs}
pub use Rattle.device.specs.Served.{ActsNot, ActsOrFaults, AwaitsRestart, AwaitsRestartIfEnded, BooksPiece, CancelsAt, CancelsIfOpen, DrainsAll, Finishes, FinishesNot, ForgetsLabels, Frees, HandsUp, HandsUpNone, HasOtherNumber, HasOtherSpot, IsAt, IsBack, IsBeside, IsFreshOn, Moves, NoneToCancel, PausesAll, Reserves, ReservesNear, ReservesNone, ReservesSpot, Resets, ResumesAll, SameRooms, SetsRoom, StaysIfStarted, StaysOpen, Submits, TakesLabel, sectors_moved}
pub use Rattle.device.specs.View.{AsksInLocation, Carries, DeviceView, IsBounded, IsOffRooms, IsOrderly, IsRead, IsReady, IsSending, KeepsOutside, Packet, Reserved, WaitsForTag, major_of, packet_number, packet_of, packet_spot, payload_bytes, request_at, request_of, room_at, sectors_asked, sent_bytes, whole_command, whole_for}
pub use Rattle.device.specs.declared.climbing.Climb.{Climb}
pub use Rattle.device.specs.declared.climbing.Climb.TheVariants.{Finished, Routine}
pub use Rattle.irp.specs.Climb.{above, succeeds}
pub use Rattle.irp.specs.Packet.{HasOwn, KeepsAllButLocations, cancel_routine_of}
pub use Rattle.irp.specs.declared.CancelRoutine.{CancelRoutine}
pub use Rattle.irp.specs.declared.Driver.{Driver}
pub use Rattle.irp.specs.declared.Irp.{Irp}
pub use Rattle.irp.specs.declared.Payload.{Payload}
pub use Rattle.irp.specs.declared.StackLocation.{StackLocation}
pub use Rattle.machine.proofs.Numbers.{AreDistinct-Admits, AreDistinct-DeviceStep, AreDistinct-Step, AreDistinct-same}
pub use Rattle.machine.proofs.Owners.{Owns, owns}
pub use Rattle.machine.proofs.Permuting.{All-changed, distinct_first, flips}
pub use Rattle.machine.proofs.Placed.{ArePlaced-Answers, ArePlaced-DeviceStep, ArePlaced-Drains, ArePlaced-FreeStep, ArePlaced-Opens, ArePlaced-same, differ_first, get_or-splice_above, get_or-splice_below, leaves}
pub use Rattle.machine.proofs.Places.{IsTakenIn, taken_in}
pub use Rattle.machine.proofs.Same.{IsSame-refl, IsSame-sym}
pub use Rattle.machine.specs.Answering.{Answers, AnswersWith, Cause, HasCause, HasEnded, information}
pub use Rattle.machine.specs.Calling.{Opens, new_request, refusal}
pub use Rattle.machine.specs.Holding.{Cancels, Drains, Pauses, Resumes, as_cancelled, as_timely, beyond, held_back, is_lower}
pub use Rattle.machine.specs.Map.{IsMap, IsPartition}
pub use Rattle.machine.specs.Numbers.{AreDistinct, HasPlaces, IsGiven, request_number}
pub use Rattle.machine.specs.Pieces.{ArePlaced, IsPlaced}
pub use Rattle.machine.specs.Rules.{Rules, as_client, first_sector, home, is_in_bounds, is_transfer, place_count, sectors_of}
pub use Rattle.machine.specs.Sending.{Acts, IsFreshPiece, IsInTurn, Starts, Transfers, array_at, command_for, is_started, partition_number, read_command, write_command, written}
pub use Rattle.machine.specs.Settled.{HasGone, HasMore, IsAllSent, IsAtWork, IsFull, IsHeld, IsHeldBack, Settled, Waits, WaitsIfCancelled}
pub use Rattle.machine.specs.Solo.{all_places}
pub use Rattle.machine.specs.State.{Back, Done, Failed, IsSame, Mark, OpenRequest, Out, Piece, State, Untouched}
pub use Rattle.machine.specs.Step.{DeviceStep, Run, as_label}
pub use Rattle.machine.specs.declared.ClientRequest.{ClientRequest}
pub use Rattle.machine.specs.declared.Label.TheVariants.{Answer, Cancel, Pause, Resume}
pub use Rattle.machine.specs.declared.Request.{Request}
pub use Rattle.machine_laws.proofs.DiskMap.{count_at, home_at, home_inside, parts, read_at, write_at}
pub use Rattle.ntstatus.specs.declared.NtStatus.{NtStatus}
pub use Rattle.ntstatus.specs.declared.NtStatus.TheVariants.{Success}
pub use Rattle.partition.specs.OnDisk.{on_disk, rules_over}
pub use Rattle.partition.specs.Opening.{IsWholeDisk}
pub use Rattle.partition.specs.Shown.{as_called, called, on_partitions, packet_above, shown_of, view_of}
pub use Rattle.partition.specs.inside.Invariant.{ComesBack, IsKept, IsNotedAt, IsOnDisk, IsWantedFor, LiesInside}
pub use Rattle.partition.specs.inside.Noted.{asked, kind_in, noted_by, noted_in, noted_last, noting, passed_on}
pub use Rattle.partition.specs.inside.Rooms.{Notes, Wanted, first_of, for_wanted, others_of, rooms_for, rooms_with, wanted_at, wanted_by, with_rooms}
pub use Rattle.sector.proofs.Splicing.{length-splice}
pub use Rattle.sector.specs.Extents.{CoversMoreNear, IsIn, sectors_in}
pub use Rattle.sector.specs.Splice.{splice}
pub use Rattle.sector.specs.declared.Extent.{Extent}
pub use Rattle.srb.specs.declared.Completion.{Completion}
pub use Rattle.srb.specs.declared.DeviceLabel.{DeviceLabel}
pub use Rattle.srb.specs.declared.DeviceLabel.TheVariants.{Act, Fault, Return, Start}
pub use Rattle.srb.specs.declared.Entry.{Entry}
pub use Rattle.srb.specs.declared.Kind.{Kind}
pub use Rattle.srb.specs.declared.Kind.TheVariants.{Flush, Read, Write}
pub use Rattle.std.proofs.Common.{Bool, Err, List, None, Option, Some, [], add-zero, ap, arith, bit_and, cond, drop, eqb, false, get_or, inl, inr, length, length-append, map, refl, rules, subst, suc, sym, take, true, zero, ℕ, ◌*◌, ◌++◌, ◌+◌, ◌-◌, ◌/◌, ◌<◌, ◌==◌, ◌^◌, ◌∙◌, ◌∷◌, ◌≡◌, ◌≢◌, ◌≤◌}
pub use Rattle.std.proofs.Math.Nat.{mul-div_cancel, mul-mod_left}
pub use Rattle.std.proofs.Math.Seq.{take-length}
pub use Rattle.std.proofs.lemmas.Bool.{cases_eq, cases_lt}
pub use Rattle.std.proofs.lemmas.Bool.Decides.{nat_tests}
pub use Rattle.std.proofs.lemmas.Grind.{common_steps}
pub use Rattle.std.proofs.lemmas.List.{get_or-map, length-map, length-replicate}
pub use Rattle.std.proofs.lemmas.List.Elements.{All-cons, All-contains, All-head, All-map, All-nil, All-tail, All-weaker, Contains-get_or}
pub use Rattle.std.proofs.lemmas.List.Sorted.{All-permutation, Contains-permutation, IsPermutation-map, IsPermutation-refl, IsPermutation-remove, IsPermutation-sym}
pub use Rattle.std.proofs.lemmas.List.Sums.{sum_by-cons}
pub use Rattle.std.proofs.lemmas.Map.Keys.{IsDistinct-IsPermutation, IsDistinct-tail}
pub use Rattle.std.proofs.lemmas.Nat.{mul-le}
pub use Rattle.std.proofs.lemmas.Option.{slice_get-get_or, slice_get_past}
pub use Rattle.std.specs.Global.{Box}
pub use Rattle.std.specs.List.{IsDistinct, remove}
pub use Rattle.std.specs.Prelude.{All, Any, Contains, IsNone, IsPermutation, IsTrue, MatchBool, if◌then◌else◌, slice_get, slice_index_or, slice_range, slice_set, unwrap_or, vec_capacity}
