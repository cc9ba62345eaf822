-- What the proofs of this crate import, in one place.
pub use Rattle.adapter.proofs.Joining.{moves_joined, moves_none}
pub use Rattle.adapter.specs.View.{AdapterView, ReservesMore}
pub use Rattle.arrayvec.specs.ArrayVec.{array_vec_len}
pub use Rattle.device.proofs.Bounded.{by_kind, carries_bytes, carries_none, has_length, in_bounds, sectors_are}
pub use Rattle.device.proofs.Reserving.{near_after}
pub use Rattle.device.proofs.Returning.{above_is, passes_by}
pub use Rattle.device.specs.Climbing.{Climbs}
pub use Rattle.device.specs.Served.{ActsNot, ActsOrFaults, AwaitsRestart, AwaitsRestartIfEnded, BooksPiece, CancelsAt, CancelsIfOpen, DrainsAll, Finishes, FinishesNot, ForgetsLabels, Frees, HandsUp, HandsUpNone, HasOtherNumber, HasOtherSpot, IsAt, IsBack, IsBeside, Moves, NoneToCancel, PausesAll, Reserves, ReservesNear, ReservesNone, ReservesSpot, Resets, ResumesAll, SameRooms, SetsRoom, StaysIfStarted, StaysOpen, Submits, TakesLabel}
pub use Rattle.device.specs.View.{AsksInLocation, Carries, DeviceView, IsBounded, IsOffRooms, IsOrderly, IsReady, IsReserved, Packet, Reserved, WaitsForTag, major_of, no_request, packet_number, packet_of, packet_spot, request_at, request_of, room_at, sent_bytes, whole_for}
pub use Rattle.device.specs.declared.Climb.{Climb}
pub use Rattle.device.specs.declared.Room.{Room}
pub use Rattle.hold_filter.specs.Opening.{IsFreshBelow, opening_over, stack_over}
pub use Rattle.hold_filter.specs.Shown.{CancelsHeld, FilterView, HoldsNone, Queued}
pub use Rattle.hold_filter.specs.declared.table.Held.{Held}
pub use Rattle.hold_filter.specs.declared.table.Table.{Table}
pub use Rattle.hold_filter.specs.inside.Invariant.{AreInTurn, AsksAdmitted, CanGo, EntryCanGo, FilterKept, HasPlace, HasRoom, IsAdmitted, IsAsked, IsAtOwn, IsBefore, IsCancelled, IsFrom, IsInHand, IsPassed, IsWhole, RoomsKept, spot_in}
pub use Rattle.hold_filter.specs.inside.Packets.{HandsOver, PassesDown, asked_by, kind_of, last_asked, request_in, silent}
pub use Rattle.hold_filter.specs.inside.Releases.{LetsOneGo, MaySend, NoneMayGo, Releases, Sends, Spares}
pub use Rattle.hold_filter.specs.inside.TableCalls.{Covers, Hands, HandsNone, HoldsAt, IsCovered, LacksNumber, LetsGo, LetsNoneGo, MayEnd, TakesIn, Withdraws, WithdrawsNot, counted, empty, marked}
pub use Rattle.hold_filter.specs.inside.TableView.{Limits, TableView, books_of, held_with, here, packet_in, in_all}
pub use Rattle.hold_filter.specs.inside.View.{are_late, but_last, frame_of, open_here, packet_below, packet_here, packets_of, queued, requests_here, shown_of, state_of, view_of, without}
pub use Rattle.irp.proofs.Routines.{asks_routine}
pub use Rattle.irp.specs.Packet.{cancel_routine_of, with_cancel_routine}
pub use Rattle.irp.specs.declared.CancelRoutine.{CancelRoutine}
pub use Rattle.irp.specs.declared.Irp.{Irp}
pub use Rattle.irp.specs.declared.Payload.{Payload}
pub use Rattle.irp.specs.declared.StackLocation.{StackLocation}
pub use Rattle.linked.specs.Queue.{Finds, FindsNot, HasNone, IsVacant, Lacks, Pushes, Queue, RemovesNone, RemovesNumber}
pub use Rattle.machine.proofs.Commuting.{untouched_ends_not}
pub use Rattle.machine.proofs.Framed.{Answers-framed, Cancels-framed, Opens-framed, Run-framed}
pub use Rattle.machine.proofs.Held.{Answers-held, Cancels-held, Holds-Answers, Holds-Cancels, Holds-Opens, Holds-Run, Holds-opening, Opens-held}
pub use Rattle.machine.proofs.Numbers.{AreDistinct-Admits, AreDistinct-Run, AreDistinct-Step, AreDistinct-opening}
pub use Rattle.machine.proofs.Permuting.{All-changed, first_unique, flips}
pub use Rattle.machine.proofs.Same.{Any-permutation, IsSame-refl, IsSame-reordered, IsSame-sym, IsSame-trans, Run-append, Run-same}
pub use Rattle.machine.proofs.Settling.{Pauses-framed, few_lower, held_back-framed, kept, late, lower, none_lower}
pub use Rattle.machine.proofs.Window.{AllMayPass-above, Resumes-framed, Settled-framed, same_below}
pub use Rattle.machine.specs.Answering.{Answers, HasEnded, IsGivenUp, information}
pub use Rattle.machine.specs.Calling.{Opens, new_request, refusal}
pub use Rattle.machine.specs.Frame.{Frame, framed, with_window}
pub use Rattle.machine.specs.Holding.{Cancels, Drains, Pauses, Resumes, as_cancelled, as_timely, beyond, held_back, is_lower}
pub use Rattle.machine.specs.Numbers.{AreDistinct, HasPlaces, IsGiven, request_number}
pub use Rattle.machine.specs.Rules.{Rules, as_client, is_in_bounds, place_count}
pub use Rattle.machine.specs.Sending.{IsStart, is_started, is_untouched}
pub use Rattle.machine.specs.Settled.{IsAllSent, IsFull, WaitsIfCancelled, has_out, is_out, started_count}
pub use Rattle.machine.specs.State.{Back, IsSame, OpenRequest, State, Untouched, opening}
pub use Rattle.machine.specs.Step.{DeviceStep, Run, as_label}
pub use Rattle.machine.specs.Window.{HasLowerNumber, HasReleased, Holds, IsAbove, IsLate, IsTimely, IsWaiting}
pub use Rattle.machine.specs.declared.ClientRequest.{ClientRequest}
pub use Rattle.machine.specs.declared.Label.TheVariants.{Answer, Cancel}
pub use Rattle.machine.specs.declared.Request.{Request}
pub use Rattle.ntstatus.specs.declared.NtStatus.{NtStatus}
pub use Rattle.ntstatus.specs.declared.NtStatus.TheVariants.{DeviceBusy, Success}
pub use Rattle.srb.specs.declared.Completion.{Completion}
pub use Rattle.srb.specs.declared.DeviceLabel.{DeviceLabel}
pub use Rattle.srb.specs.declared.DeviceLabel.TheVariants.{Act, Fault, Return, Start}
pub use Rattle.srb.specs.declared.Entry.{Entry}
pub use Rattle.srb.specs.declared.Kind.{Kind}
pub use Rattle.srb.specs.declared.Kind.TheVariants.{Flush, Read, Write}
pub use Rattle.std.proofs.Common.{Bool, List, None, Option, Result, Some, [], ap, arith, false, get_or, inl, inr, length, length-append, map, refl, replicate, rules, subst, suc, sym, take, true, zero, ℕ, ◌*◌, ◌++◌, ◌+◌, ◌-◌, ◌<◌, ◌==◌, ◌^◌, ◌∙◌, ◌∷◌, ◌≡◌, ◌≢◌, ◌≤◌, ◌⊎◌}
pub use Rattle.std.proofs.Math.Seq.{take-append_seam}
pub use Rattle.std.proofs.lemmas.Bool.{cases_eq, cases_lt}
pub use Rattle.std.proofs.lemmas.Bool.Decides.{eqb_tells, nat_tests}
pub use Rattle.std.proofs.lemmas.List.{get_or-set_other, length-map, length-replicate, map-append}
pub use Rattle.std.proofs.lemmas.List.Elements.{All-append, All-cons, All-contains, All-head, All-map, All-nil, All-push, All-same, All-tail, All-weaker, Contains-append_cases, Contains-append_left, Contains-append_right, Contains-get_or}
pub use Rattle.std.proofs.lemmas.List.Sorted.{All-permutation, Contains-permutation, IsPermutation-append_left, IsPermutation-append_right, IsPermutation-map, IsPermutation-middle, IsPermutation-refl, IsPermutation-remove, IsPermutation-sym, IsPermutation-to_front, IsPermutation-trans, length_permutation}
pub use Rattle.std.proofs.lemmas.List.Sums.{count_by-le-length, sum_by-append, sum_by-cons}
pub use Rattle.std.proofs.lemmas.Map.Keys.{IsDistinct-IsPermutation, IsDistinct-cons, IsDistinct-head, IsDistinct-tail}
pub use Rattle.std.specs.Global.{Box}
pub use Rattle.std.specs.List.{AllByRecursion, IsDistinct, list_all, list_any, remove}
pub use Rattle.std.specs.Prelude.{All, Any, Contains, IsFalse, IsPermutation, IsTrue, MatchBool, MatchOption, if◌then◌else◌}
