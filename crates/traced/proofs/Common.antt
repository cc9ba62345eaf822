-- What the proofs of this crate import, in one place.
pub use Rattle.adapter.specs.Booking.{IsArmed}
pub use Rattle.adapter.specs.Calls.{HasNoneFresh}
pub use Rattle.cancel_marks.specs.Marks.{slot_at, starting}
pub use Rattle.cancel_marks.specs.declared.rule.View.{View}
pub use Rattle.compose.specs.Right.{IsRight}
pub use Rattle.compose.specs.StepLaws.{IsTransferEvent, StepsTakeNoMemory}
pub use Rattle.compose.specs.declared.Event.{Event}
pub use Rattle.io_manager.specs.Calls.{are_used_up, call_on, handle_limit, number_limit, open_refusal, without_bytes}
pub use Rattle.io_manager.specs.Right.{BooksPiece, TakesAnswerOf, Updates, as_answer, unless_answered}
pub use Rattle.io_manager.specs.Shown.{Holder, ManagerView}
pub use Rattle.io_manager.specs.declared.Id.{Id}
pub use Rattle.io_manager.specs.declared.OpenHandle.{OpenHandle}
pub use Rattle.io_manager.specs.declared.Refusal.{Refusal}
pub use Rattle.io_manager.specs.declared.Refusal.TheVariants.{DeletePending, DeviceBusy, InsufficientResources, InvalidDeviceRequest, InvalidHandle, InvalidParameter, NotFound}
pub use Rattle.io_manager.specs.declared.Reply.{Reply}
pub use Rattle.machine.proofs.Same.{IsSame-refl, Run-append}
pub use Rattle.machine.specs.Calling.{refusal}
pub use Rattle.machine.specs.Cutting.{piece_count, restarts}
pub use Rattle.machine.specs.Rules.{Rules, is_in_bounds, is_transfer, place_count}
pub use Rattle.machine.specs.State.{IsSame, State}
pub use Rattle.machine.specs.Step.{Run, Step, as_label}
pub use Rattle.machine.specs.declared.ClientRequest.{ClientRequest}
pub use Rattle.machine.specs.declared.Label.{Label}
pub use Rattle.machine_laws.specs.LabelsLeft.{BringsNone, NoMoreAreLeft, StepsUseUp, labels_brought, labels_left}
pub use Rattle.machine_laws.specs.NumberLaws.{CallsAwait, CallsCount, CallsRise, answer_numbers, awaited, call_numbers}
pub use Rattle.machine_laws.specs.Reached.{IsReached, RunsGoOn}
pub use Rattle.ntstatus.proofs.First.{none_first}
pub use Rattle.ntstatus.specs.declared.NtStatus.{NtStatus}
pub use Rattle.srb.specs.declared.Completion.{Completion}
pub use Rattle.srb.specs.declared.DeviceLabel.{DeviceLabel}
pub use Rattle.std.proofs.Common.{Bool, List, None, Option, Result, Some, [], ap, append_assoc, ap₂, arith, cond, false, get_or-set_other, get_or-set_same, if◌then◌else◌, inl, inr, length, length-append, length-set, map, max, not, option_map, refl, replicate, rules, set, slice_index_or, subst, suc, sym, true, vec_capacity, vec_len, zero, ℕ, ◌&&◌, ◌*◌, ◌++◌, ◌+◌, ◌-◌, ◌/◌, ◌<◌, ◌==◌, ◌||◌, ◌∙◌, ◌∷◌, ◌≡◌, ◌≢◌, ◌≤◌}
pub use Rattle.std.proofs.Math.Nat.{eq-or-lt_of_le}
pub use Rattle.std.proofs.lemmas.Bool.{cases_lt, leb-false}
pub use Rattle.std.proofs.lemmas.Bool.Decides.{nat_tests}
pub use Rattle.std.proofs.lemmas.List.{append-nil}
pub use Rattle.std.proofs.lemmas.List.Elements.{All-append, All-cons, All-head, All-nil, All-tail, Contains-append_cases, Contains-append_left, Contains-append_right}
pub use Rattle.std.proofs.lemmas.List.Sorted.{All-permutation, Contains-permutation, IsPermutation-refl, IsPermutation-remove, IsPermutation-sym, sum_by-IsPermutation, sum_by_popped}
pub use Rattle.std.proofs.lemmas.List.Sums.{sum_by-cons, sum_by_push}
pub use Rattle.std.proofs.lemmas.Option.{get_or_from_slice_get, slice_get-get_or, slice_get_within}
pub use Rattle.std.specs.List.{list_any}
pub use Rattle.std.specs.Prelude.{All, Contains, IfSome, IsFalse, IsPermutation, IsTrue, count_by, is_some, nat_le, slice_get}
pub use Rattle.traced.specs.Entries.{is_call}
pub use Rattle.traced.specs.Opening.{AreOpened, IsFirst, IsNew, IsOpenOn}
pub use Rattle.traced.specs.Log.{AreKept, LogView, noted, noted_all, owners_after, ready_after}
pub use Rattle.traced.specs.Rows.{IsRowAt, RowView, blank, row_at}
pub use Rattle.traced.specs.Serving.{is_call_event, is_handle_event, open_at}
pub use Rattle.traced.specs.Sizes.{sizes_of}
pub use Rattle.traced.specs.Slots.{IsArmedAs, LooksAt, LooksNowhere}
pub use Rattle.traced.specs.Sound.{IsNamed}
pub use Rattle.traced.specs.Told.{AreNoCalls, AreTold, MayCall, MayNoteAll, awaited_of, one_of}
pub use Rattle.traced.specs.Traced.{AreLooked, IsCarried, IsLooked, IsServed, TracedView, may_want, log_of}
pub use Rattle.traced.specs.declared.TraceEntry.{TraceEntry}
pub use Rattle.traced.specs.inside.Entries.{HasNoAnswer}
pub use Rattle.traced.specs.inside.Opening.{KeepsAll, OpensOne}
pub use Rattle.traced.specs.inside.Log.{HasPlaces, IsAwaited, IsNext, IsReady, MayNote}
pub use Rattle.traced.specs.inside.Rows.{MayStand, answered, called, rows_after}
pub use Rattle.traced.specs.inside.Serving.{HaveCallsOf, HaveOneCall, OpensSlot, Serves, admitted_at, unless_told}
pub use Rattle.traced.specs.inside.Sizes.{brought_by, labels_of_call, labels_of_transfer}
pub use Rattle.traced.specs.inside.Slots.{AreArmed, AreEmptyFrom, ArmedBelow, Leaves, SlotsView, number_at, unless_number}
pub use Rattle.traced.specs.inside.Sound.{IsGivenBelow, IsSound, shown}
