-- What the proofs of this crate import, in one place.
pub use Rattle.adapter.proofs.Booked.{is_there, on_tag_once}
pub use Rattle.adapter.proofs.BookedActs.{booked_is}
pub use Rattle.adapter.proofs.Tagged.{AllTagged, IsTagged, StartsSo, all_moved_so, booked_so, reset_so}
pub use Rattle.adapter.specs.Booking.{Books, IsArmed, IsBookable, MayBeOf, Suits, booked_on, with_booked, with_booking}
pub use Rattle.adapter.specs.Calls.{HasNoneFresh}
pub use Rattle.adapter.specs.View.{AdapterView, IsInOrder, IsOn, MovesByAll, MovesOn, ReservesMore, TagInUse}
pub use Rattle.cdb.specs.declared.Cdb.{Cdb}
pub use Rattle.cdb.specs.declared.Cdb.TheVariants.{Read10, Read16, ReadCapacity10, ReadCapacity16, Sync10, Sync16, Write10, Write16}
pub use Rattle.compose.specs.Journaled.{AreOnTags, ArmedMayBeBooked, BookedActsAddEntries, IdleActsKeepEntries, IsJournaled, IsNoAct, IsStarted, IsStartedUse, StepsKeepEntries, StepsStayApart}
pub use Rattle.compose.specs.Opening.{AreInRange, IsFirstView, IsSpent, IsStartFault, start_fault_of}
pub use Rattle.compose.specs.Right.{IsRight}
pub use Rattle.compose.specs.Runs.{Carries, CarriesAll, IsLawful, IsOfRun, RunsAreQuietOnceRemoved, RunsObeyLaws, StopsAfter, labels_shown}
pub use Rattle.compose.specs.StepLaws.{AsksMemory, CallsFirst, ComeToWait, IsNoCall, IsSaidAlone, IsTransferEvent, OpensNone, OpensOrLacksMemory, SaysAnswer, StepsCallOnce, StepsLeaveAnswers, StepsOpenAsTold, StepsTakeNoMemory, TakesNoMemory, answers_in}
pub use Rattle.compose.specs.declared.Event.{Event}
pub use Rattle.compose.specs.declared.RunStopped.{RunStopped}
pub use Rattle.compose.specs.declared.Settings.{Settings}
pub use Rattle.compose.specs.declared.Shown.{Shown}
pub use Rattle.compose.specs.declared.StartFault.{StartFault}
pub use Rattle.device.specs.Served.{IsAct, IsActOrFault, IsFreshOn, fault_of}
pub use Rattle.device.specs.View.{DeviceView, IsRead, KeepsOutside, OnTag, piece_on_tag, use_on_tag}
pub use Rattle.io_manager.proofs.AdapterJoins.{reserves_more}
pub use Rattle.io_manager.specs.Calls.{Need, call_on, would_open}
pub use Rattle.io_manager.specs.Opening.{AreFirsts}
pub use Rattle.io_manager.specs.Right.{ActReplies, AdapterMoves, AreRising, BooksPiece, CancelReplies, CancelsAllOf, CancelsOne, CancelsTarget, CloseReplies, FinishReplies, FitsTogether, IsRecalled, IsRightBy, IsTurnedAway, MarkReplies, MovesWith, OpenReplies, PnpReplies, QueryReplies, RecallReplies, Refuses, RefusesAlone, RemoveReplies, ReservesFor, SurpriseReplies, TakesAnswer, TakesAnswerOf, TakesLabel, TakesShown, Told, TransferReplies, answer_number, as_answer, as_cancel, end_labels, labels_of, pnp_state, tells_nothing}
pub use Rattle.io_manager.specs.Shown.{ManagerView}
pub use Rattle.io_manager.specs.declared.Asked.{Asked}
pub use Rattle.io_manager.specs.declared.Handle.{Handle}
pub use Rattle.io_manager.specs.declared.Id.{Id}
pub use Rattle.io_manager.specs.declared.Limits.{Limits}
pub use Rattle.io_manager.specs.declared.Refusal.{Refusal}
pub use Rattle.io_manager.specs.declared.Refusal.TheVariants.{DeletePending, DeviceBusy, InsufficientResources, InvalidDeviceRequest, InvalidHandle, InvalidParameter, NotFound}
pub use Rattle.io_manager.specs.declared.Reply.{Reply}
pub use Rattle.machine.proofs.Numbers.{AreDistinct-Run, AreDistinct-opening}
pub use Rattle.machine.proofs.Permuting.{first_unique, flips}
pub use Rattle.machine.proofs.Same.{IsSame-refl, Run-append}
pub use Rattle.machine.specs.Answering.{Answers}
pub use Rattle.machine.specs.Calling.{Admits, Opens, refusal}
pub use Rattle.machine.specs.Map.{IsMap}
pub use Rattle.machine.specs.Numbers.{AreDistinct, piece_number}
pub use Rattle.machine.specs.Rules.{Rules}
pub use Rattle.machine.specs.Sending.{IsStart}
pub use Rattle.machine.specs.State.{IsSame, Piece, State, opening}
pub use Rattle.machine.specs.Step.{DeviceStep, FreeStep, OwingStep, Run, Step, as_label}
pub use Rattle.machine.specs.declared.ClientRequest.{ClientRequest}
pub use Rattle.machine.specs.declared.Label.{Label}
pub use Rattle.machine.specs.declared.Label.TheVariants.{Call}
pub use Rattle.machine_laws.specs.Booked.{AreOfActs, IsAskedBy, IsOfAct, TakesEntry}
pub use Rattle.machine_laws.specs.EndLaws.{AnsweredWriteNoMore, IsNotOfDevice, RemovedIsLast}
pub use Rattle.machine_laws.specs.Reached.{IsReached, RunsGoOn, RunsSplit}
pub use Rattle.machine_laws.specs.SoloLaws.{FailedWritesHold, LabelsAreOfOne, SoloReadsHold, SoloWritesHold}
pub use Rattle.machine_laws.specs.Success.{ActsWereAsked, AnsweredWasMoved}
pub use Rattle.machine_laws.specs.WriteLaws.{StepsKeepArrays, StepsKeepSectors}
pub use Rattle.ntstatus.specs.First.{first_some, when}
pub use Rattle.ntstatus.specs.declared.NtStatus.{NtStatus}
pub use Rattle.ntstatus.specs.declared.NtStatus.TheVariants.{Success}
pub use Rattle.probe.specs.Capacity.{is_long}
pub use Rattle.probe.specs.Exchange.{IsSameDisk}
pub use Rattle.probe.specs.Probing.{IsProbeFault, IsProbed, IsReadBy, asked_by_probe}
pub use Rattle.probe.specs.declared.ProbeFault.{ProbeFault}
pub use Rattle.probe.specs.declared.Probed.{Probed}
pub use Rattle.sector.specs.Extents.{IsIn, sectors_in}
pub use Rattle.sector.specs.declared.Extent.{Extent}
pub use Rattle.srb.specs.Fate.{Fresh}
pub use Rattle.srb.specs.declared.Completion.{Completion}
pub use Rattle.srb.specs.declared.DeviceLabel.{DeviceLabel}
pub use Rattle.srb.specs.declared.Entry.{Entry}
pub use Rattle.std.proofs.Common.{Bool, IsFalse, List, None, Option, Some, [], ap, append_assoc, arith, below_more, eqb-true, false, get_or, inl, inr, length, length-append, map, refl, subst, suc, sym, take, true, zero, ℕ, ◌++◌, ◌+◌, ◌<◌, ◌∙◌, ◌∷◌, ◌≡◌, ◌≢◌, ◌≤◌, ◌⊎◌}
pub use Rattle.std.proofs.lemmas.Bool.Decides.{Decides-eqb, nat_tests}
pub use Rattle.std.proofs.lemmas.Iterator.Adapters.{YieldsList-from_vec}
pub use Rattle.std.proofs.lemmas.Iterator.Consumers.{YieldsList-so_far, YieldsList-turn}
pub use Rattle.std.proofs.lemmas.List.{append-nil, get_or-set_other, get_or-set_same, get_or_append_left, length-replicate, length-set, map-id, nil_from_length}
pub use Rattle.std.proofs.lemmas.List.Elements.{All-append, All-cons, All-contains_itself, All-head, All-map, All-nil, All-tail, All-weaker, Contains-append_left, Contains-push}
pub use Rattle.std.proofs.lemmas.List.Sorted.{All-permutation, Contains-permutation, IsPermutation-map, IsPermutation-remove, IsPermutation-sym}
pub use Rattle.std.proofs.lemmas.Map.Keys.{IsDistinct-IsPermutation}
pub use Rattle.std.proofs.lemmas.Option.{get_or_from_slice_get, slice_get-get_or, slice_get_within}
pub use Rattle.std.specs.Global.{Vec}
pub use Rattle.std.specs.List.{IsDistinct}
pub use Rattle.std.specs.Prelude.{All, Contains, eqb, slice_get, slice_set, ◌==◌}
pub use Rattle.std.specs.Vec.{vec_capacity, vec_len}
