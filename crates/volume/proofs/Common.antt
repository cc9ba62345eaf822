-- What the proofs of this crate import, in one place.
pub use Rattle.adapter.specs.View.{AdapterView, IsInOrder, TagInUse}
pub use Rattle.compose.specs.Opening.{IsFirstView, first_rules}
pub use Rattle.compose.specs.Right.{StepsUntraced}
pub use Rattle.compose.specs.declared.Event.{Event}
pub use Rattle.compose.specs.declared.Settings.{Settings}
pub use Rattle.device.specs.Served.{IsActOrFault, IsFreshOn, is_fresh_piece, piece_tag}
pub use Rattle.device.specs.View.{IsRead, piece_on_tag, use_on_tag}
pub use Rattle.io_manager.specs.Calls.{are_used_up, call_on, handle_limit, number_limit, open_refusal, partition_at, partition_of, status_of_refusal, without_bytes}
pub use Rattle.io_manager.specs.Right.{IsClosed, IsGiven, IsOnTag, TakesAnswer, as_answer}
pub use Rattle.io_manager.specs.Shown.{ManagerView}
pub use Rattle.io_manager.specs.declared.Handle.{Handle}
pub use Rattle.io_manager.specs.declared.Id.{Id}
pub use Rattle.io_manager.specs.declared.OpenHandle.{OpenHandle}
pub use Rattle.io_manager.specs.declared.Refusal.{Refusal}
pub use Rattle.io_manager.specs.declared.Refusal.TheVariants.{DeletePending, DeviceBusy, InsufficientResources, InvalidDeviceRequest, InvalidHandle, InvalidParameter, NotFound}
pub use Rattle.io_manager.specs.declared.Reply.{Reply}
pub use Rattle.machine.proofs.Numbers.{AreDistinct-Run, AreDistinct-opening}
pub use Rattle.machine.proofs.Permuting.{distinct_first, is_first}
pub use Rattle.machine.proofs.Placed.{ArePlaced-Run, ArePlaced-opening}
pub use Rattle.machine.proofs.Places.{IsTakenIn, some_places, taken_in}
pub use Rattle.machine.proofs.Same.{IsSame-refl, IsSame-sym, Run-append, none_there}
pub use Rattle.machine.specs.Answering.{Answers, HasEnded}
pub use Rattle.machine.specs.Calling.{Admits, Calls, Opens, Refuses, bytes_carried, is_full, new_request, refusal}
pub use Rattle.machine.specs.Map.{IsPartition}
pub use Rattle.machine.specs.Numbers.{AreDistinct, piece_number}
pub use Rattle.machine.specs.Pieces.{ArePlaced, IsOwner, IsPlaced}
pub use Rattle.machine.specs.Rules.{Rules, first_sector, is_in_bounds, is_transfer, place_count, sectors_of}
pub use Rattle.machine.specs.Sending.{Acts, Faults, HasOtherTag, IsStart, IsUnsent, LeavesMarks, Returns, Starts, array_at, given_back, is_unsent, new_piece, partition_number, sent, status_of_completion, with_fate}
pub use Rattle.machine.specs.Solo.{IsSolo, IsSoloAt, LeavesAlone}
pub use Rattle.machine.specs.State.{IsSame, OpenRequest, Owed, Piece, State, Untouched, opening}
pub use Rattle.machine.specs.Step.{DeviceStep, OwingStep, Run, Step, as_label}
pub use Rattle.machine.specs.declared.ClientRequest.{ClientRequest}
pub use Rattle.machine.specs.declared.Label.{Label}
pub use Rattle.machine.specs.declared.Label.TheVariants.{Answer, Call, Removed}
pub use Rattle.machine_laws.specs.Along.{Sometime}
pub use Rattle.machine_laws.specs.NumberLaws.{CallsCount, call_numbers}
pub use Rattle.machine_laws.specs.Reached.{AreWhole, IsReached}
pub use Rattle.machine_laws.specs.Sectors.{bytes_for}
pub use Rattle.machine_laws.specs.SoloLaws.{FailedWritesHold, SoloReadsHold, SoloWritesHold}
pub use Rattle.machine_laws.specs.WriteLaws.{IsWriteAt, RunsKeepSectors}
pub use Rattle.ntstatus.proofs.First.{none_first}
pub use Rattle.ntstatus.specs.First.{first_some, when}
pub use Rattle.ntstatus.specs.declared.NtStatus.{NtStatus}
pub use Rattle.ntstatus.specs.declared.NtStatus.TheVariants.{Success}
pub use Rattle.probe.specs.Probing.{IsReadBy, asked_by_probe}
pub use Rattle.sector.specs.Extents.{IsIn, IsSector, sectors_in}
pub use Rattle.sector.specs.Splice.{splice}
pub use Rattle.sector.specs.declared.Extent.{Extent}
pub use Rattle.srb.specs.Fate.{Acted, Fate, Faulted, Fresh, is_fresh}
pub use Rattle.srb.specs.declared.Class.{Class}
pub use Rattle.srb.specs.declared.Class.TheVariants.{Bad, Busy, Good}
pub use Rattle.srb.specs.declared.DeviceLabel.{DeviceLabel}
pub use Rattle.srb.specs.declared.Kind.{Kind}
pub use Rattle.srb.specs.declared.Kind.TheVariants.{Flush, Read, Write}
pub use Rattle.std.proofs.Common.{Bool, List, None, Option, Some, [], ap, append_assoc, arith, cond, drop, false, get_or, inl, inr, length, length-append, length-drop, length-take, map, refl, replicate, subst, suc, sym, take, true, zero, ℕ, ◌%◌, ◌*◌, ◌++◌, ◌+◌, ◌-◌, ◌/◌, ◌<◌, ◌^◌, ◌↔◌, ◌∙◌, ◌∷◌, ◌≡◌, ◌≢◌, ◌≤◌, ◌⊎◌}
pub use Rattle.std.proofs.Math.Nat.{le_of_mul-le-mul_right, mod-add-div', mul-le-mul_right}
pub use Rattle.std.proofs.lemmas.Bool.{cases_lt}
pub use Rattle.std.proofs.lemmas.Bool.Decides.{nat_tests}
pub use Rattle.std.proofs.lemmas.List.{drop-drop, drop_at, get_or_past, length-replicate, map-append, take-append-drop, take_at}
pub use Rattle.std.proofs.lemmas.List.Elements.{All-append, All-cons, All-contains, All-drop, All-head, All-map, All-nil, All-replicate, All-tail, All-take}
pub use Rattle.std.proofs.lemmas.List.Sorted.{All-permutation, Contains-permutation, IsPermutation-append_comm, IsPermutation-append_left, IsPermutation-append_right, IsPermutation-map, IsPermutation-refl, IsPermutation-sym, IsPermutation-trans, length_permutation, sum_by-IsPermutation, sum_by_popped}
pub use Rattle.std.proofs.lemmas.List.Sums.{sum_by-append, sum_by-cons, sum_by-take-drop}
pub use Rattle.std.proofs.lemmas.Option.{slice_get-get_or}
pub use Rattle.std.specs.List.{concat, sum_by}
pub use Rattle.std.specs.Prelude.{All, Any, Contains, IfErr, IsFalse, IsNone, IsPermutation, IsTrue, MatchBool, MatchResult, count_by, if◌then◌else◌, is_none, is_some, nat_le, not, slice_get, slice_index_or, slice_range, unwrap_or, ◌&&◌, ◌==◌}
pub use Rattle.volume.specs.Opening.{IsOpenRefusal, IsRefusedOf, LacksHandle}
pub use Rattle.volume.specs.Ready.{AreUsable, IsIdle, IsReady, VolumeKept}
pub use Rattle.volume.specs.Shown.{VolumeView, content_of, extent_at, handle_count, parted_at, volume_over}
pub use Rattle.volume.specs.Working.{Asks, ChangesSome, ComesTo, Ends, Goes, HasReason, IsBetween, IsPlaceOf, IsQuiet, Leaves, Looks, Quietly, Turns, answers_of, disk_first, fresh_count, sectors_on, tags_out, unsent_places, work}
pub use Rattle.volume.specs.declared.Sizes.{Sizes}
