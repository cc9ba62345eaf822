-- What the proofs of this crate import, in one place.
pub use Rattle.cdb.proofs.Once.{means_once}
pub use Rattle.cdb.specs.Meaning.{Means}
pub use Rattle.cdb.specs.declared.Cdb.TheVariants.{Read10, Read16, Sync10, Sync16, Write10, Write16}
pub use Rattle.machine.proofs.Numbers.{AreDistinct-Admits, AreDistinct-Run, AreDistinct-Step, AreDistinct-opening, AreDistinct-same, Step-number, requests_in_order}
pub use Rattle.machine.proofs.Owners.{Owns, owns}
pub use Rattle.machine.proofs.Permuting.{All-changed, distinct_first}
pub use Rattle.machine.proofs.Placed.{ArePlaced-Answers, ArePlaced-Run, ArePlaced-Step, ArePlaced-opening, ArePlaced-same, get_or-splice_above, get_or-splice_below, get_or-splice_inside, is_inside, leaves}
pub use Rattle.machine.proofs.Places.{IsTakenIn, taken_in}
pub use Rattle.machine.proofs.Same.{IsSame-refl, IsSame-sym, Run-append, none_there}
pub use Rattle.machine.specs.Answering.{Answers, answer_bytes, bytes_of_mark, is_done}
pub use Rattle.machine.specs.Calling.{Admits, Opens, bytes_carried, is_full, new_request, refusal}
pub use Rattle.machine.specs.Cutting.{count_below, is_back, mark_at, piece_count, pieces_with, restarts}
pub use Rattle.machine.specs.Holding.{as_cancelled, as_timely, beyond, held_back}
pub use Rattle.machine.specs.Map.{AreApart, IsMap, IsPartition}
pub use Rattle.machine.specs.Numbers.{AreDistinct, IsGiven, IsSent, request_number}
pub use Rattle.machine.specs.Pieces.{ArePlaced, IsCovered, IsOwner, IsPlaced}
pub use Rattle.machine.specs.Rules.{Rules, as_faithful, first_sector, home, is_in_bounds, is_transfer, place_count, sectors_of}
pub use Rattle.machine.specs.Sending.{Acts, IsFreshPiece, IsSendable, IsUnsent, LeavesMarks, Returns, Starts, Transfers, array_at, array_of, command_for, given_back, is_untouched, new_piece, one_if_busy, partition_number, sectors_at, sent, status_of_completion, with_fate, written}
pub use Rattle.machine.specs.Solo.{IsServed, IsSolo, IsSoloAt, LeavesAlone, Meets, SoloReads, SoloWrites, past}
pub use Rattle.machine.specs.State.{Back, Done, Failed, IsSame, Mark, OpenRequest, Out, Owed, Piece, State, Untouched, opening}
pub use Rattle.machine.specs.Step.{DeviceStep, FreeStep, OwingStep, Run, Step}
pub use Rattle.machine.specs.declared.ClientRequest.{ClientRequest}
pub use Rattle.machine.specs.declared.Label.{Label}
pub use Rattle.machine.specs.declared.Label.TheVariants.{Answer, Call, Cancel, Device, Pause, Remove, Removed, Resume, Surprise}
pub use Rattle.machine_laws.specs.Along.{Always, Sometime}
pub use Rattle.machine_laws.specs.Booked.{AreOfActs, EntriesAreOfRuns, IsAskedBy, IsOfAct, IsTransfer, JournalsCloseRuns, TakesEntry}
pub use Rattle.machine_laws.specs.EndLaws.{AnsweredAreOver, HasOtherNumber, HasOtherOwner, IsEmpty, IsNotOfDevice, IsOver, RemovedAreEmpty, RemovedIsLast}
pub use Rattle.machine_laws.specs.LabelsLeft.{BringsNone, NoMoreAreLeft, RunsUseUp, StepsUseUp, brought_along, labels_brought, labels_left, labels_of_fate, labels_of_piece, labels_of_request, labels_of_starts}
pub use Rattle.machine_laws.specs.Lifting.{AreActsOf, DeviceTakes, IsEntryOf, RunsLift, StepTakes, over_disk}
pub use Rattle.machine_laws.specs.NumberLaws.{AnswersOnce, AnswersWereCalled, AreFrom, CallsAreAnswered, CallsAwait, CallsCount, CallsOnce, CallsRise, IsNoAnswerOf, IsNoCallOf, answer_numbers, awaited, call_numbers, owed_number}
pub use Rattle.machine_laws.specs.Reached.{AreWhole, IsReached, OpeningsAreReached, RunsGoOn, RunsSplit}
pub use Rattle.machine_laws.specs.Sectors.{IsAct, WritesPartition, WritesSector, bytes_for, part_of, sector_at, sector_of}
pub use Rattle.machine_laws.specs.SoloLaws.{FailedWrites, LabelsAreOfOne}
pub use Rattle.machine_laws.specs.Success.{ActsWereAsked, AnsweredWasMoved, MovesPlace, bytes_due}
pub use Rattle.machine_laws.specs.WriteLaws.{HaveSameLengths, IsWriteAt, IsWriteOn, RunsKeepArrays, StepsKeepArrays}
pub use Rattle.ntstatus.proofs.First.{none_first}
pub use Rattle.ntstatus.specs.First.{first_some, when}
pub use Rattle.ntstatus.specs.declared.NtStatus.{NtStatus}
pub use Rattle.ntstatus.specs.declared.NtStatus.TheVariants.{DeletePending, DeviceBusy, InvalidHandle, InvalidParameter, Success}
pub use Rattle.sector.proofs.Splicing.{AllAt, length-splice, range_apart, splice_at}
pub use Rattle.sector.specs.Extents.{IsSector, sectors_in}
pub use Rattle.sector.specs.Splice.{splice}
pub use Rattle.sector.specs.declared.Extent.{Extent}
pub use Rattle.srb.specs.Fate.{Acted, Fate, Faulted, Fresh}
pub use Rattle.srb.specs.Replaying.{Replays, ReplaysKind}
pub use Rattle.srb.specs.declared.Class.{Class}
pub use Rattle.srb.specs.declared.Class.TheVariants.{Bad, Busy, Good}
pub use Rattle.srb.specs.declared.DeviceLabel.{DeviceLabel}
pub use Rattle.srb.specs.declared.DeviceLabel.TheVariants.{Act, Fault, Return, Start}
pub use Rattle.srb.specs.declared.Entry.{Entry}
pub use Rattle.srb.specs.declared.Kind.{Kind}
pub use Rattle.srb.specs.declared.Kind.TheVariants.{Flush, Read, Write}
pub use Rattle.std.proofs.Common.{Bool, List, None, Option, Some, [], ap, arith, drop, false, get_or, inl, inr, length, length-drop, length-take, lit<, map, min, not, refl, replicate, set, subst, suc, sym, take, true, zero, ℕ, ◌%◌, ◌&&◌, ◌*◌, ◌++◌, ◌+◌, ◌-◌, ◌/◌, ◌<◌, ◌==◌, ◌||◌, ◌∙◌, ◌∷◌, ◌≡◌, ◌≢◌, ◌≤◌, ◌⊎◌}
pub use Rattle.std.proofs.Math.Nat.{lt_of_lt_of_le, zero-div}
pub use Rattle.std.proofs.lemmas.Bool.{and_parts, cases_eq, cases_lt, cases_order, eqb-true, not-false}
pub use Rattle.std.proofs.lemmas.Bool.Decides.{nat_tests}
pub use Rattle.std.proofs.lemmas.List.{append-nil, drop-drop, drop-take, drop_at, get_or-append_right, get_or-drop, get_or-map, get_or-replicate, get_or-set_other, get_or-set_same, get_or-take, get_or_append_left, get_or_past, length-map, length-replicate, length-set, length-take-le, same_lists, set_past, take-append-drop, take-take, take_at}
pub use Rattle.std.proofs.lemmas.List.Edits.{get_or-between, length-between}
pub use Rattle.std.proofs.lemmas.List.Elements.{All-append, All-cons, All-contains, All-contains_itself, All-drop, All-get_or, All-head, All-map, All-nil, All-replicate, All-tail, All-take, All-weaker, Contains-append_left, Contains-append_right}
pub use Rattle.std.proofs.lemmas.List.Sorted.{All-permutation, Contains-permutation, IsPermutation-append_left, IsPermutation-append_right, IsPermutation-cons, IsPermutation-map, IsPermutation-middle, IsPermutation-refl, IsPermutation-sym, IsPermutation-trans, sum_by-IsPermutation}
pub use Rattle.std.proofs.lemmas.List.Sums.{sum_by-cons, sum_by-le-sum_by}
pub use Rattle.std.proofs.lemmas.Map.Keys.{IsDistinct-tail}
pub use Rattle.std.proofs.lemmas.Option.{slice_get-get_or}
pub use Rattle.std.specs.List.{IsDistinct, concat, list_all}
pub use Rattle.std.specs.Prelude.{All, AllPairs, Contains, IsNone, IsPermutation, eqb, is_none, slice_get, slice_range, slice_set, unwrap_or}
