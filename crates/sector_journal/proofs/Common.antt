-- What the proofs of this crate import, in one place.
pub use Rattle.adapter.proofs.Performing.{Performs-length}
pub use Rattle.adapter.specs.Booking.{IsArmed, IsBookable, IsFlushOf, IsOfSrb, IsTransferOf, MayBeOf}
pub use Rattle.adapter.specs.Performing.{Performs}
pub use Rattle.adapter.specs.View.{AdapterView}
pub use Rattle.cdb.specs.Meaning.{AsksToWrite, Means}
pub use Rattle.cdb.specs.declared.Cdb.{Cdb}
pub use Rattle.cdb.specs.declared.Cdb.TheVariants.{Read10, Read16, ReadCapacity10, ReadCapacity16, Sync10, Sync16, Write10, Write16}
pub use Rattle.disk.specs.Medium.{HasWholeSectors, IsReserved, MediumView, Reserves}
pub use Rattle.miniport.proofs.Bad.{fault_is_bad}
pub use Rattle.miniport.proofs.Sectors.{All-extent, length-extent, long_sync_ends, read_ends, refused_ends, sync_ends, write_ends}
pub use Rattle.miniport.specs.Carrying.{CarriesOut, FailsBy, disk_of, sizes_of, with_data}
pub use Rattle.miniport.specs.Checking.{Passes}
pub use Rattle.miniport.specs.Faults.{Disk, bytes_of, error, fault_of, fault_of_command, fits, flags_of, invalid_request, is_execute, is_past_end}
pub use Rattle.ntstatus.proofs.First.{none_first}
pub use Rattle.sector.specs.Extents.{IsCovered, IsIn, IsSector}
pub use Rattle.sector.specs.Splice.{splice}
pub use Rattle.sector.specs.declared.Extent.{Extent}
pub use Rattle.sector_journal.specs.Arming.{AskTheSame, IsCopy}
pub use Rattle.sector_journal.specs.Entering.{Enters, Names, Refuses, named}
pub use Rattle.sector_journal.specs.Journal.{AreOfArmings, Arms, Disarms, GainsRoom, HoldsNear, IsHeld, IsOfArming, JournalView, MayArm, Releases, entries_in, of_arming, pieces_open}
pub use Rattle.sector_journal.specs.Reserving.{covers, is_of, is_write, lies_in, of_length, pieces_of, pieces_with}
pub use Rattle.sector_journal.specs.Slots.{IsFree, Takes, armed_at, armed_count, armed_with, one_if_armed, one_if_long}
pub use Rattle.sector_journal.specs.Pooling.{SizeClassView, count_at, count_on, is_for, is_not_for, pieces_at, promised_at}
pub use Rattle.sector_journal.specs.declared.acted.Entered.{Entered}
pub use Rattle.sector_journal.specs.declared.reservation.Reservation.{Reservation}
pub use Rattle.sector_journal.specs.declared.slots.Armed.{Armed}
pub use Rattle.sector_journal.specs.inside.Journal.{CanEnter, JournalKept, MayAct}
pub use Rattle.sector_journal.specs.inside.Pooling.{IsOfLength, TakesOne}
pub use Rattle.srb.specs.Replaying.{Replays, ReplaysKind}
pub use Rattle.srb.specs.declared.Completion.{Completion}
pub use Rattle.srb.specs.declared.Entry.{Entry}
pub use Rattle.srb.specs.declared.Kind.{Kind}
pub use Rattle.srb.specs.declared.Kind.TheVariants.{Flush, Read, Write}
pub use Rattle.srb.specs.declared.Srb.{Srb}
pub use Rattle.std.proofs.Common.{All, Bool, Err, Fits, IsFalse, List, MatchOption, None, Ok, OnErr, OnOk, Option, Result, Some, [], ap, arith, drop, eqb, eqb-true, false, get_or, if◌then◌else◌, inl, inr, le_refl, leb-true, length, length-append, min, nat_le, nat_lt, not, refl, rules, slice_get, slice_index_or, slice_range, slice_set, subst, suc, sym, take, true, w64, zero, ℕ, ◌*◌, ◌++◌, ◌+◌, ◌-◌, ◌<◌, ◌==◌, ◌^◌, ◌∙◌, ◌∷◌, ◌≡◌, ◌≢◌, ◌≤◌}
pub use Rattle.std.proofs.lemmas.Bool.{and_parts, cases_Bool, cases_eq, cases_lt, eqb-false, ltb-false, ltb-true}
pub use Rattle.std.proofs.lemmas.Bool.Decides.{Decides-eqb}
pub use Rattle.std.proofs.lemmas.Fn.{filter_same}
pub use Rattle.std.proofs.lemmas.List.{get_or-set_other, get_or-set_same, get_or_append_left, get_or_push, get_or_read, length-set, map_push, set-get_or, set_past}
pub use Rattle.std.proofs.lemmas.List.Elements.{All-append, All-cons, All-drop, All-head, All-nil, All-push, All-tail, All-take, All-weaker}
pub use Rattle.std.proofs.lemmas.List.Folds.{Any-from_list_any, position_or_len-set, position_or_len_push}
pub use Rattle.std.proofs.lemmas.List.Quantifiers.{position-Some}
pub use Rattle.std.proofs.lemmas.List.Recursion.{found_at, found_nowhere}
pub use Rattle.std.proofs.lemmas.List.Sums.{fails_before_first, prefix_len-le-length, sum_by-le, sum_by-remove, sum_by-set, sum_by_push}
pub use Rattle.std.specs.List.{Any, concat, filter, list_any, position, position_or_len, remove, sum_by}
pub use Rattle.std.specs.Option.{option_copied}
