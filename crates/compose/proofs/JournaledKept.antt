-- Each right step keeps the entries those of the acts of the trace.
use Rattle.std.proofs.Common.{◌≡◌, ℕ, Bool, true, false, List, [], ◌∷◌, ◌++◌, Ok, Err, Result, IsFalse, map, remove, refl, sym, ap, subst, ◌∙◌}
use Rattle.compose.proofs.Common.{Contains, Contains-permutation, IsPermutation-remove, append-nil, Entry, Completion, AdapterView, IsInOrder, IsBookable, AllTagged, booked_so, Label, Rules, State, Piece, AreDistinct, IsReached, AreDistinct-Run, AreDistinct-opening, AreOfActs, AreOnTags, OnTag, piece_on_tag, use_on_tag, IsFreshOn, Reply, ManagerView, Told, BooksPiece, IsRightBy, ActReplies, tells_nothing, Event, IsRight, IsStarted, IsNoAct, IsJournaled, StepsKeepEntries, BookedActsAddEntries, IdleActsKeepEntries, StepsStayApart}
use Rattle.srb.specs.declared.DeviceLabel.TheVariants.{Act, Fault}
use Rattle.adapter.specs.Calls.{HasNoneFresh as NoneFresh}
use Rattle.machine.specs.declared.Label.TheVariants.{Device}
use Rattle.io_manager.specs.declared.Reply.TheVariants.{Handle as HandleReply, Ok as OkReply, Request as Requested, Answered, Refused, Ignored}
use Rattle.compose.specs.declared.Event.TheVariants.{Open, Close, Read as ReadEvent, Write as WriteEvent, Flush as FlushEvent, CancelIoEx, Mark, QueryRemove, CancelRemove, Remove, SurpriseRemove, Act as ActEvent, Finish, Reset}
use Rattle.compose.specs.Armed.{IdleActsTellNothing}
use Rattle.compose.proofs.Journaled.{acts_longer, acts_joined}
use Rattle.compose.proofs.JournaledStep.{there_mapped, mapped_there, ActsAsBooked, FaultsAsBooked, booked_step, failed_step, tagged_step}
use Rattle.compose.proofs.JournaledArmed.{step_apart}
use Rattle.compose.proofs.JournaledOthers.{others_step}

-- each right step tells something that leads to the new view
pub record IsLed (old new : ManagerView) : Type 0 where
  pub reset : Bool
  pub told : Told
  pub by : IsRightBy reset told old new

pub led : (old : ManagerView) (event : Event) (reply : Reply) (new : ManagerView) → IsRight old event reply new → IsLed old new
led old (Open partition) reply new h = record { reset = false; told = h.told; by = h.by }
led old (Close handle) reply new h = record { reset = false; told = h.told; by = h.by }
led old (ReadEvent handle offset buffer) reply new h = record { reset = false; told = h.told; by = h.by }
led old (WriteEvent handle offset bytes through) reply new h = record { reset = false; told = h.told; by = h.by }
led old (FlushEvent handle) reply new h = record { reset = false; told = h.told; by = h.by }
led old (CancelIoEx handle target) reply new h = record { reset = false; told = h.told; by = h.by }
led old (Mark number) reply new h = record { reset = false; told = h.told; by = h.by }
led old QueryRemove reply new h = record { reset = false; told = h.told; by = h.by }
led old CancelRemove reply new h = record { reset = false; told = h.told; by = h.by }
led old Remove reply new h = record { reset = false; told = h.told; by = h.by }
led old SurpriseRemove reply new h = record { reset = false; told = h.told; by = h.by }
led old (ActEvent tag) reply new h = record { reset = false; told = h.told; by = h.by }
led old (Finish tag) reply new h = record { reset = false; told = h.told; by = h.by }
led old Reset reply new h = record { reset = true; told = h.1.told; by = h.1.by }

tagged_right : (trace : List Label) (old : ManagerView) (event : Event) (reply : Reply) (new : ManagerView) → IsRight old event reply new → AllTagged (IsStarted trace) old.adapter
    → AllTagged (IsStarted (trace ++ new.labels)) new.adapter
tagged_right trace old event reply new right all = let l = led old event reply new right in tagged_step l.reset trace l.told old new l.by all

one_of_acts : (trace labels : List Label) (entries more : List Entry) → AreOfActs trace trace entries → AreOfActs trace labels more → AreOfActs (trace ++ labels) (trace ++ labels) (entries ++ more)
one_of_acts trace labels entries more were new =
    acts_joined (trace ++ labels) trace labels entries more (acts_longer trace labels trace entries were) (acts_longer trace labels labels more new)

-- booking
pub keeps_booked : (trace : List Label) (entries : List Entry) (old : ManagerView) (tag piece : ℕ) (what : Result Entry Completion) (new : ManagerView) → BooksPiece old tag piece what new → IsJournaled trace entries old → IsJournaled trace entries new
keeps_booked trace entries old tag piece what new books h = record {
  of_acts = h.of_acts;
  started = booked_so (IsStarted trace) old.adapter tag piece what new.adapter books.adapter h.started;
}

-- each step but an act
pub keeps_others : (trace : List Label) (entries : List Entry) (old : ManagerView) (event : Event) (reply : Reply) (new : ManagerView) → IsNoAct event → IsRight old event reply new → IsJournaled trace entries old
    → IsJournaled (trace ++ new.labels) entries new
keeps_others trace entries old event reply new other right h = record {
  of_acts = others_step trace entries old event reply new other right h.of_acts;
  started = tagged_right trace old event reply new right h.started;
}

module _ (trace : List Label) (entries : List Entry) (first mid new : ManagerView) (tag piece : ℕ) (order : IsInOrder mid.adapter) (on_tags : AreOnTags mid) (distinct : AreDistinct mid.state) (kept : IsJournaled trace entries first)
    (reply : Reply) (right : IsRight mid (ActEvent tag) reply new) where
  -- the act of an entry that was booked
  pub keeps_entry : (entry : Entry) → BooksPiece first tag piece (Ok entry) mid → IsBookable first.adapter tag piece (Ok entry) → entry.piece ≡ piece → entry.tag ≡ tag → IsJournaled (trace ++ new.labels) (entries ++ entry ∷ []) new
  keeps_entry entry books can same_piece same_tag =
      let acts : ActsAsBooked trace piece entry reply new = booked_step trace first mid new tag piece entry books can order on_tags distinct kept.started same_piece same_tag reply right in
      let here : AreOfActs trace (Device (Act piece entry.bytes) ∷ []) (entry ∷ []) = ([], (entry, refl, acts.is_of_act), refl) in
      record {
        of_acts = one_of_acts trace new.labels entries (entry ∷ []) kept.of_acts (subst (λ ls. AreOfActs trace ls (entry ∷ [])) (sym acts.labels) here);
        started = tagged_right trace mid (ActEvent tag) reply new right (keeps_booked trace entries first tag piece (Ok entry) mid books kept).started;
      }

  -- the act of a failure that was booked is a fault
  pub keeps_failed : (completion : Completion) → BooksPiece first tag piece (Err completion) mid → IsBookable first.adapter tag piece (Err completion) → IsJournaled (trace ++ new.labels) entries new
  keeps_failed completion books can =
      let faults : FaultsAsBooked piece reply new = failed_step first mid new tag piece completion books can order on_tags distinct reply right in
      let here : AreOfActs trace (Device (Fault piece) ∷ []) [] = ([], refl, refl) in
      let joined : AreOfActs (trace ++ new.labels) (trace ++ new.labels) (entries ++ []) = one_of_acts trace new.labels entries [] kept.of_acts (subst (λ ls. AreOfActs trace ls []) (sym faults.labels) here) in
      record {
        of_acts = rw (append-nil entries) at joined;
        started = tagged_right trace mid (ActEvent tag) reply new right (keeps_booked trace entries first tag piece (Err completion) mid books kept).started;
      }

-- THE LAWS

pub distinct_at : {rules : Rules} {s : State} → IsReached rules s → AreDistinct s
distinct_at reached = AreDistinct-Run _ _ _ _ (AreDistinct-opening reached.arrays) reached.run

pub steps_keep_entries : StepsKeepEntries
steps_keep_entries trace entries old event reply new other right kept = keeps_others trace entries old event reply new other right kept

pub booked_acts_add_entries : BookedActsAddEntries
booked_acts_add_entries trace entries old booked new tag piece (Ok entry) reply can of books order fits reached right kept =
    keeps_entry trace entries old booked new tag piece order fits (distinct_at reached) kept reply right entry books can of.0 of.1
booked_acts_add_entries trace entries old booked new tag piece (Err completion) reply can of books order fits reached right kept =
    keeps_failed trace entries old booked new tag piece order fits (distinct_at reached) kept reply right completion books can

-- the machine's fresh piece of a tag is the adapter's
fresh_use : (v : ManagerView) (tag : ℕ) (p : Piece) → AreOnTags v → IsFreshOn v.state tag p → NoneFresh v.adapter tag → ⊥
fresh_use v tag p on_tags fresh none =
    let there : Contains (map use_on_tag v.adapter.tags) (piece_on_tag p) = Contains-permutation _ _ _ on_tags (there_mapped piece_on_tag v.state.pieces p fresh.is_out) in
    let found = mapped_there use_on_tag v.adapter.tags (piece_on_tag p) there in
    let at = found.1 in
    none found.0 (remove v.adapter.tags at.0)
    (record { in_use = IsPermutation-remove v.adapter.tags at.0 found.0 at.1 (sym at.2); has_tag = ap (λ (x : OnTag). x.tag) found.2 ∙ fresh.is_tag })
    (ap (λ (x : OnTag). x.fate) found.2 ∙ fresh.is_fresh)

idle_labels : (reset : Bool) (told : Told) (old new : ManagerView) → IsRightBy reset told old new → told ≡ tells_nothing old → new.labels ≡ []
idle_labels reset told old new by nothing = by.in_order ∙ rw nothing refl

module _ (trace : List Label) (entries : List Entry) (old : ManagerView) (tag : ℕ) (new : ManagerView) (fits : AreOnTags old) (none : NoneFresh old.adapter tag) (kept : IsJournaled trace entries old) where
  idle_reply : (reply : Reply) (told : Told) → ActReplies old tag reply new told → IsRightBy false told old new → IsJournaled (trace ++ new.labels) entries new
  idle_reply OkReply told (tells, handles) by = absurd (fresh_use old tag tells.piece fits tells.fresh none)
  idle_reply Ignored told (unmoved, nothing, handles) by =
      subst (λ ls. IsJournaled (trace ++ ls) entries new) (sym (idle_labels false told old new by unmoved.nothing))
      (subst (λ ls. IsJournaled ls entries new) (sym (append-nil trace))
      (record { of_acts = kept.of_acts; started = subst (λ (v : AdapterView). AllTagged (IsStarted trace) v) (sym unmoved.same_adapter) kept.started }))
  idle_reply (HandleReply handle) told h by = absurd h
  idle_reply (Requested id) told h by = absurd h
  idle_reply (Answered answer) told h by = absurd h
  idle_reply (Refused reason bytes) told h by = absurd h

module _ (old : ManagerView) (tag : ℕ) (new : ManagerView) (fits : AreOnTags old) (none : NoneFresh old.adapter tag) where
  silent_reply : (reply : Reply) (told : Told) → ActReplies old tag reply new told → IsRightBy false told old new → new.labels ≡ []
  silent_reply OkReply told (tells, handles) by = absurd (fresh_use old tag tells.piece fits tells.fresh none)
  silent_reply Ignored told (unmoved, nothing, handles) by = idle_labels false told old new by unmoved.nothing
  silent_reply (HandleReply handle) told h by = absurd h
  silent_reply (Requested id) told h by = absurd h
  silent_reply (Answered answer) told h by = absurd h
  silent_reply (Refused reason bytes) told h by = absurd h

pub idle_acts_tell_nothing : IdleActsTellNothing
idle_acts_tell_nothing old tag reply new fits none right = silent_reply old tag new fits none reply right.told right.replies right.by

pub idle_acts_keep_entries : IdleActsKeepEntries
idle_acts_keep_entries trace entries old tag reply new fits none right kept = idle_reply trace entries old tag new fits none kept reply right.told right.replies right.by

pub steps_stay_apart : StepsStayApart
steps_stay_apart old event reply new right apart =
    let l = led old event reply new right in
    step_apart l.reset l.told.reserves old.adapter l.told.device new.adapter l.by.adapter apart
