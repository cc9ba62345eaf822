-- A handle given, or refused, is a right step.
use Rattle.std.proofs.Common.{◌≡◌, ◌<◌, inl, inr, ℕ, ◌+◌, false, List, [], ◌∷◌, Option, Some, None, refl, sym, ◌∙◌, ap, subst, arith, length}
use Rattle.io_manager.proofs.Common.{deque_capacity, nat_le, slice_set, cases_eq, leb-false, NtStatus, when, first_some, DeviceView, IsSame-refl, none_first, OpenHandle, Reply, Limits, Tables, number_limit, are_used_up, handle_limit, open_refusal, ManagerView, tells_nothing, IsRight, OpenReplies, Rules, State, is_going, handle_refusal, OpensHandle}
use Rattle.slab.specs.Slab.{Slab, get, slab_len, Updates as SlabUpdates}
use Rattle.ntstatus.specs.declared.NtStatus.TheVariants.{DeviceBusy as BusyStatus, DeletePending as PendingStatus, InvalidParameter as ParameterStatus}
use Rattle.io_manager.specs.declared.Reply.TheVariants.{Handle as HandleReply, Ok as OkReply, Request as Requested, Answered, Refused, Ignored}
use Rattle.io_manager.specs.inside.Sound.{own_places, view_of, IsInState, IsOnMap, IsSound, ManagerKept}
use Rattle.pnp.specs.declared.State.{State as PnpState}
use Rattle.pnp.specs.declared.State.TheVariants.{Started, RemovePending, Removing, Removed}
use Rattle.io_manager.proofs.Chained.{AreChained-opened}
use Rattle.io_manager.proofs.Counted.{AreCounted-opened}
use Rattle.io_manager.proofs.Quiet.{right_alone, IsRightBy-unmoved}
use Rattle.io_manager.proofs.Stepping.{ManagerKept-still}

-- numbers that are not used up are below the limit
pub numbers_last : (next : ℕ) → are_used_up next ≡ false → next < number_limit
numbers_last next h = leb-false number_limit next h

-- the flag of a removal is that of the state
pub going_is : (p : PnpState) (s : State) → IsInState p s → s.removing ≡ is_going p
going_is Started s h = h.1
going_is RemovePending s h = h.1
going_is Removing s h = h.1
going_is Removed s h = h.1

open_refusal_is : (limits : Limits) (below : DeviceView) (tables : Tables) (partition : ℕ) → IsInState tables.state below.state
    → open_refusal (view_of limits below tables) partition ≡ handle_refusal tables partition (length below.rules.partitions)
open_refusal_is limits below tables partition in_state =
    let rest : List (Option NtStatus) = when (nat_le (length below.rules.partitions) partition) ParameterStatus ∷ when (nat_le handle_limit (slab_len tables.handles)) BusyStatus ∷ [] in
    ap (λ b. first_some (when (are_used_up tables.next_handle) BusyStatus ∷ when b PendingStatus ∷ rest)) (going_is tables.state below.state in_state)

on_map : (rules : Rules) (old new : Slab OpenHandle) (slot : ℕ) (given : OpenHandle) → SlabUpdates old new slot (Some given) → given.partition < length rules.partitions
    → IsOnMap rules old → IsOnMap rules new
on_map rules old new slot given updates known h other handle there = elim (cases_eq other slot) [
  | inl same ↦
      let e : Some given ≡ Some handle = sym updates.changed ∙ ap (get new) (sym same) ∙ there in
      let same_handle : given ≡ handle = cc (e) in
      subst (λ (o : OpenHandle). o.partition < length rules.partitions) same_handle known
  | inr apart ↦ h other handle (sym (updates.others other apart) ∙ there)
]

given_sound : (limits : Limits) (below : DeviceView) (old : Tables) (handles : Slab OpenHandle) (counts : List ℕ) (partition slot : ℕ) → IsSound limits below old → get old.handles slot ≡ None → slot < 64 → counts ≡ slice_set old.open_counts slot 0
    → handle_refusal old partition (length below.rules.partitions) ≡ None
    → SlabUpdates old.handles handles slot (Some (record { number = old.next_handle; partition = partition })) → handles.capacity ≡ old.handles.capacity
    → IsSound limits below (record old { next_handle = old.next_handle + 1; handles = handles; open_counts = counts })
given_sound limits below old handles counts partition slot h free in_range counts_are admitted updates slots =
    let a : (are_used_up old.next_handle ≡ false) × _ = none_first (are_used_up old.next_handle) BusyStatus _ admitted in
    let g : (is_going old.state ≡ false) × _ = none_first (is_going old.state) PendingStatus _ a.1 in
    let b : (nat_le (length below.rules.partitions) partition ≡ false) × _ = none_first (nat_le (length below.rules.partitions) partition) ParameterStatus _ g.1 in
    let last : old.next_handle < number_limit = numbers_last old.next_handle a.0 in
    record {
      fits = h.fits;
      numbers = record { requests = h.numbers.requests; handles = omega arith; rising = h.numbers.rising; submitted = h.numbers.submitted };
      held = h.held;
      few = h.few;
      places = record {
        labels = h.places.labels;
        answered = h.places.answered;
        alike = h.places.alike;
        label_bytes = h.places.label_bytes;
        answer_bytes = h.places.answer_bytes;
        untaken = h.places.untaken;
        handles = slots ∙ h.places.handles;
        requests = h.places.requests;
      };
      on_map = on_map below.rules old.handles handles slot _ updates (leb-false (length below.rules.partitions) partition b.0) h.on_map;
      topmost = h.topmost;
      spots = h.spots;
      in_state = h.in_state;
      none_put_by = h.none_put_by;
      rising = h.rising;
      given = h.given;
      apart = h.apart;
      chained = AreChained-opened old.handles handles old.requests old.next_handle old.chains h.chained slot partition free in_range updates;
      numbered = h.numbered;
      counted = AreCounted-opened old.handles handles old.requests old.next_handle old.chains h.chained slot partition old.open_counts counts h.counted in_range updates counts_are;
    }

opened_sound : (limits : Limits) (below : DeviceView) (old : Tables) (partition : ℕ) (reply : Reply) (new : Tables) → IsSound limits below old
    → OpensHandle old partition (length below.rules.partitions) reply new → IsSound limits below new
opened_sound limits below old partition (HandleReply handle) new h opens =
    subst (IsSound limits below) (sym opens.after) (given_sound limits below old new.handles new.open_counts partition handle.slot h opens.was_free (let low : handle.slot < old.handles.capacity = opens.in_range in let slots : old.handles.capacity ≡ 64 = h.places.handles in omega (arith, low, slots)) opens.counts opens.not_refused
    (subst (λ n. SlabUpdates old.handles new.handles handle.slot (Some (let given : OpenHandle = record { number = n; partition = partition } in given))) opens.next_number opens.opens) opens.slots)
opened_sound limits below old partition (Refused reason bytes) new h opens = subst (IsSound limits below) (sym opens.2) h
opened_sound limits below old partition OkReply new h opens = absurd opens
opened_sound limits below old partition (Requested id) new h opens = absurd opens
opened_sound limits below old partition (Answered answer) new h opens = absurd opens
opened_sound limits below old partition Ignored new h opens = absurd opens

opened_right : (limits : Limits) (below : DeviceView) (old : Tables) (partition : ℕ) (reply : Reply) (new : Tables) → IsSound limits below old
    → old.labels.items ≡ [] → below.adapter.labels ≡ [] → OpensHandle old partition (length below.rules.partitions) reply new
    → IsRight (OpenReplies (view_of limits below old) partition reply (view_of limits below new)) (view_of limits below old) (view_of limits below new)
opened_right limits below old partition (HandleReply handle) new h none_told none_recorded opens =
    subst (λ t. IsRight (OpenReplies (view_of limits below old) partition (HandleReply handle) (view_of limits below t)) (view_of limits below old) (view_of limits below t)) (sym opens.after) (record {
      told = tells_nothing (view_of limits below old);
      replies = (
        record { nothing = refl; same_state = refl; same_adapter = refl },
        record {
          not_refused = open_refusal_is limits below old partition h.in_state ∙ opens.not_refused;
          next_number = opens.next_number;
          counted = refl;
          was_free = opens.was_free;
          in_range = let low = opens.in_range in let many = h.places.handles in omega arith;
          opens = record { there = opens.opens.changed; others = opens.opens.others };
        },
      );
      by =
          right_alone (view_of limits below old) [] (view_of limits below old).state None below.adapter.reserved new.handles.slots (old.next_handle + 1) old.labels.items old.untaken.items old.labels.keeps
          (below.places + own_places (record old { handles = new.handles })) (IsSame-refl _) refl none_recorded none_told refl refl
          (ap (λ (n : ℕ). below.places + (old.labels.places + old.answered.places + deque_capacity old.untaken + n + old.requests.capacity)) opens.slots);
    })
opened_right limits below old partition (Refused reason bytes) new h none_told none_recorded opens =
    subst (λ t. IsRight (OpenReplies (view_of limits below old) partition (Refused reason bytes) (view_of limits below t)) (view_of limits below old) (view_of limits below t)) (sym opens.2) (record {
      told = tells_nothing (view_of limits below old);
      replies = (
        open_refusal_is limits below old partition h.in_state ∙ opens.0,
        record {
          is_reason = refl;
          no_bytes = opens.1;
          unmoved = record { nothing = refl; same_state = refl; same_adapter = refl };
          same_handles = record { handles = refl; next_handle = refl };
        },
      );
      by = IsRightBy-unmoved (view_of limits below old) none_told none_recorded;
    })
opened_right limits below old partition OkReply new h none_told none_recorded opens = absurd opens
opened_right limits below old partition (Requested id) new h none_told none_recorded opens = absurd opens
opened_right limits below old partition (Answered answer) new h none_told none_recorded opens = absurd opens
opened_right limits below old partition Ignored new h none_told none_recorded opens = absurd opens

same_state : (limits : Limits) (below : DeviceView) (old : Tables) (partition : ℕ) (reply : Reply) (new : Tables) → OpensHandle old partition (length below.rules.partitions) reply new → new.state ≡ old.state
same_state limits below old partition (HandleReply handle) new opens = ap (λ (t : Tables). t.state) opens.after
same_state limits below old partition (Refused reason bytes) new opens = ap (λ (t : Tables). t.state) opens.2
same_state limits below old partition OkReply new opens = absurd opens
same_state limits below old partition (Requested id) new opens = absurd opens
same_state limits below old partition (Answered answer) new opens = absurd opens
same_state limits below old partition Ignored new opens = absurd opens

-- as it is shown: what holds between two steps holds after it
pub opened_kept : (limits : Limits) (below : DeviceView) (tables : Tables) (old : ManagerView) → ManagerKept limits below tables → view_of limits below tables ≡ old → old.labels ≡ []
    → (partition : ℕ) (reply : Reply) (new : Tables) → OpensHandle tables partition (length below.rules.partitions) reply new
    → IsRight (OpenReplies old partition reply (view_of limits below new)) old (view_of limits below new) × ManagerKept limits below new
opened_kept limits below tables old kept shown taken partition reply new opens =
    let right : IsRight (OpenReplies (view_of limits below tables) partition reply (view_of limits below new)) (view_of limits below tables) (view_of limits below new) =
    opened_right limits below tables partition reply new kept.sound (ap (λ (v : ManagerView). v.labels) shown ∙ taken) kept.none_recorded opens in (
      subst (λ v. IsRight (OpenReplies v partition reply (view_of limits below new)) v (view_of limits below new)) shown right,
      ManagerKept-still limits below tables new right.told kept right.by (opened_sound limits below tables partition reply new kept.sound opens) (same_state limits below tables partition reply new opens),
    )
