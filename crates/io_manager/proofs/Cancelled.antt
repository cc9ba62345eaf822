-- Cancellations as steps of the manager.
use Rattle.std.proofs.Common.{◌≡◌, ◌≢◌, inl, inr, ℕ, Bool, true, false, not, List, [], ◌∷◌, ◌++◌, Option, Some, None, refl, sym, ◌∙◌, ap, subst, map}
use Rattle.std.specs.Prelude.{Contains, option_map, slice_index_or, is_some, if◌then◌else◌}
use Rattle.io_manager.proofs.Common.{deque_capacity, cases_eq, All-weaker, All-contains, AdapterView, MovesByAll, Cancel, Rules, Cancels, Run, IsSame-refl, DeviceView, IsBeside, Handle, Id, Limits, OpenHandle, Refusal, InvalidHandle, NotFound, PacketBelow, Tables, partition_of, HasSome, HasNoneOf, IsOpenAt, IsNotOpenAt, ClosesSlot, HasNoneToMark, CancelsSlot, CancelsUnlessMarked, IsUnmarked, CancelsAll, IsOpenIn, ManagerView, Holder, rules_of}
use Rattle.slab.specs.Slab.{Slab, get, Updates as SlabUpdates}
use Rattle.machine.specs.State.{OpenRequest as OpenBelow}
use Rattle.io_manager.specs.declared.Reply.TheVariants.{Ok as OkReply, Refused, Ignored}
use Rattle.io_manager.specs.declared.tables.OpenRequest.{OpenRequest}
use Rattle.io_manager.specs.inside.Completion.{IsAt, HasNone}
use Rattle.io_manager.specs.Right.{Told, SameHandles, RefusesAlone, tells_nothing, as_cancel, IsHandleOpen, IsToCancel, CancelsAllOf, CancelsOne, HasTarget, HasOtherNumber, CloseReplies, CancelReplies, MarkReplies, IsRight}
use Rattle.io_manager.specs.inside.Sound.{SamePlaces, shown_state, is_gone, holder_of, view_of, IsHeldAt, IsOnMap, IsSound, HasNoneToStart, Collects, ManagerKept}
use Rattle.io_manager.proofs.Chained.{still_open, AreChained-closed}
use Rattle.io_manager.proofs.KeptBack.{settled_none, all_cancelled_none}
use Rattle.io_manager.proofs.Timely.{reached_timely}
use Rattle.io_manager.proofs.Marking.{IsBelow, held_below, holders_same}
use Rattle.io_manager.proofs.Over.{cancel_over, cancels_over}
use Rattle.io_manager.proofs.Quiet.{IsRightBy-unmoved}
use Rattle.io_manager.proofs.Righting.{same_queue, shown_places, IsServed, have_partitions}
use Rattle.io_manager.proofs.Stepping.{shown_at, holder_is}
use Rattle.io_manager.proofs.Telling.{step_kept}

-- a holder by its parts
abbrev a_holder : ℕ → ℕ → Holder
a_holder number handle = record { number = number; handle = handle }

holder_eq : (r : OpenRequest) (number handle : ℕ) → r.number ≡ number → r.handle ≡ handle → holder_of r ≡ record { number = number; handle = handle }
holder_eq r number handle e f = ap (λ m. a_holder m r.handle) e ∙ ap (λ k. a_holder number k) f

-- A HANDLE IS CLOSED

on_map_less : (rules : Rules) (old new : Slab OpenHandle) (slot : ℕ) → SlabUpdates old new slot None → IsOnMap rules old → IsOnMap rules new
on_map_less rules old new slot updates h other handle there = elim (cases_eq other slot) [
  | inl same ↦ let e : None ≡ Some handle = sym updates.changed ∙ ap (get new) (sym same) ∙ there in cc (e)
  | inr apart ↦ h other handle (sym (updates.others other apart) ∙ there)
]

pub closed_sound : (limits : Limits) (below : DeviceView) (tables tables' : Tables) (slot number : ℕ) → IsSound limits below tables → IsOpenIn tables.handles slot number → HasNoneToMark tables.requests number → ClosesSlot tables slot tables' → IsSound limits below tables'
closed_sound limits below tables tables' slot number h is_open none_left closes =
    subst (IsSound limits below) (sym closes.after) (record {
      fits = h.fits;
      numbers = record { requests = h.numbers.requests; handles = h.numbers.handles; rising = h.numbers.rising; submitted = h.numbers.submitted };
      held = h.held;
      few = h.few;
      places = record {
        labels = h.places.labels;
        answered = h.places.answered;
        alike = h.places.alike;
        label_bytes = h.places.label_bytes;
        answer_bytes = h.places.answer_bytes;
        untaken = h.places.untaken;
        handles = rw closes.slots h.places.handles;
        requests = h.places.requests;
      };
      on_map = on_map_less below.rules tables.handles tables'.handles slot closes.closes h.on_map;
      topmost = h.topmost;
      spots = h.spots;
      in_state = h.in_state;
      none_put_by = h.none_put_by;
      rising = h.rising;
      given = h.given;
      apart = h.apart;
      chained = AreChained-closed tables.handles tables'.handles tables.requests tables.next_handle tables.chains h.chained slot number is_open none_left closes.closes;
      numbered = h.numbered;
      counted = record { places = h.counted.places; counted = λ other number' o. h.counted.counted other number' (record { handle = o.handle; there = still_open tables.handles tables'.handles slot closes.closes other o.handle o.there; is_number = o.is_number }) };
    })

module _ (limits : Limits) (below : DeviceView) (tables : Tables) (old : ManagerView) (kept : ManagerKept limits below tables) (shown : view_of limits below tables ≡ old) (taken : old.labels ≡ []) where
  none_told : tables.labels.items ≡ []
  none_told = ap (λ (v : ManagerView). v.labels) shown ∙ taken

  abbrev view : ManagerView
  view = view_of limits below tables

  abbrev over : Rules
  over = rules_of limits below.rules

  -- where nothing happens
  pub unmoved_right : (Row : ManagerView → ManagerView → Told → Type 0) → Row view view (tells_nothing view) → IsRight (Row old old) old old
  unmoved_right Row row =
      subst (λ v. IsRight (Row v v) v v) shown (record { told = tells_nothing view; replies = row; by = IsRightBy-unmoved view none_told kept.none_recorded })

  refuses_alone : (reason : Refusal) → RefusesAlone view reason reason [] view (tells_nothing view)
  refuses_alone reason = record {
    is_reason = refl;
    no_bytes = refl;
    unmoved = record { nothing = refl; same_state = refl; same_adapter = refl };
    same_handles = record { handles = refl; next_handle = refl };
  }

  still : (below1 : DeviceView) → IsBeside below below1 → MovesByAll below.adapter [] below1.adapter
  still below1 beside = beside.same_adapter

  not_recorded : (below1 : DeviceView) → IsBeside below below1 → below1.adapter.labels ≡ []
  not_recorded below1 beside = ap (λ (a : AdapterView). a.labels) beside.same_adapter ∙ kept.none_recorded

  none_before : HasNoneToStart below.rules below.state
  none_before = settled_none below.rules below.state kept.settled (reached_timely over view.state kept.reached)

  -- with some cancelled none is left to start
  none_to_start : (below1 : DeviceView) → IsBeside below below1 → (numbers : List ℕ) → Run below.rules below.state (map as_cancel numbers) below1.state → HasNoneToStart below1.rules below1.state
  none_to_start below1 beside numbers run = subst (λ r. HasNoneToStart r below1.state) (sym beside.same_rules) (all_cancelled_none below.rules numbers below.state below1.state run none_before)

  -- the entry of an open request
  entry_is : (o : OpenBelow) (slot : ℕ) (r : OpenRequest) → Contains below.state.requests o → get tables.requests slot ≡ Some r → r.number ≡ o.number → r.cancelled ≡ o.cancelled
  entry_is o slot r is_open there number =
      let h : IsHeldAt _ tables.requests o = All-contains (IsHeldAt _ tables.requests) below.state.requests o kept.sound.held.held is_open in
      let same : h.slot ≡ slot = kept.sound.held.one_slot h.slot slot h.request r h.there there (h.same_number ∙ sym number) in
      let e : Some h.request ≡ Some r = sym h.there ∙ ap (get tables.requests) same ∙ there in
      let is : h.request ≡ r = cc (e) in
      ap (λ (x : OpenRequest). x.cancelled) (sym is) ∙ h.same_cancelled

  -- ALL OF A HANDLE

  module _ (handle : ℕ) (below1 : DeviceView) (tables1 : Tables) (h : CancelsAll below tables handle below1 tables1) (sound1 : IsSound limits below1 tables1) (none_left : HasNoneToMark tables1.requests handle) where
    to_cancel : (number : ℕ) → IsUnmarked tables.requests handle number → IsToCancel view handle number
    to_cancel number u =
        let b : IsBelow below.state.requests u.request = held_below tables.requests below.state.requests kept.sound.held u.slot u.request u.there in
        record {
          slot = u.slot;
          request = b.open';
          holds = shown_at tables.requests u.slot ∙ ap (option_map holder_of) u.there ∙ ap Some (holder_eq u.request number handle u.is_number u.of_handle);
          is_open = b.is_open;
          is_number = b.same_number ∙ u.is_number;
          not_yet = b.same_cancelled ∙ u.not_yet;
        }

    is_told : (number : ℕ) → IsToCancel view handle number → Contains h.numbers number
    is_told number t =
        let at : (r : OpenRequest) × (get tables.requests t.slot ≡ Some r) × (holder_of r ≡ a_holder number handle) = holder_is limits below tables kept.sound t.slot (a_holder number handle) t.holds in
        let is_number : at.0.number ≡ number = ap (λ (x : Holder). x.number) at.2 in
        let of_handle : at.0.handle ≡ handle = ap (λ (x : Holder). x.handle) at.2 in
        let not_yet : at.0.cancelled ≡ false = entry_is t.request t.slot at.0 t.is_open at.1 (is_number ∙ sym t.is_number) ∙ t.not_yet in
        elim (h.kept t.slot at.0 at.1) [
          | inl same ↦ absurd (none_left t.slot at.0 same of_handle not_yet)
          | inr marked ↦ subst (Contains h.numbers) is_number marked.1
        ]

    cancels_row : (told : Told) → told.own ≡ map as_cancel h.numbers → told.device ≡ [] → told.admitted ≡ view.holders → told.reserves ≡ None → CancelsAllOf view handle told
    cancels_row told own none holders reserves_none = record {
      numbers = h.numbers;
      own = own;
      rising = h.rising;
      each = All-weaker (IsUnmarked tables.requests handle) (IsToCancel view handle) to_cancel h.numbers h.each;
      all = is_told;
      no_device = none;
      holders = holders;
      reserves_none = reserves_none;
    }

    module _ (tables1' : Tables) (same : tables1' ≡ record tables1 { handles = tables1'.handles }) (slots : tables1'.handles.capacity ≡ tables1.handles.capacity) where
      state_is : tables1'.state ≡ tables.state
      state_is = ap (λ (t : Tables). t.state) same ∙ ap (λ (t : Tables). t.state) h.after

      next_is : tables1'.next_request ≡ tables.next_request
      next_is = ap (λ (t : Tables). t.next_request) same ∙ ap (λ (t : Tables). t.next_request) h.after

      places_same : SamePlaces tables tables1'
      places_same = record {
        labels = (ap (λ (t : Tables). t.labels.places) same ∙ h.label_places.0, ap (λ (t : Tables). t.labels.keeps) same ∙ h.label_places.1, ap (λ (t : Tables). t.labels.keeps_bytes) same ∙ h.label_places.2);
        answered = same_queue (ap (λ (t : Tables). t.answered) same ∙ ap (λ (t : Tables). t.answered) h.after);
        untaken = ap (λ (t : Tables). deque_capacity t.untaken) same ∙ ap (λ (t : Tables). deque_capacity t.untaken) h.after;
        handles = slots ∙ ap (λ (t : Tables). t.handles.capacity) h.after;
        requests = ap (λ (t : Tables). t.requests.capacity) same ∙ h.slots;
      }

      pub all_served : IsServed None limits below tables (map as_cancel h.numbers) [] below1 tables1'
      all_served = record {
        opened = below1.state;
        given = have_partitions tables1.requests below1.state.requests sound1.held;
        none_untaken = kept.none_recorded;
        run =
            subst (λ n. Run over view.state (map as_cancel h.numbers) (shown_state n (is_gone tables1'.state) below1.state)) (sym next_is)
            (subst (λ p. Run over view.state (map as_cancel h.numbers) (shown_state tables.next_request (is_gone p) below1.state)) (sym state_is)
            (cancels_over _ below.rules tables.next_request (is_gone tables.state) h.numbers below.state below1.state h.run));
        same_rules = h.beside.same_rules;
        device = IsSame-refl below1.state;
        recorded = not_recorded below1 h.beside;
        same_keeps = ap (λ (t : Tables). t.labels.keeps) same ∙ h.label_places.1;
        own_labels = ap (λ (t : Tables). t.labels.items) same ∙ h.tells ∙ ap (λ before. before ++ map as_cancel h.numbers) none_told;
        same_untaken = ap (λ (t : Tables). t.untaken.items) same ∙ ap (λ (t : Tables). t.untaken.items) h.after;
        places = shown_places limits below below1 tables tables1' h.beside.same_places places_same;
      }

      -- the row of what follows on it
      pub all_kept : (Row : ManagerView → ManagerView → Told → Type 0) (limits' : Limits) (below2 : DeviceView) (tables2 : Tables) → limits' ≡ limits → IsSound limits' below2 tables2 → Collects below1 tables1' below2 tables2
          → ((told : Told) → CancelsAllOf view handle told → Row view (view_of limits below2 tables2) told)
          → IsRight (Row old (view_of limits' below2 tables2)) old (view_of limits' below2 tables2) × ManagerKept limits' below2 tables2
      all_kept Row limits' below2 tables2 same' sound c row =
          step_kept limits below tables old kept shown Row (map as_cancel h.numbers) [] below1 tables1' all_served limits' below2 tables2 (still below1 h.beside) same' sound c
          (row _ (cancels_row _ refl (c.quiet (none_to_start below1 h.beside h.numbers h.run)) (ap (λ (t : Tables). (view_of limits below t).holders) same ∙ h.same_holders) refl))

  -- a close
  pub close_kept : (handle : Handle) (below1 : DeviceView) (tables1 : Tables) → IsHandleOpen view handle → CancelsAll below tables handle.number below1 tables1 → IsSound limits below1 tables1 → HasNoneToMark tables1.requests handle.number
      → (tables1' : Tables) → ClosesSlot tables1 handle.slot tables1' → (limits' : Limits) (below2 : DeviceView) (tables2 : Tables) → limits' ≡ limits → IsSound limits' below2 tables2 → Collects below1 tables1' below2 tables2
      → IsRight (CloseReplies old handle OkReply (view_of limits' below2 tables2)) old (view_of limits' below2 tables2) × ManagerKept limits' below2 tables2
  close_kept handle below1 tables1 is_open h sound1 none_left tables1' closes limits' below2 tables2 same sound c =
      all_kept handle.number below1 tables1 h sound1 none_left tables1' closes.after closes.slots (λ v new told. CloseReplies v handle OkReply new told) limits' below2 tables2 same sound c
      (λ told row. (record { was_open = is_open; closes = record { there = there; others = others }; next_handle = next_handle }, row))
    where
      handles_are : tables2.handles ≡ tables1'.handles
      handles_are = c.same_handles

      handles_were : tables1.handles ≡ tables.handles
      handles_were = ap (λ (t : Tables). t.handles) h.after

      there : slice_index_or tables2.handles.slots handle.slot None ≡ None
      there = ap (λ (s : Slab OpenHandle). get s handle.slot) handles_are ∙ closes.closes.changed

      others : (other : ℕ) → other ≢ handle.slot → slice_index_or tables2.handles.slots other None ≡ slice_index_or tables.handles.slots other None
      others other apart =
          ap (λ (s : Slab OpenHandle). get s other) handles_are ∙ closes.closes.others other apart ∙ ap (λ (s : Slab OpenHandle). get s other) handles_were

      next_handle : tables2.next_handle ≡ tables.next_handle
      next_handle = c.same_next_handle ∙ ap (λ (t : Tables). t.next_handle) closes.after ∙ ap (λ (t : Tables). t.next_handle) h.after

  pub close_refused : (handle : Handle) → partition_of tables.handles.slots handle ≡ None → IsRight (CloseReplies old handle (Refused InvalidHandle []) old) old old
  close_refused handle none = unmoved_right (λ v new told. CloseReplies v handle (Refused InvalidHandle []) new told) (none, refuses_alone InvalidHandle)

  -- CANCELIOEX

  pub cancel_all_kept : (handle : Handle) (below1 : DeviceView) (tables1 : Tables) → IsHandleOpen view handle → HasSome tables.requests handle.number → CancelsAll below tables handle.number below1 tables1 → IsSound limits below1 tables1
      → HasNoneToMark tables1.requests handle.number → (limits' : Limits) (below2 : DeviceView) (tables2 : Tables) → limits' ≡ limits → IsSound limits' below2 tables2 → Collects below1 tables1 below2 tables2
      → IsRight (CancelReplies old handle None OkReply (view_of limits' below2 tables2)) old (view_of limits' below2 tables2) × ManagerKept limits' below2 tables2
  cancel_all_kept handle below1 tables1 is_open some h sound1 none_left limits' below2 tables2 same sound c =
      all_kept handle.number below1 tables1 h sound1 none_left tables1 refl refl (λ v new told. CancelReplies v handle None OkReply new told) limits' below2 tables2 same sound c
      (λ told row. (
        is_open,
        (
          some.slot,
          some.request.number,
          shown_at tables.requests some.slot ∙ ap (option_map holder_of) some.there ∙ ap Some (holder_eq some.request some.request.number handle.number refl some.of_handle),
        ),
        row,
        record {
          handles = ap (λ (s : Slab OpenHandle). s.slots) (c.same_handles ∙ ap (λ (t : Tables). t.handles) h.after);
          next_handle = c.same_next_handle ∙ ap (λ (t : Tables). t.next_handle) h.after;
        },
      ))

  pub cancel_invalid : (handle : Handle) (target : Option Id) → partition_of tables.handles.slots handle ≡ None → IsRight (CancelReplies old handle target (Refused InvalidHandle []) old) old old
  cancel_invalid handle target none = unmoved_right (λ v new told. CancelReplies v handle target (Refused InvalidHandle []) new told) (none, refuses_alone InvalidHandle)

  pub cancel_none_found : (handle : Handle) → IsHandleOpen view handle → HasNoneOf tables.requests handle.number → IsRight (CancelReplies old handle None (Refused NotFound []) old) old old
  cancel_none_found handle is_open none =
      unmoved_right (λ v new told. CancelReplies v handle None (Refused NotFound []) new told) ((is_open, not_there), refuses_alone NotFound)
    where
      not_there : HasTarget view handle None → ⊥
      not_there t =
          let at : (r : OpenRequest) × (get tables.requests t.0 ≡ Some r) × (holder_of r ≡ a_holder t.1 handle.number) = holder_is limits below tables kept.sound t.0 (a_holder t.1 handle.number) t.2 in
          none t.0 at.0 at.1 (ap (λ (x : Holder). x.handle) at.2)

  pub cancel_one_not_found : (handle : Handle) (id : Id) → IsHandleOpen view handle → IsNotOpenAt tables.requests id handle.number → IsRight (CancelReplies old handle (Some id) (Refused NotFound []) old) old old
  cancel_one_not_found handle id is_open none =
      unmoved_right (λ v new told. CancelReplies v handle (Some id) (Refused NotFound []) new told) ((is_open, not_there), refuses_alone NotFound)
    where
      not_there : HasTarget view handle (Some id) → ⊥
      not_there t =
          let at : (r : OpenRequest) × (get tables.requests id.slot ≡ Some r) × (holder_of r ≡ a_holder id.number handle.number) = holder_is limits below tables kept.sound id.slot (a_holder id.number handle.number) t in
          none at.0 at.1 (ap (λ (x : Holder). x.number) at.2) (ap (λ (x : Holder). x.handle) at.2)

  -- ONE

  same_handles : (below1 below2 : DeviceView) (tables1 tables2 : Tables) → tables1.handles ≡ tables.handles → tables1.next_handle ≡ tables.next_handle → Collects below1 tables1 below2 tables2 → SameHandles view (view_of limits below2 tables2)
  same_handles below1 below2 tables1 tables2 handles next_handle c = record {
    handles = ap (λ (s : Slab OpenHandle). s.slots) (c.same_handles ∙ handles);
    next_handle = c.same_next_handle ∙ next_handle;
  }

  module _ (slot : ℕ) (request : OpenRequest) (there : get tables.requests slot ≡ Some request) (Row : ManagerView → ManagerView → Told → Type 0)
      (row : (new : ManagerView) (told : Told) → CancelsOne view request.number told → SameHandles view new → Row view new told) where
    b : IsBelow below.state.requests request
    b = held_below tables.requests below.state.requests kept.sound.held slot request there

    one_row : (told : Told) → told.own ≡ (if request.cancelled then [] else Cancel request.number ∷ []) → told.device ≡ [] → told.admitted ≡ view.holders → told.reserves ≡ None → CancelsOne view request.number told
    one_row told own none holders reserves_none = record {
      request = b.open';
      is_open = b.is_open;
      is_number = b.same_number;
      own = own ∙ ap (λ marked. if marked then [] else Cancel request.number ∷ []) (sym b.same_cancelled);
      no_device = none;
      holders = holders;
      reserves_none = reserves_none;
    }

    -- it was cancelled already
    marked_served : IsServed None limits below tables [] [] below tables
    marked_served = record {
      opened = below.state;
      given = have_partitions tables.requests below.state.requests kept.sound.held;
      none_untaken = kept.none_recorded;
      run = IsSame-refl _;
      same_rules = refl;
      device = IsSame-refl below.state;
      recorded = kept.none_recorded;
      own_labels = none_told;
      same_keeps = refl;
      same_untaken = refl;
      places = refl;
    }

    marked_kept : request.cancelled ≡ true → (limits' : Limits) (below2 : DeviceView) (tables2 : Tables) → limits' ≡ limits → IsSound limits' below2 tables2 → Collects below tables below2 tables2
        → IsRight (Row old (view_of limits' below2 tables2)) old (view_of limits' below2 tables2) × ManagerKept limits' below2 tables2
    marked_kept marked limits' below2 tables2 same sound c =
        step_kept limits below tables old kept shown Row [] [] below tables marked_served limits' below2 tables2 refl same sound c
        (row _ _ (one_row _ (ap (λ m. if m then [] else Cancel request.number ∷ []) (sym marked)) (c.quiet none_before) refl refl) (same_handles below below2 tables tables2 refl refl c))

    module _ (below1 : DeviceView) (tables1 : Tables) (s : CancelsSlot below tables slot below1 tables1) (sound1 : IsSound limits below1 tables1) where
      is_request : s.marks.request ≡ request
      is_request = let e : Some s.marks.request ≡ Some request = sym s.marks.there ∙ there in cc (e)

      number_is : s.place.number ≡ request.number
      number_is = ap (λ (p : PacketBelow). p.number) s.marks.is_place ∙ ap (λ (r : OpenRequest). r.number) is_request

      slot_run : Run below.rules below.state (map as_cancel (request.number ∷ [])) below1.state
      slot_run = (below1.state, inl (kept.settled.none_owed, subst (λ m. Cancels below.state m below1.state) number_is s.cancels), IsSame-refl below1.state)

      slot_places : SamePlaces tables tables1
      slot_places = record {
        labels = s.marks.label_places;
        answered = same_queue (ap (λ (t : Tables). t.answered) s.marks.after);
        untaken = ap (λ (t : Tables). deque_capacity t.untaken) s.marks.after;
        handles = ap (λ (t : Tables). t.handles.capacity) s.marks.after;
        requests = s.marks.slots;
      }

      slot_served : IsServed None limits below tables (Cancel request.number ∷ []) [] below1 tables1
      slot_served = record {
        opened = below1.state;
        given = have_partitions tables1.requests below1.state.requests sound1.held;
        none_untaken = kept.none_recorded;
        run =
            subst (λ n. Run over view.state (Cancel request.number ∷ []) (shown_state n (is_gone tables1.state) below1.state)) (sym (ap (λ (t : Tables). t.next_request) s.marks.after))
            (subst (λ p. Run over view.state (Cancel request.number ∷ []) (shown_state tables.next_request (is_gone p) below1.state)) (sym (ap (λ (t : Tables). t.state) s.marks.after)) (
              shown_state tables.next_request (is_gone tables.state) below1.state,
              inl (kept.settled.none_owed, cancel_over (Some limits.open_requests) below.rules tables.next_request (is_gone tables.state) below.state request.number below1.state (subst (λ m. Cancels below.state m below1.state) number_is s.cancels)),
              IsSame-refl _,
            ));
        same_rules = s.beside.same_rules;
        device = IsSame-refl below1.state;
        recorded = not_recorded below1 s.beside;
        same_keeps = s.marks.label_places.1;
        own_labels = s.marks.tells ∙ ap (λ before. before ++ Cancel s.marks.request.number ∷ []) none_told ∙ ap (λ (r : OpenRequest). Cancel r.number ∷ []) is_request;
        same_untaken = ap (λ (t : Tables). t.untaken.items) s.marks.after;
        places = shown_places limits below below1 tables tables1 s.beside.same_places slot_places;
      }

      slot_kept : (limits' : Limits) (below2 : DeviceView) (tables2 : Tables) → limits' ≡ limits → IsSound limits' below2 tables2 → Collects below1 tables1 below2 tables2
          → IsRight (Row old (view_of limits' below2 tables2)) old (view_of limits' below2 tables2) × ManagerKept limits' below2 tables2
      slot_kept limits' below2 tables2 same sound c =
          let not_yet : request.cancelled ≡ false = ap (λ (r : OpenRequest). r.cancelled) (sym is_request) ∙ s.marks.not_yet in
          step_kept limits below tables old kept shown Row (Cancel request.number ∷ []) [] below1 tables1 slot_served limits' below2 tables2 (still below1 s.beside) same sound c
          (row _ _ (one_row _ (ap (λ m. if m then [] else Cancel request.number ∷ []) (sym not_yet)) (c.quiet (none_to_start below1 s.beside (request.number ∷ []) slot_run)) (holders_same tables.requests tables1.requests slot s.marks.request s.marks.there s.marks.slots_are) refl)
          (same_handles below1 below2 tables1 tables2 (ap (λ (t : Tables). t.handles) s.marks.after) (ap (λ (t : Tables). t.next_handle) s.marks.after) c))

    pub one_kept : (below1 : DeviceView) (tables1 : Tables) → CancelsUnlessMarked below tables slot below1 tables1 → IsSound limits below1 tables1
        → (limits' : Limits) (below2 : DeviceView) (tables2 : Tables) → limits' ≡ limits → IsSound limits' below2 tables2 → Collects below1 tables1 below2 tables2
        → IsRight (Row old (view_of limits' below2 tables2)) old (view_of limits' below2 tables2) × ManagerKept limits' below2 tables2
    one_kept below1 tables1 cancels sound1 limits' below2 tables2 same sound c = elim cancels.one_of [
      | inl marked ↦ marked_kept (marked.0 request there) limits' below2 tables2 same sound (subst (λ v. Collects v tables below2 tables2) marked.1 (subst (λ t. Collects below1 t below2 tables2) marked.2 c))
      | inr s ↦ slot_kept below1 tables1 s sound1 limits' below2 tables2 same sound c
    ]

  -- MARK

  pub mark_ignored : (number : ℕ) → HasNone tables.requests number → IsRight (MarkReplies old number Ignored old) old old
  mark_ignored number none =
      unmoved_right (λ v new told. MarkReplies v number Ignored new told) (
        record { nothing = refl; same_state = refl; same_adapter = refl },
        All-weaker (IsHeldAt _ tables.requests) (HasOtherNumber number) (λ o h same. none h.slot h.request h.there (h.same_number ∙ same)) below.state.requests kept.sound.held.held,
        record { handles = refl; next_handle = refl },
      )

  pub mark_kept : (number slot : ℕ) → IsAt tables.requests number slot → (below1 : DeviceView) (tables1 : Tables) → CancelsUnlessMarked below tables slot below1 tables1 → IsSound limits below1 tables1
      → (limits' : Limits) (below2 : DeviceView) (tables2 : Tables) → limits' ≡ limits → IsSound limits' below2 tables2 → Collects below1 tables1 below2 tables2
      → IsRight (MarkReplies old number OkReply (view_of limits' below2 tables2)) old (view_of limits' below2 tables2) × ManagerKept limits' below2 tables2
  mark_kept number slot at below1 tables1 cancels sound1 limits' below2 tables2 same sound c =
      one_kept slot at.request at.there (λ v new told. MarkReplies v number OkReply new told) (λ new told one handles. (subst (λ n. CancelsOne view n told) at.same_number one, handles))
      below1 tables1 cancels sound1 limits' below2 tables2 same sound c

  pub cancel_one_kept : (handle : Handle) (id : Id) → IsHandleOpen view handle → IsOpenAt tables.requests id handle.number → (below1 : DeviceView) (tables1 : Tables) → CancelsUnlessMarked below tables id.slot below1 tables1 → IsSound limits below1 tables1
      → (limits' : Limits) (below2 : DeviceView) (tables2 : Tables) → limits' ≡ limits → IsSound limits' below2 tables2 → Collects below1 tables1 below2 tables2
      → IsRight (CancelReplies old handle (Some id) OkReply (view_of limits' below2 tables2)) old (view_of limits' below2 tables2) × ManagerKept limits' below2 tables2
  cancel_one_kept handle id is_open at below1 tables1 cancels sound1 limits' below2 tables2 same sound c =
      one_kept id.slot at.request at.there (λ v new told. CancelReplies v handle (Some id) OkReply new told)
      (λ new told one handles. (
        is_open,
        shown_at tables.requests id.slot ∙ ap (option_map holder_of) at.there ∙ ap Some (holder_eq at.request id.number handle.number at.is_number at.of_handle),
        subst (λ n. CancelsOne view n told) at.is_number one,
        handles,
      )) below1 tables1 cancels sound1 limits' below2 tables2 same sound c

-- WHETHER A HANDLE IS OPEN

pub none_of : (found known : Option ℕ) (b : Bool) → is_some found ≡ not b → b ≡ true → found ≡ known → known ≡ None
none_of None known b e none same = sym same
none_of (Some p) known b e none same = let f : true ≡ false = e ∙ ap not none in cc (f)

pub some_of : (found known : Option ℕ) (b : Bool) → is_some found ≡ not b → b ≡ false → found ≡ known → is_some known ≡ true
some_of found known b e some same = ap is_some (sym same) ∙ e ∙ ap not some
