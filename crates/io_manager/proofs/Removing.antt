-- Plug and play calls as steps of the manager.
use Rattle.pnp.specs.declared.InvalidDeviceRequest.{InvalidDeviceRequest as InvalidDeviceRequestFault}
use Rattle.io_manager.proofs.Common.{deque_capacity, result_ok, IsPermutation-sym, IsPermutation-refl, IsPermutation-map, All-permutation, All-head, All-append, Slab, DeviceLabel, Start, Act, Fault, Return, AdapterView, MovesByAll, Label, Pause, Resume, Remove, Surprise, Rules, IsStart, beyond, held_back, as_timely, FreeStep, Run, as_label, IsSame-refl, DeviceView, IsTopmost, SameRooms, IsBeside, PausesAll, ResumesAll, DrainsAll, OpenHandle, Limits, InvalidDeviceRequest, Tables, ManagerView, Told, SameHandles, tells_nothing, TellsOne, pnp_state, IsInvalid, IsRecalled, PnpReplies, RecallReplies, IsRight, SameQueue, RequestReplies, label_of, MayDo, Does, rules_of}
use Rattle.std.proofs.Common.{◌≡◌, Result, Ok, Err, inl, inr, ℕ, Bool, true, false, List, [], ◌∷◌, ◌++◌, Option, Some, None, refl, sym, ◌∙◌, ap, subst, map}
use Rattle.std.specs.Prelude.{IsPermutation, IsTrue, IsFalse, All, if◌then◌else◌}
use Rattle.machine.specs.State.{OpenRequest, State, IsSame}
use Rattle.pnp.specs.declared.State.{State as PnpState}
use Rattle.pnp.specs.declared.State.TheVariants.{Started, RemovePending, Removing, Removed}
use Rattle.pnp.specs.declared.Request.{Request}
use Rattle.pnp.specs.declared.Request.TheVariants.{QueryRemove as QueryRequest, CancelRemove as CancelRequest, Remove as RemoveRequest, SurpriseRemove as SurpriseRequest}
use Rattle.pnp.specs.Table.{Event, QueryRemove, Remove as RemoveDevice, SurpriseRemove, event_of, next}
use Rattle.io_manager.specs.declared.Reply.TheVariants.{Ok as OkReply, Refused}
use Rattle.io_manager.specs.inside.Sound.{shown_state, is_gone, view_of, IsSpotted, IsInState, IsSound, HasNoneToStart, Collects, ManagerKept}
use Rattle.io_manager.proofs.AdapterJoins.{labels_moved}
use Rattle.io_manager.proofs.Askings.{AsksSame, asked, AreHeld-along}
use Rattle.io_manager.proofs.Fitted.{FitsBelow-same}
use Rattle.io_manager.proofs.KeptBack.{paused_none}
use Rattle.io_manager.proofs.Over.{shown_same}
use Rattle.io_manager.proofs.Quiet.{IsRightBy-unmoved}
use Rattle.io_manager.proofs.Righting.{same_queue, shown_places, IsServed, have_partitions, IsSound-moves}
use Rattle.io_manager.proofs.Telling.{step_kept}

-- THE STATE

-- the state is what the machine's flags show
pub state_is : (p : PnpState) (s : State) → IsInState p s → pnp_state (record s { removed = is_gone p }) ≡ p
state_is Started s h = rw (h.0, h.1) refl
state_is RemovePending s h = rw (h.0, h.1) refl
state_is Removing s h = rw (h.0, h.1) refl
state_is Removed s h = rw (h.0, h.1) refl

-- THE TABLE'S ROWS

pub valid_of : (r : Result PnpState InvalidDeviceRequestFault) (x : Option PnpState) (p : PnpState) → result_ok r ≡ x → r ≡ Ok p → x ≡ Some p
valid_of r x p e is = sym e ∙ ap result_ok is

pub invalid_of : (r : Result PnpState InvalidDeviceRequestFault) (x : Option PnpState) (fault : InvalidDeviceRequestFault) → result_ok r ≡ x → r ≡ Err fault → x ≡ None
invalid_of r x fault e is = sym e ∙ ap result_ok is

-- where a request leads from, where to, and its label
abbrev IsRow : Request → PnpState → PnpState → Label → Type 0
IsRow QueryRequest p q label = (p ≡ Started) × (q ≡ RemovePending) × (label ≡ Pause)
IsRow CancelRequest p q label = (p ≡ RemovePending) × (q ≡ Started) × (label ≡ Resume)
IsRow RemoveRequest p q label = (p ≡ RemovePending) × (q ≡ Removing) × (label ≡ Remove)
IsRow SurpriseRequest p q label = (is_gone p ≡ false) × (q ≡ Removing) × (label ≡ Surprise)

row_of : (request : Request) (p q : PnpState) (label : Label) → next (event_of request) p ≡ Some q → label_of request p ≡ Some label → IsRow request p q label
row_of QueryRequest Started q label h k = (refl, cc (h), cc (k))
row_of QueryRequest RemovePending q label h k = cc (h)
row_of QueryRequest Removing q label h k = cc (h)
row_of QueryRequest Removed q label h k = cc (h)
row_of CancelRequest Started q label h k = cc (k)
row_of CancelRequest RemovePending q label h k = (refl, cc (h), cc (k))
row_of CancelRequest Removing q label h k = cc (h)
row_of CancelRequest Removed q label h k = cc (h)
row_of RemoveRequest Started q label h k = cc (h)
row_of RemoveRequest RemovePending q label h k = (refl, cc (h), cc (k))
row_of RemoveRequest Removing q label h k = cc (h)
row_of RemoveRequest Removed q label h k = cc (h)
row_of SurpriseRequest Started q label h k = (refl, cc (h), cc (k))
row_of SurpriseRequest RemovePending q label h k = (refl, cc (h), cc (k))
row_of SurpriseRequest Removing q label h k = cc (h)
row_of SurpriseRequest Removed q label h k = cc (h)

-- a query is taken back with no label only where none is pending
unasked : (p : PnpState) → label_of CancelRequest p ≡ None → p ≡ Started
unasked Started none = refl
unasked RemovePending none = cc (none)
unasked Removing none = cc (none)
unasked Removed none = cc (none)

not_removing_of : (p : PnpState) (s : State) → next SurpriseRemove p ≡ Some Removing → IsInState p s → IsFalse s.removing
not_removing_of Started s h k = k.1
not_removing_of RemovePending s h k = k.1
not_removing_of Removing s h k = cc (h)
not_removing_of Removed s h k = cc (h)

-- what is refused has the row of a refusal
invalid_row : (request : Request) (old new : ManagerView) (told : Told) → IsInvalid old (event_of request) InvalidDeviceRequest [] new told → RequestReplies request old (Refused InvalidDeviceRequest []) new told
invalid_row QueryRequest old new told h = h
invalid_row CancelRequest old new told h = h
invalid_row RemoveRequest old new told h = h
invalid_row SurpriseRequest old new told h = h

-- a request leaves the spots below as they are
pub does_rooms : (request : Request) (old new : DeviceView) → Does request old new → SameRooms old.rooms new.rooms
does_rooms QueryRequest old new h = h.beside.same_rooms
does_rooms CancelRequest old new h = h.moves.same_rooms
does_rooms RemoveRequest old new h = h.beside.same_rooms
does_rooms SurpriseRequest old new h = h.beside.same_rooms

-- WHAT IS ASKED STAYS, WHATEVER IS LATE

map_same : {X Y : Type 0} (f : X → Y) (g : X → X) (xs : List X) → ((x : X) → f (g x) ≡ f x) → map f (map g xs) ≡ map f xs
map_same f g [] same = refl
map_same f g (x ∷ xs) same = ap (λ y. y ∷ map f (map g xs)) (same x) ∙ ap (λ ys. f x ∷ ys) (map_same f g xs same)

held_back_asked : (window : Option ℕ) (xs : List OpenRequest) → map asked (held_back window xs) ≡ map asked xs
held_back_asked None xs = refl
held_back_asked (Some window) xs = map_same asked (beyond window xs) xs (λ o. refl)

timely_asked : (xs : List OpenRequest) → map asked (map as_timely xs) ≡ map asked xs
timely_asked xs = map_same asked as_timely xs (λ o. refl)

asks_as : (s s' : State) (requests : List OpenRequest) → IsPermutation s'.requests requests → map asked requests ≡ map asked s.requests → s'.next_request ≡ s.next_request → AsksSame s s'
asks_as s s' requests p same next_request = record {
  requests = subst (λ xs. IsPermutation (map asked s'.requests) xs) same (IsPermutation-map asked _ _ p);
  next_request = next_request;
}

drained_asked : (paused : Bool) (window : Option ℕ) (xs : List OpenRequest) → map asked (if paused then xs else held_back window xs) ≡ map asked xs
drained_asked true window xs = refl
drained_asked false window xs = held_back_asked window xs

-- NOTHING STARTS WHILE REMOVING

no_starts : (rules : Rules) (starts : List DeviceLabel) (more : List Label) (s s' : State) → IsTrue s.removing → All IsStart starts → Run rules s (map as_label starts ++ more) s' → starts ≡ []
no_starts rules [] more s s' removing only run = refl
no_starts rules (Start piece tag block ∷ starts) more s s' removing only (mid, inl (free, step), run) = absurd (both s.removing removing step.may_start.not_removing)
  where
    both : (b : Bool) → IsTrue b → IsFalse b → ⊥
    both true going staying = cc (staying)
    both false going staying = cc (going)
no_starts rules (Start piece tag block ∷ starts) more s s' removing only (mid, inr none, run) = absurd none
no_starts rules (Act piece bytes ∷ starts) more s s' removing only run = absurd (All-head IsStart _ starts only)
no_starts rules (Fault piece ∷ starts) more s s' removing only run = absurd (All-head IsStart _ starts only)
no_starts rules (Return piece class ∷ starts) more s s' removing only run = absurd (All-head IsStart _ starts only)

-- THE TABLES WITH ANOTHER STATE

-- the state moved on, and that is told
pub record MovedTo (old : Tables) (p : PnpState) (label : Label) (new : Tables) : Type 0 where
  pub tells : new.labels.items ≡ old.labels.items ++ label ∷ []
  pub label_places : SameQueue old.labels new.labels
  pub after : new ≡ record old { state = p; labels = new.labels }

moved_as : (old : Tables) (q p : PnpState) (label label' : Label) (new : Tables) → q ≡ p → label ≡ label' → MovedTo old q label new → MovedTo old p label' new
moved_as old q p label label' new same same_label moved = subst (λ x. MovedTo old p x new) same_label (subst (λ x. MovedTo old x label new) same moved)

beside_sound : (limits : Limits) (below below' : DeviceView) (tables tables1 : Tables) (p : PnpState) (label : Label) → IsSound limits below tables → IsBeside below below' → AsksSame below.state below'.state → IsInState p below'.state
    → MovedTo tables p label tables1 → IsSound limits below' tables1
beside_sound limits below below' tables tables1 p label h beside asks in_state moved =
    subst (IsSound limits below') (sym moved.after) (record {
      fits = FitsBelow-same limits below below' beside.same_rules beside.same_most h.fits;
      numbers = record {
        requests = h.numbers.requests;
        handles = h.numbers.handles;
        rising = rw asks.next_request h.numbers.rising;
        submitted = rw beside.same_submitted h.numbers.submitted;
      };
      held = AreHeld-along tables.requests below.state below'.state asks h.held;
      few = h.few;
      places = record {
        labels = moved.label_places.0 ∙ h.places.labels;
        answered = h.places.answered;
        alike = h.places.alike ∙ sym moved.label_places.1;
        label_bytes = moved.label_places.2 ∙ h.places.label_bytes;
        answer_bytes = h.places.answer_bytes;
        untaken = h.places.untaken;
        handles = h.places.handles;
        requests = h.places.requests;
      };
      on_map = rw beside.same_rules h.on_map;
      topmost = All-permutation IsTopmost _ _ (IsPermutation-sym _ _ beside.same_packets) h.topmost;
      spots = All-permutation (IsSpotted tables.next_request tables.requests) _ _ (IsPermutation-sym _ _ beside.same_packets) h.spots;
      in_state = in_state;
      none_put_by = h.none_put_by;
      rising = h.rising;
      given = h.given;
      apart = h.apart;
      chained = h.chained;
      numbered = h.numbered;
      counted = h.counted;
    })

module _ (limits : Limits) (below : DeviceView) (tables : Tables) (old : ManagerView) (kept : ManagerKept limits below tables) (shown : view_of limits below tables ≡ old) (taken : old.labels ≡ []) where
  none_told : tables.labels.items ≡ []
  none_told = ap (λ (v : ManagerView). v.labels) shown ∙ taken

  abbrev over : Rules
  over = rules_of limits below.rules

  -- what is shown of a state before the removal has ended
  abbrev seen : State → State
  seen s = shown_state tables.next_request false s

  -- a request in a wrong state changes nothing
  pub invalid_right : (request : Request) → next (event_of request) tables.state ≡ None → IsRight (RequestReplies request old (Refused InvalidDeviceRequest []) old) old old
  invalid_right request none =
      subst (λ v. IsRight (RequestReplies request v (Refused InvalidDeviceRequest []) v) v v) shown (record {
        told = tells_nothing (view_of limits below tables);
        replies = invalid_row request (view_of limits below tables) (view_of limits below tables) (tells_nothing (view_of limits below tables)) (record {
          invalid = ap (next (event_of request)) (state_is tables.state below.state kept.sound.in_state) ∙ none;
          refuses = record {
            is_reason = refl;
            no_bytes = refl;
            unmoved = record { nothing = refl; same_state = refl; same_adapter = refl };
            same_handles = record { handles = refl; next_handle = refl };
          };
        });
        by = IsRightBy-unmoved (view_of limits below tables) none_told kept.none_recorded;
      })

  module _ (p : PnpState) (label : Label) (tables1 : Tables) (moved : MovedTo tables p label tables1) (not_gone : is_gone tables.state ≡ false) (not_yet : is_gone p ≡ false) where
    same_handles : (below1 below2 : DeviceView) (tables2 : Tables) → Collects below1 tables1 below2 tables2 → SameHandles (view_of limits below tables) (view_of limits below2 tables2)
    same_handles below1 below2 tables2 c = record {
      handles = ap (λ (handles : Slab OpenHandle). handles.slots) (c.same_handles ∙ ap (λ (t : Tables). t.handles) moved.after);
      next_handle = c.same_next_handle ∙ ap (λ (t : Tables). t.next_handle) moved.after;
    }

    -- the label leads the manager's machine to where the device below changed its flags
    served : (opened : State) (labels : List DeviceLabel) (below1 : DeviceView) → FreeStep over (seen below.state) label (seen opened) → AsksSame below.state opened → below1.rules ≡ below.rules
        → Run below.rules opened (map as_label labels) below1.state → below1.adapter.labels ≡ labels → below1.places ≡ below.places → IsServed None limits below tables (label ∷ []) labels below1 tables1
    served opened labels below1 step asks same_rules device recorded as_many = record {
      opened = opened;
      given = have_partitions tables.requests opened.requests (AreHeld-along tables.requests below.state opened asks kept.sound.held);
      none_untaken = kept.none_recorded;
      run =
          subst (λ b. Run over (shown_state tables.next_request b below.state) (label ∷ []) (shown_state tables1.next_request (is_gone tables1.state) opened)) (sym not_gone)
          (subst (λ n. Run over (seen below.state) (label ∷ []) (shown_state n (is_gone tables1.state) opened)) (sym (ap (λ (t : Tables). t.next_request) moved.after))
          (subst (λ b. Run over (seen below.state) (label ∷ []) (shown_state tables.next_request b opened)) (sym (ap (λ (t : Tables). is_gone t.state) moved.after ∙ not_yet))
          (seen opened, inl (kept.settled.none_owed, step), IsSame-refl _)));
      same_rules = same_rules;
      device = device;
      recorded = recorded;
      same_keeps = moved.label_places.1;
      own_labels = moved.tells ∙ ap (λ before. before ++ label ∷ []) none_told;
      same_untaken = ap (λ (t : Tables). t.untaken.items) moved.after;
      places = shown_places limits below below1 tables tables1 as_many (record {
        labels = moved.label_places;
        answered = same_queue (ap (λ (t : Tables). t.answered) moved.after);
        untaken = ap (λ (t : Tables). deque_capacity t.untaken) moved.after;
        handles = ap (λ (t : Tables). t.handles.capacity) moved.after;
        requests = ap (λ (t : Tables). t.requests.capacity) moved.after;
      });
    }

    still : (below1 : DeviceView) → IsBeside below below1 → MovesByAll below.adapter [] below1.adapter
    still below1 beside = beside.same_adapter

    -- the device's labels come only where something has ended or may start
    valid_kept : (event : Event) (below1 : DeviceView) (limits' : Limits) (below2 : DeviceView) (tables2 : Tables) → next event tables.state ≡ Some p → IsBeside below below1
        → FreeStep over (seen below.state) label (seen below1.state) → AsksSame below.state below1.state → limits' ≡ limits → IsSound limits' below2 tables2 → (c : Collects below1 tables1 below2 tables2) → c.starts ≡ []
        → IsRight (PnpReplies old event p label OkReply (view_of limits' below2 tables2)) old (view_of limits' below2 tables2) × ManagerKept limits' below2 tables2
    valid_kept event below1 limits' below2 tables2 valid beside step asks same sound c none =
        step_kept limits below tables old kept shown (λ v new told. PnpReplies v event p label OkReply new told) (label ∷ []) [] below1 tables1
        (served below1.state [] below1 step asks beside.same_rules (IsSame-refl _) (ap (λ (a : AdapterView). a.labels) beside.same_adapter ∙ kept.none_recorded) beside.same_places)
        limits' below2 tables2 (still below1 beside) same sound c (record {
          valid = ap (next event) (state_is tables.state below.state kept.sound.in_state) ∙ valid;
          tells = record { own = refl; holders = ap (λ (t : Tables). (view_of limits below t).holders) moved.after; reserves_none = refl };
          no_device = none;
          handles = same_handles below1 below2 tables2 c;
        })

  -- QUERY

  module _ (below1 : DeviceView) (tables1 : Tables) (pauses : PausesAll below below1) (was : tables.state ≡ Started) (moved : MovedTo tables RemovePending Pause tables1) where
    paused_asks : AsksSame below.state below1.state
    paused_asks = asks_as below.state below1.state (held_back below.rules.window below.state.requests) pauses.pauses.after.requests (held_back_asked below.rules.window below.state.requests) pauses.pauses.after.next_request

    query_sound : IsSound limits below1 tables1
    query_sound = beside_sound limits below below1 tables tables1 RemovePending Pause kept.sound pauses.beside paused_asks (pauses.pauses.after.paused, subst IsFalse (sym pauses.pauses.after.removing) pauses.pauses.not_removing) moved

    none_to_start : HasNoneToStart below1.rules below1.state
    none_to_start = subst (λ r. HasNoneToStart r below1.state) (sym pauses.beside.same_rules) (paused_none below.rules below.state below1.state pauses.pauses kept.settled)

    query_kept : (limits' : Limits) (below2 : DeviceView) (tables2 : Tables) → limits' ≡ limits → IsSound limits' below2 tables2 → Collects below1 tables1 below2 tables2
        → IsRight (PnpReplies old QueryRemove RemovePending Pause OkReply (view_of limits' below2 tables2)) old (view_of limits' below2 tables2) × ManagerKept limits' below2 tables2
    query_kept limits' below2 tables2 same sound c =
        valid_kept RemovePending Pause tables1 moved (ap is_gone was) refl QueryRemove below1 limits' below2 tables2 (ap (next QueryRemove) was) pauses.beside
        (record { not_paused = pauses.pauses.not_paused; not_removing = pauses.pauses.not_removing; after = shown_same tables.next_request false below1.state _ pauses.pauses.after })
        paused_asks same sound c (c.quiet none_to_start)

  -- REMOVE

  module _ (below1 : DeviceView) (tables1 : Tables) (drains : DrainsAll below below1) where
    drained_asks : AsksSame below.state below1.state
    drained_asks = asks_as below.state below1.state _ drains.drains.requests (drained_asked below.state.paused below.rules.window below.state.requests) drains.drains.next_request

    drained_sound : (label : Label) → MovedTo tables Removing label tables1 → IsSound limits below1 tables1
    drained_sound label moved = beside_sound limits below below1 tables tables1 Removing label kept.sound drains.beside drained_asks (drains.drains.paused, drains.drains.removing) moved

    removed_kept : (event : Event) (label : Label) → MovedTo tables Removing label tables1 → is_gone tables.state ≡ false → next event tables.state ≡ Some Removing → FreeStep over (seen below.state) label (seen below1.state)
        → (limits' : Limits) (below2 : DeviceView) (tables2 : Tables) → limits' ≡ limits → IsSound limits' below2 tables2 → Collects below1 tables1 below2 tables2
        → IsRight (PnpReplies old event Removing label OkReply (view_of limits' below2 tables2)) old (view_of limits' below2 tables2) × ManagerKept limits' below2 tables2
    removed_kept event label moved not_gone valid step limits' below2 tables2 same sound c =
        valid_kept Removing label tables1 moved not_gone refl event below1 limits' below2 tables2 valid drains.beside step drained_asks same sound c
        (no_starts below1.rules c.starts _ below1.state below2.state drains.drains.removing c.only_starts c.run)

    remove_kept : tables.state ≡ RemovePending → MovedTo tables Removing Remove tables1
        → (limits' : Limits) (below2 : DeviceView) (tables2 : Tables) → limits' ≡ limits → IsSound limits' below2 tables2 → Collects below1 tables1 below2 tables2
        → IsRight (PnpReplies old RemoveDevice Removing Remove OkReply (view_of limits' below2 tables2)) old (view_of limits' below2 tables2) × ManagerKept limits' below2 tables2
    remove_kept was moved limits' below2 tables2 same sound c =
        removed_kept RemoveDevice Remove moved (ap is_gone was) (ap (next RemoveDevice) was) (record { is_paused = paused; after = shown_same tables.next_request false below1.state _ after }) limits' below2 tables2 same sound c
      where
        paused : IsTrue below.state.paused
        paused = (subst (λ p. IsInState p below.state) was kept.sound.in_state).0

        -- it was paused, so none is held back
        after : IsSame below1.state (record below.state { paused = false; removing = true })
        after = subst (λ b. IsSame below1.state (record below.state { paused = false; removing = true; requests = if b then below.state.requests else held_back below.rules.window below.state.requests })) paused drains.drains

    surprise_kept : IsFalse below.state.removing → is_gone tables.state ≡ false → next SurpriseRemove tables.state ≡ Some Removing → MovedTo tables Removing Surprise tables1
        → (limits' : Limits) (below2 : DeviceView) (tables2 : Tables) → limits' ≡ limits → IsSound limits' below2 tables2 → Collects below1 tables1 below2 tables2
        → IsRight (PnpReplies old SurpriseRemove Removing Surprise OkReply (view_of limits' below2 tables2)) old (view_of limits' below2 tables2) × ManagerKept limits' below2 tables2
    surprise_kept not_removing not_gone valid moved limits' below2 tables2 same sound c =
        removed_kept SurpriseRemove Surprise moved not_gone valid (record { not_removing = not_removing; drains = shown_same tables.next_request false below1.state _ drains.drains }) limits' below2 tables2 same sound c

  -- A QUERY TAKEN BACK

  module _ (below1 : DeviceView) (tables1 : Tables) (resumes : ResumesAll below below1) (was : tables.state ≡ RemovePending) (moved : MovedTo tables Started Resume tables1) where
    resumed_asks : AsksSame below.state resumes.resumed
    resumed_asks = asks_as below.state resumes.resumed (map as_timely below.state.requests) resumes.resumes.after.requests (timely_asked below.state.requests) resumes.resumes.after.next_request

    recalled : (new : ManagerView) (told : Told) → TellsOne (view_of limits below tables) Resume told → All IsStart told.device → IsRecalled (pnp_state (view_of limits below tables).state) (view_of limits below tables) new told
    recalled new told one only = subst (λ p. IsRecalled p (view_of limits below tables) new told) (sym (state_is tables.state below.state kept.sound.in_state ∙ was)) (one, only)

    resume_sound : IsSound limits below1 tables1
    resume_sound =
        IsSound-moves limits (record below { state = resumes.resumed }) tables1 resumes.starts below1
        (beside_sound limits below (record below { state = resumes.resumed }) tables tables1 Started Resume kept.sound
        (record { same_rules = refl; same_packets = IsPermutation-refl _; same_rooms = λ spot. refl; same_submitted = refl; same_most = refl; same_places = refl; same_adapter = refl })
        resumed_asks (resumes.resumes.after.paused, subst IsFalse (sym resumes.resumes.after.removing) (subst (λ p. IsInState p below.state) was kept.sound.in_state).1) moved)
        resumes.moves

    resume_kept : (limits' : Limits) (below2 : DeviceView) (tables2 : Tables) → limits' ≡ limits → IsSound limits' below2 tables2 → Collects below1 tables1 below2 tables2
        → IsRight (RecallReplies old OkReply (view_of limits' below2 tables2)) old (view_of limits' below2 tables2) × ManagerKept limits' below2 tables2
    resume_kept limits' below2 tables2 same sound c =
        step_kept limits below tables old kept shown (λ v new told. RecallReplies v OkReply new told) (Resume ∷ []) resumes.starts below1 tables1
        (served Started Resume tables1 moved (ap is_gone was) refl resumes.resumed resumes.starts below1
        (record { is_paused = resumes.resumes.is_paused; after = shown_same tables.next_request false resumes.resumed _ resumes.resumes.after }) resumed_asks resumes.moves.same_rules resumes.moves.run
        (labels_moved below.adapter resumes.starts below1.adapter resumes.moves.adapter ∙ ap (λ before. before ++ resumes.starts) kept.none_recorded) resumes.moves.same_places)
        limits' below2 tables2 resumes.moves.adapter same sound c (
          recalled (view_of limits below2 tables2) _ (record { own = refl; holders = ap (λ (t : Tables). (view_of limits below t).holders) moved.after; reserves_none = refl }) (All-append IsStart resumes.starts c.starts resumes.only_starts c.only_starts),
          same_handles Started Resume tables1 moved (ap is_gone was) refl below1 below2 tables2 c,
        )

  -- with no query pending nothing happens
  recall_unmoved : tables.state ≡ Started → IsRight (RecallReplies old OkReply old) old old
  recall_unmoved was =
      subst (λ v. IsRight (RecallReplies v OkReply v) v v) shown (record {
        told = tells_nothing (view_of limits below tables);
        replies = (
          subst (λ p. IsRecalled p (view_of limits below tables) (view_of limits below tables) (tells_nothing (view_of limits below tables))) (sym (state_is tables.state below.state kept.sound.in_state ∙ was))
              (record { nothing = refl; same_state = refl; same_adapter = refl }),
          record { handles = refl; next_handle = refl },
        );
        by = IsRightBy-unmoved (view_of limits below tables) none_told kept.none_recorded;
      })

  -- ANY REQUEST

  -- the device below may do its part
  pub may_do : (request : Request) (q : PnpState) (label : Label) → next (event_of request) tables.state ≡ Some q → label_of request tables.state ≡ Some label → MayDo request below.state
  may_do QueryRequest q label valid told = subst (λ p. IsInState p below.state) (row_of QueryRequest tables.state q label valid told).0 kept.sound.in_state
  may_do CancelRequest q label valid told = ((subst (λ p. IsInState p below.state) (row_of CancelRequest tables.state q label valid told).0 kept.sound.in_state).0, kept.settled.cancelled)
  may_do RemoveRequest q label valid told = tt
  may_do SurpriseRequest q label valid told = tt

  -- where no label is told nothing happens
  pub unmoved_right : (request : Request) → label_of request tables.state ≡ None → IsRight (RequestReplies request old OkReply old) old old
  unmoved_right QueryRequest none = cc (none)
  unmoved_right CancelRequest none = recall_unmoved (unasked tables.state none)
  unmoved_right RemoveRequest none = cc (none)
  unmoved_right SurpriseRequest none = cc (none)

  pub moved_sound : (request : Request) (q : PnpState) (label : Label) (below1 : DeviceView) (tables1 : Tables) → next (event_of request) tables.state ≡ Some q → label_of request tables.state ≡ Some label
      → Does request below below1 → MovedTo tables q label tables1 → IsSound limits below1 tables1
  moved_sound QueryRequest q label below1 tables1 valid told does moved =
      let row : IsRow QueryRequest tables.state q label = row_of QueryRequest tables.state q label valid told in
      query_sound below1 tables1 does row.0 (moved_as tables q RemovePending label Pause tables1 row.1 row.2 moved)
  moved_sound CancelRequest q label below1 tables1 valid told does moved =
      let row : IsRow CancelRequest tables.state q label = row_of CancelRequest tables.state q label valid told in
      resume_sound below1 tables1 does row.0 (moved_as tables q Started label Resume tables1 row.1 row.2 moved)
  moved_sound RemoveRequest q label below1 tables1 valid told does moved =
      let row : IsRow RemoveRequest tables.state q label = row_of RemoveRequest tables.state q label valid told in
      drained_sound below1 tables1 does label (moved_as tables q Removing label label tables1 row.1 refl moved)
  moved_sound SurpriseRequest q label below1 tables1 valid told does moved =
      let row : IsRow SurpriseRequest tables.state q label = row_of SurpriseRequest tables.state q label valid told in
      drained_sound below1 tables1 does label (moved_as tables q Removing label label tables1 row.1 refl moved)

  pub moved_kept : (request : Request) (q : PnpState) (label : Label) (below1 : DeviceView) (tables1 : Tables) → next (event_of request) tables.state ≡ Some q → label_of request tables.state ≡ Some label
      → Does request below below1 → MovedTo tables q label tables1
      → (limits' : Limits) (below2 : DeviceView) (tables2 : Tables) → limits' ≡ limits → IsSound limits' below2 tables2 → Collects below1 tables1 below2 tables2
      → IsRight (RequestReplies request old OkReply (view_of limits' below2 tables2)) old (view_of limits' below2 tables2) × ManagerKept limits' below2 tables2
  moved_kept QueryRequest q label below1 tables1 valid told does moved limits' below2 tables2 same sound c =
      let row : IsRow QueryRequest tables.state q label = row_of QueryRequest tables.state q label valid told in
      query_kept below1 tables1 does row.0 (moved_as tables q RemovePending label Pause tables1 row.1 row.2 moved) limits' below2 tables2 same sound c
  moved_kept CancelRequest q label below1 tables1 valid told does moved limits' below2 tables2 same sound c =
      let row : IsRow CancelRequest tables.state q label = row_of CancelRequest tables.state q label valid told in
      resume_kept below1 tables1 does row.0 (moved_as tables q Started label Resume tables1 row.1 row.2 moved) limits' below2 tables2 same sound c
  moved_kept RemoveRequest q label below1 tables1 valid told does moved limits' below2 tables2 same sound c =
      let row : IsRow RemoveRequest tables.state q label = row_of RemoveRequest tables.state q label valid told in
      remove_kept below1 tables1 does row.0 (moved_as tables q Removing label Remove tables1 row.1 row.2 moved) limits' below2 tables2 same sound c
  moved_kept SurpriseRequest q label below1 tables1 valid told does moved limits' below2 tables2 same sound c =
      let row : IsRow SurpriseRequest tables.state q label = row_of SurpriseRequest tables.state q label valid told in
      let surprises : next SurpriseRemove tables.state ≡ Some Removing = valid ∙ ap Some row.1 in
      surprise_kept below1 tables1 does (not_removing_of tables.state below.state surprises kept.sound.in_state) row.0 surprises (moved_as tables q Removing label Surprise tables1 row.1 row.2 moved)
      limits' below2 tables2 same sound c
