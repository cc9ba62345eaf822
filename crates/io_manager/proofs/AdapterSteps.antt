-- Acts, returns and resets of the adapter as steps of the manager.
use Rattle.std.proofs.Common.{◌+◌, ◌≡◌, ◌≢◌, ℕ, true, List, [], ◌∷◌, ◌++◌, refl, sym, ◌∙◌, ap, subst, None, map, length}
use Rattle.io_manager.proofs.Common.{append-nil, All-append, Slab, DeviceLabel, Return, Rules, IsStart, Settled, DeviceView, KeepsOutside, AdapterView, MovesByAll, Resets, fault_of, Moves, ActsOrFaults, ActsNot, Finishes, FinishesNot, IsSame-refl, Removing, OpenHandle, Limits, Tables, ManagerView, AllWriteInside, Told, SameHandles, AdapterMoves, tells_nothing, IsRight, IsRightReset, IsRightBy, ActReplies, FinishReplies}
use Rattle.io_manager.specs.declared.Reply.TheVariants.{Ok as OkReply, Ignored}
use Rattle.io_manager.specs.inside.Sound.{own_places, view_of, AsksInside, IsSound, TakesLabels, Collects, ManagerKept}
use Rattle.io_manager.proofs.AdapterJoins.{labels_moved, reset_joined}
use Rattle.io_manager.proofs.Outside.{noted_inside}
use Rattle.io_manager.proofs.Labelled.{act_settled, faults_settled, labels_collected}
use Rattle.io_manager.proofs.Askings.{asks_same, as_many, run_keeps}
use Rattle.io_manager.proofs.Fitted.{FitsBelow-same, no_length}
use Rattle.io_manager.proofs.Quiet.{IsRightBy-unmoved}
use Rattle.io_manager.proofs.Righting.{IsServed, told_by, right_by, stays, have_partitions, IsSound-moves}
use Rattle.io_manager.proofs.Stepping.{ManagerKept-collected}
use Rattle.io_manager.proofs.Telling.{step_kept}

-- A STEP WITHOUT LABELS OF ITS OWN

module _ (limits : Limits) (below : DeviceView) (tables : Tables) (old : ManagerView) (kept : ManagerKept limits below tables) (shown : view_of limits below tables ≡ old) (taken : old.labels ≡ []) where
  none_told : tables.labels.items ≡ []
  none_told = ap (λ (v : ManagerView). v.labels) shown ∙ taken

  -- an adapter step opens nothing
  pub served : (labels : List DeviceLabel) (below1 : DeviceView) → Moves below labels below1 → IsServed None limits below tables [] labels below1 tables
  served labels below1 moves = record {
    opened = below.state;
    given = have_partitions tables.requests below.state.requests kept.sound.held;
    none_untaken = kept.none_recorded;
    run = IsSame-refl _;
    same_rules = moves.same_rules;
    device = moves.run;
    recorded = labels_moved below.adapter labels below1.adapter moves.adapter ∙ ap (λ before. before ++ labels) kept.none_recorded;
    own_labels = none_told;
    same_keeps = refl;
    same_untaken = refl;
    places = ap (λ (n : ℕ). n + own_places tables) moves.same_places;
  }

  pub same_handles : (below1 below2 : DeviceView) (tables2 : Tables) → Collects below1 tables below2 tables2 → SameHandles (view_of limits below tables) (view_of limits below2 tables2)
  same_handles below1 below2 tables2 c = record { handles = ap (λ (handles : Slab OpenHandle). handles.slots) c.same_handles; next_handle = c.same_next_handle }

  -- a right step after which all that has ended is told
  told_kept : (Row : ManagerView → ManagerView → Told → Type 0) (labels : List DeviceLabel) (below1 : DeviceView) (limits' : Limits) (below2 : DeviceView) (tables2 : Tables) → (moves : Moves below labels below1)
      → limits' ≡ limits → IsSound limits' below2 tables2 → (c : Collects below1 tables below2 tables2)
      → Row (view_of limits below tables) (view_of limits below2 tables2) (told_by limits below tables [] labels below1 tables below2 tables2 (served labels below1 moves) c None)
      → IsRight (Row old (view_of limits' below2 tables2)) old (view_of limits' below2 tables2) × ManagerKept limits' below2 tables2
  told_kept Row labels below1 limits' below2 tables2 moves same sound c row =
      step_kept limits below tables old kept shown Row [] labels below1 tables (served labels below1 moves) limits' below2 tables2 moves.adapter same sound c row

  -- a device that moved on as it was asked lets no removal end
  pub still_going : (labels : List DeviceLabel) (below1 : DeviceView) → Moves below labels below1 → tables.state ≡ Removing → below1.state.requests ≢ []
  still_going labels below1 moves removing none =
      kept.going removing
      (let count : length below1.state.requests ≡ length below.state.requests = as_many below.state below1.state (asks_same _ _ (run_keeps below.rules below.state labels below1.state moves.run)) in
      no_length below.state.requests (sym count ∙ ap length none))

  pub act_kept : (tag : ℕ) (below1 : DeviceView) (limits' : Limits) (below2 : DeviceView) (tables2 : Tables) → ActsOrFaults below tag below1 → limits' ≡ limits → IsSound limits' below2 tables2
      → TakesLabels below1 tables below2 tables2
      → IsRight (ActReplies old tag OkReply (view_of limits' below2 tables2)) old (view_of limits' below2 tables2) × ManagerKept limits' below2 tables2
  act_kept tag below1 limits' below2 tables2 acts same sound t =
      let settled : Settled below1.rules below1.state =
      subst (λ r. Settled r below1.state) (sym acts.moves.same_rules) (act_settled below.rules acts.piece.number acts.label below.state below1.state acts.told acts.moves.run kept.settled) in
      told_kept (λ v new told. ActReplies v tag OkReply new told) (acts.label ∷ []) below1 limits' below2 tables2 acts.moves same sound
      (labels_collected below1 tables below2 tables2 t settled (still_going (acts.label ∷ []) below1 acts.moves)) (
        record {
          piece = acts.piece;
          label = acts.label;
          fresh = record { is_out = acts.fresh.is_out; is_tag = acts.fresh.is_tag; is_fresh = acts.fresh.is_fresh };
          acts = acts.told;
          if_booked = acts.if_booked;
          no_own = refl;
          device = refl;
          ends_none = record { none_answered = refl; not_ended = refl };
          holders = refl;
          reserves_none = refl;
        },
        same_handles below1 below2 tables2 (labels_collected below1 tables below2 tables2 t settled (still_going (acts.label ∷ []) below1 acts.moves)),
      )

  pub act_ignored : (tag : ℕ) (below' : DeviceView) → ActsNot below tag below' → IsRight (ActReplies old tag Ignored (view_of limits below' tables)) old (view_of limits below' tables)
  act_ignored tag below' h =
      subst (λ v. IsRight (ActReplies v tag Ignored (view_of limits below' tables)) v (view_of limits below' tables)) shown
      (subst (λ (seen : DeviceView). IsRight (ActReplies (view_of limits below tables) tag Ignored (view_of limits seen tables)) (view_of limits below tables) (view_of limits seen tables)) (sym h.same)
      (record {
        told = tells_nothing (view_of limits below tables);
        replies = (
          record { nothing = refl; same_state = refl; same_adapter = refl },
          record { none = λ piece fresh. h.none piece (record { is_out = fresh.is_out; is_tag = fresh.is_tag; is_fresh = fresh.is_fresh }) },
          record { handles = refl; next_handle = refl },
        );
        by = IsRightBy-unmoved (view_of limits below tables) none_told kept.none_recorded;
      }))

  pub finish_kept : (tag : ℕ) (below1 : DeviceView) (limits' : Limits) (below2 : DeviceView) (tables2 : Tables) → Finishes below tag below1 → limits' ≡ limits → IsSound limits' below2 tables2
      → Collects below1 tables below2 tables2
      → IsRight (FinishReplies old tag OkReply (view_of limits' below2 tables2)) old (view_of limits' below2 tables2) × ManagerKept limits' below2 tables2
  finish_kept tag below1 limits' below2 tables2 finishes same sound c =
      told_kept (λ v new told. FinishReplies v tag OkReply new told) (Return finishes.piece.number finishes.class ∷ finishes.starts) below1 limits' below2 tables2 finishes.moves same sound c (
        record {
          piece = finishes.piece;
          class = finishes.class;
          starts = finishes.starts ++ c.starts;
          is_out = finishes.is_out;
          is_tag = finishes.is_tag;
          only_starts = All-append IsStart finishes.starts c.starts finishes.only_starts c.only_starts;
          no_own = refl;
          device = refl;
          holders = refl;
          reserves_none = refl;
        },
        same_handles below1 below2 tables2 c,
      )

  pub finish_ignored : (tag : ℕ) (below' : DeviceView) → FinishesNot below tag below' → IsRight (FinishReplies old tag Ignored (view_of limits below' tables)) old (view_of limits below' tables)
  finish_ignored tag below' h =
      subst (λ v. IsRight (FinishReplies v tag Ignored (view_of limits below' tables)) v (view_of limits below' tables)) shown
      (subst (λ (seen : DeviceView). IsRight (FinishReplies (view_of limits below tables) tag Ignored (view_of limits seen tables)) (view_of limits below tables) (view_of limits seen tables)) (sym h.same)
      (record {
        told = tells_nothing (view_of limits below tables);
        replies = (record { nothing = refl; same_state = refl; same_adapter = refl }, h.free, record { handles = refl; next_handle = refl });
        by = IsRightBy-unmoved (view_of limits below tables) none_told kept.none_recorded;
      }))

-- A RESET

-- the tables stay sound
pub reset_sound : (limits : Limits) (below : DeviceView) (tables : Tables) (below1 : DeviceView) → IsSound limits below tables → Resets below below1 → IsSound limits below1 tables
reset_sound limits below tables below1 sound r =
    let s : IsSound limits (record below1 { adapter = r.all_faulted }) tables = IsSound-moves limits below tables (map fault_of r.fresh) (record below1 { adapter = r.all_faulted }) sound r.moves in
    record {
      fits = FitsBelow-same limits (record below1 { adapter = r.all_faulted }) below1 refl refl s.fits;
      numbers = record { requests = s.numbers.requests; handles = s.numbers.handles; rising = s.numbers.rising; submitted = s.numbers.submitted };
      held = s.held;
      few = s.few;
      places = s.places;
      on_map = s.on_map;
      topmost = s.topmost;
      spots = s.spots;
      in_state = s.in_state;
      none_put_by = s.none_put_by;
      rising = s.rising;
      given = s.given;
      apart = s.apart;
      chained = s.chained;
      numbered = s.numbered;
      counted = s.counted;
    }

module _ (limits : Limits) (below : DeviceView) (tables : Tables) (old : ManagerView) (kept : ManagerKept limits below tables) (shown : view_of limits below tables ≡ old) (taken : old.labels ≡ [])
    (below1 : DeviceView) (r : Resets below below1) where
  abbrev faults : List DeviceLabel
  faults = map fault_of r.fresh

  -- what is recorded is the faults
  reset_served : IsServed None limits below tables [] faults below1 tables
  reset_served = record {
    opened = below.state;
    given = have_partitions tables.requests below.state.requests kept.sound.held;
    none_untaken = kept.none_recorded;
    run = IsSame-refl _;
    same_rules = r.moves.same_rules;
    device = r.moves.run;
    recorded =
        ap (λ (v : AdapterView). v.labels) r.noted.after
        ∙ labels_moved below.adapter faults r.all_faulted r.moves.adapter ∙ ap (λ before. before ++ faults) kept.none_recorded;
    own_labels = ap (λ (v : ManagerView). v.labels) shown ∙ taken;
    same_keeps = refl;
    same_untaken = refl;
    places = ap (λ (n : ℕ). n + own_places tables) r.moves.same_places;
  }

  reset_settled : Settled below1.rules below1.state
  reset_settled =
      subst (λ rules. Settled rules below1.state) (sym r.moves.same_rules)
      (faults_settled below.rules r.fresh below.state below1.state r.moves.run kept.settled)

  -- the faults alone are told
  abbrev faulted : (below2 : DeviceView) (tables2 : Tables) → TakesLabels below1 tables below2 tables2 → Collects below1 tables below2 tables2
  faulted below2 tables2 t =
      labels_collected below1 tables below2 tables2 t reset_settled (still_going limits below tables old kept shown taken faults (record below1 { adapter = r.all_faulted }) r.moves)

  pub reset_kept : (limits' : Limits) (below2 : DeviceView) (tables2 : Tables) → limits' ≡ limits → IsSound limits' below2 tables2 → TakesLabels below1 tables below2 tables2
      → IsRightReset old (view_of limits' below2 tables2) × ManagerKept limits' below2 tables2
  reset_kept limits' below2 tables2 same sound t =
      let sound' : IsSound limits below2 tables2 = subst (λ (l : Limits). IsSound l below2 tables2) same sound in
      let only : faults ++ [] ≡ faults = append-nil faults in
      let joined : AdapterMoves true None below.adapter (faults ++ []) below2.adapter =
      subst (λ labels. AdapterMoves true None below.adapter labels below2.adapter) (sym only)
      (reset_joined below.adapter faults r.all_faulted below1.adapter below2.adapter r.moves.adapter r.noted (faulted below2 tables2 t).adapter) in
      let a : AllWriteInside below.rules.partitions r.all_faulted × KeepsOutside below.rules.partitions below.adapter r.all_faulted =
      stays limits below tables [] faults below1 tables below2 tables2 reset_served (faulted below2 tables2 t) below.adapter r.all_faulted kept.reached kept.inside
      (subst (λ labels. MovesByAll below.adapter labels r.all_faulted) (sym only) r.moves.adapter) in
      let b : AllWriteInside below.rules.partitions below1.adapter × KeepsOutside below.rules.partitions r.all_faulted below1.adapter =
      noted_inside below.rules.partitions r.all_faulted below1.adapter r.noted a.0 in
      let taken_are : below2.adapter ≡ record below1.adapter { labels = [] } = ap (λ (v : DeviceView). v.adapter) t.taken in
      let outside : KeepsOutside below.rules.partitions below.adapter (record below1.adapter { labels = [] }) = λ i apart. b.1 i apart ∙ a.1 i apart in
      let told : Told = told_by limits below tables [] faults below1 tables below2 tables2 reset_served (faulted below2 tables2 t) None in
      let by : IsRightBy true told (view_of limits below tables) (view_of limits below2 tables2) =
      right_by limits below tables [] faults below1 tables below2 tables2 reset_served (faulted below2 tables2 t) true joined
      (subst (KeepsOutside below.rules.partitions below.adapter) (sym taken_are) outside) sound'.in_state in
      let inside : AsksInside below2 =
      subst (λ (rules : Rules). AllWriteInside rules.partitions below2.adapter) (sym (ap (λ (v : DeviceView). v.rules) t.taken ∙ r.moves.same_rules))
      (subst (AllWriteInside below.rules.partitions) (sym taken_are) b.0) in
      let right : IsRightReset (view_of limits below tables) (view_of limits below2 tables2) = record {
        told = told;
        replies = record {
          fresh = r.fresh;
          all_fresh = r.all_fresh;
          rising = r.rising;
          no_own = refl;
          device = only;
          ends_none = record { none_answered = refl; not_ended = refl };
          holders = refl;
          reserves_none = refl;
          handles = same_handles limits below tables old kept shown taken below1 below2 tables2 (faulted below2 tables2 t);
        };
        by = by;
      } in (
        subst (λ (l : Limits). IsRightReset old (view_of l below2 tables2)) (sym same) (subst (λ v. IsRightReset v (view_of limits below2 tables2)) shown right),
        ManagerKept-collected limits limits' below below1 below2 tables tables tables2 true right.told same kept by sound inside (faulted below2 tables2 t),
      )
