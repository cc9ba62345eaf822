-- A step after which no request can have ended: the device's labels alone are told, and the device stays settled.
use Rattle.std.proofs.Common.{◌≡◌, ◌≢◌, inl, inr, ℕ, false, List, [], ◌∷◌, ◌++◌, refl, sym, ◌∙◌, ap, subst, arith, map, length}
use Rattle.std.specs.Prelude.{IsPermutation, IsTrue, option_map}
use Rattle.io_manager.proofs.Common.{deque_capacity, append-nil, IsPermutation-refl, length_permutation, All-nil, get, DeviceLabel, Removing, Rules, Piece, State, IsSame, IsStart, IsFreshPiece, Settled, Run, as_label, IsSame-refl, IsSame-sym, Settled-same, DeviceView, room_at, IsActOrFault, fault_of, Limits, Tables}
use Rattle.srb.specs.declared.DeviceLabel.TheVariants.{Start, Act as ActLabel, Fault, Return}
use Rattle.io_manager.specs.inside.Sound.{IsSound, TakesLabels, Collects, holder_of}
use Rattle.io_manager.proofs.Fitted.{FitsBelow-same, no_length}
use Rattle.io_manager.proofs.Quiet.{none_answered}

-- STILL SETTLED

-- what pieces do, and what the arrays hold, says nothing of it
pub met_settled : (rules : Rules) (s : State) (arrays : List (List (List ℕ))) (pieces : List Piece) → length pieces ≡ length s.pieces → Settled rules s
    → Settled rules (record s { arrays = arrays; pieces = pieces })
met_settled rules s arrays pieces same h =
    let none_before : pieces ≡ [] → s.pieces ≡ [] = λ none. no_length s.pieces (sym same ∙ ap length none) in
    record {
      none_owed = h.none_owed;
      idle = λ none. h.idle (none_before none);
      idle_unpaused = λ none unpaused. h.idle_unpaused (none_before none) unpaused;
      cancelled = h.cancelled;
      removing = h.removing;
      sent = λ free staying. h.sent (rw (← same) free) staying;
      released = λ free staying. h.released (rw (← same) free) staying;
      alive = h.alive;
      at_work = λ free. h.at_work (rw (← same) free);
      within_window = h.within_window;
    }

one_met : (rules : Rules) (s : State) (number : ℕ) (piece met : Piece) (others : List Piece) (arrays : List (List (List ℕ))) (s' : State)
    → IsFreshPiece s number piece others → IsSame s' (record s { arrays = arrays; pieces = met ∷ others }) → Settled rules s → Settled rules s'
one_met rules s number piece met others arrays s' fresh after h =
    let count : length (piece ∷ others) ≡ length s.pieces = length_permutation _ _ fresh.is_out in
    Settled-same rules (record s { arrays = arrays; pieces = met ∷ others }) s' (IsSame-sym _ _ after) (met_settled rules s arrays (met ∷ others) (omega arith) h)

-- after an act or a fault
pub act_settled : (rules : Rules) (number : ℕ) (label : DeviceLabel) (s s' : State) → IsActOrFault number label → Run rules s (as_label label ∷ []) s'
    → Settled rules s → Settled rules s'
act_settled rules number (ActLabel piece bytes) s s' told (mid, inl (free, step), run) h =
    Settled-same rules mid s' run (one_met rules s piece step.piece _ step.other_pieces step.arrays' mid step.fresh step.after h)
act_settled rules number (Fault piece) s s' told (mid, inl (free, step), run) h =
    Settled-same rules mid s' run (one_met rules s piece step.piece _ step.other_pieces s.arrays mid step.fresh step.after h)
act_settled rules number (Start piece tag block) s s' told run h = absurd told
act_settled rules number (Return piece class) s s' told run h = absurd told
act_settled rules number (ActLabel piece bytes) s s' told (mid, inr none, run) h = absurd none
act_settled rules number (Fault piece) s s' told (mid, inr none, run) h = absurd none

-- after the faults of a reset
pub faults_settled : (rules : Rules) (fresh : List Piece) (s s' : State) → Run rules s (map as_label (map fault_of fresh)) s' → Settled rules s → Settled rules s'
faults_settled rules [] s s' run h = Settled-same rules s s' run h
faults_settled rules (piece ∷ fresh) s s' (mid, inl (free, step), run) h =
    faults_settled rules fresh mid s' run (one_met rules s piece.number step.piece _ step.other_pieces s.arrays mid step.fresh step.after h)
faults_settled rules (piece ∷ fresh) s s' (mid, inr none, run) h = absurd none

-- LABELS ALONE

pub not_ended : IsTrue false → ⊥
not_ended h = cc (h)

module _ (below : DeviceView) (tables : Tables) (below' : DeviceView) (tables' : Tables) (t : TakesLabels below tables below' tables') where
  -- it is as if all that had ended were taken, which was none
  abbrev pub labels_collected : Settled below.rules below.state → (tables.state ≡ Removing → below.state.requests ≢ []) → Collects below tables below' tables'
  labels_collected settled going = record {
    starts = [];
    answers = [];
    ends = false;
    only_starts = All-nil IsStart;
    rising = tt;
    same_rules = ap (λ (v : DeviceView). v.rules) t.taken;
    same_rooms = λ spot. ap (λ (v : DeviceView). room_at v.rooms spot) t.taken;
    run = subst (λ s. IsSame below.state s) (sym (ap (λ (v : DeviceView). v.state) t.taken)) (IsSame-refl below.state);
    adapter = record { first = below.adapter; before = refl; moved = below.adapter; moves = refl; taken = ap (λ (v : DeviceView). v.adapter) t.taken };
    labels =
        t.tells
        ∙ ap (λ ls. tables.labels.items ++ map as_label ls) (sym (append-nil below.adapter.labels))
        ∙ sym (append-nil (tables.labels.items ++ map as_label (below.adapter.labels ++ [])))
        ∙ sym (append-nil ((tables.labels.items ++ map as_label (below.adapter.labels ++ [])) ++ []));
    untaken = subst (λ x. IsPermutation x tables.untaken.items) (sym (ap (λ (x : Tables). x.untaken.items) t.after)) (IsPermutation-refl tables.untaken.items);
    holders = λ slot. ap (λ (x : Tables). option_map holder_of (get x.requests slot)) t.after ∙ none_answered (option_map holder_of (get tables.requests slot));
    same_handles = ap (λ (x : Tables). x.handles) t.after;
    same_next_handle = ap (λ (x : Tables). x.next_handle) t.after;
    same_next_request = ap (λ (x : Tables). x.next_request) t.after;
    places = record {
      labels = t.label_places;
      answered = (ap (λ (x : Tables). x.answered.places) t.after, ap (λ (x : Tables). x.answered.keeps) t.after, ap (λ (x : Tables). x.answered.keeps_bytes) t.after);
      untaken = ap (λ (x : Tables). deque_capacity x.untaken) t.after;
      handles = ap (λ (x : Tables). x.handles.capacity) t.after;
      requests = ap (λ (x : Tables). x.requests.capacity) t.after;
    };
    removal = record {
      ended = λ yes. absurd (not_ended yes);
      not_ended = λ no. (
        ap (λ (x : Tables). x.state) t.after,
        λ removing none. going removing (sym (ap (λ (v : DeviceView). v.state.requests) t.taken) ∙ none),
      );
    };
    places_below = ap (λ (v : DeviceView). v.places) t.taken;
    settled = subst (λ (v : DeviceView). Settled v.rules v.state) (sym t.taken) settled;
    quiet = λ none. refl;
  }

  pub labels_sound : (limits : Limits) → IsSound limits below tables → IsSound limits below' tables'
  labels_sound limits s =
      subst (λ v. IsSound limits v tables') (sym t.taken)
      (subst (IsSound limits (record below { adapter = record below.adapter { labels = [] } })) (sym t.after) (record {
        fits = FitsBelow-same limits below (record below { adapter = record below.adapter { labels = [] } }) refl refl s.fits;
        numbers = record { requests = s.numbers.requests; handles = s.numbers.handles; rising = s.numbers.rising; submitted = s.numbers.submitted };
        held = s.held;
        few = s.few;
        places = record {
          labels = t.label_places.0 ∙ s.places.labels;
          answered = s.places.answered;
          alike = s.places.alike ∙ sym t.label_places.1;
          label_bytes = t.label_places.2 ∙ s.places.label_bytes;
          answer_bytes = s.places.answer_bytes;
          untaken = s.places.untaken;
          handles = s.places.handles;
          requests = s.places.requests;
        };
        on_map = s.on_map;
        topmost = s.topmost;
        spots = s.spots;
        in_state = s.in_state;
        none_put_by = s.none_put_by;
        rising = s.rising;
        given = s.given;
        apart = s.apart;
        chained = s.chained;
        numbered = s.numbered;
        counted = s.counted;
      }))
