-- From the moves of the device below, and what was collected after them, to a right step of the manager.
use Rattle.std.proofs.Common.{Some, ◌≡◌, inl, ℕ, Bool, true, false, List, [], ◌++◌, Option, None, refl, sym, ◌∙◌, ap, subst, map, length, arith}
use Rattle.std.specs.Prelude.{IsPermutation, All, option_map, slice_index_or}
use Rattle.std.proofs.Math.ListN.{get_or-map}
use Rattle.io_manager.proofs.Common.{Need, SamePlacesUnless, QueueView, SameQueue, map-append, All-permutation, IsPermutation-sym, All-weaker, Slab, DeviceLabel, AdapterView, MovesByAll, moves_joined, Label, Rules, Run, as_label, DeviceView, KeepsOutside, IsTopmost, Moves, IsSame-refl, Run-append, IsReached, IsSound-Run, IsSound-reached, Limits, Tables, AllWriteInside, as_answer, labels_of, end_labels, Told, ReservesFor, AdapterMoves, IsRightBy, unless_answered, rules_of}
use Rattle.machine.specs.State.{OpenRequest, State}
use Rattle.pnp.specs.declared.State.{State as PnpState}
use Rattle.pnp.specs.declared.State.TheVariants.{Removed}
use Rattle.io_manager.specs.declared.tables.OpenRequest.{OpenRequest as OpenEntry}
use Rattle.io_manager.specs.inside.Sound.{SamePlaces, shown_state, is_gone, holder_of, holders_of, view_of, IsHeldAt, AreHeld, IsSpotted, IsInState, EndsIf, IsSound, AsksInside, Collects}
use Rattle.io_manager.proofs.Over.{labels_over, answers_over}
use Rattle.io_manager.proofs.Ordering.{Run-split}
use Rattle.io_manager.proofs.Outside.{HasPartition, first_inside, stays_inside}
use Rattle.io_manager.proofs.Askings.{KeepsAsked, asks_same, as_many, run_keeps, AreHeld-along}
use Rattle.io_manager.proofs.Fitted.{FitsBelow-same, IsInState-fewer}

-- THE TABLES STAY SOUND WHILE THE DEVICE MOVES

pub IsSound-moves : (limits : Limits) (below : DeviceView) (tables : Tables) (labels : List DeviceLabel) (below' : DeviceView) → IsSound limits below tables → Moves below labels below' → IsSound limits below' tables
IsSound-moves limits below tables labels below' h moves =
    let keeps : KeepsAsked below.state below'.state = run_keeps below.rules below.state labels below'.state moves.run in
    let count : length below'.state.requests ≡ length below.state.requests = as_many below.state below'.state (asks_same _ _ keeps) in
    record {
      fits = FitsBelow-same limits below below' moves.same_rules moves.same_most h.fits;
      numbers = record {
        requests = h.numbers.requests;
        handles = h.numbers.handles;
        rising = rw keeps.next_request h.numbers.rising;
        submitted = rw moves.same_submitted h.numbers.submitted;
      };
      held = AreHeld-along tables.requests below.state below'.state (asks_same _ _ keeps) h.held;
      few = h.few;
      places = h.places;
      on_map = rw moves.same_rules h.on_map;
      topmost = All-permutation IsTopmost _ _ (IsPermutation-sym _ _ moves.same_packets) h.topmost;
      spots = All-permutation (IsSpotted tables.next_request tables.requests) _ _ (IsPermutation-sym _ _ moves.same_packets) h.spots;
      in_state = IsInState-fewer tables.state below.state below'.state keeps.paused keeps.removing (omega arith) h.in_state;
      none_put_by = h.none_put_by;
      rising = h.rising;
      given = h.given;
      apart = h.apart;
      chained = h.chained;
      numbered = h.numbered;
      counted = h.counted;
    }

-- each open request is on a partition
pub have_partitions : {w : Bool} (requests : Slab OpenEntry) (below : List OpenRequest) → AreHeld w requests below → All HasPartition below
have_partitions requests below h = All-weaker (IsHeldAt _ requests) HasPartition (λ o held. held.has_partition) below h.held

-- PLACES

pub same_queue : {X : Type 0} {old new : QueueView X} → new ≡ old → SameQueue old new
same_queue e = (ap (λ (q : QueueView _). q.places) e, ap (λ (q : QueueView _). q.keeps) e, ap (λ (q : QueueView _). q.keeps_bytes) e)

-- what is shown stays where each table, and all below, have as many
pub shown_places : (limits : Limits) (below below' : DeviceView) (tables tables' : Tables) → below'.places ≡ below.places → SamePlaces tables tables'
    → (view_of limits below' tables').places ≡ (view_of limits below tables).places
shown_places limits below below' tables tables' e h =
    let a = h.labels.0 in
    let b = h.answered.0 in
    let c = h.untaken in
    let d = h.handles in
    let f = h.requests in
    omega (arith, e)

-- as many as before a part of the step where there are as many as after it
then_same : (asks : Option Need) (first mid last : ℕ) → last ≡ mid → SamePlacesUnless asks first mid → SamePlacesUnless asks first last
then_same None first mid last e h = e ∙ h
then_same (Some need) first mid last e h = tt

-- A RIGHT STEP

-- own labels of a step lead the manager's machine to where the device below opened what it opens or changed its flags, and then the
-- device moved on by these labels
pub record IsServed (asks : Option Need) (limits : Limits) (below : DeviceView) (tables : Tables) (own : List Label) (labels : List DeviceLabel) (below1 : DeviceView) (tables1 : Tables) : Type 0 where
  pub opened : State
  pub given : All HasPartition opened.requests
  pub none_untaken : below.adapter.labels ≡ []
  pub run : Run (rules_of limits below.rules) (view_of limits below tables).state own (shown_state tables1.next_request (is_gone tables1.state) opened)
  pub same_rules : below1.rules ≡ below.rules
  pub same_keeps : tables1.labels.keeps ≡ tables.labels.keeps
  pub device : Run below.rules opened (map as_label labels) below1.state
  -- and recorded just these
  pub recorded : below1.adapter.labels ≡ labels
  pub own_labels : tables1.labels.items ≡ own
  pub same_untaken : tables1.untaken.items ≡ tables.untaken.items
  pub places : SamePlacesUnless asks (view_of limits below tables).places (view_of limits below1 tables1).places

module _ {asks : Option Need} (limits : Limits) (below : DeviceView) (tables : Tables) (own : List Label) (labels : List DeviceLabel) (below1 : DeviceView) (tables1 : Tables) (below2 : DeviceView) (tables2 : Tables)
    (h : IsServed asks limits below tables own labels below1 tables1) (c : Collects below1 tables1 below2 tables2) where
  abbrev over : Rules
  over = rules_of limits below.rules

  -- what the step tells, which reserved for these sectors first
  abbrev pub told_by : Option Need → Told
  told_by reserves = record {
    own = own;
    device = labels ++ c.starts;
    answers = c.answers;
    ends = c.ends;
    admitted = holders_of tables1.requests;
    reserves = reserves;
  }

  pub same_rules : below2.rules ≡ below.rules
  same_rules = c.same_rules ∙ h.same_rules

  -- the state before the device moves, as it is shown
  abbrev pub shown1 : State → State
  shown1 s = shown_state tables1.next_request (is_gone tables1.state) s

  -- what is collected: pieces are started, and then answers are given
  split : (mid : State) × Run below.rules below1.state (map as_label c.starts) mid × Run below.rules mid (map as_answer c.answers) below2.state
  split =
      Run-split below.rules (map as_label c.starts) (map as_answer c.answers) below1.state below2.state
      (subst (λ r. Run r below1.state (map as_label c.starts ++ map as_answer c.answers) below2.state) h.same_rules c.run)

  -- the device's labels
  device_run : Run below.rules h.opened (map as_label (labels ++ c.starts)) split.0
  device_run =
      subst (λ all. Run below.rules h.opened all split.0) (sym (map-append as_label labels c.starts))
      (Run-append below.rules h.opened (map as_label labels) below1.state (map as_label c.starts) split.0 h.device split.1)

  device_over : Run over (shown1 h.opened) (map as_label (labels ++ c.starts)) (shown1 split.0)
  device_over = labels_over _ below.rules tables1.next_request (is_gone tables1.state) (labels ++ c.starts) h.opened split.0 device_run

  answers_run : Run over (shown1 split.0) (map as_answer c.answers) (shown1 below2.state)
  answers_run = answers_over _ below.rules tables1.next_request (is_gone tables1.state) c.answers split.0 below2.state split.2

  -- a removal ends where nothing is open
  end_run : (ends : Bool) (p : PnpState) → EndsIf ends tables1.state below2.state p → IsInState p below2.state
      → Run over (shown1 below2.state) (end_labels ends) (shown_state tables1.next_request (is_gone p) below2.state)
  end_run false p e k =
      subst (λ x. Run over (shown1 below2.state) [] (shown_state tables1.next_request (is_gone x) below2.state)) (sym (e.not_ended refl).0) (IsSame-refl (shown1 below2.state))
  end_run true p e k =
      let removed : IsInState Removed below2.state = subst (λ x. IsInState x below2.state) (e.ended refl).2 k in
      subst (λ x. Run over (shown1 below2.state) (end_labels true) (shown_state tables1.next_request (is_gone x) below2.state)) (sym (e.ended refl).2) (
        shown_state tables1.next_request true below2.state,
        inl (
          c.settled.none_owed,
          record {
            is_removing = removed.1;
            once = ap is_gone (e.ended refl).0;
            none_open = (e.ended refl).1;
            after = IsSame-refl _;
          },
        ),
        IsSame-refl _,
      )

  whole_run : IsInState tables2.state below2.state → Run over (view_of limits below tables).state (labels_of (told_by None)) (shown_state tables1.next_request (is_gone tables2.state) below2.state)
  whole_run k =
      let a : Run over (view_of limits below tables).state (own ++ map as_label (labels ++ c.starts)) (shown1 split.0) =
      Run-append over _ own (shown1 h.opened) (map as_label (labels ++ c.starts)) (shown1 split.0) h.run device_over in
      let b : Run over (view_of limits below tables).state ((own ++ map as_label (labels ++ c.starts)) ++ map as_answer c.answers) (shown1 below2.state) =
      Run-append over _ (own ++ map as_label (labels ++ c.starts)) (shown1 split.0) (map as_answer c.answers) (shown1 below2.state) a answers_run in
      Run-append over _ ((own ++ map as_label (labels ++ c.starts)) ++ map as_answer c.answers) (shown1 below2.state) (end_labels c.ends) _ b (end_run c.ends tables2.state c.removal k)

  -- nothing recorded was left untaken, so the labels are those of the step
  all_labels : tables2.labels.items ≡ labels_of (told_by None)
  all_labels =
      c.labels
      ∙ ap (λ own'. ((own' ++ map as_label (below1.adapter.labels ++ c.starts)) ++ map as_answer c.answers) ++ end_labels c.ends) h.own_labels
      ∙ ap (λ recorded. ((own ++ map as_label (recorded ++ c.starts)) ++ map as_answer c.answers) ++ end_labels c.ends) h.recorded

  holders_are : (slot : ℕ) → slice_index_or (holders_of tables2.requests) slot None ≡ unless_answered c.answers (slice_index_or (holders_of tables1.requests) slot None)
  holders_are slot =
      get_or-map (option_map holder_of) tables2.requests.slots slot None
      ∙ c.holders slot
      ∙ ap (unless_answered c.answers) (sym (get_or-map (option_map holder_of) tables1.requests.slots slot None))

  pub right_by : (reset : Bool) → AdapterMoves reset asks below.adapter (labels ++ c.starts) below2.adapter → KeepsOutside below.rules.partitions below.adapter below2.adapter → IsInState tables2.state below2.state
      → IsRightBy reset (told_by asks) (view_of limits below tables) (view_of limits below2 tables2)
  right_by reset moves outside k = record {
    in_order = all_labels;
    rising = c.rising;
    same_rules = ap (rules_of limits) same_rules;
    same_keeps = c.places.labels.1 ∙ h.same_keeps;
    places = then_same asks (view_of limits below tables).places (view_of limits below1 tables1).places (view_of limits below2 tables2).places (shown_places limits below1 below2 tables1 tables2 c.places_below c.places) h.places;
    run =
        subst (λ all. Run over (view_of limits below tables).state all (view_of limits below2 tables2).state) (sym all_labels)
        (subst (λ n. Run over (view_of limits below tables).state (labels_of (told_by None)) (shown_state n (is_gone tables2.state) below2.state)) (sym c.same_next_request) (whole_run k));
    adapter = moves;
    outside = outside;
    holders = holders_are;
    untaken = subst (λ untaken. IsPermutation tables2.untaken.items (c.answers ++ untaken)) h.same_untaken c.untaken;
  }

  -- the adapter wrote inside the partitions alone
  pub stays : (first moved : AdapterView) → IsReached over (view_of limits below tables).state → AllWriteInside below.rules.partitions first → MovesByAll first (labels ++ c.starts) moved
      → AllWriteInside below.rules.partitions moved × KeepsOutside below.rules.partitions first moved
  stays first moved reached inside moves =
      stays_inside over (labels ++ c.starts) (shown1 h.opened) (shown1 split.0) first moved
      (IsSound-Run over _ own (shown1 h.opened) (IsSound-reached over _ reached) h.run) h.given device_over moves inside

  -- as it moved without a reset
  pub IsRightBy-served : (first : AdapterView) → IsReached over (view_of limits below tables).state → AsksInside below → ReservesFor asks below.adapter first
      → MovesByAll first labels below1.adapter → IsInState tables2.state below2.state
      → IsRightBy false (told_by asks) (view_of limits below tables) (view_of limits below2 tables2) × AsksInside below2
  IsRightBy-served first reached inside before moves k =
      let on : MovesByAll below1.adapter c.starts c.adapter.moved = subst (λ v. MovesByAll v c.starts c.adapter.moved) c.adapter.before c.adapter.moves in
      let all : MovesByAll first (labels ++ c.starts) c.adapter.moved = moves_joined first labels below1.adapter c.starts c.adapter.moved moves on in
      let a : AllWriteInside below.rules.partitions first × KeepsOutside below.rules.partitions below.adapter first = first_inside below.rules.partitions asks below.adapter first before inside in
      let b : AllWriteInside below.rules.partitions c.adapter.moved × KeepsOutside below.rules.partitions first c.adapter.moved = stays first c.adapter.moved reached a.0 all in
      let outside : KeepsOutside below.rules.partitions below.adapter (record c.adapter.moved { labels = [] }) = λ i apart. b.1 i apart ∙ a.1 i apart in (
        right_by false (record { first = first; before = before; moved = c.adapter.moved; moves = all; taken = c.adapter.taken }) (subst (KeepsOutside below.rules.partitions below.adapter) (sym c.adapter.taken) outside) k,
        subst (λ (r : Rules). AllWriteInside r.partitions below2.adapter) (sym same_rules) (subst (AllWriteInside below.rules.partitions) (sym c.adapter.taken) b.0),
      )
