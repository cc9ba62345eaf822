-- An admitted call, and one turned away for want of memory, are right steps.
use Rattle.std.proofs.Common.{◌≡◌, ◌≢◌, ◌<◌, ◌≤◌, inl, inr, ℕ, ◌+◌, Bool, false, List, [], ◌∷◌, ◌++◌, Some, None, refl, sym, ◌∙◌, ap, subst, arith}
use Rattle.std.specs.Prelude.{All, option_map}
use Rattle.io_manager.proofs.Common.{All-permutation, IsPermutation-sym, deque_len, deque_capacity, All-append, All-cons, Slab, get, slab_len, Extent, Payload, Kind, Read, Write, Flush, ClientRequest, Label, Call, Rules, as_client, refusal, Opens, Run, DeviceView, sent_bytes, payload_bytes, IsStart, Reserves, ReservesNear, IsSame-refl, Handle, Id, OpenHandle, InsufficientResources, Reply, Limits, LabelBytes, Tables, ManagerView, Holder, bytes_called, call_on, without_bytes, disk_extent, reserved_by, tells_nothing, ReservesFor, IsRight, IsRightBy, CallReplies, rules_of}
use Rattle.std.proofs.Math.ListN.{get_or-map}
use Rattle.adapter.specs.View.{AdapterView, ReservesMore, ReservesNear as AdapterReservesNear}
use Rattle.io_manager.specs.declared.Reply.TheVariants.{Request as Requested, Refused}
use Rattle.io_manager.specs.inside.Sound.{own_places, shown_state, is_gone, holder_of, view_of, WasGiven, AreApart, IsInState, IsSound, AsksInside, Collects, ManagerKept}
use Rattle.io_manager.specs.inside.Admitting.{request_of, HasLabelBytes, Admits, KeepsAnswers, SendsDown, IsSent, IsAdmissible}
use Rattle.io_manager.proofs.Refusing.{Calls-opened}
use Rattle.io_manager.proofs.Fitted.{FitsBelow-same}
use Rattle.io_manager.proofs.Righting.{IsServed, told_by, IsRightBy-served, have_partitions}
use Rattle.io_manager.proofs.Outside.{HasPartition}
use Rattle.io_manager.proofs.AdapterJoins.{labels_moved}
use Rattle.io_manager.proofs.Quiet.{right_alone}
use Rattle.io_manager.proofs.Admitted.{asked_sectors, opened_above}
use Rattle.io_manager.proofs.Stepping.{ManagerKept-reserved, ManagerKept-collected}

-- PLACES ALONE ARE MADE

pub reserved_sound : (limits : Limits) (below : DeviceView) (tables : Tables) (below' : DeviceView) (tables' : Tables) → IsSound limits below tables → Reserves below below' → KeepsAnswers tables tables'
    → IsSound limits below' tables'
reserved_sound limits below tables below' tables' h reserves keeps =
    subst (λ b. IsSound limits b tables') (sym reserves.same) (subst (IsSound limits (record below { rooms = below'.rooms; places = below'.places; adapter = record below.adapter { reserved = below'.adapter.reserved } })) (sym keeps.after) (record {
      fits = FitsBelow-same limits below (record below { rooms = below'.rooms; places = below'.places; adapter = record below.adapter { reserved = below'.adapter.reserved } }) refl refl h.fits;
      numbers = record { requests = h.numbers.requests; handles = h.numbers.handles; rising = h.numbers.rising; submitted = h.numbers.submitted };
      held = h.held;
      few = h.few;
      places = record {
        labels = h.places.labels;
        answered = h.places.answered;
        alike = h.places.alike;
        label_bytes = h.places.label_bytes;
        answer_bytes = h.places.answer_bytes;
        untaken =
            let count : deque_len tables'.untaken ≡ deque_len tables.untaken = keeps.same_count in
            let more : deque_capacity tables.untaken ≤ deque_capacity tables'.untaken = keeps.answer_places in
            let fits : deque_len tables.untaken + slab_len tables.requests ≤ deque_capacity tables.untaken = h.places.untaken in
            omega arith;
        handles = h.places.handles;
        requests = h.places.requests;
      };
      on_map = h.on_map;
      topmost = h.topmost;
      spots = h.spots;
      in_state = h.in_state;
      none_put_by = h.none_put_by;
      rising = rw keeps.same_untaken h.rising;
      given = subst (All (WasGiven tables.next_request)) (sym keeps.same_untaken) h.given;
      apart = subst (AreApart tables.requests) (sym keeps.same_untaken) h.apart;
      chained = h.chained;
      numbered = h.numbered;
      counted = h.counted;
    }))

reserved_inside : (below below' : DeviceView) → AsksInside below → Reserves below below' → AsksInside below'
reserved_inside below below' h reserves = subst AsksInside (sym reserves.same) h

more_reserved : (below below' : DeviceView) → Reserves below below' → ReservesMore below.adapter (record below.adapter { reserved = below'.adapter.reserved })
more_reserved below below' reserves = subst (ReservesMore below.adapter) (ap (λ (b : DeviceView). b.adapter) reserves.same) reserves.adapter

-- what is reserved is reserved for the sectors of a write; for any other kind nothing is
reserved_of_kind : (kind : Kind) (extent : Extent) (old new : AdapterView) → ReservesMore old new → AdapterReservesNear old extent new → (kind ≢ Write → new ≡ old) → ReservesFor (Some (kind, extent)) old new
reserved_of_kind Write extent old new more near unless_write = (more, near)
reserved_of_kind Read extent old new more near unless_write = unless_write (λ e. cc (e))
reserved_of_kind Flush extent old new more near unless_write = unless_write (λ e. cc (e))

-- A CALL

module _ (limits : Limits) (below : DeviceView) (tables : Tables) (handle : Handle) (q : ClientRequest) (buffer : List ℕ) (kept : ManagerKept limits below tables) (k : IsAdmissible (view_of limits below tables) q)
    (told : tables.labels.items ≡ []) (is_call : q ≡ without_bytes (call_on (view_of limits below tables) handle q.kind q.offset buffer q.through)) where
  abbrev over : Rules
  over = rules_of limits below.rules

  abbrev gone : Bool
  gone = is_gone tables.state

  abbrev view : ManagerView
  view = view_of limits below tables

  abbrev called : ClientRequest
  called = call_on view handle q.kind q.offset buffer q.through

  admitted : refusal over view.state called ≡ None
  admitted = subst (λ r. refusal over view.state r ≡ None) is_call k.not_refused

  reserved_for : (below' : DeviceView) → Reserves below below' → ReservesNear below (request_of limits.sector_size q) below' → (q.kind ≢ Write → below'.adapter ≡ below.adapter)
      → ReservesFor (reserved_by over called) below.adapter (record below.adapter { reserved = below'.adapter.reserved })
  reserved_for below' reserves near unless_write =
      subst (λ r. ReservesFor (reserved_by over r) below.adapter (record below.adapter { reserved = below'.adapter.reserved })) is_call
      (reserved_of_kind q.kind (disk_extent over q) below.adapter (record below.adapter { reserved = below'.adapter.reserved }) (more_reserved below below' reserves)
      (subst (λ extent. AdapterReservesNear below.adapter extent (record below.adapter { reserved = below'.adapter.reserved })) (asked_sectors limits below tables q kept.sound k) near)
      (λ other. ap (λ (a : AdapterView). record below.adapter { reserved = a.reserved }) (unless_write other)))

  -- for want of memory nothing happens
  turned_away : (below' : DeviceView) (tables' : Tables) (reply : Reply) → Reserves below below' → ReservesNear below (request_of limits.sector_size q) below' → (q.kind ≢ Write → below'.adapter ≡ below.adapter) → KeepsAnswers tables tables' → reply ≡ Refused InsufficientResources buffer
      → IsRight (CallReplies view handle called buffer reply (view_of limits below' tables')) view (view_of limits below' tables')
  turned_away below' tables' reply reserves near unless_write keeps is_reply =
      subst (λ r. IsRight (CallReplies view handle called buffer r (view_of limits below' tables')) view (view_of limits below' tables')) (sym is_reply)
      (subst (λ b. IsRight (CallReplies view handle called buffer (Refused InsufficientResources buffer) (view_of limits b tables')) view (view_of limits b tables')) (sym reserves.same)
      (subst (λ t. IsRight (CallReplies view handle called buffer (Refused InsufficientResources buffer) (view_of limits (record below { rooms = below'.rooms; places = below'.places; adapter = record below.adapter { reserved = below'.adapter.reserved } }) t)) view
      (view_of limits (record below { rooms = below'.rooms; places = below'.places; adapter = record below.adapter { reserved = below'.adapter.reserved } }) t)) (sym keeps.after) (record {
        told = record (tells_nothing view) { reserves = reserved_by over called };
        replies = record {
          replies = (
            refl,
            inr (
              k.numbers_last,
              admitted,
              record {
                nothing = refl;
                same_state = refl;
                unless_write = λ other. ap (λ (a : AdapterView). record below.adapter { reserved = a.reserved }) (unless_write other);
              },
            ),
          );
          handles = record { handles = refl; next_handle = refl };
        };
        by =
            right_alone view [] view.state (reserved_by over called) below'.adapter.reserved tables.handles.slots tables.next_handle tables.labels.items tables'.untaken.items tables.labels.keeps
            (below'.places + own_places (record tables { untaken = tables'.untaken })) (IsSame-refl _) (reserved_for below' reserves near unless_write) kept.none_recorded told keeps.same_untaken refl tt;
      })))

  sent_is : (kind : Kind) (payload : Payload) → sent_bytes kind payload ≡ bytes_called kind (payload_bytes payload)
  sent_is Read payload = refl
  sent_is Write payload = refl
  sent_is Flush payload = refl

  -- the call as its label tells it
  abbrev pub told_request : ClientRequest
  told_request = record q { bytes = bytes_called q.kind buffer }

  told_is : told_request ≡ called
  told_is = ap (λ (r : ClientRequest). record r { bytes = bytes_called q.kind buffer }) is_call

  module _ (below' : DeviceView) (tables' : Tables) (copies : LabelBytes) (spot slot : ℕ) (below1 : DeviceView) (tables1 : Tables) (reserves : Reserves below below') (near : ReservesNear below (request_of limits.sector_size q) below') (unless_write : q.kind ≢ Write → below'.adapter ≡ below.adapter) (keeps : KeepsAnswers tables tables')
      (buffers : HasLabelBytes tables'.labels.keeps tables'.labels.keeps_bytes q.kind buffer copies) (admits' : Admits tables' handle q copies spot slot tables1) (sends' : SendsDown below' tables'.next_request spot (request_of limits.sector_size q) buffer below1) where
    abbrev reserved_below : DeviceView
    reserved_below = record below { rooms = below'.rooms; places = below'.places; adapter = record below.adapter { reserved = below'.adapter.reserved } }

    abbrev reserved_tables : Tables
    reserved_tables = record tables { untaken = tables'.untaken }

    admits : Admits reserved_tables handle q copies spot slot tables1
    admits = subst (λ t. Admits t handle q copies spot slot tables1) keeps.after admits'

    abbrev pub sends : SendsDown reserved_below tables.next_request spot (request_of limits.sector_size q) buffer below1
    sends =
        subst (λ b. SendsDown b tables.next_request spot (request_of limits.sector_size q) buffer below1) reserves.same
        (subst (λ (t : Tables). SendsDown below' t.next_request spot (request_of limits.sector_size q) buffer below1) keeps.after sends')

    next_is : tables1.next_request ≡ tables.next_request + 1
    next_is = ap (λ (t : Tables). t.next_request) admits.after

    gone_is : is_gone tables1.state ≡ gone
    gone_is = ap (λ (t : Tables). is_gone t.state) admits.after

    abbrev pub own : List Label
    own = Call tables.next_request told_request ∷ []

    opens_here : Opens below.rules below.state sends.packet.number (as_client below.rules (request_of limits.sector_size q) (bytes_called q.kind buffer)) sends.submits.opened
    opens_here =
        subst (λ bytes. Opens below.rules below.state sends.packet.number (as_client below.rules (request_of limits.sector_size q) bytes) sends.submits.opened)
        (sent_is q.kind sends.payload ∙ ap (bytes_called q.kind) sends.brings) sends.submits.opens

    opened_over : Opens over (shown_state tables.next_request gone below.state) tables.next_request told_request (shown_state (tables.next_request + 1) gone sends.submits.opened)
    opened_over = opened_above limits below tables q kept.sound k sends.packet.number (bytes_called q.kind buffer) sends.submits.opened sends.is_number opens_here

    run_own : Run over view.state own (shown_state tables1.next_request (is_gone tables1.state) sends.submits.opened)
    run_own =
        subst (λ n. Run over view.state own (shown_state n (is_gone tables1.state) sends.submits.opened)) (sym next_is)
        (subst (λ b. Run over view.state own (shown_state (tables.next_request + 1) b sends.submits.opened)) (sym gone_is) (
          shown_state (tables.next_request + 1) gone sends.submits.opened,
          inl (kept.settled.none_owed, Calls-opened over view.state tables.next_request told_request (shown_state (tables.next_request + 1) gone sends.submits.opened) refl k.not_refused opened_over),
          IsSame-refl _,
        ))

    labels_are : tables1.labels.items ≡ own
    labels_are =
        admits.tells ∙ ap (λ before. before ++ Call tables.next_request (record q { bytes = copies.call_bytes.told.items }) ∷ []) told
        ∙ ap (λ bytes. Call tables.next_request (record q { bytes = bytes }) ∷ []) buffers.told

    -- the request is on a partition, as all before it
    given : All HasPartition sends.submits.opened.requests
    given =
        All-permutation HasPartition _ _ (IsPermutation-sym _ _ sends.submits.opens.after.requests)
        (All-cons HasPartition _ below.state.requests refl (have_partitions tables.requests below.state.requests kept.sound.held))

    abbrev first : AdapterView
    first = record below.adapter { reserved = below'.adapter.reserved }

    is_served : IsServed (reserved_by over called) limits below tables own sends.submits.starts below1 tables1
    is_served = record {
      opened = sends.submits.opened;
      given = given;
      none_untaken = kept.none_recorded;
      run = run_own;
      same_rules = sends.submits.moves.same_rules;
      device = sends.submits.moves.run;
      recorded = labels_moved first sends.submits.starts below1.adapter sends.submits.moves.adapter ∙ ap (λ before. before ++ sends.submits.starts) kept.none_recorded;
      own_labels = labels_are;
      same_keeps = admits.label_places.1;
      same_untaken = ap (λ (t : Tables). t.untaken.items) admits.after ∙ keeps.same_untaken;
      places = tt;
    }

    admitted_right : (below2 : DeviceView) (tables2 : Tables) (id : Id) → id.slot ≡ slot → id.number ≡ tables'.next_request
        → (c : Collects below1 tables1 below2 tables2) → IsInState tables2.state below2.state
        → IsRight (CallReplies view handle called buffer (Requested id) (view_of limits below2 tables2)) view (view_of limits below2 tables2) × AsksInside below2
    admitted_right below2 tables2 id same_slot same_number c in_state =
        let both : IsRightBy false (told_by limits below tables own sends.submits.starts below1 tables1 below2 tables2 is_served c (reserved_by over called)) view (view_of limits below2 tables2) × AsksInside below2 =
        IsRightBy-served limits below tables own sends.submits.starts below1 tables1 below2 tables2 is_served c first kept.reached kept.inside (reserved_for below' reserves near unless_write)
        sends.submits.moves.adapter in_state in (
          record {
            told = told_by limits below tables own sends.submits.starts below1 tables1 below2 tables2 is_served c (reserved_by over called);
            replies = record {
              replies = record {
                numbers_last = k.numbers_last;
                not_refused = admitted;
                next_number = number_is;
                own = ap (λ n. Call n told_request ∷ []) (sym number_is) ∙ ap (λ r. Call id.number r ∷ []) told_is;
                only_starts = All-append IsStart sends.submits.starts c.starts sends.submits.only_starts c.only_starts;
                reserves = refl;
                was_free = get_or-map (option_map holder_of) tables.requests.slots id.slot None ∙ ap (option_map holder_of) (ap (get tables.requests) same_slot ∙ admits.was_free);
                in_range = subst (λ n. id.slot < n) kept.sound.places.requests (subst (λ n. n < tables.requests.capacity) (sym same_slot) admits.in_range);
                holds = record {
                  there =
                      get_or-map (option_map holder_of) tables1.requests.slots id.slot None
                      ∙ ap (option_map holder_of) (ap (get tables1.requests) same_slot ∙ admits.holds.changed)
                      ∙ ap (λ n. Some (let holder : Holder = record { number = n; handle = handle.number } in holder)) (sym number_is);
                  others = λ other apart.
                      get_or-map (option_map holder_of) tables1.requests.slots other None
                      ∙ ap (option_map holder_of) (admits.holds.others other (λ e. apart (e ∙ sym same_slot)))
                      ∙ sym (get_or-map (option_map holder_of) tables.requests.slots other None);
                };
              };
              handles = record {
                handles = ap (λ (s : Slab OpenHandle). s.slots) (c.same_handles ∙ ap (λ (t : Tables). t.handles) admits.after);
                next_handle = c.same_next_handle ∙ ap (λ (t : Tables). t.next_handle) admits.after;
              };
            };
            by = both.0;
          },
          both.1,
        )
      where
        number_is : id.number ≡ tables.next_request
        number_is = same_number ∙ ap (λ (t : Tables). t.next_request) keeps.after

-- AS IT IS SHOWN: what holds between two steps holds after it

module _ (limits : Limits) (below : DeviceView) (tables : Tables) (old : ManagerView) (handle : Handle) (q : ClientRequest) (buffer : List ℕ) (kept : ManagerKept limits below tables)
    (shown : view_of limits below tables ≡ old) (k : IsAdmissible old q) (taken : old.labels ≡ []) (is_call : q ≡ without_bytes (call_on old handle q.kind q.offset buffer q.through)) where
  admissible : IsAdmissible (view_of limits below tables) q
  admissible = subst (λ v. IsAdmissible v q) (sym shown) k

  told : tables.labels.items ≡ []
  told = ap (λ (v : ManagerView). v.labels) shown ∙ taken

  is_called : q ≡ without_bytes (call_on (view_of limits below tables) handle q.kind q.offset buffer q.through)
  is_called = subst (λ v. q ≡ without_bytes (call_on v handle q.kind q.offset buffer q.through)) (sym shown) is_call

  abbrev Row : ManagerView → Reply → ManagerView → Type 0
  Row v reply new = IsRight (CallReplies v handle (call_on v handle q.kind q.offset buffer q.through) buffer reply new) v new

  pub turned_away_kept : (limits' : Limits) (below' : DeviceView) (tables' : Tables) (reply : Reply) → limits' ≡ limits → Reserves below below' → ReservesNear below (request_of limits.sector_size q) below' → (q.kind ≢ Write → below'.adapter ≡ below.adapter) → KeepsAnswers tables tables' → reply ≡ Refused InsufficientResources buffer
      → IsRight (CallReplies old handle (call_on old handle q.kind q.offset buffer q.through) buffer reply (view_of limits' below' tables')) old (view_of limits' below' tables') × ManagerKept limits' below' tables'
  turned_away_kept limits' below' tables' reply same reserves near unless_write keeps is_reply =
      let right : Row (view_of limits below tables) reply (view_of limits below' tables') =
      turned_away limits below tables handle q buffer kept admissible told is_called below' tables' reply reserves near unless_write keeps is_reply in
      subst (λ (l : Limits). Row old reply (view_of l below' tables') × ManagerKept l below' tables') (sym same) (
        subst (λ v. Row v reply (view_of limits below' tables')) shown right,
        ManagerKept-reserved limits below below' tables tables' right.told kept right.by reserves (reserved_sound limits below tables below' tables' kept.sound reserves keeps) (reserved_inside below below' kept.inside reserves)
            (ap (λ (t : Tables). t.state) keeps.after),
      )

  pub admitted_kept : (below1 : DeviceView) (tables1 : Tables) (copies : LabelBytes) (spot : ℕ) (below2 : DeviceView) (tables2 : Tables) (limits' : Limits) (below3 : DeviceView) (tables3 : Tables) (id : Id)
      → Reserves below below1 → ReservesNear below (request_of limits.sector_size q) below1 → (q.kind ≢ Write → below1.adapter ≡ below.adapter) → KeepsAnswers tables tables1 → HasLabelBytes tables1.labels.keeps tables1.labels.keeps_bytes q.kind buffer copies
      → IsSent below1 tables1 handle q (request_of limits.sector_size q) copies buffer spot id.slot below2 tables2 → id.number ≡ tables1.next_request
      → limits' ≡ limits → IsSound limits' below3 tables3 → Collects below2 tables2 below3 tables3
      → IsRight (CallReplies old handle (call_on old handle q.kind q.offset buffer q.through) buffer (Requested id) (view_of limits' below3 tables3)) old (view_of limits' below3 tables3) × ManagerKept limits' below3 tables3
  admitted_kept below1 tables1 copies spot below2 tables2 limits' below3 tables3 id reserves near unless_write keeps buffers sent number same sound collects =
      let sound' : IsSound limits below3 tables3 = subst (λ (l : Limits). IsSound l below3 tables3) same sound in
      let both : Row (view_of limits below tables) (Requested id) (view_of limits below3 tables3) × AsksInside below3 =
      admitted_right limits below tables handle q buffer kept admissible told is_called below1 tables1 copies spot id.slot below2 tables2 reserves near unless_write keeps buffers sent.admits sent.sends
      below3 tables3 id refl number collects sound'.in_state in (
        subst (λ (l : Limits). Row old (Requested id) (view_of l below3 tables3)) (sym same) (subst (λ v. Row v (Requested id) (view_of limits below3 tables3)) shown both.0),
        ManagerKept-collected limits limits' below below2 below3 tables tables2 tables3 false both.0.told same kept both.0.by sound both.1 collects,
      )
