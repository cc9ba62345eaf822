-- A finish: the piece comes back, each packet that has ended is taken, and its part is noted or sent again. The machine above moves by
-- the return, and then by starts.
use Rattle.std.proofs.Common.{◌≡◌, ◌<◌, ℕ, suc, ◌+◌, Bool, List, [], ◌∷◌, ◌++◌, refl, sym, ◌∙◌, ap, subst, map, replicate}
use Rattle.std.specs.Prelude.{IsPermutation, All, IsFalse}
use Rattle.class_disk.proofs.Common.{SamePlaces, IsPermutation-refl, IsPermutation-sym, All-permutation, Contains-permutation, DeviceBusy, MovesByAll, DeviceLabel, Return, Climb, Rules, place_count, as_client, State, IsSame, Untouched, AreDistinct, request_number, AreCounted, Opens, Answers, IsStart, restarts, Run, as_label, DeviceView, Packet, OnTag, piece_on_tag, packet_number, IsOrderly, sent_bytes, room_at, HandsUp, HandsUpNone, Submits, Finishes, AwaitsRestartIfEnded, Run-same, AreDistinct-Run, AreDistinct-same, Opened, TableView, opened, Way, Note, Sent, Kept, Known, known_of, shown_mark, above, class_rules, IsPort, shown_state, places_of, note, known, knowns, tickets, view_of, packet_above, AreKept, AreBelow, IsCoupled, IsInHand, most_over, AllOut, EndsAs, payload_in, IsTaking}
use Rattle.class_disk.specs.declared.parts.Part.{Part}
use Rattle.class_disk.specs.declared.parts.Ended.{Ended}
use Rattle.class_disk.specs.declared.parts.Progress.TheVariants.{Ended as PartEnded}
use Rattle.class_disk.specs.inside.Invariant.{IsSound, Keeps, WasSent, EndedBy, EndedAre, IsOver, HasSome, noted_busy}
use Rattle.class_disk.proofs.Restarting.{noted_back}
use Rattle.class_disk.proofs.Standing.{IsApart}
use Rattle.class_disk.proofs.CoupledRun.{Contains-map}
use Rattle.class_disk.proofs.Showing.{shown_is}
use Rattle.class_disk.proofs.Acting.{map_there, same_tags, shows, numbers_known, have_places}
use Rattle.class_disk.proofs.Orderly.{orderly_above}
use Rattle.class_disk.proofs.Ending.{noted_taken, waits_again, ended_finish, ended_handed, ended_submitted}
use Rattle.class_disk.proofs.Retaking.{known_at, kept_taken, sent_again, taking_begins}
use Rattle.class_disk.proofs.PortRules.{port_rules}

-- THE PIECE COMES BACK
pub finish_begins : (v : DeviceView) (books : TableView) (tag : ℕ) (v' : DeviceView) → IsPort v.rules → (c : IsCoupled v books) → IsSound v.state → AreCounted v.rules v.state → All (AwaitsRestartIfEnded v.rules v.state) v.state.requests → (h : Finishes v tag v')
    → IsTaking (class_rules v.rules) (above c.j) (Return h.piece.number h.class ∷ h.starts) v'.state (knowns (class_rules v.rules) books) × EndedAre WasSent v.rules v'.state
finish_begins v books tag v' port c sound counted unfinished h = (
  taking_begins (class_rules v.rules) refl c.j v.state v'.state (knowns (class_rules v.rules) books) (Return h.piece.number h.class ∷ h.starts) c.same c.knows c.keeps sound
      (subst (λ r. AreCounted r v.state) (port_rules port) counted)
      (subst (λ r. Run r v.state (map as_label (Return h.piece.number h.class ∷ h.starts)) v'.state) (port_rules port) h.moves.run),
  ended_finish v tag v' (port.one_piece) sound unfinished h,
)

module _ (takes : Bool) (v : DeviceView) (climb : Climb) (spot : ℕ) (v' : DeviceView) (h : HandsUp takes v climb spot v') (port : IsPort v.rules) (ordered : IsOrderly v)
    (first : State) (labels : List DeviceLabel) (k : Known) (front back : List Note) (again : ℕ) (others : List Known)
    (t : IsTaking (class_rules v.rules) first labels v.state (known_at k front (Sent h.answer.packet.number again) back ∷ others)) where
  counted : AreCounted v.rules v.state
  counted = subst (λ r. AreCounted r v.state) (sym (port_rules port)) t.counted

  kept : IsTaking (class_rules v.rules) first (labels ++ h.left.starts) v'.state (known_at k front (Kept (map (shown_mark again) h.answer.answers.request.marks) (again + h.answer.answers.request.busy_returns)) back ∷ others)
  kept =
      subst (λ r. (x : Answers r v.state h.answer.packet.number h.answer.status h.answer.bytes h.answer.answered) → Run r h.answer.answered (map as_label h.left.starts) v'.state
      → IsTaking (class_rules v.rules) first (labels ++ h.left.starts) v'.state (known_at k front (Kept (map (shown_mark again) x.request.marks) (again + x.request.busy_returns)) back ∷ others))
      (sym (port_rules port))
      (λ x run. kept_taken (class_rules v.rules) refl first labels v.state ordered.places k front back again others h.answer.packet.number h.answer.status h.answer.bytes h.answer.answered x t h.left.starts v'.state run)
      h.answer.answers h.left.moves.run

  module _ (part : Part) (ended : Ended) (is_ended : part.progress ≡ PartEnded ended) (payload : payload_in ended.packet ≡ h.answer.payload) (asks : place_count v.rules h.answer.answers.request.request ≡ places_of (class_rules v.rules) part)
      (same : part.restarts ≡ again) where
    by_note_is : Kept (map (shown_mark part.restarts) h.answer.answers.request.marks) (part.restarts + h.answer.answers.request.busy_returns) ≡ note (class_rules v.rules) part
        → IsTaking (class_rules v.rules) first (labels ++ h.left.starts) v'.state (known_at k front (note (class_rules v.rules) part) back ∷ others)
    by_note_is is =
        subst (λ n. IsTaking (class_rules v.rules) first (labels ++ h.left.starts) v'.state (known_at k front n back ∷ others))
        (ap (λ n. Kept (map (shown_mark n) h.answer.answers.request.marks) (n + h.answer.answers.request.busy_returns)) (sym same) ∙ is) kept

    -- A PART IS NOTED
    pub notes_taken : (way : Way) → EndedAre (EndedBy way) v.rules v.state → EndsAs way h.answer.status ended.outcome
        → IsTaking (class_rules v.rules) first (labels ++ h.left.starts) v'.state (known_at k front (note (class_rules v.rules) part) back ∷ others) × EndedAre (EndedBy way) v.rules v'.state
    notes_taken way were is = (
      by_note_is (noted_taken takes v climb spot v' h port t.sound counted ordered.places part ended is_ended payload asks way were is),
      ended_handed (EndedBy way) takes v climb spot v' were h,
    )

  -- A PART THAT CAME BACK BUSY GOES DOWN AGAIN

  answered_is : IsSame h.answer.answered v'.state
  answered_is = subst (λ (ls : List DeviceLabel). Run v.rules h.answer.answered (map as_label ls) v'.state) (h.left.still port.no_window).0 h.left.moves.run

  pub goes_again : (packet : Packet) (v'' : DeviceView) → (d : Submits v' packet h.answer.request h.answer.payload v'') → EndedAre WasSent v.rules v.state → h.answer.status ≡ DeviceBusy → 0 < place_count v.rules (as_client v.rules h.answer.request [])
      → noted_busy (front ++ (Sent h.answer.packet.number again ∷ back)) < noted_back (front ++ (Sent h.answer.packet.number again ∷ back)) + restarts (class_rules v.rules)
      → IsFalse k.cancelled → (limit : ℕ) → All (IsOver limit v.state.removing) others → All (HasSome (class_rules v.rules)) others
      → IsTaking (class_rules v.rules) first (labels ++ d.starts) v''.state (known_at k front (Sent packet.number (suc again)) back ∷ others) × EndedAre WasSent v.rules v''.state
  goes_again packet v'' d sent busy some few timely limit over all_some =
      let w = waits_again takes v climb spot v' h port t.sound counted ordered.places sent again busy in
      let same_rules : v'.rules ≡ v.rules = h.left.moves.same_rules in
      let opens : Opens v.rules v'.state packet.number h.answer.answers.request.request d.opened =
      subst (λ q. Opens v.rules v'.state packet.number q d.opened) (sym h.answer.is_request)
      (subst (λ r. Opens r v'.state packet.number (as_client r h.answer.request (sent_bytes h.answer.request.kind h.answer.payload)) d.opened) same_rules d.opens) in
      let run : Run v.rules d.opened (map as_label d.starts) v''.state = subst (λ r. Run r d.opened (map as_label d.starts) v''.state) same_rules d.moves.run in (
        subst (λ r. (x : Answers r v.state h.answer.packet.number h.answer.status h.answer.bytes h.answer.answered) → Opens r v'.state packet.number x.request.request d.opened → Run r d.opened (map as_label d.starts) v''.state
            → (map (shown_mark again) x.request.marks ≡ map (shown_mark (suc again)) (replicate (place_count (class_rules v.rules) x.request.request) Untouched)) → x.request.busy_returns ≡ 1
            → IsTaking (class_rules v.rules) first (labels ++ d.starts) v''.state (known_at k front (Sent packet.number (suc again)) back ∷ others))
            (sym (port_rules port))
            (λ x opened go shows once. sent_again (class_rules v.rules) refl first labels v.state ordered.places k front back again others h.answer.packet.number h.answer.status h.answer.bytes h.answer.answered x t shows once few
            v'.state answered_is packet.number d.opened opened timely limit over all_some d.starts v''.state go)
            h.answer.answers opens run w.0 w.1,
        subst (λ r. EndedAre WasSent r v''.state) same_rules
            (ended_submitted WasSent v' packet h.answer.request h.answer.payload v'' (subst (λ r. 0 < place_count r (as_client r h.answer.request [])) (sym same_rules) some)
            (subst (λ r. EndedAre WasSent r v'.state) (sym same_rules) (ended_handed WasSent takes v climb spot v' sent h)) d),
      )

-- ALL IS TAKEN: what the class driver shows has finished
module _ (v : DeviceView) (books : TableView) (h : IsInHand v books) (tag : ℕ) (v' : DeviceView) (f : Finishes v tag v')
    (v'' : DeviceView) (books' : TableView) (starts : List DeviceLabel) where
  abbrev returned : ℕ → List DeviceLabel
  returned number = Return number f.class ∷ starts

  pub finishes_above : All IsStart starts → IsTaking (class_rules v.rules) (above h.coupled.j) (returned f.piece.number) v''.state (knowns (class_rules v.rules) books') → MovesByAll v.adapter (returned f.piece.number) v''.adapter
      → v''.rules ≡ v.rules → v''.most ≡ v.most → SamePlaces (view_of v books) (view_of v'' books') → books'.last_request ≡ books.last_request → books'.submitted ≡ books.submitted → IsPermutation (map packet_above books'.opens) (map packet_above books.opens) → books'.rooms ≡ books.rooms
      → Finishes (view_of v books) tag (view_of v'' books') × IsCoupled v'' books' × IsSound v''.state × AreCounted v''.rules v''.state
  finishes_above only t adapter same_rules same_most same_places same_last same_submitted same_packets same_rooms =
      let rules : Rules = class_rules v.rules in
      let q = map_there piece_on_tag (view_of v books).state.pieces (piece_on_tag f.piece) (Contains-permutation _ _ _ (same_tags v books h tag) (Contains-map piece_on_tag v.state.pieces f.piece f.is_out)) in
      let number : q.0.number ≡ f.piece.number = ap (λ (x : OnTag). x.number) q.2 in
      let next_above : t.j.next_above ≡ books'.last_request + 1 = t.next_above ∙ h.coupled.next_above ∙ ap (λ n. n + 1) (sym same_last) in
      let shown : IsSame (above t.j) (view_of v'' books').state =
      subst (λ r. IsSame (above t.j) (shown_state v''.state (books'.last_request + 1) (knowns (class_rules r) books'))) (sym same_rules)
      (subst (λ n. IsSame (above t.j) (shown_state v''.state n (knowns rules books'))) next_above
      (shown_is rules t.j v''.state (knowns rules books') t.same t.sound.distinct t.keeps t.knows)) in (
        record {
          piece = q.0;
          class = f.class;
          starts = starts;
          is_out = q.1;
          is_tag = ap (λ (x : OnTag). x.tag) q.2 ∙ f.is_tag;
          only_starts = only;
          moves = record {
            same_rules = ap class_rules same_rules;
            same_packets = same_packets;
            same_rooms = λ spot. ap (λ rooms. room_at rooms spot) same_rooms;
            same_submitted = same_submitted;
            same_most = ap most_over same_most;
            same_places = same_places;
            run = subst (λ n. Run rules (view_of v books).state (map as_label (returned n)) (view_of v'' books').state) (sym number)
                (Run-same rules (map as_label (returned f.piece.number)) (above h.coupled.j) _ (above t.j) _ (shows v books h) shown t.run);
            adapter = subst (λ n. MovesByAll v.adapter (returned n) v''.adapter) (sym number) adapter;
          };
        },
        record {
          j = t.j;
          same = t.same;
          knows = subst (λ r. IsPermutation (map known_of t.j.divided) (knowns (class_rules r) books')) (sym same_rules) t.knows;
          next_above = next_above;
          keeps = subst (λ r. Keeps (class_rules r) t.j) (sym same_rules) t.keeps;
        },
        t.sound,
        subst (λ r. AreCounted r v''.state) (sym same_rules) (subst (λ r. AreCounted r v''.state) (sym (port_rules h.port)) t.counted),
      )

-- IN HAND AGAIN, where the layer below has nothing more that has ended

packets_known : (rules : Rules) (es : List (ℕ × Opened)) → map packet_number (map packet_above es) ≡ map (λ (k : Known). k.number) (map (known rules) (map opened es))
packets_known rules [] = refl
packets_known rules (e ∷ es) = ap (λ ns. e.1.irp.number ∷ ns) (packets_known rules es)

-- what the class driver itself owes of its table, rooms and parts
pub record IsKeptInTable (v : DeviceView) (books : TableView) : Type 0 where
  pub port : IsPort v.rules
  pub rooms_out : AllOut v (tickets books)
  pub kept : AreKept (class_rules v.rules) books
  pub below : AreBelow v books
  pub apart : IsApart books

pub in_hand_again : (v : DeviceView) (books : TableView) (v' : DeviceView) → IsKeptInTable v books → IsCoupled v books → IsSound v.state
    → AreCounted v.rules v.state → IsOrderly v → AreDistinct (view_of v books).state → HandsUpNone v v' → IsInHand v books
in_hand_again v books v' own c sound counted ordered distinct none =
    let rules : Rules = class_rules v.rules in
    let ks : List Known = knowns rules books in
    let shown : IsSame (above c.j) (view_of v books).state = subst (λ n. IsSame (above c.j) (shown_state v.state n ks)) c.next_above (shown_is rules c.j v.state ks c.same sound.distinct c.keeps c.knows) in
    let over_j : All (IsOver 17 c.j.removing) (map known_of c.j.divided) = subst (λ b. All (IsOver 17 b) (map known_of c.j.divided)) (sym c.same.removing) (All-permutation (IsOver 17 v.state.removing) _ _ (IsPermutation-sym _ _ c.knows) own.below.over) in
    let packed : map packet_number (map packet_above books.opens) ≡ map request_number (view_of v books).state.requests = packets_known rules books.opens ∙ sym (numbers_known v.state ks) in
    record {
      port = own.port;
      sound = sound;
      counted = counted;
      coupled = c;
      rooms_out = own.rooms_out;
      unfinished = none.unfinished;
      settled = none.settled;
      kept = own.kept;
      below = own.below;
      orderly = orderly_above v own.port ordered sound c.j c.same c.keeps none.unfinished none.settled
          (AreDistinct-same (above c.j) (view_of v books).state shown distinct)
          (have_places rules c.j ks c.keeps c.knows own.below.some) over_j
          (view_of v books).state shown (view_of v books).packets (subst (λ ns. IsPermutation (map packet_number (map packet_above books.opens)) ns) packed (IsPermutation-refl _))
          books.rooms own.apart.spots own.apart.vacant books.submitted (most_over v.most) (view_of v books).places;
    }

-- numbers stay distinct above
pub distinct_behind : (v : DeviceView) (books : TableView) (tag : ℕ) (v' : DeviceView) (books' : TableView) → AreDistinct (view_of v books).state → Finishes (view_of v books) tag (view_of v' books') → AreDistinct (view_of v' books').state
distinct_behind v books tag v' books' distinct f = AreDistinct-Run (class_rules v.rules) (view_of v books).state (map as_label (Return f.piece.number f.class ∷ f.starts)) (view_of v' books').state distinct f.moves.run
