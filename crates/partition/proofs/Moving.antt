-- What the layer below does is what the partition driver shows.
use Rattle.partition.proofs.Common.{◌≡◌, inl, inr, ℕ, Bool, true, false, List, [], ◌∷◌, refl, sym, ◌∙◌, ap, subst, map, get_or, eqb, IsDistinct, IsPermutation-sym, IsPermutation-map, All-permutation, Contains-permutation, IsDistinct-IsPermutation, Contains-get_or, All-contains, All-weaker, Extent, DeviceLabel, Rules, OpenRequest, Piece, State, array_at, Cancels, Drains, Pauses, Resumes, AreDistinct, request_number, ArePlaced, IsMap, Run, as_label, AreDistinct-Step, flips, ArePlaced-FreeStep, ArePlaced-Drains, Cancel, Pause, Resume, DeviceView, Packet, IsOrderly, packet_number, Moves, IsBeside, IsFreshOn, ActsOrFaults, ActsNot, Finishes, FinishesNot, Resets, CancelsIfOpen, CancelsAt, IsAt, HasOtherNumber, DrainsAll, PausesAll, ResumesAll, HandsUpNone, AwaitsRestart, AwaitsRestartIfEnded, NoneToCancel, HasEnded, asked, rules_over, called, as_called, on_partitions, packet_above, view_of, IsWholeDisk, ComesBack, LiesInside, IsOnDisk}
use Rattle.std.specs.Prelude.{All, Any, Contains, IsPermutation, MatchBool, ◌⊎◌}
use Rattle.partition.proofs.Noted.{Contains-map, from_map, asked_same}
use Rattle.partition.proofs.Steps.{Stands, Run-over, Run-keeps, Keeps, moved, only_array}
use Rattle.partition.proofs.Alike.{AreNotedAlike, state_alike, lie_alike}
use Rattle.partition.proofs.Calls.{ended_was}
use Rattle.partition.proofs.Marking.{Cancels-over, none_over, Drains-over, Pauses-over, Resumes-over, lie_cancelled, lie_drained, lie_paused, lie_resumed}
use Rattle.partition.proofs.Settled.{stands, Settled-over, each}

-- THE SAME PACKETS IN ANOTHER ORDER

-- what the numbers of the packets are
pub record AreNumbered (packets : List Packet) (s : State) : Type 0 where
  pub distinct : AreDistinct s
  pub numbers : IsPermutation (map packet_number packets) (map request_number s.requests)

pub numbered : (v : DeviceView) → IsOrderly v → AreNumbered v.packets v.state
numbered v o = record { distinct = o.distinct; numbers = o.packets }

distinct_packets : (packets : List Packet) (s : State) → AreNumbered packets s → IsDistinct eqb (map packet_number packets)
distinct_packets packets s h = IsDistinct-IsPermutation eqb flips _ _ (IsPermutation-sym _ _ h.numbers) h.distinct.requests

pub noted_alike : (packets packets' : List Packet) (s : State) → IsPermutation packets' packets → AreNumbered packets' s
    → AreNotedAlike packets packets' s.requests
noted_alike packets packets' s p h = λ k d low. one (get_or s.requests k d) (Contains-get_or s.requests k d low)
  where
    one : (o : OpenRequest) → Contains s.requests o → asked packets o.number ≡ asked packets' o.number
    one o is_open =
        let still : IsDistinct eqb (map packet_number packets') = distinct_packets packets' s h in
        let before : IsDistinct eqb (map packet_number packets) =
        IsDistinct-IsPermutation eqb flips _ _ (IsPermutation-map packet_number _ _ p) still in
        let there : Contains (map packet_number packets') o.number =
        Contains-permutation _ _ o.number (IsPermutation-sym _ _ h.numbers) (Contains-map request_number s.requests o is_open) in
        sym (asked_same packets' packets o.number still before p there)

-- the state that is shown, under rules and packets that are the same
pub state_is : (table : List Extent) (rules rules' : Rules) (packets packets' : List Packet) (s : State) → rules' ≡ rules
    → IsPermutation packets' packets → AreNumbered packets' s
    → on_partitions (rules_over table rules) packets s ≡ on_partitions (rules_over table rules') packets' s
state_is table rules rules' packets packets' s same p h =
    state_alike rules table packets packets' s (noted_alike packets packets' s p h)
    ∙ ap (λ r. on_partitions (rules_over table r) packets' s) (sym same)

pub lies_is : (table : List Extent) (rules rules' : Rules) (packets packets' : List Packet) (s : State) → rules' ≡ rules
    → IsPermutation packets' packets → AreNumbered packets' s
    → All (LiesInside (rules_over table rules) packets) s.requests → All (LiesInside (rules_over table rules') packets') s.requests
lies_is table rules rules' packets packets' s same p h lie =
    subst (λ r. All (LiesInside (rules_over table r) packets') s.requests) (sym same)
    (lie_alike rules table packets packets' s.requests (noted_alike packets packets' s p h) lie)

-- a request that is open below is open above, as its packet notes it
pub open_still : (table : List Extent) (from new : DeviceView) → new.rules ≡ from.rules → IsPermutation new.packets from.packets
    → AreNumbered new.packets new.state → (o : OpenRequest) → Contains new.state.requests o
    → Contains (view_of table new).state.requests (as_called (rules_over table from.rules) from.packets o)
open_still table from new same p numbers o is_open =
    let alike : asked from.packets o.number ≡ asked new.packets o.number =
    All-contains (λ x. asked from.packets x.number ≡ asked new.packets x.number) new.state.requests o
    (noted_alike from.packets new.packets new.state p numbers) is_open in
    let is : as_called (rules_over table from.rules) from.packets o ≡ as_called (rules_over table new.rules) new.packets o =
    ap (λ r. record o { request = called (rules_over table from.rules) r o.request }) alike
    ∙ ap (λ r. as_called (rules_over table r) new.packets o) (sym same) in
    subst (λ x. Contains (view_of table new).state.requests x) (sym is)
    (Contains-map (as_called (rules_over table new.rules) new.packets) new.state.requests o is_open)

-- WHERE THE LAYER BELOW GOES

-- from one view to the next: the disk stays the partition driver's, by the same rules
pub record GoesOn (table : List Extent) (old new : DeviceView) : Type 0 where
  pub on_disk : IsOnDisk table new
  pub same_rules : new.rules ≡ old.rules

-- the disk of a view under the same rules
disk_goes : (table : List Extent) (old new : DeviceView) → IsWholeDisk old.rules → IsMap old.rules.disk_sectors table
    → All ComesBack old.packets → new.rules ≡ old.rules → IsPermutation new.packets old.packets
    → AreNumbered new.packets new.state → All (LiesInside (rules_over table old.rules) old.packets) new.state.requests → ArePlaced new.state
    → GoesOn table old new
disk_goes table old new whole partitions back same p numbers lie placed = record {
  on_disk = record {
    whole = subst IsWholeDisk (sym same) whole;
    partitions = subst (λ (r : Rules). IsMap r.disk_sectors table) (sym same) partitions;
    packets = All-permutation ComesBack _ _ (IsPermutation-sym _ _ p) back;
    requests = lies_is table old.rules new.rules old.packets new.packets new.state same p numbers lie;
    placed = placed;
  };
  same_rules = same;
}

-- a run of the adapter's labels, from a moment at which the disk stands
pub record MovesOn (table : List Extent) (from new : DeviceView) (labels : List DeviceLabel) : Type 0 where
  pub moves : Moves (view_of table from) labels (view_of table new)
  pub goes : GoesOn table from new
  pub keeps : Keeps table (array_at from.state.arrays 0) (array_at new.state.arrays 0)

pub moves_on : (table : List Extent) (from new : DeviceView) (labels : List DeviceLabel) → Stands from.rules table from.packets from.state
    → All ComesBack from.packets → Moves from labels new
    → AreNumbered new.packets new.state → MovesOn table from new labels
moves_on table from new labels k back h numbers =
    let over : Rules = rules_over table from.rules in
    let before : State = on_partitions over from.packets from.state in
    let r : Run over before (map as_label labels) (on_partitions over from.packets new.state)
    × Stands from.rules table from.packets new.state =
    Run-over from.rules table from.packets labels from.state new.state k h.run in
    let same : on_partitions over from.packets new.state ≡ on_partitions (rules_over table new.rules) new.packets new.state =
    state_is table from.rules new.rules from.packets new.packets new.state h.same_rules h.same_packets numbers in
    record {
      moves = record {
        same_rules = ap (rules_over table) h.same_rules;
        same_packets = IsPermutation-map packet_above _ _ h.same_packets;
        same_rooms = h.same_rooms;
        same_submitted = h.same_submitted;
        same_most = h.same_most;
        same_places = h.same_places;
        run = subst (λ t. Run over before (map as_label labels) t) same r.0;
        adapter = h.adapter;
      };
      goes = disk_goes table from new k.whole k.partitions back h.same_rules h.same_packets numbers r.1.requests r.1.placed;
      keeps = Run-keeps from.rules table from.packets labels from.state new.state k h.run;
    }

module _ (table : List Extent) (old new : DeviceView) (k : IsOnDisk table old) (o : IsOrderly old) where
  abbrev shown : DeviceView
  shown = view_of table old

  abbrev shown' : DeviceView
  shown' = view_of table new

  -- nothing happens
  pub goes_same : new ≡ old → GoesOn table old new
  goes_same same = record { on_disk = subst (λ v. IsOnDisk table v) (sym same) k; same_rules = ap (λ (v : DeviceView). v.rules) same }

  pub shown_same : new ≡ old → shown' ≡ shown
  shown_same same = ap (view_of table) same

  -- THE ADAPTER'S LABELS

  fresh_is : (tag : ℕ) (piece : Piece) → IsFreshOn old.state tag piece → IsFreshOn shown.state tag piece
  fresh_is tag piece h = record { is_out = h.is_out; is_tag = h.is_tag; is_fresh = h.is_fresh }

  fresh_was : (tag : ℕ) (piece : Piece) → IsFreshOn shown.state tag piece → IsFreshOn old.state tag piece
  fresh_was tag piece h = record { is_out = h.is_out; is_tag = h.is_tag; is_fresh = h.is_fresh }

  -- an act moves sectors of its partition alone
  pub record ActsOver (tag : ℕ) (done : Bool) : Type 0 where
    pub acts : MatchBool done (ActsOrFaults shown tag shown') (ActsNot shown tag shown')
    pub goes : GoesOn table old new
    pub keeps : Keeps table (array_at old.state.arrays 0) (array_at new.state.arrays 0)

  pub acts_over : IsOrderly new → (tag : ℕ) (done : Bool) → MatchBool done (ActsOrFaults old tag new) (ActsNot old tag new)
      → ActsOver tag done
  acts_over o' tag true h =
      let m : MovesOn table old new (h.label ∷ []) =
      moves_on table old new (h.label ∷ []) (stands table old k o) k.packets h.moves (numbered new o') in
      record {
        acts = record { piece = h.piece; label = h.label; fresh = fresh_is tag h.piece h.fresh; told = h.told; if_booked = h.if_booked; moves = m.moves };
        goes = m.goes;
        keeps = m.keeps;
      }
  acts_over o' tag false h = record {
    acts = record { none = λ piece fresh. h.none piece (fresh_was tag piece fresh); same = shown_same h.same };
    goes = goes_same h.same;
    keeps =
        subst (λ (v : DeviceView). Keeps table (array_at old.state.arrays 0) (array_at v.state.arrays 0)) (sym h.same)
        (record { same_length = refl; outside = λ i apart. refl });
  }

  pub finishes_over : IsOrderly new → (tag : ℕ) (done : Bool) → MatchBool done (Finishes old tag new) (FinishesNot old tag new)
      → MatchBool done (Finishes shown tag shown') (FinishesNot shown tag shown') × GoesOn table old new
  finishes_over o' tag true h =
      let m : MovesOn table old new _ = moves_on table old new _ (stands table old k o) k.packets h.moves (numbered new o') in
      let shown_finishes : Finishes shown tag shown' = record {
        piece = h.piece;
        class = h.class;
        starts = h.starts;
        is_out = h.is_out;
        is_tag = h.is_tag;
        only_starts = h.only_starts;
        moves = m.moves;
      } in
      (shown_finishes, m.goes)
  finishes_over o' tag false h = (record { free = h.free; same = shown_same h.same }, goes_same h.same)

  pub resets_over : IsOrderly new → Resets old new → Resets shown shown' × GoesOn table old new
  resets_over o' h =
      let mid : DeviceView = record new { adapter = h.all_faulted } in
      let m : MovesOn table old mid _ =
      moves_on table old mid _ (stands table old k o) k.packets h.moves (record { distinct = o'.distinct; numbers = o'.packets }) in
      let d : IsOnDisk table mid = m.goes.on_disk in (
        record {
          fresh = h.fresh;
          all_faulted = h.all_faulted;
          all_fresh = h.all_fresh;
          rising = h.rising;
          moves = m.moves;
          noted = h.noted;
        },
        record {
          on_disk = record { whole = d.whole; partitions = d.partitions; packets = d.packets; requests = d.requests; placed = d.placed };
          same_rules = m.goes.same_rules;
        },
      )

  -- CANCELLATION, THE HOLD AND REMOVAL

  beside_over : IsBeside old new → IsBeside shown shown'
  beside_over h = record {
    same_rules = ap (rules_over table) h.same_rules;
    same_packets = IsPermutation-map packet_above _ _ h.same_packets;
    same_rooms = h.same_rooms;
    same_submitted = h.same_submitted;
    same_most = h.same_most;
    same_places = h.same_places;
    same_adapter = h.same_adapter;
  }

  -- the machine's state after a step of it, as it is shown
  pub shown_is : IsOrderly new → IsBeside old new → on_partitions (rules_over table old.rules) old.packets new.state ≡ shown'.state
  shown_is o' h = state_is table old.rules new.rules old.packets new.packets new.state h.same_rules h.same_packets (numbered new o')

  goes_to : IsOrderly new → IsBeside old new → All (LiesInside (rules_over table old.rules) old.packets) new.state.requests
      → ArePlaced new.state → GoesOn table old new
  goes_to o' h lie placed = disk_goes table old new k.whole k.partitions k.packets h.same_rules h.same_packets (numbered new o') lie placed

  -- a request that was cancelled, or nothing
  abbrev pub CancelsOrNot : DeviceView → ℕ → DeviceView → Type 0
  CancelsOrNot v number v' = (Cancels v.state number v'.state × IsBeside v v') ⊎ (NoneToCancel v.state number × (v' ≡ v))

  -- a request that was cancelled, or the view as it was
  abbrev CancelsOrSame : DeviceView → ℕ → DeviceView → Type 0
  CancelsOrSame v number v' = (Cancels v.state number v'.state × IsBeside v v') ⊎ (v' ≡ v)

  cancelled_over : IsOrderly new → (number : ℕ) → Cancels old.state number new.state → IsBeside old new
      → (Cancels shown.state number shown'.state × IsBeside shown shown') × GoesOn table old new
  cancelled_over o' number c beside =
      let cancels : Cancels shown.state number shown'.state =
      subst (λ t. Cancels shown.state number t) (shown_is o' beside)
      (Cancels-over old.rules table old.packets old.state number new.state c) in (
        (cancels, beside_over beside),
        goes_to o' beside (lie_cancelled old.rules table old.packets old.state number new.state k.requests c)
            (ArePlaced-FreeStep old.rules old.state (Cancel number) new.state o.distinct k.placed c),
      )

  pub cancels_over : IsOrderly new → (number : ℕ) → CancelsIfOpen old number new → CancelsIfOpen shown number shown' × GoesOn table old new
  cancels_over o' number h = by h.one_of
    where
      by : CancelsOrNot old number new → CancelsIfOpen shown number shown' × GoesOn table old new
      by (inl (c, beside)) = let r = cancelled_over o' number c beside in (record { one_of = inl r.0 }, r.1)
      by (inr (none, same)) =
          (record { one_of = inr (none_over old.rules table old.packets old.state number none, shown_same same) }, goes_same same)

  -- a packet keeps its spot and its number
  at_below : (spot number : ℕ) → Any (IsAt spot number) shown.packets → Any (IsAt spot number) old.packets
  at_below spot number (i, x, low, is, at) = by (from_map packet_above old.packets x (i, low, is))
    where
      by : (packet : Packet) × Contains old.packets packet × (packet_above packet ≡ x) → Any (IsAt spot number) old.packets
      by (packet, (j, within, same), e) =
          let there : IsAt spot number (packet_above packet) = subst (IsAt spot number) (sym e) at in
          (j, packet, within, same, record { is_spot = there.is_spot; is_number = there.is_number })

  others_below : (number : ℕ) → All (HasOtherNumber number) shown.packets → All (HasOtherNumber number) old.packets
  others_below number others = λ i d low.
      All-contains (HasOtherNumber number) shown.packets (packet_above (get_or old.packets i d)) others
      (Contains-map packet_above old.packets (get_or old.packets i d) (Contains-get_or old.packets i d low))

  pub cancels_at_over : IsOrderly new → (spot number : ℕ) → CancelsAt old spot number new
      → CancelsAt shown spot number shown' × GoesOn table old new
  cancels_at_over o' spot number h =
      let r : CancelsOrSame shown number shown' × GoesOn table old new = by h.either in (
        record {
          there = λ at. (cancels_over o' number (h.there (at_below spot number at))).0;
          gone = λ others. shown_same (h.gone (others_below number others));
          either = r.0;
        },
        r.1,
      )
    where
      by : CancelsOrSame old number new → CancelsOrSame shown number shown' × GoesOn table old new
      by (inl (c, beside)) = let r = cancelled_over o' number c beside in (inl r.0, r.1)
      by (inr same) = (inr (shown_same same), goes_same same)

  pub drains_over : IsOrderly new → DrainsAll old new → DrainsAll shown shown' × GoesOn table old new
  drains_over o' h = (
    record {
      drains =
          subst (λ t. Drains (rules_over table old.rules) shown.state t) (shown_is o' h.beside)
          (Drains-over old.rules table old.packets old.state new.state h.drains);
      beside = beside_over h.beside;
    },
    goes_to o' h.beside (lie_drained old.rules table old.packets old.state new.state k.requests h.drains)
        (ArePlaced-Drains old.rules old.state new.state k.placed h.drains),
  )

  pub pauses_over : IsOrderly new → PausesAll old new → PausesAll shown shown' × GoesOn table old new
  pauses_over o' h = (
    record {
      pauses =
          subst (λ t. Pauses (rules_over table old.rules) shown.state t) (shown_is o' h.beside)
          (Pauses-over old.rules table old.packets old.state new.state h.pauses);
      beside = beside_over h.beside;
    },
    goes_to o' h.beside (lie_paused old.rules table old.packets old.state new.state k.requests h.pauses)
        (ArePlaced-FreeStep old.rules old.state Pause new.state o.distinct k.placed h.pauses),
  )

  pub resumes_over : IsOrderly new → ResumesAll old new → ResumesAll shown shown' × GoesOn table old new
  resumes_over o' h =
      let s : Stands old.rules table old.packets old.state = stands table old k o in
      let r : Resumes old.state h.resumed = h.resumes in
      let resumed : Stands old.rules table old.packets h.resumed =
      moved old.rules table old.packets old.state s h.resumed (array_at old.state.arrays 0)
      (r.after.arrays ∙ only_array old.rules table old.packets old.state s) refl
      (lie_resumed old.rules table old.packets old.state h.resumed k.requests r)
      (AreDistinct-Step old.rules old.state Resume h.resumed o.distinct (inl (o.none_owed, r)))
      (ArePlaced-FreeStep old.rules old.state Resume h.resumed o.distinct k.placed r) (rw r.after.owed o.none_owed) in
      let from : DeviceView = record old { state = h.resumed } in
      let m : MovesOn table from new _ = moves_on table from new _ resumed k.packets h.moves (numbered new o') in (
        record {
          resumed = on_partitions (rules_over table old.rules) old.packets h.resumed;
          starts = h.starts;
          resumes = Resumes-over old.rules table old.packets old.state h.resumed h.resumes;
          only_starts = h.only_starts;
          moves = m.moves;
        },
        record { on_disk = m.goes.on_disk; same_rules = m.goes.same_rules },
      )

  -- NOTHING IS HANDED UP

  pub hands_up_none : HandsUpNone old new → HandsUpNone shown shown' × GoesOn table old new
  hands_up_none h = (
    record {
      unfinished =
          each old.rules table old.packets (AwaitsRestartIfEnded old.rules old.state) (AwaitsRestartIfEnded shown.rules shown.state) still_unfinished
          old.state.requests h.unfinished;
      settled = Settled-over old.rules table old.packets old.state h.settled;
      same = shown_same h.same;
    },
    goes_same h.same,
  )
    where
      still_unfinished : (o : OpenRequest) → AwaitsRestartIfEnded old.rules old.state o
          → AwaitsRestartIfEnded shown.rules shown.state (as_called shown.rules old.packets o)
      still_unfinished o unfinished ended =
          let awaits : AwaitsRestart old.rules old.state o =
          unfinished (All-weaker (HasEnded shown.rules shown.state (as_called shown.rules old.packets o)) (HasEnded old.rules old.state o)
          (ended_was old.rules table old.packets old.state o) o.marks ended) in
          record { in_pieces = awaits.in_pieces; not_cancelled = awaits.not_cancelled; not_removing = awaits.not_removing; back = awaits.back }
