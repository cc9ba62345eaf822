-- A finish from one call to the next: midway once the piece is back, and in hand again once all that has ended is taken.
use Rattle.class_disk.proofs.Common.{◌+◌, room_in_all, ◌≡◌, ◌≢◌, ℕ, List, ◌∷◌, ◌++◌, sym, ◌∙◌, ap, subst, map, IsPermutation-refl, All-permutation, All-append, All-map, All-weaker, moves_joined, DeviceLabel, Return, Rules, State, IsStart, Run, as_label, DeviceView, OnTag, piece_on_tag, IsOrderly, Finishes, FinishesNot, Opened, TableView, all_open, Progress, Returned, above, class_rules, IsPort, knowns, tickets, view_of, packet_above, IsAskedBy, IsAsked, AreAsked, AreKept, IsInHand, IsTaking, IsMidway, TakesAll}
use Rattle.std.specs.Prelude.{IsPermutation, All}
use Rattle.class_disk.proofs.Rooms.{out_same}
use Rattle.class_disk.proofs.Standing.{IsApart}
use Rattle.class_disk.specs.declared.parts.Part.{Part}
use Rattle.class_disk.specs.declared.parts.Progress.TheVariants.{Ready, Below, Ended}
use Rattle.class_disk.specs.inside.Invariant.{WasSent, EndedAre}
use Rattle.class_disk.proofs.Acting.{moves_above, below_moved, same_tags}
use Rattle.class_disk.proofs.Asking.{asks_run}
use Rattle.class_disk.proofs.Orderly.{All-from_map}
use Rattle.class_disk.proofs.Finishing.{finish_begins, finishes_above, in_hand_again, distinct_behind}

-- WHAT PARTS ASK FOR stays by labels of the adapter
module _ (rules below : Rules) (labels : List DeviceLabel) (s s' : State) (run : Run below s (map as_label labels) s') where
  part_asked : (part : Part) → (p : Progress) → IsAskedBy rules s.requests part.request p → IsAskedBy rules s'.requests part.request p
  part_asked part (Ready place) h = tt
  part_asked part (Below number spot) h = asks_run rules part.request number below labels s s' h run
  part_asked part (Ended ended) h = tt

  pub asked_run : (os : List Opened) → All (AreAsked rules s.requests) os → All (AreAsked rules s'.requests) os
  asked_run os all =
      All-weaker (AreAsked rules s.requests) (AreAsked rules s'.requests)
      (λ o h. All-weaker (IsAsked rules s.requests) (IsAsked rules s'.requests) (λ part. part_asked part part.progress) o.parts h) os all

module _ (v : DeviceView) (books : TableView)
    (h : IsInHand v books) (tag : ℕ) where
  -- where the layer below has no piece on the tag, there is none above
  pub free_above : (v' : DeviceView) → FinishesNot v tag v' → FinishesNot (view_of v books) tag (view_of v' books)
  free_above v' f = record {
    free = All-from_map (λ (x : OnTag). x.tag ≢ tag) piece_on_tag (view_of v books).state.pieces
        (All-permutation (λ (x : OnTag). x.tag ≢ tag) _ _ (same_tags v books h tag)
        (All-map (λ (x : OnTag). x.tag ≢ tag) piece_on_tag v.state.pieces f.free));
    same = ap (λ (x : DeviceView). view_of x books) f.same;
  }

  module _ (v' : DeviceView) (f : Finishes v tag v') (ordered : IsOrderly v') where
    abbrev pub return_labels : List DeviceLabel
    return_labels = Return f.piece.number f.class ∷ f.starts

    pub midway_begins : IsMidway WasSent (above h.coupled.j) return_labels v' books
    midway_begins =
        let to : (P : Rules → Type 0) → P v.rules → P v'.rules = λ P x. subst P (sym f.moves.same_rules) x in
        let b = finish_begins v books tag v' h.port h.coupled h.sound h.counted h.unfinished f in
        let m = moves_above v books h.port h.sound h.coupled return_labels v' f.moves in
        record {
          port = to IsPort h.port;
          taking = to (λ r. IsTaking (class_rules r) (above h.coupled.j) return_labels v'.state (knowns (class_rules r) books)) b.0;
          rooms_out = out_same v v' (tickets books) ordered f.moves.same_rooms h.rooms_out;
          kept = to (λ r. AreKept (class_rules r) books) h.kept;
          below = below_moved v books h.port h.sound h.coupled return_labels v' m
              (asked_run (class_rules v.rules) v.rules return_labels v.state v'.state f.moves.run (all_open books) h.below.asked) h.below;
          ended = to (λ r. EndedAre WasSent r v'.state) b.1;
        }

    pub finish_ends : (v'' : DeviceView) (books' : TableView)
        → TakesAll Returned v' books v'' books' → IsApart books'
        → Finishes (view_of v books) tag (view_of v'' books') × IsInHand v'' books'
    finish_ends v'' books' t apart =
        let m : IsMidway WasSent (above h.coupled.j) (return_labels ++ t.starts) v'' books' = t.stays
        (above h.coupled.j) return_labels midway_begins in
        let same : v''.rules ≡ v.rules = t.goes_on.same_rules ∙ f.moves.same_rules in
        let all = finishes_above v books h tag v' f v'' books' (f.starts ++ t.starts)
        (All-append IsStart f.starts t.starts f.only_starts t.goes_on.only_starts)
        (subst (λ r. IsTaking (class_rules r) (above h.coupled.j) (return_labels ++ t.starts) v''.state
        (knowns (class_rules r) books')) same m.taking)
        (moves_joined v.adapter return_labels v'.adapter t.starts v''.adapter f.moves.adapter t.goes_on.adapter)
        same (t.goes_on.same_most ∙ f.moves.same_most) (t.goes_on.same_places ∙ ap (λ n. n + room_in_all books) f.moves.same_places) t.goes_on.same_last t.goes_on.same_submitted
        (subst (λ ps. IsPermutation (map packet_above books'.opens) ps) t.goes_on.same_packets (IsPermutation-refl _)) t.goes_on.same_rooms in (
          all.0,
          in_hand_again v'' books' v''
              (record { port = m.port; rooms_out = m.rooms_out; kept = m.kept; below = m.below; apart = apart })
              all.1 all.2 all.3 m.rooms_out.orderly (distinct_behind v books tag v'' books' h.orderly.distinct all.0) t.none,
        )
