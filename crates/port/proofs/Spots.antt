-- Cancelling by the spot that `submit` answered.
use Rattle.std.proofs.Common.{◌≡◌, ◌≢◌, ◌<◌, ◌⊎◌, inl, inr, ℕ, suc, Bool, true, false, List, [], ◌∷◌, ◌++◌, map, length, refl, sym, subst, ap, ◌∙◌, arith, get_or, take, drop}
use Rattle.std.specs.Prelude.{All, Any, MatchBool, IsPermutation, IsFalse, eqb}
use Rattle.std.specs.List.{IsDistinct}
use Rattle.std.proofs.lemmas.List.{map-append, get_or_default}
use Rattle.std.proofs.lemmas.List.Elements.{All-cons, All-head, All-map, All-weaker}
use Rattle.std.proofs.lemmas.List.Sorted.{All-permutation, IsPermutation-map, IsPermutation-sym}
use Rattle.adapter.specs.View.{AdapterView}
use Rattle.machine.specs.declared.Request.{Request}
use Rattle.machine.specs.Numbers.{request_number}
use Rattle.device.specs.View.{DeviceView, Packet, packet_number, IsOrderly}
use Rattle.device.specs.Served.{IsAt, HasOtherNumber, CancelsIfOpen, CancelsAt, IsBeside, NoneToCancel}
use Rattle.machine.specs.Holding.{Cancels}
use Rattle.machine.proofs.Permuting.{distinct_first}
use Rattle.port.specs.declared.queues.PortPacket.{PortPacket}
use Rattle.port.specs.inside.TableView.{TableView, entry_of}
use Rattle.port.specs.inside.TableCalls.{CannotCancelHeld, CannotCancelOn, WithdrawsAt, WithdrawsNotAt, IsNotAt, is_cancellable, CancelsEnded, CancelsNoEnded}
use Rattle.port.specs.inside.Cancelling.{IsQueued, CancelsQueued, CancelsAt as CancelsOnTag, CancelsNoStarted}
use Rattle.port.specs.Shown.{packet as packet_as, packets_of, view_of, of_waiting, of_tag, of_done}
use Rattle.port.specs.inside.Invariant.{IsInHand}
use Rattle.port.proofs.Lists.{to_front}
use Rattle.port.proofs.Searching.{split_at}
use Rattle.port.proofs.Draining.{IsCancelled, cancelled_waiting, can_facts}
use Rattle.port.proofs.Marking.{cancelled_out, cancelled_ended, cancelled_none, cancels_first}
use Rattle.port.proofs.Orderly.{numbers_are}

-- A NUMBER THAT IS GONE

-- where no packet has the number, none is cancelled
pub gone_same : (old new : DeviceView) (number : ℕ) → IsOrderly old → CancelsIfOpen old number new → All (HasOtherNumber number) old.packets → new ≡ old
gone_same old new number o c none = by_case c.one_of
  where
    differ : All (λ n. n ≢ number) (map request_number old.state.requests)
    differ = All-permutation (λ n. n ≢ number) _ _ o.packets (All-map (λ n. n ≢ number) packet_number old.packets none)

    by_case : (Cancels old.state number new.state × IsBeside old new) ⊎ (NoneToCancel old.state number × (new ≡ old)) → new ≡ old
    by_case (inl h) =
        let k = h.0 in
        let all : All (λ n. n ≢ number) (map request_number (k.request ∷ k.others)) = All-permutation (λ n. n ≢ number) _ _ (IsPermutation-map request_number _ _ k.is_open) differ in
        absurd (All-head (λ n. n ≢ number) (request_number k.request) (map request_number k.others) all k.is_number)
    by_case (inr h) = h.1

-- by its number a packet is cancelled, or nothing changes
cancelled_or_same : (old new : DeviceView) (number : ℕ) → CancelsIfOpen old number new → (Cancels old.state number new.state × IsBeside old new) ⊎ (new ≡ old)
cancelled_or_same old new number c = elim c.one_of [ inl h ↦ inl h | inr h ↦ inr h.1 ]

-- IN THE QUEUE

pub record Queues (b : TableView) (v : AdapterView) (spot number : ℕ) (result : Bool) (b' : TableView) : Type 0 where
  pub rooms : (rooms : List Request) → IsInHand b v rooms → IsInHand b' v rooms
  pub cancels : MatchBool result (CancelsQueued b v spot number b') (WithdrawsNotAt b spot number b')

pub queued : (b b' : TableView) (v : AdapterView) (spot number : ℕ) (result : Bool) → MatchBool result (WithdrawsAt b spot number b') (WithdrawsNotAt b spot number b') → Queues b v spot number result b'
queued b b' v spot number true h =
    let x = cancelled_waiting b b' v number h.withdraws in
    let f = h.withdraws in
    record {
      rooms = x.rooms;
      cancels = record {
        queued = subst (λ hs. Any (IsQueued spot number) hs) (sym f.waits) (among f.before f.held f.behind (record { is_spot = h.at_spot; is_number = (can_facts number (entry_of f.held) f.can).0 }));
        cancels = x.cancels;
      };
    }
  where
    among : (before : List PortPacket) (held : PortPacket) (behind : List PortPacket) → IsQueued spot number held → Any (IsQueued spot number) (before ++ held ∷ behind)
    among [] held behind q = (0, held, omega arith, refl, q)
    among (x ∷ before) held behind q = let a = among before held behind q in (suc a.0, a.1, omega (arith, a.2), a.3, a.4)
queued b b' v spot number false h = record { rooms = λ rooms k. subst (λ x. IsInHand x v rooms) (sym h.same) k; cancels = h }

-- where a packet has this spot and this number, and none that waits has both, no packet of the number waits
lacks_at : (b : TableView) (v : AdapterView) (rooms : List Request) (spot number : ℕ) → IsInHand b v rooms → Any (IsAt spot number) (packets_of b v) → All (IsNotAt spot number) b.waiting → All (CannotCancelHeld number) b.waiting
lacks_at b v rooms spot number k there none = λ i d low. by_test i d low (is_cancellable number (entry_of (get_or b.waiting i d))) refl
  where
    IsElsewhere : Packet → Type 0
    IsElsewhere p = IsAt spot number p → ⊥

    rest : List Packet
    rest = map (of_tag packet_as b.started) v.tags ++ map (of_done packet_as) b.done

    distinct : IsDistinct eqb (map packet_number (packets_of b v))
    distinct = subst (λ ns. IsDistinct eqb ns) (sym (numbers_are b v)) k.kept.distinct.requests

    all_elsewhere : (before : List PortPacket) (held : PortPacket) (behind : List PortPacket) → b.waiting ≡ before ++ held ∷ behind → held.irp.value.number ≡ number → IsNotAt spot number held → All IsElsewhere (packets_of b v)
    all_elsewhere before held behind waits same not_here =
        let front = packet_as (entry_of held) in
        let others = (map (of_waiting packet_as) before ++ map (of_waiting packet_as) behind) ++ rest in
        let perm : IsPermutation (packets_of b v) (front ∷ others) =
        subst (λ (ps : List Packet). IsPermutation (ps ++ rest) (front ∷ others)) (sym (ap (map (of_waiting packet_as)) waits ∙ map-append (of_waiting packet_as) before (held ∷ behind))) (to_front (map (of_waiting packet_as) before) front (map (of_waiting packet_as) behind) rest) in
        let differ : All (λ p. packet_number p ≢ packet_number front) others = distinct_first packet_number (packets_of b v) front others distinct perm in
        All-permutation IsElsewhere _ _ (IsPermutation-sym _ _ perm)
        (All-cons IsElsewhere front others (λ at. not_here at.is_spot at.is_number) (All-weaker (λ p. packet_number p ≢ packet_number front) IsElsewhere (λ p differs at. differs (at.is_number ∙ sym same)) others differ))

    by_test : (i : ℕ) (d : PortPacket) → i < length b.waiting → (can : Bool) → is_cancellable number (entry_of (get_or b.waiting i d)) ≡ can → IsFalse can
    by_test i d low false is = refl
    by_test i d low true is =
        let held = get_or b.waiting i d in
        let all = all_elsewhere (take i b.waiting) held (drop (suc i) b.waiting) (split_at b.waiting i held low (sym (get_or_default b.waiting i held d low))) (can_facts number (entry_of held) is).0 (none i d low) in
        absurd (subst IsElsewhere there.3 (all there.0 there.1 there.2) there.4)

-- THE THREE IN TURN

at_number : (b b' : TableView) (v v' : AdapterView) (rooms : List Request) (spot number : ℕ) → IsInHand b v rooms → CancelsIfOpen (view_of b v) number (view_of b' v') → CancelsAt (view_of b v) spot number (view_of b' v')
at_number b b' v v' rooms spot number k h = record {
  there = λ at. h;
  gone = gone_same (view_of b v) (view_of b' v') number k.orderly h;
  either = cancelled_or_same (view_of b v) (view_of b' v') number h;
}

pub at_queued : (b b' : TableView) (v v' : AdapterView) (rooms : List Request) (spot number : ℕ) → IsInHand b v rooms → v' ≡ v → CancelsQueued b v spot number b' → CancelsAt (view_of b v) spot number (view_of b' v')
at_queued b b' v v' rooms spot number k e h = subst (λ y. CancelsAt (view_of b v) spot number (view_of b' y)) (sym e) (at_number b b' v v rooms spot number k h.cancels)

-- the packet is cancelled or gone, and the layer is in order
pub record Cancelled (b : TableView) (v : AdapterView) (spot number : ℕ) (b' : TableView) (v' : AdapterView) : Type 0 where
  pub rooms : (rooms : List Request) → IsInHand b v rooms → IsInHand b' v' rooms
  pub cancels : CancelsAt (view_of b v) spot number (view_of b' v')

as_cancelled : (b b' : TableView) (v : AdapterView) (rooms : List Request) (spot number : ℕ) → IsInHand b v rooms → IsCancelled b v number b' → Cancelled b v spot number b' v
as_cancelled b b' v rooms spot number k x = record { rooms = x.rooms; cancels = at_number b b' v v rooms spot number k x.cancels }

pub at_started : (b c b' : TableView) (v w v' : AdapterView) (rooms : List Request) (spot number : ℕ) → IsInHand b v rooms → WithdrawsNotAt b spot number c → w ≡ v → v' ≡ w → ((tag : ℕ) × CancelsOnTag c w tag number b')
    → Cancelled b v spot number b' v'
at_started b c b' v w v' rooms spot number k f e e' h =
    let h' : CancelsOnTag b v h.0 number b' = cancels_first b c b' v w number h.0 f.same e h.1 in
    subst (λ y. Cancelled b v spot number b' y) (sym (e' ∙ e)) (as_cancelled b b' v rooms spot number k (cancelled_out b b' v rooms number h.0 k h'.in_use h'.cancels))

pub at_last : (b c d b' : TableView) (v w v' : AdapterView) (rooms : List Request) (spot number : ℕ) (result : Bool) → IsInHand b v rooms → WithdrawsNotAt b spot number c → w ≡ v → v' ≡ w → CancelsNoStarted c w number d
    → MatchBool result (CancelsEnded d number b') (CancelsNoEnded d number b') → Cancelled b v spot number b' v'
at_last b c d b' v w v' rooms spot number true k f e e' s h =
    let same : d ≡ b = s.same ∙ f.same in
    subst (λ y. Cancelled b v spot number b' y) (sym (e' ∙ e)) (as_cancelled b b' v rooms spot number k (cancelled_ended b b' v number (subst (λ y. CancelsEnded y number b') same h)))
at_last b c d b' v w v' rooms spot number false k f e e' s h =
    let same : d ≡ b = s.same ∙ f.same in
    let out : All (λ u. CannotCancelOn b.started number u.tag) v.tags = subst (λ y. All (λ u. CannotCancelOn b.started number u.tag) y.tags) e (subst (λ x. All (λ u. CannotCancelOn x.started number u.tag) w.tags) f.same s.none) in
    let ended : CancelsNoEnded b number b' = subst (λ y. CancelsNoEnded y number b') same h in
    subst (λ y. Cancelled b v spot number b' y) (sym (e' ∙ e)) (record {
      rooms = λ rooms i. subst (λ x. IsInHand x v rooms) (sym ended.same) i;
      cancels = record {
        there = λ at. (cancelled_none b b' v rooms number k (lacks_at b v rooms spot number k at f.none) out ended).cancels;
        gone = λ none. ap (λ x. view_of x v) ended.same;
        either = inr (ap (λ x. view_of x v) ended.same);
      };
    })
