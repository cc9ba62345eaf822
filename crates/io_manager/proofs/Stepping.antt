-- What holds between two steps, as the manager shows it.
use Rattle.std.proofs.Common.{◌≡◌, ◌≢◌, ◌<◌, ℕ, Bool, true, false, List, [], ◌∷◌, ◌++◌, Option, Some, None, refl, sym, ◌∙◌, ap, subst, map}
use Rattle.std.specs.Prelude.{All, Contains, IsTrue, IsFalse, option_map, slice_index_or}
use Rattle.std.proofs.Math.ListN.{get_or-map}
use Rattle.io_manager.proofs.Common.{All-weaker, All-map, All-nil, All-cons, All-head, All-tail, All-permutation, IsPermutation-sym, Slab, get, AdapterView, IsInOrder, request_number, Settled, IsFinished, DeviceView, IsRead, OnTag, piece_on_tag, use_on_tag, Reserves, Run-append, IsReached, Limits, Tables, ManagerView, Holder, Told, HasSlot, IsOnTag, IsRightBy, FitsTogether, rules_of}
use Rattle.machine.specs.State.{OpenRequest, Piece, State}
use Rattle.pnp.specs.declared.State.{State as PnpState}
use Rattle.pnp.specs.declared.State.TheVariants.{Started, RemovePending, Removing, Removed}
use Rattle.io_manager.specs.declared.tables.OpenRequest.{OpenRequest as OpenEntry}
use Rattle.io_manager.specs.inside.Sound.{is_gone, holder_of, holders_of, view_of, IsHeldAt, IsInState, EndsIf, IsSound, AsksInside, Collects, ManagerKept}
use Rattle.io_manager.proofs.Over.{settled_over, read_over}

-- THE SLOTS OF OPEN REQUESTS

pub shown_at : (requests : Slab OpenEntry) (slot : ℕ) → slice_index_or (holders_of requests) slot None ≡ option_map holder_of (get requests slot)
shown_at requests slot = get_or-map (option_map holder_of) requests.slots slot None

-- a slot that shows a holder has its request
pub request_of_holder : (at : Option OpenEntry) (holder : Holder) → option_map holder_of at ≡ Some holder → (request : OpenEntry) × (at ≡ Some request) × (holder_of request ≡ holder)
request_of_holder None holder e = cc (e)
request_of_holder (Some request) holder e = (request, refl, same (holder_of request) holder e)
  where
    same : (a b : Holder) → Some a ≡ Some b → a ≡ b
    same a b e = cc

-- a tag below this one
abbrev IsTagBelow : ℕ → OnTag → Type 0
IsTagBelow depth on = on.tag < depth

module _ (limits : Limits) (below : DeviceView) (tables : Tables) (sound : IsSound limits below tables) where
  has_slot : (o : OpenRequest) → IsHeldAt limits.keeps_bytes tables.requests o → HasSlot (holders_of tables.requests) o
  has_slot o h = (h.slot, holder_of h.request, shown_at tables.requests h.slot ∙ ap (option_map holder_of) h.there, h.same_number)

  pub holder_is : (slot : ℕ) (holder : Holder) → slice_index_or (holders_of tables.requests) slot None ≡ Some holder
      → (request : OpenEntry) × (get tables.requests slot ≡ Some request) × (holder_of request ≡ holder)
  holder_is slot holder there = request_of_holder (get tables.requests slot) holder (sym (shown_at tables.requests slot) ∙ there)

  false_true : false ≡ true → ⊥
  false_true e = cc

  one_state : (p : PnpState) → IsInState p below.state → IsTrue below.state.removing → IsFalse below.state.paused
  one_state Started h removing = h.0
  one_state RemovePending h removing = cc (h.1, removing)
  one_state Removing h removing = h.0
  one_state Removed h removing = h.0

  removed_last : (p : PnpState) → IsInState p below.state → IsTrue (is_gone p) → IsTrue below.state.removing
  removed_last Started h gone = absurd (false_true gone)
  removed_last RemovePending h gone = absurd (false_true gone)
  removed_last Removing h gone = absurd (false_true gone)
  removed_last Removed h gone = h.1

  -- the adapter's tags are below its depth, and the pieces out are on these
  on_tags : IsInOrder below.adapter → IsRead below.rules below.state below.adapter → All (IsOnTag below.rules.depth) below.state.pieces
  on_tags order read =
      let in_use : All (IsTagBelow below.adapter.depth) (map use_on_tag below.adapter.tags) = All-map (IsTagBelow below.adapter.depth) use_on_tag below.adapter.tags order.tags_below in
      let out : All (IsTagBelow below.adapter.depth) (map piece_on_tag below.state.pieces) = All-permutation (IsTagBelow below.adapter.depth) _ _ (IsPermutation-sym _ _ read.pieces) in_use in
      subst (λ depth. All (IsOnTag depth) below.state.pieces) (sym read.same_depth) (mapped below.state.pieces out)
    where
      mapped : (pieces : List Piece) → All (IsTagBelow below.adapter.depth) (map piece_on_tag pieces) → All (IsOnTag below.adapter.depth) pieces
      mapped [] all = All-nil (IsOnTag below.adapter.depth)
      mapped (piece ∷ pieces) all =
          All-cons (IsOnTag below.adapter.depth) piece pieces (All-head (IsTagBelow below.adapter.depth) (piece_on_tag piece) (map piece_on_tag pieces) all)
          (mapped pieces (All-tail (IsTagBelow below.adapter.depth) (piece_on_tag piece) (map piece_on_tag pieces) all))

  pub FitsTogether-view : IsInOrder below.adapter → IsRead below.rules below.state below.adapter → FitsTogether (view_of limits below tables)
  FitsTogether-view order read = record {
    read = read_over _ below.rules tables.next_request (is_gone tables.state) below.state below.adapter read;
    on_tags = on_tags order read;
    has_slot = All-weaker (IsHeldAt _ tables.requests) (HasSlot (holders_of tables.requests)) has_slot below.state.requests sound.held.held;
    has_request = λ slot holder there.
        let at : (request : OpenEntry) × (get tables.requests slot ≡ Some request) × (holder_of request ≡ holder) = holder_is slot holder there in
        subst (λ (held : Holder). Contains (map request_number below.state.requests) held.number) at.2 (sound.held.is_open slot at.0 at.1);
    one_slot = λ slot other holder same there there' number.
        let at : (request : OpenEntry) × (get tables.requests slot ≡ Some request) × (holder_of request ≡ holder) = holder_is slot holder there in
        let at' : (request : OpenEntry) × (get tables.requests other ≡ Some request) × (holder_of request ≡ same) = holder_is other same there' in
        sound.held.one_slot slot other at.0 at'.0 at.1 at'.1 (ap (λ (held : Holder). held.number) at.2 ∙ number ∙ sym (ap (λ (held : Holder). held.number) at'.2));
    rising = sound.rising;
    one_state = one_state tables.state sound.in_state;
    removed_last = removed_last tables.state sound.in_state;
  }

  pub Settled-view : Settled below.rules below.state → Settled (rules_of limits below.rules) (view_of limits below tables).state
  Settled-view settled = settled_over _ below.rules tables.next_request (is_gone tables.state) below.state settled

  -- a removal with nothing open has ended
  pub IsFinished-view : (tables.state ≡ Removing → below.state.requests ≢ []) → IsFinished (view_of limits below tables).state
  IsFinished-view going removing none = by_state tables.state refl sound.in_state
    where
      by_state : (p : PnpState) → tables.state ≡ p → IsInState p below.state → IsTrue (is_gone p)
      by_state Started e h = cc (h.1, removing)
      by_state RemovePending e h = cc (h.1, removing)
      by_state Removing e h = absurd (going e none)
      by_state Removed e h = refl

-- A STEP LATER

pub reached_on : (old new : ManagerView) (reset : Bool) (told : Told) → IsRightBy reset told old new → IsReached old.rules old.state → IsReached new.rules new.state
reached_on old new reset told by h =
    subst (λ rules. IsReached rules new.state) (sym by.same_rules)
    (record {
      arrays = h.arrays;
      labels = h.labels ++ new.labels;
      whole = h.whole;
      run = Run-append old.rules _ h.labels old.state new.labels new.state h.run by.run;
    })

-- where the device is as it was
pub ManagerKept-still : (limits : Limits) (below : DeviceView) (tables tables' : Tables) (told : Told) → ManagerKept limits below tables → IsRightBy false told (view_of limits below tables) (view_of limits below tables')
    → IsSound limits below tables' → tables'.state ≡ tables.state → ManagerKept limits below tables'
ManagerKept-still limits below tables tables' told kept by sound same = record {
  sound = sound;
  inside = kept.inside;
  settled = kept.settled;
  going = λ removing. kept.going (sym same ∙ removing);
  none_recorded = kept.none_recorded;
  reached = reached_on (view_of limits below tables) (view_of limits below tables') false told by kept.reached;
}

-- where the device made room and no more
pub ManagerKept-reserved : (limits : Limits) (below below' : DeviceView) (tables tables' : Tables) (told : Told) → ManagerKept limits below tables → IsRightBy false told (view_of limits below tables) (view_of limits below' tables')
    → Reserves below below' → IsSound limits below' tables' → AsksInside below' → tables'.state ≡ tables.state → ManagerKept limits below' tables'
ManagerKept-reserved limits below below' tables tables' told kept by reserves sound inside same = record {
  sound = sound;
  inside = inside;
  settled = subst (λ (b : DeviceView). Settled b.rules b.state) (sym reserves.same) kept.settled;
  going = λ removing none. kept.going (sym same ∙ removing) (sym (ap (λ (b : DeviceView). b.state.requests) reserves.same) ∙ none);
  none_recorded = ap (λ (b : DeviceView). b.adapter.labels) reserves.same ∙ kept.none_recorded;
  reached = reached_on (view_of limits below tables) (view_of limits below' tables') false told by kept.reached;
}

still_going : (ends : Bool) (p p' : PnpState) (s : State) → EndsIf ends p s p' → p' ≡ Removing → s.requests ≢ []
still_going true p p' s h going = let e : Removing ≡ Removed = sym going ∙ (h.ended refl).2 in cc (e)
still_going false p p' s h going = (h.not_ended refl).1 (sym (h.not_ended refl).0 ∙ going)

-- where all that has ended is told; the limits are the same
pub ManagerKept-collected : (limits limits' : Limits) (below below1 below' : DeviceView) (tables tables1 tables' : Tables) (reset : Bool) (told : Told) → limits' ≡ limits → ManagerKept limits below tables
    → IsRightBy reset told (view_of limits below tables) (view_of limits below' tables') → IsSound limits' below' tables' → AsksInside below' → Collects below1 tables1 below' tables' → ManagerKept limits' below' tables'
ManagerKept-collected limits limits' below below1 below' tables tables1 tables' reset told same kept by sound inside c =
    subst (λ (l : Limits). ManagerKept l below' tables') (sym same) (record {
      sound = subst (λ (l : Limits). IsSound l below' tables') same sound;
      inside = inside;
      settled = c.settled;
      going = still_going c.ends tables1.state tables'.state below'.state c.removal;
      none_recorded = ap (λ (v : AdapterView). v.labels) c.adapter.taken;
      reached = reached_on (view_of limits below tables) (view_of limits below' tables') reset told by kept.reached;
    })
