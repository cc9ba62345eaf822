-- A packet that is handed up is that of one open request, whose slot is given up.
use Rattle.std.proofs.Common.{◌≡◌, ◌≢◌, ◌<◌, ◌≤◌, ◌⊎◌, inl, inr, ℕ, zero, suc, ◌+◌, Bool, true, false, List, [], ◌∷◌, ◌++◌, Some, None, refl, sym, ◌∙◌, ap, subst, arith, map, length}
use Rattle.io_manager.proofs.Common.{Box, list_all, IsPermutation-map, All-permutation, Contains-permutation, length_permutation, All-head, All-tail, Contains-append_cases, Slab, get, slab_len, NtStatus, Success, Driver, Irp, Kind, Read, Write, Flush, answer_bytes, is_done, AreDistinct, IsGiven, request_number, Climb, Routine, Finished, DeviceView, payload_bytes, IsTopmost, HandsUp, Tables, TakesOut, IsWaiting, AreChained, AreNumbered, IsHeldAt, AreHeld}
use Rattle.std.specs.Prelude.{IsPermutation, IsTrue, All, Contains, ◌↔◌, MatchBool}
use Rattle.irp.specs.declared.Done.{Done}
use Rattle.machine.specs.State.{Mark, OpenRequest as OpenBelow}
use Rattle.io_manager.specs.declared.tables.OpenRequest.{OpenRequest}
use Rattle.io_manager.specs.inside.Completion.{IsAt, AreFilled, IsFilled, Closes, brought, done_of}
use Rattle.io_manager.proofs.Chained.{IsKept, AreChained-same, AreChained-less}
use Rattle.io_manager.proofs.Numbered.{AreNumbered-less}

-- WITH NO LOCATION ABOVE A CLIMB IS FINISHED

no_middle : {X : Type 0} (xs : List X) (x : X) (ys : List X) → [] ≡ (xs ++ x ∷ []) ++ ys → ⊥
no_middle [] x ys e = cc
no_middle (z ∷ zs) x ys e = cc

pub no_routine : (takes_srb : Bool) (old new : DeviceView) (spot : ℕ) (driver : Driver) (irp : Box Irp) → All IsTopmost old.packets → HandsUp takes_srb old (Routine driver irp) spot new → ⊥
no_routine takes_srb old new spot driver irp topmost h =
    let top : IsTopmost h.answer.packet = All-head IsTopmost h.answer.packet h.left.others (All-permutation IsTopmost _ _ h.left.is_in topmost) in
    no_middle h.climbs.higher h.climbs.own h.climbs.nearer (sym top ∙ h.climbs.are_above)

pub handed : (takes_srb : Bool) (old new : DeviceView) (climb : Climb) (irp : Box Irp) (spot : ℕ) → climb ≡ Finished irp → HandsUp takes_srb old climb spot new → HandsUp takes_srb old (Finished irp) spot new
handed takes_srb old new climb irp spot e h = subst (λ x. HandsUp takes_srb old x spot new) e h

-- THE REQUEST OF THE PACKET

module _ {w : Bool} (takes_srb : Bool) (old new : DeviceView) (spot : ℕ) (irp : Box Irp) (done : Done) (left : done ≡ done_of irp.value) (requests : Slab OpenRequest) (h : HandsUp takes_srb old (Finished irp) spot new)
    (k : AreHeld w requests old.state.requests) where
  -- what is left of it is the packet as it was completed
  pub number_left : done.number ≡ h.answer.packet.number
  number_left = ap (λ (d : Done). d.number) left ∙ h.climbs.number_is

  pub status_left : done.status ≡ h.answer.status
  status_left = ap (λ (d : Done). d.status) left ∙ h.climbs.status_is

  pub payload_left : done.payload ≡ h.answer.payload
  payload_left = ap (λ (d : Done). d.payload) left ∙ h.climbs.payload_is

  pub is_ended : h.answer.answers.request.number ≡ done.number
  is_ended = h.answer.answers.is_number ∙ sym number_left

  pub held_at : IsHeldAt w requests h.answer.answers.request
  held_at = All-head (IsHeldAt _ requests) h.answer.answers.request h.answer.answers.others (All-permutation (IsHeldAt _ requests) _ _ h.answer.answers.is_open k.held)

  pub is_at : (slot : ℕ) × IsAt requests done.number slot
  is_at = (held_at.slot, record { request = held_at.request; there = held_at.there; same_number = held_at.same_number ∙ is_ended })

  pub is_given : AreDistinct old.state → (next : ℕ) → old.state.next_request ≤ next → done.number < next
  is_given distinct next rising =
      let low : h.answer.answers.request.number < old.state.next_request =
      All-head (IsGiven old.state.next_request) h.answer.answers.request h.answer.answers.others (All-permutation (IsGiven old.state.next_request) _ _ h.answer.answers.is_open distinct.given) in
      let same : h.answer.answers.request.number ≡ done.number = is_ended in
      omega arith

  -- whichever slot has a request of its number, it is that request's
  pub only_there : (slot : ℕ) (x : OpenRequest) → get requests slot ≡ Some x → x.number ≡ done.number → held_at.request ≡ x
  only_there slot x there number =
      let same : held_at.slot ≡ slot = k.one_slot held_at.slot slot held_at.request x held_at.there there (held_at.same_number ∙ is_ended ∙ sym number) in
      let e : Some held_at.request ≡ Some x = sym held_at.there ∙ ap (λ s. get requests s) same ∙ there in
      cc (e)

  pub are_filled : AreFilled w requests done
  are_filled slot x there number kept is_read succeeded =
      let same : held_at.request ≡ x = only_there slot x there number in
      let kind : held_at.request.kind ≡ Read = ap (λ r. r.kind) same ∙ is_read in
      let below : h.answer.answers.request.request.kind ≡ Read = sym held_at.same_kind ∙ kind in
      let asked : h.answer.request.kind ≡ Read = ap (λ q. q.kind) (sym h.answer.is_request) ∙ below in
      let success : h.answer.status ≡ Success = sym status_left ∙ succeeded in
      let as_asked : h.answer.answers.request.request.length ≡ length (payload_bytes done.payload) =
      ap (λ q. q.length) h.answer.is_request ∙ sym (h.brought.filled asked success) ∙ ap length (sym (h.brought.brings asked success)) ∙ ap (λ p. length (payload_bytes p)) (sym payload_left) in
      subst (λ r. length (payload_bytes done.payload) ≤ r.label_bytes) same (subst (λ n. n ≤ held_at.request.label_bytes) as_asked (held_at.label_bytes kept below))

  some_held : 0 < slab_len requests
  some_held =
      let n : length (h.answer.answers.request ∷ h.answer.answers.others) ≡ length old.state.requests = length_permutation _ _ h.answer.answers.is_open in
      let same : slab_len requests ≡ length old.state.requests = k.counted in
      omega arith

  -- one place of the held requests' is free
  pub answered_place : (count places : ℕ) → count + slab_len requests ≤ places → count < places
  answered_place count places few = let some : 0 < slab_len requests = some_held in omega arith

-- WHAT IT BRINGS

no_bytes : (marks : List Mark) (status : NtStatus) (bytes : List ℕ) → status ≢ Success → ((status ≡ Success) ↔ IsTrue (list_all is_done marks)) → bytes ≡ answer_bytes Read marks → bytes ≡ []
no_bytes marks status bytes failed success e = by_test (list_all is_done marks) refl
  where
    by_test : (b : Bool) → list_all is_done marks ≡ b → bytes ≡ []
    by_test true all = absurd (failed (success.1 all))
    by_test false some = e ∙ rw some refl

pub brings : (kind : Kind) (status : NtStatus) (marks : List Mark) (payload bytes : List ℕ) → bytes ≡ answer_bytes kind marks → ((status ≡ Success) ↔ IsTrue (list_all is_done marks))
    → (kind ≡ Read → status ≡ Success → payload ≡ bytes) → bytes ≡ brought kind status payload
brings Write status marks payload bytes e success same = e
brings Flush status marks payload bytes e success same = e
brings Read Success marks payload bytes e success same = sym (same refl refl)
brings Read status marks payload bytes e success same = let failed : status ≢ Success = λ is. cc in no_bytes marks status bytes failed success e

-- the room of a read's label takes what the answer brings; an answer of another kind brings nothing
pub room_takes : (kind : Kind) (status : NtStatus) (bytes : List ℕ) (room : ℕ) → (kind ≡ Read → status ≡ Success → length bytes ≤ room) → length (brought kind status bytes) ≤ room
room_takes Write status bytes room fits = omega arith
room_takes Flush status bytes room fits = omega arith
room_takes Read Success bytes room fits = fits refl refl
room_takes Read status bytes room fits = omega arith

-- so for the open request in a slot, where it is that of the packet
pub filled_at : {w : Bool} (requests : Slab OpenRequest) (done : Done) (slot : ℕ) (request : OpenRequest) → AreFilled w requests done → IsAt requests done.number slot → get requests slot ≡ Some request → IsFilled w request done
filled_at requests done slot request filled at there =
    let is : Some at.request ≡ Some request = sym at.there ∙ there in
    let same : at.request ≡ request = cc (is) in
    filled slot request there (ap (λ (r : OpenRequest). r.number) (sym same) ∙ at.same_number)

-- THE TABLE WITHOUT IT

module _ {w : Bool} (old new : Tables) (done : Done) (c : Closes old done new) (below : List OpenBelow) (k : AreHeld w old.requests below) where
  -- a slot in use is another's
  pub kept_slot : (slot : ℕ) (x : OpenRequest) → get new.requests slot ≡ Some x → (slot ≢ c.slot) × (get old.requests slot ≡ Some x)
  kept_slot slot x there =
      let other : slot ≢ c.slot = λ same. let gone : get new.requests slot ≡ None = ap (λ s. get new.requests s) same ∙ c.leaves.changed in cc (gone, there) in
      (other, sym (c.leaves.others slot other) ∙ there)

  pub kept_number : (slot : ℕ) (x : OpenRequest) → get new.requests slot ≡ Some x → x.number ≢ done.number
  kept_number slot x there same =
      let kept : (slot ≢ c.slot) × (get old.requests slot ≡ Some x) = kept_slot slot x there in
      kept.0 (k.one_slot slot c.slot x c.request kept.1 c.there (same ∙ sym c.same_number))

  held_still : (o : OpenBelow) → o.number ≢ done.number → IsHeldAt w old.requests o → IsHeldAt w new.requests o
  held_still o other h =
      let apart : h.slot ≢ c.slot = λ same.
      let e : Some h.request ≡ Some c.request = sym h.there ∙ ap (λ s. get old.requests s) same ∙ c.there in
      let same_request : h.request ≡ c.request = cc (e) in
      other (sym h.same_number ∙ ap (λ r. r.number) same_request ∙ c.same_number) in
      record {
        slot = h.slot;
        request = h.request;
        there = c.leaves.others h.slot apart ∙ h.there;
        same_number = h.same_number;
        same_kind = h.same_kind;
        same_cancelled = h.same_cancelled;
        has_partition = h.has_partition;
        label_bytes = h.label_bytes;
      }

  single : (n m : ℕ) → Contains (n ∷ []) m → n ≡ m
  single n m (zero, low, is) = is
  single n m (suc i, low, is) = absurd (omega arith)

  -- the request that ended is taken from those below
  pub AreHeld-less : (o : OpenBelow) (others : List OpenBelow) → o.number ≡ done.number → IsPermutation below (o ∷ others) → All (λ (x : OpenBelow). x.number ≢ o.number) others → AreHeld w new.requests others
  AreHeld-less o others number p differ =
      let first : All (IsHeldAt _ old.requests) (o ∷ others) = All-permutation (IsHeldAt _ old.requests) _ _ p k.held in
      let rest : All (IsHeldAt _ old.requests) others = All-tail (IsHeldAt _ old.requests) o others first in
      let count : length (o ∷ others) ≡ length below = length_permutation _ _ p in
      record {
        held = λ i d low. held_still _ (λ same. differ i d low (same ∙ sym number)) (rest i d low);
        is_open = λ slot x there.
            let kept : (slot ≢ c.slot) × (get old.requests slot ≡ Some x) = kept_slot slot x there in
            let inside : Contains (map request_number (o ∷ others)) x.number = Contains-permutation _ _ x.number (IsPermutation-map request_number _ _ p) (k.is_open slot x kept.1) in
            by_cases slot x there (Contains-append_cases (o.number ∷ []) (map request_number others) x.number inside);
        one_slot = λ slot other x y there there'. k.one_slot slot other x y (kept_slot slot x there).1 (kept_slot other y there').1;
        counted = let n : slab_len new.requests + 1 ≡ slab_len old.requests = c.fewer in let m : slab_len old.requests ≡ length below = k.counted in omega arith;
      }
    where
      by_cases : (slot : ℕ) (x : OpenRequest) → get new.requests slot ≡ Some x → Contains (o.number ∷ []) x.number ⊎ Contains (map request_number others) x.number → Contains (map request_number others) x.number
      by_cases slot x there (inl h) = absurd (kept_number slot x there (sym (single o.number x.number h) ∙ number))
      by_cases slot x there (inr h) = h

  stays : (other : ℕ) (x : OpenRequest) → other ≢ c.slot → get old.requests other ≡ Some x → get new.requests other ≡ Some x
  stays other x apart there = c.leaves.others other apart ∙ there

  one_number : (other : ℕ) (x : OpenRequest) → get old.requests other ≡ Some x → x.number ≡ c.request.number → other ≡ c.slot
  one_number other x there same = k.one_slot other c.slot x c.request there c.there same

  -- it is in no chain any more
  pub AreNumbered-ended : AreNumbered old.requests old.by_number → AreNumbered new.requests new.by_number
  AreNumbered-ended linked = AreNumbered-less old.requests new.requests old.by_number new.by_number linked c.slot c.request c.there kept_slot stays one_number c.by_number

  pub AreChained-ended : AreChained old.handles old.requests old.next_handle old.chains → AreChained old.handles new.requests old.next_handle new.chains
  AreChained-ended chained = by_flag c.request.cancelled refl c.chains
    where
      kept : (other : ℕ) (x : OpenRequest) → get new.requests other ≡ Some x → IsKept old.requests c.slot other x
      kept other x there =
          let before : (other ≢ c.slot) × (get old.requests other ≡ Some x) = kept_slot other x there in
          record { before = x; there = before.1; same_handle = refl; same_slot = refl; unmarked = λ not_yet. (refl, before.0) }

      still : c.request.cancelled ≡ true → (handle other number : ℕ) → IsWaiting old.requests handle other number → IsWaiting new.requests handle other number
      still marked handle other number w =
          let apart : other ≢ c.slot = λ same.
          let e : Some w.request ≡ Some c.request = sym w.there ∙ ap (λ s. get old.requests s) same ∙ c.there in
          let same_request : w.request ≡ c.request = cc (e) in
          let f : false ≡ true = sym w.not_yet ∙ ap (λ r. r.cancelled) same_request ∙ marked in
          cc (f) in
          record { request = w.request; there = stays other w.request apart w.there; at_handle = w.at_handle; is_number = w.is_number; not_yet = w.not_yet }

      by_flag : (b : Bool) → c.request.cancelled ≡ b → MatchBool b (new.chains ≡ old.chains) (TakesOut old.chains c.slot new.chains) → AreChained old.handles new.requests old.next_handle new.chains
      by_flag true marked same =
          subst (λ x. AreChained old.handles new.requests old.next_handle x) (sym same)
          (AreChained-same old.handles old.requests new.requests old.next_handle old.chains chained c.slot kept (still marked))
      by_flag false not_yet out =
          AreChained-less old.handles old.requests new.requests old.next_handle old.chains chained c.slot kept c.request c.there not_yet new.chains out stays one_number
