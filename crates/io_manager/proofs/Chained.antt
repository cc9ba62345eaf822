-- The chains of the handles, as requests are opened, cancelled and closed.
use Rattle.std.proofs.Common.{◌≡◌, ◌≢◌, ◌<◌, ◌≤◌, ◌⊎◌, inl, inr, ℕ, ◌+◌, Bool, true, false, List, [], Option, Some, None, refl, sym, ◌∙◌, ap, subst, arith, eqb-true, eq-eqb}
use Rattle.std.specs.Prelude.{is_some, slice_index, MatchOption, ◌==◌, if◌then◌else◌}
use Rattle.io_manager.proofs.Common.{cases_eq, Handle, OpenHandle, Chains, partition_at, partition_of, HasNoneToMark, IsLowestToMark, IsNextFrom, chain_end, AreEnds, AreLinked, LeadsTo, CanLeave, CanJoin, PutsLast, TakesOut, IsWaiting, IsOpenIn, AreChained}
use Rattle.slab.specs.Slab.{Slab, get, Updates as SlabUpdates}
use Rattle.io_manager.specs.declared.tables.OpenRequest.{OpenRequest}
use Rattle.io_manager.proofs.Linked.{end_joint, can_leave, can_join, AreLinked-still, AreLinked-less, AreLinked-more, AreLinked-empty}

pub same_item : {X : Type 0} (a b : X) → Some a ≡ Some b → a ≡ b
same_item a b e = cc (e)

-- AN OPEN HANDLE

pub open_in : (handles : Slab OpenHandle) (handle : Handle) → is_some (partition_of handles.slots handle) ≡ true → IsOpenIn handles handle.slot handle.number
open_in handles handle is = by_slot (get handles handle.slot) refl
  where
    by_slot : (x : Option OpenHandle) → get handles handle.slot ≡ x → IsOpenIn handles handle.slot handle.number
    by_slot None there = let e : false ≡ true = ap (λ x. is_some (partition_at x handle.number)) (sym there) ∙ is in cc (e)
    by_slot (Some open') there = record { handle = open'; there = there; is_number = by_number (open'.number == handle.number) refl }
      where
        by_number : (b : Bool) → (open'.number == handle.number) ≡ b → open'.number ≡ handle.number
        by_number true same = eqb-true open'.number handle.number same
        by_number false differs = let e : false ≡ true = ap (λ (b : Bool). is_some (if b then Some open'.partition else None)) (sym differs) ∙ ap (λ x. is_some (partition_at x handle.number)) (sym there) ∙ is in cc (e)

pub partition_in : (handles : Slab OpenHandle) (handle : Handle) → IsOpenIn handles handle.slot handle.number → is_some (partition_of handles.slots handle) ≡ true
partition_in handles handle o =
    ap (λ x. is_some (partition_at x handle.number)) o.there ∙ ap (λ (b : Bool). is_some (if b then Some o.handle.partition else None)) (eq-eqb o.handle.number handle.number o.is_number)

-- A REQUEST'S CHAIN

module _ (handles : Slab OpenHandle) (requests : Slab OpenRequest) (next_handle : ℕ) (chains : Chains) (c : AreChained handles requests next_handle chains) where
  waits : (slot : ℕ) (request : OpenRequest) → get requests slot ≡ Some request → request.cancelled ≡ false → IsWaiting requests request.handle_slot slot request.number
  waits slot request there not_yet = record { request = request; there = there; at_handle = refl; is_number = refl; not_yet = not_yet }

  handle_small : (slot : ℕ) (request : OpenRequest) → get requests slot ≡ Some request → request.cancelled ≡ false → request.handle_slot < 64
  handle_small slot request there not_yet = let o : IsOpenIn handles request.handle_slot request.handle = c.is_open slot request there not_yet in c.in_range request.handle_slot o.handle o.there

  pub waiting_can_leave : (slot : ℕ) (request : OpenRequest) → get requests slot ≡ Some request → request.cancelled ≡ false → CanLeave chains slot
  waiting_can_leave slot request there not_yet = can_leave (IsWaiting requests) chains c.linked request.handle_slot slot request.number (handle_small slot request there not_yet) (waits slot request there not_yet)

  pub open_can_join : (handle number slot : ℕ) → IsOpenIn handles handle number → slot < 64 → CanJoin chains handle slot
  open_can_join handle number slot o low = can_join (IsWaiting requests) chains c.linked handle slot (c.in_range handle o.handle o.there) low

  -- THE FIRST OF A CHAIN

  pub small : (handle number : ℕ) → IsOpenIn handles handle number → handle < 64
  small handle number o = c.in_range handle o.handle o.there

  -- a request of an open handle that is not cancelled is in its chain
  of_handle_waits : (handle number slot : ℕ) (request : OpenRequest) → IsOpenIn handles handle number → get requests slot ≡ Some request → request.handle ≡ number → request.cancelled ≡ false → IsWaiting requests handle slot request.number
  of_handle_waits handle number slot request o there of_handle not_yet = record {
    request = request;
    there = there;
    at_handle = c.at_slot slot handle request there (subst (IsOpenIn handles handle) (sym of_handle) o);
    is_number = refl;
    not_yet = not_yet;
  }

  -- and what is in the chain is of that handle
  waits_of_handle : (handle number slot more : ℕ) → IsOpenIn handles handle number → (w : IsWaiting requests handle slot more) → w.request.handle ≡ number
  waits_of_handle handle number slot more o w =
      let p : IsOpenIn handles w.request.handle_slot w.request.handle = c.is_open slot w.request w.there w.not_yet in
      let same : p.handle ≡ o.handle = same_item p.handle o.handle (sym p.there ∙ ap (get handles) w.at_handle ∙ o.there) in
      sym p.is_number ∙ ap (λ (h : OpenHandle). h.number) same ∙ o.is_number

  pub first_to_mark : (handle number : ℕ) (first : Option ℕ) → IsOpenIn handles handle number → LeadsTo (slice_index chains.after (chain_end handle)) first
      → MatchOption first (HasNoneToMark requests number) (λ slot. IsLowestToMark requests number slot)
  first_to_mark handle number first o is = by_next (slice_index chains.after (chain_end handle)) first is ((c.linked.chained handle (c.in_range handle o.handle o.there)).next (chain_end handle) 0 (end_joint (IsWaiting requests) chains c.linked handle))
    where
      by_next : (at : ℕ) (first : Option ℕ) → LeadsTo at first → IsNextFrom (IsWaiting requests handle) (chain_end handle) 0 at
          → MatchOption first (HasNoneToMark requests number) (λ slot. IsLowestToMark requests number slot)
      by_next at None high (inl none) = λ slot request there of_handle not_yet.
          let h : request.number < 0 = none.1 slot request.number (of_handle_waits handle number slot request o there of_handle not_yet) in absurd (omega (arith, h))
      by_next at None high (inr low) = let h : at < 64 = c.linked.slots handle at low.number low.there in absurd (omega (arith, h, high))
      by_next at (Some slot) found (inl none) = let a : slot ≡ at = found.0 in let h : slot < 64 = found.1 in let e : at ≡ 64 + handle = none.0 in absurd (omega (arith, a, h, e))
      by_next at (Some slot) found (inr low) = record {
        request = low.there.request;
        there = ap (get requests) found.0 ∙ low.there.there;
        of_handle = waits_of_handle handle number at low.number o low.there;
        not_yet = low.there.not_yet;
        lowest = λ other higher there of_handle not_yet.
            let h : low.number ≤ higher.number = low.lowest other higher.number (of_handle_waits handle number other higher o there of_handle not_yet) (omega arith) in
            let e : low.there.request.number ≡ low.number = low.there.is_number in
            omega (arith, h, e);
      }

-- A REQUEST IS NO MORE IN THE CHAIN: IT IS CANCELLED, OR HAS ENDED

-- a slot holds what it held, but for the cancel flag
pub record IsKept (old : Slab OpenRequest) (slot other : ℕ) (x : OpenRequest) : Type 0 where
  pub before : OpenRequest
  pub there : get old other ≡ Some before
  pub same_handle : x.handle ≡ before.handle
  pub same_slot : x.handle_slot ≡ before.handle_slot
  pub unmarked : x.cancelled ≡ false → (x ≡ before) × (other ≢ slot)

module _ (handles : Slab OpenHandle) (old new : Slab OpenRequest) (next_handle : ℕ) (chains : Chains) (c : AreChained handles old next_handle chains) (slot : ℕ)
    (kept : (other : ℕ) (x : OpenRequest) → get new other ≡ Some x → IsKept old slot other x) where
  was_waiting : (handle other number : ℕ) → IsWaiting new handle other number → IsWaiting old handle other number × (other ≢ slot)
  was_waiting handle other number w =
      let k : IsKept old slot other w.request = kept other w.request w.there in
      let same : w.request ≡ k.before = (k.unmarked w.not_yet).0 in (
        record {
          request = k.before;
          there = k.there;
          at_handle = ap (λ (r : OpenRequest). r.handle_slot) (sym same) ∙ w.at_handle;
          is_number = ap (λ (r : OpenRequest). r.number) (sym same) ∙ w.is_number;
          not_yet = ap (λ (r : OpenRequest). r.cancelled) (sym same) ∙ w.not_yet;
        },
        (k.unmarked w.not_yet).1,
      )

  -- the chains apart from their links
  chained_with : (chains' : Chains) → AreLinked (IsWaiting new) chains' → AreChained handles new next_handle chains'
  chained_with chains' linked = record {
    in_range = c.in_range;
    given = c.given;
    one_slot = c.one_slot;
    request_slots = λ other x there. let k : IsKept old slot other x = kept other x there in c.request_slots other k.before k.there;
    was_given = λ other x there. let k : IsKept old slot other x = kept other x there in subst (λ h. h < next_handle) (sym k.same_handle) (c.was_given other k.before k.there);
    at_slot = λ other handle x there o.
        let k : IsKept old slot other x = kept other x there in
        k.same_slot ∙ c.at_slot other handle k.before k.there (subst (IsOpenIn handles handle) k.same_handle o);
    is_open = λ other x there not_yet.
        let k : IsKept old slot other x = kept other x there in
        let same : x ≡ k.before = (k.unmarked not_yet).0 in
        subst (λ (r : OpenRequest). IsOpenIn handles r.handle_slot r.handle) (sym same) (c.is_open other k.before k.there (ap (λ (r : OpenRequest). r.cancelled) (sym same) ∙ not_yet));
    linked = linked;
  }

  -- one that was cancelled leaves the chains as they are
  pub AreChained-same : ((handle other number : ℕ) → IsWaiting old handle other number → IsWaiting new handle other number) → AreChained handles new next_handle chains
  AreChained-same still = chained_with chains (AreLinked-still (IsWaiting old) (IsWaiting new) chains c.linked (λ handle other number w. (was_waiting handle other number w).0) still)

  pub AreChained-less : (request : OpenRequest) → get old slot ≡ Some request → request.cancelled ≡ false → (chains' : Chains) → TakesOut chains slot chains'
      → ((other : ℕ) (x : OpenRequest) → other ≢ slot → get old other ≡ Some x → get new other ≡ Some x) → ((other : ℕ) (x : OpenRequest) → get old other ≡ Some x → x.number ≡ request.number → other ≡ slot)
      → AreChained handles new next_handle chains'
  AreChained-less request there not_yet chains' out stays one_number =
      chained_with chains'
      (AreLinked-less (IsWaiting old) (IsWaiting new) chains chains' c.linked request.handle_slot slot request.number (handle_small handles old next_handle chains c slot request there not_yet)
      (waits handles old next_handle chains c slot request there not_yet) was_waiting
      (λ handle other number w apart. record { request = w.request; there = stays other w.request apart w.there; at_handle = w.at_handle; is_number = w.is_number; not_yet = w.not_yet })
      (λ other number w same. one_number other w.request w.there (w.is_number ∙ same))
      (λ number w. sym w.is_number ∙ ap (λ (r : OpenRequest). r.number) (same_item w.request request (sym w.there ∙ there)))
      out)

-- A SLOT IS TAKEN

module _ (old new : Slab OpenRequest) (slot : ℕ) (entry : OpenRequest) (free : get old slot ≡ None) (updates : SlabUpdates old new slot (Some entry)) where
  pub not_free : (other : ℕ) (x : OpenRequest) → get old other ≡ Some x → other ≢ slot
  not_free other x there same = let e : Some x ≡ None = sym there ∙ ap (get old) same ∙ free in cc (e)

  -- the new entry, or what the slot held
  pub was_or_new : (other : ℕ) (x : OpenRequest) → get new other ≡ Some x → ((other ≡ slot) × (x ≡ entry)) ⊎ (get old other ≡ Some x)
  was_or_new other x there = elim (cases_eq other slot) [
    | inl same ↦ inl (same, sym (same_item entry x (sym updates.changed ∙ ap (get new) (sym same) ∙ there)))
    | inr apart ↦ inr (sym (updates.others other apart) ∙ there)
  ]

  pub still_there : (other : ℕ) (x : OpenRequest) → get old other ≡ Some x → get new other ≡ Some x
  still_there other x there = updates.others other (not_free other x there) ∙ there

-- A REQUEST IS OPENED

module _ (handles : Slab OpenHandle) (old new : Slab OpenRequest) (next_handle : ℕ) (chains chains' : Chains) (c : AreChained handles old next_handle chains) (slot : ℕ) (entry : OpenRequest)
    (o : IsOpenIn handles entry.handle_slot entry.handle) (not_yet : entry.cancelled ≡ false) (free : get old slot ≡ None) (low : slot < 64) (updates : SlabUpdates old new slot (Some entry))
    (highest : (other : ℕ) (x : OpenRequest) → get old other ≡ Some x → x.number < entry.number) (puts : PutsLast chains entry.handle_slot slot chains') where
  abbrev own_slot : ℕ
  own_slot = entry.handle_slot

  small_slot : own_slot < 64
  small_slot = c.in_range own_slot o.handle o.there

  stays_waiting : (handle other number : ℕ) → IsWaiting old handle other number → IsWaiting new handle other number
  stays_waiting handle other number w = record { request = w.request; there = still_there old new slot entry free updates other w.request w.there; at_handle = w.at_handle; is_number = w.is_number; not_yet = w.not_yet }

  new_waits : IsWaiting new own_slot slot entry.number
  new_waits = record { request = entry; there = updates.changed; at_handle = refl; is_number = refl; not_yet = not_yet }

  waiting_cases : (handle other number : ℕ) → IsWaiting new handle other number → ((other ≡ slot) × (number ≡ entry.number) × (handle ≡ own_slot)) ⊎ IsWaiting old handle other number
  waiting_cases handle other number w = elim (was_or_new old new slot entry free updates other w.request w.there) [
    | inl (at, is) ↦ inl (at, sym w.is_number ∙ ap (λ (r : OpenRequest). r.number) is, sym w.at_handle ∙ ap (λ (r : OpenRequest). r.handle_slot) is)
    | inr before ↦ inr (record { request = w.request; there = before; at_handle = w.at_handle; is_number = w.is_number; not_yet = w.not_yet })
  ]

  pub AreChained-more : AreChained handles new next_handle chains'
  AreChained-more = record {
    in_range = c.in_range;
    given = c.given;
    one_slot = c.one_slot;
    request_slots = λ other x there. elim (was_or_new old new slot entry free updates other x there) [ inl (at, is) ↦ omega (arith, at, low) | inr before ↦ c.request_slots other x before ];
    was_given = λ other x there. elim (was_or_new old new slot entry free updates other x there) [
      | inl (at, is) ↦ subst (λ (r : OpenRequest). r.handle < next_handle) (sym is) (subst (λ h. h < next_handle) o.is_number (c.given own_slot o.handle o.there))
      | inr before ↦ c.was_given other x before
    ];
    at_slot = λ other handle x there p. elim (was_or_new old new slot entry free updates other x there) [
      | inl (at, is) ↦
          ap (λ (r : OpenRequest). r.handle_slot) is ∙ c.one_slot own_slot handle o.handle p.handle o.there p.there (o.is_number ∙ ap (λ (r : OpenRequest). r.handle) (sym is) ∙ sym p.is_number)
      | inr before ↦ c.at_slot other handle x before p
    ];
    is_open = λ other x there not_yet'. elim (was_or_new old new slot entry free updates other x there) [
      | inl (at, is) ↦ subst (λ (r : OpenRequest). IsOpenIn handles r.handle_slot r.handle) (sym is) o
      | inr before ↦ c.is_open other x before not_yet'
    ];
    linked =
        AreLinked-more (IsWaiting old) (IsWaiting new) chains chains' c.linked own_slot slot entry.number small_slot low waiting_cases new_waits stays_waiting
        (λ other more w. let h : w.request.number < entry.number = highest other w.request w.there in subst (λ n. n < entry.number) w.is_number h)
        (λ handle other more w. not_free old new slot entry free updates other w.request w.there) puts;
  }

-- A HANDLE IS OPENED

module _ (old new : Slab OpenHandle) (requests : Slab OpenRequest) (next_handle : ℕ) (chains : Chains) (c : AreChained old requests next_handle chains) (slot partition : ℕ) (free : get old slot ≡ None)
    (in_range : slot < 64) (updates : SlabUpdates old new slot (Some (record { number = next_handle; partition = partition }))) where
  open_before : (other : ℕ) (x : OpenHandle) → get new other ≡ Some x → ((other ≡ slot) × (x.number ≡ next_handle)) ⊎ (get old other ≡ Some x)
  open_before other x there = elim (cases_eq other slot) [
    | inl same ↦ inl (same, ap (λ (h : OpenHandle). h.number) (same_item x _ (sym there ∙ ap (get new) same ∙ updates.changed)))
    | inr apart ↦ inr (sym (updates.others other apart) ∙ there)
  ]

  one_open : (one other : ℕ) (x y : OpenHandle) → ((one ≡ slot) × (x.number ≡ next_handle)) ⊎ (get old one ≡ Some x) → ((other ≡ slot) × (y.number ≡ next_handle)) ⊎ (get old other ≡ Some y) → x.number ≡ y.number → one ≡ other
  one_open one other x y (inl a) (inl b) same = a.0 ∙ sym b.0
  one_open one other x y (inl a) (inr b) same = let l : y.number < next_handle = c.given other y b in let e : x.number ≡ next_handle = a.1 in absurd (omega (arith, l, e, same))
  one_open one other x y (inr a) (inl b) same = let l : x.number < next_handle = c.given one x a in let e : y.number ≡ next_handle = b.1 in absurd (omega (arith, l, e, same))
  one_open one other x y (inr a) (inr b) same = c.one_slot one other x y a b same

  pub AreChained-opened : AreChained new requests (next_handle + 1) chains
  AreChained-opened = record {
    in_range = λ other x there. elim (open_before other x there) [ inl (at, is) ↦ omega (arith, at, in_range) | inr before ↦ c.in_range other x before ];
    given = λ other x there. elim (open_before other x there) [ inl (at, is) ↦ omega (arith, is) | inr before ↦ (let l : x.number < next_handle = c.given other x before in omega (arith, l)) ];
    one_slot = λ one other x y at_one at_other same. one_open one other x y (open_before one x at_one) (open_before other y at_other) same;
    request_slots = c.request_slots;
    was_given = λ other x there. let l : x.handle < next_handle = c.was_given other x there in omega (arith, l);
    at_slot = λ other handle x there o. elim (open_before handle o.handle o.there) [
      | inl (at, is) ↦ let l : x.handle < next_handle = c.was_given other x there in let e : o.handle.number ≡ x.handle = o.is_number in absurd (omega (arith, l, e, is))
      | inr before ↦ c.at_slot other handle x there (record { handle = o.handle; there = before; is_number = o.is_number })
    ];
    is_open = λ other x there not_yet.
        let o : IsOpenIn old x.handle_slot x.handle = c.is_open other x there not_yet in
        let apart : x.handle_slot ≢ slot = λ same. (let e : Some o.handle ≡ None = sym o.there ∙ ap (get old) same ∙ free in cc (e)) in
        record { handle = o.handle; there = updates.others x.handle_slot apart ∙ o.there; is_number = o.is_number };
    linked = c.linked;
  }

-- A HANDLE IS CLOSED

pub still_open : (old new : Slab OpenHandle) (slot : ℕ) → SlabUpdates old new slot None → (other : ℕ) (x : OpenHandle) → get new other ≡ Some x → get old other ≡ Some x
still_open old new slot updates other x there = elim (cases_eq other slot) [
  | inl same ↦ let e : None ≡ Some x = sym updates.changed ∙ ap (get new) (sym same) ∙ there in cc (e)
  | inr apart ↦ sym (updates.others other apart) ∙ there
]

module _ (old new : Slab OpenHandle) (requests : Slab OpenRequest) (next_handle : ℕ) (chains : Chains) (c : AreChained old requests next_handle chains) (slot number : ℕ) (o : IsOpenIn old slot number)
    (none_left : HasNoneToMark requests number) (updates : SlabUpdates old new slot None) where
  pub AreChained-closed : AreChained new requests next_handle chains
  AreChained-closed = record {
    in_range = λ other x there. c.in_range other x (still_open old new slot updates other x there);
    given = λ other x there. c.given other x (still_open old new slot updates other x there);
    one_slot = λ one other x y at_one at_other same. c.one_slot one other x y (still_open old new slot updates one x at_one) (still_open old new slot updates other y at_other) same;
    request_slots = c.request_slots;
    was_given = c.was_given;
    at_slot = λ other handle x there p. c.at_slot other handle x there (record { handle = p.handle; there = still_open old new slot updates handle p.handle p.there; is_number = p.is_number });
    is_open = λ other x there not_yet.
        let p : IsOpenIn old x.handle_slot x.handle = c.is_open other x there not_yet in
        let of_another : x.handle ≢ number = λ same. none_left other x there same not_yet in
        let apart : x.handle_slot ≢ slot = λ same.
        of_another (sym p.is_number ∙ ap (λ (h : OpenHandle). h.number) (same_item p.handle o.handle (sym p.there ∙ ap (get old) same ∙ o.there)) ∙ o.is_number) in
        record { handle = p.handle; there = updates.others x.handle_slot apart ∙ p.there; is_number = p.is_number };
    linked = c.linked;
  }

-- BEFORE THE FIRST CALL

pub none_there : {X : Type 0} (slab : Slab X) (slot : ℕ) (x : X) → slab.slots ≡ [] → get slab slot ≡ Some x → ⊥
none_there {X} slab slot x empty there = let e : None ≡ Some x = sym (ap (λ (xs : List (Option X)). get (record slab { slots = xs }) slot) empty) ∙ there in cc (e)

pub AreChained-empty : (handles : Slab OpenHandle) (requests : Slab OpenRequest) (next_handle : ℕ) (chains : Chains) → handles.slots ≡ [] → requests.slots ≡ [] → AreEnds chains
    → AreChained handles requests next_handle chains
AreChained-empty handles requests next_handle chains no_handles no_requests ends = record {
  in_range = λ slot x there. absurd (none_there handles slot x no_handles there);
  given = λ slot x there. absurd (none_there handles slot x no_handles there);
  one_slot = λ slot other x y there there' same. absurd (none_there handles slot x no_handles there);
  request_slots = λ slot x there. absurd (none_there requests slot x no_requests there);
  was_given = λ slot x there. absurd (none_there requests slot x no_requests there);
  at_slot = λ slot handle x there o. absurd (none_there requests slot x no_requests there);
  is_open = λ slot x there not_yet. absurd (none_there requests slot x no_requests there);
  linked = AreLinked-empty (IsWaiting requests) chains (λ handle slot number w. none_there requests slot w.request no_requests w.there) ends;
}
