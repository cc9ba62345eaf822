-- The chains by number, as requests are opened and closed; and how the slot of a number is found.
use Rattle.std.proofs.Common.{◌≡◌, ◌≢◌, ◌<◌, ◌≤◌, ◌⊎◌, inl, inr, ℕ, ◌+◌, ◌-◌, Option, Some, None, refl, sym, ◌∙◌, ap, subst, arith}
use Rattle.std.specs.Prelude.{slice_index, MatchOption}
use Rattle.io_manager.proofs.Common.{mod_below, Chains, IsLowestFrom, IsNextFrom, IsChain, chain_end, LeadsTo, CanLeave, CanJoin, PutsLast, TakesOut, IsNumbered, AreNumbered, remainder_of, HasNone}
use Rattle.slab.specs.Slab.{Slab, get, Updates as SlabUpdates}
use Rattle.io_manager.specs.declared.tables.OpenRequest.{OpenRequest}
use Rattle.io_manager.proofs.Linked.{end_joint, can_leave, can_join, AreLinked-less, AreLinked-more}
use Rattle.io_manager.proofs.Chained.{same_item, not_free, was_or_new, still_there}

-- A REQUEST'S CHAIN

pub remainder_small : (number : ℕ) → remainder_of number < 64
remainder_small number = mod_below number 64 (omega arith)

numbered : (requests : Slab OpenRequest) (slot : ℕ) (request : OpenRequest) → get requests slot ≡ Some request → IsNumbered requests (remainder_of request.number) slot request.number
numbered requests slot request there = record { request = request; there = there; is_number = refl; leaves = refl }

pub numbered_can_leave : (requests : Slab OpenRequest) (chains : Chains) → AreNumbered requests chains → (slot : ℕ) (request : OpenRequest) → get requests slot ≡ Some request → CanLeave chains slot
numbered_can_leave requests chains l slot request there =
    can_leave (IsNumbered requests) chains l (remainder_of request.number) slot request.number (remainder_small request.number) (numbered requests slot request there)

pub number_can_join : (requests : Slab OpenRequest) (chains : Chains) → AreNumbered requests chains → (number slot : ℕ) → slot < 64 → CanJoin chains (remainder_of number) slot
number_can_join requests chains l number slot low = can_join (IsNumbered requests) chains l (remainder_of number) slot (remainder_small number) low

-- A REQUEST IS OPENED

pub AreNumbered-more : (old new : Slab OpenRequest) (chains chains' : Chains) → AreNumbered old chains → (slot : ℕ) (entry : OpenRequest) → get old slot ≡ None → slot < 64
    → SlabUpdates old new slot (Some entry) → ((other : ℕ) (x : OpenRequest) → get old other ≡ Some x → x.number < entry.number) → PutsLast chains (remainder_of entry.number) slot chains' → AreNumbered new chains'
AreNumbered-more old new chains chains' l slot entry free low updates highest puts =
    AreLinked-more (IsNumbered old) (IsNumbered new) chains chains' l (remainder_of entry.number) slot entry.number (remainder_small entry.number) low
    by_cases (numbered new slot entry updates.changed)
    (λ remainder other number n. record { request = n.request; there = still_there old new slot entry free updates other n.request n.there; is_number = n.is_number; leaves = n.leaves })
    (λ other number n. subst (λ m. m < entry.number) n.is_number (highest other n.request n.there))
    (λ remainder other number n. not_free old new slot entry free updates other n.request n.there) puts
  where
    by_cases : (remainder other number : ℕ) → IsNumbered new remainder other number → ((other ≡ slot) × (number ≡ entry.number) × (remainder ≡ remainder_of entry.number)) ⊎ IsNumbered old remainder other number
    by_cases remainder other number n = elim (was_or_new old new slot entry free updates other n.request n.there) [
      | inl (at, is) ↦
          let same : number ≡ entry.number = sym n.is_number ∙ ap (λ (r : OpenRequest). r.number) is in
          inl (at, same, sym n.leaves ∙ ap remainder_of same)
      | inr before ↦ inr (record { request = n.request; there = before; is_number = n.is_number; leaves = n.leaves })
    ]

-- A REQUEST IS CLOSED

pub AreNumbered-less : (old new : Slab OpenRequest) (chains chains' : Chains) → AreNumbered old chains → (slot : ℕ) (request : OpenRequest) → get old slot ≡ Some request
    → ((other : ℕ) (x : OpenRequest) → get new other ≡ Some x → (other ≢ slot) × (get old other ≡ Some x)) → ((other : ℕ) (x : OpenRequest) → other ≢ slot → get old other ≡ Some x → get new other ≡ Some x)
    → ((other : ℕ) (x : OpenRequest) → get old other ≡ Some x → x.number ≡ request.number → other ≡ slot) → TakesOut chains slot chains' → AreNumbered new chains'
AreNumbered-less old new chains chains' l slot request there was stays one_number out =
    AreLinked-less (IsNumbered old) (IsNumbered new) chains chains' l (remainder_of request.number) slot request.number (remainder_small request.number) (numbered old slot request there)
    (λ remainder other number n. (record { request = n.request; there = (was other n.request n.there).1; is_number = n.is_number; leaves = n.leaves }, (was other n.request n.there).0))
    (λ remainder other number n apart. record { request = n.request; there = stays other n.request apart n.there; is_number = n.is_number; leaves = n.leaves })
    (λ other number n same. one_number other n.request n.there (n.is_number ∙ same))
    (λ number n. sym n.is_number ∙ ap (λ (r : OpenRequest). r.number) (same_item n.request request (sym n.there ∙ there)))
    out

-- THE SLOT OF A NUMBER IS LOOKED FOR

-- the one at hand is the lowest of the number's remainder from one on that the number is not below; or there is none from there on
pub record Seeks (requests : Slab OpenRequest) (number : ℕ) (at_hand : Option ℕ) : Type 0 where
  pub low : ℕ
  pub not_passed : low ≤ number
  pub lowest : MatchOption at_hand ((other more : ℕ) → IsNumbered requests (remainder_of number) other more → more < low) (λ slot. IsLowestFrom (IsNumbered requests (remainder_of number)) low slot)

abbrev pub number_at : Option OpenRequest → ℕ
number_at None = 0
number_at (Some request) = request.number

-- how far its number is from the one that is looked for
abbrev pub distance : Slab OpenRequest → ℕ → Option ℕ → ℕ
distance requests number None = 0
distance requests number (Some slot) = 1 + (number - number_at (get requests slot))

module _ (requests : Slab OpenRequest) (chains : Chains) (l : AreNumbered requests chains) (number : ℕ) where
  abbrev Own : ℕ → ℕ → Type 0
  Own = IsNumbered requests (remainder_of number)

  abbrev end : ℕ
  end = chain_end (remainder_of number)

  chain : IsChain Own end (slice_index chains.after) (slice_index chains.before)
  chain = l.chained (remainder_of number) (remainder_small number)

  is_own : (slot : ℕ) (request : OpenRequest) → get requests slot ≡ Some request → request.number ≡ number → Own slot number
  is_own slot request there same = record { request = request; there = there; is_number = same; leaves = refl }

  -- no link to a request's slot is one to the end
  no_end : (slot at : ℕ) → (slot ≡ at) × (slot < 64) → at ≡ end → ⊥
  no_end slot at found is = let a : slot ≡ at = found.0 in let h : slot < 64 = found.1 in let e : at ≡ 64 + remainder_of number = is in omega (arith, a, h, e)

  seeks_at : (low at : ℕ) (found : Option ℕ) → low ≤ number → LeadsTo at found → IsNextFrom Own end low at → Seeks requests number found
  seeks_at low at None within high (inl none) = record { low = low; not_passed = within; lowest = none.1 }
  seeks_at low at None within high (inr one) = let h : at < 64 = l.slots (remainder_of number) at one.number one.there in absurd (omega (arith, h, high))
  seeks_at low at (Some slot) within found (inl none) = absurd (no_end slot at found none.0)
  seeks_at low at (Some slot) within found (inr one) = record { low = low; not_passed = within; lowest = subst (IsLowestFrom Own low) (sym found.0) one }

  pub seeks_first : (found : Option ℕ) → LeadsTo (slice_index chains.after (chain_end (remainder_of number))) found → Seeks requests number found
  seeks_first found leads = seeks_at 0 _ found (omega arith) leads (chain.next end 0 (end_joint (IsNumbered requests) chains l (remainder_of number)))

  -- none is left
  pub none_found : (found : Option ℕ) → found ≡ None → Seeks requests number found → HasNone requests number
  none_found (Some other) e s slot request there same = cc (e)
  none_found None e s slot request there same =
      let h : number < s.low = s.lowest slot number (is_own slot request there same) in
      let w : s.low ≤ number = s.not_passed in
      omega (arith, h, w)

  -- ONE IS AT HAND

  module _ (slot : ℕ) (s : Seeks requests number (Some slot)) where
    pub slot_small : slot < 64
    slot_small = l.slots (remainder_of number) slot s.lowest.number s.lowest.there

    module _ (request : OpenRequest) (is : get requests slot ≡ Some request) where
      own_number : request.number ≡ s.lowest.number
      own_number = ap (λ (r : OpenRequest). r.number) (same_item request s.lowest.there.request (sym is ∙ s.lowest.there.there)) ∙ s.lowest.there.is_number

      -- whose number is above
      pub none_beyond : number < request.number → HasNone requests number
      none_beyond above other x there same =
          let h : s.lowest.number ≤ number = s.lowest.lowest other number (is_own other x there same) s.not_passed in
          let e : request.number ≡ s.lowest.number = own_number in
          omega (arith, h, e, above)

      -- or below
      behind : IsNextFrom Own end (request.number + 1) (slice_index chains.after slot)
      behind = chain.next slot (request.number + 1) (inr (s.lowest.number, s.lowest.there, ap (λ n. n + 1) own_number))

      pub seeks_next : request.number ≤ number → request.number ≢ number → (found : Option ℕ) → LeadsTo (slice_index chains.after slot) found → Seeks requests number found
      seeks_next within apart found leads = seeks_at (request.number + 1) _ found (omega (arith, within, apart)) leads behind

      nearer : (at : ℕ) (found : Option ℕ) → request.number < number → LeadsTo at found → IsNextFrom Own end (request.number + 1) at → distance requests number found < distance requests number (Some slot)
      nearer at None below leads next = omega arith
      nearer at (Some other) below leads (inl none) = absurd (no_end other at leads none.0)
      nearer at (Some other) below leads (inr one) =
          let e : number_at (get requests other) ≡ one.number = ap (λ s. number_at (get requests s)) leads.0 ∙ ap number_at one.there.there ∙ one.there.is_number in
          let h : request.number + 1 ≤ one.number = one.counts in
          let f : number_at (get requests slot) ≡ request.number = ap number_at is in
          omega (arith, e, h, f, below)

  pub distance_less : (at_hand : Option ℕ) (slot : ℕ) → at_hand ≡ Some slot → Seeks requests number at_hand → (request : OpenRequest) → get requests slot ≡ Some request → request.number ≤ number → request.number ≢ number
      → (found : Option ℕ) → LeadsTo (slice_index chains.after slot) found → distance requests number found < distance requests number at_hand
  distance_less at_hand slot is s request there within apart found leads =
      let own : Seeks requests number (Some slot) = subst (Seeks requests number) is s in
      subst (λ x. distance requests number found < distance requests number x) (sym is) (nearer slot own request there _ found (omega (arith, within, apart)) leads (behind slot own request there))
