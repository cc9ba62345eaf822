-- A member comes to a chain's end, or leaves from where it stands.
use Rattle.io_manager.proofs.Common.{◌≡◌, ◌≢◌, ◌<◌, ◌≤◌, ◌⊎◌, inl, inr, ℕ, ◌+◌, refl, sym, ◌∙◌, ap, subst, arith, cases_eq, cases_lt, IsJoint, IsLowestFrom, IsNextFrom, IsChain}

pub joint_next : (Member : ℕ → ℕ → Type 0) (end low slot : ℕ) → IsNextFrom Member end low slot → (from : ℕ) × IsJoint Member end slot from
joint_next Member end low slot (inl none) = (0, inl (none.0, refl))
joint_next Member end low slot (inr found) = (found.number + 1, inr (found.number, found.there, refl))

-- THE SAME MEMBERS, LINKED AS BEFORE

module _ (Old New : ℕ → ℕ → Type 0) (end : ℕ) (after before after' before' : ℕ → ℕ) (chain : IsChain Old end after before)
    (was : (slot number : ℕ) → New slot number → Old slot number) (still : (slot number : ℕ) → Old slot number → New slot number)
    (same_after : (joint low : ℕ) → IsJoint Old end joint low → after' joint ≡ after joint) (same_before : (joint low : ℕ) → IsJoint Old end joint low → before' joint ≡ before joint) where
  joint_was : (joint low : ℕ) → IsJoint New end joint low → IsJoint Old end joint low
  joint_was joint low (inl e) = inl e
  joint_was joint low (inr m) = inr (m.0, was joint m.0 m.1, m.2)

  joint_still : (joint low : ℕ) → IsJoint Old end joint low → IsJoint New end joint low
  joint_still joint low (inl e) = inl e
  joint_still joint low (inr m) = inr (m.0, still joint m.0 m.1, m.2)

  next_still : (low slot : ℕ) → IsNextFrom Old end low slot → IsNextFrom New end low slot
  next_still low slot (inl none) = inl (none.0, λ other more there. none.1 other more (was other more there))
  next_still low slot (inr found) = inr (record {
    number = found.number;
    there = still slot found.number found.there;
    counts = found.counts;
    lowest = λ other more there counts. found.lowest other more (was other more there) counts;
  })

  pub IsChain-still : IsChain New end after' before'
  IsChain-still = record {
    next = λ joint low j.
        let o : IsJoint Old end joint low = joint_was joint low j in
        subst (λ slot. IsNextFrom New end low slot) (sym (same_after joint low o)) (next_still low (after joint) (chain.next joint low o));
    back = λ joint low j.
        let o : IsJoint Old end joint low = joint_was joint low j in
        let behind : (from : ℕ) × IsJoint Old end (after joint) from = joint_next Old end low (after joint) (chain.next joint low o) in
        ap before' (same_after joint low o) ∙ same_before (after joint) behind.0 behind.1 ∙ chain.back joint low o;
    forth = λ joint low j.
        let o : IsJoint Old end joint low = joint_was joint low j in
        let f : ((lower : ℕ) × IsJoint Old end (before joint) lower) × (after (before joint) ≡ joint) = chain.forth joint low o in (
          (f.0.0, subst (λ slot. IsJoint New end slot f.0.0) (sym (same_before joint low o)) (joint_still (before joint) f.0.0 f.0.1)),
          ap after' (same_before joint low o) ∙ same_after (before joint) f.0.0 f.0.1 ∙ f.1,
        );
  }

-- ONE COMES TO THE END

module _ (Old New : ℕ → ℕ → Type 0) (end : ℕ) (after before after' before' : ℕ → ℕ) (chain : IsChain Old end after before) (slot number : ℕ)
    (is_one : (other more : ℕ) → New other more → ((other ≡ slot) × (more ≡ number)) ⊎ Old other more) (there : New slot number) (still : (other more : ℕ) → Old other more → New other more)
    (highest : (other more : ℕ) → Old other more → more < number) (elsewhere : (other more : ℕ) → Old other more → other ≢ slot) (ends : (other more : ℕ) → Old other more → other ≢ end) (no_end : slot ≢ end)
    (last_after : after' (before end) ≡ slot) (slot_after : after' slot ≡ end) (others_after : (joint : ℕ) → joint ≢ before end → joint ≢ slot → after' joint ≡ after joint)
    (slot_before : before' slot ≡ before end) (end_before : before' end ≡ slot) (others_before : (joint : ℕ) → joint ≢ slot → joint ≢ end → before' joint ≡ before joint) where
  last : ((lower : ℕ) × IsJoint Old end (before end) lower) × (after (before end) ≡ end)
  last = chain.forth end 0 (inl (refl, refl))

  joint_now : (joint low : ℕ) → IsJoint Old end joint low → IsJoint New end joint low
  joint_now joint low (inl e) = inl e
  joint_now joint low (inr m) = inr (m.0, still joint m.0 m.1, m.2)

  -- the new one, or a joint from before
  joint_cases : (joint low : ℕ) → IsJoint New end joint low → ((joint ≡ slot) × (low ≡ number + 1)) ⊎ IsJoint Old end joint low
  joint_cases joint low (inl e) = inr (inl e)
  joint_cases joint low (inr (n, member, is)) = elim (is_one joint n member) [
    | inl same ↦ inl (same.0, is ∙ ap (λ m. m + 1) same.1)
    | inr old ↦ inr (inr (n, old, is))
  ]

  not_new : (joint low : ℕ) → IsJoint Old end joint low → joint ≢ slot
  not_new joint low (inl e) same = no_end (sym same ∙ e.0)
  not_new joint low (inr m) same = elsewhere joint m.0 m.1 same

  low_enough : (joint low : ℕ) → IsJoint Old end joint low → low ≤ number
  low_enough joint low (inl (e, zero)) = omega (arith, zero)
  low_enough joint low (inr (n, member, is)) = let h : n < number = highest joint n member in omega (arith, is, h)

  -- what came after a joint, but for the last
  after_still : (low x : ℕ) → x ≢ end → IsNextFrom Old end low x → IsNextFrom New end low x
  after_still low x apart (inl none) = absurd (apart none.0)
  after_still low x apart (inr found) = inr (record {
    number = found.number;
    there = still x found.number found.there;
    counts = found.counts;
    lowest = λ other more member counts. elim (is_one other more member) [
      | inl same ↦ let h : found.number < number = highest x found.number found.there in let e : more ≡ number = same.1 in omega (arith, h, e)
      | inr old ↦ found.lowest other more old counts
    ];
  })

  none_after : (low x : ℕ) → x ≡ end → IsNextFrom Old end low x → (other more : ℕ) → Old other more → more < low
  none_after low x at (inl none) other more old = none.1 other more old
  none_after low x at (inr found) other more old = absurd (ends x found.number found.there at)

  not_end : (joint low : ℕ) → IsJoint Old end joint low → joint ≢ before end → after joint ≢ end
  not_end joint low j apart at = apart (sym (chain.back joint low j) ∙ ap before at)

  next_longer : (joint low : ℕ) → ((joint ≡ slot) × (low ≡ number + 1)) ⊎ IsJoint Old end joint low → IsNextFrom New end low (after' joint)
  next_longer joint low (inl (same, is)) =
      inl (
        ap after' same ∙ slot_after,
        λ other more member. elim (is_one other more member) [
          | inl (at, e) ↦ omega (arith, e, is)
          | inr old ↦ let h : more < number = highest other more old in omega (arith, h, is)
        ],
      )
  next_longer joint low (inr j) = elim (cases_eq joint (before end)) [
    | inl same ↦
        inr (record {
          number = number;
          there = subst (λ x. New x number) (sym (ap after' same ∙ last_after)) there;
          counts = low_enough joint low j;
          lowest = λ other more member counts. elim (is_one other more member) [
            | inl (at, e) ↦ omega (arith, e)
            | inr old ↦ let h : more < low = none_after low (after joint) (ap after same ∙ last.1) (chain.next joint low j) other more old in omega (arith, h, counts)
          ];
        })
    | inr apart ↦
        subst (λ x. IsNextFrom New end low x) (sym (others_after joint apart (not_new joint low j))) (after_still low (after joint) (not_end joint low j apart) (chain.next joint low j))
  ]

  back_longer : (joint low : ℕ) → ((joint ≡ slot) × (low ≡ number + 1)) ⊎ IsJoint Old end joint low → before' (after' joint) ≡ joint
  back_longer joint low (inl (same, is)) = ap before' (ap after' same ∙ slot_after) ∙ end_before ∙ sym same
  back_longer joint low (inr j) = elim (cases_eq joint (before end)) [
    | inl same ↦ ap before' (ap after' same ∙ last_after) ∙ slot_before ∙ sym same
    | inr apart ↦
        let behind : (from : ℕ) × IsJoint Old end (after joint) from = joint_next Old end low (after joint) (chain.next joint low j) in
        ap before' (others_after joint apart (not_new joint low j))
        ∙ others_before (after joint) (not_new (after joint) behind.0 behind.1) (not_end joint low j apart)
        ∙ chain.back joint low j
  ]

  forth_longer : (joint low : ℕ) → ((joint ≡ slot) × (low ≡ number + 1)) ⊎ IsJoint Old end joint low → ((lower : ℕ) × IsJoint New end (before' joint) lower) × (after' (before' joint) ≡ joint)
  forth_longer joint low (inl (same, is)) =
      let at : before' joint ≡ before end = ap before' same ∙ slot_before in
      ((last.0.0, subst (λ x. IsJoint New end x last.0.0) (sym at) (joint_now (before end) last.0.0 last.0.1)), ap after' at ∙ last_after ∙ sym same)
  forth_longer joint low (inr j) = elim (cases_eq joint end) [
    | inl same ↦
        let at : before' joint ≡ slot = ap before' same ∙ end_before in
        ((number + 1, subst (λ x. IsJoint New end x (number + 1)) (sym at) (inr (number, there, refl))), ap after' at ∙ slot_after ∙ sym same)
    | inr apart ↦
        let at : before' joint ≡ before joint = others_before joint (not_new joint low j) apart in
        let f : ((lower : ℕ) × IsJoint Old end (before joint) lower) × (after (before joint) ≡ joint) = chain.forth joint low j in
        let differs : before joint ≢ before end = λ same. apart (sym f.1 ∙ ap after same ∙ last.1) in (
          (f.0.0, subst (λ x. IsJoint New end x f.0.0) (sym at) (joint_now (before joint) f.0.0 f.0.1)),
          ap after' at ∙ others_after (before joint) differs (not_new (before joint) f.0.0 f.0.1) ∙ f.1,
        )
  ]

  pub IsChain-longer : IsChain New end after' before'
  IsChain-longer = record {
    next = λ joint low j. next_longer joint low (joint_cases joint low j);
    back = λ joint low j. back_longer joint low (joint_cases joint low j);
    forth = λ joint low j. forth_longer joint low (joint_cases joint low j);
  }

-- ONE LEAVES

module _ (Old New : ℕ → ℕ → Type 0) (end : ℕ) (after before after' before' : ℕ → ℕ) (chain : IsChain Old end after before) (slot number : ℕ)
    (there : Old slot number) (was : (other more : ℕ) → New other more → Old other more × (other ≢ slot)) (still : (other more : ℕ) → Old other more → other ≢ slot → New other more)
    (one_slot : (other more : ℕ) → Old other more → more ≡ number → other ≡ slot) (one_number : (more : ℕ) → Old slot more → more ≡ number) (no_end : slot ≢ end)
    (left_after : after' (before slot) ≡ after slot) (others_after : (joint : ℕ) → joint ≢ before slot → after' joint ≡ after joint)
    (left_before : before' (after slot) ≡ before slot) (others_before : (joint : ℕ) → joint ≢ after slot → before' joint ≡ before joint) where
  itself : IsJoint Old end slot (number + 1)
  itself = inr (number, there, refl)

  joint_left : (joint low : ℕ) → IsJoint New end joint low → IsJoint Old end joint low × (joint ≢ slot)
  joint_left joint low (inl e) = (inl e, λ same. no_end (sym same ∙ e.0))
  joint_left joint low (inr (n, member, is)) = (inr (n, (was joint n member).0, is), (was joint n member).1)

  joint_stays : (joint low : ℕ) → IsJoint Old end joint low → joint ≢ slot → IsJoint New end joint low
  joint_stays joint low (inl e) apart = inl e
  joint_stays joint low (inr (n, member, is)) apart = inr (n, still joint n member apart, is)

  -- nothing follows itself
  not_behind : (x : ℕ) → IsNextFrom Old end (number + 1) x → x ≢ slot
  not_behind x (inl none) same = no_end (sym same ∙ none.0)
  not_behind x (inr found) same =
      let e : found.number ≡ number = one_number found.number (subst (λ y. Old y found.number) same found.there) in
      let h : number + 1 ≤ found.number = found.counts in
      omega (arith, e, h)

  -- what comes after a joint that it didn't come after
  next_stays : (low x : ℕ) → x ≢ slot → IsNextFrom Old end low x → IsNextFrom New end low x
  next_stays low x apart (inl none) = inl (none.0, λ other more member. none.1 other more (was other more member).0)
  next_stays low x apart (inr found) = inr (record {
    number = found.number;
    there = still x found.number found.there apart;
    counts = found.counts;
    lowest = λ other more member counts. found.lowest other more (was other more member).0 counts;
  })

  -- what counts from where it was the lowest, but itself, is above it
  beyond : (low : ℕ) (here : IsLowestFrom Old low slot) (other more : ℕ) → New other more → low ≤ more → number + 1 ≤ more
  beyond low here other more member counts =
      let e : here.number ≡ number = one_number here.number here.there in
      let h : here.number ≤ more = here.lowest other more (was other more member).0 counts in
      let differs : more ≢ number = λ same. (was other more member).1 (one_slot other more (was other more member).0 same) in
      omega (arith, e, h, differs)

  -- and after the one that it came after
  next_over : (low : ℕ) → IsNextFrom Old end low slot → (x : ℕ) → IsNextFrom Old end (number + 1) x → IsNextFrom New end low x
  next_over low (inl none) x behind = absurd (no_end none.0)
  next_over low (inr here) x (inl none) = inl (
    none.0,
    λ other more member. elim (cases_lt more low) [
      | inl below ↦ below
      | inr counts ↦ let h : more < number + 1 = none.1 other more (was other more member).0 in let l : number + 1 ≤ more = beyond low here other more member counts in omega (arith, h, l)
    ],
  )
  next_over low (inr here) x (inr found) = inr (record {
    number = found.number;
    there = still x found.number found.there (not_behind x (inr found));
    counts = let e : here.number ≡ number = one_number here.number here.there in let h : low ≤ here.number = here.counts in let l : number + 1 ≤ found.number = found.counts in omega (arith, e, h, l);
    lowest = λ other more member counts. found.lowest other more (was other more member).0 (beyond low here other more member counts);
  })

  follows_it : (joint : ℕ) → joint ≡ before slot → after joint ≡ slot
  follows_it joint same = ap after same ∙ (chain.forth slot (number + 1) itself).1

  next_shorter : (joint low : ℕ) → IsJoint Old end joint low → IsNextFrom New end low (after' joint)
  next_shorter joint low j = elim (cases_eq joint (before slot)) [
    | inl same ↦
        subst (λ x. IsNextFrom New end low x) (sym (ap after' same ∙ left_after))
        (next_over low (subst (λ x. IsNextFrom Old end low x) (follows_it joint same) (chain.next joint low j)) (after slot) (chain.next slot (number + 1) itself))
    | inr apart ↦
        subst (λ x. IsNextFrom New end low x) (sym (others_after joint apart))
        (next_stays low (after joint) (λ same. apart (sym (chain.back joint low j) ∙ ap before same)) (chain.next joint low j))
  ]

  back_shorter : (joint low : ℕ) → IsJoint Old end joint low → joint ≢ slot → before' (after' joint) ≡ joint
  back_shorter joint low j other = elim (cases_eq joint (before slot)) [
    | inl same ↦ ap before' (ap after' same ∙ left_after) ∙ left_before ∙ sym same
    | inr apart ↦
        let differs : after joint ≢ after slot = λ same. other (sym (chain.back joint low j) ∙ ap before same ∙ chain.back slot (number + 1) itself) in
        ap before' (others_after joint apart) ∙ others_before (after joint) differs ∙ chain.back joint low j
  ]

  forth_shorter : (joint low : ℕ) → IsJoint Old end joint low → joint ≢ slot → ((lower : ℕ) × IsJoint New end (before' joint) lower) × (after' (before' joint) ≡ joint)
  forth_shorter joint low j other = elim (cases_eq joint (after slot)) [
    | inl same ↦
        let at : before' joint ≡ before slot = ap before' same ∙ left_before in
        let f : ((lower : ℕ) × IsJoint Old end (before slot) lower) × (after (before slot) ≡ slot) = chain.forth slot (number + 1) itself in
        let differs : before slot ≢ slot = λ same'. not_behind (after slot) (chain.next slot (number + 1) itself) (sym (ap after same') ∙ f.1) in (
          (f.0.0, subst (λ x. IsJoint New end x f.0.0) (sym at) (joint_stays (before slot) f.0.0 f.0.1 differs)),
          ap after' at ∙ left_after ∙ sym same,
        )
    | inr apart ↦
        let at : before' joint ≡ before joint = others_before joint apart in
        let f : ((lower : ℕ) × IsJoint Old end (before joint) lower) × (after (before joint) ≡ joint) = chain.forth joint low j in
        let own : before joint ≢ slot = λ same. apart (sym f.1 ∙ ap after same) in
        let differs : before joint ≢ before slot = λ same. other (sym f.1 ∙ follows_it (before joint) same) in (
          (f.0.0, subst (λ x. IsJoint New end x f.0.0) (sym at) (joint_stays (before joint) f.0.0 f.0.1 own)),
          ap after' at ∙ others_after (before joint) differs ∙ f.1,
        )
  ]

  pub IsChain-shorter : IsChain New end after' before'
  IsChain-shorter = record {
    next = λ joint low j. next_shorter joint low (joint_left joint low j).0;
    back = λ joint low j. back_shorter joint low (joint_left joint low j).0 (joint_left joint low j).1;
    forth = λ joint low j. forth_shorter joint low (joint_left joint low j).0 (joint_left joint low j).1;
  }
