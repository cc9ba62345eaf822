-- What a journal keeps, through its calls.
use Rattle.sector_journal.proofs.Common.{◌≡◌, ◌<◌, ◌≤◌, ℕ, zero, suc, ◌+◌, Bool, List, [], ◌∷◌, ◌++◌, length, All, Option, Some, None, get_or, slice_get, slice_set, refl, sym, ap, subst, ◌∙◌, arith, ◌^◌, length-append, inl, inr, take, drop, slice_index_or, remove, cases_eq, cases_lt, set_past, get_or-set_same, get_or-set_other, map_push, sum_by-set, All-weaker, All-push, All-append, All-take, All-drop, Entry, Completion, ReplaysKind, Replays, Extent, IsCovered, IsSector, MediumView, IsReserved, Reserves, Entered, Armed, Reservation, Enters, Refuses, armed_at, armed_count, one_if_armed, IsFree, Takes, IsHeld, IsOfArming, AreOfArmings, entries_in, of_arming, CanEnter, MayAct, JournalKept}
use Rattle.sector_journal.proofs.Counting.{clear_count, put_count, within_slots}

-- AN ENTRY AT THE END

pub replays_longer : (size : ℕ) (entries : List Entry) (disk mid after : List (List ℕ)) (entry : Entry) → Replays size disk entries mid → ReplaysKind size mid entry.extent entry.bytes entry.kind after
    → Replays size disk (entries ++ entry ∷ []) after
replays_longer size [] disk mid after entry h k = (after, subst (λ (x : List (List ℕ)). ReplaysKind size x entry.extent entry.bytes entry.kind after) h k, refl)
replays_longer size (first ∷ entries) disk mid after entry h k = (h.0, h.1, replays_longer size entries h.0 mid after entry h.2 k)

-- the first entries of a journal
pub replays_first : (size : ℕ) (entries more : List Entry) (disk after : List (List ℕ)) → Replays size disk (entries ++ more) after
    → (mid : List (List ℕ)) × Replays size disk entries mid × Replays size mid more after
replays_first size [] more disk after h = (disk, refl, h)
replays_first size (entry ∷ entries) more disk after h =
    let rest = replays_first size entries more h.0 after h.2 in
    (rest.0, (h.0, h.1, rest.1), rest.2)

-- A MEDIUM THAT CHANGED

-- as many sectors, and what was reserved still is
pub record Holds (old new : MediumView) : Type 0 where
  as_many : length new.sectors ≡ length old.sectors
  lasts : (extent : Extent) → IsReserved old extent → IsReserved new extent

ready_on : (old new : MediumView) (armings : List Armed) (tag : ℕ) (armed : Armed) → Holds old new → MayAct old armings tag armed → MayAct new armings tag armed
ready_on old new armings tag armed holds may = record {
  can_enter = record {
    ready = λ lba count fua asks inside. holds.lasts (record { first = lba; count = count }) (may.can_enter.ready lba count fua asks (subst (λ n. lba + count ≤ n) holds.as_many inside));
    names = may.can_enter.names;
  };
  is_tag = may.is_tag;
  noted = may.noted;
}

held_on : (old new : MediumView) (reservations : List Reservation) → Holds old new → All (IsHeld old) reservations → All (IsHeld new) reservations
held_on old new reservations holds held = All-weaker (IsHeld old) (IsHeld new) (λ r h. record { some = h.some; reserved = λ is. holds.lasts r.extent (h.reserved is) }) reservations held

-- sectors of one size, where the medium's is the same
of_size : (opening : List (List ℕ)) {size size' : ℕ} → size' ≡ size → All (IsSector size) opening → All (IsSector size') opening
of_size opening same all = subst (λ (n : ℕ). All (IsSector n) opening) (sym same) all

holds_reserved : (old new : MediumView) (extent : Extent) → new.reserved ≡ old.reserved → IsReserved old extent → IsReserved new extent
holds_reserved old new extent same h = subst (λ (r : List Extent). IsCovered r extent) (sym same) h

-- A TAG THAT IS FREE AGAIN

still_there : (slots : List (Option Armed)) (tag other : ℕ) (armed : Armed) → armed_at (slice_set slots tag None) other ≡ Some armed → armed_at slots other ≡ Some armed
still_there [] tag other armed h = h
still_there (slot ∷ slots) zero zero armed h = absurd (cc (h))
still_there (slot ∷ slots) zero (suc other) armed h = h
still_there (slot ∷ slots) (suc tag) zero armed h = h
still_there (slot ∷ slots) (suc tag) (suc other) armed h = still_there slots tag other armed h

ready_but : (medium : MediumView) (armings : List Armed) (slots slots' : List (Option Armed)) (tag : ℕ) → slots' ≡ slice_set slots tag None → ((other : ℕ) (armed : Armed) → armed_at slots other ≡ Some armed → MayAct medium armings other armed)
    → (other : ℕ) (armed : Armed) → armed_at slots' other ≡ Some armed → MayAct medium armings other armed
ready_but medium armings slots slots' tag after ready other armed h =
    ready other armed (still_there slots tag other armed (subst (λ (s : List (Option Armed)). armed_at s other ≡ Some armed) after h))

one_less : (slots slots' : List (Option Armed)) (tag piece : ℕ) (armed : Armed) → Takes slots tag piece armed slots' → armed_count slots' + 1 ≡ armed_count slots
one_less slots slots' tag piece armed takes =
    ap (λ (s : List (Option Armed)). armed_count s + 1) takes.after ∙ clear_count slots tag armed (within_slots slots tag armed takes.was_there) takes.was_there

get_front : {A : Type 0} (xs ys : List A) (k : ℕ) (x : A) → slice_get xs k ≡ Some x → slice_get (xs ++ ys) k ≡ Some x
get_front [] ys k x h = absurd (cc (h))
get_front (y ∷ xs) ys zero x h = h
get_front (y ∷ xs) ys (suc k) x h = get_front xs ys k x h

get_end : {A : Type 0} (xs : List A) (x : A) → slice_get (xs ++ x ∷ []) (length xs) ≡ Some x
get_end [] x = refl
get_end (y ∷ xs) x = get_end xs x

some_is : {A : Type 0} {x y : A} → Some x ≡ Some y → x ≡ y
some_is h = cc (h)

-- AN ENTRY AND ITS ARMING

-- where the sectors are as many, and as long
of_all : (old new : MediumView) (armings : List Armed) (entered : List Entered) → new.sector_size ≡ old.sector_size → length new.sectors ≡ length old.sectors → AreOfArmings old armings entered → AreOfArmings new armings entered
of_all old new armings entered size_is as_many all =
    subst (λ (n : ℕ). All (IsOfArming n (length new.sectors) armings) entered) (sym size_is) (subst (λ (n : ℕ). All (IsOfArming old.sector_size n armings) entered) (sym as_many) all)

-- where more was armed
of_more : (medium : MediumView) (armings : List Armed) (armed : Armed) (entered : List Entered) → AreOfArmings medium armings entered → AreOfArmings medium (armings ++ armed ∷ []) entered
of_more medium armings armed entered all =
    All-weaker (IsOfArming medium.sector_size (length medium.sectors) armings) (IsOfArming medium.sector_size (length medium.sectors) (armings ++ armed ∷ []))
    (λ e of. record { armed = of.armed; noted = get_front armings (armed ∷ []) e.arming of.armed of.noted; is_piece = of.is_piece; is_tag = of.is_tag; of_srb = of.of_srb }) entered all

-- AN ACT

module _ (opening : List (List ℕ)) (medium medium' : MediumView) (write_protected : Bool) (entered : List Entered) (places : ℕ) (slots slots' : List (Option Armed)) (armings : List Armed) (reservations : List Reservation)
    (tag piece : ℕ) (armed : Armed) (kept : JournalKept opening medium entered places slots armings reservations) (takes : Takes slots tag piece armed slots') where
  pub has_place : length entered < places
  has_place =
      let less : armed_count slots' + 1 ≡ armed_count slots = one_less slots slots' tag piece armed takes in
      let placed : length entered + armed_count slots ≤ places = kept.placed in
      omega (arith, less, placed)

  pub is_countable : length armings < 2 ^ 64 → medium.failures < 2 ^ 120
  is_countable few = let c : medium.failures + armed_count slots ≤ length armings = kept.counted in omega (arith, c, few)

  of_this : (entry : Entry) → Enters medium write_protected tag piece armed.srb entry medium' → IsOfArming medium.sector_size (length medium.sectors) armings (of_arming armed.number entry)
  of_this entry enters =
      let may : MayAct medium armings tag armed = kept.ready tag armed takes.was_there in
      record { armed = armed; noted = may.noted; is_piece = enters.is_piece ∙ sym takes.is_piece; is_tag = enters.is_tag ∙ sym may.is_tag; of_srb = enters.of_srb }

  pub entered_kept : (entry : Entry) (entered' : List Entered) (places' : ℕ) → Enters medium write_protected tag piece armed.srb entry medium' → entered' ≡ entered ++ of_arming armed.number entry ∷ [] → places' ≡ places
      → JournalKept opening medium' entered' places' slots' armings reservations
  entered_kept entry entered' places' enters longer same =
      let less : armed_count slots' + 1 ≡ armed_count slots = one_less slots slots' tag piece armed takes in
      let size_is : medium'.sector_size ≡ medium.sector_size = ap (λ (v : MediumView). v.sector_size) enters.after in
      let failures_are : medium'.failures ≡ medium.failures = ap (λ (v : MediumView). v.failures) enters.after in
      let reserved_are : medium'.reserved ≡ medium.reserved = ap (λ (v : MediumView). v.reserved) enters.after in
      let holds : Holds medium medium' = record { as_many = enters.as_many; lasts = λ extent h. holds_reserved medium medium' extent reserved_are h } in
      let long : length entered' ≡ length entered + 1 = ap length longer ∙ length-append entered (of_arming armed.number entry ∷ []) in
      let placed : length entered + armed_count slots ≤ places = kept.placed in
      let counted : medium.failures + armed_count slots ≤ length armings = kept.counted in
      let all : AreOfArmings medium armings (entered ++ of_arming armed.number entry ∷ []) =
      All-push (IsOfArming medium.sector_size (length medium.sectors) armings) entered (of_arming armed.number entry) kept.of_armings (of_this entry enters) in
      let entries_are : entries_in entered' ≡ entries_in entered ++ entry ∷ [] = ap entries_in longer ∙ map_push (λ (e : Entered). e.entry) entered (of_arming armed.number entry) in
      record {
        replays =
            subst (λ (x : ℕ). Replays x opening (entries_in entered') medium'.sectors) (sym size_is)
            (subst (λ (x : List Entry). Replays medium.sector_size opening x medium'.sectors) (sym entries_are)
            (replays_longer medium.sector_size (entries_in entered) opening medium.sectors medium'.sectors entry kept.replays enters.replays));
        of_armings = of_all medium medium' armings entered' size_is enters.as_many (subst (λ (x : List Entered). AreOfArmings medium armings x) (sym longer) all);
        some = subst (λ (n : ℕ). 1 ≤ n) (sym enters.as_many) kept.some;
        whole = of_size opening size_is kept.whole;
        ready = λ other a h. ready_on medium medium' armings other a holds (ready_but medium armings slots slots' tag takes.after kept.ready other a h);
        placed = omega (arith, less, long, placed, same);
        counted = omega (arith, less, failures_are, counted);
        held = held_on medium medium' reservations holds kept.held;
      }

  pub refused_kept : (completion : Completion) → Refuses medium write_protected armed.srb completion medium' → JournalKept opening medium' entered places slots' armings reservations
  refused_kept completion refuses =
      let less : armed_count slots' + 1 ≡ armed_count slots = one_less slots slots' tag piece armed takes in
      let size_is : medium'.sector_size ≡ medium.sector_size = ap (λ (v : MediumView). v.sector_size) refuses.after in
      let sectors_are : medium'.sectors ≡ medium.sectors = ap (λ (v : MediumView). v.sectors) refuses.after in
      let reserved_are : medium'.reserved ≡ medium.reserved = ap (λ (v : MediumView). v.reserved) refuses.after in
      let holds : Holds medium medium' = record { as_many = ap length sectors_are; lasts = λ extent h. holds_reserved medium medium' extent reserved_are h } in
      let placed : length entered + armed_count slots ≤ places = kept.placed in
      let counted : medium.failures + armed_count slots ≤ length armings = kept.counted in
      let more : medium'.failures ≤ medium.failures + 1 = refuses.counted in
      record {
        replays =
            subst (λ (x : ℕ). Replays x opening (entries_in entered) medium'.sectors) (sym size_is)
            (subst (λ (x : List (List ℕ)). Replays medium.sector_size opening (entries_in entered) x) (sym sectors_are) kept.replays);
        of_armings = of_all medium medium' armings entered size_is (ap length sectors_are) kept.of_armings;
        some = subst (λ (n : ℕ). 1 ≤ n) (sym (ap length sectors_are)) kept.some;
        whole = of_size opening size_is kept.whole;
        ready = λ other a h. ready_on medium medium' armings other a holds (ready_but medium armings slots slots' tag takes.after kept.ready other a h);
        placed = omega (arith, less, placed);
        counted = omega (arith, less, more, counted);
        held = held_on medium medium' reservations holds kept.held;
      }

-- A TAG THAT IS ARMED OR DISARMED

cleared_count : (slots : List (Option Armed)) (tag : ℕ) → armed_count (slice_set slots tag None) ≤ armed_count slots
cleared_count slots tag = elim (cases_lt tag (length slots)) [
  | inl low ↦
      let h : armed_count (slice_set slots tag None) + one_if_armed (get_or slots tag None) ≡ armed_count slots + 0 = sum_by-set one_if_armed slots tag None None low in
      omega (arith, h)
  | inr past ↦ let same : slice_set slots tag None ≡ slots = set_past slots tag None past in rw same (omega arith)
]

pub disarmed_kept : (opening : List (List ℕ)) (medium : MediumView) (entered : List Entered) (places : ℕ) (slots slots' : List (Option Armed)) (armings : List Armed) (reservations : List Reservation) (tag : ℕ)
    → JournalKept opening medium entered places slots armings reservations → slots' ≡ slice_set slots tag None → JournalKept opening medium entered places slots' armings reservations
disarmed_kept opening medium entered places slots slots' armings reservations tag kept after =
    let less : armed_count slots' ≤ armed_count slots = rw after (cleared_count slots tag) in
    let placed : length entered + armed_count slots ≤ places = kept.placed in
    let counted : medium.failures + armed_count slots ≤ length armings = kept.counted in
    record {
      replays = kept.replays;
      of_armings = kept.of_armings;
      some = kept.some;
      whole = kept.whole;
      ready = ready_but medium armings slots slots' tag after kept.ready;
      placed = omega (arith, less, placed);
      counted = omega (arith, less, counted);
      held = kept.held;
    }

pub released_kept : (opening : List (List ℕ)) (medium : MediumView) (entered : List Entered) (places : ℕ) (slots : List (Option Armed)) (armings : List Armed) (reservations reservations' : List Reservation) (at : ℕ)
    → JournalKept opening medium entered places slots armings reservations → reservations' ≡ remove reservations at → JournalKept opening medium entered places slots armings reservations'
released_kept opening medium entered places slots armings reservations reservations' at kept after = record {
  replays = kept.replays;
  of_armings = kept.of_armings;
  some = kept.some;
  whole = kept.whole;
  ready = kept.ready;
  placed = kept.placed;
  counted = kept.counted;
  held = subst (λ (r : List Reservation). All (IsHeld medium) r) (sym after)
      (All-append (IsHeld medium) (take at reservations) (drop (suc at) reservations) (All-take (IsHeld medium) at reservations kept.held) (All-drop (IsHeld medium) (suc at) reservations kept.held));
}

pub held_at : (medium : MediumView) (reservations : List Reservation) (at : ℕ) (found : Reservation) → All (IsHeld medium) reservations → at < length reservations → found ≡ slice_index_or reservations at found
    → 1 ≤ found.max_transfer
held_at medium reservations at found held low is = subst (λ (r : Reservation). 1 ≤ r.max_transfer) (sym is) (held at found low).some

pub armed_kept : (opening : List (List ℕ)) (medium : MediumView) (entered : List Entered) (places : ℕ) (slots slots' : List (Option Armed)) (armings armings' : List Armed) (reservations : List Reservation) (tag : ℕ) (armed : Armed)
    → JournalKept opening medium entered places slots armings reservations → IsFree slots tag → armed.tag ≡ tag → armed.number ≡ length armings → CanEnter medium armed → length entered + armed_count slots < places
    → slots' ≡ slice_set slots tag (Some armed) → armings' ≡ armings ++ armed ∷ [] → JournalKept opening medium entered places slots' armings' reservations
armed_kept opening medium entered places slots slots' armings armings' reservations tag armed kept free is_tag is_number can place after longer =
    let more : armed_count slots' ≡ armed_count slots + 1 = ap armed_count after ∙ put_count slots tag armed free in
    let long : length armings' ≡ length armings + 1 = ap length longer ∙ length-append armings (armed ∷ []) in
    let counted : medium.failures + armed_count slots ≤ length armings = kept.counted in
    record {
      replays = kept.replays;
      of_armings = subst (λ (all : List Armed). AreOfArmings medium all entered) (sym longer) (of_more medium armings armed entered kept.of_armings);
      some = kept.some;
      whole = kept.whole;
      ready = λ other a h. subst (λ (all : List Armed). MayAct medium all other a) (sym longer) (elim (cases_eq other tag) [
        | inl is ↦
            let put : armed_at slots' other ≡ Some armed = ap (λ n. get_or slots' n None) is ∙ ap (λ (s : List (Option Armed)). get_or s tag None) after ∙ get_or-set_same slots tag (Some armed) None free.0 in
            let same : armed ≡ a = some_is (sym put ∙ h) in
            subst (λ (x : Armed). MayAct medium (armings ++ armed ∷ []) other x) same (record {
              can_enter = can;
              is_tag = is_tag ∙ sym is;
              noted = ap (slice_get (armings ++ armed ∷ [])) is_number ∙ get_end armings armed;
            })
        | inr apart ↦
            let old : armed_at slots' other ≡ armed_at slots other = ap (λ (s : List (Option Armed)). get_or s other None) after ∙ get_or-set_other slots tag other (Some armed) None apart in
            let may : MayAct medium armings other a = kept.ready other a (sym old ∙ h) in
            record {
              can_enter = may.can_enter;
              is_tag = may.is_tag;
              noted = get_front armings (armed ∷ []) a.number a may.noted;
            }
      ]);
      placed = omega (arith, more, place);
      counted = omega (arith, more, long, counted);
      held = kept.held;
    }

-- ROOM FOR A REQUEST

-- more room, and a medium of which more is reserved
pub roomier_kept : (opening : List (List ℕ)) (medium medium' : MediumView) (entered entered' : List Entered) (places places' : ℕ) (slots : List (Option Armed)) (armings : List Armed) (reservations reservations' : List Reservation)
    → JournalKept opening medium entered places slots armings reservations → Reserves medium medium' → entered' ≡ entered → places ≤ places' → reservations' ≡ reservations
    → JournalKept opening medium' entered' places' slots armings reservations'
roomier_kept opening medium medium' entered entered' places places' slots armings reservations reservations' kept reserves same more same' =
    let size_is : medium'.sector_size ≡ medium.sector_size = ap (λ (v : MediumView). v.sector_size) reserves.after in
    let sectors_are : medium'.sectors ≡ medium.sectors = ap (λ (v : MediumView). v.sectors) reserves.after in
    let failures_are : medium'.failures ≡ medium.failures = ap (λ (v : MediumView). v.failures) reserves.after in
    let holds : Holds medium medium' = record { as_many = ap length sectors_are; lasts = reserves.lasts } in
    let placed : length entered + armed_count slots ≤ places = kept.placed in
    let counted : medium.failures + armed_count slots ≤ length armings = kept.counted in
    let long : length entered' ≡ length entered = ap length same in
    record {
      replays =
          subst (λ (x : ℕ). Replays x opening (entries_in entered') medium'.sectors) (sym size_is)
          (subst (λ (x : List (List ℕ)). Replays medium.sector_size opening (entries_in entered') x) (sym sectors_are)
          (subst (λ (x : List Entered). Replays medium.sector_size opening (entries_in x) medium.sectors) (sym same) kept.replays));
      of_armings = of_all medium medium' armings entered' size_is (ap length sectors_are) (subst (λ (x : List Entered). AreOfArmings medium armings x) (sym same) kept.of_armings);
      some = subst (λ (n : ℕ). 1 ≤ n) (sym (ap length sectors_are)) kept.some;
      whole = of_size opening size_is kept.whole;
      ready = λ tag armed h. ready_on medium medium' armings tag armed holds (kept.ready tag armed h);
      placed = omega (arith, long, more, placed);
      counted = omega (arith, failures_are, counted);
      held = subst (λ (r : List Reservation). All (IsHeld medium') r) (sym same') (held_on medium medium' reservations holds kept.held);
    }

-- one reservation more
pub admitted_kept : (opening : List (List ℕ)) (medium medium' : MediumView) (entered entered' : List Entered) (places places' : ℕ) (slots : List (Option Armed)) (armings : List Armed) (reservations reservations' : List Reservation) (reservation : Reservation)
    → JournalKept opening medium entered places slots armings reservations → Reserves medium medium' → entered' ≡ entered → places ≤ places' → IsHeld medium' reservation → reservations' ≡ reservations ++ reservation ∷ []
    → JournalKept opening medium' entered' places' slots armings reservations'
admitted_kept opening medium medium' entered entered' places places' slots armings reservations reservations' reservation kept reserves same more held longer =
    let more_kept = roomier_kept opening medium medium' entered entered' places places' slots armings reservations reservations kept reserves same more refl in
    record {
      replays = more_kept.replays;
      of_armings = more_kept.of_armings;
      some = more_kept.some;
      whole = more_kept.whole;
      ready = more_kept.ready;
      placed = more_kept.placed;
      counted = more_kept.counted;
      held = subst (λ (r : List Reservation). All (IsHeld medium') r) (sym longer) (All-push (IsHeld medium') reservations reservation more_kept.held held);
    }
