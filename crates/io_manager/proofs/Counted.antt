-- How many requests are open on each open handle, as requests are opened, cancelled and closed.
use Rattle.std.proofs.Common.{◌≡◌, ◌≢◌, ◌<◌, ◌≤◌, inl, inr, ℕ, zero, suc, ◌+◌, ◌-◌, Bool, true, false, List, Option, Some, None, refl, sym, ◌∙◌, ap, subst, arith, length, eq-eqb}
use Rattle.std.specs.Prelude.{is_some, nat_lt, slice_index, slice_set, MatchBool, ◌==◌, if◌then◌else◌}
use Rattle.io_manager.proofs.Common.{cases_eq, ltb-false, nat_tests, length-set, Handle, OpenHandle, Chains, Tables, partition_of, HasSome, HasNoneOf, IsOpenIn, AreChained, of_handle, count_open, AreCounted, Closes}
use Rattle.slab.specs.Slab.{Slab, get, Updates as SlabUpdates}
use Rattle.irp.specs.declared.Done.{Done}
use Rattle.io_manager.specs.declared.tables.OpenRequest.{OpenRequest}
use Rattle.io_manager.proofs.Linked.{set_same, set_other}
use Rattle.io_manager.proofs.Chained.{open_in, partition_in}

-- WHAT COUNTS

is_of : (request : OpenRequest) (number : ℕ) → request.handle ≡ number → of_handle (Some request) number ≡ 1
is_of request number same = rw (eq-eqb request.handle number same) refl

is_not_of : (request : OpenRequest) (number : ℕ) → request.handle ≢ number → of_handle (Some request) number ≡ 0
is_not_of request number apart = let test : (request.handle == number) ≡ false = grind (arith, nat_tests) in rw test refl

at_most_one : (x : Option OpenRequest) (number : ℕ) → of_handle x number ≤ 1
at_most_one None number = omega arith
at_most_one (Some request) number = elim (request.handle == number) as (λ b. (if b then 1 else 0) ≤ 1) [ true ↦ omega arith | false ↦ omega arith ]

few_counted : (requests : Slab OpenRequest) (number slots : ℕ) → count_open requests number slots ≤ slots
few_counted requests number zero = omega arith
few_counted requests number (suc slots) =
    let before : count_open requests number slots ≤ slots = few_counted requests number slots in
    let one : of_handle (get requests slots) number ≤ 1 = at_most_one (get requests slots) number in
    omega (arith, before, one)

-- with one slot changed, the count is as much more or less
count_beside : (old new : Slab OpenRequest) (slot number : ℕ) → ((other : ℕ) → other ≢ slot → get new other ≡ get old other) → (slots : ℕ) → slots ≤ slot → count_open new number slots ≡ count_open old number slots
count_beside old new slot number others zero low = refl
count_beside old new slot number others (suc slots) low =
    let before : count_open new number slots ≡ count_open old number slots = count_beside old new slot number others slots (omega arith) in
    let same : of_handle (get new slots) number ≡ of_handle (get old slots) number = ap (λ x. of_handle x number) (others slots (omega arith)) in
    omega (arith, before, same)

count_changed : (old new : Slab OpenRequest) (slot number : ℕ) → ((other : ℕ) → other ≢ slot → get new other ≡ get old other) → (slots : ℕ) → slot < slots
    → count_open new number slots + of_handle (get old slot) number ≡ count_open old number slots + of_handle (get new slot) number
count_changed old new slot number others zero low = absurd (omega (arith, low))
count_changed old new slot number others (suc slots) low = elim (cases_eq slots slot) [
  | inl same ↦
      let before : count_open new number slots ≡ count_open old number slots = count_beside old new slot number others slots (omega arith) in
      let a : of_handle (get new slots) number ≡ of_handle (get new slot) number = ap (λ x. of_handle (get new x) number) same in
      let b : of_handle (get old slots) number ≡ of_handle (get old slot) number = ap (λ x. of_handle (get old x) number) same in
      omega (arith, before, a, b)
  | inr apart ↦
      let before : count_open new number slots + of_handle (get old slot) number ≡ count_open old number slots + of_handle (get new slot) number = count_changed old new slot number others slots (omega (arith, low, apart)) in
      let same : of_handle (get new slots) number ≡ of_handle (get old slots) number = ap (λ x. of_handle x number) (others slots apart) in
      omega (arith, before, same)
]

count_same : (old new : Slab OpenRequest) (number : ℕ) → ((other : ℕ) → of_handle (get new other) number ≡ of_handle (get old other) number) → (slots : ℕ) → count_open new number slots ≡ count_open old number slots
count_same old new number each zero = refl
count_same old new number each (suc slots) =
    let before : count_open new number slots ≡ count_open old number slots = count_same old new number each slots in
    let same : of_handle (get new slots) number ≡ of_handle (get old slots) number = each slots in
    omega (arith, before, same)

count_none : (requests : Slab OpenRequest) (number : ℕ) → ((slot : ℕ) (request : OpenRequest) → get requests slot ≡ Some request → request.handle ≢ number) → (slots : ℕ) → count_open requests number slots ≡ 0
count_none requests number none zero = refl
count_none requests number none (suc slots) =
    let before : count_open requests number slots ≡ 0 = count_none requests number none slots in
    let here : of_handle (get requests slots) number ≡ 0 = by_slot (get requests slots) refl in
    omega (arith, before, here)
  where
    by_slot : (x : Option OpenRequest) → get requests slots ≡ x → of_handle x number ≡ 0
    by_slot None there = refl
    by_slot (Some request) there = is_not_of request number (none slots request there)

-- one of the handle's requests counts
pub count_some : (requests : Slab OpenRequest) (number slot : ℕ) (request : OpenRequest) → get requests slot ≡ Some request → request.handle ≡ number → (slots : ℕ) → slot < slots → 0 < count_open requests number slots
count_some requests number slot request there of zero low = absurd (omega (arith, low))
count_some requests number slot request there of (suc slots) low = elim (cases_eq slots slot) [
  | inl same ↦
      let here : of_handle (get requests slots) number ≡ 1 = ap (λ x. of_handle (get requests x) number) same ∙ ap (λ x. of_handle x number) there ∙ is_of request number of in
      omega (arith, here)
  | inr apart ↦ let before : 0 < count_open requests number slots = count_some requests number slot request there of slots (omega (arith, low, apart)) in omega (arith, before)
]

-- and what is counted is there
here_or_before : (requests : Slab OpenRequest) (number slots : ℕ) (x : Option OpenRequest) → get requests slots ≡ x → (0 < count_open requests number slots → HasSome requests number)
    → 0 < count_open requests number slots + of_handle (get requests slots) number → HasSome requests number
here_or_before requests number slots None there before some =
    let none : of_handle (get requests slots) number ≡ 0 = ap (λ y. of_handle y number) there in
    before (omega (arith, none, some))
here_or_before requests number slots (Some request) there before some = elim (cases_eq request.handle number) [
  | inl same ↦ record { slot = slots; request = request; there = there; of_handle = same }
  | inr apart ↦
      let none : of_handle (get requests slots) number ≡ 0 = ap (λ y. of_handle y number) there ∙ is_not_of request number apart in
      before (omega (arith, none, some))
]

found : (requests : Slab OpenRequest) (number slots : ℕ) → 0 < count_open requests number slots → HasSome requests number
found requests number zero some = absurd (omega (arith, some))
found requests number (suc slots) some = here_or_before requests number slots (get requests slots) refl (found requests number slots) some

pub tells_open : (handles : Slab OpenHandle) (requests : Slab OpenRequest) (next_handle : ℕ) (chains : Chains) (counts : List ℕ) → AreChained handles requests next_handle chains → AreCounted handles requests counts
    → (slot number : ℕ) → IsOpenIn handles slot number → MatchBool (nat_lt 0 (slice_index counts slot)) (HasSome requests number) (HasNoneOf requests number)
tells_open handles requests next_handle chains counts chained c slot number o = by_test (nat_lt 0 (slice_index counts slot)) refl
  where
    is : slice_index counts slot ≡ count_open requests number 64
    is = c.counted slot number o

    by_test : (b : Bool) → nat_lt 0 (slice_index counts slot) ≡ b → MatchBool b (HasSome requests number) (HasNoneOf requests number)
    by_test true some = found requests number 64 (let l : 0 < slice_index counts slot = grind (arith, nat_tests) in let e : slice_index counts slot ≡ count_open requests number 64 = is in omega (arith, l, e))
    by_test false none = λ other request there of.
        let l : slice_index counts slot ≤ 0 = ltb-false 0 (slice_index counts slot) none in
        let e : slice_index counts slot ≡ count_open requests number 64 = is in
        let m : 0 < count_open requests number 64 = count_some requests number other request there of 64 (chained.request_slots other request there) in
        absurd (omega (arith, l, e, m))

-- no more are open on a handle than there are slots
pub few_open : (handles : Slab OpenHandle) (requests : Slab OpenRequest) (counts : List ℕ) → AreCounted handles requests counts → (slot number : ℕ) → IsOpenIn handles slot number → slice_index counts slot ≤ 64
few_open handles requests counts c slot number o =
    let is : slice_index counts slot ≡ count_open requests number 64 = c.counted slot number o in
    let few : count_open requests number 64 ≤ 64 = few_counted requests number 64 in
    omega (arith, is, few)

-- the count of an open handle with an open request can be lowered
pub can_count_out : (handles : Slab OpenHandle) (requests : Slab OpenRequest) (next_handle : ℕ) (chains : Chains) (counts : List ℕ) → AreChained handles requests next_handle chains → AreCounted handles requests counts
    → (slot : ℕ) (request : OpenRequest) (handle : Handle) → get requests slot ≡ Some request → handle ≡ record { slot = request.handle_slot; number = request.handle } → is_some (partition_of handles.slots handle) ≡ true
    → (handle.slot < 64) × (0 < slice_index counts handle.slot)
can_count_out handles requests next_handle chains counts chained c slot request handle there same is_open =
    let o : IsOpenIn handles handle.slot handle.number = open_in handles handle is_open in
    let is : slice_index counts handle.slot ≡ count_open requests handle.number 64 = c.counted handle.slot handle.number o in
    let some : 0 < count_open requests handle.number 64 = count_some requests handle.number slot request there (ap (λ (h : Handle). h.number) (sym same)) 64 (chained.request_slots slot request there) in
    (chained.in_range handle.slot o.handle o.there, omega (arith, is, some))

-- EACH STEP KEEPS THE COUNTS

pub AreCounted-same : (handles : Slab OpenHandle) (old new : Slab OpenRequest) (counts : List ℕ) → AreCounted handles old counts → ((other number : ℕ) → of_handle (get new other) number ≡ of_handle (get old other) number) → AreCounted handles new counts
AreCounted-same handles old new counts c each = record {
  places = c.places;
  counted = λ slot number o. c.counted slot number o ∙ sym (count_same old new number (λ other. each other number) 64);
}

same_item : {X : Type 0} (a b : X) → Some a ≡ Some b → a ≡ b
same_item a b e = cc (e)

one_number : (handles : Slab OpenHandle) (slot other number more : ℕ) → slot ≡ other → IsOpenIn handles slot number → IsOpenIn handles other more → number ≡ more
one_number handles slot other number more same o p =
    sym o.is_number ∙ ap (λ (h : OpenHandle). h.number) (same_item o.handle p.handle (sym o.there ∙ ap (get handles) same ∙ p.there)) ∙ p.is_number

pub AreCounted-more : (handles : Slab OpenHandle) (old new : Slab OpenRequest) (next_handle : ℕ) (chains : Chains) → AreChained handles old next_handle chains → (counts counts' : List ℕ) → AreCounted handles old counts
    → (slot : ℕ) (entry : OpenRequest) → IsOpenIn handles entry.handle_slot entry.handle → get old slot ≡ None → slot < 64 → SlabUpdates old new slot (Some entry)
    → counts' ≡ slice_set counts entry.handle_slot (slice_index counts entry.handle_slot + 1) → AreCounted handles new counts'
AreCounted-more handles old new next_handle chains chained counts counts' c slot entry o free low updates is = record {
  places = ap length is ∙ length-set counts _ _ ∙ c.places;
  counted = λ other number p. elim (cases_eq other entry.handle_slot) [
    | inl same ↦
        let of : entry.handle ≡ number = sym (one_number handles other entry.handle_slot number entry.handle same p o) in
        let there : slice_index counts' other ≡ slice_index counts entry.handle_slot + 1 =
        ap (λ (xs : List ℕ). slice_index xs other) is ∙ set_same counts entry.handle_slot other _ same (let l : entry.handle_slot < 64 = chained.in_range entry.handle_slot o.handle o.there in let e : length counts ≡ 64 = c.places in omega (arith, l, e)) in
        let before : slice_index counts entry.handle_slot ≡ count_open old number 64 = subst (λ n. slice_index counts entry.handle_slot ≡ count_open old n 64) of (c.counted entry.handle_slot entry.handle o) in
        let now : of_handle (get new slot) number ≡ 1 = ap (λ x. of_handle x number) updates.changed ∙ is_of entry number of in
        let change : count_open new number 64 + of_handle (get old slot) number ≡ count_open old number 64 + of_handle (get new slot) number = changed number in
        let was : of_handle (get old slot) number ≡ 0 = none number in
        omega (arith, there, before, now, change, was)
    | inr apart ↦
        let differs : entry.handle ≢ number = λ same. apart (chained.one_slot other entry.handle_slot p.handle o.handle p.there o.there (p.is_number ∙ sym same ∙ sym o.is_number)) in
        let there : slice_index counts' other ≡ slice_index counts other = ap (λ (xs : List ℕ). slice_index xs other) is ∙ set_other counts entry.handle_slot other _ apart in
        let before : slice_index counts other ≡ count_open old number 64 = c.counted other number p in
        let now : of_handle (get new slot) number ≡ 0 = ap (λ x. of_handle x number) updates.changed ∙ is_not_of entry number differs in
        let change : count_open new number 64 + of_handle (get old slot) number ≡ count_open old number 64 + of_handle (get new slot) number = changed number in
        let was : of_handle (get old slot) number ≡ 0 = none number in
        omega (arith, there, before, now, change, was)
  ];
}
  where
    none : (number : ℕ) → of_handle (get old slot) number ≡ 0
    none number = ap (λ x. of_handle x number) free

    changed : (number : ℕ) → count_open new number 64 + of_handle (get old slot) number ≡ count_open old number 64 + of_handle (get new slot) number
    changed number = count_changed old new slot number updates.others 64 low

module _ (old new : Tables) (done : Done) (c : Closes old done new) (chained : AreChained old.handles old.requests old.next_handle old.chains) (counted : AreCounted old.handles old.requests old.open_counts) where
  abbrev its_handle : Handle
  its_handle = record { slot = c.request.handle_slot; number = c.request.handle }

  changed_by : (number : ℕ) → count_open new.requests number 64 + of_handle (get old.requests c.slot) number ≡ count_open old.requests number 64 + of_handle (get new.requests c.slot) number
  changed_by number = count_changed old.requests new.requests c.slot number c.leaves.others 64 (chained.request_slots c.slot c.request c.there)

  gone : (number : ℕ) → of_handle (get new.requests c.slot) number ≡ 0
  gone number = ap (λ x. of_handle x number) c.leaves.changed

  as_many : (number : ℕ) → c.request.handle ≢ number → count_open new.requests number 64 ≡ count_open old.requests number 64
  as_many number apart =
      let was : of_handle (get old.requests c.slot) number ≡ 0 = ap (λ x. of_handle x number) c.there ∙ is_not_of c.request number apart in
      let change : count_open new.requests number 64 + of_handle (get old.requests c.slot) number ≡ count_open old.requests number 64 + of_handle (get new.requests c.slot) number = changed_by number in
      let now : of_handle (get new.requests c.slot) number ≡ 0 = gone number in
      omega (arith, was, change, now)

  one_fewer : (number : ℕ) → c.request.handle ≡ number → count_open new.requests number 64 + 1 ≡ count_open old.requests number 64
  one_fewer number same =
      let was : of_handle (get old.requests c.slot) number ≡ 1 = ap (λ x. of_handle x number) c.there ∙ is_of c.request number same in
      let change : count_open new.requests number 64 + of_handle (get old.requests c.slot) number ≡ count_open old.requests number 64 + of_handle (get new.requests c.slot) number = changed_by number in
      let now : of_handle (get new.requests c.slot) number ≡ 0 = gone number in
      omega (arith, was, change, now)

  at_its_slot : (slot number : ℕ) → IsOpenIn old.handles slot number → c.request.handle ≡ number → c.request.handle_slot ≡ slot
  at_its_slot slot number o same = chained.at_slot c.slot slot c.request c.there (subst (IsOpenIn old.handles slot) (sym same) o)

  pub AreCounted-ended : AreCounted old.handles new.requests new.open_counts
  AreCounted-ended = by_flag (is_some (partition_of old.handles.slots its_handle)) refl c.counts
    where
      by_flag : (b : Bool) → is_some (partition_of old.handles.slots its_handle) ≡ b
          → MatchBool b (new.open_counts ≡ slice_set old.open_counts c.request.handle_slot (slice_index old.open_counts c.request.handle_slot - 1)) (new.open_counts ≡ old.open_counts)
          → AreCounted old.handles new.requests new.open_counts
      by_flag true is_open is = record {
        places = ap length is ∙ length-set old.open_counts _ _ ∙ counted.places;
        counted = λ slot number o. elim (cases_eq c.request.handle number) [
          | inl same ↦
              let at : slot ≡ c.request.handle_slot = sym (at_its_slot slot number o same) in
              let there : slice_index new.open_counts slot ≡ slice_index old.open_counts c.request.handle_slot - 1 =
              ap (λ (xs : List ℕ). slice_index xs slot) is ∙ set_same old.open_counts c.request.handle_slot slot _ at
              (let l : slot < 64 = chained.in_range slot o.handle o.there in let e : length old.open_counts ≡ 64 = counted.places in omega (arith, l, e, at)) in
              let before : slice_index old.open_counts c.request.handle_slot ≡ count_open old.requests number 64 = ap (slice_index old.open_counts) (sym at) ∙ counted.counted slot number o in
              let fewer : count_open new.requests number 64 + 1 ≡ count_open old.requests number 64 = one_fewer number same in
              omega (arith, there, before, fewer)
          | inr apart ↦
              let differs : slot ≢ c.request.handle_slot = λ same. apart (sym (one_number old.handles slot c.request.handle_slot number c.request.handle same o (open_in old.handles its_handle is_open))) in
              ap (λ (xs : List ℕ). slice_index xs slot) is ∙ set_other old.open_counts c.request.handle_slot slot _ differs ∙ counted.counted slot number o ∙ sym (as_many number apart)
        ];
      }
      by_flag false is_closed is = record {
        places = ap length is ∙ counted.places;
        counted = λ slot number o.
            let apart : c.request.handle ≢ number = λ same.
            let open' : IsOpenIn old.handles c.request.handle_slot c.request.handle =
            subst (λ s. IsOpenIn old.handles s c.request.handle) (sym (at_its_slot slot number o same)) (subst (IsOpenIn old.handles slot) (sym same) o) in
            let e : true ≡ false = sym (partition_in old.handles its_handle open') ∙ is_closed in
            cc (e) in
            ap (λ (xs : List ℕ). slice_index xs slot) is ∙ counted.counted slot number o ∙ sym (as_many number apart);
      }

-- a handle that is opened has no requests yet
pub AreCounted-opened : (old new : Slab OpenHandle) (requests : Slab OpenRequest) (next_handle : ℕ) (chains : Chains) → AreChained old requests next_handle chains → (slot partition : ℕ) (counts counts' : List ℕ) → AreCounted old requests counts
    → slot < 64 → SlabUpdates old new slot (Some (record { number = next_handle; partition = partition })) → counts' ≡ slice_set counts slot 0 → AreCounted new requests counts'
AreCounted-opened old new requests next_handle chains chained slot partition counts counts' c low updates is = record {
  places = ap length is ∙ length-set counts _ _ ∙ c.places;
  counted = λ other number o. elim (cases_eq other slot) [
    | inl same ↦
        let number_is : next_handle ≡ number = ap (λ (h : OpenHandle). h.number) (same_item _ o.handle (sym updates.changed ∙ ap (get new) (sym same) ∙ o.there)) ∙ o.is_number in
        ap (λ (xs : List ℕ). slice_index xs other) is ∙ set_same counts slot other 0 same (let e : length counts ≡ 64 = c.places in omega (arith, e, low))
        ∙ sym (count_none requests number (λ at request there of. let l : request.handle < next_handle = chained.was_given at request there in omega (arith, l, of, number_is)) 64)
    | inr apart ↦
        ap (λ (xs : List ℕ). slice_index xs other) is ∙ set_other counts slot other 0 apart
        ∙ c.counted other number (record { handle = o.handle; there = sym (updates.others other apart) ∙ o.there; is_number = o.is_number })
  ];
}
