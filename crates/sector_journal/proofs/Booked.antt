-- What open requests were promised, and the buffers that stay for them.
use Rattle.sector_journal.proofs.Common.{◌≡◌, ◌≤◌, ◌<◌, ℕ, zero, suc, ◌+◌, ◌-◌, ◌==◌, min, true, false, if◌then◌else◌, List, [], ◌∷◌, ◌++◌, length, get_or, slice_index_or, slice_set, Option, Some, None, inl, inr, refl, sym, ap, subst, ◌∙◌, arith, eqb-true, position, remove, sum_by, cases_Bool, sum_by_push, sum_by-remove, Armed, Reservation, is_of, of_length, pieces_with, armed_at, armed_with, SizeClassView, pieces_at, promised_at, JournalView, Disarms, Releases, pieces_open}

-- each length was promised what the reservations say
abbrev pub AreBooked : ℕ → List Reservation → List SizeClassView → Type 0
AreBooked size reservations rooms = (long : ℕ) → promised_at rooms long ≡ sum_by (pieces_with size long) reservations

pub still_booked : (size size' : ℕ) (reservations reservations' : List Reservation) (rooms rooms' : List SizeClassView) → AreBooked size reservations rooms → size' ≡ size → reservations' ≡ reservations
    → ((long : ℕ) → promised_at rooms' long ≡ promised_at rooms long) → AreBooked size' reservations' rooms'
still_booked size size' reservations reservations' rooms rooms' booked sizes same promised long =
    promised long ∙ booked long ∙ ap (λ (n : ℕ). sum_by (pieces_with n long) reservations) (sym sizes) ∙ ap (λ (rs : List Reservation). sum_by (pieces_with size' long) rs) (sym same)

pub more_booked : (size size' : ℕ) (reservations items reservations' : List Reservation) (reservation : Reservation) (rooms rooms' : List SizeClassView) (cut : ℕ → ℕ) → AreBooked size reservations rooms → size' ≡ size → items ≡ reservations
    → reservations' ≡ items ++ reservation ∷ [] → ((long : ℕ) → cut long ≡ pieces_with size long reservation) → ((long : ℕ) → promised_at rooms' long ≡ promised_at rooms long + cut long) → AreBooked size' reservations' rooms'
more_booked size size' reservations items reservations' reservation rooms rooms' cut booked sizes same longer cuts promised =
    subst (λ (n : ℕ). AreBooked n reservations' rooms') (sym sizes) (λ long.
    let sum : sum_by (pieces_with size long) reservations' ≡ sum_by (pieces_with size long) items + pieces_with size long reservation = ap (sum_by (pieces_with size long)) longer ∙ sum_by_push (pieces_with size long) items reservation in
    let old : sum_by (pieces_with size long) items ≡ sum_by (pieces_with size long) reservations = ap (sum_by (pieces_with size long)) same in
    let a = promised long in
    let b = booked long in
    let d = cuts long in
    omega (arith, sum, old, a, b, d))

pub less_booked : (size : ℕ) (reservations reservations' : List Reservation) (at : ℕ) (found : Reservation) (rooms rooms1 rooms2 : List SizeClassView) (full last : ℕ → ℕ) → AreBooked size reservations rooms → at < length reservations
    → found ≡ slice_index_or reservations at found → reservations' ≡ remove reservations at → ((long : ℕ) → full long + last long ≡ pieces_with size long found) → ((long : ℕ) → promised_at rooms1 long ≡ promised_at rooms long - full long)
    → ((long : ℕ) → promised_at rooms2 long ≡ promised_at rooms1 long - last long) → AreBooked size reservations' rooms2
less_booked size reservations reservations' at found rooms rooms1 rooms2 full last booked low is less cuts first second long =
    let sum : sum_by (pieces_with size long) (remove reservations at) + pieces_with size long (get_or reservations at found) ≡ sum_by (pieces_with size long) reservations = sum_by-remove (pieces_with size long) reservations at found low in
    let it : pieces_with size long found ≡ pieces_with size long (get_or reservations at found) = ap (pieces_with size long) is in
    let rest : sum_by (pieces_with size long) reservations' ≡ sum_by (pieces_with size long) (remove reservations at) = ap (sum_by (pieces_with size long)) less in
    let a = booked long in
    let b = cuts long in
    let c = first long in
    let d = second long in
    omega (arith, sum, it, rest, a, b, c, d)

-- of each length as many buffers stay as may yet be needed
abbrev pub KeepsNeeded : (ℕ → ℕ) → List SizeClassView → List SizeClassView → Type 0
KeepsNeeded armed rooms rooms' = (long : ℕ) → (min (pieces_at rooms long) (promised_at rooms' long - armed long) ≤ pieces_at rooms' long) × (pieces_at rooms' long ≤ pieces_at rooms long)

pub withdrawn : (armed : ℕ → ℕ) (rooms rooms' : List SizeClassView) (pieces bytes out : ℕ) → out ≡ armed bytes → (1 ≤ pieces → pieces_at rooms' bytes ≡ min (pieces_at rooms bytes) (promised_at rooms' bytes - out))
    → ((long : ℕ) → of_length pieces bytes long ≡ 0 → pieces_at rooms' long ≡ pieces_at rooms long) → KeepsNeeded armed rooms rooms'
withdrawn armed rooms rooms' zero bytes out counted trimmed others long = same (others long (by_choice (bytes == long)))
  where
    by_choice : (own : _) → ◌≡◌ {A = ℕ} (if own then 0 else 0) 0
    by_choice true = refl
    by_choice false = refl

    same : pieces_at rooms' long ≡ pieces_at rooms long → (min (pieces_at rooms long) (promised_at rooms' long - armed long) ≤ pieces_at rooms' long) × (pieces_at rooms' long ≤ pieces_at rooms long)
    same e = (omega (arith, e), omega (arith, e))
withdrawn armed rooms rooms' (suc n) bytes out counted trimmed others long = elim (cases_Bool (bytes == long)) [
  | inl own ↦
      let e : bytes ≡ long = eqb-true bytes long own in
      let t : pieces_at rooms' bytes ≡ min (pieces_at rooms bytes) (promised_at rooms' bytes - armed bytes) = trimmed (omega arith) ∙ ap (λ (k : ℕ). min (pieces_at rooms bytes) (promised_at rooms' bytes - k)) counted in
      let u : pieces_at rooms' long ≡ min (pieces_at rooms long) (promised_at rooms' long - armed long) = subst (λ (k : ℕ). pieces_at rooms' k ≡ min (pieces_at rooms k) (promised_at rooms' k - armed k)) e t in
      (omega (arith, u), omega (arith, u))
  | inr apart ↦
      let e : pieces_at rooms' long ≡ pieces_at rooms long = others long (rw apart refl) in
      (omega (arith, e), omega (arith, e))
]

pub withdrawn_twice : (armed : ℕ → ℕ) (rooms rooms1 rooms2 : List SizeClassView) (last : ℕ → ℕ) → KeepsNeeded armed rooms rooms1 → KeepsNeeded armed rooms1 rooms2 → ((long : ℕ) → promised_at rooms2 long ≡ promised_at rooms1 long - last long)
    → KeepsNeeded armed rooms rooms2
withdrawn_twice armed rooms rooms1 rooms2 last first second less long =
    let a = (first long).0 in
    let b = (first long).1 in
    let c = (second long).0 in
    let d = (second long).1 in
    let e = less long in
    (omega (arith, a, b, c, d, e), omega (arith, b, d))

-- THE CALLS

pub releases_none : (old shown : JournalView) (request : ℕ) → shown ≡ old → position (is_of request) shown.reservations ≡ None → Releases old request old
releases_none old shown request shown_is none = subst (λ (j : JournalView). Releases j request j) shown_is (record {
  gone = rw none refl;
  kept = λ long. omega arith;
  no_more = λ long. omega arith;
  after = refl;
})

pub releases : (old shown : JournalView) (request at : ℕ) (reservations' : List Reservation) (room' : List SizeClassView) → shown ≡ old → position (is_of request) shown.reservations ≡ Some at → reservations' ≡ remove shown.reservations at
    → AreBooked shown.medium.sector_size reservations' room' → KeepsNeeded (armed_with shown.slots) shown.room room' → Releases old request (record shown { reservations = reservations'; room = room' })
releases old shown request at reservations' room' shown_is found less booked keeps = subst (λ (j : JournalView). Releases j request (record shown { reservations = reservations'; room = room' })) shown_is (record {
  gone = rw found less;
  kept = λ long. subst (λ (n : ℕ). min (pieces_at shown.room long) (n - armed_with shown.slots long) ≤ pieces_at room' long) (booked long) (keeps long).0;
  no_more = λ long. (keeps long).1;
  after = refl;
})

some_is : {A : Type 0} {x y : A} → Some x ≡ Some y → x ≡ y
some_is h = cc (h)

pub disarms_none : (old shown : JournalView) (tag : ℕ) (slots' : List (Option Armed)) → shown ≡ old → armed_at shown.slots tag ≡ None → slots' ≡ slice_set shown.slots tag None → Disarms old tag (record shown { slots = slots' })
disarms_none old shown tag slots' shown_is none after = subst (λ (j : JournalView). Disarms j tag (record shown { slots = slots' })) shown_is (record {
  no_less = λ long. omega arith;
  back = λ armed there. let both : None ≡ Some armed = sym none ∙ there in absurd (cc (both));
  after = rw after refl;
})

pub disarms : (old shown : JournalView) (tag : ℕ) (slots' : List (Option Armed)) (room' : List SizeClassView) (armed : Armed) → shown ≡ old → armed_at shown.slots tag ≡ Some armed → slots' ≡ slice_set shown.slots tag None
    → AreBooked shown.medium.sector_size shown.reservations shown.room → ((long : ℕ) → pieces_at shown.room long ≤ pieces_at room' long)
    → min (pieces_at shown.room (length armed.srb.data) + 1) (promised_at shown.room (length armed.srb.data)) ≤ pieces_at room' (length armed.srb.data) → Disarms old tag (record shown { slots = slots'; room = room' })
disarms old shown tag slots' room' armed shown_is there after booked no_less back = subst (λ (j : JournalView). Disarms j tag (record shown { slots = slots'; room = room' })) shown_is (record {
  no_less = no_less;
  back = λ other is.
      let same : armed ≡ other = some_is (sym there ∙ is) in
      subst (λ (a : Armed). min (pieces_at shown.room (length a.srb.data) + 1) (pieces_open shown (length a.srb.data)) ≤ pieces_at room' (length a.srb.data)) same
      (subst (λ (n : ℕ). min (pieces_at shown.room (length armed.srb.data) + 1) n ≤ pieces_at room' (length armed.srb.data)) (booked (length armed.srb.data)) back);
  after = rw after refl;
})
