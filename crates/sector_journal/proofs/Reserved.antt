-- A journal with more room.
use Rattle.sector_journal.proofs.Common.{◌≡◌, ◌≤◌, ◌<◌, ℕ, ◌+◌, ◌-◌, List, [], ◌∷◌, ◌++◌, length, get_or, slice_index_or, Result, Ok, Err, OnErr, inl, refl, ap, subst, ◌∙◌, arith, sum_by, remove, sum_by_push, sum_by-remove, Kind, Read, Write, Flush, Extent, MediumView, Reserves, Entered, Reservation, pieces_of, SizeClassView, pieces_at, JournalView, GainsRoom, HoldsNear}

pub reserves_none : (medium : MediumView) → Reserves medium medium
reserves_none medium = record { lasts = λ extent h. h; after = refl }

-- a medium in which nothing was reserved more
pub none_near : (medium : MediumView) (kind : Kind) (extent : Extent) → HoldsNear medium kind extent medium
none_near medium Read extent = refl
none_near medium Flush extent = refl
none_near medium Write extent = λ sector h. inl h

-- seen in the journal
pub near_seen : (shown old : JournalView) (kind : Kind) (extent : Extent) (medium' : MediumView) → shown ≡ old → HoldsNear shown.medium kind extent medium'
    → HoldsNear old.medium kind extent medium'
near_seen shown old kind extent medium' is near = subst (λ (j : JournalView). HoldsNear j.medium kind extent medium') is near

pub on_err : {A B P : Type 0} (result : Result A B) → P → OnErr result P
on_err (Ok x) p = tt
on_err (Err e) p = p

-- more room for entries and in the medium, and as many buffers
pub gains : (old shown : JournalView) (medium' : MediumView) (entered' : List Entered) (places' : ℕ) (reservations' : List Reservation) (room' : List SizeClassView) → shown ≡ old → Reserves shown.medium medium' → shown.places ≤ places'
    → entered' ≡ shown.entered → reservations' ≡ shown.reservations → ((long : ℕ) → pieces_at room' long ≡ pieces_at shown.room long)
    → GainsRoom old (record shown { medium = medium'; places = places'; entered = entered'; reservations = reservations'; room = room' })
gains old shown medium' entered' places' reservations' room' shown_is reserves more same same' buffers =
    subst (λ (j : JournalView). GainsRoom j (record shown { medium = medium'; places = places'; entered = entered'; reservations = reservations'; room = room' })) shown_is
    (record { medium = reserves; more = more; buffers = buffers; after = rw (same, same') refl })

-- a request that was answered, and its pieces
pub released : (reservations reservations' : List Reservation) (at : ℕ) (found : Reservation) (promised full last : ℕ) → at < length reservations → found ≡ slice_index_or reservations at found
    → reservations' ≡ remove reservations at → promised ≡ sum_by pieces_of reservations → full + last ≡ pieces_of found → promised - full - last ≡ sum_by pieces_of reservations'
released reservations reservations' at found promised full last low is less p q =
    let sum : sum_by pieces_of (remove reservations at) + pieces_of (get_or reservations at found) ≡ sum_by pieces_of reservations = sum_by-remove pieces_of reservations at found low in
    let it : pieces_of found ≡ pieces_of (get_or reservations at found) = ap pieces_of is in
    let rest : sum_by pieces_of reservations' ≡ sum_by pieces_of (remove reservations at) = ap (sum_by pieces_of) less in
    omega (arith, sum, it, rest, p, q)

-- a request that was admitted, and its pieces
pub admitted : (reservations items reservations' : List Reservation) (reservation : Reservation) (promised pieces cut wanted : ℕ) → promised ≡ sum_by pieces_of reservations → pieces ≡ cut → cut ≡ pieces_of reservation → wanted ≡ promised + pieces → items ≡ reservations
    → reservations' ≡ items ++ reservation ∷ [] → wanted ≡ sum_by pieces_of reservations'
admitted reservations items reservations' reservation promised pieces cut wanted p q r w same longer =
    let sum : sum_by pieces_of reservations' ≡ sum_by pieces_of items + pieces_of reservation = ap (sum_by pieces_of) longer ∙ sum_by_push pieces_of items reservation in
    let old : sum_by pieces_of items ≡ sum_by pieces_of reservations = ap (sum_by pieces_of) same in
    omega (arith, sum, old, p, q, r, w)
