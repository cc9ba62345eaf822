-- A part that came back busy goes down again while restarts are left.
use Rattle.std.proofs.Common.{◌≡◌, ◌<◌, ◌≤◌, ℕ, suc, ◌+◌, List, [], ◌∷◌, ◌++◌, arith, map, get_or}
use Rattle.std.specs.Prelude.{All}
use Rattle.class_disk.proofs.Common.{All-head, All-tail, All-contains, Contains-append_left, Contains-get_or, Rules, Mark, Untouched, Out, Done, Failed, Back, OpenRequest, Piece, State, HavePlaces, IsBusyBy, AreCounted, restarts, one_if_back, begins_back, parts_back, noted_busy}
use Rattle.class_disk.specs.inside.Joint.{Part, Below, Here, Note, Sent, Kept, note_of, parts_requests, parts_busy}
use Rattle.class_disk.proofs.Coupled.{busy-append}
use Rattle.class_disk.proofs.InPieces.{back-append}

-- AS MANY BUSY RETURNS BELOW AS PARTS THAT CAME BACK

-- a request below is counted as busy only where it begins with a place that came back
abbrev pub IsBusyOnce : OpenRequest → Type 0
IsBusyOnce o = o.busy_returns ≤ begins_back o.marks

busy_mark : (busy : ℕ) (mark : Mark) → IsBusyBy busy mark → busy ≤ one_if_back mark
busy_mark busy Untouched h = omega (arith, h)
busy_mark busy Out h = omega (arith, h)
busy_mark busy (Done sector) h = omega (arith, h)
busy_mark busy (Failed status) h = omega (arith, h)
busy_mark busy Back h = omega (arith, h)

pub busy_once : (rules : Rules) (s : State) → HavePlaces s → AreCounted rules s → All IsBusyOnce s.requests
busy_once rules s places counted = λ k d low. busy_mark _ _ ((counted k d low).busy 0 Untouched (places k d low))

pub once_of : (xs ys : List OpenRequest) → All IsBusyOnce (xs ++ ys) → All IsBusyOnce xs
once_of xs ys all = λ i d low. All-contains IsBusyOnce (xs ++ ys) (get_or xs i d) all (Contains-append_left xs ys (get_or xs i d) (Contains-get_or xs i d low))

-- as many of these notes are of parts that are here and came back
abbrev pub noted_back : List Note → ℕ
noted_back [] = 0
noted_back (Sent number again ∷ notes) = noted_back notes
noted_back (Kept marks busy ∷ notes) = begins_back marks + noted_back notes

pub busy_noted : (parts : List Part) → All IsBusyOnce (parts_requests parts) → parts_busy parts + noted_back (map note_of parts) ≤ noted_busy (map note_of parts) + parts_back parts
busy_noted [] once = omega arith
busy_noted (Below o again pieces ∷ parts) once =
    let one : o.busy_returns ≤ begins_back o.marks = All-head IsBusyOnce o (parts_requests parts) once in
    let rest = busy_noted parts (All-tail IsBusyOnce o (parts_requests parts) once) in
    omega (arith, one, rest)
busy_noted (Here marks busy ∷ parts) once = let rest = busy_noted parts once in omega (arith, rest)

at_most_one : (mark : Mark) → one_if_back mark ≤ 1
at_most_one Untouched = omega arith
at_most_one Out = omega arith
at_most_one (Done sector) = omega arith
at_most_one (Failed status) = omega arith
at_most_one Back = omega arith

-- so with a restart less than there are, a part may go down again in a packet of its own
pub few_again : (rules : Rules) (front back : List Part) (o o' : OpenRequest) (again : ℕ) (pieces pieces' : List Piece) → All IsBusyOnce (parts_requests (front ++ (Below o again pieces ∷ back))) → o.busy_returns ≡ 1 → o'.busy_returns ≡ 0
    → noted_busy (map note_of (front ++ (Below o again pieces ∷ back))) < noted_back (map note_of (front ++ (Below o again pieces ∷ back))) + restarts rules
    → parts_busy (front ++ (Below o' (suc again) pieces' ∷ back)) ≤ parts_back (front ++ (Below o' (suc again) pieces' ∷ back)) + restarts rules
few_again rules front back o o' again pieces pieces' once was is few =
    let all = busy_noted (front ++ (Below o again pieces ∷ back)) once in
    let busy = busy-append front (Below o again pieces ∷ back) in
    let busy' = busy-append front (Below o' (suc again) pieces' ∷ back) in
    let came = back-append front (Below o again pieces ∷ back) in
    let came' = back-append front (Below o' (suc again) pieces' ∷ back) in
    let one = at_most_one (get_or o.marks 0 Untouched) in
    omega (arith, all, busy, busy', came, came', one, was, is, few)
