-- Where the answer to a request stands.
use Rattle.traced.proofs.Common.{◌≡◌, ℕ, zero, suc, ◌+◌, ◌<◌, if◌then◌else◌, Bool, true, false, List, [], ◌∷◌, length, Option, Some, None, refl, sym, ap, ◌∙◌, subst, arith, All-cons, All-nil, Label, TraceEntry, HasNoAnswer}
use Rattle.std.specs.Prelude.{slice_get, All, MatchOption}
use Rattle.machine.specs.declared.Label.TheVariants.{Call, Device, Answer, Cancel, Pause, Resume, Remove, Surprise, Removed}
use Rattle.traced.specs.Entries.{owner_of, WasCalled, row_of, HasOwner, AreRowed, is_row, places, labels_of, IsAnswerTo, IsNoAnswerTo, IsAnswerAt}
use Rattle.traced.proofs.Noting.{some_is, same_row}

-- PLACES OF A ROW

-- each is one of the entries
pub place_within : (c from : ℕ) (es : List TraceEntry) (k place : ℕ) → slice_get (places c from es) k ≡ Some place → place < from + length es
place_within c from [] k place is = absurd (cc (is))
place_within c from (e ∷ es) k place is = go (is_row c e.row) k (λ j at. place_within c (suc from) es j place at) is
  where
    go : (b : Bool) (k : ℕ) → ((j : ℕ) → slice_get (places c (suc from) es) j ≡ Some place → place < suc from + length es)
        → slice_get (if b then from ∷ places c (suc from) es else places c (suc from) es) k ≡ Some place → place < from + suc (length es)
    go true zero more is = let e = some_is is in omega arith
    go true (suc k) more is = let less = more k is in omega arith
    go false k more is = let less = more k is in omega arith

-- and each entry of the row is at one of them
in_places : (c from : ℕ) (es : List TraceEntry) (i : ℕ) (e : TraceEntry) → slice_get es i ≡ Some e → is_row c e.row ≡ true → (k : ℕ) × (slice_get (places c from es) k ≡ Some (from + i))
in_places c from [] i e is row = absurd (cc (is))
in_places c from (f ∷ es) zero e is row = (0, ap (λ (b : Bool). slice_get (if b then from ∷ places c (suc from) es else places c (suc from) es) 0) here ∙ ap Some (let z : from ≡ from + 0 = omega arith in z))
  where
    here : is_row c f.row ≡ true
    here = ap (λ (g : TraceEntry). is_row c g.row) (some_is is) ∙ row
in_places c from (f ∷ es) (suc i) e is row = go (is_row c f.row) (in_places c (suc from) es i e is row)
  where
    go : (b : Bool) → (k : ℕ) × (slice_get (places c (suc from) es) k ≡ Some (suc from + i))
        → (k : ℕ) × (slice_get (if b then from ∷ places c (suc from) es else places c (suc from) es) k ≡ Some (from + suc i))
    go true h = (suc h.0, h.1 ∙ ap Some (let z : suc from + i ≡ from + suc i = omega arith in z))
    go false h = (h.0, h.1 ∙ ap Some (let z : suc from + i ≡ from + suc i = omega arith in z))

-- ANSWERS

rowed_at : (owners : List ℕ) (es : List TraceEntry) (i : ℕ) (e : TraceEntry) → AreRowed owners es → slice_get es i ≡ Some e → HasOwner owners e.label × (e.row ≡ row_of owners e.label)
rowed_at owners [] i e all is = absurd (cc (is))
rowed_at owners (f ∷ es) zero e all is = subst (λ (g : TraceEntry). HasOwner owners g.label × (g.row ≡ row_of owners g.label)) (some_is is) all.0
rowed_at owners (f ∷ es) (suc i) e all is = rowed_at owners es i e all.1 is

-- it is of a request that was called, and in the row of this one's client
of_owner : (owners : List ℕ) (number : ℕ) (label : Label) → HasOwner owners label → IsAnswerTo number label → WasCalled owners number × (row_of owners label ≡ owner_of owners number)
of_owner owners number (Answer n st i b) has is = (subst (WasCalled owners) is has, ap (owner_of owners) is)
of_owner owners number _ has is = absurd is

none_of_all : (number : ℕ) (es : List TraceEntry) → ((i : ℕ) (e : TraceEntry) → slice_get es i ≡ Some e → IsNoAnswerTo number e.label) → All (IsNoAnswerTo number) (labels_of es)
none_of_all number [] each = All-nil _
none_of_all number (e ∷ es) each = All-cons (IsNoAnswerTo number) e.label (labels_of es) (each 0 e refl) (none_of_all number es (λ i f is. each (suc i) f is))

pub not_called : (owners : List ℕ) (number : ℕ) (es : List TraceEntry) → AreRowed owners es → (WasCalled owners number → ⊥) → All (IsNoAnswerTo number) (labels_of es)
not_called owners number es rowed never = none_of_all number es (λ i e at is. never (of_owner owners number e.label (rowed_at owners es i e rowed at).0 is).0)

pub not_in_row : (owners : List ℕ) (number c : ℕ) (es : List TraceEntry) → AreRowed owners es → owner_of owners number ≡ Some c → HasNoAnswer number es (places c 0 es) 0 → All (IsNoAnswerTo number) (labels_of es)
not_in_row owners number c es rowed owner none = none_of_all number es each
  where
    each : (i : ℕ) (e : TraceEntry) → slice_get es i ≡ Some e → IsNoAnswerTo number e.label
    each i e at is =
        let here = rowed_at owners es i e rowed at in
        let row : is_row c e.row ≡ true = ap (is_row c) (here.1 ∙ (of_owner owners number e.label here.0 is).1 ∙ owner) ∙ same_row c c refl in
        let found = in_places c 0 es i e at row in
        let place : slice_get (places c 0 es) found.0 ≡ Some i = found.1 ∙ ap Some (let z : 0 + i ≡ i = omega arith in z) in
        none found.0 i e (omega arith) place at is

-- THE SEARCH

-- the row of a client, as it was handed on, has places of this trace alone
pub all_within : (c : ℕ) (es trace : List TraceEntry) (row : List ℕ) → trace ≡ es → row ≡ places c 0 es → (k place : ℕ) → slice_get row k ≡ Some place → place < length trace
all_within c es trace row trace_is row_is k place is =
    let less : place < 0 + length es = place_within c 0 es k place (ap (λ ps. slice_get ps k) (sym row_is) ∙ is) in
    subst (λ (t : List TraceEntry). place < length t) (sym trace_is) (omega arith)

pub is_found : (owners : List ℕ) (number c : ℕ) (es trace : List TraceEntry) (row : List ℕ) (result : Option ℕ) → AreRowed owners es → owner_of owners number ≡ Some c → trace ≡ es → row ≡ places c 0 es
    → MatchOption result (HasNoAnswer number trace row 0) (IsAnswerAt number trace) → MatchOption result (All (IsNoAnswerTo number) (labels_of es)) (IsAnswerAt number es)
is_found owners number c es trace row None rowed owner trace_is row_is found =
    not_in_row owners number c es rowed owner (subst (λ (t : List TraceEntry). HasNoAnswer number t (places c 0 es) 0) trace_is (subst (λ (ps : List ℕ). HasNoAnswer number trace ps 0) row_is found))
is_found owners number c es trace row (Some place) rowed owner trace_is row_is found = subst (λ (t : List TraceEntry). IsAnswerAt number t place) trace_is found
