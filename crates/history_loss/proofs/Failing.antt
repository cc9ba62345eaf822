-- A piece fails: an event for each of its places, on all sectors.
use Rattle.std.proofs.Common.{◌≡◌, ◌≢◌, ◌<◌, ◌≤◌, inl, inr, ℕ, zero, suc, ◌+◌, Bool, true, false, cond, List, [], ◌∷◌, refl, sym, ◌∙◌, ap, subst, arith, get_or}
use Rattle.std.specs.Prelude.{IsNone, IsPermutation, All, Contains, count_by}
use Rattle.std.specs.List.{remove}
use Rattle.std.proofs.lemmas.Bool.{cases_eq, cases_lt}
use Rattle.std.proofs.lemmas.List.{get_or_default}
use Rattle.std.proofs.lemmas.List.Sums.{sum_by-cons}
use Rattle.std.proofs.lemmas.List.Sorted.{IsPermutation-sym, IsPermutation-remove, All-permutation, Contains-permutation}
use Rattle.std.proofs.lemmas.List.Elements.{All-nil, All-cons, All-contains, All-head, All-tail, All-weaker}
use Rattle.srb.specs.Fate.{Fresh, Faulted}
use Rattle.machine.specs.Rules.{Rules, place_count}
use Rattle.machine.specs.State.{Untouched, Out, OpenRequest, Piece, State}
use Rattle.machine.specs.Sending.{Faults, with_fate}
use Rattle.machine.specs.Cutting.{mark_at}
use Rattle.machine.specs.Numbers.{request_number, piece_number, IsGiven, AreDistinct}
use Rattle.machine.specs.Pieces.{covers, IsCovered, IsPlaced, ArePlaced}
use Rattle.machine.proofs.Permuting.{distinct_first, is_first}
use Rattle.machine.proofs.Placed.{covers_inside, first_alone, IsCovered-permutation, is_out_there}
use Rattle.machine_laws.proofs.Serving.{HoldsPlaces, PieceFits}
use Rattle.machine_laws.proofs.Sound.{Anything, IsSound}
use Rattle.loss.specs.Held.{Held, changed_by, fault_changes}
use Rattle.loss.specs.Moved.{FailsOn, Table, work_of}
use Rattle.history_loss.specs.Schedules.{Event, Fails, FailsThere, IsIdle, failed, next_number, one_place}
use Rattle.history_loss.proofs.Mirroring.{IsFateFor, IsFateOf, IsFollowed, IsFilled, IsMirrored, IsOfPlace, IsTaken, Mirrors-event, idle_more}
use Rattle.history_loss.proofs.Sending.{Mirrors-Faults}
use Rattle.history_loss.proofs.Holding.{Ends, Grows, Holds, both_failing, ends_failing, ends_grows, grows_failing, holds_grows}
use Rattle.history_loss.proofs.Places.{fault_fails, hit_fault, hits_or_misses, missed_faults, misses_alone}
use Rattle.history_loss.proofs.Leading.{Next, Stage, first_event, no_event}

-- ONE OF EACH NUMBER

first_of : {X : Type 0} (xs : List X) (x : X) → Contains xs x → (others : List X) × IsPermutation xs (x ∷ others)
first_of xs x (k, low, is) = (remove xs k, IsPermutation-remove xs k x low (sym is))

-- one open request has each number
pub same_open : (s : State) (a b : OpenRequest) → AreDistinct s → Contains s.requests a → Contains s.requests b → b.number ≡ a.number → a ≡ b
same_open s a b d here there e =
    let p : (others : List OpenRequest) × IsPermutation s.requests (a ∷ others) = first_of s.requests a here in
    is_first request_number a p.0 b (distinct_first request_number s.requests a p.0 d.requests p.1) (Contains-permutation _ _ b p.1 there) e

-- and one piece
pub same_piece : (s : State) (a b : Piece) (others : List Piece) → AreDistinct s → IsPermutation s.pieces (a ∷ others) → Contains s.pieces b → b.number ≡ a.number → a ≡ b
same_piece s a b others d perm there e = is_first piece_number a others b (distinct_first piece_number s.pieces a others d.pieces perm) (Contains-permutation _ _ b perm there) e

-- what acted has filled its places
pub are_filled : (s : State) → ArePlaced s → All IsFilled s.pieces
are_filled s placed = All-weaker (IsPlaced s.requests) IsFilled (λ p x. x.filled) s.pieces placed.pieces

-- TAKEN PLACES

-- none of those that aren't counted passes
none_counted : (n k : ℕ) (pieces : List Piece) → count_by (covers n k) pieces ≡ 0 → All (λ piece. covers n k piece ≡ false) pieces
none_counted n k [] e = All-nil (λ piece. covers n k piece ≡ false)
none_counted n k (piece ∷ pieces) e =
    let both : (covers n k piece ≡ false) × (count_by (covers n k) pieces ≡ 0) =
    none_here (covers n k piece) (count_by (covers n k) pieces) (sym (sum_by-cons (λ x. cond (covers n k x) 1 0) piece pieces) ∙ e) in
    All-cons (λ x. covers n k x ≡ false) piece pieces both.0 (none_counted n k pieces both.1)
  where
    none_here : (b : Bool) (m : ℕ) → cond b 1 0 + m ≡ 0 → (b ≡ false) × (m ≡ 0)
    none_here true m e = absurd (omega arith)
    none_here false m e = (refl, omega arith)

-- the piece doesn't keep the place from having failed
abbrev Stale : ℕ → ℕ → Piece → Type 0
Stale n k p = p.owner ≡ n → (p.fate ≡ Faulted → ⊥) → p.places.first ≤ k → k < p.places.first + p.places.count → ⊥

-- once it failed, the places of a piece are taken
module _ (s : State) (piece : Piece) (others : List Piece) (owner : OpenRequest) (distinct : AreDistinct s) (placed : ArePlaced s) (perm : IsPermutation s.pieces (piece ∷ others))
    (there : Contains s.requests owner) (owns : owner.number ≡ piece.owner) where
  covered : IsCovered s.pieces owner
  covered = All-contains (IsCovered s.pieces) s.requests owner placed.places there

  pub are_taken : (s1 : State) (p1 : Piece) → IsPermutation s1.requests s.requests → IsPermutation s1.pieces (p1 ∷ others) → p1.fate ≡ Faulted
      → (k : ℕ) → piece.places.first ≤ k → k < piece.places.first + piece.places.count → IsTaken s1 owner.number k
  are_taken s1 p1 requests pieces stale k from below = record {
    marks = λ o here same d low.
        let is : owner ≡ o = same_open s owner o distinct there (Contains-permutation _ _ o requests here) same in
        let out : mark_at owner k ≡ Out = is_out_there s.pieces piece others owner k perm covered owns from below in
        get_or_default o.marks k d Untouched low ∙ sym (ap (λ (x : OpenRequest). mark_at x k) is) ∙ out;
    pieces = λ p here. All-contains (Stale owner.number k) s1.pieces p (All-permutation (Stale owner.number k) _ _ (IsPermutation-sym _ _ pieces) stale_all) here;
  }
    where
      apart : All (λ x. covers owner.number k x ≡ false) others
      apart = none_counted owner.number k others (first_alone piece others owner k (IsCovered-permutation s.pieces (piece ∷ others) owner perm covered) owns from below).1

      stale_all : All (Stale owner.number k) (p1 ∷ others)
      stale_all = All-cons (Stale owner.number k) p1 others (λ own fresh low high. fresh stale)
          (λ v d within own fresh low high. let yes : covers owner.number k (get_or others v d) ≡ true = covers_inside owner.number k (get_or others v d) own low high in absurd (cc (apart v d within, yes)))

-- EVENTS

-- the failures of places next to each other
abbrev pub fails : ℕ → ℕ → ℕ → List Event
fails number first zero = []
fails number first (suc count) = Fails number first ∷ fails number (suc first) count

module _ (rules : Rules) (i : ℕ) (s : State) (owner : OpenRequest) (there : Contains s.requests owner) (sound : IsSound rules s) (free : IsNone s.owed) (filled : All IsFilled s.pieces) where
  -- these places may fail yet
  pub record Failable (past : List Event) (first count : ℕ) : Type 0 where
    pub idle : (k : ℕ) → first ≤ k → k < first + count → IsIdle rules i past owner.number owner.request k
    pub inside : (k : ℕ) → first ≤ k → k < first + count → k < place_count rules owner.request
    pub taken : (k : ℕ) → first ≤ k → k < first + count → IsTaken s owner.number k

  given : (o : OpenRequest) → Contains s.requests o → o.number < s.next_request
  given o here = All-contains (IsGiven s.next_request) s.requests o sound.0.given here

  rest_failable : (past : List Event) (first count : ℕ) → Failable past first (suc count) → Failable (Fails owner.number first ∷ past) (suc first) count
  rest_failable past first count f = record {
    idle = λ k low high. idle_more rules i (Fails owner.number first) past owner.number owner.request k (record { effect = λ at. tt; failure = λ e same. absurd (omega (arith, same, low)) }) (f.idle k (omega (arith, low)) (omega (arith, high)));
    inside = λ k low high. f.inside k (omega (arith, low)) (omega (arith, high));
    taken = λ k low high. f.taken k (omega (arith, low)) (omega (arith, high));
  }

  failure_of : (past : List Event) (k : ℕ) → IsOfPlace rules i s past owner.number k (Fails owner.number k)
  failure_of past k = record {
    apart = λ o here j other. record { effect = λ at. tt; failure = λ e same. other (sym e) (sym same) };
    below = given owner there;
    no_answer = λ number. tt;
    next = refl;
  }

  module _ (past : List Event) (h t : Held) (stage : Stage rules i past h s t) where
    fails_there : (first count : ℕ) → Failable past first (suc count) → FailsThere rules i past h owner.number first (failed rules (next_number past) owner.request first i h)
    fails_there first count f =
        let mine : IsMirrored rules i past (Ends t h) owner = All-contains (IsMirrored rules i past (Ends t h)) s.requests owner stage.mirrors.requests there in
        record {
          request = owner.request;
          is_open = mine.is_open;
          admitted = mine.admitted;
          inside = f.inside first (omega arith) (omega arith);
          idle = f.idle first (omega arith) (omega arith);
          after = refl;
        }

    below_next : (o : OpenRequest) → Contains s.requests o → suc o.number ≤ next_number past
    below_next o here = let n = given o here in let e = stage.mirrors.next in omega arith

    -- the sector holds more, by the schedule alone
    grown : (first count : ℕ) → Failable past first (suc count) → Stage rules i (Fails owner.number first ∷ past) (failed rules (next_number past) owner.request first i h) s t
    grown first count f =
        let grows : Grows (next_number past) h (failed rules (next_number past) owner.request first i h) =
        grows_failing (next_number past) (fault_changes rules.sector_size (work_of rules owner.request (one_place first)) i) h (fault_fails rules i owner.request (one_place first)) in
        record {
          mirrors = Mirrors-event rules i past (Ends t h) (Ends t (failed rules (next_number past) owner.request first i h)) s owner.number first (Fails owner.number first)
              (f.taken first (omega arith) (omega arith)) (failure_of past first)
              (λ o here from e. ends_grows s.next_piece (next_number past) t h (failed rules (next_number past) owner.request first i h) grows from o.number (below_next o here) e) free filled stage.mirrors;
          holds = holds_grows s.next_piece (next_number past) t h (failed rules (next_number past) owner.request first i h) grows stage.holds;
        }

    -- it does by the table too
    turned : (first count : ℕ) → Failable past first (suc count) → (t' : Held) → t' ≡ changed_by s.next_piece (fault_changes rules.sector_size (work_of rules owner.request (one_place first)) i) t
        → Stage rules i (Fails owner.number first ∷ past) (failed rules (next_number past) owner.request first i h) s t'
    turned first count f t' is =
        subst (λ x. Stage rules i (Fails owner.number first ∷ past) (failed rules (next_number past) owner.request first i h) s x) (sym is) (record {
          mirrors = Mirrors-event rules i past (Ends t h)
              (Ends (changed_by s.next_piece (fault_changes rules.sector_size (work_of rules owner.request (one_place first)) i) t) (failed rules (next_number past) owner.request first i h))
              s owner.number first (Fails owner.number first) (f.taken first (omega arith) (omega arith)) (failure_of past first)
              (λ o here from e. ends_failing s.next_piece (next_number past) (fault_changes rules.sector_size (work_of rules owner.request (one_place first)) i) t h
              (fault_fails rules i owner.request (one_place first)) from o.number (below_next o here) e) free filled stage.mirrors;
          holds = both_failing s.next_piece (next_number past) (fault_changes rules.sector_size (work_of rules owner.request (one_place first)) i) t h
              (fault_fails rules i owner.request (one_place first)) stage.holds;
        })

  grow_all : (count first : ℕ) (past : List Event) (h t : Held) → Failable past first count → Stage rules i past h s t → Next rules i past h (fails owner.number first count) s t
  grow_all zero first past h t f stage = no_event rules i past h s t stage
  grow_all (suc count) first past h t f stage =
      first_event rules i past h (Fails owner.number first) (failed rules (next_number past) owner.request first i h) (fails owner.number (suc first) count) s t (fails_there past h t stage first count f)
      (grow_all count (suc first) (Fails owner.number first ∷ past) (failed rules (next_number past) owner.request first i h) t (rest_failable past first count f) (grown past h t stage first count f))

  -- the table changes as by the failure of one of the places
  pub turn_all : (count first k : ℕ) (past : List Event) (h t t' : Held) → first ≤ k → k < first + count
      → t' ≡ changed_by s.next_piece (fault_changes rules.sector_size (work_of rules owner.request (one_place k)) i) t
      → Failable past first count → Stage rules i past h s t → Next rules i past h (fails owner.number first count) s t'
  turn_all zero first k past h t t' low high is f stage = absurd (omega arith)
  turn_all (suc count) first k past h t t' low high is f stage = elim (cases_eq first k) [
    | inl here ↦
        first_event rules i past h (Fails owner.number first) (failed rules (next_number past) owner.request first i h) (fails owner.number (suc first) count) s t' (fails_there past h t stage first count f)
        (grow_all count (suc first) (Fails owner.number first ∷ past) (failed rules (next_number past) owner.request first i h) t' (rest_failable past first count f)
        (turned past h t stage first count f t' (subst (λ v. t' ≡ changed_by s.next_piece (fault_changes rules.sector_size (work_of rules owner.request (one_place v)) i) t) (sym here) is)))
    | inr other ↦
        first_event rules i past h (Fails owner.number first) (failed rules (next_number past) owner.request first i h) (fails owner.number (suc first) count) s t' (fails_there past h t stage first count f)
        (turn_all count (suc first) k (Fails owner.number first ∷ past) (failed rules (next_number past) owner.request first i h) t t' (further_on first k low other) (omega (arith, high)) is
        (rest_failable past first count f) (grown past h t stage first count f))
  ]
    where
      further_on : (first k : ℕ) → first ≤ k → first ≢ k → suc first ≤ k
      further_on first k low other = elim (cases_lt first k) [ inl less ↦ omega (arith, less) | inr more ↦ absurd (other (omega arith)) ]

-- A PIECE FAILS

module _ (rules : Rules) (s : State) (n : ℕ) (s' : State) (sound : IsSound rules s) (placed : ArePlaced s) (free : IsNone s.owed) (h : Faults s n s') (t t' : Table) (move : FailsOn rules s n t t') where
  is_piece : h.piece ≡ move.piece
  is_piece = same_piece s h.piece move.piece h.other_pieces sound.0 h.fresh.is_out move.out.is_out (move.out.is_number ∙ sym h.fresh.is_number)

  owns : move.owner.number ≡ h.piece.owner
  owns = move.out.is_owner ∙ sym (ap (λ (p : Piece). p.owner) is_piece)

  still_open : Contains s'.requests move.owner
  still_open = Contains-permutation _ _ move.owner (IsPermutation-sym _ _ h.after.requests) move.out.is_open

  fits : PieceFits rules 0 (Anything s.arrays) s.next_request s.requests h.piece
  fits = All-head (PieceFits rules 0 (Anything s.arrays) s.next_request s.requests) h.piece h.other_pieces
      (All-permutation (PieceFits rules 0 (Anything s.arrays) s.next_request s.requests) _ _ h.fresh.is_out sound.1.pieces)

  inside : h.piece.places.first + h.piece.places.count ≤ place_count rules move.owner.request
  inside = All-contains (HoldsPlaces rules h.piece) s.requests move.owner fits.inside move.out.is_open owns

  some : 0 < h.piece.places.count
  some = (All-head (IsPlaced s.requests) h.piece h.other_pieces (All-permutation (IsPlaced s.requests) _ _ h.fresh.is_out placed.pieces)).some

  after : (i : ℕ) → t' i ≡ changed_by s.next_piece (fault_changes rules.sector_size (work_of rules move.owner.request h.piece.places) i) (t i)
  after i = move.after i ∙ sym (ap (λ (p : Piece). changed_by s.next_piece (fault_changes rules.sector_size (work_of rules move.owner.request p.places) i) (t i)) is_piece)

  filled' : All IsFilled s'.pieces
  filled' = All-permutation IsFilled _ _ (IsPermutation-sym _ _ h.after.pieces) (All-cons IsFilled (with_fate Faulted h.piece) h.other_pieces tt
      (All-tail IsFilled h.piece h.other_pieces (All-permutation IsFilled _ _ h.fresh.is_out (are_filled s placed))))

  module _ (i : ℕ) (past : List Event) (g : Held) (sound' : IsSound rules s') (free' : IsNone s'.owed) (stage : Stage rules i past g s (t i)) where
    stage' : Stage rules i past g s' (t i)
    stage' = record {
      mirrors = Mirrors-Faults rules i past (Ends (t i) g) s n s' stage.mirrors h;
      holds = subst (λ m. Holds m (t i) g) (sym h.after.next_piece) stage.holds;
    }

    fresh : IsFateFor rules i past (Ends (t i) g) h.piece.number move.owner.number move.owner.request h.piece.places Fresh
    fresh =
        let followed : IsFollowed rules i past (Ends (t i) g) s.requests h.piece =
        All-head (IsFollowed rules i past (Ends (t i) g) s.requests) h.piece h.other_pieces (All-permutation (IsFollowed rules i past (Ends (t i) g) s.requests) _ _ h.fresh.is_out stage.mirrors.pieces) in
        subst (λ f. IsFateFor rules i past (Ends (t i) g) h.piece.number move.owner.number move.owner.request h.piece.places f) h.fresh.is_fresh
        (All-contains (IsFateOf rules i past (Ends (t i) g) h.piece) s.requests move.owner followed move.out.is_open owns)

    failable : Failable rules i s' move.owner still_open sound' free' filled' past h.piece.places.first h.piece.places.count
    failable = record {
      idle = fresh.0;
      inside = λ k low high. let fit = inside in omega (arith, fit, high);
      taken = are_taken s h.piece h.other_pieces move.owner sound.0 placed h.fresh.is_out move.out.is_open owns s' (with_fate Faulted h.piece) h.after.requests h.after.pieces refl;
    }

    at_place : (k : ℕ) → fault_changes rules.sector_size (work_of rules move.owner.request (one_place k)) i ≡ fault_changes rules.sector_size (work_of rules move.owner.request h.piece.places) i
        → t' i ≡ changed_by s'.next_piece (fault_changes rules.sector_size (work_of rules move.owner.request (one_place k)) i) (t i)
    at_place k same =
        after i ∙ sym (ap (λ changes. changed_by s.next_piece changes (t i)) same)
        ∙ sym (ap (λ m. changed_by m (fault_changes rules.sector_size (work_of rules move.owner.request (one_place k)) i) (t i)) h.after.next_piece)

    -- each of its places fails, as the schedules of all sectors have it
    pub faults_next : Next rules i past g (fails move.owner.number h.piece.places.first h.piece.places.count) s' (t' i)
    faults_next = elim (hits_or_misses rules i move.owner.request h.piece.places) [
      | inl found ↦
          turn_all rules i s' move.owner still_open sound' free' filled' h.piece.places.count h.piece.places.first found.0 past g (t i) (t' i) found.1.hit.0 found.1.hit.1
          (at_place found.0 (hit_fault rules i move.owner.request h.piece.places found.0 found.1)) failable stage'
      | inr misses ↦
          let one = some in
          turn_all rules i s' move.owner still_open sound' free' filled' h.piece.places.count h.piece.places.first h.piece.places.first past g (t i) (t' i) (omega arith) (omega arith)
          (at_place h.piece.places.first (missed_faults rules i move.owner.request h.piece.places h.piece.places.first misses
          (misses_alone rules i move.owner.request h.piece.places h.piece.places.first (omega arith) (omega arith) misses))) failable stage'
    ]
