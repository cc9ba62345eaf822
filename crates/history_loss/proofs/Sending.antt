-- Starts, faults, returns and cancels make no event that clients see, and keep what a state shows of a sector.
use Rattle.std.proofs.Common.{◌≡◌, ◌≢◌, ◌<◌, ◌≤◌, ℕ, suc, ◌+◌, ◌-◌, List, [], ◌∷◌, ◌∙◌, ap, subst, arith, length, get_or, take, drop, replicate, length-take, length-drop}
use Rattle.std.specs.Prelude.{IsNone, IsPermutation, All, slice_range}
use Rattle.std.proofs.lemmas.List.{length-map, length-replicate, get_or-map, get_or-replicate, get_or-take, get_or-drop}
use Rattle.std.proofs.lemmas.List.Sorted.{All-permutation}
use Rattle.std.proofs.lemmas.List.Elements.{All-head, All-tail, All-cons, All-weaker}
use Rattle.sector.proofs.Splicing.{splice_at}
use Rattle.srb.specs.declared.Class.{Class}
use Rattle.srb.specs.declared.Class.TheVariants.{Good, Busy, Bad}
use Rattle.srb.specs.Fate.{Fresh, Acted, Faulted}
use Rattle.machine.specs.declared.ClientRequest.{ClientRequest}
use Rattle.machine.specs.Rules.{Rules, place_count}
use Rattle.machine.specs.State.{Mark, Untouched, Out, Done, Failed, Back, OpenRequest, Piece, State}
use Rattle.machine.specs.Sending.{IsUnsent, Starts, Faults, LeavesMarks, Returns, status_of_completion, sent, new_piece, with_fate, given_back}
use Rattle.machine.specs.Holding.{Cancels, as_cancelled}
use Rattle.machine.specs.Numbers.{request_number, AreDistinct}
use Rattle.machine.proofs.Permuting.{All-changed, distinct_first}
use Rattle.machine_laws.proofs.Serving.{HoldsPlaces, PieceFits, IsSized, leaves_right}
use Rattle.machine_laws.proofs.Sound.{Anything, IsSound}
use Rattle.history_loss.specs.Schedules.{Event, IsIdle}
use Rattle.history_loss.proofs.Mirroring.{Ending, IsMarkFor, IsFateFor, IsMirrored, IsFateOf, IsFollowed, Mirrors, Mirrors-same, with_requests}

-- a place that waits to be sent had no effect
unsent_none : (rules : Rules) (i : ℕ) (past : List Event) (E : Ending) (number : ℕ) (q : ClientRequest) (k : ℕ) (m : Mark) → IsUnsent m → IsMarkFor rules i past E number q k m → IsIdle rules i past number q k
unsent_none rules i past E number q k Untouched unsent h = h
unsent_none rules i past E number q k Back unsent h = h
unsent_none rules i past E number q k Out unsent h = absurd (cc (unsent))
unsent_none rules i past E number q k (Done sector) unsent h = absurd (cc (unsent))
unsent_none rules i past E number q k (Failed status) unsent h = absurd (cc (unsent))

unsent_at : (marks : List Mark) (first count k : ℕ) → first ≤ k → k < first + count → first + count ≤ length marks → All IsUnsent (slice_range marks first (first + count)) → IsUnsent (get_or marks k Untouched)
unsent_at marks first count k from below inside all =
    let low : k - first < first + count - first = omega arith in
    let long : k - first < length (take (first + count - first) (drop first marks)) = simp (length-take, length-drop) (omega arith) in
    let n : first + (k - first) ≡ k = omega arith in
    let e : get_or (slice_range marks first (first + count)) (k - first) Untouched ≡ get_or marks k Untouched =
    get_or-take (first + count - first) (drop first marks) (k - first) Untouched low ∙ get_or-drop first marks (k - first) Untouched ∙ ap (λ m. get_or marks m Untouched) n in
    subst IsUnsent e (all (k - first) Untouched long)

-- the marks that a piece leaves
left_fit : (rules : Rules) (i : ℕ) (past : List Event) (E : Ending) (number : ℕ) (q : ClientRequest) (piece : Piece) (class : Class) (marks : List Mark)
    → IsFateFor rules i past E piece.number number q piece.places piece.fate → LeavesMarks piece class marks
    → (j : ℕ) (x : Mark) → j < length marks → IsMarkFor rules i past E number q (piece.places.first + j) (get_or marks j x)
left_fit rules i past E number q piece Good marks fate h j x within =
    let acted : IsFateFor rules i past E piece.number number q piece.places (Acted h.0) = subst (λ f. IsFateFor rules i past E piece.number number q piece.places f) h.1 fate in
    let low : j < length h.0 = rw (length-map h.0 Done) at (rw h.2 at within) in
    rw h.2 (rw (get_or-map Done h.0 j [] x low) ((acted.0 j [] low).0, (acted.0 j [] low).1, acted.1, (acted.0 j [] low).2))
left_fit rules i past E number q piece Busy marks fate h j x within =
    let fresh : IsFateFor rules i past E piece.number number q piece.places Fresh = subst (λ f. IsFateFor rules i past E piece.number number q piece.places f) h.0 fate in
    let low : j < piece.places.count = rw (← (length-replicate piece.places.count Back)) (rw h.1 at within) in
    rw h.1 (rw (get_or-replicate piece.places.count j Back x low) (fresh.0 (piece.places.first + j) (omega arith) (omega arith)))
left_fit rules i past E number q piece (Bad completion) marks fate h j x within =
    let low : j < piece.places.count = rw (← (length-replicate piece.places.count (Failed (status_of_completion completion)))) (rw h.1 at within) in
    rw h.1 (rw (get_or-replicate piece.places.count j (Failed (status_of_completion completion)) x low) tt)

module _ (rules : Rules) (i : ℕ) (past : List Event) (E : Ending) where
  pub first_mirrored : (s : State) (o : OpenRequest) (others : List OpenRequest) → IsPermutation s.requests (o ∷ others) → Mirrors rules i past E s → IsMirrored rules i past E o
  first_mirrored s o others perm m = All-head (IsMirrored rules i past E) o others (All-permutation (IsMirrored rules i past E) _ _ perm m.requests)

  -- one request changed in its marks and flags
  changed : (s : State) (o o' : OpenRequest) (others : List OpenRequest) → IsPermutation s.requests (o ∷ others) → IsNone s.owed → (IsMirrored rules i past E o → IsMirrored rules i past E o')
      → ((piece : Piece) → IsFateOf rules i past E piece o → IsFateOf rules i past E piece o') → Mirrors rules i past E s → Mirrors rules i past E (record s { requests = o' ∷ others })
  changed s o o' others perm free keeps follows m =
      with_requests rules i past E s (o' ∷ others) free m (All-changed (IsMirrored rules i past E) s.requests o o' others perm m.requests keeps)
      (λ piece f. All-changed (IsFateOf rules i past E piece) s.requests o o' others perm f (follows piece))

  pub with_pieces : (s : State) (pieces : List Piece) (next : ℕ) → Mirrors rules i past E s → All (IsFollowed rules i past E s.requests) pieces
      → Mirrors rules i past E (record s { pieces = pieces; next_piece = next })
  with_pieces s pieces next m followed = record { given = m.given; next = m.next; requests = m.requests; pieces = followed; owed = m.owed }

  pub Mirrors-Starts : (s : State) (n tag : ℕ) (block : List ℕ) (s' : State) → AreDistinct s → IsNone s.owed → ((number : ℕ) → E (suc s.next_piece) number) → Mirrors rules i past E s → Starts rules s n tag block s' → Mirrors rules i past E s'
  Mirrors-Starts s n tag block s' d free late m h =
      let o : OpenRequest = h.owner in
      let piece : Piece = new_piece s tag o h.places in
      let mine : IsMirrored rules i past E o = first_mirrored s o h.others h.is_open m in
      let outs : List Mark = replicate h.places.count Out in
      let fits : h.places.first + length outs ≤ length o.marks = rw (length-replicate h.places.count Out) h.sendable.inside in
      let k1 : Mirrors rules i past E (record s { requests = sent h.places o ∷ h.others }) =
      changed s o (sent h.places o) h.others h.is_open free (λ x. record {
        is_open = x.is_open;
        admitted = x.admitted;
        marks = splice_at (IsMarkFor rules i past E o.number o.request) o.marks h.places.first outs fits x.marks (outs_fit o h.places.first h.places.count);
      }) (λ other f. f) m in
      let fresh : IsFateFor rules i past E s.next_piece o.number o.request h.places Fresh = (
        λ k from below.
            unsent_none rules i past E o.number o.request k (get_or o.marks k Untouched) (unsent_at o.marks h.places.first h.places.count k from below h.sendable.inside h.sendable.unsent)
            (mine.marks k Untouched (inside h.places.first h.places.count from below h.sendable.inside)),
        λ flush. late o.number,
      ) in
      let differ : All (λ x. x.number ≢ o.number) h.others = distinct_first request_number s.requests o h.others d.requests h.is_open in
      let followed : IsFollowed rules i past E (sent h.places o ∷ h.others) piece =
      All-cons (IsFateOf rules i past E piece) (sent h.places o) h.others (λ e. fresh) (All-weaker (λ x. x.number ≢ o.number) (IsFateOf rules i past E piece) (λ x other e. absurd (other e)) h.others differ) in
      Mirrors-same rules i past E s' _ h.after (with_pieces (record s { requests = sent h.places o ∷ h.others }) (piece ∷ s.pieces) (s.next_piece + 1) k1
      (All-cons (IsFollowed rules i past E (sent h.places o ∷ h.others)) piece s.pieces followed k1.pieces))
    where
      outs_fit : (o : OpenRequest) (first count j : ℕ) (x : Mark) → j < length (replicate count Out) → IsMarkFor rules i past E o.number o.request (first + j) (get_or (replicate count Out) j x)
      outs_fit o first count j x within = rw (get_or-replicate count j Out x (rw (← (length-replicate count Out)) within)) tt

      inside : (first count : ℕ) {k n : ℕ} → first ≤ k → k < first + count → first + count ≤ n → k < n
      inside first count a b c = omega arith

  pub Mirrors-Faults : (s : State) (n : ℕ) (s' : State) → Mirrors rules i past E s → Faults s n s' → Mirrors rules i past E s'
  Mirrors-Faults s n s' m h =
      Mirrors-same rules i past E s' _ h.after (with_pieces s (with_fate Faulted h.piece ∷ h.other_pieces) s.next_piece m
      (All-changed (IsFollowed rules i past E s.requests) s.pieces h.piece (with_fate Faulted h.piece) h.other_pieces h.fresh.is_out m.pieces (λ f k d low owner. tt)))

  pub Mirrors-Returns : (s : State) (n : ℕ) (class : Class) (s' : State) → IsSound rules s → IsNone s.owed → Mirrors rules i past E s → Returns s n class s' → Mirrors rules i past E s'
  Mirrors-Returns s n class s' sound free m h =
      let o : OpenRequest = h.owner in
      let piece : Piece = h.piece in
      let followed : All (IsFollowed rules i past E s.requests) (piece ∷ h.other_pieces) = All-permutation (IsFollowed rules i past E s.requests) _ _ h.is_out m.pieces in
      let mine : IsFateFor rules i past E piece.number o.number o.request piece.places piece.fate =
      All-head (IsFateOf rules i past E piece) o h.others (All-permutation (IsFateOf rules i past E piece) _ _ h.is_open (All-head (IsFollowed rules i past E s.requests) piece h.other_pieces followed)) h.is_owner in
      let f : PieceFits rules 0 (Anything s.arrays) s.next_request s.requests piece =
      All-head (PieceFits rules 0 (Anything s.arrays) s.next_request s.requests) piece h.other_pieces (All-permutation (PieceFits rules 0 (Anything s.arrays) s.next_request s.requests) _ _ h.is_out sound.1.pieces) in
      let long : length h.marks ≡ piece.places.count = (leaves_right (Anything s.arrays) 0 piece class h.marks f.fills f.right h.leaves).0 in
      let inside : piece.places.first + piece.places.count ≤ place_count rules o.request =
      All-head (HoldsPlaces rules piece) o h.others (All-permutation (HoldsPlaces rules piece) _ _ h.is_open f.inside) h.is_owner in
      let sized : length o.marks ≡ place_count rules o.request = (All-head (IsSized rules) o h.others (All-permutation (IsSized rules) _ _ h.is_open sound.1.sized)).places in
      let fits : piece.places.first + length h.marks ≤ length o.marks = rw (long, sized) inside in
      let less : Mirrors rules i past E (record s { pieces = h.other_pieces }) =
      with_pieces s h.other_pieces s.next_piece m (All-tail (IsFollowed rules i past E s.requests) piece h.other_pieces followed) in
      Mirrors-same rules i past E s' _ h.after (changed (record s { pieces = h.other_pieces }) o (given_back piece class h.marks o) h.others h.is_open free (λ x. record {
        is_open = x.is_open;
        admitted = x.admitted;
        marks = splice_at (IsMarkFor rules i past E o.number o.request) o.marks piece.places.first h.marks fits x.marks (left_fit rules i past E o.number o.request piece class h.marks mine h.leaves);
      }) (λ other g. g) less)

  pub Mirrors-Cancels : (s : State) (n : ℕ) (s' : State) → IsNone s.owed → Mirrors rules i past E s → Cancels s n s' → Mirrors rules i past E s'
  Mirrors-Cancels s n s' free m h =
      Mirrors-same rules i past E s' _ h.after
      (changed s h.request (as_cancelled h.request) h.others h.is_open free (λ x. record { is_open = x.is_open; admitted = x.admitted; marks = x.marks }) (λ piece f. f) m)
