-- What a piece out says of its owner, and a place that is out of its piece.
use Rattle.std.proofs.Common.{◌≡◌, ◌<◌, ◌≤◌, inl, inr, ℕ, suc, ◌==◌, ◌+◌, Bool, true, false, cond, List, [], ◌∷◌, refl, sym, ◌∙◌, ap, arith, length, eqb-true}
use Rattle.std.specs.Prelude.{IsPermutation, Any, Contains, IsTrue, count_by}
use Rattle.std.specs.List.{remove}
use Rattle.std.proofs.lemmas.Bool.{and_parts, cases_Bool}
use Rattle.std.proofs.lemmas.List.{get_or_default}
use Rattle.std.proofs.lemmas.List.Folds.{Any-from_list_any}
use Rattle.std.proofs.lemmas.List.Sums.{sum_by-cons}
use Rattle.std.proofs.lemmas.List.Sorted.{IsPermutation-remove}
use Rattle.std.proofs.lemmas.List.Elements.{All-contains}
use Rattle.machine.specs.State.{Untouched, Out, OpenRequest, Piece, State}
use Rattle.machine.specs.Settled.{is_out, has_out}
use Rattle.machine.specs.Pieces.{covers, IsCovered, IsOwner, IsPlaced, ArePlaced}
use Rattle.machine.specs.Cutting.{mark_at}
use Rattle.machine.proofs.Placed.{is_out_there, is_inside}

-- the piece is of this request, whose places there are out
pub record Owns (o : OpenRequest) (p : Piece) : Type 0 where
  pub number : o.number ≡ p.owner
  pub some : 0 < p.places.count
  pub inside : p.places.first + p.places.count ≤ length o.marks
  pub out : (i : ℕ) → p.places.first ≤ i → i < p.places.first + p.places.count → mark_at o i ≡ Out

further : (n i : ℕ) (p : Piece) (ps : List Piece) → (q : Piece) × Contains ps q × (covers n i q ≡ true) → (q : Piece) × Contains (p ∷ ps) q × (covers n i q ≡ true)
further n i p ps (q, (k, low, is), is_so) = (q, (suc k, omega arith, is), is_so)

fewer : (b : Bool) (m : ℕ) → b ≡ false → 0 < cond b 1 0 + m → 0 < m
fewer true m e h = cc (e)
fewer false m e h = omega arith

count_first : (n i : ℕ) (p : Piece) (ps : List Piece) → count_by (covers n i) (p ∷ ps) ≡ cond (covers n i p) 1 0 + count_by (covers n i) ps
count_first n i p ps = sum_by-cons (λ x. cond (covers n i x) 1 0) p ps

-- one of the pieces that are counted
counted : (n i : ℕ) (ps : List Piece) → 0 < count_by (covers n i) ps → (p : Piece) × Contains ps p × (covers n i p ≡ true)
counted n i [] h = absurd (omega arith)
counted n i (p ∷ ps) h = elim (cases_Bool (covers n i p)) [
  | inl is_so ↦ (p, (0, omega arith, refl), is_so)
  | inr not_this ↦ further n i p ps (counted n i ps (fewer (covers n i p) (count_by (covers n i) ps) not_this (rw count_first at h)))
]

covers_owner : (n i : ℕ) (p : Piece) → covers n i p ≡ true → p.owner ≡ n
covers_owner n i p h = eqb-true p.owner n (and_parts (p.owner == n) _ h).0

module _ (s : State) (k : ArePlaced s) where
  -- of this number
  pub owns : (o : OpenRequest) (p : Piece) → Contains s.requests o → Contains s.pieces p → o.number ≡ p.owner → Owns o p
  owns o p is_open (j, low, is) owner =
      let perm : IsPermutation s.pieces (p ∷ remove s.pieces j) = IsPermutation-remove s.pieces j p low (sym is) in
      let covered : IsCovered s.pieces o = All-contains (IsCovered s.pieces) s.requests o k.places is_open in
      let placed : IsPlaced s.requests p = All-contains (IsPlaced s.requests) s.pieces p k.pieces (j, low, is) in
      record {
        number = owner;
        some = placed.some;
        inside = is_inside s.pieces p (remove s.pieces j) o perm covered owner placed.some;
        out = λ i from below. is_out_there s.pieces p (remove s.pieces j) o i perm covered owner from below;
      }

  -- each piece out has an open owner
  pub owner_of : (p : Piece) → Contains s.pieces p → (o : OpenRequest) × Contains s.requests o × Owns o p
  owner_of p there = by_owner (All-contains (IsPlaced s.requests) s.pieces p k.pieces there).owned
    where
      by_owner : Any (IsOwner p) s.requests → (o : OpenRequest) × Contains s.requests o × Owns o p
      by_owner (j, o, low, is, owner) = (o, (j, low, is), owns o p (j, low, is) there owner)

  -- a place that is out has its piece
  pub piece_at : (o : OpenRequest) (i : ℕ) → Contains s.requests o → is_out (mark_at o i) ≡ true → (p : Piece) × Contains s.pieces p × (covers o.number i p ≡ true)
  piece_at o i is_open out =
      let covered : IsCovered s.pieces o = All-contains (IsCovered s.pieces) s.requests o k.places is_open in
      counted o.number i s.pieces (rw (covered i, out) (omega arith))

  pub piece_of : (o : OpenRequest) → Contains s.requests o → IsTrue (has_out o) → (p : Piece) × Contains s.pieces p × (p.owner ≡ o.number)
  piece_of o is_open out = found (Any-from_list_any is_out o.marks out)
    where
      found : Any (λ m. is_out m ≡ true) o.marks → (p : Piece) × Contains s.pieces p × (p.owner ≡ o.number)
      found (i, m, low, is, is_so) =
          let there : is_out (mark_at o i) ≡ true = ap is_out (get_or_default o.marks i Untouched m low ∙ is) ∙ is_so in
          let at : (p : Piece) × Contains s.pieces p × (covers o.number i p ≡ true) = piece_at o i is_open there in
          (at.0, at.1, covers_owner o.number i at.0 at.2)
