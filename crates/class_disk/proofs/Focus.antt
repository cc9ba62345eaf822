-- A part below, taken out of all others.
use Rattle.std.proofs.Common.{◌≡◌, ◌⊎◌, inl, inr, ℕ, zero, suc, List, [], ◌∷◌, ◌++◌, refl, sym, ◌∙◌, ap, subst, arith, append_assoc}
use Rattle.std.specs.Prelude.{IsPermutation, Contains}
use Rattle.class_disk.proofs.Common.{IsPermutation-middle, IsPermutation-map, Contains-append_cases, OpenRequest, Piece, IsSame}
use Rattle.class_disk.specs.inside.Joint.{Part, Below, Here, Divided, Joint, gathered, requests_of, pieces_of, lifted_pieces, parts_requests, parts_pieces, requests_below, pieces_below, shown, below, above}
use Rattle.class_disk.proofs.CoupledSteps.{divided_with}
use Rattle.class_disk.proofs.AnyOrder.{second_first}

gathered-append : {X : Type 0} (of : Divided → List X) (es fs : List Divided) → gathered of (es ++ fs) ≡ gathered of es ++ gathered of fs
gathered-append of [] fs = refl
gathered-append of (e ∷ es) fs = ap (λ zs. of e ++ zs) (gathered-append of es fs) ∙ sym (append_assoc (of e) (gathered of es) (gathered of fs))

pub gathered_first : {X : Type 0} (of : Divided → List X) (es : List Divided) (e : Divided) (fs : List Divided) → IsPermutation (gathered of (es ++ (e ∷ fs))) (gathered of (e ∷ (es ++ fs)))
gathered_first of es e fs =
    subst (λ ws. IsPermutation ws (of e ++ gathered of (es ++ fs))) (sym (gathered-append of es (e ∷ fs)))
    (subst (λ ws. IsPermutation (gathered of es ++ (of e ++ gathered of fs)) (of e ++ ws)) (sym (gathered-append of es fs)) (second_first (gathered of es) (of e) (gathered of fs)))

module _ (j : Joint) (es : List Divided) (e : Divided) (fs : List Divided) where
  abbrev pub in_place : Joint
  in_place = record j { divided = es ++ (e ∷ fs) }

  abbrev pub first : Joint
  first = record j { divided = e ∷ (es ++ fs) }

  pub below_first : IsSame (below in_place) (below first)
  below_first = record {
    arrays = refl;
    next_request = refl;
    next_piece = refl;
    requests = gathered_first requests_of es e fs;
    pieces = gathered_first pieces_of es e fs;
    owed = refl;
    paused = refl;
    removing = refl;
    removed = refl;
  }

  pub above_first : IsSame (above in_place) (above first)
  above_first = record {
    arrays = refl;
    next_request = refl;
    next_piece = refl;
    requests = IsPermutation-map shown _ _ (IsPermutation-middle es e fs);
    pieces = gathered_first lifted_pieces es e fs;
    owed = refl;
    paused = refl;
    removing = refl;
    removed = refl;
  }

-- THE PART OF A REQUEST BELOW, AND OF A PIECE

-- where a request below is a part
pub record Found (divided : List Divided) (o : OpenRequest) : Type 0 where
  pub before : List Divided
  pub after : List Divided
  pub whole : Divided
  pub front : List Part
  pub back : List Part
  pub again : ℕ
  pub pieces : List Piece
  pub is_there : divided ≡ before ++ (divided_with whole front back o again pieces ∷ after)

find_part : (parts : List Part) (o : OpenRequest) → Contains (parts_requests parts) o
    → (front : List Part) × (back : List Part) × (again : ℕ) × (pieces : List Piece) × (parts ≡ front ++ (Below o again pieces ∷ back))
find_part [] o c = absurd (let w = c.1 in omega arith)
find_part (Below p again pieces ∷ parts) o (zero, within, is) = ([], parts, again, pieces, ap (λ z. Below z again pieces ∷ parts) is)
find_part (Below p again pieces ∷ parts) o (suc k, within, is) =
    let r = find_part parts o (k, omega arith, is) in
    (Below p again pieces ∷ r.0, r.1, r.2, r.3, ap (λ z. Below p again pieces ∷ z) r.4)
find_part (Here marks busy ∷ parts) o c =
    let r = find_part parts o c in
    (Here marks busy ∷ r.0, r.1, r.2, r.3, ap (λ z. Here marks busy ∷ z) r.4)

abbrev pub found_later : (e : Divided) (es : List Divided) (o : OpenRequest) → Found es o → Found (e ∷ es) o
found_later e es o f = record {
  before = e ∷ f.before;
  after = f.after;
  whole = f.whole;
  front = f.front;
  back = f.back;
  again = f.again;
  pieces = f.pieces;
  is_there = ap (λ zs. e ∷ zs) f.is_there;
}

pub find : (es : List Divided) (o : OpenRequest) → Contains (requests_below es) o → Found es o
find [] o c = absurd (let w = c.1 in omega arith)
find (e ∷ es) o c = found_in (Contains-append_cases (parts_requests e.parts) (requests_below es) o c) (λ there. find es o there)
  where
    found_in : Contains (parts_requests e.parts) o ⊎ Contains (requests_below es) o → (Contains (requests_below es) o → Found es o) → Found (e ∷ es) o
    found_in (inl here) rest =
        let r = find_part e.parts o here in
        record { before = []; after = es; whole = e; front = r.0; back = r.1; again = r.2; pieces = r.3; is_there = ap (λ parts. record e { parts = parts } ∷ es) r.4 }
    found_in (inr there) rest = found_later e es o (rest there)

-- where a piece below is one of a part
pub record FoundPiece (divided : List Divided) (p : Piece) : Type 0 where
  pub part : OpenRequest
  pub at : Found divided part
  pub there : Contains at.pieces p

find_piece_part : (parts : List Part) (p : Piece) → Contains (parts_pieces parts) p
    → (front : List Part) × (o : OpenRequest) × (back : List Part) × (again : ℕ) × (pieces : List Piece) × (parts ≡ front ++ (Below o again pieces ∷ back)) × Contains pieces p
find_piece_part [] p c = absurd (let w = c.1 in omega arith)
find_piece_part (Below o again pieces ∷ parts) p c = found_in (Contains-append_cases pieces (parts_pieces parts) p c) (λ there. find_piece_part parts p there)
  where
    found_in : Contains pieces p ⊎ Contains (parts_pieces parts) p → (Contains (parts_pieces parts) p → (front : List Part) × (o' : OpenRequest) × (back : List Part) × (again' : ℕ) × (pieces' : List Piece) × (parts ≡ front ++ (Below o' again' pieces' ∷ back)) × Contains pieces' p)
        → (front : List Part) × (o' : OpenRequest) × (back : List Part) × (again' : ℕ) × (pieces' : List Piece) × (Below o again pieces ∷ parts ≡ front ++ (Below o' again' pieces' ∷ back)) × Contains pieces' p
    found_in (inl here) rest = ([], o, parts, again, pieces, refl, here)
    found_in (inr there) rest = let r = rest there in (Below o again pieces ∷ r.0, r.1, r.2, r.3, r.4, ap (λ z. Below o again pieces ∷ z) r.5, r.6)
find_piece_part (Here marks busy ∷ parts) p c =
    let r = find_piece_part parts p c in
    (Here marks busy ∷ r.0, r.1, r.2, r.3, r.4, ap (λ z. Here marks busy ∷ z) r.5, r.6)

pub find_piece : (es : List Divided) (p : Piece) → Contains (pieces_below es) p → FoundPiece es p
find_piece [] p c = absurd (let w = c.1 in omega arith)
find_piece (e ∷ es) p c = found_in (Contains-append_cases (parts_pieces e.parts) (pieces_below es) p c) (λ there. find_piece es p there)
  where
    found_in : Contains (parts_pieces e.parts) p ⊎ Contains (pieces_below es) p → (Contains (pieces_below es) p → FoundPiece es p) → FoundPiece (e ∷ es) p
    found_in (inl here) rest =
        let r = find_piece_part e.parts p here in
        record {
          part = r.1;
          at = record { before = []; after = es; whole = e; front = r.0; back = r.2; again = r.3; pieces = r.4; is_there = ap (λ parts. record e { parts = parts } ∷ es) r.5 };
          there = r.6;
        }
    found_in (inr there) rest = let f = rest there in record { part = f.part; at = found_later e es f.part f.at; there = f.there }
