-- The sectors of an act are determined by its bytes.
use Rattle.std.proofs.Common.{◌≡◌, ℕ, zero, suc, ◌+◌, ◌*◌, List, [], ◌∷◌, ◌++◌, refl, sym, ◌∙◌, ap, arith, length, take, drop, take-append-drop, length-append, length-take-le, length-drop}
use Rattle.std.specs.Prelude.{IsTrue, All, slice_range}
use Rattle.std.specs.List.{concat}
use Rattle.std.proofs.lemmas.List.{take_at, drop_at, nil_from_length}
use Rattle.std.proofs.lemmas.List.Elements.{All-nil, All-cons, All-head, All-tail}
use Rattle.sector.specs.declared.Extent.{Extent}
use Rattle.sector.specs.Extents.{IsSector}
use Rattle.srb.specs.declared.Kind.{Kind}
use Rattle.srb.specs.declared.Kind.TheVariants.{Read, Write, Flush}
use Rattle.machine.specs.declared.ClientRequest.{ClientRequest}
use Rattle.machine.specs.Rules.{Rules}
use Rattle.machine.specs.State.{State}
use Rattle.machine.specs.Sending.{Transfers, sectors_at}
use Rattle.judge.specs.Deciding.{chunked, sectors_moved}
use Rattle.judge.specs.Next.{arrays_after}

-- whole sectors
record AreChunks (count size : ℕ) (bytes : List ℕ) (sectors : List (List ℕ)) : Type 0 where
  many : length sectors ≡ count
  sized : All (IsSector size) sectors
  join : bytes ≡ concat sectors

chunks_are : (count size : ℕ) (bytes : List ℕ) → length bytes ≡ count * size → AreChunks count size bytes (chunked count size bytes)
chunks_are zero size bytes e = record { many = refl; sized = All-nil (IsSector size); join = nil_from_length bytes (none e) }
  where
    none : length bytes ≡ zero * size → length bytes ≡ 0
    none h = omega arith
chunks_are (suc count) size bytes e =
    let long : size + count * size ≡ length bytes = sum e in
    let first : length (take size bytes) ≡ size = length-take-le size bytes (omega arith) in
    let rest : length (drop size bytes) ≡ count * size = omega (arith, length-drop size bytes) in
    let more : AreChunks count size (drop size bytes) (chunked count size (drop size bytes)) = chunks_are count size (drop size bytes) rest in
    record {
      many = ap suc more.many;
      sized = All-cons (IsSector size) (take size bytes) (chunked count size (drop size bytes)) first more.sized;
      join = sym (take-append-drop size bytes) ∙ ap (λ ys. take size bytes ++ ys) more.join;
    }
  where
    sum : length bytes ≡ suc count * size → size + count * size ≡ length bytes
    sum h = omega arith

pub chunks_only : (size : ℕ) (sectors : List (List ℕ)) → All (IsSector size) sectors → (chunked (length sectors) size (concat sectors) ≡ sectors) × (length (concat sectors) ≡ length sectors * size)
chunks_only size [] sized = (refl, none size)
  where
    none : (size : ℕ) → 0 ≡ 0 * size
    none size = omega arith
chunks_only size (x ∷ xs) sized =
    let e : length x ≡ size = All-head (IsSector size) x xs sized in
    let more : (chunked (length xs) size (concat xs) ≡ xs) × (length (concat xs) ≡ length xs * size) = chunks_only size xs (All-tail (IsSector size) x xs sized) in
    (cc (take_at x (concat xs) size e, ap (λ ys. chunked (length xs) size ys) (drop_at x (concat xs) size e), more.0), sum (length xs) (length-append x (concat xs)) e more.1)
  where
    sum : (n : ℕ) → length (x ++ concat xs) ≡ length x + length (concat xs) → length x ≡ size → length (concat xs) ≡ n * size → length (x ++ concat xs) ≡ suc n * size
    sum n a b c = omega arith

-- what the machine asks of an act's bytes, by the sectors that they are
pub record Moves (rules : Rules) (s : State) (q : ClientRequest) (places : Extent) (kind : Kind) (bytes : List ℕ) (sectors : List (List ℕ)) (arrays' : List (List (List ℕ))) : Type 0 where
  pub covers : length sectors ≡ places.count
  pub moves : Transfers rules s q places kind sectors arrays'
  pub hands_over : bytes ≡ concat sectors

-- what the machine asks of an act's bytes
abbrev pub MayMove : Rules → State → ClientRequest → Extent → Kind → List ℕ → Type 0
MayMove rules s q places Read bytes =
    (length bytes ≡ places.count * rules.sector_size) × (IsTrue rules.faithful → chunked places.count rules.sector_size bytes ≡ sectors_at rules s q places)
MayMove rules s q places Write bytes =
    (length bytes ≡ places.count * rules.sector_size)
    × (bytes ≡ slice_range q.bytes (places.first * rules.sector_size) ((places.first + places.count) * rules.sector_size))
MayMove rules s q places Flush bytes = (places.count ≡ 1) × (length bytes ≡ 0)

module _ (rules : Rules) (s : State) (q : ClientRequest) (places : Extent) where
  pub moves_so : (kind : Kind) (bytes : List ℕ) → MayMove rules s q places kind bytes
      → Moves rules s q places kind bytes (sectors_moved rules places.count kind bytes) (arrays_after rules s.arrays q places kind (sectors_moved rules places.count kind bytes))
  moves_so Read bytes h =
      let chunks : AreChunks places.count rules.sector_size bytes (chunked places.count rules.sector_size bytes) = chunks_are places.count rules.sector_size bytes h.0 in
      record { covers = chunks.many; moves = (h.1, chunks.sized, refl); hands_over = chunks.join }
  moves_so Write bytes h =
      let chunks : AreChunks places.count rules.sector_size bytes (chunked places.count rules.sector_size bytes) = chunks_are places.count rules.sector_size bytes h.0 in
      record { covers = chunks.many; moves = (sym chunks.join ∙ h.1, chunks.sized, refl); hands_over = chunks.join }
  moves_so Flush bytes h = record { covers = sym h.0; moves = (refl, refl); hands_over = nil_from_length bytes h.1 }

  -- the sectors are the only ones
  pub moves_only : (kind : Kind) (bytes : List ℕ) (sectors : List (List ℕ)) (arrays' : List (List (List ℕ))) → Moves rules s q places kind bytes sectors arrays'
      → (sectors ≡ sectors_moved rules places.count kind bytes) × (arrays' ≡ arrays_after rules s.arrays q places kind (sectors_moved rules places.count kind bytes))
  moves_only Read bytes sectors arrays' h =
      let only : _ × _ = chunks_only rules.sector_size sectors h.moves.1 in
      let same : chunked places.count rules.sector_size bytes ≡ sectors = cc (h.covers, h.hands_over, only.0) in
      (sym same, h.moves.2)
  moves_only Write bytes sectors arrays' h =
      let only : _ × _ = chunks_only rules.sector_size sectors h.moves.1 in
      let same : chunked places.count rules.sector_size bytes ≡ sectors = cc (h.covers, h.hands_over, only.0) in
      (sym same, rw same h.moves.2)
  moves_only Flush bytes sectors arrays' h = (h.moves.0, h.moves.1)
