-- What a step does to one sector of the arrays.
use Rattle.machine_laws.proofs.Common.{◌≡◌, ◌<◌, ◌≤◌, ◌⊎◌, inl, inr, ℕ, ◌+◌, ◌-◌, ◌*◌, List, [], ◌∷◌, Option, Some, None, refl, sym, ◌∙◌, ap, subst, arith, length, take, drop, slice_get, lt_of_lt_of_le, cases_lt, cases_eq, get_or-set_same, get_or_past, All-contains, IsPermutation-sym, Contains-permutation, slice_get-get_or, splice, Start, Act, Fault, Return, Kind, Read, Write, Flush, ClientRequest, Label, Call, Device, Answer, Cancel, Pause, Resume, Remove, Surprise, Removed, Rules, as_faithful, is_transfer, first_sector, place_count, sectors_of, OpenRequest, Piece, State, Acts, Transfers, partition_number, array_of, array_at, NtStatus, refusal, Admits, FreeStep, OwingStep, Step, sector_at, sector_of, part_of, bytes_for, IsAct, WritesSector}
use Rattle.machine_laws.proofs.Splicing.{first_of, splice_inside}
use Rattle.machine_laws.proofs.Chunks.{chunk, concat_chunk, range_chunk}
use Rattle.machine_laws.proofs.Acted.{moves_or_leaves, Transfers-range}
use Rattle.machine_laws.proofs.Serving.{IsSized, act_inside, act_fits}
use Rattle.machine_laws.proofs.Sound.{Anything, nothing, IsSound}

pub part_is : (rules : Rules) (bytes : List ℕ) (place : ℕ) → part_of rules bytes place ≡ chunk rules.sector_size place bytes
part_is rules bytes place = let n : (place + 1) * rules.sector_size - place * rules.sector_size ≡ rules.sector_size = omega arith in ap (λ m. take m (drop (place * rules.sector_size) bytes)) n

pub bytes_are : (rules : Rules) (q : ClientRequest) (place : ℕ) → bytes_for rules q place ≡ chunk rules.sector_size place q.bytes
bytes_are rules q place = part_is rules q.bytes place

-- AN ACT

-- the sector is one of the piece's, and has the bytes of its owner's write
pub record Hits (rules : Rules) (o : OpenRequest) (piece : Piece) (arrays : List (List (List ℕ))) (p i : ℕ) : Type 0 where
  pub is_write : o.request.kind ≡ Write
  pub on_partition : partition_number o.request ≡ p
  pub place : ℕ
  pub is_sector : sector_of rules o.request place ≡ i
  pub from : piece.places.first ≤ place
  pub below : place < piece.places.first + piece.places.count
  pub stands : slice_get (array_at arrays p) i ≡ Some (bytes_for rules o.request place)

module _ (rules : Rules) (s : State) (n : ℕ) (bytes : List ℕ) (s' : State) (sound : IsSound rules s) (h : Acts rules s n bytes s') where
  fits : h.owner.request.kind ≡ Write → first_sector rules h.owner.request + h.piece.places.first + length h.sectors ≤ length (array_of s h.owner.request)
  fits w = act_fits rules 0 nothing Anything s n bytes s' sound.1 h w

  -- a write leaves its bytes there
  pub act_writes : Transfers (as_faithful rules) s h.owner.request h.piece.places h.owner.request.kind h.sectors h.arrays' → h.owner.request.kind ≡ Write → (k : ℕ) → k < h.piece.places.count
      → slice_get (array_at h.arrays' (partition_number h.owner.request)) (first_sector rules h.owner.request + h.piece.places.first + k) ≡ Some (bytes_for rules h.owner.request (h.piece.places.first + k))
  act_writes transfers w k low =
      let moves : Transfers (as_faithful rules) s h.owner.request h.piece.places Write h.sectors h.arrays' = subst (λ kind. Transfers (as_faithful rules) s h.owner.request h.piece.places kind h.sectors h.arrays') w transfers in
      let low' : k < length h.sectors = rw h.covers low in
      let there : partition_number h.owner.request < length s.arrays = known (partition_number h.owner.request) s.arrays _ _ _ (fits w) low' in
      let array : array_at h.arrays' (partition_number h.owner.request) ≡ splice (array_of s h.owner.request) (first_sector rules h.owner.request + h.piece.places.first) h.sectors =
      ap (λ arrays. array_at arrays (partition_number h.owner.request)) moves.2 ∙ get_or-set_same s.arrays (partition_number h.owner.request) _ [] there in
      ap (λ a. slice_get a (first_sector rules h.owner.request + h.piece.places.first + k)) array
      ∙ splice_inside (array_of s h.owner.request) (first_sector rules h.owner.request + h.piece.places.first) h.sectors k (fits w) low'
      ∙ slice_get-get_or h.sectors k [] low'
      ∙ ap Some (concat_chunk rules.sector_size h.sectors k [] moves.1 low'
      ∙ ap (λ ys. chunk rules.sector_size k ys) moves.0
      ∙ range_chunk rules.sector_size h.piece.places.first h.piece.places.count k h.owner.request.bytes low
      ∙ sym (bytes_are rules h.owner.request (h.piece.places.first + k)))
    where
      known : (p : ℕ) (arrays : List (List (List ℕ))) (from k n : ℕ) → from + n ≤ length (array_at arrays p) → k < n → p < length arrays
      known p arrays from k n long low =
          elim (cases_lt p (length arrays)) [
            | inl there ↦ there
            | inr past ↦ let none : array_at arrays p ≡ [] = get_or_past arrays p [] past in let long' : from + n ≤ 0 = rw none at long in absurd (omega arith)
          ]

  -- what it doesn't reach stays
  act_keeps : (p i : ℕ) → (h.owner.request.kind ≡ Write → p ≡ partition_number h.owner.request
      → (first_sector rules h.owner.request + h.piece.places.first + length h.sectors ≤ i) ⊎ (i + 1 ≤ first_sector rules h.owner.request + h.piece.places.first))
      → slice_get (array_at h.arrays' p) i ≡ slice_get (array_at s.arrays p) i
  act_keeps p i apart =
      sym (first_of (array_at h.arrays' p) i)
      ∙ ap (λ ys. slice_get ys 0) (Transfers-range rules s h.owner.request h.piece.places h.owner.request.kind h.sectors h.arrays' p i 1 fits apart h.moves)
      ∙ first_of (array_at s.arrays p) i

  pub act_sector : (p i : ℕ) → (slice_get (array_at h.arrays' p) i ≡ slice_get (array_at s.arrays p) i) ⊎ Hits rules h.owner h.piece h.arrays' p i
  act_sector p i =
      elim (moves_or_leaves rules s h.owner.request h.piece.places h.owner.request.kind h.sectors h.arrays' h.moves) [
        | inl moves ↦ by_kind moves h.owner.request.kind refl
        | inr same ↦ inl (ap (λ arrays. slice_get (array_at arrays p) i) same)
      ]
    where
      hits : Transfers (as_faithful rules) s h.owner.request h.piece.places h.owner.request.kind h.sectors h.arrays' → h.owner.request.kind ≡ Write → p ≡ partition_number h.owner.request → first_sector rules h.owner.request + h.piece.places.first ≤ i → i < first_sector rules h.owner.request + h.piece.places.first + h.piece.places.count
          → Hits rules h.owner h.piece h.arrays' p i
      hits moves w e from below =
          let k : ℕ = i - (first_sector rules h.owner.request + h.piece.places.first) in
          let is : first_sector rules h.owner.request + h.piece.places.first + k ≡ i = omega arith in
          let low : k < h.piece.places.count = omega arith in
          let there : slice_get (array_at h.arrays' (partition_number h.owner.request)) (first_sector rules h.owner.request + h.piece.places.first + k) ≡ Some (bytes_for rules h.owner.request (h.piece.places.first + k)) = act_writes moves w k low in
          record {
            is_write = w;
            on_partition = sym e;
            place = h.piece.places.first + k;
            is_sector = omega arith;
            from = omega arith;
            below = omega arith;
            stands = ap (λ m. slice_get (array_at h.arrays' m) i) e ∙ ap (λ m. slice_get (array_at h.arrays' (partition_number h.owner.request)) m) (sym is) ∙ there;
          }

      by_kind : Transfers (as_faithful rules) s h.owner.request h.piece.places h.owner.request.kind h.sectors h.arrays' → (kind : Kind) → h.owner.request.kind ≡ kind → (slice_get (array_at h.arrays' p) i ≡ slice_get (array_at s.arrays p) i) ⊎ Hits rules h.owner h.piece h.arrays' p i
      by_kind moves Read e = inl (act_keeps p i (λ w. cc (e, w)))
      by_kind moves Flush e = inl (act_keeps p i (λ w. cc (e, w)))
      by_kind moves Write w =
          elim (cases_eq p (partition_number h.owner.request)) [
            | inr other ↦ inl (act_keeps p i (λ w' e. absurd (other e)))
            | inl e ↦ elim (cases_lt i (first_sector rules h.owner.request + h.piece.places.first)) [
              | inl before ↦ inl (act_keeps p i (λ w' e'. inr (before_it before)))
              | inr from ↦ elim (cases_lt i (first_sector rules h.owner.request + h.piece.places.first + h.piece.places.count)) [
                | inl below ↦ inr (hits moves w e from below)
                | inr past ↦ inl (act_keeps p i (λ w' e'. inl (rw h.covers past)))
              ]
            ]
          ]
        where
          before_it : {a b : ℕ} → a < b → a + 1 ≤ b
          before_it low = omega arith

-- A STEP

abbrev pub IsActStep : Rules → State → Label → State → Type 0
IsActStep rules s label s' = (n : ℕ) × (bytes : List ℕ) × (label ≡ Device (Act n bytes)) × Acts rules s n bytes s'

-- the arrays stay, or the label is an act
abbrev pub Moved : Rules → State → Label → State → Type 0
Moved rules s label s' = (s'.arrays ≡ s.arrays) ⊎ IsActStep rules s label s'

admits_arrays : (rules : Rules) (s : State) (n : ℕ) (q : ClientRequest) (answer : Option NtStatus) (s' : State) → Admits rules s n q answer s' → s'.arrays ≡ s.arrays
admits_arrays rules s n q None s' h = h.after.arrays
admits_arrays rules s n q (Some status) s' h = h.after.arrays

-- only an act changes arrays
free_arrays : (rules : Rules) (s : State) (label : Label) (s' : State) → FreeStep rules s label s' → Moved rules s label s'
free_arrays rules s (Call n q) s' h = inl (admits_arrays rules s n q (refusal rules s q) s' h.admits)
free_arrays rules s (Device (Start n tag block)) s' h = inl h.after.arrays
free_arrays rules s (Device (Act n bytes)) s' h = inr (n, bytes, refl, h)
free_arrays rules s (Device (Fault n)) s' h = inl h.after.arrays
free_arrays rules s (Device (Return n class)) s' h = inl h.after.arrays
free_arrays rules s (Answer n status informed bytes) s' h = inl h.answers.after.arrays
free_arrays rules s (Cancel n) s' h = inl h.after.arrays
free_arrays rules s Pause s' h = inl h.after.arrays
free_arrays rules s Resume s' h = inl h.after.arrays
free_arrays rules s Remove s' h = inl h.after.arrays
free_arrays rules s Surprise s' h = inl h.drains.arrays
free_arrays rules s Removed s' h = inl h.after.arrays

owing_arrays : (s : State) (label : Label) (s' : State) → OwingStep s label s' → s'.arrays ≡ s.arrays
owing_arrays s (Answer n status informed bytes) s' h = h.after.arrays
owing_arrays s _ s' h = absurd h

pub step_arrays : (rules : Rules) (s : State) (label : Label) (s' : State) → Step rules s label s' → Moved rules s label s'
step_arrays rules s label s' (inl h) = free_arrays rules s label s' h.1
step_arrays rules s label s' (inr h) = inl (owing_arrays s label s' h)

pub some_first : (p : Piece) (ps : List Piece) → 0 < length (p ∷ ps)
some_first p ps = omega arith

abbrev pub is_act : (rules : Rules) (s : State) (label : Label) (s' : State) (n : ℕ) (bytes : List ℕ) → label ≡ Device (Act n bytes) → Acts rules s n bytes s' → IsAct s label
is_act rules s label s' n bytes e h = record {
  number = n;
  bytes = bytes;
  piece = h.piece;
  owner = h.owner;
  is_act = e;
  is_number = h.fresh.is_number;
  is_out = Contains-permutation _ _ h.piece (IsPermutation-sym _ _ h.fresh.is_out) (0, some_first h.piece h.other_pieces, refl);
  is_open = h.is_open;
  is_owner = h.is_owner;
}

-- a sector stays, or a write's piece acts on it
pub step_sector : (rules : Rules) (s : State) (label : Label) (s' : State) → IsSound rules s → Moved rules s label s' → (p i : ℕ)
    → (sector_at s' p i ≡ sector_at s p i) ⊎ ((r : ℕ) × WritesSector rules r p i s label s')
step_sector rules s label s' sound moved p i = by_arrays moved
  where
    by_hit : (n : ℕ) (bytes : List ℕ) → label ≡ Device (Act n bytes) → (a : Acts rules s n bytes s') → Hits rules a.owner a.piece a.arrays' p i → (r : ℕ) × WritesSector rules r p i s label s'
    by_hit n bytes e a hit =
        let sized : IsSized rules a.owner = All-contains (IsSized rules) s.requests a.owner sound.1.sized a.is_open in
        let inside : hit.place < place_count rules a.owner.request = lt_of_lt_of_le hit.below (act_inside rules 0 nothing Anything s n bytes s' sound.1 a) in
        let under : i < sectors_of rules (Some (partition_number a.owner.request)) = reach _ _ _ _ hit.is_sector inside (sized.inside (ap is_transfer hit.is_write)) in
        let w : WritesSector rules a.owner.number p i s label s' = record {
          act = is_act rules s label s' n bytes e a;
          is_request = refl;
          is_write = hit.is_write;
          on_partition = hit.on_partition;
          place = hit.place;
          is_sector = hit.is_sector;
          from = hit.from;
          below = hit.below;
          in_request = inside;
          in_partition = subst (λ m. i < sectors_of rules (Some m)) hit.on_partition under;
          stands = ap (λ arrays. slice_get (array_at arrays p) i) a.after.arrays ∙ hit.stands;
        } in
        (a.owner.number, w)
      where
        reach : (first place count sectors : ℕ) → first + place ≡ i → place < count → first + count ≤ sectors → i < sectors
        reach first place count sectors e a b = omega arith

    by_arrays : Moved rules s label s' → (sector_at s' p i ≡ sector_at s p i) ⊎ ((r : ℕ) × WritesSector rules r p i s label s')
    by_arrays (inl same) = inl (ap (λ arrays. slice_get (array_at arrays p) i) same)
    by_arrays (inr (n, bytes, e, a)) =
        elim (act_sector rules s n bytes s' sound a p i) [
          | inl same ↦ inl (ap (λ arrays. slice_get (array_at arrays p) i) a.after.arrays ∙ same)
          | inr hit ↦ inr (by_hit n bytes e a hit)
        ]
