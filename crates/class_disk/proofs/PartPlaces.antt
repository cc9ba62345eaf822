-- A part that goes down is the part of its request that begins at its place: all parts behind it are here.
use Rattle.std.proofs.Common.{◌≡◌, ◌<◌, ◌≤◌, ℕ, ◌+◌, ◌-◌, ◌*◌, ◌/◌, Bool, false, List, [], ◌∷◌, refl, sym, ◌∙◌, ap, subst, arith, map, length}
use Rattle.std.specs.Prelude.{All, slice_range}
use Rattle.class_disk.proofs.Common.{range_with_len, length-replicate, Extent, Payload, Kind, Read, Write, Flush, Request, Rules, as_client, State, Untouched, new_request, payload_bytes, sent_bytes, data_length, part_count_of, part_request_of, bytes_from, IsPartOf, below_rules, note, places_of, request_of_part, IsReadyPart, sectors_are}
use Rattle.split.specs.Pieces.{piece_of, piece_count}
use Rattle.class_disk.specs.declared.parts.Part.{Part}
use Rattle.class_disk.proofs.Cutting.{piece_within}
use Rattle.class_disk.proofs.FirstSending.{noted_places, AreHere}
use Rattle.class_disk.proofs.NewRequest.{left_from, map_map, same_total, covered, places_by_request, places_for, notes_ready}
use Rattle.class_disk.proofs.PieceParts.{read_part, write_part}
use Rattle.class_disk.proofs.PiecePlaces.{inside_bytes, range_within, range_none}
use Rattle.class_disk.proofs.Submitting.{total, new_note}

-- PARTS THAT ARE HERE

noted_new : (counts : List ℕ) → noted_places (map new_note counts) ≡ total counts
noted_new [] = refl
noted_new (count ∷ counts) = let e = noted_new counts in let l = length-replicate count Untouched in omega (arith, e, l)

here_new : (counts : List ℕ) → AreHere (map new_note counts)
here_new [] = tt
here_new (count ∷ counts) = here_new counts

module _ (rules : Rules) (parts : List Part)
    (all : All IsReadyPart parts) where
  pub ready_places : noted_places (map (note rules) parts) ≡ total (map (places_of rules) parts)
  ready_places = ap noted_places (notes_ready rules parts all) ∙ noted_new (map (places_of rules) parts)

  pub ready_here : AreHere (map (note rules) parts)
  ready_here = subst AreHere (sym (notes_ready rules parts all)) (here_new (map (places_of rules) parts))

  -- by what they ask for
  pub ready_total : (f : ℕ → Request) (first m : ℕ) → map request_of_part parts ≡ map f (range_with_len first m)
      → noted_places (map (note rules) parts) ≡ total (map (λ j. places_for rules (f j)) (range_with_len first m))
  ready_total f first m are =
      ready_places ∙ ap total (places_by_request rules parts ∙ ap (map (places_for rules)) are ∙ map_map (places_for rules) f (range_with_len first m))

-- WHERE A PART BEGINS

own_bytes : (x p n a m size : ℕ) (bytes whole : List ℕ) → p ≡ x * size → bytes ≡ slice_range whole p (p + n * size) → a + m ≤ n
    → slice_range bytes (a * size) ((a + m) * size) ≡ slice_range whole ((x + a) * size) ((x + a + m) * size)
own_bytes x p n a m size bytes whole at is inside =
    let ends : (a + m) * size ≡ a * size + m * size = omega arith in
    let from : p + a * size ≡ (x + a) * size = omega (arith, at) in
    let to : p + a * size + m * size ≡ (x + a + m) * size = omega (arith, at) in
    ap (λ b. slice_range b (a * size) ((a + m) * size)) is
    ∙ ap (slice_range (slice_range whole p (p + n * size)) (a * size)) ends
    ∙ range_within whole p (n * size) (a * size) (m * size) (inside_bytes a m n size inside)
    ∙ ap (λ i. slice_range whole i (p + a * size + m * size)) from
    ∙ ap (slice_range whole ((x + a) * size)) to

module _ (rules : Rules) (some : 0 < rules.sector_size) (some_limit : 0 < rules.max_transfer) (volume : ℕ) (extent : Extent) (through : Bool) where
  abbrev asked : Kind → Request
  asked kind = record { volume = volume; kind = kind; extent = extent; through = through }

  abbrev limit : ℕ
  limit = rules.max_transfer

  abbrev size : ℕ
  size = rules.sector_size

  abbrev piece_places : ℕ → ℕ
  piece_places j = (piece_of extent limit j).count * size / size

  begins_at : (k m at : ℕ) → k + 1 + m ≡ piece_count limit extent.count
      → at + (piece_places k + total (map piece_places (range_with_len (k + 1) m))) ≡ extent.count * size / size → at ≡ k * limit
  begins_at k m at many places =
      let w = piece_within extent limit k some_limit (omega (arith, many)) in
      let own : piece_places k ≡ (piece_of extent limit k).count = sectors_are (piece_of extent limit k).count size some in
      let whole : extent.count * size / size ≡ extent.count = sectors_are extent.count size some in
      let behind : total (map piece_places (range_with_len (k + 1) m)) ≡ extent.count - (k + 1) * limit =
      same_total piece_places (λ j. (piece_of extent limit j).count) (range_with_len (k + 1) m)
      (λ j. sectors_are (piece_of extent limit j).count size some)
      ∙ left_from extent limit (k + 1) m (subst (λ n. extent.count ≤ n * limit) (sym many) (covered limit extent.count some_limit)) in
      let next : (k + 1) * limit ≡ k * limit + limit = omega arith in
      let inside = w.inside in
      let more = w.some in
      omega (arith, own, whole, behind, next, inside, more, places)

  -- part k of the request goes down with its own bytes
  module _ (s : State) (runs : s.paused ≡ false) (next k m at : ℕ) (payload whole : Payload) where
    abbrev part : Kind → Request
    part kind = part_request_of limit (asked kind) k

    abbrev pub BringsItsOwn : Kind → Type 0
    BringsItsOwn kind = kind ≡ Write → payload_bytes payload
        ≡ slice_range (payload_bytes whole) (bytes_from size (asked kind) (part kind))
        (bytes_from size (asked kind) (part kind) + data_length size (part kind))

    pub part_lies : (kind : Kind) → k + 1 + m ≡ part_count_of limit (asked kind) → (kind ≡ Write → length (payload_bytes payload) ≡ data_length size (part kind)) → BringsItsOwn kind
        → at + (places_for rules (part kind) + total (map (λ j. places_for rules (part_request_of limit (asked kind) j)) (range_with_len (k + 1) m))) ≡ places_for rules
        (asked kind)
        → IsPartOf rules (as_client rules (asked kind) (sent_bytes kind whole)) at
        (new_request (below_rules rules) s next (as_client rules (part kind) (sent_bytes kind payload)))
    part_lies Read many own brings places =
        subst (λ n. IsPartOf rules (as_client rules (asked Read) []) n (new_request (below_rules rules) s next (as_client rules (part Read) [])))
        (sym (begins_at k m at many places))
        (read_part rules some volume extent through s runs next k [] [] (λ a n fits. range_none _ _ _ _))
    part_lies Write many own brings places =
        let from : (extent.first + k * limit - extent.first) * size ≡ (k * limit) * size = ap (λ n. n * size) (omega arith) in
        subst (λ n. IsPartOf rules (as_client rules (asked Write) (payload_bytes whole)) n (new_request (below_rules rules) s next (as_client rules (part Write) (payload_bytes payload))))
        (sym (begins_at k m at many places))
        (write_part rules some volume extent through s runs next k (payload_bytes payload) (payload_bytes whole) (own refl)
        (λ a n fits. own_bytes (k * limit) _ (piece_of extent limit k).count a n size (payload_bytes payload) (payload_bytes whole) from
        (brings refl) fits))
    part_lies Flush many own brings places =
        let first : at ≡ 0 = omega (arith, places) in
        record {
          kind = refl;
          through = refl;
          partition = refl;
          from = omega (arith, first);
          short = let l = length-replicate 1 Untouched in omega (arith, l, some_limit);
          timely = runs;
          bytes = λ a n fits. range_none _ _ _ _;
          long = λ is. absurd (cc (is));
        }
