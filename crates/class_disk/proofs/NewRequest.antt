-- A new request, with all of its parts here: the machine above opens it, and runs from there on.
use Rattle.std.proofs.Common.{◌≡◌, ◌<◌, ◌≤◌, ◌⊎◌, ℕ, zero, suc, ◌+◌, ◌-◌, ◌*◌, ◌/◌, ◌%◌, inl, inr, Bool, false, List, [], ◌∷◌, refl, sym, ◌∙◌, ap, subst, arith, map}
use Rattle.class_disk.proofs.Common.{mod-add-div', mod-lt, range_with_len, IsPermutation-sym, IsPermutation-trans, IsPermutation-map, All-permutation, All-head, All-tail, Extent, Irp, ClientRequest, Kind, Read, Write, Flush, Request, Rules, place_count, as_client, State, OpenRequest, AreCounted, Opens, DeviceView, Carries, sent_bytes, Progress, part_count_of, part_request_of, TableView, opened, OpensAt, new_opened, Known, shown, above, AreCut, class_rules, IsTaking, not_refused, carries_bytes, sectors_are}
use Rattle.std.specs.Prelude.{IsPermutation, All, IsFalse}
use Rattle.split.specs.Pieces.{piece_of, piece_count}
use Rattle.class_disk.specs.declared.parts.Part.{Part}
use Rattle.class_disk.specs.declared.parts.Progress.TheVariants.{Ready, Below, Ended}
use Rattle.class_disk.specs.inside.Driver.{view_of, known, knowns, note, note_by, places_of, IsReadyPart, IsReadyBy, IsInHand, AreKept, IsHeld, IsCut, request_of_part}
use Rattle.class_disk.proofs.Acting.{shows}
use Rattle.class_disk.proofs.Orderly.{All-from_map}
use Rattle.class_disk.proofs.Cutting.{whole_or_more, begins_within}
use Rattle.class_disk.proofs.Submitting.{total, new_note, IsBefore, with_new, opens_new, taking_new}
use Rattle.class_disk.proofs.PortRules.{port_rules}

-- THE PARTS ARE READY

module _ (rules : Rules) where
  note_ready : (part : Part) (progress : Progress) → IsReadyBy progress → note_by rules part progress ≡ new_note (places_of rules part)
  note_ready part (Ready place) h = refl
  note_ready part (Below number spot) h = absurd h
  note_ready part (Ended ended) h = absurd h

  pub notes_ready : (parts : List Part) → All IsReadyPart parts → map (note rules) parts ≡ map new_note (map (places_of rules) parts)
  notes_ready [] all = refl
  notes_ready (part ∷ parts) all =
      let first : note rules part ≡ new_note (places_of rules part) = note_ready part part.progress (All-head IsReadyPart part parts all).1 in
      let rest = notes_ready parts (All-tail IsReadyPart part parts all) in
      ap (λ n. n ∷ map (note rules) parts) first ∙ ap (λ ns. new_note (places_of rules part) ∷ ns) rest

-- THE PLACES OF ALL PARTS ARE THOSE OF THE REQUEST

abbrev pub places_for : Rules → Request → ℕ
places_for rules r = place_count rules (as_client rules r [])

pub places_by_request : (rules : Rules) (parts : List Part) → map (places_of rules) parts ≡ map (places_for rules) (map request_of_part parts)
places_by_request rules [] = refl
places_by_request rules (part ∷ parts) = ap (λ ns. places_of rules part ∷ ns) (places_by_request rules parts)

-- this many sectors from this piece on
pub left_from : (extent : Extent) (limit a n : ℕ) → extent.count ≤ (a + n) * limit → total (map (λ k. (piece_of extent limit k).count) (range_with_len a n)) ≡ extent.count - a * limit
left_from extent limit a zero past = let e : (a + 0) * limit ≡ a * limit = ap (λ x. x * limit) (omega arith) in omega (arith, e)
left_from extent limit a (suc n) past =
    let later : total (map (λ k. (piece_of extent limit k).count) (range_with_len (a + 1) n)) ≡ extent.count - (a + 1) * limit =
    left_from extent limit (a + 1) n (subst (λ x. extent.count ≤ x * limit) (omega arith) past) in
    let next : (a + 1) * limit ≡ a * limit + limit = omega arith in
    omega (arith, later, next)

pub map_map : {X Y Z : Type 0} (f : Y → Z) (g : X → Y) (xs : List X) → map f (map g xs) ≡ map (λ x. f (g x)) xs
map_map f g [] = refl
map_map f g (x ∷ xs) = ap (λ ys. f (g x) ∷ ys) (map_map f g xs)

pub same_total : (f g : ℕ → ℕ) (xs : List ℕ) → ((k : ℕ) → f k ≡ g k) → total (map f xs) ≡ total (map g xs)
same_total f g [] each = refl
same_total f g (x ∷ xs) each = let a = each x in let e = same_total f g xs each in omega (arith, a, e)

-- all pieces are the whole
pub covered : (limit count : ℕ) → 0 < limit → count ≤ piece_count limit count * limit
covered limit count some =
    let e = mod-add-div' count limit in
    let r = mod-lt count some in
    elim (whole_or_more (count / limit) (count % limit)) [
      | inl (none, is) ↦ let m : piece_count limit count * limit ≡ count / limit * limit = ap (λ x. x * limit) is in omega arith
      | inr (more, is) ↦ let m : piece_count limit count * limit ≡ (count / limit + 1) * limit = ap (λ x. x * limit) is in omega arith
    ]

module _ (rules : Rules) (some : 0 < rules.sector_size) (some_limit : 0 < rules.max_transfer) (volume : ℕ) (extent : Extent) (through : Bool) where
  abbrev asked : Kind → Request
  asked kind = record { volume = volume; kind = kind; extent = extent; through = through }

  pieces_cover : total (map (λ k. (piece_of extent rules.max_transfer k).count * rules.sector_size / rules.sector_size) (range_with_len 0 (piece_count rules.max_transfer extent.count)))
      ≡ extent.count * rules.sector_size / rules.sector_size
  pieces_cover =
      let whole : total (map (λ k. (piece_of extent rules.max_transfer k).count) (range_with_len 0 (piece_count rules.max_transfer extent.count))) ≡ extent.count - 0 * rules.max_transfer =
      left_from extent rules.max_transfer 0 (piece_count rules.max_transfer extent.count)
      (subst (λ x. extent.count ≤ x * rules.max_transfer) (omega arith) (covered rules.max_transfer extent.count some_limit)) in
      same_total _ (λ k. (piece_of extent rules.max_transfer k).count) _ (λ k. sectors_are (piece_of extent rules.max_transfer k).count rules.sector_size some)
      ∙ whole ∙ omega arith ∙ sym (sectors_are extent.count rules.sector_size some)

  cut_covers : (kind : Kind) → total (map (λ k. places_for rules (part_request_of rules.max_transfer (asked kind) k)) (range_with_len 0 (part_count_of rules.max_transfer (asked kind)))) ≡ places_for rules (asked kind)
  cut_covers Read = pieces_cover
  cut_covers Write = pieces_cover
  cut_covers Flush = omega arith

-- the parts of a request have as many places as it has
pub parts_cover : (rules : Rules) (r : Request) (parts : List Part) → 0 < rules.sector_size → 0 < rules.max_transfer → IsCut rules r parts → total (map (places_of rules) parts) ≡ places_for rules r
parts_cover rules r parts some some_limit cut =
    ap total (places_by_request rules parts ∙ ap (map (places_for rules)) cut.parts_are ∙ map_map (places_for rules) (part_request_of rules.max_transfer r) _)
    ∙ cut_covers rules some some_limit r.volume r.extent r.through r.kind

-- EACH PART BUT THE LAST IS AS LONG AS A PIECE CAN BE

-- from this piece on
cut_from : (extent : Extent) (limit a n : ℕ) → 0 < limit → a + n ≡ piece_count limit extent.count → AreCut limit (map (λ k. (piece_of extent limit k).count) (range_with_len a n))
cut_from extent limit a zero some is = tt
cut_from extent limit a (suc n) some is =
    let within : a * limit < extent.count = begins_within limit extent.count a some (omega (arith, is)) in
    (omega (arith, within, some), omega arith, last n is, cut_from extent limit (a + 1) n some (omega (arith, is)))
  where
    last : (m : ℕ) → a + suc m ≡ piece_count limit extent.count
        → ((piece_of extent limit a).count ≡ limit) ⊎ (map (λ k. (piece_of extent limit k).count) (range_with_len (a + 1) m) ≡ [])
    last zero end = inr refl
    last (suc m) more =
        let within : (a + 1) * limit < extent.count = begins_within limit extent.count (a + 1) some (omega (arith, more)) in
        inl (omega (arith, within))

same_each : (f g : ℕ → ℕ) (xs : List ℕ) → ((k : ℕ) → f k ≡ g k) → map f xs ≡ map g xs
same_each f g [] each = refl
same_each f g (x ∷ xs) each = ap (λ n. n ∷ map f xs) (each x) ∙ ap (λ ns. g x ∷ ns) (same_each f g xs each)

module _ (rules : Rules) (some : 0 < rules.sector_size) (some_limit : 0 < rules.max_transfer) (volume : ℕ) (extent : Extent) (through : Bool) where
  pieces_cut : AreCut rules.max_transfer (map (λ k. (piece_of extent rules.max_transfer k).count * rules.sector_size / rules.sector_size) (range_with_len 0 (piece_count rules.max_transfer extent.count)))
  pieces_cut =
      subst (AreCut rules.max_transfer) (sym (same_each _ (λ k. (piece_of extent rules.max_transfer k).count) _ (λ k. sectors_are (piece_of extent rules.max_transfer k).count rules.sector_size some)))
      (cut_from extent rules.max_transfer 0 (piece_count rules.max_transfer extent.count) some_limit (omega arith))

  cut_by : (kind : Kind) → AreCut rules.max_transfer
      (map (λ k. places_for rules (part_request_of rules.max_transfer (record { volume = volume; kind = kind; extent = extent; through = through }) k)) (range_with_len 0 (part_count_of rules.max_transfer (record { volume = volume; kind = kind; extent = extent; through = through }))))
  cut_by Read = pieces_cut
  cut_by Write = pieces_cut
  cut_by Flush = (omega arith, some_limit, inr refl, tt)

-- the parts of a request are its pieces
pub parts_cut : (rules : Rules) (r : Request) (parts : List Part) → 0 < rules.sector_size → 0 < rules.max_transfer → IsCut rules r parts → AreCut rules.max_transfer (map (places_of rules) parts)
parts_cut rules r parts some some_limit cut =
    subst (AreCut rules.max_transfer) (sym (places_by_request rules parts ∙ ap (map (places_for rules)) cut.parts_are ∙ map_map (places_for rules) (part_request_of rules.max_transfer r) _))
    (cut_by rules some some_limit r.volume r.extent r.through r.kind)

-- WHAT IS SHOWN

pub taking_permuted : (rules : Rules) (first : State) (labels : List _) (s : State) (ks ks' : List Known) → IsPermutation ks ks' → IsTaking rules first labels s ks → IsTaking rules first labels s ks'
taking_permuted rules first labels s ks ks' p t = record {
  j = t.j;
  same = t.same;
  knows = IsPermutation-trans _ _ _ t.knows p;
  keeps = t.keeps;
  sound = t.sound;
  counted = t.counted;
  next_above = t.next_above;
  run = t.run;
}

-- the room that a packet came to
pub held_there : (rules : Rules) (b : TableView) (slot : ℕ) (irp : Irp) (b1 : TableView) (opens : OpensAt b slot irp b1) → AreKept rules b → IsHeld rules b.owners opens.held
held_there rules b slot irp b1 opens k = All-head (IsHeld rules b.owners) opens.held b1.held (All-permutation (IsHeld rules b.owners) _ _ opens.fewer k.in_hand)

module _ (v : DeviceView) (b : TableView) (h : IsInHand v b) (slot : ℕ) (irp : Irp) (b1 : TableView) (opens : OpensAt b slot irp b1)
    (high : (view_of v b).state.next_request ≤ irp.number) (stays : IsFalse (view_of v b).state.removing) (timely : IsFalse irp.cancelled)
    (carries : Carries false (class_rules v.rules) opens.held.request irp.payload)
    -- all parts have as many places as the request
    (covers : total (map (places_of (class_rules v.rules)) opens.held.parts) ≡ places_for (class_rules v.rules) opens.held.request) where
  abbrev rules : Rules
  rules = class_rules v.rules

  abbrev q : ClientRequest
  q = as_client rules opens.held.request (sent_bytes opens.held.request.kind irp.payload)

  abbrev counts : List ℕ
  counts = map (places_of rules) opens.held.parts

  -- the machine above, with the new request
  abbrev pub first_above : State
  first_above = above (with_new rules h.coupled.j irp.number q counts covers)

  before : All (IsBefore irp.number) h.coupled.j.divided
  before = All-from_map (λ (o : OpenRequest). o.number < irp.number) shown h.coupled.j.divided
      (All-permutation (λ (o : OpenRequest). o.number < irp.number) _ _ (IsPermutation-sym _ _ (shows v b h).requests)
      (λ i d low. let given = h.orderly.distinct.given i d low in omega arith))

  pub opens_above : Opens rules (view_of v b).state irp.number q first_above
  opens_above = opens_new rules h.coupled.j irp.number q counts covers (view_of v b).state (shows v b h) high
      (not_refused rules opens.held.request (sent_bytes opens.held.request.kind irp.payload) (view_of v b).state h.kept.sizes.whole.some_bytes h.port.uncounted ((held_there rules b slot irp b1 opens h.kept).cut opens.whole).bounded stays)
      (carries_bytes false rules opens.held.request irp.payload carries)

  pub taking_opened : IsTaking rules first_above [] v.state (knowns rules b1)
  taking_opened =
      let new : record { number = irp.number; request = q; cancelled = false; parts = map new_note counts } ≡ known rules (new_opened irp opens.held.request opens.held.parts) =
      ap (λ ns. record { number = irp.number; request = q; cancelled = false; parts = ns }) (sym (notes_ready rules opens.held.parts ((held_there rules b slot irp b1 opens h.kept).ready)))
      ∙ ap (λ c. record { number = irp.number; request = q; cancelled = c; parts = map (note rules) opens.held.parts }) (sym timely) in
      let cut : AreCut rules.max_transfer counts = parts_cut rules opens.held.request opens.held.parts h.kept.sizes.whole.some_bytes h.port.some_transfer ((held_there rules b slot irp b1 opens h.kept).cut opens.whole) in
      let permuted : IsPermutation (known rules (new_opened irp opens.held.request opens.held.parts) ∷ knowns rules b) (knowns rules b1) = IsPermutation-sym _ _ (IsPermutation-map (known rules) _ _ (IsPermutation-map opened _ _ opens.opens)) in
      taking_permuted rules first_above [] v.state _ _ (subst (λ (x : Known). IsPermutation (x ∷ knowns rules b) (knowns rules b1)) (sym new) permuted)
      (taking_new rules h.coupled.j irp.number q counts covers refl v.state (knowns rules b) h.coupled.same h.coupled.knows cut before h.coupled.keeps h.sound (subst (λ r. AreCounted r v.state) (port_rules h.port) h.counted))
