-- What has done nothing yet may act with the bytes of its SRB.
use Rattle.std.proofs.Common.{◌≡◌, ◌<◌, ◌≤◌, inl, inr, ℕ, zero, suc, ◌+◌, ◌*◌, Bool, true, false, List, [], ◌∷◌, ◌++◌, Some, refl, sym, subst, ap, ◌∙◌, arith, map, length, take, drop, length-take, length-drop}
use Rattle.std.specs.Prelude.{◌⊎◌, All, IsFalse, IsPermutation, IsTrue, get_or, remove, slice_range, if◌then◌else◌}
use Rattle.std.specs.List.{concat}
use Rattle.std.proofs.lemmas.List.{get_or_default, take-append-drop}
use Rattle.std.proofs.lemmas.List.Elements.{All-cons, All-nil}
use Rattle.std.proofs.lemmas.List.Sorted.{Contains-permutation, IsPermutation-remove, IsPermutation-sym}
use Rattle.sector.specs.Extents.{IsSector}
use Rattle.cdb.specs.declared.Cdb.TheVariants.{Read10, Read16, Sync10, Sync16, Write10, Write16}
use Rattle.cdb.specs.Meaning.{AsksToRead, AsksToWrite, Means}
use Rattle.srb.specs.declared.DeviceLabel.TheVariants.{Act}
use Rattle.srb.specs.declared.Kind.{Kind}
use Rattle.srb.specs.declared.Kind.TheVariants.{Read, Write, Flush}
use Rattle.srb.specs.Fate.{Fate, Fresh, Acted}
use Rattle.adapter.specs.Performing.{HandsOverIfTold, IsCut}
use Rattle.adapter.specs.View.{AdapterView, TagInUse}
use Rattle.machine.specs.declared.Request.{Request}
use Rattle.machine.specs.Rules.{Rules, as_client, is_transfer, sectors_of}
use Rattle.machine.specs.Sending.{Acts, command_for, flush_command, with_fate}
use Rattle.machine.specs.State.{OpenRequest, Piece, State}
use Rattle.machine.specs.Step.{Run, as_label}
use Rattle.machine.proofs.Forms.{flush_forms, read_forms, write_forms}
use Rattle.machine.proofs.Same.{IsSame-refl}
use Rattle.device.specs.View.{AsksFor, IsBounded, MayAct, transfer_length, whole_command}
use Rattle.device.specs.Served.{cut}
use Rattle.port.specs.declared.queues.PortPacket.{PortPacket}
use Rattle.port.specs.inside.TableView.{PacketEntry, TableView, entry_of}
use Rattle.port.specs.inside.TableCalls.{held_on}
use Rattle.port.specs.Shown.{rules_of, waiting_open, done_open, out_open, out_piece, open_on, piece_on, places_of, state_of}
use Rattle.port.specs.inside.Invariant.{IsDoing, IsEmptyIfFlush, PortKept}
use Rattle.port.proofs.Acting.{IsCarried, carried, the_arrays}
use Rattle.port.proofs.Lists.{length-cut, second_front}
use Rattle.port.proofs.Returning.{on_tag_some, on_tag_work, tags_on}
use Rattle.port.proofs.Sizing.{volume_zero, whole_read, whole_write}
use Rattle.port.proofs.Starting.{kept_sector_some}

-- BYTES CUT INTO SECTORS

concat_cut : (count size : ℕ) (bytes : List ℕ) → length bytes ≡ count * size → concat (cut count size bytes) ≡ bytes
concat_cut zero size [] long = refl
concat_cut zero size (x ∷ bytes) long = absurd (omega (arith, long))
concat_cut (suc count) size bytes long =
    let rest : length (drop size bytes) ≡ count * size = omega (arith, length-drop size bytes, long) in
    ap (λ (ys : List ℕ). take size bytes ++ ys) (concat_cut count size (drop size bytes) rest) ∙ take-append-drop size bytes

cut_sized : (count size : ℕ) (bytes : List ℕ) → length bytes ≡ count * size → All (IsSector size) (cut count size bytes)
cut_sized zero size bytes long = All-nil (IsSector size)
cut_sized (suc count) size bytes long =
    let rest : length (drop size bytes) ≡ count * size = omega (arith, length-drop size bytes, long) in
    let one : length (take size bytes) ≡ size = omega (arith, length-take size bytes, long) in
    All-cons (IsSector size) (take size bytes) (cut count size (drop size bytes)) one (cut_sized count size (drop size bytes) rest)

-- A TAG

module _ (b : TableView) (v : AdapterView) (rooms : List Request) (k : PortKept b v rooms) (u : TagInUse) (others : List TagInUse) (in_use : IsPermutation v.tags (u ∷ others)) (apart : IsFalse b.sizes.faithful) (fresh : u.fate ≡ Fresh) where
  abbrev rules : Rules
  rules = rules_of b.sizes

  abbrev size : ℕ
  size = b.sizes.sector_size

  some : 0 < size
  some = kept_sector_some b v rooms k

  sized : All (IsSector size) v.sectors
  sized = subst (λ (n : ℕ). All (IsSector n) v.sectors) (sym k.sizes.sector_size) k.adapter.whole_sectors

  module _ (held : PortPacket) (on : held_on b.started u.tag ≡ Some held) (bounded : IsBounded (rules_of b.sizes) held.request) (asks : AsksFor (rules_of b.sizes) held.request u.srb) (empty : IsEmptyIfFlush held.request u.srb.data) where
    abbrev r : Request
    r = held.request

    abbrev carries : List (List ℕ) → Type 0
    carries moved = IsCarried rules (state_of b v) r r.kind u.srb v.sectors moved v.sectors 0

    -- A TRANSFER

    inside : r.extent.first + r.extent.count ≤ length v.sectors
    inside =
        let there : r.extent.first + r.extent.count ≤ sectors_of rules (Some 0) = subst (λ (n : ℕ). r.extent.first + r.extent.count ≤ sectors_of rules (Some n)) (volume_zero b.sizes r bounded) bounded.inside in
        subst (λ (n : ℕ). r.extent.first + r.extent.count ≤ n) k.sizes.sectors there

    abbrev parts : List (List ℕ)
    parts = cut r.extent.count size u.srb.data

    module _ (is : is_transfer r.kind ≡ true) where
      long : length u.srb.data ≡ r.extent.count * size
      long = asks.data_length ∙ ap (λ (transfers : Bool). if transfers then r.extent.count * size else 0) is

      joined : concat parts ≡ u.srb.data
      joined = concat_cut r.extent.count size u.srb.data long

      written : IsCut size v.sectors u.srb.data r.extent.first r.extent.count parts
      written = (inside, joined, length-cut r.extent.count size u.srb.data, cut_sized r.extent.count size u.srb.data long)

      read : HandsOverIfTold false size v.sectors r.extent.first r.extent.count parts
      read = (inside, length-cut r.extent.count size u.srb.data, cut_sized r.extent.count size u.srb.data long, λ told. absurd (cc (told)))

    write_carries : r.kind ≡ Write → carries parts
    write_carries is = by_form (write_forms u.srb.block r.extent.first r.extent.count r.through (subst (λ c. Means u.srb.block c) (whole_write b.sizes r some bounded is) asks.asks))
      where
        by_form : AsksToWrite u.srb.block r.extent.first r.extent.count r.through → carries parts
        by_form (inl m) = carried b.sizes false false apart (state_of b v) r u.srb v.sectors parts v.sectors 0 (Write10 r.extent.first r.extent.count r.through) some bounded k.sizes.sectors sized refl r.kind refl asks m (written (ap is_transfer is), refl)
        by_form (inr m) = carried b.sizes false false apart (state_of b v) r u.srb v.sectors parts v.sectors 0 (Write16 r.extent.first r.extent.count r.through) some bounded k.sizes.sectors sized refl r.kind refl asks m (written (ap is_transfer is), refl)

    read_carries : r.kind ≡ Read → carries parts
    read_carries is = by_form (read_forms u.srb.block r.extent.first r.extent.count r.through (subst (λ c. Means u.srb.block c) (whole_read b.sizes r some bounded is) asks.asks))
      where
        by_form : AsksToRead u.srb.block r.extent.first r.extent.count r.through → carries parts
        by_form (inl m) = carried b.sizes false false apart (state_of b v) r u.srb v.sectors parts v.sectors 0 (Read10 r.extent.first r.extent.count r.through) some bounded k.sizes.sectors sized refl r.kind refl asks m (read (ap is_transfer is), refl)
        by_form (inr m) = carried b.sizes false false apart (state_of b v) r u.srb v.sectors parts v.sectors 0 (Read16 r.extent.first r.extent.count r.through) some bounded k.sizes.sectors sized refl r.kind refl asks m (read (ap is_transfer is), refl)

    flush_carries : r.kind ≡ Flush → carries ([] ∷ [])
    flush_carries is =
        let m : Means u.srb.block (flush_command rules.disk_sectors) =
        subst (λ (kind : Kind). Means u.srb.block (command_for rules (as_client rules r []) (record { first = 0; count = places_of rules r }) kind)) is asks.asks in
        by_form (flush_forms u.srb.block rules.disk_sectors m)
      where
        by_form : Means u.srb.block (Sync10 0 0) ⊎ Means u.srb.block (Sync16 0 0) → carries ([] ∷ [])
        by_form (inl m) = carried b.sizes false false apart (state_of b v) r u.srb v.sectors ([] ∷ []) v.sectors 0 (Sync10 0 0) some bounded k.sizes.sectors sized refl r.kind refl asks m (refl, refl)
        by_form (inr m) = carried b.sizes false false apart (state_of b v) r u.srb v.sectors ([] ∷ []) v.sectors 0 (Sync16 0 0) some bounded k.sizes.sectors sized refl r.kind refl asks m (refl, refl)

    -- ITS ACT

    abbrev e : PacketEntry
    e = entry_of held

    abbrev after : List (List ℕ) → State
    after moved = record (state_of b v) { arrays = the_arrays rules v.sectors; pieces = with_fate (Acted moved) (out_piece rules e u) ∷ map (piece_on rules b.started) others }

    acts : (moved : List (List ℕ)) → carries moved → concat moved ≡ u.srb.data → Acts rules (state_of b v) u.piece u.srb.data (after moved)
    acts moved c whole = record {
      piece = out_piece rules e u;
      other_pieces = map (piece_on rules b.started) others;
      owner = out_open rules e u;
      sectors = moved;
      arrays' = the_arrays rules v.sectors;
      fresh = record { is_out = tags_on (out_piece rules) b.started v.tags u others held in_use on; is_number = refl; is_fresh = fresh };
      is_open = Contains-permutation _ _ _ (IsPermutation-sym _ _ (second_front (map (waiting_open rules) b.waiting) (map (open_on rules b.started) v.tags) (map (open_on rules b.started) others) (map (done_open rules) b.done) (out_open rules e u)
          (tags_on (out_open rules) b.started v.tags u others held in_use on))) (0, omega arith, refl);
      is_owner = refl;
      covers = c.covers;
      moves = c.moves;
      hands_over = sym whole;
      after = IsSame-refl (after moved);
    }

    runs : (moved : List (List ℕ)) → carries moved → concat moved ≡ u.srb.data → (acted : State) × Run rules (state_of b v) (as_label (Act u.piece u.srb.data) ∷ []) acted
    runs moved c whole = (after moved, (after moved, inl (refl, acts moved c whole), IsSame-refl (after moved)))

    by_kind : (kind : Kind) → r.kind ≡ kind → (acted : State) × Run rules (state_of b v) (as_label (Act u.piece u.srb.data) ∷ []) acted
    by_kind Read is = runs parts (read_carries is) (joined (ap is_transfer is))
    by_kind Write is = runs parts (write_carries is) (joined (ap is_transfer is))
    by_kind Flush is = runs ([] ∷ []) (flush_carries is) (sym (empty is))

  pub may_act : (acted : State) × Run rules (state_of b v) (as_label (Act u.piece u.srb.data) ∷ []) acted
  may_act =
      let w = on_tag_some rules b.started v.tags u others u.tag k.at_work in_use refl in
      let work = on_tag_work rules b.started v.tags u others u.tag w.0 k.at_work in_use refl w.1 in
      let asks : AsksFor rules w.0.request u.srb = subst (λ (f : Fate). IsDoing rules w.0.request f u.srb) fresh work.1 in
      by_kind w.0 w.1 work.0 asks work.2 w.0.request.kind refl

-- each piece on a tag
pub all_may_act : (b : TableView) (v : AdapterView) (rooms : List Request) → PortKept b v rooms → All (MayAct (rules_of b.sizes) (state_of b v)) v.tags
all_may_act b v rooms k i d low apart fresh =
    may_act b v rooms k (get_or v.tags i d) (remove v.tags i) (IsPermutation-remove v.tags i (get_or v.tags i d) low (get_or_default v.tags i d (get_or v.tags i d) low)) apart fresh
