-- A rule that a label of the adapter breaks refutes each step by it.
use Rattle.std.proofs.Common.{◌≡◌, ◌≢◌, ◌<◌, ◌≤◌, ℕ, ◌+◌, ◌-◌, ◌*◌, ◌%◌, List, [], ◌∷◌, Option, Some, None, refl, sym, ◌∙◌, ap, subst, arith, length, get_or, true, zero, suc}
use Rattle.std.specs.Prelude.{IsPermutation, Contains, All, IsTrue, slice_get, slice_range, if◌then◌else◌}
use Rattle.std.specs.List.{concat}
use Rattle.std.proofs.lemmas.Bool.{both_ways}
use Rattle.std.proofs.lemmas.List.Edits.{get_or-between, length-between}
use Rattle.std.proofs.lemmas.List.Sorted.{IsPermutation-sym, IsPermutation-trans, IsPermutation-cons, IsPermutation-middle, length_permutation, Contains-permutation}
use Rattle.std.proofs.lemmas.List.Elements.{All-contains}
use Rattle.sector.specs.declared.Extent.{Extent}
use Rattle.sector.specs.Extents.{IsSector}
use Rattle.srb.specs.declared.Class.{Class}
use Rattle.srb.specs.declared.Class.TheVariants.{Good, Busy, Bad}
use Rattle.srb.specs.Fate.{Fresh}
use Rattle.srb.specs.declared.Kind.{Kind}
use Rattle.srb.specs.declared.Kind.TheVariants.{Read, Write, Flush}
use Rattle.machine.specs.Rules.{Rules, is_transfer}
use Rattle.machine.specs.State.{Mark, Untouched, Out, Done, Failed, Back, OpenRequest, Piece, State}
use Rattle.machine.specs.Cutting.{mark_at, is_back, restarts_left}
use Rattle.machine.specs.Sending.{HasOtherTag, is_unsent, IsUnsent, is_started, IsInTurn, MayStart, IsSendable, Starts, new_piece, Transfers, IsFreshPiece, Acts, Faults, LeavesMarks, Returns}
use Rattle.machine.specs.Answering.{is_done}
use Rattle.judge.specs.declared.start_rules.StartRule.{StartRule}
use Rattle.judge.specs.declared.start_rules.StartRule.TheVariants as start_rule
use Rattle.judge.specs.declared.start_rules.Hindrance.{Hindrance}
use Rattle.judge.specs.declared.start_rules.Hindrance.TheVariants as hindrance
use Rattle.judge.specs.declared.piece_rules.ActRule.{ActRule}
use Rattle.judge.specs.declared.piece_rules.ActRule.TheVariants as act_rule
use Rattle.judge.specs.declared.piece_rules.ReturnRule.{ReturnRule}
use Rattle.judge.specs.declared.piece_rules.ReturnRule.TheVariants as return_rule
use Rattle.judge.specs.Breaking.{IsTold, Asks, Hinders, BreaksStartOf, IsAtAdapter, IsOwned, length_due, AreWhole, ActsWrong, BreaksAct, BreaksFault, ReturnsWrong, BreaksReturnOf}
use Rattle.trace_line.specs.Lines.{StartIsOf}
use Rattle.machine.proofs.Permuting.{IsPermutation-uncons}
use Rattle.judge.proofs.Picking.{first_of}
use Rattle.judge.proofs.Moving.{chunks_only}

-- a place that is among those of a piece waits to be sent
unsent_at : (marks : List Mark) (first count place : ℕ) → first + count ≤ length marks → All IsUnsent (slice_range marks first (first + count)) → first ≤ place → place < first + count
    → is_unsent (get_or marks place Untouched) ≡ true
unsent_at marks first count place inside unsent low high =
    let e : first + (place - first) ≡ place = omega arith in
    let n : length (slice_range marks first (first + count)) ≡ first + count - first = length-between marks first (first + count) inside in
    let at : IsUnsent (get_or (slice_range marks first (first + count)) (place - first) Untouched) = unsent (place - first) Untouched (omega arith) in
    subst IsUnsent (get_or-between marks first (first + count) (place - first) Untouched (omega arith) ∙ ap (λ m. get_or marks m Untouched) e) at

-- two lists that differ by one item alone have the same
same_in : (n : ℕ) (xs : List Piece) (x y : Piece) → n ≡ length xs → IsPermutation (x ∷ xs) (y ∷ xs) → x ≡ y
same_in zero xs x y e p = by (Contains-permutation _ _ x p (0, omega arith, refl))
  where
    by : Contains (y ∷ xs) x → x ≡ y
    by (zero, low, is) = sym is
    by (suc k, low, is) = absurd (omega (arith, e, low))
same_in (suc n) xs x y e p = by (Contains-permutation _ _ x p (0, omega arith, refl)) (λ rest same q. same_in n rest x y same q)
  where
    by : Contains (y ∷ xs) x → ((rest : List Piece) → n ≡ length rest → IsPermutation (x ∷ rest) (y ∷ rest) → x ≡ y) → x ≡ y
    by (zero, low, is) again = sym is
    by (suc k, low, is) again =
        let rest : (others : List Piece) × IsPermutation xs (x ∷ others) = first_of xs x (k, omega arith, is) in
        let both : IsPermutation (x ∷ x ∷ rest.0) (y ∷ x ∷ rest.0) =
        IsPermutation-trans _ _ _ (IsPermutation-cons x _ _ (IsPermutation-sym _ _ rest.1)) (IsPermutation-trans _ _ _ p (IsPermutation-cons y _ _ rest.1)) in
        let fewer : IsPermutation (x ∷ rest.0) (y ∷ rest.0) = IsPermutation-uncons x _ _ (IsPermutation-trans _ _ _ both (IsPermutation-middle (y ∷ []) x rest.0)) in
        again rest.0 (omega (arith, e, length_permutation xs (x ∷ rest.0) rest.1)) fewer

done_unsent : (m : Mark) → IsTrue (is_done m) → IsUnsent m → ⊥
done_unsent (Done sector) h k = cc (k)
done_unsent Untouched h k = cc (h)
done_unsent Out h k = cc (h)
done_unsent (Failed status) h k = cc (h)
done_unsent Back h k = cc (h)

module _ (rules : Rules) (s : State) where
  pub there : (o : OpenRequest) (others : List OpenRequest) → IsPermutation s.requests (o ∷ others) → Contains s.requests o
  there o others p = Contains-permutation _ _ o (IsPermutation-sym _ _ p) (0, omega arith, refl)

  piece_there : (piece : Piece) (others : List Piece) → IsPermutation s.pieces (piece ∷ others) → Contains s.pieces piece
  piece_there piece others p = Contains-permutation _ _ piece (IsPermutation-sym _ _ p) (0, omega arith, refl)

  -- STARTS

  pub hinders : (o : OpenRequest) (places : Extent) (h : Hindrance) → Hinders rules s o places h → MayStart s o → IsSendable rules o places → ⊥
  hinders o places hindrance.Cancelled h may send = both_ways o.cancelled may.not_cancelled h
  hinders o places hindrance.Removing h may send = both_ways s.removing may.not_removing h
  hinders o places hindrance.Late h may send = both_ways o.late (may.not_held h.0) h.1
  hinders o places (hindrance.Earlier number) h may send =
      let other : OpenRequest = h.0 in
      let low : h.0.number < o.number = subst (λ n. n < o.number) (sym h.2) h.3 in
      let started : IsInTurn o h.0 = All-contains (IsInTurn o) s.requests h.0 may.in_turn h.1 in
      both_ways (is_started h.0) h.5 (started low h.4)
  hinders o places (hindrance.Long longest count) h may send = omega (arith, h.0, h.1, h.2, send.short)
  hinders o places (hindrance.Out place) h may send =
      let waits : is_unsent (mark_at o place) ≡ true = unsent_at o.marks places.first places.count place send.inside send.unsent h.0.0 h.0.1 in
      let no : is_unsent Out ≡ true = subst (λ m. is_unsent m ≡ true) h.1 waits in cc (no)
  hinders o places (hindrance.Done place) h may send =
      done_unsent (mark_at o place) h.1 (unsent_at o.marks places.first places.count place send.inside send.unsent h.0.0 h.0.1)
  hinders o places (hindrance.Failed place) h may send =
      let waits : is_unsent (mark_at o place) ≡ true = unsent_at o.marks places.first places.count place send.inside send.unsent h.0.0 h.0.1 in
      let no : is_unsent (Failed h.1) ≡ true = subst (λ m. is_unsent m ≡ true) h.2 waits in cc (no)
  hinders o places (hindrance.OffGrid place grid) h may send = h.3 (ap (λ n. n % grid) h.1 ∙ ap (λ n. places.first % n) h.2 ∙ send.begins h.0)
  hinders o places (hindrance.Worn place) h may send =
      let back : IsTrue (is_back (mark_at o places.first)) = subst (λ n. IsTrue (is_back (mark_at o n))) h.1 h.2 in
      let some : 0 < restarts_left rules o = send.spare h.0 back in
      omega (arith, h.3, some)
  hinders o places (hindrance.NotWhole due count) h may send = let whole = send.whole h.0 in h.3 (h.2 ∙ whole.all_places ∙ sym h.1)
  hinders o places hindrance.Again h may send = let whole = send.whole h.0 in both_ways (is_started o) whole.not_before h.1

  -- the piece that started is of the request that made the start
  owner_is : (number tag : ℕ) (block : List ℕ) (s' : State) (step : Starts rules s number tag block s') (owner : Option ℕ) → StartIsOf s s' owner → IsTold owner step.owner
  owner_is number tag block s' step None is = tt
  owner_is number tag block s' step (Some r) is =
      let same : new_piece s tag step.owner step.places ≡ is.piece =
      same_in (length s.pieces) s.pieces _ _ refl (IsPermutation-trans _ _ _ (IsPermutation-sym _ _ step.after.pieces) is.is_new) in
      ap (λ (p : Piece). p.owner) same ∙ is.is_owner

  pub asks_so : (number tag : ℕ) (block : List ℕ) (s' : State) (step : Starts rules s number tag block s') (owner : Option ℕ) → StartIsOf s s' owner → Asks rules s owner block step.owner step.places
  asks_so number tag block s' step owner is = record {
    is_there = there step.owner step.others step.is_open;
    is_told = owner_is number tag block s' step owner is;
    some = step.sendable.some;
    inside = step.sendable.inside;
    means = step.asks;
  }

  pub refutes_start : (owner : Option ℕ) (number tag : ℕ) (block : List ℕ) (r : StartRule) → BreaksStartOf rules s owner number tag block r → (s' : State) → Starts rules s number tag block s' → StartIsOf s s' owner → ⊥
  refutes_start owner number tag block (start_rule.Number due told) h s' step is = h.2 (h.1 ∙ step.next_number ∙ sym h.0)
  refutes_start owner number tag block (start_rule.Depth t depth) h s' step is = omega (arith, h.0, h.1, h.2, step.on_tag.within)
  refutes_start owner number tag block (start_rule.TagInUse t n) h s' step is = All-contains (HasOtherTag tag) s.pieces h.1 step.on_tag.free h.2 (h.3 ∙ h.0)
  refutes_start owner number tag block (start_rule.Tag lowest told) h s' step is =
      let low : lowest < tag = subst (λ n. lowest < n) h.0 h.2 in
      let any = step.on_tag.lowest lowest low in
      All-contains (HasOtherTag lowest) s.pieces any.1 h.1.free (any.0, any.2, any.3) any.4
  refutes_start owner number tag block (start_rule.Block fault) h s' step is = h.1 _ step.asks
  refutes_start owner number tag block (start_rule.NotPlain d) h s' step is = h.1 _ step.asks step.plain
  refutes_start owner number tag block (start_rule.NotOpen n) h s' step is =
      let told : IsTold (Some n) step.owner = subst (λ x. IsTold x step.owner) h.0 (owner_is number tag block s' step owner is) in
      h.1 step.owner (there step.owner step.others step.is_open) told
  refutes_start owner number tag block (start_rule.NotAsked misfit) h s' step is = h.0 step.owner step.places (asks_so number tag block s' step owner is)
  refutes_start owner number tag block (start_rule.Held n hindrance) h s' step is =
      let held : (k : Hindrance) × Hinders rules s step.owner step.places k = h.0 step.owner step.places (asks_so number tag block s' step owner is) in
      hinders step.owner step.places held.0 held.1 step.may_start step.sendable

  -- ACTS AND FAULTS

  -- what an act moves
  record MovesSo (piece : Piece) (o : OpenRequest) (bytes : List ℕ) (sectors : List (List ℕ)) : Type 0 where
    covers : length sectors ≡ piece.places.count
    hands_over : bytes ≡ concat sectors
    arrays' : List (List (List ℕ))
    moves : Transfers rules s o.request piece.places o.request.kind sectors arrays'

  joined_length : (piece : Piece) (o : OpenRequest) (bytes : List ℕ) (sectors : List (List ℕ)) → length sectors ≡ piece.places.count → bytes ≡ concat sectors → All (IsSector rules.sector_size) sectors
      → length bytes ≡ piece.places.count * rules.sector_size
  joined_length piece o bytes sectors n e sized = ap length e ∙ (chunks_only rules.sector_size sectors sized).1 ∙ ap (λ k. k * rules.sector_size) n

  moved_length : (piece : Piece) (o : OpenRequest) (bytes : List ℕ) (sectors : List (List ℕ)) → MovesSo piece o bytes sectors → length bytes ≡ length_due rules piece o
  moved_length piece o bytes sectors m = by o.request.kind m.moves
    where
      by : (kind : Kind) → Transfers rules s o.request piece.places kind sectors m.arrays' → length bytes ≡ (if is_transfer kind then piece.places.count * rules.sector_size else 0)
      by Read t = joined_length piece o bytes sectors m.covers m.hands_over t.1
      by Write t = joined_length piece o bytes sectors m.covers m.hands_over t.1
      by Flush t = ap length (m.hands_over ∙ ap concat t.0)

  refutes_move : (piece : Piece) (o : OpenRequest) (bytes : List ℕ) (sectors : List (List ℕ)) (r : ActRule) → ActsWrong rules s piece o bytes r → MovesSo piece o bytes sectors → ⊥
  refutes_move piece o bytes sectors (act_rule.NoPiece n) h m = h
  refutes_move piece o bytes sectors (act_rule.Before n) h m = h
  refutes_move piece o bytes sectors (act_rule.Length due told) h m = h.2 (h.1 ∙ moved_length piece o bytes sectors m ∙ sym h.0)
  refutes_move piece o bytes sectors (act_rule.Write d) h m =
      let t : Transfers rules s o.request piece.places Write sectors m.arrays' = subst (λ k. Transfers rules s o.request piece.places k sectors m.arrays') h.0 m.moves in
      h.1.unlike (sym h.1.is_told ∙ ap (λ l. slice_get l d.at) (m.hands_over ∙ t.0) ∙ h.1.is_due)
  refutes_move piece o bytes sectors (act_rule.Disk d) h m =
      let t : Transfers rules s o.request piece.places Read sectors m.arrays' = subst (λ k. Transfers rules s o.request piece.places k sectors m.arrays') h.0.is_read m.moves in
      h.1.unlike (sym h.1.is_told ∙ ap (λ l. slice_get l d.at) (m.hands_over ∙ ap concat (t.0 h.0.faithful)) ∙ h.1.is_due)
  refutes_move piece o bytes sectors (act_rule.NoSectors n) h m =
      let t : Transfers rules s o.request piece.places Read sectors m.arrays' = subst (λ k. Transfers rules s o.request piece.places k sectors m.arrays') h.1.is_read m.moves in
      h.2 (subst (AreWhole rules piece.places) (t.0 h.1.faithful) (record { many = m.covers; sized = t.1 }))

  moves_so : (number : ℕ) (bytes : List ℕ) (s' : State) (step : Acts rules s number bytes s') (piece : Piece) (o : OpenRequest) → IsOwned s number piece o → MovesSo piece o bytes step.sectors
  moves_so number bytes s' step piece o owned =
      let same : step.piece ≡ piece = owned.piece_out.alone step.piece (piece_there step.piece step.other_pieces step.fresh.is_out) step.fresh.is_number in
      let number_is : step.owner.number ≡ piece.owner = step.is_owner ∙ ap (λ (p : Piece). p.owner) same in
      let same_owner : step.owner ≡ o = owned.owner_open.alone step.owner step.is_open number_is in
      subst (λ p. MovesSo p o bytes step.sectors) same (subst (λ x. MovesSo step.piece x bytes step.sectors) same_owner
      (record { covers = step.covers; hands_over = step.hands_over; arrays' = step.arrays'; moves = step.moves }))

  refutes_before : (number : ℕ) (piece : Piece) (others : List Piece) (found : Piece) → IsFreshPiece s number piece others → IsAtAdapter s number found → found.fate ≢ Fresh → ⊥
  refutes_before number piece others found fresh out stale =
      let same : piece ≡ found = out.alone piece (piece_there piece others fresh.is_out) fresh.is_number in
      stale (ap (λ (p : Piece). p.fate) (sym same) ∙ fresh.is_fresh)

  pub refutes_act : (number : ℕ) (bytes : List ℕ) (r : ActRule) → BreaksAct rules s number bytes r → (s' : State) → Acts rules s number bytes s' → ⊥
  refutes_act number bytes (act_rule.NoPiece n) h s' step = h.1 step.piece (piece_there step.piece step.other_pieces step.fresh.is_out) step.fresh.is_number
  refutes_act number bytes (act_rule.Before n) h s' step = refutes_before number step.piece step.other_pieces h.1 step.fresh h.2 h.3
  refutes_act number bytes (act_rule.Length due told) h s' step = refutes_move h.0 h.1 bytes step.sectors (act_rule.Length due told) h.3 (moves_so number bytes s' step h.0 h.1 h.2)
  refutes_act number bytes (act_rule.Write d) h s' step = refutes_move h.0 h.1 bytes step.sectors (act_rule.Write d) h.3 (moves_so number bytes s' step h.0 h.1 h.2)
  refutes_act number bytes (act_rule.Disk d) h s' step = refutes_move h.0 h.1 bytes step.sectors (act_rule.Disk d) h.3 (moves_so number bytes s' step h.0 h.1 h.2)
  refutes_act number bytes (act_rule.NoSectors n) h s' step = refutes_move h.0 h.1 bytes step.sectors (act_rule.NoSectors n) h.3 (moves_so number bytes s' step h.0 h.1 h.2)

  pub refutes_fault : (number : ℕ) (r : ActRule) → BreaksFault s number r → (s' : State) → Faults s number s' → ⊥
  refutes_fault number (act_rule.NoPiece n) h s' step = h.1 step.piece (piece_there step.piece step.other_pieces step.fresh.is_out) step.fresh.is_number
  refutes_fault number (act_rule.Before n) h s' step = refutes_before number step.piece step.other_pieces h.1 step.fresh h.2 h.3
  refutes_fault number (act_rule.Length due told) h s' step = absurd h
  refutes_fault number (act_rule.Write d) h s' step = absurd h
  refutes_fault number (act_rule.Disk d) h s' step = absurd h
  refutes_fault number (act_rule.NoSectors n) h s' step = absurd h

  -- RETURNS

  refutes_leaving : (piece : Piece) (class : Class) (marks : List Mark) (r : ReturnRule) → ReturnsWrong piece class r → LeavesMarks piece class marks → ⊥
  refutes_leaving piece class marks (return_rule.NoPiece n) h leaves = absurd h
  refutes_leaving piece class marks (return_rule.GoodWithoutAct n) h leaves =
      let t : LeavesMarks piece Good marks = subst (λ c. LeavesMarks piece c marks) h.1 leaves in h.2 t.0 t.1
  refutes_leaving piece class marks (return_rule.BusyAfterAct n) h leaves =
      let t : LeavesMarks piece Busy marks = subst (λ c. LeavesMarks piece c marks) h.1 leaves in h.2 t.0
  refutes_leaving piece class marks (return_rule.GoodCode n srb_status) h leaves =
      let t : LeavesMarks piece (Bad h.1) marks = subst (λ c. LeavesMarks piece c marks) h.2 leaves in h.4 t.0

  leaves_so : (number : ℕ) (class : Class) (s' : State) (step : Returns s number class s') (piece : Piece) → IsAtAdapter s number piece → LeavesMarks piece class step.marks
  leaves_so number class s' step piece out =
      let same : step.piece ≡ piece = out.alone step.piece (piece_there step.piece step.other_pieces step.is_out) step.is_number in
      subst (λ p. LeavesMarks p class step.marks) same step.leaves

  pub refutes_return : (number : ℕ) (class : Class) (r : ReturnRule) → BreaksReturnOf s number class r → (s' : State) → Returns s number class s' → ⊥
  refutes_return number class (return_rule.NoPiece n) h s' step = h.1 step.piece (piece_there step.piece step.other_pieces step.is_out) step.is_number
  refutes_return number class (return_rule.GoodWithoutAct n) h s' step = refutes_leaving h.0 class step.marks (return_rule.GoodWithoutAct n) h.2 (leaves_so number class s' step h.0 h.1)
  refutes_return number class (return_rule.BusyAfterAct n) h s' step = refutes_leaving h.0 class step.marks (return_rule.BusyAfterAct n) h.2 (leaves_so number class s' step h.0 h.1)
  refutes_return number class (return_rule.GoodCode n srb_status) h s' step = refutes_leaving h.0 class step.marks (return_rule.GoodCode n srb_status) h.2 (leaves_so number class s' step h.0 h.1)
