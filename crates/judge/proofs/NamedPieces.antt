-- The rule that is named of an act, a fault or a return is one that the label breaks; where none is named some step goes by the label.
use Rattle.std.proofs.Common.{◌≡◌, ◌<◌, ◌≤◌, ℕ, ◌+◌, ◌*◌, Bool, true, false, List, ◌∷◌, Option, Some, None, refl, sym, ◌∙◌, ap, subst, arith, length, replicate, map, eq-eqb}
use Rattle.std.specs.Prelude.{◌==◌, not, IsPermutation, Contains, All, MatchOption, bit_and, option_map, if◌then◌else◌}
use Rattle.std.specs.List.{concat, find, list_all}
use Rattle.std.proofs.lemmas.Bool.{both_ways, eqb-true, eqb-false, and_parts, and_from}
use Rattle.std.proofs.lemmas.Bool.Decides.{Decides-eqb, Decides-by_and}
use Rattle.std.proofs.lemmas.List.Elements.{All-contains}
use Rattle.std.specs.Bool.{Decides}
use Rattle.sector.specs.Extents.{IsSector}
use Rattle.srb.specs.declared.Completion.{Completion}
use Rattle.srb.specs.declared.Class.{Class}
use Rattle.srb.specs.declared.Class.TheVariants.{Good, Busy, Bad}
use Rattle.srb.specs.Fate.{Fate, Fresh, Acted, Faulted, is_fresh, class_of}
use Rattle.srb.specs.declared.Kind.{Kind}
use Rattle.srb.specs.declared.Kind.TheVariants.{Read, Write, Flush}
use Rattle.machine.specs.Rules.{Rules, place_count}
use Rattle.machine.specs.State.{Mark, Failed, Back, Done, OpenRequest, Piece, State}
use Rattle.machine.specs.Sending.{sectors_at, Transfers, Acts, Faults, LeavesMarks, Returns, with_fate, given_back, status_of_completion}
use Rattle.machine.specs.Numbers.{AreDistinct, request_number, piece_number}
use Rattle.machine.specs.Pieces.{ArePlaced, IsPlaced, IsCovered}
use Rattle.machine.proofs.Same.{IsSame-refl}
use Rattle.machine.proofs.Placed.{is_inside}
use Rattle.judge.specs.Deciding.{has_number, is_piece, sectors_moved, is_bad}
use Rattle.judge.specs.Next.{arrays_after}
use Rattle.judge.specs.declared.label_rules.Difference.{Difference}
use Rattle.judge.specs.declared.piece_rules.ActRule.TheVariants as act_rule
use Rattle.judge.specs.declared.piece_rules.ReturnRule.TheVariants as return_rule
use Rattle.judge.specs.Breaking.{IsOpen, Differs, IsAtAdapter, IsOwned, bytes_sent, BreaksAct, BreaksFault, BreaksReturnOf}
use Rattle.judge.specs.Ruling.{difference}
use Rattle.judge.specs.PieceRuling.{has_size, are_whole, length_moved, disk_rule, moving_rule, owned_rule, fresh_rule, acting_rule_of, acting_rule, faulting_rule_of, faulting_rule, returning_rule_of, returned_rule, returning_rule}
use Rattle.judge.proofs.AllPlaces.{HasAllPlaces, HaveAllPlaces}
use Rattle.judge.proofs.Moving.{Moves, MayMove, moves_so}
use Rattle.judge.proofs.Picking.{first_of}
use Rattle.judge.proofs.Named.{found_there, found_nowhere, only_one, differs, is_open}

pub flush_places : (rules : Rules) (o : OpenRequest) (kind : Kind) → kind ≡ Flush → place_count rules (record o.request { kind = kind }) ≡ 1
flush_places rules o Flush e = refl
flush_places rules o Read e = cc (e)
flush_places rules o Write e = cc (e)

fresh_fate : (fate : Fate) → is_fresh fate ≡ true → fate ≡ Fresh
fresh_fate Fresh e = refl
fresh_fate (Acted sectors) e = cc (e)
fresh_fate Faulted e = cc (e)

bad_class : (completion : Completion) → is_bad (class_of completion) ≡ true → class_of completion ≡ Bad completion
bad_class completion = by (bit_and completion.srb_status 63 == 1) (bit_and completion.srb_status 63 == 5)
  where
    by : (a b : Bool) → is_bad (if a then Good else (if b then Busy else Bad completion)) ≡ true → (if a then Good else (if b then Busy else Bad completion)) ≡ Bad completion
    by true b e = cc (e)
    by false true e = cc (e)
    by false false e = refl

decides_whole : (size : ℕ) (sectors : List (List ℕ)) → Decides (list_all (has_size size) sectors) (All (IsSector size) sectors)
decides_whole size sectors = Decides-by_and (has_size size) (IsSector size) (list_all (has_size size)) (λ x. Decides-eqb (length x) size) refl (λ _ _. refl) sectors

module _ (rules : Rules) (s : State) (d : AreDistinct s) (whole : HaveAllPlaces rules s) (placed : ArePlaced s) where
  is_out : (number : ℕ) (piece : Piece) → find (is_piece number) s.pieces ≡ Some piece → IsAtAdapter s number piece
  is_out number piece e =
      let h : Contains s.pieces piece × (piece.number ≡ number) = found_there piece_number number s.pieces piece e in
      record { is_there = h.0; is_number = h.1; alone = λ other c same. only_one piece_number s.pieces piece other d.pieces h.0 c (same ∙ sym h.1) }

  -- the owner of a piece is open
  no_owner : (number : ℕ) (piece : Piece) → IsAtAdapter s number piece → find (has_number piece.owner) s.requests ≡ None → ⊥
  no_owner number piece out e =
      let here : IsPlaced s.requests piece = All-contains (IsPlaced s.requests) s.pieces piece placed.pieces out.is_there in
      let owned = here.owned in
      found_nowhere request_number piece.owner s.requests e owned.1 (owned.0, owned.2, owned.3) owned.4

  -- ACTS

  module _ (number : ℕ) (bytes : List ℕ) where
    abbrev CanAct : Type 0
    CanAct = (s' : State) × Acts rules s number bytes s'

    module _ (piece : Piece) (o : OpenRequest) (owned : IsOwned s number piece o) (fresh : piece.fate ≡ Fresh) where
      act_by : (sectors : List (List ℕ)) (arrays' : List (List (List ℕ))) → length sectors ≡ piece.places.count → Transfers rules s o.request piece.places o.request.kind sectors arrays' → bytes ≡ concat sectors → CanAct
      act_by sectors arrays' covers moves hands =
          let p : (others : List Piece) × IsPermutation s.pieces (piece ∷ others) = first_of s.pieces piece owned.piece_out.is_there in (
            record s { arrays = arrays'; pieces = with_fate (Acted sectors) piece ∷ p.0 },
            record {
              piece = piece;
              other_pieces = p.0;
              owner = o;
              sectors = sectors;
              arrays' = arrays';
              fresh = record { is_out = p.1; is_number = owned.piece_out.is_number; is_fresh = fresh };
              is_open = owned.owner_open.is_there;
              is_owner = owned.owner_open.is_number;
              covers = covers;
              moves = moves;
              hands_over = hands;
              after = IsSame-refl _;
            },
          )

      act_so : (kind : Kind) → o.request.kind ≡ kind → MayMove rules s o.request piece.places kind bytes → CanAct
      act_so kind e h =
          let sectors : List (List ℕ) = sectors_moved rules piece.places.count kind bytes in
          let m : Moves rules s o.request piece.places kind bytes sectors (arrays_after rules s.arrays o.request piece.places kind sectors) = moves_so rules s o.request piece.places kind bytes h in
          act_by sectors (arrays_after rules s.arrays o.request piece.places kind sectors) m.covers
          (subst (λ k. Transfers rules s o.request piece.places k sectors (arrays_after rules s.arrays o.request piece.places kind sectors)) (sym e) m.moves) m.hands_over

      one_place : o.request.kind ≡ Flush → piece.places.count ≡ 1
      one_place e =
          let here : IsPlaced s.requests piece = All-contains (IsPlaced s.requests) s.pieces piece placed.pieces owned.piece_out.is_there in
          let covered : IsCovered s.pieces o = All-contains (IsCovered s.pieces) s.requests o placed.places owned.owner_open.is_there in
          let all : HasAllPlaces rules o = All-contains (HasAllPlaces rules) s.requests o whole owned.owner_open.is_there in
          let p : (others : List Piece) × IsPermutation s.pieces (piece ∷ others) = first_of s.pieces piece owned.piece_out.is_there in
          let inside : piece.places.first + piece.places.count ≤ length o.marks = is_inside s.pieces piece p.0 o p.1 covered owned.owner_open.is_number here.some in
          let one : length o.marks ≡ 1 = all.places ∙ flush_places rules o o.request.kind e in
          let some : 0 < piece.places.count = here.some in
          omega (arith, inside, one, some)

      abbrev sent : List ℕ
      sent = bytes_sent rules o.request piece.places

      write_named : o.request.kind ≡ Write → (length bytes == piece.places.count * rules.sector_size) ≡ true → (found : Option Difference) → MatchOption found (sent ≡ bytes) (Differs sent bytes)
          → MatchOption (option_map act_rule.Write found) CanAct (BreaksAct rules s number bytes)
      write_named e long None h = act_so Write e (eqb-true _ _ long, sym h)
      write_named e long (Some x) h = (piece, o, owned, (e, h))

      abbrev stand : List (List ℕ)
      stand = sectors_at rules s o.request piece.places

      disk_named : o.request.kind ≡ Read → rules.faithful ≡ true → (found : Option Difference) → MatchOption found (concat stand ≡ bytes) (Differs (concat stand) bytes)
          → (b : Bool) → are_whole piece.places.count rules.sector_size stand ≡ b
          → MatchOption (if not b then Some (act_rule.NoSectors piece.number) else option_map act_rule.Disk found) CanAct (BreaksAct rules s number bytes)
      disk_named e f found h false w = (
        piece,
        o,
        owned,
        (
          refl,
          record { faithful = f; is_read = e },
          λ all.
              both_ways _ w (and_from _ _ (eq-eqb _ _ all.many) ((decides_whole rules.sector_size stand).1 all.sized)),
        ),
      )
      disk_named e f None h true w =
          let both : _ × _ = and_parts _ _ w in
          let sized : All (IsSector rules.sector_size) stand = (decides_whole rules.sector_size stand).0 both.1 in
          act_by stand s.arrays (eqb-true _ _ both.0)
          (subst (λ k. Transfers rules s o.request piece.places k stand s.arrays) (sym e) (λ t. refl, sized, refl)) (sym h)
      disk_named e f (Some x) h true w = (piece, o, owned, (record { faithful = f; is_read = e }, h))

      read_named : o.request.kind ≡ Read → (length bytes == piece.places.count * rules.sector_size) ≡ true → (f : Bool) → rules.faithful ≡ f
          → MatchOption (if f then disk_rule piece.number piece.places.count rules.sector_size stand bytes else None) CanAct (BreaksAct rules s number bytes)
      read_named e long true f = disk_named e f (difference 0 (concat stand) bytes) (differs (concat stand) bytes) (are_whole piece.places.count rules.sector_size stand) refl
      read_named e long false f = act_so Read e (eqb-true _ _ long, λ t. absurd (both_ways _ f t))

      moving_named : (kind : Kind) → o.request.kind ≡ kind → (length bytes == length_moved kind piece.places.count rules.sector_size) ≡ true
          → MatchOption (moving_rule rules s piece.number o.request piece.places kind bytes) CanAct (BreaksAct rules s number bytes)
      moving_named Read e long = read_named e long rules.faithful refl
      moving_named Write e long = write_named e long (difference 0 sent bytes) (differs sent bytes)
      moving_named Flush e long = act_so Flush e (one_place e, eqb-true _ _ long)

      length_named : (b : Bool) → (length bytes == length_moved o.request.kind piece.places.count rules.sector_size) ≡ b
          → MatchOption (if not b then Some (act_rule.Length (length_moved o.request.kind piece.places.count rules.sector_size) (length bytes))
          else moving_rule rules s piece.number o.request piece.places o.request.kind bytes) CanAct (BreaksAct rules s number bytes)
      length_named true t = moving_named o.request.kind refl t
      length_named false t = (piece, o, owned, (refl, refl, λ same. eqb-false _ _ t same))

    owner_named : (piece : Piece) → IsAtAdapter s number piece → piece.fate ≡ Fresh → (found : Option OpenRequest) → find (has_number piece.owner) s.requests ≡ found
        → MatchOption (owned_rule rules s piece bytes found) CanAct (BreaksAct rules s number bytes)
    owner_named piece out fresh None e = absurd (no_owner number piece out e)
    owner_named piece out fresh (Some o) e = length_named piece o (record { piece_out = out; owner_open = is_open rules s d piece.owner o e }) fresh _ refl

    fresh_named : (piece : Piece) → IsAtAdapter s number piece → (b : Bool) → is_fresh piece.fate ≡ b
        → MatchOption (if not b then Some (act_rule.Before number) else fresh_rule rules s piece bytes) CanAct (BreaksAct rules s number bytes)
    fresh_named piece out true t = owner_named piece out (fresh_fate piece.fate t) (find (has_number piece.owner) s.requests) refl
    fresh_named piece out false t = (refl, piece, out, λ e. both_ways _ t (ap is_fresh e))

    pub acts_named : MatchOption (acting_rule rules s number bytes) ((s' : State) × Acts rules s number bytes s') (BreaksAct rules s number bytes)
    acts_named = by (find (is_piece number) s.pieces) refl
      where
        by : (found : Option Piece) → find (is_piece number) s.pieces ≡ found → MatchOption (acting_rule_of rules s number bytes found) CanAct (BreaksAct rules s number bytes)
        by None e = (refl, found_nowhere piece_number number s.pieces e)
        by (Some piece) e = fresh_named piece (is_out number piece e) (is_fresh piece.fate) refl

  -- FAULTS AND RETURNS

  module _ (number : ℕ) where
    fault_named : (piece : Piece) → IsAtAdapter s number piece → (b : Bool) → is_fresh piece.fate ≡ b
        → MatchOption (if b then None else Some (act_rule.Before number)) ((s' : State) × Faults s number s') (BreaksFault s number)
    fault_named piece out true t =
        let p : (others : List Piece) × IsPermutation s.pieces (piece ∷ others) = first_of s.pieces piece out.is_there in (
          record s { pieces = with_fate Faulted piece ∷ p.0 },
          record {
            piece = piece;
            other_pieces = p.0;
            fresh = record { is_out = p.1; is_number = out.is_number; is_fresh = fresh_fate piece.fate t };
            after = IsSame-refl _;
          },
        )
    fault_named piece out false t = (refl, piece, out, λ e. both_ways _ t (ap is_fresh e))

    pub faults_named : MatchOption (faulting_rule s number) ((s' : State) × Faults s number s') (BreaksFault s number)
    faults_named = by (find (is_piece number) s.pieces) refl
      where
        by : (found : Option Piece) → find (is_piece number) s.pieces ≡ found → MatchOption (faulting_rule_of number found) ((s' : State) × Faults s number s') (BreaksFault s number)
        by None e = (refl, found_nowhere piece_number number s.pieces e)
        by (Some piece) e = fault_named piece (is_out number piece e) (is_fresh piece.fate) refl

    module _ (class : Class) where
      abbrev CanReturn : Type 0
      CanReturn = (s' : State) × Returns s number class s'

      return_by : (piece : Piece) (out : IsAtAdapter s number piece) (marks : List Mark) → LeavesMarks piece class marks → CanReturn
      return_by piece out marks leaves = owner_found (find (has_number piece.owner) s.requests) refl
        where
          owner_found : (found : Option OpenRequest) → find (has_number piece.owner) s.requests ≡ found → CanReturn
          owner_found None e = absurd (no_owner number piece out e)
          owner_found (Some o) e =
              let isopen : IsOpen s piece.owner o = is_open rules s d piece.owner o e in
              let p : (others : List Piece) × IsPermutation s.pieces (piece ∷ others) = first_of s.pieces piece out.is_there in
              let q : (others : List OpenRequest) × IsPermutation s.requests (o ∷ others) = first_of s.requests o isopen.is_there in (
                record s { requests = given_back piece class marks o ∷ q.0; pieces = p.0 },
                record {
                  piece = piece;
                  other_pieces = p.0;
                  owner = o;
                  others = q.0;
                  marks = marks;
                  is_out = p.1;
                  is_number = out.is_number;
                  is_open = q.1;
                  is_owner = isopen.is_number;
                  leaves = leaves;
                  after = IsSame-refl _;
                },
              )

    returns_as : (piece : Piece) → IsAtAdapter s number piece → (class : Class) → MatchOption (returning_rule_of number class piece.fate) (CanReturn class) (BreaksReturnOf s number class)
    returns_as piece out Good = by piece.fate refl
      where
        by : (fate : Fate) → piece.fate ≡ fate → MatchOption (returning_rule_of number Good fate) (CanReturn Good) (BreaksReturnOf s number Good)
        by Fresh e = (piece, out, (sym out.is_number, refl, λ sectors same. cc (e, same)))
        by (Acted sectors) e = return_by Good piece out (map Done sectors) (sectors, e, refl)
        by Faulted e = (piece, out, (sym out.is_number, refl, λ sectors same. cc (e, same)))
    returns_as piece out Busy = by (is_fresh piece.fate) refl
      where
        by : (b : Bool) → is_fresh piece.fate ≡ b → MatchOption (if b then None else Some (return_rule.BusyAfterAct number)) (CanReturn Busy) (BreaksReturnOf s number Busy)
        by true t = return_by Busy piece out (replicate piece.places.count Back) (fresh_fate piece.fate t, refl)
        by false t = (piece, out, (sym out.is_number, refl, λ e. both_ways _ t (ap is_fresh e)))
    returns_as piece out (Bad completion) = by (is_bad (class_of completion)) refl
      where
        by : (b : Bool) → is_bad (class_of completion) ≡ b
            → MatchOption (if b then None else Some (return_rule.GoodCode number completion.srb_status)) (CanReturn (Bad completion)) (BreaksReturnOf s number (Bad completion))
        by true t = return_by (Bad completion) piece out (replicate piece.places.count (Failed (status_of_completion completion))) (bad_class completion t, refl)
        by false t = (piece, out, (sym out.is_number, completion, refl, refl, λ e. both_ways _ t (ap is_bad e)))

    pub returns_named : (class : Class) → MatchOption (returning_rule s number class) ((s' : State) × Returns s number class s') (BreaksReturnOf s number class)
    returns_named class = by (find (is_piece number) s.pieces) refl
      where
        by : (found : Option Piece) → find (is_piece number) s.pieces ≡ found → MatchOption (returned_rule number class found) ((s' : State) × Returns s number class s') (BreaksReturnOf s number class)
        by None e = (refl, found_nowhere piece_number number s.pieces e)
        by (Some piece) e = returns_as piece (is_out number piece e) class
