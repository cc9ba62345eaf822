-- A piece stands in a place.
use Rattle.std.proofs.Common.{◌≡◌, ◌≢◌, ◌<◌, ℕ, List, Vec, Global, length, slice_index_or, slice_set, Option, Some, None, refl, sym, ap, subst, ◌∙◌}
use Rattle.std.proofs.lemmas.List.{get_or_read_under, set-get_or}
use Rattle.srb.specs.declared.Srb.{Srb}
use Rattle.adapter.specs.Booking.{IsArmed}
use Rattle.io_manager.specs.Shown.{ManagerView}
use Rattle.saddlemug.specs.declared.asked.StackArmed.{StackArmed}
use Rattle.saddlemug.specs.Asking.{IsToldOf}
use Rattle.saddlemug.specs.Over.{OverView, TellsArmed, over}
use Rattle.std.specs.Vec.{vec_ptr}
use denote.RawPtr.{Ptr}
use Rattle.saddlemug.specs.declared.places.PieceBytes.{PieceBytes}
use Rattle.saddlemug.specs.Places.{HasPiece, StandsAt, place_of}

some_is : {x y : PieceBytes} → Some x ≡ Some y → x ≡ y
some_is {x} {y} e = cc

module _ (piece : ℕ) (sent : List ℕ) (at : Ptr) (old : Option PieceBytes) (own : PieceBytes) (is_piece : own.piece ≡ piece) (address : vec_ptr own.bytes ≡ at) where
  pub stands_again : old ≡ Some own → StandsAt old piece sent at old
  stands_again there = record {
    own = own;
    there = there;
    is_piece = is_piece;
    address = address;
    told_before = λ _. refl;
    told_first = λ none. absurd (none (own, there, is_piece));
  }

  pub stands_first : ¬ HasPiece old piece → own.bytes.items ≡ sent → StandsAt old piece sent at (Some own)
  stands_first none bytes = record {
    own = own;
    there = refl;
    is_piece = is_piece;
    address = address;
    told_before = λ has. absurd (none has);
    told_first = λ _. bytes;
  }

pub stands_again_as : (piece : ℕ) (sent : List ℕ) (at : Ptr) (old : Option PieceBytes) (own : PieceBytes) (bytes : Vec ℕ Global) → own.piece ≡ piece → vec_ptr own.bytes ≡ at → old ≡ Some own → bytes ≡ own.bytes
    → StandsAt old piece sent at (Some (record { piece = own.piece; bytes = bytes }))
stands_again_as piece sent at old own bytes is_piece address there same =
    let again : StandsAt old piece sent at (Some own) = subst (λ (p : Option PieceBytes). StandsAt old piece sent at p) there (stands_again piece sent at old own is_piece address there) in
    subst (λ (bs : Vec ℕ Global). StandsAt old piece sent at (Some (record { piece = own.piece; bytes = bs }))) (sym same) again

pub none_here : (piece : ℕ) (place : Option PieceBytes) → place ≡ None → ¬ HasPiece place piece
none_here piece place none has = let clash : None ≡ Some has.0 = sym none ∙ has.1 in absurd (cc (clash))

pub other_here : (piece : ℕ) (place : Option PieceBytes) (own : PieceBytes) → place ≡ Some own → own.piece ≢ piece → ¬ HasPiece place piece
other_here piece place own there differs has =
    let same : own ≡ has.0 = some_is (sym there ∙ has.1) in
    differs (ap (λ (p : PieceBytes). p.piece) same ∙ has.2)

-- the place of a tag, whatever a look at the list gives past its end
pub there_at : (places : List (Option PieceBytes)) (tag : ℕ) (place : Option PieceBytes) → tag < 256 → length places ≡ 256 → place ≡ slice_index_or places tag place → place ≡ place_of places tag
there_at places tag place below many is = get_or_read_under places tag 256 place None is below (sym many)

module _ (stack : ManagerView) (places : List (Option PieceBytes)) (v : OverView) (is : over stack places ≡ v) (tag : ℕ) (below : tag < 256) (many : length places ≡ 256)
    (place : Option PieceBytes) (there : place ≡ slice_index_or places tag place) where
  pub tells_at : (piece : ℕ) (srb : Srb) (told : StackArmed) (sent : List ℕ) (at : Ptr) (after : Option PieceBytes) → IsArmed stack.adapter tag piece srb → IsToldOf piece srb told → told.bytes ≡ at
      → sent ≡ srb.data → StandsAt place piece sent at after → TellsArmed v tag told (over stack (slice_set places tag after))
  tells_at piece srb told sent at after armed is_told address same stands = subst (λ (u : OverView). TellsArmed u tag told (over stack (slice_set places tag after))) is (record {
    piece = piece;
    srb = srb;
    armed = armed;
    is_told = is_told;
    place = after;
    stands = subst (λ (p : Option PieceBytes). StandsAt p piece srb.data told.bytes after) (there_at places tag place below many there)
        (subst (λ (a : Ptr). StandsAt place piece srb.data a after) (sym address) (subst (λ (xs : List ℕ). StandsAt place piece xs at after) same stands));
    after = refl;
  })

  pub same_at : (after : Option PieceBytes) → after ≡ place → over stack (slice_set places tag after) ≡ v
  same_at after same =
      let was : slice_set places tag after ≡ places = ap (λ (p : Option PieceBytes). slice_set places tag p) (same ∙ there_at places tag place below many there) ∙ set-get_or places tag None in
      ap (λ (ps : List (Option PieceBytes)). over stack ps) was ∙ is
