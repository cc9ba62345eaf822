use Rattle.std.proofs.Common.{Vec, Global, List, ℕ, refl, sym, ap, ◌∙◌}
use Rattle.std.specs.Vec.{vec_ptr}
use Rattle.saddlemug.specs.Places.{HasPiece}
use Rattle.saddlemug.proofs.Standing.{none_here, other_here, stands_again_as, stands_first}
use Rattle.saddlemug.proofs.places.stand.Goals.{in_default-via-in-Some+else-own-piece, in_default-via-in_default}
use Rattle.saddlemug.proofs.places.stand.Goals as goal

pub returns-in-Some-clause-stands : goal.returns-in-Some-clause-stands
returns-in-Some-clause-stands c = stands_again_as c.args.piece c.args.srb_data.now c.as_mut_ptr.result c.args.place.now c.in-Some.own c.as_mut_ptr.new.self
    c.if-own-piece.true (sym c.as_mut_ptr.ensures.value) c.in-Some.is c.as_mut_ptr.ensures.unchanged

pub returns-in_ok-bytes-in_default-clause-stands : goal.returns-in_ok-bytes-in_default-clause-stands
returns-in_ok-bytes-in_default-clause-stands c =
    let none : ¬ HasPiece c.args.place.now c.args.piece = elim c.in_default.branch [
      | in_default-via-in-Some+else-own-piece w ↦ other_here c.args.piece c.args.place.now w.in-Some.own w.in-Some.is w.if-own-piece.false
      | in_default-via-in_default w ↦ none_here c.args.piece c.args.place.now w.in_default.is
    ] in
    stands_first c.args.piece c.args.srb_data.now c.as_mut_ptr-at.result c.args.place.now (record { piece = c.args.piece; bytes = c.as_mut_ptr-at.new.self }) refl
    (ap (λ (v : Vec ℕ Global). vec_ptr v) c.as_mut_ptr-at.ensures.unchanged ∙ sym c.as_mut_ptr-at.ensures.value) none
    (ap (λ (v : Vec ℕ Global). v.items) c.as_mut_ptr-at.ensures.unchanged ∙ c.in_ok-bytes-in_default.ensures.items)
