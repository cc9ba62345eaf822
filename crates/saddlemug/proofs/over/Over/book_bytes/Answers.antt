use Rattle.std.proofs.Common.{◌≡◌, ◌<◌, Some, refl, sym, ◌∙◌, rules}
use Rattle.saddlemug.specs.declared.places.PieceBytes.{PieceBytes}
use Rattle.saddlemug.specs.Places.{place_of}
use Rattle.saddlemug.proofs.Booked.{moved_at}
use Rattle.saddlemug.proofs.Standing.{there_at}
use Rattle.saddlemug.proofs.over.Over.book_bytes.Goals as goal

pub returns-clause-books : goal.returns-clause-books
returns-clause-books c =
    let below : c.args.booking.now.tag < 256 = search rules in
    let there : place_of c.self.inside.places.items c.args.booking.now.tag ≡ Some c.in-Some.field-0 =
    sym (there_at c.self.inside.places.items c.args.booking.now.tag c.index_mut.result.now below c.self.invariant.many c.index_mut.ensures.value) ∙ (sym c.take.ensures.value ∙ c.in-Some.is) in
    moved_at c.self.inside.stack c.self.inside.places.items c.args.self.now c.self.view_is c.args.booking.now c.piece-piece.result c.piece-piece.ensures
    c.self.inside.disk c.self.invariant c.in_ok-kind.field-0
    (record { piece = c.piece-piece.result; tag = c.args.booking.now.tag; extent = c.in_ok-kind.field-0.extent; kind = c.in_ok-kind.field-0.kind; bytes = c.new.result })
    c.in-Some.field-0 c.take.new.self c.book.new.self c.requires.moved c.in_ok-kind.ensures.suited there refl refl refl refl
    c.new.ensures c.take.ensures.after c.book.ensures
