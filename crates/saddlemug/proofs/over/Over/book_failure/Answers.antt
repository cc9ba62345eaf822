use Rattle.std.proofs.Common.{Bor}
use Rattle.srb.specs.declared.Srb.{Srb}
use Rattle.saddlemug.specs.declared.places.PieceBytes.{PieceBytes}
use Rattle.saddlemug.specs.Over.{IsNotTold, IsTold}
use Rattle.saddlemug.proofs.Booked.{failed_at, good_failure, none_of, not_told, some_of}
use Rattle.saddlemug.proofs.over.Over.book_failure.Goals as goal

pub returns-then-is_none-clause-why : goal.returns-then-is_none-clause-why
returns-then-is_none-clause-why c = not_told c.self.inside.stack c.self.inside.places.items c.args.self.now c.self.view_is c.args.booking.now c.piece-piece.result c.piece-piece.ensures
    (none_of (IsNotTold c.args.self.now c.args.booking.now.tag c.piece-piece.result) (λ (found : Bor Srb × Bor PieceBytes). IsTold c.args.self.now c.args.booking.now.tag c.piece-piece.result found.0.now found.1.now) c.told.result c.if-is_none.ensures c.told.ensures)

pub returns-in_default-clause-why : goal.returns-in_default-clause-why
returns-in_default-clause-why c =
    let found = some_of (IsNotTold c.args.self.now c.args.booking.now.tag c.piece-piece.result) (λ (found : Bor Srb × Bor PieceBytes). IsTold c.args.self.now c.args.booking.now.tag c.piece-piece.result found.0.now found.1.now) c.told.result c.if-is_none.ensures c.told.ensures in
    good_failure c.self.inside.stack c.self.inside.places.items c.args.self.now c.self.view_is c.args.booking.now c.piece-piece.result c.piece-piece.ensures
    found.0.0.now found.0.1.now found.1 c.requires.failed c.in_default.ensures

pub returns-clause-books : goal.returns-clause-books
returns-clause-books c =
    let found = some_of (IsNotTold c.args.self.now c.args.booking.now.tag c.piece-piece.result) (λ (found : Bor Srb × Bor PieceBytes). IsTold c.args.self.now c.args.booking.now.tag c.piece-piece.result found.0.now found.1.now) c.told.result c.if-is_none.ensures c.told.ensures in
    failed_at c.self.inside.stack c.self.inside.places.items c.args.self.now c.self.view_is c.args.booking.now c.piece-piece.result c.piece-piece.ensures
    found.0.0.now found.0.1.now found.1 c.self.inside.disk c.self.invariant c.in-Some.failure c.book.new.self c.requires.failed c.in-Some.ensures.0 c.in-Some.ensures.1 c.book.ensures
