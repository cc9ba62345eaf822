use Rattle.std.proofs.Common.{ap}
use Rattle.miniport.specs.declared.check.Sizes.{Sizes}
use Rattle.miniport.proofs.BookingApart.{after_book}
use Rattle.miniport.proofs.memory.MemAdapter.book_apart.Goals as goal

pub invariant_of-self : goal.invariant_of-self
invariant_of-self g c = (after_book (g.M.Medium.view c.self.inside.medium) c.self.inside.max_transfer c.self.inside.write_protected c.self.inside.table _ _ _ c.args.tag c.args.piece _ c.book_on-booked.result c.self.view_is
    (g.met.M.Medium.whole c.self.inside.medium) c.self.invariant (ap (λ (s : Sizes). s.sector_size) c.sizes_on-sizes.ensures) (ap (λ (s : Sizes). s.sectors) c.sizes_on-sizes.ensures) c.book_on-booked.ensures).kept

pub returns-clause-books : goal.returns-clause-books
returns-clause-books g c = (after_book (g.M.Medium.view c.self.inside.medium) c.self.inside.max_transfer c.self.inside.write_protected c.self.inside.table _ _ _ c.args.tag c.args.piece _ c.book_on-booked.result c.self.view_is
    (g.met.M.Medium.whole c.self.inside.medium) c.self.invariant (ap (λ (s : Sizes). s.sector_size) c.sizes_on-sizes.ensures) (ap (λ (s : Sizes). s.sectors) c.sizes_on-sizes.ensures) c.book_on-booked.ensures).books

pub returns-clause-order : goal.returns-clause-order
returns-clause-order g c = (after_book (g.M.Medium.view c.self.inside.medium) c.self.inside.max_transfer c.self.inside.write_protected c.self.inside.table _ _ _ c.args.tag c.args.piece _ c.book_on-booked.result c.self.view_is
    (g.met.M.Medium.whole c.self.inside.medium) c.self.invariant (ap (λ (s : Sizes). s.sector_size) c.sizes_on-sizes.ensures) (ap (λ (s : Sizes). s.sectors) c.sizes_on-sizes.ensures) c.book_on-booked.ensures).order
