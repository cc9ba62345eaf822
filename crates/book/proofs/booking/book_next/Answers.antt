use Rattle.book.proofs.Common.{◌≡◌, ◌++◌, ℕ, Bool, List, Some, length, rules, true, subst, Label, JournalView, IsServed, HasNoNext, MayBook, Claimed, HaveNotedAll, TakesNext}
use Rattle.std.specs.Prelude.{MatchBool, slice_get}
use Rattle.compose.specs.declared.Event.TheVariants.{Act}
use Rattle.traced.specs.Entries.{labels_of}
use Rattle.book.proofs.Telling.{books_one, kept_on}
use Rattle.book.proofs.booking.book_next.Goals as goal

pub returns-clause-kept : goal.returns-clause-kept
returns-clause-kept g c =
    let l = c.laws_of_entries.ensures in
    let s = c.shows_stack-2.ensures in
    let booked = c.book_entry-tag.ensures in
    let yes : c.may_book.result ≡ true = search rules in
    let decided = subst (λ (b : Bool). MatchBool b (MayBook g.N.TraceNaming.rules c.args.traced.now.stack.adapter c.args.journal.now c.len-number.result) (HasNoNext g.N.TraceNaming.rules c.args.traced.now.stack.adapter c.args.journal.now c.len-number.result)) yes c.may_book.ensures.decides in
    let may = subst (λ (k : ℕ). MayBook g.N.TraceNaming.rules c.args.traced.now.stack.adapter c.args.journal.now k) c.len-number.ensures decided in
    let at = subst (λ (k : ℕ). slice_get c.may_book.new.journal.entered k ≡ Some booked.0) c.len-number.ensures booked.1 in
    let there = subst (λ (v : JournalView). slice_get v.entered (length c.args.taken.now) ≡ Some booked.0) c.may_book.ensures.same.1 at in
    let takes = subst (λ (v : JournalView). TakesNext v.entered c.args.taken.now c.add.new.self) c.may_book.ensures.same.1 c.add.ensures.takes in
    let served = subst (λ (t : ℕ). IsServed 0 c.book_entry-tag.new.traced (Act t) c.serve.result c.serve.new.traced) booked.2 c.serve.ensures.served in
    let noted = subst (λ (ts : Claimed). (labels : List Label) → labels_of c.serve.new.traced.entries ≡ labels_of c.book_entry-tag.new.traced.entries ++ labels → HaveNotedAll labels ts c.serve.new.tags) c.may_book.ensures.same.0 c.serve.ensures.noted in
    kept_on l.armed l.booked l.apart l.stays _ _ _ _ c.args.traced.now c.book_entry-tag.new.traced c.serve.new.traced c.args.taken.now c.add.new.self c.args.tags.now c.serve.new.tags c.args.journal.now booked.0 c.serve.result
    c.requires.kept c.shows_whole.ensures c.shows_stack.ensures.whole c.shows_stack.ensures.in_order may there booked.3 s.in_order s.whole s.reached served noted takes

pub returns-clause-books : goal.returns-clause-books
returns-clause-books g c =
    let l = c.laws_of_entries.ensures in
    let s = c.shows_stack-2.ensures in
    let booked = c.book_entry-tag.ensures in
    let yes : c.may_book.result ≡ true = search rules in
    let decided = subst (λ (b : Bool). MatchBool b (MayBook g.N.TraceNaming.rules c.args.traced.now.stack.adapter c.args.journal.now c.len-number.result) (HasNoNext g.N.TraceNaming.rules c.args.traced.now.stack.adapter c.args.journal.now c.len-number.result)) yes c.may_book.ensures.decides in
    let may = subst (λ (k : ℕ). MayBook g.N.TraceNaming.rules c.args.traced.now.stack.adapter c.args.journal.now k) c.len-number.ensures decided in
    let at = subst (λ (k : ℕ). slice_get c.may_book.new.journal.entered k ≡ Some booked.0) c.len-number.ensures booked.1 in
    let there = subst (λ (v : JournalView). slice_get v.entered (length c.args.taken.now) ≡ Some booked.0) c.may_book.ensures.same.1 at in
    let takes = subst (λ (v : JournalView). TakesNext v.entered c.args.taken.now c.add.new.self) c.may_book.ensures.same.1 c.add.ensures.takes in
    let served = subst (λ (t : ℕ). IsServed 0 c.book_entry-tag.new.traced (Act t) c.serve.result c.serve.new.traced) booked.2 c.serve.ensures.served in
    let noted = subst (λ (ts : Claimed). (labels : List Label) → labels_of c.serve.new.traced.entries ≡ labels_of c.book_entry-tag.new.traced.entries ++ labels → HaveNotedAll labels ts c.serve.new.tags) c.may_book.ensures.same.0 c.serve.ensures.noted in
    books_one l.armed l.booked l.apart l.stays _ _ _ _ c.args.traced.now c.book_entry-tag.new.traced c.serve.new.traced c.args.taken.now c.add.new.self c.args.tags.now c.serve.new.tags c.args.journal.now booked.0 c.serve.result
    c.requires.kept c.shows_whole.ensures c.shows_stack.ensures.whole c.shows_stack.ensures.in_order may there booked.3 s.in_order s.whole s.reached served noted takes c.book_entry-tag.result booked.2
