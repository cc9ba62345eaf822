use Rattle.host.proofs.Common.{◌≡◌, ◌<◌, ℕ, List, Option, Some, sym, ap, ◌∙◌, subst, slice_index_or, AreDistinct, Rules, AreDistinct-Run, OpenHandle, IsOpenOn, TracedView, IsServed}
use Rattle.traced.specs.Entries.{labels_of}
use Rattle.host.specs.Calls.{FindsCall, event_of}
use Rattle.host.proofs.Answering.{distinct_at_first}
use Rattle.host.proofs.Calling.{told_call}
use Rattle.host.proofs.Quiet.{still_before}
use Rattle.host.proofs.account.carry_call.Goals as goal

pub returns-clause-told : goal.returns-clause-told
returns-clause-told g c =
    let old : TracedView = c.args.book.now.traced in
    let shown = c.shows_whole.ensures in
    let partition : ℕ = slice_index_or g.N.TraceNaming.partitions c.args.share.now.client 0 in
    let rules : old.stack.rules.open_requests ≡ Some g.N.TraceNaming.slots = ap (λ (r : Rules). r.open_requests) shown.same_rules ∙ c.shows_opening.ensures.slots in
    let bytes : 0 < old.stack.rules.sector_size = subst (λ (r : Rules). 0 < r.sector_size) (sym shown.same_rules) c.shows_opening.ensures.bytes in
    let distinct : AreDistinct old.stack.state =
    AreDistinct-Run g.N.TraceNaming.rules g.N.TraceNaming.start (labels_of old.entries) old.stack.state (distinct_at_first g.N.TraceNaming.start c.shows_opening.ensures.opening) shown.run in
    let is : IsOpenOn old.stack.handles c.args.share.now.handle partition = subst (λ (hs : List (Option OpenHandle)). IsOpenOn hs c.args.share.now.handle partition) (sym shown.same_handles) c.requires.open in
    let called = c.call-reply.ensures in
    let calls = called.2 in
    let mid : TracedView = calls.booked.traced in
    let event : c.on-event.result ≡ event_of c.args.share.now.handle c.args.call = c.on-event.ensures.event ∙ ap (λ h. event_of h c.args.call) c.handle.ensures in
    let served = subst (λ e. IsServed c.args.share.now.client mid e c.call-reply.result c.call-reply.new.self.traced) event calls.served in
    told_call g.N.TraceNaming.slots partition c.args.call old mid c.call-reply.new.self.traced c.args.share.now _ c.call-reply.result c.find_call-place.result
    (still_before c.laws_of_numbers.ensures.count g.N.TraceNaming.slots calls.count c.args.book.now called.0 calls.booked called.1 calls.books) shown.told.next rules bytes distinct is served calls.counted
    (subst (λ (n : ℕ). FindsCall n c.call-reply.new.self.traced.entries c.find_call-place.result) c.len-from.ensures c.find_call-place.ensures.finds)
