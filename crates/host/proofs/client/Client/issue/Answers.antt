use Rattle.std.proofs.Common.{List, subst}
use Rattle.host.specs.Accounts.{IsCalled, IsTurnedDown, partition_of}
use Rattle.host.specs.Clients.{ClientView}
use Rattle.host.specs.Receipts.{Receipt}
use Rattle.host.specs.Tickets.{IsBusy, WasUsedUp}
use Rattle.host.proofs.Holding.{if_err, if_ok, issued, kept_back, kept_out, kept_without, no_hold_other, not_busy, refused_early, refused_late}
use Rattle.host.proofs.client.Client.issue.Goals as goal

pub invariant_of-self-in-Err : goal.invariant_of-self-in-Err
invariant_of-self-in-Err g c =
    kept_without g.N.HostNaming.gate g.N.TraceNaming.marks c.self.inside.account c.make_places.new.self c.self.inside.holds c.take.new.self c.self.inside.seat c.self.invariant
    c.take.ensures.gate c.take.ensures.out c.in-Err.reason c.make_places.ensures.no_less c.in-Err.ensures.refused

pub returns-in-Err-clause-refused : goal.returns-in-Err-clause-refused
returns-in-Err-clause-refused g c =
    refused_early g.N.TraceNaming.partitions c.args.call c.self.inside.account c.make_places.new.self c.self.inside.holds c.take.new.self c.self.inside.seat.view c.args.self.now c.self.view_is
    c.make_places.ensures.share c.make_places.ensures.lists.0 c.make_places.ensures.lists.1 c.in-Err.reason c.refused-in-Err.result c.self.invariant.quota c.in-Err.ensures.refused c.refused-in-Err.ensures

pub invariant_of-self-in-Ok-issued : goal.invariant_of-self-in-Ok-issued
invariant_of-self-in-Ok-issued g c =
    let called = if_ok (λ t. IsCalled (partition_of g.N.TraceNaming.partitions c.make_places.new.self.share.client) c.make_places.new.self t c.args.call c.issue_and_note-issued.new.self) c.issue_and_note-issued.result.0 c.in-Ok-issued.ticket c.in-Ok-issued.is c.issue_and_note-issued.ensures.issued in
    kept_out g.N.HostNaming.gate g.N.TraceNaming.marks c.self.inside.account c.make_places.new.self c.self.inside.holds c.take.new.self c.self.inside.seat c.self.invariant
    c.take.ensures.gate c.take.ensures.out c.out.result c.out.ensures c.in-Ok.ensures.room.1 c.in-Ok-take.ensures.held c.issue_and_note-issued.new.self c.give_out.new.self c.give_out.ensures.pass c.give_out.ensures.out called.answered

pub invariant_of-self-in-Err-issued : goal.invariant_of-self-in-Err-issued
invariant_of-self-in-Err-issued g c =
    let refused = if_err (λ e. IsTurnedDown (partition_of g.N.TraceNaming.partitions c.make_places.new.self.share.client) c.make_places.new.self c.args.call e c.issue_and_note-issued.new.self) c.issue_and_note-issued.result.0 c.in-Err-issued.refusal c.in-Err-issued.is c.issue_and_note-issued.ensures.refused in
    kept_back g.N.HostNaming.gate g.N.TraceNaming.marks c.self.inside.account c.make_places.new.self c.self.inside.holds c.take.new.self c.self.inside.seat c.self.invariant
    c.take.ensures.gate c.take.ensures.out c.out.result c.out.ensures c.in-Ok.ensures.room.1 c.in-Ok-take.ensures.held c.issue_and_note-issued.new.self c.take_back.new.self c.take_back.ensures.gate c.take_back.ensures.out c.take_back.ensures.back refused.room

pub returns-in-Ok-issued-clause-issued : goal.returns-in-Ok-issued-clause-issued
returns-in-Ok-issued-clause-issued g c =
    let called = if_ok (λ t. IsCalled (partition_of g.N.TraceNaming.partitions c.make_places.new.self.share.client) c.make_places.new.self t c.args.call c.issue_and_note-issued.new.self) c.issue_and_note-issued.result.0 c.in-Ok-issued.ticket c.in-Ok-issued.is c.issue_and_note-issued.ensures.issued in
    issued g.N.TraceNaming.partitions c.args.call c.self.inside.account c.make_places.new.self c.self.inside.holds c.take.new.self c.self.inside.seat.view c.args.self.now c.self.view_is
    c.make_places.ensures.share c.make_places.ensures.lists.0 c.make_places.ensures.lists.1 c.issue_and_note-issued.new.self c.give_out.new.self c.in-Ok-take.ensures.held c.in-Ok-issued.ticket called c.give_out.ensures.pass

pub returns-in-Err-issued-clause-refused : goal.returns-in-Err-issued-clause-refused
returns-in-Err-issued-clause-refused g c =
    let refused = if_err (λ e. IsTurnedDown (partition_of g.N.TraceNaming.partitions c.make_places.new.self.share.client) c.make_places.new.self c.args.call e c.issue_and_note-issued.new.self) c.issue_and_note-issued.result.0 c.in-Err-issued.refusal c.in-Err-issued.is c.issue_and_note-issued.ensures.refused in
    refused_late g.N.TraceNaming.partitions c.args.call c.self.inside.account c.make_places.new.self c.self.inside.holds c.take.new.self c.self.inside.seat.view c.args.self.now c.self.view_is
    c.make_places.ensures.share c.make_places.ensures.lists.0 c.make_places.ensures.lists.1 c.issue_and_note-issued.new.self c.take_back.new.self c.in-Ok-take.ensures.held c.in-Err-issued.refusal refused c.take_back.ensures.back

pub returns-in-Err-clause-used_up : goal.returns-in-Err-clause-used_up
returns-in-Err-clause-used_up g c = not_busy c.in-Err.reason c.refused-in-Err.result _ c.refused-in-Err.ensures (no_hold_other c.in-Err.reason _ _ c.in-Err.ensures.refused)

pub returns-in-Err-issued-clause-used_up : goal.returns-in-Err-issued-clause-used_up
returns-in-Err-issued-clause-used_up g c busy =
    let Used : List Receipt → List Receipt → Type 0 = WasUsedUp g.N.TraceNaming.rules g.N.TraceNaming.start g.N.TraceNaming.partitions g.N.TraceNaming.handles in
    let used = if_err (λ r. IsBusy r → Used c.make_places.new.self.called.list c.make_places.new.self.answered.list) c.issue_and_note-issued.result.0 c.in-Err-issued.refusal c.in-Err-issued.is c.issue_and_note-issued.ensures.used_up in
    subst (λ (v : ClientView). Used v.called v.answered) c.self.view_is
    (subst (λ (cs : List Receipt). Used cs c.self.inside.account.answered.list) c.make_places.ensures.lists.0
    (subst (λ (cs : List Receipt). Used c.make_places.new.self.called.list cs) c.make_places.ensures.lists.1 (used busy)))
