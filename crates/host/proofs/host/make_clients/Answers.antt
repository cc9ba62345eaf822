use Rattle.std.proofs.Common.{rules, ◌≡◌, ◌+◌, ◌<◌, ◌++◌, ◌∷◌, [], ℕ, List, length, refl, sym, ap, ◌∙◌, subst, arith, length-append}
use Rattle.host.proofs.Common.{slice_get_read, IsOther, IsClientPass}
use Rattle.host.specs.Clients.{ClientKept, ClientView, HoldsView, client_at, fresh}
use Rattle.host.proofs.Making.{fresh_more, is_fresh, new_client, one_less, popped}
use Rattle.host.proofs.host.make_clients.Goals as goal

pub new-account-requires-clause-handle : goal.new-account-requires-clause-handle
new-account-requires-clause-handle g c =
    let within : c.loop-c.c < length c.args.for_clients.handles.items = search rules in
    c.requires.handles.each c.loop-c.c c.index.result.now (slice_get_read c.args.for_clients.handles.items (length c.args.for_clients.handles.items) c.loop-c.c c.index.result.now refl within c.index.ensures)

pub invariant_of-push_reserved : goal.invariant_of-push_reserved
invariant_of-push_reserved g c =
    let at = c.loop-c.invariant in
    let seat = popped (IsOther g.N.TraceNaming.marks) c.loop-c.seats.items c.pop.new.self.items c.pop.result c.in-Some-Some.seat c.in-Some-Some.is-0 c.pop.ensures.items at.are_seats in
    let pass = popped (IsClientPass g.N.HostNaming.gate) c.loop-c.passes.items c.pop-in-loop-c.new.self.items c.pop-in-loop-c.result c.in-Some-Some.pass c.in-Some-Some.is-1 c.pop-in-loop-c.ensures.items at.are_passes in
    subst (λ (h : HoldsView). ClientKept g.N.HostNaming.gate g.N.TraceNaming.marks c.new-account.result h c.in-Some-Some.seat) (sym c.new-holds.ensures)
    (new_client g.N.HostNaming.gate g.N.TraceNaming.marks c.new-account.result c.in-Some-Some.pass c.in-Some-Some.seat pass.0 seat.0.0)

pub loop-c-preserved : goal.loop-c-preserved
loop-c-preserved g c =
    let at = c.loop-c.invariant in
    let seat = popped (IsOther g.N.TraceNaming.marks) c.loop-c.seats.items c.pop.new.self.items c.pop.result c.in-Some-Some.seat c.in-Some-Some.is-0 c.pop.ensures.items at.are_seats in
    let pass = popped (IsClientPass g.N.HostNaming.gate) c.loop-c.passes.items c.pop-in-loop-c.new.self.items c.pop-in-loop-c.result c.in-Some-Some.pass c.in-Some-Some.is-1 c.pop-in-loop-c.ensures.items at.are_passes in
    let seats = one_less c.loop-c.seats.items c.pop.new.self.items c.pop.result c.in-Some-Some.seat c.in-Some-Some.is-0 c.pop.ensures.items in
    let passes = one_less c.loop-c.passes.items c.pop-in-loop-c.new.self.items c.pop-in-loop-c.result c.in-Some-Some.pass c.in-Some-Some.is-1 c.pop-in-loop-c.ensures.items in
    let x : ClientView = record { client = c.new-account.result.share.client; called = c.new-account.result.called.list; answered = c.new-account.result.answered.list; pass = c.new-holds.result.pass.view; seat = c.in-Some-Some.seat.view } in
    let items : c.push_reserved.new.self.items ≡ c.loop-c.clients.items ++ x ∷ [] = ◌∙◌ {A = List ClientView} c.push_reserved.ensures.items (ap (λ (vs : List ClientView). vs ++ x ∷ []) c.reserve.ensures.items) in
    let are_fresh = subst (λ (vs : List ClientView). (k : ℕ) → k < c.loop-c.c + 1 → client_at vs k ≡ fresh k) (sym items)
    (fresh_more c.loop-c.clients.items x c.loop-c.c at.made at.are_fresh
    (is_fresh g.N.HostNaming.gate g.N.TraceNaming.marks c.loop-c.c c.index.result.now c.new-account.result c.new-holds.result.pass c.in-Some-Some.seat c.new-account.ensures (ap (λ (h : HoldsView). h.pass) c.new-holds.ensures ∙ pass.0) seat.0)) in
    record {
      whole = c.no_claims-in-loop-c.ensures.same ∙ c.no_claims.ensures.same ∙ at.whole;
      parts = (let p = at.parts in let s = c.split_off.ensures.parts_left in omega arith);
      amount = (let p = at.amount in let s = c.split_off.ensures.amount_left in omega arith);
      seats_left = (let l = at.seats_left in omega (arith, seats));
      passes_left = (let l = at.passes_left in omega (arith, passes));
      are_seats = seat.1;
      are_passes = pass.1;
      made = (let m = at.made in omega (arith, ap length items, length-append c.loop-c.clients.items (x ∷ [])));
      numbered = λ k less. ap (λ (v : ClientView). v.client) (are_fresh k less);
      are_fresh = are_fresh;
    }
