use Rattle.host.proofs.Common.{◌≡◌, ℕ, length, ap, ◌∙◌, sym, subst, BookView, IsStepped, AreBelow, IsReplyTo}
use Rattle.std.specs.Prelude.{None}
use mathlib.Core.Logic.{inl}
use Rattle.pnp.specs.declared.Request.{Request}
use Rattle.host.specs.Standing.{GoesBy, call_of}
use Rattle.host.proofs.Keeping.{below_stand}
use Rattle.host.proofs.host.Host.begin.Goals as goal

pub returns-clause-above : goal.returns-clause-above
returns-clause-above g c =
    let from : c.len-from.result ≡ length c.args.book.now.traced.entries = c.len-from.ensures ∙ ap (λ (b : BookView). length b.traced.entries) c.check.ensures.same.0 in
    subst (λ (n : ℕ). AreBelow n c.args.known.now.told) (sym from) (below_stand c.args.book.now.traced.entries c.args.known.now.told c.check.ensures.stand)

pub returns-clause-stepped : goal.returns-clause-stepped
returns-clause-stepped g c =
    let stepped = subst (λ (b : BookView). IsStepped g.N.TraceNaming.slots None (inl tt) b (call_of c.request.result) c.keep-reply.result c.keep-reply.new.self) c.check.ensures.same.0 c.keep-reply.ensures.stepped in
    subst (λ (r : Request). IsStepped g.N.TraceNaming.slots None (inl tt) c.args.book.now (call_of r) c.keep-reply.result c.keep-reply.new.self) c.request.ensures stepped

pub returns-clause-reply : goal.returns-clause-reply
returns-clause-reply g c = subst (λ (r : Request). IsReplyTo (call_of r) c.keep-reply.result) c.request.ensures c.keep-reply.ensures.reply

pub returns-clause-goes : goal.returns-clause-goes
returns-clause-goes g c = subst (λ (r : Request). GoesBy r c.args.known.now.standing c.keep-reply.result c.keep-reply.new.standing) c.request.ensures c.keep-reply.ensures.goes
