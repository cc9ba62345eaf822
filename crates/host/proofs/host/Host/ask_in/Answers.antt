use Rattle.host.proofs.Common.{◌≡◌, ℕ, List, ◌++◌, refl, ap, ◌∙◌, subst, TracedView, Notice, Receipt}
use Rattle.host.specs.Keepers.{HasNone, IsNoticed, event_of, label_of, notice_of}
use Rattle.host.proofs.Noticing.{begun_stands, below_noted, is_keepers, noted_one}
use Rattle.host.proofs.Quiet.{goes_before}
use Rattle.host.proofs.host.Host.ask_in.Goals as goal

pub unreachable-requires : goal.unreachable-requires
unreachable-requires g c =
    let new : TracedView = c.begin-reply.new.book.traced in
    let stepped = c.begin-reply.ensures.stepped in
    let before = goes_before c.laws_of_numbers.ensures.count g.N.TraceNaming.slots c.args.book.now stepped.marked (event_of c.args.minor) c.begin-reply.result.0 c.begin-reply.new.book (is_keepers c.args.minor (event_of c.args.minor) refl).0 stepped.looks stepped.serves in
    let none = subst (λ (n : Notice). HasNone n c.begin-reply.result.1 new.entries) c.notice.ensures c.in_default-claim_notice.ensures.none in
    begun_stands c.args.minor c.args.book.now.traced before.mid new c.begin-reply.result.0 before.still before.served c.in-Ok.is
    (subst (λ (n : ℕ). HasNone (notice_of c.args.minor) n new.entries) c.begin-reply.ensures.from none)

pub returns-in-Ok-clause-told : goal.returns-in-Ok-clause-told
returns-in-Ok-clause-told g c =
    let same : c.join.new.self ≡ c.args.known.now.told ++ c.in-Some.claim = c.join.ensures ∙ ap (λ (cs : List Receipt). cs ++ c.in-Some.claim) c.begin-reply.ensures.same in
    let noticed = subst (λ (n : Notice). IsNoticed c.begin-reply.result.1 (label_of n) c.in-Some.claim) c.notice.ensures c.in-Some.ensures.noticed in
    record {
      accepted = λ ok. noted_one (label_of (notice_of c.args.minor)) c.begin-reply.result.1 c.args.known.now.told c.in-Some.claim c.join.new.self c.begin-reply.ensures.above noticed same;
      otherwise = λ not. absurd (not c.in-Ok.is);
    }

pub returns-in-Ok-clause-above : goal.returns-in-Ok-clause-above
returns-in-Ok-clause-above g c =
    let same : c.join.new.self ≡ c.args.known.now.told ++ c.in-Some.claim = c.join.ensures ∙ ap (λ (cs : List Receipt). cs ++ c.in-Some.claim) c.begin-reply.ensures.same in
    below_noted c.begin-reply.result.1 c.in-Some.place c.args.known.now.told c.in-Some.claim c.join.new.self c.begin-reply.ensures.above c.in-Some.ensures.place.0 c.in-Some.ensures.place.1 same
