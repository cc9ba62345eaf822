use Rattle.host.proofs.Common.{◌≡◌, TracedView}
use Rattle.host.proofs.Answering.{found_at, is_found}
use Rattle.host.proofs.account.take_answer.Goals as goal

pub unreachable-requires : goal.unreachable-requires
unreachable-requires g c =
    let old : TracedView = c.args.book.now.traced in
    let same : c.take_answer.new.self.traced.entries ≡ old.entries = c.take_answer.ensures.entries in
    let shown = c.shows_whole.ensures in
    let r = c.requires.called in
    is_found c.laws_of_answers.ensures.laws g.N.TraceNaming.rules g.N.TraceNaming.start old.stack.state c.shows_opening.ensures.opening old.owners old.entries c.take_answer.new.self.traced.entries shown.rowed shown.run
    c.args.number c.args.call r.1 r.0 c.in_ok-answer.answer c.in_ok-answer.ensures.takes.2 r.2 c.in_ok-answer.ensures.stands same c.answer_place.result c.answer_place.ensures c.in_default.is

pub returns-clause-answer : goal.returns-clause-answer
returns-clause-answer g c =
    let old : TracedView = c.args.book.now.traced in
    let same : c.take_answer.new.self.traced.entries ≡ old.entries = c.take_answer.ensures.entries in
    let shown = c.shows_whole.ensures in
    let r = c.requires.called in (
      c.in_ok-answer.ensures.takes.2,
      (found_at c.laws_of_answers.ensures.laws g.N.TraceNaming.rules g.N.TraceNaming.start old.stack.state c.shows_opening.ensures.opening old.owners old.entries c.take_answer.new.self.traced.entries shown.rowed shown.run
          c.args.number c.args.call r.1 r.0 c.in_ok-answer.answer c.in_ok-answer.ensures.takes.2 r.2 c.in_ok-answer.ensures.stands same c.answer_place.result c.in-Some.place c.answer_place.ensures c.in-Some.is).0,
      λ client q stood. (found_at c.laws_of_answers.ensures.laws g.N.TraceNaming.rules g.N.TraceNaming.start old.stack.state c.shows_opening.ensures.opening old.owners old.entries c.take_answer.new.self.traced.entries shown.rowed shown.run
          c.args.number c.args.call client q c.in_ok-answer.answer c.in_ok-answer.ensures.takes.2 stood c.in_ok-answer.ensures.stands same c.answer_place.result c.in-Some.place c.answer_place.ensures c.in-Some.is).1,
    )
