use Rattle.script.proofs.Common.{arith, rules, ◌∙◌, ap, length, subst, sym, Asks, is_event, words_of}
use borrow.Author.Tests.{eqb-true}
use Rattle.script.proofs.Reading.{all_read, bad_line, nothing_read, read_event, read_past}
use Rattle.script.proofs.orders.lines.Goals as goal

pub loop-rest-init : goal.loop-rest-init
loop-rest-init c = (search rules, nothing_read c.args.text.now c.new-lines.result.items c.new-lines.ensures.items)

pub loop-rest-preserved-then-not-is_event : goal.loop-rest-preserved-then-not-is_event
loop-rest-preserved-then-not-is_event c =
    let past =
    read_past c.args.text.now c.loop-rest.rest.now c.first_line.result.0.now c.first_line.result.1.now
    c.loop-rest.lines.items c.loop-rest.number c.saturating_add-number.result c.loop-rest.invariant.1
    c.first_line.ensures.first (omega arith) c.saturating_add-number.ensures
    (ap is_event (sym c.trimmed-text.ensures) ∙ sym c.is_event.ensures ∙ c.if-not-is_event.true) in
    (search rules, past)

pub returns-in_default-clause-fault : goal.returns-in_default-clause-fault
returns-in_default-clause-fault c =
    bad_line c.args.text.now c.loop-rest.rest.now c.first_line.result.0.now c.first_line.result.1.now
    c.loop-rest.lines.items c.loop-rest.number c.saturating_add-number.result c.loop-rest.invariant.1
    c.first_line.ensures.first (omega arith) c.saturating_add-number.ensures
    (ap is_event (sym c.trimmed-text.ensures) ∙ sym c.is_event.ensures ∙ c.if-not-is_event.false)
    (λ order asked. c.in_default.ensures order
    (subst (λ text. Asks (words_of text) order) (sym c.trimmed-text.ensures) asked))

pub loop-rest-preserved : goal.loop-rest-preserved
loop-rest-preserved c =
    let event =
    read_event c.args.text.now c.loop-rest.rest.now c.first_line.result.0.now c.first_line.result.1.now
    c.loop-rest.lines.items c.loop-rest.number c.saturating_add-number.result c.loop-rest.invariant.1
    c.first_line.ensures.first (omega arith) c.saturating_add-number.ensures
    c.push.new.self.items (record { text = c.trimmed-text.result; order = c.in-Some.order })
    (ap is_event (sym c.trimmed-text.ensures) ∙ sym c.is_event.ensures ∙ c.if-not-is_event.false)
    (record {
      same_text = c.trimmed-text.ensures;
      asked = subst (λ text. Asks (words_of text) c.in-Some.order) c.trimmed-text.ensures c.in-Some.ensures;
    })
    c.in-Ok.ensures.items in
    (search rules, event)

pub returns-clause-events : goal.returns-clause-events
returns-clause-events c =
    all_read c.args.text.now c.loop-rest.rest.now c.loop-rest.lines.items c.loop-rest.number c.loop-rest.invariant.1
    (eqb-true (length c.loop-rest.rest.now) 0 (sym c.is_empty.ensures ∙ c.loop-rest-test.false))
