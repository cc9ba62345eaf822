-- A walk through the numbers of one remainder.
use Rattle.io_manager.proofs.Common.{ℕ, sym, ◌∙◌, ap, subst, LeadsTo, chain_end}
use Rattle.std.specs.Prelude.{slice_index, option_copied}
use Rattle.io_manager.proofs.Numbered.{Seeks, seeks_first, seeks_next, distance_less, none_found, none_beyond, slot_small}
use Rattle.io_manager.proofs.tables.Tables.slot_of.Goals as goal

pub loop-next-init : goal.loop-next-init
loop-next-init c =
    seeks_first c.args.self.now.requests c.args.self.now.by_number c.requires.numbered c.args.number c.first-next.result
    (subst (λ (r : ℕ). LeadsTo (slice_index c.args.self.now.by_number.after (chain_end r)) c.first-next.result) c.remainder_of.ensures.is c.first-next.ensures)

pub returns-then-request-number-2 : goal.returns-then-request-number-2
returns-then-request-number-2 c =
    none_beyond c.args.self.now.requests c.args.self.now.by_number c.requires.numbered c.args.number c.in-Some.slot (subst (Seeks c.args.self.now.requests c.args.number) c.in-Some.is c.loop-next.invariant) c.in-Some-get.request.now
    (sym c.get.ensures ∙ ap option_copied c.in-Some-get.is) c.if-request-number-2.true

pub next-next-requires : goal.next-next-requires
next-next-requires c = slot_small c.args.self.now.requests c.args.self.now.by_number c.requires.numbered c.args.number c.in-Some.slot (subst (Seeks c.args.self.now.requests c.args.number) c.in-Some.is c.loop-next.invariant)

pub loop-next-smaller : goal.loop-next-smaller
loop-next-smaller c =
    distance_less c.args.self.now.requests c.args.self.now.by_number c.requires.numbered c.args.number c.loop-next.next c.in-Some.slot c.in-Some.is c.loop-next.invariant c.in-Some-get.request.now
    (sym c.get.ensures ∙ ap option_copied c.in-Some-get.is) c.if-request-number-2.false c.if-request-number.false c.next-next.result c.next-next.ensures

pub loop-next-preserved : goal.loop-next-preserved
loop-next-preserved c =
    seeks_next c.args.self.now.requests c.args.self.now.by_number c.requires.numbered c.args.number c.in-Some.slot (subst (Seeks c.args.self.now.requests c.args.number) c.in-Some.is c.loop-next.invariant) c.in-Some-get.request.now
    (sym c.get.ensures ∙ ap option_copied c.in-Some-get.is) c.if-request-number-2.false c.if-request-number.false c.next-next.result c.next-next.ensures

pub returns : goal.returns
returns c = none_found c.args.self.now.requests c.args.self.now.by_number c.requires.numbered c.args.number c.loop-next.next c.in_default.is c.loop-next.invariant
