use Rattle.book.proofs.Common.{None, refl, inl, subst, sym, Event, ServesAfter}
use Rattle.compose.specs.declared.Event.TheVariants.{Act}
use Rattle.book.proofs.Stepping.{after_any}
use Rattle.book.proofs.book.Book.serve.Goals as goal

pub returns-then-not-moves_pieces : goal.returns-then-not-moves_pieces
returns-then-not-moves_pieces g c = record {
  count = 0;
  booked = c.args.self.now;
  books = refl;
  serves = inl (record {
    held = c.args.self.now.traced;
    holds = inl refl;
    served = c.serve_alone.ensures.served;
    taken = c.serve_alone.ensures.taken;
  });
}

pub returns-in-Act : goal.returns-in-Act
returns-in-Act g c =
    let acts = c.act_in.ensures in
    subst (λ (e : Event). ServesAfter None c.args.self.now e c.act_in.result c.act_in.new.self) (sym c.in-Act.is)
    (after_any acts.0 c.args.self.now (Act c.in-Act.tag) c.act_in.result c.act_in.new.self acts.3)
