use Rattle.serving.proofs.Common.{refl, ap, get_or, length, List, [], ℕ, ◌∙◌, arith, apart, IsNewBooked, MemView, counted}
use Rattle.serving.proofs.Noting.{noted_new}
use Rattle.serving.proofs.on_disk.started.Goals as goal

pub returns-in-Ok-start-clause-started : goal.returns-in-Ok-start-clause-started
returns-in-Ok-start-clause-started g c =
    let new : IsNewBooked c.args.first.items c.args.config.now.sectors c.args.config.now.max_transfer c.args.config.now.depth c.adapter.result = noted_new g.P.Pen.keeps _ _ _ _ c.in-Ok.adapter c.adapter.result c.adapter.ensures.same c.in-Ok.ensures.new in
    record {
      disk = _;
      first = c.in-Ok-start.ensures.view;
      apart = refl;
      kept = ap (λ (v : MemView). v.shown.keeps_bytes) c.adapter.ensures.same;
      sector_size = new.size_is ∙ c.requires.long;
      begins = ap (λ (xs : List (List ℕ)). get_or xs 0 []) new.sectors_are;
      sectors = ap (λ (xs : List (List ℕ)). length xs) new.sectors_are ∙ counted _ _ c.args.first.items (omega (arith, c.requires.range.sectors.0));
      max_transfer = new.transfer_is;
      depth = new.depth_is;
    }

pub returns-in-Err-clause-fault : goal.returns-in-Err-clause-fault
returns-in-Err-clause-fault g c = record {
  adapter = c.adapter.result;
  new = noted_new g.P.Pen.keeps _ _ _ _ c.in-Ok.adapter c.adapter.result c.adapter.ensures.same c.in-Ok.ensures.new;
  after = apart c.in-Err.why.adapter.shown;
  spent = c.in-Err.ensures.fault;
}
