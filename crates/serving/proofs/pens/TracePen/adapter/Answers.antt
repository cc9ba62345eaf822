use Rattle.serving.proofs.Common.{Bool, ap}
use Rattle.serving.proofs.pens.TracePen.adapter.Goals as goal

pub returns : goal.returns
returns g c = record { same = ap (λ (k : Bool). record c.args.adapter { shown = record c.args.adapter.shown { keeps_bytes = k } }) c.requires.keeps }
