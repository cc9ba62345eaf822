use Rattle.port.proofs.Fresh.{opens_seen, sizes_are}
use Rattle.port.proofs.Sound.{sound_opens}
use Rattle.port.specs.inside.TableView.{books_of}
use Rattle.port.proofs.Port.new.Goals as goal

pub invariant_of-result : goal.invariant_of-result
invariant_of-result g c = sound_opens (books_of c.in-Ok.queues) (g.A.Adapter.view c.args.adapter) _ (sizes_are (g.A.Adapter.view c.args.adapter) _ _ _ _ _ _ c.sector_size.ensures.exact c.sectors.ensures.exact c.max_transfer.ensures.exact c.depth.ensures.exact c.is_faithful.ensures c.keeps_bytes.ensures) c.in-Ok.ensures c.requires c.depth.ensures.order

pub returns-clause-opening : goal.returns-clause-opening
returns-clause-opening g c =
    opens_seen _ _ _ (sizes_are (g.A.Adapter.view c.args.adapter) _ _ _ _ _ _ c.sector_size.ensures.exact c.sectors.ensures.exact c.max_transfer.ensures.exact c.depth.ensures.exact c.is_faithful.ensures c.keeps_bytes.ensures) c.in-Ok.ensures c.requires
