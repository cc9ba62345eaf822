use Rattle.class_disk.specs.inside.TableView.{books_of}
use Rattle.class_disk.proofs.Fresh.{opens_in_hand, opens_shown}
use Rattle.class_disk.proofs.Disk.new.Goals as goal

pub invariant_of-result : goal.invariant_of-result
invariant_of-result g c = record {
  takes = c.requires.takes;
  in_hand = opens_in_hand (g.D.Shown.view c.args.device) _ (books_of c.new.result) c.requires.fresh c.shows_order.ensures.order c.new.ensures c.requires.size c.longest.ensures c.sectors.ensures c.keeps_bytes.ensures;
}

pub returns : goal.returns
returns g c = opens_shown (g.D.Shown.view c.args.device) _ (books_of c.new.result) c.requires.fresh c.new.ensures
