use Rattle.serving.proofs.Common.{◌≡◌, [], ap, subst, ◌∙◌, rules}
use Rattle.nbd.specs.Desks.{GoesOn}
use Rattle.nbd.specs.declared.beside.Happening.TheVariants.{Ended}
use Rattle.serving.specs.inside.Busy.{left_of}
use Rattle.serving.specs.inside.Dues.{due_places}
use Rattle.serving.specs.inside.Since.{BusyView, SinceFirst}
use Rattle.serving.proofs.Since.{ends_steps}
use Rattle.serving.proofs.busy.Busy.ends.Goals as goal

pub returns : goal.returns
returns g c =
    let none : due_places c.self.inside.slots.items ≡ [] = search rules in
    subst (λ (b : BusyView). GoesOn left_of SinceFirst b (Ended c.in_ok-end.end) b) c.self.view_is
    (ends_steps _ c.in_ok-end.end (ap (λ (b : BusyView). b.ready) c.self.view_is ∙ c.requires.none_ready) c.in_ok-end.ensures none)
