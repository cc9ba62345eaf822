use Rattle.io_manager.proofs.Common.{ap, ◌∙◌, ManagerView}
use Rattle.io_manager.proofs.InMemory.{whole_labels}
use Rattle.io_manager.proofs.manager.IoManager.take_labels.Goals as goal

pub returns-clause-labels : goal.returns-clause-labels
returns-clause-labels g c =
    let bytes = (c.self.invariant.kept.sound.places.label_bytes ∙ c.self.invariant.kept.sound.fits.keeps_bytes) ∙ (ap (λ (v : ManagerView). v.rules.keeps_bytes) c.self.view_is ∙ c.requires.bytes) in
    c.shrink_to_fit.ensures.items ∙ c.take_all-labels.ensures.all ∙ (whole_labels c.self.inside.parts.tables.labels.keeps_bytes c.self.inside.parts.tables.labels.items bytes ∙ ap (λ (v : ManagerView). v.labels) c.self.view_is)
