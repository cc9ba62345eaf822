use Rattle.hold_filter.proofs.Common.{ap, subst, sym, ◌∙◌, All, WaitsIfCancelled, FilterView, TableView, books_of, view_of, FilterKept, Releases}
use Rattle.hold_filter.proofs.Turning.{kept_resumed, resumes}
use Rattle.hold_filter.proofs.layer.FilterHold.resume.Goals as goal

pub release-requires-clause-kept : goal.release-requires-clause-kept
release-requires-clause-kept g c =
    let paused = ap (λ (f : FilterView). f.shown.state.paused) c.self.view_is ∙ c.requires.paused in
    let taken = subst (λ (f : FilterView). All WaitsIfCancelled f.shown.state.requests)
    (sym c.self.view_is) c.requires.taken in
    subst (λ (b : TableView). FilterKept g.D.Shown.stack_size (g.D.Shown.view c.self.inside.parts.device) b)
    (sym c.resume.ensures) (kept_resumed _ _ _ c.self.invariant.in_hand paused taken)

pub returns : goal.returns
returns g c =
    let paused = ap (λ (f : FilterView). f.shown.state.paused) c.self.view_is ∙ c.requires.paused in
    let released = subst
    (λ (b : TableView). Releases (view_of (g.D.Shown.view c.self.inside.parts.device) b)
    (view_of (g.D.Shown.view c.release.new.self.device) (books_of c.release.new.self.table))) c.resume.ensures
    c.release.ensures.releases in
    rw (← c.self.view_is)
    (record {
      resumes = resumes _ _ _ c.self.invariant.in_hand paused (g.D.Shown.view c.release.new.self.device)
          (books_of c.release.new.self.table) released;
    })
