use Rattle.std.proofs.Common.{◌++◌, [], sym, ◌∙◌, subst}
use Rattle.history_judge.specs.inside.Cells.{sights_in}
use Rattle.history_judge.specs.inside.Starting.{HasStarts}
use Rattle.history_judge.proofs.trying.begun.Goals as goal

pub returns : goal.returns
returns c =
    let first = c.args.first.now in
    let given = sights_in c.args.given.now in (
      c.in_ok-see_all.ensures.seen [] c.in_ok-tries.ensures.seen,
      λ more. subst (HasStarts first (given ++ more)) (sym (c.in_ok-see_all.ensures.starts ∙ c.in_ok-tries.ensures.starts ∙ c.as_slice.ensures.value)) (c.in_ok-starts.ensures.later c.if-not-over.false more),
    )
