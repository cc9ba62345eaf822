use Rattle.std.proofs.Common.{◌∙◌, ap, sym, ◌++◌, ◌∷◌, []}
use Rattle.machine.specs.State.{State}
use Rattle.judge.specs.Next.{started_by}
use Rattle.judge.proofs.Branching.{start_is}
use Rattle.judge.proofs.machine_state.Machine.add_start.Goals as goal

pub returns : goal.returns
returns c =
    c.in_ok-push.ensures.items
    ∙ ap (λ (m : State). c.args.found.now.items ++ m ∷ [])
    (c.in_ok-started_with.ensures ∙ ap (λ (t : State). started_by t c.args.tag c.remove_open-entry.result t.requests c.args.start.places) c.remove_open-entry.ensures.rest)
    ∙ ap (λ ys. c.args.found.now.items ++ ys)
    (sym (start_is c.args.self c.args.tag c.args.start.at c.remove_open-entry.result c.args.start.places c.requires c.remove_open-entry.ensures.taken))
