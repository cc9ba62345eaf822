use Rattle.std.proofs.Common.{◌<◌, ◌≤◌, ◌∙◌, arith, length, ◌++◌, sym, ap, subst, Vec}
use Rattle.std.specs.Global.{Global}
use Rattle.judge.specs.declared.machine_state.Machine.{Machine}
use Rattle.judge.specs.Next.{started_each}
use Rattle.judge.specs.Starting.{IsPending, pending_states}
use Rattle.judge.specs.Views.{rules_of}
use Rattle.judge.proofs.Branching.{one_more, no_more, none_found, one_found}
use Rattle.judge.proofs.machine_state.Machine.add_starts.Goals as goal
use Rattle.judge.proofs.machine_state.Machine.add_starts.Goals.{then-is_some+in_ok-add_pending, else-is_some}

pub loop-at-preserved : goal.loop-at-preserved
loop-at-preserved c =
    let low : c.loop-at.at < length c.args.self.requests = omega arith in
    let items = λ (v : Vec Machine Global). v.items in
    let told = rules_of c.args.rules.now in
    let tag = c.args.start.tag in
    let owner = c.args.start.owner in
    let command = c.args.start.command in
    record {
      pending =
          elim c.if-is_some.branch [
            | then-is_some+in_ok-add_pending w ↦
                subst (IsPending c.args.self) (sym w.pending-is) c.start_at-next.ensures.pending
            | else-is_some w ↦ subst (IsPending c.args.self) (sym w.pending-is) c.loop-at.invariant.pending
          ];
      adds = one_more c.args.self.requests (started_each told c.args.self tag owner command)
          (c.loop-at.found.items ++ pending_states c.args.self tag c.loop-at.pending) _ _ c.loop-at.at low
          (elim c.if-is_some.branch [
            | then-is_some+in_ok-add_pending w ↦
                one_found c.args.self tag told owner command c.loop-at.found.items c.if-is_some.found.items c.loop-at.at
                c.loop-at.pending c.start_at-next.result c.if-is_some.pending c.start_at-next.ensures.starts
                (ap items w.found-is ∙ w.in_ok-add_pending.ensures) w.pending-is
            | else-is_some w ↦
                none_found c.args.self tag told owner command c.loop-at.found.items c.if-is_some.found.items c.loop-at.at
                c.loop-at.pending c.start_at-next.result c.if-is_some.pending c.start_at-next.ensures.starts
                (sym c.is_some.ensures ∙ w.if-is_some.false) (ap items w.found-is) w.pending-is
          ])
          c.loop-at.invariant.adds;
    }

pub returns : goal.returns
returns c =
    let past : length c.args.self.requests ≤ c.loop-at.at = omega arith in
    c.in_ok-add_last.ensures
    ∙ no_more c.args.self.requests
    (started_each (rules_of c.args.rules.now) c.args.self c.args.start.tag c.args.start.owner c.args.start.command)
    (c.loop-at.found.items ++ pending_states c.args.self c.args.start.tag c.loop-at.pending) _ c.loop-at.at past
    c.loop-at.invariant.adds
