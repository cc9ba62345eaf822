use Rattle.volume.proofs.Common.{◌<◌, sym, subst, ap, ◌∙◌, length, Rules, partition_of, ManagerView, content_of, handle_count, IsReady}
use Rattle.io_manager.specs.declared.Reply.TheVariants.{Handle as HandleReply}
use Rattle.volume.proofs.Closing.{IsSilent, given_known, given_on, ready_still, refused_open, same_content, silent_open, still_open}
use Rattle.volume.proofs.Handles.{one_more}
use Rattle.volume.proofs.Untraced.{read_stepped, untraced}
use Rattle.volume.proofs.opening.open_handle.Goals.{in-Handle, in-Refused}
use Rattle.volume.proofs.opening.open_handle.Goals as goal

pub returns-clause-ready : goal.returns-clause-ready
returns-clause-ready g c =
    let silent : IsSilent (untraced c.args.stack.now) c.step-reply.ensures.steps.stepped = silent_open _ c.args.partition c.step-reply.result c.step-reply.ensures.steps.stepped c.step-reply.ensures.steps.right in
    subst IsReady (sym c.step-reply.ensures.steps.after)
    (ready_still c.args.stack.now c.requires.ready c.step-reply.ensures.steps.stepped silent.told silent.by (read_stepped _ _ _ _ c.step-reply.ensures.steps c.step-reply.ensures.between) silent.own silent.device)

pub returns-clause-content : goal.returns-clause-content
returns-clause-content g c =
    let silent : IsSilent (untraced c.args.stack.now) c.step-reply.ensures.steps.stepped = silent_open _ c.args.partition c.step-reply.result c.step-reply.ensures.steps.stepped c.step-reply.ensures.steps.right in
    ap (λ (v : ManagerView). content_of v c.args.partition) c.step-reply.ensures.steps.after
    ∙ same_content c.args.stack.now c.requires.ready c.step-reply.ensures.steps.stepped silent.told silent.by (read_stepped _ _ _ _ c.step-reply.ensures.steps c.step-reply.ensures.between) silent.own silent.device c.args.partition

pub returns-clause-adapter : goal.returns-clause-adapter
returns-clause-adapter g c =
    ap (λ (v : ManagerView). v.adapter) c.step-reply.ensures.steps.after
    ∙ still_open (untraced c.args.stack.now) c.args.partition c.step-reply.result c.step-reply.ensures.steps.stepped c.step-reply.ensures.steps.right

pub returns-clause-opens : goal.returns-clause-opens
returns-clause-opens g c =
    elim c.match-reply.branch [
      | in-Handle w ↦
          let silent : IsSilent (untraced c.args.stack.now) w.in-Handle.ensures.steps.stepped = silent_open _ c.args.partition (HandleReply w.in-Handle.handle) w.in-Handle.ensures.steps.stepped w.in-Handle.ensures.steps.right in
          rw w.result-is (record {
            is_open =
                ap (λ (v : ManagerView). partition_of v.handles w.in-Handle.handle) w.in-Handle.ensures.steps.after
                ∙ given_on (untraced c.args.stack.now) c.args.partition w.in-Handle.handle w.in-Handle.ensures.steps.stepped w.in-Handle.ensures.steps.right.replies.1;
            known =
                subst (λ (v : ManagerView). c.args.partition < length v.rules.partitions) (sym w.in-Handle.ensures.steps.after)
                (subst (λ (r : Rules). c.args.partition < length r.partitions) (sym silent.by.same_rules)
                (given_known c.args.stack.now c.args.partition w.in-Handle.ensures.steps.right.replies.1.not_refused));
          })
      | in-Refused w ↦ rw w.result-is (refused_open c.args.stack.now c.requires.ready c.args.partition w.in-Refused.refusal w.in-Refused.ensures.steps.right.replies.0)
    ]

pub returns-clause-handles : goal.returns-clause-handles
returns-clause-handles g c =
    elim c.match-reply.branch [
      | in-Handle w ↦
          rw w.result-is (
          ap handle_count w.in-Handle.ensures.steps.after
          ∙ one_more (untraced c.args.stack.now) c.args.partition w.in-Handle.handle w.in-Handle.ensures.steps.stepped w.in-Handle.ensures.steps.right.replies.1
          )
      | in-Refused w ↦ rw w.result-is tt
    ]
