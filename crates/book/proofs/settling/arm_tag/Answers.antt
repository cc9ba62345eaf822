use Rattle.book.proofs.Common.{◌<◌, inl, inr, length, rules, subst, sym, IsArmed, Arms, JournalView, MayArm, ArmsTag}
use Rattle.book.proofs.Settled.{on_put}
use Rattle.book.proofs.settling.arm_tag.Goals as goal

pub returns-in-Some-of : goal.returns-in-Some-of
returns-in-Some-of g c =
    let inside : c.args.tag < length c.args.tags.now = search rules in
    let armed : IsArmed c.args.traced.now.stack.adapter c.args.tag c.in-Some.piece c.in-Some.srb.now = search rules in
    let may : MayArm c.args.journal.now c.args.tag c.in-Some.srb.now = search rules in
    let arms : Arms c.args.journal.now c.args.tag c.in-Some.piece c.in-Some.srb.now c.arm.new.self = search rules in
    let of = c.in-Some-of.ensures.arming in
    record {
      on_tags =
          on_put c.args.traced.now.stack.adapter c.args.tags.now c.args.tag c.in-Some.piece c.in-Some.srb.now c.args.journal.now c.arm.new.self c.in-Some-of.arming c.requires.on_tags inside armed may arms of.0 of.1 of.2
          c.put.new.self c.put.ensures;
      arms =
          subst (λ (j : JournalView). ArmsTag c.args.traced.now.stack.adapter c.args.tag c.args.journal.now j) (sym c.in-Some-of.ensures.same)
          (inr (c.in-Some.piece, c.in-Some.srb.now, armed, inl arms));
    }
