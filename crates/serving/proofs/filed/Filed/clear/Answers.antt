use Rattle.serving.proofs.Common.{rules, ◌+◌, List, ℕ, None, subst, ◌∙◌, Writes}
use Rattle.serving.proofs.Filing.{cleared_more}
use Rattle.serving.proofs.filed.Filed.clear.Goals as goal

pub loop-done-preserved : goal.loop-done-preserved
loop-done-preserved g c = record {
  within = search rules;
  cleared =
      cleared_more c.args.self.now c.loop-done.self c.write.new.self c.args.offset c.loop-done.done c.min-piece.result c.args.through c.loop-done.invariant.cleared
      (subst (λ (bytes : List ℕ). Writes c.loop-done.self (c.args.offset + c.loop-done.done) bytes c.args.through None c.write.new.self) c.in-Some.ensures c.in_default-write.ensures.writes);
  same = c.write.ensures.same ∙ c.loop-done.invariant.same;
}
