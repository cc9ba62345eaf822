use Rattle.std.proofs.Common.{◌≡◌, subst, inl, inr, rules}
use Rattle.saddlemug.specs.Over.{IsNotArmed, OverView}
use Rattle.saddlemug.proofs.over.Over.armed_as.Goals.{in_default-via-in-Some+then-armed-piece+else-piece-ne0, in_default-via-in-Some+else-armed-piece, in_default-via-in_default}
use Rattle.saddlemug.proofs.over.Over.armed_as.Goals as goal

pub returns-in_default : goal.returns-in_default
returns-in_default c = subst (λ (v : OverView). IsNotArmed v c.args.tag c.args.piece) c.self.view_is (elim c.in_default.branch [
  | in_default-via-in-Some+then-armed-piece+else-piece-ne0 w ↦ inr (w.in-Some.armed, w.in-Some.srb.now, w.in-Some.ensures, inr w.if-piece-ne0.false)
  | in_default-via-in-Some+else-armed-piece w ↦ inr (w.in-Some.armed, w.in-Some.srb.now, w.in-Some.ensures, inl w.if-armed-piece.false)
  | in_default-via-in_default w ↦ inl w.in_default.ensures
])
