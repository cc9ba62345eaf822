use Rattle.script.proofs.Common.{◌≡◌, take, append_known, AreNamed, IsAllTaken, IsToldTo, Prints}
use Rattle.script.proofs.player.play_lines.Given as goal

-- the lines so far are played, what was given stands under its number, and the rules stay
abbrev pub invariant-loop-line : goal.invariant-loop-line
invariant-loop-line g l = record {
  taken : IsAllTaken l.stack;
  named : AreNamed l.given;
  rules : l.stack.rules ≡ l.initial.stack.rules;
  text : Prints (append_known (g.W.Write.contents l.initial.out) l.initial.telling.text.items) (append_known (g.W.Write.contents l.out) l.telling.text.items)
      (λ told. IsToldTo l.initial.telling.style l.initial.stack (take l.line-index l.lines) told (record { stack = l.stack; given = l.given }));
}
