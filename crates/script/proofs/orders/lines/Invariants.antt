use Rattle.std.proofs.Common.{length}
use denote.Shadow.{shadow}
use denote.Text.{Utf8}
use Rattle.script.proofs.Reading.{HasRead}
use Rattle.script.proofs.orders.lines.Given as goal

-- the rest is text, and the lines before it were read
abbrev pub invariant-loop-rest : goal.invariant-loop-rest
invariant-loop-rest l = shadow (Utf8 l.rest) × HasRead l.text l.rest l.lines.items l.number

abbrev pub decreases-loop-rest : goal.decreases-loop-rest
decreases-loop-rest l = length l.rest
