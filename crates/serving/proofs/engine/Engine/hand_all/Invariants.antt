use Rattle.serving.specs.inside.Engines.{EngineHands}
use Rattle.serving.proofs.engine.Engine.hand_all.Given as goal

-- pieces were handed out so far
abbrev pub invariant-loop-tag : goal.invariant-loop-tag
invariant-loop-tag g l = EngineHands l.initial.self l.self
