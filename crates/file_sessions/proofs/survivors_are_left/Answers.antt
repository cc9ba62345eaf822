use Rattle.file_sessions.proofs.Surviving.{remains_are_left, survivors_are_left}
use Rattle.file_sessions.proofs.survivors_are_left.Goals as goal

pub returns : goal.returns
returns c = record { lost = survivors_are_left; ended = remains_are_left }
