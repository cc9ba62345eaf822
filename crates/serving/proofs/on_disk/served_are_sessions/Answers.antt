use Rattle.serving.proofs.AsSessions.{moments, sessions}
use Rattle.serving.proofs.on_disk.served_are_sessions.Goals as goal

pub returns : goal.returns
returns c = record { sessions = sessions c.runs_are_sessions.ensures.runs; moments = moments c.runs_are_sessions.ensures.moments }
