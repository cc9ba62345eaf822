use Rattle.serving.proofs.AsSessions.{traced, traced_moments}
use Rattle.serving.proofs.Lasting.{session_lasts}
use Rattle.serving.proofs.on_disk.traces_tell_sessions.Goals as goal

pub returns : goal.returns
returns c = record {
  traces = λ old input out fault new after h bytes. (session_lasts old.sizes old input out h.end new after h.session).wrote bytes;
  sessions = traced c.runs_are_sessions.ensures.runs;
  moments = traced_moments c.runs_are_sessions.ensures.moments;
}
