use Rattle.file_sessions.proofs.Series.{series_are_sessions}
use Rattle.file_sessions.proofs.series_are_sessions.Goals as goal

pub returns : goal.returns
returns c = series_are_sessions
