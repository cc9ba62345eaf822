use Rattle.file_sessions.proofs.Moments.{moments_are_sessions, runs_are_sessions}
use Rattle.file_sessions.proofs.Later.{later_moments_are_sessions}
use Rattle.file_sessions.proofs.Series.{none_under_way}
use Rattle.file_sessions.proofs.runs_are_sessions.Goals as goal

pub returns : goal.returns
returns c = record { runs = runs_are_sessions; moments = moments_are_sessions; later_moments = later_moments_are_sessions; none_under_way = none_under_way }
