use Rattle.serving.proofs.Series.{served_series}
use Rattle.serving.proofs.on_disk.served_series_are_sessions.Goals as goal

pub returns : goal.returns
returns c =
    served_series c.served_are_sessions.ensures.sessions c.served_are_sessions.ensures.moments c.traces_tell_sessions.ensures.sessions c.traces_tell_sessions.ensures.moments
    c.any_arrays_do.ensures c.series_are_sessions.ensures
