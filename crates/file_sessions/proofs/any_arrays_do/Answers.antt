use Rattle.file_sessions.proofs.Exchanging.{any_arrays_do}
use Rattle.file_sessions.proofs.any_arrays_do.Goals as goal

pub returns : goal.returns
returns c = any_arrays_do
