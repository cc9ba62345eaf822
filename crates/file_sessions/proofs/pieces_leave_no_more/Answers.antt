use Rattle.file_sessions.proofs.Leaving.{at_work_leaves, pieces_leave}
use Rattle.file_sessions.proofs.pieces_leave_no_more.Goals as goal

pub returns : goal.returns
returns c = record { done = pieces_leave; at_work = at_work_leaves }
