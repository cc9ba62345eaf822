use Rattle.file_sessions.proofs.Surviving.{certain_survives, success_survives, through_survives}
use Rattle.file_sessions.proofs.success_survives.Goals as goal

pub returns : goal.returns
returns c = record {
  certain = certain_survives c.certain_is_left.ensures.left;
  through = through_survives c.success_is_left.ensures.through c.certain_is_left.ensures.stays c.certain_is_left.ensures.left;
  flushed = success_survives c.success_is_left.ensures.all;
}
