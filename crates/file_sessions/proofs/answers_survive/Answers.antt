use Rattle.file_sessions.proofs.Answered.{answered_remains, flushed_survives, remains_survive, secured_survives, untouched_survives}
use Rattle.file_sessions.proofs.answers_survive.Goals as goal

pub returns : goal.returns
returns c = record {
  flushed = flushed_survives c.success_survives.ensures.flushed;
  secured = secured_survives c.success_survives.ensures.through;
  untouched = untouched_survives c.certain_is_left.ensures.stays c.success_survives.ensures.certain;
  remains = answered_remains c.success_is_left.ensures.read c.survivors_are_left.ensures.ended;
  no_less = remains_survive;
}
