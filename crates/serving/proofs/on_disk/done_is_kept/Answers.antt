use Rattle.serving.proofs.Keeping.{answered_is_kept, flushed_is_kept, secured_is_kept, stays_over_sessions, untouched_is_kept}
use Rattle.serving.proofs.Meanwhile.{answered_meanwhile, flushed_meanwhile, secured_meanwhile, untouched_meanwhile}
use Rattle.serving.proofs.on_disk.done_is_kept.Goals as goal

pub returns : goal.returns
returns c = record {
  flushed = flushed_is_kept c.served_are_sessions.ensures.sessions c.answers_survive.ensures.flushed;
  secured = secured_is_kept c.served_are_sessions.ensures.sessions c.answers_survive.ensures.secured;
  untouched = untouched_is_kept c.served_are_sessions.ensures.sessions c.answers_survive.ensures.untouched;
  flushed_meanwhile = flushed_meanwhile c.runs_are_sessions.ensures.later_moments c.answers_survive.ensures.flushed;
  secured_meanwhile = secured_meanwhile c.runs_are_sessions.ensures.later_moments c.answers_survive.ensures.secured;
  untouched_meanwhile = untouched_meanwhile c.runs_are_sessions.ensures.later_moments c.answers_survive.ensures.untouched;
  answered = answered_is_kept c.served_are_sessions.ensures.sessions c.answers_survive.ensures.no_less c.answers_survive.ensures.remains;
  answered_meanwhile = answered_meanwhile c.runs_are_sessions.ensures.later_moments c.answers_survive.ensures.no_less c.answers_survive.ensures.remains;
  over_sessions = stays_over_sessions c.answers_survive.ensures.no_less (untouched_is_kept c.served_are_sessions.ensures.sessions c.answers_survive.ensures.untouched);
}
