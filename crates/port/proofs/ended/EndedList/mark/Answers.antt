use Rattle.std.proofs.Common.{refl}
use Rattle.port.proofs.ended.EndedList.mark.Goals as goal

pub returns-clause-marks : goal.returns-clause-marks
returns-clause-marks c = record {
  ended = c.in-Some.ended.now;
  marked = _;
  stood = c.in-Some.ensures.value;
  same_entry = c.mark_cancelled.ensures.entry _ _;
  carries = c.mark_cancelled.ensures.payload;
  ends = refl;
  after = refl;
}
