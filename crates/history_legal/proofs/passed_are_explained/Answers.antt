use Rattle.history_legal.proofs.Passing.{passed_explained}
use Rattle.history_legal.proofs.passed_are_explained.Goals as goal

pub returns : goal.returns
returns c = passed_explained (record {
  codes_tell = c.codes_tell.ensures;
  gaps_filled = c.gaps_are_filled.ensures;
  shown_scheduled = c.shown_are_scheduled.ensures;
  moved_explained = c.moved_are_explained.ensures;
})
