use Rattle.std.proofs.Common.{refl}
use Rattle.loss.proofs.Refuting.{never_written, one_alone, torn}
use Rattle.loss.proofs.works_out.Goals as goal

pub returns : goal.returns
returns c = record {
  held = record {
    written = refl;
    written_left = refl;
    secured = refl;
    flushed = refl;
    flushed_early = refl;
    twice = refl;
    between = refl;
    earlier_later = refl;
    tried = refl;
    tried_flushed = refl;
    doubted = refl;
    doubted_read = refl;
    doubted_at_work = refl;
    mended = refl;
    certain = refl;
  };
  refuted = record { torn = torn; never_written = never_written; read_of_older = one_alone; behind_flush = one_alone; behind_through = one_alone };
  changes = record {
    before = refl;
    first = refl;
    last = refl;
    behind = refl;
    through = refl;
    flush = refl;
    read = refl;
    failed = refl;
    failed_through = refl;
    failed_elsewhere = refl;
    came_back = refl;
    came_back_later = refl;
    failed_flush = refl;
  };
}
