use Rattle.std.proofs.Common.{codes}
use Rattle.clap.specs.Words.{found_of}
use Rattle.judge_words.proofs.Flags.{flag_is}
use Rattle.judge_words.proofs.reading.asked_of.Goals as goal

pub returns : goal.returns
returns c =
    let found = found_of c.args.words.now in record {
      any_cut = flag_is found (codes "any-cut") c.get_flag.result c.get_flag.ensures.none c.get_flag.ensures.value c.get_flag.ensures.other;
      any_tag = flag_is found (codes "any-tag") c.get_flag-2.result c.get_flag-2.ensures.none c.get_flag-2.ensures.value c.get_flag-2.ensures.other;
      any_read = flag_is found (codes "any-read") c.get_flag-3.result c.get_flag-3.ensures.none c.get_flag-3.ensures.value c.get_flag-3.ensures.other;
      many = flag_is found (codes "many") c.get_flag-4.result c.get_flag-4.ensures.none c.get_flag-4.ensures.value c.get_flag-4.ensures.other;
      whole_disk = flag_is found (codes "whole-disk") c.get_flag-5.result c.get_flag-5.ensures.none c.get_flag-5.ensures.value c.get_flag-5.ensures.other;
      gaps = flag_is found (codes "gaps") c.get_flag-6.result c.get_flag-6.ensures.none c.get_flag-6.ensures.value c.get_flag-6.ensures.other;
      settled = flag_is found (codes "settled") c.get_flag-7.result c.get_flag-7.ensures.none c.get_flag-7.ensures.value c.get_flag-7.ensures.other;
      ended = flag_is found (codes "ended") c.get_flag-8.result c.get_flag-8.ensures.none c.get_flag-8.ensures.value c.get_flag-8.ensures.other;
      json = flag_is found (codes "json") c.get_flag-9.result c.get_flag-9.ensures.none c.get_flag-9.ensures.value c.get_flag-9.ensures.other;
    }
