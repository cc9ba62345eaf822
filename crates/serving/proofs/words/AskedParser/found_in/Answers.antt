use Rattle.serving.proofs.Common.{◌≡◌, ◌∙◌, Option, codes, subst, sym, MatchOption, Text, found_of, first_value-rows, SpellsPartition}
use Rattle.serving.proofs.Flags.{flag_is}
use Rattle.serving.proofs.words.AskedParser.found_in.Goals as goal

pub returns-clause-some : goal.returns-clause-some
returns-clause-some c =
    let found = found_of c.args.matches.now in
    let n = c.in-Some.partition in
    record {
      config = sym (c.get_str-config.ensures ∙ first_value-rows found (codes "CONFIG"));
      partition = subst (λ (o : Option Text). MatchOption o (n ≡ 0) (λ word. SpellsPartition word n)) (c.get_str.ensures ∙ first_value-rows found (codes "PARTITION")) c.in-Some.ensures;
      disk = sym (c.get_str-disk.ensures ∙ first_value-rows found (codes "disk"));
      create = flag_is found (codes "create") c.get_flag-create.result c.get_flag-create.ensures.none c.get_flag-create.ensures.value c.get_flag-create.ensures.other;
      trace = sym (c.get_str-trace.ensures ∙ first_value-rows found (codes "trace"));
      beside = flag_is found (codes "beside") c.get_flag-beside.result c.get_flag-beside.ensures.none c.get_flag-beside.ensures.value c.get_flag-beside.ensures.other;
    }

pub returns-in_default-clause-none : goal.returns-in_default-clause-none
returns-in_default-clause-none c = λ _ asked is.
    let found = found_of c.args.matches.now in
    c.in_default.ensures asked.partition
    (subst (λ (o : Option Text). MatchOption o (asked.partition ≡ 0) (λ word. SpellsPartition word asked.partition)) (sym (c.get_str.ensures ∙ first_value-rows found (codes "PARTITION"))) is.partition)
