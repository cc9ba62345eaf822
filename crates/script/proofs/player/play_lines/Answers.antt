use Rattle.script.proofs.Common.{◌∙◌, ap, refl, rules, take_all, Rules, ManagerView}
use Rattle.script.proofs.Playing.{all_played, line_played, none_played, none_waits, one_waits}
use Rattle.script.proofs.player.play_lines.Goals as goal

pub loop-line-init : goal.loop-line-init
loop-line-init g c = record {
  taken = c.requires.taken;
  named = c.new-given.ensures.named;
  rules = refl;
  text = none_played c.args.telling.now.style _ c.new-given.result _ c.new-given.ensures.handles c.new-given.ensures.requests;
}

pub tell-requires-clause-bytes : goal.tell-requires-clause-bytes
tell-requires-clause-bytes g c = λ is. ap (λ (r : Rules). r.keeps_bytes) (c.carry_out-reply.ensures.same_rules ∙ c.loop-line.invariant.rules) ∙ c.requires.bytes is

pub loop-line-preserved : goal.loop-line-preserved
loop-line-preserved g c =
    let told = line_played c.args.telling.now.style _ _ _ _ _ _ _ c.carry_out-reply.ensures c.in_ok-keep.ensures.keeps c.in_ok-tell.ensures.taken c.in_ok-tell.ensures.text in record {
      taken = none_waits c.args.telling.now.style _ _ _ _ told.is;
      named = c.in_ok-keep.ensures.named;
      rules = ap (λ (v : ManagerView). v.rules) c.in_ok-tell.ensures.taken ∙ (c.carry_out-reply.ensures.same_rules ∙ c.loop-line.invariant.rules);
      text = one_waits c.args.telling.now.style _ c.args.lines.now c.loop-line.line-index _ _ _ _ _ _ _ _ c.loop-line-test.true c.loop-line.invariant.text c.in_ok-write_block.ensures told;
    }

pub returns-clause-text : goal.returns-clause-text
returns-clause-text g c =
    all_played c.args.telling.now.style _ c.args.lines.now c.loop-line.line-index _ _ _ (take_all c.loop-line.line-index c.args.lines.now (search rules)) c.loop-line.invariant.text
