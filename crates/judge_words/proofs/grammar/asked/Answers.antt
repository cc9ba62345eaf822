use Rattle.judge_words.proofs.grammar.asked.Goals as goal

pub returns : goal.returns
returns c = λ app is. c.in_ok-json.ensures _ (c.in_ok-ended.ensures _ (c.in_ok-settled.ensures _ (c.in_ok-judged.ensures app is)))
