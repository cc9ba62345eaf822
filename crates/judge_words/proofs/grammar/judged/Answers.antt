use Rattle.judge_words.proofs.grammar.judged.Goals as goal

pub returns : goal.returns
returns c = λ app is. c.in_ok-gaps.ensures _ (c.in_ok-disk.ensures _ (c.in_ok-many.ensures _ (c.in_ok-read.ensures _ (c.in_ok-tag.ensures _ (c.in_ok-cut.ensures app is)))))
