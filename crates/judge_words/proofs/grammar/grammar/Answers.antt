use Rattle.judge_words.proofs.grammar.grammar.Goals as goal

pub returns : goal.returns
returns c =
    let check = c.in_ok-check.ensures _ _ c.named-none.ensures c.in_ok-checking.ensures in
    let cut = c.in_ok-cut.ensures _ _ check c.in_ok-cutting.ensures in
    let recorded = c.in_ok-record.ensures _ _ cut c.in_ok-recording.ensures in
    let history = c.in_ok-history.ensures _ _ recorded c.in_ok-telling.ensures in
    c.in_ok-picture.ensures _ _ history c.in_ok-drawing.ensures
