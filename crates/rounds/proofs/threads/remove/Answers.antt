use Rattle.rounds.proofs.Removing.{gone_asked, gone_pulled, removed_asked}
use Rattle.rounds.proofs.threads.remove.Goals as goal

pub returns-in-Ok : goal.returns-in-Ok
returns-in-Ok g c = record {
  told = record {
    paused = c.query_remove-asked.new.keeper.told;
    granted = c.query_remove-asked.ensures.told.accepted c.in-Ok.is;
    removed = c.remove.ensures.told.accepted (removed_asked _ _ _ _ _ c.in-Ok.is c.query_remove-asked.ensures.goes c.remove.ensures.reply c.remove.ensures.goes);
  };
  removed = gone_asked _ _ _ _ _ c.in-Ok.is c.query_remove-asked.ensures.goes c.remove.ensures.reply c.remove.ensures.goes;
}

pub returns : goal.returns
returns g c = record {
  told = record {
    asked = c.query_remove-asked.result;
    queried = c.query_remove-asked.new.keeper.told;
    reply = c.surprise_remove.result;
    told = c.query_remove-asked.ensures.told;
    removed = c.surprise_remove.ensures.told;
  };
  removed = gone_pulled _ _ _ c.surprise_remove.ensures.reply c.surprise_remove.ensures.goes;
}
