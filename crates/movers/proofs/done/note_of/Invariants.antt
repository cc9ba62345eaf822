use Rattle.std.proofs.Common.{◌∷◌, []}
use Rattle.movers.proofs.done.note_of.Given as goal

-- the record itself
abbrev pub ghost-with : goal.ghost-with
ghost-with a = a._from.now ∷ []
