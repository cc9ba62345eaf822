-- What was overwritten, as the judge keeps it.
use Rattle.std.specs.Prelude.{ℕ, Bool, List, map, nat_lt}
use Rattle.sector_judge.specs.declared.candidates.Candidate.{Candidate}
use Rattle.sector_judge.specs.declared.candidates.Older.{Older}
use Rattle.loss.specs.Held.{HeldOf, OlderOf}

abbrev pub outdated : ℕ → Candidate → Older
outdated next candidate = record { value = candidate; behind = next }

abbrev pub older_value : Older → Candidate
older_value o = o.value

abbrev pub stays : ℕ → Older → Bool
stays flush o = nat_lt flush o.behind

abbrev pub as_older : Older → OlderOf Candidate
as_older o = record { value = o.value; behind = o.behind }

abbrev pub as_held : List Candidate → List Older → HeldOf Candidate
as_held now older = record { now = now; older = map as_older older }
