-- What one success, one call and one round add to a tally.
use Rattle.std.specs.Prelude.{◌≡◌, ◌+◌, ℕ, List, ◌++◌, length}
use Rattle.host.specs.Clients.{ClientView}
use Rattle.host.specs.Receipts.{Receipt}
use Rattle.rounds.specs.declared.Tally.{Tally}
use Rattle.rounds.specs.Tallies.{differing, successes}

-- the successes among the answers that the client was told are these
pub record Brings (old new : ClientView) (brought : List (List ℕ)) : Type 0 where
  pub added : List Receipt
  pub adds : new.answered ≡ old.answered ++ added
  pub are : successes added ≡ brought

-- these successes were counted, in a round that wrote this byte
abbrev pub counted : ℕ → List (List ℕ) → Tally → Tally
counted byte brought t = record { answered = t.answered + length brought; differing = t.differing + differing byte brought }

-- the successes of the client were counted
pub record CountsAll (byte : ℕ) (old : ClientView) (before : Tally) (new : ClientView) (after : Tally) : Type 0 where
  pub brought : List (List ℕ)
  pub brings : Brings old new brought
  pub counts : after ≡ counted byte brought before
