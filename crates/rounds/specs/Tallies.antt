-- What rounds came to.
use Rattle.std.specs.Prelude.{◌≡◌, ◌<◌, ◌+◌, ◌%◌, ◌^◌, ◌==◌, ℕ, suc, List, [], ◌∷◌, ◌++◌, Option, Some, None, length, nat_lt, if◌then◌else◌}
use Rattle.std.specs.List.{cons_option, list_all}
use Rattle.ntstatus.specs.Codes.{value_of}
use Rattle.machine.specs.declared.Label.{Label}
use Rattle.machine.specs.declared.Label.TheVariants.{Answer}
use Rattle.traced.specs.declared.TraceEntry.{TraceEntry}
use Rattle.host.specs.Clients.{ClientView, AreNumbered, client_at}
use Rattle.host.specs.Closing.{AreBorneOut, total}
use Rattle.host.specs.Receipts.{Receipt}
use Rattle.rounds.specs.declared.Tally.{Tally}

-- the bytes of an answer, where it is a success
abbrev pub bytes_of_success : Label → Option (List ℕ)
bytes_of_success (Answer number status informed bytes) = if nat_lt (value_of status) (2 ^ 31) then Some bytes else None
bytes_of_success _ = None

-- the bytes of each success among these answers, in order
abbrev pub successes : List Receipt → List (List ℕ)
successes [] = []
successes (r ∷ rs) = cons_option (bytes_of_success r.1.label) (successes rs)

-- how many of these have another byte than this one
abbrev pub differing : ℕ → List (List ℕ) → ℕ
differing byte [] = 0
differing byte (bytes ∷ more) = if list_all (λ b. b == byte) bytes then differing byte more else suc (differing byte more)

-- the byte that a client writes in a round
abbrev pub byte_of : ℕ → ℕ → ℕ
byte_of client round = (client + round) % 256

-- the same for the successes of each round, from this one on
abbrev pub differing_from : ℕ → ℕ → List (List (List ℕ)) → ℕ
differing_from client round [] = 0
differing_from client round (brought ∷ more) = differing (byte_of client round) brought + differing_from client (suc round) more

abbrev pub joined : List (List (List ℕ)) → List (List ℕ)
joined [] = []
joined (brought ∷ more) = brought ++ joined more

-- a client's tally, after so many rounds: how many of its answers were successes, and how many of these brought other
-- bytes than the client wrote in that round
pub record HasCounted (rounds : ℕ) (client : ClientView) (tally : Tally) : Type 0 where
  pub by_round : List (List (List ℕ))
  pub all : length by_round ≡ rounds
  pub brought : successes client.answered ≡ joined by_round
  pub answered : tally.answered ≡ length (joined by_round)
  pub differs : tally.differing ≡ differing_from client.client 0 by_round

-- a tally is that of all clients, each after so many rounds
pub record AreCounted (count rounds : ℕ) (clients : List ClientView) (tally : Tally) : Type 0 where
  pub tallies : ℕ → Tally
  pub each : (c : ℕ) → c < count → HasCounted rounds (client_at clients c) (tallies c)
  pub answered : tally.answered ≡ total count (λ c. (tallies c).answered)
  pub differs : tally.differing ≡ total count (λ c. (tallies c).differing)

-- it is that of clients whose answers stand in this trace
pub record IsTallied (count rounds : ℕ) (trace : List TraceEntry) (tally : Tally) : Type 0 where
  pub clients : List ClientView
  pub numbered : AreNumbered count clients
  pub counted : AreCounted count rounds clients tally
  pub stand : AreBorneOut trace count clients
