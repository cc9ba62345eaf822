-- A request that was read, with the bytes behind it.
use Rattle.std.specs.Prelude.{◌≡◌, ◌≢◌, ◌<◌, ◌⊎◌, ℕ, List, [], length, Option, Result, MatchResult, Ok, Err}
use Rattle.std.specs.Io.KnownBytes.{Consumes}
use Rattle.nbd.specs.declared.arrays.Sizes.{Sizes}
use Rattle.nbd.specs.declared.incoming.Incoming.{Incoming}
use Rattle.nbd.specs.declared.requests.Command.{Command}
use Rattle.nbd.specs.declared.requests.ReplyError.{ReplyError}
use Rattle.nbd.specs.declared.requests.ReplyError.TheVariants.{Enomem}
use Rattle.nbd.specs.Requests.{command_in}
use Rattle.nbd.specs.Beside.{IsTaken, Taken, taken_bytes}

-- what a request that was read asks for: a command for the bytes behind it, if there are some; or nothing, by its error or
-- since there was no memory for these bytes
abbrev pub IsAskedBy : Sizes → Taken → Result Command ReplyError → List ℕ → Type 0
IsAskedBy sizes one asked payload =
    MatchResult asked
    (λ command. (command_in sizes.block sizes.bytes one.request ≡ Ok command) × (one.payload ≢ [] → payload ≡ one.payload))
    (λ error. (command_in sizes.block sizes.bytes one.request ≡ Err error) ⊎ ((0 < length one.payload) × (error ≡ Enomem)))

-- just this request's bytes were taken
pub record IsIncoming (sizes : Sizes) (input rest : Option (List ℕ)) (incoming : Incoming) : Type 0 where
  pub one : Taken
  pub is_taken : IsTaken one
  pub bytes : Consumes input rest (taken_bytes one)
  pub named : incoming.request ≡ one.request
  pub asked : IsAskedBy sizes one incoming.asked incoming.payload.items
