-- A session over storage whose content isn't shown. A relation of the storage's own tells what each command does to it.
use Rattle.std.specs.Prelude.{◌≡◌, ◌≢◌, ◌<◌, ◌⊎◌, ℕ, Bool, List, [], ◌∷◌, ◌++◌, length, Option, MatchResult}
use Rattle.nbd.specs.declared.End.{End}
use Rattle.nbd.specs.declared.arrays.Sizes.{Sizes}
use Rattle.nbd.specs.declared.requests.Request.{Request}
use Rattle.nbd.specs.declared.requests.Command.{Command}
use Rattle.nbd.specs.declared.requests.ReplyError.TheVariants.{Enomem}
use Rattle.nbd.specs.declared.options.Next.{Next}
use Rattle.nbd.specs.declared.options.Next.TheVariants.{Options, Requests, Ended}
use Rattle.nbd.specs.declared.constants.TheConstants.{NBD_CMD_DISC}
use Rattle.nbd.specs.Requests.{IsRequest, command_in, payload_count}
use Rattle.nbd.specs.Replies.{Outcome, failure}
use Rattle.nbd.specs.Options.{Asked, greeting, option_bytes}
use Rattle.nbd.specs.Session.{Begins, Exchange, IsLast, IsTold, asked_by, said, told_by}
use Rattle.nbd.specs.Handshake.{AreFlags, EndsGreeting, IsLastOption, Leads, answers_to}

module _ {S : Type 0} (Carries : Command → List ℕ → S → Outcome → S → Type 0) (sizes : Sizes) where
  -- a command was carried out, or there was no memory for the bytes behind its request
  abbrev pub CarriesOver : Command → List ℕ → S → Outcome → S → Type 0
  CarriesOver command payload old o new = Carries command payload old o new ⊎ ((0 < length {A = ℕ} payload) × (o ≡ failure Enomem) × (new ≡ old))

  -- a request that asks for a command is carried out; any other fails by its error, and nothing is done
  abbrev pub ServesOver : Request → List ℕ → S → Outcome → S → Type 0
  ServesOver r payload old o new =
      MatchResult (command_in sizes.block sizes.bytes r) (λ command. CarriesOver command payload old o new) (λ e. (o ≡ failure e) × (new ≡ old))

  pub record IsExchangeOver (old : S) (x : Exchange) (new : S) : Type 0 where
    pub is_request : IsRequest x.header x.request
    pub goes_on : x.request.kind ≢ NBD_CMD_DISC
    pub long : length x.payload ≡ payload_count x.request
    pub serves : ServesOver x.request x.payload old x.outcome new

  -- these requests were served, one after the other, and nothing else was done
  abbrev pub RunOver : S → List Exchange → S → Type 0
  RunOver old [] new = new ≡ old
  RunOver old (x ∷ xs) new = (mid : S) × IsExchangeOver old x mid × RunOver mid xs new

  -- a session that came to its options
  pub record TalksOver (old : S) (input out : Option (List ℕ)) (end : End) (new : S) (after : Option (List ℕ)) : Type 0 where
    pub flags : List ℕ
    pub no_zeroes : Bool
    pub are_flags : AreFlags flags no_zeroes
    pub options : List Asked
    pub next : Next
    pub leads : Leads options next
    pub exchanges : List Exchange
    pub last : List ℕ
    -- no request is served but behind an option that leads to requests
    pub in_turn : ((next ≡ Requests) × IsLast end last) ⊎ ((exchanges ≡ []) × (((next ≡ Ended end) × (last ≡ [])) ⊎ ((next ≡ Options) × IsLastOption end last)))
    pub asked : Begins input (flags ++ (said option_bytes options ++ (said asked_by exchanges ++ last)))
    pub told : IsTold end out after (greeting ++ (said (answers_to sizes no_zeroes) options ++ said told_by exchanges))
    pub run : RunOver old exchanges new

  -- a session that ended before its options: nothing was done
  pub record EndsEarlyOver (old : S) (input out : Option (List ℕ)) (end : End) (new : S) (after : Option (List ℕ)) : Type 0 where
    pub same : new ≡ old
    pub ended : EndsGreeting input out end after

  -- a whole session
  abbrev pub IsSessionOver : S → Option (List ℕ) → Option (List ℕ) → End → S → Option (List ℕ) → Type 0
  IsSessionOver old input out end new after = EndsEarlyOver old input out end new after ⊎ TalksOver old input out end new after
