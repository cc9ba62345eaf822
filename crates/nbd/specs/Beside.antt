-- A session whose requests are served side by side: they are read in one order, and answered in another.
use Rattle.std.specs.Prelude.{◌≡◌, ◌≢◌, ◌⊎◌, ℕ, zero, suc, Bool, List, [], ◌∷◌, ◌++◌, All, IsPermutation, length, map, Option, Some, slice_get}
use Rattle.nbd.specs.declared.End.{End}
use Rattle.nbd.specs.declared.arrays.Sizes.{Sizes}
use Rattle.nbd.specs.declared.options.Next.TheVariants.{Requests}
use Rattle.nbd.specs.declared.End.TheVariants.{Output}
use Rattle.nbd.specs.declared.requests.Request.{Request}
use Rattle.nbd.specs.declared.constants.TheConstants.{NBD_CMD_DISC}
use Rattle.nbd.specs.Requests.{IsRequest, payload_count}
use Rattle.nbd.specs.Replies.{Outcome, reply_bytes}
use Rattle.nbd.specs.Session.{Begins, IsLast, IsTold, said}
use Rattle.nbd.specs.Options.{Asked, greeting, option_bytes}
use Rattle.nbd.specs.Handshake.{AreFlags, EndsUnasked, Leads, answers_to}

-- a request that was read: its 28 bytes, and those that came behind it
pub record Taken : Type 0 where
  pub header : List ℕ
  pub request : Request
  pub payload : List ℕ

-- an answer to the request at this place, counted as they were read, by the client's name for it
pub record Told : Type 0 where
  pub place : ℕ
  pub cookie : ℕ
  pub outcome : Outcome

abbrev pub taken_bytes : Taken → List ℕ
taken_bytes a = a.header ++ a.payload

abbrev pub told_bytes : Told → List ℕ
told_bytes t = reply_bytes t.cookie t.outcome

-- all that was said so far
pub record Account : Type 0 where
  -- the requests, in the order in which they were read
  pub taken : List Taken
  -- the answers, in the order in which they were given
  pub told : List Told
  -- the places of the requests that aren't answered yet
  pub due : List ℕ

abbrev pub nothing_said : Account
nothing_said = record { taken = []; told = []; due = [] }

pub record IsTaken (a : Taken) : Type 0 where
  pub is_request : IsRequest a.header a.request
  pub goes_on : a.request.kind ≢ NBD_CMD_DISC
  pub long : length a.payload ≡ payload_count a.request

-- the answer names a request that was read, as the client names it
pub record IsOfOne (taken : List Taken) (t : Told) : Type 0 where
  pub one : Taken
  pub at_place : slice_get taken t.place ≡ Some one
  pub named : t.cookie ≡ one.request.cookie

-- the places of so many requests
abbrev pub places : ℕ → List ℕ
places zero = []
places (suc n) = places n ++ (n ∷ [])

-- each answer names a request, and each request was answered once or is due
pub record IsAccount (a : Account) : Type 0 where
  pub are_taken : All IsTaken a.taken
  pub of_one : All (IsOfOne a.taken) a.told
  pub once : IsPermutation (places (length a.taken)) (map (λ t. t.place) a.told ++ a.due)

-- how a client's requests ended: its stream began with just those that were read, just the answers were written, and no
-- request is left that wasn't answered, unless writing failed
pub record EndsBeside (input out : Option (List ℕ)) (a : Account) (end : End) (after : Option (List ℕ)) : Type 0 where
  pub is_account : IsAccount a
  pub none_due : end ≢ Output → a.due ≡ []
  pub last : List ℕ
  pub read : Begins input (said taken_bytes a.taken ++ last)
  pub written : IsTold end out after (said told_bytes a.told)
  pub is_last : IsLast end last

-- a session that came to its requests: the bytes with which the stream began, and what was written
pub record TalksBeside (sizes : Sizes) (input out : Option (List ℕ)) (a : Account) (end : End) (after : Option (List ℕ)) : Type 0 where
  pub flags : List ℕ
  pub no_zeroes : Bool
  pub are_flags : AreFlags flags no_zeroes
  pub options : List Asked
  pub leads : Leads options Requests
  pub is_account : IsAccount a
  pub none_due : end ≢ Output → a.due ≡ []
  pub last : List ℕ
  pub is_last : IsLast end last
  pub asked : Begins input (flags ++ (said option_bytes options ++ (said taken_bytes a.taken ++ last)))
  pub told : IsTold end out after (greeting ++ (said (answers_to sizes no_zeroes) options ++ said told_bytes a.told))

-- a whole session: it ended before its requests, or they ended by this account
abbrev pub IsSessionBeside : Sizes → Option (List ℕ) → Option (List ℕ) → Account → End → Option (List ℕ) → Type 0
IsSessionBeside sizes input out a end after = (EndsUnasked sizes input out end after × (a ≡ nothing_said)) ⊎ TalksBeside sizes input out a end after
