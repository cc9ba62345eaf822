-- What is said in a session, and what it does to the array.
use Rattle.std.specs.Prelude.{◌≡◌, ◌≢◌, ℕ, List, [], ◌∷◌, ◌++◌, length, MatchBool, Option, None, Some, ⊤}
use Rattle.std.specs.Io.KnownBytes.{Appends}
use Rattle.byteorder.specs.Endian.{big_from}
use Rattle.nbd.specs.declared.End.{End}
use Rattle.nbd.specs.declared.End.TheVariants.{Left, Malformed, Output}
use Rattle.nbd.specs.declared.requests.Request.{Request}
use Rattle.nbd.specs.declared.constants.TheConstants.{NBD_CMD_DISC, NBD_REQUEST_MAGIC}
use Rattle.nbd.specs.Content.{Content}
use Rattle.nbd.specs.Requests.{IsRequest, payload_count}
use Rattle.nbd.specs.declared.dialects.Dialect.{Dialect}
use Rattle.nbd.specs.Replies.{Outcome, reply_bytes}
use Rattle.nbd.specs.Chunks.{reply_in}
use Rattle.nbd.specs.Dialects.{asks_status}
use Rattle.nbd.specs.Status.{TellsStatus}
use Rattle.nbd.specs.Carrying.{Faulting, Serves}

-- a request that was served: its 28 bytes, the bytes that came behind it, and how it ended
pub record Exchange : Type 0 where
  pub header : List ℕ
  pub request : Request
  pub payload : List ℕ
  pub outcome : Outcome

-- the bytes that a client sent for a request
abbrev pub asked_by : Exchange → List ℕ
asked_by x = x.header ++ x.payload

-- the bytes of the reply to a request
abbrev pub told_by : Exchange → List ℕ
told_by x = reply_bytes x.request.cookie x.outcome

-- the bytes of its reply, in a dialect
abbrev pub told_in : Dialect → Exchange → List ℕ
told_in dialect x = reply_in dialect x.request x.outcome

-- what all of these say, one after the other
abbrev pub said : {X : Type 0} → (X → List ℕ) → List X → List ℕ
said bytes [] = []
said bytes (x ∷ xs) = bytes x ++ said bytes xs

-- a request was served: one that asks which bytes are zeros is told, and any other carried out
abbrev pub ServesIn : Faulting → Dialect → Request → List ℕ → Content → Outcome → Content → Type 0
ServesIn F dialect r payload old o new = MatchBool (asks_status dialect r) (TellsStatus old r o × (new ≡ old)) (Serves F r payload old o new)

pub record IsExchange (F : Faulting) (dialect : Dialect) (old : Content) (x : Exchange) (new : Content) : Type 0 where
  pub is_request : IsRequest x.header x.request
  pub goes_on : x.request.kind ≢ NBD_CMD_DISC
  pub long : length x.payload ≡ payload_count x.request
  pub serves : ServesIn F dialect x.request x.payload old x.outcome new

-- the array moved by these requests, one after the other, and by nothing else
abbrev pub Run : Faulting → Dialect → Content → List Exchange → Content → Type 0
Run F dialect old [] new = new ≡ old
Run F dialect old (x ∷ xs) new = (mid : Content) × IsExchange F dialect old x mid × Run F dialect mid xs new

-- a stream begins with these bytes, where its bytes are known
abbrev pub Begins : Option (List ℕ) → List ℕ → Type 0
Begins None bytes = ⊤
Begins (Some xs) bytes = (rest : List ℕ) × (xs ≡ bytes ++ rest)

-- these bytes were written, unless writing failed
abbrev pub IsTold : End → Option (List ℕ) → Option (List ℕ) → List ℕ → Type 0
IsTold Output out after bytes = ⊤
IsTold _ out after bytes = Appends out after bytes

-- 28 bytes that are a disconnect
pub record IsDisconnect (bytes : List ℕ) : Type 0 where
  pub request : Request
  pub is_request : IsRequest bytes request
  pub disconnects : request.kind ≡ NBD_CMD_DISC

-- 28 bytes that don't begin as a request
pub record IsNoRequest (bytes : List ℕ) : Type 0 where
  pub long : length bytes ≡ 28
  pub other : big_from 0 4 bytes ≢ NBD_REQUEST_MAGIC

-- the bytes that end the requests
abbrev pub IsLast : End → List ℕ → Type 0
IsLast Left bytes = IsDisconnect bytes
IsLast Malformed bytes = IsNoRequest bytes
IsLast _ bytes = bytes ≡ []

-- a stream began with bytes that end the requests
pub record TakesLast (input : Option (List ℕ)) (end : End) : Type 0 where
  pub last : List ℕ
  pub asked : Begins input last
  pub is_last : IsLast end last
