-- What one request of a session takes and leaves.
use Rattle.std.specs.Prelude.{◌≢◌, ℕ, List, ◌++◌, Option}
use Rattle.std.specs.Io.KnownBytes.{Appends, Consumes}
use Rattle.nbd.specs.declared.End.{End}
use Rattle.nbd.specs.declared.requests.Request.{Request}
use Rattle.nbd.specs.declared.constants.TheConstants.{NBD_CMD_DISC}
use Rattle.nbd.specs.declared.dialects.Dialect.{Dialect}
use Rattle.nbd.specs.Content.{Content}
use Rattle.nbd.specs.Requests.{IsRequest}
use Rattle.nbd.specs.Carrying.{Faulting}
use Rattle.nbd.specs.Session.{Exchange, asked_by, told_in, said, IsExchange, Run, Begins, IsTold, IsLast}

-- these requests were taken, served and answered, in order
pub record Served (F : Faulting) (dialect : Dialect) (old : Content) (input out : Option (List ℕ)) (new : Content) (rest after : Option (List ℕ)) : Type 0 where
  pub exchanges : List Exchange
  pub run : Run F dialect old exchanges new
  pub taken : Consumes input rest (said asked_by exchanges)
  pub told : Appends out after (said (told_in dialect) exchanges)

-- how a client's requests ended: the requests with whose bytes its stream began were served, and answered in order
pub record Ends (F : Faulting) (dialect : Dialect) (old : Content) (input out : Option (List ℕ)) (end : End) (new : Content) (after : Option (List ℕ)) : Type 0 where
  pub exchanges : List Exchange
  pub last : List ℕ
  pub run : Run F dialect old exchanges new
  pub asked : Begins input (said asked_by exchanges ++ last)
  pub told : IsTold end out after (said (told_in dialect) exchanges)
  pub is_last : IsLast end last

-- one request was taken, served and answered
pub record IsExchanged (F : Faulting) (dialect : Dialect) (old : Content) (input out : Option (List ℕ)) (new : Content) (rest after : Option (List ℕ)) : Type 0 where
  pub exchange : Exchange
  pub is : IsExchange F dialect old exchange new
  pub taken : Consumes input rest (asked_by exchange)
  pub told : Appends out after (told_in dialect exchange)

-- 28 bytes that are a request and no disconnect were taken
pub record TakesRequest (input rest : Option (List ℕ)) (request : Request) : Type 0 where
  pub header : List ℕ
  pub is_request : IsRequest header request
  pub goes_on : request.kind ≢ NBD_CMD_DISC
  pub taken : Consumes input rest header
