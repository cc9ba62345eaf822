-- What is written for a command that was carried out.
use Rattle.std.specs.Prelude.{◌≡◌, ℕ, List, length, Option}
use Rattle.std.specs.Io.KnownBytes.{Consumes}
use Rattle.nbd.specs.declared.requests.Request.{Request}
use Rattle.nbd.specs.declared.requests.Command.{Command}
use Rattle.nbd.specs.Content.{Content}
use Rattle.nbd.specs.Requests.{payload_count, payload_of}
use Rattle.nbd.specs.Replies.{Outcome}
use Rattle.nbd.specs.Carrying.{Faulting, Puts, Carries, Serves}

-- a request was served: the bytes behind it were taken, and no others
pub record IsServed (F : Faulting) (r : Request) (old : Content) (input rest : Option (List ℕ)) (o : Outcome) (new : Content) : Type 0 where
  pub payload : List ℕ
  pub long : length payload ≡ payload_count r
  pub taken : Consumes input rest payload
  pub serves : Serves F r payload old o new

-- this many bytes came and were written from this one on, or the write failed
pub record IsWritten (F : Faulting) (offset count : ℕ) (old : Content) (input rest : Option (List ℕ)) (o : Outcome) (new : Content) : Type 0 where
  pub payload : List ℕ
  pub long : length payload ≡ count
  pub taken : Consumes input rest payload
  pub puts : Puts F old offset payload o new

-- a command was carried out: the bytes that come with it were taken, and no others
pub record IsCarried (F : Faulting) (command : Command) (old : Content) (input rest : Option (List ℕ)) (o : Outcome) (new : Content) : Type 0 where
  pub payload : List ℕ
  pub long : length payload ≡ payload_of command
  pub taken : Consumes input rest payload
  pub carries : Carries F command payload old o new
