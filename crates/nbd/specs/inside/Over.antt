-- What one request of a session takes and leaves, over a backing whose states are related.
use Rattle.std.specs.Prelude.{◌≡◌, ℕ, List, ◌++◌, length, Option}
use Rattle.std.specs.Io.KnownBytes.{Appends, Consumes}
use Rattle.nbd.specs.declared.End.{End}
use Rattle.nbd.specs.declared.arrays.Sizes.{Sizes}
use Rattle.nbd.specs.declared.requests.Request.{Request}
use Rattle.nbd.specs.declared.requests.Command.{Command}
use Rattle.nbd.specs.Requests.{payload_count}
use Rattle.nbd.specs.Replies.{Outcome}
use Rattle.nbd.specs.Session.{Begins, Exchange, IsLast, IsTold, asked_by, said, told_by}
use Rattle.nbd.specs.Over.{ServesOver, IsExchangeOver, RunOver}

module _ {S : Type 0} (Carries : Command → List ℕ → S → Outcome → S → Type 0) (sizes : Sizes) where
  -- a request was served: the bytes behind it were taken, and no others
  pub record IsServedOver (r : Request) (old : S) (input rest : Option (List ℕ)) (o : Outcome) (new : S) : Type 0 where
    pub payload : List ℕ
    pub long : length payload ≡ payload_count r
    pub taken : Consumes input rest payload
    pub serves : ServesOver Carries sizes r payload old o new

  -- these requests were taken, served and answered, in order
  pub record ServedOver (old : S) (input out : Option (List ℕ)) (new : S) (rest after : Option (List ℕ)) : Type 0 where
    pub exchanges : List Exchange
    pub run : RunOver Carries sizes old exchanges new
    pub taken : Consumes input rest (said asked_by exchanges)
    pub told : Appends out after (said told_by exchanges)

  -- one request was taken, served and answered
  pub record IsExchangedOver (old : S) (input out : Option (List ℕ)) (new : S) (rest after : Option (List ℕ)) : Type 0 where
    pub exchange : Exchange
    pub is : IsExchangeOver Carries sizes old exchange new
    pub taken : Consumes input rest (asked_by exchange)
    pub told : Appends out after (told_by exchange)

  -- how a client's requests ended
  pub record EndsOver (old : S) (input out : Option (List ℕ)) (end : End) (new : S) (after : Option (List ℕ)) : Type 0 where
    pub exchanges : List Exchange
    pub last : List ℕ
    pub run : RunOver Carries sizes old exchanges new
    pub asked : Begins input (said asked_by exchanges ++ last)
    pub told : IsTold end out after (said told_by exchanges)
    pub is_last : IsLast end last
