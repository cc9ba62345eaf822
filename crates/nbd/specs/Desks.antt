-- One thing that happens at a desk.
use Rattle.std.specs.Prelude.{◌≡◌, ℕ, List, [], ◌∷◌, ◌++◌, IsPermutation, length, Option}
use Rattle.std.specs.Io.KnownBytes.{Consumes}
use Rattle.nbd.specs.declared.End.{End}
use Rattle.nbd.specs.declared.beside.Happening.{Happening}
use Rattle.nbd.specs.declared.beside.Happening.TheVariants.{Read, Answered, Idle, Ended}
use Rattle.nbd.specs.Replies.{outcome_of}
use Rattle.nbd.specs.Session.{Begins, IsLast}
use Rattle.nbd.specs.Beside.{Account, EndsBeside, IsOfOne, IsTaken, Taken, Told, nothing_said, taken_bytes}

-- one more request was read, and just its bytes; it is due
pub record ReadsOne (input : Option (List ℕ)) (old : Account) (rest : Option (List ℕ)) (new : Account) : Type 0 where
  pub one : Taken
  pub is_taken : IsTaken one
  pub bytes : Consumes input rest (taken_bytes one)
  pub more : new.taken ≡ old.taken ++ (one ∷ [])
  pub same : new.told ≡ old.told
  pub due : IsPermutation (length old.taken ∷ old.due) new.due

-- a request that was due was answered, and is due no more
pub record TellsOne (input : Option (List ℕ)) (old : Account) (t : Told) (rest : Option (List ℕ)) (new : Account) : Type 0 where
  pub of_one : IsOfOne old.taken t
  pub more : new.told ≡ old.told ++ (t ∷ [])
  pub same : new.taken ≡ old.taken
  pub due : IsPermutation old.due (t.place ∷ new.due)
  pub unread : rest ≡ input

-- a stream begins with bytes that end the requests, and none is due
pub record EndsWith (input : Option (List ℕ)) (old : Account) (end : End) (new : Account) : Type 0 where
  pub last : List ℕ
  pub begins : Begins input last
  pub is_last : IsLast end last
  pub none_due : old.due ≡ []
  pub same : new ≡ old

abbrev pub Happens : Option (List ℕ) → Account → Happening → Option (List ℕ) → Account → Type 0
Happens input old Read rest new = ReadsOne input old rest new
Happens input old (Answered place cookie answer) rest new = TellsOne input old (record { place = place; cookie = cookie; outcome = outcome_of answer }) rest new
Happens input old Idle rest new = (rest ≡ input) × (new ≡ old)
Happens input old (Ended end) rest new = EndsWith input old end new

-- WHATEVER HOLDS OF A DESK SINCE IT STOOD SO AT FIRST: for each relation of the desk's own

-- this happened, and holds of it then
pub record GoesFrom {S : Type 0} (left : S → Option (List ℕ)) (Since : S → Account → S → Type 0) (first old : S) (a : Account) (happening : Happening) (new : S) : Type 0 where
  pub next : Account
  pub happens : Happens (left old) a happening (left new) next
  pub since : Since first next new

abbrev pub GoesOn : {S : Type 0} → (S → Option (List ℕ)) → (S → Account → S → Type 0) → S → Happening → S → Type 0
GoesOn {S} left Since old happening new = (first : S) (a : Account) → Since first a old → GoesFrom left Since first old a happening new

-- nothing happened
pub record Keeps {S : Type 0} (Since : S → Account → S → Type 0) (old new : S) : Type 0 where
  pub on : (first : S) (a : Account) → Since first a old → Since first a new

-- the client's requests ended, by this account, which is the desk's too
pub record EndsBy {S : Type 0} (Since : S → Account → S → Type 0) (first : S) (input out : Option (List ℕ)) (end : End) (new : S) (after : Option (List ℕ)) : Type 0 where
  pub account : Account
  pub ends : EndsBeside input out account end after
  pub since : Since first account new

-- so they ended, if nothing was said before
abbrev pub EndsSince : {S : Type 0} → (S → Account → S → Type 0) → S → Option (List ℕ) → Option (List ℕ) → End → S → Option (List ℕ) → Type 0
EndsSince {S} Since old input out end new after = (first : S) → Since first nothing_said old → EndsBy Since first input out end new after
