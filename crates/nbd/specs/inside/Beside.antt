-- One thing that happens while requests are served side by side.
use Rattle.std.specs.Prelude.{ℕ, List, Option}
use Rattle.std.specs.Io.KnownBytes.{Appends, Consumes}
use Rattle.nbd.specs.Session.{said}
use Rattle.nbd.specs.Beside.{Account, IsAccount, nothing_said, taken_bytes, told_bytes}

-- requests were read and answers written, and nothing else of either
pub record HasServed (input out : Option (List ℕ)) (a : Account) (rest after : Option (List ℕ)) : Type 0 where
  pub is_account : IsAccount a
  pub taken : Consumes input rest (said taken_bytes a.taken)
  pub written : Appends out after (said told_bytes a.told)

-- so it is by some account, which is the desk's too, if nothing was said before
pub record HasServedBy {S : Type 0} (Since : S → Account → S → Type 0) (first : S) (input out : Option (List ℕ)) (rest : Option (List ℕ)) (now : S) (after : Option (List ℕ)) : Type 0 where
  pub account : Account
  pub served : HasServed input out account rest after
  pub since : Since first account now

abbrev pub HasServedSince : {S : Type 0} → (S → Account → S → Type 0) → S → Option (List ℕ) → Option (List ℕ) → Option (List ℕ) → S → Option (List ℕ) → Type 0
HasServedSince {S} Since old input out rest now after = (first : S) → Since first nothing_said old → HasServedBy Since first input out rest now after
