-- A session over a disk in a storage, whose requests are served side by side.
use Rattle.std.specs.Prelude.{◌≡◌, ◌⊎◌, ℕ, [], List, Option, Some}
use Rattle.file_disk.specs.Transfers.{DiskView}
use Rattle.io_manager.specs.Shown.{ManagerView}
use Rattle.nbd.specs.declared.End.{End}
use Rattle.nbd.specs.Beside.{Account, IsSessionBeside}
use Rattle.serving.specs.declared.faults.Error.{Error}
use Rattle.serving.specs.declared.faults.Error.TheVariants.{NoMemory}
use Rattle.serving.specs.Beside.{Aloft, Deals, GoesBeside, Gone, ToldInTurn, moves_in, none_aloft, nothing_gone}
use Rattle.serving.specs.Filed.{FiledView}
use Rattle.serving.specs.Serving.{fault_of_end}

-- the stack when no answer of an earlier request waits
abbrev pub begun : ManagerView → ManagerView
begun stack = record stack { answers = [] }

-- A session took place. The stack went on by what its requests asked, and each answer was told when it was what had come of
-- one of them. No thread had a piece at first; pieces that may not be moved side by side weren't at the storage at once
pub record HasSessionBeside (old : FiledView) (input out : Option (List ℕ)) (told : Option Error) (after : Option (List ℕ)) : Type 0 where
  pub end : End
  pub told_is : told ≡ fault_of_end end
  pub account : Account
  pub session : IsSessionBeside old.sizes input out account end after
  pub gone : Gone
  pub last : ManagerView
  pub went : GoesBeside (begun old.carried.stack) gone.labels (moves_in gone.moments) last
  pub aloft : Aloft
  pub disk : DiskView
  pub deals : Deals (none_aloft old.carried.stack.rules.depth) old.carried.disk gone.moments aloft disk
  pub answered : ToldInTurn (begun old.carried.stack) old.handle old.sizes account.taken nothing_gone account.told gone

-- no memory, or no thread: nothing was written
abbrev pub IsFileSessionBeside : FiledView → Option (List ℕ) → Option (List ℕ) → Option Error → Option (List ℕ) → Type 0
IsFileSessionBeside old input out told after = HasSessionBeside old input out told after ⊎ ((told ≡ Some NoMemory) × (after ≡ out))
