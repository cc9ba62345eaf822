-- A desk at the start of its session.
use Rattle.std.specs.Prelude.{◌≡◌, ℕ, false, [], List, All, Option, None}
use Rattle.nbd.specs.declared.End.{End}
use Rattle.nbd.specs.Beside.{Account, IsSessionBeside}
use Rattle.file_disk.specs.Transfers.{DiskView}
use Rattle.serving.specs.declared.faults.Error.{Error}
use Rattle.serving.specs.Beside.{Aloft, Deals, GoesBeside, Gone, ToldInTurn, moves_in, none_aloft, nothing_gone}
use Rattle.serving.specs.BesideFile.{begun}
use Rattle.serving.specs.Filed.{FiledView}
use Rattle.serving.specs.Serving.{fault_of_end}
use Rattle.serving.specs.inside.Dues.{IsFree}
use Rattle.serving.specs.inside.Since.{BusyView}
use Rattle.io_manager.specs.Shown.{ManagerView}

-- nothing was read, called or told
pub record IsAtRest (b : BusyView) : Type 0 where
  pub none_waits : b.engine.stack.answers ≡ []
  pub not_full : b.engine.full ≡ false
  pub free : All IsFree b.slots
  pub none_ready : b.ready ≡ None
  pub none_read : b.read ≡ 0
  pub none_spoiled : b.spoiled ≡ 0

-- it is the desk of this partition
pub record IsFirst (filed : FiledView) (input : Option (List ℕ)) (b : BusyView) : Type 0 where
  pub stack : b.engine.stack ≡ begun filed.carried.stack
  pub disk : b.engine.disk ≡ filed.carried.disk
  pub aloft : b.engine.aloft ≡ none_aloft filed.carried.stack.rules.depth
  pub handle : b.handle ≡ filed.handle
  pub sizes : b.sizes ≡ filed.sizes
  pub left : b.left ≡ input
  pub rest : IsAtRest b

-- a whole session, by a desk that stood so
pub record HasSessionFrom (b : BusyView) (out : Option (List ℕ)) (told : Option Error) (after : Option (List ℕ)) : Type 0 where
  pub end : End
  pub told_is : told ≡ fault_of_end end
  pub account : Account
  pub session : IsSessionBeside b.sizes b.left out account end after
  pub gone : Gone
  pub last : ManagerView
  pub went : GoesBeside b.engine.stack gone.labels (moves_in gone.moments) last
  pub aloft : Aloft
  pub disk : DiskView
  pub deals : Deals b.engine.aloft b.engine.disk gone.moments aloft disk
  pub answered : ToldInTurn b.engine.stack b.handle b.sizes account.taken nothing_gone account.told gone

abbrev pub IsSessionFrom : BusyView → Option (List ℕ) → Option Error → Option (List ℕ) → Type 0
IsSessionFrom b out told after = IsAtRest b → HasSessionFrom b out told after
