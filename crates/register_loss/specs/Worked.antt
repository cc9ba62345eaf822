-- Schedules by hand, of a register that has 9 at the start.
use Rattle.std.specs.Prelude.{◌≡◌, true, false, List, [], ◌∷◌}
use Rattle.loss.specs.Held.{surely}
use Rattle.register_loss.specs.declared.What.TheVariants.{Read, Write, Flush, Sync}
use Rattle.register_loss.specs.declared.Open.{Open}
use Rattle.register_loss.specs.declared.Turn.TheVariants.{Acts, Fails}
use Rattle.register_loss.specs.declared.Sight.{Sight}
use Rattle.register_loss.specs.declared.Sight.TheVariants.{Call, Elsewhere, Done, Failed, Lost, Ended}
use Rattle.register_loss.specs.Schedules.{Register, Turns, HasSchedule, behind, opening}

abbrev pub write : Open
write = record { number = 1; what = Write 5 false; failed = false }

-- 5 was written over 9, before call 2
abbrev pub written : Register
written = record { next = 2; held = record { now = 5 ∷ []; older = record { value = 9; behind = 2 } ∷ [] }; waits = [] }

abbrev pub called : Register
called = record { next = 2; held = surely 9; waits = write ∷ [] }

pub record AreChangedByHand : Type 0 where
  pub call : behind (Call 1 (Write 5 false)) (opening 9) ≡ called ∷ []
  pub elsewhere : behind (Elsewhere 4) (opening 9) ≡ record { next = 5; held = surely 9; waits = [] } ∷ []
  -- it takes effect, or fails: then either may be read
  pub act : Turns Acts called written
  pub fault : Turns Fails called (record { next = 2; held = record { now = 9 ∷ 5 ∷ []; older = [] }; waits = record write { failed = true } ∷ [] })
  -- a read of what stands there waits no more, one of another value does
  pub given : behind (Call 2 (Read 5)) written ≡ record written { next = 3 } ∷ []
  pub waiting : behind (Call 2 (Read 9)) written ≡ record { next = 3; held = written.held; waits = record { number = 2; what = Read 9; failed = false } ∷ [] } ∷ []
  -- a loss leaves either, the end of the process what stands there
  pub lost : behind Lost written ≡ opening 5 ∷ opening 9 ∷ []
  pub ended : behind Ended written ≡ opening 5 ∷ []
  -- a flush that was called behind a write ends what that wrote over, one that was called before doesn't
  pub flush : behind (Done 2) (record { next = 3; held = written.held; waits = record { number = 2; what = Flush; failed = false } ∷ [] }) ≡ record { next = 3; held = surely 5; waits = [] } ∷ []
  pub early : behind (Done 1) (record { next = 2; held = written.held; waits = record { number = 1; what = Flush; failed = false } ∷ [] }) ≡ written ∷ []
  -- what failed is open no more
  pub failed : behind (Failed 1) called ≡ record { next = 2; held = surely 9; waits = [] } ∷ []

-- a write succeeds, and a loss takes it back
abbrev pub taken_back : List Sight
taken_back = Call 1 (Write 5 false) ∷ Done 1 ∷ Lost ∷ Call 1 (Read 9) ∷ Done 1 ∷ []

-- a flush behind it keeps it
abbrev pub flushed : List Sight
flushed = Call 1 (Write 5 false) ∷ Done 1 ∷ Call 2 Flush ∷ Done 2 ∷ Lost ∷ Call 1 (Read 5) ∷ Done 1 ∷ []

-- a flush fails, and what was overwritten is read again
abbrev pub doubted : List Sight
doubted = Call 1 (Write 5 false) ∷ Done 1 ∷ Call 2 Flush ∷ Failed 2 ∷ Call 3 (Read 9) ∷ Done 3 ∷ Call 4 (Read 5) ∷ Done 4 ∷ []

pub record AreScheduledByHand : Type 0 where
  pub taken_back : HasSchedule 9 taken_back
  pub flushed : HasSchedule 9 flushed
  pub doubted : HasSchedule 9 doubted

-- each of these has no register behind it
pub record AreRefutedByHand : Type 0 where
  -- a write that took no effect doesn't succeed, nor one that failed, nor a read that was not given its value
  pub undone : behind (Done 1) called ≡ []
  pub tried : behind (Done 1) (record called { waits = record write { failed = true } ∷ [] }) ≡ []
  pub unmet : behind (Done 1) (record called { waits = record { number = 1; what = Read 5; failed = false } ∷ [] }) ≡ []
  -- nor a flush, nor a write with FUA, that failed somewhere
  pub flush : behind (Done 1) (record called { waits = record { number = 1; what = Flush; failed = true } ∷ [] }) ≡ []
  pub sync : behind (Done 1) (record called { waits = record { number = 1; what = Sync; failed = true } ∷ [] }) ≡ []
