-- Sessions at a moment behind a part of their run.
use Rattle.std.specs.Prelude.{◌≡◌, ◌<◌, ℕ, false, List, ◌∷◌, ◌++◌}
use Rattle.machine.specs.declared.Label.{Label}
use Rattle.machine.specs.Rules.{Rules}
use Rattle.machine.specs.State.{State, opening}
use Rattle.file_disk.specs.Calls.{Call}
use Rattle.file_disk.specs.Transfers.{DiskView}
use Rattle.loss.specs.Sessions.{Moment}
use Rattle.file_sessions.specs.Deeds.{Deed, DeedRun, Files}
use Rattle.file_sessions.specs.Sessions.{IsSession}
use Rattle.file_sessions.specs.Stored.{Content, IsKept, under_way}

-- a run in two parts, as `IsFiled`, and the calls that the first part made
pub record IsFiledBehind (rules : Rules) (arrays : List (List (List ℕ))) (front labels : List Label) (s' : State) (told calls : List Call) : Type 0 where
  pub apart : rules.faithful ≡ false
  pub some : 0 < rules.sector_size
  pub deeds : List Deed
  pub more : List Deed
  pub run : DeedRun rules (opening arrays) (front ++ labels) s' (deeds ++ more)
  pub seen : State
  pub front_run : DeedRun rules (opening arrays) front seen deeds
  pub old : DiskView
  pub between : DiskView
  pub new : DiskView
  pub size : old.sector_size ≡ rules.sector_size
  pub files : Files old deeds between
  pub onwards : Files between more new
  pub told_are : between.calls ≡ told ++ old.calls
  pub calls_are : new.calls ≡ calls ++ old.calls

-- at any moment behind the first part the calls so far, with the next under way, are those of a session, with the labels of that part and
-- some that follow
abbrev pub LaterMomentsAreSessions : Type 0
LaterMomentsAreSessions = (rules : Rules) (arrays : List (List (List ℕ))) (before : Content) (front labels : List Label) (s' : State) (told calls later since : List Call) (call : Call)
    → IsFiledBehind rules arrays front labels s' told calls → calls ≡ later ++ call ∷ (since ++ told) → IsKept rules.sector_size before (since ++ told)
    → (first : List Label) × (rest : List Label) × (end : Moment) × (labels ≡ first ++ rest) × IsSession rules arrays before (under_way call ∷ (since ++ told)) (front ++ first) end
