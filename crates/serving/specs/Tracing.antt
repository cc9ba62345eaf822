-- What a session over a file leaves whose trace is written: the trace, and the file.
use Rattle.std.specs.Prelude.{◌≡◌, ◌<◌, ℕ, List, ◌∷◌, ◌++◌, false, true, Option, IsTrue}
use Rattle.settings.specs.declared.Config.{Config}
use Rattle.machine.specs.declared.Label.{Label}
use Rattle.startup.specs.Started.{rules_over}
use Rattle.file_disk.specs.Calls.{Call}
use Rattle.loss.specs.Sessions.{Moment}
use Rattle.file_sessions.specs.Sessions.{IsSession}
use Rattle.file_sessions.specs.Stored.{Content, IsKept, under_way}
use Rattle.serving.specs.declared.faults.Error.{Error}
use Rattle.serving.specs.Filed.{FiledView}
use Rattle.serving.specs.OnDisk.{IsFileSession, IsOpenedFor}
use Rattle.serving.specs.Telling.{of_session}
use Rattle.serving.specs.Traces.{Wrote}

-- THE TRACE

-- behind a session a trace that has all got the lines of the labels that were told in it, and no others
abbrev pub TracesTellSessions : Type 0
TracesTellSessions = (old : FiledView) (input out : Option (List ℕ)) (fault : Option Error) (new : FiledView) (after : Option (List ℕ)) → (h : IsFileSession old input out fault new after)
    → IsTrue old.carried.stack.rules.keeps_bytes → Wrote old.carried.trace (of_session old.sizes old input out h.end new after h.session) new.carried.trace

-- THE FILE

-- a session over a partition that was opened, whose labels keep their bytes
pub record ServesTraced (c : Config) (p : ℕ) (opened : List Call) (old : FiledView) (input out : Option (List ℕ)) (fault : Option Error) (new : FiledView) (after : Option (List ℕ)) (calls : List Call) : Type 0 where
  pub opens : IsOpenedFor true c p opened old
  pub session : IsFileSession old input out fault new after
  pub calls_are : new.carried.disk.calls ≡ calls ++ old.carried.disk.calls

abbrev pub told_traced : (c : Config) (p : ℕ) (opened : List Call) (old : FiledView) (input out : Option (List ℕ)) (fault : Option Error) (new : FiledView) (after : Option (List ℕ)) (calls : List Call)
    → ServesTraced c p opened old input out fault new after calls → List Label
told_traced c p opened old input out fault new after calls h = h.opens.trace ++ of_session old.sizes old input out h.session.end new after h.session.session

-- it leaves there what one without a trace does
abbrev pub TracedAreSessions : Type 0
TracedAreSessions = (c : Config) (p : ℕ) (opened : List Call) (old : FiledView) (input out : Option (List ℕ)) (fault : Option Error) (new : FiledView) (after : Option (List ℕ)) (calls : List Call) (before : Content)
    → (h : ServesTraced c p opened old input out fault new after calls) → 0 < c.sector_size → IsKept c.sector_size before calls
    → (end : Moment) × IsSession (rules_over false true c) h.opens.arrays before calls (told_traced c p opened old input out fault new after calls h) end

-- also at any moment of it
abbrev pub TracedMomentsAreSessions : Type 0
TracedMomentsAreSessions = (c : Config) (p : ℕ) (opened : List Call) (old : FiledView) (input out : Option (List ℕ)) (fault : Option Error) (new : FiledView) (after : Option (List ℕ)) (calls later earlier : List Call) (call : Call)
    (before : Content)
    → (h : ServesTraced c p opened old input out fault new after calls) → 0 < c.sector_size → calls ≡ later ++ call ∷ earlier → IsKept c.sector_size before earlier
    → (first : List Label) × (rest : List Label) × (end : Moment) × (told_traced c p opened old input out fault new after calls h ≡ first ++ rest)
    × IsSession (rules_over false true c) h.opens.arrays before (under_way call ∷ earlier) first end
