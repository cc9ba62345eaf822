-- What a session over a file leaves there: it is a session of a machine whose sectors a loss of power may take back.
use Rattle.std.specs.Prelude.{◌≡◌, ◌<◌, ℕ, List, [], ◌∷◌, ◌++◌, false, Option}
use Rattle.settings.specs.declared.Config.{Config}
use Rattle.machine.specs.declared.Label.{Label}
use Rattle.startup.specs.Started.{rules_over}
use Rattle.file_disk.specs.Calls.{Call}
use Rattle.loss.specs.Sessions.{Moment}
use Rattle.file_sessions.specs.Sessions.{IsSession}
use Rattle.file_sessions.specs.Stored.{Content, IsKept, under_way}
use Rattle.serving.specs.declared.faults.Error.{Error}
use Rattle.serving.specs.Filed.{FiledView}
use Rattle.serving.specs.OnDisk.{IsFileSession, IsOpened}
use Rattle.serving.specs.Telling.{of_session}

-- a session of a client over a partition that was opened; the storage got these calls meanwhile
pub record ServesFile (c : Config) (p : ℕ) (opened : List Call) (old : FiledView) (input out : Option (List ℕ)) (fault : Option Error) (new : FiledView) (after : Option (List ℕ)) (calls : List Call) : Type 0 where
  pub opens : IsOpened c p opened old
  pub session : IsFileSession old input out fault new after
  pub calls_are : new.carried.disk.calls ≡ calls ++ old.carried.disk.calls

-- what was told: when the partition was opened, and of each request
abbrev pub told_in : (c : Config) (p : ℕ) (opened : List Call) (old : FiledView) (input out : Option (List ℕ)) (fault : Option Error) (new : FiledView) (after : Option (List ℕ)) (calls : List Call)
    → ServesFile c p opened old input out fault new after calls → List Label
told_in c p opened old input out fault new after calls h = h.opens.trace ++ of_session old.sizes old input out h.session.end new after h.session.session

-- where the file keeps what it should, whatever a loss leaves of it is what the machine's loss may leave behind what was told
abbrev pub ServedAreSessions : Type 0
ServedAreSessions = (c : Config) (p : ℕ) (opened : List Call) (old : FiledView) (input out : Option (List ℕ)) (fault : Option Error) (new : FiledView) (after : Option (List ℕ)) (calls : List Call) (before : Content)
    → (h : ServesFile c p opened old input out fault new after calls) → 0 < c.sector_size → IsKept c.sector_size before calls
    → (end : Moment) × IsSession (rules_over false false c) h.opens.arrays before calls (told_in c p opened old input out fault new after calls h) end

-- so it is at any moment, with the next call under way, behind what was told by then
abbrev pub ServedMomentsAreSessions : Type 0
ServedMomentsAreSessions = (c : Config) (p : ℕ) (opened : List Call) (old : FiledView) (input out : Option (List ℕ)) (fault : Option Error) (new : FiledView) (after : Option (List ℕ)) (calls later earlier : List Call) (call : Call)
    (before : Content)
    → (h : ServesFile c p opened old input out fault new after calls) → 0 < c.sector_size → calls ≡ later ++ call ∷ earlier → IsKept c.sector_size before earlier
    → (first : List Label) × (rest : List Label) × (end : Moment) × (told_in c p opened old input out fault new after calls h ≡ first ++ rest)
    × IsSession (rules_over false false c) h.opens.arrays before (under_way call ∷ earlier) first end
