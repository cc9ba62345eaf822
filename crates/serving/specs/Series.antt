-- Sessions over a file, each over what the last one left there: one trace of sessions of a machine whose sectors a loss of power may take back.
use Rattle.std.specs.Prelude.{◌≡◌, ◌<◌, ℕ, Bool, true, false, List, [], ◌∷◌, ◌++◌, Option}
use Rattle.settings.specs.declared.Config.{Config}
use Rattle.machine.specs.declared.Label.{Label}
use Rattle.startup.specs.Started.{rules_over}
use Rattle.file_disk.specs.Calls.{Call}
use Rattle.loss.specs.Sessions.{Sessions}
use Rattle.file_sessions.specs.Sessions.{AreSessions, Part, beginning, lines_of}
use Rattle.file_sessions.specs.Stored.{Content, IsKept, Remains, Survives, under_way}
use Rattle.serving.specs.declared.faults.Error.{Error}
use Rattle.serving.specs.Filed.{FiledView}
use Rattle.serving.specs.Lasting.{ServesFile, told_in}
use Rattle.serving.specs.Tracing.{ServesTraced, told_traced}

-- ONE SESSION

-- a session over a partition that was opened, with a trace or without
abbrev pub ServesBy : Bool → Config → ℕ → List Call → FiledView → Option (List ℕ) → Option (List ℕ) → Option Error → FiledView → Option (List ℕ) → List Call → Type 0
ServesBy true c p opened old input out fault new after calls = ServesTraced c p opened old input out fault new after calls
ServesBy false c p opened old input out fault new after calls = ServesFile c p opened old input out fault new after calls

-- what was told in it
abbrev pub all_told : (traced : Bool) (c : Config) (p : ℕ) (opened : List Call) (old : FiledView) (input out : Option (List ℕ)) (fault : Option Error) (new : FiledView) (after : Option (List ℕ)) (calls : List Call)
    → ServesBy traced c p opened old input out fault new after calls → List Label
all_told true c p opened old input out fault new after calls h = told_traced c p opened old input out fault new after calls h
all_told false c p opened old input out fault new after calls h = told_in c p opened old input out fault new after calls h

-- the file got all calls of a session
pub record IsWhole (size : ℕ) (before : Content) (calls got : List Call) : Type 0 where
  pub got_are : got ≡ calls
  pub kept : IsKept size before calls

-- it got those up to a moment of the session, with one under way
pub record IsCutOff (size : ℕ) (before : Content) (calls got : List Call) : Type 0 where
  pub later : List Call
  pub call : Call
  pub earlier : List Call
  pub calls_are : calls ≡ later ++ call ∷ earlier
  pub got_are : got ≡ under_way call ∷ earlier
  pub kept : IsKept size before earlier

abbrev pub Gets : Bool → ℕ → Content → List Call → List Call → Type 0
Gets true size before calls got = IsCutOff size before calls got
Gets false size before calls got = IsWhole size before calls got

-- behind these calls power was lost, or only the process ended
abbrev pub Leaves : Bool → Config → Content → List Call → Content → Type 0
Leaves true c before got left = Survives c.sector_size c.sectors before got left
Leaves false c before got left = Remains c.sector_size c.sectors before got left

-- a session over a file that held `before`; it went to its end, or was cut off; and what the file then held
pub record ServesOnce (traced : Bool) (c : Config) (before left : Content) : Type 0 where
  pub p : ℕ
  pub opened : List Call
  pub old : FiledView
  pub input : Option (List ℕ)
  pub out : Option (List ℕ)
  pub fault : Option Error
  pub new : FiledView
  pub after : Option (List ℕ)
  pub calls : List Call
  pub serves : ServesBy traced c p opened old input out fault new after calls
  pub cut_off : Bool
  pub got : List Call
  pub gets : Gets cut_off c.sector_size before calls got
  pub lost : Bool
  pub leaves : Leaves lost c before got left

-- MANY

-- sessions, each over what the last one left. They may be of different partitions
abbrev pub ServesSeries : Bool → Config → Content → List Content → Content → Type 0
ServesSeries traced c before [] left = left ≡ before
ServesSeries traced c before (mid ∷ mids) left = ServesOnce traced c before mid × ServesSeries traced c mid mids left

-- the part of a trace that is of this session has what was told in it; of one that was cut off, what was told first
pub record TellsOne (traced : Bool) (c : Config) (before left : Content) (h : ServesOnce traced c before left) (part : Part) : Type 0 where
  pub rest : List Label
  pub labels_are : all_told traced c h.p h.opened h.old h.input h.out h.fault h.new h.after h.calls h.serves ≡ part.labels ++ rest
  pub whole : h.cut_off ≡ false → rest ≡ []
  pub calls_are : part.calls ≡ h.got
  pub lost_so : part.lost ≡ h.lost

-- part by part
abbrev pub TellsSeries : (traced : Bool) (c : Config) (before : Content) (mids : List Content) (left : Content) → ServesSeries traced c before mids left → List Part → Type 0
TellsSeries traced c before [] left h [] = Unit {0}
TellsSeries traced c before [] left h (part ∷ parts) = ⊥
TellsSeries traced c before (mid ∷ mids) left h [] = ⊥
TellsSeries traced c before (mid ∷ mids) left h (part ∷ parts) = TellsOne traced c before mid h.0 part × TellsSeries traced c mid mids left h.1 parts

-- these sessions are sessions of one machine, and their labels, with a line at the end of each, one trace of it
pub record IsOneTrace (traced : Bool) (c : Config) (arrays : List (List (List ℕ))) (before : Content) (mids : List Content) (left : Content) (h : ServesSeries traced c before mids left) : Type 0 where
  pub parts : List Part
  pub tells : TellsSeries traced c before mids left h parts
  pub are_sessions : AreSessions (rules_over false traced c) arrays before parts left
  pub trace : Sessions (rules_over false traced c) (beginning arrays before) (lines_of parts) (beginning arrays left)

-- so they are over any arrays, since the machine moves none
abbrev pub ServedSeriesAreSessions : Type 0
ServedSeriesAreSessions = (traced : Bool) (c : Config) (arrays : List (List (List ℕ))) (before : Content) (mids : List Content) (left : Content) → 0 < c.sector_size
    → (h : ServesSeries traced c before mids left) → IsOneTrace traced c arrays before mids left h
