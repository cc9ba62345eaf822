-- What holds of a history between two labels.
use Rattle.std.specs.Prelude.{◌≡◌, ◌<◌, ℕ, Bool, List, [], ◌∷◌, ◌++◌, Option, Some, None, false, if◌then◌else◌}
use Rattle.std.specs.List.{list_any}
use Rattle.srb.specs.declared.Kind.{Kind}
use Rattle.machine.specs.declared.ClientRequest.{ClientRequest}
use Rattle.machine.specs.declared.Label.{Label}
use Rattle.machine.specs.declared.Label.TheVariants.{Call, Answer}
use Rattle.machine.specs.Rules.{Rules}
use Rattle.history_laws.specs.declared.Asked.{Asked}
use Rattle.register.specs.Values.{code}
use Rattle.history.specs.declared.Wait.{Wait}
use Rattle.history.specs.Gaps.{all_fit_by, all_fit_by_at_first}
use Rattle.history.specs.Sights.{has_sector}
use Rattle.history.specs.Waits.{is_wait_of}
use Rattle.history_fitting.specs.declared.fitting.Known.{Known}
use Rattle.history_fitting.specs.declared.fitting.Misfit.{Misfit}
use Rattle.history_judge.specs.declared.cells.Span.{Span}
use Rattle.history_judge.specs.declared.recorded.Fitted.{Fitted}
use Rattle.history_fitting.specs.Services.{rules_of}
use Rattle.history_fitting.specs.Opened.{opened_at, may_come_by, AreOpen, IsFresh}
use Rattle.history_judge.specs.inside.Cells.{is_write, is_read, is_awaited, IsSpanOf, HasCells, seen_of}

-- what an open request does to the sector
abbrev pub writes_at : Rules → ℕ → ℕ → Option ClientRequest → Bool
writes_at rules p i None = false
writes_at rules p i (Some q) = if has_sector rules p i q then is_write q.kind else false

abbrev pub reads_at : Rules → ℕ → ℕ → Option ClientRequest → Bool
reads_at rules p i None = false
reads_at rules p i (Some q) = if has_sector rules p i q then is_read q.kind else false

-- of a request of this number just that is seen which follows from its call
pub record ShowsCall (rules : Rules) (p i n : ℕ) (request : Option ClientRequest) (waits : List Wait) : Type 0 where
  pub called : list_any (is_wait_of n) waits ≡ writes_at rules p i request
  pub awaited : list_any (is_awaited n) waits ≡ reads_at rules p i request

abbrev pub AreTold : Rules → List Label → Known → Type 0
AreTold rules labels known = (p i n : ℕ) → IsFresh known n → ShowsCall rules p i n (opened_at known.opened n) (seen_of rules labels p i)

-- which sectors a request moves, and what it does
abbrev pub IsSpanBy : Rules → ClientRequest → Option (Span × Kind) → Type 0
IsSpanBy rules q None = IsSpanOf rules q None
IsSpanBy rules q (Some (span, kind)) = (kind ≡ q.kind) × IsSpanOf rules q (Some span)

abbrev pub IsSpanAt : Rules → Option ClientRequest → Option (Span × Kind) → Type 0
IsSpanAt rules None found = found ≡ None
IsSpanAt rules (Some q) found = IsSpanBy rules q found

-- the same of a label
abbrev pub IsSpan : Rules → Known → Label → Option (Span × Kind) → Type 0
IsSpan rules known (Call n q) found = IsSpanBy rules q found
IsSpan rules known (Answer n status informed bytes) found = IsSpanAt rules (opened_at known.opened n) found
IsSpan rules known _ found = found ≡ None

-- all labels fit, and each sector has what they show of it
pub record IsWhole (f : Fitted) : Type 0 where
  pub sized : 0 < f.basis.service.sector_size
  pub asked : List (Option Asked)
  pub known : (gaps : List Bool) (rest : List Label)
      → all_fit_by_at_first (rules_of f.basis.service) (f.gaps.items ++ gaps) (f.labels.items ++ rest) ≡ all_fit_by (rules_of f.basis.service) asked f.known.owed gaps rest
  pub opens : AreOpen asked f.known
  pub told : AreTold (rules_of f.basis.service) f.labels.items f.known
  pub cells : HasCells f.basis.start.any f.basis.start.bytes (seen_of (rules_of f.basis.service) f.labels.items) f.cells

-- the label behind these doesn't fit
pub record IsStopped (f : Fitted) (gaps : List Bool) (behind : List Label) : Type 0 where
  pub gap : Bool
  pub label : Label
  pub other_gaps : List Bool
  pub rest : List Label
  pub gaps_are : gaps ≡ gap ∷ other_gaps
  pub is : behind ≡ label ∷ rest
  pub misfit : may_come_by gap (rules_of f.basis.service) f.known label ≡ false

-- labels are behind only where one doesn't fit
abbrev pub StopsAt : Fitted → Option (ℕ × Misfit) → List Bool → List Label → Type 0
StopsAt f None gaps behind = (gaps ≡ []) × (behind ≡ [])
StopsAt f (Some at) gaps behind = IsStopped f gaps behind

pub record IsHistory (f : Fitted) (start : List ℕ) (misfit : Option (ℕ × Misfit)) (gaps : List Bool) (behind : List Label) : Type 0 where
  pub whole : IsWhole f
  pub starts : f.basis.start.bytes ≡ code start
  pub stops : StopsAt f misfit gaps behind
