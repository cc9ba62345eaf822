-- What holds of a history over sessions between two lines.
use Rattle.std.specs.Prelude.{◌≡◌, ◌<◌, ℕ, Bool, true, false, List, [], ◌∷◌, ◌++◌, Option, Some, None}
use Rattle.std.specs.List.{list_any}
use Rattle.ntstatus.specs.declared.NtStatus.{NtStatus}
use Rattle.machine.specs.declared.ClientRequest.{ClientRequest}
use Rattle.machine.specs.declared.Label.{Label}
use Rattle.machine.specs.declared.Label.TheVariants.{Call, Answer}
use Rattle.machine.specs.Rules.{Rules}
use Rattle.history_laws.specs.declared.Asked.{Asked}
use Rattle.register.specs.Values.{code}
use Rattle.loss.specs.Sessions.{Line as SessionLine, Told as ToldLine}
use Rattle.history_loss_runs.specs.Laws.{all_fit_over}
use Rattle.history_loss_fits.specs.Laws.{labels_fit}
use Rattle.history_loss_sights.specs.Sights.{has_sector}
use Rattle.history_loss_kept.specs.declared.Shared.{Shared}
use Rattle.history_loss_kept.specs.Kept.{is_sync_of, kept_of, nothing_kept}
use Rattle.history_loss_sector.specs.Seen.{IsOnce, SeenView, is_for, shared_in}
use Rattle.history_fitting.specs.declared.fitting.Known.{Known}
use Rattle.history_fitting.specs.declared.fitting.Misfit.{Misfit}
use Rattle.history_fitting.specs.Opened.{AreOpen, IsFresh, may_come, opened_at}
use Rattle.history_fitting.specs.Services.{rules_of}
use Rattle.history_loss_judge.specs.declared.lines.Line.{Line}
use Rattle.history_loss_judge.specs.declared.recorded.Fitted.{Fitted}
use Rattle.history_loss_judge.specs.declared.spans.Span.{Span}
use Rattle.history_loss_judge.specs.declared.syncs.Syncs.{Syncs}
use Rattle.history_loss_judge.specs.inside.Cells.{HasCells}
use Rattle.history_loss_judge.specs.inside.Lines.{lines_in}
use Rattle.history_loss_judge.specs.inside.Spans.{IsSpanOf}
use Rattle.history_loss_judge.specs.inside.Syncs.{IsIndexed, index_of}
use Rattle.history_loss_judge.specs.inside.Telling.{session_of}

-- WHICH SECTORS A LABEL IS FOR

abbrev pub IsSpanAt : Rules → Option ClientRequest → Option Span → Type 0
IsSpanAt rules None found = found ≡ None
IsSpanAt rules (Some q) found = IsSpanOf rules q found

abbrev pub IsSpanFor : Rules → Known → Label → Option Span → Type 0
IsSpanFor rules known (Call n q) found = IsSpanOf rules q found
IsSpanFor rules known (Answer n status informed bytes) found = IsSpanAt rules (opened_at known.opened n) found
IsSpanFor rules known _ found = found ≡ None

-- an open request moves the sector
abbrev pub moves_at : Rules → ℕ → Option ClientRequest → Bool
moves_at rules i None = false
moves_at rules i (Some q) = has_sector rules i q

-- WHAT IS KEPT

-- of each sector what is kept of the lines
pub record IsKept (rules : Rules) (lines : List SessionLine) (shared : List Shared) (kept : ℕ → SeenView) : Type 0 where
  pub all : (i : ℕ) → kept_of code true rules i nothing_kept lines ≡ record { past = (kept i).all; session = session_of shared (kept i) }
  pub steady : (i : ℕ) → kept_of code false rules i nothing_kept lines ≡ record { past = (kept i).steady; session = session_of shared (kept i) }

-- of a request that is open, or to come, a sector sees nothing if it doesn't move it
abbrev pub AreQuiet : Rules → Known → (ℕ → SeenView) → Type 0
AreQuiet rules known kept = (i n : ℕ) → IsFresh known n → moves_at rules i (opened_at known.opened n) ≡ false → list_any (is_for n) (kept i).own ≡ false

-- each request is seen once at most
abbrev pub AreOnce : (ℕ → SeenView) → Type 0
AreOnce kept = (i n : ℕ) → IsOnce n (kept i).own

-- of a request that is open, or to come, what all sectors see stands where it is found
abbrev pub IsFoundAt : List Shared → ℕ → Option ℕ → Type 0
IsFoundAt shared n None = list_any (is_sync_of n) shared ≡ false
IsFoundAt shared n (Some at) = Unit {0}

pub record AreFound (known : Known) (syncs : Syncs) : Type 0 where
  pub closed : (n : ℕ) → known.calls < n → index_of syncs.calls n ≡ None
  pub indexed : (n : ℕ) → IsIndexed syncs.shared.items n (index_of syncs.calls n)
  pub found : (n : ℕ) → IsFresh known n → IsFoundAt (shared_in syncs.shared.items) n (index_of syncs.calls n)

-- HOW LABELS FIT

-- each refused call was answered in its session, of those before
abbrev pub AreOver : Rules → List (Option Asked) → Option NtStatus → List SessionLine → Option ℕ → Type 0
AreOver rules asked owed lines None = (rest : List SessionLine) → all_fit_over rules (None ∷ []) None (lines ++ rest) ≡ all_fit_over rules asked owed rest
AreOver rules asked owed lines (Some line) = (rest : List SessionLine) → all_fit_over rules (None ∷ []) None (lines ++ rest) ≡ false

-- where the first session ended that owes an answer
abbrev pub owing_after : Option ℕ → Option NtStatus → ℕ → Option ℕ
owing_after (Some first) owed line = Some first
owing_after None (Some status) line = Some line
owing_after None None line = None

-- all labels fit, and each sector has what they show of it
pub record IsWhole (f : Fitted) : Type 0 where
  pub sized : 0 < f.basis.service.sector_size
  pub asked : List (Option Asked)
  pub fit : (rest : List SessionLine) → labels_fit (rules_of f.basis.service) (None ∷ []) None (lines_in f.lines.items ++ rest) ≡ labels_fit (rules_of f.basis.service) asked f.known.owed rest
  pub over : AreOver (rules_of f.basis.service) asked f.known.owed (lines_in f.lines.items) f.owing
  pub opens : AreOpen asked f.known
  pub kept : ℕ → SeenView
  pub begins : (i : ℕ) → (kept i).start ≡ f.basis.start
  pub is_kept : IsKept (rules_of f.basis.service) (lines_in f.lines.items) (shared_in f.syncs.shared.items) kept
  pub quiet : AreQuiet (rules_of f.basis.service) f.known kept
  pub once : AreOnce kept
  pub found : AreFound f.known f.syncs
  pub cells : HasCells f.basis.start kept f.cells

-- the label behind these doesn't fit
pub record IsStopped (f : Fitted) (behind : List Line) : Type 0 where
  pub label : Label
  pub rest : List SessionLine
  pub is : lines_in behind ≡ ToldLine label ∷ rest
  pub misfit : may_come (rules_of f.basis.service) f.known label ≡ false

-- lines are behind only where one doesn't fit
abbrev pub StopsAt : Fitted → Option (ℕ × Misfit) → List Line → Type 0
StopsAt f None behind = behind ≡ []
StopsAt f (Some at) behind = IsStopped f behind

pub record IsHistory (f : Fitted) (start : List ℕ) (misfit : Option (ℕ × Misfit)) (behind : List Line) : Type 0 where
  pub whole : IsWhole f
  pub starts : f.basis.start ≡ code start
  pub stops : StopsAt f misfit behind
