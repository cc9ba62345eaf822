-- What is kept, one line more.
use Rattle.std.proofs.Common.{◌≡◌, ℕ, Bool, true, false, List, [], ◌∷◌, ◌++◌, refl, ◌∙◌, ap}
use Rattle.machine.specs.declared.Label.{Label}
use Rattle.machine.specs.declared.Label.TheVariants.{Call, Device, Answer, Cancel, Pause, Resume, Remove, Surprise, Removed}
use Rattle.machine.specs.Rules.{Rules}
use Rattle.register.specs.Values.{code}
use Rattle.loss.specs.Sessions.{Line as SessionLine, Told as ToldLine}
use Rattle.register_loss.specs.declared.Sight.{Sight}
use Rattle.history_loss_kept.specs.declared.Shared.{Shared}
use Rattle.history_loss_kept.specs.Kept.{Kept, Session, call_of, kept_after, kept_of, nothing_kept, shared_after, step}
use Rattle.history_loss_sector.specs.declared.seen.Turned.{Turned}
use Rattle.history_loss_sector.specs.declared.seen.Turned.TheVariants.{Lost as TurnsLost, Ended as TurnsEnded}
use Rattle.history_loss_sector.specs.Seen.{SeenView, turned_sight}
use Rattle.history_loss_judge.specs.inside.Lines.{line_of}
use Rattle.history_loss_judge.specs.inside.Cells.{nothing_seen, turned_by}
use Rattle.history_loss_judge.specs.inside.Telling.{behind_label, session_of}
use Rattle.history_loss_judge.specs.inside.Histories.{IsKept}

kept_push : (all : Bool) (rules : Rules) (i : ℕ) (k : Kept) (lines : List SessionLine) (line : SessionLine) → kept_of code all rules i k (lines ++ line ∷ []) ≡ kept_after code all rules i (kept_of code all rules i k lines) line
kept_push all rules i k [] line = refl
kept_push all rules i k (l ∷ lines) line = kept_push all rules i (kept_after code all rules i k l) lines line

-- what all sectors see, behind a label
abbrev pub shared_behind : Label → List Shared → List Shared
shared_behind (Call n q) shared = shared ++ call_of n q.kind q.through
shared_behind (Answer n status informed bytes) shared = shared_after n status shared
shared_behind _ shared = shared

session_next : (rules : Rules) (i : ℕ) (shared : List Shared) (label : Label) (seen : SeenView) → step code rules i (session_of shared seen) label ≡ session_of (shared_behind label shared) (behind_label rules i shared label seen)
session_next rules i shared (Call n q) seen = refl
session_next rules i shared (Answer n status informed bytes) seen = refl
session_next rules i shared (Device label) seen = refl
session_next rules i shared (Cancel n) seen = refl
session_next rules i shared Pause seen = refl
session_next rules i shared Resume seen = refl
session_next rules i shared Remove seen = refl
session_next rules i shared Surprise seen = refl
session_next rules i shared Removed seen = refl

abbrev with_session : List Sight → Session → Kept
with_session past session = record { past = past; session = session }

pub kept_first : (rules : Rules) (start : ℕ) → IsKept rules [] [] (nothing_seen start)
kept_first rules start = record { all = λ i. refl; steady = λ i. refl }

pub kept_told : (rules : Rules) (lines : List SessionLine) (shared : List Shared) (kept : ℕ → SeenView) (label : Label) → IsKept rules lines shared kept
    → IsKept rules (lines ++ ToldLine label ∷ []) (shared_behind label shared) (λ i. behind_label rules i shared label (kept i))
kept_told rules lines shared kept label h = record {
  all = λ i.
      kept_push true rules i nothing_kept lines (ToldLine label) ∙ ap (λ k. kept_after code true rules i k (ToldLine label)) (h.all i)
      ∙ ap (with_session (kept i).all) (session_next rules i shared label (kept i));
  steady = λ i.
      kept_push false rules i nothing_kept lines (ToldLine label) ∙ ap (λ k. kept_after code false rules i k (ToldLine label)) (h.steady i)
      ∙ ap (with_session (kept i).steady) (session_next rules i shared label (kept i));
}

pub kept_turned : (rules : Rules) (lines : List SessionLine) (shared : List Shared) (kept : ℕ → SeenView) (how : Turned) → IsKept rules lines shared kept
    → IsKept rules (lines ++ line_of how ∷ []) [] (turned_by shared (turned_sight how) kept)
kept_turned rules lines shared kept TurnsLost h = record {
  all = λ i. kept_push true rules i nothing_kept lines (line_of TurnsLost) ∙ ap (λ k. kept_after code true rules i k (line_of TurnsLost)) (h.all i);
  steady = λ i. kept_push false rules i nothing_kept lines (line_of TurnsLost) ∙ ap (λ k. kept_after code false rules i k (line_of TurnsLost)) (h.steady i);
}
kept_turned rules lines shared kept TurnsEnded h = record {
  all = λ i. kept_push true rules i nothing_kept lines (line_of TurnsEnded) ∙ ap (λ k. kept_after code true rules i k (line_of TurnsEnded)) (h.all i);
  steady = λ i. kept_push false rules i nothing_kept lines (line_of TurnsEnded) ∙ ap (λ k. kept_after code false rules i k (line_of TurnsEnded)) (h.steady i);
}
