-- Legal exactly where explained.
use Rattle.std.proofs.Common.{◌≡◌, List, [], ◌∷◌, refl, sym, ◌∙◌, ap}
use Rattle.machine.specs.declared.Label.{Label}
use Rattle.machine.specs.declared.Label.TheVariants.{Call, Device, Answer, Cancel, Pause, Resume, Remove, Surprise, Removed}
use Rattle.history_laws.specs.History.{history_of, IsExplained}
use Rattle.history_laws.proofs.Fitting.{explained_fits}
use Rattle.history_runs.specs.Laws.{IsLegal, LegalAreExplained}
use Rattle.history_runs.proofs.Explaining.{scheduled_explained}
use Rattle.history_runs.proofs.Leaving.{explained_leaving}

of_history : (labels : List Label) → history_of (history_of labels) ≡ history_of labels
of_history [] = refl
of_history (Call n q ∷ labels) = ap (λ xs. Call n q ∷ xs) (of_history labels)
of_history (Answer n status informed bytes ∷ labels) = ap (λ xs. Answer n status informed bytes ∷ xs) (of_history labels)
of_history (Device label ∷ labels) = of_history labels
of_history (Cancel n ∷ labels) = of_history labels
of_history (Pause ∷ labels) = of_history labels
of_history (Resume ∷ labels) = of_history labels
of_history (Remove ∷ labels) = of_history labels
of_history (Surprise ∷ labels) = of_history labels
of_history (Removed ∷ labels) = of_history labels

pub legal_explained : LegalAreExplained
legal_explained rules arrays history room whole = (
  λ legal. scheduled_explained rules arrays history room whole legal.is_history legal.fit legal.schedules legal.leave_places,
  λ explained. legal explained,
)
  where
    legal : IsExplained rules arrays history → IsLegal rules arrays history
    legal h =
        let found = explained_leaving rules arrays history whole h in
        record {
          is_history = ap history_of (sym h.seen) ∙ of_history h.labels ∙ h.seen;
          fit = explained_fits rules arrays history whole h;
          schedules = found.0;
          leave_places = found.1;
        }
