-- Steps and runs by lines do not depend on the order of requests and pieces.
use Rattle.std.proofs.Common.{ℕ, List, [], ◌∷◌, ◌++◌, Option, Some, None, map}
use Rattle.std.proofs.lemmas.List.Sorted.{IsPermutation-sym, IsPermutation-trans, IsPermutation-cons}
use Rattle.srb.specs.declared.DeviceLabel.{DeviceLabel}
use Rattle.srb.specs.declared.DeviceLabel.TheVariants.{Start, Act, Fault, Return}
use Rattle.machine.specs.declared.Label.{Label}
use Rattle.machine.specs.declared.Label.TheVariants.{Device}
use Rattle.machine.specs.Rules.{Rules}
use Rattle.machine.specs.State.{State, IsSame}
use Rattle.machine.specs.Step.{Run}
use Rattle.machine.proofs.Same.{IsSame-refl, IsSame-sym, IsSame-trans, Step-same}
use Rattle.trace_line.specs.declared.Line.{Line}
use Rattle.judge.specs.Judging.{all_plain}
use Rattle.trace_line.specs.Lines.{StartIsOf, DeviceIsOf, LabelIsOf, LineStep, LineRun}

module _ (s t s' t' : State) (same : IsSame s t) (same' : IsSame s' t') where
  start_same : (owner : Option ℕ) → StartIsOf s s' owner → StartIsOf t t' owner
  start_same None h = tt
  start_same (Some r) h = record {
    piece = h.piece;
    is_new = IsPermutation-trans _ _ _ (IsPermutation-sym _ _ same'.pieces) (IsPermutation-trans _ _ _ h.is_new (IsPermutation-cons h.piece _ _ same.pieces));
    is_owner = h.is_owner;
  }

  device_same : (l : DeviceLabel) (owner : Option ℕ) → DeviceIsOf s s' l owner → DeviceIsOf t t' l owner
  device_same (Start number tag block) owner h = start_same owner h
  device_same (Act number bytes) owner h = tt
  device_same (Fault number) owner h = tt
  device_same (Return number class) owner h = tt

  pub label_same : (l : Label) (owner : Option ℕ) → LabelIsOf s s' l owner → LabelIsOf t t' l owner
  label_same (Device l) owner h = device_same l owner h
  label_same _ owner h = tt

  pub step_same : (rules : Rules) (line : Line) → LineStep rules s line s' → LineStep rules t line t'
  step_same rules line h = record { step = Step-same rules line.label s t s' t' same same' h.step; is_of = label_same line.label line.owner h.is_of }

-- a label that names no request is of any
none_device : (s s' : State) (l : DeviceLabel) → DeviceIsOf s s' l None
none_device s s' (Start number tag block) = tt
none_device s s' (Act number bytes) = tt
none_device s s' (Fault number) = tt
none_device s s' (Return number class) = tt

pub none_told : (s s' : State) (l : Label) → LabelIsOf s s' l None
none_told s s' (Device l) = none_device s s' l
none_told s s' _ = tt

-- a run by labels is one of their lines, and the other way round
pub plain_run : (rules : Rules) (s : State) (labels : List Label) (s' : State) → Run rules s labels s' → LineRun rules s (all_plain labels) s'
plain_run rules s [] s' run = run
plain_run rules s (label ∷ labels) s' run = (run.0, record { step = run.1; is_of = none_told s run.0 label }, plain_run rules run.0 labels s' run.2)

pub run_plain : (rules : Rules) (s : State) (labels : List Label) (s' : State) → LineRun rules s (all_plain labels) s' → Run rules s labels s'
run_plain rules s [] s' run = run
run_plain rules s (label ∷ labels) s' run = (run.0, run.1.step, run_plain rules run.0 labels s' run.2)

-- a run of lines is a run by their labels
pub labels_run : (rules : Rules) (s : State) (lines : List Line) (s' : State) → LineRun rules s lines s' → Run rules s (map (λ (l : Line). l.label) lines) s'
labels_run rules s [] s' run = run
labels_run rules s (line ∷ lines) s' run = (run.0, run.1.step, labels_run rules run.0 lines s' run.2)

run_same : (rules : Rules) (s t : State) (lines : List Line) (s' : State) → IsSame s t → LineRun rules s lines s' → LineRun rules t lines s'
run_same rules s t [] s' same run = IsSame-trans t s s' (IsSame-sym s t same) run
run_same rules s t (line ∷ lines) s' same run = (run.0, step_same s t run.0 run.0 same (IsSame-refl run.0) rules line run.1, run.2)

pub run_append : (rules : Rules) (s : State) (xs : List Line) (mid : State) (ys : List Line) (s' : State) → LineRun rules s xs mid → LineRun rules mid ys s' → LineRun rules s (xs ++ ys) s'
run_append rules s [] mid ys s' before after = run_same rules mid s ys s' (IsSame-sym s mid before) after
run_append rules s (x ∷ xs) mid ys s' before after = (before.0, before.1, run_append rules before.0 xs mid ys s' before.2 after)

-- a run of joined lines passes through a state between them
pub run_split : (rules : Rules) (s : State) (xs ys : List Line) (s' : State) → LineRun rules s (xs ++ ys) s' → (mid : State) × LineRun rules s xs mid × LineRun rules mid ys s'
run_split rules s [] ys s' run = (s, IsSame-refl s, run)
run_split rules s (x ∷ xs) ys s' run =
    let rest : (mid : State) × LineRun rules run.0 xs mid × LineRun rules mid ys s' = run_split rules run.0 xs ys s' run.2 in
    (rest.0, (run.0, run.1, rest.1), rest.2)
