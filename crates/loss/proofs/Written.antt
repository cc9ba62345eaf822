-- A loss leaves nothing but what was there or was written.
use Rattle.std.proofs.Common.{◌⊎◌, inl, inr, ℕ, List, [], ◌∷◌, refl}
use Rattle.srb.specs.declared.Class.TheVariants.{Good, Busy, Bad}
use Rattle.srb.specs.declared.DeviceLabel.TheVariants.{Start, Act, Fault, Return}
use Rattle.machine.specs.declared.Label.{Label}
use Rattle.machine.specs.declared.Label.TheVariants.{Call, Device, Answer, Cancel, Pause, Resume, Remove, Surprise, Removed}
use Rattle.machine.specs.Rules.{Rules}
use Rattle.machine.specs.State.{State}
use Rattle.loss.specs.Held.{Change, Puts, Secures, Tries, Syncs, Doubts, IsOneOf, act_changes, fault_changes, return_changes, left}
use Rattle.loss.specs.Moved.{Table, TableRun, work_of}
use Rattle.loss.specs.Laws.{Brings, Brought, BroughtBy, Changes, Each, SomeOf, Somewhere, Throughout}
use Rattle.loss.proofs.Along.{leaves_along}

each_brings : (Such : List ℕ → Type 0) (changes : List Change) → ((value : List ℕ) → SomeOf (Brought value) changes → Such value) → Each (Brings Such) changes
each_brings Such [] such = tt
each_brings Such (Puts value ∷ changes) such = (such value (inl refl), each_brings Such changes (λ v p. such v (inr p)))
each_brings Such (Secures value ∷ changes) such = (such value (inl refl), each_brings Such changes (λ v p. such v (inr p)))
each_brings Such (Tries value ∷ changes) such = (such value (inl refl), each_brings Such changes (λ v p. such v (inr p)))
each_brings Such (Syncs number ∷ changes) such = (tt, each_brings Such changes (λ v p. such v (inr p)))
each_brings Such (Doubts ∷ changes) such = (tt, each_brings Such changes (λ v p. such v (inr p)))

module _ (rules : Rules) (i : ℕ) (Such : List ℕ → Type 0) where
  label_brings : (s : State) (label : Label) → ((value : List ℕ) → BroughtBy rules i value s label → Such value) → Changes rules i (Brings Such) s label
  label_brings s (Device (Act number bytes)) such = λ piece owner out.
      each_brings Such (act_changes rules.sector_size number (work_of rules owner.request piece.places) i) (λ value p. such value (piece, owner, out, p))
  label_brings s (Device (Fault number)) such = λ piece owner out.
      each_brings Such (fault_changes rules.sector_size (work_of rules owner.request piece.places) i) (λ value p. such value (piece, owner, out, p))
  label_brings s (Device (Start number tag block)) such = tt
  label_brings s (Device (Return number (Bad completion))) such = λ piece owner out.
      each_brings Such (return_changes rules.sector_size piece.fate (work_of rules owner.request piece.places) i) (λ value p. such value (piece, owner, out, p))
  label_brings s (Device (Return number Good)) such = tt
  label_brings s (Device (Return number Busy)) such = tt
  label_brings s (Call number q) such = tt
  label_brings s (Answer number status informed bytes) such = tt
  label_brings s (Cancel number) such = tt
  label_brings s Pause such = tt
  label_brings s Resume such = tt
  label_brings s Remove such = tt
  label_brings s Surprise such = tt
  label_brings s Removed such = tt

  run_brings : (s : State) (t : Table) (labels : List Label) (s' : State) (t' : Table) (run : TableRun rules s t labels s' t')
      → ((value : List ℕ) → Somewhere (BroughtBy rules i value) rules s t labels s' t' run → Such value) → Throughout (Changes rules i (Brings Such)) rules s t labels s' t' run
  run_brings s t [] s' t' run such = tt
  run_brings s t (label ∷ labels) s' t' run such = (label_brings s label (λ value p. such value (inl p)), run_brings run.0 run.1 labels s' t' run.4 (λ value p. such value (inr p)))

pub only_written : (rules : Rules) (i : ℕ) (value : List ℕ) (s : State) (t : Table) (labels : List Label) (s' : State) (t' : Table) (run : TableRun rules s t labels s' t')
    → IsOneOf value (left (t' i)) → IsOneOf value (left (t i)) ⊎ Somewhere (BroughtBy rules i value) rules s t labels s' t' run
only_written rules i value s t labels s' t' run p =
    leaves_along rules i (λ (v : List ℕ). IsOneOf v (left (t i)) ⊎ Somewhere (BroughtBy rules i v) rules s t labels s' t' run) s t labels s' t' run
    (run_brings rules i (λ (v : List ℕ). IsOneOf v (left (t i)) ⊎ Somewhere (BroughtBy rules i v) rules s t labels s' t' run) s t labels s' t' run (λ v q. inr q)) (λ v q. inl q) value p
