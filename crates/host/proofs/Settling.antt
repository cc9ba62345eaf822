-- From the end of a removal on nothing is open or out.
use Rattle.host.proofs.Common.{◌≡◌, ℕ, zero, suc, ◌<◌, List, [], ◌∷◌, ◌++◌, Some, sym, ap, subst, arith, drop, slice_get, take, take-append-drop, Label, Rules, State, opening, Run, Always, IsEmpty, RemovedAreEmpty, RunsSplit, TraceEntry, SettledAtRemoved, IsOpening}
use Rattle.machine.specs.declared.Label.TheVariants.{Removed}
use Rattle.traced.specs.Entries.{labels_of}
use Rattle.host.proofs.Answering.{some_same}

label_at : (es : List TraceEntry) (k : ℕ) (e : TraceEntry) (l : Label) → slice_get es k ≡ Some e → e.label ≡ l → slice_get (labels_of es) k ≡ Some l
label_at [] k e l at is = absurd (cc)
label_at (x ∷ es) zero e l at is = ap Some (subst (λ y. y.label ≡ l) (sym (some_same at)) is)
label_at (x ∷ es) (suc k) e l at is = label_at es k e l at is

-- the labels up to a place behind one of them, taken apart at that
apart : (ls : List Label) (place count : ℕ) (l : Label) → slice_get ls place ≡ Some l → place < count → (rest : List Label) × (take count ls ≡ take place ls ++ l ∷ rest)
apart [] place count l at less = absurd (cc)
apart (x ∷ ls) place zero l at less = absurd (omega arith)
apart (x ∷ ls) zero (suc count) l at less = (take count ls, ap (λ y. y ∷ take count ls) (some_same at))
apart (x ∷ ls) (suc place) (suc count) l at less = let r = apart ls place count l at (omega arith) in (r.0, ap (λ ys. x ∷ ys) r.1)

at_last : (Holds : State → Type 0) (rules : Rules) (s : State) (labels : List Label) (s' : State) (run : Run rules s labels s') → Always Holds rules s labels s' run → Holds s'
at_last Holds rules s [] s' run h = h.1
at_last Holds rules s (l ∷ labels) s' run h = at_last Holds rules run.0 labels s' run.2 h.1

module _ (removed : RemovedAreEmpty) (splits : RunsSplit) (rules : Rules) (first last : State) (opens : IsOpening first) (trace : List TraceEntry) (run : Run rules first (labels_of trace) last) where
  part : (count : ℕ) → (mid : State) × Run rules first (take count (labels_of trace)) mid × Run rules mid (drop count (labels_of trace)) last
  part count = splits rules first (take count (labels_of trace)) (drop count (labels_of trace)) last (subst (λ ls. Run rules first ls last) (sym (take-append-drop count (labels_of trace))) run)

  empty_behind : (front rest : List Label) (s : State) → Run rules first (front ++ Removed ∷ rest) s → IsEmpty s
  empty_behind front rest s up =
      let m = splits rules (opening first.arrays) front (Removed ∷ rest) s (subst (λ t. Run rules t (front ++ Removed ∷ rest) s) opens up) in
      let ends : Run rules m.0 (Removed ∷ rest) s = m.2 in
      at_last IsEmpty rules ends.0 rest s ends.2 (removed rules first.arrays front m.0 ends.0 rest s m.1 ends.1 ends.2)

  pub settled : SettledAtRemoved rules first trace
  settled place count e at is less =
      let a = apart (labels_of trace) place count Removed (label_at trace place e Removed at is) less in
      record {
        last = (part count).0;
        run = (part count).1;
        empty = λ s up. empty_behind (take place (labels_of trace)) a.0 s (subst (λ ls. Run rules first ls s) a.1 up);
      }
