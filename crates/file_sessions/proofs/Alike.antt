-- Runs from states that say the same, over tables that do.
use Rattle.std.proofs.Common.{◌≡◌, ℕ, ◌+◌, List, [], ◌∷◌, ◌++◌, sym, ap, subst, ◌∙◌}
use Rattle.std.proofs.lemmas.List.Sorted.{Contains-permutation}
use Rattle.sector.specs.declared.Extent.{Extent}
use Rattle.srb.specs.declared.Class.TheVariants.{Good, Busy, Bad}
use Rattle.srb.specs.declared.Kind.{Kind}
use Rattle.srb.specs.declared.Kind.TheVariants.{Read, Write, Flush}
use Rattle.srb.specs.declared.DeviceLabel.TheVariants.{Start, Act, Fault, Return}
use Rattle.machine.specs.declared.Label.{Label}
use Rattle.machine.specs.declared.Label.TheVariants.{Call, Device, Answer, Cancel, Pause, Resume, Remove, Surprise, Removed}
use Rattle.machine.specs.Rules.{Rules}
use Rattle.machine.specs.State.{IsSame, OpenRequest, Piece, State}
use Rattle.machine.proofs.Same.{IsSame-refl, IsSame-sym, IsSame-trans, Step-same}
use Rattle.loss.specs.Held.{Change, Held, IsOneOf, act_changes, changed_by, fault_changes, return_changes, sector_in}
use Rattle.loss.specs.Moved.{HandsOver, IsOut, IsSameTable, Moves, Table, TableRun, work_of}

module _ (rules : Rules) (s t : State) (a b : Table) (same : IsSame s t) (alike : IsSameTable a b) where
  out_same : (number : ℕ) (piece : Piece) (owner : OpenRequest) → IsOut s number piece owner → IsOut t number piece owner
  out_same number piece owner out = record {
    is_number = out.is_number;
    is_out = Contains-permutation s.pieces t.pieces piece same.pieces out.is_out;
    is_open = Contains-permutation s.requests t.requests owner same.requests out.is_open;
    is_owner = out.is_owner;
  }

  hands_same : (extent : Extent) (kind : Kind) (bytes : List ℕ) → HandsOver rules.sector_size a extent kind bytes → HandsOver rules.sector_size b extent kind bytes
  hands_same extent Read bytes h = λ k low. subst (λ (held : Held). IsOneOf (sector_in rules.sector_size k bytes) held.now) (sym (alike (extent.first + k))) (h k low)
  hands_same extent Write bytes h = tt
  hands_same extent Flush bytes h = tt

  changed_same : (changes : List Change) (i : ℕ) (held : Held) → held ≡ changed_by s.next_piece changes (a i) → held ≡ changed_by t.next_piece changes (b i)
  changed_same changes i held h = h ∙ ap (λ (n : ℕ). changed_by n changes (a i)) same.next_piece ∙ ap (λ (x : Held). changed_by t.next_piece changes x) (sym (alike i))

  moves_same : (label : Label) (after : Table) → Moves rules s label a after → Moves rules t label b after
  moves_same (Device (Act number bytes)) after h = record {
    piece = h.piece;
    owner = h.owner;
    out = out_same number h.piece h.owner h.out;
    hands_over = hands_same (work_of rules h.owner.request h.piece.places).extent h.owner.request.kind bytes h.hands_over;
    after = λ i. changed_same (act_changes rules.sector_size number (work_of rules h.owner.request h.piece.places) i) i (after i) (h.after i);
  }
  moves_same (Device (Fault number)) after h = record {
    piece = h.piece;
    owner = h.owner;
    out = out_same number h.piece h.owner h.out;
    after = λ i. changed_same (fault_changes rules.sector_size (work_of rules h.owner.request h.piece.places) i) i (after i) (h.after i);
  }
  moves_same (Device (Return number (Bad completion))) after h = record {
    piece = h.piece;
    owner = h.owner;
    out = out_same number h.piece h.owner h.out;
    after = λ i. changed_same (return_changes rules.sector_size h.piece.fate (work_of rules h.owner.request h.piece.places) i) i (after i) (h.after i);
  }
  moves_same (Device (Return number Good)) after h = λ i. h i ∙ sym (alike i)
  moves_same (Device (Return number Busy)) after h = λ i. h i ∙ sym (alike i)
  moves_same (Device (Start number tag block)) after h = λ i. h i ∙ sym (alike i)
  moves_same (Call number q) after h = λ i. h i ∙ sym (alike i)
  moves_same (Answer number status informed bytes) after h = λ i. h i ∙ sym (alike i)
  moves_same (Cancel number) after h = λ i. h i ∙ sym (alike i)
  moves_same Pause after h = λ i. h i ∙ sym (alike i)
  moves_same Resume after h = λ i. h i ∙ sym (alike i)
  moves_same Remove after h = λ i. h i ∙ sym (alike i)
  moves_same Surprise after h = λ i. h i ∙ sym (alike i)
  moves_same Removed after h = λ i. h i ∙ sym (alike i)

  pub table_same : (labels : List Label) (s' : State) (t' : Table) → TableRun rules s a labels s' t' → TableRun rules t b labels s' t'
  table_same [] s' t' run = (IsSame-trans t s s' (IsSame-sym s t same) run.0, λ i. run.1 i ∙ sym (alike i))
  table_same (label ∷ labels) s' t' run =
      (run.0, run.1, Step-same rules label s t run.0 run.0 same (IsSame-refl run.0) run.2, moves_same label run.1 run.3, run.4)

-- one behind the other
pub table_append : (rules : Rules) (s : State) (t : Table) (xs : List Label) (mid : State) (between : Table) (ys : List Label) (s' : State) (t' : Table)
    → TableRun rules s t xs mid between → TableRun rules mid between ys s' t' → TableRun rules s t (xs ++ ys) s' t'
table_append rules s t [] mid between ys s' t' first rest = table_same rules mid s between t (IsSame-sym s mid first.0) (λ i. sym (first.1 i)) ys s' t' rest
table_append rules s t (x ∷ xs) mid between ys s' t' first rest = (first.0, first.1, first.2, first.3, table_append rules first.0 first.1 xs mid between ys s' t' first.4 rest)
