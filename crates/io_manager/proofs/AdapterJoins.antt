-- Moves of an adapter, one after another: they join, and record their labels.
use Rattle.std.proofs.Common.{◌≡◌, ℕ, false, true, List, [], ◌∷◌, ◌++◌, Option, Some, None, refl, sym, ◌∙◌, ap, subst, append_assoc}
use Rattle.io_manager.proofs.Common.{Need, Read, Write, Flush, append-nil, DeviceLabel, Start, Act, Fault, Return, AdapterView, ReservesMore, NotesReset, MovesOn, MovesByAll, reserves_none, ReservesFor, AdapterMoves}

label_moved : (tag : ℕ) (old : AdapterView) (label : DeviceLabel) (new : AdapterView) → MovesOn old tag label new → new.labels ≡ old.labels ++ label ∷ []
label_moved tag old (Start piece started block) new h =
    ap (λ (v : AdapterView). v.labels) h.1.accepts.after
    ∙ ap (λ t. old.labels ++ Start piece t h.1.srb.block ∷ []) (sym h.0)
    ∙ ap (λ b. old.labels ++ Start piece started b ∷ []) h.1.has_block
label_moved tag old (Act piece bytes) new h = ap (λ (v : AdapterView). v.labels) h.after
label_moved tag old (Fault piece) new h = ap (λ (v : AdapterView). v.labels) h.after
label_moved tag old (Return piece class) new h = ap (λ (v : AdapterView). v.labels) h.after

-- just these labels are recorded
pub labels_moved : (old : AdapterView) (labels : List DeviceLabel) (new : AdapterView) → MovesByAll old labels new → new.labels ≡ old.labels ++ labels
labels_moved old [] new h = ap (λ (v : AdapterView). v.labels) h ∙ sym (append-nil old.labels)
labels_moved old (label ∷ labels) new h =
    labels_moved h.0 labels new h.2
    ∙ ap (λ first. first ++ labels) (label_moved h.1.0 old label h.0 h.1.1)
    ∙ append_assoc old.labels (label ∷ []) labels

-- what is reserved for some sectors, or for none, is no less than before
pub reserves_more : (reserves : Option Need) (old first : AdapterView) → ReservesFor reserves old first → ReservesMore old first
reserves_more None old first h = subst (ReservesMore old) (sym h) (reserves_none old)
reserves_more (Some (Write, extent)) old first h = h.0
reserves_more (Some (Read, extent)) old first h = subst (ReservesMore old) (sym h) (reserves_none old)
reserves_more (Some (Flush, extent)) old first h = subst (ReservesMore old) (sym h) (reserves_none old)

-- moves that a reset follows, and then labels that are taken
pub reset_joined : (old : AdapterView) (labels : List DeviceLabel) (faulted mid : AdapterView) (new : AdapterView)
    → MovesByAll old labels faulted → NotesReset faulted mid → AdapterMoves false None mid [] new → AdapterMoves true None old labels new
reset_joined old labels faulted mid new a noted b = record {
  first = old;
  before = refl;
  moved = b.moved;
  moves = (faulted, a, subst (NotesReset faulted) (sym (b.moves ∙ b.before)) noted);
  taken = b.taken;
}
