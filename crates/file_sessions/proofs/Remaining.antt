-- What was answered SUCCESS outlives its process.
use Rattle.std.proofs.Common.{inl, inr, ℕ, List, [], ◌∷◌, sym, subst}
use Rattle.srb.specs.declared.Class.TheVariants.{Good, Busy, Bad}
use Rattle.srb.specs.declared.DeviceLabel.TheVariants.{Start, Act, Fault, Return}
use Rattle.machine.specs.declared.Label.{Label}
use Rattle.machine.specs.declared.Label.TheVariants.{Call, Device, Answer, Cancel, Pause, Resume, Remove, Surprise, Removed}
use Rattle.machine.specs.Rules.{Rules}
use Rattle.machine.specs.State.{OpenRequest, Piece, State}
use Rattle.loss.specs.Held.{Change, Puts, Secures, Tries, Syncs, Doubts, Held, act_changes, changed, changed_by, fault_changes, return_changes}
use Rattle.loss.specs.Moved.{IsSameTable, Moves, Table, TableRun, work_of}
use Rattle.loss.specs.Laws.{BringsSurely, Changes, Each, GivesOnly, Throughout}
use Rattle.loss.specs.Sessions.{IsAtWork, MayRemain}
use Rattle.file_sessions.proofs.Within.{of_either}

-- READS GIVE NO MORE

keeps_gives : (Such : List ℕ → Type 0) (next : ℕ) (c : Change) (h : Held) → BringsSurely Such c → GivesOnly Such h → GivesOnly Such (changed next c h)
keeps_gives Such next (Puts v) h brings all value (inl e) = subst Such (sym e) brings
keeps_gives Such next (Puts v) h brings all value (inr never) = absurd never
keeps_gives Such next (Secures v) h brings all value (inl e) = subst Such (sym e) brings
keeps_gives Such next (Secures v) h brings all value (inr never) = absurd never
keeps_gives Such next (Tries v) h brings all value p = elim (of_either value h.now (v ∷ []) p) [ inl q ↦ all value q | inr (inl e) ↦ subst Such (sym e) brings | inr (inr never) ↦ absurd never ]
keeps_gives Such next (Syncs number) h brings all value p = all value p
keeps_gives Such next Doubts h brings all value p = absurd brings

all_keep : (Such : List ℕ → Type 0) (next : ℕ) (changes : List Change) (h : Held) → Each (BringsSurely Such) changes → GivesOnly Such h → GivesOnly Such (changed_by next changes h)
all_keep Such next [] h each all = all
all_keep Such next (c ∷ changes) h each all = all_keep Such next changes (changed next c h) each.1 (keeps_gives Such next c h each.0 all)

module _ (rules : Rules) (i : ℕ) (Such : List ℕ → Type 0) where
  same_gives : (t t' : Table) → IsSameTable t t' → GivesOnly Such (t i) → GivesOnly Such (t' i)
  same_gives t t' same all = subst (λ (h : Held). GivesOnly Such h) (sym (same i)) all

  pub move_gives : (s : State) (label : Label) (t t' : Table) → Moves rules s label t t' → Changes rules i (BringsSurely Such) s label → GivesOnly Such (t i) → GivesOnly Such (t' i)
  move_gives s (Device (Act number bytes)) t t' h changes all =
      subst (λ (x : Held). GivesOnly Such x) (sym (h.after i)) (all_keep Such s.next_piece (act_changes rules.sector_size number (work_of rules h.owner.request h.piece.places) i) (t i) (changes h.piece h.owner h.out) all)
  move_gives s (Device (Fault number)) t t' h changes all =
      subst (λ (x : Held). GivesOnly Such x) (sym (h.after i)) (all_keep Such s.next_piece (fault_changes rules.sector_size (work_of rules h.owner.request h.piece.places) i) (t i) (changes h.piece h.owner h.out) all)
  move_gives s (Device (Return number (Bad completion))) t t' h changes all =
      subst (λ (x : Held). GivesOnly Such x) (sym (h.after i))
      (all_keep Such s.next_piece (return_changes rules.sector_size h.piece.fate (work_of rules h.owner.request h.piece.places) i) (t i) (changes h.piece h.owner h.out) all)
  move_gives s (Device (Return number Good)) t t' h changes all = same_gives t t' h all
  move_gives s (Device (Return number Busy)) t t' h changes all = same_gives t t' h all
  move_gives s (Device (Start number tag block)) t t' h changes all = same_gives t t' h all
  move_gives s (Call number q) t t' h changes all = same_gives t t' h all
  move_gives s (Answer number status informed bytes) t t' h changes all = same_gives t t' h all
  move_gives s (Cancel number) t t' h changes all = same_gives t t' h all
  move_gives s Pause t t' h changes all = same_gives t t' h all
  move_gives s Resume t t' h changes all = same_gives t t' h all
  move_gives s Remove t t' h changes all = same_gives t t' h all
  move_gives s Surprise t t' h changes all = same_gives t t' h all
  move_gives s Removed t t' h changes all = same_gives t t' h all

  pub gives_along : (s : State) (t : Table) (labels : List Label) (s' : State) (t' : Table) (run : TableRun rules s t labels s' t') → Throughout (Changes rules i (BringsSurely Such)) rules s t labels s' t' run → GivesOnly Such (t i) → GivesOnly Such (t' i)
  gives_along s t [] s' t' run changes all = same_gives t t' run.1 all
  gives_along s t (label ∷ labels) s' t' run changes all = gives_along run.0 run.1 labels s' t' run.4 changes.1 (move_gives s label t run.1 run.3 changes.0 all)

  -- each piece that may be at work brings such a value, surely
  abbrev pub SurelyAtWork : State → Type 0
  SurelyAtWork s = (piece : Piece) (owner : OpenRequest) → IsAtWork s piece owner → Each (BringsSurely Such) (fault_changes rules.sector_size (work_of rules owner.request piece.places) i)

  pub remains_such : (s : State) (t : Table) (after : List ℕ) → GivesOnly Such (t i) → SurelyAtWork s → MayRemain rules s t i after → Such after
  remains_such s t after all work (inl h) = all after h
  remains_such s t after all work (inr h) = all_keep Such s.next_piece (fault_changes rules.sector_size (work_of rules h.1.request h.0.places) i) (t i) (work h.0 h.1 h.2) all after h.3
