-- What changes keep of a sector is kept along a run.
use Rattle.std.proofs.Common.{◌≡◌, ◌≤◌, inl, inr, ℕ, List, [], ◌∷◌, sym, subst}
use Rattle.srb.specs.declared.Class.TheVariants.{Good, Busy, Bad}
use Rattle.srb.specs.declared.DeviceLabel.TheVariants.{Start, Act, Fault, Return}
use Rattle.machine.specs.declared.Label.{Label}
use Rattle.machine.specs.declared.Label.TheVariants.{Call, Device, Answer, Cancel, Pause, Resume, Remove, Surprise, Removed}
use Rattle.machine.specs.Rules.{Rules}
use Rattle.machine.specs.State.{State, opening}
use Rattle.machine.specs.Step.{Run}
use Rattle.machine_laws.specs.Reached.{IsReached}
use Rattle.loss.specs.Held.{Change, Held, act_changes, changed, changed_by, fault_changes, return_changes}
use Rattle.loss.specs.Moved.{IsReachedWith, IsSameTable, Moves, Table, TableRun, held_on, work_of}
use Rattle.loss.specs.Sessions.{MayBeLeft}
use Rattle.loss.specs.Laws.{AtWork, Brings, BringsSurely, Changes, Each, GivesOnly, Is, LeavesOnly, Throughout}
use Rattle.loss.proofs.Pieces.{step_rises}
use Rattle.loss.proofs.Sectors.{AllBefore, keeps_before, keeps_gives, keeps_leaves, later_before}

pub each_keeps : (So : Change → Type 0) (P : Held → Type 0) (next : ℕ) → ((c : Change) (h : Held) → So c → P h → P (changed next c h))
    → (changes : List Change) (h : Held) → Each So changes → P h → P (changed_by next changes h)
each_keeps So P next keeps [] h each p = p
each_keeps So P next keeps (c ∷ changes) h each p = each_keeps So P next keeps changes (changed next c h) each.1 (keeps c h each.0 p)

module _ (rules : Rules) (i : ℕ) (So : Change → Type 0) (P : ℕ → Held → Type 0) (keeps : (next : ℕ) (c : Change) (h : Held) → So c → P next h → P next (changed next c h)) (later : (next more : ℕ) (h : Held) → next ≤ more → P next h → P more h) where
  same_keeps : (n : ℕ) (t t' : Table) → IsSameTable t t' → P n (t i) → P n (t' i)
  same_keeps n t t' same p = subst (P n) (sym (same i)) p

  pub move_keeps : (s : State) (label : Label) (t t' : Table) → Moves rules s label t t' → Changes rules i So s label → P s.next_piece (t i) → P s.next_piece (t' i)
  move_keeps s (Device (Act number bytes)) t t' h changes p =
      subst (P s.next_piece) (sym (h.after i))
      (each_keeps So (P s.next_piece) s.next_piece (keeps s.next_piece) (act_changes rules.sector_size number (work_of rules h.owner.request h.piece.places) i) (t i) (changes h.piece h.owner h.out) p)
  move_keeps s (Device (Fault number)) t t' h changes p =
      subst (P s.next_piece) (sym (h.after i))
      (each_keeps So (P s.next_piece) s.next_piece (keeps s.next_piece) (fault_changes rules.sector_size (work_of rules h.owner.request h.piece.places) i) (t i) (changes h.piece h.owner h.out) p)
  move_keeps s (Device (Start number tag block)) t t' h changes p = same_keeps s.next_piece t t' h p
  move_keeps s (Device (Return number (Bad completion))) t t' h changes p =
      subst (P s.next_piece) (sym (h.after i))
      (each_keeps So (P s.next_piece) s.next_piece (keeps s.next_piece) (return_changes rules.sector_size h.piece.fate (work_of rules h.owner.request h.piece.places) i) (t i) (changes h.piece h.owner h.out) p)
  move_keeps s (Device (Return number Good)) t t' h changes p = same_keeps s.next_piece t t' h p
  move_keeps s (Device (Return number Busy)) t t' h changes p = same_keeps s.next_piece t t' h p
  move_keeps s (Call number q) t t' h changes p = same_keeps s.next_piece t t' h p
  move_keeps s (Answer number status informed bytes) t t' h changes p = same_keeps s.next_piece t t' h p
  move_keeps s (Cancel number) t t' h changes p = same_keeps s.next_piece t t' h p
  move_keeps s Pause t t' h changes p = same_keeps s.next_piece t t' h p
  move_keeps s Resume t t' h changes p = same_keeps s.next_piece t t' h p
  move_keeps s Remove t t' h changes p = same_keeps s.next_piece t t' h p
  move_keeps s Surprise t t' h changes p = same_keeps s.next_piece t t' h p
  move_keeps s Removed t t' h changes p = same_keeps s.next_piece t t' h p

  pub run_keeps : (s : State) (t : Table) (labels : List Label) (s' : State) (t' : Table) (run : TableRun rules s t labels s' t') → Throughout (Changes rules i So) rules s t labels s' t' run
      → P s.next_piece (t i) → P s'.next_piece (t' i)
  run_keeps s t [] s' t' run changes p = subst (λ (n : ℕ). P n (t' i)) run.0.next_piece (same_keeps s.next_piece t t' run.1 p)
  run_keeps s t (label ∷ labels) s' t' run changes p =
      run_keeps run.0 run.1 labels s' t' run.4 changes.1
      (later s.next_piece run.0.next_piece (run.1 i) (step_rises rules s label run.0 run.2).rises (move_keeps s label t run.1 run.3 changes.0 p))

-- READS AND LOSSES

module _ (rules : Rules) (i : ℕ) (Such : List ℕ → Type 0) where
  pub gives_along : (s : State) (t : Table) (labels : List Label) (s' : State) (t' : Table) (run : TableRun rules s t labels s' t') → Throughout (Changes rules i (BringsSurely Such)) rules s t labels s' t' run
      → GivesOnly Such (t i) → GivesOnly Such (t' i)
  gives_along = run_keeps rules i (BringsSurely Such) (λ next h. GivesOnly Such h) (λ next c h brings all. keeps_gives Such next c h brings all) (λ next more h low all. all)

  pub leaves_along : (s : State) (t : Table) (labels : List Label) (s' : State) (t' : Table) (run : TableRun rules s t labels s' t') → Throughout (Changes rules i (Brings Such)) rules s t labels s' t' run
      → LeavesOnly Such (t i) → LeavesOnly Such (t' i)
  leaves_along = run_keeps rules i (Brings Such) (λ next h. LeavesOnly Such h) (λ next c h brings all. keeps_leaves Such next c h brings all) (λ next more h low all. all)

  pub leaves_after : (s : State) (t : Table) (after : List ℕ) → LeavesOnly Such (t i) → AtWork rules i Such s → MayBeLeft rules s t i after → Such after
  leaves_after s t after all at_work (inl h) = all after h
  leaves_after s t after all at_work (inr h) =
      each_keeps (Brings Such) (LeavesOnly Such) s.next_piece (λ c h brings all. keeps_leaves Such s.next_piece c h brings all)
      (fault_changes rules.sector_size (work_of rules h.1.request h.0.places) i) (t i) (at_work h.0 h.1 h.2) all after h.3

-- WHAT IS OLDER

abbrev Anything : Change → Type 0
Anything c = Unit {0}

each_is : (changes : List Change) → Each Anything changes
each_is [] = tt
each_is (c ∷ changes) = (tt, each_is changes)

label_is : (rules : Rules) (i : ℕ) (s : State) (label : Label) → Changes rules i Anything s label
label_is rules i s (Device (Act number bytes)) = λ piece owner out. each_is (act_changes rules.sector_size number (work_of rules owner.request piece.places) i)
label_is rules i s (Device (Fault number)) = λ piece owner out. each_is (fault_changes rules.sector_size (work_of rules owner.request piece.places) i)
label_is rules i s (Device (Start number tag block)) = tt
label_is rules i s (Device (Return number (Bad completion))) = λ piece owner out. each_is (return_changes rules.sector_size piece.fate (work_of rules owner.request piece.places) i)
label_is rules i s (Device (Return number Good)) = tt
label_is rules i s (Device (Return number Busy)) = tt
label_is rules i s (Call number q) = tt
label_is rules i s (Answer number status informed bytes) = tt
label_is rules i s (Cancel number) = tt
label_is rules i s Pause = tt
label_is rules i s Resume = tt
label_is rules i s Remove = tt
label_is rules i s Surprise = tt
label_is rules i s Removed = tt

run_is : (rules : Rules) (i : ℕ) (s : State) (t : Table) (labels : List Label) (s' : State) (t' : Table) (run : TableRun rules s t labels s' t') → Throughout (Changes rules i Anything) rules s t labels s' t' run
run_is rules i s t [] s' t' run = tt
run_is rules i s t (label ∷ labels) s' t' run = (label_is rules i s label, run_is rules i run.0 run.1 labels s' t' run.4)

pub reached_before : (rules : Rules) (s : State) (t : Table) (i : ℕ) → IsReachedWith rules s t → AllBefore s.next_piece (t i).older
reached_before rules s t i h =
    run_keeps rules i Anything (λ next h. AllBefore next h.older) (λ next c h any before. keeps_before next c h before) (λ next more h low before. later_before next more h.older low before)
    (opening h.arrays) (held_on h.disk) h.labels s t h.run (run_is rules i (opening h.arrays) (held_on h.disk) h.labels s t h.run) tt

pub as_run : (rules : Rules) (s : State) (t : Table) (labels : List Label) (s' : State) (t' : Table) → TableRun rules s t labels s' t' → Run rules s labels s'
as_run rules s t [] s' t' run = run.0
as_run rules s t (label ∷ labels) s' t' run = (run.0, run.2, as_run rules run.0 run.1 labels s' t' run.4)

pub as_reached : (rules : Rules) (s : State) (t : Table) → IsReachedWith rules s t → IsReached rules s
as_reached rules s t h = record { arrays = h.arrays; labels = h.labels; whole = h.whole; run = as_run rules (opening h.arrays) (held_on h.disk) h.labels s t h.run }

pub certain_stays : (rules : Rules) (i : ℕ) (value : List ℕ) (s : State) (t : Table) (labels : List Label) (s' : State) (t' : Table) (run : TableRun rules s t labels s' t')
    → LeavesOnly (Is value) (t i) → Throughout (Changes rules i (Brings (Is value))) rules s t labels s' t' run → LeavesOnly (Is value) (t' i)
certain_stays rules i value s t labels s' t' run all brings = leaves_along rules i (Is value) s t labels s' t' run brings all

pub certain_is_left : (rules : Rules) (i : ℕ) (value : List ℕ) (s : State) (t : Table) (after : List ℕ)
    → LeavesOnly (Is value) (t i) → AtWork rules i (Is value) s → MayBeLeft rules s t i after → after ≡ value
certain_is_left rules i value s t after all at_work may = leaves_after rules i (Is value) s t after all at_work may
