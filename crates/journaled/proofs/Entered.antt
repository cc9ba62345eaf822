-- What a piece left in the journal.
use Rattle.journaled.proofs.Common.{◌≡◌, ℕ, List, [], ◌∷◌, ◌++◌, inl, inr, length, Some, None, Result, Ok, Err, sym, ap, subst, ◌∙◌, get_or-set_same, Srb, Entry, Completion, Bad, class_of, MediumView, Entered, Armed, AskTheSame, Enters, HasNone, armed_at, JournalView, MayArm, Arms, Acts, Does, of_arming, KeepsEntries, CameTo}

-- its entry, the last, by an SRB of the journal's own that asks for the same
pub record HasEntry (old : JournalView) (tag piece : ℕ) (srb : Srb) (number : ℕ) (new : JournalView) : Type 0 where
  pub own : Srb
  pub entry : Entry
  pub same : AskTheSame own srb
  pub arming : ℕ
  pub is_last : number ≡ length old.entered
  pub enters : Enters old.medium old.write_protected tag piece own entry new.medium
  pub entries : new.entered ≡ old.entered ++ of_arming arming entry ∷ []

-- nothing
pub record HasFailed (old : JournalView) (completion : Completion) (new : JournalView) : Type 0 where
  pub is_bad : class_of completion ≡ Bad completion
  pub keeps : KeepsEntries old new

abbrev pub Left : JournalView → ℕ → ℕ → Srb → Result ℕ Completion → JournalView → Type 0
Left old tag piece srb (Ok number) new = HasEntry old tag piece srb number new
Left old tag piece srb (Err completion) new = HasFailed old completion new

some_armed : {x y : Armed} → Some x ≡ Some y → x ≡ y
some_armed {x} {y} e = cc

module _ (old mid : JournalView) (tag piece : ℕ) (srb : Srb) (may : MayArm old tag srb) (arms : Arms old tag piece srb mid) where
  is_there : armed_at mid.slots tag ≡ Some arms.armed
  is_there = ap (λ (j : JournalView). armed_at j.slots tag) arms.after ∙ get_or-set_same old.slots tag (Some arms.armed) None may.free.0

  -- the tag is armed for the piece
  pub is_armed : HasNone mid.slots tag piece → ⊥
  is_armed none = none arms.armed is_there arms.is_piece

  medium_is : mid.medium ≡ old.medium
  medium_is = ap (λ (j : JournalView). j.medium) arms.after

  entries_are : mid.entered ≡ old.entered
  entries_are = ap (λ (j : JournalView). j.entered) arms.after

  protected_is : mid.write_protected ≡ old.write_protected
  protected_is = ap (λ (j : JournalView). j.write_protected) arms.after

  module _ (new : JournalView) where
    by_done : (done : Result ℕ Completion) (own : Armed) → arms.armed ≡ own → Does mid tag piece own done new → Left old tag piece srb done new
    by_done (Ok number) own same does = record {
      own = own.srb;
      entry = does.0;
      same = subst (λ (a : Armed). AskTheSame a.srb srb) same arms.same;
      arming = own.number;
      is_last = does.1 ∙ ap (λ (es : List Entered). length es) entries_are;
      enters =
          subst (λ (m : MediumView). Enters m old.write_protected tag piece own.srb does.0 new.medium) medium_is
          (subst (λ b. Enters mid.medium b tag piece own.srb does.0 new.medium) protected_is does.2);
      entries = does.3 ∙ ap (λ (es : List Entered). es ++ of_arming own.number does.0 ∷ []) entries_are;
    }
    by_done (Err completion) own same does = record {
      is_bad = does.0.is_bad;
      keeps = record {
        entries = does.1 ∙ entries_are;
        same_sectors = ap (λ (m : MediumView). m.sectors) does.0.after ∙ ap (λ (m : MediumView). m.sectors) medium_is;
        same_size = ap (λ (m : MediumView). m.sector_size) does.0.after ∙ ap (λ (m : MediumView). m.sector_size) medium_is;
      };
    }

    acted : (done : Result ℕ Completion) → Acts mid tag piece done new → Left old tag piece srb done new
    acted done acts = by_done done acts.armed (some_armed (sym is_there ∙ acts.was_there)) acts.does

pub keeps_same : (old new : JournalView) → new ≡ old → KeepsEntries old new
keeps_same old new same = record {
  entries = ap (λ (j : JournalView). j.entered) same;
  same_sectors = ap (λ (j : JournalView). j.medium.sectors) same;
  same_size = ap (λ (j : JournalView). j.medium.sector_size) same;
}

pub left : (old : JournalView) (tag piece : ℕ) (srb : Srb) (done : Result ℕ Completion) (new : JournalView) → CameTo old tag piece srb done new → Left old tag piece srb done new
left old tag piece srb done new (inl there) = acted old there.armed tag piece srb there.may there.arms new done there.acts
left old tag piece srb done new (inr fails) =
    subst (λ (d : Result ℕ Completion). Left old tag piece srb d new) (sym fails.fails) (record { is_bad = fails.is_bad; keeps = keeps_same old new fails.same })
