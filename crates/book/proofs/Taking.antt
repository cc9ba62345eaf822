-- An entry that the stack can take.
use Rattle.book.proofs.Common.{◌≡◌, ◌≢◌, inl, inr, ℕ, Bool, true, false, List, [], ◌∷◌, length, Option, Some, None, refl, sym, ap, subst, ◌∙◌, Entry, Srb, AdapterView, IsOfSrb, IsArmed, Rules, Entered, Armed, JournalView, of_srb, HasNoNext, MayBook, TakesEntry, TakesNot, IsAsLarge, IsOfThis, IsOfTag, claimed_at, Claimed, IsOnTag, AreOnTags}
use Rattle.std.specs.Prelude.{slice_get, MatchBool}
use Rattle.std.specs.Bool.{Decides}
use Rattle.traced.specs.declared.sizes.StackSizes.{StackSizes}
use Rattle.traced.specs.Sizes.{sizes_of}

pub some_entered : {x y : Entered} → Some x ≡ Some y → x ≡ y
some_entered {x} {y} e = cc

-- what the entry was armed as, which is the piece on its tag
record IsArmedThere (journal : JournalView) (view : AdapterView) (number : ℕ) (entered : Entered) : Type 0 where
  armed : Armed
  on_tag : IsOnTag view entered.entry.tag armed
  piece_is : entered.entry.piece ≡ armed.piece
  of_srb : IsOfSrb journal.medium.sector_size (length journal.medium.sectors) armed.srb entered.entry

there_of : (journal : JournalView) (view : AdapterView) (claims : List (ℕ × Armed)) (number : ℕ) (entered : Entered) → slice_get journal.entered number ≡ Some entered
    → (of_this : IsOfThis journal claims number) → ((n : ℕ) (armed : Armed) → claims ≡ (n, armed) ∷ [] → IsOnTag view entered.entry.tag armed) → IsArmedThere journal view number entered
there_of journal view claims number entered there of_this on =
    let same : of_this.entered ≡ entered = some_entered (sym of_this.there ∙ there) in
    record {
      armed = of_this.armed;
      on_tag = on of_this.entered.arming of_this.armed of_this.claimed;
      piece_is = ap (λ (e : Entered). e.entry.piece) (sym same) ∙ of_this.is_piece;
      of_srb = subst (λ (e : Entered). IsOfSrb journal.medium.sector_size (length journal.medium.sectors) of_this.armed.srb e.entry) same of_this.of_srb;
    }

armed_there : (journal : JournalView) (view : AdapterView) (tags : Claimed) (claimed : Option (List (ℕ × Armed))) (number : ℕ) (entered : Entered) → slice_get journal.entered number ≡ Some entered → AreOnTags view tags
    → claimed_at tags entered.entry.tag ≡ claimed → IsOfTag journal claimed number → IsArmedThere journal view number entered
armed_there journal view tags (Some claims) number entered there on at of =
    there_of journal view claims number entered there of (λ n armed e. on entered.entry.tag n armed (at ∙ ap Some e))
armed_there journal view tags None number entered there on at of = absurd of

-- an entry that receipts show to be of what was armed on its tag can be taken
pub known_taken : (rules : Rules) (view : AdapterView) (journal : JournalView) (tags : Claimed) (number tag : ℕ) → AreOnTags view tags → IsAsLarge rules journal
    → (entered : Entered) × (slice_get journal.entered number ≡ Some entered) × (tag ≡ entered.entry.tag) → IsOfTag journal (claimed_at tags tag) number → MayBook rules view journal number
known_taken rules view journal tags number tag on large (entered, there, tag_is) of =
    let here = armed_there journal view tags (claimed_at tags entered.entry.tag) number entered there on refl (subst (λ (t : ℕ). IsOfTag journal (claimed_at tags t) number) tag_is of) in
    let stack's = of_srb journal.medium.sector_size (length journal.medium.sectors) here.armed.srb here.on_tag.srb entered.entry here.on_tag.same here.of_srb in
    record {
      entered = entered;
      there = there;
      takes = record {
        srb = here.on_tag.srb;
        is_armed = subst (λ (k : ℕ). IsArmed view entered.entry.tag k here.on_tag.srb) (sym here.piece_is) here.on_tag.is_armed;
        of_srb =
            subst (λ (n : ℕ). IsOfSrb n rules.disk_sectors here.on_tag.srb entered.entry) large.sector_size
            (subst (λ (n : ℕ). IsOfSrb journal.medium.sector_size n here.on_tag.srb entered.entry) large.sectors stack's);
      };
    }

-- whether the piece's SRB asks for what the entry did, decides whether it can be taken
pub asked_taken : (rules : Rules) (view : AdapterView) (entry : Entry) (piece : ℕ) (srb : Srb) (sizes : StackSizes) (asks : Bool) → IsArmed view entry.tag piece srb → piece ≡ entry.piece → sizes ≡ sizes_of rules
    → Decides asks (IsOfSrb sizes.sector_size sizes.sectors srb entry) → MatchBool asks (TakesEntry rules view entry) (TakesNot rules view entry)
asked_taken rules view entry piece srb sizes asks armed is sizes_is decides =
    by_asked asks (subst (λ (z : StackSizes). Decides asks (IsOfSrb z.sector_size z.sectors srb entry)) sizes_is decides)
  where
    by_asked : (b : Bool) → Decides b (IsOfSrb rules.sector_size rules.disk_sectors srb entry) → MatchBool b (TakesEntry rules view entry) (TakesNot rules view entry)
    by_asked true d = record { srb = srb; is_armed = subst (λ (k : ℕ). IsArmed view entry.tag k srb) is armed; of_srb = d.0 refl }
    by_asked false d = inr (piece, srb, armed, inr (λ of. absurd (cc (d.1 of))))

-- and whether the entry of a number can be taken, whether it may be booked
pub next_taken : (rules : Rules) (view : AdapterView) (journal now : JournalView) (number : ℕ) (takes : Bool) → now ≡ journal
    → (entered : Entered) × (slice_get now.entered number ≡ Some entered) × MatchBool takes (TakesEntry rules view entered.entry) (TakesNot rules view entered.entry)
    → MatchBool takes (MayBook rules view journal number) (HasNoNext rules view journal number)
next_taken rules view journal now number takes is found = subst (λ (j : JournalView). MatchBool takes (MayBook rules view j number) (HasNoNext rules view j number)) is (by_taken takes found)
  where
    by_taken : (b : Bool) → (entered : Entered) × (slice_get now.entered number ≡ Some entered) × MatchBool b (TakesEntry rules view entered.entry) (TakesNot rules view entered.entry)
        → MatchBool b (MayBook rules view now number) (HasNoNext rules view now number)
    by_taken true (entered, there, does) = record { entered = entered; there = there; takes = does }
    by_taken false (entered, there, not) = inr (entered, there, not)
