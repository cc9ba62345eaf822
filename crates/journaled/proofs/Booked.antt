-- What came of a piece in the journal may be booked of it.
use Rattle.journaled.proofs.Common.{◌≡◌, ◌≢◌, ℕ, ◌+◌, Bool, true, false, List, [], ◌∷◌, ◌++◌, length, Some, None, Result, Ok, Err, IsFalse, refl, sym, ap, subst, ◌∙◌, arith, if◌then◌else◌, slice_get, map_push, Srb, Entry, Completion, MediumView, AdapterView, IsArmed, IsBookable, Suits, Books, with_booking, IsOfPiece, with_entry, Enters, Entered, JournalView, entries_in, entries_of, of_arming, entered_bookable, IsAsLarge, KeepsEntries, CameTo, IsNumbered, IsThat}
use Rattle.journaled.proofs.Entered.{HasEntry, HasFailed, Left, left}

-- THE ENTRY OF A NUMBER

some_entry : {x y : Entered} → Some x ≡ Some y → x ≡ y
some_entry {x} {y} e = cc

last_entry : (xs : List Entered) (x : Entered) → slice_get (xs ++ x ∷ []) (length xs) ≡ Some x
last_entry [] x = refl
last_entry (y ∷ xs) x = last_entry xs x

longer : (xs : List Entered) (x : Entered) → length (xs ++ x ∷ []) ≡ length xs + 1
longer [] x = refl
longer (y ∷ xs) x = let e : length (xs ++ x ∷ []) ≡ length xs + 1 = longer xs x in omega (arith, e)

own_entry : (before after : List Entered) (number : ℕ) (entry booked : Entered) → number ≡ length before → after ≡ before ++ entry ∷ [] → slice_get after number ≡ Some booked → booked ≡ entry
own_entry before after number entry booked n a there =
    let e : slice_get (before ++ entry ∷ []) number ≡ Some booked = subst (λ (xs : List Entered). slice_get xs number ≡ Some booked) a there in
    let f : slice_get (before ++ entry ∷ []) (length before) ≡ Some booked = subst (λ (k : ℕ). slice_get (before ++ entry ∷ []) k ≡ Some booked) n e in
    some_entry (sym f ∙ last_entry before entry)

-- what a piece left is an entry's number, or a failure
left_numbered : (old new : JournalView) (tag piece : ℕ) (srb : Srb) (done : Result ℕ Completion) → Left old tag piece srb done new → IsNumbered new.entered done
left_numbered old new tag piece srb (Ok number) has =
    let long : length new.entered ≡ length old.entered + 1 = ap (λ (es : List Entered). length es) has.entries ∙ longer old.entered (of_arming has.arming has.entry) in
    let last : number ≡ length old.entered = has.is_last in
    omega (arith, long, last)
left_numbered old new tag piece srb (Err completion) has = tt

pub numbered : (old new : JournalView) (tag piece : ℕ) (srb : Srb) (done : Result ℕ Completion) → CameTo old tag piece srb done new → IsNumbered new.entered done
numbered old new tag piece srb done came = left_numbered old new tag piece srb done (left old tag piece srb done new came)

-- AS MANY SECTORS

entered_large : (before after : JournalView) (tag piece : ℕ) (own : Srb) (entry : Entry) → Enters before.medium before.write_protected tag piece own entry after.medium → IsAsLarge before after
entered_large before after tag piece own entry e = record { sector_size = ap (λ (m : MediumView). m.sector_size) e.after; sectors = e.as_many }

pub kept_large : (before after : JournalView) → KeepsEntries before after → IsAsLarge before after
kept_large before after keeps = record { sector_size = keeps.same_size; sectors = ap (λ (xs : List (List ℕ)). length xs) keeps.same_sectors }

left_large : (before after : JournalView) (tag piece : ℕ) (srb : Srb) (done : Result ℕ Completion) → Left before tag piece srb done after → IsAsLarge before after
left_large before after tag piece srb (Ok number) has = entered_large before after tag piece has.own has.entry has.enters
left_large before after tag piece srb (Err completion) has = kept_large before after has.keeps

pub came_large : (before after : JournalView) (tag piece : ℕ) (srb : Srb) (done : Result ℕ Completion) → CameTo before tag piece srb done after → IsAsLarge before after
came_large before after tag piece srb done came = left_large before after tag piece srb done (left before tag piece srb done after came)

-- MAY BE BOOKED

-- what is booked is of the piece, may be, and is all that was entered
pub record IsOwn (view : AdapterView) (before after : JournalView) (tag piece : ℕ) (what : Result Entry Completion) : Type 0 where
  pub of_piece : IsOfPiece tag piece what
  pub entries : entries_of after ≡ with_entry (entries_of before) what
  pub large : IsAsLarge before after
  pub bookable : IsBookable view tag piece what

module _ (view : AdapterView) (before after : JournalView) (tag piece : ℕ) (srb : Srb) (apart : IsFalse view.faithful) (armed : IsArmed view tag piece srb)
    (size_is : before.medium.sector_size ≡ view.sector_size) (count_is : length before.medium.sectors ≡ length view.sectors)
    (can : (what : Result Entry Completion) → Suits view.sector_size (length view.sectors) srb what → IsBookable view tag piece what) where
  not_first : piece ≢ 0
  not_first = (can (Err (record { srb_status = 0x84; scsi_status = 0x02; sense = None })) refl).not_first

  entered : (number : ℕ) (entry : Entry) → HasEntry before tag piece srb number after → (own : Entered) → slice_get after.entered number ≡ Some own → entry ≡ own.entry → IsOwn view before after tag piece (Ok entry)
  entered number entry has booked there same =
      let own : entry ≡ has.entry = same ∙ ap (λ (e : Entered). e.entry) (own_entry before.entered after.entered number (of_arming has.arming has.entry) booked has.is_last has.entries there) in
      let it : IsOwn view before after tag piece (Ok has.entry) = record {
        of_piece = (has.enters.is_piece, has.enters.is_tag);
        entries = ap entries_in has.entries ∙ map_push (λ (e : Entered). e.entry) before.entered (of_arming has.arming has.entry);
        large = entered_large before after tag piece has.own has.entry has.enters;
        bookable = entered_bookable view before.medium after.medium before.write_protected tag piece has.own srb apart not_first armed has.entry size_is count_is has.same has.enters;
      } in
      subst (λ (x : Entry). IsOwn view before after tag piece (Ok x)) (sym own) it

  failed : (completion booked : Completion) → HasFailed before completion after → booked ≡ completion → IsOwn view before after tag piece (Err booked)
  failed completion booked has same =
      let it : IsOwn view before after tag piece (Err completion) = record {
        of_piece = tt;
        entries = ap entries_in has.keeps.entries;
        large = kept_large before after has.keeps;
        bookable = can (Err completion) has.is_bad;
      } in
      subst (λ (x : Completion). IsOwn view before after tag piece (Err x)) (sym same) it

  left_own : (done : Result ℕ Completion) (what : Result Entry Completion) → Left before tag piece srb done after → IsThat after.entered done what → IsOwn view before after tag piece what
  left_own (Ok number) (Ok entry) has that = entered number entry has that.0 that.1 that.2
  left_own (Err completion) (Err booked) has that = failed completion booked has that
  left_own (Ok number) (Err booked) has that = absurd that
  left_own (Err completion) (Ok entry) has that = absurd that

  pub own : (done : Result ℕ Completion) (what : Result Entry Completion) → CameTo before tag piece srb done after → IsThat after.entered done what → IsOwn view before after tag piece what
  own done what came that = left_own done what (left before tag piece srb done after came) that

-- BOOKING LEAVES THE SECTORS WHERE THEY ARE

pub booked_apart : (old new : AdapterView) (tag piece : ℕ) (what : Result Entry Completion) → Books old tag piece what new → IsFalse old.faithful → IsFalse new.faithful
booked_apart old new tag piece what books apart = subst (λ (v : AdapterView). IsFalse v.faithful) (sym books.after) (by_choice books.booked)
  where
    by_choice : (booked : Bool) → IsFalse (if booked then with_booking tag what old else old).faithful
    by_choice true = apart
    by_choice false = apart
