-- What C tells of a piece may be booked of it, or nothing may.
use Rattle.std.proofs.Common.{◌≡◌, ◌≢◌, ℕ, true, false, List, length, slice_set, Option, Some, None, Result, Ok, Err, IsFalse, MatchOption, is_some, inl, inr, refl, sym, ap, subst, ◌∙◌}
use Rattle.ntstatus.specs.declared.NtStatus.TheVariants.{InvalidParameter, NotFound}
use Rattle.io_manager.specs.Shown.{ManagerView}
use Rattle.srb.specs.declared.Srb.{Srb}
use Rattle.srb.specs.declared.Entry.{Entry}
use Rattle.srb.specs.declared.Completion.{Completion}
use Rattle.srb.specs.declared.Class.TheVariants.{Bad}
use Rattle.srb.specs.Fate.{class_of}
use Rattle.adapter.specs.View.{AdapterView}
use Rattle.adapter.specs.Booking.{IsArmed, IsBookable, IsOfSrb, Suits}
use Rattle.io_manager.specs.Right.{BooksPiece, FitsTogether}
use Rattle.saddlemug.specs.declared.asked.Asked.{Asked}
use Rattle.saddlemug.specs.declared.booking.DiskOf.{DiskOf}
use Rattle.saddlemug.specs.declared.booking.StackBooking.{StackBooking}
use Rattle.saddlemug.specs.declared.places.PieceBytes.{PieceBytes}
use Rattle.saddlemug.specs.Over.{BooksTold, HasNoneToBook, IsBookStatus, IsBookingOf, IsNotTold, IsSuited, IsTold, OverKept, OverView, completion_of, over, piece_of}
use Rattle.saddlemug.specs.Places.{place_of}
use Rattle.saddlemug.specs.Suiting.{SuitsAs, SuitsNone}

bookable : (view : AdapterView) (tag piece : ℕ) (srb : Srb) (what : Result Entry Completion) → IsFalse view.faithful → IsArmed view tag piece srb → piece ≢ 0
    → Suits view.sector_size (length view.sectors) srb what → IsBookable view tag piece what
bookable view tag piece srb what apart armed not_first suits = record {
  use' = armed.use';
  others = armed.others;
  apart = apart;
  is_on = armed.is_on;
  is_piece = armed.is_piece;
  is_fresh = armed.is_fresh;
  not_first = not_first;
  suits = subst (λ (s : Srb). Suits view.sector_size (length view.sectors) s what) (sym armed.is_srb) suits;
}

same_place : {x y : PieceBytes} → Some x ≡ Some y → x ≡ y
same_place {x} {y} e = cc

-- BOOKED

module _ (old new : OverView) (b : StackBooking) (apart : IsFalse old.stack.adapter.faithful) (given_up : new.places ≡ slice_set old.places b.tag None) where
  pub moved : (a : Asked) (entry : Entry) (own : PieceBytes) → b.failed ≡ false → IsSuited old b a → place_of old.places b.tag ≡ Some own
      → entry.piece ≡ piece_of b → entry.tag ≡ b.tag → entry.kind ≡ a.kind → entry.extent ≡ a.extent → entry.bytes ≡ own.bytes.items
      → BooksPiece old.stack b.tag (piece_of b) (Ok entry) new.stack → BooksTold old b new
  moved a entry own moves suited there is_piece is_tag kind extent bytes books =
      let same : own ≡ suited.own = same_place (sym there ∙ suited.told.there) in
      let stood : entry.bytes ≡ suited.own.bytes.items = bytes ∙ ap (λ (p : PieceBytes). p.bytes.items) same in
      record {
        srb = suited.srb;
        own = suited.own;
        told = suited.told;
        what = Ok entry;
        is_what = (moves, record { is_piece = is_piece; is_tag = is_tag; bytes = stood; many = suited.many });
        may = bookable old.stack.adapter b.tag (piece_of b) suited.srb (Ok entry) apart suited.told.armed suited.told.not_first (suited.suits entry kind extent stood);
        books = books;
        given_up = given_up;
      }

  pub failed : (srb : Srb) (own : PieceBytes) (completion : Completion) → b.failed ≡ true → IsTold old b.tag (piece_of b) srb own → completion ≡ completion_of b.completion
      → class_of completion ≡ Bad completion → BooksPiece old.stack b.tag (piece_of b) (Err completion) new.stack → BooksTold old b new
  failed srb own completion fails told is bad books = record {
    srb = srb;
    own = own;
    told = told;
    what = Err completion;
    is_what = (fails, is);
    may = bookable old.stack.adapter b.tag (piece_of b) srb (Err completion) apart told.armed told.not_first bad;
    books = books;
    given_up = given_up;
  }

-- SUITED

module _ (v : OverView) (b : StackBooking) (srb : Srb) (own : PieceBytes) (told : IsTold v b.tag (piece_of b) srb own) where
  pub none_fails : b.failed ≡ true → ¬ (class_of (completion_of b.completion) ≡ Bad (completion_of b.completion)) → HasNoneToBook v b
  none_fails fails good = record { srb = srb; own = own; told = told; none = by_what }
    where
      by_what : (what : Result Entry Completion) → IsBookingOf b own what → ¬ Suits v.stack.adapter.sector_size (length v.stack.adapter.sectors) srb what
      by_what (Ok entry) is suits = let clash : true ≡ false = sym fails ∙ is.0 in absurd (cc (clash))
      by_what (Err completion) is suits = good (subst (λ (x : Completion). class_of x ≡ Bad x) is.1 suits)

  module _ (disk : DiskOf) (kept : OverKept v.stack v.places disk) (fits : FitsTogether v.stack) where
    size : disk.sector_size ≡ v.stack.adapter.sector_size
    size = sym kept.sector_size ∙ fits.read.same_size

    many : disk.sectors ≡ length v.stack.adapter.sectors
    many = sym kept.sectors ∙ fits.read.same_sectors

    there : (entry : Entry) → IsOfSrb disk.sector_size disk.sectors srb entry → IsOfSrb v.stack.adapter.sector_size (length v.stack.adapter.sectors) srb entry
    there entry of = subst (λ (n : ℕ). IsOfSrb n (length v.stack.adapter.sectors) srb entry) size (subst (λ (n : ℕ). IsOfSrb disk.sector_size n srb entry) many of)

    back : (entry : Entry) → IsOfSrb v.stack.adapter.sector_size (length v.stack.adapter.sectors) srb entry → IsOfSrb disk.sector_size disk.sectors srb entry
    back entry of = subst (λ (n : ℕ). IsOfSrb n disk.sectors srb entry) (sym size) (subst (λ (n : ℕ). IsOfSrb v.stack.adapter.sector_size n srb entry) (sym many) of)

    pub suited : (a : Asked) → SuitsAs disk srb b.length own a → IsSuited v b a
    suited a suits = record {
      srb = srb;
      own = own;
      told = told;
      many = suits.many;
      suits = λ entry kind extent bytes. there entry (suits.suits entry kind extent bytes);
    }

    pub none_moved : b.failed ≡ false → SuitsNone disk srb b.length own → HasNoneToBook v b
    none_moved moves none = record { srb = srb; own = own; told = told; none = by_what }
      where
        by_what : (what : Result Entry Completion) → IsBookingOf b own what → ¬ Suits v.stack.adapter.sector_size (length v.stack.adapter.sectors) srb what
        by_what (Ok entry) is suits = none entry is.1.many is.1.bytes (back entry suits)
        by_what (Err completion) is suits = let clash : false ≡ true = sym moves ∙ is.0 in absurd (cc (clash))

-- AS THE FIELDS OF THE TYPE SHOW IT

pub none_of : {X : Type 0} (P : Type 0) (Q : X → Type 0) (r : Option X) → is_some r ≡ false → MatchOption r P Q → P
none_of P Q None e m = m
none_of P Q (Some x) e m = absurd (cc (e))

pub some_of : {X : Type 0} (P : Type 0) (Q : X → Type 0) (r : Option X) → is_some r ≡ true → MatchOption r P Q → (x : X) × Q x
some_of P Q None e m = absurd (cc (e))
some_of P Q (Some x) e m = (x, m)

module _ (stack : ManagerView) (places : List (Option PieceBytes)) (v : OverView) (is : over stack places ≡ v) (b : StackBooking) (piece : ℕ) (piece_is : piece ≡ piece_of b) where
  pub not_told : IsNotTold v b.tag piece → IsBookStatus v b NotFound
  not_told none = inl (refl, subst (λ (n : ℕ). IsNotTold v b.tag n) piece_is none)

  module _ (srb : Srb) (own : PieceBytes) (was_told : IsTold v b.tag piece srb own) where
    at_piece : IsTold v b.tag (piece_of b) srb own
    at_piece = subst (λ (n : ℕ). IsTold v b.tag n srb own) piece_is was_told

    pub good_failure : b.failed ≡ true → ¬ (class_of (completion_of b.completion) ≡ Bad (completion_of b.completion)) → IsBookStatus v b InvalidParameter
    good_failure fails good = inr (refl, none_fails v b srb own at_piece fails good)

    pub failed_at : (disk : DiskOf) (kept : OverKept stack places disk) (completion : Completion) (after : ManagerView) → b.failed ≡ true → completion ≡ completion_of b.completion
        → class_of completion ≡ Bad completion → BooksPiece stack b.tag piece (Err completion) after → BooksTold v b (over after (slice_set places b.tag None))
    failed_at disk kept completion after fails same bad books = subst (λ (u : OverView). BooksTold u b (over after (slice_set places b.tag None))) is
        (failed (over stack places) (over after (slice_set places b.tag None)) b kept.apart refl srb own completion fails
        (subst (λ (u : OverView). IsTold u b.tag (piece_of b) srb own) (sym is) at_piece) same bad (subst (λ (n : ℕ). BooksPiece stack b.tag n (Err completion) after) piece_is books))

    module _ (disk : DiskOf) (kept : OverKept stack places disk) (fits : FitsTogether stack) where
      kept_at : OverKept v.stack v.places disk
      kept_at = subst (λ (u : OverView). OverKept u.stack u.places disk) is kept

      fits_at : FitsTogether v.stack
      fits_at = subst (λ (u : OverView). FitsTogether u.stack) is fits

      pub suited_at : (a : Asked) → SuitsAs disk srb b.length own a → IsSuited v b a
      suited_at a suits = suited v b srb own at_piece disk kept_at fits_at a suits

      pub unsuited_at : b.failed ≡ false → SuitsNone disk srb b.length own → IsBookStatus v b InvalidParameter
      unsuited_at moves none = inr (refl, none_moved v b srb own at_piece disk kept_at fits_at moves none)

  pub moved_at : (disk : DiskOf) (kept : OverKept stack places disk) (a : Asked) (entry : Entry) (own : PieceBytes) (place : Option PieceBytes) (after : ManagerView) → b.failed ≡ false → IsSuited v b a
      → place_of places b.tag ≡ Some own → entry.piece ≡ piece → entry.tag ≡ b.tag → entry.kind ≡ a.kind → entry.extent ≡ a.extent → entry.bytes ≡ own.bytes.items → place ≡ None
      → BooksPiece stack b.tag piece (Ok entry) after → BooksTold v b (over after (slice_set places b.tag place))
  moved_at disk kept a entry own place after moves suits there is_piece is_tag kind extent bytes gone books = subst (λ (u : OverView). BooksTold u b (over after (slice_set places b.tag place))) is
      (moved (over stack places) (over after (slice_set places b.tag place)) b kept.apart (ap (λ (p : Option PieceBytes). slice_set places b.tag p) gone) a entry own moves
      (subst (λ (u : OverView). IsSuited u b a) (sym is) suits) there (is_piece ∙ piece_is) is_tag kind extent bytes (subst (λ (n : ℕ). BooksPiece stack b.tag n (Ok entry) after) piece_is books))
