-- Two armings of one number are one.
use Rattle.std.proofs.Common.{◌≡◌, ◌≢◌, ℕ, zero, suc, List, [], ◌∷◌, length, All, Some, slice_get, sym, ap, subst, ◌∙◌}
use Rattle.book.proofs.Common.{All-head, All-tail, AllStand, Entered, Armed, JournalView, AreOfArmings, IsOfArming, IsReceipt, IsOfOther, IsOfThis}

all_get : {A : Type 0} (P : A → Type 0) (xs : List A) (k : ℕ) (x : A) → All P xs → slice_get xs k ≡ Some x → P x
all_get P [] k x all there = absurd (cc (there))
all_get {A} P (y ∷ xs) zero x all there = let same : y ≡ x = cc in subst P same (All-head P y xs all)
all_get P (y ∷ xs) (suc k) x all there = all_get P xs k x (All-tail P y xs all) there

some_armed : {x y : Armed} → Some x ≡ Some y → x ≡ y
some_armed {x} {y} e = cc

pub of_this : (journal : JournalView) (claims shown : List (ℕ × Armed)) (number own piece : ℕ) (entered : Entered) → claims ≡ shown → slice_get journal.entered number ≡ Some entered → entered.arming ≡ own → IsReceipt own piece claims
    → AreOfArmings journal.medium journal.armings journal.entered → AllStand journal.armings claims → IsOfThis journal shown number
of_this journal claims shown number own piece entered same there is numbered all stand =
    let of : IsOfArming journal.medium.sector_size (length journal.medium.sectors) journal.armings entered =
    all_get (IsOfArming journal.medium.sector_size (length journal.medium.sectors) journal.armings) journal.entered number entered all there in
    let mine : AllStand journal.armings ((own, numbered.armed) ∷ []) = subst (λ (c : List (ℕ × Armed)). AllStand journal.armings c) numbered.is stand in
    let noted : slice_get journal.armings own ≡ Some of.armed = subst (λ (n : ℕ). slice_get journal.armings n ≡ Some of.armed) is of.noted in
    let one : of.armed ≡ numbered.armed = some_armed (sym noted ∙ mine.0) in
    record {
      entered = entered;
      there = there;
      armed = of.armed;
      claimed = sym same ∙ numbered.is ∙ ap (λ (a : Armed). (own, a) ∷ []) (sym one) ∙ ap (λ (n : ℕ). (n, of.armed) ∷ []) (sym is);
      is_piece = of.is_piece;
      is_tag = of.is_tag;
      of_srb = of.of_srb;
    }

abbrev armed_in : List (ℕ × Armed) → Armed → Armed
armed_in [] otherwise = otherwise
armed_in (claim ∷ claims) otherwise = claim.1

pub other_piece : (claims shown : List (ℕ × Armed)) (own piece other : ℕ) → claims ≡ shown → IsReceipt own piece claims → piece ≢ other → IsOfOther other shown
other_piece claims shown own piece other same receipt apart number armed is e =
    let one : receipt.armed ≡ armed = ap (λ (c : List (ℕ × Armed)). armed_in c armed) (sym receipt.is ∙ same ∙ is) in
    apart (sym receipt.is_piece ∙ ap (λ (a : Armed). a.piece) one ∙ e)
