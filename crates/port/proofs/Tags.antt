-- Tags in use: each is of one piece, and there are no more than the adapter has.
use Rattle.std.proofs.Common.{◌≡◌, ◌≢◌, ◌<◌, ◌≤◌, ℕ, zero, suc, ◌+◌, true, List, [], ◌∷◌, refl, sym, subst, ap, ◌∙◌, arith, map, length, Option}
use Rattle.std.specs.Prelude.{All, Any, AllPairs, Contains, IsPermutation, eqb, remove, slice_set}
use Rattle.std.specs.List.{IsDistinct, range_with_len}
use Rattle.std.specs.Set.{is_member}
use Rattle.std.proofs.lemmas.Bool.Decides.{Decides-eqb}
use Rattle.std.proofs.lemmas.Cmp.{nat_eq_equiv}
use Rattle.std.proofs.lemmas.List.{length-map, get_or-map, get_or-set_other}
use Rattle.std.proofs.lemmas.List.Elements.{All-cons, All-head, All-tail, All-contains, All-map}
use Rattle.std.proofs.lemmas.List.Sorted.{IsPermutation-remove, length_permutation}
use Rattle.std.proofs.lemmas.List.Kept.{AllPairs-cons}
use Rattle.std.proofs.lemmas.List.FromFn.{length-range_with_len, get_or-range_with_len}
use Rattle.std.proofs.lemmas.Map.Made.{length-le_from_is_member, is_member-Decides, IsDistinct-from_AllPairs}
use Rattle.adapter.specs.View.{AdapterView, TagInUse, IsInOrder, IsFree, HasTag, HasNotTag, HaveOtherTags, IsOn}
use Rattle.adapter.specs.Calls.{tag_of}
use Rattle.machine.proofs.Same.{Any-permutation}
use Rattle.machine.proofs.Permuting.{distinct_first}
use Rattle.port.specs.declared.queues.PortPacket.{PortPacket}
use Rattle.port.specs.inside.TableView.{PacketEntry}
use Rattle.port.specs.Shown.{entry_on}

map_apart : (tags : List TagInUse) → AllPairs HaveOtherTags tags → AllPairs (λ x y. x ≢ y) (map tag_of tags)
map_apart [] h i j d before low = absurd (omega arith)
map_apart (t ∷ ts) h i j d before low =
    let n : length (map tag_of (t ∷ ts)) ≡ length (t ∷ ts) = length-map (t ∷ ts) tag_of in
    let low_j : j < length (t ∷ ts) = omega arith in
    let low_i : i < length (t ∷ ts) = omega arith in
    rw (get_or-map tag_of (t ∷ ts) i t d low_i, get_or-map tag_of (t ∷ ts) j t d low_j) (h i j t before low_j)

pub tags_distinct : (tags : List TagInUse) → AllPairs HaveOtherTags tags → IsDistinct eqb (map tag_of tags)
tags_distinct tags h = IsDistinct-from_AllPairs Decides-eqb _ (map_apart tags h)

-- the others have other tags
pub others_apart : (view : AdapterView) (tag : ℕ) (use' : TagInUse) (others : List TagInUse) → IsInOrder view → IsOn view tag use' others → All (HasNotTag tag) others
others_apart view tag use' others order on =
    subst (λ t. All (HasNotTag t) others) on.has_tag (distinct_first tag_of view.tags use' others (tags_distinct view.tags order.tags_differ) on.in_use)

-- what stands at another tag stays
pub others_same : {Y : Type 0} (F : PacketEntry → TagInUse → Y) (started : List (Option PortPacket)) (tag : ℕ) (x : Option PortPacket) (others : List TagInUse) → All (HasNotTag tag) others
    → map (λ u. F (entry_on (slice_set started tag x) u.tag) u) others ≡ map (λ u. F (entry_on started u.tag) u) others
others_same F started tag x [] h = refl
others_same F started tag x (u ∷ us) h =
    let ne : u.tag ≢ tag = All-head (HasNotTag tag) u us h in
    rw (get_or-set_other started tag u.tag x _ ne, others_same F started tag x us (All-tail (HasNotTag tag) u us h)) refl

-- as many distinct numbers below a bound as the bound at most
below_fit : (n : ℕ) (xs : List ℕ) → IsDistinct eqb xs → All (λ x. x < n) xs → length xs ≤ n
below_fit n xs apart below =
    let e : length (range_with_len 0 n) ≡ n = length-range_with_len 0 n in
    let le : length xs ≤ length (range_with_len 0 n) = length-le_from_is_member nat_eq_equiv xs (range_with_len 0 n) apart inside in
    omega arith
  where
    there : (q : ℕ) → Contains xs q → Contains (range_with_len 0 n) q
    there q c =
        let low : q < n = All-contains (λ x. x < n) xs q below c in
        let l : length (range_with_len 0 n) ≡ n = length-range_with_len 0 n in
        let zero_plus : 0 + q ≡ q = omega arith in
        (q, omega arith, get_or-range_with_len 0 n q q low ∙ zero_plus)

    inside : (q : ℕ) → is_member eqb xs q ≡ true → is_member eqb (range_with_len 0 n) q ≡ true
    inside q h = (is_member-Decides Decides-eqb (range_with_len 0 n) q).1 (there q ((is_member-Decides Decides-eqb xs q).0 h))

-- no more are in use than there are
pub tags_fit : (view : AdapterView) → IsInOrder view → length view.tags ≤ view.depth
tags_fit view order =
    let n : length (map tag_of view.tags) ≡ length view.tags = length-map view.tags tag_of in
    let few : length (map tag_of view.tags) ≤ view.depth = below_fit view.depth (map tag_of view.tags) (tags_distinct view.tags order.tags_differ) (All-map (λ x. x < view.depth) tag_of view.tags order.tags_below) in
    omega arith

-- a free tag leaves one more than those in use
pub free_leaves : (view : AdapterView) (tag : ℕ) → IsInOrder view → IsFree view tag → tag < view.depth → length view.tags < view.depth
free_leaves view tag order free low =
    let n : length (map tag_of view.tags) ≡ length view.tags = length-map view.tags tag_of in
    let few : length (tag ∷ map tag_of view.tags) ≤ view.depth = below_fit view.depth (tag ∷ map tag_of view.tags)
    (IsDistinct-from_AllPairs Decides-eqb _ (AllPairs-cons (λ x y. x ≢ y) tag (map tag_of view.tags) (All-map (λ x. tag ≢ x) tag_of view.tags (λ k d l e. free k d l (sym e))) (map_apart view.tags order.tags_differ)))
    (All-cons (λ x. x < view.depth) tag _ low (All-map (λ x. x < view.depth) tag_of view.tags order.tags_below)) in
    omega arith

-- with each tag below a bound in use, at least as many are in use
pub all_in_use : (n : ℕ) (tags : List TagInUse) → ((tag : ℕ) → tag < n → Any (HasTag tag) tags) → n ≤ length tags
all_in_use zero tags h = omega arith
all_in_use (suc n) tags h =
    let last : Any (HasTag n) tags = h n (omega arith) in
    let out : IsPermutation tags (last.1 ∷ remove tags last.0) = IsPermutation-remove tags last.0 last.1 last.2 (sym last.3) in
    let fewer : n ≤ length (remove tags last.0) = all_in_use n (remove tags last.0) (λ tag low. still tag last.1 (remove tags last.0) (λ e. absurd (omega (arith, last.4))) (Any-permutation (HasTag tag) _ _ out (h tag (omega arith)))) in
    let l = length_permutation _ _ out in
    omega arith
  where
    still : (tag : ℕ) (u : TagInUse) (us : List TagInUse) → u.tag ≢ tag → Any (HasTag tag) (u ∷ us) → Any (HasTag tag) us
    still tag u us ne (zero, x, low, is, has) = absurd (ne (ap tag_of is ∙ has))
    still tag u us ne (suc k, x, low, is, has) = (k, x, omega arith, is, has)
