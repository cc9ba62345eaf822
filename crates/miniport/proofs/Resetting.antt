-- A reset goes through the slots one after the other.
use Rattle.std.proofs.Common.{◌≡◌, ◌<◌, ◌≤◌, ℕ, ◌+◌, Bool, true, false, List, [], ◌∷◌, ◌++◌, length, map, take, drop, slice_set, sum_by, Option, Some, None, refl, sym, ap, ◌∙◌, arith, add-one, append_assoc, add_assoc, length-append, if◌then◌else◌}
use Rattle.std.proofs.lemmas.List.{set_at, get_or_at, take_more, map-append, length-map, append-nil, length-take-le}
use Rattle.std.proofs.Math.Seq.{drop-cons}
use Rattle.std.proofs.lemmas.List.Sums.{sum_by_more, sum_by-le}
use Rattle.std.proofs.lemmas.List.Concat.{length-flat_map, flat_map-append}
use Rattle.std.specs.List.{flat_map}
use Rattle.srb.specs.declared.DeviceLabel.{DeviceLabel}
use Rattle.miniport.specs.declared.on_tag.OnTag.{OnTag}
use Rattle.miniport.specs.declared.on_tag.Progress.{Progress}
use Rattle.miniport.specs.declared.on_tag.Progress.TheVariants.{Untouched, Moved, Failed}
use Rattle.miniport.specs.inside.Slots.{Table, piece_at, labels_by, slot_after_reset, failures_of_reset, labels_of_reset, with_reset_at, with_first_reset}

-- each slot records one label at most, and counts one failure at most
label_by : (piece : ℕ) (p : Progress) → length (labels_by piece p) ≤ 1
label_by piece Untouched = omega arith
label_by piece Moved = omega arith
label_by piece (Failed c) = omega arith

label_of : (slot : Option OnTag) → length (labels_of_reset slot) ≤ 1
label_of None = omega arith
label_of (Some on) = label_by on.piece on.progress

one_or_none : (b : Bool) → (if b then 0 else 1) ≤ 1
one_or_none true = omega arith
one_or_none false = omega arith

failure_of : (slot : Option OnTag) → failures_of_reset slot ≤ 1
failure_of None = omega arith
failure_of (Some on) = one_or_none on.was_reset

pub few_labels : (slots : List (Option OnTag)) → length (flat_map labels_of_reset slots) ≤ length slots
few_labels slots = rw (length-flat_map labels_of_reset slots)
    (omega (arith, sum_by-le (λ (slot : Option OnTag). length (labels_of_reset slot)) 1 slots (λ k d below. label_of _)))

pub few_failures : (slots : List (Option OnTag)) → sum_by failures_of_reset slots ≤ length slots
few_failures slots = omega (arith, sum_by-le failures_of_reset 1 slots (λ k d below. failure_of _))

pub labels_so_far : (t : Table) (n : ℕ) → n ≤ length t.slots → length (with_first_reset n t).labels ≤ length t.labels + n
labels_so_far t n within = omega (arith, length-append t.labels (flat_map labels_of_reset (take n t.slots)), few_labels (take n t.slots), length-take-le n t.slots within)

pub failures_so_far : (t : Table) (n : ℕ) → n ≤ length t.slots → (with_first_reset n t).failures ≤ t.failures + n
failures_so_far t n within = omega (arith, few_failures (take n t.slots), length-take-le n t.slots within)

-- one slot more
tail_at : (s : List (Option OnTag)) (n : ℕ) → n < length s → drop n s ≡ piece_at s n ∷ drop (n + 1) s
tail_at s n below = rw add-one (drop-cons s n None below)

long : (s : List (Option OnTag)) (n : ℕ) → n < length s → length (map slot_after_reset (take n s)) ≡ n
long s n below = length-map (take n s) slot_after_reset ∙ length-take-le n s (omega arith)

get_first : (s : List (Option OnTag)) (n : ℕ) → n < length s → piece_at (map slot_after_reset (take n s) ++ drop n s) n ≡ piece_at s n
get_first s n below = rw (tail_at s n below) (get_or_at (map slot_after_reset (take n s)) (piece_at s n) (drop (n + 1) s) None n (long s n below))

set_first : (s : List (Option OnTag)) (n : ℕ) → n < length s
    → slice_set (map slot_after_reset (take n s) ++ drop n s) n (slot_after_reset (piece_at s n)) ≡ map slot_after_reset (take (n + 1) s) ++ drop (n + 1) s
set_first s n below =
    let here = slot_after_reset (piece_at s n) in
    let done = map slot_after_reset (take n s) in
    let e : slice_set (done ++ drop n s) n here ≡ done ++ here ∷ drop (n + 1) s =
    rw (tail_at s n below) (set_at done (piece_at s n) (drop (n + 1) s) here n (long s n below)) in
    let k : map slot_after_reset (take (n + 1) s) ≡ done ++ here ∷ [] = rw (take_more s n None below) (map-append slot_after_reset (take n s) (piece_at s n ∷ [])) in
    e ∙ (sym (append_assoc done (here ∷ []) (drop (n + 1) s)) ∙ sym (ap (λ (l : List (Option OnTag)). l ++ drop (n + 1) s) k))

labels_more : (s : List (Option OnTag)) (n : ℕ) → n < length s
    → flat_map labels_of_reset (take (n + 1) s) ≡ flat_map labels_of_reset (take n s) ++ labels_of_reset (piece_at s n)
labels_more s n below = rw (take_more s n None below)
    (flat_map-append labels_of_reset (take n s) (piece_at s n ∷ [])
    ∙ ap (λ (l : List DeviceLabel). flat_map labels_of_reset (take n s) ++ l) (append-nil (labels_of_reset (piece_at s n))))

same_table : (a b : Table) → a.slots ≡ b.slots → a.accepted ≡ b.accepted → a.failures ≡ b.failures → a.labels ≡ b.labels → a.keeps_bytes ≡ b.keeps_bytes → a ≡ b
same_table a b s c f l k =
    ap (λ (x : List (Option OnTag)). record a { slots = x }) s
    ∙ ap (λ (x : ℕ). record a { slots = b.slots; accepted = x }) c
    ∙ ap (λ (x : ℕ). record a { slots = b.slots; accepted = b.accepted; failures = x }) f
    ∙ ap (λ (x : List DeviceLabel). record a { slots = b.slots; accepted = b.accepted; failures = b.failures; labels = x }) l
    ∙ ap (λ (x : Bool). record b { keeps_bytes = x }) k

pub one_more : (t : Table) (n : ℕ) → n < length t.slots → with_reset_at n (with_first_reset n t) ≡ with_first_reset (n + 1) t
one_more t n below = rw (get_first t.slots n below) (same_table _ _
    (set_first t.slots n below)
    refl
    (add_assoc t.failures _ _ ∙ ap (λ (k : ℕ). t.failures + k) (sym (sum_by_more failures_of_reset t.slots n None below)))
    (append_assoc t.labels _ _ ∙ ap (λ (l : List DeviceLabel). t.labels ++ l) (sym (labels_more t.slots n below)))
    refl)
