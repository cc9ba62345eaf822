-- A reset is shown as the faults of the pieces that had done nothing, and the mark on all.
use Rattle.std.proofs.Common.{◌≡◌, ◌≤◌, ℕ, suc, ◌+◌, Bool, true, false, not, List, [], ◌∷◌, ◌++◌, length, map, filter, get_or, sum_by, All, Option, Some, None, IsPermutation, refl, sym, ap, ◌∙◌, subst, arith, append_assoc, cond, if◌then◌else◌}
use Rattle.std.specs.Prelude.{count_by}
use Rattle.std.specs.List.{flat_map}
use Rattle.std.proofs.lemmas.List.{append-nil, map-append, length-map}
use Rattle.std.proofs.lemmas.List.Sums.{sum_by-cons}
use Rattle.std.proofs.lemmas.List.Elements.{All-head, All-tail, All-nil, All-cons}
use Rattle.std.proofs.lemmas.List.Sorted.{IsPermutation-refl, IsPermutation-sym, IsPermutation-trans, IsPermutation-map, IsPermutation-middle, IsPermutation-filter_both}
use Rattle.srb.specs.declared.Srb.{Srb}
use Rattle.srb.specs.declared.Completion.{Completion}
use Rattle.srb.specs.declared.DeviceLabel.{DeviceLabel}
use Rattle.srb.specs.declared.DeviceLabel.TheVariants.{Fault}
use Rattle.srb.specs.Fate.{Fate, Fresh, Acted, Faulted, is_fresh}
use Rattle.adapter.specs.View.{TagInUse, AdapterView, faulted, met_by_reset, MovesByAll, NotesReset, FaultsOn}
use Rattle.disk.specs.Medium.{MediumView}
use Rattle.miniport.specs.declared.on_tag.OnTag.{OnTag}
use Rattle.miniport.specs.declared.on_tag.Progress.{Progress}
use Rattle.miniport.specs.declared.on_tag.Progress.TheVariants.{Untouched, Moved, Failed}
use Rattle.adapter.specs.Calls.{Resets, after_reset, srb_after_reset, fate_after_reset, is_fresh_use, fault_of}
use Rattle.miniport.specs.inside.Slots.{Table, piece_at, in_use_of, fate_of, tags_of, labels_by, slot_completion, slot_after_reset, progress_after_reset, failures_of_reset, labels_of_reset, with_reset}
use Rattle.miniport.specs.Memory.{shown_of, view_of, is_unmet, due_after_reset, ResetsAll}
use Rattle.miniport.specs.Faults.{bus_reset}
use Rattle.adapter.proofs.Joining.{moves_none, unspoiled}
use Rattle.miniport.proofs.TagsInUse.{fresh_rise}

-- THE FAULTS ARE MOVES

abbrev pub IsFreshUse : TagInUse → Type 0
IsFreshUse use' = use'.fate ≡ Fresh

-- the piece never acts, and its SRB stays as it is
abbrev never_acts : TagInUse → TagInUse
never_acts u = faulted u.srb u

-- nor does that of a piece that a reset met
abbrev plain_reset : TagInUse → TagInUse
plain_reset u = record u { fate = fate_after_reset u.fate; was_reset = true }

abbrev as_it_was : TagInUse → Srb
as_it_was u = u.srb

all_as_they_were : (us : List TagInUse) → map plain_reset us ≡ map (after_reset as_it_was) us
all_as_they_were [] = refl
all_as_they_were (u ∷ us) =
    let first : plain_reset u ≡ after_reset as_it_was u = ap (λ (srb : Srb). record (plain_reset u) { srb = srb }) (same u.fate) in
    let rest : map plain_reset us ≡ map (after_reset as_it_was) us = all_as_they_were us in
    cc
  where
    same : (fate : Fate) → u.srb ≡ srb_after_reset fate u.srb u.srb
    same Fresh = refl
    same (Acted moved) = refl
    same Faulted = refl

-- faults, and then the note of a reset
abbrev pub FaultsThenNotes : AdapterView → List DeviceLabel → AdapterView → Type 0
FaultsThenNotes old labels new = (mid : AdapterView) × MovesByAll old labels mid × NotesReset mid new

-- the fresh ones fault, one after the other, and then all are marked
pub faults_move : (fresh others : List TagInUse) (old new : AdapterView) (tags : List TagInUse) (failures : ℕ) (labels : List DeviceLabel)
    → All IsFreshUse fresh → IsPermutation old.tags (fresh ++ others) → IsPermutation tags (map met_by_reset (map never_acts fresh ++ others))
    → old.failures + length fresh ≤ failures → labels ≡ old.labels ++ map fault_of fresh
    → new ≡ record old { tags = tags; failures = failures; labels = labels } → FaultsThenNotes old (map fault_of fresh) new
faults_move [] others old new tags failures labels all before after counted are e = (
  old,
  moves_none old,
  record {
    tags = tags;
    failures = failures;
    in_use = IsPermutation-trans _ _ _ after (IsPermutation-map met_by_reset _ _ (IsPermutation-sym _ _ before));
    counted = omega (arith, counted);
    after = e ∙ ap (λ (l : List DeviceLabel). record old { tags = tags; failures = failures; labels = l }) (are ∙ append-nil old.labels);
  },
)
faults_move (f ∷ fs) others old new tags failures labels all before after counted are e =
    let mid : AdapterView = record old { tags = never_acts f ∷ (fs ++ others); failures = old.failures + 1; labels = old.labels ++ Fault f.piece ∷ [] } in
    let fault : FaultsOn old f.tag f.piece mid = record {
      use' = f;
      others = fs ++ others;
      tags = mid.tags;
      failures = old.failures + 1;
      left = f.srb;
      is_on = record { in_use = before; has_tag = refl };
      is_piece = refl;
      is_fresh = All-head IsFreshUse f fs all;
      counted = omega arith;
      spoiled = unspoiled f.srb;
      in_use = IsPermutation-refl mid.tags;
      after = refl;
    } in
    let rest : FaultsThenNotes mid (map fault_of fs) new =
    faults_move fs (never_acts f ∷ others) mid new tags failures labels (All-tail IsFreshUse f fs all)
    (IsPermutation-sym _ _ (IsPermutation-middle fs (never_acts f) others))
    (IsPermutation-trans _ _ _ after (IsPermutation-map met_by_reset _ _ (IsPermutation-sym _ _ (IsPermutation-middle (map never_acts fs) (never_acts f) others))))
    (omega (arith, counted))
    (are ∙ sym (append_assoc old.labels (Fault f.piece ∷ []) (map fault_of fs)))
    e in
    (rest.0, (mid, (f.tag, fault), rest.1), rest.2)

-- THE TAGS

fate_met : (size : ℕ) (srb : Srb) (p : Progress) → fate_of size srb (progress_after_reset p) ≡ fate_after_reset (fate_of size srb p)
fate_met size srb Untouched = refl
fate_met size srb Moved = refl
fate_met size srb (Failed c) = refl

pub tags_met : (size k : ℕ) (slots : List (Option OnTag)) → tags_of size k (map slot_after_reset slots) ≡ map plain_reset (tags_of size k slots)
tags_met size k [] = refl
tags_met size k (None ∷ slots) = tags_met size (suc k) slots
tags_met size k (Some on ∷ slots) =
    let first : in_use_of size k (record on { progress = progress_after_reset on.progress; was_reset = true }) ≡ plain_reset (in_use_of size k on) =
    ap (λ (f : Fate). record (in_use_of size k on) { fate = f; was_reset = true }) (fate_met size on.srb on.progress) in
    let rest : tags_of size (suc k) (map slot_after_reset slots) ≡ map plain_reset (tags_of size (suc k) slots) = tags_met size (suc k) slots in
    cc

abbrev pub IsSettled : TagInUse → Type 0
IsSettled use' = fate_after_reset use'.fate ≡ use'.fate

all_faulted : (xs : List TagInUse) → All IsFreshUse xs → map plain_reset xs ≡ map met_by_reset (map never_acts xs)
all_faulted [] all = refl
all_faulted (x ∷ xs) all =
    let first : plain_reset x ≡ met_by_reset (never_acts x) = ap (λ (f : Fate). record x { fate = fate_after_reset f; was_reset = true }) (All-head IsFreshUse x xs all) in
    let rest : map plain_reset xs ≡ map met_by_reset (map never_acts xs) = all_faulted xs (All-tail IsFreshUse x xs all) in
    cc

all_marked : (xs : List TagInUse) → All IsSettled xs → map plain_reset xs ≡ map met_by_reset xs
all_marked [] all = refl
all_marked (x ∷ xs) all =
    let first : plain_reset x ≡ met_by_reset x = ap (λ (f : Fate). record x { fate = f; was_reset = true }) (All-head IsSettled x xs all) in
    let rest : map plain_reset xs ≡ map met_by_reset xs = all_marked xs (All-tail IsSettled x xs all) in
    cc

fresh_fate : (f : Fate) → is_fresh f ≡ true → f ≡ Fresh
fresh_fate Fresh e = refl
fresh_fate (Acted s) e = absurd cc
fresh_fate Faulted e = absurd cc

settled_fate : (f : Fate) → not (is_fresh f) ≡ true → fate_after_reset f ≡ f
settled_fate Fresh e = absurd cc
settled_fate (Acted s) e = refl
settled_fate Faulted e = refl

-- each that passes a filter has what its test tells
passes : (p : TagInUse → Bool) (P : TagInUse → Type 0) (x : TagInUse) (xs : List TagInUse) (b : Bool) → (b ≡ true → P x) → All P xs → All P (cond b (x ∷ xs) xs)
passes p P x xs true here rest = All-cons P x xs (here refl) rest
passes p P x xs false here rest = rest

passing : (p : TagInUse → Bool) (P : TagInUse → Type 0) → ((x : TagInUse) → p x ≡ true → P x) → (xs : List TagInUse) → All P (filter p xs)
passing p P tells [] = All-nil P
passing p P tells (x ∷ xs) = passes p P x (filter p xs) (p x) (tells x) (passing p P tells xs)

abbrev pub is_settled : TagInUse → Bool
is_settled use' = not (is_fresh_use use')

fresh_pass : (xs : List TagInUse) → All IsFreshUse (filter is_fresh_use xs)
fresh_pass xs = passing is_fresh_use IsFreshUse (λ x e. fresh_fate x.fate e) xs

settled_pass : (xs : List TagInUse) → All IsSettled (filter is_settled xs)
settled_pass xs = passing is_settled IsSettled (λ x e. settled_fate x.fate e) xs

-- all tags after the reset: the fresh ones faulted, the others as they were, and all marked
tags_after : (xs : List TagInUse) → IsPermutation (map plain_reset xs) (map met_by_reset (map never_acts (filter is_fresh_use xs) ++ filter is_settled xs))
tags_after xs =
    let fresh = filter is_fresh_use xs in
    let settled = filter is_settled xs in
    let moved : IsPermutation (map plain_reset xs) (map plain_reset (fresh ++ settled)) =
    IsPermutation-map plain_reset _ _ (IsPermutation-filter_both is_fresh_use is_settled (λ x. refl) xs) in
    let e : map plain_reset (fresh ++ settled) ≡ map met_by_reset (map never_acts fresh ++ settled) =
    map-append plain_reset fresh settled
    ∙ ap (λ (l : List TagInUse). l ++ map plain_reset settled) (all_faulted fresh (fresh_pass xs))
    ∙ ap (λ (l : List TagInUse). map met_by_reset (map never_acts fresh) ++ l) (all_marked settled (settled_pass xs))
    ∙ sym (map-append met_by_reset (map never_acts fresh) settled) in
    subst (λ (l : List TagInUse). IsPermutation (map plain_reset xs) l) e moved

-- THE LABELS AND THE COUNT

labels_first : (size k : ℕ) (on : OnTag) (rest : List TagInUse) (q : Progress)
    → labels_by on.piece q ++ map fault_of (filter is_fresh_use rest)
    ≡ map fault_of (cond (is_fresh (fate_of size on.srb q)) (in_use_of size k on ∷ filter is_fresh_use rest) (filter is_fresh_use rest))
labels_first size k on rest Untouched = refl
labels_first size k on rest Moved = refl
labels_first size k on rest (Failed c) = refl

labels_shown : (size k : ℕ) (slots : List (Option OnTag)) → flat_map labels_of_reset slots ≡ map fault_of (filter is_fresh_use (tags_of size k slots))
labels_shown size k [] = refl
labels_shown size k (None ∷ slots) = labels_shown size (suc k) slots
labels_shown size k (Some on ∷ slots) =
    ap (λ (l : List DeviceLabel). labels_by on.piece on.progress ++ l) (labels_shown size (suc k) slots)
    ∙ labels_first size k on (tags_of size (suc k) slots) on.progress

one_unmet : (b : Bool) → (if b then 0 else 1) ≤ cond (not b) 1 0
one_unmet true = omega arith
one_unmet false = omega arith

unmet_one : (b : Bool) → cond (not b) 1 0 ≤ (if b then 0 else 1)
unmet_one true = omega arith
unmet_one false = omega arith

counted_shown : (size k : ℕ) (slots : List (Option OnTag)) → sum_by failures_of_reset slots ≡ count_by is_unmet (tags_of size k slots)
counted_shown size k [] = refl
counted_shown size k (None ∷ slots) = omega (arith, sum_by-cons failures_of_reset None slots, counted_shown size (suc k) slots)
counted_shown size k (Some on ∷ slots) = omega (
  arith,
  sum_by-cons failures_of_reset (Some on) slots,
  counted_shown size (suc k) slots,
  sum_by-cons (λ (u : TagInUse). cond (is_unmet u) 1 0) (in_use_of size k on) (tags_of size (suc k) slots),
  one_unmet on.was_reset,
  unmet_one on.was_reset,
)

first_few : (size : ℕ) (on : OnTag) (u : TagInUse) (xs : List TagInUse) (q : Progress) (b : Bool) → (b ≡ true → q ≡ Untouched → ⊥)
    → length (cond (is_fresh (fate_of size on.srb q)) (u ∷ xs) xs) ≤ (if b then 0 else 1) + length xs
first_few size on u xs Untouched true unmet = absurd (unmet refl refl)
first_few size on u xs Untouched false unmet = omega arith
first_few size on u xs Moved b unmet = omega arith
first_few size on u xs (Failed c) b unmet = omega arith

fresh_few : (size k : ℕ) (slots : List (Option OnTag)) → ((tag : ℕ) (on : OnTag) → piece_at slots tag ≡ Some on → on.was_reset ≡ true → on.progress ≡ Untouched → ⊥)
    → length (filter is_fresh_use (tags_of size k slots)) ≤ sum_by failures_of_reset slots
fresh_few size k [] unmet = omega arith
fresh_few size k (None ∷ slots) unmet =
    omega (arith, sum_by-cons failures_of_reset None slots, fresh_few size (suc k) slots (λ tag on there. unmet (suc tag) on there))
fresh_few size k (Some on ∷ slots) unmet =
    omega (
      arith,
      sum_by-cons failures_of_reset (Some on) slots,
      fresh_few size (suc k) slots (λ tag p there. unmet (suc tag) p there),
      first_few size on (in_use_of size k on) (filter is_fresh_use (tags_of size (suc k) slots)) on.progress on.was_reset (unmet 0 on refl),
    )

due_met : (slots : List (Option OnTag)) → map slot_completion (map slot_after_reset slots) ≡ map due_after_reset (map slot_completion slots)
due_met [] = refl
due_met (None ∷ slots) = ap (λ (l : List (Option Completion)). None ∷ l) (due_met slots)
due_met (Some on ∷ slots) = ap (λ (l : List (Option Completion)). Some bus_reset ∷ l) (due_met slots)

-- THE WHOLE

pub resets : (m : MediumView) (longest : ℕ) (t : Table)
    → ((tag : ℕ) (on : OnTag) → piece_at t.slots tag ≡ Some on → on.was_reset ≡ true → on.progress ≡ Untouched → ⊥)
    → Resets (shown_of m longest t) (shown_of m longest (with_reset t))
resets m longest t unmet =
    let old = shown_of m longest t in
    let new = shown_of m longest (with_reset t) in
    let fresh = filter is_fresh_use old.tags in
    let failures = t.failures + sum_by failures_of_reset t.slots in
    let labels : new.labels ≡ t.labels ++ map fault_of fresh = ap (λ (l : List DeviceLabel). t.labels ++ l) (labels_shown m.sector_size 0 t.slots) in
    let same : new.tags ≡ map plain_reset old.tags = tags_met m.sector_size 0 t.slots in
    let marked : IsPermutation new.tags (map met_by_reset (map never_acts fresh ++ filter is_settled old.tags)) =
    subst (λ (l : List TagInUse). IsPermutation l (map met_by_reset (map never_acts fresh ++ filter is_settled old.tags))) (sym same) (tags_after old.tags) in
    let depth : new ≡ record old { tags = new.tags; failures = failures; labels = new.labels } =
    ap (λ (d : ℕ). record new { depth = d }) (length-map t.slots slot_after_reset) in
    let moved : FaultsThenNotes old (map fault_of fresh) new =
    faults_move fresh (filter is_settled old.tags) old new new.tags failures new.labels (fresh_pass old.tags)
    (IsPermutation-filter_both is_fresh_use is_settled (λ x. refl) old.tags) marked
    (omega (arith, fresh_few m.sector_size 0 t.slots unmet)) labels depth in
    record {
      fresh = fresh;
      tags = new.tags;
      failures = failures;
      left = as_it_was;
      are_fresh = IsPermutation-refl fresh;
      rising = fresh_rise m.sector_size t.slots;
      spoiled = λ k d low. unspoiled (get_or fresh k d).srb;
      in_use = subst (λ (l : List TagInUse). IsPermutation new.tags l) (same ∙ all_as_they_were old.tags) (IsPermutation-refl new.tags);
      after = depth ∙ ap (λ (l : List DeviceLabel). record old { tags = new.tags; failures = failures; labels = l }) labels;
      all_faulted = moved.0;
      moves = moved.1;
      noted = moved.2;
    }

pub resets_all : (m : MediumView) (longest : ℕ) (p : Bool) (t : Table) → ResetsAll (view_of m longest p t) (view_of m longest p (with_reset t))
resets_all m longest p t = record {
  counted = ap (λ (n : ℕ). t.failures + n) (counted_shown m.sector_size 0 t.slots);
  due = ap (λ (d : List (Option Completion)). record (view_of m longest p (with_reset t)) { due = d }) (due_met t.slots);
}
