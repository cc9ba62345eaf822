-- What labels tell stays, while the pieces that acted stay on their tags.
use Rattle.std.proofs.Common.{◌≡◌, ◌<◌, ◌≤◌, inl, inr, ℕ, Bool, List, [], ◌∷◌, ◌++◌, length, map, take, drop, get_or, slice_set, All, Option, Some, None, MatchOption, refl, sym, ap, ◌∙◌, subst, arith, add-one, append_assoc, set-set, true, ◌+◌}
use Rattle.std.proofs.lemmas.List.{get_or-set_same, get_or-set_other, set_past, set-get_or, map-append, drop_all, take_all, take_more}
use Rattle.std.proofs.Math.Seq.{drop-cons}
use Rattle.std.proofs.lemmas.List.Elements.{All-nil, All-cons, All-head, All-tail, All-weaker, All-append, All-drop}
use Rattle.std.proofs.lemmas.Bool.Decides.{eqb_tells}
use Rattle.std.proofs.lemmas.Bool.{cases_lt}
use Rattle.srb.specs.declared.Srb.{Srb}
use Rattle.srb.specs.declared.Class.{Class}
use Rattle.srb.specs.declared.Completion.{Completion}
use Rattle.srb.specs.Bare.{in_memory}
use Rattle.srb.specs.Fate.{class_of}
use Rattle.srb.specs.declared.DeviceLabel.{DeviceLabel}
use Rattle.srb.specs.declared.DeviceLabel.TheVariants.{Start, Act, Fault, Return}
use Rattle.miniport.specs.declared.on_tag.OnTag.{OnTag}
use Rattle.miniport.specs.declared.on_tag.Progress.{Progress}
use Rattle.miniport.specs.declared.on_tag.Progress.TheVariants.{Untouched, Moved}
use Rattle.miniport.specs.declared.recorded.Recorded.{Recorded}
use Rattle.miniport.specs.declared.recorded.Recorded.TheVariants.{Told, Acted, Unkept}
use Rattle.miniport.specs.inside.Recorded.{HasActed, IsKept, IsTellable, Tells, data_of, told, told_of}
use Rattle.miniport.specs.inside.Slots.{Table, TakesFirst, ComesBack, completion_of, new_piece, piece_at, with_new, with_returned, with_slot}

-- a piece that acted is there after too, with the same data
abbrev pub Keeps : Option OnTag → Option OnTag → Type 0
Keeps before after = HasActed before → HasActed after × (data_of after ≡ data_of before)

pub keeps_itself : (slot : Option OnTag) → Keeps slot slot
keeps_itself slot = λ acted. (acted, refl)

pub keeps_none : (slots : List (Option OnTag)) (tag : ℕ) (slot : Option OnTag) → piece_at slots tag ≡ None → Keeps (piece_at slots tag) slot
keeps_none slots tag slot none = subst (λ (s : Option OnTag). Keeps s slot) (sym none) (λ acted. absurd acted)

pub keeps_untouched : (slots : List (Option OnTag)) (tag : ℕ) (slot : Option OnTag) (on : OnTag) → piece_at slots tag ≡ Some on → on.progress ≡ Untouched → Keeps (piece_at slots tag) slot
keeps_untouched slots tag slot on there untouched = subst (λ (s : Option OnTag). Keeps s slot) (sym there) (λ acted. absurd (cc (acted, untouched)))

abbrev pub KeepsAll : List (Option OnTag) → List (Option OnTag) → Type 0
KeepsAll slots slots' = (tag : ℕ) → Keeps (piece_at slots tag) (piece_at slots' tag)

-- one slot is set
pub set_keeps : (slots : List (Option OnTag)) (tag : ℕ) (slot : Option OnTag) → Keeps (piece_at slots tag) slot → KeepsAll slots (slice_set slots tag slot)
set_keeps slots tag slot keeps other = elim (eqb_tells other tag) [
  | inl same ↦ elim (cases_lt tag (length slots)) [
    | inl below ↦
        let here : piece_at (slice_set slots tag slot) tag ≡ slot = get_or-set_same slots tag slot None below in
        subst (λ (n : ℕ). Keeps (piece_at slots n) (piece_at (slice_set slots tag slot) n)) (sym same.1) (subst (λ (s : Option OnTag). Keeps (piece_at slots tag) s) (sym here) keeps)
    | inr past ↦
        let unset : slice_set slots tag slot ≡ slots = set_past slots tag slot past in
        subst (λ (l : List (Option OnTag)). Keeps (piece_at slots other) (piece_at l other)) (sym unset) (keeps_itself (piece_at slots other))
  ]
  | inr differ ↦
      let there : piece_at (slice_set slots tag slot) other ≡ piece_at slots other = get_or-set_other slots tag other slot None differ.1 in
      subst (λ (s : Option OnTag). Keeps (piece_at slots other) s) (sym there) (keeps_itself (piece_at slots other))
]

record Still (slots slots' : List (Option OnTag)) (label : Recorded) : Type 0 where
  tellable : IsTellable slots' label
  same : told slots' label ≡ told slots label

still : (slots slots' : List (Option OnTag)) → KeepsAll slots slots' → (label : Recorded) → IsTellable slots label → Still slots slots' label
still slots slots' keeps (Told label) h = record { tellable = tt; same = refl }
still slots slots' keeps (Unkept piece bytes room) h = record { tellable = tt; same = refl }
still slots slots' keeps (Acted piece tag room) (acted, fits) =
    let k = keeps tag acted in
    record {
      tellable = (k.0, subst (λ (bytes : List ℕ). length bytes ≤ room) (sym k.1) fits);
      same = ap (λ (bytes : List ℕ). Act piece bytes) k.1;
    }

pub tellable_still : (slots slots' : List (Option OnTag)) → KeepsAll slots slots' → (labels : List Recorded) → All (IsTellable slots) labels → All (IsTellable slots') labels
tellable_still slots slots' keeps labels all = All-weaker (IsTellable slots) (IsTellable slots') (λ label h. (still slots slots' keeps label h).tellable) labels all

pub told_still : (slots slots' : List (Option OnTag)) → KeepsAll slots slots' → (labels : List Recorded) → All (IsTellable slots) labels → map (told slots') labels ≡ map (told slots) labels
told_still slots slots' keeps [] all = refl
told_still slots slots' keeps (label ∷ labels) all =
    let first : told slots' label ≡ told slots label = (still slots slots' keeps label (All-head (IsTellable slots) label labels all)).same in
    let rest : map (told slots') labels ≡ map (told slots) labels = told_still slots slots' keeps labels (All-tail (IsTellable slots) label labels all) in
    cc (first, rest)

told_once : (slots slots' : List (Option OnTag)) (label : Recorded) → told slots' (told_of slots label) ≡ told slots label
told_once slots slots' (Told label) = refl
told_once slots slots' (Acted piece tag room) = refl
told_once slots slots' (Unkept piece bytes room) = refl

once_told : (slots slots' : List (Option OnTag)) (label : Recorded) → IsTellable slots' (told_of slots label)
once_told slots slots' (Told label) = tt
once_told slots slots' (Acted piece tag room) = tt
once_told slots slots' (Unkept piece bytes room) = tt

-- all labels that need no tag tell the same whatever the slots are
pub told_again : (slots slots' : List (Option OnTag)) (labels : List Recorded) → map (told slots') (map (told_of slots) labels) ≡ map (told slots) labels
told_again slots slots' [] = refl
told_again slots slots' (label ∷ labels) =
    ap (λ (l : DeviceLabel). l ∷ map (told slots') (map (told_of slots) labels)) (told_once slots slots' label)
    ∙ ap (λ (l : List DeviceLabel). told slots label ∷ l) (told_again slots slots' labels)

pub all_told : (slots slots' : List (Option OnTag)) (labels : List Recorded) → All (IsTellable slots') (map (told_of slots) labels)
all_told slots slots' [] = All-nil (IsTellable slots')
all_told slots slots' (label ∷ labels) = All-cons (IsTellable slots') (told_of slots label) (map (told_of slots) labels) (once_told slots slots' label) (all_told slots slots' labels)

-- LABELS WITH THEIR BYTES, OR WITHOUT

kept_once : (slots : List (Option OnTag)) (keeps : Bool) (label : Recorded) → IsKept keeps label → IsKept keeps (told_of slots label)
kept_once slots keeps (Told label) h = h
kept_once slots keeps (Acted piece tag room) h = rw h refl
kept_once slots keeps (Unkept piece bytes room) h = h

pub all_kept : (slots : List (Option OnTag)) (keeps : Bool) (labels : List Recorded) → All (IsKept keeps) labels → All (IsKept keeps) (map (told_of slots) labels)
all_kept slots keeps [] all = All-nil (IsKept keeps)
all_kept slots keeps (label ∷ labels) all = All-cons (IsKept keeps) (told_of slots label) (map (told_of slots) labels)
    (kept_once slots keeps label (All-head (IsKept keeps) label labels all)) (all_kept slots keeps labels (All-tail (IsKept keeps) label labels all))

pub kept_so_far : (slots : List (Option OnTag)) (keeps : Bool) (labels labels' : List Recorded) → labels' ≡ map (told_of slots) labels → All (IsKept keeps) labels → All (IsKept keeps) labels'
kept_so_far slots keeps labels labels' e all = subst (λ (l : List Recorded). All (IsKept keeps) l) (sym e) (all_kept slots keeps labels all)

pub one_more_kept : (keeps : Bool) (labels labels' : List Recorded) (label : Recorded) → labels' ≡ labels ++ label ∷ [] → IsKept keeps label → All (IsKept keeps) labels → All (IsKept keeps) labels'
one_more_kept keeps labels labels' label e h all = subst (λ (l : List Recorded). All (IsKept keeps) l) (sym e)
    (All-append (IsKept keeps) labels (label ∷ []) all (All-cons (IsKept keeps) label [] h (All-nil (IsKept keeps))))

pub one_more_tellable : (slots : List (Option OnTag)) (labels labels' : List Recorded) (label : Recorded) → labels' ≡ labels ++ label ∷ [] → IsTellable slots label → All (IsTellable slots) labels → All (IsTellable slots) labels'
one_more_tellable slots labels labels' label e h all = subst (λ (l : List Recorded). All (IsTellable slots) l) (sym e)
    (All-append (IsTellable slots) labels (label ∷ []) all (All-cons (IsTellable slots) label [] h (All-nil (IsTellable slots))))

-- the label of an act, once its piece is back on its tag
pub act_tells : (keeps : Bool) (old two : Table) (tag : ℕ) (on : OnTag) (recorded : Recorded) (bytes : List ℕ) (label : DeviceLabel) → two ≡ with_slot tag (Some on) old → tag < length old.slots
    → on.progress ≡ Moved → on.srb.data ≡ bytes → keeps ≡ old.keeps_bytes
    → ((slots : List (Option OnTag)) → HasActed (piece_at slots tag) → data_of (piece_at slots tag) ≡ bytes → Tells slots keeps recorded label)
    → Tells two.slots two.keeps_bytes recorded label
act_tells keeps old two tag on recorded bytes label is below moved same kept tells =
    let there : piece_at two.slots tag ≡ Some on = ap (λ (t : Table). piece_at t.slots tag) is ∙ get_or-set_same old.slots tag (Some on) None below in
    let told_now : Tells two.slots keeps recorded label = tells two.slots (subst HasActed (sym there) moved) (ap data_of there ∙ same) in
    subst (λ (k : Bool). Tells two.slots k recorded label) (kept ∙ sym (ap (λ (t : Table). t.keeps_bytes) is)) told_now

pub first_kept : (keeps : Bool) (labels : List Recorded) (label : Recorded) (rest : List Recorded) → labels ≡ label ∷ rest → All (IsKept keeps) labels → IsKept keeps label
first_kept keeps labels label rest e all = All-head (IsKept keeps) label rest (subst (λ (l : List Recorded). All (IsKept keeps) l) e all)

-- ONE LABEL MORE

pub record Pushed (slots slots' : List (Option OnTag)) (labels : List Recorded) (label : Recorded) : Type 0 where
  pub tellable : All (IsTellable slots') (labels ++ label ∷ [])
  pub same : map (told slots') (labels ++ label ∷ []) ≡ map (told slots) labels ++ told slots' label ∷ []

pub pushed : (slots slots' : List (Option OnTag)) → KeepsAll slots slots' → (labels : List Recorded) → All (IsTellable slots) labels → (label : Recorded) → IsTellable slots' label
    → Pushed slots slots' labels label
pushed slots slots' keeps labels all label h = record {
  tellable = All-append (IsTellable slots') labels (label ∷ []) (tellable_still slots slots' keeps labels all) (All-cons (IsTellable slots') label [] h (All-nil (IsTellable slots')));
  same = map-append (told slots') labels (label ∷ [])
      ∙ ap (λ (l : List DeviceLabel). l ++ told slots' label ∷ []) (told_still slots slots' keeps labels all);
}

-- ALL LABELS GET THEIR BYTES, ONE AFTER THE OTHER

-- the first labels were told and stand behind the others
abbrev pub so_far : List (Option OnTag) → List Recorded → ℕ → List Recorded
so_far slots labels count = drop count labels ++ map (told_of slots) (take count labels)

pub tellable_so_far : (slots : List (Option OnTag)) (labels : List Recorded) (count : ℕ) → All (IsTellable slots) labels → All (IsTellable slots) (so_far slots labels count)
tellable_so_far slots labels count all = All-append (IsTellable slots) (drop count labels) (map (told_of slots) (take count labels))
    (All-drop (IsTellable slots) count labels all) (all_told slots slots (take count labels))

abbrev any_label : Recorded
any_label = Told (Fault 0)

pub one_more_told : (slots : List (Option OnTag)) (labels items new : List Recorded) (count : ℕ) → count < length labels → items ≡ so_far slots labels count
    → ((label : Recorded) (rest : List Recorded) → items ≡ label ∷ rest → new ≡ rest ++ told_of slots label ∷ []) → new ≡ so_far slots labels (count + 1)
one_more_told slots labels items new count below is step =
    let label : Recorded = get_or labels count any_label in
    let done : List Recorded = map (told_of slots) (take count labels) in
    let cut : drop count labels ≡ label ∷ drop (count + 1) labels = rw add-one (drop-cons labels count any_label below) in
    let shape : items ≡ label ∷ (drop (count + 1) labels ++ done) = is ∙ ap (λ (l : List Recorded). l ++ done) cut in
    let more : map (told_of slots) (take (count + 1) labels) ≡ done ++ told_of slots label ∷ [] =
    ap (λ (l : List Recorded). map (told_of slots) l) (take_more labels count any_label below) ∙ map-append (told_of slots) (take count labels) (label ∷ []) in
    step label (drop (count + 1) labels ++ done) shape ∙ append_assoc (drop (count + 1) labels) done (told_of slots label ∷ [])
    ∙ ap (λ (l : List Recorded). drop (count + 1) labels ++ l) (sym more)

pub all_so_far : (slots : List (Option OnTag)) (labels : List Recorded) (count : ℕ) → count ≡ length labels → so_far slots labels count ≡ map (told_of slots) labels
all_so_far slots labels count whole =
    ap (λ (l : List Recorded). l ++ map (told_of slots) (take count labels)) (drop_all count labels (omega (arith, whole)))
    ∙ ap (λ (l : List Recorded). map (told_of slots) l) (take_all count labels (omega (arith, whole)))

-- WHAT THE TABLE SHOWS

abbrev pub table_of : Bool → List (Option OnTag) → ℕ → ℕ → List Recorded → Table
table_of keeps slots accepted failures labels = record { slots = slots; accepted = accepted; failures = failures; labels = map (told slots) labels; keeps_bytes = keeps }

pub on_some : (Y X : Type 0) (r : Option OnTag) (on : OnTag) → r ≡ Some on → X → MatchOption r Y (λ _. X)
on_some Y X None on e x = absurd (cc (e))
on_some Y X (Some other) on e x = x

module _ (bytes_kept : Bool) (slots : List (Option OnTag)) (accepted failures : ℕ) (labels : List Recorded) (old : Table) (shown : table_of bytes_kept slots accepted failures labels ≡ old) where
  pub view_set : All (IsTellable slots) labels → (slots' : List (Option OnTag)) (tag : ℕ) (slot : Option OnTag) → slots' ≡ slice_set slots tag slot → Keeps (piece_at old.slots tag) slot
      → table_of bytes_kept slots' accepted failures labels ≡ with_slot tag slot old
  view_set all slots' tag slot e =
      subst (λ (t : Table). Keeps (piece_at t.slots tag) slot → table_of bytes_kept slots' accepted failures labels ≡ with_slot tag slot t) shown (λ keeps.
      ap (λ (s : List (Option OnTag)). table_of bytes_kept s accepted failures labels) e
      ∙ ap (λ (l : List DeviceLabel). record (table_of bytes_kept slots accepted failures labels) { slots = slice_set slots tag slot; labels = l })
      (told_still slots (slice_set slots tag slot) (set_keeps slots tag slot keeps) labels all))

  pub view_accepted : All (IsTellable slots) labels → (labels' : List Recorded) (tag piece : ℕ) (srb : Srb) → labels' ≡ labels ++ Told (Start piece tag srb.block) ∷ [] → piece_at old.slots tag ≡ None
      → table_of bytes_kept (slice_set slots tag (Some (new_piece failures piece srb))) (accepted + 1) failures labels' ≡ with_new tag piece srb old
  view_accepted all labels' tag piece srb e =
      let slots' : List (Option OnTag) = slice_set slots tag (Some (new_piece failures piece srb)) in
      subst (λ (t : Table). piece_at t.slots tag ≡ None → table_of bytes_kept slots' (accepted + 1) failures labels' ≡ with_new tag piece srb t) shown (λ none.
      let keeps : KeepsAll slots slots' = set_keeps slots tag (Some (new_piece failures piece srb)) (keeps_none slots tag (Some (new_piece failures piece srb)) none) in
      ap (λ (l : List Recorded). table_of bytes_kept slots' (accepted + 1) failures l) e
      ∙ ap (λ (l : List DeviceLabel). record (with_new tag piece srb (table_of bytes_kept slots accepted failures labels)) { labels = l })
      (pushed slots slots' keeps labels all (Told (Start piece tag srb.block)) tt).same)

  pub view_taken : (label : Recorded) (rest : List Recorded) (first : DeviceLabel) → labels ≡ label ∷ rest → first ≡ in_memory bytes_kept (told slots label)
      → TakesFirst old first (table_of bytes_kept slots accepted failures rest)
  view_taken label rest first e is = record {
    first = told slots label;
    rest = map (told slots) rest;
    is_first = ap (λ (t : Table). t.labels) (sym shown) ∙ ap (λ (l : List Recorded). map (told slots) l) e;
    shown = is ∙ ap (λ (t : Table). in_memory t.keeps_bytes (told slots label)) shown;
    after = ap (λ (t : Table). record t { labels = map (told slots) rest }) shown;
  }

  -- a piece leaves whose label was told
  view_told : (slots' : List (Option OnTag)) (labels' : List Recorded) → labels' ≡ map (told_of slots) labels → table_of bytes_kept slots' accepted failures labels' ≡ record old { slots = slots' }
  view_told slots' labels' e =
      ap (λ (l : List Recorded). table_of bytes_kept slots' accepted failures l) e
      ∙ ap (λ (l : List DeviceLabel). record (table_of bytes_kept slots accepted failures labels) { slots = slots'; labels = l }) (told_again slots slots' labels)
      ∙ ap (λ (t : Table). record t { slots = slots' }) shown

  pub nothing_finished : (slots' : List (Option OnTag)) (labels' : List Recorded) (tag : ℕ) (r : Option (Srb × Completion)) → r ≡ None → labels' ≡ map (told_of slots) labels
      → slots' ≡ slice_set slots tag None → piece_at slots tag ≡ None
      → MatchOption r ((piece_at old.slots tag ≡ None) × (table_of bytes_kept slots' accepted failures labels' ≡ old)) (λ (back : Srb × Completion). ComesBack old tag back.0 back.1 (table_of bytes_kept slots' accepted failures labels'))
  nothing_finished slots' labels' tag (Some back) e told_so after none = absurd (cc (e))
  nothing_finished slots' labels' tag None e told_so after none =
      let same : slots' ≡ slots = after ∙ subst (λ (s : Option OnTag). slice_set slots tag s ≡ slots) none (set-get_or slots tag None) in (
        subst (λ (t : Table). piece_at t.slots tag ≡ None) shown none,
        view_told slots' labels' told_so ∙ ap (λ (s : List (Option OnTag)). record old { slots = s }) (same ∙ ap (λ (t : Table). t.slots) shown),
      )

  pub finished : (slots' : List (Option OnTag)) (labels' labels'' : List Recorded) (tag : ℕ) (on : OnTag) (completion : Completion) (class : Class) → labels' ≡ map (told_of slots) labels
      → slots' ≡ slice_set slots tag None → piece_at slots tag ≡ Some on → labels'' ≡ labels' ++ Told (Return on.piece class) ∷ [] → class ≡ class_of completion → completion ≡ completion_of on
      → ComesBack old tag (record on.srb { sense = completion.sense }) completion (table_of bytes_kept slots' accepted failures labels'')
  finished slots' labels' labels'' tag on completion class told_so after there e is_class is =
      let label : DeviceLabel = Return on.piece (class_of (completion_of on)) in
      let last : Return on.piece class ≡ label = ap (λ (k : Class). Return on.piece k) (is_class ∙ ap class_of is) in
      let all : labels'' ≡ map (told_of slots) labels ++ Told label ∷ [] =
      e ∙ ap (λ (l : List Recorded). l ++ Told (Return on.piece class) ∷ []) told_so ∙ ap (λ (l : DeviceLabel). map (told_of slots) labels ++ Told l ∷ []) last in
      let tells : map (told slots') (map (told_of slots) labels ++ Told label ∷ []) ≡ map (told slots) labels ++ label ∷ [] =
      map-append (told slots') (map (told_of slots) labels) (Told label ∷ []) ∙ ap (λ (l : List DeviceLabel). l ++ label ∷ []) (told_again slots slots' labels) in
      record {
        on = on;
        was_there = subst (λ (t : Table). piece_at t.slots tag ≡ Some on) shown there;
        completion_is = is;
        comes_back = refl;
        after = ap (λ (l : List Recorded). table_of bytes_kept slots' accepted failures l) all
            ∙ ap (λ (l : List DeviceLabel). record (table_of bytes_kept slots accepted failures labels) { slots = slots'; labels = l }) tells
            ∙ ap (λ (s : List (Option OnTag)). record (with_returned tag on (table_of bytes_kept slots accepted failures labels)) { slots = s }) after
            ∙ ap (λ (t : Table). with_returned tag on t) shown;
      }

  pub marked : All (IsTellable slots) labels → (between slots' : List (Option OnTag)) (tag : ℕ) (progress : Progress) (found on : OnTag) → between ≡ slice_set slots tag None
      → slots' ≡ slice_set between tag (Some (record found { progress = progress; was_reset = true })) → Some found ≡ piece_at slots tag → piece_at old.slots tag ≡ Some on
      → ((x : OnTag) → piece_at old.slots tag ≡ Some x → x.progress ≡ Moved → progress ≡ Moved)
      → table_of bytes_kept slots' accepted failures labels ≡ with_slot tag (Some (record on { progress = progress; was_reset = true })) old
  marked all between slots' tag progress found on e f found_is there acted =
      let at : piece_at slots tag ≡ Some on = ap (λ (t : Table). piece_at t.slots tag) shown ∙ there in
      let same : found ≡ on = cc (found_is, at) in
      view_set all slots' tag (Some (record on { progress = progress; was_reset = true }))
      (f ∙ ap (λ (l : List (Option OnTag)). slice_set l tag (Some (record found { progress = progress; was_reset = true }))) e
      ∙ set-set slots tag None (Some (record found { progress = progress; was_reset = true }))
      ∙ ap (λ (o : OnTag). slice_set slots tag (Some (record o { progress = progress; was_reset = true }))) same)
      (subst (λ (s : Option OnTag). Keeps s (Some (record on { progress = progress; was_reset = true }))) (sym there) (λ moved. (acted on there moved, refl)))

pub all_told_more : (slots slots' : List (Option OnTag)) (labels labels' labels'' : List Recorded) (label : DeviceLabel) → labels' ≡ map (told_of slots) labels → labels'' ≡ labels' ++ Told label ∷ []
    → All (IsTellable slots') labels''
all_told_more slots slots' labels labels' labels'' label e f =
    subst (λ (l : List Recorded). All (IsTellable slots') l) (sym (f ∙ ap (λ (l : List Recorded). l ++ Told label ∷ []) e))
    (All-append (IsTellable slots') (map (told_of slots) labels) (Told label ∷ []) (all_told slots slots' labels) (All-cons (IsTellable slots') (Told label) [] tt (All-nil (IsTellable slots'))))
