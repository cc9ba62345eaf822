-- What stays where something is booked of a piece.
use Rattle.std.proofs.Common.{◌≡◌, ◌≢◌, ◌<◌, ◌≤◌, inl, inr, ℕ, ◌==◌, Bool, true, false, List, [], ◌∷◌, length, map, get_or, Result, Ok, Err, IsTrue, IsPermutation, refl, sym, ap, subst, ◌∙◌, arith, if◌then◌else◌}
use Rattle.std.specs.Prelude.{All, AllPairs, Contains}
use Rattle.std.proofs.lemmas.List.{get_or_default}
use Rattle.std.proofs.lemmas.List.Elements.{All-weaker, All-contains_itself}
use Rattle.std.proofs.lemmas.List.Sorted.{IsPermutation-sym, Contains-permutation}
use Rattle.std.proofs.lemmas.Bool.Decides.{eqb_tells}
use Rattle.std.proofs.lemmas.Bool.{cases_lt}
use Rattle.cdb.specs.declared.Cdb.{Cdb}
use Rattle.cdb.specs.declared.Cdb.TheVariants.{Read10, Write10, Sync10, ReadCapacity10, Read16, Write16, Sync16, ReadCapacity16}
use Rattle.cdb.specs.Meaning.{AsksToWrite}
use Rattle.cdb.proofs.Once.{means_once}
use Rattle.srb.specs.declared.Srb.{Srb}
use Rattle.srb.specs.declared.Entry.{Entry}
use Rattle.srb.specs.declared.Completion.{Completion}
use Rattle.adapter.specs.View.{TagInUse, AdapterView, IsInOrder, IsOn, HaveOtherTags, IsSpoiled}
use Rattle.adapter.specs.Booking.{MayBeOf, IsOfSrb, Suits, IsBookable, Books, with_booked, booked_on, with_booking}

-- ONE PIECE ON A TAG

ordered : (tags : List TagInUse) → AllPairs HaveOtherTags tags → (i j : ℕ) (u w : TagInUse) → i < j → j < length tags → get_or tags i u ≡ u → get_or tags j w ≡ w → u.tag ≢ w.tag
ordered tags differ i j u w below last first second e =
    let other : get_or tags j u ≡ w = get_or_default tags j u w last ∙ second in
    differ i j u below last (ap (λ (x : TagInUse). x.tag) first ∙ e ∙ sym (ap (λ (x : TagInUse). x.tag) other))

pub on_tag_once : (tags : List TagInUse) → AllPairs HaveOtherTags tags → (u w : TagInUse) → Contains tags u → Contains tags w → u.tag ≡ w.tag → u ≡ w
on_tag_once tags differ u w (i, li, ei) (j, lj, ej) e =
    elim (eqb_tells i j) [
      | inl same ↦ sym ei ∙ get_or_default tags i u w li ∙ ap (λ (k : ℕ). get_or tags k w) same.1 ∙ ej
      | inr other ↦ elim (cases_lt i j) [
        | inl before ↦ absurd (ordered tags differ i j u w before lj ei ej e)
        | inr behind ↦ absurd (ordered tags differ j i w u (by_order i j behind other.1) li ej ei (sym e))
      ]
    ]
  where
    by_order : (i j : ℕ) → j ≤ i → i ≢ j → j < i
    by_order i j le differ = elim (cases_lt j i) [ inl lt ↦ lt | inr ge ↦ absurd (differ (omega (arith, le, ge))) ]

pub is_there : (v : AdapterView) (tag : ℕ) (u : TagInUse) (others : List TagInUse) → IsOn v tag u others → Contains v.tags u
is_there v tag u others on = Contains-permutation _ _ u (IsPermutation-sym _ _ on.in_use) (0, omega arith, refl)

-- what holds of the piece on the tag, of all pieces there
pub all_on_tag : (P : TagInUse → Type 0) (v : AdapterView) (tag : ℕ) (u : TagInUse) (others : List TagInUse) → AllPairs HaveOtherTags v.tags → IsOn v tag u others → P u
    → All (λ w. w.tag ≡ tag → P w) v.tags
all_on_tag P v tag u others differ on holds = All-weaker (Contains v.tags) (λ w. w.tag ≡ tag → P w)
    (λ w there e. subst P (on_tag_once v.tags differ u w (is_there v tag u others on) there (on.has_tag ∙ sym e)) holds) v.tags (All-contains_itself v.tags)

-- AS MANY BYTES AS THE SRB HAS

may_be_long : (size sectors : ℕ) (bytes : List ℕ) (entry : Entry) (command : Cdb) → MayBeOf size sectors bytes entry command → length entry.bytes ≡ length bytes
may_be_long size sectors bytes entry (Read10 lba count fua) h = h.as_many
may_be_long size sectors bytes entry (Write10 lba count fua) h = h.0.as_many
may_be_long size sectors bytes entry (Sync10 lba count) h = h.none_booked ∙ sym h.none
may_be_long size sectors bytes entry ReadCapacity10 h = absurd h
may_be_long size sectors bytes entry (Read16 lba count fua) h = h.as_many
may_be_long size sectors bytes entry (Write16 lba count fua) h = h.0.as_many
may_be_long size sectors bytes entry (Sync16 lba count) h = h.none_booked ∙ sym h.none
may_be_long size sectors bytes entry (ReadCapacity16 allocation) h = absurd h

pub suits_long : (size sectors : ℕ) (srb : Srb) (entry : Entry) → Suits size sectors srb (Ok entry) → length entry.bytes ≡ length srb.data
suits_long size sectors srb entry h = may_be_long size sectors srb.data entry h.command h.may

-- what is to be booked has as many bytes as this SRB
abbrev pub IsAsLong : Result Entry Completion → Srb → Type 0
IsAsLong (Ok entry) srb = length entry.bytes ≡ length srb.data
IsAsLong (Err completion) srb = Unit {0}

pub suits_as_long : (size sectors : ℕ) (srb : Srb) (what : Result Entry Completion) → Suits size sectors srb what → IsAsLong what srb
suits_as_long size sectors srb (Ok entry) h = suits_long size sectors srb entry h
suits_as_long size sectors srb (Err completion) h = tt

pub all_as_long : (v : AdapterView) (tag piece : ℕ) (what : Result Entry Completion) → IsInOrder v → IsBookable v tag piece what → All (λ w. w.tag ≡ tag → IsAsLong what w.srb) v.tags
all_as_long v tag piece what order h =
    all_on_tag (λ w. IsAsLong what w.srb) v tag h.use' h.others order.tags_differ h.is_on (suits_as_long v.sector_size (length v.sectors) h.use'.srb what h.suits)

-- A WRITE'S DATA STAY

write_stays : (size sectors lba count : ℕ) (fua : Bool) (srb : Srb) (entry : Entry) → IsOfSrb size sectors srb entry → AsksToWrite srb.block lba count fua → entry.bytes ≡ srb.data
write_stays size sectors lba count fua srb entry h (inl asks) =
    (subst (λ c. MayBeOf size sectors srb.data entry c) (means_once srb.block h.command (Write10 lba count fua) h.means asks) h.may).1
write_stays size sectors lba count fua srb entry h (inr asks) =
    (subst (λ c. MayBeOf size sectors srb.data entry c) (means_once srb.block h.command (Write16 lba count fua) h.means asks) h.may).1

-- the SRB of what was booked is as one that failed may be: as many data, and a write's are those that they were
pub suits_spoils : (size sectors : ℕ) (u : TagInUse) (what : Result Entry Completion) → Suits size sectors u.srb what → IsSpoiled u.srb (with_booked what u).srb
suits_spoils size sectors u (Ok entry) h = record {
  same = refl;
  as_many = suits_long size sectors u.srb entry h;
  of_write = λ lba count fua asks. write_stays size sectors lba count fua u.srb entry h asks;
}
suits_spoils size sectors u (Err completion) h = record { same = refl; as_many = refl; of_write = λ lba count fua asks. refl }

pub all_spoiled : (v : AdapterView) (tag piece : ℕ) (what : Result Entry Completion) → IsInOrder v → IsBookable v tag piece what
    → All (λ w. w.tag ≡ tag → IsSpoiled w.srb (with_booked what w).srb) v.tags
all_spoiled v tag piece what order h =
    all_on_tag (λ w. IsSpoiled w.srb (with_booked what w).srb) v tag h.use' h.others order.tags_differ h.is_on
    (suits_spoils v.sector_size (length v.sectors) h.use' what h.suits)

-- WHAT A BOOKING LEAVES

by_tag : {Y : Type 0} (f : TagInUse → Y) (tag : ℕ) (what : Result Entry Completion) (u : TagInUse) → f (with_booked what u) ≡ f u → (b : Bool) → (u.tag == tag) ≡ b → f (booked_on tag what u) ≡ f u
by_tag f tag what u same true is = rw is same
by_tag f tag what u same false is = rw is refl

pub booked_same : {Y : Type 0} (f : TagInUse → Y) (tag : ℕ) (what : Result Entry Completion) → ((u : TagInUse) → f (with_booked what u) ≡ f u) → (u : TagInUse) → f (booked_on tag what u) ≡ f u
booked_same f tag what same u = by_tag f tag what u (same u) (u.tag == tag) refl

-- what doesn't look at the bytes is of all tags what it was
map_same : {Y : Type 0} (f : TagInUse → Y) (tag : ℕ) (what : Result Entry Completion) → ((u : TagInUse) → f (with_booked what u) ≡ f u) → (tags : List TagInUse) → map f (map (booked_on tag what) tags) ≡ map f tags
map_same f tag what same [] = refl
map_same f tag what same (u ∷ tags) = rw (booked_same f tag what same u, map_same f tag what same tags) refl

by_booked : (P : AdapterView → Type 0) (v v' : AdapterView) (tag : ℕ) (what : Result Entry Completion) (b : Bool) → v' ≡ (if b then with_booking tag what v else v) → P v → P (with_booking tag what v) → P v'
by_booked P v v' tag what true after left booked = subst P (sym after) booked
by_booked P v v' tag what false after left booked = subst P (sym after) left

pub books_tags : {Y : Type 0} (f : TagInUse → Y) (v : AdapterView) (tag piece : ℕ) (what : Result Entry Completion) (v' : AdapterView) → Books v tag piece what v' → ((u : TagInUse) → f (with_booked what u) ≡ f u)
    → map f v'.tags ≡ map f v.tags
books_tags f v tag piece what v' h same = by_booked (λ x. map f x.tags ≡ map f v.tags) v v' tag what h.booked h.after refl (map_same f tag what same v.tags)

pub books_sectors : (v : AdapterView) (tag piece : ℕ) (what : Result Entry Completion) (v' : AdapterView) → Books v tag piece what v' → v'.sectors ≡ v.sectors
books_sectors v tag piece what v' h = by_booked (λ x. x.sectors ≡ v.sectors) v v' tag what h.booked h.after refl refl

pub books_labels : (v : AdapterView) (tag piece : ℕ) (what : Result Entry Completion) (v' : AdapterView) → Books v tag piece what v' → v'.labels ≡ v.labels
books_labels v tag piece what v' h = by_booked (λ x. x.labels ≡ v.labels) v v' tag what h.booked h.after refl refl
