-- A step goes on with the trace of a book, its entries and its tags.
use Rattle.book.proofs.Common.{◌≡◌, inl, inr, ℕ, Bool, true, false, List, ◌++◌, Ok, Err, Result, refl, sym, ap, subst, ◌∙◌, if◌then◌else◌, ◌==◌, All-contains, Decides-eqb, AsksToWrite, Srb, Completion, TagInUse, AdapterView, IsInOrder, IsSpoiled, Books, booked_on, with_booked, with_booking, all_spoiled, unspoiled, Reply, ManagerView, Event, IsRight, there_mapped, Armed, AskTheSame, TracedView, IsCarried, IsServed, log_of, labels_noted, Claimed, IsClaimed, IsOnTag, AreOnTags, HaveNotedAll, Leaves, ArmedStays}
use Rattle.std.specs.Prelude.{All}
use Rattle.srb.specs.declared.Entry.{Entry as Booked}
use Rattle.compose.specs.declared.Event.TheVariants.{Act}
use Rattle.traced.specs.Entries.{labels_of}
use Rattle.book.proofs.Staying.{IsIn, is_in, is_armed}

-- THE TRACE

pub labels_carried : (client : ℕ) (old : TracedView) (event : Event) (reply : Reply) (new : TracedView) (carried : IsCarried client old event reply new)
    → labels_of new.entries ≡ labels_of old.entries ++ carried.stepped.labels
labels_carried client old event reply new carried = ap labels_of carried.entries ∙ labels_noted client (log_of old) carried.stepped.labels

-- an act takes no memory
pub act_carried : (client : ℕ) (old : TracedView) (tag : ℕ) (reply : Reply) (new : TracedView) → IsServed client old (Act tag) reply new → IsCarried client old (Act tag) reply new
act_carried client old tag reply new (inl carried) = carried
act_carried client old tag reply new (inr wanting) = absurd (not_wanted wanting.wants)
  where
    not_wanted : false ≡ true → ⊥
    not_wanted e = absurd (cc (e))

-- THE TAGS

-- a piece but for what was booked of it
record IsButBooked (u v : TagInUse) : Type 0 where
  tag : v.tag ≡ u.tag
  piece : v.piece ≡ u.piece
  fate : v.fate ≡ u.fate
  spoiled : IsSpoiled u.srb v.srb

but_booked : (b : Bool) (what : Result Booked Completion) (u : TagInUse) → (b ≡ true → IsSpoiled u.srb (with_booked what u).srb) → IsButBooked u (if b then with_booked what u else u)
but_booked false what u h = record { tag = refl; piece = refl; fate = refl; spoiled = unspoiled u.srb }
but_booked true (Ok entry) u h = record { tag = refl; piece = refl; fate = refl; spoiled = h refl }
but_booked true (Err completion) u h = record { tag = refl; piece = refl; fate = refl; spoiled = h refl }

asks_still : (armed : Armed) (srb other : Srb) → IsSpoiled srb other → AskTheSame armed.srb srb → AskTheSame armed.srb other
asks_still armed srb other spoiled same = record {
  same_block = same.same_block ∙ sym (ap (λ (s : Srb). s.block) spoiled.same);
  as_long = same.as_long ∙ sym spoiled.as_many;
  same_bytes = λ lba count fua asks.
      same.same_bytes lba count fua asks ∙ sym (spoiled.of_write lba count fua (subst (λ (b : List ℕ). AsksToWrite b lba count fua) same.same_block asks));
}

-- what is booked of a tag's piece spoils its SRB at most
abbrev AreSpoiled : AdapterView → ℕ → Result Booked Completion → Type 0
AreSpoiled old tag what = All (λ u. u.tag ≡ tag → IsSpoiled u.srb (with_booked what u).srb) old.tags

on_tag_booked : (old : AdapterView) (tag : ℕ) (what : Result Booked Completion) (t : ℕ) (armed : Armed) → AreSpoiled old tag what → IsOnTag old t armed → IsOnTag (with_booking tag what old) t armed
on_tag_booked old tag what t armed spoiled on =
    let h : IsIn old t armed.piece on.srb = is_in old t armed.piece on.srb on.is_armed in
    let u : TagInUse = h.use' in
    let mine : u.tag ≡ tag → IsSpoiled u.srb (with_booked what u).srb = All-contains (λ w. w.tag ≡ tag → IsSpoiled w.srb (with_booked what w).srb) old.tags u spoiled h.there in
    let but : IsButBooked u (booked_on tag what u) = but_booked (u.tag == tag) what u (λ is. mine ((Decides-eqb u.tag tag).0 is)) in
    record {
      srb = (booked_on tag what u).srb;
      is_armed = is_armed (with_booking tag what old) t armed.piece (booked_on tag what u).srb (record {
        use' = booked_on tag what u;
        there = there_mapped (booked_on tag what) old.tags u h.there;
        has_tag = but.tag ∙ h.has_tag;
        is_piece = but.piece ∙ h.is_piece;
        is_fresh = but.fate ∙ h.is_fresh;
        is_srb = refl;
      });
      same = asks_still armed u.srb (booked_on tag what u).srb but.spoiled (subst (AskTheSame armed.srb) (sym h.is_srb) on.same);
    }

-- booking leaves what is claimed on its tag
pub tags_booked : (old : AdapterView) (tag piece : ℕ) (what : Result Booked Completion) (new : AdapterView) (tags : Claimed) → IsInOrder old → Books old tag piece what new → AreOnTags old tags → AreOnTags new tags
tags_booked old tag piece what new tags order books on = subst (λ (v : AdapterView). AreOnTags v tags) (sym books.after) (by_choice books.booked refl)
  where
    by_choice : (b : Bool) → books.booked ≡ b → AreOnTags (if b then with_booking tag what old else old) tags
    by_choice true is t number armed claimed = on_tag_booked old tag what t armed (all_spoiled old tag piece what order (books.decides.0 is)) (on t number armed claimed)
    by_choice false is t number armed claimed = on t number armed claimed

-- and so does a right step, of what is still claimed
pub tags_kept : ArmedStays → (old : ManagerView) (event : Event) (reply : Reply) (new : ManagerView) (tags tags' : Claimed) → IsRight old event reply new
    → HaveNotedAll new.labels tags tags' → AreOnTags old.adapter tags → AreOnTags new.adapter tags'
tags_kept stays old event reply new tags tags' right noted on tag number armed claimed =
    let was : IsClaimed tags tag number armed × All (Leaves armed.piece) new.labels = noted tag number armed claimed in
    let h : IsOnTag old.adapter tag armed = on tag number armed was.0 in
    record { srb = h.srb; is_armed = stays old event reply new tag armed.piece h.srb right was.1 h.is_armed; same = h.same }
