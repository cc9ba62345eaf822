-- An entry that was booked is that of the tag's next act.
use Rattle.std.proofs.Common.{◌≡◌, ◌≢◌, inl, inr, ℕ, ◌==◌, Bool, true, false, IsTrue, IsFalse, List, [], ◌∷◌, map, Result, Ok, Err, IsPermutation, refl, sym, ap, subst, ◌∙◌, arith, if◌then◌else◌}
use Rattle.std.specs.Prelude.{All, Contains}
use Rattle.std.proofs.lemmas.Bool.Decides.{Decides-eqb}
use Rattle.std.proofs.lemmas.List.Sorted.{IsPermutation-map, IsPermutation-sym, Contains-permutation}
use Rattle.srb.specs.declared.Entry.{Entry}
use Rattle.srb.specs.declared.Completion.{Completion}
use Rattle.adapter.specs.View.{TagInUse, AdapterView, IsInOrder, IsOn, ActsOn}
use Rattle.adapter.specs.Calls.{IsBooked}
use Rattle.adapter.specs.Booking.{Books, IsBookable, with_booked, booked_on, with_booking}
use Rattle.adapter.proofs.Booked.{on_tag_once, is_there}

-- the piece after it was booked
booked_first : (tag : ℕ) (what : Result Entry Completion) (u : TagInUse) → u.tag ≡ tag → booked_on tag what u ≡ with_booked what u
booked_first tag what u e = rw ((Decides-eqb u.tag tag).1 e) refl

on_after : (v : AdapterView) (tag : ℕ) (entry : Entry) (u : TagInUse) (others : List TagInUse) → IsOn v tag u others → IsOn (with_booking tag (Ok entry) v) tag (with_booked (Ok entry) u) (map (booked_on tag (Ok entry)) others)
on_after v tag entry u others on = record {
  in_use = subst (λ (x : TagInUse). IsPermutation (map (booked_on tag (Ok entry)) v.tags) (x ∷ map (booked_on tag (Ok entry)) others)) (booked_first tag (Ok entry) u on.has_tag) (IsPermutation-map (booked_on tag (Ok entry)) _ _ on.in_use);
  has_tag = on.has_tag;
}

after_is : (v : AdapterView) (tag piece : ℕ) (what : Result Entry Completion) (v' : AdapterView) → Books v tag piece what v' → IsBookable v tag piece what → v' ≡ with_booking tag what v
after_is v tag piece what v' h can = h.after ∙ ap (λ (b : Bool). if b then with_booking tag what v else v) (h.decides.1 can)

-- it is booked
pub booked_is : (v : AdapterView) (tag piece : ℕ) (entry : Entry) (v' : AdapterView) → Books v tag piece (Ok entry) v' → IsBookable v tag piece (Ok entry) → IsBooked v' tag
booked_is v tag piece entry v' h can = subst (λ x. IsBooked x tag) (sym (after_is v tag piece (Ok entry) v' h can)) (record {
  use' = with_booked (Ok entry) can.use';
  others = map (booked_on tag (Ok entry)) can.others;
  apart = can.apart;
  is_on = on_after v tag entry can.use' can.others can.is_on;
  booked = refl;
})

-- and an act of the tag is of that piece, and has those bytes
pub booked_acts : (v : AdapterView) (tag piece : ℕ) (entry : Entry) (v' : AdapterView) → Books v tag piece (Ok entry) v' → IsBookable v tag piece (Ok entry) → IsInOrder v' → (acting : ℕ) (bytes : List ℕ) (w : AdapterView)
    → ActsOn v' tag acting bytes w → (acting ≡ piece) × (bytes ≡ entry.bytes)
booked_acts v tag piece entry v' h can order acting bytes w act =
    let is : v' ≡ with_booking tag (Ok entry) v = after_is v tag piece (Ok entry) v' h can in
    let b : IsBooked v' tag = booked_is v tag piece entry v' h can in
    let mine : TagInUse = with_booked (Ok entry) can.use' in
    let there : Contains v'.tags mine = subst (λ (x : AdapterView). Contains x.tags mine) (sym is) (is_there (with_booking tag (Ok entry) v) tag mine (map (booked_on tag (Ok entry)) can.others) (on_after v tag entry can.use' can.others can.is_on)) in
    let same : act.use' ≡ mine = on_tag_once v'.tags order.tags_differ act.use' mine (is_there v' tag act.use' act.others act.is_on) there (act.is_on.has_tag ∙ sym can.is_on.has_tag) in
    let number : acting ≡ piece = sym act.is_piece ∙ ap (λ (u : TagInUse). u.piece) same ∙ can.is_piece in
    let faith : IsFalse v'.faithful = subst (λ (x : AdapterView). IsFalse x.faithful) (sym is) can.apart in
    (number, (act.as_booked faith (λ z. can.not_first (sym number ∙ z))).1 ∙ ap (λ (u : TagInUse). u.srb.data) same)
