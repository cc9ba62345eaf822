-- What turns leave of what waits.
use Rattle.std.proofs.Common.{◌≡◌, ◌⊎◌, inl, inr, ℕ, ◌==◌, ◌&&◌, ◌||◌, Bool, true, false, not, List, [], ◌∷◌, Option, Some, None, refl, sym, ◌∙◌, ap, subst, eq-eqb}
use Rattle.std.specs.Prelude.{find, if◌then◌else◌}
use Rattle.std.proofs.lemmas.Bool.{cases_Bool, and_parts, and_from, eqb-true}
use Rattle.register_judge.specs.declared.states.Waiting.{Waiting}
use Rattle.register_judge.specs.declared.states.Turn.{Turn}
use Rattle.register_judge.specs.declared.states.How.{How}
use Rattle.register_judge.specs.declared.states.How.TheVariants.{Act, Any, Hide, Leave}
use Rattle.register.specs.Schedules.{unrecorded}
use Rattle.register_judge.specs.inside.States.{is_met, meets, is_gone, ages, left_of, lefts, is_any_write, may_write, may_tell, is_source, may_turn, turn_with, turn_by, turns_onto, is_number, leave, take_any, any_write, may_leave, turns_for, turns_of, with_some, gather}
use Rattle.register_judge.proofs.Listing.{Has, Gives, some_kept, some_new, some_from, some_if, gather_kept, gather_there, gather_from, found_has, found_none, or_false, differ_false}

-- WHAT STAYS

-- an operation that stays, as it was or aged
pub record Stays (turn : Turn) (os : List Waiting) (o' : Waiting) : Type 0 where
  pub before : Waiting
  pub has : Has os before
  pub other : before.number ≡ turn.number → ⊥
  pub unmet : meets turn.how turn.value before ≡ false
  pub is : ages turn.how before ≡ o'

left_by : (turn : Turn) (o o' : Waiting) (b : Bool) → is_gone turn o ≡ b → (if b then None else Some (ages turn.how o)) ≡ Some o' → (is_gone turn o ≡ false) × (ages turn.how o ≡ o')
left_by turn o o' true is e = absurd (cc (e))
left_by turn o o' false is e = (is, cc (e))

pub stays : (turn : Turn) (os : List Waiting) (o' : Waiting) → Has (lefts turn [] os) o' → Stays turn os o'
stays turn os o' h = elim (gather_from (left_of turn) [] os o' h) [
  | inl none ↦ absurd none
  | inr (o, has, e) ↦
      let left : (is_gone turn o ≡ false) × (ages turn.how o ≡ o') = left_by turn o o' (is_gone turn o) refl e in
      let apart : ((o.number == turn.number) ≡ false) × (meets turn.how turn.value o ≡ false) = or_false (o.number == turn.number) (meets turn.how turn.value o) left.0 in
      record { before = o; has = has; other = λ same. let yes : (o.number == turn.number) ≡ true = eq-eqb o.number turn.number same in absurd (cc (yes, apart.0)); unmet = apart.1; is = left.1 }
]

pub stays_there : (turn : Turn) (os : List Waiting) (o : Waiting) → Has os o → (o.number ≡ turn.number → ⊥) → meets turn.how turn.value o ≡ false → Has (lefts turn [] os) (ages turn.how o)
stays_there turn os o has other unmet =
    let kept : is_gone turn o ≡ false = rw (differ_false o.number turn.number other, unmet) refl in
    gather_there (left_of turn) [] os o (ages turn.how o) has (rw kept refl)

-- a write is met by none
pub write_unmet : (how : How) (value : ℕ) (o : Waiting) → o.writes ≡ true → meets how value o ≡ false
write_unmet Act value o w = rw w refl
write_unmet Any value o w = refl
write_unmet Hide value o w = by o.is_old
  where
    by : (old : Bool) → (old && (not o.writes && (o.value == value))) ≡ false
    by true = rw w refl
    by false = refl
write_unmet Leave value o w = refl

pub met_read : (value : ℕ) (o : Waiting) → is_met value o ≡ true → (o.writes ≡ false) × (o.value ≡ value)
met_read value o met = by o.writes refl (and_parts (not o.writes) (o.value == value) met)
  where
    by : (w : Bool) → o.writes ≡ w → (not o.writes ≡ true) × ((o.value == value) ≡ true) → (o.writes ≡ false) × (o.value ≡ value)
    by true e parts = let n : not o.writes ≡ false = ap not e in absurd (cc (n, parts.0))
    by false e parts = (e, eqb-true o.value value parts.1)

-- a read of another value
pub read_unmet : (value : ℕ) (o : Waiting) → o.writes ≡ false → is_met value o ≡ false → o.value ≡ value → ⊥
read_unmet value o r unmet same = let yes : (o.value == value) ≡ true = eq-eqb o.value value same in cc (met, unmet)
  where
    met : is_met value o ≡ true
    met = rw (r, eq-eqb o.value value same) refl

pub ages_number : (how : How) (o : Waiting) → (ages how o).number ≡ o.number
ages_number Act o = refl
ages_number Any o = refl
ages_number Hide o = refl
ages_number Leave o = refl

pub ages_writes : (how : How) (o : Waiting) → (ages how o).writes ≡ o.writes
ages_writes Act o = refl
ages_writes Any o = refl
ages_writes Hide o = refl
ages_writes Leave o = refl

pub ages_value : (how : How) (o : Waiting) → (ages how o).value ≡ o.value
ages_value Act o = refl
ages_value Any o = refl
ages_value Hide o = refl
ages_value Leave o = refl

-- MEETING NONE

-- some waiting operation passes the test, or none does
pub some_or_none : (test : Waiting → Bool) (os : List Waiting) → ((o : Waiting) × Has os o × (test o ≡ true)) ⊎ ((o : Waiting) → Has os o → test o ≡ false)
some_or_none test [] = inr (λ o h. absurd h)
some_or_none test (x ∷ os) = elim (cases_Bool (test x)) [
  | inl yes' ↦ inl (x, inl refl, yes')
  | inr no' ↦ elim (some_or_none test os) [
    | inl found ↦ inl (found.0, inr found.1, found.2)
    | inr none ↦ inr (λ o h. elim h [ inl is ↦ ap test (sym is) ∙ no' | inr there ↦ none o there ])
  ]
]

-- two turns of an operation that meet none leave the same
module _ (how how' : How) (n value value' : ℕ) (alike : (o : Waiting) → ages how o ≡ ages how' o) where
  abbrev this : Turn
  this = record { how = how; number = n; value = value }

  abbrev that : Turn
  that = record { how = how'; number = n; value = value' }

  left_alike : (o : Waiting) → meets how value o ≡ false → meets how' value' o ≡ false → left_of this o ≡ left_of that o
  left_alike o e e' = rw (e, e', alike o) refl

  pub lefts_same : (os : List Waiting) → ((o : Waiting) → Has os o → (meets how value o ≡ false) × (meets how' value' o ≡ false)) → (left : List Waiting) → lefts this left os ≡ lefts that left os
  lefts_same [] none left = refl
  lefts_same (o ∷ os) none left =
      let its = none o (inl refl) in
      ap (λ m. gather (left_of this) (with_some left m) os) (left_alike o its.0 its.1) ∙ lefts_same os (λ x h. none x (inr h)) (with_some left (left_of that o))

-- WHICH TURNS

abbrev pub turn_from : How → ℕ → ℕ → Turn
turn_from how n value = record { how = how; number = n; value = value }

-- a write of the value, or one whose bytes were not recorded
abbrev pub Fits : Waiting → ℕ → Type 0
Fits w value = (w.value ≡ value) ⊎ (w.value ≡ unrecorded)

-- a turn is by a write that waits, with the value that the operation reads if it isn't that write
pub record Comes (n : ℕ) (os : List Waiting) (how : How) (turn : Turn) : Type 0 where
  pub of : Waiting
  pub write : Waiting
  pub told : ℕ
  pub has_of : Has os of
  pub is_of : of.number ≡ n
  pub has_write : Has os write
  pub writes : write.writes ≡ true
  pub fits : Fits write told
  pub own : (of.number ≡ write.number) ⊎ ((of.writes ≡ false) × (of.value ≡ told))
  pub olds : how ≡ Hide → (of.is_old ≡ true) × (write.is_old ≡ true)
  pub is : turn ≡ turn_from how write.number told

-- it leaves, which it may where it need not act, or acted before
pub record Leaves (must : Bool) (n : ℕ) (os : List Waiting) (turn : Turn) : Type 0 where
  pub is : turn ≡ leave n
  pub may : must ≡ true → (o : Waiting) → Has os o → o.number ≡ n → ⊥

-- it is a write whose bytes were not recorded, and acts with any value, now or before
pub record Untold (n : ℕ) (os : List Waiting) (turn : Turn) : Type 0 where
  pub of : Waiting
  pub has : Has os of
  pub is_of : of.number ≡ n
  pub any : is_any_write of ≡ true
  pub is : (turn ≡ take_any n) ⊎ ((turn ≡ leave n) × (of.is_old ≡ true))

if_some : {X : Type 0} (b : Bool) (x y : X) → (if b then Some x else None) ≡ Some y → (b ≡ true) × (y ≡ x)
if_some true x y e = (refl, cc (e))
if_some false x y e = absurd (cc (e))

or_cases : (a b : Bool) → a || b ≡ true → (a ≡ true) ⊎ (b ≡ true)
or_cases true b h = inl refl
or_cases false b h = inr h

pub any_parts : (o : Waiting) → is_any_write o ≡ true → (o.writes ≡ true) × (o.value ≡ unrecorded)
any_parts o e = let parts : (o.writes ≡ true) × ((o.value == unrecorded) ≡ true) = and_parts o.writes (o.value == unrecorded) e in (parts.0, eqb-true o.value unrecorded parts.1)

-- what may tell is the write, or a read if its bytes were not recorded
tell_cases : (of o : Waiting) → may_tell of o ≡ true → ((of.value ≡ unrecorded) × (o.writes ≡ false)) ⊎ (o.number ≡ of.number)
tell_cases of o e = by (of.value == unrecorded) o.writes refl refl e
  where
    by : (b w : Bool) → (of.value == unrecorded) ≡ b → o.writes ≡ w → (if b then not w else o.number == of.number) ≡ true → ((of.value ≡ unrecorded) × (o.writes ≡ false)) ⊎ (o.number ≡ of.number)
    by true false is w t = inl (eqb-true of.value unrecorded is, w)
    by true true is w t = absurd (cc (t))
    by false w' is w t = inr (eqb-true o.number of.number t)

write_fits : (value : ℕ) (o : Waiting) → may_write value o ≡ true → (o.writes ≡ true) × Fits o value
write_fits value o e =
    let parts : (o.writes ≡ true) × (((o.value == unrecorded) || (o.value == value)) ≡ true) = and_parts o.writes ((o.value == unrecorded) || (o.value == value)) e in
    (parts.0, elim (or_cases (o.value == unrecorded) (o.value == value) parts.1) [ inl none ↦ inr (eqb-true o.value unrecorded none) | inr same ↦ inl (eqb-true o.value value same) ])

fits_write : (value : ℕ) (o : Waiting) → o.writes ≡ true → Fits o value → may_write value o ≡ true
fits_write value o w (inl same) = and_from o.writes ((o.value == unrecorded) || (o.value == value)) w (either (o.value == unrecorded) (o.value == value) (eq-eqb o.value value same))
  where
    either : (a b : Bool) → b ≡ true → a || b ≡ true
    either true b h = refl
    either false b h = h
fits_write value o w (inr none) = and_from o.writes ((o.value == unrecorded) || (o.value == value)) w (rw (eq-eqb o.value unrecorded none) refl)

module _ (must : Bool) (n : ℕ) (os : List Waiting) (apart : (a b : Waiting) → Has os a → Has os b → a.number ≡ b.number → a ≡ b) (turn : Turn) where
  module _ (how : How) (of : Waiting) (has : Has os of) (is_of : of.number ≡ n) (x : Waiting) (there : Has os x) (olds : how ≡ Hide → (of.is_old ≡ true) × (x.is_old ≡ true)) where
    by_write : of.writes ≡ true → may_tell of x ≡ true → turn ≡ turn_from how of.number x.value → Comes n os how turn
    by_write w may is = record {
      of = of;
      write = of;
      told = x.value;
      has_of = has;
      is_of = is_of;
      has_write = has;
      writes = w;
      fits = elim (tell_cases of x may) [ inl none ↦ inr none.0 | inr same ↦ inl (ap (λ y. y.value) (apart of x has there (sym same))) ];
      own = inl refl;
      olds = λ e. let both = olds e in (both.0, both.0);
      is = is;
    }

    by_read : of.writes ≡ false → may_write of.value x ≡ true → turn ≡ turn_from how x.number of.value → Comes n os how turn
    by_read r may is = let its = write_fits of.value x may in record {
      of = of;
      write = x;
      told = of.value;
      has_of = has;
      is_of = is_of;
      has_write = there;
      writes = its.0;
      fits = its.1;
      own = inr (r, refl);
      olds = olds;
      is = is;
    }

    by_source : is_source of x ≡ true → turn ≡ turn_with how of x → Comes n os how turn
    by_source = by of.writes refl
      where
        by : (w : Bool) → of.writes ≡ w → (if w then may_tell of x else may_write of.value x) ≡ true → turn ≡ (if w then turn_from how of.number x.value else turn_from how x.number of.value) → Comes n os how turn
        by true w may is = by_write w may is
        by false r may is = by_read r may is

  no_hide : Act ≡ Hide → ⊥
  no_hide e = cc (e)

  given_act : (of : Waiting) → Has os of → of.number ≡ n → Gives (turn_by Act of) os turn → Comes n os Act turn
  given_act of has is_of (x, there, e) =
      let made : (may_turn Act of x ≡ true) × (turn ≡ turn_with Act of x) = if_some (may_turn Act of x) (turn_with Act of x) turn e in
      by_source Act of has is_of x there (λ e'. absurd (no_hide e')) made.0 made.1

  given_hide : (of : Waiting) → Has os of → of.number ≡ n → Gives (turn_by Hide of) os turn → Comes n os Hide turn
  given_hide of has is_of (x, there, e) =
      let made : (may_turn Hide of x ≡ true) × (turn ≡ turn_with Hide of x) = if_some (may_turn Hide of x) (turn_with Hide of x) turn e in
      let outer : ((is_source of x && of.is_old) ≡ true) × (x.is_old ≡ true) = and_parts (is_source of x && of.is_old) x.is_old made.0 in
      let inner : (is_source of x ≡ true) × (of.is_old ≡ true) = and_parts (is_source of x) of.is_old outer.0 in
      by_source Hide of has is_of x there (λ e'. (inner.1, outer.1)) inner.0 made.1

  abbrev OneOf : Type 0
  OneOf = Comes n os Act turn ⊎ Comes n os Hide turn ⊎ Leaves must n os turn ⊎ Untold n os turn

  module _ (of : Waiting) (has : Has os of) (is_of : of.number ≡ n) where
    by_turns : Has (turns_onto Hide of (turns_onto Act of [] os) os) turn → OneOf
    by_turns there = elim (gather_from (turn_by Hide of) (turns_onto Act of [] os) os turn there) [
      | inl acts ↦ elim (gather_from (turn_by Act of) [] os turn acts) [ inl none ↦ absurd none | inr x ↦ inl (given_act of has is_of x) ]
      | inr x ↦ inr (inl (given_hide of has is_of x))
    ]

    by_leave : may_leave must of ≡ true → turn ≡ leave of.number → OneOf
    by_leave may is = elim (or_cases (not must) (is_any_write of && of.is_old) may) [
      | inl free ↦ inr (inr (inl (record { is = is ∙ ap leave is_of; may = λ need. let bound : not must ≡ false = ap not need in absurd (cc (bound, free)) })))
      | inr any ↦ let parts : (is_any_write of ≡ true) × (of.is_old ≡ true) = and_parts (is_any_write of) of.is_old any in
          inr (inr (inr (record { of = of; has = has; is_of = is_of; any = parts.0; is = inr (is ∙ ap leave is_of, parts.1) })))
    ]

    by_any : (turns : List Turn) → (Has turns turn → OneOf) → Has (with_some turns (any_write of)) turn → OneOf
    by_any turns rest there = elim (some_from turns (any_write of) turn there) [
      | inl before ↦ rest before
      | inr e ↦ let made : (is_any_write of ≡ true) × (turn ≡ take_any of.number) = if_some (is_any_write of) (take_any of.number) turn e in
          inr (inr (inr (record { of = of; has = has; is_of = is_of; any = made.0; is = inl (made.1 ∙ ap take_any is_of) })))
    ]

    by_found : Has (turns_for must n os (Some of)) turn → OneOf
    by_found there = elim (some_from (with_some (turns_onto Hide of (turns_onto Act of [] os) os) (any_write of)) (if may_leave must of then Some (leave of.number) else None) turn there) [
      | inl before ↦ by_any (turns_onto Hide of (turns_onto Act of [] os) os) by_turns before
      | inr e ↦ let made : (may_leave must of ≡ true) × (turn ≡ leave of.number) = if_some (may_leave must of) (leave of.number) turn e in by_leave made.0 made.1
    ]

  pub turns_from : Has (turns_of must n os) turn → OneOf
  turns_from h = by (find (is_number n) os) refl h
    where
      by : (found : Option Waiting) → find (is_number n) os ≡ found → Has (turns_for must n os found) turn → OneOf
      by None e (inl same) = inr (inr (inl (record { is = sym same; may = λ need o has is. let no' : (o.number == n) ≡ false = found_none (is_number n) os o e has in let yes' : (o.number == n) ≡ true = eq-eqb o.number n is in absurd (cc (no', yes')) })))
      by None e (inr none) = absurd none
      by (Some of) e there = let at : Has os of × ((of.number == n) ≡ true) = found_has (is_number n) os of e in by_found of at.0 (eqb-true of.number n at.1) there

-- the turns that there are
module _ (must : Bool) (n : ℕ) (os : List Waiting) where
  pub leave_alone : ((o : Waiting) → Has os o → o.number ≡ n → ⊥) → Has (turns_of must n os) (leave n)
  leave_alone none = by (find (is_number n) os) refl
    where
      by : (found : Option Waiting) → find (is_number n) os ≡ found → Has (turns_for must n os found) (leave n)
      by None e = inl refl
      by (Some of) e = let at : Has os of × ((of.number == n) ≡ true) = found_has (is_number n) os of e in absurd (none of at.0 (eqb-true of.number n at.1))

  -- of the first that waits with the number
  module _ (of : Waiting) (found : find (is_number n) os ≡ Some of) where
    is_of : of.number ≡ n
    is_of = let at : Has os of × ((of.number == n) ≡ true) = found_has (is_number n) os of found in eqb-true of.number n at.1

    abbrev told : List Turn
    told = turns_onto Hide of (turns_onto Act of [] os) os

    there_for : (turn : Turn) → Has (turns_for must n os (Some of)) turn → Has (turns_of must n os) turn
    there_for turn h = subst (λ o. Has (turns_for must n os o) turn) (sym found) h

    pub told_there : (turn : Turn) → Has told turn → Has (turns_of must n os) turn
    told_there turn h = there_for turn (some_kept (with_some told (any_write of)) (if may_leave must of then Some (leave of.number) else None) turn (some_kept told (any_write of) turn h))

    pub leave_there : may_leave must of ≡ true → Has (turns_of must n os) (leave n)
    leave_there may = there_for (leave n) (some_new (with_some told (any_write of)) (if may_leave must of then Some (leave of.number) else None) (leave n) (rw may (ap (λ k. Some (leave k)) is_of)))

    pub any_there : is_any_write of ≡ true → Has (turns_of must n os) (take_any n)
    any_there any =
        there_for (take_any n) (some_kept (with_some told (any_write of)) (if may_leave must of then Some (leave of.number) else None) (take_any n)
        (some_new told (any_write of) (take_any n) (rw any (ap (λ k. Some (take_any k)) is_of))))

    pub act_there : (x : Waiting) → Has os x → is_source of x ≡ true → Has (turns_of must n os) (turn_with Act of x)
    act_there x has may =
        told_there (turn_with Act of x) (gather_kept (turn_by Hide of) (turns_onto Act of [] os) os (turn_with Act of x) (gather_there (turn_by Act of) [] os x (turn_with Act of x) has (some_if (may_turn Act of x) (turn_with Act of x) may)))

    pub hide_there : (x : Waiting) → Has os x → is_source of x ≡ true → of.is_old ≡ true → x.is_old ≡ true → Has (turns_of must n os) (turn_with Hide of x)
    hide_there x has may old old_x =
        told_there (turn_with Hide of x)
        (gather_there (turn_by Hide of) (turns_onto Act of [] os) os x (turn_with Hide of x) has (some_if (may_turn Hide of x) (turn_with Hide of x) (and_from (is_source of x && of.is_old) x.is_old (and_from (is_source of x) of.is_old may old) old_x)))

  pub leave_free : must ≡ false → Has (turns_of must n os) (leave n)
  leave_free e = by (find (is_number n) os) refl
    where
      by : (found : Option Waiting) → find (is_number n) os ≡ found → Has (turns_of must n os) (leave n)
      by None is = subst (λ o. Has (turns_for must n os o) (leave n)) (sym is) (inl refl)
      by (Some of) is = leave_there of is (rw e refl)

-- the turn of a write that ends, by what tells its value
pub own_turn : (how : How) (of x : Waiting) (told : ℕ) → of.writes ≡ true → x.value ≡ told → turn_with how of x ≡ turn_from how of.number told
own_turn how of x told w e = rw w (ap (λ u. turn_from how of.number u) e)

-- that of a read that ends, by a write
pub read_turn : (how : How) (of w : Waiting) → of.writes ≡ false → turn_with how of w ≡ turn_from how w.number of.value
read_turn how of w r = rw r refl

pub own_source : (o : Waiting) → o.writes ≡ true → (o.value ≡ unrecorded → ⊥) → is_source o o ≡ true
own_source o w other = rw (w, differ_false o.value unrecorded other) (eq-eqb o.number o.number refl)

pub told_source : (o x : Waiting) → o.writes ≡ true → o.value ≡ unrecorded → x.writes ≡ false → is_source o x ≡ true
told_source o x w none r = rw (w, eq-eqb o.value unrecorded none, r) refl

pub read_source : (o w : Waiting) → o.writes ≡ false → w.writes ≡ true → Fits w o.value → is_source o w ≡ true
read_source o w r writes fits = rw r (fits_write o.value w writes fits)
