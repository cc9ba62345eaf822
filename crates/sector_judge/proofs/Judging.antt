-- The judge of a sector is exact.
use Rattle.std.proofs.Common.{◌≡◌, ◌<◌, ◌≤◌, ◌⊎◌, inl, inr, ℕ, suc, ◌+◌, Bool, true, false, cond, List, [], ◌∷◌, ◌++◌, map, Option, Some, None, refl, sym, ap, subst, ◌∙◌, arith, length, get_or, take, take_all}
use Rattle.std.specs.Prelude.{MatchBool, ◌↔◌, ◌||◌, ◌&&◌, ◌==◌, nat_lt, if◌then◌else◌}
use Rattle.std.specs.List.{filter, filter_map, list_any}
use Rattle.std.proofs.lemmas.Bool.Decides.{eqb_tells}
use Rattle.std.proofs.Math.Seq.{take-suc}
use Rattle.std.proofs.lemmas.List.{map-append}
use Rattle.sector_judge.specs.declared.candidates.Candidate.{Candidate}
use Rattle.sector_judge.specs.declared.candidates.Candidate.TheVariants.{First, Told}
use Rattle.sector_judge.specs.declared.Event.{Event}
use Rattle.sector_judge.specs.declared.Event.TheVariants.{Put, Secured, Tried, Synced, Doubted, Given, Lost, Ended}
use Rattle.loss.specs.Held.{ChangeOf, HeldOf, IsOneOf, OlderOf, Puts, Secures, Tries, Syncs, Doubts, changed, outlives, overwritten, surely, value_of}
use Rattle.sector_judge.specs.Verdicts.{IsRefusal}
use Rattle.sector_judge.specs.Happened.{CanHappen, HappenAll, Happens}
use Rattle.sector_judge.specs.Known.{IsKnown, IsKnownAs, Knowledge, MayBegin, ended, given, holding, is_first, is_value, judged, next, nothing_known, older_from, told_of, value_from, with_held}

-- TESTS

or_split : (x y : Bool) → x || y ≡ true → (x ≡ true) ⊎ (y ≡ true)
or_split true y e = inl refl
or_split false y e = inr e

or_left : (x y : Bool) → x ≡ true → x || y ≡ true
or_left true y e = refl
or_left false y e = absurd (cc (e))

or_right : (x y : Bool) → y ≡ true → x || y ≡ true
or_right true y e = refl
or_right false y e = e

and_split : (x y : Bool) → x && y ≡ true → (x ≡ true) × (y ≡ true)
and_split true y e = (refl, e)
and_split false y e = absurd (cc (e))

same_is : (m n : ℕ) → m == n ≡ true → m ≡ n
same_is m n e = elim (eqb_tells m n) [ inl h ↦ h.1 | inr h ↦ absurd (cc (h.0, e)) ]

is_same : (m n : ℕ) → m ≡ n → m == n ≡ true
is_same m n e = elim (eqb_tells m n) [ inl h ↦ h.0 | inr h ↦ absurd (h.1 e) ]

any_is : (value : ℕ) (values : List ℕ) → list_any (λ other. other == value) values ≡ true → IsOneOf value values
any_is value [] e = absurd (cc (e))
any_is value (other ∷ others) e =
    elim (or_split (other == value) (list_any (λ other. other == value) others) e) [ inl h ↦ inl (sym (same_is other value h)) | inr h ↦ inr (any_is value others h) ]

is_any : (value : ℕ) (values : List ℕ) → IsOneOf value values → list_any (λ other. other == value) values ≡ true
is_any value [] h = absurd h
is_any value (other ∷ others) (inl e) = or_left (other == value) (list_any (λ other. other == value) others) (is_same other value (sym e))
is_any value (other ∷ others) (inr h) = or_right (other == value) (list_any (λ other. other == value) others) (is_any value others h)

-- CANDIDATES

-- what is told is there whatever the first value was
told_is : (value first : ℕ) (cs : List Candidate) → list_any (is_value value) cs ≡ true → IsOneOf value (map (value_from first) cs)
told_is value first [] e = absurd (cc (e))
told_is value first (First ∷ cs) e = inr (told_is value first cs e)
told_is value first (Told other ∷ cs) e =
    elim (or_split (other == value) (list_any (is_value value) cs) e) [ inl h ↦ inl (sym (same_is other value h)) | inr h ↦ inr (told_is value first cs h) ]

first_is : (first : ℕ) (cs : List Candidate) → list_any is_first cs ≡ true → IsOneOf first (map (value_from first) cs)
first_is first [] e = absurd (cc (e))
first_is first (First ∷ cs) e = inl refl
first_is first (Told other ∷ cs) e = inr (first_is first cs e)

-- what is there is told, or it is the first value
told_or_first : (value first : ℕ) (cs : List Candidate) → IsOneOf value (map (value_from first) cs) → (list_any (is_value value) cs ≡ true) ⊎ ((list_any is_first cs ≡ true) × (value ≡ first))
told_or_first value first [] h = absurd h
told_or_first value first (First ∷ cs) (inl e) = inr (refl, e)
told_or_first value first (First ∷ cs) (inr h) = elim (told_or_first value first cs h) [ inl e ↦ inl e | inr p ↦ inr (refl, p.1) ]
told_or_first value first (Told other ∷ cs) (inl e) = inl (or_left (other == value) (list_any (is_value value) cs) (is_same other value (sym e)))
told_or_first value first (Told other ∷ cs) (inr h) =
    elim (told_or_first value first cs h) [ inl e ↦ inl (or_right (other == value) (list_any (is_value value) cs) e) | inr p ↦ inr (p.0, p.1) ]

is_told : (value : ℕ) (cs : List Candidate) → list_any (is_value value) cs ≡ true → IsOneOf value (filter_map told_of cs)
is_told value [] e = absurd (cc (e))
is_told value (First ∷ cs) e = is_told value cs e
is_told value (Told other ∷ cs) e =
    elim (or_split (other == value) (list_any (is_value value) cs) e) [ inl h ↦ inl (sym (same_is other value h)) | inr h ↦ inr (is_told value cs h) ]

told_there : (value first : ℕ) (cs : List Candidate) → IsOneOf value (filter_map told_of cs) → IsOneOf value (map (value_from first) cs)
told_there value first [] h = absurd h
told_there value first (First ∷ cs) h = inr (told_there value first cs h)
told_there value first (Told other ∷ cs) (inl e) = inl e
told_there value first (Told other ∷ cs) (inr h) = inr (told_there value first cs h)

-- LISTS

one_left : (value : ℕ) (xs ys : List ℕ) → IsOneOf value xs → IsOneOf value (xs ++ ys)
one_left value [] ys h = absurd h
one_left value (x ∷ xs) ys (inl e) = inl e
one_left value (x ∷ xs) ys (inr h) = inr (one_left value xs ys h)

one_right : (value : ℕ) (xs ys : List ℕ) → IsOneOf value ys → IsOneOf value (xs ++ ys)
one_right value [] ys h = h
one_right value (x ∷ xs) ys h = inr (one_right value xs ys h)

one_of_both : (value : ℕ) (xs ys : List ℕ) → IsOneOf value (xs ++ ys) → IsOneOf value xs ⊎ IsOneOf value ys
one_of_both value [] ys h = inr h
one_of_both value (x ∷ xs) ys (inl e) = inl (inl e)
one_of_both value (x ∷ xs) ys (inr h) = elim (one_of_both value xs ys h) [ inl p ↦ inl (inr p) | inr p ↦ inr p ]

-- CHANGES

abbrev from_change : ℕ → ChangeOf Candidate → ChangeOf ℕ
from_change first (Puts c) = Puts (value_from first c)
from_change first (Secures c) = Secures (value_from first c)
from_change first (Tries c) = Tries (value_from first c)
from_change first (Syncs flush) = Syncs flush
from_change first Doubts = Doubts

from_overwritten : (first piece : ℕ) (cs : List Candidate) → map (older_from first) (map (overwritten piece) cs) ≡ map (overwritten piece) (map (value_from first) cs)
from_overwritten first piece [] = refl
from_overwritten first piece (c ∷ cs) = ap (λ (os : List (OlderOf ℕ)). overwritten piece (value_from first c) ∷ os) (from_overwritten first piece cs)

from_values : (first : ℕ) (os : List (OlderOf Candidate)) → map (value_from first) (map value_of os) ≡ map value_of (map (older_from first) os)
from_values first [] = refl
from_values first (o ∷ os) = ap (λ (vs : List ℕ). value_from first o.value ∷ vs) (from_values first os)

from_outlives : (first flush : ℕ) (os : List (OlderOf Candidate)) → map (older_from first) (filter (outlives flush) os) ≡ filter (outlives flush) (map (older_from first) os)
from_outlives first flush [] = refl
from_outlives first flush (o ∷ os) = by_age (nat_lt flush o.behind) (from_outlives first flush os)
  where
    by_age : (b : Bool) → map (older_from first) (filter (outlives flush) os) ≡ filter (outlives flush) (map (older_from first) os)
        → map (older_from first) (cond b (o ∷ filter (outlives flush) os) (filter (outlives flush) os)) ≡ cond b (older_from first o ∷ filter (outlives flush) (map (older_from first) os)) (filter (outlives flush) (map (older_from first) os))
    by_age true rest = ap (λ (xs : List (OlderOf ℕ)). older_from first o ∷ xs) rest
    by_age false rest = rest

from_changed : (first piece : ℕ) (c : ChangeOf Candidate) (h : HeldOf Candidate) → holding first (changed piece c h) ≡ changed piece (from_change first c) (holding first h)
from_changed first piece (Puts c) h =
    ap (λ (os : List (OlderOf ℕ)). record { now = value_from first c ∷ []; older = os })
    (map-append (older_from first) h.older (map (overwritten piece) h.now) ∙ ap (λ (os : List (OlderOf ℕ)). map (older_from first) h.older ++ os) (from_overwritten first piece h.now))
from_changed first piece (Secures c) h = refl
from_changed first piece (Tries c) h = ap (λ (vs : List ℕ). record { now = vs; older = map (older_from first) h.older }) (map-append (value_from first) h.now (c ∷ []))
from_changed first piece (Syncs flush) h = ap (λ (os : List (OlderOf ℕ)). record { now = map (value_from first) h.now; older = os }) (from_outlives first flush h.older)
from_changed first piece Doubts h =
    ap (λ (vs : List ℕ). record { now = vs; older = [] })
    (map-append (value_from first) h.now (map value_of h.older) ∙ ap (λ (vs : List ℕ). map (value_from first) h.now ++ vs) (from_values first h.older))

change_known : (piece : ℕ) (c : ChangeOf Candidate) (k : Knowledge) (first : ℕ) (h h' : HeldOf ℕ) → MayBegin k first → h ≡ holding first k.held → h' ≡ changed piece (from_change first c) h → IsKnown (with_held k (changed piece c k.held)) h'
change_known piece c k first h h' begins is after = (first, begins, after ∙ ap (changed piece (from_change first c)) is ∙ sym (from_changed first piece c k.held))

change_from : (piece : ℕ) (c : ChangeOf Candidate) (k : Knowledge) (h' : HeldOf ℕ) → (p : IsKnown (with_held k (changed piece c k.held)) h') → h' ≡ changed piece (from_change p.0 c) (holding p.0 k.held)
change_from piece c k h' p = p.2 ∙ from_changed p.0 piece c k.held

-- LIVE

abbrev IsFilled : {X : Type 0} → List X → Type 0
IsFilled [] = ⊥
IsFilled (x ∷ xs) = Unit {0}

filled_left : {X : Type 0} (xs ys : List X) → IsFilled xs → IsFilled (xs ++ ys)
filled_left [] ys h = absurd h
filled_left (x ∷ xs) ys h = tt

-- something may be there
record IsLive (k : Knowledge) : Type 0 where
  some : (first : ℕ) × MayBegin k first
  now : IsFilled k.held.now

some_of : (first : ℕ) (cs : List Candidate) → IsFilled cs → (value : ℕ) × IsOneOf value (map (value_from first) cs)
some_of first [] h = absurd h
some_of first (c ∷ cs) h = (value_from first c, inl refl)

-- ENDS

by_has : (value : ℕ) (has : Bool) (firsts : List ℕ) → has ≡ true → IsOneOf value firsts → IsOneOf value (if has then firsts else [])
by_has value true firsts e h = h
by_has value false firsts e h = absurd (cc (e))

has_by : (value : ℕ) (has : Bool) (firsts : List ℕ) → IsOneOf value (if has then firsts else []) → (has ≡ true) × IsOneOf value firsts
has_by value true firsts h = (refl, h)
has_by value false firsts h = absurd h

and_both : (x y : Bool) → x ≡ true → y ≡ true → x && y ≡ true
and_both true y e e' = e'
and_both false y e e' = absurd (cc (e))

ended_to : (k : Knowledge) (first value : ℕ) → MayBegin k first → IsOneOf value (map (value_from first) k.held.now) → MayBegin (ended k) value
ended_to k first value begins there =
    elim (told_or_first value first k.held.now there) [
      | inl told ↦ inr (one_left value (filter_map told_of k.held.now) _ (is_told value k.held.now told))
      | inr it ↦ of_first it.0 (subst (λ (v : ℕ). MayBegin k v) (sym it.1) begins)
    ]
  where
    of_first : list_any is_first k.held.now ≡ true → MayBegin k value → MayBegin (ended k) value
    of_first has (inl any) = inl (and_both (list_any is_first k.held.now) k.any has any)
    of_first has (inr one) = inr (one_right value (filter_map told_of k.held.now) _ (by_has value (list_any is_first k.held.now) k.firsts has one))

ended_from : (k : Knowledge) (value : ℕ) → (first : ℕ) × MayBegin k first → MayBegin (ended k) value → (first : ℕ) × MayBegin k first × IsOneOf value (map (value_from first) k.held.now)
ended_from k value some (inl e) =
    let both = and_split (list_any is_first k.held.now) k.any e in
    (value, inl both.1, first_is value k.held.now both.0)
ended_from k value some (inr h) =
    elim (one_of_both value (filter_map told_of k.held.now) _ h) [
      | inl told ↦ (some.0, some.1, told_there value some.0 k.held.now told)
      | inr rest ↦ of_rest (has_by value (list_any is_first k.held.now) k.firsts rest)
    ]
  where
    of_rest : (list_any is_first k.held.now ≡ true) × IsOneOf value k.firsts → (first : ℕ) × MayBegin k first × IsOneOf value (map (value_from first) k.held.now)
    of_rest it = (value, inr it.1, first_is value k.held.now it.0)

ended_live : (k : Knowledge) → IsLive k → IsLive (ended k)
ended_live k l =
    let some : (value : ℕ) × IsOneOf value (map (value_from l.some.0) k.held.now) = some_of l.some.0 k.held.now l.now in
    record { some = (some.0, ended_to k l.some.0 some.0 l.some.1 some.1); now = tt }

-- READS

may_be : (value : ℕ) (k : Knowledge) → MayBegin k value → k.any || list_any (λ other. other == value) k.firsts ≡ true
may_be value k (inl any) = or_left k.any (list_any (λ other. other == value) k.firsts) any
may_be value k (inr one) = or_right k.any (list_any (λ other. other == value) k.firsts) (is_any value k.firsts one)

be_may : (value : ℕ) (k : Knowledge) → k.any || list_any (λ other. other == value) k.firsts ≡ true → MayBegin k value
be_may value k e = elim (or_split k.any (list_any (λ other. other == value) k.firsts) e) [ inl any ↦ inl any | inr one ↦ inr (any_is value k.firsts one) ]

abbrev given_by : ℕ → Knowledge → Bool → Bool → Option Knowledge
given_by value k told first = if told then Some k else (if first then Some (record k { any = false; firsts = value ∷ [] }) else None)

given_to : (value first : ℕ) (k : Knowledge) → MayBegin k first → IsOneOf value (map (value_from first) k.held.now) → IsKnownAs (given value k) (holding first k.held)
given_to value first k begins there = by_told (list_any (is_value value) k.held.now) refl
  where
    narrowed : (b : Bool) → b ≡ true → value ≡ first → IsKnownAs (given_by value k false b) (holding first k.held)
    narrowed true e same = (first, inr (inl (sym same)), refl)
    narrowed false e same = absurd (cc (e))

    by_told : (t : Bool) → list_any (is_value value) k.held.now ≡ t → IsKnownAs (given_by value k t (list_any is_first k.held.now && (k.any || list_any (λ other. other == value) k.firsts))) (holding first k.held)
    by_told true e = (first, begins, refl)
    by_told false e =
        elim (told_or_first value first k.held.now there) [
          | inl told ↦ absurd (cc (told, e))
          | inr it ↦
              narrowed (list_any is_first k.held.now && (k.any || list_any (λ other. other == value) k.firsts))
              (and_both (list_any is_first k.held.now) _ it.0 (may_be value k (subst (λ (v : ℕ). MayBegin k v) (sym it.1) begins))) it.1
        ]

abbrev Leads : Knowledge → Event → HeldOf ℕ → Type 0
Leads k event h' = (h : HeldOf ℕ) × IsKnown k h × Happens h event h'

given_from : (value : ℕ) (k : Knowledge) (h' : HeldOf ℕ) → IsKnownAs (given value k) h' → Leads k (Given value) h'
given_from value k h' p = by_told (list_any (is_value value) k.held.now) refl p
  where
    narrowed : (b : Bool) → (list_any is_first k.held.now && (k.any || list_any (λ other. other == value) k.firsts)) ≡ b → IsKnownAs (given_by value k false b) h' → Leads k (Given value) h'
    narrowed true e q = elim (q.1) [
      | inl wrong ↦ absurd (cc (wrong))
      | inr (inr never) ↦ absurd never
      | inr (inl same) ↦
          let both = and_split (list_any is_first k.held.now) (k.any || list_any (λ other. other == value) k.firsts) e in
          let begins : MayBegin k q.0 = subst (λ (v : ℕ). MayBegin k v) (sym same) (be_may value k both.1) in
          let there : IsOneOf q.0 (map (value_from q.0) k.held.now) = first_is q.0 k.held.now both.0 in
          (h', (q.0, begins, q.2), (subst (λ (h : HeldOf ℕ). IsOneOf value h.now) (sym q.2) (subst (λ (v : ℕ). IsOneOf v (map (value_from q.0) k.held.now)) same there), refl))
    ]
    narrowed false e q = absurd q

    by_told : (t : Bool) → list_any (is_value value) k.held.now ≡ t → IsKnownAs (given_by value k t (list_any is_first k.held.now && (k.any || list_any (λ other. other == value) k.firsts))) h' → Leads k (Given value) h'
    by_told true e q = (h', q, (subst (λ (h : HeldOf ℕ). IsOneOf value h.now) (sym q.2) (told_is value q.0 k.held.now e), refl))
    by_told false e q = narrowed (list_any is_first k.held.now && (k.any || list_any (λ other. other == value) k.firsts)) refl q

abbrev AreLive : Option Knowledge → Type 0
AreLive None = Unit {0}
AreLive (Some k) = IsLive k

given_live : (value : ℕ) (k : Knowledge) → IsLive k → AreLive (given value k)
given_live value k l = by_tests (list_any (is_value value) k.held.now) (list_any is_first k.held.now && (k.any || list_any (λ other. other == value) k.firsts))
  where
    by_tests : (t f : Bool) → AreLive (given_by value k t f)
    by_tests true f = l
    by_tests false true = record { some = (value, inr (inl refl)); now = l.now }
    by_tests false false = tt

-- ONE EVENT

next_live : (k : Knowledge) (event : Event) → IsLive k → AreLive (next k event)
next_live k (Put value piece) l = record { some = l.some; now = tt }
next_live k (Secured value) l = record { some = l.some; now = tt }
next_live k (Tried value) l = record { some = l.some; now = filled_left k.held.now (Told value ∷ []) l.now }
next_live k (Synced flush) l = record { some = l.some; now = l.now }
next_live k Doubted l = record { some = l.some; now = filled_left k.held.now (map value_of k.held.older) l.now }
next_live k (Given value) l = given_live value k l
next_live k Lost l = ended_live (with_held k (changed 0 Doubts k.held)) (record { some = l.some; now = filled_left k.held.now (map value_of k.held.older) l.now })
next_live k Ended l = ended_live k l

step_to : (k : Knowledge) (event : Event) (h' : HeldOf ℕ) → Leads k event h' → IsKnownAs (next k event) h'
step_to k (Put value piece) h' l = change_known piece (Puts (Told value)) k l.1.0 l.0 h' l.1.1 l.1.2 l.2
step_to k (Secured value) h' l = change_known 0 (Secures (Told value)) k l.1.0 l.0 h' l.1.1 l.1.2 l.2
step_to k (Tried value) h' l = change_known 0 (Tries (Told value)) k l.1.0 l.0 h' l.1.1 l.1.2 l.2
step_to k (Synced flush) h' l = change_known 0 (Syncs flush) k l.1.0 l.0 h' l.1.1 l.1.2 l.2
step_to k Doubted h' l = change_known 0 Doubts k l.1.0 l.0 h' l.1.1 l.1.2 l.2
step_to k (Given value) h' l =
    subst (λ (h : HeldOf ℕ). IsKnownAs (given value k) h) (sym (l.2.1 ∙ l.1.2)) (given_to value l.1.0 k l.1.1 (subst (λ (h : HeldOf ℕ). IsOneOf value h.now) l.1.2 l.2.0))
step_to k Lost h' l =
    let doubted : IsKnown (with_held k (changed 0 Doubts k.held)) (changed 0 Doubts l.0) = change_known 0 Doubts k l.1.0 l.0 (changed 0 Doubts l.0) l.1.1 l.1.2 refl in
    (l.2.0, ended_to (with_held k (changed 0 Doubts k.held)) doubted.0 l.2.0 doubted.1 (subst (λ (h : HeldOf ℕ). IsOneOf l.2.0 h.now) doubted.2 l.2.1), l.2.2)
step_to k Ended h' l = (l.2.0, ended_to k l.1.0 l.2.0 l.1.1 (subst (λ (h : HeldOf ℕ). IsOneOf l.2.0 h.now) l.1.2 l.2.1), l.2.2)

step_from : (k : Knowledge) (live : IsLive k) (event : Event) (h' : HeldOf ℕ) → IsKnownAs (next k event) h' → Leads k event h'
step_from k live (Put value piece) h' p = (holding p.0 k.held, (p.0, p.1, refl), change_from piece (Puts (Told value)) k h' p)
step_from k live (Secured value) h' p = (holding p.0 k.held, (p.0, p.1, refl), change_from 0 (Secures (Told value)) k h' p)
step_from k live (Tried value) h' p = (holding p.0 k.held, (p.0, p.1, refl), change_from 0 (Tries (Told value)) k h' p)
step_from k live (Synced flush) h' p = (holding p.0 k.held, (p.0, p.1, refl), change_from 0 (Syncs flush) k h' p)
step_from k live Doubted h' p = (holding p.0 k.held, (p.0, p.1, refl), change_from 0 Doubts k h' p)
step_from k live (Given value) h' p = given_from value k h' p
step_from k live Lost h' p =
    let it = ended_from (with_held k (changed 0 Doubts k.held)) p.0 live.some p.1 in
    (holding it.0 k.held, (it.0, it.1, refl), (p.0, subst (λ (h : HeldOf ℕ). IsOneOf p.0 h.now) (from_changed it.0 0 Doubts k.held) it.2, p.2))
step_from k live Ended h' p = let it = ended_from k p.0 live.some p.1 in (holding it.0 k.held, (it.0, it.1, refl), (p.0, it.2, p.2))

-- ALL OF THEM

abbrev LeadAll : Knowledge → List Event → HeldOf ℕ → Type 0
LeadAll k events h' = (h : HeldOf ℕ) × IsKnown k h × HappenAll h events h'

abbrev judged_on : Option Knowledge → List Event → Option Knowledge
judged_on o events = elim o [ Some k' ↦ judged k' events | None ↦ None ]

judge_to : (k : Knowledge) (events : List Event) (h' : HeldOf ℕ) → LeadAll k events h' → IsKnownAs (judged k events) h'
judge_to k [] h' l = subst (λ (h : HeldOf ℕ). IsKnown k h) (sym l.2) l.1
judge_to k (event ∷ events) h' l = on (next k event) (step_to k event l.2.0 (l.0, l.1, l.2.1)) l.2.2 (λ k'. judge_to k' events h')
  where
    on : (o : Option Knowledge) → IsKnownAs o l.2.0 → HappenAll l.2.0 events h' → ((k' : Knowledge) → LeadAll k' events h' → IsKnownAs (judged k' events) h') → IsKnownAs (judged_on o events) h'
    on None p more again = absurd p
    on (Some k') p more again = again k' (l.2.0, p, more)

judge_from : (k : Knowledge) (live : IsLive k) (events : List Event) (h' : HeldOf ℕ) → IsKnownAs (judged k events) h' → LeadAll k events h'
judge_from k live [] h' p = (h', p, refl)
judge_from k live (event ∷ events) h' p = on (next k event) refl (next_live k event live) p (λ k' l. judge_from k' l events h')
  where
    on : (o : Option Knowledge) → next k event ≡ o → AreLive o → IsKnownAs (judged_on o events) h' → ((k' : Knowledge) → IsLive k' → IsKnownAs (judged k' events) h' → LeadAll k' events h') → LeadAll k (event ∷ events) h'
    on None is l q again = absurd q
    on (Some k') is l q again =
        let rest : LeadAll k' events h' = again k' l q in
        let first : Leads k event rest.0 = step_from k live event rest.0 (subst (λ (o : Option Knowledge). IsKnownAs o rest.0) (sym is) rest.1) in
        (first.0, first.1, (rest.0, first.2, rest.2))

judge_live : (k : Knowledge) (live : IsLive k) (events : List Event) → AreLive (judged k events)
judge_live k live [] = live
judge_live k live (event ∷ events) = on (next k event) (next_live k event live) (λ k' l. judge_live k' l events)
  where
    on : (o : Option Knowledge) → AreLive o → ((k' : Knowledge) → IsLive k' → AreLive (judged k' events)) → AreLive (judged_on o events)
    on None l again = tt
    on (Some k') l again = again k' l

nothing_live : IsLive nothing_known
nothing_live = record { some = (0, inl refl); now = tt }

pub judges_exactly : (events : List Event) (h' : HeldOf ℕ) → ((first : ℕ) × HappenAll (surely first) events h') ↔ IsKnownAs (judged nothing_known events) h'
judges_exactly events h' = (
  λ l. judge_to nothing_known events h' (surely l.0, (l.0, inl refl, refl), l.1),
  λ p. let it : LeadAll nothing_known events h' = judge_from nothing_known nothing_live events h' p in (it.1.0, subst (λ (h : HeldOf ℕ). HappenAll h events h') it.1.2 it.2),
)

-- VERDICTS

pub none_never : (events : List Event) → judged nothing_known events ≡ None → CanHappen events → ⊥
none_never events none can = subst (λ (o : Option Knowledge). IsKnownAs o can.1) none ((judges_exactly events can.1).0 (can.0, can.2))

pub some_can : (events : List Event) (k : Knowledge) → judged nothing_known events ≡ Some k → CanHappen events
some_can events k some =
    let l : IsLive k = subst AreLive some (judge_live nothing_known nothing_live events) in
    let h' : HeldOf ℕ = holding l.some.0 k.held in
    let it = (judges_exactly events h').1 (subst (λ (o : Option Knowledge). IsKnownAs o h') (sym some) (l.some.0, l.some.1, refl)) in
    (it.0, h', it.1)

-- one event more
judged_more : (k : Knowledge) (events : List Event) (event : Event) (o : Option Knowledge) → judged k events ≡ o → judged k (events ++ event ∷ []) ≡ judged_on o (event ∷ [])
judged_more k [] event o e = subst (λ (o : Option Knowledge). judged_on (next k event) [] ≡ judged_on o (event ∷ [])) e refl
judged_more k (one ∷ events) event o e = on (next k one) e (λ k'. judged_more k' events event o)
  where
    on : (first : Option Knowledge) → judged_on first events ≡ o → ((k' : Knowledge) → judged k' events ≡ o → judged k' (events ++ event ∷ []) ≡ judged_on o (event ∷ [])) → judged_on first (events ++ event ∷ []) ≡ judged_on o (event ∷ [])
    on None e again = subst (λ (o : Option Knowledge). None ≡ judged_on o (event ∷ [])) e refl
    on (Some k') e again = again k' e

itself : (o : Option Knowledge) → judged_on o [] ≡ o
itself None = refl
itself (Some k) = refl

pub taken_next : (events : List Event) (event : Event) (k : Knowledge) → judged nothing_known events ≡ Some k → judged nothing_known (events ++ event ∷ []) ≡ next k event
taken_next events event k e = judged_more nothing_known events event (Some k) e ∙ itself (next k event)

one_more : (events : List Event) (index : ℕ) (d : Event) → index < length events → take (index + 1) events ≡ take index events ++ get_or events index d ∷ []
one_more events index d low = let e : index + 1 ≡ suc index = omega arith in ap (λ (n : ℕ). take n events) e ∙ take-suc events index d low

-- what taking an event tells
abbrev pub Takes : Bool → Knowledge → Event → Knowledge → Type 0
Takes taken k event k' = MatchBool taken (next k event ≡ Some k') (next k event ≡ None)

pub refused : (events : List Event) (index : ℕ) (d : Event) (k k' : Knowledge) (taken : Bool) → index < length events → judged nothing_known (take index events) ≡ Some k → Takes taken k (get_or events index d) k' → taken ≡ false
    → IsRefusal events (index + 1)
refused events index d k k' true low so_far takes e = absurd (cc (e))
refused events index d k k' false low so_far none e = record {
  within = omega (arith, low);
  never = none_never (take (index + 1) events) (subst (λ (es : List Event). judged nothing_known es ≡ None) (sym (one_more events index d low)) (taken_next (take index events) (get_or events index d) k so_far ∙ none));
}

pub taken : (events : List Event) (index : ℕ) (d : Event) (k k' : Knowledge) (taken : Bool) → index < length events → judged nothing_known (take index events) ≡ Some k → Takes taken k (get_or events index d) k' → taken ≡ true
    → judged nothing_known (take (index + 1) events) ≡ Some k'
taken events index d k k' true low so_far some e =
    subst (λ (es : List Event). judged nothing_known es ≡ Some k') (sym (one_more events index d low)) (taken_next (take index events) (get_or events index d) k so_far ∙ some)
taken events index d k k' false low so_far none e = absurd (cc (e))

pub passed : (events : List Event) (index : ℕ) (k : Knowledge) → length events ≤ index → judged nothing_known (take index events) ≡ Some k → CanHappen events
passed events index k high so_far = some_can events k (subst (λ (es : List Event). judged nothing_known es ≡ Some k) (take_all index events high) so_far)
