-- What the machine's table says of a sector, within what its schedule says: each value that a read may give or a loss may leave. Pieces
-- date the one, requests the other.
use Rattle.std.proofs.Common.{◌≡◌, ◌<◌, ◌≤◌, ◌⊎◌, inl, inr, ℕ, suc, Bool, true, false, cond, List, [], ◌∷◌, ◌++◌, refl, sym, subst, arith, map}
use Rattle.std.specs.Prelude.{nat_lt}
use Rattle.std.specs.List.{filter}
use Rattle.std.proofs.lemmas.Bool.{cases_lt}
use Rattle.std.proofs.lemmas.Bool.Decides.{leb_tells}
use Rattle.loss.specs.Held.{Change, Puts, Secures, Tries, Syncs, Doubts, Held, IsOneOf, OlderOf, changed, changed_by, left, outlives, overwritten, surely, value_of}
use Rattle.loss.specs.Laws.{Each}
use Rattle.history_loss.proofs.Mirroring.{Ending}

abbrev pub Older : Type 0
Older = OlderOf (List ℕ)

abbrev pub AllOlder : (Older → Type 0) → List Older → Type 0
AllOlder P [] = Unit {0}
AllOlder P (o ∷ os) = P o × AllOlder P os

-- the value was overwritten at this moment or later
abbrev pub StaysIn : ℕ → List ℕ → List Older → Type 0
StaysIn c v [] = ⊥
StaysIn c v (o ∷ os) = ((v ≡ o.value) × (c ≤ o.behind)) ⊎ StaysIn c v os

-- or it stands there
abbrev pub Stays : ℕ → List ℕ → Held → Type 0
Stays c v h = IsOneOf v h.now ⊎ StaysIn c v h.older

-- what was overwritten from this piece on stays behind the end of the flush of this number
abbrev pub Ends : Held → Held → Ending
Ends t h from number = AllOlder (λ o. from ≤ o.behind → Stays (suc number) o.value h) t.older

-- what t has, h has
pub record Holds (next : ℕ) (t h : Held) : Type 0 where
  pub now : (v : List ℕ) → IsOneOf v t.now → IsOneOf v h.now
  pub older : AllOlder (λ o. Stays 0 o.value h) t.older
  pub before : AllOlder (λ o. o.behind ≤ next) t.older

-- what h has, h' has
pub record Grows (next : ℕ) (h h' : Held) : Type 0 where
  pub now : (v : List ℕ) → IsOneOf v h.now → IsOneOf v h'.now
  pub stays : (c : ℕ) (v : List ℕ) → c ≤ next → Stays c v h → Stays c v h'

-- LISTS

pub one_of_either : (v : List ℕ) (xs ys : List (List ℕ)) → IsOneOf v (xs ++ ys) → IsOneOf v xs ⊎ IsOneOf v ys
one_of_either v [] ys p = inr p
one_of_either v (x ∷ xs) ys (inl e) = inl (inl e)
one_of_either v (x ∷ xs) ys (inr p) = elim (one_of_either v xs ys p) [ inl q ↦ inl (inr q) | inr q ↦ inr q ]

pub one_of_first : (v : List ℕ) (xs ys : List (List ℕ)) → IsOneOf v xs → IsOneOf v (xs ++ ys)
one_of_first v [] ys p = absurd p
one_of_first v (x ∷ xs) ys (inl e) = inl e
one_of_first v (x ∷ xs) ys (inr p) = inr (one_of_first v xs ys p)

pub one_of_second : (v : List ℕ) (xs ys : List (List ℕ)) → IsOneOf v ys → IsOneOf v (xs ++ ys)
one_of_second v [] ys p = p
one_of_second v (x ∷ xs) ys p = inr (one_of_second v xs ys p)

pub all_older : (P Q : Older → Type 0) → ((o : Older) → P o → Q o) → (os : List Older) → AllOlder P os → AllOlder Q os
all_older P Q f [] all = tt
all_older P Q f (o ∷ os) all = (f o all.0, all_older P Q f os all.1)

pub both_older : (P P' Q : Older → Type 0) → ((o : Older) → P o → P' o → Q o) → (os : List Older) → AllOlder P os → AllOlder P' os → AllOlder Q os
both_older P P' Q f [] all all' = tt
both_older P P' Q f (o ∷ os) all all' = (f o all.0 all'.0, both_older P P' Q f os all.1 all'.1)

pub join_older : (P : Older → Type 0) (os os' : List Older) → AllOlder P os → AllOlder P os' → AllOlder P (os ++ os')
join_older P [] os' all all' = all'
join_older P (o ∷ os) os' all all' = (all.0, join_older P os os' all.1 all')

pub new_older : (P : Older → Type 0) (next : ℕ) (xs : List (List ℕ)) → ((v : List ℕ) → IsOneOf v xs → P (overwritten next v)) → AllOlder P (map (overwritten next) xs)
new_older P next [] each = tt
new_older P next (x ∷ xs) each = (each x (inl refl), new_older P next xs (λ v p. each v (inr p)))

-- what a flush keeps was overwritten behind its start
pub kept_older : (P Q : Older → Type 0) (flush : ℕ) → ((o : Older) → flush < o.behind → P o → Q o) → (os : List Older) → AllOlder P os → AllOlder Q (filter (outlives flush) os)
kept_older P Q flush f [] all = tt
kept_older P Q flush f (o ∷ os) all = by_age (leb_tells (suc flush) o.behind) (kept_older P Q flush f os all.1)
  where
    from : (b : Bool) → nat_lt flush o.behind ≡ b → AllOlder Q (cond b (o ∷ filter (outlives flush) os) (filter (outlives flush) os)) → AllOlder Q (filter (outlives flush) (o ∷ os))
    from b e h = subst (λ (b : Bool). AllOlder Q (cond b (o ∷ filter (outlives flush) os) (filter (outlives flush) os))) (sym e) h

    by_age : ((nat_lt flush o.behind ≡ true) × (suc flush ≤ o.behind)) ⊎ ((nat_lt flush o.behind ≡ false) × (o.behind < suc flush)) → AllOlder Q (filter (outlives flush) os) → AllOlder Q (filter (outlives flush) (o ∷ os))
    by_age (inl late) rest = from true late.0 (f o (omega (arith, late.1)) all.0, rest)
    by_age (inr early) rest = from false early.0 rest

-- VALUES THAT STAY

less : (c c' : ℕ) (v : List ℕ) (os : List Older) → c' ≤ c → StaysIn c v os → StaysIn c' v os
less c c' v [] low p = p
less c c' v (o ∷ os) low (inl (e, late)) = inl (e, omega arith)
less c c' v (o ∷ os) low (inr p) = inr (less c c' v os low p)

pub stays_less : (c c' : ℕ) (v : List ℕ) (h : Held) → c' ≤ c → Stays c v h → Stays c' v h
stays_less c c' v h low (inl p) = inl p
stays_less c c' v h low (inr p) = inr (less c c' v h.older low p)

stays_first : (c : ℕ) (v : List ℕ) (os os' : List Older) → StaysIn c v os → StaysIn c v (os ++ os')
stays_first c v [] os' p = absurd p
stays_first c v (o ∷ os) os' (inl p) = inl p
stays_first c v (o ∷ os) os' (inr p) = inr (stays_first c v os os' p)

stays_second : (c : ℕ) (v : List ℕ) (os os' : List Older) → StaysIn c v os' → StaysIn c v (os ++ os')
stays_second c v [] os' p = p
stays_second c v (o ∷ os) os' p = inr (stays_second c v os os' p)

stays_new : (c next : ℕ) (v : List ℕ) (xs : List (List ℕ)) → c ≤ next → IsOneOf v xs → StaysIn c v (map (overwritten next) xs)
stays_new c next v [] low p = absurd p
stays_new c next v (x ∷ xs) low (inl e) = inl (e, low)
stays_new c next v (x ∷ xs) low (inr p) = inr (stays_new c next v xs low p)

stays_kept : (c flush : ℕ) (v : List ℕ) (os : List Older) → flush < c → StaysIn c v os → StaysIn c v (filter (outlives flush) os)
stays_kept c flush v [] low p = p
stays_kept c flush v (o ∷ os) low p = by_age (leb_tells (suc flush) o.behind) (λ q. stays_kept c flush v os low q) p
  where
    from : (b : Bool) → nat_lt flush o.behind ≡ b → StaysIn c v (cond b (o ∷ filter (outlives flush) os) (filter (outlives flush) os)) → StaysIn c v (filter (outlives flush) (o ∷ os))
    from b e h = subst (λ (b : Bool). StaysIn c v (cond b (o ∷ filter (outlives flush) os) (filter (outlives flush) os))) (sym e) h

    by_age : ((nat_lt flush o.behind ≡ true) × (suc flush ≤ o.behind)) ⊎ ((nat_lt flush o.behind ≡ false) × (o.behind < suc flush)) → (StaysIn c v os → StaysIn c v (filter (outlives flush) os)) → StaysIn c v (o ∷ os) → StaysIn c v (filter (outlives flush) (o ∷ os))
    by_age (inl late) rest (inl q) = from true late.0 (inl q)
    by_age (inl late) rest (inr q) = from true late.0 (inr (rest q))
    by_age (inr early) rest (inl (e, late)) = let gone = early.1 in absurd (omega arith)
    by_age (inr early) rest (inr q) = from false early.0 (rest q)

older_value : (c : ℕ) (v : List ℕ) (os : List Older) → StaysIn c v os → IsOneOf v (map value_of os)
older_value c v [] p = p
older_value c v (o ∷ os) (inl p) = inl p.0
older_value c v (o ∷ os) (inr p) = inr (older_value c v os p)

pub to_left : (c : ℕ) (v : List ℕ) (h : Held) → Stays c v h → IsOneOf v (left h)
to_left c v h (inl p) = one_of_first v h.now (map value_of h.older) p
to_left c v h (inr p) = one_of_second v h.now (map value_of h.older) (older_value c v h.older p)

-- WHAT GROWS

pub grows_none : (next : ℕ) (h : Held) → Grows next h h
grows_none next h = record { now = λ v p. p; stays = λ c v low p. p }

pub grows_then : (next : ℕ) (a b c : Held) → Grows next a b → Grows next b c → Grows next a c
grows_then next a b c f g = record { now = λ v p. g.now v (f.now v p); stays = λ n v low p. g.stays n v low (f.stays n v low p) }

-- what a failure does
abbrev pub IsFailing : Change → Type 0
IsFailing (Tries value) = Unit {0}
IsFailing Doubts = Unit {0}
IsFailing _ = ⊥

pub grows_by : (next : ℕ) (change : Change) (h : Held) → IsFailing change → Grows next h (changed next change h)
grows_by next (Tries x) h failing = record {
  now = λ v p. one_of_first v h.now (x ∷ []) p;
  stays = λ c v low p. elim p [ inl q ↦ inl (one_of_first v h.now (x ∷ []) q) | inr q ↦ inr q ];
}
grows_by next Doubts h failing = record {
  now = λ v p. one_of_first v h.now (map value_of h.older) p;
  stays = λ c v low p. inl (to_left c v h p);
}
grows_by next (Puts x) h failing = absurd failing
grows_by next (Secures x) h failing = absurd failing
grows_by next (Syncs n) h failing = absurd failing

pub grows_failing : (next : ℕ) (changes : List Change) (h : Held) → Each IsFailing changes → Grows next h (changed_by next changes h)
grows_failing next [] h failing = grows_none next h
grows_failing next (change ∷ changes) h failing =
    grows_then next h (changed next change h) (changed_by next changes (changed next change h)) (grows_by next change h failing.0) (grows_failing next changes (changed next change h) failing.1)

module _ (next again : ℕ) (t h h' : Held) (grows : Grows again h h') where
  pub holds_grows : Holds next t h → Holds next t h'
  holds_grows holds = record {
    now = λ v p. grows.now v (holds.now v p);
    older = all_older (λ o. Stays 0 o.value h) (λ o. Stays 0 o.value h') (λ o p. grows.stays 0 o.value (omega arith) p) t.older holds.older;
    before = holds.before;
  }

  pub ends_grows : (from number : ℕ) → suc number ≤ again → Ends t h from number → Ends t h' from number
  ends_grows from number low ends =
      all_older (λ o. from ≤ o.behind → Stays (suc number) o.value h) (λ o. from ≤ o.behind → Stays (suc number) o.value h') (λ o p late. grows.stays (suc number) o.value low (p late)) t.older ends

-- BOTH FAIL

one_older : (v : List ℕ) (h : Held) (os : List Older) → AllOlder (λ o. Stays 0 o.value h) os → IsOneOf v (map value_of os) → Stays 0 v h
one_older v h [] all p = absurd p
one_older v h (o ∷ os) all (inl e) = subst (λ x. Stays 0 x h) (sym e) all.0
one_older v h (o ∷ os) all (inr p) = one_older v h os all.1 p

-- a loss leaves of t what it may leave of h
pub holds_left : (next : ℕ) (t h : Held) → Holds next t h → (v : List ℕ) → IsOneOf v (left t) → IsOneOf v (left h)
holds_left next t h holds v p = elim (one_of_either v t.now (map value_of t.older) p) [
  | inl q ↦ one_of_first v h.now (map value_of h.older) (holds.now v q)
  | inr q ↦ to_left 0 v h (one_older v h t.older holds.older q)
]

module _ (next again : ℕ) where
  both_by : (change : Change) (t h : Held) → IsFailing change → Holds next t h → Holds next (changed next change t) (changed again change h)
  both_by (Tries x) t h failing holds = record {
    now = λ v p. elim (one_of_either v t.now (x ∷ []) p) [ inl q ↦ one_of_first v h.now (x ∷ []) (holds.now v q) | inr q ↦ one_of_second v h.now (x ∷ []) q ];
    older = (holds_grows next again t h (changed again (Tries x) h) (grows_by again (Tries x) h tt) holds).older;
    before = holds.before;
  }
  both_by Doubts t h failing holds = record {
    now = λ v p. elim (one_of_either v t.now (map value_of t.older) p) [ inl q ↦ one_of_first v h.now (map value_of h.older) (holds.now v q) | inr q ↦ to_left 0 v h (one_older v h t.older holds.older q) ];
    older = tt;
    before = tt;
  }
  both_by (Puts x) t h failing holds = absurd failing
  both_by (Secures x) t h failing holds = absurd failing
  both_by (Syncs n) t h failing holds = absurd failing

  ends_by : (change : Change) (t h : Held) → IsFailing change → (from number : ℕ) → suc number ≤ again → Ends t h from number → Ends (changed next change t) (changed again change h) from number
  ends_by (Tries x) t h failing from number low ends = ends_grows next again t h (changed again (Tries x) h) (grows_by again (Tries x) h tt) from number low ends
  ends_by Doubts t h failing from number low ends = tt
  ends_by (Puts x) t h failing from number low ends = absurd failing
  ends_by (Secures x) t h failing from number low ends = absurd failing
  ends_by (Syncs n) t h failing from number low ends = absurd failing

  pub both_failing : (changes : List Change) (t h : Held) → Each IsFailing changes → Holds next t h → Holds next (changed_by next changes t) (changed_by again changes h)
  both_failing [] t h failing holds = holds
  both_failing (change ∷ changes) t h failing holds = both_failing changes (changed next change t) (changed again change h) failing.1 (both_by change t h failing.0 holds)

  pub ends_failing : (changes : List Change) (t h : Held) → Each IsFailing changes → (from number : ℕ) → suc number ≤ again → Ends t h from number → Ends (changed_by next changes t) (changed_by again changes h) from number
  ends_failing [] t h failing from number low ends = ends
  ends_failing (change ∷ changes) t h failing from number low ends = ends_failing changes (changed next change t) (changed again change h) failing.1 from number low (ends_by change t h failing.0 from number low ends)

  -- BOTH ARE WRITTEN

  pub stays_put : (c : ℕ) (v x : List ℕ) (h : Held) → c ≤ again → Stays c v h → Stays c v (changed again (Puts x) h)
  stays_put c v x h low (inl p) = inr (stays_second c v h.older (map (overwritten again) h.now) (stays_new c again v h.now low p))
  stays_put c v x h low (inr p) = inr (stays_first c v h.older (map (overwritten again) h.now) p)

  pub both_put : (x : List ℕ) (t h : Held) → Holds next t h → Holds next (changed next (Puts x) t) (changed again (Puts x) h)
  both_put x t h holds = record {
    now = λ v p. p;
    older = join_older (λ o. Stays 0 o.value (changed again (Puts x) h)) t.older (map (overwritten next) t.now)
        (all_older (λ o. Stays 0 o.value h) (λ o. Stays 0 o.value (changed again (Puts x) h)) (λ o p. stays_put 0 o.value x h (omega arith) p) t.older holds.older)
        (new_older (λ o. Stays 0 o.value (changed again (Puts x) h)) next t.now (λ v p. stays_put 0 v x h (omega arith) (inl (holds.now v p))));
    before = join_older (λ o. o.behind ≤ next) t.older (map (overwritten next) t.now) holds.before (new_older (λ o. o.behind ≤ next) next t.now (λ v p. omega arith));
  }

  pub ends_put : (x : List ℕ) (t h : Held) → Holds next t h → (from number : ℕ) → suc number ≤ again → Ends t h from number → Ends (changed next (Puts x) t) (changed again (Puts x) h) from number
  ends_put x t h holds from number low ends =
      join_older (λ o. from ≤ o.behind → Stays (suc number) o.value (changed again (Puts x) h)) t.older (map (overwritten next) t.now)
      (all_older (λ o. from ≤ o.behind → Stays (suc number) o.value h) (λ o. from ≤ o.behind → Stays (suc number) o.value (changed again (Puts x) h))
      (λ o p late. stays_put (suc number) o.value x h low (p late)) t.older ends)
      (new_older (λ o. from ≤ o.behind → Stays (suc number) o.value (changed again (Puts x) h)) next t.now (λ v p late. stays_put (suc number) v x h low (inl (holds.now v p))))

-- both surely hold a value
pub both_surely : (next : ℕ) (x : List ℕ) → Holds next (surely x) (surely x)
both_surely next x = record { now = λ v p. p; older = tt; before = tt }

-- FLUSHES

module _ (next : ℕ) (t h : Held) where
  -- a flush's piece acts: the table drops what was overwritten before it started
  pub sync_holds : (flush : ℕ) → Holds next t h → Holds next (changed next (Syncs flush) t) h
  sync_holds flush holds = record {
    now = holds.now;
    older = kept_older (λ o. Stays 0 o.value h) (λ o. Stays 0 o.value h) flush (λ o late p. p) t.older holds.older;
    before = kept_older (λ o. o.behind ≤ next) (λ o. o.behind ≤ next) flush (λ o late p. p) t.older holds.before;
  }

  pub sync_ends : (flush from number : ℕ) → Ends t h from number → Ends (changed next (Syncs flush) t) h from number
  sync_ends flush from number ends =
      kept_older (λ o. from ≤ o.behind → Stays (suc number) o.value h) (λ o. from ≤ o.behind → Stays (suc number) o.value h) flush (λ o late p. p) t.older ends

  pub sync_starts : (flush number : ℕ) → Ends t h (suc flush) number → Ends (changed next (Syncs flush) t) h 0 number
  sync_starts flush number ends =
      kept_older (λ o. suc flush ≤ o.behind → Stays (suc number) o.value h) (λ o. 0 ≤ o.behind → Stays (suc number) o.value h) flush (λ o late p from. p (omega (arith, late))) t.older ends

  pub stays_synced : (again c number : ℕ) (v : List ℕ) → number < c → Stays c v h → Stays c v (changed again (Syncs number) h)
  stays_synced again c number v low (inl p) = inl p
  stays_synced again c number v low (inr p) = inr (stays_kept c number v h.older low p)

  -- it is answered SUCCESS: the schedule drops what was overwritten before it was called
  pub answer_holds : (again number : ℕ) → Ends t h 0 number → Holds next t h → Holds next t (changed again (Syncs number) h)
  answer_holds again number ends holds = record {
    now = holds.now;
    older = all_older (λ o. 0 ≤ o.behind → Stays (suc number) o.value h) (λ o. Stays 0 o.value (changed again (Syncs number) h))
        (λ o p. stays_less (suc number) 0 o.value (changed again (Syncs number) h) (omega arith) (stays_synced again (suc number) number o.value (omega arith) (p (omega arith)))) t.older ends;
    before = holds.before;
  }

  pub answer_ends : (again number : ℕ) → Ends t h 0 number → (from other : ℕ) → Ends t h from other → Ends t (changed again (Syncs number) h) from other
  answer_ends again number ends from other others =
      both_older (λ o. 0 ≤ o.behind → Stays (suc number) o.value h) (λ o. from ≤ o.behind → Stays (suc other) o.value h) (λ o. from ≤ o.behind → Stays (suc other) o.value (changed again (Syncs number) h))
      (λ o p p' late. later o.value (p (omega arith)) (p' late)) t.older ends others
    where
      later : (v : List ℕ) → Stays (suc number) v h → Stays (suc other) v h → Stays (suc other) v (changed again (Syncs number) h)
      later v mine its =
          elim (cases_lt number (suc other)) [
            | inl low ↦ stays_synced again (suc other) number v low its
            | inr high ↦ stays_less (suc number) (suc other) v (changed again (Syncs number) h) (omega (arith, high)) (stays_synced again (suc number) number v (omega arith) mine)
          ]

  -- later pieces
  pub later_holds : (more : ℕ) → next ≤ more → Holds next t h → Holds more t h
  later_holds more low holds = record { now = holds.now; older = holds.older; before = all_older (λ o. o.behind ≤ next) (λ o. o.behind ≤ more) (λ o p. omega (arith, p, low)) t.older holds.before }

  -- what was overwritten before a piece starts is no matter of it
  pub started_ends : Holds next t h → (number : ℕ) → Ends t h (suc next) number
  started_ends holds number = all_older (λ o. o.behind ≤ next) (λ o. suc next ≤ o.behind → Stays (suc number) o.value h) (λ o p late. absurd (omega (arith, p, late))) t.older holds.before
