-- What a schedule says of a sector, within what the machine's table says of it, while these flushes are out.
use Rattle.std.proofs.Common.{◌≡◌, ◌<◌, ◌≤◌, ◌⊎◌, inl, inr, ℕ, suc, Bool, true, false, cond, List, [], ◌∷◌, ◌++◌, sym, subst, arith, map}
use Rattle.std.specs.Prelude.{All, Contains, nat_lt, if◌then◌else◌}
use Rattle.std.specs.List.{filter}
use Rattle.std.proofs.lemmas.Bool.Decides.{leb_tells}
use Rattle.std.proofs.lemmas.List.Elements.{All-cons, All-contains, All-weaker}
use Rattle.machine.specs.State.{Piece}
use Rattle.loss.specs.Held.{Change, Puts, Secures, Tries, Syncs, Doubts, Held, IsOneOf, changed, changed_by, left, outlives, overwritten, surely, value_of}
use Rattle.loss.specs.Laws.{Each}
use Rattle.history_loss.proofs.Holding.{AllOlder, IsFailing, Older, all_older, both_older, join_older, kept_older, new_older, one_of_either, one_of_first, one_of_second}

-- no flush that is out, of a request called before the one date, started behind the other
abbrev pub IsAfter : List Piece → ℕ → ℕ → Type 0
IsAfter outs date behind = All (λ p. p.owner < date → p.number < behind) outs

abbrev pub FoundIn : List Piece → List ℕ → ℕ → List Older → Type 0
FoundIn outs v date [] = ⊥
FoundIn outs v date (o ∷ os) = ((v ≡ o.value) × IsAfter outs date o.behind) ⊎ FoundIn outs v date os

-- a value that was overwritten then
abbrev pub Found : List Piece → List ℕ → ℕ → Held → Type 0
Found outs v date t = IsOneOf v t.now ⊎ FoundIn outs v date t.older

-- what h has, t has
pub record Has (outs : List Piece) (t h : Held) : Type 0 where
  pub now : (v : List ℕ) → IsOneOf v h.now → IsOneOf v t.now
  pub older : AllOlder (λ o. Found outs o.value o.behind t) h.older

pub has_surely : (outs : List Piece) (v : List ℕ) → Has outs (surely v) (surely v)
has_surely outs v = record { now = λ w p. p; older = tt }

-- LEFT

found_value : (outs : List Piece) (v : List ℕ) (date : ℕ) (os : List Older) → FoundIn outs v date os → IsOneOf v (map value_of os)
found_value outs v date [] p = p
found_value outs v date (o ∷ os) (inl p) = inl p.0
found_value outs v date (o ∷ os) (inr p) = inr (found_value outs v date os p)

found_left : (outs : List Piece) (v : List ℕ) (date : ℕ) (t : Held) → Found outs v date t → IsOneOf v (left t)
found_left outs v date t (inl p) = one_of_first v t.now (map value_of t.older) p
found_left outs v date t (inr p) = one_of_second v t.now (map value_of t.older) (found_value outs v date t.older p)

one_left : (outs : List Piece) (t : Held) (v : List ℕ) (os : List Older) → AllOlder (λ o. Found outs o.value o.behind t) os → IsOneOf v (map value_of os) → IsOneOf v (left t)
one_left outs t v [] all p = absurd p
one_left outs t v (o ∷ os) all (inl e) = subst (λ x. IsOneOf x (left t)) (sym e) (found_left outs o.value o.behind t all.0)
one_left outs t v (o ∷ os) all (inr p) = one_left outs t v os all.1 p

pub has_left : (outs : List Piece) (t h : Held) → Has outs t h → (v : List ℕ) → IsOneOf v (left h) → IsOneOf v (left t)
has_left outs t h has v p = elim (one_of_either v h.now (map value_of h.older) p) [
  | inl q ↦ one_of_first v t.now (map value_of t.older) (has.now v q)
  | inr q ↦ one_left outs t v h.older has.older q
]

-- WRITTEN

found_first : (outs : List Piece) (v : List ℕ) (date : ℕ) (os os' : List Older) → FoundIn outs v date os → FoundIn outs v date (os ++ os')
found_first outs v date [] os' p = absurd p
found_first outs v date (o ∷ os) os' (inl p) = inl p
found_first outs v date (o ∷ os) os' (inr p) = inr (found_first outs v date os os' p)

found_second : (outs : List Piece) (v : List ℕ) (date : ℕ) (os os' : List Older) → FoundIn outs v date os' → FoundIn outs v date (os ++ os')
found_second outs v date [] os' p = p
found_second outs v date (o ∷ os) os' p = inr (found_second outs v date os os' p)

module _ (outs : List Piece) (next again : ℕ) (sent : All (λ p. p.number < next) outs) where
  all_after : (date : ℕ) → IsAfter outs date next
  all_after date = All-weaker (λ p. p.number < next) (λ p. p.owner < date → p.number < next) (λ p low before. low) outs sent

  found_new : (v : List ℕ) (date : ℕ) (xs : List (List ℕ)) → IsOneOf v xs → FoundIn outs v date (map (overwritten next) xs)
  found_new v date [] p = absurd p
  found_new v date (x ∷ xs) (inl e) = inl (e, all_after date)
  found_new v date (x ∷ xs) (inr p) = inr (found_new v date xs p)

  found_put : (v x : List ℕ) (date : ℕ) (t : Held) → Found outs v date t → Found outs v date (changed next (Puts x) t)
  found_put v x date t (inl p) = inr (found_second outs v date t.older (map (overwritten next) t.now) (found_new v date t.now p))
  found_put v x date t (inr p) = inr (found_first outs v date t.older (map (overwritten next) t.now) p)

  has_put : (x : List ℕ) (t h : Held) → Has outs t h → Has outs (changed next (Puts x) t) (changed again (Puts x) h)
  has_put x t h has = record {
    now = λ v p. p;
    older = join_older (λ o. Found outs o.value o.behind (changed next (Puts x) t)) h.older (map (overwritten again) h.now)
        (all_older (λ o. Found outs o.value o.behind t) (λ o. Found outs o.value o.behind (changed next (Puts x) t)) (λ o p. found_put o.value x o.behind t p) h.older has.older)
        (new_older (λ o. Found outs o.value o.behind (changed next (Puts x) t)) again h.now (λ v p. found_put v x again t (inl (has.now v p))));
  }

  pub has_written : (x : List ℕ) (t h : Held) (through : Bool) → Has outs t h → Has outs (changed next (if through then Secures x else Puts x) t) (changed again (if through then Secures x else Puts x) h)
  has_written x t h true has = has_surely outs x
  has_written x t h false has = has_put x t h has

-- FAILED

module _ (outs : List Piece) (next : ℕ) where
  found_failing : (change : Change) (t : Held) (v : List ℕ) (date : ℕ) → IsFailing change → Found outs v date t → Found outs v date (changed next change t)
  found_failing (Tries x) t v date f (inl p) = inl (one_of_first v t.now (x ∷ []) p)
  found_failing (Tries x) t v date f (inr p) = inr p
  found_failing Doubts t v date f p = inl (found_left outs v date t p)
  found_failing (Puts x) t v date f p = absurd f
  found_failing (Secures x) t v date f p = absurd f
  found_failing (Syncs n) t v date f p = absurd f

  now_failing : (change : Change) (t : Held) (v : List ℕ) → IsFailing change → IsOneOf v t.now → IsOneOf v (changed next change t).now
  now_failing (Tries x) t v f p = one_of_first v t.now (x ∷ []) p
  now_failing Doubts t v f p = one_of_first v t.now (map value_of t.older) p
  now_failing (Puts x) t v f p = absurd f
  now_failing (Secures x) t v f p = absurd f
  now_failing (Syncs n) t v f p = absurd f

  -- the table alone
  pub has_grown : (changes : List Change) (t h : Held) → Each IsFailing changes → Has outs t h → Has outs (changed_by next changes t) h
  has_grown [] t h f has = has
  has_grown (change ∷ changes) t h f has = has_grown changes (changed next change t) h f.1 (record {
    now = λ v p. now_failing change t v f.0 (has.now v p);
    older = all_older (λ o. Found outs o.value o.behind t) (λ o. Found outs o.value o.behind (changed next change t)) (λ o p. found_failing change t o.value o.behind f.0 p) h.older has.older;
  })

  both_fail : (again : ℕ) (change : Change) (t h : Held) → IsFailing change → Has outs t h → Has outs (changed next change t) (changed again change h)
  both_fail again (Tries x) t h f has = record {
    now = λ v p. elim (one_of_either v h.now (x ∷ []) p) [ inl q ↦ one_of_first v t.now (x ∷ []) (has.now v q) | inr q ↦ one_of_second v t.now (x ∷ []) q ];
    older = all_older (λ o. Found outs o.value o.behind t) (λ o. Found outs o.value o.behind (changed next (Tries x) t)) (λ o p. found_failing (Tries x) t o.value o.behind tt p) h.older has.older;
  }
  both_fail again Doubts t h f has = record { now = λ v p. has_left outs t h has v p; older = tt }
  both_fail again (Puts x) t h f has = absurd f
  both_fail again (Secures x) t h f has = absurd f
  both_fail again (Syncs n) t h f has = absurd f

  -- and both
  pub has_failed : (again : ℕ) (changes : List Change) (t h : Held) → Each IsFailing changes → Has outs t h → Has outs (changed_by next changes t) (changed_by again changes h)
  has_failed again [] t h f has = has
  has_failed again (change ∷ changes) t h f has = has_failed again changes (changed next change t) (changed again change h) f.1 (both_fail again change t h f.0 has)

-- FLUSHES

module _ (outs : List Piece) where
  found_kept : (flush : Piece) (date : ℕ) (v : List ℕ) (os : List Older) → Contains outs flush → flush.owner < date → FoundIn outs v date os → FoundIn outs v date (filter (outlives flush.number) os)
  found_kept flush date v [] out late p = p
  found_kept flush date v (o ∷ os) out late p = by_age (leb_tells (suc flush.number) o.behind) (λ q. found_kept flush date v os out late q) p
    where
      from : (b : Bool) → nat_lt flush.number o.behind ≡ b → FoundIn outs v date (cond b (o ∷ filter (outlives flush.number) os) (filter (outlives flush.number) os)) → FoundIn outs v date (filter (outlives flush.number) (o ∷ os))
      from b e h = subst (λ (b : Bool). FoundIn outs v date (cond b (o ∷ filter (outlives flush.number) os) (filter (outlives flush.number) os))) (sym e) h

      by_age : ((nat_lt flush.number o.behind ≡ true) × (suc flush.number ≤ o.behind)) ⊎ ((nat_lt flush.number o.behind ≡ false) × (o.behind < suc flush.number))
          → (FoundIn outs v date os → FoundIn outs v date (filter (outlives flush.number) os)) → FoundIn outs v date (o ∷ os) → FoundIn outs v date (filter (outlives flush.number) (o ∷ os))
      by_age (inl kept) rest (inl q) = from true kept.0 (inl q)
      by_age (inl kept) rest (inr q) = from true kept.0 (inr (rest q))
      by_age (inr gone) rest (inl (e, after)) =
          let more : flush.number < o.behind = All-contains (λ p. p.owner < date → p.number < o.behind) outs flush after out late in
          let less = gone.1 in
          absurd (omega arith)
      by_age (inr gone) rest (inr q) = from false gone.0 (rest q)

  -- a flush acts, and is answered SUCCESS
  pub has_synced : (next again : ℕ) (flush : Piece) (t h : Held) → Contains outs flush → Has outs t h → Has outs (changed next (Syncs flush.number) t) (changed again (Syncs flush.owner) h)
  has_synced next again flush t h out has = record {
    now = has.now;
    older = kept_older (λ o. Found outs o.value o.behind t) (λ o. Found outs o.value o.behind (changed next (Syncs flush.number) t)) flush.owner (λ o late p. kept o.value o.behind late p) h.older has.older;
  }
    where
      kept : (v : List ℕ) (date : ℕ) → flush.owner < date → Found outs v date t → Found outs v date (changed next (Syncs flush.number) t)
      kept v date late (inl p) = inl p
      kept v date late (inr p) = inr (found_kept flush date v t.older out late p)

-- fewer flushes are out
module _ (outs outs' : List Piece) (fewer : (Q : Piece → Type 0) → All Q outs → All Q outs') where
  found_fewer : (v : List ℕ) (date : ℕ) (os : List Older) → FoundIn outs v date os → FoundIn outs' v date os
  found_fewer v date [] p = p
  found_fewer v date (o ∷ os) (inl (e, after)) = inl (e, fewer (λ p. p.owner < date → p.number < o.behind) after)
  found_fewer v date (o ∷ os) (inr p) = inr (found_fewer v date os p)

  pub has_fewer : (t h : Held) → Has outs t h → Has outs' t h
  has_fewer t h has = record {
    now = has.now;
    older = all_older (λ o. Found outs o.value o.behind t) (λ o. Found outs' o.value o.behind t) (λ o p. elim p [ inl q ↦ inl q | inr q ↦ inr (found_fewer o.value o.behind t.older q) ]) h.older has.older;
  }

-- one more starts, right behind its call
module _ (outs : List Piece) (flush : Piece) where
  found_more : (v : List ℕ) (date : ℕ) (os : List Older) → date ≤ flush.owner → FoundIn outs v date os → FoundIn (flush ∷ outs) v date os
  found_more v date [] low p = p
  found_more v date (o ∷ os) low (inl (e, after)) = inl (e, All-cons (λ p. p.owner < date → p.number < o.behind) flush outs (λ late. absurd (omega (arith, late, low))) after)
  found_more v date (o ∷ os) low (inr p) = inr (found_more v date os low p)

  pub has_more : (t h : Held) → AllOlder (λ o. o.behind ≤ flush.owner) h.older → Has outs t h → Has (flush ∷ outs) t h
  has_more t h dated has = record {
    now = has.now;
    older = both_older (λ o. Found outs o.value o.behind t) (λ o. o.behind ≤ flush.owner) (λ o. Found (flush ∷ outs) o.value o.behind t)
        (λ o p low. elim p [ inl q ↦ inl q | inr q ↦ inr (found_more o.value o.behind t.older low q) ]) h.older has.older dated;
  }
