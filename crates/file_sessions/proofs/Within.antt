-- What holds no more than another.
use Rattle.std.proofs.Common.{◌≡◌, ◌<◌, ◌≤◌, ◌⊎◌, inl, inr, ℕ, suc, ◌+◌, Bool, true, false, List, [], ◌∷◌, ◌++◌, map, refl, subst, arith}
use Rattle.std.specs.Prelude.{if◌then◌else◌}
use Rattle.std.proofs.lemmas.Bool.Decides.{leb_tells}
use Rattle.loss.specs.Held.{Puts, Tries, Syncs, Doubts, Held, IsOneOf, OlderOf, Work, changed, has, left, overwritten, surely, value_at, value_of}
use Rattle.file_sessions.specs.Stored.{synced}
use Rattle.file_sessions.specs.Within.{IsWithin}

-- LISTS

pub of_either : (x : List ℕ) (xs ys : List (List ℕ)) → IsOneOf x (xs ++ ys) → IsOneOf x xs ⊎ IsOneOf x ys
of_either x [] ys p = inr p
of_either x (y ∷ xs) ys (inl e) = inl (inl e)
of_either x (y ∷ xs) ys (inr p) = elim (of_either x xs ys p) [ inl q ↦ inl (inr q) | inr q ↦ inr q ]

pub in_first : (x : List ℕ) (xs ys : List (List ℕ)) → IsOneOf x xs → IsOneOf x (xs ++ ys)
in_first x [] ys p = absurd p
in_first x (y ∷ xs) ys (inl e) = inl e
in_first x (y ∷ xs) ys (inr p) = inr (in_first x xs ys p)

pub in_second : (x : List ℕ) (xs ys : List (List ℕ)) → IsOneOf x ys → IsOneOf x (xs ++ ys)
in_second x [] ys p = p
in_second x (y ∷ xs) ys p = inr (in_second x xs ys p)

now_overwritten : (x : List ℕ) (next : ℕ) (xs : List (List ℕ)) → IsOneOf x xs → IsOneOf x (map value_of (map (overwritten next) xs))
now_overwritten x next [] p = p
now_overwritten x next (y ∷ xs) (inl e) = inl e
now_overwritten x next (y ∷ xs) (inr p) = inr (now_overwritten x next xs p)

of_overwritten : (x : List ℕ) (next : ℕ) (xs : List (List ℕ)) → IsOneOf x (map value_of (map (overwritten next) xs)) → IsOneOf x xs
of_overwritten x next [] p = p
of_overwritten x next (y ∷ xs) (inl e) = inl e
of_overwritten x next (y ∷ xs) (inr p) = inr (of_overwritten x next xs p)

older_first : (x : List ℕ) (os ps : List (OlderOf (List ℕ))) → IsOneOf x (map value_of os) → IsOneOf x (map value_of (os ++ ps))
older_first x [] ps p = absurd p
older_first x (o ∷ os) ps (inl e) = inl e
older_first x (o ∷ os) ps (inr p) = inr (older_first x os ps p)

older_second : (x : List ℕ) (os ps : List (OlderOf (List ℕ))) → IsOneOf x (map value_of ps) → IsOneOf x (map value_of (os ++ ps))
older_second x [] ps p = p
older_second x (o ∷ os) ps p = inr (older_second x os ps p)

older_either : (x : List ℕ) (os ps : List (OlderOf (List ℕ))) → IsOneOf x (map value_of (os ++ ps)) → IsOneOf x (map value_of os) ⊎ IsOneOf x (map value_of ps)
older_either x [] ps p = inr p
older_either x (o ∷ os) ps (inl e) = inl (inl e)
older_either x (o ∷ os) ps (inr p) = elim (older_either x os ps p) [ inl q ↦ inl (inr q) | inr q ↦ inr q ]

-- WHAT A CHANGE LEAVES

-- a loss leaves no less than a read gives
pub given_left : (x : List ℕ) (h : Held) → IsOneOf x h.now → IsOneOf x (left h)
given_left x h p = in_first x h.now (map value_of h.older) p

pub put_leaves : (x v : List ℕ) (next : ℕ) (h : Held) → IsOneOf x (left h) → IsOneOf x (left (changed next (Puts v) h))
put_leaves x v next h p =
    inr (elim (of_either x h.now (map value_of h.older) p) [
      | inl q ↦ older_second x h.older (map (overwritten next) h.now) (now_overwritten x next h.now q)
      | inr q ↦ older_first x h.older (map (overwritten next) h.now) q
    ])

put_left : (x v : List ℕ) (next : ℕ) (h : Held) → IsOneOf x (left (changed next (Puts v) h)) → (x ≡ v) ⊎ IsOneOf x (left h)
put_left x v next h (inl e) = inl e
put_left x v next h (inr p) =
    inr (elim (older_either x h.older (map (overwritten next) h.now) p) [
      | inl q ↦ in_second x h.now (map value_of h.older) q
      | inr q ↦ given_left x h (of_overwritten x next h.now q)
    ])

pub tried_leaves : (x v : List ℕ) (next : ℕ) (h : Held) → IsOneOf x (left h) → IsOneOf x (left (changed next (Tries v) h))
tried_leaves x v next h p =
    elim (of_either x h.now (map value_of h.older) p) [
      | inl q ↦ in_first x (h.now ++ v ∷ []) (map value_of h.older) (in_first x h.now (v ∷ []) q)
      | inr q ↦ in_second x (h.now ++ v ∷ []) (map value_of h.older) q
    ]

tried_there : (x v : List ℕ) (next : ℕ) (h : Held) → x ≡ v → IsOneOf x (changed next (Tries v) h).now
tried_there x v next h e = in_second x h.now (v ∷ []) (inl e)

tried_now : (x v : List ℕ) (h : Held) → IsOneOf x (h.now ++ v ∷ []) → (x ≡ v) ⊎ IsOneOf x h.now
tried_now x v h p = elim (of_either x h.now (v ∷ []) p) [ inl q ↦ inr q | inr (inl e) ↦ inl e | inr (inr never) ↦ absurd never ]

tried_left : (x v : List ℕ) (next : ℕ) (h : Held) → IsOneOf x (left (changed next (Tries v) h)) → (x ≡ v) ⊎ IsOneOf x (left h)
tried_left x v next h p =
    elim (of_either x (h.now ++ v ∷ []) (map value_of h.older) p) [
      | inl q ↦ by_now (tried_now x v h q)
      | inr q ↦ inr (in_second x h.now (map value_of h.older) q)
    ]
  where
    by_now : (x ≡ v) ⊎ IsOneOf x h.now → (x ≡ v) ⊎ IsOneOf x (left h)
    by_now (inl e) = inl e
    by_now (inr q) = inr (given_left x h q)

-- with nothing older what is left is what is given
only_now : (x : List ℕ) (xs : List (List ℕ)) → IsOneOf x (xs ++ []) → IsOneOf x xs
only_now x xs p = elim (of_either x xs [] p) [ inl q ↦ q | inr never ↦ absurd never ]

pub doubt_left : (x : List ℕ) (next : ℕ) (h : Held) → IsOneOf x (left (changed next Doubts h)) → IsOneOf x (left h)
doubt_left x next h p = only_now x (left h) p

pub doubt_leaves : (x : List ℕ) (next : ℕ) (h : Held) → IsOneOf x (left h) → IsOneOf x (left (changed next Doubts h))
doubt_leaves x next h p = in_first x (left h) [] p

pub synced_left : (x : List ℕ) (h : Held) → IsOneOf x (left (synced h)) → IsOneOf x h.now
synced_left x h p = only_now x h.now p

-- MORE AND MORE

pub within_refl : (h : Held) → IsWithin h h
within_refl h = record { now = λ value p. p; left = λ value p. p }

pub within_is : (a b : Held) → a ≡ b → IsWithin a b
within_is a b e = subst (λ (x : Held). IsWithin a x) e (within_refl a)

pub within_trans : (a b c : Held) → IsWithin a b → IsWithin b c → IsWithin a c
within_trans a b c p q = record { now = λ value h. q.now value (p.now value h); left = λ value h. q.left value (p.left value h) }

module _ (m n : ℕ) (a b : Held) (p : IsWithin a b) where
  pub put_more : (v : List ℕ) → IsWithin (changed m (Puts v) a) (changed n (Puts v) b)
  put_more v = record {
    now = λ value h. h;
    left = λ value h. elim (put_left value v m a h) [ inl e ↦ inl e | inr q ↦ put_leaves value v n b (p.left value q) ];
  }

  pub tried_more : (v : List ℕ) → IsWithin (changed m (Tries v) a) (changed n (Tries v) b)
  tried_more v = record {
    now = λ value h. elim (tried_now value v a h) [ inl e ↦ tried_there value v n b e | inr q ↦ in_first value b.now (v ∷ []) (p.now value q) ];
    left = λ value h. elim (tried_left value v m a h) [ inl e ↦ given_left value (changed n (Tries v) b) (tried_there value v n b e) | inr q ↦ tried_leaves value v n b (p.left value q) ];
  }

  pub doubted_more : IsWithin (changed m Doubts a) (changed n Doubts b)
  doubted_more = record { now = λ value h. p.left value h; left = λ value h. doubt_leaves value n b (p.left value (doubt_left value m a h)) }

  pub synced_more : (flush : ℕ) → IsWithin (synced a) (changed n (Syncs flush) b)
  synced_more flush = record { now = p.now; left = λ value h. given_left value (changed n (Syncs flush) b) (p.now value (synced_left value a h)) }

-- what is tried may be there or not
pub untried : (v : List ℕ) (n : ℕ) (h : Held) → IsWithin h (changed n (Tries v) h)
untried v n h = record { now = λ value p. in_first value h.now (v ∷ []) p; left = λ value p. tried_leaves value v n h p }

pub undoubted : (n : ℕ) (h : Held) → IsWithin h (changed n Doubts h)
undoubted n h = record { now = λ value p. given_left value h p; left = λ value p. doubt_leaves value n h p }

-- behind some tries of one value another one, or its being put there, changes nothing
module _ (v : List ℕ) (m n : ℕ) (before after : Held) where
  pub put_tried : IsWithin after (changed n (Puts v) before) → IsWithin after (changed n (Tries v) before)
  put_tried p = record {
    now = λ value h. by_now value (p.now value h);
    left = λ value h. elim (put_left value v n before (p.left value h)) [ inl e ↦ given_left value (changed n (Tries v) before) (tried_there value v n before e) | inr q ↦ tried_leaves value v n before q ];
  }
    where
      by_now : (value : List ℕ) → IsOneOf value (v ∷ []) → IsOneOf value (changed n (Tries v) before).now
      by_now value (inl e) = tried_there value v n before e
      by_now value (inr never) = absurd never

  pub put_behind : IsWithin after (changed n (Tries v) before) → IsWithin (changed m (Puts v) after) (changed n (Puts v) before)
  put_behind p = record { now = λ value h. h; left = λ value h. by_left value (put_left value v m after h) }
    where
      known : (value : List ℕ) → (value ≡ v) ⊎ IsOneOf value (left before) → IsOneOf value (left (changed n (Puts v) before))
      known value (inl e) = inl e
      known value (inr q) = put_leaves value v n before q

      by_left : (value : List ℕ) → (value ≡ v) ⊎ IsOneOf value (left after) → IsOneOf value (left (changed n (Puts v) before))
      by_left value (inl e) = inl e
      by_left value (inr q) = known value (tried_left value v n before (p.left value q))

  pub tried_behind : IsWithin after (changed n (Tries v) before) → IsWithin (changed m (Tries v) after) (changed n (Tries v) before)
  tried_behind p = record {
    now = λ value h. elim (tried_now value v after h) [ inl e ↦ tried_there value v n before e | inr q ↦ p.now value q ];
    left = λ value h. elim (tried_left value v m after h) [ inl e ↦ given_left value (changed n (Tries v) before) (tried_there value v n before e) | inr q ↦ p.left value q ];
  }

-- a sync behind a value that was put there makes it certain
pub synced_put : (v : List ℕ) (n : ℕ) (a b : Held) → IsWithin a (changed n (Puts v) b) → IsWithin (synced a) (surely v)
synced_put v n a b p = record { now = p.now; left = λ value h. p.now value (synced_left value a h) }

pub synced_less : (h : Held) → IsWithin (synced h) h
synced_less h = record { now = λ value p. p; left = λ value p. given_left value h (synced_left value h p) }

-- what a sync that may have failed leaves
pub synced_doubted : (n : ℕ) (a b : Held) → IsWithin a b → IsWithin (synced a) (changed n Doubts b)
synced_doubted n a b p = within_trans (synced a) a (changed n Doubts b) (synced_less a) (within_trans a b (changed n Doubts b) p (undoubted n b))

-- WORKS

module _ (size : ℕ) (w : Work) (i : ℕ) where
  -- sector i after a write was tried, without its sync
  abbrev pub attempted : ℕ → Held → Held
  attempted n h = if has w.extent i then changed n (Tries (value_at size w i)) h else h

  -- sector i after it wrote
  abbrev pub put_there : ℕ → Held → Held
  put_there n h = if has w.extent i then changed n (Puts (value_at size w i)) h else h

  pub by_place : (P : Held → Held → Type 0) (b : Bool) (x y a c : Held) → P x y → P a c → P (if b then x else a) (if b then y else c)
  by_place P true x y a c p q = p
  by_place P false x y a c p q = q

  pub attempted_more : (m n : ℕ) (a b : Held) → IsWithin a b → IsWithin (attempted m a) (attempted n b)
  attempted_more m n a b p =
      by_place IsWithin (has w.extent i) (changed m (Tries (value_at size w i)) a) (changed n (Tries (value_at size w i)) b) a b (tried_more m n a b p (value_at size w i)) p

  pub unattempted : (n : ℕ) (h : Held) → IsWithin h (attempted n h)
  unattempted n h = at_one (has w.extent i)
    where
      at_one : (b : Bool) → IsWithin h (if b then changed n (Tries (value_at size w i)) h else h)
      at_one true = untried (value_at size w i) n h
      at_one false = within_refl h

-- IN AN EXTENT

abbrev pub IsThere : ℕ → ℕ → ℕ → Type 0
IsThere first count i = (has (record { first = first; count = count }) i ≡ true) × (first ≤ i) × (i < first + count)

abbrev pub IsAway : ℕ → ℕ → ℕ → Type 0
IsAway first count i = (has (record { first = first; count = count }) i ≡ false) × ((i < first) ⊎ (first + count ≤ i))

pub there_or_away : (first count i : ℕ) → IsThere first count i ⊎ IsAway first count i
there_or_away first count i =
    elim (leb_tells first i) [
      | inl low ↦
          elim (leb_tells (suc i) (first + count)) [
            | inl high ↦ inl (rw (low.0, high.0) refl, low.1, omega (arith, high.1))
            | inr high ↦ inr (rw (low.0, high.0) refl, inr (omega (arith, high.1)))
          ]
      | inr low ↦ inr (rw low.0 refl, inl low.1)
    ]
