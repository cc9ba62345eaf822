-- What an answer does to the entry of its request.
use Rattle.std.proofs.Common.{◌≡◌, ◌<◌, ◌≤◌, ℕ, zero, suc, ◌-◌, ◌||◌, Bool, true, false, List, [], ◌∷◌, ◌++◌, Option, Some, None, refl, sym, ◌∙◌, ap, subst, arith, get_or, length, take, drop}
use Rattle.std.specs.Prelude.{if◌then◌else◌}
use Rattle.std.specs.List.{list_any, insert, remove}
use Rattle.machine.specs.Rules.{Rules}
use Rattle.register.specs.Values.{code}
use Rattle.history_loss_kept.specs.declared.Wait.{Wait}
use Rattle.history_loss_kept.specs.declared.Wait.TheVariants.{Known, Awaits}
use Rattle.history_loss_kept.specs.declared.Own.{Own}
use Rattle.history_loss_kept.specs.Kept.{fill, is_own_of, read_by, wait_by, with_first}
use Rattle.history_loss_sector.specs.declared.filling.Marked.{Marked}
use Rattle.history_loss_sector.specs.Seen.{IsOnce, is_for}
use Rattle.history_loss_sector.specs.inside.Entries.{own_in, IsFilledBy, IsLastAt}

-- WHETHER ANY

pub or_first : (a b : Bool) → (a || b) ≡ false → a ≡ false
or_first true b h = h
or_first false b h = refl

pub or_rest : (a b : Bool) → (a || b) ≡ false → b ≡ false
or_rest true b h = absurd (cc (h))
or_rest false b h = h

pub or_both : (a b : Bool) → a ≡ false → b ≡ false → (a || b) ≡ false
or_both true b e f = e
or_both false b e f = f

or_true : (a b : Bool) → a ≡ true → (a || b) ≡ true
or_true true b e = refl
or_true false b e = absurd (cc (e))

-- behind others
pub any_at : (f : Own → Bool) (before : List Own) (o : Own) (after : List Own) → f o ≡ true → list_any f (before ++ o ∷ after) ≡ true
any_at f [] o after h = or_true (f o) (list_any f after) h
any_at f (x ∷ before) o after h = or_second (f x) (list_any f (before ++ o ∷ after)) (any_at f before o after h)
  where
    or_second : (a b : Bool) → b ≡ true → (a || b) ≡ true
    or_second true b e = refl
    or_second false b e = e

pub none_of_both : (f : Own → Bool) (before after : List Own) → list_any f before ≡ false → list_any f after ≡ false → list_any f (before ++ after) ≡ false
none_of_both f [] after e g = g
none_of_both f (x ∷ before) after e g =
    or_both (f x) (list_any f (before ++ after)) (or_first (f x) (list_any f before) e) (none_of_both f before after (or_rest (f x) (list_any f before) e) g)

-- ONE REQUEST

module _ (rules : Rules) (n : ℕ) (bytes : Option (List ℕ)) where
  -- entries of others stay
  other_kept : (behind : ℕ) (wait : Wait) (own : List Own) → is_for n (record { behind = behind; wait = wait }) ≡ false
      → with_first behind (wait_by code rules n bytes wait) own ≡ record { behind = behind; wait = wait } ∷ own
  other_kept behind (Known sight) own h = refl
  other_kept behind (Awaits number place) own h = ap (λ t. with_first behind (if t then read_by code rules number place bytes else Some (Awaits number place)) own) h

  pub fill_none : (own : List Own) → list_any (is_for n) own ≡ false → fill code rules n bytes own ≡ own
  fill_none [] h = refl
  fill_none (o ∷ own) h =
      ap (λ xs. with_first o.behind (wait_by code rules n bytes o.wait) xs) (fill_none own (or_rest (is_for n o) (list_any (is_for n) own) h))
      ∙ other_kept o.behind o.wait own (or_first (is_for n o) (list_any (is_for n) own) h)

  pub fill_at : (before : List Own) (o : Own) (after : List Own) → list_any (is_for n) before ≡ false → list_any (is_for n) after ≡ false
      → fill code rules n bytes (before ++ o ∷ after) ≡ before ++ with_first o.behind (wait_by code rules n bytes o.wait) after
  fill_at [] o after e g = ap (λ xs. with_first o.behind (wait_by code rules n bytes o.wait) xs) (fill_none after g)
  fill_at (x ∷ before) o after e g =
      ap (λ xs. with_first x.behind (wait_by code rules n bytes x.wait) xs) (fill_at before o after (or_rest (is_for n x) (list_any (is_for n) before) e) g)
      ∙ other_kept x.behind x.wait (before ++ with_first o.behind (wait_by code rules n bytes o.wait) after) (or_first (is_for n x) (list_any (is_for n) before) e)

  -- what is left of the request's entry is its call
  pub own_left : (behind : ℕ) (old wait : Wait) → is_for n (record { behind = behind; wait = old }) ≡ true → Some wait ≡ wait_by code rules n bytes old
      → is_own_of n (record { behind = behind; wait = wait }) ≡ true
  own_left behind (Known sight) wait h e =
      let same : wait ≡ Known sight = cc (e) in subst (λ w. is_own_of n (record { behind = behind; wait = w }) ≡ true) (sym same) h
  own_left behind (Awaits number place) wait h e =
      by bytes (e ∙ ap (λ t. if t then read_by code rules number place bytes else Some (Awaits number place)) h)
    where
      by : (found : Option (List ℕ)) → Some wait ≡ read_by code rules number place found → is_own_of n (record { behind = behind; wait = wait }) ≡ true
      by None e = absurd (cc (e))
      by (Some b) e = subst (λ w. is_own_of n (record { behind = behind; wait = w }) ≡ true) (sym (some_same e)) h
        where
          some_same : {x y : Wait} → Some x ≡ Some y → x ≡ y
          some_same e = cc (e)

pub own_none : (n : ℕ) (own : List Own) → list_any (is_for n) own ≡ false → list_any (is_own_of n) own ≡ false
own_none n [] h = refl
own_none n (o ∷ own) h =
    or_both (is_own_of n o) (list_any (is_own_of n) own) (by o.behind o.wait (or_first (is_for n o) (list_any (is_for n) own) h)) (own_none n own (or_rest (is_for n o) (list_any (is_for n) own) h))
  where
    by : (behind : ℕ) (wait : Wait) → is_for n (record { behind = behind; wait = wait }) ≡ false → is_own_of n (record { behind = behind; wait = wait }) ≡ false
    by behind (Known sight) h = h
    by behind (Awaits number place) h = refl

pub once_before : (n : ℕ) (before : List Own) (o : Own) (after : List Own) → IsOnce n (before ++ o ∷ after) → is_for n o ≡ true → list_any (is_for n) before ≡ false
once_before n [] o after once h = refl
once_before n (x ∷ before) o after once h = by (is_for n x) once.0 (once_before n before o after once.1 h)
  where
    by : (t : Bool) → (t ≡ true → list_any (is_for n) (before ++ o ∷ after) ≡ false) → list_any (is_for n) before ≡ false → (t || list_any (is_for n) before) ≡ false
    by true first rest = let other : true ≡ false = sym (any_at (is_for n) before o after h) ∙ first refl in absurd (cc (other))
    by false first rest = rest

-- PLACES

pub own_append : (a b : List Marked) → own_in (a ++ b) ≡ own_in a ++ own_in b
own_append [] b = refl
own_append (m ∷ a) b = ap (λ xs. m.own ∷ xs) (own_append a b)

pub own_split : (xs : List Marked) (k : ℕ) (x : Marked) → k < length xs → x ≡ get_or xs k x → own_in xs ≡ own_in (take k xs) ++ x.own ∷ own_in (drop (suc k) xs)
own_split [] k x low is = absurd (omega arith)
own_split (y ∷ ys) zero x low is = ap (λ m. m.own ∷ own_in ys) (sym is)
own_split (y ∷ ys) (suc k) x low is = ap (λ os. y.own ∷ os) (own_split ys k x (omega arith) is)

pub own_put : (xs : List Marked) (k : ℕ) (m : Marked) → k < length xs → own_in (insert (remove xs k) k m) ≡ own_in (take k xs) ++ m.own ∷ own_in (drop (suc k) xs)
own_put [] k m low = absurd (omega arith)
own_put (y ∷ []) zero m low = refl
own_put (y ∷ z ∷ ys) zero m low = refl
own_put (y ∷ ys) (suc k) m low = ap (λ os. y.own ∷ os) (own_put ys k m (omega arith))

-- AN ANSWER

module _ (rules : Rules) (n : ℕ) (bytes : Option (List ℕ)) where
  pub filled_none : (own : List Own) → list_any (is_for n) own ≡ false → IsFilledBy rules n bytes own own false
  filled_none own h =
      let e : fill code rules n bytes own ≡ own = fill_none rules n bytes own h in
      record { is = sym e; seen = sym (ap (λ xs. list_any (is_own_of n) xs) e ∙ own_none n own h) }

  pub filled_away : (before : List Own) (o : Own) (after : List Own) → IsOnce n (before ++ o ∷ after) → is_for n o ≡ true → list_any (is_for n) after ≡ false
      → None ≡ wait_by code rules n bytes o.wait → IsFilledBy rules n bytes (before ++ o ∷ after) (before ++ after) false
  filled_away before o after once h last e =
      let first : list_any (is_for n) before ≡ false = once_before n before o after once h in
      let is : fill code rules n bytes (before ++ o ∷ after) ≡ before ++ after = fill_at rules n bytes before o after first last ∙ ap (λ w. before ++ with_first o.behind w after) (sym e) in
      record {
        is = sym is;
        seen = sym (ap (λ xs. list_any (is_own_of n) xs) is ∙ own_none n (before ++ after) (none_of_both (is_for n) before after first last));
      }

  pub filled_in : (before : List Own) (o : Own) (after : List Own) (wait : Wait) → IsOnce n (before ++ o ∷ after) → is_for n o ≡ true → list_any (is_for n) after ≡ false
      → Some wait ≡ wait_by code rules n bytes o.wait → IsFilledBy rules n bytes (before ++ o ∷ after) (before ++ record { behind = o.behind; wait = wait } ∷ after) true
  filled_in before o after wait once h last e =
      let first : list_any (is_for n) before ≡ false = once_before n before o after once h in
      let put : Own = record { behind = o.behind; wait = wait } in
      let is : fill code rules n bytes (before ++ o ∷ after) ≡ before ++ put ∷ after = fill_at rules n bytes before o after first last ∙ ap (λ w. before ++ with_first o.behind w after) (sym e) in
      record {
        is = sym is;
        seen = sym (ap (λ xs. list_any (is_own_of n) xs) is ∙ any_at (is_own_of n) before put after (own_left rules n bytes o.behind o.wait wait h e));
      }

-- THE LAST ENTRY

drop_next : (xs : List Marked) (i : ℕ) (d : Marked) → i < length xs → drop i xs ≡ get_or xs i d ∷ drop (suc i) xs
drop_next [] i d low = absurd (omega arith)
drop_next (x ∷ xs) zero d low = refl
drop_next (x ∷ xs) (suc i) d low = drop_next xs i d (omega arith)

drop_all : (xs : List Marked) → drop (length xs) xs ≡ []
drop_all [] = refl
drop_all (x ∷ xs) = drop_all xs

at_any : (xs : List Marked) (k : ℕ) (d e : Marked) → k < length xs → get_or xs k d ≡ get_or xs k e
at_any [] k d e low = absurd (omega arith)
at_any (x ∷ xs) zero d e low = refl
at_any (x ∷ xs) (suc k) d e low = at_any xs k d e (omega arith)

module _ (n : ℕ) (own : List Marked) where
  pub last_first : list_any (is_for n) (own_in (drop (length own) own)) ≡ false
  last_first = ap (λ ms. list_any (is_for n) (own_in ms)) (drop_all own)

  pub last_found : (left : ℕ) (d : Marked) → 0 < left → left ≤ length own → list_any (is_for n) (own_in (drop left own)) ≡ false
      → is_for n (get_or own (left - 1) d).own ≡ true → IsLastAt n own (left - 1)
  last_found zero d low few none h = absurd (omega arith)
  last_found (suc k) d low few none h =
      let below : k < length own = omega arith in
      let at : k ≡ suc k - 1 = omega arith in
      let here : is_for n (get_or own k d).own ≡ true = ap (λ i. is_for n (get_or own i d).own) at ∙ h in
      subst (IsLastAt n own) at (record { within = below; is = λ e. subst (λ m. is_for n m.own ≡ true) (at_any own k d e below) here; last = none })

  pub last_more : (left : ℕ) (d : Marked) → 0 < left → left ≤ length own → list_any (is_for n) (own_in (drop left own)) ≡ false
      → is_for n (get_or own (left - 1) d).own ≡ false → list_any (is_for n) (own_in (drop (left - 1) own)) ≡ false
  last_more zero d low few none h = absurd (omega arith)
  last_more (suc k) d low few none h =
      let below : k < length own = omega arith in
      let at : k ≡ suc k - 1 = omega arith in
      subst (λ i. list_any (is_for n) (own_in (drop i own)) ≡ false) at
      (ap (λ ms. list_any (is_for n) (own_in ms)) (drop_next own k d below)
      ∙ or_both (is_for n (get_or own k d).own) (list_any (is_for n) (own_in (drop (suc k) own))) (ap (λ i. is_for n (get_or own i d).own) at ∙ h) none)

pub last_none : (n : ℕ) (own : List Marked) (left : ℕ) → left ≤ 0 → list_any (is_for n) (own_in (drop left own)) ≡ false → list_any (is_for n) (own_in own) ≡ false
last_none n [] left low none = refl
last_none n (x ∷ own) zero low none = none
last_none n (x ∷ own) (suc left) low none = absurd (omega arith)

-- IN PLACE

module _ (rules : Rules) (n : ℕ) (bytes : Option (List ℕ)) (old : List Marked) (k : ℕ) (x : Marked) (last : IsLastAt n old k) (is : x ≡ get_or old k x) where
  split : own_in old ≡ own_in (take k old) ++ x.own ∷ own_in (drop (suc k) old)
  split = own_split old k x last.within is

  found : is_for n x.own ≡ true
  found = subst (λ m. is_for n m.own ≡ true) (sym is) (last.is x)

  pub taken_out : (new : List Marked) → new ≡ remove old k → None ≡ wait_by code rules n bytes x.own.wait → IsOnce n (own_in old) → IsFilledBy rules n bytes (own_in old) (own_in new) false
  taken_out new e none once =
      let left : own_in new ≡ own_in (take k old) ++ own_in (drop (suc k) old) = ap own_in e ∙ own_append (take k old) (drop (suc k) old) in
      subst (λ os. IsFilledBy rules n bytes os (own_in new) false) (sym split)
      (subst (λ os. IsFilledBy rules n bytes (own_in (take k old) ++ x.own ∷ own_in (drop (suc k) old)) os false) (sym left)
      (filled_away rules n bytes (own_in (take k old)) x.own (own_in (drop (suc k) old)) (subst (IsOnce n) split once) found last.last none))

  pub put_in : (rest new : List Marked) (line : ℕ) (wait : Wait) → rest ≡ remove old k → new ≡ insert rest k (record { line = line; own = record { behind = x.own.behind; wait = wait } })
      → Some wait ≡ wait_by code rules n bytes x.own.wait → IsOnce n (own_in old) → IsFilledBy rules n bytes (own_in old) (own_in new) true
  put_in rest new line wait cut e some once =
      let put : Own = record { behind = x.own.behind; wait = wait } in
      let marked : Marked = record { line = line; own = put } in
      let left : own_in new ≡ own_in (take k old) ++ put ∷ own_in (drop (suc k) old) = ap own_in (e ∙ ap (λ ms. insert ms k marked) cut) ∙ own_put old k marked last.within in
      subst (λ os. IsFilledBy rules n bytes os (own_in new) true) (sym split)
      (subst (λ os. IsFilledBy rules n bytes (own_in (take k old) ++ x.own ∷ own_in (drop (suc k) old)) os true) (sym left)
      (filled_in rules n bytes (own_in (take k old)) x.own (own_in (drop (suc k) old)) wait (subst (IsOnce n) split once) found last.last some))
