-- One sector, label by label.
use Rattle.std.proofs.Common.{◌≡◌, ◌<◌, ◌≤◌, inl, inr, ℕ, zero, suc, ◌+◌, Bool, true, false, List, [], ◌∷◌, ◌++◌, Option, Some, None, refl, sym, ◌∙◌, ap, subst, arith, append-nil, append_assoc, get_or, length, length-append, take, drop}
use Rattle.std.specs.Prelude.{All, Contains, Result, Ok, Err, IfOk, OnOk}
use Rattle.std.proofs.lemmas.List.{take_more, take_all}
use Rattle.std.proofs.lemmas.List.Elements.{All-nil, All-cons, All-head, All-tail, All-append}
use Rattle.register_judge.specs.Observed.{ObservedView}
use Rattle.std.specs.Global.{Vec}
use Rattle.noted.specs.declared.list.Noted.{Noted}
use Rattle.machine.specs.Rules.{Rules}
use Rattle.register.specs.Values.{code}
use Rattle.register.specs.declared.Sight.{Sight}
use Rattle.register_judge.specs.declared.observed.SoFar.{SoFar}
use Rattle.history.specs.declared.Wait.{Wait}
use Rattle.history.specs.declared.Wait.TheVariants.{Known, Awaits}
use Rattle.history.specs.Waits.{filled_by, with_wait, fill, known}
use Rattle.history_judge.specs.declared.waits.Marked.{Marked}
use Rattle.history_judge.specs.declared.waits.Given.{Given}
use Rattle.history_judge.specs.declared.trying.Try.{Try}
use Rattle.history_judge.specs.declared.past.Past.{Past}
use Rattle.history_judge.specs.declared.cell.Cell.{Cell}
use Rattle.history_judge.specs.inside.Starting.{HasStarts, IsTriedAll, IsTriedAny, IsTriedBy}
use Rattle.history_judge.specs.inside.Cells.{plain, is_known, sights_in, all_known, starts_in, IsFront, IsTry, Saw, SawBelow, AllSee, IsBegunBy, AreBegun, AreFirst, IsCell, with_last}
use Rattle.history_judge.proofs.Begun.{tried_by}
use Rattle.history_judge.proofs.Filling.{fill_known}

-- LISTS

pub drop_next : {X : Type 0} (xs : List X) (i : ℕ) (d : X) → i < length xs → drop i xs ≡ get_or xs i d ∷ drop (i + 1) xs
drop_next [] i d low = absurd (omega arith)
drop_next (x ∷ xs) zero d low = refl
drop_next (x ∷ xs) (suc i) d low =
    let e : suc (i + 1) ≡ suc i + 1 = omega arith in
    drop_next xs i d (omega arith) ∙ ap (λ n. get_or xs i d ∷ drop n (x ∷ xs)) e

pub drop_past : {X : Type 0} (xs : List X) (i : ℕ) → length xs ≤ i → drop i xs ≡ []
drop_past [] zero end = refl
drop_past [] (suc i) end = refl
drop_past (x ∷ xs) zero end = absurd (omega arith)
drop_past (x ∷ xs) (suc i) end = drop_past xs i (omega arith)

pub plain_push : (waits : List Marked) (m : Marked) → plain (waits ++ m ∷ []) ≡ plain waits ++ m.wait ∷ []
plain_push [] m = refl
plain_push (x ∷ waits) m = ap (λ xs. x.wait ∷ xs) (plain_push waits m)

pub sights_push : (given : List Given) (g : Given) → sights_in (given ++ g ∷ []) ≡ sights_in given ++ g.sight ∷ []
sights_push [] g = refl
sights_push (x ∷ given) g = ap (λ xs. x.sight ∷ xs) (sights_push given g)

pub sights_length : (given : List Given) → length (sights_in given) ≡ length given
sights_length [] = refl
sights_length (x ∷ given) = ap suc (sights_length given)

pub sight_at : (given : List Given) (i : ℕ) (d : Given) (e : Sight) → i < length given → (get_or given i d).sight ≡ get_or (sights_in given) i e
sight_at [] i d e low = absurd (omega arith)
sight_at (x ∷ given) zero d e low = refl
sight_at (x ∷ given) (suc i) d e low = sight_at given i d e (omega arith)

known_all : (a b : List Sight) → all_known (a ++ b) ≡ all_known a ++ all_known b
known_all [] b = refl
known_all (s ∷ a) b = ap (λ xs. Known s ∷ xs) (known_all a b)

known_behind : (seen : List Sight) (waits : List Wait) → known (all_known seen ++ waits) ≡ seen ++ known waits
known_behind [] waits = refl
known_behind (s ∷ seen) waits = ap (λ xs. s ∷ xs) (known_behind seen waits)

-- WHAT WAITS

known_cons : (w : Wait) (waits : List Wait) → known (w ∷ waits) ≡ known (w ∷ []) ++ known waits
known_cons (Known sight) waits = refl
known_cons (Awaits number place) waits = refl

pub known_more : (waits : List Marked) (old new : List Given) (i : ℕ) (item : Marked) → i < length waits → item ≡ get_or waits i item → sights_in new ≡ sights_in old ++ known (item.wait ∷ [])
    → sights_in old ++ known (plain (drop i waits)) ≡ known (plain waits) → sights_in new ++ known (plain (drop (i + 1) waits)) ≡ known (plain waits)
known_more waits old new i item low is pushed h =
    ap (λ xs. xs ++ known (plain (drop (i + 1) waits))) pushed
    ∙ append_assoc (sights_in old) (known (item.wait ∷ [])) (known (plain (drop (i + 1) waits)))
    ∙ ap (λ xs. sights_in old ++ xs) (sym (known_cons item.wait (plain (drop (i + 1) waits))))
    ∙ ap (λ m. sights_in old ++ known (m.wait ∷ plain (drop (i + 1) waits))) is
    ∙ sym (ap (λ ms. sights_in old ++ known (plain ms)) (drop_next waits i item low))
    ∙ h

pub known_whole : (waits : List Marked) (given : List Given) (i : ℕ) → length waits ≤ i → sights_in given ++ known (plain (drop i waits)) ≡ known (plain waits) → sights_in given ≡ known (plain waits)
known_whole waits given i end h = sym (append-nil (sights_in given)) ∙ ap (λ ms. sights_in given ++ known (plain ms)) (sym (drop_past waits i end)) ∙ h

-- the first so many are known
abbrev pub IsFrontTo : List Marked → ℕ → List Given → Type 0
IsFrontTo waits i given = (length given ≡ i) × (plain waits ≡ all_known (sights_in given) ++ plain (drop i waits))

pub front_more : (waits : List Marked) (old new : List Given) (i : ℕ) (item : Marked) → i < length waits → item ≡ get_or waits i item → is_known item.wait ≡ true → sights_in new ≡ sights_in old ++ known (item.wait ∷ [])
    → IsFrontTo waits i old → IsFrontTo waits (i + 1) new
front_more waits old new i item low is is_known' pushed h = by_wait item.wait refl is_known' pushed
  where
    by_wait : (w : Wait) → item.wait ≡ w → is_known w ≡ true → sights_in new ≡ sights_in old ++ known (w ∷ []) → IsFrontTo waits (i + 1) new
    by_wait (Awaits number place) e k made = absurd (cc (k))
    by_wait (Known sight) e k made =
        let counted : length (sights_in new) ≡ length (sights_in old) + 1 = ap length made ∙ length-append (sights_in old) (sight ∷ []) in
        let longer : length new ≡ i + 1 = sym (sights_length new) ∙ counted ∙ ap (λ n. n + 1) (sights_length old ∙ h.0) in (
          longer,
          h.1 ∙ ap (λ ms. all_known (sights_in old) ++ plain ms) (drop_next waits i item low)
              ∙ ap (λ m. all_known (sights_in old) ++ m.wait ∷ plain (drop (i + 1) waits)) (sym is)
              ∙ ap (λ w. all_known (sights_in old) ++ w ∷ plain (drop (i + 1) waits)) e
              ∙ sym (append_assoc (all_known (sights_in old)) (Known sight ∷ []) (plain (drop (i + 1) waits)))
              ∙ ap (λ xs. xs ++ plain (drop (i + 1) waits)) (sym (ap all_known made ∙ known_all (sights_in old) (sight ∷ []))),
        )

plain_length : (waits : List Marked) → length (plain waits) ≡ length waits
plain_length [] = refl
plain_length (m ∷ waits) = ap suc (plain_length waits)

known_length : (sights : List Sight) → length (all_known sights) ≡ length sights
known_length [] = refl
known_length (s ∷ sights) = ap suc (known_length sights)

pub front_of : (waits : List Marked) (given : List Given) (i : ℕ) → IsFrontTo waits i given → IsFront waits given
front_of waits given i h = record {
  within =
      let whole : length waits ≡ length (all_known (sights_in given) ++ plain (drop i waits)) = sym (plain_length waits) ∙ ap length h.1 in
      let parts : length (all_known (sights_in given) ++ plain (drop i waits)) ≡ length (all_known (sights_in given)) + length (plain (drop i waits)) = length-append (all_known (sights_in given)) (plain (drop i waits)) in
      let one : length (all_known (sights_in given)) ≡ length given = known_length (sights_in given) ∙ sights_length given in
      omega (arith, whole, parts, one);
  is = h.1 ∙ ap (λ n. all_known (sights_in given) ++ plain (drop n waits)) (sym h.0);
}

-- TRIES

pub take_starts : (tries : List Try) (t : Try) → starts_in (tries ++ t ∷ []) ≡ starts_in tries ++ t.start ∷ []
take_starts [] t = refl
take_starts (x ∷ tries) t = ap (λ xs. x.start ∷ xs) (take_starts tries t)

-- a try that took these has taken those, too
pub try_more : (seen more : List Sight) (t u : Try) → IsTry seen t → (u.start ≡ t.start) × (u.seen ≡ record { start = t.seen.start; sights = t.seen.sights ++ more }) → IsTry (seen ++ more) u
try_more seen more t u is sees = record {
  start = ap (λ (o : ObservedView). o.start) sees.1 ∙ is.start ∙ sym sees.0;
  sights = ap (λ (o : ObservedView). o.sights) sees.1 ∙ ap (λ xs. xs ++ more) is.sights;
}

saw_more : (seen : List Sight) (sight : Sight) (t u : Try) → IsTry seen t → Saw sight t u → IsTry (seen ++ sight ∷ []) u
saw_more seen sight t u is saw = try_more seen (sight ∷ []) t u is (saw.start, saw.seen)

saw_starts : (sight : Sight) (old new : List Try) → length new ≡ length old → ((k : ℕ) (d : Try) → k < length old → Saw sight (get_or old k d) (get_or new k d)) → starts_in new ≡ starts_in old
saw_starts sight [] [] e h = refl
saw_starts sight [] (y ∷ new) e h = absurd (omega (arith, e))
saw_starts sight (x ∷ old) [] e h = absurd (omega (arith, e))
saw_starts sight (x ∷ old) (y ∷ new) e h =
    ap (λ n. n ∷ starts_in new) (h 0 x (omega arith)).start ∙ ap (λ ns. x.start ∷ ns) (saw_starts sight old new (omega (arith, e)) (λ k d low. h (suc k) d (omega (arith, low))))

saw_tries : (sight : Sight) (seen : List Sight) (old new : List Try) → length new ≡ length old → ((k : ℕ) (d : Try) → k < length old → Saw sight (get_or old k d) (get_or new k d)) → All (IsTry seen) old → All (IsTry (seen ++ sight ∷ [])) new
saw_tries sight seen [] [] e h all = All-nil (IsTry (seen ++ sight ∷ []))
saw_tries sight seen [] (y ∷ new) e h all = absurd (omega (arith, e))
saw_tries sight seen (x ∷ old) [] e h all = absurd (omega (arith, e))
saw_tries sight seen (x ∷ old) (y ∷ new) e h all =
    All-cons (IsTry (seen ++ sight ∷ [])) y new (saw_more seen sight x y (All-head (IsTry seen) x old all) (h 0 x (omega arith)))
    (saw_tries sight seen old new (omega (arith, e)) (λ k d low. h (suc k) d (omega (arith, low))) (All-tail (IsTry seen) x old all))

pub saw_all : (sight : Sight) (old new : List Try) (i : ℕ) → length old ≤ i → SawBelow sight i old new → AllSee (sight ∷ []) old new
saw_all sight old new i end h = record { starts = saw_starts sight old new h.same_length each; seen = λ seen all. saw_tries sight seen old new h.same_length each all }
  where
    each : (k : ℕ) (d : Try) → k < length old → Saw sight (get_or old k d) (get_or new k d)
    each k d low = h.below k d (omega (arith, low, end)) low

pub all_see_none : (tries : List Try) → AllSee [] tries tries
all_see_none tries = record { starts = refl; seen = λ seen all. subst (λ xs. All (IsTry xs) tries) (sym (append-nil seen)) all }

pub all_see_more : (a b : List Sight) (old mid new : List Try) → AllSee a old mid → AllSee b mid new → AllSee (a ++ b) old new
all_see_more a b old mid new f g = record {
  starts = g.starts ∙ f.starts;
  seen = λ seen all. subst (λ xs. All (IsTry xs) new) (append_assoc seen a b) (g.seen (seen ++ a) (f.seen seen all));
}

sights_next : (given : List Given) (i : ℕ) (item : Given) → i < length given → item ≡ get_or given i item → sights_in (take i given) ++ item.sight ∷ [] ≡ sights_in (take (i + 1) given)
sights_next given i item low is = sym (sights_push (take i given) item) ∙ ap (λ g. sights_in (take i given ++ g ∷ [])) is ∙ ap sights_in (sym (take_more given i item low))

pub all_see_next : (given : List Given) (i : ℕ) (item : Given) (old mid new : List Try) → i < length given → item ≡ get_or given i item → AllSee (sights_in (take i given)) old mid → AllSee (item.sight ∷ []) mid new
    → AllSee (sights_in (take (i + 1) given)) old new
all_see_next given i item old mid new low is f g = subst (λ xs. AllSee xs old new) (sights_next given i item low is) (all_see_more (sights_in (take i given)) (item.sight ∷ []) old mid new f g)

pub all_see_all : (given : List Given) (i : ℕ) (old new : List Try) → length given ≤ i → AllSee (sights_in (take i given)) old new → AllSee (sights_in given) old new
all_see_all given i old new end h = subst (λ gs. AllSee (sights_in gs) old new) (take_all i given end) h

-- once more
last_of : {X : Type 0} (P : X → Type 0) (xs : List X) (y : X) → All P (xs ++ y ∷ []) → P y
last_of P [] y h = All-head P y [] h
last_of P (x ∷ xs) y h = last_of P xs y (All-tail P x (xs ++ y ∷ []) h)

front_of_all : {X : Type 0} (P : X → Type 0) (xs ys : List X) → All P (xs ++ ys) → All P xs
front_of_all P [] ys h = All-nil P
front_of_all P (x ∷ xs) ys h = All-cons P x xs (All-head P x (xs ++ ys) h) (front_of_all P xs ys (All-tail P x (xs ++ ys) h))

again : (seen : List Sight) (t u : Try) → IsTry seen t → (u.start ≡ t.start) × (u.seen ≡ t.seen) → IsTry (seen ++ []) u
again seen t u is same = subst (λ xs. IsTry xs u) (sym (append-nil seen)) plainly
  where
    plainly : IsTry seen u
    plainly = record { start = ap (λ (o : ObservedView). o.start) same.1 ∙ is.start ∙ sym same.0; sights = ap (λ (o : ObservedView). o.sights) same.1 ∙ is.sights }

pub copied_more : (tries old new : List Try) (i : ℕ) (item copy : Try) → i < length tries → item ≡ get_or tries i item → new ≡ old ++ copy ∷ [] → (copy.start ≡ item.start) × (copy.seen ≡ item.seen) → AllSee [] (take i tries) old → AllSee [] (take (i + 1) tries) new
copied_more tries old new i item copy low is pushed same h = record {
  starts = ap starts_in pushed ∙ take_starts old copy ∙ ap (λ n. starts_in old ++ n ∷ []) same.0 ∙ ap (λ ns. ns ++ item.start ∷ []) h.starts ∙ sym (take_starts (take i tries) item) ∙ ap starts_in (sym longer);
  seen = λ seen all.
      let whole : All (IsTry seen) (take i tries ++ item ∷ []) = subst (All (IsTry seen)) longer all in
      subst (All (IsTry (seen ++ []))) (sym pushed)
      (All-append (IsTry (seen ++ [])) old (copy ∷ []) (h.seen seen (front_of_all (IsTry seen) (take i tries) (item ∷ []) whole))
      (All-cons (IsTry (seen ++ [])) copy [] (again seen item copy (last_of (IsTry seen) (take i tries) item whole) same) (All-nil (IsTry (seen ++ [])))));
}
  where
    longer : take (i + 1) tries ≡ take i tries ++ item ∷ []
    longer = take_more tries i item low ∙ ap (λ t. take i tries ++ t ∷ []) (sym is)

pub copied_all : (tries copies : List Try) (i : ℕ) → length tries ≤ i → AllSee [] (take i tries) copies → AllSee [] tries copies
copied_all tries copies i end h = subst (λ ts. AllSee [] ts copies) (take_all i tries end) h

-- tries of which nothing was seen
pub new_more : (starts : List ℕ) (old new : List Try) (i d : ℕ) (t : Try) → i < length starts → new ≡ old ++ t ∷ [] → t.start ≡ get_or starts i d → IsTry [] t → (starts_in old ≡ take i starts) × All (IsTry []) old
    → (starts_in new ≡ take (i + 1) starts) × All (IsTry []) new
new_more starts old new i d t low pushed is tried h = (
  ap starts_in pushed ∙ take_starts old t ∙ ap (λ xs. xs ++ t.start ∷ []) h.0 ∙ ap (λ n. take i starts ++ n ∷ []) is ∙ sym (take_more starts i d low),
  subst (All (IsTry [])) (sym pushed) (All-append (IsTry []) old (t ∷ []) h.1 (All-cons (IsTry []) t [] tried (All-nil (IsTry [])))),
)

-- ONE SECTOR

if_ok : {T E : Type 0} (P Q : T → Type 0) (r : Result T E) → ((x : T) → P x → Q x) → IfOk r P → IfOk r Q
if_ok P Q (Ok x) f h = f x h
if_ok P Q (Err e) f h = tt

pub if_three : {T E : Type 0} (P Q R S : T → Type 0) (r : Result T E) → ((x : T) → P x → Q x → R x → S x) → IfOk r P → IfOk r Q → IfOk r R → IfOk r S
if_three P Q R S (Ok x) f p q t = f x p q t
if_three P Q R S (Err e) f p q t = tt

pub on_one : {T E : Type 0} {P Q : Type 0} (r : Result T E) → (P → Q) → OnOk r P → OnOk r Q
on_one (Ok x) f p = f p
on_one (Err e) f p = tt

pub on_two : {T E : Type 0} {P Q S : Type 0} (r : Result T E) → (P → Q → S) → OnOk r P → OnOk r Q → OnOk r S
on_two (Ok x) f p q = f p q
on_two (Err e) f p q = tt

-- the tries have taken what was known
pub cell_behind : (any : Bool) (start : ℕ) (waits : List Wait) (seen : List Sight) (marked : List Marked) (given : List Given) (tries : List Try) (after : Cell) → all_known seen ++ plain marked ≡ waits → IsFront marked given
    → All (IsTry (seen ++ sights_in given)) tries → AreBegun any start (seen ++ sights_in given) (starts_in tries) → after.tries.items ≡ tries → after.seen.items ≡ seen ++ sights_in given → after.waits.items ≡ drop (length given) marked
    → IsCell any start waits after
cell_behind any start waits seen marked given tries after is front tried begun tries_are seen_is waits_are = record {
  is = ap (λ xs. all_known xs ++ plain after.waits.items) seen_is
      ∙ ap (λ ms. all_known (seen ++ sights_in given) ++ plain ms) waits_are
      ∙ ap (λ xs. xs ++ plain (drop (length given) marked)) (known_all seen (sights_in given))
      ∙ append_assoc (all_known seen) (all_known (sights_in given)) (plain (drop (length given) marked))
      ∙ ap (λ xs. all_known seen ++ xs) (sym front.is)
      ∙ is;
  tries = subst (λ xs. All (IsTry xs) after.tries.items) (sym seen_is) (subst (All (IsTry (seen ++ sights_in given))) (sym tries_are) tried);
  begun = subst (λ xs. AreBegun any start xs (starts_in after.tries.items)) (sym seen_is) (subst (λ ts. AreBegun any start (seen ++ sights_in given) (starts_in ts)) (sym tries_are) begun);
}

-- what was begun stays so
pub begun_more : (any : Bool) (start : ℕ) (seen more : List Sight) (values : List ℕ) → (values ≡ [] → ⊥) → AreBegun any start seen values → AreBegun any start (seen ++ more) values
begun_more false start seen more values some begun = begun
begun_more true start seen more values some begun = λ later. elim (begun (more ++ later)) [
  | inl none ↦ absurd (some none.0)
  | inr starts ↦ inr (subst (λ xs. HasStarts start xs values) (sym (append_assoc seen more later)) starts)
]

-- nothing was taken where there is no try
pub none_taken : (any : Bool) (start : ℕ) (seen : List Sight) → AreBegun any start seen [] → (any ≡ true) × (seen ≡ [])
none_taken false start seen begun = absurd (cc (begun))
none_taken true start seen begun = elim (begun []) [
  | inl none ↦ (refl, none.1)
  | inr starts ↦ absurd (none_in start starts.has_first)
]
  where
    none_in : (x : ℕ) → Contains [] x → ⊥
    none_in x (k, low, is) = absurd (omega (arith, low))

pub begun_first : (any : Bool) (start : ℕ) (seen given : List Sight) (tries : Vec Try) → AreBegun any start seen [] → IsBegunBy start given (Some tries) → All (IsTry (seen ++ given)) tries.items × AreBegun any start (seen ++ given) (starts_in tries.items)
begun_first any start seen given tries begun by = subst (λ b. All (IsTry (seen ++ given)) tries.items × AreBegun b start (seen ++ given) (starts_in tries.items)) (sym none.0) (tried, λ more. inr (subst (λ xs. HasStarts start (xs ++ more) (starts_in tries.items)) (sym plain_is) (by.1 more)))
  where
    none : (any ≡ true) × (seen ≡ [])
    none = none_taken any start seen begun

    plain_is : seen ++ given ≡ given
    plain_is = ap (λ xs. xs ++ given) none.1

    tried : All (IsTry (seen ++ given)) tries.items
    tried = subst (λ xs. All (IsTry xs) tries.items) (sym plain_is) by.0

pub empty_starts : (tries : List Try) → starts_in tries ≡ [] → tries ≡ []
empty_starts [] e = refl
empty_starts (t ∷ tries) e = absurd (cc (e))

-- what is seen last waits
pub cell_waits : (any : Bool) (start : ℕ) (waits : List Wait) (old new : Cell) (m : Marked) → IsCell any start waits old → new.seen ≡ old.seen → new.tries ≡ old.tries → new.waits.items ≡ old.waits.items ++ m ∷ [] → IsCell any start (waits ++ m.wait ∷ []) new
cell_waits any start waits old new m h seen_is tries_are waits_are = record {
  is = ap (λ (xs : Noted Sight). all_known xs.items ++ plain new.waits.items) seen_is
      ∙ ap (λ ms. all_known old.seen.items ++ plain ms) waits_are
      ∙ ap (λ ws. all_known old.seen.items ++ ws) (plain_push old.waits.items m)
      ∙ sym (append_assoc (all_known old.seen.items) (plain old.waits.items) (m.wait ∷ []))
      ∙ ap (λ ws. ws ++ m.wait ∷ []) h.is;
  tries = subst (λ (xs : Noted Sight). All (IsTry xs.items) new.tries.items) (sym seen_is) (subst (λ (ts : Vec Try). All (IsTry old.seen.items) ts.items) (sym tries_are) h.tries);
  begun = subst (λ (xs : Noted Sight). AreBegun any start xs.items (starts_in new.tries.items)) (sym seen_is) (subst (λ (ts : Vec Try). AreBegun any start old.seen.items (starts_in ts.items)) (sym tries_are) h.begun);
}

-- or is given to the tries, where nothing waits
pub cell_given : (any : Bool) (start : ℕ) (waits : List Wait) (old new : Cell) (sight : Sight) → IsCell any start waits old → (old.tries.items ≡ [] → ⊥) → old.waits.items ≡ [] → new.waits.items ≡ [] → new.seen.items ≡ old.seen.items ++ sight ∷ []
    → AllSee (sight ∷ []) old.tries.items new.tries.items → IsCell any start (waits ++ Known sight ∷ []) new
cell_given any start waits old new sight h some none after seen_is sees = record {
  is = ap (λ xs. all_known xs ++ plain new.waits.items) seen_is
      ∙ ap (λ ms. all_known (old.seen.items ++ sight ∷ []) ++ plain ms) after
      ∙ append-nil (all_known (old.seen.items ++ sight ∷ []))
      ∙ known_all old.seen.items (sight ∷ [])
      ∙ ap (λ ws. ws ++ Known sight ∷ []) (sym (append-nil (all_known old.seen.items)) ∙ ap (λ ms. all_known old.seen.items ++ plain ms) (sym none) ∙ h.is);
  tries = subst (λ xs. All (IsTry xs) new.tries.items) (sym seen_is) (sees.seen old.seen.items h.tries);
  begun = subst (λ xs. AreBegun any start xs (starts_in new.tries.items)) (sym seen_is)
      (subst (AreBegun any start (old.seen.items ++ sight ∷ [])) (sym sees.starts) (begun_more any start old.seen.items (sight ∷ []) (starts_in old.tries.items) (λ e. some (empty_starts old.tries.items e)) h.begun));
}

-- WHAT AN ANSWER MAKES OF WHAT WAITS

pub no_waits : (waits : List Marked) → length waits ≡ 0 → waits ≡ []
no_waits [] e = refl
no_waits (m ∷ waits) e = absurd (omega (arith, e))

last_front : (before : List Wait) (left : Option Wait) (waits : List Wait) → with_last before left ++ waits ≡ before ++ with_wait left waits
last_front before None waits = refl
last_front before (Some w) waits = append_assoc before (w ∷ []) waits

-- what was added anew, and what becomes of the rest
pub record IsFilling (any : Bool) (start : ℕ) (rules : Rules) (n : ℕ) (brings : Option (List ℕ)) (waits : List Wait) (rest : List Marked) (cell : Cell) : Type 0 where
  pub before : List Wait
  pub whole : before ++ fill code rules n brings (plain rest) ≡ fill code rules n brings waits
  pub is : IsCell any start before cell

pub fill_begins : (any : Bool) (start : ℕ) (rules : Rules) (n : ℕ) (brings : Option (List ℕ)) (waits : List Wait) (old : Cell) (none : Vec Marked) (rest : List Marked) → IsCell any start waits old → none.items ≡ [] → rest ≡ old.waits.items
    → IsFilling any start rules n brings waits rest (record { seen = old.seen; tries = old.tries; waits = none; past = old.past })
fill_begins any start rules n brings waits old none rest h empty is = record {
  before = all_known old.seen.items;
  whole = ap (λ ms. all_known old.seen.items ++ fill code rules n brings (plain ms)) is
      ∙ sym (fill_known rules n brings old.seen.items (plain old.waits.items))
      ∙ ap (fill code rules n brings) h.is;
  is = record { is = ap (λ ms. all_known old.seen.items ++ plain ms) empty ∙ append-nil (all_known old.seen.items); tries = h.tries; begun = h.begun };
}

pub fill_goes : (any : Bool) (start : ℕ) (rules : Rules) (n : ℕ) (brings : Option (List ℕ)) (waits : List Wait) (old new : List Marked) (m : Marked) (left : Option Wait) (cell after : Cell) → IsFilling any start rules n brings waits old cell → old ≡ m ∷ new
    → left ≡ filled_by code rules n brings m.wait → ((ws : List Wait) → IsCell any start ws cell → IsCell any start (with_last ws left) after) → IsFilling any start rules n brings waits new after
fill_goes any start rules n brings waits old new m left cell after h one by adds = record {
  before = with_last h.before left;
  whole = last_front h.before left (fill code rules n brings (plain new))
      ∙ ap (λ w. h.before ++ with_wait w (fill code rules n brings (plain new))) by
      ∙ ap (λ ms. h.before ++ fill code rules n brings (plain ms)) (sym one)
      ∙ h.whole;
  is = adds h.before h.is;
}

pub fill_ends : (any : Bool) (start : ℕ) (rules : Rules) (n : ℕ) (brings : Option (List ℕ)) (waits : List Wait) (rest : List Marked) (cell : Cell) → IsFilling any start rules n brings waits rest cell → length rest ≡ 0
    → IsCell any start (fill code rules n brings waits) cell
fill_ends any start rules n brings waits rest cell h none =
    subst (λ ws. IsCell any start ws cell) (sym (append-nil h.before) ∙ ap (λ ms. h.before ++ fill code rules n brings (plain ms)) (sym (no_waits rest none)) ∙ h.whole) h.is

-- what is known of the sector
pub judged_begun : (any : Bool) (size start : ℕ) (waits : List Wait) (cell : Cell) (given : List Given) (best : SoFar) → IsCell any start waits cell → (cell.tries.items ≡ [] → ⊥) → sights_in given ≡ known (plain cell.waits.items)
    → IsTriedAll any size (starts_in cell.tries.items) (cell.seen.items ++ sights_in given) best → IsTriedBy any size start (known waits) best
judged_begun any size start waits cell given best h some is all =
    let whole : known waits ≡ cell.seen.items ++ sights_in given = ap known (sym h.is) ∙ known_behind cell.seen.items (plain cell.waits.items) ∙ ap (λ xs. cell.seen.items ++ xs) (sym is) in
    subst (λ xs. IsTriedBy any size start xs best) (sym whole)
    (tried_by any size start cell.seen.items (sights_in given) (starts_in cell.tries.items) best h.begun (λ e. some (empty_starts cell.tries.items e)) all)

pub judged_first : (any : Bool) (size start : ℕ) (waits : List Wait) (cell : Cell) (given : List Given) (best : SoFar) → IsCell any start waits cell → cell.tries.items ≡ [] → sights_in given ≡ known (plain cell.waits.items)
    → IsTriedAny size (sights_in given) best → IsTriedBy any size start (known waits) best
judged_first any size start waits cell given best h none is tried =
    let taken : (any ≡ true) × (cell.seen.items ≡ []) = none_taken any start cell.seen.items (subst (λ ts. AreBegun any start cell.seen.items (starts_in ts)) none h.begun) in
    let whole : known waits ≡ sights_in given =
    ap known (sym h.is) ∙ known_behind cell.seen.items (plain cell.waits.items) ∙ ap (λ xs. xs ++ known (plain cell.waits.items)) taken.1 ∙ sym is in
    subst (λ b. IsTriedBy b size start (known waits) best) (sym taken.0) (subst (λ xs. IsTriedAny size xs best) (sym whole) tried)

pub first_any : (any : Bool) (start : ℕ) (tries : Vec Try) → any ≡ true → tries.items ≡ [] → AreFirst any start tries
first_any any start tries is none = record {
  seen = subst (All (IsTry [])) (sym none) (All-nil (IsTry []));
  begun = subst (λ b. AreBegun b start [] (starts_in tries.items)) (sym is) (λ more. inl (ap starts_in none, refl));
}

pub first_one : (any : Bool) (start : ℕ) (tries : Vec Try) (t : Try) → any ≡ false → tries.items ≡ t ∷ [] → t.start ≡ start → IsTry [] t → AreFirst any start tries
first_one any start tries t is one began tried = record {
  seen = subst (All (IsTry [])) (sym one) (All-cons (IsTry []) t [] tried (All-nil (IsTry [])));
  begun = subst (λ b. AreBegun b start [] (starts_in tries.items)) (sym is) (ap starts_in one ∙ ap (λ n. n ∷ []) began);
}

pub cell_first : (any : Bool) (start : ℕ) (cell : Cell) → cell.seen.items ≡ [] → cell.waits.items ≡ [] → AreFirst any start cell.tries → IsCell any start [] cell
cell_first any start cell seen_is waits_are first = record {
  is = ap (λ xs. all_known xs ++ plain cell.waits.items) seen_is ∙ ap plain waits_are;
  tries = subst (λ xs. All (IsTry xs) cell.tries.items) (sym seen_is) first.seen;
  begun = subst (λ xs. AreBegun any start xs (starts_in cell.tries.items)) (sym seen_is) first.begun;
}

pub no_tries : (tries : List Try) → length tries ≡ 0 → tries ≡ []
no_tries [] e = refl
no_tries (t ∷ tries) e = absurd (omega (arith, e))

-- what is told of a sector beside its verdict
pub cell_noted : (any : Bool) (start : ℕ) (waits : List Wait) (cell : Cell) (past : Past) → IsCell any start waits cell → IsCell any start waits (record { seen = cell.seen; tries = cell.tries; waits = cell.waits; past = past })
cell_noted any start waits cell past h = record { is = h.is; tries = h.tries; begun = h.begun }
