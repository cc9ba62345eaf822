-- A session whose requests are served side by side, one thing that happens after another.
use Rattle.std.proofs.Common.{◌≡◌, ℕ, zero, suc, List, [], ◌∷◌, ◌++◌, append-nil, length, length-append, map, Option, Result, Ok, Err, false, refl, sym, subst, ◌∙◌, ap, Some, None, slice_get, arith}
use Rattle.std.specs.Prelude.{All, IsPermutation, OnOk, is_err}
use Rattle.std.specs.Io.KnownBytes.{Consumes, Appends, Keeps}
use Rattle.std.proofs.lemmas.List.{map-append}
use Rattle.std.proofs.lemmas.List.Elements.{All-nil, All-cons, All-append}
use Rattle.std.proofs.lemmas.List.Sorted.{IsPermutation-append_right, IsPermutation-middle, IsPermutation-pop_more, IsPermutation-push_more, IsPermutation-refl, IsPermutation-sym, IsPermutation-trans}
use Rattle.nbd.specs.declared.End.{End}
use Rattle.nbd.specs.declared.End.TheVariants.{Left, Malformed, Input, Output}
use Rattle.nbd.specs.Session.{Begins, IsTold, said}
use Rattle.nbd.specs.Beside.{Account, EndsBeside, IsAccount, IsOfOne, IsTaken, Taken, Told, nothing_said, places, taken_bytes, told_bytes}
use Rattle.nbd.specs.Desks.{EndsWith, ReadsOne, TellsOne}
use Rattle.nbd.specs.inside.Beside.{HasServed}
use Rattle.nbd.proofs.Streaming.{takes_more, takes_nothing, tells_more, tells_nothing}
use Rattle.nbd.proofs.Serving.{begins_after, begins_with, said_append}

one_more : {X : Type 0} (f : X → List ℕ) (xs : List X) (x : X) → said f (xs ++ (x ∷ [])) ≡ said f xs ++ f x
one_more f xs x = said_append f xs (x ∷ []) ∙ ap (λ (l : List ℕ). said f xs ++ l) (append-nil (f x))

-- what stands at a place stays there behind one more
stays : {X : Type 0} (xs ys : List X) (k : ℕ) (x : X) → slice_get xs k ≡ Some x → slice_get (xs ++ ys) k ≡ Some x
stays [] ys k x at = absurd (cc (at))
stays (z ∷ xs) ys zero x at = at
stays (z ∷ xs) ys (suc k) x at = stays xs ys k x at

stays_of_one : (xs ys : List Taken) (t : Told) → IsOfOne xs t → IsOfOne (xs ++ ys) t
stays_of_one xs ys t of = record { one = of.one; at_place = stays xs ys t.place of.one of.at_place; named = of.named }

all_stay : (xs ys : List Taken) (ts : List Told) → All (IsOfOne xs) ts → All (IsOfOne (xs ++ ys)) ts
all_stay xs ys ts all k d lt = stays_of_one xs ys _ (all k d lt)

one_longer : {X : Type 0} (xs : List X) (x : X) → places (length (xs ++ (x ∷ []))) ≡ places (length xs) ++ (length xs ∷ [])
one_longer xs x = let e : length (xs ++ (x ∷ [])) ≡ suc (length xs) = length-append xs (x ∷ []) ∙ omega arith in ap places e

is_due : (n : ℕ) (told due due' : List ℕ) → IsPermutation (places n) (told ++ due) → IsPermutation (n ∷ due) due' → IsPermutation (places n ++ (n ∷ [])) (told ++ due')
is_due n told due due' h more =
    IsPermutation-push_more (places n) (told ++ due) (told ++ due') n h
    (IsPermutation-trans _ _ _ (IsPermutation-sym _ _ (IsPermutation-middle told n due)) (IsPermutation-append_right told (n ∷ due) due' more))

pub account_read : (i j : Option (List ℕ)) (a b : Account) → IsAccount a → ReadsOne i a j b → IsAccount b
account_read i j a b is r = record {
  are_taken = subst (All IsTaken) (sym r.more) (All-append IsTaken a.taken (r.one ∷ []) is.are_taken (All-cons IsTaken r.one [] r.is_taken (All-nil IsTaken)));
  of_one =
      subst (λ xs. All (IsOfOne xs) b.told) (sym r.more)
      (subst (All (IsOfOne (a.taken ++ (r.one ∷ [])))) (sym r.same) (all_stay a.taken (r.one ∷ []) a.told is.of_one));
  once =
      subst (λ xs. IsPermutation (places (length xs)) (map (λ (t : Told). t.place) b.told ++ b.due)) (sym r.more)
      (subst (λ ts. IsPermutation (places (length (a.taken ++ (r.one ∷ [])))) (map (λ (t : Told). t.place) ts ++ b.due)) (sym r.same)
      (subst (λ ps. IsPermutation ps (map (λ (t : Told). t.place) a.told ++ b.due)) (sym (one_longer a.taken r.one))
      (is_due (length a.taken) (map (λ (t : Told). t.place) a.told) a.due b.due is.once r.due)));
}

pub account_told : (i j : Option (List ℕ)) (a b : Account) (t : Told) → IsAccount a → TellsOne i a t j b → IsAccount b
account_told i j a b t is r = record {
  are_taken = subst (All IsTaken) (sym r.same) is.are_taken;
  of_one =
      subst (λ xs. All (IsOfOne xs) b.told) (sym r.same)
      (subst (All (IsOfOne a.taken)) (sym r.more) (All-append (IsOfOne a.taken) a.told (t ∷ []) is.of_one (All-cons (IsOfOne a.taken) t [] r.of_one (All-nil (IsOfOne a.taken)))));
  once =
      subst (λ xs. IsPermutation (places (length xs)) (map (λ (t : Told). t.place) b.told ++ b.due)) (sym r.same)
      (subst (λ ts. IsPermutation (places (length a.taken)) (map (λ (t : Told). t.place) ts ++ b.due)) (sym r.more)
      (subst (λ ps. IsPermutation (places (length a.taken)) (ps ++ b.due)) (sym (map-append (λ (t : Told). t.place) a.told (t ∷ [])))
      (IsPermutation-pop_more _ (map (λ (t : Told). t.place) a.told) a.due b.due t.place is.once r.due)));
}

pub reads_more : (i j k x y : Option (List ℕ)) (a b : Account) → HasServed i x a j y → ReadsOne j a k b → HasServed i x b k y
reads_more i j k x y a b s r = record {
  is_account = account_read j k a b s.is_account r;
  taken =
      subst (λ qs. Consumes i k (said taken_bytes qs)) (sym r.more)
      (subst (Consumes i k) (sym (one_more taken_bytes a.taken r.one)) (takes_more i j k (said taken_bytes a.taken) (taken_bytes r.one) s.taken r.bytes));
  written = subst (λ ts. Appends x y (said told_bytes ts)) (sym r.same) s.written;
}

pub tells_one : (i j j' x y z : Option (List ℕ)) (a b : Account) (t : Told) → HasServed i x a j y → TellsOne j a t j' b → Appends y z (told_bytes t) → HasServed i x b j' z
tells_one i j j' x y z a b t s r written = record {
  is_account = account_told j j' a b t s.is_account r;
  taken = subst (λ qs. Consumes i j' (said taken_bytes qs)) (sym r.same) (subst (λ l. Consumes i l (said taken_bytes a.taken)) (sym r.unread) s.taken);
  written =
      subst (λ ts. Appends x z (said told_bytes ts)) (sym r.more)
      (subst (Appends x z) (sym (one_more told_bytes a.told t)) (tells_more x y z (said told_bytes a.told) (told_bytes t) s.written written));
}

keeps_told : (x y z : Option (List ℕ)) (a : List ℕ) → Appends x y a → Keeps y z → Appends x z a
keeps_told None y z a h k = tt
keeps_told (Some xs) None z a h k = absurd h
keeps_told (Some xs) (Some ys) None a h k = absurd k
keeps_told (Some xs) (Some ys) (Some zs) a h k = k ∙ h

pub passes_on : (i j j' x y z : Option (List ℕ)) (a b : Account) → HasServed i x a j y → j' ≡ j → b ≡ a → Keeps y z → HasServed i x b j' z
passes_on i j j' x y z a b s here same k =
    subst (λ c. HasServed i x c j' z) (sym same)
    (subst (λ l. HasServed i x a l z) (sym here) (record { is_account = s.is_account; taken = s.taken; written = keeps_told x y z (said told_bytes a.told) s.written k }))

pub served_none : (i x : Option (List ℕ)) (a : Account) → a ≡ nothing_said → HasServed i x a i x
served_none i x a none = subst (λ c. HasServed i x c i x) (sym none) (record {
  is_account = record { are_taken = All-nil IsTaken; of_one = All-nil (IsOfOne []); once = IsPermutation-refl [] };
  taken = takes_nothing i;
  written = tells_nothing x;
})

told_by_end : (end : End) (x y : Option (List ℕ)) (a : List ℕ) → Appends x y a → IsTold end x y a
told_by_end Left x y a h = h
told_by_end Malformed x y a h = h
told_by_end Input x y a h = h
told_by_end Output x y a h = tt

-- what was said of a call that didn't fail
pub wrote : {X Y : Type 0} (r : Result X Y) (P : Type 0) → is_err r ≡ false → OnOk r P → P
wrote (Ok x) P e h = h
wrote (Err y) P e h = absurd (cc (e))

-- the session ends where it stands
pub ends_here : (i j x y z : Option (List ℕ)) (a b : Account) (end : End) → HasServed i x a j y → EndsWith j a end b → Keeps y z → EndsBeside i x b end z
ends_here i j x y z a b end s l k = subst (λ c. EndsBeside i x c end z) (sym l.same) (record {
  is_account = s.is_account;
  none_due = λ written. l.none_due;
  last = l.last;
  read = begins_after i j (said taken_bytes a.taken) l.last s.taken l.begins;
  written = told_by_end end x z (said told_bytes a.told) (keeps_told x y z (said told_bytes a.told) s.written k);
  is_last = l.is_last;
})

-- it ends since writing failed
unwritten : (i j x y z : Option (List ℕ)) (a b : Account) → HasServed i x a j y → IsAccount b → b.taken ≡ a.taken → EndsBeside i x b Output z
unwritten i j x y z a b s is same = record {
  is_account = is;
  none_due = λ written. absurd (written refl);
  last = [];
  read = subst (Begins i) (sym (append-nil _)) (subst (λ qs. Begins i (said taken_bytes qs)) (sym same) (begins_with i j (said taken_bytes a.taken) s.taken));
  written = tt;
  is_last = refl;
}

pub ends_untold : (i j j' x y z : Option (List ℕ)) (a b : Account) (t : Told) → HasServed i x a j y → TellsOne j a t j' b → EndsBeside i x b Output z
ends_untold i j j' x y z a b t s r = unwritten i j x y z a b s (account_told j j' a b t s.is_account r) r.same

pub ends_unflushed : (i j x y z : Option (List ℕ)) (a b : Account) → HasServed i x a j y → b ≡ a → EndsBeside i x b Output z
ends_unflushed i j x y z a b s same = subst (λ c. EndsBeside i x c Output z) (sym same) (unwritten i j x y z a a s s.is_account refl)

pub ends_unended : (i j x y z : Option (List ℕ)) (a b : Account) (end : End) → HasServed i x a j y → EndsWith j a end b → EndsBeside i x b Output z
ends_unended i j x y z a b end s l = ends_unflushed i j x y z a b s l.same
