-- States and what turns make of them.
use Rattle.std.proofs.Common.{◌≡◌, ◌<◌, ◌≤◌, ◌⊎◌, inl, inr, ℕ, zero, suc, ◌+◌, List, [], ◌∷◌, ◌++◌, Option, Some, None, refl, sym, ◌∙◌, ap, subst, arith, length, get_or}
use Rattle.std.proofs.lemmas.Bool.{cases_lt}
use Rattle.loss.specs.Held.{ChangeOf, IsOneOf}
use Rattle.register_loss.specs.declared.Open.{Open}
use Rattle.register_loss.specs.declared.Turn.{Turn}
use Rattle.register_loss.specs.declared.Turn.TheVariants.{Acts, Fails}
use Rattle.register_loss.specs.Schedules.{Unseen, Register, Turns, change_of}
use Rattle.register_loss_judge.specs.declared.states.State.{State}
use Rattle.register_loss_judge.specs.inside.States.{changed_if, form, forms, turned, turned_to, turns_onto, with_some}
use Rattle.register_loss_judge.specs.inside.Covering.{InsertsAll}
use Rattle.register_loss_search.specs.Covering.{IsKept}
use Rattle.register_loss_search.specs.Searching.{Closes, Grows}
use Rattle.register_loss_search.proofs.Listing.{one_either, one_left, one_right}
use Rattle.register_loss_search.proofs.Searching.{leads_join, seen_join}
use Rattle.register_loss_judge.proofs.Inserting.{kept_more}

-- TURNS

some_kept : {X : Type 0} (x : X) (xs : List X) (m : Option X) → IsOneOf x xs → IsOneOf x (with_some xs m)
some_kept x xs None h = h
some_kept x xs (Some y) h = one_left x xs (y ∷ []) h

some_new : {X : Type 0} (x : X) (xs : List X) (m : Option X) → m ≡ Some x → IsOneOf x (with_some xs m)
some_new x xs m e = subst (λ o. IsOneOf x (with_some xs o)) (sym e) (one_right x xs (x ∷ []) (inl refl))

some_from : {X : Type 0} (x : X) (xs : List X) (m : Option X) → IsOneOf x (with_some xs m) → IsOneOf x xs ⊎ (m ≡ Some x)
some_from x xs None h = inl h
some_from x xs (Some y) h = elim (one_either x xs (y ∷ []) h) [ inl a ↦ inl a | inr (inl e) ↦ inr (ap Some (sym e)) | inr (inr none) ↦ absurd none ]

turns_kept : (r f : Register) (rs : List Register) (os : List Open) → IsOneOf f rs → IsOneOf f (turns_onto r rs os)
turns_kept r f rs [] h = h
turns_kept r f rs (o ∷ os) h = turns_kept r f (with_some (with_some rs (turned Acts r o)) (turned Fails r o)) os (some_kept f (with_some rs (turned Acts r o)) (turned Fails r o) (some_kept f rs (turned Acts r o) h))

both_there : (turn : Turn) (r f : Register) (rs : List Register) (o : Open) → turned turn r o ≡ Some f → IsOneOf f (with_some (with_some rs (turned Acts r o)) (turned Fails r o))
both_there Acts r f rs o e = some_kept f (with_some rs (turned Acts r o)) (turned Fails r o) (some_new f rs (turned Acts r o) e)
both_there Fails r f rs o e = some_new f (with_some rs (turned Acts r o)) (turned Fails r o) e

turns_there : (turn : Turn) (r f : Register) (rs : List Register) (o : Open) (os : List Open) → IsOneOf o os → turned turn r o ≡ Some f → IsOneOf f (turns_onto r rs os)
turns_there turn r f rs o [] h e = absurd h
turns_there turn r f rs o (p ∷ os) (inl is) e =
    turns_kept r f (with_some (with_some rs (turned Acts r p)) (turned Fails r p)) os (both_there turn r f rs p (subst (λ q. turned turn r q ≡ Some f) is e))
turns_there turn r f rs o (p ∷ os) (inr h) e = turns_there turn r f (with_some (with_some rs (turned Acts r p)) (turned Fails r p)) o os h e

-- a turn of one of these
abbrev TurnsOf : Register → Register → List Open → Type 0
TurnsOf r f os = (turn : Turn) × (o : Open) × IsOneOf o os × (turned turn r o ≡ Some f)

turns_from : (r f : Register) (rs : List Register) (os : List Open) → IsOneOf f (turns_onto r rs os) → IsOneOf f rs ⊎ TurnsOf r f os
turns_from r f rs [] h = inl h
turns_from r f rs (o ∷ os) h = elim (turns_from r f (with_some (with_some rs (turned Acts r o)) (turned Fails r o)) os h) [
  | inr later ↦ inr (later.0, later.1, inr later.2, later.3)
  | inl before ↦ elim (some_from f (with_some rs (turned Acts r o)) (turned Fails r o) before) [
    | inr fails ↦ inr (Fails, o, inl refl, fails)
    | inl sooner ↦ elim (some_from f rs (turned Acts r o) sooner) [ inr acts ↦ inr (Acts, o, inl refl, acts) | inl first ↦ inl first ]
  ]
]

turns_by : (turn : Turn) (r f : Register) (o : Open) → IsOneOf o r.waits → (m : Option (ChangeOf ℕ)) → change_of turn o ≡ m → turned_to turn r o (changed_if r.next m r.held) ≡ Some f → Turns turn r f
turns_by turn r f o h None is e = absurd (cc (e))
turns_by turn r f o h (Some change) is e = record { of = o; waits = h; change = change; may = is; after = cc (e) }

-- what is made of a register is what turns lead to
pub are_turns : (r f : Register) → IsOneOf f (turns_onto r [] r.waits) → (turn : Turn) × Turns turn r f
are_turns r f h = elim (turns_from r f [] r.waits h) [
  | inl none ↦ absurd none
  | inr (turn, o, has, e) ↦ (turn, turns_by turn r f o has (change_of turn o) refl e)
]

pub turns_are : (turn : Turn) (r f : Register) → Turns turn r f → IsOneOf f (turns_onto r [] r.waits)
turns_are turn r f t =
    turns_there turn r f [] t.of r.waits t.waits
    (subst (λ m. turned_to turn r t.of (changed_if r.next m r.held) ≡ Some f) (sym t.may) (ap Some (sym t.after)))

-- RUNS

grows_self : (from : List Register) (f : Register) → IsOneOf f from → Grows from f
grows_self from f h = record { first = f; has = h; events = []; leads = refl; unseen = refl }

grows_by : (from : List Register) (f g : Register) (turn : Turn) → Grows from f → Turns turn f g → Grows from g
grows_by from f g turn h t = record {
  first = h.first;
  has = h.has;
  events = h.events ++ Unseen turn ∷ [];
  leads = leads_join h.first f g h.events (Unseen turn ∷ []) h.leads (g, t, refl);
  unseen = seen_join h.events (Unseen turn ∷ []) ∙ ap (λ xs. xs ++ []) h.unseen;
}

-- THE LOOP

-- the turns of the first so many are there
pub record ClosesSoFar (from : List Register) (index : ℕ) (all : List State) : Type 0 where
  pub begun : (g : Register) → IsOneOf g from → IsKept (forms all) g
  pub grown : (f : Register) → IsOneOf f (forms all) → Grows from f
  pub closed : (k : ℕ) (d : State) → k < index → k < length all → (turn : Turn) (g : Register) → Turns turn (form (get_or all k d)) g → IsKept (forms all) g

pub closes_first : (from : List Register) (all : List State) → InsertsAll [] from (forms all) → ClosesSoFar from 0 all
closes_first from all h = record {
  begun = h.kept;
  grown = λ f there. grows_self from f (h.among f (subst (λ xs. IsOneOf f xs) h.is there));
  closed = λ k d low within turn g t. absurd (omega arith);
}

-- the same states stand in front
same_front : (all new : List State) (more : List Register) → forms new ≡ forms all ++ more → (k : ℕ) (d : State) → k < length all → form (get_or new k d) ≡ form (get_or all k d)
same_front [] new more e k d low = absurd (omega arith)
same_front (x ∷ all) [] more e k d low = absurd (cc (e))
same_front (x ∷ all) (y ∷ new) more e zero d low = cc (e)
same_front (x ∷ all) (y ∷ new) more e (suc k) d low = same_front all new more (cc (e)) k d (omega arith)

pub closes_next : (from : List Register) (index : ℕ) (all new : List State) (state : State) (turns : List Register) → index < length all → state ≡ get_or all index state → turns ≡ turns_onto (form state) [] state.waits.items
    → ClosesSoFar from index all → InsertsAll (forms all) turns (forms new) → ClosesSoFar from (index + 1) new
closes_next from index all new state turns low is made h more = record {
  begun = λ g there. too g (h.begun g there);
  grown = λ f there. elim (one_either f (forms all) more.more (subst (λ xs. IsOneOf f xs) more.is there)) [
    | inl before ↦ h.grown f before
    | inr added ↦ let t : (turn : Turn) × Turns turn (form state) f = are_turns (form state) f (subst (λ xs. IsOneOf f xs) made (more.among f added)) in grows_by from (form state) f t.0 (h.grown (form state) here) t.1
  ];
  closed = closed;
}
  where
    too : (g : Register) → IsKept (forms all) g → IsKept (forms new) g
    too g k = subst (λ xs. IsKept xs g) (sym more.is) (kept_more (forms all) more.more g k)

    here_by : (all : List State) (k : ℕ) → k < length all → state ≡ get_or all k state → IsOneOf (form state) (forms all)
    here_by [] k low is = absurd (omega arith)
    here_by (x ∷ all) zero low is = inl (ap form is)
    here_by (x ∷ all) (suc k) low is = inr (here_by all k (omega arith) is)

    here : IsOneOf (form state) (forms all)
    here = here_by all index low is

    any_there : (xs : List State) (k : ℕ) (d e : State) → k < length xs → get_or xs k d ≡ get_or xs k e
    any_there [] k d e low = absurd (omega arith)
    any_there (x ∷ xs) zero d e low = refl
    any_there (x ∷ xs) (suc k) d e low = any_there xs k d e (omega arith)

    closed_by : (k : ℕ) (d : State) → k < index + 1 → (k < index) ⊎ (index ≤ k) → (turn : Turn) (g : Register) → Turns turn (form (get_or new k d)) g → IsKept (forms new) g
    closed_by k d early (inl before) turn g t =
        let at : form (get_or new k d) ≡ form (get_or all k d) = same_front all new more.more more.is k d (omega (arith, low, before)) in
        too g (h.closed k d before (omega (arith, low, before)) turn g (subst (λ r. Turns turn r g) at t))
    closed_by k d early (inr late) turn g t =
        let this : k ≡ index = omega (arith, early, late) in
        let at : form (get_or new k d) ≡ form (get_or all k d) = same_front all new more.more more.is k d (omega (arith, low, this)) in
        let mine : form (get_or all k d) ≡ form state = ap form (any_there all k d state (omega (arith, low, this)) ∙ ap (λ j. get_or all j state) this ∙ sym is) in
        more.kept g (subst (λ xs. IsOneOf g xs) (sym made) (turns_are turn (form state) g (subst (λ r. Turns turn r g) (at ∙ mine) t)))

    closed : (k : ℕ) (d : State) → k < index + 1 → k < length new → (turn : Turn) (g : Register) → Turns turn (form (get_or new k d)) g → IsKept (forms new) g
    closed k d early within turn g t = closed_by k d early (cases_lt k index) turn g t

form_at : (states : List State) (f : Register) → IsOneOf f (forms states) → (k : ℕ) × (k < length states) × ((d : State) → f ≡ form (get_or states k d))
form_at [] f h = absurd h
form_at (s ∷ states) f (inl e) = (0, omega arith, λ d. e)
form_at (s ∷ states) f (inr h) = let at : (k : ℕ) × (k < length states) × ((d : State) → f ≡ form (get_or states k d)) = form_at states f h in (suc at.0, more at.1, at.2)
  where
    more : {k n : ℕ} → k < n → suc k < suc n
    more h = omega arith

pub closes : (from : List Register) (index : ℕ) (all : List State) → length all ≤ index → ClosesSoFar from index all → Closes from (forms all)
closes from index all past h = record {
  begun = h.begun;
  grown = h.grown;
  closed = λ f there turn g t. by f (form_at all f there) turn g t;
}
  where
    state_of : (xs : List State) (k : ℕ) → k < length xs → State
    state_of [] k low = absurd (omega arith)
    state_of (x ∷ xs) k low = x

    by : (f : Register) → (k : ℕ) × (k < length all) × ((d : State) → f ≡ form (get_or all k d)) → (turn : Turn) (g : Register) → Turns turn f g → IsKept (forms all) g
    by f (k, low, is) turn g t =
        let d : State = state_of all k low in
        h.closed k d (omega (arith, low, past)) low turn g (subst (λ r. Turns turn r g) (is d) t)
