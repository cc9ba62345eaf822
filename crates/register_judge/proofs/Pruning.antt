-- What is left of forms of which some make others needless.
use Rattle.std.proofs.Common.{◌≡◌, ◌<◌, ◌≤◌, ◌⊎◌, inl, inr, ℕ, zero, suc, ◌+◌, ◌==◌, ◌&&◌, ◌||◌, Bool, true, false, not, List, [], ◌∷◌, ◌++◌, Option, None, refl, sym, ◌∙◌, ap, subst, arith, get_or, length, take, eq-eqb}
use Rattle.std.specs.Prelude.{All, Contains, MatchOption}
use Rattle.std.specs.List.{list_any}
use Rattle.std.proofs.lemmas.Bool.{cases_Bool, and_parts, and_from, eqb-true}
use Rattle.std.proofs.lemmas.List.{take_more, take_all}
use Rattle.std.proofs.lemmas.List.Elements.{All-nil, All-append, All-cons, All-contains, Contains-append_left, Contains-push, Contains-push_cases}
use Rattle.register.specs.declared.Sight.{Sight}
use Rattle.register.specs.declared.Sight.TheVariants.{Done, Failed}
use Rattle.register.specs.Schedules.{Event, Seen, Effect, seen_of, value_after, IsNoEnd}
use Rattle.register_judge.specs.declared.states.Waiting.{Waiting}
use Rattle.register_judge.specs.declared.states.State.{State}
use Rattle.register_judge.specs.inside.States.{Form, form_of, forms_of, is_number}
use Rattle.register_judge.specs.inside.Covering.{is_later, may_wait, is_there, MayHave, Covers, IsCovered, Prunes}
use Rattle.register_judge.proofs.Listing.{Has, has_left, has_new, has_last, contains_has}
use Rattle.register_judge.proofs.Events.{HasEffect, call_of, further, newest, first_or_behind, behind}
use Rattle.register_judge.proofs.Matching.{IsKnown, Source, Settled, Pending, IsMatch}
use Rattle.register_judge.proofs.Reaching.{IsReal}
use Rattle.register_judge.proofs.Adding.{forms_more}

-- LISTS

pub has_contains : {X : Type 0} (xs : List X) (x : X) → Has xs x → Contains xs x
has_contains [] x h = absurd h
has_contains (y ∷ xs) x (inl e) = (0, omega arith, e)
has_contains (y ∷ xs) x (inr h) = further y xs x (has_contains xs x h)

all_of : {X : Type 0} (P : X → Type 0) (xs : List X) → ((x : X) → Has xs x → P x) → All P xs
all_of P [] h = All-nil P
all_of P (x ∷ xs) h = All-cons P x xs (h x (inl refl)) (all_of P xs (λ y there. h y (inr there)))

pub form_there : (states : List State) (i : ℕ) (s : State) → i < length states → s ≡ get_or states i s → Contains (forms_of states) (form_of s)
form_there [] i s low is = absurd (omega arith)
form_there (x ∷ states) zero s low is = (0, omega arith, ap form_of (sym is))
form_there (x ∷ states) (suc i) s low is = further (form_of x) (forms_of states) (form_of s) (form_there states i s (omega arith) is)

pub all_more : {X : Type 0} (P : X → Type 0) (xs : List X) (i : ℕ) (d : X) → i < length xs → All P (take i xs) → P (get_or xs i d) → All P (take (i + 1) xs)
all_more P xs i d low all h = subst (All P) (sym (take_more xs i d low)) (All-append P (take i xs) (get_or xs i d ∷ []) all (All-cons P (get_or xs i d) [] h (All-nil P)))

pub all_taken : {X : Type 0} (P : X → Type 0) (xs : List X) (i : ℕ) → length xs ≤ i → All P (take i xs) → All P xs
all_taken P xs i end h = subst (All P) (take_all i xs end) h

pub or_left : (a b : Bool) → a ≡ true → a || b ≡ true
or_left true b h = refl
or_left false b h = absurd (cc (h))

pub or_right : (a b : Bool) → b ≡ true → a || b ≡ true
or_right true b h = refl
or_right false b h = h

or_cases : (a b : Bool) → a || b ≡ true → (a ≡ true) ⊎ (b ≡ true)
or_cases true b h = inl refl
or_cases false b h = inr h

not_true : (a : Bool) → not a ≡ true → a ≡ false
not_true true h = absurd (cc (h))
not_true false h = refl

no_both : (a : Bool) → a ≡ true → a ≡ false → ⊥
no_both true h e = absurd (cc (e))
no_both false h e = absurd (cc (h))

any_of : {X : Type 0} (f : X → Bool) (xs : List X) (x : X) → Has xs x → f x ≡ true → list_any f xs ≡ true
any_of f [] x h e = absurd h
any_of f (y ∷ xs) x (inl is) e = or_left (f y) (list_any f xs) (ap f is ∙ e)
any_of f (y ∷ xs) x (inr h) e = or_right (f y) (list_any f xs) (any_of f xs x h e)

pub any_at : {X : Type 0} (f : X → Bool) (xs : List X) (i : ℕ) (d : X) → i < length xs → f (get_or xs i d) ≡ true → list_any f xs ≡ true
any_at f [] i d low e = absurd (omega (arith, low))
any_at f (y ∷ xs) zero d low e = or_left (f y) (list_any f xs) e
any_at f (y ∷ xs) (suc i) d low e = or_right (f y) (list_any f xs) (any_at f xs i d (omega (arith, low)) e)

any_from : {X : Type 0} (f : X → Bool) (xs : List X) → list_any f xs ≡ true → (x : X) × Has xs x × (f x ≡ true)
any_from f [] e = absurd (cc (e))
any_from f (y ∷ xs) e = elim (or_cases (f y) (list_any f xs) e) [
  | inl here ↦ (y, inl refl, here)
  | inr there ↦ let found : (x : _) × Has xs x × (f x ≡ true) = any_from f xs there in (found.0, inr found.1, found.2)
]

-- A FORM COVERS ITSELF

later_self : (o : Waiting) → is_later o o ≡ true
later_self o = and_from _ _ (eq-eqb o.number o.number refl) (own o.is_old)
  where
    own : (b : Bool) → b || not b ≡ true
    own true = refl
    own false = refl

have_self : (f : Form) → MayHave f f
have_self f = elim (cases_Bool f.any) [ inl any ↦ inl any | inr one ↦ inr (one, refl) ]

covers_self : (f : Form) → Covers f f
covers_self f = record {
  value = have_self f;
  wait = all_of (λ o. may_wait f.waits o ≡ true) f.waits (λ o h. or_right (o.writes && o.is_old) (list_any (is_later o) f.waits) (any_of (is_later o) f.waits o h (later_self o)));
  there = all_of (λ x. is_there f.waits x ≡ true) f.waits (λ x h. or_right (not x.writes) (list_any (is_number x.number) f.waits) (any_of (is_number x.number) f.waits x h (eq-eqb x.number x.number refl)));
}

pub prunes_self : (forms : List Form) → Prunes forms forms
prunes_self forms = record { among = λ f h. h; covered = λ g h. (g, h, covers_self g) }

-- THE LOOP

-- each form is among those that are looked at later, or is covered by what is left
pub record PrunesSoFar (old rest left : List Form) : Type 0 where
  pub later : (f : Form) → Contains rest f → Contains old f
  pub among : (f : Form) → Contains left f → Contains old f
  pub covered : (g : Form) → Contains old g → Contains rest g ⊎ IsCovered left g

pub so_far_none : (old : List Form) → PrunesSoFar old old []
so_far_none old = record { later = λ f h. h; among = λ f h. absurd (contains_has [] f h); covered = λ g h. inl h }

more_covered : (left : List Form) (x g : Form) → IsCovered left g → IsCovered (left ++ x ∷ []) g
more_covered left x g (f, there, covers) = (f, Contains-append_left left (x ∷ []) f there, covers)

module _ (old : List Form) (states rest left : List State) (state : State) (is : states ≡ rest ++ state ∷ []) (h : PrunesSoFar old (forms_of states) (forms_of left)) where
  forms_are : forms_of states ≡ forms_of rest ++ form_of state ∷ []
  forms_are = ap forms_of is ∙ forms_more rest state

  later_of : (f : Form) → Contains (forms_of rest) f → Contains old f
  later_of f there = h.later f (subst (λ fs. Contains fs f) (sym forms_are) (Contains-append_left (forms_of rest) (form_of state ∷ []) f there))

  here : Contains old (form_of state)
  here = h.later (form_of state) (subst (λ fs. Contains fs (form_of state)) (sym forms_are) (Contains-push (forms_of rest) (form_of state)))

  pub so_far_passed : IsCovered (forms_of left) (form_of state) → PrunesSoFar old (forms_of rest) (forms_of left)
  so_far_passed covered = record {
    later = later_of;
    among = h.among;
    covered = λ g there. elim (h.covered g there) [
      | inl waits ↦ elim (Contains-push_cases (forms_of rest) (form_of state) g (subst (λ fs. Contains fs g) forms_are waits)) [
        | inl sooner ↦ inl sooner
        | inr same ↦ inr (subst (IsCovered (forms_of left)) same covered)
      ]
      | inr before ↦ inr before
    ];
  }

  pub so_far_pushed : (new : List State) → new ≡ left ++ state ∷ [] → PrunesSoFar old (forms_of rest) (forms_of new)
  so_far_pushed new made = subst (λ fs. PrunesSoFar old (forms_of rest) fs) (sym (ap forms_of made ∙ forms_more left state)) (record {
    later = later_of;
    among = λ f there. elim (Contains-push_cases (forms_of left) (form_of state) f there) [ inl before ↦ h.among f before | inr same ↦ subst (Contains old) same here ];
    covered = λ g there. elim (h.covered g there) [
      | inl waits ↦ elim (Contains-push_cases (forms_of rest) (form_of state) g (subst (λ fs. Contains fs g) forms_are waits)) [
        | inl sooner ↦ inl sooner
        | inr same ↦ inr (subst (IsCovered (forms_of left ++ form_of state ∷ [])) same (form_of state, Contains-push (forms_of left) (form_of state), covers_self (form_of state)))
      ]
      | inr before ↦ inr (more_covered (forms_of left) (form_of state) g before)
    ];
  })

pub none_left : (states : List State) (count : ℕ) → count ≡ length states → count ≡ 0 → states ≡ []
none_left [] count is none = refl
none_left (s ∷ states) count is none = absurd (omega arith)

pub zero_of : (popped : Option State) (a b : ℕ) (Q : State → Type 0) → popped ≡ None → MatchOption popped ((a ≡ 0) × (b ≡ 0)) Q → a ≡ 0
zero_of popped a b Q is h = (subst (λ o. MatchOption o ((a ≡ 0) × (b ≡ 0)) Q) is h).0

pub so_far_all : (old left : List Form) (states : List State) → states ≡ [] → PrunesSoFar old (forms_of states) left → Prunes old left
so_far_all old left states none h = record {
  among = h.among;
  covered = λ g there. elim (h.covered g there) [
    | inl waits ↦ absurd (contains_has [] g (subst (λ xs. Contains (forms_of xs) g) none waits))
    | inr covered ↦ covered
  ];
}

-- SIGHTS

pub seen_has : (past : List Event) (x : Sight) → Contains past (Seen x) → Has (seen_of past) x
seen_has [] x c = absurd (contains_has [] (Seen x) c)
seen_has (Seen y ∷ past) x c = elim (first_or_behind (Seen y) past (Seen x) c) [
  | inl e ↦ let same : y ≡ x = cc (e) in subst (Has (seen_of past ++ y ∷ [])) same (has_new (seen_of past) y)
  | inr there ↦ has_left (seen_of past) (y ∷ []) x (seen_has past x there)
]
seen_has (Effect n v ∷ past) x c = seen_has past x (behind (Effect n v) past (Seen x) (λ e. cc (e)) c)

pub has_seen : (past : List Event) (x : Sight) → Has (seen_of past) x → Contains past (Seen x)
has_seen [] x h = absurd h
has_seen (Seen y ∷ past) x h = elim (has_last (seen_of past) y x h) [
  | inl before ↦ further (Seen y) past (Seen x) (has_seen past x before)
  | inr same ↦ subst (λ z. Contains (Seen y ∷ past) (Seen z)) same (newest (Seen y) past)
]
has_seen (Effect n v ∷ past) x h = further (Effect n v) past (Seen x) (has_seen past x h)

no_ends : (n : ℕ) (past : List Event) → ((x : Sight) → Has (seen_of past) x → IsNoEnd n (Seen x)) → All (IsNoEnd n) past
no_ends n [] h = All-nil (IsNoEnd n)
no_ends n (Seen y ∷ past) h = All-cons (IsNoEnd n) (Seen y) past (h y (has_new (seen_of past) y)) (no_ends n past (λ x there. h x (has_left (seen_of past) (y ∷ []) x there)))
no_ends n (Effect m v ∷ past) h = All-cons (IsNoEnd n) (Effect m v) past tt (no_ends n past h)

ends_alike : (n : ℕ) (past other : List Event) → seen_of past ≡ seen_of other → All (IsNoEnd n) past → All (IsNoEnd n) other
ends_alike n past other same all = no_ends n other (λ x there. All-contains (IsNoEnd n) past (Seen x) all (has_seen past x (subst (λ xs. Has xs x) (sym same) there)))

-- each number was called once, and up to the last one
pub record IsTidy (last : ℕ) (sights : List Sight) : Type 0 where
  pub low : (writes : Bool) (n v : ℕ) → Has sights (call_of writes n v) → n ≤ last
  pub one : (a : Bool) (n v : ℕ) (b : Bool) (w : ℕ) → Has sights (call_of a n v) → Has sights (call_of b n w) → (a ≡ b) × (v ≡ w)

pub tidy_first : (last : ℕ) → IsTidy last []
tidy_first last = record { low = λ writes n v h. absurd h; one = λ a n v b w h h'. absurd h }

same_call : (a : Bool) (n v : ℕ) (b : Bool) (m w : ℕ) → call_of a n v ≡ call_of b m w → (n ≡ m) × (a ≡ b) × (v ≡ w)
same_call true n v true m w e = (cc (e), refl, cc (e))
same_call false n v false m w e = (cc (e), refl, cc (e))
same_call true n v false m w e = absurd (cc (e))
same_call false n v true m w e = absurd (cc (e))

pub tidy_call : (last : ℕ) (sights : List Sight) (writes : Bool) (n v : ℕ) → last < n → IsTidy last sights → IsTidy n (sights ++ call_of writes n v ∷ [])
tidy_call last sights writes n v newer t = record {
  low = λ a m u h. elim (has_last sights (call_of writes n v) (call_of a m u) h) [
    | inl before ↦ let low : m ≤ last = t.low a m u before in omega arith
    | inr same ↦ let is : n ≡ m = (same_call writes n v a m u same).0 in omega arith
  ];
  one = λ a m u b w h h'. elim (has_last sights (call_of writes n v) (call_of a m u) h) [
    | inl before ↦ elim (has_last sights (call_of writes n v) (call_of b m w) h') [
      | inl before' ↦ t.one a m u b w before before'
      | inr same' ↦ absurd (over m (t.low a m u before) (same_call writes n v b m w same').0)
    ]
    | inr same ↦ elim (has_last sights (call_of writes n v) (call_of b m w) h') [
      | inl before' ↦ absurd (over m (t.low b m w before') (same_call writes n v a m u same).0)
      | inr same' ↦
          let x : (n ≡ m) × (writes ≡ a) × (v ≡ u) = same_call writes n v a m u same in
          let y : (n ≡ m) × (writes ≡ b) × (v ≡ w) = same_call writes n v b m w same' in
          (sym x.1 ∙ y.1, sym x.2 ∙ y.2)
    ]
  ];
}
  where
    over : (m : ℕ) → m ≤ last → n ≡ m → ⊥
    over m low is = absurd (omega arith)

pub tidy_end : (last : ℕ) (sights : List Sight) (x : Sight) → ((a : Bool) (n v : ℕ) → x ≡ call_of a n v → ⊥) → IsTidy last sights → IsTidy last (sights ++ x ∷ [])
tidy_end last sights x other t = record {
  low = λ a n v h. elim (has_last sights x (call_of a n v) h) [ inl before ↦ t.low a n v before | inr same ↦ absurd (other a n v same) ];
  one = λ a n v b w h h'. elim (has_last sights x (call_of a n v) h) [
    | inl before ↦ elim (has_last sights x (call_of b n w) h') [ inl before' ↦ t.one a n v b w before before' | inr same ↦ absurd (other b n w same) ]
    | inr same ↦ absurd (other a n v same)
  ];
}

pub done_no_call : (m : ℕ) (a : Bool) (n v : ℕ) → Done m ≡ call_of a n v → ⊥
done_no_call m true n v e = cc (e)
done_no_call m false n v e = cc (e)

pub failed_no_call : (m : ℕ) (a : Bool) (n v : ℕ) → Failed m ≡ call_of a n v → ⊥
failed_no_call m true n v e = cc (e)
failed_no_call m false n v e = cc (e)

-- WHAT COVERS A FORM MATCHES WHAT THAT MATCHES

module _ (start last : ℕ) (numbers : List ℕ) (sights : List Sight) (f g : Form) (r : IsReal start last numbers sights f) (tidy : IsTidy last sights) (same_value : f.value ≡ g.value)
    (waits_are : All (λ o. may_wait g.waits o ≡ true) f.waits) (there_are : All (λ x. is_there f.waits x ≡ true) g.waits) (past : List Event)
    (seen : seen_of past ≡ sights) (m : IsMatch start past g) where
  alike_seen : seen_of r.events ≡ seen_of past
  alike_seen = r.seen ∙ sym seen

  known_f : (o : Waiting) → Has f.waits o → IsKnown past o
  known_f o h = record {
    called = has_seen past (call_of o.writes o.number o.value) (subst (λ xs. Has xs (call_of o.writes o.number o.value)) alike_seen (seen_has r.events (call_of o.writes o.number o.value) (r.stands.fresh o h).called));
    awaits = ends_alike o.number r.events past alike_seen (r.stands.fresh o h).awaits;
  }

  in_sights : (x : Sight) → Contains past (Seen x) → Has sights x
  in_sights x there = subst (λ xs. Has xs x) seen (seen_has past x there)

  kinds_f : (o : Waiting) → Has f.waits o → (writes : Bool) (v : ℕ) → Contains past (Seen (call_of writes o.number v)) → (o.writes ≡ writes) × (o.value ≡ v)
  kinds_f o h writes v there = tidy.one o.writes o.number o.value writes v (in_sights (call_of o.writes o.number o.value) (known_f o h).called) (in_sights (call_of writes o.number v) there)

  -- what waits in both forms is one operation
  alike : (o x : Waiting) → Has f.waits o → Has g.waits x → x.number ≡ o.number → (o.writes ≡ x.writes) × (o.value ≡ x.value)
  alike o x h h' e = kinds_f o h x.writes x.value (subst (λ n. Contains past (Seen (call_of x.writes n x.value))) e (m.known x h').called)

  abbrev IsHere : Waiting → Type 0
  IsHere o = (x : Waiting) × Has g.waits x × (x.number ≡ o.number) × (o.is_old ≡ false → x.is_old ≡ false)

  wait_at : (o : Waiting) → Has f.waits o → may_wait g.waits o ≡ true
  wait_at o h = All-contains (λ y. may_wait g.waits y ≡ true) f.waits o waits_are (has_contains f.waits o h)

  wait_cases : (o : Waiting) → Has f.waits o → ((o.writes ≡ true) × (o.is_old ≡ true)) ⊎ IsHere o
  wait_cases o h = elim (or_cases (o.writes && o.is_old) (list_any (is_later o) g.waits) (wait_at o h)) [
    | inl free ↦ inl (and_parts o.writes o.is_old free)
    | inr any ↦ inr (here_by (any_from (is_later o) g.waits any))
  ]
    where
      here_by : ((x : Waiting) × Has g.waits x × (is_later o x ≡ true)) → IsHere o
      here_by (x, has, later) =
          let parts : ((x.number == o.number) ≡ true) × ((o.is_old || not x.is_old) ≡ true) = and_parts (x.number == o.number) (o.is_old || not x.is_old) later in
          (x, has, eqb-true x.number o.number parts.0, λ new. elim (or_cases o.is_old (not x.is_old) parts.1) [ inl old ↦ absurd (no_both o.is_old old new) | inr not_old ↦ not_true x.is_old not_old ])

  there_at : (x : Waiting) → Has g.waits x → x.writes ≡ true → (o : Waiting) × Has f.waits o × (o.number ≡ x.number)
  there_at x h w = elim (or_cases (not x.writes) (list_any (is_number x.number) f.waits) (All-contains (λ y. is_there f.waits y ≡ true) g.waits x there_are (has_contains g.waits x h))) [
    | inl reads ↦ absurd (no_both x.writes w (not_true x.writes reads))
    | inr any ↦ let found : (o : Waiting) × Has f.waits o × (is_number x.number o ≡ true) = any_from (is_number x.number) f.waits any in (found.0, found.1, eqb-true found.0.number x.number found.2)
  ]

  source : (o x : Waiting) → Has f.waits o → Has g.waits x → x.number ≡ o.number → Source past g.waits x → Source past f.waits o
  source o x h h' e s =
      let at : (w : Waiting) × Has f.waits w × (w.number ≡ s.write.number) = there_at s.write s.has s.writes in
      let one : (at.0.writes ≡ s.write.writes) × (at.0.value ≡ s.write.value) = alike at.0 s.write at.1 s.has (sym at.2) in record {
        write = at.0;
        has = at.1;
        writes = one.0 ∙ s.writes;
        acted = subst (λ u. Contains past (Effect at.0.number u)) (sym (alike o x h h' e).1) (subst (λ n. Contains past (Effect n x.value)) (sym at.2) s.acted);
      }

  -- an operation that is old where it waits in the other form is so here
  old_too : (o x : Waiting) → (o.is_old ≡ false → x.is_old ≡ false) → x.is_old ≡ true → o.is_old ≡ true
  old_too o x later old = elim (cases_Bool o.is_old) [ inl is ↦ is | inr new ↦ absurd (no_both x.is_old old (later new)) ]

  settled : Settled start past g → Settled start past f
  settled s = record {
    value = s.value ∙ sym same_value;
    writes = λ o h w acted. elim (wait_cases o h) [
      | inl free ↦ free.1
      | inr (x, h', e, later) ↦ old_too o x later (s.writes x h' (sym (alike o x h h' e).0 ∙ w) (subst (λ n. HasEffect n past) (sym e) acted))
    ];
    reads = λ o h reads acted. elim (wait_cases o h) [
      | inl free ↦ absurd (no_both o.writes free.0 reads)
      | inr (x, h', e, later) ↦
          let there : (x.is_old ≡ true) × Source past g.waits x = s.reads x h' (sym (alike o x h h' e).0 ∙ reads) (subst (λ n. HasEffect n past) (sym e) acted) in
          (old_too o x later there.0, source o x h h' e there.1)
    ];
  }

  pending : Pending start past g → Pending start past f
  pending p =
      let at : (w : Waiting) × Has f.waits w × (w.number ≡ p.write.number) = there_at p.write p.has p.writes in
      let one : (at.0.writes ≡ p.write.writes) × (at.0.value ≡ p.write.value) = alike at.0 p.write at.1 p.has (sym at.2) in record {
        write = at.0;
        has = at.1;
        writes = one.0 ∙ p.writes;
        acted = subst (λ n. Contains past (Effect n (value_after start past))) (sym at.2) p.acted;
        reads = λ o h reads acted. elim (wait_cases o h) [
          | inl free ↦ absurd (no_both o.writes free.0 reads)
          | inr (x, h', e, later) ↦ source o x h h' e (p.reads x h' (sym (alike o x h h' e).0 ∙ reads) (subst (λ n. HasEffect n past) (sym e) acted))
        ];
      }

  pub match_covered : IsMatch start past f
  match_covered = record {
    known = known_f;
    there = λ n v call awaits none.
        let at : (x : Waiting) × Has g.waits x × (x.number ≡ n) × (x.writes ≡ true) = m.there n v call awaits none in
        let own : (o : Waiting) × Has f.waits o × (o.number ≡ at.0.number) = there_at at.0 at.1 at.3 in
        (own.0, own.1, own.2 ∙ at.2, (alike own.0 at.0 own.1 at.1 (sym own.2)).0 ∙ at.3);
    apart = r.stands.apart;
    kinds = kinds_f;
    greedy = λ o h reads same. elim (wait_cases o h) [
      | inl free ↦ no_both o.writes free.0 reads
      | inr (x, h', e, later) ↦ m.greedy x h' (sym (alike o x h h' e).0 ∙ reads) (sym (alike o x h h' e).1 ∙ same ∙ same_value)
    ];
    told = λ o h reads none. elim (wait_cases o h) [
      | inl free ↦ no_both o.writes free.0 reads
      | inr (x, h', e, later) ↦ m.told x h' (sym (alike o x h h' e).0 ∙ reads) (sym (alike o x h h' e).1 ∙ none)
    ];
    effects = m.effects;
    place = elim m.place [ inl s ↦ inl (settled s) | inr p ↦ inr (pending p) ];
  }
