-- From the start of a register to a verdict.
use Rattle.std.proofs.Common.{◌≡◌, ◌<◌, ◌≤◌, ◌⊎◌, inl, inr, ℕ, ◌+◌, ◌==◌, Bool, true, false, List, [], ◌∷◌, ◌++◌, Some, refl, sym, ◌∙◌, ap, subst, arith, length, get_or, take, eq-eqb}
use Rattle.std.specs.Prelude.{All, Contains, if◌then◌else◌}
use Rattle.std.specs.List.{list_any}
use Rattle.std.proofs.lemmas.Bool.{cases_Bool, eqb-true}
use Rattle.std.proofs.lemmas.List.{take_more, take_all}
use Rattle.std.proofs.lemmas.List.Elements.{All-nil, All-cons, All-weaker, All-contains}
use Rattle.register.specs.declared.Sight.{Sight}
use Rattle.register.specs.declared.Sight.TheVariants.{Write, Read, Done, Failed}
use Rattle.register.specs.Schedules.{Event, Seen, Effect, seen_of, unrecorded, IsWritten, IsRead, TakesEffect, May, IsSchedule, HasSchedule}
use Rattle.register_judge.specs.Verdicts.{IsRefusal}
use Rattle.register_judge.specs.declared.states.Waiting.{Waiting}
use Rattle.register_judge.specs.declared.states.State.{State}
use Rattle.register_judge.specs.declared.keeping.Register.{Register}
use Rattle.register_judge.specs.inside.States.{Form, form_of, forms_of, Means, turned, called, bound, bound_of}
use Rattle.register_judge.specs.inside.Covering.{MayHave, Covers as CoversForm, Prunes}
use Rattle.register_judge.specs.inside.Registers.{is_this, without, Begins, Calls, EndsAt, Sees}
use Rattle.register_judge.proofs.Listing.{Has, has_last, contains_has}
use Rattle.register_judge.proofs.Bounding.{called_there, called_only}
use Rattle.register_judge.proofs.Events.{IsAtMost, call_of, effect_or_not, effects_none}
use Rattle.register_judge.proofs.Matching.{IsMatch, match_effect, IsEndOf}
use Rattle.register_judge.proofs.Calling.{at_most_call, at_most_more, Called, match_call, Turns, turns_acted, turns_free}
use Rattle.register_judge.proofs.Sounding.{AreReal, seen_end, real_turn, real_call}
use Rattle.register_judge.proofs.Adding.{all_there, all_only}
use Rattle.register_judge.proofs.Reaching.{IsReal}
use Rattle.register_judge.proofs.Pruning.{has_contains, IsTidy, tidy_first, tidy_call, tidy_end, done_no_call, failed_no_call, match_covered}

-- LISTS

-- the same last item, and the same before it
same_push : {X : Type 0} (xs ys : List X) (x y : X) → xs ++ x ∷ [] ≡ ys ++ y ∷ [] → (xs ≡ ys) × (x ≡ y)
same_push [] [] x y e = (refl, cc (e))
same_push [] (b ∷ []) x y e = absurd (cc (e))
same_push [] (b ∷ c ∷ ys) x y e = absurd (cc (e))
same_push (a ∷ []) [] x y e = absurd (cc (e))
same_push (a ∷ c ∷ xs) [] x y e = absurd (cc (e))
same_push (a ∷ xs) (b ∷ ys) x y e =
    let rest : xs ++ x ∷ [] ≡ ys ++ y ∷ [] = cc (e) in
    let first : a ≡ b = cc (e) in
    let both : (xs ≡ ys) × (x ≡ y) = same_push xs ys x y rest in
    (ap (λ zs. a ∷ zs) both.0 ∙ ap (λ z. z ∷ ys) first, both.1)

not_pushed : {X : Type 0} (xs : List X) (x : X) → xs ++ x ∷ [] ≡ [] → ⊥
not_pushed [] x e = cc (e)
not_pushed (a ∷ xs) x e = cc (e)

not_empty : {X : Type 0} (xs : List X) (x : X) → [] ≡ xs ++ x ∷ [] → ⊥
not_empty [] x e = cc (e)
not_empty (a ∷ xs) x e = cc (e)

-- COMPLETE

-- one of the forms matches, with a value that it means
pub record Covered (start last : ℕ) (forms : List Form) (past : List Event) : Type 0 where
  pub form : Form
  pub has : Has forms form
  pub value : ℕ
  pub means : Means form value
  pub match : IsMatch start past (bound value form)
  pub below : All (IsAtMost last) past

abbrev pub Covers : ℕ → ℕ → List Form → List Sight → Type 0
Covers start last forms sights = (past : List Event) → IsSchedule start past → seen_of past ≡ sights → Covered start last forms past

covered_effect : (start last : ℕ) (forms : List Form) (past : List Event) (n v : ℕ) → TakesEffect start past n v → Covered start last forms past → Covered start last forms (Effect n v ∷ past)
covered_effect start last forms past n v h c = record {
  form = c.form;
  has = c.has;
  value = c.value;
  means = c.means;
  match = match_effect start past (bound c.value c.form) n v c.match h;
  below = All-cons (IsAtMost last) (Effect n v) past (elim h.called [ inl wrote ↦ low_write wrote | inr read ↦ low_read read.0 ]) c.below;
}
  where
    low_write : IsWritten past n v → n ≤ last
    low_write (inl wrote) = All-contains (IsAtMost last) past (Seen (Write n v)) c.below wrote
    low_write (inr wrote) = All-contains (IsAtMost last) past (Seen (Write n unrecorded)) c.below wrote

    low_read : IsRead past n v → n ≤ last
    low_read (inl read) = All-contains (IsAtMost last) past (Seen (Read n v)) c.below read
    low_read (inr read) = All-contains (IsAtMost last) past (Seen (Read n unrecorded)) c.below read

module _ (start : ℕ) (old : Register) (new : Register) (past : List Event) where
  call_covered : (n : ℕ) (writes : Bool) (v : ℕ) → Calls old n writes v new → Covered start old.last (forms_of old.states.items) past → Covered start new.last (forms_of new.states.items) (Seen (call_of writes n v) ∷ past)
  call_covered n writes v h c =
      let o : Waiting = record { number = n; writes = writes; value = v; is_old = false } in
      let g : Called start (Seen (call_of writes n v) ∷ past) o c.form = match_call start old.last past c.form c.value c.means c.match c.below o h.newer in record {
        form = g.form;
        has = called_there o old.states.items new.states.items c.form g.form h.states c.has g.of;
        value = g.value;
        means = g.means;
        match = g.match;
        below = rw h.last (All-cons (IsAtMost n) (Seen (call_of writes n v)) past (at_most_call writes n v) (All-weaker (IsAtMost old.last) (IsAtMost n) (at_most_more n old.last h.newer) past c.below));
      }

  end_covered : (n : ℕ) (must : Bool) (x : Sight) → IsEndOf n x → n ≤ old.last → (h : EndsAt old n must new) → (c : Covered start old.last (forms_of old.states.items) past) → Turns start past c.form must n
      → Covered start new.last h.states.ended (Seen x ∷ past)
  end_covered n must x ends low h c t = record {
    form = turned t.turn c.form;
    has = all_there must n (forms_of old.states.items) [] h.states.ended c.form t.turn h.states.ends c.has t.there;
    value = t.value;
    means = t.means;
    match = t.match x ends;
    below = rw h.last (All-cons (IsAtMost old.last) (Seen x) past (end_low n x ends low) c.below);
  }
    where
      end_low : (n : ℕ) (x : Sight) → IsEndOf n x → n ≤ old.last → IsAtMost old.last (Seen x)
      end_low n (Done k) e low = subst (λ j. j ≤ old.last) (sym e) low
      end_low n (Failed k) e low = subst (λ j. j ≤ old.last) (sym e) low
      end_low n (Write k v) e low = absurd e
      end_low n (Read k v) e low = absurd e

have_means : (f g : Form) (u : ℕ) → MayHave f g → Means g u → Means f u
have_means f g u (inl any) means = inl any
have_means f g u (inr one) (inl any) = absurd (cc (one.0, any))
have_means f g u (inr one) (inr is) = inr (one.1 ∙ is)

-- a form that is needless is covered
covered_left : (start last : ℕ) (numbers : List ℕ) (sights : List Sight) (old new : List Form) → Prunes old new → AreReal start last numbers sights old → IsTidy last sights
    → (past : List Event) → seen_of past ≡ sights → Covered start last old past → Covered start last new past
covered_left start last numbers sights old new prunes reals tidy past seen c =
    by (prunes.covered c.form (has_contains old c.form c.has))
  where
    by : (f : Form) × Contains new f × CoversForm f c.form → Covered start last new past
    by (f, there, covers) = let means' : Means f c.value = have_means f c.form c.value covers.value c.means in record {
      form = f;
      has = contains_has new f there;
      value = c.value;
      means = means';
      match = match_covered start last numbers sights (bound c.value f) (bound c.value c.form) (reals f (contains_has old f (prunes.among f there)) c.value means') tidy refl covers.wait covers.there past seen c.match;
      below = c.below;
    }

-- THE OPEN NUMBERS

abbrev pub are_low : ℕ → List ℕ → Type 0
are_low last numbers = (k : ℕ) → Has numbers k → k ≤ last

any_has : (n : ℕ) (numbers : List ℕ) → list_any (is_this n) numbers ≡ true → Has numbers n
any_has n [] e = absurd (cc (e))
any_has n (k ∷ numbers) e = elim (cases_Bool (is_this n k)) [
  | inl this ↦ inl (eqb-true k n this)
  | inr other ↦ inr (any_has n numbers (rw other at e))
]

without_from : (n : ℕ) (left numbers : List ℕ) (k : ℕ) → Has (without n left numbers) k → Has left k ⊎ (Has numbers k × (k ≡ n → ⊥))
without_from n left [] k h = inl h
without_from n left (other ∷ numbers) k h = by (λ more there. without_from n more numbers k there) (is_this n other) refl h
  where
    by : ((more : List ℕ) → Has (without n more numbers) k → Has more k ⊎ (Has numbers k × (k ≡ n → ⊥))) → (b : Bool) → is_this n other ≡ b
        → Has (if b then without n left numbers else without n (left ++ other ∷ []) numbers) k → Has left k ⊎ (Has (other ∷ numbers) k × (k ≡ n → ⊥))
    by rest true e there = elim (rest left there) [ inl a ↦ inl a | inr x ↦ inr (inr x.0, x.1) ]
    by rest false e there = elim (rest (left ++ other ∷ []) there) [
      | inl a ↦ elim (has_last left other k a) [
        | inl b ↦ inl b
        | inr is ↦ inr (inl is, λ same. let yes' : (other == n) ≡ true = eq-eqb other n (is ∙ same) in absurd (cc (yes', e)))
      ]
      | inr x ↦ inr (inr x.0, x.1)
    ]

-- EXACTLY

-- the forms are those after the schedules of these sights, and there is one
pub record IsExact (start : ℕ) (register : Register) (sights : List Sight) : Type 0 where
  pub covers : Covers start register.last (forms_of register.states.items) sights
  pub reals : AreReal start register.last register.numbers.items sights (forms_of register.states.items)
  pub low : are_low register.last register.numbers.items
  pub tidy : IsTidy register.last sights
  pub some : register.states.items ≡ [] → ⊥

abbrev first_form : ℕ → Form
first_form start = record { any = false; value = start; waits = [] }

pub exact_first : (start : ℕ) (register : Register) → Begins start register → IsExact start register []
exact_first start register b = record {
  covers = covers;
  reals = λ f h u means. elim (subst (λ fs. Has fs f) b.states h) [
    | inl is ↦ elim (subst (λ g. Means g u) (sym is) means) [
      | inl none ↦ absurd (cc (none))
      | inr same ↦ subst (λ g. IsReal start register.last register.numbers.items [] (bound u g)) is (subst (λ v. IsReal start register.last register.numbers.items [] (bound v (first_form start))) same first_real)
    ]
    | inr none ↦ absurd none
  ];
  low = λ k h. absurd (subst (λ xs. Has xs k) b.numbers h);
  tidy = tidy_first register.last;
  some = λ e. not_none (ap forms_of (sym e) ∙ b.states);
}
  where
    not_none : [] ≡ first_form start ∷ [] → ⊥
    not_none e = cc (e)

    covers : Covers start register.last (forms_of register.states.items) []
    covers [] s e = record {
      form = first_form start;
      has = subst (λ fs. Has fs (first_form start)) (sym b.states) (inl refl);
      value = start;
      means = inr refl;
      match = record {
        known = λ o h. absurd h;
        there = λ n v c awaits fresh. let low = c.1 in absurd (omega arith);
        apart = λ a c h h' e'. absurd h;
        kinds = λ o h writes v c. absurd h;
        greedy = λ o h r e'. h;
        told = λ o h r e'. h;
        effects = effects_none;
        place = inl (record { value = refl; writes = λ o h w acted. absurd h; reads = λ o h r acted. absurd h });
      };
      below = All-nil (IsAtMost register.last);
    }
    covers (Effect n v ∷ past) s e = covered_effect start register.last (forms_of register.states.items) past n v s.0 (covers past s.1 e)
    covers (Seen x ∷ past) s e = absurd (not_pushed (seen_of past) x e)

    first_real : IsReal start register.last register.numbers.items [] (first_form start)
    first_real = record {
      events = [];
      seen = refl;
      stands = record {
        in_turn = tt;
        value = refl;
        fresh = λ o h. absurd h;
        apart = λ a c h h' e. absurd h;
        acted = λ k h none. absurd (subst (λ xs. Has xs k) b.numbers h);
        room = inl (λ o h old. h);
        below = All-nil (IsAtMost register.last);
      };
    }

-- ONE MORE SIGHT

module _ (start : ℕ) (old new : Register) (sights : List Sight) where
  tidy_more : (sight : Sight) → Sees old sight new → IsTidy old.last sights → IsTidy new.last (sights ++ sight ∷ [])
  tidy_more (Write n v) h t = rw h.last (tidy_call old.last sights true n v h.newer t)
  tidy_more (Read n v) h t = rw h.last (tidy_call old.last sights false n v h.newer t)
  tidy_more (Done n) h t = rw h.last (tidy_end old.last sights (Done n) (done_no_call n) t)
  tidy_more (Failed n) h t = rw h.last (tidy_end old.last sights (Failed n) (failed_no_call n) t)

  -- what an end leaves of each form
  reals_ended : (n : ℕ) (must : Bool) (sight : Sight) → IsEndOf n sight → (must ≡ false → (past : List Event) → May start past (Seen sight)) → (h : EndsAt old n must new) → IsExact start old sights
      → AreReal start new.last new.numbers.items (sights ++ sight ∷ []) h.states.ended
  reals_ended n must sight ends may h x f there u means =
      let has_n : Has old.numbers.items n = any_has n old.numbers.items h.was_open in
      elim (all_only must n (forms_of old.states.items) [] h.states.ended f h.states.ends there) [
        | inl none ↦ absurd none
        | inr (g, has, (t, in_turns, is)) ↦
            subst (λ l. IsReal start l new.numbers.items (sights ++ sight ∷ []) (bound u f)) (sym h.last)
            (subst (λ xs. IsReal start old.last xs (sights ++ sight ∷ []) (bound u f)) (sym h.numbers)
            (subst (λ y. IsReal start old.last (without n [] old.numbers.items) (sights ++ sight ∷ []) (bound u y)) is
            (real_turn start old.last old.numbers.items (without n [] old.numbers.items) sights g n must sight ends may has_n (x.low n has_n)
            (λ k h'. elim (without_from n [] old.numbers.items k h') [ inl none ↦ absurd none | inr y ↦ y ]) (x.reals g has) t in_turns u (subst (λ y. Means y u) (sym is) means))))
      ]

  among_mid : (n : ℕ) (must : Bool) (h : EndsAt old n must new) (f : Form) → Has h.states.mid f → Has h.states.ended f
  among_mid n must h f there = contains_has h.states.ended f (h.states.once.among f (has_contains h.states.mid f there))

  among_new : (n : ℕ) (must : Bool) (h : EndsAt old n must new) (f : Form) → Has (forms_of new.states.items) f → Has h.states.mid f
  among_new n must h f there = contains_has h.states.mid f (h.states.twice.among f (has_contains (forms_of new.states.items) f there))

  -- without what is needless
  covered_end : (n : ℕ) (must : Bool) (sight : Sight) → IsEndOf n sight → (must ≡ false → (past : List Event) → May start past (Seen sight)) → (h : EndsAt old n must new) → (x : IsExact start old sights)
      → IsTidy new.last (sights ++ sight ∷ []) → (past : List Event) → seen_of past ≡ sights → Covered start new.last h.states.ended (Seen sight ∷ past) → Covered start new.last (forms_of new.states.items) (Seen sight ∷ past)
  covered_end n must sight ends may h x tidy past seen c =
      covered_left start new.last new.numbers.items (sights ++ sight ∷ []) h.states.mid (forms_of new.states.items) h.states.twice
      (λ f there. reals_ended n must sight ends may h x f (among_mid n must h f there)) tidy (Seen sight ∷ past) (seen_end past sights sight seen)
      (covered_left start new.last new.numbers.items (sights ++ sight ∷ []) h.states.ended h.states.mid h.states.once (reals_ended n must sight ends may h x) tidy (Seen sight ∷ past) (seen_end past sights sight seen) c)

  may_done : (n : ℕ) → true ≡ false → (past : List Event) → May start past (Seen (Done n))
  may_done n e = absurd (cc (e))

  may_failed : (n : ℕ) → false ≡ false → (past : List Event) → May start past (Seen (Failed n))
  may_failed n e past = tt

  covered_done : (x : IsExact start old sights) (n : ℕ) → EndsAt old n true new → (past : List Event) → seen_of past ≡ sights → May start past (Seen (Done n)) → Covered start old.last (forms_of old.states.items) past
      → Covered start new.last (forms_of new.states.items) (Seen (Done n) ∷ past)
  covered_done x n h past seen may c =
      covered_end n true (Done n) refl (may_done n) h x (tidy_more (Done n) h x.tidy) past seen
      (end_covered start old new past n true (Done n) refl (x.low n (any_has n old.numbers.items h.was_open)) h c (turns_acted start past c.form c.value c.means c.match true n may))

  covered_failed : (x : IsExact start old sights) (n : ℕ) → EndsAt old n false new → (past : List Event) → seen_of past ≡ sights → Covered start old.last (forms_of old.states.items) past
      → Covered start new.last (forms_of new.states.items) (Seen (Failed n) ∷ past)
  covered_failed x n h past seen c =
      covered_end n false (Failed n) refl (may_failed n) h x (tidy_more (Failed n) h x.tidy) past seen
      (end_covered start old new past n false (Failed n) refl (x.low n (any_has n old.numbers.items h.was_open)) h c (elim (effect_or_not n past) [
        | inl acted ↦ turns_acted start past c.form c.value c.means c.match false n acted
        | inr none ↦ turns_free start past c.form c.value c.means c.match n none
      ]))

  covered_sight : IsExact start old sights → (x : Sight) → Sees old x new → (past : List Event) → seen_of past ≡ sights → May start past (Seen x) → Covered start old.last (forms_of old.states.items) past
      → Covered start new.last (forms_of new.states.items) (Seen x ∷ past)
  covered_sight exact (Write n v) h past seen may c = call_covered start old new past n true v h c
  covered_sight exact (Read n v) h past seen may c = call_covered start old new past n false v h c
  covered_sight exact (Done n) h past seen may c = covered_done exact n h past seen may c
  covered_sight exact (Failed n) h past seen may c = covered_failed exact n h past seen c

  pub covers_more : (sight : Sight) → IsExact start old sights → Sees old sight new → Covers start new.last (forms_of new.states.items) (sights ++ sight ∷ [])
  covers_more sight x h [] s e = absurd (not_empty sights sight e)
  covers_more sight x h (Effect n v ∷ past) s e = covered_effect start new.last (forms_of new.states.items) past n v s.0 (covers_more sight x h past s.1 e)
  covers_more sight x h (Seen y ∷ past) s e =
      let both : (seen_of past ≡ sights) × (y ≡ sight) = same_push (seen_of past) sights y sight e in
      let may : May start past (Seen sight) = subst (λ z. May start past (Seen z)) both.1 s.0 in
      subst (λ z. Covered start new.last (forms_of new.states.items) (Seen z ∷ past)) (sym both.1) (covered_sight x sight h past both.0 may (x.covers past s.1 both.0))

  reals_call : (n : ℕ) (writes : Bool) (v : ℕ) → Calls old n writes v new → IsExact start old sights → AreReal start new.last new.numbers.items (sights ++ call_of writes n v ∷ []) (forms_of new.states.items)
  reals_call n writes v h x f there u means =
      let o : Waiting = record { number = n; writes = writes; value = v; is_old = false } in
      let came : (g : Form) × Has (forms_of old.states.items) g × ((called o g ≡ f) ⊎ (bound_of o g ≡ Some f)) = called_only o old.states.items new.states.items f h.states there in
      subst (λ l. IsReal start l new.numbers.items (sights ++ call_of writes n v ∷ []) (bound u f)) (sym h.last)
      (subst (λ xs. IsReal start n xs (sights ++ call_of writes n v ∷ []) (bound u f)) (sym h.numbers)
      (real_call start old.last old.numbers.items sights came.0 (x.reals came.0 came.1) o h.newer refl f came.2 u means))

  reals_end : (n : ℕ) (must : Bool) (sight : Sight) → IsEndOf n sight → (must ≡ false → (past : List Event) → May start past (Seen sight)) → EndsAt old n must new → IsExact start old sights
      → AreReal start new.last new.numbers.items (sights ++ sight ∷ []) (forms_of new.states.items)
  reals_end n must sight ends may h x f there = reals_ended n must sight ends may h x f (among_mid n must h f (among_new n must h f there))

  pub reals_more : (sight : Sight) → Sees old sight new → IsExact start old sights → AreReal start new.last new.numbers.items (sights ++ sight ∷ []) (forms_of new.states.items)
  reals_more (Write n v) h x = reals_call n true v h x
  reals_more (Read n v) h x = reals_call n false v h x
  reals_more (Done n) h x = reals_end n true (Done n) refl (may_done n) h x
  reals_more (Failed n) h x = reals_end n false (Failed n) refl (may_failed n) h x

  low_call : (n : ℕ) (writes : Bool) (v : ℕ) → Calls old n writes v new → IsExact start old sights → are_low new.last new.numbers.items
  low_call n writes v h x k there = rw h.last (elim (has_last old.numbers.items n k (subst (λ xs. Has xs k) h.numbers there)) [
    | inl old' ↦ let a : k ≤ old.last = x.low k old' in let b = h.newer in omega arith
    | inr is ↦ omega arith
  ])

  low_end : (n : ℕ) (must : Bool) → EndsAt old n must new → IsExact start old sights → are_low new.last new.numbers.items
  low_end n must h x k there = rw h.last (elim (without_from n [] old.numbers.items k (subst (λ xs. Has xs k) h.numbers there)) [ inl none ↦ absurd none | inr y ↦ x.low k y.0 ])

  pub low_more : (sight : Sight) → Sees old sight new → IsExact start old sights → are_low new.last new.numbers.items
  low_more (Write n v) h x = low_call n true v h x
  low_more (Read n v) h x = low_call n false v h x
  low_more (Done n) h x = low_end n true h x
  low_more (Failed n) h x = low_end n false h x

pub covers_next : (start : ℕ) (old new : Register) (sights : List Sight) (index : ℕ) (d : Sight) → index < length sights → IsExact start old (take index sights) → Sees old (get_or sights index d) new
    → Covers start new.last (forms_of new.states.items) (take (index + 1) sights)
covers_next start old new sights index d within x h =
    subst (Covers start new.last (forms_of new.states.items)) (sym (take_more sights index d within)) (covers_more start old new (take index sights) (get_or sights index d) x h)

pub exact_more : (start : ℕ) (old new : Register) (sights : List Sight) (sight : Sight) → IsExact start old sights → Sees old sight new → (new.states.items ≡ [] → ⊥) → IsExact start new (sights ++ sight ∷ [])
exact_more start old new sights sight x h some = record {
  covers = covers_more start old new sights sight x h;
  reals = reals_more start old new sights sight h x;
  low = low_more start old new sights sight h x;
  tidy = tidy_more start old new sights sight h x.tidy;
  some = some;
}

pub exact_next : (start : ℕ) (old new : Register) (sights : List Sight) (index : ℕ) (d : Sight) → index < length sights → IsExact start old (take index sights) → Sees old (get_or sights index d) new
    → (new.states.items ≡ [] → ⊥) → IsExact start new (take (index + 1) sights)
exact_next start old new sights index d within x h some =
    subst (IsExact start new) (sym (take_more sights index d within)) (exact_more start old new (take index sights) (get_or sights index d) x h some)

-- A PASS

pub passes : (start : ℕ) (register : Register) (sights : List Sight) (index : ℕ) → length sights ≤ index → IsExact start register (take index sights) → HasSchedule start sights
passes start register sights index past x = by_states register.states.items refl
  where
    by_states : (states : List State) → register.states.items ≡ states → HasSchedule start sights
    by_states [] e = absurd (x.some e)
    by_states (s ∷ states) e =
        let r : IsReal start register.last register.numbers.items (take index sights) (bound s.value (form_of s)) = x.reals (form_of s) (subst (λ xs. Has (forms_of xs) (form_of s)) (sym e) (inl refl)) s.value (inr refl) in
        record { events = r.events; in_turn = r.stands.in_turn; seen = r.seen ∙ take_all index sights past }

-- A REFUSAL

pub refuses : (start : ℕ) (register : Register) (sights : List Sight) (index : ℕ) → index < length sights → Covers start register.last (forms_of register.states.items) (take (index + 1) sights) → register.states.items ≡ []
    → IsRefusal start sights (index + 1)
refuses start register sights index within c empty = record { within = omega arith; none = λ h. none_left (c h.events h.in_turn h.seen) }
  where
    none_left : {past : List Event} → Covered start register.last (forms_of register.states.items) past → ⊥
    none_left covered = subst (λ xs. Has (forms_of xs) covered.form) empty covered.has
