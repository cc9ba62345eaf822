-- Each step on the queue keeps its rule.
use Rattle.std.proofs.Common.{◌≡◌, ◌≢◌, ℕ, zero, suc, ◌<◌, ◌≤◌, ◌==◌, cond, Bool, true, false, true≢false, List, [], ◌∷◌, ◌++◌, length, length-append, length-set, set, sym, refl, ap, ◌∙◌, subst, ◌⊎◌, inl, inr, ⊎_elim, append_assoc, eq-eqb, ne_eqb, arith}
use Rattle.std.proofs.lemmas.List.Elements.{filter-append}
use mathlib.Core.Option.{some, some-injective, some-ne-none}
use lib.ListN.{get_elem?}
use Rattle.crossbeam_queue.specs.Fifo.{Pushes, Pops, Forks, Learns}
use Rattle.crossbeam_queue.proofs.Lists.{at_set, at_longer, set_here, set_else}
use Rattle.lanes.specs.declared.rule.Item.{Item}
use Rattle.lanes.specs.declared.rule.View.{View}
use Rattle.lanes.specs.Queue.{HasPut, HasTaken, QueueKept, Stands, fresh_lane, fresh_worker, item_of, numbered, part, place_of, with_lane, with_put, with_taken}

one_view : (by : ℕ) (w u : View) → get_elem? (w ∷ []) by ≡ some u → by ≡ 0
one_view zero w u e = refl
one_view (suc k) w u e = absurd (some-ne-none u (sym e))

pub opens : QueueKept [] (fresh_worker 0 ∷ [])
opens = record {
  worker = fresh_worker 0;
  first = refl;
  takes = refl;
  lanes = refl;
  is_lane = λ t v e. absurd (omega (arith, one_view (suc t) (fresh_worker 0) v e));
  counted = λ t v e. absurd (omega (arith, one_view (suc t) (fresh_worker 0) v e));
  put = λ t v e. absurd (omega (arith, one_view (suc t) (fresh_worker 0) v e));
  none = λ t _. refl;
}

below_length : {A : Type 0} (l : List A) (i : ℕ) (a : A) → get_elem? l i ≡ some a → i < length l
below_length [] i a e = absurd (some-ne-none a (sym e))
below_length (x ∷ xs) zero a e = omega arith
below_length (x ∷ xs) (suc i) a e = let r = below_length xs i a e in omega arith

at_snoc : {A : Type 0} (l : List A) (a b : A) (j : ℕ) → get_elem? (l ++ a ∷ []) j ≡ some b → (get_elem? l j ≡ some b) ⊎ ((j ≡ length l) × (a ≡ b))
at_snoc [] a b zero e = inr (refl, some-injective a b e)
at_snoc [] a b (suc j) e = absurd (some-ne-none b (sym e))
at_snoc (x ∷ xs) a b zero e = inl e
at_snoc (x ∷ xs) a b (suc j) e = ⊎_elim (λ h. inl h) (λ h. inr (ap suc h.0, h.1)) (at_snoc xs a b j e)

-- the pass that takes stands first
takes_first : (items : List Item) (views : List View) → QueueKept items views → (by : ℕ) (v : View) → get_elem? views by ≡ some v → v.takes ≡ true → by ≡ 0
takes_first items views r zero v at takes = refl
takes_first items views r (suc t) v at takes = absurd (true≢false (sym takes ∙ (r.is_lane t v at).0))

-- a lane's pass stands behind it, by its tag
lane_stands : (items : List Item) (views : List View) → QueueKept items views → (by : ℕ) (v : View) → get_elem? views by ≡ some v → v.takes ≡ false → by ≡ suc v.tag
lane_stands items views r zero v at lane = absurd (true≢false (sym r.takes ∙ (ap (λ (u : View). u.takes) (some-injective r.worker v (sym r.first ∙ at)) ∙ lane)))
lane_stands items views r (suc t) v at lane = ap suc (sym (r.is_lane t v at).1)

part_snoc : (t : ℕ) (xs items : List Item) (x : Item) → part t (xs ++ (items ++ x ∷ [])) ≡ part t (xs ++ items) ++ part t (x ∷ [])
part_snoc t xs items x = ap (part t) (sym (append_assoc xs items (x ∷ []))) ∙ filter-append (λ y. y.tag == t) (xs ++ items) (x ∷ [])

part_own : (t : ℕ) (x : Item) → x.tag ≡ t → part t (x ∷ []) ≡ x ∷ []
part_own t x is = ap (λ (b : Bool). cond b (x ∷ []) []) (eq-eqb x.tag t is)

part_other : (t : ℕ) (x : Item) → x.tag ≢ t → part t (x ∷ []) ≡ []
part_other t x not = ap (λ (b : Bool). cond b (x ∷ []) []) (ne_eqb x.tag t not)

append_nil : {A : Type 0} (xs : List A) → xs ++ [] ≡ xs
append_nil [] = refl
append_nil (x ∷ xs) = ap (λ l. x ∷ l) (append_nil xs)

-- an item of another tag leaves the part as it was
part_kept : (t : ℕ) (xs items : List Item) (x : Item) → x.tag ≢ t → part t (xs ++ (items ++ x ∷ [])) ≡ part t (xs ++ items)
part_kept t xs items x not = part_snoc t xs items x ∙ (ap (λ l. part t (xs ++ items) ++ l) (part_other t x not) ∙ append_nil (part t (xs ++ items)))

-- the next item keeps the counts rising
next_counted : (t : ℕ) (put : List Item) (x : Item) → put ≡ numbered t (length put) → x ≡ item_of t (length put) → put ++ x ∷ [] ≡ numbered t (length (put ++ x ∷ []))
next_counted t put x counted next =
    let longer : length (put ++ x ∷ []) ≡ suc (length put) = length-append put (x ∷ []) ∙ omega arith in
    ap (λ (l : List Item). l ++ x ∷ []) counted ∙ (ap (λ (y : Item). numbered t (length put) ++ y ∷ []) next ∙ ap (numbered t) (sym longer))

puts_at : (t : ℕ) (v : View) (x : Item) (items : List Item) (views : List View) → x ≡ item_of t (length v.put) → QueueKept items views → get_elem? views (suc t) ≡ some v
    → QueueKept (items ++ x ∷ []) (set views (suc t) (with_put v x))
puts_at t v x items views next r at =
    let w : View = with_put v x in
    let tag : x.tag ≡ t = ap (λ (y : Item). y.tag) next in
    let below = below_length views (suc t) v at in
    let many = r.lanes in
    let Case : (View → ℕ → Type 0) → Type 0 = λ P. (j : ℕ) (u : View) → get_elem? (set views (suc t) w) (suc j) ≡ some u → P u j in
    let each : (P : View → ℕ → Type 0) → P w t → ((j : ℕ) (u : View) → j ≢ t → get_elem? views (suc j) ≡ some u → P u j) → Case P =
    λ P mine others j u e. ⊎_elim
    (λ h. let same : t ≡ j = omega (arith, h.0) in subst (λ (y : View). P y j) h.1 (subst (λ (k : ℕ). P w k) same mine))
    (λ h. others j u (λ is. h.0 (ap suc is)) h.1)
    (at_set views (suc t) (suc j) w u e) in
    record {
      worker = r.worker;
      first = set_else views (suc t) 0 w (λ e. omega arith) ∙ r.first;
      takes = r.takes;
      lanes = length-set views (suc t) w ∙ r.lanes;
      is_lane = each (λ u j. (u.takes ≡ false) × (u.tag ≡ j)) (r.is_lane t v at) (λ j u _ e. r.is_lane j u e);
      counted = each (λ u j. u.put ≡ numbered j (length u.put)) (next_counted t v.put x (r.counted t v at) next) (λ j u _ e. r.counted j u e);
      put = each (λ u j. part j (r.worker.taken ++ (items ++ x ∷ [])) ≡ u.put)
          (part_snoc t r.worker.taken items x ∙ (ap (λ l. part t (r.worker.taken ++ items) ++ l) (part_own t x tag) ∙ ap (λ l. l ++ x ∷ []) (r.put t v at)))
          (λ j u other e. part_kept j r.worker.taken items x (λ is. other (sym is ∙ tag)) ∙ r.put j u e);
      none = λ j past. part_kept j r.worker.taken items x (λ is. omega arith) ∙ r.none j past;
    }

pub puts : (n by : ℕ) (v : View) (x : Item) → v.takes ≡ false → x ≡ item_of v.tag (length v.put) → Pushes QueueKept n by v x (λ w. w ≡ with_put v x)
puts n by v x lane next items views room r at =
    let place = lane_stands items views r by v at lane in (
      with_put v x,
      subst (λ (k : ℕ). QueueKept (items ++ x ∷ []) (set views k (with_put v x))) (sym place)
          (puts_at v.tag v x items views next r (subst (λ (k : ℕ). get_elem? views k ≡ some v) place at)),
      refl,
    )

takes_at : (v : View) (x : Item) (items : List Item) (views : List View) → QueueKept (x ∷ items) views → get_elem? views 0 ≡ some v → QueueKept items (set views 0 (with_taken v x))
takes_at v x items views r at =
    let w : View = with_taken v x in
    let is : r.worker ≡ v = some-injective r.worker v (sym r.first ∙ at) in
    let was : (j : ℕ) (u : View) → get_elem? (set views 0 w) (suc j) ≡ some u → get_elem? views (suc j) ≡ some u = λ j u e. sym (set_else views 0 (suc j) w (λ h. omega arith)) ∙ e in
    let same : (j : ℕ) → part j ((v.taken ++ x ∷ []) ++ items) ≡ part j (r.worker.taken ++ (x ∷ items)) =
    λ j. ap (part j) (append_assoc v.taken (x ∷ []) items) ∙ ap (λ (u : View). part j (u.taken ++ (x ∷ items))) (sym is) in
    record {
      worker = w;
      first = set_here views 0 w (below_length views 0 v at);
      takes = ap (λ (u : View). u.takes) (sym is) ∙ r.takes;
      lanes = length-set views 0 w ∙ (r.lanes ∙ ap (λ (u : View). suc u.lanes) is);
      is_lane = λ j u e. r.is_lane j u (was j u e);
      counted = λ j u e. r.counted j u (was j u e);
      put = λ j u e. same j ∙ r.put j u (was j u e);
      none = λ j past. same j ∙ r.none j (subst (λ (u : View). u.lanes ≤ j) (sym is) past);
    }

pub takes : (by : ℕ) (v : View) → v.takes ≡ true → Pops QueueKept by v (λ x w. w ≡ with_taken v x)
takes by v worker x items views r at =
    let place = takes_first (x ∷ items) views r by v at worker in (
      with_taken v x,
      subst (λ (k : ℕ). QueueKept items (set views k (with_taken v x))) (sym place) (takes_at v x items views r (subst (λ (k : ℕ). get_elem? views k ≡ some v) place at)),
      refl,
    )

makes_at : (v : View) (items : List Item) (views : List View) → QueueKept items views → get_elem? views 0 ≡ some v → QueueKept items (set views 0 (with_lane v) ++ fresh_lane v.lanes ∷ [])
makes_at v items views r at =
    let w : View = with_lane v in
    let new : View = fresh_lane v.lanes in
    let vs : List View = set views 0 w in
    let is : r.worker ≡ v = some-injective r.worker v (sym r.first ∙ at) in
    let many : length vs ≡ suc v.lanes = length-set views 0 w ∙ (r.lanes ∙ ap (λ (u : View). suc u.lanes) is) in
    let Case : (View → ℕ → Type 0) → Type 0 = λ P. (j : ℕ) (u : View) → get_elem? (vs ++ new ∷ []) (suc j) ≡ some u → P u j in
    let each : (P : View → ℕ → Type 0) → P new v.lanes → ((j : ℕ) (u : View) → get_elem? views (suc j) ≡ some u → P u j) → Case P =
    λ P mine others j u e. ⊎_elim
    (λ h. others j u (sym (set_else views 0 (suc j) w (λ k. omega arith)) ∙ h))
    (λ h. let same : v.lanes ≡ j = omega (arith, h.0, many) in subst (λ (y : View). P y j) h.1 (subst (λ (k : ℕ). P new k) same mine))
    (at_snoc vs new u (suc j) e) in
    let same : (j : ℕ) → part j (v.taken ++ items) ≡ part j (r.worker.taken ++ items) = λ j. ap (λ (u : View). part j (u.taken ++ items)) (sym is) in
    let none : (j : ℕ) → v.lanes ≤ j → part j (v.taken ++ items) ≡ [] = λ j past. same j ∙ r.none j (subst (λ (u : View). u.lanes ≤ j) (sym is) past) in
    record {
      worker = w;
      first = at_longer vs (new ∷ []) 0 w (set_here views 0 w (below_length views 0 v at));
      takes = ap (λ (u : View). u.takes) (sym is) ∙ r.takes;
      lanes = length-append vs (new ∷ []) ∙ omega (arith, many);
      is_lane = each (λ u j. (u.takes ≡ false) × (u.tag ≡ j)) (refl, refl) (λ j u e. r.is_lane j u e);
      counted = each (λ u j. u.put ≡ numbered j (length u.put)) refl (λ j u e. r.counted j u e);
      put = each (λ u j. part j (v.taken ++ items) ≡ u.put) (none v.lanes (omega arith)) (λ j u e. same j ∙ r.put j u e);
      none = λ j past. none j (omega (arith, past));
    }

pub makes : (by : ℕ) (v : View) → v.takes ≡ true → Forks QueueKept by v (with_lane v) (fresh_lane v.lanes)
makes by v worker items views r at =
    let place = takes_first items views r by v at worker in
    subst (λ (k : ℕ). QueueKept items (set views k (with_lane v) ++ fresh_lane v.lanes ∷ [])) (sym place) (makes_at v items views r (subst (λ (k : ℕ). get_elem? views k ≡ some v) place at))

stands_by : (items : List Item) (views : List View) → QueueKept items views → (by : ℕ) (v : View) → get_elem? views by ≡ some v → (b : Bool) → v.takes ≡ b → get_elem? views (place_of b v.tag) ≡ some v
stands_by items views r by v at true is = subst (λ (k : ℕ). get_elem? views k ≡ some v) (takes_first items views r by v at is) at
stands_by items views r by v at false is = subst (λ (k : ℕ). get_elem? views k ≡ some v) (lane_stands items views r by v at is) at

pub stands : (by : ℕ) (v : View) → Learns QueueKept by v (Stands v)
stands by v items views r at = (views, r, stands_by items views r by v at v.takes refl)

pub puts_more : (v w u : View) (tag : ℕ) → v.tag ≡ tag → HasPut v w → (u ≡ w) ⊎ (u ≡ with_put w (item_of tag (length w.put))) → HasPut v u
puts_more v w u tag own has (inl same) = (has.0, same ∙ has.1)
puts_more v w u tag own has (inr is) =
    (suc has.0, is ∙ (ap (λ (k : ℕ). with_put w (item_of k (length w.put))) (sym own) ∙ ap (λ (y : View). with_put y (item_of v.tag (length y.put))) has.1))

pub takes_one_more : (v w u : View) (x : Item) → HasTaken v w → u ≡ with_taken w x → HasTaken v u
takes_one_more v w u x has is =
    (has.0 ++ x ∷ [], is ∙ (ap (λ (y : View). with_taken y x) has.1 ∙ ap (λ (l : List Item). record v { taken = l }) (append_assoc v.taken has.0 (x ∷ []))))
