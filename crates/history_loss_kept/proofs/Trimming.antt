-- What is no matter of a sector may be left out, and be put back.
use Rattle.std.proofs.Common.{◌≡◌, ◌<◌, ◌≤◌, inl, inr, ℕ, ◌+◌, Bool, true, false, List, [], ◌∷◌, refl, sym, ◌∙◌, subst, arith}
use Rattle.loss.specs.Held.{IsOneOf}
use Rattle.register_loss.specs.declared.What.{What}
use Rattle.register_loss.specs.declared.What.TheVariants.{Flush}
use Rattle.register_loss.specs.declared.Open.{Open}
use Rattle.register_loss.specs.declared.Sight.{Sight}
use Rattle.register_loss.specs.declared.Sight.TheVariants.{Call, Elsewhere}
use Rattle.register_loss.specs.Schedules.{Register, above, behind, called, is_flush, is_unmet}
use Rattle.history_loss_kept.proofs.Steps.{Alike, Shows, Turned, alike_left, alike_right, shows_now, turned_then}
use Rattle.history_loss_kept.proofs.Waits.{above_is}
use Rattle.history_loss_kept.proofs.Marks.{AreNumbered, Begins, Called, Ends, Flushed, Mark, Other, Secured, end_sight, kept, last_sight, mid}
use Rattle.history_loss_kept.proofs.Nearing.{Near, turned_back, turned_on}
use Rattle.history_loss_kept.proofs.Seeing.{AreUngiven, Hoisted, called_is, end_alike, hoisted, last_alike, near_other, near_ready, other, passes, pushed, ready, ready_pushed}

pub only_one : (r x : Register) → IsOneOf x (r ∷ []) → x ≡ r
only_one r x (inl e) = e
only_one r x (inr none) = absurd none

-- A SIGHT OF BOTH

module _ (x : Sight) (xs ys : List Sight) (next next' : ℕ) (seen seen' : List ℕ) (alike : (r s : Register) → Near next seen r s → Alike (Near next' seen') (behind x r) (behind x s)) where
  both_on : ((r s : Register) → Near next' seen' r s → Shows xs r → Shows ys s) → (r s : Register) → Near next seen r s → Shows (x ∷ xs) r → Shows (x ∷ ys) s
  both_on rest r s e h =
      let one : (s' : Register) × Turned h.0 s s' × Near next seen h.1 s' = turned_on h.0 next seen r s h.1 e h.3 in
      let two : (s' : Register) × IsOneOf s' (behind x one.0) × Near next' seen' h.2 s' = alike_left (Near next' seen') h.2 (behind x h.1) (behind x one.0) (alike h.1 one.0 one.2) h.4 in
      (h.0, one.0, two.0, one.1, two.1, rest h.2 two.0 two.2 h.5)

  both_back : ((r s : Register) → Near next' seen' r s → Shows ys s → Shows xs r) → (r s : Register) → Near next seen r s → Shows (x ∷ ys) s → Shows (x ∷ xs) r
  both_back rest r s e h =
      let one : (r' : Register) × Turned h.0 r r' × Near next seen r' h.1 = turned_back h.0 next seen r s h.1 e h.3 in
      let two : (r' : Register) × IsOneOf r' (behind x one.0) × Near next' seen' r' h.2 = alike_right (Near next' seen') h.2 (behind x one.0) (behind x h.1) (alike one.0 h.1 one.2) h.4 in
      (h.0, one.0, two.0, one.1, two.1, rest two.0 h.2 two.2 h.5)

call_alike : (next : ℕ) (seen : List ℕ) (n : ℕ) (what : What) → next ≡ n + 1 → is_flush what ≡ false → (r s : Register) → Near next seen r s → Alike (Near next (n ∷ seen)) (behind (Call n what) r) (behind (Call n what) s)
call_alike next seen n what is none r s e =
    let low : r.next ≤ n + 1 = let same = e.is_next in omega (arith, is, same) in
    let low' : s.next ≤ n + 1 = let early = e.earlier in omega (arith, is, early) in
    let now : Near (n + 1) (n ∷ seen) (ready n what r) (ready n what s) = near_ready next seen r s e n what (omega (arith, is)) (λ some. absurd (cc (some, none))) in
    let one : Near (n + 1) (n ∷ seen) (called n what r) (ready n what s) = subst (λ x. Near (n + 1) (n ∷ seen) x (ready n what s)) (sym (called_is n what r low)) now in
    let two : Near (n + 1) (n ∷ seen) (called n what r) (called n what s) = subst (λ x. Near (n + 1) (n ∷ seen) (called n what r) x) (sym (called_is n what s low')) one in
    (subst (λ k. Near k (n ∷ seen) (called n what r) (called n what s)) (sym is) two, tt)

-- A SIGHT OF THE ONE ALONE

module _ (xs ys : List Sight) (next : ℕ) (seen : List ℕ) (n : ℕ) where
  other_on : next ≤ n → ((r s : Register) → Near (n + 1) seen r s → Shows xs r → Shows ys s) → (r s : Register) → Near next seen r s → Shows (Elsewhere n ∷ xs) r → Shows ys s
  other_on low rest r s e h =
      let one : (s' : Register) × Turned h.0 s s' × Near next seen h.1 s' = turned_on h.0 next seen r s h.1 e h.3 in
      let now : Near (n + 1) seen h.2 one.0 = subst (λ x. Near (n + 1) seen x one.0) (sym (only_one (other n h.1) h.2 h.4)) (near_other next seen h.1 one.0 one.2 n low) in
      turned_then h.0 ys s one.0 one.1 (rest h.2 one.0 now h.5)

  other_back : next ≤ n → ((r s : Register) → Near (n + 1) seen r s → Shows ys s → Shows xs r) → (r s : Register) → Near next seen r s → Shows ys s → Shows (Elsewhere n ∷ xs) r
  other_back low rest r s e h = shows_now (Elsewhere n) xs r (other n r) (inl refl) (rest (other n r) s (near_other next seen r s e n low) h)

  passes_here : (good : Bool) → (IsOneOf n seen → ⊥) → (r s : Register) → Near next seen r s → behind (end_sight good n) r ≡ r ∷ []
  passes_here good none r s e = passes n r (λ o h is. none (subst (λ k. IsOneOf k seen) is (e.named o (subst (λ ws. IsOneOf o ws) (sym e.waits) h)))) good

  end_on : (good : Bool) → (IsOneOf n seen → ⊥) → ((r s : Register) → Near next seen r s → Shows xs r → Shows ys s) → (r s : Register) → Near next seen r s → Shows (end_sight good n ∷ xs) r → Shows ys s
  end_on good none rest r s e h =
      let one : (s' : Register) × Turned h.0 s s' × Near next seen h.1 s' = turned_on h.0 next seen r s h.1 e h.3 in
      let same : h.2 ≡ h.1 = only_one h.1 h.2 (subst (λ (rs : List Register). IsOneOf h.2 rs) (passes_here good none h.1 one.0 one.2) h.4) in
      turned_then h.0 ys s one.0 one.1 (rest h.2 one.0 (subst (λ x. Near next seen x one.0) (sym same) one.2) h.5)

  end_back : (good : Bool) → (IsOneOf n seen → ⊥) → ((r s : Register) → Near next seen r s → Shows ys s → Shows xs r) → (r s : Register) → Near next seen r s → Shows ys s → Shows (end_sight good n ∷ xs) r
  end_back good none rest r s e h = shows_now (end_sight good n) xs r r (subst (λ (rs : List Register). IsOneOf r rs) (sym (passes_here good none r s e)) (inl refl)) (rest r s e h)

  -- A FLUSH

  near_flush : next ≤ n → (r s : Register) → Near next seen r s → Near (n + 1) (n ∷ seen) (ready n Flush r) (called n Flush s)
  near_flush low r s e =
      subst (λ x. Near (n + 1) (n ∷ seen) (ready n Flush r) x) (sym (called_is n Flush s (let early = e.earlier in omega (arith, early, low))))
      (near_ready next seen r s e n Flush (omega (arith, low)) (λ some. low))

  flush_back : next ≤ n → ((r s : Register) → Near (n + 1) (n ∷ seen) r s → Shows ys s → Shows xs r) → (r s : Register) → Near next seen r s → Shows (Call n Flush ∷ ys) s → Shows (Elsewhere n ∷ Call n Flush ∷ xs) r
  flush_back low rest r s e h =
      let one : (r' : Register) × Turned h.0 r r' × Near next seen r' h.1 = turned_back h.0 next seen r s h.1 e h.3 in
      let at : above n one.0.next ≡ n + 1 = above_is n one.0.next (let same = one.2.is_next in omega (arith, same, low)) in
      let is : called n Flush (other n one.0) ≡ ready n Flush one.0 = called_is n Flush (other n one.0) (omega (arith, at)) in
      let now : Near (n + 1) (n ∷ seen) (called n Flush (other n one.0)) (called n Flush h.1) = subst (λ x. Near (n + 1) (n ∷ seen) x (called n Flush h.1)) (sym is) (near_flush low one.0 h.1 one.2) in
      let last : Near (n + 1) (n ∷ seen) (called n Flush (other n one.0)) h.2 = subst (λ x. Near (n + 1) (n ∷ seen) (called n Flush (other n one.0)) x) (sym (only_one (called n Flush h.1) h.2 h.4)) now in
      (h.0, one.0, other n one.0, one.1, inl refl, shows_now (Call n Flush) xs (other n one.0) (called n Flush (other n one.0)) (inl refl) (rest (called n Flush (other n one.0)) h.2 last h.5))

  flush_then : next ≤ n → ((r s : Register) → Near (n + 1) (n ∷ seen) r s → Shows xs r → Shows ys s) → (r s : Register) → Near next seen r s → Shows (Call n Flush ∷ xs) (other n r) → Shows ys (called n Flush s)
  flush_then low rest r s e h =
      let at : (other n r).next ≡ n + 1 = above_is n r.next (let same = e.is_next in omega (arith, same, low)) in
      let under : (o : Open) → IsOneOf o r.waits → o.number < n =
      λ o has. let less : o.number < s.next = e.below o (subst (λ ws. IsOneOf o ws) (sym e.waits) has) in let early = e.earlier in omega (arith, less, early, low) in
      let ungiven : AreUngiven r = λ o has. subst (λ now. is_unmet now o ≡ true) e.holds.now (e.ungiven o (subst (λ ws. IsOneOf o ws) (sym e.waits) has)) in
      let hoist : Hoisted n h.0 (other n r) h.1 = hoisted n h.0 (other n r) h.1 at under ungiven h.3 in
      let now : Near (n + 1) (n ∷ seen) (pushed n (other n r)) (called n Flush s) = subst (λ x. Near (n + 1) (n ∷ seen) x (called n Flush s)) (ready_pushed n r ungiven) (near_flush low r s e) in
      let one : (s' : Register) × Turned h.0 (called n Flush s) s' × Near (n + 1) (n ∷ seen) (pushed n h.1) s' = turned_on h.0 (n + 1) (n ∷ seen) (pushed n (other n r)) (called n Flush s) (pushed n h.1) now hoist.turned in
      let is : h.2 ≡ pushed n h.1 = only_one (called n Flush h.1) h.2 h.4 ∙ called_is n Flush h.1 (let same = hoist.is_next in omega (arith, same)) ∙ ready_pushed n h.1 hoist.ungiven in
      turned_then h.0 ys (called n Flush s) one.0 one.1 (rest h.2 one.0 (subst (λ x. Near (n + 1) (n ∷ seen) x one.0) (sym is) one.2) h.5)

  flush_on : next ≤ n → ((r s : Register) → Near (n + 1) (n ∷ seen) r s → Shows xs r → Shows ys s) → (r s : Register) → Near next seen r s → Shows (Elsewhere n ∷ Call n Flush ∷ xs) r → Shows (Call n Flush ∷ ys) s
  flush_on low rest r s e h =
      let one : (s' : Register) × Turned h.0 s s' × Near next seen h.1 s' = turned_on h.0 next seen r s h.1 e h.3 in
      (h.0, one.0, called n Flush one.0, one.1, inl refl, flush_then low rest h.1 one.0 one.2 (subst (Shows (Call n Flush ∷ xs)) (only_one (other n h.1) h.2 h.4) h.5))

-- THE WHOLE

pub trimmed : (ms : List Mark) (next : ℕ) (seen : List ℕ) → AreNumbered next seen ms → (r s : Register) → Near next seen r s → Shows (mid ms) r → Shows (kept ms) s
trimmed [] next seen num r s e h = tt
trimmed (Other n ∷ ms) next seen num r s e h = other_on (mid ms) (kept ms) next seen n num.0 (trimmed ms (n + 1) seen num.1) r s e h
trimmed (Secured n ∷ ms) next seen num r s e h = trimmed ms next seen num.1 r s e h
trimmed (Called n what ∷ ms) next seen num r s e h =
    both_on (Call n what) (mid ms) (kept ms) next next seen (n ∷ seen) (call_alike next seen n what num.0 num.1) (trimmed ms next (n ∷ seen) num.2) r s e h
trimmed (Flushed n ∷ ms) next seen num r s e h = flush_on (mid ms) (kept ms) next seen n num.0 (trimmed ms (n + 1) (n ∷ seen) num.1) r s e h
trimmed (Ends true n good ∷ ms) next seen num r s e h =
    both_on (end_sight good n) (mid ms) (kept ms) next next seen seen (λ x y near. end_alike next seen x y near good n) (trimmed ms next seen num) r s e h
trimmed (Ends false n good ∷ ms) next seen num r s e h = end_on (mid ms) (kept ms) next seen n good num.0 (trimmed ms next seen num.1) r s e h
trimmed (Begins lost ∷ ms) next seen num r s e h =
    both_on (last_sight lost) (mid ms) (kept ms) next 1 seen [] (λ x y near. last_alike next seen x y near lost) (trimmed ms 1 [] num) r s e h

pub untrimmed : (ms : List Mark) (next : ℕ) (seen : List ℕ) → AreNumbered next seen ms → (r s : Register) → Near next seen r s → Shows (kept ms) s → Shows (mid ms) r
untrimmed [] next seen num r s e h = tt
untrimmed (Other n ∷ ms) next seen num r s e h = other_back (mid ms) (kept ms) next seen n num.0 (untrimmed ms (n + 1) seen num.1) r s e h
untrimmed (Secured n ∷ ms) next seen num r s e h = untrimmed ms next seen num.1 r s e h
untrimmed (Called n what ∷ ms) next seen num r s e h =
    both_back (Call n what) (mid ms) (kept ms) next next seen (n ∷ seen) (call_alike next seen n what num.0 num.1) (untrimmed ms next (n ∷ seen) num.2) r s e h
untrimmed (Flushed n ∷ ms) next seen num r s e h = flush_back (mid ms) (kept ms) next seen n num.0 (untrimmed ms (n + 1) (n ∷ seen) num.1) r s e h
untrimmed (Ends true n good ∷ ms) next seen num r s e h =
    both_back (end_sight good n) (mid ms) (kept ms) next next seen seen (λ x y near. end_alike next seen x y near good n) (untrimmed ms next seen num) r s e h
untrimmed (Ends false n good ∷ ms) next seen num r s e h = end_back (mid ms) (kept ms) next seen n good num.0 (untrimmed ms next seen num.1) r s e h
untrimmed (Begins lost ∷ ms) next seen num r s e h =
    both_back (last_sight lost) (mid ms) (kept ms) next 1 seen [] (λ x y near. last_alike next seen x y near lost) (untrimmed ms 1 [] num) r s e h
