-- A sync that will be done may be left out, and be put back.
use Rattle.std.proofs.Common.{◌≡◌, ◌≤◌, inl, ℕ, ◌+◌, ◌==◌, Bool, true, false, List, [], ◌∷◌, refl, sym, ◌∙◌, ap, subst, arith, eq-eqb}
use Rattle.std.specs.Prelude.{if◌then◌else◌}
use Rattle.loss.specs.Held.{IsOneOf}
use Rattle.register_loss.specs.declared.What.{What}
use Rattle.register_loss.specs.declared.What.TheVariants.{Flush, Sync}
use Rattle.register_loss.specs.declared.Sight.{Sight}
use Rattle.register_loss.specs.declared.Sight.TheVariants.{Call, Elsewhere, Done, Failed, Lost, Ended}
use Rattle.register_loss.specs.Schedules.{Register, behind, called}
use Rattle.history_loss_kept.proofs.Steps.{Alike, Shows, Turned, alike_left, alike_right, shows_now, turned_then}
use Rattle.history_loss_kept.proofs.Waits.{above_is, unequal}
use Rattle.history_loss_kept.proofs.Marks.{AreNumbered, AreSecured, Begins, Called, Ends, Flushed, Mark, Other, Secured, end_sight, full, last_sight, mid, will_be_done}
use Rattle.history_loss_kept.proofs.Trimming.{only_one}
use Rattle.history_loss_kept.proofs.Stuck.{stuck_shows}
use Rattle.history_loss_kept.proofs.Beside.{Beside, call_beside, end_beside, last_beside, other_beside, sync_beside, turned_back, turned_on}

abbrev pub Will : List Sight → ℕ → Type 0
Will sights n = will_be_done n sights ≡ true

will_more : (x : Sight) (xs ys : List Sight) (n : ℕ) → will_be_done n ys ≡ will_be_done n xs → will_be_done n (x ∷ ys) ≡ will_be_done n (x ∷ xs)
will_more (Call m what) xs ys n e = e
will_more (Elsewhere m) xs ys n e = e
will_more (Done m) xs ys n e = ap (λ (b : Bool). if m == n then true else b) e
will_more (Failed m) xs ys n e = ap (λ (b : Bool). if m == n then false else b) e
will_more Lost xs ys n e = refl
will_more Ended xs ys n e = refl

will_mid : (ms : List Mark) (n : ℕ) → will_be_done n (mid ms) ≡ will_be_done n (full ms)
will_mid [] n = refl
will_mid (Other m ∷ ms) n = will_mid ms n
will_mid (Secured m ∷ ms) n = will_mid ms n
will_mid (Called m what ∷ ms) n = will_mid ms n
will_mid (Flushed m ∷ ms) n = will_mid ms n
will_mid (Ends keeps m good ∷ ms) n = will_more (end_sight good m) (full ms) (mid ms) n (will_mid ms n)
will_mid (Begins lost ∷ ms) n = will_more (last_sight lost) (full ms) (mid ms) n (will_mid ms n)

end_less : (good : Bool) (m : ℕ) (xs : List Sight) (n : ℕ) → (n == m) ≡ false → Will (end_sight good m ∷ xs) n → Will xs n
end_less good m xs n apart will = by good will
  where
    apart_too : (m == n) ≡ false
    apart_too = unequal m n (λ same. let is : (n == m) ≡ true = eq-eqb n m (sym same) in cc (is, apart))

    by : (good : Bool) → Will (end_sight good m ∷ xs) n → Will xs n
    by true w = sym (ap (λ (b : Bool). if b then true else will_be_done n xs) apart_too) ∙ w
    by false w = sym (ap (λ (b : Bool). if b then false else will_be_done n xs) apart_too) ∙ w

-- A SIGHT OF BOTH

module _ (x : Sight) (xs ys : List Sight) (next next' : ℕ) (same : (n : ℕ) → will_be_done n ys ≡ will_be_done n xs)
    (alike : (r s : Register) → Beside next (Will (x ∷ xs)) r s → Alike (Beside next' (Will xs)) (behind x r) (behind x s)) where
  both_on : ((r s : Register) → Beside next' (Will xs) r s → Shows xs r → Shows ys s) → (r s : Register) → Beside next (Will (x ∷ xs)) r s → Shows (x ∷ xs) r → Shows (x ∷ ys) s
  both_on rest r s e h =
      let one : (s' : Register) × Turned h.0 s s' × Beside next (Will (x ∷ xs)) h.1 s' =
      turned_on h.0 next (Will (x ∷ xs)) r s h.1 e h.3 (λ n will stuck. stuck_shows n (x ∷ xs) h.1 will stuck (shows_now x xs h.1 h.2 h.4 h.5)) in
      let two : (s' : Register) × IsOneOf s' (behind x one.0) × Beside next' (Will xs) h.2 s' = alike_left (Beside next' (Will xs)) h.2 (behind x h.1) (behind x one.0) (alike h.1 one.0 one.2) h.4 in
      (h.0, one.0, two.0, one.1, two.1, rest h.2 two.0 two.2 h.5)

  both_back : ((r s : Register) → Beside next' (Will xs) r s → Shows ys s → Shows xs r) → (r s : Register) → Beside next (Will (x ∷ xs)) r s → Shows (x ∷ ys) s → Shows (x ∷ xs) r
  both_back rest r s e h =
      let one : (r' : Register) × Turned h.0 r r' × Beside next (Will (x ∷ xs)) r' h.1 =
      turned_back h.0 next (Will (x ∷ xs)) r s h.1 e h.3 (λ n will stuck. stuck_shows n (x ∷ ys) h.1 (will_more x xs ys n (same n) ∙ will) stuck (shows_now x ys h.1 h.2 h.4 h.5)) in
      let two : (r' : Register) × IsOneOf r' (behind x one.0) × Beside next' (Will xs) r' h.2 = alike_right (Beside next' (Will xs)) h.2 (behind x one.0) (behind x h.1) (alike one.0 h.1 one.2) h.4 in
      (h.0, one.0, two.0, one.1, two.1, rest two.0 h.2 two.2 h.5)

-- A SYNC OF THE ONE ALONE

module _ (xs ys : List Sight) (next n : ℕ) (is : next ≡ n + 1) (will : Will xs n) where
  sync_on : ((r s : Register) → Beside next (Will xs) r s → Shows xs r → Shows ys s) → (r s : Register) → Beside next (Will xs) r s → Shows (Call n Sync ∷ xs) r → Shows ys s
  sync_on rest r s e h =
      let one : (s' : Register) × Turned h.0 s s' × Beside next (Will xs) h.1 s' =
      turned_on h.0 next (Will xs) r s h.1 e h.3 (λ k w stuck. stuck_shows k (Call n Sync ∷ xs) h.1 w stuck (shows_now (Call n Sync) xs h.1 h.2 h.4 h.5)) in
      let now : Beside next (Will xs) h.2 one.0 = subst (λ x. Beside next (Will xs) x one.0) (sym (only_one (called n Sync h.1) h.2 h.4)) (sync_beside next (Will xs) (Will xs) h.1 one.0 one.2 n is (λ k w. w) will) in
      turned_then h.0 ys s one.0 one.1 (rest h.2 one.0 now h.5)

  sync_back : ((r s : Register) → Beside next (Will xs) r s → Shows ys s → Shows xs r) → (r s : Register) → Beside next (Will xs) r s → Shows ys s → Shows (Call n Sync ∷ xs) r
  sync_back rest r s e h = shows_now (Call n Sync) xs r (called n Sync r) (inl refl) (rest (called n Sync r) s (sync_beside next (Will xs) (Will xs) r s e n is (λ k w. w) will) h)

-- THE WHOLE

elsewhere_alike : (xs : List Sight) (next n : ℕ) → next ≤ n → (r s : Register) → Beside next (Will (Elsewhere n ∷ xs)) r s → Alike (Beside (n + 1) (Will xs)) (behind (Elsewhere n) r) (behind (Elsewhere n) s)
elsewhere_alike xs next n low r s e = (other_beside next (Will (Elsewhere n ∷ xs)) (Will xs) r s e n (above_is n next (omega (arith, low))) (λ k w. w), tt)

call_alike : (xs : List Sight) (next n : ℕ) (what : What) → next ≡ n + 1 → (r s : Register) → Beside next (Will (Call n what ∷ xs)) r s → Alike (Beside next (Will xs)) (behind (Call n what) r) (behind (Call n what) s)
call_alike xs next n what is r s e = (call_beside next (Will (Call n what ∷ xs)) (Will xs) r s e n what is (λ k w. w), tt)

end_alike : (xs : List Sight) (next n : ℕ) (good : Bool) → (r s : Register) → Beside next (Will (end_sight good n ∷ xs)) r s → Alike (Beside next (Will xs)) (behind (end_sight good n) r) (behind (end_sight good n) s)
end_alike xs next n good r s e = end_beside next (Will (end_sight good n ∷ xs)) (Will xs) r s e good n (λ k apart w. end_less good n xs k apart w)

last_alike : (xs : List Sight) (next : ℕ) (lost : Bool) → (r s : Register) → Beside next (Will (last_sight lost ∷ xs)) r s → Alike (Beside 1 (Will xs)) (behind (last_sight lost) r) (behind (last_sight lost) s)
last_alike xs next lost r s e = last_beside next (Will (last_sight lost ∷ xs)) (Will xs) r s e lost

pub secured : (ms : List Mark) (next : ℕ) (seen : List ℕ) → AreNumbered next seen ms → AreSecured ms → (r s : Register) → Beside next (Will (full ms)) r s → Shows (full ms) r → Shows (mid ms) s
secured [] next seen num sure r s e h = tt
secured (Other n ∷ ms) next seen num sure r s e h =
    both_on (Elsewhere n) (full ms) (mid ms) next (n + 1) (will_mid ms) (elsewhere_alike (full ms) next n num.0) (secured ms (n + 1) seen num.1 sure) r s e h
secured (Secured n ∷ ms) next seen num sure r s e h = sync_on (full ms) (mid ms) next n num.0 sure.0 (secured ms next seen num.1 sure.1) r s e h
secured (Called n what ∷ ms) next seen num sure r s e h =
    both_on (Call n what) (full ms) (mid ms) next next (will_mid ms) (call_alike (full ms) next n what num.0) (secured ms next (n ∷ seen) num.2 sure) r s e h
secured (Flushed n ∷ ms) next seen num sure r s e h =
    both_on (Elsewhere n) (Call n Flush ∷ full ms) (Call n Flush ∷ mid ms) next (n + 1) (will_mid ms) (elsewhere_alike (Call n Flush ∷ full ms) next n num.0)
    (both_on (Call n Flush) (full ms) (mid ms) (n + 1) (n + 1) (will_mid ms) (call_alike (full ms) (n + 1) n Flush refl) (secured ms (n + 1) (n ∷ seen) num.1 sure)) r s e h
secured (Ends true n good ∷ ms) next seen num sure r s e h =
    both_on (end_sight good n) (full ms) (mid ms) next next (will_mid ms) (end_alike (full ms) next n good) (secured ms next seen num sure) r s e h
secured (Ends false n good ∷ ms) next seen num sure r s e h =
    both_on (end_sight good n) (full ms) (mid ms) next next (will_mid ms) (end_alike (full ms) next n good) (secured ms next seen num.1 sure) r s e h
secured (Begins lost ∷ ms) next seen num sure r s e h =
    both_on (last_sight lost) (full ms) (mid ms) next 1 (will_mid ms) (last_alike (full ms) next lost) (secured ms 1 [] num sure) r s e h

pub unsecured : (ms : List Mark) (next : ℕ) (seen : List ℕ) → AreNumbered next seen ms → AreSecured ms → (r s : Register) → Beside next (Will (full ms)) r s → Shows (mid ms) s → Shows (full ms) r
unsecured [] next seen num sure r s e h = tt
unsecured (Other n ∷ ms) next seen num sure r s e h =
    both_back (Elsewhere n) (full ms) (mid ms) next (n + 1) (will_mid ms) (elsewhere_alike (full ms) next n num.0) (unsecured ms (n + 1) seen num.1 sure) r s e h
unsecured (Secured n ∷ ms) next seen num sure r s e h = sync_back (full ms) (mid ms) next n num.0 sure.0 (unsecured ms next seen num.1 sure.1) r s e h
unsecured (Called n what ∷ ms) next seen num sure r s e h =
    both_back (Call n what) (full ms) (mid ms) next next (will_mid ms) (call_alike (full ms) next n what num.0) (unsecured ms next (n ∷ seen) num.2 sure) r s e h
unsecured (Flushed n ∷ ms) next seen num sure r s e h =
    both_back (Elsewhere n) (Call n Flush ∷ full ms) (Call n Flush ∷ mid ms) next (n + 1) (will_mid ms) (elsewhere_alike (Call n Flush ∷ full ms) next n num.0)
    (both_back (Call n Flush) (full ms) (mid ms) (n + 1) (n + 1) (will_mid ms) (call_alike (full ms) (n + 1) n Flush refl) (unsecured ms (n + 1) (n ∷ seen) num.1 sure)) r s e h
unsecured (Ends true n good ∷ ms) next seen num sure r s e h =
    both_back (end_sight good n) (full ms) (mid ms) next next (will_mid ms) (end_alike (full ms) next n good) (unsecured ms next seen num sure) r s e h
unsecured (Ends false n good ∷ ms) next seen num sure r s e h =
    both_back (end_sight good n) (full ms) (mid ms) next next (will_mid ms) (end_alike (full ms) next n good) (unsecured ms next seen num.1 sure) r s e h
unsecured (Begins lost ∷ ms) next seen num sure r s e h =
    both_back (last_sight lost) (full ms) (mid ms) next 1 (will_mid ms) (last_alike (full ms) next lost) (unsecured ms 1 [] num sure) r s e h
