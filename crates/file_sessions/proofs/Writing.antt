-- The calls of a write, sector by sector.
use Rattle.std.proofs.Common.{◌≡◌, ◌<◌, ◌≤◌, ◌⊎◌, inl, inr, ℕ, ◌+◌, ◌-◌, ◌*◌, ◌/◌, ◌%◌, List, [], ◌∷◌, ◌++◌, Ok, Err, length, take, drop, refl, sym, ap, subst, ◌∙◌, arith, length-drop}
use Rattle.std.specs.Prelude.{if◌then◌else◌}
use Rattle.std.proofs.Math.Nat.{mul-div_cancel, mul-sub, div-add-mod'}
use Rattle.std.proofs.lemmas.List.{drop-drop}
use Rattle.file_disk.specs.declared.storage.Failure.{Failure}
use Rattle.file_disk.specs.declared.storage.Failure.TheVariants.{Failed}
use Rattle.file_disk.specs.Calls.{Call, ReadAt, WriteAt, Sync, StopsWriting, Writes}
use Rattle.loss.specs.Held.{Held, Puts, Tries, changed, has, sector_in}
use Rattle.file_sessions.specs.Stored.{Content, IsKept, held, told}
use Rattle.file_sessions.specs.Within.{IsWithin}
use Rattle.file_sessions.proofs.Within.{IsAway, IsThere, put_behind, put_tried, there_or_away, tried_behind, untried, within_is}

-- NUMBERS

pub whole : (size n : ℕ) → n % size ≡ 0 → n ≡ n / size * size
whole size n none = omega (arith, div-add-mod' n size)

pub times_over : (size k : ℕ) → 0 < size → k * size / size ≡ k
times_over size k some = mul-div_cancel k some

-- what a sector has of the rest of some bytes
rest_sector : (size b k : ℕ) (bytes : List ℕ) → sector_in size k (drop (b * size) bytes) ≡ sector_in size (b + k) bytes
rest_sector size b k bytes =
    let n : b * size + k * size ≡ (b + k) * size = omega arith in
    ap (λ (ys : List ℕ). take size ys) (drop-drop (k * size) (b * size) bytes ∙ ap (λ (m : ℕ). drop m bytes) n)

-- SO MANY SECTORS

-- the calls so far of a write of these bytes took this many sectors
pub record Wrote (size i first count done : ℕ) (bytes : List ℕ) (n : ℕ) (before after : Held) : Type 0 where
  pub away : IsAway first count i → after ≡ before
  pub there : IsThere first count i → IsWithin after (changed n (Tries (sector_in size (i - first) bytes)) before)
  pub done_there : IsThere first count i → IsThere first done i → IsWithin after (changed n (Puts (sector_in size (i - first) bytes)) before)

module _ (size i first count : ℕ) (bytes : List ℕ) (n : ℕ) (some : 0 < size) (long : length bytes ≡ count * size) where
  abbrev v : List ℕ
  v = sector_in size (i - first) bytes

  -- a call that was told the rest behind b sectors, and took k
  abbrev step : ℕ → ℕ → Held → Held
  step b k h = told size i ((first + b) * size) (drop (b * size) bytes) (k * size) h

  rest_long : (b : ℕ) → length (drop (b * size) bytes) / size ≡ count - b
  rest_long b =
      let m : length (drop (b * size) bytes) ≡ (count - b) * size = omega (arith, length-drop (b * size) bytes, mul-sub size count b, long) in
      ap (λ (x : ℕ). x / size) m ∙ times_over size (count - b) some

  abbrev plain : ℕ → ℕ → Held → Held
  plain b k h =
      if has (record { first = first + b; count = count - b }) i
      then (if has (record { first = first + b; count = k }) i then changed 0 (Puts (sector_in size (i - (first + b)) (drop (b * size) bytes))) h else changed 0 (Tries (sector_in size (i - (first + b)) (drop (b * size) bytes))) h)
      else h

  plainly : (b k : ℕ) (h : Held) → step b k h ≡ plain b k h
  plainly b k h = rw (times_over size (first + b) some, rest_long b, times_over size k some) refl

  value_is : (b : ℕ) → first + b ≤ i → sector_in size (i - (first + b)) (drop (b * size) bytes) ≡ v
  value_is b low =
      let m : b + (i - (first + b)) ≡ i - first = omega arith in
      rest_sector size b (i - (first + b)) bytes ∙ ap (λ (x : ℕ). sector_in size x bytes) m

  apart_not : (b : ℕ) → (i < first) ⊎ (first + count ≤ i) → first + b ≤ i → i < first + b + (count - b) → ⊥
  apart_not b (inl x) low high = omega arith
  apart_not b (inr x) low high = omega arith

  not_done : (b k : ℕ) → (i < first + b) ⊎ (first + b + k ≤ i) → first + b ≤ i → i < first + (b + k) → ⊥
  not_done b k (inl x) low high = omega arith
  not_done b k (inr x) low high = omega arith

  not_there : (b : ℕ) → IsThere first count i → (i < first) ⊎ (first + b ≤ i) → i < first + b → ⊥
  not_there b here (inl x) low = omega (arith, here.1)
  not_there b here (inr x) low = omega arith

  -- a sector of the extent that the rest doesn't have was there before
  earlier : (b k : ℕ) → IsThere first count i → IsThere first (b + k) i → (i < first + b) ⊎ (first + b + (count - b) ≤ i) → IsThere first b i
  earlier b k here done (inl low) = elim (there_or_away first b i) [ inl h ↦ h | inr h ↦ absurd (not_there b here h.1 low) ]
  earlier b k here done (inr high) = absurd (omega (arith, here.1, here.2))

  one_call : (b k : ℕ) (before after : Held) → Wrote size i first count b bytes n before after → Wrote size i first count (b + k) bytes n before (step b k after)
  one_call b k before after w = subst (λ (h : Held). Wrote size i first count (b + k) bytes n before h) (sym (plainly b k after)) (by_place (there_or_away (first + b) (count - b) i) (there_or_away (first + b) k i))
    where
      by_place : IsThere (first + b) (count - b) i ⊎ IsAway (first + b) (count - b) i → IsThere (first + b) k i ⊎ IsAway (first + b) k i → Wrote size i first count (b + k) bytes n before (plain b k after)
      by_place (inr away) x = rw away.0 (record {
        away = w.away;
        there = w.there;
        done_there = λ here done. w.done_there here (earlier b k here done away.1);
      })
      by_place (inl told') (inl took) = rw (told'.0, took.0, value_is b told'.1) (record {
        away = λ apart. absurd (apart_not b apart.1 told'.1 told'.2);
        there = λ here. put_tried v 0 n before (changed 0 (Puts v) after) (put_behind v 0 n before after (w.there here));
        done_there = λ here done. put_behind v 0 n before after (w.there here);
      })
      by_place (inl told') (inr left) = rw (told'.0, left.0, value_is b told'.1) (record {
        away = λ apart. absurd (apart_not b apart.1 told'.1 told'.2);
        there = λ here. tried_behind v 0 n before after (w.there here);
        done_there = λ here done. absurd (not_done b k left.1 told'.1 done.2);
      })

  nothing_yet : (h : Held) → Wrote size i first count 0 bytes n h h
  nothing_yet h = record {
    away = λ apart. refl;
    there = λ here. untried v n h;
    done_there = λ here done. absurd (none done.1 done.2);
  }
    where
      none : first ≤ i → i < first + 0 → ⊥
      none low high = omega arith

  told_is : (at b k took : ℕ) (rest : List ℕ) (h : Held) → at ≡ (first + b) * size → rest ≡ drop (b * size) bytes → took ≡ k * size → told size i at rest took h ≡ step b k h
  told_is at b k took rest h place is all = rw (place, is, all) refl

  place_is : (at b m : ℕ) → m ≡ b * size → at ≡ first * size + m → at ≡ (first + b) * size
  place_is at b m e place = omega arith

  -- the calls so far of a write of these bytes, that took all that they were to
  module _ (content : Content) (before : List Call) where
    abbrev at_first : List Call → Held
    at_first calls = held size i (content i) calls

    pub wrote : (calls : List Call) (m : ℕ) → IsKept size content (calls ++ before) → Writes (first * size) bytes m calls
        → (b : ℕ) × (m ≡ b * size) × Wrote size i first count b bytes n (at_first before) (at_first (calls ++ before))
    wrote [] m kept h = (0, zero_times h, nothing_yet (at_first before))
      where
        zero_times : m ≡ 0 → m ≡ 0 * size
        zero_times e = omega arith
    wrote (WriteAt at rest (Ok took) ∷ calls) m kept h =
        let more = wrote calls h.0 kept.1 h.4 in
        let b : ℕ = more.0 in
        let k : ℕ = took / size in
        let all : took ≡ k * size = whole size took kept.0 in
        let is : rest ≡ drop (b * size) bytes = h.3 ∙ ap (λ (x : ℕ). drop x bytes) more.1 in
        let same : told size i at rest took (at_first (calls ++ before)) ≡ step b k (at_first (calls ++ before)) = told_is at b k took rest (at_first (calls ++ before)) (place_is at b h.0 more.1 h.2) is all in (
          b + k,
          sum b k h.0 more.1 all h.1,
          subst (λ (x : Held). Wrote size i first count (b + k) bytes n (at_first before) x) (sym same) (one_call b k (at_first before) (at_first (calls ++ before)) more.2),
        )
      where
        sum : (b k x : ℕ) → x ≡ b * size → took ≡ k * size → m ≡ x + took → m ≡ (b + k) * size
        sum b k x e e' e'' = omega arith
    wrote (WriteAt at rest (Err why) ∷ calls) m kept h = absurd h
    wrote (ReadAt at asked gave ∷ calls) m kept h = absurd h
    wrote (Sync fault ∷ calls) m kept h = absurd h

    -- those of one of which the newest took nothing
    stopped_at : (calls : List Call) (at : ℕ) (rest : List ℕ) (m : ℕ) → IsKept size content (calls ++ before) → at ≡ first * size + m → rest ≡ drop m bytes → Writes (first * size) bytes m calls
        → (b : ℕ) × Wrote size i first count b bytes n (at_first before) (told size i at rest 0 (at_first (calls ++ before)))
    stopped_at calls at rest m kept place is h =
        let more = wrote calls m kept h in
        let b : ℕ = more.0 in
        let none : 0 ≡ 0 * size = omega arith in
        let same : told size i at rest 0 (at_first (calls ++ before)) ≡ step b 0 (at_first (calls ++ before)) =
        told_is at b 0 0 rest (at_first (calls ++ before)) (place_is at b m more.1 place) (is ∙ ap (λ (x : ℕ). drop x bytes) more.1) none in (
          b + 0,
          subst (λ (x : Held). Wrote size i first count (b + 0) bytes n (at_first before) x) (sym same) (one_call b 0 (at_first before) (at_first (calls ++ before)) more.2),
        )

    pub stopped : (calls : List Call) (why : Failure) → IsKept size content (calls ++ before) → StopsWriting (first * size) bytes why calls
        → (b : ℕ) × Wrote size i first count b bytes n (at_first before) (at_first (calls ++ before))
    stopped (WriteAt at rest (Ok took) ∷ calls) why kept h =
        let it = stopped_at calls at rest h.0 kept.1 h.1 h.2 h.4 in
        (it.0, subst (λ (x : ℕ). Wrote size i first count it.0 bytes n (at_first before) (told size i at rest x (at_first (calls ++ before)))) (sym h.3.0) it.1)
    stopped (WriteAt at rest (Err said) ∷ calls) why kept h = stopped_at calls at rest h.0 kept.1 h.1 h.2 h.4
    stopped [] why kept h = absurd h
    stopped (ReadAt at asked gave ∷ calls) why kept h = absurd h
    stopped (Sync fault ∷ calls) why kept h = absurd h

    -- one that was under way behind them
    pub cut_off : (calls : List Call) (at : ℕ) (rest : List ℕ) (m : ℕ) → IsKept size content (calls ++ before) → at ≡ first * size + m → rest ≡ drop m bytes → Writes (first * size) bytes m calls
        → (b : ℕ) × Wrote size i first count b bytes n (at_first before) (at_first (WriteAt at rest (Err Failed) ∷ (calls ++ before)))
    cut_off calls at rest m kept place is h = stopped_at calls at rest m kept place is h

    all_taken : (b : ℕ) → length bytes ≡ b * size → b ≡ count
    all_taken b e = sym (times_over size b some) ∙ ap (λ (x : ℕ). x / size) (sym e ∙ long) ∙ times_over size count some

    pub wrote_all : (calls : List Call) → IsKept size content (calls ++ before) → Writes (first * size) bytes (length bytes) calls
        → Wrote size i first count count bytes n (at_first before) (at_first (calls ++ before))
    wrote_all calls kept h =
        let it = wrote calls (length bytes) kept h in
        subst (λ (b : ℕ). Wrote size i first count b bytes n (at_first before) (at_first (calls ++ before))) (all_taken it.0 it.1) it.2

  -- WHAT IT COMES TO

  pub as_tried : (b : ℕ) (before after : Held) → Wrote size i first count b bytes n before after
      → IsWithin after (if has (record { first = first; count = count }) i then changed n (Tries v) before else before)
  as_tried b before after w = by_place (there_or_away first count i)
    where
      by_place : IsThere first count i ⊎ IsAway first count i → IsWithin after (if has (record { first = first; count = count }) i then changed n (Tries v) before else before)
      by_place (inl h) = rw h.0 (w.there h)
      by_place (inr h) = rw h.0 (within_is after before (w.away h))

  pub as_put : (before after : Held) → Wrote size i first count count bytes n before after
      → IsWithin after (if has (record { first = first; count = count }) i then changed n (Puts v) before else before)
  as_put before after w = by_place (there_or_away first count i)
    where
      by_place : IsThere first count i ⊎ IsAway first count i → IsWithin after (if has (record { first = first; count = count }) i then changed n (Puts v) before else before)
      by_place (inl h) = rw h.0 (w.done_there h h)
      by_place (inr h) = rw h.0 (within_is after before (w.away h))
