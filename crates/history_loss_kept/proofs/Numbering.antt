-- The marks of a history are numbered: an end that is left out is of no call that the sector saw.
use Rattle.std.proofs.Common.{◌≡◌, ◌≤◌, ◌⊎◌, inl, inr, ℕ, ◌+◌, ◌==◌, ◌&&◌, ◌||◌, Bool, true, false, List, [], ◌∷◌, ◌++◌, Option, Some, None, refl, sym, ◌∙◌, ap, subst, map, arith, append_assoc, eq-eqb}
use Rattle.std.specs.Prelude.{is_some, if◌then◌else◌}
use Rattle.std.specs.List.{list_any}
use Rattle.std.proofs.lemmas.Bool.{and_from, and_parts}
use Rattle.ntstatus.specs.declared.NtStatus.{NtStatus}
use Rattle.srb.specs.declared.Kind.{Kind}
use Rattle.srb.specs.declared.Kind.TheVariants.{Read, Write, Flush}
use Rattle.machine.specs.declared.ClientRequest.{ClientRequest}
use Rattle.machine.specs.declared.Label.TheVariants.{Call, Device, Answer, Cancel, Pause, Resume, Remove, Surprise, Removed}
use Rattle.machine.specs.Rules.{Rules}
use Rattle.loss.specs.Sessions.{Line, Told, Lost, Ended}
use Rattle.loss.specs.Held.{IsOneOf}
use Rattle.register_loss.specs.declared.What.{What}
use Rattle.register_loss.specs.Schedules.{is_flush}
use Rattle.history_loss_sights.specs.Sights.{has_sector, moves, moves_of, place_of, reads, success_bytes, success_of}
use Rattle.history_loss_kept.specs.declared.Wait.{Wait}
use Rattle.history_loss_kept.specs.declared.Wait.TheVariants.{Known, Awaits}
use Rattle.history_loss_kept.specs.declared.Own.{Own}
use Rattle.history_loss_kept.specs.declared.Shared.{Shared}
use Rattle.history_loss_kept.specs.declared.Shared.TheVariants.{Call as SharedCall, End}
use Rattle.history_loss_kept.specs.Kept.{call_of, call_wait, fill, is_call_of, is_own_of, is_success, is_sync_of, outcome_of, read_by, settled, wait_by, with_first}
use Rattle.history_loss_kept.proofs.Marks.{AreNumbered, Called, Ends, Mark}
use Rattle.history_loss_kept.proofs.Items.{Item, Ow, Sh, any_own, any_sync, call_items, end_items, fills, items_of, own_items, owns, settles, shareds, with_wait}
use Rattle.history_loss_kept.proofs.Dues.{same_number, sync_marks}
use Rattle.history_loss_kept.proofs.Fitting.{IsCounted}
use Rattle.history_loss_kept.proofs.Marking.{after, keeps, marks_of}

or_left : (a b : Bool) → a ≡ true → (a || b) ≡ true
or_left true b e = refl
or_left false b e = absurd (cc (e))

or_right : (a b : Bool) → b ≡ true → (a || b) ≡ true
or_right true b e = refl
or_right false b e = e

or_cases : (a b : Bool) → (a || b) ≡ true → (a ≡ true) ⊎ (b ≡ true)
or_cases true b e = inl refl
or_cases false b e = inr e

any_left : {X : Type 0} (p : X → Bool) (xs ys : List X) → list_any p xs ≡ true → list_any p (xs ++ ys) ≡ true
any_left p [] ys e = absurd (cc (e))
any_left p (x ∷ xs) ys e = elim (or_cases (p x) (list_any p xs) e) [
  | inl here ↦ or_left (p x) (list_any p (xs ++ ys)) here
  | inr there ↦ or_right (p x) (list_any p (xs ++ ys)) (any_left p xs ys there)
]

any_right : {X : Type 0} (p : X → Bool) (xs ys : List X) → list_any p ys ≡ true → list_any p (xs ++ ys) ≡ true
any_right p [] ys e = e
any_right p (x ∷ xs) ys e = or_right (p x) (list_any p (xs ++ ys)) (any_right p xs ys e)

-- what is called with this number, and is no read that doesn't succeed
abbrev named : List Line → ℕ → Item → Bool
named lines m (Sh one) = is_sync_of m one
named lines m (Ow (Known sight)) = is_call_of m sight
named lines m (Ow (Awaits n place)) = (n == m) && is_some (success_of n lines)

named_same : (lines lines' : List Line) (m : ℕ) → ((n : ℕ) → success_of n lines ≡ success_of n lines') → (its : List Item) → list_any (named lines m) its ≡ list_any (named lines' m) its
named_same lines lines' m h [] = refl
named_same lines lines' m h (Sh one ∷ its) = ap (λ b. is_sync_of m one || b) (named_same lines lines' m h its)
named_same lines lines' m h (Ow (Known sight) ∷ its) = ap (λ b. is_call_of m sight || b) (named_same lines lines' m h its)
named_same lines lines' m h (Ow (Awaits n place) ∷ its) =
    ap (λ x. ((n == m) && is_some x) || list_any (named lines m) its) (h n) ∙ ap (λ b. ((n == m) && is_some (success_of n lines')) || b) (named_same lines lines' m h its)

and_true : (b : Bool) → (b && true) ≡ b
and_true true = refl
and_true false = refl

and_false : (b : Bool) → (b && false) ≡ false
and_false true = refl
and_false false = refl

module _ (code : List ℕ → ℕ) (rules : Rules) (n : ℕ) (status : NtStatus) (informed : ℕ) (bytes : List ℕ) (lines : List Line) where
  abbrev brings : Option (List ℕ)
  brings = success_bytes status bytes

  abbrev before : List Line
  before = Told (Answer n status informed bytes) ∷ lines

  abbrev behind : List Item → List Item
  behind its = settles n status (fills code rules n brings its)

  sync_settled : (m : ℕ) (one : Shared) → is_sync_of m (settled n status one) ≡ is_sync_of m one
  sync_settled m (SharedCall k is_flush' outcome) = by (k == n)
    where
      by : (b : Bool) → is_sync_of m (if b then SharedCall k is_flush' (outcome_of status) else SharedCall k is_flush' outcome) ≡ (k == m)
      by true = refl
      by false = refl
  sync_settled m (End k good) = refl

  named_read : (m k place : ℕ) (b : Bool) (rest : List Item)
      → (((k == m) && is_some (if b then brings else success_of k lines)) || list_any (named lines m) (settles n status rest))
      ≡ list_any (named lines m) (settles n status (with_wait (if b then read_by code rules k place brings else Some (Awaits k place)) rest))
  named_read m k place false rest = refl
  named_read m k place true rest = by brings
    where
      by : (x : Option (List ℕ)) → (((k == m) && is_some x) || list_any (named lines m) (settles n status rest)) ≡ list_any (named lines m) (settles n status (with_wait (read_by code rules k place x) rest))
      by None = ap (λ b. b || list_any (named lines m) (settles n status rest)) (and_false (k == m))
      by (Some found) = ap (λ b. b || list_any (named lines m) (settles n status rest)) (and_true (k == m))

  with_same : (m : ℕ) (x : Option Wait) (its its' : List Item) → list_any (named lines m) (settles n status its) ≡ list_any (named lines m) (settles n status its')
      → list_any (named lines m) (settles n status (with_wait x its)) ≡ list_any (named lines m) (settles n status (with_wait x its'))
  with_same m None its its' e = e
  with_same m (Some wait) its its' e = ap (λ b. named lines m (Ow wait) || b) e

  named_answered : (m : ℕ) (its : List Item) → list_any (named before m) its ≡ list_any (named lines m) (behind its)
  named_answered m [] = refl
  named_answered m (Sh one ∷ its) = ap (λ b. b || list_any (named before m) its) (sym (sync_settled m one)) ∙ ap (λ b. is_sync_of m (settled n status one) || b) (named_answered m its)
  named_answered m (Ow (Known sight) ∷ its) = ap (λ b. is_call_of m sight || b) (named_answered m its)
  named_answered m (Ow (Awaits k place) ∷ its) =
      ap (λ b. ((k == m) && is_some (if n == k then brings else success_of k lines)) || b) (named_answered m its)
      ∙ ap (λ (c : Bool). ((k == m) && is_some (if c then brings else success_of k lines)) || list_any (named lines m) (behind its)) (same_number n k (k == n) refl)
      ∙ named_read m k place (k == n) (fills code rules n brings its)

  -- the end of what was named is kept

  first_any : (k : ℕ) (x : Option Wait) (own : List Own) → list_any (is_own_of n) own ≡ true → list_any (is_own_of n) (with_first k x own) ≡ true
  first_any k None own e = e
  first_any k (Some wait) own e = or_right (is_own_of n (record { behind = k; wait = wait })) (list_any (is_own_of n) own) e

  first_read : (j k place : ℕ) (x : Option (List ℕ)) (own : List Own) → (k == n) ≡ true → is_some x ≡ true → list_any (is_own_of n) (with_first j (read_by code rules k place x) own) ≡ true
  first_read j k place None own here some = absurd (cc (some))
  first_read j k place (Some found) own here some = or_left (k == n) (list_any (is_own_of n) own) here

  read_kept : (j k place : ℕ) (own : List Own) → ((k == n) && is_some (if n == k then brings else success_of k lines)) ≡ true → list_any (is_own_of n) (with_first j (wait_by code rules n brings (Awaits k place)) own) ≡ true
  read_kept j k place own e =
      let parts : _ × _ = and_parts (k == n) (is_some (if n == k then brings else success_of k lines)) e in
      let some : is_some brings ≡ true = sym (ap (λ (c : Bool). is_some (if c then brings else success_of k lines)) (same_number n k true parts.0)) ∙ parts.1 in
      subst (λ (c : Bool). list_any (is_own_of n) (with_first j (if c then read_by code rules k place brings else Some (Awaits k place)) own) ≡ true) (sym parts.0) (first_read j k place brings own parts.0 some)

  kept_if_named : (j : ℕ) (its : List Item) → list_any (named before n) its ≡ true → (list_any (is_sync_of n) (shareds its) ≡ true) ⊎ (list_any (is_own_of n) (fill code rules n brings (owns j its)) ≡ true)
  kept_if_named j [] e = absurd (cc (e))
  kept_if_named j (Sh one ∷ its) e = elim (or_cases (is_sync_of n one) (list_any (named before n) its) e) [
    | inl here ↦ inl (or_left (is_sync_of n one) (list_any (is_sync_of n) (shareds its)) here)
    | inr there ↦ elim (kept_if_named (j + 1) its there) [ inl sync ↦ inl (or_right (is_sync_of n one) (list_any (is_sync_of n) (shareds its)) sync) | inr own ↦ inr own ]
  ]
  kept_if_named j (Ow (Known sight) ∷ its) e = elim (or_cases (is_call_of n sight) (list_any (named before n) its) e) [
    | inl here ↦ inr (or_left (is_call_of n sight) (list_any (is_own_of n) (fill code rules n brings (owns j its))) here)
    | inr there ↦ elim (kept_if_named j its there) [ inl sync ↦ inl sync | inr own ↦ inr (or_right (is_call_of n sight) (list_any (is_own_of n) (fill code rules n brings (owns j its))) own) ]
  ]
  kept_if_named j (Ow (Awaits k place) ∷ its) e = elim (or_cases ((k == n) && is_some (if n == k then brings else success_of k lines)) (list_any (named before n) its) e) [
    | inl here ↦ inr (read_kept j k place (fill code rules n brings (owns j its)) here)
    | inr there ↦ elim (kept_if_named j its there) [ inl sync ↦ inl sync | inr own ↦ inr (first_any j (wait_by code rules n brings (Awaits k place)) (fill code rules n brings (owns j its)) own) ]
  ]

  named_keeps : (i : ℕ) (its : List Item) → list_any (named before n) its ≡ true → keeps code rules i n brings its ≡ true
  named_keeps i its e = elim (kept_if_named 0 its e) [
    | inl sync ↦ or_left (any_sync code rules n brings its) (any_own code rules n brings its) sync
    | inr own ↦ or_right (any_sync code rules n brings its) (any_own code rules n brings its) own
  ]

-- A CALL

abbrev is_sync_kind : Kind → Bool → Bool
is_sync_kind Read through = false
is_sync_kind Write through = through
is_sync_kind Flush through = true

module _ (P : ℕ → Type 0) (n : ℕ) where
  with_this : (seen : List ℕ) → P n → ((m : ℕ) → IsOneOf m seen → P m) → (m : ℕ) → IsOneOf m (n ∷ seen) → P m
  with_this seen p h m (inl e) = subst P (sym e) p
  with_this seen p h m (inr there) = h m there

  numbered_calls : (rest : List Mark) → ((seen : List ℕ) → ((m : ℕ) → IsOneOf m seen → P m) → AreNumbered (n + 1) seen rest)
      → (ws : List What) → ((w : What) → IsOneOf w ws → P n × (is_flush w ≡ false)) → (seen : List ℕ) → ((m : ℕ) → IsOneOf m seen → P m) → AreNumbered (n + 1) seen (map (Called n) ws ++ rest)
  numbered_calls rest next [] f seen h = next seen h
  numbered_calls rest next (w ∷ ws) f seen h =
      (refl, (f w (inl refl)).1, numbered_calls rest next ws (λ u there. f u (inr there)) (n ∷ seen) (with_this seen (f w (inl refl)).0 h))

  numbered_syncs : (all : Bool) (rest : List Mark) → ((seen : List ℕ) → ((m : ℕ) → IsOneOf m seen → P m) → AreNumbered (n + 1) seen rest) → (next : ℕ) → next ≤ n
      → (kind : Kind) (through : Bool) (answer : Option (List ℕ)) → (is_sync_kind kind through ≡ true → P n) → (seen : List ℕ) → ((m : ℕ) → IsOneOf m seen → P m) → AreNumbered next seen (sync_marks all n kind through answer ++ rest)
  numbered_syncs all rest go next low Read through answer p seen h = (low, go seen h)
  numbered_syncs all rest go next low Write false answer p seen h = (low, go seen h)
  numbered_syncs all rest go next low Write true (Some bytes) p seen h = (low, (refl, go seen h))
  numbered_syncs true rest go next low Write true None p seen h = (low, (refl, refl, go (n ∷ seen) (with_this seen (p refl) h)))
  numbered_syncs false rest go next low Write true None p seen h = (low, go seen h)
  numbered_syncs all rest go next low Flush through (Some bytes) p seen h = (low, go (n ∷ seen) (with_this seen (p refl) h))
  numbered_syncs true rest go next low Flush through None p seen h = (low, go (n ∷ seen) (with_this seen (p refl) h))
  numbered_syncs false rest go next low Flush through None p seen h = (low, go seen h)

named_sync : (lines : List Line) (n : ℕ) (kind : Kind) (through : Bool) → is_sync_kind kind through ≡ true → list_any (named lines n) (map Sh (call_of n kind through)) ≡ true
named_sync lines n Read through e = absurd (cc (e))
named_sync lines n Write true e = or_left (n == n) false (eq-eqb n n refl)
named_sync lines n Write false e = absurd (cc (e))
named_sync lines n Flush through e = or_left (n == n) false (eq-eqb n n refl)

module _ (code : List ℕ → ℕ) (rules : Rules) (i : ℕ) (lines : List Line) (n : ℕ) (q : ClientRequest) where
  named_read_call : (w : What) (x : Option (List ℕ)) → success_of n lines ≡ x → IsOneOf w (reads code rules (place_of rules i q) x)
      → (list_any (named lines n) (Ow (Awaits n (place_of rules i q)) ∷ []) ≡ true) × (is_flush w ≡ false)
  named_read_call w None e h = absurd h
  named_read_call w (Some bytes) e (inl is) = (
    or_left ((n == n) && is_some (success_of n lines)) false (and_from (n == n) (is_some (success_of n lines)) (eq-eqb n n refl) (ap (λ x. is_some x) e)),
    ap (λ x. is_flush x) is,
  )
  named_read_call w (Some bytes) e (inr none) = absurd none

  named_move : (w : What) → IsOneOf w (moves_of code rules i q (success_of n lines)) → (list_any (named lines n) (own_items code rules i n q) ≡ true) × (is_flush w ≡ false)
  named_move w = by (has_sector rules i q) q.kind
    where
      by : (b : Bool) (kind : Kind) → IsOneOf w (if b then moves code rules (place_of rules i q) q (success_of n lines) kind else [])
          → (list_any (named lines n) (if b then items_of (call_wait code rules i n q kind) else []) ≡ true) × (is_flush w ≡ false)
      by true Read h = named_read_call w (success_of n lines) refl h
      by true Write (inl is) = (or_left (n == n) false (eq-eqb n n refl), ap (λ x. is_flush x) is)
      by true Write (inr none) = absurd none
      by true Flush h = absurd h
      by false kind h = absurd h

-- THE WHOLE

module _ (code : List ℕ → ℕ) (rules : Rules) (i : ℕ) (all : Bool) where
  numbered_end : (keep : Bool) (next : ℕ) (seen : List ℕ) (n : ℕ) (good : Bool) (rest : List Mark) → (IsOneOf n seen → keep ≡ true) → AreNumbered next seen rest → AreNumbered next seen (Ends keep n good ∷ rest)
  numbered_end true next seen n good rest h a = a
  numbered_end false next seen n good rest h a = (λ there. let e : false ≡ true = h there in cc (e), a)

  pub numbered : (lines : List Line) (its : List Item) (next : ℕ) (done seen : List ℕ) → IsCounted next done lines → ((m : ℕ) → IsOneOf m seen → list_any (named lines m) its ≡ true) → AreNumbered next seen (marks_of code rules i all its lines)
  numbered [] its next done seen count h = tt
  numbered (Lost ∷ lines) its next done seen count h = numbered lines [] 1 [] [] count (λ m none. absurd none)
  numbered (Ended ∷ lines) its next done seen count h = numbered lines [] 1 [] [] count (λ m none. absurd none)
  numbered (Told (Call n q) ∷ lines) its next done seen count h =
      subst (AreNumbered next seen) (sym (append_assoc (sync_marks all n q.kind q.through (success_of n lines)) (map (Called n) (moves_of code rules i q (success_of n lines))) (marks_of code rules i all (after code rules i its (Call n q)) lines)))
      (numbered_syncs (λ m. list_any (named lines m) (after code rules i its (Call n q)) ≡ true) n all (map (Called n) (moves_of code rules i q (success_of n lines)) ++ marks_of code rules i all (after code rules i its (Call n q)) lines)
      (numbered_calls (λ m. list_any (named lines m) (after code rules i its (Call n q)) ≡ true) n (marks_of code rules i all (after code rules i its (Call n q)) lines)
      (λ seen' h'. numbered lines (after code rules i its (Call n q)) (n + 1) done seen' (subst (λ k. IsCounted (k + 1) done lines) (sym count.0) count.1) h')
      (moves_of code rules i q (success_of n lines))
      (λ w there. let one : (list_any (named lines n) (own_items code rules i n q) ≡ true) × (is_flush w ≡ false) = named_move code rules i lines n q w there in
      (any_right (named lines n) its (call_items code rules i n q) (any_right (named lines n) (map Sh (call_of n q.kind q.through)) (own_items code rules i n q) one.0), one.1)))
      next (let at = count.0 in omega (arith, at)) q.kind q.through (success_of n lines)
      (λ sync. any_right (named lines n) its (call_items code rules i n q) (any_left (named lines n) (map Sh (call_of n q.kind q.through)) (own_items code rules i n q) (named_sync lines n q.kind q.through sync)))
      seen (λ m there. any_left (named lines m) its (call_items code rules i n q) (sym (named_same (Told (Call n q) ∷ lines) lines m (λ k. refl) its) ∙ h m there)))
  numbered (Told (Answer n status informed bytes) ∷ lines) its next done seen count h =
      numbered_end (keeps code rules i n (success_bytes status bytes) its) next seen n (is_success status) (marks_of code rules i all (after code rules i its (Answer n status informed bytes)) lines)
      (λ there. named_keeps code rules n status informed bytes lines i its (h n there))
      (numbered lines (after code rules i its (Answer n status informed bytes)) next (n ∷ done) seen count.1
      (λ m there. any_left (named lines m) (settles n status (fills code rules n (success_bytes status bytes) its)) (end_items n status (any_sync code rules n (success_bytes status bytes) its) (any_own code rules n (success_bytes status bytes) its))
      (sym (named_answered code rules n status informed bytes lines m its) ∙ h m there)))
  numbered (Told (Device label) ∷ lines) its next done seen count h = numbered lines its next done seen count (λ m there. sym (named_same (Told (Device label) ∷ lines) lines m (λ k. refl) its) ∙ h m there)
  numbered (Told (Cancel n) ∷ lines) its next done seen count h = numbered lines its next done seen count (λ m there. sym (named_same (Told (Cancel n) ∷ lines) lines m (λ k. refl) its) ∙ h m there)
  numbered (Told Pause ∷ lines) its next done seen count h = numbered lines its next done seen count (λ m there. sym (named_same (Told Pause ∷ lines) lines m (λ k. refl) its) ∙ h m there)
  numbered (Told Resume ∷ lines) its next done seen count h = numbered lines its next done seen count (λ m there. sym (named_same (Told Resume ∷ lines) lines m (λ k. refl) its) ∙ h m there)
  numbered (Told Remove ∷ lines) its next done seen count h = numbered lines its next done seen count (λ m there. sym (named_same (Told Remove ∷ lines) lines m (λ k. refl) its) ∙ h m there)
  numbered (Told Surprise ∷ lines) its next done seen count h = numbered lines its next done seen count (λ m there. sym (named_same (Told Surprise ∷ lines) lines m (λ k. refl) its) ∙ h m there)
  numbered (Told Removed ∷ lines) its next done seen count h = numbered lines its next done seen count (λ m there. sym (named_same (Told Removed ∷ lines) lines m (λ k. refl) its) ∙ h m there)
