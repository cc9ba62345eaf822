-- A sync that failed never succeeds.
use Rattle.std.proofs.Common.{◌≡◌, inl, inr, ℕ, ◌==◌, ◌&&◌, ◌||◌, Bool, true, false, not, List, [], ◌∷◌, ◌++◌, Some, None, refl, sym, ◌∙◌, ap, subst, map, eq-eqb}
use Rattle.std.specs.Prelude.{if◌then◌else◌}
use Rattle.std.specs.List.{filter, list_any}
use Rattle.std.proofs.lemmas.Bool.{and_from, eqb-true}
use Rattle.loss.specs.Held.{ChangeOf, IsOneOf, changed}
use Rattle.register_loss.specs.declared.What.{What}
use Rattle.register_loss.specs.declared.What.TheVariants.{Read as Reads, Write as Writes, Flush as Flushes, Sync}
use Rattle.register_loss.specs.declared.Open.{Open}
use Rattle.register_loss.specs.declared.Turn.{Turn}
use Rattle.register_loss.specs.declared.Turn.TheVariants.{Acts, Fails}
use Rattle.register_loss.specs.declared.Sight.{Sight}
use Rattle.register_loss.specs.declared.Sight.TheVariants.{Call, Elsewhere, Done, Failed, Lost, Ended}
use Rattle.register_loss.specs.Schedules.{Register, Turns, above, act_of, called, change_of, done, ended, has_other, is_given, is_other, is_same, is_sync, is_undone, is_unmet, is_write, left_by, marked, unmet}
use Rattle.register_loss_search.proofs.Listing.{any_of, in_filter, one_left, one_map}
use Rattle.history_loss_kept.proofs.Steps.{Shows, Turned}
use Rattle.history_loss_kept.proofs.Waits.{marked_number, marked_what, unequal}
use Rattle.history_loss_kept.proofs.Marks.{will_be_done}
use Rattle.history_loss_kept.proofs.Trimming.{only_one}

abbrev pub HasFailedSync : ℕ → List Open → Type 0
HasFailedSync n waits = (o : Open) × IsOneOf o waits × (o.number ≡ n) × (is_sync o.what ≡ true) × (o.failed ≡ true)

pub sync_not_given : (now : List ℕ) (what : What) → is_sync what ≡ true → not (is_given now what) ≡ true
sync_not_given now (Reads v) e = absurd (cc (e))
sync_not_given now (Writes v through) e = absurd (cc (e))
sync_not_given now Flushes e = refl
sync_not_given now Sync e = refl

pub sync_no_write : (what : What) → is_sync what ≡ true → is_write what ≡ false
sync_no_write (Reads v) e = absurd (cc (e))
sync_no_write (Writes v through) e = absurd (cc (e))
sync_no_write Flushes e = refl
sync_no_write Sync e = refl

act_is_write : (failed : Bool) (what : What) (change : ChangeOf ℕ) → (if failed then None else act_of what) ≡ Some change → is_write what ≡ true
act_is_write true what change e = absurd (cc (e))
act_is_write false (Reads v) change e = absurd (cc (e))
act_is_write false (Writes v through) change e = refl
act_is_write false Flushes change e = absurd (cc (e))
act_is_write false Sync change e = absurd (cc (e))

by_false : (b c : Bool) → c ≡ false → (b && c) ≡ false
by_false true c e = e
by_false false c e = refl

marked_failed : (b : Bool) (o : Open) → o.failed ≡ true → (if b then record o { failed = true } else o).failed ≡ true
marked_failed true o e = refl
marked_failed false o e = e

now_failed : (b : Bool) (o : Open) → b ≡ true → (if b then record o { failed = true } else o).failed ≡ true
now_failed true o e = refl
now_failed false o e = absurd (cc (e))

pub stuck_unmet : (n : ℕ) (now : List ℕ) (waits : List Open) → HasFailedSync n waits → HasFailedSync n (unmet now waits)
stuck_unmet n now waits (o, has, is, sync, failed) = (o, in_filter (is_unmet now) o waits has (sync_not_given now o.what sync), is, sync, failed)

stuck_left : (n : ℕ) (turn : Turn) (of : Open) (change : ChangeOf ℕ) (waits : List Open) → change_of turn of ≡ Some change → HasFailedSync n waits → HasFailedSync n (left_by turn of waits)
stuck_left n Acts of change waits may (o, has, is, sync, failed) =
    let write : is_write of.what ≡ true = act_is_write of.failed of.what change may in
    let other : is_same of o ≡ false =
    ap (λ b. (o.number == of.number) && (if b then is_write o.what else is_sync o.what)) write ∙ by_false (o.number == of.number) (is_write o.what) (sync_no_write o.what sync) in
    (o, in_filter (is_other of) o waits has (ap not other), is, sync, failed)
stuck_left n Fails of change waits may (o, has, is, sync, failed) = (
  marked of o,
  one_map (marked of) o waits has,
  marked_number (is_same of o) o ∙ is,
  ap (λ w. is_sync w) (marked_what (is_same of o) o) ∙ sync,
  marked_failed (is_same of o) o failed,
)

stuck_turn : (n : ℕ) (turn : Turn) (r r' : Register) → Turns turn r r' → HasFailedSync n r.waits → HasFailedSync n r'.waits
stuck_turn n turn r r' t stuck =
    subst (λ (x : Register). HasFailedSync n x.waits) (sym t.after)
    (stuck_unmet n (changed r.next t.change r.held).now (left_by turn t.of r.waits) (stuck_left n turn t.of t.change r.waits t.may stuck))

pub stuck_turned : (n : ℕ) (turns : List Turn) (r r' : Register) → Turned turns r r' → HasFailedSync n r.waits → HasFailedSync n r'.waits
stuck_turned n [] r r' t stuck = subst (λ (x : Register). HasFailedSync n x.waits) (sym t) stuck
stuck_turned n (turn ∷ turns) r r' t stuck = stuck_turned n turns t.0 r' t.2 (stuck_turn n turn r t.0 t.1 stuck)

-- what fails with another one
pub fails_with : (x o : Open) (waits : List Open) → IsOneOf o waits → is_same x o ≡ true → is_sync o.what ≡ true → HasFailedSync o.number (map (marked x) waits)
fails_with x o waits has same sync = (
  marked x o,
  one_map (marked x) o waits has,
  marked_number (is_same x o) o,
  ap (λ w. is_sync w) (marked_what (is_same x o) o) ∙ sync,
  now_failed (is_same x o) o same,
)

pub same_self : (o : Open) → is_sync o.what ≡ true → is_same o o ≡ true
same_self o sync =
    and_from (o.number == o.number) (if is_write o.what then is_write o.what else is_sync o.what) (eq-eqb o.number o.number refl)
    (subst (λ b. (if b then is_write o.what else is_sync o.what) ≡ true) (sym (sync_no_write o.what sync)) sync)

stuck_others : (n k : ℕ) (waits : List Open) → (k == n) ≡ false → HasFailedSync n waits → HasFailedSync n (filter (has_other k) waits)
stuck_others n k waits apart (o, has, is, sync, failed) = (o, in_filter (has_other k) o waits has (ap not (unequal o.number k (λ same. let yes_so : (k == n) ≡ true = eq-eqb k n (sym same ∙ is) in cc (yes_so, apart)))), is, sync, failed)

or_right : (a b : Bool) → b ≡ true → (a || b) ≡ true
or_right true b e = refl
or_right false b e = e

stuck_undone : (n k : ℕ) (waits : List Open) → (k == n) ≡ true → HasFailedSync n waits → list_any (is_undone k) waits ≡ true
stuck_undone n k waits here (o, has, is, sync, failed) =
    any_of (is_undone k) o waits has (and_from (o.number == k) (not (is_sync o.what) || o.failed) (eq-eqb o.number k (is ∙ sym (eqb-true k n here))) (or_right (not (is_sync o.what)) o.failed failed))

none_behind : (b : Bool) (r x : Register) → b ≡ true → IsOneOf x (if b then [] else r ∷ []) → ⊥
none_behind true r x e h = h
none_behind false r x e h = cc (e)

some_behind : (b : Bool) (r x : Register) → IsOneOf x (if b then [] else r ∷ []) → x ≡ r
some_behind true r x h = absurd h
some_behind false r x (inl e) = e
some_behind false r x (inr none) = absurd none

pub stuck_more : (n : ℕ) (waits : List Open) (o : Open) → HasFailedSync n waits → HasFailedSync n (waits ++ o ∷ [])
stuck_more n waits x (o, has, is, sync, failed) = (o, one_left o waits (x ∷ []) has, is, sync, failed)

-- so there is no register behind its end
pub stuck_shows : (n : ℕ) (sights : List Sight) (r : Register) → will_be_done n sights ≡ true → HasFailedSync n r.waits → Shows sights r → ⊥
stuck_shows n [] r will stuck h = cc (will)
stuck_shows n (Call m what ∷ sights) r will stuck h =
    let now : HasFailedSync n (called m what h.1).waits = stuck_unmet n h.1.held.now (h.1.waits ++ record { number = m; what = what; failed = false } ∷ []) (stuck_more n h.1.waits (record { number = m; what = what; failed = false }) (stuck_turned n h.0 r h.1 h.3 stuck)) in
    stuck_shows n sights h.2 will (subst (λ (x : Register). HasFailedSync n x.waits) (sym (only_one (called m what h.1) h.2 h.4)) now) h.5
stuck_shows n (Elsewhere m ∷ sights) r will stuck h =
    stuck_shows n sights h.2 will (subst (λ (x : Register). HasFailedSync n x.waits) (sym (only_one (record { next = above m h.1.next; held = h.1.held; waits = h.1.waits }) h.2 h.4)) (stuck_turned n h.0 r h.1 h.3 stuck)) h.5
stuck_shows n (Done m ∷ sights) r will stuck h =
    by (m == n) refl (λ later stuck'. stuck_shows n sights h.2 later stuck' h.5)
  where
    by : (b : Bool) → (m == n) ≡ b → (will_be_done n sights ≡ true → HasFailedSync n h.2.waits → ⊥) → ⊥
    by true here again = none_behind (list_any (is_undone m) h.1.waits) (done m h.1) h.2 (stuck_undone n m h.1.waits here (stuck_turned n h.0 r h.1 h.3 stuck)) h.4
    by false apart again =
        again (sym (ap (λ (b : Bool). if b then true else will_be_done n sights) apart) ∙ will)
        (subst (λ (x : Register). HasFailedSync n x.waits) (sym (some_behind (list_any (is_undone m) h.1.waits) (done m h.1) h.2 h.4)) (stuck_others n m h.1.waits apart (stuck_turned n h.0 r h.1 h.3 stuck)))
stuck_shows n (Failed m ∷ sights) r will stuck h =
    by (m == n) refl (λ later stuck'. stuck_shows n sights h.2 later stuck' h.5)
  where
    by : (b : Bool) → (m == n) ≡ b → (will_be_done n sights ≡ true → HasFailedSync n h.2.waits → ⊥) → ⊥
    by true here again = let none : false ≡ true = sym (ap (λ (b : Bool). if b then false else will_be_done n sights) here) ∙ will in cc (none)
    by false apart again =
        again (sym (ap (λ (b : Bool). if b then false else will_be_done n sights) apart) ∙ will)
        (subst (λ (x : Register). HasFailedSync n x.waits) (sym (only_one (ended m h.1) h.2 h.4)) (stuck_others n m h.1.waits apart (stuck_turned n h.0 r h.1 h.3 stuck)))
stuck_shows n (Lost ∷ sights) r will stuck h = cc (will)
stuck_shows n (Ended ∷ sights) r will stuck h = cc (will)
