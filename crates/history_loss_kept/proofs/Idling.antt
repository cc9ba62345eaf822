-- A session in which a sector sees nothing alone changes nothing.
use Rattle.std.proofs.Common.{◌≡◌, inl, inr, ℕ, ◌==◌, ◌&&◌, ◌||◌, Bool, true, false, not, List, [], ◌∷◌, ◌++◌, Some, None, refl, sym, ◌∙◌, ap, subst, map}
use Rattle.std.specs.Prelude.{if◌then◌else◌}
use Rattle.std.specs.List.{list_any}
use Rattle.loss.specs.Held.{ChangeOf, Doubts, HeldOf, IsOneOf, Syncs, changed, left, surely}
use Rattle.register_loss.specs.declared.What.{What}
use Rattle.register_loss.specs.declared.What.TheVariants.{Read, Write, Flush, Sync}
use Rattle.register_loss.specs.declared.Open.{Open}
use Rattle.register_loss.specs.declared.Turn.{Turn}
use Rattle.register_loss.specs.declared.Turn.TheVariants.{Acts, Fails}
use Rattle.register_loss.specs.declared.Sight.{Sight}
use Rattle.register_loss.specs.declared.Sight.TheVariants.{Call, Elsewhere, Done, Failed, Lost, Ended}
use Rattle.register_loss.specs.Schedules.{Register, Turns, act_of, behind, called, change_of, done, ended, fault_of, has_other, is_flush_of, is_sync, is_undone, is_unmet, opening}
use Rattle.register_loss_search.proofs.Listing.{of_filter, of_map, one_either}
use Rattle.history_loss_kept.proofs.Steps.{Shows, Turned, shows_now}
use Rattle.history_loss_kept.proofs.Waits.{Was, none_of, turn_was}
use Rattle.history_loss_kept.proofs.Marks.{last_sight}
use Rattle.history_loss_kept.proofs.Trimming.{only_one}

-- calls of syncs, and ends
abbrev pub IsShared : Sight → Type 0
IsShared (Call n what) = is_sync what ≡ true
IsShared (Done n) = Unit {0}
IsShared (Failed n) = Unit {0}
IsShared (Elsewhere n) = ⊥
IsShared Lost = ⊥
IsShared Ended = ⊥

abbrev pub AreShared : List Sight → Type 0
AreShared [] = Unit {0}
AreShared (sight ∷ sights) = IsShared sight × AreShared sights

pub shared_append : (xs ys : List Sight) → AreShared xs → AreShared ys → AreShared (xs ++ ys)
shared_append [] ys a b = b
shared_append (x ∷ xs) ys a b = (a.0, shared_append xs ys a.1 b)

-- THEN NOTHING CHANGES

record Still (v : ℕ) (r : Register) : Type 0 where
  held : r.held ≡ surely v
  syncs : (o : Open) → IsOneOf o r.waits → is_sync o.what ≡ true

sync_change : (turn : Turn) (o : Open) (change : ChangeOf ℕ) → is_sync o.what ≡ true → change_of turn o ≡ Some change → change ≡ Doubts
sync_change Acts o change sync may = by o.failed o.what sync may
  where
    by : (failed : Bool) (what : What) → is_sync what ≡ true → (if failed then None else act_of what) ≡ Some change → change ≡ Doubts
    by true what s e = absurd (cc (e))
    by false (Read v) s e = absurd (cc (s))
    by false (Write v through) s e = absurd (cc (s))
    by false Flush s e = absurd (cc (e))
    by false Sync s e = absurd (cc (e))
sync_change Fails o change sync may = by o.failed o.what sync may
  where
    by : (failed : Bool) (what : What) → is_sync what ≡ true → fault_of failed what ≡ Some change → change ≡ Doubts
    by failed (Read v) s e = absurd (cc (s))
    by failed (Write v through) s e = absurd (cc (s))
    by failed Flush s e = cc (e)
    by failed Sync s e = cc (e)

doubted : (n v : ℕ) (h : HeldOf ℕ) → h ≡ surely v → changed n Doubts h ≡ surely v
doubted n v h e = ap (changed n Doubts) e

still_turn : (v : ℕ) (turn : Turn) (r r' : Register) → Still v r → Turns turn r r' → Still v r'
still_turn v turn r r' s t =
    subst (Still v) (sym t.after) (record {
      held = ap (λ change. changed r.next change r.held) (sync_change turn t.of t.change (s.syncs t.of t.waits) t.may) ∙ doubted r.next v r.held s.held;
      syncs = λ o h. let w : Was o r.waits = turn_was (changed r.next t.change r.held).now turn t.of o r.waits h in ap (λ x. is_sync x) w.what ∙ s.syncs w.one w.has;
    })

still_turned : (v : ℕ) (turns : List Turn) (r r' : Register) → Still v r → Turned turns r r' → Still v r'
still_turned v [] r r' s t = subst (Still v) (sym t) s
still_turned v (turn ∷ turns) r r' s t = still_turned v turns t.0 r' (still_turn v turn r t.0 s t.1) t.2

synced : (n k v : ℕ) (b : Bool) (h : HeldOf ℕ) → h ≡ surely v → (if b then changed n (Syncs k) h else h) ≡ surely v
synced n k v true h e = ap (changed n (Syncs k)) e
synced n k v false h e = e

some_behind : (b : Bool) (r x : Register) → IsOneOf x (if b then [] else r ∷ []) → x ≡ r
some_behind true r x h = absurd h
some_behind false r x (inl e) = e
some_behind false r x (inr none) = absurd none

still_sight : (v : ℕ) (x : Sight) (r next : Register) → IsShared x → Still v r → IsOneOf next (behind x r) → Still v next
still_sight v (Call n what) r next shared s h =
    subst (Still v) (sym (only_one (called n what r) next h)) (record {
      held = s.held;
      syncs = λ o has. elim (one_either o r.waits (record { number = n; what = what; failed = false } ∷ []) (of_filter (is_unmet r.held.now) o (r.waits ++ record { number = n; what = what; failed = false } ∷ []) has).0) [
        | inl before ↦ s.syncs o before
        | inr (inl is) ↦ ap (λ (y : Open). is_sync y.what) is ∙ shared
        | inr (inr none) ↦ absurd none
      ];
    })
still_sight v (Done n) r next shared s h =
    subst (Still v) (sym (some_behind (list_any (is_undone n) r.waits) (done n r) next h)) (record {
      held = synced r.next n v (list_any (is_flush_of n) r.waits) r.held s.held;
      syncs = λ o has. s.syncs o (of_filter (has_other n) o r.waits has).0;
    })
still_sight v (Failed n) r next shared s h =
    subst (Still v) (sym (only_one (ended n r) next h)) (record { held = s.held; syncs = λ o has. s.syncs o (of_filter (has_other n) o r.waits has).0 })
still_sight v (Elsewhere n) r next shared s h = absurd shared
still_sight v Lost r next shared s h = absurd shared
still_sight v Ended r next shared s h = absurd shared

last_is : (lost : Bool) (v : ℕ) (r next : Register) → r.held ≡ surely v → IsOneOf next (behind (last_sight lost) r) → next ≡ opening v
last_is true v r next held h = only_one (opening v) next (subst (λ (x : HeldOf ℕ). IsOneOf next (map opening (left x))) held h)
last_is false v r next held h = only_one (opening v) next (subst (λ (x : HeldOf ℕ). IsOneOf next (map opening x.now)) held h)

still_over : (v : ℕ) (lost : Bool) (xs rest : List Sight) (r : Register) → AreShared xs → Still v r → Shows (xs ++ last_sight lost ∷ rest) r → Shows rest (opening v)
still_over v lost [] rest r shared s h = subst (Shows rest) (last_is lost v h.1 h.2 (still_turned v h.0 r h.1 s h.3).held h.4) h.5
still_over v lost (x ∷ xs) rest r shared s h = still_over v lost xs rest h.2 shared.1 (still_sight v x h.1 h.2 shared.0 (still_turned v h.0 r h.1 s h.3) h.4) h.5

pub idle_over : (v : ℕ) (lost : Bool) (xs rest : List Sight) → AreShared xs → Shows (xs ++ last_sight lost ∷ rest) (opening v) → Shows rest (opening v)
idle_over v lost xs rest shared h = still_over v lost xs rest (opening v) shared (record { held = refl; syncs = λ o has. absurd has }) h

-- AND IT IS POSSIBLE

record Calm (v : ℕ) (r : Register) : Type 0 where
  held : r.held ≡ surely v
  syncs : (o : Open) → IsOneOf o r.waits → (is_sync o.what ≡ true) × (o.failed ≡ false)

calm_undone : (n v : ℕ) (r : Register) → Calm v r → list_any (is_undone n) r.waits ≡ false
calm_undone n v r c = none_of (is_undone n) r.waits (λ o h. let p : (is_sync o.what ≡ true) × (o.failed ≡ false) = c.syncs o h in
    ap (λ b. (o.number == n) && (not b || o.failed)) p.0 ∙ ap (λ b. (o.number == n) && b) p.1 ∙ none (o.number == n))
  where
    none : (b : Bool) → (b && false) ≡ false
    none true = refl
    none false = refl

calm_on : (v : ℕ) (x : Sight) (r : Register) → IsShared x → Calm v r → (next : Register) × IsOneOf next (behind x r) × Calm v next
calm_on v (Call n what) r shared c = (
  called n what r,
  inl refl,
  record {
    held = c.held;
    syncs = λ o has. elim (one_either o r.waits (record { number = n; what = what; failed = false } ∷ []) (of_filter (is_unmet r.held.now) o (r.waits ++ record { number = n; what = what; failed = false } ∷ []) has).0) [
      | inl before ↦ c.syncs o before
      | inr (inl is) ↦ (ap (λ (y : Open). is_sync y.what) is ∙ shared, ap (λ (y : Open). y.failed) is)
      | inr (inr none) ↦ absurd none
    ];
  },
)
calm_on v (Done n) r shared c = (
  done n r,
  subst (λ (b : Bool). IsOneOf (done n r) (if b then [] else done n r ∷ [])) (sym (calm_undone n v r c)) (inl refl),
  record { held = synced r.next n v (list_any (is_flush_of n) r.waits) r.held c.held; syncs = λ o has. c.syncs o (of_filter (has_other n) o r.waits has).0 },
)
calm_on v (Failed n) r shared c = (ended n r, inl refl, record { held = c.held; syncs = λ o has. c.syncs o (of_filter (has_other n) o r.waits has).0 })
calm_on v (Elsewhere n) r shared c = absurd shared
calm_on v Lost r shared c = absurd shared
calm_on v Ended r shared c = absurd shared

calm_over : (v : ℕ) (xs rest : List Sight) (r : Register) → AreShared xs → Calm v r → ((next : Register) → Calm v next → Shows rest next) → Shows (xs ++ rest) r
calm_over v [] rest r shared c h = h r c
calm_over v (x ∷ xs) rest r shared c h =
    let one : (next : Register) × IsOneOf next (behind x r) × Calm v next = calm_on v x r shared.0 c in
    shows_now x (xs ++ rest) r one.0 one.1 (calm_over v xs rest one.0 shared.1 one.2 h)

calm_opening : (v : ℕ) → Calm v (opening v)
calm_opening v = record { held = refl; syncs = λ o has. absurd has }

last_one : (lost : Bool) (v : ℕ) (r : Register) → r.held ≡ surely v → IsOneOf (opening v) (behind (last_sight lost) r)
last_one true v r held = subst (λ (x : HeldOf ℕ). IsOneOf (opening v) (map opening (left x))) (sym held) (inl refl)
last_one false v r held = subst (λ (x : HeldOf ℕ). IsOneOf (opening v) (map opening x.now)) (sym held) (inl refl)

pub idle_before : (v : ℕ) (lost : Bool) (xs rest : List Sight) → AreShared xs → Shows rest (opening v) → Shows (xs ++ last_sight lost ∷ rest) (opening v)
idle_before v lost xs rest shared h =
    calm_over v xs (last_sight lost ∷ rest) (opening v) shared (calm_opening v) (λ next c. shows_now (last_sight lost) rest next (opening v) (last_one lost v next c.held) h)

pub idle_alone : (v : ℕ) (xs : List Sight) → AreShared xs → Shows (xs ++ []) (opening v)
idle_alone v xs shared = calm_over v xs [] (opening v) shared (calm_opening v) (λ next c. tt)

-- ANOTHER SESSION

opened : (next : Register) (vs : List ℕ) → IsOneOf next (map opening vs) → (v : ℕ) × (next ≡ opening v)
opened next vs h = let found : (v : ℕ) × IsOneOf v vs × (next ≡ opening v) = of_map opening next vs h in (found.0, found.2)

last_opened : (lost : Bool) (r next : Register) → IsOneOf next (behind (last_sight lost) r) → (v : ℕ) × (next ≡ opening v)
last_opened true r next h = opened next (left r.held) h
last_opened false r next h = opened next r.held.now h

-- what comes behind a session may be another that is as possible
pub session_then : (lost : Bool) (xs rest rest' : List Sight) → ((v : ℕ) → Shows rest (opening v) → Shows rest' (opening v)) → (r : Register) → Shows (xs ++ last_sight lost ∷ rest) r → Shows (xs ++ last_sight lost ∷ rest') r
session_then lost [] rest rest' f r h =
    let v : (x : ℕ) × (h.2 ≡ opening x) = last_opened lost h.1 h.2 h.4 in
    (h.0, h.1, h.2, h.3, h.4, subst (Shows rest') (sym v.1) (f v.0 (subst (Shows rest) v.1 h.5)))
session_then lost (x ∷ xs) rest rest' f r h = (h.0, h.1, h.2, h.3, h.4, session_then lost xs rest rest' f h.2 h.5)
