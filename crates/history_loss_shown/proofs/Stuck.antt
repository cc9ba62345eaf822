-- A sync that failed never succeeds.
use Rattle.std.proofs.Common.{◌≡◌, ◌⊎◌, inl, inr, ℕ, ◌==◌, ◌&&◌, ◌||◌, Bool, true, false, not, List, [], ◌∷◌, ◌++◌, Some, None, refl, sym, ◌∙◌, ap, subst, map, eq-eqb}
use Rattle.std.specs.Prelude.{if◌then◌else◌}
use Rattle.std.specs.List.{filter, list_any}
use Rattle.std.proofs.lemmas.Bool.{and_from, eqb-true}
use Rattle.ntstatus.specs.declared.NtStatus.{NtStatus}
use Rattle.ntstatus.specs.declared.NtStatus.TheVariants.{Success}
use Rattle.machine.specs.declared.Label.TheVariants.{Call, Device, Answer, Cancel, Pause, Resume, Remove, Surprise, Removed}
use Rattle.machine.specs.Rules.{Rules}
use Rattle.loss.specs.Held.{ChangeOf, IsOneOf, changed}
use Rattle.loss.specs.Sessions.{Line, Told, Lost, Ended}
use Rattle.register_loss.specs.declared.What.{What}
use Rattle.register_loss.specs.declared.What.TheVariants.{Read as Reads, Write as Writes, Flush as Flushes, Sync}
use Rattle.register_loss.specs.declared.Open.{Open}
use Rattle.register_loss.specs.declared.Turn.{Turn}
use Rattle.register_loss.specs.declared.Turn.TheVariants.{Acts, Fails}
use Rattle.register_loss.specs.declared.Sight.{Sight}
use Rattle.register_loss.specs.declared.Sight.TheVariants.{Call as CallSight, Elsewhere, Failed}
use Rattle.register_loss.specs.Schedules.{Register, Leads, Turns, act_of, behind, called, change_of, done, ended, has_other, is_given, is_other, is_same, is_sync, is_undone, is_unmet, is_write, left_by, marked, seen_of, unmet}
use Rattle.register_loss.specs.Schedules as register
use Rattle.register_loss_search.proofs.Listing.{any_of, in_filter, one_left, one_map}
use Rattle.history_loss_sights.specs.Sights.{end_of, success_bytes, success_of}
use Rattle.history_loss_sights.proofs.Standing.{not_of}
use Rattle.history_loss_shown.specs.Steady.{steady_sights_of, steady_whats}

-- calls, answers, losses and ends
abbrev pub IsShown : Line → Type 0
IsShown (Told (Call n q)) = Unit {0}
IsShown (Told (Answer n status informed bytes)) = Unit {0}
IsShown (Told _) = ⊥
IsShown Lost = Unit {0}
IsShown Ended = Unit {0}

abbrev pub AreShown : List Line → Type 0
AreShown [] = Unit {0}
AreShown (line ∷ lines) = IsShown line × AreShown lines

abbrev pub HasFailedSync : ℕ → List Open → Type 0
HasFailedSync n waits = (o : Open) × IsOneOf o waits × (o.number ≡ n) × (is_sync o.what ≡ true) × (o.failed ≡ true)

pub only_one : (r x : Register) → IsOneOf x (r ∷ []) → x ≡ r
only_one r x (inl e) = e
only_one r x (inr none) = absurd none

pub success_or : (status : NtStatus) → (status ≡ Success) ⊎ (status ≡ Success → ⊥)
success_or Success = inl refl
success_or _ = inr (λ e. cc (e))

pub end_failed : (n : ℕ) (status : NtStatus) → (status ≡ Success → ⊥) → end_of n status ≡ Failed n
end_failed n Success other = absurd (other refl)
end_failed n _ other = refl

no_bytes : (status : NtStatus) (bytes found : List ℕ) → (status ≡ Success → ⊥) → success_bytes status bytes ≡ Some found → ⊥
no_bytes Success bytes found other e = other refl
no_bytes _ bytes found other e = cc (e)

pub sync_not_given : (now : List ℕ) (what : What) → is_sync what ≡ true → is_given now what ≡ false
sync_not_given now (Reads v) e = absurd (cc (e))
sync_not_given now (Writes v through) e = absurd (cc (e))
sync_not_given now Flushes e = refl
sync_not_given now Sync e = refl

sync_no_write : (what : What) → is_sync what ≡ true → is_write what ≡ false
sync_no_write (Reads v) e = absurd (cc (e))
sync_no_write (Writes v through) e = absurd (cc (e))
sync_no_write Flushes e = refl
sync_no_write Sync e = refl

act_is_write : (failed : Bool) (what : What) (change : ChangeOf ℕ) → (if failed then None else act_of what) ≡ Some change → is_write what ≡ true
act_is_write true what change e = absurd (cc (e))
act_is_write false (Reads v) change e = absurd (cc (e))
act_is_write false (Writes v through) change e = refl
act_is_write false Flushes change e = absurd (cc (e))
act_is_write false Sync change e = absurd (cc (e))

by_false : (b c : Bool) → c ≡ false → (b && c) ≡ false
by_false true c e = e
by_false false c e = refl

marked_failed : (b : Bool) (o : Open) → o.failed ≡ true → (if b then record o { failed = true } else o).failed ≡ true
marked_failed true o e = refl
marked_failed false o e = e

pub marked_number : (b : Bool) (o : Open) → (if b then record o { failed = true } else o).number ≡ o.number
marked_number true o = refl
marked_number false o = refl

pub marked_what : (b : Bool) (o : Open) → (if b then record o { failed = true } else o).what ≡ o.what
marked_what true o = refl
marked_what false o = refl

stuck_unmet : (n : ℕ) (now : List ℕ) (waits : List Open) → HasFailedSync n waits → HasFailedSync n (unmet now waits)
stuck_unmet n now waits (o, has, is, sync, failed) = (o, in_filter (is_unmet now) o waits has (not_of (is_given now o.what) (sync_not_given now o.what sync)), is, sync, failed)

stuck_left : (n : ℕ) (turn : Turn) (of : Open) (change : ChangeOf ℕ) (waits : List Open) → change_of turn of ≡ Some change → HasFailedSync n waits → HasFailedSync n (left_by turn of waits)
stuck_left n Acts of change waits may (o, has, is, sync, failed) =
    let write : is_write of.what ≡ true = act_is_write of.failed of.what change may in
    let other : is_same of o ≡ false =
    ap (λ b. (o.number == of.number) && (if b then is_write o.what else is_sync o.what)) write ∙ by_false (o.number == of.number) (is_write o.what) (sync_no_write o.what sync) in
    (o, in_filter (is_other of) o waits has (not_of (is_same of o) other), is, sync, failed)
stuck_left n Fails of change waits may (o, has, is, sync, failed) = (
  marked of o,
  one_map (marked of) o waits has,
  marked_number (is_same of o) o ∙ is,
  ap (λ w. is_sync w) (marked_what (is_same of o) o) ∙ sync,
  marked_failed (is_same of o) o failed,
)

stuck_turn : (n : ℕ) (turn : Turn) (r r' : Register) → Turns turn r r' → HasFailedSync n r.waits → HasFailedSync n r'.waits
stuck_turn n turn r r' t stuck =
    subst (λ (x : Register). HasFailedSync n x.waits) (sym t.after)
    (stuck_unmet n (changed r.next t.change r.held).now (left_by turn t.of r.waits) (stuck_left n turn t.of t.change r.waits t.may stuck))

-- what failed now
pub now_stuck : (r r' : Register) (t : Turns Fails r r') → is_sync t.of.what ≡ true → HasFailedSync t.of.number r'.waits
now_stuck r r' t sync =
    subst (λ (x : Register). HasFailedSync t.of.number x.waits) (sym t.after)
    (stuck_unmet t.of.number (changed r.next t.change r.held).now (left_by Fails t.of r.waits) (
      marked t.of t.of,
      one_map (marked t.of) t.of r.waits t.waits,
      marked_number (is_same t.of t.of) t.of,
      ap (λ w. is_sync w) (marked_what (is_same t.of t.of) t.of) ∙ sync,
      itself (is_same t.of t.of) same,
    ))
  where
    itself : (b : Bool) → b ≡ true → (if b then record t.of { failed = true } else t.of).failed ≡ true
    itself true e = refl
    itself false e = absurd (cc (e))

    same : is_same t.of t.of ≡ true
    same =
        and_from (t.of.number == t.of.number) (if is_write t.of.what then is_write t.of.what else is_sync t.of.what) (eq-eqb t.of.number t.of.number refl)
        (subst (λ b. (if b then is_write t.of.what else is_sync t.of.what) ≡ true) (sym (sync_no_write t.of.what sync)) sync)

stuck_others : (n k : ℕ) (waits : List Open) → (k ≡ n → ⊥) → HasFailedSync n waits → HasFailedSync n (filter (has_other k) waits)
stuck_others n k waits apart (o, has, is, sync, failed) = (o, in_filter (has_other k) o waits has (not_of (o.number == k) (differs (o.number == k) refl)), is, sync, failed)
  where
    differs : (b : Bool) → (o.number == k) ≡ b → (o.number == k) ≡ false
    differs true e = absurd (apart (sym (eqb-true o.number k e) ∙ is))
    differs false e = e

pub undone_there : (n : ℕ) (waits : List Open) (o : Open) → IsOneOf o waits → o.number ≡ n → (not (is_sync o.what) || o.failed) ≡ true → list_any (is_undone n) waits ≡ true
undone_there n waits o has is undone = any_of (is_undone n) o waits has (and_from (o.number == n) (not (is_sync o.what) || o.failed) (eq-eqb o.number n is) undone)

or_right : (a b : Bool) → b ≡ true → (a || b) ≡ true
or_right true b e = refl
or_right false b e = e

pub none_behind : (b : Bool) (r x : Register) → b ≡ true → IsOneOf x (if b then [] else r ∷ []) → ⊥
none_behind true r x e h = h
none_behind false r x e h = cc (e)

pub some_behind : (b : Bool) (r x : Register) → IsOneOf x (if b then [] else r ∷ []) → (b ≡ false) × (x ≡ r)
some_behind true r x h = absurd h
some_behind false r x (inl e) = (refl, e)
some_behind false r x (inr none) = absurd none

module _ (code : List ℕ → ℕ) (rules : Rules) (i n : ℕ) (found : List ℕ) where
  abbrev Comes : ℕ → List What → List Line → List Sight
  Comes m ws lines = map (CallSight m) ws ++ steady_sights_of code rules i lines

  pub never : (events : List register.Event) (r r' : Register) (m : ℕ) (ws : List What) (lines : List Line) → Leads r events r' → seen_of events ≡ Comes m ws lines → AreShown lines → success_of n lines ≡ Some found → HasFailedSync n r.waits → ⊥
  never [] r r' m (w ∷ ws) lines h e shown success stuck = absurd (cc (e))
  never [] r r' m [] [] h e shown success stuck = absurd (cc (success))
  never [] r r' m [] (Lost ∷ lines) h e shown success stuck = absurd (cc (e))
  never [] r r' m [] (Ended ∷ lines) h e shown success stuck = absurd (cc (e))
  never [] r r' m [] (Told (Call k q) ∷ lines) h e shown success stuck = absurd (cc (e))
  never [] r r' m [] (Told (Answer k status informed bytes) ∷ lines) h e shown success stuck = absurd (cc (e))
  never [] r r' m [] (Told (Device label) ∷ lines) h e shown success stuck = shown.0
  never [] r r' m [] (Told (Cancel k) ∷ lines) h e shown success stuck = shown.0
  never [] r r' m [] (Told Pause ∷ lines) h e shown success stuck = shown.0
  never [] r r' m [] (Told Resume ∷ lines) h e shown success stuck = shown.0
  never [] r r' m [] (Told Remove ∷ lines) h e shown success stuck = shown.0
  never [] r r' m [] (Told Surprise ∷ lines) h e shown success stuck = shown.0
  never [] r r' m [] (Told Removed ∷ lines) h e shown success stuck = shown.0
  never (register.Unseen turn ∷ events) r r' m ws lines (mid, t, h) e shown success stuck = never events mid r' m ws lines h e shown success (stuck_turn n turn r mid t stuck)
  never (register.Seen sight ∷ events) r r' m (w ∷ ws) lines (mid, takes, h) e shown success stuck =
      let same : sight ≡ CallSight m w = cc (e) in
      let rest : seen_of events ≡ Comes m ws lines = cc (e) in
      let is : mid ≡ called m w r = only_one (called m w r) mid (subst (λ s. IsOneOf mid (behind s r)) same takes) in
      never events mid r' m ws lines h rest shown success
      (subst (λ (x : Register). HasFailedSync n x.waits) (sym is) (stuck_unmet n r.held.now (r.waits ++ record { number = m; what = w; failed = false } ∷ []) (more stuck)))
    where
      more : HasFailedSync n r.waits → HasFailedSync n (r.waits ++ record { number = m; what = w; failed = false } ∷ [])
      more (o, has, is, sync, failed) = (o, one_left o r.waits (record { number = m; what = w; failed = false } ∷ []) has, is, sync, failed)
  never (register.Seen sight ∷ events) r r' m [] [] h e shown success stuck = absurd (cc (e))
  never (register.Seen sight ∷ events) r r' m [] (Lost ∷ lines) h e shown success stuck = absurd (cc (success))
  never (register.Seen sight ∷ events) r r' m [] (Ended ∷ lines) h e shown success stuck = absurd (cc (success))
  never (register.Seen sight ∷ events) r r' m [] (Told (Call k q) ∷ lines) (mid, takes, h) e shown success stuck =
      let same : sight ≡ Elsewhere k = cc (e) in
      let rest : seen_of events ≡ Comes k (steady_whats code rules i q (success_of k lines)) lines = cc (e) in
      let is : mid ≡ record { next = register.above k r.next; held = r.held; waits = r.waits } = only_one (record { next = register.above k r.next; held = r.held; waits = r.waits }) mid (subst (λ s. IsOneOf mid (behind s r)) same takes) in
      never events mid r' k (steady_whats code rules i q (success_of k lines)) lines h rest shown.1 success (subst (λ (x : Register). HasFailedSync n x.waits) (sym is) stuck)
  never (register.Seen sight ∷ events) r r' m [] (Told (Answer k status informed bytes) ∷ lines) (mid, takes, h) e shown success stuck =
      by (λ later stuck'. never events mid r' m [] lines h rest shown.1 later stuck') (k == n) refl (success_or status)
    where
      is_end : sight ≡ end_of k status
      is_end = cc (e)

      rest : seen_of events ≡ steady_sights_of code rules i lines
      rest = cc (e)

      done_undone : HasFailedSync n r.waits → k ≡ n → status ≡ Success → ⊥
      done_undone (o, has, number, sync, failed) here good =
          none_behind (list_any (is_undone k) r.waits) (done k r) mid (undone_there k r.waits o has (number ∙ sym here) (or_right (not (is_sync o.what)) o.failed failed))
          (subst (λ s. IsOneOf mid (behind s r)) (is_end ∙ ap (end_of k) good) takes)

      on : (success_of n lines ≡ Some found → HasFailedSync n mid.waits → ⊥) → mid.waits ≡ filter (has_other k) r.waits → (k == n) ≡ false → ⊥
      on again is apart =
          again (sym (ap (λ (b : Bool). if b then success_bytes status bytes else success_of n lines) apart) ∙ success)
          (subst (λ (waits : List Open). HasFailedSync n waits) (sym is) (stuck_others n k r.waits (λ same. let yes : (k == n) ≡ true = eq-eqb k n same in cc (yes, apart)) stuck))

      by : (success_of n lines ≡ Some found → HasFailedSync n mid.waits → ⊥) → (b : Bool) → (k == n) ≡ b → (status ≡ Success) ⊎ (status ≡ Success → ⊥) → ⊥
      by again true here (inl good) = done_undone stuck (eqb-true k n here) good
      by again true here (inr bad) = no_bytes status bytes found bad (sym (ap (λ (b : Bool). if b then success_bytes status bytes else success_of n lines) here) ∙ success)
      by again false apart (inl good) =
          on again (ap (λ (x : Register). x.waits) (some_behind (list_any (is_undone k) r.waits) (done k r) mid (subst (λ s. IsOneOf mid (behind s r)) (is_end ∙ ap (end_of k) good) takes)).1) apart
      by again false apart (inr bad) = on again (ap (λ (x : Register). x.waits) (only_one (ended k r) mid (subst (λ s. IsOneOf mid (behind s r)) (is_end ∙ end_failed k status bad) takes))) apart
  never (register.Seen sight ∷ events) r r' m [] (Told (Device label) ∷ lines) h e shown success stuck = shown.0
  never (register.Seen sight ∷ events) r r' m [] (Told (Cancel k) ∷ lines) h e shown success stuck = shown.0
  never (register.Seen sight ∷ events) r r' m [] (Told Pause ∷ lines) h e shown success stuck = shown.0
  never (register.Seen sight ∷ events) r r' m [] (Told Resume ∷ lines) h e shown success stuck = shown.0
  never (register.Seen sight ∷ events) r r' m [] (Told Remove ∷ lines) h e shown success stuck = shown.0
  never (register.Seen sight ∷ events) r r' m [] (Told Surprise ∷ lines) h e shown success stuck = shown.0
  never (register.Seen sight ∷ events) r r' m [] (Told Removed ∷ lines) h e shown success stuck = shown.0
