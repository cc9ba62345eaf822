-- The test decides whether a state is settled.
use Rattle.std.proofs.Common.{ℕ, Bool, true, false, Option, Some, None, refl}
use Rattle.std.specs.Prelude.{◌||◌, nat_le, IsFalse}
use Rattle.std.specs.Bool.{Decides}
use Rattle.std.specs.List.{list_all}
use Rattle.std.proofs.lemmas.Bool.{both_ways}
use Rattle.std.proofs.lemmas.Bool.Decides.{Decides-and, Decides-or, Decides-like, Decides-by_and}
use Rattle.machine.specs.Rules.{Rules}
use Rattle.machine.specs.State.{Mark, Untouched, Out, Done, Failed, Back, OpenRequest, State}
use Rattle.machine.specs.Calling.{is_full}
use Rattle.machine.specs.Sending.{is_started}
use Rattle.machine.specs.Settled.{has_out, has_unsent, HasGone, started_count, IsFull, IsHeld, WaitsIfCancelled, IsAllSent, IsHeldBack, HasMore, IsAtWork}
use Rattle.judge.specs.Settling.{holds_if, has_gone, is_held, waits_if_cancelled, is_all_sent, is_held_back, has_more, is_at_work}
use Rattle.judge.proofs.Deciding.{decides_true, decides_false, decides_leb}

when : (a b : Bool) (A P : Type 0) → Decides a A → Decides b P → Decides (holds_if a b) (A → P)
when true b A P h k = (λ e t. k.0 e, λ f. k.1 (f (h.0 refl)))
when false b A P h k = (λ e t. absurd (both_ways false refl (h.1 t)), λ f. refl)

full : (window : Option ℕ) (count : ℕ) → Decides (is_full window count) (IsFull window count)
full None count = (λ h. cc (h), λ h. absurd h)
full (Some window) count = decides_leb window count

pub held : (o : OpenRequest) → Decides (is_held o) (IsHeld o)
held o = Decides-like (is_held o) (λ h. record { not_started = h.0; late = h.1 }) (λ h. (h.not_started, h.late)) (Decides-and _ _ (decides_false (is_started o)) (decides_true o.late))

pub waits : (o : OpenRequest) → Decides (waits_if_cancelled o) (WaitsIfCancelled o)
waits o = when o.cancelled (has_out o) _ _ (decides_true o.cancelled) (decides_true (has_out o))

pub more : (o : OpenRequest) → Decides (has_more o) (HasMore o)
more o = when (is_started o) (has_out o || has_unsent o) _ _ (decides_true (is_started o)) (Decides-or _ _ (decides_true (has_out o)) (decides_true (has_unsent o)))

pub works : (o : OpenRequest) → Decides (is_at_work o) (IsAtWork o)
works o = when (is_started o) (has_out o) _ _ (decides_true (is_started o)) (decides_true (has_out o))

-- the second is asked where the first is false
or_else : (a b : Bool) (P : Type 0) → Decides b P → Decides (a || b) (IsFalse a → P)
or_else true b P h = (λ e f. cc (f), λ f. refl)
or_else false b P h = (λ e f. h.0 e, λ f. h.1 (f refl))

module _ (rules : Rules) (s : State) where
  gone : (o : OpenRequest) (mark : Mark) → Decides (has_gone (nat_le rules.busy_limit o.busy_returns) mark) (HasGone rules o mark)
  gone o Untouched = (λ h. cc (h), λ h. absurd h)
  gone o Back = decides_leb rules.busy_limit o.busy_returns
  gone o Out = (λ h. tt, λ h. refl)
  gone o (Done sector) = (λ h. tt, λ h. refl)
  gone o (Failed status) = (λ h. tt, λ h. refl)

  pub all_sent : (o : OpenRequest) → Decides (is_all_sent rules.busy_limit o) (IsAllSent rules o)
  all_sent o = or_else o.cancelled _ _ (when (is_started o) _ _ _ (decides_true (is_started o))
      (Decides-by_and (has_gone (nat_le rules.busy_limit o.busy_returns)) (HasGone rules o) (list_all (has_gone (nat_le rules.busy_limit o.busy_returns))) (gone o) refl (λ _ _. refl) o.marks))

  pub held_back : (o : OpenRequest) → Decides (is_held_back (is_full rules.window (started_count s)) o) (IsHeldBack rules s o)
  held_back o = or_else (is_started o) _ _ (Decides-or _ _ (decides_true o.late) (full rules.window (started_count s)))
