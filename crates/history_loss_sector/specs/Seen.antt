-- One sector over sessions: what was seen of it so far.
use Rattle.std.specs.Prelude.{◌≡◌, ℕ, ◌==◌, Bool, true, false, List, [], ◌∷◌, ◌++◌}
use Rattle.std.specs.List.{list_any}
use Rattle.register_loss.specs.declared.Sight.{Sight}
use Rattle.register_loss.specs.declared.Sight.TheVariants.{Lost as LostSight, Ended as EndedSight}
use Rattle.history_loss_kept.specs.declared.Wait.TheVariants.{Known, Awaits}
use Rattle.history_loss_kept.specs.declared.Own.{Own}
use Rattle.history_loss_kept.specs.declared.Shared.{Shared}
use Rattle.history_loss_kept.specs.Kept.{is_call_of, seen_by}
use Rattle.history_loss_sector.specs.declared.merging.SharedAt.{SharedAt}
use Rattle.history_loss_sector.specs.declared.seen.Turned.{Turned}
use Rattle.history_loss_sector.specs.declared.seen.Turned.TheVariants.{Lost, Ended}

-- the bytes that it had at the start, by their number; the sights of the sessions before, with all syncs and with those alone
-- that succeed; and what it alone saw in this session
pub record SeenView : Type 0 where
  pub start : ℕ
  pub all : List Sight
  pub steady : List Sight
  pub own : List Own

-- without lines
abbrev pub shared_in : List SharedAt → List Shared
shared_in [] = []
shared_in (one ∷ shared) = one.shared ∷ shared_in shared

abbrev pub turned_sight : Turned → Sight
turned_sight Lost = LostSight
turned_sight Ended = EndedSight

-- behind a session in which all sectors saw these, and its end
abbrev pub seen_after : List Shared → Sight → SeenView → SeenView
seen_after shared last seen = record {
  start = seen.start;
  all = seen.all ++ seen_by true shared (last ∷ []) seen.own;
  steady = seen.steady ++ seen_by false shared (last ∷ []) seen.own;
  own = [];
}

-- the call of this request
abbrev pub is_for : ℕ → Own → Bool
is_for n o = elim (o.wait) [
  | Known sight ↦ is_call_of n sight
  | Awaits number place ↦ number == n
]

-- it was called once at most
abbrev pub IsOnce : ℕ → List Own → Type 0
IsOnce n [] = Unit {0}
IsOnce n (o ∷ own) = (is_for n o ≡ true → list_any (is_for n) own ≡ false) × IsOnce n own
