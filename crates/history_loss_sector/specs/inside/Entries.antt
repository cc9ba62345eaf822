-- What a sector sees alone, with lines, and how an answer fills it in.
use Rattle.std.specs.Prelude.{◌≡◌, ◌<◌, ℕ, suc, Bool, true, false, List, [], ◌∷◌, Option, Some, None, length, drop, slice_index_or}
use Rattle.std.specs.List.{list_any}
use Rattle.machine.specs.Rules.{Rules}
use Rattle.register.specs.Values.{code}
use Rattle.history_loss_kept.specs.declared.Wait.{Wait}
use Rattle.history_loss_kept.specs.declared.Own.{Own}
use Rattle.history_loss_kept.specs.Kept.{fill, is_own_of, read_by, wait_by}
use Rattle.history_loss_sector.specs.declared.filling.Marked.{Marked}
use Rattle.history_loss_sector.specs.Seen.{IsOnce, is_for}

-- without lines
abbrev pub own_in : List Marked → List Own
own_in [] = []
own_in (m ∷ marked) = m.own ∷ own_in marked

-- the entry at this place is the last that is the call of this request
pub record IsLastAt (n : ℕ) (marked : List Marked) (place : ℕ) : Type 0 where
  pub within : place < length marked
  pub is : (d : Marked) → is_for n (slice_index_or marked place d).own ≡ true
  pub last : list_any (is_for n) (own_in (drop (suc place) marked)) ≡ false

abbrev pub IsLast : ℕ → List Marked → Option ℕ → Type 0
IsLast n marked (Some place) = IsLastAt n marked place
IsLast n marked None = list_any (is_for n) (own_in marked) ≡ false

-- with sectors of this size
abbrev pub IsReadBy : ℕ → ℕ → ℕ → Option (List ℕ) → Option Wait → Type 0
IsReadBy size n place bytes wait = (rules : Rules) → rules.sector_size ≡ size → wait ≡ read_by code rules n place bytes

abbrev pub IsWaitBy : ℕ → ℕ → Option (List ℕ) → Wait → Option Wait → Type 0
IsWaitBy size n bytes old wait = (rules : Rules) → rules.sector_size ≡ size → wait ≡ wait_by code rules n bytes old

pub record IsFilledBy (rules : Rules) (n : ℕ) (bytes : Option (List ℕ)) (old new : List Own) (is_seen : Bool) : Type 0 where
  pub is : new ≡ fill code rules n bytes old
  pub seen : is_seen ≡ list_any (is_own_of n) (fill code rules n bytes old)

-- where the request was called once at most
abbrev pub IsFilled : ℕ → ℕ → Option (List ℕ) → List Marked → List Marked → Bool → Type 0
IsFilled size n bytes old new is_seen =
    (rules : Rules) → rules.sector_size ≡ size → IsOnce n (own_in old) → IsFilledBy rules n bytes (own_in old) (own_in new) is_seen
