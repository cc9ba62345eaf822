-- What it means that something is left undone.
use Rattle.std.specs.Prelude.{◌≡◌, ◌<◌, ℕ, [], Some, length, Contains, IsTrue, IsFalse}
use Rattle.machine.specs.Rules.{Rules}
use Rattle.machine.specs.State.{OpenRequest, State}
use Rattle.machine.specs.Settled.{started_count, IsHeld, WaitsIfCancelled, Waits, IsAllSent, IsHeldBack, HasMore, IsAtWork, Settled}
use Rattle.judge.specs.declared.undone_rules.Undone.{Undone}
use Rattle.judge.specs.declared.undone_rules.Undone.TheVariants as what

-- an open request of a number isn't as a settled state has it
pub record LeftBy (s : State) (P : OpenRequest → Type 0) (number : ℕ) : Type 0 where
  pub request : OpenRequest
  pub is_there : Contains s.requests request
  pub is_number : request.number ≡ number
  pub fails : ¬ (P request)

-- a pause holds the request
pub record IsHeldIn (s : State) (o : OpenRequest) : Type 0 where
  pub held : IsHeld o
  pub paused : IsTrue s.paused

abbrev pub IsUndone : Rules → State → Undone → Type 0
IsUndone rules s (what.Owed number status) = s.owed ≡ Some (record { number = number; status = status })
IsUndone rules s (what.Window window started) = (rules.window ≡ Some window) × (started ≡ started_count s) × (window < started)
IsUndone rules s (what.Cancelled number) = LeftBy s WaitsIfCancelled number
IsUndone rules s (what.Removing number) = IsTrue s.removing × LeftBy s Waits number
IsUndone rules s (what.Ended number) = LeftBy s HasMore number
IsUndone rules s (what.Idle number) = (s.pieces ≡ []) × LeftBy s (IsHeldIn s) number
IsUndone rules s (what.AtRest number) = (length s.pieces < rules.depth) × LeftBy s IsAtWork number
IsUndone rules s (what.Unsent number) = (length s.pieces < rules.depth) × IsFalse s.removing × LeftBy s (IsAllSent rules) number
IsUndone rules s (what.Unstarted number) = (length s.pieces < rules.depth) × IsFalse s.removing × LeftBy s (IsHeldBack rules s) number

-- OF THE STATES THAT LABELS LEAD TO

abbrev pub IsSettled : Rules → State → Type 0
IsSettled rules s = Settled rules s

abbrev pub Leaves : Rules → Undone → State → Type 0
Leaves rules what s = IsUndone rules s what
