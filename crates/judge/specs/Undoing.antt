-- What is named as left undone, as a function of the state.
use Rattle.std.specs.Prelude.{ℕ, ◌==◌, is_none, nat_lt, nat_le, not, Bool, List, Option, Some, None, length, slice_get, if◌then◌else◌}
use Rattle.std.specs.List.{find, list_any}
use Rattle.std.specs.Option.{option_or}
use Rattle.machine.specs.Rules.{Rules}
use Rattle.machine.specs.State.{OpenRequest, Owed, State}
use Rattle.machine.specs.Calling.{is_full}
use Rattle.machine.specs.Settled.{has_out, started_count}
use Rattle.judge.specs.Settling.{is_held, waits_if_cancelled, is_all_sent, is_held_back, has_more, is_at_work}
use Rattle.judge.specs.declared.undone_rules.Undone.{Undone}
use Rattle.judge.specs.declared.undone_rules.Undone.TheVariants as what

abbrev pub failing : (OpenRequest → Bool) → OpenRequest → Bool
failing test o = not (test o)

-- the request that was found, by its number
abbrev pub named : (ℕ → Undone) → Option OpenRequest → Option Undone
named says None = None
named says (Some o) = Some (says o.number)

-- the first request that fails a test
abbrev pub first_failing : (ℕ → Undone) → (OpenRequest → Bool) → State → Option Undone
first_failing says test s = named says (find (failing test) s.requests)

abbrev pub owed_undone : Option Owed → Option Undone
owed_undone None = None
owed_undone (Some owed) = Some (what.Owed owed.number owed.status)

abbrev pub window_undone : Option ℕ → ℕ → Option Undone
window_undone None started = None
window_undone (Some window) started = if nat_le started window then None else Some (what.Window window started)

abbrev pub removing_undone : State → Option Undone
removing_undone s = if not s.removing then None else first_failing what.Removing has_out s

abbrev pub waiting_undone : State → Option Undone
waiting_undone s = option_or (first_failing what.Cancelled waits_if_cancelled s) (option_or (removing_undone s) (first_failing what.Ended has_more s))

abbrev pub unpaused_undone : State → Option Undone
unpaused_undone s = if s.paused then None else named what.Idle (slice_get s.requests 0)

abbrev pub idle_undone : State → Option Undone
idle_undone s = if not (length s.pieces == 0) then None else option_or (first_failing what.Idle is_held s) (unpaused_undone s)

abbrev pub sending_undone : Rules → State → Option Undone
sending_undone rules s =
    if s.removing then None
    else option_or (first_failing what.Unsent (is_all_sent rules.busy_limit) s) (first_failing what.Unstarted (is_held_back (is_full rules.window (started_count s))) s)

abbrev pub served_undone : Rules → State → Option Undone
served_undone rules s =
    if not (nat_lt (length s.pieces) rules.depth) then None
    else option_or (first_failing what.AtRest is_at_work s) (sending_undone rules s)

abbrev pub undone : Rules → State → Option Undone
undone rules s =
    option_or (option_or (owed_undone s.owed) (window_undone rules.window (started_count s)))
    (option_or (waiting_undone s) (option_or (idle_undone s) (served_undone rules s)))

-- nothing is left undone
abbrev pub is_settled : Rules → State → Bool
is_settled rules s = is_none (undone rules s)

abbrev pub undone_at_first : Rules → Option State → Option Undone
undone_at_first rules None = None
undone_at_first rules (Some s) = undone rules s

-- what the first of the states leaves undone, if none is settled
abbrev pub undone_at_all : Rules → List State → Option Undone
undone_at_all rules states = if list_any (is_settled rules) states then None else undone_at_first rules (slice_get states 0)
