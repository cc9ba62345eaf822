-- Whether a state is settled, as a test.
use Rattle.std.specs.Prelude.{ℕ, ◌&&◌, ◌||◌, nat_le, not, Bool, true, false}
use Rattle.std.specs.List.{list_all}
use Rattle.machine.specs.State.{Mark, Untouched, Out, Done, Failed, Back, OpenRequest}
use Rattle.machine.specs.Sending.{is_started}
use Rattle.machine.specs.Settled.{has_out, has_unsent}

-- the second test holds where the first does
abbrev pub holds_if : Bool → Bool → Bool
holds_if a b = not a || b

-- a place that will not be sent, where busy returns have ended its request or not
abbrev pub has_gone : Bool → Mark → Bool
has_gone worn_out Untouched = false
has_gone worn_out Back = worn_out
has_gone worn_out Out = true
has_gone worn_out (Done sector) = true
has_gone worn_out (Failed status) = true

abbrev pub is_held : OpenRequest → Bool
is_held o = not (is_started o) && o.late

abbrev pub waits_if_cancelled : OpenRequest → Bool
waits_if_cancelled o = holds_if o.cancelled (has_out o)

-- no place of a request that is started and not cancelled waits and may go
abbrev pub is_all_sent : ℕ → OpenRequest → Bool
is_all_sent limit o = o.cancelled || holds_if (is_started o) (list_all (has_gone (nat_le limit o.busy_returns)) o.marks)

-- the request is started, late, or behind a full window
abbrev pub is_held_back : Bool → OpenRequest → Bool
is_held_back full o = is_started o || (o.late || full)

abbrev pub has_more : OpenRequest → Bool
has_more o = holds_if (is_started o) (has_out o || has_unsent o)

abbrev pub is_at_work : OpenRequest → Bool
is_at_work o = holds_if (is_started o) (has_out o)
