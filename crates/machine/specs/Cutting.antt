-- Where the pieces of a request begin, and how often they may start again.
use Rattle.std.specs.Prelude.{ℕ, zero, suc, ◌+◌, ◌-◌, ◌*◌, ◌/◌, ◌%◌, ◌==◌, Bool, true, false, length, get_or, if◌then◌else◌}
use Rattle.machine.specs.Rules.{Rules}
use Rattle.machine.specs.State.{Mark, Untouched, Back, OpenRequest}

-- the mark on a place; past the last as on one that was never sent
abbrev pub mark_at : OpenRequest → ℕ → Mark
mark_at o place = get_or o.marks place Untouched

-- the pieces that this many places make: one begins at the first of them, and at each multiple of the longest piece
abbrev pub piece_count : Rules → ℕ → ℕ
piece_count rules places = places / rules.max_transfer + (if places % rules.max_transfer == 0 then 0 else 1)

-- how many numbers below this one pass a test
abbrev pub count_below : (ℕ → Bool) → ℕ → ℕ
count_below test zero = 0
count_below test (suc n) = count_below test n + (if test n then 1 else 0)

-- how many pieces of the request begin with such a mark
abbrev pub pieces_with : Rules → (Mark → Bool) → OpenRequest → ℕ
pieces_with rules test o = count_below (λ k. test (mark_at o (k * rules.max_transfer))) (piece_count rules (length o.marks))

-- the place came back busy
abbrev pub is_back : Mark → Bool
is_back Back = true
is_back _ = false

-- how often pieces of one request may start again: the last busy return ends it
abbrev pub restarts : Rules → ℕ
restarts rules = rules.busy_limit - 1

-- how many of these are left: a busy return adds one to the pieces that are back, and a restart takes one from them
abbrev pub restarts_left : Rules → OpenRequest → ℕ
restarts_left rules o = pieces_with rules is_back o + restarts rules - o.busy_returns
