-- The bytes of each sector, numbered.
use Rattle.std.specs.Prelude.{◌<◌, ℕ, Bool, true, nat_lt, List, [], get_or, length, unwrap_or}
use Rattle.std.specs.List.{position}
use Rattle.std.specs.Str.{bytes_eq}
use Rattle.sector_judge.specs.declared.Event.{Event}
use Rattle.sector_judge.specs.declared.Event.TheVariants as event
use Rattle.disk_judge.specs.declared.Happening.{Happening}
use Rattle.disk_judge.specs.declared.Happening.TheVariants as happening
use Rattle.session_judge.specs.declared.deeds.Way.{Way}
use Rattle.session_judge.specs.declared.deeds.Way.TheVariants.{Put, Secured, Tried, Given}
use Rattle.session_judge.specs.declared.deeds.Deed.{Deed}
use Rattle.session_judge.specs.declared.deeds.Deed.TheVariants.{At, Flushed, SyncFailed, PowerLost, ProcessEnded}

-- what happens to a sector that comes so by a value
abbrev pub event_of : Way → ℕ → Event
event_of (Put next) value = event.Put value next
event_of Secured value = event.Secured value
event_of Tried value = event.Tried value
event_of Given value = event.Given value

-- the place of the bytes in a table, or that behind its end
abbrev pub number_in : List (List ℕ) → List ℕ → ℕ
number_in table bytes = unwrap_or (position (bytes_eq bytes) table) (length table)

-- the bytes of each sector stand in a table of its own, and their places are their numbers
abbrev pub happening_of : List (List (List ℕ)) → Deed → Happening
happening_of tables (At sector way bytes) = happening.At sector (event_of way (number_in (get_or tables sector []) bytes))
happening_of tables (Flushed flush) = happening.Flushed flush
happening_of tables SyncFailed = happening.SyncFailed
happening_of tables PowerLost = happening.PowerLost
happening_of tables ProcessEnded = happening.ProcessEnded

-- the bytes of a deed are in their table
abbrev pub IsNumbered : List (List (List ℕ)) → Deed → Type 0
IsNumbered tables (At sector way bytes) = number_in (get_or tables sector []) bytes < length (get_or tables sector [])
IsNumbered tables _ = Unit {0}

abbrev pub is_numbered : List (List (List ℕ)) → Deed → Bool
is_numbered tables (At sector way bytes) = nat_lt (number_in (get_or tables sector []) bytes) (length (get_or tables sector []))
is_numbered tables _ = true
