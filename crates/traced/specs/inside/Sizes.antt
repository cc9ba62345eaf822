-- The labels that one call may bring.
use Rattle.std.specs.Prelude.{ℕ, ◌+◌, ◌-◌, ◌*◌, ◌/◌, ◌%◌, ◌==◌, length, min, if◌then◌else◌}
use Rattle.compose.specs.declared.Event.{Event}
use Rattle.compose.specs.declared.Event.TheVariants.{Read, Write, Flush, QueryRemove}
use Rattle.traced.specs.declared.sizes.StackSizes.{StackSizes}

-- the labels of a request of this many places: its call, a cancel, its answer, three for each piece, and two for each
-- restart
abbrev pub labels_of_call : StackSizes → ℕ → ℕ
labels_of_call sizes places =
    3 * (places / sizes.max_transfer + (if places % sizes.max_transfer == 0 then 0 else 1)) + 2 * (sizes.busy_limit - 1) + 3

-- a request is no longer than the longest
abbrev pub labels_of_transfer : StackSizes → ℕ → ℕ
labels_of_transfer sizes bytes = labels_of_call sizes (min (bytes / sizes.sector_size) sizes.longest)

-- how many labels an event may bring: a pause brings its end as well, and events other than calls bring only what the
-- state of the machine counts already
abbrev pub brought_by : StackSizes → Event → ℕ
brought_by sizes (Read handle offset buffer) = labels_of_transfer sizes (length buffer)
brought_by sizes (Write handle offset bytes through) = labels_of_transfer sizes (length bytes)
brought_by sizes (Flush handle) = labels_of_call sizes 1
brought_by sizes QueryRemove = 2
brought_by sizes _ = 0
