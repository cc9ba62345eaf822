-- The labels that a stack over a file told in a client's session, request by request.
use Rattle.std.specs.Prelude.{ℕ, Bool, List, [], ◌∷◌, ◌++◌, ◌⊎◌, length, replicate, Option, Some, None, Result, Ok, Err, MatchResult, ◌≡◌, ◌+◌}
use mathlib.Core.Logic.{inl, inr}
use Rattle.machine.specs.declared.Label.{Label}
use Rattle.compose.specs.declared.Event.{Event}
use Rattle.nbd.specs.declared.End.{End}
use Rattle.nbd.specs.declared.arrays.Sizes.{Sizes}
use Rattle.nbd.specs.declared.requests.Command.{Command}
use Rattle.nbd.specs.declared.requests.Command.TheVariants.{Read, Write, Flush, WriteZeroes}
use Rattle.nbd.specs.declared.requests.ReplyError.{ReplyError}
use Rattle.nbd.specs.Over.{CarriesOver, IsSessionOver, RunOver}
use Rattle.nbd.specs.Replies.{Outcome, failure}
use Rattle.nbd.specs.Requests.{command_in}
use Rattle.nbd.specs.Session.{Exchange}
use Rattle.serving.specs.Filed.{CarriesBy, Clears, ClearsBy, FiledView, IsAsked, IsDone, LacksMemory, Reads, Writes}

-- of one event: its call stands first, and its answer behind it
abbrev pub of_event : (old : FiledView) (event : Event) (done : Result (List ℕ) ReplyError) (new : FiledView) → IsAsked old event done new → List Label
of_event old event done new h = h.requests.labels

-- where there was no memory for the buffer nothing was asked
abbrev pub of_read : (old : FiledView) (offset count : ℕ) (done : Result (List ℕ) ReplyError) (new : FiledView) → Reads old offset count done new → List Label
of_read old offset count (Ok bytes) new h = h.asked.requests.labels
of_read old offset count (Err error) new (inl h) = h.asked.requests.labels
of_read old offset count (Err error) new (inr h) = []

abbrev pub of_clears : (old : FiledView) (offset : ℕ) (counts : List ℕ) (through : Bool) (new : FiledView) → Clears old offset counts through new → List Label
of_clears old offset [] through new h = []
of_clears old offset (count ∷ counts) through new h = of_clears old offset counts through h.0 h.1 ++ h.2.asked.requests.labels

abbrev pub of_stop : (mid : FiledView) (offset next : ℕ) (through : Bool) (error : ReplyError) (new : FiledView) → Writes mid offset (replicate next 0) through (Some error) new ⊎ LacksMemory mid error new → List Label
of_stop mid offset next through error new (inl h) = h.asked.requests.labels
of_stop mid offset next through error new (inr h) = []

abbrev pub of_cleared : (old : FiledView) (offset count : ℕ) (through : Bool) (failed : Option ReplyError) (new : FiledView) → ClearsBy old offset count through failed new → List Label
of_cleared old offset count through None new h = of_clears old offset h.counts through new h.clears
of_cleared old offset count through (Some error) new h =
    of_clears old offset h.cleared.counts through h.mid h.cleared.clears ++ of_stop h.mid (offset + h.done) h.next through error new h.stops

abbrev pub of_command : (command : Command) (payload : List ℕ) (old : FiledView) (o : Outcome) (new : FiledView) → CarriesBy command payload old o new → List Label
of_command (Read offset count) payload old o new h = of_read old offset count h.0 new h.1
of_command (Write offset count through) payload old o new h = h.1.asked.requests.labels
of_command Flush payload old o new h = h.1.asked.requests.labels
of_command (WriteZeroes offset count through) payload old o new h = of_cleared old offset count through h.0 new h.1

-- a request that asks for no command has none
abbrev pub of_found : (sizes : Sizes) (found : Result Command ReplyError) (payload : List ℕ) (old : FiledView) (o : Outcome) (new : FiledView)
    → MatchResult found (λ command. CarriesOver CarriesBy sizes command payload old o new) (λ e. (o ≡ failure e) × (new ≡ old)) → List Label
of_found sizes (Ok command) payload old o new (inl h) = of_command command payload old o new h
of_found sizes (Ok command) payload old o new (inr h) = []
of_found sizes (Err e) payload old o new h = []

abbrev pub of_run : (sizes : Sizes) (old : FiledView) (xs : List Exchange) (new : FiledView) → RunOver CarriesBy sizes old xs new → List Label
of_run sizes old [] new h = []
of_run sizes old (x ∷ xs) new h = of_found sizes (command_in sizes.block sizes.bytes x.request) x.payload old x.outcome h.0 h.1.serves ++ of_run sizes h.0 xs new h.2

-- a session that ended before its options has none
abbrev pub of_session : (sizes : Sizes) (old : FiledView) (input out : Option (List ℕ)) (end : End) (new : FiledView) (after : Option (List ℕ)) → IsSessionOver CarriesBy sizes old input out end new after → List Label
of_session sizes old input out end new after (inl early) = []
of_session sizes old input out end new after (inr talks) = of_run sizes old talks.exchanges new talks.run
