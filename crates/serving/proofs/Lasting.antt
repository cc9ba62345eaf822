-- A session over a file lasts: its requests' labels and deeds, one behind the other.
use Rattle.serving.proofs.Common.{◌≡◌, inl, inr, ℕ, Bool, List, [], ◌∷◌, ◌++◌, Option, Some, None, Result, Ok, Err, refl, sym, subst, ◌∙◌, MatchResult, Event}
use Rattle.std.specs.Prelude.{◌⊎◌, ◌+◌, replicate}
use Rattle.nbd.specs.declared.requests.Command.{Command}
use Rattle.nbd.specs.declared.requests.Command.TheVariants.{Read, Write, Flush, WriteZeroes}
use Rattle.nbd.specs.declared.requests.ReplyError.{ReplyError}
use Rattle.nbd.specs.declared.arrays.Sizes.{Sizes}
use Rattle.nbd.specs.declared.End.{End}
use Rattle.nbd.specs.Requests.{command_in}
use Rattle.nbd.specs.Replies.{Outcome, failure}
use Rattle.nbd.specs.Session.{Exchange}
use Rattle.nbd.specs.Over.{CarriesOver, IsSessionOver, RunOver}
use Rattle.serving.specs.Carried.{Deed, Files, TellsOn, WroteOf}
use Rattle.machine.specs.declared.Label.{Label}
use Rattle.serving.specs.Telling.{of_clears, of_cleared, of_command, of_found, of_read, of_run, of_session, of_stop}
use Rattle.serving.specs.Filed.{CarriesBy, Clears, ClearsBy, FiledView, IsAsked, LacksMemory, Reads, Writes}
use Rattle.serving.proofs.Carrying.{files_append, keeps_on, tells_more, tells_nothing_more}
use Rattle.serving.proofs.Writing.{wrote_more, wrote_none}

-- the stack went on by these labels, the storage by their deeds, and the trace by their lines
pub record Lasts (labels : List Label) (old new : FiledView) : Type 0 where
  pub deeds : List Deed
  pub same_rules : new.carried.stack.rules ≡ old.carried.stack.rules
  pub told : TellsOn old.carried.stack labels deeds new.carried.stack
  pub files : Files old.carried.disk deeds new.carried.disk
  pub wrote : WroteOf old.carried labels new.carried

lasts_refl : (v : FiledView) → Lasts [] v v
lasts_refl v = record { deeds = []; same_rules = refl; told = tells_nothing_more v.carried.stack; files = refl; wrote = λ _. wrote_none v.carried.trace }

lasts_then : (old mid new : FiledView) (ls ls' : List Label) → Lasts ls old mid → Lasts ls' mid new → Lasts (ls ++ ls') old new
lasts_then old mid new ls ls' a b = record {
  deeds = a.deeds ++ b.deeds;
  same_rules = b.same_rules ∙ a.same_rules;
  told = tells_more old.carried.stack mid.carried.stack new.carried.stack ls ls' a.deeds b.deeds a.told b.told;
  files = files_append old.carried.disk mid.carried.disk new.carried.disk a.deeds b.deeds a.files b.files;
  wrote = λ bytes. wrote_more old.carried.trace mid.carried.trace new.carried.trace ls ls' (a.wrote bytes) (b.wrote (keeps_on mid.carried.stack old.carried.stack (sym a.same_rules) bytes));
}

stays : (old new : FiledView) → new ≡ old → Lasts [] old new
stays old new same = subst (λ (v : FiledView). Lasts [] old v) (sym same) (lasts_refl old)

asked : (old new : FiledView) (event : Event) (done : Result (List ℕ) ReplyError) (h : IsAsked old event done new) → Lasts h.requests.labels old new
asked old new event done h = record { deeds = h.requests.deeds; same_rules = h.requests.same_rules; told = h.requests.told; files = h.requests.files; wrote = h.requests.wrote }

-- COMMANDS

reads : (old new : FiledView) (offset count : ℕ) (result : Result (List ℕ) ReplyError) (h : Reads old offset count result new) → Lasts (of_read old offset count result new h) old new
reads old new offset count (Ok bytes) h = asked old new _ (Ok bytes) h.asked
reads old new offset count (Err error) (inl h) = asked old new _ (Err error) h.asked
reads old new offset count (Err error) (inr h) = stays old new h.same

clears : (old new : FiledView) (offset : ℕ) (counts : List ℕ) (through : Bool) (h : Clears old offset counts through new) → Lasts (of_clears old offset counts through new h) old new
clears old new offset [] through h = stays old new h
clears old new offset (count ∷ counts) through h =
    lasts_then old h.0 new (of_clears old offset counts through h.0 h.1) h.2.asked.requests.labels (clears old h.0 offset counts through h.1) (asked h.0 new _ h.2.done h.2.asked)

stop : (mid new : FiledView) (offset next : ℕ) (through : Bool) (error : ReplyError) (h : Writes mid offset (replicate next 0) through (Some error) new ⊎ LacksMemory mid error new) → Lasts (of_stop mid offset next through error new h) mid new
stop mid new offset next through error (inl h) = asked mid new _ h.done h.asked
stop mid new offset next through error (inr h) = stays mid new h.same

cleared : (old new : FiledView) (offset count : ℕ) (through : Bool) (failed : Option ReplyError) (h : ClearsBy old offset count through failed new) → Lasts (of_cleared old offset count through failed new h) old new
cleared old new offset count through None h = clears old new offset h.counts through h.clears
cleared old new offset count through (Some error) h =
    lasts_then old h.mid new (of_clears old offset h.cleared.counts through h.mid h.cleared.clears) (of_stop h.mid (offset + h.done) h.next through error new h.stops)
    (clears old h.mid offset h.cleared.counts through h.cleared.clears) (stop h.mid new (offset + h.done) h.next through error h.stops)

carries : (command : Command) (payload : List ℕ) (old : FiledView) (o : Outcome) (new : FiledView) (h : CarriesBy command payload old o new) → Lasts (of_command command payload old o new h) old new
carries (Read offset count) payload old o new h = reads old new offset count h.0 h.1
carries (Write offset count through) payload old o new h = asked old new _ h.1.done h.1.asked
carries Flush payload old o new h = asked old new _ h.1.done h.1.asked
carries (WriteZeroes offset count through) payload old o new h = cleared old new offset count through h.0 h.1

found : (sizes : Sizes) (found : Result Command ReplyError) (payload : List ℕ) (old : FiledView) (o : Outcome) (new : FiledView)
    (h : MatchResult found (λ command. CarriesOver CarriesBy sizes command payload old o new) (λ e. (o ≡ failure e) × (new ≡ old))) → Lasts (of_found sizes found payload old o new h) old new
found sizes (Ok command) payload old o new (inl h) = carries command payload old o new h
found sizes (Ok command) payload old o new (inr h) = stays old new h.2
found sizes (Err e) payload old o new h = stays old new h.1

pub run_lasts : (sizes : Sizes) (old : FiledView) (xs : List Exchange) (new : FiledView) (h : RunOver CarriesBy sizes old xs new) → Lasts (of_run sizes old xs new h) old new
run_lasts sizes old [] new h = stays old new h
run_lasts sizes old (x ∷ xs) new h =
    lasts_then old h.0 new (of_found sizes (command_in sizes.block sizes.bytes x.request) x.payload old x.outcome h.0 h.1.serves) (of_run sizes h.0 xs new h.2)
    (found sizes (command_in sizes.block sizes.bytes x.request) x.payload old x.outcome h.0 h.1.serves) (run_lasts sizes h.0 xs new h.2)

pub session_lasts : (sizes : Sizes) (old : FiledView) (input out : Option (List ℕ)) (end : End) (new : FiledView) (after : Option (List ℕ)) (h : IsSessionOver CarriesBy sizes old input out end new after)
    → Lasts (of_session sizes old input out end new after h) old new
session_lasts sizes old input out end new after (inl early) = stays old new early.same
session_lasts sizes old input out end new after (inr talks) = run_lasts sizes old talks.exchanges new talks.run
