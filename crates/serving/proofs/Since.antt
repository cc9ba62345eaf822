-- What holds of a desk since its session began goes on to hold.
use Rattle.serving.proofs.Common.{◌≡◌, ◌≢◌, ◌<◌, ◌⊎◌, inl, inr, ℕ, suc, ◌+◌, Bool, true, false, List, [], ◌∷◌, ◌++◌, length, Option, Some, None, Result, Ok, Err, refl, sym, ap, subst, ◌∙◌, arith, All, All-contains, All-nil, All-weaker, Contains, Contains-append_right, IsPermutation, IsPermutation-append_right, IsPermutation-refl, IsPermutation-trans, MatchResult, slice_get, if◌then◌else◌, Success, Label, Answer, DiskView, Handle, ManagerView, Event, Sizes, Command, WriteZeroes, ReplyError}
use Rattle.std.specs.Prelude.{IsTrue, slice_set}
use Rattle.machine.specs.declared.ClientRequest.{ClientRequest}
use Rattle.machine.specs.declared.Label.TheVariants.{Call}
use Rattle.srb.specs.declared.Kind.TheVariants.{Read as ReadKind, Write as WriteKind, Flush as FlushKind}
use Rattle.compose.specs.declared.Event.TheVariants.{Open, Close, Read as ReadEvent, Write as WriteEvent, Flush as FlushEvent, CancelIoEx, Mark, QueryRemove, CancelRemove, Remove, SurpriseRemove, Act, Finish, Reset}
use Rattle.io_manager.specs.Calls.{partition_of}
use Rattle.nbd.specs.declared.requests.Command.TheVariants.{Read, Write, Flush}
use Rattle.nbd.specs.declared.requests.ReplyError.TheVariants.{Eio, Enomem}
use Rattle.nbd.specs.declared.incoming.Incoming.{Incoming}
use Rattle.nbd.specs.Requests.{command_in}
use Rattle.nbd.specs.Replies.{Outcome, failure, outcome_of, success}
use Rattle.nbd.specs.declared.beside.Happening.{Happening}
use Rattle.nbd.specs.declared.replies.Answer.{Answer as Reply}
use Rattle.nbd.specs.declared.beside.Happening.TheVariants.{Answered as IsAnswered, Ended, Idle, Read as IsRead}
use Rattle.nbd.specs.Incoming.{IsAskedBy, IsIncoming}
use Rattle.nbd.specs.declared.End.{End}
use Rattle.nbd.specs.declared.requests.Request.{Request}
use Rattle.nbd.specs.Session.{TakesLast}
use Rattle.nbd.specs.Beside.{Account, IsTaken, Taken, Told}
use Rattle.nbd.specs.Desks.{GoesFrom, Happens, Keeps, ReadsOne}
use Rattle.io_manager.specs.Right.{as_answer}
use Rattle.volume.specs.Working.{Asks}
use Rattle.serving.specs.Beside.{Deals, EndsIn, FoundFull, GoesBeside, Gone, HasAnswer, HasFailed, IsNewIn, IsNoReturn, IsServedIn, Moved, ToldInTurn, WaitsOrTold, joined, moves_in, nothing_gone}
use Rattle.serving.specs.Elsewhere.{AsksBeside, gone_by}
use Rattle.serving.specs.declared.dues.Due.{Due}
use Rattle.serving.specs.declared.dues.Ready.{Ready}
use Rattle.serving.specs.declared.dues.Stage.{Stage}
use Rattle.serving.specs.declared.dues.Stage.TheVariants.{Waits, Ready as IsReady}
use Rattle.serving.specs.declared.elsewhere.Reached.{Reached}
use Rattle.serving.specs.declared.elsewhere.Reached.TheVariants.{Called, Answered, Refused}
use Rattle.serving.specs.inside.Busy.{AnswersBy, AsksFor, AsksWith, Calls, FailsWith, GoesOnAt, Hears, IsCalm, IsError, IsFreePlace, Steps, filled, left_of, next_due}
use Rattle.serving.specs.inside.Dues.{AsksNow, BeginsBy, EndsAs, GoesOnBy, IsNextIn, IsReadyIn, IsSlotIn, IsWaiting, due_places, place_in, ready_of, ready_place, slot_of}
use Rattle.serving.specs.inside.Engines.{EngineGoes, EngineHands, EngineView}
use Rattle.serving.specs.inside.Since.{BusyView, SinceBy, SinceFirst}
use Rattle.serving.proofs.Dealing.{deals_more, deals_none, moves_append}
use Rattle.serving.proofs.Ending.{ReachesIn, StandsSo, answers_called, ends_told, first_asks, next_zeros, place_reached, place_ready, ready_told, served_so, stage_place, stage_reached}
use Rattle.serving.proofs.Growing.{asks_stays, failed_stays, full_stays, grows, slots_read, slots_stay, told_one, told_reads, told_stays}
use Rattle.serving.proofs.Newest.{newest_behind, newest_more, newest_of}
use Rattle.serving.proofs.Siding.{beside_more, beside_none}
use Rattle.std.proofs.Common.{length-append}
use Rattle.std.proofs.lemmas.List.Sorted.{IsPermutation-cons, IsPermutation-sym, length_permutation}
use Rattle.serving.proofs.Reading.{writes_some}
use Rattle.serving.proofs.Slots.{front_exchanged, places_changed, slot_there, slots_set}
use Rattle.machine.proofs.Permuting.{IsPermutation-uncons}

-- THE STACK GOES ON

-- what waited, or was told by a call, is as new
still_new : (waiting : List Answer) (old : Gone) (labels : List Label) (answer : Answer) → All (IsNewIn old) waiting → All IsNoReturn labels → WaitsOrTold waiting labels answer → IsNewIn (joined old (gone_by labels)) answer
still_new waiting old labels answer all none (inl c) = newest_of old.labels labels (as_answer answer) c none
still_new waiting old labels answer all none (inr c) = newest_more old.labels labels (as_answer answer) (All-contains (IsNewIn old) waiting answer all c) none

module _ (first old : BusyView) (a : Account) (was : Gone) (s : SinceBy first a was old) where
  -- the stack went on by these pieces, with nothing read or told
  module _ (engine : EngineView) (more : Gone) (went : GoesBeside old.engine.stack more.labels (moves_in more.moments) engine.stack) (deals : Deals old.engine.aloft old.engine.disk more.moments engine.aloft engine.disk)
      (full : IsTrue engine.full → IsTrue old.engine.full ⊎ FoundFull more) where
    went_on : GoesBeside first.engine.stack (joined was more).labels (moves_in (joined was more).moments) engine.stack
    went_on =
        subst (λ (ms : List Moved). GoesBeside first.engine.stack (was.labels ++ more.labels) ms engine.stack) (sym (moves_append was.moments more.moments))
        (beside_more first.engine.stack old.engine.stack engine.stack was.labels more.labels (moves_in was.moments) (moves_in more.moments) s.went went)

    full_on : IsTrue engine.full → FoundFull (joined was more)
    full_on h = elim (full h) [
      | inl before ↦ full_stays was (joined was more) (grows was more) (s.full before)
      | inr now ↦ record { move = now.move; there = there_on now.move now.there; full = now.full }
    ]
      where
        there_on : (m : Moved) → Contains (moves_in more.moments) m → Contains (moves_in (was.moments ++ more.moments)) m
        there_on m c = subst (λ (ms : List Moved). Contains ms m) (sym (moves_append was.moments more.moments)) (Contains-append_right (moves_in was.moments) (moves_in more.moments) m c)

    pub goes_since : (spoiled : ℕ) → (0 < spoiled → HasFailed (joined was more)) → All (IsNewIn (joined was more)) engine.stack.answers → IsNextIn first.engine.stack first.handle first.sizes (joined was more) a.taken old.ready
        → SinceBy first a (joined was more) (record old { engine = engine; spoiled = spoiled })
    goes_since spoiled fails waiting next = record {
      went = went_on;
      deals = deals_more first.engine.aloft old.engine.aloft engine.aloft first.engine.disk old.engine.disk engine.disk was.moments more.moments s.deals deals;
      full = full_on;
      spoiled = fails;
      waiting = waiting;
      same_handle = s.same_handle;
      same_sizes = s.same_sizes;
      counted = s.counted;
      told = told_stays was (joined was more) (grows was more) first.engine.stack first.handle first.sizes a.taken nothing_gone a.told s.told;
      next = next;
      slots = slots_stay was (joined was more) (grows was more) first.engine.stack first.handle first.sizes a.taken old.slots s.slots;
      due = s.due;
    }

    pub spoiled_stays : 0 < old.spoiled → HasFailed (joined was more)
    spoiled_stays h = failed_stays was (joined was more) (grows was more) (s.spoiled h)

  failed_now : (more : Gone) → HasFailed more → HasFailed (joined was more)
  failed_now more f = record {
    move = f.move;
    there = subst (λ (ms : List Moved). Contains ms f.move) (sym (moves_append was.moments more.moments)) (Contains-append_right (moves_in was.moments) (moves_in more.moments) f.move f.there);
    completion = f.completion;
    failed = f.failed;
  }

  none_next : (gone : Gone) → old.ready ≡ None → IsNextIn first.engine.stack first.handle first.sizes gone a.taken old.ready
  none_next gone calm = subst (λ (r : Option Ready). IsNextIn first.engine.stack first.handle first.sizes gone a.taken r) (sym calm) tt

  new_on : (engine : EngineView) (more : Gone) → All (IsNewIn more) engine.stack.answers → All (IsNewIn (joined was more)) engine.stack.answers
  new_on engine more all = All-weaker (IsNewIn more) (IsNewIn (joined was more)) (λ (x : Answer) n. newest_behind was.labels more.labels (as_answer x) n) engine.stack.answers all

  pub engine_since : (engine : EngineView) (failed : Bool) → old.ready ≡ None → EngineGoes old.engine failed engine → SinceFirst first a (record old { engine = engine; spoiled = if failed then old.read else old.spoiled })
  engine_since engine true calm g =
      (joined was g.gone, goes_since engine g.gone g.went g.deals g.full old.read (λ h. failed_now g.gone (g.fails refl)) (new_on engine g.gone g.newest) (none_next (joined was g.gone) calm))
  engine_since engine false calm g =
      (joined was g.gone, goes_since engine g.gone g.went g.deals g.full old.spoiled (spoiled_stays engine g.gone g.went g.deals g.full) (new_on engine g.gone g.newest) (none_next (joined was g.gone) calm))

-- a step of the stack's engine tells nothing of the session
pub engine_steps : (old : BusyView) (engine : EngineView) (failed : Bool) → IsCalm old → EngineGoes old.engine failed engine → Steps old None (record old { engine = engine; spoiled = if failed then old.read else old.spoiled })
engine_steps old engine failed calm g = (refl, record { on = λ first a s. engine_since first old a s.0 s.1 engine failed calm.none_ready g })

-- pieces were handed out
hands_goes : (old new : EngineView) → old.stack.answers ≡ [] → EngineHands old new → EngineGoes old false new
hands_goes old new none h = record {
  gone = record { labels = []; moments = h.moments };
  went =
      subst (λ (e : EngineView). GoesBeside old.stack [] (moves_in h.moments) e.stack) (sym h.same)
      (subst (λ (ms : List Moved). GoesBeside old.stack [] ms old.stack) (sym h.none_moved) (beside_none old.stack));
  deals = subst (λ (d : DiskView). Deals old.aloft old.disk h.moments new.aloft d) (sym (ap (λ (e : EngineView). e.disk) h.same)) h.deals;
  newest =
      subst (λ (xs : List Answer). All (IsNewIn (record { labels = []; moments = h.moments })) xs) (sym (ap (λ (e : EngineView). e.stack.answers) h.same ∙ none))
      (All-nil (IsNewIn (record { labels = []; moments = h.moments })));
  full = λ t. inl (subst IsTrue (ap (λ (e : EngineView). e.full) h.same) t);
  fails = λ t. absurd (cc (t));
}

pub hands_step : (old : BusyView) (engine : EngineView) → IsCalm old → EngineHands old.engine engine → Steps old None (record old { engine = engine })
hands_step old engine calm h = engine_steps old engine false calm (hands_goes old.engine engine calm.none_waits h)

pub hands_calm : (old : BusyView) (engine : EngineView) → IsCalm old → EngineHands old.engine engine → IsCalm (record old { engine = engine })
hands_calm old engine calm h = record { none_ready = calm.none_ready; none_waits = ap (λ (e : EngineView). e.stack.answers) h.same ∙ calm.none_waits }

-- STEPS IN A ROW

pub keeps_same : (b : BusyView) → Keeps SinceFirst b b
keeps_same b = record { on = λ first a s. s }

pub steps_none : (b : BusyView) → Steps b None b
steps_none b = (refl, record { on = λ first a s. s })

pub steps_more : (old mid new : BusyView) (happening : Option Happening) → Steps old None mid → Steps mid happening new → Steps old happening new
steps_more old mid new None one two = (two.0 ∙ one.0, record { on = λ first a s. two.1.on first a (one.1.on first a s) })
steps_more old mid new (Some happening) one two = λ first a s.
    let g = two first a (one.1.on first a s) in
    record { next = g.next; happens = subst (λ (l : Option (List ℕ)). Happens l a happening new.left g.next) one.0 g.happens; since = g.since }

-- an engine whose stack alone may have changed, and didn't
pub same_engine : (old new : EngineView) → new ≡ record old { stack = new.stack } → new.stack ≡ old.stack → new ≡ old
same_engine old new same stack = same ∙ ap (λ (v : ManagerView). record { stack = v; full = old.full; disk = old.disk; aloft = old.aloft }) stack

pub steps_from : (old mid new : BusyView) (happening : Option Happening) → mid ≡ old → Steps mid happening new → Steps old happening new
steps_from old mid new happening same h = subst (λ (b : BusyView). Steps b happening new) same h

-- AN ANSWER IS TAKEN

takes_new : (old : BusyView) (answer : Answer) (first : BusyView) (a : Account) (gone : Gone) → SinceBy first a gone old → Contains old.engine.stack.answers answer → IsNewIn (joined gone nothing_gone) answer
takes_new old answer first a gone s c =
    newest_more gone.labels [] (as_answer answer) (All-contains (IsNewIn gone) old.engine.stack.answers answer s.waiting c) (All-nil IsNoReturn)

takes_since : (old : BusyView) (engine : EngineView) (first : BusyView) (a : Account) (gone : Gone) → old.ready ≡ None → SinceBy first a gone old → GoesBeside old.engine.stack [] [] engine.stack → engine ≡ record old.engine { stack = engine.stack }
    → SinceBy first a (joined gone nothing_gone) (record old { engine = engine })
takes_since old engine first a gone calm s went same =
    let deals : Deals old.engine.aloft old.engine.disk [] engine.aloft engine.disk = subst (λ (e : EngineView). Deals old.engine.aloft old.engine.disk [] e.aloft e.disk) (sym same) (deals_none old.engine.aloft old.engine.disk) in
    let full : IsTrue engine.full → IsTrue old.engine.full ⊎ FoundFull nothing_gone = λ h. inl (subst IsTrue (ap (λ (e : EngineView). e.full) same) h) in
    goes_since first old a gone s engine nothing_gone went deals full old.spoiled (spoiled_stays first old a gone s engine nothing_gone went deals full)
    (All-weaker (WaitsOrTold old.engine.stack.answers []) (IsNewIn (joined gone nothing_gone)) (λ (x : Answer) w. still_new old.engine.stack.answers gone [] x s.waiting (All-nil IsNoReturn) w) engine.stack.answers went.untaken)
    (none_next first old a gone s (joined gone nothing_gone) calm)

pub takes_steps : (old : BusyView) (engine : EngineView) (answer : Answer) (happening : Option Happening) (new : BusyView) → old.ready ≡ None → Contains old.engine.stack.answers answer → GoesBeside old.engine.stack [] [] engine.stack → engine ≡ record old.engine { stack = engine.stack }
    → Hears (record old { engine = engine }) answer happening new → Steps old happening new
takes_steps old engine answer None new calm c went same h =
    (h.0, record { on = λ first a s. h.1 first a (joined s.0 nothing_gone) (takes_since old engine first a s.0 calm s.1 went same) (takes_new old answer first a s.0 s.1 c) })
takes_steps old engine answer (Some happening) new calm c went same h = λ first a s.
    let g = h first a (joined s.0 nothing_gone) (takes_since old engine first a s.0 calm s.1 went same) (takes_new old answer first a s.0 s.1 c) in
    record { next = g.next; happens = g.happens; since = g.since }

-- A REQUEST THAT WAS ASKED FOR ENDS

-- what the stack asks is the same as at the session's start
asks_first : (old new : ManagerView) → new.handles ≡ old.handles → (event : Event) (q : ClientRequest) → Asks new event q → Asks old event q
asks_first old new same event q h = asks_by old new same event q h
  where
    asks_by : (old new : ManagerView) → new.handles ≡ old.handles → (event : Event) (q : ClientRequest) → Asks new event q → Asks old event q
    asks_by old new same (ReadEvent handle offset buffer) q h = h ∙ ap (λ hs. record { partition = partition_of hs handle; kind = ReadKind; offset = offset; length = length buffer; through = false; bytes = [] }) same
    asks_by old new same (WriteEvent handle offset bytes through) q h = h ∙ ap (λ hs. record { partition = partition_of hs handle; kind = WriteKind; offset = offset; length = length bytes; through = through; bytes = bytes }) same
    asks_by old new same (FlushEvent handle) q h = h ∙ ap (λ hs. record { partition = partition_of hs handle; kind = FlushKind; offset = 0; length = 0; through = false; bytes = [] }) same
    asks_by old new same (Open partition) q h = absurd h
    asks_by old new same (Close handle) q h = absurd h
    asks_by old new same (CancelIoEx handle target) q h = absurd h
    asks_by old new same (Mark number) q h = absurd h
    asks_by old new same QueryRemove q h = absurd h
    asks_by old new same CancelRemove q h = absurd h
    asks_by old new same Remove q h = absurd h
    asks_by old new same SurpriseRemove q h = absurd h
    asks_by old new same (Act tag) q h = absurd h
    asks_by old new same (Finish tag) q h = absurd h
    asks_by old new same Reset q h = absurd h

-- what became of an event that was asked for now, told of the session
record ReachesOn (first : ManagerView) (was : Gone) (event : Event) (reached : Reached) (old new : ManagerView) : Type 0 where
  pub labels : List Label
  pub went : GoesBeside old labels [] new
  pub no_return : All IsNoReturn labels
  pub reaches : ReachesIn first (joined was (gone_by labels)) event reached

reaches_on : (first old new : ManagerView) (was : Gone) (event : Event) (reached : Reached) → GoesBeside first was.labels (moves_in was.moments) old → AsksBeside old event reached new → ReachesOn first was event reached old new
reaches_on first old new was event (Called number) went h = record {
  labels = h.labels;
  went = h.went;
  no_return = h.no_return;
  reaches = record {
    request = h.so.request;
    asks = asks_first first old went.same_handles event h.so.request h.so.asks;
    called = Contains-append_right was.labels h.labels (Call number h.so.request) h.so.called;
  };
}
reaches_on first old new was event (Answered answer) went h = record {
  labels = h.labels;
  went = h.went;
  no_return = h.no_return;
  reaches = record {
    request = h.so.request;
    asks = asks_first first old went.same_handles event h.so.request h.so.asks;
    called = elim h.so.called [ inl c ↦ inl (Contains-append_right was.labels h.labels _ c) | inr c ↦ inr (Contains-append_right was.labels h.labels _ c) ];
    answered = newest_behind was.labels h.labels (as_answer answer) h.so.answered;
  };
}
reaches_on first old new was event (Refused reason) went h = record {
  labels = h.after.labels;
  went = h.went;
  no_return = h.no_return;
  reaches = record { first = was.labels; others = h.after.labels; among = refl; moves = moves_in was.moments; mid = old; went = went; after = h.after; bytes = h.bytes; refused = h.right };
}

-- the stack was asked for something, and nothing came back meanwhile
asked_since : (first old : BusyView) (a : Account) (was : Gone) (s : SinceBy first a was old) → old.ready ≡ None → (engine : EngineView) (labels : List Label) → GoesBeside old.engine.stack labels [] engine.stack → All IsNoReturn labels → engine ≡ record old.engine { stack = engine.stack }
    → SinceBy first a (joined was (gone_by labels)) (record old { engine = engine; spoiled = old.spoiled })
asked_since first old a was s calm engine labels went none same =
    let more : Gone = gone_by labels in
    let deals : Deals old.engine.aloft old.engine.disk [] engine.aloft engine.disk = subst (λ (e : EngineView). Deals old.engine.aloft old.engine.disk [] e.aloft e.disk) (sym same) (deals_none old.engine.aloft old.engine.disk) in
    let full : IsTrue engine.full → IsTrue old.engine.full ⊎ FoundFull more = λ h. inl (subst IsTrue (ap (λ (e : EngineView). e.full) same) h) in
    goes_since first old a was s engine more went deals full old.spoiled (spoiled_stays first old a was s engine more went deals full)
    (All-weaker (WaitsOrTold old.engine.stack.answers labels) (IsNewIn (joined was more)) (λ (x : Answer) w. still_new old.engine.stack.answers was labels x s.waiting none w) engine.stack.answers went.untaken)
    (none_next first old a was s (joined was more) calm)

no_memory : (stack : ManagerView) (handle : Handle) (sizes : Sizes) (gone : Gone) (one : Taken) (command : Command) → command_in sizes.block sizes.bytes one.request ≡ Ok command → (o : Outcome) → IsError Enomem o → IsServedIn stack handle sizes gone one o
no_memory stack handle sizes gone one command is o e = served_so stack handle gone sizes [] one command o is (inr (inl e))

-- where its request stands, in its slot or as what is told next
slot_so : (stack : ManagerView) (handle : Handle) (sizes : Sizes) (gone : Gone) (taken : List Taken) (stage : Stage) → StandsSo stack handle sizes gone taken stage → IsSlotIn stack handle sizes gone taken (slot_of stage)
slot_so stack handle sizes gone taken (Waits due) h = h
slot_so stack handle sizes gone taken (IsReady ready) h = tt

next_so : (stack : ManagerView) (handle : Handle) (sizes : Sizes) (gone : Gone) (taken : List Taken) (stage : Stage) → StandsSo stack handle sizes gone taken stage → IsNextIn stack handle sizes gone taken (ready_of stage)
next_so stack handle sizes gone taken (Waits due) h = tt
next_so stack handle sizes gone taken (IsReady ready) h = h

-- the slots with one of them filled anew
module _ (first old : BusyView) (a : Account) (was : Gone) (s : SinceBy first a was old) (at : ℕ) where
  pub placed_so : (slot : Option Due) (ready : Option Ready) (taken : List Taken) (told : List Told) (due : List ℕ) (read : ℕ) → read ≡ length taken → ToldInTurn first.engine.stack first.handle first.sizes taken nothing_gone told was
      → All (IsSlotIn first.engine.stack first.handle first.sizes was taken) old.slots → IsSlotIn first.engine.stack first.handle first.sizes was taken slot → IsNextIn first.engine.stack first.handle first.sizes was taken ready
      → IsPermutation (ready_place ready ++ due_places (slice_set old.slots at slot)) due → (left : Option (List ℕ))
      → SinceBy first (record { taken = taken; told = told; due = due }) was (record old { slots = slice_set old.slots at slot; ready = ready; read = read; left = left })
  placed_so slot ready taken told due read counted told_so slots there next is_due left = record {
    went = s.went;
    deals = s.deals;
    full = s.full;
    spoiled = s.spoiled;
    waiting = s.waiting;
    same_handle = s.same_handle;
    same_sizes = s.same_sizes;
    counted = counted;
    told = told_so;
    next = next;
    slots = slots_set (IsSlotIn first.engine.stack first.handle first.sizes was taken) old.slots at slot there slots;
    due = is_due;
  }

-- its places are those of before, with the place of where the request stands in place of its own
stage_places : (slots : List (Option Due)) (at : ℕ) (old : Option Due) (stage : Stage) → slice_get slots at ≡ Some old
    → IsPermutation (place_in old ++ (ready_place (ready_of stage) ++ due_places (slice_set slots at (slot_of stage)))) (stage_place stage ++ due_places slots)
stage_places slots at old (Waits due) there = places_changed slots at old (Some due) there
stage_places slots at old (IsReady ready) there =
    IsPermutation-trans _ _ _ (front_exchanged (place_in old) (ready.place ∷ []) (due_places (slice_set slots at None)))
    (IsPermutation-append_right (ready.place ∷ []) (place_in old ++ due_places (slice_set slots at None)) (due_places slots) (places_changed slots at old None there))

module _ (first old : BusyView) (a : Account) (was : Gone) (s : SinceBy first a was old) (calm : old.ready ≡ None) (at : ℕ) (due : Due) (there : slice_get old.slots at ≡ Some (Some due)) (answer : Answer) (new_in : IsNewIn was answer) (number : due.number ≡ answer.number) where
  abbrev it : IsWaiting first.engine.stack first.handle first.sizes was a.taken due
  it = slot_there (IsSlotIn first.engine.stack first.handle first.sizes was a.taken) old.slots at (Some due) there s.slots

  answered : HasAnswer IsNewIn first.engine.stack was it.event answer
  answered = answers_called first.engine.stack first.handle was it.event due.number answer it.called new_in number

  -- the requests in the slots are all that are due
  all_due : IsPermutation (due_places old.slots) a.due
  all_due = subst (λ (r : Option Ready). IsPermutation (ready_place r ++ due_places old.slots) a.due) calm s.due

  -- it is told of
  tells_now : (spoiled : Bool) (reply : Reply) → (IsTrue spoiled → 0 < old.spoiled) → EndsAs due old.engine.full answer (outcome_of reply) ⊎ (IsTrue spoiled × (outcome_of reply ≡ failure Eio))
      → GoesFrom left_of SinceFirst first old a (IsAnswered due.place due.cookie reply) (record old { slots = slice_set old.slots at None })
  tells_now spoiled reply spoiled_by ends =
      let o : Outcome = outcome_of reply in
      let served : IsServedIn first.engine.stack first.handle first.sizes was it.one o =
      served_so first.engine.stack first.handle was first.sizes a.taken it.one due.command o it.command
      (ends_told first.engine.stack first.handle was it.one.payload o due it.event answer old.engine.full spoiled it.asks answered s.full (λ h. s.spoiled (spoiled_by h)) ends) in
      let tells : Told = record { place = due.place; cookie = due.cookie; outcome = o } in
      let rest : List ℕ = due_places (slice_set old.slots at None) in
      let perm : IsPermutation (due.place ∷ rest) (due_places old.slots) = places_changed old.slots at (Some due) None there in
      record {
        next = record { taken = a.taken; told = a.told ++ (tells ∷ []); due = rest };
        happens = record {
          of_one = record { one = it.one; at_place = it.at_place; named = it.named };
          more = refl;
          same = refl;
          due = IsPermutation-sym _ _ (IsPermutation-trans _ _ _ perm all_due);
          unread = refl;
        };
        since = (
          was,
          subst (λ (r : Option Ready). SinceBy first (record { taken = a.taken; told = a.told ++ (tells ∷ []); due = rest }) was (record old { slots = slice_set old.slots at None; ready = r })) (sym calm)
              (placed_so first old a was s at None None a.taken (a.told ++ (tells ∷ [])) rest old.read s.counted
              (told_one first.engine.stack first.handle first.sizes a.taken nothing_gone was a.told tells s.told (record { one = it.one; at_place = it.at_place; served = served }))
              s.slots tt tt (IsPermutation-refl rest) old.left),
        );
      }

  tells_by : (happening : Happening) (new : BusyView) → AnswersBy old at due answer happening new → GoesFrom left_of SinceFirst first old a happening new
  tells_by happening new by =
      subst (λ (h : Happening). GoesFrom left_of SinceFirst first old a h new) (sym by.happens)
      (subst (λ (b : BusyView). GoesFrom left_of SinceFirst first old a (IsAnswered due.place due.cookie by.reply) b) (sym by.same)
      (elim by.ends [
        | inl ends ↦ tells_now false by.reply (λ h. absurd (cc (h))) (inl ends)
        | inr late ↦ tells_now true by.reply (λ h. (let l = late.0 in omega (arith, l))) (inr (refl, late.1))
      ]))

  -- its places when it stands so
  placed_anew : (stage : Stage) → stage_place stage ≡ due.place ∷ [] → IsPermutation (ready_place (ready_of stage) ++ due_places (slice_set old.slots at (slot_of stage))) a.due
  placed_anew stage is =
      let p : IsPermutation (due.place ∷ (ready_place (ready_of stage) ++ due_places (slice_set old.slots at (slot_of stage)))) (due.place ∷ due_places old.slots) =
      subst (λ (l : List ℕ). IsPermutation (due.place ∷ (ready_place (ready_of stage) ++ due_places (slice_set old.slots at (slot_of stage)))) (l ++ due_places old.slots)) is (stage_places old.slots at (Some due) stage there) in
      IsPermutation-trans _ _ _ (IsPermutation-uncons due.place _ _ p) all_due

  -- it goes on with the next zeros
  pub goes_on_since : answer.status ≡ Success → (new : BusyView) → GoesOnAt old at due new → SinceFirst first a new
  goes_on_since success new g = elim g.asks [
    | inl w ↦ on_with w
    | inr f ↦ on_failing f
  ]
    where
      on_failing : FailsWith Enomem old.engine due g.stage new.engine → SinceFirst first a new
      on_failing f =
          let stands : StandsSo first.engine.stack first.handle first.sizes was a.taken g.stage =
          ready_told first.engine.stack first.handle was first.sizes a.taken it.one due (IsError Enomem) g.stage it.at_place it.named (no_memory first.engine.stack first.handle first.sizes was it.one due.command it.command) f.stage_is in
          subst (λ (b : BusyView). SinceFirst first a b) (sym (g.same ∙ ap (λ (e : EngineView). filled (record old { engine = e }) at g.stage) f.same)) (
            was,
            placed_so first old a was s at (slot_of g.stage) (ready_of g.stage) a.taken a.told a.due old.read s.counted s.told s.slots
                (slot_so first.engine.stack first.handle first.sizes was a.taken g.stage stands) (next_so first.engine.stack first.handle first.sizes was a.taken g.stage stands)
                (placed_anew g.stage (place_ready due (IsError Enomem) g.stage f.stage_is)) old.left,
          )

      on_with : AsksWith (GoesOnBy old.handle due.command due.done) old.engine due g.stage new.engine → SinceFirst first a new
      on_with w =
          let r = reaches_on first.engine.stack old.engine.stack new.engine.stack was w.event w.reached s.went w.asks in
          let more : Gone = gone_by r.labels in
          let on : SinceBy first a (joined was more) (record old { engine = new.engine; spoiled = old.spoiled }) = asked_since first old a was s calm new.engine r.labels r.went r.no_return w.same in
          let asks : AsksNow first.engine.stack first.handle was due.command it.one.payload w.done w.event =
          next_zeros first.engine.stack first.handle was due it.one.payload w.done it.event w.event answer old.engine.full it.asks answered s.full success
          (subst (λ (h : Handle). GoesOnBy h due.command due.done w.done w.event) s.same_handle w.holds) in
          let stands : StandsSo first.engine.stack first.handle first.sizes (joined was more) a.taken g.stage =
          stage_reached first.engine.stack first.handle (joined was more) first.sizes a.taken it.one (record due { done = w.done }) w.event old.engine.full w.reached g.stage it.at_place it.named it.command
          (asks_stays was (joined was more) (grows was more) first.engine.stack first.handle due.command it.one.payload w.done w.event asks)
          (λ h. full_stays was (joined was more) (grows was more) (s.full h)) r.reaches w.stage_is in
          subst (λ (b : BusyView). SinceFirst first a b) (sym g.same) (
            joined was more,
            placed_so first (record old { engine = new.engine }) a (joined was more) on at (slot_of g.stage) (ready_of g.stage) a.taken a.told a.due old.read s.counted on.told on.slots
                (slot_so first.engine.stack first.handle first.sizes (joined was more) a.taken g.stage stands) (next_so first.engine.stack first.handle first.sizes (joined was more) a.taken g.stage stands)
                (placed_anew g.stage (place_reached (record due { done = w.done }) old.engine.full w.reached g.stage w.stage_is)) old.left,
          )

pub answers_by : (old : BusyView) (at : ℕ) (due : Due) (answer : Answer) (spoiled : Bool) (reply : Reply) → (IsTrue spoiled → due.place < old.spoiled) → EndsAs due old.engine.full answer (outcome_of reply) ⊎ (IsTrue spoiled × (outcome_of reply ≡ failure Eio))
    → AnswersBy old at due answer (IsAnswered due.place due.cookie reply) (record old { slots = slice_set old.slots at None })
answers_by old at due answer spoiled reply late ends = record {
  reply = reply;
  happens = refl;
  ends = elim ends [ inl e ↦ inl e | inr e ↦ inr (late e.0, e.1) ];
  same = refl;
}

pub hears_answer : (old : BusyView) (at : ℕ) (due : Due) (answer : Answer) (happening : Happening) (new : BusyView) → old.ready ≡ None → slice_get old.slots at ≡ Some (Some due) → due.number ≡ answer.number → AnswersBy old at due answer happening new
    → Hears old answer (Some happening) new
hears_answer old at due answer happening new calm there number by = λ first a gone s new_in. tells_by first old a gone s calm at due there answer new_in number happening new by

pub hears_more : (old : BusyView) (at : ℕ) (due : Due) (answer : Answer) (new : BusyView) → old.ready ≡ None → slice_get old.slots at ≡ Some (Some due) → due.number ≡ answer.number → answer.status ≡ Success → GoesOnAt old at due new → Hears old answer None new
hears_more old at due answer new calm there number success g = (
  ap (λ (b : BusyView). b.left) g.same,
  λ first a gone s new_in. goes_on_since first old a gone s calm at due there answer new_in number success new g,
)

pub hears_none : (old : BusyView) (answer : Answer) → Hears old answer None old
hears_none old answer = (refl, λ first a gone s new_in. (gone, s))

-- A REQUEST IS READ

place_last : {X : Type 0} (xs : List X) (x : X) → slice_get (xs ++ (x ∷ [])) (length xs) ≡ Some x
place_last [] x = refl
place_last (y ∷ xs) x = place_last xs x

-- the command for a request's bytes is that for the bytes that were read
own_bytes : (sizes : Sizes) (one : Taken) (handle : Handle) (command : Command) (payload : List ℕ) (done : ℕ) (event : Event) → IsTaken one → command_in sizes.block sizes.bytes one.request ≡ Ok command → (one.payload ≢ [] → payload ≡ one.payload)
    → BeginsBy handle command payload done event → BeginsBy handle command one.payload done event
own_bytes sizes one handle (Read offset count) payload done event taken is own b = b
own_bytes sizes one handle (Write offset count through) payload done event taken is own b =
    b ∙ ap (λ (bytes : List ℕ). WriteEvent handle offset bytes through) (own (λ none. writes_some sizes.block sizes.bytes one.request offset count through is (sym taken.long ∙ ap length none)))
own_bytes sizes one handle Flush payload done event taken is own b = b
own_bytes sizes one handle (WriteZeroes offset count through) payload done event taken is own b = b

module _ (first old : BusyView) (a : Account) (was : Gone) (s : SinceBy first a was old) (calm : old.ready ≡ None) (at : ℕ) (free : slice_get old.slots at ≡ Some None) (left : Option (List ℕ)) (incoming : Incoming) (i : IsIncoming old.sizes old.left left incoming) where
  abbrev taken : List Taken
  taken = a.taken ++ (i.one ∷ [])

  abbrev due_with : Stage → List ℕ
  due_with stage = ready_place (ready_of stage) ++ due_places (slice_set old.slots at (slot_of stage))

  abbrev account : Stage → Account
  account stage = record { taken = taken; told = a.told; due = due_with stage }

  abbrev behind_it : EngineView → Stage → BusyView
  behind_it engine stage = record old { engine = engine; slots = slice_set old.slots at (slot_of stage); ready = ready_of stage; read = old.read + 1; left = left }

  at_place : slice_get taken old.read ≡ Some i.one
  at_place = subst (λ (n : ℕ). slice_get taken n ≡ Some i.one) (sym s.counted) (place_last a.taken i.one)

  named : incoming.request.cookie ≡ i.one.request.cookie
  named = ap (λ (r : Request). r.cookie) i.named

  counted : old.read + 1 ≡ length taken
  counted = ap (λ (n : ℕ). n + 1) s.counted ∙ sym (length-append a.taken (i.one ∷ []))

  placed : (stage : Stage) → stage_place stage ≡ old.read ∷ [] → IsPermutation (length a.taken ∷ a.due) (due_with stage)
  placed stage is =
      let all : IsPermutation (due_places old.slots) a.due = subst (λ (r : Option Ready). IsPermutation (ready_place r ++ due_places old.slots) a.due) calm s.due in
      let q : IsPermutation (due_with stage) (length a.taken ∷ due_places old.slots) =
      subst (λ (l : List ℕ). IsPermutation (due_with stage) (l ++ due_places old.slots)) (is ∙ ap (λ (n : ℕ). n ∷ []) s.counted) (stage_places old.slots at None stage free) in
      IsPermutation-sym _ _ (IsPermutation-trans _ _ _ q (IsPermutation-cons (length a.taken) (due_places old.slots) a.due all))

  module _ (stage : Stage) (is_place : stage_place stage ≡ old.read ∷ []) where
    -- it was read, and stands so
    reads_one : ReadsOne old.left a left (account stage)
    reads_one = record { one = i.one; is_taken = i.is_taken; bytes = i.bytes; more = refl; same = refl; due = placed stage is_place }

    reads_so : (engine : EngineView) (gone : Gone) → SinceBy first a gone (record old { engine = engine }) → StandsSo first.engine.stack first.handle first.sizes gone taken stage
        → GoesFrom left_of SinceFirst first old a IsRead (behind_it engine stage)
    reads_so engine gone on stands = record {
      next = account stage;
      happens = reads_one;
      since = (
        gone,
        placed_so first (record old { engine = engine }) a gone on at (slot_of stage) (ready_of stage) taken a.told (due_with stage) (old.read + 1) counted
            (told_reads first.engine.stack first.handle first.sizes a.taken (i.one ∷ []) nothing_gone gone a.told on.told)
            (slots_read first.engine.stack first.handle first.sizes a.taken (i.one ∷ []) gone old.slots on.slots)
            (slot_so first.engine.stack first.handle first.sizes gone taken stage stands) (next_so first.engine.stack first.handle first.sizes gone taken stage stands) (IsPermutation-refl _) left,
      );
    }

  -- by its own error
  fails_read : (stage : Stage) (engine : EngineView) (due : Due) (error : ReplyError) → due.place ≡ old.read → due.cookie ≡ incoming.request.cookie → FailsWith error old.engine due stage engine
      → ((o : Outcome) → IsError error o → IsServedIn first.engine.stack first.handle first.sizes was i.one o) → GoesFrom left_of SinceFirst first old a IsRead (behind_it engine stage)
  fails_read stage engine due error is_place is_cookie f served =
      subst (λ (e : EngineView). GoesFrom left_of SinceFirst first old a IsRead (behind_it e stage)) (sym f.same)
      (reads_so stage (place_ready due (IsError error) stage f.stage_is ∙ ap (λ (n : ℕ). n ∷ []) is_place) old.engine was s
      (ready_told first.engine.stack first.handle was first.sizes taken i.one due (IsError error) stage (subst (λ (n : ℕ). slice_get taken n ≡ Some i.one) (sym is_place) at_place) (is_cookie ∙ named) served f.stage_is))

  -- the stack was asked for what its command says
  asks_read : (stage : Stage) (new : EngineView) (command : Command) → command_in first.sizes.block first.sizes.bytes i.one.request ≡ Ok command → AsksWith (BeginsBy old.handle command i.one.payload) old.engine (next_due old incoming command) stage new
      → GoesFrom left_of SinceFirst first old a IsRead (behind_it new stage)
  asks_read stage new command is w =
      let r = reaches_on first.engine.stack old.engine.stack new.stack was w.event w.reached s.went w.asks in
      let more : Gone = gone_by r.labels in
      let on : SinceBy first a (joined was more) (record old { engine = new; spoiled = old.spoiled }) = asked_since first old a was s calm new r.labels r.went r.no_return w.same in
      reads_so stage (place_reached (record (next_due old incoming command) { done = w.done }) old.engine.full w.reached stage w.stage_is) new (joined was more) on
      (stage_reached first.engine.stack first.handle (joined was more) first.sizes taken i.one (record (next_due old incoming command) { done = w.done }) w.event old.engine.full w.reached stage at_place named is
      (first_asks first.engine.stack first.handle (joined was more) command i.one.payload w.done w.event (subst (λ (h : Handle). BeginsBy h command i.one.payload w.done w.event) s.same_handle w.holds))
      (λ h. full_stays was (joined was more) (grows was more) (s.full h)) r.reaches w.stage_is)

  own_error : (error : ReplyError) → (command_in old.sizes.block old.sizes.bytes i.one.request ≡ Err error) ⊎ ((0 < length i.one.payload) × (error ≡ Enomem)) → (o : Outcome) → IsError error o → IsServedIn first.engine.stack first.handle first.sizes was i.one o
  own_error error (inl is) o e =
      inl (subst (λ (r : Result Command ReplyError). MatchResult r (λ c. EndsIn first.engine.stack first.handle was c i.one.payload o) (λ x. o ≡ failure x)) (sym (subst (λ (z : Sizes). command_in z.block z.bytes i.one.request ≡ Err error) s.same_sizes is)) e)
  own_error error (inr lacks) o e = inr (lacks.0, e ∙ ap failure lacks.1)

  -- as its bytes ask
  read_as : (new : BusyView) (stage : Stage) (asked : Result Command ReplyError) → IsAskedBy old.sizes i.one asked incoming.payload.items
      → MatchResult asked
      (λ command. AsksFor (BeginsBy old.handle command incoming.payload.items) old.engine (next_due old incoming command) stage new.engine)
      (λ error. FailsWith error old.engine (next_due old incoming Flush) stage new.engine)
      → GoesFrom left_of SinceFirst first old a IsRead (behind_it new.engine stage)
  read_as new stage (Ok command) asked (inl w) =
      asks_read stage new.engine command (subst (λ (z : Sizes). command_in z.block z.bytes i.one.request ≡ Ok command) s.same_sizes asked.0) (record {
        event = w.event;
        done = w.done;
        holds = own_bytes old.sizes i.one old.handle command incoming.payload.items w.done w.event i.is_taken asked.0 asked.1 w.holds;
        reached = w.reached;
        asks = w.asks;
        same = w.same;
        stage_is = w.stage_is;
      })
  read_as new stage (Ok command) asked (inr f) =
      fails_read stage new.engine (next_due old incoming command) Enomem refl refl f
      (no_memory first.engine.stack first.handle first.sizes was i.one command (subst (λ (z : Sizes). command_in z.block z.bytes i.one.request ≡ Ok command) s.same_sizes asked.0))
  read_as new stage (Err error) asked f = fails_read stage new.engine (next_due old incoming Flush) error refl refl f (own_error error asked)

-- a request was read, and is carried out
pub reads_steps : (old mid new : BusyView) (at : ℕ) (incoming : Incoming) → IsCalm old → IsFreePlace mid at → IsIncoming old.sizes old.left mid.left incoming → mid ≡ record old { left = mid.left } → Calls mid at incoming new → Steps old (Some IsRead) new
reads_steps old mid new at incoming calm place i same calls = λ first a s.
    let free : slice_get old.slots at ≡ Some None = subst (λ (b : BusyView). slice_get b.slots at ≡ Some None) same place.free in
    let c : Calls (record old { left = mid.left }) at incoming new = subst (λ (b : BusyView). Calls b at incoming new) same calls in
    subst (λ (b : BusyView). GoesFrom left_of SinceFirst first old a IsRead b) (sym c.same) (read_as first old a s.0 s.1 calm.none_ready at free mid.left incoming i new c.stage incoming.asked i.asked c.asks)

-- NOTHING IS READ OR TOLD

pub idle_steps : (b : BusyView) → Steps b (Some Idle) b
idle_steps b = λ first a s. record { next = a; happens = (refl, refl); since = s }

none_of : (xs : List ℕ) → IsPermutation [] xs → xs ≡ []
none_of [] p = refl
none_of (x ∷ xs) p = absurd (let e : suc (length xs) ≡ 0 = length_permutation [] (x ∷ xs) p in omega (arith, e))

pub ends_steps : (b : BusyView) (end : End) → b.ready ≡ None → TakesLast b.left end → due_places b.slots ≡ [] → Steps b (Some (Ended end)) b
ends_steps b end calm last none = λ first a s. record {
  next = a;
  happens = record { last = last.last; begins = last.asked; is_last = last.is_last; none_due = none_of a.due (subst (λ (l : List ℕ). IsPermutation l a.due) (ap (λ (r : Option Ready). ready_place r ++ due_places b.slots) calm ∙ none) s.1.due); same = refl };
  since = s;
}

-- an answer that was known is told
tells_next : (first b : BusyView) (a : Account) (was : Gone) (ready : Ready) → b.ready ≡ Some ready → SinceBy first a was b → GoesFrom left_of SinceFirst first b a (IsAnswered ready.place ready.cookie ready.answer) (record b { ready = None })
tells_next first b a was ready is s =
    let it : IsReadyIn first.engine.stack first.handle first.sizes was a.taken ready = subst (λ (r : Option Ready). IsNextIn first.engine.stack first.handle first.sizes was a.taken r) is s.next in
    let tells : Told = record { place = ready.place; cookie = ready.cookie; outcome = outcome_of ready.answer } in
    let rest : List ℕ = due_places b.slots in
    record {
      next = record { taken = a.taken; told = a.told ++ (tells ∷ []); due = rest };
      happens = record {
        of_one = record { one = it.one; at_place = it.at_place; named = it.named };
        more = refl;
        same = refl;
        due = IsPermutation-sym _ _ (subst (λ (r : Option Ready). IsPermutation (ready_place r ++ rest) a.due) is s.due);
        unread = refl;
      };
      since = (
        was,
        record {
          went = s.went;
          deals = s.deals;
          full = s.full;
          spoiled = s.spoiled;
          waiting = s.waiting;
          same_handle = s.same_handle;
          same_sizes = s.same_sizes;
          counted = s.counted;
          told = told_one first.engine.stack first.handle first.sizes a.taken nothing_gone was a.told tells s.told (record { one = it.one; at_place = it.at_place; served = it.served });
          next = tt;
          slots = s.slots;
          due = IsPermutation-refl rest;
        },
      );
    }

pub tells_steps : (b : BusyView) (ready : Ready) → b.ready ≡ Some ready → Steps b (Some (IsAnswered ready.place ready.cookie ready.answer)) (record b { ready = None })
tells_steps b ready is = λ first a s. tells_next first b a s.0 ready is s.1
