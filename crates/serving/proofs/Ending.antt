-- How a request ends by what the stack says to it.
use Rattle.serving.proofs.Common.{◌≡◌, ◌≢◌, ◌⊎◌, inl, inr, ℕ, ◌+◌, ◌==◌, Bool, true, false, List, [], ◌∷◌, replicate, Some, None, Result, Ok, Err, refl, sym, ap, subst, ◌∙◌, arith, Contains, MatchResult, nat_tests, slice_get, if◌then◌else◌, Success, Answer, Handle, Refusal, ManagerView, Event, Sizes, Command, WriteZeroes, ReplyError}
use Rattle.std.specs.Prelude.{IsTrue}
use Rattle.machine.specs.declared.Label.TheVariants.{Call}
use Rattle.compose.specs.declared.Event.TheVariants.{Write as WriteEvent}
use Rattle.nbd.specs.declared.requests.Command.TheVariants.{Read, Write, Flush}
use Rattle.nbd.specs.declared.requests.ReplyError.TheVariants.{Eio, Enomem}
use Rattle.nbd.specs.Requests.{command_in}
use Rattle.nbd.specs.Replies.{Outcome, failure, outcome_of, success}
use Rattle.nbd.specs.Beside.{Taken}
use Rattle.io_manager.specs.Right.{as_answer}
use Rattle.serving.specs.Beside.{ClearsIn, EndsIn, FoundFull, Gone, HasAnswer, HasFailed, HasRefusal, HasResult, IsAskedIn, IsCalled, IsNewIn, IsServedIn, IsToldIn}
use Rattle.serving.specs.Filed.{refusal_error, status_error, total}
use Rattle.serving.specs.declared.dues.Due.{Due}
use Rattle.serving.specs.declared.dues.Stage.{Stage}
use Rattle.serving.specs.declared.dues.Stage.TheVariants.{Waits, Ready as IsReady}
use Rattle.serving.specs.declared.elsewhere.Reached.{Reached}
use Rattle.serving.specs.declared.elsewhere.Reached.TheVariants.{Called, Answered, Refused}
use Rattle.serving.specs.inside.Dues.{AsksNow, BeginsBy, EndsAs, GoesOnBy, IsReadyIn, IsRefusedAs, IsStageOf, IsWaiting, ReadySo, command_success}
use Rattle.serving.proofs.Newest.{newest_there}

-- what became of an event
abbrev pub ReachesIn : ManagerView → Gone → Event → Reached → Type 0
ReachesIn stack gone event (Called number) = IsCalled stack gone event number
ReachesIn stack gone event (Answered answer) = HasAnswer IsNewIn stack gone event answer
ReachesIn stack gone event (Refused reason) = HasRefusal stack gone event reason

-- a request waits, or its answer is told next
abbrev pub StandsSo : ManagerView → Handle → Sizes → Gone → List Taken → Stage → Type 0
StandsSo stack handle sizes gone taken (Waits due) = IsWaiting stack handle sizes gone taken due
StandsSo stack handle sizes gone taken (IsReady ready) = IsReadyIn stack handle sizes gone taken ready

abbrev pub stage_place : Stage → List ℕ
stage_place (Waits due) = due.place ∷ []
stage_place (IsReady ready) = ready.place ∷ []

eq_true : (a b : ℕ) → (a == b) ≡ true → a ≡ b
eq_true a b h = grind (arith, nat_tests)

module _ (stack : ManagerView) (handle : Handle) (gone : Gone) where
  -- THE STACK ANSWERS

  asked_well : (event : Event) (answer : Answer) (full : Bool) → HasAnswer IsNewIn stack gone event answer → (IsTrue full → FoundFull gone) → answer.status ≡ Success → IsAskedIn IsNewIn stack gone event (Ok answer.bytes)
  asked_well event answer full has full_by is = record { result = Ok answer; has = has; full = full; full_by = full_by; comes_to = (is, refl) }

  asked_badly : (event : Event) (answer : Answer) (full : Bool) → HasAnswer IsNewIn stack gone event answer → (IsTrue full → FoundFull gone) → answer.status ≢ Success → IsAskedIn IsNewIn stack gone event (Err (status_error full answer.status))
  asked_badly event answer full has full_by is = record { result = Ok answer; has = has; full = full; full_by = full_by; comes_to = (is, refl) }

  asked_not : (event : Event) (reason : Refusal) → HasRefusal stack gone event reason → IsAskedIn IsNewIn stack gone event (Err (refusal_error reason))
  asked_not event reason has = record { result = Err reason; has = has; full = false; full_by = λ h. absurd (cc (h)); comes_to = refl }

  module _ (payload : List ℕ) (o : Outcome) where
    zeros_by : (offset count done : ℕ) (through : Bool) (counts : List ℕ) (next : ℕ) (bytes : List ℕ) (b : Bool) → (b ≡ true → done ≡ count) → ClearsIn stack handle gone offset counts through → done ≡ total counts + next
        → IsAskedIn IsNewIn stack gone (WriteEvent handle (offset + total counts) (replicate next 0) through) (Ok bytes) → o ≡ (if b then success [] else failure Enomem)
        → EndsIn stack handle gone (WriteZeroes offset count through) payload o
    zeros_by offset count done through counts next bytes true all cleared is asked e = inl (inl (record { counts = counts; cleared = cleared; next = next; ends = (bytes, asked); all = sym is ∙ all refl }, e))
    zeros_by offset count done through counts next bytes false all cleared is asked e = inr (inl e)

    -- a command whose event's answer was a success
    ends_well : (command : Command) (done : ℕ) (event : Event) (bytes : List ℕ) → AsksNow stack handle gone command payload done event → IsAskedIn IsNewIn stack gone event (Ok bytes) → o ≡ command_success command done bytes → EndsIn stack handle gone command payload o
    ends_well (Read offset count) done event bytes a asked e = inl (Ok bytes, a.0, a.1, subst (λ (v : Event). IsAskedIn IsNewIn stack gone v (Ok bytes)) a.2 asked, e)
    ends_well (Write offset count through) done event bytes a asked e = inl (None, (bytes, subst (λ (v : Event). IsAskedIn IsNewIn stack gone v (Ok bytes)) a asked), e)
    ends_well Flush done event bytes a asked e = inl (None, (bytes, subst (λ (v : Event). IsAskedIn IsNewIn stack gone v (Ok bytes)) a asked), e)
    ends_well (WriteZeroes offset count through) done event bytes a asked e =
        zeros_by offset count done through a.0 a.1 bytes (done == count) (λ h. eq_true done count h) a.2 a.3 (subst (λ (v : Event). IsAskedIn IsNewIn stack gone v (Ok bytes)) a.5 asked) e

    -- a command whose event failed
    ends_badly : (command : Command) (done : ℕ) (event : Event) (error : ReplyError) → AsksNow stack handle gone command payload done event → IsAskedIn IsNewIn stack gone event (Err error) → o ≡ failure error → EndsIn stack handle gone command payload o
    ends_badly (Read offset count) done event error a asked e = inl (Err error, a.0, a.1, subst (λ (v : Event). IsAskedIn IsNewIn stack gone v (Err error)) a.2 asked, e)
    ends_badly (Write offset count through) done event error a asked e = inl (Some error, subst (λ (v : Event). IsAskedIn IsNewIn stack gone v (Err error)) a asked, e)
    ends_badly Flush done event error a asked e = inl (Some error, subst (λ (v : Event). IsAskedIn IsNewIn stack gone v (Err error)) a asked, e)
    ends_badly (WriteZeroes offset count through) done event error a asked e =
        inl (inr (error, record { counts = a.0; cleared = a.2; next = a.1; stops = subst (λ (v : Event). IsAskedIn IsNewIn stack gone v (Err error)) a.5 asked }, e))

    ends_as : (due : Due) (event : Event) (answer : Answer) (full : Bool) → AsksNow stack handle gone due.command payload due.done event → HasAnswer IsNewIn stack gone event answer → (IsTrue full → FoundFull gone) → EndsAs due full answer o
        → EndsIn stack handle gone due.command payload o
    ends_as due event answer full a has full_by (inl h) = ends_well due.command due.done event answer.bytes a (asked_well event answer full has full_by h.0) h.1
    ends_as due event answer full a has full_by (inr h) = ends_badly due.command due.done event (status_error full answer.status) a (asked_badly event answer full has full_by h.0) h.1

    pub ends_told : (due : Due) (event : Event) (answer : Answer) (full spoiled : Bool) → AsksNow stack handle gone due.command payload due.done event → HasAnswer IsNewIn stack gone event answer → (IsTrue full → FoundFull gone)
        → (IsTrue spoiled → HasFailed gone) → EndsAs due full answer o ⊎ (IsTrue spoiled × (o ≡ failure Eio)) → EndsIn stack handle gone due.command payload o
    ends_told due event answer full spoiled a has full_by fails (inl h) = ends_as due event answer full a has full_by h
    ends_told due event answer full spoiled a has full_by fails (inr h) = inr (inr (fails h.0, h.1))

    ends_refused : (due : Due) (event : Event) (reason : Refusal) → AsksNow stack handle gone due.command payload due.done event → HasRefusal stack gone event reason → IsRefusedAs reason o → EndsIn stack handle gone due.command payload o
    ends_refused due event reason a has e = ends_badly due.command due.done event (refusal_error reason) a (asked_not event reason has) e

  -- the answer came to the request of this number
  pub answers_called : (event : Event) (number : ℕ) (answer : Answer) → IsCalled stack gone event number → IsNewIn gone answer → number ≡ answer.number → HasAnswer IsNewIn stack gone event answer
  answers_called event number answer c told same = record {
    request = c.request;
    asks = c.asks;
    called = inl (subst (λ (n : ℕ). Contains gone.labels (Call n c.request)) same c.called);
    answered = told;
  }

  -- what was just told was told
  answer_earlier : (event : Event) (answer : Answer) → HasAnswer IsNewIn stack gone event answer → HasAnswer IsToldIn stack gone event answer
  answer_earlier event answer h = record { request = h.request; asks = h.asks; called = h.called; answered = newest_there gone.labels (as_answer answer) h.answered }

  result_earlier : (event : Event) (result : Result Answer Refusal) → HasResult IsNewIn stack gone event result → HasResult IsToldIn stack gone event result
  result_earlier event (Ok answer) h = answer_earlier event answer h
  result_earlier event (Err reason) h = h

  asked_earlier : (event : Event) (done : Result (List ℕ) ReplyError) → IsAskedIn IsNewIn stack gone event done → IsAskedIn IsToldIn stack gone event done
  asked_earlier event done a = record { result = a.result; has = result_earlier event a.result a.has; full = a.full; full_by = a.full_by; comes_to = a.comes_to }

  -- behind a success the next zeros may be asked for
  pub zeros_on : (command : Command) (payload : List ℕ) (before done : ℕ) (event next : Event) (bytes : List ℕ) → AsksNow stack handle gone command payload before event → IsAskedIn IsNewIn stack gone event (Ok bytes) → GoesOnBy handle command before done next
      → AsksNow stack handle gone command payload done next
  zeros_on (Read offset count) payload before done event next bytes a asked g = absurd g
  zeros_on (Write offset count through) payload before done event next bytes a asked g = absurd g
  zeros_on Flush payload before done event next bytes a asked g = absurd g
  zeros_on (WriteZeroes offset count through) payload before done event next bytes a asked g = (
    a.1 ∷ a.0,
    g.0,
    (a.2, (bytes, asked_earlier _ (Ok bytes) (subst (λ (v : Event). IsAskedIn IsNewIn stack gone v (Ok bytes)) a.5 asked))),
    g.1 ∙ ap (λ (n : ℕ). n + g.0) a.3,
    g.2,
    g.3 ∙ ap (λ (n : ℕ). WriteEvent handle (offset + n) (replicate g.0 0) through) a.3,
  )

  pub next_zeros : (due : Due) (payload : List ℕ) (done : ℕ) (event next : Event) (answer : Answer) (full : Bool) → AsksNow stack handle gone due.command payload due.done event → HasAnswer IsNewIn stack gone event answer → (IsTrue full → FoundFull gone)
      → answer.status ≡ Success → GoesOnBy handle due.command due.done done next → AsksNow stack handle gone due.command payload done next
  next_zeros due payload done event next answer full a has full_by is g = zeros_on due.command payload due.done done event next answer.bytes a (asked_well event answer full has full_by is) g

  pub first_asks : (command : Command) (payload : List ℕ) (done : ℕ) (event : Event) → BeginsBy handle command payload done event → AsksNow stack handle gone command payload done event
  first_asks (Read offset count) payload done event b = b
  first_asks (Write offset count through) payload done event b = b
  first_asks Flush payload done event b = b
  first_asks (WriteZeroes offset count through) payload done event b =
      ([], done, tt, (let e : done ≡ 0 + done = omega arith in e), b.0, b.1 ∙ (let e : offset ≡ offset + 0 = omega arith in ap (λ (n : ℕ). WriteEvent handle n (replicate done 0) through) e))

  module _ (sizes : Sizes) (taken : List Taken) (one : Taken) where
    -- the outcome of a request's command is one of the request
    pub served_so : (command : Command) (o : Outcome) → command_in sizes.block sizes.bytes one.request ≡ Ok command → EndsIn stack handle gone command one.payload o → IsServedIn stack handle sizes gone one o
    served_so command o is e =
        inl (subst (λ (r : Result Command ReplyError). MatchResult r (λ c. EndsIn stack handle gone c one.payload o) (λ x. o ≡ failure x)) (sym is) e)

    pub ready_told : (due : Due) (P : Outcome → Type 0) (stage : Stage) → slice_get taken due.place ≡ Some one → due.cookie ≡ one.request.cookie → ((o : Outcome) → P o → IsServedIn stack handle sizes gone one o) → ReadySo due P stage
        → StandsSo stack handle sizes gone taken stage
    ready_told due P (Waits other) at named served t = absurd t
    ready_told due P (IsReady ready) at named served t = record {
      one = one;
      at_place = subst (λ (n : ℕ). slice_get taken n ≡ Some one) (sym t.0) at;
      named = t.1 ∙ named;
      served = served (outcome_of ready.answer) t.2;
    }

    -- where a request stands behind what became of its event
    pub stage_reached : (due : Due) (event : Event) (full : Bool) (reached : Reached) (stage : Stage) → slice_get taken due.place ≡ Some one → due.cookie ≡ one.request.cookie → command_in sizes.block sizes.bytes one.request ≡ Ok due.command
        → AsksNow stack handle gone due.command one.payload due.done event → (IsTrue full → FoundFull gone) → ReachesIn stack gone event reached → IsStageOf due full reached stage → StandsSo stack handle sizes gone taken stage
    stage_reached due event full (Called number) stage at named is a full_by c s =
        subst (λ (x : Stage). StandsSo stack handle sizes gone taken x) (sym s) (record { one = one; at_place = at; named = named; command = is; event = event; asks = a; called = c })
    stage_reached due event full (Answered answer) stage at named is a full_by h s =
        ready_told due (EndsAs due full answer) stage at named (λ o e. served_so due.command o is (ends_as one.payload o due event answer full a h full_by e)) s
    stage_reached due event full (Refused reason) stage at named is a full_by h s =
        ready_told due (IsRefusedAs reason) stage at named (λ o e. served_so due.command o is (ends_refused one.payload o due event reason a h e)) s

-- the place of a request, where it stands
pub place_ready : (due : Due) (P : Outcome → Type 0) (stage : Stage) → ReadySo due P stage → stage_place stage ≡ due.place ∷ []
place_ready due P (Waits other) t = absurd t
place_ready due P (IsReady ready) t = ap (λ (n : ℕ). n ∷ []) t.0

pub place_reached : (due : Due) (full : Bool) (reached : Reached) (stage : Stage) → IsStageOf due full reached stage → stage_place stage ≡ due.place ∷ []
place_reached due full (Called number) stage s = ap stage_place s
place_reached due full (Answered answer) stage s = place_ready due (EndsAs due full answer) stage s
place_reached due full (Refused reason) stage s = place_ready due (IsRefusedAs reason) stage s
