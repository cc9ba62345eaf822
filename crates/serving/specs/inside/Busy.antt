-- One step of a desk whose requests are served side by side.
use Rattle.std.specs.Prelude.{◌≡◌, ◌<◌, ◌⊎◌, ℕ, ◌+◌, ◌^◌, List, [], slice_get, slice_set, Option, Some, None, Result, MatchResult}
use Rattle.io_manager.specs.declared.Answer.{Answer}
use Rattle.compose.specs.declared.Event.{Event}
use Rattle.nbd.specs.declared.requests.Command.{Command}
use Rattle.nbd.specs.declared.requests.Command.TheVariants.{Flush}
use Rattle.nbd.specs.declared.requests.ReplyError.{ReplyError}
use Rattle.nbd.specs.declared.requests.ReplyError.TheVariants.{Eio, Enomem}
use Rattle.nbd.specs.declared.incoming.Incoming.{Incoming}
use Rattle.nbd.specs.declared.beside.Happening.{Happening}
use Rattle.nbd.specs.declared.beside.Happening.TheVariants.{Answered}
use Rattle.nbd.specs.declared.replies.Answer.{Answer as Reply}
use Rattle.nbd.specs.Replies.{Outcome, failure, outcome_of}
use Rattle.nbd.specs.Beside.{Account}
use Rattle.nbd.specs.Desks.{GoesFrom, GoesOn, Keeps}
use Rattle.serving.specs.Beside.{Gone, IsNewIn}
use Rattle.serving.specs.Elsewhere.{AsksBeside}
use Rattle.serving.specs.declared.dues.Due.{Due}
use Rattle.serving.specs.declared.dues.Stage.{Stage}
use Rattle.serving.specs.declared.elsewhere.Reached.{Reached}
use Rattle.serving.specs.inside.Dues.{BeginsBy, EndsAs, GoesOnBy, IsStageOf, ReadySo, ready_of, slot_of}
use Rattle.serving.specs.inside.Engines.{EngineView}
use Rattle.serving.specs.inside.Since.{BusyView, SinceBy, SinceFirst}

abbrev pub left_of : BusyView → Option (List ℕ)
left_of b = b.left

-- nothing is told next, and no answer of the stack waits
pub record IsCalm (b : BusyView) : Type 0 where
  pub none_ready : b.ready ≡ None
  pub none_waits : b.engine.stack.answers ≡ []

-- nothing was read or told, or this happened
abbrev pub Steps : BusyView → Option Happening → BusyView → Type 0
Steps old None new = (new.left ≡ old.left) × Keeps SinceFirst old new
Steps old (Some happening) new = GoesOn left_of SinceFirst old happening new

-- so it is, if this answer of the stack's was just told
abbrev pub Hears : BusyView → Answer → Option Happening → BusyView → Type 0
Hears old answer None new =
    (new.left ≡ old.left) × ((first : BusyView) (a : Account) (gone : Gone) → SinceBy first a gone old → IsNewIn gone answer → SinceFirst first a new)
Hears old answer (Some happening) new =
    (first : BusyView) (a : Account) (gone : Gone) → SinceBy first a gone old → IsNewIn gone answer → GoesFrom left_of SinceFirst first old a happening new

-- a request was answered by the stack's answer, and its slot is free
pub record AnswersBy (old : BusyView) (at : ℕ) (due : Due) (answer : Answer) (happening : Happening) (new : BusyView) : Type 0 where
  pub reply : Reply
  pub happens : happening ≡ Answered due.place due.cookie reply
  pub ends : EndsAs due old.engine.full answer (outcome_of reply) ⊎ ((due.place < old.spoiled) × (outcome_of reply ≡ failure Eio))
  pub same : new ≡ record old { slots = slice_set old.slots at None }

abbrev pub IsError : ReplyError → Outcome → Type 0
IsError error o = o ≡ failure error

-- the stack was asked for an event of which this holds, and so the request stands behind that
pub record AsksWith (P : ℕ → Event → Type 0) (old : EngineView) (due : Due) (stage : Stage) (new : EngineView) : Type 0 where
  pub event : Event
  pub done : ℕ
  pub holds : P done event
  pub reached : Reached
  pub asks : AsksBeside old.stack event reached new.stack
  pub same : new ≡ record old { stack = new.stack }
  pub stage_is : IsStageOf (record due { done = done }) old.full reached stage

-- the request ends by an error, and the stack wasn't asked
pub record FailsWith (error : ReplyError) (old : EngineView) (due : Due) (stage : Stage) (new : EngineView) : Type 0 where
  pub same : new ≡ old
  pub stage_is : ReadySo due (IsError error) stage

abbrev pub AsksFor : (ℕ → Event → Type 0) → EngineView → Due → Stage → EngineView → Type 0
AsksFor P old due stage new = AsksWith P old due stage new ⊎ FailsWith Enomem old due stage new

-- the request stands so in this slot
abbrev pub filled : BusyView → ℕ → Stage → BusyView
filled b at stage = record b { slots = slice_set b.slots at (slot_of stage); ready = ready_of stage }

-- the stack was asked to write the next zeros of a request
pub record Proceeds (old : BusyView) (due : Due) (stage : Stage) (new : BusyView) : Type 0 where
  pub same : new ≡ record old { engine = new.engine }
  pub asks : AsksFor (GoesOnBy old.handle due.command due.done) old.engine due stage new.engine

pub record GoesOnAt (old : BusyView) (at : ℕ) (due : Due) (new : BusyView) : Type 0 where
  pub stage : Stage
  pub same : new ≡ filled (record old { engine = new.engine }) at stage
  pub asks : AsksFor (GoesOnBy old.handle due.command due.done) old.engine due stage new.engine

pub record Begins (old : BusyView) (due : Due) (payload : List ℕ) (stage : Stage) (new : BusyView) : Type 0 where
  pub same : new ≡ record old { engine = new.engine }
  pub asks : AsksFor (BeginsBy old.handle due.command payload) old.engine due stage new.engine

-- as a request asks, or not where it asks for nothing
abbrev pub AsksAs : BusyView → Due → Result Command ReplyError → List ℕ → Stage → EngineView → Type 0
AsksAs old due asked payload stage new = MatchResult asked
    (λ command. AsksFor (BeginsBy old.handle command payload) old.engine (record due { command = command }) stage new)
    (λ error. FailsWith error old.engine due stage new)

pub record BeginsAs (old : BusyView) (due : Due) (asked : Result Command ReplyError) (payload : List ℕ) (stage : Stage) (new : BusyView) : Type 0 where
  pub same : new ≡ record old { engine = new.engine }
  pub asks : AsksAs old due asked payload stage new.engine

-- a request of the next place
abbrev pub next_due : BusyView → Incoming → Command → Due
next_due b incoming command = record { place = b.read; cookie = incoming.request.cookie; command = command; done = 0; number = 0 }

pub record Calls (old : BusyView) (at : ℕ) (incoming : Incoming) (new : BusyView) : Type 0 where
  pub stage : Stage
  pub same : new ≡ filled (record old { engine = new.engine; read = old.read + 1 }) at stage
  pub asks : MatchResult incoming.asked
      (λ command. AsksFor (BeginsBy old.handle command incoming.payload.items) old.engine (next_due old incoming command) stage new.engine)
      (λ error. FailsWith error old.engine (next_due old incoming Flush) stage new.engine)

-- one more request may be read, into this slot
pub record IsFreePlace (b : BusyView) (at : ℕ) : Type 0 where
  pub free : slice_get b.slots at ≡ Some None
  pub few : b.read + 1 < 2 ^ 64
