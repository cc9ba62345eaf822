-- A shared event is the next of all sectors.
use Rattle.std.proofs.Common.{◌≡◌, ◌≢◌, ◌≤◌, inl, inr, ℕ, zero, suc, ◌+◌, List, ◌∷◌, Option, sym, ◌∙◌, ap, subst, arith, length}
use Rattle.std.specs.Prelude.{Contains}
use Rattle.std.proofs.lemmas.List.Elements.{All-cons, All-tail, All-weaker}
use Rattle.ntstatus.specs.declared.NtStatus.{NtStatus}
use Rattle.machine.specs.declared.ClientRequest.{ClientRequest}
use Rattle.machine.specs.declared.Label.TheVariants.{Call}
use Rattle.machine.specs.Rules.{Rules}
use Rattle.machine.specs.State.{Mark, Untouched, Out, Done, Failed, Back, OpenRequest, Piece}
use Rattle.machine.specs.Cutting.{mark_at}
use Rattle.history_laws.specs.declared.Asked.{Asked}
use Rattle.loss.specs.Held.{Held}
use Rattle.loss.specs.Moved.{Table}
use Rattle.loss.specs.Sessions.{Line, Told}
use Rattle.history_loss.specs.Schedules.{Event, Seen, Effect, IsNoEffect, IsNoFailure, MayFollow, Takes, next_number, shared_of, so_far}
use Rattle.history_loss.proofs.Mirroring.{IsBelow, below_more}
use Rattle.history_loss.proofs.Holding.{AllOlder}
use Rattle.history_loss.proofs.Widening.{dated_then}
use Rattle.history_loss_runs.proofs.Having.{Has}
use Rattle.history_loss_runs.proofs.Steps.{Goes, moment, standing, storing}
use Rattle.history_loss_runs.proofs.Tracking.{Cells, IsAtPlace, IsOnCourse, IsOutFlush, IsTracked, Ready, Suits}
use Rattle.history_loss_runs.proofs.Catching.{IsCaughtUp, first_shared, tail}

-- the lines are those of sessions to a moment where the history goes on
pub record Passes (rules : Rules) (depth : ℕ) (asked : List (Option Asked)) (sp ss : List Event) (seen : List Line) (arrays : List (List (List ℕ))) (next piece : ℕ) (requests : List OpenRequest) (outs : List Piece) (table : Table) : Type 0 where
  pub cells' : Cells
  pub next' : ℕ
  pub piece' : ℕ
  pub requests' : List OpenRequest
  pub outs' : List Piece
  pub table' : Table
  pub goes : Goes (storing rules depth) (moment (standing arrays next piece requests outs) table) seen (moment (standing arrays next' piece' requests' outs') table')
  pub ready : Ready rules asked cells' sp ss arrays next' piece' requests' outs' table'
  pub space : length outs' ≤ length outs + length seen

abbrev pub seen_cells : Event → (ℕ → Held) → Cells → Cells
seen_cells e helds cells i = record { past = e ∷ (cells i).past; held = helds i; rest = tail (cells i).rest }

-- no effect, and no end of a session
pub record IsShared (e : Event) : Type 0 where
  pub plain : (past : List Event) → so_far e past ≡ e ∷ past
  pub shares : (past : List Event) → shared_of (e ∷ past) ≡ e ∷ shared_of past
  pub no_effect : (n : ℕ) (sector : List ℕ) → e ≢ Effect n sector

not_first : (e x : Event) (past : List Event) → e ≢ x → Contains (e ∷ past) x → Contains past x
not_first e x past other (zero, low, is) = absurd (other is)
not_first e x past other (suc k, low, is) = (k, omega arith, is)

pub behind_first : (e x : Event) (past : List Event) → e ≢ x → Contains (e ∷ past) x → Contains past x
behind_first e x past other c = not_first e x past other c

module _ (rules : Rules) (asked : List (Option Asked)) (cells : Cells) (sp ss : List Event) (arrays : List (List (List ℕ))) (next piece : ℕ) (requests : List OpenRequest) (outs : List Piece) (table : Table)
    (e : Event) (ready : Ready rules asked cells sp (e ∷ ss) arrays next piece requests outs table) (caught : (i : ℕ) → IsCaughtUp (cells i).rest) (shared : IsShared e) where
  front : (i : ℕ) → ((cells i).rest ≡ e ∷ tail (cells i).rest) × (shared_of (tail (cells i).rest) ≡ ss)
  front i = first_shared e ss (cells i).rest (caught i) (ready.courses i).rest_shared

  follow : (i : ℕ) → MayFollow rules i (cells i).past (cells i).held (e ∷ tail (cells i).rest)
  follow i = subst (MayFollow rules i (cells i).past (cells i).held) (front i).0 (ready.courses i).follows

  pub helds : ℕ → Held
  helds i = (follow i).0

  pub takes : (i : ℕ) → Takes rules i (cells i).past (cells i).held e (helds i)
  unfolding helds
  takes i = (follow i).1

  rest_follows : (i : ℕ) → MayFollow rules i (so_far e (cells i).past) (helds i) (tail (cells i).rest)
  unfolding helds
  rest_follows i = (follow i).2

  pub seen_courses : (next' : ℕ) (outs' : List Piece) (table' : Table) → next ≤ next' → IsBelow next' e → ((past : List Event) → next_number past ≡ next → next_number (e ∷ past) ≡ next')
      → ((i : ℕ) → Has outs' (table' i) (helds i)) → (i : ℕ) → IsOnCourse rules next' outs' (e ∷ sp) ss (table' i) i (seen_cells e helds cells i)
  seen_courses next' outs' table' more below number has i =
      let c : IsOnCourse rules next outs sp (e ∷ ss) (table i) i (cells i) = ready.courses i in
      record {
        follows = subst (λ p. MayFollow rules i p (helds i) (tail (cells i).rest)) (shared.plain (cells i).past) (rest_follows i);
        rest_shared = (front i).1;
        past_shared = shared.shares (cells i).past ∙ ap (λ xs. e ∷ xs) c.past_shared;
        given = All-cons (IsBelow next') e (cells i).past below (All-weaker (IsBelow next) (IsBelow next') (below_more next next' more) (cells i).past c.given);
        number = number (cells i).past c.number;
        dated = subst (λ m. AllOlder (λ o. o.behind ≤ m) (helds i).older) (ap next_number (shared.plain (cells i).past) ∙ number (cells i).past c.number)
            (dated_then rules i (cells i).past (cells i).held e (helds i) (subst (λ m. AllOlder (λ o. o.behind ≤ m) (cells i).held.older) (sym c.number) c.dated) (takes i));
        has = has i;
      }

-- a request that the event is not of
module _ (rules : Rules) (cells : Cells) (e : Event) (helds : ℕ → Held) (outs outs' : List Piece) (sp : List Event) (shared : IsShared e) where
  seen_suits : (status : NtStatus) (x : OpenRequest) (k : ℕ) (mark : Mark) → Suits status sp x k mark → Suits status (e ∷ sp) x k mark
  seen_suits status x k Untouched h = h
  seen_suits status x k Back h = h
  seen_suits status x k (Done sector) h = h
  seen_suits status x k (Failed failure) (inl h) = inl h
  seen_suits status x k (Failed failure) (inr h) = inr (h.0, λ all. h.1 (All-tail (IsNoFailure x.number k) e sp all))
  seen_suits status x k Out h = h

  seen_place : (i : ℕ) (status : NtStatus) (x : OpenRequest) (k : ℕ) → IsAtPlace rules i (cells i).past status x k → IsAtPlace rules i (e ∷ (cells i).past) status x k
  seen_place i status x k h = record {
    fresh = λ d. h.fresh (record { effect = λ a. All-tail (IsNoEffect x.number) e (cells i).past (d.effect a); failure = All-tail (IsNoFailure x.number k) e (cells i).past d.failure });
    done = λ s sector has size. h.done s sector (not_first e (Effect x.number sector) (cells i).past (shared.no_effect x.number sector) has) size;
  }

  pub seen_track : (status : NtStatus) (x : OpenRequest) → ((q : ClientRequest) → e ≢ Seen (Told (Call x.number q))) → (IsOutFlush outs x → IsOutFlush outs' x)
      → IsTracked rules cells outs sp status x → IsTracked rules (seen_cells e helds cells) outs' (e ∷ sp) status x
  seen_track status x other out t = record {
    waits = t.waits;
    started = t.started;
    taken = t.taken;
    carries = t.carries;
    places = t.places;
    suits = λ k low. seen_suits status x k (mark_at x k) (t.suits k low);
    at_places = λ i k at. seen_place i status x k (t.at_places i k at);
    named = λ q has. t.named q (not_first e (Seen (Told (Call x.number q))) sp (other q) has);
    flushes = λ flush none. out (t.flushes flush (All-tail (IsNoFailure x.number 0) e sp none));
    waiting = λ flush mark. out (t.waiting flush mark);
  }
