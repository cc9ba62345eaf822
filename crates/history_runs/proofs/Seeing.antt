-- A label of the history is seen by all sectors.
use Rattle.std.proofs.Common.{◌≡◌, ◌<◌, ◌≤◌, ◌⊎◌, inl, inr, ℕ, zero, suc, List, [], ◌∷◌, ◌++◌, Option, Some, None, refl, ap, subst, arith, length, ◌∙◌, All}
use Rattle.std.specs.Prelude.{Contains, slice_get}
use Rattle.std.proofs.lemmas.List.Elements.{All-cons, All-tail, All-weaker}
use Rattle.ntstatus.specs.declared.NtStatus.{NtStatus}
use Rattle.machine.specs.declared.ClientRequest.{ClientRequest}
use Rattle.machine.specs.declared.Label.{Label}
use Rattle.machine.specs.declared.Label.TheVariants.{Call}
use Rattle.machine.specs.Rules.{Rules, sectors_of}
use Rattle.machine.specs.State.{OpenRequest}
use Rattle.machine.specs.Cutting.{mark_at}
use Rattle.history_laws.specs.declared.Asked.{Asked}
use Rattle.history_laws.specs.Schedules.{Event, Seen, Effect, labels_of, IsNoEffect, IsOpen, May, MayFollow}
use Rattle.history_laws.specs.Fitting.{refused}
use Rattle.history_laws.proofs.Mirroring.{IsBelow, below_more}
use Rattle.history_runs.proofs.Failing.{ending}
use Rattle.history_runs.proofs.Tracking.{Cell, Cells, Suits, IsAtPlace, IsTracked, IsOpenHere, IsOnCourse}
use Rattle.history_runs.proofs.Catching.{IsCaughtUp}

abbrev pub tail : List Event → List Event
tail [] = []
tail (event ∷ events) = events

abbrev pub seen_cell : Label → Cell → Cell
seen_cell label cell = record { start = cell.start; past = Seen label ∷ cell.past; rest = tail cell.rest; all = cell.all }

abbrev pub seen_cells : Label → Cells → Cells
seen_cells label cells p i = seen_cell label (cells p i)

abbrev pub AreCaughtUp : Rules → Cells → Type 0
AreCaughtUp rules cells = (p i : ℕ) → i < sectors_of rules (Some p) → IsCaughtUp (cells p i).rest

-- EVENTS

pub first_is : (label : Label) (labels : List Label) (events : List Event) → IsCaughtUp events → labels_of events ≡ label ∷ labels → events ≡ Seen label ∷ tail events
first_is label labels [] c e = absurd (cc (e))
first_is label labels (Seen l ∷ events) c e = let same : l ≡ label = cc (e) in ap (λ x. Seen x ∷ events) same
first_is label labels (Effect n sector ∷ events) c e = absurd c

rest_is : (label : Label) (labels : List Label) (events : List Event) → IsCaughtUp events → labels_of events ≡ label ∷ labels → labels_of (tail events) ≡ labels
rest_is label labels [] c e = absurd (cc (e))
rest_is label labels (Seen l ∷ events) c e = cc (e)
rest_is label labels (Effect n sector ∷ events) c e = absurd c

not_label : (label : Label) (past : List Event) (n : ℕ) (sector : List ℕ) → Contains (Seen label ∷ past) (Effect n sector) → Contains past (Effect n sector)
not_label label past n sector (zero, low, is) = cc (is)
not_label label past n sector (suc k, low, is) = (k, omega arith, is)

pub not_call : (label : Label) (past : List Event) (other : Label) → (label ≡ other → ⊥) → Contains (Seen label ∷ past) (Seen other) → Contains past (Seen other)
not_call label past other differ (zero, low, is) = let same : label ≡ other = cc (is) in absurd (differ same)
not_call label past other differ (suc k, low, is) = (k, omega arith, is)

-- the next event of a sector that is caught up may come
pub may_be : (rules : Rules) (next : ℕ) (label : Label) (labels : List Label) (arrays : List (List (List ℕ))) (requests : List OpenRequest) (p i : ℕ) (cell : Cell)
    → IsOnCourse rules next (label ∷ labels) arrays requests p i cell → IsCaughtUp cell.rest
    → May rules p i cell.start cell.past (Seen label) × MayFollow rules p i cell.start (Seen label ∷ cell.past) (tail cell.rest)
may_be rules next label labels arrays requests p i cell h caught = subst (MayFollow rules p i cell.start cell.past) (first_is label labels cell.rest caught h.seen) h.follows

all_behind : (P : Event → Type 0) (events : List Event) → All P events → All P (tail events)
all_behind P [] h = h
all_behind P (event ∷ events) h = All-tail P event events h

-- REQUESTS AND SECTORS

seen_place : (rules : Rules) (label : Label) (past : List Event) (status : NtStatus) (o : OpenRequest) (k : ℕ) → IsAtPlace rules past status o k → IsAtPlace rules (Seen label ∷ past) status o k
seen_place rules label past status o k h = record {
  fresh = λ none. h.fresh (All-tail (IsNoEffect o.number) (Seen label) past none);
  done = λ e sector there size. h.done e sector (not_label label past o.number sector there) size;
}

-- a label that isn't its call, and not its answer
pub seen_request : (rules : Rules) (cells : Cells) (label : Label) (labels : List Label) (x : OpenRequest) → ending x.number (label ∷ labels) ≡ ending x.number labels
    → ((q : ClientRequest) → label ≡ Call x.number q → ⊥) → IsTracked rules cells (label ∷ labels) x → IsTracked rules (seen_cells label cells) labels x
seen_request rules cells label labels x same other t = record {
  waits = t.waits;
  started = t.started;
  taken = t.taken;
  carries = t.carries;
  places = t.places;
  suits = λ k low. subst (λ e. Suits e (mark_at x k)) same (t.suits k low);
  at_places = λ p i k at. subst (λ e. IsAtPlace rules (Seen label ∷ (cells p i).past) e x k) same (seen_place rules label (cells p i).past (ending x.number (label ∷ labels)) x k (t.at_places p i k at));
  named = λ p i low q has. t.named p i low q (not_call label (cells p i).past (Call x.number q) (other q) has);
  spares = λ busy. let s = t.spares (same ∙ busy) in record { place = s.place; inside = s.inside; unsent = s.unsent; idle = s.idle };
}

pub seen_course : (rules : Rules) (next next' : ℕ) (label : Label) (labels : List Label) (arrays : List (List (List ℕ))) (requests requests' : List OpenRequest) (p i : ℕ) (cell : Cell)
    → IsOnCourse rules next (label ∷ labels) arrays requests p i cell → IsCaughtUp cell.rest → next ≤ next' → IsBelow next' (Seen label)
    → ((m : ℕ) (q : ClientRequest) → IsOpen (Seen label ∷ cell.past) m q → refused rules q ≡ None → IsOpenHere requests' m q)
    → IsOnCourse rules next' labels arrays requests' p i (seen_cell label cell)
seen_course rules next next' label labels arrays requests requests' p i cell h caught more below opens = record {
  given = All-cons (IsBelow next') (Seen label) cell.past below (All-weaker (IsBelow next) (IsBelow next') (below_more next next' more) cell.past h.given);
  follows = (may_be rules next label labels arrays requests p i cell h caught).1;
  seen = rest_is label labels cell.rest caught h.seen;
  part = λ n none. all_behind (IsNoEffect n) cell.rest (h.part n none);
  value = h.value;
  opens = opens;
}

-- WHAT IS KNOWN OF NUMBERS

pub asked_more : (asked : List (Option Asked)) (x : Option Asked) (m : ℕ) (a : Asked) → slice_get (asked ++ x ∷ []) m ≡ Some (Some a)
    → (slice_get asked m ≡ Some (Some a)) ⊎ ((m ≡ length asked) × (x ≡ Some a))
asked_more [] x zero a e = let same : x ≡ Some a = cc (e) in inr (refl, same)
asked_more [] x (suc m) a e = cc (e)
asked_more (y ∷ asked) x zero a e = inl e
asked_more (y ∷ asked) x (suc m) a e = elim (asked_more asked x m a e) [ inl h ↦ inl h | inr (h, k) ↦ inr (ap suc h, k) ]
