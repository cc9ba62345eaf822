-- What ties a state of the machine and its table to the schedules of all sectors, so far and from here on.
use Rattle.std.proofs.Common.{◌≡◌, ◌≢◌, ◌<◌, ◌≤◌, ◌⊎◌, inl, inr, ℕ, zero, suc, ◌==◌, true, false, List, [], ◌∷◌, Option, None, refl, sym, subst, arith, length}
use Rattle.std.specs.Prelude.{All, Contains, if◌then◌else◌}
use Rattle.std.proofs.lemmas.Bool.{cases_eq}
use Rattle.std.proofs.lemmas.Bool.Decides.{nat_tests}
use Rattle.std.proofs.lemmas.List.Elements.{All-nil, All-cons, All-head, All-tail}
use Rattle.ntstatus.specs.declared.NtStatus.{NtStatus}
use Rattle.ntstatus.specs.declared.NtStatus.TheVariants.{Success}
use Rattle.srb.specs.Fate.{Fresh}
use Rattle.srb.specs.declared.Kind.TheVariants.{Read, Flush}
use Rattle.machine.specs.declared.ClientRequest.{ClientRequest}
use Rattle.machine.specs.declared.Label.{Label}
use Rattle.machine.specs.declared.Label.TheVariants.{Call}
use Rattle.machine.specs.Rules.{Rules, place_count}
use Rattle.machine.specs.State.{Mark, Untouched, Out, Done, Failed, Back, OpenRequest, Piece}
use Rattle.machine.specs.Calling.{bytes_carried}
use Rattle.machine.specs.Cutting.{mark_at}
use Rattle.machine.specs.Sending.{IsUnsent, is_started}
use Rattle.machine.specs.Numbers.{AreDistinct}
use Rattle.history_laws.specs.declared.Asked.{Asked}
use Rattle.history_laws.specs.Fitting.{refused}
use Rattle.history_runs.proofs.Failing.{ending}
use Rattle.history_runs.proofs.Tracking.{AreAwaited, IsOpenHere}
use Rattle.loss.specs.Held.{Held}
use Rattle.loss.specs.Moved.{Table}
use Rattle.loss.specs.Sessions.{Line, Told, Lost, Ended}
use Rattle.history_loss.specs.Schedules.{Event, Seen, Effect, Fails, IsAt, IsIdle, IsNoAnswer, IsNoFailure, MayFollow, next_number, one_place, shared_of}
use Rattle.history_loss.proofs.Mirroring.{IsBelow, further}
use Rattle.history_loss.proofs.Holding.{AllOlder}
use Rattle.history_loss_runs.proofs.Having.{Has}
use Rattle.history_loss_runs.proofs.Steps.{standing}

-- THE SECTORS

-- the schedule of a sector, so far in this session with the last event first, what the sector holds by it, and the rest
pub record Cell : Type 0 where
  pub past : List Event
  pub held : Held
  pub rest : List Event

abbrev pub Cells : Type 0
Cells = ℕ → Cell

abbrev pub put : Cells → ℕ → Cell → Cells
put cells i cell j = if j == i then cell else cells j

pub put_same : (cells : Cells) (i : ℕ) (cell : Cell) → put cells i cell i ≡ cell
put_same cells i cell = let a : (i == i) ≡ true = grind (arith, nat_tests) in rw a refl

put_other : (cells : Cells) (i : ℕ) (cell : Cell) (j : ℕ) → j ≢ i → put cells i cell j ≡ cells j
put_other cells i cell j other = let a : (j == i) ≡ false = grind (arith, nat_tests) in rw a refl

pub put_by : (P : ℕ → Cell → Type 0) (cells : Cells) (i : ℕ) (cell : Cell) → P i cell → ((j : ℕ) → j ≢ i → P j (cells j)) → (j : ℕ) → P j (put cells i cell j)
put_by P cells i cell there elsewhere j = elim (cases_eq j i) [
  | inl same ↦ subst (λ n. P n (put cells i cell n)) (sym same) (subst (P i) (sym (put_same cells i cell)) there)
  | inr other ↦ subst (P j) (sym (put_other cells i cell j other)) (elsewhere j other)
]

-- THE LABELS OF THIS SESSION

abbrev pub labels_till : List Event → List Label
labels_till [] = []
labels_till (Seen (Told label) ∷ events) = label ∷ labels_till events
labels_till (Seen Lost ∷ events) = []
labels_till (Seen Ended ∷ events) = []
labels_till (Effect number sector ∷ events) = labels_till events
labels_till (Fails number place ∷ events) = labels_till events

-- THE REQUESTS

-- a mark of a request that will be answered so, where these are the shared events so far
abbrev pub Suits : NtStatus → List Event → OpenRequest → ℕ → Mark → Type 0
Suits status sp o k Untouched = Unit {0}
Suits status sp o k Back = Unit {0}
Suits status sp o k (Done sector) = status ≡ Success
Suits status sp o k (Failed failure) = ((failure ≡ status) × (status ≢ Success)) ⊎ ((status ≡ Success) × (All (IsNoFailure o.number k) sp → ⊥))
Suits status sp o k Out = o.request.kind ≡ Flush

-- the place of a request that lies in a sector with these events so far
pub record IsAtPlace (rules : Rules) (i : ℕ) (past : List Event) (status : NtStatus) (o : OpenRequest) (k : ℕ) : Type 0 where
  pub fresh : IsIdle rules i past o.number o.request k → IsUnsent (mark_at o k)
  pub done : status ≡ Success → (sector : List ℕ) → Contains past (Effect o.number sector) → (o.request.kind ≡ Read → length sector ≡ rules.sector_size) → mark_at o k ≡ Done sector

-- the piece of a flush of this number
abbrev pub flush_piece : ℕ → ℕ → ℕ → Piece
flush_piece number tag owner = record { number = number; tag = tag; owner = owner; places = one_place 0; fate = Fresh }

-- it waits for its answer
pub record IsOutFlush (outs : List Piece) (o : OpenRequest) : Type 0 where
  pub number : ℕ
  pub tag : ℕ
  pub is_out : Contains outs (flush_piece number tag o.number)
  pub mark : mark_at o 0 ≡ Out

pub record IsTracked (rules : Rules) (cells : Cells) (outs : List Piece) (sp : List Event) (status : NtStatus) (o : OpenRequest) : Type 0 where
  pub waits : o.cancelled ≡ false
  pub started : is_started o ≡ true
  pub taken : refused rules o.request ≡ None
  pub carries : length o.request.bytes ≡ bytes_carried o.request.kind o.request.length
  pub places : length o.marks ≡ place_count rules o.request
  pub suits : (k : ℕ) → k < length o.marks → Suits status sp o k (mark_at o k)
  pub at_places : (i k : ℕ) → IsAt rules i o.request k → IsAtPlace rules i (cells i).past status o k
  pub named : (q : ClientRequest) → Contains sp (Seen (Told (Call o.number q))) → o.request ≡ q
  pub flushes : o.request.kind ≡ Flush → All (IsNoFailure o.number 0) sp → IsOutFlush outs o
  pub waiting : o.request.kind ≡ Flush → mark_at o 0 ≡ Out → IsOutFlush outs o

-- ALL OF IT

-- a sector's schedule goes on, shares the rest, and holds no more than the table has
pub record IsOnCourse (rules : Rules) (next : ℕ) (outs : List Piece) (sp ss : List Event) (t : Held) (i : ℕ) (cell : Cell) : Type 0 where
  pub follows : MayFollow rules i cell.past cell.held cell.rest
  pub rest_shared : shared_of cell.rest ≡ ss
  pub past_shared : shared_of cell.past ≡ sp
  pub given : All (IsBelow next) cell.past
  pub number : next_number cell.past ≡ next
  pub dated : AllOlder (λ o. o.behind ≤ next) cell.held.older
  pub has : Has outs t cell.held

abbrev pub Track : Rules → Cells → List Piece → List Event → List Event → OpenRequest → Type 0
Track rules cells outs sp ss o = IsTracked rules cells outs sp (ending o.number (labels_till ss)) o

pub record Ready (rules : Rules) (asked : List (Option Asked)) (cells : Cells) (sp ss : List Event) (arrays : List (List (List ℕ))) (next piece : ℕ) (requests : List OpenRequest) (outs : List Piece) (table : Table) : Type 0 where
  pub count : next ≡ length asked
  pub distinct : AreDistinct (standing arrays next piece requests outs)
  pub tracked : All (Track rules cells outs sp ss) requests
  pub courses : (i : ℕ) → IsOnCourse rules next outs sp ss (table i) i (cells i)
  pub opens : (n : ℕ) (q : ClientRequest) → Contains sp (Seen (Told (Call n q))) → All (IsNoAnswer n) sp → refused rules q ≡ None → IsOpenHere requests n q
  pub awaited : AreAwaited asked requests
  pub owners : All (λ p. p.owner < next) outs

-- SHARED EVENTS

pub shared_seen : (past : List Event) (line : Line) → Contains past (Seen line) → Contains (shared_of past) (Seen line)
shared_seen [] line c = let low = c.1 in absurd (omega arith)
shared_seen (Seen l ∷ past) line (zero, low, is) = (0, omega arith, is)
shared_seen (Seen l ∷ past) line (suc k, low, is) = further (Seen l) (shared_of past) (Seen line) (shared_seen past line (k, omega arith, is))
shared_seen (Effect n sector ∷ past) line (zero, low, is) = cc (is)
shared_seen (Effect n sector ∷ past) line (suc k, low, is) = shared_seen past line (k, omega arith, is)
shared_seen (Fails n place ∷ past) line (zero, low, is) = cc (is)
shared_seen (Fails n place ∷ past) line (suc k, low, is) = further (Fails n place) (shared_of past) (Seen line) (shared_seen past line (k, omega arith, is))

pub all_shared : (P : Event → Type 0) (past : List Event) → All P past → All P (shared_of past)
all_shared P [] all = All-nil P
all_shared P (Seen l ∷ past) all = All-cons P (Seen l) (shared_of past) (All-head P (Seen l) past all) (all_shared P past (All-tail P (Seen l) past all))
all_shared P (Effect n sector ∷ past) all = all_shared P past (All-tail P (Effect n sector) past all)
all_shared P (Fails n place ∷ past) all = All-cons P (Fails n place) (shared_of past) (All-head P (Fails n place) past all) (all_shared P past (All-tail P (Fails n place) past all))

pub all_unshared : (P : Event → Type 0) → ((n : ℕ) (sector : List ℕ) → P (Effect n sector)) → (past : List Event) → All P (shared_of past) → All P past
all_unshared P free [] all = All-nil P
all_unshared P free (Seen l ∷ past) all = All-cons P (Seen l) past (All-head P (Seen l) (shared_of past) all) (all_unshared P free past (All-tail P (Seen l) (shared_of past) all))
all_unshared P free (Effect n sector ∷ past) all = All-cons P (Effect n sector) past (free n sector) (all_unshared P free past all)
all_unshared P free (Fails n place ∷ past) all = All-cons P (Fails n place) past (All-head P (Fails n place) (shared_of past) all) (all_unshared P free past (All-tail P (Fails n place) (shared_of past) all))
