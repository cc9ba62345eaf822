-- What ties a state of the machine to the schedules of all sectors, so far and from here on.
use Rattle.std.proofs.Common.{◌≡◌, ◌≢◌, ◌<◌, ◌⊎◌, inl, inr, ℕ, zero, suc, ◌==◌, ◌&&◌, Bool, true, false, List, ◌∷◌, Option, Some, None, refl, sym, ◌∙◌, ap, subst, arith, length}
use Rattle.std.specs.Prelude.{IsPermutation, All, Contains, slice_get, if◌then◌else◌}
use Rattle.std.specs.List.{remove}
use Rattle.std.proofs.lemmas.Bool.{cases_eq}
use Rattle.std.proofs.lemmas.Bool.Decides.{nat_tests}
use Rattle.std.proofs.lemmas.List.Sorted.{IsPermutation-remove, Contains-permutation}
use Rattle.ntstatus.specs.declared.NtStatus.{NtStatus}
use Rattle.ntstatus.specs.declared.NtStatus.TheVariants.{Success, DeviceBusy}
use Rattle.srb.specs.declared.Kind.TheVariants.{Read, Write}
use Rattle.machine.specs.declared.ClientRequest.{ClientRequest}
use Rattle.machine.specs.declared.Label.{Label}
use Rattle.machine.specs.declared.Label.TheVariants.{Call}
use Rattle.machine.specs.Rules.{Rules, sectors_of, place_count}
use Rattle.machine.specs.State.{Mark, Untouched, Out, Done, Failed, Back, OpenRequest}
use Rattle.machine.specs.Calling.{bytes_carried}
use Rattle.machine.specs.Cutting.{mark_at}
use Rattle.machine.specs.Sending.{IsUnsent, is_started, array_at}
use Rattle.machine.specs.Numbers.{AreDistinct}
use Rattle.history_laws.specs.declared.Asked.{Asked}
use Rattle.history_laws.specs.Schedules.{Event, Seen, Effect, labels_of, value_after, IsAt, IsNoEffect, IsOpen, MayFollow}
use Rattle.history_laws.specs.Fitting.{refused, asked_of}
use Rattle.history_laws.proofs.Mirroring.{IsBelow}
use Rattle.history_runs.proofs.Steps.{at_rest}
use Rattle.history_runs.proofs.Failing.{ending}

-- THE SECTORS

-- the schedule of a sector, so far with the last event first, from here on, and all of it
pub record Cell : Type 0 where
  pub start : List ℕ
  pub past : List Event
  pub rest : List Event
  pub all : List Event

-- by partition and sector
abbrev pub Cells : Type 0
Cells = ℕ → ℕ → Cell

abbrev pub put : Cells → ℕ → ℕ → Cell → Cells
put cells p i cell p' i' = if (p' == p) && (i' == i) then cell else cells p' i'

abbrev pub IsSameSector : ℕ → ℕ → ℕ → ℕ → Type 0
IsSameSector p i p' i' = (p' ≡ p) × (i' ≡ i)

pub same_sector : (p i p' i' : ℕ) → IsSameSector p i p' i' ⊎ (IsSameSector p i p' i' → ⊥)
same_sector p i p' i' =
    elim (cases_eq p' p) [
      | inl same ↦ elim (cases_eq i' i) [ inl same' ↦ inl (same, same') | inr other ↦ inr (λ both. other both.1) ]
      | inr other ↦ inr (λ both. other both.0)
    ]

pub put_same : (cells : Cells) (p i : ℕ) (cell : Cell) → put cells p i cell p i ≡ cell
put_same cells p i cell = let a : (p == p) ≡ true = grind (arith, nat_tests) in let b : (i == i) ≡ true = grind (arith, nat_tests) in rw (a, b) refl

put_other : (cells : Cells) (p i : ℕ) (cell : Cell) (p' i' : ℕ) → (IsSameSector p i p' i' → ⊥) → put cells p i cell p' i' ≡ cells p' i'
put_other cells p i cell p' i' other = by_tests (p' == p) (i' == i) refl refl
  where
    equal : (a b : ℕ) → (a == b) ≡ true → a ≡ b
    equal a b h = grind (arith, nat_tests)

    by_tests : (a b : Bool) → (p' == p) ≡ a → (i' == i) ≡ b → (if a && b then cell else cells p' i') ≡ cells p' i'
    by_tests true true e f = absurd (other (equal p' p e, equal i' i f))
    by_tests true false e f = refl
    by_tests false b e f = refl

-- what holds of the sector put in, and of the others
pub put_by : (P : ℕ → ℕ → Cell → Type 0) (cells : Cells) (p i : ℕ) (cell : Cell) → P p i cell → ((p' i' : ℕ) → (IsSameSector p i p' i' → ⊥) → P p' i' (cells p' i'))
    → (p' i' : ℕ) → P p' i' (put cells p i cell p' i')
put_by P cells p i cell there elsewhere p' i' =
    elim (same_sector p i p' i') [
      | inl same ↦ subst (λ n. P n i' (put cells p i cell n i')) (sym same.0) (subst (λ n. P p n (put cells p i cell p n)) (sym same.1) (subst (P p i) (sym (put_same cells p i cell)) there))
      | inr other ↦ subst (P p' i') (sym (put_other cells p i cell p' i' other)) (elsewhere p' i' other)
    ]

-- THE REQUESTS

-- a mark of a request that will be answered so
abbrev pub Suits : NtStatus → Mark → Type 0
Suits status Untouched = Unit {0}
Suits status Back = Unit {0}
Suits status (Done sector) = (status ≡ Success) ⊎ (status ≡ DeviceBusy)
Suits status (Failed failure) = (failure ≡ status) × (status ≢ Success) × (status ≢ DeviceBusy)
Suits status Out = ⊥

-- the place of a request that lies in a sector with these events so far
pub record IsAtPlace (rules : Rules) (past : List Event) (status : NtStatus) (o : OpenRequest) (k : ℕ) : Type 0 where
  pub fresh : All (IsNoEffect o.number) past → IsUnsent (mark_at o k)
  pub done : status ≡ Success → (sector : List ℕ) → Contains past (Effect o.number sector) → (o.request.kind ≡ Read → length sector ≡ rules.sector_size) → mark_at o k ≡ Done sector

-- where the request has places
abbrev pub AreAtPlaces : Rules → Cells → NtStatus → OpenRequest → Type 0
AreAtPlaces rules cells status o = (p i k : ℕ) → IsAt rules p i o.request k → IsAtPlace rules (cells p i).past status o k

-- the call of its number asked for it
abbrev pub AreNamed : Rules → Cells → OpenRequest → Type 0
AreNamed rules cells o = (p i : ℕ) → i < sectors_of rules (Some p) → (q : ClientRequest) → Contains (cells p i).past (Seen (Call o.number q)) → o.request ≡ q

-- one of its places waits to be sent, and if it is a write, takes no effect there
pub record Spares (rules : Rules) (cells : Cells) (o : OpenRequest) : Type 0 where
  pub place : ℕ
  pub inside : place < length o.marks
  pub unsent : IsUnsent (mark_at o place)
  pub idle : o.request.kind ≡ Write → (p i : ℕ) → i < sectors_of rules (Some p) → IsAt rules p i o.request place → All (IsNoEffect o.number) (cells p i).all

pub record IsTracked (rules : Rules) (cells : Cells) (labels : List Label) (o : OpenRequest) : Type 0 where
  pub waits : o.cancelled ≡ false
  pub started : is_started o ≡ true
  pub taken : refused rules o.request ≡ None
  pub carries : length o.request.bytes ≡ bytes_carried o.request.kind o.request.length
  pub places : length o.marks ≡ place_count rules o.request
  pub suits : (k : ℕ) → k < length o.marks → Suits (ending o.number labels) (mark_at o k)
  pub at_places : AreAtPlaces rules cells (ending o.number labels) o
  pub named : AreNamed rules cells o
  pub spares : ending o.number labels ≡ DeviceBusy → Spares rules cells o

-- the request is open under this number
abbrev pub IsOpenHere : List OpenRequest → ℕ → ClientRequest → Type 0
IsOpenHere requests n q = (o : OpenRequest) × Contains requests o × (o.number ≡ n) × (o.request ≡ q)

-- ALL OF IT

-- a sector stands where its schedule has it, and the requests that are open by its schedule are open
pub record IsOnCourse (rules : Rules) (next : ℕ) (labels : List Label) (arrays : List (List (List ℕ))) (requests : List OpenRequest) (p i : ℕ) (cell : Cell) : Type 0 where
  pub given : All (IsBelow next) cell.past
  pub follows : MayFollow rules p i cell.start cell.past cell.rest
  pub seen : labels_of cell.rest ≡ labels
  pub part : (n : ℕ) → All (IsNoEffect n) cell.all → All (IsNoEffect n) cell.rest
  pub value : slice_get (array_at arrays p) i ≡ Some (value_after cell.start cell.past)
  pub opens : (n : ℕ) (q : ClientRequest) → IsOpen cell.past n q → refused rules q ≡ None → IsOpenHere requests n q

abbrev pub AreOnCourse : Rules → ℕ → List Label → List (List (List ℕ)) → List OpenRequest → Cells → Type 0
AreOnCourse rules next labels arrays requests cells = (p i : ℕ) → i < sectors_of rules (Some p) → IsOnCourse rules next labels arrays requests p i (cells p i)

-- each request that waits for its answer, by the history, is open
abbrev pub AreAwaited : List (Option Asked) → List OpenRequest → Type 0
AreAwaited asked requests = (n : ℕ) (a : Asked) → slice_get asked n ≡ Some (Some a) → (q : ClientRequest) × IsOpenHere requests n q × (asked_of q ≡ a)

-- the machine at rest, with these arrays and open requests, where the history goes on by these labels
pub record Ready (rules : Rules) (asked : List (Option Asked)) (cells : Cells) (labels : List Label) (arrays : List (List (List ℕ))) (next piece : ℕ) (requests : List OpenRequest) : Type 0 where
  pub distinct : AreDistinct (at_rest arrays next piece requests)
  pub tracked : All (IsTracked rules cells labels) requests
  pub courses : AreOnCourse rules (length asked) labels arrays requests cells
  pub awaited : AreAwaited asked requests

-- a request found, and the others
pub record IsFound (requests : List OpenRequest) (n : ℕ) (q : ClientRequest) : Type 0 where
  pub found : OpenRequest
  pub others : List OpenRequest
  pub is_open : IsPermutation requests (found ∷ others)
  pub is_number : found.number ≡ n
  pub is_request : found.request ≡ q

pub find_open : (requests : List OpenRequest) (n : ℕ) (q : ClientRequest) → IsOpenHere requests n q → IsFound requests n q
find_open requests n q (o, (j, low, is), number, request) = record {
  found = o;
  others = remove requests j;
  is_open = IsPermutation-remove requests j o low (sym is);
  is_number = number;
  is_request = request;
}

-- what is open stays so where one request gets other marks
pub still_open : (requests others : List OpenRequest) (o o' : OpenRequest) → IsPermutation requests (o ∷ others) → o'.number ≡ o.number → o'.request ≡ o.request
    → (n : ℕ) (q : ClientRequest) → IsOpenHere requests n q → IsOpenHere (o' ∷ others) n q
still_open requests others o o' perm same_number same_request n q (x, there, number, request) = by_place (Contains-permutation requests (o ∷ others) x perm there)
  where
    by_place : Contains (o ∷ others) x → IsOpenHere (o' ∷ others) n q
    by_place (zero, low, is) =
        let is' : o ≡ x = is in
        (o', (0, omega arith, refl), same_number ∙ ap (λ y. y.number) is' ∙ number, same_request ∙ ap (λ y. y.request) is' ∙ request)
    by_place (suc j, low, is) = (x, (suc j, omega arith, is), number, request)
