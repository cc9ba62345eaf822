-- All sectors are brought to the next event that they share.
use Rattle.std.proofs.Common.{◌≡◌, ◌<◌, ◌≤◌, inl, inr, ℕ, zero, suc, ◌+◌, List, [], ◌∷◌, Option, Some, None, refl, sym, ◌∙◌, ap, subst, arith, length}
use Rattle.std.specs.Prelude.{slice_get}
use Rattle.std.proofs.lemmas.Bool.{cases_lt}
use Rattle.sector.specs.declared.Extent.{Extent}
use Rattle.machine.specs.declared.ClientRequest.{ClientRequest}
use Rattle.machine.specs.Rules.{Rules, first_sector, home, place_count, sectors_of}
use Rattle.machine.specs.State.{OpenRequest, Piece}
use Rattle.history_laws.specs.declared.Asked.{Asked}
use Rattle.history_runs.specs.Laws.{IsAddressable}
use Rattle.history_runs.proofs.Admitted.{IsAdmitted as IsTaken, admitted}
use Rattle.history_runs.proofs.Failing.{ending}
use Rattle.loss.specs.Moved.{Table}
use Rattle.history_loss.specs.Schedules.{Event, Seen, Effect, Fails, IsAt, MayFollow, shared_of}
use Rattle.history_loss_runs.proofs.Steps.{goes_nowhere, goes_then, moment, standing, storing}
use Rattle.history_loss_runs.proofs.Tracking.{Cell, Cells, Ready, labels_till, put, put_by, put_same}
use Rattle.history_loss_runs.proofs.Advancing.{Advance, IsBound, advance, at_taken, moved}

-- no effect comes before the next shared event
abbrev pub IsCaughtUp : List Event → Type 0
IsCaughtUp [] = Unit {0}
IsCaughtUp (Seen line ∷ events) = Unit {0}
IsCaughtUp (Fails number place ∷ events) = Unit {0}
IsCaughtUp (Effect number sector ∷ events) = ⊥

abbrev pub tail : List Event → List Event
tail [] = []
tail (event ∷ events) = events

pub first_shared : (e : Event) (ss events : List Event) → IsCaughtUp events → shared_of events ≡ e ∷ ss → (events ≡ e ∷ tail events) × (shared_of (tail events) ≡ ss)
first_shared e ss [] c h = absurd (cc (h))
first_shared e ss (Seen line ∷ events) c h = let same : Seen line ≡ e = cc (h) in (ap (λ x. x ∷ events) same, cc (h))
first_shared e ss (Fails number place ∷ events) c h = let same : Fails number place ≡ e = cc (h) in (ap (λ x. x ∷ events) same, cc (h))
first_shared e ss (Effect number sector ∷ events) c h = absurd c

-- WHERE SECTORS LIE

abbrev ends_of : List Extent → ℕ
ends_of [] = 0
ends_of (e ∷ es) = e.first + e.count + ends_of es

below_end : (es : List Extent) (p : ℕ) (e : Extent) → slice_get es p ≡ Some e → e.first + e.count ≤ ends_of es
below_end [] p e h = absurd (cc (h))
below_end (x ∷ es) zero e h = let same : x ≡ e = cc (h) in subst (λ y. y.first + y.count ≤ x.first + x.count + ends_of es) same (omega arith)
below_end (x ∷ es) (suc p) e h = let rest : e.first + e.count ≤ ends_of es = below_end es p e h in omega arith

-- a sector that a request has lies in a partition
at_within : (rules : Rules) (i : ℕ) (q : ClientRequest) (k : ℕ) → IsAt rules i q k → i < ends_of rules.partitions
at_within rules i q k at = by_entry (slice_get rules.partitions taken.partition) refl
  where
    taken : IsTaken rules q
    taken = admitted rules q (at_taken rules i q k at)

    is : home rules (Some taken.partition) (first_sector rules q + k) ≡ i
    is = ap (λ p. home rules p (first_sector rules q + k)) (sym taken.known) ∙ at.sector

    fits : first_sector rules q + place_count rules q ≤ sectors_of rules (Some taken.partition)
    fits = taken.inside at.transfer

    by_entry : (entry : Option Extent) → slice_get rules.partitions taken.partition ≡ entry → i < ends_of rules.partitions
    by_entry None e =
        let none : sectors_of rules (Some taken.partition) ≡ 0 = ap (λ x. elim x [ Some extent ↦ extent.count | None ↦ 0 ]) e in
        let low = at.inside in
        let f = fits in
        absurd (omega arith)
    by_entry (Some extent) e =
        let count : sectors_of rules (Some taken.partition) ≡ extent.count = ap (λ x. elim x [ Some extent ↦ extent.count | None ↦ 0 ]) e in
        let place : home rules (Some taken.partition) (first_sector rules q + k) ≡ extent.first + (first_sector rules q + k) = ap (λ x. elim x [ Some extent ↦ extent.first + (first_sector rules q + k) | None ↦ first_sector rules q + k ]) e in
        let end : extent.first + extent.count ≤ ends_of rules.partitions = below_end rules.partitions taken.partition extent e in
        let low = at.inside in
        let f = fits in
        let here = is in
        omega arith

-- CAUGHT UP

pub record Catches (rules : Rules) (depth : ℕ) (asked : List (Option Asked)) (cells : Cells) (sp ss : List Event) (arrays : List (List (List ℕ))) (next piece : ℕ) (requests : List OpenRequest) (outs : List Piece) (table : Table) : Type 0 where
  pub cells' : Cells
  pub to : Advance rules depth asked cells' sp ss arrays next piece requests outs table
  pub stays : (i : ℕ) → IsCaughtUp (cells i).rest → IsCaughtUp (cells' i).rest

module _ (rules : Rules) (depth : ℕ) (room : IsAddressable rules) (asked : List (Option Asked)) (sp ss : List Event) (arrays : List (List (List ℕ))) (next : ℕ) (outs : List Piece)
    (space : length outs < depth) (bound : (n : ℕ) → IsBound (ending n (labels_till ss))) where
  abbrev none_caught : (cells : Cells) (piece : ℕ) (requests : List OpenRequest) (table : Table) → Ready rules asked cells sp ss arrays next piece requests outs table
      → Catches rules depth asked cells sp ss arrays next piece requests outs table
  none_caught cells piece requests table ready = record {
    cells' = cells;
    to = record { piece' = piece; requests' = requests; table' = table; goes = goes_nowhere (storing rules depth) (moment (standing arrays next piece requests outs) table); ready = ready };
    stays = λ i h. h;
  }

  abbrev catch_then : (cells : Cells) (piece : ℕ) (requests : List OpenRequest) (table : Table) (c : Catches rules depth asked cells sp ss arrays next piece requests outs table)
      → Catches rules depth asked c.cells' sp ss arrays next c.to.piece' c.to.requests' outs c.to.table' → Catches rules depth asked cells sp ss arrays next piece requests outs table
  catch_then cells piece requests table c d = record {
    cells' = d.cells';
    to = record {
      piece' = d.to.piece';
      requests' = d.to.requests';
      table' = d.to.table';
      goes = goes_then (storing rules depth) (moment (standing arrays next piece requests outs) table) (moment (standing arrays next c.to.piece' c.to.requests' outs) c.to.table')
          (moment (standing arrays next d.to.piece' d.to.requests' outs) d.to.table') [] [] c.to.goes d.to.goes;
      ready = d.to.ready;
    };
    stays = λ i h. d.stays i (c.stays i h);
  }

  catch_cell : (events : List Event) (i : ℕ) (cells : Cells) (piece : ℕ) (requests : List OpenRequest) (table : Table) → Ready rules asked cells sp ss arrays next piece requests outs table
      → (cells i).rest ≡ events → (c : Catches rules depth asked cells sp ss arrays next piece requests outs table) × IsCaughtUp (c.cells' i).rest
  catch_cell [] i cells piece requests table ready front = (none_caught cells piece requests table ready, subst IsCaughtUp (sym front) tt)
  catch_cell (Seen line ∷ events) i cells piece requests table ready front = (none_caught cells piece requests table ready, subst IsCaughtUp (sym front) tt)
  catch_cell (Fails n place ∷ events) i cells piece requests table ready front = (none_caught cells piece requests table ready, subst IsCaughtUp (sym front) tt)
  catch_cell (Effect n sector ∷ events) i cells piece requests table ready front =
      let a : Advance rules depth asked (put cells i (moved rules depth room asked cells sp ss arrays next piece requests outs table ready space bound i n sector events front)) sp ss arrays next piece requests outs table =
      advance rules depth room asked cells sp ss arrays next piece requests outs table ready space bound i n sector events front in
      let rest : (c : Catches rules depth asked (put cells i (moved rules depth room asked cells sp ss arrays next piece requests outs table ready space bound i n sector events front)) sp ss arrays next a.piece' a.requests' outs a.table') × IsCaughtUp (c.cells' i).rest =
      catch_cell events i (put cells i (moved rules depth room asked cells sp ss arrays next piece requests outs table ready space bound i n sector events front)) a.piece' a.requests' a.table' a.ready
      (ap (λ c. c.rest) (put_same cells i (moved rules depth room asked cells sp ss arrays next piece requests outs table ready space bound i n sector events front))) in (
        catch_then cells piece requests table (record {
          cells' = put cells i (moved rules depth room asked cells sp ss arrays next piece requests outs table ready space bound i n sector events front);
          to = a;
          stays = stays n sector events i cells (moved rules depth room asked cells sp ss arrays next piece requests outs table ready space bound i n sector events front) front;
        }) rest.0,
        rest.1,
      )
    where
      stays : (n : ℕ) (sector : List ℕ) (events : List Event) (i : ℕ) (cells : Cells) (cell : Cell) → (cells i).rest ≡ Effect n sector ∷ events → (j : ℕ) → IsCaughtUp (cells j).rest → IsCaughtUp (put cells i cell j).rest
      stays n sector events i cells cell front = put_by (λ j c. IsCaughtUp (cells j).rest → IsCaughtUp c.rest) cells i cell (λ h. absurd (subst IsCaughtUp front h)) (λ j other h. h)

  catch_sectors : (n : ℕ) (cells : Cells) (piece : ℕ) (requests : List OpenRequest) (table : Table) → Ready rules asked cells sp ss arrays next piece requests outs table
      → (c : Catches rules depth asked cells sp ss arrays next piece requests outs table) × ((i : ℕ) → i < n → IsCaughtUp (c.cells' i).rest)
  catch_sectors zero cells piece requests table ready = (none_caught cells piece requests table ready, λ i low. absurd (omega arith))
  catch_sectors (suc n) cells piece requests table ready =
      let first : (c : Catches rules depth asked cells sp ss arrays next piece requests outs table) × ((i : ℕ) → i < n → IsCaughtUp (c.cells' i).rest) = catch_sectors n cells piece requests table ready in
      let c : Catches rules depth asked cells sp ss arrays next piece requests outs table = first.0 in
      let last : (d : Catches rules depth asked c.cells' sp ss arrays next c.to.piece' c.to.requests' outs c.to.table') × IsCaughtUp (d.cells' n).rest =
      catch_cell (c.cells' n).rest n c.cells' c.to.piece' c.to.requests' c.to.table' c.to.ready refl in
      (catch_then cells piece requests table c last.0, λ i low. by_place i low c.cells' last.0.cells' last.0.stays first.1 last.1)
    where
      by_place : (i : ℕ) → i < suc n → (before after : Cells) → ((j : ℕ) → IsCaughtUp (before j).rest → IsCaughtUp (after j).rest) → ((j : ℕ) → j < n → IsCaughtUp (before j).rest) → IsCaughtUp (after n).rest → IsCaughtUp (after i).rest
      by_place i low before after stays all here = elim (cases_lt i n) [
        | inl less ↦ stays i (all i less)
        | inr past ↦ let same : n ≡ i = omega arith in subst (λ j. IsCaughtUp (after j).rest) same here
      ]

  -- a sector outside all partitions has no effects
  outside : (i : ℕ) (events past : List Event) (cell : Cell) → MayFollow rules i past cell.held events → ends_of rules.partitions ≤ i → IsCaughtUp events
  outside i [] past cell f far = tt
  outside i (Seen line ∷ events) past cell f far = tt
  outside i (Fails n place ∷ events) past cell f far = tt
  outside i (Effect n sector ∷ events) past cell f far = let low : i < ends_of rules.partitions = at_within rules i f.1.request f.1.place f.1.there in absurd (omega arith)

  pub catch_up : (cells : Cells) (piece : ℕ) (requests : List OpenRequest) (table : Table) → Ready rules asked cells sp ss arrays next piece requests outs table
      → (c : Catches rules depth asked cells sp ss arrays next piece requests outs table) × ((i : ℕ) → IsCaughtUp (c.cells' i).rest)
  catch_up cells piece requests table ready =
      let all : (c : Catches rules depth asked cells sp ss arrays next piece requests outs table) × ((i : ℕ) → i < ends_of rules.partitions → IsCaughtUp (c.cells' i).rest) =
      catch_sectors (ends_of rules.partitions) cells piece requests table ready in (
        all.0,
        λ i. elim (cases_lt i (ends_of rules.partitions)) [
          | inl low ↦ all.1 i low
          | inr far ↦ outside i (all.0.cells' i).rest (all.0.cells' i).past (all.0.cells' i) (all.0.to.ready.courses i).follows far
        ],
      )
