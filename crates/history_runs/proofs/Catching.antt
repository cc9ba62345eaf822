-- All sectors are brought to the next label of the history.
use Rattle.std.proofs.Common.{◌≡◌, ◌<◌, ◌≤◌, inl, inr, ℕ, zero, suc, List, [], ◌∷◌, Option, Some, None, refl, sym, ap, subst, arith, length, ◌∙◌}
use Rattle.std.specs.Prelude.{slice_get}
use Rattle.std.proofs.lemmas.Bool.{cases_lt}
use Rattle.std.proofs.lemmas.Option.{slice_get_past}
use Rattle.sector.specs.declared.Extent.{Extent}
use Rattle.machine.specs.declared.Label.{Label}
use Rattle.machine.specs.Rules.{Rules, sectors_of}
use Rattle.machine.specs.State.{OpenRequest}
use Rattle.history_laws.specs.declared.Asked.{Asked}
use Rattle.history_laws.specs.Schedules.{Event, Seen, Effect}
use Rattle.history_runs.specs.Laws.{IsAddressable}
use Rattle.history_runs.proofs.Admitted.{served}
use Rattle.history_runs.proofs.Steps.{goes_nowhere, goes_then, at_rest}
use Rattle.history_runs.proofs.Tracking.{Cell, Cells, put, put_same, put_by, Ready}
use Rattle.history_runs.proofs.Advancing.{Advance, advance}

-- no effect comes before the next label
abbrev pub IsCaughtUp : List Event → Type 0
IsCaughtUp [] = Unit {0}
IsCaughtUp (Seen label ∷ events) = Unit {0}
IsCaughtUp (Effect number sector ∷ events) = ⊥

-- the machine went on with no label of the history, and what was caught up stays so
pub record Catches (rules : Rules) (asked : List (Option Asked)) (cells : Cells) (labels : List Label) (arrays : List (List (List ℕ))) (next piece : ℕ) (requests : List OpenRequest) : Type 0 where
  pub cells' : Cells
  pub to : Advance rules asked cells' labels arrays next piece requests
  pub stays : (p i : ℕ) → IsCaughtUp (cells p i).rest → IsCaughtUp (cells' p i).rest
  pub same : (p i : ℕ) → (cells' p i).all ≡ (cells p i).all

module _ (rules : Rules) (room : IsAddressable rules) (asked : List (Option Asked)) (labels : List Label) (next : ℕ) where
  abbrev none_caught : (cells : Cells) (arrays : List (List (List ℕ))) (piece : ℕ) (requests : List OpenRequest) → Ready rules asked cells labels arrays next piece requests
      → Catches rules asked cells labels arrays next piece requests
  none_caught cells arrays piece requests ready = record {
    cells' = cells;
    to = record { arrays' = arrays; piece' = piece; requests' = requests; goes = goes_nowhere (served rules) (at_rest arrays next piece requests); ready = ready };
    stays = λ p i h. h;
    same = λ p i. refl;
  }

  abbrev catch_then : (cells : Cells) (arrays : List (List (List ℕ))) (piece : ℕ) (requests : List OpenRequest) (c : Catches rules asked cells labels arrays next piece requests)
      → Catches rules asked c.cells' labels c.to.arrays' next c.to.piece' c.to.requests' → Catches rules asked cells labels arrays next piece requests
  catch_then cells arrays piece requests c d = record {
    cells' = d.cells';
    to = record {
      arrays' = d.to.arrays';
      piece' = d.to.piece';
      requests' = d.to.requests';
      goes = goes_then (served rules) (at_rest arrays next piece requests) (at_rest c.to.arrays' next c.to.piece' c.to.requests') (at_rest d.to.arrays' next d.to.piece' d.to.requests') [] [] c.to.goes d.to.goes;
      ready = d.to.ready;
    };
    stays = λ p i h. d.stays p i (c.stays p i h);
    same = λ p i. d.same p i ∙ c.same p i;
  }

  -- ONE SECTOR

  catch_cell : (events : List Event) (p i : ℕ) (cells : Cells) (arrays : List (List (List ℕ))) (piece : ℕ) (requests : List OpenRequest) → Ready rules asked cells labels arrays next piece requests
      → i < sectors_of rules (Some p) → (cells p i).rest ≡ events → (c : Catches rules asked cells labels arrays next piece requests) × IsCaughtUp (c.cells' p i).rest
  catch_cell [] p i cells arrays piece requests ready within front = (none_caught cells arrays piece requests ready, subst IsCaughtUp (sym front) tt)
  catch_cell (Seen label ∷ events) p i cells arrays piece requests ready within front = (none_caught cells arrays piece requests ready, subst IsCaughtUp (sym front) tt)
  catch_cell (Effect n sector ∷ events) p i cells arrays piece requests ready within front =
      let a : Advance rules asked (put cells p i moved) labels arrays next piece requests = advance rules room asked cells labels arrays next piece requests ready p i within n sector events front in
      let rest : (c : Catches rules asked (put cells p i moved) labels a.arrays' next a.piece' a.requests') × IsCaughtUp (c.cells' p i).rest =
      catch_cell events p i (put cells p i moved) a.arrays' a.piece' a.requests' a.ready within (ap (λ c. c.rest) (put_same cells p i moved)) in
      (catch_then cells arrays piece requests (record { cells' = put cells p i moved; to = a; stays = stays; same = same }) rest.0, rest.1)
    where
      moved : Cell
      moved = record { start = (cells p i).start; past = Effect n sector ∷ (cells p i).past; rest = events; all = (cells p i).all }

      same : (p' i' : ℕ) → (put cells p i moved p' i').all ≡ (cells p' i').all
      same = put_by (λ p' i' cell. cell.all ≡ (cells p' i').all) cells p i moved refl (λ p' i' other. refl)

      stays : (p' i' : ℕ) → IsCaughtUp (cells p' i').rest → IsCaughtUp (put cells p i moved p' i').rest
      stays = put_by (λ p' i' cell. IsCaughtUp (cells p' i').rest → IsCaughtUp cell.rest) cells p i moved (λ h. absurd (subst IsCaughtUp front h)) (λ p' i' other h. h)

  -- ALL SECTORS

  catch_sectors : (n p : ℕ) (cells : Cells) (arrays : List (List (List ℕ))) (piece : ℕ) (requests : List OpenRequest) → Ready rules asked cells labels arrays next piece requests
      → n ≤ sectors_of rules (Some p) → (c : Catches rules asked cells labels arrays next piece requests) × ((i : ℕ) → i < n → IsCaughtUp (c.cells' p i).rest)
  catch_sectors zero p cells arrays piece requests ready most = (none_caught cells arrays piece requests ready, λ i low. absurd (omega arith))
  catch_sectors (suc n) p cells arrays piece requests ready most =
      let first : (c : Catches rules asked cells labels arrays next piece requests) × ((i : ℕ) → i < n → IsCaughtUp (c.cells' p i).rest) = catch_sectors n p cells arrays piece requests ready (omega arith) in
      let c : Catches rules asked cells labels arrays next piece requests = first.0 in
      let last : (d : Catches rules asked c.cells' labels c.to.arrays' next c.to.piece' c.to.requests') × IsCaughtUp (d.cells' p n).rest =
      catch_cell (c.cells' p n).rest p n c.cells' c.to.arrays' c.to.piece' c.to.requests' c.to.ready (omega arith) refl in (
        catch_then cells arrays piece requests c last.0,
        λ i low. by_place i low c last.0 first.1 last.1,
      )
    where
      by_place : (i : ℕ) → i < suc n → (c : Catches rules asked cells labels arrays next piece requests) (d : Catches rules asked c.cells' labels c.to.arrays' next c.to.piece' c.to.requests')
          → ((i : ℕ) → i < n → IsCaughtUp (c.cells' p i).rest) → IsCaughtUp (d.cells' p n).rest → IsCaughtUp (d.cells' p i).rest
      by_place i low c d before here = elim (cases_lt i n) [
        | inl less ↦ d.stays p i (before i less)
        | inr past ↦ let same : n ≡ i = omega arith in subst (λ j. IsCaughtUp (d.cells' p j).rest) same here
      ]

  catch_partitions : (n : ℕ) (cells : Cells) (arrays : List (List (List ℕ))) (piece : ℕ) (requests : List OpenRequest) → Ready rules asked cells labels arrays next piece requests
      → (c : Catches rules asked cells labels arrays next piece requests) × ((p i : ℕ) → p < n → i < sectors_of rules (Some p) → IsCaughtUp (c.cells' p i).rest)
  catch_partitions zero cells arrays piece requests ready = (none_caught cells arrays piece requests ready, λ p i low. absurd (omega arith))
  catch_partitions (suc n) cells arrays piece requests ready =
      let first : (c : Catches rules asked cells labels arrays next piece requests) × ((p i : ℕ) → p < n → i < sectors_of rules (Some p) → IsCaughtUp (c.cells' p i).rest) = catch_partitions n cells arrays piece requests ready in
      let c : Catches rules asked cells labels arrays next piece requests = first.0 in
      let last : (d : Catches rules asked c.cells' labels c.to.arrays' next c.to.piece' c.to.requests') × ((i : ℕ) → i < sectors_of rules (Some n) → IsCaughtUp (d.cells' n i).rest) =
      catch_sectors (sectors_of rules (Some n)) n c.cells' c.to.arrays' c.to.piece' c.to.requests' c.to.ready (omega arith) in (
        catch_then cells arrays piece requests c last.0,
        λ p i low within. by_place p i low within c last.0 first.1 last.1,
      )
    where
      by_place : (p i : ℕ) → p < suc n → i < sectors_of rules (Some p) → (c : Catches rules asked cells labels arrays next piece requests) (d : Catches rules asked c.cells' labels c.to.arrays' next c.to.piece' c.to.requests')
          → ((p i : ℕ) → p < n → i < sectors_of rules (Some p) → IsCaughtUp (c.cells' p i).rest) → ((i : ℕ) → i < sectors_of rules (Some n) → IsCaughtUp (d.cells' n i).rest) → IsCaughtUp (d.cells' p i).rest
      by_place p i low within c d before here = elim (cases_lt p n) [
        | inl less ↦ d.stays p i (before p i less within)
        | inr past ↦ let same : n ≡ p = omega arith in subst (λ m. IsCaughtUp (d.cells' m i).rest) same (here i (subst (λ m. i < sectors_of rules (Some m)) (sym same) within))
      ]

  pub catch_up : (cells : Cells) (arrays : List (List (List ℕ))) (piece : ℕ) (requests : List OpenRequest) → Ready rules asked cells labels arrays next piece requests
      → (c : Catches rules asked cells labels arrays next piece requests) × ((p i : ℕ) → i < sectors_of rules (Some p) → IsCaughtUp (c.cells' p i).rest)
  catch_up cells arrays piece requests ready =
      let all : (c : Catches rules asked cells labels arrays next piece requests) × ((p i : ℕ) → p < length rules.partitions → i < sectors_of rules (Some p) → IsCaughtUp (c.cells' p i).rest) =
      catch_partitions (length rules.partitions) cells arrays piece requests ready in
      (all.0, λ p i within. all.1 p i (known p i within) within)
    where
      known : (p i : ℕ) → i < sectors_of rules (Some p) → p < length rules.partitions
      known p i within = elim (cases_lt p (length rules.partitions)) [
        | inl low ↦ low
        | inr past ↦ absurd (by (slice_get rules.partitions p) (slice_get_past rules.partitions p past) within)
      ]
        where
          by : (extent : Option Extent) → extent ≡ None → i < (elim extent [ Some e ↦ e.count | None ↦ 0 ]) → ⊥
          by None e low = absurd (omega arith)
          by (Some extent) e low = cc (e)
