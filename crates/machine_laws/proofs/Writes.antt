-- What the labels of a run may change of the arrays.
use Rattle.machine_laws.proofs.Common.{◌≡◌, ◌⊎◌, inl, inr, ℕ, List, [], ◌∷◌, refl, sym, ◌∙◌, ap, length, slice_get, cases_eq, length-set, get_or-set_other, Act, Kind, Read, Write, Flush, Label, Device, Rules, as_faithful, State, Acts, Transfers, partition_number, array_at, Step, Run, sector_at, WritesPartition, Sometime, IsWriteOn, IsWriteAt, HaveSameLengths, StepsKeepArrays, RunsKeepArrays}
use Rattle.machine_laws.proofs.Acted.{moves_or_leaves, Transfers-length}
use Rattle.machine_laws.proofs.Serving.{act_fits}
use Rattle.machine_laws.proofs.Sound.{Anything, nothing, IsSound, IsSound-Step}
use Rattle.machine_laws.proofs.Sectors.{Moved, step_arrays, is_act, step_sector}

-- ONE PARTITION

act_partition : (rules : Rules) (s : State) (label : Label) (s' : State) (n : ℕ) (bytes : List ℕ) → label ≡ Device (Act n bytes) → Acts rules s n bytes s' → (p : ℕ)
    → (array_at s'.arrays p ≡ array_at s.arrays p) ⊎ WritesPartition p s label
act_partition rules s label s' n bytes e h p =
    elim (moves_or_leaves rules s h.owner.request h.piece.places h.owner.request.kind h.sectors h.arrays' h.moves) [
      | inl moves ↦ by_kind h.owner.request.kind refl moves
      | inr same ↦ inl (same_arrays same)
    ]
  where
    same_arrays : h.arrays' ≡ s.arrays → array_at s'.arrays p ≡ array_at s.arrays p
    same_arrays same = ap (λ arrays. array_at arrays p) (h.after.arrays ∙ same)

    by_kind : (kind : Kind) → h.owner.request.kind ≡ kind → Transfers (as_faithful rules) s h.owner.request h.piece.places kind h.sectors h.arrays' → (array_at s'.arrays p ≡ array_at s.arrays p) ⊎ WritesPartition p s label
    by_kind Read k moves = inl (same_arrays moves.2)
    by_kind Flush k moves = inl (same_arrays moves.1)
    by_kind Write k moves =
        elim (cases_eq p (partition_number h.owner.request)) [
          | inl same ↦ inr (record { act = is_act rules s label s' n bytes e h; is_write = k; on_partition = sym same })
          | inr other ↦ inl (ap (λ arrays. array_at arrays p) (h.after.arrays ∙ moves.2) ∙ get_or-set_other s.arrays (partition_number h.owner.request) p _ [] other)
        ]

moved_partition : (rules : Rules) (s : State) (label : Label) (s' : State) → Moved rules s label s' → (p : ℕ) → (array_at s'.arrays p ≡ array_at s.arrays p) ⊎ WritesPartition p s label
moved_partition rules s label s' (inl same) p = inl (ap (λ arrays. array_at arrays p) same)
moved_partition rules s label s' (inr (n, bytes, e, h)) p = act_partition rules s label s' n bytes e h p

pub steps_keep_arrays : StepsKeepArrays
steps_keep_arrays rules s label s' h p = moved_partition rules s label s' (step_arrays rules s label s' h) p

-- what stays at each step of a run, or else happens at one, stays through it or happens
pub along : {X : Type 0} (see : State → X) (Happens : State → Label → State → Type 0) (Good : State → Type 0) (rules : Rules)
    → ((s t : State) → s.arrays ≡ t.arrays → see s ≡ see t)
    → ((s : State) (label : Label) (s' : State) → Good s → Step rules s label s' → Good s' × ((see s' ≡ see s) ⊎ Happens s label s'))
    → (s : State) (labels : List Label) (s' : State) → Good s → (run : Run rules s labels s') → (see s' ≡ see s) ⊎ Sometime Happens rules s labels s' run
along see Happens Good rules by_arrays step s [] s' good run = inl (by_arrays s' s (sym run.arrays))
along see Happens Good rules by_arrays step s (label ∷ labels) s' good run =
    elim (step s label run.0 good run.1).1 [
      | inr now ↦ inr (inl now)
      | inl same ↦ elim (along see Happens Good rules by_arrays step run.0 labels s' (step s label run.0 good run.1).0 run.2) [
        | inl same' ↦ inl (same' ∙ same)
        | inr later ↦ inr (inr later)
      ]
    ]

abbrev pub AnyState : State → Type 0
AnyState s = Unit {0}

pub runs_keep_arrays : RunsKeepArrays
runs_keep_arrays rules s labels s' run p =
    along (λ t. array_at t.arrays p) (IsWriteOn p) AnyState rules (λ t u same. ap (λ arrays. array_at arrays p) same)
    (λ t label t' good h. (tt, steps_keep_arrays rules t label t' h p)) s labels s' tt run

-- ONE SECTOR

pub runs_keep_sectors : (rules : Rules) (s : State) (labels : List Label) (s' : State) → IsSound rules s → (run : Run rules s labels s') (p i : ℕ)
    → (sector_at s' p i ≡ sector_at s p i) ⊎ Sometime (IsWriteAt rules p i) rules s labels s' run
runs_keep_sectors rules s labels s' sound run p i =
    along (λ t. sector_at t p i) (IsWriteAt rules p i) (IsSound rules) rules (λ t u same. ap (λ arrays. slice_get (array_at arrays p) i) same)
    (λ t label t' good h. (IsSound-Step rules t label t' good h, step_sector rules t label t' good (step_arrays rules t label t' h) p i)) s labels s' sound run

-- LENGTHS

moves_count : (rules : Rules) (s : State) (n : ℕ) (bytes : List ℕ) (s' : State) → Acts rules s n bytes s' → length s'.arrays ≡ length s.arrays
moves_count rules s n bytes s' h =
    elim (moves_or_leaves rules s h.owner.request h.piece.places h.owner.request.kind h.sectors h.arrays' h.moves) [
      | inl moves ↦ by_kind h.owner.request.kind moves
      | inr same ↦ ap length (h.after.arrays ∙ same)
    ]
  where
    by_kind : (kind : Kind) → Transfers (as_faithful rules) s h.owner.request h.piece.places kind h.sectors h.arrays' → length s'.arrays ≡ length s.arrays
    by_kind Read moves = ap length (h.after.arrays ∙ moves.2)
    by_kind Flush moves = ap length (h.after.arrays ∙ moves.1)
    by_kind Write moves = ap length (h.after.arrays ∙ moves.2) ∙ length-set s.arrays (partition_number h.owner.request) _

step_lengths : (rules : Rules) (s : State) (label : Label) (s' : State) → IsSound rules s → Moved rules s label s' → HaveSameLengths s.arrays s'.arrays
step_lengths rules s label s' sound (inl same) = record { arrays = ap length same; sectors = λ p. ap (λ arrays. length (array_at arrays p)) same }
step_lengths rules s label s' sound (inr (n, bytes, e, h)) = record {
  arrays = moves_count rules s n bytes s' h;
  sectors = λ p. ap (λ arrays. length (array_at arrays p)) h.after.arrays
      ∙ Transfers-length rules s h.owner.request h.piece.places h.owner.request.kind h.sectors h.arrays' p (act_fits rules 0 nothing Anything s n bytes s' sound.1 h) h.moves;
}

pub runs_keep_lengths : (rules : Rules) (s : State) (labels : List Label) (s' : State) → IsSound rules s → Run rules s labels s' → HaveSameLengths s.arrays s'.arrays
runs_keep_lengths rules s [] s' sound run = record { arrays = ap length (sym run.arrays); sectors = λ p. ap (λ arrays. length (array_at arrays p)) (sym run.arrays) }
runs_keep_lengths rules s (label ∷ labels) s' sound run =
    let first : HaveSameLengths s.arrays run.0.arrays = step_lengths rules s label run.0 sound (step_arrays rules s label run.0 run.1) in
    let rest : HaveSameLengths run.0.arrays s'.arrays = runs_keep_lengths rules run.0 labels s' (IsSound-Step rules s label run.0 sound run.1) run.2 in
    record { arrays = rest.arrays ∙ first.arrays; sectors = λ p. rest.sectors p ∙ first.sectors p }
