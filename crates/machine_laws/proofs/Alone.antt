-- The places of a request that no other write meets.
use Rattle.machine_laws.proofs.Common.{◌≡◌, ◌<◌, ◌≤◌, ◌⊎◌, inl, inr, ℕ, ◌+◌, List, [], ◌∷◌, Some, sym, ◌∙◌, ap, subst, arith, slice_get, cases_eq, All-contains, Write, ClientRequest, Label, Rules, first_sector, place_count, State, partition_number, array_at, Run, Meets, LeavesAlone, IsSoloAt, IsSolo, sector_at, sector_of, bytes_for, WritesSector, Sometime}
use Rattle.machine_laws.proofs.Serving.{HoldsPlaces, IsMine, PieceFits, Serves, Serves-Step}
use Rattle.machine_laws.proofs.Sound.{Anything, IsSound, IsSound-Step, act_anyhow}
use Rattle.machine_laws.proofs.Sectors.{Moved, step_arrays, step_sector}

-- what the request's own act leaves of one of its places
pub record WritesOwn (rules : Rules) (number : ℕ) (q : ClientRequest) (place : ℕ) (s : State) (label : Label) (s' : State) : Type 0 where
  pub is_write : q.kind ≡ Write
  pub writes : WritesSector rules number (partition_number q) (sector_of rules q place) s label s'
  pub stands : sector_at s' (partition_number q) (sector_of rules q place) ≡ Some (bytes_for rules q place)

module _ (rules : Rules) (number : ℕ) (q : ClientRequest) (Right : List (List (List ℕ)) → ℕ → List ℕ → Type 0) (place : ℕ) (low : place < place_count rules q)
    (s : State) (label : Label) (s' : State) (sound : IsSound rules s) (k : Serves rules number q Right s) where
  -- a write that reaches the place meets the request
  meets : (r : ℕ) → (w : WritesSector rules r (partition_number q) (sector_of rules q place) s label s') → Meets rules q w.act.owner.request
  meets r w =
      let f : PieceFits rules 0 (Anything s.arrays) s.next_request s.requests w.act.piece = All-contains (PieceFits rules 0 (Anything s.arrays) s.next_request s.requests) s.pieces w.act.piece sound.1.pieces w.act.is_out in
      let inside : w.act.piece.places.first + w.act.piece.places.count ≤ place_count rules w.act.owner.request = All-contains (HoldsPlaces rules w.act.piece) s.requests w.act.owner f.inside w.act.is_open w.act.is_owner in
      record { same_partition = sym w.on_partition; begins = begins_in _ _ _ _ _ w.is_sector low; ends = ends_in _ _ _ _ _ _ w.is_sector w.below inside }
    where
      begins_in : (first first' place place' count : ℕ) → first' + place' ≡ first + place → place < count → first' < first + count
      begins_in first first' place place' count e h = omega arith

      ends_in : (first first' place place' end count : ℕ) → first' + place' ≡ first + place → place' < end → end ≤ count → first < first' + count
      ends_in first first' place place' end count e h fits = omega arith

  own : (w : WritesSector rules number (partition_number q) (sector_of rules q place) s label s') → w.act.owner.request ≡ q → WritesOwn rules number q place s label s'
  own w e =
      let same : w.place ≡ place = same_place _ _ _ _ (ap (λ r. first_sector rules r) e) w.is_sector in
      record {
        is_write = ap (λ r. r.kind) (sym e) ∙ w.is_write;
        writes = w;
        stands = w.stands ∙ ap Some (ap (λ r. bytes_for rules r w.place) e ∙ ap (λ m. bytes_for rules q m) same);
      }
    where
      same_place : (first first' place place' : ℕ) → first' ≡ first → first' + place' ≡ first + place → place' ≡ place
      same_place first first' place place' e h = omega arith

  -- its sector stays, or the request's own piece acts on it
  pub step_alone : IsSoloAt rules number q s → Moved rules s label s'
      → (sector_at s' (partition_number q) (sector_of rules q place) ≡ sector_at s (partition_number q) (sector_of rules q place)) ⊎ WritesOwn rules number q place s label s'
  step_alone solo moved =
      elim (step_sector rules s label s' sound moved (partition_number q) (sector_of rules q place)) [
        | inl same ↦ inl same
        | inr w ↦ by_number w.0 w.1
      ]
    where
      by_number : (r : ℕ) → WritesSector rules r (partition_number q) (sector_of rules q place) s label s'
          → (sector_at s' (partition_number q) (sector_of rules q place) ≡ sector_at s (partition_number q) (sector_of rules q place)) ⊎ WritesOwn rules number q place s label s'
      by_number r w =
          elim (cases_eq r number) [
            | inl e ↦
                let w' : WritesSector rules number (partition_number q) (sector_of rules q place) s label s' = subst (λ n. WritesSector rules n (partition_number q) (sector_of rules q place) s label s') e w in
                inr (own w' (All-contains (IsMine number q (Right s.arrays)) s.requests w'.act.owner k.mine w'.act.is_open w'.is_request).request)
            | inr other ↦
                let alone : LeavesAlone rules number q w.act.owner = All-contains (LeavesAlone rules number q) s.requests w.act.owner solo w.act.is_open in
                absurd (alone (λ e. other (sym w.is_request ∙ e)) w.is_write (meets r w))
          ]

-- ALONG A RUN

-- the sector stays through the run, or the request's own piece acts on it and its bytes are there in the end
pub run_alone : (rules : Rules) (number : ℕ) (q : ClientRequest) (place : ℕ) → place < place_count rules q → (s : State) (labels : List Label) (s' : State) → IsSound rules s → Serves rules number q Anything s
    → (run : Run rules s labels s') → IsSolo rules number q s labels s' run
    → (sector_at s' (partition_number q) (sector_of rules q place) ≡ sector_at s (partition_number q) (sector_of rules q place))
    ⊎ ((q.kind ≡ Write) × Sometime (WritesSector rules number (partition_number q) (sector_of rules q place)) rules s labels s' run
    × (sector_at s' (partition_number q) (sector_of rules q place) ≡ Some (bytes_for rules q place)))
run_alone rules number q place low s [] s' sound k run solo = inl (ap (λ arrays. slice_get (array_at arrays (partition_number q)) (sector_of rules q place)) (sym run.arrays))
run_alone rules number q place low s (label ∷ labels) s' sound k run solo =
    let mid : State = run.0 in
    let k' : Serves rules number q Anything mid = Serves-Step rules number q Anything s label mid sound.0 (act_anyhow rules number s label mid) k run.1 in
    elim (run_alone rules number q place low mid labels s' (IsSound-Step rules s label mid sound run.1) k' run.2 solo.1) [
      | inr later ↦ inr (later.0, inr later.1, later.2)
      | inl same ↦ elim (step_alone rules number q Anything place low s label mid sound k solo.0 (step_arrays rules s label mid run.1)) [
        | inl same' ↦ inl (same ∙ same')
        | inr w ↦ inr (w.is_write, inl w.writes, same ∙ w.stands)
      ]
    ]
