-- A solo write that succeeds stands in the array at its answer.
use Rattle.machine_laws.proofs.Common.{◌≡◌, ◌<◌, ◌≤◌, inl, inr, ℕ, ◌+◌, ◌*◌, List, Some, refl, sym, ◌∙◌, ap, subst, arith, length, take, drop, concat, All-contains, Acted, Act, Write, ClientRequest, Device, Rules, first_sector, place_count, Out, State, partition_number, array_at, IsSoloAt, SoloWrites, sector_at, sector_of, bytes_for, FailedWrites}
use Rattle.std.specs.Prelude.{slice_range, slice_get, IsTrue}
use Rattle.machine_laws.proofs.Bounds.{write_length}
use Rattle.machine_laws.proofs.Chunks.{chunks_join}
use Rattle.machine_laws.proofs.Acted.{moves_faithfully}
use Rattle.machine_laws.proofs.Serving.{IsRightFate, IsMine, Serves, AllActRightly, act_inside}
use Rattle.machine_laws.proofs.Sound.{Anything, IsSound, called_sound, called_serves}
use Rattle.machine_laws.proofs.Sectors.{act_writes, bytes_are}
use Rattle.machine_laws.proofs.Alone.{step_alone, run_alone}
use Rattle.machine_laws.proofs.Served.{IsDoneRightly, done_rightly, whole_range}

-- the write's bytes for the place stand in the array
abbrev pub IsWritten : Rules → ClientRequest → List (List (List ℕ)) → ℕ → List ℕ → Type 0
IsWritten rules q arrays k sector = (k < place_count rules q) × (slice_get (array_at arrays (partition_number q)) (sector_of rules q k) ≡ Some (bytes_for rules q k))

module _ (rules : Rules) (number : ℕ) (q : ClientRequest) (is_faithful : IsTrue rules.faithful) (is_write : q.kind ≡ Write) where
  write_acts : (s : State) (s' : State) → IsSound rules s → Serves rules number q (IsWritten rules q) s → IsSoloAt rules number q s → AllActRightly rules number (IsWritten rules q) s s'
  write_acts s s' sound k solo n bytes h = record { keeps = λ j sector right. (right.0, kept j right.0 right.1); leaves = leaves }
    where
      kept : (j : ℕ) → j < place_count rules q → slice_get (array_at s.arrays (partition_number q)) (sector_of rules q j) ≡ Some (bytes_for rules q j)
          → slice_get (array_at h.arrays' (partition_number q)) (sector_of rules q j) ≡ Some (bytes_for rules q j)
      kept j low there =
          elim (step_alone rules number q (IsWritten rules q) j low s (Device (Act n bytes)) s' sound k solo (inr (n, bytes, refl, h))) [
            | inl same ↦ ap (λ arrays. slice_get (array_at arrays (partition_number q)) (sector_of rules q j)) (sym h.after.arrays) ∙ same ∙ there
            | inr w ↦ ap (λ arrays. slice_get (array_at arrays (partition_number q)) (sector_of rules q j)) (sym h.after.arrays) ∙ w.stands
          ]

      leaves : h.piece.owner ≡ number → IsRightFate (IsWritten rules q h.arrays') h.piece.places.first (Acted h.sectors)
      leaves e j x within =
          let same : h.owner.request ≡ q = (All-contains (IsMine number q (IsWritten rules q s.arrays)) s.requests h.owner k.mine h.is_open (h.is_owner ∙ e)).request in
          let inside : h.piece.places.first + h.piece.places.count ≤ place_count rules q = subst (λ r. h.piece.places.first + h.piece.places.count ≤ place_count rules r) same (act_inside rules number q (IsWritten rules q) s n bytes s' k h) in
          let low : j < h.piece.places.count = rw (← h.covers) within in
          let w : h.owner.request.kind ≡ Write = ap (λ r. r.kind) same ∙ is_write in
          let moves = moves_faithfully rules s h.owner.request h.piece.places h.owner.request.kind h.sectors h.arrays' is_faithful h.moves in
          let there : slice_get (array_at h.arrays' (partition_number q)) (first_sector rules q + h.piece.places.first + j) ≡ Some (bytes_for rules q (h.piece.places.first + j)) =
          subst (λ r. slice_get (array_at h.arrays' (partition_number r)) (first_sector rules r + h.piece.places.first + j) ≡ Some (bytes_for rules r (h.piece.places.first + j))) same (act_writes rules s n bytes s' sound h moves w j low) in
          let sum : sector_of rules q (h.piece.places.first + j) ≡ first_sector rules q + h.piece.places.first + j = omega arith in
          (omega arith, ap (λ i. slice_get (array_at h.arrays' (partition_number q)) i) sum ∙ there)

pub solo_writes : (rules : Rules) (before : State) → IsTrue rules.faithful → IsSound rules before → SoloWrites rules before
solo_writes rules before is_faithful sound number q bytes after is_write served =
    let h : IsDoneRightly rules q (IsWritten rules q served.ended.arrays) served.answers.request =
    done_rightly rules number q (IsWritten rules q) (write_acts rules number q is_faithful is_write) before bytes after sound served in
    let long : length q.bytes ≡ place_count rules q * rules.sector_size = write_length rules before q is_write served.opens.not_refused served.opens.carries in
    let joined : concat (take (place_count rules q) (drop (first_sector rules q) (array_at served.ended.arrays (partition_number q)))) ≡ q.bytes =
    chunks_join rules.sector_size (place_count rules q) (first_sector rules q) (array_at served.ended.arrays (partition_number q)) q.bytes long
    (λ j low. (h.right j Out (rw h.count low)).1 ∙ ap Some (bytes_are rules q j)) in
    sym joined ∙ ap concat (whole_range (array_at served.ended.arrays (partition_number q)) (first_sector rules q) (place_count rules q)
    ∙ ap (λ arrays. slice_range (array_at arrays (partition_number q)) (first_sector rules q + 0) (first_sector rules q + 0 + place_count rules q)) (sym served.answers.after.arrays))

-- THE SAME, PLACE BY PLACE

pub failed_writes : (rules : Rules) (before : State) → IsSound rules before → FailedWrites rules before
failed_writes rules before sound number q status bytes after is_write answered place low =
    elim (run_alone rules number q place low answered.called answered.labels answered.ended (called_sound rules before number q answered.called sound answered.opens)
    (called_serves rules before number q Anything answered.called sound answered.opens) answered.run answered.solo) [
      | inl same ↦ inl (last ∙ same ∙ first)
      | inr w ↦ inr (w.1, last ∙ w.2)
    ]
  where
    last : sector_at after (partition_number q) (sector_of rules q place) ≡ sector_at answered.ended (partition_number q) (sector_of rules q place)
    last = ap (λ arrays. slice_get (array_at arrays (partition_number q)) (sector_of rules q place)) answered.answers.after.arrays

    first : sector_at answered.called (partition_number q) (sector_of rules q place) ≡ sector_at before (partition_number q) (sector_of rules q place)
    first = ap (λ arrays. slice_get (array_at arrays (partition_number q)) (sector_of rules q place)) answered.opens.after.arrays
