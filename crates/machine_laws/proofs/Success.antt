-- A request that is answered SUCCESS was moved, place by place, by acts of its own pieces.
use Rattle.machine_laws.proofs.Common.{◌≡◌, ◌<◌, inl, inr, ℕ, zero, suc, ◌+◌, ◌-◌, ◌*◌, ◌/◌, ◌==◌, ◌&&◌, Bool, true, false, not, List, [], ◌∷◌, ◌++◌, Option, Some, None, refl, sym, ◌∙◌, ap, subst, arith, length, take, drop, get_or, lit<, list_all, concat, zero-div, and_parts, eqb-true, All-contains, Contains-append_right, NtStatus, Success, DeviceBusy, DeletePending, InvalidHandle, InvalidParameter, when, first_some, Extent, IsSector, Acted, Act, Kind, Read, Write, Flush, ClientRequest, Label, Call, Device, Answer, Rules, as_faithful, is_transfer, is_in_bounds, first_sector, place_count, Mark, Untouched, Owed, State, refusal, is_full, Admits, Opens, Acts, Transfers, partition_number, array_at, array_of, Answers, is_done, bytes_of_mark, answer_bytes, Step, Run, IsSame-refl, IsSame-sym, Run-append, Sometime, IsNoAnswerOf, sector_at, sector_of, part_of, bytes_for, MovesPlace, bytes_due, AnsweredWasMoved}
use Rattle.std.specs.Prelude.{IsTrue, IsNone, All, Contains, slice_get, is_none, if◌then◌else◌}
use Rattle.machine_laws.proofs.Acted.{moves_faithfully}
use Rattle.machine_laws.proofs.Chunks.{chunk, concat_chunk, range_chunk}
use Rattle.machine_laws.proofs.Going.{labels_are_of_one}
use Rattle.machine_laws.proofs.Once.{answers_once}
use Rattle.machine_laws.proofs.Sectors.{part_is, bytes_are, act_writes, is_act}
use Rattle.machine_laws.proofs.Served.{IsDoneRightly, rightly_done, read_part}
use Rattle.machine_laws.proofs.Serving.{IsRightFate, IsMine, Serves, ActsRightly, acts_by, Serves-same, Serves-Step}
use Rattle.machine_laws.proofs.SoloRead.{part_right}
use Rattle.machine_laws.proofs.Sound.{IsSound, IsSound-Step, IsSound-reached, called_sound, called_serves}

-- AN ACT

-- a read's sector is whole, a write's is the call's, and a flush's has no byte
abbrev IsToldOf : Rules → ClientRequest → Kind → ℕ → List ℕ → Type 0
IsToldOf rules q Read k sector = IsSector rules.sector_size sector
IsToldOf rules q Write k sector = sector ≡ bytes_for rules q k
IsToldOf rules q Flush k sector = sector ≡ []

no_chunk : (size k : ℕ) (bytes : List ℕ) → bytes ≡ [] → chunk size k bytes ≡ []
no_chunk size k bytes e = rw e (none size (k * size) [] refl)
  where
    none : (n m : ℕ) (xs : List ℕ) → xs ≡ [] → take n (drop m xs) ≡ []
    none zero m [] e = refl
    none (suc n) zero [] e = refl
    none (suc n) (suc m) [] e = refl
    none n m (x ∷ xs) e = cc (e)

only_one : (sectors : List (List ℕ)) (j : ℕ) (d : List ℕ) → sectors ≡ [] ∷ [] → j < length sectors → get_or sectors j d ≡ []
only_one (x ∷ []) zero d e low = cc (e)
only_one (x ∷ []) (suc j) d e low = absurd (omega arith)
only_one [] j d e low = cc (e)
only_one (x ∷ (y ∷ ys)) j d e low = cc (e)

-- what an act hands over for a place is a part of its bytes
part_of_act : (rules : Rules) (s : State) (q : ClientRequest) (places : Extent) (kind : Kind) (sectors : List (List ℕ)) (arrays' : List (List (List ℕ))) → Transfers rules s q places kind sectors arrays'
    → (j : ℕ) (d : List ℕ) → j < length sectors → chunk rules.sector_size j (concat sectors) ≡ get_or sectors j d
part_of_act rules s q places Read sectors arrays' h j d low = sym (concat_chunk rules.sector_size sectors j d h.1 low)
part_of_act rules s q places Write sectors arrays' h j d low = sym (concat_chunk rules.sector_size sectors j d h.1 low)
part_of_act rules s q places Flush sectors arrays' h j d low =
    no_chunk rules.sector_size j (concat sectors) (ap concat h.0) ∙ sym (only_one sectors j d h.0 low)

told_by_act : (rules : Rules) (s : State) (q : ClientRequest) (places : Extent) (kind : Kind) (sectors : List (List ℕ)) (arrays' : List (List (List ℕ))) → length sectors ≡ places.count
    → Transfers rules s q places kind sectors arrays' → (j : ℕ) (d : List ℕ) → j < length sectors → IsToldOf rules q kind (places.first + j) (get_or sectors j d)
told_by_act rules s q places Read sectors arrays' covers h j d low = h.1 j d low
told_by_act rules s q places Write sectors arrays' covers h j d low =
    concat_chunk rules.sector_size sectors j d h.1 low ∙ ap (λ ys. chunk rules.sector_size j ys) h.0
    ∙ range_chunk rules.sector_size places.first places.count j q.bytes (rw (← covers) low) ∙ sym (bytes_are rules q (places.first + j))
told_by_act rules s q places Flush sectors arrays' covers h j d low = only_one sectors j d h.0 low

module _ (rules : Rules) (s : State) (n : ℕ) (bytes : List ℕ) (s' : State) (sound : IsSound rules s) (h : Acts rules s n bytes s') (j : ℕ) (d : List ℕ) (low : j < length h.sectors) where
  abbrev Stands : Type 0
  Stands = sector_at s' (partition_number h.owner.request) (sector_of rules h.owner.request (h.piece.places.first + j)) ≡ Some (get_or h.sectors j d)

  stands_read : Transfers (as_faithful rules) s h.owner.request h.piece.places Read h.sectors h.arrays' → Stands
  stands_read moves =
      let sum : sector_of rules h.owner.request (h.piece.places.first + j) ≡ first_sector rules h.owner.request + h.piece.places.first + j = omega arith in
      ap (λ arrays. slice_get (array_at arrays (partition_number h.owner.request)) (sector_of rules h.owner.request (h.piece.places.first + j))) (h.after.arrays ∙ moves.2)
      ∙ ap (λ i. slice_get (array_of s h.owner.request) i) sum
      ∙ part_right (array_of s h.owner.request) h.sectors (first_sector rules h.owner.request + h.piece.places.first) h.piece.places.count h.covers (moves.0 refl) j d low

  stands_written : Transfers (as_faithful rules) s h.owner.request h.piece.places h.owner.request.kind h.sectors h.arrays' → h.owner.request.kind ≡ Write
      → get_or h.sectors j d ≡ bytes_for rules h.owner.request (h.piece.places.first + j) → Stands
  stands_written moves w told =
      let sum : sector_of rules h.owner.request (h.piece.places.first + j) ≡ first_sector rules h.owner.request + h.piece.places.first + j = omega arith in
      ap (λ arrays. slice_get (array_at arrays (partition_number h.owner.request)) (sector_of rules h.owner.request (h.piece.places.first + j))) h.after.arrays
      ∙ ap (λ i. slice_get (array_at h.arrays' (partition_number h.owner.request)) i) sum
      ∙ act_writes rules s n bytes s' sound h moves w j (rw (← h.covers) low) ∙ ap Some (sym told)

  -- where acts read and write the arrays, the sector of the place has what the act hands over for it
  stands : IsTrue rules.faithful → IsTrue (is_transfer h.owner.request.kind) → Stands
  stands faithful transfer = by_kind h.owner.request.kind refl
    where
      moves : Transfers (as_faithful rules) s h.owner.request h.piece.places h.owner.request.kind h.sectors h.arrays'
      moves = moves_faithfully rules s h.owner.request h.piece.places h.owner.request.kind h.sectors h.arrays' faithful h.moves

      told : IsToldOf rules h.owner.request h.owner.request.kind (h.piece.places.first + j) (get_or h.sectors j d)
      told = told_by_act rules s h.owner.request h.piece.places h.owner.request.kind h.sectors h.arrays' h.covers h.moves j d low

      by_kind : (kind : Kind) → h.owner.request.kind ≡ kind → Stands
      by_kind Read e = stands_read (subst (λ kind. Transfers (as_faithful rules) s h.owner.request h.piece.places kind h.sectors h.arrays') e moves)
      by_kind Write e = stands_written moves e (subst (λ kind. IsToldOf rules h.owner.request kind (h.piece.places.first + j) (get_or h.sectors j d)) e told)
      by_kind Flush e = let flush : IsTrue (is_transfer Flush) = subst (λ kind. IsTrue (is_transfer kind)) e transfer in absurd (cc (flush))

  -- so it moves the place
  moves_place : MovesPlace rules h.owner.number (h.piece.places.first + j) (get_or h.sectors j d) s (Device (Act n bytes)) s'
  moves_place = record {
    act = is_act rules s (Device (Act n bytes)) s' n bytes refl h;
    is_request = refl;
    from = omega arith;
    below = below h.piece.places.first h.piece.places.count (rw (← h.covers) low);
    hands_over = ap (λ k. part_of rules bytes k) (back h.piece.places.first j) ∙ part_is rules bytes j ∙ ap (λ ys. chunk rules.sector_size j ys) h.hands_over
        ∙ part_of_act rules s h.owner.request h.piece.places h.owner.request.kind h.sectors h.arrays' h.moves j d low;
    stands = stands;
  }
    where
      below : (first count : ℕ) → j < count → first + j < first + count
      below first count l = omega arith

      back : (first k : ℕ) → first + k - first ≡ k
      back first k = omega arith

-- FROM THE CALL TO THE ANSWER

-- some act of the request moved the place, with these bytes
abbrev Got : Rules → ClientRequest → (ℕ → List ℕ → Type 0) → List (List (List ℕ)) → ℕ → List ℕ → Type 0
Got rules q Moved arrays k sector = IsToldOf rules q q.kind k sector × Moved k sector

module _ (rules : Rules) (number : ℕ) (q : ClientRequest) (Moved : ℕ → List ℕ → Type 0) where
  acts_rightly : (s s' : State) (n : ℕ) (bytes : List ℕ) → IsSound rules s → Serves rules number q (Got rules q Moved) s → (h : Acts rules s n bytes s')
      → ((k : ℕ) (sector : List ℕ) → MovesPlace rules number k sector s (Device (Act n bytes)) s' → Moved k sector) → ActsRightly rules number (Got rules q Moved) s n bytes s' h
  acts_rightly s s' n bytes sound k h lift = record { keeps = λ j sector right. right; leaves = leaves }
    where
      leaves : h.piece.owner ≡ number → IsRightFate (Got rules q Moved h.arrays') h.piece.places.first (Acted h.sectors)
      leaves e j d low =
          let same : h.owner.request ≡ q = (All-contains (IsMine number q (Got rules q Moved s.arrays)) s.requests h.owner k.mine h.is_open (h.is_owner ∙ e)).request in (
            subst (λ r. IsToldOf rules r r.kind (h.piece.places.first + j) (get_or h.sectors j d)) same
                (told_by_act rules s h.owner.request h.piece.places h.owner.request.kind h.sectors h.arrays' h.covers h.moves j d low),
            lift (h.piece.places.first + j) (get_or h.sectors j d)
                (subst (λ r. MovesPlace rules r (h.piece.places.first + j) (get_or h.sectors j d) s (Device (Act n bytes)) s') (h.is_owner ∙ e) (moves_place rules s n bytes s' sound h j d low)),
          )

  serves_along : (s : State) (labels : List Label) (s' : State) → IsSound rules s → Serves rules number q (Got rules q Moved) s → (run : Run rules s labels s')
      → ((k : ℕ) (sector : List ℕ) → Sometime (MovesPlace rules number k sector) rules s labels s' run → Moved k sector) → Serves rules number q (Got rules q Moved) s'
  serves_along s [] s' sound k run lift = Serves-same rules number q (Got rules q Moved) s' s (IsSame-sym s s' run) k
  serves_along s (label ∷ labels) s' sound k run lift =
      serves_along run.0 labels s' (IsSound-Step rules s label run.0 sound run.1)
      (Serves-Step rules number q (Got rules q Moved) s label run.0 sound.0 (acts_by rules number (Got rules q Moved) s label run.0 by_label) k run.1) run.2
      (λ j sector later. lift j sector (inr later))
    where
      by_label : (n : ℕ) (bytes : List ℕ) (h : Acts rules s n bytes run.0) → label ≡ Device (Act n bytes) → ActsRightly rules number (Got rules q Moved) s n bytes run.0 h
      by_label n bytes h e = acts_rightly s run.0 n bytes sound k h (λ j sector moves. lift j sector (inl (subst (λ l. MovesPlace rules number j sector s l run.0) (sym e) moves)))

bytes_are_due : (rules : Rules) (q : ClientRequest) (kind : Kind) (marks : List Mark) (bytes : List ℕ) (place : ℕ) → list_all is_done marks ≡ true → bytes ≡ answer_bytes kind marks
    → ((k : ℕ) (d : Mark) → k < length marks → IsToldOf rules q kind k (bytes_of_mark (get_or marks k d))) → place < length marks
    → bytes_of_mark (get_or marks place Untouched) ≡ bytes_due rules q kind bytes place
bytes_are_due rules q Read marks bytes place done is_bytes told low = sym (read_part rules Read marks bytes place refl done told is_bytes low)
bytes_are_due rules q Write marks bytes place done is_bytes told low = told place Untouched low
bytes_are_due rules q Flush marks bytes place done is_bytes told low = told place Untouched low

opened_was_moved : (rules : Rules) (number : ℕ) (q : ClientRequest) (bytes : List ℕ) (before called : State) (labels : List Label) (ended after : State) → IsSound rules before → Opens rules before number q called
    → (run : Run rules called labels ended) → Answers rules ended number Success bytes after
    → (place : ℕ) → place < place_count rules q → Sometime (MovesPlace rules number place (bytes_due rules q q.kind bytes place)) rules called labels ended run
opened_was_moved rules number q bytes before called labels ended after sound opens run answers place low =
    let k : Serves rules number q (Got rules q Moved) ended =
    serves_along rules number q Moved called labels ended (called_sound rules before number q called sound opens) (called_serves rules before number q (Got rules q Moved) called sound opens) run (λ j sector moved. moved) in
    let done : IsDoneRightly rules q (Got rules q Moved ended.arrays) answers.request = rightly_done rules number q (Got rules q Moved) ended bytes after k answers in
    let low' : place < length answers.request.marks = rw done.count low in
    let hands_back : bytes ≡ answer_bytes q.kind answers.request.marks = answers.hands_back ∙ ap (λ r. answer_bytes r.kind answers.request.marks) done.request in
    subst (Moved place) (bytes_are_due rules q q.kind answers.request.marks bytes place done.done hands_back (λ j d within. (done.right j d within).0) low') (done.right place Untouched low').1
  where
    Moved : ℕ → List ℕ → Type 0
    Moved j sector = Sometime (MovesPlace rules number j sector) rules called labels ended run

-- A CALL THAT IS REFUSED

-- of the refusals only an empty transfer is a success
success_last : (a b c d e : Bool)
    → first_some (when a InvalidHandle ∷ when b DeletePending ∷ when c InvalidParameter ∷ when d Success ∷ when e DeviceBusy ∷ []) ≡ Some Success → d ≡ true
success_last true b c d e h = cc (h)
success_last false true c d e h = cc (h)
success_last false false true d e h = cc (h)
success_last false false false true e h = refl
success_last false false false false true h = cc (h)
success_last false false false false false h = cc (h)

-- which has no place
none_empty : (kind : Kind) (n size k : ℕ) → n ≡ 0 → is_transfer kind ≡ true → k < (if is_transfer kind then n / size else 1) → ⊥
none_empty Read n size k empty transfer low = let e : n / size ≡ 0 = ap (λ m. m / size) empty ∙ zero-div size in absurd (omega arith)
none_empty Write n size k empty transfer low = let e : n / size ≡ 0 = ap (λ m. m / size) empty ∙ zero-div size in absurd (omega arith)
none_empty Flush n size k empty transfer low = absurd (cc (transfer))

pub refused_nowhere : (rules : Rules) (s : State) (q : ClientRequest) → refusal rules s q ≡ Some Success → (place : ℕ) → place < place_count rules q → ⊥
refused_nowhere rules s q refused place low =
    let empty : (is_transfer q.kind && (q.length == 0)) ≡ true =
    success_last (is_none q.partition) s.removing (is_transfer q.kind && not (is_in_bounds rules q)) (is_transfer q.kind && (q.length == 0)) (is_full rules.open_requests (length s.requests)) refused in
    let parts = and_parts (is_transfer q.kind) _ empty in
    none_empty q.kind q.length rules.sector_size place (eqb-true q.length 0 parts.1) parts.0 low

abbrev is_owed : ℕ → NtStatus → Option Owed
is_owed number status = Some (record { number = number; status = status })

abbrev owed_of : Option Owed → Owed
owed_of (Some owed) = owed
owed_of None = record { number = 0; status = Success }

-- the next label is the answer of a refused call, and no other answer of its number comes
refused_status : (rules : Rules) (number : ℕ) (q : ClientRequest) (informed : ℕ) (bytes : List ℕ) (before called : State) (labels : List Label) (ended after : State) (status : NtStatus)
    → IsSound rules before → Step rules before (Call number q) called → called.owed ≡ is_owed number status → Run rules called labels ended → Step rules ended (Answer number Success informed bytes) after
    → status ≡ Success
refused_status rules number q informed bytes before called labels ended after status sound call owed run answer = along labels run
  where
    same_owed : (n m : ℕ) (a b : NtStatus) → is_owed n a ≡ is_owed m b → (n ≡ m) × (a ≡ b)
    same_owed n m a b e = (ap (λ w. (owed_of w).number) e, ap (λ w. (owed_of w).status) e)

    not_free : (s : State) (n : ℕ) (st : NtStatus) → s.owed ≡ is_owed n st → IsNone s.owed → ⊥
    not_free s n st e free = let none : IsNone (is_owed n st) = rw e at free in cc (none)

    at_once : (s : State) → s.owed ≡ is_owed number status → Step rules s (Answer number Success informed bytes) after → status ≡ Success
    at_once s e (inl h) = absurd (not_free s number status e h.0)
    at_once s e (inr h) = (same_owed number number status Success (sym e ∙ h.is_owed)).1

    free_before : IsNone before.owed
    free_before = by_step call
      where
        by_step : Step rules before (Call number q) called → IsNone before.owed
        by_step (inl h) = h.0
        by_step (inr h) = absurd h

    -- the answer that is owed comes, so this one would be a second
    twice : (n : ℕ) (st : NtStatus) (informed' : ℕ) (bytes' : List ℕ) (mid : State) (rest : List Label) → n ≡ number → Step rules called (Answer n st informed' bytes') mid → Run rules mid rest ended → ⊥
    twice n st informed' bytes' mid rest e step more =
        let last : Run rules ended (Answer number Success informed bytes ∷ []) after = (after, answer, IsSame-refl after) in
        let all : Run rules before (Call number q ∷ (Answer n st informed' bytes' ∷ (rest ++ Answer number Success informed bytes ∷ []))) after =
        (called, call, (mid, step, Run-append rules mid rest ended (Answer number Success informed bytes ∷ []) after more last)) in
        let none : All (IsNoAnswerOf n) (rest ++ Answer number Success informed bytes ∷ []) =
        answers_once rules before sound.0 free_before (Call number q ∷ []) n st informed' bytes' (rest ++ Answer number Success informed bytes ∷ []) after all in
        let there : Contains (rest ++ Answer number Success informed bytes ∷ []) (Answer number Success informed bytes) =
        Contains-append_right rest (Answer number Success informed bytes ∷ []) (Answer number Success informed bytes) (0, lit< tt, refl) in
        All-contains (IsNoAnswerOf n) (rest ++ Answer number Success informed bytes ∷ []) (Answer number Success informed bytes) none there (sym e)

    along : (labels : List Label) → Run rules called labels ended → status ≡ Success
    along [] same = at_once ended (sym same.owed ∙ owed) answer
    along (Answer n st informed' bytes' ∷ rest) (mid, inr h, more) = absurd (twice n st informed' bytes' mid rest (same_owed n number st status (sym h.is_owed ∙ owed)).0 (inr h) more)
    along (label ∷ rest) (mid, inl h, more) = absurd (not_free called number status owed h.0)
    along (label ∷ rest) (mid, inr h, more) = absurd h

pub answered_was_moved : AnsweredWasMoved
answered_was_moved rules number q informed bytes before called labels ended after reached call run answer place low = by_refusal (refusal rules before q) refl
  where
    sound : IsSound rules before
    sound = IsSound-reached rules before reached

    refused : (status : NtStatus) → refusal rules before q ≡ Some status → Step rules before (Call number q) called → called.owed ≡ is_owed number status
    refused status e (inl h) = (subst (λ why. Admits rules before number q why called) e h.1.admits).after.owed
    refused status e (inr h) = absurd h

    by_refusal : (why : Option NtStatus) → refusal rules before q ≡ why → Sometime (MovesPlace rules number place (bytes_due rules q q.kind bytes place)) rules called labels ended run
    by_refusal None e =
        let both : Opens rules before number q called × Answers rules ended number Success bytes after = labels_are_of_one rules number q Success informed bytes before called labels ended after e call run answer in
        opened_was_moved rules number q bytes before called labels ended after sound both.0 run both.1 place low
    by_refusal (Some status) e =
        let success : status ≡ Success = refused_status rules number q informed bytes before called labels ended after status sound call (refused status e call) run answer in
        absurd (refused_nowhere rules before q (e ∙ ap Some success) place low)
