-- Each state that the machine's step leads to is found, up to the order of requests and pieces.
use Rattle.std.proofs.Common.{◌≡◌, inl, inr, ℕ, ◌+◌, List, [], ◌∷◌, ◌++◌, Option, Some, None, refl, sym, ◌∙◌, ap, subst}
use Rattle.std.specs.Prelude.{IsPermutation, Result, Ok, Err}
use Rattle.std.proofs.lemmas.List.Sorted.{IsPermutation-refl, IsPermutation-sym, IsPermutation-trans, IsPermutation-cons, IsPermutation-to_front}
use Rattle.ntstatus.specs.declared.NtStatus.{NtStatus}
use Rattle.cdb.specs.declared.Cdb.{Cdb}
use Rattle.srb.specs.declared.Class.{Class}
use Rattle.srb.specs.declared.Class.TheVariants.{Good, Busy, Bad}
use Rattle.srb.specs.declared.DeviceLabel.{DeviceLabel}
use Rattle.srb.specs.declared.DeviceLabel.TheVariants.{Start, Act, Fault, Return}
use Rattle.srb.specs.Fate.{Acted, Faulted}
use Rattle.machine.specs.declared.ClientRequest.{ClientRequest}
use Rattle.machine.specs.declared.Label.{Label}
use Rattle.machine.specs.declared.Label.TheVariants.{Call, Device, Answer, Cancel, Pause, Resume, Remove, Surprise, Removed}
use Rattle.machine.specs.Rules.{Rules}
use Rattle.machine.specs.State.{Mark, OpenRequest, Piece, Owed, State, IsSame}
use Rattle.machine.specs.Calling.{refusal, Admits, Calls, new_request}
use Rattle.machine.specs.Sending.{Starts, Acts, Faults, Returns, LeavesMarks, command_for, new_piece, sent, with_fate, given_back}
use Rattle.machine.specs.Answering.{AnswersWith}
use Rattle.machine.specs.Holding.{Cancels, as_cancelled}
use Rattle.machine.specs.Numbers.{AreDistinct, request_number, piece_number}
use Rattle.machine.specs.Step.{DeviceStep, FreeStep, OwingStep, Step}
use Rattle.machine.proofs.Same.{IsSame-trans, IsSame-reordered}
use Rattle.trace_line.specs.Lines.{StartIsOf, DeviceIsOf, LabelIsOf}
use Rattle.judge.specs.declared.start_rules.StartRule.{StartRule}
use Rattle.judge.specs.declared.reading.Told.{Told}
use Rattle.judge.specs.Picking.{choices}
use Rattle.judge.specs.Deciding.{sectors_moved}
use Rattle.judge.specs.StartRuling.{startable}
use Rattle.judge.specs.LabelRuling.{IsReadAs, IsDeviceRead, IsReadOf}
use Rattle.judge.specs.Next.{placed, admitted, called, answered_of, answered, repaid, started_by, started_of, started_each, started, arrays_after, acted_by, acted_of, acted, faulted_of, faulted, marks_of_fate, marks_left, returned_by, returned_of, returned, cancelled_of, cancelled, device_after, free_after, after_of}
use Rattle.judge.proofs.Picking.{unplaced, Gives, at_taken, at_one, chosen, Among, among_option, among_flat_map}
use Rattle.judge.proofs.Moving.{moves_only}
use Rattle.judge.proofs.AllPlaces.{HaveAllPlaces}
use Rattle.judge.proofs.RefutingPieces.{asks_so}
use Rattle.judge.proofs.NamedStarts.{startable_so}

-- an item from the front to the end of others in another order
to_end : {X : Type 0} (xs ys : List X) (x : X) → IsPermutation xs ys → IsPermutation (x ∷ xs) (ys ++ x ∷ [])
to_end xs ys x p = IsPermutation-trans _ _ _ (IsPermutation-cons x _ _ p) (IsPermutation-sym _ _ (IsPermutation-to_front ys x))

-- and to its place
to_place : (xs ys : List OpenRequest) (o : OpenRequest) → IsPermutation xs ys → IsPermutation (o ∷ xs) (placed o ys)
to_place xs ys o p = IsPermutation-trans _ _ _ (IsPermutation-cons o _ _ p) (IsPermutation-sym _ _ (unplaced o ys))

module _ (rules : Rules) (s : State) (d : AreDistinct s) (whole : HaveAllPlaces rules s) (s' : State) where
  -- CALLS AND ANSWERS

  admits : (q : ClientRequest) (answer : Option NtStatus) → Admits rules s s.next_request q answer s' → IsSame s' (admitted rules s q answer)
  admits q None h =
      IsSame-trans _ _ _ h.after (IsSame-reordered (record s { next_request = s.next_request + 1 }) _ _ _ _ (to_end s.requests s.requests (new_request rules s s.next_request q) (IsPermutation-refl _)) (IsPermutation-refl s.pieces))
  admits q (Some status) h = h.after

  calls : (number : ℕ) (q : ClientRequest) → Calls rules s number q s' → IsSame s' (called rules s q)
  calls number q h = admits q (refusal rules s q) (subst (λ n. Admits rules s n q (refusal rules s q) s') h.next_number h.admits)

  answers : (number : ℕ) (status : NtStatus) (informed : ℕ) (bytes : List ℕ) → AnswersWith rules s number status informed bytes s' → Gives (IsSame s') (answered s number)
  answers number status informed bytes k =
      at_taken request_number number (λ o. Gives (IsSame s') (answered_of s o)) s.requests k.answers.request k.answers.others d.requests k.answers.is_open k.answers.is_number (λ rest p.
      IsSame-trans _ _ _ k.answers.after (IsSame-reordered s _ _ _ _ p (IsPermutation-refl s.pieces)))

  -- STARTS

  -- a start by the request that the step names is found
  starts : (number tag : ℕ) (block : List ℕ) (owner : Option ℕ) (read : Result Cdb StartRule) → IsReadAs block read → Starts rules s number tag block s' → StartIsOf s s' owner
      → Among (IsSame s') (started rules s tag owner read)
  starts number tag block owner read is h mine = by read refl
    where
      same : (rest : List OpenRequest) → IsPermutation h.others rest → IsSame s' (started_by s tag h.owner rest h.places)
      same rest p = IsSame-trans _ _ _ h.after (IsSame-reordered (record s { next_piece = s.next_piece + 1 }) _ _ _ _
          (to_place h.others rest (sent h.places h.owner) p) (to_end s.pieces s.pieces (new_piece s tag h.owner h.places) (IsPermutation-refl _)))

      each : (command : Cdb) → startable rules s owner command h.owner ≡ Some h.places → (c : OpenRequest × List OpenRequest) → (c.0 ≡ h.owner) × IsPermutation h.others c.1
          → Among (IsSame s') (started_each rules s tag owner command c)
      each command found c (e, p) =
          subst (λ o. Among (IsSame s') (started_of s tag o c.1 (startable rules s owner command o))) (sym e)
          (rw found (inl (same c.1 p)))

      by : (r : Result Cdb StartRule) → read ≡ r → Among (IsSame s') (started rules s tag owner r)
      by (Ok command) e =
          let found : startable rules s owner command h.owner ≡ Some h.places =
          startable_so rules s whole owner number tag block h.next_number h.on_tag command ((is.command command).0 e).asks ((is.command command).0 e).plain (λ c m. is.only command c e m)
          h.owner h.places (asks_so rules s number tag block s' h owner mine) h.may_start h.sendable in
          among_flat_map (started_each rules s tag owner command) (λ c. (c.0 ≡ h.owner) × IsPermutation h.others c.1) (IsSame s') (each command found) (choices s.requests) (chosen s.requests h.owner h.others h.is_open)
      by (Err r) e =
          let own : read ≡ Ok (command_for rules h.owner.request h.places h.owner.request.kind) = (is.command _).1 (record { asks = h.asks; plain = h.plain }) in
          absurd (cc (e, own))

  -- ACTS, FAULTS AND RETURNS

  acts : (number : ℕ) (bytes : List ℕ) → Acts rules s number bytes s' → Gives (IsSame s') (acted rules s number bytes)
  acts number bytes h = at_taken piece_number number (λ o. Gives (IsSame s') (acted_of rules s bytes o)) s.pieces h.piece h.other_pieces d.pieces h.fresh.is_out h.fresh.is_number piece_found
    where
      moved : (h.sectors ≡ sectors_moved rules h.piece.places.count h.owner.request.kind bytes)
          × (h.arrays' ≡ arrays_after rules s.arrays h.owner.request h.piece.places h.owner.request.kind (sectors_moved rules h.piece.places.count h.owner.request.kind bytes))
      moved = moves_only rules s h.owner.request h.piece.places h.owner.request.kind bytes h.sectors h.arrays' (record { covers = h.covers; moves = h.moves; hands_over = h.hands_over })

      piece_found : (pieces : List Piece) → IsPermutation h.other_pieces pieces → Gives (IsSame s') (acted_of rules s bytes (Some (h.piece, pieces)))
      piece_found pieces p = at_one request_number h.piece.owner (λ o. Gives (IsSame s') (acted_by rules s bytes h.piece pieces o)) s.requests h.owner d.requests h.is_open h.is_owner
          (subst (λ (t : List (List ℕ) × List (List (List ℕ))). IsSame s' (record s {
            arrays = t.1;
            pieces = pieces ++ with_fate (Acted t.0) h.piece ∷ [];
          })) (cc (moved.0, moved.1))
          (IsSame-trans _ _ _ h.after (IsSame-reordered (record s { arrays = h.arrays' }) _ _ _ _
          (IsPermutation-refl s.requests) (to_end h.other_pieces pieces (with_fate (Acted h.sectors) h.piece) p))))

  faults : (number : ℕ) → Faults s number s' → Gives (IsSame s') (faulted s number)
  faults number h = at_taken piece_number number (λ o. Gives (IsSame s') (faulted_of s o)) s.pieces h.piece h.other_pieces d.pieces h.fresh.is_out h.fresh.is_number (λ pieces p.
      IsSame-trans _ _ _ h.after (IsSame-reordered s _ _ _ _ (IsPermutation-refl s.requests) (to_end h.other_pieces pieces (with_fate Faulted h.piece) p)))

  leaves : (piece : Piece) (class : Class) (marks : List Mark) → LeavesMarks piece class marks → marks_left piece class ≡ marks
  leaves piece Good marks h = ap marks_of_fate h.1 ∙ sym h.2
  leaves piece Busy marks h = sym h.1
  leaves piece (Bad completion) marks h = sym h.1

  returns : (number : ℕ) (class : Class) → Returns s number class s' → Gives (IsSame s') (returned s number class)
  returns number class h = at_taken piece_number number (λ o. Gives (IsSame s') (returned_of s class o)) s.pieces h.piece h.other_pieces d.pieces h.is_out h.is_number (λ pieces p.
      at_taken request_number h.piece.owner (λ o. Gives (IsSame s') (returned_by s class h.piece pieces o)) s.requests h.owner h.others d.requests h.is_open h.is_owner (λ rest r.
      subst (λ (ms : List Mark). IsSame s' (record s { requests = placed (given_back h.piece class ms h.owner) rest; pieces = pieces })) (sym (leaves h.piece class h.marks h.leaves))
      (IsSame-trans _ _ _ h.after (IsSame-reordered s _ _ _ _ (to_place h.others rest (given_back h.piece class h.marks h.owner) r) p))))

  -- CANCELLATION, THE HOLD AND REMOVAL

  cancels : (number : ℕ) → Cancels s number s' → Gives (IsSame s') (cancelled s number)
  cancels number h = at_taken request_number number (λ o. Gives (IsSame s') (cancelled_of s o)) s.requests h.request h.others d.requests h.is_open h.is_number (λ rest p.
      IsSame-trans _ _ _ h.after (IsSame-reordered s _ _ _ _ (to_place h.others rest (as_cancelled h.request) p) (IsPermutation-refl s.pieces)))

  -- EACH LABEL

  module _ (told : Told) where
    device_found : (label : DeviceLabel) → IsDeviceRead label told.read → DeviceStep rules s label s' → DeviceIsOf s s' label told.owner → Among (IsSame s') (device_after rules told s label)
    device_found (Start number tag block) read h mine = starts number tag block told.owner told.read read h mine
    device_found (Act number bytes) read h mine = among_option (IsSame s') _ (acts number bytes h)
    device_found (Fault number) read h mine = among_option (IsSame s') _ (faults number h)
    device_found (Return number class) read h mine = among_option (IsSame s') _ (returns number class h)

    free_found : (label : Label) → IsReadOf label told.read → FreeStep rules s label s' → LabelIsOf s s' label told.owner → Among (IsSame s') (free_after rules told s label)
    free_found (Call number q) read h mine = inl (calls number q h)
    free_found (Device label) read h mine = device_found label read h mine
    free_found (Answer number status informed bytes) read h mine = among_option (IsSame s') _ (answers number status informed bytes h)
    free_found (Cancel number) read h mine = among_option (IsSame s') _ (cancels number h)
    free_found Pause read h mine = inl h.after
    free_found Resume read h mine = inl h.after
    free_found Remove read h mine = inl h.after
    free_found Surprise read h mine = inl h.drains
    free_found Removed read h mine = inl h.after

    none_owing : (label : Label) → s.owed ≡ None → OwingStep s label s' → ⊥
    none_owing (Answer number status informed bytes) e h = cc (e, h.is_owed)
    none_owing _ e h = h

    owing_found : (label : Label) → OwingStep s label s' → IsSame s' (repaid s)
    owing_found (Answer number status informed bytes) h = h.after
    owing_found _ h = absurd h

    pub steps_found : (label : Label) → IsReadOf label told.read → Step rules s label s' → LabelIsOf s s' label told.owner → Among (IsSame s') (after_of rules told s label s.owed)
    steps_found label read step mine = by s.owed refl step
      where
        by : (owed : Option Owed) → s.owed ≡ owed → Step rules s label s' → Among (IsSame s') (after_of rules told s label owed)
        by None e (inl h) = free_found label read h.1 mine
        by None e (inr h) = absurd (none_owing label e h)
        by (Some owed) e (inl h) = cc (e, h.0)
        by (Some owed) e (inr h) = inl (owing_found label h)
