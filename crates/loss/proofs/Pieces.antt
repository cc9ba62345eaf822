-- Pieces of a request that was called later have later numbers.
use Rattle.std.proofs.Common.{◌≡◌, ◌≤◌, inl, inr, ℕ, List, ◌∷◌, Option, Some, None, arith}
use Rattle.std.specs.Prelude.{IsPermutation, All}
use Rattle.std.proofs.lemmas.List.Sorted.{IsPermutation-sym, All-permutation}
use Rattle.std.proofs.lemmas.List.Elements.{All-cons, All-tail}
use Rattle.ntstatus.specs.declared.NtStatus.{NtStatus}
use Rattle.srb.specs.Fate.{Fate, Acted, Faulted}
use Rattle.srb.specs.declared.DeviceLabel.TheVariants.{Start, Act, Fault, Return}
use Rattle.machine.specs.declared.Label.{Label}
use Rattle.machine.specs.declared.Label.TheVariants.{Call, Device, Answer, Cancel, Pause, Resume, Remove, Surprise, Removed}
use Rattle.machine.specs.Rules.{Rules}
use Rattle.machine.specs.State.{Piece, State}
use Rattle.machine.specs.Calling.{Admits, refusal}
use Rattle.machine.specs.Sending.{with_fate}
use Rattle.machine.specs.Step.{Step}
use Rattle.machine.proofs.Permuting.{All-changed}

-- the piece is of another request, or has this number or a later one
abbrev pub IsLate : ℕ → ℕ → Piece → Type 0
IsLate request first piece = piece.owner ≡ request → first ≤ piece.number

abbrev pub AreLate : ℕ → ℕ → State → Type 0
AreLate request first s = All (IsLate request first) s.pieces

pub record Rises (s s' : State) : Type 0 where
  pub rises : s.next_piece ≤ s'.next_piece
  pub late : (request first : ℕ) → first ≤ s.next_piece → AreLate request first s → AreLate request first s'

pub same_pieces : (s s' : State) → s'.next_piece ≡ s.next_piece → IsPermutation s'.pieces s.pieces → Rises s s'
same_pieces s s' e p = record { rises = omega (arith, e); late = λ request first low late. All-permutation (IsLate request first) s.pieces s'.pieces (IsPermutation-sym _ _ p) late }

other_fate : (s s' : State) (piece : Piece) (others : List Piece) (fate : Fate) → s'.next_piece ≡ s.next_piece → IsPermutation s.pieces (piece ∷ others) → IsPermutation s'.pieces (with_fate fate piece ∷ others) → Rises s s'
other_fate s s' piece others fate e p p' = record {
  rises = omega (arith, e);
  late = λ request first low late.
      All-permutation (IsLate request first) (with_fate fate piece ∷ others) s'.pieces (IsPermutation-sym _ _ p')
      (All-changed (IsLate request first) s.pieces piece (with_fate fate piece) others p late (λ (h : IsLate request first piece). h));
}

pub step_rises : (rules : Rules) (s : State) (label : Label) (s' : State) → Step rules s label s' → Rises s s'
step_rises rules s (Device (Start number tag block)) s' (inl h) = record {
  rises = omega (arith, h.1.after.next_piece);
  late = λ request first low late. All-permutation (IsLate request first) _ s'.pieces (IsPermutation-sym _ _ h.1.after.pieces) (All-cons (IsLate request first) _ s.pieces (λ mine. low) late);
}
step_rises rules s (Device (Act number bytes)) s' (inl h) = other_fate s s' h.1.piece h.1.other_pieces (Acted h.1.sectors) h.1.after.next_piece h.1.fresh.is_out h.1.after.pieces
step_rises rules s (Device (Fault number)) s' (inl h) = other_fate s s' h.1.piece h.1.other_pieces Faulted h.1.after.next_piece h.1.fresh.is_out h.1.after.pieces
step_rises rules s (Device (Return number class)) s' (inl h) = record {
  rises = omega (arith, h.1.after.next_piece);
  late = λ request first low late.
      All-permutation (IsLate request first) h.1.other_pieces s'.pieces (IsPermutation-sym _ _ h.1.after.pieces)
      (All-tail (IsLate request first) h.1.piece h.1.other_pieces (All-permutation (IsLate request first) _ _ h.1.is_out late));
}
step_rises rules s (Call number q) s' (inl h) = by_answer (refusal rules s q) h.1.admits
  where
    by_answer : (answer : Option NtStatus) → Admits rules s number q answer s' → Rises s s'
    by_answer None a = same_pieces s s' a.after.next_piece a.after.pieces
    by_answer (Some status) a = same_pieces s s' a.after.next_piece a.after.pieces
step_rises rules s (Answer number status informed bytes) s' (inl h) = same_pieces s s' h.1.answers.after.next_piece h.1.answers.after.pieces
step_rises rules s (Cancel number) s' (inl h) = same_pieces s s' h.1.after.next_piece h.1.after.pieces
step_rises rules s Pause s' (inl h) = same_pieces s s' h.1.after.next_piece h.1.after.pieces
step_rises rules s Resume s' (inl h) = same_pieces s s' h.1.after.next_piece h.1.after.pieces
step_rises rules s Remove s' (inl h) = same_pieces s s' h.1.after.next_piece h.1.after.pieces
step_rises rules s Surprise s' (inl h) = same_pieces s s' h.1.drains.next_piece h.1.drains.pieces
step_rises rules s Removed s' (inl h) = same_pieces s s' h.1.after.next_piece h.1.after.pieces
step_rises rules s (Answer number status informed bytes) s' (inr h) = same_pieces s s' h.after.next_piece h.after.pieces
step_rises rules s _ s' (inr h) = absurd h
