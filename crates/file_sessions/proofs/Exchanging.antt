-- A session over other arrays.
use Rattle.std.proofs.Common.{◌≡◌, inl, inr, ℕ, Bool, true, false, List, [], ◌∷◌, Option, Some, None, refl, sym, ◌∙◌}
use Rattle.std.specs.Prelude.{if◌then◌else◌}
use Rattle.ntstatus.specs.declared.NtStatus.{NtStatus}
use Rattle.sector.specs.declared.Extent.{Extent}
use Rattle.srb.specs.declared.Class.TheVariants.{Good, Busy, Bad}
use Rattle.srb.specs.declared.DeviceLabel.{DeviceLabel}
use Rattle.srb.specs.declared.DeviceLabel.TheVariants.{Start, Act, Fault, Return}
use Rattle.srb.specs.declared.Kind.{Kind}
use Rattle.srb.specs.declared.Kind.TheVariants.{Read, Write, Flush}
use Rattle.machine.specs.declared.ClientRequest.{ClientRequest}
use Rattle.machine.specs.declared.Label.{Label}
use Rattle.machine.specs.declared.Label.TheVariants.{Call, Device, Answer, Cancel, Pause, Resume, Remove, Surprise, Removed}
use Rattle.machine.specs.Calling.{Admits, refusal}
use Rattle.machine.specs.Rules.{Rules}
use Rattle.machine.specs.Sending.{IsFreshPiece, Transfers, written}
use Rattle.machine.specs.State.{IsSame, OpenRequest, Piece, State, opening}
use Rattle.machine.specs.Step.{DeviceStep, FreeStep, OwingStep, Step}
use Rattle.loss.specs.Moved.{IsOut, Moves, Table, TableRun, held_on}
use Rattle.loss.specs.Sessions.{BeginsOver, IsAtWork, MayBeLeft, MayRemain}
use Rattle.file_sessions.specs.Arrays.{AnyArraysDo}

module _ (rules : Rules) (apart : rules.faithful ≡ false) (arrays : List (List (List ℕ))) where
  abbrev set : State → State
  set s = record s { arrays = arrays }

  same_set : (s t : State) → IsSame s t → IsSame (set s) (set t)
  same_set s t h = record {
    arrays = refl;
    next_request = h.next_request;
    next_piece = h.next_piece;
    requests = h.requests;
    pieces = h.pieces;
    owed = h.owed;
    paused = h.paused;
    removing = h.removing;
    removed = h.removed;
  }

  -- STEPS

  kept : (faithful : Bool) (there : List (List (List ℕ))) → faithful ≡ false → arrays ≡ (if faithful then there else arrays)
  kept true there e = absurd (cc (e))
  kept false there e = refl

  moves_set : (s : State) (q : ClientRequest) (places : Extent) (kind : Kind) (sectors : List (List ℕ)) (arrays' : List (List (List ℕ)))
      → Transfers rules s q places kind sectors arrays' → Transfers rules (set s) q places kind sectors arrays
  moves_set s q places Read sectors arrays' h = (λ faithful. absurd (let no : true ≡ false = sym faithful ∙ apart in cc (no)), h.1, refl)
  moves_set s q places Write sectors arrays' h = (h.0, h.1, kept rules.faithful (written rules (set s) q places sectors) apart)
  moves_set s q places Flush sectors arrays' h = (h.0, refl)

  fresh_set : (s : State) (number : ℕ) (piece : Piece) (others : List Piece) → IsFreshPiece s number piece others → IsFreshPiece (set s) number piece others
  fresh_set s number piece others h = record { is_out = h.is_out; is_number = h.is_number; is_fresh = h.is_fresh }

  device_set : (s : State) (label : DeviceLabel) (s' : State) → DeviceStep rules s label s' → DeviceStep rules (set s) label (set s')
  device_set s (Start piece tag block) s' h = record {
    owner = h.owner;
    others = h.others;
    places = h.places;
    next_number = h.next_number;
    on_tag = h.on_tag;
    is_open = h.is_open;
    may_start = record { not_cancelled = h.may_start.not_cancelled; not_removing = h.may_start.not_removing; not_held = h.may_start.not_held; in_turn = h.may_start.in_turn };
    sendable = h.sendable;
    asks = h.asks;
    plain = h.plain;
    after = same_set s' _ h.after;
  }
  device_set s (Act piece bytes) s' h = record {
    piece = h.piece;
    other_pieces = h.other_pieces;
    owner = h.owner;
    sectors = h.sectors;
    arrays' = arrays;
    fresh = fresh_set s piece h.piece h.other_pieces h.fresh;
    is_open = h.is_open;
    is_owner = h.is_owner;
    covers = h.covers;
    moves = moves_set s h.owner.request h.piece.places h.owner.request.kind h.sectors h.arrays' h.moves;
    hands_over = h.hands_over;
    after = same_set s' _ h.after;
  }
  device_set s (Fault piece) s' h = record {
    piece = h.piece;
    other_pieces = h.other_pieces;
    fresh = fresh_set s piece h.piece h.other_pieces h.fresh;
    after = same_set s' _ h.after;
  }
  device_set s (Return piece class) s' h = record {
    piece = h.piece;
    other_pieces = h.other_pieces;
    owner = h.owner;
    others = h.others;
    marks = h.marks;
    is_out = h.is_out;
    is_number = h.is_number;
    is_open = h.is_open;
    is_owner = h.is_owner;
    leaves = h.leaves;
    after = same_set s' _ h.after;
  }

  admits_set : (s : State) (number : ℕ) (q : ClientRequest) (answer : Option NtStatus) (s' : State)
      → Admits rules s number q answer s' → refusal rules s q ≡ answer → Admits rules (set s) number q answer (set s')
  admits_set s number q None s' h e = record { new_number = h.new_number; not_refused = e; carries = h.carries; after = same_set s' _ h.after }
  admits_set s number q (Some status) s' h e = record { no_bytes = h.no_bytes; after = same_set s' _ h.after }

  free_set : (s : State) (label : Label) (s' : State) → FreeStep rules s label s' → FreeStep rules (set s) label (set s')
  free_set s (Device label) s' h = device_set s label s' h
  free_set s (Call number q) s' h = record { next_number = h.next_number; admits = admits_set s number q (refusal rules s q) s' h.admits refl }
  free_set s (Answer number status informed bytes) s' h = record {
    answers = record {
      request = h.answers.request;
      others = h.answers.others;
      is_open = h.answers.is_open;
      is_number = h.answers.is_number;
      ended = h.answers.ended;
      success = h.answers.success;
      cause = h.answers.cause;
      hands_back = h.answers.hands_back;
      after = same_set s' _ h.answers.after;
    };
    informs = h.informs;
  }
  free_set s (Cancel number) s' h = record { request = h.request; others = h.others; is_open = h.is_open; is_number = h.is_number; not_yet = h.not_yet; after = same_set s' _ h.after }
  free_set s Pause s' h = record { not_paused = h.not_paused; not_removing = h.not_removing; after = same_set s' _ h.after }
  free_set s Resume s' h = record { is_paused = h.is_paused; after = same_set s' _ h.after }
  free_set s Remove s' h = record { is_paused = h.is_paused; after = same_set s' _ h.after }
  free_set s Surprise s' h = record { not_removing = h.not_removing; drains = same_set s' _ h.drains }
  free_set s Removed s' h = record { is_removing = h.is_removing; once = h.once; none_open = h.none_open; after = same_set s' _ h.after }

  owing_set : (s : State) (label : Label) (s' : State) → OwingStep s label s' → OwingStep (set s) label (set s')
  owing_set s (Answer number status informed bytes) s' h = record { is_owed = h.is_owed; none_moved = h.none_moved; no_bytes = h.no_bytes; after = same_set s' _ h.after }
  owing_set s _ s' h = absurd h

  step_set : (s : State) (label : Label) (s' : State) → Step rules s label s' → Step rules (set s) label (set s')
  step_set s label s' (inl h) = inl (h.0, free_set s label s' h.1)
  step_set s label s' (inr h) = inr (owing_set s label s' h)

  -- TABLES

  out_set : (s : State) (number : ℕ) (piece : Piece) (owner : OpenRequest) → IsOut s number piece owner → IsOut (set s) number piece owner
  out_set s number piece owner h = record { is_number = h.is_number; is_out = h.is_out; is_open = h.is_open; is_owner = h.is_owner }

  moved_set : (s : State) (label : Label) (t t' : Table) → Moves rules s label t t' → Moves rules (set s) label t t'
  moved_set s (Device (Act number bytes)) t t' h = record { piece = h.piece; owner = h.owner; out = out_set s number h.piece h.owner h.out; hands_over = h.hands_over; after = h.after }
  moved_set s (Device (Fault number)) t t' h = record { piece = h.piece; owner = h.owner; out = out_set s number h.piece h.owner h.out; after = h.after }
  moved_set s (Device (Return number (Bad completion))) t t' h = record { piece = h.piece; owner = h.owner; out = out_set s number h.piece h.owner h.out; after = h.after }
  moved_set s (Device (Return number Good)) t t' h = h
  moved_set s (Device (Return number Busy)) t t' h = h
  moved_set s (Device (Start number tag block)) t t' h = h
  moved_set s (Call number q) t t' h = h
  moved_set s (Answer number status informed bytes) t t' h = h
  moved_set s (Cancel number) t t' h = h
  moved_set s Pause t t' h = h
  moved_set s Resume t t' h = h
  moved_set s Remove t t' h = h
  moved_set s Surprise t t' h = h
  moved_set s Removed t t' h = h

  run_set : (s : State) (t : Table) (labels : List Label) (s' : State) (t' : Table) → TableRun rules s t labels s' t' → TableRun rules (set s) t labels (set s') t'
  run_set s t [] s' t' h = (same_set s s' h.0, h.1)
  run_set s t (label ∷ labels) s' t' h = (set h.0, h.1, step_set s label h.0 h.2, moved_set s label t h.1 h.3, run_set h.0 h.1 labels s' t' h.4)

  -- ENDS

  at_work_set : (s : State) (piece : Piece) (owner : OpenRequest) → IsAtWork s piece owner → IsAtWork (set s) piece owner
  at_work_set s piece owner h = record { out = out_set s piece.number piece owner h.out; fresh = h.fresh }

  left_set : (s : State) (t : Table) (i : ℕ) (value : List ℕ) → MayBeLeft rules s t i value → MayBeLeft rules (set s) t i value
  left_set s t i value (inl h) = inl h
  left_set s t i value (inr h) = inr (h.0, h.1, at_work_set s h.0 h.1 h.2, h.3)

  remain_set : (s : State) (t : Table) (i : ℕ) (value : List ℕ) → MayRemain rules s t i value → MayRemain rules (set s) t i value
  remain_set s t i value (inl h) = inl h
  remain_set s t i value (inr h) = inr (h.0, h.1, at_work_set s h.0 h.1 h.2, h.3)

pub any_arrays_do : AnyArraysDo
any_arrays_do rules arrays others before calls labels end apart session = record {
  run = run_set rules apart others (opening arrays) (held_on before) labels end.machine end.table session.run;
  lost = λ after survives.
      let line : BeginsOver rules (MayBeLeft rules end.machine end.table) end _ = session.lost after survives in
      record { disk = line.disk; chosen = λ i low. left_set rules apart others end.machine end.table i (line.disk i) (line.chosen i low); machine = refl; table = line.table };
  ended = λ after remains.
      let line : BeginsOver rules (MayRemain rules end.machine end.table) end _ = session.ended after remains in
      record { disk = line.disk; chosen = λ i low. remain_set rules apart others end.machine end.table i (line.disk i) (line.chosen i low); machine = refl; table = line.table };
}
