-- A run over other arrays.
use Rattle.machine_laws.proofs.Common.{◌≡◌, inl, inr, List, ℕ, Option, Some, None, refl, NtStatus, DeviceLabel, Start, Act, Fault, Return, ClientRequest, Label, Call, Device, Answer, Cancel, Pause, Resume, Remove, Surprise, Removed, Rules, as_faithful, State, IsSame, refusal, Admits, Transfers, IsFreshPiece, Answers, DeviceStep, FreeStep, OwingStep, Step}

-- the state with other arrays
abbrev pub over : List (List (List ℕ)) → State → State
over arrays s = record s { arrays = arrays }

pub IsSame-over : (arrays : List (List (List ℕ))) (s t : State) → IsSame s t → IsSame (over arrays s) (over arrays t)
IsSame-over arrays s t h = record {
  arrays = refl;
  next_request = h.next_request;
  next_piece = h.next_piece;
  requests = h.requests;
  pieces = h.pieces;
  owed = h.owed;
  paused = h.paused;
  removing = h.removing;
  removed = h.removed;
}

module _ (rules : Rules) where
  -- the act moves these arrays to those, and any other label leaves them
  abbrev pub DeviceMoves : (s : State) (label : DeviceLabel) (s' : State) → DeviceStep rules s label s' → List (List (List ℕ)) → List (List (List ℕ)) → Type 0
  DeviceMoves s (Start piece tag block) s' h before after = after ≡ before
  DeviceMoves s (Act piece bytes) s' h before after = Transfers (as_faithful rules) (over before s) h.owner.request h.piece.places h.owner.request.kind h.sectors after
  DeviceMoves s (Fault piece) s' h before after = after ≡ before
  DeviceMoves s (Return piece class) s' h before after = after ≡ before

  abbrev pub FreeMoves : (s : State) (label : Label) (s' : State) → FreeStep rules s label s' → List (List (List ℕ)) → List (List (List ℕ)) → Type 0
  FreeMoves s (Device label) s' h before after = DeviceMoves s label s' h before after
  FreeMoves s (Call number q) s' h before after = after ≡ before
  FreeMoves s (Answer number status informed bytes) s' h before after = after ≡ before
  FreeMoves s (Cancel number) s' h before after = after ≡ before
  FreeMoves s Pause s' h before after = after ≡ before
  FreeMoves s Resume s' h before after = after ≡ before
  FreeMoves s Remove s' h before after = after ≡ before
  FreeMoves s Surprise s' h before after = after ≡ before
  FreeMoves s Removed s' h before after = after ≡ before

  abbrev pub StepMoves : (s : State) (label : Label) (s' : State) → Step rules s label s' → List (List (List ℕ)) → List (List (List ℕ)) → Type 0
  StepMoves s label s' (inl h) before after = FreeMoves s label s' h.1 before after
  StepMoves s label s' (inr h) before after = after ≡ before

  fresh_over : (arrays : List (List (List ℕ))) (s : State) (number : ℕ) (piece : _) (others : _) → IsFreshPiece s number piece others → IsFreshPiece (over arrays s) number piece others
  fresh_over arrays s number piece others h = record { is_out = h.is_out; is_number = h.is_number; is_fresh = h.is_fresh }

  lift_device : (s : State) (label : DeviceLabel) (s' : State) (h : DeviceStep rules s label s') (before after : List (List (List ℕ))) → DeviceMoves s label s' h before after
      → DeviceStep (as_faithful rules) (over before s) label (over after s')
  lift_device s (Start piece tag block) s' h before after e = rw e (record {
    owner = h.owner;
    others = h.others;
    places = h.places;
    next_number = h.next_number;
    on_tag = h.on_tag;
    is_open = h.is_open;
    may_start = record { not_cancelled = h.may_start.not_cancelled; not_removing = h.may_start.not_removing; not_held = h.may_start.not_held; in_turn = h.may_start.in_turn };
    sendable = record { some = h.sendable.some; short = h.sendable.short; inside = h.sendable.inside; unsent = h.sendable.unsent; begins = h.sendable.begins; spare = h.sendable.spare; whole = h.sendable.whole };
    asks = h.asks;
    plain = h.plain;
    after = IsSame-over before s' _ h.after;
  })
  lift_device s (Act piece bytes) s' h before after moves = record {
    piece = h.piece;
    other_pieces = h.other_pieces;
    owner = h.owner;
    sectors = h.sectors;
    arrays' = after;
    fresh = fresh_over before s piece h.piece h.other_pieces h.fresh;
    is_open = h.is_open;
    is_owner = h.is_owner;
    covers = h.covers;
    moves = moves;
    hands_over = h.hands_over;
    after = IsSame-over after s' _ h.after;
  }
  lift_device s (Fault piece) s' h before after e = rw e (record {
    piece = h.piece;
    other_pieces = h.other_pieces;
    fresh = fresh_over before s piece h.piece h.other_pieces h.fresh;
    after = IsSame-over before s' _ h.after;
  })
  lift_device s (Return piece class) s' h before after e = rw e (record {
    piece = h.piece;
    other_pieces = h.other_pieces;
    owner = h.owner;
    others = h.others;
    marks = h.marks;
    is_out = h.is_out;
    is_number = h.is_number;
    is_open = h.is_open;
    is_owner = h.is_owner;
    leaves = h.leaves;
    after = IsSame-over before s' _ h.after;
  })

  lift_admits : (s : State) (number : ℕ) (q : ClientRequest) (answer : Option NtStatus) (s' : State) (arrays : List (List (List ℕ)))
      → Admits rules s number q answer s' → refusal rules s q ≡ answer → Admits (as_faithful rules) (over arrays s) number q answer (over arrays s')
  lift_admits s number q None s' arrays h e = record { new_number = h.new_number; not_refused = e; carries = h.carries; after = IsSame-over arrays s' _ h.after }
  lift_admits s number q (Some status) s' arrays h e = record { no_bytes = h.no_bytes; after = IsSame-over arrays s' _ h.after }

  abbrev lift_answers : (s : State) (number : ℕ) (status : NtStatus) (bytes : List ℕ) (s' : State) (before : List (List (List ℕ))) → Answers rules s number status bytes s'
      → Answers (as_faithful rules) (over before s) number status bytes (over before s')
  lift_answers s number status bytes s' before h = record {
    request = h.request;
    others = h.others;
    is_open = h.is_open;
    is_number = h.is_number;
    ended = h.ended;
    success = h.success;
    cause = h.cause;
    hands_back = h.hands_back;
    after = IsSame-over before s' _ h.after;
  }

  lift_free : (s : State) (label : Label) (s' : State) (h : FreeStep rules s label s') (before after : List (List (List ℕ))) → FreeMoves s label s' h before after
      → FreeStep (as_faithful rules) (over before s) label (over after s')
  lift_free s (Device label) s' h before after e = lift_device s label s' h before after e
  lift_free s (Call number q) s' h before after e = rw e (record { next_number = h.next_number; admits = lift_admits s number q (refusal rules s q) s' before h.admits refl })
  lift_free s (Answer number status informed bytes) s' h before after e = rw e (record { answers = lift_answers s number status bytes s' before h.answers; informs = h.informs })
  lift_free s (Cancel number) s' h before after e = rw e (record { request = h.request; others = h.others; is_open = h.is_open; is_number = h.is_number; not_yet = h.not_yet; after = IsSame-over before s' _ h.after })
  lift_free s Pause s' h before after e = rw e (record { not_paused = h.not_paused; not_removing = h.not_removing; after = IsSame-over before s' _ h.after })
  lift_free s Resume s' h before after e = rw e (record { is_paused = h.is_paused; after = IsSame-over before s' _ h.after })
  lift_free s Remove s' h before after e = rw e (record { is_paused = h.is_paused; after = IsSame-over before s' _ h.after })
  lift_free s Surprise s' h before after e = rw e (record { not_removing = h.not_removing; drains = IsSame-over before s' _ h.drains })
  lift_free s Removed s' h before after e = rw e (record { is_removing = h.is_removing; once = h.once; none_open = h.none_open; after = IsSame-over before s' _ h.after })

  lift_owing : (s : State) (label : Label) (s' : State) (arrays : List (List (List ℕ))) → OwingStep s label s' → OwingStep (over arrays s) label (over arrays s')
  lift_owing s (Answer number status informed bytes) s' arrays h = record { is_owed = h.is_owed; none_moved = h.none_moved; no_bytes = h.no_bytes; after = IsSame-over arrays s' _ h.after }
  lift_owing s _ s' arrays h = absurd h

  pub lift_step : (s : State) (label : Label) (s' : State) (h : Step rules s label s') (before after : List (List (List ℕ))) → StepMoves s label s' h before after
      → Step (as_faithful rules) (over before s) label (over after s')
  lift_step s label s' (inl h) before after e = inl (h.0, lift_free s label s' h.1 before after e)
  lift_step s label s' (inr h) before after e = inr (rw e (lift_owing s label s' before h))
