-- A step of the machine below is one of the manager's: its numbers, its end of a removal and its count of open requests change nothing.
use Rattle.std.proofs.Common.{◌≡◌, inl, inr, ℕ, Bool, List, [], ◌∷◌, Option, refl, subst, map}
use Rattle.io_manager.proofs.Common.{All-weaker, NtStatus, Extent, IsPlain, Means, DeviceLabel, Start, Act, Fault, Return, AdapterView, Kind, Read, Write, Flush, ClientRequest, Rules, Transfers, command_for, Answers, AnswersWith, Cause, HasEnded, HasCause, Cancels, Settled, IsAllSent, HasGone, DeviceStep, Run, as_label, IsRead, as_answer, as_cancel, shown_state}
use Rattle.machine.specs.State.{Mark, Untouched, Out, Done, Failed, Back, OpenRequest, State, IsSame}
use Rattle.adapter.specs.View.{TagInUse}
use Rattle.device.specs.View.{MayAct}
use Rattle.io_manager.specs.declared.Answer.{Answer}

-- two states that are the same are shown the same
pub shown_same : (next : ℕ) (removed : Bool) (s t : State) → IsSame s t → IsSame (shown_state next removed s) (shown_state next removed t)
shown_same next removed s t h = record {
  arrays = h.arrays;
  next_request = refl;
  next_piece = h.next_piece;
  requests = h.requests;
  pieces = h.pieces;
  owed = h.owed;
  paused = h.paused;
  removing = h.removing;
  removed = refl;
}

module _ (most : Option ℕ) (below : Rules) where
  abbrev pub over : Rules
  over = record below { open_requests = most }

  command_is : (q : ClientRequest) (places : Extent) (kind : Kind) → command_for below q places kind ≡ command_for over q places kind
  command_is q places Read = refl
  command_is q places Write = refl
  command_is q places Flush = refl

  moves_is : (next : ℕ) (removed : Bool) (s : State) (q : ClientRequest) (places : Extent) (kind : Kind) (sectors : List (List ℕ)) (arrays' : List (List (List ℕ)))
      → Transfers below s q places kind sectors arrays' → Transfers over (shown_state next removed s) q places kind sectors arrays'
  moves_is next removed s q places Read sectors arrays' h = h
  moves_is next removed s q places Write sectors arrays' h = h
  moves_is next removed s q places Flush sectors arrays' h = h

  pub device_over : (next : ℕ) (removed : Bool) (s : State) (label : DeviceLabel) (s' : State) → DeviceStep below s label s' → DeviceStep over (shown_state next removed s) label (shown_state next removed s')
  device_over next removed s (Start piece tag block) s' h = record {
    owner = h.owner;
    others = h.others;
    places = h.places;
    next_number = h.next_number;
    on_tag = h.on_tag;
    is_open = h.is_open;
    may_start = record { not_cancelled = h.may_start.not_cancelled; not_removing = h.may_start.not_removing; not_held = h.may_start.not_held; in_turn = h.may_start.in_turn };
    sendable = record { some = h.sendable.some; short = h.sendable.short; inside = h.sendable.inside; unsent = h.sendable.unsent; begins = h.sendable.begins; spare = h.sendable.spare; whole = h.sendable.whole };
    asks = subst (Means block) (command_is h.owner.request h.places h.owner.request.kind) h.asks;
    plain = subst (IsPlain block) (command_is h.owner.request h.places h.owner.request.kind) h.plain;
    after = shown_same next removed s' _ h.after;
  }
  device_over next removed s (Act piece bytes) s' h = record {
    piece = h.piece;
    other_pieces = h.other_pieces;
    owner = h.owner;
    sectors = h.sectors;
    arrays' = h.arrays';
    fresh = record { is_out = h.fresh.is_out; is_number = h.fresh.is_number; is_fresh = h.fresh.is_fresh };
    is_open = h.is_open;
    is_owner = h.is_owner;
    covers = h.covers;
    moves = moves_is next removed s h.owner.request h.piece.places h.owner.request.kind h.sectors h.arrays' h.moves;
    hands_over = h.hands_over;
    after = shown_same next removed s' _ h.after;
  }
  device_over next removed s (Fault piece) s' h = record {
    piece = h.piece;
    other_pieces = h.other_pieces;
    fresh = record { is_out = h.fresh.is_out; is_number = h.fresh.is_number; is_fresh = h.fresh.is_fresh };
    after = shown_same next removed s' _ h.after;
  }
  device_over next removed s (Return piece class) s' h = record {
    piece = h.piece;
    other_pieces = h.other_pieces;
    owner = h.owner;
    others = h.others;
    marks = h.marks;
    is_out = h.is_out;
    is_number = h.is_number;
    is_open = h.is_open;
    is_owner = h.is_owner;
    leaves = h.leaves;
    after = shown_same next removed s' _ h.after;
  }

  pub labels_over : (next : ℕ) (removed : Bool) (labels : List DeviceLabel) (s s' : State) → Run below s (map as_label labels) s' → Run over (shown_state next removed s) (map as_label labels) (shown_state next removed s')
  labels_over next removed [] s s' run = shown_same next removed s s' run
  labels_over next removed (label ∷ labels) s s' (mid, inl (free, step), run) =
      (shown_state next removed mid, inl (free, device_over next removed s label mid step), labels_over next removed labels mid s' run)
  labels_over next removed (label ∷ labels) s s' (mid, inr none, run) = absurd none

  -- ANSWERS

  cause_is : (next : ℕ) (removed : Bool) (s : State) (o : OpenRequest) (mark : Mark) (status : NtStatus) → Cause below s o mark status → Cause over (shown_state next removed s) o mark status
  cause_is next removed s o (Failed failure) status h = h
  cause_is next removed s o Untouched status h = h
  cause_is next removed s o Back status h = h
  cause_is next removed s o Out status h = h
  cause_is next removed s o (Done sector) status h = h

  ended_is : (next : ℕ) (removed : Bool) (s : State) (o : OpenRequest) (mark : Mark) → HasEnded below s o mark → HasEnded over (shown_state next removed s) o mark
  ended_is next removed s o mark (inl done) = inl done
  ended_is next removed s o mark (inr (status, h)) = inr (status, cause_is next removed s o mark status h)

  has_cause_is : (next : ℕ) (removed : Bool) (s : State) (o : OpenRequest) (marks : List Mark) (status : NtStatus) → HasCause below s o marks status → HasCause over (shown_state next removed s) o marks status
  has_cause_is next removed s o [] status h = h
  has_cause_is next removed s o (Done sector ∷ marks) status h = has_cause_is next removed s o marks status h
  has_cause_is next removed s o (Failed failure ∷ marks) status h = h
  has_cause_is next removed s o (Untouched ∷ marks) status h = h
  has_cause_is next removed s o (Back ∷ marks) status h = h
  has_cause_is next removed s o (Out ∷ marks) status h = h

  answer_over : (next : ℕ) (removed : Bool) (s : State) (number : ℕ) (status : NtStatus) (informed : ℕ) (bytes : List ℕ) (s' : State)
      → AnswersWith below s number status informed bytes s' → AnswersWith over (shown_state next removed s) number status informed bytes (shown_state next removed s')
  answer_over next removed s number status informed bytes s' w =
      let h : Answers below s number status bytes s' = w.answers in
      record {
        answers = record {
          request = h.request;
          others = h.others;
          is_open = h.is_open;
          is_number = h.is_number;
          ended = All-weaker (HasEnded below s h.request) (HasEnded over (shown_state next removed s) h.request) (ended_is next removed s h.request) h.request.marks h.ended;
          success = h.success;
          cause = has_cause_is next removed s h.request h.request.marks status h.cause;
          hands_back = h.hands_back;
          after = shown_same next removed s' _ h.after;
        };
        informs = w.informs;
      }

  pub answers_over : (next : ℕ) (removed : Bool) (answers : List Answer) (s s' : State) → Run below s (map as_answer answers) s' → Run over (shown_state next removed s) (map as_answer answers) (shown_state next removed s')
  answers_over next removed [] s s' run = shown_same next removed s s' run
  answers_over next removed (answer ∷ answers) s s' (mid, inl (free, step), run) =
      (shown_state next removed mid, inl (free, answer_over next removed s answer.number answer.status answer.information answer.bytes mid step), answers_over next removed answers mid s' run)
  answers_over next removed (answer ∷ answers) s s' (mid, inr owed, run) = (
    shown_state next removed mid,
    inr (record { is_owed = owed.is_owed; none_moved = owed.none_moved; no_bytes = owed.no_bytes; after = shown_same next removed mid _ owed.after }),
    answers_over next removed answers mid s' run,
  )

  -- CANCELLATIONS

  pub cancel_over : (next : ℕ) (removed : Bool) (s : State) (number : ℕ) (s' : State) → Cancels s number s' → Cancels (shown_state next removed s) number (shown_state next removed s')
  cancel_over next removed s number s' h = record {
    request = h.request;
    others = h.others;
    is_open = h.is_open;
    is_number = h.is_number;
    not_yet = h.not_yet;
    after = shown_same next removed s' _ h.after;
  }

  pub cancels_over : (next : ℕ) (removed : Bool) (numbers : List ℕ) (s s' : State) → Run below s (map as_cancel numbers) s' → Run over (shown_state next removed s) (map as_cancel numbers) (shown_state next removed s')
  cancels_over next removed [] s s' run = shown_same next removed s s' run
  cancels_over next removed (number ∷ numbers) s s' (mid, inl (free, step), run) =
      (shown_state next removed mid, inl (free, cancel_over next removed s number mid step), cancels_over next removed numbers mid s' run)
  cancels_over next removed (number ∷ numbers) s s' (mid, inr none, run) = absurd none

  -- WHAT HOLDS BETWEEN STEPS

  gone_is : (o : OpenRequest) (mark : Mark) → HasGone below o mark → HasGone over o mark
  gone_is o Untouched h = h
  gone_is o Out h = h
  gone_is o (Done sector) h = h
  gone_is o (Failed status) h = h
  gone_is o Back h = h

  sent_is : (o : OpenRequest) → IsAllSent below o → IsAllSent over o
  sent_is o h timely started = All-weaker (HasGone below o) (HasGone over o) (gone_is o) o.marks (h timely started)

  pub settled_over : (next : ℕ) (removed : Bool) (s : State) → Settled below s → Settled over (shown_state next removed s)
  settled_over next removed s h = record {
    none_owed = h.none_owed;
    idle = h.idle;
    idle_unpaused = h.idle_unpaused;
    cancelled = h.cancelled;
    removing = h.removing;
    sent = λ free staying. All-weaker (IsAllSent below) (IsAllSent over) sent_is s.requests (h.sent free staying);
    released = h.released;
    alive = h.alive;
    at_work = h.at_work;
    within_window = h.within_window;
  }

  pub read_over : (next : ℕ) (removed : Bool) (s : State) (adapter : AdapterView) → IsRead below s adapter → IsRead over (shown_state next removed s) adapter
  read_over next removed s adapter h = record {
    same_size = h.same_size;
    same_sectors = h.same_sectors;
    same_depth = h.same_depth;
    arrays = h.arrays;
    pieces = h.pieces;
    may_act = All-weaker (MayAct below s) (MayAct over (shown_state next removed s)) act_over adapter.tags h.may_act;
  }
    where
      act_over : (u : TagInUse) → MayAct below s u → MayAct over (shown_state next removed s) u
      act_over u may apart fresh =
          let b : (acted : State) × Run below s (as_label (Act u.piece u.srb.data) ∷ []) acted = may apart fresh in
          (shown_state next removed b.0, labels_over next removed (Act u.piece u.srb.data ∷ []) s b.0 b.1)
