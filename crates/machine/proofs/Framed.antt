-- Steps of the layer below are steps beside the requests that a layer holds.
use Rattle.std.proofs.Common.{inl, inr, ℕ, List, [], ◌∷◌, ◌++◌, Option, refl, sym, map}
use Rattle.std.specs.Prelude.{IsPermutation}
use Rattle.std.proofs.lemmas.List.Sorted.{IsPermutation-sym, IsPermutation-trans, IsPermutation-append_left, IsPermutation-middle, All-permutation}
use Rattle.std.proofs.lemmas.List.Elements.{All-append, All-head, Contains-append_left}
use Rattle.ntstatus.specs.declared.NtStatus.{NtStatus}
use Rattle.srb.specs.declared.DeviceLabel.{DeviceLabel}
use Rattle.srb.specs.declared.DeviceLabel.TheVariants.{Start, Act, Fault, Return}
use Rattle.machine.specs.declared.ClientRequest.{ClientRequest}
use Rattle.machine.specs.declared.Label.TheVariants.{Device}
use Rattle.machine.specs.Rules.{Rules}
use Rattle.machine.specs.State.{OpenRequest, State, IsSame}
use Rattle.machine.specs.Calling.{Opens, new_request}
use Rattle.machine.specs.Sending.{IsInTurn}
use Rattle.machine.specs.Answering.{Answers}
use Rattle.machine.specs.Holding.{Cancels}
use Rattle.machine.specs.Step.{DeviceStep, Run}
use Rattle.machine.specs.Frame.{Frame, framed, with_window, MayPass, AllMayPass}
use Rattle.machine.proofs.Permuting.{All-changed}

pub beside : (f : Frame) (xs ys : List OpenRequest) → IsPermutation xs ys → IsPermutation (xs ++ f.held) (ys ++ f.held)
beside f xs ys p = IsPermutation-append_left f.held xs ys p

pub IsSame-framed : (f : Frame) (s t : State) → IsSame s t → IsSame (framed f s) (framed f t)
IsSame-framed f s t h = record {
  arrays = h.arrays;
  next_request = refl;
  next_piece = h.next_piece;
  requests = beside f _ _ h.requests;
  pieces = h.pieces;
  owed = h.owed;
  paused = refl;
  removing = h.removing;
  removed = h.removed;
}

module _ (f : Frame) (window : Option ℕ) (rules : Rules) where
  pub DeviceStep-framed : (s : State) (label : DeviceLabel) (s' : State) → AllMayPass f s → DeviceStep rules s label s' → DeviceStep (with_window window rules) (framed f s) label (framed f s')
  DeviceStep-framed s (Start number tag block) s' pass h =
      let mine : MayPass f h.owner = All-head (MayPass f) h.owner h.others (All-permutation (MayPass f) _ _ h.is_open pass) in
      record {
        owner = h.owner;
        others = h.others ++ f.held;
        places = h.places;
        next_number = h.next_number;
        on_tag = h.on_tag;
        is_open = beside f _ _ h.is_open;
        may_start = record {
          not_cancelled = h.may_start.not_cancelled;
          not_removing = h.may_start.not_removing;
          not_held = mine.timely;
          in_turn = All-append (IsInTurn h.owner) _ _ h.may_start.in_turn mine.ahead;
        };
        sendable = record { some = h.sendable.some; short = h.sendable.short; inside = h.sendable.inside; unsent = h.sendable.unsent; begins = h.sendable.begins; spare = h.sendable.spare; whole = h.sendable.whole };
        asks = h.asks;
        plain = h.plain;
        after = IsSame-framed f s' _ h.after;
      }
  DeviceStep-framed s (Act number bytes) s' pass h = record {
    piece = h.piece;
    other_pieces = h.other_pieces;
    owner = h.owner;
    sectors = h.sectors;
    arrays' = h.arrays';
    fresh = record { is_out = h.fresh.is_out; is_number = h.fresh.is_number; is_fresh = h.fresh.is_fresh };
    is_open = Contains-append_left _ _ _ h.is_open;
    is_owner = h.is_owner;
    covers = h.covers;
    moves = h.moves;
    hands_over = h.hands_over;
    after = IsSame-framed f s' _ h.after;
  }
  DeviceStep-framed s (Fault number) s' pass h = record {
    piece = h.piece;
    other_pieces = h.other_pieces;
    fresh = record { is_out = h.fresh.is_out; is_number = h.fresh.is_number; is_fresh = h.fresh.is_fresh };
    after = IsSame-framed f s' _ h.after;
  }
  DeviceStep-framed s (Return number class) s' pass h = record {
    piece = h.piece;
    other_pieces = h.other_pieces;
    owner = h.owner;
    others = h.others ++ f.held;
    marks = h.marks;
    is_out = h.is_out;
    is_number = h.is_number;
    is_open = beside f _ _ h.is_open;
    is_owner = h.is_owner;
    leaves = h.leaves;
    after = IsSame-framed f s' _ h.after;
  }

  -- a step of the device changes no number and no lateness, so those below may still pass
  pub DeviceStep-passes : (s : State) (label : DeviceLabel) (s' : State) → AllMayPass f s → DeviceStep rules s label s' → AllMayPass f s'
  DeviceStep-passes s (Start number tag block) s' pass h =
      All-permutation (MayPass f) _ _ (IsPermutation-sym _ _ h.after.requests)
      (All-changed (MayPass f) s.requests h.owner _ h.others h.is_open pass (λ mine. record { timely = mine.timely; ahead = mine.ahead }))
  DeviceStep-passes s (Act number bytes) s' pass h = All-permutation (MayPass f) _ _ (IsPermutation-sym _ _ h.after.requests) pass
  DeviceStep-passes s (Fault number) s' pass h = All-permutation (MayPass f) _ _ (IsPermutation-sym _ _ h.after.requests) pass
  DeviceStep-passes s (Return number class) s' pass h =
      All-permutation (MayPass f) _ _ (IsPermutation-sym _ _ h.after.requests)
      (All-changed (MayPass f) s.requests h.owner _ h.others h.is_open pass (λ mine. record { timely = mine.timely; ahead = mine.ahead }))

  pub Run-framed : (s : State) (labels : List DeviceLabel) (s' : State) → AllMayPass f s → Run rules s (map Device labels) s' → Run (with_window window rules) (framed f s) (map Device labels) (framed f s')
  Run-framed s [] s' pass h = IsSame-framed f s s' h
  Run-framed s (label ∷ labels) s' pass (mid, inl (free, step), rest) =
      (framed f mid, inl (free, DeviceStep-framed s label mid pass step), Run-framed mid labels s' (DeviceStep-passes s label mid pass step) rest)
  Run-framed s (label ∷ labels) s' pass (mid, inr none, rest) = absurd none

  pub Answers-framed : (s : State) (number : ℕ) (status : NtStatus) (bytes : List ℕ) (s' : State) → Answers rules s number status bytes s' → Answers (with_window window rules) (framed f s) number status bytes (framed f s')
  Answers-framed s number status bytes s' h = record {
    request = h.request;
    others = h.others ++ f.held;
    is_open = beside f _ _ h.is_open;
    is_number = h.is_number;
    ended = h.ended;
    success = h.success;
    cause = h.cause;
    hands_back = h.hands_back;
    after = IsSame-framed f s' _ h.after;
  }

  pub Cancels-framed : (s : State) (number : ℕ) (s' : State) → Cancels s number s' → Cancels (framed f s) number (framed f s')
  Cancels-framed s number s' h = record {
    request = h.request;
    others = h.others ++ f.held;
    is_open = beside f _ _ h.is_open;
    is_number = h.is_number;
    not_yet = h.not_yet;
    after = IsSame-framed f s' _ h.after;
  }

  -- a held request that is sent down leaves the layer's own machine as it was
  pub Opens-framed : (s : State) (number : ℕ) (q : ClientRequest) (s' : State) → Opens rules s number q s' → IsSame (framed (record f { held = new_request rules s number q ∷ f.held }) s) (framed f s')
  Opens-framed s number q s' h = record {
    arrays = sym h.after.arrays;
    next_request = refl;
    next_piece = sym h.after.next_piece;
    requests = IsPermutation-trans _ _ _ (IsPermutation-middle s.requests (new_request rules s number q) f.held) (IsPermutation-sym _ _ (beside f _ _ h.after.requests));
    pieces = IsPermutation-sym _ _ h.after.pieces;
    owed = sym h.after.owed;
    paused = refl;
    removing = sym h.after.removing;
    removed = sym h.after.removed;
  }
