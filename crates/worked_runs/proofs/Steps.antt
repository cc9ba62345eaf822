-- One step for each label, from what allows it; the state after is told.
use Rattle.std.proofs.Common.{◌≡◌, ◌<◌, ◌+◌, ℕ, Bool, true, false, List, [], ◌∷◌, Some, None, refl, sym, subst, inl, inr, length, map, arith, rules, lit<}
use Rattle.std.specs.Prelude.{IsPermutation, IsNone, IsTrue, IsFalse, Contains, ◌↔◌, if◌then◌else◌, nat_lt, slice_index}
use Rattle.std.specs.List.{AllByRecursion, list_all, concat}
use Rattle.std.proofs.lemmas.Bool.{both_ways, ltb-true}
use Rattle.std.proofs.lemmas.List.Folds.{list_all_at}
use Rattle.std.proofs.lemmas.List.Elements.{All-cons, All-nil, All-from_recursion}
use Rattle.ntstatus.specs.declared.NtStatus.{NtStatus}
use Rattle.ntstatus.specs.declared.NtStatus.TheVariants.{Success}
use Rattle.sector.specs.declared.Extent.{Extent}
use Rattle.cdb.specs.declared.Cdb.{Cdb}
use Rattle.cdb.specs.Meaning.{IsPlain, IsZeroAt, Means, size_of, option_byte, unused}
use Rattle.srb.specs.declared.Class.{Class}
use Rattle.srb.specs.declared.DeviceLabel.TheVariants.{Start, Act, Fault, Return}
use Rattle.srb.specs.Fate.{Acted, Faulted}
use Rattle.machine.specs.declared.ClientRequest.{ClientRequest}
use Rattle.machine.specs.declared.Label.TheVariants.{Call, Device, Answer, Cancel, Pause, Resume, Remove, Surprise, Removed}
use Rattle.machine.specs.Rules.{Rules}
use Rattle.machine.specs.State.{OpenRequest, Piece, State, Mark}
use Rattle.machine.specs.Calling.{refusal, Opens, Refuses, Admits, bytes_carried, new_request}
use Rattle.machine.specs.Sending.{IsLowestFreeTag, HasOtherTag, MayStart, IsSendable, IsFreshPiece, Transfers, LeavesMarks, command_for, sent, new_piece, with_fate, given_back}
use Rattle.machine.specs.Answering.{HasEnded, HasCause, is_done, answer_bytes, information}
use Rattle.machine.specs.Holding.{as_cancelled, held_back, as_timely}
use Rattle.machine.specs.Step.{Step}
use Rattle.machine.proofs.Same.{IsSame-refl}

pub called : (rules : Rules) (s : State) (q : ClientRequest) → IsNone s.owed → refusal rules s q ≡ None → length q.bytes ≡ bytes_carried q.kind q.length
    → Step rules s (Call s.next_request q) (record s { next_request = s.next_request + 1; requests = new_request rules s s.next_request q ∷ s.requests })
called rules s q free allowed carries =
    let s' : State = record s { next_request = s.next_request + 1; requests = new_request rules s s.next_request q ∷ s.requests } in
    let opens : Opens rules s s.next_request q s' = record { new_number = omega arith; not_refused = allowed; carries = carries; after = IsSame-refl _ } in
    inl (free, record { next_number = refl; admits = subst (λ answer. Admits rules s s.next_request q answer s') (sym allowed) opens })

-- what it takes for a block to be plain, as a computation
pub record IsSpelled (block : List ℕ) (command : Cdb) : Type 0 where
  pub are_bytes : list_all (λ byte. nat_lt byte 256) block ≡ true
  pub no_more : length block ≡ size_of command
  pub option : slice_index block 1 ≡ option_byte command
  pub unused_bytes : AllByRecursion (IsZeroAt block) (unused command)

plain_block : (block : List ℕ) (command : Cdb) → IsSpelled block command → IsPlain block command
plain_block block command h = record {
  are_bytes = λ k below. by (nat_lt (slice_index block k) 256) k refl below;
  no_more = h.no_more;
  option = h.option;
  unused_bytes = All-from_recursion _ _ h.unused_bytes;
}
  where
    by : (b : Bool) (k : ℕ) → nat_lt (slice_index block k) 256 ≡ b → k < length block → slice_index block k < 256
    by true k e below = ltb-true _ _ e
    by false k e below = absurd (both_ways _ (list_all_at (λ byte. nat_lt byte 256) block k 0 below e) h.are_bytes)

pub started : (rules : Rules) (s : State) (owner : OpenRequest) (others : List OpenRequest) (places : Extent) (tag : ℕ) (block : List ℕ)
    → IsNone s.owed → IsLowestFreeTag rules.depth s.pieces tag → IsPermutation s.requests (owner ∷ others) → MayStart s owner → IsSendable rules owner places
    → Means block (command_for rules owner.request places owner.request.kind) → IsSpelled block (command_for rules owner.request places owner.request.kind)
    → Step rules s (Device (Start s.next_piece tag block))
    (record s { next_piece = s.next_piece + 1; requests = sent places owner ∷ others; pieces = new_piece s tag owner places ∷ s.pieces })
started rules s owner others places tag block free on_tag is_open may_start sendable asks spelled = inl (
  free,
  record {
    owner = owner;
    others = others;
    places = places;
    next_number = refl;
    on_tag = on_tag;
    is_open = is_open;
    may_start = may_start;
    sendable = sendable;
    asks = asks;
    plain = plain_block block _ spelled;
    after = IsSame-refl _;
  },
)

pub acted : (rules : Rules) (s : State) (piece : Piece) (other_pieces : List Piece) (owner : OpenRequest) (sectors : List (List ℕ)) (arrays' : List (List (List ℕ))) (bytes : List ℕ)
    → IsNone s.owed → IsFreshPiece s piece.number piece other_pieces → Contains s.requests owner → owner.number ≡ piece.owner → length sectors ≡ piece.places.count
    → Transfers rules s owner.request piece.places owner.request.kind sectors arrays' → bytes ≡ concat sectors
    → Step rules s (Device (Act piece.number bytes)) (record s { arrays = arrays'; pieces = with_fate (Acted sectors) piece ∷ other_pieces })
acted rules s piece other_pieces owner sectors arrays' bytes free fresh is_open is_owner covers moves hands_over = inl (
  free,
  record {
    piece = piece;
    other_pieces = other_pieces;
    owner = owner;
    sectors = sectors;
    arrays' = arrays';
    fresh = fresh;
    is_open = is_open;
    is_owner = is_owner;
    covers = covers;
    moves = moves;
    hands_over = hands_over;
    after = IsSame-refl _;
  },
)

pub faulted : (rules : Rules) (s : State) (piece : Piece) (other_pieces : List Piece) → IsNone s.owed → IsFreshPiece s piece.number piece other_pieces
    → Step rules s (Device (Fault piece.number)) (record s { pieces = with_fate Faulted piece ∷ other_pieces })
faulted rules s piece other_pieces free fresh = inl (free, record { piece = piece; other_pieces = other_pieces; fresh = fresh; after = IsSame-refl _ })

pub returned : (rules : Rules) (s : State) (piece : Piece) (other_pieces : List Piece) (owner : OpenRequest) (others : List OpenRequest) (class : Class) (marks : List Mark)
    → IsNone s.owed → IsPermutation s.pieces (piece ∷ other_pieces) → IsPermutation s.requests (owner ∷ others) → owner.number ≡ piece.owner → LeavesMarks piece class marks
    → Step rules s (Device (Return piece.number class)) (record s { requests = given_back piece class marks owner ∷ others; pieces = other_pieces })
returned rules s piece other_pieces owner others class marks free is_out is_open is_owner leaves = inl (
  free,
  record {
    piece = piece;
    other_pieces = other_pieces;
    owner = owner;
    others = others;
    marks = marks;
    is_out = is_out;
    is_number = refl;
    is_open = is_open;
    is_owner = is_owner;
    leaves = leaves;
    after = IsSame-refl _;
  },
)

pub answered : (rules : Rules) (s : State) (request : OpenRequest) (others : List OpenRequest) (status : NtStatus) (bytes : List ℕ)
    → IsNone s.owed → IsPermutation s.requests (request ∷ others) → AllByRecursion (HasEnded rules s request) request.marks
    → ((status ≡ Success) ↔ IsTrue (list_all is_done request.marks)) → HasCause rules s request request.marks status → bytes ≡ answer_bytes request.request.kind request.marks
    → Step rules s (Answer request.number status (information request.request status) bytes) (record s { requests = others })
answered rules s request others status bytes free is_open ended success cause hands_back = inl (
  free,
  record {
    answers = record {
      request = request;
      others = others;
      is_open = is_open;
      is_number = refl;
      ended = All-from_recursion _ _ ended;
      success = success;
      cause = cause;
      hands_back = hands_back;
      after = IsSame-refl _;
    };
    informs = refl;
  },
)

pub cancelled : (rules : Rules) (s : State) (request : OpenRequest) (others : List OpenRequest) → IsNone s.owed → IsPermutation s.requests (request ∷ others) → IsFalse request.cancelled
    → Step rules s (Cancel request.number) (record s { requests = as_cancelled request ∷ others })
cancelled rules s request others free is_open not_yet =
    inl (free, record { request = request; others = others; is_open = is_open; is_number = refl; not_yet = not_yet; after = IsSame-refl _ })

pub paused : (rules : Rules) (s : State) → IsNone s.owed → IsFalse s.paused → IsFalse s.removing
    → Step rules s Pause (record s { paused = true; requests = held_back rules.window s.requests })
paused rules s free not_paused not_removing = inl (free, record { not_paused = not_paused; not_removing = not_removing; after = IsSame-refl _ })

pub resumed : (rules : Rules) (s : State) → IsNone s.owed → IsTrue s.paused → Step rules s Resume (record s { paused = false; requests = map as_timely s.requests })
resumed rules s free is_paused = inl (free, record { is_paused = is_paused; after = IsSame-refl _ })

pub removing : (rules : Rules) (s : State) → IsNone s.owed → IsTrue s.paused → Step rules s Remove (record s { paused = false; removing = true })
removing rules s free is_paused = inl (free, record { is_paused = is_paused; after = IsSame-refl _ })

pub surprised : (rules : Rules) (s : State) → IsNone s.owed → IsFalse s.removing
    → Step rules s Surprise (record s { paused = false; removing = true; requests = if s.paused then s.requests else held_back rules.window s.requests })
surprised rules s free not_removing = inl (free, record { not_removing = not_removing; drains = IsSame-refl _ })

pub removed : (rules : Rules) (s : State) → IsNone s.owed → IsTrue s.removing → IsFalse s.removed → s.requests ≡ [] → Step rules s Removed (record s { removed = true })
removed rules s free is_removing once none_open = inl (free, record { is_removing = is_removing; once = once; none_open = none_open; after = IsSame-refl _ })

pub refused : (rules : Rules) (s : State) (q : ClientRequest) (status : NtStatus) → IsNone s.owed → refusal rules s q ≡ Some status → q.bytes ≡ []
    → Step rules s (Call s.next_request q) (record s { next_request = s.next_request + 1; owed = Some (record { number = s.next_request; status = status }) })
refused rules s q status free why no_bytes =
    let s' : State = record s { next_request = s.next_request + 1; owed = Some (record { number = s.next_request; status = status }) } in
    let refuses : Refuses s s.next_request status q s' = record { no_bytes = no_bytes; after = IsSame-refl _ } in
    inl (free, record { next_number = refl; admits = subst (λ answer. Admits rules s s.next_request q answer s') (sym why) refuses })

pub told : (rules : Rules) (s : State) (number : ℕ) (status : NtStatus) → s.owed ≡ Some (record { number = number; status = status })
    → Step rules s (Answer number status 0 []) (record s { owed = None })
told rules s number status is_owed = inr (record { is_owed = is_owed; none_moved = refl; no_bytes = refl; after = IsSame-refl _ })

pub tag_0 : IsLowestFreeTag 2 [] 0
tag_0 = search rules

-- with one piece out, on tag 0
pub tag_1 : (piece : Piece) → piece.tag ≡ 0 → IsLowestFreeTag 2 (piece ∷ []) 1
tag_1 piece e =
    let none_lower : (lower : ℕ) → lower < 1 → piece.tag ≡ lower = λ lower below. omega arith in
    record {
      within = lit< tt;
      free = All-cons (HasOtherTag 1) piece [] (λ h. cc (h, e)) (All-nil (HasOtherTag 1));
      lowest = λ lower below. (0, piece, lit< tt, refl, none_lower lower below);
    }
