-- What steps leave of a machine's open requests: their numbers, what they ask, and whether they are cancelled.
use Rattle.std.proofs.Common.{◌≡◌, inl, inr, Bool, false, List, [], ◌∷◌, refl, sym, ◌∙◌, ap, subst, map, length}
use Rattle.std.specs.Prelude.{IsPermutation, All}
use Rattle.io_manager.proofs.Common.{IsPermutation-sym, IsPermutation-trans, IsPermutation-map, All-permutation, Contains-permutation, length_permutation, All-nil, All-head, All-tail, All-cons, All-map, All-weaker, length-map, Slab, DeviceLabel, Start, Act, Fault, Return, ClientRequest, Rules, sent, given_back, request_number, DeviceStep, Run, as_label, IsHeldAt, AreHeld}
use Rattle.machine.specs.State.{OpenRequest, State, IsSame}
use Rattle.io_manager.specs.declared.tables.OpenRequest.{OpenRequest as OpenEntry}

-- a request without what becomes of it
abbrev pub asked : OpenRequest → OpenRequest
asked o = record o { marks = []; busy_returns = 0; late = false }

-- the same requests are open, and no other was called
pub record AsksSame (s s' : State) : Type 0 where
  pub requests : IsPermutation (map asked s'.requests) (map asked s.requests)
  pub next_request : s'.next_request ≡ s.next_request

-- and nothing was paused or removed
pub record KeepsAsked (s s' : State) : Type 0 where
  pub requests : IsPermutation (map asked s'.requests) (map asked s.requests)
  pub next_request : s'.next_request ≡ s.next_request
  pub paused : s'.paused ≡ s.paused
  pub removing : s'.removing ≡ s.removing

abbrev pub asks_same : (s s' : State) → KeepsAsked s s' → AsksSame s s'
asks_same s s' h = record { requests = h.requests; next_request = h.next_request }

pub KeepsAsked-same : (s t : State) → IsSame s t → KeepsAsked s t
KeepsAsked-same s t h = record {
  requests = IsPermutation-sym _ _ (IsPermutation-map asked _ _ h.requests);
  next_request = sym h.next_request;
  paused = sym h.paused;
  removing = sym h.removing;
}

pub KeepsAsked-trans : (s t u : State) → KeepsAsked s t → KeepsAsked t u → KeepsAsked s u
KeepsAsked-trans s t u a b = record {
  requests = IsPermutation-trans _ _ _ b.requests a.requests;
  next_request = b.next_request ∙ a.next_request;
  paused = b.paused ∙ a.paused;
  removing = b.removing ∙ a.removing;
}

-- one request changes in nothing that it asks
one_changed : (before after : List OpenRequest) (o o' : OpenRequest) (others : List OpenRequest) → IsPermutation before (o ∷ others) → IsPermutation after (o' ∷ others)
    → asked o' ≡ asked o → IsPermutation (map asked after) (map asked before)
one_changed before after o o' others p q e =
    IsPermutation-trans _ _ _ (IsPermutation-map asked after (o' ∷ others) q)
    (subst (λ (first : OpenRequest). IsPermutation (first ∷ map asked others) (map asked before)) (sym e) (IsPermutation-sym _ _ (IsPermutation-map asked before (o ∷ others) p)))

pub device_keeps : (rules : Rules) (s : State) (label : DeviceLabel) (s' : State) → DeviceStep rules s label s' → KeepsAsked s s'
device_keeps rules s (Start piece tag block) s' h = record {
  requests = one_changed s.requests s'.requests h.owner (sent h.places h.owner) h.others h.is_open h.after.requests refl;
  next_request = h.after.next_request;
  paused = h.after.paused;
  removing = h.after.removing;
}
device_keeps rules s (Act piece bytes) s' h = record {
  requests = IsPermutation-map asked _ _ h.after.requests;
  next_request = h.after.next_request;
  paused = h.after.paused;
  removing = h.after.removing;
}
device_keeps rules s (Fault piece) s' h = record {
  requests = IsPermutation-map asked _ _ h.after.requests;
  next_request = h.after.next_request;
  paused = h.after.paused;
  removing = h.after.removing;
}
device_keeps rules s (Return piece class) s' h = record {
  requests = one_changed s.requests s'.requests h.owner (given_back h.piece class h.marks h.owner) h.others h.is_open h.after.requests refl;
  next_request = h.after.next_request;
  paused = h.after.paused;
  removing = h.after.removing;
}

pub run_keeps : (rules : Rules) (s : State) (labels : List DeviceLabel) (s' : State) → Run rules s (map as_label labels) s' → KeepsAsked s s'
run_keeps rules s [] s' run = KeepsAsked-same s s' run
run_keeps rules s (label ∷ labels) s' (mid, inl (free, step), run) = KeepsAsked-trans s mid s' (device_keeps rules s label mid step) (run_keeps rules mid labels s' run)
run_keeps rules s (label ∷ labels) s' (mid, inr none, run) = absurd none

-- what is asked is asked still
unasked_all : (P : ClientRequest → Type 0) (xs : List OpenRequest) → All (λ (o : OpenRequest). P o.request) (map asked xs) → All (λ (o : OpenRequest). P o.request) xs
unasked_all P [] h = All-nil (λ (o : OpenRequest). P o.request)
unasked_all P (o ∷ xs) h =
    All-cons (λ (o : OpenRequest). P o.request) o xs (All-head (λ (o : OpenRequest). P o.request) (asked o) (map asked xs) h)
    (unasked_all P xs (All-tail (λ (o : OpenRequest). P o.request) (asked o) (map asked xs) h))

pub all_asked : (P : ClientRequest → Type 0) (s s' : State) → KeepsAsked s s' → All (λ (o : OpenRequest). P o.request) s.requests → All (λ (o : OpenRequest). P o.request) s'.requests
all_asked P s s' keeps h =
    unasked_all P s'.requests
    (All-permutation (λ (o : OpenRequest). P o.request) _ _ (IsPermutation-sym _ _ keeps.requests)
    (All-map (λ (o : OpenRequest). P o.request) asked s.requests h))

-- as many are open
pub as_many : (s s' : State) → AsksSame s s' → length s'.requests ≡ length s.requests
as_many s s' keeps = sym (length-map s'.requests asked) ∙ sym (length_permutation _ _ keeps.requests) ∙ length-map s.requests asked

-- WHAT THE TABLES SAY OF THEM

entry_of_asked : {w : Bool} (requests : Slab OpenEntry) (o : OpenRequest) → IsHeldAt w requests o → IsHeldAt w requests (asked o)
entry_of_asked requests o h = record { slot = h.slot; request = h.request; there = h.there; same_number = h.same_number; same_kind = h.same_kind; same_cancelled = h.same_cancelled; has_partition = h.has_partition; label_bytes = h.label_bytes }

entry_of : {w : Bool} (requests : Slab OpenEntry) (o : OpenRequest) → IsHeldAt w requests (asked o) → IsHeldAt w requests o
entry_of requests o h = record { slot = h.slot; request = h.request; there = h.there; same_number = h.same_number; same_kind = h.same_kind; same_cancelled = h.same_cancelled; has_partition = h.has_partition; label_bytes = h.label_bytes }

entries_of : {w : Bool} (requests : Slab OpenEntry) (xs : List OpenRequest) → All (IsHeldAt w requests) (map asked xs) → All (IsHeldAt w requests) xs
entries_of requests [] h = All-nil (IsHeldAt _ requests)
entries_of requests (o ∷ xs) h =
    All-cons (IsHeldAt _ requests) o xs (entry_of requests o (All-head (IsHeldAt _ requests) (asked o) (map asked xs) h))
    (entries_of requests xs (All-tail (IsHeldAt _ requests) (asked o) (map asked xs) h))

numbers_asked : (xs : List OpenRequest) → map request_number (map asked xs) ≡ map request_number xs
numbers_asked [] = refl
numbers_asked (o ∷ xs) = ap (λ numbers. o.number ∷ numbers) (numbers_asked xs)

pub same_numbers : (s s' : State) → AsksSame s s' → IsPermutation (map request_number s'.requests) (map request_number s.requests)
same_numbers s s' h =
    subst (λ ns. IsPermutation ns (map request_number s.requests)) (numbers_asked s'.requests)
    (subst (λ ns. IsPermutation (map request_number (map asked s'.requests)) ns) (numbers_asked s.requests) (IsPermutation-map request_number _ _ h.requests))

pub AreHeld-along : {w : Bool} (requests : Slab OpenEntry) (s s' : State) → AsksSame s s' → AreHeld w requests s.requests → AreHeld w requests s'.requests
AreHeld-along requests s s' keeps h = record {
  held =
      entries_of requests s'.requests
      (All-permutation (IsHeldAt _ requests) _ _ (IsPermutation-sym _ _ keeps.requests)
      (All-map (IsHeldAt _ requests) asked s.requests (All-weaker (IsHeldAt _ requests) (λ o. IsHeldAt _ requests (asked o)) (entry_of_asked requests) s.requests h.held)));
  is_open = λ slot request there. Contains-permutation _ _ request.number (IsPermutation-sym _ _ (same_numbers s s' keeps)) (h.is_open slot request there);
  one_slot = h.one_slot;
  counted =
      h.counted
      ∙ sym (length-map s.requests asked)
      ∙ length_permutation _ _ keeps.requests
      ∙ length-map s'.requests asked;
}
