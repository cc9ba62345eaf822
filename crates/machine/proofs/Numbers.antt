-- Numbers rise, and no two open requests share one.
use Rattle.std.proofs.Common.{◌≡◌, ◌<◌, ◌≤◌, inl, inr, ℕ, ◌+◌, Bool, true, false, List, [], ◌∷◌, Option, Some, None, refl, sym, subst, arith, map}
use Rattle.std.specs.Prelude.{IsPermutation, All, eqb, if◌then◌else◌}
use Rattle.std.specs.List.{IsDistinct, AllByRecursion}
use Rattle.std.proofs.lemmas.Bool.Decides.{nat_tests}
use Rattle.std.proofs.lemmas.Map.Keys.{IsDistinct-IsPermutation, IsDistinct-tail, IsDistinct-cons}
use Rattle.std.proofs.lemmas.List.Sorted.{IsPermutation-sym, IsPermutation-map, All-permutation}
use Rattle.std.proofs.lemmas.List.Elements.{All-nil, All-head, All-tail, All-cons, All-weaker, All-map}
use Rattle.ntstatus.specs.declared.NtStatus.{NtStatus}
use Rattle.srb.specs.declared.DeviceLabel.{DeviceLabel}
use Rattle.srb.specs.declared.DeviceLabel.TheVariants.{Start, Act, Fault, Return}
use Rattle.machine.specs.declared.ClientRequest.{ClientRequest}
use Rattle.machine.specs.declared.Label.{Label}
use Rattle.machine.specs.declared.Label.TheVariants.{Call, Device, Answer, Cancel, Pause, Resume, Remove, Surprise, Removed}
use Rattle.machine.specs.Rules.{Rules}
use Rattle.machine.specs.State.{OpenRequest, Piece, State, IsSame, opening}
use Rattle.machine.specs.Calling.{refusal, Admits}
use Rattle.machine.specs.Sending.{new_piece}
use Rattle.machine.specs.Holding.{held_back, beyond, as_timely, Drains}
use Rattle.machine.specs.Step.{DeviceStep, FreeStep, OwingStep, Step, Run}
use Rattle.machine.proofs.Same.{IsSame-sym}
use Rattle.machine.specs.Numbers.{request_number, piece_number, IsGiven, IsSent, AreDistinct}
use Rattle.machine.proofs.Permuting.{flips}

-- NUMBERS NEVER FALL

Admits-number : (rules : Rules) (s : State) (number : ℕ) (q : ClientRequest) (answer : Option NtStatus) (s' : State) → s.next_request ≤ number → Admits rules s number q answer s' → s.next_request ≤ s'.next_request
Admits-number rules s number q None s' above h = rw h.after.next_request (omega arith)
Admits-number rules s number q (Some status) s' above h = rw h.after.next_request (omega arith)

DeviceStep-number : (rules : Rules) (s : State) (label : DeviceLabel) (s' : State) → DeviceStep rules s label s' → (s'.next_request ≡ s.next_request) × (s.next_piece ≤ s'.next_piece)
DeviceStep-number rules s (Start piece tag block) s' h = (h.after.next_request, rw h.after.next_piece (omega arith))
DeviceStep-number rules s (Act piece bytes) s' h = (h.after.next_request, rw h.after.next_piece (omega arith))
DeviceStep-number rules s (Fault piece) s' h = (h.after.next_request, rw h.after.next_piece (omega arith))
DeviceStep-number rules s (Return piece class) s' h = (h.after.next_request, rw h.after.next_piece (omega arith))

FreeStep-number : (rules : Rules) (s : State) (label : Label) (s' : State) → FreeStep rules s label s' → s.next_request ≤ s'.next_request
FreeStep-number rules s (Call number q) s' h = Admits-number rules s number q (refusal rules s q) s' (rw h.next_number (omega arith)) h.admits
FreeStep-number rules s (Device label) s' h = let e = (DeviceStep-number rules s label s' h).0 in rw e (omega arith)
FreeStep-number rules s (Answer number status informed bytes) s' h = rw h.answers.after.next_request (omega arith)
FreeStep-number rules s (Cancel number) s' h = rw h.after.next_request (omega arith)
FreeStep-number rules s Pause s' h = rw h.after.next_request (omega arith)
FreeStep-number rules s Resume s' h = rw h.after.next_request (omega arith)
FreeStep-number rules s Remove s' h = rw h.after.next_request (omega arith)
FreeStep-number rules s Surprise s' h = rw h.drains.next_request (omega arith)
FreeStep-number rules s Removed s' h = rw h.after.next_request (omega arith)

OwingStep-number : (s : State) (label : Label) (s' : State) → OwingStep s label s' → s.next_request ≤ s'.next_request
OwingStep-number s (Answer number status informed bytes) s' h = rw h.after.next_request (omega arith)
OwingStep-number s _ s' h = absurd h

pub Step-number : (rules : Rules) (s : State) (label : Label) (s' : State) → Step rules s label s' → s.next_request ≤ s'.next_request
Step-number rules s label s' (inl h) = FreeStep-number rules s label s' h.1
Step-number rules s label s' (inr h) = OwingStep-number s label s' h

pub Run-number : (rules : Rules) (s : State) (labels : List Label) (s' : State) → Run rules s labels s' → s.next_request ≤ s'.next_request
Run-number rules s [] s' h = rw h.next_request (omega arith)
Run-number rules s (label ∷ labels) s' h =
    let a : s.next_request ≤ h.0.next_request = Step-number rules s label h.0 h.1 in
    let b : h.0.next_request ≤ s'.next_request = Run-number rules h.0 labels s' h.2 in
    omega arith

-- DISTINCT NUMBERS

apart : {X : Type 0} (key : X → ℕ) (n : ℕ) (xs : List X) → All (λ x. key x < n) xs → AllByRecursion (λ m. eqb n m ≡ false) (map key xs)
apart key n [] h = tt
apart key n (x ∷ xs) h =
    let low : key x < n = All-head (λ y. key y < n) x xs h in
    (grind (arith, nat_tests), apart key n xs (All-tail (λ y. key y < n) x xs h))

distinct_in_order : (xs ys : List ℕ) → IsPermutation xs ys → IsDistinct eqb xs → IsDistinct eqb ys
distinct_in_order xs ys p h = IsDistinct-IsPermutation eqb flips xs ys p h

pub requests_in_order : (xs ys : List OpenRequest) → IsPermutation xs ys → IsDistinct eqb (map request_number xs) → IsDistinct eqb (map request_number ys)
requests_in_order xs ys p h = distinct_in_order _ _ (IsPermutation-map request_number xs ys p) h

pieces_in_order : (xs ys : List Piece) → IsPermutation xs ys → IsDistinct eqb (map piece_number xs) → IsDistinct eqb (map piece_number ys)
pieces_in_order xs ys p h = distinct_in_order _ _ (IsPermutation-map piece_number xs ys p) h

distinct_none : IsDistinct eqb []
unfolding IsDistinct
distinct_none = tt

pub AreDistinct-opening : (arrays : List (List (List ℕ))) → AreDistinct (opening arrays)
AreDistinct-opening arrays = record { requests = distinct_none; given = All-nil (IsGiven 1); pieces = distinct_none; sent = All-nil (IsSent 1) }

-- open requests in another order, or one of them changed but for its number, keep it
pub AreDistinct-same : (s t : State) → IsSame s t → AreDistinct t → AreDistinct s
AreDistinct-same s t h d = record {
  requests = requests_in_order _ _ (IsPermutation-sym _ _ h.requests) d.requests;
  given = rw h.next_request (All-permutation (IsGiven t.next_request) _ _ (IsPermutation-sym _ _ h.requests) d.given);
  pieces = pieces_in_order _ _ (IsPermutation-sym _ _ h.pieces) d.pieces;
  sent = rw h.next_piece (All-permutation (IsSent t.next_piece) _ _ (IsPermutation-sym _ _ h.pieces) d.sent);
}

-- what is distinct in s, with a request and a piece in front
module _ (s : State) (d : AreDistinct s) where
  given_first : (o o' : OpenRequest) (others : List OpenRequest) → o'.number ≡ o.number → IsPermutation s.requests (o ∷ others) → All (IsGiven s.next_request) (o' ∷ others)
  given_first o o' others e p =
      let all : All (IsGiven s.next_request) (o ∷ others) = All-permutation (IsGiven s.next_request) _ _ p d.given in
      let mine : o.number < s.next_request = All-head (IsGiven s.next_request) o others all in
      All-cons (IsGiven s.next_request) o' others (omega arith) (All-tail (IsGiven s.next_request) o others all)

  sent_first : (piece piece' : Piece) (others : List Piece) → piece'.number ≡ piece.number → IsPermutation s.pieces (piece ∷ others) → All (IsSent s.next_piece) (piece' ∷ others)
  sent_first piece piece' others e p =
      let all : All (IsSent s.next_piece) (piece ∷ others) = All-permutation (IsSent s.next_piece) _ _ p d.sent in
      let mine : piece.number < s.next_piece = All-head (IsSent s.next_piece) piece others all in
      All-cons (IsSent s.next_piece) piece' others (omega arith) (All-tail (IsSent s.next_piece) piece others all)

  given_later : (n : ℕ) (xs : List OpenRequest) → s.next_request ≤ n → All (IsGiven s.next_request) xs → All (IsGiven n) xs
  given_later n xs le h = All-weaker (IsGiven s.next_request) (IsGiven n) (λ o low. later o.number low) xs h
    where
      later : (m : ℕ) → m < s.next_request → m < n
      later m low = omega arith

  -- one request changed but for its number
  changed : (o o' : OpenRequest) (others : List OpenRequest) → o'.number ≡ o.number → IsPermutation s.requests (o ∷ others) → AreDistinct (record s { requests = o' ∷ others })
  changed o o' others e p = record {
    requests = subst (λ n. IsDistinct eqb (n ∷ map request_number others)) (sym e) (requests_in_order _ _ p d.requests);
    given = given_first o o' others e p;
    pieces = d.pieces;
    sent = d.sent;
  }

  -- one request gone
  ended : (o : OpenRequest) (others : List OpenRequest) → IsPermutation s.requests (o ∷ others) → AreDistinct (record s { requests = others })
  ended o others p = record {
    requests = IsDistinct-tail eqb _ _ (requests_in_order _ _ p d.requests);
    given = All-tail (IsGiven s.next_request) o others (given_first o o others refl p);
    pieces = d.pieces;
    sent = d.sent;
  }

  -- one piece changed but for its number
  met : (piece piece' : Piece) (others : List Piece) → piece'.number ≡ piece.number → IsPermutation s.pieces (piece ∷ others) → AreDistinct (record s { pieces = piece' ∷ others })
  met piece piece' others e p = record {
    requests = d.requests;
    given = d.given;
    pieces = subst (λ n. IsDistinct eqb (n ∷ map piece_number others)) (sym e) (pieces_in_order _ _ p d.pieces);
    sent = sent_first piece piece' others e p;
  }

  -- one piece gone
  back : (piece : Piece) (others : List Piece) → IsPermutation s.pieces (piece ∷ others) → AreDistinct (record s { pieces = others })
  back piece others p = record {
    requests = d.requests;
    given = d.given;
    pieces = IsDistinct-tail eqb _ _ (pieces_in_order _ _ p d.pieces);
    sent = All-tail (IsSent s.next_piece) piece others (sent_first piece piece others refl p);
  }

  -- one more request, under a number that was never given
  opened : (n : ℕ) (o : OpenRequest) → o.number ≡ n → s.next_request ≤ n → AreDistinct (record s { next_request = n + 1; requests = o ∷ s.requests })
  opened n o e le = record {
    requests = IsDistinct-cons eqb o.number _ (apart request_number o.number s.requests (given_later o.number s.requests (rw e le) d.given)) d.requests;
    given = All-cons (IsGiven (n + 1)) o s.requests (omega arith) (given_later (n + 1) s.requests (omega arith) d.given);
    pieces = d.pieces;
    sent = d.sent;
  }

  numbered : (n : ℕ) → s.next_request ≤ n → AreDistinct (record s { next_request = n })
  numbered n le = record { requests = d.requests; given = given_later n s.requests le d.given; pieces = d.pieces; sent = d.sent }

  sent_later : (xs : List Piece) → All (IsSent s.next_piece) xs → All (IsSent (s.next_piece + 1)) xs
  sent_later xs h = All-weaker (IsSent s.next_piece) (IsSent (s.next_piece + 1)) (λ piece low. later piece.number low) xs h
    where
      later : (m : ℕ) → m < s.next_piece → m < s.next_piece + 1
      later m low = omega arith

  launched : (piece : Piece) → piece.number ≡ s.next_piece → AreDistinct (record s { next_piece = s.next_piece + 1; pieces = piece ∷ s.pieces })
  launched piece e = record {
    requests = d.requests;
    given = d.given;
    pieces = IsDistinct-cons eqb piece.number _ (rw e (apart piece_number s.next_piece s.pieces d.sent)) d.pieces;
    sent = All-cons (IsSent (s.next_piece + 1)) piece s.pieces (omega arith) (sent_later s.pieces d.sent);
  }

  -- each request changed but for its number
  each : (f : OpenRequest → OpenRequest) → ((o : OpenRequest) → (f o).number ≡ o.number) → AreDistinct (record s { requests = map f s.requests })
  each f e = record {
    requests = rw (numbers f e s.requests) d.requests;
    given = All-map (IsGiven s.next_request) f s.requests (All-weaker (IsGiven s.next_request) (λ o. IsGiven s.next_request (f o)) (λ o low. rw e low) s.requests d.given);
    pieces = d.pieces;
    sent = d.sent;
  }
    where
      numbers : (f : OpenRequest → OpenRequest) → ((o : OpenRequest) → (f o).number ≡ o.number) → (xs : List OpenRequest) → map request_number (map f xs) ≡ map request_number xs
      numbers f e [] = refl
      numbers f e (x ∷ xs) = cc (e x, numbers f e xs)

  paused : (window : Option ℕ) → AreDistinct (record s { requests = held_back window s.requests })
  paused None = record { requests = d.requests; given = d.given; pieces = d.pieces; sent = d.sent }
  paused (Some window) = each (beyond window s.requests) (λ o. refl)

-- the fields that it does not read may change
same_numbers : (s t : State) → t.next_request ≡ s.next_request → t.next_piece ≡ s.next_piece → t.requests ≡ s.requests → t.pieces ≡ s.pieces → AreDistinct s → AreDistinct t
same_numbers s t a b c e d = record {
  requests = rw c d.requests;
  given = rw (a, c) d.given;
  pieces = rw e d.pieces;
  sent = rw (b, e) d.sent;
}

pub AreDistinct-Admits : (rules : Rules) (s : State) (number : ℕ) (q : ClientRequest) (answer : Option NtStatus) (s' : State) → s.next_request ≤ number → AreDistinct s → Admits rules s number q answer s' → AreDistinct s'
AreDistinct-Admits rules s number q None s' above d h = AreDistinct-same s' _ h.after (opened s d number _ refl above)
AreDistinct-Admits rules s number q (Some status) s' above d h =
    AreDistinct-same s' _ h.after (same_numbers (record s { next_request = number + 1 }) _ refl refl refl refl (numbered s d (number + 1) (omega arith)))

pub AreDistinct-DeviceStep : (rules : Rules) (s : State) (label : DeviceLabel) (s' : State) → AreDistinct s → DeviceStep rules s label s' → AreDistinct s'
AreDistinct-DeviceStep rules s (Start piece tag block) s' d h =
    AreDistinct-same s' _ h.after (launched (record s { requests = _ ∷ h.others }) (changed s d h.owner _ h.others refl h.is_open) (new_piece s tag h.owner h.places) refl)
AreDistinct-DeviceStep rules s (Act piece bytes) s' d h =
    AreDistinct-same s' _ h.after (same_numbers (record s { pieces = _ ∷ h.other_pieces }) _ refl refl refl refl (met s d h.piece _ h.other_pieces refl h.fresh.is_out))
AreDistinct-DeviceStep rules s (Fault piece) s' d h = AreDistinct-same s' _ h.after (met s d h.piece _ h.other_pieces refl h.fresh.is_out)
AreDistinct-DeviceStep rules s (Return piece class) s' d h =
    AreDistinct-same s' _ h.after (back (record s { requests = _ ∷ h.others }) (changed s d h.owner _ h.others refl h.is_open) h.piece h.other_pieces h.is_out)

-- a layer's removal
AreDistinct-Drains : (rules : Rules) (s s' : State) → AreDistinct s → Drains rules s s' → AreDistinct s'
AreDistinct-Drains rules s s' d h = AreDistinct-same s' _ h (by_pause s.paused)
  where
    by_pause : (paused : Bool) → AreDistinct (record s { paused = false; removing = true; requests = if paused then s.requests else held_back rules.window s.requests })
    by_pause true = same_numbers s _ refl refl refl refl d
    by_pause false = same_numbers _ _ refl refl refl refl (paused s d rules.window)

AreDistinct-FreeStep : (rules : Rules) (s : State) (label : Label) (s' : State) → AreDistinct s → FreeStep rules s label s' → AreDistinct s'
AreDistinct-FreeStep rules s (Call number q) s' d h = AreDistinct-Admits rules s number q (refusal rules s q) s' (rw h.next_number (omega arith)) d h.admits
AreDistinct-FreeStep rules s (Device label) s' d h = AreDistinct-DeviceStep rules s label s' d h
AreDistinct-FreeStep rules s (Answer number status informed bytes) s' d h = AreDistinct-same s' _ h.answers.after (ended s d h.answers.request h.answers.others h.answers.is_open)
AreDistinct-FreeStep rules s (Cancel number) s' d h = AreDistinct-same s' _ h.after (changed s d h.request _ h.others refl h.is_open)
AreDistinct-FreeStep rules s Pause s' d h = AreDistinct-same s' _ h.after (same_numbers _ _ refl refl refl refl (paused s d rules.window))
AreDistinct-FreeStep rules s Resume s' d h = AreDistinct-same s' _ h.after (same_numbers _ _ refl refl refl refl (each s d as_timely (λ o. refl)))
AreDistinct-FreeStep rules s Remove s' d h = AreDistinct-same s' _ h.after (same_numbers s _ refl refl refl refl d)
AreDistinct-FreeStep rules s Surprise s' d h = AreDistinct-Drains rules s s' d h.drains
AreDistinct-FreeStep rules s Removed s' d h = AreDistinct-same s' _ h.after (same_numbers s _ refl refl refl refl d)

AreDistinct-OwingStep : (s : State) (label : Label) (s' : State) → AreDistinct s → OwingStep s label s' → AreDistinct s'
AreDistinct-OwingStep s (Answer number status informed bytes) s' d h = AreDistinct-same s' _ h.after (same_numbers s _ refl refl refl refl d)
AreDistinct-OwingStep s _ s' d h = absurd h

pub AreDistinct-Step : (rules : Rules) (s : State) (label : Label) (s' : State) → AreDistinct s → Step rules s label s' → AreDistinct s'
AreDistinct-Step rules s label s' d (inl h) = AreDistinct-FreeStep rules s label s' d h.1
AreDistinct-Step rules s label s' d (inr h) = AreDistinct-OwingStep s label s' d h

pub AreDistinct-Run : (rules : Rules) (s : State) (labels : List Label) (s' : State) → AreDistinct s → Run rules s labels s' → AreDistinct s'
AreDistinct-Run rules s [] s' d h = AreDistinct-same s' s (IsSame-sym s s' h) d
AreDistinct-Run rules s (label ∷ labels) s' d h = AreDistinct-Run rules h.0 labels s' (AreDistinct-Step rules s label h.0 d h.1) h.2
