-- The queue of the packets that wait: what its calls mean for the packets.
use Rattle.std.proofs.Common.{◌≡◌, ◌≢◌, ℕ, arith, length, Bool, true, false, List, [], ◌∷◌, ◌++◌, map, refl, sym, subst, ap, ◌∙◌}
use Rattle.std.specs.Prelude.{All, MatchBool, IsFalse}
use Rattle.std.proofs.lemmas.Bool.{eq-eqb}
use Rattle.std.proofs.lemmas.List.{map-append}
use Rattle.std.proofs.lemmas.List.Elements.{All-nil, All-cons, All-head}
use Rattle.std.proofs.lemmas.List.Sorted.{All-permutation, IsPermutation-middle}
use Rattle.linked.specs.Queue.{Queue, HasNone, Lacks, Pops, RemovesNumber, RemovesNone, Finds}
use Rattle.port.specs.declared.queues.Waiting.{Waiting}
use Rattle.port.specs.declared.queues.PortPacket.{PortPacket}
use Rattle.port.specs.declared.queues.Ended.{Ended}
use Rattle.port.specs.declared.queues.Outcome.TheVariants.{Withdrawn}
use Rattle.port.specs.inside.TableView.{TableView, entry_of, ended_entry, held_at}
use Rattle.port.specs.inside.TableCalls.{cancelled, is_cancellable, CannotCancelHeld, IsUncancelled, IsPacked, Withdraws, WithdrawsNot, WithdrawsAt, WithdrawsNotAt, IsNotAt}
use Rattle.port.proofs.Draining.{can_facts}

-- the number of a packet that waits
abbrev pub waiting_number : Waiting → ℕ
waiting_number w = w.irp.value.number

-- the packets of the entries
abbrev pub packets_in : Queue Waiting → List PortPacket
packets_in q = map held_at q.entries

-- the books with these packets waiting
abbrev pub with_queue : TableView → Queue Waiting → TableView
with_queue b q = record b { waiting = packets_in q; capacity = record b.capacity { waiting = q.places } }

pub popped : (q q' : Queue Waiting) (spot : ℕ) (item : Waiting) → Pops q spot item q' → packets_in q ≡ held_at (spot, item) ∷ packets_in q'
popped q q' spot item p = ap (map held_at) p.stood ∙ ap (λ (x : Queue Waiting). held_at (spot, item) ∷ packets_in x) (sym p.after)

pub front_packed : (q q' : Queue Waiting) (spot : ℕ) (item : Waiting) → Pops q spot item q' → All IsPacked (packets_in q) → IsPacked (held_at (spot, item))
front_packed q q' spot item p h = All-head IsPacked (held_at (spot, item)) (packets_in q') (subst (λ hs. All IsPacked hs) (popped q q' spot item p) h)

not_at : (spot number : ℕ) (entries : List (ℕ × Waiting)) → HasNone waiting_number spot number entries → All (IsNotAt spot number) (map held_at entries)
not_at spot number [] h = All-nil (IsNotAt spot number)
not_at spot number (e ∷ entries) h = All-cons (IsNotAt spot number) (held_at e) (map held_at entries) h.0 (not_at spot number entries h.1)

pub withdrawn_none : (b b' : TableView) (q q' : Queue Waiting) (spot number : ℕ) → b ≡ with_queue b q → RemovesNone waiting_number q spot number q' → b' ≡ with_queue b q' → WithdrawsNotAt b spot number b'
withdrawn_none b b' q q' spot number is h after = record {
  none = subst (λ hs. All (IsNotAt spot number) hs) (sym (ap (λ (x : TableView). x.waiting) is)) (not_at spot number q.entries h.none);
  same = after ∙ ap (with_queue b) h.same ∙ sym is;
}

-- a packet of the number that is not cancelled yet can be
can_cancel : (number : ℕ) (held : PortPacket) → held.irp.value.number ≡ number → IsUncancelled held → is_cancellable number (entry_of held) ≡ true
can_cancel number held same timely = let equal = eq-eqb held.irp.value.number number same in rw (equal, timely) refl

pub withdrawn : (b b' : TableView) (q q' : Queue Waiting) (spot number : ℕ) (item : Waiting) (ended : Ended) (done' : List Ended) → b ≡ with_queue b q → All IsUncancelled b.waiting → RemovesNumber waiting_number q spot number item q'
    → ended_entry ended ≡ cancelled (entry_of (held_at (spot, item))) → ended.irp.value.payload ≡ item.irp.value.payload → ended.outcome ≡ Withdrawn → done' ≡ b.done ++ ended ∷ [] → b' ≡ record (with_queue b q') { done = done' }
    → WithdrawsAt b spot number b'
withdrawn b b' q q' spot number item ended done' is timely h entry carries ends more after =
    let r = h.removes in
    let held = held_at (spot, item) in
    let before = map held_at r.before in
    let behind = map held_at r.behind in
    let waits : b.waiting ≡ before ++ held ∷ behind = ap (λ (x : TableView). x.waiting) is ∙ ap (map held_at) r.stood ∙ map-append held_at r.before ((spot, item) ∷ r.behind) in
    let front : IsUncancelled held = All-head IsUncancelled held (before ++ behind) (All-permutation IsUncancelled _ _ (IsPermutation-middle before held behind) (subst (λ hs. All IsUncancelled hs) waits timely)) in
    record {
      withdraws = record {
        before = before;
        held = held;
        behind = behind;
        withdrawn = ended;
        waits = waits;
        can = can_cancel number held h.is_number front;
        same_entry = entry;
        carries = carries;
        ends = ends;
        after = after ∙ ap (λ (x : Queue Waiting). record (with_queue b x) { done = done' }) r.after
            ∙ ap (λ (n : ℕ). record b { waiting = map held_at (r.before ++ r.behind); done = done'; capacity = record b.capacity { waiting = n } }) (sym (ap (λ (x : TableView). x.capacity.waiting) is))
            ∙ ap (λ hs. record b { waiting = hs; done = done' }) (map-append held_at r.before r.behind) ∙ ap (λ ds. record b { waiting = before ++ behind; done = ds }) more;
      };
      at_spot = refl;
    }

-- THE SEARCH BY NUMBER

cannot : (number : ℕ) (held : PortPacket) → held.irp.value.number ≢ number → CannotCancelHeld number held
cannot number held differs = by_test (is_cancellable number (entry_of held)) refl
  where
    by_test : (can : Bool) → is_cancellable number (entry_of held) ≡ can → IsFalse can
    by_test true is = absurd (differs (can_facts number (entry_of held) is).0)
    by_test false is = refl

lacking : (number : ℕ) (entries : List (ℕ × Waiting)) → Lacks waiting_number number entries → All (CannotCancelHeld number) (map held_at entries)
lacking number [] h = All-nil (CannotCancelHeld number)
lacking number (e ∷ entries) h = All-cons (CannotCancelHeld number) (held_at e) (map held_at entries) (cannot number (held_at e) h.0) (lacking number entries h.1)

pub found_none : (b b' : TableView) (q q' : Queue Waiting) (number visits : ℕ) → b ≡ with_queue b q → Lacks waiting_number number q.entries → q' ≡ record q { visits = visits } → b' ≡ with_queue b q' → WithdrawsNot b number b'
found_none b b' q q' number visits is h same after = record {
  none = subst (λ hs. All (CannotCancelHeld number) hs) (sym (ap (λ (x : TableView). x.waiting) is)) (lacking number q.entries h);
  same = after ∙ ap (with_queue b) same ∙ sym is;
}

pub found : (b b' : TableView) (q q' : Queue Waiting) (number spot : ℕ) (result : Bool) → b ≡ with_queue b q → Finds waiting_number q number spot q'
    → MatchBool result (WithdrawsAt (with_queue b q') spot number b') (WithdrawsNotAt (with_queue b q') spot number b')
    → MatchBool result (Withdraws b number b') (WithdrawsNot b number b')
found b b' q q' number spot true is f h =
    let same : with_queue b q' ≡ b = ap (with_queue b) f.after ∙ sym is in
    subst (λ x. Withdraws x number b') same h.withdraws
found b b' q q' number spot false is f h =
    let held = held_at (spot, f.item) in
    let before = map held_at f.before in
    let behind = map held_at f.behind in
    let waits : packets_in q' ≡ before ++ held ∷ behind = ap packets_in f.after ∙ ap (map held_at) f.stood ∙ map-append held_at f.before ((spot, f.item) ∷ f.behind) in
    let not_here : IsNotAt spot number held = All-head (IsNotAt spot number) held (before ++ behind) (All-permutation (IsNotAt spot number) _ _ (IsPermutation-middle before held behind) (subst (λ hs. All (IsNotAt spot number) hs) waits h.none)) in
    absurd (not_here refl f.is_number)

-- in an empty queue nobody waits
pub none_waits : (entries : List (ℕ × Waiting)) → length entries ≡ 0 → map held_at entries ≡ []
none_waits [] none = refl
none_waits (e ∷ rest) none = absurd (omega (arith, none))
