-- A request is found by its number, and cancelled.
use Rattle.std.proofs.Common.{◌≡◌, ℕ, ◌+◌, Bool, true, false, List, [], ◌∷◌, Some, None, refl, sym, ◌∙◌, ap, arith}
use Rattle.std.specs.Prelude.{All, IsTrue, MatchBool, slice_index_or}
use Rattle.class_disk.proofs.Common.{All-cons, entries_from, get, Slot, Transfer, Table, Opened, books_of, opened_of, open_from, open_at, TakesOut, PutsBack, is_cancellable, can_cancel, CannotCancel, CanCancelAt, CannotCancelAt, CancelsAtSlot, cancelled_one}
use Rattle.class_disk.specs.declared.requests.Slot.TheVariants.{Reserved, Open}
use Rattle.class_disk.proofs.Slots.{Slots, open_is, is_there}
use Rattle.class_disk.proofs.Replacing.{stands_as, replaces, books_replaced}

some_is : {X : Type 0} {x y : X} → Some x ≡ Some y → x ≡ y
some_is {X} {x} {y} e = cc (e)

-- WHETHER ONE CAN BE CANCELLED

-- nothing is open there
none_open : (slots : Slots) (slot number : ℕ) → ((t : Transfer) → slice_index_or slots slot None ≡ Some (Open t) → ⊥) → (o : Opened)
    → open_at slot (open_from 0 slots) ≡ Some o → is_cancellable number (slot, o) ≡ false
none_open slots slot number none o open' = let s = is_there 0 slot slot slots o (omega arith) open' in absurd (none s.transfer s.there)

pub cannot_there : (t : Table) (slot number : ℕ) → get t.slots slot ≡ None → CannotCancelAt (books_of t) slot number
cannot_there t slot number empty = none_open t.slots.slots slot number (λ u there. cc (empty, there))

pub can_there : (t : Table) (slot number : ℕ) (found : Slot) (result : Bool) → get t.slots slot ≡ Some found → result ≡ can_cancel number found
    → MatchBool result (CanCancelAt (books_of t) slot number) (CannotCancelAt (books_of t) slot number)
can_there t slot number (Reserved places) true there can = absurd (cc (can))
can_there t slot number (Reserved places) false there can = none_open t.slots.slots slot number (λ u is. cc (there, is))
can_there t slot number (Open u) true there can =
    record { o = opened_of u; is_open = open_is 0 slot slot t.slots.slots u (omega arith) there; can = sym can }
can_there t slot number (Open u) false there can = λ o open'.
    let e : o ≡ opened_of u = some_is (sym open' ∙ open_is 0 slot slot t.slots.slots u (omega arith) there) in
    ap (λ x. is_cancellable number (slot, x)) e ∙ sym can

-- the request is taken out, marked, and put back
pub cancels_there : (old mid new : Table) (slot number : ℕ) (t u : Transfer) → CanCancelAt (books_of old) slot number
    → get old.slots slot ≡ Some (Open t) → TakesOut old slot mid → PutsBack mid slot u new → opened_of u ≡ cancelled_one (opened_of t)
    → CancelsAtSlot (books_of old) slot number (books_of new)
cancels_there old mid new slot number t u c was out back is =
    let same : opened_of t ≡ c.o = stands_as old slot t c.o was c.is_open in
    record {
      o = c.o;
      is_open = c.is_open;
      can = c.can;
      after = books_replaced old new slot u (cancelled_one c.o) (is ∙ ap cancelled_one same) (replaces old mid new slot t u was out back);
    }

-- FINDING

-- the open requests of these entries
abbrev pub open_entries : List (ℕ × Slot) → List (ℕ × Opened)
open_entries [] = []
open_entries ((slot, Reserved places) ∷ rest) = open_entries rest
open_entries ((slot, Open t) ∷ rest) = (slot, opened_of t) ∷ open_entries rest

pub opens_are : (first : ℕ) (slots : Slots) → open_entries (entries_from first slots) ≡ open_from first slots
opens_are first [] = refl
opens_are first (None ∷ rest) = opens_are (first + 1) rest
opens_are first (Some (Reserved places) ∷ rest) = opens_are (first + 1) rest
opens_are first (Some (Open t) ∷ rest) = ap (λ es. (first, opened_of t) ∷ es) (opens_are (first + 1) rest)

-- one that cannot be cancelled was passed
pub one_more : (number slot : ℕ) (x : Slot) (rest : List (ℕ × Slot)) → can_cancel number x ≡ false
    → All (CannotCancel number) (open_entries rest) → All (CannotCancel number) (open_entries ((slot, x) ∷ rest))
one_more number slot (Reserved places) rest no' all = all
one_more number slot (Open t) rest no' all = All-cons (CannotCancel number) (slot, opened_of t) (open_entries rest) no' all

-- one that can be was found
pub found_open : (slots : Slots) (slot number : ℕ) (x : Slot) → slice_index_or slots slot None ≡ Some x → can_cancel number x ≡ true
    → (o : Opened) × ((open_at slot (open_from 0 slots) ≡ Some o) × IsTrue (is_cancellable number (slot, o)))
found_open slots slot number (Reserved places) there can = absurd (cc (can))
found_open slots slot number (Open t) there can = (opened_of t, (open_is 0 slot slot slots t (omega arith) there, can))
