-- Packets that are cancelled, or that wait at a removal: the queues.
use Rattle.std.proofs.Common.{◌≡◌, ◌<◌, ℕ, zero, suc, ◌+◌, Bool, true, false, List, [], ◌∷◌, ◌++◌, Some, None, refl, sym, subst, ap, ◌∙◌, arith, map, length, get_or, take, drop}
use Rattle.std.specs.Prelude.{All, position, remove, slice_set}
use Rattle.std.specs.List.{position_from}
use Rattle.std.proofs.lemmas.List.{append-nil, nil_from_length, take-append-drop, drop_more}
use Rattle.std.proofs.lemmas.List.Elements.{All-nil, All-cons}
use Rattle.std.proofs.lemmas.List.Quantifiers.{position-Some}
use Rattle.std.proofs.lemmas.Iterator.Adapters.{position_from-zero}
use Rattle.port.specs.declared.queues.PortPacket.{PortPacket}
use Rattle.port.specs.declared.queues.Ended.{Ended}
use Rattle.port.specs.declared.queues.Outcome.TheVariants.{Withdrawn}
use Rattle.port.specs.inside.TableView.{TableView, entry_of, ended_entry}
use Rattle.port.specs.inside.TableCalls.{gone, drained, cancelled, can_cancel_held, can_cancel_ended, Withdraws, Marks, CancelsEnded, CancelsNoEnded}

pub drained_by : (b x : TableView) (before after : List PortPacket) → b.waiting ≡ before ++ x.waiting → x.done ≡ b.done ++ map gone before → x ≡ record b { waiting = x.waiting; done = x.done }
    → length x.waiting ≡ 0 → length after ≡ 0 → record x { waiting = after; removing = true } ≡ drained b
drained_by b x before after waited went others none none' =
    let w : x.waiting ≡ [] = nil_from_length x.waiting none in
    let w' : after ≡ [] = nil_from_length after none' in
    let all : before ≡ b.waiting = sym (waited ∙ ap (λ (hs : List PortPacket). before ++ hs) w ∙ append-nil before) in
    ap (λ (hs : List PortPacket). record x { waiting = hs; removing = true }) w'
    ∙ ap (λ (y : TableView). record y { waiting = []; removing = true }) others
    ∙ ap (λ (ds : List Ended). record b { waiting = []; done = ds; removing = true }) (went ∙ ap (λ (hs : List PortPacket). b.done ++ map gone hs) all)

-- SEARCHES

none_from : {X : Type 0} (test : X → Bool) (i : ℕ) (xs : List X) → position_from test i xs ≡ None → All (λ x. test x ≡ false) xs
none_from test i [] h = All-nil (λ x. test x ≡ false)
none_from {X} test i (x ∷ xs) h = by_test (test x) refl (none_from test (i + 1) xs)
  where
    by_test : (b : Bool) → test x ≡ b → (position_from test (i + 1) xs ≡ None → All (λ x. test x ≡ false) xs) → All (λ x. test x ≡ false) (x ∷ xs)
    by_test true is rest = let e : Some i ≡ None = rw is at h in absurd (cc (e))
    by_test false is rest = All-cons (λ x. test x ≡ false) x xs is (rest (rw is at h))

none_found : {X : Type 0} (test : X → Bool) (xs : List X) → position test xs ≡ None → All (λ x. test x ≡ false) xs
none_found test xs h = none_from test 0 xs (sym (position_from-zero test xs) ∙ h)

-- a list at one of its places
pub split_at : {X : Type 0} (xs : List X) (i : ℕ) (x : X) → i < length xs → x ≡ get_or xs i x → xs ≡ take i xs ++ x ∷ drop (suc i) xs
split_at {X} xs i x low is =
    let e : drop i xs ≡ get_or xs i x ∷ drop (i + 1) xs = drop_more xs i x low in
    let n : i + 1 ≡ suc i = omega arith in
    sym (take-append-drop i xs) ∙ ap (λ (ys : List X). take i xs ++ ys) (e ∙ ap (λ (y : X). y ∷ drop (i + 1) xs) (sym is) ∙ ap (λ (k : ℕ). x ∷ drop k xs) n)

pub withdraws : (b b' : TableView) (number index : ℕ) (held : PortPacket) (withdrawn : Ended) (waiting' : List PortPacket) (done' : List Ended) → Some index ≡ position (can_cancel_held number) b.waiting → held ≡ get_or b.waiting index held
    → waiting' ≡ remove b.waiting index → ended_entry withdrawn ≡ cancelled (entry_of held) → withdrawn.irp.value.payload ≡ held.irp.value.payload → withdrawn.outcome ≡ Withdrawn → done' ≡ b.done ++ withdrawn ∷ []
    → b' ≡ record b { waiting = waiting'; done = done' } → Withdraws b number b'
withdraws b b' number index held withdrawn waiting' done' found is left entry carries ends more after =
    let at = position-Some (can_cancel_held number) b.waiting index held (sym found) in
    record {
      before = take index b.waiting;
      held = held;
      behind = drop (suc index) b.waiting;
      withdrawn = withdrawn;
      waits = split_at b.waiting index held at.0 is;
      can = ap (can_cancel_held number) is ∙ at.1;
      same_entry = entry;
      carries = carries;
      ends = ends;
      after = after ∙ ap (λ (hs : List PortPacket). record b { waiting = hs; done = done' }) left ∙ ap (λ (ds : List Ended). record b { waiting = remove b.waiting index; done = ds }) more;
    }

set_between : {X : Type 0} (xs : List X) (k : ℕ) (x : X) → k < length xs → slice_set xs k x ≡ take k xs ++ (x ∷ drop (suc k) xs)
set_between [] k x low = absurd (omega arith)
set_between (y ∷ xs) zero x low = refl
set_between (y ∷ xs) (suc k) x low = ap (λ zs. y ∷ zs) (set_between xs k x (omega arith))

pub found_within : (number index : ℕ) (done : List Ended) → Some index ≡ position (can_cancel_ended number) done → index < length done
found_within number index [] found = cc (found)
found_within number index (e ∷ done) found = (position-Some (can_cancel_ended number) (e ∷ done) index e (sym found)).0

pub cancels_marked : (b b' : TableView) (number index : ℕ) (done done' : List Ended) → Some index ≡ position (can_cancel_ended number) b.done → done ≡ b.done → Marks done index done' → b' ≡ record b { done = done' }
    → CancelsEnded b number b'
cancels_marked b b' number index done done' found same marks after =
    let m : Marks b.done index done' = subst (λ (ds : List Ended). Marks ds index done') same marks in
    let at = position-Some (can_cancel_ended number) b.done index m.ended (sym found) in
    record {
      before = take index b.done;
      ended = m.ended;
      behind = drop (suc index) b.done;
      marked = m.marked;
      is_done = split_at b.done index m.ended at.0 m.stood;
      can = ap (can_cancel_ended number) m.stood ∙ at.1;
      same_entry = m.same_entry;
      carries = m.carries;
      ends = m.ends;
      after = after ∙ ap (λ (ds : List Ended). record b { done = ds }) (m.after ∙ set_between b.done index m.marked at.0);
    }

pub cancels_no_ended : (b b' : TableView) (number : ℕ) → None ≡ position (can_cancel_ended number) b.done → b' ≡ b → CancelsNoEnded b number b'
cancels_no_ended b b' number h same = record { none = none_found (can_cancel_ended number) b.done (sym h); same = same }
