-- A session ends: what is at work may have failed, and what is left of a sector is one of the values that it may hold then.
use Rattle.std.proofs.Common.{◌≡◌, ◌≢◌, inl, inr, ℕ, zero, suc, List, [], ◌∷◌, ◌++◌, refl, sym, ◌∙◌, ap, subst, map, get_or}
use Rattle.std.specs.Prelude.{IsNone, IsPermutation, All, Any, Contains}
use Rattle.std.proofs.lemmas.Bool.{cases_eq}
use Rattle.std.proofs.lemmas.List.Sorted.{IsPermutation-refl, IsPermutation-sym, IsPermutation-trans, IsPermutation-middle, All-permutation, Contains-permutation}
use Rattle.std.proofs.lemmas.List.Elements.{All-nil, All-cons, All-contains, All-head, All-contains_itself}
use Rattle.srb.specs.Fate.{Fate, Fresh, Acted, Faulted}
use Rattle.srb.specs.declared.DeviceLabel.TheVariants.{Fault}
use Rattle.machine.specs.declared.Label.TheVariants.{Device}
use Rattle.machine.specs.Rules.{Rules}
use Rattle.machine.specs.State.{OpenRequest, Piece, State, opening}
use Rattle.machine.specs.Sending.{Faults, with_fate}
use Rattle.machine.specs.Pieces.{IsOwner, IsPlaced, ArePlaced}
use Rattle.machine.specs.Step.{Step}
use Rattle.machine.proofs.Placed.{ArePlaced-Step}
use Rattle.machine_laws.proofs.Sound.{IsSound, IsSound-Step}
use Rattle.loss.specs.Held.{Change, Puts, Secures, Tries, Syncs, Doubts, Held, IsOneOf, changed, changed_by, fault_changes, left, surely, value_of}
use Rattle.loss.specs.Laws.{Each}
use Rattle.loss.specs.Moved.{FailsOn, Table, work_of}
use Rattle.loss.specs.Sessions.{IsAtWork, MayBeLeft, MayRemain, worked_on}
use Rattle.history_loss.specs.Schedules.{Event, lines_of}
use Rattle.history_loss.proofs.Mirroring.{IsBelow, IsFollowed, IsMirrored, further, newest}
use Rattle.history_loss.proofs.Holding.{Ends, IsFailing, both_surely, one_of_either, one_of_first, one_of_second}
use Rattle.history_loss.proofs.Places.{fault_fails}
use Rattle.history_loss.proofs.Leading.{Next, Stage, lines_join, next_then, no_event}
use Rattle.history_loss.proofs.Failing.{fails, faults_next, same_open, same_piece}

-- WHAT IS WIDER

-- h' may hold what h may
pub record Wider (h h' : Held) : Type 0 where
  pub now : (v : List ℕ) → IsOneOf v h.now → IsOneOf v h'.now
  pub left : (v : List ℕ) → IsOneOf v (left h) → IsOneOf v (left h')

in_tried : (next : ℕ) (v x : List ℕ) (h : Held) → IsOneOf v (left h) → IsOneOf v (left (changed next (Tries x) h))
in_tried next v x h p = elim (one_of_either v h.now (map value_of h.older) p) [
  | inl q ↦ one_of_first v (h.now ++ x ∷ []) (map value_of h.older) (one_of_first v h.now (x ∷ []) q)
  | inr q ↦ one_of_second v (h.now ++ x ∷ []) (map value_of h.older) q
]

wider_by : (next again : ℕ) (change : Change) (h h' : Held) → IsFailing change → Wider h h' → Wider (changed next change h) (changed again change h')
wider_by next again (Tries x) h h' failing w = record {
  now = λ v p. now v p;
  left = λ v p. elim (one_of_either v (h.now ++ x ∷ []) (map value_of h.older) p) [
    | inl q ↦ one_of_first v (h'.now ++ x ∷ []) (map value_of h'.older) (now v q)
    | inr q ↦ in_tried again v x h' (w.left v (one_of_second v h.now (map value_of h.older) q))
  ];
}
  where
    now : (v : List ℕ) → IsOneOf v (h.now ++ x ∷ []) → IsOneOf v (h'.now ++ x ∷ [])
    now v p = elim (one_of_either v h.now (x ∷ []) p) [ inl q ↦ one_of_first v h'.now (x ∷ []) (w.now v q) | inr q ↦ one_of_second v h'.now (x ∷ []) q ]
wider_by next again Doubts h h' failing w = record {
  now = λ v p. w.left v p;
  left = λ v p. elim (one_of_either v (left h) [] p) [ inl q ↦ one_of_first v (left h') [] (w.left v q) | inr never ↦ absurd never ];
}
wider_by next again (Puts x) h h' failing w = absurd failing
wider_by next again (Secures x) h h' failing w = absurd failing
wider_by next again (Syncs n) h h' failing w = absurd failing

wider_failing : (next again : ℕ) (changes : List Change) (h h' : Held) → Each IsFailing changes → Wider h h' → Wider (changed_by next changes h) (changed_by again changes h')
wider_failing next again [] h h' failing w = w
wider_failing next again (change ∷ changes) h h' failing w =
    wider_failing next again changes (changed next change h) (changed again change h') failing.1 (wider_by next again change h h' failing.0 w)

wider_then : (a b c : Held) → Wider a b → Wider b c → Wider a c
wider_then a b c f g = record { now = λ v p. g.now v (f.now v p); left = λ v p. g.left v (f.left v p) }

wider_one : (next : ℕ) (change : Change) (h : Held) → IsFailing change → Wider h (changed next change h)
wider_one next (Tries x) h failing = record { now = λ v p. one_of_first v h.now (x ∷ []) p; left = λ v p. in_tried next v x h p }
wider_one next Doubts h failing = record { now = λ v p. one_of_first v h.now (map value_of h.older) p; left = λ v p. one_of_first v (left h) [] p }
wider_one next (Puts x) h failing = absurd failing
wider_one next (Secures x) h failing = absurd failing
wider_one next (Syncs n) h failing = absurd failing

-- a failure takes nothing away
wider_self : (next : ℕ) (changes : List Change) (h : Held) → Each IsFailing changes → Wider h (changed_by next changes h)
wider_self next [] h failing = record { now = λ v p. p; left = λ v p. p }
wider_self next (change ∷ changes) h failing =
    wider_then h (changed next change h) (changed_by next changes (changed next change h)) (wider_one next change h failing.0) (wider_self next changes (changed next change h) failing.1)

-- WHAT IS AT WORK FAILS

-- all that was at work has failed, and what might be left before may be left of the table
pub record IsWorkedOff (rules : Rules) (s : State) (t : Table) : Type 0 where
  pub machine : State
  pub table : Table
  pub shared : List Event
  pub quiet : lines_of shared ≡ []
  pub next : (i : ℕ) (past : List Event) (g : Held) → Stage rules i past g s (t i) → Next rules i past g shared machine (table i)
  pub left : (i : ℕ) (v : List ℕ) → MayBeLeft rules s t i v → IsOneOf v (left (table i))
  pub now : (i : ℕ) (v : List ℕ) → MayRemain rules s t i v → IsOneOf v (table i).now

pub no_lines : (number first count : ℕ) → lines_of (fails number first count) ≡ []
no_lines number first zero = refl
no_lines number first (suc count) = no_lines number (suc first) count

abbrev IsStale : Piece → Type 0
IsStale piece = piece.fate ≡ Fresh → ⊥

-- nothing is at work
module _ (rules : Rules) (s : State) (t : Table) (stale : All IsStale s.pieces) where
  idle_left : (i : ℕ) (v : List ℕ) → MayBeLeft rules s t i v → IsOneOf v (left (t i))
  idle_left i v (inl p) = p
  idle_left i v (inr (piece, owner, work, p)) = absurd (All-contains IsStale s.pieces piece stale work.out.is_out work.fresh)

  idle_now : (i : ℕ) (v : List ℕ) → MayRemain rules s t i v → IsOneOf v (t i).now
  idle_now i v (inl p) = p
  idle_now i v (inr (piece, owner, work, p)) = absurd (All-contains IsStale s.pieces piece stale work.out.is_out work.fresh)

  none_left : IsWorkedOff rules s t
  none_left = record {
    machine = s;
    table = t;
    shared = [];
    quiet = refl;
    next = λ i past g stage. no_event rules i past g s (t i) stage;
    left = idle_left;
    now = idle_now;
  }

-- one piece fails
module _ (rules : Rules) (s : State) (t : Table) (sound : IsSound rules s) (free : IsNone s.owed) (piece : Piece) (others : List Piece) (perm : IsPermutation s.pieces (piece ∷ others)) (fresh : piece.fate ≡ Fresh)
    (owner : OpenRequest) (there : Contains s.requests owner) (owns : owner.number ≡ piece.owner) where
  abbrev pub next_state : State
  next_state = record s { pieces = with_fate Faulted piece ∷ others }

  abbrev pub next_table : Table
  next_table i = changed_by s.next_piece (fault_changes rules.sector_size (work_of rules owner.request piece.places) i) (t i)

  abbrev pub faulted : Faults s piece.number next_state
  faulted = record {
    piece = piece;
    other_pieces = others;
    fresh = record { is_out = perm; is_number = refl; is_fresh = fresh };
    after = record {
      arrays = refl;
      next_request = refl;
      next_piece = refl;
      requests = IsPermutation-refl s.requests;
      pieces = IsPermutation-refl (with_fate Faulted piece ∷ others);
      owed = refl;
      paused = refl;
      removing = refl;
      removed = refl;
    };
  }

  pub first_out : Contains s.pieces piece
  first_out = Contains-permutation _ _ piece (IsPermutation-sym _ _ perm) (newest piece others)

  abbrev pub moved : FailsOn rules s piece.number t next_table
  moved = record { piece = piece; owner = owner; out = record { is_number = refl; is_out = first_out; is_open = there; is_owner = owns }; after = λ i. refl }

  pub step : Step rules s (Device (Fault piece.number)) next_state
  step = inl (free, faulted)

  wider : (i : ℕ) → Wider (t i) (next_table i)
  wider i = wider_self s.next_piece (fault_changes rules.sector_size (work_of rules owner.request piece.places) i) (t i) (fault_fails rules i owner.request piece.places)

  -- another piece that was at work still is
  still_out : (p : Piece) → Contains s.pieces p → p.number ≢ piece.number → Contains next_state.pieces p
  still_out p out other =
      All-contains (λ x. x.number ≢ piece.number → Contains (with_fate Faulted piece ∷ others) x) s.pieces p
      (All-permutation (λ x. x.number ≢ piece.number → Contains (with_fate Faulted piece ∷ others) x) _ _ (IsPermutation-sym _ _ perm)
      (All-cons (λ x. x.number ≢ piece.number → Contains (with_fate Faulted piece ∷ others) x) piece others (λ not. absurd (not refl))
      (λ k d low not. further (with_fate Faulted piece) others (get_or others k d) (All-contains_itself others k d low)))) out other

  module _ (i : ℕ) (p : Piece) (o : OpenRequest) (work : IsAtWork s p o) where
    -- the one that failed
    as_failed : p.number ≡ piece.number → worked_on rules s t p o i ≡ next_table i
    as_failed e =
        let is : piece ≡ p = same_piece s piece p others sound.0 perm work.out.is_out e in
        let own : owner ≡ o = same_open s owner o sound.0 there work.out.is_open (work.out.is_owner ∙ sym (ap (λ (x : Piece). x.owner) is) ∙ sym owns) in
        sym (ap (λ (x : Piece). changed_by s.next_piece (fault_changes rules.sector_size (work_of rules owner.request x.places) i) (t i)) is
        ∙ ap (λ (x : OpenRequest). changed_by s.next_piece (fault_changes rules.sector_size (work_of rules x.request p.places) i) (t i)) own)

    at_work : p.number ≢ piece.number → IsAtWork next_state p o
    at_work other = record {
      out = record { is_number = refl; is_out = still_out p work.out.is_out other; is_open = work.out.is_open; is_owner = work.out.is_owner };
      fresh = work.fresh;
    }

    worked_wider : Wider (worked_on rules s t p o i) (worked_on rules next_state next_table p o i)
    worked_wider =
        wider_failing s.next_piece s.next_piece (fault_changes rules.sector_size (work_of rules o.request p.places) i) (t i) (next_table i) (fault_fails rules i o.request p.places) (wider i)

  keeps_left : (i : ℕ) (v : List ℕ) → MayBeLeft rules s t i v → MayBeLeft rules next_state next_table i v
  keeps_left i v (inl p) = inl ((wider i).left v p)
  keeps_left i v (inr (p, o, work, q)) = elim (cases_eq p.number piece.number) [
    | inl same ↦ inl (subst (λ x. IsOneOf v (left x)) (as_failed i p o work same) q)
    | inr other ↦ inr (p, o, at_work i p o work other, (worked_wider i p o work).left v q)
  ]

  keeps_now : (i : ℕ) (v : List ℕ) → MayRemain rules s t i v → MayRemain rules next_state next_table i v
  keeps_now i v (inl p) = inl ((wider i).now v p)
  keeps_now i v (inr (p, o, work, q)) = elim (cases_eq p.number piece.number) [
    | inl same ↦ inl (subst (λ x. IsOneOf v x.now) (as_failed i p o work same) q)
    | inr other ↦ inr (p, o, at_work i p o work other, (worked_wider i p o work).now v q)
  ]

  one_more : ArePlaced s → IsWorkedOff rules next_state next_table → IsWorkedOff rules s t
  one_more placed rest = record {
    machine = rest.machine;
    table = rest.table;
    shared = fails owner.number piece.places.first piece.places.count ++ rest.shared;
    quiet = lines_join (fails owner.number piece.places.first piece.places.count) rest.shared ∙ ap (λ xs. xs ++ lines_of rest.shared) (no_lines owner.number piece.places.first piece.places.count) ∙ rest.quiet;
    next = λ i past g stage.
        let n : Next rules i past g (fails owner.number piece.places.first piece.places.count) next_state (next_table i) =
        faults_next rules s piece.number next_state sound placed free faulted t next_table moved i past g (IsSound-Step rules s (Device (Fault piece.number)) next_state sound step) free stage in
        next_then rules i past g (fails owner.number piece.places.first piece.places.count) rest.shared next_state rest.machine (next_table i) (rest.table i) n (rest.next i n.past' n.h' n.stage);
    left = λ i v p. rest.left i v (keeps_left i v p);
    now = λ i v p. rest.now i v (keeps_now i v p);
  }

-- one after the other
pub work_off : (rules : Rules) (todo done : List Piece) (s : State) (t : Table) → IsSound rules s → ArePlaced s → IsNone s.owed → IsPermutation s.pieces (todo ++ done) → All IsStale done → IsWorkedOff rules s t
work_off rules [] done s t sound placed free perm stale = none_left rules s t (All-permutation IsStale _ _ (IsPermutation-sym _ _ perm) stale)
work_off rules (piece ∷ todo) done s t sound placed free perm stale =
    by_fate piece.fate refl
    (λ is. work_off rules todo (piece ∷ done) s t sound placed free (IsPermutation-trans _ _ _ perm (IsPermutation-sym _ _ (IsPermutation-middle todo piece done))) (All-cons IsStale piece done is stale))
    (λ fresh. let owned : Any (IsOwner piece) s.requests =
    (All-head (IsPlaced s.requests) piece (todo ++ done) (All-permutation (IsPlaced s.requests) _ _ perm placed.pieces)).owned in
    let there : Contains s.requests owned.1 = (owned.0, owned.2, owned.3) in
    let owns : owned.1.number ≡ piece.owner = owned.4 in
    one_more rules s t sound free piece (todo ++ done) perm fresh owned.1 there owns placed
    (work_off rules todo (with_fate Faulted piece ∷ done) (next_state rules s t sound free piece (todo ++ done) perm fresh owned.1 there owns) (next_table rules s t sound free piece (todo ++ done) perm fresh owned.1 there owns)
    (IsSound-Step rules s (Device (Fault piece.number)) _ sound (step rules s t sound free piece (todo ++ done) perm fresh owned.1 there owns))
    (ArePlaced-Step rules s (Device (Fault piece.number)) _ sound.0 placed (step rules s t sound free piece (todo ++ done) perm fresh owned.1 there owns))
    free (IsPermutation-sym _ _ (IsPermutation-middle todo (with_fate Faulted piece) done)) (All-cons IsStale (with_fate Faulted piece) done faulted_stale stale)))
  where
    faulted_stale : Faulted ≡ Fresh → ⊥
    faulted_stale e = absurd (cc (e))

    by_fate : {P : Type 0} (fate : Fate) → piece.fate ≡ fate → (IsStale piece → P) → (piece.fate ≡ Fresh → P) → P
    by_fate Fresh e old new = new e
    by_fate (Acted sectors) e old new = old (λ f. absurd (cc (e, f)))
    by_fate Faulted e old new = old (λ f. absurd (cc (e, f)))

-- THE NEXT SESSION

pub opening_mirrors : (rules : Rules) (i : ℕ) (arrays : List (List (List ℕ))) (v : List ℕ) → Stage rules i [] (surely v) (opening arrays) (surely v)
opening_mirrors rules i arrays v = record {
  mirrors = record {
    given = All-nil (IsBelow 1);
    next = refl;
    requests = All-nil (IsMirrored rules i [] (Ends (surely v) (surely v)));
    pieces = All-nil (IsFollowed rules i [] (Ends (surely v) (surely v)) []);
    owed = tt;
  };
  holds = both_surely 1 v;
}
