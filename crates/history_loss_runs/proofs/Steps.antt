-- Sessions of one piece of one place, beside flushes that stay out.
use Rattle.std.proofs.Common.{◌≡◌, ◌<◌, inl, ℕ, ◌+◌, ◌-◌, false, List, [], ◌∷◌, ◌++◌, None, refl, sym, ◌∙◌, ap, subst, arith, length, drop, get_or, length-take, length-drop, lit<, lit≤}
use Rattle.std.specs.Prelude.{IsFalse, IsPermutation, All, Contains, slice_range}
use Rattle.std.specs.List.{concat}
use Rattle.std.proofs.lemmas.List.{get_or_default, get_or-take, get_or-drop}
use Rattle.std.proofs.lemmas.List.Sorted.{IsPermutation-refl, IsPermutation-sym, Contains-permutation}
use Rattle.std.proofs.lemmas.List.Elements.{All-nil, All-cons, All-append}
use Rattle.srb.specs.declared.Completion.{Completion}
use Rattle.srb.specs.declared.Class.{Class}
use Rattle.srb.specs.declared.Class.TheVariants.{Good, Busy, Bad}
use Rattle.srb.specs.declared.DeviceLabel.TheVariants.{Start, Act, Fault, Return}
use Rattle.srb.specs.Fate.{Fate, Fresh, Acted, Faulted, is_fresh}
use Rattle.machine.specs.declared.Label.TheVariants.{Call, Device, Answer, Cancel, Pause, Resume, Remove, Surprise, Removed}
use Rattle.machine.specs.Rules.{Rules}
use Rattle.machine.specs.State.{Mark, Untouched, Back, OpenRequest, Piece, State}
use Rattle.machine.specs.Cutting.{mark_at}
use Rattle.machine.specs.Sending.{IsUnsent, IsInTurn, IsLowestFreeTag, Transfers, LeavesMarks, command_for, sent, new_piece, with_fate, given_back}
use Rattle.machine.proofs.Same.{IsSame-refl}
use Rattle.loss.specs.Held.{Held, act_changes, changed_by, fault_changes, return_changes}
use Rattle.loss.specs.Moved.{HandsOver, IsOut, Moves, Table, work_of}
use Rattle.loss.specs.Sessions.{Line, Told, Lost, Ended, LineStep, Moment, Sessions}
use Rattle.history_runs.proofs.Blocks.{BlockOf, one_place}
use Rattle.history_runs.proofs.Steps.{remarked}
use Rattle.history_loss.specs.Histories.{IsLineOfService, of_storage, seen_of}
use Rattle.history_loss.proofs.Mirroring.{newest}

-- pieces of one sector, and no window
abbrev pub storing : Rules → ℕ → Rules
storing rules depth = of_storage rules depth 1 None

-- LINES WITH A HISTORY

abbrev pub moment : State → Table → Moment
moment s t = record { machine = s; table = t }

abbrev pub Path : Rules → Moment → List Line → Moment → Type 0
Path rules m [] m' = m ≡ m'
Path rules m (line ∷ lines) m' = (mid : Moment) × LineStep rules m line mid × Path rules mid lines m'

pub record Goes (rules : Rules) (m : Moment) (history : List Line) (m' : Moment) : Type 0 where
  pub lines : List Line
  pub path : Path rules m lines m'
  pub serving : All IsLineOfService lines
  pub seen : seen_of lines ≡ history

path_joined : (rules : Rules) (m : Moment) (xs : List Line) (mid : Moment) (ys : List Line) (m' : Moment) → Path rules m xs mid → Path rules mid ys m' → Path rules m (xs ++ ys) m'
path_joined rules m [] mid ys m' a b = subst (λ x. Path rules x ys m') (sym a) b
path_joined rules m (x ∷ xs) mid ys m' a b = (a.0, a.1, path_joined rules a.0 xs mid ys m' a.2 b)

seen_joined : (xs ys : List Line) → seen_of (xs ++ ys) ≡ seen_of xs ++ seen_of ys
seen_joined [] ys = refl
seen_joined (Lost ∷ xs) ys = ap (λ zs. Lost ∷ zs) (seen_joined xs ys)
seen_joined (Ended ∷ xs) ys = ap (λ zs. Ended ∷ zs) (seen_joined xs ys)
seen_joined (Told (Call number q) ∷ xs) ys = ap (λ zs. Told (Call number q) ∷ zs) (seen_joined xs ys)
seen_joined (Told (Answer number status informed bytes) ∷ xs) ys = ap (λ zs. Told (Answer number status informed bytes) ∷ zs) (seen_joined xs ys)
seen_joined (Told (Device label) ∷ xs) ys = seen_joined xs ys
seen_joined (Told (Cancel number) ∷ xs) ys = seen_joined xs ys
seen_joined (Told Pause ∷ xs) ys = seen_joined xs ys
seen_joined (Told Resume ∷ xs) ys = seen_joined xs ys
seen_joined (Told Remove ∷ xs) ys = seen_joined xs ys
seen_joined (Told Surprise ∷ xs) ys = seen_joined xs ys
seen_joined (Told Removed ∷ xs) ys = seen_joined xs ys

pub goes_nowhere : (rules : Rules) (m : Moment) → Goes rules m [] m
goes_nowhere rules m = record { lines = []; path = refl; serving = All-nil IsLineOfService; seen = refl }

pub goes_then : (rules : Rules) (m mid m' : Moment) (xs ys : List Line) → Goes rules m xs mid → Goes rules mid ys m' → Goes rules m (xs ++ ys) m'
goes_then rules m mid m' xs ys g h = record {
  lines = g.lines ++ h.lines;
  path = path_joined rules m g.lines mid h.lines m' g.path h.path;
  serving = All-append IsLineOfService g.lines h.lines g.serving h.serving;
  seen = seen_joined g.lines h.lines ∙ ap (λ zs. zs ++ seen_of h.lines) g.seen ∙ ap (λ zs. xs ++ zs) h.seen;
}

pub goes_line : (rules : Rules) (m m' : Moment) (line : Line) → IsLineOfService line → seen_of (line ∷ []) ≡ line ∷ [] → LineStep rules m line m' → Goes rules m (line ∷ []) m'
goes_line rules m m' line serving seen step =
    record { lines = line ∷ []; path = (m', step, refl); serving = All-cons IsLineOfService line [] serving (All-nil IsLineOfService); seen = seen }

-- a label of the adapter
goes_device : (rules : Rules) (m m' : Moment) (line : Line) → IsLineOfService line → seen_of (line ∷ []) ≡ [] → LineStep rules m line m' → Goes rules m [] m'
goes_device rules m m' line serving seen step =
    record { lines = line ∷ []; path = (m', step, refl); serving = All-cons IsLineOfService line [] serving (All-nil IsLineOfService); seen = seen }

pub path_sessions : (rules : Rules) (m : Moment) (lines : List Line) (m' : Moment) → Path rules m lines m' → Sessions rules m lines m'
path_sessions rules m [] m' p = subst (λ x. Sessions rules m [] x) p (IsSame-refl m.machine, λ i. refl)
path_sessions rules m (line ∷ lines) m' p = (p.0, p.1, path_sessions rules p.0 lines m' p.2)

-- ONE PIECE

-- nothing owed, no pause and no removal, and these pieces out
abbrev pub standing : List (List (List ℕ)) → ℕ → ℕ → List OpenRequest → List Piece → State
standing arrays next_request next_piece requests outs = record {
  arrays = arrays;
  next_request = next_request;
  next_piece = next_piece;
  requests = requests;
  pieces = outs;
  owed = None;
  paused = false;
  removing = false;
  removed = false;
}

-- what a return leaves of the table: a piece that acted or failed changes nothing more
stale_changes : (size next : ℕ) (fate : Fate) (rules : Rules) (o : OpenRequest) (p : Piece) (i : ℕ) (h : Held) → is_fresh fate ≡ false → h ≡ changed_by next (return_changes size fate (work_of rules o.request p.places) i) h
stale_changes size next Fresh rules o p i h stale = absurd (cc (stale))
stale_changes size next (Acted sectors) rules o p i h stale = refl
stale_changes size next Faulted rules o p i h stale = refl

returns_move : (rules : Rules) (s : State) (number : ℕ) (class : Class) (table : Table) (p : Piece) (o : OpenRequest) → IsOut s number p o → ((c : Completion) → class ≡ Bad c → is_fresh p.fate ≡ false) → Moves rules s (Device (Return number class)) table table
returns_move rules s number Good table p o out stale = λ i. refl
returns_move rules s number Busy table p o out stale = λ i. refl
returns_move rules s number (Bad c) table p o out stale = record { piece = p; owner = o; out = out; after = λ i. stale_changes rules.sector_size s.next_piece p.fate rules o p i (table i) (stale c refl) }

module _ (rules : Rules) (depth : ℕ) (arrays : List (List (List ℕ))) (next piece : ℕ) (requests others : List OpenRequest) (outs : List Piece) (table : Table) (o : OpenRequest) (place tag : ℕ)
    (is_open : IsPermutation requests (o ∷ others)) (turn : All (IsInTurn o) requests) (waits : IsFalse o.cancelled) (inside : place < length o.marks)
    (unsent : IsUnsent (mark_at o place)) (on_tag : IsLowestFreeTag depth outs tag) (b : BlockOf (command_for (storing rules depth) o.request (one_place place) o.request.kind)) where
  abbrev rest : State
  rest = standing arrays next piece requests outs

  abbrev p : Piece
  p = new_piece rest tag o (one_place place)

  abbrev pub out : State
  out = standing arrays next (piece + 1) (sent (one_place place) o ∷ others) (p ∷ outs)

  abbrev with_piece : Fate → State
  with_piece fate = standing arrays next (piece + 1) (sent (one_place place) o ∷ others) (with_fate fate p ∷ outs)

  abbrev pub acted_table : Table
  acted_table i = changed_by (piece + 1) (act_changes rules.sector_size piece (work_of (storing rules depth) o.request (one_place place)) i) (table i)

  abbrev pub failed_table : Table
  failed_table i = changed_by (piece + 1) (fault_changes rules.sector_size (work_of (storing rules depth) o.request (one_place place)) i) (table i)

  abbrev pub back : Class → Mark → State
  back class mark = standing arrays next (piece + 1) (remarked place class mark o ∷ others) outs

  unsent_there : All IsUnsent (slice_range o.marks place (place + 1))
  unsent_there k d low =
      let width : place + 1 - place ≡ 1 = omega arith in
      let short : k < 1 = let low' = simp (length-take, length-drop) at low in omega arith in
      let here : place + k ≡ place = omega arith in
      let e : get_or (slice_range o.marks place (place + 1)) k d ≡ mark_at o place =
      get_or-take (place + 1 - place) (drop place o.marks) k d (omega arith) ∙ get_or-drop place o.marks k d ∙ ap (λ m. get_or o.marks m d) here ∙ get_or_default o.marks place d Untouched inside in
      subst IsUnsent (sym e) unsent

  starts : LineStep (storing rules depth) (moment rest table) (Told (Device (Start piece tag b.block))) (moment out table)
  starts = (
    inl (
      refl,
      record {
        owner = o;
        others = others;
        places = one_place place;
        next_number = refl;
        on_tag = on_tag;
        is_open = is_open;
        may_start = record { not_cancelled = waits; not_removing = refl; not_held = λ paused. absurd (cc (paused)); in_turn = turn };
        sendable = record {
          some = lit< tt;
          short = lit≤ tt;
          inside = omega arith;
          unsent = unsent_there;
          begins = λ grid. absurd (cc (grid));
          spare = λ grid. absurd (cc (grid));
          whole = λ one. absurd (cc (one));
        };
        asks = b.asks;
        plain = b.plain;
        after = IsSame-refl out;
      },
    ),
    λ i. refl,
  )

  is_out : (fate : Fate) → IsOut (with_piece fate) piece (with_fate fate p) (sent (one_place place) o)
  is_out fate = record { is_number = refl; is_out = newest _ _; is_open = newest _ _; is_owner = refl }

  acts : (sector : List ℕ) → Transfers (storing rules depth) rest o.request (one_place place) o.request.kind (sector ∷ []) arrays
      → HandsOver rules.sector_size table (work_of (storing rules depth) o.request (one_place place)).extent o.request.kind (concat (sector ∷ []))
      → LineStep (storing rules depth) (moment out table) (Told (Device (Act piece (concat (sector ∷ []))))) (moment (with_piece (Acted (sector ∷ []))) acted_table)
  acts sector moves hands = (
    inl (
      refl,
      record {
        piece = p;
        other_pieces = outs;
        owner = sent (one_place place) o;
        sectors = sector ∷ [];
        arrays' = arrays;
        fresh = record { is_out = IsPermutation-refl _; is_number = refl; is_fresh = refl };
        is_open = newest _ _;
        is_owner = refl;
        covers = refl;
        moves = moves;
        hands_over = refl;
        after = IsSame-refl _;
      },
    ),
    record { piece = p; owner = sent (one_place place) o; out = record { is_number = refl; is_out = newest _ _; is_open = newest _ _; is_owner = refl }; hands_over = hands; after = λ i. refl },
  )

  faults : LineStep (storing rules depth) (moment out table) (Told (Device (Fault piece))) (moment (with_piece Faulted) failed_table)
  faults = (
    inl (refl, record { piece = p; other_pieces = outs; fresh = record { is_out = IsPermutation-refl _; is_number = refl; is_fresh = refl }; after = IsSame-refl _ }),
    record { piece = p; owner = sent (one_place place) o; out = record { is_number = refl; is_out = newest _ _; is_open = newest _ _; is_owner = refl }; after = λ i. refl },
  )

  returns : (fate : Fate) (class : Class) (mark : Mark) (table' : Table) → LeavesMarks (with_fate fate p) class (mark ∷ []) → ((c : Completion) → class ≡ Bad c → is_fresh fate ≡ false)
      → LineStep (storing rules depth) (moment (with_piece fate) table') (Told (Device (Return piece class))) (moment (back class mark) table')
  returns fate class mark table' leaves stale = (
    inl (
      refl,
      record {
        piece = with_fate fate p;
        other_pieces = outs;
        owner = sent (one_place place) o;
        others = others;
        marks = mark ∷ [];
        is_out = IsPermutation-refl _;
        is_number = refl;
        is_open = IsPermutation-refl _;
        is_owner = refl;
        leaves = leaves;
        after = IsSame-refl _;
      },
    ),
    returns_move (storing rules depth) (with_piece fate) piece class table' (with_fate fate p) (sent (one_place place) o) (is_out fate) stale,
  )

  device : (m m' : Moment) (line : Line) → IsLineOfService line → seen_of (line ∷ []) ≡ [] → LineStep (storing rules depth) m line m' → Goes (storing rules depth) m [] m'
  device m m' line serving seen step = goes_device (storing rules depth) m m' line serving seen step

  then : (m mid m' : Moment) → Goes (storing rules depth) m [] mid → Goes (storing rules depth) mid [] m' → Goes (storing rules depth) m [] m'
  then m mid m' g h = goes_then (storing rules depth) m mid m' [] [] g h

  -- it starts, and stays out
  pub stays_out : Goes (storing rules depth) (moment rest table) [] (moment out table)
  stays_out = device (moment rest table) (moment out table) (Told (Device (Start piece tag b.block))) tt refl starts

  pub carries_out : (sector : List ℕ) (class : Class) (mark : Mark) → Transfers (storing rules depth) rest o.request (one_place place) o.request.kind (sector ∷ []) arrays
      → HandsOver rules.sector_size table (work_of (storing rules depth) o.request (one_place place)).extent o.request.kind (concat (sector ∷ []))
      → LeavesMarks (with_fate (Acted (sector ∷ [])) p) class (mark ∷ []) → Goes (storing rules depth) (moment rest table) [] (moment (back class mark) acted_table)
  carries_out sector class mark moves hands leaves =
      then (moment rest table) (moment out table) (moment (back class mark) acted_table) stays_out
      (then (moment out table) (moment (with_piece (Acted (sector ∷ []))) acted_table) (moment (back class mark) acted_table)
      (device (moment out table) (moment (with_piece (Acted (sector ∷ []))) acted_table) (Told (Device (Act piece (concat (sector ∷ []))))) tt refl (acts sector moves hands))
      (device (moment (with_piece (Acted (sector ∷ []))) acted_table) (moment (back class mark) acted_table) (Told (Device (Return piece class))) tt refl
      (returns (Acted (sector ∷ [])) class mark acted_table leaves (λ c e. refl))))

  pub fails : (class : Class) (mark : Mark) → LeavesMarks (with_fate Faulted p) class (mark ∷ []) → Goes (storing rules depth) (moment rest table) [] (moment (back class mark) failed_table)
  fails class mark leaves =
      then (moment rest table) (moment out table) (moment (back class mark) failed_table) stays_out
      (then (moment out table) (moment (with_piece Faulted) failed_table) (moment (back class mark) failed_table)
      (device (moment out table) (moment (with_piece Faulted) failed_table) (Told (Device (Fault piece))) tt refl faults)
      (device (moment (with_piece Faulted) failed_table) (moment (back class mark) failed_table) (Told (Device (Return piece class))) tt refl
      (returns Faulted class mark failed_table leaves (λ c e. refl))))

  pub comes_back : Goes (storing rules depth) (moment rest table) [] (moment (back Busy Back) table)
  comes_back =
      then (moment rest table) (moment out table) (moment (back Busy Back) table) stays_out
      (device (moment out table) (moment (back Busy Back) table) (Told (Device (Return piece Busy))) tt refl (returns Fresh Busy Back table (refl, refl) (λ c e. absurd (cc (e)))))

-- A FLUSH THAT IS OUT

module _ (rules : Rules) (depth : ℕ) (arrays : List (List (List ℕ))) (next piece : ℕ) (requests others : List OpenRequest) (outs outs' : List Piece) (table : Table) (o : OpenRequest) (p : Piece)
    (is_open : IsPermutation requests (o ∷ others)) (is_out : IsPermutation outs (p ∷ outs')) (fresh : p.fate ≡ Fresh) (owns : o.number ≡ p.owner) where
  abbrev there : State
  there = standing arrays next piece requests outs

  abbrev fated : Fate → State
  fated fate = standing arrays next piece requests (with_fate fate p ∷ outs')

  abbrev pub ended : Class → List Mark → State
  ended class marks = standing arrays next piece (given_back p class marks o ∷ others) outs'

  abbrev pub synced_table : Table
  synced_table i = changed_by piece (act_changes rules.sector_size p.number (work_of (storing rules depth) o.request p.places) i) (table i)

  abbrev pub doubted_table : Table
  doubted_table i = changed_by piece (fault_changes rules.sector_size (work_of (storing rules depth) o.request p.places) i) (table i)

  open_there : Contains requests o
  open_there = Contains-permutation _ _ o (IsPermutation-sym _ _ is_open) (newest o others)

  out_there : Contains outs p
  out_there = Contains-permutation _ _ p (IsPermutation-sym _ _ is_out) (newest p outs')

  still_out : (fate : Fate) → IsOut (fated fate) p.number (with_fate fate p) o
  still_out fate = record { is_number = refl; is_out = newest _ _; is_open = open_there; is_owner = owns }

  ends : (fate : Fate) (class : Class) (marks : List Mark) (table' : Table) → LeavesMarks (with_fate fate p) class marks → is_fresh fate ≡ false
      → LineStep (storing rules depth) (moment (fated fate) table') (Told (Device (Return p.number class))) (moment (ended class marks) table')
  ends fate class marks table' leaves stale = (
    inl (
      refl,
      record {
        piece = with_fate fate p;
        other_pieces = outs';
        owner = o;
        others = others;
        marks = marks;
        is_out = IsPermutation-refl _;
        is_number = refl;
        is_open = is_open;
        is_owner = owns;
        leaves = leaves;
        after = IsSame-refl _;
      },
    ),
    returns_move (storing rules depth) (fated fate) p.number class table' (with_fate fate p) o (still_out fate) (λ c e. stale),
  )

  pub flush_acts : (class : Class) (marks : List Mark) → 1 ≡ p.places.count → Transfers (storing rules depth) there o.request p.places o.request.kind ([] ∷ []) arrays
      → HandsOver rules.sector_size table (work_of (storing rules depth) o.request p.places).extent o.request.kind (concat ([] ∷ []))
      → LeavesMarks (with_fate (Acted ([] ∷ [])) p) class marks → Goes (storing rules depth) (moment there table) [] (moment (ended class marks) synced_table)
  flush_acts class marks one moves hands leaves =
      goes_then (storing rules depth) (moment there table) (moment (fated (Acted ([] ∷ []))) synced_table) (moment (ended class marks) synced_table) [] []
      (goes_device (storing rules depth) (moment there table) (moment (fated (Acted ([] ∷ []))) synced_table) (Told (Device (Act p.number (concat ([] ∷ []))))) tt refl act)
      (goes_device (storing rules depth) (moment (fated (Acted ([] ∷ []))) synced_table) (moment (ended class marks) synced_table) (Told (Device (Return p.number class))) tt refl
      (ends (Acted ([] ∷ [])) class marks synced_table leaves refl))
    where
      act : LineStep (storing rules depth) (moment there table) (Told (Device (Act p.number (concat ([] ∷ []))))) (moment (fated (Acted ([] ∷ []))) synced_table)
      act = (
        inl (
          refl,
          record {
            piece = p;
            other_pieces = outs';
            owner = o;
            sectors = [] ∷ [];
            arrays' = arrays;
            fresh = record { is_out = is_out; is_number = refl; is_fresh = fresh };
            is_open = open_there;
            is_owner = owns;
            covers = one;
            moves = moves;
            hands_over = refl;
            after = IsSame-refl _;
          },
        ),
        record { piece = p; owner = o; out = record { is_number = refl; is_out = out_there; is_open = open_there; is_owner = owns }; hands_over = hands; after = λ i. refl },
      )

  pub flush_fails : (class : Class) (marks : List Mark) → LeavesMarks (with_fate Faulted p) class marks → Goes (storing rules depth) (moment there table) [] (moment (ended class marks) doubted_table)
  flush_fails class marks leaves =
      goes_then (storing rules depth) (moment there table) (moment (fated Faulted) doubted_table) (moment (ended class marks) doubted_table) [] []
      (goes_device (storing rules depth) (moment there table) (moment (fated Faulted) doubted_table) (Told (Device (Fault p.number))) tt refl fault)
      (goes_device (storing rules depth) (moment (fated Faulted) doubted_table) (moment (ended class marks) doubted_table) (Told (Device (Return p.number class))) tt refl
      (ends Faulted class marks doubted_table leaves refl))
    where
      fault : LineStep (storing rules depth) (moment there table) (Told (Device (Fault p.number))) (moment (fated Faulted) doubted_table)
      fault = (
        inl (refl, record { piece = p; other_pieces = outs'; fresh = record { is_out = is_out; is_number = refl; is_fresh = fresh }; after = IsSame-refl _ }),
        record { piece = p; owner = o; out = record { is_number = refl; is_out = out_there; is_open = open_there; is_owner = owns }; after = λ i. refl },
      )
