-- Sessions lead each sector along a schedule, and all sectors by the same failures.
use Rattle.std.proofs.Common.{◌≡◌, inl, inr, ℕ, List, [], ◌∷◌, ◌++◌, Option, None, refl, sym, ◌∙◌, ap, subst, append-nil}
use Rattle.std.specs.Prelude.{IsNone, IsPermutation, All}
use Rattle.std.proofs.lemmas.List.Sorted.{IsPermutation-refl}
use Rattle.std.proofs.lemmas.List.Elements.{All-nil, All-head, All-tail}
use Rattle.srb.specs.declared.Completion.{Completion}
use Rattle.srb.specs.declared.Class.TheVariants.{Good, Busy, Bad}
use Rattle.srb.specs.declared.DeviceLabel.TheVariants.{Start, Act, Fault, Return}
use Rattle.srb.specs.Fate.{Fate, Fresh, Acted, Faulted}
use Rattle.machine.specs.declared.ClientRequest.{ClientRequest}
use Rattle.machine.specs.declared.Label.{Label}
use Rattle.machine.specs.declared.Label.TheVariants.{Call, Device, Answer, Cancel, Pause, Resume, Remove, Surprise, Removed}
use Rattle.machine.specs.Rules.{Rules}
use Rattle.machine.specs.State.{Piece, State, opening}
use Rattle.machine.specs.Sending.{Returns, with_fate}
use Rattle.machine.specs.Pieces.{ArePlaced}
use Rattle.machine.specs.Step.{Step}
use Rattle.machine.proofs.Placed.{ArePlaced-opening, ArePlaced-Step}
use Rattle.machine_laws.proofs.Sound.{IsSound, IsSound-Step, IsSound-opening}
use Rattle.loss.specs.Held.{Held, changed_by, return_changes, surely}
use Rattle.loss.specs.Moved.{ComesBackBad, IsSameTable, Table, held_on, work_of}
use Rattle.loss.specs.Sessions.{Line, Told, Lost, Ended, LineStep, MayBeLeft, MayRemain, Moment, BeginsOver, Sessions}
use Rattle.history_loss.specs.Histories.{IsLineOfService, of_storage, seen_of}
use Rattle.history_loss.specs.Schedules.{Event, Seen, Effect, Fails, IsAdmitted, IsAt, IsIdle, MayFollow, Takes, TookEffect, lines_of, shared_of, so_far}
use Rattle.history_loss.specs.Laws.{ExplainedAreScheduled}
use Rattle.history_loss.proofs.Holding.{holds_left}
use Rattle.history_loss.proofs.Leading.{Next, Stage, answers_next, calls_next, cancels_next, leads_follow, lines_join, next_then, one_event, refused_next, returns_next, shared_join, starts_next}
use Rattle.history_loss.proofs.Failing.{are_filled, fails, faults_next, same_piece}
use Rattle.history_loss.proofs.Acting.{acts_next}
use Rattle.history_loss.proofs.Losing.{IsWorkedOff, faulted, moved, next_state, next_table, no_lines, opening_mirrors, step, work_off}

-- WHERE A LINE LEADS

abbrev Pasts : Type 0
Pasts = ℕ → List Event

abbrev Helds : Type 0
Helds = ℕ → Held

-- all sectors go on by events that share these, which have the line, if clients see it
record Gone (rules : Rules) (pasts : Pasts) (helds : Helds) (line : Line) (m : Moment) : Type 0 where
  shared : List Event
  seen : lines_of shared ≡ seen_of (line ∷ [])
  each : (i : ℕ) → Next rules i (pasts i) (helds i) shared m.machine (m.table i)
  sound : IsSound rules m.machine
  placed : ArePlaced m.machine

module _ (rules : Rules) (pasts : Pasts) (helds : Helds) (s : State) (t : Table) (sound : IsSound rules s) (placed : ArePlaced s) (stages : (i : ℕ) → Stage rules i (pasts i) (helds i) s (t i)) where
  abbrev To : Line → State → Table → Type 0
  To line s' t' = Gone rules pasts helds line (record { machine = s'; table = t' })

  by_step : (label : Label) (s' : State) (t' : Table) (shared : List Event) → Step rules s label s' → lines_of shared ≡ seen_of (Told label ∷ []) → ((i : ℕ) → Next rules i (pasts i) (helds i) shared s' (t' i)) → To (Told label) s' t'
  by_step label s' t' shared step seen each =
      record { shared = shared; seen = seen; each = each; sound = IsSound-Step rules s label s' sound step; placed = ArePlaced-Step rules s label s' sound.0 placed step }

  -- the table stays
  same : (i : ℕ) (shared : List Event) (s' : State) (t' : Table) → IsSameTable t t' → Next rules i (pasts i) (helds i) shared s' (t i) → Next rules i (pasts i) (helds i) shared s' (t' i)
  same i shared s' t' e n = subst (λ x. Next rules i (pasts i) (helds i) shared s' x) (sym (e i)) n

  -- A PIECE COMES BACK BAD

  module _ (n : ℕ) (c : Completion) (s' : State) (t' : Table) (free : IsNone s.owed) (h : Returns s n (Bad c) s') (move : ComesBackBad rules s n t t') where
    is_piece : h.piece ≡ move.piece
    is_piece = same_piece s h.piece move.piece h.other_pieces sound.0 h.is_out move.out.is_out (move.out.is_number ∙ sym h.is_number)

    back : (i : ℕ) → t' i ≡ changed_by s.next_piece (return_changes rules.sector_size h.piece.fate (work_of rules move.owner.request h.piece.places) i) (t i)
    back i = move.after i ∙ sym (ap (λ (p : Piece). changed_by s.next_piece (return_changes rules.sector_size p.fate (work_of rules move.owner.request p.places) i) (t i)) is_piece)

    by_fate : (i : ℕ) (fate : Fate) → h.piece.fate ≡ fate → t' i ≡ changed_by s.next_piece (return_changes rules.sector_size fate (work_of rules move.owner.request h.piece.places) i) (t i)
    by_fate i fate e = back i ∙ ap (λ f. changed_by s.next_piece (return_changes rules.sector_size f (work_of rules move.owner.request h.piece.places) i) (t i)) e

    step_back : Step rules s (Device (Return n (Bad c))) s'
    step_back = inl (free, h)

    stale_back : IsSameTable t t' → To (Told (Device (Return n (Bad c)))) s' t'
    stale_back e = by_step (Device (Return n (Bad c))) s' t' [] step_back refl (λ i. same i [] s' t' e (returns_next rules i (pasts i) (helds i) s (t i) sound (are_filled s placed) (stages i) n (Bad c) s' free h))

    module _ (fresh : h.piece.fate ≡ Fresh) where
      owns : move.owner.number ≡ h.piece.owner
      owns = move.out.is_owner ∙ sym (ap (λ (p : Piece). p.owner) is_piece)

      abbrev mid : State
      mid = next_state rules s t sound free h.piece h.other_pieces h.is_out fresh move.owner move.out.is_open owns

      abbrev between : Table
      between = next_table rules s t sound free h.piece h.other_pieces h.is_out fresh move.owner move.out.is_open owns

      mid_sound : IsSound rules mid
      mid_sound = IsSound-Step rules s (Device (Fault h.piece.number)) mid sound (step rules s t sound free h.piece h.other_pieces h.is_out fresh move.owner move.out.is_open owns)

      mid_placed : ArePlaced mid
      mid_placed = ArePlaced-Step rules s (Device (Fault h.piece.number)) mid sound.0 placed (step rules s t sound free h.piece h.other_pieces h.is_out fresh move.owner move.out.is_open owns)

      from_mid : Returns mid n (Bad c) s'
      from_mid = record {
        piece = with_fate Faulted h.piece;
        other_pieces = h.other_pieces;
        owner = h.owner;
        others = h.others;
        marks = h.marks;
        is_out = IsPermutation-refl (with_fate Faulted h.piece ∷ h.other_pieces);
        is_number = h.is_number;
        is_open = h.is_open;
        is_owner = h.is_owner;
        leaves = h.leaves;
        after = h.after;
      }

      fresh_back : To (Told (Device (Return n (Bad c)))) s' t'
      fresh_back =
          by_step (Device (Return n (Bad c))) s' t' (fails move.owner.number h.piece.places.first h.piece.places.count ++ []) step_back
          (lines_join (fails move.owner.number h.piece.places.first h.piece.places.count) [] ∙ append-nil _ ∙ no_lines move.owner.number h.piece.places.first h.piece.places.count)
          (λ i. subst (λ x. Next rules i (pasts i) (helds i) (fails move.owner.number h.piece.places.first h.piece.places.count ++ []) s' x) (sym (by_fate i Fresh fresh)) (joined i))
        where
          joined : (i : ℕ) → Next rules i (pasts i) (helds i) (fails move.owner.number h.piece.places.first h.piece.places.count ++ []) s' (between i)
          joined i =
              let one : Next rules i (pasts i) (helds i) (fails move.owner.number h.piece.places.first h.piece.places.count) mid (between i) =
              faults_next rules s h.piece.number mid sound placed free (faulted rules s t sound free h.piece h.other_pieces h.is_out fresh move.owner move.out.is_open owns) t between
              (moved rules s t sound free h.piece h.other_pieces h.is_out fresh move.owner move.out.is_open owns) i (pasts i) (helds i) mid_sound free (stages i) in
              next_then rules i (pasts i) (helds i) (fails move.owner.number h.piece.places.first h.piece.places.count) [] mid s' (between i) (between i) one
              (returns_next rules i one.past' one.h' mid (between i) mid_sound (are_filled mid mid_placed) one.stage n (Bad c) s' free from_mid)

    comes_back : To (Told (Device (Return n (Bad c)))) s' t'
    comes_back = cases h.piece.fate refl
      where
        cases : (fate : Fate) → h.piece.fate ≡ fate → To (Told (Device (Return n (Bad c)))) s' t'
        cases Fresh e = fresh_back e
        cases (Acted sectors) e = stale_back (λ i. by_fate i (Acted sectors) e)
        cases Faulted e = stale_back (λ i. by_fate i Faulted e)

  -- A SESSION ENDS

  abbrev quit : State
  quit = record s { owed = None }

  quit_sound : IsSound rules quit
  quit_sound = (
    record { requests = sound.0.requests; given = sound.0.given; pieces = sound.0.pieces; sent = sound.0.sent },
    record { given = sound.1.given; whole = sound.1.whole; sized = sound.1.sized; mine = sound.1.mine; pieces = sound.1.pieces },
  )

  quit_placed : ArePlaced quit
  quit_placed = record { pieces = placed.pieces; places = placed.places }

  quit_stage : (i : ℕ) → Stage rules i (pasts i) (helds i) quit (t i)
  quit_stage i =
      let m = (stages i).mirrors in
      record { mirrors = record { given = m.given; next = m.next; requests = m.requests; pieces = m.pieces; owed = tt }; holds = (stages i).holds }

  off : IsWorkedOff rules quit t
  off = work_off rules s.pieces [] quit t quit_sound quit_placed refl (subst (λ ps. IsPermutation s.pieces ps) (sym (append-nil s.pieces)) (IsPermutation-refl s.pieces)) (All-nil (λ (p : Piece). p.fate ≡ Fresh → ⊥))

  quit_left : (i : ℕ) (v : List ℕ) → MayBeLeft rules s t i v → MayBeLeft rules quit t i v
  quit_left i v (inl p) = inl p
  quit_left i v (inr (p, o, work, q)) =
      inr (p, o, record { out = record { is_number = work.out.is_number; is_out = work.out.is_out; is_open = work.out.is_open; is_owner = work.out.is_owner }; fresh = work.fresh }, q)

  quit_now : (i : ℕ) (v : List ℕ) → MayRemain rules s t i v → MayRemain rules quit t i v
  quit_now i v (inl p) = inl p
  quit_now i v (inr (p, o, work, q)) =
      inr (p, o, record { out = record { is_number = work.out.is_number; is_out = work.out.is_out; is_open = work.out.is_open; is_owner = work.out.is_owner }; fresh = work.fresh }, q)

  module _ (s' : State) (t' : Table) (disk : ℕ → List ℕ) (anew : s' ≡ opening s.arrays) (holds : IsSameTable (held_on disk) t') where
    begun : (i : ℕ) → Stage rules i [] (surely (disk i)) s' (t' i)
    begun i = subst (λ x. Stage rules i [] (surely (disk i)) s' x) (sym (holds i)) (subst (λ x. Stage rules i [] (surely (disk i)) x (surely (disk i))) (sym anew) (opening_mirrors rules i s.arrays (disk i)))

    anew_sound : IsSound rules s'
    anew_sound = subst (λ x. IsSound rules x) (sym anew) (IsSound-opening rules s.arrays sound.1.whole)

    anew_placed : ArePlaced s'
    anew_placed = subst (λ x. ArePlaced x) (sym anew) (ArePlaced-opening s.arrays)

  loses : (s' : State) (t' : Table) → BeginsOver rules (MayBeLeft rules s t) (record { machine = s; table = t }) (record { machine = s'; table = t' }) → To Lost s' t'
  loses s' t' b = record {
    shared = off.shared ++ Seen Lost ∷ [];
    seen = lines_join off.shared (Seen Lost ∷ []) ∙ ap (λ xs. xs ++ Lost ∷ []) off.quiet;
    each = λ i.
        let n : Next rules i (pasts i) (helds i) off.shared off.machine (off.table i) = off.next i (pasts i) (helds i) (quit_stage i) in
        next_then rules i (pasts i) (helds i) off.shared (Seen Lost ∷ []) off.machine s' (off.table i) (t' i) n
        (one_event rules i n.past' n.h' (Seen Lost) (surely (b.disk i)) s' (t' i)
        (record {
          value = b.disk i;
          among = λ low. holds_left off.machine.next_piece (off.table i) n.h' n.stage.holds (b.disk i) (off.left i (b.disk i) (quit_left i (b.disk i) (b.chosen i low)));
          after = refl;
        })
        (begun s' t' b.disk b.machine b.table i));
    sound = anew_sound s' t' b.disk b.machine b.table;
    placed = anew_placed s' t' b.disk b.machine b.table;
  }

  ends : (s' : State) (t' : Table) → BeginsOver rules (MayRemain rules s t) (record { machine = s; table = t }) (record { machine = s'; table = t' }) → To Ended s' t'
  ends s' t' b = record {
    shared = off.shared ++ Seen Ended ∷ [];
    seen = lines_join off.shared (Seen Ended ∷ []) ∙ ap (λ xs. xs ++ Ended ∷ []) off.quiet;
    each = λ i.
        let n : Next rules i (pasts i) (helds i) off.shared off.machine (off.table i) = off.next i (pasts i) (helds i) (quit_stage i) in
        next_then rules i (pasts i) (helds i) off.shared (Seen Ended ∷ []) off.machine s' (off.table i) (t' i) n
        (one_event rules i n.past' n.h' (Seen Ended) (surely (b.disk i)) s' (t' i)
        (record {
          value = b.disk i;
          among = λ low. n.stage.holds.now (b.disk i) (off.now i (b.disk i) (quit_now i (b.disk i) (b.chosen i low)));
          after = refl;
        })
        (begun s' t' b.disk b.machine b.table i));
    sound = anew_sound s' t' b.disk b.machine b.table;
    placed = anew_placed s' t' b.disk b.machine b.table;
  }

  -- EACH LINE

  goes : (line : Line) (s' : State) (t' : Table) → LineStep rules (record { machine = s; table = t }) line (record { machine = s'; table = t' }) → IsLineOfService line → To line s' t'
  goes Lost s' t' b serving = loses s' t' b
  goes Ended s' t' b serving = ends s' t' b
  goes (Told (Call n q)) s' t' (inl (free, h), e) serving =
      by_step (Call n q) s' t' (Seen (Told (Call n q)) ∷ []) (inl (free, h)) refl (λ i. same i (Seen (Told (Call n q)) ∷ []) s' t' e (calls_next rules i (pasts i) (helds i) s (t i) sound (are_filled s placed) (stages i) n q s' free h))
  goes (Told (Call n q)) s' t' (inr none, e) serving = absurd none
  goes (Told (Answer n status informed bytes)) s' t' (inl (free, h), e) serving =
      by_step (Answer n status informed bytes) s' t' (Seen (Told (Answer n status informed bytes)) ∷ []) (inl (free, h)) refl
      (λ i. same i (Seen (Told (Answer n status informed bytes)) ∷ []) s' t' e (answers_next rules i (pasts i) (helds i) s (t i) sound (are_filled s placed) (stages i) n status informed bytes s' free h.answers))
  goes (Told (Answer n status informed bytes)) s' t' (inr h, e) serving =
      by_step (Answer n status informed bytes) s' t' (Seen (Told (Answer n status informed bytes)) ∷ []) (inr h) refl
      (λ i. same i (Seen (Told (Answer n status informed bytes)) ∷ []) s' t' e (refused_next rules i (pasts i) (helds i) s (t i) sound (are_filled s placed) (stages i) n status informed bytes s' h))
  goes (Told (Cancel n)) s' t' (inl (free, h), e) serving =
      by_step (Cancel n) s' t' [] (inl (free, h)) refl (λ i. same i [] s' t' e (cancels_next rules i (pasts i) (helds i) s (t i) sound (are_filled s placed) (stages i) n s' free h))
  goes (Told (Cancel n)) s' t' (inr none, e) serving = absurd none
  goes (Told (Device (Start n tag block))) s' t' (inl (free, h), e) serving =
      by_step (Device (Start n tag block)) s' t' [] (inl (free, h)) refl (λ i. same i [] s' t' e (starts_next rules i (pasts i) (helds i) s (t i) sound (are_filled s placed) (stages i) n tag block s' free h))
  goes (Told (Device (Act n bytes))) s' t' (inl (free, h), move) serving =
      by_step (Device (Act n bytes)) s' t' [] (inl (free, h)) refl (λ i. acts_next rules s n bytes s' sound placed free h t t' move i (pasts i) (helds i) (stages i))
  goes (Told (Device (Fault n))) s' t' (inl (free, h), move) serving =
      by_step (Device (Fault n)) s' t' (fails move.owner.number h.piece.places.first h.piece.places.count) (inl (free, h)) (no_lines move.owner.number h.piece.places.first h.piece.places.count)
      (λ i. faults_next rules s n s' sound placed free h t t' move i (pasts i) (helds i) (IsSound-Step rules s (Device (Fault n)) s' sound (inl (free, h))) (still_free h.after.owed free) (stages i))
    where
      still_free : s'.owed ≡ s.owed → IsNone s.owed → IsNone s'.owed
      still_free e f = subst (λ o. IsNone o) (sym e) f
  goes (Told (Device (Return n Good))) s' t' (inl (free, h), e) serving =
      by_step (Device (Return n Good)) s' t' [] (inl (free, h)) refl (λ i. same i [] s' t' e (returns_next rules i (pasts i) (helds i) s (t i) sound (are_filled s placed) (stages i) n Good s' free h))
  goes (Told (Device (Return n Busy))) s' t' (inl (free, h), e) serving =
      by_step (Device (Return n Busy)) s' t' [] (inl (free, h)) refl (λ i. same i [] s' t' e (returns_next rules i (pasts i) (helds i) s (t i) sound (are_filled s placed) (stages i) n Busy s' free h))
  goes (Told (Device (Return n (Bad c)))) s' t' (inl (free, h), move) serving = comes_back n c s' t' free h move
  goes (Told (Device label)) s' t' (inr none, e) serving = absurd none
  goes (Told Pause) s' t' h serving = absurd serving
  goes (Told Resume) s' t' h serving = absurd serving
  goes (Told Remove) s' t' h serving = absurd serving
  goes (Told Surprise) s' t' h serving = absurd serving
  goes (Told Removed) s' t' h serving = absurd serving

-- ALL LINES

seen_one : (line : Line) (lines : List Line) → seen_of (line ∷ lines) ≡ seen_of (line ∷ []) ++ seen_of lines
seen_one Lost lines = refl
seen_one Ended lines = refl
seen_one (Told (Call number q)) lines = refl
seen_one (Told (Answer number status informed bytes)) lines = refl
seen_one (Told (Cancel number)) lines = refl
seen_one (Told (Device label)) lines = refl
seen_one (Told Pause) lines = refl
seen_one (Told Resume) lines = refl
seen_one (Told Remove) lines = refl
seen_one (Told Surprise) lines = refl
seen_one (Told Removed) lines = refl

record Follows (rules : Rules) (i : ℕ) (past : List Event) (h : Held) (shared : List Event) : Type 0 where
  events : List Event
  follow : MayFollow rules i past h events
  shares : shared_of events ≡ shared

record Going (rules : Rules) (pasts : Pasts) (helds : Helds) (lines : List Line) : Type 0 where
  shared : List Event
  seen : lines_of shared ≡ seen_of lines
  each : (i : ℕ) → Follows rules i (pasts i) (helds i) shared

goes_on : (rules : Rules) (lines : List Line) (pasts : Pasts) (helds : Helds) (s : State) (t : Table) (m : Moment) → IsSound rules s → ArePlaced s → ((i : ℕ) → Stage rules i (pasts i) (helds i) s (t i))
    → Sessions rules (record { machine = s; table = t }) lines m → All IsLineOfService lines → Going rules pasts helds lines
goes_on rules [] pasts helds s t m sound placed stages run serving = record { shared = []; seen = refl; each = λ i. record { events = []; follow = tt; shares = refl } }
goes_on rules (line ∷ lines) pasts helds s t m sound placed stages (mid, step, rest) serving =
    let g : Gone rules pasts helds line (record { machine = mid.machine; table = mid.table }) = goes rules pasts helds s t sound placed stages line mid.machine mid.table step (All-head IsLineOfService line lines serving) in
    let more : Going rules (λ i. (g.each i).past') (λ i. (g.each i).h') lines =
    goes_on rules lines (λ i. (g.each i).past') (λ i. (g.each i).h') mid.machine mid.table m g.sound g.placed (λ i. (g.each i).stage) rest (All-tail IsLineOfService line lines serving) in
    record {
      shared = g.shared ++ more.shared;
      seen = lines_join g.shared more.shared ∙ ap (λ xs. xs ++ lines_of more.shared) g.seen ∙ ap (λ xs. seen_of (line ∷ []) ++ xs) more.seen ∙ sym (seen_one line lines);
      each = λ i. record {
        events = (g.each i).events ++ (more.each i).events;
        follow = leads_follow rules i (pasts i) (helds i) (g.each i).events (g.each i).past' (g.each i).h' (more.each i).events (g.each i).leads (more.each i).follow;
        shares = shared_join (g.each i).events (more.each i).events ∙ ap (λ xs. xs ++ shared_of (more.each i).events) (g.each i).shares ∙ ap (λ xs. g.shared ++ xs) (more.each i).shares;
      };
    }

-- A SCHEDULE KNOWS SIZES AND PARTITIONS ALONE

module _ (rules : Rules) (depth max_transfer : ℕ) (window : Option ℕ) (i : ℕ) where
  abbrev served : Rules
  served = of_storage rules depth max_transfer window

  admitted_alone : (q : ClientRequest) → IsAdmitted served q → IsAdmitted rules q
  admitted_alone q a = record { known = a.known; in_bounds = a.in_bounds }

  at_alone : (q : ClientRequest) (place : ℕ) → IsAt served i q place → IsAt rules i q place
  at_alone q place at = record { admitted = admitted_alone q at.admitted; transfer = at.transfer; sector = at.sector; inside = at.inside }

  at_served : (q : ClientRequest) (place : ℕ) → IsAt rules i q place → IsAt served i q place
  at_served q place at = record { admitted = record { known = at.admitted.known; in_bounds = at.admitted.in_bounds }; transfer = at.transfer; sector = at.sector; inside = at.inside }

  idle_alone : (past : List Event) (number : ℕ) (q : ClientRequest) (place : ℕ) → IsIdle served i past number q place → IsIdle rules i past number q place
  idle_alone past number q place h = record { effect = λ at. h.effect (at_served q place at); failure = h.failure }

  takes_alone : (past : List Event) (h : Held) (e : Event) (h' : Held) → Takes served i past h e h' → Takes rules i past h e h'
  takes_alone past h (Effect number sector) h' t = record {
    request = t.request;
    place = t.place;
    is_open = t.is_open;
    there = at_alone t.request t.place t.there;
    idle = idle_alone past number t.request t.place t.idle;
    carries = t.carries;
    after = t.after;
  }
  takes_alone past h (Fails number place) h' t = record {
    request = t.request;
    is_open = t.is_open;
    admitted = admitted_alone t.request t.admitted;
    inside = t.inside;
    idle = idle_alone past number t.request place t.idle;
    after = t.after;
  }
  takes_alone past h (Seen (Told (Answer number status informed bytes))) h' t = record {
    request = t.request;
    is_open = t.is_open;
    effect = λ e place at. let took : TookEffect served past number t.request place bytes = t.effect e place (at_served t.request place at) in
        record { sector = took.sector; before = took.before; hands_over = took.hands_over };
    sound = t.sound;
    after = t.after;
  }
  takes_alone past h (Seen Lost) h' t = record { value = t.value; among = t.among; after = t.after }
  takes_alone past h (Seen Ended) h' t = record { value = t.value; among = t.among; after = t.after }
  takes_alone past h (Seen (Told (Call number q))) h' t = t
  takes_alone past h (Seen (Told (Device label))) h' t = t
  takes_alone past h (Seen (Told (Cancel number))) h' t = t
  takes_alone past h (Seen (Told Pause)) h' t = t
  takes_alone past h (Seen (Told Resume)) h' t = t
  takes_alone past h (Seen (Told Remove)) h' t = t
  takes_alone past h (Seen (Told Surprise)) h' t = t
  takes_alone past h (Seen (Told Removed)) h' t = t

  follow_alone : (past : List Event) (h : Held) (events : List Event) → MayFollow served i past h events → MayFollow rules i past h events
  follow_alone past h [] m = tt
  follow_alone past h (e ∷ events) m = (m.0, takes_alone past h e m.0 m.1, follow_alone (so_far e past) m.0 events m.2)

pub explained_scheduled : ExplainedAreScheduled
explained_scheduled rules disk history h =
    let g : Going (of_storage rules h.depth h.max_transfer h.window) (λ i. []) (λ i. surely (disk i)) h.lines =
    goes_on (of_storage rules h.depth h.max_transfer h.window) h.lines (λ i. []) (λ i. surely (disk i)) (opening h.arrays) (held_on disk) h.last
    (IsSound-opening (of_storage rules h.depth h.max_transfer h.window) h.arrays h.whole) (ArePlaced-opening h.arrays)
    (λ i. opening_mirrors (of_storage rules h.depth h.max_transfer h.window) i h.arrays (disk i)) h.sessions h.of_service in
    record {
      shared = g.shared;
      seen = g.seen ∙ h.seen;
      each = λ i. record { events = (g.each i).events; in_turn = follow_alone rules h.depth h.max_transfer h.window i [] (surely (disk i)) (g.each i).events (g.each i).follow; shares = (g.each i).shares };
    }
