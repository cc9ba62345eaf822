-- Sessions one behind the other.
use Rattle.std.proofs.Common.{◌≡◌, inl, inr, ℕ, Bool, true, false, List, [], ◌∷◌, ◌++◌, length, map, sym, ap, subst, ◌∙◌, arith}
use Rattle.std.specs.Prelude.{if◌then◌else◌, ◌-◌, ◌/◌}
use Rattle.std.proofs.lemmas.List.Sorted.{Contains-permutation, IsPermutation-sym}
use Rattle.machine.specs.declared.Label.{Label}
use Rattle.machine.specs.Rules.{Rules}
use Rattle.machine.specs.State.{IsSame, OpenRequest, Piece, State, opening}
use Rattle.machine.proofs.Same.{IsSame-refl}
use Rattle.file_disk.specs.Calls.{Call, ReadAt, WriteAt, Sync}
use Rattle.loss.specs.Held.{Held, IsOneOf, Puts, Tries, changed, changed_by, fault_changes, has, left, sector_in}
use Rattle.loss.specs.Moved.{IsSameTable, Table, TableRun, held_on, work_of}
use Rattle.loss.specs.Sessions.{IsAtWork, Line, LineStep, MayBeLeft, MayRemain, Moment, Sessions, Told, worked_on}
use Rattle.file_sessions.specs.Stored.{Content, after_call, held, sectors_from, under_way}
use Rattle.file_sessions.specs.Sessions.{IsSession, Outlives, beginning, line_of, lines_of}
use Rattle.file_sessions.specs.Laws.{NoneUnderWay, SeriesAreSessions}
use Rattle.std.proofs.Math.Nat.{zero-div}
use Rattle.file_sessions.specs.Within.{IsWithin}
use Rattle.file_sessions.proofs.Within.{there_or_away, undoubted, untried, within_refl}

-- THE LINE AT AN END

line_at_end : (rules : Rules) (arrays : List (List (List ℕ))) (before after : Content) (labels : List Label) (calls : List Call) (lost : Bool) (end : Moment) → IsSession rules arrays before calls labels end
    → Outlives rules before (record { labels = labels; calls = calls; lost = lost }) after → LineStep rules end (line_of lost) (beginning arrays after)
line_at_end rules arrays before after labels calls true end session outlives = session.lost after outlives
line_at_end rules arrays before after labels calls false end session outlives = session.ended after outlives

-- states that say the same end alike
module _ (rules : Rules) (s t : State) (a b : Table) (same : IsSame s t) (alike : IsSameTable a b) where
  at_work_same : (piece : Piece) (owner : OpenRequest) → IsAtWork t piece owner → IsAtWork s piece owner
  at_work_same piece owner h = record {
    out = record {
      is_number = h.out.is_number;
      is_out = Contains-permutation t.pieces s.pieces piece (IsPermutation-sym s.pieces t.pieces same.pieces) h.out.is_out;
      is_open = Contains-permutation t.requests s.requests owner (IsPermutation-sym s.requests t.requests same.requests) h.out.is_open;
      is_owner = h.out.is_owner;
    };
    fresh = h.fresh;
  }

  worked_same : (piece : Piece) (owner : OpenRequest) (i : ℕ) → worked_on rules t b piece owner i ≡ worked_on rules s a piece owner i
  worked_same piece owner i =
      ap (λ (n : ℕ). changed_by n (fault_changes rules.sector_size (work_of rules owner.request piece.places) i) (b i)) (sym same.next_piece)
      ∙ ap (λ (x : Held). changed_by s.next_piece (fault_changes rules.sector_size (work_of rules owner.request piece.places) i) x) (alike i)

  left_same : (i : ℕ) (value : List ℕ) → MayBeLeft rules t b i value → MayBeLeft rules s a i value
  left_same i value (inl h) = inl (subst (λ (x : Held). IsOneOf value (left x)) (alike i) h)
  left_same i value (inr h) = inr (h.0, h.1, at_work_same h.0 h.1 h.2, subst (λ (x : Held). IsOneOf value (left x)) (worked_same h.0 h.1 i) h.3)

  remain_same : (i : ℕ) (value : List ℕ) → MayRemain rules t b i value → MayRemain rules s a i value
  remain_same i value (inl h) = inl (subst (λ (x : Held). IsOneOf value x.now) (alike i) h)
  remain_same i value (inr h) = inr (h.0, h.1, at_work_same h.0 h.1 h.2, subst (λ (x : Held). IsOneOf value x.now) (worked_same h.0 h.1 i) h.3)

  line_same : (lost : Bool) (new : Moment) → LineStep rules (record { machine = t; table = b }) (line_of lost) new → LineStep rules (record { machine = s; table = a }) (line_of lost) new
  line_same true new h = record { disk = h.disk; chosen = λ i low. left_same i (h.disk i) (h.chosen i low); machine = h.machine ∙ ap (λ (x : List (List (List ℕ))). opening x) (sym same.arrays); table = h.table }
  line_same false new h = record { disk = h.disk; chosen = λ i low. remain_same i (h.disk i) (h.chosen i low); machine = h.machine ∙ ap (λ (x : List (List (List ℕ))). opening x) (sym same.arrays); table = h.table }

-- a run, and then the line that ends it
then_line : (rules : Rules) (lost : Bool) (lines : List Line) (new after : Moment) (s : State) (t : Table) (labels : List Label) (s' : State) (t' : Table) → TableRun rules s t labels s' t'
    → LineStep rules (record { machine = s'; table = t' }) (line_of lost) new → Sessions rules new lines after
    → Sessions rules (record { machine = s; table = t }) (map Told labels ++ line_of lost ∷ lines) after
then_line rules lost lines new after s t [] s' t' run line more = (new, line_same rules s s' t t' run.0 (λ i. run.1 i) lost new line, more)
then_line rules lost lines new after s t (label ∷ labels) s' t' run line more =
    (record { machine = run.0; table = run.1 }, (run.2, run.3), then_line rules lost lines new after run.0 run.1 labels s' t' run.4 line more)

pub series_are_sessions : SeriesAreSessions
series_are_sessions rules arrays before [] after h = (IsSame-refl (opening arrays), λ i. ap (λ (c : Content). held_on c i) h)
series_are_sessions rules arrays before (part ∷ parts) after h =
    then_line rules part.lost (lines_of parts) (beginning arrays h.1) (beginning arrays after) (opening arrays) (held_on before) part.labels h.0.machine h.0.table h.2.run
    (line_at_end rules arrays before h.1 part.labels part.calls part.lost h.0 h.2 h.3) (series_are_sessions rules arrays h.1 parts after h.4)

-- A CALL UNDER WAY

module _ (size i : ℕ) (h : Held) where
  -- a write that took nothing has put nothing there
  none_taken : (first : ℕ) → has (record { first = first; count = 0 / size }) i ≡ false
  none_taken first = elim (there_or_away first (0 / size) i) [
    | inl there ↦ absurd (omega (arith, zero-div size, there.1, there.2))
    | inr away ↦ away.0
  ]

  told_more : (b c : Bool) (v : List ℕ) → c ≡ false → IsWithin h (if b then (if c then changed 0 (Puts v) h else changed 0 (Tries v) h) else h)
  told_more true true v e = absurd (cc (e))
  told_more true false v e = untried v 0 h
  told_more false c v e = within_refl h

  call_more : (call : Call) → IsWithin h (after_call size i (under_way call) h)
  call_more (ReadAt at count gave) = within_refl h
  call_more (WriteAt at bytes took) = told_more (has (sectors_from size at (length bytes)) i) (has (sectors_from size at 0) i) (sector_in size (i - at / size) bytes) (none_taken (at / size))
  call_more (Sync fault) = undoubted 0 h

pub none_under_way : NoneUnderWay
none_under_way size i first calls call = call_more size i (held size i first calls) call
