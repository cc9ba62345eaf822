-- Runs of one piece of one place: it starts, acts or faults, and comes back, with nothing else at the adapter.
use Rattle.std.proofs.Common.{◌≡◌, ◌<◌, inl, ℕ, ◌+◌, ◌-◌, false, List, [], ◌∷◌, ◌++◌, None, refl, sym, ◌∙◌, ap, subst, arith, length, drop, get_or, length-take, length-drop, lit<, lit≤}
use Rattle.std.specs.Prelude.{IsFalse, IsPermutation, All, slice_range}
use Rattle.std.specs.List.{concat, AllByRecursion}
use Rattle.std.proofs.lemmas.List.{get_or_default, get_or-take, get_or-drop}
use Rattle.std.proofs.lemmas.List.Sorted.{IsPermutation-refl}
use Rattle.std.proofs.lemmas.List.Elements.{All-nil, All-cons, All-append, All-from_recursion}
use Rattle.srb.specs.declared.Class.{Class}
use Rattle.srb.specs.declared.Class.TheVariants.{Busy}
use Rattle.srb.specs.declared.DeviceLabel.TheVariants.{Start, Act, Fault, Return}
use Rattle.srb.specs.Fate.{Fate, Fresh, Acted, Faulted}
use Rattle.machine.specs.declared.Label.{Label}
use Rattle.machine.specs.declared.Label.TheVariants.{Call, Device, Answer, Cancel, Pause, Resume, Remove, Surprise, Removed}
use Rattle.machine.specs.Rules.{Rules}
use Rattle.machine.specs.State.{Mark, Untouched, Back, OpenRequest, Piece, State}
use Rattle.machine.specs.Cutting.{mark_at}
use Rattle.machine.specs.Sending.{IsUnsent, IsInTurn, HasOtherTag, IsLowestFreeTag, Transfers, LeavesMarks, command_for, sent, new_piece, with_fate, given_back}
use Rattle.machine.specs.Step.{Step, Run}
use Rattle.machine.proofs.Same.{IsSame-refl, Run-append}
use Rattle.history_laws.specs.History.{history_of, IsOfService}
use Rattle.history_runs.proofs.Blocks.{BlockOf, one_place}
use Rattle.history_runs.proofs.Admitted.{served}

-- RUNS WITH A HISTORY

pub record Goes (rules : Rules) (s : State) (history : List Label) (s' : State) : Type 0 where
  pub labels : List Label
  pub run : Run rules s labels s'
  pub serving : All IsOfService labels
  pub seen : history_of labels ≡ history

history_joined : (xs ys : List Label) → history_of (xs ++ ys) ≡ history_of xs ++ history_of ys
history_joined [] ys = refl
history_joined (Call number q ∷ xs) ys = ap (λ zs. Call number q ∷ zs) (history_joined xs ys)
history_joined (Answer number status informed bytes ∷ xs) ys = ap (λ zs. Answer number status informed bytes ∷ zs) (history_joined xs ys)
history_joined (Device label ∷ xs) ys = history_joined xs ys
history_joined (Cancel number ∷ xs) ys = history_joined xs ys
history_joined (Pause ∷ xs) ys = history_joined xs ys
history_joined (Resume ∷ xs) ys = history_joined xs ys
history_joined (Remove ∷ xs) ys = history_joined xs ys
history_joined (Surprise ∷ xs) ys = history_joined xs ys
history_joined (Removed ∷ xs) ys = history_joined xs ys

pub goes_nowhere : (rules : Rules) (s : State) → Goes rules s [] s
goes_nowhere rules s = record { labels = []; run = IsSame-refl s; serving = All-nil IsOfService; seen = refl }

pub goes_then : (rules : Rules) (s mid s' : State) (xs ys : List Label) → Goes rules s xs mid → Goes rules mid ys s' → Goes rules s (xs ++ ys) s'
goes_then rules s mid s' xs ys g h = record {
  labels = g.labels ++ h.labels;
  run = Run-append rules s g.labels mid h.labels s' g.run h.run;
  serving = All-append IsOfService g.labels h.labels g.serving h.serving;
  seen = history_joined g.labels h.labels ∙ ap (λ zs. zs ++ history_of h.labels) g.seen ∙ ap (λ zs. xs ++ zs) h.seen;
}

-- a label that is seen
pub goes_seen : (rules : Rules) (s s' : State) (label : Label) → IsOfService label → history_of (label ∷ []) ≡ label ∷ [] → Step rules s label s' → Goes rules s (label ∷ []) s'
goes_seen rules s s' label serving seen step = record { labels = label ∷ []; run = (s', step, IsSame-refl s'); serving = All-cons IsOfService label [] serving (All-nil IsOfService); seen = seen }

-- ONE PIECE

-- nothing owed, nothing out, no pause and no removal
abbrev pub at_rest : List (List (List ℕ)) → ℕ → ℕ → List OpenRequest → State
at_rest arrays next_request next_piece requests = record {
  arrays = arrays;
  next_request = next_request;
  next_piece = next_piece;
  requests = requests;
  pieces = [];
  owed = None;
  paused = false;
  removing = false;
  removed = false;
}

of_device : (labels : List Label) → AllByRecursion IsOfService labels → All IsOfService labels
of_device labels h = All-from_recursion IsOfService labels h

tag_0 : IsLowestFreeTag 1 [] 0
tag_0 = record { within = lit< tt; free = All-nil (HasOtherTag 0); lowest = λ lower low. absurd (omega arith) }

-- the request behind a piece of one place that came back so
abbrev pub remarked : ℕ → Class → Mark → OpenRequest → OpenRequest
remarked place class mark o = given_back (record { number = 0; tag = 0; owner = 0; places = one_place place; fate = Fresh }) class (mark ∷ []) (sent (one_place place) o)

module _ (rules : Rules) (arrays : List (List (List ℕ))) (next piece : ℕ) (requests others : List OpenRequest) (o : OpenRequest) (place : ℕ)
    (is_open : IsPermutation requests (o ∷ others)) (turn : All (IsInTurn o) requests) (waits : IsFalse o.cancelled) (inside : place < length o.marks)
    (unsent : IsUnsent (mark_at o place)) (b : BlockOf (command_for (served rules) o.request (one_place place) o.request.kind)) where
  abbrev rest : State
  rest = at_rest arrays next piece requests

  abbrev p : Piece
  p = new_piece rest 0 o (one_place place)

  abbrev out : State
  out = record rest { next_piece = piece + 1; requests = sent (one_place place) o ∷ others; pieces = p ∷ [] }

  unsent_there : All IsUnsent (slice_range o.marks place (place + 1))
  unsent_there k d low =
      let width : place + 1 - place ≡ 1 = omega arith in
      let short : k < 1 = let low' = simp (length-take, length-drop) at low in omega arith in
      let here : place + k ≡ place = omega arith in
      let e : get_or (slice_range o.marks place (place + 1)) k d ≡ mark_at o place =
      get_or-take (place + 1 - place) (drop place o.marks) k d (omega arith) ∙ get_or-drop place o.marks k d ∙ ap (λ m. get_or o.marks m d) here ∙ get_or_default o.marks place d Untouched inside in
      subst IsUnsent (sym e) unsent

  starts : Step (served rules) rest (Device (Start piece 0 b.block)) out
  starts = inl (
    refl,
    record {
      owner = o;
      others = others;
      places = one_place place;
      next_number = refl;
      on_tag = tag_0;
      is_open = is_open;
      may_start = record { not_cancelled = waits; not_removing = refl; not_held = λ paused. absurd (cc (paused)); in_turn = turn };
      sendable = record {
        some = lit< tt;
        short = lit≤ tt;
        inside = omega arith;
        unsent = unsent_there;
        begins = λ grid. absurd (cc (grid));
        spare = λ grid. absurd (cc (grid));
        whole = λ one. absurd (cc (one));
      };
      asks = b.asks;
      plain = b.plain;
      after = IsSame-refl out;
    },
  )

  -- it comes back
  abbrev back : List (List (List ℕ)) → Class → Mark → State
  back arrays' class mark = at_rest arrays' next (piece + 1) (remarked place class mark o ∷ others)

  returns : (arrays' : List (List (List ℕ))) (fate : Fate) (class : Class) (mark : Mark) → LeavesMarks (with_fate fate p) class (mark ∷ [])
      → Step (served rules) (record out { arrays = arrays'; pieces = with_fate fate p ∷ [] }) (Device (Return piece class)) (back arrays' class mark)
  returns arrays' fate class mark leaves = inl (
    refl,
    record {
      piece = with_fate fate p;
      other_pieces = [];
      owner = sent (one_place place) o;
      others = others;
      marks = mark ∷ [];
      is_out = IsPermutation-refl _;
      is_number = refl;
      is_open = IsPermutation-refl _;
      is_owner = refl;
      leaves = leaves;
      after = IsSame-refl _;
    },
  )

  pub carries_out : (sector : List ℕ) (arrays' : List (List (List ℕ))) (class : Class) (mark : Mark)
      → Transfers (served rules) rest o.request (one_place place) o.request.kind (sector ∷ []) arrays'
      → LeavesMarks (with_fate (Acted (sector ∷ [])) p) class (mark ∷ []) → Goes (served rules) rest [] (back arrays' class mark)
  carries_out sector arrays' class mark moves leaves = record {
    labels = Device (Start piece 0 b.block) ∷ Device (Act piece (concat (sector ∷ []))) ∷ Device (Return piece class) ∷ [];
    run = (out, starts, (record out { arrays = arrays'; pieces = with_fate (Acted (sector ∷ [])) p ∷ [] }, acts, (back arrays' class mark, returns arrays' (Acted (sector ∷ [])) class mark leaves, IsSame-refl _)));
    serving = of_device (Device (Start piece 0 b.block) ∷ Device (Act piece (concat (sector ∷ []))) ∷ Device (Return piece class) ∷ []) (tt, (tt, (tt, tt)));
    seen = refl;
  }
    where
      acts : Step (served rules) out (Device (Act piece (concat (sector ∷ [])))) (record out { arrays = arrays'; pieces = with_fate (Acted (sector ∷ [])) p ∷ [] })
      acts = inl (
        refl,
        record {
          piece = p;
          other_pieces = [];
          owner = sent (one_place place) o;
          sectors = sector ∷ [];
          arrays' = arrays';
          fresh = record { is_out = IsPermutation-refl _; is_number = refl; is_fresh = refl };
          is_open = (0, omega arith, refl);
          is_owner = refl;
          covers = refl;
          moves = moves;
          hands_over = refl;
          after = IsSame-refl _;
        },
      )

  pub fails : (class : Class) (mark : Mark) → LeavesMarks (with_fate Faulted p) class (mark ∷ []) → Goes (served rules) rest [] (back arrays class mark)
  fails class mark leaves = record {
    labels = Device (Start piece 0 b.block) ∷ Device (Fault piece) ∷ Device (Return piece class) ∷ [];
    run = (out, starts, (record out { pieces = with_fate Faulted p ∷ [] }, faults, (back arrays class mark, returns arrays Faulted class mark leaves, IsSame-refl _)));
    serving = of_device (Device (Start piece 0 b.block) ∷ Device (Fault piece) ∷ Device (Return piece class) ∷ []) (tt, (tt, (tt, tt)));
    seen = refl;
  }
    where
      faults : Step (served rules) out (Device (Fault piece)) (record out { pieces = with_fate Faulted p ∷ [] })
      faults = inl (refl, record { piece = p; other_pieces = []; fresh = record { is_out = IsPermutation-refl _; is_number = refl; is_fresh = refl }; after = IsSame-refl _ })

  pub comes_back : Goes (served rules) rest [] (back arrays Busy Back)
  comes_back = record {
    labels = Device (Start piece 0 b.block) ∷ Device (Return piece Busy) ∷ [];
    run = (out, starts, (back arrays Busy Back, returns arrays Fresh Busy Back (refl, refl), IsSame-refl _));
    serving = of_device (Device (Start piece 0 b.block) ∷ Device (Return piece Busy) ∷ []) (tt, (tt, tt));
    seen = refl;
  }
