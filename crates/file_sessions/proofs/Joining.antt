-- Runs and their deeds, one behind the other.
use Rattle.std.proofs.Common.{ℕ, List, [], ◌∷◌, ◌++◌, refl, sym, ap, subst}
use Rattle.std.proofs.lemmas.List.Elements.{All-head, All-tail}
use Rattle.std.proofs.lemmas.List.Sorted.{Contains-permutation}
use Rattle.srb.specs.declared.DeviceLabel.TheVariants.{Start, Act, Fault, Return}
use Rattle.machine.specs.declared.Label.{Label}
use Rattle.machine.specs.declared.Label.TheVariants.{Call, Device, Answer, Cancel, Pause, Resume, Remove, Surprise, Removed}
use Rattle.machine.specs.Rules.{Rules}
use Rattle.machine.specs.State.{IsSame, State}
use Rattle.machine.proofs.Same.{IsSame-refl, IsSame-sym, IsSame-trans, Step-same}
use Rattle.file_sessions.specs.Deeds.{Deed, DeedRun, IsDeedOf, TakesDeed}
use Rattle.file_sessions.specs.Runs.{ActsWithOne, DeedRunsJoin, FaultsWithOne, HasNoDeed, RunsWithNone}

-- STATES THAT SAY THE SAME

deed_same : (rules : Rules) (s t : State) (number : ℕ) (deed : Deed) → IsSame s t → IsDeedOf rules s number deed → IsDeedOf rules t number deed
deed_same rules s t number deed same h = record {
  piece = h.piece;
  owner = h.owner;
  is_number = h.is_number;
  at_work = record {
    out = record {
      is_number = h.at_work.out.is_number;
      is_out = Contains-permutation _ _ h.piece same.pieces h.at_work.out.is_out;
      is_open = Contains-permutation _ _ h.owner same.requests h.at_work.out.is_open;
      is_owner = h.at_work.out.is_owner;
    };
    fresh = h.at_work.fresh;
  };
  asks = h.asks;
  sends = h.sends;
}

takes_same : (rules : Rules) (s t : State) (label : Label) (deeds later : List Deed) → IsSame s t → TakesDeed rules s label deeds later → TakesDeed rules t label deeds later
takes_same rules s t (Device (Act number bytes)) deeds later same (deed, is, of, moved) = (deed, is, deed_same rules s t number deed same of, moved)
takes_same rules s t (Device (Fault number)) deeds later same (deed, is, of, failed) = (deed, is, deed_same rules s t number deed same of, failed)
takes_same rules s t (Device (Start number tag block)) deeds later same h = h
takes_same rules s t (Device (Return number class)) deeds later same h = h
takes_same rules s t (Call number q) deeds later same h = h
takes_same rules s t (Answer number status informed bytes) deeds later same h = h
takes_same rules s t (Cancel number) deeds later same h = h
takes_same rules s t Pause deeds later same h = h
takes_same rules s t Resume deeds later same h = h
takes_same rules s t Remove deeds later same h = h
takes_same rules s t Surprise deeds later same h = h
takes_same rules s t Removed deeds later same h = h

begins_same : (rules : Rules) (s t : State) (labels : List Label) (s' : State) (deeds : List Deed) → IsSame s t → DeedRun rules s labels s' deeds → DeedRun rules t labels s' deeds
begins_same rules s t [] s' deeds same h = (IsSame-trans t s s' (IsSame-sym s t same) h.0, h.1)
begins_same rules s t (label ∷ labels) s' deeds same h =
    (h.0, h.1, Step-same rules label s t h.0 h.0 same (IsSame-refl h.0) h.2, takes_same rules s t label deeds h.1 same h.3, h.4)

-- WITH NO DEED, AND WITH ONE

takes_none : (rules : Rules) (s : State) (label : Label) → HasNoDeed label → TakesDeed rules s label [] []
takes_none rules s (Device (Act number bytes)) h = absurd h
takes_none rules s (Device (Fault number)) h = absurd h
takes_none rules s (Device (Start number tag block)) h = refl
takes_none rules s (Device (Return number class)) h = refl
takes_none rules s (Call number q) h = refl
takes_none rules s (Answer number status informed bytes) h = refl
takes_none rules s (Cancel number) h = refl
takes_none rules s Pause h = refl
takes_none rules s Resume h = refl
takes_none rules s Remove h = refl
takes_none rules s Surprise h = refl
takes_none rules s Removed h = refl

pub runs_with_none : RunsWithNone
runs_with_none rules s [] s' none run = (run, refl)
runs_with_none rules s (label ∷ labels) s' none run =
    (run.0, [], run.1, takes_none rules s label (All-head HasNoDeed label labels none), runs_with_none rules run.0 labels s' (All-tail HasNoDeed label labels none) run.2)

pub acts_with_one : ActsWithOne
acts_with_one rules s number bytes s' deed run of moved = (run.0, [], run.1, (deed, refl, of, moved), (run.2, refl))

pub faults_with_one : FaultsWithOne
faults_with_one rules s number s' deed run of failed = (run.0, [], run.1, (deed, refl, of, failed), (run.2, refl))

-- IN A ROW

-- behind some deeds more
takes_more : (rules : Rules) (s : State) (label : Label) (deeds later es : List Deed) → TakesDeed rules s label deeds later → TakesDeed rules s label (deeds ++ es) (later ++ es)
takes_more rules s (Device (Act number bytes)) deeds later es (deed, is, of, moved) = (deed, ap (λ (ds : List Deed). ds ++ es) is, of, moved)
takes_more rules s (Device (Fault number)) deeds later es (deed, is, of, failed) = (deed, ap (λ (ds : List Deed). ds ++ es) is, of, failed)
takes_more rules s (Device (Start number tag block)) deeds later es h = ap (λ (ds : List Deed). ds ++ es) h
takes_more rules s (Device (Return number class)) deeds later es h = ap (λ (ds : List Deed). ds ++ es) h
takes_more rules s (Call number q) deeds later es h = ap (λ (ds : List Deed). ds ++ es) h
takes_more rules s (Answer number status informed bytes) deeds later es h = ap (λ (ds : List Deed). ds ++ es) h
takes_more rules s (Cancel number) deeds later es h = ap (λ (ds : List Deed). ds ++ es) h
takes_more rules s Pause deeds later es h = ap (λ (ds : List Deed). ds ++ es) h
takes_more rules s Resume deeds later es h = ap (λ (ds : List Deed). ds ++ es) h
takes_more rules s Remove deeds later es h = ap (λ (ds : List Deed). ds ++ es) h
takes_more rules s Surprise deeds later es h = ap (λ (ds : List Deed). ds ++ es) h
takes_more rules s Removed deeds later es h = ap (λ (ds : List Deed). ds ++ es) h

pub deed_runs_join : DeedRunsJoin
deed_runs_join rules s [] mid ds ys s' es one two =
    subst (λ (xs : List Deed). DeedRun rules s ys s' (xs ++ es)) (sym one.1) (begins_same rules mid s ys s' es (IsSame-sym s mid one.0) two)
deed_runs_join rules s (x ∷ xs) mid ds ys s' es one two =
    (one.0, one.1 ++ es, one.2, takes_more rules s x ds one.1 es one.3, deed_runs_join rules one.0 xs mid one.1 ys s' es one.4 two)
