-- The calls of a session up to any moment behind a part of its run.
use Rattle.std.proofs.Common.{◌≡◌, ◌<◌, ◌⊎◌, inl, inr, ℕ, List, [], ◌∷◌, ◌++◌, refl, sym, ap, subst, ◌∙◌}
use Rattle.std.proofs.lemmas.List.{append_cancel_right}
use Rattle.srb.specs.declared.DeviceLabel.TheVariants.{Start, Act, Fault, Return}
use Rattle.machine.specs.declared.Label.{Label}
use Rattle.machine.specs.declared.Label.TheVariants.{Call as CallLabel, Device, Answer, Cancel, Pause, Resume, Remove, Surprise, Removed}
use Rattle.machine.specs.Rules.{Rules}
use Rattle.machine.specs.State.{State, opening}
use Rattle.machine.specs.Step.{Step}
use Rattle.file_disk.specs.Calls.{Call}
use Rattle.file_disk.specs.Transfers.{DiskView}
use Rattle.loss.specs.Held.{IsOneOf, left}
use Rattle.loss.specs.Moved.{Table, TableRun, held_on}
use Rattle.loss.specs.Sessions.{MayBeLeft, MayRemain, Moment}
use Rattle.file_sessions.specs.Stored.{Content, IsKept, held, under_way}
use Rattle.file_sessions.specs.Deeds.{Deed, DeedRun, Files, TakesDeed}
use Rattle.file_sessions.specs.Behind.{LaterMomentsAreSessions}
use Rattle.file_sessions.proofs.Within.{within_refl}
use Rattle.file_sessions.proofs.Building.{IsBuilt, IsCovering, kept_behind, run_same}
use Rattle.file_sessions.proofs.Walking.{HasDeed, HasNone, all_behind, label_has}
use Rattle.file_sessions.proofs.Moments.{IsCut, cut_at, line_ended, line_lost}

-- THE SAME LABELS TAKE AS MANY DEEDS

record TakesBoth (rules : Rules) (s : State) (label : Label) (deeds taken more later : List Deed) : Type 0 where
  takes : TakesDeed rules s label deeds taken
  rest : later ≡ taken ++ more

takes_none : (rules : Rules) (s : State) (label : Label) (deeds taken more later : List Deed) → TakesDeed rules s label deeds taken → taken ≡ deeds → later ≡ deeds ++ more → TakesBoth rules s label deeds taken more later
takes_none rules s label deeds taken more later takes same is = record { takes = takes; rest = is ∙ ap (λ (ds : List Deed). ds ++ more) (sym same) }

takes_both : (rules : Rules) (s t : State) (label : Label) (deeds taken more later : List Deed) → TakesDeed rules s label (deeds ++ more) later → TakesDeed rules t label deeds taken → TakesBoth rules s label deeds taken more later
takes_both rules s t (Device (Act number bytes)) deeds taken more later (deed, is, of, moved) (other, was, of', moved') =
    let all : other ∷ (taken ++ more) ≡ deed ∷ later = sym (ap (λ (ds : List Deed). ds ++ more) was) ∙ is in
    let same : other ≡ deed = cc (all) in
    let rest : later ≡ taken ++ more = cc (all) in
    record { takes = (deed, was ∙ ap (λ (d : Deed). d ∷ taken) same, of, moved); rest = rest }
takes_both rules s t (Device (Fault number)) deeds taken more later (deed, is, of, failed) (other, was, of', failed') =
    let all : other ∷ (taken ++ more) ≡ deed ∷ later = sym (ap (λ (ds : List Deed). ds ++ more) was) ∙ is in
    let same : other ≡ deed = cc (all) in
    let rest : later ≡ taken ++ more = cc (all) in
    record { takes = (deed, was ∙ ap (λ (d : Deed). d ∷ taken) same, of, failed); rest = rest }
takes_both rules s t (Device (Start number tag block)) deeds taken more later is was = takes_none rules s (Device (Start number tag block)) deeds taken more later was was is
takes_both rules s t (Device (Return number class)) deeds taken more later is was = takes_none rules s (Device (Return number class)) deeds taken more later was was is
takes_both rules s t (CallLabel number q) deeds taken more later is was = takes_none rules s (CallLabel number q) deeds taken more later was was is
takes_both rules s t (Answer number status informed bytes) deeds taken more later is was = takes_none rules s (Answer number status informed bytes) deeds taken more later was was is
takes_both rules s t (Cancel number) deeds taken more later is was = takes_none rules s (Cancel number) deeds taken more later was was is
takes_both rules s t Pause deeds taken more later is was = takes_none rules s Pause deeds taken more later was was is
takes_both rules s t Resume deeds taken more later is was = takes_none rules s Resume deeds taken more later was was is
takes_both rules s t Remove deeds taken more later is was = takes_none rules s Remove deeds taken more later was was is
takes_both rules s t Surprise deeds taken more later is was = takes_none rules s Surprise deeds taken more later was was is
takes_both rules s t Removed deeds taken more later is was = takes_none rules s Removed deeds taken more later was was is

-- BEHIND A PART

module _ (rules : Rules) (content : Content) (some : 0 < rules.sector_size) (base : List Call) (later earlier : List Call) (call : Call) where
  abbrev bytes : ℕ
  bytes = rules.sector_size

  -- the run over the part, and up to the label of a piece that the call is of
  record IsCutBehind (s : State) (t : Table) (front labels : List Label) : Type 0 where
    first : List Label
    rest : List Label
    mid : State
    between : Table
    labels_are : labels ≡ first ++ rest
    run : TableRun rules s t (front ++ first) mid between
    left_so : (i : ℕ) (value : List ℕ) → IsOneOf value (left (held bytes i (content i) (under_way call ∷ earlier))) → MayBeLeft rules mid between i value
    remains_so : (i : ℕ) (value : List ℕ) → IsOneOf value (held bytes i (content i) (under_way call ∷ earlier)).now → MayRemain rules mid between i value

  one_more : (s : State) (t : Table) (label : Label) (front labels : List Label) (mid : State) (calls : List Call) (one : IsBuilt rules content some s label t calls) → Step rules s label mid → IsCutBehind mid one.table front labels → IsCutBehind s t (label ∷ front) labels
  one_more s t label front labels mid calls one step c = record {
    first = c.first;
    rest = c.rest;
    mid = c.mid;
    between = c.between;
    labels_are = c.labels_are;
    run = (mid, one.table, step, one.moves, c.run);
    left_so = c.left_so;
    remains_so = c.remains_so;
  }

  at_part : (s : State) (t : Table) (labels : List Label) → IsCut rules content some base later earlier call s t labels → IsCutBehind s t [] labels
  at_part s t labels c = record { first = c.first; rest = c.rest; mid = c.mid; between = c.between; labels_are = c.labels_are; run = c.run; left_so = c.left_so; remains_so = c.remains_so }

  module _ (told all k : List Call) (parts : all ≡ later ++ call ∷ earlier) (suffix : earlier ≡ k ++ told) (kept : IsKept bytes content earlier) (between new : DiskView) (told_are : between.calls ≡ told ++ base) (all_are : new.calls ≡ all ++ base) where
    kept_told : IsKept bytes content told
    kept_told = kept_behind bytes content k told (subst (λ (cs : List Call). IsKept bytes content cs) suffix kept)

    -- what stands behind the next label stands behind those that follow
    abbrev GoesOn : State → List Label → List Label → List Deed → Type 0
    GoesOn mid front labels deeds =
        (t : Table) (view : DiskView) (calls : List Call) → Files view deeds between → view.sector_size ≡ bytes → view.calls ≡ calls ++ base → IsCovering rules content some calls t → IsCutBehind mid t front labels

    by_label : (s : State) (t : Table) (label : Label) (front labels : List Label) (mid : State) (deeds : List Deed) (view : DiskView) (calls : List Call) → Step rules s label mid → view.sector_size ≡ bytes → view.calls ≡ calls ++ base → IsCovering rules content some calls t
        → GoesOn mid front labels deeds → HasDeed rules content some base s label deeds view between calls ⊎ HasNone rules content some base s label deeds view between calls → IsCutBehind s t (label ∷ front) labels
    by_label s t label front labels mid deeds view calls step size_is was covering goes_on (inl d) =
        let behind = all_behind d.mid deeds between base (d.newest ++ calls) told d.files d.calls_are told_are in
        let kept' : IsKept bytes content (d.newest ++ calls) = kept_behind bytes content behind.0 (d.newest ++ calls) (subst (λ (cs : List Call). IsKept bytes content cs) behind.1 kept_told) in
        let one : IsBuilt rules content some s label t (d.newest ++ calls) = d.builds t covering kept' in
        one_more s t label front labels mid (d.newest ++ calls) one step (goes_on one.table d.mid (d.newest ++ calls) d.files d.same_size d.calls_are one.covering)
    by_label s t label front labels mid deeds view calls step size_is was covering goes_on (inr d) =
        let one : IsBuilt rules content some s label t calls = d.builds t covering in
        one_more s t label front labels mid calls one step (goes_on one.table view calls d.files size_is was one.covering)

    cut_behind : (s : State) (t : Table) (front labels : List Label) (s' : State) (deeds more : List Deed) → DeedRun rules s (front ++ labels) s' (deeds ++ more) → (a b : State) → DeedRun rules a front b deeds → (view : DiskView) (calls : List Call) → Files view deeds between
        → Files between more new → view.sector_size ≡ bytes → view.calls ≡ calls ++ base → IsCovering rules content some calls t → IsCutBehind s t front labels
    cut_behind s t [] labels s' deeds more run a b front_run view calls files onwards size_is was covering =
        let none : deeds ≡ [] = front_run.1 in
        let same : between ≡ view = subst (λ (ds : List Deed). Files view ds between) none files in
        let told_is : told ≡ calls = append_cancel_right told calls base (sym told_are ∙ ap (λ (d : DiskView). d.calls) same ∙ was) in
        at_part s t labels
        (cut_at rules content some base later earlier call s t labels s' more (subst (λ (ds : List Deed). DeedRun rules s labels s' (ds ++ more)) none run) view new calls k all (subst (λ (d : DiskView). Files d more new) same onwards) size_is was all_are parts
        (suffix ∙ ap (λ (cs : List Call). k ++ cs) told_is) kept covering)
    cut_behind s t (label ∷ front) labels s' deeds more run a b front_run view calls files onwards size_is was covering =
        let both : TakesBoth rules s label deeds front_run.1 more run.1 = takes_both rules s a label deeds front_run.1 more run.1 run.3 front_run.3 in
        by_label s t label front labels run.0 front_run.1 view calls run.2 size_is was covering
        (λ t' view' calls' files' size_is' was' covering'.
        cut_behind run.0 t' front labels s' front_run.1 more (subst (λ (ds : List Deed). DeedRun rules run.0 (front ++ labels) s' ds) both.rest run.4) front_run.0 b front_run.4 view' calls' files' onwards size_is' was' covering')
        (label_has rules content some base s label run.0 deeds front_run.1 view between calls run.2 both.takes files size_is was)

pub later_moments_are_sessions : LaterMomentsAreSessions
later_moments_are_sessions rules arrays before front labels s' told calls later since call filed parts kept = (
  c.first,
  c.rest,
  end,
  c.labels_are,
  record {
    run = c.run;
    lost = line_lost rules arrays before end (under_way call ∷ (since ++ told)) same c.left_so;
    ended = line_ended rules arrays before end (under_way call ∷ (since ++ told)) same c.remains_so;
  },
)
  where
    c : IsCutBehind rules before filed.some filed.old.calls later (since ++ told) call (opening arrays) (held_on before) front labels
    c = cut_behind rules before filed.some filed.old.calls later (since ++ told) call told calls since parts refl kept filed.between filed.new filed.told_are filed.calls_are (opening arrays) (held_on before) front labels s' filed.deeds filed.more filed.run
        (opening arrays) filed.seen filed.front_run filed.old [] filed.files filed.onwards filed.size refl (λ i. within_refl (held_on before i))

    end : Moment
    end = record { machine = c.mid; table = c.between }

    same : c.mid.arrays ≡ arrays
    same = run_same rules filed.apart (opening arrays) (held_on before) (front ++ c.first) c.mid c.between c.run
