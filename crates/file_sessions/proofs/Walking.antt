-- A run, its deeds and its calls, label by label.
use Rattle.std.proofs.Common.{◌≡◌, ◌<◌, ◌⊎◌, inl, inr, ℕ, List, [], ◌∷◌, ◌++◌, Result, refl, sym, ap, subst, ◌∙◌, append_assoc}
use Rattle.std.proofs.lemmas.List.{append_cancel_right}
use Rattle.srb.specs.declared.Class.TheVariants.{Good, Busy, Bad}
use Rattle.srb.specs.declared.Entry.{Entry}
use Rattle.srb.specs.declared.Completion.{Completion}
use Rattle.srb.specs.declared.Srb.{Srb}
use Rattle.srb.specs.declared.DeviceLabel.TheVariants.{Start, Act, Fault, Return}
use Rattle.machine.specs.declared.Label.{Label}
use Rattle.machine.specs.declared.Label.TheVariants.{Call as CallLabel, Device, Answer, Cancel, Pause, Resume, Remove, Surprise, Removed}
use Rattle.machine.specs.Rules.{Rules}
use Rattle.machine.specs.State.{State}
use Rattle.machine.specs.Step.{Step}
use Rattle.file_disk.specs.Calls.{Call}
use Rattle.file_disk.specs.Transfers.{DiskView, Transfers}
use Rattle.loss.specs.Moved.{Table, TableRun}
use Rattle.file_sessions.specs.Stored.{Content, IsKept}
use Rattle.file_sessions.specs.Deeds.{Deed, DeedRun, Files, IsDeedOf, TakesDeed}
use Rattle.file_sessions.specs.Laws.{IsOnDisk}
use Rattle.file_sessions.proofs.Building.{IsBuilt, IsCovering, back_bad, built_act, built_fault, kept_behind, stays}

-- WHAT A DEED CALLS

pub record HasCalled (old new : DiskView) : Type 0 where
  pub calls : List Call
  pub after : new.calls ≡ calls ++ old.calls
  pub same_size : new.sector_size ≡ old.sector_size

nothing_called : (old new : DiskView) → new ≡ old → HasCalled old new
nothing_called old new same = record { calls = []; after = ap (λ (d : DiskView). d.calls) same; same_size = ap (λ (d : DiskView). d.sector_size) same }

pub has_called : (old : DiskView) (tag piece : ℕ) (srb : Srb) (what : Result Entry Completion) (new : DiskView) → Transfers old tag piece srb what new → HasCalled old new
has_called old tag piece srb what new (inl c) = record { calls = c.carries.calls; after = c.carries.after; same_size = ap (λ (d : DiskView). d.sector_size) c.after }
has_called old tag piece srb what new (inr (inl a)) = nothing_called old new a.same
has_called old tag piece srb what new (inr (inr f)) = nothing_called old new f.same

pub have_called : (old : DiskView) (deeds : List Deed) (new : DiskView) → Files old deeds new → HasCalled old new
have_called old [] new files = nothing_called old new files
have_called old (deed ∷ deeds) new (mid, transfers, files) =
    let one : HasCalled old mid = has_called old deed.tag deed.piece deed.srb deed.what mid transfers in
    let more : HasCalled mid new = have_called mid deeds new files in
    record {
      calls = more.calls ++ one.calls;
      after = more.after ∙ ap (λ (cs : List Call). more.calls ++ cs) one.after ∙ sym (append_assoc more.calls one.calls old.calls);
      same_size = more.same_size ∙ one.same_size;
    }

-- so the calls in all are more behind those so far
pub all_behind : (old : DiskView) (deeds : List Deed) (new : DiskView) (base calls all : List Call) → Files old deeds new → old.calls ≡ calls ++ base → new.calls ≡ all ++ base → (more : List Call) × (all ≡ more ++ calls)
all_behind old deeds new base calls all files was is =
    let more : HasCalled old new = have_called old deeds new files in
    (more.calls, append_cancel_right all (more.calls ++ calls) base (sym is ∙ more.after ∙ ap (λ (cs : List Call). more.calls ++ cs) was ∙ sym (append_assoc more.calls calls base)))

-- ONE LABEL

module _ (rules : Rules) (content : Content) (some : 0 < rules.sector_size) (base : List Call) where
  abbrev size : ℕ
  size = rules.sector_size

  -- where a run stands: the table holds what the calls so far leave
  pub record Stands (t : Table) (view : DiskView) (calls : List Call) : Type 0 where
    pub size_is : view.sector_size ≡ size
    pub calls_are : view.calls ≡ calls ++ base
    pub covering : IsCovering rules content some calls t

  -- a label that has a deed
  pub record HasDeed (s : State) (label : Label) (later : List Deed) (old new : DiskView) (calls : List Call) : Type 0 where
    pub number : ℕ
    pub deed : Deed
    pub mid : DiskView
    pub newest : List Call
    pub on_disk : IsOnDisk rules s number deed old mid
    pub called : mid.calls ≡ newest ++ old.calls
    pub same_size : mid.sector_size ≡ size
    pub calls_are : mid.calls ≡ (newest ++ calls) ++ base
    pub files : Files mid later new
    pub builds : (t : Table) → IsCovering rules content some calls t → IsKept size content (newest ++ calls) → IsBuilt rules content some s label t (newest ++ calls)

  -- one that has none
  pub record HasNone (s : State) (label : Label) (later : List Deed) (old new : DiskView) (calls : List Call) : Type 0 where
    pub files : Files old later new
    pub builds : (t : Table) → IsCovering rules content some calls t → IsBuilt rules content some s label t calls

  has_deed : (s : State) (label : Label) (number : ℕ) (deed : Deed) (deeds later : List Deed) (old new : DiskView) (calls : List Call) → deeds ≡ deed ∷ later → IsDeedOf rules s number deed → Files old deeds new
      → old.sector_size ≡ size → old.calls ≡ calls ++ base
      → ((mid : DiskView) (newest : List Call) (t : Table) → IsOnDisk rules s number deed old mid → mid.calls ≡ newest ++ old.calls → IsCovering rules content some calls t → IsKept size content (newest ++ calls)
      → IsBuilt rules content some s label t (newest ++ calls)) → HasDeed s label later old new calls
  has_deed s label number deed deeds later old new calls is of files size_is calls_are builds =
      let those : Files old (deed ∷ later) new = subst (λ (ds : List Deed). Files old ds new) is files in
      let mid : DiskView = those.0 in
      let called : HasCalled old mid = has_called old deed.tag deed.piece deed.srb deed.what mid those.1 in
      let on : IsOnDisk rules s number deed old mid = record { some = some; size = size_is; of_piece = of; transfers = those.1 } in
      record {
        number = number;
        deed = deed;
        mid = mid;
        newest = called.calls;
        on_disk = on;
        called = called.after;
        same_size = called.same_size ∙ size_is;
        calls_are = called.after ∙ ap (λ (cs : List Call). called.calls ++ cs) calls_are ∙ sym (append_assoc called.calls calls base);
        files = those.2;
        builds = λ t covering kept. builds mid called.calls t on called.after covering kept;
      }

  none_here : (s : State) (label : Label) (deeds later : List Deed) (old new : DiskView) (calls : List Call) → later ≡ deeds → Files old deeds new
      → ((t : Table) → IsCovering rules content some calls t → IsBuilt rules content some s label t calls) → HasNone s label later old new calls
  none_here s label deeds later old new calls is files builds = record { files = subst (λ (ds : List Deed). Files old ds new) (sym is) files; builds = builds }

  pub label_has : (s : State) (label : Label) (s' : State) (deeds later : List Deed) (old new : DiskView) (calls : List Call) → Step rules s label s' → TakesDeed rules s label deeds later → Files old deeds new
      → old.sector_size ≡ size → old.calls ≡ calls ++ base → HasDeed s label later old new calls ⊎ HasNone s label later old new calls
  label_has s (Device (Act number bytes)) s' deeds later old new calls step (deed, is, of, moved) files size_is calls_are =
      inl (has_deed s (Device (Act number bytes)) number deed deeds later old new calls is of files size_is calls_are
      (λ mid newest t on called covering kept. built_act rules content some s number deed old mid on t calls newest called kept covering bytes moved))
  label_has s (Device (Fault number)) s' deeds later old new calls step (deed, is, of, failed) files size_is calls_are =
      inl (has_deed s (Device (Fault number)) number deed deeds later old new calls is of files size_is calls_are
      (λ mid newest t on called covering kept. built_fault rules content some s number deed old mid on t calls newest called kept covering failed))
  label_has s (Device (Start number tag block)) s' deeds later old new calls step takes files size_is calls_are =
      inr (none_here s (Device (Start number tag block)) deeds later old new calls takes files (λ t covering. stays rules content some s (Device (Start number tag block)) t calls (λ i. refl) covering))
  label_has s (Device (Return number (Bad completion))) s' deeds later old new calls (inl h) takes files size_is calls_are =
      inr (none_here s (Device (Return number (Bad completion))) deeds later old new calls takes files (λ t covering. back_bad rules content some s number completion s' t calls h.1 covering))
  label_has s (Device (Return number (Bad completion))) s' deeds later old new calls (inr h) takes files size_is calls_are = absurd h
  label_has s (Device (Return number Good)) s' deeds later old new calls step takes files size_is calls_are =
      inr (none_here s (Device (Return number Good)) deeds later old new calls takes files (λ t covering. stays rules content some s (Device (Return number Good)) t calls (λ i. refl) covering))
  label_has s (Device (Return number Busy)) s' deeds later old new calls step takes files size_is calls_are =
      inr (none_here s (Device (Return number Busy)) deeds later old new calls takes files (λ t covering. stays rules content some s (Device (Return number Busy)) t calls (λ i. refl) covering))
  label_has s (CallLabel number q) s' deeds later old new calls step takes files size_is calls_are =
      inr (none_here s (CallLabel number q) deeds later old new calls takes files (λ t covering. stays rules content some s (CallLabel number q) t calls (λ i. refl) covering))
  label_has s (Answer number status informed bytes) s' deeds later old new calls step takes files size_is calls_are =
      inr (none_here s (Answer number status informed bytes) deeds later old new calls takes files (λ t covering. stays rules content some s (Answer number status informed bytes) t calls (λ i. refl) covering))
  label_has s (Cancel number) s' deeds later old new calls step takes files size_is calls_are =
      inr (none_here s (Cancel number) deeds later old new calls takes files (λ t covering. stays rules content some s (Cancel number) t calls (λ i. refl) covering))
  label_has s Pause s' deeds later old new calls step takes files size_is calls_are =
      inr (none_here s Pause deeds later old new calls takes files (λ t covering. stays rules content some s Pause t calls (λ i. refl) covering))
  label_has s Resume s' deeds later old new calls step takes files size_is calls_are =
      inr (none_here s Resume deeds later old new calls takes files (λ t covering. stays rules content some s Resume t calls (λ i. refl) covering))
  label_has s Remove s' deeds later old new calls step takes files size_is calls_are =
      inr (none_here s Remove deeds later old new calls takes files (λ t covering. stays rules content some s Remove t calls (λ i. refl) covering))
  label_has s Surprise s' deeds later old new calls step takes files size_is calls_are =
      inr (none_here s Surprise deeds later old new calls takes files (λ t covering. stays rules content some s Surprise t calls (λ i. refl) covering))
  label_has s Removed s' deeds later old new calls step takes files size_is calls_are =
      inr (none_here s Removed deeds later old new calls takes files (λ t covering. stays rules content some s Removed t calls (λ i. refl) covering))

  -- A RUN

  pub record IsBuiltAll (s : State) (t : Table) (labels : List Label) (s' : State) (all : List Call) : Type 0 where
    pub table : Table
    pub run : TableRun rules s t labels s' table
    pub covering : IsCovering rules content some all table

  -- what stands behind a label stands behind those that follow
  abbrev pub GoesOn : State → List Label → State → List Deed → DiskView → List Call → Type 0
  GoesOn mid labels s' deeds new all = (t : Table) (view : DiskView) (calls : List Call) → Files view deeds new → view.sector_size ≡ size → view.calls ≡ calls ++ base → IsCovering rules content some calls t → IsBuiltAll mid t labels s' all

  joined : (s : State) (t : Table) (label : Label) (labels : List Label) (mid s' : State) (calls all : List Call) → Step rules s label mid → (one : IsBuilt rules content some s label t calls) → IsBuiltAll mid one.table labels s' all
      → IsBuiltAll s t (label ∷ labels) s' all
  joined s t label labels mid s' calls all step one more = record { table = more.table; run = (mid, one.table, step, one.moves, more.run); covering = more.covering }

  one_more : (s : State) (t : Table) (label : Label) (labels : List Label) (mid s' : State) (deeds : List Deed) (old new : DiskView) (calls all : List Call) → Step rules s label mid → old.sector_size ≡ size → old.calls ≡ calls ++ base
      → new.calls ≡ all ++ base → IsKept size content all → IsCovering rules content some calls t → GoesOn mid labels s' deeds new all → HasDeed s label deeds old new calls ⊎ HasNone s label deeds old new calls → IsBuiltAll s t (label ∷ labels) s' all
  one_more s t label labels mid s' deeds old new calls all step size_is was is kept covering goes_on (inl d) =
      let behind = all_behind d.mid deeds new base (d.newest ++ calls) all d.files d.calls_are is in
      let kept' : IsKept size content (d.newest ++ calls) = kept_behind size content behind.0 (d.newest ++ calls) (subst (λ (cs : List Call). IsKept size content cs) behind.1 kept) in
      let one : IsBuilt rules content some s label t (d.newest ++ calls) = d.builds t covering kept' in
      joined s t label labels mid s' (d.newest ++ calls) all step one (goes_on one.table d.mid (d.newest ++ calls) d.files d.same_size d.calls_are one.covering)
  one_more s t label labels mid s' deeds old new calls all step size_is was is kept covering goes_on (inr d) =
      let one : IsBuilt rules content some s label t calls = d.builds t covering in
      joined s t label labels mid s' calls all step one (goes_on one.table old calls d.files size_is was one.covering)

  pub built_all : (s : State) (t : Table) (labels : List Label) (s' : State) (deeds : List Deed) (run : DeedRun rules s labels s' deeds) (old new : DiskView) (calls all : List Call)
      → Files old deeds new → old.sector_size ≡ size → old.calls ≡ calls ++ base → new.calls ≡ all ++ base → IsKept size content all → IsCovering rules content some calls t → IsBuiltAll s t labels s' all
  built_all s t [] s' deeds run old new calls all files size_is was is kept covering =
      let none : Files old [] new = subst (λ (ds : List Deed). Files old ds new) run.1 files in
      let same : calls ≡ all = append_cancel_right calls all base (sym was ∙ sym (ap (λ (d : DiskView). d.calls) none) ∙ is) in
      record { table = t; run = (run.0, λ i. refl); covering = subst (λ (cs : List Call). IsCovering rules content some cs t) same covering }
  built_all s t (label ∷ labels) s' deeds run old new calls all files size_is was is kept covering =
      one_more s t label labels run.0 s' run.1 old new calls all run.2 size_is was is kept covering
      (λ t' view calls' files' size_is' was' covering'. built_all run.0 t' labels s' run.1 run.4 view new calls' all files' size_is' was' is kept covering')
      (label_has s label run.0 deeds run.1 old new calls run.2 run.3 files size_is was)
