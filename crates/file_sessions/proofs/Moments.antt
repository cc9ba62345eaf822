-- The calls of a session up to any moment.
use Rattle.std.proofs.Common.{◌≡◌, ◌<◌, ◌⊎◌, inl, inr, ℕ, List, [], ◌∷◌, ◌++◌, length, refl, sym, ap, subst, ◌∙◌, arith, append_assoc, append-nil, length-append}
use Rattle.std.proofs.lemmas.List.{append_cancel_right}
use Rattle.machine.specs.declared.Label.{Label}
use Rattle.machine.specs.Rules.{Rules}
use Rattle.machine.specs.State.{State, opening}
use Rattle.machine.specs.Step.{Step}
use Rattle.machine.proofs.Same.{IsSame-refl}
use Rattle.file_disk.specs.Calls.{Call}
use Rattle.file_disk.specs.Transfers.{DiskView}
use Rattle.loss.specs.Held.{IsOneOf, left}
use Rattle.loss.specs.Moved.{Table, TableRun, held_on}
use Rattle.loss.specs.Sessions.{Ended, LineStep, Lost, MayBeLeft, MayRemain, Moment, worked_on}
use Rattle.file_sessions.specs.Stored.{Content, IsKept, Remains, Survives, held, under_way}
use Rattle.file_sessions.specs.Deeds.{Deed, DeedRun, Files}
use Rattle.file_sessions.specs.Sessions.{beginning}
use Rattle.file_sessions.specs.Laws.{MomentsAreSessions, RunsAreSessions}
use Rattle.file_sessions.specs.Within.{IsWithin}
use Rattle.file_sessions.proofs.Within.{within_refl}
use Rattle.file_sessions.proofs.Building.{IsBuilt, IsCovering, kept_behind, run_same}
use Rattle.file_sessions.proofs.Leaving.{at_work}
use Rattle.file_sessions.proofs.Walking.{HasDeed, HasNone, IsBuiltAll, all_behind, built_all, label_has}

-- LISTS TAKEN APART

abbrev pub Parts : {X : Type 0} → List X → List X → List X → List X → Type 0
Parts {X} xs ys zs ws = ((k : List X) × (xs ≡ zs ++ k) × (ws ≡ k ++ ys)) ⊎ ((k : List X) × (zs ≡ xs ++ k) × (ys ≡ k ++ ws))

pub apart_at : {X : Type 0} (xs ys zs ws : List X) → xs ++ ys ≡ zs ++ ws → Parts xs ys zs ws
apart_at [] ys zs ws e = inr (zs, refl, e)
apart_at (x ∷ xs) ys [] ws e = inl (x ∷ xs, refl, sym e)
apart_at {X} (x ∷ xs) ys (z ∷ zs) ws e =
    let head : x ≡ z = cc (e) in
    let tail : xs ++ ys ≡ zs ++ ws = cc (e) in
    elim (apart_at xs ys zs ws tail) [
      | inl h ↦ inl (h.0, ap (λ (l : List X). x ∷ l) h.1 ∙ ap (λ (y : X). y ∷ (zs ++ h.0)) head, h.2)
      | inr h ↦ inr (h.0, ap (λ (l : List X). z ∷ l) h.1 ∙ ap (λ (y : X). y ∷ (xs ++ h.0)) (sym head), h.2)
    ]

-- what ends a list that ends in one
last_of : {X : Type 0} (more : List X) (y : X) (ys later : List X) (x : X) → later ++ x ∷ [] ≡ more ++ y ∷ ys → (front : List X) × (y ∷ ys ≡ front ++ x ∷ [])
last_of [] y ys later x e = (later, sym e)
last_of (m ∷ more) y ys [] x e = absurd (none_there more y ys (cc (e)))
  where
    none_there : {X : Type 0} (more : List X) (y : X) (ys : List X) → [] ≡ more ++ y ∷ ys → ⊥
    none_there [] y ys e = cc (e)
    none_there (m ∷ more) y ys e = cc (e)
last_of (m ∷ more) y ys (l ∷ later) x e = last_of more y ys later x (cc (e))

-- THE END OF A RUN

module _ (rules : Rules) (arrays : List (List (List ℕ))) (before : Content) where
  abbrev size : ℕ
  size = rules.sector_size

  pub line_lost : (end : Moment) (calls : List Call) → end.machine.arrays ≡ arrays → ((i : ℕ) (value : List ℕ) → IsOneOf value (left (held size i (before i) calls)) → MayBeLeft rules end.machine end.table i value)
      → (after : Content) → Survives size rules.disk_sectors before calls after → LineStep rules end Lost (beginning arrays after)
  line_lost end calls same may after survives = record {
    disk = after;
    chosen = λ i low. may i (after i) (survives i low);
    machine = ap (λ (x : List (List (List ℕ))). opening x) (sym same);
    table = λ i. refl;
  }

  pub line_ended : (end : Moment) (calls : List Call) → end.machine.arrays ≡ arrays → ((i : ℕ) (value : List ℕ) → IsOneOf value (held size i (before i) calls).now → MayRemain rules end.machine end.table i value)
      → (after : Content) → Remains size rules.disk_sectors before calls after → LineStep rules end Ended (beginning arrays after)
  line_ended end calls same may after remains = record {
    disk = after;
    chosen = λ i low. may i (after i) (remains i low);
    machine = ap (λ (x : List (List (List ℕ))). opening x) (sym same);
    table = λ i. refl;
  }

pub runs_are_sessions : RunsAreSessions
runs_are_sessions rules arrays before calls labels s' filed kept = (
  all.table,
  record {
    run = all.run;
    lost = line_lost rules arrays before (record { machine = s'; table = all.table }) calls same (λ i value p. inl ((all.covering i).left value p));
    ended = line_ended rules arrays before (record { machine = s'; table = all.table }) calls same (λ i value p. inl ((all.covering i).now value p));
  },
)
  where
    all : IsBuiltAll rules before filed.some filed.old.calls (opening arrays) (held_on before) labels s' calls
    all = built_all rules before filed.some filed.old.calls (opening arrays) (held_on before) labels s' filed.deeds filed.run filed.old filed.new [] calls filed.files filed.size refl filed.calls_are kept
        (λ i. within_refl (held_on before i))

    same : s'.arrays ≡ arrays
    same = run_same rules filed.apart (opening arrays) (held_on before) labels s' all.table all.run

-- WITHIN A RUN

module _ (rules : Rules) (content : Content) (some : 0 < rules.sector_size) (base : List Call) (later earlier : List Call) (call : Call) where
  abbrev bytes : ℕ
  bytes = rules.sector_size

  -- the run up to the label of a piece that the call is of
  pub record IsCut (s : State) (t : Table) (labels : List Label) : Type 0 where
    pub first : List Label
    pub rest : List Label
    pub mid : State
    pub between : Table
    pub labels_are : labels ≡ first ++ rest
    pub run : TableRun rules s t first mid between
    pub left_so : (i : ℕ) (value : List ℕ) → IsOneOf value (left (held bytes i (content i) (under_way call ∷ earlier))) → MayBeLeft rules mid between i value
    pub remains_so : (i : ℕ) (value : List ℕ) → IsOneOf value (held bytes i (content i) (under_way call ∷ earlier)).now → MayRemain rules mid between i value

  -- here it is
  here : (s : State) (t : Table) (label : Label) (labels : List Label) (deeds : List Deed) (old new : DiskView) (calls k front : List Call) (d : HasDeed rules content some base s label deeds old new calls)
      → earlier ≡ k ++ calls → d.newest ≡ front ++ call ∷ k → IsKept bytes content earlier → IsCovering rules content some calls t → IsCut s t (label ∷ labels)
  here s t label labels deeds old new calls k front d is parts kept covering = record {
    first = [];
    rest = label ∷ labels;
    mid = s;
    between = t;
    labels_are = refl;
    run = (IsSame-refl s, λ i. refl);
    left_so = λ i value p. inr (d.on_disk.of_piece.piece, d.on_disk.of_piece.owner, d.on_disk.of_piece.at_work, (within i).left value (subst (λ (cs : List Call). IsOneOf value (left (held bytes i (content i) (under_way call ∷ cs)))) is p));
    remains_so = λ i value p. inr (d.on_disk.of_piece.piece, d.on_disk.of_piece.owner, d.on_disk.of_piece.at_work, (within i).now value (subst (λ (cs : List Call). IsOneOf value (held bytes i (content i) (under_way call ∷ cs)).now) is p));
  }
    where
      kept' : IsKept bytes content (k ++ calls)
      kept' = subst (λ (cs : List Call). IsKept bytes content cs) is kept

      called : d.mid.calls ≡ (front ++ call ∷ k) ++ old.calls
      called = d.called ∙ ap (λ (cs : List Call). cs ++ old.calls) parts

      within : (i : ℕ) → IsWithin (held bytes i (content i) (under_way call ∷ (k ++ calls))) (worked_on rules s t d.on_disk.of_piece.piece d.on_disk.of_piece.owner i)
      within i = at_work rules s d.number d.deed old d.mid d.on_disk content calls s.next_piece i (t i) (covering i) front k call called kept'

  -- it is later
  behind : (s : State) (t : Table) (label : Label) (labels : List Label) (mid : State) (calls : List Call) (one : IsBuilt rules content some s label t calls) → Step rules s label mid → IsCut mid one.table labels → IsCut s t (label ∷ labels)
  behind s t label labels mid calls one step c = record {
    first = label ∷ c.first;
    rest = c.rest;
    mid = c.mid;
    between = c.between;
    labels_are = ap (λ (ls : List Label). label ∷ ls) c.labels_are;
    run = (mid, one.table, step, one.moves, c.run);
    left_so = c.left_so;
    remains_so = c.remains_so;
  }

  not_all : (calls k : List Call) → later ++ call ∷ earlier ≡ calls → earlier ≡ k ++ calls → ⊥
  not_all calls k all is =
      let a : length (later ++ call ∷ earlier) ≡ length calls = ap (λ (cs : List Call). length cs) all in
      let b : length earlier ≡ length (k ++ calls) = ap (λ (cs : List Call). length cs) is in
      omega (arith, a, b, length-append later (call ∷ earlier), length-append k calls)

  -- the call is behind what was called so far
  abbrev GoesOn : State → List Label → List Deed → DiskView → Type 0
  GoesOn mid labels deeds new =
      (t : Table) (view : DiskView) (calls k : List Call) → Files view deeds new → view.sector_size ≡ bytes → view.calls ≡ calls ++ base → earlier ≡ k ++ calls → IsCovering rules content some calls t → IsCut mid t labels

  module _ (s : State) (t : Table) (label : Label) (labels : List Label) (mid : State) (deeds : List Deed) (old new : DiskView) (calls k all : List Call) (step : Step rules s label mid) (size_is : old.sector_size ≡ bytes)
      (was : old.calls ≡ calls ++ base) (is : new.calls ≡ all ++ base) (parts : all ≡ later ++ call ∷ earlier) (suffix : earlier ≡ k ++ calls) (kept : IsKept bytes content earlier) (covering : IsCovering rules content some calls t)
      (more : GoesOn mid labels deeds new) where
    goes_on : (calls' k' : List Call) (view : DiskView) (one : IsBuilt rules content some s label t calls') → Files view deeds new → view.sector_size ≡ bytes → view.calls ≡ calls' ++ base → earlier ≡ k' ++ calls' → IsCut s t (label ∷ labels)
    goes_on calls' k' view one files size_is' was' suffix' = behind s t label labels mid calls' one step (more one.table view calls' k' files size_is' was' suffix' one.covering)

    passed : (d : HasDeed rules content some base s label deeds old new calls) (k' : List Call) → k ≡ k' ++ d.newest → IsCut s t (label ∷ labels)
    passed d k' e =
        let suffix' : earlier ≡ k' ++ (d.newest ++ calls) = suffix ∙ ap (λ (cs : List Call). cs ++ calls) e ∙ append_assoc k' d.newest calls in
        let kept' : IsKept bytes content (d.newest ++ calls) = kept_behind bytes content k' (d.newest ++ calls) (subst (λ (cs : List Call). IsKept bytes content cs) suffix' kept) in
        goes_on (d.newest ++ calls) k' d.mid (d.builds t covering kept') d.files d.same_size d.calls_are suffix'

    by_rest : (d : HasDeed rules content some base s label deeds old new calls) (front x : List Call) → later ++ call ∷ [] ≡ front ++ x → d.newest ≡ x ++ k → IsCut s t (label ∷ labels)
    by_rest d front [] e newest = passed d [] (sym newest)
    by_rest d front (y ∷ x) e newest =
        let f = last_of front y x later call e in
        here s t label labels deeds old new calls k f.0 d suffix (newest ∙ ap (λ (cs : List Call). cs ++ k) f.1 ∙ append_assoc f.0 (call ∷ []) k) kept covering

    by_parts : (d : HasDeed rules content some base s label deeds old new calls) (front : List Call) → Parts front d.newest (later ++ call ∷ []) k → IsCut s t (label ∷ labels)
    by_parts d front (inl h) = passed d h.0 h.2
    by_parts d front (inr h) = by_rest d front h.0 h.1 h.2

    apart : (d : HasDeed rules content some base s label deeds old new calls) (front : List Call) → all ≡ front ++ (d.newest ++ calls) → front ++ d.newest ≡ (later ++ call ∷ []) ++ k
    apart d front e =
        append_cancel_right (front ++ d.newest) ((later ++ call ∷ []) ++ k) calls
        (append_assoc front d.newest calls ∙ sym e ∙ parts ∙ ap (λ (cs : List Call). later ++ call ∷ cs) suffix ∙ sym (append_assoc later (call ∷ []) (k ++ calls)) ∙ sym (append_assoc (later ++ call ∷ []) k calls))

    with_deed : (d : HasDeed rules content some base s label deeds old new calls) → IsCut s t (label ∷ labels)
    with_deed d =
        let front = all_behind d.mid deeds new base (d.newest ++ calls) all d.files d.calls_are is in
        by_parts d front.0 (apart_at front.0 d.newest (later ++ call ∷ []) k (apart d front.0 front.1))

    by_label : HasDeed rules content some base s label deeds old new calls ⊎ HasNone rules content some base s label deeds old new calls → IsCut s t (label ∷ labels)
    by_label (inl d) = with_deed d
    by_label (inr d) = goes_on calls k old (d.builds t covering) d.files size_is was suffix

  pub cut_at : (s : State) (t : Table) (labels : List Label) (s' : State) (deeds : List Deed) (run : DeedRun rules s labels s' deeds) (old new : DiskView) (calls k all : List Call) → Files old deeds new
      → old.sector_size ≡ bytes → old.calls ≡ calls ++ base → new.calls ≡ all ++ base → all ≡ later ++ call ∷ earlier → earlier ≡ k ++ calls → IsKept bytes content earlier → IsCovering rules content some calls t → IsCut s t labels
  cut_at s t [] s' deeds run old new calls k all files size_is was is parts suffix kept covering =
      let none : Files old [] new = subst (λ (ds : List Deed). Files old ds new) run.1 files in
      let same : all ≡ calls = append_cancel_right all calls base (sym is ∙ ap (λ (d : DiskView). d.calls) none ∙ was) in
      absurd (not_all calls k (sym parts ∙ same) suffix)
  cut_at s t (label ∷ labels) s' deeds run old new calls k all files size_is was is parts suffix kept covering =
      by_label s t label labels run.0 run.1 old new calls k all run.2 size_is was is parts suffix kept covering
      (λ t' view calls' k' files' size_is' was' suffix' covering'. cut_at run.0 t' labels s' run.1 run.4 view new calls' k' all files' size_is' was' is parts suffix' kept covering')
      (label_has rules content some base s label run.0 deeds run.1 old new calls run.2 run.3 files size_is was)

pub moments_are_sessions : MomentsAreSessions
moments_are_sessions rules arrays before calls labels s' later earlier call filed parts kept = (
  c.first,
  c.rest,
  end,
  c.labels_are,
  record {
    run = c.run;
    lost = line_lost rules arrays before end (under_way call ∷ earlier) same c.left_so;
    ended = line_ended rules arrays before end (under_way call ∷ earlier) same c.remains_so;
  },
)
  where
    c : IsCut rules before filed.some filed.old.calls later earlier call (opening arrays) (held_on before) labels
    c = cut_at rules before filed.some filed.old.calls later earlier call (opening arrays) (held_on before) labels s' filed.deeds filed.run filed.old filed.new [] earlier calls filed.files filed.size refl
        filed.calls_are parts (sym (append-nil earlier)) kept (λ i. within_refl (held_on before i))

    end : Moment
    end = record { machine = c.mid; table = c.between }

    same : c.mid.arrays ≡ arrays
    same = run_same rules filed.apart (opening arrays) (held_on before) c.first c.mid c.between c.run
