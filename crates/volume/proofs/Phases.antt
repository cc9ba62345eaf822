-- A request alone: what quiet labels make of it.
use Rattle.volume.proofs.Common.{◌≡◌, ◌<◌, ◌≤◌, ◌⊎◌, inl, inr, ℕ, Bool, true, false, List, [], ◌∷◌, Option, Some, refl, sym, ◌∙◌, ap, subst, arith, length, All, Contains, IsPermutation, IsNone, IsTrue, IsFalse, All-nil, All-cons, All-head, All-tail, All-contains, IsPermutation-sym, length_permutation, All-permutation, NtStatus, DeviceLabel, Write, ClientRequest, Label, Rules, place_count, OpenRequest, Owed, State, IsSame, Answers, sent, given_back, partition_number, IsSolo, IsSoloAt, LeavesAlone, DeviceStep, OwingStep, Step, Run, IsSame-refl, IsSame-sym, none_there, Sometime, IsWriteAt, IsQuiet, answers_of, IsPlaceOf}
use Rattle.srb.specs.declared.DeviceLabel.TheVariants.{Start, Act, Fault, Return}
use Rattle.machine.specs.declared.Label.TheVariants.{Call, Device, Answer, Cancel, Pause, Resume, Remove, Surprise, Removed}
use Rattle.machine_laws.specs.Sectors.{WritesSector, sector_of}

-- ONE REQUEST

-- the first of a list of one, in any order
pub sole_first : (o : OpenRequest) (xs : List OpenRequest) (x : OpenRequest) (others : List OpenRequest) → xs ≡ o ∷ [] → IsPermutation xs (x ∷ others) → x ≡ o
sole_first o xs x others e p =
    let P : OpenRequest → Type 0 = λ y. y ≡ o in
    let all : All P xs = subst (λ ys. All P ys) (sym e) (All-cons P o [] refl (All-nil P)) in
    All-head P x others (All-permutation P xs (x ∷ others) p all)

empty_of : {X : Type 0} (ys : List X) → length ys ≡ 0 → ys ≡ []
empty_of [] e = refl
empty_of (y ∷ ys) e = absurd (omega arith)

pub sole_others : (o : OpenRequest) (xs : List OpenRequest) (x : OpenRequest) (others : List OpenRequest) → xs ≡ o ∷ [] → IsPermutation xs (x ∷ others) → others ≡ []
sole_others o xs x others e p =
    let n : length (x ∷ others) ≡ length xs = length_permutation xs (x ∷ others) p in
    let one : length xs ≡ 1 = ap length e in
    empty_of others (omega arith)

-- so is a list in another order
pub single : {X : Type 0} (xs : List X) (x : X) → IsPermutation xs (x ∷ []) → xs ≡ x ∷ []
single {X} [] x p = let n : length (x ∷ []) ≡ 0 = length_permutation [] (x ∷ []) p in absurd (omega arith)
single {X} (y ∷ []) x p =
    let P : X → Type 0 = λ z. z ≡ x in
    let all : All P (y ∷ []) = All-permutation P (x ∷ []) (y ∷ []) (IsPermutation-sym (y ∷ []) (x ∷ []) p) (All-cons P x [] refl (All-nil P)) in
    let e : y ≡ x = All-head P y [] all in ap (λ z. z ∷ []) e
single {X} (y ∷ z ∷ zs) x p = let n : length (x ∷ []) ≡ length (y ∷ z ∷ zs) = length_permutation (y ∷ z ∷ zs) (x ∷ []) p in absurd (omega arith)

-- what is open where the one request is
pub of_sole : (P : OpenRequest → Type 0) (o : OpenRequest) (xs : List OpenRequest) → xs ≡ o ∷ [] → P o → All P xs
of_sole P o xs e h = subst (λ ys. All P ys) (sym e) (All-cons P o [] h (All-nil P))

pub none_in : {X : Type 0} (xs : List X) (x : X) → xs ≡ [] → Contains xs x → ⊥
none_in {X} xs x e c = All-contains (λ (y : X). ⊥) xs x (subst (λ ys. All (λ (y : X). ⊥) ys) (sym e) (All-nil (λ (y : X). ⊥))) c

pub none_first : {X : Type 0} (xs : List X) (x : X) (others : List X) → xs ≡ [] → IsPermutation xs (x ∷ others) → ⊥
none_first xs x others e p = let h : x ∷ others ≡ [] = none_there xs (x ∷ others) e p in cc

-- THE TWO PHASES

-- the one open request is this one
pub record IsWorking (number : ℕ) (q : ClientRequest) (s : State) : Type 0 where
  pub o : OpenRequest
  pub one : s.requests ≡ o ∷ []
  pub is_number : o.number ≡ number
  pub asks : o.request ≡ q
  pub none_owed : IsNone s.owed
  pub not_paused : IsFalse s.paused
  pub not_removing : IsFalse s.removing

-- none is open
pub record IsOver (s : State) : Type 0 where
  pub none_open : s.requests ≡ []
  pub none_owed : IsNone s.owed
  pub not_paused : IsFalse s.paused
  pub not_removing : IsFalse s.removing

-- at each state of the run but the last
abbrev pub AlwaysWorking : (number : ℕ) (q : ClientRequest) (rules : Rules) (s : State) (labels : List Label) (s' : State) → Run rules s labels s' → Type 0
AlwaysWorking number q rules s [] s' run = IsWorking number q s
AlwaysWorking number q rules s (label ∷ labels) s' run = IsWorking number q s × AlwaysWorking number q rules run.0 labels s' run.2

-- from a state that works, with the same flags and the one request
working_after : (number : ℕ) (q : ClientRequest) (s t s' : State) (o' : OpenRequest) → IsWorking number q s → IsSame s' t → t.requests ≡ o' ∷ [] → o'.number ≡ number → o'.request ≡ q
    → t.owed ≡ s.owed → t.paused ≡ s.paused → t.removing ≡ s.removing → IsWorking number q s'
working_after number q s t s' o' w same one is_number asks owed paused removing = record {
  o = o';
  one = single s'.requests o' (subst (λ ys. IsPermutation s'.requests ys) one same.requests);
  is_number = is_number;
  asks = asks;
  none_owed = subst (λ x. IsNone x) (sym (same.owed ∙ owed)) w.none_owed;
  not_paused = same.paused ∙ paused ∙ w.not_paused;
  not_removing = same.removing ∙ removing ∙ w.not_removing;
}

over_after : (s t s' : State) → IsNone s.owed → IsFalse s.paused → IsFalse s.removing → IsSame s' t → t.requests ≡ [] → t.owed ≡ s.owed → t.paused ≡ s.paused → t.removing ≡ s.removing → IsOver s'
over_after s t s' none not_paused not_removing same empty owed paused removing = record {
  none_open = none_there t.requests s'.requests empty (IsPermutation-sym s'.requests t.requests same.requests);
  none_owed = subst (λ x. IsNone x) (sym (same.owed ∙ owed)) none;
  not_paused = same.paused ∙ paused ∙ not_paused;
  not_removing = same.removing ∙ removing ∙ not_removing;
}

-- WHILE IT WORKS

module _ (number : ℕ) (q : ClientRequest) (rules : Rules) where
  working_device : (s : State) (label : DeviceLabel) (s' : State) → IsWorking number q s → DeviceStep rules s label s' → IsWorking number q s'
  working_device s (Start piece tag block) s' w h =
      let first : h.owner ≡ w.o = sole_first w.o s.requests h.owner h.others w.one h.is_open in
      let none : h.others ≡ [] = sole_others w.o s.requests h.owner h.others w.one h.is_open in
      working_after number q s _ s' (sent h.places h.owner) w h.after (ap (λ rest. sent h.places h.owner ∷ rest) none) (ap (λ o. o.number) first ∙ w.is_number)
      (ap (λ o. o.request) first ∙ w.asks) refl refl refl
  working_device s (Act piece bytes) s' w h = working_after number q s _ s' w.o w h.after w.one w.is_number w.asks refl refl refl
  working_device s (Fault piece) s' w h = working_after number q s _ s' w.o w h.after w.one w.is_number w.asks refl refl refl
  working_device s (Return piece class) s' w h =
      let first : h.owner ≡ w.o = sole_first w.o s.requests h.owner h.others w.one h.is_open in
      let none : h.others ≡ [] = sole_others w.o s.requests h.owner h.others w.one h.is_open in
      working_after number q s _ s' (given_back h.piece class h.marks h.owner) w h.after (ap (λ rest. given_back h.piece class h.marks h.owner ∷ rest) none) (ap (λ o. o.number) first ∙ w.is_number)
      (ap (λ o. o.request) first ∙ w.asks) refl refl refl

  -- its answer ends it
  working_answer : (s : State) (r : ℕ) (status : NtStatus) (bytes : List ℕ) (s' : State) → IsWorking number q s → (h : Answers rules s r status bytes s') → (r ≡ number) × IsOver s'
  working_answer s r status bytes s' w h =
      let first : h.request ≡ w.o = sole_first w.o s.requests h.request h.others w.one h.is_open in (
        sym h.is_number ∙ ap (λ o. o.number) first ∙ w.is_number,
        over_after s _ s' w.none_owed w.not_paused w.not_removing h.after (sole_others w.o s.requests h.request h.others w.one h.is_open) refl refl refl,
      )

-- ONCE IT IS OVER

false_is_not_true : {b : Bool} → IsFalse b → IsTrue b → ⊥
false_is_not_true f t = let e : false ≡ true = sym f ∙ t in cc

module _ (rules : Rules) where
  over_device : (s : State) (label : DeviceLabel) (s' : State) → IsOver s → DeviceStep rules s label s' → IsOver s' × (s'.arrays ≡ s.arrays)
  over_device s (Start piece tag block) s' v h = absurd (none_first s.requests h.owner h.others v.none_open h.is_open)
  over_device s (Act piece bytes) s' v h = absurd (none_in s.requests h.owner v.none_open h.is_open)
  over_device s (Fault piece) s' v h = (over_after s _ s' v.none_owed v.not_paused v.not_removing h.after v.none_open refl refl refl, h.after.arrays)
  over_device s (Return piece class) s' v h = absurd (none_first s.requests h.owner h.others v.none_open h.is_open)

  owing_not : (s : State) (label : Label) (s' : State) → IsNone s.owed → OwingStep s label s' → ⊥
  owing_not s (Answer r status informed bytes) s' none h = let e : IsNone {T = Owed} (Some (record { number = r; status = status })) = subst (λ (x : Option Owed). IsNone x) h.is_owed none in cc
  owing_not s _ s' none h = h

  -- nothing is answered, and no array changes
  step_over : (s : State) (label : Label) (s' : State) → IsOver s → IsQuiet label → Step rules s label s' → IsOver s' × (s'.arrays ≡ s.arrays) × ((labels : List Label) → answers_of (label ∷ labels) ≡ answers_of labels)
  step_over s label s' v quiet (inr h) = absurd (owing_not s label s' v.none_owed h)
  step_over s (Device label) s' v quiet (inl h) = let d : IsOver s' × (s'.arrays ≡ s.arrays) = over_device s label s' v h.1 in (d.0, d.1, λ labels. refl)
  step_over s (Answer r status informed bytes) s' v quiet (inl h) = absurd (none_first s.requests h.1.answers.request h.1.answers.others v.none_open h.1.answers.is_open)
  step_over s Removed s' v quiet (inl h) = absurd (false_is_not_true v.not_removing h.1.is_removing)
  step_over s (Call r asked) s' v quiet (inl h) = absurd quiet
  step_over s (Cancel r) s' v quiet (inl h) = absurd quiet
  step_over s Pause s' v quiet (inl h) = absurd quiet
  step_over s Resume s' v quiet (inl h) = absurd quiet
  step_over s Remove s' v quiet (inl h) = absurd quiet
  step_over s Surprise s' v quiet (inl h) = absurd quiet

  pub run_over : (s : State) (labels : List Label) (s' : State) → IsOver s → All IsQuiet labels → Run rules s labels s' → IsOver s' × (s'.arrays ≡ s.arrays) × (answers_of labels ≡ [])
  run_over s [] s' v quiet run = (over_after s s s' v.none_owed v.not_paused v.not_removing (IsSame-sym s s' run) v.none_open refl refl refl, sym run.arrays, refl)
  run_over s (label ∷ labels) s' v quiet run =
      let one : IsOver run.0 × (run.0.arrays ≡ s.arrays) × ((ls : List Label) → answers_of (label ∷ ls) ≡ answers_of ls) = step_over s label run.0 v (All-head IsQuiet label labels quiet) run.1 in
      let more : IsOver s' × (s'.arrays ≡ run.0.arrays) × (answers_of labels ≡ []) = run_over run.0 labels s' one.0 (All-tail IsQuiet label labels quiet) run.2 in
      (more.0, more.1 ∙ one.1, one.2 labels ∙ more.2)

-- HOW MANY COMMANDS WERE SENT

device_rises : (rules : Rules) (s : State) (label : DeviceLabel) (s' : State) → DeviceStep rules s label s' → s.next_piece ≤ s'.next_piece
device_rises rules s (Start piece tag block) s' h = rw h.after.next_piece (omega arith)
device_rises rules s (Act piece bytes) s' h = rw h.after.next_piece (omega arith)
device_rises rules s (Fault piece) s' h = rw h.after.next_piece (omega arith)
device_rises rules s (Return piece class) s' h = rw h.after.next_piece (omega arith)

step_rises : (rules : Rules) (s : State) (label : Label) (s' : State) → IsQuiet label → Step rules s label s' → s.next_piece ≤ s'.next_piece
step_rises rules s (Device label) s' quiet (inl h) = device_rises rules s label s' h.1
step_rises rules s (Answer r status informed bytes) s' quiet (inl h) = rw h.1.answers.after.next_piece (omega arith)
step_rises rules s (Answer r status informed bytes) s' quiet (inr h) = rw h.after.next_piece (omega arith)
step_rises rules s Removed s' quiet (inl h) = rw h.1.after.next_piece (omega arith)
step_rises rules s (Device label) s' quiet (inr h) = absurd h
step_rises rules s Removed s' quiet (inr h) = absurd h
step_rises rules s (Call r asked) s' quiet h = absurd quiet
step_rises rules s (Cancel r) s' quiet h = absurd quiet
step_rises rules s Pause s' quiet h = absurd quiet
step_rises rules s Resume s' quiet h = absurd quiet
step_rises rules s Remove s' quiet h = absurd quiet
step_rises rules s Surprise s' quiet h = absurd quiet

pub quiet_rises : (rules : Rules) (s : State) (labels : List Label) (s' : State) → All IsQuiet labels → Run rules s labels s' → s.next_piece ≤ s'.next_piece
quiet_rises rules s [] s' quiet run = rw run.next_piece (omega arith)
quiet_rises rules s (label ∷ labels) s' quiet run =
    let one : s.next_piece ≤ run.0.next_piece = step_rises rules s label run.0 (All-head IsQuiet label labels quiet) run.1 in
    let more : run.0.next_piece ≤ s'.next_piece = quiet_rises rules run.0 labels s' (All-tail IsQuiet label labels quiet) run.2 in
    omega arith

-- FROM ITS CALL ON

-- a label of the adapter's
abbrev pub IsDevice : Label → Type 0
IsDevice (Device label) = Unit {0}
IsDevice _ = ⊥

-- it was answered on the way
pub record IsServed (number : ℕ) (q : ClientRequest) (rules : Rules) (s : State) (labels : List Label) (s' : State) : Type 0 where
  pub between : List Label
  pub status : NtStatus
  pub informed : ℕ
  pub bytes : List ℕ
  pub ended : State
  pub after : State
  pub run : Run rules s between ended
  pub working : AlwaysWorking number q rules s between ended run
  pub devices : All IsDevice between
  pub answers : Answers rules ended number status bytes after
  pub told : answers_of labels ≡ Answer number status informed bytes ∷ []
  pub over : IsOver s'
  pub arrays : s'.arrays ≡ after.arrays
  pub commands : after.next_piece ≤ s'.next_piece

module _ (number : ℕ) (q : ClientRequest) (rules : Rules) where
  abbrev Outcome : (s : State) (labels : List Label) (s' : State) → Type 0
  Outcome s labels s' = (IsWorking number q s' × (answers_of labels ≡ [])) ⊎ IsServed number q rules s labels s'

  -- a label of the device before it
  one_more : (s : State) (label : DeviceLabel) (labels : List Label) (mid s' : State) → IsWorking number q s → Step rules s (Device label) mid → Outcome mid labels s' → Outcome s (Device label ∷ labels) s'
  one_more s label labels mid s' w step (inl h) = inl (h.0, h.1)
  one_more s label labels mid s' w step (inr h) = inr (record {
    between = Device label ∷ h.between;
    status = h.status;
    informed = h.informed;
    bytes = h.bytes;
    ended = h.ended;
    after = h.after;
    run = (mid, step, h.run);
    working = (w, h.working);
    devices = All-cons IsDevice (Device label) h.between tt h.devices;
    answers = h.answers;
    told = h.told;
    over = h.over;
    arrays = h.arrays;
    commands = h.commands;
  })

  answered : (s : State) (r : ℕ) (status : NtStatus) (informed : ℕ) (bytes : List ℕ) (labels : List Label) (mid s' : State) → IsWorking number q s → Answers rules s r status bytes mid
      → All IsQuiet labels → Run rules mid labels s' → IsServed number q rules s (Answer r status informed bytes ∷ labels) s'
  answered s r status informed bytes labels mid s' w h quiet run =
      let ends : (r ≡ number) × IsOver mid = working_answer number q rules s r status bytes mid w h in
      let rest : IsOver s' × (s'.arrays ≡ mid.arrays) × (answers_of labels ≡ []) = run_over rules mid labels s' ends.1 quiet run in
      record {
        between = [];
        status = status;
        informed = informed;
        bytes = bytes;
        ended = s;
        after = mid;
        run = IsSame-refl s;
        working = w;
        devices = All-nil IsDevice;
        answers = subst (λ n. Answers rules s n status bytes mid) ends.0 h;
        told = ap (λ ls. Answer r status informed bytes ∷ ls) rest.2 ∙ ap (λ n. Answer n status informed bytes ∷ []) ends.0;
        over = rest.0;
        arrays = rest.1;
        commands = quiet_rises rules mid labels s' quiet run;
      }

  by_label : (s : State) (label : Label) (labels : List Label) (mid s' : State) → IsWorking number q s → IsQuiet label → Step rules s label mid → All IsQuiet labels → Run rules mid labels s'
      → (IsWorking number q mid → Outcome mid labels s') → Outcome s (label ∷ labels) s'
  by_label s label labels mid s' w still (inr h) quiet run on = absurd (owing_not rules s label mid w.none_owed h)
  by_label s (Device label) labels mid s' w still (inl h) quiet run on = one_more s label labels mid s' w (inl h) (on (working_device number q rules s label mid w h.1))
  by_label s (Answer r status informed bytes) labels mid s' w still (inl h) quiet run on = inr (answered s r status informed bytes labels mid s' w h.1.answers quiet run)
  by_label s Removed labels mid s' w still (inl h) quiet run on = absurd (false_is_not_true w.not_removing h.1.is_removing)
  by_label s (Call r asked) labels mid s' w still (inl h) quiet run on = absurd still
  by_label s (Cancel r) labels mid s' w still (inl h) quiet run on = absurd still
  by_label s Pause labels mid s' w still (inl h) quiet run on = absurd still
  by_label s Resume labels mid s' w still (inl h) quiet run on = absurd still
  by_label s Remove labels mid s' w still (inl h) quiet run on = absurd still
  by_label s Surprise labels mid s' w still (inl h) quiet run on = absurd still

  -- it goes on, or was answered and nothing changed since
  pub run_working : (s : State) (labels : List Label) (s' : State) → IsWorking number q s → All IsQuiet labels → Run rules s labels s' → Outcome s labels s'
  run_working s [] s' w quiet run = inl (working_after number q s s s' w.o w (IsSame-sym s s' run) w.one w.is_number w.asks refl refl refl, refl)
  run_working s (label ∷ labels) s' w quiet run =
      by_label s label labels run.0 s' w (All-head IsQuiet label labels quiet) run.1 (All-tail IsQuiet label labels quiet) run.2
      (λ v. run_working run.0 labels s' v (All-tail IsQuiet label labels quiet) run.2)

  -- WHAT ITS RUN TELLS

  alone : (s : State) → IsWorking number q s → IsSoloAt rules number q s
  alone s w = of_sole (LeavesAlone rules number q) w.o s.requests w.one (λ other. absurd (other w.is_number))

  pub always_alone : (s : State) (labels : List Label) (s' : State) (run : Run rules s labels s') → AlwaysWorking number q rules s labels s' run → IsSolo rules number q s labels s' run
  always_alone s [] s' run w = alone s w
  always_alone s (label ∷ labels) s' run w = (alone s w.0, always_alone run.0 labels s' run.2 w.1)

  pub works_last : (s : State) (labels : List Label) (s' : State) (run : Run rules s labels s') → AlwaysWorking number q rules s labels s' run → IsFalse s'.removing
  works_last s [] s' run w = sym run.removing ∙ w.not_removing
  works_last s (label ∷ labels) s' run w = works_last run.0 labels s' run.2 w.1

  -- a sector that is written is one of its own
  written_here : (p i : ℕ) (s : State) (label : Label) (s' : State) → IsWorking number q s → IsWriteAt rules p i s label s' → (q.kind ≡ Write) × IsPlaceOf rules q p i
  written_here p i s label s' w at =
      let h : WritesSector rules at.0 p i s label s' = at.1 in
      let P : OpenRequest → Type 0 = λ o. o.request ≡ q in
      let e : h.act.owner.request ≡ q = All-contains P s.requests h.act.owner (of_sole P w.o s.requests w.one w.asks) h.act.is_open in (
        sym (ap (λ r. r.kind) e) ∙ h.is_write,
        record { on_partition = sym (ap partition_number e) ∙ h.on_partition; place = h.place; is_sector = sym (ap (λ r. sector_of rules r h.place) e) ∙ h.is_sector; inside = subst (λ r. h.place < place_count rules r) e h.in_request },
      )

  pub written_at : (p i : ℕ) (s : State) (labels : List Label) (s' : State) (run : Run rules s labels s') → AlwaysWorking number q rules s labels s' run
      → Sometime (IsWriteAt rules p i) rules s labels s' run → (q.kind ≡ Write) × IsPlaceOf rules q p i
  written_at p i s [] s' run w never = absurd never
  written_at p i s (label ∷ labels) s' run w (inl now) = written_here p i s label run.0 w.0 now
  written_at p i s (label ∷ labels) s' run w (inr later) = written_at p i run.0 labels s' run.2 w.1 later
