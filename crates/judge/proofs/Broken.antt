-- The rule that is named of a label is one that it breaks; none is named exactly where some step goes by it.
use Rattle.std.proofs.Common.{◌≡◌, inl, inr, ℕ, List, [], ◌∷◌, Option, Some, None, refl, sym, subst}
use Rattle.std.specs.Prelude.{◌↔◌, not, is_some, IfSome, MatchOption, option_map, option_to_list, if◌then◌else◌}
use Rattle.std.specs.List.{AllByRecursion}
use Rattle.srb.specs.declared.DeviceLabel.{DeviceLabel}
use Rattle.srb.specs.declared.DeviceLabel.TheVariants as device
use Rattle.machine.specs.declared.Label.{Label}
use Rattle.machine.specs.declared.Label.TheVariants as label
use Rattle.machine.specs.Rules.{Rules}
use Rattle.machine.specs.State.{State, Owed, IsSame, opening}
use Rattle.machine.specs.Numbers.{AreDistinct}
use Rattle.machine.specs.Pieces.{ArePlaced}
use Rattle.machine.specs.Step.{FreeStep, OwingStep, Step}
use Rattle.machine.proofs.Same.{IsSame-refl, Step-same}
use Rattle.machine.proofs.Numbers.{AreDistinct-opening, AreDistinct-Run}
use Rattle.machine.proofs.Placed.{ArePlaced-opening, ArePlaced-Run}
use Rattle.trace_line.specs.declared.Line.{Line}
use Rattle.trace_line.specs.Lines.{LabelIsOf, LineStep}
use Rattle.judge.specs.declared.reading.Told.{Told}
use Rattle.judge.specs.declared.label_rules.Rule.{Rule}
use Rattle.judge.specs.declared.label_rules.Rule.TheVariants as rule
use Rattle.judge.specs.Breaking.{HasLineStep, IsReached, LineBreaks, BreaksLabel, BreaksOwed, BreaksStartOf}
use Rattle.judge.specs.Ruling.{owing_rule}
use Rattle.judge.specs.StartRuling.{starting_rule}
use Rattle.judge.specs.LabelRuling.{IsReadAs, IsDeviceRead, IsReadOf, IsToldBy, device_rule, free_rule, owed_or_free_rule, label_rule}
use Rattle.judge.specs.Next.{called, answered, repaid, started, acted, faulted, returned, cancelled, paused, resumed, drained, surprised, ended, device_after, free_after, after_of, next}
use Rattle.judge.proofs.AllPlaces.{HaveAllPlaces, HaveAllPlaces-opening, HaveAllPlaces-Run}
use Rattle.judge.proofs.Picking.{Among}
use Rattle.judge.proofs.Lines.{label_same}
use Rattle.judge.proofs.Refuting.{refutes}
use Rattle.judge.proofs.Named.{calls_named, cancels_named, pauses_named, resumes_named, removes_named, surprises_named, ends_named, answers_named, owed_named}
use Rattle.judge.proofs.NamedPieces.{acts_named, faults_named, returns_named}
use Rattle.judge.proofs.NamedStarts.{StartsTo, AllStart, starts_named}
use Rattle.judge.proofs.Complete.{steps_found}

-- a rule of one kind as a rule
lifted : {R : Type 0} (wrap : R → Rule) (P Q : Type 0) (B : R → Type 0) (C : Rule → Type 0) (x : Option R) → MatchOption x P B → (P → Q) → ((r : R) → B r → C (wrap r)) → MatchOption (option_map wrap x) Q C
lifted wrap P Q B C None h f g = f h
lifted wrap P Q B C (Some r) h f g = g r h

module _ (rules : Rules) (s : State) (d : AreDistinct s) (whole : HaveAllPlaces rules s) (placed : ArePlaced s) (told : Told) where
  -- the step by a label, of the request that is told
  abbrev StepTold : Label → State → Type 0
  StepTold l s' = Step rules s l s' × LabelIsOf s s' l told.owner

  abbrev Goes : Label → Type 0
  Goes l = (s' : State) × StepTold l s'

  abbrev BreaksTold : Label → Rule → Type 0
  BreaksTold l r = BreaksLabel rules s l told.owner r

  module _ (e : s.owed ≡ None) where
    free_of : (l : Label) → ((s' : State) → LabelIsOf s s' l told.owner) → (s' : State) × FreeStep rules s l s' → Goes l
    free_of l is h = (h.0, (inl (rw e refl, h.1), is h.0))

    start_goes : (number tag : ℕ) (block : List ℕ) (is : IsReadAs block told.read) → AllStart rules s whole told.owner number tag block told.read is → Goes (label.Device (device.Start number tag block))
    start_goes number tag block is h = (h.0.0, (inl (rw e refl, h.0.1.0), h.0.1.1))

    device_named : (l : DeviceLabel) → IsDeviceRead l told.read → MatchOption (device_rule rules s told l) (Goes (label.Device l)) (BreaksTold (label.Device l))
    device_named (device.Start number tag block) is =
        lifted rule.Start _ _ _ (BreaksTold (label.Device (device.Start number tag block))) _ (starts_named rules s whole told.owner number tag block told.read is)
        (start_goes number tag block is) (λ r h. h)
    device_named (device.Act number bytes) is =
        lifted rule.Act _ _ _ (BreaksTold (label.Device (device.Act number bytes))) _ (acts_named rules s d whole placed number bytes) (free_of (label.Device (device.Act number bytes)) (λ t. tt)) (λ r h. h)
    device_named (device.Fault number) is =
        lifted rule.Act _ _ _ (BreaksTold (label.Device (device.Fault number))) _ (faults_named rules s d whole placed number) (free_of (label.Device (device.Fault number)) (λ t. tt)) (λ r h. h)
    device_named (device.Return number class) is =
        lifted rule.Return _ _ _ (BreaksTold (label.Device (device.Return number class))) _ (returns_named rules s d whole placed number class) (free_of (label.Device (device.Return number class)) (λ t. tt)) (λ r h. h)

    free_named : (l : Label) → IsReadOf l told.read → MatchOption (free_rule rules s told l) (Goes l) (BreaksTold l)
    free_named (label.Call number q) is = lifted rule.Call _ _ _ (BreaksTold (label.Call number q)) _ (calls_named rules s number q) (free_of (label.Call number q) (λ t. tt)) (λ r h. h)
    free_named (label.Device l) is = device_named l is
    free_named (label.Answer number status informed bytes) is =
        lifted rule.Answer _ _ _ (BreaksTold (label.Answer number status informed bytes)) _ (answers_named rules s d number status informed bytes)
        (free_of (label.Answer number status informed bytes) (λ t. tt)) (λ r h. (e, h))
    free_named (label.Cancel number) is = lifted rule.Cancel _ _ _ (BreaksTold (label.Cancel number)) _ (cancels_named rules s d number) (free_of (label.Cancel number) (λ t. tt)) (λ r h. h)
    free_named label.Pause is = lifted rule.Removal _ _ _ (BreaksTold label.Pause) _ (pauses_named rules s) (free_of label.Pause (λ t. tt)) (λ r h. h)
    free_named label.Resume is = lifted rule.Removal _ _ _ (BreaksTold label.Resume) _ (resumes_named rules s) (free_of label.Resume (λ t. tt)) (λ r h. h)
    free_named label.Remove is = lifted rule.Removal _ _ _ (BreaksTold label.Remove) _ (removes_named rules s) (free_of label.Remove (λ t. tt)) (λ r h. h)
    free_named label.Surprise is = lifted rule.Removal _ _ _ (BreaksTold label.Surprise) _ (surprises_named rules s) (free_of label.Surprise (λ t. tt)) (λ r h. h)
    free_named label.Removed is = lifted rule.Removal _ _ _ (BreaksTold label.Removed) _ (ends_named rules s) (free_of label.Removed (λ t. tt)) (λ r h. h)

  -- the answer of a refused call starts no piece
  owing_is : (l : Label) (s' : State) → OwingStep s l s' → LabelIsOf s s' l told.owner
  owing_is (label.Answer number status informed bytes) s' h = tt
  owing_is _ s' h = absurd h

  owing_goes : (l : Label) → (s' : State) × OwingStep s l s' → Goes l
  owing_goes l h = (h.0, (inr h.1, owing_is l h.0 h.1))

  label_named : (l : Label) → IsReadOf l told.read → MatchOption (label_rule rules s told l) (Goes l) (BreaksTold l)
  label_named l is = by s.owed refl
    where
      by : (owed : Option Owed) → s.owed ≡ owed → MatchOption (owed_or_free_rule rules s told l owed) (Goes l) (BreaksTold l)
      by None e = free_named e l is
      by (Some owed) e = lifted rule.Owed ((s' : State) × OwingStep s l s') (Goes l) (BreaksOwed s l) (BreaksTold l) (owing_rule owed l) (owed_named rules s owed e l)
          (owing_goes l) (λ r h. h)

  -- EACH STATE THAT IS FOUND

  -- where some step goes, and one state at most is found, it goes there
  one_at_most : (l : Label) (s1 : State) → StepTold l s1 → (o : Option State) → Among (IsSame s1) (option_to_list o) → AllByRecursion (StepTold l) (option_to_list o)
  one_at_most l s1 step None found = absurd found
  one_at_most l s1 step (Some t) (inl same) = ((Step-same rules l s s s1 t (IsSame-refl s) same step.0, label_same s s s1 t (IsSame-refl s) same l told.owner step.1), tt)
  one_at_most l s1 step (Some t) (inr found) = absurd found

  none_of : {R : Type 0} (wrap : R → Rule) (x : Option R) → option_map wrap x ≡ None → x ≡ None
  none_of wrap None e = refl
  none_of wrap (Some r) e = cc (e)

  start_all : s.owed ≡ None → (number tag : ℕ) (block : List ℕ) → IsReadAs block told.read → starting_rule rules s number tag told.owner told.read ≡ None
      → AllByRecursion (StepTold (label.Device (device.Start number tag block))) (started rules s tag told.owner told.read)
  start_all e number tag block is none =
      each (started rules s tag told.owner told.read)
      (subst (λ x. MatchOption x (AllStart rules s whole told.owner number tag block told.read is) (BreaksStartOf rules s told.owner number tag block)) none (starts_named rules s whole told.owner number tag block told.read is)).1
    where
      each : (ts : List State) → AllByRecursion (StartsTo rules s whole told.owner number tag block) ts → AllByRecursion (StepTold (label.Device (device.Start number tag block))) ts
      each [] h = tt
      each (t ∷ ts) h = ((inl (rw e refl, h.0.0), h.0.1), each ts h.1)

  device_all : s.owed ≡ None → (l : DeviceLabel) → IsDeviceRead l told.read → device_rule rules s told l ≡ None → (s1 : State) → StepTold (label.Device l) s1 → Among (IsSame s1) (device_after rules told s l)
      → AllByRecursion (StepTold (label.Device l)) (device_after rules told s l)
  device_all e (device.Start number tag block) is none s1 step found = start_all e number tag block is (none_of rule.Start (starting_rule rules s number tag told.owner told.read) none)
  device_all e (device.Act number bytes) is none s1 step found = one_at_most (label.Device (device.Act number bytes)) s1 step (acted rules s number bytes) found
  device_all e (device.Fault number) is none s1 step found = one_at_most (label.Device (device.Fault number)) s1 step (faulted s number) found
  device_all e (device.Return number class) is none s1 step found = one_at_most (label.Device (device.Return number class)) s1 step (returned s number class) found

  free_all : s.owed ≡ None → (l : Label) → IsReadOf l told.read → free_rule rules s told l ≡ None → (s1 : State) → StepTold l s1 → Among (IsSame s1) (free_after rules told s l)
      → AllByRecursion (StepTold l) (free_after rules told s l)
  free_all e (label.Call number q) is none s1 step found = one_at_most (label.Call number q) s1 step (Some (called rules s q)) found
  free_all e (label.Device l) is none s1 step found = device_all e l is none s1 step found
  free_all e (label.Answer number status informed bytes) is none s1 step found = one_at_most (label.Answer number status informed bytes) s1 step (answered s number) found
  free_all e (label.Cancel number) is none s1 step found = one_at_most (label.Cancel number) s1 step (cancelled s number) found
  free_all e label.Pause is none s1 step found = one_at_most label.Pause s1 step (Some (paused rules s)) found
  free_all e label.Resume is none s1 step found = one_at_most label.Resume s1 step (Some (resumed s)) found
  free_all e label.Remove is none s1 step found = one_at_most label.Remove s1 step (Some (drained s)) found
  free_all e label.Surprise is none s1 step found = one_at_most label.Surprise s1 step (Some (surprised rules s)) found
  free_all e label.Removed is none s1 step found = one_at_most label.Removed s1 step (Some (ended s)) found

  label_all : (l : Label) → IsReadOf l told.read → label_rule rules s told l ≡ None → (s1 : State) → StepTold l s1 → AllByRecursion (StepTold l) (after_of rules told s l s.owed)
  label_all l is none s1 step = by s.owed refl none (steps_found rules s d whole s1 told l is step.0 step.1)
    where
      by : (owed : Option Owed) → s.owed ≡ owed → owed_or_free_rule rules s told l owed ≡ None → Among (IsSame s1) (after_of rules told s l owed) → AllByRecursion (StepTold l) (after_of rules told s l owed)
      by None e none found = free_all e l is none s1 step found
      by (Some owed) e none found = one_at_most l s1 step (Some (repaid s)) found

-- what is known of a state that labels lead to
pub record IsWell (rules : Rules) (s : State) : Type 0 where
  pub distinct : AreDistinct s
  pub placed : ArePlaced s
  pub whole : HaveAllPlaces rules s

is_well : (rules : Rules) (s : State) → IsReached rules s → IsWell rules s
is_well rules s reached = record {
  distinct = AreDistinct-Run rules (opening reached.0) reached.1 s (AreDistinct-opening reached.0) reached.2;
  placed = ArePlaced-Run rules (opening reached.0) reached.1 s (AreDistinct-opening reached.0) (ArePlaced-opening reached.0) reached.2;
  whole = HaveAllPlaces-Run rules (opening reached.0) reached.1 s (AreDistinct-opening reached.0) (ArePlaced-opening reached.0) (HaveAllPlaces-opening rules reached.0) reached.2;
}

module _ (rules : Rules) (s : State) (line : Line) (told : Told) (is : IsToldBy line told) (reached : IsReached rules s) where
  named : MatchOption (label_rule rules s told line.label) (HasLineStep rules s line) (LineBreaks rules s line)
  named =
      let well : IsWell rules s = is_well rules s reached in
      by (label_rule rules s told line.label)
      (subst (λ o. MatchOption (label_rule rules s told line.label) ((s' : State) × (Step rules s line.label s' × LabelIsOf s s' line.label o)) (BreaksLabel rules s line.label o))
      is.owner (label_named rules s well.distinct well.whole well.placed told line.label is.read))
    where
      by : (x : Option Rule) → MatchOption x ((s' : State) × (Step rules s line.label s' × LabelIsOf s s' line.label line.owner)) (BreaksLabel rules s line.label line.owner)
          → MatchOption x (HasLineStep rules s line) (LineBreaks rules s line)
      by None h = (h.0, record { step = h.1.0; is_of = h.1.1 })
      by (Some r) h = h

  pub exactly : (label_rule rules s told line.label ≡ None) ↔ HasLineStep rules s line
  exactly = by (label_rule rules s told line.label) named
    where
      by : (x : Option Rule) → MatchOption x (HasLineStep rules s line) (LineBreaks rules s line) → (x ≡ None) ↔ HasLineStep rules s line
      by None h = (λ e. h, λ step. refl)
      by (Some r) h = (λ e. cc (e), λ step. absurd (refutes rules s line r h step.0 step.1))

  pub breaks : IfSome (label_rule rules s told line.label) (λ r. LineBreaks rules s line r)
  breaks = by (label_rule rules s told line.label) named
    where
      by : (x : Option Rule) → MatchOption x (HasLineStep rules s line) (LineBreaks rules s line) → IfSome x (λ r. LineBreaks rules s line r)
      by None h = tt
      by (Some r) h = h

  -- each state that is found is one that a step leads to
  pub all_next : AllByRecursion (LineStep rules s line) (next rules told line.label s)
  all_next = by (label_rule rules s told line.label) refl
    where
      each : (ts : List State) → AllByRecursion (λ t. Step rules s line.label t × LabelIsOf s t line.label told.owner) ts → AllByRecursion (LineStep rules s line) ts
      each [] h = tt
      each (t ∷ ts) h = (record { step = h.0.0; is_of = subst (λ o. LabelIsOf s t line.label o) is.owner h.0.1 }, each ts h.1)

      by : (x : Option Rule) → label_rule rules s told line.label ≡ x → AllByRecursion (LineStep rules s line) (if not (is_some x) then after_of rules told s line.label s.owed else [])
      by (Some r) e = tt
      by None e =
          let well : IsWell rules s = is_well rules s reached in
          let step : HasLineStep rules s line = exactly.0 e in
          each (after_of rules told s line.label s.owed)
          (label_all rules s well.distinct well.whole well.placed told line.label is.read e step.0 (step.1.step, subst (λ o. LabelIsOf s step.0 line.label o) (sym is.owner) step.1.is_of))

  -- and each state that a step leads to is found
  pub all_found : (s' : State) → LineStep rules s line s' → Among (IsSame s') (next rules told line.label s)
  all_found s' step = by (label_rule rules s told line.label) (exactly.1 (s', step))
    where
      by : (x : Option Rule) → x ≡ None → Among (IsSame s') (if not (is_some x) then after_of rules told s line.label s.owed else [])
      by (Some r) e = cc (e)
      by None e =
          let well : IsWell rules s = is_well rules s reached in
          steps_found rules s well.distinct well.whole s' told line.label is.read step.step (subst (λ o. LabelIsOf s s' line.label o) (sym is.owner) step.is_of)
