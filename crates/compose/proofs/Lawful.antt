-- The labels of events that were carried out are a run, which obeys the laws of runs.
use Rattle.compose.proofs.Common.{◌≡◌, ℕ, Bool, true, false, List, [], ◌∷◌, ◌++◌, refl, sym, ◌∙◌, subst, take, Vec, IsIn, NtStatus, Success, ClientRequest, Label, Call, Rules, State, Opens, Answers, Run, IsSame-refl, Run-append, IsReached, RunsGoOn, SoloReadsHold, SoloWritesHold, FailedWritesHold, LabelsAreOfOne, StepsKeepArrays, StepsKeepSectors, AnsweredWriteNoMore, Reply, ManagerView, KeepsOutside, Event, RunStopped, Shown, IsRight, Carries, CarriesAll, StopsAfter, labels_shown, IsOfRun, IsLawful, RunsObeyLaws, RunsAreQuietOnceRemoved, opening, ActsWereAsked, AnsweredWasMoved}
use Rattle.std.specs.Prelude.{Any, Result, Ok, Err, MatchResult}
use Rattle.io_manager.specs.Right.{Told, IsRightBy, IsRight as IsRightCall}
use Rattle.compose.specs.declared.Event.TheVariants.{Open, Close, Read as ReadEvent, Write as WriteEvent, Flush as FlushEvent, CancelIoEx, Mark, QueryRemove, CancelRemove, Remove, SurpriseRemove, Act, Finish, Reset}

-- THE LAWS

module _ (moved : AnsweredWasMoved) (asked : ActsWereAsked) (reads : SoloReadsHold) (writes : SoloWritesHold) (failed : FailedWritesHold) (keeps : StepsKeepArrays) (sectors : StepsKeepSectors)
    (over : AnsweredWriteNoMore) (one : LabelsAreOfOne) (on : RunsGoOn) where
  -- the request of a run that is called and answered there
  of_one : (rules : Rules) (s : State) (labels : List Label) (s' : State) (number : ℕ) (q : ClientRequest) (status : NtStatus) (bytes : List ℕ) (before after : State)
      → (h : IsOfRun rules s labels s' number q status bytes before after) → Opens rules before number q h.called × Answers rules h.ended number status bytes after
  of_one rules s labels s' number q status bytes before after h = one rules number q status h.informed bytes before h.called h.between h.ended after h.not_refused h.calls h.run h.answers

  -- its state at its answer can be reached
  ended_reached : (rules : Rules) (s : State) (labels : List Label) (s' : State) (number : ℕ) (q : ClientRequest) (status : NtStatus) (bytes : List ℕ) (before after : State)
      → IsReached rules s → (h : IsOfRun rules s labels s' number q status bytes before after) → IsReached rules h.ended
  ended_reached rules s labels s' number q status bytes before after reached h =
      let at_call : IsReached rules before = on rules s h.first before reached h.comes in
      let called : Run rules before (Call number q ∷ []) h.called = (h.called, h.calls, IsSame-refl h.called) in
      on rules h.called h.between h.ended (on rules before (Call number q ∷ []) h.called at_call called) h.run

  pub obey : RunsObeyLaws
  obey rules s labels s' reached = record {
    answered_was_moved = λ number q bytes before after h place inside.
        moved rules number q h.informed bytes before h.called h.between h.ended after (on rules s h.first before reached h.comes) h.calls h.run h.answers place inside;
    acts_were_asked = λ begun first last label before split comes act.
        asked rules begun.arrays (begun.labels ++ first) before label begun.whole (Run-append rules (opening begun.arrays) begun.labels s first before begun.run comes) act;
    solo_reads = λ number q bytes before after h faithful is_read solo.
        let both : Opens rules before number q h.called × Answers rules h.ended number Success bytes after = of_one rules s labels s' number q Success bytes before after h in
        reads rules before faithful (on rules s h.first before reached h.comes) number q bytes after is_read
        (record { called = h.called; labels = h.between; ended = h.ended; opens = both.0; run = h.run; solo = solo; answers = both.1 });
    solo_writes = λ number q bytes before after h faithful is_write solo.
        let both : Opens rules before number q h.called × Answers rules h.ended number Success bytes after = of_one rules s labels s' number q Success bytes before after h in
        writes rules before faithful (on rules s h.first before reached h.comes) number q bytes after is_write
        (record { called = h.called; labels = h.between; ended = h.ended; opens = both.0; run = h.run; solo = solo; answers = both.1 });
    failed_writes = λ number q status bytes before after h is_write solo place inside.
        let both : Opens rules before number q h.called × Answers rules h.ended number status bytes after = of_one rules s labels s' number q status bytes before after h in
        failed rules before (on rules s h.first before reached h.comes) number q status bytes after is_write
        (record { called = h.called; labels = h.between; ended = h.ended; opens = both.0; run = h.run; solo = solo; answers = both.1 }) place inside;
    keeps_arrays = λ first last label before after split comes step goes p. keeps rules before label after step p;
    keeps_sectors = λ first last label before after split comes step goes p i. sectors rules before label after (on rules s first before reached comes) step p i;
    answered_writes = λ number q status bytes before after h p i wrote.
        let both : Opens rules before number q h.called × Answers rules h.ended number status bytes after = of_one rules s labels s' number q status bytes before after h in
        over rules h.ended number status bytes after h.last s' (ended_reached rules s labels s' number q status bytes before after reached h) both.1 h.goes p i wrote;
  }

-- EVENTS, ONE AFTER ANOTHER

-- one event more
CarriesAll-more : (old : ManagerView) (events : List Event) (shown : List Shown) (mid : ManagerView) (event : Event) (one : Shown) (new : ManagerView)
    → CarriesAll old events shown mid → Carries mid event one new → CarriesAll old (events ++ event ∷ []) (shown ++ one ∷ []) new
CarriesAll-more old [] [] mid event one new all more = (new, subst (λ (v : ManagerView). Carries v event one new) all more, refl)
CarriesAll-more old (first ∷ events) (its ∷ shown) mid event one new all more = (all.0, all.1, CarriesAll-more all.0 events shown mid event one new all.2 more)
CarriesAll-more old [] (its ∷ shown) mid event one new all more = absurd all
CarriesAll-more old (first ∷ events) [] mid event one new all more = absurd all

pub CarriesAll-pushed : (old : ManagerView) (events : List Event) (shown more : List Shown) (mid : ManagerView) (event : Event) (one : Shown) (new : ManagerView) → more ≡ shown ++ one ∷ []
    → CarriesAll old events shown mid → Carries mid event one new → CarriesAll old (events ++ event ∷ []) more new
CarriesAll-pushed old events shown more mid event one new pushed all carries =
    subst (λ (s : List Shown). CarriesAll old (events ++ event ∷ []) s new) (sym pushed) (CarriesAll-more old events shown mid event one new all carries)

-- a run and sectors that stay
record Leads (old new : ManagerView) (labels : List Label) : Type 0 where
  pub same_rules : new.rules ≡ old.rules
  pub run : Run old.rules old.state labels new.state
  pub outside : KeepsOutside old.rules.partitions old.adapter new.adapter

leads_told : (old new : ManagerView) (reset : Bool) (told : Told) → IsRightBy reset told old new → Leads old new new.labels
leads_told old new reset told by = record { same_rules = by.same_rules; run = by.run; outside = by.outside }

leads_call : (Row : Told → Type 0) (old new : ManagerView) → IsRightCall Row old new → Leads old new new.labels
leads_call Row old new h = leads_told old new false h.told h.by

leads_step : (old : ManagerView) (event : Event) (reply : Reply) (new : ManagerView) → IsRight old event reply new → Leads old new new.labels
leads_step old (Open partition) reply new h = leads_call _ old new h
leads_step old (Close handle) reply new h = leads_call _ old new h
leads_step old (ReadEvent handle offset buffer) reply new h = leads_call _ old new h
leads_step old (WriteEvent handle offset bytes through) reply new h = leads_call _ old new h
leads_step old (FlushEvent handle) reply new h = leads_call _ old new h
leads_step old (CancelIoEx handle target) reply new h = leads_call _ old new h
leads_step old (Mark number) reply new h = leads_call _ old new h
leads_step old QueryRemove reply new h = leads_call _ old new h
leads_step old CancelRemove reply new h = leads_call _ old new h
leads_step old Remove reply new h = leads_call _ old new h
leads_step old SurpriseRemove reply new h = leads_call _ old new h
leads_step old (Act tag) reply new h = leads_call _ old new h
leads_step old (Finish tag) reply new h = leads_call _ old new h
leads_step old Reset reply new h = leads_told old new true h.1.told h.1.by

leads_one : (old : ManagerView) (event : Event) (one : Shown) (new : ManagerView) → Carries old event one new → Leads old new one.labels.items
leads_one old event one new h =
    subst (λ (v : ManagerView). Leads old v one.labels.items) (sym h.taken)
    (subst (λ labels. Leads old (record h.stepped { labels = [] }) labels) (sym h.labels) (untold (leads_step old event one.reply h.stepped h.right)))
  where
    untold : Leads old h.stepped h.stepped.labels → Leads old (record h.stepped { labels = [] }) h.stepped.labels
    untold l = record { same_rules = l.same_rules; run = l.run; outside = l.outside }

leads_then : (old mid new : ManagerView) (labels more : List Label) → Leads old mid labels → Leads mid new more → Leads old new (labels ++ more)
leads_then old mid new labels more a b = record {
  same_rules = b.same_rules ∙ a.same_rules;
  run = Run-append old.rules old.state labels mid.state more new.state a.run (subst (λ rules. Run rules mid.state more new.state) a.same_rules b.run);
  outside = λ sector apart. b.outside sector (subst (λ (rules : Rules). Any (IsIn sector) rules.partitions → ⊥) (sym a.same_rules) apart) ∙ a.outside sector apart;
}

leads : (old : ManagerView) (events : List Event) (shown : List Shown) (new : ManagerView) → CarriesAll old events shown new → Leads old new (labels_shown shown)
leads old [] [] new all = subst (λ (v : ManagerView). Leads old v []) (sym all) (record { same_rules = refl; run = IsSame-refl old.state; outside = λ sector apart. refl })
leads old (event ∷ events) (one ∷ shown) new all =
    leads_then old all.0 new one.labels.items (labels_shown shown) (leads_one old event one all.0 all.1) (leads all.0 events shown new all.2)
leads old [] (one ∷ shown) new all = absurd all
leads old (event ∷ events) [] new all = absurd all

lawful : RunsObeyLaws → RunsAreQuietOnceRemoved → (old : ManagerView) (events : List Event) (shown : List Shown) (new : ManagerView) → IsReached old.rules old.state → CarriesAll old events shown new
    → IsLawful old shown new
lawful obey' quiet old events shown new reached all =
    let h : Leads old new (labels_shown shown) = leads old events shown new all in
    record {
      same_rules = h.same_rules;
      run = h.run;
      laws = obey' old.rules old.state (labels_shown shown) new.state reached;
      quiet = quiet old.rules old.state (labels_shown shown) new.state reached h.run;
      outside = h.outside;
    }

-- so does a run that stopped
pub lawful_run : RunsObeyLaws → RunsAreQuietOnceRemoved → (old : ManagerView) (events : List Event) (result : Result (Vec Shown) RunStopped) (new : ManagerView) → IsReached old.rules old.state
    → MatchResult result (λ shown. CarriesAll old events shown.items new) (λ stopped. StopsAfter old events stopped new)
    → MatchResult result (λ shown. IsLawful old shown.items new) (λ stopped. IsLawful old stopped.shown.items new)
lawful_run obey' quiet old events (Ok shown) new reached carries = lawful obey' quiet old events shown.items new reached carries
lawful_run obey' quiet old events (Err stopped) new reached carries = lawful obey' quiet old (take stopped.done events) stopped.shown.items new reached carries.carries
