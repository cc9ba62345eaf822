-- What was told stays as labels and answers are taken.
use Rattle.journaled.proofs.Common.{◌≡◌, Option, Some, None, sym, ap, subst, All, AdapterView, Label, Rules, State, opening, Run, AreWhole, Answer, ManagerView, TakesAnswer, TakesLabel, IsStartedUse, JournalView, JournaledView, over, IsTold, StaysTold}

-- the machine and the adapter are the same
record IsAsItWas (old new : ManagerView) : Type 0 where
  rules : new.rules ≡ old.rules
  state : new.state ≡ old.state
  adapter : new.adapter ≡ old.adapter

as_it_was : (old new : ManagerView) → new ≡ old → IsAsItWas old new
as_it_was old new same = record { rules = ap (λ (v : ManagerView). v.rules) same; state = ap (λ (v : ManagerView). v.state) same; adapter = ap (λ (v : ManagerView). v.adapter) same }

by_answer : (old : ManagerView) (answer : Option Answer) (new : ManagerView) → TakesAnswer old answer new → IsAsItWas old new
by_answer old None new h = as_it_was old new h.1
by_answer old (Some answer) new h = record { rules = ap (λ (v : ManagerView). v.rules) h.3; state = ap (λ (v : ManagerView). v.state) h.3; adapter = ap (λ (v : ManagerView). v.adapter) h.3 }

by_label : (old : ManagerView) (label : Option Label) (new : ManagerView) → TakesLabel old label new → IsAsItWas old new
by_label old None new h = as_it_was old new h.1
by_label old (Some label) new h = record { rules = ap (λ (v : ManagerView). v.rules) h.2; state = ap (λ (v : ManagerView). v.state) h.2; adapter = ap (λ (v : ManagerView). v.adapter) h.2 }

module _ (old : JournaledView) (stack new : ManagerView) (journal : JournalView) (shown : over stack journal ≡ old) where
  stays : IsAsItWas stack new → StaysTold old (over new journal)
  stays same arrays trace told =
      let was : IsTold arrays trace (over stack journal) = subst (λ (v : JournaledView). IsTold arrays trace v) (sym shown) told in
      let run : Run stack.rules (opening arrays) trace new.state = subst (λ (s : State). Run stack.rules (opening arrays) trace s) (sym same.state) was.run in
      record {
        whole = subst (λ (r : Rules). AreWhole r arrays) (sym same.rules) was.whole;
        run = subst (λ (r : Rules). Run r (opening arrays) trace new.state) (sym same.rules) run;
        journaled = record {
          of_acts = was.journaled.of_acts;
          started = subst (λ (a : AdapterView). All (IsStartedUse trace) a.tags) (sym same.adapter) was.journaled.started;
        };
      }

  pub answer_stays : (answer : Option Answer) → TakesAnswer stack answer new → StaysTold old (over new journal)
  answer_stays answer takes = stays (by_answer stack answer new takes)

  pub label_stays : (label : Option Label) → TakesLabel stack label new → StaysTold old (over new journal)
  label_stays label takes = stays (by_label stack label new takes)
