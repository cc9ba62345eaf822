-- Lines that are walked one by one.
use Rattle.std.proofs.Common.{◌≡◌, ◌<◌, ◌≤◌, inl, inr, ℕ, suc, ◌+◌, List, [], ◌∷◌, ◌++◌, Option, Some, None, refl, sym, ◌∙◌, ap, subst, arith, length, get_or, map, take}
use Rattle.std.specs.Prelude.{MatchOption}
use Rattle.std.proofs.Math.Seq.{take-suc}
use Rattle.machine.specs.Rules.{Rules}
use Rattle.machine.specs.State.{State, opening}
use Rattle.trace_line.specs.declared.Line.{Line as LabelLine}
use Rattle.judge.specs.Judging.{AreLinesReached}
use Rattle.judge.specs.Following.{HasTakenLines, IsLineRefused, JudgeView, RefusesLine, TakesLine}
use Rattle.judge.specs.declared.label_rules.Rule.{Rule}
use Rattle.session_judge.specs.declared.walk.Line.{Line}
use Rattle.session_judge.specs.declared.walk.Line.TheVariants.{Told, Lost, Ended}
use Rattle.session_judge.specs.declared.walk.Stop.{Stop}
use Rattle.session_judge.specs.declared.walk.Stop.TheVariants.{Breaks, Unnamed}
use Rattle.session_judge.specs.declared.walk.Walk.{Walk}
use Rattle.session_judge.specs.declared.deeds.Deed.{Deed}
use Rattle.session_judge.specs.declared.deeds.Deed.TheVariants.{PowerLost, ProcessEnded}
use Rattle.session_judge.specs.Deeds.{cut_off, label_deeds, next_after}
use Rattle.session_judge.specs.Walks.{AreDeedsOf, Begins, Follow, IsSession}
use Rattle.session_judge.specs.inside.Walking.{BeginsAnew, GoesOn, HasWalked, IsFirst, IsStop, IsUnnamed, StopsWalk, WalksOn}
use Rattle.session_judge.proofs.Adding.{joined, no_more}

-- a list of one item
pub only_one : (xs : List State) → length xs ≡ 1 → (s : State) × (xs ≡ s ∷ [])
only_one [] e = absurd (omega (arith, e))
only_one (x ∷ []) e = (x, refl)
only_one (x ∷ (y ∷ ys)) e = absurd (omega (arith, e))

reached_by : (rules : Rules) (judge : JudgeView) (session : List LabelLine) (s : State) → judge.rules ≡ rules → HasTakenLines judge [] session → judge.states ≡ s ∷ [] → AreLinesReached rules (opening []) session (s ∷ [])
reached_by rules judge session s rules_are taken single =
    subst (λ states. AreLinesReached rules (opening []) session states) single (subst (λ r. AreLinesReached r (opening []) session judge.states) rules_are taken.reached)

told_more : (front : List Line) (session : List LabelLine) (line : LabelLine) → (front ++ map Told session) ++ Told line ∷ [] ≡ front ++ map Told (session ++ line ∷ [])
told_more front session line = joined front (map Told session) (Told line ∷ []) ∙ ap (λ all. front ++ all) (mapped session)
  where
    mapped : (xs : List LabelLine) → map Told xs ++ Told line ∷ [] ≡ map Told (xs ++ line ∷ [])
    mapped [] = refl
    mapped (x ∷ xs) = ap (λ all. Told x ∷ all) (mapped xs)

-- what these and one line more say
regrouped : (rules : Rules) (lines rest : List Line) (line : Line) (old said more new : List Deed) → new ≡ old ++ said → AreDeedsOf rules (lines ++ line ∷ rest) (old ++ (said ++ more)) → AreDeedsOf rules ((lines ++ line ∷ []) ++ rest) (new ++ more)
regrouped rules lines rest line old said more new added h =
    subst (λ all. AreDeedsOf rules all (new ++ more)) (sym (joined lines (line ∷ []) rest))
    (subst (λ all. AreDeedsOf rules (lines ++ line ∷ rest) all) (sym (joined old said more) ∙ ap (λ all. all ++ more) (sym added)) h)

pub opened : (rules : Rules) (walk : Walk) → IsFirst rules walk.judge → walk.next ≡ 1 → walk.deeds.items ≡ [] → HasWalked rules [] walk
opened rules walk first next none =
    let one : (s : State) × (walk.judge.states ≡ s ∷ []) = only_one walk.judge.states first.one in
    record {
      rules_are = first.rules_are;
      session = [];
      newest = record { front = []; ended = inl refl; split = refl };
      taken = first.taken;
      state = one.0;
      single = one.1;
      leads = λ rest more follow.
          subst (λ all. AreDeedsOf rules rest (all ++ more)) (sym none)
          (one.0, reached_by rules walk.judge [] one.0 first.rules_are first.taken one.1, subst (λ n. Follow rules [] one.0 n rest more) next follow);
    }

pub walked_told : (rules : Rules) (line : LabelLine) (old new : Walk) (said : List Deed) → TakesLine old.judge line new.judge → new.judge.rules ≡ old.judge.rules → length new.judge.states ≡ 1
    → ((s : State) → old.judge.states ≡ s ∷ [] → said ≡ label_deeds rules s old.next line.label) → new.deeds.items ≡ old.deeds.items ++ said → new.next ≡ next_after old.next line.label
    → WalksOn rules (Told line) old new
walked_told rules line old new said takes same one_left is added next = λ lines h.
    let one : (s : State) × (new.judge.states ≡ s ∷ []) = only_one new.judge.states one_left in
    let rules_are : new.judge.rules ≡ rules = same ∙ h.rules_are in
    let taken : HasTakenLines new.judge [] (h.session ++ line ∷ []) = takes [] h.session h.taken in
    record {
      rules_are = rules_are;
      session = h.session ++ line ∷ [];
      newest = record { front = h.newest.front; ended = h.newest.ended; split = ap (λ all. all ++ Told line ∷ []) h.newest.split ∙ told_more h.newest.front h.session line };
      taken = taken;
      state = one.0;
      single = one.1;
      leads = λ rest more follow.
          regrouped rules lines rest (Told line) old.deeds.items said more new.deeds.items added
          (h.leads (Told line ∷ rest) (said ++ more)
          (one.0, more, reached_by rules new.judge (h.session ++ line ∷ []) one.0 rules_are taken one.1, ap (λ all. all ++ more) (is h.state h.single), subst (λ n. Follow rules (h.session ++ line ∷ []) one.0 n rest more) next follow));
    }

-- a session begins behind this line, which says this
walked_anew : (rules : Rules) (line : Line) (end : Deed) (old new : Walk)
    → ((session : List LabelLine) (s s' : State) (n : ℕ) (rest : List Line) (more : List Deed) → Begins rules s' → Follow rules [] s' 1 rest more → Follow rules session s n (line ∷ rest) (cut_off rules s ++ end ∷ more))
    → ((lines : List Line) → IsSession (lines ++ line ∷ []) []) → BeginsAnew rules end old new → WalksOn rules line old new
walked_anew rules line end old new follows newest b = λ lines h.
    let one : (s : State) × (new.judge.states ≡ s ∷ []) = only_one new.judge.states b.judge.one in
    record {
      rules_are = b.judge.rules_are;
      session = [];
      newest = newest lines;
      taken = b.judge.taken;
      state = one.0;
      single = one.1;
      leads = λ rest more follow.
          regrouped rules lines rest line old.deeds.items (cut_off rules h.state ++ end ∷ []) more new.deeds.items (b.deeds h.state h.single)
          (h.leads (line ∷ rest) ((cut_off rules h.state ++ end ∷ []) ++ more)
          (subst (λ all. Follow rules h.session h.state old.next (line ∷ rest) all) (sym (joined (cut_off rules h.state) (end ∷ []) more))
          (follows h.session h.state one.0 old.next rest more (reached_by rules new.judge [] one.0 b.judge.rules_are b.judge.taken one.1) (subst (λ n. Follow rules [] one.0 n rest more) b.first follow))));
    }

pub walked_lost : (rules : Rules) (old new : Walk) → BeginsAnew rules PowerLost old new → WalksOn rules Lost old new
walked_lost rules old new b =
    walked_anew rules Lost PowerLost old new (λ session s s' n rest more begins follow. (s', more, begins, refl, follow))
    (λ lines. record { front = lines ++ Lost ∷ []; ended = inr (lines, inl refl); split = sym (no_more (lines ++ Lost ∷ [])) }) b

pub walked_ended : (rules : Rules) (old new : Walk) → BeginsAnew rules ProcessEnded old new → WalksOn rules Ended old new
walked_ended rules old new b =
    walked_anew rules Ended ProcessEnded old new (λ session s s' n rest more begins follow. (s', more, begins, refl, follow))
    (λ lines. record { front = lines ++ Ended ∷ []; ended = inr (lines, inr refl); split = sym (no_more (lines ++ Ended ∷ [])) }) b

pub gone_on : (rules : Rules) (line : LabelLine) (old mid new : Walk) (said : List Deed) (stop : Option Stop) → TakesLine old.judge line mid.judge → mid.judge.rules ≡ old.judge.rules → mid.deeds ≡ old.deeds
    → mid.next ≡ old.next → ((s : State) → old.judge.states ≡ s ∷ [] → said ≡ label_deeds rules s old.next line.label) → MatchOption stop (GoesOn said line.label mid new) (IsUnnamed mid new)
    → MatchOption stop (WalksOn rules (Told line) old new) (StopsWalk rules (Told line) old new)
gone_on rules line old mid new said None takes same deeds next is on =
    walked_told rules line old new said (subst (λ j. TakesLine old.judge line j) (sym on.judge) takes) (ap (λ (j : JudgeView). j.rules) on.judge ∙ same) on.one is
    (on.deeds ∙ ap (λ ds. ds.items ++ said) deeds) (on.next ∙ ap (λ n. next_after n line.label) next)
gone_on rules line old mid new said (Some why) takes same deeds next is on =
    record { kept = on.kept ∙ deeds; is = λ lines h. subst (λ w. IsStop rules lines (Told line) w) (sym on.is) tt }

-- a line that breaks a rule
pub broken : (rules : Rules) (line : LabelLine) (rule : Rule) (old new : Walk) → RefusesLine old.judge line rule → new.deeds ≡ old.deeds → StopsWalk rules (Told line) old new (Breaks rule)
broken rules line rule old new refuses kept = record {
  kept = kept;
  is = λ lines h. record {
    session = h.session;
    newest = h.newest;
    label = line;
    is_told = refl;
    refused = subst (λ r. IsLineRefused r [] h.session line rule) h.rules_are (refuses [] h.session h.taken);
  };
}

-- LINES IN A ROW

pub walked_next : (rules : Rules) (lines : List Line) (index : ℕ) (d : Line) (old new : Walk) → index < length lines → HasWalked rules (take index lines) old → WalksOn rules (get_or lines index d) old new → HasWalked rules (take (index + 1) lines) new
walked_next rules lines index d old new low h on =
    let e : index + 1 ≡ suc index = omega arith in
    let more : take (index + 1) lines ≡ take index lines ++ get_or lines index d ∷ [] = ap (λ (n : ℕ). take n lines) e ∙ take-suc lines index d low in
    subst (λ all. HasWalked rules all new) (sym more) (on (take index lines) h)

pub walked_by : (rules : Rules) (lines : List Line) (index : ℕ) (item : Line) (old new : Walk) (found : Option Stop) → index < length lines → item ≡ get_or lines index item → HasWalked rules (take index lines) old
    → MatchOption found (WalksOn rules item old new) (StopsWalk rules item old new) → found ≡ None → HasWalked rules (take (index + 1) lines) new
walked_by rules lines index item old new found low is h tells none =
    walked_next rules lines index item old new low h
    (subst (λ l. WalksOn rules l old new) is (subst (λ (f : Option Stop). MatchOption f (WalksOn rules item old new) (StopsWalk rules item old new)) none tells))

-- what they say of the disk
pub deeds_of : (rules : Rules) (lines : List Line) (walk : Walk) → HasWalked rules lines walk → AreDeedsOf rules lines walk.deeds.items
deeds_of rules lines walk h =
    subst (λ all. AreDeedsOf rules all walk.deeds.items) (no_more lines) (subst (λ all. AreDeedsOf rules (lines ++ []) all) (no_more walk.deeds.items) (h.leads [] [] refl))
