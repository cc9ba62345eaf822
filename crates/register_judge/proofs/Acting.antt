-- Turns of forms that stand.
use Rattle.std.proofs.Common.{◌≡◌, inl, inr, ℕ, Bool, true, false, List, [], Option, Some, None, refl, subst}
use Rattle.std.specs.Prelude.{if◌then◌else◌}
use Rattle.std.proofs.lemmas.Bool.{and_parts, and_from}
use Rattle.register.specs.Schedules.{Event, seen_of, unrecorded}
use Rattle.register_judge.specs.declared.states.Waiting.{Waiting}
use Rattle.register_judge.specs.declared.states.How.TheVariants.{Act, Any, Hide, Leave}
use Rattle.register_judge.specs.inside.States.{Form, gather, is_met, meets, turned, bound, leave, take_any}
use Rattle.register_judge.proofs.Listing.{Has, gather_there, gather_from}
use Rattle.register_judge.proofs.Turning.{turn_from, Fits}
use Rattle.register_judge.proofs.Reaching.{Split, Stands}
use Rattle.register_judge.proofs.Standing.{stands_act, seen_act, acted_past, stands_hide, seen_hide, hidden_past}

-- the form is that after events of the same sights
pub record Reached (start last : ℕ) (numbers : List ℕ) (past : List Event) (f : Form) : Type 0 where
  pub events : List Event
  pub seen : seen_of events ≡ seen_of past
  pub stands : Stands start last numbers events f

no_true : {X : Type 0} → false ≡ true → X
no_true e = absurd (cc (e))

module _ (start last : ℕ) (numbers : List ℕ) (past : List Event) (f : Form) (s : Stands start last numbers past f) (w : Waiting) (has_w : Has f.waits w) (writes_w : w.writes ≡ true) (v : ℕ) (fits : Fits w v) where
  pub reached_act : Reached start last numbers past (turned (turn_from Act w.number v) f)
  reached_act = record {
    events = acted_past start last numbers past f s w has_w writes_w v fits Act v f.waits (λ o. refl) (λ o h. h) (λ o h m. (h, m)) (λ o h m. m);
    seen = seen_act start last numbers past f s w has_w writes_w v fits Act v f.waits (λ o. refl) (λ o h. h) (λ o h m. (h, m)) (λ o h m. m);
    stands = stands_act start last numbers past f s w has_w writes_w v fits Act v f.waits (λ o. refl) (λ o h. h) (λ o h m. (h, m)) (λ o h m. m);
  }

  -- meeting none
  pub reached_any : Reached start last numbers past (bound v (turned (take_any w.number) f))
  reached_any = record {
    events = acted_past start last numbers past f s w has_w writes_w v fits Any unrecorded [] (λ o. refl) (λ o h. absurd h) (λ o h m. no_true m) (λ o h m. absurd h);
    seen = seen_act start last numbers past f s w has_w writes_w v fits Any unrecorded [] (λ o. refl) (λ o h. absurd h) (λ o h m. no_true m) (λ o h m. absurd h);
    stands = stands_act start last numbers past f s w has_w writes_w v fits Any unrecorded [] (λ o. refl) (λ o h. absurd h) (λ o h m. no_true m) (λ o h m. absurd h);
  }

  module _ (old_w : w.is_old ≡ true) (split : Split past f.waits) where
    abbrev old_of : Waiting → Option Waiting
    old_of o = if o.is_old then Some o else None

    abbrev olds : List Waiting
    olds = gather old_of [] f.waits

    olds_from : (o : Waiting) → Has olds o → Has f.waits o × (o.is_old ≡ true)
    olds_from o h = elim (gather_from old_of [] f.waits o h) [ inl none ↦ absurd none | inr (x, has, e) ↦ by x has x.is_old refl e ]
      where
        by : (x : Waiting) → Has f.waits x → (b : Bool) → x.is_old ≡ b → (if b then Some x else None) ≡ Some o → Has f.waits o × (o.is_old ≡ true)
        by x has true is e = let same : x ≡ o = cc (e) in subst (λ (y : Waiting). Has f.waits y × (y.is_old ≡ true)) same (has, is)
        by x has false is e = absurd (cc (e))

    met_old : (o : Waiting) → Has f.waits o → meets Hide v o ≡ true → Has olds o × (is_met v o ≡ true)
    met_old o has met =
        let parts : (o.is_old ≡ true) × (is_met v o ≡ true) = and_parts o.is_old (is_met v o) met in
        (gather_there old_of [] f.waits o o has (rw parts.0 refl), parts.1)

    old_met : (o : Waiting) → Has olds o → is_met v o ≡ true → meets Hide v o ≡ true
    old_met o h met = and_from o.is_old (is_met v o) (olds_from o h).1 met

    pub reached_hide : Reached start last numbers past (turned (turn_from Hide w.number v) f)
    reached_hide = record {
      events = hidden_past start last numbers past f s w has_w writes_w v fits old_w split Hide v olds (λ o. refl) olds_from met_old old_met;
      seen = seen_hide start last numbers past f s w has_w writes_w v fits old_w split Hide v olds (λ o. refl) olds_from met_old old_met;
      stands = stands_hide start last numbers past f s w has_w writes_w v fits old_w split Hide v olds (λ o. refl) olds_from met_old old_met;
    }

    -- meeting none
    pub reached_fade : Reached start last numbers past (turned (leave w.number) f)
    reached_fade = record {
      events = hidden_past start last numbers past f s w has_w writes_w v fits old_w split Leave unrecorded [] (λ o. refl) (λ o h. absurd h) (λ o h m. no_true m) (λ o h m. absurd h);
      seen = seen_hide start last numbers past f s w has_w writes_w v fits old_w split Leave unrecorded [] (λ o. refl) (λ o h. absurd h) (λ o h m. no_true m) (λ o h m. absurd h);
      stands = stands_hide start last numbers past f s w has_w writes_w v fits old_w split Leave unrecorded [] (λ o. refl) (λ o h. absurd h) (λ o h m. no_true m) (λ o h m. absurd h);
    }
