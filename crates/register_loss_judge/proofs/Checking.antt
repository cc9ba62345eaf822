-- What the tests of covering tell.
use Rattle.std.proofs.Common.{◌≡◌, inl, inr, ℕ, true, List, sym, subst}
use Rattle.std.specs.Prelude.{All}
use Rattle.std.specs.List.{list_any}
use Rattle.std.proofs.lemmas.Bool.{eqb-true}
use Rattle.loss.specs.Held.{IsOneOf, OlderOf}
use Rattle.register_loss.specs.Schedules.{is_value}
use Rattle.register_loss_judge.specs.declared.values.Older.{Older}
use Rattle.register_loss_judge.specs.declared.values.Values.{Values}
use Rattle.register_loss_judge.specs.declared.states.State.{State}
use Rattle.register_loss_judge.specs.inside.States.{form, held_of, older_of}
use Rattle.register_loss_judge.specs.inside.Covering.{Lives}
use Rattle.register_loss_search.specs.Covering.{Covers, HasDuty, HasTurn, Stays, Wider}
use Rattle.register_loss_judge.proofs.Listing.{all_one}
use Rattle.register_loss_search.proofs.Listing.{any_from, of_map, one_map}

pub value_there : (v : ℕ) (vs : List ℕ) → list_any (is_value v) vs ≡ true → IsOneOf v vs
value_there v vs e =
    let found : (u : ℕ) × IsOneOf u vs × (is_value v u ≡ true) = any_from (is_value v) vs e in
    subst (λ x. IsOneOf x vs) (eqb-true found.0 v found.2) found.1

lives_on : (one : Older) (values : Values) → Lives one values → Stays one.behind one.value (held_of values)
lives_on one values (inl h) = inl h
lives_on one values (inr (other, has, lasts)) = inr (older_of other, one_map older_of other values.older.items has, lasts.0, lasts.1)

pub held_wider : (values others : Values) → All (λ v. IsOneOf v values.current.items) others.current.items → All (λ one. Lives one values) others.older.items → Wider (held_of others) (held_of values)
held_wider values others now older = record {
  now = λ v h. all_one (λ v. IsOneOf v values.current.items) v others.current.items now h;
  older = λ o h.
      let was : (one : Older) × IsOneOf one others.older.items × (o ≡ older_of one) = of_map older_of o others.older.items h in
      subst (λ (y : OlderOf ℕ). Stays y.behind y.value (held_of values)) (sym was.2) (lives_on was.0 values (all_one (λ one. Lives one values) was.0 others.older.items older was.1));
}

pub form_covers : (state other : State) → Wider (held_of other.values) (held_of state.values) → All (λ one. HasDuty other.waits.items one) state.waits.items → All (λ one. HasTurn state.waits.items one) other.waits.items → Covers (form state) (form other)
form_covers state other held duties turns = record {
  held = held;
  waits = record {
    duties = λ one h. all_one (λ one. HasDuty other.waits.items one) one state.waits.items duties h;
    turns = λ one h. all_one (λ one. HasTurn state.waits.items one) one other.waits.items turns h;
  };
}
