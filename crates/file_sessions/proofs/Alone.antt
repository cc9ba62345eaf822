-- What holds of all open requests while nothing is called.
use Rattle.std.proofs.Common.{inl, inr, ℕ, List, [], ◌∷◌}
use Rattle.std.specs.Prelude.{All, IsPermutation}
use Rattle.std.proofs.lemmas.List.Sorted.{IsPermutation-sym, All-permutation}
use Rattle.std.proofs.lemmas.List.Elements.{All-head, All-tail}
use Rattle.srb.specs.declared.DeviceLabel.TheVariants.{Start, Act, Fault, Return}
use Rattle.machine.specs.declared.ClientRequest.{ClientRequest}
use Rattle.machine.specs.declared.Label.{Label}
use Rattle.machine.specs.declared.Label.TheVariants.{Call, Device, Answer, Cancel, Pause, Resume, Remove, Surprise, Removed}
use Rattle.machine.specs.Rules.{Rules}
use Rattle.machine.specs.Sending.{given_back, sent}
use Rattle.machine.specs.State.{OpenRequest, State}
use Rattle.machine.specs.Step.{Run, Step}
use Rattle.machine.proofs.Permuting.{All-changed}
use Rattle.file_sessions.specs.OneByOne.{IsOfOne}

module _ (P : ℕ → ClientRequest → Type 0) where
  -- each open request is such a one
  abbrev pub AllOf : State → Type 0
  AllOf s = All (λ (o : OpenRequest). P o.number o.request) s.requests

  of_requests : (s : State) (xs ys : List OpenRequest) → IsPermutation xs ys → All (λ (o : OpenRequest). P o.number o.request) ys → All (λ (o : OpenRequest). P o.number o.request) xs
  of_requests s xs ys p all = All-permutation (λ (o : OpenRequest). P o.number o.request) ys xs (IsPermutation-sym _ _ p) all

  pub all_step : (rules : Rules) (s : State) (label : Label) (s' : State) → IsOfOne label → Step rules s label s' → AllOf s → AllOf s'
  all_step rules s (Device (Start number tag block)) s' of (inl h) all =
      of_requests s s'.requests _ h.1.after.requests
      (All-changed (λ (o : OpenRequest). P o.number o.request) s.requests h.1.owner (sent h.1.places h.1.owner) h.1.others h.1.is_open all (λ x. x))
  all_step rules s (Device (Act number bytes)) s' of (inl h) all = of_requests s s'.requests s.requests h.1.after.requests all
  all_step rules s (Device (Fault number)) s' of (inl h) all = of_requests s s'.requests s.requests h.1.after.requests all
  all_step rules s (Device (Return number class)) s' of (inl h) all =
      of_requests s s'.requests _ h.1.after.requests
      (All-changed (λ (o : OpenRequest). P o.number o.request) s.requests h.1.owner (given_back h.1.piece class h.1.marks h.1.owner) h.1.others h.1.is_open all (λ x. x))
  all_step rules s (Answer number status informed bytes) s' of (inl h) all =
      of_requests s s'.requests h.1.answers.others h.1.answers.after.requests
      (All-tail (λ (o : OpenRequest). P o.number o.request) h.1.answers.request h.1.answers.others
      (All-permutation (λ (o : OpenRequest). P o.number o.request) s.requests (h.1.answers.request ∷ h.1.answers.others) h.1.answers.is_open all))
  all_step rules s Removed s' of (inl h) all = of_requests s s'.requests s.requests h.1.after.requests all
  all_step rules s (Answer number status informed bytes) s' of (inr h) all = of_requests s s'.requests s.requests h.after.requests all
  all_step rules s (Device label) s' of (inr h) all = absurd h
  all_step rules s Removed s' of (inr h) all = absurd h
  all_step rules s (Call number q) s' of h all = absurd of
  all_step rules s (Cancel number) s' of h all = absurd of
  all_step rules s Pause s' of h all = absurd of
  all_step rules s Resume s' of h all = absurd of
  all_step rules s Remove s' of h all = absurd of
  all_step rules s Surprise s' of h all = absurd of

  pub all_along : (rules : Rules) (s : State) (labels : List Label) (s' : State) → All IsOfOne labels → Run rules s labels s' → AllOf s → AllOf s'
  all_along rules s [] s' of run all = All-permutation (λ (o : OpenRequest). P o.number o.request) s.requests s'.requests run.requests all
  all_along rules s (label ∷ labels) s' of run all =
      all_along rules run.0 labels s' (All-tail IsOfOne label labels of) run.2 (all_step rules s label run.0 (All-head IsOfOne label labels of) run.1 all)
