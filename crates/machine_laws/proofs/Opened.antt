-- What is so of a call that opens a request stays so of the request.
use Rattle.machine_laws.proofs.Common.{◌≡◌, inl, inr, ℕ, Bool, true, false, List, ◌∷◌, Option, Some, None, refl, IsPermutation-sym, All-permutation, All-head, All-tail, All-cons, All-map, NtStatus, Start, Act, Fault, Return, ClientRequest, Label, Call, Device, Answer, Cancel, Pause, Resume, Remove, Surprise, Removed, Rules, OpenRequest, State, refusal, Admits, new_request, sent, given_back, held_back, beyond, as_timely, as_cancelled, Step}
use Rattle.std.specs.Prelude.{IsPermutation, All, if◌then◌else◌}

module _ (P : ℕ → ClientRequest → Type 0) where
  abbrev pub Brings : OpenRequest → Type 0
  Brings o = P o.number o.request

  back : (window : Option ℕ) (os : List OpenRequest) → All Brings os → All Brings (held_back window os)
  back None os all = all
  back (Some window) os all = All-map Brings (beyond window os) os all

  drained : (paused : Bool) (window : Option ℕ) (os : List OpenRequest) → All Brings os → All Brings (if paused then os else held_back window os)
  drained true window os all = all
  drained false window os all = back window os all

  changed : (os os' others : List OpenRequest) (o o' : OpenRequest) → IsPermutation os (o ∷ others) → IsPermutation os' (o' ∷ others) → (Brings o → Brings o') → All Brings os → All Brings os'
  changed os os' others o o' p p' mine all =
      let before : All Brings (o ∷ others) = All-permutation Brings _ _ p all in
      All-permutation Brings _ _ (IsPermutation-sym _ _ p') (All-cons Brings o' others (mine (All-head Brings o others before)) (All-tail Brings o others before))

  same : (os os' : List OpenRequest) → IsPermutation os' os → All Brings os → All Brings os'
  same os os' p all = All-permutation Brings _ _ (IsPermutation-sym _ _ p) all

  pub brings_step : (rules : Rules) (s : State) (label : Label) (s' : State) → ((number : ℕ) (q : ClientRequest) → label ≡ Call number q → refusal rules s q ≡ None → P number q)
      → All Brings s.requests → Step rules s label s' → All Brings s'.requests
  brings_step rules s (Call number q) s' calls all (inl h) = by_answer (refusal rules s q) h.1.admits
    where
      by_answer : (answer : Option NtStatus) → Admits rules s number q answer s' → All Brings s'.requests
      by_answer None a = same _ _ a.after.requests (All-cons Brings (new_request rules s number q) s.requests (calls number q refl a.not_refused) all)
      by_answer (Some status) a = same _ _ a.after.requests all
  brings_step rules s (Device (Start piece tag block)) s' calls all (inl h) = changed s.requests s'.requests h.1.others h.1.owner (sent h.1.places h.1.owner) h.1.is_open h.1.after.requests (λ k. k) all
  brings_step rules s (Device (Act piece bytes)) s' calls all (inl h) = same _ _ h.1.after.requests all
  brings_step rules s (Device (Fault piece)) s' calls all (inl h) = same _ _ h.1.after.requests all
  brings_step rules s (Device (Return piece class)) s' calls all (inl h) =
      changed s.requests s'.requests h.1.others h.1.owner (given_back h.1.piece class h.1.marks h.1.owner) h.1.is_open h.1.after.requests (λ k. k) all
  brings_step rules s (Answer number status informed bytes) s' calls all (inl h) =
      same _ _ h.1.answers.after.requests (All-tail Brings h.1.answers.request h.1.answers.others (All-permutation Brings _ _ h.1.answers.is_open all))
  brings_step rules s (Cancel number) s' calls all (inl h) = changed s.requests s'.requests h.1.others h.1.request (as_cancelled h.1.request) h.1.is_open h.1.after.requests (λ k. k) all
  brings_step rules s Pause s' calls all (inl h) = same _ _ h.1.after.requests (back rules.window s.requests all)
  brings_step rules s Resume s' calls all (inl h) = same _ _ h.1.after.requests (All-map Brings as_timely s.requests all)
  brings_step rules s Remove s' calls all (inl h) = same _ _ h.1.after.requests all
  brings_step rules s Surprise s' calls all (inl h) = same _ _ h.1.drains.requests (drained s.paused rules.window s.requests all)
  brings_step rules s Removed s' calls all (inl h) = same _ _ h.1.after.requests all
  brings_step rules s (Answer number status informed bytes) s' calls all (inr h) = same _ _ h.after.requests all
  brings_step rules s _ s' calls all (inr h) = absurd h
