-- Why a part ended with no success: with more cancelled, removed or come back, it is so still.
use Rattle.std.proofs.Common.{◌≡◌, ◌<◌, ◌≤◌, ◌⊎◌, inl, inr, ℕ, Bool, false, List, [], ◌∷◌, subst, arith, length}
use Rattle.std.specs.Prelude.{All, IsTrue}
use Rattle.class_disk.proofs.Common.{All-head, All-weaker, NtStatus, Cancelled, NoSuchDevice, Rules, Mark, Untouched, OpenRequest, State, HasCause, IsGivenUp, Progress, Outcome, IsUntouched, IsCause, IsCauseBy}
use Rattle.class_disk.specs.declared.parts.Part.{Part}
use Rattle.class_disk.specs.declared.parts.Progress.TheVariants.{Ready, Below, Ended as HasEnded}
use Rattle.class_disk.specs.declared.parts.Outcome.TheVariants.{Good, Failed as IsBad, Busy, Withdrawn}

module _ (c c' r r' : Bool) (n n' : ℕ) (f : IsTrue c → IsTrue c') (g : IsTrue r → IsTrue r') (few : n ≤ n') where
  cause_more : (outcome : Outcome) → IsCause c r n outcome → IsCause c' r' n' outcome
  cause_more Good h = tt
  cause_more (IsBad status) h = h
  cause_more (Busy told) (inl (is, t)) = inl (f is, t)
  cause_more (Busy told) (inr (inl (is, t))) = inr (inl (g is, t))
  cause_more (Busy told) (inr (inr (often, t))) = inr (inr (omega arith, t))
  cause_more (Withdrawn told) (inl (is, t)) = inl (f is, t)
  cause_more (Withdrawn told) (inr (is, t)) = inr (g is, t)

  module _ where
    by_more : (p : Progress) → IsCauseBy c r n p → IsCauseBy c' r' n' p
    by_more (Ready place) h = tt
    by_more (Below number spot) h = tt
    by_more (HasEnded ended) h = cause_more ended.outcome h

    pub causes_more : (ps : List Part) → All (λ (part : Part). IsCauseBy c r n part.progress) ps → All (λ (part : Part). IsCauseBy c' r' n' part.progress) ps
    causes_more ps h = All-weaker (λ (part : Part). IsCauseBy c r n part.progress) (λ (part : Part). IsCauseBy c' r' n' part.progress) (λ part. by_more part.progress) ps h

-- the status of a request that was never sent
pub unsent_cause : (rules : Rules) (s : State) (o : OpenRequest) (status : NtStatus) (marks : List Mark) → 0 < length marks → All IsUntouched marks → o.late ≡ false → HasCause rules s o marks status
    → (IsTrue o.cancelled × (status ≡ Cancelled)) ⊎ (IsTrue s.removing × (status ≡ NoSuchDevice))
unsent_cause rules s o status [] some all late h = absurd (omega arith)
unsent_cause rules s o status (m ∷ marks) some all late h =
    let is : m ≡ Untouched = All-head IsUntouched m marks all in
    by (subst (λ y. HasCause rules s o (y ∷ marks) status) is h)
  where
    by : IsGivenUp s o status → (IsTrue o.cancelled × (status ≡ Cancelled)) ⊎ (IsTrue s.removing × (status ≡ NoSuchDevice))
    by (inl is) = inl is
    by (inr (removing, is)) = inr (removing, rw late at is)
