-- Once a removal has ended nothing of the device comes.
use Rattle.compose.proofs.Common.{◌≡◌, ◌⊎◌, inl, inr, ℕ, true, false, List, [], ◌∷◌, ◌++◌, Option, Some, None, refl, sym, ◌∙◌, ap, subst, append_assoc, All-tail, NtStatus, DeviceLabel, ClientRequest, Label, Rules, State, IsSame, opening, refusal, Admits, DeviceStep, FreeStep, OwingStep, Step, Run, Run-append, RunsSplit, IsNotOfDevice, RemovedIsLast, RunsAreQuietOnceRemoved}
use Rattle.std.specs.Prelude.{IsTrue, All}
use Rattle.srb.specs.declared.DeviceLabel.TheVariants.{Start, Act, Fault, Return}
use Rattle.machine.specs.declared.Label.TheVariants.{Call, Device, Answer, Cancel, Pause, Resume, Remove, Surprise, Removed}

-- A REMOVAL THAT HAS ENDED HAS ITS LABEL

same : (s' t : State) → IsSame s' t → IsTrue s'.removed → IsTrue t.removed
same s' t h gone = sym h.removed ∙ gone

record HasRemoved (labels : List Label) : Type 0 where
  pub first : List Label
  pub last : List Label
  pub split : labels ≡ first ++ Removed ∷ last

module _ (rules : Rules) where
  by_call : (s : State) (number : ℕ) (q : ClientRequest) (answer : Option NtStatus) (s' : State) → Admits rules s number q answer s' → IsTrue s'.removed → IsTrue s.removed
  by_call s number q None s' h gone = same s' _ h.after gone
  by_call s number q (Some status) s' h gone = same s' _ h.after gone

  by_device : (s : State) (label : DeviceLabel) (s' : State) → DeviceStep rules s label s' → IsTrue s'.removed → IsTrue s.removed
  by_device s (Start number tag block) s' h gone = same s' _ h.after gone
  by_device s (Act number bytes) s' h gone = same s' _ h.after gone
  by_device s (Fault number) s' h gone = same s' _ h.after gone
  by_device s (Return number class) s' h gone = same s' _ h.after gone

  by_free : (s : State) (label : Label) (s' : State) → FreeStep rules s label s' → IsTrue s'.removed → IsTrue s.removed ⊎ (label ≡ Removed)
  by_free s (Call number q) s' h gone = inl (by_call s number q (refusal rules s q) s' h.admits gone)
  by_free s (Device label) s' h gone = inl (by_device s label s' h gone)
  by_free s (Answer number status informed bytes) s' h gone = inl (same s' _ h.answers.after gone)
  by_free s (Cancel number) s' h gone = inl (same s' _ h.after gone)
  by_free s Pause s' h gone = inl (same s' _ h.after gone)
  by_free s Resume s' h gone = inl (same s' _ h.after gone)
  by_free s Remove s' h gone = inl (same s' _ h.after gone)
  by_free s Surprise s' h gone = inl (same s' _ h.drains gone)
  by_free s Removed s' h gone = inr refl

  by_owing : (s : State) (label : Label) (s' : State) → OwingStep s label s' → IsTrue s'.removed → IsTrue s.removed
  by_owing s (Answer number status informed bytes) s' h gone = same s' _ h.after gone
  by_owing s _ s' h gone = absurd h

  by_step : (s : State) (label : Label) (s' : State) → Step rules s label s' → IsTrue s'.removed → IsTrue s.removed ⊎ (label ≡ Removed)
  by_step s label s' (inl h) gone = by_free s label s' h.1 gone
  by_step s label s' (inr h) gone = inl (by_owing s label s' h gone)

  by_run : (s : State) (labels : List Label) (s' : State) → Run rules s labels s' → IsTrue s'.removed → IsTrue s.removed ⊎ HasRemoved labels
  by_run s [] s' run gone = inl (run.removed ∙ gone)
  by_run s (label ∷ labels) s' run gone = either (by_run run.0 labels s' run.2 gone)
    where
      now : IsTrue s.removed ⊎ (label ≡ Removed) → IsTrue s.removed ⊎ HasRemoved (label ∷ labels)
      now (inl h) = inl h
      now (inr is) = inr (record { first = []; last = labels; split = ap (λ l. l ∷ labels) is })

      either : IsTrue run.0.removed ⊎ HasRemoved labels → IsTrue s.removed ⊎ HasRemoved (label ∷ labels)
      either (inl h) = now (by_step s label run.0 run.1 h)
      either (inr h) = inr (record { first = label ∷ h.first; last = h.last; split = ap (λ ls. label ∷ ls) h.split })

-- NOTHING OF THE DEVICE AFTER IT

behind : (xs ys : List Label) → All IsNotOfDevice (xs ++ ys) → All IsNotOfDevice ys
behind [] ys h = h
behind (x ∷ xs) ys h = behind xs ys (All-tail IsNotOfDevice x (xs ++ ys) h)

module _ (removed : RemovedIsLast) (splits : RunsSplit) where
  after_end : (rules : Rules) (arrays : List (List (List ℕ))) (labels first last : List Label) (s' : State) → labels ≡ first ++ Removed ∷ last → Run rules (opening arrays) labels s'
      → All IsNotOfDevice last
  after_end rules arrays labels first last s' e run =
      let parts : (mid : State) × Run rules (opening arrays) first mid × Run rules mid (Removed ∷ last) s' =
      splits rules (opening arrays) first (Removed ∷ last) s' (subst (λ ls. Run rules (opening arrays) ls s') e run) in
      let ends : Run rules parts.0 (Removed ∷ last) s' = parts.2 in
      removed rules arrays first parts.0 ends.0 last s' parts.1 ends.1 ends.2

  pub quiet_once_removed : RunsAreQuietOnceRemoved
  quiet_once_removed rules s labels s' reached run = record {
    before = λ gone. had_ended (by_run rules (opening reached.arrays) reached.labels s reached.run gone);
    among = λ first last e.
        after_end rules reached.arrays (reached.labels ++ labels) (reached.labels ++ first) last s'
        (ap (λ ls. reached.labels ++ ls) e ∙ sym (append_assoc reached.labels first (Removed ∷ last))) whole;
  }
    where
      whole : Run rules (opening reached.arrays) (reached.labels ++ labels) s'
      whole = Run-append rules (opening reached.arrays) reached.labels s labels s' reached.run run

      none_at_first : false ≡ true → ⊥
      none_at_first e = cc

      had_ended : IsTrue (opening reached.arrays).removed ⊎ HasRemoved reached.labels → All IsNotOfDevice labels
      had_ended (inl at_first) = absurd (none_at_first at_first)
      had_ended (inr h) =
          behind h.last labels
          (after_end rules reached.arrays (reached.labels ++ labels) h.first (h.last ++ labels) s'
          (ap (λ ls. ls ++ labels) h.split ∙ append_assoc h.first (Removed ∷ h.last) labels) whole)
