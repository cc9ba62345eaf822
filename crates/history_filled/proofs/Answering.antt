-- What a read that awaits its answer will be answered, in a history and in one with bytes in its gaps.
use Rattle.std.proofs.Common.{◌≡◌, ◌≢◌, ◌⊎◌, inl, inr, ℕ, ◌-◌, ◌==◌, Bool, true, false, List, [], ◌∷◌, Option, Some, None, refl, sym, ◌∙◌, ap, subst, length}
use Rattle.std.specs.Prelude.{slice_get, if◌then◌else◌}
use Rattle.std.proofs.lemmas.Bool.{and_parts, eqb-true, eq-eqb, ne_eqb, cases_eq}
use Rattle.std.proofs.lemmas.List.{nil_from_length}
use Rattle.ntstatus.specs.declared.NtStatus.{NtStatus}
use Rattle.ntstatus.specs.declared.NtStatus.TheVariants.{Success}
use Rattle.srb.specs.declared.Kind.TheVariants.{Read}
use Rattle.machine.specs.declared.ClientRequest.{ClientRequest}
use Rattle.machine.specs.declared.Label.{Label}
use Rattle.machine.specs.declared.Label.TheVariants.{Call, Device, Answer, Cancel, Pause, Resume, Remove, Surprise, Removed}
use Rattle.machine.specs.Rules.{Rules}
use Rattle.machine_laws.specs.NumberLaws.{IsNoAnswerOf}
use Rattle.history_laws.specs.declared.Asked.{Asked}
use Rattle.history_laws.specs.Fitting.{refused, asked_of, entry_of, brought, ends_by, ends_open, without, asked_after, owed_after}
use Rattle.history.specs.Sights.{success_bytes, success_of}
use Rattle.history.specs.Gaps.{has_none, fits_blank, fits_by, all_fit_by}
use Rattle.history_filled.proofs.Filling.{Content, bytes_of, read_bytes, found_bytes, answer_bytes, calls_after, filled_label, filled, IsTracked, got_more, set_other, label_fits, fit_parts}

-- the label is an answer of this number, or none
abbrev IsAnswerOf : ℕ → Label → Type 0
IsAnswerOf n label = (status : NtStatus) × (informed : ℕ) × (bytes : List ℕ) × (label ≡ Answer n status informed bytes)

answers_or_not : (n : ℕ) (label : Label) → IsAnswerOf n label ⊎ IsNoAnswerOf n label
answers_or_not n (Answer m status informed bytes) = elim (cases_eq m n) [
  | inl same ↦ inl (status, informed, bytes, ap (λ k. Answer k status informed bytes) same)
  | inr other ↦ inr other
]
answers_or_not n (Call m q) = inr tt
answers_or_not n (Device label) = inr tt
answers_or_not n (Cancel m) = inr tt
answers_or_not n Pause = inr tt
answers_or_not n Resume = inr tt
answers_or_not n Remove = inr tt
answers_or_not n Surprise = inr tt
answers_or_not n Removed = inr tt

module _ (content : Content) (rules : Rules) (sized : (p i n : ℕ) → length (content p i n) ≡ rules.sector_size) (n : ℕ) (q : ClientRequest) (is_read : q.kind ≡ Read) (taken : refused rules q ≡ None) where
  -- the read was called, and awaits its answer
  pub record Awaits (calls : List (Option ClientRequest)) (asked : List (Option Asked)) : Type 0 where
    pub called : slice_get calls n ≡ Some (Some q)
    pub waiting : slice_get asked n ≡ Some (Some (asked_of q))

  -- it succeeds in neither, or in both with the same bytes, or with none in the one and with those that fill them in the other
  abbrev pub Succeed : Option (List ℕ) → Option (List ℕ) → Type 0
  Succeed found told =
      ((found ≡ None) × (told ≡ None)) ⊎ (((bytes : List ℕ) × (length bytes ≡ q.length) × (found ≡ Some bytes) × (told ≡ Some bytes)) ⊎ ((found ≡ Some []) × (told ≡ Some (bytes_of content rules n q))))

  -- THE ANSWER ITSELF

  counted : (calls : List (Option ClientRequest)) (asked : List (Option Asked)) (owed : Option NtStatus) (informed count : ℕ) → IsTracked rules calls asked owed → Awaits calls asked
      → ends_by asked owed n Success informed count ≡ true → count ≡ q.length
  counted calls asked None informed count t w fit =
      let ends : ends_open (Some (Some (asked_of q))) Success informed count ≡ true = sym (ap (λ found. ends_open found Success informed count) w.waiting) ∙ fit in
      eqb-true count (brought q.kind q.length) (and_parts _ (count == brought q.kind q.length) ends).1 ∙ ap (λ kind. brought kind q.length) is_read
  counted calls asked (Some due) informed count t w fit =
      let last : n ≡ length asked - 1 = eqb-true n (length asked - 1) (and_parts (n == length asked - 1) _ fit).0 in
      let none : slice_get asked n ≡ Some None = ap (λ m. slice_get asked m) last ∙ (t.owing due refl).3 in
      let both : Some (Some (asked_of q)) ≡ Some None = sym w.waiting ∙ none in absurd (cc (both))

  -- what stands in the gap of an answer
  abbrev told_bytes : List (Option ClientRequest) → Bool → NtStatus → List ℕ → List ℕ
  told_bytes calls false status bytes = bytes
  told_bytes calls true status bytes = answer_bytes content rules n status (slice_get calls n)

  answered : (calls : List (Option ClientRequest)) (asked : List (Option Asked)) (owed : Option NtStatus) (gap : Bool) (status : NtStatus) (informed : ℕ) (bytes : List ℕ) → IsTracked rules calls asked owed
      → Awaits calls asked → fits_by gap rules asked owed (Answer n status informed bytes) ≡ true → Succeed (success_bytes status bytes) (success_bytes status (told_bytes calls gap status bytes))
  answered calls asked owed false Success informed bytes t w fit = inr (inl (bytes, counted calls asked owed informed (length bytes) t w fit, refl, refl))
  answered calls asked owed true Success informed bytes t w fit =
      let parts = and_parts (has_none (Answer n Success informed bytes)) (fits_blank rules asked owed (Answer n Success informed bytes)) fit in
      let none : bytes ≡ [] = nil_from_length bytes (eqb-true (length bytes) 0 parts.0) in
      inr (inr (ap Some none, ap Some (ap (found_bytes content rules n) w.called ∙ ap (λ answer. read_bytes content rules n q answer q.kind) taken ∙ ap (λ kind. read_bytes content rules n q None kind) is_read)))
  answered calls asked owed gap _ informed bytes t w fit = inl (refl, refl)

  told_now : (calls : List (Option ClientRequest)) (gap : Bool) (status : NtStatus) (informed : ℕ) (bytes : List ℕ) (later : List Label)
      → success_of n (filled_label content rules calls gap (Answer n status informed bytes) ∷ later) ≡ success_bytes status (told_bytes calls gap status bytes)
  told_now calls false status informed bytes later = ap (λ b. if b then success_bytes status bytes else success_of n later) (eq-eqb n n refl)
  told_now calls true status informed bytes later = ap (λ b. if b then success_bytes status (answer_bytes content rules n status (slice_get calls n)) else success_of n later) (eq-eqb n n refl)

  -- ANOTHER LABEL

  passed : (calls : List (Option ClientRequest)) (gap : Bool) (label : Label) (later : List Label) → IsNoAnswerOf n label → success_of n (filled_label content rules calls gap label ∷ later) ≡ success_of n later
  passed calls false (Answer m status informed bytes) later other = ap (λ b. if b then success_bytes status bytes else success_of n later) (ne_eqb m n other)
  passed calls true (Answer m status informed bytes) later other =
      ap (λ b. if b then success_bytes status (answer_bytes content rules m status (slice_get calls m)) else success_of n later) (ne_eqb m n other)
  passed calls false (Call m r) later other = refl
  passed calls true (Call m r) later other = refl
  passed calls false _ later other = refl
  passed calls true _ later other = refl

  without_other : (asked : List (Option Asked)) (owed : Option NtStatus) (m : ℕ) → m ≢ n → slice_get asked n ≡ Some (Some (asked_of q)) → slice_get (without asked owed m) n ≡ Some (Some (asked_of q))
  without_other asked None m other e = set_other asked m n (asked_of q) (λ same. other (sym same)) e
  without_other asked (Some due) m other e = e

  awaits_still : (calls : List (Option ClientRequest)) (asked : List (Option Asked)) (owed : Option NtStatus) (label : Label) → IsNoAnswerOf n label → Awaits calls asked
      → Awaits (calls_after calls label) (asked_after rules asked owed label)
  awaits_still calls asked owed (Call m r) other w = record {
    called = got_more calls (Some r) n (Some q) w.called;
    waiting = got_more asked (entry_of (refused rules r) r) n (Some (asked_of q)) w.waiting;
  }
  awaits_still calls asked owed (Answer m status informed bytes) other w = record { called = w.called; waiting = without_other asked owed m other w.waiting }
  awaits_still calls asked owed _ other w = w

  -- ALL LABELS

  pub answers : (gaps : List Bool) (labels : List Label) (calls : List (Option ClientRequest)) (asked : List (Option Asked)) (owed : Option NtStatus) → IsTracked rules calls asked owed → Awaits calls asked
      → all_fit_by rules asked owed gaps labels ≡ true → Succeed (success_of n labels) (success_of n (filled content rules calls gaps labels))
  answers [] [] calls asked owed t w fit = inl (refl, refl)
  answers [] (label ∷ labels) calls asked owed t w fit = absurd (cc (fit))
  answers (gap ∷ gaps) [] calls asked owed t w fit = absurd (cc (fit))
  answers (gap ∷ gaps) (label ∷ labels) calls asked owed t w fit =
      let parts = fit_parts content rules sized (fits_by gap rules asked owed label) _ fit in
      by_label parts.0 (answers_or_not n label) (λ other. answers gaps labels (calls_after calls label) (asked_after rules asked owed label) (owed_after rules owed label)
      (label_fits content rules sized calls asked owed gap label t parts.0).tracked (awaits_still calls asked owed label other w) parts.1)
    where
      later : List Label
      later = filled content rules (calls_after calls label) gaps labels

      is_now : (status : NtStatus) (informed : ℕ) (bytes : List ℕ) → fits_by gap rules asked owed (Answer n status informed bytes) ≡ true
          → Succeed (success_of n (Answer n status informed bytes ∷ labels)) (success_of n (filled_label content rules calls gap (Answer n status informed bytes) ∷ later))
      is_now status informed bytes fit' =
          subst (λ o. Succeed o (success_of n (filled_label content rules calls gap (Answer n status informed bytes) ∷ later))) (sym (told_now calls false status informed bytes labels))
          (subst (Succeed (success_bytes status bytes)) (sym (told_now calls gap status informed bytes later)) (answered calls asked owed gap status informed bytes t w fit'))

      by_label : fits_by gap rules asked owed label ≡ true → IsAnswerOf n label ⊎ IsNoAnswerOf n label → (IsNoAnswerOf n label → Succeed (success_of n labels) (success_of n later))
          → Succeed (success_of n (label ∷ labels)) (success_of n (filled_label content rules calls gap label ∷ later))
      by_label now (inl (status, informed, bytes, is)) rest =
          subst (λ l. Succeed (success_of n (l ∷ labels)) (success_of n (filled_label content rules calls gap l ∷ later))) (sym is)
          (is_now status informed bytes (subst (λ l. fits_by gap rules asked owed l ≡ true) is now))
      by_label now (inr other) rest =
          subst (λ o. Succeed o (success_of n (filled_label content rules calls gap label ∷ later))) (sym (passed calls false label labels other))
          (subst (Succeed (success_of n labels)) (sym (passed calls gap label later other)) (rest other))
