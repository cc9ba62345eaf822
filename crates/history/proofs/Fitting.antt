-- How labels fit whose bytes were not recorded.
use Rattle.std.proofs.Common.{◌≡◌, ℕ, ◌-◌, ◌==◌, ◌&&◌, Bool, true, false, List, [], ◌∷◌, ◌++◌, Option, Some, None, refl, sym, ◌∙◌, ap, eq-eqb, length}
use Rattle.std.specs.Prelude.{is_none, slice_get, if◌then◌else◌}
use Rattle.std.proofs.lemmas.Bool.{and_parts, and_from}
use Rattle.ntstatus.specs.declared.NtStatus.{NtStatus}
use Rattle.ntstatus.specs.declared.NtStatus.TheVariants.{Success}
use Rattle.ntstatus.specs.Codes.{value_of}
use Rattle.machine.specs.declared.Label.{Label}
use Rattle.machine.specs.declared.Label.TheVariants.{Call, Device, Answer, Cancel, Pause, Resume, Remove, Surprise, Removed}
use Rattle.machine.specs.Rules.{Rules}
use Rattle.history_laws.specs.declared.Asked.{Asked}
use Rattle.history_laws.specs.Fitting.{refused, carried, informed_of, brought, is_failure, ends, ends_open, ends_by, fits, entry_of, asked_after, owed_after, all_fit}
use Rattle.history_laws.proofs.Fitting.{explained_fits}
use Rattle.register.specs.Values.{code}
use Rattle.history.specs.Gaps.{with_bytes, has_none, IsFilled, AreFilled, brought_by, due_by, fits_blank, fits_by, all_fit_by}
use Rattle.history.specs.Filling.{FilledFit, RefusedAreUnexplainedByAny, ExplainedBySomeFit}
use Rattle.history.proofs.Blanking.{blanks_scheduled}
use Rattle.history.proofs.Telling.{refused_unexplained}

-- so many bytes are due as some that fit
ends_due : (asked : Asked) (status : NtStatus) (informed count : ℕ) → ends asked status informed count ≡ true → ends asked status informed (brought_by (Some (Some asked)) status) ≡ true
ends_due asked Success informed count e =
    let both = and_parts (informed == informed_of asked) (count == brought asked.kind asked.length) e in
    and_from (informed == informed_of asked) _ both.0 (same (brought asked.kind asked.length))
  where
    same : (n : ℕ) → (n == n) ≡ true
    same n = eq-eqb n n refl
ends_due asked status informed count e =
    let both = and_parts (is_failure status) ((informed == 0) && (count == 0)) e in
    let sizes = and_parts (informed == 0) (count == 0) both.1 in
    and_from (is_failure status) ((informed == 0) && (0 == 0)) both.0 (and_from (informed == 0) (0 == 0) sizes.0 refl)

open_due : (found : Option (Option Asked)) (status : NtStatus) (informed count : ℕ) → ends_open found status informed count ≡ true → ends_open found status informed (brought_by found status) ≡ true
open_due None status informed count e = absurd (cc (e))
open_due (Some None) status informed count e = absurd (cc (e))
open_due (Some (Some asked)) status informed count e = ends_due asked status informed count e

answer_due : (asked : List (Option Asked)) (owed : Option NtStatus) (n : ℕ) (status : NtStatus) (informed count : ℕ) → ends_by asked owed n status informed count ≡ true
    → ends_by asked owed n status informed (due_by asked owed n status) ≡ true
answer_due asked None n status informed count e = open_due (slice_get asked n) status informed count e
answer_due asked (Some owed) n status informed count e =
    let number = and_parts (n == length asked - 1) ((value_of status == value_of owed) && ((informed == 0) && (count == 0))) e in
    let code = and_parts (value_of status == value_of owed) ((informed == 0) && (count == 0)) number.1 in
    let sizes = and_parts (informed == 0) (count == 0) code.1 in
    and_from (n == length asked - 1) ((value_of status == value_of owed) && ((informed == 0) && (0 == 0))) number.0
    (and_from (value_of status == value_of owed) ((informed == 0) && (0 == 0)) code.0 (and_from (informed == 0) (0 == 0) sizes.0 refl))

module _ (rules : Rules) (asked : List (Option Asked)) (owed : Option NtStatus) where
  -- a label that fits with some bytes does without
  blank_fits : (label : Label) (bytes : List ℕ) → fits rules asked owed (with_bytes label bytes) ≡ true → fits_blank rules asked owed label ≡ true
  blank_fits (Call n q) bytes e =
      let full = record q { bytes = bytes } in
      let free = and_parts (is_none owed) ((n == length asked) && (length bytes == carried (refused rules full) full)) e in
      let next = and_parts (n == length asked) (length bytes == carried (refused rules full) full) free.1 in
      and_from (is_none owed) (n == length asked) free.0 next.0
  blank_fits (Answer n status informed old) bytes e = answer_due asked owed n status informed (length bytes) e
  blank_fits (Device label) bytes e = refl
  blank_fits (Cancel n) bytes e = refl
  blank_fits Pause bytes e = refl
  blank_fits Resume bytes e = refl
  blank_fits Remove bytes e = refl
  blank_fits Surprise bytes e = refl
  blank_fits Removed bytes e = refl

  -- and the same is known behind it
  asked_alike : (label : Label) (bytes : List ℕ) → asked_after rules asked owed (with_bytes label bytes) ≡ asked_after rules asked owed label
  asked_alike (Call n q) bytes = ap (λ entry. asked ++ entry ∷ []) (same_entry (refused rules q))
    where
      same_entry : (answer : Option NtStatus) → entry_of answer (record q { bytes = bytes }) ≡ entry_of answer q
      same_entry None = refl
      same_entry (Some status) = refl
  asked_alike (Answer n status informed old) bytes = refl
  asked_alike (Device label) bytes = refl
  asked_alike (Cancel n) bytes = refl
  asked_alike Pause bytes = refl
  asked_alike Resume bytes = refl
  asked_alike Remove bytes = refl
  asked_alike Surprise bytes = refl
  asked_alike Removed bytes = refl

  owed_alike : (label : Label) (bytes : List ℕ) → owed_after rules owed (with_bytes label bytes) ≡ owed_after rules owed label
  owed_alike (Call n q) bytes = refl
  owed_alike (Answer n status informed old) bytes = refl
  owed_alike (Device label) bytes = refl
  owed_alike (Cancel n) bytes = refl
  owed_alike Pause bytes = refl
  owed_alike Resume bytes = refl
  owed_alike Remove bytes = refl
  owed_alike Surprise bytes = refl
  owed_alike Removed bytes = refl

  -- all of it
  label_fits : (gap : Bool) (label whole : Label) → IsFilled gap label whole → fits rules asked owed whole ≡ true
      → (fits_by gap rules asked owed label ≡ true) × (asked_after rules asked owed whole ≡ asked_after rules asked owed label) × (owed_after rules owed whole ≡ owed_after rules owed label)
  label_fits false label whole is e = (ap (fits rules asked owed) (sym is) ∙ e, ap (asked_after rules asked owed) is, ap (owed_after rules owed) is)
  label_fits true label whole h e = (
    and_from (has_none label) (fits_blank rules asked owed label) h.none (blank_fits label h.bytes (ap (fits rules asked owed) (sym h.is) ∙ e)),
    ap (asked_after rules asked owed) h.is ∙ asked_alike label h.bytes,
    ap (owed_after rules owed) h.is ∙ owed_alike label h.bytes,
  )

tested : (b c : Bool) → (if b then c else false) ≡ true → (b ≡ true) × (c ≡ true)
tested true c e = (refl, e)
tested false c e = absurd (cc (e))

all_filled : (rules : Rules) (gaps : List Bool) (history whole : List Label) (asked : List (Option Asked)) (owed : Option NtStatus) → AreFilled gaps history whole → all_fit rules asked owed whole ≡ true
    → all_fit_by rules asked owed gaps history ≡ true
all_filled rules [] [] [] asked owed filled e = refl
all_filled rules (gap ∷ gaps) (label ∷ labels) (whole ∷ wholes) asked owed filled e =
    let both = tested (fits rules asked owed whole) (all_fit rules (asked_after rules asked owed whole) (owed_after rules owed whole) wholes) e in
    let here = label_fits rules asked owed gap label whole filled.0 both.0 in
    let rest : all_fit_by rules (asked_after rules asked owed label) (owed_after rules owed label) gaps labels ≡ true =
    all_filled rules gaps labels wholes (asked_after rules asked owed label) (owed_after rules owed label) filled.1
    (ap (λ a. all_fit rules a (owed_after rules owed label) wholes) (sym here.1) ∙ ap (λ o. all_fit rules (asked_after rules asked owed whole) o wholes) (sym here.2) ∙ both.1) in
    ap (λ b. if b then all_fit_by rules (asked_after rules asked owed label) (owed_after rules owed label) gaps labels else false) here.0 ∙ rest
all_filled rules [] [] (whole ∷ wholes) asked owed filled e = absurd filled
all_filled rules [] (label ∷ labels) wholes asked owed filled e = absurd filled
all_filled rules (gap ∷ gaps) [] wholes asked owed filled e = absurd filled
all_filled rules (gap ∷ gaps) (label ∷ labels) [] asked owed filled e = absurd filled

pub filled_fits : FilledFit
filled_fits rules gaps history whole filled e = all_filled rules gaps history whole (None ∷ []) None filled e

pub refused_unexplained_by_any : RefusedAreUnexplainedByAny
refused_unexplained_by_any rules arrays gaps history p i start wide there none h =
    refused_unexplained code rules arrays h.whole p i start wide there (λ schedule. none (blanks_scheduled rules p i (code start) gaps history h.whole h.filled schedule)) h.explained

pub explained_by_some_fits : ExplainedBySomeFit
explained_by_some_fits rules arrays gaps history wide h = filled_fits rules gaps history h.whole h.filled (explained_fits rules arrays h.whole wide h.explained)
