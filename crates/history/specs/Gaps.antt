-- Histories of which some bytes were not recorded: none stand in their place, and they may have been any.
use Rattle.std.specs.Prelude.{◌≡◌, ℕ, ◌==◌, ◌&&◌, Bool, true, false, List, [], ◌∷◌, Option, Some, None, length, is_none, slice_get, if◌then◌else◌}
use Rattle.ntstatus.specs.declared.NtStatus.{NtStatus}
use Rattle.ntstatus.specs.declared.NtStatus.TheVariants.{Success}
use Rattle.machine.specs.declared.Label.{Label}
use Rattle.machine.specs.declared.Label.TheVariants.{Call, Answer}
use Rattle.machine.specs.Rules.{Rules}
use Rattle.history_laws.specs.declared.Asked.{Asked}
use Rattle.history_laws.specs.Fitting.{asked_after, brought, ends_by, fits, owed_after}
use Rattle.history_laws.specs.History.{IsExplained}

-- the label with other bytes
abbrev pub with_bytes : Label → List ℕ → Label
with_bytes (Call number q) bytes = Call number (record q { bytes = bytes })
with_bytes (Answer number status informed before) bytes = Answer number status informed bytes
with_bytes label bytes = label

abbrev pub has_none : Label → Bool
has_none (Call number q) = length q.bytes == 0
has_none (Answer number status informed bytes) = length bytes == 0
has_none _ = true

-- a label that has no bytes, with some
pub record HasOthers (label whole : Label) : Type 0 where
  pub none : has_none label ≡ true
  pub bytes : List ℕ
  pub is : whole ≡ with_bytes label bytes

-- a label, or where its bytes were not recorded the same label with some
abbrev pub IsFilled : Bool → Label → Label → Type 0
IsFilled false label whole = whole ≡ label
IsFilled true label whole = HasOthers label whole

-- label by label, for each of which it is said whether its bytes were not recorded
abbrev pub AreFilled : List Bool → List Label → List Label → Type 0
AreFilled [] [] [] = Unit {0}
AreFilled (gap ∷ gaps) (label ∷ labels) (whole ∷ wholes) = IsFilled gap label whole × AreFilled gaps labels wholes
AreFilled _ _ _ = ⊥

-- some run explains the history, with some bytes in the place of those that were not recorded
pub record IsExplainedBySome (rules : Rules) (arrays : List (List (List ℕ))) (gaps : List Bool) (history : List Label) : Type 0 where
  pub whole : List Label
  pub filled : AreFilled gaps history whole
  pub explained : IsExplained rules arrays whole

-- the number of bytes that an answer owes
abbrev pub brought_by : Option (Option Asked) → NtStatus → ℕ
brought_by (Some (Some asked)) Success = brought asked.kind asked.length
brought_by _ _ = 0

abbrev pub due_by : List (Option Asked) → Option NtStatus → ℕ → NtStatus → ℕ
due_by asked None number status = brought_by (slice_get asked number) status
due_by asked (Some owed) number status = 0

-- a label without its bytes may come, with as many as are due
abbrev pub fits_blank : Rules → List (Option Asked) → Option NtStatus → Label → Bool
fits_blank rules asked owed (Call number q) = is_none owed && (number == length asked)
fits_blank rules asked owed (Answer number status informed bytes) = ends_by asked owed number status informed (due_by asked owed number status)
fits_blank rules asked owed _ = true

abbrev pub fits_by : Bool → Rules → List (Option Asked) → Option NtStatus → Label → Bool
fits_by false rules asked owed label = fits rules asked owed label
fits_by true rules asked owed label = has_none label && fits_blank rules asked owed label

-- each label may come behind those before it, those whose bytes were not recorded with some
abbrev pub all_fit_by : Rules → List (Option Asked) → Option NtStatus → List Bool → List Label → Bool
all_fit_by rules asked owed [] [] = true
all_fit_by rules asked owed (gap ∷ gaps) (label ∷ labels) =
    if fits_by gap rules asked owed label then all_fit_by rules (asked_after rules asked owed label) (owed_after rules owed label) gaps labels else false
all_fit_by rules asked owed _ _ = false

abbrev pub all_fit_by_at_first : Rules → List Bool → List Label → Bool
all_fit_by_at_first rules gaps labels = all_fit_by rules (None ∷ []) None gaps labels
