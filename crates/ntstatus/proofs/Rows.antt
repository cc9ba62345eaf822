-- Which codes give a status that one code alone has.
use Rattle.std.proofs.Common.{◌≡◌, ◌⊎◌, ℕ, Bool, true, false, ◌==◌, ◌&&◌, List, [], ◌∷◌, Option, map, unwrap_or, bit_and, inl, inr, refl, ◌∙◌, rules}
use Rattle.std.proofs.lemmas.Bool.{eqb-true}
use Rattle.ntstatus.specs.declared.NtStatus.{NtStatus}
use Rattle.ntstatus.specs.declared.NtStatus.TheVariants.{Success, DeviceBusy, IoDeviceError}
use Rattle.ntstatus.specs.declared.Sense.{Sense}
use Rattle.ntstatus.specs.First.{when, first_some}
use Rattle.ntstatus.specs.Table.{Row, rows, status_by, first_fit, status_of, used_sense}

-- a row that is chosen fits in its code
choice : (same fits : Bool) (here : NtStatus) (after : List (Option NtStatus)) (status : NtStatus)
    → unwrap_or (first_some (when (same && fits) here ∷ after)) IoDeviceError ≡ status
    → ((same ≡ true) × (here ≡ status)) ⊎ (unwrap_or (first_some after) IoDeviceError ≡ status)
choice true true here after status e = inl (refl, e)
choice true false here after status e = inr e
choice false fits here after status e = inr e

-- each of these rows that has the status has the code
abbrev pub HasStatusOnlyAt : NtStatus → ℕ → List Row → Type 0
HasStatusOnlyAt status code [] = Unit {0}
HasStatusOnlyAt status code (r ∷ rs) = (r.status ≡ status → r.code ≡ code) × HasStatusOnlyAt status code rs

pub fits_only_at : (status : NtStatus) (only code : ℕ) (sense : Option Sense) (rs : List Row) → (IoDeviceError ≡ status → ⊥)
    → HasStatusOnlyAt status only rs → first_fit code sense rs ≡ status → code ≡ only
fits_only_at status only code sense [] other h e = absurd (other e)
fits_only_at status only code sense (r ∷ rs) other h e =
    elim (choice (code == r.code) (r.fits_sense sense) r.status (map (status_by code sense) rs) status e) [
      | inl w ↦ eqb-true code r.code w.0 ∙ h.0 w.1
      | inr w ↦ fits_only_at status only code sense rs other h.1 w
    ]

pub success_code : (srb_status scsi_status : ℕ) (sense : Option Sense) → status_of srb_status scsi_status sense ≡ Success → bit_and srb_status 0x3F ≡ 0x01
success_code srb_status scsi_status sense e =
    fits_only_at Success 1 (bit_and srb_status 0x3F) (used_sense srb_status scsi_status sense) rows (λ n. cc) (search rules) e

pub busy_code : (srb_status scsi_status : ℕ) (sense : Option Sense) → status_of srb_status scsi_status sense ≡ DeviceBusy → bit_and srb_status 0x3F ≡ 0x05
busy_code srb_status scsi_status sense e =
    fits_only_at DeviceBusy 5 (bit_and srb_status 0x3F) (used_sense srb_status scsi_status sense) rows (λ n. cc) (search rules) e
