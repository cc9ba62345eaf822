-- The statuses by which an open request may fail.
use Rattle.std.proofs.Common.{◌≡◌, ◌≢◌, ◌⊎◌, inl, inr, ℕ, ◌==◌, ◌&&◌, Bool, true, false, List, [], ◌∷◌, Option, refl, sym, subst, map}
use Rattle.std.specs.Prelude.{All, unwrap_or, bit_and}
use Rattle.std.specs.List.{list_all}
use Rattle.std.proofs.lemmas.List.Elements.{All-head, All-tail}
use Rattle.ntstatus.specs.declared.NtStatus.{NtStatus}
use Rattle.ntstatus.specs.declared.NtStatus.TheVariants.{Success, IoDeviceError}
use Rattle.ntstatus.specs.declared.Sense.{Sense}
use Rattle.ntstatus.specs.First.{when, first_some}
use Rattle.ntstatus.specs.Table.{Row, rows, status_by, first_fit, used_sense}
use Rattle.srb.specs.declared.Completion.{Completion}
use Rattle.srb.specs.declared.Class.TheVariants.{Bad}
use Rattle.srb.specs.Fate.{class_of}
use Rattle.machine.specs.Rules.{Rules}
use Rattle.machine.specs.State.{Mark, Untouched, Out, Done, Failed, Back, OpenRequest, State}
use Rattle.machine.specs.Sending.{status_of_completion}
use Rattle.machine.specs.Answering.{is_done, HasCause, IsGivenUp}
use Rattle.machine.proofs.Earned.{bad_status}
use Rattle.history_laws.specs.Fitting.{is_failure}

-- the statuses of the table
abbrev is_told : NtStatus → Bool
is_told Success = true
is_told status = is_failure status

abbrev AreTold : List Row → Type 0
AreTold [] = Unit {0}
AreTold (r ∷ rs) = (is_told r.status ≡ true) × AreTold rs

by_row : (b : Bool) (status : NtStatus) (rest : List (Option NtStatus)) → is_told status ≡ true → is_told (unwrap_or (first_some rest) IoDeviceError) ≡ true
    → is_told (unwrap_or (first_some (when b status ∷ rest)) IoDeviceError) ≡ true
by_row true status rest h more = h
by_row false status rest h more = more

by_rows : (code : ℕ) (sense : Option Sense) (rs : List Row) → AreTold rs → is_told (first_fit code sense rs) ≡ true
by_rows code sense [] h = refl
by_rows code sense (r ∷ rs) h = by_row ((code == r.code) && r.fits_sense sense) r.status (map (status_by code sense) rs) h.0 (by_rows code sense rs h.1)

rows_told : AreTold rows
rows_told = (refl, (refl, (refl, (refl, (refl, (refl, (refl, (refl, (refl, (refl, (refl, tt)))))))))))

told_fails : (status : NtStatus) → is_told status ≡ true → status ≢ Success → is_failure status ≡ true
told_fails Success told other = absurd (other refl)
told_fails status told other = told

pub bad_fails : (c : Completion) → class_of c ≡ Bad c → is_failure (status_of_completion c) ≡ true
bad_fails c bad = told_fails (status_of_completion c) (by_rows (bit_and c.srb_status 0x3F) (used_sense c.srb_status c.scsi_status c.sense) rows rows_told) (bad_status c bad).0

-- a place fails by one of these
abbrev pub IsPossible : Mark → Type 0
IsPossible (Failed status) = is_failure status ≡ true
IsPossible _ = Unit {0}

given_up : (s : State) (o : OpenRequest) (status : NtStatus) → s.removing ≡ false → IsGivenUp s o status → is_failure status ≡ true
given_up s o status staying (inl h) = rw h.1 refl
given_up s o status staying (inr h) = let removing : s.removing ≡ true = h.0 in absurd (cc (staying, removing))

-- a request that has a place not done fails by one, unless a removal ends it
pub caused : (rules : Rules) (s : State) (o : OpenRequest) (marks : List Mark) (status : NtStatus) → s.removing ≡ false → All IsPossible marks → HasCause rules s o marks status
    → list_all is_done marks ≡ false → is_failure status ≡ true
caused rules s o [] status staying possible cause none = absurd (cc (none))
caused rules s o (Done sector ∷ marks) status staying possible cause none =
    caused rules s o marks status staying (All-tail IsPossible (Done sector) marks possible) cause none
caused rules s o (Failed failure ∷ marks) status staying possible cause none =
    subst (λ x. is_failure x ≡ true) (sym cause) (All-head IsPossible (Failed failure) marks possible)
caused rules s o (Untouched ∷ marks) status staying possible cause none = given_up s o status staying cause
caused rules s o (Back ∷ marks) status staying possible (inl h) none = given_up s o status staying h
caused rules s o (Back ∷ marks) status staying possible (inr h) none = rw h.1 refl
caused rules s o (Out ∷ marks) status staying possible cause none = absurd cause
