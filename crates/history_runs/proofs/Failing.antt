-- How a request ends, and the completions that make it fail so.
use Rattle.std.proofs.Common.{◌≡◌, ◌≢◌, ◌⊎◌, inl, inr, ℕ, ◌==◌, Bool, true, false, List, [], ◌∷◌, Some, None, refl, arith, ap, ◌∙◌}
use Rattle.std.specs.Prelude.{Contains, if◌then◌else◌}
use Rattle.std.proofs.lemmas.Bool.{eqb-true}
use Rattle.std.proofs.lemmas.Bool.Decides.{nat_tests}
use Rattle.ntstatus.specs.declared.NtStatus.{NtStatus}
use Rattle.ntstatus.specs.declared.NtStatus.TheVariants.{Success, Pending, DeviceBusy, InvalidHandle, InvalidParameter, NoSuchDevice, InvalidDeviceRequest, NonexistentSector, MoreProcessingRequired, DeletePending, InsufficientResources, DeviceDataError, MediaWriteProtected, DeviceNotReady, Cancelled, IoDeviceError, NotFound}
use Rattle.srb.specs.declared.Completion.{Completion}
use Rattle.srb.specs.declared.Class.TheVariants.{Bad}
use Rattle.srb.specs.Fate.{class_of}
use Rattle.machine.specs.declared.Label.{Label}
use Rattle.machine.specs.declared.Label.TheVariants.{Call, Device, Answer, Cancel, Pause, Resume, Remove, Surprise, Removed}
use Rattle.machine.specs.Sending.{status_of_completion}
use Rattle.history_laws.specs.Fitting.{is_failure}
use Rattle.history_laws.proofs.Mirroring.{further}

-- the status, if an open request may end with it, else a success
abbrev pub usable : NtStatus → NtStatus
usable Cancelled = Cancelled
usable DeviceBusy = DeviceBusy
usable InvalidDeviceRequest = InvalidDeviceRequest
usable NoSuchDevice = NoSuchDevice
usable DeviceNotReady = DeviceNotReady
usable DeviceDataError = DeviceDataError
usable NonexistentSector = NonexistentSector
usable MediaWriteProtected = MediaWriteProtected
usable IoDeviceError = IoDeviceError
usable _ = Success

-- what the request of this number will be answered
abbrev pub ending : ℕ → List Label → NtStatus
ending n [] = Success
ending n (Answer number status informed bytes ∷ labels) = if number == n then usable status else ending n labels
ending n (_ ∷ labels) = ending n labels

pub record FailsBy (status : NtStatus) : Type 0 where
  pub completion : Completion
  pub is_bad : class_of completion ≡ Bad completion
  pub is_status : status_of_completion completion ≡ status
  pub fails : status ≢ Success
  pub not_busy : status ≢ DeviceBusy

abbrev pub IsEnding : NtStatus → Type 0
IsEnding status = (status ≡ Success) ⊎ ((status ≡ DeviceBusy) ⊎ FailsBy status)

abbrev plain : ℕ → Completion
plain code = record { srb_status = code; scsi_status = 0; sense = None }

abbrev sensed : ℕ → ℕ → Completion
sensed key asc = record { srb_status = 0x84; scsi_status = 2; sense = Some (record { key = key; asc = asc; ascq = 0 }) }

pub usable_ends : (status : NtStatus) → IsEnding (usable status)
usable_ends Cancelled = inr (inr (record { completion = plain 0x02; is_bad = refl; is_status = refl; fails = λ e. cc (e); not_busy = λ e. cc (e) }))
usable_ends InvalidDeviceRequest = inr (inr (record { completion = plain 0x06; is_bad = refl; is_status = refl; fails = λ e. cc (e); not_busy = λ e. cc (e) }))
usable_ends NoSuchDevice = inr (inr (record { completion = plain 0x08; is_bad = refl; is_status = refl; fails = λ e. cc (e); not_busy = λ e. cc (e) }))
usable_ends DeviceNotReady = inr (inr (record { completion = sensed 2 0; is_bad = refl; is_status = refl; fails = λ e. cc (e); not_busy = λ e. cc (e) }))
usable_ends DeviceDataError = inr (inr (record { completion = sensed 3 0; is_bad = refl; is_status = refl; fails = λ e. cc (e); not_busy = λ e. cc (e) }))
usable_ends NonexistentSector = inr (inr (record { completion = sensed 5 0x21; is_bad = refl; is_status = refl; fails = λ e. cc (e); not_busy = λ e. cc (e) }))
usable_ends MediaWriteProtected = inr (inr (record { completion = sensed 7 0; is_bad = refl; is_status = refl; fails = λ e. cc (e); not_busy = λ e. cc (e) }))
usable_ends IoDeviceError = inr (inr (record { completion = plain 0x04; is_bad = refl; is_status = refl; fails = λ e. cc (e); not_busy = λ e. cc (e) }))
usable_ends Success = inl refl
usable_ends Pending = inl refl
usable_ends DeviceBusy = inr (inl refl)
usable_ends InvalidHandle = inl refl
usable_ends InvalidParameter = inl refl
usable_ends MoreProcessingRequired = inl refl
usable_ends DeletePending = inl refl
usable_ends InsufficientResources = inl refl
usable_ends NotFound = inl refl

pub ending_ends : (n : ℕ) (labels : List Label) → IsEnding (ending n labels)
ending_ends n [] = inl refl
ending_ends n (Answer number status informed bytes ∷ labels) = by_number (number == n) (ending_ends n labels)
  where
    by_number : (b : Bool) → IsEnding (ending n labels) → IsEnding (if b then usable status else ending n labels)
    by_number true rest = usable_ends status
    by_number false rest = rest
ending_ends n (_ ∷ labels) = ending_ends n labels

-- the answer of another number, and of this one
pub other_ending : (n m : ℕ) (status : NtStatus) (informed : ℕ) (bytes : List ℕ) (labels : List Label) → n ≢ m → ending m (Answer n status informed bytes ∷ labels) ≡ ending m labels
other_ending n m status informed bytes labels differ = let e : (n == m) ≡ false = grind (arith, nat_tests) in rw e refl

pub own_ending : (n m : ℕ) (status : NtStatus) (informed : ℕ) (bytes : List ℕ) (labels : List Label) → m ≡ n → ending m (Answer n status informed bytes ∷ labels) ≡ usable status
own_ending n m status informed bytes labels same = let e : (n == m) ≡ true = grind (arith, nat_tests) in rw e refl

-- what an open request may be answered
pub usable_is : (status : NtStatus) → (status ≡ Success) ⊎ (is_failure status ≡ true) → usable status ≡ status
usable_is Success h = refl
usable_is Cancelled h = refl
usable_is InvalidDeviceRequest h = refl
usable_is NoSuchDevice h = refl
usable_is DeviceNotReady h = refl
usable_is DeviceDataError h = refl
usable_is NonexistentSector h = refl
usable_is MediaWriteProtected h = refl
usable_is IoDeviceError h = refl
usable_is DeviceBusy h = refl
usable_is Pending (inl e) = cc (e)
usable_is Pending (inr e) = cc (e)
usable_is InvalidHandle (inl e) = cc (e)
usable_is InvalidHandle (inr e) = cc (e)
usable_is InvalidParameter (inl e) = cc (e)
usable_is InvalidParameter (inr e) = cc (e)
usable_is MoreProcessingRequired (inl e) = cc (e)
usable_is MoreProcessingRequired (inr e) = cc (e)
usable_is DeletePending (inl e) = cc (e)
usable_is DeletePending (inr e) = cc (e)
usable_is InsufficientResources (inl e) = cc (e)
usable_is InsufficientResources (inr e) = cc (e)
usable_is NotFound (inl e) = cc (e)
usable_is NotFound (inr e) = cc (e)

-- a request that will be answered DEVICE_BUSY has such an answer
usable_busy : (status : NtStatus) → usable status ≡ DeviceBusy → status ≡ DeviceBusy
usable_busy DeviceBusy e = refl
usable_busy _ e = absurd (cc (e))

pub busy_answer : (n : ℕ) (labels : List Label) → ending n labels ≡ DeviceBusy → (informed : ℕ) × (bytes : List ℕ) × Contains labels (Answer n DeviceBusy informed bytes)
busy_answer n [] e = absurd (cc (e))
busy_answer n (Answer number status informed bytes ∷ labels) e = by_number (number == n) refl e (busy_answer n labels)
  where
    by_number : (b : Bool) → (number == n) ≡ b → (if b then usable status else ending n labels) ≡ DeviceBusy
        → (ending n labels ≡ DeviceBusy → (informed' : ℕ) × (bytes' : List ℕ) × Contains labels (Answer n DeviceBusy informed' bytes'))
        → (informed' : ℕ) × (bytes' : List ℕ) × Contains (Answer number status informed bytes ∷ labels) (Answer n DeviceBusy informed' bytes')
    by_number true is f rest =
        let same : number ≡ n = eqb-true number n is in
        let busy : status ≡ DeviceBusy = usable_busy status f in
        (informed, bytes, (0, omega arith, ap (λ m. Answer m status informed bytes) same ∙ ap (λ s. Answer n s informed bytes) busy))
    by_number false is f rest = let r = rest f in (r.0, r.1, further (Answer number status informed bytes) labels _ r.2)
busy_answer n (Call m q ∷ labels) e = let r = busy_answer n labels e in (r.0, r.1, further (Call m q) labels _ r.2)
busy_answer n (Device label ∷ labels) e = let r = busy_answer n labels e in (r.0, r.1, further (Device label) labels _ r.2)
busy_answer n (Cancel m ∷ labels) e = let r = busy_answer n labels e in (r.0, r.1, further (Cancel m) labels _ r.2)
busy_answer n (Pause ∷ labels) e = let r = busy_answer n labels e in (r.0, r.1, further Pause labels _ r.2)
busy_answer n (Resume ∷ labels) e = let r = busy_answer n labels e in (r.0, r.1, further Resume labels _ r.2)
busy_answer n (Remove ∷ labels) e = let r = busy_answer n labels e in (r.0, r.1, further Remove labels _ r.2)
busy_answer n (Surprise ∷ labels) e = let r = busy_answer n labels e in (r.0, r.1, further Surprise labels _ r.2)
busy_answer n (Removed ∷ labels) e = let r = busy_answer n labels e in (r.0, r.1, further Removed labels _ r.2)
