-- The names of statuses.
use Rattle.std.proofs.Common.{◌≡◌, ◌+◌, ◌∙◌, ℕ, suc, Bool, true, false, not, List, [], ◌∷◌, Some, None, ap, arith, cond, length, nat_lt, refl, slice_get, sym}
use Rattle.std.specs.List.{position, position_or_len}
use Rattle.std.specs.Option.{option_and_then}
use Rattle.std.specs.Str.{bytes_eq}
use Rattle.std.proofs.lemmas.Slice.Eq.{bytes_eq-Decides}
use Rattle.ntstatus.specs.declared.NtStatus.{NtStatus}
use Rattle.ntstatus.specs.declared.NtStatus.TheVariants.{Success, Pending, DeviceBusy, InvalidHandle, InvalidParameter, NoSuchDevice, InvalidDeviceRequest, NonexistentSector, MoreProcessingRequired, DeletePending, InsufficientResources, DeviceDataError, MediaWriteProtected, DeviceNotReady, Cancelled, IoDeviceError, NotFound}
use Rattle.ntstatus.specs.Codes.{name_of}
use Rattle.label_text.specs.inside.Reading.{status_in, statuses}

pub status_is : (s : NtStatus) → status_in (name_of s) ≡ Some s
status_is Success = refl
status_is Pending = refl
status_is DeviceBusy = refl
status_is InvalidHandle = refl
status_is InvalidParameter = refl
status_is NoSuchDevice = refl
status_is InvalidDeviceRequest = refl
status_is NonexistentSector = refl
status_is MoreProcessingRequired = refl
status_is DeletePending = refl
status_is InsufficientResources = refl
status_is DeviceDataError = refl
status_is MediaWriteProtected = refl
status_is DeviceNotReady = refl
status_is Cancelled = refl
status_is IoDeviceError = refl
status_is NotFound = refl

-- what stands at the first place that passes a test passes it
module _ (p : NtStatus → Bool) (s : NtStatus) where
  at_place : (x : NtStatus) (xs : List NtStatus) (t : Bool) → p x ≡ t → (slice_get xs (position_or_len p xs) ≡ Some s → p s ≡ true)
      → slice_get (x ∷ xs) (cond (not t) (1 + position_or_len p xs) 0) ≡ Some s → p s ≡ true
  at_place x xs true e more h = let same : x ≡ s = cc (h) in ap p (sym same) ∙ e
  at_place x xs false e more h =
      let next : 1 + position_or_len p xs ≡ suc (position_or_len p xs) = omega arith in
      more (ap (slice_get (x ∷ xs)) (sym next) ∙ h)

  passes : (xs : List NtStatus) → slice_get xs (position_or_len p xs) ≡ Some s → p s ≡ true
  passes [] h = absurd (cc (h))
  passes (x ∷ xs) h = at_place x xs (p x) refl (passes xs) h

  found_by : (xs : List NtStatus) (at : ℕ) (t : Bool) → option_and_then (λ n. slice_get xs n) (cond t (Some at) None) ≡ Some s → slice_get xs at ≡ Some s
  found_by xs at true h = h
  found_by xs at false h = absurd (cc (h))

  pub found_passes : (xs : List NtStatus) → option_and_then (λ n. slice_get xs n) (position p xs) ≡ Some s → p s ≡ true
  found_passes xs h = passes xs (found_by xs (position_or_len p xs) (nat_lt (position_or_len p xs) (length xs)) h)

pub status_some : (word : List ℕ) (s : NtStatus) → status_in word ≡ Some s → word ≡ name_of s
status_some word s h = sym ((bytes_eq-Decides (name_of s) word).0 (found_passes (λ x. bytes_eq (name_of x) word) s statuses h))
