-- The tests decide the premises of the machine's rules.
use Rattle.std.proofs.Common.{◌≡◌, ◌≤◌, ◌⊎◌, inl, inr, ℕ, Bool, true, false, List, refl, sym, ◌∙◌, ap}
use Rattle.std.specs.Prelude.{◌==◌, ◌||◌, not, nat_lt, nat_le, IsTrue, IsFalse, All, Any, if◌then◌else◌}
use Rattle.std.specs.Bool.{Decides}
use Rattle.std.specs.List.{list_all, list_any}
use Rattle.std.proofs.lemmas.Bool.{both_ways, or_cases, or_left, or_right, not-true, not_from_false, leb-true, le-leb, ltb-true, lt-ltb, cases_Bool}
use Rattle.std.proofs.lemmas.Bool.Decides.{Decides-eqb, Decides-and, Decides-or, Decides-like, Decides-by_and}
use Rattle.std.proofs.lemmas.List.Folds.{Any-from_list_any, list_any-from_Any}
use Rattle.ntstatus.specs.declared.NtStatus.{NtStatus}
use Rattle.ntstatus.specs.declared.NtStatus.TheVariants.{Success, Pending, DeviceBusy, InvalidHandle, InvalidParameter, NoSuchDevice, InvalidDeviceRequest, NonexistentSector, MoreProcessingRequired, DeletePending, InsufficientResources, DeviceDataError, MediaWriteProtected, DeviceNotReady, Cancelled, IoDeviceError, NotFound}
use Rattle.ntstatus.specs.Codes.{value_of}
use Rattle.machine.specs.Rules.{Rules}
use Rattle.machine.specs.State.{Mark, Untouched, Out, Done, Failed, Back, OpenRequest, Piece, State}
use Rattle.machine.specs.Sending.{is_started, HasTag, IsInTurn}
use Rattle.machine.specs.Answering.{IsGivenUp, Cause, HasEnded}
use Rattle.judge.specs.Deciding.{same_truth, same_status, is_given_up, gives_up_as, is_worn_out, has_ended, is_cause, has_tag, is_in_turn}

-- TRUTHS AND STATUSES

pub decides_true : (b : Bool) → Decides b (IsTrue b)
decides_true b = (λ h. h, λ h. h)

pub decides_false : (b : Bool) → Decides (not b) (IsFalse b)
decides_false b = (λ h. not-true b h, λ h. not_from_false b h)

pub decides_leb : (m n : ℕ) → Decides (nat_le m n) (m ≤ n)
decides_leb m n = (λ h. leb-true m n h, λ h. le-leb m n h)

pub decides_truth : (a b : Bool) → Decides (same_truth a b) (a ≡ b)
decides_truth true true = (λ h. refl, λ h. refl)
decides_truth true false = (λ h. cc (h), λ h. cc (h))
decides_truth false true = (λ h. cc (h), λ h. cc (h))
decides_truth false false = (λ h. refl, λ h. refl)

-- the status of a number
abbrev status_at : ℕ → NtStatus
status_at n =
    if n == 0x00000000 then Success
    else (if n == 0x00000103 then Pending
    else (if n == 0x80000011 then DeviceBusy
    else (if n == 0xC0000008 then InvalidHandle
    else (if n == 0xC000000D then InvalidParameter
    else (if n == 0xC000000E then NoSuchDevice
    else (if n == 0xC0000010 then InvalidDeviceRequest
    else (if n == 0xC0000015 then NonexistentSector
    else (if n == 0xC0000016 then MoreProcessingRequired
    else (if n == 0xC0000056 then DeletePending
    else (if n == 0xC000009A then InsufficientResources
    else (if n == 0xC000009C then DeviceDataError
    else (if n == 0xC00000A2 then MediaWriteProtected
    else (if n == 0xC00000A3 then DeviceNotReady
    else (if n == 0xC0000120 then Cancelled
    else (if n == 0xC0000185 then IoDeviceError
    else NotFound)))))))))))))))

status_again : (a : NtStatus) → status_at (value_of a) ≡ a
status_again Success = refl
status_again Pending = refl
status_again DeviceBusy = refl
status_again InvalidHandle = refl
status_again InvalidParameter = refl
status_again NoSuchDevice = refl
status_again InvalidDeviceRequest = refl
status_again NonexistentSector = refl
status_again MoreProcessingRequired = refl
status_again DeletePending = refl
status_again InsufficientResources = refl
status_again DeviceDataError = refl
status_again MediaWriteProtected = refl
status_again DeviceNotReady = refl
status_again Cancelled = refl
status_again IoDeviceError = refl
status_again NotFound = refl

pub decides_status : (a b : NtStatus) → Decides (same_status a b) (a ≡ b)
decides_status a b =
    Decides-like (same_status a b) (λ h. sym (status_again a) ∙ ap status_at h ∙ status_again b) (λ h. ap value_of h) (Decides-eqb (value_of a) (value_of b))

-- ANSWERS

module _ (rules : Rules) (s : State) (o : OpenRequest) where
  pub decides_given_up : (status : NtStatus) → Decides (gives_up_as s o status) (IsGivenUp s o status)
  decides_given_up status = Decides-or _ _
      (Decides-and _ _ (decides_true o.cancelled) (decides_status status Cancelled))
      (Decides-and _ _ (decides_true s.removing) (decides_status status _))

  worn_out : Decides (is_worn_out rules o) (rules.busy_limit ≤ o.busy_returns)
  worn_out = decides_leb rules.busy_limit o.busy_returns

  pub decides_cause : (status : NtStatus) (mark : Mark) → Decides (is_cause rules s o status mark) (Cause rules s o mark status)
  decides_cause status Untouched = decides_given_up status
  decides_cause status Out = (λ h. cc (h), λ h. absurd h)
  decides_cause status (Done sector) = (λ h. cc (h), λ h. absurd h)
  decides_cause status (Failed failure) = decides_status status failure
  decides_cause status Back = Decides-or _ _ (decides_given_up status) (Decides-and _ _ worn_out (decides_status status DeviceBusy))

  -- a reason gives some status, and a status tells the reason
  some_status : is_given_up s o ≡ true → (status : NtStatus) × IsGivenUp s o status
  some_status h = by (or_cases o.cancelled s.removing h)
    where
      by : (o.cancelled ≡ true) ⊎ (s.removing ≡ true) → (status : NtStatus) × IsGivenUp s o status
      by (inl e) = (Cancelled, inl (e, refl))
      by (inr e) = (_, inr (e, refl))

  a_reason : (status : NtStatus) → IsGivenUp s o status → is_given_up s o ≡ true
  a_reason status (inl h) = or_left o.cancelled s.removing h.0
  a_reason status (inr h) = or_right o.cancelled s.removing h.0

  pub decides_ended : (mark : Mark) → Decides (has_ended rules s o mark) (HasEnded rules s o mark)
  decides_ended Untouched = (λ h. inr (some_status h), back)
    where
      back : HasEnded rules s o Untouched → is_given_up s o ≡ true
      back (inl h) = cc (h)
      back (inr h) = a_reason h.0 h.1
  decides_ended Out = (λ h. cc (h), back)
    where
      back : HasEnded rules s o Out → false ≡ true
      back (inl h) = h
      back (inr h) = absurd h.1
  decides_ended (Done sector) = (λ h. inl refl, λ h. refl)
  decides_ended (Failed status) = (λ h. inr (status, refl), λ h. refl)
  decides_ended Back = (λ h. there (or_cases (is_given_up s o) (is_worn_out rules o) h), back)
    where
      there : (is_given_up s o ≡ true) ⊎ (is_worn_out rules o ≡ true) → HasEnded rules s o Back
      there (inl h) = let found : (status : NtStatus) × IsGivenUp s o status = some_status h in inr (found.0, inl found.1)
      there (inr h) = inr (DeviceBusy, inr (worn_out.0 h, refl))

      why : (status : NtStatus) → Cause rules s o Back status → has_ended rules s o Back ≡ true
      why status (inl h) = or_left (is_given_up s o) (is_worn_out rules o) (a_reason status h)
      why status (inr h) = or_right (is_given_up s o) (is_worn_out rules o) (worn_out.1 h.0)

      back : HasEnded rules s o Back → has_ended rules s o Back ≡ true
      back (inl h) = cc (h)
      back (inr h) = why h.0 h.1

  pub decides_all_ended : (marks : List Mark) → Decides (list_all (has_ended rules s o) marks) (All (HasEnded rules s o) marks)
  decides_all_ended marks = Decides-by_and (has_ended rules s o) (HasEnded rules s o) (list_all (has_ended rules s o)) decides_ended refl (λ _ _. refl) marks

-- STARTS

any_weaker : {X : Type 0} (P Q : X → Type 0) → ((x : X) → P x → Q x) → (xs : List X) → Any P xs → Any Q xs
any_weaker P Q f xs h = (h.0, h.1, h.2, h.3, f h.1 h.4)

pub decides_tag : (tag : ℕ) (pieces : List Piece) → Decides (list_any (has_tag tag) pieces) (Any (HasTag tag) pieces)
decides_tag tag pieces = (
  λ h. any_weaker (λ (p : Piece). has_tag tag p ≡ true) (HasTag tag) (λ p e. (Decides-eqb p.tag tag).0 e) pieces (Any-from_list_any (has_tag tag) pieces h),
  λ h. list_any-from_Any (has_tag tag) pieces (any_weaker (HasTag tag) (λ (p : Piece). has_tag tag p ≡ true) (λ p e. (Decides-eqb p.tag tag).1 e) pieces h),
)

pub decides_turn : (o other : OpenRequest) → Decides (is_in_turn o.number other) (IsInTurn o other)
decides_turn o other = (there, back)
  where
    there : is_in_turn o.number other ≡ true → IsInTurn o other
    there h low free = by (or_cases (not (nat_lt other.number o.number)) (other.cancelled || is_started other) h)
      where
        started : (other.cancelled ≡ true) ⊎ (is_started other ≡ true) → IsTrue (is_started other)
        started (inl e) = absurd (both_ways other.cancelled free e)
        started (inr e) = e

        by : (not (nat_lt other.number o.number) ≡ true) ⊎ ((other.cancelled || is_started other) ≡ true) → IsTrue (is_started other)
        by (inl e) = absurd (both_ways (nat_lt other.number o.number) (not-true _ e) (lt-ltb other.number o.number low))
        by (inr e) = started (or_cases other.cancelled (is_started other) e)

    back : IsInTurn o other → is_in_turn o.number other ≡ true
    back h = by (cases_Bool (nat_lt other.number o.number)) (cases_Bool other.cancelled)
      where
        by : (nat_lt other.number o.number ≡ true) ⊎ (nat_lt other.number o.number ≡ false) → (other.cancelled ≡ true) ⊎ (other.cancelled ≡ false) → is_in_turn o.number other ≡ true
        by (inr e) c = or_left _ (other.cancelled || is_started other) (not_from_false _ e)
        by (inl e) (inl c) = or_right (not (nat_lt other.number o.number)) _ (or_left other.cancelled (is_started other) c)
        by (inl e) (inr c) = or_right (not (nat_lt other.number o.number)) _ (or_right other.cancelled (is_started other) (h (ltb-true _ _ e) c))
