-- The parts that a loop has not passed yet: their lowest status, and their bytes.
use Rattle.std.specs.Prelude.{if◌then◌else◌}
use Rattle.std.proofs.Common.{◌≡◌, ◌<◌, ◌≤◌, ℕ, ◌+◌, Bool, true, List, ◌++◌, Some, None, sym, ◌∙◌, ap, arith, length, get_or, drop}
use Rattle.std.proofs.lemmas.List.{at_drop_more, drop_all, append_assoc, append-nil, length-append}
use Rattle.class_disk.proofs.Common.{NtStatus, Success, lowest_status, status_or, failure_by, joined_of, bytes_by}
use Rattle.class_disk.specs.declared.parts.Part.{Part}

status_step : (parts : List Part) (i : ℕ) (part : Part) → i < length parts → part ≡ get_or parts i part
    → lowest_status (drop i parts) ≡ status_or (failure_by part.progress) (lowest_status (drop (i + 1) parts))
status_step parts i part within is =
    at_drop_more lowest_status parts i part within ∙ ap (λ (p : Part). status_or (failure_by p.progress) (lowest_status (drop (i + 1) parts))) (sym is)

pub status_found : (parts : List Part) (i : ℕ) (part : Part) (status : NtStatus) → i < length parts → part ≡ get_or parts i part
    → failure_by part.progress ≡ Some status → lowest_status (drop i parts) ≡ status
status_found parts i part status within is fails = status_step parts i part within is ∙ ap (λ f. status_or f (lowest_status (drop (i + 1) parts))) fails

pub status_passed : (parts : List Part) (i : ℕ) (part : Part) → i < length parts → part ≡ get_or parts i part
    → failure_by part.progress ≡ None → lowest_status (drop i parts) ≡ lowest_status (drop (i + 1) parts)
status_passed parts i part within is none = status_step parts i part within is ∙ ap (λ f. status_or f (lowest_status (drop (i + 1) parts))) none

pub status_at_end : (parts : List Part) (i : ℕ) → length parts ≤ i → lowest_status (drop i parts) ≡ Success
status_at_end parts i past = ap lowest_status (drop_all i parts past)

-- the bytes of one more part
pub joined_step : (parts : List Part) (i : ℕ) (part : Part) → i < length parts → part ≡ get_or parts i part
    → joined_of (drop i parts) ≡ bytes_by part.progress ++ joined_of (drop (i + 1) parts)
joined_step parts i part within is = at_drop_more joined_of parts i part within ∙ ap (λ (p : Part). bytes_by p.progress ++ joined_of (drop (i + 1) parts)) (sym is)

pub joined_more : (parts : List Part) (i : ℕ) (part : Part) (bytes : List ℕ) → i < length parts → part ≡ get_or parts i part
    → bytes ++ joined_of (drop i parts) ≡ joined_of parts
    → (bytes ++ bytes_by part.progress) ++ joined_of (drop (i + 1) parts) ≡ joined_of parts
joined_more parts i part bytes within is so_far =
    append_assoc bytes (bytes_by part.progress) (joined_of (drop (i + 1) parts)) ∙ ap (λ xs. bytes ++ xs) (sym (joined_step parts i part within is)) ∙ so_far

-- they fit where all do
pub joined_fits : (parts : List Part) (i : ℕ) (part : Part) (bytes : List ℕ) (room : ℕ) → i < length parts
    → part ≡ get_or parts i part → bytes ++ joined_of (drop i parts) ≡ joined_of parts → length (joined_of parts) ≤ room
    → length bytes + length (bytes_by part.progress) ≤ room
joined_fits parts i part bytes room within is so_far fits =
    let all = ap length (joined_more parts i part bytes within is so_far) in
    let a = length-append (bytes ++ bytes_by part.progress) (joined_of (drop (i + 1) parts)) in
    let b = length-append bytes (bytes_by part.progress) in
    omega (arith, all, a, b, fits)

pub joined_at_end : (parts : List Part) (i : ℕ) (bytes : List ℕ) → length parts ≤ i
    → bytes ++ joined_of (drop i parts) ≡ joined_of parts → bytes ≡ joined_of parts
joined_at_end parts i bytes past so_far = sym (append-nil bytes) ∙ sym (ap (λ xs. bytes ++ joined_of xs) (drop_all i parts past)) ∙ so_far

-- what was appended, where there was room
pub appended_if : (ok : Bool) (old more new : List ℕ) → new ≡ (if ok then old ++ more else old) → ok ≡ true → new ≡ old ++ more
appended_if ok old more new is yes' = is ∙ ap (λ b. if b then old ++ more else old) yes'
