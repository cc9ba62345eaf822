-- A read or a write of too many bytes is answered as one of a single byte is.
use Rattle.std.proofs.Common.{◌≡◌, ◌≤◌, ◌<◌, ℕ, ◌+◌, ◌*◌, ◌/◌, ◌%◌, ◌==◌, ◌&&◌, nat_le, nat_lt, Bool, true, false, not, is_none, length, List, [], ◌∷◌, Option, refl, sym, ◌∙◌, ap, arith, if◌then◌else◌, IsTrue}
use Rattle.std.proofs.Math.Nat.{mod-eq_of_lt, mul-le-mul_right}
use Rattle.std.proofs.lemmas.Nat.{div-add-mod'}
use Rattle.std.proofs.lemmas.Bool.{and_parts, false_from_ne_true}
use Rattle.std.proofs.lemmas.Bool.Decides.{nat_tests}
use Rattle.ntstatus.specs.declared.NtStatus.{NtStatus}
use Rattle.ntstatus.specs.declared.NtStatus.TheVariants.{Success, DeviceBusy, DeletePending, InvalidHandle, InvalidParameter}
use Rattle.ntstatus.specs.First.{when, first_some}
use Rattle.srb.specs.declared.Kind.{Kind}
use Rattle.srb.specs.declared.Kind.TheVariants.{Read, Write, Flush}
use Rattle.machine.specs.declared.ClientRequest.{ClientRequest}
use Rattle.machine.specs.Calling.{is_full, refusal}
use Rattle.machine.specs.Rules.{Rules, is_in_bounds, is_transfer, first_sector, sectors_of}
use Rattle.machine.specs.State.{State}
use Rattle.saddlemug.specs.TooLong.{IsRefusedAlike}

-- the first answer, by the tests of its cases
abbrev first : Bool → Bool → Bool → Bool → Bool → Bool → Option NtStatus
first unknown removing transfer inside zero full = first_some (
    when unknown InvalidHandle
    ∷ when removing DeletePending
    ∷ when (transfer && not inside) InvalidParameter
    ∷ when (transfer && zero) Success
    ∷ when full DeviceBusy
    ∷ [])

-- out of bounds the length doesn't matter
outside : (unknown removing zero other full : Bool) → first unknown removing true false zero full ≡ first unknown removing true false other full
outside true removing zero other full = refl
outside false true zero other full = refl
outside false false zero other full = refl

-- one byte is no whole sector
odd : (rules : Rules) (q : ClientRequest) → 1 < rules.sector_size → q.length ≡ 1 → is_in_bounds rules q ≡ false
odd rules q size one = false_from_ne_true _ (λ inside.
    let whole : (q.length % rules.sector_size == 0) ≡ true = (and_parts _ _ (and_parts _ _ inside).0).1 in
    let rest : q.length % rules.sector_size ≡ 1 = ap (λ n. n % rules.sector_size) one ∙ mod-eq_of_lt size in
    let zero : q.length % rules.sector_size ≡ 0 = grind (arith, nat_tests) in
    omega arith)

-- nor are more bytes than the longest request has in bounds
long : (rules : Rules) (q : ClientRequest) → rules.longest ≤ 65536 → 65536 * rules.sector_size < q.length → is_in_bounds rules q ≡ false
long rules q longest more = false_from_ne_true _ (λ inside.
    let whole : (q.length % rules.sector_size == 0) ≡ true = (and_parts _ _ (and_parts _ _ inside).0).1 in
    let zero : q.length % rules.sector_size ≡ 0 = grind (arith, nat_tests) in
    let few : nat_le (q.length / rules.sector_size) rules.longest ≡ true = (and_parts _ _ (and_parts _ _ inside).1).1 in
    let places : q.length / rules.sector_size ≤ rules.longest = grind (arith, nat_tests) in
    let split : q.length / rules.sector_size * rules.sector_size + q.length % rules.sector_size ≡ q.length = div-add-mod' q.length rules.sector_size in
    let most : q.length / rules.sector_size * rules.sector_size ≤ 65536 * rules.sector_size = mul-le-mul_right rules.sector_size (omega arith) in
    omega arith)

by_kind : (rules : Rules) (s : State) (q : ClientRequest) (other : ℕ) → IsTrue (is_transfer q.kind) → is_in_bounds rules q ≡ false → is_in_bounds rules (record q { length = other }) ≡ false
    → refusal rules s (record q { length = other }) ≡ refusal rules s q
by_kind rules s q other transfer out also =
    let t : is_transfer q.kind ≡ true = transfer in
    rw t (rw out (rw also (outside (is_none q.partition) s.removing (other == 0) (q.length == 0) (is_full rules.open_requests (length s.requests)))))

pub refused_alike : (size count : ℕ) → 65536 * size < count → IsRefusedAlike size count 1
refused_alike size count over rules s q sized above longest transfer counted =
    let more : 65536 * rules.sector_size < q.length = grind (arith, nat_tests) in
    by_kind rules s q 1 transfer (long rules q longest more) (odd rules (record q { length = 1 }) (grind arith) refl)
