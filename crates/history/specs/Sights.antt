-- What a history shows of one sector, as of a register.
use Rattle.std.specs.Prelude.{ℕ, ◌+◌, ◌-◌, ◌==◌, ◌&&◌, Bool, false, nat_le, nat_lt, List, [], ◌∷◌, ◌++◌, Option, Some, None, if◌then◌else◌}
use Rattle.std.specs.List.{list_any}
use Rattle.ntstatus.specs.declared.NtStatus.{NtStatus}
use Rattle.ntstatus.specs.declared.NtStatus.TheVariants.{Success}
use Rattle.srb.specs.declared.Kind.{Kind}
use Rattle.srb.specs.declared.Kind.TheVariants.{Read, Write, Flush}
use Rattle.machine.specs.declared.ClientRequest.{ClientRequest}
use Rattle.machine.specs.declared.Label.{Label}
use Rattle.machine.specs.declared.Label.TheVariants.{Call, Answer}
use Rattle.machine.specs.Rules.{Rules, is_transfer, is_in_bounds, first_sector, place_count}
use Rattle.machine_laws.specs.Sectors.{part_of}
use Rattle.register.specs.declared.Sight.{Sight}
use Rattle.register.specs.declared.Sight.TheVariants.{Write as WriteSight, Read as ReadSight, Done, Failed}

abbrev pub is_partition : ℕ → Option ℕ → Bool
is_partition p None = false
is_partition p (Some other) = other == p

-- whether sector i of partition p is one of the request's
abbrev pub has_sector : Rules → ℕ → ℕ → ClientRequest → Bool
has_sector rules p i q =
    (is_partition p q.partition && (is_transfer q.kind && is_in_bounds rules q))
    && (nat_le (first_sector rules q) i && nat_lt i (first_sector rules q + place_count rules q))

-- what a request moves of that sector
abbrev pub bytes_at : Rules → ℕ → ClientRequest → List ℕ → List ℕ
bytes_at rules i q bytes = part_of rules bytes (i - first_sector rules q)

abbrev pub success_bytes : NtStatus → List ℕ → Option (List ℕ)
success_bytes Success bytes = Some bytes
success_bytes _ bytes = None

-- the bytes of the request's first answer, if it succeeds
abbrev pub success_of : ℕ → List Label → Option (List ℕ)
success_of n [] = None
success_of n (Answer number status informed bytes ∷ labels) = if number == n then success_bytes status bytes else success_of n labels
success_of n (_ ∷ labels) = success_of n labels

-- the sight is the call of this number
abbrev pub is_call_of : ℕ → Sight → Bool
is_call_of n (WriteSight number value) = number == n
is_call_of n (ReadSight number value) = number == n
is_call_of n (Done number) = false
is_call_of n (Failed number) = false

abbrev pub end_of : ℕ → NtStatus → Sight
end_of n Success = Done n
end_of n _ = Failed n

-- a read is seen with what it will be answered
abbrev pub read_sight : ℕ → Option ℕ → Option Sight
read_sight n None = None
read_sight n (Some value) = Some (ReadSight n value)

abbrev pub value_of : (List ℕ → ℕ) → Rules → ℕ → ClientRequest → Option (List ℕ) → Option ℕ
value_of code rules i q None = None
value_of code rules i q (Some bytes) = Some (code (bytes_at rules i q bytes))

-- a write is seen with its bytes, a read that will succeed with those of its answer
abbrev pub call_sight : (List ℕ → ℕ) → Rules → ℕ → ℕ → ClientRequest → Kind → List Label → Option Sight
call_sight code rules i n q Write later = Some (WriteSight n (code (bytes_at rules i q q.bytes)))
call_sight code rules i n q Read later = read_sight n (value_of code rules i q (success_of n later))
call_sight code rules i n q Flush later = None

-- what a label shows, behind these sights and before those labels
abbrev pub sight_of : (List ℕ → ℕ) → Rules → ℕ → ℕ → List Sight → Label → List Label → Option Sight
sight_of code rules p i sights (Call n q) later = if has_sector rules p i q then call_sight code rules i n q q.kind later else None
sight_of code rules p i sights (Answer n status informed bytes) later = if list_any (is_call_of n) sights then Some (end_of n status) else None
sight_of code rules p i sights _ later = None

abbrev pub with_sight : List Sight → Option Sight → List Sight
with_sight sights None = sights
with_sight sights (Some sight) = sights ++ sight ∷ []

-- the sights so far, and those of these labels
abbrev pub sights_of : (List ℕ → ℕ) → Rules → ℕ → ℕ → List Sight → List Label → List Sight
sights_of code rules p i sights [] = sights
sights_of code rules p i sights (label ∷ labels) = sights_of code rules p i (with_sight sights (sight_of code rules p i sights label labels)) labels
