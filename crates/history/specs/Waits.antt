-- What a history shows of one sector, label by label: what is seen of a read waits for its answer.
use Rattle.std.specs.Prelude.{◌≡◌, ℕ, ◌-◌, ◌==◌, Bool, false, List, [], ◌∷◌, ◌++◌, Option, Some, None, option_map, if◌then◌else◌}
use Rattle.std.specs.List.{list_any}
use Rattle.ntstatus.specs.declared.NtStatus.{NtStatus}
use Rattle.srb.specs.declared.Kind.{Kind}
use Rattle.srb.specs.declared.Kind.TheVariants.{Read, Write, Flush}
use Rattle.machine.specs.declared.ClientRequest.{ClientRequest}
use Rattle.machine.specs.declared.Label.{Label}
use Rattle.machine.specs.declared.Label.TheVariants.{Call, Answer}
use Rattle.machine.specs.Rules.{Rules, first_sector}
use Rattle.machine_laws.specs.Sectors.{part_of}
use Rattle.register.specs.declared.Sight.{Sight}
use Rattle.register.specs.declared.Sight.TheVariants.{Write as WriteSight, Read as ReadSight}
use Rattle.history.specs.declared.Wait.{Wait}
use Rattle.history.specs.declared.Wait.TheVariants.{Known, Awaits}
use Rattle.history.specs.Sights.{has_sector, bytes_at, success_bytes, is_call_of, end_of, sights_of}

-- the call of a read, by the bytes of its answer, if it succeeds
abbrev pub read_by : (List ℕ → ℕ) → Rules → ℕ → ℕ → Option (List ℕ) → Option Sight
read_by code rules n place None = None
read_by code rules n place (Some bytes) = Some (ReadSight n (code (part_of rules bytes place)))

abbrev pub filled_by : (List ℕ → ℕ) → Rules → ℕ → Option (List ℕ) → Wait → Option Wait
filled_by code rules n bytes (Known sight) = Some (Known sight)
filled_by code rules n bytes (Awaits number place) = if n == number then option_map Known (read_by code rules number place bytes) else Some (Awaits number place)

abbrev pub with_wait : Option Wait → List Wait → List Wait
with_wait None waits = waits
with_wait (Some wait) waits = wait ∷ waits

-- behind the answer to a request, which brings these bytes if it is a success
abbrev pub fill : (List ℕ → ℕ) → Rules → ℕ → Option (List ℕ) → List Wait → List Wait
fill code rules n bytes [] = []
fill code rules n bytes (wait ∷ waits) = with_wait (filled_by code rules n bytes wait) (fill code rules n bytes waits)

abbrev pub is_wait_of : ℕ → Wait → Bool
is_wait_of n (Known sight) = is_call_of n sight
is_wait_of n (Awaits number place) = false

-- the end of a request that was seen to be called
abbrev pub ended : ℕ → NtStatus → List Wait → List Wait
ended n status waits = if list_any (is_wait_of n) waits then waits ++ Known (end_of n status) ∷ [] else waits

abbrev pub called : (List ℕ → ℕ) → Rules → ℕ → ℕ → ClientRequest → Kind → List Wait → List Wait
called code rules i n q Write waits = waits ++ Known (WriteSight n (code (bytes_at rules i q q.bytes))) ∷ []
called code rules i n q Read waits = waits ++ Awaits n (i - first_sector rules q) ∷ []
called code rules i n q Flush waits = waits

-- what is seen behind one more label
abbrev pub step : (List ℕ → ℕ) → Rules → ℕ → ℕ → List Wait → Label → List Wait
step code rules p i waits (Call n q) = if has_sector rules p i q then called code rules i n q q.kind waits else waits
step code rules p i waits (Answer n status informed bytes) = ended n status (fill code rules n (success_bytes status bytes) waits)
step code rules p i waits _ = waits

-- and behind these labels
abbrev pub waits_of : (List ℕ → ℕ) → Rules → ℕ → ℕ → List Wait → List Label → List Wait
waits_of code rules p i waits [] = waits
waits_of code rules p i waits (label ∷ labels) = waits_of code rules p i (step code rules p i waits label) labels

-- what is seen for certain
abbrev pub known : List Wait → List Sight
known [] = []
known (Known sight ∷ waits) = sight ∷ known waits
known (Awaits number place ∷ waits) = known waits

-- a history shows of a sector just what is known in the end, label by label
abbrev pub ShownByWaits : Type 0
ShownByWaits = (code : List ℕ → ℕ) (rules : Rules) (p i : ℕ) (history : List Label) → sights_of code rules p i [] history ≡ known (waits_of code rules p i [] history)
