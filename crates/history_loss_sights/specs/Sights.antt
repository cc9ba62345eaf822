-- What a history over sessions shows of one sector of the disk, as of a register.
use Rattle.std.specs.Prelude.{◌≡◌, ℕ, ◌+◌, ◌-◌, ◌==◌, ◌&&◌, Bool, not, nat_le, nat_lt, is_none, List, [], ◌∷◌, ◌++◌, Option, Some, None, map, if◌then◌else◌}
use Rattle.ntstatus.specs.declared.NtStatus.{NtStatus}
use Rattle.ntstatus.specs.declared.NtStatus.TheVariants.{Success}
use Rattle.srb.specs.declared.Kind.{Kind}
use Rattle.srb.specs.declared.Kind.TheVariants.{Read, Write, Flush}
use Rattle.machine.specs.declared.ClientRequest.{ClientRequest}
use Rattle.machine.specs.declared.Label.TheVariants.{Call, Answer}
use Rattle.machine.specs.Rules.{Rules, is_transfer, is_in_bounds, place_count}
use Rattle.machine_laws.specs.Sectors.{part_of}
use Rattle.loss.specs.Sessions.{Line, Told, Lost, Ended}
use Rattle.loss.specs.Laws.{sector_of, value_for}
use Rattle.register_loss.specs.declared.What.{What}
use Rattle.register_loss.specs.declared.What.TheVariants.{Read as Reads, Write as Writes, Flush as Flushes, Sync}
use Rattle.register_loss.specs.declared.Sight.{Sight}
use Rattle.register_loss.specs.declared.Sight.TheVariants.{Call as CallSight, Elsewhere, Done, Failed, Lost as LostSight, Ended as EndedSight}

-- whether sector i of the disk is one of the request's, if nothing refuses that
abbrev pub has_sector : Rules → ℕ → ClientRequest → Bool
has_sector rules i q =
    (not (is_none q.partition) && (is_transfer q.kind && is_in_bounds rules q))
    && (nat_le (sector_of rules q 0) i && nat_lt i (sector_of rules q 0 + place_count rules q))

-- the place of the request where it lies
abbrev pub place_of : Rules → ℕ → ClientRequest → ℕ
place_of rules i q = i - sector_of rules q 0

abbrev pub success_bytes : NtStatus → List ℕ → Option (List ℕ)
success_bytes Success bytes = Some bytes
success_bytes _ bytes = None

-- the bytes of the request's first answer in its session, if it succeeds
abbrev pub success_of : ℕ → List Line → Option (List ℕ)
success_of n [] = None
success_of n (Lost ∷ lines) = None
success_of n (Ended ∷ lines) = None
success_of n (Told (Answer number status informed bytes) ∷ lines) = if number == n then success_bytes status bytes else success_of n lines
success_of n (Told _ ∷ lines) = success_of n lines

-- a flush, or a write past volatile caches, is one of all sectors
abbrev pub syncs : Bool → Kind → List What
syncs through Read = []
syncs through Write = if through then Sync ∷ [] else []
syncs through Flush = Flushes ∷ []

-- a read is seen with what it will be answered
abbrev pub reads : (List ℕ → ℕ) → Rules → ℕ → Option (List ℕ) → List What
reads code rules place None = []
reads code rules place (Some bytes) = Reads (code (part_of rules bytes place)) ∷ []

-- a write is seen with its bytes
abbrev pub moves : (List ℕ → ℕ) → Rules → ℕ → ClientRequest → Option (List ℕ) → Kind → List What
moves code rules place q answer Read = reads code rules place answer
moves code rules place q answer Write = Writes (code (value_for rules q place)) q.through ∷ []
moves code rules place q answer Flush = []

abbrev pub moves_of : (List ℕ → ℕ) → Rules → ℕ → ClientRequest → Option (List ℕ) → List What
moves_of code rules i q answer = if has_sector rules i q then moves code rules (place_of rules i q) q answer q.kind else []

-- what a request is to do
abbrev pub whats : (List ℕ → ℕ) → Rules → ℕ → ClientRequest → Option (List ℕ) → List What
whats code rules i q answer = syncs q.through q.kind ++ moves_of code rules i q answer

abbrev pub end_of : ℕ → NtStatus → Sight
end_of n Success = Done n
end_of n _ = Failed n

-- what lines show
abbrev pub sights_of : (List ℕ → ℕ) → Rules → ℕ → List Line → List Sight
sights_of code rules i [] = []
sights_of code rules i (Lost ∷ lines) = LostSight ∷ sights_of code rules i lines
sights_of code rules i (Ended ∷ lines) = EndedSight ∷ sights_of code rules i lines
sights_of code rules i (Told (Call n q) ∷ lines) = Elsewhere n ∷ (map (CallSight n) (whats code rules i q (success_of n lines)) ++ sights_of code rules i lines)
sights_of code rules i (Told (Answer n status informed bytes) ∷ lines) = end_of n status ∷ sights_of code rules i lines
sights_of code rules i (Told _ ∷ lines) = sights_of code rules i lines

-- calls count up from this number, and from 1 in each later session
abbrev pub AreCounted : ℕ → List Line → Type 0
AreCounted next [] = Unit {0}
AreCounted next (Lost ∷ lines) = AreCounted 1 lines
AreCounted next (Ended ∷ lines) = AreCounted 1 lines
AreCounted next (Told (Call n q) ∷ lines) = (n ≡ next) × AreCounted (next + 1) lines
AreCounted next (Told _ ∷ lines) = AreCounted next lines
