-- What is kept of a history over sessions, line by line, to judge one sector: what it sees alone, and what all sectors see.
use Rattle.std.specs.Prelude.{ℕ, ◌-◌, ◌==◌, ◌&&◌, Bool, true, false, not, List, [], ◌∷◌, ◌++◌, Option, Some, None, length, map, take, drop, if◌then◌else◌}
use Rattle.std.specs.List.{list_any}
use Rattle.ntstatus.specs.declared.NtStatus.{NtStatus}
use Rattle.ntstatus.specs.declared.NtStatus.TheVariants.{Success}
use Rattle.srb.specs.declared.Kind.{Kind}
use Rattle.srb.specs.declared.Kind.TheVariants.{Read, Write, Flush}
use Rattle.machine.specs.declared.ClientRequest.{ClientRequest}
use Rattle.machine.specs.declared.Label.{Label}
use Rattle.machine.specs.declared.Label.TheVariants.{Call, Answer}
use Rattle.machine.specs.Rules.{Rules}
use Rattle.machine_laws.specs.Sectors.{part_of}
use Rattle.loss.specs.Sessions.{Line, Told, Lost, Ended}
use Rattle.loss.specs.Laws.{value_for}
use Rattle.register_loss.specs.declared.What.{What}
use Rattle.register_loss.specs.declared.What.TheVariants.{Read as Reads, Write as Writes, Flush as Flushes, Sync}
use Rattle.register_loss.specs.declared.Sight.{Sight}
use Rattle.register_loss.specs.declared.Sight.TheVariants.{Call as CallSight, Done, Failed, Lost as LostSight, Ended as EndedSight}
use Rattle.history_loss_sights.specs.Sights.{end_of, has_sector, place_of, success_bytes}
use Rattle.history_loss_kept.specs.declared.Wait.{Wait}
use Rattle.history_loss_kept.specs.declared.Wait.TheVariants.{Known, Awaits}
use Rattle.history_loss_kept.specs.declared.Own.{Own}
use Rattle.history_loss_kept.specs.declared.Outcome.{Outcome}
use Rattle.history_loss_kept.specs.declared.Outcome.TheVariants.{Open, Done as IsDone, Failed as HasFailed}
use Rattle.history_loss_kept.specs.declared.Shared.{Shared}
use Rattle.history_loss_kept.specs.declared.Shared.TheVariants.{Call as SharedCall, End}

-- what is kept of a session: what all sectors see, and what one sees alone
pub record Session : Type 0 where
  pub shared : List Shared
  pub own : List Own

abbrev pub no_session : Session
no_session = record { shared = []; own = [] }

-- WHAT ALL SECTORS SEE

abbrev pub call_of : ℕ → Kind → Bool → List Shared
call_of n Read through = []
call_of n Write through = if through then SharedCall n false Open ∷ [] else []
call_of n Flush through = SharedCall n true Open ∷ []

abbrev pub is_success : NtStatus → Bool
is_success Success = true
is_success _ = false

abbrev pub outcome_of : NtStatus → Outcome
outcome_of Success = IsDone
outcome_of _ = HasFailed

abbrev pub is_sync_of : ℕ → Shared → Bool
is_sync_of n (SharedCall number is_flush outcome) = number == n
is_sync_of n (End number is_success) = false

-- the sync of this number ended so
abbrev pub settled : ℕ → NtStatus → Shared → Shared
settled n status (SharedCall number is_flush outcome) = if number == n then SharedCall number is_flush (outcome_of status) else SharedCall number is_flush outcome
settled n status (End number is_success) = End number is_success

abbrev pub shared_after : ℕ → NtStatus → List Shared → List Shared
shared_after n status shared =
    if list_any (is_sync_of n) shared then map (settled n status) shared ++ End n (is_success status) ∷ [] else shared

-- WHAT ONE SECTOR SEES ALONE

-- a request that moves the sector is seen by it behind so much that all see
abbrev pub call_wait : (List ℕ → ℕ) → Rules → ℕ → ℕ → ClientRequest → Kind → Option Wait
call_wait code rules i n q Read = Some (Awaits n (place_of rules i q))
call_wait code rules i n q Write = Some (Known (CallSight n (Writes (code (value_for rules q (place_of rules i q))) q.through)))
call_wait code rules i n q Flush = None

abbrev pub with_last : ℕ → Option Wait → List Own → List Own
with_last behind None own = own
with_last behind (Some wait) own = own ++ record { behind = behind; wait = wait } ∷ []

abbrev pub own_after_call : (List ℕ → ℕ) → Rules → ℕ → ℕ → ℕ → ClientRequest → List Own → List Own
own_after_call code rules i behind n q own = if has_sector rules i q then with_last behind (call_wait code rules i n q q.kind) own else own

abbrev pub is_call_of : ℕ → Sight → Bool
is_call_of n (CallSight number what) = number == n
is_call_of n _ = false

abbrev pub is_own_of : ℕ → Own → Bool
is_own_of n o = elim (o.wait) [
  | Known sight ↦ is_call_of n sight
  | Awaits number place ↦ false
]

-- a read is seen with what its answer brings
abbrev pub read_by : (List ℕ → ℕ) → Rules → ℕ → ℕ → Option (List ℕ) → Option Wait
read_by code rules n place None = None
read_by code rules n place (Some bytes) = Some (Known (CallSight n (Reads (code (part_of rules bytes place)))))

abbrev pub wait_by : (List ℕ → ℕ) → Rules → ℕ → Option (List ℕ) → Wait → Option Wait
wait_by code rules n bytes (Known sight) = Some (Known sight)
wait_by code rules n bytes (Awaits number place) = if number == n then read_by code rules number place bytes else Some (Awaits number place)

abbrev pub with_first : ℕ → Option Wait → List Own → List Own
with_first behind None own = own
with_first behind (Some wait) own = record { behind = behind; wait = wait } ∷ own

-- behind the answer to a request, which brings these bytes if it is a success
abbrev pub fill : (List ℕ → ℕ) → Rules → ℕ → Option (List ℕ) → List Own → List Own
fill code rules n bytes [] = []
fill code rules n bytes (o ∷ own) = with_first o.behind (wait_by code rules n bytes o.wait) (fill code rules n bytes own)

-- the end of a request that the sector saw, unless all see it
abbrev pub own_after_answer : (List ℕ → ℕ) → Rules → ℕ → List Shared → NtStatus → Option (List ℕ) → List Own → List Own
own_after_answer code rules n shared status bytes own =
    if not (list_any (is_sync_of n) shared) && list_any (is_own_of n) (fill code rules n bytes own)
    then fill code rules n bytes own ++ record { behind = length shared; wait = Known (end_of n status) } ∷ []
    else fill code rules n bytes own

-- ONE LABEL MORE

abbrev pub called : (List ℕ → ℕ) → Rules → ℕ → ℕ → ClientRequest → List Shared → List Own → Session
called code rules i n q shared own = record { shared = shared; own = own_after_call code rules i (length shared) n q own }

abbrev pub step : (List ℕ → ℕ) → Rules → ℕ → Session → Label → Session
step code rules i s (Call n q) = called code rules i n q (s.shared ++ call_of n q.kind q.through) s.own
step code rules i s (Answer n status informed bytes) =
    record { shared = shared_after n status s.shared; own = own_after_answer code rules n s.shared status (success_bytes status bytes) s.own }
step code rules i s _ = s

-- WHAT IS KNOWN

-- what is seen of a sync: of a write past volatile caches only that it didn't succeed, and where those that didn't are left out nothing
abbrev pub sync_seen : Bool → Bool → Outcome → List What
sync_seen all true IsDone = Flushes ∷ []
sync_seen true true _ = Flushes ∷ []
sync_seen false true _ = []
sync_seen all false IsDone = []
sync_seen true false _ = Sync ∷ []
sync_seen false false _ = []

abbrev pub shared_sights : Bool → Shared → List Sight
shared_sights all (SharedCall n is_flush outcome) = map (CallSight n) (sync_seen all is_flush outcome)
shared_sights all (End n true) = Done n ∷ []
shared_sights all (End n false) = Failed n ∷ []

abbrev pub all_shared : Bool → List Shared → List Sight
all_shared all [] = []
all_shared all (one ∷ shared) = shared_sights all one ++ all_shared all shared

abbrev pub own_sights : Wait → List Sight
own_sights (Known sight) = sight ∷ []
own_sights (Awaits number place) = []

-- what the sector sees behind the first so many that all see, each at its place among them
abbrev pub merged : Bool → ℕ → List Own → List Shared → List Sight
merged all taken [] shared = all_shared all (drop taken shared)
merged all taken (o ∷ own) shared = all_shared all (take (o.behind - taken) (drop taken shared)) ++ (own_sights o.wait ++ merged all o.behind own shared)

-- nothing, if it saw nothing alone
abbrev pub seen_by : Bool → List Shared → List Sight → List Own → List Sight
seen_by all shared last [] = []
seen_by all shared last (o ∷ own) = merged all 0 (o ∷ own) shared ++ last

abbrev pub seen_in : Bool → Session → List Sight → List Sight
seen_in all s last = seen_by all s.shared last s.own

-- SESSIONS

-- the sights of the sessions before, and what is kept of this one
pub record Kept : Type 0 where
  pub past : List Sight
  pub session : Session

abbrev pub turned : Bool → Sight → Kept → Kept
turned all last k = record { past = k.past ++ seen_in all k.session (last ∷ []); session = no_session }

abbrev pub kept_after : (List ℕ → ℕ) → Bool → Rules → ℕ → Kept → Line → Kept
kept_after code all rules i k (Told label) = record k { session = step code rules i k.session label }
kept_after code all rules i k Lost = turned all LostSight k
kept_after code all rules i k Ended = turned all EndedSight k

abbrev pub kept_of : (List ℕ → ℕ) → Bool → Rules → ℕ → Kept → List Line → Kept
kept_of code all rules i k [] = k
kept_of code all rules i k (line ∷ lines) = kept_of code all rules i (kept_after code all rules i k line) lines

abbrev pub nothing_kept : Kept
nothing_kept = record { past = []; session = no_session }

-- what is seen, where what is not answered never will be
abbrev pub known : Bool → Kept → List Sight
known all k = k.past ++ seen_in all k.session []
