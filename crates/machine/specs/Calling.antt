-- Calls: what opens a request, and what refuses it.
use Rattle.std.specs.Prelude.{◌≡◌, ◌≤◌, ℕ, ◌+◌, ◌==◌, ◌&&◌, Bool, false, not, nat_le, List, [], ◌∷◌, Option, Some, None, length, replicate, is_none}
use Rattle.ntstatus.specs.declared.NtStatus.{NtStatus}
use Rattle.ntstatus.specs.declared.NtStatus.TheVariants.{Success, DeviceBusy, DeletePending, InvalidHandle, InvalidParameter}
use Rattle.ntstatus.specs.First.{when, first_some}
use Rattle.srb.specs.declared.Kind.{Kind}
use Rattle.srb.specs.declared.Kind.TheVariants.{Read, Write, Flush}
use Rattle.machine.specs.declared.ClientRequest.{ClientRequest}
use Rattle.machine.specs.Rules.{Rules, is_transfer, is_in_bounds, place_count}
use Rattle.machine.specs.State.{Untouched, OpenRequest, State, IsSame}

-- the limit of open requests is reached
abbrev pub is_full : Option ℕ → ℕ → Bool
is_full None count = false
is_full (Some most) count = nat_le most count

-- what a call is answered at once, if anything: the first that fits
abbrev pub refusal : Rules → State → ClientRequest → Option NtStatus
refusal rules s q = first_some (
    when (is_none q.partition) InvalidHandle
    ∷ when s.removing DeletePending
    ∷ when (is_transfer q.kind && not (is_in_bounds rules q)) InvalidParameter
    ∷ when (is_transfer q.kind && (q.length == 0)) Success
    ∷ when (is_full rules.open_requests (length s.requests)) DeviceBusy
    ∷ [])

-- the number of bytes that come with a call
abbrev pub bytes_carried : Kind → ℕ → ℕ
bytes_carried Write length' = length'
bytes_carried Read length' = 0
bytes_carried Flush length' = 0

-- a request as it is opened: no place of it was sent, and it is late if the device is paused
abbrev pub new_request : Rules → State → ℕ → ClientRequest → OpenRequest
new_request rules s number q = record {
  number = number;
  request = q;
  cancelled = false;
  late = s.paused;
  busy_returns = 0;
  marks = replicate (place_count rules q) Untouched;
}

-- the request is open, under a number that was never given; a layer takes its packet's
pub record Opens (rules : Rules) (s : State) (number : ℕ) (q : ClientRequest) (s' : State) : Type 0 where
  pub new_number : s.next_request ≤ number
  pub not_refused : refusal rules s q ≡ None
  pub carries : length q.bytes ≡ bytes_carried q.kind q.length
  pub after : IsSame s' (record s { next_request = number + 1; requests = new_request rules s number q ∷ s.requests })

-- the call is owed this answer; the bytes of a write went back
pub record Refuses (s : State) (number : ℕ) (status : NtStatus) (q : ClientRequest) (s' : State) : Type 0 where
  pub no_bytes : q.bytes ≡ []
  pub after : IsSame s' (record s { next_request = number + 1; owed = Some (record { number = number; status = status }) })

-- a call that nothing refuses opens its request, and one that is refused is owed its answer
abbrev pub Admits : Rules → State → ℕ → ClientRequest → Option NtStatus → State → Type 0
Admits rules s number q None s' = Opens rules s number q s'
Admits rules s number q (Some status) s' = Refuses s number status q s'

-- a call takes the next number
pub record Calls (rules : Rules) (s : State) (number : ℕ) (q : ClientRequest) (s' : State) : Type 0 where
  pub next_number : number ≡ s.next_request
  pub admits : Admits rules s number q (refusal rules s q) s'

-- the answer that a refused call is owed
pub record AnswersRefused (s : State) (number : ℕ) (status : NtStatus) (informed : ℕ) (bytes : List ℕ) (s' : State) : Type 0 where
  pub is_owed : s.owed ≡ Some (record { number = number; status = status })
  pub none_moved : informed ≡ 0
  pub no_bytes : bytes ≡ []
  pub after : IsSame s' (record s { owed = None })
