-- Answers: when a request has ended, and how.
use Rattle.std.specs.Prelude.{◌≡◌, ◌≤◌, ◌↔◌, ◌⊎◌, ℕ, Bool, true, false, List, [], ◌∷◌, map, IsTrue, All, IsPermutation, if◌then◌else◌}
use Rattle.std.specs.List.{list_all, concat}
use Rattle.ntstatus.specs.declared.NtStatus.{NtStatus}
use Rattle.ntstatus.specs.declared.NtStatus.TheVariants.{Success, Cancelled, DeviceBusy, NoSuchDevice, DeletePending}
use Rattle.srb.specs.declared.Kind.{Kind}
use Rattle.srb.specs.declared.Kind.TheVariants.{Read, Write, Flush}
use Rattle.machine.specs.declared.ClientRequest.{ClientRequest}
use Rattle.machine.specs.Rules.{Rules, is_transfer}
use Rattle.machine.specs.State.{Mark, Untouched, Out, Done, Failed, Back, OpenRequest, State, IsSame}

-- the place is done
abbrev pub is_done : Mark → Bool
is_done (Done sector) = true
is_done _ = false

-- why a place that waits will never be sent
abbrev pub IsGivenUp : State → OpenRequest → NtStatus → Type 0
IsGivenUp s o status =
    (IsTrue o.cancelled × (status ≡ Cancelled))
    ⊎ (IsTrue s.removing × (status ≡ (if o.late then DeletePending else NoSuchDevice)))

-- a status that a place not done gives its request
abbrev pub Cause : Rules → State → OpenRequest → Mark → NtStatus → Type 0
Cause rules s o (Failed failure) status = status ≡ failure
Cause rules s o Untouched status = IsGivenUp s o status
Cause rules s o Back status = IsGivenUp s o status ⊎ ((rules.busy_limit ≤ o.busy_returns) × (status ≡ DeviceBusy))
Cause rules s o Out status = ⊥
Cause rules s o (Done sector) status = ⊥

-- a place that is done, or has a cause not to be
abbrev pub HasEnded : Rules → State → OpenRequest → Mark → Type 0
HasEnded rules s o mark = IsTrue (is_done mark) ⊎ ((status : NtStatus) × Cause rules s o mark status)

-- the status is a cause of the lowest place that isn't done, if there is one
abbrev pub HasCause : Rules → State → OpenRequest → List Mark → NtStatus → Type 0
HasCause rules s o [] status = Unit {0}
HasCause rules s o (Done sector ∷ marks) status = HasCause rules s o marks status
HasCause rules s o (mark ∷ marks) status = Cause rules s o mark status

-- the bytes of a place that is done, and none of any other
abbrev pub bytes_of_mark : Mark → List ℕ
bytes_of_mark (Done sector) = sector
bytes_of_mark _ = []

-- the bytes of a read whose places are all done, else none
abbrev pub answer_bytes : Kind → List Mark → List ℕ
answer_bytes Read marks = if list_all is_done marks then concat (map bytes_of_mark marks) else []
answer_bytes Write marks = []
answer_bytes Flush marks = []

-- an open request that has ended is answered, and is open no more
pub record Answers (rules : Rules) (s : State) (number : ℕ) (status : NtStatus) (bytes : List ℕ) (s' : State) : Type 0 where
  pub request : OpenRequest
  pub others : List OpenRequest
  pub is_open : IsPermutation s.requests (request ∷ others)
  pub is_number : request.number ≡ number
  pub ended : All (HasEnded rules s request) request.marks
  pub success : (status ≡ Success) ↔ IsTrue (list_all is_done request.marks)
  pub cause : HasCause rules s request request.marks status
  pub hands_back : bytes ≡ answer_bytes request.request.kind request.marks
  pub after : IsSame s' (record s { requests = others })

-- the bytes that a request of this length has moved: all where it succeeds
abbrev pub information : ClientRequest → NtStatus → ℕ
information q Success = if is_transfer q.kind then q.length else 0
information q status = 0

-- an open request is answered, with the number of bytes that it moved
pub record AnswersWith (rules : Rules) (s : State) (number : ℕ) (status : NtStatus) (informed : ℕ) (bytes : List ℕ) (s' : State) : Type 0 where
  pub answers : Answers rules s number status bytes s'
  pub informs : informed ≡ information answers.request.request status
