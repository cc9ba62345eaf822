-- Runs of calls that are answered at once.
use Rattle.std.proofs.Common.{◌≡◌, ◌+◌, ℕ, true, List, [], ◌∷◌, Some, None, refl}
use Rattle.std.specs.Prelude.{IsNone}
use Rattle.std.specs.List.{AllByRecursion}
use Rattle.ntstatus.specs.declared.NtStatus.{NtStatus}
use Rattle.ntstatus.specs.declared.NtStatus.TheVariants.{Success, DeviceBusy, DeletePending, InvalidHandle, InvalidParameter}
use Rattle.machine.specs.declared.ClientRequest.{ClientRequest}
use Rattle.machine.specs.declared.Label.{Label}
use Rattle.machine.specs.declared.Label.TheVariants.{Call, Answer}
use Rattle.machine.specs.Rules.{Rules}
use Rattle.machine.specs.State.{State, Untouched, opening}
use Rattle.machine.specs.Calling.{refusal}
use Rattle.machine.specs.Step.{Run}
use Rattle.machine.proofs.Same.{IsSame-refl}
use Rattle.worked_runs.specs.Small.{small, zeros, idle, opened, read}
use Rattle.worked_runs.specs.Refused.{without_handle, RefusesClosedHandle, RefusesOutOfBounds, at_most_two, RefusesTooLong, ReadsNothing, one_open, RefusesOneMore, RefusesRemoved}
use Rattle.worked_runs.proofs.Steps.{called, paused, removing, removed, refused, told}

-- a call and the status that it is refused with
record Refused : Type 0 where
  call : ClientRequest
  status : NtStatus

abbrev of : ClientRequest → NtStatus → Refused
of call status = record { call = call; status = status }

-- the labels of calls from this number on, each with its answer
abbrev labels_of : ℕ → List Refused → List Label
labels_of number [] = []
labels_of number (r ∷ rs) = Call number r.call ∷ Answer number r.status 0 [] ∷ labels_of (number + 1) rs

abbrev numbered : State → ℕ → State
numbered s number = record s { next_request = number; owed = None }

abbrev after_all : State → List Refused → State
after_all s [] = s
after_all s (r ∷ rs) = after_all (numbered s (s.next_request + 1)) rs

abbrev IsRefused : Rules → State → Refused → Type 0
IsRefused rules s r = (refusal rules s r.call ≡ Some r.status) × (r.call.bytes ≡ [])

all_refused : (rules : Rules) (s : State) (rs : List Refused) → IsNone s.owed → AllByRecursion (IsRefused rules s) rs → Run rules s (labels_of s.next_request rs) (after_all s rs)
all_refused rules s [] free each = IsSame-refl s
all_refused rules s (r ∷ rs) free each = (
  _,
  refused rules s r.call r.status free each.0.0 each.0.1,
  (
    _,
    told rules _ s.next_request r.status refl,
    all_refused rules (numbered s (s.next_request + 1)) rs refl each.1,
  ),
)

pub refuses_closed_handle : RefusesClosedHandle
refuses_closed_handle = all_refused small (opening zeros) (of without_handle InvalidHandle ∷ []) refl ((refl, refl), tt)

pub refuses_out_of_bounds : RefusesOutOfBounds
refuses_out_of_bounds =
    all_refused small (opening zeros) (of (read 4 4) InvalidParameter ∷ of (read 1 2) InvalidParameter ∷ of (read 0 3) InvalidParameter ∷ []) refl ((refl, refl), ((refl, refl), ((refl, refl), tt)))

pub refuses_too_long : RefusesTooLong
refuses_too_long = all_refused at_most_two (opening zeros) (of (read 0 6) InvalidParameter ∷ []) refl ((refl, refl), tt)

pub reads_nothing : ReadsNothing
reads_nothing = all_refused small (opening zeros) (of (read 6 0) Success ∷ of (read 8 0) InvalidParameter ∷ []) refl ((refl, refl), ((refl, refl), tt))

pub refuses_one_more : RefusesOneMore
refuses_one_more =
    let opened_one : State = record (idle zeros 2 1) { requests = opened 1 (read 0 2) (Untouched ∷ []) ∷ [] } in
    (_, called one_open _ (read 0 2) refl refl refl, all_refused one_open opened_one (of (read 2 2) DeviceBusy ∷ []) refl ((refl, refl), tt))

pub refuses_removed : RefusesRemoved
refuses_removed =
    let gone : State = record (opening zeros) { removing = true; removed = true } in (
      _,
      paused small _ refl refl refl,
      (
        _,
        removing small _ refl refl,
        (
          _,
          removed small _ refl refl refl refl,
          all_refused small gone (of (read 0 2) DeletePending ∷ of (read 4 4) DeletePending ∷ of without_handle InvalidHandle ∷ []) refl ((refl, refl), ((refl, refl), ((refl, refl), tt))),
        ),
      ),
    )
