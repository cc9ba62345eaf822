-- What comes no more after an answer, and after the end of a removal.
use Rattle.std.specs.Prelude.{◌≡◌, ◌≢◌, ℕ, List, [], All, IsTrue}
use Rattle.ntstatus.specs.declared.NtStatus.{NtStatus}
use Rattle.machine.specs.declared.Label.{Label}
use Rattle.machine.specs.declared.Label.TheVariants.{Device, Removed}
use Rattle.machine.specs.Rules.{Rules}
use Rattle.machine.specs.State.{OpenRequest, Piece, State, opening}
use Rattle.machine.specs.Answering.{Answers}
use Rattle.machine.specs.Step.{Step, Run}
use Rattle.machine_laws.specs.Sectors.{WritesSector}
use Rattle.machine_laws.specs.Along.{Sometime, Always}
use Rattle.machine_laws.specs.Reached.{IsReached}

abbrev pub HasOtherNumber : ℕ → OpenRequest → Type 0
HasOtherNumber number o = o.number ≢ number

abbrev pub HasOtherOwner : ℕ → Piece → Type 0
HasOtherOwner number piece = piece.owner ≢ number

-- the request is not open, and no piece of it is out
pub record IsOver (number : ℕ) (s : State) : Type 0 where
  pub not_open : All (HasOtherNumber number) s.requests
  pub none_out : All (HasOtherOwner number) s.pieces

-- an answered request is over for good
abbrev pub AnsweredAreOver : Type 0
AnsweredAreOver = (rules : Rules) (s : State) (number : ℕ) (status : NtStatus) (bytes : List ℕ) (answered : State) (labels : List Label) (s' : State)
    → IsReached rules s → Answers rules s number status bytes answered → (run : Run rules answered labels s') → Always (IsOver number) rules answered labels s' run

-- no piece of a request writes a sector after the request is answered
abbrev pub AnsweredWriteNoMore : Type 0
AnsweredWriteNoMore = (rules : Rules) (s : State) (number : ℕ) (status : NtStatus) (bytes : List ℕ) (answered : State) (labels : List Label) (s' : State)
    → IsReached rules s → Answers rules s number status bytes answered → (run : Run rules answered labels s') (p i : ℕ) → Sometime (WritesSector rules number p i) rules answered labels s' run → ⊥

-- nothing is open or out
pub record IsEmpty (s : State) : Type 0 where
  pub removing : IsTrue s.removing
  pub none_open : s.requests ≡ []
  pub none_out : s.pieces ≡ []

-- after a removal has ended, in any run from an opening state, nothing is open or out any more
abbrev pub RemovedAreEmpty : Type 0
RemovedAreEmpty = (rules : Rules) (arrays : List (List (List ℕ))) (before : List Label) (s removed : State) (after : List Label) (s' : State)
    → Run rules (opening arrays) before s → Step rules s Removed removed → (run : Run rules removed after s') → Always IsEmpty rules removed after s' run

-- no start, act, fault or return
abbrev pub IsNotOfDevice : Label → Type 0
IsNotOfDevice (Device label) = ⊥
IsNotOfDevice _ = Unit {0}

-- no label of the device follows the end of a removal
abbrev pub RemovedIsLast : Type 0
RemovedIsLast = (rules : Rules) (arrays : List (List (List ℕ))) (before : List Label) (s removed : State) (after : List Label) (s' : State)
    → Run rules (opening arrays) before s → Step rules s Removed removed → Run rules removed after s' → All IsNotOfDevice after
