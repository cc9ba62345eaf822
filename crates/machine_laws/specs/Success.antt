-- What SUCCESS means: for each place of the request, an act of a piece of its own. And what each act was asked for.
use Rattle.std.specs.Prelude.{◌≡◌, ◌<◌, ◌≤◌, ℕ, ◌+◌, ◌-◌, List, [], Some, IsTrue, All, Contains}
use Rattle.ntstatus.specs.declared.NtStatus.TheVariants.{Success}
use Rattle.cdb.specs.Meaning.{Means}
use Rattle.srb.specs.declared.DeviceLabel.TheVariants.{Start}
use Rattle.srb.specs.declared.Kind.{Kind}
use Rattle.srb.specs.declared.Kind.TheVariants.{Read, Write, Flush}
use Rattle.machine.specs.declared.ClientRequest.{ClientRequest}
use Rattle.machine.specs.declared.Label.{Label}
use Rattle.machine.specs.declared.Label.TheVariants.{Call, Device, Answer}
use Rattle.machine.specs.Rules.{Rules, is_transfer, place_count}
use Rattle.machine.specs.State.{OpenRequest, Piece, State, opening}
use Rattle.machine.specs.Sending.{partition_number, command_for}
use Rattle.machine.specs.Step.{Step, Run}
use Rattle.machine_laws.specs.Along.{Sometime}
use Rattle.machine_laws.specs.NumberLaws.{IsNoAnswerOf}
use Rattle.machine_laws.specs.Reached.{AreWhole, IsReached}
use Rattle.machine_laws.specs.Sectors.{sector_at, sector_of, part_of, bytes_for, IsAct}

-- WHAT SUCCESS MEANS

-- the label is the act of a piece of request r that covers the place, and of the act's bytes these are the place's
pub record MovesPlace (rules : Rules) (r place : ℕ) (sector : List ℕ) (s : State) (label : Label) (s' : State) : Type 0 where
  pub act : IsAct s label
  pub is_request : act.owner.number ≡ r
  pub from : act.piece.places.first ≤ place
  pub below : place < act.piece.places.first + act.piece.places.count
  pub hands_over : part_of rules act.bytes (place - act.piece.places.first) ≡ sector
  -- where acts read and write the arrays, the place's sector has these bytes then
  pub stands : IsTrue rules.faithful → IsTrue (is_transfer act.owner.request.kind)
      → sector_at s' (partition_number act.owner.request) (sector_of rules act.owner.request place) ≡ Some sector

-- the bytes due at a place: a read's answer gives them, a write's call brought them, and a flush has none
abbrev pub bytes_due : Rules → ClientRequest → Kind → List ℕ → ℕ → List ℕ
bytes_due rules q Read bytes place = part_of rules bytes place
bytes_due rules q Write bytes place = bytes_for rules q place
bytes_due rules q Flush bytes place = []

-- between a call and its answer SUCCESS, at each place of the request, a piece of it acted, with the bytes due there
abbrev pub AnsweredWasMoved : Type 0
AnsweredWasMoved = (rules : Rules) (number : ℕ) (q : ClientRequest) (informed : ℕ) (bytes : List ℕ) (before called : State) (labels : List Label) (ended after : State)
    → IsReached rules before → Step rules before (Call number q) called → (run : Run rules called labels ended) → Step rules ended (Answer number Success informed bytes) after
    → (place : ℕ) → place < place_count rules q → Sometime (MovesPlace rules number place (bytes_due rules q q.kind bytes place)) rules called labels ended run

-- WHAT AN ACT WAS ASKED FOR

-- the request was called and not yet answered, and a start asked for the piece: its block means just these places, which are the request's
pub record WasAsked (rules : Rules) (past : List Label) (o : OpenRequest) (piece : Piece) : Type 0 where
  pub called : Contains past (Call o.number o.request)
  pub not_answered : All (IsNoAnswerOf o.number) past
  pub block : List ℕ
  pub started : Contains past (Device (Start piece.number piece.tag block))
  pub asks : Means block (command_for rules o.request piece.places o.request.kind)
  pub some : 0 < piece.places.count
  pub inside : piece.places.first + piece.places.count ≤ place_count rules o.request

-- no piece acts that wasn't asked for, so none touches a place that isn't its request's
abbrev pub ActsWereAsked : Type 0
ActsWereAsked = (rules : Rules) (arrays : List (List (List ℕ))) (past : List Label) (s : State) (label : Label)
    → AreWhole rules arrays → Run rules (opening arrays) past s → (act : IsAct s label) → WasAsked rules past act.owner act.piece
