-- What an I/O manager shows of itself.
use Rattle.std.specs.Prelude.{ℕ, Bool, List, Option}
use Rattle.adapter.specs.View.{AdapterView}
use Rattle.machine.specs.declared.Label.{Label}
use Rattle.machine.specs.Rules.{Rules}
use Rattle.machine.specs.State.{State}
use Rattle.io_manager.specs.declared.Answer.{Answer}
use Rattle.io_manager.specs.declared.OpenHandle.{OpenHandle}

-- an open request at its slot: its number, and the number of the handle that it was called on
pub record Holder : Type 0 where
  pub number : ℕ
  pub handle : ℕ

-- a device stack as its user sees it
pub record ManagerView : Type 0 where
  pub rules : Rules
  pub state : State
  pub adapter : AdapterView
  -- the open handles, by slot
  pub handles : List (Option OpenHandle)
  pub next_handle : ℕ
  -- the open requests, by slot
  pub holders : List (Option Holder)
  -- the labels that were told and not taken yet, in order
  pub labels : List Label
  -- the answers that were not taken yet, of requests that were open, by rising numbers
  pub answers : List Answer
  -- whether labels are kept until they are taken; if not, contracts alone read them
  pub keeps : Bool
  -- how many items all tables have room for, here and below, before one has to grow
  pub places : ℕ
