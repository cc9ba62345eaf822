-- How handles are opened one after the other.
use Rattle.std.specs.Prelude.{◌≡◌, Contains, ◌<◌, ℕ, ◌+◌, [], Some, None, count_by, is_some, slice_index_or}
use Rattle.io_manager.specs.declared.Answer.{Answer}
use Rattle.io_manager.specs.declared.Handle.{Handle}
use Rattle.io_manager.specs.Calls.{handle_limit, status_of_refusal, open_refusal}
use Rattle.io_manager.specs.Right.{Updates}
use Rattle.io_manager.specs.Shown.{ManagerView}
use Rattle.traced.specs.declared.opening.OpenFault.{OpenFault}
use Rattle.traced.specs.declared.opening.OpenFault.TheVariants.{Refused, NoMemory}
use Rattle.traced.specs.Serving.{open_at}
use Rattle.traced.specs.Opening.{IsSame}

-- nothing but the handles changed
pub record KeepsAll (old new : ManagerView) : Type 0 where
  pub same_rules : new.rules ≡ old.rules
  pub same_state : new.state ≡ old.state
  pub no_labels : new.labels ≡ []
  pub same_open : (k : ℕ) → open_at new k ≡ open_at old k
  pub same_answers : (answer : Answer) → Contains new.answers answer → Contains old.answers answer

-- one more handle is open, under the next number and in a slot that was free
pub record OpensOne (old : ManagerView) (partition : ℕ) (handle : Handle) (new : ManagerView) : Type 0 where
  pub keeps : KeepsAll old new
  pub few : count_by is_some old.handles < handle_limit
  pub number : handle.number ≡ old.next_handle
  pub counted : new.next_handle ≡ old.next_handle + 1
  pub was_free : slice_index_or old.handles handle.slot None ≡ None
  pub opens : Updates old.handles new.handles handle.slot (Some (record { number = handle.number; partition = partition }))

-- no handle is opened, for this reason
abbrev pub RefusesOne : ManagerView → ℕ → OpenFault → ManagerView → Type 0
RefusesOne old partition NoMemory new = ⊥
RefusesOne old partition (Refused reason) new = (open_refusal old partition ≡ Some (status_of_refusal reason)) × IsSame old new
