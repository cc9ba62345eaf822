-- A client's share of the calls of a traced stack.
use Rattle.std.specs.Prelude.{ℕ}
use Rattle.io_manager.specs.declared.Handle.{Handle}

-- a client's number, its handle, and how often it called
pub record ShareView : Type 0 where
  pub client : ℕ
  pub handle : Handle
  pub calls : ℕ
