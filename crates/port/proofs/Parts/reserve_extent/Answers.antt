use Rattle.std.proofs.Common.{inl}
use Rattle.adapter.proofs.Joining.{reserves_none}
use Rattle.port.proofs.Parts.reserve_extent.Goals as goal

pub returns-then-ne-clause-reserves : goal.returns-then-ne-clause-reserves
returns-then-ne-clause-reserves g c = reserves_none _

pub returns-then-ne-clause-near : goal.returns-then-ne-clause-near
returns-then-ne-clause-near g c = λ sector covered. inl covered
