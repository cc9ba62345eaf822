use Rattle.std.proofs.Common.{rules, sym, subst, ◌+◌, ◌≤◌}
use Rattle.disk.specs.declared.sparse_disk.SparseDisk.{SparseDisk}
use Rattle.disk.proofs.SparseShown.{reserved_from_there, reserved_near, shown_made, there_from_reserved, within_chunks}
use Rattle.disk.proofs.sparse_disk.SparseDiskMedium.reserve.Goals as goal

pub reserve-requires : goal.reserve-requires
reserve-requires c = within_chunks c.args.self.now c.args.extent c.requires

pub returns-in_err-reserve-clause-reserves : goal.returns-in_err-reserve-clause-reserves
returns-in_err-reserve-clause-reserves c = shown_made c.args.self.now c.reserve.new.self c.reserve.ensures.makes

pub returns-clause-reserved : goal.returns-clause-reserved
returns-clause-reserved c =
    let disk = c.args.self.now in
    let new : SparseDisk = record { chunks = c.reserve.new.self; bad = disk.bad } in
    reserved_from_there new c.args.extent
    (subst (λ n. c.args.extent.first + c.args.extent.count ≤ n) (sym c.reserve.ensures.makes.sizes.sectors) (within_chunks disk c.args.extent c.requires))
    c.in_ok-reserve.ensures.there

pub returns-clause-reserves : goal.returns-clause-reserves
returns-clause-reserves c = shown_made c.args.self.now c.reserve.new.self c.reserve.ensures.makes

pub returns-in_err-reserve-clause-near : goal.returns-in_err-reserve-clause-near
returns-in_err-reserve-clause-near c = reserved_near c.args.self.now c.reserve.new.self c.args.extent c.reserve.ensures.makes.sizes c.reserve.ensures.only

pub returns-clause-near : goal.returns-clause-near
returns-clause-near c = reserved_near c.args.self.now c.reserve.new.self c.args.extent c.reserve.ensures.makes.sizes c.reserve.ensures.only

pub returns-in_err-reserve-clause-ready : goal.returns-in_err-reserve-clause-ready
returns-in_err-reserve-clause-ready c = λ reserved. let ready = c.reserve.ensures.ready (there_from_reserved c.args.self.now c.args.extent reserved) in search rules
