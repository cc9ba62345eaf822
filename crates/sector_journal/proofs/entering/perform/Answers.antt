use Rattle.sector_journal.proofs.Common.{refl, inl, inr, Read10, Write10, Read16, Write16, Passes, sizes_of, read_ends, write_ends, sync_ends, long_sync_ends}
use Rattle.sector_journal.proofs.entering.perform.Goals as goal

pub write-requires-clause-reserved : goal.write-requires-clause-reserved
write-requires-clause-reserved g c =
    let passes : Passes (sizes_of (g.M.Medium.view c.args.medium.now) c.requires.passes.0) c.args.srb (Write10 c.in-Write10.lba c.in-Write10.count c.in-Write10.fua) =
    rw c.in-Write10.is at c.requires.passes.1 in
    c.requires.ready c.in-Write10.lba c.in-Write10.count c.in-Write10.fua (inl passes.means) passes.fits.within

pub write-requires-in-Write16-clause-reserved : goal.write-requires-in-Write16-clause-reserved
write-requires-in-Write16-clause-reserved g c =
    let passes : Passes (sizes_of (g.M.Medium.view c.args.medium.now) c.requires.passes.0) c.args.srb (Write16 c.in-Write16.lba c.in-Write16.count c.in-Write16.fua) =
    rw c.in-Write16.is at c.requires.passes.1 in
    c.requires.ready c.in-Write16.lba c.in-Write16.count c.in-Write16.fua (inr passes.means) passes.fits.within

pub returns-in-Read10 : goal.returns-in-Read10
returns-in-Read10 g c = λ p passes.
    read_ends (g.M.Medium.view c.args.medium.now) p c.args.srb (Read10 c.in-Read10.lba c.in-Read10.count c.in-Read10.fua) _ _ refl
    (g.met.M.Medium.whole c.args.medium.now) (rw c.in-Read10.is at passes) c.read.ensures

pub returns-in-Read16 : goal.returns-in-Read16
returns-in-Read16 g c = λ p passes.
    read_ends (g.M.Medium.view c.args.medium.now) p c.args.srb (Read16 c.in-Read16.lba c.in-Read16.count c.in-Read16.fua) _ _ refl
    (g.met.M.Medium.whole c.args.medium.now) (rw c.in-Read16.is at passes) c.read-in-Read16.ensures

pub returns-in-Write10 : goal.returns-in-Write10
returns-in-Write10 g c = λ p passes.
    write_ends (g.M.Medium.view c.args.medium.now) p c.args.srb (Write10 c.in-Write10.lba c.in-Write10.count c.in-Write10.fua) _ _ refl
    (rw c.in-Write10.is at passes) c.write.ensures

pub returns-in-Write16 : goal.returns-in-Write16
returns-in-Write16 g c = λ p passes.
    write_ends (g.M.Medium.view c.args.medium.now) p c.args.srb (Write16 c.in-Write16.lba c.in-Write16.count c.in-Write16.fua) _ _ refl
    (rw c.in-Write16.is at passes) c.write-in-Write16.ensures

pub returns-in-Sync10 : goal.returns-in-Sync10
returns-in-Sync10 g c = λ p passes.
    sync_ends (g.M.Medium.view c.args.medium.now) p c.args.srb c.in-Sync10.lba c.in-Sync10.blocks (rw c.in-Sync10.is at passes)

pub returns-in-Sync16 : goal.returns-in-Sync16
returns-in-Sync16 g c = λ p passes.
    long_sync_ends (g.M.Medium.view c.args.medium.now) p c.args.srb c.in-Sync16.lba c.in-Sync16.blocks (rw c.in-Sync16.is at passes)
