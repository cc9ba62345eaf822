use Rattle.std.proofs.Common.{ℕ, List, length, drop, refl, subst, sym, ◌∙◌}
use Rattle.std.proofs.lemmas.List.{take_at}
use Rattle.miniport.proofs.OneSector.{disk_of, bad_elsewhere, elsewhere_bad, writes_one, writes_none}
use Rattle.disk.specs.Medium.{Writes}
use Rattle.miniport.proofs.first_sector.FirstSectorMedium.write.Goals as goal

pub returns-then-is_elsewhere-clause-refused : goal.returns-then-is_elsewhere-clause-refused
returns-then-is_elsewhere-clause-refused c = let disk = c.args.self.now in (
  λ _. elsewhere_bad disk.sector_size disk.sectors disk.failures disk.first.items c.args.extent disk.some c.requires.within (c.if-is_elsewhere.ensures.0 refl),
  λ _. refl,
)

pub returns-then-extent-eq1-clause-refused : goal.returns-then-extent-eq1-clause-refused
returns-then-extent-eq1-clause-refused c = let disk = c.args.self.now in (
  λ e. absurd (cc (e)),
  λ bad. c.if-is_elsewhere.ensures.1 (bad_elsewhere disk.sector_size disk.sectors disk.failures disk.first.items c.args.extent bad),
)

pub returns-then-extent-eq1-clause-writes : goal.returns-then-extent-eq1-clause-writes
returns-then-extent-eq1-clause-writes c = let disk = c.args.self.now in
    subst (λ (xs : List ℕ). Writes (disk_of disk.sector_size disk.sectors disk.first.items disk.failures) c.args.extent c.args.bytes.now (disk_of disk.sector_size disk.sectors xs disk.failures))
    (sym (take_at c.copy_from_slice.new.self (drop (length c.copy_from_slice.new.self) disk.first.items) disk.first.len (c.copy_from_slice.ensures.len ∙ c.as_mut_slice.ensures.len) ∙ c.copy_from_slice.ensures.after))
    (writes_one disk.sector_size disk.sectors disk.failures disk.first.items c.args.bytes.now c.args.extent (λ far. cc (c.if-is_elsewhere.ensures.1 far)) c.if-extent-eq1.true c.requires.long)

pub returns-else-extent-eq1-clause-writes : goal.returns-else-extent-eq1-clause-writes
returns-else-extent-eq1-clause-writes c = let disk = c.args.self.now in
    writes_none disk.sector_size disk.sectors disk.failures disk.first.items c.args.bytes.now c.args.extent (λ far. cc (c.if-is_elsewhere.ensures.1 far)) c.if-extent-eq1.false c.requires.long
