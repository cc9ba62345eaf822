use Rattle.std.proofs.Common.{ap, refl, rules, ◌∙◌, map}
use Rattle.saddlemug.specs.InMemory.{partition_of}
use Rattle.saddlemug.proofs.InRange.{in_range}
use Rattle.saddlemug.proofs.memory_disk.filled.Goals as goal

pub returns-clause-in_range : goal.returns-clause-in_range
returns-clause-in_range c =
    in_range c.args.disk.now c.args.bad.now _ c.requires
    (record {
      sector_size = refl;
      sectors = refl;
      max_transfer = refl;
      depth = refl;
      window = refl;
      open_requests = refl;
      write_protected = refl;
      bad_sectors = c.in_ok-bad_sectors.ensures.items;
      no_rules = search rules;
      partitions = c.in_ok-partitions.ensures.all ∙ ap (map partition_of) c.told.ensures;
    })
    c.in_ok-partitions.ensures.bytes
