use Rattle.std.proofs.Common.{◌≡◌, inl, inr, refl, arith, rules}
use Rattle.settings.specs.Medium.{extents_of}
use Rattle.history_fitting.specs.declared.service.Service.{Service}
use Rattle.judging.proofs.histories.service_of.Goals as goal

pub returns : goal.returns
returns c =
    let config = c.args.config.now in
    let service : Service = record { sector_size = config.sector_size; partitions = c.in_ok-extents.field-0; longest = 65536 } in
    let partitions_are : extents_of config ≡ service.partitions.items = search rules in record {
      are_of = record { sector_size = refl; partitions = partitions_are; longest = refl };
      some = elim c.requires.sector_size [ inl e ↦ omega arith | inr e ↦ omega arith ];
    }
