use Rattle.serving.proofs.Common.{subst, Command, IsWithin}
use Rattle.serving.proofs.Filing.{clears_within}
use Rattle.serving.proofs.filed.FiledBacking.carry_out.Goals as goal

pub clear-requires : goal.clear-requires
clear-requires g c =
    clears_within c.args.self.now.sizes.block c.args.self.now.sizes.bytes c.in-WriteZeroes.offset c.in-WriteZeroes.count c.in-WriteZeroes.through
    (subst (λ (command : Command). IsWithin c.args.self.now.sizes.block c.args.self.now.sizes.bytes command) c.in-WriteZeroes.is c.requires.within) c.shows_few.ensures
