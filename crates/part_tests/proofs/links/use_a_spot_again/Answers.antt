use Rattle.std.proofs.Common.{rules, ◌≡◌, length}
use Rattle.part_tests.proofs.Below.{vacant_in_none}
use Rattle.part_tests.proofs.links.use_a_spot_again.Goals as goal

pub push_back_at-requires-clause-vacant : goal.push_back_at-requires-clause-vacant
push_back_at-requires-clause-vacant g c =
    let none : length c.cover.new.self.entries ≡ 0 = search rules in vacant_in_none 0 c.cover.new.self.entries none
