use Rattle.judge.specs.Next.{comes_after}
use Rattle.judge.proofs.Taking.{found_place, found_within, last_place}
use Rattle.judge.proofs.finding.place_for.Goals as goal

pub returns-in-Some-clause-is : goal.returns-in-Some-clause-is
returns-in-Some-clause-is c = found_place (comes_after c.args.number) c.args.requests.now c.in-Some.at c.in-Some.ensures

pub returns-in-Some-clause-within : goal.returns-in-Some-clause-within
returns-in-Some-clause-within c = found_within (comes_after c.args.number) c.args.requests.now c.in-Some.at c.in-Some.ensures

pub returns-in-None-clause-is : goal.returns-in-None-clause-is
returns-in-None-clause-is c = last_place (comes_after c.args.number) c.args.requests.now c.in-None.ensures
