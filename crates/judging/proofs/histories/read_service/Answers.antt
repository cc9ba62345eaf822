use Rattle.std.proofs.Common.{rules}
use Rattle.judging.proofs.SaidOfHistories.{of_settings}
use Rattle.judging.proofs.histories.read_service.Goals as goal

pub returns-in_ok-service-in-Some-clause-service : goal.returns-in_ok-service-in-Some-clause-service
returns-in_ok-service-in-Some-clause-service g c =
    of_settings (g.C.Read.remaining c.in-Some.config) _ c.in_ok-config-in-Some.config c.in_ok-service-in-Some.service (search rules) c.in_ok-config-in-Some.ensures.read c.in_ok-service-in-Some.ensures
