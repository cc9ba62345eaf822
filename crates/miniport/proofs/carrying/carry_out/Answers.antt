use Rattle.miniport.proofs.Sectors.{refused_ends}
use Rattle.miniport.proofs.carrying.carry_out.Goals as goal

pub returns-in-Err : goal.returns-in-Err
returns-in-Err g c = refused_ends (g.M.Medium.view c.args.medium.now) c.args.write_protected c.args.srb c.in-Err.completion c.in-Err.ensures
