use Rattle.std.proofs.Common.{◌≡◌, Bool, Err, refl, rules, subst}
use Rattle.startup.specs.declared.faults.Error.TheVariants.{Start}
use Rattle.startup.specs.Started.{IsStartOf}
use Rattle.script_runs.specs.declared.faults.Error.TheVariants.{Startup}
use Rattle.script_runs.proofs.Blaming.{begun, by_play}
use Rattle.script_runs.proofs.Written.{traced_bytes, written}
use Rattle.script_runs.proofs.running.play_lines.Goals as goal

pub returns-in_err-stack-clause-fault : goal.returns-in_err-stack-clause-fault
returns-in_err-stack-clause-fault g c settings script given =
    let told : c.from_residual.result ≡ Err (Startup (Start c.in_err-stack.field-0.0)) = search rules in
    rw told (c.args.config, c.args.lines.now, given, c.in_err-stack.ensures.fault)

pub play-requires-clause-bytes : goal.play-requires-clause-bytes
play-requires-clause-bytes g c = traced_bytes c.args.style c.args.config c.keeps_bytes.result c.in_ok-stack.stack c.keeps_bytes.ensures c.in_ok-stack.ensures.view

pub returns-clause-fault : goal.returns-clause-fault
returns-clause-fault g c settings script given =
    by_play _ _ c.args.config given.are_read c.args.lines.now c.in-Err.fault given c.in-Err.ensures.fault

pub returns-in-Ok-clause-text : goal.returns-in-Ok-clause-text
returns-in-Ok-clause-text g c settings script given =
    written _ _ _ given.are_read c.args.style _ _ _ _ _ _ given (refl)
    (subst (λ (keeps : Bool). IsStartOf keeps c.args.config c.in_ok-stack.stack) c.keeps_bytes.ensures c.in_ok-stack.ensures.view) c.in-Ok.ensures.text

pub returns-clause-untold : goal.returns-clause-untold
returns-clause-untold g c = begun _ _ c.in-Err.fault c.in-Err.ensures.fault
