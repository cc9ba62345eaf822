use Rattle.std.proofs.Common.{◌≡◌, Err, rules, subst, sym}
use Rattle.script_runs.specs.Runs.{AreGiven}
use Rattle.script_runs.specs.declared.faults.Error.TheVariants.{Script}
use Rattle.script_runs.proofs.Blaming.{by_bytes, by_lines, by_reading}
use Rattle.script_runs.proofs.Written.{given}
use Rattle.script_runs.proofs.running.run.Goals as goal

pub returns-in_err-script-clause-fault : goal.returns-in_err-script-clause-fault
returns-in_err-script-clause-fault g c =
    let told : c.from_residual-in_err-script.result ≡ Err c.in_err-script.field-0.0 = search rules in
    rw told (by_reading _ _ c.in_ok-config.config c.in_ok-config.ensures.read c.in_err-script.field-0.0 c.in_err-script.ensures.fault)

pub returns-in_default-clause-fault : goal.returns-in_default-clause-fault
returns-in_default-clause-fault g c =
    by_bytes _ _ c.in_ok-config.config c.in_ok-config.ensures.read c.as_slice.result.now c.in_ok-script.script.items c.in_ok-script.ensures.all c.as_slice.ensures.value c.in_default.ensures.cases.0

pub returns-in_err-lines-clause-fault : goal.returns-in_err-lines-clause-fault
returns-in_err-lines-clause-fault g c =
    let told : c.from_residual-in_err-lines.result ≡ Err (Script c.in_err-lines.field-0.0) = search rules in
    rw told (by_lines _ _ c.in_ok-config.config c.in_ok-config.ensures.read c.in-Ok.text.now c.as_slice.result.now c.in_ok-script.script.items c.in_err-lines.field-0.0
    c.in_ok-script.ensures.all c.in-Ok.ensures.cases.0 c.as_slice.ensures.value c.in_err-lines.ensures.fault)

pub returns-clause-text : goal.returns-clause-text
returns-clause-text g c =
    c.play_lines.ensures.text _ _ (subst (AreGiven _ _ _) (sym c.as_slice-2.ensures.value)
    (given _ _ _ c.in_ok-config.ensures.read c.in-Ok.text.now c.as_slice.result.now c.in_ok-script.script.items _ c.in_ok-script.ensures.all c.in-Ok.ensures.cases.0 c.as_slice.ensures.value c.in_ok-lines.ensures.events))

pub returns-clause-fault : goal.returns-clause-fault
returns-clause-fault g c =
    c.play_lines.ensures.fault _ _ (subst (AreGiven _ _ _) (sym c.as_slice-2.ensures.value)
    (given _ _ _ c.in_ok-config.ensures.read c.in-Ok.text.now c.as_slice.result.now c.in_ok-script.script.items _ c.in_ok-script.ensures.all c.in-Ok.ensures.cases.0 c.as_slice.ensures.value c.in_ok-lines.ensures.events))
