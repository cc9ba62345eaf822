use Rattle.serving.proofs.Common.{◌∙◌, subst, sym, Error, IsStartFault}
use Rattle.serving.proofs.Opening.{array_is, fault_is}
use Rattle.serving.proofs.serving.start.Goals as goal

pub returns-in-Ok-clause-content : goal.returns-in-Ok-clause-content
returns-in-Ok-clause-content g c = c.new.ensures ∙ array_is c.args.config c.args.partition c.in-Ok.volume c.in-Ok.ensures.volume

pub returns-in-Err-clause-fault : goal.returns-in-Err-clause-fault
returns-in-Err-clause-fault g c =
    subst (λ (f : Error). IsStartFault c.args.config c.args.partition f) (sym c.open_fault.ensures)
    (fault_is c.args.config c.args.partition c.in-Err.fault c.in-Err.ensures.fault)
