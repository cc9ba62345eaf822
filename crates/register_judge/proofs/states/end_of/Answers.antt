use Rattle.std.proofs.Common.{sym, ◌∙◌, ap}
use Rattle.std.specs.Prelude.{find, option_copied}
use Rattle.register_judge.specs.inside.States.{form_of, forms_of, is_number}
use Rattle.register_judge.proofs.Adding.{ends_still}
use Rattle.register_judge.proofs.states.end_of.Goals as goal

pub returns-in_ok-same-in-None : goal.returns-in_ok-same-in-None
returns-in_ok-same-in-None c =
    ends_still c.args.must c.args.number (form_of c.args.state.now) (form_of c.in_ok-same-in-None.same) (forms_of c.args.states.now.items) (forms_of c.add.new.states.items) c.add.result
    (sym (c.wait_of.ensures ∙ ap (find (is_number c.args.number)) c.as_slice.ensures.value) ∙ ap option_copied c.in-None.is) c.in_ok-same-in-None.ensures c.add.ensures
