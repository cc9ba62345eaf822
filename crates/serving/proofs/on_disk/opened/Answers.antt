use Rattle.serving.proofs.Common.{◌≡◌, List, [], sym, subst, ap, ◌∙◌, Label, ManagerView, Open, led, StandsIn, TellsOn, Wrote, shown_to}
use Rattle.serving.proofs.Carrying.{on_opened, open_silent, others_stand, others_told}
use Rattle.serving.proofs.Failing.{on_refused}
use Rattle.serving.proofs.Steady.{open_steady}
use Rattle.serving.proofs.on_disk.opened.Goals as goal

pub step-reply-requires : goal.step-reply-requires
step-reply-requires g c = record { taken = c.requires.taken }

pub returns-clause-stands : goal.returns-clause-stands
returns-clause-stands g c = λ disk s.
    subst (λ (v : ManagerView). StandsIn v disk) (sym c.step-reply.ensures.told.after)
    (others_stand c.laws_of_entries.ensures.kept c.laws_of_entries.ensures.apart (shown_to g.P.Pen.keeps c.args.stack.now) c.step-reply.ensures.told.stepped (Open c.args.partition) c.step-reply.result tt
    c.step-reply.ensures.told.right disk s)

pub returns-clause-told : goal.returns-clause-told
returns-clause-told g c =
    let silent : c.step-reply.ensures.told.stepped.labels ≡ [] =
    open_silent (shown_to g.P.Pen.keeps c.args.stack.now) c.step-reply.ensures.told.stepped c.args.partition c.step-reply.result c.step-reply.ensures.told.right in
    subst (λ (v : ManagerView). TellsOn (shown_to g.P.Pen.keeps c.args.stack.now) [] [] v) (sym c.step-reply.ensures.told.after)
    (subst (λ (ls : List Label). TellsOn (shown_to g.P.Pen.keeps c.args.stack.now) ls [] (record c.step-reply.ensures.told.stepped { labels = [] })) silent
    (others_told c.laws_of_entries.ensures.kept c.laws_of_entries.ensures.apart (shown_to g.P.Pen.keeps c.args.stack.now) c.step-reply.ensures.told.stepped (Open c.args.partition) c.step-reply.result tt
    c.step-reply.ensures.told.right tt))

pub returns-clause-same_paused : goal.returns-clause-same_paused
returns-clause-same_paused g c =
    ap (λ (v : ManagerView). v.state.paused) c.step-reply.ensures.told.after
    ∙ open_steady (shown_to g.P.Pen.keeps c.args.stack.now) c.step-reply.ensures.told.stepped c.args.partition c.step-reply.result c.step-reply.ensures.told.right

pub returns-clause-rules : goal.returns-clause-rules
returns-clause-rules g c =
    ap (λ (v : ManagerView). v.rules) c.step-reply.ensures.told.after
    ∙ (led (shown_to g.P.Pen.keeps c.args.stack.now) (Open c.args.partition) c.step-reply.result c.step-reply.ensures.told.stepped c.step-reply.ensures.told.right).by.same_rules

pub returns-clause-on : goal.returns-clause-on
returns-clause-on g c =
    on_opened (shown_to g.P.Pen.keeps c.args.stack.now) c.step-reply.ensures.told.stepped (shown_to g.P.Pen.keeps c.step-reply.new.stack) c.args.partition c.step-reply.ensures.told.after
    (returns-clause-rules g c) c.step-reply.result c.handle_in.result c.step-reply.ensures.told.right c.handle_in.ensures.handle

pub returns-clause-fault : goal.returns-clause-fault
returns-clause-fault g c =
    on_refused (shown_to g.P.Pen.keeps c.args.stack.now) c.step-reply.ensures.told.stepped c.args.partition c.step-reply.result c.handle_in.result c.step-reply.ensures.told.right c.handle_in.ensures.fault

pub returns-clause-wrote : goal.returns-clause-wrote
returns-clause-wrote g c = λ bytes.
    subst (λ (ls : List Label). Wrote (g.P.Pen.trace c.args.pen.now) ls (g.P.Pen.trace c.step-reply.new.self))
    (open_silent (shown_to g.P.Pen.keeps c.args.stack.now) c.step-reply.ensures.told.stepped c.args.partition c.step-reply.result c.step-reply.ensures.told.right)
    (c.step-reply.ensures.told.wrote bytes)
