use Rattle.traced.proofs.Common.{rules, ◌≡◌, ◌-◌, false, sym, ap, subst, length, vec_len, vec_capacity, is_call, LogView, MayNote}
use Rattle.traced.proofs.Noting.{stands, keeps, stays_ready}
use Rattle.traced.proofs.trace_log.TraceLog.note.Goals as goal

pub note_place-requires : goal.note_place-requires
note_place-requires g c =
    let p : LogView = record { entries = c.self.inside.trace.items; owners = c.self.inside.owners.items; room = c.self.inside.room; ready = c.self.inside.ready } in
    let may = subst (λ (p : LogView). MayNote (length g.N.TraceNaming.partitions) c.args.client p c.args.label) (sym c.self.view_is) c.requires.may in
    stands _ _ _ p _ _ c.self.invariant.kept c.self.invariant.ready may _ _ c.note_owner-row.ensures.owners c.note_owner-row.ensures.row

pub invariant_of-self : goal.invariant_of-self
invariant_of-self g c =
    let p : LogView = record { entries = c.self.inside.trace.items; owners = c.self.inside.owners.items; room = c.self.inside.room; ready = c.self.inside.ready } in
    let may = subst (λ (p : LogView). MayNote (length g.N.TraceNaming.partitions) c.args.client p c.args.label) (sym c.self.view_is) c.requires.may in
    let kept = c.self.invariant.kept in
    let ready = c.self.invariant.ready in
    let owners = c.note_owner-row.ensures.owners in
    let row = c.note_owner-row.ensures.row in
    let entries = c.push_reserved.ensures.items in
    let spare = λ (none : is_call c.args.label ≡ false). ap (λ v. vec_capacity v - vec_len v) (c.note_owner-row.ensures.no_call none) in
    record {
      whole = search rules;
      kept = keeps _ _ _ p _ _ kept ready may _ _ owners row _ _ entries (search rules);
      places = search rules;
      ready = stays_ready _ _ _ p _ _ kept ready may _ _ owners row _ _ entries (search rules) _ _ (search rules) spare;
    }
