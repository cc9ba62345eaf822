use Rattle.class_disk.proofs.Common.{◌≡◌, rules, ◌∙◌, ap, subst, arith, Irp, Climbs, AreLeft, lowest_status, payload_of, payload_up}
use Rattle.irp.specs.Climb.{above as locations_above}
use Rattle.class_disk.proofs.PartsLeft.{left_whole}
use Rattle.class_disk.proofs.requests.Transfer.complete.Goals as goal

pub returns : goal.returns
returns c =
    let irp : Irp = c.args.self.irp.value in
    let above = locations_above irp in
    let lent = c.args.self.lent in
    let noted = c.args.self.noted.bytes in
    let parts = c.args.self.parts.items in
    let told = c.information-information.result in
    let came : c.replace-payload.result ≡ irp.payload = c.replace-payload.ensures.value ∙ ap (λ (x : Irp). x.payload) c.deref_mut.ensures.value in
    let up : c.carried_up.result ≡ payload_up lent c.if-eq.joins (payload_of lent noted irp.payload) parts =
    c.carried_up.ensures.carries noted ∙ ap (λ p. payload_up lent c.if-eq.joins (payload_of lent noted p) c.deref_mut-2.result.now) came
    ∙ ap (payload_up lent c.if-eq.joins (payload_of lent noted irp.payload)) c.deref_mut-2.ensures.value in
    let now = c.deref_mut-3.ensures.value ∙ ap (λ (x : Irp). record x { payload = c.replace-payload.new.dest }) c.deref_mut.ensures.value in
    record {
      joins = c.if-eq.joins;
      informed = told;
      joins_if = search rules;
      joins_then = search rules;
      informs = search rules;
      climbs =
          subst (λ p. Climbs above irp.number irp.cancelled (lowest_status parts) told p c.complete.result) up
          (subst (λ s. Climbs above irp.number irp.cancelled s told c.carried_up.result c.complete.result) c.status-status.ensures
          (subst (λ (x : Irp). Climbs (locations_above (record x { payload = c.carried_up.result })) x.number x.cancelled c.status-status.result told c.carried_up.result c.complete.result)
          now c.complete.ensures.climbs));
      brings_routine = search rules;
      left = left_whole parts c.carried_up.new.parts c.args.self.parts.len (let n = c.args.self.parts.ok.0 in omega (arith, n))
          (subst (λ ps. AreLeft ps c.carried_up.new.parts) c.deref_mut-2.ensures.value c.carried_up.ensures.left);
    }
