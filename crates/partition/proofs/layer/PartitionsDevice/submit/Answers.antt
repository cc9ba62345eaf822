use Rattle.partition.proofs.Common.{vec_capacity, wanted_by, ◌≡◌, ◌∙◌, Some, sym, subst, Irp, Request, DeviceView, AsksInLocation, Carries, packet_of, request_at, room_at, whole_for, Submits, rules_over, shown_of}
use Rattle.partition.proofs.Hand.{IsUnder, under, same_wanted, ready_under}
use Rattle.partition.proofs.Submitting.{IsPassedOn, IsHandedDown, begins_within, handed_down, asks_in_location, carries_all, submits_over}
use Rattle.partition.proofs.layer.PartitionsDevice.submit.Goals as goal

pub unreachable-requires : goal.unreachable-requires
unreachable-requires g c =
    let r : Request = (request_at c.args.self.now.rooms c.args.room.spot) in
    let u : IsUnder c.self.inside.parts.table.items (wanted_by c.self.inside.parts.wanted.items (vec_capacity c.self.inside.parts.wanted)) (g.D.Shown.view c.self.inside.parts.device) c.args.room.spot (whole_for r) =
    under _ _ _ _ c.args.room.spot (whole_for r) c.self.invariant (subst (λ (x : DeviceView). room_at x.rooms c.args.room.spot ≡ Some (whole_for r)) (sym c.self.view_is) c.requires.ready) in
    c.in_default.not-Some r (c.wanted_at.ensures ∙ u.is_wanted)

pub extent_on_disk-extent-requires-clause-known : goal.extent_on_disk-extent-requires-clause-known
extent_on_disk-extent-requires-clause-known g c =
    let r : Request = (request_at c.args.self.now.rooms c.args.room.spot) in
    let u : IsUnder c.self.inside.parts.table.items (wanted_by c.self.inside.parts.wanted.items (vec_capacity c.self.inside.parts.wanted)) (g.D.Shown.view c.self.inside.parts.device) c.args.room.spot (whole_for r) =
    under _ _ _ _ c.args.room.spot (whole_for r) c.self.invariant (subst (λ (x : DeviceView). room_at x.rooms c.args.room.spot ≡ Some (whole_for r)) (sym c.self.view_is) c.requires.ready) in
    let same : c.in-Some.request ≡ r = same_wanted c.in-Some.request r (sym c.in-Some.is ∙ c.wanted_at.ensures ∙ u.is_wanted) in
    let under_it : IsUnder c.self.inside.parts.table.items (wanted_by c.self.inside.parts.wanted.items (vec_capacity c.self.inside.parts.wanted)) (g.D.Shown.view c.self.inside.parts.device) c.args.room.spot (whole_for c.in-Some.request) =
    subst (λ (q : Request). IsUnder c.self.inside.parts.table.items (wanted_by c.self.inside.parts.wanted.items (vec_capacity c.self.inside.parts.wanted)) (g.D.Shown.view c.self.inside.parts.device) c.args.room.spot (whole_for q)) (sym same) u in
    under_it.bounded.known

pub extent_on_disk-extent-requires-clause-fits : goal.extent_on_disk-extent-requires-clause-fits
extent_on_disk-extent-requires-clause-fits g c =
    let r : Request = (request_at c.args.self.now.rooms c.args.room.spot) in
    let u : IsUnder c.self.inside.parts.table.items (wanted_by c.self.inside.parts.wanted.items (vec_capacity c.self.inside.parts.wanted)) (g.D.Shown.view c.self.inside.parts.device) c.args.room.spot (whole_for r) =
    under _ _ _ _ c.args.room.spot (whole_for r) c.self.invariant (subst (λ (x : DeviceView). room_at x.rooms c.args.room.spot ≡ Some (whole_for r)) (sym c.self.view_is) c.requires.ready) in
    let same : c.in-Some.request ≡ r = same_wanted c.in-Some.request r (sym c.in-Some.is ∙ c.wanted_at.ensures ∙ u.is_wanted) in
    let under_it : IsUnder c.self.inside.parts.table.items (wanted_by c.self.inside.parts.wanted.items (vec_capacity c.self.inside.parts.wanted)) (g.D.Shown.view c.self.inside.parts.device) c.args.room.spot (whole_for c.in-Some.request) =
    subst (λ (q : Request). IsUnder c.self.inside.parts.table.items (wanted_by c.self.inside.parts.wanted.items (vec_capacity c.self.inside.parts.wanted)) (g.D.Shown.view c.self.inside.parts.device) c.args.room.spot (whole_for q)) (sym same) u in
    begins_within _ _ _ c.self.invariant.on_disk c.self.invariant.below under_it.bounded

pub submit-requires-clause-ready : goal.submit-requires-clause-ready
submit-requires-clause-ready g c =
    let r : Request = (request_at c.args.self.now.rooms c.args.room.spot) in
    let u : IsUnder c.self.inside.parts.table.items (wanted_by c.self.inside.parts.wanted.items (vec_capacity c.self.inside.parts.wanted)) (g.D.Shown.view c.self.inside.parts.device) c.args.room.spot (whole_for r) =
    under _ _ _ _ c.args.room.spot (whole_for r) c.self.invariant (subst (λ (x : DeviceView). room_at x.rooms c.args.room.spot ≡ Some (whole_for r)) (sym c.self.view_is) c.requires.ready) in
    ready_under c.self.inside.parts.table.items (wanted_by c.self.inside.parts.wanted.items (vec_capacity c.self.inside.parts.wanted)) (g.D.Shown.view c.self.inside.parts.device) c.args.room.spot r u

pub submit-requires-clause-own_location : goal.submit-requires-clause-own_location
submit-requires-clause-own_location g c =
    let r : Request = (request_at c.args.self.now.rooms c.args.room.spot) in
    let u : IsUnder c.self.inside.parts.table.items (wanted_by c.self.inside.parts.wanted.items (vec_capacity c.self.inside.parts.wanted)) (g.D.Shown.view c.self.inside.parts.device) c.args.room.spot (whole_for r) =
    under _ _ _ _ c.args.room.spot (whole_for r) c.self.invariant (subst (λ (x : DeviceView). room_at x.rooms c.args.room.spot ≡ Some (whole_for r)) (sym c.self.view_is) c.requires.ready) in
    let same : c.in-Some.request ≡ r = same_wanted c.in-Some.request r (sym c.in-Some.is ∙ c.wanted_at.ensures ∙ u.is_wanted) in
    let under_it : IsUnder c.self.inside.parts.table.items (wanted_by c.self.inside.parts.wanted.items (vec_capacity c.self.inside.parts.wanted)) (g.D.Shown.view c.self.inside.parts.device) c.args.room.spot (whole_for c.in-Some.request) =
    subst (λ (q : Request). IsUnder c.self.inside.parts.table.items (wanted_by c.self.inside.parts.wanted.items (vec_capacity c.self.inside.parts.wanted)) (g.D.Shown.view c.self.inside.parts.device) c.args.room.spot (whole_for q)) (sym same) u in
    let asks : AsksInLocation g.D.Shown.takes_srb c.in-Some.request c.args.irp.value =
    subst (λ (q : Request). AsksInLocation g.D.Shown.takes_srb q c.args.irp.value) (sym same) c.requires.own_location in
    let carries : Carries g.D.Shown.takes_srb (rules_over c.self.inside.parts.table.items (g.D.Shown.view c.self.inside.parts.device).rules) c.in-Some.request c.args.irp.value.payload =
    subst (λ (q : Request). Carries g.D.Shown.takes_srb (rules_over c.self.inside.parts.table.items (g.D.Shown.view c.self.inside.parts.device).rules) q c.args.irp.value.payload) (sym same)
    (subst (λ (x : DeviceView). Carries g.D.Shown.takes_srb x.rules r c.args.irp.value.payload) (sym c.self.view_is) c.requires.carries) in
    let passed : IsPassedOn c.in-Some.request.kind c.extent_on_disk-extent.result c.args.irp.value c.pass_on.new.irp =
    subst (λ (p : Irp). IsPassedOn c.in-Some.request.kind c.extent_on_disk-extent.result p c.pass_on.new.irp) c.deref_mut.ensures.value
    (record { locations = c.pass_on.ensures.locations; kept = c.pass_on.ensures.kept }) in
    let down : IsHandedDown c.self.inside.parts.table.items (g.D.Shown.view c.self.inside.parts.device) g.D.Shown.takes_srb c.in-Some.request (request_at (g.D.Shown.view c.self.inside.parts.device).rooms c.args.room.spot) c.extent_on_disk-extent.result c.args.irp.value c.pass_on.new.irp =
    handed_down _ c.self.inside.parts.table.items (wanted_by c.self.inside.parts.wanted.items (vec_capacity c.self.inside.parts.wanted)) (g.D.Shown.view c.self.inside.parts.device) g.D.Shown.takes_srb c.args.room.spot (whole_for c.in-Some.request) c.extent_on_disk-extent.result c.args.irp.value c.pass_on.new.irp
    c.self.invariant under_it c.extent_on_disk-extent.ensures asks carries passed in
    asks_in_location _ _ _ _ _ _ _ _ down

pub submit-requires-clause-carries : goal.submit-requires-clause-carries
submit-requires-clause-carries g c =
    let r : Request = (request_at c.args.self.now.rooms c.args.room.spot) in
    let u : IsUnder c.self.inside.parts.table.items (wanted_by c.self.inside.parts.wanted.items (vec_capacity c.self.inside.parts.wanted)) (g.D.Shown.view c.self.inside.parts.device) c.args.room.spot (whole_for r) =
    under _ _ _ _ c.args.room.spot (whole_for r) c.self.invariant (subst (λ (x : DeviceView). room_at x.rooms c.args.room.spot ≡ Some (whole_for r)) (sym c.self.view_is) c.requires.ready) in
    let same : c.in-Some.request ≡ r = same_wanted c.in-Some.request r (sym c.in-Some.is ∙ c.wanted_at.ensures ∙ u.is_wanted) in
    let under_it : IsUnder c.self.inside.parts.table.items (wanted_by c.self.inside.parts.wanted.items (vec_capacity c.self.inside.parts.wanted)) (g.D.Shown.view c.self.inside.parts.device) c.args.room.spot (whole_for c.in-Some.request) =
    subst (λ (q : Request). IsUnder c.self.inside.parts.table.items (wanted_by c.self.inside.parts.wanted.items (vec_capacity c.self.inside.parts.wanted)) (g.D.Shown.view c.self.inside.parts.device) c.args.room.spot (whole_for q)) (sym same) u in
    let asks : AsksInLocation g.D.Shown.takes_srb c.in-Some.request c.args.irp.value =
    subst (λ (q : Request). AsksInLocation g.D.Shown.takes_srb q c.args.irp.value) (sym same) c.requires.own_location in
    let carries : Carries g.D.Shown.takes_srb (rules_over c.self.inside.parts.table.items (g.D.Shown.view c.self.inside.parts.device).rules) c.in-Some.request c.args.irp.value.payload =
    subst (λ (q : Request). Carries g.D.Shown.takes_srb (rules_over c.self.inside.parts.table.items (g.D.Shown.view c.self.inside.parts.device).rules) q c.args.irp.value.payload) (sym same)
    (subst (λ (x : DeviceView). Carries g.D.Shown.takes_srb x.rules r c.args.irp.value.payload) (sym c.self.view_is) c.requires.carries) in
    let passed : IsPassedOn c.in-Some.request.kind c.extent_on_disk-extent.result c.args.irp.value c.pass_on.new.irp =
    subst (λ (p : Irp). IsPassedOn c.in-Some.request.kind c.extent_on_disk-extent.result p c.pass_on.new.irp) c.deref_mut.ensures.value
    (record { locations = c.pass_on.ensures.locations; kept = c.pass_on.ensures.kept }) in
    let down : IsHandedDown c.self.inside.parts.table.items (g.D.Shown.view c.self.inside.parts.device) g.D.Shown.takes_srb c.in-Some.request (request_at (g.D.Shown.view c.self.inside.parts.device).rooms c.args.room.spot) c.extent_on_disk-extent.result c.args.irp.value c.pass_on.new.irp =
    handed_down _ c.self.inside.parts.table.items (wanted_by c.self.inside.parts.wanted.items (vec_capacity c.self.inside.parts.wanted)) (g.D.Shown.view c.self.inside.parts.device) g.D.Shown.takes_srb c.args.room.spot (whole_for c.in-Some.request) c.extent_on_disk-extent.result c.args.irp.value c.pass_on.new.irp
    c.self.invariant under_it c.extent_on_disk-extent.ensures asks carries passed in
    carries_all _ _ _ _ _ _ _ _ down

pub invariant_of-self : goal.invariant_of-self
invariant_of-self g c =
    let r : Request = (request_at c.args.self.now.rooms c.args.room.spot) in
    let u : IsUnder c.self.inside.parts.table.items (wanted_by c.self.inside.parts.wanted.items (vec_capacity c.self.inside.parts.wanted)) (g.D.Shown.view c.self.inside.parts.device) c.args.room.spot (whole_for r) =
    under _ _ _ _ c.args.room.spot (whole_for r) c.self.invariant (subst (λ (x : DeviceView). room_at x.rooms c.args.room.spot ≡ Some (whole_for r)) (sym c.self.view_is) c.requires.ready) in
    let same : c.in-Some.request ≡ r = same_wanted c.in-Some.request r (sym c.in-Some.is ∙ c.wanted_at.ensures ∙ u.is_wanted) in
    let under_it : IsUnder c.self.inside.parts.table.items (wanted_by c.self.inside.parts.wanted.items (vec_capacity c.self.inside.parts.wanted)) (g.D.Shown.view c.self.inside.parts.device) c.args.room.spot (whole_for c.in-Some.request) =
    subst (λ (q : Request). IsUnder c.self.inside.parts.table.items (wanted_by c.self.inside.parts.wanted.items (vec_capacity c.self.inside.parts.wanted)) (g.D.Shown.view c.self.inside.parts.device) c.args.room.spot (whole_for q)) (sym same) u in
    let asks : AsksInLocation g.D.Shown.takes_srb c.in-Some.request c.args.irp.value =
    subst (λ (q : Request). AsksInLocation g.D.Shown.takes_srb q c.args.irp.value) (sym same) c.requires.own_location in
    let carries : Carries g.D.Shown.takes_srb (rules_over c.self.inside.parts.table.items (g.D.Shown.view c.self.inside.parts.device).rules) c.in-Some.request c.args.irp.value.payload =
    subst (λ (q : Request). Carries g.D.Shown.takes_srb (rules_over c.self.inside.parts.table.items (g.D.Shown.view c.self.inside.parts.device).rules) q c.args.irp.value.payload) (sym same)
    (subst (λ (x : DeviceView). Carries g.D.Shown.takes_srb x.rules r c.args.irp.value.payload) (sym c.self.view_is) c.requires.carries) in
    let passed : IsPassedOn c.in-Some.request.kind c.extent_on_disk-extent.result c.args.irp.value c.pass_on.new.irp =
    subst (λ (p : Irp). IsPassedOn c.in-Some.request.kind c.extent_on_disk-extent.result p c.pass_on.new.irp) c.deref_mut.ensures.value
    (record { locations = c.pass_on.ensures.locations; kept = c.pass_on.ensures.kept }) in
    let down : IsHandedDown c.self.inside.parts.table.items (g.D.Shown.view c.self.inside.parts.device) g.D.Shown.takes_srb c.in-Some.request (request_at (g.D.Shown.view c.self.inside.parts.device).rooms c.args.room.spot) c.extent_on_disk-extent.result c.args.irp.value c.pass_on.new.irp =
    handed_down _ c.self.inside.parts.table.items (wanted_by c.self.inside.parts.wanted.items (vec_capacity c.self.inside.parts.wanted)) (g.D.Shown.view c.self.inside.parts.device) g.D.Shown.takes_srb c.args.room.spot (whole_for c.in-Some.request) c.extent_on_disk-extent.result c.args.irp.value c.pass_on.new.irp
    c.self.invariant under_it c.extent_on_disk-extent.ensures asks carries passed in
    (submits_over _ _ _ _ _ _ _ _ down _ (wanted_by c.self.inside.parts.wanted.items (vec_capacity c.self.inside.parts.wanted)) (g.D.Shown.view c.submit.new.self) c.args.room.spot c.self.invariant under_it c.shows_order.ensures.order c.submit.ensures.submits).1

pub returns : goal.returns
returns g c =
    let r : Request = (request_at c.args.self.now.rooms c.args.room.spot) in
    let u : IsUnder c.self.inside.parts.table.items (wanted_by c.self.inside.parts.wanted.items (vec_capacity c.self.inside.parts.wanted)) (g.D.Shown.view c.self.inside.parts.device) c.args.room.spot (whole_for r) =
    under _ _ _ _ c.args.room.spot (whole_for r) c.self.invariant (subst (λ (x : DeviceView). room_at x.rooms c.args.room.spot ≡ Some (whole_for r)) (sym c.self.view_is) c.requires.ready) in
    let same : c.in-Some.request ≡ r = same_wanted c.in-Some.request r (sym c.in-Some.is ∙ c.wanted_at.ensures ∙ u.is_wanted) in
    let under_it : IsUnder c.self.inside.parts.table.items (wanted_by c.self.inside.parts.wanted.items (vec_capacity c.self.inside.parts.wanted)) (g.D.Shown.view c.self.inside.parts.device) c.args.room.spot (whole_for c.in-Some.request) =
    subst (λ (q : Request). IsUnder c.self.inside.parts.table.items (wanted_by c.self.inside.parts.wanted.items (vec_capacity c.self.inside.parts.wanted)) (g.D.Shown.view c.self.inside.parts.device) c.args.room.spot (whole_for q)) (sym same) u in
    let asks : AsksInLocation g.D.Shown.takes_srb c.in-Some.request c.args.irp.value =
    subst (λ (q : Request). AsksInLocation g.D.Shown.takes_srb q c.args.irp.value) (sym same) c.requires.own_location in
    let carries : Carries g.D.Shown.takes_srb (rules_over c.self.inside.parts.table.items (g.D.Shown.view c.self.inside.parts.device).rules) c.in-Some.request c.args.irp.value.payload =
    subst (λ (q : Request). Carries g.D.Shown.takes_srb (rules_over c.self.inside.parts.table.items (g.D.Shown.view c.self.inside.parts.device).rules) q c.args.irp.value.payload) (sym same)
    (subst (λ (x : DeviceView). Carries g.D.Shown.takes_srb x.rules r c.args.irp.value.payload) (sym c.self.view_is) c.requires.carries) in
    let passed : IsPassedOn c.in-Some.request.kind c.extent_on_disk-extent.result c.args.irp.value c.pass_on.new.irp =
    subst (λ (p : Irp). IsPassedOn c.in-Some.request.kind c.extent_on_disk-extent.result p c.pass_on.new.irp) c.deref_mut.ensures.value
    (record { locations = c.pass_on.ensures.locations; kept = c.pass_on.ensures.kept }) in
    let down : IsHandedDown c.self.inside.parts.table.items (g.D.Shown.view c.self.inside.parts.device) g.D.Shown.takes_srb c.in-Some.request (request_at (g.D.Shown.view c.self.inside.parts.device).rooms c.args.room.spot) c.extent_on_disk-extent.result c.args.irp.value c.pass_on.new.irp =
    handed_down _ c.self.inside.parts.table.items (wanted_by c.self.inside.parts.wanted.items (vec_capacity c.self.inside.parts.wanted)) (g.D.Shown.view c.self.inside.parts.device) g.D.Shown.takes_srb c.args.room.spot (whole_for c.in-Some.request) c.extent_on_disk-extent.result c.args.irp.value c.pass_on.new.irp
    c.self.invariant under_it c.extent_on_disk-extent.ensures asks carries passed in
    record {
      submits = subst (λ (x : DeviceView). Submits x (packet_of c.args.irp.value c.args.room.spot) r c.args.irp.value.payload (shown_of c.self.inside.parts.table.items (wanted_by c.self.inside.parts.wanted.items (vec_capacity c.self.inside.parts.wanted)) (g.D.Shown.view c.submit.new.self)))
          c.self.view_is
          (subst (λ (q : Request). Submits (shown_of c.self.inside.parts.table.items (wanted_by c.self.inside.parts.wanted.items (vec_capacity c.self.inside.parts.wanted)) (g.D.Shown.view c.self.inside.parts.device)) (packet_of c.args.irp.value c.args.room.spot) q c.args.irp.value.payload (shown_of c.self.inside.parts.table.items (wanted_by c.self.inside.parts.wanted.items (vec_capacity c.self.inside.parts.wanted)) (g.D.Shown.view c.submit.new.self))) same
          (submits_over _ _ _ _ _ _ _ _ down _ (wanted_by c.self.inside.parts.wanted.items (vec_capacity c.self.inside.parts.wanted)) (g.D.Shown.view c.submit.new.self) c.args.room.spot c.self.invariant under_it c.shows_order.ensures.order c.submit.ensures.submits).0);
    }
