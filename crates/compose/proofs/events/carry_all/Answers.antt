-- What was carried out so far is just the events that were taken.
use Rattle.compose.proofs.Common.{◌≡◌, ◌<◌, ◌≤◌, ◌+◌, false, List, [], ◌∷◌, ◌++◌, refl, sym, ◌∙◌, ap, subst, arith, length, length-append, take, eqb-true, ◌==◌, vec_len, vec_capacity, nat_tests, map-id, nil_from_length, YieldsList-from_vec, YieldsList-so_far, YieldsList-turn, ManagerView, Event, Shown, CarriesAll}
use Rattle.compose.proofs.Lawful.{CarriesAll-pushed}
use Rattle.compose.proofs.events.carry_all.Goals as goal

none_carried : (m : ManagerView) (events : List Event) (shown : List Shown) → length events ≡ 0 → shown ≡ [] → CarriesAll m events shown m
none_carried m events shown none is = subst (λ xs. CarriesAll m events xs m) (sym is) (subst (λ es. CarriesAll m es [] m) (sym (nil_from_length events none)) refl)

pub returns-then-is_empty-clause-carries : goal.returns-then-is_empty-clause-carries
returns-then-is_empty-clause-carries g c =
    let none : vec_len c.args.events ≡ 0 = eqb-true (vec_len c.args.events) 0 (sym c.is_empty.ensures ∙ c.if-is_empty.true) in
    let same : vec_len c.args.events ≡ length c.args.events.items = c.args.events.ok.0 in
    none_carried c.args.manager.now c.args.events.items c.new.result.items (omega arith) c.new.ensures.items

pub returns-in_default-clause-carries : goal.returns-in_default-clause-carries
returns-in_default-clause-carries g c =
    let some : (vec_len c.args.events == 0) ≡ false = sym c.is_empty.ensures ∙ c.if-is_empty.false in
    let positive : 0 < vec_len c.args.events = grind (arith, nat_tests) in
    let same : vec_len c.args.events ≡ length c.args.events.items = c.args.events.ok.0 in
    record {
      within = omega arith;
      carries = none_carried c.args.manager.now [] c.new-in_default.result.items refl c.new-in_default.ensures.items;
    }

pub returns-in_default-spare_labels-clause-carries : goal.returns-in_default-spare_labels-clause-carries
returns-in_default-spare_labels-clause-carries g c =
    let b = c.into_iter-event-iterator.ensures.into_iter_gives in
    let road = YieldsList-from_vec {s = c.into_iter-event-iterator.result} c.args.events.items b.0 (b.1 ∙ c.args.events.ok.0) in
    let so_far : c.loop-event.yielded ≡ take (length c.loop-event.yielded) c.args.events.items =
    sym (map-id c.loop-event.yielded) ∙ YieldsList-so_far road c.loop-event.yielded c.loop-event.event-iterator c.loop-event.yielded_by in
    let more : length c.loop-event.yielded < length c.args.events.items =
    (YieldsList-turn road c.loop-event.yielded c.loop-event.event-iterator c.loop-event.yielded_by c.next.result c.next.new.self c.in-Some.event c.in-Some.is c.next.ensures.steps).0 in
    let done : c.len-done.result ≡ length c.loop-event.yielded = c.len-done.ensures ∙ c.loop-event.invariant.counted in
    record {
      within = omega arith;
      carries =
          subst (λ (events : List Event). CarriesAll c.args.manager.now events c.loop-event.shown.items c.loop-event.manager) (so_far ∙ ap (λ n. take n c.args.events.items) (sym done))
          c.loop-event.invariant.carries;
    }

pub loop-event-preserved : goal.loop-event-preserved
loop-event-preserved g c =
    let counted : vec_len c.loop-event.shown ≡ length c.loop-event.yielded = c.loop-event.invariant.counted in
    let pushed : vec_len c.push_reserved.new.self ≡ vec_len c.loop-event.shown + 1 = c.push_reserved.ensures.len in
    let longer : length (c.loop-event.yielded ++ c.in-Some.event ∷ []) ≡ length c.loop-event.yielded + 1 = length-append c.loop-event.yielded (c.in-Some.event ∷ []) in
    let places : length c.args.events.items ≤ vec_capacity c.loop-event.shown = c.loop-event.invariant.places in
    let same : vec_capacity c.push_reserved.new.self ≡ vec_capacity c.loop-event.shown = c.push_reserved.ensures.capacity in
    record {
      taken = c.carry_out.ensures.taken;
      kept = c.carry_out.ensures.kept;
      bytes = c.carry_out.ensures.bytes;
      counted = omega arith;
      places = omega arith;
      carries =
          CarriesAll-pushed c.args.manager.now c.loop-event.yielded c.loop-event.shown.items c.push_reserved.new.self.items c.loop-event.manager c.in-Some.event c.carry_out.result
          c.carry_out.new.manager c.push_reserved.ensures.items c.loop-event.invariant.carries c.carry_out.ensures.carries;
    }
