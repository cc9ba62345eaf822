use Rattle.std.proofs.Common.{rules, ◌≡◌, ◌≢◌, ℕ, ◌<◌, ◌+◌, ◌-◌, ◌^◌, length, vec_capacity, true, refl, sym, ◌∙◌}
use Rattle.sector_journal.proofs.Common.{list_any, covers, IsFree, armed_count, pieces_at}
use Rattle.sector_journal.proofs.Booked.{still_booked}
use Rattle.sector_journal.proofs.Covered.{AlwaysNames, can_enter, may_arm, arms, one_longer}
use Rattle.sector_journal.proofs.Kept.{armed_kept}
use Rattle.sector_journal.proofs.journal.Journal.arm.Goals as goal

pub invariant_of-self-2 : goal.invariant_of-self-2
invariant_of-self-2 g c =
    let free : IsFree c.self.inside.slots c.args.tag = search rules in
    let covered : list_any (covers c.in-Some.kind c.in-Some.extent) c.self.inside.reservations.items ≡ true = search rules in
    let place : length c.self.inside.entries.items + armed_count c.self.inside.slots < vec_capacity c.self.inside.entries = search rules in
    let names : AlwaysNames c.args.srb.now.block (c.in-Some.kind, c.in-Some.extent) = λ command means. sym c.in-Some.is ∙ c.named_in.ensures.by_meaning command (rw c.as_slice.ensures.value means) in
    record {
      kept = armed_kept _ _ _ _ _ _ _ _ _ c.args.tag _ c.self.invariant.kept free refl c.self.invariant.numbers
          (can_enter _ c.in-Some.kind c.in-Some.extent _ c.args.srb.now _ names covered c.self.invariant.kept.held c.own_srb.ensures) place c.put.ensures c.add.ensures;
      numbers = one_longer _ _ _ _ c.self.invariant.numbers c.add.ensures;
      promised = c.self.invariant.promised;
      entered = c.self.invariant.entered;
      booked = still_booked (g.M.Medium.view c.self.inside.medium).sector_size _ c.self.inside.reservations.items _ c.self.inside.pool _ c.self.invariant.booked refl refl c.take.ensures.booked;
    }

pub returns-clause-decides : goal.returns-clause-decides
returns-clause-decides g c =
    let free : IsFree c.self.inside.slots c.args.tag = search rules in
    let covered : list_any (covers c.in-Some.kind c.in-Some.extent) c.self.inside.reservations.items ≡ true = search rules in
    let place : length c.self.inside.entries.items + armed_count c.self.inside.slots < vec_capacity c.self.inside.entries = search rules in
    let number : length c.self.inside.armed < 2 ^ 64 - 1 = search rules in
    let less : pieces_at c.take.new.self (length c.args.srb.now.data) + 1 ≡ pieces_at c.self.inside.pool (length c.args.srb.now.data) = search rules in
    ((λ yes'. may_arm _ _ c.args.tag c.args.piece c.in-Some.kind c.in-Some.extent c.args.srb.now c.self.view_is (search rules) free covered c.take.new.self less place number), λ may. refl)

pub returns-clause-arms : goal.returns-clause-arms
returns-clause-arms g c =
    let names : AlwaysNames c.args.srb.now.block (c.in-Some.kind, c.in-Some.extent) = λ command means. sym c.in-Some.is ∙ c.named_in.ensures.by_meaning command (rw c.as_slice.ensures.value means) in
    let less : pieces_at c.take.new.self (length c.args.srb.now.data) + 1 ≡ pieces_at c.self.inside.pool (length c.args.srb.now.data) = search rules in
    let others : (long : ℕ) → long ≢ length c.args.srb.now.data → pieces_at c.take.new.self long ≡ pieces_at c.self.inside.pool long = search rules in
    arms _ _ c.args.tag c.args.piece c.in-Some.kind c.in-Some.extent c.args.srb.now c.self.view_is _ _ _ _ names c.own_srb.ensures refl refl c.self.invariant.numbers less others c.put.ensures c.add.ensures
