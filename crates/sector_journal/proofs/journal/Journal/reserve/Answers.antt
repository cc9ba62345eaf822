use Rattle.sector_journal.proofs.Common.{rules, ◌≡◌, ℕ, ◌+◌, ◌∷◌, ◌++◌, [], refl, sym, ap, ◌∙◌, le_refl, sum_by, of_length, pieces_of, pieces_with, MediumView, promised_at, IsHeld}
use Rattle.sector_journal.proofs.Booked.{more_booked, still_booked}
use Rattle.sector_journal.proofs.Kept.{roomier_kept, admitted_kept}
use Rattle.sector_journal.proofs.Reserved.{reserves_none, near_seen, none_near, on_err, gains, admitted}
use Rattle.sector_journal.proofs.journal.Journal.reserve.Goals as goal

pub returns-in_err-reserve-clause-refused : goal.returns-in_err-reserve-clause-refused
returns-in_err-reserve-clause-refused g c =
    on_err c.from_residual.result (gains _ _ _ _ _ _ _ c.self.view_is (reserves_none _) (le_refl _) refl c.reserve.ensures.items (λ long. refl))

pub returns-in_err-reserve-2-clause-refused : goal.returns-in_err-reserve-2-clause-refused
returns-in_err-reserve-2-clause-refused g c =
    on_err c.from_residual-in_err-reserve-2.result (gains _ _ _ _ _ _ _ c.self.view_is (reserves_none _) c.reserve-2.ensures.capacity c.reserve-2.ensures.items c.reserve.ensures.items (λ long. refl))

pub invariant_of-self-in_err-hold : goal.invariant_of-self-in_err-hold
invariant_of-self-in_err-hold g c = record {
  kept = roomier_kept _ _ _ _ _ _ _ _ _ _ _ c.self.invariant.kept c.hold.ensures.reserves c.reserve-2.ensures.items c.reserve-2.ensures.capacity c.reserve.ensures.items;
  numbers = c.self.invariant.numbers;
  promised = c.self.invariant.promised ∙ ap (sum_by pieces_of) (sym c.reserve.ensures.items);
  entered = c.self.invariant.entered ∙ sym c.reserve-2.ensures.items;
  booked = still_booked (g.M.Medium.view c.self.inside.medium).sector_size _ c.self.inside.reservations.items _ c.self.inside.pool _ c.self.invariant.booked (ap (λ (v : MediumView). v.sector_size) c.hold.ensures.reserves.after) c.reserve.ensures.items (λ long. refl);
}

pub invariant_of-self-in_err-promise : goal.invariant_of-self-in_err-promise
invariant_of-self-in_err-promise g c = record {
  kept = roomier_kept _ _ _ _ _ _ _ _ _ _ _ c.self.invariant.kept c.hold.ensures.reserves c.reserve-2.ensures.items c.reserve-2.ensures.capacity c.reserve.ensures.items;
  numbers = c.self.invariant.numbers;
  promised = c.self.invariant.promised ∙ ap (sum_by pieces_of) (sym c.reserve.ensures.items);
  entered = c.self.invariant.entered ∙ sym c.reserve-2.ensures.items;
  booked =
      let same : (long : ℕ) → promised_at c.promise.new.pool long ≡ promised_at c.self.inside.pool long = search rules in
      still_booked (g.M.Medium.view c.self.inside.medium).sector_size _ c.self.inside.reservations.items _ c.self.inside.pool _ c.self.invariant.booked (ap (λ (v : MediumView). v.sector_size) c.hold.ensures.reserves.after) c.reserve.ensures.items same;
}

pub invariant_of-self-2 : goal.invariant_of-self-2
invariant_of-self-2 g c =
    let held : IsHeld (g.M.Medium.view c.hold.new.medium) (record { request = c.args.request; kind = c.args.kind; extent = c.args.extent; max_transfer = c.args.max_transfer }) = search rules in
    record {
      kept = admitted_kept _ _ _ _ _ _ _ _ _ _ _ _ c.self.invariant.kept c.hold.ensures.reserves c.reserve-2.ensures.items c.reserve-2.ensures.capacity held
          (c.push_reserved.ensures.items ∙ ap (λ rs. rs ++ (record { request = c.args.request; kind = c.args.kind; extent = c.args.extent; max_transfer = c.args.max_transfer }) ∷ []) c.reserve.ensures.items);
      numbers = c.self.invariant.numbers;
      promised =
          let wanted : c.in-Some.wanted ≡ c.self.inside.promised + c.pieces_in.result = search rules in
          admitted c.self.inside.reservations.items _ _ (record { request = c.args.request; kind = c.args.kind; extent = c.args.extent; max_transfer = c.args.max_transfer }) c.self.inside.promised c.pieces_in.result _ _
          c.self.invariant.promised c.pieces_in.ensures c.buffers-both.ensures.together wanted c.reserve.ensures.items c.push_reserved.ensures.items;
      entered = c.self.invariant.entered ∙ sym c.reserve-2.ensures.items;
      booked =
          let more : (long : ℕ) → promised_at c.promise.new.pool long ≡ promised_at c.self.inside.pool long + (of_length c.buffers-both.result.0.pieces c.buffers-both.result.0.length long + of_length c.buffers-both.result.1.pieces c.buffers-both.result.1.length long) = search rules in
          more_booked _ _ _ _ _ (record { request = c.args.request; kind = c.args.kind; extent = c.args.extent; max_transfer = c.args.max_transfer }) _ _
          (λ long. of_length c.buffers-both.result.0.pieces c.buffers-both.result.0.length long + of_length c.buffers-both.result.1.pieces c.buffers-both.result.1.length long)
          c.self.invariant.booked (ap (λ (v : MediumView). v.sector_size) c.hold.ensures.reserves.after) c.reserve.ensures.items c.push_reserved.ensures.items
          (λ long. c.buffers-both.ensures.lengths long ∙ ap (λ (n : ℕ). pieces_with n long (record { request = c.args.request; kind = c.args.kind; extent = c.args.extent; max_transfer = c.args.max_transfer })) c.sector_size.ensures) more;
    }

pub returns-in_default-clause-refused : goal.returns-in_default-clause-refused
returns-in_default-clause-refused g c = gains _ _ _ _ _ _ _ c.self.view_is (reserves_none _) (le_refl _) refl c.reserve.ensures.items (λ long. refl)

pub returns-in_err-reserve-clause-near : goal.returns-in_err-reserve-clause-near
returns-in_err-reserve-clause-near g c = near_seen _ _ c.args.kind c.args.extent _ c.self.view_is (none_near _ c.args.kind c.args.extent)

pub returns-in_err-reserve-2-clause-near : goal.returns-in_err-reserve-2-clause-near
returns-in_err-reserve-2-clause-near g c = near_seen _ _ c.args.kind c.args.extent _ c.self.view_is (none_near _ c.args.kind c.args.extent)

pub returns-in_default-clause-near : goal.returns-in_default-clause-near
returns-in_default-clause-near g c = near_seen _ _ c.args.kind c.args.extent _ c.self.view_is (none_near _ c.args.kind c.args.extent)

pub returns-in_err-hold-clause-near : goal.returns-in_err-hold-clause-near
returns-in_err-hold-clause-near g c = near_seen _ _ c.args.kind c.args.extent _ c.self.view_is c.hold.ensures.near

pub returns-in_err-promise-clause-near : goal.returns-in_err-promise-clause-near
returns-in_err-promise-clause-near g c = near_seen _ _ c.args.kind c.args.extent _ c.self.view_is c.hold.ensures.near

pub returns-clause-near : goal.returns-clause-near
returns-clause-near g c = near_seen _ _ c.args.kind c.args.extent _ c.self.view_is c.hold.ensures.near
