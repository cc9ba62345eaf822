use Rattle.sector_journal.proofs.Common.{rules, ◌≡◌, ℕ, ◌<◌, ◌-◌, None, length, sym, ap, ◌∙◌, position, is_of, of_length, pieces_with, armed_with}
use Rattle.sector_journal.proofs.Booked.{AreBooked, less_booked, releases, releases_none, withdrawn, withdrawn_twice}
use Rattle.sector_journal.proofs.Kept.{released_kept, held_at}
use Rattle.sector_journal.proofs.Reserved.{released}
use Rattle.sector_journal.proofs.journal.Journal.release.Goals as goal

pub buffers-requires : goal.buffers-requires
buffers-requires g c =
    let low : c.in-Some.at < length c.self.inside.reservations.items = search rules in
    held_at _ c.self.inside.reservations.items c.in-Some.at c.remove-reservation.result c.self.invariant.kept.held low c.remove-reservation.ensures.value

pub invariant_of-self : goal.invariant_of-self
invariant_of-self g c = record {
  kept = released_kept _ _ _ _ _ _ _ _ c.in-Some.at c.self.invariant.kept c.remove-reservation.ensures.items;
  numbers = c.self.invariant.numbers;
  promised =
      let low : c.in-Some.at < length c.self.inside.reservations.items = search rules in
      let less : c.saturating_sub-self-inside.result ≡ c.self.inside.promised - c.buffers.result.0.pieces - c.buffers.result.1.pieces = search rules in
      less
      ∙ released c.self.inside.reservations.items _ c.in-Some.at c.remove-reservation.result c.self.inside.promised _ _ low c.remove-reservation.ensures.value c.remove-reservation.ensures.items c.self.invariant.promised
      c.buffers.ensures.together;
  entered = c.self.invariant.entered;
  booked =
      let low : c.in-Some.at < length c.self.inside.reservations.items = search rules in
      less_booked (g.M.Medium.view c.self.inside.medium).sector_size c.self.inside.reservations.items _ c.in-Some.at c.remove-reservation.result c.self.inside.pool _ _ (λ long. of_length c.buffers.result.0.pieces c.buffers.result.0.length long)
      (λ long. of_length c.buffers.result.1.pieces c.buffers.result.1.length long) c.self.invariant.booked low c.remove-reservation.ensures.value c.remove-reservation.ensures.items
      (λ long. c.buffers.ensures.lengths long ∙ ap (λ (n : ℕ). pieces_with n long c.remove-reservation.result) c.sector_size.ensures) c.withdraw.ensures.booked c.withdraw-2.ensures.booked;
}

pub returns : goal.returns
returns g c =
    let low : c.in-Some.at < length c.self.inside.reservations.items = search rules in
    let booked : AreBooked (g.M.Medium.view c.self.inside.medium).sector_size c.remove-reservation.new.self.items c.withdraw-2.new.self =
    less_booked (g.M.Medium.view c.self.inside.medium).sector_size c.self.inside.reservations.items _ c.in-Some.at c.remove-reservation.result c.self.inside.pool _ _ (λ long. of_length c.buffers.result.0.pieces c.buffers.result.0.length long)
    (λ long. of_length c.buffers.result.1.pieces c.buffers.result.1.length long) c.self.invariant.booked low c.remove-reservation.ensures.value c.remove-reservation.ensures.items
    (λ long. c.buffers.ensures.lengths long ∙ ap (λ (n : ℕ). pieces_with n long c.remove-reservation.result) c.sector_size.ensures) c.withdraw.ensures.booked c.withdraw-2.ensures.booked in
    releases _ _ c.args.request c.in-Some.at c.remove-reservation.new.self.items c.withdraw-2.new.self c.self.view_is (ap (position (is_of c.args.request)) (sym c.as_slice.ensures.value) ∙ sym c.find_request.ensures ∙ c.in-Some.is) c.remove-reservation.ensures.items booked
    (withdrawn_twice (armed_with c.self.inside.slots) _ _ _ (λ long. of_length c.buffers.result.1.pieces c.buffers.result.1.length long)
    (withdrawn (armed_with c.self.inside.slots) _ _ c.buffers.result.0.pieces c.buffers.result.0.length _ c.armed_with.ensures c.withdraw.ensures.trimmed c.withdraw.ensures.others)
    (withdrawn (armed_with c.self.inside.slots) _ _ c.buffers.result.1.pieces c.buffers.result.1.length _ c.armed_with-2.ensures c.withdraw-2.ensures.trimmed c.withdraw-2.ensures.others) c.withdraw-2.ensures.booked)

pub returns-in_default : goal.returns-in_default
returns-in_default g c =
    let none : c.find_request.result ≡ None = search rules in
    releases_none _ _ c.args.request c.self.view_is (ap (position (is_of c.args.request)) (sym c.as_slice.ensures.value) ∙ sym c.find_request.ensures ∙ none)
