use Rattle.io_manager.proofs.Common.{◌≡◌, ◌<◌, ◌+◌, ◌/◌, ◌^◌, ℕ, sym, subst, arith, home, DeviceView, Extent, ManagerView, opened_as, asked_for, IsAdmissible, view_of}
use Rattle.io_manager.proofs.WouldOpen.{first_in_range, told_is}
use Rattle.io_manager.proofs.manager.IoManager.opened_by.Goals as goal

pub overflow_add-first : goal.overflow_add-first
overflow_add-first g c =
    let below : DeviceView = g.D.Shown.view c.self.inside.parts.device in
    let admissible : IsAdmissible (view_of c.self.inside.parts.limits below c.self.inside.parts.tables) (asked_for c.args.partition c.args.asked) =
    subst (λ (v : ManagerView). IsAdmissible v (asked_for c.args.partition c.args.asked)) (sym c.self.view_is) c.requires in
    let begins : c.first_sector.result ≡ home below.rules c.args.partition 0 = c.first_sector.ensures below.rules c.self.invariant.kept.sound.fits.firsts admissible.known in
    let in_range : home below.rules c.args.partition 0 + c.args.asked.offset / c.self.inside.parts.limits.sector_size < 2 ^ 64 =
    first_in_range c.self.inside.parts.limits below c.self.inside.parts.tables (asked_for c.args.partition c.args.asked) c.self.invariant.kept.sound admissible in
    omega (arith, begins, in_range)

pub returns : goal.returns
returns g c =
    let below : DeviceView = g.D.Shown.view c.self.inside.parts.device in
    let admissible : IsAdmissible (view_of c.self.inside.parts.limits below c.self.inside.parts.tables) (asked_for c.args.partition c.args.asked) =
    subst (λ (v : ManagerView). IsAdmissible v (asked_for c.args.partition c.args.asked)) (sym c.self.view_is) c.requires in
    subst (λ (v : ManagerView). ◌≡◌ {A = ℕ × Extent} (c.div_ceil-pieces.result, record { first = c.first_sector.result + c.args.asked.offset / c.self.inside.parts.limits.sector_size; count = c.args.asked.length / c.self.inside.parts.limits.sector_size }) (opened_as v.rules (asked_for c.args.partition c.args.asked))) c.self.view_is
    (told_is c.self.inside.parts.limits below c.self.inside.parts.tables (asked_for c.args.partition c.args.asked) c.first_sector.result c.place_count-places.result c.div_ceil-pieces.result c.self.invariant.kept.sound
    (c.first_sector.ensures below.rules c.self.invariant.kept.sound.fits.firsts admissible.known)
    (c.place_count-places.ensures below.rules c.args.partition (sym c.self.invariant.kept.sound.fits.sector_size)) c.div_ceil-pieces.ensures)
