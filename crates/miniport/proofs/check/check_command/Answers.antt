use Rattle.miniport.proofs.Rows.{Found, above_of, is_past, is_unfit, is_write_refused, is_left}
use Rattle.std.proofs.Common.{arith}
use Rattle.miniport.proofs.check.check_command.Goals as goal

pub returns-then-not-is_within : goal.returns-then-not-is_within
returns-then-not-is_within c =
    let past = above_of _ _ _ c.is_within.ensures c.if-not-is_within.true in
    rw c.failed_with.ensures (is_past c.args.sizes.now c.args.srb.now c.args.command (omega (arith, past, c.lba.ensures, c.blocks-2.ensures)))

pub returns-then-not-is_fitting : goal.returns-then-not-is_fitting
returns-then-not-is_fitting c =
    let within = c.is_within.ensures.0 c.if-not-is_within.false in
    let found : Found c.args.sizes.now c.args.srb.now c.args.command c.is_fitting.result = record { within = omega (arith, within, c.lba.ensures, c.blocks-2.ensures); tells = c.is_fitting.ensures } in
    rw c.was_invalid.ensures (is_unfit _ _ _ _ found c.if-not-is_fitting.true)

pub returns-then-is_protected : goal.returns-then-is_protected
returns-then-is_protected c =
    let within = c.is_within.ensures.0 c.if-not-is_within.false in
    let found : Found c.args.sizes.now c.args.srb.now c.args.command c.is_fitting.result = record { within = omega (arith, within, c.lba.ensures, c.blocks-2.ensures); tells = c.is_fitting.ensures } in
    rw c.failed_with-then-is_protected.ensures (is_write_refused _ _ _ _ _ found c.if-not-is_fitting.false c.is_protected.ensures c.if-is_protected.true)

pub returns : goal.returns
returns c =
    let within = c.is_within.ensures.0 c.if-not-is_within.false in
    let found : Found c.args.sizes.now c.args.srb.now c.args.command c.is_fitting.result = record { within = omega (arith, within, c.lba.ensures, c.blocks-2.ensures); tells = c.is_fitting.ensures } in
    is_left _ _ _ _ _ found c.if-not-is_fitting.false c.is_protected.ensures c.if-is_protected.false
