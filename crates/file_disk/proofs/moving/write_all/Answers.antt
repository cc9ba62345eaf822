use Rattle.std.proofs.Common.{◌≡◌, Ok, Err, arith, rules, refl}
use Rattle.file_disk.proofs.CallByCall.{more_written, none_yet, rest_is, stops_writing, writes_whole}
use Rattle.file_disk.proofs.moving.write_all.Goals as goal

pub loop-done-init : goal.loop-done-init
loop-done-init g c = record { within = omega arith; writes = none_yet _ _ refl }

pub overflow_add-offset : goal.overflow_add-offset
overflow_add-offset g c = omega (arith, c.requires, c.loop-done.invariant.within)

pub loop-done-preserved : goal.loop-done-preserved
loop-done-preserved g c = record {
  within = omega (arith, c.in_ok-count.ensures.count);
  writes =
      more_written _ _ _ c.args.offset c.loop-done.done c.args.bytes.now _ (rest_is c.loop-done.done c.args.bytes.now) c.loop-done.invariant.writes c.in_ok-count.count c.in_ok-count.ensures.noted;
}

pub returns-in_err-count : goal.returns-in_err-count
returns-in_err-count g c =
    let given : c.from_residual.result ≡ Err c.in_err-count.field-0.0 = search rules in
    rw given (stops_writing _ _ _ c.args.offset c.loop-done.done c.args.bytes.now _ (rest_is c.loop-done.done c.args.bytes.now) c.loop-done.invariant.writes (Err c.in_err-count.field-0.0) c.in_err-count.field-0.0 refl c.in_err-count.ensures.noted)

pub returns-then-count-eq0 : goal.returns-then-count-eq0
returns-then-count-eq0 g c =
    stops_writing _ _ _ c.args.offset c.loop-done.done c.args.bytes.now _ (rest_is c.loop-done.done c.args.bytes.now) c.loop-done.invariant.writes (Ok c.in_ok-count.count) _ (search rules, refl) c.in_ok-count.ensures.noted

pub returns : goal.returns
returns g c = writes_whole _ _ c.args.offset c.loop-done.done c.args.bytes.now (omega (arith, c.loop-done.invariant.within)) c.loop-done.invariant.writes
