use Rattle.std.proofs.Common.{◌≡◌, ℕ, ◌-◌, List, [], Ok, Err, length, take, arith, rules, refl, ap}
use Rattle.std.proofs.lemmas.List.{places}
use Rattle.file_disk.proofs.CallByCall.{more_read, none_yet, reads_whole, stops_reading}
use Rattle.file_disk.proofs.moving.read_all.Goals as goal

pub loop-done-init : goal.loop-done-init
loop-done-init g c = record { long = refl; within = omega arith; reads = none_yet _ _ refl }

pub overflow_add-offset : goal.overflow_add-offset
overflow_add-offset g c = omega (arith, c.requires, c.loop-done.invariant.within)

pub loop-done-preserved : goal.loop-done-preserved
loop-done-preserved g c =
    let i = c.loop-done.invariant in
    let n : ℕ = c.in_ok-count.count in
    let part : List ℕ = c.read_at.new.buffer in
    let whole : length part ≡ length c.args.buffer.now - c.loop-done.done = search (rules, places) in
    record {
      long = search (rules, places);
      within = omega (arith, c.in_ok-count.ensures.count);
      reads =
          more_read _ _ _ c.args.offset (length c.args.buffer.now) c.loop-done.done _ c.loop-done.buffer part i.long i.within whole (search (rules, places)) i.reads _ n (omega (arith, c.in_ok-count.ensures.count))
          c.in_ok-count.ensures.noted;
    }

pub returns-in_err-count : goal.returns-in_err-count
returns-in_err-count g c =
    let i = c.loop-done.invariant in
    let given : c.from_residual.result ≡ Err c.in_err-count.field-0.0 = search rules in
    let whole : length c.read_at.new.buffer ≡ length c.args.buffer.now - c.loop-done.done = search (rules, places) in
    rw given (stops_reading _ _ _ c.args.offset (length c.args.buffer.now) c.loop-done.done _ c.loop-done.buffer c.read_at.new.buffer i.long i.within whole (search (rules, places)) i.reads (Err c.in_err-count.field-0.0) c.in_err-count.field-0.0 refl c.in_err-count.ensures.noted)

pub returns-then-count-eq0 : goal.returns-then-count-eq0
returns-then-count-eq0 g c =
    let i = c.loop-done.invariant in
    let zero : c.in_ok-count.count ≡ 0 = search rules in
    let whole : length c.read_at.new.buffer ≡ length c.args.buffer.now - c.loop-done.done = search (rules, places) in
    let nothing : take c.in_ok-count.count c.read_at.new.buffer ≡ [] = ap (λ (n : ℕ). take n c.read_at.new.buffer) zero in
    stops_reading _ _ _ c.args.offset (length c.args.buffer.now) c.loop-done.done _ c.loop-done.buffer c.read_at.new.buffer i.long i.within whole (search (rules, places)) i.reads
    (Ok (take c.in_ok-count.count c.read_at.new.buffer)) _ (nothing, refl) c.in_ok-count.ensures.noted

pub returns : goal.returns
returns g c =
    reads_whole _ _ c.args.offset (length c.args.buffer.now) c.loop-done.done c.loop-done.buffer c.loop-done.invariant.long (omega (arith, c.loop-done.invariant.within)) c.loop-done.invariant.reads
