use Rattle.serving.proofs.Common.{◌≡◌, ◌⊎◌, ℕ, List, [], Err, refl, rules, sym, ap, subst, ◌∙◌, State, DiskView}
use Rattle.std.specs.Prelude.{IsTrue}
use Rattle.file_disk.specs.Calls.{Call, ReadsAll, Since}
use Rattle.serving.proofs.Failing.{fault_of_handle, fault_of_start, fault_of_table, no_partition}
use Rattle.machine.specs.Rules.{Rules}
use Rattle.serving.proofs.Beginning.{first_arrays, rules_at_first, stands_at_first, told_at_first, whole_at_first}
use Rattle.serving.proofs.on_disk.open_file.Goals as goal

pub invariant_of-result : goal.invariant_of-result
invariant_of-result g c = record {
  stands =
      c.in_ok-handle.ensures.stands c.new-disk.result
      (stands_at_first g.P.Pen.keeps c.args.config c.in_ok-first.first.items c.in_ok-stack.stack c.in_ok-stack.ensures.started c.new-disk.result (ap (λ (d : DiskView). d.sector_size) c.new-disk.ensures)
      (ap (λ (d : DiskView). d.sectors) c.new-disk.ensures));
  taken = c.in_ok-handle.ensures.taken;
  block = subst (λ (n : ℕ). (n ≡ 512) ⊎ (n ≡ 4096)) (sym c.in_ok-sizes.ensures.block) c.requires.sector_size;
  few = c.in_ok-sizes.ensures.few;
  unpaused = c.in_ok-handle.ensures.same_paused ∙ ap (λ (s : State). s.paused) c.in_ok-stack.ensures.started.first.state;
}

pub returns-clause-opened : goal.returns-clause-opened
returns-clause-opened g c = record {
  no_faults = c.has_faults.ensures.none c.if-has_faults.false;
  table = record {
    table = c.in_ok-first.first.items;
    long = c.in_ok-first.ensures.long;
    reads =
        subst (λ (calls : List Call). Since (g.S.Storage.calls c.args.storage) calls (ReadsAll 0 c.in_ok-first.first.items)) (sym (ap (λ (d : DiskView). d.calls) c.new-disk.ensures)) c.in_ok-first.ensures.reads;
    told = c.in_ok-first.ensures.told;
  };
  block = c.in_ok-sizes.ensures.block;
  write_protected = ap (λ (d : DiskView). d.write_protected) c.new-disk.ensures;
  told = c.in_ok-sizes.ensures.read_only;
  rules =
      c.in_ok-handle.ensures.rules
      ∙ rules_at_first g.P.Pen.keeps c.args.config c.in_ok-first.first.items c.in_ok-stack.stack c.in_ok-stack.ensures.started c.in_ok-first.ensures.told;
  on = c.in_ok-handle.ensures.on;
  bytes = c.in_ok-sizes.ensures.bytes;
  arrays = first_arrays g.P.Pen.keeps c.args.config c.in_ok-first.first.items c.in_ok-stack.stack c.in_ok-stack.ensures.started;
  trace = [];
  begins =
      c.in_ok-handle.ensures.told (first_arrays g.P.Pen.keeps c.args.config c.in_ok-first.first.items c.in_ok-stack.stack c.in_ok-stack.ensures.started) [] []
      (told_at_first g.P.Pen.keeps c.args.config c.in_ok-first.first.items c.in_ok-stack.stack c.in_ok-stack.ensures.started
      (ap (λ (r : Rules). r.faithful) (rules_at_first g.P.Pen.keeps c.args.config c.in_ok-first.first.items c.in_ok-stack.stack c.in_ok-stack.ensures.started c.in_ok-first.ensures.told))
      (whole_at_first g.P.Pen.keeps c.args.config c.in_ok-first.first.items c.in_ok-stack.stack c.in_ok-stack.ensures.started c.laws_of_arrays.ensures.keeps c.laws_of_arrays.ensures.opens c.shows_whole.ensures.reached));
  none_called = refl;
  stands =
      c.in_ok-handle.ensures.stands c.new-disk.result
      (stands_at_first g.P.Pen.keeps c.args.config c.in_ok-first.first.items c.in_ok-stack.stack c.in_ok-stack.ensures.started c.new-disk.result (ap (λ (d : DiskView). d.sector_size) c.new-disk.ensures)
      (ap (λ (d : DiskView). d.sectors) c.new-disk.ensures));
}

pub returns-clause-untold : goal.returns-clause-untold
returns-clause-untold g c = λ keeps.
    c.in_ok-handle.ensures.wrote
    (subst (λ (r : Rules). IsTrue r.keeps_bytes) (sym (rules_at_first g.P.Pen.keeps c.args.config c.in_ok-first.first.items c.in_ok-stack.stack c.in_ok-stack.ensures.started c.in_ok-first.ensures.told)) keeps)

-- WHERE IT FAILS

pub returns-then-has_faults-clause-fault : goal.returns-then-has_faults-clause-fault
returns-then-has_faults-clause-fault g c = (c.args.storage, (c.has_faults.ensures.some c.if-has_faults.true, refl))

pub returns-in_err-sizes-clause-fault : goal.returns-in_err-sizes-clause-fault
returns-in_err-sizes-clause-fault g c =
    let given : c.from_residual.result ≡ Err c.in_err-sizes.field-0.0 = search rules in
    rw given (c.args.storage, no_partition c.args.config c.args.partition (g.S.Storage.calls c.args.storage) c.in_err-sizes.field-0.0 (c.has_faults.ensures.none c.if-has_faults.false) c.in_err-sizes.ensures.fault)

pub returns-in_err-first-clause-fault : goal.returns-in_err-first-clause-fault
returns-in_err-first-clause-fault g c =
    let given : c.from_residual-in_err-first.result ≡ Err c.in_err-first.field-0.0 = search rules in
    rw given (
      c.checked_table.new.storage,
      fault_of_table c.args.config c.args.partition (g.S.Storage.calls c.args.storage) (g.S.Storage.calls c.checked_table.new.storage)
          (c.has_faults.ensures.none c.if-has_faults.false, c.in_ok-sizes.ensures.known) c.in_err-first.field-0.0 c.in_err-first.ensures.fault,
    )

pub returns-in_err-stack-clause-fault : goal.returns-in_err-stack-clause-fault
returns-in_err-stack-clause-fault g c =
    let given : c.from_residual-in_err-stack.result ≡ Err c.in_err-stack.field-0.0 = search (rules, c.from_residual-in_err-stack.ensures, c.in_err-stack.was, c.in_err-stack.is) in
    rw given (
      c.checked_table.new.storage,
      fault_of_start c.args.config c.args.partition (g.S.Storage.calls c.args.storage) (g.S.Storage.calls c.checked_table.new.storage)
          (c.has_faults.ensures.none c.if-has_faults.false, c.in_ok-sizes.ensures.known)
          (record { table = c.in_ok-first.first.items; long = c.in_ok-first.ensures.long; reads = c.in_ok-first.ensures.reads; told = c.in_ok-first.ensures.told }) c.in_err-stack.field-0.0 c.in_err-stack.ensures.fault,
    )

pub returns-in_err-handle-clause-fault : goal.returns-in_err-handle-clause-fault
returns-in_err-handle-clause-fault g c =
    let given : c.from_residual-in_err-handle.result ≡ Err c.in_err-handle.field-0.0 = search (rules, c.from_residual-in_err-handle.ensures, c.in_err-handle.was, c.in_err-handle.is) in
    rw given (
      c.checked_table.new.storage,
      fault_of_handle c.args.config c.args.partition (g.S.Storage.calls c.args.storage) (g.S.Storage.calls c.checked_table.new.storage)
          (c.has_faults.ensures.none c.if-has_faults.false, c.in_ok-sizes.ensures.known)
          (record { table = c.in_ok-first.first.items; long = c.in_ok-first.ensures.long; reads = c.in_ok-first.ensures.reads; told = c.in_ok-first.ensures.told }) g.P.Pen.keeps c.in_ok-stack.stack.rules
          (rules_at_first g.P.Pen.keeps c.args.config c.in_ok-first.first.items c.in_ok-stack.stack c.in_ok-stack.ensures.started c.in_ok-first.ensures.told) c.in_err-handle.field-0.0 c.in_err-handle.ensures.fault,
    )
