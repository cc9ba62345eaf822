use Rattle.std.proofs.Common.{◌≡◌, Err, sym, ◌∙◌, inl, rules}
use Rattle.toml.specs.View.{table_view}
use Rattle.settings.proofs.SettingFaults.{HasNumbers, at_lists, none_here, refused, refused_here}
use Rattle.settings.proofs.FirstFault.{passed}
use Rattle.settings.proofs.UsedPartitions.{all_used, as_few}
use Rattle.settings.proofs.document.of_table.Goals as goal
use Rattle.settings.proofs.document.of_table.Goals.{After-bad_sectors}

pub returns-clause-in_range : goal.returns-clause-in_range
returns-clause-in_range c = record {
  sector_size = c.in_ok-sector_size.ensures.sizes;
  sectors = c.in_ok-sectors.ensures.range;
  max_transfer = c.in_ok-max_transfer.ensures.range;
  depth = c.in_ok-depth.ensures.range;
  window = c.in_ok-window.ensures.range;
  open_requests = c.in_ok-open_requests.ensures.range;
  bad_sectors = c.in_ok-bad_sectors.ensures.range;
  few_partitions = as_few _ _ (sym c.has_few_partitions.ensures ∙ c.if-not-has_few_partitions.false) c.in_ok-partitions.ensures.value;
  partitions = all_used _ _ c.in_ok-partitions.ensures.value;
}

pub returns-clause-settings : goal.returns-clause-settings
returns-clause-settings c = record {
  known_keys = sym c.has_known_keys.ensures ∙ c.if-not-has_known_keys.false;
  sector_size = c.in_ok-sector_size.ensures.value;
  sectors = c.in_ok-sectors.ensures.value;
  max_transfer = c.in_ok-max_transfer.ensures.value;
  depth = c.in_ok-depth.ensures.value;
  window = c.in_ok-window.ensures.value;
  open_requests = c.in_ok-open_requests.ensures.value;
  write_protected = c.in_ok-write_protected.ensures.value;
  bad_sectors = c.in_ok-bad_sectors.ensures.value;
  faults = c.in_ok-faults.ensures.value;
  partitions = c.in_ok-partitions.ensures.value;
  in_range = returns-clause-in_range c;
}

numbers : (c : After-bad_sectors) → HasNumbers (table_view c.args.table.now) c.in_ok-sectors.sectors
numbers c = record {
  known_keys = sym c.has_known_keys.ensures ∙ c.if-not-has_known_keys.false;
  few_partitions = sym c.has_few_partitions.ensures ∙ c.if-not-has_few_partitions.false;
  sector_size = c.in_ok-sector_size.ensures.fault;
  sectors = c.in_ok-sectors.ensures.fault;
  sectors_is = c.in_ok-sectors.ensures.value;
  max_transfer = c.in_ok-max_transfer.ensures.fault;
  depth = c.in_ok-depth.ensures.fault;
  window = c.in_ok-window.ensures.fault;
  open_requests = c.in_ok-open_requests.ensures.fault;
  write_protected = c.in_ok-write_protected.ensures.fault;
}

pub returns-in_err-bad_sectors-clause-fault : goal.returns-in_err-bad_sectors-clause-fault
returns-in_err-bad_sectors-clause-fault c =
    let before = at_lists _ _ (numbers (goal.at.returns-in_err-bad_sectors-clause-fault c).After-bad_sectors) in
    let given : c.from_residual-in_err-bad_sectors.result ≡ Err c.in_err-bad_sectors.field-0.0 = search rules in
    rw before (refused_here _ _ _ _ _ c.in_err-bad_sectors.was given c.bad_sectors.ensures.fault)

pub returns-in_err-faults-clause-fault : goal.returns-in_err-faults-clause-fault
returns-in_err-faults-clause-fault c =
    let before = at_lists _ _ (numbers (goal.at.returns-in_err-faults-clause-fault c).After-bad_sectors) in
    let lists = none_here _ _ _ c.in_ok-bad_sectors.was c.bad_sectors.ensures.fault in
    let given : c.from_residual-in_err-faults.result ≡ Err c.in_err-faults.field-0.0 = search rules in
    rw (before, lists) (refused_here _ _ _ _ _ c.in_err-faults.was given c.fault_rules.ensures.fault)

pub returns-in_err-partitions-clause-fault : goal.returns-in_err-partitions-clause-fault
returns-in_err-partitions-clause-fault c =
    let before = at_lists _ _ (numbers (goal.at.returns-in_err-partitions-clause-fault c).After-bad_sectors) in
    let lists = none_here _ _ _ c.in_ok-bad_sectors.was c.bad_sectors.ensures.fault in
    let rules_here = none_here _ _ _ c.in_ok-faults.was c.fault_rules.ensures.fault in
    let given : c.from_residual-in_err-partitions.result ≡ Err c.in_err-partitions.field-0.0 = search rules in
    rw (before, lists, rules_here) (refused _ _ _ _ c.in_err-partitions.was given c.partitions.ensures.fault)

pub returns-clause-fault : goal.returns-clause-fault
returns-clause-fault c =
    let before = at_lists _ _ (numbers (goal.at.returns-clause-fault c).After-bad_sectors) in
    let lists = none_here _ _ _ c.in_ok-bad_sectors.was c.bad_sectors.ensures.fault in
    let rules_here = none_here _ _ _ c.in_ok-faults.was c.fault_rules.ensures.fault in
    let partitions = none_here _ _ _ c.in_ok-partitions.was c.partitions.ensures.fault in
    inl (sym (before ∙ passed _ _ lists ∙ passed _ _ rules_here ∙ partitions))
