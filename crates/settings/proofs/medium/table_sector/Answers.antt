use Rattle.std.proofs.Common.{◌∙◌}
use Rattle.settings.proofs.NewDisk.{entries_are, padded_says, padded_table}
use Rattle.settings.proofs.medium.table_sector.Goals as goal

pub returns-clause-bytes : goal.returns-clause-bytes
returns-clause-bytes c =
    padded_table c.args.config.now.sector_size c.as_slice-2.result.now _ c.render-table.result.items c.as_slice-3.result.now _
    (c.as_slice-2.ensures.value ∙ entries_are c.args.config.now _ _ c.entries-entries.ensures.all c.as_slice.ensures.value) c.render-table.ensures.bytes
    c.render-table.ensures.whole c.as_slice-3.ensures.value c.in_ok-sector.ensures

pub returns-clause-says : goal.returns-clause-says
returns-clause-says c =
    padded_says c.args.config.now.sector_size c.as_slice-2.result.now _ c.render-table.result.items c.as_slice-3.result.now c.in_ok-sector.sector.items
    (c.as_slice-2.ensures.value ∙ entries_are c.args.config.now _ _ c.entries-entries.ensures.all c.as_slice.ensures.value) c.as_slice-3.ensures.value
    c.render-table.ensures.followed c.in_ok-sector.ensures
