-- A stack over a journal before its first event.
use Rattle.std.specs.Prelude.{◌≡◌, []}
use Rattle.adapter.specs.View.{AdapterView}
use Rattle.disk.specs.Medium.{HasWholeSectors}
use Rattle.io_manager.specs.Shown.{ManagerView}
use Rattle.compose.specs.declared.Settings.{Settings}
use Rattle.compose.specs.Opening.{IsFirstView}
use Rattle.sector_journal.specs.Journal.{JournalView}

-- a stack of which nothing was asked since it was started
pub record IsStarted (stack : ManagerView) : Type 0 where
  pub disk : AdapterView
  pub settings : Settings
  pub first : IsFirstView disk settings stack

-- a journal of whole sectors, in which nothing was entered and no request has room
pub record IsUnused (journal : JournalView) : Type 0 where
  pub whole : HasWholeSectors journal.medium
  pub no_entry : journal.entered ≡ []
  pub none_open : journal.reservations ≡ []
