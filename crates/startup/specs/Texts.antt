-- What is said of a fault.
use Rattle.std.specs.Prelude.{ℕ, ◌++◌, List, codes}
use Rattle.ntstatus.specs.Codes.{name_of}
use Rattle.mbr.specs.declared.MbrFault.{MbrFault}
use Rattle.mbr.specs.declared.MbrFault.TheVariants.{ShortSector, NoSignature, EmptyEntry, CoversTable, PastEnd, Overlap}
use Rattle.compose.specs.declared.StartFault.{StartFault}
use Rattle.compose.specs.declared.StartFault.TheVariants.{Settings as WrongSettings, Device as FailedCommand, Mbr as WrongTable, NoMemory as WantOfMemory}
use Rattle.settings.specs.FaultTexts.{text_of as settings_text}
use Rattle.startup.specs.declared.faults.Error.{Error}
use Rattle.startup.specs.declared.faults.Error.TheVariants.{ConfigUnreadable, Settings, Start, NoMemory}

-- what is wrong with a partition table
abbrev pub mbr_text : MbrFault → List ℕ
mbr_text ShortSector = codes "short sector"
mbr_text NoSignature = codes "no signature"
mbr_text EmptyEntry = codes "empty entry"
mbr_text CoversTable = codes "covers table"
mbr_text PastEnd = codes "past end"
mbr_text Overlap = codes "overlap"

-- why no stack of the settings could be started
abbrev pub start_text : StartFault → List ℕ
start_text WrongSettings = codes "config: out of range"
start_text (FailedCommand status) = codes "start: " ++ name_of status
start_text (WrongTable fault) = codes "mbr: " ++ mbr_text fault
start_text WantOfMemory = codes "no memory"

-- the text of a fault
abbrev pub text_of : Error → List ℕ
text_of ConfigUnreadable = codes "cannot read CONFIG"
text_of (Settings fault) = settings_text fault
text_of (Start fault) = start_text fault
text_of NoMemory = codes "no memory"
