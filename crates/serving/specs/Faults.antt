-- The line that the program says of a fault.
use Rattle.std.specs.Prelude.{ℕ, ◌==◌, ◌&&◌, ◌++◌, List, Bool, true, false, codes, if◌then◌else◌, Option, None, Some}
use Rattle.std.specs.Fmt.{decimal}
use Rattle.startup.specs.Texts.{mbr_text, text_of as startup_text}
use Rattle.serving.specs.declared.same_file.Inode.{Inode}
use Rattle.serving.specs.declared.faults.Error.{Error}
use Rattle.serving.specs.declared.faults.Difference.{Difference}
use Rattle.serving.specs.declared.faults.Difference.TheVariants.{BadTable, Count, Partition}
use Rattle.serving.specs.declared.faults.DiskFault.{DiskFault}
use Rattle.serving.specs.declared.faults.DiskFault.TheVariants.{NotOpened, NotCreated, InUse, OtherSize, Unreadable, OtherTable, HasFaults, IsConfig, IsOutput}
use Rattle.serving.specs.declared.faults.Error.TheVariants.{Usage, Startup, NoPartition, Disk, Malformed, InputEnded, TraceNotOpened, TraceInUse, TraceFailed, OutputFailed, NoMemory}

-- what a table has, and what the settings ask for
abbrev pub difference_text : Difference → List ℕ
difference_text (BadTable fault) = codes "FILE has a bad partition table: " ++ mbr_text fault
difference_text (Count found wanted) = codes "FILE has " ++ (decimal found ++ (codes " partitions, the settings ask for " ++ decimal wanted))
difference_text (Partition number found wanted) =
    codes "partition " ++ (decimal number ++ (codes " of FILE has " ++ (decimal found.count ++ (codes " sectors from " ++ (decimal found.first ++ (codes " on, the settings ask for "
    ++ (decimal wanted.count ++ (codes " from " ++ (decimal wanted.first ++ codes " on")))))))))

-- what is wrong with a disk in a file
abbrev pub disk_text : DiskFault → List ℕ
disk_text NotOpened = codes "cannot open FILE"
disk_text NotCreated = codes "cannot create FILE"
disk_text InUse = codes "FILE is in use"
disk_text (OtherSize found wanted) = codes "FILE has " ++ (decimal found ++ (codes " bytes, the settings ask for " ++ decimal wanted))
disk_text Unreadable = codes "cannot read FILE"
disk_text (OtherTable difference) = difference_text difference
disk_text HasFaults = codes "bad_sectors and fault are not for a disk in FILE"
disk_text IsConfig = codes "FILE is CONFIG"
disk_text IsOutput = codes "FILE is standard output"

-- the line of a fault, without its end
abbrev pub line_of : Error → List ℕ
line_of Usage = codes "usage: nbd_disk CONFIG [PARTITION] [--disk FILE [--create] [--trace TRACE | --beside]] | nbd_disk --disk FILE [--trace TRACE | --beside]"
line_of (Startup fault) = codes "nbd_disk: " ++ startup_text fault
line_of NoPartition = codes "nbd_disk: no such partition"
line_of (Disk fault) = codes "nbd_disk: " ++ disk_text fault
line_of Malformed = codes "nbd_disk: malformed input"
line_of InputEnded = codes "nbd_disk: input ended"
line_of TraceNotOpened = codes "nbd_disk: cannot open TRACE"
line_of TraceInUse = codes "nbd_disk: TRACE is in use"
line_of TraceFailed = codes "nbd_disk: cannot write TRACE"
line_of OutputFailed = codes "nbd_disk: output failed"
line_of NoMemory = codes "nbd_disk: no memory"

-- nothing was tried, since the words of the command line ask for nothing that can be served
abbrev pub is_usage : Error → Bool
is_usage Usage = true
is_usage _ = false

-- the other file is known, and is the same
abbrev pub is_same : Inode → Option Inode → Bool
is_same file None = false
is_same file (Some other) = (file.device == other.device) && (file.number == other.number)

-- why a file is refused as a disk: it is that of the settings, or that of the output
abbrev pub same_fault : Inode → Option Inode → Option Inode → Option Error
same_fault disk config output =
    if is_same disk config then Some (Disk IsConfig)
    else if is_same disk output then Some (Disk IsOutput)
    else None
