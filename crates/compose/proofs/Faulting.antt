-- Why no stack could be started, where its probe found nothing.
use Rattle.compose.proofs.Common.{inl, AdapterView, ProbeFault, IsProbeFault, Settings, AreInRange, IsStartFault, start_fault_of}
use Rattle.probe.specs.declared.ProbeFault.TheVariants.{Device, Mbr, NoMemory}

pub start_fault : (disk after : AdapterView) (settings : Settings) → AreInRange settings → (why : ProbeFault) → IsProbeFault disk why after → IsStartFault disk settings (start_fault_of why) after
start_fault disk after settings in_range (Device status) h = (in_range, h)
start_fault disk after settings in_range (Mbr fault) h = (in_range, h)
start_fault disk after settings in_range NoMemory h = (in_range, inl h)
