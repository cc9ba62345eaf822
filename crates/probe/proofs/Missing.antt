-- Why a probe found nothing, by the command at which it ended.
use Rattle.std.proofs.Common.{◌≡◌, ◌<◌, ◌≤◌, ◌+◌, ℕ, true, sym, subst, ◌∙◌, length, arith, inl, inr}
use Rattle.std.specs.Prelude.{◌-◌, ◌^◌, min}
use Rattle.std.proofs.lemmas.Bool.Decides.{nat_tests}
use Rattle.cdb.specs.declared.Cdb.TheVariants.{ReadCapacity10}
use Rattle.srb.specs.declared.Class.TheVariants.{Good}
use Rattle.adapter.specs.View.{AdapterView}
use Rattle.probe.specs.declared.ProbeFault.{ProbeFault}
use Rattle.probe.specs.declared.ProbeFault.TheVariants.{Device as DeviceFault, Mbr as TableFault, NoMemory}
use Rattle.probe.specs.declared.capacity.Capacity.{Capacity}
use Rattle.probe.specs.Exchange.{Exchanges, IsSameDisk}
use Rattle.probe.specs.inside.Exchange.{IsAskFault}
use Rattle.probe.specs.Capacity.{is_long, long_capacity, TellsCapacity}
use Rattle.probe.specs.inside.Capacity.{IsToldShort, IsCapacityFault}
use Rattle.probe.specs.Probing.{IsTableFault, IsProbeFault}
use Rattle.probe.proofs.Reading.{same_table}

-- where READ CAPACITY(10) tells of 2^32 sectors the disk is long
pub not_told : (disk : AdapterView) (capacity : Capacity) → IsToldShort disk capacity → 2 ^ 32 ≤ capacity.sectors → is_long disk ≡ true
not_told disk capacity told high =
    let sectors : capacity.sectors ≡ min (length disk.sectors - 1) (2 ^ 32 - 1) + 1 = told.sectors in
    let long : 2 ^ 32 ≤ length disk.sectors = omega arith in
    grind (arith, nat_tests)

-- the command that asks for the capacity in ten bytes
pub short_fault : (disk after : AdapterView) (fault : ProbeFault) → IsAskFault ReadCapacity10 disk fault after → IsCapacityFault disk fault after
short_fault disk after (DeviceFault status) h = record { failure = h.failure; counted = h.counted; misses = inl h.exchanged }
short_fault disk after (TableFault fault) h = h
short_fault disk after NoMemory h = inl h

-- the one that asks in sixteen, of a long disk
pub long_fault : (disk between after : AdapterView) (fault : ProbeFault) → is_long disk ≡ true → IsSameDisk 1 disk between
    → Exchanges disk ReadCapacity10 Good between → IsAskFault long_capacity between fault after → IsCapacityFault disk fault after
long_fault disk between after (DeviceFault status) long same first h =
    let low : disk.failures ≤ between.failures = same.failures in
    let high : between.failures < after.failures = h.counted in
    record { failure = h.failure; counted = omega arith; misses = inr (long, (between, first, h.exchanged)) }
long_fault disk between after (TableFault fault) long same first h = absurd h
long_fault disk between after NoMemory long same first h = inr (long, subst (λ (v : AdapterView). Exchanges disk ReadCapacity10 Good v) (sym h) first)

-- the capacity is not known
pub first_fault : (disk after : AdapterView) (fault : ProbeFault) → IsCapacityFault disk fault after → IsProbeFault disk fault after
first_fault disk after (DeviceFault status) h = record { failure = h.failure; counted = h.counted; one_of = inl h.misses }
first_fault disk after (TableFault fault) h = absurd h
first_fault disk after NoMemory h = inl h

-- the last command, or what it brought
pub last_fault : (disk between after : AdapterView) (asked : ℕ) (fault : ProbeFault) → IsSameDisk asked disk between
    → TellsCapacity (is_long disk) disk between → IsTableFault between fault after → IsProbeFault disk fault after
last_fault disk between after asked (DeviceFault status) same first h =
    let low : disk.failures ≤ between.failures = same.failures in
    let high : between.failures < after.failures = h.counted in
    record { failure = h.failure; counted = omega arith; one_of = inr (between, first, h.exchanged) }
last_fault disk between after asked (TableFault fault) same first h =
    (record { between = between; capacity = first; table = h.0 }, sym (same_table disk between asked same) ∙ h.1)
last_fault disk between after asked NoMemory same first h =
    inr (subst (λ (v : AdapterView). TellsCapacity (is_long disk) disk v) (sym h) first)
