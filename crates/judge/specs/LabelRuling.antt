-- The rule that is named of a line, as a function of the state, the label and what the line tells of a start.
use Rattle.std.specs.Prelude.{◌≡◌, ◌↔◌, ℕ, List, Option, Some, None, Result, Ok, Err, Bool, not, is_some, option_map, slice_get, if◌then◌else◌}
use Rattle.std.specs.List.{list_any}
use Rattle.cdb.specs.declared.Cdb.{Cdb}
use Rattle.cdb.specs.Meaning.{IsPlain, Means}
use Rattle.srb.specs.declared.DeviceLabel.{DeviceLabel}
use Rattle.srb.specs.declared.DeviceLabel.TheVariants as device
use Rattle.machine.specs.declared.Label.{Label}
use Rattle.machine.specs.declared.Label.TheVariants as label
use Rattle.machine.specs.Rules.{Rules}
use Rattle.machine.specs.State.{Owed, State}
use Rattle.judge.specs.declared.label_rules.Rule.{Rule}
use Rattle.judge.specs.declared.label_rules.Rule.TheVariants as rule
use Rattle.judge.specs.declared.start_rules.StartRule.{StartRule}
use Rattle.judge.specs.declared.reading.Told.{Told}
use Rattle.trace_line.specs.declared.Line.{Line}
use Rattle.judge.specs.Breaking.{BreaksBlock}
use Rattle.judge.specs.Ruling.{owing_rule, calling_rule, answering_rule, cancelling_rule, pausing_rule, paused_rule, surprising_rule, removed_rule}
use Rattle.judge.specs.PieceRuling.{acting_rule, faulting_rule, returning_rule}
use Rattle.judge.specs.StartRuling.{starting_rule}

-- the block asks for this command, and is the plain one
pub record IsBlockOf (block : List ℕ) (command : Cdb) : Type 0 where
  pub asks : Means block command
  pub plain : IsPlain block command

-- what the block of a start is read as: the command whose plain block it is, or the rule that it breaks
pub record IsReadAs (block : List ℕ) (read : Result Cdb StartRule) : Type 0 where
  pub command : (c : Cdb) → (read ≡ Ok c) ↔ IsBlockOf block c
  pub only : (c d : Cdb) → read ≡ Ok c → Means block d → c ≡ d
  pub broken : (r : StartRule) → read ≡ Err r → BreaksBlock block r

abbrev pub IsDeviceRead : DeviceLabel → Result Cdb StartRule → Type 0
IsDeviceRead (device.Start number tag block) read = IsReadAs block read
IsDeviceRead (device.Act number bytes) read = Unit {0}
IsDeviceRead (device.Fault number) read = Unit {0}
IsDeviceRead (device.Return number class) read = Unit {0}

abbrev pub IsReadOf : Label → Result Cdb StartRule → Type 0
IsReadOf (label.Device l) read = IsDeviceRead l read
IsReadOf _ read = Unit {0}

-- what the line tells of a start: what its block is read as, and the request that it names
pub record IsToldBy (line : Line) (told : Told) : Type 0 where
  pub read : IsReadOf line.label told.read
  pub owner : told.owner ≡ line.owner

abbrev pub device_rule : Rules → State → Told → DeviceLabel → Option Rule
device_rule rules s told (device.Start number tag block) = option_map rule.Start (starting_rule rules s number tag told.owner told.read)
device_rule rules s told (device.Act number bytes) = option_map rule.Act (acting_rule rules s number bytes)
device_rule rules s told (device.Fault number) = option_map rule.Act (faulting_rule s number)
device_rule rules s told (device.Return number class) = option_map rule.Return (returning_rule s number class)

abbrev pub free_rule : Rules → State → Told → Label → Option Rule
free_rule rules s told (label.Call number q) = option_map rule.Call (calling_rule rules s number q)
free_rule rules s told (label.Device l) = device_rule rules s told l
free_rule rules s told (label.Answer number status informed bytes) = option_map rule.Answer (answering_rule rules s number status informed bytes)
free_rule rules s told (label.Cancel number) = option_map rule.Cancel (cancelling_rule s number)
free_rule rules s told label.Pause = option_map rule.Removal (pausing_rule s)
free_rule rules s told label.Resume = option_map rule.Removal (paused_rule s)
free_rule rules s told label.Remove = option_map rule.Removal (paused_rule s)
free_rule rules s told label.Surprise = option_map rule.Removal (surprising_rule s)
free_rule rules s told label.Removed = option_map rule.Removal (removed_rule s)

abbrev pub owed_or_free_rule : Rules → State → Told → Label → Option Owed → Option Rule
owed_or_free_rule rules s told l None = free_rule rules s told l
owed_or_free_rule rules s told l (Some owed) = option_map rule.Owed (owing_rule owed l)

abbrev pub label_rule : Rules → State → Told → Label → Option Rule
label_rule rules s told l = owed_or_free_rule rules s told l s.owed

-- no rule is named
abbrev pub goes_by : Rules → Told → Label → State → Bool
goes_by rules told l s = not (is_some (label_rule rules s told l))

abbrev pub rule_of_first : Rules → Told → Label → Option State → Option Rule
rule_of_first rules told l None = None
rule_of_first rules told l (Some s) = label_rule rules s told l

-- the rule that is named at the first of the states, if one is named at each
abbrev pub rule_of_all : Rules → Told → List State → Label → Option Rule
rule_of_all rules told states l = if list_any (goes_by rules told l) states then None else rule_of_first rules told l (slice_get states 0)
