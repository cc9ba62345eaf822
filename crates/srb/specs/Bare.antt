-- Labels with and without their bytes.
use Rattle.std.specs.Prelude.{Bool, [], if◌then◌else◌}
use Rattle.srb.specs.declared.DeviceLabel.{DeviceLabel}
use Rattle.srb.specs.declared.DeviceLabel.TheVariants.{Start, Act, Fault, Return}

-- the label as memory has it, which keeps its bytes or not
abbrev pub in_memory : Bool → DeviceLabel → DeviceLabel
in_memory keeps (Start piece tag block) = Start piece tag block
in_memory keeps (Act piece bytes) = Act piece (if keeps then bytes else [])
in_memory keeps (Fault piece) = Fault piece
in_memory keeps (Return piece class) = Return piece class
