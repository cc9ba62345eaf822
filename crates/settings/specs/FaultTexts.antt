-- What is printed of a fault.
use Rattle.std.specs.Prelude.{ℕ, List, codes}
use Rattle.settings.specs.declared.ConfigFault.{ConfigFault}
use Rattle.settings.specs.declared.ConfigFault.TheVariants.{NotToml, UnknownKey, MissingKey, OutOfRange, TooManyPartitions, NoMemory}

-- the text of a fault
abbrev pub text_of : ConfigFault → List ℕ
text_of NotToml = codes "config: not TOML"
text_of UnknownKey = codes "config: unknown key"
text_of MissingKey = codes "config: missing key"
text_of OutOfRange = codes "config: out of range"
text_of TooManyPartitions = codes "config: too many partitions"
text_of NoMemory = codes "no memory"
