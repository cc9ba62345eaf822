-- What is wrong with a block that asks for no command.
use Rattle.std.specs.Prelude.{◌≡◌, ◌≢◌, ◌≤◌, ◌<◌, ◌⊎◌, ℕ, List, length, slice_index}
use Rattle.cdb.specs.declared.CdbFault.{CdbFault}
use Rattle.cdb.specs.declared.CdbFault.TheVariants.{ShortCdb, UnknownOpcode, InvalidField}
use Rattle.cdb.specs.Meaning.{protect, service_action}

-- the operation code of READ(10) or WRITE(10)
abbrev pub IsTransferCode : ℕ → Type 0
IsTransferCode code = (code ≡ 0x28) ⊎ (code ≡ 0x2A)

-- the operation code of READ(16) or WRITE(16)
abbrev pub IsLongTransferCode : ℕ → Type 0
IsLongTransferCode code = (code ≡ 0x88) ⊎ (code ≡ 0x8A)

-- the operation code of a command of ten bytes
abbrev pub IsShortCode : ℕ → Type 0
IsShortCode code = IsTransferCode code ⊎ ((code ≡ 0x35) ⊎ (code ≡ 0x25))

-- the operation code of a command of sixteen bytes
abbrev pub IsLongCode : ℕ → Type 0
IsLongCode code = IsLongTransferCode code ⊎ ((code ≡ 0x91) ⊎ (code ≡ 0x9E))

-- the operation code of a command
abbrev pub IsKnownCode : ℕ → Type 0
IsKnownCode code = IsShortCode code ⊎ IsLongCode code

-- the block has fewer bytes than its operation code asks for
abbrev pub IsCut : List ℕ → Type 0
IsCut block = (IsShortCode (slice_index block 0) × (length block < 10)) ⊎ (IsLongCode (slice_index block 0) × (length block < 16))

-- the block is a READ or a WRITE with all its bytes
abbrev pub IsTransfer : List ℕ → Type 0
IsTransfer block = (IsTransferCode (slice_index block 0) × (10 ≤ length block)) ⊎ (IsLongTransferCode (slice_index block 0) × (16 ≤ length block))

-- the block is SERVICE ACTION IN(16) with all its bytes, and its service action isn't that of READ CAPACITY(16)
abbrev pub IsOtherService : List ℕ → Type 0
IsOtherService block = (slice_index block 0 ≡ 0x9E) × (16 ≤ length block) × (service_action block ≢ 0x10)

-- the block has this fault, the first of these: no bytes, an unknown operation code, too few bytes, a field that isn't
-- supported
abbrev pub HasFault : List ℕ → CdbFault → Type 0
HasFault block ShortCdb = (length block ≡ 0) ⊎ IsCut block
HasFault block UnknownOpcode = (0 < length block) × (¬ IsKnownCode (slice_index block 0))
HasFault block InvalidField = (IsTransfer block × (0 < protect block)) ⊎ IsOtherService block
