-- The numbers of the major and minor functions (WDK: IRP_MJ, IRP_MN).
use Rattle.std.specs.Prelude.{ℕ}
use Rattle.irp.specs.declared.MajorFunction.{MajorFunction}
use Rattle.irp.specs.declared.MajorFunction.TheVariants.{Create, Close, Read, Write, FlushBuffers, InternalDeviceControl, Cleanup, Pnp}
use Rattle.irp.specs.declared.MinorFunction.{MinorFunction}
use Rattle.irp.specs.declared.MinorFunction.TheVariants.{QueryRemove, Remove, CancelRemove, SurpriseRemoval}

-- the number of a major function
abbrev pub major_code_of : MajorFunction → ℕ
major_code_of Create = 0x00
major_code_of Close = 0x02
major_code_of Read = 0x03
major_code_of Write = 0x04
major_code_of FlushBuffers = 0x09
major_code_of InternalDeviceControl = 0x0F
major_code_of Cleanup = 0x12
major_code_of Pnp = 0x1B

-- the number of a minor function of plug and play
abbrev pub minor_code_of : MinorFunction → ℕ
minor_code_of QueryRemove = 0x01
minor_code_of Remove = 0x02
minor_code_of CancelRemove = 0x03
minor_code_of SurpriseRemoval = 0x17
