-- What a failed call of the system means.
use Rattle.std.specs.Prelude.{◌≡◌, ◌≢◌, ℤ, pos, Option, Some}
use Rattle.std.specs.declared.io.ErrorKind.{ErrorKind}
use Rattle.std.specs.declared.io.ErrorKind.TheVariants.{PermissionDenied, ReadOnlyFilesystem, StorageFull, QuotaExceeded}
use Rattle.file_disk.specs.declared.storage.Failure.{Failure}
use Rattle.file_disk.specs.declared.storage.Failure.TheVariants.{Protected, Full, Failed}

-- what a failure of this kind means
abbrev pub failure_of_kind : ErrorKind → Failure
failure_of_kind PermissionDenied = Protected
failure_of_kind ReadOnlyFilesystem = Protected
failure_of_kind StorageFull = Full
failure_of_kind QuotaExceeded = Full
failure_of_kind _ = Failed

-- what an error of the system with this number, if any, and of this kind means; 9 is EBADF
pub record IsMeant (code : Option ℤ) (kind : ErrorKind) (failure : Failure) : Type 0 where
  pub closed : code ≡ Some (pos 9) → failure ≡ Protected
  pub other : code ≢ Some (pos 9) → failure ≡ failure_of_kind kind
