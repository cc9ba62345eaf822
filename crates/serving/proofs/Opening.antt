-- The array that is served, over a volume of some settings.
use Rattle.serving.proofs.Common.{◌≡◌, ℕ, ap, InvalidHandle, InvalidParameter, DeletePending, DeviceBusy, InsufficientResources, InvalidDeviceRequest, NotFound, Config, OpenFault, IsStartFault, array_of, fault_of_open, new_array}
use Rattle.volume.specs.declared.OpenFault.TheVariants.{Start as NotStarted, Refused}
use Rattle.volume.specs.Shown.{Content, VolumeView}
use Rattle.startup.specs.Started.{IsOpenFault, IsVolumeOf}

pub array_is : (c : Config) (p : ℕ) (volume : VolumeView) → IsVolumeOf c p volume → array_of volume.content c.write_protected ≡ new_array c p
array_is c p volume h =
    let size : volume.content.sector_size ≡ c.sector_size = ap (λ (shown : Content). shown.sector_size) h.content in
    let bytes = h.blank in
    cc (size, bytes)

pub fault_is : (c : Config) (p : ℕ) (fault : OpenFault) → IsOpenFault c p fault → IsStartFault c p (fault_of_open fault)
fault_is c p (NotStarted fault) h = h
fault_is c p (Refused InvalidParameter) h = h
fault_is c p (Refused DeviceBusy) h = tt
fault_is c p (Refused InsufficientResources) h = tt
fault_is c p (Refused InvalidHandle) h = absurd h
fault_is c p (Refused DeletePending) h = absurd h
fault_is c p (Refused InvalidDeviceRequest) h = absurd h
fault_is c p (Refused NotFound) h = absurd h
