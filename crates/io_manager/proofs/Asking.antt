-- The one location of a packet asks for its request.
use Rattle.io_manager.proofs.Common.{◌≡◌, false, [], ◌∷◌, refl, Irp, AsksInLocation, first_location}
use Rattle.machine.specs.declared.Request.{Request}

pub asks_in_location : (r : Request) (irp : Irp) → irp.locations.items ≡ first_location r ∷ [] → AsksInLocation false r irp
asks_in_location r irp only = record {
  higher = [];
  own = first_location r;
  is_own = only;
  major = refl;
  flags = refl;
  volume = refl;
  extent = refl;
}
