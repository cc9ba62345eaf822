-- The outcomes that a location with a routine asks for.
use Rattle.std.proofs.Common.{◌≡◌, ◌==◌, ◌&&◌, ◌||◌, Bool, true, false, not, refl, bit_and}
use Rattle.irp.specs.declared.StackLocation.{StackLocation}
use Rattle.irp.specs.Climb.{asks}
use Rattle.irp.specs.Packet.{invoke_flags, with_routine}

-- the flags hold each of the three that was asked for, and no other of them
pub flags_hold : (s e c : Bool) → ((bit_and (invoke_flags s e c) 0x40 == 0x40) ≡ s) × ((bit_and (invoke_flags s e c) 0x80 == 0x80) ≡ e) × ((bit_and (invoke_flags s e c) 0x20 == 0x20) ≡ c)
flags_hold true true true = (refl, refl, refl)
flags_hold true true false = (refl, refl, refl)
flags_hold true false true = (refl, refl, refl)
flags_hold true false false = (refl, refl, refl)
flags_hold false true true = (refl, refl, refl)
flags_hold false true false = (refl, refl, refl)
flags_hold false false true = (refl, refl, refl)
flags_hold false false false = (refl, refl, refl)

pub asks_routine : (success cancelled s e c : Bool) (own : StackLocation) → asks success cancelled (with_routine s e c own) ≡ ((success && s) || (not success && e) || (cancelled && c))
asks_routine success cancelled s e c own = let h = flags_hold s e c in cc (h.0, h.1, h.2)
