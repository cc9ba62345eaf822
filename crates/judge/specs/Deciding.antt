-- The premises of the machine's rules, as tests.
use Rattle.std.specs.Prelude.{ℕ, zero, suc, ◌-◌, ◌^◌, ◌==◌, ◌&&◌, ◌||◌, nat_lt, nat_le, not, Bool, true, false, List, [], ◌∷◌, Option, Some, None, take, drop, if◌then◌else◌}
use Rattle.ntstatus.specs.declared.NtStatus.{NtStatus}
use Rattle.ntstatus.specs.declared.NtStatus.TheVariants.{Cancelled, DeviceBusy, NoSuchDevice, DeletePending}
use Rattle.ntstatus.specs.Codes.{value_of}
use Rattle.sector.specs.declared.Extent.{Extent}
use Rattle.cdb.specs.declared.Cdb.{Cdb}
use Rattle.cdb.specs.declared.Cdb.TheVariants.{Read10, Write10, Sync10, Read16, Write16, Sync16}
use Rattle.srb.specs.declared.Class.{Class}
use Rattle.srb.specs.declared.Class.TheVariants.{Good, Busy, Bad}
use Rattle.srb.specs.declared.Kind.{Kind}
use Rattle.srb.specs.declared.Kind.TheVariants.{Read, Write, Flush}
use Rattle.machine.specs.declared.ClientRequest.{ClientRequest}
use Rattle.machine.specs.Rules.{Rules, first_sector, home}
use Rattle.machine.specs.State.{Mark, Untouched, Out, Done, Failed, Back, OpenRequest, Piece, State}
use Rattle.machine.specs.Sending.{is_started, fits_ten}

-- both tests hold, or none does
abbrev pub same_truth : Bool → Bool → Bool
same_truth true b = b
same_truth false b = not b

abbrev pub same_status : NtStatus → NtStatus → Bool
same_status a b = value_of a == value_of b

-- the request has this number
abbrev pub has_number : ℕ → OpenRequest → Bool
has_number number o = o.number == number

-- the piece has this number
abbrev pub is_piece : ℕ → Piece → Bool
is_piece number piece = piece.number == number

-- ANSWERS

-- no place of the request that waits will ever be sent
abbrev pub is_given_up : State → OpenRequest → Bool
is_given_up s o = o.cancelled || s.removing

-- the status with which such a place is given up
abbrev pub gives_up_as : State → OpenRequest → NtStatus → Bool
gives_up_as s o status =
    (o.cancelled && same_status status Cancelled) || (s.removing && same_status status (if o.late then DeletePending else NoSuchDevice))

-- busy returns have ended the request
abbrev pub is_worn_out : Rules → OpenRequest → Bool
is_worn_out rules o = nat_le rules.busy_limit o.busy_returns

-- a place that is done, or has a cause not to be
abbrev pub ended_by : Bool → Bool → Mark → Bool
ended_by given_up worn_out Untouched = given_up
ended_by given_up worn_out Out = false
ended_by given_up worn_out (Done sector) = true
ended_by given_up worn_out (Failed status) = true
ended_by given_up worn_out Back = given_up || worn_out

abbrev pub has_ended : Rules → State → OpenRequest → Mark → Bool
has_ended rules s o = ended_by (is_given_up s o) (is_worn_out rules o)

-- a status that a place not done gives its request
abbrev pub cause_by : Bool → Bool → NtStatus → Mark → Bool
cause_by given_up worn_out status Untouched = given_up
cause_by given_up worn_out status Out = false
cause_by given_up worn_out status (Done sector) = false
cause_by given_up worn_out status (Failed failure) = same_status status failure
cause_by given_up worn_out status Back = given_up || (worn_out && same_status status DeviceBusy)

abbrev pub is_cause : Rules → State → OpenRequest → NtStatus → Mark → Bool
is_cause rules s o status = cause_by (gives_up_as s o status) (is_worn_out rules o) status

-- STARTS

abbrev pub has_tag : ℕ → Piece → Bool
has_tag tag piece = piece.tag == tag

-- the other request was started, if it came before this number and isn't cancelled
abbrev pub is_in_turn : ℕ → OpenRequest → Bool
is_in_turn number other = not (nat_lt other.number number) || (other.cancelled || is_started other)

-- the places of the request whose sectors begin at this address
abbrev pub places_at : Rules → ClientRequest → ℕ → ℕ → Option Extent
places_at rules q lba count =
    let base = home rules q.partition (first_sector rules q) in
    if nat_le base lba then Some (record { first = lba - base; count = count }) else None

-- these places, if the command has the form and the access that the machine gives it
abbrev pub places_if : Bool → Rules → ClientRequest → ℕ → ℕ → Option Extent
places_if test rules q lba count = if test then places_at rules q lba count else None

-- the one place of a flush, if the test holds
abbrev pub flush_place : Bool → Option Extent
flush_place test = if test then Some (record { first = 0; count = 1 }) else None

-- the places of a request that a command asks for
abbrev pub places_for : Rules → ClientRequest → Kind → Cdb → Option Extent
places_for rules q Read (Read10 lba count fua) = places_if (fits_ten lba count && same_truth fua q.through) rules q lba count
places_for rules q Read (Read16 lba count fua) = places_if (not (fits_ten lba count) && same_truth fua q.through) rules q lba count
places_for rules q Write (Write10 lba count fua) = places_if (fits_ten lba count && same_truth fua q.through) rules q lba count
places_for rules q Write (Write16 lba count fua) = places_if (not (fits_ten lba count) && same_truth fua q.through) rules q lba count
places_for rules q Flush (Sync10 lba blocks) = flush_place (nat_le rules.disk_sectors (2 ^ 32) && ((lba == 0) && (blocks == 0)))
places_for rules q Flush (Sync16 lba blocks) = flush_place (not (nat_le rules.disk_sectors (2 ^ 32)) && ((lba == 0) && (blocks == 0)))
places_for rules q kind command = None

-- ACTS

-- bytes cut into this many sectors of a size
abbrev pub chunked : ℕ → ℕ → List ℕ → List (List ℕ)
chunked zero size bytes = []
chunked (suc n) size bytes = take size bytes ∷ chunked n size (drop size bytes)

-- the sectors that an act of this many places hands over as these bytes
abbrev pub sectors_moved : Rules → ℕ → Kind → List ℕ → List (List ℕ)
sectors_moved rules count Read bytes = chunked count rules.sector_size bytes
sectors_moved rules count Write bytes = chunked count rules.sector_size bytes
sectors_moved rules count Flush bytes = [] ∷ []

-- RETURNS

abbrev pub is_bad : Class → Bool
is_bad Good = false
is_bad Busy = false
is_bad (Bad completion) = true
