-- That no spot below is reserved, over what is done there.
use Rattle.std.proofs.Common.{◌≡◌, inl, inr, ℕ, Bool, List, Option, None, Some, Result, Ok, Err, refl, sym, ◌∙◌, ap, subst}
use Rattle.io_manager.proofs.Common.{OnErr, cases_eq, Climb, SameRooms, SetsRoom, ReservesNone, HandsUp, Frees, Tables, CancelsUnlessMarked, HasNoRooms, TakesLabels}
use Rattle.machine.specs.declared.Request.{Request}
use Rattle.device.specs.View.{DeviceView, Reserved, room_at, request_at, request_of, IsReady, IsReserved, whole_for}
use Rattle.io_manager.proofs.Quiet.{none_reserved}

-- the spots are as they were
pub vacant_still : (old new : DeviceView) → SameRooms old.rooms new.rooms → HasNoRooms old → HasNoRooms new
vacant_still old new same vacant spot = same spot ∙ vacant spot

pub vacant_through : (old mid new : DeviceView) → SameRooms old.rooms mid.rooms → SameRooms mid.rooms new.rooms → HasNoRooms old → HasNoRooms new
vacant_through old mid new same later vacant spot = later spot ∙ same spot ∙ vacant spot

-- labels alone are taken
pub vacant_told : (old : DeviceView) (tables : Tables) (new : DeviceView) (tables' : Tables) → TakesLabels old tables new tables' → HasNoRooms old → HasNoRooms new
vacant_told old tables new tables' h vacant = subst HasNoRooms (sym h.taken) vacant

-- so they are where a request is cancelled, or was
pub same_unless_marked : (old : DeviceView) (tables : Tables) (slot : ℕ) (new : DeviceView) (tables' : Tables) → CancelsUnlessMarked old tables slot new tables' → SameRooms old.rooms new.rooms
same_unless_marked old tables slot new tables' h = elim h.one_of [
  | inl (marked, same, tables_same) ↦ λ spot. ap (λ (v : DeviceView). room_at v.rooms spot) same
  | inr cancels ↦ cancels.beside.same_rooms
]

-- a spot that is reserved and then taken by a packet is vacant as all others
pub sent_vacant : (old mid new : DeviceView) (spot : ℕ) (request : Request) → SetsRoom old.rooms spot None (Some (whole_for request)) mid.rooms
    → SetsRoom mid.rooms spot (Some (whole_for request)) None new.rooms → HasNoRooms old → HasNoRooms new
sent_vacant old mid new spot request first second vacant other = elim (cases_eq other spot) [
  | inl same ↦ ap (room_at new.rooms) same ∙ second.is
  | inr apart ↦ second.others other apart ∙ first.others other apart ∙ vacant other
]

-- nothing is asked of the device below
pub none_asked : (v : DeviceView) → ReservesNone v v
none_asked v = record { reserves = none_reserved v; room = λ spot. refl }

pub on_err : {T E : Type 0} {P : Type 0} (result : Result T E) → P → OnErr result P
on_err (Ok value) h = tt
on_err (Err error) h = h

-- what a spot is reserved for
pub asked_at : (rooms : List (Option Reserved)) (spot : ℕ) (request : Request) → room_at rooms spot ≡ Some (whole_for request) → request_at rooms spot ≡ request
asked_at rooms spot request reserved = ap request_of reserved

pub ready_at : (rooms : List (Option Reserved)) (spot : ℕ) (request : Request) → room_at rooms spot ≡ Some (whole_for request) → IsReady rooms spot
ready_at rooms spot request reserved = reserved ∙ ap (λ r. Some (whole_for r)) (sym (asked_at rooms spot request reserved))

-- the spot of a packet that is handed up is reserved
pub handed_reserved : (takes_srb : Bool) (old new : DeviceView) (climb : Climb) (spot : ℕ) → HandsUp takes_srb old climb spot new → IsReserved new.rooms spot
handed_reserved takes_srb old new climb spot h = (record { request = h.answer.request; whole = h.left.whole }, h.left.room.is)

-- and given back it is vacant, as it was before
pub given_back : (takes_srb : Bool) (old mid new : DeviceView) (climb : Climb) (spot : ℕ) → HandsUp takes_srb old climb spot mid → Frees mid spot new → SameRooms old.rooms new.rooms
given_back takes_srb old mid new climb spot h frees other = elim (cases_eq other spot) [
  | inl same ↦ ap (room_at new.rooms) same ∙ frees.room.is ∙ sym (ap (room_at old.rooms) same ∙ h.left.room.was)
  | inr apart ↦ frees.room.others other apart ∙ h.left.room.others other apart
]
