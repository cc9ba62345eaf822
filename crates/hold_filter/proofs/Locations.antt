-- A packet on its way down and up.
use Rattle.std.proofs.Common.{◌≡◌, ◌+◌, ◌-◌, ◌&&◌, ◌||◌, ◌==◌, not, ℕ, Bool, true, false, List, [], ◌∷◌, ◌++◌}
use Rattle.hold_filter.proofs.Common.{Option, refl, sym, ap, ◌∙◌, arith, length, take, length-append, if◌then◌else◌, take-append_seam, NtStatus, Kind, Read, Write, Flush, CancelRoutine, Irp, Payload, StackLocation, cancel_routine_of, with_cancel_routine, asks_routine, Request, Climb, Climbs, Packet, packet_of, AsksInLocation, no_request, major_of, above_is, passes_by, Held, PassesDown, silent, kind_of, asked_by, last_asked, request_in, but_last, packet_below, packet_here}
use Rattle.irp.specs.Climb.{succeeds, above as locations_above}

-- THE REQUEST OF A LOCATION

kind_back : (k : Kind) → kind_of (major_of false k) ≡ k
kind_back Read = refl
kind_back Write = refl
kind_back Flush = refl

through_back : (through : Bool) → ((if through then 0x04 else 0) == 0x04) ≡ through
through_back true = refl
through_back false = refl

pub last_is : (request : Request) (higher : List StackLocation) (own : StackLocation)
    → last_asked request (higher ++ own ∷ []) ≡ asked_by own
last_is request [] own = refl
last_is request (h ∷ higher) own = last_is (asked_by h) higher own

-- what a packet asks for in its location is what that is read as
pub asks_request : (r : Request) (irp : Irp) → AsksInLocation false r irp → request_in irp ≡ r
asks_request r irp h =
    let last : request_in irp ≡ asked_by h.own = ap (last_asked no_request) h.is_own
    ∙ last_is no_request h.higher h.own in
    let kind : kind_of h.own.major ≡ r.kind = ap kind_of h.major ∙ kind_back r.kind in
    let through : (h.own.flags.0 == 0x04) ≡ r.through = ap (λ n. n == 0x04) h.flags ∙ through_back r.through in
    last
    ∙ ap (λ (k : Kind). record (asked_by h.own) { kind = k }) kind
    ∙ ap (λ (t : Bool). record (asked_by h.own) { kind = r.kind; through = t }) through
    ∙ ap (λ n. record (asked_by h.own) { kind = r.kind; through = r.through; volume = n }) h.volume
    ∙ ap (λ e. record r { extent = e }) h.extent

-- LOCATIONS

-- the location below asks for what the filter's own did
pub passed_asks : (r : Request) (old new : Irp) → AsksInLocation false r old → PassesDown old new
    → AsksInLocation false r new
passed_asks r old new h p = record {
  higher = h.higher ++ silent h.own ∷ [];
  own = _;
  is_own = p.locations h.higher h.own h.is_own;
  major = h.major;
  flags = h.flags;
  volume = h.volume;
  extent = h.extent;
}

-- another cancel routine says nothing of locations
pub asks_with : (r : Request) (irp : Irp) (routine : Option CancelRoutine) → AsksInLocation false r irp
    → AsksInLocation false r (with_cancel_routine routine irp)
asks_with r irp routine h =
    record {
      higher = h.higher;
      own = h.own;
      is_own = h.is_own;
      major = h.major;
      flags = h.flags;
      volume =
          h.volume;
      extent = h.extent;
    }

-- above the location below are those above the filter's own, and that one, silent
pub passed_above : (r : Request) (old new : Irp) → (h : AsksInLocation false r old) → PassesDown old new
    → locations_above new ≡ locations_above old ++ silent h.own ∷ []
passed_above r old new h p =
    above_is new (h.higher ++ silent h.own ∷ []) _ (p.locations h.higher h.own h.is_own)
    ∙ ap (λ (ls : List StackLocation). ls ++ silent h.own ∷ []) (sym (above_is old h.higher h.own h.is_own))

pub but_pushed : (ls : List StackLocation) (own : StackLocation) → but_last (ls ++ own ∷ []) ≡ ls
but_pushed ls own =
    let n : length (ls ++ own ∷ []) ≡ length ls + 1 = length-append ls (own ∷ []) in
    let e : length (ls ++ own ∷ []) - 1 ≡ length ls = omega arith in
    ap (λ k. take k (ls ++ own ∷ [])) e ∙ take-append_seam ls (own ∷ [])

-- so a packet that goes below is shown as it was before
pub shown_as : (r : Request) (held : Held) (irp : Irp) → AsksInLocation false r held.irp.value
    → PassesDown (with_cancel_routine held.routine held.irp.value) irp
    → packet_below (packet_of irp held.room.spot) ≡ packet_here held
shown_as r held irp asks' p =
    let asked : AsksInLocation false r (with_cancel_routine held.routine held.irp.value) =
    asks_with r held.irp.value held.routine asks' in
    let number : irp.number ≡ held.irp.value.number = p.kept.number in
    let above : but_last (locations_above irp) ≡ locations_above held.irp.value =
    ap but_last (passed_above r (with_cancel_routine held.routine held.irp.value) irp asked p)
    ∙ but_pushed (locations_above held.irp.value) (silent asked.own) in
    let routine : cancel_routine_of irp ≡ held.routine = p.kept.cancel_routine in
    packet_is (packet_below (packet_of irp held.room.spot)) (packet_here held) number refl above routine
  where
    packet_is : (p q : Packet) → p.number ≡ q.number → p.spot ≡ q.spot → p.above ≡ q.above
        → p.cancel_routine ≡ q.cancel_routine → p ≡ q
    packet_is p q a b c d =
        ap (λ (n : ℕ). record p { number = n }) a
        ∙ ap (λ (n : ℕ). record p { number = q.number; spot = n }) b
        ∙ ap (λ (ls : List StackLocation). record p { number = q.number; spot = q.spot; above = ls }) c
        ∙ ap (λ (r : Option CancelRoutine). record p
        { number = q.number; spot = q.spot; above = q.above; cancel_routine = r }) d

-- CLIMBS

-- a packet that climbs past a silent location climbs as if it were not there
pub climbs_past : (higher : List StackLocation) (own : StackLocation) (number : ℕ) (cancelled : Bool)
    (status : NtStatus) (information : ℕ) (payload : Payload) (climb : Climb)
    → Climbs (higher ++ silent own ∷ []) number cancelled status information payload climb
    → Climbs higher number cancelled status information payload climb
climbs_past higher own number cancelled status information payload climb h =
    passes_by higher (silent own) number cancelled status information payload climb
    (asks_routine (succeeds status) cancelled false false false own ∙ never (succeeds status) cancelled) h
  where
    never : (s c : Bool) → ((s && false) || (not s && false) || (c && false)) ≡ false
    never true true = refl
    never true false = refl
    never false true = refl
    never false false = refl
