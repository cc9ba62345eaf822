-- Chains of open requests, each by rising numbers: one for each handle, or for each remainder of a number by 64.
use Rattle.std.specs.Prelude.{◌≡◌, ◌<◌, ◌≤◌, ◌⊎◌, ℕ, zero, suc, ◌+◌, ◌%◌, ◌==◌, List, Option, false, Some, None, length}
use Rattle.std.specs.Prelude.{slice_index, slice_set, MatchOption, if◌then◌else◌}
use Rattle.slab.specs.Slab.{Slab, get}
use Rattle.io_manager.specs.declared.OpenHandle.{OpenHandle}
use Rattle.io_manager.specs.declared.chains.Chains.{Chains}
use Rattle.io_manager.specs.declared.tables.OpenRequest.{OpenRequest}

-- a joint of a chain: its end, before all numbers, or a member, before the numbers above its own
abbrev pub IsJoint : (ℕ → ℕ → Type 0) → ℕ → ℕ → ℕ → Type 0
IsJoint Member end joint low = ((joint ≡ end) × (low ≡ 0)) ⊎ ((number : ℕ) × Member joint number × (low ≡ number + 1))

-- the slot of the member with the lowest number that counts
pub record IsLowestFrom (Member : ℕ → ℕ → Type 0) (low slot : ℕ) : Type 0 where
  pub number : ℕ
  pub there : Member slot number
  pub counts : low ≤ number
  pub lowest : (other more : ℕ) → Member other more → low ≤ more → number ≤ more

-- what comes after a joint: that member, or the end where there is none
abbrev pub IsNextFrom : (ℕ → ℕ → Type 0) → ℕ → ℕ → ℕ → Type 0
IsNextFrom Member end low slot = ((slot ≡ end) × ((other more : ℕ) → Member other more → more < low))
    ⊎ IsLowestFrom Member low slot

-- from its end on and back to it, a chain goes through all members by rising numbers, and each is linked both ways
pub record IsChain (Member : ℕ → ℕ → Type 0) (end : ℕ) (after before : ℕ → ℕ) : Type 0 where
  pub next : (joint low : ℕ) → IsJoint Member end joint low → IsNextFrom Member end low (after joint)
  pub back : (joint low : ℕ) → IsJoint Member end joint low → before (after joint) ≡ joint
  pub forth : (joint low : ℕ) → IsJoint Member end joint low
      → ((lower : ℕ) × IsJoint Member end (before joint) lower) × (after (before joint) ≡ joint)

-- the end of a chain, behind the slots of the requests
abbrev pub chain_end : ℕ → ℕ
chain_end chain = 64 + chain

-- each end is linked to itself
pub record AreEnds (chains : Chains) : Type 0 where
  pub joints : (length chains.after ≡ 128) × (length chains.before ≡ 128)
  pub after : (joint : ℕ) → joint < 128 → slice_index chains.after joint ≡ joint
  pub before : (joint : ℕ) → joint < 128 → slice_index chains.before joint ≡ joint

-- 64 chains, whose members are requests in their slots, each in one chain
pub record AreLinked (Member : ℕ → ℕ → ℕ → Type 0) (chains : Chains) : Type 0 where
  pub joints : (length chains.after ≡ 128) × (length chains.before ≡ 128)
  pub slots : (chain slot number : ℕ) → Member chain slot number → slot < 64
  pub one_chain : (chain other slot number more : ℕ) → Member chain slot number → Member other slot more → chain ≡ other
  pub chained : (chain : ℕ) → chain < 64 → IsChain (Member chain) (chain_end chain) (slice_index chains.after)
      (slice_index chains.before)

-- a link leads to a request's slot, or to an end
abbrev pub LeadsTo : ℕ → Option ℕ → Type 0
LeadsTo link found = MatchOption found (64 ≤ link) (λ slot. (slot ≡ link) × (slot < 64))

-- the joints that the links of a request's slot lead to are there
pub record CanLeave (chains : Chains) (slot : ℕ) : Type 0 where
  pub in_range : slot < 64
  pub after : slice_index chains.after slot < 128
  pub before : slice_index chains.before slot < 128

-- the joint before a chain's end is there too
pub record CanJoin (chains : Chains) (chain slot : ℕ) : Type 0 where
  pub chain_in_range : chain < 64
  pub in_range : slot < 64
  pub last : slice_index chains.before (chain_end chain) < 128

-- a request comes between the last one of a chain and its end
pub record PutsLast (old : Chains) (chain slot : ℕ) (new : Chains) : Type 0 where
  pub after : new.after ≡ slice_set (slice_set old.after (slice_index old.before (chain_end chain)) slot) slot
      (chain_end chain)
  pub before : new.before ≡ slice_set (slice_set old.before slot (slice_index old.before (chain_end chain)))
      (chain_end chain) slot

-- the joints next to a request are linked to each other
pub record TakesOut (old : Chains) (slot : ℕ) (new : Chains) : Type 0 where
  pub after : new.after ≡ slice_set old.after (slice_index old.before slot) (slice_index old.after slot)
  pub before : new.before ≡ slice_set old.before (slice_index old.after slot) (slice_index old.before slot)

-- an open request of this number that is not cancelled yet, of the handle in this slot
pub record IsWaiting (requests : Slab OpenRequest) (handle slot number : ℕ) : Type 0 where
  pub request : OpenRequest
  pub there : get requests slot ≡ Some request
  pub at_handle : request.handle_slot ≡ handle
  pub is_number : request.number ≡ number
  pub not_yet : request.cancelled ≡ false

-- the handle of this number is open in this slot
pub record IsOpenIn (handles : Slab OpenHandle) (slot number : ℕ) : Type 0 where
  pub handle : OpenHandle
  pub there : get handles slot ≡ Some handle
  pub is_number : handle.number ≡ number

-- each request keeps the slot of its handle, which is open as long as the request is not cancelled, and stands in its
-- chain
pub record AreChained (handles : Slab OpenHandle) (requests : Slab OpenRequest) (next_handle : ℕ)
    (chains : Chains) : Type 0 where
  pub in_range : (slot : ℕ) (handle : OpenHandle) → get handles slot ≡ Some handle → slot < 64
  pub given : (slot : ℕ) (handle : OpenHandle) → get handles slot ≡ Some handle → handle.number < next_handle
  pub one_slot : (slot other : ℕ) (handle same : OpenHandle) → get handles slot ≡ Some handle
      → get handles other ≡ Some same → handle.number ≡ same.number → slot ≡ other
  pub request_slots : (slot : ℕ) (request : OpenRequest) → get requests slot ≡ Some request → slot < 64
  pub was_given : (slot : ℕ) (request : OpenRequest) → get requests slot ≡ Some request → request.handle < next_handle
  pub at_slot : (slot handle : ℕ) (request : OpenRequest) → get requests slot ≡ Some request
      → IsOpenIn handles handle request.handle → request.handle_slot ≡ handle
  pub is_open : (slot : ℕ) (request : OpenRequest) → get requests slot ≡ Some request → request.cancelled ≡ false
      → IsOpenIn handles request.handle_slot request.handle
  pub linked : AreLinked (IsWaiting requests) chains

-- the chain of a request's number
abbrev pub remainder_of : ℕ → ℕ
remainder_of number = number % 64

-- an open request of this number, which has this remainder
pub record IsNumbered (requests : Slab OpenRequest) (remainder slot number : ℕ) : Type 0 where
  pub request : OpenRequest
  pub there : get requests slot ≡ Some request
  pub is_number : request.number ≡ number
  pub leaves : remainder_of number ≡ remainder

-- each open request stands in the chain of its number's remainder
abbrev pub AreNumbered : Slab OpenRequest → Chains → Type 0
AreNumbered requests chains = AreLinked (IsNumbered requests) chains

-- 1 where the slot has a request of the handle of this number
abbrev pub of_handle : Option OpenRequest → ℕ → ℕ
of_handle None number = 0
of_handle (Some request) number = if request.handle == number then 1 else 0

-- how many of the first slots have a request of the handle of this number
abbrev pub count_open : Slab OpenRequest → ℕ → ℕ → ℕ
count_open requests number zero = 0
count_open requests number (suc slot) = count_open requests number slot + of_handle (get requests slot) number

-- each open handle has a count of the requests that are open on it
pub record AreCounted (handles : Slab OpenHandle) (requests : Slab OpenRequest) (counts : List ℕ) : Type 0 where
  pub places : length counts ≡ 64
  pub counted : (slot number : ℕ) → IsOpenIn handles slot number
      → slice_index counts slot ≡ count_open requests number 64
