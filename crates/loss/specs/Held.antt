-- What a sector may hold, while its system runs and after a loss of power.
use Rattle.std.specs.Prelude.{◌≡◌, ◌⊎◌, ℕ, ◌+◌, ◌-◌, ◌*◌, ◌&&◌, Bool, nat_le, nat_lt, List, [], ◌∷◌, ◌++◌, map, take, drop, if◌then◌else◌}
use Rattle.std.specs.List.{filter}
use Rattle.sector.specs.declared.Extent.{Extent}
use Rattle.srb.specs.Fate.{Fate, is_fresh}
use Rattle.srb.specs.declared.Kind.{Kind}
use Rattle.srb.specs.declared.Kind.TheVariants.{Read, Write, Flush}

-- ONE SECTOR

-- a value that was overwritten; pieces of this number and of later ones started behind that
pub record OlderOf (V : Type 0) : Type 0 where
  pub value : V
  pub behind : ℕ

-- the values of a sector, each whole: lists of bytes, or what stands for them
pub record HeldOf (V : Type 0) : Type 0 where
  -- what a read may give, and a loss may leave
  pub now : List V
  -- what a loss may leave besides
  pub older : List (OlderOf V)

abbrev pub Held : Type 0
Held = HeldOf (List ℕ)

abbrev pub value_of : {V : Type 0} → OlderOf V → V
value_of o = o.value

-- what a loss may leave
abbrev pub left : {V : Type 0} → HeldOf V → List V
left h = h.now ++ map value_of h.older

-- the value is one of these
abbrev pub IsOneOf : {V : Type 0} → V → List V → Type 0
IsOneOf value [] = ⊥
IsOneOf value (other ∷ others) = (value ≡ other) ⊎ IsOneOf value others

-- it holds this value, and a loss leaves it
abbrev pub surely : {V : Type 0} → V → HeldOf V
surely value = record { now = value ∷ []; older = [] }

-- WHAT HAPPENS TO IT

pub data ChangeOf (V : Type 0) : Type 0 where
  -- a write puts this value there
  Puts : (value : V) → ChangeOf V
  -- and past volatile caches
  Secures : (value : V) → ChangeOf V
  -- a write that failed may have put it there
  Tries : (value : V) → ChangeOf V
  -- the flush of this number is done
  Syncs : (number : ℕ) → ChangeOf V
  -- a flush or a write past volatile caches failed: what they hold may be gone
  Doubts : ChangeOf V

abbrev pub Change : Type 0
Change = ChangeOf (List ℕ)

-- a value that is overwritten before the piece of this number starts
abbrev pub overwritten : {V : Type 0} → ℕ → V → OlderOf V
overwritten next value = record { value = value; behind = next }

-- it was overwritten behind the start of this flush
abbrev pub outlives : {V : Type 0} → ℕ → OlderOf V → Bool
outlives flush o = nat_lt flush o.behind

-- a sector after a change, where the next piece to start has this number. A flush brings to the medium what was written before it
-- started, so what was overwritten by then is gone
abbrev pub changed : {V : Type 0} → ℕ → ChangeOf V → HeldOf V → HeldOf V
changed next (Puts value) h = record { now = value ∷ []; older = h.older ++ map (overwritten next) h.now }
changed next (Secures value) h = surely value
changed next (Tries value) h = record { now = h.now ++ value ∷ []; older = h.older }
changed next (Syncs flush) h = record { now = h.now; older = filter (outlives flush) h.older }
changed next Doubts h = record { now = left h; older = [] }

-- after several, in their order
abbrev pub changed_by : {V : Type 0} → ℕ → List (ChangeOf V) → HeldOf V → HeldOf V
changed_by next [] h = h
changed_by next (change ∷ changes) h = changed_by next changes (changed next change h)

-- THE SECTORS OF A PIECE

-- what a piece does to the disk
pub record Work : Type 0 where
  pub kind : Kind
  -- a write that goes past volatile caches (SBC: FUA)
  pub through : Bool
  -- sectors of the disk
  pub extent : Extent
  -- the bytes that a write sends
  pub bytes : List ℕ

-- sector i is one of these
abbrev pub has : Extent → ℕ → Bool
has extent i = nat_le extent.first i && nat_lt i (extent.first + extent.count)

-- sector k of some bytes
abbrev pub sector_in : ℕ → ℕ → List ℕ → List ℕ
sector_in size k bytes = take size (drop (k * size) bytes)

-- what a write has for sector i
abbrev pub value_at : ℕ → Work → ℕ → List ℕ
value_at size w i = sector_in size (i - w.extent.first) w.bytes

-- what the act of a piece does to sector i
abbrev pub act_changes : ℕ → ℕ → Work → ℕ → List Change
act_changes size number w i = elim (w.kind) [
  | Read ↦ []
  | Write ↦ if has w.extent i then (if w.through then Secures (value_at size w i) else Puts (value_at size w i)) ∷ [] else []
  | Flush ↦ Syncs number ∷ []
]

-- what its failure does; so too what it may have done while it is at work
abbrev pub fault_changes : ℕ → Work → ℕ → List Change
fault_changes size w i = elim (w.kind) [
  | Read ↦ []
  | Write ↦ (if has w.extent i then Tries (value_at size w i) ∷ [] else []) ++ (if w.through then Doubts ∷ [] else [])
  | Flush ↦ Doubts ∷ []
]

-- what its return as bad does: a piece that had neither acted nor failed may have done a part of its work
abbrev pub return_changes : ℕ → Fate → Work → ℕ → List Change
return_changes size fate w i = if is_fresh fate then fault_changes size w i else []
