-- What is known of a sector whose value after a loss isn't told.
use Rattle.std.specs.Prelude.{◌≡◌, ◌⊎◌, ◌↔◌, ℕ, ◌&&◌, ◌||◌, ◌==◌, Bool, true, false, List, [], ◌∷◌, ◌++◌, map, Option, Some, None, if◌then◌else◌}
use Rattle.std.specs.List.{filter_map, list_any}
use Rattle.sector_judge.specs.declared.candidates.Candidate.{Candidate}
use Rattle.sector_judge.specs.declared.candidates.Candidate.TheVariants.{First, Told}
use Rattle.sector_judge.specs.declared.Event.{Event}
use Rattle.sector_judge.specs.declared.Event.TheVariants.{Put, Secured, Tried, Synced, Doubted, Given, Lost, Ended}
use Rattle.loss.specs.Held.{HeldOf, IsOneOf, OlderOf, Puts, Tries, Syncs, Doubts, changed, surely}
use Rattle.sector_judge.specs.Happened.{HappenAll}

-- the value that it had first in this session is any, or one of these; and it holds candidates
pub record Knowledge : Type 0 where
  pub any : Bool
  pub firsts : List ℕ
  pub held : HeldOf Candidate

-- a session that begins with one of these
abbrev pub known_from : Bool → List ℕ → Knowledge
known_from any firsts = record { any = any; firsts = firsts; held = surely First }

-- nothing is known
abbrev pub nothing_known : Knowledge
nothing_known = known_from true []

-- WHAT IT STANDS FOR

abbrev pub MayBegin : Knowledge → ℕ → Type 0
MayBegin k value = (k.any ≡ true) ⊎ IsOneOf value k.firsts

-- a candidate's value, where the first one was this
abbrev pub value_from : ℕ → Candidate → ℕ
value_from first First = first
value_from first (Told value) = value

abbrev pub older_from : ℕ → OlderOf Candidate → OlderOf ℕ
older_from first o = record { value = value_from first o.value; behind = o.behind }

abbrev pub holding : ℕ → HeldOf Candidate → HeldOf ℕ
holding first h = record { now = map (value_from first) h.now; older = map (older_from first) h.older }

-- the sector holds one of the things that it may
abbrev pub IsKnown : Knowledge → HeldOf ℕ → Type 0
IsKnown k h = (first : ℕ) × MayBegin k first × (h ≡ holding first k.held)

-- WHAT EVENTS TELL

abbrev pub is_value : ℕ → Candidate → Bool
is_value value First = false
is_value value (Told other) = other == value

abbrev pub is_first : Candidate → Bool
is_first First = true
is_first (Told value) = false

abbrev pub told_of : Candidate → Option ℕ
told_of First = None
told_of (Told value) = Some value

-- a read may give this value: it is told, or it can be the first one
abbrev pub may_give : ℕ → Knowledge → Bool
may_give value k = list_any (is_value value) k.held.now || (list_any is_first k.held.now && (k.any || list_any (λ other. other == value) k.firsts))

-- it was changed, where the next piece to start has this number
abbrev pub with_held : Knowledge → HeldOf Candidate → Knowledge
with_held k h = record k { held = h }

-- a read that gives a value which is told teaches nothing; any other value can only be the first one
abbrev pub given : ℕ → Knowledge → Option Knowledge
given value k =
    if list_any (is_value value) k.held.now
    then Some k
    else (if list_any is_first k.held.now && (k.any || list_any (λ other. other == value) k.firsts)
    then Some (record k { any = false; firsts = value ∷ [] })
    else None)

-- a session ended, of which reads could still be answered so: the next begins with one of these
abbrev pub ended : Knowledge → Knowledge
ended k = known_from (list_any is_first k.held.now && k.any) (filter_map told_of k.held.now ++ (if list_any is_first k.held.now then k.firsts else []))

abbrev pub next : Knowledge → Event → Option Knowledge
next k (Put value piece) = Some (with_held k (changed piece (Puts (Told value)) k.held))
next k (Secured value) = Some (with_held k (surely (Told value)))
next k (Tried value) = Some (with_held k (changed 0 (Tries (Told value)) k.held))
next k (Synced flush) = Some (with_held k (changed 0 (Syncs flush) k.held))
next k Doubted = Some (with_held k (changed 0 Doubts k.held))
next k (Given value) = given value k
next k Lost = Some (ended (with_held k (changed 0 Doubts k.held)))
next k Ended = Some (ended k)

abbrev pub judged : Knowledge → List Event → Option Knowledge
judged k [] = Some k
judged k (event ∷ events) = elim (next k event) [ Some k' ↦ judged k' events | None ↦ None ]

-- THE LAW

abbrev pub IsKnownAs : Option Knowledge → HeldOf ℕ → Type 0
IsKnownAs None h = ⊥
IsKnownAs (Some k) h = IsKnown k h

-- from some first value on the events lead to just what is known behind them
abbrev pub JudgesExactly : Type 0
JudgesExactly = (events : List Event) (h' : HeldOf ℕ) → ((first : ℕ) × HappenAll (surely first) events h') ↔ IsKnownAs (judged nothing_known events) h'
