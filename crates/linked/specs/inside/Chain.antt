-- How the entries are linked. No public clause cites this module.
use Rattle.std.specs.Prelude.{◌≡◌, ◌≢◌, ℕ, zero, suc, ◌+◌, ◌==◌, Bool, ⊤, List, [], ◌∷◌, length, Option, Some, None}
use Rattle.slab.specs.Slab.{Slab, get, slab_len, Updates}
use Rattle.linked.specs.Queue.{IsVacant, AreApart, VisitsAtMost}
use Rattle.linked.specs.declared.spots.Node.{Node}
use Rattle.linked.specs.declared.entries.Entries.{Entries}

module _ {T : Type 0} where
  -- the spot of the first entry, and what stands for it where there is none
  abbrev pub first_or : List (ℕ × T) → Option ℕ → Option ℕ
  first_or [] beyond = beyond
  first_or (e ∷ rest) beyond = Some e.0

  -- the spot of the last entry, and what stands for it where there is none
  abbrev pub last_or : Option ℕ → List (ℕ × T) → Option ℕ
  last_or beyond [] = beyond
  last_or beyond (e ∷ rest) = last_or (Some e.0) rest

  -- an entry with these neighbours
  abbrev pub linked : T → Option ℕ → Option ℕ → Node T
  linked item before after = record { item = item; before = before; after = after }

  -- each entry stands at its spot, linked to the one before and the one behind it
  abbrev pub Stands : Slab (Node T) → Option ℕ → List (ℕ × T) → Option ℕ → Type 0
  Stands s before [] behind = ⊤
  Stands s before (e ∷ rest) behind =
      (get s e.0 ≡ Some (linked e.1 before (first_or rest behind)))
      × Stands s (Some e.0) rest behind

  -- the slab holds these entries in this order, and no others
  pub record IsChain (s : Slab (Node T)) (first last : Option ℕ) (entries : List (ℕ × T)) : Type 0 where
    pub first_is : first ≡ first_or entries None
    pub last_is : last ≡ last_or None entries
    pub stands : Stands s None entries None
    pub apart : AreApart entries
    pub others : (spot : ℕ) → IsVacant spot entries → get s spot ≡ None
    pub count : slab_len s ≡ length entries

  -- the entry at a spot, and those that follow by its link
  abbrev pub walk_on : ℕ → Option (Node T) → (Option ℕ → List (ℕ × T)) → List (ℕ × T)
  walk_on spot None go = []
  walk_on spot (Some e) go = (spot, e.item) ∷ go e.after

  -- this many entries from a spot on, by their links
  abbrev pub walk : Slab (Node T) → ℕ → Option ℕ → List (ℕ × T)
  walk s zero at = []
  walk s (suc count) None = []
  walk s (suc count) (Some spot) = walk_on spot (get s spot) (λ at. walk s count at)

  -- the entries in order
  abbrev pub chain_from : Slab (Node T) → Option ℕ → List (ℕ × T)
  chain_from s first = walk s (slab_len s) first

  -- one entry changes, is put there or is taken, and that counts as one visit
  pub record Changes (old new : Entries T) (spot : ℕ) (slot : Option (Node T)) : Type 0 where
    pub updates : Updates old.slab new.slab spot slot
    pub places : new.slab.capacity ≡ old.slab.capacity
    pub visits : new.visits.count ≡ old.visits.count + 1

  -- an entry is put at a vacant spot
  pub record Puts (old : Entries T) (spot : ℕ) (e : Node T) (new : Entries T) : Type 0 where
    pub was_vacant : get old.slab spot ≡ None
    pub changes : Changes old new spot (Some e)
    pub count : slab_len new.slab ≡ slab_len old.slab + 1

  -- the entry of a spot is taken
  pub record Takes (old : Entries T) (spot : ℕ) (e : Node T) (new : Entries T) : Type 0 where
    pub stood : get old.slab spot ≡ Some e
    pub changes : Changes old new spot None
    pub count : slab_len new.slab + 1 ≡ slab_len old.slab

  -- an entry gets other links
  pub record Relinks (old new : Entries T) (spot : ℕ) (e : Node T) : Type 0 where
    pub changes : Changes old new spot (Some e)
    pub count : slab_len new.slab ≡ slab_len old.slab

  -- the entry at this spot is linked on to the one behind
  abbrev pub LinksOn : Entries T → Option ℕ → Option ℕ → Entries T → Type 0
  LinksOn old None behind new = new ≡ old
  LinksOn old (Some spot) behind new =
      (e : Node T) → get old.slab spot ≡ Some e → Relinks old new spot (record e { after = behind })

  -- the entry at this spot is linked back to the one before
  abbrev pub LinksBack : Entries T → Option ℕ → Option ℕ → Entries T → Type 0
  LinksBack old None before new = new ≡ old
  LinksBack old (Some spot) before new =
      (e : Node T) → get old.slab spot ≡ Some e → Relinks old new spot (record e { before = before })

module _ {T : Type 0} (number_of : T → ℕ) where
  -- the entry of a spot is taken, and has this number
  pub record TakesNumber (old : Entries T) (spot number : ℕ) (e : Node T) (new : Entries T) : Type 0 where
    pub is_number : number_of e.item ≡ number
    pub takes : Takes old spot e new

  -- the spot is vacant, or its entry has another number
  pub record TakesNone (old : Entries T) (spot number : ℕ) (new : Entries T) : Type 0 where
    pub none : (e : Node T) → get old.slab spot ≡ Some e → number_of e.item ≢ number
    pub same : new.slab ≡ old.slab
    pub visits : VisitsAtMost 1 old.visits.count new.visits.count

  -- the entry at the spot is looked at: whether it has the number, and the spot behind it
  pub record Looks (old : Entries T) (spot number : ℕ) (is_number : Bool) (after : Option ℕ)
      (new : Entries T) : Type 0 where
    pub entry : Node T
    pub stood : get old.slab spot ≡ Some entry
    pub tells : is_number ≡ (number_of entry.item == number)
    pub is_after : after ≡ entry.after
    pub same : new.slab ≡ old.slab
    pub visits : new.visits.count ≡ old.visits.count + 1
