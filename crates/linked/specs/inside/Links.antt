-- What is done to the links. No public clause cites this module.
use Rattle.std.specs.Prelude.{◌≡◌, ℕ, ◌+◌, List, ◌∷◌, ◌++◌, length, Option, Some, None, is_none, if◌then◌else◌}
use Rattle.linked.specs.Queue.{Queue, Lacks}
use Rattle.linked.specs.inside.Chain.{linked, chain_from, IsChain, Puts, LinksOn, LinksBack}
use Rattle.linked.specs.declared.entries.Entries.{Entries}
use Rattle.linked.specs.declared.linked.Links.{Links}

module _ {T : Type 0} where
  -- the queue that the links show
  abbrev pub queue_of : Links T → Queue T
  queue_of l = record {
    entries = chain_from l.entries.slab l.first;
    places = l.entries.slab.capacity;
    visits = l.entries.visits.count;
  }

  -- the links are those of just the entries that they show
  abbrev pub AreInOrder : Links T → Type 0
  AreInOrder l = IsChain l.entries.slab l.first l.last (chain_from l.entries.slab l.first)

  -- an item is put behind the last one
  pub record LinksLast (old : Links T) (spot : ℕ) (item : T) (new : Links T) : Type 0 where
    pub put : Entries T
    pub puts : Puts old.entries spot (linked item old.last None) put
    pub links : LinksOn put old.last (Some spot) new.entries
    pub first : new.first ≡ (if is_none old.first then Some spot else old.first)
    pub last : new.last ≡ Some spot

  -- the neighbours of an entry that was taken are linked to each other
  pub record Unlinks (old : Links T) (before after : Option ℕ) (new : Links T) : Type 0 where
    pub on : Entries T
    pub links_on : LinksOn old.entries before after on
    pub links_back : LinksBack on after before new.entries
    pub first : new.first ≡ (if is_none before then after else old.first)
    pub last : new.last ≡ (if is_none after then before else old.last)

  -- the links are as they were, and this many more visits were made
  pub record OnlyVisits (old new : Links T) (count : ℕ) : Type 0 where
    pub slab : new.entries.slab ≡ old.entries.slab
    pub visits : new.entries.visits.count ≡ old.entries.visits.count + count
    pub first : new.first ≡ old.first
    pub last : new.last ≡ old.last

module _ {T : Type 0} (number_of : T → ℕ) where
  -- the first entry of the number stands at the spot
  pub record Meets (old : Links T) (number spot : ℕ) (new : Links T) : Type 0 where
    pub before : List (ℕ × T)
    pub item : T
    pub behind : List (ℕ × T)
    pub stood : (queue_of old).entries ≡ before ++ (spot, item) ∷ behind
    pub is_number : number_of item ≡ number
    pub none_before : Lacks number_of number before
    pub only_visits : OnlyVisits old new (length before + 1)

  -- no entry has the number
  pub record MeetsNot (old : Links T) (number : ℕ) (new : Links T) : Type 0 where
    pub none : Lacks number_of number (queue_of old).entries
    pub only_visits : OnlyVisits old new (length (queue_of old).entries)
