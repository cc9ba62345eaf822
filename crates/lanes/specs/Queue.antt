-- The rule of the queue of completions. A lane puts an item for each piece that it hands over, with its tag and its running count; one worker takes them.
use Rattle.std.specs.Prelude.{◌≡◌, ℕ, zero, suc, ◌==◌, ◌≤◌, Bool, true, false, List, [], ◌∷◌, ◌++◌, length, filter}
use mathlib.Core.Option.{some}
use lib.ListN.{get_elem?}
use Rattle.atomic_table.specs.Seated.{TableId}
use Rattle.lanes.specs.declared.rule.Item.{Item}
use Rattle.lanes.specs.declared.rule.View.{View}

-- What a queue is: its identity, and how many items it has room for
pub record QueueView : Type 0 where
  pub id : TableId
  pub capacity : ℕ

-- What a pass is: its queue, and what it put or took
pub record Standing : Type 0 where
  pub queue : TableId
  pub view : View

-- a pass of this queue, which put or took that
abbrev pub standing : TableId → View → Standing
standing queue view = record { queue = queue; view = view }

-- a lane's pass that has put nothing
abbrev pub fresh_lane : ℕ → View
fresh_lane tag = record { takes = false; tag = tag; lanes = 0; put = []; taken = [] }

-- the pass of a worker over that many lanes, which has taken nothing
abbrev pub fresh_worker : ℕ → View
fresh_worker lanes = record { takes = true; tag = 0; lanes = lanes; put = []; taken = [] }

-- the passes of that many lanes, by rising tags
abbrev pub lanes_of : TableId → ℕ → List Standing
lanes_of queue zero = []
lanes_of queue (suc n) = lanes_of queue n ++ standing queue (fresh_lane n) ∷ []

-- the passes of a new queue: each lane's by rising tags, and then the worker's
abbrev pub issued : TableId → ℕ → List Standing
issued queue lanes = lanes_of queue lanes ++ standing queue (fresh_worker lanes) ∷ []

abbrev pub item_of : ℕ → ℕ → Item
item_of tag count = record { tag = tag; count = count }

-- that many items of one tag, with rising counts from 0
abbrev pub numbered : ℕ → ℕ → List Item
numbered tag zero = []
numbered tag (suc n) = numbered tag n ++ item_of tag n ∷ []

-- a lane's part of the items: those of its tag, in their order
abbrev pub part : ℕ → List Item → List Item
part tag items = filter (λ x. x.tag == tag) items

-- a lane has put an item
abbrev pub with_put : View → Item → View
with_put v x = record v { put = v.put ++ x ∷ [] }

-- the worker has taken an item
abbrev pub with_taken : View → Item → View
with_taken v x = record v { taken = v.taken ++ x ∷ [] }

-- the worker has made one more lane's pass
abbrev pub with_lane : View → View
with_lane v = record v { lanes = suc v.lanes }

-- where a pass stands: the worker first, then the lanes by their tags
abbrev pub place_of : Bool → ℕ → ℕ
place_of true tag = 0
place_of false tag = suc tag

-- The rule, which holds between any two steps: of the items that the queue holds, the oldest first, and of what each pass knows
pub record QueueKept (items : List Item) (views : List View) : Type 0 where
  pub worker : View
  pub first : get_elem? views 0 ≡ some worker
  pub takes : worker.takes ≡ true
  -- a lane for each tag below their number
  pub lanes : length views ≡ suc worker.lanes
  pub is_lane : (t : ℕ) (v : View) → get_elem? views (suc t) ≡ some v → (v.takes ≡ false) × (v.tag ≡ t)
  -- what a lane put are items of its own tag with rising counts
  pub counted : (t : ℕ) (v : View) → get_elem? views (suc t) ≡ some v → v.put ≡ numbered t (length v.put)
  -- what the worker took, then what the queue holds, is in each lane's part just what that lane put
  pub put : (t : ℕ) (v : View) → get_elem? views (suc t) ≡ some v → part t (worker.taken ++ items) ≡ v.put
  -- neither holds anything of a tag that has no lane
  pub none : (t : ℕ) → worker.lanes ≤ t → part t (worker.taken ++ items) ≡ []

-- at some moment the queue held these items, and the pass knew this
abbrev pub Stands : View → List Item → Type 0
Stands v items = (views : List View) × QueueKept items views × (get_elem? views (place_of v.takes v.tag) ≡ some v)

-- at some moment the queue held that many items, and the pass knew this
abbrev pub StoodAt : ℕ → View → Type 0
StoodAt n v = (items : List Item) × (length items ≡ n) × Stands v items

-- the pass is of this queue, and it is the lane's of this tag
abbrev pub IsLane : TableId → ℕ → Standing → Type 0
IsLane queue tag p = (p.queue ≡ queue) × (p.view.takes ≡ false) × (p.view.tag ≡ tag)

-- the pass is of this queue, and it is the worker's
abbrev pub IsWorker : TableId → Standing → Type 0
IsWorker queue p = (p.queue ≡ queue) × (p.view.takes ≡ true)

-- a lane has put this many items more, of its own tag with the next counts
abbrev pub more_put : View → ℕ → View
more_put v zero = v
more_put v (suc n) = let w = more_put v n in with_put w (item_of v.tag (length w.put))

abbrev pub HasPut : View → View → Type 0
HasPut before after = (n : ℕ) × (after ≡ more_put before n)

-- the worker has taken these items
abbrev pub HasTaken : View → View → Type 0
HasTaken before after = (items : List Item) × (after ≡ record before { taken = before.taken ++ items })
