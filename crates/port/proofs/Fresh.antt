-- A port of which nothing was asked yet.
use Rattle.std.proofs.Common.{◌≡◌, ◌≤◌, ◌+◌, ℕ, Bool, false, List, [], Option, eqb, refl, sym, subst, ap, ◌∙◌, arith, length, map}
use Rattle.std.proofs.lemmas.List.Elements.{All-nil}
use Rattle.srb.specs.declared.DeviceLabel.{DeviceLabel}
use Rattle.adapter.specs.View.{AdapterView, TagInUse, IsInOrder}
use Rattle.port.specs.declared.queues.PortPacket.{PortPacket}
use Rattle.port.specs.declared.queues.Ended.{Ended}
use Rattle.machine.specs.Rules.{Rules}
use Rattle.sector.specs.Extents.{sectors_in}
use Rattle.machine.proofs.Numbers.{AreDistinct-opening}
use Rattle.port.specs.declared.queues.Sizes.{Sizes}
use Rattle.port.specs.inside.TableView.{TableView, Capacity}
use Rattle.port.specs.inside.TableCalls.{IsEmpty}
use Rattle.port.specs.Shown.{rules_of, view_of}
use Rattle.port.specs.inside.Invariant.{IsInHand, IsRoom, IsWaiting, IsAtWork, HasEnded, IsTaken}
use Rattle.std.specs.List.{IsDistinct}
use Rattle.machine.specs.declared.Request.{Request}
use Rattle.port.specs.Opening.{IsFresh, sizes_of, opening_view}
use Rattle.port.proofs.Orderly.{in_hand}

abbrev fresh_capacity : ℕ → Capacity
fresh_capacity depth = record { started = depth; waiting = 0; done = 0; rooms = 0 }

-- the books of empty queues over this adapter
abbrev books_empty : TableView → Sizes → TableView
books_empty b sizes = record b { sizes = sizes; waiting = []; done = []; last_request = 0; next_piece = 1; submitted = 0; removing = false; places = 0; rooms = []; capacity = fresh_capacity sizes.depth }

empty_is : (b : TableView) (sizes : Sizes) → IsEmpty sizes b → b ≡ books_empty b sizes
empty_is b sizes h =
    ap (λ (x : Sizes). record b { sizes = x }) h.sizes_are
    ∙ ap (λ (x : List PortPacket). record b { sizes = sizes; waiting = x }) h.waiting
    ∙ ap (λ (x : List Ended). record b { sizes = sizes; waiting = []; done = x }) h.done
    ∙ ap (λ (x : ℕ). record b { sizes = sizes; waiting = []; done = []; last_request = x }) h.last_request
    ∙ ap (λ (x : ℕ). record b { sizes = sizes; waiting = []; done = []; last_request = 0; next_piece = x }) h.next_piece
    ∙ ap (λ (x : ℕ). record b { sizes = sizes; waiting = []; done = []; last_request = 0; next_piece = 1; submitted = x }) h.submitted
    ∙ ap (λ (x : Bool). record b { sizes = sizes; waiting = []; done = []; last_request = 0; next_piece = 1; submitted = 0; removing = x }) h.removing
    ∙ ap (λ (x : ℕ). record b { sizes = sizes; waiting = []; done = []; last_request = 0; next_piece = 1; submitted = 0; removing = false; places = x }) h.places
    ∙ ap (λ (x : List (Option (Option Request))). record b { sizes = sizes; waiting = []; done = []; last_request = 0; next_piece = 1; submitted = 0; removing = false; places = 0; rooms = x }) h.rooms
    ∙ ap (λ (x : Capacity). record b { sizes = sizes; waiting = []; done = []; last_request = 0; next_piece = 1; submitted = 0; removing = false; places = 0; rooms = []; capacity = x }) h.capacity

distinct_none : IsDistinct eqb []
unfolding IsDistinct
distinct_none = tt

abbrev view_fresh : AdapterView → AdapterView
view_fresh v = record v { tags = []; labels = [] }

fresh_is : (v : AdapterView) → IsFresh v → v ≡ view_fresh v
fresh_is v h = ap (λ (x : List TagInUse). record v { tags = x }) h.tags ∙ ap (λ (x : List DeviceLabel). record v { tags = []; labels = x }) h.labels

abbrev pub sizes_by : ℕ → ℕ → ℕ → ℕ → Bool → Bool → Sizes
sizes_by sector_size sectors max_transfer depth faithful keeps_bytes = record { sector_size = sector_size; sectors = sectors; max_transfer = max_transfer; depth = depth; faithful = faithful; keeps_bytes = keeps_bytes }

hand_empty : (b : TableView) (v : AdapterView) → v.accepted ≤ 3 → length b.started ≡ v.depth → IsInOrder (view_fresh v) → IsInHand (books_empty b (sizes_of v)) (view_fresh v) []
hand_empty b v few long order =
    let rules : Rules = rules_of (sizes_of v) in
    let depth = order.depth.1 in
    in_hand (books_empty b (sizes_of v)) (view_fresh v) [] (record {
      adapter = order;
      sizes = record { sector_size = refl; sectors = refl; max_transfer = refl; depth = refl; faithful = refl; keeps_bytes = refl };
      started = long;
      waiting = All-nil (IsWaiting rules (view_fresh v));
      in_turn = tt;
      at_work = All-nil (IsAtWork rules b.started);
      ended = All-nil (HasEnded rules false);
      reserved = All-nil (IsRoom rules (view_fresh v));
      rooms_out = All-nil (IsRoom rules (view_fresh v));
      spots = distinct_none;
      taken = All-nil (IsTaken []);
      removing = λ _. refl;
      distinct = AreDistinct-opening (map (sectors_in v.sectors) rules.partitions);
      places = refl;
      submitted = omega arith;
      accepted = omega arith;
      numbered = omega arith;
      labels = omega arith;
    }) (λ _. refl)

pub opens_in_hand : (b : TableView) (v : AdapterView) (sizes : Sizes) → sizes ≡ sizes_of v → IsEmpty sizes b → IsFresh v → IsInOrder v → IsInHand b v []
opens_in_hand b v sizes e h f order =
    let h' : IsEmpty (sizes_of v) b = subst (λ (x : Sizes). IsEmpty x b) e h in
    let v_is : v ≡ view_fresh v = fresh_is v f in
    subst (λ x. IsInHand x v []) (sym (empty_is b (sizes_of v) h'))
    (subst (λ x. IsInHand (books_empty b (sizes_of v)) x []) (sym v_is) (hand_empty b v f.accepted (h'.started) (subst IsInOrder v_is order)))

pub opens_seen : (b : TableView) (v : AdapterView) (sizes : Sizes) → sizes ≡ sizes_of v → IsEmpty sizes b → IsFresh v → view_of b v ≡ opening_view v
opens_seen b v sizes e h f =
    let h' : IsEmpty (sizes_of v) b = subst (λ (x : Sizes). IsEmpty x b) e h in
    let v_is : v ≡ view_fresh v = fresh_is v f in
    ap (λ (x : TableView). view_of x v) (empty_is b (sizes_of v) h') ∙ ap (λ (x : AdapterView). view_of (books_empty b (sizes_of v)) x) v_is
    ∙ ap (λ (n : ℕ). record (opening_view (view_fresh v)) { places = n }) (let e : v.depth + 0 + 0 + 0 ≡ v.depth = omega arith in e) ∙ ap (λ (x : AdapterView). opening_view x) (sym v_is)

pub sizes_are : (v : AdapterView) (sector_size sectors max_transfer depth : ℕ) (faithful keeps_bytes : Bool) → sector_size ≡ v.sector_size → sectors ≡ length v.sectors → max_transfer ≡ v.max_transfer → depth ≡ v.depth
    → faithful ≡ v.faithful → keeps_bytes ≡ v.keeps_bytes → sizes_by sector_size sectors max_transfer depth faithful keeps_bytes ≡ sizes_of v
sizes_are v sector_size sectors max_transfer depth faithful keeps_bytes a c d e f k =
    ap (λ (n : ℕ). sizes_by n sectors max_transfer depth faithful keeps_bytes) a ∙ ap (λ (n : ℕ). sizes_by v.sector_size n max_transfer depth faithful keeps_bytes) c
    ∙ ap (λ (n : ℕ). sizes_by v.sector_size (length v.sectors) n depth faithful keeps_bytes) d ∙ ap (λ (n : ℕ). sizes_by v.sector_size (length v.sectors) v.max_transfer n faithful keeps_bytes) e
    ∙ ap (λ (b : Bool). sizes_by v.sector_size (length v.sectors) v.max_transfer v.depth b keeps_bytes) f
    ∙ ap (λ (b : Bool). sizes_by v.sector_size (length v.sectors) v.max_transfer v.depth v.faithful b) k
