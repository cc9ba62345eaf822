-- What an adapter in memory does, it does too as one that isn't faithful to its sectors, but for its acts.
use Rattle.std.proofs.Common.{ℕ, List, [], ◌∷◌, map, Option, Some, None, MatchOption, ap}
use denote.Ref.{Bor}
use Rattle.srb.specs.declared.Srb.{Srb}
use Rattle.srb.specs.declared.Class.{Class}
use Rattle.srb.specs.declared.Completion.{Completion}
use Rattle.srb.specs.declared.DeviceLabel.{DeviceLabel}
use Rattle.srb.specs.Fate.{class_of}
use Rattle.adapter.specs.View.{TagInUse, AdapterView, IsInOrder, IsOn, Accepts, ReturnsOn, ReservesMore, MovesByAll}
use Rattle.adapter.specs.Calls.{HasNoneFresh, Finishes, FinishesNot, Resets, LeavesFirst, HasNoLabel, fault_of}
use Rattle.adapter.specs.Booking.{IsArmed}
use Rattle.miniport.specs.Apart.{apart}
use Rattle.miniport.proofs.ActingApart.{faults_apart}

pub order_apart : (v : AdapterView) → IsInOrder v → IsInOrder (apart v)
order_apart v h = record {
  sector_size = h.sector_size;
  sectors = h.sectors;
  whole_sectors = h.whole_sectors;
  max_transfer = h.max_transfer;
  depth = h.depth;
  tags_below = h.tags_below;
  tags_differ = h.tags_differ;
  failures = h.failures;
  labels = h.labels;
}

pub on_apart : (v : AdapterView) (tag : ℕ) (u : TagInUse) (others : List TagInUse) → IsOn v tag u others → IsOn (apart v) tag u others
on_apart v tag u others h = record { in_use = h.in_use; has_tag = h.has_tag }

pub on_again : (v : AdapterView) (tag : ℕ) (u : TagInUse) (others : List TagInUse) → IsOn (apart v) tag u others → IsOn v tag u others
on_again v tag u others h = record { in_use = h.in_use; has_tag = h.has_tag }

pub accepts_apart : (old : AdapterView) (tag piece : ℕ) (srb : Srb) (new : AdapterView) → Accepts old tag piece srb new → Accepts (apart old) tag piece srb (apart new)
accepts_apart old tag piece srb new h = record { tags = h.tags; is_free = h.is_free; below = h.below; in_use = h.in_use; after = ap apart h.after }

pub reserves_apart : (old new : AdapterView) → ReservesMore old new → ReservesMore (apart old) (apart new)
reserves_apart old new h = record { reserved = h.reserved; after = ap apart h.after; lasts = h.lasts }

abbrev returns_apart : (old : AdapterView) (tag piece : ℕ) (class : Class) (new : AdapterView) → ReturnsOn old tag piece class new → ReturnsOn (apart old) tag piece class (apart new)
returns_apart old tag piece class new h = record {
  use' = h.use';
  others = h.others;
  tags = h.tags;
  failures = h.failures;
  is_on = on_apart old tag h.use' h.others h.is_on;
  is_piece = h.is_piece;
  counted = h.counted;
  may = h.may;
  in_use = h.in_use;
  after = ap apart h.after;
}

finishes_apart : (old : AdapterView) (tag : ℕ) (srb : Srb) (completion : Completion) (new : AdapterView) → Finishes old tag srb completion new → Finishes (apart old) tag srb completion (apart new)
finishes_apart old tag srb completion new h = record {
  piece = h.piece;
  returns = returns_apart old tag h.piece (class_of completion) new h.returns;
  comes_back = h.comes_back;
  holds_moved = h.holds_moved;
}

pub finish_apart : (old new : AdapterView) (tag : ℕ) (r : Option (Srb × Completion)) → MatchOption r (FinishesNot old tag new) (λ back. Finishes old tag back.0 back.1 new)
    → MatchOption r (FinishesNot (apart old) tag (apart new)) (λ back. Finishes (apart old) tag back.0 back.1 (apart new))
finish_apart old new tag None h = record { is_free = h.is_free; same = ap apart h.same }
finish_apart old new tag (Some back) h = finishes_apart old tag back.0 back.1 new h

all_fault : (old new : AdapterView) (fresh : List TagInUse) → MovesByAll old (map fault_of fresh) new → MovesByAll (apart old) (map fault_of fresh) (apart new)
all_fault old new [] h = ap apart h
all_fault old new (u ∷ fresh) (after, (tag, fault), rest) = (apart after, (tag, faults_apart old after tag u.piece fault), all_fault after new fresh rest)

pub resets_apart : (old new : AdapterView) → Resets old new → Resets (apart old) (apart new)
resets_apart old new h = record {
  fresh = h.fresh;
  tags = h.tags;
  failures = h.failures;
  left = h.left;
  are_fresh = h.are_fresh;
  rising = h.rising;
  spoiled = h.spoiled;
  in_use = h.in_use;
  after = ap apart h.after;
  all_faulted = apart h.all_faulted;
  moves = all_fault old h.all_faulted h.fresh h.moves;
  noted = record { tags = h.noted.tags; failures = h.noted.failures; in_use = h.noted.in_use; counted = h.noted.counted; after = ap apart h.noted.after };
}

pub takes_apart : (old new : AdapterView) (r : Option DeviceLabel) → MatchOption r (HasNoLabel old new) (λ label. LeavesFirst old label new) → MatchOption r (HasNoLabel (apart old) (apart new)) (λ label. LeavesFirst (apart old) label (apart new))
takes_apart old new None h = record { no_label = h.no_label; same = ap apart h.same }
takes_apart old new (Some label) h = record { told = h.told; rest = h.rest; first = h.first; shown = h.shown; after = ap apart h.after }

pub armed_apart : (v : AdapterView) (tag : ℕ) (r : Option (ℕ × Bor Srb)) → MatchOption r (HasNoneFresh v tag) (λ found. IsArmed v tag found.0 found.1.now)
    → MatchOption r (HasNoneFresh (apart v) tag) (λ found. IsArmed (apart v) tag found.0 found.1.now)
armed_apart v tag None h = λ u others on. h u others (on_again v tag u others on)
armed_apart v tag (Some found) h = record { use' = h.use'; others = h.others; is_on = on_apart v tag h.use' h.others h.is_on; is_piece = h.is_piece; is_fresh = h.is_fresh; is_srb = h.is_srb }
