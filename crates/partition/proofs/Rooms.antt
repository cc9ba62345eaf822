-- What a call does to the rooms below it does to the rooms that the partition driver shows.
use Rattle.std.proofs.Common.{◌≡◌, ◌⊎◌, inl, inr, ℕ, zero, suc, Bool, true, false, List, [], ◌∷◌, Option, Some, None, Result, refl, sym, ◌∙◌, ap}
use Rattle.partition.proofs.Common.{◌+◌, slice_index_or, rooms_for, Wanted, MatchBool, All-weaker, Completion, DeviceLabel, Entry, Request, Cancels, DeviceView, Packet, Reserved, IsOrderly, IsOffRooms, room_at, SameRooms, SetsRoom, Moves, IsBeside, BooksPiece, ActsOrFaults, ActsNot, Finishes, FinishesNot, Resets, CancelsIfOpen, CancelsAt, NoneToCancel, DrainsAll, PausesAll, ResumesAll, HandsUpNone, TakesLabel, ForgetsLabels, for_wanted, first_of, others_of, rooms_with, with_rooms, wanted_at, Notes}

-- BY SPOTS

first_is : (wanted : List (Option Request)) → first_of wanted ≡ slice_index_or wanted 0 None
first_is [] = refl
first_is (x ∷ xs) = refl

others_at : (wanted : List (Option Request)) (k : ℕ) → slice_index_or (others_of wanted) k None ≡ slice_index_or wanted (suc k) None
others_at [] k = refl
others_at (x ∷ xs) k = refl

at_spot : (wanted : List (Option Request)) (rooms : List (Option Reserved)) (spot : ℕ)
    → room_at (rooms_for wanted rooms) spot ≡ for_wanted (room_at rooms spot) (slice_index_or wanted spot None)
at_spot wanted [] spot = refl
at_spot wanted (x ∷ xs) zero = ap (λ (w : Option Request). for_wanted x w) (first_is wanted)
at_spot wanted (x ∷ xs) (suc k) =
    at_spot (others_of wanted) xs k ∙ ap (λ (w : Option Request). for_wanted (room_at xs k) w) (others_at wanted k)

pub at_room : (wanted : Wanted) (rooms : List (Option Reserved)) (spot : ℕ)
    → room_at (rooms_with wanted rooms) spot ≡ for_wanted (room_at rooms spot) (wanted_at wanted spot)
at_room wanted rooms spot = at_spot wanted.by_spot rooms spot

-- the rooms below stay
pub rooms_same : (wanted : Wanted) (old new : List (Option Reserved)) → SameRooms old new
    → SameRooms (rooms_with wanted old) (rooms_with wanted new)
rooms_same wanted old new same = λ spot.
    at_room wanted new spot ∙ ap (λ (x : Option Reserved). for_wanted x (wanted_at wanted spot)) (same spot) ∙ sym (at_room wanted old spot)

-- one of them changes
pub rooms_set : (wanted : Wanted) (old new : List (Option Reserved)) (spot : ℕ) (before after : Option Reserved)
    → SetsRoom old spot before after new
    → SetsRoom (rooms_with wanted old) spot (for_wanted before (wanted_at wanted spot)) (for_wanted after (wanted_at wanted spot)) (rooms_with wanted new)
rooms_set wanted old new spot before after h = record {
  was = at_room wanted old spot ∙ ap (λ (x : Option Reserved). for_wanted x (wanted_at wanted spot)) h.was;
  is = at_room wanted new spot ∙ ap (λ (x : Option Reserved). for_wanted x (wanted_at wanted spot)) h.is;
  others = λ other away.
      at_room wanted new other ∙ ap (λ (x : Option Reserved). for_wanted x (wanted_at wanted other)) (h.others other away)
      ∙ sym (at_room wanted old other);
}

-- one of them is reserved, and noted
pub rooms_noted : (wanted wanted' : Wanted) (old new : List (Option Reserved)) (spot : ℕ) (r : Request) (reserved : Reserved)
    → SetsRoom old spot None (Some reserved) new → Notes wanted spot r wanted'
    → SetsRoom (rooms_with wanted old) spot None (Some (record reserved { request = r })) (rooms_with wanted' new)
rooms_noted wanted wanted' old new spot r reserved h n = record {
  was = at_room wanted old spot ∙ ap (λ (x : Option Reserved). for_wanted x (wanted_at wanted spot)) h.was;
  is = at_room wanted' new spot ∙ ap (λ (x : Option Reserved). for_wanted x (wanted_at wanted' spot)) h.is
      ∙ ap (λ (w : Option Request). for_wanted (Some reserved) w) n.is;
  others = λ other away.
      at_room wanted' new other ∙ ap (λ (x : Option Reserved). for_wanted x (wanted_at wanted' other)) (h.others other away)
      ∙ ap (λ (w : Option Request). for_wanted (room_at old other) w) (n.others other away)
      ∙ sym (at_room wanted old other);
}

-- where the array says the same at each spot, the same rooms are shown
pub rooms_alike : (wanted wanted' : Wanted) (rooms : List (Option Reserved)) → ((spot : ℕ) → wanted_at wanted' spot ≡ wanted_at wanted spot)
    → SameRooms (rooms_with wanted rooms) (rooms_with wanted' rooms)
rooms_alike wanted wanted' rooms same = λ spot.
    at_room wanted' rooms spot ∙ ap (λ (w : Option Request). for_wanted (room_at rooms spot) w) (same spot) ∙ sym (at_room wanted rooms spot)

-- BY CALLS

module _ (wanted : Wanted) (old new : DeviceView) where
  abbrev from : DeviceView
  from = with_rooms wanted old

  abbrev to : DeviceView
  to = with_rooms wanted new

  pub moves_up : (labels : List DeviceLabel) → Moves old labels new → Moves from labels to
  moves_up labels h = record {
    same_rules = h.same_rules;
    same_packets = h.same_packets;
    same_rooms = rooms_same wanted old.rooms new.rooms h.same_rooms;
    same_submitted = h.same_submitted;
    same_most = h.same_most;
    same_places = ap (λ n. n + wanted.places) h.same_places;
    run = h.run;
    adapter = h.adapter;
  }

  pub beside_up : IsBeside old new → IsBeside from to
  beside_up h = record {
    same_rules = h.same_rules;
    same_packets = h.same_packets;
    same_rooms = rooms_same wanted old.rooms new.rooms h.same_rooms;
    same_submitted = h.same_submitted;
    same_most = h.same_most;
    same_places = ap (λ n. n + wanted.places) h.same_places;
    same_adapter = h.same_adapter;
  }

  pub same_up : new ≡ old → to ≡ from
  same_up e = ap (λ (v : DeviceView). with_rooms wanted v) e

  pub acts_up : (tag : ℕ) (done : Bool) → MatchBool done (ActsOrFaults old tag new) (ActsNot old tag new)
      → MatchBool done (ActsOrFaults from tag to) (ActsNot from tag to)
  acts_up tag true h = record {
    piece = h.piece;
    label = h.label;
    fresh = record { is_out = h.fresh.is_out; is_tag = h.fresh.is_tag; is_fresh = h.fresh.is_fresh };
    told = h.told;
    if_booked = h.if_booked;
    moves = moves_up _ h.moves;
  }
  acts_up tag false h = record {
    none = λ piece fresh. h.none piece (record { is_out = fresh.is_out; is_tag = fresh.is_tag; is_fresh = fresh.is_fresh });
    same = same_up h.same;
  }

  pub books_up : (tag piece : ℕ) (what : Result Entry Completion) → BooksPiece old tag piece what new → BooksPiece from tag piece what to
  books_up tag piece what h = record { adapter = h.adapter; same = ap (λ (v : DeviceView). with_rooms wanted v) h.same }

  pub finishes_up : (tag : ℕ) (done : Bool) → MatchBool done (Finishes old tag new) (FinishesNot old tag new)
      → MatchBool done (Finishes from tag to) (FinishesNot from tag to)
  finishes_up tag true h = record {
    piece = h.piece;
    class = h.class;
    starts = h.starts;
    is_out = h.is_out;
    is_tag = h.is_tag;
    only_starts = h.only_starts;
    moves = moves_up _ h.moves;
  }
  finishes_up tag false h = record { free = h.free; same = same_up h.same }

  pub cancels_up : (number : ℕ) → CancelsIfOpen old number new → CancelsIfOpen from number to
  cancels_up number h = record { one_of = by h.one_of }
    where
      by : (Cancels old.state number new.state × IsBeside old new) ⊎ (NoneToCancel old.state number × (new ≡ old))
          → (Cancels from.state number to.state × IsBeside from to) ⊎ (NoneToCancel from.state number × (to ≡ from))
      by (inl (c, beside)) = inl (c, beside_up beside)
      by (inr (none, same)) = inr (none, same_up same)

  pub cancels_at_up : (spot number : ℕ) → CancelsAt old spot number new → CancelsAt from spot number to
  cancels_at_up spot number h = record {
    there = λ there. cancels_up number (h.there there);
    gone = λ gone. same_up (h.gone gone);
    either = by h.either;
  }
    where
      by : (Cancels old.state number new.state × IsBeside old new) ⊎ (new ≡ old)
          → (Cancels from.state number to.state × IsBeside from to) ⊎ (to ≡ from)
      by (inl (c, beside)) = inl (c, beside_up beside)
      by (inr same) = inr (same_up same)

  pub drains_up : DrainsAll old new → DrainsAll from to
  drains_up h = record { drains = h.drains; beside = beside_up h.beside }

  pub pauses_up : PausesAll old new → PausesAll from to
  pauses_up h = record { pauses = h.pauses; beside = beside_up h.beside }

  pub none_up : HandsUpNone old new → HandsUpNone from to
  none_up h = record { unfinished = h.unfinished; settled = h.settled; same = same_up h.same }

pub resumes_up : (wanted : Wanted) (old new : DeviceView) → ResumesAll old new → ResumesAll (with_rooms wanted old) (with_rooms wanted new)
resumes_up wanted old new h = record {
  resumed = h.resumed;
  starts = h.starts;
  resumes = h.resumes;
  only_starts = h.only_starts;
  moves = moves_up wanted (record old { state = h.resumed }) new h.starts h.moves;
}

pub resets_up : (wanted : Wanted) (old new : DeviceView) → Resets old new → Resets (with_rooms wanted old) (with_rooms wanted new)
resets_up wanted old new h = record {
  fresh = h.fresh;
  all_faulted = h.all_faulted;
  all_fresh = h.all_fresh;
  rising = h.rising;
  moves = moves_up wanted old (record new { adapter = h.all_faulted }) _ h.moves;
  noted = h.noted;
}

pub label_up : (wanted : Wanted) (old new : DeviceView) (label : Option DeviceLabel) → TakesLabel old label new
    → TakesLabel (with_rooms wanted old) label (with_rooms wanted new)
label_up wanted old new None h = (h.0, ap (λ (v : DeviceView). with_rooms wanted v) h.1)
label_up wanted old new (Some label) h = (h.0, h.1, ap (λ (v : DeviceView). with_rooms wanted v) h.2)

pub forgets_up : (wanted : Wanted) (old new : DeviceView) → ForgetsLabels old new → ForgetsLabels (with_rooms wanted old) (with_rooms wanted new)
forgets_up wanted old new h = ap (λ (v : DeviceView). with_rooms wanted v) h

-- the spots of the packets are as vacant as below
off_up : (wanted : Wanted) (rooms : List (Option Reserved)) (packet : Packet) → IsOffRooms rooms packet → IsOffRooms (rooms_with wanted rooms) packet
off_up wanted rooms packet off =
    at_room wanted rooms packet.spot ∙ ap (λ (x : Option Reserved). for_wanted x (wanted_at wanted packet.spot)) off

pub orderly_up : (wanted : Wanted) (v : DeviceView) → IsOrderly v → IsOrderly (with_rooms wanted v)
orderly_up wanted v o = record {
  adapter = o.adapter;
  read = o.read;
  distinct = o.distinct;
  places = o.places;
  packets = o.packets;
  spots = o.spots;
  vacant = All-weaker (IsOffRooms v.rooms) (IsOffRooms (rooms_with wanted v.rooms)) (off_up wanted v.rooms) v.packets o.vacant;
  sending = o.sending;
  labels = o.labels;
  uncounted = o.uncounted;
  none_owed = o.none_owed;
  not_removed = o.not_removed;
}
