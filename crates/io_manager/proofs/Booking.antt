-- What is booked of a piece changes nothing but what the adapter shows.
use Rattle.std.proofs.Common.{◌≡◌, ℕ, ◌==◌, Bool, true, false, List, [], Result, Ok, Err, refl, sym, ap, subst, ◌∙◌, if◌then◌else◌}
use Rattle.io_manager.proofs.Common.{All-map, Extent, Completion, Entry, AdapterView, TagInUse, with_booked, booked_on, with_booking, books_labels, DeviceView, Limits, Tables, WritesInside, AllWriteInside, BooksPiece, ManagerView}
use Rattle.device.specs.Served.{BooksPiece as BooksBelow}
use Rattle.io_manager.specs.inside.Sound.{ManagerKept, IsSound, view_of}
use Rattle.io_manager.proofs.Fitted.{FitsBelow-same}

inside_with : (partitions : List Extent) (what : Result Entry Completion) (u : TagInUse) → WritesInside partitions u → WritesInside partitions (with_booked what u)
inside_with partitions (Ok entry) u h = h
inside_with partitions (Err completion) u h = h

inside_on : (partitions : List Extent) (tag : ℕ) (what : Result Entry Completion) (u : TagInUse) (b : Bool) → (u.tag == tag) ≡ b → WritesInside partitions u → WritesInside partitions (booked_on tag what u)
inside_on partitions tag what u true is h = rw is (inside_with partitions what u h)
inside_on partitions tag what u false is h = rw is h

inside_booking : (partitions : List Extent) (tag : ℕ) (what : Result Entry Completion) (v : AdapterView) → AllWriteInside partitions v → AllWriteInside partitions (with_booking tag what v)
inside_booking partitions tag what v all = All-map (WritesInside partitions) (booked_on tag what) v.tags (λ i d low. inside_on partitions tag what _ _ refl (all i d low))

inside_by : (partitions : List Extent) (tag piece : ℕ) (what : Result Entry Completion) (v v' : AdapterView) (b : Bool) → v' ≡ (if b then with_booking tag what v else v) → AllWriteInside partitions v → AllWriteInside partitions v'
inside_by partitions tag piece what v v' true after all = subst (AllWriteInside partitions) (sym after) (inside_booking partitions tag what v all)
inside_by partitions tag piece what v v' false after all = subst (AllWriteInside partitions) (sym after) all

sound_beside : (limits : Limits) (below : DeviceView) (tables : Tables) (adapter : AdapterView) → IsSound limits below tables → IsSound limits (record below { adapter = adapter }) tables
sound_beside limits below tables adapter h = record {
  fits = FitsBelow-same limits below (record below { adapter = adapter }) refl refl h.fits;
  numbers = record { requests = h.numbers.requests; handles = h.numbers.handles; rising = h.numbers.rising; submitted = h.numbers.submitted };
  held = h.held;
  few = h.few;
  places = h.places;
  on_map = h.on_map;
  topmost = h.topmost;
  spots = h.spots;
  in_state = h.in_state;
  none_put_by = h.none_put_by;
  rising = h.rising;
  given = h.given;
  apart = h.apart;
  chained = h.chained;
  numbered = h.numbered;
  counted = h.counted;
}

pub kept_booked : (limits : Limits) (below below' : DeviceView) (tables : Tables) (tag piece : ℕ) (what : Result Entry Completion) → ManagerKept limits below tables → BooksBelow below tag piece what below' → ManagerKept limits below' tables
kept_booked limits below below' tables tag piece what k h =
    let none : below'.adapter.labels ≡ [] = books_labels below.adapter tag piece what below'.adapter h.adapter ∙ k.none_recorded in
    let inside : AllWriteInside below.rules.partitions below'.adapter = inside_by below.rules.partitions tag piece what below.adapter below'.adapter h.adapter.booked h.adapter.after k.inside in
    subst (λ v. ManagerKept limits v tables) (sym h.same) (record {
      sound = sound_beside limits below tables below'.adapter k.sound;
      inside = inside;
      settled = k.settled;
      going = k.going;
      none_recorded = none;
      reached = k.reached;
    })

pub shown_booked : (limits : Limits) (below below' : DeviceView) (tables : Tables) (old : ManagerView) (tag piece : ℕ) (what : Result Entry Completion) → view_of limits below tables ≡ old → BooksBelow below tag piece what below'
    → BooksPiece old tag piece what (view_of limits below' tables)
shown_booked limits below below' tables old tag piece what shown h =
    subst (λ v. BooksPiece v tag piece what (view_of limits below' tables)) shown (record { adapter = h.adapter; same = ap (λ (x : DeviceView). view_of limits x tables) h.same })
