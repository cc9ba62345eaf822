-- One of the answers that wait is taken out, or the earliest label.
use Rattle.std.proofs.Common.{◌≡◌, ◌<◌, ◌≤◌, ◌+◌, ℕ, zero, suc, Bool, IsTrue, refl, List, [], ◌∷◌, None, sym, ap, ◌∙◌, subst, arith, map}
use Rattle.std.specs.Prelude.{All, Option, Some, OnSome, MatchOption, remove, length, option_copied}
use Rattle.io_manager.proofs.Common.{HoldsAt, Bor, deque_len, deque_capacity, All-head, All-tail, All-cons, All-nil, Slab, DeviceView, Limits, Tables, in_memory, Label, ManagerView, QueueView, SameQueue, TakesFirst, AreRising, IsAbove, IsNextAnswer, TakesLabel, TakesShown, answer_number, WasGiven, AreApart, ManagerKept, view_of}
use Rattle.io_manager.specs.declared.Answer.{Answer}
use Rattle.io_manager.specs.declared.tables.OpenRequest.{OpenRequest}
use Rattle.io_manager.proofs.InMemory.{whole_label}
use Rattle.io_manager.specs.inside.Ordering.{HasOtherNumber}
use Rattle.io_manager.specs.inside.Sound.{own_places}

all_but : {X : Type 0} (P : X → Type 0) (xs : List X) (at : ℕ) → All P xs → All P (remove xs at)
all_but P [] zero all = All-nil _
all_but P [] (suc at) all = All-nil _
all_but P (x ∷ xs) zero all = All-tail P x xs all
all_but P (x ∷ xs) (suc at) all = All-cons P x (remove xs at) (All-head P x xs all) (all_but P xs at (All-tail P x xs all))

above_all_but : (number : ℕ) (answers : List Answer) (at : ℕ) → All (IsAbove number) (map answer_number answers) → All (IsAbove number) (map answer_number (remove answers at))
above_all_but number [] zero all = All-nil _
above_all_but number [] (suc at) all = All-nil _
above_all_but number (a ∷ more) zero all = All-tail (IsAbove number) a.number (map answer_number more) all
above_all_but number (a ∷ more) (suc at) all =
    All-cons (IsAbove number) a.number (map answer_number (remove more at)) (All-head (IsAbove number) a.number (map answer_number more) all)
    (above_all_but number more at (All-tail (IsAbove number) a.number (map answer_number more) all))

rising_but : (answers : List Answer) (at : ℕ) → AreRising (map answer_number answers) → AreRising (map answer_number (remove answers at))
rising_but [] zero all = tt
rising_but [] (suc at) all = tt
rising_but (a ∷ more) zero all = all.1
rising_but (a ∷ more) (suc at) all = (above_all_but a.number more at all.0, rising_but more at all.1)

apart_but : (requests : Slab OpenRequest) (answers : List Answer) (at : ℕ) → AreApart requests answers → AreApart requests (remove answers at)
apart_but requests answers at all slot request there = all_but (HasOtherNumber request.number) answers at (all slot request there)

-- the tables with the answers of others, of which there is one less
pub with_fewer : (limits : Limits) (below : DeviceView) (tables other : Tables) (at : ℕ) → ManagerKept limits below tables
    → other.untaken.items ≡ remove tables.untaken.items at → deque_len other.untaken ≤ deque_len tables.untaken
    → deque_capacity other.untaken ≡ deque_capacity tables.untaken → ManagerKept limits below (record tables { untaken = other.untaken })
with_fewer limits below tables other at kept items shorter same =
    let k = kept.sound in
    record {
      sound = record {
        fits = k.fits;
        numbers = record { requests = k.numbers.requests; handles = k.numbers.handles; rising = k.numbers.rising; submitted = k.numbers.submitted };
        held = k.held;
        few = k.few;
        places = record {
          labels = k.places.labels;
          answered = k.places.answered;
          alike = k.places.alike;
          label_bytes = k.places.label_bytes;
          answer_bytes = k.places.answer_bytes;
          untaken = (let room = k.places.untaken in omega arith);
          handles = k.places.handles;
          requests = k.places.requests;
        };
        on_map = k.on_map;
        topmost = k.topmost;
        spots = k.spots;
        in_state = k.in_state;
        none_put_by = k.none_put_by;
        rising = subst (λ (as' : List Answer). AreRising (map answer_number as')) (sym items) (rising_but tables.untaken.items at k.rising);
        given = subst (All (WasGiven tables.next_request)) (sym items) (all_but (WasGiven tables.next_request) tables.untaken.items at k.given);
        apart = subst (AreApart tables.requests) (sym items) (apart_but tables.requests tables.untaken.items at k.apart);
        chained = k.chained;
        numbered = k.numbered;
        counted = k.counted;
      };
      inside = kept.inside;
      settled = kept.settled;
      going = kept.going;
      none_recorded = kept.none_recorded;
      reached = kept.reached;
    }

-- what is said of an answer that is there
pub of_some : {X : Type 0} (found : Option X) (x : X) (P : Type 0) → found ≡ Some x → OnSome found P → P
of_some found x P is h = subst (λ (o : Option _). OnSome o P) is h

-- the answer in front is the next that is taken
pub seen_first : (v : ManagerView) (answers : List Answer) (found : Option (Bor Answer)) → v.answers ≡ answers → AreRising (map answer_number answers)
    → MatchOption found (length answers ≤ 0) (λ x. (0 < length answers) × HoldsAt (λ y. x.now ≡ y) answers 0) → IsNextAnswer v (option_copied found)
seen_first v [] None is rising first = (v, (is, refl))
seen_first v [] (Some x) is rising first = absurd (let none : 0 < 0 = first.0 in omega arith)
seen_first v (a ∷ rest) None is rising first = absurd (let none : suc (length rest) ≤ 0 = first in omega arith)
seen_first v (a ∷ rest) (Some x) is rising first =
    let here : x.now ≡ a = first.1 a in
    (record v { answers = rest }, (rest, is ∙ ap (λ y. y ∷ rest) (sym here), subst (λ (y : Answer). All (IsAbove y.number) (map answer_number rest)) (sym here) rising.0, refl))

-- THE EARLIEST LABEL

first_taken : (v : ManagerView) (queue : QueueView Label) (k : Bool) (found : Option Label) (places : ℕ) → k ≡ v.rules.keeps_bytes → TakesFirst (in_memory k) v.labels found queue.items → queue.keeps ≡ v.keeps → places ≡ v.places
    → TakesShown v found (record v { labels = queue.items; keeps = queue.keeps; places = places })
first_taken v queue k None places is takes keeps as_many = (
  takes.0,
  ap (λ items. record v { labels = items; keeps = queue.keeps; places = places }) takes.1
      ∙ ap (λ kept. record v { keeps = kept; places = places }) keeps
      ∙ ap (λ n. record v { places = n }) as_many,
)
first_taken v queue k (Some shown) places is takes keeps as_many = (
  queue.items,
  takes.0,
  takes.1,
  takes.2 ∙ ap (λ b. in_memory b takes.0) is,
  ap (λ kept. record v { labels = queue.items; keeps = kept; places = places }) keeps ∙ ap (λ n. record v { labels = queue.items; places = n }) as_many,
)

pub shown_first : (limits : Limits) (below : DeviceView) (tables : Tables) (queue : QueueView Label) (found : Option Label) (old : ManagerView) → view_of limits below tables ≡ old
    → tables.labels.keeps_bytes ≡ below.rules.keeps_bytes → TakesFirst (in_memory tables.labels.keeps_bytes) tables.labels.items found queue.items → SameQueue tables.labels queue
    → TakesShown old found (view_of limits below (record tables { labels = queue }))
shown_first limits below tables queue found old shown bytes takes same =
    subst (λ v. TakesShown v found (view_of limits below (record tables { labels = queue }))) shown
    (first_taken (view_of limits below tables) queue tables.labels.keeps_bytes found (below.places + own_places (record tables { labels = queue })) bytes takes same.1
    (ap (λ (n : ℕ). below.places + (n + tables.answered.places + deque_capacity tables.untaken + tables.handles.capacity + tables.requests.capacity)) same.0))

pub taken_whole : (old : ManagerView) (found : Option Label) (new : ManagerView) → IsTrue old.rules.keeps_bytes → TakesShown old found new → TakesLabel old found new
taken_whole old None new is takes = takes
taken_whole old (Some shown) new is takes =
    let whole : shown ≡ takes.1 = takes.3 ∙ whole_label old.rules.keeps_bytes takes.1 is in
    (takes.0, takes.2 ∙ ap (λ label. label ∷ takes.0) (sym whole), takes.4)
