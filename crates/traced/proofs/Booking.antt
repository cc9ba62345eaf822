-- A step of a book.
use Rattle.traced.proofs.Common.{◌≡◌, inl, inr, ℕ, zero, suc, replicate, max, ◌+◌, ◌-◌, ◌<◌, ◌≤◌, Bool, true, false, List, [], ◌∷◌, ◌++◌, length, Option, Some, None, Result, refl, sym, ap, ◌∙◌, subst, arith, length-append, slice_get_within, get_or_from_slice_get, Contains-append_left, Contains-append_right, Contains-permutation, IsPermutation-remove, IsPermutation-sym, Label, View, ManagerView, LogView, noted, noted_all, IsArmedAs, LooksNowhere, SlotsView, number_at, AreArmed, ArmedBelow, MayNoteAll, AreTold, AreNoCalls, MayCall, Rules, State, Run, IsSame-refl, Run-append, labels_left, slot_at, starting, Reply, OpenHandle, Completion, as_answer, BooksPiece, TakesAnswerOf, InsufficientResources, Event, IsTransferEvent, StepsTakeNoMemory, IsRight, sizes_of, brought_by, open_at, is_call_event, is_handle_event, unless_told, admitted_at, HaveOneCall, HaveCallsOf, Serves, TraceEntry, owners_after, TracedView, log_of, IsCarried, IsServed, may_want, IsFirst, IsNamed, IsSound, IsGivenBelow, shown}
use Rattle.std.specs.Prelude.{IsFalse, IsTrue, ◌⊎◌, Contains, IfSome, remove, slice_get}
use Rattle.machine.specs.declared.Label.TheVariants.{Call, Device, Answer, Cancel, Pause, Resume, Remove, Surprise, Removed}
use Rattle.io_manager.specs.declared.Answer.{Answer as Waiting}
use Rattle.io_manager.specs.declared.Reply.TheVariants.{Handle, Ok, Request, Answered, Refused, Ignored}
use Rattle.srb.specs.declared.Entry.{Entry as Booked}
use Rattle.compose.specs.declared.Event.TheVariants.{Open, Close, Read, Write, Flush, CancelIoEx, Mark, QueryRemove, CancelRemove, Remove as RemoveEvent, SurpriseRemove, Act, Finish, Reset}
use Rattle.traced.specs.Entries.{labels_of, entry, row_of}
use Rattle.traced.proofs.Telling.{Laws, no_calls_may, told_first, told_all, room_noted, labels_noted}

-- labels were noted, and the rest is still to come
pub record IsNotedSoFar (clients client : ℕ) (stack : ManagerView) (log : LogView) (slots : SlotsView) (stack' : ManagerView) (log' : LogView) (slots' : SlotsView) : Type 0 where
  pub may : MayNoteAll clients client log' stack'.labels
  pub room : length stack'.labels ≤ log'.room
  pub same_stack : record stack' { labels = [] } ≡ record stack { labels = [] }
  pub noted : noted_all client log' stack'.labels ≡ noted_all client log stack.labels
  pub numbers : (k : ℕ) → unless_told stack'.labels (number_at slots'.numbers k) ≡ unless_told stack.labels (number_at slots.numbers k)
  pub looks : LooksNowhere slots.owner slots'.owner
  pub below : (next : ℕ) → ArmedBelow next slots.owner → ArmedBelow next slots'.owner

-- CALLS

one_call_may : (clients client : ℕ) (ready : Option ℕ) (labels : List Label) → client < clients → ready ≡ Some client → HaveOneCall labels → MayCall clients client ready labels
one_call_may clients client ready [] less is one = tt
one_call_may clients client ready (Call n q ∷ ls) less is one = (less, is, one)
one_call_may clients client ready (_ ∷ ls) less is one = one_call_may clients client ready ls less is one

calls_may : (clients client : ℕ) (ready : Option ℕ) (labels : List Label) (b : Bool) → HaveCallsOf b labels → (b ≡ true → (client < clients) × (ready ≡ Some client)) → MayCall clients client ready labels
calls_may clients client ready labels true have who = one_call_may clients client ready labels (who refl).0 (who refl).1 have
calls_may clients client ready labels false have who = no_calls_may clients client ready labels have

-- what is noted goes by entries and owners alone
noted_same : (client : ℕ) (p q : LogView) (labels : List Label) → p.entries ≡ q.entries → p.owners ≡ q.owners
    → ((noted_all client p labels).entries ≡ (noted_all client q labels).entries) × ((noted_all client p labels).owners ≡ (noted_all client q labels).owners)
noted_same client p q [] entries owners = (entries, owners)
noted_same client p q (label ∷ labels) entries owners =
    let owners' : owners_after client p.owners label ≡ owners_after client q.owners label = ap (λ os. owners_after client os label) owners in
    noted_same client (noted client p label) (noted client q label) labels
    (λ i. entries i ++ entry label (row_of (owners' i) label) ∷ [])
    owners'

below_more : (a b : ℕ) (owner : View) → a ≤ b → ArmedBelow a owner → ArmedBelow b owner
below_more a b owner less all k = let here = all k in omega arith

given_below : (old : ManagerView) (event : Event) (reply : Reply) (new : ManagerView) → Serves old event reply new → IsGivenBelow new.state.next_request reply
given_below old event (Request id) new right = right.opens.given
given_below old event _ new right = tt

-- A STEP

module _ (laws : Laws) (rules : Rules) (opening : State) (handles : List (Option OpenHandle)) (count clients client : ℕ) (stack : ManagerView) (log : LogView) (slots : SlotsView)
    (event : Event) (reply : Reply) (stepped : ManagerView) (sound : IsSound rules opening handles count stack log slots)
    (who : is_call_event event ≡ true → (client < clients) × (log.ready ≡ Some client)) (right : Serves stack event reply stepped) where
  goes : Run rules stack.state stepped.labels stepped.state
  goes = subst (λ (r : Rules). Run r stack.state stepped.labels stepped.state) sound.same_rules right.run

  all_noted : MayNoteAll clients client log stepped.labels × AreTold (noted_all client log stepped.labels).entries (noted_all client log stepped.labels).owners stepped.state
  all_noted = told_all laws rules stack.state stepped.state clients client log stepped.labels goes sound.told (calls_may clients client log.ready stepped.labels (is_call_event event) right.calls who)

  pub may_note : MayNoteAll clients client log stepped.labels
  may_note = all_noted.0

  in_trace : (answer : Waiting) → Contains stepped.labels (as_answer answer) ⊎ Contains stack.answers answer → Contains (labels_of log.entries ++ stepped.labels) (as_answer answer)
  in_trace answer (inl told) = Contains-append_right (labels_of log.entries) stepped.labels (as_answer answer) told
  in_trace answer (inr before) = Contains-append_left (labels_of log.entries) stepped.labels (as_answer answer) (sound.answered answer before)

  later : stack.state.next_request ≤ stepped.state.next_request
  later = let c = laws.count rules stack.state stepped.labels stepped.state goes in omega arith

  uses : labels_left rules stepped.state + length stepped.labels ≤ labels_left rules stack.state + brought_by (sizes_of rules) event
  uses = subst (λ (r : Rules). labels_left r stepped.state + length stepped.labels ≤ labels_left r stack.state + brought_by (sizes_of r) event) sound.same_rules right.used_up

  pub has_room : labels_left rules stack.state + brought_by (sizes_of rules) event ≤ log.room → length stepped.labels ≤ log.room
  has_room room = let u = uses in omega arith

  module _ (stack' : ManagerView) (log' : LogView) (armed slots' : SlotsView) (stack_is : stack' ≡ record stepped { labels = [] }) (log_is : log' ≡ noted_all client log stepped.labels)
      (arms : (k : ℕ) → number_at armed.numbers k ≡ admitted_at reply k (number_at slots.numbers k))
      (retires : (k : ℕ) → number_at slots'.numbers k ≡ unless_told stepped.labels (number_at armed.numbers k))
      (below_armed : (next : ℕ) → IsGivenBelow next reply → ArmedBelow next slots.owner → ArmedBelow next armed.owner)
      (below_retired : (next : ℕ) → ArmedBelow next armed.owner → ArmedBelow next slots'.owner) where
    pub sound_after : is_handle_event event ≡ false → labels_left rules stack.state + brought_by (sizes_of rules) event ≤ log.room
        → IsSound rules opening handles count stack' log' slots'
    sound_after no_handle room = record {
      same_rules = ap (λ v. v.rules) stack_is ∙ right.same_rules ∙ sound.same_rules;
      on_grid = sound.on_grid;
      keeps_bytes = sound.keeps_bytes;
      as_many = sound.as_many;
      same_handles = ap (λ v. v.handles) stack_is ∙ right.handles no_handle ∙ sound.same_handles;
      taken = ap (λ v. v.labels) stack_is;
      run =
          let joined : Run rules opening (labels_of log.entries ++ stepped.labels) stepped.state = Run-append rules opening (labels_of log.entries) stack.state stepped.labels stepped.state sound.run goes in
          let all : labels_of log'.entries ≡ labels_of log.entries ++ stepped.labels = ap (λ p. labels_of p.entries) log_is ∙ labels_noted client log stepped.labels in
          subst (λ (v : ManagerView). Run rules opening (labels_of log'.entries) v.state) (sym stack_is) (subst (λ (ls : List Label). Run rules opening ls stepped.state) (sym all) joined);
      told =
          subst (λ (v : ManagerView). AreTold log'.entries log'.owners v.state) (sym stack_is)
          (subst (λ (p : LogView). AreTold p.entries p.owners stepped.state) (sym log_is) all_noted.1);
      numbers = λ k. retires k ∙ ap (unless_told stepped.labels) (arms k ∙ ap (admitted_at reply k) (sound.numbers k)) ∙ sym (right.holders k)
          ∙ sym (ap (λ v. open_at v k) stack_is);
      below = subst (λ (v : ManagerView). ArmedBelow v.state.next_request slots'.owner) (sym stack_is)
          (below_retired stepped.state.next_request (below_armed stepped.state.next_request (given_below stack event reply stepped right) (below_more stack.state.next_request stepped.state.next_request slots.owner later sound.below)));
      answered = λ answer is.
          let all : labels_of log'.entries ≡ labels_of log.entries ++ stepped.labels = ap (λ p. labels_of p.entries) log_is ∙ labels_noted client log stepped.labels in
          let waits : Contains stepped.answers answer = subst (λ (v : ManagerView). Contains v.answers answer) stack_is is in
          subst (λ (ls : List Label). Contains ls (as_answer answer)) (sym all) (in_trace answer (right.answers answer waits));
      room =
          let u = uses in
          let left : log'.room ≡ log.room - length stepped.labels = ap (λ p. p.room) log_is ∙ room_noted client log stepped.labels in
          subst (λ (v : ManagerView). labels_left rules v.state ≤ log'.room) (sym stack_is) (omega arith);
    }

    pub is_carried : IsRight stack event reply stepped → LooksNowhere slots.owner slots'.owner → IsCarried client (shown stack log slots) event reply (shown stack' log' slots')
    is_carried is_right looks =
        let same = noted_same client log (log_of (shown stack log slots)) stepped.labels refl refl in
        record {
          stepped = stepped;
          right = is_right;
          stack = stack_is;
          entries = ap (λ p. p.entries) log_is ∙ same.0;
          owners = ap (λ p. p.owners) log_is ∙ same.1;
          looks = looks;
        }

-- OWNERS

pub owners_stay : (client : ℕ) (p : LogView) (labels : List Label) → AreNoCalls labels → (noted_all client p labels).owners ≡ p.owners
owners_stay client p [] none = refl
owners_stay client p (Call n q ∷ ls) none = absurd none
owners_stay client p (other ∷ ls) none = owners_stay client (noted client p other) ls none

owner_more : (client : ℕ) (owners : List ℕ) (label : Label) → length owners ≤ length (owners_after client owners label)
owner_more client owners (Call n q) = omega (arith, length-append owners (client ∷ []))
owner_more client owners _ = omega arith

pub owners_more : (client : ℕ) (p : LogView) (labels : List Label) → length p.owners ≤ length (noted_all client p labels).owners
owners_more client p [] = omega arith
owners_more client p (label ∷ labels) =
    let here = owner_more client p.owners label in let more = owners_more client (noted client p label) labels in omega arith

pub no_call_noted : (client : ℕ) (p p' : LogView) (labels : List Label) (b : Bool) → HaveCallsOf b labels → p' ≡ noted_all client p labels → b ≡ false → p'.owners ≡ p.owners
no_call_noted client p p' labels true have is b = absurd (cc)
no_call_noted client p p' labels false have is b = ap (λ q. q.owners) is ∙ owners_stay client p labels have

-- open requests have numbers that were given
pub open_given : (rules : Rules) (opening : State) (handles : List (Option OpenHandle)) (count : ℕ) (stack : ManagerView) (log : LogView) (slots : SlotsView)
    → IsSound rules opening handles count stack log slots → AreArmed slots.numbers slots.owner → (k number : ℕ) → open_at stack k ≡ Some number → number < stack.state.next_request
open_given rules opening handles count stack log slots sound armed k number is =
    let is_armed : IsArmedAs (slot_at slots.owner k) (Some number) = subst (IsArmedAs (slot_at slots.owner k)) (sound.numbers k ∙ is) (armed k) in
    subst (λ (n : ℕ). n < stack.state.next_request) is_armed.1 (sound.below k)

-- WANT OF MEMORY

transfers_want : (event : Event) → IsTransferEvent event → may_want event ≡ true
transfers_want (Read h offset buffer) is = refl
transfers_want (Write h offset bytes through) is = refl
transfers_want (Flush h) is = refl
transfers_want _ is = absurd is

pub served_wants : StepsTakeNoMemory → (client : ℕ) (old : TracedView) (event : Event) (reply : Reply) (new : TracedView) (bytes : List ℕ) → IsServed client old event reply new
    → reply ≡ Refused InsufficientResources bytes → may_want event ≡ true
served_wants law client old event reply new bytes (inl carried) is =
    transfers_want event ((law old.stack event (Refused InsufficientResources bytes) carried.stepped (subst (λ (r : Reply). IsRight old.stack event r carried.stepped) is carried.right)).for_transfers tt)
served_wants law client old event reply new bytes (inr wanting) is = wanting.wants

-- AT FIRST

none_at : (count k : ℕ) → number_at (replicate count None) k ≡ None
none_at zero k = refl
none_at (suc count) zero = refl
none_at (suc count) (suc k) = none_at count k

never_armed : (count k : ℕ) → (slot_at (starting count) k).last ≡ 0
never_armed zero k = refl
never_armed (suc count) zero = refl
never_armed (suc count) (suc k) = never_armed count k

pub sound_first : (rules : Rules) (opening : State) (handles : List (Option OpenHandle)) (count : ℕ) (stack : ManagerView) (log : LogView) (slots : SlotsView)
    → IsNamed rules opening handles count stack → IsFirst stack → log.entries ≡ [] → log.owners ≡ [] → 2 ≤ log.room
    → (most : ℕ) → most ≡ count → slots.numbers ≡ replicate most None → slots.owner ≡ starting (max most 1)
    → IsSound rules opening handles count stack log slots
sound_first rules opening handles count stack log slots named first entries owners room most is numbers owner = record {
  same_rules = named.same_rules;
  on_grid = subst (λ (r : Rules). IsFalse r.any_cut) named.same_rules first.on_grid;
  keeps_bytes = subst (λ (r : Rules). IsTrue r.keeps_bytes) named.same_rules first.keeps_bytes;
  as_many = named.as_many;
  same_handles = named.same_handles;
  taken = first.no_labels;
  run = subst (λ (es : List TraceEntry). Run rules opening (labels_of es) stack.state) (sym entries) (subst (λ (s : State). Run rules opening [] s) (sym named.same_state) (IsSame-refl opening));
  told = subst (λ (es : List TraceEntry). AreTold es log.owners stack.state) (sym entries) (subst (λ (os : List ℕ). AreTold [] os stack.state) (sym owners) (told_first stack.state first.first first.none_wait));
  numbers = λ k. ap (λ ns. number_at ns k) numbers ∙ none_at most k ∙ sym (first.none_open k);
  below = λ k.
      let zero_is : (slot_at slots.owner k).last ≡ 0 = ap (λ v. (slot_at v k).last) owner ∙ never_armed (max most 1) k in
      let one = first.first in omega arith;
  answered = λ answer is. absurd (first.no_answers answer is);
  room = subst (λ (r : Rules). labels_left r stack.state ≤ log.room) named.same_rules (let few = first.few_left in omega arith);
}

-- ROOM IS MADE

-- for labels, or for a call of a client
pub sound_with_room : (rules : Rules) (opening : State) (handles : List (Option OpenHandle)) (count : ℕ) (stack : ManagerView) (log : LogView) (slots : SlotsView) (log' : LogView) (room : ℕ) (ready : Option ℕ)
    → IsSound rules opening handles count stack log slots → log' ≡ record log { room = room; ready = ready } → log.room ≤ room → IsSound rules opening handles count stack log' slots
sound_with_room rules opening handles count stack log slots log' room ready sound is more = subst (λ (p : LogView). IsSound rules opening handles count stack p slots) (sym is) made
  where
    made : IsSound rules opening handles count stack (record log { room = room; ready = ready }) slots
    made = record {
      same_rules = sound.same_rules;
      on_grid = sound.on_grid;
      keeps_bytes = sound.keeps_bytes;
      as_many = sound.as_many;
      same_handles = sound.same_handles;
      taken = sound.taken;
      run = sound.run;
      told = sound.told;
      numbers = sound.numbers;
      below = sound.below;
      answered = sound.answered;
      room = (let left = sound.room in omega arith);
    }

pub sound_made_ready : (rules : Rules) (opening : State) (handles : List (Option OpenHandle)) (count : ℕ) (stack : ManagerView) (log : LogView) (slots : SlotsView) (roomy log' : LogView) (room : ℕ) (ready : Option ℕ)
    → IsSound rules opening handles count stack log slots → roomy ≡ record log { room = room } → log.room ≤ room → log' ≡ record roomy { ready = ready } → IsSound rules opening handles count stack log' slots
sound_made_ready rules opening handles count stack log slots roomy log' room ready sound with_room more is =
    sound_with_room rules opening handles count stack roomy slots log' roomy.room ready (sound_with_room rules opening handles count stack log slots roomy room log.ready sound with_room more) is (omega arith)

-- A PIECE IS BOOKED

-- the adapter's alone changes
pub sound_booked : (rules : Rules) (opening : State) (handles : List (Option OpenHandle)) (count : ℕ) (stack : ManagerView) (log : LogView) (slots : SlotsView) (tag piece : ℕ) (what : Result Booked Completion) (stack' : ManagerView)
    → IsSound rules opening handles count stack log slots → BooksPiece stack tag piece what stack' → IsSound rules opening handles count stack' log slots
sound_booked rules opening handles count stack log slots tag piece what stack' sound books = subst (λ (v : ManagerView). IsSound rules opening handles count v log slots) (sym books.same) held
  where
    held : IsSound rules opening handles count (record stack { adapter = stack'.adapter }) log slots
    held = record {
      same_rules = sound.same_rules;
      on_grid = sound.on_grid;
      keeps_bytes = sound.keeps_bytes;
      as_many = sound.as_many;
      same_handles = sound.same_handles;
      taken = sound.taken;
      run = sound.run;
      told = sound.told;
      numbers = sound.numbers;
      below = sound.below;
      answered = sound.answered;
      room = sound.room;
    }

-- AN ANSWER IS TAKEN

was_there : (answers : List Waiting) (at : ℕ) (taken answer : Waiting) → slice_get answers at ≡ Some taken → Contains (remove answers at) answer → Contains answers answer
was_there answers at taken answer there is =
    let perm = IsPermutation-remove answers at taken (slice_get_within answers at taken there) (sym (get_or_from_slice_get answers at taken taken there)) in
    Contains-permutation (taken ∷ remove answers at) answers answer (IsPermutation-sym answers (taken ∷ remove answers at) perm) (Contains-append_right (taken ∷ []) (remove answers at) answer is)

module _ (rules : Rules) (opening : State) (handles : List (Option OpenHandle)) (count : ℕ) (stack : ManagerView) (log : LogView) (slots : SlotsView) (sound : IsSound rules opening handles count stack log slots) where
  without : (at : ℕ) (taken : Waiting) → slice_get stack.answers at ≡ Some taken → IsSound rules opening handles count (record stack { answers = remove stack.answers at }) log slots
  without at taken there = record {
    same_rules = sound.same_rules;
    on_grid = sound.on_grid;
    keeps_bytes = sound.keeps_bytes;
    as_many = sound.as_many;
    same_handles = sound.same_handles;
    taken = sound.taken;
    run = sound.run;
    told = sound.told;
    numbers = sound.numbers;
    below = sound.below;
    answered = λ answer is. sound.answered answer (was_there stack.answers at taken answer there is);
    room = sound.room;
  }

  pub sound_taken : (number : ℕ) (result : Option Waiting) (stack' : ManagerView) → TakesAnswerOf stack number result stack' → IsSound rules opening handles count stack' log slots
  sound_taken number None stack' takes = subst (λ (v : ManagerView). IsSound rules opening handles count v log slots) (sym takes.1) sound
  sound_taken number (Some taken) stack' takes = subst (λ (v : ManagerView). IsSound rules opening handles count v log slots) (sym takes.3) (without takes.0 taken takes.1)

  stands_taken : (number : ℕ) (taken : Waiting) (stack' : ManagerView) → TakesAnswerOf stack number (Some taken) stack' → Contains (labels_of log.entries) (as_answer taken)
  stands_taken number taken stack' takes =
      sound.answered taken (takes.0, slice_get_within stack.answers takes.0 taken takes.1, get_or_from_slice_get stack.answers takes.0 taken taken takes.1)

  pub stands_if : (number : ℕ) (result : Option Waiting) (stack' : ManagerView) → TakesAnswerOf stack number result stack' → IfSome result (λ answer. Contains (labels_of log.entries) (as_answer answer))
  stands_if number None stack' takes = tt
  stands_if number (Some taken) stack' takes = stands_taken number taken stack' takes
