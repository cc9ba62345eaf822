-- What the journal has reserved behind a step.
use Rattle.journaled.proofs.Common.{◌≡◌, ◌≤◌, inl, inr, ℕ, ◌+◌, true, false, List, [], ◌∷◌, ◌++◌, Option, None, Result, Ok, Err, refl, sym, ap, subst, ◌∙◌, arith, All, MatchBool, MatchOption, OnErr, OnOk, is_err, All-nil, All-cons, All-append, Extent, Srb, Completion, CallsCount, Id, Reply, ManagerView, Event, OpensNone, OpensOrLacksMemory, StepsCallOnce, StepsOpenAsTold, IsRight, opened_by, Reservation, Admits, GainsRoom, JournalView, Releases, without, IsBelow, over, BooksArmed, CameTo, kind_asked, HoldsRoom, MakesRoom, WouldOpen, is_opened}
use Rattle.io_manager.specs.declared.Reply.TheVariants.{Handle as HandleReply, Ok as Done, Request as Requested, Answered, Refused, Ignored}
use Rattle.compose.specs.declared.Event.TheVariants.{Open, Close, Read, Write, Flush, CancelIoEx, Mark, QueryRemove, CancelRemove, Remove, SurpriseRemove, Act, Finish, Reset}
use Rattle.journaled.proofs.Numbering.{IsOpened, below_more, last_goes, none_goes, step_opens, step_rises}

-- WHAT AN EVENT WOULD OPEN

-- nothing, where it asks for no request
pub none_opened : (v : ManagerView) (event : Event) → kind_asked event ≡ None → opened_by v event ≡ None
none_opened v (Read handle offset buffer) none = absurd (cc (none))
none_opened v (Write handle offset bytes through) none = absurd (cc (none))
none_opened v (Flush handle) none = absurd (cc (none))
none_opened v _ none = refl

-- ROOM IS MADE

pub room_made : (v : ManagerView) (event : Event) (number : ℕ) (reservation : Reservation) (old new : JournalView) → reservation.request ≡ number → WouldOpen v event reservation.kind reservation.extent → reservation.max_transfer ≡ v.rules.max_transfer → Admits old reservation new
    → MakesRoom v event number old new
room_made v event number reservation old new is opens longest admits = inr (reservation, record { is_number = is; opens = opens; longest = longest }, admits)

pub on_ok : {T E : Type 0} {P Q : Type 0} (r : Result T E) → (P → Q) → OnOk r P → OnOk r Q
on_ok (Ok x) f h = f h
on_ok (Err fault) f h = tt

pub on_err : {T E : Type 0} {P Q : Type 0} (r : Result T E) → (P → Q) → OnErr r P → OnErr r Q
on_err (Err fault) f h = f h
on_err (Ok x) f h = tt

pub none_gained : (old new : JournalView) → GainsRoom old new → new.reservations ≡ old.reservations
none_gained old new h = ap (λ (j : JournalView). j.reservations) h.after

-- what holds where a result is one, and where it is an error
pub where_ok : {T E : Type 0} (r : Result T E) (P : Type 0) → is_err r ≡ false → OnOk r P → P
where_ok (Ok x) P is h = h
where_ok (Err fault) P is h = absurd (cc (is))

pub where_err : {T E : Type 0} (r : Result T E) (P : Type 0) → is_err r ≡ true → OnErr r P → P
where_err (Err fault) P is h = h
where_err (Ok x) P is h = absurd (cc (is))

-- A CALL

module _ (told : StepsOpenAsTold) (count : CallsCount) (once : StepsCallOnce) (old new : ManagerView) (before mid after : JournalView) (event : Event) (number : ℕ) (is : number ≡ old.state.next_request)
    (below : All (IsBelow number) before.reservations) (makes : MakesRoom old event number before mid) where
  reserved : (reservation : Reservation) → Admits before reservation mid → mid.reservations ≡ before.reservations ++ reservation ∷ []
  reserved reservation admits = ap (λ (j : JournalView). j.reservations) admits.after

  -- what was made and is not needed goes
  gone : Releases mid number after → after.reservations ≡ before.reservations
  gone releases = by makes
    where
      by : MakesRoom old event number before mid → after.reservations ≡ before.reservations
      by (inl none) =
          none_goes number before.reservations after.reservations below
          (subst (λ (rs : List Reservation). without number rs after.reservations) (ap (λ (j : JournalView). j.reservations) none.1) releases.gone)
      by (inr made) =
          last_goes number before.reservations after.reservations made.0 below made.1.is_number
          (subst (λ (rs : List Reservation). without number rs after.reservations) (reserved made.0 made.2) releases.gone)

  kept : (id : Id) → IsRight old event (Requested id) new → after ≡ mid → HoldsRoom (over old before) event (Requested id) (over new after)
  kept id right same = by makes
    where
      next : id.number ≡ old.state.next_request
      next = (step_opens count once old event id new right).next

      by : MakesRoom old event number before mid → HoldsRoom (over old before) event (Requested id) (over new after)
      by (inl none) =
          absurd (subst (λ (found : Option (ℕ × Extent)). MatchOption found (OpensNone (Requested id)) (λ (t : ℕ × Extent). OpensOrLacksMemory old t (Requested id) new)) none.0 (told old event (Requested id) new right))
      by (inr made) = (
        made.0,
        record { is_number = made.1.is_number ∙ is ∙ sym next; opens = made.1.opens; longest = made.1.longest },
        subst (λ (j : JournalView). Admits before made.0 j) (sym same) made.2,
      )

  pub room_held : (reply : Reply) → IsRight old event reply new → MatchBool (is_opened reply) (after ≡ mid) (Releases mid number after) → HoldsRoom (over old before) event reply (over new after)
  room_held (Requested id) right gives = kept id right gives
  room_held _ right gives = gone gives

-- all that is reserved is for calls before the next
module _ (count : CallsCount) (once : StepsCallOnce) (old new : ManagerView) (before after : JournalView) (event : Event) (below : All (IsBelow old.state.next_request) before.reservations) where
  same_below : (reply : Reply) → IsRight old event reply new → after.reservations ≡ before.reservations → All (IsBelow new.state.next_request) after.reservations
  same_below reply right same =
      subst (λ (rs : List Reservation). All (IsBelow new.state.next_request) rs) (sym same)
      (below_more old.state.next_request new.state.next_request before.reservations (step_rises count old event reply new right) below)

  one_more_below : (id : Id) → IsRight old event (Requested id) new → HoldsRoom (over old before) event (Requested id) (over new after) → All (IsBelow new.state.next_request) after.reservations
  one_more_below id right holds =
      let opened : IsOpened old new id.number = step_opens count once old event id new right in
      let is : holds.0.request ≡ id.number = holds.1.is_number in
      let next : id.number ≡ old.state.next_request = opened.next in
      let more : new.state.next_request ≡ old.state.next_request + 1 = opened.counted in
      subst (λ (rs : List Reservation). All (IsBelow new.state.next_request) rs) (sym (ap (λ (j : JournalView). j.reservations) holds.2.after))
      (All-append (IsBelow new.state.next_request) before.reservations (holds.0 ∷ [])
      (below_more old.state.next_request new.state.next_request before.reservations (step_rises count old event (Requested id) new right) below)
      (All-cons (IsBelow new.state.next_request) holds.0 [] (omega (arith, is, next, more)) (All-nil (IsBelow new.state.next_request))))

  pub room_below : (reply : Reply) → IsRight old event reply new → HoldsRoom (over old before) event reply (over new after) → All (IsBelow new.state.next_request) after.reservations
  room_below (Requested id) right holds = one_more_below id right holds
  room_below other right holds = same_below other right holds

-- AN ACT

came_same : (old : JournalView) (tag piece : ℕ) (srb : Srb) (done : Result ℕ Completion) (new : JournalView) → CameTo old tag piece srb done new → new.reservations ≡ old.reservations
came_same old tag piece srb done new (inl there) = ap (λ (j : JournalView). j.reservations) there.acts.after ∙ ap (λ (j : JournalView). j.reservations) there.arms.after
came_same old tag piece srb done new (inr fails) = ap (λ (j : JournalView). j.reservations) fails.same

booked_reservations : (old : ManagerView) (before : JournalView) (tag : ℕ) (booked : ManagerView) (after : JournalView) → BooksArmed old before tag booked after → after.reservations ≡ before.reservations
booked_reservations old before tag booked after (inl has) = came_same before tag has.piece has.srb has.done after has.came_to
booked_reservations old before tag booked after (inr none) = ap (λ (j : JournalView). j.reservations) none.same_journal

pub booked_next : (old : ManagerView) (before : JournalView) (tag : ℕ) (booked : ManagerView) (after : JournalView) → BooksArmed old before tag booked after → booked.state.next_request ≡ old.state.next_request
booked_next old before tag booked after (inl has) = ap (λ (v : ManagerView). v.state.next_request) has.books.same
booked_next old before tag booked after (inr none) = ap (λ (v : ManagerView). v.state.next_request) none.same_stack

module _ (old booked new : ManagerView) (before after : JournalView) (tag : ℕ) (books : BooksArmed old before tag booked after) where
  pub act_room : (reply : Reply) → IsRight booked (Act tag) reply new → HoldsRoom (over old before) (Act tag) reply (over new after)
  act_room Done right = booked_reservations old before tag booked after books
  act_room Ignored right = booked_reservations old before tag booked after books
  act_room _ right = absurd right.replies

  pub act_below : CallsCount → (reply : Reply) → IsRight booked (Act tag) reply new → All (IsBelow old.state.next_request) before.reservations → All (IsBelow new.state.next_request) after.reservations
  act_below count reply right below =
      let rises : booked.state.next_request ≤ new.state.next_request = step_rises count booked (Act tag) reply new right in
      let same : booked.state.next_request ≡ old.state.next_request = booked_next old before tag booked after books in
      subst (λ (rs : List Reservation). All (IsBelow new.state.next_request) rs) (sym (booked_reservations old before tag booked after books))
      (below_more old.state.next_request new.state.next_request before.reservations (omega (arith, rises, same)) below)
