-- What was so in a session stays so when more happens.
use Rattle.serving.proofs.Common.{◌≡◌, inl, inr, ℕ, zero, suc, Bool, List, [], ◌∷◌, ◌++◌, Option, Some, None, Result, Ok, Err, refl, sym, ap, subst, ◌∙◌, append_assoc, append-nil, All, All-weaker, Contains, Contains-append_left, slice_get, Label, Answer, Handle, Refusal, ManagerView, Event, Sizes, Command, WriteZeroes, ReplyError}
use Rattle.machine.specs.declared.Label.TheVariants.{Call}
use Rattle.nbd.specs.declared.requests.Command.TheVariants.{Read, Write, Flush}
use Rattle.nbd.specs.Beside.{Taken, Told}
use Rattle.serving.specs.Beside.{AreServedIn, ClearsIn, FoundFull, Gone, HasAnswer, HasFailed, HasRefusal, HasResult, IsAskedIn, IsBefore, IsCalled, IsDoneIn, IsToldIn, Moment, Moved, ToldInTurn, joined, moves_in, nothing_gone}
use Rattle.serving.specs.declared.dues.Due.{Due}
use Rattle.serving.specs.inside.Dues.{AsksNow, IsSlotIn}
use Rattle.serving.proofs.Dealing.{moves_append}

pub grows : (a b : Gone) → IsBefore a (joined a b)
grows a b = record { more = b; labels = refl; moments = refl }

pub grows_none : (a : Gone) → IsBefore a a
grows_none a = record { more = nothing_gone; labels = sym (append-nil a.labels); moments = sym (append-nil a.moments) }

pub grows_more : (a b c : Gone) → IsBefore a b → IsBefore b c → IsBefore a c
grows_more a b c g h = record {
  more = joined g.more h.more;
  labels = h.labels ∙ (ap (λ (ls : List Label). ls ++ h.more.labels) g.labels ∙ append_assoc a.labels g.more.labels h.more.labels);
  moments = h.moments ∙ (ap (λ (ms : List Moment). ms ++ h.more.moments) g.moments ∙ append_assoc a.moments g.more.moments h.more.moments);
}

module _ (old new : Gone) (g : IsBefore old new) where
  pub label_stays : (l : Label) → Contains old.labels l → Contains new.labels l
  label_stays l c = subst (λ (ls : List Label). Contains ls l) (sym g.labels) (Contains-append_left old.labels g.more.labels l c)

  pub move_stays : (m : Moved) → Contains (moves_in old.moments) m → Contains (moves_in new.moments) m
  move_stays m c =
      subst (λ (ms : List Moment). Contains (moves_in ms) m) (sym g.moments)
      (subst (λ (ms : List Moved). Contains ms m) (sym (moves_append old.moments g.more.moments)) (Contains-append_left (moves_in old.moments) (moves_in g.more.moments) m c))

  pub full_stays : FoundFull old → FoundFull new
  full_stays f = record { move = f.move; there = move_stays f.move f.there; full = f.full }

  pub failed_stays : HasFailed old → HasFailed new
  failed_stays f = record { move = f.move; there = move_stays f.move f.there; completion = f.completion; failed = f.failed }

  module _ (stack : ManagerView) where
    pub called_stays : (event : Event) (number : ℕ) → IsCalled stack old event number → IsCalled stack new event number
    called_stays event number c = record { request = c.request; asks = c.asks; called = label_stays (Call number c.request) c.called }

    answer_stays : (event : Event) (answer : Answer) → HasAnswer IsToldIn stack old event answer → HasAnswer IsToldIn stack new event answer
    answer_stays event answer h = record {
      request = h.request;
      asks = h.asks;
      called = elim h.called [ inl c ↦ inl (label_stays _ c) | inr c ↦ inr (label_stays _ c) ];
      answered = label_stays _ h.answered;
    }

    pub refusal_stays : (event : Event) (reason : Refusal) → HasRefusal stack old event reason → HasRefusal stack new event reason
    refusal_stays event reason h = record {
      first = h.first;
      others = h.others ++ g.more.labels;
      among = g.labels ∙ (ap (λ (ls : List Label). ls ++ g.more.labels) h.among ∙ append_assoc h.first h.others g.more.labels);
      moves = h.moves;
      mid = h.mid;
      went = h.went;
      after = h.after;
      bytes = h.bytes;
      refused = h.refused;
    }

    result_stays : (event : Event) (result : Result Answer Refusal) → HasResult IsToldIn stack old event result → HasResult IsToldIn stack new event result
    result_stays event (Ok answer) h = answer_stays event answer h
    result_stays event (Err reason) h = refusal_stays event reason h

    asked_stays : (event : Event) (done : Result (List ℕ) ReplyError) → IsAskedIn IsToldIn stack old event done → IsAskedIn IsToldIn stack new event done
    asked_stays event done a = record {
      result = a.result;
      has = result_stays event a.result a.has;
      full = a.full;
      full_by = λ h. full_stays (a.full_by h);
      comes_to = a.comes_to;
    }

    done_stays : (event : Event) → IsDoneIn IsToldIn stack old event None → IsDoneIn IsToldIn stack new event None
    done_stays event d = (d.0, asked_stays event (Ok d.0) d.1)

    module _ (handle : Handle) where
      pub clears_stays : (offset : ℕ) (counts : List ℕ) (through : Bool) → ClearsIn stack handle old offset counts through → ClearsIn stack handle new offset counts through
      clears_stays offset [] through c = tt
      clears_stays offset (count ∷ counts) through c = (clears_stays offset counts through c.0, done_stays _ c.1)

      pub asks_stays : (command : Command) (payload : List ℕ) (done : ℕ) (event : Event) → AsksNow stack handle old command payload done event → AsksNow stack handle new command payload done event
      asks_stays (Read offset count) payload done event a = a
      asks_stays (Write offset count through) payload done event a = a
      asks_stays Flush payload done event a = a
      asks_stays (WriteZeroes offset count through) payload done event a = (a.0, a.1, clears_stays offset a.0 through a.2, a.3, a.4, a.5)

      module _ (sizes : Sizes) (taken : List Taken) where
        slot_stays : (slot : Option Due) → IsSlotIn stack handle sizes old taken slot → IsSlotIn stack handle sizes new taken slot
        slot_stays None h = tt
        slot_stays (Some due) h = record {
          one = h.one;
          at_place = h.at_place;
          named = h.named;
          command = h.command;
          event = h.event;
          asks = asks_stays due.command h.one.payload due.done h.event h.asks;
          called = called_stays h.event due.number h.called;
        }

        pub slots_stay : (slots : List (Option Due)) → All (IsSlotIn stack handle sizes old taken) slots → All (IsSlotIn stack handle sizes new taken) slots
        slots_stay slots all = All-weaker (IsSlotIn stack handle sizes old taken) (IsSlotIn stack handle sizes new taken) slot_stays slots all

        pub told_stays : (was : Gone) (ts : List Told) → ToldInTurn stack handle sizes taken was ts old → ToldInTurn stack handle sizes taken was ts new
        told_stays was [] h = grows_more was old new h g
        told_stays was (t ∷ ts) h = (h.0, h.1, h.2, told_stays h.0 ts h.3)

-- ONE MORE ANSWER IS TOLD

pub told_one : (stack : ManagerView) (handle : Handle) (sizes : Sizes) (taken : List Taken) (was gone : Gone) (ts : List Told) (t : Told) → ToldInTurn stack handle sizes taken was ts gone → AreServedIn stack handle sizes gone taken t
    → ToldInTurn stack handle sizes taken was (ts ++ (t ∷ [])) gone
told_one stack handle sizes taken was gone [] t h served = (gone, h, served, grows_none gone)
told_one stack handle sizes taken was gone (x ∷ ts) t h served = (h.0, h.1, h.2, told_one stack handle sizes taken h.0 gone ts t h.3 served)

-- WITH ONE MORE REQUEST READ

stays : {X : Type 0} (xs ys : List X) (k : ℕ) (x : X) → slice_get xs k ≡ Some x → slice_get (xs ++ ys) k ≡ Some x
stays [] ys k x at = absurd (cc (at))
stays (z ∷ xs) ys zero x at = at
stays (z ∷ xs) ys (suc k) x at = stays xs ys k x at

module _ (stack : ManagerView) (handle : Handle) (sizes : Sizes) (taken more : List Taken) where
  served_reads : (gone : Gone) (t : Told) → AreServedIn stack handle sizes gone taken t → AreServedIn stack handle sizes gone (taken ++ more) t
  served_reads gone t a = record { one = a.one; at_place = stays taken more t.place a.one a.at_place; served = a.served }

  pub told_reads : (was gone : Gone) (ts : List Told) → ToldInTurn stack handle sizes taken was ts gone → ToldInTurn stack handle sizes (taken ++ more) was ts gone
  told_reads was gone [] h = h
  told_reads was gone (t ∷ ts) h = (h.0, h.1, served_reads h.0 t h.2, told_reads h.0 gone ts h.3)

  slot_reads : (gone : Gone) (slot : Option Due) → IsSlotIn stack handle sizes gone taken slot → IsSlotIn stack handle sizes gone (taken ++ more) slot
  slot_reads gone None h = tt
  slot_reads gone (Some due) h = record { one = h.one; at_place = stays taken more due.place h.one h.at_place; named = h.named; command = h.command; event = h.event; asks = h.asks; called = h.called }

  pub slots_read : (gone : Gone) (slots : List (Option Due)) → All (IsSlotIn stack handle sizes gone taken) slots → All (IsSlotIn stack handle sizes gone (taken ++ more)) slots
  slots_read gone slots all = All-weaker (IsSlotIn stack handle sizes gone taken) (IsSlotIn stack handle sizes gone (taken ++ more)) (slot_reads gone) slots all
