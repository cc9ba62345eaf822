-- What was told goes on with the labels of a right step.
use Rattle.journaled.proofs.Common.{◌≡◌, inl, inr, ℕ, Bool, List, ◌++◌, length, IsFalse, refl, sym, ap, subst, ◌∙◌, Entry, IsInOrder, HasNoneFresh, Label, Rules, State, opening, Run, Run-append, AreWhole, IsReached, Reply, ManagerView, FitsTogether, IsRightBy, Told, Event, IsRight, ArmedMayBeBooked, BookedActsAddEntries, IdleActsKeepEntries, StepsKeepEntries, StepsStayApart, IsNoAct, IsJournaled, IsLed, led, JournalView, entries_in, entries_of, JournaledView, StandsIn, IsAsLarge, KeepsEntries, over, BooksArmed, HasBooked, HasNoneToBook, BooksFor, StepsBooked, IsServed, IsTold, TellsOn}
use Rattle.compose.specs.declared.Event.TheVariants.{Open, Close, Read, Write, Flush, CancelIoEx, Mark, QueryRemove, CancelRemove, Remove, SurpriseRemove, Act, Finish, Reset}
use Rattle.journaled.proofs.Booked.{IsOwn, own, came_large, kept_large, booked_apart}

-- what a caller has of it
pub record Follows (old new : JournaledView) : Type 0 where
  pub rules : new.stack.rules ≡ old.stack.rules
  pub stands : StandsIn new.stack new.journal
  pub told : TellsOn old new

-- THE RUN

record GoesOn (arrays : List (List (List ℕ))) (trace : List Label) (new : ManagerView) : Type 0 where
  whole : AreWhole new.rules arrays
  run : Run new.rules (opening arrays) (trace ++ new.labels) new.state

goes_on : (old booked new : ManagerView) (reset : Bool) (t : Told) → booked.rules ≡ old.rules → booked.state ≡ old.state → IsRightBy reset t booked new
    → (arrays : List (List (List ℕ))) (trace : List Label) → AreWhole old.rules arrays → Run old.rules (opening arrays) trace old.state → GoesOn arrays trace new
goes_on old booked new reset t rules state by arrays trace whole run =
    let same : new.rules ≡ old.rules = by.same_rules ∙ rules in
    let step : Run old.rules booked.state new.labels new.state = subst (λ (r : Rules). Run r booked.state new.labels new.state) rules by.run in
    let step' : Run old.rules old.state new.labels new.state = subst (λ (s : State). Run old.rules s new.labels new.state) state step in
    let all : Run old.rules (opening arrays) (trace ++ new.labels) new.state = Run-append old.rules (opening arrays) trace old.state new.labels new.state run step' in
    record {
      whole = subst (λ (r : Rules). AreWhole r arrays) (sym same) whole;
      run = subst (λ (r : Rules). Run r (opening arrays) (trace ++ new.labels) new.state) (sym same) all;
    }

stands_by : (old new : ManagerView) (before after : JournalView) → new.rules ≡ old.rules → IsFalse new.adapter.faithful → IsAsLarge before after → StandsIn old before → StandsIn new after
stands_by old new before after same apart large stands = record {
  apart = apart;
  sector_size = large.sector_size ∙ stands.sector_size ∙ ap (λ (r : Rules). r.sector_size) (sym same);
  sectors = large.sectors ∙ stands.sectors ∙ ap (λ (r : Rules). r.disk_sectors) (sym same);
}

-- ANY EVENT BUT AN ACT

module _ (keep : StepsKeepEntries) (apart : StepsStayApart) (old new : ManagerView) (before after : JournalView) (event : Event) (reply : Reply) (other : IsNoAct event)
    (keeps : KeepsEntries before after) (stands : StandsIn old before) where
  pub others_follow : IsRight old event reply new → Follows (over old before) (over new after)
  others_follow right =
      let by = led old event reply new right in
      record {
        rules = by.by.same_rules;
        stands = stands_by old new before after by.by.same_rules (apart old event reply new right stands.apart) (kept_large before after keeps) stands;
        told = λ arrays trace told.
            let on : GoesOn arrays trace new = goes_on old old new by.reset by.told refl refl by.by arrays trace told.whole told.run in
            record {
              whole = on.whole;
              run = on.run;
              journaled = subst (λ (es : List Entry). IsJournaled (trace ++ new.labels) es new) (sym (ap entries_in keeps.entries)) (keep trace (entries_of before) old event reply new other right told.journaled);
            };
      }

module _ (old new : ManagerView) (before after : JournalView) (reply : Reply) (keeps : KeepsEntries before after) where
  nothing_booked : (event : Event) → IsNoAct event → BooksFor (over old before) event old after
  nothing_booked (Act tag) other = absurd other
  nothing_booked _ other = (refl, keeps)

  pub others_served : (event : Event) → IsNoAct event → IsRight old event reply new → IsServed (over old before) event reply (over new after)
  others_served event other right = inl (record { booked = old; books = nothing_booked event other; right = right })

pub keeps_on : (old mid new : JournalView) → KeepsEntries old mid → KeepsEntries mid new → KeepsEntries old new
keeps_on old mid new one other = record {
  entries = other.entries ∙ one.entries;
  same_sectors = other.same_sectors ∙ one.same_sectors;
  same_size = other.same_size ∙ one.same_size;
}

-- AN ACT

module _ (idle : IdleActsKeepEntries) (adds : BookedActsAddEntries) (may : ArmedMayBeBooked) (apart : StepsStayApart)
    (old booked new : ManagerView) (before after : JournalView) (tag : ℕ) (reply : Reply) (stands : StandsIn old before) (fits_old : FitsTogether old)
    (order : IsInOrder booked.adapter) (fits : FitsTogether booked) (reached : IsReached booked.rules booked.state) (right : IsRight booked (Act tag) reply new) where
  size_is : before.medium.sector_size ≡ old.adapter.sector_size
  size_is = stands.sector_size ∙ fits_old.read.same_size

  count_is : length before.medium.sectors ≡ length old.adapter.sectors
  count_is = stands.sectors ∙ fits_old.read.same_sectors

  by : IsLed booked new
  by = led booked (Act tag) reply new right

  module _ (has : HasBooked old before tag booked after) where
    same_rules : booked.rules ≡ old.rules
    same_rules = ap (λ (v : ManagerView). v.rules) has.books.same

    same_state : booked.state ≡ old.state
    same_state = ap (λ (v : ManagerView). v.state) has.books.same

    own_at : (arrays : List (List (List ℕ))) (trace : List Label) → IsTold arrays trace (over old before) → IsOwn old.adapter before after tag has.piece has.what
    own_at arrays trace told =
        own old.adapter before after tag has.piece has.srb stands.apart has.armed size_is count_is
        (λ what suits. may arrays trace (entries_of before) old tag has.piece has.srb what told.run told.journaled stands.apart has.armed suits) has.done has.what has.came_to has.is_that

    booked_told : TellsOn (over old before) (over new after)
    booked_told arrays trace told =
        let it : IsOwn old.adapter before after tag has.piece has.what = own_at arrays trace told in
        let on : GoesOn arrays trace new = goes_on old booked new by.reset by.told same_rules same_state by.by arrays trace told.whole told.run in
        record {
          whole = on.whole;
          run = on.run;
          journaled =
              subst (λ (es : List Entry). IsJournaled (trace ++ new.labels) es new) (sym it.entries)
              (adds trace (entries_of before) old booked new tag has.piece has.what reply it.bookable it.of_piece has.books order fits.read.pieces reached right told.journaled);
        }

  module _ (none : HasNoneToBook old before tag booked after) where
    still_none : HasNoneFresh booked.adapter tag
    still_none = subst (λ (v : ManagerView). HasNoneFresh v.adapter tag) (sym none.same_stack) none.none

    idle_told : TellsOn (over old before) (over new after)
    idle_told arrays trace told =
        let on : GoesOn arrays trace new =
        goes_on old booked new by.reset by.told (ap (λ (v : ManagerView). v.rules) none.same_stack) (ap (λ (v : ManagerView). v.state) none.same_stack) by.by arrays trace told.whole told.run in
        let was : IsJournaled trace (entries_of before) booked = subst (λ (v : ManagerView). IsJournaled trace (entries_of before) v) (sym none.same_stack) told.journaled in
        record {
          whole = on.whole;
          run = on.run;
          journaled =
              subst (λ (es : List Entry). IsJournaled (trace ++ new.labels) es new) (sym (ap entries_of none.same_journal))
              (idle trace (entries_of before) booked tag reply new fits.read.pieces still_none right was);
        }

  pub act_told : BooksArmed old before tag booked after → TellsOn (over old before) (over new after)
  act_told (inl has) = booked_told has
  act_told (inr none) = idle_told none

  pub act_right : BooksArmed old before tag booked after → StepsBooked (over old before) (Act tag) reply (over new after)
  act_right books = record { booked = booked; books = books; right = right }

  pub act_rules : BooksArmed old before tag booked after → new.rules ≡ old.rules
  act_rules (inl has) = by.by.same_rules ∙ ap (λ (v : ManagerView). v.rules) has.books.same
  act_rules (inr none) = by.by.same_rules ∙ ap (λ (v : ManagerView). v.rules) none.same_stack

  act_apart : BooksArmed old before tag booked after → IsFalse booked.adapter.faithful
  act_apart (inl has) = booked_apart old.adapter booked.adapter tag has.piece has.what has.books.adapter stands.apart
  act_apart (inr none) = subst (λ (v : ManagerView). IsFalse v.adapter.faithful) (sym none.same_stack) stands.apart

  act_large : BooksArmed old before tag booked after → IsAsLarge before after
  act_large (inl has) = came_large before after tag has.piece has.srb has.done has.came_to
  act_large (inr none) =
      record {
        sector_size = ap (λ (j : JournalView). j.medium.sector_size) none.same_journal;
        sectors = ap (λ (j : JournalView). length j.medium.sectors) none.same_journal;
      }

  pub act_stands : BooksArmed old before tag booked after → StandsIn new after
  act_stands books = stands_by old new before after (act_rules books) (apart booked (Act tag) reply new right (act_apart books)) (act_large books) stands
