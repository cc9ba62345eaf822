-- The act of an entry that was booked goes on with what was told.
use Rattle.book.proofs.Common.{◌≡◌, ℕ, Bool, true, false, List, [], ◌∷◌, ◌++◌, length, Option, Some, None, Ok, Result, IsFalse, refl, sym, ap, subst, ◌∙◌, if◌then◌else◌, map_push, Entry, Completion, AdapterView, IsInOrder, IsOfSrb, IsBookable, Books, with_booking, Label, Rules, State, opening, Run, AreDistinct-Run, AreDistinct-opening, IsReached, OpenHandle, Reply, ManagerView, FitsTogether, IsRight, ArmedMayBeBooked, BookedActsAddEntries, StepsStayApart, IsJournaled, ActsAsBooked, booked_step, Entered, JournalView, entries_in, TracedView, IsCarried, IsServed, IsTraced, MayBook, TakesEntry, HoldsBooked, BooksOne, IsKept, book_of, Claimed, AreOnTags, HaveNotedAll, ArmedStays, TakesNext}
use Rattle.std.specs.Prelude.{slice_get}
use Rattle.io_manager.specs.declared.Reply.TheVariants.{Ok as OkReply}
use Rattle.compose.specs.declared.Event.TheVariants.{Act}
use Rattle.traced.specs.Entries.{labels_of}
use Rattle.book.proofs.Going.{labels_carried, act_carried, tags_booked, tags_kept}
use Rattle.book.proofs.Taking.{some_entered}

pub apart_still : (old new : AdapterView) (tag piece : ℕ) (what : Result Entry Completion) → Books old tag piece what new → IsFalse old.faithful → IsFalse new.faithful
apart_still old new tag piece what books apart = subst (λ (v : AdapterView). IsFalse v.faithful) (sym books.after) (by_choice books.booked)
  where
    by_choice : (booked : Bool) → IsFalse (if booked then with_booking tag what old else old).faithful
    by_choice true = apart
    by_choice false = apart

module _ (armed : ArmedMayBeBooked) (adds : BookedActsAddEntries) (apart : StepsStayApart) (stays : ArmedStays) (rules : Rules) (start : State) (partitions : List ℕ) (handles : List (Option OpenHandle))
    (old held new : TracedView) (taken taken' : List Entered) (tags tags' : Claimed) (journal : JournalView) (entered : Entered) (reply : Reply)
    (kept : IsKept rules start old taken tags) (is : IsTraced rules start partitions handles old) (fits : FitsTogether old.stack) (ordered : IsInOrder old.stack.adapter) (may : MayBook rules old.stack.adapter journal (length taken))
    (there : slice_get journal.entered (length taken) ≡ Some entered) (holds : HoldsBooked old entered.entry.tag entered.entry.piece (Ok entered.entry) held)
    (order : IsInOrder held.stack.adapter) (fits' : FitsTogether held.stack) (reached : IsReached held.stack.rules held.stack.state)
    (served : IsServed 0 held (Act entered.entry.tag) reply new)
    (noted : (labels : List Label) → labels_of new.entries ≡ labels_of held.entries ++ labels → HaveNotedAll labels tags tags') (takes : TakesNext journal.entered taken taken') where
  abbrev trace : List Label
  trace = labels_of old.entries

  abbrev carried : IsCarried 0 held (Act entered.entry.tag) reply new
  carried = act_carried 0 held entered.entry.tag reply new served

  abbrev stepped : ManagerView
  stepped = carried.stepped

  same : may.entered ≡ entered
  same = some_entered (sym may.there ∙ there)

  takes_it : TakesEntry rules old.stack.adapter entered.entry
  takes_it = subst (λ (e : Entered). TakesEntry rules old.stack.adapter e.entry) same may.takes

  suits : IsOfSrb old.stack.adapter.sector_size (length old.stack.adapter.sectors) takes_it.srb entered.entry
  suits =
      subst (λ (n : ℕ). IsOfSrb n (length old.stack.adapter.sectors) takes_it.srb entered.entry) (ap (λ (r : Rules). r.sector_size) (sym is.same_rules) ∙ fits.read.same_size)
      (subst (λ (n : ℕ). IsOfSrb rules.sector_size n takes_it.srb entered.entry) (ap (λ (r : Rules). r.disk_sectors) (sym is.same_rules) ∙ fits.read.same_sectors) takes_it.of_srb)

  run : Run old.stack.rules (opening kept.arrays) trace old.stack.state
  run = subst (λ (r : Rules). Run r (opening kept.arrays) trace old.stack.state) (sym is.same_rules) (subst (λ (s : State). Run rules s trace old.stack.state) kept.starts is.run)

  bookable : IsBookable old.stack.adapter entered.entry.tag entered.entry.piece (Ok entered.entry)
  bookable = armed kept.arrays trace (entries_in taken) old.stack entered.entry.tag entered.entry.piece takes_it.srb (Ok entered.entry) run kept.journaled kept.apart takes_it.is_armed suits

  as_booked : ActsAsBooked trace entered.entry.piece entered.entry reply stepped
  as_booked =
      booked_step trace old.stack held.stack stepped entered.entry.tag entered.entry.piece entered.entry holds.books bookable order fits'.read.pieces
      (AreDistinct-Run _ _ _ _ (AreDistinct-opening reached.arrays) reached.run) kept.journaled.started refl refl reply carried.right

  same_trace : labels_of held.entries ≡ trace
  same_trace = ap (λ (v : TracedView). labels_of v.entries) holds.same

  longer : labels_of new.entries ≡ trace ++ stepped.labels
  longer = labels_carried 0 held (Act entered.entry.tag) reply new carried ∙ ap (λ (ls : List Label). ls ++ stepped.labels) same_trace

  more : entries_in taken' ≡ entries_in taken ++ entered.entry ∷ []
  more =
      let next : takes.next ≡ entered = some_entered (sym takes.there ∙ there) in
      ap entries_in takes.after ∙ map_push (λ (e : Entered). e.entry) taken takes.next ∙ ap (λ (e : Entered). entries_in taken ++ e.entry ∷ []) next

  journaled : IsJournaled (trace ++ stepped.labels) (entries_in taken ++ entered.entry ∷ []) stepped
  journaled =
      adds trace (entries_in taken) old.stack held.stack stepped entered.entry.tag entered.entry.piece (Ok entered.entry) reply bookable (refl, refl) holds.books order fits'.read.pieces reached carried.right kept.journaled

  journaled_taken : IsJournaled (labels_of new.entries) (entries_in taken') (record stepped { labels = [] })
  journaled_taken = subst (λ (es : List Entry). IsJournaled (labels_of new.entries) es (record stepped { labels = [] })) (sym more)
      (subst (λ (ls : List Label). IsJournaled ls (entries_in taken ++ entered.entry ∷ []) (record stepped { labels = [] })) (sym longer)
      (record { of_acts = journaled.of_acts; started = journaled.started }))

  on_tags : AreOnTags stepped.adapter tags'
  on_tags =
      tags_kept stays held.stack (Act entered.entry.tag) reply stepped tags tags' carried.right (noted stepped.labels (labels_carried 0 held (Act entered.entry.tag) reply new carried))
      (tags_booked old.stack.adapter entered.entry.tag entered.entry.piece (Ok entered.entry) held.stack.adapter tags ordered holds.books.adapter kept.on_tags)

  still_apart : IsFalse stepped.adapter.faithful
  still_apart =
      apart held.stack (Act entered.entry.tag) reply stepped carried.right (apart_still old.stack.adapter held.stack.adapter entered.entry.tag entered.entry.piece (Ok entered.entry) holds.books.adapter kept.apart)

  pub kept_on : IsKept rules start new taken' tags'
  kept_on = record {
    arrays = kept.arrays;
    starts = kept.starts;
    whole = kept.whole;
    journaled = subst (λ (v : ManagerView). IsJournaled (labels_of new.entries) (entries_in taken') v) (sym carried.stack) journaled_taken;
    apart = subst (λ (v : ManagerView). IsFalse v.adapter.faithful) (sym carried.stack) still_apart;
    on_tags = subst (λ (v : ManagerView). AreOnTags v.adapter tags') (sym carried.stack) on_tags;
  }

  -- its reply is OK
  answered_ok : (ok : Reply) → reply ≡ ok → IsCarried 0 held (Act entered.entry.tag) ok new
  answered_ok ok is = record {
    stepped = carried.stepped;
    right = subst (λ (r : Reply). IsRight held.stack (Act entered.entry.tag) r stepped) is carried.right;
    stack = carried.stack;
    entries = carried.entries;
    owners = carried.owners;
    looks = carried.looks;
  }

  pub books_one : (tag : ℕ) → tag ≡ entered.entry.tag → BooksOne tag (book_of old taken) (book_of new taken')
  unfolding answered_ok
  books_one tag tag_is = record {
    next = entered;
    is_tag = sym tag_is;
    acts = record {
      held = held;
      holds = holds;
      carried = answered_ok OkReply as_booked.replies;
      tells = as_booked.labels;
    };
    taken =
        let next : takes.next ≡ entered = some_entered (sym takes.there ∙ there) in
        takes.after ∙ ap (λ (e : Entered). taken ++ e ∷ []) next;
  }
