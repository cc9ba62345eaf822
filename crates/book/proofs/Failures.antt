-- The act of a piece of which no entry was made keeps what holds of a book.
use Rattle.book.proofs.Common.{◌≡◌, inl, inr, ℕ, List, [], ◌++◌, Option, Some, Err, IsFalse, refl, sym, ap, subst, Srb, Completion, Bad, class_of, IsInOrder, IsArmed, IsBookable, HasNoneFresh, Label, Rules, State, opening, Run, IsReached, OpenHandle, Reply, ManagerView, FitsTogether, ArmedMayBeBooked, BookedActsAddEntries, IdleActsKeepEntries, StepsStayApart, IsJournaled, Entered, entries_in, TracedView, IsCarried, IsServed, IsTraced, BooksFailure, HoldsBooked, HoldsFailure, IsKept, StaysKept, Claimed, AreOnTags, HaveNotedAll, ArmedStays}
use Rattle.compose.specs.declared.Event.TheVariants.{Act}
use Rattle.traced.specs.Entries.{labels_of}
use Rattle.book.proofs.Going.{labels_carried, act_carried, tags_booked, tags_kept}
use Rattle.book.proofs.Telling.{apart_still}

pub holds_failure : (old held : TracedView) (tag : ℕ) (completion : Completion) → BooksFailure old tag completion held → HoldsFailure (Some completion) old (Act tag) held
holds_failure old held tag completion (inl (piece, srb, is_armed, holds)) = inr (tag, piece, completion, refl, refl, holds)
holds_failure old held tag completion (inr (none, same)) = inl same

module _ (armed : ArmedMayBeBooked) (adds : BookedActsAddEntries) (idle : IdleActsKeepEntries) (apart : StepsStayApart) (stays : ArmedStays)
    (rules : Rules) (start : State) (partitions : List ℕ) (handles : List (Option OpenHandle)) (old held new : TracedView) (tags tags' : Claimed) (tag : ℕ) (completion : Completion) (reply : Reply)
    (is : IsTraced rules start partitions handles old) (ordered : IsInOrder old.stack.adapter) (bad : class_of completion ≡ Bad completion)
    (order : IsInOrder held.stack.adapter) (fits : FitsTogether held.stack) (reached : IsReached held.stack.rules held.stack.state)
    (served : IsServed 0 held (Act tag) reply new) (noted : (labels : List Label) → labels_of new.entries ≡ labels_of held.entries ++ labels → HaveNotedAll labels tags tags') where
  abbrev carried : IsCarried 0 held (Act tag) reply new
  carried = act_carried 0 held tag reply new served

  abbrev stepped : ManagerView
  stepped = carried.stepped

  longer : labels_of new.entries ≡ labels_of held.entries ++ stepped.labels
  longer = labels_carried 0 held (Act tag) reply new carried

  kept_new : (taken : List Entered) → IsKept rules start old taken tags → IsJournaled (labels_of held.entries ++ stepped.labels) (entries_in taken) stepped → IsFalse held.stack.adapter.faithful
      → AreOnTags held.stack.adapter tags → IsKept rules start new taken tags'
  kept_new taken kept journaled still on = record {
    arrays = kept.arrays;
    starts = kept.starts;
    whole = kept.whole;
    journaled = subst (λ (v : ManagerView). IsJournaled (labels_of new.entries) (entries_in taken) v) (sym carried.stack)
        (subst (λ (ls : List Label). IsJournaled ls (entries_in taken) (record stepped { labels = [] })) (sym longer) (record { of_acts = journaled.of_acts; started = journaled.started }));
    apart = subst (λ (v : ManagerView). IsFalse v.adapter.faithful) (sym carried.stack) (apart held.stack (Act tag) reply stepped carried.right still);
    on_tags = subst (λ (v : ManagerView). AreOnTags v.adapter tags') (sym carried.stack)
        (tags_kept stays held.stack (Act tag) reply stepped tags tags' carried.right (noted stepped.labels longer) on);
  }

  module _ (piece : ℕ) (srb : Srb) (is_armed : IsArmed old.stack.adapter tag piece srb) (holds : HoldsBooked old tag piece (Err completion) held) where
    booked_kept : (taken : List Entered) → IsKept rules start old taken tags → IsKept rules start new taken tags'
    booked_kept taken kept =
        let trace : List Label = labels_of old.entries in
        let run : Run old.stack.rules (opening kept.arrays) trace old.stack.state =
        subst (λ (r : Rules). Run r (opening kept.arrays) trace old.stack.state) (sym is.same_rules) (subst (λ (s : State). Run rules s trace old.stack.state) kept.starts is.run) in
        let bookable : IsBookable old.stack.adapter tag piece (Err completion) =
        armed kept.arrays trace (entries_in taken) old.stack tag piece srb (Err completion) run kept.journaled kept.apart is_armed bad in
        let next : IsJournaled (trace ++ stepped.labels) (entries_in taken) stepped =
        adds trace (entries_in taken) old.stack held.stack stepped tag piece (Err completion) reply bookable tt holds.books order fits.read.pieces reached carried.right kept.journaled in
        let same : labels_of held.entries ≡ trace = ap (λ (v : TracedView). labels_of v.entries) holds.same in
        kept_new taken kept (subst (λ (ls : List Label). IsJournaled (ls ++ stepped.labels) (entries_in taken) stepped) (sym same) next)
        (apart_still old.stack.adapter held.stack.adapter tag piece (Err completion) holds.books.adapter kept.apart)
        (tags_booked old.stack.adapter tag piece (Err completion) held.stack.adapter tags ordered holds.books.adapter kept.on_tags)

  module _ (none : HasNoneFresh old.stack.adapter tag) (same : held ≡ old) where
    idle_kept : (taken : List Entered) → IsKept rules start old taken tags → IsKept rules start new taken tags'
    idle_kept taken kept =
        let was : IsJournaled (labels_of held.entries) (entries_in taken) held.stack = subst (λ (v : TracedView). IsJournaled (labels_of v.entries) (entries_in taken) v.stack) (sym same) kept.journaled in
        let still_none : HasNoneFresh held.stack.adapter tag = subst (λ (v : TracedView). HasNoneFresh v.stack.adapter tag) (sym same) none in
        kept_new taken kept (idle (labels_of held.entries) (entries_in taken) held.stack tag reply stepped fits.read.pieces still_none carried.right was)
        (subst (λ (v : TracedView). IsFalse v.stack.adapter.faithful) (sym same) kept.apart)
        (subst (λ (v : TracedView). AreOnTags v.stack.adapter tags) (sym same) kept.on_tags)

  pub failed_keeps : BooksFailure old tag completion held → StaysKept rules start old tags new tags'
  failed_keeps (inl (piece, srb, is_armed, holds)) = booked_kept piece srb is_armed holds
  failed_keeps (inr (none, same)) = idle_kept none same
