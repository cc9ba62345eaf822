-- What is told of a stack over a journal before its first event.
use Rattle.journaled.proofs.Common.{◌≡◌, ◌≤◌, ℕ, List, [], length, map, Some, sym, ap, subst, ◌∙◌, arith, All, IsTrue, All-nil, Entry, Replays, IsSector, sectors_in, TagInUse, Rules, sectors_of, IsMap, array_at, State, IsSame, opening, IsSame-refl, AreWhole, IsReached, HaveSameLengths, RunsKeepLengths, ManagerView, IsStartedUse, JournalView, entries_in, entries_of, IsBelow, StandsIn, JournaledKept, next_behind, over, Reservation, Label, IsStarted, IsUnused, IsTold}

module _ (stack : ManagerView) (journal : JournalView) (started : IsStarted stack) (unused : IsUnused journal) where
  pub kept_at_first : (disk : List (List ℕ)) (max_transfer : ℕ) → StandsIn stack journal → 1 ≤ max_transfer → max_transfer ≡ stack.rules.max_transfer → IsTrue stack.rules.keeps_bytes → Replays journal.medium.sector_size disk (entries_of journal) journal.medium.sectors
      → JournaledKept disk stack journal max_transfer 1
  kept_at_first disk max_transfer stands some longest bytes replays =
      let same : journal.medium.sectors ≡ disk = subst (λ (es : List Entry). Replays journal.medium.sector_size disk es journal.medium.sectors) (ap entries_in unused.no_entry) replays in
      record {
        stands = stands;
        map = subst (λ (r : Rules). IsMap r.disk_sectors r.partitions) (sym started.first.rules) started.first.told.is_map;
        disk = record {
          whole = subst (λ (xs : List (List ℕ)). All (IsSector stack.rules.sector_size) xs) same (subst (λ (n : ℕ). All (IsSector n) journal.medium.sectors) stands.sector_size unused.whole);
          many = sym (ap (λ (xs : List (List ℕ)). length xs) same) ∙ stands.sectors;
        };
        some = some;
        longest = longest;
        bytes = bytes;
        counts = ap (λ (ls : List Label). next_behind 1 ls) started.first.no_labels ∙ sym (ap (λ (s : State). s.next_request) started.first.state);
        before = subst (λ (rs : List Reservation). All (IsBelow stack.state.next_request) rs) (sym unused.none_open) (All-nil (IsBelow stack.state.next_request));
      }

  whole : RunsKeepLengths → IsReached stack.rules stack.state → AreWhole stack.rules stack.state.arrays
  whole keeps reached p =
      let first : IsReached stack.rules (opening reached.arrays) = record { arrays = reached.arrays; labels = []; whole = reached.whole; run = IsSame-refl (opening reached.arrays) } in
      let same : HaveSameLengths reached.arrays stack.state.arrays = keeps stack.rules (opening reached.arrays) reached.labels stack.state first reached.run in
      let there : sectors_of stack.rules (Some p) ≤ length (array_at reached.arrays p) = reached.whole p in
      let long : length (array_at stack.state.arrays p) ≡ length (array_at reached.arrays p) = same.sectors p in
      omega (arith, there, long)

  pub told_at_first : RunsKeepLengths → IsReached stack.rules stack.state → (arrays : List (List (List ℕ))) × IsTold arrays [] (over stack journal)
  told_at_first keeps reached =
      let arrays_are : stack.state.arrays ≡ map (sectors_in started.disk.sectors) started.first.partitions = ap (λ (s : State). s.arrays) started.first.state in (
        map (sectors_in started.disk.sectors) started.first.partitions,
        record {
          whole = subst (λ (a : List (List (List ℕ))). AreWhole stack.rules a) arrays_are (whole keeps reached);
          run = subst (λ (s : State). IsSame (opening (map (sectors_in started.disk.sectors) started.first.partitions)) s) (sym started.first.state) (IsSame-refl (opening (map (sectors_in started.disk.sectors) started.first.partitions)));
          journaled = record {
            of_acts = ap entries_in unused.no_entry;
            started = subst (λ (us : List TagInUse). All (IsStartedUse []) us) (sym started.first.same_disk.idle.no_tags) (All-nil (IsStartedUse []));
          };
        },
      )
