-- What a stack over a journal keeps between two calls.
use Rattle.journaled.proofs.Common.{◌≡◌, ℕ, List, [], ◌∷◌, Some, length, sym, ap, subst, ◌∙◌, All, IsTrue, Label, IsSector, IsMap, Rules, ManagerView, TakesLabel, IsJournaled, Entry, Reservation, JournalView, entries_in, GivesBack, IsBelow, JournaledKept, KeepsEntries, StandsIn, next_behind, over, IsTold}
use Rattle.machine.specs.declared.Label.TheVariants.{Call, Device, Answer as AnswerLabel, Cancel, Pause, Resume, Remove as RemoveLabel, Surprise, Removed as RemovedLabel}
use Rattle.journaled.proofs.Numbering.{below_without}

-- BEHIND A STEP

-- with no labels waiting the next number is the machine's
pub next_is : (opening : List (List ℕ)) (stack : ManagerView) (journal : JournalView) (max_transfer next : ℕ) → JournaledKept opening stack journal max_transfer next → stack.labels ≡ [] → next ≡ stack.state.next_request
next_is opening stack journal max_transfer next kept taken = ap (λ (ls : List Label). next_behind next ls) (sym taken) ∙ kept.counts

pub stepped : (opening : List (List ℕ)) (old new : ManagerView) (before after : JournalView) (max_transfer next : ℕ) → JournaledKept opening old before max_transfer next → old.labels ≡ [] → new.rules ≡ old.rules → StandsIn new after
    → next_behind old.state.next_request new.labels ≡ new.state.next_request → All (IsBelow new.state.next_request) after.reservations → JournaledKept opening new after max_transfer next
stepped opening old new before after max_transfer next kept taken same stands counts below = record {
  stands = stands;
  map = subst (λ (r : Rules). IsMap r.disk_sectors r.partitions) (sym same) kept.map;
  disk = record {
    whole = subst (λ (r : Rules). All (IsSector r.sector_size) opening) (sym same) kept.disk.whole;
    many = kept.disk.many ∙ ap (λ (r : Rules). r.disk_sectors) (sym same);
  };
  some = kept.some;
  longest = kept.longest ∙ ap (λ (r : Rules). r.max_transfer) (sym same);
  bytes = subst (λ (r : Rules). IsTrue r.keeps_bytes) (sym same) kept.bytes;
  counts = ap (λ (n : ℕ). next_behind n new.labels) (next_is opening old before max_transfer next kept taken) ∙ counts;
  before = below;
}

-- BEHIND A LABEL THAT WAS TAKEN

given_below : (next : ℕ) (label : Label) (old new : List Reservation) → GivesBack label old new → All (IsBelow next) old → All (IsBelow next) new
given_below next (AnswerLabel number status informed bytes) old new gives below = below_without next number old new gives below
given_below next _ old new gives below = subst (λ (rs : List Reservation). All (IsBelow next) rs) (sym gives) below

pub noted : (opening : List (List ℕ)) (stack new : ManagerView) (before after : JournalView) (max_transfer next next' : ℕ) (label : Label) → JournaledKept opening stack before max_transfer next → TakesLabel stack (Some label) new → KeepsEntries before after
    → GivesBack label before.reservations after.reservations → ((labels : List Label) → next_behind next' labels ≡ next_behind next (label ∷ labels)) → JournaledKept opening new after max_transfer next'
noted opening stack new before after max_transfer next next' label kept takes keeps gives counts =
    subst (λ (v : ManagerView). JournaledKept opening v after max_transfer next') (sym takes.2) (record {
      stands = record {
        apart = kept.stands.apart;
        sector_size = keeps.same_size ∙ kept.stands.sector_size;
        sectors = ap (λ (xs : List (List ℕ)). length xs) keeps.same_sectors ∙ kept.stands.sectors;
      };
      map = kept.map;
      disk = record { whole = kept.disk.whole; many = kept.disk.many };
      some = kept.some;
      longest = kept.longest;
      bytes = kept.bytes;
      counts = counts takes.0 ∙ ap (λ (ls : List Label). next_behind next ls) (sym takes.1) ∙ kept.counts;
      before = given_below stack.state.next_request label before.reservations after.reservations gives kept.before;
    })

-- what was told stays where the entries do
pub entries_stay : (arrays : List (List (List ℕ))) (trace : List Label) (stack : ManagerView) (before after : JournalView) → KeepsEntries before after → IsTold arrays trace (over stack before) → IsTold arrays trace (over stack after)
entries_stay arrays trace stack before after keeps told = record {
  whole = told.whole;
  run = told.run;
  journaled = subst (λ (es : List Entry). IsJournaled trace es stack) (sym (ap entries_in keeps.entries)) told.journaled;
}
