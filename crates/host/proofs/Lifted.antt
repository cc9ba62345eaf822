-- The closed trace is a run of the machine whose acts read and write the sectors.
use Rattle.host.proofs.Common.{◌≡◌, ◌≤◌, ℕ, suc, ◌+◌, List, [], ◌∷◌, ◌++◌, length, sym, ap, subst, ◌∙◌, arith, All-head, Entry, Replays, IsSector, Label, IsMap, Rules, State, opening, Run, AreOfActs, JournalsCloseRuns, Entered, JournalView, entries_in, entries_of, replays_first, ActsAreOf, BeginsWith, numbered_from, AreFirst, IsFaithfulRun, act_count, IsDiskOf, IsJournalFor}
use Rattle.std.specs.Prelude.{All}
use Rattle.std.proofs.lemmas.List.{length-append, length-map, map-append}
use Rattle.machine.specs.declared.Label.TheVariants.{Call, Device, Answer, Cancel, Pause, Resume, Remove, Surprise, Removed}
use Rattle.srb.specs.declared.DeviceLabel.TheVariants.{Start, Act, Fault, Return}

-- sectors have one length
same_size : (disk : List (List ℕ)) (size size' : ℕ) → 1 ≤ length disk → All (IsSector size) disk → All (IsSector size') disk → size ≡ size'
same_size [] size size' some one other = absurd (omega arith)
same_size (x ∷ xs) size size' some one other = sym (All-head (IsSector size) x xs one) ∙ All-head (IsSector size') x xs other

-- the sectors that a journal was opened with, where nothing was entered yet
pub is_disk_of : (rules : Rules) (journal : JournalView) (disk : List (List ℕ)) → IsJournalFor rules journal → Replays journal.medium.sector_size disk (entries_of journal) journal.medium.sectors
    → All (IsSector journal.medium.sector_size) disk → IsDiskOf rules disk
is_disk_of rules journal disk is replays whole =
    let same : journal.medium.sectors ≡ disk = subst (λ (es : List Entry). Replays journal.medium.sector_size disk es journal.medium.sectors) (ap entries_in is.no_entry) replays in
    let many : rules.disk_sectors ≡ length disk = sym is.disk.sectors ∙ ap (λ (xs : List (List ℕ)). length xs) same in
    record {
      whole = subst (λ (n : ℕ). All (IsSector n) disk) is.disk.sector_size whole;
      some = subst (λ (xs : List (List ℕ)). 1 ≤ length xs) same is.disk.some;
      map = subst (λ (n : ℕ). IsMap n rules.partitions) many is.disk.map;
    }

pub are_first : (rules : Rules) (start : State) (trace : List Label) (entries taken : List Entered) (receipts : List (ℕ × Entered)) → BeginsWith entries taken → receipts ≡ numbered_from 0 taken → ActsAreOf rules start trace taken → AreFirst trace entries receipts
are_first rules start trace entries taken receipts first numbered are = record { taken = taken; first = first; numbered = numbered; of_acts = are.of_acts }

-- labels whose acts these entries are have as many acts
acts_counted : (trace labels : List Label) (entries : List Entry) → AreOfActs trace labels entries → length entries ≡ act_count labels
acts_counted trace [] entries is = ap (λ (es : List Entry). length es) is
acts_counted trace (Device (Act piece bytes) ∷ labels) entries (left, taken, are) = ap (λ (es : List Entry). length es) taken.1 ∙ ap suc (acts_counted trace labels left are)
acts_counted trace (_ ∷ labels) entries (left, same, are) = ap (λ (es : List Entry). length es) (sym same) ∙ acts_counted trace labels left are

-- no entry is replayed
ends_there : (size : ℕ) (rest : List Entered) (mid sectors : List (List ℕ)) → length rest ≡ 0 → Replays size mid (entries_in rest) sectors → mid ≡ sectors
ends_there size [] mid sectors none replays = sym replays
ends_there size (e ∷ es) mid sectors none replays = absurd (omega (arith, none))

-- with as many acts as entries nothing is left
none_left : (trace : List Label) (entries taken rest : List Entered) → entries ≡ taken ++ rest → AreOfActs trace trace (entries_in taken) → act_count trace ≡ length entries → length rest ≡ 0
none_left trace entries taken rest all are many =
    let counted : length (entries_in taken) ≡ act_count trace = acts_counted trace trace (entries_in taken) are in
    let mapped : length (entries_in taken) ≡ length taken = length-map taken (λ (e : Entered). e.entry) in
    let joined : length entries ≡ length taken + length rest = ap (λ (es : List Entered). length es) all ∙ length-append taken rest in
    omega (arith, counted, mapped, joined, many)

pub runs_faithfully : JournalsCloseRuns → (rules : Rules) (start last : State) (trace : List Label) (entries taken : List Entered) (disk sectors : List (List ℕ)) (size : ℕ) → BeginsWith entries taken → ActsAreOf rules start trace taken
    → Run rules start trace last → Replays size disk (entries_in entries) sectors → All (IsSector size) disk → IsDiskOf rules disk → IsFaithfulRun rules disk trace entries sectors
runs_faithfully closes rules start last trace entries taken disk sectors size first are run replays whole is_disk =
    let size_is : size ≡ rules.sector_size = same_size disk size rules.sector_size is_disk.some whole is_disk.whole in
    let all : entries_in entries ≡ entries_in taken ++ entries_in first.rest = ap entries_in first.is ∙ map-append (λ (e : Entered). e.entry) taken first.rest in
    let split = replays_first size (entries_in taken) (entries_in first.rest) disk sectors (subst (λ (es : List Entry). Replays size disk es sectors) all replays) in
    let own : Replays rules.sector_size disk (entries_in taken) split.0 = subst (λ (n : ℕ). Replays n disk (entries_in taken) split.0) size_is split.1 in
    record {
      taken = taken;
      first = first;
      of_acts = are.of_acts;
      after = split.0;
      replays = own;
      all = λ many. ends_there size first.rest split.0 sectors (none_left trace entries taken first.rest first.is are.of_acts many) split.2;
      last = last;
      run = closes rules are.arrays trace last (entries_in taken) disk split.0 are.whole is_disk.map is_disk.whole (subst (λ (s : State). Run rules s trace last) are.starts run) are.of_acts own;
    }
