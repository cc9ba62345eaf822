-- What all sectors see of a session, and where the calls of open ones stand there.
use Rattle.std.specs.Prelude.{◌≡◌, ℕ, Bool, true, false, List, [], ◌∷◌, ◌++◌, Option, Some, None, is_some, length, if◌then◌else◌}
use Rattle.std.specs.List.{list_any}
use Rattle.std.specs.Ordering.{nat_cmp}
use Rattle.std.specs.BTreeMap.{BTreeMap, get}
use Rattle.ntstatus.specs.declared.NtStatus.{NtStatus}
use Rattle.srb.specs.declared.Kind.{Kind}
use Rattle.srb.specs.declared.Kind.TheVariants.{Read, Write, Flush}
use Rattle.machine.specs.declared.Label.{Label}
use Rattle.machine.specs.declared.Label.TheVariants.{Call, Answer}
use Rattle.history_loss_kept.specs.declared.Outcome.TheVariants.{Open}
use Rattle.history_loss_kept.specs.declared.Shared.{Shared}
use Rattle.history_loss_kept.specs.declared.Shared.TheVariants.{Call as SharedCall}
use Rattle.history_loss_kept.specs.Kept.{is_sync_of, shared_after}
use Rattle.history_loss_sector.specs.declared.merging.SharedAt.{SharedAt}
use Rattle.history_loss_sector.specs.Seen.{shared_in}
use Rattle.history_loss_judge.specs.declared.syncs.Syncs.{Syncs}

-- whether it is a flush, if it is one of all sectors
abbrev pub sync_kind : Kind → Bool → Option Bool
sync_kind Read through = None
sync_kind Write through = if through then Some false else None
sync_kind Flush through = Some true

abbrev pub index_of : BTreeMap ℕ ℕ → ℕ → Option ℕ
index_of open_ones n = get nat_cmp open_ones n

-- the one call of this number stands there
pub record IsCallAt (shared : List Shared) (n at : ℕ) : Type 0 where
  pub before : List Shared
  pub is_flush : Bool
  pub after : List Shared
  pub is : shared ≡ before ++ SharedCall n is_flush Open ∷ after
  pub count : length before ≡ at
  pub none_before : list_any (is_sync_of n) before ≡ false
  pub none_after : list_any (is_sync_of n) after ≡ false

abbrev pub IsIndexed : List SharedAt → ℕ → Option ℕ → Type 0
IsIndexed shared n None = Unit {0}
IsIndexed shared n (Some at) = IsCallAt (shared_in shared) n at

-- one more, and it is found
pub record PutsSync (n : ℕ) (is_flush : Bool) (old new : Syncs) : Type 0 where
  pub shared : shared_in new.shared.items ≡ shared_in old.shared.items ++ SharedCall n is_flush Open ∷ []
  pub here : index_of new.calls n ≡ Some (length (shared_in old.shared.items))
  pub others : (m : ℕ) → (m ≡ n → ⊥) → index_of new.calls m ≡ index_of old.calls m

abbrev pub TakesCall : ℕ → Option Bool → Syncs → Syncs → Type 0
TakesCall n None old new = new ≡ old
TakesCall n (Some is_flush) old new = PutsSync n is_flush old new

-- one ended, and is no longer found
pub record EndsSync (n : ℕ) (status : NtStatus) (old new : Syncs) : Type 0 where
  pub shared : shared_in new.shared.items ≡ shared_after n status (shared_in old.shared.items)
  pub here : index_of new.calls n ≡ None
  pub others : (m : ℕ) → (m ≡ n → ⊥) → index_of new.calls m ≡ index_of old.calls m

abbrev pub TakesAnswer : ℕ → NtStatus → Option ℕ → Syncs → Syncs → Type 0
TakesAnswer n status None old new = (new.shared ≡ old.shared) × ((m : ℕ) → index_of new.calls m ≡ index_of old.calls m)
TakesAnswer n status (Some at) old new = EndsSync n status old new

-- BY LABELS

abbrev pub BeginsBy : Label → Syncs → Syncs → Type 0
BeginsBy (Call n q) old new = TakesCall n (sync_kind q.kind q.through) old new
BeginsBy _ old new = new ≡ old

-- whether it answers what all sectors see
abbrev pub IsSyncOf : Syncs → Label → Bool → Type 0
IsSyncOf syncs (Answer n status informed bytes) is_sync = is_sync ≡ is_some (index_of syncs.calls n)
IsSyncOf syncs _ is_sync = is_sync ≡ false

-- what it answers stands where it is found
abbrev pub IsFound : Syncs → Label → Type 0
IsFound syncs (Answer n status informed bytes) = IsIndexed syncs.shared.items n (index_of syncs.calls n)
IsFound syncs _ = Unit {0}

abbrev pub FinishesBy : Label → Syncs → Syncs → Type 0
FinishesBy (Answer n status informed bytes) old new = TakesAnswer n status (index_of old.calls n) old new
FinishesBy _ old new = new ≡ old
