-- Calls whose places don't meet may change places.
use Rattle.std.proofs.Common.{arith, rules, ◌≡◌, ◌≤◌, ◌<◌, ◌⊎◌, ℕ, ◌+◌, Bool, true, false, nat_lt, List, slice_index, length, Result, Ok, Err, inl, inr, refl, sym, ◌∙◌}
use Rattle.std.specs.Prelude.{if◌then◌else◌}
use Rattle.file_disk.specs.Calls.{Call, ReadAt, WriteAt, Sync}
use Rattle.movers.specs.Order.{CallsChange, DontMeet, FileBytes, IsRead, IsSameOutside, Leaves, StandAt, places_of}
use Rattle.std.proofs.lemmas.Bool.Decides.{nat_tests}

-- the file with what another has in these places
abbrev between : FileBytes → ℕ → ℕ → FileBytes → FileBytes
between old first count new k = if nat_lt k first then old k else if nat_lt k (first + count) then new k else old k

-- the file as a call left it, where the next left all as it was
same_after : (old mid new : FileBytes) (one : Call) → Leaves old one mid → IsSameOutside 0 0 mid new → Leaves old one new
same_after old mid new (ReadAt p count (Ok gave)) l same = (λ k out. same k (inr (omega arith)) ∙ l.0 k out, l.1)
same_after old mid new (ReadAt p count (Err why)) l same = λ k out. same k (inr (omega arith)) ∙ l k out
same_after old mid new (WriteAt p xs (Ok m)) l same = (λ k out. same k (inr (omega arith)) ∙ l.0 k out, λ k lt. same (p + k) (inr (omega arith)) ∙ l.1 k lt)
same_after old mid new (WriteAt p xs (Err why)) l same = λ k out. same k (inr (omega arith)) ∙ l k out
same_after old mid new (Sync fault) l same = λ k out. same k (inr (omega arith)) ∙ l k out

-- all that a call may have changed lies in its places
keeps_outside : (old mid : FileBytes) (one : Call) → Leaves old one mid → (k : ℕ) → (k < (places_of one).0) ⊎ ((places_of one).0 + (places_of one).1 ≤ k) → mid k ≡ old k
keeps_outside old mid (ReadAt p count (Ok gave)) l k out = l.0 k (inr (omega arith))
keeps_outside old mid (ReadAt p count (Err why)) l k out = l k (inr (omega arith))
keeps_outside old mid (WriteAt p xs (Ok m)) l k out = l.0 k out
keeps_outside old mid (WriteAt p xs (Err why)) l k out = l k out
keeps_outside old mid (Sync fault) l k out = l k (inr (omega arith))

-- a call in front of one that changed these places alone may stand behind it
first_behind : (old mid new : FileBytes) (one : Call) (q n : ℕ) → ((places_of one).0 + (places_of one).1 ≤ q) ⊎ (q + n ≤ (places_of one).0)
    → Leaves old one mid → IsSameOutside q n mid new → Leaves (between old q n new) one new
first_behind old mid new (ReadAt p count (Ok gave)) q n apart l other =
    (λ k out. grind (arith, nat_tests, l.0 k (inr (omega arith)), other k), λ k lt. grind (arith, nat_tests, l.1 k lt))
first_behind old mid new (ReadAt p count (Err why)) q n apart l other = λ k out. grind (arith, nat_tests, l k (inr (omega arith)), other k)
first_behind old mid new (WriteAt p xs (Ok m)) q n apart l other =
    (λ k out. grind (arith, nat_tests, l.0 k out, other k), λ k lt. grind (arith, other (p + k), l.1 k lt))
first_behind old mid new (WriteAt p xs (Err why)) q n apart l other = λ k out. grind (arith, nat_tests, l k out, other k)
first_behind old mid new (Sync fault) q n apart l other = λ k out. grind (arith, nat_tests, l k (inr (omega arith)), other k)

swapped : {A B : Type 0} → A ⊎ B → B ⊎ A
swapped (inl a) = inr a
swapped (inr b) = inl b

apart_change : (old mid new : FileBytes) (one other : Call) → DontMeet one other → Leaves old one mid → Leaves mid other new
    → (betw : FileBytes) × Leaves old other betw × Leaves betw one new
apart_change old mid new one (ReadAt q count (Ok gave)) apart l other = (
  old,
  (λ k out. refl, λ k lt. sym (keeps_outside old mid one l (q + k) (grind (arith, apart))) ∙ other.1 k lt),
  same_after old mid new one l other.0,
)
apart_change old mid new one (ReadAt q count (Err why)) apart l other = (old, λ k out. refl, same_after old mid new one l other)
apart_change old mid new one (Sync fault) apart l other = (old, λ k out. refl, same_after old mid new one l other)
apart_change old mid new one (WriteAt q ys (Ok n)) apart l other = (
  between old q n new,
  (λ k out. grind (arith, nat_tests), λ k lt. grind (arith, nat_tests, other.1 k lt)),
  first_behind old mid new one q n apart l other.0,
)
apart_change old mid new one (WriteAt q ys (Err why)) apart l other =
    (between old q (length ys) new, λ k out. grind (arith, nat_tests), first_behind old mid new one q (length ys) apart l other)

-- a read leaves all as it was
read_keeps : (old mid : FileBytes) (one : Call) → IsRead one → Leaves old one mid → (k : ℕ) → mid k ≡ old k
read_keeps old mid (ReadAt p count (Ok gave)) reads l k = l.0 k (inr (omega arith))
read_keeps old mid (ReadAt p count (Err why)) reads l k = l k (inr (omega arith))
read_keeps old mid (WriteAt p xs took) reads l k = absurd reads
read_keeps old mid (Sync fault) reads l k = absurd reads

reads_change : (old mid new : FileBytes) (one other : Call) → IsRead one → IsRead other → Leaves old one mid → Leaves mid other new
    → (betw : FileBytes) × Leaves old other betw × Leaves betw one new
reads_change old mid new one (ReadAt q count (Ok gave)) reads other l o =
    (old, (λ k out. refl, λ k lt. sym (read_keeps old mid one reads l (q + k)) ∙ o.1 k lt), same_after old mid new one l o.0)
reads_change old mid new one (ReadAt q count (Err why)) reads other l o = (old, λ k out. refl, same_after old mid new one l o)
reads_change old mid new one (WriteAt q ys took) reads other l o = absurd other
reads_change old mid new one (Sync fault) reads other l o = absurd other

pub calls_change : CallsChange
calls_change old mid new one other (inl reads) l o = reads_change old mid new one other reads.0 reads.1 l o
calls_change old mid new one other (inr apart) l o = apart_change old mid new one other apart l o
