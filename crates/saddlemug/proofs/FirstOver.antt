-- A stack over storage of C's own at first.
use Rattle.std.proofs.Common.{◌≡◌, ◌≢◌, List, ℕ, None, Result, Ok, Err, IfOk, IfErr, replicate, inl, sym, subst, ◌∙◌}
use Rattle.ntstatus.specs.declared.NtStatus.{NtStatus}
use Rattle.ntstatus.specs.declared.NtStatus.TheVariants.{InsufficientResources, Success}
use Rattle.miniport.specs.Memory.{MemView}
use Rattle.miniport.specs.Apart.{IsNewBooked, apart}
use Rattle.io_manager.specs.Shown.{ManagerView}
use Rattle.compose.specs.Opening.{IsFirstView}
use Rattle.saddlemug.specs.declared.opening_over.StackDisk.{StackDisk}
use Rattle.saddlemug.specs.Over.{IsDisk, IsNewOver, IsOverStatus, OverView, limits_of}

module _ (disk : StackDisk) (first : List ℕ) (is_disk : IsDisk disk first) (adapter : MemView) (new : IsNewBooked first disk.sectors disk.max_transfer disk.depth adapter) where
  pub first_over : (stack : ManagerView) (v : OverView) → IsFirstView (apart adapter.shown) (limits_of disk) stack → v.stack ≡ stack → v.places ≡ replicate 256 None → IsNewOver disk first v
  first_over stack v start is none = record {
    is_disk = is_disk;
    adapter = adapter;
    new = new;
    start = subst (λ (s : ManagerView). IsFirstView (apart adapter.shown) (limits_of disk) s) (sym is) start;
    none_told = none;
  }

  pub first_if : (stack : ManagerView) (r : Result OverView NtStatus) → IsFirstView (apart adapter.shown) (limits_of disk) stack → IfOk r (λ v. v.stack ≡ stack) → IfOk r (λ v. v.places ≡ replicate 256 None) → IfOk r (IsNewOver disk first)
  first_if stack (Ok v) start is none = first_over stack v start is none
  first_if stack (Err status) start is none = tt

pub wants : (disk : StackDisk) (first : List ℕ) (r : Result OverView NtStatus) → IfErr r (λ status. status ≡ InsufficientResources) → IfErr r (IsOverStatus disk first)
wants disk first (Ok v) why = tt
wants disk first (Err status) why = inl why

pub wants_fail : (r : Result OverView NtStatus) → IfErr r (λ status. status ≡ InsufficientResources) → IfErr r (λ status. status ≢ Success)
wants_fail (Ok v) why = tt
wants_fail (Err status) why = λ e. let clash : InsufficientResources ≡ Success = sym why ∙ e in cc (clash)
