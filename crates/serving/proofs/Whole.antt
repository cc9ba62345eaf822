-- A whole session whose requests are served side by side.
use Rattle.serving.proofs.Common.{◌≡◌, inl, ℕ, false, List, [], ◌++◌, Option, Some, None, refl, sym, ap, subst, ◌∙◌, arith, All, All-nil, All-weaker, IsPermutation, IsPermutation-refl, Answer, Handle, ManagerView, Sizes, End, Error, FiledView, fault_of_end}
use Rattle.nbd.specs.Beside.{IsSessionBeside, nothing_said}
use Rattle.nbd.specs.Desks.{EndsSince}
use Rattle.nbd.specs.Handshake.{EndsUnasked, Opens}
use Rattle.nbd.specs.Laws.{MakesASession}
use Rattle.read_ahead.specs.Standing.{behind}
use Rattle.file_disk.specs.Transfers.{DiskView}
use Rattle.serving.specs.Beside.{Aloft, Deals, GoesBeside, IsNewIn, ToldInTurn, moves_in, none_aloft, nothing_gone}
use Rattle.serving.specs.BesideFile.{IsFileSessionBeside, begun}
use Rattle.serving.specs.declared.dues.Due.{Due}
use Rattle.serving.specs.declared.dues.Ready.{Ready}
use Rattle.serving.specs.inside.Dues.{IsNextIn, IsSlotIn, due_places, ready_place}
use Rattle.serving.specs.inside.Dues.{IsFree}
use Rattle.serving.specs.inside.First.{IsAtRest, IsFirst, IsSessionFrom}
use Rattle.serving.specs.inside.Since.{BusyView, SinceFirst}
use Rattle.serving.proofs.Dealing.{deals_none}
use Rattle.serving.proofs.Growing.{grows_none}
use Rattle.serving.proofs.Siding.{beside_none}
use Rattle.serving.proofs.Slots.{none_placed}

slots_free : (first : BusyView) (slots : List (Option Due)) → All IsFree slots → All (IsSlotIn first.engine.stack first.handle first.sizes nothing_gone []) slots
slots_free first slots all =
    All-weaker IsFree (IsSlotIn first.engine.stack first.handle first.sizes nothing_gone [])
    (λ (slot : Option Due) is. subst (λ (x : Option Due). IsSlotIn first.engine.stack first.handle first.sizes nothing_gone [] x) (sym is) tt) slots all

-- nothing was said yet
since_rest : (b : BusyView) → IsAtRest b → SinceFirst b nothing_said b
since_rest b rest = (
  nothing_gone,
  record {
    went = beside_none b.engine.stack;
    deals = deals_none b.engine.aloft b.engine.disk;
    full = λ h. absurd (cc (rest.not_full, h));
    spoiled = λ h. absurd (let n : b.spoiled ≡ 0 = rest.none_spoiled in omega (arith, n, h));
    waiting = subst (λ (xs : List Answer). All (IsNewIn nothing_gone) xs) (sym rest.none_waits) (All-nil (IsNewIn nothing_gone));
    same_handle = refl;
    same_sizes = refl;
    counted = rest.none_read;
    told = grows_none nothing_gone;
    next = subst (λ (r : Option Ready). IsNextIn b.engine.stack b.handle b.sizes nothing_gone [] r) (sym rest.none_ready) tt;
    slots = slots_free b b.slots rest.free;
    due =
        subst (λ (l : List ℕ). IsPermutation l []) (sym (ap (λ (r : Option Ready). ready_place r ++ due_places b.slots) rest.none_ready ∙ none_placed b.slots rest.free)) (IsPermutation-refl []);
  },
)

-- the session ended before its requests
pub unasked : (b : BusyView) (out after : Option (List ℕ)) (end : End) (told : Option Error) → EndsUnasked b.sizes b.left out end after → told ≡ fault_of_end end → IsSessionFrom b out told after
unasked b out after end told ended is = λ rest. record {
  end = end;
  told_is = is;
  account = nothing_said;
  session = inl (ended, refl);
  gone = nothing_gone;
  last = b.engine.stack;
  went = beside_none b.engine.stack;
  aloft = b.engine.aloft;
  disk = b.engine.disk;
  deals = deals_none b.engine.aloft b.engine.disk;
  answered = grows_none nothing_gone;
}

-- it came to its requests
pub asked : MakesASession → (b mid new : BusyView) (out between after : Option (List ℕ)) (end : End) (told : Option Error) → mid ≡ record b { left = mid.left } → Opens b.sizes b.left out mid.left between
    → EndsSince SinceFirst mid mid.left between end new after → told ≡ fault_of_end end → IsSessionFrom b out told after
asked makes b mid new out between after end told same opens ends is = λ rest.
    let by = subst (λ (m : BusyView). EndsSince SinceFirst m mid.left between end new after) same ends (record b { left = mid.left })
    (since_rest (record b { left = mid.left }) (record { none_waits = rest.none_waits; not_full = rest.not_full; free = rest.free; none_ready = rest.none_ready; none_read = rest.none_read; none_spoiled = rest.none_spoiled })) in
    record {
      end = end;
      told_is = is;
      account = by.account;
      session = makes b.sizes b.left out mid.left between after by.account end opens by.ends;
      gone = by.since.0;
      last = new.engine.stack;
      went = by.since.1.went;
      aloft = new.engine.aloft;
      disk = new.engine.disk;
      deals = by.since.1.deals;
      answered = by.since.1.told;
    }

-- of a partition
pub of_filed : (filed : FiledView) (input out after : Option (List ℕ)) (told : Option Error) (b : BusyView) → IsFirst filed input b → IsSessionFrom b out told after → IsFileSessionBeside filed input out told after
of_filed filed input out after told b first session =
    let s = session first.rest in
    inl (record {
      end = s.end;
      told_is = s.told_is;
      account = s.account;
      session =
          subst (λ (z : Sizes). IsSessionBeside z input out s.account s.end after) first.sizes
          (subst (λ (l : Option (List ℕ)). IsSessionBeside b.sizes l out s.account s.end after) first.left s.session);
      gone = s.gone;
      last = s.last;
      went = subst (λ (v : ManagerView). GoesBeside v s.gone.labels (moves_in s.gone.moments) s.last) first.stack s.went;
      aloft = s.aloft;
      disk = s.disk;
      deals =
          subst (λ (d : DiskView). Deals (none_aloft filed.carried.stack.rules.depth) d s.gone.moments s.aloft s.disk) first.disk
          (subst (λ (x : Aloft). Deals x b.engine.disk s.gone.moments s.aloft s.disk) first.aloft s.deals);
      answered =
          subst (λ (z : Sizes). ToldInTurn (begun filed.carried.stack) filed.handle z s.account.taken nothing_gone s.account.told s.gone) first.sizes
          (subst (λ (h : Handle). ToldInTurn (begun filed.carried.stack) h b.sizes s.account.taken nothing_gone s.account.told s.gone) first.handle
          (subst (λ (v : ManagerView). ToldInTurn v b.handle b.sizes s.account.taken nothing_gone s.account.told s.gone) first.stack s.answered));
    })

-- a desk for a client that hasn't sent anything
pub first_desk : (filed : FiledView) (b : BusyView) (input : Option (List ℕ)) → b.engine.stack ≡ begun filed.carried.stack → b.engine.disk ≡ filed.carried.disk → b.engine.aloft ≡ none_aloft filed.carried.stack.rules.depth → b.engine.full ≡ false
    → b.handle ≡ filed.handle → b.sizes ≡ filed.sizes → b.left ≡ input → All IsFree b.slots → b.ready ≡ None → b.read ≡ 0 → b.spoiled ≡ 0 → IsFirst filed input b
first_desk filed b input stack disk aloft full handle sizes left free ready read spoiled = record {
  stack = stack;
  disk = disk;
  aloft = aloft;
  handle = handle;
  sizes = sizes;
  left = left;
  rest = record { none_waits = ap (λ (v : ManagerView). v.answers) stack; not_full = full; free = free; none_ready = ready; none_read = read; none_spoiled = spoiled };
}

-- all that it gives comes behind its first byte
pub behind_none : (given : Option (List ℕ)) → behind 0 given ≡ given
behind_none None = refl
behind_none (Some xs) = refl
