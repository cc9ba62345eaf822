-- The table beside a run, built from the deeds of its pieces.
use Rattle.std.proofs.Common.{◌≡◌, ◌<◌, inl, inr, ℕ, Bool, true, false, List, [], ◌∷◌, ◌++◌, Option, Some, None, Result, Ok, Err, refl, sym, ap, subst, ◌∙◌, arith}
use Rattle.std.specs.Prelude.{Contains, if◌then◌else◌}
use Rattle.std.proofs.lemmas.List.Sorted.{Contains-permutation, IsPermutation-sym}
use Rattle.sector.specs.declared.Extent.{Extent}
use Rattle.ntstatus.specs.declared.NtStatus.{NtStatus}
use Rattle.srb.specs.declared.Class.TheVariants.{Bad}
use Rattle.srb.specs.declared.Completion.{Completion}
use Rattle.srb.specs.declared.DeviceLabel.{DeviceLabel}
use Rattle.srb.specs.declared.DeviceLabel.TheVariants.{Start, Act, Fault, Return}
use Rattle.srb.specs.declared.Entry.{Entry}
use Rattle.srb.specs.declared.Kind.{Kind}
use Rattle.srb.specs.declared.Kind.TheVariants.{Read, Write, Flush}
use Rattle.srb.specs.Fate.{Fate, is_fresh}
use Rattle.machine.specs.declared.ClientRequest.{ClientRequest}
use Rattle.machine.specs.declared.Label.{Label}
use Rattle.machine.specs.declared.Label.TheVariants.{Call as CallLabel, Device, Answer, Cancel, Pause, Resume, Remove, Surprise, Removed}
use Rattle.machine.specs.Calling.{Admits, refusal}
use Rattle.machine.specs.Rules.{Rules}
use Rattle.machine.specs.Sending.{Returns, Transfers, written}
use Rattle.machine.specs.State.{State}
use Rattle.machine.specs.Step.{DeviceStep, FreeStep, OwingStep, Step}
use Rattle.file_disk.specs.Calls.{Call}
use Rattle.file_disk.specs.Transfers.{DiskView}
use Rattle.loss.specs.Held.{Held, Work, act_changes, changed_by, fault_changes, return_changes}
use Rattle.loss.specs.Moved.{IsOut, Moves, Table, TableRun, work_of}
use Rattle.file_sessions.specs.Stored.{Content, IsKept, held}
use Rattle.file_sessions.specs.Deeds.{Deed, HasFailed, HasMoved}
use Rattle.file_sessions.specs.Laws.{IsOnDisk, deed_changes}
use Rattle.file_sessions.specs.Within.{IsWithin}
use Rattle.file_sessions.proofs.Within.{within_trans}
use Rattle.file_sessions.proofs.Handing.{hands_over}
use Rattle.file_sessions.proofs.Leaving.{leaves_no_more, unfailed}

-- ACTS MOVE NO ARRAYS

transfer_same : (rules : Rules) (s : State) (q : ClientRequest) (places : Extent) (kind : Kind) (sectors : List (List ℕ)) (arrays' : List (List (List ℕ)))
    → rules.faithful ≡ false → Transfers rules s q places kind sectors arrays' → arrays' ≡ s.arrays
transfer_same rules s q places Read sectors arrays' apart h = h.2
transfer_same rules s q places Flush sectors arrays' apart h = h.1
transfer_same rules s q places Write sectors arrays' apart h = h.2 ∙ ap (λ (b : Bool). if b then written rules s q places sectors else s.arrays) apart

device_same : (rules : Rules) (s : State) (label : DeviceLabel) (s' : State) → rules.faithful ≡ false → DeviceStep rules s label s' → s'.arrays ≡ s.arrays
device_same rules s (Start n tag block) s' apart h = h.after.arrays
device_same rules s (Act n bytes) s' apart h = h.after.arrays ∙ transfer_same rules s h.owner.request h.piece.places h.owner.request.kind h.sectors h.arrays' apart h.moves
device_same rules s (Fault n) s' apart h = h.after.arrays
device_same rules s (Return n class) s' apart h = h.after.arrays

admits_same : (rules : Rules) (s : State) (n : ℕ) (q : ClientRequest) (answer : Option NtStatus) (s' : State) → Admits rules s n q answer s' → s'.arrays ≡ s.arrays
admits_same rules s n q None s' h = h.after.arrays
admits_same rules s n q (Some status) s' h = h.after.arrays

free_same : (rules : Rules) (s : State) (label : Label) (s' : State) → rules.faithful ≡ false → FreeStep rules s label s' → s'.arrays ≡ s.arrays
free_same rules s (CallLabel n q) s' apart h = admits_same rules s n q (refusal rules s q) s' h.admits
free_same rules s (Device label) s' apart h = device_same rules s label s' apart h
free_same rules s (Answer n status informed bytes) s' apart h = h.answers.after.arrays
free_same rules s (Cancel n) s' apart h = h.after.arrays
free_same rules s Pause s' apart h = h.after.arrays
free_same rules s Resume s' apart h = h.after.arrays
free_same rules s Remove s' apart h = h.after.arrays
free_same rules s Surprise s' apart h = h.drains.arrays
free_same rules s Removed s' apart h = h.after.arrays

owing_same : (s : State) (label : Label) (s' : State) → OwingStep s label s' → s'.arrays ≡ s.arrays
owing_same s (Answer n status informed bytes) s' h = h.after.arrays
owing_same s _ s' h = absurd h

step_same : (rules : Rules) (s : State) (label : Label) (s' : State) → rules.faithful ≡ false → Step rules s label s' → s'.arrays ≡ s.arrays
step_same rules s label s' apart (inl h) = free_same rules s label s' apart h.1
step_same rules s label s' apart (inr h) = owing_same s label s' h

pub run_same : (rules : Rules) → rules.faithful ≡ false → (s : State) (t : Table) (labels : List Label) (s' : State) (t' : Table) → TableRun rules s t labels s' t' → s'.arrays ≡ s.arrays
run_same rules apart s t [] s' t' run = sym run.0.arrays
run_same rules apart s t (label ∷ labels) s' t' run = run_same rules apart run.0 run.1 labels s' t' run.4 ∙ step_same rules s label run.0 apart run.2

-- KEPT SO FAR

pub kept_behind : (size : ℕ) (content : Content) (xs ys : List Call) → IsKept size content (xs ++ ys) → IsKept size content ys
kept_behind size content [] ys h = h
kept_behind size content (x ∷ xs) ys h = kept_behind size content xs ys h.1

-- ONE LABEL

first_there : {X : Type 0} (x : X) (xs : List X) → Contains (x ∷ xs) x
first_there x xs = (0, omega arith, refl)

module _ (rules : Rules) (content : Content) (some : 0 < rules.sector_size) where
  abbrev pub size : ℕ
  size = rules.sector_size

  -- the table holds all that the calls leave
  abbrev pub IsCovering : List Call → Table → Type 0
  IsCovering calls t = (i : ℕ) → IsWithin (held size i (content i) calls) (t i)

  -- the table behind a label, and behind the calls so far
  pub record IsBuilt (s : State) (label : Label) (t : Table) (calls : List Call) : Type 0 where
    pub table : Table
    pub moves : Moves rules s label t table
    pub covering : IsCovering calls table

  pub stays : (s : State) (label : Label) (t : Table) (calls : List Call) → Moves rules s label t t → IsCovering calls t → IsBuilt s label t calls
  stays s label t calls moves covering = record { table = t; moves = moves; covering = covering }

  by_fate : (n : ℕ) (fate : Fate) (w : Work) (i : ℕ) (a b : Held) → IsWithin a b → IsWithin a (changed_by n (return_changes size fate w i) b)
  by_fate n fate w i a b p = at_one (is_fresh fate)
    where
      at_one : (fresh : Bool) → IsWithin a (changed_by n (if fresh then fault_changes size w i else []) b)
      at_one true = within_trans a b (changed_by n (fault_changes size w i) b) p (unfailed size n w i b)
      at_one false = p

  pub back_bad : (s : State) (number : ℕ) (completion : Completion) (s' : State) (t : Table) (calls : List Call) → Returns s number (Bad completion) s' → IsCovering calls t
      → IsBuilt s (Device (Return number (Bad completion))) t calls
  back_bad s number completion s' t calls h covering = record {
    table = λ i. changed_by s.next_piece (return_changes size h.piece.fate (work_of rules h.owner.request h.piece.places) i) (t i);
    moves = record {
      piece = h.piece;
      owner = h.owner;
      out = record {
        is_number = h.is_number;
        is_out = Contains-permutation _ _ h.piece (IsPermutation-sym _ _ h.is_out) (first_there h.piece h.other_pieces);
        is_open = Contains-permutation _ _ h.owner (IsPermutation-sym _ _ h.is_open) (first_there h.owner h.others);
        is_owner = h.is_owner;
      };
      after = λ i. refl;
    };
    covering = λ i. by_fate s.next_piece h.piece.fate (work_of rules h.owner.request h.piece.places) i (held size i (content i) calls) (t i) (covering i);
  }

  module _ (s : State) (number : ℕ) (deed : Deed) (old new : DiskView) (h : IsOnDisk rules s number deed old new) (t : Table) (calls newest : List Call) (called : new.calls ≡ newest ++ old.calls)
      (kept : IsKept size content (newest ++ calls)) (covering : IsCovering calls t) where
    abbrev work : Work
    work = work_of rules h.of_piece.owner.request h.of_piece.piece.places

    out : IsOut s number h.of_piece.piece h.of_piece.owner
    out = record { is_number = h.of_piece.is_number; is_out = h.of_piece.at_work.out.is_out; is_open = h.of_piece.at_work.out.is_open; is_owner = h.of_piece.at_work.out.is_owner }

    leaves : (what : Result Entry Completion) → deed.what ≡ what → (i : ℕ) → IsWithin (held size i (content i) (newest ++ calls)) (changed_by s.next_piece (deed_changes size number what work i) (t i))
    leaves what is i =
        subst (λ (x : Result Entry Completion). IsWithin (held size i (content i) (newest ++ calls)) (changed_by s.next_piece (deed_changes size number x work i) (t i))) is
        (leaves_no_more rules s number deed old new h content calls s.next_piece i (t i) (covering i) newest called kept)

    by_act : (bytes : List ℕ) (what : Result Entry Completion) → deed.what ≡ what → HasMoved bytes what → IsBuilt s (Device (Act number bytes)) t (newest ++ calls)
    by_act bytes (Ok entry) is moved = record {
      table = λ i. changed_by s.next_piece (act_changes size number work i) (t i);
      moves = record {
        piece = h.of_piece.piece;
        owner = h.of_piece.owner;
        out = out;
        hands_over = hands_over rules s number deed old new h content t calls newest called kept covering entry bytes is moved;
        after = λ i. refl;
      };
      covering = leaves (Ok entry) is;
    }
    by_act bytes (Err completion) is moved = absurd moved

    by_fault : (what : Result Entry Completion) → deed.what ≡ what → HasFailed what → IsBuilt s (Device (Fault number)) t (newest ++ calls)
    by_fault (Ok entry) is failed = absurd failed
    by_fault (Err completion) is failed = record {
      table = λ i. changed_by s.next_piece (fault_changes size work i) (t i);
      moves = record { piece = h.of_piece.piece; owner = h.of_piece.owner; out = out; after = λ i. refl };
      covering = leaves (Err completion) is;
    }

    pub built_act : (bytes : List ℕ) → HasMoved bytes deed.what → IsBuilt s (Device (Act number bytes)) t (newest ++ calls)
    built_act bytes moved = by_act bytes deed.what refl moved

    pub built_fault : HasFailed deed.what → IsBuilt s (Device (Fault number)) t (newest ++ calls)
    built_fault failed = by_fault deed.what refl failed
