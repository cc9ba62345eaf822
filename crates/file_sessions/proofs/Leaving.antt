-- What the calls of a piece leave of a sector.
use Rattle.std.proofs.Common.{◌≡◌, ◌<◌, ◌⊎◌, inl, inr, ℕ, ◌*◌, Bool, true, false, List, [], ◌∷◌, ◌++◌, Option, Some, None, Result, Ok, Err, length, refl, sym, ap, subst, ◌∙◌}
use Rattle.std.proofs.lemmas.List.{append_cancel_right}
use Rattle.sector.specs.declared.Extent.{Extent}
use Rattle.cdb.specs.Facts.{bytes_of}
use Rattle.cdb.proofs.Once.{means_once}
use Rattle.srb.specs.declared.Entry.{Entry}
use Rattle.srb.specs.declared.Completion.{Completion}
use Rattle.srb.specs.declared.Kind.{Kind}
use Rattle.srb.specs.declared.Kind.TheVariants.{Read, Write, Flush}
use Rattle.machine.specs.Rules.{Rules}
use Rattle.machine.specs.State.{State}
use Rattle.file_disk.specs.declared.storage.Failure.{Failure}
use Rattle.file_disk.specs.declared.file_disk.Task.{Task}
use Rattle.file_disk.specs.declared.file_disk.Task.TheVariants.{Read as ReadTask, Write as WriteTask, Flush as FlushTask}
use Rattle.file_disk.specs.Calls.{Call, Sync}
use Rattle.file_disk.specs.Transfers.{CarriesOut, DiskView, Does, LacksMemory, Transfers, WritesBytes, entry_of}
use Rattle.loss.specs.Held.{Doubts, Held, Work, act_changes, changed, changed_by, fault_changes}
use Rattle.loss.specs.Moved.{work_of}
use Rattle.file_sessions.specs.Stored.{Content, IsKept, held, synced, under_way}
use Rattle.file_sessions.specs.Deeds.{Deed}
use Rattle.file_sessions.specs.Laws.{IsOnDisk, PiecesAtWorkLeaveNoMore, PiecesLeaveNoMore, deed_changes}
use Rattle.file_sessions.specs.Within.{IsWithin}
use Rattle.file_sessions.proofs.Within.{attempted, doubted_more, synced_more, unattempted, undoubted, within_is, within_refl, within_trans}
use Rattle.file_sessions.proofs.Works.{act_flushes, act_reads, fault_flushes, fault_reads, fault_secures, fault_writes}
use Rattle.file_sessions.proofs.More.{faults_more, writes_more}
use Rattle.file_sessions.proofs.Filing.{read_cut, reads_nothing, stop_cut, stops_nothing, write_cut, write_done, write_failed}
use Rattle.file_sessions.proofs.Asked.{Matches, matches}

-- a piece that called nothing, and failed
module _ (size n : ℕ) (w : Work) (i : ℕ) (h : Held) where
  by_through : (b : Bool) → w.through ≡ b → w.kind ≡ Write → IsWithin h (changed_by n (fault_changes size w i) h)
  by_through false plain is = subst (λ (x : Held). IsWithin h x) (sym (fault_writes size n w i h is plain)) (unattempted size w i n h)
  by_through true past is =
      subst (λ (x : Held). IsWithin h x) (sym (fault_secures size n w i h is past))
      (within_trans h (attempted size w i n h) (changed n Doubts (attempted size w i n h)) (unattempted size w i n h) (undoubted n (attempted size w i n h)))

  by_kind : (kind : Kind) → w.kind ≡ kind → IsWithin h (changed_by n (fault_changes size w i) h)
  by_kind Read is = subst (λ (x : Held). IsWithin h x) (sym (fault_reads size n w i h is)) (within_refl h)
  by_kind Write is = by_through w.through refl is
  by_kind Flush is = subst (λ (x : Held). IsWithin h x) (sym (fault_flushes size n w i h is)) (undoubted n h)

  pub unfailed : IsWithin h (changed_by n (fault_changes size w i) h)
  unfailed = by_kind w.kind refl

-- A TASK

module _ (size i : ℕ) (content : Content) (w : Work) (n : ℕ) (some : 0 < size) (bytes : List ℕ) (sends : w.kind ≡ Write → bytes ≡ w.bytes) (before : List Call) (b : Held) (within : IsWithin (held size i (content i) before) b) where
  abbrev at : List Call → Held
  at calls = held size i (content i) calls

  abbrev acted : ℕ → Held → Held
  acted number h = changed_by n (act_changes size number w i) h

  abbrev failed : Held → Held
  failed h = changed_by n (fault_changes size w i) h

  -- what may fail may fail where more may be held
  or_more : (a : Held) → IsWithin a (failed (at before)) → IsWithin a (failed b)
  or_more a p = within_trans a (failed (at before)) (failed b) p (faults_more size n w i (at before) b within)

  long_as : w.kind ≡ Write → length bytes ≡ w.extent.count * size → length w.bytes ≡ w.extent.count * size
  long_as is long = ap (λ (b : List ℕ). length b) (sym (sends is)) ∙ long

  -- its calls, as those of the work
  as_work : (through : Bool) (extent : Extent) (result : Result (List ℕ) Completion) (calls : List Call) → w.kind ≡ Write → extent ≡ w.extent → WritesBytes {X = List ℕ} through (extent.first * size) bytes result calls
      → WritesBytes {X = List ℕ} through (w.extent.first * size) w.bytes result calls
  as_work through extent result calls is same h =
      subst (λ (b : List ℕ). WritesBytes {X = List ℕ} through (w.extent.first * size) b result calls) (sends is) (subst (λ (e : Extent). WritesBytes {X = List ℕ} through (e.first * size) bytes result calls) same h)

  behind_sync : (calls : List Call) (fault : Option Failure) → calls ≡ Sync fault ∷ [] → at (Sync fault ∷ before) ≡ at (calls ++ before)
  behind_sync calls fault e = sym (ap (λ (cs : List Call). at (cs ++ before)) e)

  pub done_within : (number : ℕ) (task : Task) (extent : Extent) (moved : List ℕ) (calls : List Call) → Matches size w bytes task extent → IsKept size content (calls ++ before)
      → Does (extent.first * size) bytes task (Ok moved) calls → IsWithin (at (calls ++ before)) (acted number b)
  done_within number ReadTask extent moved calls k kept does =
      subst (λ (x : Held). IsWithin x (acted number b)) (sym (reads_nothing size i (extent.first * size) (length moved) (content i) moved before calls does.1))
      (subst (λ (x : Held). IsWithin (at before) x) (sym (act_reads size number n w i b k.0)) within)
  done_within number (WriteTask through) extent moved calls k kept does =
      within_trans (at (calls ++ before)) (acted number (at before)) (acted number b)
      (write_done size i content w n some (long_as k.0 k.3) before k.0 through number moved calls k.1 kept (as_work through extent (Ok moved) calls k.0 k.2 does.1))
      (writes_more size n w i (at before) b within number k.0)
  done_within number FlushTask extent moved calls k kept does =
      subst (λ (x : Held). IsWithin x (acted number b)) (behind_sync calls None does.1)
      (subst (λ (x : Held). IsWithin (synced (at before)) x) (sym (act_flushes size number n w i b k)) (synced_more 0 n (at before) b within number))

  fails_within : (task : Task) (extent : Extent) (completion : Completion) (calls : List Call) → Matches size w bytes task extent → IsKept size content (calls ++ before)
      → Does (extent.first * size) bytes task (Err completion) calls → IsWithin (at (calls ++ before)) (changed_by n (fault_changes size w i) (at before))
  fails_within ReadTask extent completion calls k kept does =
      within_is (at (calls ++ before)) (changed_by n (fault_changes size w i) (at before))
      (stops_nothing size i (extent.first * size) (length bytes) (content i) does.0 before calls does.2 ∙ sym (fault_reads size n w i (at before) k.0))
  fails_within (WriteTask through) extent completion calls k kept does =
      write_failed size i content w n some (long_as k.0 k.3) before k.0 through completion calls k.1 kept (as_work through extent (Err completion) calls k.0 k.2 does.1)
  fails_within FlushTask extent completion calls k kept does =
      subst (λ (x : Held). IsWithin x (changed_by n (fault_changes size w i) (at before))) (behind_sync calls (Some does.1.0) does.1.2)
      (subst (λ (x : Held). IsWithin (changed 0 Doubts (at before)) x) (sym (fault_flushes size n w i (at before) k)) (doubted_more 0 n (at before) (at before) (within_refl (at before))))

  -- one under way
  sync_under_way : (fault : Option Failure) (later calls : List Call) (call : Call) → later ++ call ∷ calls ≡ Sync fault ∷ [] → w.kind ≡ Flush
      → IsWithin (at (under_way call ∷ (calls ++ before))) (changed_by n (fault_changes size w i) (at before))
  sync_under_way fault [] calls call e is =
      let one : call ≡ Sync fault = cc (e) in
      let none : calls ≡ [] = cc (e) in
      subst (λ (c : Call). IsWithin (at (under_way c ∷ (calls ++ before))) (changed_by n (fault_changes size w i) (at before))) (sym one)
      (subst (λ (cs : List Call). IsWithin (changed 0 Doubts (at (cs ++ before))) (changed_by n (fault_changes size w i) (at before))) (sym none)
      (subst (λ (x : Held). IsWithin (changed 0 Doubts (at before)) x) (sym (fault_flushes size n w i (at before) is)) (doubted_more 0 n (at before) (at before) (within_refl (at before)))))
  sync_under_way fault (other ∷ later) calls call e is = absurd (none_more later call calls (cc (e)))
    where
      none_more : (later : List Call) (call : Call) (calls : List Call) → later ++ call ∷ calls ≡ [] → ⊥
      none_more [] call calls e = cc (e)
      none_more (c ∷ later) call calls e = cc (e)

  cuts_within : (task : Task) (extent : Extent) (moved : Result (List ℕ) Completion) (later calls : List Call) (call : Call) → Matches size w bytes task extent → IsKept size content (calls ++ before)
      → Does (extent.first * size) bytes task moved (later ++ call ∷ calls) → IsWithin (at (under_way call ∷ (calls ++ before))) (changed_by n (fault_changes size w i) (at before))
  cuts_within ReadTask extent (Ok moved) later calls call k kept does =
      within_is (at (under_way call ∷ (calls ++ before))) (changed_by n (fault_changes size w i) (at before))
      (read_cut size i (extent.first * size) (length moved) (content i) moved before later calls call does.1 ∙ sym (fault_reads size n w i (at before) k.0))
  cuts_within ReadTask extent (Err completion) later calls call k kept does =
      within_is (at (under_way call ∷ (calls ++ before))) (changed_by n (fault_changes size w i) (at before))
      (stop_cut size i (extent.first * size) (length bytes) (content i) does.0 before later calls call does.2 ∙ sym (fault_reads size n w i (at before) k.0))
  cuts_within (WriteTask through) extent moved later calls call k kept does =
      write_cut size i content w n some (long_as k.0 k.3) before k.0 through moved later calls call k.1 kept (as_work through extent moved (later ++ call ∷ calls) k.0 k.2 does.1)
  cuts_within FlushTask extent (Ok moved) later calls call k kept does = sync_under_way None later calls call does.1 k
  cuts_within FlushTask extent (Err completion) later calls call k kept does = sync_under_way (Some does.1.0) later calls call does.1.2 k

  pub failed_within : (task : Task) (extent : Extent) (completion : Completion) (calls : List Call) → Matches size w bytes task extent → IsKept size content (calls ++ before)
      → Does (extent.first * size) bytes task (Err completion) calls → IsWithin (at (calls ++ before)) (failed b)
  failed_within task extent completion calls k kept does = or_more (at (calls ++ before)) (fails_within task extent completion calls k kept does)

  pub cut_within : (task : Task) (extent : Extent) (moved : Result (List ℕ) Completion) (later calls : List Call) (call : Call) → Matches size w bytes task extent → IsKept size content (calls ++ before)
      → Does (extent.first * size) bytes task moved (later ++ call ∷ calls) → IsWithin (at (under_way call ∷ (calls ++ before))) (failed b)
  cut_within task extent moved later calls call k kept does = or_more (at (under_way call ∷ (calls ++ before))) (cuts_within task extent moved later calls call k kept does)

  -- where nothing was called
  pub idle_within : (calls : List Call) → calls ≡ [] → IsWithin (at (calls ++ before)) (failed b)
  idle_within calls none = subst (λ (cs : List Call). IsWithin (at (cs ++ before)) (failed b)) (sym none) (or_more (at before) (unfailed size n w i (at before)))

-- A DEED

none_called : (old new calls : List Call) → new ≡ old → new ≡ calls ++ old → calls ≡ []
none_called old new calls same e = append_cancel_right calls [] old (sym e ∙ same)

none_later : (later : List Call) (call : Call) (calls : List Call) → later ++ call ∷ calls ≡ [] → ⊥
none_later [] call calls e = cc (e)
none_later (c ∷ later) call calls e = cc (e)

module _ (rules : Rules) (s : State) (number : ℕ) (deed : Deed) (old new : DiskView) (h : IsOnDisk rules s number deed old new) (content : Content) (earlier : List Call) (n i : ℕ) (b : Held)
    (within : IsWithin (held rules.sector_size i (content i) earlier) b) where
  abbrev size : ℕ
  size = rules.sector_size

  abbrev work : Work
  work = work_of rules h.of_piece.owner.request h.of_piece.piece.places

  abbrev becomes : Result Entry Completion → List Call → Type 0
  becomes what calls = IsWithin (held size i (content i) (calls ++ earlier)) (changed_by n (deed_changes size number what work i) b)

  pub matches_work : (c : CarriesOut old deed.tag deed.piece deed.srb deed.what new) → Matches size work deed.srb.data c.task c.extent
  matches_work c =
      matches size rules h.of_piece.owner.request h.of_piece.piece.places deed.srb.data c.task c.extent c.command (means_once deed.srb.block c.command _ c.passes.means h.of_piece.asks) c.asks
      (subst (λ (k : ℕ). length deed.srb.data ≡ bytes_of k c.command) h.size c.passes.fits.as_long)

  abbrev pub did : CarriesOut old deed.tag deed.piece deed.srb deed.what new → Result (List ℕ) Completion → List Call → Type 0
  did c moved calls = Does (c.extent.first * size) deed.srb.data c.task moved calls ⊎ ((c.task ≡ ReadTask) × LacksMemory moved calls)

  by_moved : (c : CarriesOut old deed.tag deed.piece deed.srb deed.what new) (moved : Result (List ℕ) Completion) (calls : List Call) → IsKept size content (calls ++ earlier) → did c moved calls
      → becomes (entry_of deed.tag deed.piece c.task c.extent moved) calls
  by_moved c (Ok moved) calls kept (inl does) = done_within size i content work n h.some deed.srb.data h.of_piece.sends earlier b within number c.task c.extent moved calls (matches_work c) kept does
  by_moved c (Ok moved) calls kept (inr lacks) = absurd (cc (lacks.1.0))
  by_moved c (Err completion) calls kept (inl does) = failed_within size i content work n h.some deed.srb.data h.of_piece.sends earlier b within c.task c.extent completion calls (matches_work c) kept does
  by_moved c (Err completion) calls kept (inr lacks) = idle_within size i content work n h.some deed.srb.data h.of_piece.sends earlier b within calls lacks.1.1

  -- the calls are those since
  pub did_these : (c : CarriesOut old deed.tag deed.piece deed.srb deed.what new) (calls : List Call) → new.calls ≡ calls ++ old.calls → did c c.moved calls
  did_these c calls e =
      let same : c.carries.calls ≡ calls = append_cancel_right c.carries.calls calls old.calls (sym c.carries.after ∙ e) in
      subst (λ (cs : List Call). did c c.moved cs) same (subst (λ (k : ℕ). Does (c.extent.first * k) deed.srb.data c.task c.moved c.carries.calls ⊎ ((c.task ≡ ReadTask) × LacksMemory c.moved c.carries.calls)) h.size c.carries.made)

  idle : (completion : Completion) (calls : List Call) → deed.what ≡ Err completion → new.calls ≡ old.calls → new.calls ≡ calls ++ old.calls → becomes deed.what calls
  idle completion calls fails same e =
      subst (λ (x : Result Entry Completion). becomes x calls) (sym fails)
      (idle_within size i content work n h.some deed.srb.data h.of_piece.sends earlier b within calls (none_called old.calls new.calls calls same e))

  same_calls : new ≡ old → new.calls ≡ old.calls
  same_calls same = ap (λ (d : DiskView). d.calls) same

  pub leaves_no_more : (calls : List Call) → new.calls ≡ calls ++ old.calls → IsKept size content (calls ++ earlier) → becomes deed.what calls
  leaves_no_more calls e kept = by_case h.transfers
    where
      by_case : Transfers old deed.tag deed.piece deed.srb deed.what new → becomes deed.what calls
      by_case (inl c) = subst (λ (x : Result Entry Completion). becomes x calls) (sym c.becomes) (by_moved c c.moved calls kept (did_these c calls e))
      by_case (inr (inl a)) = idle _ calls a.fails (same_calls a.same) e
      by_case (inr (inr f)) = idle f.completion calls f.fails (same_calls f.same) e

  pub at_work : (later calls : List Call) (call : Call) → new.calls ≡ (later ++ call ∷ calls) ++ old.calls → IsKept size content (calls ++ earlier)
      → IsWithin (held size i (content i) (under_way call ∷ (calls ++ earlier))) (changed_by n (fault_changes size work i) b)
  at_work later calls call e kept = by_case h.transfers
    where
      by_calls : (c : CarriesOut old deed.tag deed.piece deed.srb deed.what new) → did c c.moved (later ++ call ∷ calls)
          → IsWithin (held size i (content i) (under_way call ∷ (calls ++ earlier))) (changed_by n (fault_changes size work i) b)
      by_calls c (inl does) = cut_within size i content work n h.some deed.srb.data h.of_piece.sends earlier b within c.task c.extent c.moved later calls call (matches_work c) kept does
      by_calls c (inr lacks) = absurd (none_later later call calls lacks.1.1)

      by_case : Transfers old deed.tag deed.piece deed.srb deed.what new → IsWithin (held size i (content i) (under_way call ∷ (calls ++ earlier))) (changed_by n (fault_changes size work i) b)
      by_case (inl c) = by_calls c (did_these c (later ++ call ∷ calls) e)
      by_case (inr (inl a)) = absurd (none_later later call calls (none_called old.calls new.calls (later ++ call ∷ calls) (same_calls a.same) e))
      by_case (inr (inr f)) = absurd (none_later later call calls (none_called old.calls new.calls (later ++ call ∷ calls) (same_calls f.same) e))

pub pieces_leave : PiecesLeaveNoMore
pieces_leave rules s number deed old new h before earlier calls next i e kept =
    leaves_no_more rules s number deed old new h before earlier next i (held rules.sector_size i (before i) earlier) (within_refl (held rules.sector_size i (before i) earlier)) calls e kept

pub at_work_leaves : PiecesAtWorkLeaveNoMore
at_work_leaves rules s number deed old new h before earlier later calls call next i e kept =
    at_work rules s number deed old new h before earlier next i (held rules.sector_size i (before i) earlier) (within_refl (held rules.sector_size i (before i) earlier)) later calls call e kept
