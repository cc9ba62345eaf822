-- What the act of a piece hands over.
use Rattle.std.proofs.Common.{◌≡◌, ◌⊎◌, inl, inr, ℕ, ◌*◌, List, [], ◌++◌, Result, Ok, Err, sym, ap, subst, ◌∙◌}
use Rattle.sector.specs.declared.Extent.{Extent}
use Rattle.srb.specs.declared.Entry.{Entry}
use Rattle.srb.specs.declared.Completion.{Completion}
use Rattle.srb.specs.declared.Kind.{Kind}
use Rattle.srb.specs.declared.Kind.TheVariants.{Read}
use Rattle.machine.specs.Rules.{Rules}
use Rattle.machine.specs.State.{State}
use Rattle.file_disk.specs.declared.file_disk.Task.{Task}
use Rattle.file_disk.specs.declared.file_disk.Task.TheVariants.{Read as ReadTask, Write as WriteTask, Flush as FlushTask}
use Rattle.file_disk.specs.Calls.{Call}
use Rattle.file_disk.specs.Transfers.{CarriesOut, DiskView, Does, LacksMemory, Transfers, entry_of}
use Rattle.loss.specs.Held.{Work}
use Rattle.loss.specs.Moved.{HandsOver, Table, work_of}
use Rattle.file_sessions.specs.Stored.{Content, IsKept, held}
use Rattle.file_sessions.specs.Deeds.{Deed}
use Rattle.file_sessions.specs.Laws.{IsOnDisk}
use Rattle.file_sessions.specs.Within.{IsWithin}
use Rattle.file_sessions.proofs.Asked.{Matches}
use Rattle.file_sessions.proofs.Leaving.{did_these, matches_work}
use Rattle.file_sessions.proofs.Reading.{reads_are_shown}

abbrev bytes_in : Result Entry Completion → List ℕ
bytes_in (Ok entry) = entry.bytes
bytes_in (Err completion) = []

module _ (rules : Rules) (s : State) (number : ℕ) (deed : Deed) (old new : DiskView) (h : IsOnDisk rules s number deed old new) (content : Content) (t : Table) (calls newest : List Call)
    (called : new.calls ≡ newest ++ old.calls) (kept : IsKept rules.sector_size content (newest ++ calls)) (covering : (i : ℕ) → IsWithin (held rules.sector_size i (content i) calls) (t i)) where
  abbrev size : ℕ
  size = rules.sector_size

  abbrev work : Work
  work = work_of rules h.of_piece.owner.request h.of_piece.piece.places

  of_task : (task : Task) (extent : Extent) (moved : List ℕ) → Matches size work deed.srb.data task extent → Does (extent.first * size) deed.srb.data task (Ok moved) newest → HandsOver size t work.extent work.kind moved
  of_task ReadTask extent moved k does =
      subst (λ (kind : Kind). HandsOver size t work.extent kind moved) (sym k.0)
      (subst (λ (e : Extent). HandsOver size t e Read moved) k.1
      (reads_are_shown size content extent deed.srb.data moved newest calls t h.some (k.2 ∙ ap (λ (e : Extent). e.count * size) (sym k.1)) kept does covering))
  of_task (WriteTask through) extent moved k does = subst (λ (kind : Kind). HandsOver size t work.extent kind moved) (sym k.0) tt
  of_task FlushTask extent moved k does = subst (λ (kind : Kind). HandsOver size t work.extent kind moved) (sym k) tt

  entry_bytes : (task : Task) (extent : Extent) (moved : Result (List ℕ) Completion) (entry : Entry) (bytes : List ℕ) → entry_of deed.tag deed.piece task extent moved ≡ Ok entry → entry.bytes ≡ bytes → moved ≡ Ok bytes
  entry_bytes task extent (Ok moved) entry bytes e is = ap (λ (b : List ℕ). Ok b) (let same : moved ≡ entry.bytes = ap bytes_in e in same ∙ is)
  entry_bytes task extent (Err completion) entry bytes e is = absurd (cc (e))

  pub hands_over : (entry : Entry) (bytes : List ℕ) → deed.what ≡ Ok entry → entry.bytes ≡ bytes → HandsOver size t work.extent work.kind bytes
  hands_over entry bytes is same = by_case h.transfers
    where
      by_moved : (c : CarriesOut old deed.tag deed.piece deed.srb deed.what new) (moved : Result (List ℕ) Completion) → moved ≡ Ok bytes
          → Does (c.extent.first * size) deed.srb.data c.task moved newest ⊎ ((c.task ≡ ReadTask) × LacksMemory moved newest) → HandsOver size t work.extent work.kind bytes
      by_moved c moved e (inl does) =
          of_task c.task c.extent bytes (matches_work rules s number deed old new h content calls 0 0 (t 0) (covering 0) c)
          (subst (λ (m : Result (List ℕ) Completion). Does (c.extent.first * size) deed.srb.data c.task m newest) e does)
      by_moved c moved e (inr lacks) = absurd (cc (e, lacks.1.0))

      by_case : Transfers old deed.tag deed.piece deed.srb deed.what new → HandsOver size t work.extent work.kind bytes
      by_case (inl c) =
          by_moved c c.moved (entry_bytes c.task c.extent c.moved entry bytes (sym c.becomes ∙ is) same)
          (did_these rules s number deed old new h content calls 0 0 (t 0) (covering 0) c newest called)
      by_case (inr (inl a)) = absurd (cc (is, a.fails))
      by_case (inr (inr f)) = absurd (cc (is, f.fails))
