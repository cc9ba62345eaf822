-- The calls of a piece, and what its act or its fault does to a sector.
use Rattle.std.proofs.Common.{◌≡◌, ◌<◌, ◌⊎◌, inl, inr, ℕ, ◌+◌, ◌*◌, drop, Bool, true, false, List, [], ◌∷◌, ◌++◌, Option, Some, None, Result, Ok, Err, length, refl, sym, subst}
use Rattle.std.specs.Prelude.{if◌then◌else◌}
use Rattle.srb.specs.declared.Kind.TheVariants.{Write}
use Rattle.srb.specs.declared.Completion.{Completion}
use Rattle.file_disk.specs.declared.storage.Failure.{Failure}
use Rattle.file_disk.specs.declared.storage.Failure.TheVariants.{Failed}
use Rattle.file_disk.specs.Calls.{Call, ReadAt, WriteAt, Sync, Reads, StopsReading, StopsWriting, Writes}
use Rattle.file_disk.specs.Transfers.{WritesBytes, WritesPlainly, WritesThrough}
use Rattle.loss.specs.Held.{Secures, Doubts, Held, Work, act_changes, changed, changed_by, fault_changes, has, value_at}
use Rattle.file_sessions.specs.Stored.{Content, IsKept, held, synced, under_way}
use Rattle.file_sessions.specs.Within.{IsWithin}
use Rattle.file_sessions.proofs.Within.{IsAway, IsThere, attempted, doubted_more, put_there, synced_less, synced_put, there_or_away, undoubted, within_trans}
use Rattle.file_sessions.proofs.Works.{act_secures, act_writes, fault_secures, fault_writes}
use Rattle.file_sessions.proofs.Writing.{Wrote, as_put, as_tried, cut_off, stopped, wrote, wrote_all}

-- READS

pub reads_nothing : (size i offset count : ℕ) (first got : List ℕ) (before calls : List Call) → Reads offset count got calls → held size i first (calls ++ before) ≡ held size i first before
reads_nothing size i offset count first got before [] h = refl
reads_nothing size i offset count first got before (ReadAt at asked (Ok gave) ∷ calls) h = reads_nothing size i offset count first h.0 before calls h.4
reads_nothing size i offset count first got before (ReadAt at asked (Err why) ∷ calls) h = absurd h
reads_nothing size i offset count first got before (WriteAt at rest took ∷ calls) h = absurd h
reads_nothing size i offset count first got before (Sync fault ∷ calls) h = absurd h

pub stops_nothing : (size i offset count : ℕ) (first : List ℕ) (why : Failure) (before calls : List Call) → StopsReading offset count why calls → held size i first (calls ++ before) ≡ held size i first before
stops_nothing size i offset count first why before [] h = absurd h
stops_nothing size i offset count first why before (ReadAt at asked gave ∷ calls) h = reads_nothing size i offset count first h.0 before calls h.4
stops_nothing size i offset count first why before (WriteAt at rest took ∷ calls) h = absurd h
stops_nothing size i offset count first why before (Sync fault ∷ calls) h = absurd h

-- a part of them, and one under way
pub read_cut : (size i offset count : ℕ) (first got : List ℕ) (before later calls : List Call) (call : Call) → Reads offset count got (later ++ call ∷ calls)
    → held size i first (under_way call ∷ (calls ++ before)) ≡ held size i first before
read_cut size i offset count first got before [] calls (ReadAt at asked (Ok gave)) h = reads_nothing size i offset count first h.0 before calls h.4
read_cut size i offset count first got before [] calls (ReadAt at asked (Err why)) h = absurd h
read_cut size i offset count first got before [] calls (WriteAt at rest took) h = absurd h
read_cut size i offset count first got before [] calls (Sync fault) h = absurd h
read_cut size i offset count first got before (ReadAt at asked (Ok gave) ∷ later) calls call h = read_cut size i offset count first h.0 before later calls call h.4
read_cut size i offset count first got before (ReadAt at asked (Err why) ∷ later) calls call h = absurd h
read_cut size i offset count first got before (WriteAt at rest took ∷ later) calls call h = absurd h
read_cut size i offset count first got before (Sync fault ∷ later) calls call h = absurd h

pub stop_cut : (size i offset count : ℕ) (first : List ℕ) (why : Failure) (before later calls : List Call) (call : Call) → StopsReading offset count why (later ++ call ∷ calls)
    → held size i first (under_way call ∷ (calls ++ before)) ≡ held size i first before
stop_cut size i offset count first why before [] calls (ReadAt at asked gave) h = reads_nothing size i offset count first h.0 before calls h.4
stop_cut size i offset count first why before [] calls (WriteAt at rest took) h = absurd h
stop_cut size i offset count first why before [] calls (Sync fault) h = absurd h
stop_cut size i offset count first why before (ReadAt at asked gave ∷ later) calls call h = read_cut size i offset count first h.0 before later calls call h.4
stop_cut size i offset count first why before (WriteAt at rest took ∷ later) calls call h = absurd h
stop_cut size i offset count first why before (Sync fault ∷ later) calls call h = absurd h

-- WRITES

module _ (size i : ℕ) (content : Content) (w : Work) (n : ℕ) (some : 0 < size) (long : length w.bytes ≡ w.extent.count * size) where
  abbrev offset : ℕ
  offset = w.extent.first * size

  abbrev at : List Call → Held
  at calls = held size i (content i) calls

  module _ (before : List Call) where
    abbrev tried : Held
    tried = attempted size w i n (at before)

    attempts : (b : ℕ) (after : Held) → Wrote size i w.extent.first w.extent.count b w.bytes n (at before) after → IsWithin after tried
    attempts b after h = as_tried size i w.extent.first w.extent.count w.bytes n some long b (at before) after h

    some_of : (calls : List Call) (m : ℕ) → IsKept size content (calls ++ before) → Writes offset w.bytes m calls → IsWithin (at (calls ++ before)) tried
    some_of calls m kept h =
        let it = wrote size i w.extent.first w.extent.count w.bytes n some long content before calls m kept h in
        attempts it.0 (at (calls ++ before)) it.2

    stops : (calls : List Call) (why : Failure) → IsKept size content (calls ++ before) → StopsWriting offset w.bytes why calls → IsWithin (at (calls ++ before)) tried
    stops calls why kept h =
        let it = stopped size i w.extent.first w.extent.count w.bytes n some long content before calls why kept h in
        attempts it.0 (at (calls ++ before)) it.1

    done : (calls : List Call) → IsKept size content (calls ++ before) → Writes offset w.bytes (length w.bytes) calls → Wrote size i w.extent.first w.extent.count w.extent.count w.bytes n (at before) (at (calls ++ before))
    done calls kept h = wrote_all size i w.extent.first w.extent.count w.bytes n some long content before calls kept h

    writes : (calls : List Call) → IsKept size content (calls ++ before) → Writes offset w.bytes (length w.bytes) calls → IsWithin (at (calls ++ before)) (put_there size w i n (at before))
    writes calls kept h = as_put size i w.extent.first w.extent.count w.bytes n some long (at before) (at (calls ++ before)) (done calls kept h)

    -- the same with the sync behind it
    writes_synced : (calls : List Call) → IsKept size content (calls ++ before) → Writes offset w.bytes (length w.bytes) calls
        → IsWithin (synced (at (calls ++ before))) (if has w.extent i then changed n (Secures (value_at size w i)) (at before) else at before)
    writes_synced calls kept h = by_place (there_or_away w.extent.first w.extent.count i)
      where
        it : Wrote size i w.extent.first w.extent.count w.extent.count w.bytes n (at before) (at (calls ++ before))
        it = done calls kept h

        by_place : IsThere w.extent.first w.extent.count i ⊎ IsAway w.extent.first w.extent.count i → IsWithin (synced (at (calls ++ before))) (if has w.extent i then changed n (Secures (value_at size w i)) (at before) else at before)
        by_place (inl here) = rw here.0 (synced_put (value_at size w i) n (at (calls ++ before)) (at before) (it.done_there here here))
        by_place (inr away) = rw away.0 (subst (λ (h : Held). IsWithin (synced h) (at before)) (sym (it.away away)) (synced_less (at before)))

    -- one that was under way
    cut : (calls : List Call) (from : ℕ) (rest : List ℕ) (m : ℕ) → IsKept size content (calls ++ before) → from ≡ offset + m → rest ≡ drop m w.bytes → Writes offset w.bytes m calls
        → IsWithin (at (WriteAt from rest (Err Failed) ∷ (calls ++ before))) tried
    cut calls from rest m kept place is h =
        let it = cut_off size i w.extent.first w.extent.count w.bytes n some long content before calls from rest m kept place is h in
        attempts it.0 (at (WriteAt from rest (Err Failed) ∷ (calls ++ before))) it.1

    writes_cut : (later calls : List Call) (call : Call) (m : ℕ) → IsKept size content (calls ++ before) → Writes offset w.bytes m (later ++ call ∷ calls) → IsWithin (at (under_way call ∷ (calls ++ before))) tried
    writes_cut [] calls (WriteAt from rest (Ok took)) m kept h = cut calls from rest h.0 kept h.2 h.3 h.4
    writes_cut [] calls (WriteAt from rest (Err why)) m kept h = absurd h
    writes_cut [] calls (ReadAt from asked gave) m kept h = absurd h
    writes_cut [] calls (Sync fault) m kept h = absurd h
    writes_cut (WriteAt from rest (Ok took) ∷ later) calls call m kept h = writes_cut later calls call h.0 kept h.4
    writes_cut (WriteAt from rest (Err why) ∷ later) calls call m kept h = absurd h
    writes_cut (ReadAt from asked gave ∷ later) calls call m kept h = absurd h
    writes_cut (Sync fault ∷ later) calls call m kept h = absurd h

    stops_cut : (later calls : List Call) (call : Call) (why : Failure) → IsKept size content (calls ++ before) → StopsWriting offset w.bytes why (later ++ call ∷ calls) → IsWithin (at (under_way call ∷ (calls ++ before))) tried
    stops_cut [] calls (WriteAt from rest took) why kept h = cut calls from rest h.0 kept h.1 h.2 h.4
    stops_cut [] calls (ReadAt from asked gave) why kept h = absurd h
    stops_cut [] calls (Sync fault) why kept h = absurd h
    stops_cut (WriteAt from rest took ∷ later) calls call why kept h = writes_cut later calls call h.0 kept h.4
    stops_cut (ReadAt from asked gave ∷ later) calls call why kept h = absurd h
    stops_cut (Sync fault ∷ later) calls call why kept h = absurd h

    -- behind all bytes the sync, or what comes before it
    sync_cut : (later calls told : List Call) (call : Call) (fault : Option Failure) → IsKept size content (calls ++ before) → later ++ call ∷ calls ≡ Sync fault ∷ told → Writes offset w.bytes (length w.bytes) told
        → IsWithin (at (under_way call ∷ (calls ++ before))) (changed n Doubts tried)
    sync_cut [] calls told call fault kept e h =
        let is : call ≡ Sync fault = cc (e) in
        let same : calls ≡ told = cc (e) in
        subst (λ (c : Call). IsWithin (at (under_way c ∷ (calls ++ before))) (changed n Doubts tried)) (sym is)
        (doubted_more 0 n (at (calls ++ before)) tried (some_of calls (length w.bytes) kept (subst (λ (cs : List Call). Writes offset w.bytes (length w.bytes) cs) (sym same) h)))
    sync_cut (other ∷ later) calls told call fault kept e h =
        let rest : later ++ call ∷ calls ≡ told = cc (e) in
        within_trans (at (under_way call ∷ (calls ++ before))) tried (changed n Doubts tried)
        (writes_cut later calls call (length w.bytes) kept (subst (λ (cs : List Call). Writes offset w.bytes (length w.bytes) cs) (sym rest) h)) (undoubted n tried)

    -- PLAIN WRITES AND WRITES WITH FUA, AS THEY END

    module _ (is : w.kind ≡ Write) where
      plain_done : (number : ℕ) (x : List ℕ) (calls : List Call) → w.through ≡ false → IsKept size content (calls ++ before) → WritesPlainly {X = List ℕ} offset w.bytes (Ok x) calls
          → IsWithin (at (calls ++ before)) (changed_by n (act_changes size number w i) (at before))
      plain_done number x calls plain kept h = subst (λ (y : Held). IsWithin (at (calls ++ before)) y) (sym (act_writes size number n w i (at before) is plain)) (writes calls kept h)

      through_done : (number : ℕ) (x : List ℕ) (calls : List Call) → w.through ≡ true → IsKept size content (calls ++ before) → WritesThrough {X = List ℕ} offset w.bytes (Ok x) calls
          → IsWithin (at (calls ++ before)) (changed_by n (act_changes size number w i) (at before))
      through_done number x calls past kept h =
          let kept' : IsKept size content (Sync None ∷ (h.told ++ before)) = subst (λ (cs : List Call). IsKept size content (cs ++ before)) h.after kept in
          subst (λ (cs : List Call). IsWithin (at (cs ++ before)) (changed_by n (act_changes size number w i) (at before))) (sym h.after)
          (subst (λ (y : Held). IsWithin (synced (at (h.told ++ before))) y) (sym (act_secures size number n w i (at before) is past)) (writes_synced h.told kept'.1 h.writes))

      as_plain : (a : Held) → w.through ≡ false → IsWithin a tried → IsWithin a (changed_by n (fault_changes size w i) (at before))
      as_plain a plain p = subst (λ (y : Held). IsWithin a y) (sym (fault_writes size n w i (at before) is plain)) p

      as_through : (a : Held) → w.through ≡ true → IsWithin a (changed n Doubts tried) → IsWithin a (changed_by n (fault_changes size w i) (at before))
      as_through a past p = subst (λ (y : Held). IsWithin a y) (sym (fault_secures size n w i (at before) is past)) p

      in_doubt : (a : Held) → IsWithin a tried → IsWithin a (changed n Doubts tried)
      in_doubt a p = within_trans a tried (changed n Doubts tried) p (undoubted n tried)

      through_failed : (completion : Completion) (calls : List Call) → w.through ≡ true → IsKept size content (calls ++ before) → WritesThrough {X = List ℕ} offset w.bytes (Err completion) calls
          → IsWithin (at (calls ++ before)) (changed_by n (fault_changes size w i) (at before))
      through_failed completion calls past kept (inl h) = as_through (at (calls ++ before)) past (in_doubt (at (calls ++ before)) (stops calls h.0 kept h.2))
      through_failed completion calls past kept (inr h) =
          let kept' : IsKept size content (Sync (Some h.0) ∷ (h.2.told ++ before)) = subst (λ (cs : List Call). IsKept size content (cs ++ before)) h.2.after kept in
          subst (λ (cs : List Call). IsWithin (at (cs ++ before)) (changed_by n (fault_changes size w i) (at before))) (sym h.2.after)
          (as_through (changed 0 Doubts (at (h.2.told ++ before))) past (doubted_more 0 n (at (h.2.told ++ before)) tried (some_of h.2.told (length w.bytes) kept'.1 h.2.writes)))

      pub write_done : (through : Bool) (number : ℕ) (x : List ℕ) (calls : List Call) → w.through ≡ through → IsKept size content (calls ++ before) → WritesBytes {X = List ℕ} through offset w.bytes (Ok x) calls
          → IsWithin (at (calls ++ before)) (changed_by n (act_changes size number w i) (at before))
      write_done false number x calls same kept h = plain_done number x calls same kept h
      write_done true number x calls same kept h = through_done number x calls same kept h

      pub write_failed : (through : Bool) (completion : Completion) (calls : List Call) → w.through ≡ through → IsKept size content (calls ++ before) → WritesBytes {X = List ℕ} through offset w.bytes (Err completion) calls
          → IsWithin (at (calls ++ before)) (changed_by n (fault_changes size w i) (at before))
      write_failed false completion calls same kept h = as_plain (at (calls ++ before)) same (stops calls h.0 kept h.2)
      write_failed true completion calls same kept h = through_failed completion calls same kept h

      through_cut : (result : Result (List ℕ) Completion) (later calls : List Call) (call : Call) → IsKept size content (calls ++ before) → WritesThrough {X = List ℕ} offset w.bytes result (later ++ call ∷ calls)
          → IsWithin (at (under_way call ∷ (calls ++ before))) (changed n Doubts tried)
      through_cut (Ok x) later calls call kept h = sync_cut later calls h.told call None kept h.after h.writes
      through_cut (Err completion) later calls call kept (inl h) = in_doubt (at (under_way call ∷ (calls ++ before))) (stops_cut later calls call h.0 kept h.2)
      through_cut (Err completion) later calls call kept (inr h) = sync_cut later calls h.2.told call (Some h.0) kept h.2.after h.2.writes

      plain_cut : (result : Result (List ℕ) Completion) (later calls : List Call) (call : Call) → IsKept size content (calls ++ before) → WritesPlainly {X = List ℕ} offset w.bytes result (later ++ call ∷ calls)
          → IsWithin (at (under_way call ∷ (calls ++ before))) tried
      plain_cut (Ok x) later calls call kept h = writes_cut later calls call (length w.bytes) kept h
      plain_cut (Err completion) later calls call kept h = stops_cut later calls call h.0 kept h.2

      pub write_cut : (through : Bool) (result : Result (List ℕ) Completion) (later calls : List Call) (call : Call) → w.through ≡ through → IsKept size content (calls ++ before)
          → WritesBytes {X = List ℕ} through offset w.bytes result (later ++ call ∷ calls) → IsWithin (at (under_way call ∷ (calls ++ before))) (changed_by n (fault_changes size w i) (at before))
      write_cut false result later calls call same kept h = as_plain (at (under_way call ∷ (calls ++ before))) same (plain_cut result later calls call kept h)
      write_cut true result later calls call same kept h = as_through (at (under_way call ∷ (calls ++ before))) same (through_cut result later calls call kept h)
