-- A sector that may hold more may hold more behind a write and behind a fault.
use Rattle.std.proofs.Common.{◌≡◌, ℕ, Bool, true, false, List, refl, sym, subst}
use Rattle.std.specs.Prelude.{if◌then◌else◌}
use Rattle.srb.specs.declared.Kind.{Kind}
use Rattle.srb.specs.declared.Kind.TheVariants.{Read, Write, Flush}
use Rattle.loss.specs.Held.{Puts, Secures, Doubts, Held, Work, act_changes, changed, changed_by, fault_changes, has, surely, value_at}
use Rattle.file_sessions.specs.Within.{IsWithin}
use Rattle.file_sessions.proofs.Within.{attempted, attempted_more, by_place, doubted_more, put_more, within_refl}
use Rattle.file_sessions.proofs.Works.{act_secures, act_writes, fault_flushes, fault_reads, fault_secures, fault_writes}

module _ (size n : ℕ) (w : Work) (i : ℕ) (a b : Held) (p : IsWithin a b) where
  abbrev v : List ℕ
  v = value_at size w i

  within_both : (x x' y y' : Held) → x ≡ x' → y ≡ y' → IsWithin x' y' → IsWithin x y
  within_both x x' y y' e e' q = subst (λ (z : Held). IsWithin z y) (sym e) (subst (λ (z : Held). IsWithin x' z) (sym e') q)

  write_by : (number : ℕ) (through : Bool) → w.through ≡ through → w.kind ≡ Write → IsWithin (changed_by n (act_changes size number w i) a) (changed_by n (act_changes size number w i) b)
  write_by number false plain is =
      within_both (changed_by n (act_changes size number w i) a) (if has w.extent i then changed n (Puts v) a else a) (changed_by n (act_changes size number w i) b) (if has w.extent i then changed n (Puts v) b else b)
      (act_writes size number n w i a is plain) (act_writes size number n w i b is plain) (by_place size w i IsWithin (has w.extent i) (changed n (Puts v) a) (changed n (Puts v) b) a b (put_more n n a b p v) p)
  write_by number true past is =
      within_both (changed_by n (act_changes size number w i) a) (if has w.extent i then changed n (Secures v) a else a) (changed_by n (act_changes size number w i) b) (if has w.extent i then changed n (Secures v) b else b)
      (act_secures size number n w i a is past) (act_secures size number n w i b is past) (by_place size w i IsWithin (has w.extent i) (surely v) (surely v) a b (within_refl (surely v)) p)

  pub writes_more : (number : ℕ) → w.kind ≡ Write → IsWithin (changed_by n (act_changes size number w i) a) (changed_by n (act_changes size number w i) b)
  writes_more number is = write_by number w.through refl is

  fault_by : (through : Bool) → w.through ≡ through → w.kind ≡ Write → IsWithin (changed_by n (fault_changes size w i) a) (changed_by n (fault_changes size w i) b)
  fault_by false plain is =
      within_both (changed_by n (fault_changes size w i) a) (attempted size w i n a) (changed_by n (fault_changes size w i) b) (attempted size w i n b)
      (fault_writes size n w i a is plain) (fault_writes size n w i b is plain) (attempted_more size w i n n a b p)
  fault_by true past is =
      within_both (changed_by n (fault_changes size w i) a) (changed n Doubts (attempted size w i n a)) (changed_by n (fault_changes size w i) b) (changed n Doubts (attempted size w i n b))
      (fault_secures size n w i a is past) (fault_secures size n w i b is past)
      (doubted_more n n (attempted size w i n a) (attempted size w i n b) (attempted_more size w i n n a b p))

  by_kind : (kind : Kind) → w.kind ≡ kind → IsWithin (changed_by n (fault_changes size w i) a) (changed_by n (fault_changes size w i) b)
  by_kind Read is = within_both (changed_by n (fault_changes size w i) a) a (changed_by n (fault_changes size w i) b) b (fault_reads size n w i a is) (fault_reads size n w i b is) p
  by_kind Write is = fault_by w.through refl is
  by_kind Flush is =
      within_both (changed_by n (fault_changes size w i) a) (changed n Doubts a) (changed_by n (fault_changes size w i) b) (changed n Doubts b)
      (fault_flushes size n w i a is) (fault_flushes size n w i b is) (doubted_more n n a b p)

  pub faults_more : IsWithin (changed_by n (fault_changes size w i) a) (changed_by n (fault_changes size w i) b)
  faults_more = by_kind w.kind refl
