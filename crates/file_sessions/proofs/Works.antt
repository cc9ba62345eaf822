-- What the act and the fault of a piece do to a sector, by its kind.
use Rattle.std.proofs.Common.{◌≡◌, ℕ, Bool, true, false, List, [], ◌∷◌, ◌++◌, refl}
use Rattle.std.specs.Prelude.{if◌then◌else◌}
use Rattle.srb.specs.declared.Kind.TheVariants.{Read, Write, Flush}
use Rattle.loss.specs.Held.{Change, Puts, Secures, Tries, Syncs, Doubts, Held, Work, act_changes, changed, changed_by, fault_changes, has, value_at}

abbrev pub Changes : Type 0
Changes = List Change

one_or_none : (n : ℕ) (b : Bool) (c : Change) (h : Held) → changed_by n (if b then c ∷ [] else []) h ≡ (if b then changed n c h else h)
one_or_none n true c h = refl
one_or_none n false c h = refl

one_and_more : (n : ℕ) (b : Bool) (c : Change) (more : Changes) (h : Held) → changed_by n ((if b then c ∷ [] else []) ++ more) h ≡ changed_by n more (if b then changed n c h else h)
one_and_more n true c more h = refl
one_and_more n false c more h = refl

module _ (size number n : ℕ) (w : Work) (i : ℕ) (h : Held) where
  pub act_reads : w.kind ≡ Read → changed_by n (act_changes size number w i) h ≡ h
  act_reads is = rw is refl

  pub act_flushes : w.kind ≡ Flush → changed_by n (act_changes size number w i) h ≡ changed n (Syncs number) h
  act_flushes is = rw is refl

  pub act_writes : w.kind ≡ Write → w.through ≡ false → changed_by n (act_changes size number w i) h ≡ (if has w.extent i then changed n (Puts (value_at size w i)) h else h)
  act_writes is plain = rw (is, plain) (one_or_none n (has w.extent i) (Puts (value_at size w i)) h)

  pub act_secures : w.kind ≡ Write → w.through ≡ true → changed_by n (act_changes size number w i) h ≡ (if has w.extent i then changed n (Secures (value_at size w i)) h else h)
  act_secures is past = rw (is, past) (one_or_none n (has w.extent i) (Secures (value_at size w i)) h)

module _ (size n : ℕ) (w : Work) (i : ℕ) (h : Held) where
  pub fault_reads : w.kind ≡ Read → changed_by n (fault_changes size w i) h ≡ h
  fault_reads is = rw is refl

  pub fault_flushes : w.kind ≡ Flush → changed_by n (fault_changes size w i) h ≡ changed n Doubts h
  fault_flushes is = rw is refl

  pub fault_writes : w.kind ≡ Write → w.through ≡ false → changed_by n (fault_changes size w i) h ≡ (if has w.extent i then changed n (Tries (value_at size w i)) h else h)
  fault_writes is plain = rw (is, plain) (one_and_more n (has w.extent i) (Tries (value_at size w i)) [] h)

  pub fault_secures : w.kind ≡ Write → w.through ≡ true → changed_by n (fault_changes size w i) h ≡ changed n Doubts (if has w.extent i then changed n (Tries (value_at size w i)) h else h)
  fault_secures is past = rw (is, past) (one_and_more n (has w.extent i) (Tries (value_at size w i)) (Doubts ∷ []) h)
