-- What a sector holds after some changes, by hand.
use Rattle.std.specs.Prelude.{◌≡◌, ℕ, true, false, List, [], ◌∷◌}
use Rattle.srb.specs.Fate.{Fresh, Faulted}
use Rattle.srb.specs.declared.Kind.TheVariants.{Read, Write, Flush}
use Rattle.loss.specs.Held.{Puts, Secures, Tries, Syncs, Doubts, Held, IsOneOf, Work, act_changes, changed, fault_changes, return_changes, left, surely}

abbrev pub old : List ℕ
old = 9 ∷ 9 ∷ []

abbrev pub one : List ℕ
one = 1 ∷ 1 ∷ []

abbrev pub two : List ℕ
two = 2 ∷ 2 ∷ []

-- before piece 5 starts, of that sector
abbrev pub start : Held
start = surely old

pub record AreHeldByHand : Type 0 where
  -- a write is read, and a loss may take it back
  pub written : changed 5 (Puts one) start ≡ record { now = one ∷ []; older = record { value = old; behind = 5 } ∷ [] }
  pub written_left : left (changed 5 (Puts one) start) ≡ one ∷ old ∷ []
  -- with FUA it is certain
  pub secured : changed 5 (Secures one) start ≡ surely one
  -- a flush that started behind it makes it certain
  pub flushed : changed 6 (Syncs 5) (changed 5 (Puts one) start) ≡ surely one
  -- one that started before it doesn't
  pub flushed_early : changed 5 (Syncs 4) (changed 5 (Puts one) start) ≡ changed 5 (Puts one) start
  -- each value since the last flush may be left
  pub twice : left (changed 6 (Puts two) (changed 5 (Puts one) start)) ≡ two ∷ old ∷ one ∷ []
  -- a flush that started between two writes leaves either
  pub between : left (changed 7 (Syncs 5) (changed 6 (Puts two) (changed 5 (Puts one) start))) ≡ two ∷ one ∷ []
  -- so it is also where another, started before both, ends later
  pub earlier_later : left (changed 7 (Syncs 4) (changed 7 (Syncs 5) (changed 6 (Puts two) (changed 5 (Puts one) start)))) ≡ two ∷ one ∷ []
  -- a write that failed may be there or not, also after a flush
  pub tried : changed 5 (Tries one) start ≡ record { now = old ∷ one ∷ []; older = [] }
  pub tried_flushed : left (changed 6 (Syncs 5) (changed 5 (Tries one) start)) ≡ old ∷ one ∷ []
  -- a sync that failed makes nothing certain, nor does the next flush; nor one that was at work
  pub doubted : left (changed 7 (Syncs 6) (changed 6 Doubts (changed 5 (Puts one) start))) ≡ one ∷ old ∷ []
  pub doubted_read : (changed 6 Doubts (changed 5 (Puts one) start)).now ≡ one ∷ old ∷ []
  pub doubted_at_work : left (changed 7 (Syncs 5) (changed 7 Doubts (changed 5 (Puts one) start))) ≡ one ∷ old ∷ []
  -- a write and a flush do
  pub mended : changed 8 (Syncs 7) (changed 7 (Puts two) (changed 6 Doubts (changed 5 (Puts one) start))) ≡ surely two
  -- what is certain stays so
  pub certain : changed 7 (Syncs 4) (changed 6 Doubts (surely one)) ≡ surely one

pub record AreRefutedByHand : Type 0 where
  -- a loss leaves no half of a sector, and nothing that was never there
  pub torn : IsOneOf (1 ∷ 9 ∷ []) (left (changed 5 (Puts one) start)) → ⊥
  pub never_written : IsOneOf two (left (changed 5 (Puts one) start)) → ⊥
  -- a read doesn't give what a loss alone may leave
  pub read_of_older : IsOneOf old (changed 5 (Puts one) start).now → ⊥
  -- nor a loss what was overwritten before a flush that is done started, or by a write with FUA
  pub behind_flush : IsOneOf old (left (changed 6 (Syncs 5) (changed 5 (Puts one) start))) → ⊥
  pub behind_through : IsOneOf old (left (changed 5 (Secures one) start)) → ⊥

-- a write of two sectors of two bytes, from sector 4 on
abbrev pub write : Work
write = record { kind = Write; through = false; extent = record { first = 4; count = 2 }; bytes = 1 ∷ 1 ∷ 2 ∷ 2 ∷ [] }

pub record AreChangedByHand : Type 0 where
  -- each of its sectors has its own bytes, and no other sector changes
  pub before : act_changes 2 7 write 3 ≡ []
  pub first : act_changes 2 7 write 4 ≡ Puts one ∷ []
  pub last : act_changes 2 7 write 5 ≡ Puts two ∷ []
  pub behind : act_changes 2 7 write 6 ≡ []
  pub through : act_changes 2 7 (record write { through = true }) 5 ≡ Secures two ∷ []
  -- a flush is of all sectors, a read of none
  pub flush : act_changes 2 7 (record write { kind = Flush }) 3 ≡ Syncs 7 ∷ []
  pub read : act_changes 2 7 (record write { kind = Read }) 4 ≡ []
  -- a failed write may have reached its sectors; with FUA all others are in doubt too
  pub failed : fault_changes 2 write 5 ≡ Tries two ∷ []
  pub failed_through : fault_changes 2 (record write { through = true }) 5 ≡ Tries two ∷ Doubts ∷ []
  pub failed_elsewhere : fault_changes 2 (record write { through = true }) 3 ≡ Doubts ∷ []
  -- so may a piece that came back bad and had neither acted nor failed
  pub came_back : return_changes 2 Fresh write 5 ≡ Tries two ∷ []
  pub came_back_later : return_changes 2 Faulted write 5 ≡ []
  pub failed_flush : fault_changes 2 (record write { kind = Flush }) 3 ≡ Doubts ∷ []
