-- The schedules by hand.
use Rattle.std.proofs.Common.{◌≡◌, inl, inr, ℕ, true, false, List, [], ◌∷◌, refl, eq-eqb}
use Rattle.loss.specs.Held.{Puts, Tries, Doubts, surely}
use Rattle.register_loss.specs.declared.What.TheVariants.{Read, Write, Flush}
use Rattle.register_loss.specs.declared.Turn.TheVariants.{Acts, Fails}
use Rattle.register_loss.specs.declared.Sight.TheVariants.{Call, Done, Failed, Lost}
use Rattle.register_loss.specs.Schedules.{Event, Leads, Register, Seen, Unseen, Turns, opening, settled}
use Rattle.register_loss.specs.Worked.{AreChangedByHand, AreRefutedByHand, AreScheduledByHand, called, write, written, taken_back, flushed, doubted}

abbrev at_two : ℕ → Register
at_two v = record { next = 2; held = surely v; waits = [] }

acts : Turns Acts called written
acts = record { of = write; waits = inl refl; change = Puts 5; may = refl; after = refl }

pub by_hand : AreChangedByHand
by_hand = record {
  call = refl;
  elsewhere = refl;
  act = acts;
  fault = record { of = write; waits = inl refl; change = Tries 5; may = refl; after = refl };
  given = refl;
  waiting = refl;
  lost = refl;
  ended = refl;
  flush = refl;
  early = refl;
  failed = refl;
}

-- a session of one read behind a loss, or behind others
read_back : (v : ℕ) → Leads (opening v) (Seen (Call 1 (Read v)) ∷ Seen (Done 1) ∷ []) (at_two v)
read_back v = (at_two v, inl (settles v), (at_two v, inl refl, refl))
  where
    settles : (v : ℕ) → at_two v ≡ settled 2 (surely v) (record { number = 1; what = Read v; failed = false } ∷ [])
    settles v = rw (eq-eqb v v refl) refl

abbrev flush_called : Register
flush_called = record { next = 3; held = written.held; waits = record { number = 2; what = Flush; failed = false } ∷ [] }

abbrev flush_failed : Register
flush_failed = record { next = 3; held = record { now = 5 ∷ 9 ∷ []; older = [] }; waits = record { number = 2; what = Flush; failed = true } ∷ [] }

abbrev doubtful : ℕ → Register
doubtful next = record { next = next; held = record { now = 5 ∷ 9 ∷ []; older = [] }; waits = [] }

-- a write succeeds
wrote : (events : List Event) (r : Register) → Leads written events r → Leads (opening 9) (Seen (Call 1 (Write 5 false)) ∷ Unseen Acts ∷ Seen (Done 1) ∷ events) r
wrote events r rest = (called, inl refl, (written, acts, (written, inl refl, rest)))

doubts : Turns Fails flush_called flush_failed
doubts = record { of = record { number = 2; what = Flush; failed = false }; waits = inl refl; change = Doubts; may = refl; after = refl }

reads_both : Leads (doubtful 3) (Seen (Call 3 (Read 9)) ∷ Seen (Done 3) ∷ Seen (Call 4 (Read 5)) ∷ Seen (Done 4) ∷ []) (doubtful 5)
reads_both = (doubtful 4, inl refl, (doubtful 4, inl refl, (doubtful 5, inl refl, (doubtful 5, inl refl, refl))))

pub are_scheduled : AreScheduledByHand
are_scheduled = record {
  taken_back = record {
    events = Seen (Call 1 (Write 5 false)) ∷ Unseen Acts ∷ Seen (Done 1) ∷ Seen Lost ∷ Seen (Call 1 (Read 9)) ∷ Seen (Done 1) ∷ [];
    register = at_two 9;
    in_turn = wrote (Seen Lost ∷ Seen (Call 1 (Read 9)) ∷ Seen (Done 1) ∷ []) (at_two 9) (opening 9, inr (inl refl), read_back 9);
    seen = refl;
  };
  flushed = record {
    events = Seen (Call 1 (Write 5 false)) ∷ Unseen Acts ∷ Seen (Done 1) ∷ Seen (Call 2 Flush) ∷ Seen (Done 2) ∷ Seen Lost ∷ Seen (Call 1 (Read 5)) ∷ Seen (Done 1) ∷ [];
    register = at_two 5;
    in_turn = wrote (Seen (Call 2 Flush) ∷ Seen (Done 2) ∷ Seen Lost ∷ Seen (Call 1 (Read 5)) ∷ Seen (Done 1) ∷ []) (at_two 5)
        (flush_called, inl refl, (record { next = 3; held = surely 5; waits = [] }, inl refl, (opening 5, inl refl, read_back 5)));
    seen = refl;
  };
  doubted = record {
    events = Seen (Call 1 (Write 5 false)) ∷ Unseen Acts ∷ Seen (Done 1) ∷ Seen (Call 2 Flush) ∷ Unseen Fails ∷ Seen (Failed 2) ∷ Seen (Call 3 (Read 9)) ∷ Seen (Done 3) ∷ Seen (Call 4 (Read 5)) ∷ Seen (Done 4) ∷ [];
    register = doubtful 5;
    in_turn = wrote (Seen (Call 2 Flush) ∷ Unseen Fails ∷ Seen (Failed 2) ∷ Seen (Call 3 (Read 9)) ∷ Seen (Done 3) ∷ Seen (Call 4 (Read 5)) ∷ Seen (Done 4) ∷ []) (doubtful 5)
        (flush_called, inl refl, (flush_failed, doubts, (doubtful 3, inl refl, reads_both)));
    seen = refl;
  };
}

pub are_refuted : AreRefutedByHand
are_refuted = record { undone = refl; tried = refl; unmet = refl; flush = refl; sync = refl }
