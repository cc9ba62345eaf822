-- A schedule up to a moment.
use Rattle.std.proofs.Common.{◌≡◌, inl, inr, ℕ, ◌+◌, List, [], ◌∷◌, ◌++◌, sym, subst, arith, length, take}
use Rattle.std.proofs.Math.Seq.{take-nil}
use Rattle.std.proofs.lemmas.Bool.{cases_lt}
use Rattle.std.proofs.lemmas.List.{length-append, take-append-le, take_all}
use Rattle.register.specs.Schedules.{Event, Seen, Effect, seen_of, IsSchedule, HasSchedule, PrefixesAreScheduled}

prefix_of : (start : ℕ) (past : List Event) (count : ℕ) → IsSchedule start past → HasSchedule start (take count (seen_of past))
prefix_of start [] count s = record { events = []; in_turn = tt; seen = sym (take-nil count) }
prefix_of start (Effect number value ∷ past) count s = prefix_of start past count s.1
prefix_of start (Seen x ∷ past) count s =
    elim (cases_lt count (length (seen_of past ++ x ∷ []))) [
      | inl low ↦
          let long : length (seen_of past ++ x ∷ []) ≡ length (seen_of past) + 1 = length-append (seen_of past) (x ∷ []) in
          let e : take count (seen_of past ++ x ∷ []) ≡ take count (seen_of past) = take-append-le count (seen_of past) (x ∷ []) (omega arith) in
          subst (HasSchedule start) (sym e) (prefix_of start past count s.1)
      | inr past_it ↦ record { events = Seen x ∷ past; in_turn = s; seen = sym (take_all count (seen_of past ++ x ∷ []) past_it) }
    ]

pub prefixes : PrefixesAreScheduled
prefixes start sights count h = subst (λ xs. HasSchedule start (take count xs)) h.seen (prefix_of start h.events count h.in_turn)
