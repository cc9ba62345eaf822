-- One receipt more.
use Rattle.host.proofs.Common.{ℕ, suc, ◌≤◌, List, [], ◌∷◌, ◌++◌, length, arith, slice_get_within, AllStand, TraceEntry}
use Rattle.host.specs.Receipts.{Receipt, IsCallOf, AreCalls, IsAnswerTo, AreAnswers, AreRising, AreBelow}

pub below_stand : (es : List TraceEntry) (cs : List Receipt) → AllStand es cs → AreBelow (length es) cs
below_stand es [] all = tt
below_stand es (c ∷ cs) all = (slice_get_within es c.0 c.1 all.0, below_stand es cs all.1)

pub below_more : (place more : ℕ) (cs : List Receipt) → AreBelow place cs → place ≤ more → AreBelow more cs
below_more place more [] all less = tt
below_more place more (c ∷ cs) all less = ((let b = all.0 in omega arith), below_more place more cs all.1 less)

pub calls_snoc : (client : ℕ) (cs : List Receipt) (place : ℕ) (e : TraceEntry) → AreCalls client cs → IsCallOf client e → AreCalls client (cs ++ (place, e) ∷ [])
calls_snoc client [] place e all one = (one, tt)
calls_snoc client (c ∷ cs) place e all one = (all.0, calls_snoc client cs place e all.1 one)

pub answers_snoc : (client : ℕ) (cs : List Receipt) (place : ℕ) (e : TraceEntry) → AreAnswers client cs → IsAnswerTo client e → AreAnswers client (cs ++ (place, e) ∷ [])
answers_snoc client [] place e all one = (one, tt)
answers_snoc client (c ∷ cs) place e all one = (all.0, answers_snoc client cs place e all.1 one)

pub rising_snoc : (from : ℕ) (cs : List Receipt) (place : ℕ) (e : TraceEntry) → AreRising from cs → AreBelow place cs → from ≤ place → AreRising from (cs ++ (place, e) ∷ [])
rising_snoc from [] place e all below less = (less, tt)
rising_snoc from (c ∷ cs) place e all below less = (all.0, rising_snoc (suc c.0) cs place e all.1 below.1 (let b = below.0 in omega arith))
