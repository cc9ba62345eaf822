-- What is shown of a sector, and what of it is kept: an entry for each sight that says so.
use Rattle.std.proofs.Common.{◌≡◌, ◌≤◌, ℕ, ◌+◌, ◌==◌, Bool, true, false, List, [], ◌∷◌}
use Rattle.std.specs.Prelude.{if◌then◌else◌}
use Rattle.loss.specs.Held.{IsOneOf}
use Rattle.register_loss.specs.declared.What.{What}
use Rattle.register_loss.specs.declared.What.TheVariants.{Flush, Sync}
use Rattle.register_loss.specs.declared.Sight.{Sight}
use Rattle.register_loss.specs.declared.Sight.TheVariants.{Call, Elsewhere, Done, Failed, Lost, Ended}
use Rattle.register_loss.specs.Schedules.{is_flush}

pub data Mark : Type 0 where
  -- a call that is no matter of the sector
  Other : (number : ℕ) → Mark
  -- a sync that will be done
  Secured : (number : ℕ) → Mark
  Called : (number : ℕ) (what : What) → Mark
  -- a flush with the call before it that is no matter of the sector
  Flushed : (number : ℕ) → Mark
  Ends : (keeps : Bool) (number : ℕ) (good : Bool) → Mark
  Begins : (lost : Bool) → Mark

abbrev pub end_sight : Bool → ℕ → Sight
end_sight true n = Done n
end_sight false n = Failed n

abbrev pub last_sight : Bool → Sight
last_sight true = Lost
last_sight false = Ended

-- all that is shown
abbrev pub full : List Mark → List Sight
full [] = []
full (Other n ∷ ms) = Elsewhere n ∷ full ms
full (Secured n ∷ ms) = Call n Sync ∷ full ms
full (Called n what ∷ ms) = Call n what ∷ full ms
full (Flushed n ∷ ms) = Elsewhere n ∷ Call n Flush ∷ full ms
full (Ends keeps n good ∷ ms) = end_sight good n ∷ full ms
full (Begins lost ∷ ms) = last_sight lost ∷ full ms

-- without syncs that will be done
abbrev pub mid : List Mark → List Sight
mid [] = []
mid (Other n ∷ ms) = Elsewhere n ∷ mid ms
mid (Secured n ∷ ms) = mid ms
mid (Called n what ∷ ms) = Call n what ∷ mid ms
mid (Flushed n ∷ ms) = Elsewhere n ∷ Call n Flush ∷ mid ms
mid (Ends keeps n good ∷ ms) = end_sight good n ∷ mid ms
mid (Begins lost ∷ ms) = last_sight lost ∷ mid ms

-- and without what is no matter of the sector
abbrev pub kept : List Mark → List Sight
kept [] = []
kept (Other n ∷ ms) = kept ms
kept (Secured n ∷ ms) = kept ms
kept (Called n what ∷ ms) = Call n what ∷ kept ms
kept (Flushed n ∷ ms) = Call n Flush ∷ kept ms
kept (Ends true n good ∷ ms) = end_sight good n ∷ kept ms
kept (Ends false n good ∷ ms) = kept ms
kept (Begins lost ∷ ms) = last_sight lost ∷ kept ms

-- the first end of this number in the session is a success
abbrev pub will_be_done : ℕ → List Sight → Bool
will_be_done n [] = false
will_be_done n (Call m what ∷ sights) = will_be_done n sights
will_be_done n (Elsewhere m ∷ sights) = will_be_done n sights
will_be_done n (Done m ∷ sights) = if m == n then true else will_be_done n sights
will_be_done n (Failed m ∷ sights) = if m == n then false else will_be_done n sights
will_be_done n (Lost ∷ sights) = false
will_be_done n (Ended ∷ sights) = false

abbrev pub AreSecured : List Mark → Type 0
AreSecured [] = Unit {0}
AreSecured (Secured n ∷ ms) = (will_be_done n (full ms) ≡ true) × AreSecured ms
AreSecured (Other n ∷ ms) = AreSecured ms
AreSecured (Called n what ∷ ms) = AreSecured ms
AreSecured (Flushed n ∷ ms) = AreSecured ms
AreSecured (Ends keeps n good ∷ ms) = AreSecured ms
AreSecured (Begins lost ∷ ms) = AreSecured ms

-- calls count up from this number, and the ends that are left out are of none of these that were called
abbrev pub AreNumbered : ℕ → List ℕ → List Mark → Type 0
AreNumbered next seen [] = Unit {0}
AreNumbered next seen (Other n ∷ ms) = (next ≤ n) × AreNumbered (n + 1) seen ms
AreNumbered next seen (Secured n ∷ ms) = (next ≡ n + 1) × AreNumbered next seen ms
AreNumbered next seen (Called n what ∷ ms) = (next ≡ n + 1) × (is_flush what ≡ false) × AreNumbered next (n ∷ seen) ms
AreNumbered next seen (Flushed n ∷ ms) = (next ≤ n) × AreNumbered (n + 1) (n ∷ seen) ms
AreNumbered next seen (Ends true n good ∷ ms) = AreNumbered next seen ms
AreNumbered next seen (Ends false n good ∷ ms) = (IsOneOf n seen → ⊥) × AreNumbered next seen ms
AreNumbered next seen (Begins lost ∷ ms) = AreNumbered 1 [] ms
