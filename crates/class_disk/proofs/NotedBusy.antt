-- Of a request, no more busy returns are noted than its parts were sent again, and one for each part that came back and was not.
use Rattle.std.proofs.Common.{◌≡◌, ◌<◌, ◌≤◌, ℕ, zero, suc, ◌+◌, List, [], ◌∷◌, refl, arith, map, replicate}
use Rattle.class_disk.proofs.Common.{Rules, Back, Progress, Outcome, Note, AreCut, begins_back, noted_busy, payload_in, restarts_of, places_of, marks_left, busy_left, note, note_by, Payload}
use Rattle.class_disk.specs.declared.parts.Part.{Part}
use Rattle.class_disk.specs.declared.parts.Progress.TheVariants.{Ready, Below, Ended as HasEnded}
use Rattle.class_disk.specs.declared.parts.Outcome.TheVariants.{Good, Failed as IsBad, Busy, Withdrawn}
use Rattle.class_disk.proofs.Restarting.{noted_back}

begins_so : (n : ℕ) → 0 < n → begins_back (replicate n Back) ≡ 1
begins_so zero some = absurd (omega arith)
begins_so (suc n) some = refl

module _ (rules : Rules) where
  busy_shown : (part : Part) (payload : Payload) (outcome : Outcome) → 0 < places_of rules part → busy_left outcome ≤ begins_back (marks_left rules part payload outcome)
  busy_shown part payload Good some = omega arith
  busy_shown part payload (IsBad status) some = omega arith
  busy_shown part payload (Busy status) some = let e = begins_so (places_of rules part) some in omega (arith, e)
  busy_shown part payload (Withdrawn status) some = omega arith

  one_noted : (part : Part) (progress : Progress) (notes : List Note) (rest : ℕ) → 0 < places_of rules part → noted_busy notes ≤ noted_back notes + rest
      → noted_busy (note_by rules part progress ∷ notes) ≤ noted_back (note_by rules part progress ∷ notes) + (part.restarts + rest)
  one_noted part (Ready place) notes rest some behind = omega (arith, behind)
  one_noted part (Below number spot) notes rest some behind = omega (arith, behind)
  one_noted part (HasEnded ended) notes rest some behind = let e = busy_shown part (payload_in ended.packet) ended.outcome some in omega (arith, behind, e)

  pub noted_few : (parts : List Part) → AreCut rules.max_transfer (map (places_of rules) parts) → noted_busy (map (note rules) parts) ≤ noted_back (map (note rules) parts) + restarts_of parts
  noted_few [] cut = omega arith
  noted_few (part ∷ parts) (some, short, whole, rest) = one_noted part part.progress (map (note rules) parts) (restarts_of parts) some (noted_few parts rest)
