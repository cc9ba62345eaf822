-- The parts that a packet leaves behind.
use Rattle.std.proofs.Common.{◌≡◌, ◌<◌, ℕ, suc, List, [], ◌∷◌, ◌++◌, refl, sym, ◌∙◌, ap, subst, arith, length, take, drop, get_or}
use Rattle.std.specs.Prelude.{All, slice_set}
use Rattle.class_disk.proofs.Common.{take-append_seam, All-nil, All-cons, All-head, All-tail, Request, Room, whole_for, Progress}
use Rattle.class_disk.specs.declared.parts.Part.{Part}
use Rattle.class_disk.specs.declared.parts.Progress.TheVariants.{Ready, Below, Ended as HasEnded}
use Rattle.class_disk.specs.inside.Parts.{ticket_by, tickets_of, IsLeftBy, IsLeft, AreLeft}
use Rattle.class_disk.proofs.EndedParts.{IsEndedPart}

-- each part as it was
left_by : (p : Progress) → IsLeftBy p p
left_by (Ready place) = refl
left_by (Below number spot) = refl
left_by (HasEnded ended) = (ended, refl, refl)

pub left_same : (parts : List Part) → AreLeft parts parts
left_same [] = tt
left_same (part ∷ parts) = (record { request = refl; progress = left_by part.progress }, left_same parts)

left_long : (was now : List Part) → AreLeft was now → length now ≡ length was
left_long [] [] h = refl
left_long [] (part ∷ parts) h = absurd h
left_long (part ∷ parts) [] h = absurd h
left_long (part ∷ parts) (left ∷ rest) h = ap suc (left_long parts rest h.1)

-- written over what was there
pub left_whole : (was now : List Part) (len : ℕ) → len ≡ length was → AreLeft was now → AreLeft was (take len (now ++ drop (length now) was))
left_whole was now len is h =
    subst (AreLeft was) (sym (ap (λ n. take n (now ++ drop (length now) was)) (is ∙ sym (left_long was now h)) ∙ take-append_seam now (drop (length now) was))) h

-- the first without its buffer
pub left_first : (parts : List Part) (found now : Part) → 0 < length parts → IsLeft (get_or parts 0 found) now → AreLeft parts (slice_set parts 0 now)
left_first [] found now some h = absurd (omega (arith, some))
left_first (part ∷ parts) found now some h = (h, left_same parts)

ticket_left : (r : Request) (was now : Progress) → IsLeftBy was now → ticket_by r now ≡ ticket_by r was
ticket_left r (Ready place) now h = ap (ticket_by r) h
ticket_left r (Below number spot) now h = ap (ticket_by r) h
ticket_left r (HasEnded ended) now h = ap (ticket_by r) h.1 ∙ ap (λ (room : Room). record { spot = room.spot; reserved = whole_for r } ∷ []) h.2

pub tickets_left : (was now : List Part) → AreLeft was now → tickets_of now ≡ tickets_of was
tickets_left [] [] h = refl
tickets_left [] (part ∷ parts) h = absurd h
tickets_left (part ∷ parts) [] h = absurd h
tickets_left (part ∷ parts) (left ∷ rest) h =
    ap (λ r. ticket_by r left.progress ++ tickets_of rest) h.0.request ∙ ap (λ ts. ts ++ tickets_of rest) (ticket_left part.request part.progress left.progress h.0.progress)
    ∙ ap (λ ts. ticket_by part.request part.progress ++ ts) (tickets_left parts rest h.1)

ended_left_part : (was now : Part) → IsLeft was now → IsEndedPart was → IsEndedPart now
ended_left_part was now h e = by (subst (λ p. IsLeftBy p now.progress) e.is h.progress)
  where
    by : IsLeftBy (HasEnded e.ended) now.progress → IsEndedPart now
    by is = record { ended = is.0; is = is.1 }

pub ended_left_parts : (was now : List Part) → AreLeft was now → All IsEndedPart was → All IsEndedPart now
ended_left_parts [] [] h all = All-nil IsEndedPart
ended_left_parts [] (part ∷ parts) h all = absurd h
ended_left_parts (part ∷ parts) [] h all = absurd h
ended_left_parts (part ∷ parts) (left ∷ rest) h all =
    All-cons IsEndedPart left rest (ended_left_part part left h.0 (All-head IsEndedPart part parts all)) (ended_left_parts parts rest h.1 (All-tail IsEndedPart part parts all))
