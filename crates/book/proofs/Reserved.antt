-- Room in the journal, and a piece that made no entry.
use Rattle.book.proofs.Common.{◌≡◌, inl, inr, ℕ, Option, Some, None, Result, Ok, Err, refl, sym, ap, subst, MatchBool, MatchOption, Extent, Completion, Kind, Srb, IsArmed, AdapterView, Event, bytes_of, kind_asked, InsufficientResources, Reply, Refused, Acts, Admits, GainsRoom, JournalView, Releases, HasNone, is_opened, IsLeft, KeepsRoom, MakesRoom, Transfers}

module _ (number : ℕ) (event : Event) (extent : Extent) (max_transfer : ℕ) (old : JournalView) where
  pub none_made : kind_asked event ≡ None → MakesRoom number event extent max_transfer old old
  none_made none = subst (λ (k : Option Kind). MatchOption k (old ≡ old) (λ kind. Admits old (record { request = number; kind = kind; extent = extent; max_transfer = max_transfer }) old)) (sym none) refl

  pub one_made : (kind : Kind) (new : JournalView) → kind_asked event ≡ Some kind → Admits old (record { request = number; kind = kind; extent = extent; max_transfer = max_transfer }) new
      → MakesRoom number event extent max_transfer old new
  one_made kind new is admits = subst (λ (k : Option Kind). MatchOption k (new ≡ old) (λ kind. Admits old (record { request = number; kind = kind; extent = extent; max_transfer = max_transfer }) new)) (sym is) admits

  pub room_kept : (n : ℕ) (most : ℕ) (mid new : JournalView) (reply : Reply) → number ≡ n → max_transfer ≡ most → MakesRoom number event extent max_transfer old mid → MatchBool (is_opened reply) (new ≡ mid) (Releases mid number new)
      → KeepsRoom n event extent most old reply new
  room_kept n most mid new reply is_number is_most makes keeps =
      subst (λ (k : ℕ). KeepsRoom k event extent most old reply new) is_number
      (subst (λ (k : ℕ). KeepsRoom number event extent k old reply new) is_most (inl (record { reserved = mid; makes = makes; keeps = keeps })))

  pub room_lacked : (n most : ℕ) (new : JournalView) (reply : Reply) → reply ≡ Refused InsufficientResources (bytes_of event) → IsLeft old new → KeepsRoom n event extent most old reply new
  room_lacked n most new reply replies left = inr (record { replies = replies; left = left })

pub gains_left : (old new : JournalView) → GainsRoom old new → IsLeft old new
gains_left old new gains = record {
  entered = ap (λ (j : JournalView). j.entered) gains.after;
  slots = ap (λ (j : JournalView). j.slots) gains.after;
  reservations = ap (λ (j : JournalView). j.reservations) gains.after;
}

-- A PIECE THAT MADE NO ENTRY

module _ (view : AdapterView) (tag piece : ℕ) (srb : Srb) (old new : JournalView) (may : IsArmed view tag piece srb) where
  pub acted : (done : Result ℕ Completion) (number : ℕ) → done ≡ Ok number → Acts old tag piece done new → Transfers view tag old None new
  acted done number is acts = inr (piece, srb, may, inl (number, subst (λ (d : Result ℕ Completion). Acts old tag piece d new) is acts))

  pub failed : (done : Result ℕ Completion) (completion : Completion) → done ≡ Err completion → Acts old tag piece done new → Transfers view tag old (Some completion) new
  failed done completion is acts = (piece, srb, may, subst (λ (d : Result ℕ Completion). Acts old tag piece d new) is acts)

  pub not_armed : HasNone old.slots tag piece → new ≡ old → Transfers view tag old None new
  not_armed none same = inr (piece, srb, may, inr (none, same))
