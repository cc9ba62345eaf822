-- A call is an event, and leaves what a state shows of a sector in order.
use Rattle.std.proofs.Common.{◌≡◌, ◌<◌, ◌≤◌, ◌⊎◌, inl, inr, ℕ, ◌+◌, true, false, List, ◌∷◌, Option, Some, None, refl, sym, ◌∙◌, ap, subst, arith, get_or, replicate}
use Rattle.std.specs.Prelude.{IsNone, All, nat_le}
use Rattle.std.proofs.lemmas.Bool.Decides.{leb_tells}
use Rattle.std.proofs.lemmas.List.{length-replicate, get_or-replicate}
use Rattle.std.proofs.lemmas.List.Elements.{All-cons, All-weaker}
use Rattle.ntstatus.specs.declared.NtStatus.{NtStatus}
use Rattle.sector.proofs.Splicing.{AllAt}
use Rattle.machine.specs.declared.ClientRequest.{ClientRequest}
use Rattle.machine.specs.declared.Label.TheVariants.{Call}
use Rattle.machine.specs.Rules.{Rules, is_in_bounds, place_count}
use Rattle.machine.specs.State.{Untouched, OpenRequest, Piece, State}
use Rattle.machine.specs.Calling.{refusal, new_request, Admits, Calls}
use Rattle.machine.specs.Numbers.{IsGiven}
use Rattle.machine.proofs.Places.{IsTakenIn, taken_in}
use Rattle.machine_laws.specs.EndLaws.{HasOtherNumber}
use Rattle.machine_laws.proofs.Sound.{IsSound}
use Rattle.machine_laws.proofs.Success.{refused_nowhere}
use Rattle.history_laws.proofs.Calling.{bounds_of}
use Rattle.loss.specs.Sessions.{Told}
use Rattle.history_loss.specs.Schedules.{Event, Seen, above, next_number, IsIdle, IsNoAnswer, IsNoEffect, IsNoFailure, IsOpen}
use Rattle.history_loss.proofs.Mirroring.{Ending, IsMarkFor, IsMirrored, IsFateOf, IsFollowed, IsFilled, IsBelow, Mirrors, Mirrors-same, newest, below_more, below_no_answer, below_no_effect, below_no_failure, requests_seen, pieces_seen, none_owed}

pub above_same : (n m : ℕ) → m ≡ n → above n m ≡ n + 1
above_same n m e = by_order (leb_tells m n)
  where
    by_order : ((nat_le m n ≡ true) × (m ≤ n)) ⊎ ((nat_le m n ≡ false) × (n < m)) → above n m ≡ n + 1
    by_order (inl low) = rw low.0 refl
    by_order (inr high) = let more = high.1 in absurd (omega arith)

module _ (rules : Rules) (i : ℕ) (past : List Event) (E : Ending) where
  -- a call with a number that no event has is open
  newly_open : (n : ℕ) (q : ClientRequest) → All (IsBelow n) past → IsOpen (Seen (Told (Call n q)) ∷ past) n q
  newly_open n q below = record {
    called = newest (Seen (Told (Call n q))) past;
    awaits = All-cons (IsNoAnswer n) (Seen (Told (Call n q))) past tt (All-weaker (IsBelow n) (IsNoAnswer n) (below_no_answer n) past below);
  }

  newly_idle : (n : ℕ) (q : ClientRequest) (k : ℕ) → All (IsBelow n) past → IsIdle rules i (Seen (Told (Call n q)) ∷ past) n q k
  newly_idle n q k below = record {
    effect = λ at. All-cons (IsNoEffect n) (Seen (Told (Call n q))) past tt (All-weaker (IsBelow n) (IsNoEffect n) (below_no_effect n) past below);
    failure = All-cons (IsNoFailure n k) (Seen (Told (Call n q))) past tt (All-weaker (IsBelow n) (IsNoFailure n k) (below_no_failure n k) past below);
  }

  new_mirrored : (s : State) (n : ℕ) (q : ClientRequest) → refusal rules s q ≡ None → All (IsBelow n) past → IsMirrored rules i (Seen (Told (Call n q)) ∷ past) E (new_request rules s n q)
  new_mirrored s n q admitted below =
      let taken : IsTakenIn rules s q = taken_in rules s q admitted in
      record {
        is_open = newly_open n q below;
        admitted = record { known = taken.known; in_bounds = λ t. bounds_of q.kind (is_in_bounds rules q) t taken.in_bounds };
        marks = untouched (place_count rules q);
      }
    where
      untouched : (places : ℕ) → AllAt (IsMarkFor rules i (Seen (Told (Call n q)) ∷ past) E n q) (replicate places Untouched)
      untouched places k d within = rw (get_or-replicate places k Untouched d (rw (← (length-replicate places Untouched)) within)) (newly_idle n q k below)

  -- no piece out is of the new request
  new_followed : (s : State) (n : ℕ) (q : ClientRequest) → n ≡ s.next_request → IsSound rules s → All (IsFollowed rules i (Seen (Told (Call n q)) ∷ past) E s.requests) s.pieces
      → All (IsFollowed rules i (Seen (Told (Call n q)) ∷ past) E (new_request rules s n q ∷ s.requests)) s.pieces
  new_followed s n q next sound followed k d low =
      let piece : Piece = get_or s.pieces k d in
      let given : piece.owner < s.next_request = (sound.1.pieces k d low).given in
      All-cons (IsFateOf rules i (Seen (Told (Call n q)) ∷ past) E piece) (new_request rules s n q) s.requests (λ e. absurd (apart given e)) (followed k d low)
    where
      apart : {owner : ℕ} → owner < s.next_request → n ≡ owner → ⊥
      apart low e = absurd (omega arith)

  Mirrors-Admits : (s : State) (n : ℕ) (q : ClientRequest) (s' : State) → n ≡ s.next_request → IsSound rules s → All IsFilled s.pieces → IsNone s.owed → Mirrors rules i past E s
      → (answer : Option NtStatus) → refusal rules s q ≡ answer → Admits rules s n q answer s' → Mirrors rules i (Seen (Told (Call n q)) ∷ past) E s'
  Mirrors-Admits s n q s' next sound filled free m answer is_answer h = by_answer answer is_answer h
    where
      below : All (IsBelow n) past
      below = subst (λ next'. All (IsBelow next') past) (sym next) m.given

      more : All (IsBelow (n + 1)) (Seen (Told (Call n q)) ∷ past)
      more = All-cons (IsBelow (n + 1)) (Seen (Told (Call n q))) past (omega arith) (All-weaker (IsBelow n) (IsBelow (n + 1)) (below_more n (n + 1) (omega arith)) past below)

      old : All (IsMirrored rules i (Seen (Told (Call n q)) ∷ past) E) s.requests
      old = requests_seen rules i E E (Call n q) past s.requests (λ k d low from h. h) m.requests (λ k d low. tt)

      followed : All (IsFollowed rules i (Seen (Told (Call n q)) ∷ past) E s.requests) s.pieces
      followed = pieces_seen rules i E E (Call n q) past s.requests s.pieces (λ k d low from h. h) filled m.pieces

      other : (o : OpenRequest) → IsGiven s.next_request o → HasOtherNumber n o
      other o low = λ e. absurd (omega arith)

      by_answer : (answer : Option NtStatus) → refusal rules s q ≡ answer → Admits rules s n q answer s' → Mirrors rules i (Seen (Told (Call n q)) ∷ past) E s'
      by_answer None e a = Mirrors-same rules i (Seen (Told (Call n q)) ∷ past) E s' _ a.after (record {
        given = more;
        next = above_same n (next_number past) (m.next ∙ sym next);
        requests = All-cons (IsMirrored rules i (Seen (Told (Call n q)) ∷ past) E) (new_request rules s n q) s.requests (new_mirrored s n q e below) old;
        pieces = new_followed s n q next sound followed;
        owed = none_owed rules i (Seen (Told (Call n q)) ∷ past) E (new_request rules s n q ∷ s.requests) s.owed free;
      })
      by_answer (Some status) e a = Mirrors-same rules i (Seen (Told (Call n q)) ∷ past) E s' _ a.after (record {
        given = more;
        next = above_same n (next_number past) (m.next ∙ sym next);
        requests = old;
        pieces = followed;
        owed = record {
          request = q;
          is_open = newly_open n q below;
          empty = λ success k low. refused_nowhere rules s q (e ∙ ap Some success) k low;
          apart = All-weaker (IsGiven s.next_request) (HasOtherNumber n) other s.requests sound.0.given;
        };
      })

  pub Mirrors-Calls : (s : State) (n : ℕ) (q : ClientRequest) (s' : State) → IsSound rules s → All IsFilled s.pieces → IsNone s.owed → Mirrors rules i past E s → Calls rules s n q s' → Mirrors rules i (Seen (Told (Call n q)) ∷ past) E s'
  Mirrors-Calls s n q s' sound filled free m h = Mirrors-Admits s n q s' h.next_number sound filled free m (refusal rules s q) refl h.admits
