-- A call is an event, and leaves what a state shows of a sector in order.
use Rattle.std.proofs.Common.{◌≡◌, ◌<◌, ℕ, ◌+◌, ◌&&◌, Bool, true, false, not, List, ◌∷◌, Option, Some, None, refl, sym, ◌∙◌, ap, subst, arith, get_or, replicate}
use Rattle.std.specs.Prelude.{IsNone, All}
use Rattle.std.proofs.lemmas.Bool.{not-false}
use Rattle.std.proofs.lemmas.List.{length-replicate, get_or-replicate}
use Rattle.std.proofs.lemmas.List.Elements.{All-cons, All-weaker}
use Rattle.ntstatus.specs.declared.NtStatus.{NtStatus}
use Rattle.sector.proofs.Splicing.{AllAt}
use Rattle.srb.specs.declared.Kind.{Kind}
use Rattle.srb.specs.declared.Kind.TheVariants.{Read, Write, Flush}
use Rattle.machine.specs.declared.ClientRequest.{ClientRequest}
use Rattle.machine.specs.declared.Label.TheVariants.{Call}
use Rattle.machine.specs.Rules.{Rules, is_transfer, is_in_bounds, place_count}
use Rattle.machine.specs.State.{Untouched, OpenRequest, Piece, State}
use Rattle.machine.specs.Calling.{refusal, new_request, Admits, Calls}
use Rattle.machine.specs.Numbers.{IsGiven}
use Rattle.machine.proofs.Places.{IsTakenIn, taken_in}
use Rattle.machine_laws.specs.EndLaws.{HasOtherNumber}
use Rattle.machine_laws.proofs.Sound.{IsSound}
use Rattle.machine_laws.proofs.Success.{refused_nowhere}
use Rattle.history_laws.specs.Schedules.{Event, Seen, IsNoAnswer, IsNoEffect, IsOpen}
use Rattle.history_laws.proofs.Mirroring.{IsMarkFor, IsMirrored, IsFateOf, IsFollowed, IsBelow, Mirrors, Mirrors-same, newest, below_more, below_no_answer, below_no_effect, requests_seen, pieces_seen, none_owed}

pub bounds_of : (kind : Kind) (b : Bool) → is_transfer kind ≡ true → (is_transfer kind && not b) ≡ false → b ≡ true
bounds_of Write b e h = not-false b h
bounds_of Read b e h = not-false b h
bounds_of Flush b e h = absurd (cc (e))

module _ (rules : Rules) (p i : ℕ) (start : List ℕ) (past : List Event) where
  -- a call with a number that no event has is open
  newly_open : (n : ℕ) (q : ClientRequest) → All (IsBelow n) past → IsOpen (Seen (Call n q) ∷ past) n q
  newly_open n q below = record {
    called = newest (Seen (Call n q)) past;
    awaits = All-cons (IsNoAnswer n) (Seen (Call n q)) past tt (All-weaker (IsBelow n) (IsNoAnswer n) (below_no_answer n) past below);
  }

  new_mirrored : (s : State) (n : ℕ) (q : ClientRequest) → refusal rules s q ≡ None → All (IsBelow n) past → IsMirrored rules p i (Seen (Call n q) ∷ past) (new_request rules s n q)
  new_mirrored s n q admitted below =
      let taken : IsTakenIn rules s q = taken_in rules s q admitted in
      let none : All (IsNoEffect n) (Seen (Call n q) ∷ past) =
      All-cons (IsNoEffect n) (Seen (Call n q)) past tt (All-weaker (IsBelow n) (IsNoEffect n) (below_no_effect n) past below) in
      record {
        is_open = newly_open n q below;
        known = taken.known;
        in_bounds = λ t. bounds_of q.kind (is_in_bounds rules q) t taken.in_bounds;
        marks = untouched none (place_count rules q);
      }
    where
      untouched : All (IsNoEffect n) (Seen (Call n q) ∷ past) → (places : ℕ) → AllAt (IsMarkFor rules p i (Seen (Call n q) ∷ past) n q) (replicate places Untouched)
      untouched none places k d within = rw (get_or-replicate places k Untouched d (rw (← (length-replicate places Untouched)) within)) (λ at. none)

  -- no piece out is of the new request
  new_followed : (s : State) (n : ℕ) (q : ClientRequest) → n ≡ s.next_request → IsSound rules s → All (IsFollowed rules p i (Seen (Call n q) ∷ past) s.requests) s.pieces
      → All (IsFollowed rules p i (Seen (Call n q) ∷ past) (new_request rules s n q ∷ s.requests)) s.pieces
  new_followed s n q next sound followed k d low =
      let piece : Piece = get_or s.pieces k d in
      let given : piece.owner < s.next_request = (sound.1.pieces k d low).given in
      All-cons (IsFateOf rules p i (Seen (Call n q) ∷ past) piece) (new_request rules s n q) s.requests (λ e. absurd (apart given e)) (followed k d low)
    where
      apart : {owner : ℕ} → owner < s.next_request → n ≡ owner → ⊥
      apart low e = absurd (omega arith)

  Mirrors-Admits : (s : State) (n : ℕ) (q : ClientRequest) (s' : State) → n ≡ s.next_request → IsSound rules s → IsNone s.owed → Mirrors rules p i start past s
      → (answer : Option NtStatus) → refusal rules s q ≡ answer → Admits rules s n q answer s' → Mirrors rules p i start (Seen (Call n q) ∷ past) s'
  Mirrors-Admits s n q s' next sound free m answer is_answer h = by_answer answer is_answer h
    where
      below : All (IsBelow n) past
      below = subst (λ next'. All (IsBelow next') past) (sym next) m.given

      more : All (IsBelow (n + 1)) (Seen (Call n q) ∷ past)
      more = All-cons (IsBelow (n + 1)) (Seen (Call n q)) past (omega arith) (All-weaker (IsBelow n) (IsBelow (n + 1)) (below_more n (n + 1) (omega arith)) past below)

      old : All (IsMirrored rules p i (Seen (Call n q) ∷ past)) s.requests
      old = requests_seen rules p i (Call n q) past s.requests m.requests (λ k d low. tt)

      followed : All (IsFollowed rules p i (Seen (Call n q) ∷ past) s.requests) s.pieces
      followed = pieces_seen rules p i (Call n q) past s.requests s.pieces m.pieces

      other : (o : OpenRequest) → IsGiven s.next_request o → HasOtherNumber n o
      other o low = λ e. absurd (omega arith)

      by_answer : (answer : Option NtStatus) → refusal rules s q ≡ answer → Admits rules s n q answer s' → Mirrors rules p i start (Seen (Call n q) ∷ past) s'
      by_answer None e a = Mirrors-same rules p i start (Seen (Call n q) ∷ past) s' _ a.after (record {
        given = more;
        value = m.value;
        requests = All-cons (IsMirrored rules p i (Seen (Call n q) ∷ past)) (new_request rules s n q) s.requests (new_mirrored s n q e below) old;
        pieces = new_followed s n q next sound followed;
        owed = none_owed rules p i start (Seen (Call n q) ∷ past) (new_request rules s n q ∷ s.requests) s.owed free;
      })
      by_answer (Some status) e a = Mirrors-same rules p i start (Seen (Call n q) ∷ past) s' _ a.after (record {
        given = more;
        value = m.value;
        requests = old;
        pieces = followed;
        owed = record {
          request = q;
          is_open = newly_open n q below;
          nowhere = λ success k at. refused_nowhere rules s q (e ∙ ap Some success) k at.inside;
          apart = All-weaker (IsGiven s.next_request) (HasOtherNumber n) other s.requests sound.0.given;
        };
      })

  pub Mirrors-Calls : (s : State) (n : ℕ) (q : ClientRequest) (s' : State) → IsSound rules s → IsNone s.owed → Mirrors rules p i start past s → Calls rules s n q s' → Mirrors rules p i start (Seen (Call n q) ∷ past) s'
  Mirrors-Calls s n q s' sound free m h = Mirrors-Admits s n q s' h.next_number sound free m (refusal rules s q) refl h.admits
