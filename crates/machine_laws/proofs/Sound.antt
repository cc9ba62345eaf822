-- What holds at each moment of a run from an opening state.
use Rattle.machine_laws.proofs.Common.{◌≡◌, ◌<◌, ◌≤◌, ℕ, false, List, [], ◌∷◌, Some, None, refl, arith, replicate, lit<, All, eqb, length-replicate, get_or-replicate, IsPermutation-sym, All-permutation, All-cons, All-nil, All-weaker, Read, ClientRequest, Label, Rules, place_count, opening, Untouched, OpenRequest, State, IsSame, Opens, new_request, Step, Run, IsGiven, IsSent, AreDistinct, IsSame-sym, AreDistinct-Admits, AreDistinct-Step, AreDistinct-Run, AllAt, AreWhole, IsReached}
use Rattle.std.specs.List.{IsDistinct}
use Rattle.machine_laws.proofs.Serving.{IsRightMark, IsSized, IsMine, PieceFits, Serves, ActsRightlyBy, acts_by, Serves-same, Serves-Opens, Serves-Step}

-- any sector is right
abbrev pub Anything : List (List (List ℕ)) → ℕ → List ℕ → Type 0
Anything arrays k sector = Unit {0}

abbrev pub nothing : ClientRequest
nothing = record { partition = Some 0; kind = Read; offset = 0; length = 0; through = false; bytes = [] }

-- the machine is in order: number 0 is never given, so nothing is served by it
abbrev pub IsSound : Rules → State → Type 0
IsSound rules s = AreDistinct s × Serves rules 0 nothing Anything s

pub act_anyhow : (rules : Rules) (number : ℕ) (s : State) (label : Label) (s' : State) → ActsRightlyBy rules number Anything s label s'
act_anyhow rules number s label s' = acts_by rules number Anything s label s' (λ n bytes h e. record { keeps = λ k sector right. tt; leaves = λ owner k d within. tt })

pub IsSound-Step : (rules : Rules) (s : State) (label : Label) (s' : State) → IsSound rules s → Step rules s label s' → IsSound rules s'
IsSound-Step rules s label s' sound h =
    (AreDistinct-Step rules s label s' sound.0 h, Serves-Step rules 0 nothing Anything s label s' sound.0 (act_anyhow rules 0 s label s') sound.1 h)

pub IsSound-same : (rules : Rules) (s t : State) → IsSame s t → IsSound rules t → IsSound rules s
IsSound-same rules s t h sound =
    (AreDistinct-Run rules t [] s sound.0 (IsSame-sym s t h), Serves-same rules 0 nothing Anything s t h sound.1)

pub IsSound-Run : (rules : Rules) (s : State) (labels : List Label) (s' : State) → IsSound rules s → Run rules s labels s' → IsSound rules s'
IsSound-Run rules s [] s' sound run = IsSound-same rules s' s (IsSame-sym s s' run) sound
IsSound-Run rules s (label ∷ labels) s' sound run = IsSound-Run rules run.0 labels s' (IsSound-Step rules s label run.0 sound run.1) run.2

distinct_none : IsDistinct eqb []
unfolding IsDistinct
distinct_none = tt

pub IsSound-opening : (rules : Rules) (arrays : List (List (List ℕ))) → AreWhole rules arrays → IsSound rules (opening arrays)
IsSound-opening rules arrays whole = (
  record { requests = distinct_none; given = All-nil (IsGiven 1); pieces = distinct_none; sent = All-nil (IsSent 1) },
  record {
    given = lit< tt;
    whole = whole;
    sized = All-nil (IsSized rules);
    mine = All-nil (IsMine 0 nothing (Anything arrays));
    pieces = All-nil (PieceFits rules 0 (Anything arrays) 1 []);
  },
)

pub IsSound-reached : (rules : Rules) (s : State) → IsReached rules s → IsSound rules s
IsSound-reached rules s reached = IsSound-Run rules (opening reached.arrays) reached.labels s (IsSound-opening rules reached.arrays reached.whole) reached.run

-- CALLED

pub called_sound : (rules : Rules) (before : State) (number : ℕ) (q : ClientRequest) (called : State) → IsSound rules before → Opens rules before number q called → IsSound rules called
called_sound rules before number q called sound h = (AreDistinct-Admits rules before number q None called h.new_number sound.0 h, Serves-Opens rules 0 nothing Anything before number q called sound.1 h)

-- a request is served from its call on, whatever is right
pub called_serves : (rules : Rules) (before : State) (number : ℕ) (q : ClientRequest) (Right : List (List (List ℕ)) → ℕ → List ℕ → Type 0) (called : State)
    → IsSound rules before → Opens rules before number q called → Serves rules number q Right called
called_serves rules before number q Right called sound h =
    let k : Serves rules 0 nothing Anything called = Serves-Opens rules 0 nothing Anything before number q called sound.1 h in
    let o : OpenRequest = new_request rules before number q in
    let mine : All (IsMine number q (Right called.arrays)) (o ∷ before.requests) =
    All-cons (IsMine number q (Right called.arrays)) o before.requests (λ e. record { request = refl; right = untouched_right (Right called.arrays) (place_count rules q) })
    (All-weaker (IsGiven before.next_request) (IsMine number q (Right called.arrays)) (λ x given e. absurd (apart given h.new_number e)) before.requests sound.0.given) in
    let old : All (PieceFits rules number (Right called.arrays) called.next_request called.requests) before.pieces =
    All-weaker (λ p. (p.owner < before.next_request) × PieceFits rules 0 (Anything called.arrays) called.next_request called.requests p) (PieceFits rules number (Right called.arrays) called.next_request called.requests)
    (λ p f. record { given = f.1.given; fills = f.1.fills; inside = f.1.inside; right = λ e. absurd (apart f.0 h.new_number e) }) before.pieces
    (λ i d within. ((sound.1.pieces i d within).given, All-permutation (PieceFits rules 0 (Anything called.arrays) called.next_request called.requests) _ _ h.after.pieces k.pieces i d within)) in
    record {
      given = rw h.after.next_request (omega arith);
      whole = k.whole;
      sized = k.sized;
      mine = All-permutation (IsMine number q (Right called.arrays)) _ _ (IsPermutation-sym _ _ h.after.requests) mine;
      pieces = All-permutation (PieceFits rules number (Right called.arrays) called.next_request called.requests) _ _ (IsPermutation-sym _ _ h.after.pieces) old;
    }
  where
    apart : {a b c : ℕ} → a < b → b ≤ c → a ≡ c → ⊥
    apart x y e = absurd (omega arith)

    untouched_right : (right : ℕ → List ℕ → Type 0) (n : ℕ) → AllAt (IsRightMark right) (replicate n Untouched)
    untouched_right right n k d within = rw (get_or-replicate n k Untouched d (rw (← (length-replicate n Untouched)) within)) tt
