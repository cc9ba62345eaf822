-- No piece acts that wasn't asked for.
use Rattle.machine_laws.proofs.Common.{◌≡◌, ℕ, List, [], ◌∷◌, refl, sym, subst, All, Contains, IsPermutation-sym, All-permutation, All-nil, All-head, All-tail, All-weaker, All-contains, All-contains_itself, Means, ClientRequest, Label, Call, Rules, Piece, State, IsSame, opening, command_for, IsPlaced, ArePlaced, Run, AreDistinct-opening, ArePlaced-opening, ArePlaced-Run, IsSame-sym, ActsWereAsked}
use Rattle.machine_laws.proofs.Booked.{HasStart, AllStarted, pieces_same, started_step}
use Rattle.machine_laws.proofs.Once.{AreApart-start, open_unanswered}
use Rattle.machine_laws.proofs.Opened.{Brings, brings_step}
use Rattle.machine_laws.proofs.Serving.{IsMine, HoldsPlaces, PieceFits, Serves-same}
use Rattle.machine_laws.proofs.Sound.{Anything, IsSound, IsSound-Step, IsSound-same, IsSound-opening}

module _ (rules : Rules) (trace : List Label) where
  abbrev IsCalled : ℕ → ClientRequest → Type 0
  IsCalled number q = Contains trace (Call number q)

  -- each piece was started in the trace, and each request called
  record IsTold (s : State) : Type 0 where
    sound : IsSound rules s
    started : AllStarted rules trace s s.pieces
    called : All (Brings IsCalled) s.requests

  same_start : (s t : State) → IsSame s t → (p : Piece) → HasStart rules trace t p → HasStart rules trace s p
  same_start s t same p k = record { block = k.block; q = k.q; started = k.started; asks = k.asks; serves = Serves-same rules p.owner k.q Anything s t same k.serves }

  told_along : (s : State) (labels : List Label) (s' : State) → All (Contains trace) labels → Run rules s labels s' → IsTold s → IsTold s'
  told_along s [] s' there run k = record {
    sound = IsSound-same rules s' s (IsSame-sym s s' run) k.sound;
    started = pieces_same rules trace s' s.pieces s'.pieces (IsPermutation-sym _ _ run.pieces)
        (All-weaker (HasStart rules trace s) (HasStart rules trace s') (same_start s' s (IsSame-sym s s' run)) s.pieces k.started);
    called = All-permutation (Brings IsCalled) _ _ run.requests k.called;
  }
  told_along s (label ∷ labels) s' there (mid, step, rest) k =
      let here : Contains trace label = All-head (Contains trace) label labels there in
      told_along mid labels s' (All-tail (Contains trace) label labels there) rest (record {
        sound = IsSound-Step rules s label mid k.sound step;
        started = started_step rules trace s label mid k.sound here step k.started;
        called = brings_step IsCalled rules s label mid (λ number q e admitted. subst (Contains trace) e here) k.called step;
      })

pub acts_were_asked : ActsWereAsked
acts_were_asked rules arrays past s label whole run act =
    let k : IsTold rules past s = told_along rules past (opening arrays) past s (All-contains_itself past) run (record {
      sound = IsSound-opening rules arrays whole;
      started = All-nil (HasStart rules past (opening arrays));
      called = All-nil (Brings (IsCalled rules past));
    }) in
    let start : HasStart rules past s act.piece = All-contains (HasStart rules past s) s.pieces act.piece k.started act.is_out in
    let same : act.owner.request ≡ start.q = (All-contains (IsMine act.piece.owner start.q (Anything s.arrays)) s.requests act.owner start.serves.mine act.is_open act.is_owner).request in
    let fits : PieceFits rules 0 (Anything s.arrays) s.next_request s.requests act.piece =
    All-contains (PieceFits rules 0 (Anything s.arrays) s.next_request s.requests) s.pieces act.piece k.sound.1.pieces act.is_out in
    let placed : ArePlaced s = ArePlaced-Run rules (opening arrays) past s (AreDistinct-opening arrays) (ArePlaced-opening arrays) run in
    record {
      called = All-contains (Brings (IsCalled rules past)) s.requests act.owner k.called act.is_open;
      not_answered = open_unanswered rules (opening arrays) past s (AreApart-start (opening arrays) (AreDistinct-opening arrays) refl) run act.owner act.is_open;
      block = start.block;
      started = start.started;
      asks = subst (λ q. Means start.block (command_for rules q act.piece.places q.kind)) (sym same) start.asks;
      some = (All-contains (IsPlaced s.requests) s.pieces act.piece placed.pieces act.is_out).some;
      inside = All-contains (HoldsPlaces rules act.piece) s.requests act.owner fits.inside act.is_open act.is_owner;
    }
