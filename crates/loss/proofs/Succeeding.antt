-- Requests that were answered SUCCESS.
use Rattle.std.proofs.Common.{◌≡◌, ◌<◌, ◌≤◌, ℕ, ◌+◌, true, List, [], ◌∷◌, refl, sym, ap, subst, ◌∙◌, arith, length}
use Rattle.std.specs.Prelude.{Contains}
use Rattle.std.specs.List.{list_all}
use Rattle.std.proofs.lemmas.List.Elements.{All-contains, All-weaker}
use Rattle.std.proofs.lemmas.List.Sorted.{Contains-permutation, IsPermutation-sym}
use Rattle.ntstatus.specs.declared.NtStatus.TheVariants.{Success}
use Rattle.srb.specs.declared.DeviceLabel.TheVariants.{Start, Act, Fault, Return}
use Rattle.machine.specs.declared.ClientRequest.{ClientRequest}
use Rattle.machine.specs.declared.Label.{Label}
use Rattle.machine.specs.declared.Label.TheVariants.{Call, Device, Answer, Cancel, Pause, Resume, Remove, Surprise, Removed}
use Rattle.machine.specs.Rules.{Rules, place_count}
use Rattle.machine.specs.State.{Out, OpenRequest, Piece, State}
use Rattle.machine.specs.Answering.{Answers, is_done}
use Rattle.machine.specs.Sending.{Acts}
use Rattle.machine.proofs.Same.{IsSame-sym}
use Rattle.machine_laws.proofs.Marks.{all_right}
use Rattle.machine_laws.proofs.Serving.{ActsRightly, ActsRightlyBy, IsMine, Mine, PieceFits, Serves, Serves-same, Serves-Step, sized_first, mine_first}
use Rattle.machine_laws.proofs.Sound.{Anything, IsSound, IsSound-Step, IsSound-reached, called_sound, called_serves}
use Rattle.loss.specs.Moved.{ActsOn, IsOut, Moves, Table, TableRun}
use Rattle.loss.specs.Laws.{Succeeds}
use Rattle.loss.proofs.Along.{as_reached}
use Rattle.loss.proofs.Determined.{one_piece, one_owner}
use Rattle.loss.proofs.Pieces.{AreLate, IsLate, same_pieces, step_rises}

-- A REQUEST THAT SUCCEEDS

module _ (rules : Rules) (number : ℕ) (q : ClientRequest) (first : ℕ) (Goal : ℕ → Type 0) where
  -- that a place was acted on shows the goal
  abbrev pub Shows : List (List (List ℕ)) → ℕ → List ℕ → Type 0
  Shows arrays k sector = Goal k

  -- the act of a piece of the request shows the goal of its places
  abbrev pub ShowsHere : (s : State) (label : Label) (t t' : Table) → Moves rules s label t t' → Type 0
  ShowsHere s (Device (Act n bytes)) t t' m = first ≤ n → m.owner.request ≡ q → (j : ℕ) → j < m.piece.places.count → Goal (m.piece.places.first + j)
  ShowsHere s label t t' m = Unit {0}

  abbrev pub ShowAll : (s : State) (t : Table) (labels : List Label) (s' : State) (t' : Table) → TableRun rules s t labels s' t' → Type 0
  ShowAll s t [] s' t' run = Unit {0}
  ShowAll s t (label ∷ labels) s' t' run = ShowsHere s label t run.1 run.3 × ShowAll run.0 run.1 labels s' t' run.4

  -- the request is served, by pieces that started behind its call
  pub record IsServed (s : State) : Type 0 where
    pub sound : IsSound rules s
    pub serves : Serves rules number q Shows s
    pub low : first ≤ s.next_piece
    pub late : AreLate number first s

  act_shows : (s : State) (t : Table) (n : ℕ) (bytes : List ℕ) (mid : State) (between : Table) → IsServed s → (m : ActsOn rules s n bytes t between)
      → ShowsHere s (Device (Act n bytes)) t between m → (h : Acts rules s n bytes mid) → ActsRightly rules number Shows s n bytes mid h
  act_shows s t n bytes mid between k m here h = record { keeps = λ j sector shows. shows; leaves = leaves }
    where
      first_there : (x : Piece) (xs : List Piece) → Contains (x ∷ xs) x
      first_there x xs = (0, omega arith, refl)

      out : IsOut s n h.piece h.owner
      out = record {
        is_number = h.fresh.is_number;
        is_out = Contains-permutation _ _ h.piece (IsPermutation-sym _ _ h.fresh.is_out) (first_there h.piece h.other_pieces);
        is_open = h.is_open;
        is_owner = h.is_owner;
      }

      piece_is : m.piece ≡ h.piece
      piece_is = one_piece s k.sound.0 n m.piece h.piece m.owner h.owner m.out out

      owner_is : m.owner ≡ h.owner
      owner_is = one_owner s k.sound.0 n m.piece h.piece m.owner h.owner m.out out

      leaves : h.piece.owner ≡ number → (j : ℕ) (d : List ℕ) → j < length h.sectors → Goal (h.piece.places.first + j)
      leaves e j d within =
          let mine : h.owner.request ≡ q = (All-contains (IsMine number q (Shows s.arrays)) s.requests h.owner k.serves.mine h.is_open (h.is_owner ∙ e)).request in
          let request_is : m.owner.request ≡ q = ap (λ (o : OpenRequest). o.request) owner_is ∙ mine in
          let low : j < m.piece.places.count = subst (λ (n : ℕ). j < n) (h.covers ∙ ap (λ (p : Piece). p.places.count) (sym piece_is)) within in
          let behind : first ≤ n = subst (λ (n : ℕ). first ≤ n) h.fresh.is_number (All-contains (IsLate number first) s.pieces h.piece k.late out.is_out e) in
          subst (λ (p : Piece). Goal (p.places.first + j)) piece_is (here behind request_is j low)

  label_shows : (s : State) (t : Table) (label : Label) (mid : State) (between : Table) → IsServed s → (m : Moves rules s label t between) → ShowsHere s label t between m → ActsRightlyBy rules number Shows s label mid
  label_shows s t (Device (Act n bytes)) mid between k m here = act_shows s t n bytes mid between k m here
  label_shows s t (Device (Start n tag block)) mid between k m here = tt
  label_shows s t (Device (Fault n)) mid between k m here = tt
  label_shows s t (Device (Return n class)) mid between k m here = tt
  label_shows s t (Call n r) mid between k m here = tt
  label_shows s t (Answer n status informed bytes) mid between k m here = tt
  label_shows s t (Cancel n) mid between k m here = tt
  label_shows s t Pause mid between k m here = tt
  label_shows s t Resume mid between k m here = tt
  label_shows s t Remove mid between k m here = tt
  label_shows s t Surprise mid between k m here = tt
  label_shows s t Removed mid between k m here = tt

  pub served_step : (s : State) (t : Table) (label : Label) (labels : List Label) (s' : State) (t' : Table) (run : TableRun rules s t (label ∷ labels) s' t') → IsServed s → ShowsHere s label t run.1 run.3 → IsServed run.0
  served_step s t label labels s' t' run k here =
      let rises = step_rises rules s label run.0 run.2 in
      record {
        sound = IsSound-Step rules s label run.0 k.sound run.2;
        serves = Serves-Step rules number q Shows s label run.0 k.sound.0 (label_shows s t label run.0 run.1 k run.3 here) k.serves run.2;
        low = omega (arith, k.low, rises.rises);
        late = rises.late number first k.low k.late;
      }

  serves_run : (s : State) (t : Table) (labels : List Label) (s' : State) (t' : Table) (run : TableRun rules s t labels s' t') → IsServed s → ShowAll s t labels s' t' run → Serves rules number q Shows s'
  serves_run s t [] s' t' run k shows = Serves-same rules number q Shows s' s (IsSame-sym s s' run.0) k.serves
  serves_run s t (label ∷ labels) s' t' run k shows = serves_run run.0 run.1 labels s' t' run.4 (served_step s t label labels s' t' run k shows.0) shows.1

module _ (rules : Rules) (number : ℕ) (q : ClientRequest) (before : State) (t : Table) (ended : State) (t' : Table) (h : Succeeds rules number q before t ended t') (Goal : ℕ → Type 0) where
  -- no piece of the request is out at its call
  pub called_served : IsServed rules number q before.next_piece Goal h.called
  called_served =
      let sound : IsSound rules before = IsSound-reached rules before (as_reached rules before t h.reached) in
      let none : AreLate number before.next_piece before =
      All-weaker (PieceFits rules 0 (Anything before.arrays) before.next_request before.requests) (IsLate number before.next_piece)
      (λ (p : Piece) fits mine. absurd (apart p.owner fits.given mine)) before.pieces sound.1.pieces in
      record {
        sound = called_sound rules before number q h.called sound h.opens;
        serves = called_serves rules before number q (Shows rules number q before.next_piece Goal) h.called sound h.opens;
        low = omega (arith, h.opens.after.next_piece);
        late = (same_pieces before h.called h.opens.after.next_piece h.opens.after.pieces).late number before.next_piece (omega arith) none;
      }
    where
      apart : (owner : ℕ) → owner < before.next_request → owner ≡ number → ⊥
      apart owner low e = omega (arith, low, e, h.opens.new_number)

  pub goal_met : ShowAll rules number q before.next_piece Goal h.called t h.labels ended t' h.run → (place : ℕ) → place < place_count rules q → Goal place
  goal_met shows place low =
      let AllShow : List (List (List ℕ)) → ℕ → List ℕ → Type 0 = Shows rules number q before.next_piece Goal in
      let k : Serves rules number q AllShow ended = serves_run rules number q before.next_piece Goal h.called t h.labels ended t' h.run called_served shows in
      let a : Answers rules ended number Success h.bytes h.after = h.answers in
      let mine : Mine q (AllShow ended.arrays) a.request = mine_first rules number q AllShow ended a.request a.others a.is_open k a.is_number in
      let done : list_all is_done a.request.marks ≡ true = a.success.0 refl in
      let count : length a.request.marks ≡ place_count rules q = (sized_first rules number q AllShow ended a.request a.others a.is_open k).places ∙ ap (λ (r : ClientRequest). place_count rules r) mine.request in
      all_right (AllShow ended.arrays) a.request.marks place Out done mine.right (subst (λ (n : ℕ). place < n) (sym count) low)
