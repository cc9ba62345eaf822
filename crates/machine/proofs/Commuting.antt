-- An answer and the start of another request's piece may change places.
use Rattle.std.proofs.Common.{◌≡◌, ◌<◌, ◌≤◌, inl, inr, ℕ, ◌+◌, not, List, [], ◌∷◌, ◌++◌, refl, arith, map, length, length-append, length-take, length-drop}
use Rattle.std.specs.Prelude.{IsPermutation, IsTrue, IsFalse, IsNone, All}
use Rattle.std.specs.List.{list_all}
use Rattle.std.proofs.lemmas.List.Sorted.{IsPermutation-refl, IsPermutation-sym, IsPermutation-trans, IsPermutation-cons, IsPermutation-middle, All-permutation}
use Rattle.std.proofs.lemmas.List.Elements.{All-head, All-tail, All-cons}
use Rattle.ntstatus.specs.declared.NtStatus.{NtStatus}
use Rattle.srb.specs.declared.DeviceLabel.{DeviceLabel}
use Rattle.srb.specs.declared.DeviceLabel.TheVariants.{Start, Act, Fault, Return}
use Rattle.machine.specs.declared.Label.TheVariants.{Device, Answer}
use Rattle.machine.specs.Rules.{Rules}
use Rattle.sector.specs.Splice.{splice}
use Rattle.machine.specs.State.{Mark, Untouched, Out, Done, Failed, Back, OpenRequest, State}
use Rattle.machine.specs.Sending.{Starts, IsInTurn, is_untouched, sent, new_piece, IsStart}
use Rattle.machine.specs.Answering.{Answers, AnswersWith, HasEnded, information}
use Rattle.machine.specs.Step.{Run}
use Rattle.machine.specs.Numbers.{HasPlaces, HavePlaces}
use Rattle.machine.proofs.Permuting.{All-changed}
use Rattle.machine.proofs.Same.{IsSame-refl, DeviceStep-same, AnswersWith-same}

pub swapped : {X : Type 0} (a b : X) (xs : List X) → IsPermutation (a ∷ b ∷ xs) (b ∷ a ∷ xs)
swapped a b xs = IsPermutation-middle (a ∷ []) b xs

-- a place that is out has not ended
pub out_ends_not : (rules : Rules) (s : State) (o : OpenRequest) → HasEnded rules s o Out → ⊥
out_ends_not rules s o (inl done) = cc (done)
out_ends_not rules s o (inr (status, none)) = absurd none

-- an uncancelled request that has ended with nothing removing is started
pub untouched_ends_not : (rules : Rules) (s : State) (o : OpenRequest) → IsFalse o.cancelled → IsFalse s.removing → HasEnded rules s o Untouched → ⊥
untouched_ends_not rules s o timely staying (inl done) = cc (done)
untouched_ends_not rules s o timely staying (inr (status, inl (cancelled, is))) = cc (timely, cancelled)
untouched_ends_not rules s o timely staying (inr (status, inr (removing, is))) = cc (staying, removing)

pub started_marks : (rules : Rules) (s : State) (o : OpenRequest) (marks : List Mark) → IsFalse o.cancelled → IsFalse s.removing → 0 < length marks → All (HasEnded rules s o) marks → IsTrue (not (list_all is_untouched marks))
started_marks rules s o [] timely staying some ended = absurd (omega arith)
started_marks rules s o (Untouched ∷ marks) timely staying some ended = absurd (untouched_ends_not rules s o timely staying (All-head (HasEnded rules s o) Untouched marks ended))
started_marks rules s o (Out ∷ marks) timely staying some ended = refl
started_marks rules s o (Done sector ∷ marks) timely staying some ended = refl
started_marks rules s o (Failed status ∷ marks) timely staying some ended = refl
started_marks rules s o (Back ∷ marks) timely staying some ended = refl

abbrev pub answered : (rules : Rules) (s : State) (r : ℕ) (status : NtStatus) (bytes : List ℕ) (mid : State) → Answers rules s r status bytes mid → State
answered rules s r status bytes mid h = record s { requests = h.others }

-- what a start gives with the answered request still there
start_first : (rules : Rules) (s : State) (r : ℕ) (status : NtStatus) (informed : ℕ) (bytes : List ℕ) (mid : State) (k tag : ℕ) (block : List ℕ) (s' : State)
    → (h : AnswersWith rules s r status informed bytes mid) → HasPlaces h.answers.request → Starts rules (record s { requests = h.answers.others }) k tag block s'
    → (mid' : State) × Starts rules s k tag block mid' × AnswersWith rules mid' r status informed bytes s'
start_first rules s r status informed bytes mid k tag block s' h some start =
    let answer : Answers rules s r status bytes mid = h.answers in
    let o : OpenRequest = answer.request in
    let owner : OpenRequest = start.owner in
    let mid' : State = record s { next_piece = s.next_piece + 1; requests = sent start.places owner ∷ o ∷ start.others; pieces = new_piece s tag owner start.places ∷ s.pieces } in
    let turn : IsInTurn owner o = λ lower timely. started_marks rules s o o.marks timely start.may_start.not_removing some answer.ended in
    let in_turn : All (IsInTurn owner) s.requests =
    All-permutation (IsInTurn owner) _ _ (IsPermutation-sym _ _ answer.is_open) (All-cons (IsInTurn owner) o answer.others turn start.may_start.in_turn) in
    let starts : Starts rules s k tag block mid' = record {
      owner = owner;
      others = o ∷ start.others;
      places = start.places;
      next_number = start.next_number;
      on_tag = start.on_tag;
      is_open = IsPermutation-trans _ _ _ answer.is_open (IsPermutation-trans _ _ _ (IsPermutation-cons o _ _ start.is_open) (swapped o owner start.others));
      may_start = record { not_cancelled = start.may_start.not_cancelled; not_removing = start.may_start.not_removing; not_held = start.may_start.not_held; in_turn = in_turn };
      sendable = start.sendable;
      asks = start.asks;
      plain = start.plain;
      after = IsSame-refl mid';
    } in
    let answers : Answers rules mid' r status bytes s' = record {
      request = o;
      others = sent start.places owner ∷ start.others;
      is_open = swapped (sent start.places owner) o start.others;
      is_number = answer.is_number;
      ended = answer.ended;
      success = answer.success;
      cause = answer.cause;
      hands_back = answer.hands_back;
      after = start.after;
    } in
    (mid', starts, record { answers = answers; informs = h.informs })

-- an answer, then a start: the start may come first, whoever is answered, if it has a place
pub Start-first : (rules : Rules) (s : State) (r : ℕ) (status : NtStatus) (informed : ℕ) (bytes : List ℕ) (mid : State) (k tag : ℕ) (block : List ℕ) (s' : State)
    → HavePlaces s → AnswersWith rules s r status informed bytes mid → Starts rules mid k tag block s'
    → (mid' : State) × Starts rules s k tag block mid' × AnswersWith rules mid' r status informed bytes s'
Start-first rules s r status informed bytes mid k tag block s' places h start =
    start_first rules s r status informed bytes mid k tag block s' h
    (All-head HasPlaces h.answers.request h.answers.others (All-permutation HasPlaces _ _ h.answers.is_open places))
    (DeviceStep-same rules (Start k tag block) mid (record s { requests = h.answers.others }) s' s' h.answers.after (IsSame-refl s') start)

splice_longer : (marks more : List Mark) (first : ℕ) → length marks ≤ length (splice marks first more)
splice_longer marks more first = simp (length-append, length-take, length-drop) (omega arith)

pub HasPlaces-with_marks : (o : OpenRequest) (first : ℕ) (more : List Mark) → HasPlaces o → 0 < length (splice o.marks first more)
HasPlaces-with_marks o first more h = let e : length o.marks ≤ length (splice o.marks first more) = splice_longer o.marks more first in omega arith

Starts-places : (rules : Rules) (s : State) (k tag : ℕ) (block : List ℕ) (s' : State) → HavePlaces s → Starts rules s k tag block s' → HavePlaces s'
Starts-places rules s k tag block s' places h =
    All-permutation HasPlaces _ _ (IsPermutation-sym _ _ h.after.requests)
    (All-changed HasPlaces s.requests h.owner (sent h.places h.owner) h.others h.is_open places (HasPlaces-with_marks h.owner h.places.first _))

-- an answer, then starts: the starts may all come first
pub Starts-first : (rules : Rules) (s : State) (r : ℕ) (status : NtStatus) (informed : ℕ) (bytes : List ℕ) (starts : List DeviceLabel) (mid s' : State)
    → IsNone s.owed → HavePlaces s → AnswersWith rules s r status informed bytes mid → All IsStart starts → Run rules mid (map Device starts) s'
    → Run rules s (map Device starts ++ Answer r status informed bytes ∷ []) s'
Starts-first rules s r status informed bytes [] mid s' free places answer only run = (mid, inl (free, answer), run)
Starts-first rules s r status informed bytes (Start k tag block ∷ starts) mid s' free places answer only (next, inl (free', start), run) =
    let turned : (mid' : State) × Starts rules s k tag block mid' × AnswersWith rules mid' r status informed bytes next = Start-first rules s r status informed bytes mid k tag block next places answer start in (
      turned.0,
      inl (free, turned.1),
      Starts-first rules turned.0 r status informed bytes starts next s' (rw turned.1.after.owed free) (Starts-places rules s k tag block turned.0 places turned.1) turned.2 (All-tail IsStart _ starts only) run,
    )
Starts-first rules s r status informed bytes (Start k tag block ∷ starts) mid s' free places answer only (next, inr none, run) = absurd none
Starts-first rules s r status informed bytes (Act k data' ∷ starts) mid s' free places answer only run = absurd (All-head IsStart _ starts only)
Starts-first rules s r status informed bytes (Fault k ∷ starts) mid s' free places answer only run = absurd (All-head IsStart _ starts only)
Starts-first rules s r status informed bytes (Return k class ∷ starts) mid s' free places answer only run = absurd (All-head IsStart _ starts only)

-- two answers may change places
pub Answers-swap : (rules : Rules) (s : State) (q : ℕ) (q_status : NtStatus) (q_informed : ℕ) (q_bytes : List ℕ) (mid : State)
    (r : ℕ) (status : NtStatus) (informed : ℕ) (bytes : List ℕ) (s' : State)
    → AnswersWith rules s q q_status q_informed q_bytes mid → AnswersWith rules mid r status informed bytes s'
    → (mid' : State) × AnswersWith rules s r status informed bytes mid' × AnswersWith rules mid' q q_status q_informed q_bytes s'
Answers-swap rules s q q_status q_informed q_bytes mid r status informed bytes s' before second =
    swap_from before.answers before.informs
    (AnswersWith-same rules r status informed bytes mid (record s { requests = before.answers.others }) s' s' before.answers.after (IsSame-refl s') second)
  where
    swap_from : (first : Answers rules s q q_status q_bytes mid) → q_informed ≡ information first.request.request q_status
        → AnswersWith rules (record s { requests = first.others }) r status informed bytes s'
        → (mid' : State) × AnswersWith rules s r status informed bytes mid' × AnswersWith rules mid' q q_status q_informed q_bytes s'
    swap_from first informs after = let next = after.answers in (
      record s { requests = first.request ∷ next.others },
      record {
        answers = record {
          request = next.request;
          others = first.request ∷ next.others;
          is_open = IsPermutation-trans _ _ _ first.is_open (IsPermutation-trans _ _ _ (IsPermutation-cons first.request _ _ next.is_open) (swapped first.request next.request next.others));
          is_number = next.is_number;
          ended = next.ended;
          success = next.success;
          cause = next.cause;
          hands_back = next.hands_back;
          after = IsSame-refl _;
        };
        informs = after.informs;
      },
      record {
        answers = record {
          request = first.request;
          others = next.others;
          is_open = IsPermutation-refl _;
          is_number = first.is_number;
          ended = first.ended;
          success = first.success;
          cause = first.cause;
          hands_back = first.hands_back;
          after = next.after;
        };
        informs = informs;
      },
    )
