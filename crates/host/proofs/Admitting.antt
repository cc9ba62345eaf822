-- A request is not answered in the step that opens it.
use Rattle.std.proofs.Common.{◌≡◌, ◌≢◌, ℕ, ◌+◌, ◌<◌, ◌==◌, Bool, true, false, if◌then◌else◌, List, [], ◌∷◌, ◌++◌, length, map, replicate, Option, Some, None, refl, sym, ap, ◌∙◌, subst, arith, append_assoc, length-append, inl, inr}
use Rattle.std.specs.Prelude.{◌||◌, All, IsFalse, IsNone, drop, is_some, option_map, slice_index_or, take}
use Rattle.host.proofs.Common.{list_any, nat_tests, length-replicate, All-append, All-cons, All-drop, All-head, All-nil, All-replicate, All-tail, All-take, All-weaker, All-permutation, IsPermutation-sym, NtStatus, Extent, DeviceLabel, ClientRequest, Label, Rules, place_count, AreDistinct, IsGiven, Admits, Opens, new_request, refusal, IsStart, Starts, new_piece, sent, Run, Step, as_label, some_places, taken_in, Holder, ManagerView, open_at}
use Rattle.srb.specs.declared.DeviceLabel.TheVariants.{Start, Act, Fault, Return}
use Rattle.machine.specs.declared.Label.TheVariants.{Call as CallLabel, Device, Answer as AnswerLabel}
use Rattle.machine.specs.State.{Mark, Untouched, Out, Done, Failed, Back, OpenRequest, Owed, State, IsSame}
use Rattle.machine.specs.Answering.{Answers, HasEnded}
use Rattle.io_manager.specs.declared.Answer.{Answer}
use Rattle.io_manager.specs.Right.{IsOfAnother, IsRightBy, Told, as_answer, end_labels, is_answer_of, labels_of, unless_answered}

apart : {A : Type 0} (b : Bool) → b ≡ true → b ≡ false → A
apart b e f = absurd (cc)

-- a place that has not ended
abbrev IsGoing : Mark → Type 0
IsGoing Untouched = Unit {0}
IsGoing Out = Unit {0}
IsGoing _ = ⊥

-- a request of which no place has ended
record IsAfresh (o : OpenRequest) : Type 0 where
  not_cancelled : IsFalse o.cancelled
  some : 0 < length o.marks
  going : All IsGoing o.marks

abbrev IfOf : ℕ → OpenRequest → Type 0
IfOf number o = o.number ≡ number → IsAfresh o

-- no place of the requests of this number has ended
record Lasts (number : ℕ) (s : State) : Type 0 where
  none_owed : IsNone s.owed
  not_removing : IsFalse s.removing
  afresh : All (IfOf number) s.requests

lasts_same : (number : ℕ) (s t : State) → IsSame s t → Lasts number t → Lasts number s
lasts_same number s t same l = record {
  none_owed = subst (λ (o : Option Owed). IsNone o) (sym same.owed) l.none_owed;
  not_removing = subst (λ (b : Bool). IsFalse b) (sym same.removing) l.not_removing;
  afresh = All-permutation (IfOf number) t.requests s.requests (IsPermutation-sym s.requests t.requests same.requests) l.afresh;
}

-- PIECES START

sent_afresh : (places : Extent) (o : OpenRequest) → 0 < places.count → IsAfresh o → IsAfresh (sent places o)
sent_afresh places o some a = record { not_cancelled = a.not_cancelled; some = long; going = going }
  where
    out : List Mark
    out = replicate places.count Out

    behind : List Mark
    behind = drop (places.first + length out) o.marks

    going : All IsGoing (take places.first o.marks ++ (out ++ behind))
    going = All-append IsGoing (take places.first o.marks) (out ++ behind) (All-take IsGoing places.first o.marks a.going)
        (All-append IsGoing out behind (All-replicate IsGoing places.count Out tt) (All-drop IsGoing (places.first + length out) o.marks a.going))

    long : 0 < length (take places.first o.marks ++ (out ++ behind))
    long = omega (arith, some, length-append (take places.first o.marks) (out ++ behind), length-append out behind, length-replicate places.count Out)

lasts_started : (rules : Rules) (number : ℕ) (s : State) (piece tag : ℕ) (block : List ℕ) (s' : State) → Starts rules s piece tag block s' → Lasts number s → Lasts number s'
lasts_started rules number s piece tag block s' st l =
    lasts_same number s' (record s { next_piece = s.next_piece + 1; requests = sent st.places st.owner ∷ st.others; pieces = new_piece s tag st.owner st.places ∷ s.pieces }) st.after
    (record { none_owed = l.none_owed; not_removing = l.not_removing; afresh = afresh })
  where
    all : All (IfOf number) (st.owner ∷ st.others)
    all = All-permutation (IfOf number) s.requests (st.owner ∷ st.others) st.is_open l.afresh

    afresh : All (IfOf number) (sent st.places st.owner ∷ st.others)
    afresh = All-cons (IfOf number) (sent st.places st.owner) st.others (λ is. sent_afresh st.places st.owner st.sendable.some (All-head (IfOf number) st.owner st.others all is)) (All-tail (IfOf number) st.owner st.others all)

record LastsTo (rules : Rules) (number : ℕ) (rest : List Label) (s' : State) : Type 0 where
  mid : State
  lasts : Lasts number mid
  run : Run rules mid rest s'

lasts_device : (rules : Rules) (number : ℕ) (labels : List DeviceLabel) (rest : List Label) (s s' : State) → All IsStart labels → Lasts number s → Run rules s (map as_label labels ++ rest) s' → LastsTo rules number rest s'
lasts_device rules number [] rest s s' only l run = record { mid = s; lasts = l; run = run }
lasts_device rules number (Start piece tag block ∷ labels) rest s s' only l run =
    lasts_device rules number labels rest run.0 s' (All-tail IsStart (Start piece tag block) labels only) (by_step run.1) run.2
  where
    by_step : Step rules s (Device (Start piece tag block)) run.0 → Lasts number run.0
    by_step (inl free) = lasts_started rules number s piece tag block run.0 free.1 l
    by_step (inr owing) = absurd owing
lasts_device rules number (Act piece bytes ∷ labels) rest s s' only l run = absurd (All-head IsStart (Act piece bytes) labels only)
lasts_device rules number (other ∷ labels) rest s s' only l run = absurd (All-head IsStart other labels only)

-- REQUESTS ARE ANSWERED

going_on : (rules : Rules) (s : State) (o : OpenRequest) (mark : Mark) → IsFalse o.cancelled → IsFalse s.removing → IsGoing mark → HasEnded rules s o mark → ⊥
going_on rules s o Untouched kept stays going (inl done) = cc (done)
going_on rules s o Untouched kept stays going (inr (status, inl (cancelled, is))) = apart o.cancelled cancelled kept
going_on rules s o Untouched kept stays going (inr (status, inr (removing, is))) = apart s.removing removing stays
going_on rules s o Out kept stays going (inl done) = cc (done)
going_on rules s o Out kept stays going (inr (status, cause)) = cause
going_on rules s o _ kept stays going ended = going

not_ended : (rules : Rules) (s : State) (o : OpenRequest) (marks : List Mark) → IsFalse o.cancelled → IsFalse s.removing → 0 < length marks → All IsGoing marks → All (HasEnded rules s o) marks → ⊥
not_ended rules s o [] kept stays some going ended = absurd (omega arith)
not_ended rules s o (mark ∷ marks) kept stays some going ended = going_on rules s o mark kept stays (All-head IsGoing mark marks going) (All-head (HasEnded rules s o) mark marks ended)

record LastsBeside (number n : ℕ) (s' : State) : Type 0 where
  other : n ≢ number
  lasts : Lasts number s'

lasts_answered : (rules : Rules) (number : ℕ) (s : State) (n : ℕ) (status : NtStatus) (bytes : List ℕ) (s' : State) → Answers rules s n status bytes s' → Lasts number s → LastsBeside number n s'
lasts_answered rules number s n status bytes s' a l = record {
  other = other;
  lasts = lasts_same number s' (record s { requests = a.others }) a.after (record { none_owed = l.none_owed; not_removing = l.not_removing; afresh = All-tail (IfOf number) a.request a.others all });
}
  where
    all : All (IfOf number) (a.request ∷ a.others)
    all = All-permutation (IfOf number) s.requests (a.request ∷ a.others) a.is_open l.afresh

    other : n ≢ number
    other same =
        let fresh : IsAfresh a.request = All-head (IfOf number) a.request a.others all (a.is_number ∙ same) in
        not_ended rules s a.request a.request.marks fresh.not_cancelled l.not_removing fresh.some fresh.going a.ended

lasts_answers : (rules : Rules) (number : ℕ) (answers : List Answer) (rest : List Label) (s s' : State) → Lasts number s → Run rules s (map as_answer answers ++ rest) s' → All (IsOfAnother number) answers
lasts_answers rules number [] rest s s' l run = All-nil (IsOfAnother number)
lasts_answers rules number (answer ∷ answers) rest s s' l run =
    let beside = by_step run.1 in
    All-cons (IsOfAnother number) answer answers beside.other (lasts_answers rules number answers rest run.0 s' beside.lasts run.2)
  where
    by_step : Step rules s (AnswerLabel answer.number answer.status answer.information answer.bytes) run.0 → LastsBeside number answer.number run.0
    by_step (inl free) = lasts_answered rules number s answer.number answer.status answer.bytes run.0 free.1.answers l
    by_step (inr owing) = apart (is_some s.owed) (ap (λ (o : Option Owed). is_some o) owing.is_owed) l.none_owed

-- A REQUEST IS OPENED

-- no request has the number that comes next
unused : (number : ℕ) (s : State) → AreDistinct s → number ≡ s.next_request → All (IfOf number) s.requests
unused number s distinct next = All-weaker (IsGiven s.next_request) (IfOf number) (λ o given is. absurd (omega (arith, given, is, next))) s.requests distinct.given

lasts_opened : (rules : Rules) (s : State) (number : ℕ) (q : ClientRequest) (mid : State) → 0 < rules.sector_size → AreDistinct s → refusal rules s q ≡ None → number ≡ s.next_request → Step rules s (CallLabel number q) mid → Lasts number mid
lasts_opened rules s number q mid bytes distinct let_in next (inr owing) = absurd owing
lasts_opened rules s number q mid bytes distinct let_in next (inl free) =
    lasts_same number mid (record s { next_request = number + 1; requests = new_request rules s number q ∷ s.requests }) opens.after
    (record { none_owed = free.0; not_removing = (taken_in rules s q let_in).staying; afresh = All-cons (IfOf number) (new_request rules s number q) s.requests (λ is. afresh) (unused number s distinct next) })
  where
    opens : Opens rules s number q mid
    opens = subst (λ (answer : Option NtStatus). Admits rules s number q answer mid) let_in free.1.admits

    places : 0 < place_count rules q
    places = some_places rules s q bytes let_in

    afresh : IsAfresh (new_request rules s number q)
    afresh = record {
      not_cancelled = refl;
      some = subst (λ (n : ℕ). 0 < n) (sym (length-replicate (place_count rules q) Untouched)) places;
      going = All-replicate IsGoing (place_count rules q) Untouched tt;
    }

not_answered : (rules : Rules) (s s' : State) (number : ℕ) (q : ClientRequest) (device : List DeviceLabel) (answers : List Answer) (ends : List Label) → 0 < rules.sector_size → AreDistinct s → refusal rules s q ≡ None
    → number ≡ s.next_request → All IsStart device → Run rules s (CallLabel number q ∷ ((map as_label device ++ map as_answer answers) ++ ends)) s' → All (IsOfAnother number) answers
not_answered rules s s' number q device answers ends bytes distinct let_in next only run =
    let opened = lasts_opened rules s number q run.0 bytes distinct let_in next run.1 in
    let started = lasts_device rules number device (map as_answer answers ++ ends) run.0 s' only opened (subst (λ (labels : List Label). Run rules run.0 labels s') (append_assoc (map as_label device) (map as_answer answers) ends) run.2) in
    lasts_answers rules number answers ends started.mid s' started.lasts started.run

-- ITS SLOT

other_number : (m n : ℕ) → m ≢ n → (m == n) ≡ false
other_number m n ne = grind (arith, nat_tests)

none_of : (number handle : ℕ) (answers : List Answer) → All (IsOfAnother number) answers → list_any (is_answer_of (record { number = number; handle = handle })) answers ≡ false
none_of number handle [] all = refl
none_of number handle (answer ∷ answers) all =
    by_test (answer.number == number) (other_number answer.number number (All-head (IsOfAnother number) answer answers all)) (none_of number handle answers (All-tail (IsOfAnother number) answer answers all))
  where
    by_test : (test : Bool) → test ≡ false → list_any (is_answer_of (record { number = number; handle = handle })) answers ≡ false → (test || list_any (is_answer_of (record { number = number; handle = handle })) answers) ≡ false
    by_test test is rest = rw is rest

-- the slot of a request that was opened holds it behind the step
pub holds_opened : (old new : ManagerView) (handle : ℕ) (q : ClientRequest) (slot number : ℕ) (told : Told) → 0 < old.rules.sector_size → AreDistinct old.state → refusal old.rules old.state q ≡ None → number ≡ old.state.next_request
    → told.own ≡ CallLabel number q ∷ [] → All IsStart told.device → slice_index_or told.admitted slot None ≡ Some (record { number = number; handle = handle }) → IsRightBy false told old new → open_at new slot ≡ Some number
holds_opened old new handle q slot number told bytes distinct let_in next own only there right =
    ap (option_map (λ (h : Holder). h.number)) (right.holders slot ∙ ap (unless_answered told.answers) there ∙ ap (λ (b : Bool). if b then None else Some (record { number = number; handle = handle })) (none_of number handle told.answers others))
  where
    run : Run old.rules old.state (((told.own ++ map as_label told.device) ++ map as_answer told.answers) ++ end_labels told.ends) new.state
    run = subst (λ (labels : List Label). Run old.rules old.state labels new.state) right.in_order right.run

    others : All (IsOfAnother number) told.answers
    others = not_answered old.rules old.state new.state number q told.device told.answers (end_labels told.ends) bytes distinct let_in next only
        (subst (λ (own : List Label). Run old.rules old.state (((own ++ map as_label told.device) ++ map as_answer told.answers) ++ end_labels told.ends) new.state) own run)
