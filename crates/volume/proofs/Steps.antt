-- Steps of the adapter while a request goes on.
use Rattle.volume.proofs.Common.{◌≡◌, ◌≢◌, ◌<◌, ◌≤◌, ◌↔◌, inl, inr, ℕ, ◌+◌, Bool, true, false, cond, List, [], ◌∷◌, ◌++◌, refl, sym, ◌∙◌, ap, subst, arith, append_assoc, length, map, All, Any, Contains, IsPermutation, IsTrue, MatchBool, count_by, sum_by, map-append, All-nil, All-cons, All-head, All-tail, All-append, IsPermutation-refl, IsPermutation-sym, IsPermutation-trans, IsPermutation-map, IsPermutation-append_left, IsPermutation-append_right, IsPermutation-append_comm, Contains-permutation, sum_by-IsPermutation, sum_by_popped, length_permutation, IsIn, Class, Busy, DeviceLabel, Fate, Fresh, Acted, Faulted, is_fresh, Label, Rules, Piece, State, IsSame, opening, IsStart, HasOtherTag, LeavesMarks, Returns, with_fate, DeviceStep, Step, Run, as_label, AreDistinct, piece_number, AreDistinct-opening, AreDistinct-Run, distinct_first, is_first, IsSame-refl, Run-append, none_there, IsReached, IsFreshOn, IsActOrFault, is_fresh_piece, piece_tag, Reply, ManagerView, IsQuiet, answers_of, Quietly, tags_out, unsent_places, work, fresh_count}
use Rattle.srb.specs.declared.DeviceLabel.TheVariants.{Start, Act, Fault, Return}
use Rattle.machine.specs.declared.Label.TheVariants.{Call, Device, Answer, Cancel, Pause, Resume, Remove, Surprise, Removed}
use Rattle.io_manager.specs.declared.Answer.{Answer as AnswerOf}
use Rattle.io_manager.specs.declared.Reply.TheVariants.{Handle as HandleReply, Ok as Done, Request as Requested, Answered, Refused, Ignored}
use Rattle.io_manager.specs.Right.{Told, IsRight, IsRightBy, SameHandles, ActReplies, FinishReplies, TellsAct, TellsFinish, HasNoneFresh, IsOnTag, tells_nothing, as_answer, end_labels}
use Rattle.volume.proofs.Untraced.{untraced, forgotten}
use Rattle.volume.proofs.Using.{starts_use, returns_use, acts_keep, faults_keep, answers_use, same_work}

-- LABELS

pub answers-append : (xs ys : List Label) → answers_of (xs ++ ys) ≡ answers_of xs ++ answers_of ys
answers-append [] ys = refl
answers-append (Answer number status informed bytes ∷ xs) ys = ap (λ ls. Answer number status informed bytes ∷ ls) (answers-append xs ys)
answers-append (Device label ∷ xs) ys = answers-append xs ys
answers-append (Call number q ∷ xs) ys = answers-append xs ys
answers-append (Cancel number ∷ xs) ys = answers-append xs ys
answers-append (Pause ∷ xs) ys = answers-append xs ys
answers-append (Resume ∷ xs) ys = answers-append xs ys
answers-append (Remove ∷ xs) ys = answers-append xs ys
answers-append (Surprise ∷ xs) ys = answers-append xs ys
answers-append (Removed ∷ xs) ys = answers-append xs ys

answers-device : (ds : List DeviceLabel) → answers_of (map as_label ds) ≡ []
answers-device [] = refl
answers-device (d ∷ ds) = answers-device ds

answers-answers : (xs : List AnswerOf) → answers_of (map as_answer xs) ≡ map as_answer xs
answers-answers [] = refl
answers-answers (x ∷ xs) = ap (λ ls. as_answer x ∷ ls) (answers-answers xs)

answers-end : (b : Bool) → answers_of (end_labels b) ≡ []
answers-end true = refl
answers-end false = refl

quiet_device : (ds : List DeviceLabel) → All IsQuiet (map as_label ds)
quiet_device [] = All-nil IsQuiet
quiet_device (d ∷ ds) = All-cons IsQuiet (as_label d) (map as_label ds) tt (quiet_device ds)

quiet_answers : (xs : List AnswerOf) → All IsQuiet (map as_answer xs)
quiet_answers [] = All-nil IsQuiet
quiet_answers (x ∷ xs) = All-cons IsQuiet (as_answer x) (map as_answer xs) tt (quiet_answers xs)

quiet_end : (b : Bool) → All IsQuiet (end_labels b)
quiet_end true = All-cons IsQuiet Removed [] tt (All-nil IsQuiet)
quiet_end false = All-nil IsQuiet

-- all that is told but the step's own labels
abbrev pub rest_of : Told → List Label
rest_of told = (map as_label told.device ++ map as_answer told.answers) ++ end_labels told.ends

pub quiet_rest : (told : Told) → All IsQuiet (rest_of told)
quiet_rest told =
    All-append IsQuiet _ _ (All-append IsQuiet _ _ (quiet_device told.device) (quiet_answers told.answers)) (quiet_end told.ends)

no_more : {X : Type 0} (xs : List X) → xs ++ [] ≡ xs
no_more [] = refl
no_more (x ∷ xs) = ap (λ ys. x ∷ ys) (no_more xs)

pub answers_told : (told : Told) → answers_of (rest_of told) ≡ map as_answer told.answers
answers_told told =
    answers-append (map as_label told.device ++ map as_answer told.answers) (end_labels told.ends)
    ∙ ap (λ ls. answers_of (map as_label told.device ++ map as_answer told.answers) ++ ls) (answers-end told.ends)
    ∙ no_more _
    ∙ answers-append (map as_label told.device) (map as_answer told.answers)
    ∙ ap (λ ls. ls ++ answers_of (map as_answer told.answers)) (answers-device told.device)
    ∙ answers-answers told.answers

pub untaken_told : (told : Told) (old new : List AnswerOf) → IsPermutation new (told.answers ++ old) → IsPermutation (map as_answer new) (answers_of (rest_of told) ++ map as_answer old)
untaken_told told old new p =
    let e : map as_answer (told.answers ++ old) ≡ answers_of (rest_of told) ++ map as_answer old =
    map-append as_answer told.answers old ∙ ap (λ ls. ls ++ map as_answer old) (sym (answers_told told)) in
    subst (λ ls. IsPermutation (map as_answer new) ls) e (IsPermutation-map as_answer new (told.answers ++ old) p)

-- a step with no label of its own, whose labels are then forgotten
pub quietly_by : (told : Told) (old new : ManagerView) → told.own ≡ [] → IsRightBy false told (untraced old) new → SameHandles (untraced old) new → Quietly old (forgotten new)
quietly_by told old new own by handles =
    let e : new.labels ≡ rest_of told = by.in_order ∙ ap (λ o. ((o ++ map as_label told.device) ++ map as_answer told.answers) ++ end_labels told.ends) own in
    record {
      labels = rest_of told;
      quiet = quiet_rest told;
      run = subst (λ ls. Run old.rules old.state ls new.state) e by.run;
      untaken = untaken_told told old.answers new.answers by.untaken;
      same_rules = by.same_rules;
      outside = by.outside;
      handles = record { handles = handles.handles; next_handle = handles.next_handle };
    }

-- WHAT HOLDS BETWEEN STEPS

pub goes_on_reached : (rules : Rules) (s : State) (labels : List Label) (s' : State) → IsReached rules s → Run rules s labels s' → IsReached rules s'
goes_on_reached rules s labels s' reached run = record {
  arrays = reached.arrays;
  labels = reached.labels ++ labels;
  whole = reached.whole;
  run = Run-append rules (opening reached.arrays) reached.labels s labels s' reached.run run;
}

pub Quietly-refl : (v : ManagerView) → Quietly v v
Quietly-refl v = record {
  labels = [];
  quiet = All-nil IsQuiet;
  run = IsSame-refl v.state;
  untaken = IsPermutation-refl (map as_answer v.answers);
  same_rules = refl;
  outside = λ sector apart. refl;
  handles = record { handles = refl; next_handle = refl };
}

exchanged : {X : Type 0} (xs ys zs : List X) → IsPermutation (xs ++ (ys ++ zs)) ((ys ++ xs) ++ zs)
exchanged xs ys zs =
    subst (λ ls. IsPermutation ls ((ys ++ xs) ++ zs)) (append_assoc xs ys zs) (IsPermutation-append_left zs (xs ++ ys) (ys ++ xs) (IsPermutation-append_comm xs ys))

pub Quietly-trans : (old mid new : ManagerView) → Quietly old mid → Quietly mid new → Quietly old new
Quietly-trans old mid new a b = record {
  labels = a.labels ++ b.labels;
  quiet = All-append IsQuiet a.labels b.labels a.quiet b.quiet;
  run = Run-append old.rules old.state a.labels mid.state b.labels new.state a.run (subst (λ rules. Run rules mid.state b.labels new.state) a.same_rules b.run);
  untaken =
      let e : answers_of (a.labels ++ b.labels) ≡ answers_of a.labels ++ answers_of b.labels = answers-append a.labels b.labels in
      subst (λ ls. IsPermutation (map as_answer new.answers) (ls ++ map as_answer old.answers)) (sym e)
      (IsPermutation-trans _ _ _ b.untaken
      (IsPermutation-trans _ _ _ (IsPermutation-append_right (answers_of b.labels) (map as_answer mid.answers) (answers_of a.labels ++ map as_answer old.answers) a.untaken)
      (exchanged (answers_of b.labels) (answers_of a.labels) (map as_answer old.answers))));
  same_rules = b.same_rules ∙ a.same_rules;
  outside = λ sector apart. b.outside sector (subst (λ (rules : Rules). Any (IsIn sector) rules.partitions → ⊥) (sym a.same_rules) apart) ∙ a.outside sector apart;
  handles = record { handles = b.handles.handles ∙ a.handles.handles; next_handle = b.handles.next_handle ∙ a.handles.next_handle };
}

-- AN ACT

-- only one of the device
device_step : (rules : Rules) (s : State) (label : DeviceLabel) (s' : State) → Step rules s (Device label) s' → DeviceStep rules s label s'
device_step rules s label s' (inl h) = h.1
device_step rules s label s' (inr h) = absurd h

-- what an act leaves of the pieces out
pub record IsActed (old new : State) : Type 0 where
  pub same_tags : IsPermutation (tags_out old) (tags_out new)
  pub same_work : work new ≡ work old
  pub fewer : fresh_count new < fresh_count old

abbrev one_if_fresh : Piece → ℕ
one_if_fresh piece = cond (is_fresh_piece piece) 1 0

fewer_fresh : (old new : List Piece) (piece : Piece) (others : List Piece) (fate : Fate) → IsPermutation old (piece ∷ others) → piece.fate ≡ Fresh → is_fresh fate ≡ false
    → IsPermutation new (with_fate fate piece ∷ others) → count_by is_fresh_piece new < count_by is_fresh_piece old
fewer_fresh old new piece others fate p fresh not_fresh q =
    let a : count_by is_fresh_piece others + one_if_fresh piece ≡ count_by is_fresh_piece old = sum_by_popped one_if_fresh piece old others p in
    let b : count_by is_fresh_piece others + one_if_fresh (with_fate fate piece) ≡ count_by is_fresh_piece new = sum_by_popped one_if_fresh (with_fate fate piece) new others q in
    let one : one_if_fresh piece ≡ 1 = ap (λ f. cond (is_fresh f) 1 0) fresh in
    let none : one_if_fresh (with_fate fate piece) ≡ 0 = ap (λ b. cond b 1 0) not_fresh in
    omega arith

same_tags_out : (old new : List Piece) (piece : Piece) (others : List Piece) (fate : Fate) → IsPermutation old (piece ∷ others) → IsPermutation new (with_fate fate piece ∷ others)
    → IsPermutation (map piece_tag old) (map piece_tag new)
same_tags_out old new piece others fate p q =
    IsPermutation-trans _ _ _ (IsPermutation-map piece_tag old (piece ∷ others) p)
    (IsPermutation-sym _ _ (IsPermutation-map piece_tag new (with_fate fate piece ∷ others) q))

acted_by : (rules : Rules) (s : State) (number : ℕ) (label : DeviceLabel) (s' : State) → IsActOrFault number label → DeviceStep rules s label s' → IsActed s s'
acted_by rules s number (Act piece bytes) s' is h = record {
  same_tags = same_tags_out s.pieces s'.pieces h.piece h.other_pieces (Acted h.sectors) h.fresh.is_out h.after.pieces;
  same_work = acts_keep rules s piece bytes s' h;
  fewer = fewer_fresh s.pieces s'.pieces h.piece h.other_pieces (Acted h.sectors) h.fresh.is_out h.fresh.is_fresh refl h.after.pieces;
}
acted_by rules s number (Fault piece) s' is h = record {
  same_tags = same_tags_out s.pieces s'.pieces h.piece h.other_pieces Faulted h.fresh.is_out h.after.pieces;
  same_work = faults_keep rules s piece s' h;
  fewer = fewer_fresh s.pieces s'.pieces h.piece h.other_pieces Faulted h.fresh.is_out h.fresh.is_fresh refl h.after.pieces;
}
acted_by rules s number (Start piece tag block) s' is h = absurd is
acted_by rules s number (Return piece class) s' is h = absurd is

acted_same : (s t s' : State) → IsActed s t → IsSame t s' → IsActed s s'
acted_same s t s' h same =
    let w : length s'.pieces ≡ length t.pieces = length_permutation t.pieces s'.pieces same.pieces in
    let u : sum_by unsent_places s'.requests ≡ sum_by unsent_places t.requests = sum_by-IsPermutation unsent_places t.requests s'.requests same.requests in
    let f : fresh_count s' ≡ fresh_count t = sum_by-IsPermutation one_if_fresh t.pieces s'.pieces same.pieces in
    let k : work t ≡ work s = h.same_work in
    let l : fresh_count t < fresh_count s = h.fewer in
    record {
      same_tags = IsPermutation-trans _ _ _ h.same_tags (IsPermutation-map piece_tag t.pieces s'.pieces same.pieces);
      same_work = omega arith;
      fewer = omega arith;
    }

-- the label of an act is all that its step tells
act_told : (old new : ManagerView) (tag : ℕ) (told : Told) → TellsAct (untraced old) tag told → IsRightBy false told (untraced old) new → IsActed old.state new.state
act_told old new tag told h by =
    let none : told.answers ≡ [] = h.ends_none.none_answered in
    let ends : told.ends ≡ false = h.ends_none.not_ended in
    let e : new.labels ≡ Device h.label ∷ [] = by.in_order ∙ told_is told.own told.device told.answers told.ends h.no_own h.device none ends in
    let run : Run old.rules old.state (Device h.label ∷ []) new.state = subst (λ ls. Run old.rules old.state ls new.state) e by.run in
    acted_same old.state run.0 new.state (acted_by old.rules old.state h.piece.number h.label run.0 h.acts (device_step old.rules old.state h.label run.0 run.1)) run.2
  where
    told_is : (own : List Label) (device : List DeviceLabel) (answers : List AnswerOf) (ends : Bool) → own ≡ [] → device ≡ h.label ∷ [] → answers ≡ [] → ends ≡ false
        → ((own ++ map as_label device) ++ map as_answer answers) ++ end_labels ends ≡ Device h.label ∷ []
    told_is own device answers ends a b c d = rw (a, b, c, d) refl

-- where the tag had one that did nothing yet, it acted or failed; else nothing happened
abbrev pub ActsOr : ManagerView → ℕ → ManagerView → Reply → Type 0
ActsOr old tag new Done = IsActed old.state new.state
ActsOr old tag new reply = (new.state ≡ old.state) × HasNoneFresh new tag

pub acts_or : (old new : ManagerView) (tag : ℕ) (reply : Reply) → IsRight (ActReplies (untraced old) tag reply new) (untraced old) new → ActsOr old tag (forgotten new) reply
acts_or old new tag Done h = act_told old new tag h.told h.replies.0 h.by
acts_or old new tag Ignored h =
    let same : new.state ≡ old.state = h.replies.0.same_state in
    (same, record { none = λ piece fresh. h.replies.1.none piece (subst (λ (s : State). IsFreshOn s tag piece) same fresh) })
acts_or old new tag (HandleReply given) h = absurd h.replies
acts_or old new tag (Requested id) h = absurd h.replies
acts_or old new tag (Answered answer) h = absurd h.replies
acts_or old new tag (Refused reason bytes) h = absurd h.replies

own_none : (told : Told) (old : ManagerView) → told ≡ tells_nothing old → told.own ≡ []
own_none told old e = ap (λ (t : Told). t.own) e

pub act_quietly : (old new : ManagerView) (tag : ℕ) (reply : Reply) → IsRight (ActReplies (untraced old) tag reply new) (untraced old) new → Quietly old (forgotten new)
act_quietly old new tag Done h = quietly_by h.told old new h.replies.0.no_own h.by h.replies.1
act_quietly old new tag Ignored h = quietly_by h.told old new (own_none h.told (untraced old) h.replies.0.nothing) h.by h.replies.2
act_quietly old new tag (HandleReply given) h = absurd h.replies
act_quietly old new tag (Requested id) h = absurd h.replies
act_quietly old new tag (Answered answer) h = absurd h.replies
act_quietly old new tag (Refused reason bytes) h = absurd h.replies

-- A RETURN

-- a label behind a return: a start, an answer, the end of a removal
abbrev IsLater : Label → Type 0
IsLater (Device (Start piece tag block)) = Unit {0}
IsLater (Answer number status informed bytes) = Unit {0}
IsLater Removed = Unit {0}
IsLater _ = ⊥

later_use : (rules : Rules) (s : State) (label : Label) (s' : State) → IsLater label → Step rules s label s' → work s' ≤ work s
later_use rules s (Device (Start piece tag block)) s' is (inl h) = let lt : work s' < work s = starts_use rules s piece tag block s' h.1 in omega arith
later_use rules s (Answer number status informed bytes) s' is (inl h) = answers_use rules s number status bytes s' h.1.answers
later_use rules s Removed s' is (inl h) = let e : work s' ≡ work s = same_work rules s _ s' h.1.after refl refl in omega arith
later_use rules s (Answer number status informed bytes) s' is (inr h) = let e : work s' ≡ work s = same_work rules s _ s' h.after refl refl in omega arith
later_use rules s (Device label) s' is (inr h) = absurd h
later_use rules s (Device (Act piece bytes)) s' is (inl h) = absurd is
later_use rules s (Device (Fault piece)) s' is (inl h) = absurd is
later_use rules s (Device (Return piece class)) s' is (inl h) = absurd is
later_use rules s Removed s' is (inr h) = absurd h
later_use rules s (Call number q) s' is step = absurd is
later_use rules s (Cancel number) s' is step = absurd is
later_use rules s Pause s' is step = absurd is
later_use rules s Resume s' is step = absurd is
later_use rules s Remove s' is step = absurd is
later_use rules s Surprise s' is step = absurd is

later_run : (rules : Rules) (s : State) (labels : List Label) (s' : State) → All IsLater labels → Run rules s labels s' → work s' ≤ work s
later_run rules s [] s' all run = let e : work s ≡ work s' = same_work rules s' s' s run refl refl in omega arith
later_run rules s (label ∷ labels) s' all run =
    let one : work run.0 ≤ work s = later_use rules s label run.0 (All-head IsLater label labels all) run.1 in
    let rest : work s' ≤ work run.0 = later_run rules run.0 labels s' (All-tail IsLater label labels all) run.2 in
    omega arith

later_starts : (ds : List DeviceLabel) → All IsStart ds → All IsLater (map as_label ds)
later_starts [] h = All-nil IsLater
later_starts (Start piece tag block ∷ ds) h = All-cons IsLater (Device (Start piece tag block)) (map as_label ds) tt (later_starts ds (All-tail IsStart _ ds h))
later_starts (Act piece bytes ∷ ds) h = absurd (All-head IsStart (Act piece bytes) ds h)
later_starts (Fault piece ∷ ds) h = absurd (All-head IsStart (Fault piece) ds h)
later_starts (Return piece class ∷ ds) h = absurd (All-head IsStart (Return piece class) ds h)

later_answers : (xs : List AnswerOf) → All IsLater (map as_answer xs)
later_answers [] = All-nil IsLater
later_answers (x ∷ xs) = All-cons IsLater (as_answer x) (map as_answer xs) tt (later_answers xs)

later_end : (b : Bool) → All IsLater (end_labels b)
later_end true = All-cons IsLater Removed [] tt (All-nil IsLater)
later_end false = All-nil IsLater

-- a piece that acted or failed comes back, and not as busy
not_busy : (rules : Rules) (s : State) (tag : ℕ) (piece : Piece) (class : Class) (s' : State) → IsReached rules s → Contains s.pieces piece → piece.tag ≡ tag
    → ((p : Piece) → IsFreshOn s tag p → ⊥) → Returns s piece.number class s' → class ≢ Busy
not_busy rules s tag piece class s' reached is_out is_tag none_fresh h is_busy =
    let distinct : AreDistinct s = AreDistinct-Run rules (opening reached.arrays) reached.labels s (AreDistinct-opening reached.arrays) reached.run in
    let same : h.piece ≡ piece =
    is_first piece_number h.piece h.other_pieces piece (distinct_first piece_number s.pieces h.piece h.other_pieces distinct.pieces h.is_out)
    (Contains-permutation s.pieces (h.piece ∷ h.other_pieces) piece h.is_out is_out) (sym h.is_number) in
    let busy : LeavesMarks h.piece Busy h.marks = subst (λ c. LeavesMarks h.piece c h.marks) is_busy h.leaves in
    none_fresh piece (record { is_out = is_out; is_tag = is_tag; is_fresh = ap (λ (p : Piece). p.fate) (sym same) ∙ busy.0 })

-- a return uses something up
finish_told : (old new : ManagerView) (tag : ℕ) (told : Told) → IsReached old.rules old.state → HasNoneFresh old tag → TellsFinish (untraced old) tag told → IsRightBy false told (untraced old) new → work new.state < work old.state
finish_told old new tag told reached none_fresh h by =
    let e : new.labels ≡ Device (Return h.piece.number h.class) ∷ ((map as_label h.starts ++ map as_answer told.answers) ++ end_labels told.ends) =
    by.in_order ∙ told_is told.own told.device h.no_own h.device in
    let run : Run old.rules old.state (Device (Return h.piece.number h.class) ∷ ((map as_label h.starts ++ map as_answer told.answers) ++ end_labels told.ends)) new.state =
    subst (λ ls. Run old.rules old.state ls new.state) e by.run in
    let back : Returns old.state h.piece.number h.class run.0 = device_step old.rules old.state (Return h.piece.number h.class) run.0 run.1 in
    let one : work run.0 < work old.state = returns_use old.rules old.state h.piece.number h.class run.0 (not_busy old.rules old.state tag h.piece h.class run.0 reached h.is_out h.is_tag none_fresh.none back) back in
    let rest : work new.state ≤ work run.0 =
    later_run old.rules run.0 ((map as_label h.starts ++ map as_answer told.answers) ++ end_labels told.ends) new.state
    (All-append IsLater _ _ (All-append IsLater _ _ (later_starts h.starts h.only_starts) (later_answers told.answers)) (later_end told.ends)) run.2 in
    omega arith
  where
    told_is : (own : List Label) (device : List DeviceLabel) → own ≡ [] → device ≡ Return h.piece.number h.class ∷ h.starts
        → ((own ++ map as_label device) ++ map as_answer told.answers) ++ end_labels told.ends
        ≡ Device (Return h.piece.number h.class) ∷ ((map as_label h.starts ++ map as_answer told.answers) ++ end_labels told.ends)
    told_is own device a b = rw (a, b) refl

-- where a piece was on the tag it came back; else nothing happened
abbrev pub FinishesOr : ManagerView → ℕ → ManagerView → Reply → Type 0
FinishesOr old tag new Done = work new.state < work old.state
FinishesOr old tag new reply = (new.state ≡ old.state) × All (HasOtherTag tag) new.state.pieces

pub finishes_or : (old new : ManagerView) (tag : ℕ) (reply : Reply) → IsReached old.rules old.state → HasNoneFresh old tag → IsRight (FinishReplies (untraced old) tag reply new) (untraced old) new
    → FinishesOr old tag (forgotten new) reply
finishes_or old new tag Done reached none_fresh h = finish_told old new tag h.told reached none_fresh h.replies.0 h.by
finishes_or old new tag Ignored reached none_fresh h =
    let same : new.state ≡ old.state = h.replies.0.same_state in
    (same, subst (λ (s : State). All (HasOtherTag tag) s.pieces) (sym same) h.replies.1)
finishes_or old new tag (HandleReply given) reached none_fresh h = absurd h.replies
finishes_or old new tag (Requested id) reached none_fresh h = absurd h.replies
finishes_or old new tag (Answered answer) reached none_fresh h = absurd h.replies
finishes_or old new tag (Refused reason bytes) reached none_fresh h = absurd h.replies

pub finish_quietly : (old new : ManagerView) (tag : ℕ) (reply : Reply) → IsRight (FinishReplies (untraced old) tag reply new) (untraced old) new → Quietly old (forgotten new)
finish_quietly old new tag Done h = quietly_by h.told old new h.replies.0.no_own h.by h.replies.1
finish_quietly old new tag Ignored h = quietly_by h.told old new (own_none h.told (untraced old) h.replies.0.nothing) h.by h.replies.2
finish_quietly old new tag (HandleReply given) h = absurd h.replies
finish_quietly old new tag (Requested id) h = absurd h.replies
finish_quietly old new tag (Answered answer) h = absurd h.replies
finish_quietly old new tag (Refused reason bytes) h = absurd h.replies

-- WHETHER A STEP WAS DONE

abbrev pub SaysDone : Bool → Reply → Type 0
SaysDone result reply = IsTrue result ↔ (reply ≡ Done)

not_true : false ≡ true → ⊥
not_true e = cc

same_kept : (old after : ManagerView) → after.state ≡ old.state → IsPermutation (tags_out old.state) (tags_out after.state) × (work after.state ≡ work old.state)
same_kept old after e = (subst (λ (s : State). IsPermutation (tags_out old.state) (tags_out s)) (sym e) (IsPermutation-refl _), ap (λ (s : State). work s) e)

pub acts_kept : (old after : ManagerView) (tag : ℕ) (reply : Reply) → ActsOr old tag after reply → IsPermutation (tags_out old.state) (tags_out after.state) × (work after.state ≡ work old.state)
acts_kept old after tag Done h = (h.same_tags, h.same_work)
acts_kept old after tag Ignored h = same_kept old after h.0
acts_kept old after tag (HandleReply given) h = same_kept old after h.0
acts_kept old after tag (Requested id) h = same_kept old after h.0
acts_kept old after tag (Answered answer) h = same_kept old after h.0
acts_kept old after tag (Refused reason bytes) h = same_kept old after h.0

pub acts_done : (result : Bool) (old after : ManagerView) (tag : ℕ) (reply : Reply) → SaysDone result reply → ActsOr old tag after reply
    → MatchBool result (fresh_count after.state < fresh_count old.state) (HasNoneFresh after tag)
acts_done true old after tag Done says h = h.fewer
acts_done true old after tag Ignored says h = let e : Ignored ≡ Done = says.0 refl in absurd (cc)
acts_done true old after tag (HandleReply given) says h = let e : HandleReply given ≡ Done = says.0 refl in absurd (cc)
acts_done true old after tag (Requested id) says h = let e : Requested id ≡ Done = says.0 refl in absurd (cc)
acts_done true old after tag (Answered answer) says h = let e : Answered answer ≡ Done = says.0 refl in absurd (cc)
acts_done true old after tag (Refused reason bytes) says h = let e : Refused reason bytes ≡ Done = says.0 refl in absurd (cc)
acts_done false old after tag Done says h = absurd (not_true (says.1 refl))
acts_done false old after tag Ignored says h = h.1
acts_done false old after tag (HandleReply given) says h = h.1
acts_done false old after tag (Requested id) says h = h.1
acts_done false old after tag (Answered answer) says h = h.1
acts_done false old after tag (Refused reason bytes) says h = h.1

pub finishes_done : (result : Bool) (old after : ManagerView) (tag : ℕ) (reply : Reply) → SaysDone result reply → FinishesOr old tag after reply
    → MatchBool result (work after.state < work old.state) ((after.state ≡ old.state) × All (HasOtherTag tag) after.state.pieces)
finishes_done true old after tag Done says h = h
finishes_done true old after tag Ignored says h = let e : Ignored ≡ Done = says.0 refl in absurd (cc)
finishes_done true old after tag (HandleReply given) says h = let e : HandleReply given ≡ Done = says.0 refl in absurd (cc)
finishes_done true old after tag (Requested id) says h = let e : Requested id ≡ Done = says.0 refl in absurd (cc)
finishes_done true old after tag (Answered answer) says h = let e : Answered answer ≡ Done = says.0 refl in absurd (cc)
finishes_done true old after tag (Refused reason bytes) says h = let e : Refused reason bytes ≡ Done = says.0 refl in absurd (cc)
finishes_done false old after tag Done says h = absurd (not_true (says.1 refl))
finishes_done false old after tag Ignored says h = h
finishes_done false old after tag (HandleReply given) says h = h
finishes_done false old after tag (Requested id) says h = h
finishes_done false old after tag (Answered answer) says h = h
finishes_done false old after tag (Refused reason bytes) says h = h

-- TAGS ONE BY ONE

abbrev pub IsFrom : ℕ → ℕ → Type 0
IsFrom tag t = tag ≤ t

all_of_map : {X Y : Type 0} (P : Y → Type 0) (f : X → Y) (xs : List X) → All P (map f xs) → All (λ (x : X). P (f x)) xs
all_of_map {X} P f [] h = All-nil (λ (x : X). P (f x))
all_of_map {X} P f (x ∷ xs) h = All-cons (λ (x : X). P (f x)) x xs (All-head P (f x) (map f xs) h) (all_of_map P f xs (All-tail P (f x) (map f xs) h))

pub from_zero : (ts : List ℕ) → All (IsFrom 0) ts
from_zero [] = All-nil (IsFrom 0)
from_zero (t ∷ ts) = All-cons (IsFrom 0) t ts (omega arith) (from_zero ts)

-- one tag more is free
pub from_next : (tag : ℕ) (pieces : List Piece) → All (IsFrom tag) (map piece_tag pieces) → All (HasOtherTag tag) pieces → All (IsFrom (tag + 1)) (map piece_tag pieces)
from_next tag [] from free = All-nil (IsFrom (tag + 1))
from_next tag (piece ∷ pieces) from free =
    All-cons (IsFrom (tag + 1)) piece.tag (map piece_tag pieces)
    (next piece.tag (All-head (IsFrom tag) piece.tag (map piece_tag pieces) from) (All-head (HasOtherTag tag) piece pieces free))
    (from_next tag pieces (All-tail (IsFrom tag) piece.tag (map piece_tag pieces) from) (All-tail (HasOtherTag tag) piece pieces free))
  where
    next : (t : ℕ) → tag ≤ t → t ≢ tag → tag + 1 ≤ t
    next t le other = omega arith

-- where none is out, none was
pub none_before : (old new : State) → IsPermutation (tags_out old) (tags_out new) → new.pieces ≡ [] → old.pieces ≡ []
none_before old new same none = no_tags old.pieces (none_there (tags_out new) (tags_out old) (ap (λ ps. map piece_tag ps) none) (IsPermutation-sym _ _ same))
  where
    no_tags : (pieces : List Piece) → map piece_tag pieces ≡ [] → pieces ≡ []
    no_tags [] e = refl
    no_tags (piece ∷ pieces) e = absurd (let k : piece.tag ∷ map piece_tag pieces ≡ [] = e in cc)

-- all tags are free
pub none_left : (depth tag : ℕ) (pieces : List Piece) → depth ≤ tag → All (IsOnTag depth) pieces → All (IsFrom tag) (map piece_tag pieces) → pieces ≡ []
none_left depth tag [] le on_tags from = refl
none_left depth tag (piece ∷ pieces) le on_tags from =
    let lt : piece.tag < depth = All-head (IsOnTag depth) piece pieces on_tags in
    let ge : tag ≤ piece.tag = All-head (IsFrom tag) piece.tag (map piece_tag pieces) from in
    absurd (omega arith)
