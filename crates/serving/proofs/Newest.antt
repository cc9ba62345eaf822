-- Labels behind which no piece came back.
use Rattle.serving.proofs.Common.{◌≡◌, inl, inr, ℕ, Bool, true, false, List, [], ◌∷◌, ◌++◌, map, refl, sym, ap, subst, ◌∙◌, arith, append_assoc, All, All-append, All-cons, All-contains, All-contains_itself, All-head, All-nil, All-tail, All-weaker, Contains, Contains-append_cases, Contains-append_left, Contains-append_right, Contains-permutation, IsPermutation, ClientRequest, Label, DeviceLabel, Answer, Handle, Refusal, Reply, ManagerView, Event, IsRight, IsTransferEvent, IsLed, there_mapped, as_label, DeletePending, DeviceBusy, InsufficientResources, InvalidDeviceRequest, InvalidHandle, InvalidParameter, NotFound}
use Rattle.srb.specs.declared.DeviceLabel.TheVariants.{Start, Act as ActLabel, Fault, Return}
use Rattle.machine.specs.declared.Label.TheVariants.{Call, Device, Removed as RemovedLabel}
use Rattle.machine.specs.Sending.{IsStart}
use Rattle.io_manager.specs.declared.Reply.TheVariants.{Handle as HandleReply, Ok as Done, Request as Requested, Answered, Refused, Ignored}
use Rattle.io_manager.specs.Right.{ActReplies, IsRight as IsRightCall, IsTurnedAway, Told, TransferReplies, as_answer, end_labels}
use Rattle.std.proofs.lemmas.List.Sorted.{length_permutation}
use Rattle.serving.specs.Beside.{IsNewest, IsNoReturn}
use Rattle.serving.specs.Elsewhere.{AreNewest}
use Rattle.serving.proofs.Called.{called}
use Rattle.serving.proofs.Carrying.{all_behind, asked_by, head_there}

-- WHERE A LABEL STANDS

record IsAmong {X : Type 0} (xs : List X) (x : X) : Type 0 where
  before : List X
  behind : List X
  is : xs ≡ before ++ (x ∷ behind)

not_in_none : {X : Type 0} (x : X) → Contains [] x → ⊥
not_in_none {X} x c = All-contains (λ (z : X). ⊥) [] x (All-nil (λ (z : X). ⊥)) c

only_one : {X : Type 0} (y x : X) → Contains (y ∷ []) x → y ≡ x
only_one {X} y x c = All-contains (λ (z : X). y ≡ z) (y ∷ []) x (All-cons (λ (z : X). y ≡ z) y [] refl (All-nil (λ (z : X). y ≡ z))) c

split_at : {X : Type 0} (xs : List X) (x : X) → Contains xs x → IsAmong xs x
split_at {X} [] x c = absurd (not_in_none x c)
split_at {X} (y ∷ xs) x c = elim (Contains-append_cases (y ∷ []) xs x c) [
  | inl here ↦ record { before = []; behind = xs; is = ap (λ (z : X). z ∷ xs) (only_one y x here) }
  | inr there ↦ record { before = y ∷ (split_at xs x there).before; behind = (split_at xs x there).behind; is = ap (λ (l : List X). y ∷ l) (split_at xs x there).is }
]

newest_by : (before ls : List Label) (l : Label) → IsAmong ls l → All IsNoReturn ls → IsNewest (before ++ ls) l
newest_by before ls l s none = record {
  before = before ++ s.before;
  behind = s.behind;
  among = ap (λ (x : List Label). before ++ x) s.is ∙ sym (append_assoc before s.before (l ∷ s.behind));
  no_return = All-tail IsNoReturn l s.behind (all_behind IsNoReturn s.before (l ∷ s.behind) (subst (λ (x : List Label). All IsNoReturn x) s.is none));
}

-- it is among the last labels, with which no piece came back
pub newest_of : (before ls : List Label) (l : Label) → Contains ls l → All IsNoReturn ls → IsNewest (before ++ ls) l
newest_of before ls l c none = newest_by before ls l (split_at ls l c) none

pub newest_more : (ls more : List Label) (l : Label) → IsNewest ls l → All IsNoReturn more → IsNewest (ls ++ more) l
newest_more ls more l n none = record {
  before = n.before;
  behind = n.behind ++ more;
  among = ap (λ (x : List Label). x ++ more) n.among ∙ append_assoc n.before (l ∷ n.behind) more;
  no_return = All-append IsNoReturn n.behind more n.no_return none;
}

pub newest_behind : (first ls : List Label) (l : Label) → IsNewest ls l → IsNewest (first ++ ls) l
newest_behind first ls l n = record {
  before = first ++ n.before;
  behind = n.behind;
  among = ap (λ (x : List Label). first ++ x) n.among ∙ sym (append_assoc first n.before (l ∷ n.behind));
  no_return = n.no_return;
}

pub newest_there : (ls : List Label) (l : Label) → IsNewest ls l → Contains ls l
newest_there ls l n = subst (λ (x : List Label). Contains x l) (sym n.among) (Contains-append_right n.before (l ∷ n.behind) l (head_there l n.behind))

-- WHAT A STEP TELLS

answers_return_none : (xs : List Answer) → All IsNoReturn (map as_answer xs)
answers_return_none [] = All-nil IsNoReturn
answers_return_none (x ∷ xs) = All-cons IsNoReturn (as_answer x) (map as_answer xs) tt (answers_return_none xs)

ends_return_none : (b : Bool) → All IsNoReturn (end_labels b)
ends_return_none true = All-cons IsNoReturn RemovedLabel [] tt (All-nil IsNoReturn)
ends_return_none false = All-nil IsNoReturn

starts_return_none : (ls : List DeviceLabel) → All IsStart ls → All IsNoReturn (map as_label ls)
starts_return_none [] all = All-nil IsNoReturn
starts_return_none (Start piece tag block ∷ ls) all = All-cons IsNoReturn (Device (Start piece tag block)) (map as_label ls) tt (starts_return_none ls (All-tail IsStart (Start piece tag block) ls all))
starts_return_none (ActLabel piece bytes ∷ ls) all = absurd (All-head IsStart (ActLabel piece bytes) ls all)
starts_return_none (Fault piece ∷ ls) all = absurd (All-head IsStart (Fault piece) ls all)
starts_return_none (Return piece class ∷ ls) all = absurd (All-head IsStart (Return piece class) ls all)

-- behind a step's own labels and the device's come its answers
newest_told : (own device : List Label) (told : Told) (labels : List Label) (answer : Answer) → labels ≡ ((own ++ device) ++ map as_answer told.answers) ++ end_labels told.ends → Contains told.answers answer → IsNewest labels (as_answer answer)
newest_told own device told labels answer order c =
    let last : List Label = map as_answer told.answers ++ end_labels told.ends in
    let whole : labels ≡ (own ++ device) ++ last = order ∙ append_assoc (own ++ device) (map as_answer told.answers) (end_labels told.ends) in
    let none : All IsNoReturn last = All-append IsNoReturn (map as_answer told.answers) (end_labels told.ends) (answers_return_none told.answers) (ends_return_none told.ends) in
    subst (λ (ls : List Label). IsNewest ls (as_answer answer)) (sym whole)
    (newest_of (own ++ device) last (as_answer answer) (Contains-append_left (map as_answer told.answers) (end_labels told.ends) (as_answer answer) (there_mapped as_answer told.answers answer c)) none)

one_newest : (old new : ManagerView) (l : IsLed old new) → old.answers ≡ [] → (answer : Answer) → Contains new.answers answer → IsNewest new.labels (as_answer answer)
one_newest old new l none answer c = elim (Contains-append_cases l.told.answers old.answers answer (Contains-permutation _ _ answer l.by.untaken c)) [
  | inl there ↦ newest_told l.told.own (map as_label l.told.device) l.told new.labels answer l.by.in_order there
  | inr there ↦ absurd (not_in_none answer (subst (λ (xs : List Answer). Contains xs answer) none there))
]

-- where no answer waited before
pub all_newest : (old new : ManagerView) (l : IsLed old new) → old.answers ≡ [] → AreNewest new.labels (record new { labels = [] })
all_newest old new l none =
    All-weaker (Contains new.answers) (λ (answer : Answer). IsNewest new.labels (as_answer answer)) (λ (answer : Answer) c. one_newest old new l none answer c) new.answers (All-contains_itself new.answers)

-- AN ACT ANSWERS NOTHING

none_left : (xs : List Answer) → IsPermutation xs [] → xs ≡ []
none_left [] p = refl
none_left (x ∷ xs) p = absurd (let e = length_permutation (x ∷ xs) [] p in omega (arith, e))

none_told : (told old new : List Answer) → told ≡ [] → old ≡ [] → IsPermutation new (told ++ old) → new ≡ []
none_told told old new a b p =
    none_left new (subst (λ (o : List Answer). IsPermutation new ([] ++ o)) b (subst (λ (t : List Answer). IsPermutation new (t ++ old)) a p))

pub act_answers_none : (old new : ManagerView) (tag : ℕ) (reply : Reply) → IsRightCall (ActReplies old tag reply new) old new → old.answers ≡ [] → new.answers ≡ []
act_answers_none old new tag Done h none = none_told h.told.answers old.answers new.answers h.replies.0.ends_none.none_answered none h.by.untaken
act_answers_none old new tag Ignored h none = none_told h.told.answers old.answers new.answers (ap (λ (t : Told). t.answers) h.replies.0.nothing) none h.by.untaken
act_answers_none old new tag (HandleReply given) h none = absurd h.replies
act_answers_none old new tag (Requested id) h none = absurd h.replies
act_answers_none old new tag (Answered answer) h none = absurd h.replies
act_answers_none old new tag (Refused reason bytes) h none = absurd h.replies

-- A CALL LETS NO PIECE COME BACK

none_own : (told : Told) → told.own ≡ [] → told.device ≡ [] → All IsNoReturn (told.own ++ map as_label told.device)
none_own told own device =
    subst (λ (ls : List Label). All IsNoReturn (ls ++ map as_label told.device)) (sym own)
    (subst (λ (ls : List DeviceLabel). All IsNoReturn (map as_label ls)) (sym device) (All-nil IsNoReturn))

turned_away : (old new : ManagerView) (q : ClientRequest) (reason : Refusal) (told : Told) → IsTurnedAway old q reason new told → All IsNoReturn (told.own ++ map as_label told.device)
turned_away old new q DeviceBusy told h = none_own told (ap (λ (t : Told). t.own) h.1.nothing) (ap (λ (t : Told). t.device) h.1.nothing)
turned_away old new q InsufficientResources told h = none_own told (ap (λ (t : Told). t.own) h.2.nothing) (ap (λ (t : Told). t.device) h.2.nothing)
turned_away old new q DeletePending told h = absurd h
turned_away old new q InvalidDeviceRequest told h = absurd h
turned_away old new q InvalidHandle told h = absurd h
turned_away old new q InvalidParameter told h = absurd h
turned_away old new q NotFound told h = absurd h

both_own : (told : Told) (one two : Label) → IsNoReturn one → IsNoReturn two → told.own ≡ one ∷ two ∷ [] → told.device ≡ [] → All IsNoReturn (told.own ++ map as_label told.device)
both_own told one two a b own device =
    subst (λ (ls : List Label). All IsNoReturn (ls ++ map as_label told.device)) (sym own)
    (subst (λ (ls : List DeviceLabel). All IsNoReturn (one ∷ two ∷ map as_label ls)) (sym device)
    (All-cons IsNoReturn one (two ∷ []) a (All-cons IsNoReturn two [] b (All-nil IsNoReturn))))

called_so : (old new : ManagerView) (handle : Handle) (q : ClientRequest) (buffer : List ℕ) (reply : Reply) (told : Told) → TransferReplies old handle q buffer reply new told → All IsNoReturn (told.own ++ map as_label told.device)
called_so old new handle q buffer (Requested id) told h =
    subst (λ (ls : List Label). All IsNoReturn (ls ++ map as_label told.device)) (sym h.own)
    (All-cons IsNoReturn (Call id.number q) (map as_label told.device) tt (starts_return_none told.device h.only_starts))
called_so old new handle q buffer (Answered answer) told h = both_own told _ _ tt tt (ap (λ (t : Told). t.own) h.0.tells) (ap (λ (t : Told). t.device) h.0.tells)
called_so old new handle q buffer (Refused reason bytes) told h = elim h.1 [
  | inl at_once ↦ both_own told _ _ tt tt (ap (λ (t : Told). t.own) at_once.tells) (ap (λ (t : Told). t.device) at_once.tells)
  | inr away ↦ turned_away old new q reason told away
]
called_so old new handle q buffer (HandleReply given) told h = absurd h
called_so old new handle q buffer Done told h = absurd h
called_so old new handle q buffer Ignored told h = absurd h

labels_return_none : (told : Told) (labels : List Label) → labels ≡ ((told.own ++ map as_label told.device) ++ map as_answer told.answers) ++ end_labels told.ends → All IsNoReturn (told.own ++ map as_label told.device) → All IsNoReturn labels
labels_return_none told labels order none =
    subst (λ (ls : List Label). All IsNoReturn ls) (sym order)
    (All-append IsNoReturn _ _ (All-append IsNoReturn _ _ none (answers_return_none told.answers)) (ends_return_none told.ends))

pub calls_return_none : (old new : ManagerView) (event : Event) (reply : Reply) → IsTransferEvent event → IsRight old event reply new → All IsNoReturn new.labels
calls_return_none old new event reply transfer right =
    let ask = asked_by old event transfer in
    let h = called old event ask.0 reply new ask.1 right in
    labels_return_none h.right.told new.labels h.right.by.in_order (called_so old new h.handle ask.0 h.buffer reply h.right.told h.right.replies.replies)
