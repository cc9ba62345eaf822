-- A stack is asked for a read, a write or a flush, while others are out.
use Rattle.serving.proofs.Common.{◌≡◌, inr, ℕ, List, [], ◌∷◌, ◌++◌, map, Option, Some, None, All, All-weaker, All-contains_itself, Contains, Contains-append_left, Contains-append_right, sym, ap, subst, Success, Label, ManagerView, DiskView, StandsIn, quiet, IsTransferEvent, IsRight, as_label, without_bytes, Answer, Id, Refusal, Reply, Event}
use Rattle.machine.specs.declared.Label.TheVariants.{Call, Answer as AnswerLabel}
use Rattle.io_manager.specs.declared.Reply.TheVariants.{Request as Requested, Answered, Refused}
use Rattle.io_manager.specs.Right.{TakesAnswer, Told, as_answer, end_labels}
use Rattle.compose.specs.Journaled.{StepsKeepEntries, StepsStayApart}
use Rattle.serving.specs.Beside.{GoesBeside, HasAnswer, IsNewIn}
use Rattle.serving.specs.Elsewhere.{AsksBeside, TakesBeside, gone_by}
use Rattle.serving.specs.declared.elsewhere.Reached.TheVariants.{Called as ReachedCalled, Answered as ReachedAnswered, Refused as ReachedRefused}
use Rattle.serving.proofs.Called.{called}
use Rattle.serving.proofs.Carrying.{IsReplyToCall, asked_by, asked_handles, call_there, head_there, no_act, others_stand, replied}
use Rattle.serving.proofs.Newest.{calls_return_none, newest_of}
use Rattle.serving.proofs.Siding.{beside_taken, others_beside}
use Rattle.serving.proofs.Undone.{transfer_undoes}

-- a request of no bytes was answered at once
answered_there : (old now : ManagerView) (event : Event) (answer : Answer) → IsTransferEvent event → IsRight old event (Answered answer) now → HasAnswer IsNewIn old (gone_by now.labels) event answer
answered_there old now event answer transfer right =
    let ask = asked_by old event transfer in
    let h = called old event ask.0 (Answered answer) now ask.1 right in
    let number = old.state.next_request in
    let own : h.right.told.own ≡ Call number (without_bytes ask.0) ∷ AnswerLabel number Success 0 [] ∷ [] = ap (λ (t : Told). t.own) h.right.replies.replies.0.tells in
    let labels : now.labels ≡ ((h.right.told.own ++ map as_label h.right.told.device) ++ map as_answer h.right.told.answers) ++ end_labels h.right.told.ends = h.right.by.in_order in
    let there : (l : Label) → Contains h.right.told.own l → Contains now.labels l =
    λ l c. subst (λ (ls : List Label). Contains ls l) (sym labels) (Contains-append_left _ _ l (Contains-append_left _ _ l (Contains-append_left _ _ l c))) in
    let same : answer ≡ record { number = number; status = Success; information = 0; bytes = [] } = h.right.replies.replies.1 in
    record {
      request = ask.0;
      asks = ask.1;
      called =
          inr (there (Call answer.number (without_bytes ask.0))
          (subst (λ (ls : List Label). Contains ls (Call answer.number (without_bytes ask.0))) (sym own)
          (subst (λ (n : ℕ). Contains (Call number (without_bytes ask.0) ∷ AnswerLabel number Success 0 [] ∷ []) (Call n (without_bytes ask.0))) (sym (ap (λ (a : Answer). a.number) same)) (head_there (Call number (without_bytes ask.0)) (AnswerLabel number Success 0 [] ∷ [])))));
      answered =
          newest_of [] now.labels (as_answer answer)
          (there (as_answer answer)
          (subst (λ (ls : List Label). Contains ls (as_answer answer)) (sym own)
          (subst (λ (a : Answer). Contains (Call number (without_bytes ask.0) ∷ AnswerLabel number Success 0 [] ∷ []) (as_answer a)) (sym same)
          (Contains-append_right (Call number (without_bytes ask.0) ∷ []) (AnswerLabel number Success 0 [] ∷ []) (AnswerLabel number Success 0 []) (head_there (AnswerLabel number Success 0 []) [])))))
          (calls_return_none old now event (Answered answer) transfer right);
    }

module _ (keep : StepsKeepEntries) (apart : StepsStayApart) (old now after : ManagerView) (event : Event) (transfer : IsTransferEvent event) (is_after : after ≡ record now { labels = [] }) where
  beside : (reply : Reply) → IsRight old event reply now → GoesBeside old now.labels [] after
  beside reply right =
      subst (λ (v : ManagerView). GoesBeside old now.labels [] v) (sym is_after) (others_beside keep apart old now event reply (no_act event transfer) (transfer_undoes event transfer) right (asked_handles old now event reply transfer right))

  pub asks_called : (id : Id) → IsRight old event (Requested id) now → AsksBeside old event (ReachedCalled id.number) after
  asks_called id right =
      let ask = asked_by old event transfer in
      record {
        labels = now.labels;
        went = beside (Requested id) right;
        no_return = calls_return_none old now event (Requested id) transfer right;
        so = record { request = ask.0; asks = ask.1; called = call_there old now ask.0 id (called old event ask.0 (Requested id) now ask.1 right) };
      }

  pub asks_answered : (answer : Answer) → IsRight old event (Answered answer) now → AsksBeside old event (ReachedAnswered answer) after
  asks_answered answer right = record {
    labels = now.labels;
    went = beside (Answered answer) right;
    no_return = calls_return_none old now event (Answered answer) transfer right;
    so = answered_there old now event answer transfer right;
  }

  pub asks_refused : (reason : Refusal) (bytes : List ℕ) → IsRight old event (Refused reason bytes) now → AsksBeside old event (ReachedRefused reason) after
  asks_refused reason bytes right = record {
    after = now;
    bytes = bytes;
    right = right;
    went = beside (Refused reason bytes) right;
    no_return = calls_return_none old now event (Refused reason bytes) transfer right;
  }

  pub asks_stand : (reply : Reply) → IsRight old event reply now → (disk : DiskView) → StandsIn old disk → StandsIn after disk
  asks_stand reply right disk s = subst (λ (v : ManagerView). StandsIn v disk) (sym is_after) (others_stand keep apart old now event reply (no_act event transfer) right disk s)

  pub asks_no_other : (reply : Reply) → IsRight old event reply now → IsReplyToCall reply
  asks_no_other reply right = replied old now event reply transfer right

pub takes_beside : (old : ManagerView) (found : Option Answer) (new : ManagerView) → TakesAnswer old found new → TakesBeside old found new
takes_beside old None new t = t
takes_beside old (Some answer) new t = (
  subst (λ (xs : List Answer). Contains xs answer) (sym t.1) (head_there answer t.0),
  subst (λ (v : ManagerView). GoesBeside old [] [] v) (sym t.3)
      (beside_taken old t.0
      (subst (λ (xs : List Answer). All (Contains xs) t.0) (sym t.1)
      (All-weaker (Contains t.0) (Contains (answer ∷ t.0)) (λ (a : Answer) c. Contains-append_right (answer ∷ []) t.0 a c) t.0 (All-contains_itself t.0)))),
)

pub quietly_taken : (old : ManagerView) (found : Option Answer) (new : ManagerView) → TakesAnswer old found new → TakesAnswer (quiet old) found (quiet new)
quietly_taken old None new t = (t.0, ap quiet t.1)
quietly_taken old (Some answer) new t = (t.0, t.1, t.2, ap quiet t.3)

pub taken_stands : (old : ManagerView) (found : Option Answer) (new : ManagerView) → TakesAnswer old found new → (disk : DiskView) → StandsIn old disk → StandsIn new disk
taken_stands old None new t disk s = subst (λ (v : ManagerView). StandsIn v disk) (sym t.1) s
taken_stands old (Some answer) new t disk s = subst (λ (v : ManagerView). StandsIn v disk) (sym t.3) (record { apart = s.apart; sector_size = s.sector_size; sectors = s.sectors })

pub taken_labels : (old : ManagerView) (found : Option Answer) (new : ManagerView) → TakesAnswer old found new → new.labels ≡ old.labels
taken_labels old None new t = ap (λ (v : ManagerView). v.labels) t.1
taken_labels old (Some answer) new t = ap (λ (v : ManagerView). v.labels) t.3
