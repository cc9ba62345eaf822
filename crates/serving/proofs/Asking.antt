-- What was told of one request, as a round.
use Rattle.serving.proofs.Common.{◌≡◌, inl, inr, ℕ, Bool, List, [], ◌∷◌, Result, Ok, Err, refl, ap, subst, ◌∙◌, arith, zero, suc, All-nil, All-cons, All-contains, All-weaker, Contains, MatchResult, Answer, ManagerView, ClientRequest, Handle, Refusal, Label, Event, Read, Write, Flush, Open, Close, CancelIoEx, Mark, QueryRemove, CancelRemove, Remove, SurpriseRemove, Act, Finish, Reset, Asks, IsQuiet, IsRight, IsTransferEvent, IsAnsweredBy, IsRefusedAtOnce, IsAsked, FiledView, CarriedView, ComesTo, without_bytes, status_of_refusal, NtStatus, Success}
use Rattle.std.specs.Prelude.{◌⊎◌}
use Rattle.machine.specs.declared.Label.TheVariants.{Call, Device, Answer as AnswerLabel, Cancel, Pause, Resume, Remove as RemoveLabel, Surprise, Removed}
use Rattle.nbd.specs.declared.requests.ReplyError.{ReplyError}
use Rattle.io_manager.specs.declared.Refusal.TheVariants.{InvalidHandle, InvalidParameter, DeletePending, DeviceBusy, InsufficientResources, InvalidDeviceRequest, NotFound}
use Rattle.io_manager.specs.declared.Reply.TheVariants.{Refused}
use Rattle.io_manager.specs.Right.{IsAnsweredAtOnce, IsTurnedAway, Told, TransferReplies, as_answer, labels_of as told_labels}
use Rattle.file_sessions.specs.OneByOne.{IsOfOne, IsRound, Round, labels_of}

-- the round calls this request, with its bytes or without
abbrev pub IsCallOf : ClientRequest → Round → Type 0
IsCallOf q r = (r.request ≡ q) ⊎ (r.request ≡ without_bytes q)

-- what was told of the request is a round
pub record IsOne (q : ClientRequest) (done : Result (List ℕ) ReplyError) (labels : List Label) : Type 0 where
  pub round : Round
  pub labels_are : labels ≡ labels_of round
  pub is_round : IsRound round
  pub called : IsCallOf q round
  pub good : (bytes : List ℕ) → done ≡ Ok bytes → round.status ≡ Success

-- or nothing was told, and it failed
abbrev pub IsOneOrNone : ClientRequest → Result (List ℕ) ReplyError → List Label → Type 0
IsOneOrNone q done labels = IsOne q done labels ⊎ ((labels ≡ []) × ((bytes : List ℕ) → done ≡ Ok bytes → ⊥))

first_or_other : {X : Type 0} (x : X) (xs : List X) (y : X) → Contains (x ∷ xs) y → (x ≡ y) ⊎ Contains xs y
first_or_other x xs y (zero, low, is) = inl is
first_or_other x xs y (suc k, low, is) = inr (k, omega (arith, low), is)

of_one : (l : Label) → IsQuiet l → IsOfOne l
of_one (Device label) h = tt
of_one (AnswerLabel number status informed bytes) h = tt
of_one Removed h = tt
of_one (Call number q) h = absurd h
of_one (Cancel number) h = absurd h
of_one Pause h = absurd h
of_one Resume h = absurd h
of_one RemoveLabel h = absurd h
of_one Surprise h = absurd h

-- ANSWERED

module _ (old : CarriedView) (event : Event) (answer : Answer) (done : Result (List ℕ) ReplyError) (labels : List Label) (full : Bool) (h : IsAnsweredBy old event answer labels) (comes : ComesTo full (Ok answer) done) where
  by_call : (q : ClientRequest) → Contains labels (Call answer.number q) → (h.alone.number ≡ answer.number) × (h.alone.request ≡ q)
  by_call q there =
      elim (first_or_other (Call h.alone.number h.alone.request) h.alone.behind (Call answer.number q) (subst (λ (ls : List Label). Contains ls (Call answer.number q)) h.alone.first there)) [
        | inl same ↦ (cc (same), cc (same))
        | inr other ↦ absurd (All-contains IsQuiet h.alone.behind (Call answer.number q) h.alone.all_quiet other)
      ]

  called : (h.alone.number ≡ answer.number) × ((h.alone.request ≡ h.request) ⊎ (h.alone.request ≡ without_bytes h.request))
  called =
      elim h.called [
        | inl whole ↦ ((by_call h.request whole).0, inl (by_call h.request whole).1)
        | inr bare ↦ ((by_call (without_bytes h.request) bare).0, inr (by_call (without_bytes h.request) bare).1)
      ]

  answered : Contains h.alone.behind (as_answer answer)
  answered =
      elim (first_or_other (Call h.alone.number h.alone.request) h.alone.behind (as_answer answer) (subst (λ (ls : List Label). Contains ls (as_answer answer)) h.alone.first h.answered)) [
        | inl same ↦ absurd (cc (same))
        | inr other ↦ other
      ]

  good : (done : Result (List ℕ) ReplyError) → ComesTo full (Ok answer) done → (bytes : List ℕ) → done ≡ Ok bytes → answer.status ≡ Success
  good (Ok given) comes bytes e = comes.0
  good (Err error) comes bytes e = absurd (cc (e))

  pub answered_one : IsOne h.request done labels
  answered_one = record {
    round = record { number = answer.number; request = h.alone.request; status = answer.status; informed = answer.information; bytes = answer.bytes; behind = h.alone.behind };
    labels_are = h.alone.first ∙ ap (λ (n : ℕ). Call n h.alone.request ∷ h.alone.behind) called.0;
    is_round = record { alone = All-weaker IsQuiet IsOfOne of_one h.alone.behind h.alone.all_quiet; answered = answered };
    called = called.1;
    good = good done comes;
  }

-- REFUSED

-- what is told at once
at_once : (old : ManagerView) (q : ClientRequest) (status : NtStatus) (new : ManagerView) (told : Told) (done : Result (List ℕ) ReplyError) (labels : List Label) → IsAnsweredAtOnce old q status new told → labels ≡ told_labels told → ((bytes : List ℕ) → done ≡ Ok bytes → ⊥)
    → IsOne q done labels
at_once old q status new told done labels h is failed = record {
  round = record {
    number = old.state.next_request;
    request = without_bytes q;
    status = status;
    informed = 0;
    bytes = [];
    behind = AnswerLabel old.state.next_request status 0 [] ∷ [];
  };
  labels_are = is ∙ ap (λ (t : Told). told_labels t) h.tells;
  is_round = record { alone = All-cons IsOfOne (AnswerLabel old.state.next_request status 0 []) [] tt (All-nil IsOfOne); answered = (0, omega arith, refl) };
  called = inr refl;
  good = λ bytes e. absurd (failed bytes e);
}

turned : (old : ManagerView) (q : ClientRequest) (reason : Refusal) (new : ManagerView) (told : Told) → IsTurnedAway old q reason new told → told_labels told ≡ []
turned old q DeviceBusy new told h = ap (λ (t : Told). told_labels t) h.1.nothing
turned old q InsufficientResources new told h = ap (λ (t : Told). told_labels t) h.2.nothing
turned old q InvalidHandle new told h = absurd h
turned old q InvalidParameter new told h = absurd h
turned old q DeletePending new told h = absurd h
turned old q InvalidDeviceRequest new told h = absurd h
turned old q NotFound new told h = absurd h

refused_so : (old : ManagerView) (handle : Handle) (q : ClientRequest) (buffer : List ℕ) (reason : Refusal) (bytes : List ℕ) (new : ManagerView) (told : Told) (done : Result (List ℕ) ReplyError) (labels : List Label)
    → TransferReplies old handle q buffer (Refused reason bytes) new told → labels ≡ told_labels told → ((bytes : List ℕ) → done ≡ Ok bytes → ⊥) → IsOneOrNone q done labels
refused_so old handle q buffer reason bytes new told done labels (same, inl h) is failed = inl (at_once old q (status_of_refusal reason) new told done labels h is failed)
refused_so old handle q buffer reason bytes new told done labels (same, inr h) is failed = inr (is ∙ turned old q reason new told h, failed)

-- ONE REQUEST

-- what this event asks for
pub record AskedFor (old : ManagerView) (event : Event) (done : Result (List ℕ) ReplyError) (labels : List Label) : Type 0 where
  pub request : ClientRequest
  pub asks : Asks old event request
  pub one : IsOneOrNone request done labels

never_good : (full : Bool) (reason : Refusal) (done : Result (List ℕ) ReplyError) → ComesTo full (Err reason) done → (bytes : List ℕ) → done ≡ Ok bytes → ⊥
never_good full reason (Ok given) comes bytes e = comes
never_good full reason (Err error) comes bytes e = cc (e)

refused_one : (old : CarriedView) (event : Event) (reason : Refusal) (done : Result (List ℕ) ReplyError) (labels : List Label) (after : ManagerView) (bytes : List ℕ) (failed : (bytes : List ℕ) → done ≡ Ok bytes → ⊥) → IsTransferEvent event
    → IsRight (record old.stack { answers = [] }) event (Refused reason bytes) after → labels ≡ after.labels → AskedFor old.stack event done labels
refused_one old (Read handle offset buffer) reason done labels after bytes failed of right told = record {
  request = _;
  asks = refl;
  one = refused_so (record old.stack { answers = [] }) handle _ buffer reason bytes after right.told done labels right.replies.replies (told ∙ right.by.in_order) failed;
}
refused_one old (Write handle offset sent through) reason done labels after bytes failed of right told = record {
  request = _;
  asks = refl;
  one = refused_so (record old.stack { answers = [] }) handle _ sent reason bytes after right.told done labels right.replies.replies (told ∙ right.by.in_order) failed;
}
refused_one old (Flush handle) reason done labels after bytes failed of right told = record {
  request = _;
  asks = refl;
  one = refused_so (record old.stack { answers = [] }) handle _ [] reason bytes after right.told done labels right.replies.replies (told ∙ right.by.in_order) failed;
}
refused_one old (Open partition) reason done labels after bytes failed of right told = absurd of
refused_one old (Close handle) reason done labels after bytes failed of right told = absurd of
refused_one old (CancelIoEx handle target) reason done labels after bytes failed of right told = absurd of
refused_one old (Mark number) reason done labels after bytes failed of right told = absurd of
refused_one old QueryRemove reason done labels after bytes failed of right told = absurd of
refused_one old CancelRemove reason done labels after bytes failed of right told = absurd of
refused_one old Remove reason done labels after bytes failed of right told = absurd of
refused_one old SurpriseRemove reason done labels after bytes failed of right told = absurd of
refused_one old (Act tag) reason done labels after bytes failed of right told = absurd of
refused_one old (Finish tag) reason done labels after bytes failed of right told = absurd of
refused_one old Reset reason done labels after bytes failed of right told = absurd of

pub asked_for : (old : FiledView) (event : Event) (done : Result (List ℕ) ReplyError) (new : FiledView) (h : IsAsked old event done new) → IsTransferEvent event → AskedFor old.carried.stack event done h.requests.labels
asked_for old event done new h of = by_result h.result h.requests.answered h.comes_to
  where
    by_result : (result : Result Answer Refusal)
        → MatchResult result (λ answer. IsAnsweredBy old.carried event answer h.requests.labels) (λ reason. IsRefusedAtOnce old.carried event reason h.requests.labels h.requests.deeds) → ComesTo new.carried.disk.full result done
        → AskedFor old.carried.stack event done h.requests.labels
    by_result (Ok answer) by comes = record { request = by.request; asks = by.asks; one = inl (answered_one old.carried event answer done h.requests.labels new.carried.disk.full by comes) }
    by_result (Err reason) by comes =
        refused_one old.carried event reason done h.requests.labels by.after by.bytes (never_good new.carried.disk.full reason done comes) of by.refused by.told
