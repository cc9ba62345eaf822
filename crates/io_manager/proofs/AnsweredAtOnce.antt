-- Calls that end where they begin are right steps: those that are refused, those of no bytes, and those past the last number.
use Rattle.std.proofs.Common.{◌≡◌, ◌<◌, ◌≤◌, inl, inr, ℕ, ◌+◌, Bool, true, false, List, [], ◌∷◌, ◌++◌, Some, None, refl, sym, ◌∙◌, ap, subst, arith}
use Rattle.io_manager.proofs.Common.{deque_capacity, IsNone, All-weaker, NtStatus, Kind, ClientRequest, Label, refusal, Run, DeviceView, Handle, DeviceBusy, Reply, Refused, AtOnce, Limits, Tables, ManagerView, number_limit, are_used_up, call_on, without_bytes, tells_nothing, TransferReplies, CallReplies, IsRight, status_at_once, AnswersAtOnce, reply_at_once}
use Rattle.machine.specs.declared.Label.TheVariants.{Call, Answer as AnswerLabel}
use Rattle.io_manager.specs.declared.admission.AtOnce.TheVariants.{Empty, Refused as RefusedFor}
use Rattle.io_manager.specs.inside.Sound.{own_places, shown_state, is_gone, view_of, IsSpotted, WasGiven, IsSound, ManagerKept}
use Rattle.io_manager.proofs.Refusing.{Run-refused}
use Rattle.io_manager.proofs.Handing.{numbers_last}
use Rattle.io_manager.proofs.Stepping.{ManagerKept-still}
use Rattle.io_manager.proofs.Quiet.{right_alone, tells_own, IsRightBy-unmoved}

at_once_sound : (limits : Limits) (below : DeviceView) (tables : Tables) (q : ClientRequest) (status : NtStatus) (tables1 : Tables) → IsSound limits below tables → are_used_up tables.next_request ≡ false
    → AnswersAtOnce tables q status tables1 → IsSound limits below tables1
at_once_sound limits below tables q status tables1 h last answers =
    let low : tables.next_request < number_limit = numbers_last tables.next_request last in
    let rising : below.state.next_request ≤ tables.next_request = h.numbers.rising in
    let submitted : below.submitted ≤ tables.next_request = h.numbers.submitted in
    subst (IsSound limits below) (sym answers.after) (record {
      fits = h.fits;
      numbers = record { requests = omega arith; handles = h.numbers.handles; rising = omega arith; submitted = omega arith };
      held = h.held;
      few = h.few;
      places = record {
        labels = answers.label_places.0 ∙ h.places.labels;
        answered = h.places.answered;
        alike = h.places.alike ∙ sym answers.label_places.1;
        label_bytes = answers.label_places.2 ∙ h.places.label_bytes;
        answer_bytes = h.places.answer_bytes;
        untaken = h.places.untaken;
        handles = h.places.handles;
        requests = h.places.requests;
      };
      on_map = h.on_map;
      topmost = h.topmost;
      spots =
          All-weaker (IsSpotted tables.next_request tables.requests) (IsSpotted (tables.next_request + 1) tables.requests)
          (λ packet s. record { given = let before : packet.number < tables.next_request = s.given in omega arith; spot = s.spot }) below.packets h.spots;
      in_state = h.in_state;
      none_put_by = h.none_put_by;
      rising = h.rising;
      given = All-weaker (WasGiven tables.next_request) (WasGiven (tables.next_request + 1)) (λ answer low. omega arith) tables.untaken.items h.given;
      apart = h.apart;
      chained = h.chained;
      numbered = h.numbered;
      counted = h.counted;
    })

module _ (limits : Limits) (below : DeviceView) (tables : Tables) (handle : Handle) (kind : Kind) (offset : ℕ) (buffer : List ℕ) (through : Bool) (h : IsSound limits below tables) (free : IsNone below.state.owed)
    (taken : (tables.labels.items ≡ []) × (below.adapter.labels ≡ [])) where
  abbrev view : ManagerView
  view = view_of limits below tables

  abbrev called : ClientRequest
  called = call_on view handle kind offset buffer through

  used_up_right : (reply : Reply) → are_used_up tables.next_request ≡ true → reply ≡ Refused DeviceBusy buffer → IsRight (CallReplies view handle called buffer reply view) view view
  used_up_right reply used_up is_reply =
      subst (λ r. IsRight (CallReplies view handle called buffer r view) view view) (sym is_reply) (record {
        told = tells_nothing view;
        replies = record {
          replies = (refl, inr (used_up, record { nothing = refl; same_state = refl; same_adapter = refl }));
          handles = record { handles = refl; next_handle = refl };
        };
        by = IsRightBy-unmoved view taken.0 taken.1;
      })

  abbrev own : NtStatus → List Label
  own status = Call tables.next_request (without_bytes called) ∷ AnswerLabel tables.next_request status 0 [] ∷ []

  replied : (at_once : AtOnce) (new : ManagerView) → new.adapter ≡ view.adapter → are_used_up tables.next_request ≡ false → refusal view.rules view.state called ≡ Some (status_at_once at_once)
      → TransferReplies view handle called buffer (reply_at_once tables.next_request buffer at_once) new (tells_own view (own (status_at_once at_once)))
  replied Empty new still last refused = (record { numbers_last = last; is_refused = refused; tells = refl; same_adapter = still }, refl)
  replied (RefusedFor reason) new still last refused = (refl, inl (record { numbers_last = last; is_refused = refused; tells = refl; same_adapter = still }))

  at_once_right : (q : ClientRequest) (at_once : AtOnce) (reply : Reply) (tables1 : Tables) → are_used_up tables.next_request ≡ false → q ≡ without_bytes called
      → refusal view.rules view.state q ≡ Some (status_at_once at_once) → AnswersAtOnce tables q (status_at_once at_once) tables1 → reply ≡ reply_at_once tables.next_request buffer at_once
      → IsRight (CallReplies view handle called buffer reply (view_of limits below tables1)) view (view_of limits below tables1)
  at_once_right q at_once reply tables1 last is_call refused answers is_reply =
      subst (λ r. IsRight (CallReplies view handle called buffer r (view_of limits below tables1)) view (view_of limits below tables1)) (sym is_reply)
      (subst (λ t. IsRight (CallReplies view handle called buffer (reply_at_once tables.next_request buffer at_once) (view_of limits below t)) view (view_of limits below t)) (sym answers.after) (record {
        told = tells_own view (own (status_at_once at_once));
        replies = record {
          replies = replied at_once _ refl last (subst (λ r. refusal view.rules view.state r ≡ Some (status_at_once at_once)) is_call refused);
          handles = record { handles = refl; next_handle = refl };
        };
        by =
            right_alone view (own (status_at_once at_once)) (shown_state (tables.next_request + 1) (is_gone tables.state) below.state) None below.adapter.reserved tables.handles.slots tables.next_handle
            tables1.labels.items tables.untaken.items tables1.labels.keeps (below.places + own_places (record tables { labels = tables1.labels })) run refl taken.1 told refl answers.label_places.1
            (ap (λ (n : ℕ). below.places + (n + tables.answered.places + deque_capacity tables.untaken + tables.handles.capacity + tables.requests.capacity)) answers.label_places.0);
      }))
    where
      run : Run view.rules view.state (own (status_at_once at_once)) (shown_state (tables.next_request + 1) (is_gone tables.state) below.state)
      run =
          Run-refused view.rules tables.next_request (is_gone tables.state) below.state (without_bytes called) (status_at_once at_once) free refl
          (subst (λ r. refusal view.rules view.state r ≡ Some (status_at_once at_once)) is_call refused)

      told : tables1.labels.items ≡ own (status_at_once at_once)
      told =
          answers.tells ∙ ap (λ before. before ++ Call tables.next_request q ∷ AnswerLabel tables.next_request (status_at_once at_once) 0 [] ∷ []) taken.0
          ∙ ap (λ r. Call tables.next_request r ∷ AnswerLabel tables.next_request (status_at_once at_once) 0 [] ∷ []) is_call

-- AS IT IS SHOWN: what holds between two steps holds after it

module _ (limits : Limits) (below : DeviceView) (tables : Tables) (old : ManagerView) (handle : Handle) (kind : Kind) (offset : ℕ) (buffer : List ℕ) (through : Bool) (kept : ManagerKept limits below tables)
    (shown : view_of limits below tables ≡ old) (taken : old.labels ≡ []) where
  untaken : (tables.labels.items ≡ []) × (below.adapter.labels ≡ [])
  untaken = (ap (λ (v : ManagerView). v.labels) shown ∙ taken, kept.none_recorded)

  pub used_up_shown : (reply : Reply) → are_used_up tables.next_request ≡ true → reply ≡ Refused DeviceBusy buffer → IsRight (CallReplies old handle (call_on old handle kind offset buffer through) buffer reply old) old old
  used_up_shown reply used_up is_reply =
      subst (λ v. IsRight (CallReplies v handle (call_on v handle kind offset buffer through) buffer reply v) v v) shown
      (used_up_right limits below tables handle kind offset buffer through kept.sound kept.settled.none_owed untaken reply used_up is_reply)

  pub at_once_kept : (q : ClientRequest) (at_once : AtOnce) (reply : Reply) (tables1 : Tables) → are_used_up tables.next_request ≡ false → q ≡ without_bytes (call_on old handle kind offset buffer through)
      → refusal old.rules old.state q ≡ Some (status_at_once at_once) → AnswersAtOnce tables q (status_at_once at_once) tables1 → reply ≡ reply_at_once tables.next_request buffer at_once
      → IsRight (CallReplies old handle (call_on old handle kind offset buffer through) buffer reply (view_of limits below tables1)) old (view_of limits below tables1) × ManagerKept limits below tables1
  at_once_kept q at_once reply tables1 last is_call refused answers is_reply =
      let right : IsRight (CallReplies (view_of limits below tables) handle (call_on (view_of limits below tables) handle kind offset buffer through) buffer reply (view_of limits below tables1)) (view_of limits below tables) (view_of limits below tables1) =
      at_once_right limits below tables handle kind offset buffer through kept.sound kept.settled.none_owed untaken q at_once reply tables1 last
      (subst (λ v. q ≡ without_bytes (call_on v handle kind offset buffer through)) (sym shown) is_call)
      (subst (λ (v : ManagerView). refusal v.rules v.state q ≡ Some (status_at_once at_once)) (sym shown) refused) answers is_reply in (
        subst (λ v. IsRight (CallReplies v handle (call_on v handle kind offset buffer through) buffer reply (view_of limits below tables1)) v (view_of limits below tables1)) shown right,
        ManagerKept-still limits below tables tables1 right.told kept right.by (at_once_sound limits below tables q (status_at_once at_once) tables1 kept.sound last answers) (ap (λ (t : Tables). t.state) answers.after),
      )
