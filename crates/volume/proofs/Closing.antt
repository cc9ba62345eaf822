-- A handle that is opened or closed on a stack on which nothing else is open.
use Rattle.volume.proofs.Common.{◌≡◌, ◌<◌, inl, inr, ℕ, ◌+◌, Bool, true, false, List, [], ◌∷◌, ◌++◌, Option, Some, None, refl, sym, ◌∙◌, ap, subst, arith, length, map, All, nat_le, if◌then◌else◌, ◌==◌, count_by, is_some, nat_tests, All-head, IsPermutation-sym, when, first_some, none_first, IsSector, sectors_in, DeviceLabel, Label, Removed, Rules, State, Step, Run, as_label, none_there, IsReached, IsRead, Handle, Refusal, InvalidHandle, InvalidParameter, DeletePending, DeviceBusy, InsufficientResources, InvalidDeviceRequest, NotFound, Reply, OpenHandle, ManagerView, are_used_up, handle_limit, open_refusal, partition_at, partition_of, status_of_refusal, content_of, extent_at, handle_count, parted_at, AreUsable, IsReady, IsOpenRefusal, answers_of}
use Rattle.ntstatus.specs.declared.NtStatus.TheVariants.{InvalidHandle as HandleStatus, InvalidParameter as ParameterStatus, DeletePending as PendingStatus, DeviceBusy as BusyStatus, InvalidDeviceRequest as RequestStatus, NotFound as FoundStatus, InsufficientResources as MemoryStatus}
use Rattle.io_manager.specs.declared.Answer.{Answer as AnswerOf}
use Rattle.io_manager.specs.declared.Reply.TheVariants.{Handle as HandleReply, Ok as Done, Request as Requested, Answered, Refused, Ignored}
use Rattle.io_manager.specs.Right.{Told, IsRight, IsRightBy, CloseReplies, OpenReplies, IsGiven, IsToCancel, tells_nothing, as_answer, as_cancel, end_labels}
use Rattle.volume.proofs.Phases.{IsOver, none_in, run_over}
use Rattle.volume.proofs.Steps.{answers_told, goes_on_reached, quiet_rest, rest_of}
use Rattle.volume.proofs.Untraced.{untraced, forgotten}
use Rattle.volume.proofs.Disk.{same_sectors}
use Rattle.volume.proofs.Handles.{one_fewer}

no_answers : (xs : List AnswerOf) → map as_answer xs ≡ [] → xs ≡ []
no_answers [] e = refl
no_answers (x ∷ xs) e = absurd (let k : as_answer x ∷ map as_answer xs ≡ [] = e in cc)

-- a step that tells nothing of its own and nothing of the device
module _ (old : ManagerView) (ready : IsReady old) (new : ManagerView) (told : Told) (by : IsRightBy false told (untraced old) new) (read : IsRead new.rules new.state new.adapter) (own : told.own ≡ []) (device : told.device ≡ []) where
  is_over : IsOver old.state
  is_over = record { none_open = ready.idle.none_open; none_owed = ready.idle.none_owed; not_paused = ready.idle.not_paused; not_removing = ready.idle.not_removing }

  labels_are : new.labels ≡ rest_of told
  labels_are = by.in_order ∙ ap (λ o. ((o ++ map as_label told.device) ++ map as_answer told.answers) ++ end_labels told.ends) own

  over : IsOver new.state × (new.state.arrays ≡ old.state.arrays) × (answers_of (rest_of told) ≡ [])
  over = run_over old.rules old.state (rest_of told) new.state is_over (quiet_rest told) (subst (λ ls. Run old.rules old.state ls new.state) labels_are by.run)

  none_answered : told.answers ≡ []
  none_answered = no_answers told.answers (sym (answers_told told) ∙ over.2)

  pieces_gone : (labels : List Label) → labels ≡ end_labels told.ends → Run old.rules old.state labels new.state → new.state.pieces ≡ []
  pieces_gone labels e run = by_end told.ends (subst (λ ls. Run old.rules old.state ls new.state) e run)
    where
      by_end : (ends : Bool) → Run old.rules old.state (end_labels ends) new.state → new.state.pieces ≡ []
      by_end false run = none_there old.state.pieces new.state.pieces ready.idle.none_out run.pieces
      by_end true run = none_there run.0.pieces new.state.pieces (none_removed run.0 run.1) run.2.pieces
        where
          none_removed : (mid : State) → Step old.rules old.state Removed mid → mid.pieces ≡ []
          none_removed mid (inl h) = none_there old.state.pieces mid.pieces ready.idle.none_out (IsPermutation-sym _ _ h.1.after.pieces)
          none_removed mid (inr h) = absurd h

  ends_alone : rest_of told ≡ end_labels told.ends
  ends_alone = alone told.device told.answers device none_answered
    where
      alone : (ds : List DeviceLabel) (xs : List AnswerOf) → ds ≡ [] → xs ≡ [] → (map as_label ds ++ map as_answer xs) ++ end_labels told.ends ≡ end_labels told.ends
      alone ds xs a b = rw (a, b) refl

  same_disk : new.adapter.sectors ≡ old.adapter.sectors
  same_disk =
      same_sectors old.adapter.sectors new.adapter.sectors old.rules.partitions
      (ap (λ (r : Rules). map (sectors_in new.adapter.sectors) r.partitions) (sym by.same_rules) ∙ sym read.arrays ∙ over.1 ∙ ready.read.arrays)
      by.outside

  pub same_content : (p : ℕ) → content_of new p ≡ content_of old p
  same_content p =
      ap (λ (r : Rules). parted_at r.sector_size new.adapter.sectors (extent_at r.partitions p)) by.same_rules
      ∙ ap (λ xs. parted_at old.rules.sector_size xs (extent_at old.rules.partitions p)) same_disk

  pub ready_still : IsReady (forgotten new)
  ready_still = record {
    usable = subst AreUsable (sym by.same_rules) ready.usable;
    idle = record {
      none_open = over.0.none_open;
      none_out = pieces_gone new.labels (labels_are ∙ ends_alone) by.run;
      none_owed = over.0.none_owed;
      not_paused = over.0.not_paused;
      not_removing = over.0.not_removing;
    };
    reached = subst (λ rules. IsReached rules new.state) (sym by.same_rules) (goes_on_reached old.rules old.state new.labels new.state ready.reached by.run);
    read = read;
    whole_sectors =
        subst (λ (r : Rules). All (IsSector r.sector_size) new.adapter.sectors) (sym by.same_rules)
        (subst (λ xs. All (IsSector old.rules.sector_size) xs) (sym same_disk) ready.whole_sectors);
    no_labels = refl;
    no_answers = none_there (told.answers ++ old.answers) new.answers (ap (λ xs. xs ++ old.answers) none_answered ∙ ready.no_answers) (IsPermutation-sym _ _ by.untaken);
  }

-- A CLOSE

none_to_cancel : (v : ManagerView) (handle : ℕ) (numbers : List ℕ) → v.state.requests ≡ [] → All (IsToCancel v handle) numbers → numbers ≡ []
none_to_cancel v handle [] none all = refl
none_to_cancel v handle (number ∷ numbers) none all =
    let first : IsToCancel v handle number = All-head (IsToCancel v handle) number numbers all in
    absurd (none_in v.state.requests first.request none first.is_open)

-- what a close tells, on such a stack
pub record IsSilent (old new : ManagerView) : Type 0 where
  pub told : Told
  pub by : IsRightBy false told old new
  pub own : told.own ≡ []
  pub device : told.device ≡ []

unmoved : (old new : ManagerView) (told : Told) → IsRightBy false told old new → told ≡ tells_nothing old → IsSilent old new
unmoved old new told by nothing = record { told = told; by = by; own = ap (λ (t : Told). t.own) nothing; device = ap (λ (t : Told). t.device) nothing }

pub silent_close : (old : ManagerView) → IsReady old → (handle : Handle) (reply : Reply) (new : ManagerView) → IsRight (CloseReplies (untraced old) handle reply new) (untraced old) new → IsSilent (untraced old) new
silent_close old ready handle Done new h =
    let numbers : h.replies.1.numbers ≡ [] = none_to_cancel (untraced old) handle.number h.replies.1.numbers ready.idle.none_open h.replies.1.each in
    record { told = h.told; by = h.by; own = h.replies.1.own ∙ ap (λ ns. map as_cancel ns) numbers; device = h.replies.1.no_device }
silent_close old ready handle (Refused reason bytes) new h = unmoved (untraced old) new h.told h.by h.replies.1.unmoved.nothing
silent_close old ready handle (HandleReply given) new h = absurd h.replies
silent_close old ready handle (Requested id) new h = absurd h.replies
silent_close old ready handle (Answered answer) new h = absurd h.replies
silent_close old ready handle Ignored new h = absurd h.replies

-- the handle was open, and there is one fewer
pub one_closed : (old : ManagerView) (handle : Handle) (partition : ℕ) (reply : Reply) (new : ManagerView) → partition_of old.handles handle ≡ Some partition
    → IsRight (CloseReplies (untraced old) handle reply new) (untraced old) new → handle_count new + 1 ≡ handle_count old
one_closed old handle partition Done new is_open h = one_fewer (untraced old) handle new h.replies.0
one_closed old handle partition (Refused reason bytes) new is_open h = absurd (let none : None ≡ Some partition = sym h.replies.0 ∙ is_open in cc)
one_closed old handle partition (HandleReply given) new is_open h = absurd h.replies
one_closed old handle partition (Requested id) new is_open h = absurd h.replies
one_closed old handle partition (Answered answer) new is_open h = absurd h.replies
one_closed old handle partition Ignored new is_open h = absurd h.replies

-- AN OPEN

pub silent_open : (old : ManagerView) (partition : ℕ) (reply : Reply) (new : ManagerView) → IsRight (OpenReplies old partition reply new) old new → IsSilent old new
silent_open old partition (HandleReply given) new h = unmoved old new h.told h.by h.replies.0.nothing
silent_open old partition (Refused reason bytes) new h = unmoved old new h.told h.by h.replies.1.unmoved.nothing
silent_open old partition Done new h = absurd h.replies
silent_open old partition (Requested id) new h = absurd h.replies
silent_open old partition (Answered answer) new h = absurd h.replies
silent_open old partition Ignored new h = absurd h.replies

-- the adapter is as it was
pub still_open : (old : ManagerView) (partition : ℕ) (reply : Reply) (new : ManagerView) → IsRight (OpenReplies old partition reply new) old new → new.adapter ≡ old.adapter
still_open old partition (HandleReply given) new h = h.replies.0.same_adapter
still_open old partition (Refused reason bytes) new h = h.replies.1.unmoved.same_adapter
still_open old partition Done new h = absurd h.replies
still_open old partition (Requested id) new h = absurd h.replies
still_open old partition (Answered answer) new h = absurd h.replies
still_open old partition Ignored new h = absurd h.replies

same_as_itself : (n : ℕ) → (n == n) ≡ true
same_as_itself n = grind (arith, nat_tests)

-- the handle is on the partition
pub given_on : (old : ManagerView) (partition : ℕ) (handle : Handle) (new : ManagerView) → IsGiven old partition handle new → partition_of new.handles handle ≡ Some partition
given_on old partition handle new h = ap (λ (o : Option OpenHandle). partition_at o handle.number) h.opens.there ∙ same_number handle.number
  where
    same_number : (n : ℕ) → (if n == n then Some partition else None) ≡ Some partition
    same_number n = ap (λ b. if b then Some partition else None) (same_as_itself n)

-- which is there
pub given_known : (old : ManagerView) (partition : ℕ) → open_refusal old partition ≡ None → partition < length old.rules.partitions
given_known old partition h =
    let a : _ × _ = none_first (are_used_up old.next_handle) BusyStatus _ h in
    let b : _ × _ = none_first old.state.removing PendingStatus _ a.1 in
    let c : (nat_le (length old.rules.partitions) partition ≡ false) × _ = none_first (nat_le (length old.rules.partitions) partition) ParameterStatus _ b.1 in
    below (length old.rules.partitions) partition c.0
  where
    below : (n m : ℕ) → nat_le n m ≡ false → m < n
    below n m h = grind (arith, nat_tests)

-- why none is given
pub refused_open : (old : ManagerView) → IsReady old → (partition : ℕ) (reason : Refusal) → open_refusal old partition ≡ Some (status_of_refusal reason) → IsOpenRefusal old partition reason
refused_open old ready partition reason h =
    by (are_used_up old.next_handle) old.state.removing (nat_le (length old.rules.partitions) partition) (nat_le handle_limit (count_by is_some old.handles)) refl ready.idle.not_removing refl refl reason h
  where
    by : (used removing past full : Bool) → are_used_up old.next_handle ≡ used → removing ≡ false → nat_le (length old.rules.partitions) partition ≡ past
        → nat_le handle_limit (count_by is_some old.handles) ≡ full → (why : Refusal)
        → first_some (when used BusyStatus ∷ when removing PendingStatus ∷ when past ParameterStatus ∷ when full BusyStatus ∷ []) ≡ Some (status_of_refusal why) → IsOpenRefusal old partition why
    by used true past full u a b f why e = absurd (let k : true ≡ false = a in cc)
    by true false past full u a b f DeviceBusy e = inl u
    by false false true full u a b f DeviceBusy e = absurd (let k : Some ParameterStatus ≡ Some BusyStatus = e in cc)
    by false false false true u a b f DeviceBusy e = inr (grind (arith, nat_tests))
    by false false false false u a b f DeviceBusy e = absurd (let k : None ≡ Some BusyStatus = e in cc)
    by used false true full u a b f InvalidParameter e = grind (arith, nat_tests)
    by true false false full u a b f InvalidParameter e = absurd (let k : Some BusyStatus ≡ Some ParameterStatus = e in cc)
    by false false false true u a b f InvalidParameter e = absurd (let k : Some BusyStatus ≡ Some ParameterStatus = e in cc)
    by false false false false u a b f InvalidParameter e = absurd (let k : None ≡ Some ParameterStatus = e in cc)
    by true false past full u a b f InvalidHandle e = absurd (let k : Some BusyStatus ≡ Some HandleStatus = e in cc)
    by false false true full u a b f InvalidHandle e = absurd (let k : Some ParameterStatus ≡ Some HandleStatus = e in cc)
    by false false false true u a b f InvalidHandle e = absurd (let k : Some BusyStatus ≡ Some HandleStatus = e in cc)
    by false false false false u a b f InvalidHandle e = absurd (let k : None ≡ Some HandleStatus = e in cc)
    by true false past full u a b f DeletePending e = absurd (let k : Some BusyStatus ≡ Some PendingStatus = e in cc)
    by false false true full u a b f DeletePending e = absurd (let k : Some ParameterStatus ≡ Some PendingStatus = e in cc)
    by false false false true u a b f DeletePending e = absurd (let k : Some BusyStatus ≡ Some PendingStatus = e in cc)
    by false false false false u a b f DeletePending e = absurd (let k : None ≡ Some PendingStatus = e in cc)
    by true false past full u a b f InvalidDeviceRequest e = absurd (let k : Some BusyStatus ≡ Some RequestStatus = e in cc)
    by false false true full u a b f InvalidDeviceRequest e = absurd (let k : Some ParameterStatus ≡ Some RequestStatus = e in cc)
    by false false false true u a b f InvalidDeviceRequest e = absurd (let k : Some BusyStatus ≡ Some RequestStatus = e in cc)
    by false false false false u a b f InvalidDeviceRequest e = absurd (let k : None ≡ Some RequestStatus = e in cc)
    by true false past full u a b f NotFound e = absurd (let k : Some BusyStatus ≡ Some FoundStatus = e in cc)
    by false false true full u a b f NotFound e = absurd (let k : Some ParameterStatus ≡ Some FoundStatus = e in cc)
    by false false false true u a b f NotFound e = absurd (let k : Some BusyStatus ≡ Some FoundStatus = e in cc)
    by false false false false u a b f NotFound e = absurd (let k : None ≡ Some FoundStatus = e in cc)
    by true false past full u a b f InsufficientResources e = absurd (let k : Some BusyStatus ≡ Some MemoryStatus = e in cc)
    by false false true full u a b f InsufficientResources e = absurd (let k : Some ParameterStatus ≡ Some MemoryStatus = e in cc)
    by false false false true u a b f InsufficientResources e = absurd (let k : Some BusyStatus ≡ Some MemoryStatus = e in cc)
    by false false false false u a b f InsufficientResources e = absurd (let k : None ≡ Some MemoryStatus = e in cc)
