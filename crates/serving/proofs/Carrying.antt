-- A stack over a storage: steps, one after the other.
use Rattle.serving.proofs.Common.{◌≡◌, ◌<◌, inl, inr, ℕ, zero, suc, Bool, true, false, List, [], ◌∷◌, ◌++◌, length, map, Option, Some, None, Result, Ok, Err, IsFalse, refl, sym, ap, subst, ◌∙◌, append-nil, append_assoc, All, Contains, IfOk, IsPermutation, MatchBool, MatchResult, slice_get, remove, if◌then◌else◌, All-nil, All-cons, All-head, All-tail, All-append, All-map, All-weaker, All-contains, All-contains_itself, Contains-append_left, Contains-append_right, Contains-append_cases, IsPermutation-refl, IsPermutation-trans, IsPermutation-append_right, IsPermutation-append_left, IsPermutation-append_comm, All-permutation, Contains-permutation, Success, Entry, Srb, Completion, AdapterView, IsInOrder, Sent, IsArmed, IsBookable, Suits, with_booking, Books, entry_sent, handed, sent_of, srb_on_is, HasNoneFresh, ClientRequest, Label, Rules, Settled, State, opening, Run, as_label, IsSame-refl, Run-append, CallsAreAnswered, IsReached, Answer, Handle, Id, Refusal, Reply, ManagerView, call_on, partition_of, without_bytes, Event, Open, Close, Read, Write, Flush, CancelIoEx, Mark, QueryRemove, CancelRemove, Remove, SurpriseRemove, Act, Finish, Reset, IsTransferEvent, IsRight, IsLed, led, there_mapped, Asks, IsQuiet, answers_of, fresh_count, answers-append, quiet_rest, rest_of, untaken_told, IsOn, given_known, given_on, DiskView, IsOfPiece, Transfers, BooksArmed, CarriedView, Deed, Files, Goes, HasBooked, HasNoneToBook, IsAnsweredBy, IsRefusedAtOnce, IsTold, Requests, StandsIn, TellsOn, entries_of, entry_in, over, TraceView, Wrote}
use Rattle.std.specs.Prelude.{IsTrue}
use Rattle.serving.proofs.Writing.{wrote_more, wrote_none}
use Rattle.machine.specs.declared.Label.TheVariants.{Call, Device, Answer as AnswerLabel, Cancel, Pause, Resume, Remove as RemoveLabel, Surprise, Removed as RemovedLabel}
use Rattle.io_manager.specs.declared.Reply.TheVariants.{Handle as HandleReply, Ok as Done, Request as Requested, Answered, Refused, Ignored}
use Rattle.io_manager.specs.Right.{ActReplies, BooksPiece, FinishReplies, FitsTogether, HasNoneFresh as HasNoneFreshIn, IsOfAnother, IsRight as IsRightCall, IsRightBy, TakesAnswerOf, Told, TransferReplies, as_answer, end_labels, labels_of, tells_nothing}
use Rattle.srb.specs.declared.Kind.TheVariants.{Read as ReadKind, Write as WriteKind, Flush as FlushKind}
use Rattle.compose.specs.Journaled.{ArmedMayBeBooked, BookedActsAddEntries, IdleActsKeepEntries, StepsKeepEntries, StepsStayApart, IsJournaled, IsNoAct, IsOfPiece as IsOfTags, with_entry}
use Rattle.machine_laws.specs.Reached.{AreWhole}
use Rattle.compose.specs.Armed.{ArmedAskForPieces, AsksForPiece, BookedActsTell, IdleActsTellNothing, label_booked}
use Rattle.file_sessions.specs.Deeds.{DeedRun, HasFailed, HasMoved, IsDeedOf}
use Rattle.file_sessions.proofs.Joining.{acts_with_one, deed_runs_join, faults_with_one, runs_with_none}
use Rattle.file_sessions.specs.Runs.{HasNoDeed}
use Rattle.serving.proofs.Undone.{Undoes, no_deeds, transfer_undoes}
use Rattle.serving.proofs.Called.{IsCalled, called}
use Rattle.serving.proofs.Steady.{IsNoAnswerTo, act_steady, asked_steady, called_unanswered, finish_steady}

-- WHAT THE STORAGE KEEPS

record IsAsLarge (old new : DiskView) : Type 0 where
  sector_size : new.sector_size ≡ old.sector_size
  sectors : new.sectors ≡ old.sectors

as_large_by : (old new : DiskView) → new ≡ old → IsAsLarge old new
as_large_by old new same = record { sector_size = ap (λ (d : DiskView). d.sector_size) same; sectors = ap (λ (d : DiskView). d.sectors) same }

transferred_large : (old : DiskView) (tag piece : ℕ) (srb : Srb) (what : Result Entry Completion) (new : DiskView) → Transfers old tag piece srb what new → IsAsLarge old new
transferred_large old tag piece srb what new (inl h) = record { sector_size = ap (λ (d : DiskView). d.sector_size) h.after; sectors = ap (λ (d : DiskView). d.sectors) h.after }
transferred_large old tag piece srb what new (inr (inl h)) = as_large_by old new h.same
transferred_large old tag piece srb what new (inr (inr h)) = as_large_by old new h.same

stands_by : (old new : ManagerView) (before after : DiskView) → new.rules ≡ old.rules → IsFalse new.adapter.faithful → IsAsLarge before after → StandsIn old before → StandsIn new after
stands_by old new before after same apart large stands = record {
  apart = apart;
  sector_size = large.sector_size ∙ stands.sector_size ∙ ap (λ (r : Rules). r.sector_size) (sym same);
  sectors = large.sectors ∙ stands.sectors ∙ ap (λ (r : Rules). r.disk_sectors) (sym same);
}

-- labels that were taken say nothing of it
restand : (v : ManagerView) (disk : DiskView) → StandsIn v disk → StandsIn (record v { labels = [] }) disk
restand v disk s = record { apart = s.apart; sector_size = s.sector_size; sectors = s.sectors }

-- PIECES

pub files_append : (a b c : DiskView) (xs ys : List Deed) → Files a xs b → Files b ys c → Files a (xs ++ ys) c
files_append a b c [] ys h k = subst (λ (d : DiskView). Files d ys c) h k
files_append a b c (x ∷ xs) ys h k = (h.0, h.1, files_append h.0 b c xs ys h.2 k)

pub entries_append : (xs ys : List Deed) → entries_of (xs ++ ys) ≡ entries_of xs ++ entries_of ys
entries_append [] ys = refl
entries_append (x ∷ xs) ys = ap (λ (es : List Entry). entry_in x.what ++ es) (entries_append xs ys) ∙ sym (append_assoc (entry_in x.what) (entries_of xs) (entries_of ys))

one_entry : (before : List Entry) (what : Result Entry Completion) → with_entry before what ≡ before ++ (entry_in what ++ [])
one_entry before (Ok entry) = refl
one_entry before (Err completion) = sym (append-nil before)

of_tags : (tag piece : ℕ) (what : Result Entry Completion) → IsOfPiece tag piece what → IsOfTags tag piece what
of_tags tag piece (Ok entry) h = h
of_tags tag piece (Err completion) h = tt

-- WHAT IS TOLD

pub tells_nothing_more : (v : ManagerView) → TellsOn v [] [] v
tells_nothing_more v arrays trace before told =
    subst (λ (ls : List Label). IsTold arrays ls (before ++ []) v) (sym (append-nil trace)) (subst (λ (ds : List Deed). IsTold arrays trace ds v) (sym (append-nil before)) told)

pub tells_more : (old mid new : ManagerView) (ls ls' : List Label) (es es' : List Deed) → TellsOn old ls es mid → TellsOn mid ls' es' new → TellsOn old (ls ++ ls') (es ++ es') new
tells_more old mid new ls ls' es es' one two arrays trace before told =
    subst (λ (x : List Label). IsTold arrays x (before ++ (es ++ es')) new) (append_assoc trace ls ls')
    (subst (λ (x : List Deed). IsTold arrays ((trace ++ ls) ++ ls') x new) (append_assoc before es es') (two arrays (trace ++ ls) (before ++ es) (one arrays trace before told)))

-- labels that were taken say nothing
relabelled : (old new : ManagerView) (ls : List Label) (es : List Deed) → TellsOn old ls es new → TellsOn old ls es (record new { labels = [] })
relabelled old new ls es h arrays trace before told =
    let it : IsTold arrays (trace ++ ls) (before ++ es) new = h arrays trace before told in
    record { apart = it.apart; whole = it.whole; run = it.run; did = it.did; journaled = record { of_acts = it.journaled.of_acts; started = it.journaled.started } }

-- STEPS IN A ROW

pub Goes-refl : (v : CarriedView) → Goes v v
Goes-refl v = record {
  labels = [];
  all_quiet = All-nil IsQuiet;
  deeds = [];
  same_rules = refl;
  same_handles = refl;
  same_paused = refl;
  run = IsSame-refl v.stack.state;
  told = tells_nothing_more v.stack;
  files = refl;
  untaken = IsPermutation-refl (map as_answer v.stack.answers);
  stands = λ s. s;
  wrote = λ _. wrote_none v.trace;
}

-- the same rules keep the bytes of labels alike
pub keeps_on : (new old : ManagerView) → old.rules ≡ new.rules → IsTrue old.rules.keeps_bytes → IsTrue new.rules.keeps_bytes
keeps_on new old same bytes = subst (λ (r : Rules). IsTrue r.keeps_bytes) same bytes

exchanged : {X : Type 0} (xs ys zs : List X) → IsPermutation (xs ++ (ys ++ zs)) ((ys ++ xs) ++ zs)
exchanged xs ys zs =
    subst (λ ls. IsPermutation ls ((ys ++ xs) ++ zs)) (append_assoc xs ys zs) (IsPermutation-append_left zs (xs ++ ys) (ys ++ xs) (IsPermutation-append_comm xs ys))

pub Goes-trans : (old mid new : CarriedView) → Goes old mid → Goes mid new → Goes old new
Goes-trans old mid new a b = record {
  labels = a.labels ++ b.labels;
  all_quiet = All-append IsQuiet a.labels b.labels a.all_quiet b.all_quiet;
  deeds = a.deeds ++ b.deeds;
  same_rules = b.same_rules ∙ a.same_rules;
  same_handles = b.same_handles ∙ a.same_handles;
  same_paused = b.same_paused ∙ a.same_paused;
  run =
      Run-append old.stack.rules old.stack.state a.labels mid.stack.state b.labels new.stack.state a.run
      (subst (λ (rules : Rules). Run rules mid.stack.state b.labels new.stack.state) a.same_rules b.run);
  told =
      tells_more old.stack mid.stack new.stack a.labels b.labels a.deeds b.deeds a.told b.told;
  files = files_append old.disk mid.disk new.disk a.deeds b.deeds a.files b.files;
  untaken =
      let e : answers_of (a.labels ++ b.labels) ≡ answers_of a.labels ++ answers_of b.labels = answers-append a.labels b.labels in
      subst (λ ls. IsPermutation (map as_answer new.stack.answers) (ls ++ map as_answer old.stack.answers)) (sym e)
      (IsPermutation-trans _ _ _ b.untaken
      (IsPermutation-trans _ _ _ (IsPermutation-append_right (answers_of b.labels) (map as_answer mid.stack.answers) (answers_of a.labels ++ map as_answer old.stack.answers) a.untaken)
      (exchanged (answers_of b.labels) (answers_of a.labels) (map as_answer old.stack.answers))));
  stands = λ s. b.stands (a.stands s);
  wrote = λ bytes. wrote_more old.trace mid.trace new.trace a.labels b.labels (a.wrote bytes) (b.wrote (keeps_on mid.stack old.stack (sym a.same_rules) bytes));
}

-- THE RUN OF A STEP

-- from where a piece was booked
run_of : (old booked new : ManagerView) (reset : Bool) (t : Told) → booked.rules ≡ old.rules → booked.state ≡ old.state → IsRightBy reset t booked new → Run old.rules old.state new.labels new.state
run_of old booked new reset t rules state by =
    subst (λ (s : State). Run old.rules s new.labels new.state) state (subst (λ (r : Rules). Run r booked.state new.labels new.state) rules by.run)

did_on : (old new : ManagerView) (ds : List Deed) → new.rules ≡ old.rules → DeedRun old.rules old.state new.labels new.state ds
    → (arrays : List (List (List ℕ))) (trace : List Label) (before : List Deed) → DeedRun old.rules (opening arrays) trace old.state before → DeedRun new.rules (opening arrays) (trace ++ new.labels) new.state (before ++ ds)
did_on old new ds same step arrays trace before did =
    subst (λ (r : Rules). DeedRun r (opening arrays) (trace ++ new.labels) new.state (before ++ ds)) (sym same)
    (deed_runs_join old.rules (opening arrays) trace old.state before new.labels new.state ds did step)

apart_on : (old new : ManagerView) → new.rules ≡ old.rules → IsFalse old.rules.faithful → IsFalse new.rules.faithful
apart_on old new same apart = subst (λ (r : Rules). IsFalse r.faithful) (sym same) apart

whole_on : (old new : ManagerView) (arrays : List (List (List ℕ))) → new.rules ≡ old.rules → AreWhole old.rules arrays → AreWhole new.rules arrays
whole_on old new arrays same whole = subst (λ (r : Rules). AreWhole r arrays) (sym same) whole

run_on : (old new : ManagerView) → new.rules ≡ old.rules → Run old.rules old.state new.labels new.state
    → (arrays : List (List (List ℕ))) (trace : List Label) → Run old.rules (opening arrays) trace old.state → Run new.rules (opening arrays) (trace ++ new.labels) new.state
run_on old new same step arrays trace run =
    subst (λ (r : Rules). Run r (opening arrays) (trace ++ new.labels) new.state) (sym same) (Run-append old.rules (opening arrays) trace old.state new.labels new.state run step)

-- answers that a step of no labels of its own told
untaken_by : (t : Told) (old new : ManagerView) → t.own ≡ [] → IsRightBy false t old new → IsPermutation (map as_answer new.answers) (answers_of new.labels ++ map as_answer old.answers)
untaken_by t old new own by =
    let e : new.labels ≡ rest_of t = by.in_order ∙ ap (λ (o : List Label). ((o ++ map as_label t.device) ++ map as_answer t.answers) ++ end_labels t.ends) own in
    subst (λ (ls : List Label). IsPermutation (map as_answer new.answers) (answers_of ls ++ map as_answer old.answers)) (sym e) (untaken_told t old.answers new.answers by.untaken)

-- labels of a step of no labels of its own
quiet_by : (t : Told) (old new : ManagerView) → t.own ≡ [] → IsRightBy false t old new → All IsQuiet new.labels
quiet_by t old new own by =
    let e : new.labels ≡ rest_of t = by.in_order ∙ ap (λ (o : List Label). ((o ++ map as_label t.device) ++ map as_answer t.answers) ++ end_labels t.ends) own in
    subst (λ (ls : List Label). All IsQuiet ls) (sym e) (quiet_rest t)

own_none : (t : Told) (old : ManagerView) → t ≡ tells_nothing old → t.own ≡ []
own_none t old e = ap (λ (x : Told). x.own) e

act_untaken : (old new : ManagerView) (tag : ℕ) (reply : Reply) → IsRightCall (ActReplies old tag reply new) old new → IsPermutation (map as_answer new.answers) (answers_of new.labels ++ map as_answer old.answers)
act_untaken old new tag Done h = untaken_by h.told old new h.replies.0.no_own h.by
act_untaken old new tag Ignored h = untaken_by h.told old new (own_none h.told old h.replies.0.nothing) h.by
act_untaken old new tag (HandleReply given) h = absurd h.replies
act_untaken old new tag (Requested id) h = absurd h.replies
act_untaken old new tag (Answered answer) h = absurd h.replies
act_untaken old new tag (Refused reason bytes) h = absurd h.replies

finish_untaken : (old new : ManagerView) (tag : ℕ) (reply : Reply) → IsRightCall (FinishReplies old tag reply new) old new
    → IsPermutation (map as_answer new.answers) (answers_of new.labels ++ map as_answer old.answers)
finish_untaken old new tag Done h = untaken_by h.told old new h.replies.0.no_own h.by
finish_untaken old new tag Ignored h = untaken_by h.told old new (own_none h.told old h.replies.0.nothing) h.by
finish_untaken old new tag (HandleReply given) h = absurd h.replies
finish_untaken old new tag (Requested id) h = absurd h.replies
finish_untaken old new tag (Answered answer) h = absurd h.replies
finish_untaken old new tag (Refused reason bytes) h = absurd h.replies

act_quiet : (old new : ManagerView) (tag : ℕ) (reply : Reply) → IsRightCall (ActReplies old tag reply new) old new → All IsQuiet new.labels
act_quiet old new tag Done h = quiet_by h.told old new h.replies.0.no_own h.by
act_quiet old new tag Ignored h = quiet_by h.told old new (own_none h.told old h.replies.0.nothing) h.by
act_quiet old new tag (HandleReply given) h = absurd h.replies
act_quiet old new tag (Requested id) h = absurd h.replies
act_quiet old new tag (Answered answer) h = absurd h.replies
act_quiet old new tag (Refused reason bytes) h = absurd h.replies

finish_quiet : (old new : ManagerView) (tag : ℕ) (reply : Reply) → IsRightCall (FinishReplies old tag reply new) old new → All IsQuiet new.labels
finish_quiet old new tag Done h = quiet_by h.told old new h.replies.0.no_own h.by
finish_quiet old new tag Ignored h = quiet_by h.told old new (own_none h.told old h.replies.0.nothing) h.by
finish_quiet old new tag (HandleReply given) h = absurd h.replies
finish_quiet old new tag (Requested id) h = absurd h.replies
finish_quiet old new tag (Answered answer) h = absurd h.replies
finish_quiet old new tag (Refused reason bytes) h = absurd h.replies

pub act_handles : (old new : ManagerView) (tag : ℕ) (reply : Reply) → IsRightCall (ActReplies old tag reply new) old new → new.handles ≡ old.handles
act_handles old new tag Done h = h.replies.1.handles
act_handles old new tag Ignored h = h.replies.2.handles
act_handles old new tag (HandleReply given) h = absurd h.replies
act_handles old new tag (Requested id) h = absurd h.replies
act_handles old new tag (Answered answer) h = absurd h.replies
act_handles old new tag (Refused reason bytes) h = absurd h.replies

pub finish_handles : (old new : ManagerView) (tag : ℕ) (reply : Reply) → IsRightCall (FinishReplies old tag reply new) old new → new.handles ≡ old.handles
finish_handles old new tag Done h = h.replies.1.handles
finish_handles old new tag Ignored h = h.replies.2.handles
finish_handles old new tag (HandleReply given) h = absurd h.replies
finish_handles old new tag (Requested id) h = absurd h.replies
finish_handles old new tag (Answered answer) h = absurd h.replies
finish_handles old new tag (Refused reason bytes) h = absurd h.replies

-- ANY EVENT BUT AN ACT

module _ (keep : StepsKeepEntries) (apart : StepsStayApart) (old new : ManagerView) (event : Event) (reply : Reply) (other : IsNoAct event) (right : IsRight old event reply new) where
  by : IsLed old new
  by = led old event reply new right

  step : Run old.rules old.state new.labels new.state
  step = run_of old old new by.reset by.told refl refl by.by

  pub others_told : Undoes event → TellsOn old new.labels [] (record new { labels = [] })
  others_told undoes = relabelled old new new.labels [] (λ arrays trace before told. record {
    apart = apart_on old new by.by.same_rules told.apart;
    whole = whole_on old new arrays by.by.same_rules told.whole;
    run = run_on old new by.by.same_rules step arrays trace told.run;
    did = did_on old new [] by.by.same_rules (runs_with_none old.rules old.state new.labels new.state (no_deeds old event reply new undoes right) step) arrays trace before told.did;
    journaled = subst (λ (ds : List Deed). IsJournaled (trace ++ new.labels) (entries_of ds) new) (sym (append-nil before)) (keep trace (entries_of before) old event reply new other right told.journaled);
  })

  pub others_stand : (disk : DiskView) → StandsIn old disk → StandsIn (record new { labels = [] }) disk
  others_stand disk s = record {
    apart = apart old event reply new right s.apart;
    sector_size = s.sector_size ∙ ap (λ (r : Rules). r.sector_size) (sym by.by.same_rules);
    sectors = s.sectors ∙ ap (λ (r : Rules). r.disk_sectors) (sym by.by.same_rules);
  }

  pub others_go : (disk : DiskView) (trace trace' : TraceView) → (IsTrue old.rules.keeps_bytes → Wrote trace new.labels trace') → Undoes event → All IsQuiet new.labels → new.handles ≡ old.handles → new.state.paused ≡ old.state.paused → IsPermutation (map as_answer new.answers) (answers_of new.labels ++ map as_answer old.answers)
      → Goes (over old disk trace) (over (record new { labels = [] }) disk trace')
  others_go disk trace trace' wrote undoes all_quiet handles paused untaken = record {
    labels = new.labels;
    all_quiet = all_quiet;
    deeds = [];
    same_rules = by.by.same_rules;
    same_handles = handles;
    same_paused = paused;
    run = step;
    told = others_told undoes;
    files = refl;
    untaken = untaken;
    stands = others_stand disk;
    wrote = wrote;
  }

pub finish_goes : StepsKeepEntries → StepsStayApart → (old new : ManagerView) (disk : DiskView) (trace trace' : TraceView) (tag : ℕ) (reply : Reply) → (IsTrue old.rules.keeps_bytes → Wrote trace new.labels trace') → IsRight old (Finish tag) reply new
    → Goes (over old disk trace) (over (record new { labels = [] }) disk trace')
finish_goes keep apart old new disk trace trace' tag reply wrote right = others_go keep apart old new (Finish tag) reply tt right disk trace trace' wrote tt (finish_quiet old new tag reply right) (finish_handles old new tag reply right) (finish_steady old new tag reply right) (finish_untaken old new tag reply right)

-- AN ACT

booked_apart : (old new : AdapterView) (tag piece : ℕ) (what : Result Entry Completion) → Books old tag piece what new → IsFalse old.faithful → IsFalse new.faithful
booked_apart old new tag piece what books apart = subst (λ (v : AdapterView). IsFalse v.faithful) (sym books.after) (by_choice books.booked)
  where
    by_choice : (booked : Bool) → IsFalse (if booked then with_booking tag what old else old).faithful
    by_choice true = apart
    by_choice false = apart

module _ (idle : IdleActsKeepEntries) (adds : BookedActsAddEntries) (may : ArmedMayBeBooked) (tells : BookedActsTell) (silent : IdleActsTellNothing) (asks : ArmedAskForPieces) (apart : StepsStayApart)
    (old booked new : ManagerView) (before after : DiskView) (tag : ℕ) (reply : Reply) (stands : StandsIn old before) (fits_old : FitsTogether old)
    (order : IsInOrder booked.adapter) (fits : FitsTogether booked) (reached : IsReached booked.rules booked.state) (right : IsRight booked (Act tag) reply new) where
  size_is : before.sector_size ≡ old.adapter.sector_size
  size_is = stands.sector_size ∙ fits_old.read.same_size

  count_is : before.sectors ≡ length old.adapter.sectors
  count_is = stands.sectors ∙ fits_old.read.same_sectors

  by_act : IsLed booked new
  by_act = led booked (Act tag) reply new right

  module _ (has : HasBooked old before tag booked after) where
    rules_are : booked.rules ≡ old.rules
    rules_are = ap (λ (v : ManagerView). v.rules) has.books.same

    state_is : booked.state ≡ old.state
    state_is = ap (λ (v : ManagerView). v.state) has.books.same

    pub answers_are : booked.answers ≡ old.answers
    answers_are = ap (λ (v : ManagerView). v.answers) has.books.same

    step_of : Run old.rules old.state new.labels new.state
    step_of = run_of old booked new by_act.reset by_act.told rules_are state_is by_act.by

    pub new_rules : new.rules ≡ old.rules
    new_rules = by_act.by.same_rules ∙ rules_are

    suits_it : Suits old.adapter.sector_size (length old.adapter.sectors) has.srb has.what
    suits_it = subst (λ (n : ℕ). Suits n (length old.adapter.sectors) has.srb has.what) size_is (subst (λ (n : ℕ). Suits before.sector_size n has.srb has.what) count_is has.suits)

    bookable : (arrays : List (List (List ℕ))) (trace : List Label) (deeds : List Deed) → IsTold arrays trace deeds old → IsBookable old.adapter tag has.piece has.what
    bookable arrays trace deeds told = may arrays trace (entries_of deeds) old tag has.piece has.srb has.what told.run told.journaled stands.apart has.armed suits_it

    abbrev deed : Deed
    deed = record { tag = tag; piece = has.piece; srb = has.srb; what = has.what }

    -- the deed is of the piece that was armed
    deed_is : (arrays : List (List (List ℕ))) (trace : List Label) (deeds : List Deed) → IsTold arrays trace deeds old → IsDeedOf old.rules old.state has.piece deed
    deed_is arrays trace deeds told =
        let of : AsksForPiece old.rules old.state has.piece has.srb = asks arrays trace (entries_of deeds) old tag has.piece has.srb told.whole told.run told.journaled fits_old told.apart has.armed in
        record {
          piece = of.piece;
          owner = of.owner;
          is_number = of.is_number;
          at_work = record { out = record { is_number = refl; is_out = of.is_out; is_open = of.is_open; is_owner = of.is_owner }; fresh = of.is_fresh };
          asks = of.asks;
          sends = of.sends;
        }

    -- its one label has it
    did_by : (what : Result Entry Completion) → has.what ≡ what → IsDeedOf old.rules old.state has.piece deed → Run old.rules old.state (label_booked has.piece what ∷ []) new.state
        → DeedRun old.rules old.state (label_booked has.piece what ∷ []) new.state (deed ∷ [])
    did_by (Ok entry) is of run = acts_with_one old.rules old.state has.piece entry.bytes new.state deed run of (subst (λ (x : Result Entry Completion). HasMoved entry.bytes x) (sym is) refl)
    did_by (Err completion) is of run = faults_with_one old.rules old.state has.piece new.state deed run of (subst (λ (x : Result Entry Completion). HasFailed x) (sym is) tt)

    did_one : (arrays : List (List (List ℕ))) (trace : List Label) (deeds : List Deed) → IsTold arrays trace deeds old → DeedRun old.rules old.state new.labels new.state (deed ∷ [])
    did_one arrays trace deeds told =
        let one : new.labels ≡ label_booked has.piece has.what ∷ [] = tells old booked new tag has.piece has.what reply (bookable arrays trace deeds told) has.books order fits.read.pieces reached right in
        subst (λ (ls : List Label). DeedRun old.rules old.state ls new.state (deed ∷ [])) (sym one)
        (did_by has.what refl (deed_is arrays trace deeds told) (subst (λ (ls : List Label). Run old.rules old.state ls new.state) one step_of))

    pub booked_told : TellsOn old new.labels (deed ∷ []) (record new { labels = [] })
    booked_told = relabelled old new new.labels (deed ∷ []) (λ arrays trace deeds told. record {
      apart = apart_on old new new_rules told.apart;
      whole = whole_on old new arrays new_rules told.whole;
      run = run_on old new new_rules step_of arrays trace told.run;
      did = did_on old new (deed ∷ []) new_rules (did_one arrays trace deeds told) arrays trace deeds told.did;
      journaled =
          subst (λ (es : List Entry). IsJournaled (trace ++ new.labels) es new) (one_entry (entries_of deeds) has.what ∙ sym (entries_append deeds (deed ∷ [])))
          (adds trace (entries_of deeds) old booked new tag has.piece has.what reply (bookable arrays trace deeds told) (of_tags tag has.piece has.what has.of_piece) has.books order fits.read.pieces reached right told.journaled);
    })

    booked_goes : (trace trace' : TraceView) → (IsTrue booked.rules.keeps_bytes → Wrote trace new.labels trace') → Goes (over old before trace) (over (record new { labels = [] }) after trace')
    booked_goes trace trace' wrote = record {
      labels = new.labels;
      all_quiet = act_quiet booked new tag reply right;
      deeds = deed ∷ [];
      same_rules = new_rules;
      same_handles = act_handles booked new tag reply right ∙ ap (λ (v : ManagerView). v.handles) has.books.same;
      same_paused = act_steady booked new tag reply right ∙ ap (λ (s : State). s.paused) state_is;
      run = step_of;
      told = booked_told;
      files = (after, has.transfers, refl);
      untaken = subst (λ (xs : List Answer). IsPermutation (map as_answer new.answers) (answers_of new.labels ++ map as_answer xs)) answers_are (act_untaken booked new tag reply right);
      stands = λ s. restand new after (stands_by old new before after new_rules (apart booked (Act tag) reply new right (booked_apart old.adapter booked.adapter tag has.piece has.what has.books.adapter s.apart))
          (transferred_large before tag has.piece has.srb has.what after has.transfers) s);
      wrote = λ bytes. wrote (keeps_on booked old (sym rules_are) bytes);
    }

  module _ (none : HasNoneToBook old before tag booked after) where
    idle_rules : booked.rules ≡ old.rules
    idle_rules = ap (λ (v : ManagerView). v.rules) none.same_stack

    idle_step : Run old.rules old.state new.labels new.state
    idle_step = run_of old booked new by_act.reset by_act.told idle_rules (ap (λ (v : ManagerView). v.state) none.same_stack) by_act.by

    idle_new : new.rules ≡ old.rules
    idle_new = by_act.by.same_rules ∙ idle_rules

    still_none : HasNoneFresh booked.adapter tag
    still_none = subst (λ (v : ManagerView). HasNoneFresh v.adapter tag) (sym none.same_stack) none.none

    idle_told : TellsOn old new.labels [] (record new { labels = [] })
    idle_told = relabelled old new new.labels [] (λ arrays trace deeds told. record {
      apart = apart_on old new idle_new told.apart;
      whole = whole_on old new arrays idle_new told.whole;
      run = run_on old new idle_new idle_step arrays trace told.run;
      did = did_on old new [] idle_new (runs_with_none old.rules old.state new.labels new.state (subst (λ (ls : List Label). All HasNoDeed ls) (sym (silent booked tag reply new fits.read.pieces still_none right)) (All-nil HasNoDeed)) idle_step) arrays trace deeds told.did;
      journaled =
          subst (λ (ds : List Deed). IsJournaled (trace ++ new.labels) (entries_of ds) new) (sym (append-nil deeds))
          (idle trace (entries_of deeds) booked tag reply new fits.read.pieces still_none right (subst (λ (v : ManagerView). IsJournaled trace (entries_of deeds) v) (sym none.same_stack) told.journaled));
    })

    idle_goes : (trace trace' : TraceView) → (IsTrue booked.rules.keeps_bytes → Wrote trace new.labels trace') → Goes (over old before trace) (over (record new { labels = [] }) after trace')
    idle_goes trace trace' wrote = record {
      labels = new.labels;
      all_quiet = act_quiet booked new tag reply right;
      deeds = [];
      same_rules = idle_new;
      same_handles = act_handles booked new tag reply right ∙ ap (λ (v : ManagerView). v.handles) none.same_stack;
      same_paused = act_steady booked new tag reply right ∙ ap (λ (v : ManagerView). v.state.paused) none.same_stack;
      run = idle_step;
      told = idle_told;
      files = none.same_disk;
      untaken =
          subst (λ (v : ManagerView). IsPermutation (map as_answer new.answers) (answers_of new.labels ++ map as_answer v.answers)) none.same_stack (act_untaken booked new tag reply right);
      stands = λ s. restand new after (stands_by old new before after idle_new (apart booked (Act tag) reply new right (subst (λ (v : ManagerView). IsFalse v.adapter.faithful) (sym none.same_stack) s.apart))
          (as_large_by before after none.same_disk) s);
      wrote = λ bytes. wrote (keeps_on booked old (sym idle_rules) bytes);
    }

  pub act_goes : (trace trace' : TraceView) → (IsTrue booked.rules.keeps_bytes → Wrote trace new.labels trace') → BooksArmed old before tag booked after → Goes (over old before trace) (over (record new { labels = [] }) after trace')
  act_goes trace trace' wrote (inl has) = booked_goes has trace trace' wrote
  act_goes trace trace' wrote (inr none) = idle_goes none trace trace' wrote

-- A REQUEST

-- answers that wait say nothing of what was told
pub reanswered : (old new : ManagerView) (before after : List Answer) (ls : List Label) (es : List Deed) → TellsOn (record old { answers = before }) ls es new → TellsOn old ls es (record new { answers = after })
reanswered old new before after ls es h arrays trace was told =
    let it : IsTold arrays (trace ++ ls) (was ++ es) new = h arrays trace was (record { apart = told.apart; whole = told.whole; run = told.run; did = told.did; journaled = record { of_acts = told.journaled.of_acts; started = told.journaled.started } }) in
    record { apart = it.apart; whole = it.whole; run = it.run; did = it.did; journaled = record { of_acts = it.journaled.of_acts; started = it.journaled.started } }

pub head_there : {X : Type 0} (x : X) (xs : List X) → Contains (x ∷ xs) x
head_there x xs = All-head (Contains (x ∷ xs)) x xs (All-contains_itself (x ∷ xs))

got_there : {X : Type 0} (xs : List X) (at : ℕ) (x : X) → slice_get xs at ≡ Some x → Contains xs x
got_there {X} [] at x e = absurd (let k : ◌≡◌ {A = Option X} None (Some x) = e in cc)
got_there {X} (y ∷ xs) zero x e = let k : y ≡ x = (let s : ◌≡◌ {A = Option X} (Some y) (Some x) = e in cc) in subst (λ z. Contains (y ∷ xs) z) k (head_there y xs)
got_there {X} (y ∷ xs) (suc at) x e = Contains-append_right (y ∷ []) xs x (got_there xs at x e)

later : (l : Label) (ls : List Label) → All (Contains ls) (answers_of ls) → All (Contains (l ∷ ls)) (answers_of ls)
later l ls h = All-weaker (Contains ls) (Contains (l ∷ ls)) (λ x c. Contains-append_right (l ∷ []) ls x c) (answers_of ls) h

all_there : (ls : List Label) → All (Contains ls) (answers_of ls)
all_there [] = All-nil (Contains [])
all_there (AnswerLabel number status informed bytes ∷ ls) =
    let it : Label = AnswerLabel number status informed bytes in
    All-cons (Contains (it ∷ ls)) it (answers_of ls) (head_there it ls) (later it ls (all_there ls))
all_there (Call number q ∷ ls) = later (Call number q) ls (all_there ls)
all_there (Device l ∷ ls) = later (Device l) ls (all_there ls)
all_there (Cancel number ∷ ls) = later (Cancel number) ls (all_there ls)
all_there (Pause ∷ ls) = later Pause ls (all_there ls)
all_there (Resume ∷ ls) = later Resume ls (all_there ls)
all_there (RemoveLabel ∷ ls) = later RemoveLabel ls (all_there ls)
all_there (Surprise ∷ ls) = later Surprise ls (all_there ls)
all_there (RemovedLabel ∷ ls) = later RemovedLabel ls (all_there ls)

answers_there : (labels : List Label) (label : Label) → Contains (answers_of labels) label → Contains labels label
answers_there labels label h = All-contains (Contains labels) (answers_of labels) label (all_there labels) h

pub no_act : (event : Event) → IsTransferEvent event → IsNoAct event
no_act (Read handle offset buffer) h = tt
no_act (Write handle offset bytes through) h = tt
no_act (Flush handle) h = tt
no_act (Open partition) h = absurd h
no_act (Close handle) h = absurd h
no_act (CancelIoEx handle target) h = absurd h
no_act (Mark number) h = absurd h
no_act QueryRemove h = absurd h
no_act CancelRemove h = absurd h
no_act Remove h = absurd h
no_act SurpriseRemove h = absurd h
no_act (Act tag) h = absurd h
no_act (Finish tag) h = absurd h
no_act Reset h = absurd h

pub asked_by : (old : ManagerView) (event : Event) → IsTransferEvent event → (q : ClientRequest) × Asks old event q
asked_by old (Read handle offset buffer) h = (call_on old handle ReadKind offset buffer false, refl)
asked_by old (Write handle offset bytes through) h = (call_on old handle WriteKind offset bytes through, refl)
asked_by old (Flush handle) h = (call_on old handle FlushKind 0 [] false, refl)
asked_by old (Open partition) h = absurd h
asked_by old (Close handle) h = absurd h
asked_by old (CancelIoEx handle target) h = absurd h
asked_by old (Mark number) h = absurd h
asked_by old QueryRemove h = absurd h
asked_by old CancelRemove h = absurd h
asked_by old Remove h = absurd h
asked_by old SurpriseRemove h = absurd h
asked_by old (Act tag) h = absurd h
asked_by old (Finish tag) h = absurd h
asked_by old Reset h = absurd h

-- no handle is given or closed by them
pub asked_handles : (old new : ManagerView) (event : Event) (reply : Reply) → IsTransferEvent event → IsRight old event reply new → new.handles ≡ old.handles
asked_handles old new (Read handle offset buffer) reply h right = right.replies.handles.handles
asked_handles old new (Write handle offset bytes through) reply h right = right.replies.handles.handles
asked_handles old new (Flush handle) reply h right = right.replies.handles.handles
asked_handles old new (Open partition) reply h right = absurd h
asked_handles old new (Close handle) reply h right = absurd h
asked_handles old new (CancelIoEx handle target) reply h right = absurd h
asked_handles old new (Mark number) reply h right = absurd h
asked_handles old new QueryRemove reply h right = absurd h
asked_handles old new CancelRemove reply h right = absurd h
asked_handles old new Remove reply h right = absurd h
asked_handles old new SurpriseRemove reply h right = absurd h
asked_handles old new (Act tag) reply h right = absurd h
asked_handles old new (Finish tag) reply h right = absurd h
asked_handles old new Reset reply h right = absurd h

-- how a read, a write or a flush may be replied to
abbrev pub IsReplyToCall : Reply → Type 0
IsReplyToCall (Requested id) = Unit {0}
IsReplyToCall (Answered answer) = Unit {0}
IsReplyToCall (Refused reason bytes) = Unit {0}
IsReplyToCall (HandleReply given) = ⊥
IsReplyToCall Done = ⊥
IsReplyToCall Ignored = ⊥

by_reply : (old : ManagerView) (handle : Handle) (q : ClientRequest) (buffer : List ℕ) (reply : Reply) (new : ManagerView) (told : Told) → TransferReplies old handle q buffer reply new told → IsReplyToCall reply
by_reply old handle q buffer (Requested id) new told h = tt
by_reply old handle q buffer (Answered answer) new told h = tt
by_reply old handle q buffer (Refused reason bytes) new told h = tt
by_reply old handle q buffer (HandleReply given) new told h = absurd h
by_reply old handle q buffer Done new told h = absurd h
by_reply old handle q buffer Ignored new told h = absurd h

pub replied : (old new : ManagerView) (event : Event) (reply : Reply) → IsTransferEvent event → IsRight old event reply new → IsReplyToCall reply
replied old new (Read handle offset buffer) reply h right = by_reply old handle _ buffer reply new right.told right.replies.replies
replied old new (Write handle offset bytes through) reply h right = by_reply old handle _ bytes reply new right.told right.replies.replies
replied old new (Flush handle) reply h right = by_reply old handle _ [] reply new right.told right.replies.replies
replied old new (Open partition) reply h right = absurd h
replied old new (Close handle) reply h right = absurd h
replied old new (CancelIoEx handle target) reply h right = absurd h
replied old new (Mark number) reply h right = absurd h
replied old new QueryRemove reply h right = absurd h
replied old new CancelRemove reply h right = absurd h
replied old new Remove reply h right = absurd h
replied old new SurpriseRemove reply h right = absurd h
replied old new (Act tag) reply h right = absurd h
replied old new (Finish tag) reply h right = absurd h
replied old new Reset reply h right = absurd h

-- a call that opened its request
module _ (old new : ManagerView) (q : ClientRequest) (id : Id) (h : IsCalled old q (Requested id) new) where
  call_labels : new.labels ≡ Call id.number q ∷ rest_of h.right.told
  call_labels =
      h.right.by.in_order ∙ ap (λ (o : List Label). ((o ++ map as_label h.right.told.device) ++ map as_answer h.right.told.answers) ++ end_labels h.right.told.ends) h.right.replies.replies.own

  pub call_untaken : IsPermutation (map as_answer new.answers) (answers_of new.labels ++ map as_answer old.answers)
  call_untaken =
      subst (λ (ls : List Label). IsPermutation (map as_answer new.answers) (answers_of ls ++ map as_answer old.answers)) (sym call_labels)
      (untaken_told h.right.told old.answers new.answers h.right.by.untaken)

  pub call_there : Contains new.labels (Call id.number q)
  call_there = subst (λ (ls : List Label). Contains ls (Call id.number q)) (sym call_labels) (head_there (Call id.number q) (rest_of h.right.told))

-- with no answers waiting, and with all labels taken
abbrev cleared : ManagerView → ManagerView
cleared v = record v { answers = [] }

abbrev taken : ManagerView → ManagerView
taken v = record v { labels = [] }

-- one that was refused, or ended at once
pub ends_now : StepsKeepEntries → StepsStayApart → (first now : ManagerView) (disk : DiskView) (trace trace' : TraceView) (event : Event) (reply : Reply) (result : Result Answer Refusal)
    → (IsTrue first.rules.keeps_bytes → Wrote trace now.labels trace') → IsTransferEvent event
    → IsRight (cleared first) event reply now → MatchResult result (λ answer. IsAnsweredBy (over first disk trace) event answer now.labels) (λ reason. IsRefusedAtOnce (over first disk trace) event reason now.labels [])
    → Requests (over first disk trace) event result (over (taken now) disk trace')
ends_now keep apart first now disk trace trace' event reply result wrote transfer right answered = record {
  labels = now.labels;
  deeds = [];
  same_rules = (led (cleared first) event reply now right).by.same_rules;
  same_handles = asked_handles (cleared first) now event reply transfer right;
  told = reanswered first (taken now) [] now.answers now.labels [] (others_told keep apart (cleared first) now event reply (no_act event transfer) right (transfer_undoes event transfer));
  files = refl;
  wrote = wrote;
  answered = answered;
}

-- a read, a write or a flush of no bytes is answered at once
pub answered_now : (first now : ManagerView) (disk : DiskView) (trace : TraceView) (event : Event) (answer : Answer) → IsTransferEvent event → IsRight (cleared first) event (Answered answer) now
    → IsAnsweredBy (over first disk trace) event answer now.labels
answered_now first now disk trace event answer transfer right =
    let ask = asked_by (cleared first) event transfer in
    let h = called (cleared first) event ask.0 (Answered answer) now ask.1 right in
    let number = first.state.next_request in
    let own : h.right.told.own ≡ Call number (without_bytes ask.0) ∷ AnswerLabel number Success 0 [] ∷ [] = ap (λ (t : Told). t.own) h.right.replies.replies.0.tells in
    let labels : now.labels ≡ ((h.right.told.own ++ map as_label h.right.told.device) ++ map as_answer h.right.told.answers) ++ end_labels h.right.told.ends = h.right.by.in_order in
    let there : (l : Label) → Contains h.right.told.own l → Contains now.labels l =
    λ l c. subst (λ (ls : List Label). Contains ls l) (sym labels) (Contains-append_left _ _ l (Contains-append_left _ _ l (Contains-append_left _ _ l c))) in
    let same : answer ≡ record { number = number; status = Success; information = 0; bytes = [] } = h.right.replies.replies.1 in
    record {
      request = ask.0;
      asks = ask.1;
      called =
          inr (there (Call answer.number (without_bytes ask.0))
          (subst (λ (ls : List Label). Contains ls (Call answer.number (without_bytes ask.0))) (sym own)
          (subst (λ (n : ℕ). Contains (Call number (without_bytes ask.0) ∷ AnswerLabel number Success 0 [] ∷ []) (Call n (without_bytes ask.0))) (sym (ap (λ (a : Answer). a.number) same)) (head_there (Call number (without_bytes ask.0)) (AnswerLabel number Success 0 [] ∷ [])))));
      answered =
          there (as_answer answer)
          (subst (λ (ls : List Label). Contains ls (as_answer answer)) (sym own)
          (subst (λ (a : Answer). Contains (Call number (without_bytes ask.0) ∷ AnswerLabel number Success 0 [] ∷ []) (as_answer a)) (sym same)
          (Contains-append_right (Call number (without_bytes ask.0) ∷ []) (AnswerLabel number Success 0 [] ∷ []) (AnswerLabel number Success 0 []) (head_there (AnswerLabel number Success 0 []) []))));
      alone = record {
        number = number;
        request = without_bytes ask.0;
        behind = AnswerLabel number Success 0 [] ∷ rest_of h.right.told;
        first = labels ∙ ap (λ (o : List Label). ((o ++ map as_label h.right.told.device) ++ map as_answer h.right.told.answers) ++ end_labels h.right.told.ends) own;
        all_quiet = All-cons IsQuiet (AnswerLabel number Success 0 []) (rest_of h.right.told) tt (quiet_rest h.right.told);
      };
    }

all_front : {X : Type 0} (P : X → Type 0) (xs ys : List X) → All P (xs ++ ys) → All P xs
all_front P [] ys h = All-nil P
all_front P (x ∷ xs) ys h = All-cons P x xs (All-head P x (xs ++ ys) h) (all_front P xs ys (All-tail P x (xs ++ ys) h))

pub all_behind : {X : Type 0} (P : X → Type 0) (xs ys : List X) → All P (xs ++ ys) → All P ys
all_behind P [] ys h = h
all_behind P (x ∷ xs) ys h = all_behind P xs ys (All-tail P x (xs ++ ys) h)

-- answers to other requests, as labels
none_mapped : (number : ℕ) (answers : List Answer) → All (IsOfAnother number) answers → All (IsNoAnswerTo number) (map as_answer answers)
none_mapped number answers h = All-map (IsNoAnswerTo number) as_answer answers (All-weaker (IsOfAnother number) (λ (a : Answer). IsNoAnswerTo number (as_answer a)) (λ (a : Answer) other. other) answers h)

-- one that went, and whose pieces are back
module _ (keep : StepsKeepEntries) (apart : StepsStayApart) (first now : ManagerView) (disk : DiskView) (trace trace' : TraceView) (last : CarriedView) (event : Event) (id : Id) (transfer : IsTransferEvent event)
    (right : IsRight (cleared first) event (Requested id) now) (drained : Goes (over (taken now) disk trace') last) where
  told_all : TellsOn (cleared first) (now.labels ++ drained.labels) drained.deeds last.stack
  told_all =
      tells_more (cleared first) (taken now) last.stack now.labels drained.labels [] drained.deeds
      (others_told keep apart (cleared first) now event (Requested id) (no_act event transfer) right (transfer_undoes event transfer)) drained.told

  rules_all : last.stack.rules ≡ first.rules
  rules_all = drained.same_rules ∙ (led (cleared first) event (Requested id) now right).by.same_rules

  from_call : (answer : Answer) → Contains (map as_answer now.answers) (as_answer answer) → Contains now.labels (as_answer answer)
  from_call answer c =
      let ask = asked_by (cleared first) event transfer in
      let h = called (cleared first) event ask.0 (Requested id) now ask.1 right in
      let there : Contains (answers_of now.labels ++ []) (as_answer answer) = Contains-permutation _ _ (as_answer answer) (call_untaken (cleared first) now ask.0 id h) c in
      answers_there now.labels (as_answer answer) (subst (λ (xs : List Label). Contains xs (as_answer answer)) (append-nil (answers_of now.labels)) there)

  answer_there : (answer : Answer) → Contains last.stack.answers answer → Contains (now.labels ++ drained.labels) (as_answer answer)
  answer_there answer c =
      let one : Contains (map as_answer last.stack.answers) (as_answer answer) = there_mapped as_answer last.stack.answers answer c in
      let two : Contains (answers_of drained.labels ++ map as_answer now.answers) (as_answer answer) = Contains-permutation _ _ (as_answer answer) drained.untaken one in
      elim (Contains-append_cases (answers_of drained.labels) (map as_answer now.answers) (as_answer answer) two) [
        | inl k ↦ Contains-append_right now.labels drained.labels (as_answer answer) (answers_there drained.labels (as_answer answer) k)
        | inr k ↦ Contains-append_left now.labels drained.labels (as_answer answer) (from_call answer k)
      ]

  is_answered : (answer : Answer) → Contains last.stack.answers answer → answer.number ≡ id.number → IsAnsweredBy (over first disk trace) event answer (now.labels ++ drained.labels)
  is_answered answer c same =
      let ask = asked_by (cleared first) event transfer in
      let h = called (cleared first) event ask.0 (Requested id) now ask.1 right in
      record {
        request = ask.0;
        asks = ask.1;
        called =
            inl (subst (λ (n : ℕ). Contains (now.labels ++ drained.labels) (Call n ask.0)) (sym same) (Contains-append_left now.labels drained.labels (Call id.number ask.0) (call_there (cleared first) now ask.0 id h)));
        answered = answer_there answer c;
        alone = record {
          number = id.number;
          request = ask.0;
          behind = rest_of h.right.told ++ drained.labels;
          first = ap (λ (ls : List Label). ls ++ drained.labels) (call_labels (cleared first) now ask.0 id h);
          all_quiet = All-append IsQuiet (rest_of h.right.told) drained.labels (quiet_rest h.right.told) drained.all_quiet;
        };
      }

  -- had it no answer, a request would be open with no piece out
  pub cannot_wait : CallsAreAnswered → Settled last.stack.rules last.stack.state → last.stack.state.pieces ≡ [] → IsFalse first.state.paused → All (IsOfAnother id.number) last.stack.answers → ⊥
  cannot_wait law settled none_out unpaused others =
      let ask = asked_by (cleared first) event transfer in
      let h = called (cleared first) event ask.0 (Requested id) now ask.1 right in
      let rest : List Label = rest_of h.right.told in
      let labels : now.labels ≡ Call id.number ask.0 ∷ rest = call_labels (cleared first) now ask.0 id h in
      let step : Run first.rules first.state now.labels now.state = run_of (cleared first) (cleared first) now (led (cleared first) event (Requested id) now right).reset (led (cleared first) event (Requested id) now right).told refl refl (led (cleared first) event (Requested id) now right).by in
      let same : now.rules ≡ first.rules = (led (cleared first) event (Requested id) now right).by.same_rules in
      let on : Run first.rules now.state drained.labels last.stack.state = subst (λ (r : Rules). Run r now.state drained.labels last.stack.state) same drained.run in
      let all : Run first.rules first.state (now.labels ++ drained.labels) last.stack.state = Run-append first.rules first.state now.labels now.state drained.labels last.stack.state step on in
      let run : Run first.rules first.state (Call id.number ask.0 ∷ (rest ++ drained.labels)) last.stack.state = subst (λ (ls : List Label). Run first.rules first.state (ls ++ drained.labels) last.stack.state) labels all in
      let last_none : All (IsNoAnswerTo id.number) (map as_answer last.stack.answers) = none_mapped id.number last.stack.answers others in
      let both : All (IsNoAnswerTo id.number) (answers_of drained.labels ++ map as_answer now.answers) = All-permutation (IsNoAnswerTo id.number) _ _ drained.untaken last_none in
      let first_none : All (IsNoAnswerTo id.number) (map as_answer now.answers) = all_behind (IsNoAnswerTo id.number) (answers_of drained.labels) (map as_answer now.answers) both in
      let called_none : All (IsNoAnswerTo id.number) (answers_of now.labels ++ []) = All-permutation (IsNoAnswerTo id.number) _ _ (call_untaken (cleared first) now ask.0 id h) first_none in
      let now_none : All (IsNoAnswerTo id.number) (answers_of now.labels) = subst (λ (ls : List Label). All (IsNoAnswerTo id.number) ls) (append-nil (answers_of now.labels)) called_none in
      let rest_none : All (IsNoAnswerTo id.number) (answers_of rest) = subst (λ (ls : List Label). All (IsNoAnswerTo id.number) (answers_of ls)) labels now_none in
      let paused : IsFalse last.stack.state.paused = drained.same_paused ∙ asked_steady (cleared first) now event (Requested id) transfer right ∙ unpaused in
      called_unanswered law first.rules first.state id.number ask.0 (rest ++ drained.labels) last.stack.state run (subst (λ (r : Rules). Settled r last.stack.state) rules_all settled) none_out paused
      (subst (λ (ls : List Label). All (IsNoAnswerTo id.number) ls) (sym (answers-append rest drained.labels))
      (All-append (IsNoAnswerTo id.number) (answers_of rest) (answers_of drained.labels) rest_none (all_front (IsNoAnswerTo id.number) (answers_of drained.labels) (map as_answer now.answers) both)))

  handles_all : last.stack.handles ≡ first.handles
  handles_all = drained.same_handles ∙ asked_handles (cleared first) now event (Requested id) transfer right

  -- its answer was taken
  pub ends_later : (IsTrue first.rules.keeps_bytes → Wrote trace now.labels trace') → (answer : Answer) (after : ManagerView) → TakesAnswerOf last.stack id.number (Some answer) after
      → Requests (over first disk trace) event (Ok answer) (over after last.disk last.trace)
  ends_later wrote answer after takes = record {
    labels = now.labels ++ drained.labels;
    deeds = drained.deeds;
    same_rules = ap (λ (v : ManagerView). v.rules) takes.3 ∙ rules_all;
    same_handles = ap (λ (v : ManagerView). v.handles) takes.3 ∙ handles_all;
    told =
        subst (λ (v : ManagerView). TellsOn first (now.labels ++ drained.labels) drained.deeds v) (sym takes.3)
        (reanswered first last.stack [] (remove last.stack.answers takes.0) (now.labels ++ drained.labels) drained.deeds told_all);
    files = drained.files;
    wrote = λ bytes. wrote_more trace trace' last.trace now.labels drained.labels (wrote bytes) (drained.wrote (keeps_on now first (sym (led (cleared first) event (Requested id) now right).by.same_rules) bytes));
    answered = is_answered answer (got_there last.stack.answers takes.0 answer takes.1) takes.2;
  }

-- A PIECE'S ENTRY, HANDED OVER

-- where it was sent, the entry is told by its SRB
pub sent_given : (v : AdapterView) (tag piece : ℕ) (srb : Srb) → IsInOrder v → IsArmed v tag piece srb → handed v tag piece Sent ≡ Ok (entry_sent tag piece srb)
sent_given v tag piece srb order armed =
    ap (λ (found : Option Srb). sent_of tag piece found) (srb_on_is v tag armed.use' armed.others order.tags_differ armed.is_on ∙ ap (λ (s : Srb). Some s) armed.is_srb)

pub has_booked : (old new : ManagerView) (before after : DiskView) (tag piece : ℕ) (srb : Srb) (what given : Result Entry Completion) → given ≡ what → IsArmed old.adapter tag piece srb
    → Transfers before tag piece srb what after → Suits before.sector_size before.sectors srb what → IsOfPiece tag piece what → BooksPiece old tag piece given new → BooksArmed old before tag new after
has_booked old new before after tag piece srb what given same armed transfers suits of_piece books =
    inl (record {
      piece = piece;
      srb = srb;
      what = what;
      armed = armed;
      transfers = transfers;
      suits = suits;
      of_piece = of_piece;
      books = subst (λ (w : Result Entry Completion). BooksPiece old tag piece w new) same books;
    })

-- BOOKING LEAVES THE MACHINE

pub booked_state : (old booked : ManagerView) (before after : DiskView) (tag : ℕ) → BooksArmed old before tag booked after → booked.state ≡ old.state
booked_state old booked before after tag (inl has) = ap (λ (v : ManagerView). v.state) has.books.same
booked_state old booked before after tag (inr none) = ap (λ (v : ManagerView). v.state) none.same_stack

pub booked_labels : (old booked : ManagerView) (before after : DiskView) (tag : ℕ) → BooksArmed old before tag booked after → booked.labels ≡ old.labels
booked_labels old booked before after tag (inl has) = ap (λ (v : ManagerView). v.labels) has.books.same
booked_labels old booked before after tag (inr none) = ap (λ (v : ManagerView). v.labels) none.same_stack

pub fewer_since : (result : Bool) (old booked new : ManagerView) (tag : ℕ) → booked.state ≡ old.state → MatchBool result (fresh_count new.state < fresh_count booked.state) (HasNoneFreshIn new tag)
    → MatchBool result (fresh_count new.state < fresh_count old.state) (HasNoneFreshIn new tag)
fewer_since true old booked new tag same h = subst (λ (s : State). fresh_count new.state < fresh_count s) same h
fewer_since false old booked new tag same h = h

-- A HANDLE

-- an open tells nothing
pub open_silent : (old new : ManagerView) (partition : ℕ) (reply : Reply) → IsRight old (Open partition) reply new → new.labels ≡ []
open_silent old new partition (HandleReply given) h = h.by.in_order ∙ ap labels_of h.replies.0.nothing
open_silent old new partition (Refused reason bytes) h = h.by.in_order ∙ ap labels_of h.replies.1.unmoved.nothing
open_silent old new partition Done h = absurd h.replies
open_silent old new partition (Requested id) h = absurd h.replies
open_silent old new partition (Answered answer) h = absurd h.replies
open_silent old new partition Ignored h = absurd h.replies

module _ (old new after : ManagerView) (partition : ℕ) (is_after : after ≡ record new { labels = [] }) (rules_are : after.rules ≡ old.rules) where
  on_given : (handle : Handle) → IsRight old (Open partition) (HandleReply handle) new → IsOn after handle partition
  on_given handle right = record {
    is_open = ap (λ (v : ManagerView). partition_of v.handles handle) is_after ∙ given_on old partition handle new right.replies.1;
    known = subst (λ (r : Rules). partition < length r.partitions) (sym rules_are) (given_known old partition right.replies.1.not_refused);
  }

  pub on_opened : {E : Type 0} (reply : Reply) (found : Result Handle E) → IsRight old (Open partition) reply new → IfOk found (λ handle. reply ≡ HandleReply handle) → IfOk found (λ handle. IsOn after handle partition)
  on_opened reply (Ok handle) right is = on_given handle (subst (λ (r : Reply). IsRight old (Open partition) r new) is right)
  on_opened reply (Err fault) right is = tt

-- A REQUEST, FROM WHERE IT WAS ASKED

-- answers that wait say nothing of what stands there
unanswered_stands : (v : ManagerView) (disk : DiskView) (answers : List Answer) → StandsIn v disk → StandsIn (record v { answers = answers }) disk
unanswered_stands v disk answers s = record { apart = s.apart; sector_size = s.sector_size; sectors = s.sectors }

module _ (keep : StepsKeepEntries) (apart : StepsStayApart) (first clean now after : ManagerView) (disk : DiskView) (event : Event) (transfer : IsTransferEvent event)
    (is_clean : clean ≡ cleared first) (is_after : after ≡ taken now) where
  wrote_from : (trace trace' : TraceView) → (IsTrue clean.rules.keeps_bytes → Wrote trace now.labels trace') → IsTrue first.rules.keeps_bytes → Wrote trace now.labels trace'
  wrote_from trace trace' wrote bytes = wrote (subst (λ (v : ManagerView). IsTrue v.rules.keeps_bytes) (sym is_clean) bytes)

  module _ (reply : Reply) (right : IsRight clean event reply now) where
    right_from : IsRight (cleared first) event reply now
    right_from = subst (λ (v : ManagerView). IsRight v event reply now) is_clean right

    pub carry_stands : StandsIn first disk → StandsIn after disk
    carry_stands s =
        subst (λ (v : ManagerView). StandsIn v disk) (sym is_after)
        (others_stand keep apart (cleared first) now event reply (no_act event transfer) right_from disk (unanswered_stands first disk [] s))

    pub carry_paused : IsFalse first.state.paused → IsFalse after.state.paused
    carry_paused unpaused = ap (λ (v : ManagerView). v.state.paused) is_after ∙ asked_steady (cleared first) now event reply transfer right_from ∙ unpaused

    pub carry_ends : (trace trace' : TraceView) (wrote : IsTrue clean.rules.keeps_bytes → Wrote trace now.labels trace') (result : Result Answer Refusal)
        → MatchResult result (λ answer. IsAnsweredBy (over first disk trace) event answer now.labels) (λ reason. IsRefusedAtOnce (over first disk trace) event reason now.labels []) → Requests (over first disk trace) event result (over after disk trace')
    carry_ends trace trace' wrote result answered =
        subst (λ (v : ManagerView). Requests (over first disk trace) event result (over v disk trace')) (sym is_after) (ends_now keep apart first now disk trace trace' event reply result (wrote_from trace trace' wrote) transfer right_from answered)

  pub carry_answers : (trace trace' : TraceView) (wrote : IsTrue clean.rules.keeps_bytes → Wrote trace now.labels trace') (answer : Answer) → IsRight clean event (Answered answer) now → Requests (over first disk trace) event (Ok answer) (over after disk trace')
  carry_answers trace trace' wrote answer right =
      carry_ends (Answered answer) right trace trace' wrote (Ok answer) (answered_now first now disk trace event answer transfer (subst (λ (v : ManagerView). IsRight v event (Answered answer) now) is_clean right))

  pub carry_refused : (trace trace' : TraceView) (wrote : IsTrue clean.rules.keeps_bytes → Wrote trace now.labels trace') (reason : Refusal) (bytes : List ℕ) → IsRight clean event (Refused reason bytes) now
      → Requests (over first disk trace) event (Err reason) (over after disk trace')
  carry_refused trace trace' wrote reason bytes right =
      carry_ends (Refused reason bytes) right trace trace' wrote (Err reason) (record {
        after = now;
        bytes = bytes;
        refused = subst (λ (v : ManagerView). IsRight v event (Refused reason bytes) now) is_clean right;
        told = refl;
        none_moved = refl;
      })

  module _ (trace trace' : TraceView) (id : Id) (right : IsRight clean event (Requested id) now) (last : CarriedView) (drained : Goes (over after disk trace') last) where
    right_request : IsRight (cleared first) event (Requested id) now
    right_request = subst (λ (v : ManagerView). IsRight v event (Requested id) now) is_clean right

    drained_from : Goes (over (taken now) disk trace') last
    drained_from = subst (λ (v : ManagerView). Goes (over v disk trace') last) is_after drained

    pub carry_later : (wrote : IsTrue clean.rules.keeps_bytes → Wrote trace now.labels trace') (answer : Answer) (final : ManagerView) → TakesAnswerOf last.stack id.number (Some answer) final
        → Requests (over first disk trace) event (Ok answer) (over final last.disk last.trace)
    carry_later wrote = ends_later keep apart first now disk trace trace' last event id transfer right_request drained_from (wrote_from trace trace' wrote)

    pub carry_waits : CallsAreAnswered → Settled last.stack.rules last.stack.state → last.stack.state.pieces ≡ [] → IsFalse first.state.paused → (final : ManagerView) → TakesAnswerOf last.stack id.number None final → ⊥
    carry_waits law settled none_out unpaused final takes = cannot_wait keep apart first now disk trace trace' last event id transfer right_request drained_from law settled none_out unpaused takes.0

pub labels_still : (last final : ManagerView) (number : ℕ) (found : Option Answer) → TakesAnswerOf last number found final → last.labels ≡ [] → final.labels ≡ []
labels_still last final number (Some answer) t e = ap (λ (v : ManagerView). v.labels) t.3 ∙ e
labels_still last final number None t e = ap (λ (v : ManagerView). v.labels) t.1 ∙ e

pub pause_still : (last final : ManagerView) (number : ℕ) (found : Option Answer) → TakesAnswerOf last number found final → IsFalse last.state.paused → IsFalse final.state.paused
pause_still last final number (Some answer) t e = ap (λ (v : ManagerView). v.state.paused) t.3 ∙ e
pause_still last final number None t e = ap (λ (v : ManagerView). v.state.paused) t.1 ∙ e

pub stands_still : (last final : ManagerView) (disk : DiskView) (number : ℕ) (found : Option Answer) → TakesAnswerOf last number found final → StandsIn last disk → StandsIn final disk
stands_still last final disk number (Some answer) t s = subst (λ (v : ManagerView). StandsIn v disk) (sym t.3) (unanswered_stands last disk (remove last.answers t.0) s)
stands_still last final disk number None t s = subst (λ (v : ManagerView). StandsIn v disk) (sym t.1) s
