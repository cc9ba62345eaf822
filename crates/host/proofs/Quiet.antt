-- Steps that tell of no call.
use Rattle.std.proofs.Common.{◌≡◌, ℕ, zero, suc, Bool, true, false, if◌then◌else◌, List, [], ◌∷◌, ◌++◌, length, map, Option, Some, None, refl, sym, ap, ◌∙◌, subst, arith, append_assoc, inl, inr}
use Rattle.std.specs.Prelude.{◌⊎◌}
use Rattle.host.proofs.Common.{append-nil, DeviceLabel, Label, AreDistinct, as_label, AreDistinct-Run, CallsCount, call_numbers, Reply, ManagerView, Event, IsNoAct, ActsEntry, BookView, AreBooked, HoldsFailure, IsLastAct, ServesAfter, ServesEvent, TraceEntry, entry, is_call, row_of, LogView, noted, noted_all, owners_after, AreNoCalls, TracedView, AreLooked, CarriesSeen, IsCarried, IsLooked, IsServed, log_of}
use Rattle.machine.specs.declared.Label.TheVariants.{Call, Device, Answer as AnswerLabel, Cancel, Pause, Resume, Remove, Surprise, Removed}
use Rattle.io_manager.specs.declared.Answer.{Answer}
use Rattle.io_manager.specs.declared.Reply.TheVariants.{Handle, Ok as OkReply, Request, Answered, Refused, Ignored}
use Rattle.io_manager.specs.Right.{MarkReplies, Told, CancelsOne, as_answer, end_labels, labels_of}
use Rattle.srb.specs.declared.Entry.{Entry as Booked}
use Rattle.compose.specs.declared.Event.TheVariants.{Mark}
use Rattle.host.proofs.Undisturbed.{IsWhereItWas, LeaveDevice, leaves_run, right_leaves, where_same, where_then}

-- LABELS

pub no_calls_append : (xs ys : List Label) → AreNoCalls xs → AreNoCalls ys → AreNoCalls (xs ++ ys)
no_calls_append [] ys a b = b
no_calls_append (Call n q ∷ xs) ys a b = absurd a
no_calls_append (_ ∷ xs) ys a b = no_calls_append xs ys a b

no_calls_numbers : (xs : List Label) → AreNoCalls xs → length (call_numbers xs) ≡ 0
no_calls_numbers [] a = refl
no_calls_numbers (Call n q ∷ xs) a = absurd a
no_calls_numbers (_ ∷ xs) a = no_calls_numbers xs a

devices_call_none : (labels : List DeviceLabel) → AreNoCalls (map as_label labels)
devices_call_none [] = tt
devices_call_none (l ∷ ls) = devices_call_none ls

answers_call_none : (answers : List Answer) → AreNoCalls (map as_answer answers)
answers_call_none [] = tt
answers_call_none (a ∷ more) = answers_call_none more

end_calls_none : (ends : Bool) → AreNoCalls (end_labels ends)
end_calls_none true = tt
end_calls_none false = tt

-- what is told but for a step's own labels
pub rest_calls_none : (told : Told) → AreNoCalls ((map as_label told.device ++ map as_answer told.answers) ++ end_labels told.ends)
rest_calls_none told =
    no_calls_append (map as_label told.device ++ map as_answer told.answers) (end_labels told.ends)
    (no_calls_append (map as_label told.device) (map as_answer told.answers) (devices_call_none told.device) (answers_call_none told.answers))
    (end_calls_none told.ends)

told_calls_none : (told : Told) → AreNoCalls told.own → AreNoCalls (labels_of told)
told_calls_none told own =
    no_calls_append ((told.own ++ map as_label told.device) ++ map as_answer told.answers) (end_labels told.ends)
    (no_calls_append (told.own ++ map as_label told.device) (map as_answer told.answers)
    (no_calls_append told.own (map as_label told.device) own (devices_call_none told.device))
    (answers_call_none told.answers))
    (end_calls_none told.ends)

-- ENTRIES

-- none of these entries is a call
abbrev pub NoCalls : List TraceEntry → Type 0
NoCalls [] = Unit {0}
NoCalls (e ∷ es) = (is_call e.label ≡ false) × NoCalls es

pub none_both : (xs ys : List TraceEntry) → NoCalls xs → NoCalls ys → NoCalls (xs ++ ys)
none_both [] ys a b = b
none_both (x ∷ xs) ys a b = (a.0, none_both xs ys a.1 b)

-- what labels without calls add to the log
pub record IsQuiet (client : ℕ) (p : LogView) (labels : List Label) : Type 0 where
  pub more : List TraceEntry
  pub entries : (noted_all client p labels).entries ≡ p.entries ++ more
  pub none : NoCalls more
  pub owners : (noted_all client p labels).owners ≡ p.owners

quiet_next : (client : ℕ) (p : LogView) (label : Label) (labels : List Label) → is_call label ≡ false → owners_after client p.owners label ≡ p.owners → IsQuiet client (noted client p label) labels
    → IsQuiet client p (label ∷ labels)
quiet_next client p label labels none same rest = record {
  more = entry label (row_of (owners_after client p.owners label) label) ∷ rest.more;
  entries = rest.entries ∙ append_assoc p.entries (entry label (row_of (owners_after client p.owners label) label) ∷ []) rest.more;
  none = (none, rest.none);
  owners = rest.owners ∙ same;
}

pub quiet : (client : ℕ) (p : LogView) (labels : List Label) → AreNoCalls labels → IsQuiet client p labels
quiet client p [] none = record { more = []; entries = sym (append-nil p.entries); none = tt; owners = refl }
quiet client p (Call n q ∷ ls) none = absurd none
quiet client p (other ∷ ls) none = quiet_next client p other ls refl refl (quiet client (noted client p other) ls none)

-- LOOKS AT THE MARKS

-- no call came
pub record Still (old new : TracedView) : Type 0 where
  pub more : List TraceEntry
  pub entries : new.entries ≡ old.entries ++ more
  pub none : NoCalls more
  pub owners : new.owners ≡ old.owners
  pub handles : new.stack.handles ≡ old.stack.handles
  pub rules : new.stack.rules ≡ old.stack.rules
  pub next : new.stack.state.next_request ≡ old.stack.state.next_request
  pub distinct : AreDistinct old.stack.state → AreDistinct new.stack.state
  pub device : IsWhereItWas old.stack.state new.stack.state

still_same : (old new : TracedView) → new.entries ≡ old.entries → new.owners ≡ old.owners → new.stack ≡ old.stack → Still old new
still_same old new entries owners stack = record {
  more = [];
  entries = entries ∙ sym (append-nil old.entries);
  none = tt;
  owners = owners;
  handles = ap (λ v. v.handles) stack;
  rules = ap (λ v. v.rules) stack;
  next = ap (λ v. v.state.next_request) stack;
  distinct = subst (λ (v : ManagerView). AreDistinct v.state) (sym stack);
  device = where_same old.stack.state new.stack.state (ap (λ (v : ManagerView). v.state) stack);
}

still_then : (a b c : TracedView) → Still a b → Still b c → Still a c
still_then a b c x y = record {
  more = x.more ++ y.more;
  entries = y.entries ∙ ap (λ es. es ++ y.more) x.entries ∙ append_assoc a.entries x.more y.more;
  none = none_both x.more y.more x.none y.none;
  owners = y.owners ∙ x.owners;
  handles = y.handles ∙ x.handles;
  rules = y.rules ∙ x.rules;
  next = y.next ∙ x.next;
  distinct = λ d. y.distinct (x.distinct d);
  device = where_then a.stack.state b.stack.state c.stack.state x.device y.device;
}

mark_own : (old : ManagerView) (number : ℕ) (told : Told) → CancelsOne old number told → AreNoCalls told.own
mark_own old number told c = subst AreNoCalls (sym c.own) (go c.request.cancelled)
  where
    go : (b : Bool) → AreNoCalls (if b then [] else Cancel number ∷ [])
    go true = tt
    go false = tt

mark_leaves : (old : ManagerView) (number : ℕ) (told : Told) → CancelsOne old number told → LeaveDevice told.own
mark_leaves old number told c = subst LeaveDevice (sym c.own) (go c.request.cancelled)
  where
    go : (b : Bool) → LeaveDevice (if b then [] else Cancel number ∷ [])
    go true = tt
    go false = (tt, tt)

mark_leaves_device : (old : ManagerView) (number : ℕ) (reply : Reply) (new : ManagerView) (told : Told) → MarkReplies old number reply new told → LeaveDevice told.own
mark_leaves_device old number OkReply new told r = mark_leaves old number told r.0
mark_leaves_device old number Ignored new told r = subst LeaveDevice (sym (ap (λ t. t.own) r.0.nothing)) tt
mark_leaves_device old number _ new told r = absurd r

mark_tells : (old : ManagerView) (number : ℕ) (reply : Reply) (new : ManagerView) (told : Told) → MarkReplies old number reply new told → AreNoCalls told.own × (new.handles ≡ old.handles)
mark_tells old number OkReply new told r = (mark_own old number told r.0, r.1.handles)
mark_tells old number Ignored new told r = (subst AreNoCalls (sym (ap (λ t. t.own) r.0.nothing)) tt, r.2.handles)
mark_tells old number _ new told r = absurd r

still_marked : CallsCount → (old : TracedView) (number : ℕ) (reply : Reply) (new : TracedView) → IsCarried 0 old (Mark number) reply new → Still old new
still_marked count old number reply new c =
    let m = mark_tells old.stack number reply c.stepped c.right.told c.right.replies in
    let none : AreNoCalls c.stepped.labels = subst AreNoCalls (sym c.right.by.in_order) (told_calls_none c.right.told m.0) in
    let q = quiet 0 (log_of old) c.stepped.labels none in
    let rise = count old.stack.rules old.stack.state c.stepped.labels c.stepped.state c.right.by.run in
    let zeros = no_calls_numbers c.stepped.labels none in
    let next : c.stepped.state.next_request ≡ old.stack.state.next_request = omega (arith, rise, zeros) in
    record {
      more = q.more;
      entries = c.entries ∙ q.entries;
      none = q.none;
      owners = c.owners ∙ q.owners;
      handles = ap (λ v. v.handles) c.stack ∙ m.1;
      rules = ap (λ v. v.rules) c.stack ∙ c.right.by.same_rules;
      next = ap (λ v. v.state.next_request) c.stack ∙ next;
      distinct = λ d. subst (λ (v : ManagerView). AreDistinct v.state) (sym c.stack) (AreDistinct-Run old.stack.rules old.stack.state c.stepped.labels c.stepped.state d c.right.by.run);
      device = where_then old.stack.state c.stepped.state new.stack.state (right_leaves false c.right.told old.stack c.stepped c.right.by (mark_leaves_device old.stack number reply c.stepped c.right.told c.right.replies))
          (where_same c.stepped.state new.stack.state (ap (λ (v : ManagerView). v.state) c.stack));
    }

still_looked : CallsCount → (slot : ℕ) (old new : TracedView) → IsLooked slot old new → Still old new
still_looked count slot old new l = go l.seen l.carries
  where
    go : (seen : Option ℕ) → CarriesSeen seen (record old { marks = l.looked }) new → Still old new
    go None e = still_same old new (ap (λ b. b.entries) e) (ap (λ b. b.owners) e) (ap (λ b. b.stack) e)
    go (Some number) c =
        let s = still_marked count (record old { marks = l.looked }) number c.0 new c.1 in
        record { more = s.more; entries = s.entries; none = s.none; owners = s.owners; handles = s.handles; rules = s.rules; next = s.next; distinct = s.distinct; device = s.device }

pub still_all : CallsCount → (slots : ℕ) (old new : TracedView) → AreLooked slots old new → Still old new
still_all count zero old new e = still_same old new (ap (λ b. b.entries) e) (ap (λ b. b.owners) e) (ap (λ b. b.stack) e)
still_all count (suc slot) old new l = still_then old l.0 new (still_all count slot old l.0 l.1) (still_looked count slot l.0 new l.2)

-- ENTRIES ARE BOOKED

-- the act of an entry tells of itself alone
still_acted : CallsCount → (old : TracedView) (booked : Booked) (new : TracedView) → ActsEntry old booked new → Still old new
still_acted count old booked new acts =
    let held : TracedView = acts.held in
    let c = acts.carried in
    let stack : held.stack ≡ record old.stack { adapter = held.stack.adapter } = acts.holds.books.same in
    let none : AreNoCalls c.stepped.labels = subst AreNoCalls (sym acts.tells) tt in
    let q = quiet 0 (log_of held) c.stepped.labels none in
    let rise = count held.stack.rules held.stack.state c.stepped.labels c.stepped.state c.right.by.run in
    let zeros = no_calls_numbers c.stepped.labels none in
    let next : c.stepped.state.next_request ≡ held.stack.state.next_request = omega (arith, rise, zeros) in
    record {
      more = q.more;
      entries = c.entries ∙ q.entries ∙ ap (λ (v : TracedView). v.entries ++ q.more) acts.holds.same;
      none = q.none;
      owners = c.owners ∙ q.owners ∙ ap (λ (v : TracedView). v.owners) acts.holds.same;
      handles = ap (λ (v : ManagerView). v.handles) c.stack ∙ c.right.replies.1.handles ∙ ap (λ (v : ManagerView). v.handles) stack;
      rules = ap (λ (v : ManagerView). v.rules) c.stack ∙ c.right.by.same_rules ∙ ap (λ (v : ManagerView). v.rules) stack;
      next = ap (λ (v : ManagerView). v.state.next_request) c.stack ∙ next ∙ ap (λ (v : ManagerView). v.state.next_request) stack;
      distinct = λ d. subst (λ (v : ManagerView). AreDistinct v.state) (sym c.stack)
          (AreDistinct-Run held.stack.rules held.stack.state c.stepped.labels c.stepped.state (subst (λ (v : ManagerView). AreDistinct v.state) (sym stack) d) c.right.by.run);
      device = where_then old.stack.state held.stack.state new.stack.state (where_same old.stack.state held.stack.state (ap (λ (v : ManagerView). v.state) stack))
          (where_then held.stack.state c.stepped.state new.stack.state (leaves_run held.stack.rules held.stack.state c.stepped.labels c.stepped.state (subst LeaveDevice (sym acts.tells) (tt, tt)) c.right.by.run)
          (where_same c.stepped.state new.stack.state (ap (λ (v : ManagerView). v.state) c.stack)));
    }

still_booked : CallsCount → (many : ℕ) (old new : BookView) → AreBooked many old new → Still old.traced new.traced
still_booked count zero old new same = let e : new.traced ≡ old.traced = ap (λ (b : BookView). b.traced) same in still_same old.traced new.traced (ap (λ (v : TracedView). v.entries) e) (ap (λ (v : TracedView). v.owners) e) (ap (λ (v : TracedView). v.stack) e)
still_booked count (suc many) old new (mid, before, (tag, one)) = still_then old.traced mid.traced new.traced (still_booked count many old mid before) (still_acted count mid.traced one.next.entry new.traced one.acts)

-- the marks, and then the entries
pub still_before : CallsCount → (slots many : ℕ) (old : BookView) (marked : TracedView) (booked : BookView) → AreLooked slots old.traced marked → AreBooked many (record old { traced = marked }) booked → Still old.traced booked.traced
still_before count slots many old marked booked looks books =
    still_then old.traced marked booked.traced (still_all count slots old.traced marked looks) (still_booked count many (record old { traced = marked }) booked books)

-- what goes before an event that is no act
pub record GoesBefore (old : TracedView) (event : Event) (reply : Reply) (new : TracedView) : Type 0 where
  pub mid : TracedView
  pub still : Still old mid
  pub served : IsServed 0 mid event reply new

pub goes_before : CallsCount → (slots : ℕ) (old : BookView) (marked : TracedView) (event : Event) (reply : Reply) (new : BookView) → IsNoAct event → AreLooked slots old.traced marked
    → ServesAfter None (record old { traced = marked }) event reply new → GoesBefore old.traced event reply new.traced
goes_before count slots old marked event reply new other looks after = go after.serves
  where
    held_same : (held : TracedView) → HoldsFailure None after.booked.traced event held → held ≡ after.booked.traced
    held_same held (inl same) = same
    held_same held (inr (tag, piece, completion, why, is, holds)) = absurd (subst IsNoAct is other)

    go : ServesEvent None after.booked event reply new ⊎ IsLastAct after.count (record old { traced = marked }) after.booked event reply new → GoesBefore old.traced event reply new.traced
    go (inl serves) = record {
      mid = after.booked.traced;
      still = still_before count slots after.count old marked after.booked looks after.books;
      served = subst (λ (v : TracedView). IsServed 0 v event reply new.traced) (held_same serves.held serves.holds) serves.served;
    }
    go (inr last) = absurd (subst IsNoAct last.is_act other)
