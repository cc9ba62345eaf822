-- Steps with no entry keep what holds of a book.
use Rattle.std.proofs.Common.{◌≡◌, inl, inr, ℕ, zero, suc, ◌<◌, ◌≤◌, true, false, List, [], ◌∷◌, ◌++◌, length, Option, Some, None, IsFalse, refl, sym, ap, subst, ◌∙◌, arith, append_assoc}
use Rattle.std.specs.Prelude.{◌⊎◌, All, slice_get, drop}
use Rattle.book.proofs.Common.{append-nil, slice_get_within, All-head, All-tail, All-cons, All-nil, Srb, IsArmed, Label, Rules, State, Reply, ManagerView, Event, IsNoAct, IsJournaled, StepsKeepEntries, StepsStayApart, Armed, entries_in, TraceEntry, is_call_event, TracedView, AreLooked, CarriesSeen, IsCarried, IsLooked, IsServed, StaysKept, Claimed, IsClaimed, IsOnTag, HaveNoted, HaveNotedAll, Leaves, ArmedStays}
use Rattle.srb.specs.declared.Entry.{Entry as Booked}
use Rattle.compose.specs.declared.Event.TheVariants.{Open, Close, Read, Write, Flush, CancelIoEx, Mark, QueryRemove, CancelRemove, Remove, SurpriseRemove, Act, Finish, Reset}
use Rattle.traced.specs.Entries.{labels_of}
use Rattle.book.proofs.Going.{labels_carried}

-- LISTS

all_left : {A : Type 0} (P : A → Type 0) (xs ys : List A) → All P (xs ++ ys) → All P xs
all_left P [] ys all = All-nil P
all_left P (x ∷ xs) ys all = All-cons P x xs (All-head P x (xs ++ ys) all) (all_left P xs ys (All-tail P x (xs ++ ys) all))

all_right : {A : Type 0} (P : A → Type 0) (xs ys : List A) → All P (xs ++ ys) → All P ys
all_right P [] ys all = all
all_right P (x ∷ xs) ys all = all_right P xs ys (All-tail P x (xs ++ ys) all)

-- STEPS

-- what was told goes on by these labels, with no entry more
record Goes (old : TracedView) (labels : List Label) (new : TracedView) : Type 0 where
  longer : labels_of new.entries ≡ labels_of old.entries ++ labels
  journaled : (entries : List Booked) → IsJournaled (labels_of old.entries) entries old.stack → IsJournaled (labels_of new.entries) entries new.stack
  apart : IsFalse old.stack.adapter.faithful → IsFalse new.stack.adapter.faithful
  armed : (tag piece : ℕ) (srb : Srb) → All (Leaves piece) labels → IsArmed old.stack.adapter tag piece srb → IsArmed new.stack.adapter tag piece srb

abbrev Further : TracedView → TracedView → Type 0
Further old new = (labels : List Label) × Goes old labels new

goes_nowhere : (old new : TracedView) → new.entries ≡ old.entries → new.stack ≡ old.stack → Goes old [] new
goes_nowhere old new entries stack =
    let same : labels_of new.entries ≡ labels_of old.entries = ap labels_of entries in
    record {
      longer = same ∙ sym (append-nil (labels_of old.entries));
      journaled = λ es j. subst (λ (v : ManagerView). IsJournaled (labels_of new.entries) es v) (sym stack) (subst (λ (ls : List Label). IsJournaled ls es old.stack) (sym same) j);
      apart = λ a. subst (λ (v : ManagerView). IsFalse v.adapter.faithful) (sym stack) a;
      armed = λ tag piece srb leave h. subst (λ (v : ManagerView). IsArmed v.adapter tag piece srb) (sym stack) h;
    }

goes_on : (old mid new : TracedView) (first more : List Label) → Goes old first mid → Goes mid more new → Goes old (first ++ more) new
goes_on old mid new first more one two = record {
  longer = two.longer ∙ ap (λ (ls : List Label). ls ++ more) one.longer ∙ append_assoc (labels_of old.entries) first more;
  journaled = λ es j. two.journaled es (one.journaled es j);
  apart = λ a. two.apart (one.apart a);
  armed = λ tag piece srb leave h. two.armed tag piece srb (all_right (Leaves piece) first more leave) (one.armed tag piece srb (all_left (Leaves piece) first more leave) h);
}

module _ (keep : StepsKeepEntries) (apart : StepsStayApart) (stays : ArmedStays) where
  carried_goes : (client : ℕ) (old : TracedView) (event : Event) (reply : Reply) (new : TracedView) → IsNoAct event → (carried : IsCarried client old event reply new) → Goes old carried.stepped.labels new
  carried_goes client old event reply new other carried =
      let stepped : ManagerView = carried.stepped in
      let longer : labels_of new.entries ≡ labels_of old.entries ++ stepped.labels = labels_carried client old event reply new carried in
      record {
        longer = longer;
        journaled = λ es j.
            let next : IsJournaled (labels_of old.entries ++ stepped.labels) es stepped = keep (labels_of old.entries) es old.stack event reply stepped other carried.right j in
            subst (λ (v : ManagerView). IsJournaled (labels_of new.entries) es v) (sym carried.stack)
            (subst (λ (ls : List Label). IsJournaled ls es (record stepped { labels = [] })) (sym longer) (record { of_acts = next.of_acts; started = next.started }));
        apart = λ a. subst (λ (v : ManagerView). IsFalse v.adapter.faithful) (sym carried.stack) (apart old.stack event reply stepped carried.right a);
        armed = λ tag piece srb leave h.
            subst (λ (v : ManagerView). IsArmed v.adapter tag piece srb) (sym carried.stack) (stays old.stack event reply stepped tag piece srb carried.right leave h);
      }

  seen_goes : (seen : Option ℕ) (old new : TracedView) → CarriesSeen seen old new → Further old new
  seen_goes None old new same = ([], goes_nowhere old new (ap (λ (v : TracedView). v.entries) same) (ap (λ (v : TracedView). v.stack) same))
  seen_goes (Some number) old new (reply, carried) = (carried.stepped.labels, carried_goes 0 old (Mark number) reply new tt carried)

  looked_goes : (slot : ℕ) (old new : TracedView) → IsLooked slot old new → Further old new
  looked_goes slot old new looked =
      let looking : TracedView = record old { marks = looked.looked } in
      let rest : Further looking new = seen_goes looked.seen looking new looked.carries in
      ([] ++ rest.0, goes_on old looking new [] rest.0 (goes_nowhere old looking refl refl) rest.1)

  all_looked : (slots : ℕ) (old new : TracedView) → AreLooked slots old new → Further old new
  all_looked zero old new same = ([], goes_nowhere old new (ap (λ (v : TracedView). v.entries) same) (ap (λ (v : TracedView). v.stack) same))
  all_looked (suc slot) old new (mid, before, last) =
      let first : Further old mid = all_looked slot old mid before in
      let more : Further mid new = looked_goes slot mid new last in
      (first.0 ++ more.0, goes_on old mid new first.0 more.0 first.1 more.1)

  served_goes : (client : ℕ) (old : TracedView) (event : Event) (reply : Reply) (new : TracedView) → IsNoAct event → IsServed client old event reply new → Further old new
  served_goes client old event reply new other (inl carried) = (carried.stepped.labels, carried_goes client old event reply new other carried)
  served_goes client old event reply new other (inr wanting) = ([], goes_nowhere old new (ap (λ (v : TracedView). v.entries) wanting.same) (ap (λ (v : TracedView). v.stack) wanting.same))

  kept_by : (rules : Rules) (start : State) (old : TracedView) (tags : Claimed) (new : TracedView) (tags' : Claimed) (labels : List Label) → Goes old labels new → HaveNotedAll labels tags tags' → StaysKept rules start old tags new tags'
  kept_by rules start old tags new tags' labels goes noted taken kept = record {
    arrays = kept.arrays;
    starts = kept.starts;
    whole = kept.whole;
    journaled = goes.journaled (entries_in taken) kept.journaled;
    apart = goes.apart kept.apart;
    on_tags = λ tag number armed claimed.
        let was : IsClaimed tags tag number armed × All (Leaves armed.piece) labels = noted tag number armed claimed in
        let on : IsOnTag old.stack.adapter tag armed = kept.on_tags tag number armed was.0 in
        record { srb = on.srb; is_armed = goes.armed tag armed.piece on.srb was.1 on.is_armed; same = on.same };
  }

  module _ (rules : Rules) (start : State) (old new : TracedView) (tags tags' : Claimed) (from : ℕ) (from_is : from ≡ length old.entries)
      (noted : (before labels : List Label) → length before ≡ from → labels_of new.entries ≡ before ++ labels → HaveNotedAll labels tags tags') where
    pub noted_since : (labels : List Label) → labels_of new.entries ≡ labels_of old.entries ++ labels → HaveNotedAll labels tags tags'
    noted_since labels longer = noted (labels_of old.entries) labels (as_many old.entries ∙ sym from_is) longer
      where
        as_many : (es : List TraceEntry) → length (labels_of es) ≡ length es
        as_many [] = refl
        as_many (e ∷ es) = ap suc (as_many es)

    pub looks_keep : (slots : ℕ) → AreLooked slots old new → StaysKept rules start old tags new tags'
    looks_keep slots looked =
        let goes : Further old new = all_looked slots old new looked in
        kept_by rules start old tags new tags' goes.0 goes.1 (noted_since goes.0 goes.1.longer)

    pub serves_keep : (client : ℕ) (event : Event) (reply : Reply) → IsServed client old event reply new → IsNoAct event → StaysKept rules start old tags new tags'
    serves_keep client event reply served other =
        let goes : Further old new = served_goes client old event reply new other served in
        kept_by rules start old tags new tags' goes.0 goes.1 (noted_since goes.0 goes.1.longer)

-- a call is no act
pub call_is_no_act : (event : Event) → is_call_event event ≡ true → IsNoAct event
call_is_no_act (Act tag) is = absurd (differ is)
  where
    differ : false ≡ true → ⊥
    differ e = absurd (cc (e))
call_is_no_act _ is = tt

-- LABELS ARE NOTED ONE BY ONE

-- the labels from a place on, up to another, were noted
pub record HaveNotedFrom (entries : List TraceEntry) (from to : ℕ) (old new : Claimed) : Type 0 where
  pub noted : (tag number : ℕ) (armed : Armed) → IsClaimed new tag number armed
      → IsClaimed old tag number armed × ((k : ℕ) (e : TraceEntry) → from ≤ k → k < to → slice_get entries k ≡ Some e → Leaves armed.piece e.label)

pub none_noted : (entries : List TraceEntry) (from : ℕ) (tags : Claimed) → HaveNotedFrom entries from from tags tags
none_noted entries from tags = record { noted = λ tag number armed claimed. (claimed, λ k e low high there. absurd (omega (arith, low, high))) }

module _ (entries : List TraceEntry) (from to : ℕ) (old mid new : Claimed) (before : HaveNotedFrom entries from to old mid) (e : TraceEntry) (there : slice_get entries to ≡ Some e) (noted : HaveNoted e.label mid new) where
  some_same : {x y : TraceEntry} → Some x ≡ Some y → x ≡ y
  some_same {x} {y} e = cc

  pub one_noted : HaveNotedFrom entries from (suc to) old new
  one_noted = record {
    noted = λ tag number armed claimed.
        let now : IsClaimed mid tag number armed × Leaves armed.piece e.label = noted tag number armed claimed in
        let was = before.noted tag number armed now.0 in (
          was.0,
          λ k f low high at. elim (below_more k high) [
            | inl less ↦ was.1 k f low less at
            | inr is ↦ subst (λ (x : TraceEntry). Leaves armed.piece x.label) (some_same (sym there ∙ ap (λ (n : ℕ). slice_get entries n) (sym is) ∙ at)) now.1
          ],
        );
  }
    where
      below_more : (k : ℕ) → k < suc to → (k < to) ⊎ (k ≡ to)
      below_more k high = grind arith

module _ (P : Label → Type 0) where
  all_of : (es : List TraceEntry) → ((k : ℕ) (e : TraceEntry) → slice_get es k ≡ Some e → P e.label) → All P (labels_of es)
  all_of [] each = All-nil P
  all_of (e ∷ es) each = All-cons P e.label (labels_of es) (each 0 e refl) (all_of es (λ k f at. each (suc k) f at))

  behind : (es : List TraceEntry) (before labels : List Label) → labels_of es ≡ before ++ labels → ((k : ℕ) (e : TraceEntry) → length before ≤ k → slice_get es k ≡ Some e → P e.label) → All P labels
  behind es [] labels is each = subst (All P) is (all_of es (λ k e at. each k e (omega arith) at))
  behind [] (l ∷ before) labels is each = absurd (cc (is))
  behind (e ∷ es) (l ∷ before) labels is each = behind es before labels (ap (λ (ls : List Label). drop 1 ls) is) (λ k f low at. each (suc k) f (omega (arith, low)) at)

pub all_noted : (entries : List TraceEntry) (from to : ℕ) (old new : Claimed) → HaveNotedFrom entries from to old new → length entries ≤ to
    → (before labels : List Label) → length before ≡ from → labels_of entries ≡ before ++ labels → HaveNotedAll labels old new
all_noted entries from to old new have most before labels many is tag number armed claimed =
    let was = have.noted tag number armed claimed in
    (was.0, behind (Leaves armed.piece) entries before labels is (λ k e low at. was.1 k e (omega (arith, low, many)) (let inside = slice_get_within entries k e at in omega (arith, inside, most)) at))
