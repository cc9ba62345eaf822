-- The answer to a request stands once, behind its call and in its row.
use Rattle.std.proofs.Common.{◌≡◌, ◌≢◌, ℕ, zero, suc, ◌<◌, List, [], ◌∷◌, ◌++◌, length, Option, Some, None, refl, sym, ap, ◌∙◌, subst, arith}
use Rattle.std.specs.Prelude.{All, Contains, IsNone, MatchOption, eqb, slice_get, slice_index_or}
use Rattle.std.specs.List.{IsDistinct}
use Rattle.host.proofs.Common.{All-nil, ClientRequest, Label, Rules, State, Run, AreDistinct, IsNoAnswerOf, IsNoCallOf, awaited, call_numbers, as_answer, TraceEntry, AnswerLaws, Stands, IsOpening}
use mathlib.Core.Logic.{dite}
use native.Mathlib.Decide.{ℕ_discrete}
use Rattle.machine.specs.declared.Label.TheVariants.{Call, Device, Answer as AnswerLabel, Cancel, Pause, Resume, Remove, Surprise, Removed}
use Rattle.io_manager.specs.declared.Answer.{Answer}
use Rattle.traced.specs.Entries.{AreRowed, IsAnswerAt, IsAnswerTo, IsNoAnswerTo, entry, labels_of, row_of}

-- LISTS

pub some_same : {A : Type 0} {x y : A} → Some x ≡ Some y → x ≡ y
some_same {A} {x} {y} e = cc

-- what a search of the whole trace finds
abbrev Finds : ℕ → List TraceEntry → Option ℕ → Type 0
Finds number es found = MatchOption found (All (IsNoAnswerTo number) (labels_of es)) (IsAnswerAt number es)

-- a list around the place k
record Around (es : List TraceEntry) (k : ℕ) (e : TraceEntry) : Type 0 where
  front : List TraceEntry
  back : List TraceEntry
  is : es ≡ front ++ e ∷ back
  long : length front ≡ k

around : (es : List TraceEntry) (k : ℕ) (e : TraceEntry) → slice_get es k ≡ Some e → Around es k e
around [] k e at = absurd (cc)
around (x ∷ es) zero e at = record { front = []; back = es; is = ap (λ y. y ∷ es) (some_same at); long = refl }
around (x ∷ es) (suc k) e at = let r = around es k e at in record { front = x ∷ r.front; back = r.back; is = ap (λ ys. x ∷ ys) r.is; long = (let l = r.long in omega arith) }

labels_around : (front back : List TraceEntry) (e : TraceEntry) → labels_of (front ++ e ∷ back) ≡ labels_of front ++ e.label ∷ labels_of back
labels_around [] back e = refl
labels_around (x ∷ front) back e = ap (λ ls. x.label ∷ ls) (labels_around front back e)

-- what stands behind the place
behind : (front back : List TraceEntry) (e f : TraceEntry) (k : ℕ) → slice_get (front ++ e ∷ back) k ≡ Some f → length front < k → (j : ℕ) × (slice_get back j ≡ Some f)
behind [] back e f zero at less = absurd (omega arith)
behind [] back e f (suc k) at less = (k, at)
behind (x ∷ front) back e f zero at less = absurd (omega arith)
behind (x ∷ front) back e f (suc k) at less = behind front back e f k at (omega arith)

-- and before it
before : (front back : List TraceEntry) (e f : TraceEntry) (k : ℕ) → slice_get front k ≡ Some f → slice_get (front ++ e ∷ back) k ≡ Some f
before [] back e f k at = absurd (cc)
before (x ∷ front) back e f zero at = at
before (x ∷ front) back e f (suc k) at = before front back e f k at

within : (es : List TraceEntry) (k : ℕ) (e : TraceEntry) → slice_get es k ≡ Some e → k < length es
within [] k e at = absurd (cc)
within (x ∷ es) zero e at = omega arith
within (x ∷ es) (suc k) e at = let r = within es k e at in omega arith

each_label : (P : Label → Type 0) (es : List TraceEntry) (k : ℕ) (e : TraceEntry) → All P (labels_of es) → slice_get es k ≡ Some e → P e.label
each_label P es k e all at = subst P (same es k at) (all k e.label (long es k at))
  where
    same : (es : List TraceEntry) (k : ℕ) → slice_get es k ≡ Some e → slice_index_or (labels_of es) k e.label ≡ e.label
    same [] k at = absurd (cc)
    same (x ∷ es) zero at = ap (λ y. y.label) (some_same at)
    same (x ∷ es) (suc k) at = same es k at

    long : (es : List TraceEntry) (k : ℕ) → slice_get es k ≡ Some e → k < length (labels_of es)
    long [] k at = absurd (cc)
    long (x ∷ es) zero at = omega arith
    long (x ∷ es) (suc k) at = let r = long es k at in omega arith

-- a label stands somewhere
stands : (es : List TraceEntry) (l : Label) (k : ℕ) → k < length (labels_of es) → slice_index_or (labels_of es) k l ≡ l → (e : TraceEntry) × (slice_get es k ≡ Some e) × (e.label ≡ l)
stands [] l k less at = absurd (omega arith)
stands (x ∷ es) l zero less at = (x, refl, at)
stands (x ∷ es) l (suc k) less at = stands es l k (omega arith) at

-- a call of a number stands somewhere
record Called (es : List TraceEntry) (r : ℕ) : Type 0 where
  place : ℕ
  e : TraceEntry
  q : ClientRequest
  there : slice_get es place ≡ Some e
  call : e.label ≡ Call r q

later : (x : TraceEntry) (es : List TraceEntry) (r : ℕ) → Called es r → Called (x ∷ es) r
later x es r c = record { place = suc c.place; e = c.e; q = c.q; there = c.there; call = c.call }

first_or : (x : TraceEntry) (es : List TraceEntry) (n r : ℕ) (q : ClientRequest) (ns : List ℕ) → x.label ≡ Call n q → (k : ℕ) → k < length (n ∷ ns) → slice_index_or (n ∷ ns) k r ≡ r → ((j : ℕ) → j < length ns → slice_index_or ns j r ≡ r → Called es r) → Called (x ∷ es) r
first_or x es n r q ns is zero less at rest = record { place = 0; e = x; q = q; there = refl; call = is ∙ ap (λ (m : ℕ). Call m q) at }
first_or x es n r q ns is (suc k) less at rest = later x es r (rest k (omega arith) at)

called_in : (es : List TraceEntry) (r k : ℕ) → k < length (call_numbers (labels_of es)) → slice_index_or (call_numbers (labels_of es)) k r ≡ r → Called es r
called_in [] r k less at = absurd (omega arith)
called_in (x ∷ es) r k less at = go (called_in es r) x.label refl k less at
  where
    go : ((j : ℕ) → j < length (call_numbers (labels_of es)) → slice_index_or (call_numbers (labels_of es)) j r ≡ r → Called es r) → (l : Label) → x.label ≡ l → (j : ℕ) → j < length (call_numbers (l ∷ labels_of es)) → slice_index_or (call_numbers (l ∷ labels_of es)) j r ≡ r → Called (x ∷ es) r
    go rest (Call n q) is j less at = first_or x es n r q (call_numbers (labels_of es)) is j less at rest
    go rest _ is j less at = later x es r (rest j less at)

pub rowed_at : (owners : List ℕ) (es : List TraceEntry) (k : ℕ) (e : TraceEntry) → AreRowed owners es → slice_get es k ≡ Some e → e.row ≡ row_of owners e.label
rowed_at owners [] k e all at = absurd (cc)
rowed_at owners (x ∷ es) zero e all at = subst (λ y. y.row ≡ row_of owners y.label) (some_same at) all.0.1
rowed_at owners (x ∷ es) (suc k) e all at = rowed_at owners es k e all.1 at

by_order : (x y : ℕ) → x ≢ y → (y < x → ⊥) → (x < y → ⊥) → ⊥
by_order zero zero ne above below = ne refl
by_order zero (suc y) ne above below = below (omega arith)
by_order (suc x) zero ne above below = above (omega arith)
by_order (suc x) (suc y) ne above below = by_order x y (λ e. ne (ap suc e)) (λ l. above (omega arith)) (λ l. below (omega arith))

no_answer_of : (r : ℕ) (l : Label) → IsNoAnswerOf r l → IsAnswerTo r l → ⊥
no_answer_of r (AnswerLabel n s i b) none is = none is
no_answer_of r _ none is = is

answer_named : (r : ℕ) (l : Label) → IsAnswerTo r l → (answer : Answer) × (l ≡ as_answer answer) × (answer.number ≡ r)
answer_named r (AnswerLabel n s i b) is = (record { number = n; status = s; information = i; bytes = b }, refl, is)
answer_named r _ is = absurd is

-- OF A RUN

distinct_none : IsDistinct eqb []
unfolding IsDistinct
distinct_none = tt

none_owed : (s : State) → IsOpening s → IsNone s.owed
none_owed s opens = subst (λ (t : State). IsNone t.owed) (sym opens) refl

pub distinct_at_first : (s : State) → IsOpening s → AreDistinct s
distinct_at_first s opens = subst AreDistinct (sym opens) (record {
  requests = distinct_none;
  given = All-nil _;
  pieces = distinct_none;
  sent = All-nil _;
})

none_awaited : (s : State) → IsOpening s → awaited s ≡ []
none_awaited s opens = ap awaited opens

module _ (laws : AnswerLaws) (rules : Rules) (first last : State) (opens : IsOpening first) (owners : List ℕ) (es : List TraceEntry) (rowed : AreRowed owners es) (run : Run rules first (labels_of es) last) where
  run_around : (k : ℕ) (e : TraceEntry) (a : Around es k e) → Run rules first (labels_of a.front ++ e.label ∷ labels_of a.back) last
  run_around k e a = subst (λ ls. Run rules first ls last) (ap labels_of a.is ∙ labels_around a.front a.back e) run

  -- no call of the same number stands behind a call
  no_later_call : (j k r : ℕ) (e f : TraceEntry) (q p : ClientRequest) → slice_get es j ≡ Some e → e.label ≡ Call r q → slice_get es k ≡ Some f → f.label ≡ Call r p → j < k → ⊥
  no_later_call j k r e f q p at is there same less =
      let a = around es j e at in
      let b = behind a.front a.back e f k (ap (λ xs. slice_get xs k) (sym a.is) ∙ there) (let l = a.long in omega arith) in
      let once = laws.calls rules first (labels_of a.front) r q (labels_of a.back) last (subst (λ l. Run rules first (labels_of a.front ++ l ∷ labels_of a.back) last) is (run_around j e a)) in
      subst (IsNoCallOf r) same (each_label (IsNoCallOf r) a.back b.0 f once b.1) refl

  -- nor an answer behind an answer
  no_later_answer : (j k r : ℕ) (e f : TraceEntry) (answer : Answer) → slice_get es j ≡ Some e → e.label ≡ as_answer answer → answer.number ≡ r → slice_get es k ≡ Some f → IsAnswerTo r f.label → j < k → ⊥
  no_later_answer j k r e f answer at is number there answers less =
      let a = around es j e at in
      let b = behind a.front a.back e f k (ap (λ xs. slice_get xs k) (sym a.is) ∙ there) (let l = a.long in omega arith) in
      let once = laws.answers rules first (distinct_at_first first opens) (none_owed first opens) (labels_of a.front) answer.number answer.status answer.information answer.bytes (labels_of a.back) last
      (subst (λ l. Run rules first (labels_of a.front ++ l ∷ labels_of a.back) last) is (run_around j e a)) in
      no_answer_of r f.label (subst (λ n. IsNoAnswerOf n f.label) number (each_label (IsNoAnswerOf answer.number) a.back b.0 f once b.1)) answers

  -- nor an answer behind any answer of the same number
  no_answer_behind : (j k r : ℕ) (e f : TraceEntry) → slice_get es j ≡ Some e → IsAnswerTo r e.label → slice_get es k ≡ Some f → IsAnswerTo r f.label → j < k → ⊥
  no_answer_behind j k r e f at is there answers less =
      let n = answer_named r e.label is in
      no_later_answer j k r e f n.0 at n.1 n.2 there answers less

  -- a call stands before its answer
  call_before : (call k : ℕ) (e f : TraceEntry) (q : ClientRequest) (answer : Answer) → slice_get es call ≡ Some e → e.label ≡ Call answer.number q → slice_get es k ≡ Some f → f.label ≡ as_answer answer → call < k
  call_before call k e f q answer at is there same =
      let a = around es k f there in
      let was = laws.called rules first (labels_of a.front) answer.number answer.status answer.information answer.bytes (labels_of a.back) last (none_awaited first opens)
      (subst (λ l. Run rules first (labels_of a.front ++ l ∷ labels_of a.back) last) same (run_around k f a)) in
      let c = called_in a.front answer.number was.0 was.1 was.2 in
      let there' : slice_get es c.place ≡ Some c.e = ap (λ xs. slice_get xs c.place) a.is ∙ before a.front a.back f c.e c.place c.there in
      let short : c.place < k = (let w = within a.front c.place c.e c.there in let l = a.long in omega arith) in
      dite (ℕ_discrete call c.place)
      (λ (eq : call ≡ c.place). omega (arith, eq, short))
      (λ (ne : call ≢ c.place). absurd (by_order call c.place ne
      (λ less. no_later_call c.place call answer.number c.e e c.q q there' c.call at is less)
      (λ less. no_later_call call c.place answer.number e c.e q c.q at is there' c.call less)))

  -- the one answer
  one_answer : (j k r : ℕ) (e f : TraceEntry) → slice_get es j ≡ Some e → IsAnswerTo r e.label → slice_get es k ≡ Some f → IsAnswerTo r f.label → j ≡ k
  one_answer j k r e f at is there answers =
      dite (ℕ_discrete j k)
      (λ (eq : j ≡ k). eq)
      (λ (ne : j ≢ k). absurd (by_order j k ne (λ less. no_answer_behind k j r f e there answers at is less) (λ less. no_answer_behind j k r e f at is there answers less)))

  -- it is found behind its call, in the row of the call's client
  answer_found : (call client : ℕ) (q : ClientRequest) (answer : Answer) → Stands es call (Call answer.number q) client → Contains (labels_of es) (as_answer answer)
      → (found : Option ℕ) → Finds answer.number es found → (p : ℕ) × (found ≡ Some p) × (call < p) × Stands es p (as_answer answer) client
  answer_found call client q answer stood told found finds =
      let at = stands es (as_answer answer) told.0 told.1 told.2 in
      let is : IsAnswerTo answer.number at.0.label = subst (IsAnswerTo answer.number) (sym at.2) refl in
      let less = call_before call told.0 (entry (Call answer.number q) (Some client)) at.0 q answer stood refl at.1 at.2 in
      let row : at.0.row ≡ Some client = rowed_at owners es told.0 at.0 rowed at.1 ∙ ap (row_of owners) at.2 ∙ sym (rowed_at owners es call (entry (Call answer.number q) (Some client)) rowed stood) in
      let there : Stands es told.0 (as_answer answer) client = at.1 ∙ ap Some (λ i. record { label = at.2 i; row = row i }) in
      go found finds told.0 at.0 at.1 is less there
    where
      go : (found : Option ℕ) → Finds answer.number es found → (k : ℕ) (e : TraceEntry) → slice_get es k ≡ Some e → IsAnswerTo answer.number e.label → call < k → Stands es k (as_answer answer) client
          → (p : ℕ) × (found ≡ Some p) × (call < p) × Stands es p (as_answer answer) client
      go None finds k e at is less there = absurd (each_label (IsNoAnswerTo answer.number) es k e finds at is)
      go (Some p) finds k e at is less there =
          let same : k ≡ p = one_answer k p answer.number e finds.entry at is finds.there finds.answers in
          (p, refl, subst (λ n. call < n) same less, subst (λ n. Stands es n (as_answer answer) client) same there)

-- the answer that was taken, and what a search found
module _ (laws : AnswerLaws) (rules : Rules) (first last : State) (opens : IsOpening first) (owners : List ℕ) (es found_in : List TraceEntry) (rowed : AreRowed owners es) (run : Run rules first (labels_of es) last)
    (number call client : ℕ) (q : ClientRequest) (answer : Answer) (is : answer.number ≡ number) (stood : Stands es call (Call number q) client) (told : Contains (labels_of es) (as_answer answer)) (same : found_in ≡ es) where
  found_told : (found : Option ℕ) → Finds number found_in found → (p : ℕ) × (found ≡ Some p) × (call < p) × Stands es p (as_answer answer) client
  found_told found finds =
      answer_found laws rules first last opens owners es rowed run call client q answer (subst (λ n. Stands es call (Call n q) client) (sym is) stood) told found
      (subst (λ n. Finds n es found) (sym is) (subst (λ (xs : List TraceEntry). Finds number xs found) same finds))

  pub is_found : (found : Option ℕ) → Finds number found_in found → found ≡ None → ⊥
  is_found found finds none = let f = found_told found finds in no_some f.0 (sym f.1 ∙ none)
    where
      no_some : (p : ℕ) → Some p ≡ None → ⊥
      no_some p e = absurd (cc)

  pub found_at : (found : Option ℕ) (place : ℕ) → Finds number found_in found → found ≡ Some place → (call < place) × Stands es place (as_answer answer) client
  found_at found place finds at =
      let f = found_told found finds in
      let same' : f.0 ≡ place = some_same (sym f.1 ∙ at) in
      (subst (λ n. call < n) same' f.2, subst (λ n. Stands es n (as_answer answer) client) same' f.3)
