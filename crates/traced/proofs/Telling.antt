-- Which labels of a step may be noted, by the laws on the numbers of a run.
use Rattle.traced.proofs.Common.{◌≡◌, ℕ, ◌+◌, ◌-◌, ◌<◌, ◌&&◌, if◌then◌else◌, false, List, [], ◌∷◌, ◌++◌, length, Option, Some, None, refl, sym, ap, ◌∙◌, subst, arith, length-append, append_assoc, All, IsPermutation, append-nil, sum_by-cons, sum_by_push, sum_by-IsPermutation, sum_by_popped, All-permutation, IsPermutation-refl, All-append, All-head, All-tail, All-cons, All-nil, Label, Rules, State, IsSame, Step, Run, CallsRise, CallsCount, CallsAwait, awaited, call_numbers, answer_numbers, TraceEntry, LogView, owners_after, ready_after, noted, noted_all, MayNote, one_of, awaited_of, AreTold, AreNoCalls, MayCall, MayNoteAll}
use Rattle.machine.specs.declared.Label.TheVariants.{Call, Device, Answer, Cancel, Pause, Resume, Remove, Surprise, Removed}
use Rattle.traced.specs.Entries.{entry, owner_of, WasCalled, row_of, is_row, is_call, is_answer, calls, labels_of, count_of, is_call_of, is_answer_of}
use Rattle.traced.proofs.Noting.{owner_front, count_snoc, same_row}

-- the laws that serve here
pub record Laws : Type 0 where
  pub rise : CallsRise
  pub count : CallsCount
  pub await : CallsAwait

same_refl : (s : State) → IsSame s s
same_refl s = record {
  arrays = refl;
  next_request = refl;
  next_piece = refl;
  requests = IsPermutation-refl s.requests;
  pieces = IsPermutation-refl s.pieces;
  owed = refl;
  paused = refl;
  removing = refl;
  removed = refl;
}

called_more : (owners : List ℕ) (c : ℕ) (ns : List ℕ) → All (WasCalled owners) ns → All (WasCalled (owners ++ c ∷ [])) ns
called_more owners c [] all = All-nil _
called_more owners c (n ∷ ns) all =
    let h = All-head (WasCalled owners) n ns all in
    All-cons (WasCalled (owners ++ c ∷ [])) n ns (h.0, (let b = h.1 in omega (arith, length-append owners (c ∷ [])))) (called_more owners c ns (All-tail (WasCalled owners) n ns all))

awaited_stays : (owners : List ℕ) (d c : ℕ) (ns : List ℕ) → All (WasCalled owners) ns → awaited_of (owners ++ d ∷ []) c ns ≡ awaited_of owners c ns
awaited_stays owners d c [] all = refl
awaited_stays owners d c (n ∷ ns) all =
    sum_by-cons (one_of (owners ++ d ∷ []) c) n ns
    ∙ ap (λ o. (if is_row c o then 1 else 0) + awaited_of (owners ++ d ∷ []) c ns) (owner_front owners (d ∷ []) n (All-head (WasCalled owners) n ns all))
    ∙ ap (λ k. one_of owners c n + k) (awaited_stays owners d c ns (All-tail (WasCalled owners) n ns all))
    ∙ sym (sum_by-cons (one_of owners c) n ns)

-- how much an entry adds to a count of calls and of answers in a row
calls_more : (c : ℕ) (es : List TraceEntry) (e : TraceEntry) (k : ℕ) → (if is_call_of c e then 1 else 0) ≡ k → count_of (is_call_of c) (es ++ e ∷ []) ≡ count_of (is_call_of c) es + k
calls_more c es e k is = count_snoc (is_call_of c) es e ∙ ap (λ n. count_of (is_call_of c) es + n) is

answers_more : (c : ℕ) (es : List TraceEntry) (e : TraceEntry) (k : ℕ) → (if is_answer_of c e then 1 else 0) ≡ k → count_of (is_answer_of c) (es ++ e ∷ []) ≡ count_of (is_answer_of c) es + k
answers_more c es e k is = count_snoc (is_answer_of c) es e ∙ ap (λ n. count_of (is_answer_of c) es + n) is

any_more : (es : List TraceEntry) (e : TraceEntry) (k : ℕ) → (if is_call e.label then 1 else 0) ≡ k → calls (es ++ e ∷ []) ≡ calls es + k
any_more es e k is = count_snoc (λ f. is_call f.label) es e ∙ ap (λ n. calls es + n) is

module _ (laws : Laws) (rules : Rules) (s s' : State) where
  alone : (label : Label) → Step rules s label s' → Run rules s (label ∷ []) s'
  alone label step = (s', step, same_refl s')

  waiting : (label : Label) → Step rules s label s' → IsPermutation (awaited s ++ call_numbers (label ∷ [])) (answer_numbers (label ∷ []) ++ awaited s')
  waiting label step = laws.await rules s (label ∷ []) s' (alone label step)

  next_is : (label : Label) → Step rules s label s' → s'.next_request ≡ s.next_request + length (call_numbers (label ∷ []))
  next_is label step = laws.count rules s (label ∷ []) s' (alone label step)

  -- a label of no request, at plain facts on it
  plain : (es : List TraceEntry) (owners : List ℕ) (label : Label) → AreTold es owners s → IsPermutation (awaited s ++ []) (awaited s') → s'.next_request ≡ s.next_request + 0
      → is_call label ≡ false → is_answer label ≡ false → AreTold (es ++ entry label (row_of owners label) ∷ []) owners s'
  plain es owners label told same next no_call no_answer =
      let perm : IsPermutation (awaited s) (awaited s') = subst (λ xs. IsPermutation xs (awaited s')) (append-nil (awaited s)) same in
      record {
        next = next ∙ (let t = told.next in omega arith);
        counted = any_more es (entry label (row_of owners label)) 0 (ap (λ b. if b then 1 else 0) no_call) ∙ (let t = told.counted in omega arith);
        called = All-permutation (WasCalled owners) (awaited s) (awaited s') perm told.called;
        balanced = λ c.
            let e : TraceEntry = entry label (row_of owners label) in
            let calls = calls_more c es e 0 (ap (λ b. if (b && is_row c e.row) then 1 else 0) no_call) in
            let answers = answers_more c es e 0 (ap (λ b. if (b && is_row c e.row) then 1 else 0) no_answer) in
            let sums : awaited_of owners c (awaited s') ≡ awaited_of owners c (awaited s) = sum_by-IsPermutation (one_of owners c) (awaited s) (awaited s') perm in
            let b = told.balanced c in omega arith;
      }

  module _ (clients client : ℕ) (p : LogView) (told : AreTold p.entries p.owners s) where
    Noted : Label → Type 0
    Noted label = MayNote clients client p label × AreTold (noted client p label).entries (noted client p label).owners s'

    called_now : (n : ℕ) (q : _) → Step rules s (Call n q) s' → client < clients → p.ready ≡ Some client → Noted (Call n q)
    unfolding Noted
    called_now n q step less ready =
        let number : n ≡ length p.owners + 1 = (laws.rise rules s (Call n q ∷ []) s' (alone (Call n q) step)).0 ∙ told.next in
        let owners : List ℕ = p.owners ++ client ∷ [] in
        let all : All (WasCalled owners) (awaited s) = called_more p.owners client (awaited s) told.called in
        let this : WasCalled owners n = (omega arith, omega (arith, length-append p.owners (client ∷ []))) in
        let perm : IsPermutation (awaited s ++ n ∷ []) (awaited s') = waiting (Call n q) step in (
          (number, less, ready),
          record {
            next = next_is (Call n q) step ∙ (let t = told.next in omega (arith, length-append p.owners (client ∷ [])));
            counted = any_more p.entries (entry (Call n q) (owner_of owners n)) 1 refl ∙ (let t = told.counted in omega (arith, length-append p.owners (client ∷ [])));
            called = All-permutation (WasCalled owners) (awaited s ++ n ∷ []) (awaited s') perm
                (All-append (WasCalled owners) (awaited s) (n ∷ []) all (All-cons (WasCalled owners) n [] this (All-nil _)));
            balanced = λ c.
                let e : TraceEntry = entry (Call n q) (owner_of owners n) in
                let calls = calls_more c p.entries e (one_of owners c n) refl in
                let answers = answers_more c p.entries e 0 refl in
                let sums : awaited_of owners c (awaited s') ≡ awaited_of p.owners c (awaited s) + one_of owners c n =
                sum_by-IsPermutation (one_of owners c) (awaited s ++ n ∷ []) (awaited s') perm ∙ sum_by_push (one_of owners c) (awaited s) n
                ∙ ap (λ k. k + one_of owners c n) (awaited_stays p.owners client c (awaited s) told.called) in
                let b = told.balanced c in omega arith;
          },
        )

    answered_now : (n : ℕ) (st : _) (i : ℕ) (b : List ℕ) → Step rules s (Answer n st i b) s' → Noted (Answer n st i b)
    unfolding Noted
    answered_now n st i b step =
        let perm : IsPermutation (awaited s) (n ∷ awaited s') = subst (λ xs. IsPermutation xs (n ∷ awaited s')) (append-nil (awaited s)) (waiting (Answer n st i b) step) in
        let all : All (WasCalled p.owners) (n ∷ awaited s') = All-permutation (WasCalled p.owners) (awaited s) (n ∷ awaited s') perm told.called in
        let sums : (c : ℕ) → awaited_of p.owners c (awaited s') + one_of p.owners c n ≡ awaited_of p.owners c (awaited s) = λ c. sum_by_popped (one_of p.owners c) n (awaited s) (awaited s') perm in (
          (
            All-head (WasCalled p.owners) n (awaited s') all,
            λ c is.
                let one : one_of p.owners c n ≡ 1 = ap (λ o. if is_row c o then 1 else 0) is ∙ ap (λ t. if t then 1 else 0) (same_row c c refl) in
                let t = sums c in let w = told.balanced c in omega arith,
          ),
          record {
            next = next_is (Answer n st i b) step ∙ (let t = told.next in omega arith);
            counted = any_more p.entries (entry (Answer n st i b) (owner_of p.owners n)) 0 refl ∙ (let t = told.counted in omega arith);
            called = All-tail (WasCalled p.owners) n (awaited s') all;
            balanced = λ c.
                let e : TraceEntry = entry (Answer n st i b) (owner_of p.owners n) in
                let calls = calls_more c p.entries e 0 refl in
                let answers = answers_more c p.entries e (one_of p.owners c n) refl in
                let t = sums c in let w = told.balanced c in omega arith;
          },
        )

    pub told_next : (label : Label) → Step rules s label s' → MayCall clients client p.ready (label ∷ []) → MayNote clients client p label × AreTold (noted client p label).entries (noted client p label).owners s'
    unfolding Noted
    told_next (Call n q) step may = called_now n q step may.0 may.1
    told_next (Answer n st i b) step may = answered_now n st i b step
    told_next other step may = (tt, plain p.entries p.owners other told (waiting other step) (next_is other step) refl refl)

-- A RUN

pub no_calls_may : (clients client : ℕ) (ready : Option ℕ) (labels : List Label) → AreNoCalls labels → MayCall clients client ready labels
no_calls_may clients client ready [] none = tt
no_calls_may clients client ready (Call n q ∷ ls) none = absurd none
no_calls_may clients client ready (_ ∷ ls) none = no_calls_may clients client ready ls none

may_first : (clients client : ℕ) (ready : Option ℕ) (label : Label) (ls : List Label) → MayCall clients client ready (label ∷ ls) → MayCall clients client ready (label ∷ []) × MayCall clients client (ready_after ready label) ls
may_first clients client ready (Call n q) ls may = ((may.0, may.1, tt), no_calls_may clients client None ls may.2)
may_first clients client ready _ ls may = (tt, may)

same_told : Laws → (rules : Rules) (s s' : State) (es : List TraceEntry) (owners : List ℕ) → IsSame s s' → AreTold es owners s → AreTold es owners s'
same_told laws rules s s' es owners same told =
    let next : s'.next_request ≡ s.next_request + 0 = laws.count rules s [] s' same in
    let perm : IsPermutation (awaited s) (awaited s') = subst (λ xs. IsPermutation xs (awaited s')) (append-nil (awaited s)) (laws.await rules s [] s' same) in
    record {
      next = next ∙ (let t = told.next in omega arith);
      counted = told.counted;
      called = All-permutation (WasCalled owners) (awaited s) (awaited s') perm told.called;
      balanced = λ c. ap (λ k. count_of (is_answer_of c) es + k) (sum_by-IsPermutation (one_of owners c) (awaited s) (awaited s') perm) ∙ told.balanced c;
    }

pub told_all : Laws → (rules : Rules) (s s' : State) (clients client : ℕ) (p : LogView) (labels : List Label) → Run rules s labels s' → AreTold p.entries p.owners s → MayCall clients client p.ready labels
    → MayNoteAll clients client p labels × AreTold (noted_all client p labels).entries (noted_all client p labels).owners s'
told_all laws rules s s' clients client p [] run told may = (tt, same_told laws rules s s' p.entries p.owners run told)
told_all laws rules s s' clients client p (label ∷ labels) run told may =
    let first = may_first clients client p.ready label labels may in
    let here = told_next laws rules s run.0 clients client p told label run.1 first.0 in
    let more = told_all laws rules run.0 s' clients client (noted client p label) labels run.2 here.1 first.1 in
    ((here.0, more.0), more.1)

-- at the start nothing waits
pub told_first : (s : State) → s.next_request ≡ 1 → awaited s ≡ [] → AreTold [] [] s
told_first s next none = record {
  next = next ∙ (let z : 1 ≡ 0 + 1 = omega arith in z);
  counted = refl;
  called = subst (All (WasCalled [])) (sym none) (All-nil _);
  balanced = λ c. ap (λ ns. 0 + awaited_of [] c ns) none;
}

-- WHAT WAS NOTED

pub room_noted : (client : ℕ) (p : LogView) (labels : List Label) → (noted_all client p labels).room ≡ p.room - length labels
room_noted client p [] = omega arith
room_noted client p (label ∷ labels) = room_noted client (noted client p label) labels ∙ omega arith

labels_snoc : (es : List TraceEntry) (label : Label) (row : Option ℕ) → labels_of (es ++ entry label row ∷ []) ≡ labels_of es ++ label ∷ []
labels_snoc [] label row = refl
labels_snoc (e ∷ es) label row = ap (λ ls. e.label ∷ ls) (labels_snoc es label row)

pub labels_noted : (client : ℕ) (p : LogView) (labels : List Label) → labels_of (noted_all client p labels).entries ≡ labels_of p.entries ++ labels
labels_noted client p [] = sym (append-nil _)
labels_noted client p (label ∷ labels) =
    labels_noted client (noted client p label) labels ∙ ap (λ ls. ls ++ labels) (labels_snoc p.entries label (row_of (owners_after client p.owners label) label))
    ∙ append_assoc (labels_of p.entries) (label ∷ []) labels

pub calls_noted : (client : ℕ) (p : LogView) (labels : List Label) → calls (noted_all client p labels).entries ≡ calls p.entries + length (call_numbers labels)
calls_noted client p [] = omega arith
calls_noted client p (label ∷ labels) = calls_noted client (noted client p label) labels ∙ one label
  where
    one : (l : Label) → calls (noted client p l).entries + length (call_numbers labels) ≡ calls p.entries + length (call_numbers (l ∷ labels))
    one (Call n q) = ap (λ k. k + length (call_numbers labels)) (count_snoc (λ e. is_call e.label) p.entries _) ∙ omega arith
    one _ = ap (λ k. k + length (call_numbers labels)) (count_snoc (λ e. is_call e.label) p.entries _) ∙ omega arith
