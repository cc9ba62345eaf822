-- The order of answers: starts may come before them, and they may stand by their numbers.
use Rattle.io_manager.proofs.Common.{◌≡◌, ◌≢◌, ◌<◌, inl, inr, ℕ, Bool, true, false, List, [], ◌∷◌, ◌++◌, refl, sym, subst, arith, map, nat_tests, map-append, IsPermutation-refl, IsPermutation-sym, IsPermutation-trans, IsPermutation-cons, IsPermutation-map, All-permutation, All-nil, All-head, All-tail, All-cons, All-weaker, NtStatus, DeviceLabel, Start, Act, Fault, Return, Label, Rules, State, AnswersRefused, Starts, sent, IsStart, AnswersWith, Run, as_label, IsSame-refl, IsSame-sym, AnswersWith-same, Run-same, Run-append, swapped, Start-first, Answers-swap, HasPlaces-with_marks, as_answer, answer_number, IsAbove, AreRising}
use Rattle.std.specs.Prelude.{IsPermutation, IsNone, All, nat_lt, if◌then◌else◌}
use Rattle.machine.specs.Numbers.{HasPlaces, HavePlaces}
use Rattle.io_manager.specs.declared.Answer.{Answer}
use Rattle.io_manager.specs.inside.Ordering.{inserted, HasOtherNumber}

module _ (rules : Rules) where
  start_keeps : (s : State) (piece tag : ℕ) (block : List ℕ) (s' : State) → HavePlaces s → Starts rules s piece tag block s' → HavePlaces s'
  start_keeps s piece tag block s' places h =
      let all : All HasPlaces (h.owner ∷ h.others) = All-permutation HasPlaces _ _ h.is_open places in
      All-permutation HasPlaces _ _ (IsPermutation-sym _ _ h.after.requests)
      (All-cons HasPlaces (sent h.places h.owner) h.others (HasPlaces-with_marks h.owner h.places.first _ (All-head HasPlaces h.owner h.others all)) (All-tail HasPlaces h.owner h.others all))

  answer_keeps : (s : State) (number : ℕ) (status : NtStatus) (informed : ℕ) (bytes : List ℕ) (s' : State) → HavePlaces s → AnswersWith rules s number status informed bytes s' → HavePlaces s'
  answer_keeps s number status informed bytes s' places h =
      All-permutation HasPlaces _ _ (IsPermutation-sym _ _ h.answers.after.requests) (All-tail HasPlaces h.answers.request h.answers.others (All-permutation HasPlaces _ _ h.answers.is_open places))

  pub not_owed : (s : State) (number : ℕ) (status : NtStatus) (informed : ℕ) (bytes : List ℕ) (s' : State) → IsNone s.owed → AnswersRefused s number status informed bytes s' → ⊥
  not_owed s number status informed bytes s' free h = cc (rw h.is_owed at free)

  -- starts owe nothing, and leave each request its places
  owes_none : (starts : List DeviceLabel) (s s' : State) → IsNone s.owed → All IsStart starts → Run rules s (map as_label starts) s' → IsNone s'.owed
  owes_none [] s s' free only run = rw (← run.owed) free
  owes_none (Start piece tag block ∷ starts) s s' free only (next, inl (free', start), run) = owes_none starts next s' (rw start.after.owed free) (All-tail IsStart _ starts only) run
  owes_none (Start piece tag block ∷ starts) s s' free only (next, inr none, run) = absurd none
  owes_none (Act piece bytes' ∷ starts) s s' free only run = absurd (All-head IsStart _ starts only)
  owes_none (Fault piece ∷ starts) s s' free only run = absurd (All-head IsStart _ starts only)
  owes_none (Return piece class ∷ starts) s s' free only run = absurd (All-head IsStart _ starts only)

  -- an answer, then starts
  one_later : (number : ℕ) (status : NtStatus) (informed : ℕ) (bytes : List ℕ) (starts : List DeviceLabel) (s mid s' : State) → IsNone s.owed → HavePlaces s
      → AnswersWith rules s number status informed bytes mid → All IsStart starts → Run rules mid (map as_label starts) s'
      → (mid' : State) × Run rules s (map as_label starts) mid' × AnswersWith rules mid' number status informed bytes s'
  one_later number status informed bytes [] s mid s' free places answer only run = (s, IsSame-refl s, AnswersWith-same rules number status informed bytes s s mid s' (IsSame-refl s) run answer)
  one_later number status informed bytes (Start piece tag block ∷ starts) s mid s' free places answer only (next, inl (free', start), run) =
      let turned : (mid' : State) × Starts rules s piece tag block mid' × AnswersWith rules mid' number status informed bytes next =
      Start-first rules s number status informed bytes mid piece tag block next places answer start in
      let rest : (mid' : State) × Run rules turned.0 (map as_label starts) mid' × AnswersWith rules mid' number status informed bytes s' =
      one_later number status informed bytes starts turned.0 next s' (rw turned.1.after.owed free) (start_keeps s piece tag block turned.0 places turned.1) turned.2 (All-tail IsStart _ starts only) run in
      (rest.0, (turned.0, inl (free, turned.1), rest.1), rest.2)
  one_later number status informed bytes (Start piece tag block ∷ starts) s mid s' free places answer only (next, inr none, run) = absurd none
  one_later number status informed bytes (Act piece bytes' ∷ starts) s mid s' free places answer only run = absurd (All-head IsStart _ starts only)
  one_later number status informed bytes (Fault piece ∷ starts) s mid s' free places answer only run = absurd (All-head IsStart _ starts only)
  one_later number status informed bytes (Return piece class ∷ starts) s mid s' free places answer only run = absurd (All-head IsStart _ starts only)

  -- answers, then starts: the starts may all come first
  pub starts_before : (answers : List Answer) (starts : List DeviceLabel) (s mid s' : State) → IsNone s.owed → HavePlaces s → All IsStart starts
      → Run rules s (map as_answer answers) mid → Run rules mid (map as_label starts) s'
      → (mid' : State) × Run rules s (map as_label starts) mid' × Run rules mid' (map as_answer answers) s'
  starts_before [] starts s mid s' free places only run later = (s', Run-same rules (map as_label starts) mid s s' s' (IsSame-sym s mid run) (IsSame-refl s') later, IsSame-refl s')
  starts_before (answer ∷ answers) starts s mid s' free places only (next, inl (free', first), run) later =
      let rest : (mid' : State) × Run rules next (map as_label starts) mid' × Run rules mid' (map as_answer answers) s' =
      starts_before answers starts next mid s' (rw first.answers.after.owed free) (answer_keeps s answer.number answer.status answer.information answer.bytes next places first) only run later in
      let one : (mid' : State) × Run rules s (map as_label starts) mid' × AnswersWith rules mid' answer.number answer.status answer.information answer.bytes rest.0 =
      one_later answer.number answer.status answer.information answer.bytes starts s next rest.0 free places first only rest.1 in
      (one.0, one.1, (rest.0, inl (owes_none starts s one.0 free only one.1, one.2), rest.2))
  starts_before (answer ∷ answers) starts s mid s' free places only (next, inr owed, run) later = absurd (not_owed s answer.number answer.status answer.information answer.bytes next free owed)

  -- ANSWERS BY THEIR NUMBERS

  -- an answer before those that it followed
  to_front : (answers : List Answer) (s mid : State) (answer : Answer) (s' : State) → IsNone s.owed → Run rules s (map as_answer answers) mid
      → AnswersWith rules mid answer.number answer.status answer.information answer.bytes s'
      → (mid' : State) × AnswersWith rules s answer.number answer.status answer.information answer.bytes mid' × Run rules mid' (map as_answer answers) s'
  to_front [] s mid answer s' free run last = (s', AnswersWith-same rules answer.number answer.status answer.information answer.bytes mid s s' s' (IsSame-sym s mid run) (IsSame-refl s') last, IsSame-refl s')
  to_front (first ∷ answers) s mid answer s' free (next, inl (free', step), run) last =
      let rest : (mid' : State) × AnswersWith rules next answer.number answer.status answer.information answer.bytes mid' × Run rules mid' (map as_answer answers) s' =
      to_front answers next mid answer s' (rw step.answers.after.owed free) run last in
      let turned : (mid' : State) × AnswersWith rules s answer.number answer.status answer.information answer.bytes mid' × AnswersWith rules mid' first.number first.status first.information first.bytes rest.0 =
      Answers-swap rules s first.number first.status first.information first.bytes next answer.number answer.status answer.information answer.bytes rest.0 step rest.1 in
      (turned.0, turned.1, (rest.0, inl (rw turned.1.answers.after.owed free, turned.2), rest.2))
  to_front (first ∷ answers) s mid answer s' free (next, inr owed, run) last = absurd (not_owed s first.number first.status first.information first.bytes next free owed)

module _ (rules : Rules) where
  -- an answer may come before those of higher numbers
  pub Run-inserted : (answers : List Answer) (s mid : State) (answer : Answer) (s' : State) → IsNone s.owed → Run rules s (map as_answer answers) mid
      → AnswersWith rules mid answer.number answer.status answer.information answer.bytes s' → Run rules s (map as_answer (inserted answer answers)) s'
  Run-inserted [] s mid answer s' free run last =
      (s', inl (free, AnswersWith-same rules answer.number answer.status answer.information answer.bytes mid s s' s' (IsSame-sym s mid run) (IsSame-refl s') last), IsSame-refl s')
  Run-inserted (first ∷ answers) s mid answer s' free (next, inl (free', step), run) last =
      by_test (nat_lt first.number answer.number) (Run-inserted answers next mid answer s' (rw step.answers.after.owed free) run last)
    where
      by_test : (b : Bool) → Run rules next (map as_answer (inserted answer answers)) s' → Run rules s (map as_answer (if b then first ∷ inserted answer answers else answer ∷ first ∷ answers)) s'
      by_test false later =
          let front : (mid' : State) × AnswersWith rules s answer.number answer.status answer.information answer.bytes mid' × Run rules mid' (map as_answer (first ∷ answers)) s' =
          to_front rules (first ∷ answers) s mid answer s' free (next, inl (free', step), run) last in
          (front.0, inl (free, front.1), front.2)
      by_test true later = (next, inl (free', step), later)
  Run-inserted (first ∷ answers) s mid answer s' free (next, inr owed, run) last = absurd (not_owed rules s first.number first.status first.information first.bytes next free owed)

  pub Run-split : (xs ys : List Label) (s s' : State) → Run rules s (xs ++ ys) s' → (mid : State) × Run rules s xs mid × Run rules mid ys s'
  Run-split [] ys s s' run = (s, IsSame-refl s, run)
  Run-split (x ∷ xs) ys s s' (next, step, run) =
      let rest : (mid : State) × Run rules next xs mid × Run rules mid ys s' = Run-split xs ys next s' run in
      (rest.0, (next, step, rest.1), rest.2)

  starts_keep : (starts : List DeviceLabel) (s s' : State) → HavePlaces s → All IsStart starts → Run rules s (map as_label starts) s' → HavePlaces s'
  starts_keep [] s s' places only run = All-permutation HasPlaces _ _ run.requests places
  starts_keep (Start piece tag block ∷ starts) s s' places only (next, inl (free', start), run) =
      starts_keep starts next s' (start_keeps rules s piece tag block next places start) (All-tail IsStart _ starts only) run
  starts_keep (Start piece tag block ∷ starts) s s' places only (next, inr none, run) = absurd none
  starts_keep (Act piece bytes' ∷ starts) s s' places only run = absurd (All-head IsStart _ starts only)
  starts_keep (Fault piece ∷ starts) s s' places only run = absurd (All-head IsStart _ starts only)
  starts_keep (Return piece class ∷ starts) s s' places only run = absurd (All-head IsStart _ starts only)

  -- starts and answers by their numbers, then one more answer and the starts after it: again starts and answers by their numbers
  pub Run-collected : (starts more : List DeviceLabel) (answers : List Answer) (answer : Answer) (s mid answered s' : State) → IsNone s.owed → HavePlaces s → All IsStart starts → All IsStart more
      → Run rules s (map as_label starts ++ map as_answer answers) mid → AnswersWith rules mid answer.number answer.status answer.information answer.bytes answered → Run rules answered (map as_label more) s'
      → Run rules s (map as_label (starts ++ more) ++ map as_answer (inserted answer answers)) s'
  Run-collected starts more answers answer s mid answered s' free places only only_more run last later =
      let a : (first : State) × Run rules s (map as_label starts) first × Run rules first (map as_answer answers) mid = Run-split (map as_label starts) (map as_answer answers) s mid run in
      let free' : IsNone a.0.owed = owes_none rules starts s a.0 free only a.1 in
      let b : Run rules a.0 (map as_answer (inserted answer answers)) answered = Run-inserted answers a.0 mid answer answered free' a.2 last in
      let c : (first : State) × Run rules a.0 (map as_label more) first × Run rules first (map as_answer (inserted answer answers)) s' =
      starts_before rules (inserted answer answers) more a.0 answered s' free' (starts_keep starts s a.0 places only a.1) only_more b later in
      let d : Run rules s (map as_label starts ++ map as_label more) c.0 = Run-append rules s (map as_label starts) a.0 (map as_label more) c.0 a.1 c.1 in
      let e : Run rules s (map as_label (starts ++ more)) c.0 = subst (λ labels. Run rules s labels c.0) (sym (map-append as_label starts more)) d in
      Run-append rules s (map as_label (starts ++ more)) c.0 (map as_answer (inserted answer answers)) s' e c.2

-- WHAT IS PUT IN BY ITS NUMBER

pub inserted_is : (answer : Answer) (answers : List Answer) → IsPermutation (inserted answer answers) (answer ∷ answers)
inserted_is answer [] = IsPermutation-refl _
inserted_is answer (first ∷ answers) = by_test (nat_lt first.number answer.number) (inserted_is answer answers)
  where
    by_test : (b : Bool) → IsPermutation (inserted answer answers) (answer ∷ answers) → IsPermutation (if b then first ∷ inserted answer answers else answer ∷ first ∷ answers) (answer ∷ first ∷ answers)
    by_test true later = IsPermutation-trans _ _ _ (IsPermutation-cons first _ _ later) (swapped first answer answers)
    by_test false later = IsPermutation-refl _

pub inserted_rises : (answer : Answer) (answers : List Answer) → All (HasOtherNumber answer.number) answers → AreRising (map answer_number answers) → AreRising (map answer_number (inserted answer answers))
inserted_rises answer [] others rising = (All-nil (IsAbove answer.number), tt)
inserted_rises answer (first ∷ answers) others rising =
    by_test (nat_lt first.number answer.number) refl (inserted_rises answer answers (All-tail (HasOtherNumber answer.number) first answers others) rising.1)
  where
    above_all : answer.number < first.number → All (IsAbove answer.number) (map answer_number answers)
    above_all low = All-weaker (IsAbove first.number) (IsAbove answer.number) (λ n high. higher n high) (map answer_number answers) rising.0
      where
        higher : (n : ℕ) → first.number < n → answer.number < n
        higher n high = omega arith

    by_test : (b : Bool) → nat_lt first.number answer.number ≡ b → AreRising (map answer_number (inserted answer answers))
        → AreRising (map answer_number (if b then first ∷ inserted answer answers else answer ∷ first ∷ answers))
    by_test true e later =
        let low : first.number < answer.number = grind (arith, nat_tests) in
        let all : All (IsAbove first.number) (map answer_number (answer ∷ answers)) = All-cons (IsAbove first.number) answer.number (map answer_number answers) low rising.0 in
        (All-permutation (IsAbove first.number) _ _ (IsPermutation-sym _ _ (IsPermutation-map answer_number _ _ (inserted_is answer answers))) all, later)
    by_test false e later =
        let apart : first.number ≢ answer.number = All-head (HasOtherNumber answer.number) first answers others in
        let high : answer.number < first.number = above first.number answer.number e apart in
        (All-cons (IsAbove answer.number) first.number (map answer_number answers) high (above_all high), rising)
      where
        above : (n m : ℕ) → nat_lt n m ≡ false → n ≢ m → m < n
        above n m e apart = grind (arith, nat_tests)
