-- Turns, calls and ends of forms that stand.
use Rattle.std.proofs.Common.{◌≡◌, ◌≤◌, ◌⊎◌, inl, inr, ℕ, true, false, List, [], ◌∷◌, ◌++◌, refl, sym, ◌∙◌, ap, subst}
use Rattle.std.specs.Prelude.{All, Contains}
use Rattle.std.proofs.lemmas.Bool.{cases_eq, cases_Bool}
use Rattle.std.proofs.lemmas.List.Elements.{All-cons}
use Rattle.register.specs.declared.Sight.{Sight}
use Rattle.register.specs.declared.Sight.TheVariants.{Write, Read, Done, Failed}
use Rattle.register.specs.Schedules.{Event, Seen, Effect, seen_of, value_after, IsNoEnd, IsNoEffect, IsWritten, May, IsSchedule}
use Rattle.register_judge.specs.declared.states.Waiting.{Waiting}
use Rattle.register_judge.specs.declared.states.Turn.{Turn}
use Rattle.register_judge.specs.declared.states.How.{How}
use Rattle.register_judge.specs.inside.States.{Form, is_met, meets, ages, lefts, turned, leave}
use Rattle.register_judge.proofs.Listing.{Has}
use Rattle.register_judge.proofs.Turning.{Stays, stays, stays_there, ages_number, turn_from, Fits}
use Rattle.register_judge.proofs.Events.{IsAtMost, HasEffect, call_of, further, newest, more_effect, written_more}
use Rattle.register_judge.proofs.Matching.{IsEndOf, quiet}
use Rattle.register_judge.proofs.Calling.{call_low}
use Rattle.register_judge.proofs.Inserting.{contains_insert, inserted, all_insert, all_late, seen_insert, value_insert, schedule_insert}
use Rattle.register_judge.proofs.Reaching.{IsFresh, Split, Stands, AddsNow, AddsBefore, add_now, add_before, may_written}

-- an operation of a number, or none
number_or_none : (os : List Waiting) (k : ℕ) → ((o : Waiting) × Has os o × (o.number ≡ k)) ⊎ ((o : Waiting) → Has os o → o.number ≡ k → ⊥)
number_or_none [] k = inr (λ o h e. h)
number_or_none (x ∷ os) k = elim (cases_eq x.number k) [
  | inl same ↦ inl (x, inl refl, same)
  | inr other ↦ elim (number_or_none os k) [
    | inl found ↦ inl (found.0, inr found.1, found.2)
    | inr none ↦ inr (λ o h e. elim h [ inl is ↦ other (ap (λ y. y.number) is ∙ e) | inr there ↦ none o there e ])
  ]
]

pub fewer : (start last : ℕ) (numbers numbers' : List ℕ) (past : List Event) (f : Form) → ((k : ℕ) → Has numbers' k → Has numbers k) → Stands start last numbers past f → Stands start last numbers' past f
fewer start last numbers numbers' past f less s =
    record { in_turn = s.in_turn; value = s.value; fresh = s.fresh; apart = s.apart; acted = λ k h none. s.acted k (less k h) none; room = s.room; below = s.below }

module _ (start last : ℕ) (numbers : List ℕ) (past : List Event) (f : Form) (s : Stands start last numbers past f) where
  low_of : (o : Waiting) → Has f.waits o → o.number ≤ last
  low_of o h = call_low last past s.below o.writes o.number o.value (s.fresh o h).called

  -- LEAVE
  pub stands_leave : (n : ℕ) (numbers' : List ℕ) → ((k : ℕ) → Has numbers' k → Has numbers k × (k ≡ n → ⊥)) → Stands start last numbers' past (turned (leave n) f)
  stands_leave n numbers' less = record {
    in_turn = s.in_turn;
    value = s.value;
    fresh = λ o h. s.fresh o (stood o h);
    apart = λ a b has_a has_b e. s.apart a b (stood a has_a) (stood b has_b) e;
    acted = λ k h none. s.acted k (less k h).0 (λ o has e. none o (stays_there (leave n) f.waits o has (λ e'. (less k h).1 (sym e ∙ e')) refl) e);
    room = elim s.room [
      | inl none ↦ inl (λ o h old. none o (stood o h) old)
      | inr split ↦ inr (record { late = split.late; early = split.early; number = split.number; value = split.value; is = split.is; written = split.written; olds = λ o h old. split.olds o (stood o h) old })
    ];
    below = s.below;
  }
    where
      stood : (o' : Waiting) → Has (lefts (leave n) [] f.waits) o' → Has f.waits o'
      stood o' h = let x : Stays (leave n) f.waits o' = stays (leave n) f.waits o' h in subst (Has f.waits) x.is x.has

  module _ (w : Waiting) (has_w : Has f.waits w) (writes_w : w.writes ≡ true) (v : ℕ) (fits : Fits w v) where
    abbrev event : Event
    event = Effect w.number v

    -- ACT, where these reads are met
    module _ (how : How) (told : ℕ) (mets : List Waiting) (aging : (o : Waiting) → ages how o ≡ record o { is_old = true }) (within : (o : Waiting) → Has mets o → Has f.waits o)
        (met : (o : Waiting) → Has f.waits o → meets how told o ≡ true → Has mets o × (is_met v o ≡ true)) (unmet : (o : Waiting) → Has mets o → is_met v o ≡ true → meets how told o ≡ true) where
      abbrev turn : Turn
      turn = turn_from how w.number told

      pub adds_act : AddsNow start v mets (event ∷ past)
      adds_act = add_now start v (event ∷ past) refl mets
          (λ o h. let k = s.fresh o (within o h) in (further event past (Seen (call_of o.writes o.number o.value)) k.called, All-cons (IsNoEnd o.number) event past tt k.awaits))

      abbrev pub acted_past : List Event
      acted_past = adds_act.more ++ event ∷ past

      aged_is : (o : Waiting) (x : Stays turn f.waits o) → record (x.before) { is_old = true } ≡ o
      aged_is o x = sym (aging x.before) ∙ x.is

      pub stands_act : Stands start last numbers acted_past (record { any = false; value = v; waits = lefts turn [] f.waits })
      stands_act = record {
        in_turn = adds_act.adds.in_turn (record { called = inl (may_written w past v writes_w fits (s.fresh w has_w).called); awaits = (s.fresh w has_w).awaits; once = (s.fresh w has_w).none }, s.in_turn);
        value = adds_act.value_is;
        fresh = λ o h. let x : Stays turn f.waits o = stays turn f.waits o h in subst (IsFresh acted_past) (aged_is o x) (aged_fresh x.before x.has x.other x.unmet);
        apart = λ a b has_a has_b e.
            let x : Stays turn f.waits a = stays turn f.waits a has_a in
            let y : Stays turn f.waits b = stays turn f.waits b has_b in
            let same : x.before ≡ y.before = s.apart x.before y.before x.has y.has (ap (λ (o : Waiting). o.number) (aged_is a x) ∙ e ∙ sym (ap (λ (o : Waiting). o.number) (aged_is b y))) in
            sym (aged_is a x) ∙ ap (λ (o : Waiting). record o { is_old = true }) same ∙ aged_is b y;
        acted = λ k h none. elim (number_or_none f.waits k) [
          | inr absent ↦ let e = s.acted k h absent in (e.0, adds_act.adds.keeps (Effect k e.0) (further event past (Effect k e.0) e.1))
          | inl found ↦ gone found.0 found.1 k found.2 none
        ];
        room = inr (record {
          late = adds_act.more;
          early = past;
          number = w.number;
          value = v;
          is = refl;
          written = may_written w past v writes_w fits (s.fresh w has_w).called;
          olds = λ o h old. let x : Stays turn f.waits o = stays turn f.waits o h in subst (λ (y : Waiting). Contains past (Seen (call_of y.writes y.number y.value))) (aged_is o x) (s.fresh x.before x.has).called;
        });
        below = adds_act.adds.below last (λ o h. low_of o (within o h)) (All-cons (IsAtMost last) event past (low_of w has_w) s.below);
      }
        where
          aged_fresh : (o : Waiting) → Has f.waits o → (o.number ≡ w.number → ⊥) → meets how told o ≡ false → IsFresh acted_past (record o { is_old = true })
          aged_fresh o h other not_met = record {
            called = adds_act.adds.keeps (Seen (call_of o.writes o.number o.value)) (further event past (Seen (call_of o.writes o.number o.value)) (s.fresh o h).called);
            awaits = adds_act.adds.awaits o.number (All-cons (IsNoEnd o.number) event past tt (s.fresh o h).awaits);
            none = adds_act.adds.none o.number (λ x has met' e. let is : x ≡ o = s.apart x o (within x has) h e in let yes' : meets how told o ≡ true = subst (λ y. meets how told y ≡ true) is (unmet x has met') in cc (yes', not_met))
                (All-cons (IsNoEffect o.number) event past (λ e. other (sym e)) (s.fresh o h).none);
          }

          gone : (o : Waiting) → Has f.waits o → (k : ℕ) → o.number ≡ k → ((x : Waiting) → Has (lefts turn [] f.waits) x → x.number ≡ k → ⊥) → HasEffect k acted_past
          gone o h k is none = elim (cases_eq o.number w.number) [
            | inl same ↦ (v, subst (λ j. Contains acted_past (Effect j v)) (sym same ∙ is) (adds_act.adds.keeps event (newest event past)))
            | inr other ↦ elim (cases_Bool (meets how told o)) [
              | inl its ↦ let m = met o h its in subst (λ j. HasEffect j acted_past) is (adds_act.adds.acted o m.0 m.1)
              | inr not_met ↦ absurd (none (ages how o) (stays_there turn f.waits o h other not_met) (ages_number how o ∙ is))
            ]
          ]

      pub seen_act : seen_of acted_past ≡ seen_of past
      seen_act = adds_act.adds.seen

    -- HIDE, where these old reads are met
    module _ (old_w : w.is_old ≡ true) (split : Split past f.waits) (how : How) (told : ℕ) (mets : List Waiting) (staying : (o : Waiting) → ages how o ≡ o) (within : (o : Waiting) → Has mets o → Has f.waits o × (o.is_old ≡ true))
        (met : (o : Waiting) → Has f.waits o → meets how told o ≡ true → Has mets o × (is_met v o ≡ true)) (unmet : (o : Waiting) → Has mets o → is_met v o ≡ true → meets how told o ≡ true) where
      abbrev hiding : Turn
      hiding = turn_from how w.number told

      abbrev first_event : Event
      first_event = Effect split.number split.value

      abbrev early : List Event
      early = event ∷ split.early

      before_w : IsWritten split.early w.number v
      before_w = may_written w split.early v writes_w fits (split.olds w has_w old_w)

      -- over what was before
      split_all : (P : Event → Type 0) → All P past → All P (split.late ++ first_event ∷ split.early)
      split_all P all = subst (All P) split.is all

      early_all : (P : Event → Type 0) → All P past → All P split.early
      early_all P all = (all_late P split.late first_event split.early (split_all P all)).1

      first_written : IsWritten early split.number split.value
      first_written = written_more split.early early (further event split.early) split.number split.value split.written

      pub adds_hide : AddsBefore start v mets split.late split.number split.value early
      adds_hide = add_before start v split.late split.number split.value early first_written refl mets
          (λ o h met'. let x = within o h in (further event split.early (Seen (call_of o.writes o.number o.value)) (split.olds o x.0 x.1), All-cons (IsNoEnd o.number) event split.early tt (early_all (IsNoEnd o.number) (s.fresh o x.0).awaits)))

      abbrev middle : List Event
      middle = split.late ++ first_event ∷ early

      abbrev pub hidden_past : List Event
      hidden_past = split.late ++ first_event ∷ (adds_hide.more ++ early)

      into_middle : (y : Event) → Contains past y → Contains middle y
      into_middle y c = contains_insert split.late first_event event split.early y (subst (λ p. Contains p y) split.is c)

      middle_schedule : IsSchedule start middle
      middle_schedule = schedule_insert start split.number split.value w.number v split.early split.written
          (record { called = inl before_w; awaits = early_all (IsNoEnd w.number) (s.fresh w has_w).awaits; once = early_all (IsNoEffect w.number) (s.fresh w has_w).none })
          split.late (split_all (IsNoEffect w.number) (s.fresh w has_w).none) (subst (IsSchedule start) split.is s.in_turn)

      pub stands_hide : Stands start last numbers hidden_past (record { any = f.any; value = f.value; waits = lefts hiding [] f.waits })
      stands_hide = record {
        in_turn = adds_hide.adds.in_turn middle_schedule;
        value = adds_hide.same_value ∙ value_insert start split.late split.number split.value event split.early ∙ ap (value_after start) (sym split.is) ∙ s.value;
        fresh = λ o h. let x = stood o h in still_fresh o x.0 x.1 x.2;
        apart = λ a b has_a has_b e. s.apart a b (stood a has_a).0 (stood b has_b).0 e;
        acted = λ k h none. elim (number_or_none f.waits k) [
          | inr absent ↦ let e = s.acted k h absent in (e.0, adds_hide.adds.keeps (Effect k e.0) (into_middle (Effect k e.0) e.1))
          | inl found ↦ gone found.0 found.1 k found.2 none
        ];
        room = inr (record {
          late = split.late;
          early = adds_hide.more ++ early;
          number = split.number;
          value = split.value;
          is = refl;
          written = written_more early (adds_hide.more ++ early) adds_hide.earlier split.number split.value first_written;
          olds = λ o h old. adds_hide.earlier (Seen (call_of o.writes o.number o.value)) (further event split.early (Seen (call_of o.writes o.number o.value)) (split.olds o (stood o h).0 old));
        });
        below = adds_hide.adds.below last (λ o h. low_of o (within o h).0) (all_insert (IsAtMost last) split.late first_event event split.early (low_of w has_w) (split_all (IsAtMost last) s.below));
      }
        where
          stood : (o' : Waiting) → Has (lefts hiding [] f.waits) o' → Has f.waits o' × (o'.number ≡ w.number → ⊥) × (meets how told o' ≡ false)
          stood o' h =
              let x : Stays hiding f.waits o' = stays hiding f.waits o' h in
              subst (λ y. Has f.waits y × (y.number ≡ w.number → ⊥) × (meets how told y ≡ false)) (sym (staying x.before) ∙ x.is) (x.has, x.other, x.unmet)

          still_fresh : (o : Waiting) → Has f.waits o → (o.number ≡ w.number → ⊥) → meets how told o ≡ false → IsFresh hidden_past o
          still_fresh o h other not_met = record {
            called = adds_hide.adds.keeps (Seen (call_of o.writes o.number o.value)) (into_middle (Seen (call_of o.writes o.number o.value)) (s.fresh o h).called);
            awaits = adds_hide.adds.awaits o.number (all_insert (IsNoEnd o.number) split.late first_event event split.early tt (split_all (IsNoEnd o.number) (s.fresh o h).awaits));
            none = adds_hide.adds.none o.number (λ x has met' e. let is : x ≡ o = s.apart x o (within x has).0 h e in let yes' : meets how told o ≡ true = subst (λ y. meets how told y ≡ true) is (unmet x has met') in cc (yes', not_met))
                (all_insert (IsNoEffect o.number) split.late first_event event split.early (λ e. other (sym e)) (split_all (IsNoEffect o.number) (s.fresh o h).none));
          }

          gone : (o : Waiting) → Has f.waits o → (k : ℕ) → o.number ≡ k → ((x : Waiting) → Has (lefts hiding [] f.waits) x → x.number ≡ k → ⊥) → HasEffect k hidden_past
          gone o h k is none = elim (cases_eq o.number w.number) [
            | inl same ↦ (v, subst (λ j. Contains hidden_past (Effect j v)) (sym same ∙ is) (adds_hide.adds.keeps event (inserted split.late first_event event split.early)))
            | inr other ↦ elim (cases_Bool (meets how told o)) [
              | inl its ↦ let m = met o h its in subst (λ j. HasEffect j hidden_past) is (adds_hide.adds.acted o m.0 m.1)
              | inr not_met ↦ absurd (none (ages how o) (stays_there hiding f.waits o h other not_met) (ages_number how o ∙ is))
            ]
          ]

      pub seen_hide : seen_of hidden_past ≡ seen_of past
      seen_hide = adds_hide.adds.seen ∙ seen_insert split.late split.number split.value w.number v split.early ∙ ap seen_of (sym split.is)

  -- AN END
  pub stands_end : (n : ℕ) (x : Sight) → IsEndOf n x → May start past (Seen x) → n ≤ last → ((o : Waiting) → Has f.waits o → o.number ≡ n → ⊥) → Stands start last numbers (Seen x ∷ past) f
  stands_end n x ends may low none = record {
    in_turn = (may, s.in_turn);
    value = s.value;
    fresh = λ o h. let k = s.fresh o h in record {
      called = further (Seen x) past (Seen (call_of o.writes o.number o.value)) k.called;
      awaits = All-cons (IsNoEnd o.number) (Seen x) past (quiet n x ends o.number (none o h)) k.awaits;
      none = All-cons (IsNoEffect o.number) (Seen x) past tt k.none;
    };
    apart = s.apart;
    acted = λ k h gone. more_effect k (Seen x) past (s.acted k h gone);
    room = elim s.room [
      | inl no_old ↦ inl no_old
      | inr split ↦ inr (record { late = Seen x ∷ split.late; early = split.early; number = split.number; value = split.value; is = ap (λ p. Seen x ∷ p) split.is; written = split.written; olds = split.olds })
    ];
    below = All-cons (IsAtMost last) (Seen x) past (end_low n x ends low) s.below;
  }
    where
      end_low : (n : ℕ) (x : Sight) → IsEndOf n x → n ≤ last → IsAtMost last (Seen x)
      end_low n (Done k) e low = subst (λ j. j ≤ last) (sym e) low
      end_low n (Failed k) e low = subst (λ j. j ≤ last) (sym e) low
      end_low n (Write k v) e low = absurd e
      end_low n (Read k v) e low = absurd e
