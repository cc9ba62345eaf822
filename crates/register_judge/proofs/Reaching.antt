-- Each form of the judge is that after some schedule.
use Rattle.std.proofs.Common.{◌≡◌, ◌≤◌, ◌⊎◌, inl, inr, ℕ, true, false, List, [], ◌∷◌, ◌++◌, refl, sym, ◌∙◌, subst}
use Rattle.std.specs.Prelude.{All, Contains}
use Rattle.std.proofs.lemmas.Bool.{cases_Bool}
use Rattle.std.proofs.lemmas.List.Elements.{All-cons}
use Rattle.register.specs.declared.Sight.{Sight}
use Rattle.register.specs.declared.Sight.TheVariants.{Write, Read}
use Rattle.register.specs.Schedules.{Event, Seen, Effect, seen_of, value_after, IsNoEnd, IsNoEffect, IsWritten, IsRead, IsSchedule}
use Rattle.register_judge.specs.declared.states.Waiting.{Waiting}
use Rattle.register_judge.specs.inside.States.{Form, is_met}
use Rattle.register_judge.proofs.Listing.{Has}
use Rattle.register_judge.proofs.Turning.{met_read, Fits}
use Rattle.register_judge.proofs.Events.{IsAtMost, HasEffect, call_of, further, newest, effect_or_not, more_effect, written_more}
use Rattle.register_judge.proofs.Inserting.{contains_insert, inserted, all_insert, all_late, seen_insert, value_insert, schedule_insert}

-- an operation that waits was called, has not ended and has not acted
pub record IsFresh (past : List Event) (o : Waiting) : Type 0 where
  pub called : Contains past (Seen (call_of o.writes o.number o.value))
  pub awaits : All (IsNoEnd o.number) past
  pub none : All (IsNoEffect o.number) past

-- the last effect of a write, before which those that were open then were called
pub record Split (past : List Event) (os : List Waiting) : Type 0 where
  pub late : List Event
  pub early : List Event
  pub number : ℕ
  pub value : ℕ
  pub is : past ≡ late ++ Effect number value ∷ early
  pub written : IsWritten early number value
  pub olds : (o : Waiting) → Has os o → o.is_old ≡ true → Contains early (Seen (call_of o.writes o.number o.value))

abbrev pub Room : List Event → List Waiting → Type 0
Room past os = ((o : Waiting) → Has os o → o.is_old ≡ true → ⊥) ⊎ Split past os

-- the form is that after these events
pub record Stands (start last : ℕ) (numbers : List ℕ) (past : List Event) (f : Form) : Type 0 where
  pub in_turn : IsSchedule start past
  pub value : value_after start past ≡ f.value
  pub fresh : (o : Waiting) → Has f.waits o → IsFresh past o
  pub apart : (a b : Waiting) → Has f.waits a → Has f.waits b → a.number ≡ b.number → a ≡ b
  pub acted : (k : ℕ) → Has numbers k → ((o : Waiting) → Has f.waits o → o.number ≡ k → ⊥) → HasEffect k past
  pub room : Room past f.waits
  pub below : All (IsAtMost last) past

pub record IsReal (start last : ℕ) (numbers : List ℕ) (sights : List Sight) (f : Form) : Type 0 where
  pub events : List Event
  pub seen : seen_of events ≡ sights
  pub stands : Stands start last numbers events f

-- READS THAT ARE MET

-- more effects of reads, of these numbers alone
pub record Adds (start value : ℕ) (os : List Waiting) (old new : List Event) : Type 0 where
  pub in_turn : IsSchedule start old → IsSchedule start new
  pub seen : seen_of new ≡ seen_of old
  pub keeps : (y : Event) → Contains old y → Contains new y
  pub acted : (o : Waiting) → Has os o → is_met value o ≡ true → HasEffect o.number new
  pub none : (k : ℕ) → ((o : Waiting) → Has os o → is_met value o ≡ true → o.number ≡ k → ⊥) → All (IsNoEffect k) old → All (IsNoEffect k) new
  pub awaits : (k : ℕ) → All (IsNoEnd k) old → All (IsNoEnd k) new
  pub below : (last : ℕ) → ((o : Waiting) → Has os o → o.number ≤ last) → All (IsAtMost last) old → All (IsAtMost last) new

pub call_read : (o : Waiting) (past : List Event) → o.writes ≡ false → Contains past (Seen (call_of o.writes o.number o.value)) → Contains past (Seen (Read o.number o.value))
call_read o past r c = subst (λ w. Contains past (Seen (call_of w o.number o.value))) r c

pub call_write : (o : Waiting) (past : List Event) → o.writes ≡ true → Contains past (Seen (call_of o.writes o.number o.value)) → Contains past (Seen (Write o.number o.value))
call_write o past w c = subst (λ x. Contains past (Seen (call_of x o.number o.value))) w c

-- a write may take effect with what fits
pub may_written : (o : Waiting) (past : List Event) (v : ℕ) → o.writes ≡ true → Fits o v → Contains past (Seen (call_of o.writes o.number o.value)) → IsWritten past o.number v
may_written o past v w (inl same) c = inl (subst (λ u. Contains past (Seen (Write o.number u))) same (call_write o past w c))
may_written o past v w (inr none) c = inr (subst (λ u. Contains past (Seen (Write o.number u))) none (call_write o past w c))

pub may_read : (o : Waiting) (past : List Event) (v : ℕ) → o.writes ≡ false → Fits o v → Contains past (Seen (call_of o.writes o.number o.value)) → IsRead past o.number v
may_read o past v r (inl same) c = inl (subst (λ u. Contains past (Seen (Read o.number u))) same (call_read o past r c))
may_read o past v r (inr none) c = inr (subst (λ u. Contains past (Seen (Read o.number u))) none (call_read o past r c))

-- now
pub record AddsNow (start value : ℕ) (os : List Waiting) (past : List Event) : Type 0 where
  pub more : List Event
  pub adds : Adds start value os past (more ++ past)
  pub value_is : value_after start (more ++ past) ≡ value

module _ (start value : ℕ) (past : List Event) (now : value_after start past ≡ value) where
  nothing : AddsNow start value [] past
  nothing = record {
    more = [];
    adds = record { in_turn = λ s. s; seen = refl; keeps = λ y c. c; acted = λ o h met. absurd h; none = λ k other all. all; awaits = λ k all. all; below = λ last low all. all };
    value_is = now;
  }

  skip : (o : Waiting) (os : List Waiting) (a : AddsNow start value os past) → (is_met value o ≡ true → HasEffect o.number (a.more ++ past)) → AddsNow start value (o ∷ os) past
  skip o os a has = record {
    more = a.more;
    adds = record {
      in_turn = a.adds.in_turn;
      seen = a.adds.seen;
      keeps = a.adds.keeps;
      acted = λ x h met. elim h [ inl is ↦ subst (λ y. HasEffect y.number (a.more ++ past)) is (has (subst (λ y. is_met value y ≡ true) (sym is) met)) | inr there ↦ a.adds.acted x there met ];
      none = λ k other all. a.adds.none k (λ x h met e. other x (inr h) met e) all;
      awaits = a.adds.awaits;
      below = λ last low all. a.adds.below last (λ x h. low x (inr h)) all;
    };
    value_is = a.value_is;
  }

  push : (o : Waiting) (os : List Waiting) (a : AddsNow start value os past) → is_met value o ≡ true → Contains past (Seen (call_of o.writes o.number o.value)) → All (IsNoEnd o.number) past → All (IsNoEffect o.number) (a.more ++ past)
      → AddsNow start value (o ∷ os) past
  push o os a met c awaits none =
      let r : (o.writes ≡ false) × (o.value ≡ value) = met_read value o met in
      let event : Event = Effect o.number o.value in
      record {
        more = event ∷ a.more;
        adds = record {
          in_turn = λ s. (
            record {
              called = inr (inl (call_read o (a.more ++ past) r.0 (a.adds.keeps (Seen (call_of o.writes o.number o.value)) c)), r.1 ∙ sym a.value_is);
              awaits = a.adds.awaits o.number awaits;
              once = none;
            },
            a.adds.in_turn s,
          );
          seen = a.adds.seen;
          keeps = λ y there. further event (a.more ++ past) y (a.adds.keeps y there);
          acted = λ x h m. elim h [
            | inl is ↦ (o.value, subst (λ y. Contains (event ∷ (a.more ++ past)) (Effect y.number o.value)) is (newest event (a.more ++ past)))
            | inr there ↦ more_effect x.number event (a.more ++ past) (a.adds.acted x there m)
          ];
          none = λ k other all. All-cons (IsNoEffect k) event (a.more ++ past) (λ e. other o (inl refl) met e) (a.adds.none k (λ x h m e. other x (inr h) m e) all);
          awaits = λ k all. All-cons (IsNoEnd k) event (a.more ++ past) tt (a.adds.awaits k all);
          below = λ last low all. All-cons (IsAtMost last) event (a.more ++ past) (low o (inl refl)) (a.adds.below last (λ x h. low x (inr h)) all);
        };
        value_is = r.1;
      }

  -- each read of the value takes effect
  pub add_now : (os : List Waiting) → ((o : Waiting) → Has os o → Contains past (Seen (call_of o.writes o.number o.value)) × All (IsNoEnd o.number) past) → AddsNow start value os past
  add_now [] known = nothing
  add_now (o ∷ os) known =
      let a : AddsNow start value os past = add_now os (λ x h. known x (inr h)) in
      elim (cases_Bool (is_met value o)) [
        | inl met ↦ elim (effect_or_not o.number (a.more ++ past)) [
          | inl has ↦ skip o os a (λ m. has)
          | inr none ↦ push o os a met (known o (inl refl)).0 (known o (inl refl)).1 none
        ]
        | inr unmet ↦ skip o os a (λ m. absurd (cc (m, unmet)))
      ]

-- just before the last effect of a write
pub record AddsBefore (start value : ℕ) (os : List Waiting) (late : List Event) (n v : ℕ) (early : List Event) : Type 0 where
  pub more : List Event
  pub adds : Adds start value os (late ++ Effect n v ∷ early) (late ++ Effect n v ∷ (more ++ early))
  pub value_is : value_after start (more ++ early) ≡ value
  pub same_value : value_after start (late ++ Effect n v ∷ (more ++ early)) ≡ value_after start (late ++ Effect n v ∷ early)
  pub earlier : (y : Event) → Contains early y → Contains (more ++ early) y
  pub quiet : (k : ℕ) → All (IsNoEnd k) early → All (IsNoEnd k) (more ++ early)
  pub alone : (k : ℕ) → All (IsNoEffect k) (late ++ Effect n v ∷ (more ++ early)) → All (IsNoEffect k) (more ++ early)

module _ (start value : ℕ) (late : List Event) (n v : ℕ) (early : List Event) (written : IsWritten early n v) (now : value_after start early ≡ value) where
  abbrev whole : List Event → List Event
  whole more = late ++ Effect n v ∷ (more ++ early)

  nothing_before : AddsBefore start value [] late n v early
  nothing_before = record {
    more = [];
    adds = record { in_turn = λ s. s; seen = refl; keeps = λ y c. c; acted = λ o h met. absurd h; none = λ k other all. all; awaits = λ k all. all; below = λ last low all. all };
    value_is = now;
    same_value = refl;
    earlier = λ y c. c;
    quiet = λ k all. all;
    alone = λ k all. (all_late (IsNoEffect k) late (Effect n v) early all).1;
  }

  push_before : (o : Waiting) (os : List Waiting) (a : AddsBefore start value os late n v early) → is_met value o ≡ true → Contains early (Seen (call_of o.writes o.number o.value)) → All (IsNoEnd o.number) early
      → All (IsNoEffect o.number) (whole a.more) → AddsBefore start value (o ∷ os) late n v early
  push_before o os a met c awaits none =
      let r : (o.writes ≡ false) × (o.value ≡ value) = met_read value o met in
      let event : Event = Effect o.number o.value in
      record {
        more = event ∷ a.more;
        adds = record {
          in_turn = λ s. schedule_insert start n v o.number o.value (a.more ++ early) (written_more early (a.more ++ early) a.earlier n v written) (record {
            called = inr (inl (call_read o (a.more ++ early) r.0 (a.earlier (Seen (call_of o.writes o.number o.value)) c)), r.1 ∙ sym a.value_is);
            awaits = a.quiet o.number awaits;
            once = a.alone o.number none;
          }) late none (a.adds.in_turn s);
          seen = seen_insert late n v o.number o.value (a.more ++ early) ∙ a.adds.seen;
          keeps = λ y there. contains_insert late (Effect n v) event (a.more ++ early) y (a.adds.keeps y there);
          acted = λ x h m. elim h [
            | inl is ↦ (o.value, subst (λ y. Contains (late ++ Effect n v ∷ event ∷ (a.more ++ early)) (Effect y.number o.value)) is (inserted late (Effect n v) event (a.more ++ early)))
            | inr there ↦ let e = a.adds.acted x there m in (e.0, contains_insert late (Effect n v) event (a.more ++ early) (Effect x.number e.0) e.1)
          ];
          none = λ k other all. all_insert (IsNoEffect k) late (Effect n v) event (a.more ++ early) (λ e. other o (inl refl) met e) (a.adds.none k (λ x h m e. other x (inr h) m e) all);
          awaits = λ k all. all_insert (IsNoEnd k) late (Effect n v) event (a.more ++ early) tt (a.adds.awaits k all);
          below = λ last low all. all_insert (IsAtMost last) late (Effect n v) event (a.more ++ early) (low o (inl refl)) (a.adds.below last (λ x h. low x (inr h)) all);
        };
        value_is = r.1;
        same_value = value_insert start late n v event (a.more ++ early) ∙ a.same_value;
        earlier = λ y there. further event (a.more ++ early) y (a.earlier y there);
        quiet = λ k all. All-cons (IsNoEnd k) event (a.more ++ early) tt (a.quiet k all);
        alone = λ k all. (all_late (IsNoEffect k) late (Effect n v) (event ∷ (a.more ++ early)) all).1;
      }

  -- each read of the value takes effect, all of which were called by then
  pub add_before : (os : List Waiting) → ((o : Waiting) → Has os o → is_met value o ≡ true → Contains early (Seen (call_of o.writes o.number o.value)) × All (IsNoEnd o.number) early) → AddsBefore start value os late n v early
  add_before [] known = nothing_before
  add_before (o ∷ os) known =
      let a : AddsBefore start value os late n v early = add_before os (λ x h. known x (inr h)) in
      elim (cases_Bool (is_met value o)) [
        | inl met ↦ elim (effect_or_not o.number (whole a.more)) [
          | inl has ↦ skipped o os a (λ m. has)
          | inr none ↦ push_before o os a met (known o (inl refl) met).0 (known o (inl refl) met).1 none
        ]
        | inr unmet ↦ skipped o os a (λ m. absurd (cc (m, unmet)))
      ]
    where
      skipped : (o : Waiting) (os : List Waiting) (a : AddsBefore start value os late n v early) → (is_met value o ≡ true → HasEffect o.number (whole a.more)) → AddsBefore start value (o ∷ os) late n v early
      skipped o os a has = record {
        more = a.more;
        adds = record {
          in_turn = a.adds.in_turn;
          seen = a.adds.seen;
          keeps = a.adds.keeps;
          acted = λ x h met. elim h [ inl is ↦ subst (λ y. HasEffect y.number (whole a.more)) is (has (subst (λ y. is_met value y ≡ true) (sym is) met)) | inr there ↦ a.adds.acted x there met ];
          none = λ k other all. a.adds.none k (λ x h met e. other x (inr h) met e) all;
          awaits = a.adds.awaits;
          below = λ last low all. a.adds.below last (λ x h. low x (inr h)) all;
        };
        value_is = a.value_is;
        same_value = a.same_value;
        earlier = a.earlier;
        quiet = a.quiet;
        alone = a.alone;
      }
