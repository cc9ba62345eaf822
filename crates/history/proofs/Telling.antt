-- A schedule of a sector, told as one of a register.
use Rattle.std.proofs.Common.{◌≡◌, ◌≢◌, ◌<◌, ◌≤◌, ◌⊎◌, inl, inr, ℕ, zero, suc, ◌+◌, ◌-◌, ◌==◌, ◌&&◌, ◌||◌, Bool, true, false, List, [], ◌∷◌, ◌++◌, Option, Some, None, refl, sym, ◌∙◌, ap, subst, arith}
use Rattle.std.specs.Prelude.{All, Contains, nat_le, nat_lt, if◌then◌else◌}
use Rattle.std.specs.List.{list_any}
use Rattle.std.proofs.lemmas.Bool.{and_parts, and_from, eqb-true}
use Rattle.std.proofs.lemmas.Bool.Decides.{nat_tests}
use Rattle.std.proofs.lemmas.List.Elements.{All-nil, All-head, All-tail, All-cons, All-contains}
use Rattle.std.proofs.lemmas.List.Folds.{list_any-append}
use Rattle.ntstatus.specs.declared.NtStatus.{NtStatus}
use Rattle.ntstatus.specs.declared.NtStatus.TheVariants.{Success}
use Rattle.srb.specs.declared.Kind.{Kind}
use Rattle.srb.specs.declared.Kind.TheVariants.{Read, Write, Flush}
use Rattle.machine.specs.declared.ClientRequest.{ClientRequest}
use Rattle.machine.specs.declared.Label.{Label}
use Rattle.machine.specs.declared.Label.TheVariants.{Call, Device, Answer, Cancel, Pause, Resume, Remove, Surprise, Removed}
use Rattle.machine.specs.Rules.{Rules, is_transfer, is_in_bounds, first_sector, place_count}
use Rattle.machine_laws.specs.NumberLaws.{AreFrom, call_numbers}
use Rattle.machine_laws.specs.Sectors.{part_of}
use Rattle.history_laws.specs.Schedules.{Event, Seen, Effect, labels_of, value_after, IsAt, IsNoAnswer, IsNoEffect, Moves, TakesEffect, TookEffect, IsAnswer, MayFollow}
use Rattle.history_laws.proofs.Mirroring.{further, newest}
use Rattle.history_laws.proofs.Scheduling.{explained_scheduled, explained_numbered}
use Rattle.register.specs.declared.Sight.{Sight}
use Rattle.register.specs.declared.Sight.TheVariants.{Write as WriteSight, Read as ReadSight, Done, Failed}
use Rattle.register.specs.Schedules as register
use Rattle.register.specs.Schedules.{HasSchedule}
use Rattle.history.specs.Sights.{is_partition, has_sector, bytes_at, success_bytes, success_of, is_call_of, end_of, read_sight, value_of, call_sight, with_sight, sights_of}
use Rattle.history.specs.Refusing.{SightsAreScheduled, RefusedAreUnexplained}

-- EVENTS SO FAR

behind : {X : Type 0} (y : X) (xs : List X) (x : X) → (y ≡ x → ⊥) → Contains (y ∷ xs) x → Contains xs x
behind y xs x other (zero, low, is) = absurd (other is)
behind y xs x other (suc k, low, is) = (k, omega arith, is)

first_or_behind : {X : Type 0} (y : X) (xs : List X) (x : X) → Contains (y ∷ xs) x → (y ≡ x) ⊎ Contains xs x
first_or_behind y xs x (zero, low, is) = inl is
first_or_behind y xs x (suc k, low, is) = inr (k, omega arith, is)

-- each number is of one call and one effect, and was given
record IsTidy (next : ℕ) (past : List Event) : Type 0 where
  calls_below : (n : ℕ) (q : ClientRequest) → Contains past (Seen (Call n q)) → n < next
  effects_below : (n : ℕ) (sector : List ℕ) → Contains past (Effect n sector) → n < next
  one_call : (n : ℕ) (q r : ClientRequest) → Contains past (Seen (Call n q)) → Contains past (Seen (Call n r)) → q ≡ r
  one_effect : (n : ℕ) (a b : List ℕ) → Contains past (Effect n a) → Contains past (Effect n b) → a ≡ b

no_other_effect : (past : List Event) (n : ℕ) (sector : List ℕ) → All (IsNoEffect n) past → Contains past (Effect n sector) → ⊥
no_other_effect past n sector once there = All-contains (IsNoEffect n) past (Effect n sector) once there refl

tidy_effect : (rules : Rules) (p i : ℕ) (start : List ℕ) (next : ℕ) (past : List Event) (n : ℕ) (sector : List ℕ) → IsTidy next past → TakesEffect rules p i start past n sector → IsTidy next (Effect n sector ∷ past)
tidy_effect rules p i start next past n sector t h = record {
  calls_below = λ m q there. t.calls_below m q (behind (Effect n sector) past (Seen (Call m q)) (λ e. cc (e)) there);
  effects_below = below;
  one_call = λ m q r a b. t.one_call m q r (behind (Effect n sector) past (Seen (Call m q)) (λ e. cc (e)) a) (behind (Effect n sector) past (Seen (Call m r)) (λ e. cc (e)) b);
  one_effect = one;
}
  where
    below : (m : ℕ) (s : List ℕ) → Contains (Effect n sector ∷ past) (Effect m s) → m < next
    below m s there = elim (first_or_behind (Effect n sector) past (Effect m s) there) [
      | inl e ↦ let same : n ≡ m = cc (e) in subst (λ v. v < next) same (t.calls_below n h.request h.is_open.called)
      | inr there' ↦ t.effects_below m s there'
    ]

    one : (m : ℕ) (a b : List ℕ) → Contains (Effect n sector ∷ past) (Effect m a) → Contains (Effect n sector ∷ past) (Effect m b) → a ≡ b
    one m a b at_a at_b = elim (first_or_behind (Effect n sector) past (Effect m a) at_a) [
      | inl e ↦ elim (first_or_behind (Effect n sector) past (Effect m b) at_b) [
        | inl f ↦ cc (e, f)
        | inr there ↦ let same : n ≡ m = cc (e) in absurd (no_other_effect past n b h.once (subst (λ v. Contains past (Effect v b)) (sym same) there))
      ]
      | inr there ↦ elim (first_or_behind (Effect n sector) past (Effect m b) at_b) [
        | inl f ↦ let same : n ≡ m = cc (f) in absurd (no_other_effect past n a h.once (subst (λ v. Contains past (Effect v a)) (sym same) there))
        | inr there' ↦ t.one_effect m a b there there'
      ]
    ]

tidy_call : (next : ℕ) (past : List Event) (n : ℕ) (q : ClientRequest) → IsTidy next past → n ≡ next → IsTidy (next + 1) (Seen (Call n q) ∷ past)
tidy_call next past n q t is = record {
  calls_below = below;
  effects_below = λ m s there. let low : m < next = t.effects_below m s (behind (Seen (Call n q)) past (Effect m s) (λ e. cc (e)) there) in omega arith;
  one_call = one;
  one_effect = λ m a b at_a at_b. t.one_effect m a b (behind (Seen (Call n q)) past (Effect m a) (λ e. cc (e)) at_a) (behind (Seen (Call n q)) past (Effect m b) (λ e. cc (e)) at_b);
}
  where
    below : (m : ℕ) (r : ClientRequest) → Contains (Seen (Call n q) ∷ past) (Seen (Call m r)) → m < next + 1
    below m r there = elim (first_or_behind (Seen (Call n q)) past (Seen (Call m r)) there) [
      | inl e ↦ let same : n ≡ m = cc (e) in omega arith
      | inr there' ↦ let low : m < next = t.calls_below m r there' in omega arith
    ]

    not_new : (m : ℕ) (r : ClientRequest) → n ≡ m → Contains past (Seen (Call m r)) → ⊥
    not_new m r same there = let low : m < next = t.calls_below m r there in absurd (omega arith)

    one : (m : ℕ) (a b : ClientRequest) → Contains (Seen (Call n q) ∷ past) (Seen (Call m a)) → Contains (Seen (Call n q) ∷ past) (Seen (Call m b)) → a ≡ b
    one m a b at_a at_b = elim (first_or_behind (Seen (Call n q)) past (Seen (Call m a)) at_a) [
      | inl e ↦ elim (first_or_behind (Seen (Call n q)) past (Seen (Call m b)) at_b) [
        | inl f ↦ cc (e, f)
        | inr there ↦ absurd (not_new m b (cc (e)) there)
      ]
      | inr there ↦ elim (first_or_behind (Seen (Call n q)) past (Seen (Call m b)) at_b) [
        | inl f ↦ absurd (not_new m a (cc (f)) there)
        | inr there' ↦ t.one_call m a b there there'
      ]
    ]

-- the label is no call
abbrev IsNoCall : Label → Type 0
IsNoCall label = (n : ℕ) (q : ClientRequest) → label ≡ Call n q → ⊥

not_called : (label : Label) → IsNoCall label → (n : ℕ) (q : ClientRequest) → Seen label ≡ Seen (Call n q) → ⊥
not_called label other n q e = other n q (cc (e))

tidy_label : (next : ℕ) (past : List Event) (label : Label) → IsTidy next past → IsNoCall label → IsTidy next (Seen label ∷ past)
tidy_label next past label t other = record {
  calls_below = λ m q there. t.calls_below m q (behind (Seen label) past (Seen (Call m q)) (not_called label other m q) there);
  effects_below = λ m s there. t.effects_below m s (behind (Seen label) past (Effect m s) (λ e. cc (e)) there);
  one_call = λ m q r a b. t.one_call m q r (behind (Seen label) past (Seen (Call m q)) (not_called label other m q) a) (behind (Seen label) past (Seen (Call m r)) (not_called label other m r) b);
  one_effect = λ m a b at_a at_b. t.one_effect m a b (behind (Seen label) past (Effect m a) (λ e. cc (e)) at_a) (behind (Seen label) past (Effect m b) (λ e. cc (e)) at_b);
}

success_is : (status : NtStatus) (bytes b : List ℕ) → success_bytes status bytes ≡ Some b → (status ≡ Success) × (bytes ≡ b)
success_is Success bytes b e = (refl, cc (e))
success_is _ bytes b e = absurd (cc (e))

-- A SECTOR'S PLACE

module _ (rules : Rules) (p i : ℕ) (q : ClientRequest) where
  place_is : (place : ℕ) → IsAt rules p i q place → i - first_sector rules q ≡ place
  place_is place at = let is : first_sector rules q + place ≡ i = at.sector in omega arith

  partition_is : (partition : Option ℕ) → partition ≡ Some p → is_partition p partition ≡ true
  partition_is None e = absurd (cc (e))
  partition_is (Some other) e = let same : other ≡ p = cc (e) in grind (arith, nat_tests)

  is_partition_of : (partition : Option ℕ) → is_partition p partition ≡ true → partition ≡ Some p
  is_partition_of None e = absurd (cc (e))
  is_partition_of (Some other) e = ap Some (eqb-true other p e)

  at_has : (place : ℕ) → IsAt rules p i q place → has_sector rules p i q ≡ true
  at_has place at =
      let is : first_sector rules q + place ≡ i = at.sector in
      let inside : place < place_count rules q = at.inside in
      let low : nat_le (first_sector rules q) i ≡ true = from_le (first_sector rules q) i (omega arith) in
      let high : nat_lt i (first_sector rules q + place_count rules q) ≡ true = from_lt i (first_sector rules q + place_count rules q) (omega arith) in
      and_from (is_partition p q.partition && (is_transfer q.kind && is_in_bounds rules q)) _
      (and_from (is_partition p q.partition) _ (partition_is q.partition at.partition) (and_from (is_transfer q.kind) _ at.transfer at.in_bounds))
      (and_from (nat_le (first_sector rules q) i) _ low high)
    where
      from_le : (a b : ℕ) → a ≤ b → nat_le a b ≡ true
      from_le a b h = grind (arith, nat_tests)

      from_lt : (a b : ℕ) → a < b → nat_lt a b ≡ true
      from_lt a b h = grind (arith, nat_tests)

  has_at : has_sector rules p i q ≡ true → IsAt rules p i q (i - first_sector rules q)
  has_at e =
      let both : _ × _ = and_parts (is_partition p q.partition && (is_transfer q.kind && is_in_bounds rules q)) _ e in
      let kind : _ × _ = and_parts (is_partition p q.partition) _ both.0 in
      let of_kind : _ × _ = and_parts (is_transfer q.kind) _ kind.1 in
      let place : _ × _ = and_parts (nat_le (first_sector rules q) i) _ both.1 in
      let low : first_sector rules q ≤ i = to_le (first_sector rules q) i place.0 in
      let high : i < first_sector rules q + place_count rules q = to_lt i (first_sector rules q + place_count rules q) place.1 in
      record {
        partition = is_partition_of q.partition kind.0;
        transfer = of_kind.0;
        in_bounds = of_kind.1;
        sector = omega arith;
        inside = omega arith;
      }
    where
      to_le : (a b : ℕ) → nat_le a b ≡ true → a ≤ b
      to_le a b h = grind (arith, nat_tests)

      to_lt : (a b : ℕ) → nat_lt a b ≡ true → a < b
      to_lt a b h = grind (arith, nat_tests)

-- WHAT A READ WILL HAND OVER

module _ (rules : Rules) (p i : ℕ) (start : List ℕ) where
  -- a read that took effect, and whose first answer is a success, is answered with what it met
  handed_over : (events past : List Event) (next : ℕ) → MayFollow rules p i start past events → IsTidy next past → AreFrom next (call_numbers (labels_of events))
      → (n : ℕ) (sector : List ℕ) (q : ClientRequest) (place : ℕ) (bytes : List ℕ) → Contains past (Effect n sector) → Contains past (Seen (Call n q)) → q.kind ≡ Read → IsAt rules p i q place
      → success_of n (labels_of events) ≡ Some bytes → part_of rules bytes place ≡ sector
  handed_over [] past next h t from n sector q place bytes effect call read at e = absurd (cc (e))
  handed_over (Effect m other ∷ events) past next h t from n sector q place bytes effect call read at e =
      handed_over events (Effect m other ∷ past) next h.1 (tidy_effect rules p i start next past m other t h.0) from n sector q place bytes
      (further (Effect m other) past _ effect) (further (Effect m other) past _ call) read at e
  handed_over (Seen (Call m r) ∷ events) past next h t from n sector q place bytes effect call read at e =
      handed_over events (Seen (Call m r) ∷ past) (next + 1) h.1 (tidy_call next past m r t from.0) from.1 n sector q place bytes
      (further (Seen (Call m r)) past _ effect) (further (Seen (Call m r)) past _ call) read at e
  handed_over (Seen (Answer m status informed answered) ∷ events) past next h t from n sector q place bytes effect call read at e =
      by_number (λ f. handed_over events (Seen (Answer m status informed answered) ∷ past) next h.1 (tidy_label next past (Answer m status informed answered) t (λ v r g. cc (g))) from n sector q place bytes
      (further (Seen (Answer m status informed answered)) past _ effect) (further (Seen (Answer m status informed answered)) past _ call) read at f) (m == n) refl
    where
      it_is : m ≡ n → success_bytes status answered ≡ Some bytes → part_of rules bytes place ≡ sector
      it_is same success =
          let both : (status ≡ Success) × (answered ≡ bytes) = success_is status answered bytes success in
          let called : Contains past (Seen (Call n h.0.request)) = subst (λ v. Contains past (Seen (Call v h.0.request))) same h.0.is_open.called in
          let its_own : h.0.request ≡ q = t.one_call n h.0.request q called call in
          let took : TookEffect rules past m h.0.request place answered = h.0.effect both.0 place (subst (λ r. IsAt rules p i r place) (sym its_own) at) in
          let same_effect : took.sector ≡ sector = t.one_effect n took.sector sector (subst (λ v. Contains past (Effect v took.sector)) same took.before) effect in
          ap (λ b. part_of rules b place) (sym both.1) ∙ took.hands_over (ap (λ r. r.kind) its_own ∙ read) ∙ same_effect

      by_number : (success_of n (labels_of events) ≡ Some bytes → part_of rules bytes place ≡ sector) → (b : Bool) → (m == n) ≡ b → part_of rules bytes place ≡ sector
      by_number rest true is = it_is (eqb-true m n is) (sym (ap (λ b. if b then success_bytes status answered else success_of n (labels_of events)) is) ∙ e)
      by_number rest false is = rest (sym (ap (λ b. if b then success_bytes status answered else success_of n (labels_of events)) is) ∙ e)
  handed_over (Seen (Device label) ∷ events) past next h t from n sector q place bytes effect call read at e =
      handed_over events (Seen (Device label) ∷ past) next h.1 (tidy_label next past (Device label) t (λ v r f. cc (f))) from n sector q place bytes
      (further (Seen (Device label)) past _ effect) (further (Seen (Device label)) past _ call) read at e
  handed_over (Seen (Cancel m) ∷ events) past next h t from n sector q place bytes effect call read at e =
      handed_over events (Seen (Cancel m) ∷ past) next h.1 (tidy_label next past (Cancel m) t (λ v r f. cc (f))) from n sector q place bytes
      (further (Seen (Cancel m)) past _ effect) (further (Seen (Cancel m)) past _ call) read at e
  handed_over (Seen Pause ∷ events) past next h t from n sector q place bytes effect call read at e =
      handed_over events (Seen Pause ∷ past) next h.1 (tidy_label next past Pause t (λ v r f. cc (f))) from n sector q place bytes (further (Seen Pause) past _ effect) (further (Seen Pause) past _ call) read at e
  handed_over (Seen Resume ∷ events) past next h t from n sector q place bytes effect call read at e =
      handed_over events (Seen Resume ∷ past) next h.1 (tidy_label next past Resume t (λ v r f. cc (f))) from n sector q place bytes (further (Seen Resume) past _ effect) (further (Seen Resume) past _ call) read at e
  handed_over (Seen Remove ∷ events) past next h t from n sector q place bytes effect call read at e =
      handed_over events (Seen Remove ∷ past) next h.1 (tidy_label next past Remove t (λ v r f. cc (f))) from n sector q place bytes (further (Seen Remove) past _ effect) (further (Seen Remove) past _ call) read at e
  handed_over (Seen Surprise ∷ events) past next h t from n sector q place bytes effect call read at e =
      handed_over events (Seen Surprise ∷ past) next h.1 (tidy_label next past Surprise t (λ v r f. cc (f))) from n sector q place bytes (further (Seen Surprise) past _ effect) (further (Seen Surprise) past _ call) read at e
  handed_over (Seen Removed ∷ events) past next h t from n sector q place bytes effect call read at e =
      handed_over events (Seen Removed ∷ past) next h.1 (tidy_label next past Removed t (λ v r f. cc (f))) from n sector q place bytes (further (Seen Removed) past _ effect) (further (Seen Removed) past _ call) read at e

-- WHAT IS TOLD OF THE EVENTS

-- a read that is told was called, has the sector, and will be answered with the value
record IsToldRead (code : List ℕ → ℕ) (rules : Rules) (p i : ℕ) (past : List Event) (later : List Label) (n v : ℕ) : Type 0 where
  request : ClientRequest
  called : Contains past (Seen (Call n request))
  is_read : request.kind ≡ Read
  has : has_sector rules p i request ≡ true
  answer : All (IsNoAnswer n) past → (bytes : List ℕ) × (success_of n later ≡ Some bytes) × (v ≡ code (bytes_at rules i request bytes))

record IsToldWrite (rules : Rules) (p i : ℕ) (past : List Event) (n : ℕ) : Type 0 where
  request : ClientRequest
  called : Contains past (Seen (Call n request))
  is_write : request.kind ≡ Write
  has : has_sector rules p i request ≡ true

record IsTold (code : List ℕ → ℕ) (rules : Rules) (p i : ℕ) (start : List ℕ) (past : List Event) (told : List register.Event) (later : List Label) : Type 0 where
  value : register.value_after (code start) told ≡ code (value_after start past)
  writes : (n : ℕ) (q : ClientRequest) → Contains past (Seen (Call n q)) → q.kind ≡ Write → has_sector rules p i q ≡ true → Contains told (register.Seen (WriteSight n (code (bytes_at rules i q q.bytes))))
  wrote : (n v : ℕ) → Contains told (register.Seen (WriteSight n v)) → IsToldWrite rules p i past n
  reads : (n v : ℕ) → Contains told (register.Seen (ReadSight n v)) → IsToldRead code rules p i past later n v
  awaits : (n : ℕ) → All (IsNoAnswer n) past → All (register.IsNoEnd n) told
  once : (n : ℕ) → All (IsNoEffect n) past → All (register.IsNoEffect n) told
  effects : (n : ℕ) (sector : List ℕ) → Contains past (Effect n sector) → list_any (is_call_of n) (register.seen_of told) ≡ true → Contains told (register.Effect n (code sector))

or_true : (a b : Bool) → (a || b) ≡ true → (a ≡ true) ⊎ (b ≡ true)
or_true true b e = inl refl
or_true false b e = inr e

only_first : (a : Bool) → (a || false) ≡ true → a ≡ true
only_first true e = refl
only_first false e = e

-- a call in the sights is one of the events
seen_contains : (n : ℕ) (told : List register.Event) → list_any (is_call_of n) (register.seen_of told) ≡ true
    → ((v : ℕ) × Contains told (register.Seen (WriteSight n v))) ⊎ ((v : ℕ) × Contains told (register.Seen (ReadSight n v)))
seen_contains n [] e = absurd (cc (e))
seen_contains n (register.Effect m v ∷ told) e =
    elim (seen_contains n told e) [
      | inl (w, there) ↦ inl (w, further (register.Effect m v) told _ there)
      | inr (w, there) ↦ inr (w, further (register.Effect m v) told _ there)
    ]
seen_contains n (register.Seen x ∷ told) e =
    elim (or_true _ _ (sym (list_any-append (is_call_of n) (register.seen_of told) (x ∷ [])) ∙ e)) [
      | inl before ↦ elim (seen_contains n told before) [
        | inl (w, there) ↦ inl (w, further (register.Seen x) told _ there)
        | inr (w, there) ↦ inr (w, further (register.Seen x) told _ there)
      ]
      | inr now ↦ by_sight x (only_first (is_call_of n x) now)
    ]
  where
    by_sight : (y : Sight) → is_call_of n y ≡ true
        → ((v : ℕ) × Contains (register.Seen y ∷ told) (register.Seen (WriteSight n v))) ⊎ ((v : ℕ) × Contains (register.Seen y ∷ told) (register.Seen (ReadSight n v)))
    by_sight (WriteSight m v) is = inl (v, subst (λ k. Contains (register.Seen (WriteSight m v) ∷ told) (register.Seen (WriteSight k v))) (eqb-true m n is) (newest (register.Seen (WriteSight m v)) told))
    by_sight (ReadSight m v) is = inr (v, subst (λ k. Contains (register.Seen (ReadSight m v) ∷ told) (register.Seen (ReadSight k v))) (eqb-true m n is) (newest (register.Seen (ReadSight m v)) told))
    by_sight (Done m) is = absurd (cc (is))
    by_sight (Failed m) is = absurd (cc (is))

module _ (code : List ℕ → ℕ) (rules : Rules) (p i : ℕ) (start : List ℕ) where
  -- an effect is told
  told_effect : (past : List Event) (told : List register.Event) (later : List Label) (n : ℕ) (sector : List ℕ) → IsTold code rules p i start past told later
      → IsTold code rules p i start (Effect n sector ∷ past) (register.Effect n (code sector) ∷ told) later
  told_effect past told later n sector k = record {
    value = refl;
    writes = λ m q there is_write has. further (register.Effect n (code sector)) told _ (k.writes m q (behind (Effect n sector) past (Seen (Call m q)) (λ e. cc (e)) there) is_write has);
    wrote = λ m v there.
        let before : IsToldWrite rules p i past m = k.wrote m v (behind (register.Effect n (code sector)) told (register.Seen (WriteSight m v)) (λ e. cc (e)) there) in
        record { request = before.request; called = further (Effect n sector) past _ before.called; is_write = before.is_write; has = before.has };
    reads = λ m v there.
        let before : IsToldRead code rules p i past later m v = k.reads m v (behind (register.Effect n (code sector)) told (register.Seen (ReadSight m v)) (λ e. cc (e)) there) in
        record {
          request = before.request;
          called = further (Effect n sector) past _ before.called;
          is_read = before.is_read;
          has = before.has;
          answer = λ awaits. before.answer (All-tail (IsNoAnswer m) (Effect n sector) past awaits);
        };
    awaits = λ m all. All-cons (register.IsNoEnd m) (register.Effect n (code sector)) told tt (k.awaits m (All-tail (IsNoAnswer m) (Effect n sector) past all));
    once = λ m all. All-cons (register.IsNoEffect m) (register.Effect n (code sector)) told (All-head (IsNoEffect m) (Effect n sector) past all) (k.once m (All-tail (IsNoEffect m) (Effect n sector) past all));
    effects = λ m s there seen. elim (first_or_behind (Effect n sector) past (Effect m s) there) [
      | inl e ↦ let number : n ≡ m = cc (e) in let same : sector ≡ s = cc (e) in
          subst (λ v. Contains (register.Effect n (code sector) ∷ told) (register.Effect v (code s))) number (subst (λ x. Contains (register.Effect n (code sector) ∷ told) (register.Effect n (code x))) same (newest (register.Effect n (code sector)) told))
      | inr there' ↦ further (register.Effect n (code sector)) told _ (k.effects m s there' seen)
    ];
  }

  -- the effect of a read that isn't told isn't either
  untold_effect : (past : List Event) (told : List register.Event) (later : List Label) (n : ℕ) (sector : List ℕ) → IsTold code rules p i start past told later → sector ≡ value_after start past
      → list_any (is_call_of n) (register.seen_of told) ≡ false → IsTold code rules p i start (Effect n sector ∷ past) told later
  untold_effect past told later n sector k met unseen = record {
    value = k.value ∙ ap code (sym met);
    writes = λ m q there is_write has. k.writes m q (behind (Effect n sector) past (Seen (Call m q)) (λ e. cc (e)) there) is_write has;
    wrote = λ m v there.
        let before : IsToldWrite rules p i past m = k.wrote m v there in
        record { request = before.request; called = further (Effect n sector) past _ before.called; is_write = before.is_write; has = before.has };
    reads = λ m v there.
        let before : IsToldRead code rules p i past later m v = k.reads m v there in
        record {
          request = before.request;
          called = further (Effect n sector) past _ before.called;
          is_read = before.is_read;
          has = before.has;
          answer = λ awaits. before.answer (All-tail (IsNoAnswer m) (Effect n sector) past awaits);
        };
    awaits = λ m all. k.awaits m (All-tail (IsNoAnswer m) (Effect n sector) past all);
    once = λ m all. k.once m (All-tail (IsNoEffect m) (Effect n sector) past all);
    effects = λ m s there seen. elim (first_or_behind (Effect n sector) past (Effect m s) there) [
      | inl e ↦ let number : n ≡ m = cc (e) in absurd (unlike m number seen)
      | inr there' ↦ k.effects m s there' seen
    ];
  }
    where
      unlike : (m : ℕ) → n ≡ m → list_any (is_call_of m) (register.seen_of told) ≡ true → ⊥
      unlike m number seen = let same : list_any (is_call_of n) (register.seen_of told) ≡ true = subst (λ v. list_any (is_call_of v) (register.seen_of told) ≡ true) (sym number) seen in cc (same, unseen)

  -- a label that shows nothing
  untold_label : (past : List Event) (told : List register.Event) (label : Label) (later : List Label)
      → ((m : ℕ) (q : ClientRequest) → label ≡ Call m q → q.kind ≡ Write → has_sector rules p i q ≡ true → ⊥)
      → ((m : ℕ) → IsNoAnswer m (Seen label) → success_of m (label ∷ later) ≡ success_of m later)
      → IsTold code rules p i start past told (label ∷ later) → IsTold code rules p i start (Seen label ∷ past) told later
  untold_label past told label later no_write same_later k = record {
    value = k.value;
    writes = λ m q there is_write has. elim (first_or_behind (Seen label) past (Seen (Call m q)) there) [
      | inl e ↦ absurd (no_write m q (cc (e)) is_write has)
      | inr there' ↦ k.writes m q there' is_write has
    ];
    wrote = λ m v there.
        let before : IsToldWrite rules p i past m = k.wrote m v there in
        record { request = before.request; called = further (Seen label) past _ before.called; is_write = before.is_write; has = before.has };
    reads = λ m v there. reads m v (k.reads m v there);
    awaits = λ m all. k.awaits m (All-tail (IsNoAnswer m) (Seen label) past all);
    once = λ m all. k.once m (All-tail (IsNoEffect m) (Seen label) past all);
    effects = λ m s there seen. k.effects m s (behind (Seen label) past (Effect m s) (λ e. cc (e)) there) seen;
  }
    where
      reads : (m v : ℕ) → IsToldRead code rules p i past (label ∷ later) m v → IsToldRead code rules p i (Seen label ∷ past) later m v
      reads m v before = record {
        request = before.request;
        called = further (Seen label) past _ before.called;
        is_read = before.is_read;
        has = before.has;
        answer = λ awaits.
            let found : (bytes : List ℕ) × (success_of m (label ∷ later) ≡ Some bytes) × (v ≡ code (bytes_at rules i before.request bytes)) = before.answer (All-tail (IsNoAnswer m) (Seen label) past awaits) in
            (found.0, sym (same_later m (All-head (IsNoAnswer m) (Seen label) past awaits)) ∙ found.1, found.2);
      }

  -- a label that shows a sight
  told_label : (past : List Event) (told : List register.Event) (label : Label) (later : List Label) (x : Sight)
      → ((m : ℕ) (q : ClientRequest) → label ≡ Call m q → q.kind ≡ Write → has_sector rules p i q ≡ true → x ≡ WriteSight m (code (bytes_at rules i q q.bytes)))
      → ((m v : ℕ) → x ≡ WriteSight m v → IsToldWrite rules p i (Seen label ∷ past) m)
      → ((m v : ℕ) → x ≡ ReadSight m v → IsToldRead code rules p i (Seen label ∷ past) later m v)
      → ((m : ℕ) → IsNoAnswer m (Seen label) → success_of m (label ∷ later) ≡ success_of m later)
      → ((m : ℕ) → IsNoAnswer m (Seen label) → register.IsNoEnd m (register.Seen x))
      → ((m : ℕ) (s : List ℕ) → is_call_of m x ≡ true → Contains past (Effect m s) → ⊥)
      → IsTold code rules p i start past told (label ∷ later) → IsTold code rules p i start (Seen label ∷ past) (register.Seen x ∷ told) later
  told_label past told label later x own_write is_wrote is_read same_later no_end is_new k = record {
    value = k.value;
    writes = λ m q there is_write has. elim (first_or_behind (Seen label) past (Seen (Call m q)) there) [
      | inl e ↦ subst (λ y. Contains (register.Seen x ∷ told) (register.Seen y)) (own_write m q (cc (e)) is_write has) (newest (register.Seen x) told)
      | inr there' ↦ further (register.Seen x) told _ (k.writes m q there' is_write has)
    ];
    wrote = λ m v there. elim (first_or_behind (register.Seen x) told (register.Seen (WriteSight m v)) there) [
      | inl e ↦ is_wrote m v (cc (e))
      | inr there' ↦
          let before : IsToldWrite rules p i past m = k.wrote m v there' in
          record { request = before.request; called = further (Seen label) past _ before.called; is_write = before.is_write; has = before.has }
    ];
    reads = λ m v there. elim (first_or_behind (register.Seen x) told (register.Seen (ReadSight m v)) there) [
      | inl e ↦ is_read m v (cc (e))
      | inr there' ↦ reads m v (k.reads m v there')
    ];
    awaits = λ m all. All-cons (register.IsNoEnd m) (register.Seen x) told (no_end m (All-head (IsNoAnswer m) (Seen label) past all)) (k.awaits m (All-tail (IsNoAnswer m) (Seen label) past all));
    once = λ m all. All-cons (register.IsNoEffect m) (register.Seen x) told tt (k.once m (All-tail (IsNoEffect m) (Seen label) past all));
    effects = λ m s there seen. effects m s (behind (Seen label) past (Effect m s) (λ e. cc (e)) there) seen;
  }
    where
      reads : (m v : ℕ) → IsToldRead code rules p i past (label ∷ later) m v → IsToldRead code rules p i (Seen label ∷ past) later m v
      reads m v before = record {
        request = before.request;
        called = further (Seen label) past _ before.called;
        is_read = before.is_read;
        has = before.has;
        answer = λ awaits.
            let found : (bytes : List ℕ) × (success_of m (label ∷ later) ≡ Some bytes) × (v ≡ code (bytes_at rules i before.request bytes)) = before.answer (All-tail (IsNoAnswer m) (Seen label) past awaits) in
            (found.0, sym (same_later m (All-head (IsNoAnswer m) (Seen label) past awaits)) ∙ found.1, found.2);
      }

      effects : (m : ℕ) (s : List ℕ) → Contains past (Effect m s) → list_any (is_call_of m) (register.seen_of told ++ x ∷ []) ≡ true → Contains (register.Seen x ∷ told) (register.Effect m (code s))
      effects m s there seen = elim (or_true _ _ (sym (list_any-append (is_call_of m) (register.seen_of told) (x ∷ [])) ∙ seen)) [
        | inl before ↦ further (register.Seen x) told _ (k.effects m s there before)
        | inr now ↦ absurd (is_new m s (only_first (is_call_of m x) now) there)
      ]

  no_end_of : (n m : ℕ) (status : NtStatus) → n ≢ m → register.IsNoEnd m (register.Seen (end_of n status))
  no_end_of n m Success other = other
  no_end_of n m _ other = other

  end_may : (told : List register.Event) (n : ℕ) (status : NtStatus) → (status ≡ Success → (v : ℕ) × Contains told (register.Effect n v)) → register.May (code start) told (register.Seen (end_of n status))
  end_may told n Success took = took refl
  end_may told n _ took = tt

  no_call_of_end : (n m : ℕ) (status : NtStatus) → is_call_of m (end_of n status) ≡ false
  no_call_of_end n m Success = refl
  no_call_of_end n m _ = refl

  end_no_write : (n m v : ℕ) (status : NtStatus) → end_of n status ≡ WriteSight m v → ⊥
  end_no_write n m v Success e = cc (e)
  end_no_write n m v _ e = cc (e)

  end_no_read : (n m v : ℕ) (status : NtStatus) → end_of n status ≡ ReadSight m v → ⊥
  end_no_read n m v Success e = cc (e)
  end_no_read n m v _ e = cc (e)

  -- an answer of another number is passed over
  passed_over : (n m : ℕ) (status : NtStatus) (informed : ℕ) (bytes : List ℕ) (later : List Label) → n ≢ m → success_of m (Answer n status informed bytes ∷ later) ≡ success_of m later
  passed_over n m status informed bytes later other = by_number (n == m) refl
    where
      by_number : (b : Bool) → (n == m) ≡ b → (if b then success_bytes status bytes else success_of m later) ≡ success_of m later
      by_number true is = absurd (other (eqb-true n m is))
      by_number false is = refl

  -- what was told of a request whose number is among the calls
  seen_effect : (past : List Event) (told : List register.Event) (later : List Label) (next n : ℕ) (status : NtStatus) (bytes : List ℕ) → IsTidy next past → IsTold code rules p i start past told later
      → IsAnswer rules p i past n status bytes → list_any (is_call_of n) (register.seen_of told) ≡ true → status ≡ Success → (v : ℕ) × Contains told (register.Effect n v)
  seen_effect past told later next n status bytes t k h seen success =
      elim (seen_contains n told seen) [
        | inl (v, there) ↦ let w : IsToldWrite rules p i past n = k.wrote n v there in found w.request w.called w.has
        | inr (v, there) ↦ let r : IsToldRead code rules p i past later n v = k.reads n v there in found r.request r.called r.has
      ]
    where
      found : (q : ClientRequest) → Contains past (Seen (Call n q)) → has_sector rules p i q ≡ true → (v : ℕ) × Contains told (register.Effect n v)
      found q called has =
          let same : q ≡ h.request = t.one_call n q h.request called h.is_open.called in
          let at : IsAt rules p i h.request (i - first_sector rules h.request) = has_at rules p i h.request (subst (λ r. has_sector rules p i r ≡ true) same has) in
          let took : TookEffect rules past n h.request (i - first_sector rules h.request) bytes = h.effect success (i - first_sector rules h.request) at in
          (code took.sector, k.effects n took.sector took.before seen)

  -- what is told of the events behind these makes a schedule
  abbrev GoesOn : List Event → List Label → Type 0
  GoesOn past labels = (told : List register.Event) → IsTold code rules p i start past told labels → register.IsSchedule (code start) told
      → HasSchedule (code start) (sights_of code rules p i (register.seen_of told) labels)

  -- events that may follow, told as those of a register
  tells : (events past : List Event) (next : ℕ) → MayFollow rules p i start past events → IsTidy next past → AreFrom next (call_numbers (labels_of events)) → GoesOn past (labels_of events)
  tells [] past next h t from told k s = record { events = told; in_turn = s; seen = refl }
  tells (Effect n sector ∷ events) past next h t from told k s =
      by_kind (λ told' k' s'. tells events (Effect n sector ∷ past) next h.1 (tidy_effect rules p i start next past n sector t h.0) from told' k' s') h.0.request.kind refl h.0.moves
    where
      bytes_are : (bytes : List ℕ) → bytes_at rules i h.0.request bytes ≡ part_of rules bytes h.0.place
      bytes_are bytes = ap (λ v. part_of rules bytes v) (place_is rules p i h.0.request h.0.place h.0.there)

      go_on : GoesOn (Effect n sector ∷ past) (labels_of events) → register.IsCalledFor (code start) told n (code sector) → HasSchedule (code start) (sights_of code rules p i (register.seen_of told) (labels_of events))
      go_on rest called =
          rest (register.Effect n (code sector) ∷ told) (told_effect past told (labels_of events) n sector k) (record { called = called; awaits = k.awaits n h.0.is_open.awaits; once = k.once n h.0.once }, s)

      of_read : h.0.request.kind ≡ Read → sector ≡ value_after start past → (v : ℕ) → Contains told (register.Seen (ReadSight n v)) → register.IsCalledFor (code start) told n (code sector)
      of_read is met v there =
          let r : IsToldRead code rules p i past (labels_of events) n v = k.reads n v there in
          let same : r.request ≡ h.0.request = t.one_call n r.request h.0.request r.called h.0.is_open.called in
          let found : (bytes : List ℕ) × (success_of n (labels_of events) ≡ Some bytes) × (v ≡ code (bytes_at rules i r.request bytes)) = r.answer h.0.is_open.awaits in
          let over : part_of rules found.0 h.0.place ≡ sector =
          handed_over rules p i start events (Effect n sector ∷ past) next h.1 (tidy_effect rules p i start next past n sector t h.0) from n sector h.0.request h.0.place found.0
          (newest (Effect n sector) past) (further (Effect n sector) past _ h.0.is_open.called) is h.0.there found.1 in
          let value : v ≡ code sector = found.2 ∙ ap (λ q. code (bytes_at rules i q found.0)) same ∙ ap code (bytes_are found.0 ∙ over) in
          inr (inl (subst (λ w. Contains told (register.Seen (ReadSight n w))) value there), ap code met ∙ sym k.value)

      by_seen : GoesOn (Effect n sector ∷ past) (labels_of events) → h.0.request.kind ≡ Read → sector ≡ value_after start past → (b : Bool) → list_any (is_call_of n) (register.seen_of told) ≡ b
          → HasSchedule (code start) (sights_of code rules p i (register.seen_of told) (labels_of events))
      by_seen rest is met false unseen = rest told (untold_effect past told (labels_of events) n sector k met unseen) s
      by_seen rest is met true seen = elim (seen_contains n told seen) [
        | inl (v, there) ↦
            let w : IsToldWrite rules p i past n = k.wrote n v there in
            let same : w.request ≡ h.0.request = t.one_call n w.request h.0.request w.called h.0.is_open.called in
            let both : Read ≡ Write = sym is ∙ ap (λ q. q.kind) (sym same) ∙ w.is_write in
            absurd (cc (both))
        | inr (v, there) ↦ go_on rest (of_read is met v there)
      ]

      by_kind : GoesOn (Effect n sector ∷ past) (labels_of events) → (kind : Kind) → h.0.request.kind ≡ kind → Moves rules (value_after start past) h.0.request h.0.place kind sector
          → HasSchedule (code start) (sights_of code rules p i (register.seen_of told) (labels_of events))
      by_kind rest Read is met = by_seen rest is met (list_any (is_call_of n) (register.seen_of told)) refl
      by_kind rest Write is own =
          let value : bytes_at rules i h.0.request h.0.request.bytes ≡ sector = bytes_are h.0.request.bytes ∙ sym own in
          let there : Contains told (register.Seen (WriteSight n (code (bytes_at rules i h.0.request h.0.request.bytes)))) =
          k.writes n h.0.request h.0.is_open.called is (at_has rules p i h.0.request h.0.place h.0.there) in
          go_on rest (inl (inl (subst (λ b. Contains told (register.Seen (WriteSight n (code b)))) value there)))
      by_kind rest Flush is none = absurd none
  tells (Seen (Call n q) ∷ events) past next h t from told k s =
      by_sector (λ told' k' s'. tells events (Seen (Call n q) ∷ past) (next + 1) h.1 (tidy_call next past n q t from.0) from.1 told' k' s') (has_sector rules p i q) refl
    where
      new : (m : ℕ) (sector : List ℕ) → n ≡ m → Contains past (Effect m sector) → ⊥
      new m sector same there = let low : m < next = t.effects_below m sector there in let is : n ≡ next = from.0 in absurd (omega arith)

      untold : GoesOn (Seen (Call n q) ∷ past) (labels_of events) → (q.kind ≡ Write → has_sector rules p i q ≡ true → ⊥) → HasSchedule (code start) (sights_of code rules p i (register.seen_of told) (labels_of events))
      untold rest no_write =
          rest told
          (untold_label past told (Call n q) (labels_of events) (λ m r e is_write has. let same : q ≡ r = cc (e) in no_write (ap (λ x. x.kind) same ∙ is_write) (subst (λ x. has_sector rules p i x ≡ true) (sym same) has)) (λ m other. refl) k) s

      told_write : GoesOn (Seen (Call n q) ∷ past) (labels_of events) → q.kind ≡ Write → has_sector rules p i q ≡ true
          → HasSchedule (code start) (sights_of code rules p i (register.seen_of told ++ WriteSight n (code (bytes_at rules i q q.bytes)) ∷ []) (labels_of events))
      told_write rest is has =
          rest (register.Seen (WriteSight n (code (bytes_at rules i q q.bytes))) ∷ told)
          (told_label past told (Call n q) (labels_of events) (WriteSight n (code (bytes_at rules i q q.bytes)))
          (λ m r e is_write has'. let number : n ≡ m = cc (e) in let same : q ≡ r = cc (e) in ap (λ x. WriteSight n (code (bytes_at rules i x x.bytes))) same ∙ ap (λ x. WriteSight x (code (bytes_at rules i r r.bytes))) number)
          (λ m v e. let number : n ≡ m = cc (e) in record { request = q; called = subst (λ x. Contains (Seen (Call n q) ∷ past) (Seen (Call x q))) number (newest (Seen (Call n q)) past); is_write = is; has = has })
          (λ m v e. absurd (cc (e))) (λ m other. refl) (λ m other. tt) (λ m sector e there. new m sector (eqb-true n m e) there) k)
          (tt, s)

      told_read : GoesOn (Seen (Call n q) ∷ past) (labels_of events) → q.kind ≡ Read → has_sector rules p i q ≡ true → (bytes : List ℕ) → success_of n (labels_of events) ≡ Some bytes
          → HasSchedule (code start) (sights_of code rules p i (register.seen_of told ++ ReadSight n (code (bytes_at rules i q bytes)) ∷ []) (labels_of events))
      told_read rest is has bytes success =
          rest (register.Seen (ReadSight n (code (bytes_at rules i q bytes))) ∷ told)
          (told_label past told (Call n q) (labels_of events) (ReadSight n (code (bytes_at rules i q bytes)))
          (λ m r e is_write has'. let same : q ≡ r = cc (e) in let both : Read ≡ Write = sym is ∙ ap (λ x. x.kind) same ∙ is_write in absurd (cc (both)))
          (λ m v e. absurd (cc (e)))
          (λ m v e. let number : n ≡ m = cc (e) in let value : code (bytes_at rules i q bytes) ≡ v = cc (e) in record {
            request = q;
            called = subst (λ x. Contains (Seen (Call n q) ∷ past) (Seen (Call x q))) number (newest (Seen (Call n q)) past);
            is_read = is;
            has = has;
            answer = λ awaits. (bytes, subst (λ x. success_of x (labels_of events) ≡ Some bytes) number success, sym value);
          })
          (λ m other. refl) (λ m other. tt) (λ m sector e there. new m sector (eqb-true n m e) there) k)
          (tt, s)

      by_success : GoesOn (Seen (Call n q) ∷ past) (labels_of events) → q.kind ≡ Read → has_sector rules p i q ≡ true → (answer : Option (List ℕ)) → success_of n (labels_of events) ≡ answer
          → HasSchedule (code start) (sights_of code rules p i (with_sight (register.seen_of told) (read_sight n (value_of code rules i q answer))) (labels_of events))
      by_success rest is has None e = untold rest (λ is_write has'. let both : Read ≡ Write = sym is ∙ is_write in cc (both))
      by_success rest is has (Some bytes) e = told_read rest is has bytes e

      by_kind : GoesOn (Seen (Call n q) ∷ past) (labels_of events) → has_sector rules p i q ≡ true → (kind : Kind) → q.kind ≡ kind
          → HasSchedule (code start) (sights_of code rules p i (with_sight (register.seen_of told) (call_sight code rules i n q kind (labels_of events))) (labels_of events))
      by_kind rest has Write is = told_write rest is has
      by_kind rest has Read is = by_success rest is has (success_of n (labels_of events)) refl
      by_kind rest has Flush is = untold rest (λ is_write has'. let both : Flush ≡ Write = sym is ∙ is_write in cc (both))

      by_sector : GoesOn (Seen (Call n q) ∷ past) (labels_of events) → (b : Bool) → has_sector rules p i q ≡ b
          → HasSchedule (code start) (sights_of code rules p i (with_sight (register.seen_of told) (if b then call_sight code rules i n q q.kind (labels_of events) else None)) (labels_of events))
      by_sector rest true has = by_kind rest has q.kind refl
      by_sector rest false has = untold rest (λ is_write has'. cc (has, has'))
  tells (Seen (Answer n status informed bytes) ∷ events) past next h t from told k s =
      by_seen (λ told' k' s'. tells events (Seen (Answer n status informed bytes) ∷ past) next h.1 (tidy_label next past (Answer n status informed bytes) t (λ v r f. cc (f))) from told' k' s')
      (list_any (is_call_of n) (register.seen_of told)) refl
    where
      by_seen : GoesOn (Seen (Answer n status informed bytes) ∷ past) (labels_of events) → (b : Bool) → list_any (is_call_of n) (register.seen_of told) ≡ b
          → HasSchedule (code start) (sights_of code rules p i (with_sight (register.seen_of told) (if b then Some (end_of n status) else None)) (labels_of events))
      by_seen rest false unseen =
          rest told (untold_label past told (Answer n status informed bytes) (labels_of events) (λ m r e is_write has. cc (e)) (λ m other. passed_over n m status informed bytes (labels_of events) other) k) s
      by_seen rest true seen =
          rest (register.Seen (end_of n status) ∷ told)
          (told_label past told (Answer n status informed bytes) (labels_of events) (end_of n status) (λ m r e is_write has. absurd (cc (e))) (λ m v e. absurd (end_no_write n m v status e))
          (λ m v e. absurd (end_no_read n m v status e)) (λ m other. passed_over n m status informed bytes (labels_of events) other) (λ m other. no_end_of n m status other)
          (λ m sector e there. let none : is_call_of m (end_of n status) ≡ false = no_call_of_end n m status in cc (e, none)) k)
          (end_may told n status (seen_effect past told (Answer n status informed bytes ∷ labels_of events) next n status bytes t k h.0 seen), s)
  tells (Seen (Device label) ∷ events) past next h t from told k s =
      tells events (Seen (Device label) ∷ past) next h.1 (tidy_label next past (Device label) t (λ v r f. cc (f))) from told
      (untold_label past told (Device label) (labels_of events) (λ m r e is_write has. cc (e)) (λ m other. refl) k) s
  tells (Seen (Cancel n) ∷ events) past next h t from told k s =
      tells events (Seen (Cancel n) ∷ past) next h.1 (tidy_label next past (Cancel n) t (λ v r f. cc (f))) from told
      (untold_label past told (Cancel n) (labels_of events) (λ m r e is_write has. cc (e)) (λ m other. refl) k) s
  tells (Seen Pause ∷ events) past next h t from told k s =
      tells events (Seen Pause ∷ past) next h.1 (tidy_label next past Pause t (λ v r f. cc (f))) from told (untold_label past told Pause (labels_of events) (λ m r e is_write has. cc (e)) (λ m other. refl) k) s
  tells (Seen Resume ∷ events) past next h t from told k s =
      tells events (Seen Resume ∷ past) next h.1 (tidy_label next past Resume t (λ v r f. cc (f))) from told (untold_label past told Resume (labels_of events) (λ m r e is_write has. cc (e)) (λ m other. refl) k) s
  tells (Seen Remove ∷ events) past next h t from told k s =
      tells events (Seen Remove ∷ past) next h.1 (tidy_label next past Remove t (λ v r f. cc (f))) from told (untold_label past told Remove (labels_of events) (λ m r e is_write has. cc (e)) (λ m other. refl) k) s
  tells (Seen Surprise ∷ events) past next h t from told k s =
      tells events (Seen Surprise ∷ past) next h.1 (tidy_label next past Surprise t (λ v r f. cc (f))) from told (untold_label past told Surprise (labels_of events) (λ m r e is_write has. cc (e)) (λ m other. refl) k) s
  tells (Seen Removed ∷ events) past next h t from told k s =
      tells events (Seen Removed ∷ past) next h.1 (tidy_label next past Removed t (λ v r f. cc (f))) from told (untold_label past told Removed (labels_of events) (λ m r e is_write has. cc (e)) (λ m other. refl) k) s

nothing_yet : IsTidy 1 []
nothing_yet = record {
  calls_below = λ n q there. let low = there.1 in absurd (omega arith);
  effects_below = λ n sector there. let low = there.1 in absurd (omega arith);
  one_call = λ n q r a b. let low = a.1 in absurd (omega arith);
  one_effect = λ n x y a b. let low = a.1 in absurd (omega arith);
}

pub sights_scheduled : SightsAreScheduled
sights_scheduled code rules p i start history from h =
    subst (λ labels. HasSchedule (code start) (sights_of code rules p i [] labels)) h.seen
    (tells code rules p i start h.events [] 1 h.in_turn nothing_yet (subst (λ labels. AreFrom 1 (call_numbers labels)) (sym h.seen) from) [] (nothing_told h.events) tt)
  where
    nothing_told : (events : List Event) → IsTold code rules p i start [] [] (labels_of events)
    nothing_told events = record {
      value = refl;
      writes = λ n q there is_write has. let low = there.1 in absurd (omega arith);
      wrote = λ n v there. let low = there.1 in absurd (omega arith);
      reads = λ n v there. let low = there.1 in absurd (omega arith);
      awaits = λ n all. All-nil (register.IsNoEnd n);
      once = λ n all. All-nil (register.IsNoEffect n);
      effects = λ n sector there seen. let low = there.1 in absurd (omega arith);
    }

pub refused_unexplained : RefusedAreUnexplained
refused_unexplained code rules arrays history p i start whole there none h =
    none (sights_scheduled code rules p i start history (explained_numbered rules arrays history h) (explained_scheduled rules arrays history whole h p i start there))
