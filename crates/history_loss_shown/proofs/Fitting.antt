-- What is known of a session so far by its labels, which fit behind each other.
use Rattle.std.proofs.Common.{◌≡◌, ◌≢◌, ◌<◌, ◌≤◌, ◌⊎◌, inl, inr, ℕ, zero, suc, ◌+◌, ◌-◌, ◌==◌, ◌&&◌, Bool, true, false, cond, List, [], ◌∷◌, ◌++◌, Option, Some, None, refl, sym, ◌∙◌, ap, subst, arith, length, length-append, set, nat_le}
use Rattle.std.specs.Prelude.{All, is_none, slice_get, if◌then◌else◌}
use Rattle.std.proofs.lemmas.Bool.{and_parts, eqb-true}
use Rattle.std.proofs.lemmas.Bool.Decides.{leb_tells}
use Rattle.std.proofs.lemmas.List.{length-set}
use Rattle.std.proofs.lemmas.List.Elements.{All-nil, All-cons, All-contains, All-weaker}
use Rattle.ntstatus.specs.declared.NtStatus.{NtStatus}
use Rattle.machine.specs.declared.ClientRequest.{ClientRequest}
use Rattle.machine.specs.declared.Label.TheVariants.{Call, Answer}
use Rattle.machine.specs.Rules.{Rules}
use Rattle.history_laws.specs.declared.Asked.{Asked}
use Rattle.history_laws.specs.Fitting.{carried, ends_by, ends_open, entry_of, fits, refused, without}
use Rattle.history_runs.proofs.Seeing.{asked_more}
use Rattle.loss.specs.Sessions.{Told}
use Rattle.history_loss.specs.Schedules.{Event, Seen, IsNoAnswer, IsOpen, above, next_number}
use Rattle.history_loss.proofs.Mirroring.{IsBelow, below_more, below_no_answer, newest, open_more}
use Rattle.history_loss_sights.proofs.Standing.{Called, IsNoCall, behind, first_or_behind}

above_at : (n m : ℕ) → n ≡ m → above n m ≡ m + 1
above_at n m is = by_order (leb_tells m n)
  where
    by_order : ((nat_le m n ≡ true) × (m ≤ n)) ⊎ ((nat_le m n ≡ false) × (n < m)) → above n m ≡ m + 1
    by_order (inl low) = ap (λ (b : Bool). cond b (n + 1) m) low.0 ∙ ap (λ k. k + 1) is
    by_order (inr high) = absurd (omega (arith, high.1, is))

pub fit_parts : (b rest : Bool) → (if b then rest else false) ≡ true → (b ≡ true) × (rest ≡ true)
fit_parts true rest e = (refl, e)
fit_parts false rest e = absurd (cc (e))

-- each number so far was given, to one call, and what awaits its answer is open
pub record Known (past : List Event) (asked : List (Option Asked)) (owed : Option NtStatus) : Type 0 where
  pub given : All (IsBelow (length asked)) past
  pub next : next_number past ≡ length asked
  pub one : (n : ℕ) (q r : ClientRequest) → Called past n q → Called past n r → q ≡ r
  pub waiting : (n : ℕ) (a : Asked) → slice_get asked n ≡ Some (Some a) → (q : ClientRequest) × IsOpen past n q
  pub owing : (status : NtStatus) → owed ≡ Some status → (q : ClientRequest) × IsOpen past (length asked - 1) q × (slice_get asked (length asked - 1) ≡ Some None)

pub known_more : (past : List Event) (asked : List (Option Asked)) (owed : Option NtStatus) (event : Event) → IsBelow (length asked) event → ((n : ℕ) → IsNoAnswer n event) → IsNoCall event
    → next_number (event ∷ past) ≡ next_number past → Known past asked owed → Known (event ∷ past) asked owed
known_more past asked owed event below other no_call next k = record {
  given = All-cons (IsBelow (length asked)) event past below k.given;
  next = next ∙ k.next;
  one = λ n q r a b. k.one n q r (behind event past (Seen (Told (Call n q))) (no_call n q) a) (behind event past (Seen (Told (Call n r))) (no_call n r) b);
  waiting = λ n a h. let old : (q : ClientRequest) × IsOpen past n q = k.waiting n a h in (old.0, open_more event past n old.0 (other n) old.1);
  owing = λ status e.
      let old : (q : ClientRequest) × IsOpen past (length asked - 1) q × (slice_get asked (length asked - 1) ≡ Some None) = k.owing status e in
      (old.0, open_more event past (length asked - 1) old.0 (other (length asked - 1)) old.1, old.2);
}

pub nothing_known : Known [] (None ∷ []) None
nothing_known = record {
  given = All-nil (IsBelow 1);
  next = refl;
  one = λ n q r a b. let low = a.1 in absurd (omega arith);
  waiting = λ n a e. absurd (none n a e);
  owing = λ status e. absurd (cc (e));
}
  where
    none : (n : ℕ) (a : Asked) → slice_get (None ∷ []) n ≡ Some (Some a) → ⊥
    none zero a e = cc (e)
    none (suc n) a e = cc (e)

set_none : (asked : List (Option Asked)) (n m : ℕ) (a : Asked) → slice_get (set asked n None) m ≡ Some (Some a) → (m ≢ n) × (slice_get asked m ≡ Some (Some a))
set_none [] n m a e = absurd (cc (e))
set_none (y ∷ asked) zero zero a e = absurd (cc (e))
set_none (y ∷ asked) zero (suc m) a e = (λ same. absurd (omega arith), e)
set_none (y ∷ asked) (suc n) zero a e = (λ same. absurd (omega arith), e)
set_none (y ∷ asked) (suc n) (suc m) a e = let rest : (m ≢ n) × (slice_get asked m ≡ Some (Some a)) = set_none asked n m a e in (λ same. let same' : m ≡ n = omega arith in rest.0 same', rest.1)

last_entry : (asked : List (Option Asked)) (x : Option Asked) → slice_get (asked ++ x ∷ []) (length asked) ≡ Some x
last_entry [] x = refl
last_entry (y ∷ asked) x = last_entry asked x

is_waiting : (found : Option (Option Asked)) (status : NtStatus) (informed count : ℕ) → ends_open found status informed count ≡ true → (a : Asked) × (found ≡ Some (Some a))
is_waiting (Some (Some a)) status informed count e = (a, refl)
is_waiting (Some None) status informed count e = absurd (cc (e))
is_waiting None status informed count e = absurd (cc (e))

-- A CALL

pub call_number : (rules : Rules) (asked : List (Option Asked)) (owed : Option NtStatus) (n : ℕ) (q : ClientRequest) → fits rules asked owed (Call n q) ≡ true → n ≡ length asked
call_number rules asked owed n q fit =
    let tests : _ × _ = and_parts (is_none owed) ((n == length asked) && (length q.bytes == carried (refused rules q) q)) fit in
    eqb-true n (length asked) (and_parts (n == length asked) (length q.bytes == carried (refused rules q) q) tests.1).0

module _ (rules : Rules) (n : ℕ) (q : ClientRequest) (past : List Event) (asked : List (Option Asked)) (owed : Option NtStatus) (number : n ≡ length asked) (k : Known past asked owed) where
  abbrev call : Event
  call = Seen (Told (Call n q))

  pub call_awaits : All (IsNoAnswer n) (call ∷ past)
  call_awaits = All-cons (IsNoAnswer n) call past tt (All-weaker (IsBelow n) (IsNoAnswer n) (below_no_answer n) past (subst (λ m. All (IsBelow m) past) (sym number) k.given))

  call_open : IsOpen (call ∷ past) n q
  call_open = record { called = newest call past; awaits = call_awaits }

  call_length : (entry : Option Asked) → length (asked ++ entry ∷ []) ≡ length asked + 1
  call_length entry = length-append asked (entry ∷ [])

  pub not_before : (m : ℕ) (r : ClientRequest) → m ≡ n → Called past m r → ⊥
  not_before m r same there =
      let low : m < length asked = All-contains (IsBelow (length asked)) past (Seen (Told (Call m r))) k.given there in
      absurd (omega (arith, low, same, number))

  pub this_or : (m : ℕ) (r : ClientRequest) → Called (call ∷ past) m r → ((m ≡ n) × (r ≡ q)) ⊎ Called past m r
  this_or m r there = elim (first_or_behind call past (Seen (Told (Call m r))) there) [ inl e ↦ inl (cc (e), cc (e)) | inr before ↦ inr before ]

  pub call_known : Known (call ∷ past) (asked ++ entry_of (refused rules q) q ∷ []) (refused rules q)
  call_known = record {
    given = let e : length (asked ++ entry_of (refused rules q) q ∷ []) ≡ length asked + 1 = call_length (entry_of (refused rules q) q) in
        All-cons (IsBelow (length (asked ++ entry_of (refused rules q) q ∷ []))) call past (omega (arith, e, number))
        (All-weaker (IsBelow (length asked)) (IsBelow (length (asked ++ entry_of (refused rules q) q ∷ []))) (below_more (length asked) (length (asked ++ entry_of (refused rules q) q ∷ [])) (omega (arith, e))) past k.given);
    next = above_at n (next_number past) (number ∙ sym k.next) ∙ ap (λ m. m + 1) k.next ∙ sym (call_length (entry_of (refused rules q) q));
    one = λ m r s a b. elim (this_or m r a) [
      | inl this ↦ elim (this_or m s b) [ inl that ↦ this.1 ∙ sym that.1 | inr before ↦ absurd (not_before m s this.0 before) ]
      | inr before ↦ elim (this_or m s b) [ inl that ↦ absurd (not_before m r that.0 before) | inr before' ↦ k.one m r s before before' ]
    ];
    waiting = λ m a has. elim (asked_more asked (entry_of (refused rules q) q) m a has) [
      | inl old ↦ let w : (p : ClientRequest) × IsOpen past m p = k.waiting m a old in (w.0, open_more call past m w.0 tt w.1)
      | inr (last, is) ↦ (q, subst (λ v. IsOpen (call ∷ past) v q) (number ∙ sym last) call_open)
    ];
    owing = λ status e.
        let long : length (asked ++ entry_of (refused rules q) q ∷ []) ≡ length asked + 1 = call_length (entry_of (refused rules q) q) in
        let last : length (asked ++ entry_of (refused rules q) q ∷ []) - 1 ≡ length asked = omega (arith, long) in (
          q,
          subst (λ v. IsOpen (call ∷ past) v q) (number ∙ sym last) call_open,
          ap (λ v. slice_get (asked ++ entry_of (refused rules q) q ∷ []) v) last ∙ last_entry asked (entry_of (refused rules q) q) ∙ ap Some (ap (λ answer. entry_of answer q) e),
        );
  }

-- AN ANSWER

module _ (n : ℕ) (status : NtStatus) (informed : ℕ) (bytes : List ℕ) (past : List Event) (asked : List (Option Asked)) (owed : Option NtStatus) (fit : ends_by asked owed n status informed (length bytes) ≡ true) (k : Known past asked owed) where
  abbrev answer : Event
  answer = Seen (Told (Answer n status informed bytes))

  pub answers_open : (q : ClientRequest) × IsOpen past n q
  answers_open = by_owed owed fit k
    where
      by_owed : (owed : Option NtStatus) → ends_by asked owed n status informed (length bytes) ≡ true → Known past asked owed → (q : ClientRequest) × IsOpen past n q
      by_owed None f k' = let w : (a : Asked) × (slice_get asked n ≡ Some (Some a)) = is_waiting (slice_get asked n) status informed (length bytes) f in k'.waiting n w.0 w.1
      by_owed (Some due) f k' =
          let last : n ≡ length asked - 1 = eqb-true n (length asked - 1) (and_parts (n == length asked - 1) _ f).0 in
          let w : (q : ClientRequest) × IsOpen past (length asked - 1) q × (slice_get asked (length asked - 1) ≡ Some None) = k'.owing due refl in
          (w.0, subst (λ v. IsOpen past v w.0) (sym last) w.1)

  answer_below : n < length asked
  answer_below = All-contains (IsBelow (length asked)) past (Seen (Told (Call n answers_open.0))) k.given answers_open.1.called

  one_on : (m : ℕ) (q r : ClientRequest) → Called (answer ∷ past) m q → Called (answer ∷ past) m r → q ≡ r
  one_on m q r a b = k.one m q r (behind answer past (Seen (Told (Call m q))) (λ e. cc (e)) a) (behind answer past (Seen (Told (Call m r))) (λ e. cc (e)) b)

  pub answer_known : Known (answer ∷ past) (without asked owed n) None
  answer_known = by_owed owed fit k
    where
      by_owed : (owed : Option NtStatus) → ends_by asked owed n status informed (length bytes) ≡ true → Known past asked owed → Known (answer ∷ past) (without asked owed n) None
      by_owed None f k' = record {
        given = let e : length (set asked n None) ≡ length asked = length-set asked n None in rw e (All-cons (IsBelow (length asked)) answer past answer_below k'.given);
        next = k'.next ∙ sym (length-set asked n None);
        one = one_on;
        waiting = λ m a has. let kept : (m ≢ n) × (slice_get asked m ≡ Some (Some a)) = set_none asked n m a has in
            let w : (q : ClientRequest) × IsOpen past m q = k'.waiting m a kept.1 in
            (w.0, open_more answer past m w.0 (λ e. kept.0 (sym e)) w.1);
        owing = λ due e. absurd (cc (e));
      }
      by_owed (Some due) f k' = record {
        given = All-cons (IsBelow (length asked)) answer past answer_below k'.given;
        next = k'.next;
        one = one_on;
        waiting = λ m a has. let w : (q : ClientRequest) × IsOpen past m q = k'.waiting m a has in
            (w.0, open_more answer past m w.0 (λ e. other m a has e) w.1);
        owing = λ due' e. absurd (cc (e));
      }
        where
          other : (m : ℕ) (a : Asked) → slice_get asked m ≡ Some (Some a) → n ≡ m → ⊥
          other m a has e =
              let last : n ≡ length asked - 1 = eqb-true n (length asked - 1) (and_parts (n == length asked - 1) _ f).0 in
              let none : slice_get asked m ≡ Some None = ap (λ v. slice_get asked v) (sym e ∙ last) ∙ (k'.owing due refl).2 in
              absurd (cc (has, none))
