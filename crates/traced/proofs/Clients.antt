-- Handles opened one after another.
use Rattle.traced.proofs.Common.{◌≡◌, ◌≢◌, ℕ, zero, suc, cond, ap₂, ◌+◌, ◌<◌, ◌≤◌, List, [], ◌∷◌, ◌++◌, length, Option, Some, None, option_map, slice_index_or, refl, sym, ap, ◌∙◌, subst, arith, length-append, IsFalse, IsTrue, slice_get, Contains, count_by, is_some, nat_le, sum_by-cons, leb-false, none_first, slice_get_within, Rules, State, labels_left, awaited, OpenHandle, are_used_up, handle_limit, open_refusal, Updates, unless_answered, ManagerView, Holder, IsNew, IsFirst, IsOpenOn, AreOpened, KeepsAll, OpensOne}
use mathlib.Core.Logic.{dite}
use native.Mathlib.Decide.{ℕ_discrete}
use Rattle.io_manager.specs.declared.Answer.{Answer}
use Rattle.io_manager.specs.declared.Handle.{Handle}
use Rattle.ntstatus.specs.declared.NtStatus.TheVariants.{InvalidParameter as ParameterStatus, DeletePending as PendingStatus, DeviceBusy as BusyStatus}
use Rattle.traced.proofs.Noting.{get_front, get_last, some_is}

-- ONE HANDLE

same_number : (holder : Option Holder) → option_map (λ h. h.number) (unless_answered [] holder) ≡ option_map (λ h. h.number) holder
same_number None = refl
same_number (Some h) = refl

-- what is given a handle has fewer of them than may be
few_open : (old : ManagerView) (partition : ℕ) → open_refusal old partition ≡ None → count_by is_some old.handles < handle_limit
few_open old partition none =
    let numbers = none_first (are_used_up old.next_handle) BusyStatus _ none in
    let going = none_first old.state.removing PendingStatus _ numbers.1 in
    let there = none_first (nat_le (length old.rules.partitions) partition) ParameterStatus _ going.1 in
    leb-false handle_limit (count_by is_some old.handles) (none_first (nat_le handle_limit (count_by is_some old.handles)) BusyStatus _ there.1).0

-- ALL OF THEM

no_member : (answer : Answer) → Contains [] answer → ⊥
no_member answer is = absurd (let low = is.1 in omega arith)

pub first_of_new : (v : ManagerView) → IsNew v → IsFirst v
first_of_new v new = record {
  on_grid = new.on_grid;
  keeps_bytes = new.keeps_bytes;
  no_labels = new.no_labels;
  first = ap (λ s. s.next_request) new.state;
  none_wait = ap awaited new.state;
  none_open = λ k. ap (λ hs. option_map (λ h. h.number) (slice_index_or hs k None)) new.no_requests;
  no_answers = λ answer is. no_member answer (subst (λ (as' : List Answer). Contains as' answer) new.no_answers is);
  few_left = subst (λ (s : State). labels_left v.rules s ≤ 2) (sym new.state) (omega arith);
}

first_keeps : (old new : ManagerView) → IsFirst old → KeepsAll old new → IsFirst new
first_keeps old new first keeps = record {
  on_grid = subst (λ (r : Rules). IsFalse r.any_cut) (sym keeps.same_rules) first.on_grid;
  keeps_bytes = subst (λ (r : Rules). IsTrue r.keeps_bytes) (sym keeps.same_rules) first.keeps_bytes;
  no_labels = keeps.no_labels;
  first = ap (λ s. s.next_request) keeps.same_state ∙ first.first;
  none_wait = ap awaited keeps.same_state ∙ first.none_wait;
  none_open = λ k. keeps.same_open k ∙ first.none_open k;
  no_answers = λ answer is. first.no_answers answer (keeps.same_answers answer is);
  few_left = subst (λ (s : State). labels_left new.rules s ≤ 2) (sym keeps.same_state) (subst (λ (r : Rules). labels_left r old.state ≤ 2) (sym keeps.same_rules) first.few_left);
}

-- the same in the tails of two lists
next : {X : Type 0} (old new : List (Option X)) (slot : ℕ) (x : X) → ((other : ℕ) → suc other ≢ suc slot → slice_index_or new other None ≡ slice_index_or old other None)
    → slice_index_or new slot None ≡ Some x → Updates old new slot (Some x)
next old new slot x others there = record { there = there; others = λ other apart. others other (λ e. apart (cc (e))) }

count_cons : {X : Type 0} (x : Option X) (xs : List (Option X)) → count_by is_some (x ∷ xs) ≡ cond (is_some x) 1 0 + count_by is_some xs
count_cons x xs = sum_by-cons (λ o. cond (is_some o) 1 0) x xs

same_count : {X : Type 0} (old new : List (Option X)) → ((k : ℕ) → slice_index_or new k None ≡ slice_index_or old k None) → count_by is_some new ≡ count_by is_some old
same_count [] [] same = refl
same_count [] (x ∷ new) same =
    count_cons x new ∙ ap₂ (λ z n. cond (is_some z) 1 0 + n) (same 0) (same_count [] new (λ k. same (suc k)))
same_count (x ∷ old) [] same =
    let whole : count_by is_some (x ∷ old) ≡ count_by is_some old = count_cons x old ∙ ap (λ z. cond (is_some z) 1 0 + count_by is_some old) (sym (same 0)) ∙ omega arith in
    same_count old [] (λ k. same (suc k)) ∙ sym whole
same_count (x ∷ old) (y ∷ new) same =
    count_cons y new ∙ ap₂ (λ z n. cond (is_some z) 1 0 + n) (same 0) (same_count old new (λ k. same (suc k))) ∙ sym (count_cons x old)

-- a slot that was free is taken: one more is
one_more : {X : Type 0} (old new : List (Option X)) (slot : ℕ) (x : X) → slice_index_or old slot None ≡ None → Updates old new slot (Some x)
    → count_by is_some new ≡ count_by is_some old + 1
one_more old [] slot x free u = absurd (let e : None ≡ Some x = u.there in cc (e))
one_more [] (y ∷ new) zero x free u =
    count_cons y new ∙ ap₂ (λ z n. cond (is_some z) 1 0 + n) u.there (same_count [] new (λ k. u.others (suc k) (λ e. absurd (cc (e)))))
one_more [] (y ∷ new) (suc slot) x free u =
    count_cons y new ∙ ap₂ (λ z n. cond (is_some z) 1 0 + n) (u.others 0 (λ e. absurd (cc (e)))) (one_more [] new slot x refl (next [] new slot x (λ k. u.others (suc k)) u.there))
one_more (o ∷ old) (y ∷ new) zero x free u =
    let first : count_by is_some (y ∷ new) ≡ 1 + count_by is_some old =
    count_cons y new ∙ ap₂ (λ z n. cond (is_some z) 1 0 + n) u.there (same_count old new (λ k. u.others (suc k) (λ e. absurd (cc (e))))) in
    let was : count_by is_some (o ∷ old) ≡ count_by is_some old = count_cons o old ∙ ap (λ z. cond (is_some z) 1 0 + count_by is_some old) free ∙ omega arith in
    omega arith
one_more (o ∷ old) (y ∷ new) (suc slot) x free u =
    let first : count_by is_some (y ∷ new) ≡ cond (is_some o) 1 0 + (count_by is_some old + 1) =
    count_cons y new ∙ ap₂ (λ z n. cond (is_some z) 1 0 + n) (u.others 0 (λ e. absurd (cc (e)))) (one_more old new slot x free (next old new slot x (λ k. u.others (suc k)) u.there)) in
    let was : count_by is_some (o ∷ old) ≡ cond (is_some o) 1 0 + count_by is_some old = count_cons o old in
    omega arith

-- this many handles were opened
pub record WereOpened (partitions : List ℕ) (count : ℕ) (handles : List Handle) (old now : ManagerView) : Type 0 where
  pub same_rules : now.rules ≡ old.rules
  pub same_state : now.state ≡ old.state
  pub first : IsFirst now
  pub counted : length handles ≡ count
  pub next : now.next_handle ≡ count + 1
  pub are_open : count_by is_some now.handles ≡ count
  pub few : count ≤ handle_limit
  pub number : (c : ℕ) (handle : Handle) → slice_get handles c ≡ Some handle → handle.number ≡ c + 1
  pub opened : (c : ℕ) (handle : Handle) (partition : ℕ) → slice_get handles c ≡ Some handle → slice_get partitions c ≡ Some partition → IsOpenOn now.handles handle partition
  pub others : (slot : ℕ) (handle : OpenHandle) → slice_index_or now.handles slot None ≡ Some handle → (c : ℕ) × (handle.number ≡ c + 1) × (c < count)

pub none_opened : (partitions : List ℕ) (old : ManagerView) → IsNew old → WereOpened partitions 0 [] old old
none_opened partitions old new = record {
  same_rules = refl;
  same_state = refl;
  first = first_of_new old new;
  counted = refl;
  next = new.first_handle;
  are_open = ap (count_by is_some) new.no_handles;
  few = omega arith;
  number = λ c handle is. absurd (cc (is));
  opened = λ c handle partition is at. absurd (cc (is));
  others = λ slot handle is. absurd (none (sym (ap (λ hs. slice_index_or hs slot None) new.no_handles) ∙ is));
}
  where
    none : {X : Type 0} {x : X} → None ≡ Some x → ⊥
    none e = absurd (cc (e))

in_front : (handles : List Handle) (handle other : Handle) (c : ℕ) → slice_get (handles ++ handle ∷ []) c ≡ Some other → c ≢ length handles → slice_get handles c ≡ Some other
in_front handles handle other c is apart =
    let within = slice_get_within (handles ++ handle ∷ []) c other is in
    let less : c < length handles = omega (arith, within, length-append handles (handle ∷ [])) in
    sym (get_front handles (handle ∷ []) c less) ∙ is

last_is : (handles : List Handle) (handle other : Handle) (c : ℕ) → slice_get (handles ++ handle ∷ []) c ≡ Some other → c ≡ length handles → handle ≡ other
last_is handles handle other c is here = some_is (sym (get_last handles handle) ∙ ap (slice_get (handles ++ handle ∷ [])) (sym here) ∙ is)

pub opened_next : (partitions : List ℕ) (count : ℕ) (handles : List Handle) (old mid : ManagerView) (partition : ℕ) (handle : Handle) (new : ManagerView)
    → WereOpened partitions count handles old mid → slice_get partitions count ≡ Some partition → OpensOne mid partition handle new
    → WereOpened partitions (count + 1) (handles ++ handle ∷ []) old new
opened_next partitions count handles old mid partition handle new were at one = record {
  same_rules = one.keeps.same_rules ∙ were.same_rules;
  same_state = one.keeps.same_state ∙ were.same_state;
  first = first_keeps mid new were.first one.keeps;
  counted = length-append handles (handle ∷ []) ∙ ap (λ n. n + 1) were.counted;
  next = one.counted ∙ ap (λ n. n + 1) were.next;
  are_open = one_more mid.handles new.handles handle.slot (record { number = handle.number; partition = partition }) one.was_free one.opens ∙ ap (λ n. n + 1) were.are_open;
  few = let few = one.few in let open' = were.are_open in omega arith;
  number = λ c other is. dite
      (ℕ_discrete c (length handles))
      (λ (here : c ≡ length handles). ap (λ (h : Handle). h.number) (sym (last_is handles handle other c is here)) ∙ one.number ∙ were.next ∙ ap (λ n. n + 1) (sym were.counted ∙ sym here))
      (λ (apart : c ≢ length handles). were.number c other (in_front handles handle other c is apart));
  opened = λ c other p is on. dite
      (ℕ_discrete c (length handles))
      (λ (here : c ≡ length handles).
      let same : partition ≡ p = some_is (sym at ∙ ap (slice_get partitions) (sym were.counted ∙ sym here) ∙ on) in
      subst (λ (q : ℕ). IsOpenOn new.handles other q) same (subst (λ (h : Handle). IsOpenOn new.handles h partition) (last_is handles handle other c is here) one.opens.there))
      (λ (apart : c ≢ length handles).
      let was : IsOpenOn mid.handles other p = were.opened c other p (in_front handles handle other c is apart) on in
      one.opens.others other.slot (λ e. taken (sym (ap (λ s. slice_index_or mid.handles s None) e ∙ one.was_free) ∙ was)) ∙ was);
  others = λ slot open' is. dite
      (ℕ_discrete slot handle.slot)
      (λ (here : slot ≡ handle.slot).
      let same : record { number = handle.number; partition = partition } ≡ open' = some_is (sym one.opens.there ∙ ap (λ s. slice_index_or new.handles s None) (sym here) ∙ is) in
      (count, ap (λ (h : OpenHandle). h.number) (sym same) ∙ one.number ∙ were.next, (omega arith)))
      (λ (apart : slot ≢ handle.slot).
      let before = were.others slot open' (sym (one.opens.others slot apart) ∙ is) in
      (before.0, before.1, (let less = before.2 in omega arith)));
}
  where
    taken : {X : Type 0} {x : X} → None ≡ Some x → ⊥
    taken e = absurd (cc (e))

at_client : (handles : List Handle) (c : ℕ) → c < length handles → (handle : Handle) × (slice_get handles c ≡ Some handle)
at_client [] c less = absurd (omega arith)
at_client (h ∷ hs) zero less = (h, refl)
at_client (h ∷ hs) (suc c) less = at_client hs c (omega arith)

pub all_opened : (partitions : List ℕ) (handles : List Handle) (old new : ManagerView) → WereOpened partitions (length partitions) handles old new → AreOpened partitions handles old new
all_opened partitions handles old new were = record {
  same_rules = were.same_rules;
  same_state = were.same_state;
  first = were.first;
  clients = record {
    each = λ c partition at.
        let within = slice_get_within partitions c partition at in
        let counted = were.counted in
        let less : c < length handles = omega arith in
        let found = at_client handles c less in
        let there : IsOpenOn new.handles found.0 partition = were.opened c found.0 partition found.1 at in
        record { slot = found.0.slot; there = there ∙ ap (λ n. Some (record { number = n; partition = partition })) (were.number c found.0 found.1) };
    others = were.others;
  };
  given = record { count = were.counted; number = were.number; opened = were.opened };
}
