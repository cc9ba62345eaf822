-- What is seen of requests that are open, or to come.
use Rattle.std.proofs.Common.{◌≡◌, ◌<◌, ◌≤◌, ◌⊎◌, inl, inr, ℕ, suc, ◌+◌, ◌/◌, ◌^◌, ◌==◌, ◌&&◌, Bool, true, false, List, [], ◌∷◌, ◌++◌, Option, Some, None, refl, sym, ◌∙◌, ap, subst, arith, eq-eqb, length}
use Rattle.std.specs.Prelude.{is_none, nat_lt, not, if◌then◌else◌}
use Rattle.std.specs.List.{list_any}
use Rattle.std.proofs.lemmas.Bool.{and_parts, eqb-true, leb-true}
use Rattle.std.proofs.lemmas.Bool.Decides.{nat_tests}
use Rattle.std.proofs.lemmas.Nat.{div_below}
use Rattle.ntstatus.specs.declared.NtStatus.{NtStatus}
use Rattle.ntstatus.specs.declared.NtStatus.TheVariants.{Success, InvalidHandle, InvalidParameter}
use Rattle.ntstatus.specs.First.{when, first_some}
use Rattle.srb.specs.declared.Kind.{Kind}
use Rattle.srb.specs.declared.Kind.TheVariants.{Read, Write, Flush}
use Rattle.machine.specs.declared.ClientRequest.{ClientRequest}
use Rattle.machine.specs.declared.Label.{Label}
use Rattle.machine.specs.declared.Label.TheVariants.{Call, Device, Answer, Cancel, Pause, Resume, Remove, Surprise, Removed}
use Rattle.machine.specs.Rules.{Rules, is_transfer, is_in_bounds, first_sector, place_count}
use Rattle.history_laws.specs.declared.Asked.{Asked}
use Rattle.history_laws.specs.Fitting.{refused}
use Rattle.register.specs.Values.{code}
use Rattle.history.specs.declared.Wait.{Wait}
use Rattle.history.specs.declared.Wait.TheVariants.{Known as KnownWait}
use Rattle.history.specs.Sights.{is_partition, has_sector, success_bytes, is_call_of, end_of}
use Rattle.history.specs.Waits.{fill, is_wait_of, ended, called, step, waits_of}
use Rattle.history_fitting.specs.declared.fitting.Known.{Known}
use Rattle.history_judge.specs.declared.cells.Span.{Span}
use Rattle.history_fitting.specs.Opened.{opened_at, bare, ends_request, may_end, may_come, may_come_blank, may_come_by, due, Puts, PutsCall, PutsAnswer, Takes, AreOpen, first_fresh, IsFresh}
use Rattle.history_judge.specs.inside.Cells.{is_write, is_read, is_awaited, in_span, AreToldOf, seen_of}
use Rattle.history_judge.specs.inside.Histories.{writes_at, reads_at, ShowsCall, AreTold, IsSpanBy, IsSpanAt, IsSpan}
use Rattle.history_judge.proofs.Filling.{apart, push_not, push_one, fill_none, others_called, others_awaited}
use Rattle.history_fitting.proofs.Opening.{call_is_next, opened_past}

alike : (a b : ℕ) → (a ≡ b) ⊎ (a ≡ b → ⊥)
alike a b = grind arith

no_call_of_end : (n m : ℕ) (status : NtStatus) → is_call_of m (end_of n status) ≡ false
no_call_of_end n m Success = refl
no_call_of_end n m _ = refl

same_number : (n : ℕ) → (n == n) ≡ true
same_number n = eq-eqb n n refl

-- a label behind these
pub seen_push : (rules : Rules) (p i : ℕ) (waits : List Wait) (labels : List Label) (label : Label) → waits_of code rules p i waits (labels ++ label ∷ []) ≡ step code rules p i (waits_of code rules p i waits labels) label
seen_push rules p i waits [] label = refl
seen_push rules p i waits (l ∷ labels) label = seen_push rules p i (step code rules p i waits l) labels label

module _ (rules : Rules) (p i : ℕ) where
  -- OTHER REQUESTS

  call_others : (n m : ℕ) (q : ClientRequest) (request : Option ClientRequest) (waits : List Wait) → (n ≡ m → ⊥) → ShowsCall rules p i m request waits → ShowsCall rules p i m request (step code rules p i waits (Call n q))
  call_others n m q request waits differ h = by_sector (has_sector rules p i q)
    where
      by_kind : (kind : Kind) → ShowsCall rules p i m request (called code rules i n q kind waits)
      by_kind Write = record { called = push_not (is_wait_of m) waits _ (apart n m differ) ∙ h.called; awaited = push_not (is_awaited m) waits _ refl ∙ h.awaited }
      by_kind Read = record { called = push_not (is_wait_of m) waits _ refl ∙ h.called; awaited = push_not (is_awaited m) waits _ (apart m n (λ same. differ (sym same))) ∙ h.awaited }
      by_kind Flush = h

      by_sector : (b : Bool) → ShowsCall rules p i m request (if b then called code rules i n q q.kind waits else waits)
      by_sector true = by_kind q.kind
      by_sector false = h

  answer_others : (n m : ℕ) (status : NtStatus) (informed : ℕ) (bytes : List ℕ) (request : Option ClientRequest) (waits : List Wait) → (n ≡ m → ⊥) → ShowsCall rules p i m request waits
      → ShowsCall rules p i m request (step code rules p i waits (Answer n status informed bytes))
  answer_others n m status informed bytes request waits differ h =
      by_end (list_any (is_wait_of n) (fill code rules n (success_bytes status bytes) waits)) (fill code rules n (success_bytes status bytes) waits)
      (record { called = others_called rules n m differ (success_bytes status bytes) waits ∙ h.called; awaited = others_awaited rules n m differ (success_bytes status bytes) waits ∙ h.awaited })
    where
      by_end : (t : Bool) (left : List Wait) → ShowsCall rules p i m request left → ShowsCall rules p i m request (if t then left ++ KnownWait (end_of n status) ∷ [] else left)
      by_end true left h' = record {
        called = push_not (is_wait_of m) left (KnownWait (end_of n status)) (no_call_of_end n m status) ∙ h'.called;
        awaited = push_not (is_awaited m) left (KnownWait (end_of n status)) refl ∙ h'.awaited;
      }
      by_end false left h' = h'

  -- THE REQUEST ITSELF

  abbrev Shown : ℕ → ClientRequest → List Wait → Bool → Type 0
  Shown n q waits b = (list_any (is_wait_of n) (if b then called code rules i n q q.kind waits else waits) ≡ (if b then is_write q.kind else false))
      × (list_any (is_awaited n) (if b then called code rules i n q q.kind waits else waits) ≡ (if b then is_read q.kind else false))

  call_itself : (n : ℕ) (q : ClientRequest) (waits : List Wait) → ShowsCall rules p i n None waits → ShowsCall rules p i n (Some (bare q)) (step code rules p i waits (Call n q))
  call_itself n q waits h = by_sector (has_sector rules p i q)
    where
      by_kind : (kind : Kind) → (list_any (is_wait_of n) (called code rules i n q kind waits) ≡ is_write kind) × (list_any (is_awaited n) (called code rules i n q kind waits) ≡ is_read kind)
      by_kind Write = (push_one (is_wait_of n) waits _ (same_number n), push_not (is_awaited n) waits _ refl ∙ h.awaited)
      by_kind Read = (push_not (is_wait_of n) waits _ refl ∙ h.called, push_one (is_awaited n) waits _ (same_number n))
      by_kind Flush = (h.called, h.awaited)

      by_bool : (b : Bool) → Shown n q waits b
      by_bool true = by_kind q.kind
      by_bool false = (h.called, h.awaited)

      by_sector : (b : Bool) → ShowsCall rules p i n (Some (bare q)) (step code rules p i waits (Call n q))
      by_sector b = let s : Shown n q waits (has_sector rules p i q) = by_bool (has_sector rules p i q) in record { called = s.0; awaited = s.1 }

  -- what is not seen of a request is not seen to end
  pub answer_unseen : (n : ℕ) (status : NtStatus) (informed : ℕ) (bytes : List ℕ) (waits : List Wait) → list_any (is_wait_of n) waits ≡ false → list_any (is_awaited n) waits ≡ false
      → step code rules p i waits (Answer n status informed bytes) ≡ waits
  answer_unseen n status informed bytes waits none idle =
      ap (ended n status) (fill_none rules n (success_bytes status bytes) waits idle) ∙ ap (λ b. if b then waits ++ KnownWait (end_of n status) ∷ [] else waits) none

-- REFUSALS

part_some : (p : ℕ) (partition : Option ℕ) → is_partition p partition ≡ true → is_none partition ≡ false
part_some p None e = absurd (cc (e))
part_some p (Some other) e = refl

-- what is refused moves nothing
moves_none : (rules : Rules) (p i : ℕ) (q : ClientRequest) (status : NtStatus) → 0 < rules.sector_size → refused rules q ≡ Some status → has_sector rules p i q ≡ false
moves_none rules p i q status sized told = by_sector (has_sector rules p i q) refl
  where
    taken_in : has_sector rules p i q ≡ true → refused rules q ≡ None
    taken_in has =
        let parts = and_parts _ _ has in
        let asks = and_parts _ _ parts.0 in
        let moves = and_parts _ _ asks.1 in
        let within = and_parts _ _ parts.1 in
        let first : first_sector rules q ≤ i = leb-true (first_sector rules q) i within.0 in
        let last : nat_lt i (first_sector rules q + place_count rules q) ≡ true = within.1 in
        let counted : place_count rules q ≡ q.length / rules.sector_size = ap (λ b. if b then q.length / rules.sector_size else 1) moves.0 in
        let last' : nat_lt i (first_sector rules q + q.length / rules.sector_size) ≡ true = ap (λ n. nat_lt i (first_sector rules q + n)) (sym counted) ∙ last in
        let some : (q.length == 0) ≡ false = apart q.length 0 (λ none.
        let low : 0 / rules.sector_size < 1 = div_below 0 rules.sector_size 1 sized (omega (arith, sized)) in
        let empty : nat_lt i (first_sector rules q + 0 / rules.sector_size) ≡ true = ap (λ n. nat_lt i (first_sector rules q + n / rules.sector_size)) (sym none) ∙ last' in
        absurd (grind (arith, nat_tests, low, empty, first))) in
        ap (λ b. first_some (when b InvalidHandle ∷ when (is_transfer q.kind && not (is_in_bounds rules q)) InvalidParameter ∷ when (is_transfer q.kind && (q.length == 0)) Success ∷ [])) (part_some p q.partition asks.0)
        ∙ ap (λ b. first_some (when false InvalidHandle ∷ when (is_transfer q.kind && not b) InvalidParameter ∷ when (is_transfer q.kind && (q.length == 0)) Success ∷ [])) moves.1
        ∙ ap (λ b. first_some (when false InvalidHandle ∷ when (b && not true) InvalidParameter ∷ when (b && (q.length == 0)) Success ∷ [])) moves.0
        ∙ ap (λ b. first_some (when false InvalidHandle ∷ when (true && not true) InvalidParameter ∷ when (true && b) Success ∷ [])) some

    by_sector : (b : Bool) → has_sector rules p i q ≡ b → has_sector rules p i q ≡ false
    by_sector true e = absurd (cc (sym told ∙ taken_in e))
    by_sector false e = e

none_owed : (owed : Option NtStatus) → is_none owed ≡ true → owed ≡ None
none_owed None e = refl
none_owed (Some status) e = absurd (cc (e))

-- what is so of a label that may come
abbrev pub Stands : Known → Label → Type 0
Stands known (Call n q) = (n ≡ known.calls + 1) × (known.owed ≡ None)
Stands known (Answer n status informed bytes) = (count : ℕ) × (may_end known known.owed n status informed count ≡ true)
Stands known _ = Unit {0}

come_stands : (rules : Rules) (known : Known) (label : Label) → may_come rules known label ≡ true → Stands known label
come_stands rules known (Call n q) can = (call_is_next rules known n q can, none_owed known.owed (and_parts _ _ can).0)
come_stands rules known (Answer n status informed bytes) can = (length bytes, can)
come_stands rules known (Device label) can = tt
come_stands rules known (Cancel n) can = tt
come_stands rules known Pause can = tt
come_stands rules known Resume can = tt
come_stands rules known Remove can = tt
come_stands rules known Surprise can = tt
come_stands rules known Removed can = tt

blank_stands : (known : Known) (label : Label) → may_come_blank known label ≡ true → Stands known label
blank_stands known (Call n q) can =
    let free = and_parts _ _ (and_parts _ _ can).1 in
    (eqb-true n (known.calls + 1) free.1, none_owed known.owed free.0)
blank_stands known (Answer n status informed bytes) can = (due known known.owed n status, (and_parts _ _ can).1)
blank_stands known (Device label) can = tt
blank_stands known (Cancel n) can = tt
blank_stands known Pause can = tt
blank_stands known Resume can = tt
blank_stands known Remove can = tt
blank_stands known Surprise can = tt
blank_stands known Removed can = tt

pub stands : (gap : Bool) (rules : Rules) (known : Known) (label : Label) → may_come_by gap rules known label ≡ true → Stands known label
stands false rules known label can = come_stands rules known label can
stands true rules known label can = blank_stands known label can

owed_last : (known : Known) (n : ℕ) (status owed : NtStatus) (informed count : ℕ) → may_end known (Some owed) n status informed count ≡ true → n ≡ known.calls
owed_last known n status owed informed count can = eqb-true n known.calls (and_parts _ _ can).0

-- an open request was called
open_low : (asked : List (Option Asked)) (known : Known) → AreOpen asked known → (n : ℕ) (status : NtStatus) (informed count : ℕ) → may_end known None n status informed count ≡ true → n ≤ known.calls
open_low asked known a n status informed count can = elim (split n known.calls) [
  | inl low ↦ low
  | inr high ↦ absurd (cc (sym can ∙ ap (λ o. ends_request o status informed count) (opened_past known asked a n high)))
]
  where
    split : (x y : ℕ) → (x ≤ y) ⊎ (y < x)
    split x y = grind arith

-- ONE LABEL MORE

module _ (rules : Rules) (asked : List (Option Asked)) (labels : List Label) (old new : Known) (a : AreOpen asked old) (told : AreTold rules labels old) where
  -- what is so of other numbers
  abbrev Next : Label → ℕ → ℕ → ℕ → Type 0
  Next label p i m = ShowsCall rules p i m (opened_at new.opened m) (step code rules p i (seen_of rules labels p i) label)

  call_told : (n : ℕ) (q : ClientRequest) (r : Option NtStatus) → n ≡ old.calls + 1 → old.owed ≡ None → new.calls ≡ n → new.owed ≡ r → PutsCall r old.opened n q new.opened
      → ((p i : ℕ) (status : NtStatus) → r ≡ Some status → has_sector rules p i q ≡ false) → (p i m : ℕ) → IsFresh new m → Next (Call n q) p i m
  call_told n q None next none calls owed puts moves p i m fresh = elim (alike m n) [
    | inl same ↦
        let before : ShowsCall rules p i n (opened_at old.opened n) (seen_of rules labels p i) = told p i n (λ e. subst (λ o. first_fresh o old.calls ≤ n) (sym none) (omega (arith, next))) in
        subst (Next (Call n q) p i) (sym same)
        (subst (λ o. ShowsCall rules p i n o (step code rules p i (seen_of rules labels p i) (Call n q))) (sym puts.here)
        (call_itself rules p i n q (seen_of rules labels p i) (subst (λ o. ShowsCall rules p i n o (seen_of rules labels p i)) (opened_past old asked a n (omega (arith, next))) before)))
    | inr differ ↦
        subst (λ o. ShowsCall rules p i m o (step code rules p i (seen_of rules labels p i) (Call n q))) (sym (puts.others m differ))
        (call_others rules p i n m q (opened_at old.opened m) (seen_of rules labels p i) (λ same. differ (sym same))
        (told p i m (λ e.
        let low : first_fresh new.owed new.calls ≤ m = fresh (puts.others m differ ∙ e) in
        let low' : suc new.calls ≤ m = subst (λ o. first_fresh o new.calls ≤ m) owed low in
        subst (λ o. first_fresh o old.calls ≤ m) (sym none) (omega (arith, low', calls, next)))))
  ]
  call_told n q (Some status) next none calls owed puts moves p i m fresh =
      let same : (k : ℕ) → opened_at new.opened k ≡ opened_at old.opened k = λ k. ap (λ o. opened_at o k) puts in
      subst (λ o. ShowsCall rules p i m o (step code rules p i (seen_of rules labels p i) (Call n q))) (sym (same m))
      (subst (ShowsCall rules p i m (opened_at old.opened m)) (sym (ap (λ b. if b then called code rules i n q q.kind (seen_of rules labels p i) else seen_of rules labels p i) (moves p i status refl)))
      (told p i m (λ e.
      let low : first_fresh new.owed new.calls ≤ m = fresh (same m ∙ e) in
      let low' : new.calls ≤ m = subst (λ o. first_fresh o new.calls ≤ m) owed low in
      subst (λ o. first_fresh o old.calls ≤ m) (sym none) (omega (arith, low', calls, next)))))

  -- the answer to a request that was open
  answer_taken : (n : ℕ) (status : NtStatus) (informed : ℕ) (bytes : List ℕ) → old.owed ≡ None → n ≤ old.calls → new.calls ≡ old.calls → new.owed ≡ None → Puts old.opened n None new.opened
      → (p i m : ℕ) → IsFresh new m → Next (Answer n status informed bytes) p i m
  answer_taken n status informed bytes was low calls none puts p i m fresh = elim (alike m n) [
    | inl same ↦
        let past : first_fresh new.owed new.calls ≤ m = fresh (ap (opened_at new.opened) same ∙ puts.here) in
        let past' : suc new.calls ≤ m = subst (λ o. first_fresh o new.calls ≤ m) none past in
        absurd (omega (arith, past', calls, low, same))
    | inr differ ↦
        subst (λ o. ShowsCall rules p i m o (step code rules p i (seen_of rules labels p i) (Answer n status informed bytes))) (sym (puts.others m differ))
        (answer_others rules p i n m status informed bytes (opened_at old.opened m) (seen_of rules labels p i) (λ same. differ (sym same))
        (told p i m (λ e.
        let past : first_fresh new.owed new.calls ≤ m = fresh (puts.others m differ ∙ e) in
        let past' : suc new.calls ≤ m = subst (λ o. first_fresh o new.calls ≤ m) none past in
        subst (λ o. first_fresh o old.calls ≤ m) (sym was) (omega (arith, past', calls)))))
  ]

  -- the answer to one that was refused
  answer_owed : (n : ℕ) (status owed : NtStatus) (informed : ℕ) (bytes : List ℕ) → old.owed ≡ Some owed → n ≡ old.calls → new.calls ≡ old.calls → new.owed ≡ None → new.opened ≡ old.opened
      → (p i m : ℕ) → IsFresh new m → Next (Answer n status informed bytes) p i m
  answer_owed n status owed informed bytes was last calls none puts p i m fresh =
      let same : (k : ℕ) → opened_at new.opened k ≡ opened_at old.opened k = λ k. ap (λ o. opened_at o k) puts in
      let high : opened_at old.opened m ≡ None → suc old.calls ≤ m = (λ e.
      let past : first_fresh new.owed new.calls ≤ m = fresh (same m ∙ e) in
      let past' : suc new.calls ≤ m = subst (λ o. first_fresh o new.calls ≤ m) none past in
      omega (arith, past', calls)) in
      elim (alike m n) [
        | inl is ↦
            let closed : opened_at old.opened m ≡ None = ap (opened_at old.opened) (is ∙ last) ∙ a.owing owed was in
            let past : suc old.calls ≤ m = high closed in
            absurd (omega (arith, past, is, last))
        | inr differ ↦
            subst (λ o. ShowsCall rules p i m o (step code rules p i (seen_of rules labels p i) (Answer n status informed bytes))) (sym (same m))
            (answer_others rules p i n m status informed bytes (opened_at old.opened m) (seen_of rules labels p i) (λ is. differ (sym is))
            (told p i m (λ e. let past : suc old.calls ≤ m = high e in subst (λ o. first_fresh o old.calls ≤ m) (sym was) (omega (arith, past)))))
      ]

  answer_told : (n : ℕ) (status : NtStatus) (informed : ℕ) (bytes : List ℕ) (count : ℕ) (owed : Option NtStatus) → old.owed ≡ owed → may_end old owed n status informed count ≡ true → new.calls ≡ old.calls → new.owed ≡ None
      → PutsAnswer owed old.opened n new.opened → (p i m : ℕ) → IsFresh new m → Next (Answer n status informed bytes) p i m
  answer_told n status informed bytes count None was can calls none puts = answer_taken n status informed bytes was (open_low asked old a n status informed count can) calls none puts
  answer_told n status informed bytes count (Some owed) was can calls none puts = answer_owed n status owed informed bytes was (owed_last old n status owed informed count can) calls none puts

  pub told_next : 0 < rules.sector_size → (label : Label) → Stands old label → Takes rules old label new → AreTold rules (labels ++ label ∷ []) new
  told_next sized label can takes = λ p i m fresh. subst (ShowsCall rules p i m (opened_at new.opened m)) (sym (seen_push rules p i [] labels label)) (by_label label can takes p i m fresh)
    where
      kept : (label : Label) → new ≡ old → ((p i : ℕ) → step code rules p i (seen_of rules labels p i) label ≡ seen_of rules labels p i) → (p i m : ℕ) → IsFresh new m → Next label p i m
      kept label is passed p i m fresh =
          subst (ShowsCall rules p i m (opened_at new.opened m)) (sym (passed p i))
          (subst (λ known. IsFresh known m → ShowsCall rules p i m (opened_at known.opened m) (seen_of rules labels p i)) (sym is) (told p i m) fresh)

      by_label : (label : Label) → Stands old label → Takes rules old label new → (p i m : ℕ) → IsFresh new m → Next label p i m
      by_label (Call n q) can takes =
          call_told n q (refused rules q) can.0 can.1 takes.0 takes.1 takes.2 (λ p i status is. moves_none rules p i q status sized is)
      by_label (Answer n status informed bytes) can takes = answer_told n status informed bytes can.0 old.owed refl can.1 takes.0 takes.1 takes.2
      by_label (Device label) can is = kept (Device label) is (λ p i. refl)
      by_label (Cancel n) can is = kept (Cancel n) is (λ p i. refl)
      by_label Pause can is = kept Pause is (λ p i. refl)
      by_label Resume can is = kept Resume is (λ p i. refl)
      by_label Remove can is = kept Remove is (λ p i. refl)
      by_label Surprise can is = kept Surprise is (λ p i. refl)
      by_label Removed can is = kept Removed is (λ p i. refl)

  -- WHICH SECTORS IT IS FOR

  answer_passed : (p i n : ℕ) (status : NtStatus) (informed : ℕ) (bytes : List ℕ) (request : Option ClientRequest) → opened_at old.opened n ≡ request → IsFresh old n → ((q : ClientRequest) → request ≡ Some q → has_sector rules p i q ≡ false)
      → step code rules p i (seen_of rules labels p i) (Answer n status informed bytes) ≡ seen_of rules labels p i
  answer_passed p i n status informed bytes request is fresh none =
      let h : ShowsCall rules p i n request (seen_of rules labels p i) = subst (λ o. ShowsCall rules p i n o (seen_of rules labels p i)) is (told p i n fresh) in
      answer_unseen rules p i n status informed bytes (seen_of rules labels p i) (h.called ∙ writes_none request none) (h.awaited ∙ reads_none request none)
    where
      writes_none : (request : Option ClientRequest) → ((q : ClientRequest) → request ≡ Some q → has_sector rules p i q ≡ false) → writes_at rules p i request ≡ false
      writes_none None none = refl
      writes_none (Some q) none = ap (λ b. if b then is_write q.kind else false) (none q refl)

      reads_none : (request : Option ClientRequest) → ((q : ClientRequest) → request ≡ Some q → has_sector rules p i q ≡ false) → reads_at rules p i request ≡ false
      reads_none None none = refl
      reads_none (Some q) none = ap (λ b. if b then is_read q.kind else false) (none q refl)

  answer_fresh : (n : ℕ) (status : NtStatus) (informed count : ℕ) (owed : Option NtStatus) → old.owed ≡ owed → may_end old owed n status informed count ≡ true → IsFresh old n
  answer_fresh n status informed count None was can = λ e. absurd (cc (sym can ∙ ap (λ o. ends_request o status informed count) e))
  answer_fresh n status informed count (Some owed) was can =
      λ e. subst (λ o. first_fresh o old.calls ≤ n) (sym was) (let last : n ≡ old.calls = owed_last old n status owed informed count can in omega (arith, last))

  moves_out : (q : ClientRequest) (found : Option (Span × Kind)) (p i : ℕ) → IsSpanBy rules q found → ((span : Span) (kind : Kind) → found ≡ Some (span, kind) → in_span span p i ≡ false) → has_sector rules p i q ≡ false
  moves_out q None p i spans out = spans p i
  moves_out q (Some (span, kind)) p i spans out = spans.1.1 p i ∙ out span kind refl

  at_out : (request : Option ClientRequest) (found : Option (Span × Kind)) (p i : ℕ) → IsSpanAt rules request found → ((span : Span) (kind : Kind) → found ≡ Some (span, kind) → in_span span p i ≡ false)
      → (q : ClientRequest) → request ≡ Some q → has_sector rules p i q ≡ false
  at_out None found p i spans out q is = absurd (cc (is))
  at_out (Some r) found p i spans out q is = let same : r ≡ q = cc (is) in moves_out q found p i (subst (λ x. IsSpanBy rules x found) same spans) out

  -- a sector that a label isn't for shows nothing by it
  pub passed_over : (label : Label) (found : Option (Span × Kind)) (p i : ℕ) → Stands old label → IsSpan rules old label found → ((span : Span) (kind : Kind) → found ≡ Some (span, kind) → in_span span p i ≡ false)
      → step code rules p i (seen_of rules labels p i) label ≡ seen_of rules labels p i
  passed_over (Call n q) found p i can spans out = ap (λ b. if b then called code rules i n q q.kind (seen_of rules labels p i) else seen_of rules labels p i) (moves_out q found p i spans out)
  passed_over (Answer n status informed bytes) found p i can spans out =
      answer_passed p i n status informed bytes (opened_at old.opened n) refl (answer_fresh n status informed can.0 old.owed refl can.1) (at_out (opened_at old.opened n) found p i spans out)
  passed_over (Device label) found p i can spans out = refl
  passed_over (Cancel n) found p i can spans out = refl
  passed_over Pause found p i can spans out = refl
  passed_over Resume found p i can spans out = refl
  passed_over Remove found p i can spans out = refl
  passed_over Surprise found p i can spans out = refl
  passed_over Removed found p i can spans out = refl

  told_at : (n : ℕ) (i : ℕ) (span : Span) (kind : Kind) (request : Option ClientRequest) → opened_at old.opened n ≡ request → IsFresh old n → IsSpanAt rules request (Some (span, kind)) → in_span span span.partition i ≡ true
      → (list_any (is_wait_of n) (seen_of rules labels span.partition i) ≡ is_write kind) × (list_any (is_awaited n) (seen_of rules labels span.partition i) ≡ is_read kind)
  told_at n i span kind None is fresh spans inside = absurd (cc (spans))
  told_at n i span kind (Some q) is fresh spans inside =
      let has : has_sector rules span.partition i q ≡ true = spans.1.1 span.partition i ∙ inside in
      let h : ShowsCall rules span.partition i n (Some q) (seen_of rules labels span.partition i) = subst (λ o. ShowsCall rules span.partition i n o (seen_of rules labels span.partition i)) is (told span.partition i n fresh) in
      (h.called ∙ ap (λ b. if b then is_write q.kind else false) has ∙ ap is_write (sym spans.0), h.awaited ∙ ap (λ b. if b then is_read q.kind else false) has ∙ ap is_read (sym spans.0))

  -- and one that it is for shows what it does there
  pub told_of : (label : Label) (span : Span) (kind : Kind) → Stands old label → IsSpan rules old label (Some (span, kind)) → AreToldOf rules (seen_of rules labels) span kind label
  told_of (Call n q) span kind can spans = λ i inside. spans.1.1 span.partition i ∙ inside
  told_of (Answer n status informed bytes) span kind can spans = λ i inside.
      told_at n i span kind (opened_at old.opened n) refl (answer_fresh n status informed can.0 old.owed refl can.1) spans inside
  told_of (Device label) span kind can spans = λ i inside. tt
  told_of (Cancel n) span kind can spans = λ i inside. tt
  told_of Pause span kind can spans = λ i inside. tt
  told_of Resume span kind can spans = λ i inside. tt
  told_of Remove span kind can spans = λ i inside. tt
  told_of Surprise span kind can spans = λ i inside. tt
  told_of Removed span kind can spans = λ i inside. tt

  span_by_fits : (q : ClientRequest) (span : Span) (kind : Kind) → IsSpanBy rules q (Some (span, kind)) → span.extent.first + span.extent.count < 2 ^ 64
  span_by_fits q span kind spans = spans.1.0

  span_at_fits : (request : Option ClientRequest) (span : Span) (kind : Kind) → IsSpanAt rules request (Some (span, kind)) → span.extent.first + span.extent.count < 2 ^ 64
  span_at_fits None span kind spans = absurd (cc (spans))
  span_at_fits (Some q) span kind spans = spans.1.0

  pub span_fits : (label : Label) (span : Span) (kind : Kind) → IsSpan rules old label (Some (span, kind)) → span.extent.first + span.extent.count < 2 ^ 64
  span_fits (Call n q) span kind spans = span_by_fits q span kind spans
  span_fits (Answer n status informed bytes) span kind spans = span_at_fits (opened_at old.opened n) span kind spans
  span_fits (Device label) span kind spans = absurd (cc (spans))
  span_fits (Cancel n) span kind spans = absurd (cc (spans))
  span_fits Pause span kind spans = absurd (cc (spans))
  span_fits Resume span kind spans = absurd (cc (spans))
  span_fits Remove span kind spans = absurd (cc (spans))
  span_fits Surprise span kind spans = absurd (cc (spans))
  span_fits Removed span kind spans = absurd (cc (spans))

-- before the first label
pub told_first : (rules : Rules) (known : Known) → ((n : ℕ) → opened_at known.opened n ≡ None) → AreTold rules [] known
told_first rules known none = λ p i n fresh. subst (λ o. ShowsCall rules p i n o []) (sym (none n)) (record { called = refl; awaited = refl })
