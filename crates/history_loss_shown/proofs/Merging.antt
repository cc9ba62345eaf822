-- One list of what sectors share, of two.
use Rattle.std.proofs.Common.{◌≡◌, ◌<◌, ◌⊎◌, inl, inr, ℕ, List, [], ◌∷◌, refl, sym, ◌∙◌, ap, subst, arith}
use Rattle.std.specs.Prelude.{All, Contains}
use Rattle.std.proofs.lemmas.List.Elements.{All-nil, All-cons, All-head, All-tail, All-contains}
use Rattle.ntstatus.specs.declared.NtStatus.{NtStatus}
use Rattle.machine.specs.declared.ClientRequest.{ClientRequest}
use Rattle.machine.specs.declared.Label.TheVariants.{Call, Device, Answer, Cancel, Pause, Resume, Remove, Surprise, Removed}
use Rattle.machine.specs.Rules.{Rules, place_count}
use Rattle.loss.specs.Sessions.{Line, Told, Lost, Ended}
use Rattle.history_loss.specs.Schedules.{Event, Seen, Effect, Fails, IsAt, IsNoAnswer, IsNoFailure, lines_of, next_number, so_far}
use Rattle.history_loss.proofs.Mirroring.{further, newest}
use Rattle.history_loss_sights.specs.Sights.{AreCounted}
use Rattle.history_loss_sights.proofs.Standing.{Called, behind, first_or_behind}
use Rattle.history_loss_shown.proofs.Sharing.{AllIn, Extends, IsIn, Serves, Suits, Tidy, next_call, tidy_call, tidy_first, tidy_more}
use Rattle.history_loss_shown.proofs.Stuck.{AreShown}

pub none_failure : (n place : ℕ) (past : List Event) → (Contains past (Fails n place) → ⊥) → All (IsNoFailure n place) past
none_failure n place [] h = All-nil (IsNoFailure n place)
none_failure n place (Seen line ∷ past) h = All-cons (IsNoFailure n place) (Seen line) past tt (none_failure n place past (λ there. h (further (Seen line) past (Fails n place) there)))
none_failure n place (Effect m sector ∷ past) h = All-cons (IsNoFailure n place) (Effect m sector) past tt (none_failure n place past (λ there. h (further (Effect m sector) past (Fails n place) there)))
none_failure n place (Fails m k ∷ past) h =
    All-cons (IsNoFailure n place) (Fails m k) past
    (λ same same'. h (subst (λ j. Contains (Fails m k ∷ past) (Fails j place)) same (subst (λ j. Contains (Fails m k ∷ past) (Fails m j)) same' (newest (Fails m k) past))))
    (none_failure n place past (λ there. h (further (Fails m k) past (Fails n place) there)))

pub failure_none : (n place : ℕ) (past : List Event) → All (IsNoFailure n place) past → Contains past (Fails n place) → ⊥
failure_none n place past all there = All-contains (IsNoFailure n place) past (Fails n place) all there refl refl

-- it begins with a line, or is empty
abbrev IsCaught : List Event → Type 0
IsCaught [] = Unit {0}
IsCaught (Seen line ∷ events) = Unit {0}
IsCaught (Effect n sector ∷ events) = ⊥
IsCaught (Fails n place ∷ events) = ⊥

module _ (rules : Rules) where
  -- as behind each of two lists
  pub record Union (P Q : ℕ → Type 0) (past_a past_b past : List Event) : Type 0 where
    pub calls_a : (n : ℕ) (q : ClientRequest) → Called past_a n q → Called past n q
    pub calls_b : (n : ℕ) (q : ClientRequest) → Called past_b n q → Called past n q
    pub awaits_a : (n : ℕ) → All (IsNoAnswer n) past_a → All (IsNoAnswer n) past
    pub awaits_b : (n : ℕ) → All (IsNoAnswer n) past_b → All (IsNoAnswer n) past
    pub faults : (n place : ℕ) → Contains past (Fails n place) → Contains past_a (Fails n place) ⊎ Contains past_b (Fails n place)
    pub at_a : (n place : ℕ) → Contains past_a (Fails n place) → (q : ClientRequest) × Called past n q × ((j : ℕ) × P j × IsAt rules j q place)
    pub at_b : (n place : ℕ) → Contains past_b (Fails n place) → (q : ClientRequest) × Called past n q × ((j : ℕ) × Q j × IsAt rules j q place)

  pub union_first : (P Q : ℕ → Type 0) → Union P Q [] [] []
  union_first P Q = record {
    calls_a = λ n q c. c;
    calls_b = λ n q c. c;
    awaits_a = λ n a. a;
    awaits_b = λ n a. a;
    faults = λ n place c. inl c;
    at_a = λ n place c. let low = c.1 in absurd (omega arith);
    at_b = λ n place c. let low = c.1 in absurd (omega arith);
  }

  union_swap : (P Q : ℕ → Type 0) (past_a past_b past : List Event) → Union P Q past_a past_b past → Union Q P past_b past_a past
  union_swap P Q past_a past_b past u = record {
    calls_a = u.calls_b;
    calls_b = u.calls_a;
    awaits_a = u.awaits_b;
    awaits_b = u.awaits_a;
    faults = λ n place c. elim (u.faults n place c) [ inl a ↦ inr a | inr b ↦ inl b ];
    at_a = u.at_b;
    at_b = u.at_a;
  }

  contains_then : (e : Event) (past past' : List Event) (x : Event) → (Contains past x → Contains past' x) → Contains (e ∷ past) x → Contains (e ∷ past') x
  contains_then e past past' x keeps there = elim (first_or_behind e past x there) [
    | inl is ↦ subst (λ y. Contains (e ∷ past') y) is (newest e past')
    | inr before ↦ further e past' x (keeps before)
  ]

  all_then : (P : Event → Type 0) (e : Event) (past past' : List Event) → (All P past → All P past') → All P (e ∷ past) → All P (e ∷ past')
  all_then P e past past' keeps all = All-cons P e past' (All-head P e past all) (keeps (All-tail P e past all))

  -- a line for all
  union_line : (P Q : ℕ → Type 0) (line : Line) (past_a past_b past : List Event) → Union P Q past_a past_b past → Union P Q (Seen line ∷ past_a) (Seen line ∷ past_b) (Seen line ∷ past)
  union_line P Q line past_a past_b past u = record {
    calls_a = λ n q. contains_then (Seen line) past_a past (Seen (Told (Call n q))) (u.calls_a n q);
    calls_b = λ n q. contains_then (Seen line) past_b past (Seen (Told (Call n q))) (u.calls_b n q);
    awaits_a = λ n. all_then (IsNoAnswer n) (Seen line) past_a past (u.awaits_a n);
    awaits_b = λ n. all_then (IsNoAnswer n) (Seen line) past_b past (u.awaits_b n);
    faults = λ n place there. elim (u.faults n place (behind (Seen line) past (Fails n place) (λ e. cc (e)) there)) [
      | inl a ↦ inl (further (Seen line) past_a (Fails n place) a)
      | inr b ↦ inr (further (Seen line) past_b (Fails n place) b)
    ];
    at_a = λ n place there.
        let old : (q : ClientRequest) × Called past n q × ((j : ℕ) × P j × IsAt rules j q place) = u.at_a n place (behind (Seen line) past_a (Fails n place) (λ e. cc (e)) there) in
        (old.0, further (Seen line) past (Seen (Told (Call n old.0))) old.1, old.2);
    at_b = λ n place there.
        let old : (q : ClientRequest) × Called past n q × ((j : ℕ) × Q j × IsAt rules j q place) = u.at_b n place (behind (Seen line) past_b (Fails n place) (λ e. cc (e)) there) in
        (old.0, further (Seen line) past (Seen (Told (Call n old.0))) old.1, old.2);
  }

  -- a failure of the first
  union_fault : (P Q : ℕ → Type 0) (m k : ℕ) (past_a past_b past : List Event) → (q : ClientRequest) × Called past m q × ((j : ℕ) × P j × IsAt rules j q k) → Union P Q past_a past_b past
      → Union P Q (Fails m k ∷ past_a) past_b (Fails m k ∷ past)
  union_fault P Q m k past_a past_b past mine u = record {
    calls_a = λ n q. contains_then (Fails m k) past_a past (Seen (Told (Call n q))) (u.calls_a n q);
    calls_b = λ n q c. further (Fails m k) past (Seen (Told (Call n q))) (u.calls_b n q c);
    awaits_a = λ n. all_then (IsNoAnswer n) (Fails m k) past_a past (u.awaits_a n);
    awaits_b = λ n all. All-cons (IsNoAnswer n) (Fails m k) past tt (u.awaits_b n all);
    faults = λ n place there. elim (first_or_behind (Fails m k) past (Fails n place) there) [
      | inl is ↦ inl (subst (λ y. Contains (Fails m k ∷ past_a) y) is (newest (Fails m k) past_a))
      | inr before ↦ elim (u.faults n place before) [ inl a ↦ inl (further (Fails m k) past_a (Fails n place) a) | inr b ↦ inr b ]
    ];
    at_a = λ n place there. elim (first_or_behind (Fails m k) past_a (Fails n place) there) [
      | inl is ↦ now n place is
      | inr before ↦ let old : (q : ClientRequest) × Called past n q × ((j : ℕ) × P j × IsAt rules j q place) = u.at_a n place before in (old.0, further (Fails m k) past (Seen (Told (Call n old.0))) old.1, old.2)
    ];
    at_b = λ n place there.
        let old : (q : ClientRequest) × Called past n q × ((j : ℕ) × Q j × IsAt rules j q place) = u.at_b n place there in
        (old.0, further (Fails m k) past (Seen (Told (Call n old.0))) old.1, old.2);
  }
    where
      now : (n place : ℕ) → Fails m k ≡ Fails n place → (q : ClientRequest) × Called (Fails m k ∷ past) n q × ((j : ℕ) × P j × IsAt rules j q place)
      now n place is =
          let number : m ≡ n = cc (is) in
          let same : k ≡ place = cc (is) in (
            mine.0,
            subst (λ x. Called (Fails m k ∷ past) x mine.0) number (further (Fails m k) past (Seen (Told (Call m mine.0))) mine.1),
            (mine.2.0, mine.2.1, subst (λ x. IsAt rules mine.2.0 mine.0 x) same mine.2.2),
          )

  -- ONE LIST

  pub record Merged (P Q : ℕ → Type 0) (past a b : List Event) : Type 0 where
    pub all : List Event
    pub serves : Serves rules past all
    pub shows : lines_of all ≡ lines_of a
    pub all_in : AllIn rules (λ j. P j ⊎ Q j) past all
    pub left : (i : ℕ) → P i → Extends rules i past a all
    pub right : (i : ℕ) → Q i → Extends rules i past b all

  pub in_weaker : (P Q : ℕ → Type 0) → ((j : ℕ) → P j → Q j) → (past events : List Event) → AllIn rules P past events → AllIn rules Q past events
  in_weaker P Q f past [] h = tt
  in_weaker P Q f past (Seen line ∷ events) h = (tt, in_weaker P Q f (so_far (Seen line) past) events h.1)
  in_weaker P Q f past (Effect n sector ∷ events) h = (tt, in_weaker P Q f (Effect n sector ∷ past) events h.1)
  in_weaker P Q f past (Fails n place ∷ events) h =
      let at : (q : ClientRequest) × Called past n q × ((j : ℕ) × P j × IsAt rules j q place) = h.0 in
      ((at.0, at.1, (at.2.0, f at.2.0 at.2.1, at.2.2)), in_weaker P Q f (Fails n place ∷ past) events h.1)

  merged_swap : (P Q : ℕ → Type 0) (past a b : List Event) → lines_of b ≡ lines_of a → Merged Q P past b a → Merged P Q past a b
  merged_swap P Q past a b same m = record {
    all = m.all;
    serves = m.serves;
    shows = m.shows ∙ same;
    all_in = in_weaker (λ j. Q j ⊎ P j) (λ j. P j ⊎ Q j) (λ j h. elim h [ inl x ↦ inr x | inr y ↦ inl y ]) past m.all m.all_in;
    left = m.right;
    right = m.left;
  }

  -- nothing failed there by either
  none_there : (P Q : ℕ → Type 0) (n place : ℕ) (past_a past_b past : List Event) → Union P Q past_a past_b past → All (IsNoFailure n place) past_a → All (IsNoFailure n place) past_b → All (IsNoFailure n place) past
  none_there P Q n place past_a past_b past u a b =
      none_failure n place past (λ there. elim (u.faults n place there) [ inl in_a ↦ failure_none n place past_a a in_a | inr in_b ↦ failure_none n place past_b b in_b ])

  fault_first : (P Q : ℕ → Type 0) → ((i j : ℕ) → P i → Q j → i ≡ j → ⊥) → (n place : ℕ) (a b past_a past_b past : List Event) → Union P Q past_a past_b past → Tidy past → Suits rules past_a (Fails n place) → IsIn rules P past_a (Fails n place)
      → Merged P Q (Fails n place ∷ past) a b → Merged P Q past (Fails n place ∷ a) b
  fault_first P Q apart n place a b past_a past_b past u tidy suits is_in rest = record {
    all = Fails n place ∷ rest.all;
    serves = ((suits.0, record { called = u.calls_a n suits.0 suits.1.called; awaits = u.awaits_a n suits.1.awaits }, suits.2, suits.3, none_failure n place past none), rest.serves);
    shows = rest.shows;
    all_in = ((is_in.0, called, (is_in.2.0, inl is_in.2.1, is_in.2.2)), rest.all_in);
    left = λ i p. inl (a, refl, rest.left i p);
    right = λ i q. inr ((is_in.0, called, λ at. apart is_in.2.0 i is_in.2.1 q (sym is_in.2.2.sector ∙ at.sector)), rest.right i q);
  }
    where
      called : Called past n is_in.0
      called = u.calls_a n is_in.0 is_in.1

      none : Contains past (Fails n place) → ⊥
      none there = elim (u.faults n place there) [
        | inl in_a ↦ failure_none n place past_a suits.4 in_a
        | inr in_b ↦
            let at : (q : ClientRequest) × Called past n q × ((j : ℕ) × Q j × IsAt rules j q place) = u.at_b n place in_b in
            let own : at.0 ≡ is_in.0 = tidy.one n at.0 is_in.0 at.1 called in
            apart is_in.2.0 at.2.0 is_in.2.1 at.2.1 (sym is_in.2.2.sector ∙ (subst (λ q. IsAt rules at.2.0 q place) own at.2.2).sector)
      ]

  abbrev Pair : Line → (P Q : ℕ → Type 0) → List Event → List Event → List Event → Type 0
  Pair line P Q past a b = Merged P Q past (Seen line ∷ a) (Seen line ∷ b)

  line_both : (P Q : ℕ → Type 0) (line : Line) (a b past : List Event) → Suits rules past (Seen line) → Merged P Q (so_far (Seen line) past) a b → Pair line P Q past a b
  line_both P Q line a b past suits rest = record {
    all = Seen line ∷ rest.all;
    serves = (suits, rest.serves);
    shows = ap (λ ls. line ∷ ls) rest.shows;
    all_in = (tt, rest.all_in);
    left = λ i p. inl (a, refl, rest.left i p);
    right = λ i q. inl (b, refl, rest.right i q);
  }

  answer_suits : (P Q : ℕ → Type 0) (n : ℕ) (status : NtStatus) (informed : ℕ) (bytes : List ℕ) (past_a past_b past : List Event) → Union P Q past_a past_b past → Tidy past
      → Suits rules past_a (Seen (Told (Answer n status informed bytes))) → Suits rules past_b (Seen (Told (Answer n status informed bytes))) → Suits rules past (Seen (Told (Answer n status informed bytes)))
  answer_suits P Q n status informed bytes past_a past_b past u tidy x y = (
    x.0,
    record { called = u.calls_a n x.0 x.1.called; awaits = u.awaits_a n x.1.awaits },
    λ good place low.
        let own : x.0 ≡ y.0 = tidy.one n x.0 y.0 (u.calls_a n x.0 x.1.called) (u.calls_b n y.0 y.1.called) in
        none_there P Q n place past_a past_b past u (x.2 good place low) (y.2 good place (subst (λ q. place < place_count rules q) own low)),
  )

  -- what goes on with some second list
  abbrev Merges : (ℕ → Type 0) → (ℕ → Type 0) → List Event → List Event → Type 0
  Merges P Q a b = (past_a past_b past : List Event) → Union P Q past_a past_b past → Tidy past → lines_of b ≡ lines_of a → AreShown (lines_of a) → AreCounted (next_number past) (lines_of a)
      → Serves rules past_a a → Serves rules past_b b → AllIn rules P past_a a → AllIn rules Q past_b b → Merged P Q past a b

  fault_low : (n place : ℕ) (past : List Event) → Tidy past → (q : ClientRequest) → Called past n q → (m k : ℕ) → Fails n place ≡ Fails m k → m < next_number past
  fault_low n place past tidy q called m k e = let number : n ≡ m = cc (e) in subst (λ x. x < next_number past) number (tidy.below n q called)

  tidy_fault : (n place : ℕ) (past : List Event) (q : ClientRequest) → Called past n q → Tidy past → Tidy (Fails n place ∷ past)
  tidy_fault n place past q called tidy = tidy_more (Fails n place) past (λ m r e. cc (e)) (fault_low n place past tidy q called) refl tidy

  module _ (P Q : ℕ → Type 0) (apart : (i j : ℕ) → P i → Q j → i ≡ j → ⊥) where
    -- failures of the second list come first
    drain : (a : List Event) → ((b : List Event) → IsCaught b → Merges P Q a b) → (b : List Event) → Merges P Q a b
    drain a on [] past_a past_b past u tidy same shown counts s t x y = on [] tt past_a past_b past u tidy same shown counts s t x y
    drain a on (Seen line ∷ b) past_a past_b past u tidy same shown counts s t x y = on (Seen line ∷ b) tt past_a past_b past u tidy same shown counts s t x y
    drain a on (Effect n sector ∷ b) past_a past_b past u tidy same shown counts s t x y = absurd t.0
    drain a on (Fails n place ∷ b) past_a past_b past u tidy same shown counts s t x y =
        let called : Called past n y.0.0 = u.calls_b n y.0.0 y.0.1 in
        let rest : Merged P Q (Fails n place ∷ past) a b =
        drain a on b past_a (Fails n place ∷ past_b) (Fails n place ∷ past)
        (union_swap Q P (Fails n place ∷ past_b) past_a (Fails n place ∷ past) (union_fault Q P n place past_b past_a past (y.0.0, called, y.0.2) (union_swap P Q past_a past_b past u)))
        (tidy_fault n place past y.0.0 called tidy) same shown counts s t.1 x y.1 in
        merged_swap P Q past a (Fails n place ∷ b) same
        (fault_first Q P (λ i j q p e. apart j i p q (sym e)) n place b a past_b past_a past (union_swap P Q past_a past_b past u) tidy t.0 y.0 (merged_swap Q P (Fails n place ∷ past) b a (sym same) rest))

    at_end : (b : List Event) → IsCaught b → Merges P Q [] b
    at_end [] caught past_a past_b past u tidy same shown counts s t x y = record { all = []; serves = tt; shows = refl; all_in = tt; left = λ i p. refl; right = λ i q. refl }
    at_end (Seen line ∷ b) caught past_a past_b past u tidy same shown counts s t x y = absurd (cc (same))
    at_end (Effect n sector ∷ b) caught past_a past_b past u tidy same shown counts s t x y = absurd caught
    at_end (Fails n place ∷ b) caught past_a past_b past u tidy same shown counts s t x y = absurd caught

    at_same : (line : Line) (a b : List Event) → ((b : List Event) → Merges P Q a b) → Merges P Q (Seen line ∷ a) (Seen line ∷ b)
    at_same Lost a b on past_a past_b past u tidy same shown counts s t x y =
        line_both P Q Lost a b past tt (on b [] [] [] (union_first P Q) tidy_first (cc (same)) shown.1 counts s.1 t.1 x.1 y.1)
    at_same Ended a b on past_a past_b past u tidy same shown counts s t x y =
        line_both P Q Ended a b past tt (on b [] [] [] (union_first P Q) tidy_first (cc (same)) shown.1 counts s.1 t.1 x.1 y.1)
    at_same (Told (Call n q)) a b on past_a past_b past u tidy same shown counts s t x y =
        line_both P Q (Told (Call n q)) a b past tt
        (on b (Seen (Told (Call n q)) ∷ past_a) (Seen (Told (Call n q)) ∷ past_b) (Seen (Told (Call n q)) ∷ past) (union_line P Q (Told (Call n q)) past_a past_b past u) (tidy_call past n q counts.0 tidy) (cc (same)) shown.1
        (subst (λ k. AreCounted k (lines_of a)) (sym (next_call past n q counts.0)) counts.1) s.1 t.1 x.1 y.1)
    at_same (Told (Answer n status informed bytes)) a b on past_a past_b past u tidy same shown counts s t x y =
        line_both P Q (Told (Answer n status informed bytes)) a b past (answer_suits P Q n status informed bytes past_a past_b past u tidy s.0 t.0)
        (on b (Seen (Told (Answer n status informed bytes)) ∷ past_a) (Seen (Told (Answer n status informed bytes)) ∷ past_b) (Seen (Told (Answer n status informed bytes)) ∷ past)
        (union_line P Q (Told (Answer n status informed bytes)) past_a past_b past u)
        (tidy_more (Seen (Told (Answer n status informed bytes))) past (λ m r e. cc (e)) (λ m k e. absurd (cc (e))) refl tidy) (cc (same)) shown.1 counts s.1 t.1 x.1 y.1)
    at_same (Told (Device label)) a b on past_a past_b past u tidy same shown counts s t x y = absurd shown.0
    at_same (Told (Cancel n)) a b on past_a past_b past u tidy same shown counts s t x y = absurd shown.0
    at_same (Told Pause) a b on past_a past_b past u tidy same shown counts s t x y = absurd shown.0
    at_same (Told Resume) a b on past_a past_b past u tidy same shown counts s t x y = absurd shown.0
    at_same (Told Remove) a b on past_a past_b past u tidy same shown counts s t x y = absurd shown.0
    at_same (Told Surprise) a b on past_a past_b past u tidy same shown counts s t x y = absurd shown.0
    at_same (Told Removed) a b on past_a past_b past u tidy same shown counts s t x y = absurd shown.0

    at_line : (line : Line) (a : List Event) → ((b : List Event) → Merges P Q a b) → (b : List Event) → IsCaught b → Merges P Q (Seen line ∷ a) b
    at_line line a on [] caught past_a past_b past u tidy same shown counts s t x y = absurd (cc (same))
    at_line line a on (Effect n sector ∷ b) caught past_a past_b past u tidy same shown counts s t x y = absurd caught
    at_line line a on (Fails n place ∷ b) caught past_a past_b past u tidy same shown counts s t x y = absurd caught
    at_line line a on (Seen other ∷ b) caught past_a past_b past u tidy same shown counts s t x y =
        let is : other ≡ line = cc (same) in
        subst (λ l. Merges P Q (Seen line ∷ a) (Seen l ∷ b)) (sym is) (at_same line a b on) past_a past_b past u tidy same shown counts s t x y

    pub merge : (a b : List Event) → Merges P Q a b
    merge [] = drain [] at_end
    merge (Seen line ∷ a) = drain (Seen line ∷ a) (at_line line a (merge a))
    merge (Effect n sector ∷ a) = λ b past_a past_b past u tidy same shown counts s t x y. absurd s.0
    merge (Fails n place ∷ a) = λ b past_a past_b past u tidy same shown counts s t x y.
        fault_first P Q apart n place a b past_a past_b past u tidy s.0 x.0
        (merge a b (Fails n place ∷ past_a) past_b (Fails n place ∷ past) (union_fault P Q n place past_a past_b past (x.0.0, u.calls_a n x.0.0 x.0.1, x.0.2) u)
        (tidy_fault n place past x.0.0 (u.calls_a n x.0.0 x.0.1) tidy) same shown counts s.1 t x.1 y)
