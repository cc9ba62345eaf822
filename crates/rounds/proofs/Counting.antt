-- How many calls have succeeded, and what they brought.
use Rattle.std.proofs.Common.{◌≡◌, ◌≤◌, ◌<◌, ℕ, zero, suc, below_more, nat_lt, subst, ◌+◌, ◌*◌, ◌==◌, Bool, true, false, refl, sym, ◌∙◌, ap, arith, List, [], ◌∷◌, ◌++◌, Option, Some, None, length, if◌then◌else◌, append_assoc, append-nil, length-append, Result, Ok, Err, OnOk, ◌||◌}
use Rattle.std.proofs.lemmas.Bool.Decides.{nat_tests}
use Rattle.std.specs.List.{cons_option, list_all}
use Rattle.traced.specs.declared.TraceEntry.{TraceEntry}
use Rattle.host.specs.Clients.{ClientView, AreNumbered, client_at}
use Rattle.host.specs.Closing.{AreBorneOut, total}
use Rattle.host.specs.Receipts.{Receipt}
use Rattle.rounds.specs.declared.Tally.{Tally}
use Rattle.rounds.specs.Tallies.{AreCounted, HasCounted, IsTallied, byte_of, bytes_of_success, differing, differing_from, joined, successes}
use Rattle.rounds.specs.inside.Counting.{CountsAll, counted}

-- with one client more, of two calls a round
pub counted_most : (answered one done rounds all : ℕ) → answered ≤ 2 * (done * rounds) → one ≤ 2 * rounds → all ≡ done + 1 → answered + one ≤ 2 * (all * rounds)
counted_most answered one done rounds all some more grown = let step : all * rounds ≡ done * rounds + rounds = rw grown (omega arith) in omega arith

-- LISTS

successes_joined : (xs ys : List Receipt) → successes (xs ++ ys) ≡ successes xs ++ successes ys
successes_joined [] ys = refl
successes_joined (r ∷ rs) ys = ap (λ l. cons_option (bytes_of_success r.1.label) l) (successes_joined rs ys) ∙ front (bytes_of_success r.1.label) (successes rs) (successes ys)
  where
    front : (x : Option (List ℕ)) (before behind : List (List ℕ)) → cons_option x (before ++ behind) ≡ cons_option x before ++ behind
    front None before behind = refl
    front (Some x) before behind = refl

differing_joined : (byte : ℕ) (xs ys : List (List ℕ)) → differing byte (xs ++ ys) ≡ differing byte xs + differing byte ys
differing_joined byte [] ys = omega arith
differing_joined byte (x ∷ xs) ys = ap (λ n. if list_all (λ b. b == byte) x then n else suc n) (differing_joined byte xs ys) ∙ by (list_all (λ b. b == byte) x) (differing byte xs) (differing byte ys)
  where
    by : (all : Bool) (m n : ℕ) → (if all then m + n else suc (m + n)) ≡ (if all then m else suc m) + n
    by true m n = refl
    by false m n = omega arith

joined_more : (xs : List (List (List ℕ))) (y : List (List ℕ)) → joined (xs ++ (y ∷ [])) ≡ joined xs ++ y
joined_more [] y = append-nil y
joined_more (x ∷ xs) y = ap (λ l. x ++ l) (joined_more xs y) ∙ sym (append_assoc x (joined xs) y)

differing_more : (client round : ℕ) (xs : List (List (List ℕ))) (y : List (List ℕ))
    → differing_from client round (xs ++ (y ∷ [])) ≡ differing_from client round xs + differing (byte_of client (round + length xs)) y
differing_more client round [] y =
    let e : round + 0 ≡ round = omega arith in
    let same : differing (byte_of client (round + 0)) y ≡ differing (byte_of client round) y = ap (λ n. differing (byte_of client n) y) e in
    omega arith
differing_more client round (x ∷ xs) y =
    let e : suc round + length xs ≡ round + suc (length xs) = omega arith in
    let same : differing (byte_of client (suc round + length xs)) y ≡ differing (byte_of client (round + suc (length xs))) y = ap (λ n. differing (byte_of client n) y) e in
    let more : differing_from client (suc round) (xs ++ (y ∷ [])) ≡ differing_from client (suc round) xs + differing (byte_of client (suc round + length xs)) y = differing_more client (suc round) xs y in
    omega arith

-- A CLIENT'S TALLY

-- one success adds one at most to what differs
pub counts_few : (byte : ℕ) (bytes : List ℕ) (t : Tally) → t.differing ≤ t.answered → (counted byte (bytes ∷ []) t).differing ≤ (counted byte (bytes ∷ []) t).answered
counts_few byte bytes t few = by (list_all (λ b. b == byte) bytes)
  where
    by : (all : Bool) → t.differing + (if all then 0 else 1) ≤ t.answered + 1
    by true = omega arith
    by false = omega arith

tally_is : (a a' d d' : ℕ) → a ≡ a' → d ≡ d' → ◌≡◌ {A = Tally} (record { answered = a; differing = d }) (record { answered = a'; differing = d' })
tally_is a a' d d' same equal = cc (same, equal)

pub counted_one : (byte : ℕ) (bytes : List ℕ) (t : Tally) (all : Bool) → all ≡ list_all (λ b. b == byte) bytes
    → ◌≡◌ {A = Tally} (record { answered = t.answered + 1; differing = if all then t.differing else t.differing + 1 }) (counted byte (bytes ∷ []) t)
counted_one byte bytes t all is = tally_is _ _ _ _ refl (ap (λ a. if a then t.differing else t.differing + 1) is ∙ by (list_all (λ b. b == byte) bytes))
  where
    by : (a : Bool) → (if a then t.differing else t.differing + 1) ≡ t.differing + (if a then 0 else suc 0)
    by true = omega arith
    by false = omega arith

-- a call after another
pub counts_both : (byte : ℕ) (old mid new : ClientView) (before between after : Tally) → CountsAll byte old before mid between → CountsAll byte mid between new after → CountsAll byte old before new after
counts_both byte old mid new before between after a b = record {
  brought = a.brought ++ b.brought;
  brings = record {
    added = a.brings.added ++ b.brings.added;
    adds = b.brings.adds ∙ ap (λ l. l ++ b.brings.added) a.brings.adds ∙ append_assoc old.answered a.brings.added b.brings.added;
    are = successes_joined a.brings.added b.brings.added ∙ ap (λ l. l ++ successes b.brings.added) a.brings.are ∙ ap (λ l. a.brought ++ l) b.brings.are;
  };
  counts = b.counts ∙ ap (counted byte b.brought) a.counts ∙ tally_is _ _ _ _
      (sum before.answered (length a.brought) (length b.brought) (length (a.brought ++ b.brought)) (length-append a.brought b.brought))
      (sum before.differing (differing byte a.brought) (differing byte b.brought) (differing byte (a.brought ++ b.brought)) (differing_joined byte a.brought b.brought));
}
  where
    sum : (n x y all : ℕ) → all ≡ x + y → n + x + y ≡ n + all
    sum n x y all is = omega arith

pub on_ok : {T E : Type 0} {P Q : Type 0} (r : Result T E) → (P → Q) → OnOk r P → OnOk r Q
on_ok (Ok x) f h = f h
on_ok (Err x) f h = h

-- before the first round
pub none_counted : (client : ClientView) → client.answered ≡ [] → HasCounted 0 client (record { answered = 0; differing = 0 })
none_counted client fresh = record { by_round = []; all = refl; brought = ap successes fresh; answered = refl; differs = refl }

-- a round after the others
pub counts_round : (rounds : ℕ) (old new : ClientView) (before after : Tally) → new.client ≡ old.client → HasCounted rounds old before → CountsAll (byte_of old.client rounds) old before new after
    → HasCounted (rounds + 1) new after
counts_round rounds old new before after same kept more = record {
  by_round = kept.by_round ++ (more.brought ∷ []);
  all = length-append kept.by_round (more.brought ∷ []) ∙ ap (λ n. n + 1) kept.all;
  brought = ap successes more.brings.adds ∙ successes_joined old.answered more.brings.added ∙ ap (λ l. l ++ successes more.brings.added) kept.brought
      ∙ ap (λ l. joined kept.by_round ++ l) more.brings.are ∙ sym (joined_more kept.by_round more.brought);
  answered = ap (λ t. t.answered) more.counts ∙ ap (λ n. n + length more.brought) kept.answered ∙ sym (length-append (joined kept.by_round) more.brought)
      ∙ ap (λ l. length l) (sym (joined_more kept.by_round more.brought));
  differs = ap (λ t. t.differing) more.counts ∙ ap (λ n. n + differing (byte_of old.client rounds) more.brought) kept.differs
      ∙ ap (λ n. differing_from old.client 0 kept.by_round + differing (byte_of old.client n) more.brought) at
      ∙ sym (differing_more old.client 0 kept.by_round more.brought)
      ∙ ap (λ n. differing_from n 0 (kept.by_round ++ (more.brought ∷ []))) (sym same);
}
  where
    at : rounds ≡ 0 + length kept.by_round
    at = let h = kept.all in omega arith

-- ALL CLIENTS

total_same : (n : ℕ) (f g : ℕ → ℕ) → ((c : ℕ) → c < n → f c ≡ g c) → total n f ≡ total n g
total_same zero f g same = refl
total_same (suc n) f g same =
    let rest : total n f ≡ total n g = total_same n f g (λ c below. same c (omega arith)) in
    let last : f n ≡ g n = same n (omega arith) in
    cc (rest, last)

-- the tallies of the first clients, and behind them this one
abbrev with_one : (ℕ → Tally) → Tally → ℕ → ℕ → Tally
with_one tallies one done c = if nat_lt c done then tallies c else one

earlier : (tallies : ℕ → Tally) (one : Tally) (done c : ℕ) → c < done → with_one tallies one done c ≡ tallies c
earlier tallies one done c below = ap (λ b. if b then tallies c else one) (is_lt c done below)
  where
    is_lt : (a b : ℕ) → a < b → nat_lt a b ≡ true
    is_lt a b h = grind (arith, nat_tests)

last : (tallies : ℕ → Tally) (one : Tally) (done : ℕ) → with_one tallies one done done ≡ one
last tallies one done = ap (λ b. if b then tallies done else one) (not_lt done)
  where
    not_lt : (a : ℕ) → nat_lt a a ≡ false
    not_lt a = grind (arith, nat_tests)

pub none_of : (a b : Bool) → (a || b) ≡ false → (a ≡ false) × (b ≡ false)
none_of false b e = (refl, e)
none_of true b e = absurd (cc (e))

pub tallied : (count rounds : ℕ) (trace : List TraceEntry) (clients : List ClientView) (tally : Tally) → AreNumbered count clients → AreCounted count rounds clients tally → AreBorneOut trace (length clients) clients → IsTallied count rounds trace tally
tallied count rounds trace clients tally numbered counted stand =
    record { clients = clients; numbered = numbered; counted = counted; stand = subst (λ n. AreBorneOut trace n clients) numbered.all stand }

-- before the first client
pub no_clients : (rounds : ℕ) (clients : List ClientView) → AreCounted 0 rounds clients (record { answered = 0; differing = 0 })
no_clients rounds clients = record { tallies = (λ c. record { answered = 0; differing = 0 }); each = (λ c below. absurd (omega (arith, below))); answered = refl; differs = refl }

-- one client more
module _ (done rounds : ℕ) (old all : List ClientView) (t one sum : Tally)
    (before : (i : ℕ) → i < done → client_at all i ≡ client_at old i) (more : HasCounted rounds (client_at all done) one)
    (answered : sum.answered ≡ t.answered + one.answered) (differs : sum.differing ≡ t.differing + one.differing) (counted : AreCounted done rounds old t) where
  counted_too : AreCounted (suc done) rounds all sum
  counted_too =
      let tallies : ℕ → Tally = with_one counted.tallies one done in
      let rest-answered : total done (λ c. (tallies c).answered) ≡ total done (λ c. (counted.tallies c).answered) = total_same done _ _ (λ c below. ap (λ t. t.answered) (earlier counted.tallies one done c below)) in
      let rest-differs : total done (λ c. (tallies c).differing) ≡ total done (λ c. (counted.tallies c).differing) = total_same done _ _ (λ c below. ap (λ t. t.differing) (earlier counted.tallies one done c below)) in
      let last-answered : (tallies done).answered ≡ one.answered = ap (λ t. t.answered) (last counted.tallies one done) in
      let last-differs : (tallies done).differing ≡ one.differing = ap (λ t. t.differing) (last counted.tallies one done) in
      record {
        tallies = tallies;
        each = (λ c below. below_more (λ i. HasCounted rounds (client_at all i) (tallies i)) done
            (λ i low. subst (λ v. HasCounted rounds v (tallies i)) (sym (before i low)) (subst (λ t. HasCounted rounds (client_at old i) t) (sym (earlier counted.tallies one done i low)) (counted.each i low)))
            (subst (λ t. HasCounted rounds (client_at all done) t) (sym (last counted.tallies one done)) more) c (omega arith));
        answered = answered ∙ cc (counted.answered, rest-answered, last-answered);
        differs = differs ∙ cc (counted.differs, rest-differs, last-differs);
      }

  pub one_more : AreCounted (done + 1) rounds all sum
  one_more = let same : suc done ≡ done + 1 = omega arith in subst (λ n. AreCounted n rounds all sum) same counted_too
