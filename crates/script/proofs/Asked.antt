-- What words ask for, argument by argument.
use Rattle.std.proofs.Common.{◌≡◌, ◌↔◌, ◌+◌, ◌*◌, ℕ, Bool, IsTrue, List, [], ◌∷◌, Option, None, Some, slice_get, arith, ap, codes, drop, false, length, true, refl, slice_index, subst, sym}
use Rattle.script.proofs.Common.{then_some, AllZip, Order, Argument, Asks, Byte, Finds, FirstSpells, Length, Number, Spells, request_of, through_of, verb_of}
use Rattle.script.specs.declared.Order.TheVariants.{Read, Write, Cancel}

-- an argument and those after it
pub first_spells : (words rest : List (List ℕ)) (a : Argument) (more : List Argument) → rest ≡ drop 1 words → AllZip Spells words (a ∷ more)
    → FirstSpells words a × AllZip Spells rest more
first_spells [] rest a more e h = absurd h
first_spells (word ∷ words) rest a more e h = (h.0, subst (λ ws. AllZip Spells ws more) (sym e) h.1)

pub spells_more : (words rest : List (List ℕ)) (a : Argument) (more : List Argument) → rest ≡ drop 1 words → FirstSpells words a → AllZip Spells rest more
    → AllZip Spells words (a ∷ more)
spells_more [] rest a more e first h = absurd first
spells_more (word ∷ words) rest a more e first h = (first, subst (λ ws. AllZip Spells ws more) e h)

pub no_more : (words : List (List ℕ)) → AllZip Spells words [] → words ≡ []
no_more [] h = refl
no_more (word ∷ words) h = absurd h

pub spells_no_more : (words : List (List ℕ)) → words ≡ [] → AllZip Spells words []
spells_no_more words e = subst (λ ws. AllZip Spells ws []) (sym e) tt

-- a length is a number
pub length_is_number : (words : List (List ℕ)) (n : ℕ) → FirstSpells words (Length n) → FirstSpells words (Number n)
length_is_number [] n h = absurd h
length_is_number (word ∷ words) n h = h.0

-- nothing is found, as nothing is there
pub finds_none : {A : Type 0} (P : A → Type 0) (found : Option A) → found ≡ None → ((x : A) → ¬ (P x)) → Finds P found
finds_none P found e none = subst (Finds P) (sym e) none

-- what is found where the words end, and nothing where they go on
pub finds_at_end : {A : Type 0} (P : A → Type 0) (x : A) (rest : List (List ℕ)) (b : Bool) (found : Option A) → found ≡ then_some b x → (IsTrue b ↔ (rest ≡ []))
    → (AllZip Spells rest [] → P x) → ((y : A) → P y → AllZip Spells rest []) → Finds P found
finds_at_end P x rest true found e ends here there = subst (Finds P) (sym e) (here (spells_no_more rest (ends.0 refl)))
finds_at_end P x rest false found e ends here there = subst (Finds P) (sym e) (λ y h. absurd (cc (ends.1 (no_more rest (there y h)))))

-- three arguments and those after them
module _ (words rest_1 rest_2 rest_3 : List (List ℕ)) (a b c : Argument) (more : List Argument) (e_1 : rest_1 ≡ drop 1 words) (e_2 : rest_2 ≡ drop 1 rest_1) (e_3 : rest_3 ≡ drop 1 rest_2) where
  pub three_spelled : AllZip Spells words (a ∷ b ∷ c ∷ more) → FirstSpells words a × FirstSpells rest_1 b × FirstSpells rest_2 c × AllZip Spells rest_3 more
  three_spelled h =
      let first = first_spells words rest_1 a (b ∷ c ∷ more) e_1 h in
      let second = first_spells rest_1 rest_2 b (c ∷ more) e_2 first.1 in
      let third = first_spells rest_2 rest_3 c more e_3 second.1 in
      (first.0, second.0, third.0, third.1)

  pub three_more : FirstSpells words a → FirstSpells rest_1 b → FirstSpells rest_2 c → AllZip Spells rest_3 more → AllZip Spells words (a ∷ b ∷ c ∷ more)
  three_more x y z h = spells_more words rest_1 a (b ∷ c ∷ more) e_1 x (spells_more rest_1 rest_2 b (c ∷ more) e_2 y (spells_more rest_2 rest_3 c more e_3 z h))

-- two words that begin with different letters, or are not as long, are not the same
apart : (v w : List ℕ) → ¬ (slice_index v 0 + 256 * length v ≡ slice_index w 0 + 256 * length w) → ¬ (v ≡ w)
apart v w differ e = differ (ap (λ u. slice_index u 0 + 256 * length u) e)

pub read_is : (words : List (List ℕ)) (order : Order) → Asks (codes "read" ∷ words) order
    → (handle : ℕ) × (offset : ℕ) × (count : ℕ) × AllZip Spells words (Number handle ∷ Number offset ∷ Length count ∷ [])
read_is words (Read handle offset count) h = (handle, offset, count, h.1)
read_is words order h = absurd (apart (codes "read") (verb_of order) (λ e. omega (arith, e)) h.0)

pub write_is : (words : List (List ℕ)) (order : Order) → Asks (codes "write" ∷ words) order
    → (handle : ℕ) × (offset : ℕ) × (count : ℕ) × (byte : ℕ) × (through : Bool) × AllZip Spells words (Number handle ∷ Number offset ∷ Length count ∷ Byte byte ∷ through_of through)
write_is words (Write handle offset count byte through) h = (handle, offset, count, byte, through, h.1)
write_is words order h = absurd (apart (codes "write") (verb_of order) (λ e. omega (arith, e)) h.0)

pub cancel_is : (words : List (List ℕ)) (order : Order) → Asks (codes "cancel" ∷ words) order → (handle : ℕ) × (request : Option ℕ) × AllZip Spells words (Number handle ∷ request_of request)
cancel_is words (Cancel handle request) h = (handle, request, h.1)
cancel_is words order h = absurd (apart (codes "cancel") (verb_of order) (λ e. omega (arith, e)) h.0)

-- through is the last word, or another word stands behind it
through_rest : (through : Bool) (word : List ℕ) (words rest : List (List ℕ)) → rest ≡ words → AllZip Spells (word ∷ words) (through_of through) → AllZip Spells rest []
through_rest true word words rest e h = subst (λ ws. AllZip Spells ws []) (sym e) h.1
through_rest false word words rest e h = absurd h

pub through_found : (words rest : List (List ℕ)) (word : List ℕ) (b : Bool) (found : Option Bool) → Some word ≡ slice_get words 0 → word ≡ codes "through" → rest ≡ drop 1 words
    → found ≡ then_some b true → (IsTrue b ↔ (rest ≡ [])) → Finds (λ through. AllZip Spells words (through_of through)) found
through_found [] rest word b found first is e given ends = absurd (cc (first))
through_found (one ∷ words) rest word b found first is e given ends =
    finds_at_end (λ through. AllZip Spells (one ∷ words) (through_of through)) true rest b found given ends
    (λ h. (cc (first, is), subst (λ ws. AllZip Spells ws []) e h)) (λ through h. through_rest through one words rest e h)

-- words are left, and are no number of a request
no_request : (words : List (List ℕ)) (b : Bool) (request : Option ℕ) → b ≡ false → (IsTrue b ↔ (words ≡ [])) → ((n : ℕ) → ¬ (AllZip Spells words (Number n ∷ [])))
    → ¬ (AllZip Spells words (request_of request))
no_request words b (Some n) some ends none h = none n h
no_request words b None some ends none h = let at_end : IsTrue b = ends.1 (no_more words h) in absurd (cc (some, at_end))

pub no_request_found : (words : List (List ℕ)) (b : Bool) (found : Option (Option ℕ)) → found ≡ None → b ≡ false → (IsTrue b ↔ (words ≡ []))
    → ((n : ℕ) → ¬ (AllZip Spells words (Number n ∷ []))) → Finds (λ request. AllZip Spells words (request_of request)) found
no_request_found words b found e some ends none =
    finds_none (λ request. AllZip Spells words (request_of request)) found e (λ request h. no_request words b request some ends none h)
