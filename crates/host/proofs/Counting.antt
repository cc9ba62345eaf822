-- A client claims as many calls as it made, and all clients together as many as there are: so each claims just its row's.
use Rattle.host.proofs.Common.{◌≡◌, ◌≢◌, ℕ, zero, suc, ◌+◌, ◌-◌, ◌<◌, ◌≤◌, ◌==◌, ◌&&◌, if◌then◌else◌, Bool, true, false, List, [], ◌∷◌, length, Option, Some, refl, sym, ap, ◌∙◌, subst, arith, slice_get, slice_index_or, slice_get-get_or, nat_tests, Label, AllStand, TraceEntry, AreRowed, HasOwner, calls, is_call, is_row, owner_of, row_of, Receipt, AreCalls, AreRising, places_of, ClientView, client_at, AreBorneOut, call_places, total}
use mathlib.Core.Logic.{dite}
use native.Mathlib.Decide.{ℕ_discrete}
use Rattle.machine.specs.declared.Label.TheVariants.{Call, Device, Answer, Cancel, Pause, Resume, Remove, Surprise, Removed}

-- SUMS

pub total_next : (n : ℕ) (f : ℕ → ℕ) → total (n + 1) f ≡ total n f + f n
total_next n f = let e : n + 1 ≡ suc n = omega arith in ap (λ (k : ℕ). total k f) e

pub total_same : (n : ℕ) (f g : ℕ → ℕ) → ((c : ℕ) → c < n → f c ≡ g c) → total n f ≡ total n g
total_same zero f g same = refl
total_same (suc n) f g same = omega (arith, total_same n f g (λ c less. same c (omega arith)), same n (omega arith))

total_le : (n : ℕ) (f g : ℕ → ℕ) → ((c : ℕ) → c < n → f c ≤ g c) → total n f ≤ total n g
total_le zero f g le = omega arith
total_le (suc n) f g le = let a = total_le n f g (λ c less. le c (omega arith)) in let b = le n (omega arith) in omega arith

total_add : (n : ℕ) (f g : ℕ → ℕ) → total n (λ c. f c + g c) ≡ total n f + total n g
total_add zero f g = refl
total_add (suc n) f g = let a = total_add n f g in omega arith

total_none : (n : ℕ) → total n (λ c. 0) ≡ 0
total_none zero = refl
total_none (suc n) = omega (arith, total_none n)

-- where each is at most as much and the sums are the same, each is the same
total_each : (n : ℕ) (f g : ℕ → ℕ) → ((c : ℕ) → c < n → f c ≤ g c) → total n f ≡ total n g → (c : ℕ) → c < n → f c ≡ g c
total_each zero f g le same c less = absurd (omega arith)
total_each (suc n) f g le same c less =
    let rest = total_le n f g (λ d l. le d (omega arith)) in
    let last = le n (omega arith) in
    let end : f n ≡ g n = omega arith in
    let before : total n f ≡ total n g = omega arith in
    dite (ℕ_discrete c n)
    (λ (e : c ≡ n). subst (λ (k : ℕ). f k ≡ g k) (sym e) end)
    (λ (ne : c ≢ n). total_each n f g (λ d l. le d (omega arith)) before c (omega arith))

-- EACH CALL IS IN ONE ROW

abbrev one : Bool → ℕ
one true = 1
one false = 0

eqb_is : (c d : ℕ) → c ≡ d → (c == d) ≡ true
eqb_is c d e = grind (arith, nat_tests)

eqb_not : (c d : ℕ) → c ≢ d → (c == d) ≡ false
eqb_not c d ne = grind (arith, nat_tests)

total_absent : (n d : ℕ) → n ≤ d → total n (λ c. one (c == d)) ≡ 0
total_absent zero d less = refl
total_absent (suc n) d less = omega (arith, total_absent n d (omega arith), ap one (eqb_not n d (λ e. omega arith)))

total_once : (n d : ℕ) → d < n → total n (λ c. one (c == d)) ≡ 1
total_once zero d less = absurd (omega arith)
total_once (suc n) d less =
    dite (ℕ_discrete n d)
    (λ (e : n ≡ d). omega (arith, total_absent n d (omega arith), ap one (eqb_is n d e)))
    (λ (ne : n ≢ d). omega (arith, total_once n d (omega arith), ap one (eqb_not n d ne)))

-- each call is in the row of a client
abbrev pub AreCallsOf : ℕ → List TraceEntry → Type 0
AreCallsOf n [] = Unit {0}
AreCallsOf n (e ∷ es) = (is_call e.label ≡ true → (d : ℕ) × (e.row ≡ Some d) × (d < n)) × AreCallsOf n es

own_call : (n k : ℕ) (owners : List ℕ) (row : Option ℕ) → 0 < k → k ≤ length owners → row ≡ owner_of owners k → ((number c : ℕ) → owner_of owners number ≡ Some c → c < n) → (d : ℕ) × (row ≡ Some d) × (d < n)
own_call n k owners row some few is owned =
    let at = slice_get-get_or owners (k - 1) 0 (omega arith) in
    (slice_index_or owners (k - 1) 0, is ∙ at, owned k (slice_index_or owners (k - 1) 0) at)

own_head : (n : ℕ) (owners : List ℕ) (row : Option ℕ) (l : Label) → HasOwner owners l → row ≡ row_of owners l → ((number c : ℕ) → owner_of owners number ≡ Some c → c < n) → is_call l ≡ true → (d : ℕ) × (row ≡ Some d) × (d < n)
own_head n owners row (Call k q) has is owned call = own_call n k owners row has.0 has.1 is owned
own_head n owners row _ has is owned call = absurd (cc)

pub calls_of : (n : ℕ) (owners : List ℕ) (es : List TraceEntry) → AreRowed owners es → ((number c : ℕ) → owner_of owners number ≡ Some c → c < n) → AreCallsOf n es
calls_of n owners [] all owned = tt
calls_of n owners (e ∷ es) all owned = (own_head n owners e.row e.label all.0.0 all.0.1 owned, calls_of n owners es all.1 owned)

length_if : {A : Type 0} (b : Bool) (x : A) (xs : List A) → length (if b then x ∷ xs else xs) ≡ one b + length xs
length_if true x xs = omega arith
length_if false x xs = omega arith

pub counted : (n from : ℕ) (es : List TraceEntry) → AreCallsOf n es → total n (λ c. length (call_places c from es)) ≡ calls es
counted n from [] all = total_none n
counted n from (e ∷ es) all =
    let rest = counted n (suc from) es all.1 in
    let split : total n (λ c. length (call_places c from (e ∷ es))) ≡ total n (λ c. one (is_call e.label && is_row c e.row)) + total n (λ c. length (call_places c (suc from) es)) =
    total_same n (λ c. length (call_places c from (e ∷ es))) (λ c. one (is_call e.label && is_row c e.row) + length (call_places c (suc from) es)) (λ c less. length_if (is_call e.label && is_row c e.row) from (call_places c (suc from) es))
    ∙ total_add n (λ c. one (is_call e.label && is_row c e.row)) (λ c. length (call_places c (suc from) es)) in
    split ∙ go (is_call e.label) all.0 rest
  where
    go : (b : Bool) → (b ≡ true → (d : ℕ) × (e.row ≡ Some d) × (d < n)) → total n (λ c. length (call_places c (suc from) es)) ≡ calls es
        → total n (λ c. one (b && is_row c e.row)) + total n (λ c. length (call_places c (suc from) es)) ≡ (if b then suc (calls es) else calls es)
    go true own rest =
        let o = own refl in
        let once : total n (λ c. one (is_row c e.row)) ≡ 1 = ap (λ (r : Option ℕ). total n (λ c. one (is_row c r))) o.1 ∙ total_once n o.0 o.2 in
        omega (arith, once, rest)
    go false own rest = omega (arith, total_none n, rest)

-- WHAT IS CLAIMED IN RISING PLACES IS AT MOST THE ROW, AND IF AS MUCH, THEN THE ROW

-- claims stand, where the entries begin at a place
abbrev StandFrom : ℕ → List TraceEntry → List Receipt → Type 0
StandFrom from es [] = Unit {0}
StandFrom from es (c ∷ cs) = (slice_get es (c.0 - from) ≡ Some c.1) × StandFrom from es cs

stand_zero : (es : List TraceEntry) (cs : List Receipt) → AllStand es cs → StandFrom 0 es cs
stand_zero es [] all = tt
stand_zero es (c ∷ cs) all = (subst (λ (k : ℕ). slice_get es k ≡ Some c.1) (omega arith) all.0, stand_zero es cs all.1)

stand_later : (from low : ℕ) (e : TraceEntry) (es : List TraceEntry) (cs : List Receipt) → suc from ≤ low → AreRising low cs → StandFrom from (e ∷ es) cs → StandFrom (suc from) es cs
stand_later from low e es [] less rising all = tt
stand_later from low e es (c ∷ cs) less rising all =
    let at : c.0 - from ≡ suc (c.0 - suc from) = let r = rising.0 in omega arith in
    (subst (λ (k : ℕ). slice_get (e ∷ es) k ≡ Some c.1) at all.0, stand_later from (suc c.0) e es cs (let r = rising.0 in omega arith) rising.1 all.1)

some_same : (x y : TraceEntry) → Some x ≡ Some y → x ≡ y
some_same x y e = cc

empty_is : (xs : List ℕ) → 0 ≡ length xs → [] ≡ xs
empty_is [] e = refl
empty_is (x ∷ xs) e = absurd (omega arith)

abbrev Covers : List Receipt → List ℕ → Type 0
Covers cs places = (length cs ≤ length places) × (length cs ≡ length places → places_of cs ≡ places)

skips : (b : Bool) (from : ℕ) (cs : List Receipt) (places : List ℕ) → Covers cs places → Covers cs (if b then from ∷ places else places)
skips true from cs places all = (let a = all.0 in omega arith, λ same. let a = all.0 in absurd (omega arith))
skips false from cs places all = all

takes : (from p : ℕ) (e : TraceEntry) (cs : List Receipt) (places : List ℕ) → p ≡ from → Covers cs places → Covers ((p, e) ∷ cs) (from ∷ places)
takes from p e cs places here all = (let a = all.0 in omega arith, λ same. (λ i. here i ∷ all.1 (omega arith) i))

pub covers : (c from : ℕ) (es : List TraceEntry) (cs : List Receipt) → AreRising from cs → AreCalls c cs → StandFrom from es cs → Covers cs (call_places c from es)
covers c from es [] rising own stand = (omega arith, λ same. empty_is (call_places c from es) same)
covers c from [] (r ∷ rs) rising own stand = absurd (cc)
covers c from (e ∷ es) (r ∷ rs) rising own stand =
    dite (ℕ_discrete r.0 from)
    (λ (here : r.0 ≡ from).
    let at : r.0 - from ≡ 0 = omega arith in
    let same : e ≡ r.1 = some_same e r.1 (subst (λ (k : ℕ). slice_get (e ∷ es) k ≡ Some r.1) at stand.0) in
    let mine : (is_call e.label && is_row c e.row) ≡ true =
    ap (λ (x : TraceEntry). is_call x.label && is_row c x.row) same ∙ (λ i. own.0.call i && is_row c (own.0.row i)) ∙ eqb_is c c refl in
    let later = covers c (suc from) es rs (subst (λ (k : ℕ). AreRising (suc k) rs) here rising.1) own.1 (stand_later from (suc from) e es rs (omega arith) (subst (λ (k : ℕ). AreRising (suc k) rs) here rising.1) stand.1) in
    subst (λ (b : Bool). Covers (r ∷ rs) (if b then from ∷ call_places c (suc from) es else call_places c (suc from) es)) (sym mine) (takes from r.0 r.1 rs (call_places c (suc from) es) here later))
    (λ (ne : r.0 ≢ from).
    let low : suc from ≤ r.0 = let x = rising.0 in omega arith in
    skips (is_call e.label && is_row c e.row) from (r ∷ rs) (call_places c (suc from) es)
    (covers c (suc from) es (r ∷ rs) (low, rising.1) own (stand_later from (suc from) e es (r ∷ rs) (omega arith) (low, rising.1) stand)))

-- THE ROWS' CALLS ARE THE CLIENTS'

pub just : (n : ℕ) (owners : List ℕ) (es : List TraceEntry) (clients : List ClientView) → AreRowed owners es → ((number c : ℕ) → owner_of owners number ≡ Some c → c < n)
    → AreBorneOut es n clients → ((c : ℕ) → c < n → (client_at clients c).client ≡ c) → total n (λ c. length (client_at clients c).called) ≡ calls es
    → (c : ℕ) → c < n → call_places c 0 es ≡ places_of (client_at clients c).called
just n owners es clients rowed owned borne numbers sum c less =
    let cover : (d : ℕ) → d < n → Covers (client_at clients d).called (call_places d 0 es) =
    λ d l. let b = borne d l in covers d 0 es (client_at clients d).called b.rising (subst (λ (k : ℕ). AreCalls k (client_at clients d).called) (numbers d l) b.calls) (stand_zero es (client_at clients d).called b.calls_stand) in
    let each = total_each n (λ d. length (client_at clients d).called) (λ d. length (call_places d 0 es)) (λ d l. (cover d l).0) (sum ∙ sym (counted n 0 es (calls_of n owners es rowed owned))) c less in
    sym ((cover c less).1 each)
