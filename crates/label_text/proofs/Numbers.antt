-- Numbers, as they are written and read.
use Rattle.std.proofs.Common.{◌≡◌, ◌^◌, ◌<◌, ◌≤◌, ◌&&◌, ◌∙◌, ℕ, Bool, List, [], ◌∷◌, Option, Some, None, Result, Ok, All, arith, ap, cond, false, true, nat_lt, refl, subst, sym}
use Rattle.std.specs.Fmt.{decimal}
use Rattle.std.specs.Result.{result_ok}
use Rattle.std.specs.Bool.{then_some}
use Rattle.std.specs.Str.{bytes_eq}
use Rattle.std.specs.Str.Parse.{AllDigits, ParsesUnsigned, digits_value}
use Rattle.std.proofs.lemmas.Bool.{and_parts, and_from}
use Rattle.std.proofs.lemmas.Bool.Decides.{Decides-ltb}
use Rattle.std.proofs.lemmas.Fmt.{decimal_is_IsNumeral_wide, parse-decimal_wide}
use Rattle.std.proofs.lemmas.List.Elements.{All-cons, All-nil}
use Rattle.std.proofs.lemmas.Slice.Eq.{bytes_eq-Decides}
use Rattle.std.proofs.lemmas.Str.Parse.{digit_from_value}
use Rattle.label_text.specs.inside.Reading.{number_in}

-- all bytes are above this one
abbrev pub IsAbove : ℕ → List ℕ → Type 0
IsAbove c bytes = All (λ b. c < b) bytes

digits_above : (ds : List ℕ) → AllDigits 10 ds → IsAbove 47 ds
digits_above [] h = All-nil (λ b. 47 < b)
digits_above (d ∷ ds) h = All-cons (λ b. 47 < b) d ds (omega (arith, digit_from_value d h.0)) (digits_above ds h.1)

-- no number of these types is as large as the library's lemmas allow
wide : (bits n : ℕ) → 2 ^ bits ≤ 10 ^ 64 → n < 2 ^ bits → n < 10 ^ 64
wide bits n most small = omega arith

pub decimal_above : (bits n : ℕ) → 2 ^ bits ≤ 10 ^ 64 → n < 2 ^ bits → IsAbove 47 (decimal n)
decimal_above bits n most small = digits_above (decimal n) (decimal_is_IsNumeral_wide n (wide bits n most small)).0.1

-- what is read is what is written
pub number_is : (bits n : ℕ) → 2 ^ bits ≤ 10 ^ 64 → n < 2 ^ bits → number_in bits (decimal n) ≡ Some n
number_is bits n most small =
    let value : digits_value 10 (decimal n) ≡ n = (decimal_is_IsNumeral_wide n (wide bits n most small)).1 in
    ap (λ v. cond (nat_lt v (2 ^ bits) && bytes_eq (decimal v) (decimal n)) (Some v) None) value
    ∙ ap (λ b. cond b (Some n) None) (and_from _ _ ((Decides-ltb n (2 ^ bits)).1 small) ((bytes_eq-Decides (decimal n) (decimal n)).1 refl))

number_by : (bits v n : ℕ) (word : List ℕ) (t : Bool) → (nat_lt v (2 ^ bits) && bytes_eq (decimal v) word) ≡ t → cond t (Some v) None ≡ Some n
    → (word ≡ decimal n) × (n < 2 ^ bits)
number_by bits v n word true e h =
    let both = and_parts (nat_lt v (2 ^ bits)) (bytes_eq (decimal v) word) e in
    let same : v ≡ n = cc (h) in
    (sym ((bytes_eq-Decides (decimal v) word).0 both.1) ∙ ap decimal same, subst (λ m. m < 2 ^ bits) same ((Decides-ltb v (2 ^ bits)).0 both.0))
number_by bits v n word false e h = absurd (cc (h))

pub number_some : (bits n : ℕ) (word : List ℕ) → number_in bits word ≡ Some n → (word ≡ decimal n) × (n < 2 ^ bits)
number_some bits n word h = number_by bits (digits_value 10 word) n word (nat_lt (digits_value 10 word) (2 ^ bits) && bytes_eq (decimal (digits_value 10 word)) word) refl h

-- a word that is no number
none_by : (bits : ℕ) (word : List ℕ) (found : Option ℕ) → number_in bits word ≡ found → ((n : ℕ) → n < 2 ^ bits → ¬ (word ≡ decimal n)) → found ≡ None
none_by bits word None e none = refl
none_by bits word (Some n) e none = let is = number_some bits n word e in absurd (none n is.1 is.0)

-- what `parse` made of a word, where it was compared with what is written
pub parsed : {E : Type 0} (bits : ℕ) (word : List ℕ) (r : Result ℕ E) → 2 ^ bits ≤ 10 ^ 64 → ParsesUnsigned bits 10 word r
    → (n : ℕ) → n < 2 ^ bits → word ≡ decimal n → r ≡ Ok n
parsed bits word r most h n small is = parse-decimal_wide bits n word r small (wide bits n most small) is h

pub read_number : {E : Type 0} (bits : ℕ) (word : List ℕ) (r : Result ℕ E) (n : ℕ) (t : Bool) (found : Option ℕ) → 2 ^ bits ≤ 10 ^ 64 → n < 2 ^ bits → ParsesUnsigned bits 10 word r
    → r ≡ Ok n → t ≡ bytes_eq (decimal n) word → found ≡ then_some t n → found ≡ number_in bits word
read_number bits word r n true found most small h is e given =
    given ∙ sym (ap (number_in bits) (sym ((bytes_eq-Decides (decimal n) word).0 (sym e))) ∙ number_is bits n most small)
read_number bits word r n false found most small h is e given =
    given ∙ sym (none_by bits word (number_in bits word) refl
    (λ m fits same. let one : n ≡ m = cc (is, parsed bits word r most h m fits same) in
    absurd (cc (e, (bytes_eq-Decides (decimal n) word).1 (ap decimal one ∙ sym same)))))

pub no_number : {E : Type 0} (bits : ℕ) (word : List ℕ) (r : Result ℕ E) (found : Option ℕ) → 2 ^ bits ≤ 10 ^ 64 → ParsesUnsigned bits 10 word r
    → result_ok r ≡ None → found ≡ None → found ≡ number_in bits word
no_number bits word r found most h is given =
    given ∙ sym (none_by bits word (number_in bits word) refl
    (λ m fits same. let one : result_ok r ≡ Some m = ap result_ok (parsed bits word r most h m fits same) in absurd (cc (is, one))))
