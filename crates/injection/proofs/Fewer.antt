-- Rules that were due are for fewer commands.
use Rattle.std.proofs.Common.{◌≡◌, ◌<◌, ◌≤◌, ℕ, ◌-◌, ◌==◌, ◌&&◌, ◌+◌, nat_lt, Bool, true, false, List, [], ◌∷◌, map, Option, Some, None, IfSome, if◌then◌else◌, arith, refl}
use Rattle.std.proofs.lemmas.Bool.Decides.{nat_tests}
use Rattle.std.proofs.lemmas.List.Sums.{sum_by-cons}
use Rattle.ntstatus.specs.First.{first_some, when}
use Rattle.sector.specs.declared.Extent.{Extent}
use Rattle.injection.specs.declared.Kind.{Kind}
use Rattle.injection.specs.declared.Rule.{Rule}
use Rattle.injection.specs.Rules.{behind, counts, is_due, kind_if_due, left, meets}

-- a rule behind a command, by whether it counts it and was due
abbrev stepped : Bool → Bool → Rule → Rule
stepped counted due r =
    if counted
    then (if due then record r { times = r.times - 1; wait = r.every - 1 } else record r { wait = r.wait - 1 })
    else r

stepped_no_more : (counted due : Bool) (r : Rule) → (stepped counted due r).times ≤ r.times
stepped_no_more true true r = omega arith
stepped_no_more true false r = omega arith
stepped_no_more false due r = omega arith

above : (n : ℕ) (b : Bool) → (nat_lt 0 n && b) ≡ true → 0 < n
above n b e = grind (arith, nat_tests)

stepped_fewer : (counted due : Bool) (r : Rule) → 0 < r.times → (counted && due) ≡ true → (stepped counted due r).times < r.times
stepped_fewer true true r lt e = omega arith
stepped_fewer true false r lt e = absurd (cc)
stepped_fewer false due r lt e = absurd (cc)

first : (a b : Bool) → (a && b) ≡ true → a ≡ true
first true b e = refl
first false b e = e

-- one rule
no_more : (asked : Extent) (r : Rule) → (behind asked r).times ≤ r.times
no_more asked r = stepped_no_more (counts asked r) (r.wait == 0) r

fewer : (asked : Extent) (r : Rule) → is_due asked r ≡ true → (behind asked r).times < r.times
fewer asked r due = stepped_fewer (counts asked r) (r.wait == 0) r (above r.times (meets r.sectors asked) (first (counts asked r) (r.wait == 0) due)) due

with_one : (r : Rule) (rules : List Rule) → left (r ∷ rules) ≡ r.times + left rules
with_one r rules = sum_by-cons (λ (x : Rule). x.times) r rules

added_le : (a b c d x y : ℕ) → x ≡ a + c → y ≡ b + d → a ≤ b → c ≤ d → x ≤ y
added_le a b c d x y is is' one rest = omega arith

added_lt : (a b c d x y : ℕ) → x ≡ a + c → y ≡ b + d → a < b → c ≤ d → x < y
added_lt a b c d x y is is' one rest = omega arith

added_le_lt : (a b c d x y : ℕ) → x ≡ a + c → y ≡ b + d → a ≤ b → c < d → x < y
added_le_lt a b c d x y is is' one rest = omega arith

-- and all of them
pub none_more : (asked : Extent) (rules : List Rule) → left (map (behind asked) rules) ≤ left rules
none_more asked [] = omega arith
none_more asked (r ∷ rules) =
    let one : (behind asked r).times ≤ r.times = no_more asked r in
    let rest : left (map (behind asked) rules) ≤ left rules = none_more asked rules in
    added_le (behind asked r).times r.times _ _ _ _ (with_one (behind asked r) (map (behind asked) rules)) (with_one r rules) one rest

-- where one was due, the first or a later one
some_of : (asked : Extent) (r : Rule) (rules : List Rule) (b : Bool) → is_due asked r ≡ b
    → IfSome (first_some (map (kind_if_due asked) rules)) (λ _. left (map (behind asked) rules) < left rules)
    → IfSome (first_some (when b r.kind ∷ map (kind_if_due asked) rules)) (λ _. left (map (behind asked) (r ∷ rules)) < left (r ∷ rules))
some_of asked r rules true due h = added_lt (behind asked r).times r.times _ _ _ _ (with_one (behind asked r) (map (behind asked) rules)) (with_one r rules) (fewer asked r due) (none_more asked rules)
some_of asked r rules false due h = later (first_some (map (kind_if_due asked) rules)) h
  where
    later : (found : Option Kind) → IfSome found (λ _. left (map (behind asked) rules) < left rules) → IfSome found (λ _. left (map (behind asked) (r ∷ rules)) < left (r ∷ rules))
    later None h = tt
    later (Some kind) h = added_le_lt (behind asked r).times r.times _ _ _ _ (with_one (behind asked r) (map (behind asked) rules)) (with_one r rules) (no_more asked r) h

pub some_fewer : (asked : Extent) (rules : List Rule) → IfSome (first_some (map (kind_if_due asked) rules)) (λ _. left (map (behind asked) rules) < left rules)
some_fewer asked [] = tt
some_fewer asked (r ∷ rules) = some_of asked r rules (is_due asked r) refl (some_fewer asked rules)
