-- Lower requests are counted by their numbers.
use Rattle.std.proofs.Common.{◌≡◌, ℕ, List, [], ◌∷◌, Some, refl, ◌∙◌, ap, map}
use Rattle.std.specs.Prelude.{◌+◌, count_by, nat_le, ◌||◌, if◌then◌else◌}
use Rattle.std.proofs.lemmas.List.Folds.{fold-map}
use Rattle.machine.specs.State.{OpenRequest}
use Rattle.machine.specs.Numbers.{request_number}
use Rattle.machine.specs.Holding.{is_lower, beyond, held_back}
use Rattle.judge.specs.Views.{is_less, held_by}

counted : (number : ℕ) (requests : List OpenRequest) → count_by (is_less number) (map request_number requests) ≡ count_by (is_lower number) requests
counted number requests = fold-map (λ (a : ℕ) (x : ℕ). a + (if is_less number x then 1 else 0)) request_number 0 requests

held_alike : (window : ℕ) (numbers : List ℕ) (requests all : List OpenRequest) → ((n : ℕ) → count_by (is_less n) numbers ≡ count_by (is_lower n) all) → map (held_by window numbers) requests ≡ map (beyond window all) requests
held_alike window numbers [] all h = refl
held_alike window numbers (o ∷ os) all h = cc (ap (λ n. record o { late = o.late || nat_le window n }) (h o.number), held_alike window numbers os all h)

pub held_so : (window : ℕ) (numbers : List ℕ) (requests : List OpenRequest) → numbers ≡ map request_number requests → map (held_by window numbers) requests ≡ held_back (Some window) requests
held_so window numbers requests e = held_alike window numbers requests requests (λ n. ap (count_by (is_less n)) e ∙ counted n requests)
