-- The place of a request where a sector lies.
use Rattle.std.proofs.Common.{◌≡◌, ◌<◌, ◌≤◌, ℕ, ◌+◌, ◌-◌, ◌&&◌, Bool, true, false, not, Option, Some, None, refl, arith}
use Rattle.std.specs.Prelude.{is_none, nat_le, nat_lt, slice_get}
use Rattle.std.proofs.lemmas.Bool.{and_parts, and_from}
use Rattle.std.proofs.lemmas.Bool.Decides.{nat_tests}
use Rattle.sector.specs.declared.Extent.{Extent}
use Rattle.machine.specs.declared.ClientRequest.{ClientRequest}
use Rattle.machine.specs.Rules.{Rules, first_sector, home, is_in_bounds, is_transfer, place_count}
use Rattle.loss.specs.Laws.{sector_of}
use Rattle.history_loss.specs.Schedules.{IsAt}
use Rattle.history_loss_sights.specs.Sights.{has_sector, place_of}

-- sectors of a partition lie in a row
abbrev Base : Rules → Option ℕ → Type 0
Base rules p = (b : ℕ) × ((x : ℕ) → home rules p x ≡ b + x)

base_of : (rules : Rules) (p : Option ℕ) → Base rules p
base_of rules None = (0, λ x. omega arith)
base_of rules (Some p) = by_entry (slice_get rules.partitions p)
  where
    by_entry : (e : Option Extent) → (b : ℕ) × ((x : ℕ) → (elim e [ Some extent ↦ extent.first + x | None ↦ x ]) ≡ b + x)
    by_entry None = (0, λ x. omega arith)
    by_entry (Some extent) = (extent.first, λ x. refl)

from_le : (a b : ℕ) → a ≤ b → nat_le a b ≡ true
from_le a b h = grind (arith, nat_tests)

from_lt : (a b : ℕ) → a < b → nat_lt a b ≡ true
from_lt a b h = grind (arith, nat_tests)

to_le : (a b : ℕ) → nat_le a b ≡ true → a ≤ b
to_le a b h = grind (arith, nat_tests)

to_lt : (a b : ℕ) → nat_lt a b ≡ true → a < b
to_lt a b h = grind (arith, nat_tests)

not_false : (b : Bool) → b ≡ false → not b ≡ true
not_false true e = absurd (cc (e))
not_false false e = refl

false_of : (b : Bool) → not b ≡ true → b ≡ false
false_of true e = absurd (cc (e))
false_of false e = refl

module _ (rules : Rules) (i : ℕ) (q : ClientRequest) where
  -- counted from the first
  in_row : (place : ℕ) → sector_of rules q place ≡ sector_of rules q 0 + place
  in_row place =
      let base : Base rules q.partition = base_of rules q.partition in
      let x : sector_of rules q place ≡ base.0 + (first_sector rules q + place) = base.1 (first_sector rules q + place) in
      let y : sector_of rules q 0 ≡ base.0 + (first_sector rules q + 0) = base.1 (first_sector rules q + 0) in
      omega (arith, x, y)

  pub place_is : (place : ℕ) → IsAt rules i q place → place_of rules i q ≡ place
  place_is place at = let row = in_row place in let is = at.sector in omega (arith, row, is)

  pub at_has : (place : ℕ) → IsAt rules i q place → has_sector rules i q ≡ true
  at_has place at =
      let row : sector_of rules q place ≡ sector_of rules q 0 + place = in_row place in
      let is : sector_of rules q place ≡ i = at.sector in
      let inside : place < place_count rules q = at.inside in
      let low : nat_le (sector_of rules q 0) i ≡ true = from_le (sector_of rules q 0) i (omega (arith, row, is)) in
      let high : nat_lt i (sector_of rules q 0 + place_count rules q) ≡ true = from_lt i (sector_of rules q 0 + place_count rules q) (omega (arith, row, is, inside)) in
      and_from (not (is_none q.partition) && (is_transfer q.kind && is_in_bounds rules q)) _
      (and_from (not (is_none q.partition)) _ (not_false (is_none q.partition) at.admitted.known) (and_from (is_transfer q.kind) _ at.transfer (at.admitted.in_bounds at.transfer)))
      (and_from (nat_le (sector_of rules q 0) i) _ low high)

  pub has_at : has_sector rules i q ≡ true → IsAt rules i q (place_of rules i q)
  has_at e =
      let both : _ × _ = and_parts (not (is_none q.partition) && (is_transfer q.kind && is_in_bounds rules q)) _ e in
      let kind : _ × _ = and_parts (not (is_none q.partition)) _ both.0 in
      let of_kind : _ × _ = and_parts (is_transfer q.kind) _ kind.1 in
      let place : _ × _ = and_parts (nat_le (sector_of rules q 0) i) _ both.1 in
      let low : sector_of rules q 0 ≤ i = to_le (sector_of rules q 0) i place.0 in
      let high : i < sector_of rules q 0 + place_count rules q = to_lt i (sector_of rules q 0 + place_count rules q) place.1 in
      let row : sector_of rules q (i - sector_of rules q 0) ≡ sector_of rules q 0 + (i - sector_of rules q 0) = in_row (i - sector_of rules q 0) in
      record {
        admitted = record { known = false_of (is_none q.partition) kind.0; in_bounds = λ t. of_kind.1 };
        transfer = of_kind.0;
        sector = omega (arith, row, low);
        inside = omega (arith, low, high);
      }
