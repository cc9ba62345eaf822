-- Which sectors of the disk a request moves.
use Rattle.std.proofs.Common.{◌≡◌, ◌<◌, ℕ, ◌+◌, ◌/◌, ◌^◌, ◌&&◌, Bool, true, false, not, Some, None, refl, sym, ◌∙◌, ap, arith}
use Rattle.std.specs.Prelude.{is_none, nat_le, nat_lt, if◌then◌else◌}
use Rattle.sector.specs.declared.Extent.{Extent}
use Rattle.machine.specs.declared.ClientRequest.{ClientRequest}
use Rattle.machine.specs.Rules.{Rules, is_transfer, is_in_bounds, first_sector, place_count, home}
use Rattle.loss.specs.Laws.{sector_of}
use Rattle.history_loss_sights.specs.Sights.{has_sector}
use Rattle.history_fitting.specs.Services.{within, moved}
use Rattle.history_loss_judge.specs.inside.Spans.{in_range, IsSpan, IsSpanOf}

and_false : (b : Bool) → (b && false) ≡ false
and_false true = refl
and_false false = refl

low_sum : (a b : ℕ) → a < 2 ^ 65 → b < 2 ^ 64 → a + b < 2 ^ 128
low_sum a b h k = omega (arith, h, k)

count_low : (a b : ℕ) → a + b < 2 ^ 64 → b < 2 ^ 64
count_low a b h = omega (arith, h)

abbrev extent_of : Rules → ClientRequest → Extent
extent_of rules q = record { first = first_sector rules q; count = q.length / rules.sector_size }

-- a request of no partition moves nothing
pub span_none : (rules : Rules) (q : ClientRequest) → q.partition ≡ None → IsSpanOf rules q None
span_none rules q none = λ i.
    ap (λ o. (not (is_none o) && (is_transfer q.kind && is_in_bounds rules q)) && (nat_le (sector_of rules q 0) i && nat_lt i (sector_of rules q 0 + place_count rules q))) none

-- nor one that asks for no sectors of its partition
pub span_still : (rules : Rules) (q : ClientRequest) → None ≡ moved rules q → IsSpanOf rules q None
span_still rules q none = λ i. by_kind i (is_transfer q.kind) refl none
  where
    by_bounds : (i : ℕ) (b : Bool) → is_in_bounds rules q ≡ b → None ≡ (if b then Some (extent_of rules q) else None) → has_sector rules i q ≡ false
    by_bounds i true e h = absurd (cc (h))
    by_bounds i false e h =
        ap (λ b. (not (is_none q.partition) && (is_transfer q.kind && b)) && (nat_le (sector_of rules q 0) i && nat_lt i (sector_of rules q 0 + place_count rules q))) e
        ∙ ap (λ b. (not (is_none q.partition) && b) && (nat_le (sector_of rules q 0) i && nat_lt i (sector_of rules q 0 + place_count rules q))) (and_false (is_transfer q.kind))
        ∙ ap (λ b. b && (nat_le (sector_of rules q 0) i && nat_lt i (sector_of rules q 0 + place_count rules q))) (and_false (not (is_none q.partition)))

    by_kind : (i : ℕ) (b : Bool) → is_transfer q.kind ≡ b → None ≡ (if b then within rules q else None) → has_sector rules i q ≡ false
    by_kind i true e h = by_bounds i (is_in_bounds rules q) refl h
    by_kind i false e h =
        ap (λ b. (not (is_none q.partition) && (b && is_in_bounds rules q)) && (nat_le (sector_of rules q 0) i && nat_lt i (sector_of rules q 0 + place_count rules q))) e
        ∙ ap (λ b. b && (nat_le (sector_of rules q 0) i && nat_lt i (sector_of rules q 0 + place_count rules q))) (and_false (not (is_none q.partition)))

-- another moves those
pub span_some : (rules : Rules) (q : ClientRequest) (partition first : ℕ) (extent : Extent) → q.partition ≡ Some partition → Some extent ≡ moved rules q → first ≡ home rules (Some partition) extent.first
    → first < 2 ^ 65 → extent.first + extent.count < 2 ^ 64 → IsSpan rules q (record { first = first; count = extent.count })
span_some rules q partition first extent asked some lies low fits = record {
  fits = low_sum first extent.count low (count_low extent.first extent.count fits);
  first = sym (first_is (by_kind (is_transfer q.kind) refl some));
  has = λ i. has_by i (is_transfer q.kind) refl some;
}
  where
    is_by : (b : Bool) → Some extent ≡ (if b then Some (extent_of rules q) else None) → extent ≡ extent_of rules q
    is_by true h = cc (h)
    is_by false h = absurd (cc (h))

    by_kind : (b : Bool) → is_transfer q.kind ≡ b → Some extent ≡ (if b then within rules q else None) → extent ≡ extent_of rules q
    by_kind true e h = is_by (is_in_bounds rules q) h
    by_kind false e h = absurd (cc (h))

    first_is : extent ≡ extent_of rules q → sector_of rules q 0 ≡ first
    first_is is =
        let z : first_sector rules q + 0 ≡ first_sector rules q = omega arith in
        ap (λ o. home rules o (first_sector rules q + 0)) asked
        ∙ ap (home rules (Some partition)) (z ∙ ap (λ (x : Extent). x.first) (sym is))
        ∙ sym lies

    by_bounds : (i : ℕ) → is_transfer q.kind ≡ true → (b : Bool) → is_in_bounds rules q ≡ b → Some extent ≡ (if b then Some (extent_of rules q) else None)
        → has_sector rules i q ≡ in_range first (first + extent.count) i
    by_bounds i k false e h = absurd (cc (h))
    by_bounds i k true e h =
        let is : extent ≡ extent_of rules q = cc (h) in
        ap (λ b. (not (is_none q.partition) && (is_transfer q.kind && b)) && (nat_le (sector_of rules q 0) i && nat_lt i (sector_of rules q 0 + place_count rules q))) e
        ∙ ap (λ b. (not (is_none q.partition) && (b && true)) && (nat_le (sector_of rules q 0) i && nat_lt i (sector_of rules q 0 + (if b then q.length / rules.sector_size else 1)))) k
        ∙ ap (λ o. (not (is_none o) && (true && true)) && (nat_le (sector_of rules q 0) i && nat_lt i (sector_of rules q 0 + q.length / rules.sector_size))) asked
        ∙ ap (λ n. nat_le n i && nat_lt i (n + q.length / rules.sector_size)) (first_is is)
        ∙ ap (λ (x : Extent). nat_le first i && nat_lt i (first + x.count)) (sym is)

    has_by : (i : ℕ) (b : Bool) → is_transfer q.kind ≡ b → Some extent ≡ (if b then within rules q else None) → has_sector rules i q ≡ in_range first (first + extent.count) i
    has_by i true e h = by_bounds i e (is_in_bounds rules q) refl h
    has_by i false e h = absurd (cc (h))
