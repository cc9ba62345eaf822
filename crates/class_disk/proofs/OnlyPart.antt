-- The only part of a request is all of it.
use Rattle.std.proofs.Common.{◌≡◌, ◌<◌, ◌≤◌, ℕ, ◌+◌, ◌-◌, ◌*◌, ◌==◌, Bool, true, false, refl, sym, ◌∙◌, ap, subst, arith, inl, inr}
use Rattle.std.specs.Prelude.{min, if◌then◌else◌}
use Rattle.class_disk.proofs.Common.{cases_Bool, eqb-true, eqb-false, ne_eqb, Extent, Request, is_transfer, part_count_of, part_request_of, goes_whole}
use Rattle.split.specs.Pieces.{piece_of, piece_count}
use Rattle.class_disk.proofs.NewRequest.{covered}

-- the only piece of an extent is the extent
only_piece : (limit : ℕ) (extent : Extent) → 0 < limit → piece_count limit extent.count ≡ 1 → piece_of extent limit 0 ≡ extent
only_piece limit extent some one =
    let c : extent.count ≤ 1 * limit = subst (λ n. extent.count ≤ n * limit) one (covered limit extent.count some) in
    let first : extent.first + 0 * limit ≡ extent.first = omega arith in
    let count : min limit (extent.count - 0 * limit) ≡ extent.count = omega (arith, c) in
    ap (λ n. record extent { first = n; count = min limit (extent.count - 0 * limit) }) first ∙ ap (λ n. record extent { count = n }) count

pub only_part : (limit : ℕ) (r : Request) (k : ℕ) → 0 < limit → part_count_of limit r ≡ 1 → k < part_count_of limit r → part_request_of limit r k ≡ r
only_part limit r k some one low =
    let none : k ≡ 0 = omega (arith, one, low) in
    ap (part_request_of limit r) none ∙ by (is_transfer r.kind) one
  where
    by : (t : Bool) → (if t then piece_count limit r.extent.count else 1) ≡ 1 → (if t then record r { extent = piece_of r.extent limit 0 } else r) ≡ r
    by true is = ap (λ e. record r { extent = e }) (only_piece limit r.extent some is)
    by false is = refl

-- as long as there are parts to send the buffer is here
pub not_lent : (limit : ℕ) (r : Request) (k : ℕ) → k < part_count_of limit r → (if k == 0 then false else goes_whole limit r) ≡ false
not_lent limit r k low = elim (cases_Bool (k == 0)) [
  | inl first ↦ ap (λ t. if t then false else goes_whole limit r) first
  | inr later ↦
      let some : (k ≡ 0) → ⊥ = eqb-false k 0 later in
      let more : goes_whole limit r ≡ false = ne_eqb (part_count_of limit r) 1 (λ one. some (omega (arith, one, low))) in
      ap (λ t. if t then false else goes_whole limit r) later ∙ more
]

-- once all are sent it is with the only part
pub lent_whole : (limit : ℕ) (r : Request) (k : ℕ) → k ≡ part_count_of limit r → (if k == 0 then false else goes_whole limit r) ≡ goes_whole limit r
lent_whole limit r k all = elim (cases_Bool (k == 0)) [
  | inl none ↦
      let e = eqb-true k 0 none in
      ap (λ t. if t then false else goes_whole limit r) none ∙ sym (ap (λ n. n == 1) (sym all ∙ e))
  | inr some ↦ ap (λ t. if t then false else goes_whole limit r) some
]

-- with one part more
pub lent_next : (limit : ℕ) (r : Request) (k long : ℕ) → long ≡ part_count_of limit r → (long == 1) ≡ (if k + 1 == 0 then false else goes_whole limit r)
lent_next limit r k long is =
    ap (λ n. n == 1) is ∙ sym (ap (λ t. if t then false else goes_whole limit r) (ne_eqb (k + 1) 0 (λ e. omega (arith, e))))
