-- What is so of a request that nothing refuses.
use Rattle.std.proofs.Common.{◌≡◌, ◌<◌, ◌≤◌, ℕ, zero, suc, ◌+◌, ◌*◌, ◌/◌, ◌%◌, ◌^◌, ◌==◌, ◌&&◌, Bool, true, false, not, [], ◌∷◌, Option, Some, None, refl, sym, ◌∙◌, ap, subst, arith}
use Rattle.std.specs.Prelude.{is_none, unwrap_or, nat_le, if◌then◌else◌}
use Rattle.std.proofs.lemmas.Bool.{not-false, and_parts, eqb-true}
use Rattle.std.proofs.lemmas.Bool.Decides.{nat_tests}
use Rattle.std.proofs.lemmas.Nat.{div-add-mod'}
use Rattle.ntstatus.specs.declared.NtStatus.TheVariants.{Success, InvalidHandle, InvalidParameter, DeletePending}
use Rattle.ntstatus.specs.First.{when, first_some}
use Rattle.ntstatus.proofs.First.{none_first}
use Rattle.srb.specs.declared.Kind.{Kind}
use Rattle.srb.specs.declared.Kind.TheVariants.{Read, Write, Flush}
use Rattle.machine.specs.declared.ClientRequest.{ClientRequest}
use Rattle.machine.specs.Rules.{Rules, is_transfer, is_in_bounds, first_sector, place_count, sectors_of, home}
use Rattle.machine.specs.Calling.{refusal}
use Rattle.machine.specs.State.{State}
use Rattle.history_laws.specs.History.{of_service}
use Rattle.history_laws.specs.Fitting.{refused}
use Rattle.history_runs.specs.Laws.{IsAddressable}

-- one tag, pieces of one sector, and no window
abbrev pub served : Rules → Rules
served rules = of_service rules 1 1 None

-- its partition, and where its places lie
pub record IsAdmitted (rules : Rules) (q : ClientRequest) : Type 0 where
  pub partition : ℕ
  pub known : q.partition ≡ Some partition
  pub in_bounds : is_transfer q.kind ≡ true → is_in_bounds rules q ≡ true
  pub some : 0 < place_count rules q
  pub inside : is_transfer q.kind ≡ true → first_sector rules q + place_count rules q ≤ sectors_of rules (Some partition)
  pub whole : is_transfer q.kind ≡ true → place_count rules q * rules.sector_size ≡ q.length

given : (p : Option ℕ) → is_none p ≡ false → p ≡ Some (unwrap_or p 0)
given None h = cc (h)
given (Some p) h = refl

below : (a b : ℕ) → nat_le a b ≡ true → a ≤ b
below a b h = grind (arith, nat_tests)

bounded : (kind : Kind) (b : Bool) → (is_transfer kind && not b) ≡ false → is_transfer kind ≡ true → b ≡ true
bounded Read b h e = not-false b h
bounded Write b h e = not-false b h
bounded Flush b h e = absurd (cc (e))

transfer_places : (kind : Kind) (n : ℕ) → is_transfer kind ≡ true → (if is_transfer kind then n else 1) ≡ n
transfer_places Read n e = refl
transfer_places Write n e = refl
transfer_places Flush n e = absurd (cc (e))

divides : (m size : ℕ) → (m % size == 0) ≡ true → m / size * size ≡ m
divides m size whole = let e : m / size * size + m % size ≡ m = div-add-mod' m size in let r : m % size ≡ 0 = eqb-true (m % size) 0 whole in omega arith

some_of : (places size length' : ℕ) → places * size ≡ length' → (length' == 0) ≡ false → 0 < places
some_of zero size length' e n = let none : length' ≡ 0 = omega arith in absurd (not_zero length' none n)
  where
    not_zero : (m : ℕ) → m ≡ 0 → (m == 0) ≡ false → ⊥
    not_zero m e h = grind (arith, nat_tests)
some_of (suc places) size length' e n = omega arith

some_places : (kind : Kind) (size length' : ℕ) → (is_transfer kind && (length' == 0)) ≡ false → (is_transfer kind ≡ true → length' / size * size ≡ length') → 0 < (if is_transfer kind then length' / size else 1)
some_places Read size length' some whole = some_of (length' / size) size length' (whole refl) some
some_places Write size length' some whole = some_of (length' / size) size length' (whole refl) some
some_places Flush size length' some whole = omega arith

pub admitted : (rules : Rules) (q : ClientRequest) → refused rules q ≡ None → IsAdmitted rules q
admitted rules q h =
    let a : (is_none q.partition ≡ false) × _ = none_first (is_none q.partition) InvalidHandle _ h in
    let b : _ × _ = none_first (is_transfer q.kind && not (is_in_bounds rules q)) InvalidParameter _ a.1 in
    let c : _ × _ = none_first (is_transfer q.kind && (q.length == 0)) Success _ b.1 in
    let bounds : is_transfer q.kind ≡ true → is_in_bounds rules q ≡ true = bounded q.kind (is_in_bounds rules q) b.0 in
    let whole : is_transfer q.kind ≡ true → q.length / rules.sector_size * rules.sector_size ≡ q.length =
    λ t. divides q.length rules.sector_size (and_parts _ _ (and_parts _ _ (bounds t)).0).1 in
    let known : q.partition ≡ Some (unwrap_or q.partition 0) = given q.partition a.0 in
    record {
      partition = unwrap_or q.partition 0;
      known = known;
      in_bounds = bounds;
      some = some_places q.kind rules.sector_size q.length c.0 whole;
      inside = λ t.
          let fits : first_sector rules q + q.length / rules.sector_size ≤ sectors_of rules q.partition = below _ _ (and_parts _ _ (and_parts _ _ (bounds t)).1).0 in
          rw (transfer_places q.kind (q.length / rules.sector_size) t) (subst (λ part. first_sector rules q + q.length / rules.sector_size ≤ sectors_of rules part) known fits);
      whole = λ t. rw (transfer_places q.kind (q.length / rules.sector_size) t) (whole t);
    }

-- the places of a request have addresses
pub addressed : (rules : Rules) (q : ClientRequest) (place : ℕ) → IsAddressable rules → IsAdmitted rules q → is_transfer q.kind ≡ true → place < place_count rules q
    → home rules q.partition (first_sector rules q + place) < 2 ^ 64
addressed rules q place room h t low =
    let inside = h.inside t in
    subst (λ part. home rules part (first_sector rules q + place) < 2 ^ 64) (sym h.known) (room h.partition (first_sector rules q + place) (omega arith))

-- nothing is open that fills the machine
two_fewer : {X : Type 0} (a b c : Bool) (x y z : X) → first_some (when a x ∷ None ∷ when b y ∷ when c z ∷ None ∷ []) ≡ first_some (when a x ∷ when b y ∷ when c z ∷ [])
two_fewer true b c x y z = refl
two_fewer false true c x y z = refl
two_fewer false false true x y z = refl
two_fewer false false false x y z = refl

pub refusal_is : (rules : Rules) (s : State) (q : ClientRequest) → s.removing ≡ false → refusal (served rules) s q ≡ refused rules q
refusal_is rules s q staying =
    ap (λ b. first_some (when (is_none q.partition) InvalidHandle ∷ when b DeletePending ∷ when (is_transfer q.kind && not (is_in_bounds rules q)) InvalidParameter
    ∷ when (is_transfer q.kind && (q.length == 0)) Success ∷ None ∷ [])) staying
    ∙ two_fewer (is_none q.partition) (is_transfer q.kind && not (is_in_bounds rules q)) (is_transfer q.kind && (q.length == 0)) InvalidHandle InvalidParameter Success
