-- What is wrong with a command that no request asks for.
use Rattle.std.proofs.Common.{◌≡◌, ◌<◌, ℕ, ◌-◌, Bool, true, false, Option, Some, None, refl, sym, ◌∙◌, ap, subst, arith}
use Rattle.std.specs.Prelude.{◌==◌, not, nat_le, is_some, if◌then◌else◌}
use Rattle.std.proofs.lemmas.Bool.{leb-true, le-leb, lt-ltb, ltb-true, eqb-true, and_parts, and_from}
use Rattle.sector.specs.declared.Extent.{Extent}
use Rattle.cdb.specs.declared.Cdb.{Cdb}
use Rattle.cdb.specs.declared.Cdb.TheVariants.{Read10, Write10, Sync10, ReadCapacity10, Read16, Write16, Sync16, ReadCapacity16}
use Rattle.srb.specs.declared.Kind.{Kind}
use Rattle.srb.specs.declared.Kind.TheVariants.{Read, Write, Flush}
use Rattle.machine.specs.declared.ClientRequest.{ClientRequest}
use Rattle.machine.specs.Rules.{Rules, first_sector, home}
use Rattle.machine.specs.Sending.{fits_ten}
use Rattle.machine.specs.State.{OpenRequest}
use Rattle.judge.specs.Deciding.{same_truth, places_at, places_if, places_for}
use Rattle.judge.specs.StartRuling.{is_inside, asked_inside, is_in_form, is_in_range, kind_of, same_kind, span_of}
use Rattle.judge.specs.Breaking.{HasBlocks, fua_of}
use Rattle.judge.proofs.Asking.{extent, is_there, found}

pub kind_is : {a b : Kind} → ◌≡◌ {A = Option Kind} (Some a) (Some b) → a ≡ b
kind_is e = cc (e)

pub kind_same : (a b : Kind) → same_kind a b ≡ true → a ≡ b
kind_same Read Read e = refl
kind_same Read Write e = cc (e)
kind_same Read Flush e = cc (e)
kind_same Write Read e = cc (e)
kind_same Write Write e = refl
kind_same Write Flush e = cc (e)
kind_same Flush Read e = cc (e)
kind_same Flush Write e = cc (e)
kind_same Flush Flush e = refl

same_fua : (a b : Bool) → a ≡ b → same_truth a b ≡ true
same_fua true b e = sym e
same_fua false b e = ap not (sym e)

-- the request has the blocks exactly where places of it are found
module _ (rules : Rules) (o : OpenRequest) (span : Extent) where
  abbrev base : ℕ
  base = home rules o.request.partition (first_sector rules o.request)

  abbrev are_found : Bool
  are_found = is_some (asked_inside o (places_at rules o.request span.first span.count))

  abbrev places : Extent
  places = extent (span.first - base) span.count

  pub blocks_of : are_found ≡ true → HasBlocks rules o span
  blocks_of h = by (nat_le base span.first) refl h
    where
      inner : nat_le base span.first ≡ true → (b : Bool) → is_inside o places ≡ b → is_some (if b then Some places else None) ≡ true → HasBlocks rules o span
      inner e true i h = record {
        first = span.first - base;
        some = ltb-true _ _ (and_parts _ _ i).0;
        inside = leb-true _ _ (and_parts _ _ i).1;
        there = is_there rules o.request span.first (span.first - base) (leb-true _ _ e) refl;
      }
      inner e false i h = cc (h)

      by : (b : Bool) → nat_le base span.first ≡ b → is_some (asked_inside o (if b then Some places else None)) ≡ true → HasBlocks rules o span
      by true e h = inner e (is_inside o places) refl h
      by false e h = cc (h)

  pub blocks_so : HasBlocks rules o span → are_found ≡ true
  blocks_so h =
      let at : places_at rules o.request span.first span.count ≡ Some (extent h.first span.count) =
      subst (λ (lba : ℕ). places_at rules o.request lba span.count ≡ Some (extent h.first span.count)) h.there (found rules o.request true h.first span.count refl) in
      let inside : is_inside o (extent h.first span.count) ≡ true = and_from _ _ (lt-ltb _ _ h.some) (le-leb _ _ h.inside) in
      ap (λ (x : Option Extent). is_some (asked_inside o x)) at ∙ ap (λ (b : Bool). is_some (if b then Some (extent h.first span.count) else None)) inside

-- a command in its form and with the request's access asks for the places at its blocks
pub asks_at : (rules : Rules) (q : ClientRequest) (kind : Kind) (command : Cdb) → kind_of command ≡ Some kind → is_in_form rules command ≡ true → is_in_range kind (span_of command) ≡ true
    → 0 < (span_of command).count → fua_of command ≡ q.through → places_for rules q kind command ≡ places_at rules q (span_of command).first (span_of command).count
asks_at rules q kind (Read10 lba count fua) k form range some same =
    subst (λ (x : Kind). places_for rules q x (Read10 lba count fua) ≡ places_at rules q lba count) (kind_is k) (ap (λ b. places_if b rules q lba count) (and_from (fits_ten lba count) (same_truth fua q.through) form (same_fua fua q.through same)))
asks_at rules q kind (Read16 lba count fua) k form range some same =
    subst (λ (x : Kind). places_for rules q x (Read16 lba count fua) ≡ places_at rules q lba count) (kind_is k) (ap (λ b. places_if b rules q lba count) (and_from (not (fits_ten lba count)) (same_truth fua q.through) form (same_fua fua q.through same)))
asks_at rules q kind (Write10 lba count fua) k form range some same =
    subst (λ (x : Kind). places_for rules q x (Write10 lba count fua) ≡ places_at rules q lba count) (kind_is k) (ap (λ b. places_if b rules q lba count) (and_from (fits_ten lba count) (same_truth fua q.through) form (same_fua fua q.through same)))
asks_at rules q kind (Write16 lba count fua) k form range some same =
    subst (λ (x : Kind). places_for rules q x (Write16 lba count fua) ≡ places_at rules q lba count) (kind_is k) (ap (λ b. places_if b rules q lba count) (and_from (not (fits_ten lba count)) (same_truth fua q.through) form (same_fua fua q.through same)))
asks_at rules q kind (Sync10 lba blocks) k form range some same =
    let zeros : is_in_range Flush (extent lba blocks) ≡ true = subst (λ (x : Kind). is_in_range x (extent lba blocks) ≡ true) (sym (kind_is k)) range in
    absurd (omega (arith, some, eqb-true blocks 0 (and_parts (lba == 0) (blocks == 0) zeros).1))
asks_at rules q kind (Sync16 lba blocks) k form range some same =
    let zeros : is_in_range Flush (extent lba blocks) ≡ true = subst (λ (x : Kind). is_in_range x (extent lba blocks) ≡ true) (sym (kind_is k)) range in
    absurd (omega (arith, some, eqb-true blocks 0 (and_parts (lba == 0) (blocks == 0) zeros).1))
asks_at rules q kind ReadCapacity10 k form range some same = absurd (cc (k))
asks_at rules q kind (ReadCapacity16 allocation) k form range some same = absurd (cc (k))

-- only a flush has a range that it may not have
pub out_of_range : (kind : Kind) (span : Extent) → is_in_range kind span ≡ false → kind ≡ Flush
out_of_range Flush span e = refl
out_of_range Read span e = cc (e)
out_of_range Write span e = cc (e)
