-- The first row of the table that fits decides.
use Rattle.std.proofs.Common.{IsTrue, ◌↔◌, inl, inr, ◌≡◌, ◌<◌, ◌≤◌, ℕ, ◌+◌, ◌&&◌, Bool, true, false, not, List, [], ◌∷◌, length, Option, Some, None, refl, sym, ◌∙◌}
use Rattle.std.proofs.lemmas.Bool.{cases_lt, lt-ltb, le-ltb, eqb-true, and_parts}
use Rattle.cdb.specs.declared.Cdb.{Cdb}
use Rattle.srb.specs.declared.Srb.{Srb}
use Rattle.srb.specs.declared.Completion.{Completion}
use Rattle.miniport.specs.declared.check.Sizes.{Sizes}
use Rattle.ntstatus.specs.First.{when, first_some}
use Rattle.miniport.specs.Faults.{fits, is_write, lba_of, blocks_of, bytes_of, error, invalid_request}
use Rattle.miniport.specs.Checking.{disk_with, Fits, IsMisfit}

-- what a test for a bound says
pub above_of : (inside : Bool) (n most : ℕ) → IsTrue inside ↔ (n ≤ most) → inside ≡ false → most < n
above_of inside n most tells e = elim (cases_lt most n) [ inl above ↦ above | inr within ↦ absurd (let yes' : inside ≡ true = tells.1 within in let clash : true ≡ false = sym yes' ∙ e in cc) ]

-- the rows of a command
abbrev rows : Bool → Bool → Bool → Completion → Completion → Completion → Option Completion → Option Completion
rows past fitting protected a b c rest = first_some (when past a ∷ when (not fitting) b ∷ when protected c ∷ rest ∷ [])

first_row : (p f w : Bool) (a b c : Completion) (rest : Option Completion) → p ≡ true → rows p f w a b c rest ≡ Some a
first_row true f w a b c rest e = refl
first_row false f w a b c rest e = absurd cc

second_row : (p f w : Bool) (a b c : Completion) (rest : Option Completion) → p ≡ false → f ≡ false → rows p f w a b c rest ≡ Some b
second_row false false w a b c rest e e' = refl
second_row false true w a b c rest e e' = absurd cc
second_row true f w a b c rest e e' = absurd cc

third_row : (p f w : Bool) (a b c : Completion) (rest : Option Completion) → p ≡ false → f ≡ true → w ≡ true → rows p f w a b c rest ≡ Some c
third_row false true true a b c rest e e' e'' = refl
third_row false true false a b c rest e e' e'' = absurd cc
third_row false false w a b c rest e e' e'' = absurd cc
third_row true f w a b c rest e e' e'' = absurd cc

no_row : (p f w : Bool) (a b c : Completion) (rest : Option Completion) → p ≡ false → f ≡ true → w ≡ false → rows p f w a b c rest ≡ rest
no_row false true false a b c (Some d) e e' e'' = refl
no_row false true false a b c None e e' e'' = refl
no_row false true true a b c rest e e' e'' = absurd cc
no_row false false w a b c rest e e' e'' = absurd cc
no_row true f w a b c rest e e' e'' = absurd cc

pub is_past : (sizes : Sizes) (srb : Srb) (command : Cdb) → sizes.sectors < lba_of command + blocks_of command
    → IsMisfit sizes srb command (error 5 0x21 0)
is_past sizes srb command past bad = first_row _ _ _ _ _ _ _ (lt-ltb _ _ past)

-- what was found of the SRB: it lies in the disk, and whether its flags and length are the command's
pub record Found (sizes : Sizes) (srb : Srb) (command : Cdb) (fitting : Bool) : Type 0 where
  pub within : lba_of command + blocks_of command ≤ sizes.sectors
  pub tells : (bad : List ℕ) → fitting ≡ fits (disk_with sizes bad) srb command

pub is_unfit : (sizes : Sizes) (srb : Srb) (command : Cdb) (fitting : Bool) → Found sizes srb command fitting → fitting ≡ false
    → IsMisfit sizes srb command invalid_request
is_unfit sizes srb command fitting found e bad =
    second_row _ _ _ _ _ _ _ (le-ltb _ _ found.within) (sym (found.tells bad) ∙ e)

pub is_write_refused : (sizes : Sizes) (srb : Srb) (command : Cdb) (fitting refused : Bool) → Found sizes srb command fitting → fitting ≡ true
    → refused ≡ (is_write command && sizes.write_protected) → refused ≡ true → IsMisfit sizes srb command (error 7 0x27 0)
is_write_refused sizes srb command fitting refused found e f r bad =
    third_row _ _ _ _ _ _ _ (le-ltb _ _ found.within) (sym (found.tells bad) ∙ e) (sym f ∙ r)

as_long : (sizes : Sizes) (srb : Srb) (command : Cdb) → fits (disk_with sizes []) srb command ≡ true → length srb.data ≡ bytes_of sizes.sector_size command
as_long sizes srb command e = eqb-true _ _ (and_parts _ _ e).1

pub is_left : (sizes : Sizes) (srb : Srb) (command : Cdb) (fitting refused : Bool) → Found sizes srb command fitting → fitting ≡ true
    → refused ≡ (is_write command && sizes.write_protected) → refused ≡ false → Fits sizes srb command
is_left sizes srb command fitting refused found e f r = record {
  within = found.within;
  as_long = as_long sizes srb command (sym (found.tells []) ∙ e);
  left = λ bad. no_row _ _ _ _ _ _ _ (le-ltb _ _ found.within) (sym (found.tells bad) ∙ e) (sym f ∙ r);
}
