-- Each completion of the table is bad.
use Rattle.std.proofs.Common.{◌≡◌, Bool, true, false, List, ◌∷◌, Option, Some, None, Result, Ok, Err, not, ◌&&◌, refl, subst, if◌then◌else◌}
use Rattle.cdb.specs.declared.Cdb.{Cdb}
use Rattle.cdb.specs.declared.CdbFault.{CdbFault}
use Rattle.cdb.specs.declared.CdbFault.TheVariants.{ShortCdb, UnknownOpcode, InvalidField}
use Rattle.srb.specs.declared.Srb.{Srb}
use Rattle.srb.specs.declared.Completion.{Completion}
use Rattle.srb.specs.declared.Class.TheVariants.{Bad}
use Rattle.srb.specs.Fate.{class_of}
use Rattle.ntstatus.specs.First.{when, first_some}
use Rattle.miniport.specs.Faults.{Disk, error, invalid_request, fault_of, fault_of_block, fault_of_medium, fault_of_command, fault_of_decoded, is_past_end, fits, is_write, is_read, names_bad, is_execute}

abbrev IsBad : Completion → Type 0
IsBad c = class_of c ≡ Bad c

abbrev OnlyBad : Option Completion → Type 0
OnlyBad x = (c : Completion) → x ≡ Some c → IsBad c

some_bad : (c : Completion) → IsBad c → OnlyBad (Some c)
some_bad c bad d e = let k : c ≡ d = cc in subst (λ (x : Completion). IsBad x) k bad

none_bad : OnlyBad None
none_bad d e = absurd cc

row : (test : Bool) (c : Completion) → IsBad c → OnlyBad (when test c)
row true c bad = some_bad c bad
row false c bad = none_bad

first : (x : Option Completion) (xs : List (Option Completion)) → OnlyBad x → OnlyBad (first_some xs) → OnlyBad (first_some (x ∷ xs))
first (Some c) xs bad rest = bad
first None xs bad rest = rest

medium_bad : (disk : Disk) (command : Cdb) → OnlyBad (fault_of_medium disk command)
medium_bad disk command =
    first (when (is_read command && names_bad disk command) (error 3 0x11 0)) _ (row _ (error 3 0x11 0) refl)
    (first (when (is_write command && names_bad disk command) (error 3 0x0C 0)) _ (row _ (error 3 0x0C 0) refl) none_bad)

command_bad : (disk : Disk) (srb : Srb) (command : Cdb) → OnlyBad (fault_of_command disk srb command)
command_bad disk srb command =
    first (when (is_past_end disk command) (error 5 0x21 0)) _ (row _ (error 5 0x21 0) refl)
    (first (when (not (fits disk srb command)) invalid_request) _ (row _ invalid_request refl)
    (first (when (is_write command && disk.write_protected) (error 7 0x27 0)) _ (row _ (error 7 0x27 0) refl)
    (first (fault_of_medium disk command) _ (medium_bad disk command) none_bad)))

block_bad : (fault : CdbFault) → IsBad (fault_of_block fault)
block_bad ShortCdb = refl
block_bad InvalidField = refl
block_bad UnknownOpcode = refl

decoded_bad : (disk : Disk) (srb : Srb) (decoded : Result Cdb CdbFault) → OnlyBad (fault_of_decoded disk srb decoded)
decoded_bad disk srb (Ok command) = command_bad disk srb command
decoded_bad disk srb (Err fault) = some_bad (fault_of_block fault) (block_bad fault)

executed_bad : (b : Bool) (x : Option Completion) → OnlyBad x → OnlyBad (if b then x else Some invalid_request)
executed_bad true x bad = bad
executed_bad false x bad = some_bad invalid_request refl

pub fault_is_bad : (disk : Disk) (srb : Srb) (decoded : Result Cdb CdbFault) (completion : Completion) → fault_of disk srb decoded ≡ Some completion
    → class_of completion ≡ Bad completion
fault_is_bad disk srb decoded completion e =
    executed_bad (is_execute srb.function) (fault_of_decoded disk srb decoded) (decoded_bad disk srb decoded) completion e
