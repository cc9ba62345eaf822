use Rattle.std.proofs.Common.{List, Option, Some, None, option_map, ◌≡◌, ap₂, refl}
use Rattle.clap.specs.Words.{Row, Text}
use Rattle.command_line.proofs.reading.subcommand.Goals as goal

-- what was found has the name and the rows that were read off it
whole : {B : Type 0} (found : Option B) (name_in : B → Text) (rows_in : B → List Row) (name : Text) (rows : List Row) → option_map name_in found ≡ Some name
    → option_map (λ (p : Text × List Row). p.1) (option_map {U = Text × List Row} (λ b. (name_in b, rows_in b)) found) ≡ Some rows
    → option_map {U = Text × List Row} (λ b. (name_in b, rows_in b)) found ≡ Some (name, rows)
whole None name_in rows_in name rows named rowed = absurd (cc (named))
whole (Some b) name_in rows_in name rows named rowed =
    let first : name_in b ≡ name = cc (named) in
    let second : rows_in b ≡ rows = cc (rowed) in
    ap₂ (λ n r. Some (n, r)) first second

pub returns-in-Some-clause-some : goal.returns-in-Some-clause-some
returns-in-Some-clause-some c = whole _ _ _ _ _ (c.in-Some.ensures.found.0 refl) c.in-Some.ensures.rows
