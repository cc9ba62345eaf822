use Rattle.std.proofs.Common.{[], ◌∷◌, codes, drop, refl}
use Rattle.script.specs.declared.Order.TheVariants.{Read}
use Rattle.script.specs.Script.{Asks, Length, Number}
use Rattle.script.proofs.Asked.{finds_at_end, finds_none, read_is, three_more, three_spelled}
use Rattle.script.proofs.orders.read.Goals as goal

pub returns-in_err-number : goal.returns-in_err-number
returns-in_err-number c =
    finds_none (Asks (codes "read" ∷ c.args.words)) c.from_residual.result c.from_residual.ensures
    (λ order h. let r = read_is c.args.words order h in
    let w = c.args.words in
    c.in_err-number.ensures.value r.0 (three_spelled w (drop 1 w) (drop 1 (drop 1 w)) (drop 1 (drop 1 (drop 1 w))) (Number r.0) (Number r.1) (Length r.2) [] refl refl refl r.3).0)

pub returns-in_err-number-2 : goal.returns-in_err-number-2
returns-in_err-number-2 c =
    finds_none (Asks (codes "read" ∷ c.args.words)) c.from_residual-in_err-number-2.result c.from_residual-in_err-number-2.ensures
    (λ order h. let r = read_is c.args.words order h in
    let w = c.number.new.self in
    c.in_err-number-2.ensures.value r.1 (three_spelled c.args.words w (drop 1 w) (drop 1 (drop 1 w)) (Number r.0) (Number r.1) (Length r.2) [] c.number.ensures.rest refl refl r.3).1)

pub returns-in_err-length : goal.returns-in_err-length
returns-in_err-length c =
    finds_none (Asks (codes "read" ∷ c.args.words)) c.from_residual-in_err-length.result c.from_residual-in_err-length.ensures
    (λ order h. let r = read_is c.args.words order h in
    let w = c.number-2.new.self in
    c.in_err-length.ensures.value r.2
    (three_spelled c.args.words c.number.new.self w (drop 1 w) (Number r.0) (Number r.1) (Length r.2) [] c.number.ensures.rest c.number-2.ensures.rest refl r.3).2)

pub returns : goal.returns
returns c =
    let words = c.args.words in
    let one = c.number.new.self in
    let two = c.number-2.new.self in
    let three = c.length.new.self in
    let handle = c.in_ok-number.field-0 in
    let offset = c.in_ok-number-2.field-0 in
    let count = c.in_ok-length.field-0 in
    finds_at_end (Asks (codes "read" ∷ words)) (Read handle offset count) three c.is_at_end.result c.then_some.result c.then_some.ensures c.is_at_end.ensures
    (λ h. (
      refl,
      three_more words one two three (Number handle) (Number offset) (Length count) [] c.number.ensures.rest c.number-2.ensures.rest c.length.ensures.rest
          c.in_ok-number.ensures.value c.in_ok-number-2.ensures.value c.in_ok-length.ensures.value h,
    ))
    (λ order h. let r = read_is words order h in
    (three_spelled words one two three (Number r.0) (Number r.1) (Length r.2) [] c.number.ensures.rest c.number-2.ensures.rest c.length.ensures.rest r.3).3)
