use Rattle.std.proofs.Common.{◌∷◌, codes, drop, refl}
use Rattle.script.specs.Script.{Asks, Byte, Length, Number, through_of}
use Rattle.script.proofs.Asked.{finds_none, first_spells, spells_more, three_more, three_spelled, write_is}
use Rattle.script.proofs.orders.write.Goals as goal

pub returns-in_err-number : goal.returns-in_err-number
returns-in_err-number c =
    finds_none (Asks (codes "write" ∷ c.args.words)) c.from_residual.result c.from_residual.ensures
    (λ order h. let r = write_is c.args.words order h in
    let more = Byte r.3 ∷ through_of r.4 in
    let w = c.args.words in
    c.in_err-number.ensures.value r.0
    (three_spelled w (drop 1 w) (drop 1 (drop 1 w)) (drop 1 (drop 1 (drop 1 w))) (Number r.0) (Number r.1) (Length r.2) more refl refl refl r.5).0)

pub returns-in_err-number-2 : goal.returns-in_err-number-2
returns-in_err-number-2 c =
    finds_none (Asks (codes "write" ∷ c.args.words)) c.from_residual-in_err-number-2.result c.from_residual-in_err-number-2.ensures
    (λ order h. let r = write_is c.args.words order h in
    let more = Byte r.3 ∷ through_of r.4 in
    let w = c.number.new.self in
    c.in_err-number-2.ensures.value r.1
    (three_spelled c.args.words w (drop 1 w) (drop 1 (drop 1 w)) (Number r.0) (Number r.1) (Length r.2) more c.number.ensures.rest refl refl r.5).1)

pub returns-in_err-length : goal.returns-in_err-length
returns-in_err-length c =
    finds_none (Asks (codes "write" ∷ c.args.words)) c.from_residual-in_err-length.result c.from_residual-in_err-length.ensures
    (λ order h. let r = write_is c.args.words order h in
    let more = Byte r.3 ∷ through_of r.4 in
    let w = c.number-2.new.self in
    c.in_err-length.ensures.value r.2
    (three_spelled c.args.words c.number.new.self w (drop 1 w) (Number r.0) (Number r.1) (Length r.2) more c.number.ensures.rest
    c.number-2.ensures.rest refl r.5).2)

pub returns-in_err-byte : goal.returns-in_err-byte
returns-in_err-byte c =
    finds_none (Asks (codes "write" ∷ c.args.words)) c.from_residual-in_err-byte.result c.from_residual-in_err-byte.ensures
    (λ order h. let r = write_is c.args.words order h in
    let more = Byte r.3 ∷ through_of r.4 in
    let w = c.length.new.self in
    let last = three_spelled c.args.words c.number.new.self c.number-2.new.self w (Number r.0) (Number r.1) (Length r.2) more
    c.number.ensures.rest c.number-2.ensures.rest c.length.ensures.rest r.5 in
    c.in_err-byte.ensures.value r.3 (first_spells w (drop 1 w) (Byte r.3) (through_of r.4) refl last.3).0)

pub returns-in_err-through : goal.returns-in_err-through
returns-in_err-through c =
    finds_none (Asks (codes "write" ∷ c.args.words)) c.from_residual-in_err-through.result c.from_residual-in_err-through.ensures
    (λ order h. let r = write_is c.args.words order h in
    let more = Byte r.3 ∷ through_of r.4 in
    let w = c.length.new.self in
    let last = three_spelled c.args.words c.number.new.self c.number-2.new.self w (Number r.0) (Number r.1) (Length r.2) more
    c.number.ensures.rest c.number-2.ensures.rest c.length.ensures.rest r.5 in
    c.in_err-through.ensures r.4 (first_spells w c.byte.new.self (Byte r.3) (through_of r.4) c.byte.ensures.rest last.3).1)

pub returns : goal.returns
returns c =
    let words = c.args.words in
    let three = c.length.new.self in
    let byte = c.in_ok-byte.field-0 in
    let through = c.in_ok-through.field-0 in (
      refl,
      three_more words c.number.new.self c.number-2.new.self three (Number c.in_ok-number.field-0) (Number c.in_ok-number-2.field-0) (Length c.in_ok-length.field-0)
          (Byte byte ∷ through_of through) c.number.ensures.rest c.number-2.ensures.rest c.length.ensures.rest
          c.in_ok-number.ensures.value c.in_ok-number-2.ensures.value c.in_ok-length.ensures.value
          (spells_more three c.byte.new.self (Byte byte) (through_of through) c.byte.ensures.rest c.in_ok-byte.ensures.value c.in_ok-through.ensures),
    )
