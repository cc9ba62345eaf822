-- A write has bytes behind it.
use Rattle.serving.proofs.Common.{◌≡◌, ℕ, ◌==◌, Bool, true, false, Option, Some, None, Ok, Err, refl, sym, ap, subst, ◌∙◌, if◌then◌else◌, Command, WriteZeroes, ReplyError}
use Rattle.std.specs.Prelude.{◌||◌}
use Rattle.nbd.specs.declared.requests.Request.{Request}
use Rattle.nbd.specs.declared.requests.Command.TheVariants.{Read, Write, Flush}
use Rattle.nbd.specs.declared.requests.ReplyError.TheVariants.{Einval, Enospc}
use Rattle.nbd.specs.declared.constants.TheConstants.{LONGEST}
use Rattle.nbd.specs.Requests.{command_in, extent_fault, flags_fault, is_through, payload_count, unless}

no_fault : (f e : Option ReplyError) (c d : Command) → unless f e c ≡ Ok d → (e ≡ None) × (c ≡ d)
no_fault (Some x) e c d h = absurd (cc (h))
no_fault None (Some x) c d h = absurd (cc (h))
no_fault None None c d h = (refl, cc (h))

counts_some : (b x : Bool) (rest : Option ReplyError) → (if b || x then Some Einval else rest) ≡ None → b ≡ false
counts_some true x rest h = absurd (cc (h))
counts_some false x rest h = refl

abbrev count_by : Bool → ℕ → ℕ
count_by b count = if b then count else 0

-- of the cases of a command, the one of a write
the_write : (r w f z : Bool) (fr er fw ew ff fz ez : Option ReplyError) (or : ℕ) (cr : ℕ) (ow cw : ℕ) (tw : Bool) (oz cz : ℕ) (tz : Bool) (offset count : ℕ) (through : Bool)
    → (if r then unless fr er (Read or cr)
    else if w then unless fw ew (Write ow cw tw)
    else if f then unless ff None Flush
    else if z then unless fz ez (WriteZeroes oz cz tz)
    else Err Einval) ≡ Ok (Write offset count through)
    → (w ≡ true) × (ew ≡ None)
the_write true w f z fr er fw ew ff fz ez or cr ow cw tw oz cz tz offset count through h = absurd (let k : ◌≡◌ {A = Command} (Read or cr) (Write offset count through) = (no_fault fr er (Read or cr) (Write offset count through) h).1 in cc (k))
the_write false true f z fr er fw ew ff fz ez or cr ow cw tw oz cz tz offset count through h = (refl, (no_fault fw ew (Write ow cw tw) (Write offset count through) h).0)
the_write false false true z fr er fw ew ff fz ez or cr ow cw tw oz cz tz offset count through h = absurd (let k : ◌≡◌ {A = Command} Flush (Write offset count through) = (no_fault ff None Flush (Write offset count through) h).1 in cc (k))
the_write false false false true fr er fw ew ff fz ez or cr ow cw tw oz cz tz offset count through h = absurd (let k : ◌≡◌ {A = Command} (WriteZeroes oz cz tz) (Write offset count through) = (no_fault fz ez (WriteZeroes oz cz tz) (Write offset count through) h).1 in cc (k))
the_write false false false false fr er fw ew ff fz ez or cr ow cw tw oz cz tz offset count through h = absurd (cc (h))

is_zero : (n : ℕ) → n ≡ 0 → (n == 0) ≡ false → ⊥
is_zero n e f = absurd (let t : (0 == 0) ≡ false = subst (λ (k : ℕ). (k == 0) ≡ false) e f in cc (t))

pub writes_some : (block bytes : ℕ) (r : Request) (offset count : ℕ) (through : Bool) → command_in block bytes r ≡ Ok (Write offset count through) → payload_count r ≡ 0 → ⊥
writes_some block bytes r offset count through h none =
    let w = the_write (r.kind == 0) (r.kind == 1) (r.kind == 3) (r.kind == 6)
    (flags_fault 1 r.flags) (extent_fault block bytes LONGEST Einval r) (flags_fault 1 r.flags) (extent_fault block bytes LONGEST Enospc r)
    (flags_fault 1 r.flags) (flags_fault 3 r.flags) (extent_fault block bytes 0xFFFFFFFF Enospc r)
    r.offset r.count r.offset r.count (is_through r.flags) r.offset r.count (is_through r.flags) offset count through h in
    is_zero r.count (sym (ap (λ (b : Bool). count_by b r.count) w.0) ∙ none) (counts_some (r.count == 0) _ _ w.1)
