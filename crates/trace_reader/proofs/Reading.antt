-- One line more, as it is read.
use Rattle.std.proofs.Common.{◌≡◌, ◌∙◌, List, [], ◌∷◌, ◌++◌, Option, None, Some, ap, is_some, refl}
use Rattle.trace_line.specs.declared.Line.{Line}
use Rattle.trace_reader.specs.declared.Reader.{Reader}
use Rattle.trace_reader.specs.declared.Recorded.{Recorded}
use Rattle.trace_reader.specs.Known.{KnownView}
use Rattle.trace_reader.specs.Readers.{CanRead, CanReadAll, after_all, known_after, read_all, read_line, reader_after}

pub read_more : (v : Reader) (rs : List Recorded) (r : Recorded) → read_all v (rs ++ r ∷ []) ≡ read_all v rs ++ read_line (after_all v rs) r ∷ []
read_more v [] r = refl
read_more v (first ∷ rs) r = ap (λ ls. read_line v first ∷ ls) (read_more (reader_after v first) rs r)

pub after_more : (v : Reader) (rs : List Recorded) (r : Recorded) → after_all v (rs ++ r ∷ []) ≡ reader_after (after_all v rs) r
after_more v [] r = refl
after_more v (first ∷ rs) r = after_more (reader_after v first) rs r

pub can_more : (v : Reader) (rs : List Recorded) (r : Recorded) → CanReadAll v rs → CanRead (after_all v rs) r → CanReadAll v (rs ++ r ∷ [])
can_more v [] r all can = (can, tt)
can_more v (first ∷ rs) r all can = (all.0, can_more (reader_after v first) rs r all.1 can)

stays_known : (known : Option KnownView) (r : Recorded) → is_some (known_after known r) ≡ is_some known
stays_known None r = refl
stays_known (Some known) r = refl

-- whether bytes are known stays as it is
pub known_still : (v : Reader) (rs : List Recorded) → is_some (after_all v rs).known ≡ is_some v.known
known_still v [] = refl
known_still v (r ∷ rs) = known_still (reader_after v r) rs ∙ stays_known v.known r
