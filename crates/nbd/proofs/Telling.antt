-- The bytes of a chunk.
use Rattle.std.proofs.Common.{◌≡◌, ℕ, ◌+◌, List, ◌++◌, length, append_assoc, Option, Result, Ok, Err, subst, ◌∙◌, ap, arith}
use Rattle.std.specs.Prelude.{OnOk}
use Rattle.std.specs.Io.KnownBytes.{Appends}
use Rattle.byteorder.specs.Endian.{big_bytes}
use Rattle.nbd.specs.Chunks.{chunk, chunk_header}
use Rattle.nbd.proofs.Streaming.{retold, tells_reply}

-- data behind the place of their first byte
pub data_told : (x y z : Option (List ℕ)) (head content : List ℕ) (cookie offset count : ℕ) → head ≡ chunk_header 1 cookie (8 + count) ++ big_bytes 8 offset → count ≡ length content
    → Appends x y head → Appends y z content → Appends x z (chunk 1 cookie (big_bytes 8 offset ++ content))
data_told x y z head content cookie offset count is long h k =
    let e : 8 + count ≡ length (big_bytes 8 offset ++ content) = omega arith in
    let head_is : head ≡ chunk_header 1 cookie (length (big_bytes 8 offset ++ content)) ++ big_bytes 8 offset =
    is ∙ ap (λ (n : ℕ). chunk_header 1 cookie n ++ big_bytes 8 offset) e in
    subst (Appends x z) (append_assoc (chunk_header 1 cookie (length (big_bytes 8 offset ++ content))) (big_bytes 8 offset) content)
    (tells_reply x y z head (chunk_header 1 cookie (length (big_bytes 8 offset ++ content)) ++ big_bytes 8 offset) content head_is h k)

-- the same bytes by another name, where they were written
pub retold_by : {X Y : Type 0} (r : Result X Y) (x y : Option (List ℕ)) (f : List ℕ → List ℕ) (a b : List ℕ) → a ≡ b → OnOk r (Appends x y (f a)) → OnOk r (Appends x y (f b))
retold_by (Ok _) x y f a b e h = retold x y f a b e h
retold_by (Err _) x y f a b e h = tt
