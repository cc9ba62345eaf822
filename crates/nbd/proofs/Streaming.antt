-- Bytes taken from a reader, one part after another.
use Rattle.std.proofs.Common.{◌≡◌, ◌+◌, ℕ, List, [], ◌++◌, append-nil, Option, None, Some, refl, sym, subst, ◌∙◌, ap, append_assoc, length-append, arith}
use Rattle.std.specs.Io.KnownBytes.{Consumes, Appends}
use Rattle.nbd.specs.inside.Streams.{Skips}

pub takes_nothing : (x : Option (List ℕ)) → Consumes x x []
takes_nothing None = tt
takes_nothing (Some xs) = refl

pub takes_more : (x y z : Option (List ℕ)) (a b : List ℕ) → Consumes x y a → Consumes y z b → Consumes x z (a ++ b)
takes_more None y z a b h k = tt
takes_more (Some xs) None z a b h k = absurd h
takes_more (Some xs) (Some ys) None a b h k = absurd k
takes_more (Some xs) (Some ys) (Some zs) a b h k = h ∙ ap (λ r. a ++ r) k ∙ sym (append_assoc a b zs)

pub skips_more : (x y z : Option (List ℕ)) (m n k : ℕ) → m + n ≡ k → Skips m x y → Skips n y z → Skips k x z
skips_more x y z m n k e s t = record {
  bytes = s.bytes ++ t.bytes;
  long = length-append s.bytes t.bytes ∙ omega (arith, s.long, t.long, e);
  taken = takes_more x y z s.bytes t.bytes s.taken t.taken;
}

pub tells_nothing : (x : Option (List ℕ)) → Appends x x []
tells_nothing None = tt
tells_nothing (Some xs) = sym (append-nil xs)

pub tells_more : (x y z : Option (List ℕ)) (a b : List ℕ) → Appends x y a → Appends y z b → Appends x z (a ++ b)
tells_more None y z a b h k = tt
tells_more (Some xs) None z a b h k = absurd h
tells_more (Some xs) (Some ys) None a b h k = absurd k
tells_more (Some xs) (Some ys) (Some zs) a b h k = k ∙ ap (λ r. r ++ b) h ∙ append_assoc xs a b

-- a reply in two writes
pub tells_reply : (x y z : Option (List ℕ)) (head head' content : List ℕ) → head ≡ head' → Appends x y head → Appends y z content → Appends x z (head' ++ content)
tells_reply x y z head head' content e h k = subst (λ (b : List ℕ). Appends x z (b ++ content)) e (tells_more x y z head content h k)

-- the same bytes by another name
pub retold : (x y : Option (List ℕ)) (f : List ℕ → List ℕ) (a b : List ℕ) → a ≡ b → Appends x y (f a) → Appends x y (f b)
retold x y f a b e h = subst (λ (l : List ℕ). Appends x y (f l)) e h
