-- An input behind more of its bytes.
use Rattle.std.proofs.Common.{◌≡◌, ℕ, ◌+◌, List, [], ◌++◌, length, drop, Option, None, Some, sym, ap, ◌∙◌, drop-drop}
use Rattle.std.proofs.Math.Seq.{drop-append_seam}
use Rattle.std.specs.Io.KnownBytes.{Consumes, IsAtEnd}
use Rattle.read_ahead.specs.Standing.{behind}

rest_of : (n : ℕ) (all bs rest : List ℕ) → drop n all ≡ bs ++ rest → drop (n + length bs) all ≡ rest
rest_of n all bs rest h = sym (drop-drop (length bs) n all) ∙ ap (drop (length bs)) h ∙ drop-append_seam bs rest

pub record Lends (given left : Option (List ℕ)) (n : ℕ) (bs : List ℕ) : Type 0 where
  pub gives : Consumes (behind n given) (behind (n + length bs) given) bs
  pub stands : Consumes (behind (n + length bs) given) left []

lends_some : (all xs ys : List ℕ) (n : ℕ) (bs : List ℕ) → drop n all ≡ xs → xs ≡ bs ++ ys → Lends (Some all) (Some ys) n bs
lends_some all xs ys n bs h k = let rest : drop (n + length bs) all ≡ ys = rest_of n all bs ys (h ∙ k) in record { gives = (h ∙ k) ∙ ap (λ (l : List ℕ). bs ++ l) (sym rest); stands = rest }

pub lends : (given left next : Option (List ℕ)) (n : ℕ) (bs : List ℕ) → Consumes (behind n given) left [] → Consumes left next bs → Lends given next n bs
lends None left next n bs h k = record { gives = tt; stands = tt }
lends (Some all) None next n bs h k = absurd h
lends (Some all) (Some xs) None n bs h k = absurd k
lends (Some all) (Some xs) (Some ys) n bs h k = lends_some all xs ys n bs h k

at_end : (given left : Option (List ℕ)) → Consumes given left [] → IsAtEnd left → IsAtEnd given
at_end None left h e = tt
at_end (Some xs) None h e = absurd h
at_end (Some xs) (Some ys) h e = h ∙ e

pub ends_lent : (given left : Option (List ℕ)) (n : ℕ) → Consumes (behind n given) left [] → IsAtEnd left → IsAtEnd (behind n given)
ends_lent given left n h e = at_end (behind n given) left h e
