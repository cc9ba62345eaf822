-- One client more was checked.
use Rattle.std.proofs.Common.{◌≡◌, ◌≢◌, ℕ, ◌+◌, ◌<◌, List, [], ◌∷◌, ◌++◌, length, sym, ap, ◌∙◌, subst, arith, length-append}
use Rattle.host.proofs.Common.{get_or_append_left, get_or-append_seam, TraceEntry, total, IsBorneOut, AreBorneOut}
use mathlib.Core.Logic.{dite}
use native.Mathlib.Decide.{ℕ_discrete}
use Rattle.host.specs.Clients.{ClientView, fresh, client_at}
use Rattle.host.proofs.Counting.{total_next, total_same}

pub longer : (ys : List ClientView) (x : ClientView) → length (ys ++ x ∷ []) ≡ length ys + 1
longer ys x = length-append ys (x ∷ [])

pub borne_snoc : (es : List TraceEntry) (ys : List ClientView) (x : ClientView) → AreBorneOut es (length ys) ys → IsBorneOut es x → AreBorneOut es (length (ys ++ x ∷ [])) (ys ++ x ∷ [])
borne_snoc es ys x all one c less =
    dite (ℕ_discrete c (length ys))
    (λ (e : c ≡ length ys). subst (IsBorneOut es) (sym (ap (client_at (ys ++ x ∷ [])) e ∙ get_or-append_seam ys x [] (fresh 0))) one)
    (λ (ne : c ≢ length ys).
    let front : c < length ys = omega (arith, longer ys x) in
    subst (IsBorneOut es) (sym (get_or_append_left ys (x ∷ []) (fresh 0) c front)) (all c front))

pub total_snoc : (ys : List ClientView) (x : ClientView) → total (length (ys ++ x ∷ [])) (λ c. length (client_at (ys ++ x ∷ []) c).called) ≡ total (length ys) (λ c. length (client_at ys c).called) + length x.called
total_snoc ys x =
    ap (λ (n : ℕ). total n (λ c. length (client_at (ys ++ x ∷ []) c).called)) (longer ys x)
    ∙ total_next (length ys) (λ c. length (client_at (ys ++ x ∷ []) c).called)
    ∙ (λ i. total_same (length ys) (λ c. length (client_at (ys ++ x ∷ []) c).called) (λ c. length (client_at ys c).called) (λ c less. ap (λ (v : ClientView). length v.called) (get_or_append_left ys (x ∷ []) (fresh 0) c less)) i
    + length (get_or-append_seam ys x [] (fresh 0) i).called)
