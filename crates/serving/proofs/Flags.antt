-- What the parser says of a flag.
use Rattle.serving.proofs.Common.{◌≡◌, Bool, true, false, Option, None, Some, ap, codes, refl, subst, Text, one_text, one_of, rows_of, Found, one_text-rows, IsFlag}

by_text : (text : Option Text) (flag : Bool) → (◌≡◌ {A = Option Text} text None → flag ≡ false) → (◌≡◌ {A = Option Text} text (Some (codes "true")) → flag ≡ true)
    → (◌≡◌ {A = Option Text} text (Some (codes "false")) → flag ≡ false) → IsFlag text flag
by_text None flag none set unset = none refl
by_text (Some t) flag none set unset = (λ e. set (ap (λ (x : Text). Some x) e), λ e. unset (ap (λ (x : Text). Some x) e))

pub flag_is : (found : Found) (id : Text) (flag : Bool) → (◌≡◌ {A = Option Text} (one_text found id) None → flag ≡ false)
    → (◌≡◌ {A = Option Text} (one_text found id) (Some (codes "true")) → flag ≡ true) → (◌≡◌ {A = Option Text} (one_text found id) (Some (codes "false")) → flag ≡ false)
    → IsFlag (one_of id (rows_of found)) flag
flag_is found id flag none set unset = subst (λ text. IsFlag text flag) (one_text-rows found id) (by_text (one_text found id) flag none set unset)
