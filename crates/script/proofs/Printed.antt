-- What a writer holds after one text and another, and with a text that waits for it.
use Rattle.script.proofs.Common.{◌≡◌, ℕ, List, [], ◌++◌, Option, Some, None, ap, refl, sym, ◌∙◌, append_assoc, append-nil, Prints}
use Rattle.std.specs.Io.KnownBytes.{Appends, Keeps, append_known}

-- one text, and then another
pub both : (a b c : Option (List ℕ)) (x y : List ℕ) → Appends a b x → Appends b c y → Appends a c (x ++ y)
both None b c x y first second = tt
both (Some xs) None c x y first second = absurd first
both (Some xs) (Some ys) None x y first second = absurd second
both (Some xs) (Some ys) (Some zs) x y first second = second ∙ (ap (λ (l : List ℕ). l ++ y) first ∙ append_assoc xs x y)

-- no text
pub nothing : (a : Option (List ℕ)) → Appends a a []
nothing None = tt
nothing (Some xs) = sym (append-nil xs)

kept : (a b c : Option (List ℕ)) (text : List ℕ) → Appends a b text → Keeps b c → Appends a c text
kept None b c text more keeps = tt
kept (Some xs) None c text more keeps = absurd more
kept (Some xs) (Some ys) None text more keeps = absurd keeps
kept (Some xs) (Some ys) (Some zs) text more keeps = keeps ∙ more

-- what is held stays
pub stays : (a b c : Option (List ℕ)) (Is : List ℕ → Type 0) → Prints a b Is → Keeps b c → Prints a c Is
stays a b c Is h keeps = record { text = h.text; is = h.is; appends = kept a b c h.text h.appends keeps }

-- A TEXT THAT WAITS

-- nothing is written
pub still_waits : (held : Option (List ℕ)) (text : List ℕ) → Keeps (append_known held text) (append_known held text)
still_waits None text = tt
still_waits (Some xs) text = refl

-- all that waited is written
pub written_out : (held now : Option (List ℕ)) (text rest : List ℕ) → Appends held now text → rest ≡ [] → Keeps (append_known held text) (append_known now rest)
written_out None now text rest written none = tt
written_out (Some xs) None text rest written none = absurd written
written_out (Some xs) (Some ys) text rest written none = ap (λ (l : List ℕ). ys ++ l) none ∙ (append-nil ys ∙ written)

-- a text behind one that waited waits too
pub more_waits : (held : Option (List ℕ)) (text new more : List ℕ) → new ≡ text ++ more → Appends (append_known held text) (append_known held new) more
more_waits None text new more e = tt
more_waits (Some xs) text new more e = ap (λ (l : List ℕ). xs ++ l) e ∙ sym (append_assoc xs text more)

last_appended : (held mid now : Option (List ℕ)) (none text told : List ℕ) → none ≡ [] → Appends (append_known held none) (append_known mid text) told → Appends mid now text
    → Appends held now told
last_appended None mid now none text told empty h written = tt
last_appended (Some xs) None now none text told empty h written = absurd h
last_appended (Some xs) (Some ys) None none text told empty h written = absurd written
last_appended (Some xs) (Some ys) (Some zs) none text told empty h written =
    written ∙ (h ∙ ap (λ (l : List ℕ). l ++ told) (ap (λ (l : List ℕ). xs ++ l) empty ∙ append-nil xs))

-- nothing waited at first, and what waits in the end is written
pub last_written : (held mid now : Option (List ℕ)) (none text : List ℕ) (Is : List ℕ → Type 0) → none ≡ [] → Prints (append_known held none) (append_known mid text) Is
    → Appends mid now text → Prints held now Is
last_written held mid now none text Is empty h written =
    record { text = h.text; is = h.is; appends = last_appended held mid now none text h.text empty h.appends written }
