-- States added one by one.
use Rattle.std.proofs.Common.{◌≡◌, ◌<◌, ◌⊎◌, inl, inr, ℕ, ◌+◌, ◌==◌, ◌||◌, Bool, true, false, List, [], ◌∷◌, ◌++◌, Some, None, refl, sym, ◌∙◌, ap, subst, append-nil, append_assoc, length, get_or, drop}
use Rattle.std.specs.Prelude.{Result, Ok, Err, OnOk, find, if◌then◌else◌}
use Rattle.std.proofs.lemmas.List.{at_drop_more}
use Rattle.register_judge.specs.declared.states.State.{State}
use Rattle.register_judge.specs.declared.states.Turn.{Turn}
use Rattle.register_judge.specs.declared.states.Waiting.{Waiting}
use Rattle.register_judge.specs.inside.States.{Form, form_of, forms_of, with_some, lefts, leave, is_number, Adds, turned, Ends, turns_for, turns_of, EndsAll}
use Rattle.register_judge.proofs.Listing.{Has, has_left, has_new, has_last, contains_has}

pub forms_more : (states : List State) (s : State) → forms_of (states ++ s ∷ []) ≡ forms_of states ++ form_of s ∷ []
forms_more [] s = refl
forms_more (x ∷ states) s = ap (λ fs. form_of x ∷ fs) (forms_more states s)

-- LOOPS

pub ends_next : (f : Form) (turns : List Turn) (i : ℕ) (d : Turn) → i < length turns → (old out mid new : List Form) (next : Form) → next ≡ turned (get_or turns i d) f
    → ((z : List Form) → Ends f (drop i turns) out z → Ends f turns old z) → Adds out next mid → Ends f (drop (i + 1) turns) mid new → Ends f turns old new
ends_next f turns i d low old out mid new next is so_far adds rest =
    so_far new (subst (λ ts. Ends f ts out new) (sym (at_drop_more (λ ts. ts) turns i d low)) (mid, subst (λ g. Adds out g mid) is adds, rest))

pub all_next : (must : Bool) (n : ℕ) (states : List State) (i : ℕ) (d x : State) → i < length states → get_or states i d ≡ x → (old out mid new : List Form) (turns : List Turn) → turns ≡ turns_of must n x.waits.items
    → ((z : List Form) → EndsAll must n (forms_of (drop i states)) out z → EndsAll must n (forms_of states) old z) → Ends (form_of x) turns out mid
    → EndsAll must n (forms_of (drop (i + 1) states)) mid new → EndsAll must n (forms_of states) old new
all_next must n states i d x low is old out mid new turns are so_far ends rest =
    so_far new (subst (λ fs. EndsAll must n fs out new) (sym same) (mid, subst (λ ts. Ends (form_of x) ts out mid) are ends, rest))
  where
    same : forms_of (drop i states) ≡ form_of x ∷ forms_of (drop (i + 1) states)
    same = at_drop_more forms_of states i d low ∙ ap (λ y. form_of y ∷ forms_of (drop (i + 1) states)) is

-- WHAT DOESN'T WAIT

lefts_next : (n : ℕ) (o : Waiting) (waits : List Waiting) (b : Bool) → ((if b then Some o else find (is_number n) waits) ≡ None) → (find (is_number n) waits ≡ None → (left : List Waiting) → lefts (leave n) left waits ≡ left ++ waits) → (left : List Waiting)
    → lefts (leave n) (with_some left (if b || false then None else Some o)) waits ≡ left ++ o ∷ waits
lefts_next n o waits true e rest left = absurd (cc (e))
lefts_next n o waits false e rest left = rest e (left ++ o ∷ []) ∙ append_assoc left (o ∷ []) waits

lefts_alike : (n : ℕ) (waits : List Waiting) → find (is_number n) waits ≡ None → (left : List Waiting) → lefts (leave n) left waits ≡ left ++ waits
lefts_alike n [] none left = sym (append-nil left)
lefts_alike n (o ∷ waits) none left = lefts_next n o waits (o.number == n) none (lefts_alike n waits) left

-- the end of an operation that doesn't wait leaves a form as it is
ends_alike : (must : Bool) (n : ℕ) (f : Form) (old new : List Form) → find (is_number n) f.waits ≡ None → Adds old f new → Ends f (turns_of must n f.waits) old new
ends_alike must n f old new none adds =
    subst (λ o. Ends f (turns_for must n f.waits o) old new) (sym none)
    (new, subst (λ ws. Adds old (record { any = f.any; value = f.value; waits = ws }) new) (sym (lefts_alike n f.waits none [])) adds, refl)

pub ends_still : {T E : Type 0} (must : Bool) (n : ℕ) (f g : Form) (old new : List Form) (r : Result T E) → find (is_number n) f.waits ≡ None → g ≡ f → OnOk r (Adds old g new) → OnOk r (Ends f (turns_of must n f.waits) old new)
ends_still must n f g old new (Ok x) none is adds = ends_alike must n f old new none (subst (λ h. Adds old h new) is adds)
ends_still must n f g old new (Err e) none is adds = tt

-- WHAT IS THERE

adds_kept : (old : List Form) (f : Form) (new : List Form) (g : Form) → Adds old f new → Has old g → Has new g
adds_kept old f new g (inl h) there = subst (λ fs. Has fs g) (sym h.0) there
adds_kept old f new g (inr e) there = subst (λ fs. Has fs g) (sym e) (has_left old (f ∷ []) g there)

adds_there : (old : List Form) (f : Form) (new : List Form) → Adds old f new → Has new f
adds_there old f new (inl h) = subst (λ fs. Has fs f) (sym h.0) (contains_has old f h.1)
adds_there old f new (inr e) = subst (λ fs. Has fs f) (sym e) (has_new old f)

adds_only : (old : List Form) (f : Form) (new : List Form) (g : Form) → Adds old f new → Has new g → Has old g ⊎ (f ≡ g)
adds_only old f new g (inl h) there = inl (subst (λ fs. Has fs g) h.0 there)
adds_only old f new g (inr e) there = has_last old f g (subst (λ fs. Has fs g) e there)

ends_kept : (f : Form) (turns : List Turn) (old new : List Form) (g : Form) → Ends f turns old new → Has old g → Has new g
ends_kept f [] old new g h there = subst (λ fs. Has fs g) (sym h) there
ends_kept f (t ∷ turns) old new g (mid, adds, rest) there = ends_kept f turns mid new g rest (adds_kept old (turned t f) mid g adds there)

ends_there : (f : Form) (turns : List Turn) (old new : List Form) (t : Turn) → Ends f turns old new → Has turns t → Has new (turned t f)
ends_there f [] old new t h there = absurd there
ends_there f (u ∷ turns) old new t (mid, adds, rest) (inl e) = ends_kept f turns mid new (turned t f) rest (subst (λ v. Has mid (turned v f)) e (adds_there old (turned u f) mid adds))
ends_there f (u ∷ turns) old new t (mid, adds, rest) (inr there) = ends_there f turns mid new t rest there

ends_only : (f : Form) (turns : List Turn) (old new : List Form) (g : Form) → Ends f turns old new → Has new g → Has old g ⊎ ((t : Turn) × Has turns t × (turned t f ≡ g))
ends_only f [] old new g h there = inl (subst (λ fs. Has fs g) h there)
ends_only f (u ∷ turns) old new g (mid, adds, rest) there = elim (ends_only f turns mid new g rest there) [
  | inl before ↦ elim (adds_only old (turned u f) mid g adds before) [ inl a ↦ inl a | inr e ↦ inr (u, inl refl, e) ]
  | inr later ↦ inr (later.0, inr later.1, later.2)
]

all_kept : (must : Bool) (n : ℕ) (fs old new : List Form) (g : Form) → EndsAll must n fs old new → Has old g → Has new g
all_kept must n [] old new g h there = subst (λ xs. Has xs g) (sym h) there
all_kept must n (f ∷ fs) old new g (mid, ends, rest) there = all_kept must n fs mid new g rest (ends_kept f (turns_of must n f.waits) old mid g ends there)

pub all_there : (must : Bool) (n : ℕ) (fs old new : List Form) (f : Form) (t : Turn) → EndsAll must n fs old new → Has fs f → Has (turns_of must n f.waits) t → Has new (turned t f)
all_there must n [] old new f t h has there = absurd has
all_there must n (g ∷ fs) old new f t (mid, ends, rest) (inl e) there =
    all_kept must n fs mid new (turned t f) rest (subst (λ x. Has mid (turned t x)) e (ends_there g (turns_of must n g.waits) old mid t ends (subst (λ x. Has (turns_of must n x.waits) t) (sym e) there)))
all_there must n (g ∷ fs) old new f t (mid, ends, rest) (inr has) there = all_there must n fs mid new f t rest has there

-- what is there came of one of them
pub all_only : (must : Bool) (n : ℕ) (fs old new : List Form) (g : Form) → EndsAll must n fs old new → Has new g
    → Has old g ⊎ ((f : Form) × Has fs f × ((t : Turn) × Has (turns_of must n f.waits) t × (turned t f ≡ g)))
all_only must n [] old new g h there = inl (subst (λ xs. Has xs g) h there)
all_only must n (f ∷ fs) old new g (mid, ends, rest) there = elim (all_only must n fs mid new g rest there) [
  | inl before ↦ elim (ends_only f (turns_of must n f.waits) old mid g ends before) [ inl a ↦ inl a | inr came ↦ inr (f, inl refl, came) ]
  | inr later ↦ inr (later.0, inr later.1, later.2)
]
