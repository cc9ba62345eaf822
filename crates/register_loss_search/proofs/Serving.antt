-- Operations that wait in a register, and in one that has them covered.
use Rattle.std.proofs.Common.{◌≡◌, ◌⊎◌, inl, inr, ℕ, ◌==◌, ◌&&◌, ◌||◌, Bool, true, false, not, List, [], ◌∷◌, ◌++◌, Option, Some, None, refl, sym, ◌∙◌, ap, subst, map}
use Rattle.std.specs.Prelude.{if◌then◌else◌}
use Rattle.std.specs.List.{filter, list_any}
use Rattle.std.proofs.lemmas.Bool.{cases_Bool}
use Rattle.loss.specs.Held.{ChangeOf, HeldOf, IsOneOf}
use Rattle.register_loss.specs.declared.What.{What}
use Rattle.register_loss.specs.declared.What.TheVariants.{Read, Write, Flush, Sync}
use Rattle.register_loss.specs.declared.Open.{Open}
use Rattle.register_loss.specs.declared.Turn.{Turn}
use Rattle.register_loss.specs.declared.Turn.TheVariants.{Acts, Fails}
use Rattle.register_loss.specs.Schedules.{Register, act_of, change_of, fault_of, is_given, is_other, is_same, is_sync, is_unmet, is_value, is_write, left_by, marked, settled, unmet}
use Rattle.register_loss_search.specs.Covering.{Covers, HasDuty, HasTurn, IsDuty, IsTurn, Serves, Wider, is_idle}
use Rattle.register_loss_search.proofs.Listing.{any_from, any_of, in_filter, of_filter, of_map, one_either, one_left, one_map, one_right}
use Rattle.register_loss_search.proofs.Changing.{wider_self, wider_then}

-- TURNS

abbrev change_with : Turn → Bool → What → Option (ChangeOf ℕ)
change_with Acts failed what = if failed then None else act_of what
change_with Fails failed what = fault_of failed what

change_is : (turn : Turn) (o : Open) → change_of turn o ≡ change_with turn o.failed o.what
change_is Acts o = refl
change_is Fails o = refl

abbrev idle_with : Bool → What → Bool
idle_with failed what = if is_sync what then false else (not (is_write what) || failed)

none_with : (turn : Turn) (failed : Bool) (what : What) → idle_with failed what ≡ true → change_with turn failed what ≡ None
none_with Acts true what e = refl
none_with Acts false (Read v) e = refl
none_with Acts false (Write v t) e = absurd (cc (e))
none_with Acts false Flush e = refl
none_with Acts false Sync e = refl
none_with Fails failed (Read v) e = refl
none_with Fails true (Write v t) e = refl
none_with Fails false (Write v t) e = absurd (cc (e))
none_with Fails failed Flush e = absurd (cc (e))
none_with Fails failed Sync e = absurd (cc (e))

same_with : (turn : Turn) (failed other : Bool) (what : What) (change : ChangeOf ℕ) → is_sync what || not other ≡ true → change_with turn failed what ≡ Some change → change_with turn other what ≡ Some change
same_with Acts true other what change able e = absurd (cc (e))
same_with Acts false other (Read v) change able e = absurd (cc (e))
same_with Acts false true (Write v t) change able e = absurd (cc (able))
same_with Acts false false (Write v t) change able e = e
same_with Acts false other Flush change able e = absurd (cc (e))
same_with Acts false other Sync change able e = absurd (cc (e))
same_with Fails failed other (Read v) change able e = absurd (cc (e))
same_with Fails true other (Write v t) change able e = absurd (cc (e))
same_with Fails false true (Write v t) change able e = absurd (cc (able))
same_with Fails false false (Write v t) change able e = e
same_with Fails failed other Flush change able e = e
same_with Fails failed other Sync change able e = e

-- what failed has no other turn than it would have had
failed_with : (turn : Turn) (failed : Bool) (what : What) (change : ChangeOf ℕ) → change_with turn true what ≡ Some change → (change_with turn failed what ≡ Some change) × (is_sync what ≡ true)
failed_with Acts failed what change e = absurd (cc (e))
failed_with Fails failed (Read v) change e = absurd (cc (e))
failed_with Fails failed (Write v t) change e = absurd (cc (e))
failed_with Fails failed Flush change e = (e, refl)
failed_with Fails failed Sync change e = (e, refl)

-- what has a turn is no read
unmet_with : (now : List ℕ) (turn : Turn) (failed : Bool) (what : What) (change : ChangeOf ℕ) → change_with turn failed what ≡ Some change → is_given now what ≡ false
unmet_with now Acts true what change e = absurd (cc (e))
unmet_with now Acts false (Read v) change e = absurd (cc (e))
unmet_with now Fails failed (Read v) change e = absurd (cc (e))
unmet_with now turn failed (Write v t) change e = refl
unmet_with now turn failed Flush change e = refl
unmet_with now turn failed Sync change e = refl

-- the other operation can take the same turn
pub record TakesToo (turn : Turn) (x : Open) (change : ChangeOf ℕ) (waits : List Open) : Type 0 where
  pub one : Open
  pub has : IsOneOf one waits
  pub number : one.number ≡ x.number
  pub what : one.what ≡ x.what
  pub may : change_of turn one ≡ Some change

pub takes_too : (turn : Turn) (x : Open) (change : ChangeOf ℕ) (waits : List Open) → change_of turn x ≡ Some change → HasTurn waits x → TakesToo turn x change waits
takes_too turn x change waits may (inl idle) = let none : change_with turn x.failed x.what ≡ None = none_with turn x.failed x.what idle in let is : change_of turn x ≡ change_with turn x.failed x.what = change_is turn x in absurd (cc (none, is, may))
takes_too turn x change waits may (inr (one, has, t)) = record {
  one = one;
  has = has;
  number = t.number;
  what = t.what;
  may = change_is turn one ∙ same_with turn x.failed one.failed one.what change t.able (subst (λ w. change_with turn x.failed w ≡ Some change) (sym t.what) (sym (change_is turn x) ∙ may));
}

able_from : (failed : Bool) (what : What) → idle_with failed what ≡ false → is_sync what || not failed ≡ true
able_from failed (Read v) e = absurd (cc (e))
able_from true (Write v t) e = absurd (cc (e))
able_from false (Write v t) e = refl
able_from failed Flush e = refl
able_from failed Sync e = refl

pub turn_self : (o : Open) (waits : List Open) → IsOneOf o waits → HasTurn waits o
turn_self o waits h = elim (cases_Bool (is_idle o)) [ inl idle ↦ inl idle | inr able ↦ inr (o, h, record { number = refl; what = refl; able = able_from o.failed o.what able }) ]

-- A REGISTER COVERS ITSELF, AND WHAT ANOTHER ONE COVERS

serves_self : (waits : List Open) → Serves waits waits
serves_self waits = record { duties = λ one h. (one, h, record { number = refl; what = refl; failed = λ e. e }); turns = λ other h. turn_self other waits h }

pub covers_self : (f : Register) → Covers f f
covers_self f = record { held = wider_self f.held; waits = serves_self f.waits }

idle_back : (failed other : Bool) (what : What) → idle_with failed what ≡ true → is_sync what || not failed ≡ true → idle_with other what ≡ true
idle_back failed other (Read v) idle able = refl
idle_back true other (Write v t) idle able = absurd (cc (able))
idle_back false other (Write v t) idle able = absurd (cc (idle))
idle_back failed other Flush idle able = absurd (cc (idle))
idle_back failed other Sync idle able = absurd (cc (idle))

turn_then : (x y : Open) (waits : List Open) → IsTurn x y → HasTurn waits y → HasTurn waits x
turn_then x y waits t (inl idle) = inl (subst (λ w. idle_with x.failed w ≡ true) t.what (idle_back y.failed x.failed y.what idle t.able))
turn_then x y waits t (inr (z, h, u)) = inr (z, h, record { number = u.number ∙ t.number; what = u.what ∙ t.what; able = u.able })

turns_then : (x : Open) (waits mid : List Open) → ((y : Open) → IsOneOf y mid → HasTurn waits y) → HasTurn mid x → HasTurn waits x
turns_then x waits mid all (inl idle) = inl idle
turns_then x waits mid all (inr (y, h, t)) = turn_then x y waits t (all y h)

duty_then : (x : Open) (others mid : List Open) → ((y : Open) → IsOneOf y mid → HasDuty others y) → HasDuty mid x → HasDuty others x
duty_then x others mid all (y, h, d) =
    let rest : HasDuty others y = all y h in
    (rest.0, rest.1, record { number = rest.2.number ∙ d.number; what = rest.2.what ∙ d.what; failed = λ e. rest.2.failed (d.failed e) })

pub covers_then : (f g e : Register) → Covers f g → Covers g e → Covers f e
covers_then f g e a b = record {
  held = wider_then e.held g.held f.held b.held a.held;
  waits = record { duties = λ one h. duty_then one e.waits g.waits b.waits.duties (a.waits.duties one h); turns = λ other h. turns_then other f.waits g.waits a.waits.turns (b.waits.turns other h) };
}

-- WHAT SERVES GOES ON SERVING

abbrev same_by : ℕ → What → ℕ → What → Bool
same_by n w m u = (m == n) && (if is_write w then is_write u else is_sync u)

same_as : (o x y z : Open) → o.number ≡ x.number → o.what ≡ x.what → y.number ≡ z.number → y.what ≡ z.what → is_same o y ≡ is_same x z
same_as o x y z a b c d =
    ap (λ n. same_by n o.what y.number y.what) a ∙ ap (λ w. same_by x.number w y.number y.what) b ∙ ap (λ m. same_by x.number x.what m y.what) c ∙ ap (λ u. same_by x.number x.what z.number u) d

abbrev marked_by : Bool → Open → Open
marked_by b y = if b then record y { failed = true } else y

marked_duty : (b : Bool) (one other : Open) → IsDuty one other → IsDuty (marked_by b one) (marked_by b other)
marked_duty true one other d = record { number = d.number; what = d.what; failed = λ e. refl }
marked_duty false one other d = d

idle_failed : (failed : Bool) (what : What) → idle_with failed what ≡ true → idle_with true what ≡ true
idle_failed failed (Read v) e = refl
idle_failed failed (Write v t) e = refl
idle_failed failed Flush e = absurd (cc (e))
idle_failed failed Sync e = absurd (cc (e))

marked_idle : (b : Bool) (o : Open) → is_idle o ≡ true → is_idle (marked_by b o) ≡ true
marked_idle true o e = idle_failed o.failed o.what e
marked_idle false o e = e

able_failed : (what : What) → (idle_with true what ≡ true) ⊎ (is_sync what || not true ≡ true)
able_failed (Read v) = inl refl
able_failed (Write v t) = inl refl
able_failed Flush = inr refl
able_failed Sync = inr refl

marked_turn : (b : Bool) (other one : Open) → IsTurn other one → (is_idle (marked_by b other) ≡ true) ⊎ IsTurn (marked_by b other) (marked_by b one)
marked_turn true other one t = elim (able_failed one.what) [
  | inl idle ↦ inl (subst (λ w. idle_with true w ≡ true) t.what idle)
  | inr able ↦ inr (record { number = t.number; what = t.what; able = able })
]
marked_turn false other one t = inr t

any_less : (v : ℕ) (now now' : List ℕ) → ((u : ℕ) → IsOneOf u now → IsOneOf u now') → not (list_any (is_value v) now') ≡ true → not (list_any (is_value v) now) ≡ true
any_less v now now' grows e = by (list_any (is_value v) now) refl
  where
    by : (b : Bool) → list_any (is_value v) now ≡ b → not b ≡ true
    by true some =
        let u : (x : ℕ) × IsOneOf x now × (is_value v x ≡ true) = any_from (is_value v) now some in
        let too : list_any (is_value v) now' ≡ true = any_of (is_value v) u.0 now' (grows u.0 u.1) u.2 in
        absurd (cc (too, e))
    by false none = refl

unmet_less : (now now' : List ℕ) (what : What) → ((u : ℕ) → IsOneOf u now → IsOneOf u now') → not (is_given now' what) ≡ true → not (is_given now what) ≡ true
unmet_less now now' (Read v) grows e = any_less v now now' grows e
unmet_less now now' (Write v t) grows e = refl
unmet_less now now' Flush grows e = refl
unmet_less now now' Sync grows e = refl

unmet_busy : (now : List ℕ) (failed : Bool) (what : What) → idle_with failed what ≡ false → not (is_given now what) ≡ true
unmet_busy now failed (Read v) e = absurd (cc (e))
unmet_busy now failed (Write v t) e = refl
unmet_busy now failed Flush e = refl
unmet_busy now failed Sync e = refl

module _ (waits others : List Open) (s : Serves waits others) where
  -- where alike operations stay
  pub serves_filter : (p q : Open → Bool) → ((one other : Open) → other.number ≡ one.number → other.what ≡ one.what → p one ≡ true → q other ≡ true)
      → ((other one : Open) → is_idle other ≡ false → one.number ≡ other.number → one.what ≡ other.what → q other ≡ true → p one ≡ true) → Serves (filter p waits) (filter q others)
  serves_filter p q down up = record { duties = duties; turns = turns }
    where
      duties : (one : Open) → IsOneOf one (filter p waits) → HasDuty (filter q others) one
      duties one h =
          let was : IsOneOf one waits × (p one ≡ true) = of_filter p one waits h in
          let d : HasDuty others one = s.duties one was.0 in
          (d.0, in_filter q d.0 others d.1 (down one d.0 d.2.number d.2.what was.1), d.2)

      by : (other : Open) → q other ≡ true → HasTurn waits other → (is_idle other ≡ true) ⊎ (is_idle other ≡ false) → HasTurn (filter p waits) other
      by other stays (inl idle) either = inl idle
      by other stays (inr found) (inl idle) = inl idle
      by other stays (inr (one, has, t)) (inr busy) = inr (one, in_filter p one waits has (up other one busy t.number t.what stays), t)

      turns : (other : Open) → IsOneOf other (filter q others) → HasTurn (filter p waits) other
      turns other h =
          let was : IsOneOf other others × (q other ≡ true) = of_filter q other others h in
          by other was.1 (s.turns other was.0) (cases_Bool (is_idle other))

  serves_marked : (o x : Open) → o.number ≡ x.number → o.what ≡ x.what → Serves (map (marked o) waits) (map (marked x) others)
  serves_marked o x number what = record { duties = duties; turns = turns }
    where
      duties : (one : Open) → IsOneOf one (map (marked o) waits) → HasDuty (map (marked x) others) one
      duties one h =
          let was : (y : Open) × IsOneOf y waits × (one ≡ marked o y) = of_map (marked o) one waits h in
          let d : HasDuty others was.0 = s.duties was.0 was.1 in
          let both : IsDuty (marked_by (is_same o was.0) was.0) (marked_by (is_same x d.0) d.0) =
          subst (λ b. IsDuty (marked_by (is_same o was.0) was.0) (marked_by b d.0)) (same_as o x was.0 d.0 number what (sym d.2.number) (sym d.2.what)) (marked_duty (is_same o was.0) was.0 d.0 d.2) in
          subst (λ y. HasDuty (map (marked x) others) y) (sym was.2) (marked x d.0, one_map (marked x) d.0 others d.1, both)

      by : (other : Open) → HasTurn waits other → HasTurn (map (marked o) waits) (marked x other)
      by other (inl idle) = inl (marked_idle (is_same x other) other idle)
      by other (inr (one, has, t)) = elim (marked_turn (is_same x other) other one t) [
        | inl idle ↦ inl idle
        | inr too ↦ inr (marked o one, one_map (marked o) one waits has, subst (λ b. IsTurn (marked_by (is_same x other) other) (marked_by b one)) (sym (same_as o x one other number what t.number t.what)) too)
      ]

      turns : (other : Open) → IsOneOf other (map (marked x) others) → HasTurn (map (marked o) waits) other
      turns other h =
          let was : (y : Open) × IsOneOf y others × (other ≡ marked x y) = of_map (marked x) other others h in
          subst (λ y. HasTurn (map (marked o) waits) y) (sym was.2) (by was.0 (s.turns was.0 was.1))

  pub serves_left : (turn : Turn) (o x : Open) → o.number ≡ x.number → o.what ≡ x.what → Serves (left_by turn o waits) (left_by turn x others)
  serves_left Acts o x number what =
      serves_filter (is_other o) (is_other x)
      (λ one other n w e. sym (ap not (same_as o x one other number what (sym n) (sym w))) ∙ e)
      (λ other one busy n w e. ap not (same_as o x one other number what n w) ∙ e)
  serves_left Fails o x number what = serves_marked o x number what

  pub serves_unmet : (now now' : List ℕ) → ((v : ℕ) → IsOneOf v now → IsOneOf v now') → Serves (unmet now' waits) (unmet now others)
  serves_unmet now now' grows =
      serves_filter (is_unmet now') (is_unmet now)
      (λ one other n w e. subst (λ u. not (is_given now u) ≡ true) (sym w) (unmet_less now now' one.what grows e))
      (λ other one busy n w e. subst (λ u. not (is_given now' u) ≡ true) (sym w) (unmet_busy now' other.failed other.what busy))

  -- and where one more waits
  pub serves_push : (o : Open) → Serves (waits ++ o ∷ []) (others ++ o ∷ [])
  serves_push o = record { duties = duties; turns = turns }
    where
      duties : (one : Open) → IsOneOf one (waits ++ o ∷ []) → HasDuty (others ++ o ∷ []) one
      duties one h = elim (one_either one waits (o ∷ []) h) [
        | inl before ↦ let d : HasDuty others one = s.duties one before in (d.0, one_left d.0 others (o ∷ []) d.1, d.2)
        | inr (inl e) ↦
            (o, one_right o others (o ∷ []) (inl refl), record { number = ap (λ (y : Open). y.number) (sym e); what = ap (λ (y : Open). y.what) (sym e); failed = λ f. ap (λ (y : Open). y.failed) (sym e) ∙ f })
        | inr (inr none) ↦ absurd none
      ]

      turns : (other : Open) → IsOneOf other (others ++ o ∷ []) → HasTurn (waits ++ o ∷ []) other
      turns other h = elim (one_either other others (o ∷ []) h) [
        | inl before ↦ elim (s.turns other before) [ inl idle ↦ inl idle | inr (one, has, t) ↦ inr (one, one_left one waits (o ∷ []) has, t) ]
        | inr (inl e) ↦ subst (λ y. HasTurn (waits ++ o ∷ []) y) (sym e) (turn_self o (waits ++ o ∷ []) (one_right o waits (o ∷ []) (inl refl)))
        | inr (inr none) ↦ absurd none
      ]

pub covers_settled : (n m : ℕ) (h h' : HeldOf ℕ) (waits others : List Open) → Wider h' h → Serves waits others → Covers (settled n h waits) (settled m h' others)
covers_settled n m h h' waits others w s = record { held = w; waits = serves_unmet waits others s h'.now h.now w.now }
