-- What is kept behind sights is exact.
use Rattle.std.proofs.Common.{◌≡◌, inl, inr, ℕ, List, [], ◌∷◌, ◌++◌, refl, sym, ◌∙◌, ap, subst}
use Rattle.loss.specs.Held.{IsOneOf}
use Rattle.register_loss.specs.declared.Turn.{Turn}
use Rattle.register_loss.specs.declared.Sight.{Sight}
use Rattle.register_loss.specs.Schedules.{Event, Seen, Unseen, HasSchedule, Register, Leads, Turns, behind, next_by, opening, seen_of}
use Rattle.register_loss_search.specs.Covering.{Covers, IsKept}
use Rattle.register_loss_search.specs.Searching.{Grows, SearchIsExact, Searched, Sees, behind_all, in_order}
use Rattle.register_loss_search.proofs.Listing.{one_either, one_left, one_right}
use Rattle.register_loss_search.proofs.Serving.{covers_self, covers_then}
use Rattle.register_loss_search.proofs.Following.{Dated, TurnsToo, SeesToo, dated_sight, dated_turn, next_sight, next_turn, sees_too, turns_too}

-- RUNS

pub leads_join : (a b c : Register) (front back : List Event) → Leads a front b → Leads b back c → Leads a (front ++ back) c
leads_join a b c [] back h rest = subst (λ x. Leads x back c) h rest
leads_join a b c (event ∷ front) back (mid, takes, h) rest = (mid, takes, leads_join mid b c front back h rest)

pub seen_join : (front back : List Event) → seen_of (front ++ back) ≡ seen_of front ++ seen_of back
seen_join [] back = refl
seen_join (Seen sight ∷ front) back = ap (λ xs. sight ∷ xs) (seen_join front back)
seen_join (Unseen turn ∷ front) back = seen_join front back

-- EXACT

pub record IsReal (start : ℕ) (sights : List Sight) (f : Register) : Type 0 where
  pub events : List Event
  pub leads : Leads (opening start) events f
  pub seen : seen_of events ≡ sights

pub record Reached (states : List Register) (r : Register) : Type 0 where
  pub dated : Dated r
  pub form : Register
  pub has : IsOneOf form states
  pub covers : Covers form r

abbrev pub IsComplete : ℕ → List Sight → List Register → Type 0
IsComplete start sights states = (events : List Event) (r : Register) → Leads (opening start) events r → seen_of events ≡ sights → Reached states r

abbrev IsClosed : List Register → Type 0
IsClosed states = (f : Register) → IsOneOf f states → (turn : Turn) (g : Register) → Turns turn f g → IsKept states g

pub record IsExact (start : ℕ) (sights : List Sight) (states : List Register) : Type 0 where
  pub reals : (f : Register) → IsOneOf f states → IsReal start sights f
  pub complete : IsComplete start sights states
  pub closed : IsClosed states

-- THE NEXT CALL'S NUMBER

abbrev next_of : List Sight → ℕ → ℕ
next_of [] n = n
next_of (sight ∷ sights) n = next_of sights (next_by sight n)

next_led : (r : Register) (events : List Event) (r' : Register) → Leads r events r' → r'.next ≡ next_of (seen_of events) r.next
next_led r [] r' h = ap (λ (x : Register). x.next) h
next_led r (Seen sight ∷ events) r' (mid, takes, h) = next_led mid events r' h ∙ ap (next_of (seen_of events)) (next_sight sight r mid takes)
next_led r (Unseen turn ∷ events) r' (mid, takes, h) = next_led mid events r' h ∙ ap (next_of (seen_of events)) (next_turn turn r mid takes)

next_real : (start : ℕ) (sights : List Sight) (f : Register) → IsReal start sights f → f.next ≡ next_of sights 1
next_real start sights f x = next_led (opening start) x.events f x.leads ∙ ap (λ xs. next_of xs 1) x.seen

next_pushed : (sights : List Sight) (sight : Sight) (n : ℕ) → next_of (sights ++ sight ∷ []) n ≡ next_by sight (next_of sights n)
next_pushed [] sight n = refl
next_pushed (x ∷ sights) sight n = next_pushed sights sight (next_by x n)

-- UNSEEN

reached_kept : (old new : List Register) (r : Register) → ((g : Register) → IsOneOf g old → IsKept new g) → Reached old r → Reached new r
reached_kept old new r kept x =
    let k : IsKept new x.form = kept x.form x.has in
    record { dated = x.dated; form = k.0; has = k.1; covers = covers_then k.0 x.form r k.2 x.covers }

module _ (states : List Register) (n : ℕ) (nexts : (f : Register) → IsOneOf f states → f.next ≡ n) (closed : IsClosed states) where
  reached_turn : (turn : Turn) (r r' : Register) → r.next ≡ n → Reached states r → Turns turn r r' → Reached states r'
  reached_turn turn r r' next x t =
      let too : TurnsToo turn x.form r' = turns_too turn x.form r r' (nexts x.form x.has ∙ sym next) x.dated x.covers t in
      let k : IsKept states too.register = closed x.form x.has turn too.register too.turns in
      record { dated = dated_turn turn r r' t x.dated; form = k.0; has = k.1; covers = covers_then k.0 too.register r' k.2 too.covers }

  reached_unseen : (events : List Event) (r r' : Register) → Leads r events r' → seen_of events ≡ [] → r.next ≡ n → Reached states r → Reached states r'
  reached_unseen [] r r' h none next x = subst (Reached states) (sym h) x
  reached_unseen (Seen sight ∷ events) r r' h none next x = absurd (cc (none))
  reached_unseen (Unseen turn ∷ events) r r' (mid, t, h) none next x = reached_unseen events mid r' h none (next_turn turn r mid t ∙ next) (reached_turn turn r mid next x t)

-- ONE MORE SIGHT

-- up to the last sight, and behind it
record Split (r : Register) (sights : List Sight) (sight : Sight) (r' : Register) : Type 0 where
  front : List Event
  before : Register
  led : Leads r front before
  seen : seen_of front ≡ sights
  after : Register
  behind : IsOneOf after (behind sight before)
  back : List Event
  unseen : Leads after back r'
  none : seen_of back ≡ []

split_seen : (r mid : Register) (x : Sight) (sights : List Sight) (sight : Sight) (r' : Register) → IsOneOf mid (behind x r) → Split mid sights sight r' → Split r (x ∷ sights) sight r'
split_seen r mid x sights sight r' takes s =
    record { front = Seen x ∷ s.front; before = s.before; led = (mid, takes, s.led); seen = ap (λ xs. x ∷ xs) s.seen; after = s.after; behind = s.behind; back = s.back; unseen = s.unseen; none = s.none }

split_unseen : (r mid : Register) (turn : Turn) (sights : List Sight) (sight : Sight) (r' : Register) → Turns turn r mid → Split mid sights sight r' → Split r sights sight r'
split_unseen r mid turn sights sight r' takes s =
    record { front = Unseen turn ∷ s.front; before = s.before; led = (mid, takes, s.led); seen = s.seen; after = s.after; behind = s.behind; back = s.back; unseen = s.unseen; none = s.none }

split : (r : Register) (events : List Event) (sights : List Sight) (sight : Sight) (r' : Register) → Leads r events r' → seen_of events ≡ sights ++ sight ∷ [] → Split r sights sight r'
split r [] [] sight r' h e = absurd (cc (e))
split r [] (y ∷ sights) sight r' h e = absurd (cc (e))
split r (Unseen turn ∷ events) sights sight r' (mid, takes, h) e = split_unseen r mid turn sights sight r' takes (split mid events sights sight r' h e)
split r (Seen x ∷ events) [] sight r' (mid, takes, h) e =
    let same : x ≡ sight = cc (e) in
    let rest : seen_of events ≡ [] = cc (e) in
    record { front = []; before = r; led = refl; seen = refl; after = mid; behind = subst (λ s. IsOneOf mid (behind s r)) same takes; back = events; unseen = h; none = rest }
split r (Seen x ∷ events) (y ∷ sights) sight r' (mid, takes, h) e =
    let same : x ≡ y = cc (e) in
    let rest : seen_of events ≡ sights ++ sight ∷ [] = cc (e) in
    subst (λ s. Split r (s ∷ sights) sight r') same (split_seen r mid x sights sight r' takes (split mid events sights sight r' h rest))

in_all : (sight : Sight) (rs : List Register) (r f : Register) → IsOneOf r rs → IsOneOf f (behind sight r) → IsOneOf f (behind_all sight rs)
in_all sight [] r f h there = absurd h
in_all sight (x ∷ rs) r f (inl e) there = one_left f (behind sight x) (behind_all sight rs) (subst (λ y. IsOneOf f (behind sight y)) e there)
in_all sight (x ∷ rs) r f (inr h) there = one_right f (behind sight x) (behind_all sight rs) (in_all sight rs r f h there)

of_all : (sight : Sight) (rs : List Register) (f : Register) → IsOneOf f (behind_all sight rs) → (r : Register) × IsOneOf r rs × IsOneOf f (behind sight r)
of_all sight [] f h = absurd h
of_all sight (x ∷ rs) f h = elim (one_either f (behind sight x) (behind_all sight rs) h) [
  | inl here ↦ (x, inl refl, here)
  | inr later ↦ let r : (y : Register) × IsOneOf y rs × IsOneOf f (behind sight y) = of_all sight rs f later in (r.0, inr r.1, r.2)
]

module _ (start : ℕ) (sights : List Sight) (old new : List Register) (sight : Sight) (x : IsExact start sights old) (h : Sees old sight new) where
  all_real : (f : Register) → IsOneOf f h.all → IsReal start (sights ++ sight ∷ []) f
  all_real f there =
      let g : Grows (behind_all sight old) f = h.closes.grown f there in
      let r : (y : Register) × IsOneOf y old × IsOneOf g.first (behind sight y) = of_all sight old g.first g.has in
      let real : IsReal start sights r.0 = x.reals r.0 r.1 in
      record {
        events = real.events ++ Seen sight ∷ g.events;
        leads = leads_join (opening start) r.0 f real.events (Seen sight ∷ g.events) real.leads (g.first, r.2, g.leads);
        seen = seen_join real.events (Seen sight ∷ g.events) ∙ ap (λ xs. seen_of real.events ++ sight ∷ xs) g.unseen ∙ ap (λ xs. xs ++ sight ∷ []) real.seen;
      }

  new_there : (f : Register) → IsOneOf f new → IsOneOf f h.all
  new_there f there = h.prunes.among f there

  new_real : (f : Register) → IsOneOf f new → IsReal start (sights ++ sight ∷ []) f
  new_real f there = all_real f (new_there f there)

  kept_then : (g : Register) → IsKept h.all g → IsKept new g
  kept_then g (f, has, covers) = let k : IsKept new f = h.prunes.kept f has in (k.0, k.1, covers_then k.0 f g k.2 covers)

  new_closed : IsClosed new
  new_closed f there turn g t = kept_then g (h.closes.closed f (new_there f there) turn g t)

  reached_behind : (r r' : Register) → Reached old r → r.next ≡ next_of sights 1 → IsOneOf r' (behind sight r) → Reached new r'
  reached_behind r r' reached next takes =
      let too : SeesToo sight reached.form r' =
      sees_too sight reached.form r r' (next_real start sights reached.form (x.reals reached.form reached.has) ∙ sym next) reached.dated reached.covers takes in
      let k : IsKept new too.register = kept_then too.register (h.closes.begun too.register (in_all sight old reached.form too.register reached.has too.behind)) in
      record { dated = dated_sight sight r r' takes reached.dated; form = k.0; has = k.1; covers = covers_then k.0 too.register r' k.2 too.covers }

  pub complete_more : IsComplete start (sights ++ sight ∷ []) new
  complete_more events r leads seen =
      let s : Split (opening start) sights sight r = split (opening start) events sights sight r leads seen in
      let next : s.before.next ≡ next_of sights 1 = next_led (opening start) s.front s.before s.led ∙ ap (λ xs. next_of xs 1) s.seen in
      let after : s.after.next ≡ next_of (sights ++ sight ∷ []) 1 = next_sight sight s.before s.after s.behind ∙ ap (next_by sight) next ∙ sym (next_pushed sights sight 1) in
      reached_unseen new (next_of (sights ++ sight ∷ []) 1) (λ f there. next_real start (sights ++ sight ∷ []) f (new_real f there)) new_closed s.back s.after r s.unseen s.none after
      (reached_behind s.before s.after (x.complete s.front s.before s.led s.seen) next s.behind)

  pub exact_more : IsExact start (sights ++ sight ∷ []) new
  exact_more = record { reals = new_real; complete = complete_more; closed = new_closed }

-- THE START

opening_still : (start : ℕ) (turn : Turn) (f g : Register) → f ≡ opening start → Turns turn f g → ⊥
opening_still start turn f g is t = subst (λ (r : Register). IsOneOf t.of r.waits) is t.waits

opening_alone : (start : ℕ) (events : List Event) (r : Register) → Leads (opening start) events r → seen_of events ≡ [] → r ≡ opening start
opening_alone start [] r h e = h
opening_alone start (Seen sight ∷ events) r h e = absurd (cc (e))
opening_alone start (Unseen turn ∷ events) r (mid, t, h) e = absurd (opening_still start turn (opening start) mid refl t)

only_one : (r x : Register) → IsOneOf x (r ∷ []) → x ≡ r
only_one r x (inl e) = e
only_one r x (inr none) = absurd none

pub exact_first : (start : ℕ) (states : List Register) → states ≡ opening start ∷ [] → IsExact start [] states
exact_first start states is = subst (λ xs. IsExact start [] xs) (sym is) (record {
  reals = λ f h. record { events = []; leads = only_one (opening start) f h; seen = refl };
  complete = λ events r leads seen.
      let same : r ≡ opening start = opening_alone start events r leads seen in
      subst (Reached (opening start ∷ [])) (sym same) (record { dated = λ o p. absurd p; form = opening start; has = inl refl; covers = covers_self (opening start) });
  closed = λ f h turn g t. absurd (opening_still start turn f g (only_one (opening start) f h) t);
})

-- ALONG THE SIGHTS

pub exact_after : (start : ℕ) (past : List Sight) (kept : List Register) → Searched start past kept → IsExact start (in_order past) kept
exact_after start [] kept begins = exact_first start kept begins
exact_after start (sight ∷ past) kept (old, searched, sees) = exact_more start (in_order past) old kept sight (exact_after start past old searched) sees

pub search_exact : SearchIsExact
search_exact start past kept searched = (none_lost, some_real kept refl)
  where
    x : IsExact start (in_order past) kept
    x = exact_after start past kept searched

    none_lost : HasSchedule start (in_order past) → kept ≡ [] → ⊥
    none_lost h none = let c : Reached kept h.register = x.complete h.events h.register h.in_turn h.seen in subst (λ xs. IsOneOf c.form xs) none c.has

    some_real : (rs : List Register) → kept ≡ rs → (kept ≡ [] → ⊥) → HasSchedule start (in_order past)
    some_real [] e some = absurd (some e)
    some_real (r ∷ rs) e some =
        let real : IsReal start (in_order past) r = x.reals r (subst (λ xs. IsOneOf r xs) (sym e) (inl refl)) in
        record { events = real.events; register = r; in_turn = real.leads; seen = real.seen }
