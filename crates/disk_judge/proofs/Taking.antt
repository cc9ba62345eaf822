-- Sectors that take events, one after the other.
use Rattle.std.proofs.Common.{◌≡◌, ◌≢◌, ◌<◌, ◌≤◌, ◌⊎◌, inl, inr, ℕ, suc, ◌+◌, Bool, true, false, List, [], ◌∷◌, ◌++◌, Option, Some, None, refl, sym, ap, subst, ◌∙◌, arith, length, get_or, take, replicate, eqb}
use Rattle.std.specs.Prelude.{MatchOption, if◌then◌else◌}
use Rattle.std.specs.List.{cons_option, filter_map}
use Rattle.std.proofs.Math.Seq.{take-suc}
use Rattle.std.proofs.lemmas.Bool.Decides.{eqb_tells, leb_tells}
use Rattle.std.proofs.lemmas.List.{take_all, get_or-replicate, length-replicate}
use Rattle.std.proofs.lemmas.List.Elements.{filter_map-append}
use Rattle.sector_judge.specs.declared.Event.{Event}
use Rattle.sector_judge.specs.Known.{Knowledge, judged, next, nothing_known}
use Rattle.sector_judge.proofs.Judging.{none_never, some_can, taken_next}
use Rattle.disk_judge.specs.declared.Happening.{Happening}
use Rattle.disk_judge.specs.declared.Happening.TheVariants.{At}
use Rattle.disk_judge.specs.Disks.{CanHappenTo, HasTaken, IsRefusal, IsRefusedAt, after, event_at, events_at, known_at}
use Rattle.disk_judge.specs.inside.One.{HaveTaken, IsNever, IsTakenAt}

-- EACH IN TURN

pub none_yet : (event : Event) (old : List Knowledge) → HaveTaken 0 event old old
none_yet event old = record { long = refl; first = λ i low. absurd (omega (arith, low)); rest = λ i high. refl }

below : (i count : ℕ) → i < count + 1 → i ≢ count → i < count
below i count low differs = elim (leb_tells (suc i) count) [ inl h ↦ omega (arith, h.1) | inr h ↦ absurd (differs (omega (arith, h.1, low))) ]

pub one_more : (count : ℕ) (event : Event) (old now new : List Knowledge) → HaveTaken count event old now → IsTakenAt count event now new → HaveTaken (count + 1) event old new
one_more count event old now new so_far taken = record {
  long = taken.long ∙ so_far.long;
  first = λ i low. by_place i low (eqb_tells i count);
  rest = λ i high. taken.others i (λ e. high (omega (arith, e))) ∙ so_far.rest i (λ low. high (omega (arith, low)));
}
  where
    by_place : (i : ℕ) → i < count + 1 → ((eqb i count ≡ true) × (i ≡ count)) ⊎ ((eqb i count ≡ false) × (i ≢ count)) → next (known_at old i) event ≡ Some (known_at new i)
    by_place i low (inl h) =
        subst (λ (j : ℕ). next (known_at old j) event ≡ Some (known_at new j)) (sym h.1)
        (ap (λ (k : Knowledge). next k event) (sym (so_far.rest count (λ low. omega (arith, low)))) ∙ taken.at)
    by_place i low (inr h) = so_far.first i (below i count low h.1) ∙ ap (λ (k : Knowledge). Some k) (sym (taken.others i h.1))

pub one_refuses : (count : ℕ) (event : Event) (old now : List Knowledge) → count < length now → HaveTaken count event old now → next (known_at now count) event ≡ None → IsNever event old count
one_refuses count event old now low so_far none = record {
  on_disk = subst (λ (n : ℕ). count < n) so_far.long low;
  never = ap (λ (k : Knowledge). next k event) (sym (so_far.rest count (λ low. omega (arith, low)))) ∙ none;
}

-- HAPPENINGS

-- what happens to all sectors
pub all_taken : (happening : Happening) (event : Event) (old new : List Knowledge) → ((i : ℕ) → event_at i happening ≡ Some event) → HaveTaken (length old) event old new → HasTaken happening old new
all_taken happening event old new is taken = record {
  long = taken.long;
  each = λ i low. ap (λ (o : Option Event). after o (known_at old i)) (is i) ∙ taken.first i low;
}

pub all_refuse : (happening : Happening) (event : Event) (old : List Knowledge) (sector : ℕ) → ((i : ℕ) → event_at i happening ≡ Some event) → IsNever event old sector → IsRefusedAt happening old sector
all_refuse happening event old sector is never = record { on_disk = never.on_disk; never = ap (λ (o : Option Event). after o (known_at old sector)) (is sector) ∙ never.never }

here : (sector : ℕ) (event : Event) → event_at sector (At sector event) ≡ Some event
here sector event = elim (eqb_tells sector sector) [ inl h ↦ ap (λ (b : Bool). if b then Some event else None) h.0 | inr h ↦ absurd (h.1 refl) ]

elsewhere : (sector i : ℕ) (event : Event) → i ≢ sector → event_at i (At sector event) ≡ None
elsewhere sector i event differs = elim (eqb_tells sector i) [ inl h ↦ absurd (differs (sym h.1)) | inr h ↦ ap (λ (b : Bool). if b then Some event else None) h.0 ]

pub taken_at : (sector : ℕ) (event : Event) (old new : List Knowledge) → IsTakenAt sector event old new → HasTaken (At sector event) old new
taken_at sector event old new taken = record { long = taken.long; each = λ i low. by_place i (eqb_tells i sector) }
  where
    by_place : (i : ℕ) → ((eqb i sector ≡ true) × (i ≡ sector)) ⊎ ((eqb i sector ≡ false) × (i ≢ sector)) → after (event_at i (At sector event)) (known_at old i) ≡ Some (known_at new i)
    by_place i (inl h) =
        subst (λ (j : ℕ). after (event_at j (At sector event)) (known_at old j) ≡ Some (known_at new j)) (sym h.1)
        (ap (λ (o : Option Event). after o (known_at old sector)) (here sector event) ∙ taken.at)
    by_place i (inr h) = ap (λ (o : Option Event). after o (known_at old i)) (elsewhere sector i event h.1) ∙ ap (λ (k : Knowledge). Some k) (sym (taken.others i h.1))

pub refused_at : (sector : ℕ) (event : Event) (old : List Knowledge) → sector < length old → next (known_at old sector) event ≡ None → IsRefusedAt (At sector event) old sector
refused_at sector event old low none = record { on_disk = low; never = ap (λ (o : Option Event). after o (known_at old sector)) (here sector event) ∙ none }

-- a sector that the disk doesn't have
pub not_followed : (sector : ℕ) (event : Event) (old : List Knowledge) → length old ≤ sector → HasTaken (At sector event) old old
not_followed sector event old high = record {
  long = refl;
  each = λ i low. ap (λ (o : Option Event). after o (known_at old i)) (elsewhere sector i event (λ e. omega (arith, e, low, high)));
}

-- ALL THAT HAPPENED

-- each sector is known by what happened to it
pub record AreKnown (count : ℕ) (happenings : List Happening) (sectors : List Knowledge) : Type 0 where
  pub long : length sectors ≡ count
  pub each : (i : ℕ) → i < count → judged nothing_known (events_at i happenings) ≡ Some (known_at sectors i)

pub known_first : (count : ℕ) (sectors : List Knowledge) → sectors ≡ replicate count nothing_known → AreKnown count [] sectors
known_first count sectors e = record {
  long = ap length e ∙ length-replicate count nothing_known;
  each = λ i low. ap (λ (k : Knowledge). Some k) (sym (ap (λ (ks : List Knowledge). known_at ks i) e ∙ get_or-replicate count i nothing_known nothing_known low));
}

-- one happening more, as one event or none
abbrev events_of : Option Event → List Event
events_of None = []
events_of (Some event) = event ∷ []

no_more : (xs : List Event) → xs ++ [] ≡ xs
no_more [] = refl
no_more (x ∷ xs) = ap (λ (ys : List Event). x ∷ ys) (no_more xs)

one_event : (i : ℕ) (happening : Happening) → filter_map (event_at i) (happening ∷ []) ≡ events_of (event_at i happening)
one_event i happening = by_event (event_at i happening)
  where
    by_event : (e : Option Event) → cons_option e [] ≡ events_of e
    by_event None = refl
    by_event (Some event) = refl

more_at : (i : ℕ) (happenings : List Happening) (happening : Happening) (k : Knowledge) (o : Option Knowledge) → judged nothing_known (events_at i happenings) ≡ Some k → after (event_at i happening) k ≡ o
    → judged nothing_known (events_at i (happenings ++ happening ∷ [])) ≡ o
more_at i happenings happening k o so_far is =
    ap (λ (es : List Event). judged nothing_known es) (filter_map-append (event_at i) happenings (happening ∷ []) ∙ ap (λ (es : List Event). events_at i happenings ++ es) (one_event i happening))
    ∙ by_event (event_at i happening) ∙ is
  where
    by_event : (e : Option Event) → judged nothing_known (events_at i happenings ++ events_of e) ≡ after e k
    by_event None = ap (λ (es : List Event). judged nothing_known es) (no_more (events_at i happenings)) ∙ so_far
    by_event (Some event) = taken_next (events_at i happenings) event k so_far

taken_more : (happenings : List Happening) (index : ℕ) (d : Happening) → index < length happenings → take (index + 1) happenings ≡ take index happenings ++ get_or happenings index d ∷ []
taken_more happenings index d low = let e : index + 1 ≡ suc index = omega arith in ap (λ (n : ℕ). take n happenings) e ∙ take-suc happenings index d low

pub known_next : (count : ℕ) (happenings : List Happening) (index : ℕ) (d : Happening) (old new : List Knowledge) → index < length happenings → AreKnown count (take index happenings) old → HasTaken (get_or happenings index d) old new
    → AreKnown count (take (index + 1) happenings) new
known_next count happenings index d old new low known taken = record {
  long = taken.long ∙ known.long;
  each = λ i on.
      ap (λ (hs : List Happening). judged nothing_known (events_at i hs)) (taken_more happenings index d low)
      ∙ more_at i (take index happenings) (get_or happenings index d) (known_at old i) (Some (known_at new i)) (known.each i on) (taken.each i (subst (λ (n : ℕ). i < n) (sym known.long) on));
}

pub refuses : (count : ℕ) (happenings : List Happening) (index : ℕ) (d : Happening) (old : List Knowledge) (sector : ℕ) → index < length happenings → AreKnown count (take index happenings) old → IsRefusedAt (get_or happenings index d) old sector
    → IsRefusal count happenings (index + 1) sector
refuses count happenings index d old sector low known refused =
    let on : sector < count = subst (λ (n : ℕ). sector < n) known.long refused.on_disk in
    record {
      within = omega (arith, low);
      on_disk = on;
      never = none_never (events_at sector (take (index + 1) happenings))
          (ap (λ (hs : List Happening). judged nothing_known (events_at sector hs)) (taken_more happenings index d low)
          ∙ more_at sector (take index happenings) (get_or happenings index d) (known_at old sector) None (known.each sector on) refused.never);
    }

pub passes : (count : ℕ) (happenings : List Happening) (index : ℕ) (sectors : List Knowledge) → length happenings ≤ index → AreKnown count (take index happenings) sectors → CanHappenTo count happenings
passes count happenings index sectors high known i on =
    some_can (events_at i happenings) (known_at sectors i) (subst (λ (hs : List Happening). judged nothing_known (events_at i hs) ≡ Some (known_at sectors i)) (take_all index happenings high) (known.each i on))

-- what a take tells
abbrev pub Tells : Option ℕ → Happening → List Knowledge → List Knowledge → Type 0
Tells refused happening old new = MatchOption refused (HasTaken happening old new) (IsRefusedAt happening old)

pub refuses_by : (count : ℕ) (happenings : List Happening) (index : ℕ) (d : Happening) (old new : List Knowledge) (refused : Option ℕ) (sector : ℕ) → index < length happenings → AreKnown count (take index happenings) old
    → Tells refused (get_or happenings index d) old new → refused ≡ Some sector → IsRefusal count happenings (index + 1) sector
refuses_by count happenings index d old new refused sector low known tells is =
    refuses count happenings index d old sector low known (subst (λ (o : Option ℕ). Tells o (get_or happenings index d) old new) is tells)

pub known_by : (count : ℕ) (happenings : List Happening) (index : ℕ) (d : Happening) (old new : List Knowledge) (refused : Option ℕ) → index < length happenings → AreKnown count (take index happenings) old
    → Tells refused (get_or happenings index d) old new → refused ≡ None → AreKnown count (take (index + 1) happenings) new
known_by count happenings index d old new refused low known tells is =
    known_next count happenings index d old new low known (subst (λ (o : Option ℕ). Tells o (get_or happenings index d) old new) is tells)
