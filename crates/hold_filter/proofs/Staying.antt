-- What a release leaves as it is.
use Rattle.hold_filter.proofs.Common.{◌≡◌, ◌≤◌, inl, inr, Bool, true, false, List, [], ◌++◌, refl, sym, subst, ap, ◌∙◌, map, length, get_or, All, Contains, IsFalse, map-append, All-append, All-contains, All-map, All-weaker, Contains-append_left, Contains-append_right, Contains-get_or, Rules, OpenRequest, State, is_started, DeviceView, StaysOpen, StaysIfStarted, Held, TableView, packet_in, here, LetsNoneGo, open_here, are_late, requests_here, state_of, NoneMayGo, Spares}
use Rattle.hold_filter.proofs.Here.{not_started, true_false}

-- each item is there
pub all_there : {X : Type 0} (xs ys : List X) → ((x : X) → Contains xs x → Contains ys x)
    → All (λ x. Contains ys x) xs
all_there xs ys inside i d low = inside (get_or xs i d) (Contains-get_or xs i d low)

-- what stays open, and stays open then
pub stay_then : (s t : State) (os : List OpenRequest) → All (StaysOpen s) os → All (StaysOpen t) s.requests
    → All (StaysOpen t) os
stay_then s t os first second =
    All-weaker (StaysOpen s) (StaysOpen t) (λ o there. All-contains (StaysOpen t) s.requests o second there) os
    first

-- nothing changes
pub spares_same : (v : DeviceView) (b : TableView) → Spares v b v b
spares_same v b = record {
  below = all_there v.state.requests v.state.requests (λ o there. there);
  rules = refl;
  ended = refl;
  paused = refl;
  removing = refl;
  none_goes = λ none. (refl, refl);
}

pub spares_none : (v : DeviceView) (b b' : TableView) → LetsNoneGo b b' → Spares v b v b'
spares_none v b b' h = subst (λ (x : TableView). Spares v b v x) (sym h.same) (spares_same v b)

-- one after the other
pub spares_then : (v v1 v2 : DeviceView) (b b1 b2 : TableView) → Spares v b v1 b1 → Spares v1 b1 v2 b2
    → Spares v b v2 b2
spares_then v v1 v2 b b1 b2 g h = record {
  below = stay_then v1.state v2.state v.state.requests g.below h.below;
  rules = h.rules ∙ g.rules;
  ended = h.ended ∙ g.ended;
  paused = h.paused ∙ g.paused;
  removing = h.removing ∙ g.removing;
  none_goes = λ none. let first = g.none_goes none in
      let second = h.none_goes
      (subst (λ (x : DeviceView). NoneMayGo x b1) (sym first.0)
      (subst (λ (y : TableView). NoneMayGo v y) (sym first.1) none)) in
      (second.0 ∙ first.0, second.1 ∙ first.1);
}

-- what is here stays where it is, whatever is held beside it
ended_stay : (rules rules' : Rules) (late late' : Bool) (held' ended ended' : List Held) → rules' ≡ rules
    → late' ≡ late
    → ended' ≡ ended
    → All (λ o. Contains (map (open_here rules' late') (held' ++ ended')) o) (map (open_here rules late) ended)
ended_stay rules rules' late late' held' ended ended' same_rules same_late same_ended =
    rw (same_rules, same_late, same_ended) (all_there (map open_as ended) (map open_as (held' ++ ended)) (λ o there.
    subst (λ os. Contains os o) (sym (map-append open_as held' ended))
    (Contains-append_right (map open_as held') (map open_as ended) o there)))
  where
    open_as : Held → OpenRequest
    open_as x = open_here rules late x

module _ (v v' : DeviceView) (b b1 b' : TableView) (spares : Spares v b1 v' b') where
  -- what is open below
  pub below_stay : All (StaysOpen (state_of v' b')) v.state.requests
  below_stay = All-weaker (StaysOpen v'.state) (StaysOpen (state_of v' b'))
      (λ o there. Contains-append_left v'.state.requests (requests_here v'.rules b') o there) v.state.requests
      spares.below

  module _ (ended : b1.ended ≡ b.ended) (paused : b1.paused ≡ b.paused) (removing : b1.removing ≡ b.removing)
      (all_held : IsFalse b.paused → IsFalse b.removing → b.window ≤ length v.state.requests → NoneMayGo v b1)
      (more : All (λ o. Contains (requests_here v.rules b1) o) (requests_here v.rules b)) where
    late_is : are_late b' ≡ are_late b
    late_is = rw (spares.paused, paused, spares.removing, removing) refl

    -- where none is held, what was cancelled before
    none_held : b.held ≡ [] → All (StaysOpen (state_of v' b')) (requests_here v.rules b)
    none_held nothing =
        let here_is : requests_here v.rules b ≡ map (open_here v.rules (are_late b)) (map packet_in b.ended) =
        ap (λ es. map (open_here v.rules (are_late b)) (map packet_in es ++ map packet_in b.ended)) nothing in
        let stay = ended_stay v.rules v'.rules (are_late b) (are_late b') (map packet_in b'.held)
        (map packet_in b.ended) (map packet_in b'.ended) spares.rules late_is
        (ap (λ es. map packet_in es) (spares.ended ∙ ended)) in
        subst (λ os. All (StaysOpen (state_of v' b')) os) (sym here_is)
        (All-weaker (λ o. Contains (requests_here v'.rules b') o) (StaysOpen (state_of v' b'))
        (λ o there. Contains-append_right v'.state.requests (requests_here v'.rules b') o there) _ stay)

    -- where none may go, all
    none_went : NoneMayGo v b1 → All (StaysOpen (state_of v' b')) (requests_here v.rules b)
    none_went none =
        let same = spares.none_goes none in
        subst (λ (x : DeviceView). All (StaysOpen (state_of x b')) (requests_here v.rules b)) (sym same.0)
        (subst (λ (y : TableView). All (StaysOpen (state_of v y)) (requests_here v.rules b)) (sym same.1)
        (All-weaker (λ o. Contains (requests_here v.rules b1) o) (StaysOpen (state_of v b1))
        (λ o there. Contains-append_right v.state.requests (requests_here v.rules b1) o there) _ more))

    here_stay : NoneMayGo v b → All (StaysOpen (state_of v' b')) (requests_here v.rules b)
    here_stay none = by b.paused b.removing refl refl
      where
        by : (p r : Bool) → b.paused ≡ p → b.removing ≡ r
            → All (StaysOpen (state_of v' b')) (requests_here v.rules b)
        by true r is_p is_r = none_went (λ going staying. absurd (cc (is_p, paused, going)))
        by false true is_p is_r = none_went (λ going staying. absurd (cc (is_r, removing, staying)))
        by false false is_p is_r =
            elim (none is_p is_r)
            [ inl nothing ↦ none_held nothing | inr full ↦ none_went (all_held is_p is_r full) ]

    -- all that was open
    pub others_stay : NoneMayGo v b → All (StaysOpen (state_of v' b')) (state_of v b).requests
    others_stay none = All-append (StaysOpen (state_of v' b')) v.state.requests (requests_here v.rules b) below_stay
        (here_stay none)

-- nothing of a packet here was started
pub here_not_started : (rules : Rules) (b : TableView) (t : State) → All (StaysIfStarted t) (requests_here rules b)
here_not_started rules b t =
    All-map (StaysIfStarted t) (open_here rules (are_late b)) (here b)
    (λ i d low started. true_false (is_started (open_here rules (are_late b) (get_or (here b) i d))) started
    (not_started rules (are_late b) (get_or (here b) i d)))
