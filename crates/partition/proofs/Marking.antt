-- Cancellation, the hold and removal of the disk are those of the partitions' machine.
use Rattle.partition.proofs.Common.{◌≡◌, ◌+◌, ℕ, Bool, true, false, cond, List, [], ◌∷◌, Option, Some, None, refl, sym, ◌∙◌, ap, subst, arith, map, remove, sum_by-cons, IsPermutation-sym, IsPermutation-map, IsPermutation-remove, All-permutation, Contains-permutation, All-map, All-weaker, Extent, Rules, OpenRequest, State, IsSame, Cancels, Pauses, Resumes, Drains, as_cancelled, as_timely, held_back, beyond, is_lower, IsSame-refl, All-changed, Packet, NoneToCancel, rules_over, as_called, on_partitions, LiesInside}
use Rattle.std.specs.Prelude.{All, Contains, count_by, nat_le, ◌||◌, if◌then◌else◌}
use Rattle.partition.proofs.Noted.{maps_are, from_map}
use Rattle.partition.proofs.Steps.{IsSame-up}

module _ (below : Rules) (table : List Extent) (packets : List Packet) where
  abbrev over : Rules
  over = rules_over table below

  abbrev up : State → State
  up s = on_partitions over packets s

  abbrev as_up : OpenRequest → OpenRequest
  as_up o = as_called over packets o

  -- CANCEL

  pub Cancels-over : (s : State) (number : ℕ) (s' : State) → Cancels s number s' → Cancels (up s) number (up s')
  Cancels-over s number s' h = record {
    request = as_up h.request;
    others = map as_up h.others;
    is_open = IsPermutation-map as_up _ _ h.is_open;
    is_number = h.is_number;
    not_yet = h.not_yet;
    after = IsSame-up below table packets s' _ h.after;
  }

  pub none_over : (s : State) (number : ℕ) → NoneToCancel s number → NoneToCancel (up s) number
  none_over s number none t h =
      by (from_map as_up s.requests h.request (Contains-permutation _ _ h.request (IsPermutation-sym _ _ h.is_open) (0, omega arith, refl)))
    where
      by : (o : OpenRequest) × Contains s.requests o × (as_up o ≡ h.request) → ⊥
      by (o, (k, low, is), e) =
          none (record s { requests = as_cancelled o ∷ remove s.requests k }) (record {
            request = o;
            others = remove s.requests k;
            is_open = IsPermutation-remove s.requests k o low (sym is);
            is_number = ap (λ (x : OpenRequest). x.number) e ∙ h.is_number;
            not_yet = ap (λ (x : OpenRequest). x.cancelled) e ∙ h.not_yet;
            after = IsSame-refl _;
          })

  -- PAUSE, RESUME, DRAIN

  count_up : (number : ℕ) (requests : List OpenRequest)
      → count_by (is_lower number) (map as_up requests) ≡ count_by (is_lower number) requests
  count_up number [] = refl
  count_up number (o ∷ requests) =
      sum_by-cons (λ x. cond (is_lower number x) 1 0) (as_up o) (map as_up requests)
      ∙ ap (λ n. cond (is_lower number o) 1 0 + n) (count_up number requests)
      ∙ sym (sum_by-cons (λ x. cond (is_lower number x) 1 0) o requests)

  held_up : (window : Option ℕ) (requests : List OpenRequest)
      → map as_up (held_back window requests) ≡ held_back window (map as_up requests)
  held_up None requests = refl
  held_up (Some window) requests =
      maps_are (beyond window requests) as_up (λ o. beyond window (map as_up requests) (as_up o))
      (λ o. ap (λ n. record (as_up o) { late = o.late || nat_le window n }) (sym (count_up o.number requests))) requests
      ∙ sym (maps_are as_up (beyond window (map as_up requests)) (λ o. beyond window (map as_up requests) (as_up o)) (λ o. refl) requests)

  pub Drains-over : (s s' : State) → Drains below s s' → Drains over (up s) (up s')
  Drains-over s s' h =
      subst (λ os. IsSame (up s') (record (up s) { paused = false; removing = true; requests = os })) (by s.paused)
      (IsSame-up below table packets s' _ h)
    where
      by : (paused : Bool)
          → map as_up (if paused then s.requests else held_back below.window s.requests)
          ≡ (if paused then map as_up s.requests else held_back below.window (map as_up s.requests))
      by true = refl
      by false = held_up below.window s.requests

  pub Pauses-over : (s s' : State) → Pauses below s s' → Pauses over (up s) (up s')
  Pauses-over s s' h = record {
    not_paused = h.not_paused;
    not_removing = h.not_removing;
    after =
        subst (λ os. IsSame (up s') (record (up s) { paused = true; requests = os })) (held_up below.window s.requests)
        (IsSame-up below table packets s' _ h.after);
  }

  pub Resumes-over : (s s' : State) → Resumes s s' → Resumes (up s) (up s')
  Resumes-over s s' h = record {
    is_paused = h.is_paused;
    after = subst (λ os. IsSame (up s') (record (up s) { paused = false; requests = os }))
        (maps_are as_timely as_up (λ o. as_timely (as_up o)) (λ o. refl) s.requests
        ∙ sym (maps_are as_up as_timely (λ o. as_timely (as_up o)) (λ o. refl) s.requests))
        (IsSame-up below table packets s' _ h.after);
  }

  -- THE REQUESTS LIE WHERE THEY DID

  lie_mapped : (f : OpenRequest → OpenRequest) → ((o : OpenRequest) → LiesInside over packets o → LiesInside over packets (f o))
      → (requests : List OpenRequest) → All (LiesInside over packets) requests
      → All (LiesInside over packets) (map f requests)
  lie_mapped f keeps requests lie =
      All-map (LiesInside over packets) f requests
      (All-weaker (LiesInside over packets) (λ o. LiesInside over packets (f o)) keeps requests lie)

  lie_held : (window : Option ℕ) (requests : List OpenRequest) → All (LiesInside over packets) requests
      → All (LiesInside over packets) (held_back window requests)
  lie_held None requests lie = lie
  lie_held (Some window) requests lie =
      lie_mapped (beyond window requests)
      (λ o h. record { bounded = h.bounded; is_asked = h.is_asked; all_places = h.all_places }) requests lie

  pub lie_cancelled : (s : State) (number : ℕ) (s' : State) → All (LiesInside over packets) s.requests → Cancels s number s'
      → All (LiesInside over packets) s'.requests
  lie_cancelled s number s' lie h =
      All-permutation (LiesInside over packets) _ _ (IsPermutation-sym _ _ h.after.requests)
      (All-changed (LiesInside over packets) s.requests h.request _ h.others h.is_open lie
      (λ l. record { bounded = l.bounded; is_asked = l.is_asked; all_places = l.all_places }))

  pub lie_drained : (s s' : State) → All (LiesInside over packets) s.requests → Drains below s s'
      → All (LiesInside over packets) s'.requests
  lie_drained s s' lie h = All-permutation (LiesInside over packets) _ _ (IsPermutation-sym _ _ h.requests) (by s.paused)
    where
      by : (paused : Bool) → All (LiesInside over packets) (if paused then s.requests else held_back below.window s.requests)
      by true = lie
      by false = lie_held below.window s.requests lie

  pub lie_paused : (s s' : State) → All (LiesInside over packets) s.requests → Pauses below s s' → All (LiesInside over packets) s'.requests
  lie_paused s s' lie h =
      All-permutation (LiesInside over packets) _ _ (IsPermutation-sym _ _ h.after.requests) (lie_held below.window s.requests lie)

  pub lie_resumed : (s s' : State) → All (LiesInside over packets) s.requests → Resumes s s' → All (LiesInside over packets) s'.requests
  lie_resumed s s' lie h =
      All-permutation (LiesInside over packets) _ _ (IsPermutation-sym _ _ h.after.requests)
      (lie_mapped as_timely (λ o l. record { bounded = l.bounded; is_asked = l.is_asked; all_places = l.all_places }) s.requests lie)
