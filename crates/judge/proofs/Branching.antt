-- The starts by each request in turn.
use Rattle.std.proofs.Common.{◌≡◌, ◌<◌, ◌≤◌, ℕ, ◌+◌, List, [], ◌∷◌, ◌++◌, Option, Some, None, false, refl, sym, ◌∙◌, ap, arith, length, get_or, take, drop}
use Rattle.std.specs.List.{flat_map, remove}
use Rattle.std.specs.Option.{is_some}
use Rattle.std.proofs.lemmas.List.{drop_more, drop_all, append_assoc, append-nil}
use Rattle.std.proofs.lemmas.List.Concat.{flat_map-append}
use Rattle.sector.specs.declared.Extent.{Extent}
use Rattle.cdb.specs.declared.Cdb.{Cdb}
use Rattle.machine.specs.Rules.{Rules}
use Rattle.machine.specs.State.{OpenRequest, State}
use Rattle.judge.specs.Picking.{choices}
use Rattle.judge.specs.StartRuling.{startable}
use Rattle.judge.specs.Next.{started_by, started_of, started_each}
use Rattle.judge.specs.Starting.{choice_at, started_as, pending_states}
use Rattle.judge.specs.declared.starts.Pending.{Pending}
use Rattle.judge.proofs.Picking.{length-choices, choices_at}

module _ {X : Type 0} (xs : List X) where
  -- the choice at a place
  one_choice : (k : ℕ) (x : X) → k < length xs → x ≡ get_or xs k x → take 1 (drop k (choices xs)) ≡ (x, remove xs k) ∷ []
  one_choice k x low is =
      let short : k < length (choices xs) = rw length-choices low in
      ap (λ cs. take 1 cs) (drop_more (choices xs) k (x, remove xs k) short)
      ∙ ap (λ c. c ∷ []) (choices_at xs k x (x, remove xs k) low ∙ ap (λ y. (y, remove xs k)) (sym is))

  -- one place more
  pub one_more : {Y : Type 0} (f : X × List X → List Y) (done after all : List Y) (k : ℕ) → k < length xs → after ≡ done ++ flat_map f (take 1 (drop k (choices xs)))
      → done ++ flat_map f (drop k (choices xs)) ≡ all → after ++ flat_map f (drop (k + 1) (choices xs)) ≡ all
  one_more f done after all k low e h =
      let short : k < length (choices xs) = rw length-choices low in
      ap (λ ys. ys ++ flat_map f (drop (k + 1) (choices xs))) e
      ∙ append_assoc done (flat_map f (take 1 (drop k (choices xs)))) (flat_map f (drop (k + 1) (choices xs)))
      ∙ ap (λ ys. done ++ ys) (sym (flat_map-append f (take 1 (drop k (choices xs))) (drop (k + 1) (choices xs))) ∙ ap (flat_map f) (parted (choices xs) k short))
      ∙ h
    where
      parted : {Z : Type 0} (zs : List Z) (k : ℕ) → k < length zs → take 1 (drop k zs) ++ drop (k + 1) zs ≡ drop k zs
      parted [] k low = absurd (omega arith)
      parted (z ∷ zs) k low = let here : drop k (z ∷ zs) ≡ get_or (z ∷ zs) k z ∷ drop (k + 1) (z ∷ zs) = drop_more (z ∷ zs) k z low in rw here refl

  pub no_more : {Y : Type 0} (f : X × List X → List Y) (done all : List Y) (k : ℕ) → length xs ≤ k → done ++ flat_map f (drop k (choices xs)) ≡ all → done ≡ all
  no_more f done all k past h =
      let past' : length (choices xs) ≤ k = rw length-choices past in
      sym (append-nil done) ∙ ap (λ cs. done ++ flat_map f cs) (sym (drop_all k (choices xs) past')) ∙ h

module _ (s : State) (tag : ℕ) where
  -- a start by the request at a place
  pub start_is : (k : ℕ) (o : OpenRequest) (places : Extent) → k < length s.requests → o ≡ get_or s.requests k o
      → flat_map (started_as s tag places) (choice_at s k) ≡ started_by s tag o (remove s.requests k) places ∷ []
  start_is k o places low is = ap (flat_map (started_as s tag places)) (one_choice s.requests k o low is)

  module _ (rules : Rules) (owner : Option ℕ) (command : Cdb) where
    pub none_starts : (k : ℕ) (o : OpenRequest) → k < length s.requests → o ≡ get_or s.requests k o → None ≡ startable rules s owner command o
        → flat_map (started_each rules s tag owner command) (choice_at s k) ≡ []
    none_starts k o low is e = ap (flat_map (started_each rules s tag owner command)) (one_choice s.requests k o low is) ∙ append-nil _ ∙ ap (started_of s tag o (remove s.requests k)) (sym e)

    pub one_starts : (k : ℕ) (o : OpenRequest) (places : Extent) → k < length s.requests → o ≡ get_or s.requests k o → Some places ≡ startable rules s owner command o
        → flat_map (started_each rules s tag owner command) (choice_at s k) ≡ flat_map (started_as s tag places) (choice_at s k)
    one_starts k o places low is e =
        ap (flat_map (started_each rules s tag owner command)) (one_choice s.requests k o low is) ∙ append-nil _ ∙ ap (started_of s tag o (remove s.requests k)) (sym e)
        ∙ sym (start_is k o places low is)

    -- no start by the request at a place
    pub none_at : (k : ℕ) (o : OpenRequest) (next : Option Pending)
        → k < length s.requests → o ≡ get_or s.requests k o → None ≡ startable rules s owner command o → next ≡ None
        → pending_states s tag next ≡ flat_map (started_each rules s tag owner command) (choice_at s k)
    none_at k o next low is e none = ap (pending_states s tag) none ∙ sym (none_starts k o low is e)

    -- the start at a place is pending from now on, and the one before was added
    pub one_found : (before found : List State) (k : ℕ) (pending next after : Option Pending)
        → pending_states s tag next ≡ flat_map (started_each rules s tag owner command) (choice_at s k)
        → found ≡ before ++ pending_states s tag pending → after ≡ next
        → found ++ pending_states s tag after
        ≡ (before ++ pending_states s tag pending) ++ flat_map (started_each rules s tag owner command) (choice_at s k)
    one_found before found k pending next after starts added same =
        ap (λ ys. ys ++ pending_states s tag after) added
        ∙ ap (λ ys. (before ++ pending_states s tag pending) ++ ys) (ap (pending_states s tag) same ∙ starts)

    -- there is no start at a place
    pub none_found : (before found : List State) (k : ℕ) (pending next after : Option Pending)
        → pending_states s tag next ≡ flat_map (started_each rules s tag owner command) (choice_at s k)
        → is_some next ≡ false → found ≡ before → after ≡ pending
        → found ++ pending_states s tag after
        ≡ (before ++ pending_states s tag pending) ++ flat_map (started_each rules s tag owner command) (choice_at s k)
    none_found before found k pending next after starts none kept same =
        ap (λ ys. ys ++ pending_states s tag after) kept
        ∙ ap (λ (p : Option Pending). before ++ pending_states s tag p) same
        ∙ sym (append-nil (before ++ pending_states s tag pending))
        ∙ ap (λ ys. (before ++ pending_states s tag pending) ++ ys) (sym (nothing next none) ∙ starts)
      where
        nothing : (p : Option Pending) → is_some p ≡ false → pending_states s tag p ≡ []
        nothing None e = refl
        nothing (Some p) e = absurd (cc (e))
