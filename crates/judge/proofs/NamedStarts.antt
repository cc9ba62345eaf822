-- The rule that is named of a start is one that the label breaks; where none is named some step goes by the label.
use Rattle.std.proofs.Common.{◌≡◌, ◌≢◌, ◌<◌, ◌≤◌, ◌⊎◌, inl, inr, ℕ, zero, suc, ◌+◌, ◌-◌, ◌%◌, Bool, true, false, List, ◌∷◌, Option, Some, None, refl, sym, ◌∙◌, ap, subst, arith, length, get_or, eqb, eq-eqb}
use Rattle.std.specs.Prelude.{◌==◌, ◌&&◌, ◌||◌, not, nat_lt, Result, Ok, Err, IsPermutation, Contains, All, IsTrue, IsFalse, IfSome, MatchOption, slice_range, is_some, if◌then◌else◌}
use Rattle.std.specs.List.{AllByRecursion, find, list_all, list_any, position}
use Rattle.std.specs.Option.{option_or}
use Rattle.std.proofs.lemmas.Bool.{both_ways, eqb-true, eqb-false, ltb-true, ltb-false, leb-true, le-leb, lt-ltb, and_parts, and_from, or_parts, not-true, not-false}
use Rattle.std.proofs.lemmas.Bool.Decides.{Decides-by_and}
use Rattle.std.proofs.lemmas.List.Edits.{get_or-between, length-between}
use Rattle.std.proofs.lemmas.List.Sorted.{IsPermutation-sym, Contains-permutation}
use Rattle.std.proofs.lemmas.List.Elements.{All-contains, Contains-get_or}
use Rattle.std.proofs.lemmas.List.Folds.{Any-from_list_any}
use Rattle.std.proofs.lemmas.List.Quantifiers.{position-Some}
use Rattle.sector.specs.declared.Extent.{Extent}
use Rattle.cdb.specs.declared.Cdb.{Cdb}
use Rattle.cdb.specs.Meaning.{IsPlain, Means}
use Rattle.srb.specs.declared.Kind.{Kind}
use Rattle.srb.specs.declared.Kind.TheVariants.{Read, Write, Flush}
use Rattle.machine.specs.Rules.{Rules}
use Rattle.machine.specs.State.{Mark, Untouched, Out, Done, Failed, Back, OpenRequest, Piece, State}
use Rattle.machine.specs.Cutting.{mark_at, is_back, restarts_left}
use Rattle.machine.specs.Sending.{HasOtherTag, IsLowestFreeTag, is_unsent, IsUnsent, is_started, IsInTurn, MayStart, IsWholeRequest, IsSendable, Starts, command_for, new_piece, sent}
use Rattle.machine.proofs.Same.{IsSame-reordered}
use Rattle.judge.specs.Picking.{choices}
use Rattle.judge.specs.Next.{started_by, started_of, started_each, started}
use Rattle.trace_line.specs.Lines.{StartIsOf}
use Rattle.judge.specs.Deciding.{has_number, has_tag, places_at, places_for}
use Rattle.judge.specs.declared.start_rules.StartRule.{StartRule}
use Rattle.judge.specs.declared.start_rules.StartRule.TheVariants as start_rule
use Rattle.judge.specs.declared.start_rules.Misfit.{Misfit}
use Rattle.judge.specs.declared.start_rules.Misfit.TheVariants as misfit
use Rattle.judge.specs.declared.start_rules.Hindrance.{Hindrance}
use Rattle.judge.specs.declared.start_rules.Hindrance.TheVariants as hindrance
use Rattle.judge.specs.Breaking.{IsTold, Asks, NoneAsks, HasBlocks, IsOfKind, IsMisfitOf, IsMisfit, fua_of, IsAmong, Hinders, AllHeld, BreaksBlock, BreaksStartOf}
use Rattle.judge.specs.StartRuling.{lowest_free, used_rule, lower_rule, tag_rule, is_inside, asked_inside, is_told, asked, flag_hindrance, is_before, turn_hindrance, is_sent, sent_as, sent_hindrance, grid_hindrance, whole_hindrance, cut_hindrance, places_hindrance, hindrance_of, same_kind, has_kind, kind_of, is_in_form, span_of, is_in_range, has_blocks, blocks_misfit, kind_misfit, misfit_of, free_places, startable, may_go, is_asked, held_by_one, held_rule, owner_rule, asked_rule, command_rule, block_rule, starting_rule}
use Rattle.judge.specs.LabelRuling.{IsBlockOf, IsReadAs}
use Rattle.judge.proofs.AllPlaces.{HasAllPlaces, HaveAllPlaces}
use Rattle.judge.proofs.Deciding.{decides_tag, decides_turn, decides_true}
use Rattle.judge.proofs.Asking.{places_ask, places_found}
use Rattle.judge.proofs.Misfits.{kind_is, kind_same, blocks_of, blocks_so, asks_at, out_of_range}
use Rattle.judge.proofs.Picking.{first_of, unplaced, to_front, all_flat_map, choices_are, found_pass, found_fail, none_any}
use Rattle.judge.proofs.RefutingPieces.{hinders}
use Rattle.judge.proofs.Named.{all_passed, either}
use Rattle.judge.proofs.NamedPieces.{flush_places}

-- TAGS

-- the tags of a range are all in use, or this is the lowest that is free
record IsLowestIn (pieces : List Piece) (from past lowest : ℕ) : Type 0 where
  above : from ≤ lowest
  low : lowest < past
  free : list_any (has_tag lowest) pieces ≡ false
  used : (k : ℕ) → from ≤ k → k < lowest → list_any (has_tag k) pieces ≡ true

lowest_in : (pieces : List Piece) (from more : ℕ) → MatchOption (lowest_free pieces from more) ((k : ℕ) → from ≤ k → k < from + more → list_any (has_tag k) pieces ≡ true) (IsLowestIn pieces from (from + more))
lowest_in pieces from zero = λ k low high. absurd (omega arith)
lowest_in pieces from (suc more) = by (list_any (has_tag from) pieces) refl (lowest_free pieces (from + 1) more) (lowest_in pieces (from + 1) more)
  where
    here : list_any (has_tag from) pieces ≡ true → (k : ℕ) → (k ≡ from) ⊎ (from + 1 ≤ k) → (from + 1 ≤ k → list_any (has_tag k) pieces ≡ true) → list_any (has_tag k) pieces ≡ true
    here e k (inl same) rest = subst (λ n. list_any (has_tag n) pieces ≡ true) (sym same) e
    here e k (inr high) rest = rest high

    split : (k : ℕ) → from ≤ k → (k ≡ from) ⊎ (from + 1 ≤ k)
    split k low = each (eqb k from) refl
      where
        each : (b : Bool) → eqb k from ≡ b → (k ≡ from) ⊎ (from + 1 ≤ k)
        each true e = inl (eqb-true _ _ e)
        each false e = inr (omega (arith, eqb-false k from e))

    by : (b : Bool) → list_any (has_tag from) pieces ≡ b → (o : Option ℕ) → MatchOption o ((k : ℕ) → from + 1 ≤ k → k < from + 1 + more → list_any (has_tag k) pieces ≡ true) (IsLowestIn pieces (from + 1) (from + 1 + more))
        → MatchOption (if b then o else Some from) ((k : ℕ) → from ≤ k → k < from + suc more → list_any (has_tag k) pieces ≡ true) (IsLowestIn pieces from (from + suc more))
    by true e None h = λ k low high. here e k (split k low) (λ above. h k above (omega arith))
    by true e (Some lowest) h = record {
      above = omega (arith, h.above);
      low = omega (arith, h.low);
      free = h.free;
      used = λ k low high. here e k (split k low) (λ above. h.used k above high);
    }
    by false e o h = record { above = omega arith; low = omega arith; free = e; used = λ k low high. absurd (omega arith) }

module _ (depth : ℕ) (pieces : List Piece) where
  none_on : (tag : ℕ) → list_any (has_tag tag) pieces ≡ false → All (HasOtherTag tag) pieces
  none_on tag none = λ k d low same. eqb-false _ _ (none_any (has_tag tag) pieces none (get_or pieces k d) (Contains-get_or pieces k d low)) same

  none_found : (tag : ℕ) → find (has_tag tag) pieces ≡ None → All (HasOtherTag tag) pieces
  none_found tag none = λ k d low same. eqb-false _ _ (found_fail (has_tag tag) pieces none (get_or pieces k d) (Contains-get_or pieces k d low)) same

-- WHAT HOLDS A REQUEST BACK

kind_itself : (kind : Kind) → same_kind kind kind ≡ true
kind_itself Read = refl
kind_itself Write = refl
kind_itself Flush = refl

some_is : {X : Type 0} (o : Option X) → is_some o ≡ true → (x : X) × (o ≡ Some x)
some_is None e = cc (e)
some_is (Some x) e = (x, refl)

-- the request that is told
told_so : (owner : Option ℕ) (o : OpenRequest) → IsTold owner o → is_told owner o ≡ true
told_so None o h = refl
told_so (Some r) o h = eq-eqb _ _ h

is_so : (owner : Option ℕ) (o : OpenRequest) → is_told owner o ≡ true → IsTold owner o
is_so None o h = tt
is_so (Some r) o h = eqb-true _ _ h

module _ (rules : Rules) (s : State) where
  module _ (o : OpenRequest) (places : Extent) (inside : is_inside o places ≡ true) where
    some : 0 < places.count
    some = ltb-true _ _ (and_parts _ _ inside).0

    within : places.first + places.count ≤ length o.marks
    within = leb-true _ _ (and_parts _ _ inside).1

    abbrev Held : Hindrance → Type 0
    Held h = Hinders rules s o places h

    record IsFree : Type 0 where
      not_cancelled : IsFalse o.cancelled
      not_removing : IsFalse s.removing
      not_held : IsTrue s.paused → IsFalse o.late

    flags_named : MatchOption (flag_hindrance s o) IsFree Held
    flags_named = by o.cancelled refl s.removing refl s.paused refl o.late refl
      where
        by : (c : Bool) → o.cancelled ≡ c → (r : Bool) → s.removing ≡ r → (p : Bool) → s.paused ≡ p → (l : Bool) → o.late ≡ l
            → MatchOption (if c then Some hindrance.Cancelled else (if r then Some hindrance.Removing else (if p && l then Some hindrance.Late else None))) IsFree Held
        by true e r f p g l h = e
        by false e true f p g l h = f
        by false e false f true g true h = (g, h)
        by false e false f true g false h = record { not_cancelled = e; not_removing = f; not_held = λ t. h }
        by false e false f false g l h = record { not_cancelled = e; not_removing = f; not_held = λ t. cc (g, t) }

    turns_named : MatchOption (turn_hindrance (find (is_before o.number) s.requests)) (All (IsInTurn o) s.requests) Held
    turns_named = by (find (is_before o.number) s.requests) refl
      where
        by : (found : Option OpenRequest) → find (is_before o.number) s.requests ≡ found → MatchOption (turn_hindrance found) (All (IsInTurn o) s.requests) Held
        by None e = λ k d low. (decides_turn o (get_or s.requests k d)).0 (not-false _ (found_fail (is_before o.number) s.requests e (get_or s.requests k d) (Contains-get_or s.requests k d low)))
        by (Some other) e =
            let h : Contains s.requests other × (is_before o.number other ≡ true) = found_pass (is_before o.number) s.requests other e in
            let parts : _ × _ = or_parts (not (nat_lt other.number o.number)) (other.cancelled || is_started other) (not-true _ h.1) in
            let more : _ × _ = or_parts other.cancelled (is_started other) parts.1 in
            (other, h.0, refl, ltb-true _ _ (not-false _ parts.0), more.0, more.1)

    sent_named : MatchOption (sent_hindrance o places.first (position is_sent (slice_range o.marks places.first (places.first + places.count))))
        (All IsUnsent (slice_range o.marks places.first (places.first + places.count))) Held
    sent_named = by (position is_sent (slice_range o.marks places.first (places.first + places.count))) refl
      where
        marks : List Mark
        marks = o.marks

        as_it_is : (place : ℕ) → IsAmong places place → (m : Mark) → mark_at o place ≡ m → not (is_unsent m) ≡ true → Held (sent_as place m)
        as_it_is place among Out e h = (among, e)
        as_it_is place among (Done sector) e h = (among, rw e refl)
        as_it_is place among (Failed status) e h = (among, status, e)
        as_it_is place among Untouched e h = cc (h)
        as_it_is place among Back e h = cc (h)

        by : (found : Option ℕ) → position is_sent (slice_range o.marks places.first (places.first + places.count)) ≡ found
            → MatchOption (sent_hindrance o places.first found) (All IsUnsent (slice_range o.marks places.first (places.first + places.count))) Held
        by None e = (Decides-by_and is_unsent IsUnsent (list_all is_unsent) (λ m. decides_true (is_unsent m)) refl (λ _ _. refl) (slice_range o.marks places.first (places.first + places.count))).0
            (all_passed is_unsent (slice_range o.marks places.first (places.first + places.count)) e)
        by (Some k) e =
            let at : _ × _ × _ = position-Some is_sent (slice_range o.marks places.first (places.first + places.count)) k Untouched e in
            let n : length (slice_range o.marks places.first (places.first + places.count)) ≡ places.first + places.count - places.first = length-between o.marks places.first (places.first + places.count) within in
            let low : k < places.count = omega (arith, at.0, n) in
            let there : get_or (slice_range o.marks places.first (places.first + places.count)) k Untouched ≡ mark_at o (places.first + k) = get_or-between o.marks places.first (places.first + places.count) k Untouched (omega arith) in
            as_it_is (places.first + k) (omega arith, omega arith) (mark_at o (places.first + k)) refl (subst (λ m. is_sent m ≡ true) there at.1)

    -- how a request is cut
    record IsOnGrid : Type 0 where
      begins : IsFalse rules.any_cut → places.first % rules.max_transfer ≡ 0
      spare : IsFalse rules.any_cut → IsTrue (is_back (mark_at o places.first)) → 0 < restarts_left rules o

    abbrev IsWholeIfOne : Type 0
    IsWholeIfOne = IsTrue rules.one_piece → IsWholeRequest o places

    abbrev IsCut : Type 0
    IsCut = IsOnGrid × IsWholeIfOne

    grid_named : MatchOption (grid_hindrance rules o places.first) IsOnGrid Held
    grid_named = by rules.any_cut refl (places.first % rules.max_transfer == 0) refl (is_back (mark_at o places.first)) refl (nat_lt 0 (restarts_left rules o)) refl
      where
        none_left : nat_lt 0 (restarts_left rules o) ≡ false → restarts_left rules o ≡ 0
        none_left e = let h : restarts_left rules o ≤ 0 = ltb-false _ _ e in omega arith

        spare_by : (b : Bool) → is_back (mark_at o places.first) ≡ b → (l : Bool) → nat_lt 0 (restarts_left rules o) ≡ l → (b && not l) ≡ false → IsTrue (is_back (mark_at o places.first)) → 0 < restarts_left rules o
        spare_by b e true f h t = ltb-true _ _ f
        spare_by true e false f h t = cc (h)
        spare_by false e false f h t = absurd (both_ways _ e t)

        by : (a : Bool) → rules.any_cut ≡ a → (g : Bool) → (places.first % rules.max_transfer == 0) ≡ g → (b : Bool) → is_back (mark_at o places.first) ≡ b → (l : Bool) → nat_lt 0 (restarts_left rules o) ≡ l
            → MatchOption (if a then None else (if not g then Some (hindrance.OffGrid places.first rules.max_transfer)
            else (if b && not l then Some (hindrance.Worn places.first) else None))) IsOnGrid Held
        by true any g e b f l h = record { begins = λ grid. absurd (both_ways _ grid any); spare = λ grid. absurd (both_ways _ grid any) }
        by false any false e b f l h = (any, refl, refl, λ zero_is. eqb-false _ _ e zero_is)
        by false any true e true f false h = (any, refl, f, none_left h)
        by false any true e true f true h = record { begins = λ grid. eqb-true _ _ e; spare = λ grid. spare_by true f true h refl }
        by false any true e false f l h = record { begins = λ grid. eqb-true _ _ e; spare = λ grid. spare_by false f l h refl }

    whole_named : MatchOption (whole_hindrance rules o places.count) IsWholeIfOne Held
    whole_named = by rules.one_piece refl (places.count == length o.marks) refl (is_started o) refl
      where
        by : (w : Bool) → rules.one_piece ≡ w → (c : Bool) → (places.count == length o.marks) ≡ c → (t : Bool) → is_started o ≡ t
            → MatchOption (if w && not c then Some (hindrance.NotWhole (length o.marks) places.count)
            else (if w && t then Some hindrance.Again else None)) IsWholeIfOne Held
        by true i false j t k = (i, refl, refl, λ same. eqb-false _ _ j same)
        by true i true j true k = (i, k)
        by true i true j false k = λ one. record { all_places = eqb-true _ _ j; not_before = k }
        by false i c j t k = λ one. cc (i, one)

    cut_named : MatchOption (cut_hindrance rules o places) IsCut Held
    cut_named = either IsOnGrid IsWholeIfOne Held (grid_hindrance rules o places.first) (whole_hindrance rules o places.count) grid_named (λ grid. whole_named)

    places_named : MatchOption (places_hindrance rules o places) (IsSendable rules o places) Held
    places_named = by (nat_lt rules.max_transfer places.count) refl
      where
        ready : (found : Option Hindrance) → MatchOption found (All IsUnsent (slice_range o.marks places.first (places.first + places.count)) × IsCut) Held → places.count ≤ rules.max_transfer
            → MatchOption found (IsSendable rules o places) Held
        ready None h short = record { some = some; short = short; inside = within; unsent = h.0; begins = h.1.0.begins; spare = h.1.0.spare; whole = h.1.1 }
        ready (Some x) h short = h

        by : (b : Bool) → nat_lt rules.max_transfer places.count ≡ b
            → MatchOption (if b then Some (hindrance.Long rules.max_transfer places.count)
            else option_or (sent_hindrance o places.first (position is_sent (slice_range o.marks places.first (places.first + places.count)))) (cut_hindrance rules o places)) (IsSendable rules o places) Held
        by true e = (refl, refl, ltb-true _ _ e)
        by false e = ready _ (either (All IsUnsent (slice_range o.marks places.first (places.first + places.count))) IsCut Held
            (sent_hindrance o places.first (position is_sent (slice_range o.marks places.first (places.first + places.count)))) (cut_hindrance rules o places) sent_named (λ unsent. cut_named)) (ltb-false _ _ e)

    abbrev after_flags : Option Hindrance
    after_flags = option_or (turn_hindrance (find (is_before o.number) s.requests)) (places_hindrance rules o places)

    pub hindrance_named : MatchOption (hindrance_of rules s o places) (MayStart s o × IsSendable rules o places) Held
    hindrance_named = by (hindrance_of rules s o places)
        (either IsFree (All (IsInTurn o) s.requests × IsSendable rules o places) Held (flag_hindrance s o) after_flags flags_named (λ flags.
        either (All (IsInTurn o) s.requests) (IsSendable rules o places) Held (turn_hindrance (find (is_before o.number) s.requests)) (places_hindrance rules o places) turns_named (λ turns. places_named)))
      where
        by : (found : Option Hindrance) → MatchOption found (IsFree × (All (IsInTurn o) s.requests × IsSendable rules o places)) Held → MatchOption found (MayStart s o × IsSendable rules o places) Held
        by None h = (record { not_cancelled = h.0.not_cancelled; not_removing = h.0.not_removing; not_held = h.0.not_held; in_turn = h.1.0 }, h.1.1)
        by (Some x) h = h

  -- WHICH REQUEST

  module _ (whole : HaveAllPlaces rules s) (owner : Option ℕ) (number tag : ℕ) (block : List ℕ) where
    -- a start, of the request that is told
    abbrev pub StartsTo : State → Type 0
    StartsTo s' = Starts rules s number tag block s' × StartIsOf s s' owner

    abbrev pub CanStart : Type 0
    CanStart = (s' : State) × StartsTo s'

    abbrev Broken : StartRule → Type 0
    Broken r = BreaksStartOf rules s owner number tag block r

    module _ (next : number ≡ s.next_piece) (free : IsLowestFreeTag rules.depth s.pieces tag) (command : Cdb) (means : Means block command) (own : IsPlain block command) (only_it : (c : Cdb) → Means block c → command ≡ c) where
      start_to : (o : OpenRequest) (others : List OpenRequest) (places : Extent) → IsPermutation s.requests (o ∷ others) → Asks rules s owner block o places → MayStart s o → IsSendable rules o places
          → StartsTo (started_by s tag o others places)
      start_to o others places p asks may send = (
        record {
          owner = o;
          others = others;
          places = places;
          next_number = next;
          on_tag = free;
          is_open = p;
          may_start = may;
          sendable = send;
          asks = asks.means;
          plain = subst (λ c. IsPlain block c) (only_it _ asks.means) own;
          after = IsSame-reordered (record s { next_piece = s.next_piece + 1 }) _ _ _ _ (unplaced (sent places o) others) (to_front s.pieces (new_piece s tag o places));
        },
        is_of owner asks.is_told,
      )
        where
          is_of : (told : Option ℕ) → IsTold told o → StartIsOf s (started_by s tag o others places) told
          is_of None t = tt
          is_of (Some r) t = record { piece = new_piece s tag o places; is_new = to_front s.pieces (new_piece s tag o places); is_owner = t }

      -- the places that are asked for are found
      pub found_asked : (o : OpenRequest) (places : Extent) → Asks rules s owner block o places → (asked rules owner command o ≡ Some places) × (is_inside o places ≡ true)
      found_asked o places h =
          let is : command ≡ command_for rules o.request places o.request.kind = only_it _ h.means in
          let inside : is_inside o places ≡ true = and_from _ _ (lt-ltb _ _ h.some) (le-leb _ _ h.inside) in
          let found : places_for rules o.request o.request.kind (command_for rules o.request places o.request.kind) ≡ Some places = places_found rules o.request o.request.kind places one_place in (
            ap (λ b. if b then asked_inside o (places_for rules o.request o.request.kind command) else None) (told_so owner o h.is_told)
                ∙ ap (λ c. asked_inside o (places_for rules o.request o.request.kind c)) is ∙ ap (asked_inside o) found ∙ ap (λ b. if b then Some places else None) inside,
            inside,
          )
        where
          one_place : o.request.kind ≡ Flush → (places.first ≡ 0) × (places.count ≡ 1)
          one_place e =
              let all : HasAllPlaces rules o = All-contains (HasAllPlaces rules) s.requests o whole h.is_there in
              let one : length o.marks ≡ 1 = all.places ∙ flush_places rules o o.request.kind e in
              (omega (arith, h.some, h.inside, one), omega (arith, h.some, h.inside, one))

      -- and what is found is asked for
      asks_found : (o : OpenRequest) (places : Extent) → Contains s.requests o → asked rules owner command o ≡ Some places → Asks rules s owner block o places × (is_inside o places ≡ true)
      asks_found o places there e = told (is_told owner o) refl e
        where
          inside_by : is_told owner o ≡ true → (p : Extent) → command_for rules o.request p o.request.kind ≡ command → (b : Bool) → is_inside o p ≡ b → (if b then Some p else None) ≡ Some places
              → Asks rules s owner block o places × (is_inside o places ≡ true)
          inside_by t p asks false i e = cc (e)
          inside_by t p asks true i e =
              let same : p ≡ places = cc (e) in
              subst (λ (x : Extent). Asks rules s owner block o x × (is_inside o x ≡ true)) same
              (record { is_there = there; is_told = is_so owner o t; some = some o p i; inside = within o p i; means = subst (λ c. Means block c) (sym asks) means }, i)

          by : is_told owner o ≡ true → (found : Option Extent) → IfSome found (λ p. command_for rules o.request p o.request.kind ≡ command)
              → asked_inside o found ≡ Some places → Asks rules s owner block o places × (is_inside o places ≡ true)
          by t None h e = cc (e)
          by t (Some p) h e = inside_by t p h (is_inside o p) refl e

          told : (b : Bool) → is_told owner o ≡ b → (if b then asked_inside o (places_for rules o.request o.request.kind command) else None) ≡ Some places
              → Asks rules s owner block o places × (is_inside o places ≡ true)
          told false t e = cc (e)
          told true t e = by t (places_for rules o.request o.request.kind command) (places_ask rules o.request o.request.kind command) e

      -- what nothing holds back may start
      free_if : (o : OpenRequest) (places : Extent) → is_inside o places ≡ true → hindrance_of rules s o places ≡ None → MayStart s o × IsSendable rules o places
      free_if o places inside e = subst (λ x. MatchOption x (MayStart s o × IsSendable rules o places) (Hinders rules s o places)) e (hindrance_named o places inside)

      startable_if : (o : OpenRequest) (places : Extent) → asked rules owner command o ≡ Some places → hindrance_of rules s o places ≡ None → startable rules s owner command o ≡ Some places
      startable_if o places a e = ap (free_places rules s o) a ∙ ap (λ (x : Option Hindrance). if is_some x then None else Some places) e

      free_so : (o : OpenRequest) (places : Extent) → Contains s.requests o → startable rules s owner command o ≡ Some places → Asks rules s owner block o places × MayStart s o × IsSendable rules o places
      free_so o places there e = by (asked rules owner command o) refl e
        where
          held : (p : Extent) → asked rules owner command o ≡ Some p → (x : Option Hindrance) → hindrance_of rules s o p ≡ x → (if is_some x then None else Some p) ≡ Some places
              → Asks rules s owner block o places × MayStart s o × IsSendable rules o places
          held p a (Some h) f e = cc (e)
          held p a None f e =
              let same : p ≡ places = cc (e) in
              let asks : Asks rules s owner block o p × (is_inside o p ≡ true) = asks_found o p there a in
              let goes : MayStart s o × IsSendable rules o p = free_if o p asks.1 f in
              subst (λ (x : Extent). Asks rules s owner block o x × MayStart s o × IsSendable rules o x) same (asks.0, goes.0, goes.1)

          by : (found : Option Extent) → asked rules owner command o ≡ found → free_places rules s o found ≡ Some places → Asks rules s owner block o places × MayStart s o × IsSendable rules o places
          by None a e = cc (e)
          by (Some p) a e = held p a (hindrance_of rules s o p) refl e

      -- each start that is found is one
      pub all_started : AllByRecursion StartsTo (started rules s tag owner (Ok command))
      all_started = all_flat_map (started_each rules s tag owner command) (λ (c : OpenRequest × List OpenRequest). IsPermutation s.requests (c.0 ∷ c.1)) StartsTo each (choices s.requests) (choices_are s.requests)
        where
          one : (o : OpenRequest) (others : List OpenRequest) → IsPermutation s.requests (o ∷ others) → (found : Option Extent) → startable rules s owner command o ≡ found → AllByRecursion StartsTo (started_of s tag o others found)
          one o others p None e = tt
          one o others p (Some places) e =
              let goes : Asks rules s owner block o places × MayStart s o × IsSendable rules o places =
              free_so o places (Contains-permutation _ _ o (IsPermutation-sym _ _ p) (0, omega arith, refl)) e in
              (start_to o others places p goes.0 goes.1 goes.2, tt)

          each : (c : OpenRequest × List OpenRequest) → IsPermutation s.requests (c.0 ∷ c.1) → AllByRecursion StartsTo (started_each rules s tag owner command c)
          each (o, others) p = one o others p (startable rules s owner command o) refl

      -- a request that asks, and may start, is found
      pub startable_so : (o : OpenRequest) (places : Extent) → Asks rules s owner block o places → MayStart s o → IsSendable rules o places → startable rules s owner command o ≡ Some places
      startable_so o places asks may send =
          let f : (asked rules owner command o ≡ Some places) × (is_inside o places ≡ true) = found_asked o places asks in
          startable_if o places f.0 (by (hindrance_of rules s o places) refl (hindrance_named o places f.1))
        where
          by : (x : Option Hindrance) → hindrance_of rules s o places ≡ x → MatchOption x (MayStart s o × IsSendable rules o places) (Hinders rules s o places) → hindrance_of rules s o places ≡ None
          by None e h = e
          by (Some h) e held = absurd (hinders rules s o places h held may send)

      some_goes : list_any (may_go rules s owner command) s.requests ≡ true → CanStart
      some_goes e =
          let any : _ × _ × _ × _ × _ = Any-from_list_any (may_go rules s owner command) s.requests e in
          let found : (places : Extent) × (startable rules s owner command any.1 ≡ Some places) = some_is (startable rules s owner command any.1) any.4 in
          let goes : Asks rules s owner block any.1 found.0 × MayStart s any.1 × IsSendable rules any.1 found.0 = free_so any.1 found.0 (any.0, any.2, any.3) found.1 in
          let p : (others : List OpenRequest) × IsPermutation s.requests (any.1 ∷ others) = first_of s.requests any.1 (any.0, any.2, any.3) in
          (started_by s tag any.1 p.0 found.0, start_to any.1 p.0 found.0 p.1 goes.0 goes.1 goes.2)

      held_so : list_any (may_go rules s owner command) s.requests ≡ false → (o : OpenRequest) (places : Extent) → Contains s.requests o → asked rules owner command o ≡ Some places → is_inside o places ≡ true
          → (h : Hindrance) × (hindrance_of rules s o places ≡ Some h) × Hinders rules s o places h
      held_so none o places there a inside = by (hindrance_of rules s o places) refl (hindrance_named o places inside)
        where
          by : (x : Option Hindrance) → hindrance_of rules s o places ≡ x → MatchOption x (MayStart s o × IsSendable rules o places) (Hinders rules s o places)
              → (h : Hindrance) × (hindrance_of rules s o places ≡ Some h) × Hinders rules s o places h
          by None e h = absurd (both_ways _ (none_any (may_go rules s owner command) s.requests none o there) (ap is_some (startable_if o places a e)))
          by (Some x) e h = (x, e, h)

      all_held : list_any (may_go rules s owner command) s.requests ≡ false → AllHeld rules s owner block
      all_held none o places asks =
          let f : (asked rules owner command o ≡ Some places) × (is_inside o places ≡ true) = found_asked o places asks in
          let held : (h : Hindrance) × (hindrance_of rules s o places ≡ Some h) × Hinders rules s o places h = held_so none o places asks.is_there f.0 f.1 in
          (held.0, held.2)

      kind_fits : (kind : Kind) → list_any (has_kind owner kind) s.requests ≡ false → (o : OpenRequest) → Contains s.requests o → IsTold owner o → o.request.kind ≢ kind
      kind_fits kind none o there told same =
          both_ways _ (none_any (has_kind owner kind) s.requests none o there) (and_from _ _ (told_so owner o told) (ap (same_kind kind) same ∙ kind_itself kind))

      none_asks : find (is_asked rules owner command) s.requests ≡ None → NoneAsks rules s owner block
      none_asks e o places asks =
          both_ways _ (found_fail (is_asked rules owner command) s.requests e o asks.is_there) (ap is_some (found_asked o places asks).0)

      told_kind : (kind : Kind) (o : OpenRequest) → has_kind owner kind o ≡ true → IsTold owner o × (kind ≡ o.request.kind)
      told_kind kind o h = (is_so owner o (and_parts _ _ h).0, kind_same kind o.request.kind (and_parts _ _ h).1)

      -- a request that has the blocks of a command in its form would ask for it, had it the same access
      fua_differs : NoneAsks rules s owner block → is_in_form rules command ≡ true → (kind : Kind) → kind_of command ≡ Some kind → is_in_range kind (span_of command) ≡ true
          → (o : OpenRequest) → Contains s.requests o → has_blocks rules owner kind (span_of command) o ≡ true → fua_of command ≢ o.request.through
      fua_differs none form kind k range o there h same =
          let parts : (has_kind owner kind o ≡ true) × (is_some (asked_inside o (places_at rules o.request (span_of command).first (span_of command).count)) ≡ true) = and_parts _ _ h in
          let is_kind : kind ≡ o.request.kind = (told_kind kind o parts.0).1 in
          let has : HasBlocks rules o (span_of command) = blocks_of rules o (span_of command) parts.1 in
          let at : places_for rules o.request o.request.kind command ≡ places_at rules o.request (span_of command).first (span_of command).count =
          asks_at rules o.request o.request.kind command (subst (λ (x : Kind). kind_of command ≡ Some x) is_kind k) form (subst (λ (x : Kind). is_in_range x (span_of command) ≡ true) is_kind range) has.some same in
          let is_asked : asked rules owner command o ≡ asked_inside o (places_at rules o.request (span_of command).first (span_of command).count) =
          ap (λ b. if b then asked_inside o (places_for rules o.request o.request.kind command) else None) (and_parts _ _ parts.0).0 ∙ ap (asked_inside o) at in
          let found : (places : Extent) × (asked_inside o (places_at rules o.request (span_of command).first (span_of command).count) ≡ Some places) = some_is _ parts.1 in
          none o found.0 (asks_found o found.0 there (is_asked ∙ found.1)).0

      abbrev Misfits : Misfit → Type 0
      Misfits m = IsMisfitOf rules s owner command m

      module _ (none : NoneAsks rules s owner block) (form : is_in_form rules command ≡ true) (kind : Kind) (k : kind_of command ≡ Some kind) where
        lacks : find (has_blocks rules owner kind (span_of command)) s.requests ≡ None → (o : OpenRequest) → IsOfKind s owner command o → ¬ (HasBlocks rules o (span_of command))
        lacks e o of has =
            let same : kind ≡ o.request.kind = kind_is (sym k ∙ of.is_kind) in
            both_ways _ (found_fail (has_blocks rules owner kind (span_of command)) s.requests e o of.is_there)
            (and_from _ _ (and_from _ _ (told_so owner o of.is_told) (ap (same_kind kind) (sym same) ∙ kind_itself kind)) (blocks_so rules o (span_of command) has))

        blocks : is_in_range kind (span_of command) ≡ true → (found : Option OpenRequest) → find (has_blocks rules owner kind (span_of command)) s.requests ≡ found → Misfits (blocks_misfit (span_of command) found)
        blocks range None e = (refl, refl, lacks e)
        blocks range (Some o) e =
            let h : Contains s.requests o × (has_blocks rules owner kind (span_of command) o ≡ true) = found_pass (has_blocks rules owner kind (span_of command)) s.requests o e in
            let told : IsTold owner o × (kind ≡ o.request.kind) = told_kind kind o (and_parts _ _ h.1).0 in (
              o,
              record { is_there = h.0; is_told = told.0; is_kind = subst (λ (x : Kind). kind_of command ≡ Some x) told.1 k },
              refl,
              blocks_of rules o (span_of command) (and_parts _ _ h.1).1,
              refl,
              fua_differs none form kind k range o h.0 h.1,
            )

        by_kind : (r : Bool) → is_in_range kind (span_of command) ≡ r → (any : Bool) → list_any (has_kind owner kind) s.requests ≡ any
            → Misfits (if not r then misfit.Range else (if not any then misfit.Kind kind else blocks_misfit (span_of command) (find (has_blocks rules owner kind (span_of command)) s.requests)))
        by_kind false r any e =
            let flush : kind ≡ Flush = out_of_range kind (span_of command) r in
            (subst (λ (x : Kind). kind_of command ≡ Some x) flush k, subst (λ (x : Kind). is_in_range x (span_of command) ≡ false) flush r)
        by_kind true r false e = (k, kind_fits kind e)
        by_kind true r true e = blocks r (find (has_blocks rules owner kind (span_of command)) s.requests) refl

      misfit_is : NoneAsks rules s owner block → IsMisfit rules s owner block (misfit_of rules owner s.requests command)
      misfit_is none = (command, means, by_form (is_in_form rules command) refl)
        where
          by_command : is_in_form rules command ≡ true → (kind : Option Kind) → kind_of command ≡ kind → Misfits (kind_misfit rules owner s.requests (span_of command) kind)
          by_command form None k = k
          by_command form (Some kind) k = by_kind none form kind k (is_in_range kind (span_of command)) refl (list_any (has_kind owner kind) s.requests) refl

          by_form : (b : Bool) → is_in_form rules command ≡ b → Misfits (if not b then misfit.Form else kind_misfit rules owner s.requests (span_of command) (kind_of command))
          by_form false e = e
          by_form true e = by_command e (kind_of command) refl

      held_named : list_any (may_go rules s owner command) s.requests ≡ false → (o : OpenRequest) → Contains s.requests o → is_asked rules owner command o ≡ true → MatchOption (held_rule rules s o (asked rules owner command o)) CanStart Broken
      held_named none o there is = by (asked rules owner command o) refl is
        where
          one : (places : Extent) → asked rules owner command o ≡ Some places → (x : Option Hindrance) → hindrance_of rules s o places ≡ x → MatchOption (held_by_one o x) CanStart Broken
          one places e x f =
              let g : Asks rules s owner block o places × (is_inside o places ≡ true) = asks_found o places there e in
              let held : (h : Hindrance) × (hindrance_of rules s o places ≡ Some h) × Hinders rules s o places h = held_so none o places there e g.1 in
              subst (λ y. MatchOption (held_by_one o y) CanStart Broken) (sym held.1 ∙ f) (all_held none, (o, places, g.0, refl, held.2))

          by : (found : Option Extent) → asked rules owner command o ≡ found → is_some found ≡ true → MatchOption (held_rule rules s o found) CanStart Broken
          by None e t = cc (t)
          by (Some places) e t = one places e (hindrance_of rules s o places) refl

      -- no open request has a number that none was found by
      unasked_named : NoneAsks rules s owner block → (told : Option ℕ) → owner ≡ told
          → MatchOption (option_or (owner_rule s.requests told) (Some (start_rule.NotAsked (misfit_of rules owner s.requests command)))) CanStart Broken
      unasked_named none None e = (none, misfit_is none)
      unasked_named none (Some r) e = by (list_any (has_number r) s.requests) refl
        where
          by : (b : Bool) → list_any (has_number r) s.requests ≡ b
              → MatchOption (option_or (if b then None else Some (start_rule.NotOpen r)) (Some (start_rule.NotAsked (misfit_of rules owner s.requests command)))) CanStart Broken
          by true f = (none, misfit_is none)
          by false f = (e, λ o there same. both_ways _ (none_any (has_number r) s.requests f o there) (eq-eqb _ _ same))

      asked_named : list_any (may_go rules s owner command) s.requests ≡ false → (found : Option OpenRequest) → find (is_asked rules owner command) s.requests ≡ found → MatchOption (asked_rule rules s owner command found) CanStart Broken
      asked_named none None e = unasked_named (none_asks e) owner refl
      asked_named none (Some o) e = let h : Contains s.requests o × (is_asked rules owner command o ≡ true) = found_pass (is_asked rules owner command) s.requests o e in held_named none o h.0 h.1

      command_named : MatchOption (command_rule rules s owner command) CanStart Broken
      command_named = by (list_any (may_go rules s owner command) s.requests) refl
        where
          by : (b : Bool) → list_any (may_go rules s owner command) s.requests ≡ b
              → MatchOption (if b then None else asked_rule rules s owner command (find (is_asked rules owner command) s.requests)) CanStart Broken
          by true e = some_goes e
          by false e = asked_named e (find (is_asked rules owner command) s.requests) refl

    -- THE TAG AND THE BLOCK

    tag_named : MatchOption (tag_rule rules.depth s.pieces tag) (IsLowestFreeTag rules.depth s.pieces tag) Broken
    tag_named = by (nat_lt tag rules.depth) refl
      where
        lower : tag < rules.depth → All (HasOtherTag tag) s.pieces → (found : Option ℕ) → MatchOption found ((k : ℕ) → 0 ≤ k → k < 0 + tag → list_any (has_tag k) s.pieces ≡ true) (IsLowestIn s.pieces 0 (0 + tag))
            → MatchOption (lower_rule tag found) (IsLowestFreeTag rules.depth s.pieces tag) Broken
        lower low free None h = record { within = low; free = free; lowest = λ k less. (decides_tag k s.pieces).0 (h k (omega arith) (omega arith)) }
        lower low free (Some lowest) h =
            let less : lowest < tag = omega (arith, h.low) in
            (refl, record { within = omega arith; free = none_on rules.depth s.pieces lowest h.free; lowest = λ k lesser. (decides_tag k s.pieces).0 (h.used k (omega arith) lesser) }, less)

        used : tag < rules.depth → (found : Option Piece) → find (has_tag tag) s.pieces ≡ found
            → MatchOption (option_or (used_rule tag found) (lower_rule tag (lowest_free s.pieces 0 tag))) (IsLowestFreeTag rules.depth s.pieces tag) Broken
        used low None e = lower low (none_found rules.depth s.pieces tag e) (lowest_free s.pieces 0 tag) (lowest_in s.pieces 0 tag)
        used low (Some piece) e = let h : Contains s.pieces piece × (has_tag tag piece ≡ true) = found_pass (has_tag tag) s.pieces piece e in (refl, piece, h.0, eqb-true _ _ h.1, refl)

        by : (b : Bool) → nat_lt tag rules.depth ≡ b
            → MatchOption (if not b then Some (start_rule.Depth tag rules.depth) else option_or (used_rule tag (find (has_tag tag) s.pieces)) (lower_rule tag (lowest_free s.pieces 0 tag)))
            (IsLowestFreeTag rules.depth s.pieces tag) Broken
        by false e = (refl, refl, ltb-false _ _ e)
        by true e = used (ltb-true _ _ e) (find (has_tag tag) s.pieces) refl

    -- a rule that the block breaks by itself
    by_block : (r : StartRule) → BreaksBlock block r → Broken r
    by_block (start_rule.Block fault) h = h
    by_block (start_rule.NotPlain d) h = h
    by_block _ h = absurd h

    module _ (read : Result Cdb StartRule) (is : IsReadAs block read) where
      -- some start goes, and each that is found is one
      abbrev pub AllStart : Type 0
      AllStart = CanStart × AllByRecursion StartsTo (started rules s tag owner read)

      with_all : (x : Option StartRule) → MatchOption x CanStart Broken → AllByRecursion StartsTo (started rules s tag owner read) → MatchOption x AllStart Broken
      with_all None h all = (h, all)
      with_all (Some r) h all = h

      block_named : number ≡ s.next_piece → IsLowestFreeTag rules.depth s.pieces tag → MatchOption (block_rule rules s owner read) AllStart Broken
      block_named next free = by read refl
        where
          by : (r : Result Cdb StartRule) → read ≡ r → MatchOption (block_rule rules s owner r) AllStart Broken
          by (Ok command) e =
              let own : IsBlockOf block command = (is.command command).0 e in
              with_all (command_rule rules s owner command) (command_named next free command own.asks own.plain (λ c m. is.only command c e m))
              (subst (λ x. AllByRecursion StartsTo (started rules s tag owner x)) (sym e) (all_started next free command own.asks own.plain (λ c m. is.only command c e m)))
          by (Err r) e = by_block r (is.broken r e)

      pub starts_named : MatchOption (starting_rule rules s number tag owner read) AllStart (BreaksStartOf rules s owner number tag block)
      starts_named = by (number == s.next_piece) refl
        where
          last : (x : Option StartRule) → MatchOption x (IsLowestFreeTag rules.depth s.pieces tag × AllStart) Broken → MatchOption x AllStart Broken
          last None h = h.1
          last (Some r) h = h

          by : (b : Bool) → (number == s.next_piece) ≡ b
              → MatchOption (if not b then Some (start_rule.Number s.next_piece number) else option_or (tag_rule rules.depth s.pieces tag) (block_rule rules s owner read)) AllStart Broken
          by true e = last _ (either (IsLowestFreeTag rules.depth s.pieces tag) AllStart Broken (tag_rule rules.depth s.pieces tag) (block_rule rules s owner read) tag_named (λ free. block_named (eqb-true _ _ e) free))
          by false e = (refl, refl, λ same. eqb-false _ _ e same)
