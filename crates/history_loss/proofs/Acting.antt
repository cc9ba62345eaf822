-- A piece acts: an event of each sector that it has, and what a flush makes of the table.
use Rattle.std.proofs.Common.{◌≡◌, ◌<◌, ◌≤◌, inl, inr, ℕ, suc, ◌+◌, ◌-◌, Bool, true, false, List, [], ◌∷◌, refl, sym, ◌∙◌, ap, subst, arith, length, get_or}
use Rattle.std.specs.Prelude.{IsNone, All, Contains, if◌then◌else◌}
use Rattle.std.proofs.lemmas.List.{get_or_default}
use Rattle.std.proofs.lemmas.List.Sorted.{IsPermutation-refl, All-permutation}
use Rattle.std.proofs.lemmas.List.Elements.{All-cons, All-contains, All-head, All-tail, Contains-get_or}
use Rattle.sector.specs.Extents.{IsSector}
use Rattle.srb.specs.declared.Kind.{Kind}
use Rattle.srb.specs.declared.Kind.TheVariants.{Read, Write, Flush}
use Rattle.srb.specs.Fate.{Fresh, Acted, Faulted}
use Rattle.machine.specs.Rules.{Rules, is_transfer, place_count}
use Rattle.machine.specs.State.{OpenRequest, Piece, State}
use Rattle.machine.specs.Sending.{Acts, Transfers, with_fate}
use Rattle.machine.specs.Numbers.{IsGiven}
use Rattle.machine.specs.Pieces.{ArePlaced}
use Rattle.machine.proofs.Permuting.{All-changed}
use Rattle.machine_laws.proofs.Chunks.{chunk, concat_chunk, range_chunk}
use Rattle.machine_laws.proofs.Serving.{act_inside}
use Rattle.machine_laws.proofs.Sound.{Anything, nothing, IsSound}
use Rattle.history_laws.proofs.Acting.{read_sized}
use Rattle.loss.specs.Held.{Held, IsOneOf, Puts, Secures, Syncs, act_changes, changed, changed_by, sector_in}
use Rattle.loss.specs.Moved.{ActsOn, HandsOver, Table, work_of}
use Rattle.loss.specs.Laws.{value_for}
use Rattle.history_loss.specs.Schedules.{Event, Effect, Carries, IsAt, IsNoFailure, acted, next_number, one_place}
use Rattle.history_loss.proofs.Mirroring.{Ending, IsFateFor, IsFateOf, IsFollowed, IsFilled, IsMirrored, IsOfPlace, IsTaken, Mirrors, Mirrors-event, Mirrors-same, newest, none_owed, with_ends}
use Rattle.history_loss.proofs.Sending.{with_pieces}
use Rattle.history_loss.proofs.Holding.{Ends, Holds, both_put, both_surely, ends_put, sync_ends, sync_holds, sync_starts}
use Rattle.history_loss.proofs.Places.{Hits, IsHit, Misses, flush_act, hit_act, hits_alone, hits_or_misses, missed_act, one_hit, put_list, reach, read_act}
use Rattle.history_loss.proofs.Leading.{Next, Stage, no_event, one_event}
use Rattle.history_loss.proofs.Failing.{are_filled, are_taken, same_open, same_piece}

-- both are written by a request
module _ (next again : ℕ) (t g : Held) (v : List ℕ) (holds : Holds next t g) where
  both_written : (through : Bool) → Holds next (changed next (if through then Secures v else Puts v) t) (changed again (if through then Secures v else Puts v) g)
  both_written true = both_surely next v
  both_written false = both_put next again v t g holds

  ends_written : (through : Bool) (from number : ℕ) → suc number ≤ again → Ends t g from number
      → Ends (changed next (if through then Secures v else Puts v) t) (changed again (if through then Secures v else Puts v) g) from number
  ends_written true from number low ends = tt
  ends_written false from number low ends = ends_put next again v t g holds from number low ends

module _ (rules : Rules) (s : State) (n : ℕ) (bytes : List ℕ) (s' : State) (sound : IsSound rules s) (placed : ArePlaced s) (free : IsNone s.owed) (h : Acts rules s n bytes s') (t t' : Table) (move : ActsOn rules s n bytes t t') where
  is_piece : h.piece ≡ move.piece
  is_piece = same_piece s h.piece move.piece h.other_pieces sound.0 h.fresh.is_out move.out.is_out (move.out.is_number ∙ sym h.fresh.is_number)

  is_owner : h.owner ≡ move.owner
  is_owner = same_open s h.owner move.owner sound.0 h.is_open move.out.is_open (move.out.is_owner ∙ sym (ap (λ (p : Piece). p.owner) is_piece) ∙ sym h.is_owner)

  after : (i : ℕ) → t' i ≡ changed_by s.next_piece (act_changes rules.sector_size n (work_of rules h.owner.request h.piece.places) i) (t i)
  after i =
      move.after i ∙ sym (ap (λ (p : Piece). changed_by s.next_piece (act_changes rules.sector_size n (work_of rules h.owner.request p.places) i) (t i)) is_piece
      ∙ ap (λ (o : OpenRequest). changed_by s.next_piece (act_changes rules.sector_size n (work_of rules o.request move.piece.places) i) (t i)) is_owner)

  hands_over : HandsOver rules.sector_size t (work_of rules h.owner.request h.piece.places).extent h.owner.request.kind bytes
  hands_over =
      subst (λ (o : OpenRequest). HandsOver rules.sector_size t (work_of rules o.request h.piece.places).extent o.request.kind bytes) (sym is_owner)
      (subst (λ (p : Piece). HandsOver rules.sector_size t (work_of rules move.owner.request p.places).extent move.owner.request.kind bytes) (sym is_piece) move.hands_over)

  inside : h.piece.places.first + h.piece.places.count ≤ place_count rules h.owner.request
  inside = act_inside rules 0 nothing Anything s n bytes s' sound.1 h

  -- the piece as if it had failed
  abbrev faulted : State
  faulted = record s { pieces = with_fate Faulted h.piece ∷ h.other_pieces }

  filled' : All IsFilled faulted.pieces
  filled' = All-cons IsFilled (with_fate Faulted h.piece) h.other_pieces tt (All-tail IsFilled h.piece h.other_pieces (All-permutation IsFilled _ _ h.fresh.is_out (are_filled s placed)))

  module _ (i : ℕ) (past : List Event) (g : Held) (stage : Stage rules i past g s (t i)) where
    mine : IsMirrored rules i past (Ends (t i) g) h.owner
    mine = All-contains (IsMirrored rules i past (Ends (t i) g)) s.requests h.owner stage.mirrors.requests h.is_open

    fresh : IsFateFor rules i past (Ends (t i) g) h.piece.number h.owner.number h.owner.request h.piece.places Fresh
    fresh =
        let followed : IsFollowed rules i past (Ends (t i) g) s.requests h.piece =
        All-head (IsFollowed rules i past (Ends (t i) g) s.requests) h.piece h.other_pieces (All-permutation (IsFollowed rules i past (Ends (t i) g) s.requests) _ _ h.fresh.is_out stage.mirrors.pieces) in
        subst (λ f. IsFateFor rules i past (Ends (t i) g) h.piece.number h.owner.number h.owner.request h.piece.places f) h.fresh.is_fresh
        (All-contains (IsFateOf rules i past (Ends (t i) g) h.piece) s.requests h.owner followed h.is_open h.is_owner)

    before : Mirrors rules i past (Ends (t i) g) faulted
    before = with_pieces rules i past (Ends (t i) g) s (with_fate Faulted h.piece ∷ h.other_pieces) s.next_piece stage.mirrors
        (All-changed (IsFollowed rules i past (Ends (t i) g) s.requests) s.pieces h.piece (with_fate Faulted h.piece) h.other_pieces h.fresh.is_out stage.mirrors.pieces (λ f k d low owner. tt))

    -- it acted
    acted_mirrors : (past' : List Event) (E : Ending) → Mirrors rules i past' E faulted → IsFateFor rules i past' E h.piece.number h.owner.number h.owner.request h.piece.places (Acted h.sectors) → Mirrors rules i past' E s'
    acted_mirrors past' E m fate = Mirrors-same rules i past' E s' _ h.after (record {
      given = m.given;
      next = m.next;
      requests = m.requests;
      pieces = All-cons (IsFollowed rules i past' E s.requests) (with_fate (Acted h.sectors) h.piece) h.other_pieces followed
          (All-tail (IsFollowed rules i past' E s.requests) (with_fate Faulted h.piece) h.other_pieces m.pieces);
      owed = none_owed rules i past' E s.requests s.owed free;
    })
      where
        followed : IsFollowed rules i past' E s.requests (with_fate (Acted h.sectors) h.piece)
        followed k d low owner =
            let same : h.owner ≡ get_or s.requests k d = same_open s h.owner (get_or s.requests k d) sound.0 h.is_open (Contains-get_or s.requests k d low) (owner ∙ sym h.is_owner) in
            subst (λ o. IsFateFor rules i past' E h.piece.number o.number o.request h.piece.places (Acted h.sectors)) same fate

    sized : h.owner.request.kind ≡ Read → All (IsSector rules.sector_size) h.sectors
    sized read = read_sized rules s h.owner.request h.piece.places h.owner.request.kind h.sectors h.arrays' h.moves read

    -- a place of the request on the sector is one of the piece's
    hit_of : (j : ℕ) → j < length h.sectors → IsAt rules i h.owner.request (h.piece.places.first + j) → IsHit rules i h.owner.request h.piece.places (h.piece.places.first + j)
    hit_of j low at = let covers = h.covers in (omega arith, omega arith, at.sector)

    -- none of its places failed
    unfailed : (j : ℕ) → j < length h.sectors → All (IsNoFailure h.owner.number (h.piece.places.first + j)) past
    unfailed j low = let covers = h.covers in (fresh.0 (h.piece.places.first + j) (omega arith) (omega arith)).failure

    -- FLUSH

    flush_next : h.owner.request.kind ≡ Flush → Next rules i past g [] s' (t' i)
    flush_next flush =
        let is : t' i ≡ changed s.next_piece (Syncs n) (t i) = after i ∙ ap (λ changes. changed_by s.next_piece changes (t i)) (flush_act rules i h.owner.request h.piece.places n flush) in
        no_event rules i past g s' (t' i) (subst (λ x. Stage rules i past g s' x) (sym is) (record {
          mirrors = acted_mirrors past (Ends (changed s.next_piece (Syncs n) (t i)) g)
              (with_ends rules i past (Ends (t i) g) (Ends (changed s.next_piece (Syncs n) (t i)) g) faulted (λ k d low from e. sync_ends s.next_piece (t i) g n from (get_or s.requests k d).number e) before) (
                λ j d low. (λ read. absurd (cc (flush, read)), λ at. no_transfer at.transfer, unfailed j low),
                λ f. sync_starts s.next_piece (t i) g n h.owner.number
                    (subst (λ m. Ends (t i) g (suc m) h.owner.number) h.fresh.is_number (fresh.1 f)),
              );
          holds = subst (λ m. Holds m (changed s.next_piece (Syncs n) (t i)) g) (sym h.after.next_piece) (sync_holds s.next_piece (t i) g n stage.holds);
        }))
      where
        no_transfer : {P : Type 0} → is_transfer h.owner.request.kind ≡ true → P
        no_transfer transfer = absurd (cc (ap is_transfer flush, transfer))

    -- MISSED

    missed_next : (h.owner.request.kind ≡ Flush → ⊥) → Misses rules i h.owner.request h.piece.places → t' i ≡ t i → Next rules i past g [] s' (t' i)
    missed_next no_flush misses same =
        no_event rules i past g s' (t' i) (subst (λ x. Stage rules i past g s' x) (sym same) (record {
          mirrors = acted_mirrors past (Ends (t i) g) before
              (λ j d low. (λ read. sized read j d low, λ at. absurd (misses.none (h.piece.places.first + j) (hit_of j low at)), unfailed j low), λ f. absurd (no_flush f));
          holds = subst (λ m. Holds m (t i) g) (sym h.after.next_piece) stage.holds;
        }))

    -- HIT

    module _ (no_flush : h.owner.request.kind ≡ Flush → ⊥) (transfer : is_transfer h.owner.request.kind ≡ true) (k : ℕ) (hits : Hits rules i h.owner.request h.piece.places k) where
      abbrev sector : List ℕ
      sector = get_or h.sectors (k - h.piece.places.first) []

      there : IsAt rules i h.owner.request k
      there = let fit = inside in let low = hits.hit.1 in record { admitted = mine.admitted; transfer = transfer; sector = hits.hit.2; inside = omega arith }

      within : k - h.piece.places.first < length h.sectors
      within = let covers = h.covers in let from = hits.hit.0 in let low = hits.hit.1 in omega arith

      one_place_of : (j : ℕ) → IsAt rules i h.owner.request j → j ≡ k
      one_place_of j at = one_hit rules i h.owner.request j k at.sector hits.hit.2

      of_place : IsOfPlace rules i faulted past h.owner.number k (Effect h.owner.number sector)
      of_place = record {
        apart = λ o here j other. record { effect = λ at same. other (sym same) (its_place o here j at (sym same)); failure = tt };
        below = All-contains (IsGiven s.next_request) s.requests h.owner sound.0.given h.is_open;
        no_answer = λ number. tt;
        next = refl;
      }
        where
          its_place : (o : OpenRequest) → Contains s.requests o → (j : ℕ) → IsAt rules i o.request j → o.number ≡ h.owner.number → j ≡ k
          its_place o here j at same = one_place_of j (subst (λ (x : OpenRequest). IsAt rules i x.request j) (sym (same_open s h.owner o sound.0 h.is_open here same)) at)

      found : (j : ℕ) (d : List ℕ) → j < length h.sectors → IsAt rules i h.owner.request (h.piece.places.first + j) → Contains (Effect h.owner.number sector ∷ past) (Effect h.owner.number (get_or h.sectors j d))
      found j d low at =
          let here : h.piece.places.first + j ≡ k = one_place_of (h.piece.places.first + j) at in
          let e : k - h.piece.places.first ≡ j = omega arith in
          let same : sector ≡ get_or h.sectors j d = ap (λ v. get_or h.sectors v []) e ∙ get_or_default h.sectors j [] d low in
          subst (λ x. Contains (Effect h.owner.number sector ∷ past) (Effect h.owner.number x)) same (newest (Effect h.owner.number sector) past)

      hit_next : (g' : Held) → g' ≡ acted rules (next_number past) h.owner.number h.owner.request k i g → Carries rules g h.owner.request k h.owner.request.kind sector → Holds s.next_piece (t' i) g'
          → ((from number : ℕ) → suc number ≤ next_number past → Ends (t i) g from number → Ends (t' i) g' from number) → Next rules i past g [] s' (t' i)
      hit_next g' is carries holds ends =
          one_event rules i past g (Effect h.owner.number sector) g' s' (t' i)
          (record { request = h.owner.request; place = k; is_open = mine.is_open; there = there; idle = fresh.0 k hits.hit.0 hits.hit.1; carries = carries; after = is })
          (record {
            mirrors = acted_mirrors (Effect h.owner.number sector ∷ past) (Ends (t' i) g')
                (Mirrors-event rules i past (Ends (t i) g) (Ends (t' i) g') faulted h.owner.number k (Effect h.owner.number sector) taken of_place
                (λ o here from e. ends from o.number (below_next o here) e) free filled' before)
                (λ j d low. (λ read. sized read j d low, λ at. found j d low at, All-cons (IsNoFailure h.owner.number (h.piece.places.first + j)) (Effect h.owner.number sector) past tt (unfailed j low)), λ f. absurd (no_flush f));
            holds = subst (λ m. Holds m (t' i) g') (sym h.after.next_piece) holds;
          })
        where
          taken : IsTaken faulted h.owner.number k
          taken = are_taken s h.piece h.other_pieces h.owner sound.0 placed h.fresh.is_out h.is_open h.is_owner faulted (with_fate Faulted h.piece) (IsPermutation-refl _) (IsPermutation-refl _) refl k hits.hit.0 hits.hit.1

          below_next : (o : OpenRequest) → Contains s.requests o → suc o.number ≤ next_number past
          below_next o here = let n : o.number < s.next_request = All-contains (IsGiven s.next_request) s.requests o sound.0.given here in let e = stage.mirrors.next in omega arith

    -- BY KIND

    read_next : h.owner.request.kind ≡ Read → Next rules i past g [] s' (t' i)
    read_next read = elim (hits_or_misses rules i h.owner.request h.piece.places) [
      | inl found ↦
          hit_next (λ f. absurd (cc (f, read))) (ap is_transfer read) found.0 found.1 g (nothing_done found.0)
          (subst (λ kind. Carries rules g h.owner.request found.0 kind (get_or h.sectors (found.0 - h.piece.places.first) [])) (sym read) (stage.holds.now _ (given found.0 found.1)))
          (subst (λ x. Holds s.next_piece x g) (sym same) stage.holds) (λ from number low e. subst (λ x. Ends x g from number) (sym same) e)
      | inr misses ↦ missed_next (λ f. absurd (cc (f, read))) misses same
    ]
      where
        same : t' i ≡ t i
        same = after i ∙ ap (λ changes. changed_by s.next_piece changes (t i)) (read_act rules i h.owner.request h.piece.places n read)

        nothing_done : (k : ℕ) → g ≡ acted rules (next_number past) h.owner.number h.owner.request k i g
        nothing_done k = sym (ap (λ changes. changed_by (next_number past) changes g) (read_act rules i h.owner.request (one_place k) h.owner.number read))

        given : (k : ℕ) → Hits rules i h.owner.request h.piece.places k → IsOneOf (get_or h.sectors (k - h.piece.places.first) []) (t i).now
        given k hits =
            let covers = h.covers in
            let from = hits.hit.0 in
            let low = hits.hit.1 in
            let over : HandsOver rules.sector_size t (work_of rules h.owner.request h.piece.places).extent Read bytes =
            subst (λ kind. HandsOver rules.sector_size t (work_of rules h.owner.request h.piece.places).extent kind bytes) read hands_over in
            let is : get_or h.sectors (k - h.piece.places.first) [] ≡ sector_in rules.sector_size (k - h.piece.places.first) bytes =
            concat_chunk rules.sector_size h.sectors (k - h.piece.places.first) [] (sized read) (omega arith) ∙ ap (λ ys. chunk rules.sector_size (k - h.piece.places.first) ys) (sym h.hands_over) in
            subst (λ x. IsOneOf x (t i).now) (sym is)
            (subst (λ m. IsOneOf (sector_in rules.sector_size (k - h.piece.places.first) bytes) (t m).now) (reach rules i h.owner.request h.piece.places k hits.hit) (over (k - h.piece.places.first) (omega arith)))

    write_next : h.owner.request.kind ≡ Write → Next rules i past g [] s' (t' i)
    write_next write = elim (hits_or_misses rules i h.owner.request h.piece.places) [
      | inl found ↦
          let is : t' i ≡ changed_by s.next_piece (put_list h.owner.request (value_for rules h.owner.request found.0)) (t i) =
          after i ∙ ap (λ changes. changed_by s.next_piece changes (t i)) (hit_act rules i h.owner.request h.piece.places found.0 n write found.1) in
          hit_next (λ f. absurd (cc (f, write))) (ap is_transfer write) found.0 found.1 (changed_by (next_number past) (put_list h.owner.request (value_for rules h.owner.request found.0)) g)
          (sym (ap (λ changes. changed_by (next_number past) changes g) (hit_act rules i h.owner.request (one_place found.0) found.0 h.owner.number write (hits_alone rules i h.owner.request h.piece.places found.0 found.1))))
          (subst (λ kind. Carries rules g h.owner.request found.0 kind (get_or h.sectors (found.0 - h.piece.places.first) [])) (sym write) (own found.0 found.1))
          (subst (λ x. Holds s.next_piece x (changed_by (next_number past) (put_list h.owner.request (value_for rules h.owner.request found.0)) g)) (sym is)
          (both_written s.next_piece (next_number past) (t i) g (value_for rules h.owner.request found.0) stage.holds h.owner.request.through))
          (λ from number low e. subst (λ x. Ends x (changed_by (next_number past) (put_list h.owner.request (value_for rules h.owner.request found.0)) g) from number) (sym is)
          (ends_written s.next_piece (next_number past) (t i) g (value_for rules h.owner.request found.0) stage.holds h.owner.request.through from number low e))
      | inr misses ↦
          missed_next (λ f. absurd (cc (f, write))) misses (after i ∙ ap (λ changes. changed_by s.next_piece changes (t i)) (missed_act rules i h.owner.request h.piece.places n write misses))
    ]
      where
        own : (k : ℕ) → Hits rules i h.owner.request h.piece.places k → get_or h.sectors (k - h.piece.places.first) [] ≡ value_for rules h.owner.request k
        own k hits =
            let covers = h.covers in
            let from = hits.hit.0 in
            let low = hits.hit.1 in
            let moved : Transfers rules s h.owner.request h.piece.places Write h.sectors h.arrays' = subst (λ kind. Transfers rules s h.owner.request h.piece.places kind h.sectors h.arrays') write h.moves in
            let at : h.piece.places.first + (k - h.piece.places.first) ≡ k = omega arith in
            concat_chunk rules.sector_size h.sectors (k - h.piece.places.first) [] moved.1 (omega arith)
            ∙ ap (λ ys. chunk rules.sector_size (k - h.piece.places.first) ys) moved.0
            ∙ range_chunk rules.sector_size h.piece.places.first h.piece.places.count (k - h.piece.places.first) h.owner.request.bytes (omega arith)
            ∙ ap (λ m. chunk rules.sector_size m h.owner.request.bytes) at

    -- an act is an event of a sector that the piece has, and none of any other
    pub acts_next : Next rules i past g [] s' (t' i)
    acts_next = by_kind h.owner.request.kind refl
      where
        by_kind : (kind : Kind) → h.owner.request.kind ≡ kind → Next rules i past g [] s' (t' i)
        by_kind Read e = read_next e
        by_kind Write e = write_next e
        by_kind Flush e = flush_next e
