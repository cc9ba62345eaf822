-- An engine's stack goes on by its pieces.
use Rattle.serving.proofs.Common.{◌≡◌, ◌⊎◌, inl, inr, ℕ, Bool, true, false, List, [], ◌∷◌, ◌++◌, Option, Some, None, refl, sym, ap, subst, ◌∙◌, All, All-nil, All-head, Contains, Contains-append_right, Rules, slice_get, Answer, ManagerView, DiskView, StandsIn}
use Rattle.std.specs.Prelude.{IsNone, IsTrue, MatchOption, ◌&&◌, if◌then◌else◌, slice_set}
use Rattle.file_disk.specs.Copies.{IsCopyOf}
use Rattle.file_disk.specs.declared.file_disk.Sizes.{Sizes}
use Rattle.srb.specs.declared.Srb.{Srb}
use Rattle.movers.specs.declared.ask.Ask.{Ask}
use Rattle.movers.specs.declared.flight.Flown.{Flown}
use Rattle.movers.specs.Flight.{AllBeside}
use Rattle.movers.specs.Moving.{DoneView, IsMoved, MoversView}
use Rattle.serving.specs.Beside.{Aloft, Brings, Deals, FoundFull, GoesBeside, Gone, Hands, IsFlown, IsNewIn, IsOwn, Moment, Moved, Moves, moves_in, nothing_gone, with_back}
use Rattle.serving.specs.Elsewhere.{MovesOne}
use Rattle.serving.specs.inside.Engines.{EngineGoes, EngineHands, EngineKept, EngineMoves, EngineView}
use Rattle.serving.proofs.Carrying.{head_there}
use Rattle.serving.proofs.Dealing.{deals_back, deals_here, deals_lost, deals_more, deals_none, deals_one, moves_append}
use Rattle.serving.proofs.Siding.{beside_none}

none_new : (gone : Gone) (v : ManagerView) → v.answers ≡ [] → All (IsNewIn gone) v.answers
none_new gone v none = subst (λ (xs : List Answer). All (IsNewIn gone) xs) (sym none) (All-nil (IsNewIn gone))

-- nothing was moved
pub idle_goes : (e : EngineView) → e.stack.answers ≡ [] → EngineGoes e false e
idle_goes e none = record {
  gone = nothing_gone;
  went = beside_none e.stack;
  deals = deals_none e.aloft e.disk;
  newest = none_new nothing_gone e.stack none;
  full = λ h. inl h;
  fails = λ h. absurd (cc (h));
}

-- PIECES ARE HANDED OUT

pub hands_none : (e : EngineView) → EngineHands e e
hands_none e = record { moments = []; same = refl; deals = deals_none e.aloft e.disk; none_moved = refl }

pub hands_more : (a b c : EngineView) → EngineHands a b → EngineHands b c → EngineHands a c
hands_more a b c h k = record {
  moments = h.moments ++ k.moments;
  same = k.same ∙ ap (λ (e : EngineView). record e { aloft = c.aloft }) h.same;
  deals =
      deals_more a.aloft b.aloft c.aloft a.disk a.disk a.disk h.moments k.moments h.deals
      (subst (λ (d : DiskView). Deals b.aloft d k.moments c.aloft d) (ap (λ (e : EngineView). e.disk) h.same) k.deals);
  none_moved = moves_append h.moments k.moments ∙ (ap (λ (ms : List Moved). ms ++ moves_in k.moments) h.none_moved ∙ k.none_moved);
}

pub hands_one : (e : EngineView) (tag at : ℕ) (ask : Ask) (srb : Srb) (flown : Flown) → slice_get e.aloft.places tag ≡ Some None → All (AllBeside flown) e.aloft.flown → ask.tag ≡ tag → IsCopyOf srb ask.srb → IsFlown e.disk srb flown
    → EngineHands e (record e { aloft = record { flown = slice_set e.aloft.flown tag (Some flown); places = slice_set e.aloft.places tag (Some at) } })
hands_one e tag at ask srb flown free beside on copy asks =
    subst (λ (t : ℕ). EngineHands e (record e { aloft = record { flown = slice_set e.aloft.flown t (Some flown); places = slice_set e.aloft.places t (Some at) } })) on (record {
      moments = Hands (record { at = at; ask = ask; srb = srb; flown = flown }) ∷ [];
      same = refl;
      deals = deals_one e.aloft e.disk (record { at = at; ask = ask; srb = srb; flown = flown }) (subst (λ (t : ℕ). slice_get e.aloft.places t ≡ Some None) (sym on) free) beside (record { is_copy = copy; flown = asks });
      none_moved = refl;
    })

-- A PIECE IS MOVED

both_true : (a b : Bool) → IsTrue (a && b) → IsTrue a
both_true true b h = refl
both_true false b h = absurd (cc (h))

full_by : (failed : Bool) (old new : Bool) (m : Moved) (gone : Gone) → Contains (moves_in gone.moments) m → new ≡ (if failed then m.after.full else old) → IsTrue new → IsTrue old ⊎ FoundFull gone
full_by true old new m gone there e h = inr (record { move = m; there = there; full = subst IsTrue e h })
full_by false old new m gone there e h = inl (subst IsTrue e h)

-- by one piece, which is told of by this moment
module _ (old new : EngineView) (before after : DiskView) (tag : ℕ) (failed syncs : Bool) (m : MovesOne old.stack before tag failed new.stack after) (none : old.stack.answers ≡ []) (is_full : new.full ≡ (if failed then after.full else old.full)) where
  abbrev move : Moved
  move = record { deed = m.deed; before = before; after = after }

  own : IsOwn move
  own = All-head IsOwn move [] m.went.own

  goes_by : (moment : Moment) → moves_in (moment ∷ []) ≡ move ∷ [] → Deals old.aloft old.disk (moment ∷ []) new.aloft new.disk → EngineGoes old (failed && syncs) new
  goes_by moment is deals =
      let gone : Gone = record { labels = m.labels; moments = moment ∷ [] } in
      let there : Contains (moves_in gone.moments) move = subst (λ (ms : List Moved). Contains ms move) (sym is) (head_there move []) in
      record {
        gone = gone;
        went = subst (λ (ms : List Moved). GoesBeside old.stack m.labels ms new.stack) (sym is) m.went;
        deals = deals;
        newest = m.newest none;
        full = λ h. full_by failed old.full new.full move gone there is_full h;
        fails = λ h. record { move = move; there = there; completion = (m.fails (both_true failed syncs h)).0; failed = (m.fails (both_true failed syncs h)).1 };
      }

-- its owner moved it
pub here_goes : (old new : EngineView) (tag : ℕ) (failed syncs : Bool) → old.stack.answers ≡ [] → All IsNone old.aloft.places → MovesOne old.stack old.disk tag failed new.stack new.disk → new.full ≡ (if failed then new.disk.full else old.full) → new.aloft ≡ old.aloft
    → EngineGoes old (failed && syncs) new
here_goes old new tag failed syncs none idle m is_full same =
    goes_by old new old.disk new.disk tag failed syncs m none is_full (Moves (record { deed = m.deed; before = old.disk; after = new.disk })) refl
    (subst (λ (a : Aloft). Deals old.aloft old.disk (Moves (record { deed = m.deed; before = old.disk; after = new.disk }) ∷ []) a new.disk) (sym same)
    (deals_here old.aloft (record { deed = m.deed; before = old.disk; after = new.disk }) idle (own old new old.disk new.disk tag failed syncs m none is_full)))

-- it came back from a thread
pub brings_goes : (old new : EngineView) (before after : DiskView) (at tag : ℕ) (failed syncs : Bool) → old.stack.answers ≡ [] → slice_get old.aloft.places tag ≡ Some (Some at) → MovesOne old.stack before tag failed new.stack after
    → new.full ≡ (if failed then after.full else old.full) → new.aloft ≡ with_back tag old.aloft → new.disk ≡ old.disk → EngineGoes old (failed && syncs) new
brings_goes old new before after at tag failed syncs none there m is_full same disk =
    goes_by old new before after tag failed syncs m none is_full (Brings at tag (Some (record { deed = m.deed; before = before; after = after }))) refl
    (subst (λ (a : Aloft). Deals old.aloft old.disk (Brings at tag (Some (record { deed = m.deed; before = before; after = after })) ∷ []) a new.disk) (sym same)
    (subst (λ (d : DiskView). Deals old.aloft old.disk (Brings at tag (Some (record { deed = m.deed; before = before; after = after })) ∷ []) (with_back tag old.aloft) d) (sym disk)
    (deals_back old.aloft old.disk at (record { deed = m.deed; before = before; after = after }) tag there m.on_tag)))

-- what came back was not booked
pub lost_goes : (old : EngineView) (at tag : ℕ) → old.stack.answers ≡ [] → slice_get old.aloft.places tag ≡ Some (Some at) → EngineGoes old false (record old { aloft = with_back tag old.aloft })
lost_goes old at tag none there = record {
  gone = record { labels = []; moments = Brings at tag None ∷ [] };
  went = beside_none old.stack;
  deals = deals_lost old.aloft old.disk at tag there;
  newest = none_new (record { labels = []; moments = Brings at tag None ∷ [] }) old.stack none;
  full = λ h. inl h;
  fails = λ h. absurd (cc (h));
}

-- pieces were handed out before
there_behind : (xs ys : List Moment) (m : Moved) → Contains (moves_in ys) m → Contains (moves_in (xs ++ ys)) m
there_behind xs ys m c = subst (λ (ms : List Moved). Contains ms m) (sym (moves_append xs ys)) (Contains-append_right (moves_in xs) (moves_in ys) m c)

full_behind : (moments : List Moment) (old : Bool) (gone : Gone) → IsTrue old ⊎ FoundFull gone → IsTrue old ⊎ FoundFull (record { labels = gone.labels; moments = moments ++ gone.moments })
full_behind moments old gone (inl h) = inl h
full_behind moments old gone (inr f) = inr (record { move = f.move; there = there_behind moments gone.moments f.move f.there; full = f.full })

pub hands_then : (a b c : EngineView) (failed : Bool) → EngineHands a b → EngineGoes b failed c → EngineGoes a failed c
hands_then a b c failed h k =
    let gone : Gone = record { labels = k.gone.labels; moments = h.moments ++ k.gone.moments } in
    let same_moves : moves_in gone.moments ≡ moves_in k.gone.moments = moves_append h.moments k.gone.moments ∙ ap (λ (ms : List Moved). ms ++ moves_in k.gone.moments) h.none_moved in
    record {
      gone = gone;
      went =
          subst (λ (v : ManagerView). GoesBeside v k.gone.labels (moves_in gone.moments) c.stack) (ap (λ (e : EngineView). e.stack) h.same)
          (subst (λ (ms : List Moved). GoesBeside b.stack k.gone.labels ms c.stack) (sym same_moves) k.went);
      deals =
          deals_more a.aloft b.aloft c.aloft a.disk a.disk c.disk h.moments k.gone.moments h.deals
          (subst (λ (d : DiskView). Deals b.aloft d k.gone.moments c.aloft c.disk) (ap (λ (e : EngineView). e.disk) h.same) k.deals);
      newest = k.newest;
      full = λ t. subst (λ (x : Bool). IsTrue x ⊎ FoundFull gone) (ap (λ (e : EngineView). e.full) h.same) (full_behind h.moments b.full k.gone (k.full t));
      fails = λ t. record { move = (k.fails t).move; there = there_behind h.moments k.gone.moments (k.fails t).move (k.fails t).there; completion = (k.fails t).completion; failed = (k.fails t).failed };
    }

pub moves_then : (a b c : EngineView) (result : Option Bool) → EngineHands a b → MatchOption result (c ≡ b) (λ failed. EngineGoes b failed c) → EngineMoves a result c
moves_then a b c None h k = subst (λ (e : EngineView). EngineHands a e) (sym k) h
moves_then a b c (Some failed) h k = hands_then a b c failed h k

-- the disk of a thread stands in as the engine's own
pub before_stands : (stack : ManagerView) (disk : DiskView) (movers : MoversView) (done : DoneView) → EngineKept stack disk movers → done.sizes ≡ movers.sizes → IsMoved done.sizes done.ask done.what done.before done.after → StandsIn stack done.before
before_stands stack disk movers done kept same moved = record {
  apart = kept.stands.apart;
  sector_size = moved.has_sizes.sector_size ∙ ap (λ (z : Sizes). z.sector_size) same ∙ kept.sector_size ∙ kept.stands.sector_size;
  sectors = moved.has_sizes.sectors ∙ ap (λ (z : Sizes). z.sectors) same ∙ kept.sectors ∙ kept.stands.sectors;
}

-- WHAT IS KEPT

-- behind a piece that the owner moved
pub kept_moved : (stack stack' : ManagerView) (disk disk' : DiskView) (movers : MoversView) (tag : ℕ) (failed : Bool) → EngineKept stack disk movers → MovesOne stack disk tag failed stack' disk' → stack'.labels ≡ [] → EngineKept stack' disk' movers
kept_moved stack stack' disk disk' movers tag failed kept m taken = record {
  stands = m.stands;
  taken = taken;
  sector_size = kept.sector_size ∙ (kept.stands.sector_size ∙ sym (m.stands.sector_size ∙ ap (λ (r : Rules). r.sector_size) m.went.same_rules));
  sectors = kept.sectors ∙ (kept.stands.sectors ∙ sym (m.stands.sectors ∙ ap (λ (r : Rules). r.disk_sectors) m.went.same_rules));
}

-- where the owner's disk made no call
pub kept_so : (stack stack' : ManagerView) (disk : DiskView) (movers movers' : MoversView) → EngineKept stack disk movers → movers'.sizes ≡ movers.sizes → StandsIn stack' disk → stack'.labels ≡ [] → EngineKept stack' disk movers'
kept_so stack stack' disk movers movers' kept same stands taken = record {
  stands = stands;
  taken = taken;
  sector_size = ap (λ (z : Sizes). z.sector_size) same ∙ kept.sector_size;
  sectors = ap (λ (z : Sizes). z.sectors) same ∙ kept.sectors;
}

-- WHAT AN ENGINE'S STEPS LEAVE

pub here_filled : (e new : EngineView) (stack : ManagerView) (disk : DiskView) (tag : ℕ) (full failed syncs : Bool) → e.stack.answers ≡ [] → All IsNone e.aloft.places → MovesOne e.stack e.disk tag failed stack disk → full ≡ disk.full
    → new ≡ record { stack = stack; full = if failed then full else e.full; disk = disk; aloft = e.aloft } → EngineGoes e (failed && syncs) new
here_filled e new stack disk tag full failed syncs none idle m is same =
    subst (λ (v : EngineView). EngineGoes e (failed && syncs) v) (sym same)
    (here_goes e (record { stack = stack; full = if failed then full else e.full; disk = disk; aloft = e.aloft }) tag failed syncs none idle m (ap (λ (f : Bool). if failed then f else e.full) is) refl)

pub brings_filled : (e new : EngineView) (stack : ManagerView) (aloft : Aloft) (done : DoneView) (at tag : ℕ) (full failed syncs : Bool) → e.stack.answers ≡ [] → slice_get e.aloft.places tag ≡ Some (Some at) → tag ≡ done.ask.tag
    → MovesOne e.stack done.before done.ask.tag failed stack done.after → full ≡ done.after.full → aloft ≡ with_back tag e.aloft
    → new ≡ record { stack = stack; full = if failed then full else e.full; disk = e.disk; aloft = aloft } → EngineGoes e (failed && syncs) new
brings_filled e new stack aloft done at tag full failed syncs none there on m is back same =
    subst (λ (v : EngineView). EngineGoes e (failed && syncs) v) (sym same)
    (brings_goes e (record { stack = stack; full = if failed then full else e.full; disk = e.disk; aloft = aloft }) done.before done.after at tag failed syncs none there
    (subst (λ (t : ℕ). MovesOne e.stack done.before t failed stack done.after) (sym on) m) (ap (λ (f : Bool). if failed then f else e.full) is) back refl)

pub lost_so : (e : EngineView) (stack : ManagerView) (aloft : Aloft) (at tag : ℕ) → e.stack.answers ≡ [] → slice_get e.aloft.places tag ≡ Some (Some at) → stack ≡ e.stack → aloft ≡ with_back tag e.aloft
    → EngineGoes e false (record { stack = stack; full = e.full; disk = e.disk; aloft = aloft })
lost_so e stack aloft at tag none there same back =
    subst (λ (v : ManagerView). EngineGoes e false (record { stack = v; full = e.full; disk = e.disk; aloft = aloft })) (sym same)
    (subst (λ (a : Aloft). EngineGoes e false (record { stack = e.stack; full = e.full; disk = e.disk; aloft = a })) (sym back) (lost_goes e at tag none there))

pub hands_begun : (e : EngineView) (aloft : Aloft) (tag at : ℕ) (ask : Ask) (srb : Srb) (flown : Flown) → slice_get e.aloft.places tag ≡ Some None → All (AllBeside flown) e.aloft.flown → ask.tag ≡ tag → IsCopyOf srb ask.srb → IsFlown e.disk srb flown
    → aloft ≡ record { flown = slice_set e.aloft.flown tag (Some flown); places = slice_set e.aloft.places tag (Some at) } → EngineHands e (record e { aloft = aloft })
hands_begun e aloft tag at ask srb flown free beside on copy asks same = subst (λ (a : Aloft). EngineHands e (record e { aloft = a })) (sym same) (hands_one e tag at ask srb flown free beside on copy asks)

-- no answer waits behind pieces that were handed out
pub heard_still : (a b : EngineView) → EngineHands a b → a.stack.answers ≡ [] → b.stack.answers ≡ []
heard_still a b h none = ap (λ (e : EngineView). e.stack.answers) h.same ∙ none

-- OF THE FIELDS OF AN ENGINE

module _ (v : EngineView) (full : Bool) (stack : ManagerView) (disk : DiskView) (aloft : Aloft) (view : ◌≡◌ {A = EngineView} (record { stack = stack; full = full; disk = disk; aloft = aloft }) v) where
  pub here_at : (new : EngineView) (stack' : ManagerView) (disk' : DiskView) (tag : ℕ) (told failed syncs : Bool) → v.stack.answers ≡ [] → All IsNone v.aloft.places → MovesOne stack disk tag failed stack' disk' → told ≡ disk'.full
      → new ≡ record { stack = stack'; full = if failed then told else full; disk = disk'; aloft = aloft } → EngineGoes v (failed && syncs) new
  here_at new stack' disk' tag told failed syncs none idle m is same =
      subst (λ (e : EngineView). EngineGoes e (failed && syncs) new) view
      (here_filled (record { stack = stack; full = full; disk = disk; aloft = aloft }) new stack' disk' tag told failed syncs
      (subst (λ (e : EngineView). e.stack.answers ≡ []) (sym view) none) (subst (λ (e : EngineView). All IsNone e.aloft.places) (sym view) idle) m is same)

  pub brings_at : (new : EngineView) (stack' : ManagerView) (aloft' : Aloft) (done : DoneView) (at tag : ℕ) (told failed syncs : Bool) → v.stack.answers ≡ [] → slice_get aloft.places tag ≡ Some (Some at) → tag ≡ done.ask.tag
      → MovesOne stack done.before done.ask.tag failed stack' done.after → told ≡ done.after.full → aloft' ≡ with_back tag aloft
      → new ≡ record { stack = stack'; full = if failed then told else full; disk = disk; aloft = aloft' } → EngineGoes v (failed && syncs) new
  brings_at new stack' aloft' done at tag told failed syncs none there on m is back same =
      subst (λ (e : EngineView). EngineGoes e (failed && syncs) new) view
      (brings_filled (record { stack = stack; full = full; disk = disk; aloft = aloft }) new stack' aloft' done at tag told failed syncs
      (subst (λ (e : EngineView). e.stack.answers ≡ []) (sym view) none) there on m is back same)

  pub lost_at : (stack' : ManagerView) (aloft' : Aloft) (at tag : ℕ) → v.stack.answers ≡ [] → slice_get aloft.places tag ≡ Some (Some at) → stack' ≡ stack → aloft' ≡ with_back tag aloft
      → EngineGoes v false (record { stack = stack'; full = full; disk = disk; aloft = aloft' })
  lost_at stack' aloft' at tag none there same back =
      subst (λ (e : EngineView). EngineGoes e false (record { stack = stack'; full = full; disk = disk; aloft = aloft' })) view
      (lost_so (record { stack = stack; full = full; disk = disk; aloft = aloft }) stack' aloft' at tag (subst (λ (e : EngineView). e.stack.answers ≡ []) (sym view) none) there same back)

  pub hands_at : (aloft' : Aloft) (tag at : ℕ) (ask : Ask) (srb : Srb) (flown : Flown) → slice_get aloft.places tag ≡ Some None → All (AllBeside flown) aloft.flown → ask.tag ≡ tag → IsCopyOf srb ask.srb → IsFlown disk srb flown
      → aloft' ≡ record { flown = slice_set aloft.flown tag (Some flown); places = slice_set aloft.places tag (Some at) } → EngineHands v (record { stack = stack; full = full; disk = disk; aloft = aloft' })
  hands_at aloft' tag at ask srb flown free beside on copy asks same =
      subst (λ (e : EngineView). EngineHands e (record { stack = stack; full = full; disk = disk; aloft = aloft' })) view
      (hands_begun (record { stack = stack; full = full; disk = disk; aloft = aloft }) aloft' tag at ask srb flown free beside on copy asks same)
