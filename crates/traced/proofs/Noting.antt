-- One label more.
use Rattle.traced.proofs.Common.{◌≡◌, ◌≢◌, ℕ, zero, suc, ◌+◌, ◌-◌, ◌<◌, ◌≤◌, ◌==◌, ◌&&◌, if◌then◌else◌, Bool, true, false, List, [], ◌∷◌, ◌++◌, length, set, Option, Some, None, refl, sym, ap, ◌∙◌, subst, arith, length-append, length-set, get_or-set_same, get_or-set_other, slice_get, slice_get_within, nat_tests, append-nil, Label, TraceEntry, RowView, blank, row_at, IsRowAt, called, answered, rows_after, MayStand, LogView, owners_after, ready_after, AreKept, IsAwaited, MayNote, IsNext, HasPlaces, IsReady}
use mathlib.Core.Logic.{dite}
use native.Mathlib.Decide.{ℕ_discrete}
use Rattle.machine.specs.declared.Label.TheVariants.{Call, Device, Answer, Cancel, Pause, Resume, Remove, Surprise, Removed}
use Rattle.traced.specs.Entries.{entry, owner_of, WasCalled, row_of, HasOwner, AreRowed, is_row, is_call, is_answer, places, count_of, is_call_of, is_answer_of}

pub some_is : {A : Type 0} {x y : A} → Some x ≡ Some y → x ≡ y
some_is {A} {x} {y} e = cc

-- LISTS

pub get_front : {A : Type 0} (xs ys : List A) (k : ℕ) → k < length xs → slice_get (xs ++ ys) k ≡ slice_get xs k
get_front [] ys k less = absurd (omega arith)
get_front (x ∷ xs) ys zero less = refl
get_front (x ∷ xs) ys (suc k) less = get_front xs ys k (omega arith)

pub get_last : {A : Type 0} (xs : List A) (x : A) → slice_get (xs ++ x ∷ []) (length xs) ≡ Some x
get_last [] x = refl
get_last (y ∷ xs) x = get_last xs x

pub same_row : (c d : ℕ) → c ≡ d → (c == d) ≡ true
same_row c d e = grind (arith, nat_tests)

other_row : (c d : ℕ) → c ≢ d → (c == d) ≡ false
other_row c d ne = grind (arith, nat_tests)

pub count_snoc : (test : TraceEntry → Bool) (es : List TraceEntry) (e : TraceEntry) → count_of test (es ++ e ∷ []) ≡ count_of test es + (if test e then 1 else 0)
count_snoc test [] e = one (test e)
  where
    one : (b : Bool) → (if b then 1 else 0) ≡ 0 + (if b then 1 else 0)
    one true = refl
    one false = refl
count_snoc test (f ∷ es) e = go (test f) (count_snoc test es e)
  where
    go : (b : Bool) → count_of test (es ++ e ∷ []) ≡ count_of test es + (if test e then 1 else 0)
        → (if b then suc (count_of test (es ++ e ∷ [])) else count_of test (es ++ e ∷ [])) ≡ (if b then suc (count_of test es) else count_of test es) + (if test e then 1 else 0)
    go true more = omega (arith, more)
    go false more = more

places_snoc : (c from : ℕ) (es : List TraceEntry) (e : TraceEntry) → places c from (es ++ e ∷ []) ≡ places c from es ++ (if is_row c e.row then (from + length es) ∷ [] else [])
places_snoc c from [] e = one (is_row c e.row)
  where
    one : (b : Bool) → (if b then from ∷ [] else []) ≡ (if b then (from + 0) ∷ [] else [])
    one true = ap (λ (k : ℕ). k ∷ []) (omega arith)
    one false = refl
places_snoc c from (f ∷ es) e =
    go (is_row c f.row) (places_snoc c (suc from) es e ∙ ap (λ (k : ℕ). places c (suc from) es ++ (if is_row c e.row then k ∷ [] else [])) (omega arith))
  where
    go : (b : Bool) → places c (suc from) (es ++ e ∷ []) ≡ places c (suc from) es ++ (if is_row c e.row then (from + suc (length es)) ∷ [] else [])
        → (if b then from ∷ places c (suc from) (es ++ e ∷ []) else places c (suc from) (es ++ e ∷ []))
        ≡ (if b then from ∷ places c (suc from) es else places c (suc from) es) ++ (if is_row c e.row then (from + suc (length es)) ∷ [] else [])
    go true more = ap (λ ks. from ∷ ks) more
    go false more = more

places_end : (c : ℕ) (es : List TraceEntry) (e : TraceEntry) → places c 0 (es ++ e ∷ []) ≡ places c 0 es ++ (if is_row c e.row then length es ∷ [] else [])
places_end c es e = places_snoc c 0 es e ∙ ap (λ (k : ℕ). places c 0 es ++ (if is_row c e.row then k ∷ [] else [])) (omega arith)

-- OWNERS

pub owner_front : (owners more : List ℕ) (number : ℕ) → WasCalled owners number → owner_of (owners ++ more) number ≡ owner_of owners number
owner_front owners more number was = get_front owners more (number - 1) (let a = was.0 in let b = was.1 in omega arith)

pub owner_new : (owners : List ℕ) (number c : ℕ) → number ≡ length owners + 1 → owner_of (owners ++ c ∷ []) number ≡ Some c
owner_new owners number c next = ap (slice_get (owners ++ c ∷ [])) (let e : number - 1 ≡ length owners = omega arith in e) ∙ get_last owners c

-- an owner more changes no row
row_stays : (owners : List ℕ) (c : ℕ) (label : Label) → HasOwner owners label → (HasOwner (owners ++ c ∷ []) label) × (row_of (owners ++ c ∷ []) label ≡ row_of owners label)
row_stays owners c (Call n q) has = ((has.0, (let h = has.1 in omega (arith, length-append owners (c ∷ [])))), owner_front owners (c ∷ []) n has)
row_stays owners c (Answer n s i b) has = ((has.0, (let h = has.1 in omega (arith, length-append owners (c ∷ [])))), owner_front owners (c ∷ []) n has)
row_stays owners c _ has = (tt, refl)

rowed_more : (owners : List ℕ) (c : ℕ) (es : List TraceEntry) → AreRowed owners es → AreRowed (owners ++ c ∷ []) es
rowed_more owners c [] all = tt
rowed_more owners c (e ∷ es) all =
    let s = row_stays owners c e.label all.0.0 in ((s.0, all.0.1 ∙ sym s.1), rowed_more owners c es all.1)

rowed_snoc : (owners : List ℕ) (es : List TraceEntry) (label : Label) → AreRowed owners es → HasOwner owners label → AreRowed owners (es ++ entry label (row_of owners label) ∷ [])
rowed_snoc owners [] label all has = ((has, refl), tt)
rowed_snoc owners (e ∷ es) label all has = (all.0, rowed_snoc owners es label all.1 has)

rowed_noted : (client : ℕ) (owners : List ℕ) (es : List TraceEntry) (label : Label) → IsNext owners label → AreRowed owners es
    → AreRowed (owners_after client owners label) (es ++ entry label (row_of (owners_after client owners label) label) ∷ [])
rowed_noted client owners es (Call n q) next all =
    rowed_snoc (owners ++ client ∷ []) es (Call n q) (rowed_more owners client es all) (omega arith, omega (arith, next, length-append owners (client ∷ [])))
rowed_noted client owners es (Answer n s i b) next all = rowed_snoc owners es (Answer n s i b) all next
rowed_noted client owners es other next all = rowed_snoc owners es other all tt

-- ROWS

at_row : (rows : List RowView) (i : ℕ) (r : RowView) (P : ℕ → RowView → Type 0) → i < length rows → P i r → ((j : ℕ) → j ≢ i → P j (row_at rows j)) → (j : ℕ) → P j (row_at (set rows i r) j)
at_row rows i r P inside here there j =
    dite
    (ℕ_discrete j i)
    (λ (same : j ≡ i). subst (λ (k : ℕ). P k (row_at (set rows i r) k)) (sym same) (subst (P i) (sym (get_or-set_same rows i r blank inside)) here))
    (λ (other : j ≢ i). subst (P j) (sym (get_or-set_other rows i j r blank other)) (there j other))

-- what an entry adds to a row
pub record Adds (e : TraceEntry) (c place : ℕ) (old new : RowView) : Type 0 where
  pub places : new.places ≡ old.places ++ (if is_row c e.row then place ∷ [] else [])
  pub awaited : (if is_answer_of c e then 1 else 0) + new.awaited ≡ old.awaited + (if is_call_of c e then 1 else 0)
  pub room : new.awaited ≤ new.room

row_more : (es : List TraceEntry) (e : TraceEntry) (rows new : List RowView) (c : ℕ) → IsRowAt es rows c → Adds e c (length es) (row_at rows c) (row_at new c) → IsRowAt (es ++ e ∷ []) new c
row_more es e rows new c was adds = record {
  places = adds.places ∙ ap (λ ps. ps ++ (if is_row c e.row then length es ∷ [] else [])) was.places ∙ sym (places_end c es e);
  awaited = (let a = adds.awaited in let w = was.awaited in omega (arith, count_snoc (is_answer_of c) es e, count_snoc (is_call_of c) es e));
  room = adds.room;
}

none_adds : (e : TraceEntry) (c place : ℕ) (r : RowView) → is_row c e.row ≡ false → r.awaited ≤ r.room → Adds e c place r r
none_adds e c place r other room = record {
  places = sym (ap (λ (b : Bool). r.places ++ (if b then place ∷ [] else [])) other ∙ append-nil _);
  awaited = ap (λ (b : Bool). (if b then 1 else 0) + r.awaited) (and_no (is_answer e.label)) ∙ (let z : 0 + r.awaited ≡ r.awaited + 0 = omega arith in z) ∙ sym (ap (λ (b : Bool). r.awaited + (if b then 1 else 0)) (and_no (is_call e.label)));
  room = room;
}
  where
    and_no : (a : Bool) → (a && is_row c e.row) ≡ false
    and_no true = other
    and_no false = refl

-- a label that stands in no row leaves them
no_row : (es : List TraceEntry) (e : TraceEntry) (clients : ℕ) (rows : List RowView) → e.row ≡ None → ((c : ℕ) → c < clients → IsRowAt es rows c) → (c : ℕ) → c < clients → IsRowAt (es ++ e ∷ []) rows c
no_row es e clients rows none all c less =
    row_more es e rows rows c (all c less) (none_adds e c (length es) (row_at rows c) (ap (is_row c) none) (all c less).room)

-- and one that stands in a row changes that
one_row : (es : List TraceEntry) (e : TraceEntry) (clients d : ℕ) (rows : List RowView) (r : RowView) → e.row ≡ Some d → d < length rows → Adds e d (length es) (row_at rows d) r
    → ((c : ℕ) → c < clients → IsRowAt es rows c) → (c : ℕ) → c < clients → IsRowAt (es ++ e ∷ []) (set rows d r) c
one_row es e clients d rows r is inside adds all c less =
    row_more es e rows (set rows d r) c (all c less)
    (at_row rows d r (λ j s. (IsRowAt es rows j) → Adds e j (length es) (row_at rows j) s) inside (λ _. adds)
    (λ j other was. none_adds e j (length es) (row_at rows j) (ap (is_row j) is ∙ other_row j d other) was.room) c (all c less))

call_adds : (n : ℕ) (q : _) (d place : ℕ) (r : RowView) → r.awaited + 2 ≤ r.room → Adds (entry (Call n q) (Some d)) d place r (called r place)
call_adds n q d place r room = record {
  places = sym (ap (λ (b : Bool). r.places ++ (if b then place ∷ [] else [])) (same_row d d refl));
  awaited = (let z : 0 + (r.awaited + 1) ≡ r.awaited + 1 = omega arith in z) ∙ sym (ap (λ (b : Bool). r.awaited + (if b then 1 else 0)) (same_row d d refl));
  room = omega arith;
}

answer_adds : (n : ℕ) (s : _) (i : ℕ) (b : List ℕ) (d place : ℕ) (r : RowView) → 0 < r.awaited → r.awaited ≤ r.room → Adds (entry (Answer n s i b) (Some d)) d place r (answered r place)
answer_adds n s i b d place r some room = record {
  places = sym (ap (λ (t : Bool). r.places ++ (if t then place ∷ [] else [])) (same_row d d refl));
  awaited = ap (λ (t : Bool). (if t then 1 else 0) + (r.awaited - 1)) (same_row d d refl) ∙ omega arith;
  room = omega arith;
}

-- the row of an answer awaits one
awaits : (clients : ℕ) (p : LogView) (rows : List RowView) (number c : ℕ) → AreKept clients p.entries p.owners rows → owner_of p.owners number ≡ Some c → IsAwaited p.entries c → (c < length rows) × (0 < (row_at rows c).awaited)
awaits clients p rows number c kept is some =
    let less = kept.owned number c is in
    let r = (kept.each c less).awaited in
    (subst (λ (n : ℕ). c < n) (sym kept.count) less, omega arith)

-- THE PAGES

abbrev row_now : ℕ → LogView → Label → Option ℕ
row_now client p label = row_of (owners_after client p.owners label) label

stands_in : (clients : ℕ) (p : LogView) (rows : List RowView) (n : ℕ) (s : _) (i : ℕ) (b : List ℕ) → AreKept clients p.entries p.owners rows → ((c : ℕ) → owner_of p.owners n ≡ Some c → IsAwaited p.entries c)
    → (row : Option ℕ) → owner_of p.owners n ≡ row → MayStand rows (Answer n s i b) row
stands_in clients p rows n s i b kept all None is = tt
stands_in clients p rows n s i b kept all (Some c) is =
    let a = awaits clients p rows n c kept is (all c is) in (a.0, a.1, (kept.each c (kept.owned n c is)).room)

call_place : (clients client spare : ℕ) (p : LogView) (rows : List RowView) → p.ready ≡ Some client → IsReady rows spare p.ready → HasPlaces rows spare client
call_place clients client spare p rows is ready = subst (IsReady rows spare) is ready

pub may_stand : (clients client spare : ℕ) (p : LogView) (rows : List RowView) (label : Label) → AreKept clients p.entries p.owners rows → IsReady rows spare p.ready → MayNote clients client p label
    → MayStand rows label (row_now client p label)
may_stand clients client spare p rows (Call n q) kept ready may =
    let h = call_place clients client spare p rows may.2 ready in
    subst (MayStand rows (Call n q)) (sym (owner_new p.owners n client may.0)) (h.is_client, h.row)
may_stand clients client spare p rows (Answer n s i b) kept ready may = stands_in clients p rows n s i b kept may.1 (owner_of p.owners n) refl
may_stand clients client spare p rows _ kept ready may = tt

pub is_next : (clients client : ℕ) (p : LogView) (label : Label) → MayNote clients client p label → IsNext p.owners label
is_next clients client p (Call n q) may = may.0
is_next clients client p (Answer n s i b) may = may.0
is_next clients client p _ may = tt

owned_more : (clients client : ℕ) (owners : List ℕ) → client < clients → ((number c : ℕ) → owner_of owners number ≡ Some c → c < clients) → (number c : ℕ) → owner_of (owners ++ client ∷ []) number ≡ Some c → c < clients
owned_more clients client owners less all number c is =
    dite
    (ℕ_discrete (number - 1) (length owners))
    (λ (e : number - 1 ≡ length owners). subst (λ (d : ℕ). d < clients) (some_is (sym (get_last owners client) ∙ sym (ap (slice_get (owners ++ client ∷ [])) e) ∙ is)) less)
    (λ (ne : number - 1 ≢ length owners). let within = slice_get_within (owners ++ client ∷ []) (number - 1) c is in
    let front : number - 1 < length owners = omega (arith, within, length-append owners (client ∷ [])) in all number c (sym (get_front owners (client ∷ []) (number - 1) front) ∙ is))

answer_rows : (clients : ℕ) (p : LogView) (rows : List RowView) (n : ℕ) (s : _) (i : ℕ) (b : List ℕ) → AreKept clients p.entries p.owners rows → (row : Option ℕ) → MayStand rows (Answer n s i b) row
    → (c : ℕ) → c < clients → IsRowAt (p.entries ++ entry (Answer n s i b) row ∷ []) (rows_after rows (Answer n s i b) row (length p.entries)) c
answer_rows clients p rows n s i b kept None may = no_row p.entries (entry (Answer n s i b) None) clients rows refl kept.each
answer_rows clients p rows n s i b kept (Some d) may =
    one_row p.entries (entry (Answer n s i b) (Some d)) clients d rows (answered (row_at rows d) (length p.entries)) refl may.0 (answer_adds n s i b d (length p.entries) (row_at rows d) may.1 may.2) kept.each

length_after : (rows : List RowView) (n : ℕ) (s : _) (i : ℕ) (b : List ℕ) (row : Option ℕ) (place : ℕ) → length (rows_after rows (Answer n s i b) row place) ≡ length rows
length_after rows n s i b None place = refl
length_after rows n s i b (Some c) place = length-set rows c _

plain : (clients : ℕ) (p : LogView) (rows : List RowView) (label : Label) → AreKept clients p.entries p.owners rows → HasOwner p.owners label → row_of p.owners label ≡ None
    → AreKept clients (p.entries ++ entry label (row_of p.owners label) ∷ []) p.owners rows
plain clients p rows label kept has none = record {
  rowed = rowed_snoc p.owners p.entries label kept.rowed has;
  owned = kept.owned;
  count = kept.count;
  each = no_row p.entries (entry label (row_of p.owners label)) clients rows none kept.each;
}

pub kept_noted : (clients client spare : ℕ) (p : LogView) (rows : List RowView) (label : Label) → AreKept clients p.entries p.owners rows → IsReady rows spare p.ready → MayNote clients client p label
    → AreKept clients (p.entries ++ entry label (row_now client p label) ∷ []) (owners_after client p.owners label) (rows_after rows label (row_now client p label) (length p.entries))
kept_noted clients client spare p rows (Call n q) kept ready may =
    let h = call_place clients client spare p rows may.2 ready in
    let new : owner_of (p.owners ++ client ∷ []) n ≡ Some client = owner_new p.owners n client may.0 in
    let r : RowView = called (row_at rows client) (length p.entries) in
    record {
      rowed = rowed_noted client p.owners p.entries (Call n q) may.0 kept.rowed;
      owned = owned_more clients client p.owners may.1 kept.owned;
      count = ap (λ row. length (rows_after rows (Call n q) row (length p.entries))) new ∙ length-set rows client r ∙ kept.count;
      each = subst (λ (row : Option ℕ). (c : ℕ) → c < clients → IsRowAt (p.entries ++ entry (Call n q) row ∷ []) (rows_after rows (Call n q) row (length p.entries)) c) (sym new)
          (one_row p.entries (entry (Call n q) (Some client)) clients client rows r refl h.is_client (call_adds n q client (length p.entries) (row_at rows client) h.row) kept.each);
    }
kept_noted clients client spare p rows (Answer n s i b) kept ready may = record {
  rowed = rowed_noted client p.owners p.entries (Answer n s i b) may.0 kept.rowed;
  owned = kept.owned;
  count = length_after rows n s i b (owner_of p.owners n) (length p.entries) ∙ kept.count;
  each = answer_rows clients p rows n s i b kept (owner_of p.owners n) (stands_in clients p rows n s i b kept may.1 (owner_of p.owners n) refl);
}
kept_noted clients client spare p rows other kept ready may = plain clients p rows other kept tt refl

still_ready : (rows : List RowView) (spare c d place : ℕ) → d < length rows → 0 < (row_at rows d).awaited → HasPlaces rows spare c → HasPlaces (set rows d (answered (row_at rows d) place)) spare c
still_ready rows spare c d place inside some h = record {
  is_client = subst (λ (n : ℕ). c < n) (sym (length-set rows d _)) h.is_client;
  row = at_row rows d (answered (row_at rows d) place) (λ j r. HasPlaces rows spare j → r.awaited + 2 ≤ r.room) inside
      (λ g. let e = g.row in omega arith) (λ j other g. g.row) c h;
  owner = h.owner;
}

answer_ready : (rows : List RowView) (spare : ℕ) (n : ℕ) (s : _) (i : ℕ) (b : List ℕ) (row : Option ℕ) (place : ℕ) → MayStand rows (Answer n s i b) row → (ready : Option ℕ) → IsReady rows spare ready
    → IsReady (rows_after rows (Answer n s i b) row place) spare ready
answer_ready rows spare n s i b row place may None all = tt
answer_ready rows spare n s i b None place may (Some c) all = all
answer_ready rows spare n s i b (Some d) place may (Some c) all = still_ready rows spare c d place may.0 may.1 all

-- the places of a call are there still, unless it came
pub ready_noted : (clients client spare : ℕ) (p : LogView) (rows : List RowView) (label : Label) → AreKept clients p.entries p.owners rows → IsReady rows spare p.ready → MayNote clients client p label
    → (spare' : ℕ) → (is_call label ≡ false → spare' ≡ spare) → IsReady (rows_after rows label (row_now client p label) (length p.entries)) spare' (ready_after p.ready label)
ready_noted clients client spare p rows (Call n q) kept ready may spare' same = tt
ready_noted clients client spare p rows (Answer n s i b) kept ready may spare' same =
    subst (λ (k : ℕ). IsReady (rows_after rows (Answer n s i b) (owner_of p.owners n) (length p.entries)) k p.ready) (sym (same refl))
    (answer_ready rows spare n s i b (owner_of p.owners n) (length p.entries) (stands_in clients p rows n s i b kept may.1 (owner_of p.owners n) refl) p.ready ready)
ready_noted clients client spare p rows _ kept ready may spare' same = subst (λ (k : ℕ). IsReady rows k p.ready) (sym (same refl)) ready

-- the same at what the code has
module _ (clients client spare : ℕ) (p : LogView) (rows : List RowView) (label : Label) (kept : AreKept clients p.entries p.owners rows) (ready : IsReady rows spare p.ready) (may : MayNote clients client p label)
    (owners : List ℕ) (row : Option ℕ) (owners_is : owners ≡ owners_after client p.owners label) (row_is : row ≡ row_of owners label) where
  row_is_now : row ≡ row_now client p label
  row_is_now = row_is ∙ ap (λ os. row_of os label) owners_is

  pub stands : MayStand rows label row
  stands = subst (MayStand rows label) (sym row_is_now) (may_stand clients client spare p rows label kept ready may)

  module _ (entries : List TraceEntry) (rows' : List RowView) (entries_is : entries ≡ p.entries ++ entry label row ∷ []) (rows_is : rows' ≡ rows_after rows label row (length p.entries)) where
    rows_now : rows' ≡ rows_after rows label (row_now client p label) (length p.entries)
    rows_now = rows_is ∙ ap (λ r. rows_after rows label r (length p.entries)) row_is_now

    pub keeps : AreKept clients entries owners rows'
    keeps =
        let e : entries ≡ p.entries ++ entry label (row_now client p label) ∷ [] = entries_is ∙ ap (λ r. p.entries ++ entry label r ∷ []) row_is_now in
        rw (e, owners_is, rows_now) (kept_noted clients client spare p rows label kept ready may)

    pub stays_ready : (spare' : ℕ) (next : Option ℕ) → next ≡ ready_after p.ready label → (is_call label ≡ false → spare' ≡ spare) → IsReady rows' spare' next
    stays_ready spare' next is same = rw (is, rows_now) (ready_noted clients client spare p rows label kept ready may spare' same)
