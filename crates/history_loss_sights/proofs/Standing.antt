-- A register that stands for a sector behind some events.
use Rattle.std.proofs.Common.{◌≡◌, ◌<◌, ◌⊎◌, inl, inr, ℕ, zero, suc, ◌==◌, ◌&&◌, Bool, true, false, cond, not, List, [], ◌∷◌, ◌++◌, Some, refl, sym, ◌∙◌, ap, subst, arith, map}
use Rattle.std.specs.Prelude.{All, Contains}
use Rattle.std.specs.List.{filter}
use Rattle.std.proofs.lemmas.Bool.{eqb-true}
use Rattle.std.proofs.lemmas.List.Elements.{All-head, All-tail, All-cons, All-nil}
use Rattle.srb.specs.declared.Kind.{Kind}
use Rattle.srb.specs.declared.Kind.TheVariants.{Read, Write, Flush}
use Rattle.machine.specs.declared.ClientRequest.{ClientRequest}
use Rattle.machine.specs.declared.Label.TheVariants.{Call}
use Rattle.machine.specs.Rules.{Rules, place_count}
use Rattle.machine_laws.specs.Sectors.{part_of}
use Rattle.loss.specs.Held.{Change, Held, IsOneOf, changed}
use Rattle.loss.specs.Sessions.{Line, Told}
use Rattle.loss.specs.Laws.{value_for}
use Rattle.history_loss.specs.Schedules.{Event, Seen, Effect, Fails, IsAt, IsNoAnswer, IsNoEffect, IsNoFailure, next_number}
use Rattle.register_loss.specs.declared.What.{What}
use Rattle.register_loss.specs.declared.What.TheVariants.{Read as Reads, Write as Writes, Flush as Flushes, Sync}
use Rattle.register_loss.specs.declared.Open.{Open}
use Rattle.register_loss.specs.Schedules.{Register, is_given, is_sync, is_unmet, is_write, settled, unmet}
use Rattle.history_loss_sights.specs.Sights.{success_of, syncs}
use Rattle.history_loss_sights.proofs.Coding.{coded, coded_change, coded_changed}

-- LISTS

pub further : {X : Type 0} (y : X) (xs : List X) (x : X) → Contains xs x → Contains (y ∷ xs) x
further y xs x (k, low, is) = (suc k, omega arith, is)

pub newest : {X : Type 0} (x : X) (xs : List X) → Contains (x ∷ xs) x
newest x xs = (0, omega arith, refl)

pub first_or_behind : {X : Type 0} (y : X) (xs : List X) (x : X) → Contains (y ∷ xs) x → (y ≡ x) ⊎ Contains xs x
first_or_behind y xs x (zero, low, is) = inl is
first_or_behind y xs x (suc k, low, is) = inr (k, omega arith, is)

pub behind : {X : Type 0} (y : X) (xs : List X) (x : X) → (y ≡ x → ⊥) → Contains (y ∷ xs) x → Contains xs x
behind y xs x other h = elim (first_or_behind y xs x h) [ inl e ↦ absurd (other e) | inr there ↦ there ]

pub one_left : {X : Type 0} (x : X) (xs ys : List X) → IsOneOf x xs → IsOneOf x (xs ++ ys)
one_left x [] ys h = absurd h
one_left x (y ∷ xs) ys (inl e) = inl e
one_left x (y ∷ xs) ys (inr h) = inr (one_left x xs ys h)

pub one_right : {X : Type 0} (x : X) (xs ys : List X) → IsOneOf x ys → IsOneOf x (xs ++ ys)
one_right x [] ys h = h
one_right x (y ∷ xs) ys h = inr (one_right x xs ys h)

pub one_either : {X : Type 0} (x : X) (xs ys : List X) → IsOneOf x (xs ++ ys) → IsOneOf x xs ⊎ IsOneOf x ys
one_either x [] ys h = inr h
one_either x (y ∷ xs) ys (inl e) = inl (inl e)
one_either x (y ∷ xs) ys (inr h) = elim (one_either x xs ys h) [ inl a ↦ inl (inr a) | inr b ↦ inr b ]

pub of_map : {X Y : Type 0} (f : X → Y) (y : Y) (xs : List X) → IsOneOf y (map f xs) → (x : X) × IsOneOf x xs × (y ≡ f x)
of_map f y [] h = absurd h
of_map f y (x ∷ xs) (inl e) = (x, inl refl, e)
of_map f y (x ∷ xs) (inr h) = let found : (z : _) × IsOneOf z xs × (y ≡ f z) = of_map f y xs h in (found.0, inr found.1, found.2)

filter_by : {X : Type 0} (p : X → Bool) (x y : X) (rest : List X) (xs : List X) (b : Bool) → p y ≡ b → (IsOneOf x rest → IsOneOf x xs × (p x ≡ true)) → IsOneOf x (cond b (y ∷ rest) rest) → IsOneOf x (y ∷ xs) × (p x ≡ true)
filter_by p x y rest xs true e back (inl same) = (inl same, ap p same ∙ e)
filter_by p x y rest xs true e back (inr h) = let found : IsOneOf x xs × (p x ≡ true) = back h in (inr found.0, found.1)
filter_by p x y rest xs false e back h = let found : IsOneOf x xs × (p x ≡ true) = back h in (inr found.0, found.1)

pub of_filter : {X : Type 0} (p : X → Bool) (x : X) (xs : List X) → IsOneOf x (filter p xs) → IsOneOf x xs × (p x ≡ true)
of_filter p x [] h = absurd h
of_filter p x (y ∷ xs) h = filter_by p x y (filter p xs) xs (p y) refl (of_filter p x xs) h

kept_by : {X : Type 0} (x y : X) (rest : List X) (b : Bool) → IsOneOf x rest → IsOneOf x (cond b (y ∷ rest) rest)
kept_by x y rest true h = inr h
kept_by x y rest false h = h

first_by : {X : Type 0} (x y : X) (rest : List X) (b : Bool) → b ≡ true → x ≡ y → IsOneOf x (cond b (y ∷ rest) rest)
first_by x y rest true e same = inl same
first_by x y rest false e same = absurd (cc (e))

pub in_filter : {X : Type 0} (p : X → Bool) (x : X) (xs : List X) → IsOneOf x xs → p x ≡ true → IsOneOf x (filter p xs)
in_filter p x [] h e = absurd h
in_filter p x (y ∷ xs) (inl same) e = first_by x y (filter p xs) (p y) (sym (ap p same) ∙ e) same
in_filter p x (y ∷ xs) (inr h) e = kept_by x y (filter p xs) (p y) (in_filter p x xs h e)

pub not_true : (b : Bool) → not b ≡ true → b ≡ false
not_true true e = absurd (cc (e))
not_true false e = refl

pub not_of : (b : Bool) → b ≡ false → not b ≡ true
not_of true e = absurd (cc (e))
not_of false e = refl

pub and_false : (a b : Bool) → b ≡ false → (a && b) ≡ false
and_false true b e = e
and_false false b e = refl

pub differ_false : (a b : ℕ) → (a ≡ b → ⊥) → (a == b) ≡ false
differ_false a b other = by (a == b) refl
  where
    by : (t : Bool) → (a == b) ≡ t → t ≡ false
    by true e = absurd (other (eqb-true a b e))
    by false e = refl

-- a sync is no write, and is given no value
pub sync_parts : (through : Bool) (kind : Kind) (what : What) → IsOneOf what (syncs through kind) → (is_write what ≡ false) × ((now : List ℕ) → is_given now what ≡ false) × (is_sync what ≡ true)
sync_parts through Read what h = absurd h
sync_parts true Write what (inl e) = subst (λ w. (is_write w ≡ false) × ((now : List ℕ) → is_given now w ≡ false) × (is_sync w ≡ true)) (sym e) (refl, λ now. refl, refl)
sync_parts true Write what (inr none) = absurd none
sync_parts false Write what h = absurd h
sync_parts through Flush what (inl e) = subst (λ w. (is_write w ≡ false) × ((now : List ℕ) → is_given now w ≡ false) × (is_sync w ≡ true)) (sym e) (refl, λ now. refl, refl)
sync_parts through Flush what (inr none) = absurd none

-- EVENTS SO FAR

abbrev pub Called : List Event → ℕ → ClientRequest → Type 0
Called past n q = Contains past (Seen (Told (Call n q)))

-- each number is of one call
pub record IsTidy (past : List Event) : Type 0 where
  pub below : (n : ℕ) (q : ClientRequest) → Called past n q → n < next_number past
  pub one : (n : ℕ) (q r : ClientRequest) → Called past n q → Called past n r → q ≡ r
  pub effects : (n : ℕ) (sector : List ℕ) → Contains past (Effect n sector) → n < next_number past

abbrev pub IsNoCall : Event → Type 0
IsNoCall e = (n : ℕ) (q : ClientRequest) → e ≡ Seen (Told (Call n q)) → ⊥

pub tidy_more : (e : Event) (past : List Event) → IsNoCall e → ((n : ℕ) (sector : List ℕ) → e ≡ Effect n sector → n < next_number past) → next_number (e ∷ past) ≡ next_number past → IsTidy past → IsTidy (e ∷ past)
tidy_more e past none low same t = record {
  below = λ n q h. subst (λ m. n < m) (sym same) (t.below n q (behind e past (Seen (Told (Call n q))) (none n q) h));
  one = λ n q r h h'. t.one n q r (behind e past (Seen (Told (Call n q))) (none n q) h) (behind e past (Seen (Told (Call n r))) (none n r) h');
  effects = λ n sector h. subst (λ m. n < m) (sym same) (elim (first_or_behind e past (Effect n sector) h) [ inl is ↦ low n sector is | inr before ↦ t.effects n sector before ]);
}

pub none_yet : (n : ℕ) (past : List Event) → ((sector : List ℕ) → Contains past (Effect n sector) → ⊥) → All (IsNoEffect n) past
none_yet n [] h = All-nil (IsNoEffect n)
none_yet n (Seen line ∷ past) h = All-cons (IsNoEffect n) (Seen line) past tt (none_yet n past (λ sector there. h sector (further (Seen line) past (Effect n sector) there)))
none_yet n (Fails m place ∷ past) h = All-cons (IsNoEffect n) (Fails m place) past tt (none_yet n past (λ sector there. h sector (further (Fails m place) past (Effect n sector) there)))
none_yet n (Effect m sector ∷ past) h =
    All-cons (IsNoEffect n) (Effect m sector) past (λ same. h sector (subst (λ k. Contains (Effect m sector ∷ past) (Effect k sector)) same (newest (Effect m sector) past)))
    (none_yet n past (λ other there. h other (further (Effect m sector) past (Effect n other) there)))

-- WHAT WAITS

module _ (code : List ℕ → ℕ) (rules : Rules) (i : ℕ) where
  pub record IsWrite (past : List Event) (n : ℕ) : Type 0 where
    pub request : ClientRequest
    pub place : ℕ
    pub called : Called past n request
    pub kind : request.kind ≡ Write
    pub at : IsAt rules i request place
    pub none : All (IsNoEffect n) past

  pub record IsRead (past : List Event) (lines : List Line) (n v : ℕ) : Type 0 where
    pub request : ClientRequest
    pub place : ℕ
    pub called : Called past n request
    pub kind : request.kind ≡ Read
    pub at : IsAt rules i request place
    pub answer : All (IsNoAnswer n) past → (bytes : List ℕ) × (success_of n lines ≡ Some bytes) × (v ≡ code (part_of rules bytes place))
    pub none : (sector : List ℕ) → Contains past (Effect n sector) → code sector ≡ v → ⊥

  abbrev pub HasFailed : List Event → ℕ → ClientRequest → Type 0
  HasFailed past n q = (place : ℕ) × (place < place_count rules q) × (All (IsNoFailure n place) past → ⊥)

  pub record IsSynced (past : List Event) (n : ℕ) (failed : Bool) (what : What) : Type 0 where
    pub request : ClientRequest
    pub called : Called past n request
    pub sync : IsOneOf what (syncs request.through request.kind)
    pub failing : failed ≡ true → HasFailed past n request

  abbrev pub IsKnown : List Event → List Line → ℕ → Bool → What → Type 0
  IsKnown past lines n failed (Writes v through) = IsWrite past n
  IsKnown past lines n failed (Reads v) = IsRead past lines n v
  IsKnown past lines n failed Flushes = IsSynced past n failed Flushes
  IsKnown past lines n failed Sync = IsSynced past n failed Sync

  abbrev pub write_of : ℕ → ClientRequest → ℕ → Open
  write_of n q place = record { number = n; what = Writes (code (value_for rules q place)) q.through; failed = false }

  abbrev pub HasSync : ℕ → What → List Open → Type 0
  HasSync n what waits = (failed : Bool) × IsOneOf (record { number = n; what = what; failed = failed }) waits

  -- but for writes of some numbers, of which none waits
  pub record IsTold (X : ℕ → Type 0) (past : List Event) (h : Held) (lines : List Line) (r : Register) : Type 0 where
    pub next : r.next ≡ next_number past
    pub held : r.held ≡ coded code h
    pub greedy : (o : Open) → IsOneOf o r.waits → is_given r.held.now o.what ≡ false
    pub writes : (n : ℕ) (q : ClientRequest) (place : ℕ) → Called past n q → q.kind ≡ Write → IsAt rules i q place → All (IsNoAnswer n) past → All (IsNoEffect n) past → All (IsNoFailure n place) past → (X n → ⊥)
        → IsOneOf (write_of n q place) r.waits
    pub syncs : (n : ℕ) (q : ClientRequest) (what : What) → Called past n q → IsOneOf what (syncs q.through q.kind) → All (IsNoAnswer n) past → HasSync n what r.waits
    pub known : (o : Open) → IsOneOf o r.waits → IsKnown past lines o.number o.failed o.what
    pub away : (o : Open) → IsOneOf o r.waits → is_write o.what ≡ true → X o.number → ⊥

  abbrev pub Nobody : ℕ → Type 0
  Nobody n = ⊥

  synced_more : (e : Event) (past : List Event) (n : ℕ) (failed : Bool) (what : What) → IsSynced past n failed what → IsSynced (e ∷ past) n failed what
  synced_more e past n failed what k = record {
    request = k.request;
    called = further e past (Seen (Told (Call n k.request))) k.called;
    sync = k.sync;
    failing = λ f. let x : HasFailed past n k.request = k.failing f in (x.0, x.1, λ all. x.2 (All-tail (IsNoFailure n x.0) e past all));
  }

  -- an event that is neither call nor answer
  pub known_more : (e : Event) (past : List Event) (lines : List Line) (n : ℕ) (failed : Bool) (what : What) → (is_write what ≡ true → IsNoEffect n e)
      → ((v : ℕ) (sector : List ℕ) → what ≡ Reads v → e ≡ Effect n sector → code sector ≡ v → ⊥) → IsKnown past lines n failed what → IsKnown (e ∷ past) lines n failed what
  known_more e past lines n failed (Writes v t) no_effect no_read k = record {
    request = k.request;
    place = k.place;
    called = further e past (Seen (Told (Call n k.request))) k.called;
    kind = k.kind;
    at = k.at;
    none = All-cons (IsNoEffect n) e past (no_effect refl) k.none;
  }
  known_more e past lines n failed (Reads v) no_effect no_read k = record {
    request = k.request;
    place = k.place;
    called = further e past (Seen (Told (Call n k.request))) k.called;
    kind = k.kind;
    at = k.at;
    answer = λ all. k.answer (All-tail (IsNoAnswer n) e past all);
    none = λ sector there same. elim (first_or_behind e past (Effect n sector) there) [ inl is ↦ no_read v sector refl is same | inr before ↦ k.none sector before same ];
  }
  known_more e past lines n failed Flushes no_effect no_read k = synced_more e past n failed Flushes k
  known_more e past lines n failed Sync no_effect no_read k = synced_more e past n failed Sync k

  pub same_answer : (past : List Event) (lines lines' : List Line) (n : ℕ) (failed : Bool) (what : What) → success_of n lines' ≡ success_of n lines → IsKnown past lines n failed what → IsKnown past lines' n failed what
  same_answer past lines lines' n failed (Writes v t) same k = k
  same_answer past lines lines' n failed (Reads v) same k = record {
    request = k.request;
    place = k.place;
    called = k.called;
    kind = k.kind;
    at = k.at;
    answer = λ all. let x : (bytes : List ℕ) × (success_of n lines ≡ Some bytes) × (v ≡ code (part_of rules bytes k.place)) = k.answer all in (x.0, same ∙ x.1, x.2);
    none = k.none;
  }
  same_answer past lines lines' n failed Flushes same k = k
  same_answer past lines lines' n failed Sync same k = k

  -- AN EVENT THAT CHANGES NOTHING

  pub told_past : (X : ℕ → Type 0) (e : Event) (past : List Event) (h : Held) (lines lines' : List Line) (r : Register) → IsTold X past h lines r → IsNoCall e → next_number (e ∷ past) ≡ next_number past
      → ((m : ℕ) → success_of m lines' ≡ success_of m lines) → ((n : ℕ) → IsNoEffect n e → X n → ⊥) → ((o : Open) → IsOneOf o r.waits → is_write o.what ≡ true → IsNoEffect o.number e)
      → ((o : Open) → IsOneOf o r.waits → (v : ℕ) (sector : List ℕ) → o.what ≡ Reads v → e ≡ Effect o.number sector → code sector ≡ v → ⊥) → IsTold Nobody (e ∷ past) h lines' r
  told_past X e past h lines lines' r t no_call next same drop no_effect no_read = record {
    next = t.next ∙ sym next;
    held = t.held;
    greedy = t.greedy;
    writes = λ n q place called kind at awaits none sound out.
        t.writes n q place (behind e past (Seen (Told (Call n q))) (no_call n q) called) kind at (All-tail (IsNoAnswer n) e past awaits) (All-tail (IsNoEffect n) e past none) (All-tail (IsNoFailure n place) e past sound)
        (drop n (All-head (IsNoEffect n) e past none));
    syncs = λ n q what called sync awaits. t.syncs n q what (behind e past (Seen (Told (Call n q))) (no_call n q) called) sync (All-tail (IsNoAnswer n) e past awaits);
    known = λ o has. same_answer (e ∷ past) lines lines' o.number o.failed o.what (same o.number) (known_more e past lines o.number o.failed o.what (no_effect o has) (no_read o has) (t.known o has));
    away = λ o has w x. x;
  }

  -- A TURN

  pub told_settled : (X Y : ℕ → Type 0) (past : List Event) (h : Held) (lines : List Line) (r : Register) (waits : List Open) (change : Change) → IsTold X past h lines r
      → ((n : ℕ) (q : ClientRequest) (place : ℕ) → Called past n q → q.kind ≡ Write → IsAt rules i q place → All (IsNoAnswer n) past → All (IsNoEffect n) past → All (IsNoFailure n place) past → (Y n → ⊥)
      → IsOneOf (write_of n q place) waits)
      → ((n : ℕ) (q : ClientRequest) (what : What) → Called past n q → IsOneOf what (syncs q.through q.kind) → All (IsNoAnswer n) past → HasSync n what waits)
      → ((o : Open) → IsOneOf o waits → IsKnown past lines o.number o.failed o.what) → ((o : Open) → IsOneOf o waits → is_write o.what ≡ true → Y o.number → ⊥)
      → IsTold Y past (changed (next_number past) change h) lines (settled r.next (changed r.next (coded_change code change) r.held) waits)
  told_settled X Y past h lines r waits change t writes' syncs' known' away' = record {
    next = t.next;
    held = ap (λ n. changed n (coded_change code change) r.held) t.next ∙ ap (λ g. changed (next_number past) (coded_change code change) g) t.held ∙ coded_changed code (next_number past) change h;
    greedy = λ o has. not_true (is_given now' o.what) (of_filter (is_unmet now') o waits has).1;
    writes = λ n q place called kind at awaits none sound out. in_filter (is_unmet now') (write_of n q place) waits (writes' n q place called kind at awaits none sound out) refl;
    syncs = λ n q what called sync awaits. kept n what (sync_parts q.through q.kind what sync).1 (syncs' n q what called sync awaits);
    known = λ o has. known' o (of_filter (is_unmet now') o waits has).0;
    away = λ o has. away' o (of_filter (is_unmet now') o waits has).0;
  }
    where
      now' : List ℕ
      now' = (changed r.next (coded_change code change) r.held).now

      kept : (n : ℕ) (what : What) → ((now : List ℕ) → is_given now what ≡ false) → HasSync n what waits → HasSync n what (unmet now' waits)
      kept n what free (failed, has) = (failed, in_filter (is_unmet now') (record { number = n; what = what; failed = failed }) waits has (not_of (is_given now' what) (free now')))
