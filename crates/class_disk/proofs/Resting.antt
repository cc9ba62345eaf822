-- Between calls: where the machine below is settled and nothing that has ended waits there, the one above is settled.
use Rattle.std.proofs.Common.{◌≡◌, ◌<◌, ◌⊎◌, inl, inr, ℕ, zero, suc, ◌+◌, not, ◌||◌, Bool, true, false, List, [], ◌∷◌, refl, sym, ◌∙◌, ap, subst, arith, map, length, get_or, None}
use Rattle.std.specs.Prelude.{All, Contains, IsTrue, IsFalse, if◌then◌else◌}
use Rattle.class_disk.proofs.Common.{list_all, list_any, cases_Bool, length-map, IsPermutation-sym, length_permutation, Contains-permutation, All-nil, All-cons, All-head, All-tail, All-weaker, All-append, All-map, All-contains, Contains-append_left, Contains-append_right, Contains-get_or, Cancelled, DeviceBusy, NoSuchDevice, DeletePending, ClientRequest, Rules, Mark, Untouched, Out, Done, Failed, Back, OpenRequest, State, IsSame, IsEarned, HasEarned, IsLike, HasAlike, is_started, is_untouched, is_unsent, HasEnded, HasPlaces, HavePlaces, AwaitsRestartIfEnded, AwaitsRestart, out_ends_not, untouched_ends_not, none_there, below_rules, IsSound, IsMadeUp, AgreesOnCancel, IsCancelledAs, AreParts, Keeps}
use Rattle.machine.specs.Settled.{Settled, HasGone, IsHeld, WaitsIfCancelled, Waits, IsAllSent, IsHeldBack, IsFull, HasMore, IsAtWork, IsWithin, started_count, is_out, has_out, has_unsent}
use Rattle.class_disk.specs.inside.Joint.{Part, Below, Here, Divided, Joint, shown_mark, parts_requests, parts_marks, requests_below, pieces_below, pieces_above, shown, below, above}
use Rattle.class_disk.proofs.CoupledMarks.{started_part, same_tags, tag_of}
use Rattle.class_disk.proofs.CoupledSteps.{in_requests}
use Rattle.class_disk.proofs.CoupledRun.{Contains-map}
use Rattle.std.proofs.lemmas.List.{nil_from_length}

-- A REQUEST BELOW, WHERE NOTHING THAT HAS ENDED WAITS

abbrev pub Is : Mark → Mark → Type 0
Is like mark = mark ≡ like

-- it waits as a whole, neither cancelled nor removed, or is out as a whole
pub record WaitsBelow (s : State) (o : OpenRequest) : Type 0 where
  pub marks : All (Is Untouched) o.marks
  pub timely : IsFalse o.cancelled
  pub staying : IsFalse s.removing

module _ (rules : Rules) (one : rules.busy_limit ≡ 1) (whole : IsTrue rules.one_piece) (s : State) (o : OpenRequest)
    (unfinished : AwaitsRestartIfEnded rules s o) (earned : HasEarned o) where
  -- one that goes as a whole awaits no restart
  ends_not : All (HasEnded rules s o) o.marks → ⊥
  ends_not ended = let awaits = unfinished ended in cc (awaits.in_pieces, whole)

  all_end : (like : Mark) → HasEnded rules s o like → All (Is like) o.marks → ⊥
  all_end like ended all = ends_not (All-weaker (Is like) (HasEnded rules s o) (λ m is. subst (HasEnded rules s o) (sym is) ended) o.marks all)

  waits_case : All (Is Untouched) o.marks → (c r : Bool) → o.cancelled ≡ c → s.removing ≡ r → WaitsBelow s o
  waits_case all false false c r = record { marks = all; timely = c; staying = r }
  waits_case all true r c d = absurd (all_end Untouched (inr (Cancelled, inl (c, refl))) all)
  waits_case all false true c d = absurd (all_end Untouched (inr ((if o.late then DeletePending else NoSuchDevice), inr (d, refl))) all)

  back_ended : (marks : List Mark) → All (Is Back) marks → All (IsEarned o) marks → All (HasEnded rules s o) marks
  back_ended [] all e = All-nil (HasEnded rules s o)
  back_ended (m ∷ marks) all e =
      let is : m ≡ Back = All-head (Is Back) m marks all in
      let busy : 0 < o.busy_returns = subst (IsEarned o) is (All-head (IsEarned o) m marks e) in
      All-cons (HasEnded rules s o) m marks (subst (HasEnded rules s o) (sym is) (inr (DeviceBusy, inr (let n = one in omega arith, refl))))
      (back_ended marks (All-tail (Is Back) m marks all) (All-tail (IsEarned o) m marks e))

  at_rest_by : (like : Mark) → All (IsLike like) o.marks → WaitsBelow s o ⊎ All (Is Out) o.marks
  at_rest_by Untouched all = inl (waits_case all o.cancelled s.removing refl refl)
  at_rest_by Out all = inr all
  at_rest_by (Done sector) all = absurd (ends_not (All-weaker (IsLike (Done sector)) (HasEnded rules s o) (λ m is. inl is) o.marks all))
  at_rest_by (Failed status) all = absurd (all_end (Failed status) (inr (status, refl)) all)
  at_rest_by Back all = absurd (ends_not (back_ended o.marks all earned))

  pub at_rest : HasAlike o → WaitsBelow s o ⊎ All (Is Out) o.marks
  at_rest (like, all) = at_rest_by like all

-- MARKS OF A PART AMONG THOSE OF ITS REQUEST

first_there : (marks : List Mark) (like : Mark) → 0 < length marks → All (Is like) marks → Contains marks like
first_there [] like some all = absurd (omega arith)
first_there (m ∷ marks) like some all = (0, omega arith, All-head (Is like) m marks all)

mark_there : (parts : List Part) (o : OpenRequest) (m : Mark) → Contains (parts_requests parts) o → Contains o.marks m → (again : ℕ) × Contains (parts_marks parts) (shown_mark again m)
mark_there [] o m c h = absurd (let w = c.1 in omega arith)
mark_there (Below p again ps ∷ parts) o m (zero, low, is) h = (again, Contains-append_left _ (parts_marks parts) _ (Contains-map (shown_mark again) p.marks m (subst (λ (x : OpenRequest). Contains x.marks m) (sym is) h)))
mark_there (Below p again ps ∷ parts) o m (suc k, low, is) h =
    let r = mark_there parts o m (k, omega arith, is) h in
    (r.0, Contains-append_right (map (shown_mark again) p.marks) _ _ r.1)
mark_there (Here marks busy ∷ parts) o m c h = let r = mark_there parts o m c h in (r.0, Contains-append_right marks _ _ r.1)

any_there : (p : Mark → Bool) (marks : List Mark) (m : Mark) → Contains marks m → IsTrue (p m) → IsTrue (list_any p marks)
any_there p [] m c h = absurd (let w = c.1 in omega arith)
any_there p (x ∷ marks) m (zero, low, is) h = let e : p x ≡ true = ap p is ∙ h in rw e refl
any_there p (x ∷ marks) m (suc k, low, is) h = or_right (p x) _ (any_there p marks m (k, omega arith, is) h)
  where
    or_right : (a b : Bool) → IsTrue b → IsTrue (a || b)
    or_right true b h = refl
    or_right false b h = h

out_stays : (again : ℕ) → shown_mark again Out ≡ Out
out_stays zero = refl
out_stays (suc n) = refl

unsent_stays : (again : ℕ) → IsTrue (is_unsent (shown_mark again Untouched))
unsent_stays zero = refl
unsent_stays (suc n) = refl

all_out_shown : (rules : Rules) (o' : OpenRequest) (again : ℕ) (marks : List Mark) → All (Is Out) marks → All (HasGone rules o') (map (shown_mark again) marks)
all_out_shown rules o' again marks all = All-map (HasGone rules o') (shown_mark again) marks (All-weaker (Is Out) (λ m. HasGone rules o' (shown_mark again m)) (λ m is. subst (λ x. HasGone rules o' (shown_mark again x)) (sym is) (subst (HasGone rules o') (sym (out_stays again)) tt)) marks all)

pub untouched_all : (marks : List Mark) → All (Is Untouched) marks → list_all is_untouched marks ≡ true
untouched_all [] all = refl
untouched_all (m ∷ marks) all = let e : m ≡ Untouched = All-head (Is Untouched) m marks all in rw e (untouched_all marks (All-tail (Is Untouched) m marks all))

-- a place here that has ended will not be sent, if its request is neither cancelled nor removed
ended_gone : (rules : Rules) (t : State) (o : OpenRequest) (m : Mark) → IsFalse o.cancelled → IsFalse t.removing → HasEnded rules t o m → HasGone rules o m
ended_gone rules t o Untouched timely staying (inl done) = cc (done)
ended_gone rules t o Untouched timely staying (inr (status, inl (cancelled, is))) = cc (timely, cancelled)
ended_gone rules t o Untouched timely staying (inr (status, inr (removing, is))) = cc (staying, removing)
ended_gone rules t o Back timely staying (inl done) = cc (done)
ended_gone rules t o Back timely staying (inr (status, inl (inl (cancelled, is)))) = cc (timely, cancelled)
ended_gone rules t o Back timely staying (inr (status, inl (inr (removing, is)))) = cc (staying, removing)
ended_gone rules t o Back timely staying (inr (status, inr (often, is))) = often
ended_gone rules t o Out timely staying h = tt
ended_gone rules t o (Done sector) timely staying h = tt
ended_gone rules t o (Failed status) timely staying h = tt

-- a part below is not late
pub part_timely : (rules : Rules) (q : ClientRequest) (first : ℕ) (parts : List Part) (o : OpenRequest) → AreParts rules q first parts → Contains (parts_requests parts) o → o.late ≡ false
part_timely rules q first [] o h c = absurd (let w = c.1 in omega arith)
part_timely rules q first (Below p again ps ∷ parts) o h (zero, low, is) = subst (λ (x : OpenRequest). x.late ≡ false) is h.0.timely
part_timely rules q first (Below p again ps ∷ parts) o h (suc k, low, is) = part_timely rules q (first + length p.marks) parts o h.2 (k, omega arith, is)
part_timely rules q first (Here marks busy ∷ parts) o h c = part_timely rules q (first + length marks) parts o h c

-- THE LAYER BETWEEN CALLS

-- each place that is here has ended
abbrev pub HasEndedHere : Rules → State → OpenRequest → Part → Type 0
HasEndedHere rules t owner (Below o again ps) = Unit {0}
HasEndedHere rules t owner (Here marks busy) = All (HasEnded rules t owner) marks

abbrev pub AreEndedHere : Rules → State → Divided → Type 0
AreEndedHere rules t e = All (HasEndedHere rules t (shown e)) e.parts

-- some part of the request is below
pub record HasBelow (e : Divided) : Type 0 where
  pub part : OpenRequest
  pub there : Contains (parts_requests e.parts) part

module _ (rules : Rules) (no_window : rules.window ≡ None) (j : Joint) (s : State) (same : IsSame (below j) s) (sound : IsSound s) (places : HavePlaces s) (k : Keeps rules j)
    (unfinished : All (AwaitsRestartIfEnded (below_rules rules) s) s.requests) (settled : Settled (below_rules rules) s) (ended : All (AreEndedHere rules (above j)) j.divided) where
  module _ (e : Divided) (c : Contains j.divided e) where
    open_below : (o : OpenRequest) → Contains (parts_requests e.parts) o → Contains s.requests o
    open_below o there = Contains-permutation _ _ o same.requests (in_requests e o j.divided c there)

    rests : (o : OpenRequest) → Contains (parts_requests e.parts) o → WaitsBelow s o ⊎ All (Is Out) o.marks
    rests o there =
        let oS = open_below o there in
        at_rest (below_rules rules) refl refl s o (All-contains (AwaitsRestartIfEnded (below_rules rules) s) s.requests o unfinished oS)
        (All-contains HasEarned s.requests o sound.earned oS) (All-contains HasAlike s.requests o sound.whole.alike oS)

    some_place : (o : OpenRequest) → Contains (parts_requests e.parts) o → HasPlaces o
    some_place o there = All-contains HasPlaces s.requests o places (open_below o there)

    agrees : (o : OpenRequest) → Contains (parts_requests e.parts) o → o.cancelled ≡ e.cancelled
    agrees o there = All-contains (IsCancelledAs e.cancelled) _ o (All-contains AgreesOnCancel j.divided e k.agree c) there

    out_if : (o : OpenRequest) → Contains (parts_requests e.parts) o → IsTrue (has_out o) → IsTrue (has_out (shown e))
    out_if o there h = by (rests o there)
      where
        by : WaitsBelow s o ⊎ All (Is Out) o.marks → IsTrue (has_out (shown e))
        by (inl waits) = absurd (none o.marks waits.marks h)
          where
            none : (marks : List Mark) → All (Is Untouched) marks → IsTrue (list_any is_out marks) → ⊥
            none [] all any = cc (any)
            none (m ∷ marks) all any = let is : m ≡ Untouched = All-head (Is Untouched) m marks all in none marks (All-tail (Is Untouched) m marks all) (rw is at any)
        by (inr out) =
            let m = mark_there e.parts o Out there (first_there o.marks Out (some_place o there) out) in
            any_there is_out (parts_marks e.parts) Out (subst (Contains (parts_marks e.parts)) (out_stays m.0) m.1) refl

    -- with a tag free and nothing removing, a part below is out
    all_out : length s.pieces < rules.depth → IsFalse s.removing → (o : OpenRequest) → Contains (parts_requests e.parts) o → All (Is Out) o.marks
    all_out free staying o there = by (rests o there)
      where
        by : WaitsBelow s o ⊎ All (Is Out) o.marks → All (Is Out) o.marks
        by (inr out) = out
        by (inl waits) = absurd (held (All-contains (IsHeldBack (below_rules rules) s) s.requests o (settled.released free staying) (open_below o there) (ap not (untouched_all o.marks waits.marks))))
          where
            held : IsTrue o.late ⊎ IsFull rules.window (started_count s) → ⊥
            held (inl late) = let timely : o.late ≡ false = part_timely rules e.request 0 e.parts o (All-contains (IsMadeUp rules) j.divided e k.made_up c) there in cc (late, timely)
            held (inr full) = subst (λ w. IsFull w (started_count s)) no_window full

    ended_here : AreEndedHere rules (above j) e
    ended_here = All-contains (AreEndedHere rules (above j)) j.divided e ended c

    -- and no place of the request waits, unless it is cancelled
    pub gone : length s.pieces < rules.depth → IsFalse s.removing → IsFalse e.cancelled → All (HasGone rules (shown e)) (parts_marks e.parts)
    gone free staying timely = of_parts e.parts (λ o there. all_out free staying o there) ended_here
      where
        of_parts : (parts : List Part) → ((o : OpenRequest) → Contains (parts_requests parts) o → All (Is Out) o.marks) → All (HasEndedHere rules (above j) (shown e)) parts → All (HasGone rules (shown e)) (parts_marks parts)
        of_parts [] out over = All-nil (HasGone rules (shown e))
        of_parts (Below o again ps ∷ parts) out over =
            All-append (HasGone rules (shown e)) (map (shown_mark again) o.marks) (parts_marks parts)
            (all_out_shown rules (shown e) again o.marks (out o (0, omega arith, refl)))
            (of_parts parts (λ x (n, low, is). out x (suc n, omega arith, is)) (All-tail (HasEndedHere rules (above j) (shown e)) (Below o again ps) parts over))
        of_parts (Here marks busy ∷ parts) out over =
            All-append (HasGone rules (shown e)) marks (parts_marks parts)
            (All-weaker (HasEnded rules (above j) (shown e)) (HasGone rules (shown e)) (λ m. ended_gone rules (above j) (shown e) m timely (same.removing ∙ staying)) marks (All-head (HasEndedHere rules (above j) (shown e)) (Here marks busy) parts over))
            (of_parts parts out (All-tail (HasEndedHere rules (above j) (shown e)) (Here marks busy) parts over))

    -- a part that is out makes its request started
    started_by : (o : OpenRequest) → Contains (parts_requests e.parts) o → All (Is Out) o.marks → IsTrue (is_started (shown e))
    started_by o there out = started_part e o there (by (list_all is_untouched o.marks) refl)
      where
        by : (b : Bool) → list_all is_untouched o.marks ≡ b → IsTrue (not b)
        by false is = refl
        by true is = absurd (none o.marks (some_place o there) out is)
          where
            none : (marks : List Mark) → 0 < length marks → All (Is Out) marks → list_all is_untouched marks ≡ true → ⊥
            none [] some all h = omega arith
            none (m ∷ marks) some all h = let is : m ≡ Out = All-head (Is Out) m marks all in cc (rw is at h)

    -- a part below waits, or is out
    more : (o : OpenRequest) → Contains (parts_requests e.parts) o → IsTrue (has_out (shown e)) ⊎ IsTrue (has_unsent (shown e))
    more o there = by (rests o there)
      where
        by : WaitsBelow s o ⊎ All (Is Out) o.marks → IsTrue (has_out (shown e)) ⊎ IsTrue (has_unsent (shown e))
        by (inl waits) =
            let m = mark_there e.parts o Untouched there (first_there o.marks Untouched (some_place o there) waits.marks) in
            inr (any_there is_unsent (parts_marks e.parts) (shown_mark m.0 Untouched) m.1 (unsent_stays m.0))
        by (inr out) = inl (out_if o there (first_out o there out))
          where
            first_out : (o : OpenRequest) → Contains (parts_requests e.parts) o → All (Is Out) o.marks → IsTrue (has_out o)
            first_out o there out = any_there is_out o.marks Out (first_there o.marks Out (some_place o there) out) refl

    pub out_of : (o : OpenRequest) → Contains (parts_requests e.parts) o → All (Is Out) o.marks → IsTrue (has_out (shown e))
    out_of o there out = out_if o there (any_there is_out o.marks Out (first_there o.marks Out (some_place o there) out) refl)

    -- where all places of the request have ended, a part that is below was sent before, and awaits its restart
    awaits : IsFalse rules.one_piece → (o : OpenRequest) → Contains (parts_requests e.parts) o
        → All (HasEnded rules (above j) (shown e)) (parts_marks e.parts) → AwaitsRestart rules (above j) (shown e)
    awaits in_pieces o there over = by (rests o there)
      where
        has_ended : (m : Mark) → Contains (parts_marks e.parts) m → HasEnded rules (above j) (shown e) m
        has_ended m at = All-contains (HasEnded rules (above j) (shown e)) (parts_marks e.parts) m over at

        by : WaitsBelow s o ⊎ All (Is Out) o.marks → AwaitsRestart rules (above j) (shown e)
        by (inr out) =
            let m = mark_there e.parts o Out there (first_there o.marks Out (some_place o there) out) in
            absurd (out_ends_not rules (above j) (shown e) (subst (HasEnded rules (above j) (shown e)) (out_stays m.0) (has_ended (shown_mark m.0 Out) m.1)))
        by (inl waits) =
            let m = mark_there e.parts o Untouched there (first_there o.marks Untouched (some_place o there) waits.marks) in
            waiting m.0 m.1
          where
            timely : IsFalse e.cancelled
            timely = sym (agrees o there) ∙ waits.timely

            staying : IsFalse j.removing
            staying = same.removing ∙ waits.staying

            waiting : (again : ℕ) → Contains (parts_marks e.parts) (shown_mark again Untouched) → AwaitsRestart rules (above j) (shown e)
            waiting zero at = absurd (untouched_ends_not rules (above j) (shown e) timely staying (has_ended Untouched at))
            waiting (suc n) (i, low, is) = record {
              in_pieces = in_pieces;
              not_cancelled = timely;
              not_removing = staying;
              back = (i, Back, low, is, refl);
            }

  -- as many pieces
  pub same_count : length (pieces_above j.divided) ≡ length s.pieces
  same_count =
      sym (length-map (pieces_above j.divided) tag_of) ∙ ap length (same_tags j.divided) ∙ length-map (pieces_below j.divided) tag_of ∙ sym (length_permutation _ _ same.pieces)

  of_divided : (P : OpenRequest → Type 0) → ((e : Divided) → Contains j.divided e → P (shown e)) → All P (map shown j.divided)
  of_divided P each = All-map P shown j.divided (λ n d low. each (get_or j.divided n d) (Contains-get_or j.divided n d low))

  -- a request with a part below has not ended, unless that part awaits its restart
  pub unfinished_above : IsFalse rules.one_piece → All HasBelow j.divided → All (AwaitsRestartIfEnded rules (above j)) (map shown j.divided)
  unfinished_above in_pieces has = of_divided (AwaitsRestartIfEnded rules (above j)) (λ e c over.
      let p = All-contains HasBelow j.divided e has c in
      awaits e c in_pieces p.part p.there over)

  -- with a tag free nothing waits that may go
  pub all_sent : length s.pieces < rules.depth → IsFalse s.removing → All (IsAllSent rules) (map shown j.divided)
  all_sent free staying = of_divided (IsAllSent rules) (λ e c timely started. gone e c free staying timely)

  -- where each request has a part below, the machine above is settled
  pub settled_above : All HasBelow j.divided → Settled rules (above j)
  settled_above has =
      let part = λ (e : Divided) (c : Contains j.divided e). All-contains HasBelow j.divided e has c in
      let none_open : pieces_above j.divided ≡ [] → map shown j.divided ≡ [] = λ none. no_divided j.divided has (
      let empty : s.pieces ≡ [] = nil_from_length s.pieces (sym same_count ∙ ap length none) in
      none_there s.requests (requests_below j.divided) (settled.idle_unpaused empty (sym same.paused)) (IsPermutation-sym _ _ same.requests)) in
      record {
        none_owed = refl;
        idle = λ none. subst (All IsHeld) (sym (none_open none)) (All-nil IsHeld);
        idle_unpaused = λ none paused. none_open none;
        cancelled = of_divided WaitsIfCancelled (λ e c cancelled. let p = part e c in
            out_if e c p.part p.there (All-contains WaitsIfCancelled s.requests p.part settled.cancelled (open_below e c p.part p.there) (agrees e c p.part p.there ∙ cancelled)));
        removing = λ removing. of_divided Waits (λ e c. let p = part e c in
            out_if e c p.part p.there (All-contains Waits s.requests p.part (settled.removing (sym same.removing ∙ removing)) (open_below e c p.part p.there)));
        sent = λ free staying. all_sent (let n = same_count in omega arith) (sym same.removing ∙ staying);
        released = λ free staying. of_divided (IsHeldBack rules (above j)) (λ e c still. let p = part e c in
            absurd (let started = started_by e c p.part p.there (all_out e c (let n = same_count in omega arith) (sym same.removing ∙ staying) p.part p.there) in cc (started, still)));
        alive = of_divided HasMore (λ e c started. let p = part e c in more e c p.part p.there);
        at_work = λ free. of_divided IsAtWork (λ e c started. let p = part e c in
            at_work_by e c p.part p.there (let n = same_count in omega arith) (cases_Bool s.removing));
        within_window = subst (λ w. IsWithin w (started_count (above j))) (sym no_window) tt;
      }
    where
      no_divided : (es : List Divided) → All HasBelow es → requests_below es ≡ [] → map shown es ≡ []
      no_divided [] has none = refl
      no_divided (e ∷ es) has none = absurd (let p = All-head HasBelow e es has in let c : Contains (requests_below (e ∷ es)) p.part = Contains-append_left _ (requests_below es) p.part p.there in let w = c.1 in let l = ap (λ (os : List OpenRequest). length os) none in omega arith)

      at_work_by : (e : Divided) (c : Contains j.divided e) (o : OpenRequest) → Contains (parts_requests e.parts) o → length s.pieces < rules.depth → IsTrue s.removing ⊎ IsFalse s.removing → IsTrue (has_out (shown e))
      at_work_by e c o there free (inl removing) = out_if e c o there (All-contains Waits s.requests o (settled.removing removing) (open_below e c o there))
      at_work_by e c o there free (inr staying) = out_of e c o there (all_out e c free staying o there)
