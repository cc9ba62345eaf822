-- What comes back below, told of the class driver: a part is noted, or goes down again in a new packet.
use Rattle.std.proofs.Common.{◌*◌, ◌≡◌, ◌<◌, ◌⊎◌, inl, inr, ℕ, zero, suc, ◌+◌, Bool, false, List, [], ◌∷◌, ◌++◌, refl, sym, ◌∙◌, ap, subst, arith, map, length, get_or, None, replicate}
use Rattle.std.specs.Prelude.{IsPermutation, All, Contains, IsTrue, IsFalse}
use Rattle.class_disk.proofs.Common.{map-append, length-replicate, IsPermutation-sym, IsPermutation-trans, IsPermutation-cons, IsPermutation-middle, IsPermutation-map, All-permutation, Contains-permutation, All-nil, All-head, All-tail, All-weaker, All-append, All-contains, Contains-get_or, NtStatus, DeviceLabel, ClientRequest, Answer, Rules, place_count, Mark, Untouched, Out, Done, Failed, Back, OpenRequest, Piece, State, IsSame, IsGiven, AreDistinct, HavePlaces, IsCounted, AreCounted, Opens, new_request, restarts, is_started, is_untouched, Answers, information, Run, as_label, IsSame-refl, IsSame-sym, IsSame-trans, Run-same, Run-append, IsPermutation-uncons, AreDistinct-Step, AreDistinct-Admits, ArePlaced-Answers, ArePlaced-Opens, HaveEarned-Answers, HaveEarned-Opens, AreOnePiece-Answers, AreOnePiece-Opens, AreCounted-Answers, AreCounted-Opens, AreCounted-Run, AreCounted-same, below_rules, IsSound, IsMadeUp, AgreesOnCancel, IsCancelledAs, HasPartBefore, IsAhead, Keeps, IsOverMark, IsOverNote, IsOver, HasSome, noted_busy, IsTaking}
use Rattle.class_disk.specs.inside.Joint.{Part, Below, Here, Note, Sent, Kept, Known, note_of, known_of, Divided, Joint, IsPartOf, shown_mark, parts_requests, parts_marks, requests_below, shown, below, above}
use Rattle.class_disk.proofs.Restarting.{IsBusyOnce, busy_once, once_of, noted_back, few_again}
use Rattle.class_disk.proofs.CoupledSteps.{in_requests}
use Rattle.class_disk.proofs.Focus.{Found}
use Rattle.class_disk.proofs.Keeping.{part_in, there}
use Rattle.class_disk.proofs.CoupledRun.{rest, here, same_below, keeps_here, one_request, Ran, run_coupled, sound_same}
use Rattle.class_disk.proofs.Taking.{TakenFrom, with_here, taken_from, notes_of}
use Rattle.class_disk.proofs.Acting.{map_there, parts_long}
use Rattle.class_disk.proofs.Orderly.{All-from_map}
use Rattle.class_disk.proofs.Sending.{until_now, from_now, down_below, down_above, down_keeps}
use Rattle.class_disk.proofs.Resting.{part_timely}
use Rattle.class_disk.proofs.Ending.{started_from}

-- what is known of a request with this note of one of its parts
abbrev pub known_at : Known → List Note → Note → List Note → Known
known_at k front note back = record k { parts = front ++ (note ∷ back) }

-- FOUND BY ITS NOTE

split_notes : (parts : List Part) (nf : List Note) (n again : ℕ) (nb : List Note) → map note_of parts ≡ nf ++ (Sent n again ∷ nb)
    → (front : List Part) × (o : OpenRequest) × (pieces : List Piece) × (back : List Part) × (parts ≡ front ++ (Below o again pieces ∷ back)) × (map note_of front ≡ nf) × (map note_of back ≡ nb) × (o.number ≡ n)
split_notes [] [] n again nb e = absurd (cc (e))
split_notes [] (x ∷ nf) n again nb e = absurd (cc (e))
split_notes (Below o a pieces ∷ parts) [] n again nb e =
    let number : o.number ≡ n = cc (e) in
    let times : a ≡ again = cc (e) in
    let others : map note_of parts ≡ nb = cc (e) in
    ([], o, pieces, parts, ap (λ m. Below o m pieces ∷ parts) times, refl, others, number)
split_notes (Here marks busy ∷ parts) [] n again nb e = absurd (cc (e))
split_notes (p ∷ parts) (x ∷ nf) n again nb e =
    let first : note_of p ≡ x = cc (e) in
    let others : map note_of parts ≡ nf ++ (Sent n again ∷ nb) = cc (e) in
    let r = split_notes parts nf n again nb others in
    (p ∷ r.0, r.1, r.2, r.3, ap (λ zs. p ∷ zs) r.4, cc (first, r.5), r.6, r.7)

pub split_divided : (e : Divided) (es : List Divided) → Contains es e → (before : List Divided) × (after : List Divided) × (es ≡ before ++ (e ∷ after))
split_divided e [] (k, low, is) = absurd (omega arith)
split_divided e (x ∷ es) (zero, low, is) = ([], es, ap (λ z. z ∷ es) is)
split_divided e (x ∷ es) (suc k, low, is) = let r = split_divided e es (k, omega arith, is) in (x ∷ r.0, r.1, ap (λ zs. x ∷ zs) r.2)

-- the part of an open request below, where the class driver noted it
pub record FoundBy (j : Joint) (o : OpenRequest) (k : Known) (front back : List Note) (again : ℕ) (others : List Known) : Type 0 where
  pub found : Found j.divided o
  pub again_is : found.again ≡ again
  pub front_is : map note_of found.front ≡ front
  pub back_is : map note_of found.back ≡ back
  pub number_is : found.whole.number ≡ k.number
  pub request_is : found.whole.request ≡ k.request
  pub cancelled_is : found.whole.cancelled ≡ k.cancelled
  pub others_are : IsPermutation (map known_of (found.before ++ found.after)) others

pub found_by : (j : Joint) (s : State) → IsSame (below j) s → AreDistinct s → (o : OpenRequest) → Contains s.requests o → (k : Known) (front back : List Note) (again : ℕ) (others : List Known)
    → IsPermutation (map known_of j.divided) (known_at k front (Sent o.number again) back ∷ others) → FoundBy j o k front back again others
found_by j s same distinct o is_open k front back again others knows =
    let this : Known = known_at k front (Sent o.number again) back in
    let m = map_there known_of j.divided this (Contains-permutation _ _ this (IsPermutation-sym _ _ knows) (0, omega arith, refl)) in
    let e : Divided = m.0 in
    let sp = split_divided e j.divided m.1 in
    let q = split_notes e.parts front o.number again back (ap (λ (x : Known). x.parts) m.2) in
    let o' : OpenRequest = q.1 in
    let in_e : Contains (parts_requests e.parts) o' = subst (λ ps. Contains (parts_requests ps) o') (sym q.4) (there o' again q.2 q.0 q.3) in
    let in_s : Contains s.requests o' = Contains-permutation _ _ o' same.requests (in_requests e o' j.divided m.1 in_e) in
    let is : o' ≡ o = one_request s o' o distinct in_s is_open q.7 in
    let parts_are : e.parts ≡ q.0 ++ (Below o again q.2 ∷ q.3) = q.4 ∙ ap (λ x. q.0 ++ (Below x again q.2 ∷ q.3)) is in
    let moved : IsPermutation (map known_of j.divided) (known_of e ∷ map known_of (sp.0 ++ sp.1)) =
    subst (λ es. IsPermutation (map known_of es) (known_of e ∷ map known_of (sp.0 ++ sp.1))) (sym sp.2) (IsPermutation-map known_of _ _ (IsPermutation-middle sp.0 e sp.1)) in
    record {
      found = record {
        before = sp.0;
        after = sp.1;
        whole = e;
        front = q.0;
        back = q.3;
        again = again;
        pieces = q.2;
        is_there = sp.2 ∙ ap (λ ps. sp.0 ++ (record e { parts = ps } ∷ sp.1)) parts_are;
      };
      again_is = refl;
      front_is = q.5;
      back_is = q.6;
      number_is = ap (λ (x : Known). x.number) m.2;
      request_is = ap (λ (x : Known). x.request) m.2;
      cancelled_is = ap (λ (x : Known). x.cancelled) m.2;
      others_are = IsPermutation-uncons this _ _ (IsPermutation-trans _ _ _ (subst (λ x. IsPermutation (x ∷ map known_of (sp.0 ++ sp.1)) (map known_of j.divided)) m.2 (IsPermutation-sym _ _ moved)) knows);
    }

-- what the class driver knows of the request, with another note of the part
known_is : (j : Joint) (o : OpenRequest) (k : Known) (front back : List Note) (again : ℕ) (others : List Known) (f : FoundBy j o k front back again others) (part : Part)
    → known_of (record f.found.whole { parts = f.found.front ++ (part ∷ f.found.back) }) ≡ known_at k front (note_of part) back
known_is j o k front back again others f part =
    let notes : map note_of (f.found.front ++ (part ∷ f.found.back)) ≡ front ++ (note_of part ∷ back) =
    notes_of f.found.front part f.found.back ∙ ap (λ ns. ns ++ (note_of part ∷ map note_of f.found.back)) f.front_is ∙ ap (λ ns. front ++ (note_of part ∷ ns)) f.back_is in
    let n = f.number_is in
    let r = f.request_is in
    let c = f.cancelled_is in
    cc (notes, n, r, c)

-- A RUN ABOVE, UP TO HERE

sound_answer : (rules : Rules) → IsTrue rules.one_piece → (s : State) (number : ℕ) (status : NtStatus) (bytes : List ℕ) (s' : State) → None ≡ s.owed → IsSound s → Answers rules s number status bytes s' → IsSound s'
sound_answer rules one s number status bytes s' none k h = record {
  distinct = AreDistinct-Step rules s (Answer number status (information h.request.request status) bytes) s' k.distinct (inl (rw (← none) refl, record { answers = h; informs = refl }));
  placed = ArePlaced-Answers rules s number status bytes s' k.placed h;
  earned = HaveEarned-Answers rules s number status bytes s' k.earned h;
  whole = AreOnePiece-Answers rules one s number status bytes s' k.whole h;
}

-- a run goes on from a state that shows the same
pub goes_on : (rules : Rules) (first : State) (xs ys : List DeviceLabel) (a b c : State) → Run rules first (map as_label xs) a → IsSame a b → Run rules b (map as_label ys) c → Run rules first (map as_label (xs ++ ys)) c
goes_on rules first xs ys a b c run same more =
    subst (λ ls. Run rules first ls c) (sym (map-append as_label xs ys))
    (Run-append rules first (map as_label xs) a (map as_label ys) c run (Run-same rules (map as_label ys) b a c c (IsSame-sym _ _ same) (IsSame-refl c) more))

module _ (rules : Rules) (many : rules.one_piece ≡ false) (first : State) (labels : List DeviceLabel) (s : State) (places : HavePlaces s) (k : Known) (front back : List Note) (again : ℕ) (others : List Known)
    (number : ℕ) (status : NtStatus) (bytes : List ℕ) (answered : State) (h : Answers (below_rules rules) s number status bytes answered) (t : IsTaking rules first labels s (known_at k front (Sent number again) back ∷ others)) where
  is_open : Contains s.requests h.request
  is_open = Contains-permutation _ _ h.request (IsPermutation-sym _ _ h.is_open) (0, omega arith, refl)

  by_note : FoundBy t.j h.request k front back again others
  by_note = found_by t.j s t.same t.sound.distinct h.request is_open k front back again others (subst (λ n. IsPermutation (map known_of t.j.divided) (known_at k front (Sent n again) back ∷ others)) (sym h.is_number) t.knows)

  -- THE PART IS NOTED, and the layer below may start others
  pub kept_taken : (starts : List DeviceLabel) (s' : State) → Run (below_rules rules) answered (map as_label starts) s'
      → IsTaking rules first (labels ++ starts) s' (known_at k front (Kept (map (shown_mark again) h.request.marks) (again + h.request.busy_returns)) back ∷ others)
  kept_taken starts s' run =
      let o : OpenRequest = h.request in
      let f : FoundBy t.j o k front back again others = by_note in
      let fd : Found t.j.divided o = f.found in
      let es : List Divided = rest rules t.j o fd in
      let a : TakenFrom t.j rules fd.whole es fd.front fd.back o fd.again answered = taken_from rules t.j s t.same t.sound places t.keeps number status bytes answered h fd in
      let mid : Joint = with_here t.j fd.whole es fd.front fd.back o fd.again in
      let sound : IsSound answered = sound_answer (below_rules rules) refl s number status bytes answered t.same.owed t.sound h in
      let ran : Ran rules mid starts s' = run_coupled rules many starts mid answered s' a.same sound a.keeps run in
      let noted : known_of (record fd.whole { parts = fd.front ++ (Here (map (shown_mark fd.again) o.marks) (fd.again + o.busy_returns) ∷ fd.back) }) ≡ known_at k front (Kept (map (shown_mark again) o.marks) (again + o.busy_returns)) back =
      known_is t.j o k front back again others f _ ∙ ap (λ n. known_at k front (Kept (map (shown_mark n) o.marks) (n + o.busy_returns)) back) f.again_is in
      record {
        j = ran.next;
        same = ran.same;
        knows = IsPermutation-trans _ _ _ ran.like.transfers
            (subst (λ x. IsPermutation (known_of (record fd.whole { parts = fd.front ++ (Here (map (shown_mark fd.again) o.marks) (fd.again + o.busy_returns) ∷ fd.back) }) ∷ map known_of es) (x ∷ others)) noted (IsPermutation-cons _ _ _ f.others_are));
        keeps = ran.keeps;
        sound = ran.sound;
        counted = AreCounted-Run (below_rules rules) refl answered starts s' sound.distinct sound.placed sound.whole (AreCounted-Answers (below_rules rules) refl s number status bytes answered t.counted h) run;
        next_above = ran.like.next_above ∙ t.next_above;
        run = goes_on rules first labels starts (above t.j) (above mid) (above ran.next) t.run a.shown ran.run;
      }

-- UNDER WAY: a request that is neither cancelled nor removed has a part below, or is started

abbrev pub IsTouched : Mark → Type 0
IsTouched mark = is_untouched mark ≡ false

over_touched : (cancelled removing : Bool) (limit busy : ℕ) (m : Mark) → IsFalse cancelled → IsFalse removing → IsOverMark cancelled removing limit busy m → IsTouched m
over_touched cancelled removing limit busy Untouched timely staying (inl is) = absurd (cc (timely, is))
over_touched cancelled removing limit busy Untouched timely staying (inr is) = absurd (cc (staying, is))
over_touched cancelled removing limit busy Back timely staying h = refl
over_touched cancelled removing limit busy Out timely staying h = refl
over_touched cancelled removing limit busy (Done sector) timely staying h = refl
over_touched cancelled removing limit busy (Failed status) timely staying h = refl

under_way : (cancelled removing : Bool) (limit busy : ℕ) (parts : List Part) → IsFalse cancelled → IsFalse removing → All (IsOverNote cancelled removing limit busy) (map note_of parts)
    → ((o : OpenRequest) × Contains (parts_requests parts) o) ⊎ All IsTouched (parts_marks parts)
under_way cancelled removing limit busy [] timely staying over = inr (All-nil IsTouched)
under_way cancelled removing limit busy (Below o again ps ∷ parts) timely staying over = inl (o, (0, omega arith, refl))
under_way cancelled removing limit busy (Here marks n ∷ parts) timely staying over =
    by (under_way cancelled removing limit busy parts timely staying (All-tail (IsOverNote cancelled removing limit busy) (Kept marks n) (map note_of parts) over))
  where
    by : ((o : OpenRequest) × Contains (parts_requests parts) o) ⊎ All IsTouched (parts_marks parts) → ((o : OpenRequest) × Contains (parts_requests parts) o) ⊎ All IsTouched (marks ++ parts_marks parts)
    by (inl found) = inl found
    by (inr all) = inr (All-append IsTouched marks (parts_marks parts)
        (All-weaker (IsOverMark cancelled removing limit busy) IsTouched (λ m h. over_touched cancelled removing limit busy m timely staying h) marks (All-head (IsOverNote cancelled removing limit busy) (Kept marks n) (map note_of parts) over)) all)

-- so a part under a new number is in turn behind it
pub ahead_of : (rules : Rules) (removing : Bool) (limit number part_number : ℕ) (x : Divided) → IsOver limit removing (known_of x) → HasSome rules (known_of x) → IsMadeUp rules x → AgreesOnCancel x
    → All (IsGiven part_number) (parts_requests x.parts) → IsAhead removing number part_number x
ahead_of rules removing limit number part_number x over some made agree given staying lower timely =
    by (under_way x.cancelled removing limit _ x.parts timely staying over)
  where
    by : ((o : OpenRequest) × Contains (parts_requests x.parts) o) ⊎ All IsTouched (parts_marks x.parts) → IsTrue (is_started (shown x)) ⊎ HasPartBefore part_number x
    by (inl (o, c)) = inr (record {
      part = o;
      there = c;
      timely = All-contains (IsCancelledAs x.cancelled) (parts_requests x.parts) o agree c ∙ timely;
      before = All-contains (IsGiven part_number) (parts_requests x.parts) o given c;
    })
    by (inr touched) = let long = parts_long rules x.request 0 x.parts made in inl (started_from (parts_marks x.parts) (omega (arith, some)) touched)

-- THE PART GOES DOWN AGAIN in a new packet, and the layer below may start it and others

pub sound_open : (rules : Rules) → IsTrue rules.one_piece → (s : State) (number : ℕ) (q : ClientRequest) (s' : State) → IsSound s → Opens rules s number q s' → IsSound s'
sound_open rules one s number q s' k h = record {
  distinct = AreDistinct-Admits rules s number q None s' h.new_number k.distinct h;
  placed = ArePlaced-Opens rules s number q s' k.distinct k.placed h;
  earned = HaveEarned-Opens rules s number q s' k.earned h;
  whole = AreOnePiece-Opens rules one s number q s' k.distinct k.placed k.whole h;
}

-- what asks for the same as a part is that part
part_again : (rules : Rules) (s : State) (number : ℕ) (q : ClientRequest) (first : ℕ) (o : OpenRequest) → IsCounted (below_rules rules) o → s.paused ≡ false → IsPartOf rules q first o → IsPartOf rules q first (new_request (below_rules rules) s number o.request)
part_again rules s number q first o count runs p =
    let long : length (replicate (place_count (below_rules rules) o.request) Untouched) ≡ length o.marks = length-replicate (place_count (below_rules rules) o.request) Untouched ∙ sym count.places in
    record {
      kind = p.kind;
      through = p.through;
      partition = p.partition;
      from = p.from;
      short = let a = p.short in omega arith;
      timely = runs;
      bytes = λ at n fits. p.bytes at n (omega arith);
      long = λ is. p.long is ∙ ap (λ n. n * rules.sector_size) (sym long);
    }

module _ (rules : Rules) (many : rules.one_piece ≡ false) (first : State) (labels : List DeviceLabel) (s : State) (places : HavePlaces s) (k : Known) (front back : List Note) (again : ℕ) (others : List Known)
    (number : ℕ) (status : NtStatus) (bytes : List ℕ) (answered : State) (h : Answers (below_rules rules) s number status bytes answered) (t : IsTaking rules first labels s (known_at k front (Sent number again) back ∷ others))
    (shows_again : map (shown_mark again) h.request.marks ≡ map (shown_mark (suc again)) (replicate (place_count rules h.request.request) Untouched)) (once : h.request.busy_returns ≡ 1)
    (few : noted_busy (front ++ (Sent number again ∷ back)) < noted_back (front ++ (Sent number again ∷ back)) + restarts rules)
    (s1 : State) (to_s1 : IsSame answered s1) (next : ℕ) (opened : State) (opens : Opens (below_rules rules) s1 next h.request.request opened)
    (timely : IsFalse k.cancelled) (limit : ℕ) (over : All (IsOver limit s.removing) others) (some : All (HasSome rules) others) where
  abbrev old : OpenRequest
  old = h.request

  by_its_note : FoundBy t.j h.request k front back again others
  by_its_note = by_note rules many first labels s places k front back again others number status bytes answered h t

  pub sent_again : (starts : List DeviceLabel) (s' : State) → Run (below_rules rules) opened (map as_label starts) s' → IsTaking rules first (labels ++ starts) s' (known_at k front (Sent next (suc again)) back ∷ others)
  sent_again starts s' run =
      let f : FoundBy t.j old k front back again others = by_its_note in
      let fd : Found t.j.divided old = f.found in
      let e : Divided = fd.whole in
      let es : List Divided = rest rules t.j old fd in
      let a : TakenFrom t.j rules e es fd.front fd.back old fd.again answered = taken_from rules t.j s t.same t.sound places t.keeps number status bytes answered h fd in
      let o : OpenRequest = new_request (below_rules rules) s1 next old.request in
      let with_part : Part → Joint = λ p. record t.j { divided = record e { parts = fd.front ++ (p ∷ fd.back) } ∷ es } in
      let parts_are : Here (map (shown_mark fd.again) old.marks) (fd.again + old.busy_returns) ≡ Here (map (shown_mark (suc again)) o.marks) (suc again) =
      ap (λ n. Here (map (shown_mark n) old.marks) (n + old.busy_returns)) f.again_is ∙ ap (λ ms. Here ms (again + old.busy_returns)) shows_again
      ∙ ap (λ n. Here (map (shown_mark (suc again)) o.marks) n) (omega (arith, once)) in
      let u : Joint = until_now rules t.j e es fd.front fd.back o (suc again) (next + 1) in
      let n : Joint = from_now rules t.j e es fd.front fd.back o (suc again) (next + 1) in
      let u_same : IsSame (below u) s1 = IsSame-trans _ _ _ (subst (λ p. IsSame (below (with_part p)) answered) parts_are a.same) to_s1 in
      let u_shown : IsSame (above t.j) (above u) = subst (λ p. IsSame (above t.j) (above (with_part p))) parts_are a.shown in
      let u_keeps : Keeps rules u = subst (λ p. Keeps rules (with_part p)) parts_are a.keeps in
      let n_same : IsSame (below n) opened = down_below rules t.j e es fd.front fd.back o (suc again) (next + 1) s1 opened u_same opens.after in
      let n_shown : IsSame (above u) (above n) = down_above rules t.j e es fd.front fd.back o (suc again) (next + 1) refl in
      let kf : Keeps rules (here rules t.j old fd fd.pieces) = keeps_here rules t.j old fd t.keeps in
      let part : IsPartOf rules e.request (length (parts_marks fd.front)) old = (part_in rules e.request old fd.again fd.pieces fd.front fd.back (All-head (IsMadeUp rules) _ es kf.made_up)).0 in
      let counted : IsCounted (below_rules rules) old = All-contains (IsCounted (below_rules rules)) s.requests old t.counted (is_open rules many first labels s places k front back again others number status bytes answered h t) in
      let sound1 : IsSound s1 = sound_same answered s1 to_s1 (sound_answer (below_rules rules) refl s number status bytes answered t.same.owed t.sound h) in
      let given : (x : Divided) → Contains es x → All (IsGiven next) (parts_requests x.parts) = λ x c i d low.
      (let p : OpenRequest = get_or (parts_requests x.parts) i d in
      let there1 : Contains s1.requests p = Contains-permutation _ _ p u_same.requests (in_requests x p u.divided (suc c.0, let w = c.1 in omega arith, c.2) (Contains-get_or (parts_requests x.parts) i d low)) in
      let before : p.number < s1.next_request = All-contains (IsGiven s1.next_request) s1.requests p sound1.distinct.given there1 in
      let new = opens.new_number in
      omega arith) in
      let removing : t.j.removing ≡ s.removing = t.same.removing in
      let over_j : All (IsOver limit t.j.removing) others = subst (λ b. All (IsOver limit b) others) (sym removing) over in
      let over_es : All (λ x. IsOver limit t.j.removing (known_of x)) es = All-from_map (IsOver limit t.j.removing) known_of es (All-permutation (IsOver limit t.j.removing) _ _ (IsPermutation-sym _ _ f.others_are) over_j) in
      let some_es : All (λ x. HasSome rules (known_of x)) es = All-from_map (HasSome rules) known_of es (All-permutation (HasSome rules) _ _ (IsPermutation-sym _ _ f.others_are) some) in
      let ahead : All (IsAhead t.j.removing e.number o.number) es = λ i d low.
      ahead_of rules t.j.removing limit e.number next (get_or es i d) (over_es i d low) (some_es i d low) (All-tail (IsMadeUp rules) _ es u_keeps.made_up i d low) (All-tail AgreesOnCancel _ es u_keeps.agree i d low)
      (given (get_or es i d) (Contains-get_or es i d low)) in
      let notes : map note_of (fd.front ++ (Below old again fd.pieces ∷ fd.back)) ≡ front ++ (Sent number again ∷ back) =
      ap (λ (x : Known). x.parts) (known_is t.j old k front back again others f (Below old again fd.pieces)) ∙ ap (λ m. front ++ (Sent m again ∷ back)) h.is_number in
      let all_once : All IsBusyOnce (requests_below (here rules t.j old fd fd.pieces).divided) = All-permutation IsBusyOnce _ _ (IsPermutation-trans _ _ _ (IsPermutation-sym _ _ t.same.requests) (same_below rules t.j old fd).requests) (busy_once (below_rules rules) s places t.counted) in
      let own_once : All IsBusyOnce (parts_requests (fd.front ++ (Below old again fd.pieces ∷ fd.back))) =
      subst (λ m. All IsBusyOnce (parts_requests (fd.front ++ (Below old m fd.pieces ∷ fd.back)))) f.again_is (once_of _ (requests_below es) all_once) in
      let few_then = few_again rules fd.front fd.back old o again fd.pieces [] own_once once refl (subst (λ ns. noted_busy ns < noted_back ns + restarts rules) (sym notes) few) in
      let n_keeps : Keeps rules n = down_keeps rules t.j e es fd.front fd.back o (suc again) (next + 1) (part_again rules s1 next e.request _ old counted (sym u_same.paused) part) (sym timely ∙ sym f.cancelled_is) ahead few_then u_keeps in
      let sound : IsSound opened = sound_open (below_rules rules) refl s1 next old.request opened sound1 opens in
      let ran : Ran rules n starts s' = run_coupled rules many starts n opened s' n_same sound n_keeps run in
      let noted : known_of (record e { parts = fd.front ++ (Below o (suc again) [] ∷ fd.back) }) ≡ known_at k front (Sent next (suc again)) back = known_is t.j old k front back again others f (Below o (suc again) []) in
      let counted_all : AreCounted (below_rules rules) opened = AreCounted-Opens (below_rules rules) refl s1 next old.request opened
      (AreCounted-same (below_rules rules) answered s1 to_s1 (AreCounted-Answers (below_rules rules) refl s number status bytes answered t.counted h)) opens in
      record {
        j = ran.next;
        same = ran.same;
        knows = IsPermutation-trans _ _ _ ran.like.transfers
            (subst (λ x. IsPermutation (known_of (record e { parts = fd.front ++ (Below o (suc again) [] ∷ fd.back) }) ∷ map known_of es) (x ∷ others)) noted (IsPermutation-cons _ _ _ f.others_are));
        keeps = ran.keeps;
        sound = ran.sound;
        counted = AreCounted-Run (below_rules rules) refl opened starts s' sound.distinct sound.placed sound.whole counted_all run;
        next_above = ran.like.next_above ∙ t.next_above;
        run = goes_on rules first labels starts (above t.j) (above n) (above ran.next) t.run (IsSame-trans _ _ _ u_shown n_shown) ran.run;
      }

-- A run of the machine below by labels of the adapter is the first one above
pub taking_begins : (rules : Rules) → rules.one_piece ≡ false → (j : Joint) (s s' : State) (ks : List Known) (labels : List DeviceLabel) → IsSame (below j) s → IsPermutation (map known_of j.divided) ks → Keeps rules j → IsSound s
    → AreCounted (below_rules rules) s → Run (below_rules rules) s (map as_label labels) s' → IsTaking rules (above j) labels s' ks
taking_begins rules many j s s' ks labels same knows keeps sound counted run =
    let ran : Ran rules j labels s' = run_coupled rules many labels j s s' same sound keeps run in
    record {
      j = ran.next;
      same = ran.same;
      knows = IsPermutation-trans _ _ _ ran.like.transfers knows;
      keeps = ran.keeps;
      sound = ran.sound;
      counted = AreCounted-Run (below_rules rules) refl s labels s' sound.distinct sound.placed sound.whole counted run;
      next_above = ran.like.next_above;
      run = ran.run;
    }

-- the request is not held by a pause
abbrev pub IsTimely : OpenRequest → Type 0
IsTimely o = o.late ≡ false

-- no part below is held by a pause
pub all_timely : (rules : Rules) (es : List Divided) → All (IsMadeUp rules) es → All IsTimely (requests_below es)
all_timely rules [] made = All-nil IsTimely
all_timely rules (e ∷ es) made =
    All-append IsTimely (parts_requests e.parts) (requests_below es)
    (λ i d low. part_timely rules e.request 0 e.parts (get_or (parts_requests e.parts) i d) (All-head (IsMadeUp rules) e es made) (Contains-get_or (parts_requests e.parts) i d low))
    (all_timely rules es (All-tail (IsMadeUp rules) e es made))
