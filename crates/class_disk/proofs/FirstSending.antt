-- A part that is here goes down for the first time: wherever the machine above was, it is so after some starts more.
use Rattle.std.proofs.Common.{◌≡◌, ◌<◌, ℕ, suc, ◌+◌, false, List, [], ◌∷◌, ◌++◌, refl, sym, ◌∙◌, ap, subst, arith, map, length, get_or, replicate, length-append}
use Rattle.std.specs.Prelude.{IsPermutation, All, Contains, IsFalse}
use Rattle.class_disk.proofs.Common.{length-map, length-replicate, IsPermutation-sym, IsPermutation-trans, IsPermutation-cons, IsPermutation-middle, IsPermutation-map, All-permutation, Contains-permutation, All-head, All-tail, All-contains, Contains-get_or, DeviceLabel, ClientRequest, Rules, place_count, Mark, Untouched, OpenRequest, State, IsSame, IsGiven, Opens, new_request, Run, as_label, IsSame-trans, IsPermutation-uncons, AreCounted-Opens, AreCounted-Run, below_rules, IsSound, IsMadeUp, AgreesOnCancel, IsAhead, begins_back, IsInPieces, Keeps, IsOver, HasSome, IsTaking}
use Rattle.class_disk.specs.inside.Joint.{Part, Below, Here, Note, Sent, Kept, Known, note_of, known_of, Divided, Joint, IsPartOf, shown_mark, parts_requests, parts_marks, requests_of, pieces_of, lifted_pieces, shown, below, above}
use Rattle.class_disk.proofs.InPieces.{in_pieces_with}
use Rattle.class_disk.proofs.CoupledSteps.{in_requests, map_same}
use Rattle.class_disk.proofs.CoupledRun.{keeps_permuted, Ran, run_coupled}
use Rattle.class_disk.proofs.Showing.{gathered-permutation}
use Rattle.class_disk.proofs.Taking.{notes_of}
use Rattle.class_disk.proofs.Acting.{map_there, parts_long}
use Rattle.class_disk.proofs.Orderly.{All-from_map}
use Rattle.class_disk.proofs.Coupled.{marks-append}
use Rattle.class_disk.proofs.Sending.{until_now, from_now, down_below, down_above, down_keeps}
use Rattle.class_disk.proofs.Retaking.{known_at, split_divided, goes_on, ahead_of, sound_open}

-- PLACES BY NOTES

-- as many places as these notes of parts that are here
abbrev pub noted_places : List Note → ℕ
noted_places [] = 0
noted_places (Sent number again ∷ notes) = noted_places notes
noted_places (Kept marks busy ∷ notes) = length marks + noted_places notes

-- the part is here
abbrev pub AreHere : List Note → Type 0
AreHere [] = Unit {0}
AreHere (Sent number again ∷ notes) = ⊥
AreHere (Kept marks busy ∷ notes) = AreHere notes

places_noted : (parts : List Part) → AreHere (map note_of parts) → length (parts_marks parts) ≡ noted_places (map note_of parts)
places_noted [] here = refl
places_noted (Below o again ps ∷ parts) here = absurd here
places_noted (Here marks busy ∷ parts) here = let e = places_noted parts here in simp length-append (omega (arith, e))

-- FOUND BY ITS NOTE

split_kept : (parts : List Part) (nf : List Note) (marks : List Mark) (busy : ℕ) (nb : List Note) → map note_of parts ≡ nf ++ (Kept marks busy ∷ nb)
    → (front : List Part) × (back : List Part) × (parts ≡ front ++ (Here marks busy ∷ back)) × (map note_of front ≡ nf) × (map note_of back ≡ nb)
split_kept [] [] marks busy nb e = absurd (cc (e))
split_kept [] (x ∷ nf) marks busy nb e = absurd (cc (e))
split_kept (Below o a pieces ∷ parts) [] marks busy nb e = absurd (cc (e))
split_kept (Here m b ∷ parts) [] marks busy nb e =
    let same_m : m ≡ marks = cc (e) in
    let same_b : b ≡ busy = cc (e) in
    let others : map note_of parts ≡ nb = cc (e) in
    ([], parts, ap (λ x. Here x b ∷ parts) same_m ∙ ap (λ x. Here marks x ∷ parts) same_b, refl, others)
split_kept (p ∷ parts) (x ∷ nf) marks busy nb e =
    let first : note_of p ≡ x = cc (e) in
    let others : map note_of parts ≡ nf ++ (Kept marks busy ∷ nb) = cc (e) in
    let r = split_kept parts nf marks busy nb others in
    (p ∷ r.0, r.1, ap (λ zs. p ∷ zs) r.2, cc (first, r.3), r.4)

known_as : (e : Divided) (k : Known) (parts : List Part) (notes : List Note) → map note_of parts ≡ notes → e.number ≡ k.number → e.request ≡ k.request → e.cancelled ≡ k.cancelled
    → known_of (record e { parts = parts }) ≡ record k { parts = notes }
known_as e k parts notes a b c d = cc (a, b, c, d)

-- THE SAME, IN ANOTHER ORDER

pub permuted_below : (j : Joint) (ms : List Divided) → IsPermutation j.divided ms → IsSame (below (record j { divided = ms })) (below j)
permuted_below j ms p = record {
  arrays = refl;
  next_request = refl;
  next_piece = refl;
  requests = gathered-permutation requests_of ms j.divided (IsPermutation-sym _ _ p);
  pieces = gathered-permutation pieces_of ms j.divided (IsPermutation-sym _ _ p);
  owed = refl;
  paused = refl;
  removing = refl;
  removed = refl;
}

pub permuted_above : (j : Joint) (ms : List Divided) → IsPermutation j.divided ms → IsSame (above j) (above (record j { divided = ms }))
permuted_above j ms p = record {
  arrays = refl;
  next_request = refl;
  next_piece = refl;
  requests = IsPermutation-map shown _ _ p;
  pieces = gathered-permutation lifted_pieces j.divided ms p;
  owed = refl;
  paused = refl;
  removing = refl;
  removed = refl;
}

module _ (rules : Rules) (many : rules.one_piece ≡ false) (first : State) (labels : List DeviceLabel) (s : State) (k : Known) (front back : List Note) (others : List Known) (q : ClientRequest)
    (t : IsTaking rules first labels s (known_at k front (Kept (replicate (place_count rules q) Untouched) 0) back ∷ others))
    (next : ℕ) (opened : State) (opens : Opens (below_rules rules) s next q opened) (behind : AreHere back)
    -- what is asked below is the part at the place of the one that is here
    (part : (at : ℕ) → at + (place_count rules q + noted_places back) ≡ place_count rules k.request → IsPartOf rules k.request at (new_request (below_rules rules) s next q))
    (timely : IsFalse k.cancelled) (limit : ℕ) (over : All (IsOver limit s.removing) others) (some : All (HasSome rules) others) where
  abbrev marks : List Mark
  marks = replicate (place_count rules q) Untouched

  abbrev this : Known
  this = known_at k front (Kept marks 0) back

  pub sent_first : (starts : List DeviceLabel) (s' : State) → Run (below_rules rules) opened (map as_label starts) s' → IsTaking rules first (labels ++ starts) s' (known_at k front (Sent next 0) back ∷ others)
  sent_first starts s' run =
      let m = map_there known_of t.j.divided this (Contains-permutation _ _ this (IsPermutation-sym _ _ t.knows) (0, omega arith, refl)) in
      let e : Divided = m.0 in
      let sp = split_divided e t.j.divided m.1 in
      let es : List Divided = sp.0 ++ sp.1 in
      let pt = split_kept e.parts front marks 0 back (ap (λ (x : Known). x.parts) m.2) in
      let pf : List Part = pt.0 in
      let pb : List Part = pt.1 in
      let o : OpenRequest = new_request (below_rules rules) s next q in
      let shown_here : marks ≡ map (shown_mark 0) o.marks = sym (map_same (place_count rules q)) in
      let e_is : e ≡ record e { parts = pf ++ (Here (map (shown_mark 0) o.marks) 0 ∷ pb) } =
      ap (λ ps. record e { parts = ps }) (pt.2 ∙ ap (λ ms. pf ++ (Here ms 0 ∷ pb)) shown_here) in
      let moved : IsPermutation t.j.divided (e ∷ es) = subst (λ ms. IsPermutation ms (e ∷ es)) (sym sp.2) (IsPermutation-middle sp.0 e sp.1) in
      let divided_u : IsPermutation t.j.divided (record e { parts = pf ++ (Here (map (shown_mark 0) o.marks) 0 ∷ pb) } ∷ es) = subst (λ x. IsPermutation t.j.divided (x ∷ es)) e_is moved in
      let u : Joint = until_now rules t.j e es pf pb o 0 (next + 1) in
      let n : Joint = from_now rules t.j e es pf pb o 0 (next + 1) in
      let u_same : IsSame (below u) s = IsSame-trans _ _ _ (permuted_below t.j u.divided divided_u) t.same in
      let u_shown : IsSame (above t.j) (above u) = permuted_above t.j u.divided divided_u in
      let u_keeps : Keeps rules u = keeps_permuted rules t.j u.divided divided_u t.keeps in
      let n_same : IsSame (below n) opened = down_below rules t.j e es pf pb o 0 (next + 1) s opened u_same opens.after in
      let n_shown : IsSame (above u) (above n) = down_above rules t.j e es pf pb o 0 (next + 1) refl in
      let others_are : IsPermutation (map known_of es) others =
      IsPermutation-uncons this _ _ (IsPermutation-trans _ _ _ (subst (λ x. IsPermutation (x ∷ map known_of es) (map known_of t.j.divided)) m.2 (IsPermutation-sym _ _ (IsPermutation-map known_of _ _ moved))) t.knows) in
      let request_is : e.request ≡ k.request = ap (λ (x : Known). x.request) m.2 in
      let cancelled_is : e.cancelled ≡ k.cancelled = ap (λ (x : Known). x.cancelled) m.2 in
      let long = parts_long rules e.request 0 (pf ++ (Here (map (shown_mark 0) o.marks) 0 ∷ pb)) (All-head (IsMadeUp rules) _ es u_keeps.made_up) in
      let back_long : length (parts_marks pb) ≡ noted_places back = places_noted pb (subst AreHere (sym pt.4) behind) ∙ ap noted_places pt.4 in
      let at : length (parts_marks pf) + (place_count rules q + noted_places back) ≡ place_count rules k.request =
      (let here_long : length (map (shown_mark 0) o.marks) ≡ place_count rules q = length-map o.marks (shown_mark 0) ∙ length-replicate (place_count rules q) Untouched in
      let total = ap length (marks-append pf (Here (map (shown_mark 0) o.marks) 0 ∷ pb)) ∙ length-append (parts_marks pf) _ ∙ ap (λ x. length (parts_marks pf) + x) (length-append (map (shown_mark 0) o.marks) (parts_marks pb)) in
      let asked = ap (place_count rules) request_is in
      omega (arith, here_long, total, back_long, long, asked)) in
      let is_part : IsPartOf rules e.request (length (parts_marks pf)) o = subst (λ r. IsPartOf rules r (length (parts_marks pf)) o) (sym request_is) (part (length (parts_marks pf)) at) in
      let given : (x : Divided) → Contains es x → All (IsGiven next) (parts_requests x.parts) = λ x c i d low.
      (let p : OpenRequest = get_or (parts_requests x.parts) i d in
      let there : Contains s.requests p = Contains-permutation _ _ p u_same.requests (in_requests x p u.divided (suc c.0, let w = c.1 in omega arith, c.2) (Contains-get_or (parts_requests x.parts) i d low)) in
      let before : p.number < s.next_request = All-contains (IsGiven s.next_request) s.requests p t.sound.distinct.given there in
      let new = opens.new_number in
      omega arith) in
      let removing : t.j.removing ≡ s.removing = t.same.removing in
      let over_j : All (IsOver limit t.j.removing) others = subst (λ b. All (IsOver limit b) others) (sym removing) over in
      let over_es : All (λ x. IsOver limit t.j.removing (known_of x)) es = All-from_map (IsOver limit t.j.removing) known_of es (All-permutation (IsOver limit t.j.removing) _ _ (IsPermutation-sym _ _ others_are) over_j) in
      let some_es : All (λ x. HasSome rules (known_of x)) es = All-from_map (HasSome rules) known_of es (All-permutation (HasSome rules) _ _ (IsPermutation-sym _ _ others_are) some) in
      let ahead : All (IsAhead t.j.removing e.number o.number) es = λ i d low.
      ahead_of rules t.j.removing limit e.number next (get_or es i d) (over_es i d low) (some_es i d low) (All-tail (IsMadeUp rules) _ es u_keeps.made_up i d low) (All-tail AgreesOnCancel _ es u_keeps.agree i d low)
      (given (get_or es i d) (Contains-get_or es i d low)) in
      let begins : begins_back (map (shown_mark 0) o.marks) ≡ begins_back o.marks = ap begins_back (map_same (place_count rules q)) in
      let in_pieces : IsInPieces rules (record e { parts = pf ++ (Below o 0 [] ∷ pb) }) =
      in_pieces_with rules e pf pb (Here (map (shown_mark 0) o.marks) 0) (Below o 0 []) (sym (length-map o.marks (shown_mark 0))) (omega (arith, begins)) (All-head (IsInPieces rules) _ es u_keeps.in_pieces) in
      let n_keeps : Keeps rules n = down_keeps rules t.j e es pf pb o 0 (next + 1) is_part (sym timely ∙ sym cancelled_is) ahead in_pieces.few u_keeps in
      let sound : IsSound opened = sound_open (below_rules rules) refl s next q opened t.sound opens in
      let ran : Ran rules n starts s' = run_coupled rules many starts n opened s' n_same sound n_keeps run in
      let notes : map note_of (pf ++ (Below o 0 [] ∷ pb)) ≡ front ++ (Sent next 0 ∷ back) =
      notes_of pf (Below o 0 []) pb ∙ ap (λ ns. ns ++ (Sent next 0 ∷ map note_of pb)) pt.3 ∙ ap (λ ns. front ++ (Sent next 0 ∷ ns)) pt.4 in
      let number_is : e.number ≡ k.number = ap (λ (x : Known). x.number) m.2 in
      let noted : known_of (record e { parts = pf ++ (Below o 0 [] ∷ pb) }) ≡ known_at k front (Sent next 0) back = known_as e k _ _ notes number_is request_is cancelled_is in
      record {
        j = ran.next;
        same = ran.same;
        knows = IsPermutation-trans _ _ _ ran.like.transfers
            (subst (λ x. IsPermutation (known_of (record e { parts = pf ++ (Below o 0 [] ∷ pb) }) ∷ map known_of es) (x ∷ others)) noted (IsPermutation-cons _ _ _ others_are));
        keeps = ran.keeps;
        sound = ran.sound;
        counted = AreCounted-Run (below_rules rules) refl opened starts s' sound.distinct sound.placed sound.whole
            (AreCounted-Opens (below_rules rules) refl s next q opened t.counted opens) run;
        next_above = ran.like.next_above ∙ t.next_above;
        run = goes_on rules first labels starts (above t.j) (above n) (above ran.next) t.run (IsSame-trans _ _ _ u_shown n_shown) ran.run;
      }
