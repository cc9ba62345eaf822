-- A run keeps what is known of its open requests.
use Rattle.std.proofs.Common.{◌≡◌, ◌≢◌, ◌<◌, ◌≤◌, inl, inr, ℕ, suc, ◌+◌, ◌-◌, ◌*◌, ◌/◌, ◌%◌, ◌==◌, ◌&&◌, Bool, true, false, not, List, [], ◌∷◌, ◌++◌, Option, Some, None, refl, sym, ◌∙◌, ap, subst, arith, map, length, get_or, set, length-append}
use Rattle.std.specs.Prelude.{IsNone, IsPermutation, All, is_none, slice_get, if◌then◌else◌}
use Rattle.std.specs.List.{list_all, concat}
use Rattle.std.proofs.lemmas.Bool.{and_from, and_parts, eqb-true}
use Rattle.std.proofs.lemmas.Bool.Decides.{nat_tests}
use Rattle.std.proofs.lemmas.Nat.{div-add-mod'}
use Rattle.std.proofs.lemmas.List.{get_or_append_left, get_or-append_right, get_or-set_other, length-set, length-map}
use Rattle.std.proofs.lemmas.Option.{slice_get-get_or}
use Rattle.std.proofs.lemmas.List.Sorted.{IsPermutation-sym, All-permutation}
use Rattle.std.proofs.lemmas.List.Elements.{All-nil, All-cons, All-head, All-tail, All-weaker, All-map, All-append, All-take, All-drop, All-replicate, All-contains}
use Rattle.ntstatus.specs.declared.NtStatus.{NtStatus}
use Rattle.ntstatus.specs.declared.NtStatus.TheVariants.{Success, DeletePending, InvalidHandle, InvalidParameter, DeviceBusy}
use Rattle.ntstatus.specs.Codes.{value_of}
use Rattle.ntstatus.specs.First.{when, first_some}
use Rattle.sector.specs.Extents.{IsSector}
use Rattle.sector.specs.Splice.{splice}
use Rattle.srb.specs.declared.DeviceLabel.TheVariants.{Start, Act, Fault, Return}
use Rattle.srb.specs.declared.Class.{Class}
use Rattle.srb.specs.declared.Class.TheVariants.{Good, Busy, Bad}
use Rattle.srb.specs.declared.Kind.{Kind}
use Rattle.srb.specs.declared.Kind.TheVariants.{Read, Write, Flush}
use Rattle.machine.specs.declared.ClientRequest.{ClientRequest}
use Rattle.machine.specs.declared.Label.{Label}
use Rattle.machine.specs.declared.Label.TheVariants.{Call, Device, Answer, Cancel, Pause, Resume, Remove, Surprise, Removed}
use Rattle.machine.specs.Rules.{Rules, is_transfer, is_in_bounds, place_count}
use Rattle.machine.specs.State.{Mark, Untouched, Out, Done, Failed, Back, OpenRequest, Owed, Piece, State, opening}
use Rattle.machine.specs.Calling.{refusal, new_request, Admits, Calls, AnswersRefused}
use Rattle.machine.specs.Sending.{LeavesMarks, status_of_completion, sent, given_back}
use Rattle.machine.specs.Answering.{is_done, bytes_of_mark, answer_bytes, information, AnswersWith}
use Rattle.machine.specs.Holding.{as_cancelled}
use Rattle.machine.specs.Numbers.{request_number, IsGiven}
use Rattle.machine.specs.Step.{Step}
use Rattle.machine.proofs.Permuting.{All-changed, distinct_first}
use Rattle.machine.proofs.Places.{taken_in}
use Rattle.machine_laws.proofs.Marks.{all_right}
use Rattle.machine_laws.proofs.Serving.{IsMine, Mine, IsSized, Serves, AllActRightly, acts_by, Serves-Step}
use Rattle.machine_laws.proofs.Sound.{IsSound, called_serves}
use Rattle.history_laws.specs.declared.Asked.{Asked}
use Rattle.history_laws.specs.History.{history_of, IsOfService, of_service}
use Rattle.history_laws.specs.Fitting.{refused, is_failure, asked_of, carried, informed_of, brought, ends, ends_by, fits, entry_of, without}
use Rattle.history_laws.proofs.Acting.{read_sized}
use Rattle.history_laws.proofs.Calling.{bounds_of}
use Rattle.history_laws.proofs.Failing.{IsPossible, bad_fails, caused}

eq_true : (a b : ℕ) → a ≡ b → (a == b) ≡ true
eq_true a b h = grind (arith, nat_tests)

-- WHAT IS KNOWN

-- a read's places have whole sectors
abbrev pub IsWhole : Rules → ClientRequest → List (List (List ℕ)) → ℕ → List ℕ → Type 0
IsWhole rules q arrays k sector = q.kind ≡ Read → IsSector rules.sector_size sector

-- an open request of which it is known what it asked for
pub record IsKnown (rules : Rules) (asked : List (Option Asked)) (s : State) (o : OpenRequest) : Type 0 where
  waits : get_or asked o.number None ≡ Some (asked_of o.request)
  in_bounds : is_transfer o.request.kind ≡ true → is_in_bounds rules o.request ≡ true
  serves : Serves rules o.number o.request (IsWhole rules o.request) s
  possible : All IsPossible o.marks

abbrev pub Owes : List (Option Asked) → Option NtStatus → Option Owed → Type 0
Owes asked None None = Unit {0}
Owes asked None (Some o) = ⊥
Owes asked (Some status) None = ⊥
Owes asked (Some status) (Some o) = (o.number + 1 ≡ length asked) × (o.status ≡ status)

pub record Knows (rules : Rules) (asked : List (Option Asked)) (owed : Option NtStatus) (s : State) : Type 0 where
  next : s.next_request ≡ length asked
  owes : Owes asked owed s.owed
  staying : s.removing ≡ false
  requests : All (IsKnown rules asked s) s.requests

-- MARKS

spliced : {X : Type 0} (P : X → Type 0) (xs : List X) (first : ℕ) (more : List X) → All P xs → All P more → All P (splice xs first more)
spliced P xs first more h k = All-append P _ _ (All-take P first xs h) (All-append P _ _ k (All-drop P (first + length more) xs h))

left_possible : (piece : Piece) (class : Class) (marks : List Mark) → LeavesMarks piece class marks → All IsPossible marks
left_possible piece Good marks h = rw h.2 (All-map IsPossible Done h.0 (λ k d low. tt))
left_possible piece Busy marks h = rw h.1 (All-replicate IsPossible piece.places.count Back tt)
left_possible piece (Bad completion) marks h =
    rw h.1 (All-replicate IsPossible piece.places.count (Failed (status_of_completion completion)) (bad_fails completion h.0))

-- A STEP KEEPS IT

right_acts : (rules : Rules) (number : ℕ) (q : ClientRequest) (s s' : State) → Serves rules number q (IsWhole rules q) s → AllActRightly rules number (IsWhole rules q) s s'
right_acts rules number q s s' k n bytes h = record { keeps = λ j sector right. right; leaves = λ e j d within read. whole e read j d within }
  where
    whole : h.piece.owner ≡ number → q.kind ≡ Read → All (IsSector rules.sector_size) h.sectors
    whole e read =
        let same : h.owner.request ≡ q = (All-contains (IsMine number q (IsWhole rules q s.arrays)) s.requests h.owner k.mine h.is_open (h.is_owner ∙ e)).request in
        read_sized rules s h.owner.request h.piece.places h.owner.request.kind h.sectors h.arrays' h.moves (ap (λ r. r.kind) same ∙ read)

serves_on : (rules : Rules) (s : State) (label : Label) (s' : State) → IsSound rules s → Step rules s label s' → (number : ℕ) (q : ClientRequest)
    → Serves rules number q (IsWhole rules q) s → Serves rules number q (IsWhole rules q) s'
serves_on rules s label s' sound step number q k =
    Serves-Step rules number q (IsWhole rules q) s label s' sound.0 (acts_by rules number (IsWhole rules q) s label s' (λ n bytes h e. right_acts rules number q s s' k n bytes h)) k step

known_on : (rules : Rules) (asked : List (Option Asked)) (s : State) (label : Label) (s' : State) → IsSound rules s → Step rules s label s' → (o : OpenRequest)
    → IsKnown rules asked s o → IsKnown rules asked s' o
known_on rules asked s label s' sound step o k =
    record { waits = k.waits; in_bounds = k.in_bounds; serves = serves_on rules s label s' sound step o.number o.request k.serves; possible = k.possible }

module _ (rules : Rules) (asked : List (Option Asked)) (owed : Option NtStatus) (s : State) (label : Label) (s' : State) (sound : IsSound rules s) (step : Step rules s label s')
    (k : Knows rules asked owed s) where
  all_on : All (IsKnown rules asked s') s.requests
  all_on = All-weaker (IsKnown rules asked s) (IsKnown rules asked s') (known_on rules asked s label s' sound step) s.requests k.requests

  -- the same requests are open
  kept : (os : List OpenRequest) → IsPermutation s'.requests os → All (IsKnown rules asked s') os → s'.next_request ≡ s.next_request → s'.owed ≡ s.owed → s'.removing ≡ s.removing → Knows rules asked owed s'
  kept os perm all next owes removing = record {
    next = next ∙ k.next;
    owes = rw owes k.owes;
    staying = removing ∙ k.staying;
    requests = All-permutation (IsKnown rules asked s') _ _ (IsPermutation-sym _ _ perm) all;
  }

  -- one with other marks
  marked : (o o' : OpenRequest) (others : List OpenRequest) → IsPermutation s.requests (o ∷ others) → o'.number ≡ o.number → o'.request ≡ o.request → (All IsPossible o.marks → All IsPossible o'.marks)
      → All (IsKnown rules asked s') (o' ∷ others)
  marked o o' others perm number request marks = All-changed (IsKnown rules asked s') s.requests o o' others perm all_on (λ x. record {
    waits = rw (number, request) x.waits;
    in_bounds = rw request x.in_bounds;
    serves = rw (number, request) x.serves;
    possible = marks x.possible;
  })

pub knows_device : (rules : Rules) (asked : List (Option Asked)) (owed : Option NtStatus) (s : State) (label : Label) (s' : State) → IsSound rules s → IsOfService label → history_of (label ∷ []) ≡ []
    → Knows rules asked owed s → Step rules s label s' → Knows rules asked owed s'
knows_device rules asked owed s (Device (Start n tag block)) s' sound serving silent k (inl (free, h)) =
    kept rules asked owed s (Device (Start n tag block)) s' sound (inl (free, h)) k _ h.after.requests
    (marked rules asked owed s (Device (Start n tag block)) s' sound (inl (free, h)) k h.owner (sent h.places h.owner) h.others h.is_open refl refl
    (λ all. spliced IsPossible h.owner.marks h.places.first _ all (All-replicate IsPossible h.places.count Out tt)))
    h.after.next_request h.after.owed h.after.removing
knows_device rules asked owed s (Device (Act n bytes)) s' sound serving silent k (inl (free, h)) =
    kept rules asked owed s (Device (Act n bytes)) s' sound (inl (free, h)) k _ h.after.requests
    (all_on rules asked owed s (Device (Act n bytes)) s' sound (inl (free, h)) k) h.after.next_request h.after.owed h.after.removing
knows_device rules asked owed s (Device (Fault n)) s' sound serving silent k (inl (free, h)) =
    kept rules asked owed s (Device (Fault n)) s' sound (inl (free, h)) k _ h.after.requests
    (all_on rules asked owed s (Device (Fault n)) s' sound (inl (free, h)) k) h.after.next_request h.after.owed h.after.removing
knows_device rules asked owed s (Device (Return n class)) s' sound serving silent k (inl (free, h)) =
    kept rules asked owed s (Device (Return n class)) s' sound (inl (free, h)) k _ h.after.requests
    (marked rules asked owed s (Device (Return n class)) s' sound (inl (free, h)) k h.owner (given_back h.piece class h.marks h.owner) h.others h.is_open refl refl
    (λ all. spliced IsPossible h.owner.marks h.piece.places.first h.marks all (left_possible h.piece class h.marks h.leaves)))
    h.after.next_request h.after.owed h.after.removing
knows_device rules asked owed s (Device label) s' sound serving silent k (inr none) = absurd none
knows_device rules asked owed s (Cancel n) s' sound serving silent k (inl (free, h)) =
    kept rules asked owed s (Cancel n) s' sound (inl (free, h)) k _ h.after.requests
    (marked rules asked owed s (Cancel n) s' sound (inl (free, h)) k h.request (as_cancelled h.request) h.others h.is_open refl refl (λ all. all))
    h.after.next_request h.after.owed h.after.removing
knows_device rules asked owed s (Cancel n) s' sound serving silent k (inr none) = absurd none
knows_device rules asked owed s (Call n q) s' sound serving silent k step = absurd (cc (silent))
knows_device rules asked owed s (Answer n status informed bytes) s' sound serving silent k step = absurd (cc (silent))
knows_device rules asked owed s Pause s' sound serving silent k step = absurd serving
knows_device rules asked owed s Resume s' sound serving silent k step = absurd serving
knows_device rules asked owed s Remove s' sound serving silent k step = absurd serving
knows_device rules asked owed s Surprise s' sound serving silent k step = absurd serving
knows_device rules asked owed s Removed s' sound serving silent k step = absurd serving

-- A CALL

free_owes : (asked : List (Option Asked)) (o : Option Owed) → IsNone o → Owes asked None o
free_owes asked None free = tt
free_owes asked (Some o) free = cc (free)

none_owed : (asked : List (Option Asked)) (owed : Option NtStatus) (o : Option Owed) → IsNone o → Owes asked owed o → owed ≡ None
none_owed asked None o free h = refl
none_owed asked (Some status) None free h = absurd h
none_owed asked (Some status) (Some o) free h = cc (free)

before_last : (asked : List (Option Asked)) (entry : Option Asked) (n : ℕ) (x : Option Asked) → n < length asked → get_or asked n None ≡ x → get_or (asked ++ entry ∷ []) n None ≡ x
before_last asked entry n x low h = get_or_append_left asked (entry ∷ []) None n low ∙ h

at_last : (asked : List (Option Asked)) (entry : Option Asked) (n : ℕ) → n ≡ length asked → get_or (asked ++ entry ∷ []) n None ≡ entry
at_last asked entry n e =
    let low : length asked ≤ n = omega arith in
    let here : n - length asked ≡ 0 = omega arith in
    get_or-append_right asked (entry ∷ []) (length asked) n None refl low ∙ ap (λ j. get_or (entry ∷ []) j None) here

one_more : (asked : List (Option Asked)) (entry : Option Asked) → length (asked ++ entry ∷ []) ≡ length asked + 1
one_more asked entry = length-append asked (entry ∷ [])

module _ (rules : Rules) (asked : List (Option Asked)) (owed : Option NtStatus) (s : State) (n : ℕ) (q : ClientRequest) (s' : State) (sound : IsSound rules s) (free : IsNone s.owed)
    (k : Knows rules asked owed s) (h : Calls rules s n q s') where
  is_next : n ≡ length asked
  is_next = h.next_number ∙ k.next

  -- what is known of the others
  still : (entry : Option Asked) → All (IsKnown rules (asked ++ entry ∷ []) s') s.requests
  still entry j d low =
      let o : OpenRequest = get_or s.requests j d in
      let x : IsKnown rules asked s o = k.requests j d low in
      let given : o.number < s.next_request = sound.0.given j d low in
      record {
        waits = before_last asked entry o.number (Some (asked_of o.request)) (subst (λ m. o.number < m) k.next given) x.waits;
        in_bounds = x.in_bounds;
        serves = serves_on rules s (Call n q) s' sound (inl (free, h)) o.number o.request x.serves;
        possible = x.possible;
      }

  admitted : (answer : Option NtStatus) → refusal rules s q ≡ answer → Admits rules s n q answer s' → (length q.bytes ≡ carried answer q) × Knows rules (asked ++ entry_of answer q ∷ []) answer s'
  admitted None e a = (
    a.carries,
    record {
      next = a.after.next_request ∙ ap (λ m. m + 1) is_next ∙ sym (one_more asked (Some (asked_of q)));
      owes = rw a.after.owed (free_owes (asked ++ Some (asked_of q) ∷ []) s.owed free);
      staying = a.after.removing ∙ k.staying;
      requests = All-permutation (IsKnown rules (asked ++ Some (asked_of q) ∷ []) s') _ _ (IsPermutation-sym _ _ a.after.requests)
          (All-cons (IsKnown rules (asked ++ Some (asked_of q) ∷ []) s') (new_request rules s n q) s.requests (record {
            waits = at_last asked (Some (asked_of q)) n is_next;
            in_bounds = λ t. bounds_of q.kind (is_in_bounds rules q) t (taken_in rules s q e).in_bounds;
            serves = called_serves rules s n q (IsWhole rules q) s' sound a;
            possible = All-replicate IsPossible (place_count rules q) Untouched tt;
          }) (still (Some (asked_of q))));
    },
  )
  admitted (Some status) e a = (
    ap length a.no_bytes,
    record {
      next = a.after.next_request ∙ ap (λ m. m + 1) is_next ∙ sym (one_more asked None);
      owes = rw a.after.owed (ap (λ m. m + 1) is_next ∙ sym (one_more asked None), refl);
      staying = a.after.removing ∙ k.staying;
      requests = All-permutation (IsKnown rules (asked ++ None ∷ []) s') _ _ (IsPermutation-sym _ _ a.after.requests) (still None);
    },
  )

-- AN ANSWER OF AN OPEN REQUEST

joined : (size : ℕ) (sectors : List (List ℕ)) → All (IsSector size) sectors → length (concat sectors) ≡ length sectors * size
joined size [] all = omega arith
joined size (x ∷ xs) all =
    let first : length x ≡ size = All-head (IsSector size) x xs all in
    let rest : length (concat xs) ≡ length xs * size = joined size xs (All-tail (IsSector size) x xs all) in
    let both : length (x ++ concat xs) ≡ length x + length (concat xs) = length-append x (concat xs) in
    sum (length xs) both first rest
  where
    sum : (n : ℕ) → length (x ++ concat xs) ≡ length x + length (concat xs) → length x ≡ size → length (concat xs) ≡ n * size → length (x ++ concat xs) ≡ suc n * size
    sum n a b c = omega arith

whole_length : (size length' : ℕ) → (length' % size) ≡ 0 → length' / size * size ≡ length'
whole_length size length' whole = let e : length' / size * size + length' % size ≡ length' = div-add-mod' length' size in omega arith

ends_failed : (a : Asked) (status : NtStatus) (informed count : ℕ) → status ≢ Success → is_failure status ≡ true → informed ≡ 0 → count ≡ 0 → ends a status informed count ≡ true
ends_failed a Success informed count other fails i c = absurd (other refl)
ends_failed a status informed count other fails i c = and_from (is_failure status) _ fails (and_from (informed == 0) _ (eq_true informed 0 i) (eq_true count 0 c))

none_informed : (q : ClientRequest) (status : NtStatus) → status ≢ Success → information q status ≡ 0
none_informed q Success other = absurd (other refl)
none_informed q status other = refl

no_bytes : (kind : Kind) (marks : List Mark) → list_all is_done marks ≡ false → answer_bytes kind marks ≡ []
no_bytes Read marks none = rw none refl
no_bytes Write marks none = refl
no_bytes Flush marks none = refl

module _ (rules : Rules) (asked : List (Option Asked)) (s : State) (n : ℕ) (status : NtStatus) (informed : ℕ) (bytes : List ℕ) (s' : State) (k : Knows rules asked None s)
    (h : AnswersWith rules s n status informed bytes s') where
  abbrev o : OpenRequest
  o = h.answers.request

  mine : IsKnown rules asked s o
  mine = All-head (IsKnown rules asked s) o h.answers.others (All-permutation (IsKnown rules asked s) _ _ h.answers.is_open k.requests)

  sized : IsSized rules o
  sized = All-head (IsSized rules) o h.answers.others (All-permutation (IsSized rules) _ _ h.answers.is_open mine.serves.sized)

  served : Mine o.request (IsWhole rules o.request s.arrays) o
  served = All-head (IsMine o.number o.request (IsWhole rules o.request s.arrays)) o h.answers.others
      (All-permutation (IsMine o.number o.request (IsWhole rules o.request s.arrays)) _ _ h.answers.is_open mine.serves.mine) refl

  -- a read's bytes are as many as it asked for
  read_length : o.request.kind ≡ Read → list_all is_done o.marks ≡ true → length (concat (map bytes_of_mark o.marks)) ≡ o.request.length
  read_length read done =
      let whole : All (IsSector rules.sector_size) (map bytes_of_mark o.marks) =
      All-map (IsSector rules.sector_size) bytes_of_mark o.marks (λ j d low. all_right (IsWhole rules o.request s.arrays) o.marks j d done served.right low read) in
      let is_bounded : is_in_bounds rules o.request ≡ true = mine.in_bounds (ap is_transfer read) in
      let parts = and_parts _ _ (and_parts _ _ is_bounded).0 in
      let count : place_count rules o.request ≡ o.request.length / rules.sector_size = counted o.request.kind read in
      joined rules.sector_size (map bytes_of_mark o.marks) whole ∙ ap (λ m. m * rules.sector_size) (length-map o.marks bytes_of_mark ∙ sized.places ∙ count)
      ∙ whole_length rules.sector_size o.request.length (eqb-true (o.request.length % rules.sector_size) 0 parts.1)
    where
      counted : (kind : Kind) → kind ≡ Read → (if is_transfer kind then o.request.length / rules.sector_size else 1) ≡ o.request.length / rules.sector_size
      counted kind e = rw e refl

  brings : list_all is_done o.marks ≡ true → length bytes ≡ brought o.request.kind o.request.length
  brings done = ap length h.answers.hands_back ∙ by_kind o.request.kind refl
    where
      by_kind : (kind : Kind) → o.request.kind ≡ kind → length (answer_bytes kind o.marks) ≡ brought kind o.request.length
      by_kind Read e = rw done (read_length e done)
      by_kind Write e = refl
      by_kind Flush e = refl

  fits_open : ends (asked_of o.request) status informed (length bytes) ≡ true
  fits_open = by_done (list_all is_done o.marks) refl
    where
      by_done : (b : Bool) → list_all is_done o.marks ≡ b → ends (asked_of o.request) status informed (length bytes) ≡ true
      by_done true done =
          let success : status ≡ Success = h.answers.success.1 done in
          let told : informed ≡ informed_of (asked_of o.request) = subst (λ x. informed ≡ information o.request x) success h.informs in
          subst (λ x. ends (asked_of o.request) x informed (length bytes) ≡ true) (sym success)
          (and_from (informed == informed_of (asked_of o.request)) _ (eq_true informed _ told) (eq_true (length bytes) _ (brings done)))
      by_done false none =
          let other : status ≢ Success = λ e. let done : list_all is_done o.marks ≡ true = h.answers.success.0 e in cc (none, done) in
          ends_failed (asked_of o.request) status informed (length bytes) other (caused rules s o o.marks status k.staying mine.possible h.answers.cause none)
          (h.informs ∙ none_informed o.request status other) (ap length (h.answers.hands_back ∙ no_bytes o.request.kind o.marks none))

  given : IsSound rules s → n < length asked
  given sound =
      let low : o.number < s.next_request = All-head (IsGiven s.next_request) o h.answers.others (All-permutation (IsGiven s.next_request) _ _ h.answers.is_open sound.0.given) in
      subst (λ m. n < m) k.next (subst (λ m. m < s.next_request) h.answers.is_number low)

  fits_answer : IsSound rules s → ends_by asked None n status informed (length bytes) ≡ true
  fits_answer sound =
      let there : slice_get asked n ≡ Some (Some (asked_of o.request)) =
      slice_get-get_or asked n None (given sound) ∙ ap (λ m. Some (get_or asked m None)) (sym h.answers.is_number) ∙ ap Some mine.waits in
      rw there fits_open

  knows_answer : IsSound rules s → IsNone s.owed → Knows rules (set asked n None) None s'
  knows_answer sound free = record {
    next = h.answers.after.next_request ∙ k.next ∙ sym (length-set asked n None);
    owes = rw h.answers.after.owed (free_owes (set asked n None) s.owed free);
    staying = h.answers.after.removing ∙ k.staying;
    requests = All-permutation (IsKnown rules (set asked n None) s') _ _ (IsPermutation-sym _ _ h.answers.after.requests) others;
  }
    where
      differ : All (λ x. x.number ≢ o.number) h.answers.others
      differ = distinct_first request_number s.requests o h.answers.others sound.0.requests h.answers.is_open

      others : All (IsKnown rules (set asked n None) s') h.answers.others
      others j d low =
          let x : OpenRequest = get_or h.answers.others j d in
          let known : IsKnown rules asked s x = All-tail (IsKnown rules asked s) o h.answers.others (All-permutation (IsKnown rules asked s) _ _ h.answers.is_open k.requests) j d low in
          record {
            waits = get_or-set_other asked n x.number None None (λ e. differ j d low (e ∙ sym h.answers.is_number)) ∙ known.waits;
            in_bounds = known.in_bounds;
            serves = serves_on rules s (Answer n status informed bytes) s' sound (inl (free, h)) x.number x.request known.serves;
            possible = known.possible;
          }

-- THE ANSWER OF A REFUSED CALL

owed_fits : (rules : Rules) (asked : List (Option Asked)) (owed : Option NtStatus) (s : State) (n : ℕ) (status : NtStatus) (informed : ℕ) (bytes : List ℕ) (s' : State) → IsSound rules s
    → Knows rules asked owed s → AnswersRefused s n status informed bytes s' → (ends_by asked owed n status informed (length bytes) ≡ true) × Knows rules (without asked owed n) None s'
owed_fits rules asked None s n status informed bytes s' sound k h = let none : Owes asked None (Some (record { number = n; status = status })) = subst (Owes asked None) h.is_owed k.owes in absurd none
owed_fits rules asked (Some status') s n status informed bytes s' sound k h =
    let owed : (n + 1 ≡ length asked) × (status ≡ status') = subst (Owes asked (Some status')) h.is_owed k.owes in (
      and_from (n == length asked - 1) _ (eq_true n (length asked - 1) (let e = owed.0 in omega arith))
          (and_from (value_of status == value_of status') _ (eq_true (value_of status) (value_of status') (ap value_of owed.1))
          (and_from (informed == 0) _ (eq_true informed 0 h.none_moved) (eq_true (length bytes) 0 (ap length h.no_bytes)))),
      record {
        next = h.after.next_request ∙ k.next;
        owes = rw h.after.owed tt;
        staying = h.after.removing ∙ k.staying;
        requests = All-permutation (IsKnown rules asked s') _ _ (IsPermutation-sym _ _ h.after.requests)
            (all_on rules asked (Some status') s (Answer n status informed bytes) s' sound (inr h) k);
      },
    )

-- A SERVICE OF WHICH ONLY SIZES AND PARTITIONS ARE KNOWN

-- no removal, and no limit of what is open
same_first : (unknown unbound empty : Bool) → first_some (when unknown InvalidHandle ∷ when false DeletePending ∷ when unbound InvalidParameter ∷ when empty Success ∷ when false DeviceBusy ∷ [])
    ≡ first_some (when unknown InvalidHandle ∷ when unbound InvalidParameter ∷ when empty Success ∷ [])
same_first true unbound empty = refl
same_first false true empty = refl
same_first false false true = refl
same_first false false false = refl

module _ (service : Rules) (depth max_transfer : ℕ) (window : Option ℕ) (faithful : Bool) where
  abbrev pub rules : Rules
  rules = record (of_service service depth max_transfer window) { faithful = faithful }

  refusal_is : (s : State) (q : ClientRequest) → s.removing ≡ false → refusal rules s q ≡ refused service q
  refusal_is s q staying = rw staying (same_first (is_none q.partition) (is_transfer q.kind && not (is_in_bounds service q)) (is_transfer q.kind && (q.length == 0)))

  pub fits_call : (asked : List (Option Asked)) (owed : Option NtStatus) (s : State) (n : ℕ) (q : ClientRequest) (s' : State) → IsSound rules s → IsNone s.owed → Knows rules asked owed s → Calls rules s n q s'
      → (fits service asked owed (Call n q) ≡ true) × Knows rules (asked ++ entry_of (refused service q) q ∷ []) (refused service q) s'
  fits_call asked owed s n q s' sound free k h =
      let free' : owed ≡ None = none_owed asked owed s.owed free k.owes in
      let made : (length q.bytes ≡ carried (refused service q) q) × Knows rules (asked ++ entry_of (refused service q) q ∷ []) (refused service q) s' =
      subst (λ a. (length q.bytes ≡ carried a q) × Knows rules (asked ++ entry_of a q ∷ []) a s') (refusal_is s q k.staying)
      (admitted rules asked owed s n q s' sound free k h (refusal rules s q) refl h.admits) in (
        and_from (is_none owed) _ (ap is_none free') (and_from (n == length asked) _ (eq_true n (length asked) (h.next_number ∙ k.next)) (eq_true (length q.bytes) _ made.0)),
        made.1,
      )

  pub fits_answered : (asked : List (Option Asked)) (owed : Option NtStatus) (s : State) (n : ℕ) (status : NtStatus) (informed : ℕ) (bytes : List ℕ) (s' : State) → IsSound rules s
      → Knows rules asked owed s → Step rules s (Answer n status informed bytes) s'
      → (ends_by asked owed n status informed (length bytes) ≡ true) × Knows rules (without asked owed n) None s'
  fits_answered asked owed s n status informed bytes s' sound k (inr h) = owed_fits rules asked owed s n status informed bytes s' sound k h
  fits_answered asked owed s n status informed bytes s' sound k (inl (free, h)) =
      let free' : owed ≡ None = none_owed asked owed s.owed free k.owes in
      let k' : Knows rules asked None s = subst (λ w. Knows rules asked w s) free' k in
      subst (λ w. (ends_by asked w n status informed (length bytes) ≡ true) × Knows rules (without asked w n) None s') (sym free')
      (fits_answer rules asked s n status informed bytes s' k' h sound, knows_answer rules asked s n status informed bytes s' k' h sound free)

  pub knows_opening : (arrays : List (List (List ℕ))) → Knows rules (None ∷ []) None (opening arrays)
  knows_opening arrays = record { next = refl; owes = tt; staying = refl; requests = All-nil (IsKnown rules (None ∷ []) (opening arrays)) }
