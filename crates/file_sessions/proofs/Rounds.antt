-- Requests one behind the other, along a run and its table.
use Rattle.std.proofs.Common.{◌≡◌, ◌<◌, ◌≤◌, inl, inr, ℕ, ◌+◌, Bool, true, false, List, [], ◌∷◌, ◌++◌, Option, Some, None, refl, sym, ap, subst, ◌∙◌, arith, length, map, length-append}
use Rattle.std.specs.Prelude.{All, Contains, if◌then◌else◌}
use Rattle.std.proofs.lemmas.List.Sorted.{All-permutation, IsPermutation-sym, length_permutation}
use Rattle.std.proofs.lemmas.List.Elements.{All-cons, All-contains, All-head, All-nil, All-tail}
use Rattle.ntstatus.specs.declared.NtStatus.{NtStatus}
use Rattle.ntstatus.specs.declared.NtStatus.TheVariants.{Success}
use Rattle.sector.specs.declared.Extent.{Extent}
use Rattle.srb.specs.Fate.{is_fresh}
use Rattle.srb.specs.declared.Class.TheVariants.{Good, Busy, Bad}
use Rattle.srb.specs.declared.Kind.{Kind}
use Rattle.srb.specs.declared.Kind.TheVariants.{Read, Write, Flush}
use Rattle.srb.specs.declared.DeviceLabel.TheVariants.{Start, Act, Fault, Return}
use Rattle.machine.specs.declared.ClientRequest.{ClientRequest}
use Rattle.machine.specs.declared.Label.{Label}
use Rattle.machine.specs.declared.Label.TheVariants.{Call, Device, Answer, Cancel, Pause, Resume, Remove, Surprise, Removed}
use Rattle.machine.specs.Answering.{Answers}
use Rattle.machine.specs.Calling.{Admits, new_request, refusal}
use Rattle.machine.specs.Numbers.{request_number}
use Rattle.machine.specs.Pieces.{ArePlaced}
use Rattle.machine.specs.Rules.{Rules, place_count}
use Rattle.machine.specs.State.{OpenRequest, Owed, Piece, State, opening}
use Rattle.machine.specs.Step.{Run, Step}
use Rattle.machine.proofs.Placed.{ArePlaced-Run, ArePlaced-Step, ArePlaced-opening}
use Rattle.machine.proofs.Same.{IsSame-refl}
use Rattle.machine_laws.specs.NumberLaws.{answer_numbers, awaited, call_numbers, owed_number}
use Rattle.machine_laws.specs.Reached.{AreWhole}
use Rattle.machine_laws.proofs.Awaiting.{calls_await}
use Rattle.machine_laws.proofs.Serving.{HoldsPlaces, PieceFits}
use Rattle.machine_laws.proofs.Sound.{Anything, IsSound, IsSound-Run, IsSound-Step, IsSound-opening}
use Rattle.loss.specs.Held.{Change, Puts, Secures, Tries, Syncs, Doubts, Work, act_changes, fault_changes, has, value_at}
use Rattle.loss.specs.Moved.{IsOut, Table, TableRun, work_of}
use Rattle.loss.specs.Laws.{AtWork, Brings, BringsSurely, Changes, Each, Throughout}
use Rattle.file_sessions.specs.OneByOne.{IsOfOne, IsRound, Round, labels_of, syncs}
use Rattle.file_sessions.proofs.Alone.{AllOf, all_step}
use Rattle.file_sessions.proofs.Remaining.{SurelyAtWork}
use Rattle.file_sessions.proofs.Spoiling.{fault_sticks, first_or_other, never_stuck, return_sticks}

-- A RUN IN TWO PARTS

pub record Split (rules : Rules) (s : State) (t : Table) (xs ys : List Label) (s' : State) (t' : Table) : Type 0 where
  pub mid : State
  pub between : Table
  pub first : TableRun rules s t xs mid between
  pub rest : TableRun rules mid between ys s' t'

abbrev pub split : (rules : Rules) (s : State) (t : Table) (xs ys : List Label) (s' : State) (t' : Table) → TableRun rules s t (xs ++ ys) s' t' → Split rules s t xs ys s' t'
split rules s t [] ys s' t' run = record { mid = s; between = t; first = (IsSame-refl s, λ i. refl); rest = run }
split rules s t (x ∷ xs) ys s' t' run = record {
  mid = (split rules run.0 run.1 xs ys s' t' run.4).mid;
  between = (split rules run.0 run.1 xs ys s' t' run.4).between;
  first = (run.0, run.1, run.2, run.3, (split rules run.0 run.1 xs ys s' t' run.4).first);
  rest = (split rules run.0 run.1 xs ys s' t' run.4).rest;
}

-- what holds throughout both holds throughout
pub throughout : (Holds : State → Label → Type 0) (rules : Rules) (s : State) (t : Table) (xs ys : List Label) (s' : State) (t' : Table) (run : TableRun rules s t (xs ++ ys) s' t')
    → Throughout Holds rules s t xs (split rules s t xs ys s' t' run).mid (split rules s t xs ys s' t' run).between (split rules s t xs ys s' t' run).first
    → Throughout Holds rules (split rules s t xs ys s' t' run).mid (split rules s t xs ys s' t' run).between ys s' t' (split rules s t xs ys s' t' run).rest
    → Throughout Holds rules s t (xs ++ ys) s' t' run
throughout Holds rules s t [] ys s' t' run a b = b
throughout Holds rules s t (x ∷ xs) ys s' t' run a b = (a.0, throughout Holds rules run.0 run.1 xs ys s' t' run.4 a.1 b)

pub as_run : (rules : Rules) (s : State) (t : Table) (labels : List Label) (s' : State) (t' : Table) → TableRun rules s t labels s' t' → Run rules s labels s'
as_run rules s t [] s' t' run = run.0
as_run rules s t (label ∷ labels) s' t' run = (run.0, run.2, as_run rules run.0 run.1 labels s' t' run.4)

-- a list that has an item
pub parted : {X : Type 0} (xs : List X) (x : X) → Contains xs x → (pre : List X) × (post : List X) × (xs ≡ pre ++ x ∷ post)
parted [] x (k, low, is) = absurd (omega (arith, low))
parted {X} (y ∷ xs) x h =
    elim (first_or_other y xs x h) [
      | inl is ↦ ([], xs, ap (λ (z : X). z ∷ xs) is)
      | inr other ↦ let r = parted xs x other in (y ∷ r.0, r.1, ap (λ (zs : List X). y ∷ zs) r.2)
    ]

-- BETWEEN TWO REQUESTS

-- nothing is open or owed
pub record IsCalm (rules : Rules) (s : State) : Type 0 where
  pub sound : IsSound rules s
  pub placed : ArePlaced s
  pub none_awaited : awaited s ≡ []

pub calm_opening : (rules : Rules) (arrays : List (List (List ℕ))) → AreWhole rules arrays → IsCalm rules (opening arrays)
calm_opening rules arrays whole = record { sound = IsSound-opening rules arrays whole; placed = ArePlaced-opening arrays; none_awaited = refl }

none_open : (owed : Option Owed) (os : List OpenRequest) → owed_number owed ++ map request_number os ≡ [] → os ≡ []
none_open None [] e = refl
none_open None (o ∷ os) e = absurd (cc (e))
none_open (Some w) os e = absurd (cc (e))

pub calm_requests : (rules : Rules) (s : State) → IsCalm rules s → s.requests ≡ []
calm_requests rules s k = none_open s.owed s.requests k.none_awaited

pub no_calls : (ls : List Label) → All IsOfOne ls → call_numbers ls ≡ []
no_calls [] all = refl
no_calls (Device label ∷ ls) all = no_calls ls (All-tail IsOfOne (Device label) ls all)
no_calls (Answer number status informed bytes ∷ ls) all = no_calls ls (All-tail IsOfOne (Answer number status informed bytes) ls all)
no_calls (Removed ∷ ls) all = no_calls ls (All-tail IsOfOne Removed ls all)
no_calls (Call number q ∷ ls) all = absurd (All-head IsOfOne (Call number q) ls all)
no_calls (Cancel number ∷ ls) all = absurd (All-head IsOfOne (Cancel number) ls all)
no_calls (Pause ∷ ls) all = absurd (All-head IsOfOne Pause ls all)
no_calls (Resume ∷ ls) all = absurd (All-head IsOfOne Resume ls all)
no_calls (Remove ∷ ls) all = absurd (All-head IsOfOne Remove ls all)
no_calls (Surprise ∷ ls) all = absurd (All-head IsOfOne Surprise ls all)

some_answer : (pre post : List Label) (number : ℕ) (status : NtStatus) (informed : ℕ) (bytes : List ℕ) → 0 < length (answer_numbers (pre ++ Answer number status informed bytes ∷ post))
some_answer [] post number status informed bytes = omega arith
some_answer (Answer n s i b ∷ pre) post number status informed bytes = omega arith
some_answer (Device label ∷ pre) post number status informed bytes = some_answer pre post number status informed bytes
some_answer (Removed ∷ pre) post number status informed bytes = some_answer pre post number status informed bytes
some_answer (Call n q ∷ pre) post number status informed bytes = some_answer pre post number status informed bytes
some_answer (Cancel n ∷ pre) post number status informed bytes = some_answer pre post number status informed bytes
some_answer (Pause ∷ pre) post number status informed bytes = some_answer pre post number status informed bytes
some_answer (Resume ∷ pre) post number status informed bytes = some_answer pre post number status informed bytes
some_answer (Remove ∷ pre) post number status informed bytes = some_answer pre post number status informed bytes
some_answer (Surprise ∷ pre) post number status informed bytes = some_answer pre post number status informed bytes

pub no_length : {X : Type 0} (xs : List X) → length xs ≡ 0 → xs ≡ []
no_length [] e = refl
no_length (x ∷ xs) e = absurd (omega (arith, e))

-- a request that was answered leaves nothing open
pub calm_round : (rules : Rules) (s : State) (r : Round) (s' : State) → IsCalm rules s → IsRound r → Run rules s (labels_of r) s' → IsCalm rules s'
calm_round rules s r s' k round run = record {
  sound = IsSound-Run rules s (labels_of r) s' k.sound run;
  placed = ArePlaced-Run rules s (labels_of r) s' k.sound.0 k.placed run;
  none_awaited = no_length (awaited s') none;
}
  where
    count : length (answer_numbers r.behind ++ awaited s') ≡ length (awaited s ++ call_numbers (labels_of r))
    count = length_permutation (awaited s ++ call_numbers (labels_of r)) (answer_numbers r.behind ++ awaited s') (calls_await rules s (labels_of r) s' run)

    one : length (awaited s ++ (r.number ∷ call_numbers r.behind)) ≡ 1
    one = ap (λ (xs : List ℕ). length (xs ++ (r.number ∷ call_numbers r.behind))) k.none_awaited ∙ ap (λ (xs : List ℕ). length (r.number ∷ xs)) (no_calls r.behind round.alone)

    some : 0 < length (answer_numbers r.behind)
    some =
        let p = parted r.behind (Answer r.number r.status r.informed r.bytes) round.answered in
        subst (λ (ls : List Label). 0 < length (answer_numbers ls)) (sym p.2) (some_answer p.0 p.1 r.number r.status r.informed r.bytes)

    none : length (awaited s') ≡ 0
    none = omega (arith, count, one, some, length-append (answer_numbers r.behind) (awaited s'))

-- ONE REQUEST

abbrev pub Mine : ℕ → ClientRequest → ℕ → ClientRequest → Type 0
Mine n q number request = (number ≡ n) × (request ≡ q)

abbrev pub Never : ℕ → ClientRequest → Type 0
Never number request = ⊥

pub none_of : (P : ℕ → ClientRequest → Type 0) (s : State) → s.requests ≡ [] → AllOf P s
none_of P s e = subst (λ (os : List OpenRequest). All (λ (o : OpenRequest). P o.number o.request) os) (sym e) (All-nil (λ (o : OpenRequest). P o.number o.request))

-- from its call on it alone is open
pub called_alone : (rules : Rules) (s : State) (n : ℕ) (q : ClientRequest) (s' : State) → IsCalm rules s → Step rules s (Call n q) s' → AllOf (Mine n q) s'
called_alone rules s n q s' k (inr h) = absurd h
called_alone rules s n q s' k (inl h) = by_refusal (refusal rules s q) h.1.admits
  where
    by_refusal : (why : Option NtStatus) → Admits rules s n q why s' → AllOf (Mine n q) s'
    by_refusal None a =
        All-permutation (λ (o : OpenRequest). Mine n q o.number o.request) (new_request rules s n q ∷ s.requests) s'.requests (IsPermutation-sym _ _ a.after.requests)
        (All-cons (λ (o : OpenRequest). Mine n q o.number o.request) (new_request rules s n q) s.requests (refl, refl) (none_of (Mine n q) s (calm_requests rules s k)))
    by_refusal (Some status) a =
        All-permutation (λ (o : OpenRequest). Mine n q o.number o.request) s.requests s'.requests (IsPermutation-sym _ _ a.after.requests) (none_of (Mine n q) s (calm_requests rules s k))

-- a refused one isn't
pub refused_never : (rules : Rules) (s : State) (n : ℕ) (q : ClientRequest) (s' : State) (status : NtStatus) → IsCalm rules s → refusal rules s q ≡ Some status → Step rules s (Call n q) s' → AllOf Never s'
refused_never rules s n q s' status k e (inr h) = absurd h
refused_never rules s n q s' status k e (inl h) =
    let a : Admits rules s n q (Some status) s' = subst (λ (why : Option NtStatus). Admits rules s n q why s') e h.1.admits in
    All-permutation (λ (o : OpenRequest). Never o.number o.request) s.requests s'.requests (IsPermutation-sym _ _ a.after.requests) (none_of Never s (calm_requests rules s k))

-- WHAT ITS PIECES BRING

module _ (Such : List ℕ → Type 0) (size : ℕ) (w : Work) (i : ℕ) (such : w.kind ≡ Write → has w.extent i ≡ true → Such (value_at size w i)) where
  act_each : (number : ℕ) → Each (BringsSurely Such) (act_changes size number w i)
  act_each number = by_kind w.kind refl
    where
      by_has : w.kind ≡ Write → (b : Bool) → has w.extent i ≡ b → (t : Bool) → Each (BringsSurely Such) (if b then (if t then Secures (value_at size w i) else Puts (value_at size w i)) ∷ [] else [])
      by_has is true e true = (such is e, tt)
      by_has is true e false = (such is e, tt)
      by_has is false e t = tt

      by_kind : (kind : Kind) → w.kind ≡ kind → Each (BringsSurely Such) (act_changes size number (record w { kind = kind }) i)
      by_kind Read e = tt
      by_kind Write e = by_has e (has w.extent i) refl w.through
      by_kind Flush e = (tt, tt)

  fault_each : Each (Brings Such) (fault_changes size w i)
  fault_each = by_kind w.kind refl
    where
      by_has : w.kind ≡ Write → (b : Bool) → has w.extent i ≡ b → (t : Bool) → Each (Brings Such) ((if b then Tries (value_at size w i) ∷ [] else []) ++ (if t then Doubts ∷ [] else []))
      by_has is true e true = (such is e, (tt, tt))
      by_has is true e false = (such is e, tt)
      by_has is false e true = (tt, tt)
      by_has is false e false = tt

      by_kind : (kind : Kind) → w.kind ≡ kind → Each (Brings Such) (fault_changes size (record w { kind = kind }) i)
      by_kind Read e = tt
      by_kind Write e = by_has e (has w.extent i) refl w.through
      by_kind Flush e = (tt, tt)

  -- without a sync no failure brings a doubt
  fault_sure : (w.kind ≡ Write → w.through ≡ false) → (w.kind ≡ Flush → ⊥) → Each (BringsSurely Such) (fault_changes size w i)
  fault_sure plain no_flush = by_kind w.kind refl
    where
      by_has : w.kind ≡ Write → (b : Bool) → has w.extent i ≡ b → (t : Bool) → t ≡ false → Each (BringsSurely Such) ((if b then Tries (value_at size w i) ∷ [] else []) ++ (if t then Doubts ∷ [] else []))
      by_has is true e false plain = (such is e, tt)
      by_has is false e false plain = tt
      by_has is b e true plain = absurd (cc (plain))

      by_kind : (kind : Kind) → w.kind ≡ kind → Each (BringsSurely Such) (fault_changes size (record w { kind = kind }) i)
      by_kind Read e = tt
      by_kind Write e = by_has e (has w.extent i) refl w.through (plain e)
      by_kind Flush e = absurd (no_flush e)

sure_brings : (Such : List ℕ → Type 0) (changes : List Change) → Each (BringsSurely Such) changes → Each (Brings Such) changes
sure_brings Such [] each = tt
sure_brings Such (Puts value ∷ changes) each = (each.0, sure_brings Such changes each.1)
sure_brings Such (Secures value ∷ changes) each = (each.0, sure_brings Such changes each.1)
sure_brings Such (Tries value ∷ changes) each = (each.0, sure_brings Such changes each.1)
sure_brings Such (Syncs number ∷ changes) each = (tt, sure_brings Such changes each.1)
sure_brings Such (Doubts ∷ changes) each = absurd each.0

-- a request without a sync
syncs_not : (kind : Kind) (through : Bool) → (elim kind [ Read ↦ false | Write ↦ through | Flush ↦ true ]) ≡ false → (kind ≡ Write → through ≡ false) × (kind ≡ Flush → ⊥)
syncs_not Read through e = (λ is. absurd (cc (is)), λ is. cc (is))
syncs_not Write through e = (λ is. e, λ is. cc (is))
syncs_not Flush through e = (λ is. absurd (cc (is)), λ is. cc (e))

-- ALONG ITS LABELS

-- what its writes have for sector i is such a value
abbrev pub Fits : Rules → ClientRequest → ℕ → (List ℕ → Type 0) → Type 0
Fits rules q i Such =
    (places : Extent) → places.first + places.count ≤ place_count rules q → q.kind ≡ Write → has (work_of rules q places).extent i ≡ true → Such (value_at rules.sector_size (work_of rules q places) i)

-- nothing is open, so nothing is brought
nothing_brought : (rules : Rules) (i : ℕ) (So : Change → Type 0) (s : State) (label : Label) → AllOf Never s → Changes rules i So s label
nothing_brought rules i So s (Device (Act number bytes)) never = λ piece owner out. absurd (All-contains (λ (o : OpenRequest). Never o.number o.request) s.requests owner never out.is_open)
nothing_brought rules i So s (Device (Fault number)) never = λ piece owner out. absurd (All-contains (λ (o : OpenRequest). Never o.number o.request) s.requests owner never out.is_open)
nothing_brought rules i So s (Device (Return number (Bad completion))) never = λ piece owner out. absurd (All-contains (λ (o : OpenRequest). Never o.number o.request) s.requests owner never out.is_open)
nothing_brought rules i So s (Device (Return number Good)) never = tt
nothing_brought rules i So s (Device (Return number Busy)) never = tt
nothing_brought rules i So s (Device (Start number tag block)) never = tt
nothing_brought rules i So s (Call number q) never = tt
nothing_brought rules i So s (Answer number status informed bytes) never = tt
nothing_brought rules i So s (Cancel number) never = tt
nothing_brought rules i So s Pause never = tt
nothing_brought rules i So s Resume never = tt
nothing_brought rules i So s Remove never = tt
nothing_brought rules i So s Surprise never = tt
nothing_brought rules i So s Removed never = tt

pub nothing_along : (rules : Rules) (i : ℕ) (So : Change → Type 0) (s : State) (t : Table) (labels : List Label) (s' : State) (t' : Table) (run : TableRun rules s t labels s' t') → All IsOfOne labels → AllOf Never s
    → Throughout (Changes rules i So) rules s t labels s' t' run
nothing_along rules i So s t [] s' t' run of never = tt
nothing_along rules i So s t (label ∷ labels) s' t' run of never = (
  nothing_brought rules i So s label never,
  nothing_along rules i So run.0 run.1 labels s' t' run.4 (All-tail IsOfOne label labels of) (all_step Never rules s label run.0 (All-head IsOfOne label labels of) run.2 never),
)

module _ (rules : Rules) (n : ℕ) (q : ClientRequest) (i : ℕ) (Such : List ℕ → Type 0) (fits : Fits rules q i Such) where
  -- what is known of a piece out
  record IsIts (s : State) (piece : Piece) (owner : OpenRequest) : Type 0 where
    number : owner.number ≡ n
    request : owner.request ≡ q
    inside : piece.places.first + piece.places.count ≤ place_count rules q

  its : (s : State) (number : ℕ) (piece : Piece) (owner : OpenRequest) → IsSound rules s → AllOf (Mine n q) s → IsOut s number piece owner → IsIts s piece owner
  its s number piece owner sound mine out =
      let is : (owner.number ≡ n) × (owner.request ≡ q) = All-contains (λ (o : OpenRequest). Mine n q o.number o.request) s.requests owner mine out.is_open in
      let f : PieceFits rules 0 (Anything s.arrays) s.next_request s.requests piece = All-contains (PieceFits rules 0 (Anything s.arrays) s.next_request s.requests) s.pieces piece sound.1.pieces out.is_out in
      record {
        number = is.0;
        request = is.1;
        inside = subst (λ (r : ClientRequest). piece.places.first + piece.places.count ≤ place_count rules r) is.1 (All-contains (HoldsPlaces rules piece) s.requests owner f.inside out.is_open out.is_owner);
      }

  of_act : (s : State) (piece : Piece) (owner : OpenRequest) (number : ℕ) → IsIts s piece owner → Each (BringsSurely Such) (act_changes rules.sector_size number (work_of rules owner.request piece.places) i)
  of_act s piece owner number h =
      subst (λ (r : ClientRequest). Each (BringsSurely Such) (act_changes rules.sector_size number (work_of rules r piece.places) i)) (sym h.request)
      (act_each Such rules.sector_size (work_of rules q piece.places) i (λ is there. fits piece.places h.inside is there) number)

  of_fault : (s : State) (piece : Piece) (owner : OpenRequest) → IsIts s piece owner → Each (Brings Such) (fault_changes rules.sector_size (work_of rules owner.request piece.places) i)
  of_fault s piece owner h =
      subst (λ (r : ClientRequest). Each (Brings Such) (fault_changes rules.sector_size (work_of rules r piece.places) i)) (sym h.request)
      (fault_each Such rules.sector_size (work_of rules q piece.places) i (λ is there. fits piece.places h.inside is there))

  sure_fault : syncs q ≡ false → (s : State) (piece : Piece) (owner : OpenRequest) → IsIts s piece owner → Each (BringsSurely Such) (fault_changes rules.sector_size (work_of rules owner.request piece.places) i)
  sure_fault none s piece owner h =
      let plain = syncs_not q.kind q.through none in
      subst (λ (r : ClientRequest). Each (BringsSurely Such) (fault_changes rules.sector_size (work_of rules r piece.places) i)) (sym h.request)
      (fault_sure Such rules.sector_size (work_of rules q piece.places) i (λ is there. fits piece.places h.inside is there) plain.0 plain.1)

  if_fresh : (So : Change → Type 0) (b : Bool) (changes : List Change) → Each So changes → Each So (if b then changes else [])
  if_fresh So true changes each = each
  if_fresh So false changes each = tt

  -- also where it fails
  brings_label : (s : State) (label : Label) → IsSound rules s → AllOf (Mine n q) s → Changes rules i (Brings Such) s label
  brings_label s (Device (Act number bytes)) sound mine = λ piece owner out. sure_brings Such (act_changes rules.sector_size number (work_of rules owner.request piece.places) i) (of_act s piece owner number (its s number piece owner sound mine out))
  brings_label s (Device (Fault number)) sound mine = λ piece owner out. of_fault s piece owner (its s number piece owner sound mine out)
  brings_label s (Device (Return number (Bad completion))) sound mine =
      λ piece owner out. if_fresh (Brings Such) (is_fresh piece.fate) (fault_changes rules.sector_size (work_of rules owner.request piece.places) i) (of_fault s piece owner (its s number piece owner sound mine out))
  brings_label s (Device (Return number Good)) sound mine = tt
  brings_label s (Device (Return number Busy)) sound mine = tt
  brings_label s (Device (Start number tag block)) sound mine = tt
  brings_label s (Call number r) sound mine = tt
  brings_label s (Answer number status informed bytes) sound mine = tt
  brings_label s (Cancel number) sound mine = tt
  brings_label s Pause sound mine = tt
  brings_label s Resume sound mine = tt
  brings_label s Remove sound mine = tt
  brings_label s Surprise sound mine = tt
  brings_label s Removed sound mine = tt

  pub brings_along : (s : State) (t : Table) (labels : List Label) (s' : State) (t' : Table) (run : TableRun rules s t labels s' t') → All IsOfOne labels → IsSound rules s → AllOf (Mine n q) s
      → Throughout (Changes rules i (Brings Such)) rules s t labels s' t' run
  brings_along s t [] s' t' run of sound mine = tt
  brings_along s t (label ∷ labels) s' t' run of sound mine = (
    brings_label s label sound mine,
    brings_along run.0 run.1 labels s' t' run.4 (All-tail IsOfOne label labels of) (IsSound-Step rules s label run.0 sound run.2) (all_step (Mine n q) rules s label run.0 (All-head IsOfOne label labels of) run.2 mine),
  )

  pub brought_at_work : (s : State) → IsSound rules s → AllOf (Mine n q) s → AtWork rules i Such s
  brought_at_work s sound mine = λ piece owner h. of_fault s piece owner (its s piece.number piece owner sound mine h.out)

  -- without a sync no doubt comes
  plain_label : syncs q ≡ false → (s : State) (label : Label) → IsSound rules s → AllOf (Mine n q) s → Changes rules i (BringsSurely Such) s label
  plain_label none s (Device (Act number bytes)) sound mine = λ piece owner out. of_act s piece owner number (its s number piece owner sound mine out)
  plain_label none s (Device (Fault number)) sound mine = λ piece owner out. sure_fault none s piece owner (its s number piece owner sound mine out)
  plain_label none s (Device (Return number (Bad completion))) sound mine =
      λ piece owner out. if_fresh (BringsSurely Such) (is_fresh piece.fate) (fault_changes rules.sector_size (work_of rules owner.request piece.places) i) (sure_fault none s piece owner (its s number piece owner sound mine out))
  plain_label none s (Device (Return number Good)) sound mine = tt
  plain_label none s (Device (Return number Busy)) sound mine = tt
  plain_label none s (Device (Start number tag block)) sound mine = tt
  plain_label none s (Call number r) sound mine = tt
  plain_label none s (Answer number status informed bytes) sound mine = tt
  plain_label none s (Cancel number) sound mine = tt
  plain_label none s Pause sound mine = tt
  plain_label none s Resume sound mine = tt
  plain_label none s Remove sound mine = tt
  plain_label none s Surprise sound mine = tt
  plain_label none s Removed sound mine = tt

  pub plain_along : syncs q ≡ false → (s : State) (t : Table) (labels : List Label) (s' : State) (t' : Table) (run : TableRun rules s t labels s' t') → All IsOfOne labels → IsSound rules s → AllOf (Mine n q) s
      → Throughout (Changes rules i (BringsSurely Such)) rules s t labels s' t' run
  plain_along none s t [] s' t' run of sound mine = tt
  plain_along none s t (label ∷ labels) s' t' run of sound mine = (
    plain_label none s label sound mine,
    plain_along none run.0 run.1 labels s' t' run.4 (All-tail IsOfOne label labels of) (IsSound-Step rules s label run.0 sound run.2) (all_step (Mine n q) rules s label run.0 (All-head IsOfOne label labels of) run.2 mine),
  )

  pub plain_at_work : syncs q ≡ false → (s : State) → IsSound rules s → AllOf (Mine n q) s → SurelyAtWork rules i Such s
  plain_at_work none s sound mine = λ piece owner h. sure_fault none s piece owner (its s piece.number piece owner sound mine h.out)

  -- nor where it succeeds in the end: then none of its pieces failed
  module _ (ended : State) (bytes : List ℕ) (after : State) (answers : Answers rules ended n Success bytes after) where
    sure_label : (s : State) (label : Label) (mid : State) (labels : List Label) → IsSound rules s → ArePlaced s → AllOf (Mine n q) s → Step rules s label mid → All IsOfOne labels → Run rules mid labels ended → IsSound rules mid → ArePlaced mid
        → Changes rules i (BringsSurely Such) s label
    sure_label s (Device (Act number handed)) mid labels sound placed mine step of run sound' placed' = λ piece owner out. of_act s piece owner number (its s number piece owner sound mine out)
    sure_label s (Device (Fault number)) mid labels sound placed mine step of run sound' placed' = λ piece owner out.
        absurd (never_stuck rules n mid labels ended bytes after sound'.0 placed' of run answers (fault_sticks rules n s number mid piece owner sound.0 step out (its s number piece owner sound mine out).number))
    sure_label s (Device (Return number (Bad completion))) mid labels sound placed mine step of run sound' placed' = λ piece owner out.
        absurd (never_stuck rules n mid labels ended bytes after sound'.0 placed' of run answers (return_sticks rules n s number completion mid piece owner sound.0 placed step out (its s number piece owner sound mine out).number))
    sure_label s (Device (Return number Good)) mid labels sound placed mine step of run sound' placed' = tt
    sure_label s (Device (Return number Busy)) mid labels sound placed mine step of run sound' placed' = tt
    sure_label s (Device (Start number tag block)) mid labels sound placed mine step of run sound' placed' = tt
    sure_label s (Call number r) mid labels sound placed mine step of run sound' placed' = tt
    sure_label s (Answer number status informed given) mid labels sound placed mine step of run sound' placed' = tt
    sure_label s (Cancel number) mid labels sound placed mine step of run sound' placed' = tt
    sure_label s Pause mid labels sound placed mine step of run sound' placed' = tt
    sure_label s Resume mid labels sound placed mine step of run sound' placed' = tt
    sure_label s Remove mid labels sound placed mine step of run sound' placed' = tt
    sure_label s Surprise mid labels sound placed mine step of run sound' placed' = tt
    sure_label s Removed mid labels sound placed mine step of run sound' placed' = tt

    pub sure_along : (s : State) (t : Table) (labels : List Label) (t' : Table) (run : TableRun rules s t labels ended t') → All IsOfOne labels → IsSound rules s → ArePlaced s → AllOf (Mine n q) s
        → Throughout (Changes rules i (BringsSurely Such)) rules s t labels ended t' run
    sure_along s t [] t' run of sound placed mine = tt
    sure_along s t (label ∷ labels) t' run of sound placed mine =
        let sound' : IsSound rules run.0 = IsSound-Step rules s label run.0 sound run.2 in
        let placed' : ArePlaced run.0 = ArePlaced-Step rules s label run.0 sound.0 placed run.2 in (
          sure_label s label run.0 labels sound placed mine run.2 (All-tail IsOfOne label labels of) (as_run rules run.0 run.1 labels ended t' run.4) sound' placed',
          sure_along run.0 run.1 labels t' run.4 (All-tail IsOfOne label labels of) sound' placed' (all_step (Mine n q) rules s label run.0 (All-head IsOfOne label labels of) run.2 mine),
        )
