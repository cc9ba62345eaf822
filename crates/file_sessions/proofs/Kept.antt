-- What was answered SUCCESS, of requests that are served one at a time, survives.
use Rattle.std.proofs.Common.{◌≡◌, ◌<◌, ◌≤◌, inl, inr, ℕ, ◌+◌, ◌-◌, Bool, true, false, List, [], ◌∷◌, ◌++◌, Option, Some, None, refl, sym, ap, subst, ◌∙◌, arith, length, map, append_assoc, append-nil, length-append}
use Rattle.std.proofs.lemmas.List.{length-map}
use Rattle.std.specs.Prelude.{All, IsNone, IsPermutation, IsTrue, slice_get}
use Rattle.std.proofs.lemmas.List.Sorted.{All-permutation, IsPermutation-sym, length_permutation}
use Rattle.std.proofs.lemmas.List.Elements.{All-cons, All-contains, All-head, All-nil, All-tail}
use Rattle.ntstatus.specs.declared.NtStatus.{NtStatus}
use Rattle.ntstatus.specs.declared.NtStatus.TheVariants.{Success}
use Rattle.sector.specs.declared.Extent.{Extent}
use Rattle.machine.specs.declared.ClientRequest.{ClientRequest}
use Rattle.machine.specs.declared.Label.{Label}
use Rattle.machine.specs.declared.Label.TheVariants.{Call, Answer}
use Rattle.machine.specs.Answering.{Answers}
use Rattle.machine.specs.Calling.{Opens, refusal}
use Rattle.machine.specs.Numbers.{request_number}
use Rattle.machine.specs.Pieces.{ArePlaced}
use Rattle.machine.specs.Rules.{Rules, first_sector, home, place_count}
use Rattle.machine.specs.State.{OpenRequest, Owed, State, opening}
use Rattle.machine.specs.Step.{Run, Step}
use Rattle.machine.proofs.Placed.{ArePlaced-Run, ArePlaced-Step, differ_first}
use Rattle.machine.proofs.Same.{IsSame-refl, none_there}
use Rattle.machine_laws.specs.Along.{Sometime}
use Rattle.machine_laws.specs.NumberLaws.{answer_numbers, awaited, call_numbers, owed_number}
use Rattle.machine_laws.specs.Reached.{IsReached}
use Rattle.machine_laws.specs.Success.{MovesPlace, bytes_due}
use Rattle.machine_laws.proofs.Awaiting.{calls_await}
use Rattle.machine_laws.proofs.Going.{labels_are_of_one}
use Rattle.machine_laws.proofs.Sound.{IsSound, IsSound-Run, IsSound-Step}
use Rattle.machine_laws.proofs.Success.{answered_was_moved}
use Rattle.loss.specs.Moved.{IsReachedWith, Table, TableRun, held_on}
use Rattle.loss.specs.Laws.{AtWork, Brings, BringsSurely, Changes, Meanwhile, Succeeds, Throughout}
use Rattle.file_sessions.specs.OneByOne.{IsAway, IsOfOne, IsPlain, IsRound, Round, SyncsWell, labels_of, labels_of_all, syncs}
use Rattle.file_sessions.proofs.Alike.{table_append, table_same}
use Rattle.file_sessions.proofs.Alone.{AllOf, all_along, all_step}
use Rattle.file_sessions.proofs.Moments.{apart_at}
use Rattle.file_sessions.proofs.Remaining.{SurelyAtWork}
use Rattle.file_sessions.proofs.Rounds.{Fits, IsCalm, Mine, Never, Split, as_run, brings_along, brought_at_work, called_alone, calm_requests, calm_round, no_calls, no_length, none_of, nothing_along, parted, plain_along, plain_at_work, refused_never, split, sure_along, throughout}
use Rattle.file_sessions.proofs.Within.{there_or_away}

-- LISTS

all_front : {X : Type 0} (P : X → Type 0) (xs ys : List X) → All P (xs ++ ys) → All P xs
all_front P [] ys all = All-nil P
all_front P (x ∷ xs) ys all = All-cons P x xs (All-head P x (xs ++ ys) all) (all_front P xs ys (All-tail P x (xs ++ ys) all))

all_behind : {X : Type 0} (P : X → Type 0) (xs ys : List X) → All P (xs ++ ys) → All P ys
all_behind P [] ys all = all
all_behind P (x ∷ xs) ys all = all_behind P xs ys (All-tail P x (xs ++ ys) all)

-- AN AWAY REQUEST BRINGS NOTHING

abbrev pub Base : Rules → Option ℕ → Type 0
Base rules p = (b : ℕ) × ((x : ℕ) → home rules p x ≡ b + x)

pub base_of : (rules : Rules) (p : Option ℕ) → Base rules p
base_of rules None = (0, λ x. omega arith)
base_of rules (Some p) = by_entry (slice_get rules.partitions p)
  where
    by_entry : (e : Option Extent) → (b : ℕ) × ((x : ℕ) → (elim e [ Some extent ↦ extent.first + x | None ↦ x ]) ≡ b + x)
    by_entry None = (0, λ x. omega arith)
    by_entry (Some extent) = (extent.first, λ x. refl)

away_fits : (rules : Rules) (i : ℕ) (Such : List ℕ → Type 0) (r : Round) → IsAway rules i r → Fits rules r.request i Such
away_fits rules i Such r away places inside is_write there =
    let b : Base rules r.request.partition = base_of rules r.request.partition in
    let lba : ℕ = home rules r.request.partition (first_sector rules r.request + places.first) in
    let from : lba ≡ b.0 + (first_sector rules r.request + places.first) = b.1 (first_sector rules r.request + places.first) in
    elim (there_or_away lba places.count i) [
      | inl h ↦
          let place : ℕ = places.first + (i - lba) in
          let at : home rules r.request.partition (first_sector rules r.request + place) ≡ b.0 + (first_sector rules r.request + place) = b.1 (first_sector rules r.request + place) in
          let low : lba ≤ i = h.1 in
          let high : i < lba + places.count = h.2 in
          absurd (away is_write place (omega (arith, inside, low, high)) (at ∙ whole lba b.0 (first_sector rules r.request) places.first i from low))
      | inr h ↦ absurd (let no : true ≡ false = sym there ∙ h.0 in cc (no))
    ]
  where
    whole : (lba base first places i : ℕ) → lba ≡ base + (first + places) → lba ≤ i → base + (first + (places + (i - lba))) ≡ i
    whole lba base first places i e low = omega arith

-- CALM

-- quiet labels from a calm state lead to a calm one
pub calm_on : (rules : Rules) (s : State) (labels : List Label) (s' : State) → IsCalm rules s → All IsOfOne labels → Run rules s labels s' → IsCalm rules s'
calm_on rules s labels s' k of run = record {
  sound = IsSound-Run rules s labels s' k.sound run;
  placed = ArePlaced-Run rules s labels s' k.sound.0 k.placed run;
  none_awaited = no_length (awaited s') (ended (length_permutation (awaited s ++ call_numbers labels) (answer_numbers labels ++ awaited s') (calls_await rules s labels s' run)));
}
  where
    none : length (awaited s ++ call_numbers labels) ≡ 0
    none = ap (λ (xs : List ℕ). length (xs ++ call_numbers labels)) k.none_awaited ∙ ap (λ (xs : List ℕ). length xs) (no_calls labels of)

    no_more : (xs ys : List ℕ) → length (xs ++ ys) ≡ 0 → length ys ≡ 0
    no_more [] ys e = e
    no_more (x ∷ xs) ys e = absurd (omega (arith, e))

    ended : length (answer_numbers labels ++ awaited s') ≡ length (awaited s ++ call_numbers labels) → length (awaited s') ≡ 0
    ended e = no_more (answer_numbers labels) (awaited s') (e ∙ none)

pub calm_all : (rules : Rules) (s : State) (t : Table) (rs : List Round) (s' : State) (t' : Table) → IsCalm rules s → All IsRound rs → TableRun rules s t (labels_of_all rs) s' t' → IsCalm rules s'
calm_all rules s t [] s' t' k rounds run = calm_on rules s [] s' k (All-nil IsOfOne) run.0
calm_all rules s t (r ∷ rs) s' t' k rounds run =
    let p = split rules s t (labels_of r) (labels_of_all rs) s' t' run in
    calm_all rules p.mid p.between rs s' t' (calm_round rules s r p.mid k (All-head IsRound r rs rounds) (as_run rules s t (labels_of r) p.mid p.between p.first)) (All-tail IsRound r rs rounds) p.rest

pub never_in : (rules : Rules) (s : State) → IsCalm rules s → AllOf Never s
never_in rules s k = none_of Never s (calm_requests rules s k)

none_left : {X : Type 0} (P : X → Type 0) (xs : List X) → All P xs → All (λ x. P x → ⊥) xs → xs ≡ []
none_left P [] all none = refl
none_left P (x ∷ xs) all none = absurd (All-head (λ x. P x → ⊥) x xs none (All-head P x xs all))

-- its answer leaves nothing open
answered_calm : (rules : Rules) (s : State) (n : ℕ) (q : ClientRequest) (status : NtStatus) (informed : ℕ) (bytes : List ℕ) (s' : State) → IsSound rules s → ArePlaced s → AllOf (Mine n q) s → Answers rules s n status bytes s' → IsNone s.owed
    → Step rules s (Answer n status informed bytes) s' → IsCalm rules s'
answered_calm rules s n q status informed bytes s' sound placed mine h free step = record {
  sound = IsSound-Step rules s (Answer n status informed bytes) s' sound step;
  placed = ArePlaced-Step rules s (Answer n status informed bytes) s' sound.0 placed step;
  none_awaited = nothing s'.owed s'.requests (h.after.owed ∙ none_owed s.owed free) (none_there h.others s'.requests none (IsPermutation-sym _ _ h.after.requests));
}
  where
    none : h.others ≡ []
    none =
        none_left (λ (o : OpenRequest). o.number ≡ h.request.number) h.others
        (subst (λ (m : ℕ). All (λ (o : OpenRequest). o.number ≡ m) h.others) (sym h.is_number) (numbers h.others (All-tail (λ (o : OpenRequest). Mine n q o.number o.request) h.request h.others
        (All-permutation (λ (o : OpenRequest). Mine n q o.number o.request) s.requests (h.request ∷ h.others) h.is_open mine))))
        (differ_first s h.request h.others sound.0 h.is_open)
      where
        numbers : (os : List OpenRequest) → All (λ (o : OpenRequest). Mine n q o.number o.request) os → All (λ (o : OpenRequest). o.number ≡ n) os
        numbers os all = λ k d low. (all k d low).0

    none_owed : (w : Option Owed) → IsNone w → w ≡ None
    none_owed None h = refl
    none_owed (Some w) h = absurd (cc (h))

    nothing : (w : Option Owed) (os : List OpenRequest) → w ≡ None → os ≡ [] → owed_number w ++ map request_number os ≡ []
    nothing w os e f = rw (e, f) refl

-- A REQUEST THAT WAS ANSWERED SUCCESS

-- where nothing is open no piece acts
none_moves : (rules : Rules) (n place : ℕ) (sector : List ℕ) (s : State) (labels : List Label) (s' : State) (run : Run rules s labels s') → All IsOfOne labels → AllOf Never s → Sometime (MovesPlace rules n place sector) rules s labels s' run → ⊥
none_moves rules n place sector s [] s' run of never h = h
none_moves rules n place sector s (label ∷ labels) s' run of never (inl h) = All-contains (λ (o : OpenRequest). Never o.number o.request) s.requests h.act.owner never h.act.is_open
none_moves rules n place sector s (label ∷ labels) s' run of never (inr h) =
    none_moves rules n place sector run.0 labels s' run.2 (All-tail IsOfOne label labels of) (all_step Never rules s label run.0 (All-head IsOfOne label labels of) run.1 never) h

-- it was opened by its call, and ended at its answer
record Ended (rules : Rules) (s : State) (n : ℕ) (q : ClientRequest) (informed : ℕ) (bytes : List ℕ) (called ended after : State) : Type 0 where
  opens : Opens rules s n q called
  answers : Answers rules ended n Success bytes after
  mine : AllOf (Mine n q) ended
  sound : IsSound rules ended
  placed : ArePlaced ended
  calm : IsCalm rules after

ended_so : (rules : Rules) (s : State) (n : ℕ) (q : ClientRequest) (informed : ℕ) (bytes : List ℕ) (called : State) (pre : List Label) (ended after : State) → refusal rules s q ≡ None → IsCalm rules s → Step rules s (Call n q) called → All IsOfOne pre
    → Run rules called pre ended → Step rules ended (Answer n Success informed bytes) after → Ended rules s n q informed bytes called ended after
ended_so rules s n q informed bytes called pre ended after none k call of run step =
    let both : Opens rules s n q called × Answers rules ended n Success bytes after = labels_are_of_one rules n q Success informed bytes s called pre ended after none call run step in
    let sound' : IsSound rules called = IsSound-Step rules s (Call n q) called k.sound call in
    let sound : IsSound rules ended = IsSound-Run rules called pre ended sound' run in
    let placed : ArePlaced ended = ArePlaced-Run rules called pre ended sound'.0 (ArePlaced-Step rules s (Call n q) called k.sound.0 k.placed call) run in
    let mine : AllOf (Mine n q) ended = all_along (Mine n q) rules called pre ended of run (called_alone rules s n q called k call) in
    record {
      opens = both.0;
      answers = both.1;
      mine = mine;
      sound = sound;
      placed = placed;
      calm = answered_calm rules ended n q Success informed bytes after sound placed mine both.1 (free both.1 step) step;
    }
  where
    one : length (awaited s ++ (n ∷ call_numbers pre)) ≡ 1
    one = ap (λ (xs : List ℕ). length (xs ++ (n ∷ call_numbers pre))) k.none_awaited ∙ ap (λ (xs : List ℕ). length (n ∷ xs)) (no_calls pre of)

    count : length (answer_numbers pre ++ awaited ended) ≡ length (awaited s ++ (n ∷ call_numbers pre))
    count = length_permutation (awaited s ++ (n ∷ call_numbers pre)) (answer_numbers pre ++ awaited ended) (calls_await rules s (Call n q ∷ pre) ended (called, call, run))

    two : (owed : Option Owed) (os others : List OpenRequest) (o : OpenRequest) (w : Owed) → owed ≡ Some w → IsPermutation os (o ∷ others) → length (answer_numbers pre ++ (owed_number owed ++ map request_number os)) ≡ 1 → ⊥
    two owed os others o w e p h =
        let a : length (owed_number owed) ≡ 1 = ap (λ (x : Option Owed). length (owed_number x)) e in
        let b : length (o ∷ others) ≡ length os = length_permutation os (o ∷ others) p in
        omega (arith, a, b, h, length-map os request_number, length-append (answer_numbers pre) (owed_number owed ++ map request_number os), length-append (owed_number owed) (map request_number os))

    -- a request is open, so none was refused
    free : Answers rules ended n Success bytes after → Step rules ended (Answer n Success informed bytes) after → IsNone ended.owed
    free a (inl h) = h.0
    free a (inr h) = absurd (two ended.owed ended.requests a.others a.request _ h.is_owed a.is_open (count ∙ one))

-- what is known of a round that was answered SUCCESS, and of the run behind its answer
pub record Found (rules : Rules) (s : State) (t : Table) (r : Round) (more : List Label) (s' : State) (t' : Table) : Type 1 where
  pub post : List Label
  pub of_post : All IsOfOne post
  pub ended : State
  pub at : Table
  pub succeeds : Succeeds rules r.number r.request s t ended at
  pub surely : (i : ℕ) (Such : List ℕ → Type 0) → Fits rules r.request i Such → Meanwhile (BringsSurely Such) rules r.number r.request i s t ended at succeeds
  pub brings : (i : ℕ) (Such : List ℕ → Type 0) → Fits rules r.request i Such → Meanwhile (Brings Such) rules r.number r.request i s t ended at succeeds
  pub reached : IsReachedWith rules ended at
  pub onward : TableRun rules ended at (Answer r.number Success r.informed r.bytes ∷ (post ++ more)) s' t'
  pub calm : IsCalm rules onward.0

module _ (rules : Rules) (s : State) (t : Table) (r : Round) (more : List Label) (s' : State) (t' : Table) (k : IsCalm rules s) (reached : IsReachedWith rules s t) (round : IsRound r) (success : r.status ≡ Success) (place : ℕ) (low : place < place_count rules r.request) where
  module _ (pre post : List Label) (of : All IsOfOne (pre ++ Answer r.number Success r.informed r.bytes ∷ post))
      (run : TableRun rules s t (Call r.number r.request ∷ (pre ++ (Answer r.number Success r.informed r.bytes ∷ (post ++ more)))) s' t') where
    of_pre : All IsOfOne pre
    of_pre = all_front IsOfOne pre (Answer r.number Success r.informed r.bytes ∷ post) of

    -- the table is the same behind the call
    called : TableRun rules run.0 t (pre ++ (Answer r.number Success r.informed r.bytes ∷ (post ++ more))) s' t'
    called = table_same rules run.0 run.0 run.1 t (IsSame-refl run.0) (λ i. sym (run.3 i)) (pre ++ (Answer r.number Success r.informed r.bytes ∷ (post ++ more))) s' t' run.4

    abbrev parts : Split rules run.0 t pre (Answer r.number Success r.informed r.bytes ∷ (post ++ more)) s' t'
    parts = split rules run.0 t pre (Answer r.number Success r.informed r.bytes ∷ (post ++ more)) s' t' called

    not_refused : (why : Option NtStatus) → refusal rules s r.request ≡ why → refusal rules s r.request ≡ None
    not_refused None e = e
    not_refused (Some status) e =
        let plain : Run rules run.0 pre parts.mid = as_run rules run.0 t pre parts.mid parts.between parts.first in
        absurd (none_moves rules r.number place (bytes_due rules r.request r.request.kind r.bytes place) run.0 pre parts.mid plain of_pre (refused_never rules s r.number r.request run.0 status k e run.2)
        (answered_was_moved rules r.number r.request r.informed r.bytes s run.0 pre parts.mid parts.rest.0 (as_reached reached) run.2 plain parts.rest.2 place low))
      where
        as_reached : IsReachedWith rules s t → IsReached rules s
        as_reached h = record { arrays = h.arrays; labels = h.labels; whole = h.whole; run = as_run rules (opening h.arrays) (held_on h.disk) h.labels s t h.run }

    e : Ended rules s r.number r.request r.informed r.bytes run.0 parts.mid parts.rest.0
    e = ended_so rules s r.number r.request r.informed r.bytes run.0 pre parts.mid parts.rest.0 (not_refused (refusal rules s r.request) refl) k run.2 of_pre (as_run rules run.0 t pre parts.mid parts.between parts.first) parts.rest.2

    found_at : Found rules s t r more s' t'
    found_at = record {
      post = post;
      of_post = All-tail IsOfOne (Answer r.number Success r.informed r.bytes) post (all_behind IsOfOne pre (Answer r.number Success r.informed r.bytes ∷ post) of);
      ended = parts.mid;
      at = parts.between;
      succeeds = record {
        reached = reached;
        called = run.0;
        opens = e.opens;
        labels = pre;
        run = parts.first;
        bytes = r.bytes;
        after = parts.rest.0;
        answers = e.answers;
      };
      surely = λ i Such fits.
          sure_along rules r.number r.request i Such fits parts.mid r.bytes parts.rest.0 e.answers run.0 t pre parts.between parts.first of_pre (IsSound-Step rules s (Call r.number r.request) run.0 k.sound run.2)
          (ArePlaced-Step rules s (Call r.number r.request) run.0 k.sound.0 k.placed run.2) (called_alone rules s r.number r.request run.0 k run.2);
      brings = λ i Such fits.
          brings_along rules r.number r.request i Such fits run.0 t pre parts.mid parts.between parts.first of_pre (IsSound-Step rules s (Call r.number r.request) run.0 k.sound run.2) (called_alone rules s r.number r.request run.0 k run.2);
      reached = record {
        arrays = reached.arrays;
        disk = reached.disk;
        labels = reached.labels ++ (Call r.number r.request ∷ pre);
        whole = reached.whole;
        run = table_append rules (opening reached.arrays) (held_on reached.disk) reached.labels s t (Call r.number r.request ∷ pre) parts.mid parts.between reached.run (run.0, t, run.2, (λ i. refl), parts.first);
      };
      onward = parts.rest;
      calm = e.calm;
    }

  pub found : TableRun rules s t (labels_of r ++ more) s' t' → Found rules s t r more s' t'
  found run =
      let p = parted r.behind (Answer r.number r.status r.informed r.bytes) round.answered in
      let is : r.behind ≡ p.0 ++ Answer r.number Success r.informed r.bytes ∷ p.1 = p.2 ∙ ap (λ (status : NtStatus). p.0 ++ Answer r.number status r.informed r.bytes ∷ p.1) success in
      let all : r.behind ++ more ≡ p.0 ++ (Answer r.number Success r.informed r.bytes ∷ (p.1 ++ more)) =
      ap (λ (ls : List Label). ls ++ more) is ∙ append_assoc p.0 (Answer r.number Success r.informed r.bytes ∷ p.1) more in
      found_at p.0 p.1 (subst (λ (ls : List Label). All IsOfOne ls) is round.alone) (subst (λ (ls : List Label). TableRun rules s t (Call r.number r.request ∷ ls) s' t') all run)

-- BETWEEN AND BEHIND

-- rounds that are away and whose syncs succeed bring nothing, surely
module _ (rules : Rules) (i : ℕ) (Such : List ℕ → Type 0) where
  abbrev Fine : State → Table → State → Table → List Label → Type 0
  Fine s t s' t' ls = (go : TableRun rules s t ls s' t') → Throughout (Changes rules i (BringsSurely Such)) rules s t ls s' t' go

  round_sure : (s : State) (t : Table) (r : Round) (s' : State) (t' : Table) → IsCalm rules s → IsRound r → IsAway rules i r → SyncsWell r → (run : TableRun rules s t (labels_of r) s' t')
      → Throughout (Changes rules i (BringsSurely Such)) rules s t (labels_of r) s' t' run
  round_sure s t r s' t' k round away well run = (tt, by_sync (syncs r.request) refl)
    where
      sound' : IsSound rules run.0
      sound' = IsSound-Step rules s (Call r.number r.request) run.0 k.sound run.2

      mine : AllOf (Mine r.number r.request) run.0
      mine = called_alone rules s r.number r.request run.0 k run.2

      by_refusal : (why : Option NtStatus) → refusal rules s r.request ≡ why → (pre post : List Label) → All IsOfOne (pre ++ Answer r.number Success r.informed r.bytes ∷ post) → Fine run.0 run.1 s' t' (pre ++ Answer r.number Success r.informed r.bytes ∷ post)
      by_refusal (Some status) e pre post of go =
          nothing_along rules i (BringsSurely Such) run.0 run.1 (pre ++ Answer r.number Success r.informed r.bytes ∷ post) s' t' go of (refused_never rules s r.number r.request run.0 status k e run.2)
      by_refusal None e pre post of go =
          let of_pre : All IsOfOne pre = all_front IsOfOne pre (Answer r.number Success r.informed r.bytes ∷ post) of in
          let p = split rules run.0 run.1 pre (Answer r.number Success r.informed r.bytes ∷ post) s' t' go in
          let h : Ended rules s r.number r.request r.informed r.bytes run.0 p.mid p.rest.0 =
          ended_so rules s r.number r.request r.informed r.bytes run.0 pre p.mid p.rest.0 e k run.2 of_pre (as_run rules run.0 run.1 pre p.mid p.between p.first) p.rest.2 in
          throughout (Changes rules i (BringsSurely Such)) rules run.0 run.1 pre (Answer r.number Success r.informed r.bytes ∷ post) s' t' go
          (sure_along rules r.number r.request i Such (away_fits rules i Such r away) p.mid r.bytes p.rest.0 h.answers run.0 run.1 pre p.between p.first of_pre sound' (ArePlaced-Step rules s (Call r.number r.request) run.0 k.sound.0 k.placed run.2) mine)
          (tt, nothing_along rules i (BringsSurely Such) p.rest.0 p.rest.1 post s' t' p.rest.4 (All-tail IsOfOne (Answer r.number Success r.informed r.bytes) post (all_behind IsOfOne pre (Answer r.number Success r.informed r.bytes ∷ post) of)) (never_in rules p.rest.0 h.calm))

      by_sync : (b : Bool) → syncs r.request ≡ b → Throughout (Changes rules i (BringsSurely Such)) rules run.0 run.1 r.behind s' t' run.4
      by_sync false none = plain_along rules r.number r.request i Such (away_fits rules i Such r away) none run.0 run.1 r.behind s' t' run.4 round.alone sound' mine
      by_sync true sync =
          let p = parted r.behind (Answer r.number r.status r.informed r.bytes) round.answered in
          let is : r.behind ≡ p.0 ++ Answer r.number Success r.informed r.bytes ∷ p.1 = p.2 ∙ ap (λ (status : NtStatus). p.0 ++ Answer r.number status r.informed r.bytes ∷ p.1) (well sync) in
          subst (Fine run.0 run.1 s' t') (sym is) (by_refusal (refusal rules s r.request) refl p.0 p.1 (subst (λ (ls : List Label). All IsOfOne ls) is round.alone)) run.4

  pub all_sure : (s : State) (t : Table) (rs : List Round) (s' : State) (t' : Table) → IsCalm rules s → All IsRound rs → All (IsAway rules i) rs → All SyncsWell rs → (run : TableRun rules s t (labels_of_all rs) s' t')
      → Throughout (Changes rules i (BringsSurely Such)) rules s t (labels_of_all rs) s' t' run
  all_sure s t [] s' t' k rounds away well run = tt
  all_sure s t (r ∷ rs) s' t' k rounds away well run =
      let p = split rules s t (labels_of r) (labels_of_all rs) s' t' run in
      throughout (Changes rules i (BringsSurely Such)) rules s t (labels_of r) (labels_of_all rs) s' t' run
      (round_sure s t r p.mid p.between k (All-head IsRound r rs rounds) (All-head (IsAway rules i) r rs away) (All-head SyncsWell r rs well) p.first)
      (all_sure p.mid p.between rs s' t' (calm_round rules s r p.mid k (All-head IsRound r rs rounds) (as_run rules s t (labels_of r) p.mid p.between p.first)) (All-tail IsRound r rs rounds) (All-tail (IsAway rules i) r rs away)
      (All-tail SyncsWell r rs well) p.rest)

  -- up to a moment of those that came behind
  pub record Brought (s : State) (t : Table) (labels : List Label) (s' : State) (t' : Table) (run : TableRun rules s t labels s' t') : Type 0 where
    pub along : Throughout (Changes rules i (Brings Such)) rules s t labels s' t' run
    pub at_work : AtWork rules i Such s'

  abbrev So : State → Table → State → Table → List Label → Type 0
  So s t s' t' ls = (run : TableRun rules s t ls s' t') → Brought s t ls s' t' run

  none_at_work : (s : State) → AllOf Never s → AtWork rules i Such s
  none_at_work s never piece owner h = absurd (All-contains (λ (o : OpenRequest). Never o.number o.request) s.requests owner never h.out.is_open)

  nothing_at_once : (s : State) (t : Table) (s' : State) (t' : Table) → IsCalm rules s → (run : TableRun rules s t [] s' t') → Brought s t [] s' t' run
  nothing_at_once s t s' t' k run = record {
    along = tt;
    at_work = none_at_work s' (All-permutation (λ (o : OpenRequest). Never o.number o.request) s.requests s'.requests run.0.requests (never_in rules s k));
  }

  -- within a round
  in_round : (s : State) (t : Table) (r : Round) (told rest : List Label) (s' : State) (t' : Table) → IsCalm rules s → IsRound r → IsAway rules i r → r.behind ≡ told ++ rest → (run : TableRun rules s t (Call r.number r.request ∷ told) s' t')
      → Brought s t (Call r.number r.request ∷ told) s' t' run
  in_round s t r told rest s' t' k round away is run =
      let of : All IsOfOne told = all_front IsOfOne told rest (subst (λ (ls : List Label). All IsOfOne ls) is round.alone) in
      let sound : IsSound rules run.0 = IsSound-Step rules s (Call r.number r.request) run.0 k.sound run.2 in
      let mine : AllOf (Mine r.number r.request) run.0 = called_alone rules s r.number r.request run.0 k run.2 in
      let plain : Run rules run.0 told s' = as_run rules run.0 run.1 told s' t' run.4 in
      record {
        along = (tt, brings_along rules r.number r.request i Such (away_fits rules i Such r away) run.0 run.1 told s' t' run.4 of sound mine);
        at_work =
            brought_at_work rules r.number r.request i Such (away_fits rules i Such r away) s' (IsSound-Run rules run.0 told s' sound plain) (all_along (Mine r.number r.request) rules run.0 told s' of plain mine);
      }

  -- behind a round
  behind_round : (s : State) (t : Table) (r : Round) (more : List Label) (s' : State) (t' : Table) → IsCalm rules s → IsRound r → IsAway rules i r → ((mid : State) (between : Table) → IsCalm rules mid → So mid between s' t' more) → So s t s' t' (labels_of r ++ more)
  behind_round s t r more s' t' k round away onwards run =
      let p = split rules s t (labels_of r) more s' t' run in
      let first : Brought s t (labels_of r) p.mid p.between p.first = in_round s t r r.behind [] p.mid p.between k round away (sym (append-nil r.behind)) p.first in
      let behind : Brought p.mid p.between more s' t' p.rest = onwards p.mid p.between (calm_round rules s r p.mid k round (as_run rules s t (labels_of r) p.mid p.between p.first)) p.rest in
      record { along = throughout (Changes rules i (Brings Such)) rules s t (labels_of r) more s' t' run first.along behind.along; at_work = behind.at_work }

  pub all_brought : (s : State) (t : Table) (rs : List Round) (told rest : List Label) (s' : State) (t' : Table) → IsCalm rules s → All IsRound rs → All (IsAway rules i) rs → labels_of_all rs ≡ told ++ rest → (run : TableRun rules s t told s' t')
      → Brought s t told s' t' run
  all_brought s t rs [] rest s' t' k rounds away is run = nothing_at_once s t s' t' k run
  all_brought s t [] (x ∷ told) rest s' t' k rounds away is run = absurd (cc (is))
  all_brought s t (r ∷ rs) (x ∷ told) rest s' t' k rounds away is run =
      elim (apart_at (labels_of r) (labels_of_all rs) (x ∷ told) rest is) [
        | inl h ↦
            let first : Call r.number r.request ≡ x = cc (h.1) in
            let same : r.behind ≡ told ++ h.0 = cc (h.1) in
            subst (λ (l : Label). So s t s' t' (l ∷ told)) first (λ go. in_round s t r told h.0 s' t' k (All-head IsRound r rs rounds) (All-head (IsAway rules i) r rs away) same go) run
        | inr h ↦
            subst (So s t s' t') (sym h.1)
            (behind_round s t r h.0 s' t' k (All-head IsRound r rs rounds) (All-head (IsAway rules i) r rs away)
            (λ mid between calm. all_brought mid between rs h.0 rest s' t' calm (All-tail IsRound r rs rounds) (All-tail (IsAway rules i) r rs away) h.2)) run
      ]

  -- OF PLAIN REQUESTS

  pub record BroughtSurely (s : State) (t : Table) (labels : List Label) (s' : State) (t' : Table) (run : TableRun rules s t labels s' t') : Type 0 where
    pub along : Throughout (Changes rules i (BringsSurely Such)) rules s t labels s' t' run
    pub at_work : SurelyAtWork rules i Such s'

  abbrev SoSurely : State → Table → State → Table → List Label → Type 0
  SoSurely s t s' t' ls = (run : TableRun rules s t ls s' t') → BroughtSurely s t ls s' t' run

  none_surely : (s : State) → AllOf Never s → SurelyAtWork rules i Such s
  none_surely s never piece owner h = absurd (All-contains (λ (o : OpenRequest). Never o.number o.request) s.requests owner never h.out.is_open)

  no_sync : (q : ClientRequest) (b : Bool) → syncs q ≡ b → (IsTrue (syncs q) → ⊥) → syncs q ≡ false
  no_sync q false e plain = e
  no_sync q true e plain = absurd (plain e)

  plain_at_once : (s : State) (t : Table) (s' : State) (t' : Table) → IsCalm rules s → (run : TableRun rules s t [] s' t') → BroughtSurely s t [] s' t' run
  plain_at_once s t s' t' k run = record {
    along = tt;
    at_work = none_surely s' (All-permutation (λ (o : OpenRequest). Never o.number o.request) s.requests s'.requests run.0.requests (never_in rules s k));
  }

  in_plain : (s : State) (t : Table) (r : Round) (told rest : List Label) (s' : State) (t' : Table) → IsCalm rules s → IsRound r → IsAway rules i r → IsPlain r → r.behind ≡ told ++ rest → (run : TableRun rules s t (Call r.number r.request ∷ told) s' t')
      → BroughtSurely s t (Call r.number r.request ∷ told) s' t' run
  in_plain s t r told rest s' t' k round away plain is run =
      let of : All IsOfOne told = all_front IsOfOne told rest (subst (λ (ls : List Label). All IsOfOne ls) is round.alone) in
      let sound : IsSound rules run.0 = IsSound-Step rules s (Call r.number r.request) run.0 k.sound run.2 in
      let mine : AllOf (Mine r.number r.request) run.0 = called_alone rules s r.number r.request run.0 k run.2 in
      let go : Run rules run.0 told s' = as_run rules run.0 run.1 told s' t' run.4 in
      let none : syncs r.request ≡ false = no_sync r.request (syncs r.request) refl plain in
      record {
        along = (tt, plain_along rules r.number r.request i Such (away_fits rules i Such r away) none run.0 run.1 told s' t' run.4 of sound mine);
        at_work =
            plain_at_work rules r.number r.request i Such (away_fits rules i Such r away) none s' (IsSound-Run rules run.0 told s' sound go) (all_along (Mine r.number r.request) rules run.0 told s' of go mine);
      }

  behind_plain : (s : State) (t : Table) (r : Round) (more : List Label) (s' : State) (t' : Table) → IsCalm rules s → IsRound r → IsAway rules i r → IsPlain r → ((mid : State) (between : Table) → IsCalm rules mid → SoSurely mid between s' t' more)
      → SoSurely s t s' t' (labels_of r ++ more)
  behind_plain s t r more s' t' k round away plain onwards run =
      let p = split rules s t (labels_of r) more s' t' run in
      let first : BroughtSurely s t (labels_of r) p.mid p.between p.first = in_plain s t r r.behind [] p.mid p.between k round away plain (sym (append-nil r.behind)) p.first in
      let behind : BroughtSurely p.mid p.between more s' t' p.rest = onwards p.mid p.between (calm_round rules s r p.mid k round (as_run rules s t (labels_of r) p.mid p.between p.first)) p.rest in
      record { along = throughout (Changes rules i (BringsSurely Such)) rules s t (labels_of r) more s' t' run first.along behind.along; at_work = behind.at_work }

  pub all_plain : (s : State) (t : Table) (rs : List Round) (told rest : List Label) (s' : State) (t' : Table) → IsCalm rules s → All IsRound rs → All (IsAway rules i) rs → All IsPlain rs → labels_of_all rs ≡ told ++ rest → (run : TableRun rules s t told s' t')
      → BroughtSurely s t told s' t' run
  all_plain s t rs [] rest s' t' k rounds away plain is run = plain_at_once s t s' t' k run
  all_plain s t [] (x ∷ told) rest s' t' k rounds away plain is run = absurd (cc (is))
  all_plain s t (r ∷ rs) (x ∷ told) rest s' t' k rounds away plain is run =
      elim (apart_at (labels_of r) (labels_of_all rs) (x ∷ told) rest is) [
        | inl h ↦
            let first : Call r.number r.request ≡ x = cc (h.1) in
            let same : r.behind ≡ told ++ h.0 = cc (h.1) in
            subst (λ (l : Label). SoSurely s t s' t' (l ∷ told)) first (λ go. in_plain s t r told h.0 s' t' k (All-head IsRound r rs rounds) (All-head (IsAway rules i) r rs away) (All-head IsPlain r rs plain) same go) run
        | inr h ↦
            subst (SoSurely s t s' t') (sym h.1)
            (behind_plain s t r h.0 s' t' k (All-head IsRound r rs rounds) (All-head (IsAway rules i) r rs away) (All-head IsPlain r rs plain)
            (λ mid between calm. all_plain mid between rs h.0 rest s' t' calm (All-tail IsRound r rs rounds) (All-tail (IsAway rules i) r rs away) (All-tail IsPlain r rs plain) h.2)) run
      ]
