-- What is kept of a session comes to by the labels behind: line by line what a look ahead says.
use Rattle.std.proofs.Common.{◌≡◌, ◌⊎◌, inl, inr, ℕ, ◌==◌, ◌||◌, Bool, true, false, List, [], ◌∷◌, ◌++◌, Option, Some, None, refl, sym, ◌∙◌, ap, subst, map, append_assoc, append-nil, eq-eqb}
use Rattle.std.specs.Prelude.{if◌then◌else◌}
use Rattle.std.proofs.lemmas.Bool.{eqb-true}
use Rattle.ntstatus.specs.declared.NtStatus.{NtStatus}
use Rattle.ntstatus.specs.declared.NtStatus.TheVariants.{Success}
use Rattle.srb.specs.declared.Kind.{Kind}
use Rattle.srb.specs.declared.Kind.TheVariants.{Read, Write, Flush}
use Rattle.machine.specs.declared.ClientRequest.{ClientRequest}
use Rattle.machine.specs.declared.Label.TheVariants.{Answer}
use Rattle.machine.specs.Rules.{Rules}
use Rattle.loss.specs.Sessions.{Line, Told}
use Rattle.loss.specs.Held.{IsOneOf}
use Rattle.register_loss.specs.declared.What.{What}
use Rattle.register_loss.specs.declared.What.TheVariants.{Sync, Flush as Flushes}
use Rattle.register_loss.specs.declared.Sight.{Sight}
use Rattle.register_loss.specs.declared.Sight.TheVariants.{Call as CallSight}
use Rattle.history_loss_sights.specs.Sights.{end_of, has_sector, moves, moves_of, place_of, reads, success_bytes, success_of}
use Rattle.history_loss_kept.specs.declared.Wait.{Wait}
use Rattle.history_loss_kept.specs.declared.Wait.TheVariants.{Known, Awaits}
use Rattle.history_loss_kept.specs.declared.Outcome.{Outcome}
use Rattle.history_loss_kept.specs.declared.Outcome.TheVariants.{Open, Done as IsDone, Failed as HasFailed}
use Rattle.history_loss_kept.specs.declared.Shared.{Shared}
use Rattle.history_loss_kept.specs.declared.Shared.TheVariants.{Call as SharedCall, End}
use Rattle.history_loss_kept.specs.Kept.{call_of, call_wait, is_success, outcome_of, read_by, settled, shared_sights, wait_by}
use Rattle.history_loss_kept.proofs.Waits.{unequal}
use Rattle.history_loss_kept.proofs.Marks.{Begins, Called, Ends, Flushed, Mark, Other, Secured, end_sight, kept, last_sight}
use Rattle.history_loss_kept.proofs.Items.{Item, Ow, Sh, call_items, end_items, fills, flat, items_of, own_items, settles, with_wait}

abbrev pub outcome_with : Outcome → Option (List ℕ) → Outcome
outcome_with Open None = Open
outcome_with Open (Some bytes) = IsDone
outcome_with IsDone answer = IsDone
outcome_with HasFailed answer = HasFailed

abbrev pub resolved : List Line → Shared → Shared
resolved lines (SharedCall n is_flush outcome) = SharedCall n is_flush (outcome_with outcome (success_of n lines))
resolved lines (End n good) = End n good

outcome_none : (outcome : Outcome) → outcome_with outcome None ≡ outcome
outcome_none Open = refl
outcome_none IsDone = refl
outcome_none HasFailed = refl

-- what ended so was answered by now
abbrev pub Closed : List ℕ → Item → Type 0
Closed done (Sh (SharedCall n is_flush outcome)) = (outcome ≡ Open) ⊎ IsOneOf n done
Closed done (Sh (End n good)) = Unit {0}
Closed done (Ow wait) = Unit {0}

abbrev pub AllClosed : List ℕ → List Item → Type 0
AllClosed done [] = Unit {0}
AllClosed done (item ∷ its) = Closed done item × AllClosed done its

pub same_number : (n m : ℕ) (b : Bool) → (m == n) ≡ b → (n == m) ≡ b
same_number n m true e = eq-eqb n m (sym (eqb-true m n e))
same_number n m false e = unequal n m (λ same. let is : (m == n) ≡ true = eq-eqb m n (sym same) in cc (is, e))

failed_seen : (all is_flush : Bool) (n : ℕ) → shared_sights all (SharedCall n is_flush Open) ≡ shared_sights all (SharedCall n is_flush HasFailed)
failed_seen true true n = refl
failed_seen false true n = refl
failed_seen true false n = refl
failed_seen false false n = refl

-- SYNCS IN MARKS

abbrev pub sync_marks : Bool → ℕ → Kind → Bool → Option (List ℕ) → List Mark
sync_marks all n Read through answer = Other n ∷ []
sync_marks all n Write false answer = Other n ∷ []
sync_marks all n Write true (Some bytes) = Other n ∷ Secured n ∷ []
sync_marks true n Write true None = Other n ∷ Called n Sync ∷ []
sync_marks false n Write true None = Other n ∷ []
sync_marks all n Flush through (Some bytes) = Flushed n ∷ []
sync_marks true n Flush through None = Flushed n ∷ []
sync_marks false n Flush through None = Other n ∷ []

pub end_good : (n : ℕ) (status : NtStatus) → end_sight (is_success status) n ≡ end_of n status
end_good n Success = refl
end_good n _ = refl

end_shared : (all : Bool) (n : ℕ) (good : Bool) → shared_sights all (End n good) ++ [] ≡ end_sight good n ∷ []
end_shared all n true = refl
end_shared all n false = refl

pub kept_append : (xs ys : List Mark) → kept (xs ++ ys) ≡ kept xs ++ kept ys
kept_append [] ys = refl
kept_append (Other n ∷ xs) ys = kept_append xs ys
kept_append (Secured n ∷ xs) ys = kept_append xs ys
kept_append (Called n what ∷ xs) ys = ap (λ zs. CallSight n what ∷ zs) (kept_append xs ys)
kept_append (Flushed n ∷ xs) ys = ap (λ zs. CallSight n Flushes ∷ zs) (kept_append xs ys)
kept_append (Ends true n good ∷ xs) ys = ap (λ zs. end_sight good n ∷ zs) (kept_append xs ys)
kept_append (Ends false n good ∷ xs) ys = kept_append xs ys
kept_append (Begins lost ∷ xs) ys = ap (λ zs. last_sight lost ∷ zs) (kept_append xs ys)

kept_calls : (n : ℕ) (ws : List What) → kept (map (Called n) ws) ≡ map (CallSight n) ws
kept_calls n [] = refl
kept_calls n (w ∷ ws) = ap (λ zs. CallSight n w ∷ zs) (kept_calls n ws)

module _ (code : List ℕ → ℕ) (rules : Rules) (i : ℕ) (all : Bool) where
  abbrev pub due : List Line → Item → List Sight
  due lines (Sh one) = shared_sights all (resolved lines one)
  due lines (Ow (Known sight)) = sight ∷ []
  due lines (Ow (Awaits n place)) = map (CallSight n) (reads code rules place (success_of n lines))

  abbrev pub dues : List Line → List Item → List Sight
  dues lines [] = []
  dues lines (item ∷ its) = due lines item ++ dues lines its

  pub dues_append : (lines : List Line) (xs ys : List Item) → dues lines (xs ++ ys) ≡ dues lines xs ++ dues lines ys
  dues_append lines [] ys = refl
  dues_append lines (x ∷ xs) ys = ap (λ zs. due lines x ++ zs) (dues_append lines xs ys) ∙ sym (append_assoc (due lines x) (dues lines xs) (dues lines ys))

  both : (a b c d : List Sight) → a ≡ b → c ≡ d → a ++ c ≡ b ++ d
  both a b c d e f = ap (λ x. x ++ c) e ∙ ap (λ y. b ++ y) f

  -- where no answer comes
  pub dues_none : (lines : List Line) → ((n : ℕ) → success_of n lines ≡ None) → (its : List Item) → dues lines its ≡ flat all its
  dues_none lines h [] = refl
  dues_none lines h (Sh (SharedCall n is_flush outcome) ∷ its) =
      both (shared_sights all (SharedCall n is_flush (outcome_with outcome (success_of n lines)))) (shared_sights all (SharedCall n is_flush outcome)) (dues lines its) (flat all its)
      (ap (λ x. shared_sights all (SharedCall n is_flush x)) (ap (outcome_with outcome) (h n) ∙ outcome_none outcome)) (dues_none lines h its)
  dues_none lines h (Sh (End n good) ∷ its) = ap (λ zs. shared_sights all (End n good) ++ zs) (dues_none lines h its)
  dues_none lines h (Ow (Known sight) ∷ its) = ap (λ zs. sight ∷ zs) (dues_none lines h its)
  dues_none lines h (Ow (Awaits n place) ∷ its) = ap (λ x. map (CallSight n) (reads code rules place x) ++ dues lines its) (h n) ∙ dues_none lines h its

  -- a label that is no answer changes nothing
  pub dues_same : (lines lines' : List Line) → ((n : ℕ) → success_of n lines ≡ success_of n lines') → (its : List Item) → dues lines its ≡ dues lines' its
  dues_same lines lines' h [] = refl
  dues_same lines lines' h (Sh (SharedCall n is_flush outcome) ∷ its) =
      both (shared_sights all (SharedCall n is_flush (outcome_with outcome (success_of n lines)))) (shared_sights all (SharedCall n is_flush (outcome_with outcome (success_of n lines')))) (dues lines its) (dues lines' its)
      (ap (λ x. shared_sights all (SharedCall n is_flush (outcome_with outcome x))) (h n)) (dues_same lines lines' h its)
  dues_same lines lines' h (Sh (End n good) ∷ its) = ap (λ zs. shared_sights all (End n good) ++ zs) (dues_same lines lines' h its)
  dues_same lines lines' h (Ow (Known sight) ∷ its) = ap (λ zs. sight ∷ zs) (dues_same lines lines' h its)
  dues_same lines lines' h (Ow (Awaits n place) ∷ its) = ap (λ x. map (CallSight n) (reads code rules place x) ++ dues lines its) (h n) ∙ ap (λ zs. map (CallSight n) (reads code rules place (success_of n lines')) ++ zs) (dues_same lines lines' h its)

  -- A CALL

  kept_syncs : (lines : List Line) (n : ℕ) (kind : Kind) (through : Bool) → kept (sync_marks all n kind through (success_of n lines)) ≡ dues lines (map Sh (call_of n kind through))
  kept_syncs lines n Read through = refl
  kept_syncs lines n Write false = refl
  kept_syncs lines n Write true = by all (success_of n lines)
    where
      by : (a : Bool) (x : Option (List ℕ)) → kept (sync_marks a n Write true x) ≡ shared_sights a (SharedCall n false (outcome_with Open x)) ++ []
      by true (Some bytes) = refl
      by false (Some bytes) = refl
      by true None = refl
      by false None = refl
  kept_syncs lines n Flush through = by all (success_of n lines)
    where
      by : (a : Bool) (x : Option (List ℕ)) → kept (sync_marks a n Flush through x) ≡ shared_sights a (SharedCall n true (outcome_with Open x)) ++ []
      by true (Some bytes) = refl
      by false (Some bytes) = refl
      by true None = refl
      by false None = refl

  kept_moves : (lines : List Line) (n : ℕ) (q : ClientRequest) → map (CallSight n) (moves_of code rules i q (success_of n lines)) ≡ dues lines (own_items code rules i n q)
  kept_moves lines n q = by (has_sector rules i q) q.kind
    where
      by : (b : Bool) (kind : Kind) → map (CallSight n) (if b then moves code rules (place_of rules i q) q (success_of n lines) kind else []) ≡ dues lines (if b then items_of (call_wait code rules i n q kind) else [])
      by true Read = sym (append-nil (map (CallSight n) (reads code rules (place_of rules i q) (success_of n lines))))
      by true Write = refl
      by true Flush = refl
      by false kind = refl

  pub kept_call : (lines : List Line) (n : ℕ) (q : ClientRequest)
      → kept (sync_marks all n q.kind q.through (success_of n lines) ++ map (Called n) (moves_of code rules i q (success_of n lines))) ≡ dues lines (call_items code rules i n q)
  kept_call lines n q =
      kept_append (sync_marks all n q.kind q.through (success_of n lines)) (map (Called n) (moves_of code rules i q (success_of n lines)))
      ∙ both (kept (sync_marks all n q.kind q.through (success_of n lines))) (dues lines (map Sh (call_of n q.kind q.through))) (kept (map (Called n) (moves_of code rules i q (success_of n lines)))) (dues lines (own_items code rules i n q))
      (kept_syncs lines n q.kind q.through) (kept_calls n (moves_of code rules i q (success_of n lines)) ∙ kept_moves lines n q)
      ∙ sym (dues_append lines (map Sh (call_of n q.kind q.through)) (own_items code rules i n q))

  -- AN ANSWER

  pub kept_end : (lines : List Line) (n : ℕ) (status : NtStatus) (s o : Bool) → kept (Ends (s || o) n (is_success status) ∷ []) ≡ dues lines (end_items n status s o)
  kept_end lines n status true o = sym (end_shared all n (is_success status))
  kept_end lines n status false true = ap (λ x. x ∷ []) (end_good n status)
  kept_end lines n status false false = refl

  module _ (n : ℕ) (status : NtStatus) (informed : ℕ) (bytes : List ℕ) (lines : List Line) where
    abbrev brings : Option (List ℕ)
    brings = success_bytes status bytes

    abbrev before : List Line
    before = Told (Answer n status informed bytes) ∷ lines

    -- a sync that is answered
    sync_ends : (m : ℕ) (is_flush : Bool) (b : Bool) → (n == m) ≡ b
        → shared_sights all (SharedCall m is_flush (outcome_with Open (if b then brings else success_of m lines))) ≡ shared_sights all (resolved lines (if b then SharedCall m is_flush (outcome_of status) else SharedCall m is_flush Open))
    sync_ends m is_flush false e = refl
    sync_ends m is_flush true e = by status
      where
        by : (st : NtStatus) → shared_sights all (SharedCall m is_flush (outcome_with Open (success_bytes st bytes))) ≡ shared_sights all (SharedCall m is_flush (outcome_with (outcome_of st) (success_of m lines)))
        by Success = refl
        by _ = failed_seen all is_flush m

    sync_due : (m : ℕ) (is_flush : Bool) (outcome : Outcome) → (outcome ≡ Open) ⊎ ((m == n) ≡ false)
        → shared_sights all (resolved before (SharedCall m is_flush outcome)) ≡ shared_sights all (resolved lines (settled n status (SharedCall m is_flush outcome)))
    sync_due m is_flush outcome (inl open_yet) =
        subst (λ o. shared_sights all (resolved before (SharedCall m is_flush o)) ≡ shared_sights all (resolved lines (settled n status (SharedCall m is_flush o)))) (sym open_yet)
        (ap (λ (b : Bool). shared_sights all (SharedCall m is_flush (outcome_with Open (if b then brings else success_of m lines)))) (same_number n m (m == n) refl)
        ∙ sync_ends m is_flush (m == n) (same_number n m (m == n) refl))
    sync_due m is_flush outcome (inr apart) =
        ap (λ (b : Bool). shared_sights all (SharedCall m is_flush (outcome_with outcome (if b then brings else success_of m lines)))) (same_number n m false apart)
        ∙ sym (ap (λ (b : Bool). shared_sights all (resolved lines (if b then SharedCall m is_flush (outcome_of status) else SharedCall m is_flush outcome))) apart)

    read_due : (m place : ℕ) (b : Bool) (rest : List Item) → map (CallSight m) (reads code rules place (if b then brings else success_of m lines)) ++ dues lines rest
        ≡ dues lines (with_wait (if b then read_by code rules m place brings else Some (Awaits m place)) rest)
    read_due m place false rest = refl
    read_due m place true rest = by brings
      where
        by : (x : Option (List ℕ)) → map (CallSight m) (reads code rules place x) ++ dues lines rest ≡ dues lines (with_wait (read_by code rules m place x) rest)
        by None = refl
        by (Some found) = refl

    settles_with : (x : Option Wait) (rest : List Item) → settles n status (with_wait x rest) ≡ with_wait x (settles n status rest)
    settles_with None rest = refl
    settles_with (Some wait) rest = refl

    -- the numbers of what ended are others
    apart_of : (done : List ℕ) → (IsOneOf n done → ⊥) → (m : ℕ) (outcome : Outcome) → (outcome ≡ Open) ⊎ IsOneOf m done → (outcome ≡ Open) ⊎ ((m == n) ≡ false)
    apart_of done fresh m outcome (inl open_yet) = inl open_yet
    apart_of done fresh m outcome (inr ended) = inr (unequal m n (λ same. fresh (subst (λ k. IsOneOf k done) same ended)))

    pub dues_answered : (done : List ℕ) → (IsOneOf n done → ⊥) → (its : List Item) → AllClosed done its → dues before its ≡ dues lines (settles n status (fills code rules n brings its))
    dues_answered done fresh [] closed = refl
    dues_answered done fresh (Sh (SharedCall m is_flush outcome) ∷ its) closed =
        both (shared_sights all (resolved before (SharedCall m is_flush outcome))) (shared_sights all (resolved lines (settled n status (SharedCall m is_flush outcome)))) (dues before its) (dues lines (settles n status (fills code rules n brings its)))
        (sync_due m is_flush outcome (apart_of done fresh m outcome closed.0)) (dues_answered done fresh its closed.1)
    dues_answered done fresh (Sh (End m good) ∷ its) closed = ap (λ zs. shared_sights all (End m good) ++ zs) (dues_answered done fresh its closed.1)
    dues_answered done fresh (Ow (Known sight) ∷ its) closed = ap (λ zs. sight ∷ zs) (dues_answered done fresh its closed.1)
    dues_answered done fresh (Ow (Awaits m place) ∷ its) closed =
        ap (λ zs. map (CallSight m) (reads code rules place (if n == m then brings else success_of m lines)) ++ zs) (dues_answered done fresh its closed.1)
        ∙ ap (λ (b : Bool). map (CallSight m) (reads code rules place (if b then brings else success_of m lines)) ++ dues lines (settles n status (fills code rules n brings its))) (same_number n m (m == n) refl)
        ∙ read_due m place (m == n) (settles n status (fills code rules n brings its))
        ∙ sym (ap (dues lines) (settles_with (wait_by code rules n brings (Awaits m place)) (fills code rules n brings its)))

-- WHAT ENDED

closed_more : (done : List ℕ) (n : ℕ) (item : Item) → Closed done item → Closed (n ∷ done) item
closed_more done n (Sh (SharedCall m is_flush outcome)) (inl open_yet) = inl open_yet
closed_more done n (Sh (SharedCall m is_flush outcome)) (inr ended) = inr (inr ended)
closed_more done n (Sh (End m good)) c = tt
closed_more done n (Ow wait) c = tt

pub all_closed_append : (done : List ℕ) (xs ys : List Item) → AllClosed done xs → AllClosed done ys → AllClosed done (xs ++ ys)
all_closed_append done [] ys a b = b
all_closed_append done (x ∷ xs) ys a b = (a.0, all_closed_append done xs ys a.1 b)

closed_settled : (done : List ℕ) (n : ℕ) (status : NtStatus) (one : Shared) → Closed done (Sh one) → Closed (n ∷ done) (Sh (settled n status one))
closed_settled done n status (SharedCall m is_flush outcome) c = by (m == n) refl
  where
    by : (b : Bool) → (m == n) ≡ b → Closed (n ∷ done) (Sh (if b then SharedCall m is_flush (outcome_of status) else SharedCall m is_flush outcome))
    by true e = inr (inl (eqb-true m n e))
    by false e = closed_more done n (Sh (SharedCall m is_flush outcome)) c
closed_settled done n status (End m good) c = tt

closed_with : (done : List ℕ) (n : ℕ) (status : NtStatus) (x : Option Wait) (its : List Item) → AllClosed done (settles n status its) → AllClosed done (settles n status (with_wait x its))
closed_with done n status None its a = a
closed_with done n status (Some wait) its a = (tt, a)

pub closed_answered : (code : List ℕ → ℕ) (rules : Rules) (done : List ℕ) (n : ℕ) (status : NtStatus) (bytes : Option (List ℕ)) (its : List Item) → AllClosed done its → AllClosed (n ∷ done) (settles n status (fills code rules n bytes its))
closed_answered code rules done n status bytes [] a = tt
closed_answered code rules done n status bytes (Sh one ∷ its) a = (closed_settled done n status one a.0, closed_answered code rules done n status bytes its a.1)
closed_answered code rules done n status bytes (Ow wait ∷ its) a =
    closed_with (n ∷ done) n status (wait_by code rules n bytes wait) (fills code rules n bytes its) (closed_answered code rules done n status bytes its a.1)

pub closed_end : (done : List ℕ) (n : ℕ) (status : NtStatus) (s o : Bool) → AllClosed done (end_items n status s o)
closed_end done n status true o = (tt, tt)
closed_end done n status false true = (tt, tt)
closed_end done n status false false = tt

closed_syncs : (done : List ℕ) (n : ℕ) (kind : Kind) (through : Bool) → AllClosed done (map Sh (call_of n kind through))
closed_syncs done n Read through = tt
closed_syncs done n Write true = (inl refl, tt)
closed_syncs done n Write false = tt
closed_syncs done n Flush through = (inl refl, tt)

closed_own : (done : List ℕ) (b : Bool) (x : Option Wait) → AllClosed done (if b then items_of x else [])
closed_own done true None = tt
closed_own done true (Some wait) = (tt, tt)
closed_own done false x = tt

pub closed_called : (code : List ℕ → ℕ) (rules : Rules) (i : ℕ) (done : List ℕ) (n : ℕ) (q : ClientRequest) → AllClosed done (call_items code rules i n q)
closed_called code rules i done n q =
    all_closed_append done (map Sh (call_of n q.kind q.through)) (own_items code rules i n q) (closed_syncs done n q.kind q.through) (closed_own done (has_sector rules i q) (call_wait code rules i n q q.kind))
