-- What is kept of a session, in one list.
use Rattle.std.proofs.Common.{◌≡◌, ℕ, suc, ◌+◌, ◌-◌, ◌&&◌, ◌||◌, Bool, true, false, not, List, [], ◌∷◌, ◌++◌, Option, Some, None, refl, sym, ◌∙◌, ap, map, take, drop, arith, length, length-append, append_assoc, append-nil}
use Rattle.std.specs.Prelude.{if◌then◌else◌}
use Rattle.std.specs.List.{list_any}
use Rattle.ntstatus.specs.declared.NtStatus.{NtStatus}
use Rattle.machine.specs.declared.ClientRequest.{ClientRequest}
use Rattle.machine.specs.Rules.{Rules}
use Rattle.register_loss.specs.declared.Sight.{Sight}
use Rattle.history_loss_sights.specs.Sights.{end_of, has_sector}
use Rattle.history_loss_kept.specs.declared.Wait.{Wait}
use Rattle.history_loss_kept.specs.declared.Wait.TheVariants.{Known}
use Rattle.history_loss_kept.specs.declared.Own.{Own}
use Rattle.history_loss_kept.specs.declared.Shared.{Shared}
use Rattle.history_loss_kept.specs.declared.Shared.TheVariants.{Call as SharedCall, End}
use Rattle.history_loss_kept.specs.Kept.{Session, all_shared, call_of, call_wait, called, fill, is_own_of, is_success, is_sync_of, merged, outcome_of, own_after_answer, own_after_call, own_sights, settled, shared_after, shared_sights, wait_by, with_first, with_last}

pub data Item : Type 0 where
  Sh : (one : Shared) → Item
  Ow : (wait : Wait) → Item

abbrev pub shareds : List Item → List Shared
shareds [] = []
shareds (Sh one ∷ its) = one ∷ shareds its
shareds (Ow wait ∷ its) = shareds its

abbrev pub owns : ℕ → List Item → List Own
owns k [] = []
owns k (Sh one ∷ its) = owns (k + 1) its
owns k (Ow wait ∷ its) = record { behind = k; wait = wait } ∷ owns k its

abbrev pub session_of : List Item → Session
session_of its = record { shared = shareds its; own = owns 0 its }

abbrev pub made : List Shared → List Own → Session
made shared own = record { shared = shared; own = own }

session_is : (a b : List Shared) (c d : List Own) → a ≡ b → c ≡ d → made a c ≡ made b d
session_is a b c d e f = ap (λ x. made x c) e ∙ ap (λ y. made b y) f

shareds_append : (xs ys : List Item) → shareds (xs ++ ys) ≡ shareds xs ++ shareds ys
shareds_append [] ys = refl
shareds_append (Sh one ∷ xs) ys = ap (λ zs. one ∷ zs) (shareds_append xs ys)
shareds_append (Ow wait ∷ xs) ys = shareds_append xs ys

owns_append : (k : ℕ) (xs ys : List Item) → owns k (xs ++ ys) ≡ owns k xs ++ owns (k + length (shareds xs)) ys
owns_append k [] ys = let e : k ≡ k + 0 = omega arith in ap (λ n. owns n ys) e
owns_append k (Sh one ∷ xs) ys =
    let e : (k + 1) + length (shareds xs) ≡ k + suc (length (shareds xs)) = omega arith in
    owns_append (k + 1) xs ys ∙ ap (λ n. owns (k + 1) xs ++ owns n ys) e
owns_append k (Ow wait ∷ xs) ys = ap (λ (zs : List Own). record { behind = k; wait = wait } ∷ zs) (owns_append k xs ys)

-- A CALL

abbrev pub items_of : Option Wait → List Item
items_of None = []
items_of (Some wait) = Ow wait ∷ []

abbrev pub own_items : (List ℕ → ℕ) → Rules → ℕ → ℕ → ClientRequest → List Item
own_items code rules i n q = if has_sector rules i q then items_of (call_wait code rules i n q q.kind) else []

abbrev pub call_items : (List ℕ → ℕ) → Rules → ℕ → ℕ → ClientRequest → List Item
call_items code rules i n q = map Sh (call_of n q.kind q.through) ++ own_items code rules i n q

shareds_calls : (cs : List Shared) (its : List Item) → shareds (map Sh cs ++ its) ≡ cs ++ shareds its
shareds_calls [] its = refl
shareds_calls (c ∷ cs) its = ap (λ zs. c ∷ zs) (shareds_calls cs its)

owns_calls : (k : ℕ) (cs : List Shared) (its : List Item) → owns k (map Sh cs ++ its) ≡ owns (k + length cs) its
owns_calls k [] its = let e : k ≡ k + 0 = omega arith in ap (λ n. owns n its) e
owns_calls k (c ∷ cs) its = let e : (k + 1) + length cs ≡ k + suc (length cs) = omega arith in owns_calls (k + 1) cs its ∙ ap (λ n. owns n its) e

no_shareds : (b : Bool) (x : Option Wait) → shareds (if b then items_of x else []) ≡ []
no_shareds true None = refl
no_shareds true (Some wait) = refl
no_shareds false x = refl

own_last : (own : List Own) (m : ℕ) (b : Bool) (x : Option Wait) → own ++ owns m (if b then items_of x else []) ≡ (if b then with_last m x own else own)
own_last own m true None = append-nil own
own_last own m true (Some wait) = refl
own_last own m false x = append-nil own

pub session_called : (code : List ℕ → ℕ) (rules : Rules) (i n : ℕ) (q : ClientRequest) (its : List Item)
    → session_of (its ++ call_items code rules i n q) ≡ called code rules i n q (shareds its ++ call_of n q.kind q.through) (owns 0 its)
session_called code rules i n q its = session_is (shareds (its ++ call_items code rules i n q)) (shareds its ++ cs) (owns 0 (its ++ call_items code rules i n q)) (own_after_call code rules i (length (shareds its ++ cs)) n q (owns 0 its)) one two
  where
    cs : List Shared
    cs = call_of n q.kind q.through

    one : shareds (its ++ call_items code rules i n q) ≡ shareds its ++ cs
    one = shareds_append its (call_items code rules i n q) ∙ ap (λ zs. shareds its ++ zs) (shareds_calls cs (own_items code rules i n q) ∙ ap (λ zs. cs ++ zs) (no_shareds (has_sector rules i q) (call_wait code rules i n q q.kind)) ∙ append-nil cs)

    at : (0 + length (shareds its)) + length cs ≡ length (shareds its ++ cs)
    at = let e : length (shareds its ++ cs) ≡ length (shareds its) + length cs = length-append (shareds its) cs in omega (arith, e)

    two : owns 0 (its ++ call_items code rules i n q) ≡ own_after_call code rules i (length (shareds its ++ cs)) n q (owns 0 its)
    two =
        owns_append 0 its (call_items code rules i n q)
        ∙ ap (λ zs. owns 0 its ++ zs) (owns_calls (0 + length (shareds its)) cs (own_items code rules i n q) ∙ ap (λ k. owns k (own_items code rules i n q)) at)
        ∙ own_last (owns 0 its) (length (shareds its ++ cs)) (has_sector rules i q) (call_wait code rules i n q q.kind)

-- AN ANSWER

abbrev pub with_wait : Option Wait → List Item → List Item
with_wait None its = its
with_wait (Some wait) its = Ow wait ∷ its

abbrev pub settles : ℕ → NtStatus → List Item → List Item
settles n status [] = []
settles n status (Sh one ∷ its) = Sh (settled n status one) ∷ settles n status its
settles n status (Ow wait ∷ its) = Ow wait ∷ settles n status its

shareds_settles : (n : ℕ) (status : NtStatus) (its : List Item) → shareds (settles n status its) ≡ map (settled n status) (shareds its)
shareds_settles n status [] = refl
shareds_settles n status (Sh one ∷ its) = ap (λ zs. settled n status one ∷ zs) (shareds_settles n status its)
shareds_settles n status (Ow wait ∷ its) = shareds_settles n status its

owns_settles : (k n : ℕ) (status : NtStatus) (its : List Item) → owns k (settles n status its) ≡ owns k its
owns_settles k n status [] = refl
owns_settles k n status (Sh one ∷ its) = owns_settles (k + 1) n status its
owns_settles k n status (Ow wait ∷ its) = ap (λ (zs : List Own). record { behind = k; wait = wait } ∷ zs) (owns_settles k n status its)

not_settled : (n : ℕ) (status : NtStatus) (one : Shared) → is_sync_of n one ≡ false → settled n status one ≡ one
not_settled n status (SharedCall m is_flush outcome) e = ap (λ (b : Bool). if b then SharedCall m is_flush (outcome_of status) else SharedCall m is_flush outcome) e
not_settled n status (End m good) e = refl

or_false : (a b : Bool) → (a || b) ≡ false → (a ≡ false) × (b ≡ false)
or_false true b e = absurd (cc (e))
or_false false b e = (refl, e)

none_settled : (n : ℕ) (status : NtStatus) (shared : List Shared) → list_any (is_sync_of n) shared ≡ false → map (settled n status) shared ≡ shared
none_settled n status [] e = refl
none_settled n status (one ∷ shared) e =
    let parts : (is_sync_of n one ≡ false) × (list_any (is_sync_of n) shared ≡ false) = or_false (is_sync_of n one) (list_any (is_sync_of n) shared) e in
    ap (λ x. x ∷ map (settled n status) shared) (not_settled n status one parts.0) ∙ ap (λ xs. one ∷ xs) (none_settled n status shared parts.1)

-- its end, where all see it, or the sector alone
abbrev pub end_items : ℕ → NtStatus → Bool → Bool → List Item
end_items n status true own = Sh (End n (is_success status)) ∷ []
end_items n status false true = Ow (Known (end_of n status)) ∷ []
end_items n status false false = []

module _ (code : List ℕ → ℕ) (rules : Rules) (n : ℕ) (bytes : Option (List ℕ)) where
  abbrev pub fills : List Item → List Item
  fills [] = []
  fills (Sh one ∷ its) = Sh one ∷ fills its
  fills (Ow wait ∷ its) = with_wait (wait_by code rules n bytes wait) (fills its)

  shareds_with : (x : Option Wait) (its : List Item) → shareds (with_wait x its) ≡ shareds its
  shareds_with None its = refl
  shareds_with (Some wait) its = refl

  pub shareds_fills : (its : List Item) → shareds (fills its) ≡ shareds its
  shareds_fills [] = refl
  shareds_fills (Sh one ∷ its) = ap (λ zs. one ∷ zs) (shareds_fills its)
  shareds_fills (Ow wait ∷ its) = shareds_with (wait_by code rules n bytes wait) (fills its) ∙ shareds_fills its

  owns_with : (k : ℕ) (x : Option Wait) (its : List Item) → owns k (with_wait x its) ≡ with_first k x (owns k its)
  owns_with k None its = refl
  owns_with k (Some wait) its = refl

  owns_fills : (k : ℕ) (its : List Item) → owns k (fills its) ≡ fill code rules n bytes (owns k its)
  owns_fills k [] = refl
  owns_fills k (Sh one ∷ its) = owns_fills (k + 1) its
  owns_fills k (Ow wait ∷ its) = owns_with k (wait_by code rules n bytes wait) (fills its) ∙ ap (with_first k (wait_by code rules n bytes wait)) (owns_fills k its)

  abbrev pub any_sync : List Item → Bool
  any_sync its = list_any (is_sync_of n) (shareds its)

  abbrev pub any_own : List Item → Bool
  any_own its = list_any (is_own_of n) (fill code rules n bytes (owns 0 its))

  abbrev pub answered : NtStatus → List Item → List Item
  answered status its = settles n status (fills its) ++ end_items n status (any_sync its) (any_own its)

  front_shareds : (status : NtStatus) (its : List Item) → shareds (settles n status (fills its)) ≡ map (settled n status) (shareds its)
  front_shareds status its = shareds_settles n status (fills its) ∙ ap (map (settled n status)) (shareds_fills its)

  front_length : (status : NtStatus) (its : List Item) → length (shareds (settles n status (fills its))) ≡ length (shareds its)
  front_length status its = ap length (front_shareds status its) ∙ same (shareds its)
    where
      same : (xs : List Shared) → length (map (settled n status) xs) ≡ length xs
      same [] = refl
      same (x ∷ xs) = ap suc (same xs)

  shared_is : (status : NtStatus) (its : List Item) (s o : Bool) → any_sync its ≡ s
      → map (settled n status) (shareds its) ++ shareds (end_items n status s o) ≡ (if s then map (settled n status) (shareds its) ++ End n (is_success status) ∷ [] else shareds its)
  shared_is status its true o e = refl
  shared_is status its false true e = append-nil (map (settled n status) (shareds its)) ∙ none_settled n status (shareds its) e
  shared_is status its false false e = append-nil (map (settled n status) (shareds its)) ∙ none_settled n status (shareds its) e

  own_is : (status : NtStatus) (own : List Own) (k m : ℕ) (s o : Bool) → k ≡ m
      → own ++ owns k (end_items n status s o) ≡ (if not s && o then own ++ record { behind = m; wait = Known (end_of n status) } ∷ [] else own)
  own_is status own k m true o e = append-nil own
  own_is status own k m false true e = ap (λ j. own ++ record { behind = j; wait = Known (end_of n status) } ∷ []) e
  own_is status own k m false false e = append-nil own

  pub session_answered : (status : NtStatus) (its : List Item)
      → session_of (answered status its) ≡ made (shared_after n status (shareds its)) (own_after_answer code rules n (shareds its) status bytes (owns 0 its))
  session_answered status its =
      session_is (shareds (answered status its)) (shared_after n status (shareds its)) (owns 0 (answered status its)) (own_after_answer code rules n (shareds its) status bytes (owns 0 its))
      (shareds_append (settles n status (fills its)) ends ∙ ap (λ zs. zs ++ shareds ends) (front_shareds status its) ∙ shared_is status its (any_sync its) (any_own its) refl)
      (owns_append 0 (settles n status (fills its)) ends
      ∙ ap (λ zs. zs ++ owns (0 + length (shareds (settles n status (fills its)))) ends) (owns_settles 0 n status (fills its) ∙ owns_fills 0 its)
      ∙ own_is status (fill code rules n bytes (owns 0 its)) (0 + length (shareds (settles n status (fills its)))) (length (shareds its)) (any_sync its) (any_own its) (let e : length (shareds (settles n status (fills its))) ≡ length (shareds its) = front_length status its in omega (arith, e)))
    where
      ends : List Item
      ends = end_items n status (any_sync its) (any_own its)

-- WHAT IS SEEN

abbrev pub flat : Bool → List Item → List Sight
flat all [] = []
flat all (Sh one ∷ its) = shared_sights all one ++ flat all its
flat all (Ow wait ∷ its) = own_sights wait ++ flat all its

shared_sights_append : (all : Bool) (xs ys : List Shared) → all_shared all (xs ++ ys) ≡ all_shared all xs ++ all_shared all ys
shared_sights_append all [] ys = refl
shared_sights_append all (x ∷ xs) ys = ap (λ zs. shared_sights all x ++ zs) (shared_sights_append all xs ys) ∙ sym (append_assoc (shared_sights all x) (all_shared all xs) (all_shared all ys))

drop_front : {X : Type 0} (pre xs : List X) (k : ℕ) → length pre ≡ k → drop k (pre ++ xs) ≡ xs
drop_front pre xs k e = ap (λ n. drop n (pre ++ xs)) (sym e) ∙ front pre
  where
    front : (ys : List _) → drop (length ys) (ys ++ xs) ≡ xs
    front [] = refl
    front (y ∷ ys) = front ys

take_front : {X : Type 0} (pre xs : List X) (k : ℕ) → length pre ≡ k → take k (pre ++ xs) ≡ pre
take_front pre xs k e = ap (λ n. take n (pre ++ xs)) (sym e) ∙ front pre
  where
    front : (ys : List _) → take (length ys) (ys ++ xs) ≡ ys
    front [] = refl
    front (y ∷ ys) = ap (λ zs. y ∷ zs) (front ys)

merged_flat : (all : Bool) (its : List Item) (pre mids whole : List Shared) (taken k : ℕ) → length pre ≡ taken → taken + length mids ≡ k → whole ≡ pre ++ (mids ++ shareds its)
    → merged all taken (owns k its) whole ≡ all_shared all mids ++ flat all its
merged_flat all [] pre mids whole taken k a b c =
    ap (λ w. all_shared all (drop taken w)) c ∙ ap (all_shared all) (drop_front pre (mids ++ []) taken a ∙ append-nil mids) ∙ sym (append-nil (all_shared all mids))
merged_flat all (Sh one ∷ its) pre mids whole taken k a b c =
    merged_flat all its pre (mids ++ one ∷ []) whole taken (k + 1) a
    (let e : length (mids ++ one ∷ []) ≡ length mids + 1 = length-append mids (one ∷ []) in omega (arith, e, b))
    (c ∙ ap (λ zs. pre ++ zs) (sym (append_assoc mids (one ∷ []) (shareds its))))
    ∙ ap (λ zs. zs ++ flat all its) (shared_sights_append all mids (one ∷ []))
    ∙ append_assoc (all_shared all mids) (shared_sights all one ++ []) (flat all its)
    ∙ ap (λ zs. all_shared all mids ++ (zs ++ flat all its)) (append-nil (shared_sights all one))
merged_flat all (Ow wait ∷ its) pre mids whole taken k a b c =
    ap (λ zs. all_shared all zs ++ (own_sights wait ++ merged all k (owns k its) whole))
    (ap (λ w. take (k - taken) (drop taken w)) c ∙ ap (take (k - taken)) (drop_front pre (mids ++ shareds its) taken a) ∙ take_front mids (shareds its) (k - taken) (omega (arith, b)))
    ∙ ap (λ zs. all_shared all mids ++ (own_sights wait ++ zs))
    (merged_flat all its (pre ++ mids) [] whole k k (let e : length (pre ++ mids) ≡ length pre + length mids = length-append pre mids in omega (arith, e, a, b)) (omega arith) (c ∙ sym (append_assoc pre mids (shareds its))))

pub merged_is : (all : Bool) (its : List Item) → merged all 0 (owns 0 its) (shareds its) ≡ flat all its
merged_is all its = merged_flat all its [] [] (shareds its) 0 0 refl (omega arith) refl
