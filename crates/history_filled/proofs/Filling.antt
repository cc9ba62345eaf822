-- A history with bytes in its gaps, and that it fits.
use Rattle.std.proofs.Common.{◌≡◌, ◌≢◌, inl, inr, ℕ, zero, suc, ◌+◌, ◌-◌, ◌==◌, Bool, true, false, List, [], ◌∷◌, ◌++◌, Option, Some, None, refl, sym, ◌∙◌, ap, arith, length, set, length-append}
use Rattle.std.specs.Prelude.{is_none, slice_get, if◌then◌else◌}
use Rattle.std.proofs.lemmas.Bool.{and_parts, and_from, eqb-true, eq-eqb}
use Rattle.std.proofs.lemmas.List.{length-set}
use Rattle.ntstatus.specs.declared.NtStatus.{NtStatus}
use Rattle.ntstatus.specs.declared.NtStatus.TheVariants.{Success}
use Rattle.srb.specs.declared.Kind.{Kind}
use Rattle.srb.specs.declared.Kind.TheVariants.{Read, Write, Flush}
use Rattle.machine.specs.declared.ClientRequest.{ClientRequest}
use Rattle.machine.specs.declared.Label.{Label}
use Rattle.machine.specs.declared.Label.TheVariants.{Call, Answer}
use Rattle.machine.specs.Rules.{Rules, is_transfer, first_sector, place_count}
use Rattle.machine.specs.Sending.{partition_number}
use Rattle.history_laws.specs.declared.Asked.{Asked}
use Rattle.history_laws.specs.Fitting.{refused, asked_of, carried, entry_of, brought, ends_by, ends_open, without, asked_after, owed_after, fits, all_fit}
use Rattle.history_runs.proofs.Admitted.{admitted}
use Rattle.history_runs.proofs.Seeing.{asked_more}
use Rattle.history.specs.Gaps.{has_none, IsFilled, AreFilled, brought_by, due_by, fits_blank, fits_by, all_fit_by}
use Rattle.history_filled.proofs.Joining.{joined, joined_length}

-- of sector i of partition p, the bytes that request n moves, where they were not recorded
abbrev pub Content : Type 0
Content = (p i n : ℕ) → List ℕ

abbrev pub bytes_of : Content → Rules → ℕ → ClientRequest → List ℕ
bytes_of content rules n q = joined (λ k. content (partition_number q) (first_sector rules q + k) n) (place_count rules q)

abbrev pub call_bytes : Content → Rules → ℕ → ClientRequest → Option NtStatus → Kind → List ℕ
call_bytes content rules n q None Write = bytes_of content rules n q
call_bytes content rules n q None Read = []
call_bytes content rules n q None Flush = []
call_bytes content rules n q (Some status) kind = []

abbrev pub read_bytes : Content → Rules → ℕ → ClientRequest → Option NtStatus → Kind → List ℕ
read_bytes content rules n q None Write = []
read_bytes content rules n q None Read = bytes_of content rules n q
read_bytes content rules n q None Flush = []
read_bytes content rules n q (Some status) kind = []

abbrev pub found_bytes : Content → Rules → ℕ → Option (Option ClientRequest) → List ℕ
found_bytes content rules n (Some (Some q)) = read_bytes content rules n q (refused rules q) q.kind
found_bytes content rules n _ = []

abbrev pub answer_bytes : Content → Rules → ℕ → NtStatus → Option (Option ClientRequest) → List ℕ
answer_bytes content rules n Success found = found_bytes content rules n found
answer_bytes content rules n _ found = []

-- the requests so far, by their numbers
abbrev pub calls_after : List (Option ClientRequest) → Label → List (Option ClientRequest)
calls_after calls (Call n q) = calls ++ Some q ∷ []
calls_after calls _ = calls

abbrev pub filled_label : Content → Rules → List (Option ClientRequest) → Bool → Label → Label
filled_label content rules calls false label = label
filled_label content rules calls true (Call n q) = Call n (record q { bytes = call_bytes content rules n q (refused rules q) q.kind })
filled_label content rules calls true (Answer n status informed bytes) = Answer n status informed (answer_bytes content rules n status (slice_get calls n))
filled_label content rules calls true label = label

abbrev pub filled : Content → Rules → List (Option ClientRequest) → List Bool → List Label → List Label
filled content rules calls [] labels = []
filled content rules calls (gap ∷ gaps) [] = []
filled content rules calls (gap ∷ gaps) (label ∷ labels) = filled_label content rules calls gap label ∷ filled content rules (calls_after calls label) gaps labels

-- WHAT IS KNOWN OF THE REQUESTS

pub record IsTracked (rules : Rules) (calls : List (Option ClientRequest)) (asked : List (Option Asked)) (owed : Option NtStatus) : Type 0 where
  pub count : length calls ≡ length asked
  pub waiting : (n : ℕ) (a : Asked) → slice_get asked n ≡ Some (Some a) → (q : ClientRequest) × (slice_get calls n ≡ Some (Some q)) × (refused rules q ≡ None) × (a ≡ asked_of q)
  pub owing : (status : NtStatus) → owed ≡ Some status
      → (q : ClientRequest) × (slice_get calls (length asked - 1) ≡ Some (Some q)) × (refused rules q ≡ Some status) × (slice_get asked (length asked - 1) ≡ Some None)

pub last_of : {X : Type 0} (xs : List X) (x : X) → slice_get (xs ++ x ∷ []) (length xs) ≡ Some x
last_of [] x = refl
last_of (y ∷ xs) x = last_of xs x

pub got_more : {X : Type 0} (xs : List X) (x : X) (n : ℕ) (y : X) → slice_get xs n ≡ Some y → slice_get (xs ++ x ∷ []) n ≡ Some y
got_more [] x n y e = absurd (cc (e))
got_more (z ∷ xs) x zero y e = e
got_more (z ∷ xs) x (suc n) y e = got_more xs x n y e

-- an entry that another one was taken beside
pub set_other : (asked : List (Option Asked)) (n m : ℕ) (a : Asked) → m ≢ n → slice_get asked m ≡ Some (Some a) → slice_get (set asked n None) m ≡ Some (Some a)
set_other [] n m a other e = cc (e)
set_other (y ∷ asked) zero zero a other e = absurd (other refl)
set_other (y ∷ asked) zero (suc m) a other e = e
set_other (y ∷ asked) (suc n) zero a other e = e
set_other (y ∷ asked) (suc n) (suc m) a other e = set_other asked n m a (λ same. other (ap suc same)) e

set_before : (asked : List (Option Asked)) (n m : ℕ) (a : Asked) → slice_get (set asked n None) m ≡ Some (Some a) → slice_get asked m ≡ Some (Some a)
set_before [] n m a e = cc (e)
set_before (y ∷ asked) zero zero a e = cc (e)
set_before (y ∷ asked) zero (suc m) a e = e
set_before (y ∷ asked) (suc n) zero a e = e
set_before (y ∷ asked) (suc n) (suc m) a e = set_before asked n m a e

entry_is : (q : ClientRequest) (answer : Option NtStatus) (a : Asked) → entry_of answer q ≡ Some a → (answer ≡ None) × (a ≡ asked_of q)
entry_is q None a e = (refl, cc (e))
entry_is q (Some status) a e = cc (e)

tracked_call : (rules : Rules) (calls : List (Option ClientRequest)) (asked : List (Option Asked)) (owed : Option NtStatus) (q : ClientRequest) → IsTracked rules calls asked owed
    → IsTracked rules (calls ++ Some q ∷ []) (asked ++ entry_of (refused rules q) q ∷ []) (refused rules q)
tracked_call rules calls asked owed q t = record {
  count = length-append calls (Some q ∷ []) ∙ ap (λ n. n + 1) t.count ∙ sym (length-append asked (entry_of (refused rules q) q ∷ []));
  waiting = λ n a e. elim (asked_more asked (entry_of (refused rules q) q) n a e) [
    | inl old ↦ let w = t.waiting n a old in (w.0, got_more calls (Some q) n (Some w.0) w.1, w.2, w.3)
    | inr (last, is) ↦ let w = entry_is q (refused rules q) a is in
        (q, ap (λ m. slice_get (calls ++ Some q ∷ []) m) (last ∙ sym t.count) ∙ last_of calls (Some q), w.0, w.1)
  ];
  owing = λ status e.
      let long : length (asked ++ entry_of (refused rules q) q ∷ []) ≡ length asked + 1 = length-append asked (entry_of (refused rules q) q ∷ []) in
      let last : length (asked ++ entry_of (refused rules q) q ∷ []) - 1 ≡ length asked = omega arith in (
        q,
        ap (λ m. slice_get (calls ++ Some q ∷ []) m) (last ∙ sym t.count) ∙ last_of calls (Some q),
        e,
        ap (λ m. slice_get (asked ++ entry_of (refused rules q) q ∷ []) m) last ∙ last_of asked (entry_of (refused rules q) q) ∙ ap (λ answer. Some (entry_of answer q)) e,
      );
}

tracked_answer : (rules : Rules) (calls : List (Option ClientRequest)) (asked : List (Option Asked)) (owed : Option NtStatus) (n : ℕ) → IsTracked rules calls asked owed
    → IsTracked rules calls (without asked owed n) None
tracked_answer rules calls asked None n t = record {
  count = t.count ∙ sym (length-set asked n None);
  waiting = λ m a e. t.waiting m a (set_before asked n m a e);
  owing = λ status e. absurd (cc (e));
}
tracked_answer rules calls asked (Some due) n t = record {
  count = t.count;
  waiting = t.waiting;
  owing = λ status e. absurd (cc (e));
}

pub nothing_tracked : (rules : Rules) → IsTracked rules (None ∷ []) (None ∷ []) None
nothing_tracked rules = record { count = refl; waiting = λ n a e. absurd (none n a e); owing = λ status e. absurd (cc (e)) }
  where
    none : (n : ℕ) (a : Asked) → slice_get (None ∷ []) n ≡ Some (Some a) → ⊥
    none zero a e = cc (e)
    none (suc n) a e = cc (e)

-- LABEL BY LABEL

entry_same : (answer : Option NtStatus) (q : ClientRequest) (bytes : List ℕ) → entry_of answer (record q { bytes = bytes }) ≡ entry_of answer q
entry_same None q bytes = refl
entry_same (Some status) q bytes = refl

carried_same : (answer : Option NtStatus) (q : ClientRequest) (bytes : List ℕ) → carried answer (record q { bytes = bytes }) ≡ carried answer q
carried_same None q bytes = refl
carried_same (Some status) q bytes = refl

module _ (content : Content) (rules : Rules) (sized : (p i n : ℕ) → length (content p i n) ≡ rules.sector_size) where
  -- a request's bytes are as many as it asks for
  pub bytes_counted : (n : ℕ) (q : ClientRequest) → refused rules q ≡ None → is_transfer q.kind ≡ true → length (bytes_of content rules n q) ≡ q.length
  bytes_counted n q taken transfer =
      joined_length rules.sector_size (λ k. content (partition_number q) (first_sector rules q + k) n) (place_count rules q) (λ k. sized (partition_number q) (first_sector rules q + k) n)
      ∙ (admitted rules q taken).whole transfer

  call_counted : (n : ℕ) (q : ClientRequest) (answer : Option NtStatus) (kind : Kind) → refused rules q ≡ answer → q.kind ≡ kind → length (call_bytes content rules n q answer kind) ≡ carried answer (record q { kind = kind })
  call_counted n q None Write e k = bytes_counted n q e (ap is_transfer k)
  call_counted n q None Read e k = refl
  call_counted n q None Flush e k = refl
  call_counted n q (Some status) kind e k = refl

  read_counted : (n : ℕ) (q : ClientRequest) (kind : Kind) → refused rules q ≡ None → q.kind ≡ kind → length (read_bytes content rules n q None kind) ≡ brought kind q.length
  read_counted n q Write e k = refl
  read_counted n q Read e k = bytes_counted n q e (ap is_transfer k)
  read_counted n q Flush e k = refl

  -- an answer's bytes, by the request that awaits it
  found_counted : (calls : List (Option ClientRequest)) (n : ℕ) (status : NtStatus) (q : ClientRequest) → slice_get calls n ≡ Some (Some q) → refused rules q ≡ None
      → length (answer_bytes content rules n status (slice_get calls n)) ≡ brought_by (Some (Some (asked_of q))) status
  found_counted calls n Success q e taken =
      ap (λ found. length (found_bytes content rules n found)) e ∙ ap (λ answer. length (read_bytes content rules n q answer q.kind)) taken ∙ read_counted n q q.kind taken refl
  found_counted calls n _ q e taken = refl

  none_found : (calls : List (Option ClientRequest)) (n : ℕ) (status due : NtStatus) (q : ClientRequest) → slice_get calls n ≡ Some (Some q) → refused rules q ≡ Some due
      → length (answer_bytes content rules n status (slice_get calls n)) ≡ 0
  none_found calls n Success due q e told = ap (λ found. length (found_bytes content rules n found)) e ∙ ap (λ answer. length (read_bytes content rules n q answer q.kind)) told
  none_found calls n _ due q e told = refl

  pub is_waiting : (found : Option (Option Asked)) (status : NtStatus) (informed count : ℕ) → ends_open found status informed count ≡ true → (a : Asked) × (found ≡ Some (Some a))
  is_waiting (Some (Some a)) status informed count e = (a, refl)
  is_waiting (Some None) status informed count e = cc (e)
  is_waiting None status informed count e = cc (e)

  answer_counted : (calls : List (Option ClientRequest)) (asked : List (Option Asked)) (owed : Option NtStatus) (n : ℕ) (status : NtStatus) (informed : ℕ) → IsTracked rules calls asked owed
      → ends_by asked owed n status informed (due_by asked owed n status) ≡ true → length (answer_bytes content rules n status (slice_get calls n)) ≡ due_by asked owed n status
  answer_counted calls asked None n status informed t fit =
      let open_one = is_waiting (slice_get asked n) status informed (brought_by (slice_get asked n) status) fit in
      let w = t.waiting n open_one.0 open_one.1 in
      found_counted calls n status w.0 w.1 w.2 ∙ sym (ap (λ found. brought_by found status) (open_one.1 ∙ ap (λ a. Some (Some a)) w.3))
  answer_counted calls asked (Some due) n status informed t fit =
      let last : n ≡ length asked - 1 = eqb-true n (length asked - 1) (and_parts (n == length asked - 1) _ fit).0 in
      let w = t.owing due refl in
      none_found calls n status due w.0 (ap (λ m. slice_get calls m) last ∙ w.1) w.2

  -- the label, with bytes where they were not recorded, fits, and goes on like it
  pub record IsFit (calls : List (Option ClientRequest)) (asked : List (Option Asked)) (owed : Option NtStatus) (gap : Bool) (label : Label) : Type 0 where
    pub fit : fits rules asked owed (filled_label content rules calls gap label) ≡ true
    pub is_filled : IsFilled gap label (filled_label content rules calls gap label)
    pub same_asked : asked_after rules asked owed (filled_label content rules calls gap label) ≡ asked_after rules asked owed label
    pub same_owed : owed_after rules owed (filled_label content rules calls gap label) ≡ owed_after rules owed label
    pub tracked : IsTracked rules (calls_after calls label) (asked_after rules asked owed label) (owed_after rules owed label)

  tracked_label : (calls : List (Option ClientRequest)) (asked : List (Option Asked)) (owed : Option NtStatus) (label : Label) → IsTracked rules calls asked owed
      → IsTracked rules (calls_after calls label) (asked_after rules asked owed label) (owed_after rules owed label)
  tracked_label calls asked owed (Call n q) t = tracked_call rules calls asked owed q t
  tracked_label calls asked owed (Answer n status informed bytes) t = tracked_answer rules calls asked owed n t
  tracked_label calls asked owed _ t = t

  pub label_fits : (calls : List (Option ClientRequest)) (asked : List (Option Asked)) (owed : Option NtStatus) (gap : Bool) (label : Label) → IsTracked rules calls asked owed
      → fits_by gap rules asked owed label ≡ true → IsFit calls asked owed gap label
  label_fits calls asked owed false label t fit = record { fit = fit; is_filled = refl; same_asked = refl; same_owed = refl; tracked = tracked_label calls asked owed label t }
  label_fits calls asked owed true (Call n q) t fit =
      let parts = and_parts (has_none (Call n q)) (fits_blank rules asked owed (Call n q)) fit in
      let blank = and_parts (is_none owed) (n == length asked) parts.1 in
      let bytes : List ℕ = call_bytes content rules n q (refused rules q) q.kind in
      let counted : length bytes ≡ carried (refused rules q) (record q { bytes = bytes }) = call_counted n q (refused rules q) q.kind refl refl ∙ sym (carried_same (refused rules q) q bytes) in
      record {
        fit = and_from (is_none owed) _ blank.0 (and_from (n == length asked) _ blank.1 (eq-eqb (length bytes) (carried (refused rules q) (record q { bytes = bytes })) counted));
        is_filled = record { none = parts.0; bytes = bytes; is = refl };
        same_asked = ap (λ entry. asked ++ entry ∷ []) (entry_same (refused rules q) q bytes);
        same_owed = refl;
        tracked = tracked_call rules calls asked owed q t;
      }
  label_fits calls asked owed true (Answer n status informed bytes) t fit =
      let parts = and_parts (has_none (Answer n status informed bytes)) (fits_blank rules asked owed (Answer n status informed bytes)) fit in
      record {
        fit = ap (λ count. ends_by asked owed n status informed count) (answer_counted calls asked owed n status informed t parts.1) ∙ parts.1;
        is_filled = record { none = parts.0; bytes = answer_bytes content rules n status (slice_get calls n); is = refl };
        same_asked = refl;
        same_owed = refl;
        tracked = tracked_answer rules calls asked owed n t;
      }
  label_fits calls asked owed true label t fit = record {
    fit = fit;
    is_filled = record { none = refl; bytes = []; is = refl };
    same_asked = refl;
    same_owed = refl;
    tracked = tracked_label calls asked owed label t;
  }

  pub fit_parts : (b rest : Bool) → (if b then rest else false) ≡ true → (b ≡ true) × (rest ≡ true)
  fit_parts true rest e = (refl, e)
  fit_parts false rest e = cc (e)

  pub both_fit : (b rest : Bool) → b ≡ true → rest ≡ true → (if b then rest else false) ≡ true
  both_fit b rest e f = rw e f

  -- ALL LABELS

  pub all_filled : (gaps : List Bool) (labels : List Label) (calls : List (Option ClientRequest)) (asked : List (Option Asked)) (owed : Option NtStatus) → IsTracked rules calls asked owed
      → all_fit_by rules asked owed gaps labels ≡ true → AreFilled gaps labels (filled content rules calls gaps labels) × (all_fit rules asked owed (filled content rules calls gaps labels) ≡ true)
  all_filled [] [] calls asked owed t fit = (tt, refl)
  all_filled [] (label ∷ labels) calls asked owed t fit = absurd (cc (fit))
  all_filled (gap ∷ gaps) [] calls asked owed t fit = absurd (cc (fit))
  all_filled (gap ∷ gaps) (label ∷ labels) calls asked owed t fit =
      let parts = fit_parts (fits_by gap rules asked owed label) _ fit in
      let now : IsFit calls asked owed gap label = label_fits calls asked owed gap label t parts.0 in
      let rest = all_filled gaps labels (calls_after calls label) (asked_after rules asked owed label) (owed_after rules owed label) now.tracked parts.1 in (
        (now.is_filled, rest.0),
        both_fit (fits rules asked owed (filled_label content rules calls gap label)) _ now.fit
            (ap (λ a. all_fit rules a (owed_after rules owed (filled_label content rules calls gap label)) (filled content rules (calls_after calls label) gaps labels)) now.same_asked
            ∙ ap (λ o. all_fit rules (asked_after rules asked owed label) o (filled content rules (calls_after calls label) gaps labels)) now.same_owed ∙ rest.1),
      )
