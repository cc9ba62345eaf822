-- What a history with bytes in its gaps shows of a sector.
use Rattle.std.proofs.Common.{◌≡◌, ◌<◌, ◌⊎◌, inl, inr, ℕ, zero, suc, ◌+◌, ◌-◌, ◌*◌, ◌/◌, ◌==◌, ◌&&◌, Bool, true, false, not, List, [], ◌∷◌, ◌++◌, Option, Some, None, map, refl, sym, ◌∙◌, ap, subst, arith, length}
use Rattle.std.specs.Prelude.{All, is_none, option_map, slice_get, unwrap_or, IfSome, if◌then◌else◌}
use Rattle.std.specs.List.{list_any}
use Rattle.std.proofs.lemmas.Bool.{and_parts, eqb-true, ne_eqb}
use Rattle.std.proofs.lemmas.List.{map-append, nil_from_length}
use Rattle.std.proofs.lemmas.List.Elements.{All-push}
use Rattle.std.proofs.Math.Nat.{div-zero, zero-div}
use Rattle.ntstatus.specs.declared.NtStatus.{NtStatus}
use Rattle.ntstatus.specs.declared.NtStatus.TheVariants.{Success, InvalidHandle, InvalidParameter}
use Rattle.ntstatus.specs.First.{when, first_some}
use Rattle.srb.specs.declared.Kind.{Kind}
use Rattle.srb.specs.declared.Kind.TheVariants.{Read, Write, Flush}
use Rattle.machine.specs.declared.ClientRequest.{ClientRequest}
use Rattle.machine.specs.declared.Label.{Label}
use Rattle.machine.specs.declared.Label.TheVariants.{Call, Answer}
use Rattle.machine.specs.Rules.{Rules, is_transfer, is_in_bounds, first_sector, place_count}
use Rattle.machine.specs.Calling.{bytes_carried}
use Rattle.machine.specs.Sending.{partition_number}
use Rattle.history_laws.specs.declared.Asked.{Asked}
use Rattle.history_laws.specs.Schedules.{IsAt}
use Rattle.history_laws.specs.Fitting.{refused, carried, entry_of, asked_after, owed_after}
use Rattle.history_runs.proofs.Admitted.{admitted}
use Rattle.register.specs.declared.Sight.{Sight}
use Rattle.register.specs.declared.Sight.TheVariants.{Write as WriteSight, Read as ReadSight, Done, Failed}
use Rattle.register.specs.Values.{code}
use Rattle.register.proofs.Coding.{none_is}
use Rattle.history.specs.Sights.{has_sector, bytes_at, success_of, is_call_of, end_of, read_sight, value_of, call_sight, sight_of, with_sight, sights_of}
use Rattle.history.specs.Gaps.{has_none, fits_blank, fits_by, all_fit_by}
use Rattle.history_shown.proofs.Turning.{has_at}
use Rattle.history_filled.proofs.Decoding.{sector_has_value}
use Rattle.history_filled.proofs.Joining.{joined_part, part_length, none_part}
use Rattle.history_filled.proofs.Filling.{Content, bytes_of, call_bytes, calls_after, filled_label, filled, IsTracked, last_of, label_fits, fit_parts}
use Rattle.history_filled.proofs.Mending.{stand_in, told, IsValue, IsOfSector}
use Rattle.history_filled.proofs.Answering.{Awaits, Succeed, answers}

-- A REQUEST THAT HAS THE SECTOR

is_zero : (places place length' size : ℕ) → places ≡ length' / size → place < places → length' ≡ 0 → ⊥
is_zero places place length' size is low none = let e : places ≡ 0 = is ∙ ap (λ l. l / size) none ∙ zero-div size in absurd (omega arith)

is_some : (places place length' size : ℕ) → places ≡ length' / size → place < places → 0 < size
is_some places place length' zero is low = let e : places ≡ 0 = is ∙ div-zero length' in absurd (omega arith)
is_some places place length' (suc size) is low = omega arith

module _ (rules : Rules) (p i : ℕ) (q : ClientRequest) (at : IsAt rules p i q (i - first_sector rules q)) where
  places_are : place_count rules q ≡ q.length / rules.sector_size
  places_are = ap (λ b. if b then q.length / rules.sector_size else 1) at.transfer

  size_some : 0 < rules.sector_size
  size_some = is_some (place_count rules q) (i - first_sector rules q) q.length rules.sector_size places_are at.inside

  taken_in : refused rules q ≡ None
  taken_in =
      let unbound : is_none q.partition ≡ false = ap is_none at.partition in
      let some : (q.length == 0) ≡ false = ne_eqb q.length 0 (is_zero (place_count rules q) (i - first_sector rules q) q.length rules.sector_size places_are at.inside) in
      ap (λ b. first_some (when b InvalidHandle ∷ when (is_transfer q.kind && not (is_in_bounds rules q)) InvalidParameter ∷ when (is_transfer q.kind && (q.length == 0)) Success ∷ [])) unbound
      ∙ ap (λ b. first_some (when false InvalidHandle ∷ when (is_transfer q.kind && not b) InvalidParameter ∷ when (is_transfer q.kind && (q.length == 0)) Success ∷ [])) at.in_bounds
      ∙ ap (λ b. first_some (when false InvalidHandle ∷ when (b && not true) InvalidParameter ∷ when (b && (q.length == 0)) Success ∷ [])) at.transfer
      ∙ ap (λ b. first_some (when false InvalidHandle ∷ when (true && not true) InvalidParameter ∷ when (true && b) Success ∷ [])) some

  length_is : q.length ≡ place_count rules q * rules.sector_size
  length_is = sym ((admitted rules q taken_in).whole at.transfer)

  recorded_part : (bytes : List ℕ) → length bytes ≡ q.length → length (bytes_at rules i q bytes) ≡ rules.sector_size
  recorded_part bytes long = part_length rules.sector_size bytes (place_count rules q) (i - first_sector rules q) (long ∙ length_is) at.inside

  blank_part : bytes_at rules i q [] ≡ []
  blank_part = none_part ((i - first_sector rules q) * rules.sector_size) ((i - first_sector rules q + 1) * rules.sector_size)

module _ (content : Content) (rules : Rules) (sized : (p i n : ℕ) → length (content p i n) ≡ rules.sector_size) (p i : ℕ) where
  filled_part : (n : ℕ) (q : ClientRequest) → IsAt rules p i q (i - first_sector rules q) → bytes_at rules i q (bytes_of content rules n q) ≡ content p i n
  filled_part n q at =
      joined_part rules.sector_size (λ k. content (partition_number q) (first_sector rules q + k) n) (place_count rules q) (i - first_sector rules q)
      (λ k. sized (partition_number q) (first_sector rules q + k) n) at.inside
      ∙ ap (λ s. content (partition_number q) s n) at.sector ∙ ap (λ partition. content (unwrap_or partition 0) i n) at.partition

  abbrev others : ℕ → ℕ
  others n = code (content p i n)

  abbrev told_of : Sight → Sight
  told_of x = told others x

  -- of one sight, what stands in its place is another
  pub record Sees (x y : Option Sight) : Type 0 where
    pub same : y ≡ option_map told_of x
    pub values : IfSome x (IsOfSector rules.sector_size)

  nothing_seen : Sees None None
  nothing_seen = record { same = refl; values = tt }

  -- a sector's bytes, or none, and the content in their place
  abbrev Stands : ℕ → List ℕ → List ℕ → Type 0
  Stands n a b = ((length a ≡ rules.sector_size) × (b ≡ a)) ⊎ ((a ≡ []) × (b ≡ content p i n))

  stands_value : (n : ℕ) (a b : List ℕ) → 0 < rules.sector_size → Stands n a b → (code b ≡ stand_in others n (code a)) × IsValue rules.sector_size (code a)
  stands_value n a b some (inl (whole, same)) = (
    ap code same ∙ sym (ap (λ t. if t then others n else code a) (ne_eqb (code a) 0 (sector_has_value rules.sector_size a some whole))),
    record { some = some; is = inr (a, whole, refl) },
  )
  stands_value n a b some (inr (empty, is)) =
      let none : code a ≡ 0 = ap code empty ∙ none_is in (
        ap code is ∙ sym (ap (stand_in others n) none),
        record { some = some; is = inl none },
      )

  -- A CALL

  abbrev told_bytes : ℕ → ClientRequest → Bool → List ℕ
  told_bytes n q false = q.bytes
  told_bytes n q true = call_bytes content rules n q (refused rules q) q.kind

  module _ (n : ℕ) (q : ClientRequest) (at : IsAt rules p i q (i - first_sector rules q)) where
    write_stands : (asked : List (Option Asked)) (owed : Option NtStatus) (gap : Bool) → q.kind ≡ Write → fits_by gap rules asked owed (Call n q) ≡ true
        → Stands n (bytes_at rules i q q.bytes) (bytes_at rules i q (told_bytes n q gap))
    write_stands asked owed false is_write fit =
        let parts = and_parts (n == length asked) (length q.bytes == carried (refused rules q) q) (and_parts (is_none owed) _ fit).1 in
        let long : length q.bytes ≡ q.length = eqb-true (length q.bytes) (carried (refused rules q) q) parts.1 ∙ ap (λ answer. carried answer q) (taken_in rules p i q at) ∙ ap (λ kind. bytes_carried kind q.length) is_write in
        inl (recorded_part rules p i q at q.bytes long, refl)
    write_stands asked owed true is_write fit =
        let blank : q.bytes ≡ [] = nil_from_length q.bytes (eqb-true (length q.bytes) 0 (and_parts (has_none (Call n q)) (fits_blank rules asked owed (Call n q)) fit).0) in
        let whole : call_bytes content rules n q (refused rules q) q.kind ≡ bytes_of content rules n q =
        ap (λ answer. call_bytes content rules n q answer q.kind) (taken_in rules p i q at) ∙ ap (λ kind. call_bytes content rules n q None kind) is_write in
        inr (ap (bytes_at rules i q) blank ∙ blank_part rules p i q at, ap (bytes_at rules i q) whole ∙ filled_part n q at)

    write_sees : (a b : List ℕ) → Stands n a b → Sees (Some (WriteSight n (code a))) (Some (WriteSight n (code b)))
    write_sees a b stands =
        let v = stands_value n a b (size_some rules p i q at) stands in
        record { same = ap (λ value. Some (WriteSight n value)) v.0; values = v.1 }

    read_sees : (a b : List ℕ) → Stands n a b → Sees (Some (ReadSight n (code a))) (Some (ReadSight n (code b)))
    read_sees a b stands =
        let v = stands_value n a b (size_some rules p i q at) stands in
        record { same = ap (λ value. Some (ReadSight n value)) v.0; values = v.1 }

    reads_see : (is_read : q.kind ≡ Read) (taken : refused rules q ≡ None) (found whole : Option (List ℕ)) (bytes : List ℕ) → Succeed content rules sized n q is_read taken found whole
        → Sees (read_sight n (value_of code rules i q found)) (read_sight n (value_of code rules i (record q { bytes = bytes }) whole))
    reads_see is_read taken found whole bytes (inl (none, none')) =
        subst (λ o. Sees (read_sight n (value_of code rules i q o)) (read_sight n (value_of code rules i (record q { bytes = bytes }) whole))) (sym none)
        (subst (λ o. Sees None (read_sight n (value_of code rules i (record q { bytes = bytes }) o))) (sym none') nothing_seen)
    reads_see is_read taken found whole bytes (inr (inl (got, long, is, is'))) =
        subst (λ o. Sees (read_sight n (value_of code rules i q o)) (read_sight n (value_of code rules i (record q { bytes = bytes }) whole))) (sym is)
        (subst (λ o. Sees (Some (ReadSight n (code (bytes_at rules i q got)))) (read_sight n (value_of code rules i (record q { bytes = bytes }) o))) (sym is')
        (read_sees (bytes_at rules i q got) (bytes_at rules i q got) (inl (recorded_part rules p i q at got long, refl))))
    reads_see is_read taken found whole bytes (inr (inr (is, is'))) =
        subst (λ o. Sees (read_sight n (value_of code rules i q o)) (read_sight n (value_of code rules i (record q { bytes = bytes }) whole))) (sym is)
        (subst (λ o. Sees (Some (ReadSight n (code (bytes_at rules i q [])))) (read_sight n (value_of code rules i (record q { bytes = bytes }) o))) (sym is')
        (read_sees (bytes_at rules i q []) (bytes_at rules i q (bytes_of content rules n q)) (inr (blank_part rules p i q at, filled_part n q at))))

    -- behind the call
    called_awaits : (is_read : q.kind ≡ Read) (calls : List (Option ClientRequest)) (asked : List (Option Asked)) (owed : Option NtStatus) → IsTracked rules calls asked owed → n ≡ length asked
        → Awaits content rules sized n q is_read (taken_in rules p i q at) (calls ++ Some q ∷ []) (asked ++ entry_of (refused rules q) q ∷ [])
    called_awaits is_read calls asked owed t number = record {
      called = ap (λ m. slice_get (calls ++ Some q ∷ []) m) (number ∙ sym t.count) ∙ last_of calls (Some q);
      waiting = ap (λ m. slice_get (asked ++ entry_of (refused rules q) q ∷ []) m) number ∙ last_of asked (entry_of (refused rules q) q) ∙ ap (λ answer. Some (entry_of answer q)) (taken_in rules p i q at);
    }

  number_is : (asked : List (Option Asked)) (owed : Option NtStatus) (gap : Bool) (n : ℕ) (q : ClientRequest) → fits_by gap rules asked owed (Call n q) ≡ true → n ≡ length asked
  number_is asked owed false n q fit = eqb-true n (length asked) (and_parts (n == length asked) _ (and_parts (is_none owed) _ fit).1).0
  number_is asked owed true n q fit = eqb-true n (length asked) (and_parts (is_none owed) (n == length asked) (and_parts (has_none (Call n q)) (fits_blank rules asked owed (Call n q)) fit).1).1

  -- a label's sight, before these labels
  abbrev SeesLabel : Bool → List Bool → List (Option ClientRequest) → List Sight → Label → List Label → Type 0
  SeesLabel gap gaps calls sights label labels =
      Sees (sight_of code rules p i sights label labels) (sight_of code rules p i (map told_of sights) (filled_label content rules calls gap label) (filled content rules (calls_after calls label) gaps labels))

  module _ (n : ℕ) (q : ClientRequest) (gap : Bool) (gaps : List Bool) (labels : List Label) (calls : List (Option ClientRequest)) (asked : List (Option Asked)) (owed : Option NtStatus)
      (t : IsTracked rules calls asked owed) (fit : fits_by gap rules asked owed (Call n q) ≡ true)
      (later : all_fit_by rules (asked ++ entry_of (refused rules q) q ∷ []) (refused rules q) gaps labels ≡ true) where
    tracked_now : IsTracked rules (calls ++ Some q ∷ []) (asked ++ entry_of (refused rules q) q ∷ []) (refused rules q)
    tracked_now = (label_fits content rules sized calls asked owed gap (Call n q) t fit).tracked

    call_sees : (b : Bool) → has_sector rules p i q ≡ b → Sees (if b then call_sight code rules i n q q.kind labels else None)
        (if b then call_sight code rules i n (record q { bytes = told_bytes n q gap }) q.kind (filled content rules (calls ++ Some q ∷ []) gaps labels) else None)
    call_sees false e = nothing_seen
    call_sees true e = by_kind q.kind refl
      where
        at : IsAt rules p i q (i - first_sector rules q)
        at = has_at rules p i q e

        by_kind : (kind : Kind) → q.kind ≡ kind → Sees (call_sight code rules i n q kind labels) (call_sight code rules i n (record q { bytes = told_bytes n q gap }) kind (filled content rules (calls ++ Some q ∷ []) gaps labels))
        by_kind Write k = write_sees n q at (bytes_at rules i q q.bytes) (bytes_at rules i q (told_bytes n q gap)) (write_stands n q at asked owed gap k fit)
        by_kind Read k =
            reads_see n q at k (taken_in rules p i q at) (success_of n labels) (success_of n (filled content rules (calls ++ Some q ∷ []) gaps labels)) (told_bytes n q gap)
            (answers content rules sized n q k (taken_in rules p i q at) gaps labels (calls ++ Some q ∷ []) (asked ++ entry_of (refused rules q) q ∷ []) (refused rules q) tracked_now
            (called_awaits n q at k calls asked owed t (number_is asked owed gap n q fit)) later)
        by_kind Flush k = nothing_seen

  call_seen : (gap : Bool) (gaps : List Bool) (n : ℕ) (q : ClientRequest) (labels : List Label) (calls : List (Option ClientRequest)) (asked : List (Option Asked)) (owed : Option NtStatus) (sights : List Sight)
      → IsTracked rules calls asked owed → fits_by gap rules asked owed (Call n q) ≡ true → all_fit_by rules (asked ++ entry_of (refused rules q) q ∷ []) (refused rules q) gaps labels ≡ true
      → SeesLabel gap gaps calls sights (Call n q) labels
  call_seen false gaps n q labels calls asked owed sights t fit later = call_sees n q false gaps labels calls asked owed t fit later (has_sector rules p i q) refl
  call_seen true gaps n q labels calls asked owed sights t fit later = call_sees n q true gaps labels calls asked owed t fit later (has_sector rules p i q) refl

  -- AN ANSWER

  same_call : (n : ℕ) (x : Sight) → is_call_of n (told_of x) ≡ is_call_of n x
  same_call n (WriteSight m value) = refl
  same_call n (ReadSight m value) = refl
  same_call n (Done m) = refl
  same_call n (Failed m) = refl

  same_calls : (n : ℕ) (sights : List Sight) → list_any (is_call_of n) (map told_of sights) ≡ list_any (is_call_of n) sights
  same_calls n [] = refl
  same_calls n (x ∷ sights) = rw (same_call n x, same_calls n sights) refl

  end_sees : (n : ℕ) (status : NtStatus) → Sees (Some (end_of n status)) (Some (end_of n status))
  end_sees n Success = record { same = refl; values = tt }
  end_sees n _ = record { same = refl; values = tt }

  answer_sees : (n : ℕ) (status : NtStatus) (b : Bool) → Sees (if b then Some (end_of n status) else None) (if b then Some (end_of n status) else None)
  answer_sees n status true = end_sees n status
  answer_sees n status false = nothing_seen

  answer_seen : (gap : Bool) (gaps : List Bool) (n : ℕ) (status : NtStatus) (informed : ℕ) (bytes : List ℕ) (labels : List Label) (calls : List (Option ClientRequest)) (sights : List Sight)
      → SeesLabel gap gaps calls sights (Answer n status informed bytes) labels
  answer_seen false gaps n status informed bytes labels calls sights =
      subst (λ b. Sees (if list_any (is_call_of n) sights then Some (end_of n status) else None) (if b then Some (end_of n status) else None)) (sym (same_calls n sights)) (answer_sees n status (list_any (is_call_of n) sights))
  answer_seen true gaps n status informed bytes labels calls sights =
      subst (λ b. Sees (if list_any (is_call_of n) sights then Some (end_of n status) else None) (if b then Some (end_of n status) else None)) (sym (same_calls n sights)) (answer_sees n status (list_any (is_call_of n) sights))

  -- ALL LABELS

  label_seen : (gap : Bool) (gaps : List Bool) (label : Label) (labels : List Label) (calls : List (Option ClientRequest)) (asked : List (Option Asked)) (owed : Option NtStatus) (sights : List Sight)
      → IsTracked rules calls asked owed → fits_by gap rules asked owed label ≡ true → all_fit_by rules (asked_after rules asked owed label) (owed_after rules owed label) gaps labels ≡ true
      → SeesLabel gap gaps calls sights label labels
  label_seen gap gaps (Call n q) labels calls asked owed sights t fit later = call_seen gap gaps n q labels calls asked owed sights t fit later
  label_seen gap gaps (Answer n status informed bytes) labels calls asked owed sights t fit later = answer_seen gap gaps n status informed bytes labels calls sights
  label_seen false gaps _ labels calls asked owed sights t fit later = nothing_seen
  label_seen true gaps _ labels calls asked owed sights t fit later = nothing_seen

  with_told : (sights : List Sight) (x y : Option Sight) → Sees x y → All (IsOfSector rules.sector_size) sights
      → (with_sight (map told_of sights) y ≡ map told_of (with_sight sights x)) × All (IsOfSector rules.sector_size) (with_sight sights x)
  with_told sights None y s values = (ap (with_sight (map told_of sights)) s.same, values)
  with_told sights (Some x) y s values = (
    ap (with_sight (map told_of sights)) s.same ∙ sym (map-append told_of sights (x ∷ [])),
    All-push (IsOfSector rules.sector_size) sights x values s.values,
  )

  pub shows : (gaps : List Bool) (labels : List Label) (calls : List (Option ClientRequest)) (asked : List (Option Asked)) (owed : Option NtStatus) (sights : List Sight) → IsTracked rules calls asked owed
      → all_fit_by rules asked owed gaps labels ≡ true → All (IsOfSector rules.sector_size) sights
      → (sights_of code rules p i (map told_of sights) (filled content rules calls gaps labels) ≡ map told_of (sights_of code rules p i sights labels)) × All (IsOfSector rules.sector_size) (sights_of code rules p i sights labels)
  shows [] [] calls asked owed sights t fit values = (refl, values)
  shows [] (label ∷ labels) calls asked owed sights t fit values = absurd (cc (fit))
  shows (gap ∷ gaps) [] calls asked owed sights t fit values = absurd (cc (fit))
  shows (gap ∷ gaps) (label ∷ labels) calls asked owed sights t fit values =
      let parts = fit_parts content rules sized (fits_by gap rules asked owed label) _ fit in
      let seen : SeesLabel gap gaps calls sights label labels = label_seen gap gaps label labels calls asked owed sights t parts.0 parts.1 in
      let now = with_told sights (sight_of code rules p i sights label labels)
      (sight_of code rules p i (map told_of sights) (filled_label content rules calls gap label) (filled content rules (calls_after calls label) gaps labels)) seen values in
      let rest = shows gaps labels (calls_after calls label) (asked_after rules asked owed label) (owed_after rules owed label) (with_sight sights (sight_of code rules p i sights label labels))
      (label_fits content rules sized calls asked owed gap label t parts.0).tracked parts.1 now.1 in
      (ap (λ xs. sights_of code rules p i xs (filled content rules (calls_after calls label) gaps labels)) now.0 ∙ rest.0, rest.1)
