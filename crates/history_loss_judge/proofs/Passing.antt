-- What passes has schedules, so it is explained.
use Rattle.std.proofs.Common.{◌≡◌, ◌<◌, ◌≤◌, ◌⊎◌, inl, inr, ℕ, zero, suc, ◌+◌, ◌-◌, ◌*◌, ◌==◌, Bool, true, false, List, [], ◌∷◌, ◌++◌, Option, Some, None, refl, sym, ◌∙◌, ap, subst, arith, length, map, take, drop, mul-suc, slice_range}
use Rattle.std.specs.Prelude.{All, if◌then◌else◌}
use Rattle.std.proofs.lemmas.List.Elements.{All-nil, All-append, All-cons}
use Rattle.ntstatus.specs.declared.NtStatus.{NtStatus}
use Rattle.ntstatus.specs.declared.NtStatus.TheVariants.{Success}
use Rattle.srb.specs.declared.Kind.{Kind}
use Rattle.srb.specs.declared.Kind.TheVariants.{Read, Write, Flush}
use Rattle.machine.specs.declared.ClientRequest.{ClientRequest}
use Rattle.machine.specs.declared.Label.TheVariants.{Call, Device, Answer, Cancel, Pause, Resume, Remove, Surprise, Removed}
use Rattle.machine.specs.Rules.{Rules}
use Rattle.machine_laws.specs.Sectors.{part_of}
use Rattle.register.specs.Values.{code, CodesTell}
use Rattle.loss.specs.Sessions.{Line, Told, Lost, Ended}
use Rattle.loss.specs.Laws.{value_for}
use Rattle.register_loss.specs.declared.What.TheVariants.{Read as Reads, Write as Writes, Flush as Flushes, Sync}
use Rattle.register_loss.specs.declared.Sight.TheVariants.{Call as CallSight, Elsewhere, Lost as LostSight, Ended as EndedSight}
use Rattle.register_loss.specs.Schedules.{HasSchedule}
use Rattle.history_loss_sights.specs.Sights.{end_of, has_sector, moves, place_of, success_bytes, success_of}
use Rattle.history_loss_shown.specs.Steady.{steady_sights_of, steady_syncs, steady_whats}
use Rattle.history_loss_shown.specs.Laws.{IsReadBelow, ShownAreExplained}
use Rattle.history_loss_judge.specs.Laws.{PassedAreExplained}
use Rattle.history_loss_judge.proofs.Alike.{over_alike, steady_alike}

-- A NUMBER ABOVE ALL THAT IS READ

-- above those of the first places
abbrev high : Rules → List ℕ → ℕ → ℕ
high rules bytes zero = suc (code (part_of rules bytes 0))
high rules bytes (suc k) = suc (code (part_of rules bytes (suc k))) + high rules bytes k

high_low : (rules : Rules) (bytes : List ℕ) (k place : ℕ) → place ≤ k → code (part_of rules bytes place) < high rules bytes k
high_low rules bytes zero place low =
    let e : 0 ≡ place = omega (arith, low) in
    let h : code (part_of rules bytes 0) < suc (code (part_of rules bytes 0)) = omega arith in
    subst (λ p. code (part_of rules bytes p) < suc (code (part_of rules bytes 0))) e h
high_low rules bytes (suc k) place low = elim (split place k low) [
  | inl lower ↦ let h : code (part_of rules bytes place) < high rules bytes k = high_low rules bytes k place lower in omega (arith, h)
  | inr same ↦
      let h : code (part_of rules bytes (suc k)) < suc (code (part_of rules bytes (suc k))) + high rules bytes k = omega arith in
      subst (λ p. code (part_of rules bytes p) < suc (code (part_of rules bytes (suc k))) + high rules bytes k) (sym same) h
]
  where
    split : (x y : ℕ) → x ≤ suc y → (x ≤ y) ⊎ (x ≡ suc y)
    split x y h = grind arith

abbrev no_bytes : List ℕ
no_bytes = []

take_none : (n : ℕ) → take n no_bytes ≡ []
take_none zero = refl
take_none (suc n) = refl

drop_past : (n : ℕ) (xs : List ℕ) → length xs ≤ n → drop n xs ≡ []
drop_past zero [] low = refl
drop_past (suc n) [] low = refl
drop_past zero (x ∷ xs) low = absurd (omega (arith, low))
drop_past (suc n) (x ∷ xs) low = drop_past n xs (omega (arith, low))

-- no bytes stand past the end
range_past : (size place : ℕ) (bytes : List ℕ) → length bytes ≤ place → slice_range bytes (place * size) ((place + 1) * size) ≡ []
range_past zero place bytes low =
    let e : (place + 1) * 0 - place * 0 ≡ 0 = omega arith in
    ap (λ n. take n (drop (place * 0) bytes)) e
range_past (suc s) place bytes low =
    let e : place * suc s ≡ place * s + place = mul-suc place s in
    ap (take ((place + 1) * suc s - place * suc s)) (drop_past (place * suc s) bytes (omega (arith, e, low))) ∙ take_none ((place + 1) * suc s - place * suc s)

all_low : (rules : Rules) (bytes : List ℕ) (place : ℕ) → code (part_of rules bytes place) < high rules bytes (length bytes)
all_low rules bytes place = elim (split place (length bytes)) [
  | inl low ↦ high_low rules bytes (length bytes) place low
  | inr past ↦
      subst (λ xs. code xs < high rules bytes (length bytes)) (range_past rules.sector_size (length bytes) bytes (omega arith) ∙ sym (range_past rules.sector_size place bytes past))
      (high_low rules bytes (length bytes) (length bytes) (omega arith))
]
  where
    split : (x y : ℕ) → (x ≤ y) ⊎ (y ≤ x)
    split x y = grind arith

-- above all that answers bring
abbrev top : Rules → List Line → ℕ
top rules [] = 0
top rules (Lost ∷ lines) = top rules lines
top rules (Ended ∷ lines) = top rules lines
top rules (Told (Call n q) ∷ lines) = top rules lines
top rules (Told (Answer n status informed bytes) ∷ lines) = high rules bytes (length bytes) + top rules lines
top rules (Told (Device label) ∷ lines) = top rules lines
top rules (Told (Cancel n) ∷ lines) = top rules lines
top rules (Told Pause ∷ lines) = top rules lines
top rules (Told Resume ∷ lines) = top rules lines
top rules (Told Remove ∷ lines) = top rules lines
top rules (Told Surprise ∷ lines) = top rules lines
top rules (Told Removed ∷ lines) = top rules lines

-- what a success brings is below
abbrev IsLow : Rules → Option (List ℕ) → ℕ → Type 0
IsLow rules None count = Unit {0}
IsLow rules (Some bytes) count = (place : ℕ) → code (part_of rules bytes place) < count

low_more : (rules : Rules) (answer : Option (List ℕ)) (a b : ℕ) → a ≤ b → IsLow rules answer a → IsLow rules answer b
low_more rules None a b le h = tt
low_more rules (Some bytes) a b le h = λ place. let l : code (part_of rules bytes place) < a = h place in omega (arith, l, le)

brought_low : (rules : Rules) (status : NtStatus) (bytes : List ℕ) (rest : ℕ) → IsLow rules (success_bytes status bytes) (high rules bytes (length bytes) + rest)
brought_low rules Success bytes rest = λ place. let l : code (part_of rules bytes place) < high rules bytes (length bytes) = all_low rules bytes place in omega (arith, l)
brought_low rules _ bytes rest = tt

either : (rules : Rules) (n number : ℕ) (status : NtStatus) (bytes : List ℕ) (lines : List Line) → IsLow rules (success_of n lines) (top rules lines)
    → IsLow rules (if number == n then success_bytes status bytes else success_of n lines) (high rules bytes (length bytes) + top rules lines)
either rules n number status bytes lines later = by (number == n)
  where
    by : (t : Bool) → IsLow rules (if t then success_bytes status bytes else success_of n lines) (high rules bytes (length bytes) + top rules lines)
    by true = brought_low rules status bytes (top rules lines)
    by false = low_more rules (success_of n lines) (top rules lines) (high rules bytes (length bytes) + top rules lines) (omega arith) later

success_low : (rules : Rules) (n : ℕ) (lines : List Line) → IsLow rules (success_of n lines) (top rules lines)
success_low rules n [] = tt
success_low rules n (Lost ∷ lines) = tt
success_low rules n (Ended ∷ lines) = tt
success_low rules n (Told (Answer number status informed bytes) ∷ lines) =
    either rules n number status bytes lines (success_low rules n lines)
success_low rules n (Told (Call number q) ∷ lines) = success_low rules n lines
success_low rules n (Told (Device label) ∷ lines) = success_low rules n lines
success_low rules n (Told (Cancel number) ∷ lines) = success_low rules n lines
success_low rules n (Told Pause ∷ lines) = success_low rules n lines
success_low rules n (Told Resume ∷ lines) = success_low rules n lines
success_low rules n (Told Remove ∷ lines) = success_low rules n lines
success_low rules n (Told Surprise ∷ lines) = success_low rules n lines
success_low rules n (Told Removed ∷ lines) = success_low rules n lines

module _ (rules : Rules) (i count : ℕ) where
  abbrev none_read : All (IsReadBelow count) []
  none_read = All-nil (IsReadBelow count)

  whats_low : (n : ℕ) (q : ClientRequest) (place : ℕ) (through : Bool) (kind : Kind) (answer : Option (List ℕ)) (has : Bool) → IsLow rules answer count
      → All (IsReadBelow count) (map (CallSight n) (steady_syncs through kind answer ++ (if has then moves code rules place q answer kind else [])))
  whats_low n q place through Read None true low = none_read
  whats_low n q place through Read None false low = none_read
  whats_low n q place through Read (Some bytes) true low = All-cons (IsReadBelow count) (CallSight n (Reads (code (part_of rules bytes place)))) [] (low place) none_read
  whats_low n q place through Read (Some bytes) false low = none_read
  whats_low n q place through Write None true low = All-cons (IsReadBelow count) (CallSight n (Writes (code (value_for rules q place)) q.through)) [] tt none_read
  whats_low n q place through Write None false low = none_read
  whats_low n q place true Write (Some bytes) true low =
      All-cons (IsReadBelow count) (CallSight n Sync) (CallSight n (Writes (code (value_for rules q place)) q.through) ∷ []) tt
      (All-cons (IsReadBelow count) (CallSight n (Writes (code (value_for rules q place)) q.through)) [] tt none_read)
  whats_low n q place true Write (Some bytes) false low = All-cons (IsReadBelow count) (CallSight n Sync) [] tt none_read
  whats_low n q place false Write (Some bytes) true low = All-cons (IsReadBelow count) (CallSight n (Writes (code (value_for rules q place)) q.through)) [] tt none_read
  whats_low n q place false Write (Some bytes) false low = none_read
  whats_low n q place through Flush None true low = none_read
  whats_low n q place through Flush None false low = none_read
  whats_low n q place through Flush (Some bytes) true low = All-cons (IsReadBelow count) (CallSight n Flushes) [] tt none_read
  whats_low n q place through Flush (Some bytes) false low = All-cons (IsReadBelow count) (CallSight n Flushes) [] tt none_read

  end_low : (n : ℕ) (status : NtStatus) → IsReadBelow count (end_of n status)
  end_low n Success = tt
  end_low n _ = tt

  reads_low : (lines : List Line) → top rules lines ≤ count → All (IsReadBelow count) (steady_sights_of code rules i lines)
  reads_low [] low = none_read
  reads_low (Lost ∷ lines) low = All-cons (IsReadBelow count) LostSight (steady_sights_of code rules i lines) tt (reads_low lines low)
  reads_low (Ended ∷ lines) low = All-cons (IsReadBelow count) EndedSight (steady_sights_of code rules i lines) tt (reads_low lines low)
  reads_low (Told (Call n q) ∷ lines) low =
      All-cons (IsReadBelow count) (Elsewhere n) (map (CallSight n) (steady_whats code rules i q (success_of n lines)) ++ steady_sights_of code rules i lines) tt
      (All-append (IsReadBelow count) (map (CallSight n) (steady_whats code rules i q (success_of n lines))) (steady_sights_of code rules i lines)
      (whats_low n q (place_of rules i q) q.through q.kind (success_of n lines) (has_sector rules i q) (low_more rules (success_of n lines) (top rules lines) count low (success_low rules n lines)))
      (reads_low lines low))
  reads_low (Told (Answer n status informed bytes) ∷ lines) low =
      All-cons (IsReadBelow count) (end_of n status) (steady_sights_of code rules i lines) (end_low n status) (reads_low lines (omega (arith, low)))
  reads_low (Told (Device label) ∷ lines) low = reads_low lines low
  reads_low (Told (Cancel n) ∷ lines) low = reads_low lines low
  reads_low (Told Pause ∷ lines) low = reads_low lines low
  reads_low (Told Resume ∷ lines) low = reads_low lines low
  reads_low (Told Remove ∷ lines) low = reads_low lines low
  reads_low (Told Surprise ∷ lines) low = reads_low lines low
  reads_low (Told Removed ∷ lines) low = reads_low lines low

pub passed_explained : CodesTell → ShownAreExplained → PassedAreExplained
passed_explained tell law service start lines rules disk arrays of room whole filled seen none_busy passed =
    law code (top rules lines) rules disk arrays lines (λ a b low same. tell a b same) room whole
    (record { is_history = seen; fit = over_alike service rules of lines ∙ passed.fit; not_busy = none_busy })
    (λ i moved. record {
      low = reads_low rules i (top rules lines) lines (omega arith);
      schedule = subst (λ b. HasSchedule (code b) (steady_sights_of code rules i lines)) (sym (filled i moved))
          (subst (HasSchedule (code start)) (sym (steady_alike service rules of code i lines)) (passed.passes i));
    })
