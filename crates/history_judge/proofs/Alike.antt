-- What a history shows of a sector is so by sizes and partitions alone.
use Rattle.std.proofs.Common.{◌≡◌, ℕ, ◌+◌, ◌/◌, ◌%◌, ◌==◌, ◌&&◌, List, [], ◌∷◌, Option, Some, None, refl, ◌∙◌, ap}
use Rattle.std.specs.Prelude.{nat_le, nat_lt, if◌then◌else◌}
use Rattle.srb.specs.declared.Kind.{Kind}
use Rattle.srb.specs.declared.Kind.TheVariants.{Read, Write, Flush}
use Rattle.machine.specs.declared.ClientRequest.{ClientRequest}
use Rattle.machine.specs.declared.Label.{Label}
use Rattle.machine.specs.declared.Label.TheVariants.{Call, Device, Answer, Cancel, Pause, Resume, Remove, Surprise, Removed}
use Rattle.machine.specs.Rules.{Rules, is_transfer, first_sector, place_count}
use Rattle.register.specs.declared.Sight.{Sight}
use Rattle.history.specs.Sights.{is_partition, has_sector, read_sight, call_sight, value_of, success_of, sight_of, with_sight, sights_of}
use Rattle.history_fitting.specs.declared.service.Service.{Service}
use Rattle.history_fitting.specs.Services.{rules_of, AreOf}
use Rattle.history_fitting.proofs.Sizes.{of_sizes, same_rules, same_sectors}

same_has : (rules : Rules) (p i : ℕ) (q : ClientRequest) → has_sector rules p i q ≡ has_sector (of_sizes rules) p i q
same_has rules p i q =
    ap (λ n. (is_partition p q.partition && (is_transfer q.kind && (((q.offset % rules.sector_size == 0) && (q.length % rules.sector_size == 0))
    && (nat_le (first_sector rules q + q.length / rules.sector_size) n && nat_le (q.length / rules.sector_size) rules.longest))))
    && (nat_le (first_sector rules q) i && nat_lt i (first_sector rules q + place_count rules q))) (same_sectors rules q.partition)

same_value : (code : List ℕ → ℕ) (rules : Rules) (i : ℕ) (q : ClientRequest) (bytes : Option (List ℕ)) → value_of code rules i q bytes ≡ value_of code (of_sizes rules) i q bytes
same_value code rules i q None = refl
same_value code rules i q (Some bytes) = refl

same_call : (code : List ℕ → ℕ) (rules : Rules) (i n : ℕ) (q : ClientRequest) (kind : Kind) (later : List Label) → call_sight code rules i n q kind later ≡ call_sight code (of_sizes rules) i n q kind later
same_call code rules i n q Write later = refl
same_call code rules i n q Read later = ap (λ v. read_sight n v) (same_value code rules i q (success_of n later))
same_call code rules i n q Flush later = refl

same_sight : (code : List ℕ → ℕ) (rules : Rules) (p i : ℕ) (sights : List Sight) (label : Label) (later : List Label) → sight_of code rules p i sights label later ≡ sight_of code (of_sizes rules) p i sights label later
same_sight code rules p i sights (Call n q) later =
    ap (λ b. if b then call_sight code rules i n q q.kind later else None) (same_has rules p i q)
    ∙ ap (λ s. if has_sector (of_sizes rules) p i q then s else None) (same_call code rules i n q q.kind later)
same_sight code rules p i sights (Answer n status informed bytes) later = refl
same_sight code rules p i sights (Device label) later = refl
same_sight code rules p i sights (Cancel n) later = refl
same_sight code rules p i sights Pause later = refl
same_sight code rules p i sights Resume later = refl
same_sight code rules p i sights Remove later = refl
same_sight code rules p i sights Surprise later = refl
same_sight code rules p i sights Removed later = refl

same_sights : (code : List ℕ → ℕ) (rules : Rules) (p i : ℕ) (sights : List Sight) (labels : List Label) → sights_of code rules p i sights labels ≡ sights_of code (of_sizes rules) p i sights labels
same_sights code rules p i sights [] = refl
same_sights code rules p i sights (label ∷ labels) =
    ap (λ s. sights_of code rules p i (with_sight sights s) labels) (same_sight code rules p i sights label labels)
    ∙ same_sights code rules p i (with_sight sights (sight_of code (of_sizes rules) p i sights label labels)) labels

pub shown_alike : (service : Service) (rules : Rules) → AreOf service rules → (code : List ℕ → ℕ) (p i : ℕ) (labels : List Label) → sights_of code rules p i [] labels ≡ sights_of code (rules_of service) p i [] labels
shown_alike service rules of code p i labels = same_sights code rules p i [] labels ∙ ap (λ r. sights_of code r p i [] labels) (same_rules service rules of)
