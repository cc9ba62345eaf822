-- Acts of a trace, counted.
use Rattle.std.proofs.Common.{◌≡◌, ◌+◌, ℕ, suc, Bool, true, false, List, count_by, if◌then◌else◌, arith, refl}
use Rattle.std.proofs.lemmas.List.Recursion.{is_count_by}
use Rattle.traced.specs.declared.TraceEntry.{TraceEntry}
use Rattle.traced.specs.Entries.{labels_of}
use Rattle.host.specs.Closing.{act_count, is_act}

one_more : (is_one : Bool) (n : ℕ) → (if is_one then suc n else n) ≡ (if is_one then 1 + n else n)
one_more true n = omega arith
one_more false n = refl

pub acts_counted : (es : List TraceEntry) → act_count (labels_of es) ≡ count_by (λ e. is_act e.label) es
acts_counted es = is_count_by (λ (es : List TraceEntry). act_count (labels_of es)) (λ e. is_act e.label) refl (λ e es. one_more (is_act e.label) (act_count (labels_of es))) es
