-- Which sectors of the disk a request moves.
use Rattle.std.specs.Prelude.{◌≡◌, ◌<◌, ℕ, ◌+◌, ◌^◌, ◌&&◌, Bool, false, nat_le, nat_lt, Option, Some, None}
use Rattle.machine.specs.declared.ClientRequest.{ClientRequest}
use Rattle.machine.specs.Rules.{Rules}
use Rattle.loss.specs.Laws.{sector_of}
use Rattle.history_loss_sights.specs.Sights.{has_sector}
use Rattle.history_loss_judge.specs.declared.spans.Span.{Span}

abbrev pub in_range : ℕ → ℕ → ℕ → Bool
in_range first end i = nat_le first i && nat_lt i end

pub record IsSpan (rules : Rules) (q : ClientRequest) (span : Span) : Type 0 where
  pub fits : span.first + span.count < 2 ^ 128
  pub first : span.first ≡ sector_of rules q 0
  pub has : (i : ℕ) → has_sector rules i q ≡ in_range span.first (span.first + span.count) i

abbrev pub IsSpanOf : Rules → ClientRequest → Option Span → Type 0
IsSpanOf rules q None = (i : ℕ) → has_sector rules i q ≡ false
IsSpanOf rules q (Some span) = IsSpan rules q span
