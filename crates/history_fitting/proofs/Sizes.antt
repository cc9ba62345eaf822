-- How labels fit is so by sizes and partitions alone.
use Rattle.std.proofs.Common.{◌≡◌, ℕ, ◌+◌, ◌/◌, ◌%◌, ◌==◌, ◌&&◌, Bool, true, false, not, List, [], ◌∷◌, ◌++◌, Option, Some, None, refl, ◌∙◌, ap, length}
use Rattle.std.specs.Prelude.{is_none, nat_le, if◌then◌else◌}
use Rattle.ntstatus.specs.declared.NtStatus.{NtStatus}
use Rattle.ntstatus.specs.declared.NtStatus.TheVariants.{Success, InvalidHandle, InvalidParameter}
use Rattle.ntstatus.specs.First.{when, first_some}
use Rattle.sector.specs.declared.Extent.{Extent}
use Rattle.machine.specs.declared.ClientRequest.{ClientRequest}
use Rattle.machine.specs.declared.Label.{Label}
use Rattle.machine.specs.declared.Label.TheVariants.{Call, Device, Answer, Cancel, Pause, Resume, Remove, Surprise, Removed}
use Rattle.machine.specs.Rules.{Rules, is_transfer, is_in_bounds, first_sector, sectors_of}
use Rattle.history_laws.specs.declared.Asked.{Asked}
use Rattle.history_laws.specs.Fitting.{refused, carried, ends_by, entry_of, without, asked_after, owed_after, all_fit}
use Rattle.history.specs.Gaps.{fits_by, all_fit_by}
use Rattle.history_fitting.specs.declared.service.Service.{Service}
use Rattle.history_fitting.specs.Services.{rules_of, AreOf}

-- rules of these sizes and partitions
abbrev pub sized : ℕ → List Extent → ℕ → Rules
sized size partitions longest = record {
  sector_size = size;
  disk_sectors = 0;
  partitions = partitions;
  longest = longest;
  max_transfer = 1;
  depth = 1;
  open_requests = None;
  window = None;
  one_piece = false;
  busy_limit = 0;
  any_cut = true;
  faithful = true;
  keeps_bytes = true;
}

abbrev pub of_sizes : Rules → Rules
of_sizes rules = sized rules.sector_size rules.partitions rules.longest

pub same_rules : (service : Service) (rules : Rules) → AreOf service rules → of_sizes rules ≡ rules_of service
same_rules service rules of =
    ap (λ n. sized n rules.partitions rules.longest) of.sector_size
    ∙ ap (λ xs. sized service.sector_size xs rules.longest) of.partitions
    ∙ ap (λ n. sized service.sector_size service.partitions.items n) of.longest

pub same_sectors : (rules : Rules) (partition : Option ℕ) → sectors_of rules partition ≡ sectors_of (of_sizes rules) partition
same_sectors rules None = refl
same_sectors rules (Some p) = refl

-- HOW LABELS FIT

pub same_bounds : (rules : Rules) (q : ClientRequest) → is_in_bounds rules q ≡ is_in_bounds (of_sizes rules) q
same_bounds rules q =
    ap (λ n. ((q.offset % rules.sector_size == 0) && (q.length % rules.sector_size == 0))
    && (nat_le (first_sector rules q + q.length / rules.sector_size) n && nat_le (q.length / rules.sector_size) rules.longest)) (same_sectors rules q.partition)

pub same_refused : (rules : Rules) (q : ClientRequest) → refused rules q ≡ refused (of_sizes rules) q
same_refused rules q = ap (λ b. first_some (when (is_none q.partition) InvalidHandle ∷ when (is_transfer q.kind && not b) InvalidParameter ∷ when (is_transfer q.kind && (q.length == 0)) Success ∷ [])) (same_bounds rules q)

-- the rest, behind a call that is answered so at once
abbrev called : Rules → List (Option Asked) → Option NtStatus → ℕ → ClientRequest → List Label → Option NtStatus → Bool
called rules asked owed n q labels answer =
    if is_none owed && ((n == length asked) && (length q.bytes == carried answer q)) then all_fit rules (asked ++ entry_of answer q ∷ []) answer labels else false

same_fit : (rules : Rules) (asked : List (Option Asked)) (owed : Option NtStatus) (labels : List Label) → all_fit rules asked owed labels ≡ all_fit (of_sizes rules) asked owed labels
same_fit rules asked owed [] = refl
same_fit rules asked owed (Call n q ∷ labels) =
    ap (λ answer. called rules asked owed n q labels answer) (same_refused rules q)
    ∙ ap (λ b. if is_none owed && ((n == length asked) && (length q.bytes == carried (refused (of_sizes rules) q) q)) then b else false)
    (same_fit rules (asked ++ entry_of (refused (of_sizes rules) q) q ∷ []) (refused (of_sizes rules) q) labels)
same_fit rules asked owed (Answer n status informed bytes ∷ labels) =
    ap (λ b. if ends_by asked owed n status informed (length bytes) then b else false) (same_fit rules (without asked owed n) None labels)
same_fit rules asked owed (Device label ∷ labels) = same_fit rules asked owed labels
same_fit rules asked owed (Cancel n ∷ labels) = same_fit rules asked owed labels
same_fit rules asked owed (Pause ∷ labels) = same_fit rules asked owed labels
same_fit rules asked owed (Resume ∷ labels) = same_fit rules asked owed labels
same_fit rules asked owed (Remove ∷ labels) = same_fit rules asked owed labels
same_fit rules asked owed (Surprise ∷ labels) = same_fit rules asked owed labels
same_fit rules asked owed (Removed ∷ labels) = same_fit rules asked owed labels

pub fits_alike : (service : Service) (rules : Rules) → AreOf service rules → (asked : List (Option Asked)) (owed : Option NtStatus) (labels : List Label)
    → all_fit rules asked owed labels ≡ all_fit (rules_of service) asked owed labels
fits_alike service rules of asked owed labels = same_fit rules asked owed labels ∙ ap (λ r. all_fit r asked owed labels) (same_rules service rules of)

-- and labels of which some have no bytes, since these were not recorded
module _ (rules : Rules) (asked : List (Option Asked)) (owed : Option NtStatus) where
  same_label : (gap : Bool) (label : Label) → fits_by gap rules asked owed label ≡ fits_by gap (of_sizes rules) asked owed label
  same_label true (Call n q) = refl
  same_label false (Call n q) = ap (λ answer. is_none owed && ((n == length asked) && (length q.bytes == carried answer q))) (same_refused rules q)
  same_label true (Answer n status informed bytes) = refl
  same_label false (Answer n status informed bytes) = refl
  same_label true (Device label) = refl
  same_label false (Device label) = refl
  same_label true (Cancel n) = refl
  same_label false (Cancel n) = refl
  same_label true Pause = refl
  same_label false Pause = refl
  same_label true Resume = refl
  same_label false Resume = refl
  same_label true Remove = refl
  same_label false Remove = refl
  same_label true Surprise = refl
  same_label false Surprise = refl
  same_label true Removed = refl
  same_label false Removed = refl

  same_asked : (label : Label) → asked_after rules asked owed label ≡ asked_after (of_sizes rules) asked owed label
  same_asked (Call n q) = ap (λ answer. asked ++ entry_of answer q ∷ []) (same_refused rules q)
  same_asked (Answer n status informed bytes) = refl
  same_asked (Device label) = refl
  same_asked (Cancel n) = refl
  same_asked Pause = refl
  same_asked Resume = refl
  same_asked Remove = refl
  same_asked Surprise = refl
  same_asked Removed = refl

  same_owed : (label : Label) → owed_after rules owed label ≡ owed_after (of_sizes rules) owed label
  same_owed (Call n q) = same_refused rules q
  same_owed (Answer n status informed bytes) = refl
  same_owed (Device label) = refl
  same_owed (Cancel n) = refl
  same_owed Pause = refl
  same_owed Resume = refl
  same_owed Remove = refl
  same_owed Surprise = refl
  same_owed Removed = refl

same_fit_by : (rules : Rules) (asked : List (Option Asked)) (owed : Option NtStatus) (gaps : List Bool) (labels : List Label) → all_fit_by rules asked owed gaps labels ≡ all_fit_by (of_sizes rules) asked owed gaps labels
same_fit_by rules asked owed [] [] = refl
same_fit_by rules asked owed [] (label ∷ labels) = refl
same_fit_by rules asked owed (gap ∷ gaps) [] = refl
same_fit_by rules asked owed (gap ∷ gaps) (label ∷ labels) =
    ap (λ b. if b then all_fit_by rules (asked_after rules asked owed label) (owed_after rules owed label) gaps labels else false) (same_label rules asked owed gap label)
    ∙ ap (λ b. if fits_by gap (of_sizes rules) asked owed label then b else false)
    (same_fit_by rules (asked_after rules asked owed label) (owed_after rules owed label) gaps labels
    ∙ ap (λ a. all_fit_by (of_sizes rules) a (owed_after rules owed label) gaps labels) (same_asked rules asked owed label)
    ∙ ap (λ o. all_fit_by (of_sizes rules) (asked_after (of_sizes rules) asked owed label) o gaps labels) (same_owed rules asked owed label))

pub fits_alike_by : (service : Service) (rules : Rules) → AreOf service rules → (asked : List (Option Asked)) (owed : Option NtStatus) (gaps : List Bool) (labels : List Label)
    → all_fit_by rules asked owed gaps labels ≡ all_fit_by (rules_of service) asked owed gaps labels
fits_alike_by service rules of asked owed gaps labels = same_fit_by rules asked owed gaps labels ∙ ap (λ r. all_fit_by r asked owed gaps labels) (same_rules service rules of)
