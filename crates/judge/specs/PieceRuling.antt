-- The rule that is named of an act, a fault or a return, as a function of the state and the label.
use Rattle.std.specs.Prelude.{ℕ, ◌==◌, ◌+◌, ◌*◌, ◌&&◌, not, Bool, true, false, List, Option, Some, None, length, slice_range, option_map, if◌then◌else◌}
use Rattle.std.specs.List.{concat, find, list_all}
use Rattle.sector.specs.declared.Extent.{Extent}
use Rattle.srb.specs.declared.Completion.{Completion}
use Rattle.srb.specs.declared.Class.{Class}
use Rattle.srb.specs.declared.Class.TheVariants.{Good, Busy, Bad}
use Rattle.srb.specs.Fate.{Fate, Fresh, Acted, Faulted, is_fresh, class_of}
use Rattle.srb.specs.declared.Kind.{Kind}
use Rattle.srb.specs.declared.Kind.TheVariants.{Read, Write, Flush}
use Rattle.machine.specs.declared.ClientRequest.{ClientRequest}
use Rattle.machine.specs.Rules.{Rules, is_transfer}
use Rattle.machine.specs.State.{OpenRequest, Piece, State}
use Rattle.machine.specs.Sending.{sectors_at}
use Rattle.judge.specs.Deciding.{has_number, is_piece, is_bad}
use Rattle.judge.specs.Ruling.{difference}
use Rattle.judge.specs.declared.piece_rules.ActRule.{ActRule}
use Rattle.judge.specs.declared.piece_rules.ActRule.TheVariants as act_rule
use Rattle.judge.specs.declared.piece_rules.ReturnRule.{ReturnRule}
use Rattle.judge.specs.declared.piece_rules.ReturnRule.TheVariants as return_rule

-- ACTS AND FAULTS

abbrev pub has_size : ℕ → List ℕ → Bool
has_size size sector = length sector == size

-- the list has this many sectors, each of this size
abbrev pub are_whole : ℕ → ℕ → List (List ℕ) → Bool
are_whole count size sectors = (length sectors == count) && list_all (has_size size) sectors

-- how many bytes move with an act
abbrev pub length_moved : Kind → ℕ → ℕ → ℕ
length_moved kind count size = if is_transfer kind then count * size else 0

abbrev pub disk_rule : ℕ → ℕ → ℕ → List (List ℕ) → List ℕ → Option ActRule
disk_rule piece count size there bytes =
    if not (are_whole count size there) then Some (act_rule.NoSectors piece) else option_map act_rule.Disk (difference 0 (concat there) bytes)

abbrev pub sent_rule : List ℕ → List ℕ → Option ActRule
sent_rule sent bytes = option_map act_rule.Write (difference 0 sent bytes)

abbrev pub moving_rule : Rules → State → ℕ → ClientRequest → Extent → Kind → List ℕ → Option ActRule
moving_rule rules s piece q places Read bytes =
    if rules.faithful then disk_rule piece places.count rules.sector_size (sectors_at rules s q places) bytes else None
moving_rule rules s piece q places Write bytes =
    sent_rule (slice_range q.bytes (places.first * rules.sector_size) ((places.first + places.count) * rules.sector_size)) bytes
moving_rule rules s piece q places Flush bytes = None

abbrev pub owned_rule : Rules → State → Piece → List ℕ → Option OpenRequest → Option ActRule
owned_rule rules s piece bytes None = None
owned_rule rules s piece bytes (Some o) =
    if not (length bytes == length_moved o.request.kind piece.places.count rules.sector_size)
    then Some (act_rule.Length (length_moved o.request.kind piece.places.count rules.sector_size) (length bytes))
    else moving_rule rules s piece.number o.request piece.places o.request.kind bytes

abbrev pub fresh_rule : Rules → State → Piece → List ℕ → Option ActRule
fresh_rule rules s piece bytes = owned_rule rules s piece bytes (find (has_number piece.owner) s.requests)

abbrev pub acting_rule_of : Rules → State → ℕ → List ℕ → Option Piece → Option ActRule
acting_rule_of rules s number bytes None = Some (act_rule.NoPiece number)
acting_rule_of rules s number bytes (Some piece) = if not (is_fresh piece.fate) then Some (act_rule.Before number) else fresh_rule rules s piece bytes

abbrev pub acting_rule : Rules → State → ℕ → List ℕ → Option ActRule
acting_rule rules s number bytes = acting_rule_of rules s number bytes (find (is_piece number) s.pieces)

abbrev pub faulting_rule_of : ℕ → Option Piece → Option ActRule
faulting_rule_of number None = Some (act_rule.NoPiece number)
faulting_rule_of number (Some piece) = if is_fresh piece.fate then None else Some (act_rule.Before number)

abbrev pub faulting_rule : State → ℕ → Option ActRule
faulting_rule s number = faulting_rule_of number (find (is_piece number) s.pieces)

-- RETURNS

abbrev pub has_acted : Fate → Bool
has_acted Fresh = false
has_acted (Acted sectors) = true
has_acted Faulted = false

abbrev pub bad_rule : ℕ → Completion → Option ReturnRule
bad_rule number completion = if is_bad (class_of completion) then None else Some (return_rule.GoodCode number completion.srb_status)

abbrev pub returning_rule_of : ℕ → Class → Fate → Option ReturnRule
returning_rule_of number Good fate = if has_acted fate then None else Some (return_rule.GoodWithoutAct number)
returning_rule_of number Busy fate = if is_fresh fate then None else Some (return_rule.BusyAfterAct number)
returning_rule_of number (Bad completion) fate = bad_rule number completion

abbrev pub returned_rule : ℕ → Class → Option Piece → Option ReturnRule
returned_rule number class None = Some (return_rule.NoPiece number)
returned_rule number class (Some piece) = returning_rule_of number class piece.fate

abbrev pub returning_rule : State → ℕ → Class → Option ReturnRule
returning_rule s number class = returned_rule number class (find (is_piece number) s.pieces)
