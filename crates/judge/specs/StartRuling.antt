-- The rule that is named of a start, as a function of the state and the label.
use Rattle.std.specs.Prelude.{ℕ, zero, suc, ◌==◌, ◌+◌, ◌%◌, ◌^◌, ◌&&◌, nat_lt, nat_le, not, Bool, true, false, List, Option, Some, None, Result, Ok, Err, length, slice_range, option_map, is_some, if◌then◌else◌}
use Rattle.std.specs.List.{find, list_any, position}
use Rattle.std.specs.Option.{option_or}
use Rattle.sector.specs.declared.Extent.{Extent}
use Rattle.cdb.specs.declared.Cdb.{Cdb}
use Rattle.cdb.specs.declared.Cdb.TheVariants.{Read10, Write10, Sync10, ReadCapacity10, Read16, Write16, Sync16, ReadCapacity16}
use Rattle.srb.specs.declared.Kind.{Kind}
use Rattle.srb.specs.declared.Kind.TheVariants.{Read, Write, Flush}
use Rattle.machine.specs.Rules.{Rules}
use Rattle.machine.specs.State.{Mark, Untouched, Out, Done, Failed, Back, OpenRequest, Piece, State}
use Rattle.machine.specs.Cutting.{mark_at, is_back, restarts_left}
use Rattle.machine.specs.Sending.{is_unsent, is_started, fits_ten}
use Rattle.judge.specs.Deciding.{has_number, has_tag, is_in_turn, places_at, places_for}
use Rattle.judge.specs.declared.start_rules.StartRule.{StartRule}
use Rattle.judge.specs.declared.start_rules.StartRule.TheVariants as start_rule
use Rattle.judge.specs.declared.start_rules.Misfit.{Misfit}
use Rattle.judge.specs.declared.start_rules.Misfit.TheVariants as misfit
use Rattle.judge.specs.declared.start_rules.Hindrance.{Hindrance}
use Rattle.judge.specs.declared.start_rules.Hindrance.TheVariants as hindrance

-- TAGS

-- the lowest tag below a number on which no piece is
abbrev pub lowest_free : List Piece → ℕ → ℕ → Option ℕ
lowest_free pieces tag zero = None
lowest_free pieces tag (suc more) = if list_any (has_tag tag) pieces then lowest_free pieces (tag + 1) more else Some tag

abbrev pub used_rule : ℕ → Option Piece → Option StartRule
used_rule tag None = None
used_rule tag (Some piece) = Some (start_rule.TagInUse tag piece.number)

abbrev pub lower_rule : ℕ → Option ℕ → Option StartRule
lower_rule tag None = None
lower_rule tag (Some lowest) = Some (start_rule.Tag lowest tag)

abbrev pub tag_rule : ℕ → List Piece → ℕ → Option StartRule
tag_rule depth pieces tag =
    if not (nat_lt tag depth) then Some (start_rule.Depth tag depth)
    else option_or (used_rule tag (find (has_tag tag) pieces)) (lower_rule tag (lowest_free pieces 0 tag))

-- WHAT HOLDS A REQUEST BACK

-- there is a place at least, and all are of the request
abbrev pub is_inside : OpenRequest → Extent → Bool
is_inside o places = nat_lt 0 places.count && nat_le (places.first + places.count) (length o.marks)

abbrev pub asked_inside : OpenRequest → Option Extent → Option Extent
asked_inside o None = None
asked_inside o (Some places) = if is_inside o places then Some places else None

-- the request is the one that is told, if one is
abbrev pub is_told : Option ℕ → OpenRequest → Bool
is_told None o = true
is_told (Some owner) o = has_number owner o

-- the places of the request that a command asks for, where it may be the one that is told
abbrev pub asked : Rules → Option ℕ → Cdb → OpenRequest → Option Extent
asked rules owner command o = if is_told owner o then asked_inside o (places_for rules o.request o.request.kind command) else None

abbrev pub flag_hindrance : State → OpenRequest → Option Hindrance
flag_hindrance s o =
    if o.cancelled then Some hindrance.Cancelled
    else (if s.removing then Some hindrance.Removing
    else (if s.paused && o.late then Some hindrance.Late else None))

-- the other request waits, and is to be started before a request of this number
abbrev pub is_before : ℕ → OpenRequest → Bool
is_before number other = not (is_in_turn number other)

abbrev pub turn_hindrance : Option OpenRequest → Option Hindrance
turn_hindrance None = None
turn_hindrance (Some other) = Some (hindrance.Earlier other.number)

abbrev pub is_sent : Mark → Bool
is_sent mark = not (is_unsent mark)

abbrev pub sent_as : ℕ → Mark → Hindrance
sent_as place Out = hindrance.Out place
sent_as place (Done sector) = hindrance.Done place
sent_as place (Failed status) = hindrance.Failed place
sent_as place Untouched = hindrance.Out place
sent_as place Back = hindrance.Out place

-- what holds a request back by the first of the places that doesn't wait to be sent
abbrev pub sent_hindrance : OpenRequest → ℕ → Option ℕ → Option Hindrance
sent_hindrance o first None = None
sent_hindrance o first (Some place) = Some (sent_as (first + place) (mark_at o (first + place)))

-- what holds a piece back by the place where it begins, or by the restarts that are left, unless any cut will do
abbrev pub grid_hindrance : Rules → OpenRequest → ℕ → Option Hindrance
grid_hindrance rules o place =
    if rules.any_cut then None
    else (if not (place % rules.max_transfer == 0) then Some (hindrance.OffGrid place rules.max_transfer)
    else (if is_back (mark_at o place) && not (nat_lt 0 (restarts_left rules o)) then Some (hindrance.Worn place) else None))

-- what holds back a piece of a request that goes as one piece
abbrev pub whole_hindrance : Rules → OpenRequest → ℕ → Option Hindrance
whole_hindrance rules o count =
    if rules.one_piece && not (count == length o.marks) then Some (hindrance.NotWhole (length o.marks) count)
    else (if rules.one_piece && is_started o then Some hindrance.Again else None)

abbrev pub cut_hindrance : Rules → OpenRequest → Extent → Option Hindrance
cut_hindrance rules o places = option_or (grid_hindrance rules o places.first) (whole_hindrance rules o places.count)

abbrev pub places_hindrance : Rules → OpenRequest → Extent → Option Hindrance
places_hindrance rules o places =
    if nat_lt rules.max_transfer places.count then Some (hindrance.Long rules.max_transfer places.count)
    else option_or (sent_hindrance o places.first (position is_sent (slice_range o.marks places.first (places.first + places.count)))) (cut_hindrance rules o places)

abbrev pub hindrance_of : Rules → State → OpenRequest → Extent → Option Hindrance
hindrance_of rules s o places =
    option_or (flag_hindrance s o) (option_or (turn_hindrance (find (is_before o.number) s.requests)) (places_hindrance rules o places))

-- WHERE NO REQUEST ASKS FOR A COMMAND

abbrev pub same_kind : Kind → Kind → Bool
same_kind Read Read = true
same_kind Read Write = false
same_kind Read Flush = false
same_kind Write Read = false
same_kind Write Write = true
same_kind Write Flush = false
same_kind Flush Read = false
same_kind Flush Write = false
same_kind Flush Flush = true

-- a request of the kind, which may be the one that is told
abbrev pub has_kind : Option ℕ → Kind → OpenRequest → Bool
has_kind owner kind o = is_told owner o && same_kind kind o.request.kind

-- the kind of request that has such a command
abbrev pub kind_of : Cdb → Option Kind
kind_of (Read10 lba count fua) = Some Read
kind_of (Read16 lba count fua) = Some Read
kind_of (Write10 lba count fua) = Some Write
kind_of (Write16 lba count fua) = Some Write
kind_of (Sync10 lba blocks) = Some Flush
kind_of (Sync16 lba blocks) = Some Flush
kind_of ReadCapacity10 = None
kind_of (ReadCapacity16 allocation) = None

-- the command has ten bytes where its numbers have room in them, else sixteen
abbrev pub is_in_form : Rules → Cdb → Bool
is_in_form rules (Read10 lba count fua) = fits_ten lba count
is_in_form rules (Write10 lba count fua) = fits_ten lba count
is_in_form rules (Read16 lba count fua) = not (fits_ten lba count)
is_in_form rules (Write16 lba count fua) = not (fits_ten lba count)
is_in_form rules (Sync10 lba blocks) = nat_le rules.disk_sectors (2 ^ 32)
is_in_form rules (Sync16 lba blocks) = not (nat_le rules.disk_sectors (2 ^ 32))
is_in_form rules ReadCapacity10 = true
is_in_form rules (ReadCapacity16 allocation) = true

-- the blocks of a command
abbrev pub span_of : Cdb → Extent
span_of (Read10 lba count fua) = record { first = lba; count = count }
span_of (Read16 lba count fua) = record { first = lba; count = count }
span_of (Write10 lba count fua) = record { first = lba; count = count }
span_of (Write16 lba count fua) = record { first = lba; count = count }
span_of (Sync10 lba blocks) = record { first = lba; count = blocks }
span_of (Sync16 lba blocks) = record { first = lba; count = blocks }
span_of ReadCapacity10 = record { first = 0; count = 0 }
span_of (ReadCapacity16 allocation) = record { first = 0; count = 0 }

abbrev pub is_in_range : Kind → Extent → Bool
is_in_range Flush span = (span.first == 0) && (span.count == 0)
is_in_range Read span = true
is_in_range Write span = true

-- a request of the kind that has these blocks
abbrev pub has_blocks : Rules → Option ℕ → Kind → Extent → OpenRequest → Bool
has_blocks rules owner kind span o = has_kind owner kind o && is_some (asked_inside o (places_at rules o.request span.first span.count))

abbrev pub blocks_misfit : Extent → Option OpenRequest → Misfit
blocks_misfit span None = misfit.Sectors span.first span.count
blocks_misfit span (Some o) = misfit.Fua o.number o.request.through

abbrev pub kind_misfit : Rules → Option ℕ → List OpenRequest → Extent → Option Kind → Misfit
kind_misfit rules owner requests span None = misfit.Command
kind_misfit rules owner requests span (Some kind) =
    if not (is_in_range kind span) then misfit.Range
    else (if not (list_any (has_kind owner kind) requests) then misfit.Kind kind
    else blocks_misfit span (find (has_blocks rules owner kind span) requests))

abbrev pub misfit_of : Rules → Option ℕ → List OpenRequest → Cdb → Misfit
misfit_of rules owner requests command =
    if not (is_in_form rules command) then misfit.Form else kind_misfit rules owner requests (span_of command) (kind_of command)

-- WHICH REQUEST

-- the places, if nothing holds them back
abbrev pub free_places : Rules → State → OpenRequest → Option Extent → Option Extent
free_places rules s o None = None
free_places rules s o (Some places) = if is_some (hindrance_of rules s o places) then None else Some places

-- the places of the request that may start now by this command
abbrev pub startable : Rules → State → Option ℕ → Cdb → OpenRequest → Option Extent
startable rules s owner command o = free_places rules s o (asked rules owner command o)

abbrev pub may_go : Rules → State → Option ℕ → Cdb → OpenRequest → Bool
may_go rules s owner command o = is_some (startable rules s owner command o)

abbrev pub is_asked : Rules → Option ℕ → Cdb → OpenRequest → Bool
is_asked rules owner command o = is_some (asked rules owner command o)

abbrev pub held_by_one : OpenRequest → Option Hindrance → Option StartRule
held_by_one o found = option_map (start_rule.Held o.number) found

abbrev pub held_rule : Rules → State → OpenRequest → Option Extent → Option StartRule
held_rule rules s o None = None
held_rule rules s o (Some places) = held_by_one o (hindrance_of rules s o places)

-- the request that is told isn't open
abbrev pub owner_rule : List OpenRequest → Option ℕ → Option StartRule
owner_rule requests None = None
owner_rule requests (Some owner) = if list_any (has_number owner) requests then None else Some (start_rule.NotOpen owner)

abbrev pub asked_rule : Rules → State → Option ℕ → Cdb → Option OpenRequest → Option StartRule
asked_rule rules s owner command None = option_or (owner_rule s.requests owner) (Some (start_rule.NotAsked (misfit_of rules owner s.requests command)))
asked_rule rules s owner command (Some o) = held_rule rules s o (asked rules owner command o)

abbrev pub command_rule : Rules → State → Option ℕ → Cdb → Option StartRule
command_rule rules s owner command =
    if list_any (may_go rules s owner command) s.requests then None
    else asked_rule rules s owner command (find (is_asked rules owner command) s.requests)

-- the rule that is named by the command that was read, or the rule that the block breaks
abbrev pub block_rule : Rules → State → Option ℕ → Result Cdb StartRule → Option StartRule
block_rule rules s owner (Ok command) = command_rule rules s owner command
block_rule rules s owner (Err rule) = Some rule

abbrev pub starting_rule : Rules → State → ℕ → ℕ → Option ℕ → Result Cdb StartRule → Option StartRule
starting_rule rules s number tag owner block =
    if not (number == s.next_piece) then Some (start_rule.Number s.next_piece number)
    else option_or (tag_rule rules.depth s.pieces tag) (block_rule rules s owner block)
