-- What it means that a label breaks a rule.
use Rattle.std.specs.Prelude.{◌≡◌, ◌≢◌, ◌<◌, ◌≤◌, ℕ, ◌+◌, ◌*◌, ◌%◌, Bool, false, List, Option, Some, None, length, take, slice_get, slice_range, All, Contains, IsTrue, IsFalse, if◌then◌else◌}
use Rattle.std.specs.List.{list_all, concat}
use Rattle.ntstatus.specs.declared.NtStatus.{NtStatus}
use Rattle.ntstatus.specs.declared.NtStatus.TheVariants.{Success}
use Rattle.sector.specs.declared.Extent.{Extent}
use Rattle.sector.specs.Extents.{IsSector}
use Rattle.cdb.specs.declared.Cdb.{Cdb}
use Rattle.cdb.specs.declared.Cdb.TheVariants.{Read10, Write10, Read16, Write16}
use Rattle.cdb.specs.Meaning.{IsPlain, Means}
use Rattle.cdb.specs.Faults.{HasFault}
use Rattle.srb.specs.declared.Completion.{Completion}
use Rattle.srb.specs.declared.Class.{Class}
use Rattle.srb.specs.declared.Class.TheVariants.{Good, Busy, Bad}
use Rattle.srb.specs.declared.DeviceLabel.TheVariants as device
use Rattle.srb.specs.Fate.{Fresh, Acted, class_of}
use Rattle.srb.specs.declared.Kind.TheVariants.{Read, Write, Flush}
use Rattle.machine.specs.declared.ClientRequest.{ClientRequest}
use Rattle.machine.specs.declared.Label.{Label}
use Rattle.machine.specs.declared.Label.TheVariants as label
use Rattle.machine.specs.Rules.{Rules, first_sector, home, is_transfer}
use Rattle.machine.specs.State.{Out, Failed, OpenRequest, Piece, State, opening}
use Rattle.machine.specs.Calling.{refusal, bytes_carried}
use Rattle.machine.specs.Cutting.{mark_at, is_back, restarts_left}
use Rattle.machine.specs.Sending.{IsLowestFreeTag, is_started, command_for, sectors_at}
use Rattle.machine.specs.Answering.{is_done, Cause, HasEnded, answer_bytes, information}
use Rattle.machine.specs.Step.{Step, Run}
use Rattle.trace_line.specs.declared.Line.{Line}
use Rattle.trace_line.specs.Lines.{LineStep}
use Rattle.judge.specs.StartRuling.{is_in_form, is_in_range, kind_of, span_of}
use Rattle.judge.specs.declared.label_rules.Difference.{Difference}
use Rattle.judge.specs.declared.label_rules.Rule.{Rule}
use Rattle.judge.specs.declared.label_rules.Rule.TheVariants as rule
use Rattle.judge.specs.declared.label_rules.OwedRule.{OwedRule}
use Rattle.judge.specs.declared.label_rules.OwedRule.TheVariants as owed_rule
use Rattle.judge.specs.declared.label_rules.CallRule.{CallRule}
use Rattle.judge.specs.declared.label_rules.CallRule.TheVariants as call_rule
use Rattle.judge.specs.declared.start_rules.StartRule.{StartRule}
use Rattle.judge.specs.declared.start_rules.StartRule.TheVariants as start_rule
use Rattle.judge.specs.declared.start_rules.Misfit.{Misfit}
use Rattle.judge.specs.declared.start_rules.Misfit.TheVariants as misfit
use Rattle.judge.specs.declared.start_rules.Hindrance.{Hindrance}
use Rattle.judge.specs.declared.start_rules.Hindrance.TheVariants as hindrance
use Rattle.judge.specs.declared.piece_rules.ActRule.{ActRule}
use Rattle.judge.specs.declared.piece_rules.ActRule.TheVariants as act_rule
use Rattle.judge.specs.declared.piece_rules.ReturnRule.{ReturnRule}
use Rattle.judge.specs.declared.piece_rules.ReturnRule.TheVariants as return_rule
use Rattle.judge.specs.declared.label_rules.AnswerRule.{AnswerRule}
use Rattle.judge.specs.declared.label_rules.AnswerRule.TheVariants as answer_rule
use Rattle.judge.specs.declared.label_rules.CancelRule.{CancelRule}
use Rattle.judge.specs.declared.label_rules.CancelRule.TheVariants as cancel_rule
use Rattle.judge.specs.declared.label_rules.RemovalRule.{RemovalRule}
use Rattle.judge.specs.declared.label_rules.RemovalRule.TheVariants as removal_rule

-- some step goes by the label
abbrev pub HasStep : Rules → State → Label → Type 0
HasStep rules s label = (s' : State) × Step rules s label s'

-- some step goes by the line
abbrev pub HasLineStep : Rules → State → Line → Type 0
HasLineStep rules s line = (s' : State) × LineStep rules s line s'

-- the state is one that labels lead to
abbrev pub IsReached : Rules → State → Type 0
IsReached rules s = (arrays : List (List (List ℕ))) × (labels : List Label) × Run rules (opening arrays) labels s

-- the open request of a number, the only one
pub record IsOpen (s : State) (number : ℕ) (o : OpenRequest) : Type 0 where
  pub is_there : Contains s.requests o
  pub is_number : o.number ≡ number
  pub alone : (other : OpenRequest) → Contains s.requests other → other.number ≡ number → other ≡ o

abbrev pub IsNotOpen : State → ℕ → Type 0
IsNotOpen s number = (o : OpenRequest) → Contains s.requests o → o.number ≢ number

-- the first byte in which the bytes that a label tells differ from the bytes that are due
pub record Differs (due told : List ℕ) (d : Difference) : Type 0 where
  pub before : take d.at told ≡ take d.at due
  pub is_due : slice_get due d.at ≡ d.due
  pub is_told : slice_get told d.at ≡ d.told
  pub unlike : d.told ≢ d.due

-- WHERE AN ANSWER IS OWED

abbrev pub Owes : State → ℕ → NtStatus → Type 0
Owes s number status = s.owed ≡ Some (record { number = number; status = status })

abbrev pub BreaksOwedAnswer : State → ℕ → NtStatus → ℕ → List ℕ → OwedRule → Type 0
BreaksOwedAnswer s number status informed bytes (owed_rule.Other n due) = Owes s n due × (number ≢ n)
BreaksOwedAnswer s number status informed bytes (owed_rule.Status n due told) = Owes s n due × (told ≡ status) × (told ≢ due)
BreaksOwedAnswer s number status informed bytes (owed_rule.Information n told) = ((due : NtStatus) × Owes s n due) × (told ≡ informed) × (told ≢ 0)
BreaksOwedAnswer s number status informed bytes (owed_rule.Bytes n count) = ((due : NtStatus) × Owes s n due) × (count ≡ length bytes) × (count ≢ 0)

-- the answer that is owed comes first
abbrev pub IsOwedFirst : State → OwedRule → Type 0
IsOwedFirst s (owed_rule.Other n due) = Owes s n due
IsOwedFirst s _ = ⊥

abbrev pub BreaksOwed : State → Label → OwedRule → Type 0
BreaksOwed s (label.Answer number status informed bytes) rule = BreaksOwedAnswer s number status informed bytes rule
BreaksOwed s _ rule = IsOwedFirst s rule

-- CALLS

abbrev pub BreaksCallOf : Rules → State → ℕ → ClientRequest → CallRule → Type 0
BreaksCallOf rules s number q (call_rule.Number due told) = (due ≡ s.next_request) × (told ≡ number) × (told ≢ due)
BreaksCallOf rules s number q (call_rule.Refused status count) = (refusal rules s q ≡ Some status) × (count ≡ length q.bytes) × (count ≢ 0)
BreaksCallOf rules s number q (call_rule.Bytes due told) =
    (refusal rules s q ≡ None) × (due ≡ bytes_carried q.kind q.length) × (told ≡ length q.bytes) × (told ≢ due)

abbrev pub BreaksCall : Rules → State → Label → CallRule → Type 0
BreaksCall rules s (label.Call number q) rule = BreaksCallOf rules s number q rule
BreaksCall rules s _ rule = ⊥

-- ANSWERS

-- the lowest place that isn't done
pub record IsLowest (o : OpenRequest) (place : ℕ) : Type 0 where
  pub within : place < length o.marks
  pub not_done : IsFalse (is_done (mark_at o place))
  pub below : (lower : ℕ) → lower < place → IsTrue (is_done (mark_at o lower))

-- how the answer of an open request may be wrong
abbrev pub EndsWrong : Rules → State → OpenRequest → NtStatus → ℕ → List ℕ → AnswerRule → Type 0
EndsWrong rules s o status informed bytes (answer_rule.NotOpen n) = ⊥
EndsWrong rules s o status informed bytes (answer_rule.Out place) = (place < length o.marks) × (mark_at o place ≡ Out)
EndsWrong rules s o status informed bytes (answer_rule.Waits place) = (place < length o.marks) × ¬ (HasEnded rules s o (mark_at o place))
EndsWrong rules s o status informed bytes (answer_rule.NotDone place) = IsLowest o place × (status ≡ Success)
EndsWrong rules s o status informed bytes (answer_rule.AllDone told) = IsTrue (list_all is_done o.marks) × (told ≡ status) × (told ≢ Success)
EndsWrong rules s o status informed bytes (answer_rule.Status place due told) =
    IsLowest o place × (told ≡ status) × Cause rules s o (mark_at o place) due × ¬ (Cause rules s o (mark_at o place) told)
EndsWrong rules s o status informed bytes (answer_rule.Information due told) = (due ≡ information o.request status) × (told ≡ informed) × (told ≢ due)
EndsWrong rules s o status informed bytes (answer_rule.Bytes d) = Differs (answer_bytes o.request.kind o.marks) bytes d

-- the request isn't open, or it is open and its answer is wrong
abbrev pub BreaksAnswerOf : Rules → State → ℕ → NtStatus → ℕ → List ℕ → AnswerRule → Type 0
BreaksAnswerOf rules s number status informed bytes (answer_rule.NotOpen n) = (n ≡ number) × IsNotOpen s number
BreaksAnswerOf rules s number status informed bytes rule = (o : OpenRequest) × IsOpen s number o × EndsWrong rules s o status informed bytes rule

abbrev pub BreaksAnswer : Rules → State → Label → AnswerRule → Type 0
BreaksAnswer rules s (label.Answer number status informed bytes) rule = (s.owed ≡ None) × BreaksAnswerOf rules s number status informed bytes rule
BreaksAnswer rules s _ rule = ⊥

-- CANCELS

abbrev pub BreaksCancelOf : State → ℕ → CancelRule → Type 0
BreaksCancelOf s number (cancel_rule.NotOpen n) = (n ≡ number) × IsNotOpen s number
BreaksCancelOf s number (cancel_rule.Before n) = (n ≡ number) × (o : OpenRequest) × IsOpen s number o × IsTrue o.cancelled

abbrev pub BreaksCancel : State → Label → CancelRule → Type 0
BreaksCancel s (label.Cancel number) rule = BreaksCancelOf s number rule
BreaksCancel s _ rule = ⊥

-- THE HOLD AND REMOVAL

-- the state is as the rule says
abbrev pub IsSoNow : State → RemovalRule → Type 0
IsSoNow s removal_rule.Paused = IsTrue s.paused
IsSoNow s removal_rule.NotPaused = IsFalse s.paused
IsSoNow s removal_rule.Removing = IsTrue s.removing
IsSoNow s removal_rule.NotRemoving = IsFalse s.removing
IsSoNow s removal_rule.Removed = IsTrue s.removed
IsSoNow s (removal_rule.Open number) = (o : OpenRequest) × Contains s.requests o × (o.number ≡ number)

-- the rule is asked of a pause
abbrev pub IsOfPause : RemovalRule → Type 0
IsOfPause removal_rule.Paused = Unit {0}
IsOfPause removal_rule.Removing = Unit {0}
IsOfPause _ = ⊥

-- the rule is asked of the end of a removal
abbrev pub IsOfEnd : RemovalRule → Type 0
IsOfEnd removal_rule.NotRemoving = Unit {0}
IsOfEnd removal_rule.Removed = Unit {0}
IsOfEnd (removal_rule.Open number) = Unit {0}
IsOfEnd _ = ⊥

abbrev pub BreaksRemoval : State → Label → RemovalRule → Type 0
BreaksRemoval s label.Pause rule = IsOfPause rule × IsSoNow s rule
BreaksRemoval s label.Resume rule = (rule ≡ removal_rule.NotPaused) × IsSoNow s rule
BreaksRemoval s label.Remove rule = (rule ≡ removal_rule.NotPaused) × IsSoNow s rule
BreaksRemoval s label.Surprise rule = (rule ≡ removal_rule.Removing) × IsSoNow s rule
BreaksRemoval s label.Removed rule = IsOfEnd rule × IsSoNow s rule
BreaksRemoval s _ rule = ⊥

-- STARTS

-- the request is the one that is told, if one is
abbrev pub IsTold : Option ℕ → OpenRequest → Type 0
IsTold None o = Unit {0}
IsTold (Some owner) o = o.number ≡ owner

-- the open request asks for the block, for these of its places
pub record Asks (rules : Rules) (s : State) (owner : Option ℕ) (block : List ℕ) (o : OpenRequest) (places : Extent) : Type 0 where
  pub is_there : Contains s.requests o
  pub is_told : IsTold owner o
  pub some : 0 < places.count
  pub inside : places.first + places.count ≤ length o.marks
  pub means : Means block (command_for rules o.request places o.request.kind)

-- no open request asks for the block
abbrev pub NoneAsks : Rules → State → Option ℕ → List ℕ → Type 0
NoneAsks rules s owner block = (o : OpenRequest) (places : Extent) → ¬ (Asks rules s owner block o places)

-- the command has the FUA bit
abbrev pub fua_of : Cdb → Bool
fua_of (Read10 lba count fua) = fua
fua_of (Write10 lba count fua) = fua
fua_of (Read16 lba count fua) = fua
fua_of (Write16 lba count fua) = fua
fua_of _ = false

-- from one of its places on the request has all these blocks of the disk
pub record HasBlocks (rules : Rules) (o : OpenRequest) (span : Extent) : Type 0 where
  pub first : ℕ
  pub some : 0 < span.count
  pub inside : first + span.count ≤ length o.marks
  pub there : home rules o.request.partition (first_sector rules o.request + first) ≡ span.first

-- the command is of the kind of an open request, which may be the one that is told
pub record IsOfKind (s : State) (owner : Option ℕ) (command : Cdb) (o : OpenRequest) : Type 0 where
  pub is_there : Contains s.requests o
  pub is_told : IsTold owner o
  pub is_kind : kind_of command ≡ Some o.request.kind

-- what is wrong with the command of a block that no request asks for
abbrev pub IsMisfitOf : Rules → State → Option ℕ → Cdb → Misfit → Type 0
IsMisfitOf rules s owner command misfit.Command = kind_of command ≡ None
IsMisfitOf rules s owner command misfit.Form = IsFalse (is_in_form rules command)
IsMisfitOf rules s owner command misfit.Range = (kind_of command ≡ Some Flush) × IsFalse (is_in_range Flush (span_of command))
IsMisfitOf rules s owner command (misfit.Kind kind) =
    (kind_of command ≡ Some kind) × ((o : OpenRequest) → Contains s.requests o → IsTold owner o → o.request.kind ≢ kind)
IsMisfitOf rules s owner command (misfit.Sectors lba count) = ((span_of command).first ≡ lba) × ((span_of command).count ≡ count)
    × ((o : OpenRequest) → IsOfKind s owner command o → ¬ (HasBlocks rules o (span_of command)))
IsMisfitOf rules s owner command (misfit.Fua number due) =
    (o : OpenRequest) × IsOfKind s owner command o × (o.number ≡ number) × HasBlocks rules o (span_of command) × (o.request.through ≡ due) × (fua_of command ≢ due)

abbrev pub IsMisfit : Rules → State → Option ℕ → List ℕ → Misfit → Type 0
IsMisfit rules s owner block misfit = (command : Cdb) × Means block command × IsMisfitOf rules s owner command misfit

-- the place is one of these
abbrev pub IsAmong : Extent → ℕ → Type 0
IsAmong places place = (places.first ≤ place) × (place < places.first + places.count)

-- what holds these places of the request back
abbrev pub Hinders : Rules → State → OpenRequest → Extent → Hindrance → Type 0
Hinders rules s o places hindrance.Cancelled = IsTrue o.cancelled
Hinders rules s o places hindrance.Removing = IsTrue s.removing
Hinders rules s o places hindrance.Late = IsTrue s.paused × IsTrue o.late
Hinders rules s o places (hindrance.Earlier number) =
    (other : OpenRequest) × Contains s.requests other × (other.number ≡ number) × (number < o.number) × IsFalse other.cancelled × IsFalse (is_started other)
Hinders rules s o places (hindrance.Long longest count) = (longest ≡ rules.max_transfer) × (count ≡ places.count) × (longest < count)
Hinders rules s o places (hindrance.Out place) = IsAmong places place × (mark_at o place ≡ Out)
Hinders rules s o places (hindrance.Done place) = IsAmong places place × IsTrue (is_done (mark_at o place))
Hinders rules s o places (hindrance.Failed place) = IsAmong places place × (status : NtStatus) × (mark_at o place ≡ Failed status)
Hinders rules s o places (hindrance.OffGrid place grid) = IsFalse rules.any_cut × (place ≡ places.first) × (grid ≡ rules.max_transfer) × (place % grid ≢ 0)
Hinders rules s o places (hindrance.Worn place) =
    IsFalse rules.any_cut × (place ≡ places.first) × IsTrue (is_back (mark_at o place)) × (restarts_left rules o ≡ 0)
Hinders rules s o places (hindrance.NotWhole due count) = IsTrue rules.one_piece × (due ≡ length o.marks) × (count ≡ places.count) × (count ≢ due)
Hinders rules s o places hindrance.Again = IsTrue rules.one_piece × IsTrue (is_started o)

-- each open request that asks for the block is held back
abbrev pub AllHeld : Rules → State → Option ℕ → List ℕ → Type 0
AllHeld rules s owner block = (o : OpenRequest) (places : Extent) → Asks rules s owner block o places → (h : Hindrance) × Hinders rules s o places h

-- the request of this number asks for the block, and this holds it back
abbrev pub HoldsOne : Rules → State → Option ℕ → List ℕ → ℕ → Hindrance → Type 0
HoldsOne rules s owner block number h =
    (o : OpenRequest) × (places : Extent) × Asks rules s owner block o places × (o.number ≡ number) × Hinders rules s o places h

-- the block asks for a command, and this is the first byte in which it isn't the command's plain block
pub record IsNotPlainAt (block : List ℕ) (d : Difference) : Type 0 where
  pub command : Cdb
  pub own : List ℕ
  pub asks : Means block command
  pub is_own : Means own command
  pub is_plain : IsPlain own command
  pub differs : Differs own block d

-- no start may have this block, whatever the state
abbrev pub BreaksBlock : List ℕ → StartRule → Type 0
BreaksBlock block (start_rule.Block fault) = HasFault block fault × ((c : Cdb) → ¬ (Means block c))
BreaksBlock block (start_rule.NotPlain d) = IsNotPlainAt block d × ((c : Cdb) → Means block c → ¬ (IsPlain block c))
BreaksBlock block _ = ⊥

abbrev pub BreaksStartOf : Rules → State → Option ℕ → ℕ → ℕ → List ℕ → StartRule → Type 0
BreaksStartOf rules s owner number tag block (start_rule.Number due told) = (due ≡ s.next_piece) × (told ≡ number) × (told ≢ due)
BreaksStartOf rules s owner number tag block (start_rule.Depth t depth) = (t ≡ tag) × (depth ≡ rules.depth) × (depth ≤ t)
BreaksStartOf rules s owner number tag block (start_rule.TagInUse t n) = (t ≡ tag) × (piece : Piece) × Contains s.pieces piece × (piece.tag ≡ t) × (piece.number ≡ n)
BreaksStartOf rules s owner number tag block (start_rule.Tag lowest told) = (told ≡ tag) × IsLowestFreeTag rules.depth s.pieces lowest × (lowest < told)
BreaksStartOf rules s owner number tag block (start_rule.Block fault) = BreaksBlock block (start_rule.Block fault)
BreaksStartOf rules s owner number tag block (start_rule.NotPlain d) = BreaksBlock block (start_rule.NotPlain d)
BreaksStartOf rules s owner number tag block (start_rule.NotOpen n) = (owner ≡ Some n) × IsNotOpen s n
BreaksStartOf rules s owner number tag block (start_rule.NotAsked misfit) = NoneAsks rules s owner block × IsMisfit rules s owner block misfit
BreaksStartOf rules s owner number tag block (start_rule.Held n h) = AllHeld rules s owner block × HoldsOne rules s owner block n h

abbrev pub BreaksStart : Rules → State → Option ℕ → Label → StartRule → Type 0
BreaksStart rules s owner (label.Device (device.Start number tag block)) rule = BreaksStartOf rules s owner number tag block rule
BreaksStart rules s owner _ rule = ⊥

-- ACTS AND FAULTS

-- the piece of a number at the adapter, the only one
pub record IsAtAdapter (s : State) (number : ℕ) (piece : Piece) : Type 0 where
  pub is_there : Contains s.pieces piece
  pub is_number : piece.number ≡ number
  pub alone : (other : Piece) → Contains s.pieces other → other.number ≡ number → other ≡ piece

abbrev pub IsNotAtAdapter : State → ℕ → Type 0
IsNotAtAdapter s number = (piece : Piece) → Contains s.pieces piece → piece.number ≢ number

-- the piece, and the request that it is of
pub record IsOwned (s : State) (number : ℕ) (piece : Piece) (o : OpenRequest) : Type 0 where
  pub piece_out : IsAtAdapter s number piece
  pub owner_open : IsOpen s piece.owner o

-- how many bytes move with an act
abbrev pub length_due : Rules → Piece → OpenRequest → ℕ
length_due rules piece o = if is_transfer o.request.kind then piece.places.count * rules.sector_size else 0

-- the bytes of the places of a write
abbrev pub bytes_sent : Rules → ClientRequest → Extent → List ℕ
bytes_sent rules q places = slice_range q.bytes (places.first * rules.sector_size) ((places.first + places.count) * rules.sector_size)

-- as many sectors as there are places, each of the size of a sector
pub record AreWhole (rules : Rules) (places : Extent) (sectors : List (List ℕ)) : Type 0 where
  pub many : length sectors ≡ places.count
  pub sized : All (IsSector rules.sector_size) sectors

-- a read of the sectors that stand in the machine's arrays
pub record IsFaithfulRead (rules : Rules) (o : OpenRequest) : Type 0 where
  pub faithful : IsTrue rules.faithful
  pub is_read : o.request.kind ≡ Read

abbrev pub ActsWrong : Rules → State → Piece → OpenRequest → List ℕ → ActRule → Type 0
ActsWrong rules s piece o bytes (act_rule.NoPiece n) = ⊥
ActsWrong rules s piece o bytes (act_rule.Before n) = ⊥
ActsWrong rules s piece o bytes (act_rule.Length due told) = (due ≡ length_due rules piece o) × (told ≡ length bytes) × (told ≢ due)
ActsWrong rules s piece o bytes (act_rule.Write d) = (o.request.kind ≡ Write) × Differs (bytes_sent rules o.request piece.places) bytes d
ActsWrong rules s piece o bytes (act_rule.Disk d) = IsFaithfulRead rules o × Differs (concat (sectors_at rules s o.request piece.places)) bytes d
ActsWrong rules s piece o bytes (act_rule.NoSectors n) =
    (n ≡ piece.number) × IsFaithfulRead rules o × ¬ (AreWhole rules piece.places (sectors_at rules s o.request piece.places))

abbrev pub BreaksAct : Rules → State → ℕ → List ℕ → ActRule → Type 0
BreaksAct rules s number bytes (act_rule.NoPiece n) = (n ≡ number) × IsNotAtAdapter s number
BreaksAct rules s number bytes (act_rule.Before n) = (n ≡ number) × (piece : Piece) × IsAtAdapter s number piece × (piece.fate ≢ Fresh)
BreaksAct rules s number bytes rule = (piece : Piece) × (o : OpenRequest) × IsOwned s number piece o × ActsWrong rules s piece o bytes rule

abbrev pub BreaksFault : State → ℕ → ActRule → Type 0
BreaksFault s number (act_rule.NoPiece n) = (n ≡ number) × IsNotAtAdapter s number
BreaksFault s number (act_rule.Before n) = (n ≡ number) × (piece : Piece) × IsAtAdapter s number piece × (piece.fate ≢ Fresh)
BreaksFault s number _ = ⊥

abbrev pub BreaksActing : Rules → State → Label → ActRule → Type 0
BreaksActing rules s (label.Device (device.Act number bytes)) rule = BreaksAct rules s number bytes rule
BreaksActing rules s (label.Device (device.Fault number)) rule = BreaksFault s number rule
BreaksActing rules s _ rule = ⊥

-- RETURNS

abbrev pub ReturnsWrong : Piece → Class → ReturnRule → Type 0
ReturnsWrong piece class (return_rule.NoPiece n) = ⊥
ReturnsWrong piece class (return_rule.GoodWithoutAct n) = (n ≡ piece.number) × (class ≡ Good) × ((sectors : List (List ℕ)) → piece.fate ≢ Acted sectors)
ReturnsWrong piece class (return_rule.BusyAfterAct n) = (n ≡ piece.number) × (class ≡ Busy) × (piece.fate ≢ Fresh)
ReturnsWrong piece class (return_rule.GoodCode n srb_status) =
    (n ≡ piece.number) × (completion : Completion) × (class ≡ Bad completion) × (srb_status ≡ completion.srb_status) × (class_of completion ≢ Bad completion)

abbrev pub BreaksReturnOf : State → ℕ → Class → ReturnRule → Type 0
BreaksReturnOf s number class (return_rule.NoPiece n) = (n ≡ number) × IsNotAtAdapter s number
BreaksReturnOf s number class rule = (piece : Piece) × IsAtAdapter s number piece × ReturnsWrong piece class rule

abbrev pub BreaksReturn : State → Label → ReturnRule → Type 0
BreaksReturn s (label.Device (device.Return number class)) rule = BreaksReturnOf s number class rule
BreaksReturn s _ rule = ⊥

-- EACH RULE

abbrev pub BreaksLabel : Rules → State → Label → Option ℕ → Rule → Type 0
BreaksLabel rules s label owner (rule.Owed r) = BreaksOwed s label r
BreaksLabel rules s label owner (rule.Call r) = BreaksCall rules s label r
BreaksLabel rules s label owner (rule.Start r) = BreaksStart rules s owner label r
BreaksLabel rules s label owner (rule.Act r) = BreaksActing rules s label r
BreaksLabel rules s label owner (rule.Return r) = BreaksReturn s label r
BreaksLabel rules s label owner (rule.Answer r) = BreaksAnswer rules s label r
BreaksLabel rules s label owner (rule.Cancel r) = BreaksCancel s label r
BreaksLabel rules s label owner (rule.Removal r) = BreaksRemoval s label r

-- the label breaks the rule
abbrev pub Breaks : Rules → State → Label → Rule → Type 0
Breaks rules s label rule = BreaksLabel rules s label None rule

-- the line breaks the rule: its label does, of the request that it tells
abbrev pub LineBreaks : Rules → State → Line → Rule → Type 0
LineBreaks rules s line rule = BreaksLabel rules s line.label line.owner rule

-- a rule that a label breaks refutes each step by it
abbrev pub BreakingRefutes : Type 0
BreakingRefutes = (rules : Rules) (s : State) (label : Label) (rule : Rule) → Breaks rules s label rule → ¬ (HasStep rules s label)

-- a rule that a line breaks refutes each step by it
abbrev pub LineBreakingRefutes : Type 0
LineBreakingRefutes = (rules : Rules) (s : State) (line : Line) (rule : Rule) → LineBreaks rules s line rule → ¬ (HasLineStep rules s line)
