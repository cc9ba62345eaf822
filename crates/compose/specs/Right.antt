-- When a step is right, and what it would open: by what the I/O manager promises of the call that the event stands for.
use Rattle.std.specs.Prelude.{◌≡◌, ℕ, [], false, true, Option, None}
use Rattle.sector.specs.declared.Extent.{Extent}
use Rattle.srb.specs.declared.Kind.TheVariants.{Read, Write, Flush}
use Rattle.io_manager.specs.declared.Reply.{Reply}
use Rattle.io_manager.specs.declared.Reply.TheVariants.{Ok as OkReply}
use Rattle.io_manager.specs.Shown.{ManagerView}
use Rattle.io_manager.specs.Calls.{call_on, would_open}
use Rattle.io_manager.specs.Right.{IsRight as IsRightCall, IsRightReset, OpenReplies, CloseReplies, CallReplies}
use Rattle.io_manager.specs.Right.{CancelReplies, MarkReplies, QueryReplies, RecallReplies, RemoveReplies}
use Rattle.io_manager.specs.Right.{SurpriseReplies, ActReplies, FinishReplies}
use Rattle.compose.specs.declared.Event.{Event}
use Rattle.compose.specs.declared.Event.TheVariants.{Open, Close, Read as ReadEvent, Write as WriteEvent}
use Rattle.compose.specs.declared.Event.TheVariants.{Flush as FlushEvent, CancelIoEx, Mark, QueryRemove}
use Rattle.compose.specs.declared.Event.TheVariants.{CancelRemove, Remove, SurpriseRemove, Act, Finish, Reset}

-- the step is a right call of the event's row; a reset is answered as OK
abbrev pub IsRight : ManagerView → Event → Reply → ManagerView → Type 0
IsRight old (Open partition) reply new = IsRightCall (OpenReplies old partition reply new) old new
IsRight old (Close handle) reply new = IsRightCall (CloseReplies old handle reply new) old new
IsRight old (ReadEvent handle offset buffer) reply new = IsRightCall
    (CallReplies old handle (call_on old handle Read offset buffer false) buffer reply new) old new
IsRight old (WriteEvent handle offset bytes through) reply new = IsRightCall
    (CallReplies old handle (call_on old handle Write offset bytes through) bytes reply new) old new
IsRight old (FlushEvent handle) reply new = IsRightCall
    (CallReplies old handle (call_on old handle Flush 0 [] false) [] reply new) old new
IsRight old (CancelIoEx handle target) reply new = IsRightCall (CancelReplies old handle target reply new) old new
IsRight old (Mark number) reply new = IsRightCall (MarkReplies old number reply new) old new
IsRight old QueryRemove reply new = IsRightCall (QueryReplies old reply new) old new
IsRight old CancelRemove reply new = IsRightCall (RecallReplies old reply new) old new
IsRight old Remove reply new = IsRightCall (RemoveReplies old reply new) old new
IsRight old SurpriseRemove reply new = IsRightCall (SurpriseReplies old reply new) old new
IsRight old (Act tag) reply new = IsRightCall (ActReplies old tag reply new) old new
IsRight old (Finish tag) reply new = IsRightCall (FinishReplies old tag reply new) old new
IsRight old Reset reply new = (reply ≡ OkReply) × IsRightReset old new

-- a step whose labels are not kept, and are then forgotten
pub record StepsUntraced (old : ManagerView) (event : Event) (reply : Reply) (new : ManagerView) : Type 0 where
  pub stepped : ManagerView
  pub right : IsRight (record old { keeps = false }) event reply stepped
  pub after : new ≡ record stepped { labels = []; keeps = true }

-- what the next call of this event would open, if anything: the number of pieces, and its sectors of the disk
abbrev pub opened_by : ManagerView → Event → Option (ℕ × Extent)
opened_by v (ReadEvent handle offset buffer) = would_open v (call_on v handle Read offset buffer false)
opened_by v (WriteEvent handle offset bytes through) = would_open v (call_on v handle Write offset bytes through)
opened_by v (FlushEvent handle) = would_open v (call_on v handle Flush 0 [] false)
opened_by v _ = None
