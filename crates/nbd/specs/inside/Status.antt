-- How a request that asks for a run ends.
use Rattle.std.specs.Prelude.{ℕ, List, Option, Result, Ok, Err}
use Rattle.std.specs.Io.KnownBytes.{Appends}
use Rattle.nbd.specs.declared.arrays.Run.{Run}
use Rattle.nbd.specs.declared.requests.Request.{Request}
use Rattle.nbd.specs.declared.requests.ReplyError.{ReplyError}
use Rattle.nbd.specs.Content.{Content}
use Rattle.nbd.specs.Replies.{Outcome, failure, success}
use Rattle.nbd.specs.Chunks.{chunk_of}
use Rattle.nbd.specs.Status.{TellsStatus, run_bytes}

abbrev pub status_outcome : Result Run ReplyError → Outcome
status_outcome (Ok run) = success (run_bytes run)
status_outcome (Err error) = failure error

-- a request was answered by a run or by its error, in a chunk
pub record IsStatusTold (c : Content) (r : Request) (out after : Option (List ℕ)) : Type 0 where
  pub outcome : Outcome
  pub tells : TellsStatus c r outcome
  pub told : Appends out after (chunk_of r outcome)
