-- Which bytes of an array are known to be zeros.
use Rattle.std.specs.Prelude.{◌≡◌, ◌≤◌, ◌<◌, ℕ, ◌+◌, ◌%◌, if◌then◌else◌, List, length, ◌++◌, slice_range, replicate, Option, None, Some, MatchOption}
use Rattle.std.specs.Bool.{OnTrue}
use Rattle.byteorder.specs.Endian.{big_bytes}
use Rattle.nbd.specs.declared.arrays.Run.{Run}
use Rattle.nbd.specs.declared.requests.Request.{Request}
use Rattle.nbd.specs.declared.requests.ReplyError.{ReplyError}
use Rattle.nbd.specs.declared.requests.ReplyError.TheVariants.{Einval}
use Rattle.nbd.specs.declared.constants.TheConstants.{NBD_CMD_FLAG_FUA, NBD_CMD_FLAG_REQ_ONE, NBD_STATE_HOLE, NBD_STATE_ZERO}
use Rattle.nbd.specs.Content.{Content}
use Rattle.nbd.specs.Requests.{extent_fault, flags_fault}
use Rattle.nbd.specs.Replies.{Outcome, failure, success}

-- a run of whole blocks from this byte on, of at most so many bytes, and of zeros if it says so
pub record IsRun (c : Content) (offset count : ℕ) (run : Run) : Type 0 where
  pub some : 0 < run.count
  pub within : run.count ≤ count
  pub whole : run.count % c.block ≡ 0
  pub zeros : OnTrue run.are_zeros (slice_range c.bytes offset (offset + run.count) ≡ replicate run.count 0)

-- the bytes that tell of a run: the number of the context `base:allocation`, how many bytes it has, and what they are
abbrev pub run_bytes : Run → List ℕ
run_bytes run = big_bytes 4 1 ++ (big_bytes 4 run.count ++ big_bytes 4 (if run.are_zeros then NBD_STATE_HOLE + NBD_STATE_ZERO else 0))

-- the first of two faults
abbrev pub first_fault : Option ReplyError → Option ReplyError → Option ReplyError
first_fault (Some e) other = Some e
first_fault None other = other

-- what is wrong with a request that asks which bytes of an array are zeros
abbrev pub status_fault : ℕ → ℕ → Request → Option ReplyError
status_fault block size r = first_fault (flags_fault (NBD_CMD_FLAG_FUA + NBD_CMD_FLAG_REQ_ONE) r.flags) (extent_fault block size 0xFFFFFFFF Einval r)

-- a run of the bytes that the request names was told
pub record TellsRun (c : Content) (r : Request) (o : Outcome) : Type 0 where
  pub run : Run
  pub is_run : IsRun c r.offset r.count run
  pub is : o ≡ success (run_bytes run)

-- the request was answered by a run, or failed by its error
abbrev pub TellsStatus : Content → Request → Outcome → Type 0
TellsStatus c r o = MatchOption (status_fault c.block (length c.bytes) r) (TellsRun c r o) (λ e. o ≡ failure e)
