-- What the bytes of a request say, and what it asks an array for.
use Rattle.std.specs.Prelude.{◌≡◌, ◌≤◌, ℕ, ◌+◌, ◌%◌, ◌==◌, ◌||◌, Bool, not, nat_lt, if◌then◌else◌, List, length, Option, Some, None, Result, Ok, Err, bit_and}
use Rattle.byteorder.specs.Endian.{big_from}
use Rattle.nbd.specs.declared.requests.Request.{Request}
use Rattle.nbd.specs.declared.requests.Command.{Command}
use Rattle.nbd.specs.declared.requests.Command.TheVariants.{Read, Write, Flush, WriteZeroes}
use Rattle.nbd.specs.declared.requests.ReplyError.{ReplyError}
use Rattle.nbd.specs.declared.requests.ReplyError.TheVariants.{Einval, Enospc}
use Rattle.nbd.specs.Content.{AreInBounds}
use Rattle.nbd.specs.declared.constants.TheConstants.{NBD_REQUEST_MAGIC, NBD_CMD_READ, NBD_CMD_WRITE, NBD_CMD_FLUSH, NBD_CMD_WRITE_ZEROES, NBD_CMD_FLAG_FUA, NBD_CMD_FLAG_NO_HOLE, LONGEST}

-- the fields of a request, highest byte first
abbrev pub request_in : List ℕ → Request
request_in bytes = record {
  flags = big_from 4 2 bytes;
  kind = big_from 6 2 bytes;
  cookie = big_from 8 8 bytes;
  offset = big_from 16 8 bytes;
  count = big_from 24 4 bytes;
}

-- the bytes are this request
pub record IsRequest (bytes : List ℕ) (r : Request) : Type 0 where
  pub long : length bytes ≡ 28
  pub magic : big_from 0 4 bytes ≡ NBD_REQUEST_MAGIC
  pub fields : r ≡ request_in bytes

-- what is wrong with flags, of which these are known
abbrev pub flags_fault : ℕ → ℕ → Option ReplyError
flags_fault known flags = if bit_and flags known == flags then None else Some Einval

-- what is wrong with the bytes that a request names, on an array of this many bytes
abbrev pub extent_fault : ℕ → ℕ → ℕ → ReplyError → Request → Option ReplyError
extent_fault block size longest beyond r =
    if (r.count == 0) || nat_lt longest r.count then Some Einval
    else if not (r.offset % block == 0) || not (r.count % block == 0) then Some Einval
    else if nat_lt size (r.offset + r.count) then Some beyond
    else None

-- the first of two faults, or the command
abbrev pub unless : Option ReplyError → Option ReplyError → Command → Result Command ReplyError
unless (Some e) _ c = Err e
unless None (Some e) c = Err e
unless None None c = Ok c

-- the flag NBD_CMD_FLAG_FUA
abbrev pub is_through : ℕ → Bool
is_through flags = not (bit_and flags NBD_CMD_FLAG_FUA == 0)

-- what a request asks an array of this many bytes for, or why it isn't done
abbrev pub command_in : ℕ → ℕ → Request → Result Command ReplyError
command_in block size r =
    if r.kind == NBD_CMD_READ then unless (flags_fault NBD_CMD_FLAG_FUA r.flags) (extent_fault block size LONGEST Einval r) (Read r.offset r.count)
    else if r.kind == NBD_CMD_WRITE then unless (flags_fault NBD_CMD_FLAG_FUA r.flags) (extent_fault block size LONGEST Enospc r) (Write r.offset r.count (is_through r.flags))
    else if r.kind == NBD_CMD_FLUSH then unless (flags_fault NBD_CMD_FLAG_FUA r.flags) None Flush
    else if r.kind == NBD_CMD_WRITE_ZEROES then unless (flags_fault (NBD_CMD_FLAG_FUA + NBD_CMD_FLAG_NO_HOLE) r.flags) (extent_fault block size 0xFFFFFFFF Enospc r) (WriteZeroes r.offset r.count (is_through r.flags))
    else Err Einval

-- a command is for whole blocks of an array of this many bytes
abbrev pub IsWithin : ℕ → ℕ → Command → Type 0
IsWithin block size (Read offset count) = AreInBounds block size offset count × (count ≤ LONGEST)
IsWithin block size (Write offset count through) = AreInBounds block size offset count × (count ≤ LONGEST)
IsWithin block size Flush = Unit {0}
IsWithin block size (WriteZeroes offset count through) = AreInBounds block size offset count

-- how many bytes come behind a request
abbrev pub payload_count : Request → ℕ
payload_count r = if r.kind == NBD_CMD_WRITE then r.count else 0

abbrev pub payload_of : Command → ℕ
payload_of (Write offset count through) = count
payload_of _ = 0
