-- The bytes of a structured reply, which is one chunk here.
use Rattle.std.specs.Prelude.{ℕ, ◌==◌, ◌||◌, Bool, if◌then◌else◌, List, ◌++◌, length}
use Rattle.byteorder.specs.Endian.{big_bytes}
use Rattle.nbd.specs.declared.dialects.Dialect.{Dialect}
use Rattle.nbd.specs.declared.dialects.Dialect.TheVariants.{Structured}
use Rattle.nbd.specs.declared.requests.Request.{Request}
use Rattle.nbd.specs.declared.constants.TheConstants.{NBD_STRUCTURED_REPLY_MAGIC, NBD_REPLY_FLAG_DONE, NBD_REPLY_TYPE_OFFSET_DATA, NBD_REPLY_TYPE_BLOCK_STATUS, NBD_REPLY_TYPE_ERROR, NBD_CMD_READ, NBD_CMD_BLOCK_STATUS}
use Rattle.nbd.specs.Replies.{Outcome, reply_bytes}

-- the twenty bytes in front of a chunk's data
abbrev pub chunk_header : ℕ → ℕ → ℕ → List ℕ
chunk_header kind cookie count =
    big_bytes 4 NBD_STRUCTURED_REPLY_MAGIC ++ (big_bytes 2 NBD_REPLY_FLAG_DONE ++ (big_bytes 2 kind ++ (big_bytes 8 cookie ++ big_bytes 4 count)))

-- the last chunk of a reply
abbrev pub chunk : ℕ → ℕ → List ℕ → List ℕ
chunk kind cookie bytes = chunk_header kind cookie (length bytes) ++ bytes

-- an error, and no message
abbrev pub error_chunk : ℕ → ℕ → List ℕ
error_chunk cookie error = chunk NBD_REPLY_TYPE_ERROR cookie (big_bytes 4 error ++ big_bytes 2 0)

-- what a request brought: a read its bytes, behind the place of the first one
abbrev pub content_chunk : Request → List ℕ → List ℕ
content_chunk r content =
    if r.kind == NBD_CMD_READ then chunk NBD_REPLY_TYPE_OFFSET_DATA r.cookie (big_bytes 8 r.offset ++ content)
    else chunk NBD_REPLY_TYPE_BLOCK_STATUS r.cookie content

-- the chunk by which a request is answered
abbrev pub chunk_of : Request → Outcome → List ℕ
chunk_of r o = if o.error == 0 then content_chunk r o.content else error_chunk r.cookie o.error

-- the kinds of requests that have structured replies
abbrev pub has_chunks : ℕ → Bool
has_chunks kind = (kind == NBD_CMD_READ) || (kind == NBD_CMD_BLOCK_STATUS)

-- the bytes of the reply to a request
abbrev pub reply_in : Dialect → Request → Outcome → List ℕ
reply_in (Structured allocation) r o = if has_chunks r.kind then chunk_of r o else reply_bytes r.cookie o
reply_in dialect r o = reply_bytes r.cookie o
