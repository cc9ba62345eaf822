-- The bytes of a reply.
use Rattle.std.specs.Prelude.{ℕ, List, [], ◌++◌}
use Rattle.byteorder.specs.Endian.{big_bytes}
use Rattle.nbd.specs.declared.requests.ReplyError.{ReplyError}
use Rattle.nbd.specs.declared.requests.ReplyError.TheVariants.{Eperm, Eio, Enomem, Einval, Enospc, Eshutdown}
use Rattle.nbd.specs.declared.replies.Answer.{Answer}
use Rattle.nbd.specs.declared.replies.Answer.TheVariants.{Done, Data, Refused}
use Rattle.nbd.specs.declared.constants.TheConstants.{NBD_SIMPLE_REPLY_MAGIC, NBD_EPERM, NBD_EIO, NBD_ENOMEM, NBD_EINVAL, NBD_ENOSPC, NBD_ESHUTDOWN}

-- how a request ended: its error, 0 for none, and the bytes that it brought
pub record Outcome : Type 0 where
  pub error : ℕ
  pub content : List ℕ

abbrev pub error_number : ReplyError → ℕ
error_number Eperm = NBD_EPERM
error_number Eio = NBD_EIO
error_number Enomem = NBD_ENOMEM
error_number Einval = NBD_EINVAL
error_number Enospc = NBD_ENOSPC
error_number Eshutdown = NBD_ESHUTDOWN

-- how a request ends that succeeded and brought these bytes
abbrev pub success : List ℕ → Outcome
success bytes = record { error = 0; content = bytes }

-- how a request ends that failed with this error
abbrev pub failure : ReplyError → Outcome
failure e = record { error = error_number e; content = [] }

abbrev pub outcome_of : Answer → Outcome
outcome_of Done = success []
outcome_of (Data bytes) = success bytes.items
outcome_of (Refused e) = failure e

-- the sixteen bytes of a simple reply
abbrev pub simple_bytes : ℕ → ℕ → List ℕ
simple_bytes cookie error = big_bytes 4 NBD_SIMPLE_REPLY_MAGIC ++ (big_bytes 4 error ++ big_bytes 8 cookie)

-- the bytes of a reply: those sixteen, and then what the request brought
abbrev pub reply_bytes : ℕ → Outcome → List ℕ
reply_bytes cookie o = simple_bytes cookie o.error ++ o.content
