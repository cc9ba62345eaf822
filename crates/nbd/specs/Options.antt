-- What the bytes of an option ask for, and the bytes of its reply.
use Rattle.std.specs.Prelude.{◌≡◌, ◌≢◌, ℕ, ◌+◌, ◌*◌, ◌==◌, ◌||◌, Bool, true, false, not, nat_lt, if◌then◌else◌, List, [], ◌++◌, length, replicate, bit_and, Result, Ok, Err}
use Rattle.byteorder.specs.Endian.{big_from, big_bytes}
use Rattle.nbd.specs.declared.End.TheVariants.{Left, Malformed}
use Rattle.nbd.specs.declared.arrays.Sizes.{Sizes}
use Rattle.nbd.specs.declared.options.Wish.{Wish}
use Rattle.nbd.specs.declared.options.Wish.TheVariants.{Export, Leave, Exports, Info, Go, StructuredReplies, ListContexts, SetContexts, Refuse, Close}
use Rattle.nbd.specs.declared.options.OptionError.{OptionError}
use Rattle.nbd.specs.declared.options.OptionError.TheVariants.{Unsupported, Invalid, Unknown, TooBig}
use Rattle.nbd.specs.declared.options.Next.{Next}
use Rattle.nbd.specs.declared.options.Next.TheVariants.{Options, Requests, Ended}
use Rattle.nbd.specs.declared.constants.TheConstants.{NBDMAGIC, IHAVEOPT, NBD_REP_MAGIC, NBD_FLAG_FIXED_NEWSTYLE, NBD_FLAG_NO_ZEROES, NBD_FLAG_C_FIXED_NEWSTYLE, NBD_FLAG_C_NO_ZEROES, NBD_OPT_EXPORT_NAME, NBD_OPT_ABORT, NBD_OPT_LIST, NBD_OPT_INFO, NBD_OPT_GO, NBD_OPT_STRUCTURED_REPLY, NBD_OPT_LIST_META_CONTEXT, NBD_OPT_SET_META_CONTEXT, NBD_REP_ACK, NBD_REP_SERVER, NBD_REP_INFO, NBD_REP_META_CONTEXT, NBD_REP_ERR_UNSUP, NBD_REP_ERR_INVALID, NBD_REP_ERR_UNKNOWN, NBD_REP_ERR_TOO_BIG, NBD_INFO_EXPORT, NBD_INFO_BLOCK_SIZE, NBD_FLAG_HAS_FLAGS, NBD_FLAG_READ_ONLY, NBD_FLAG_SEND_FLUSH, NBD_FLAG_SEND_FUA, NBD_FLAG_SEND_WRITE_ZEROES, LONGEST, LONGEST_OPTION}
use Rattle.nbd.specs.Contexts.{allocation, asked_in}

-- the server's first bytes: its two magic numbers and its handshake flags
abbrev pub greeting : List ℕ
greeting = big_bytes 8 NBDMAGIC ++ (big_bytes 8 IHAVEOPT ++ big_bytes 2 (NBD_FLAG_FIXED_NEWSTYLE + NBD_FLAG_NO_ZEROES))

-- the client's flags are known
abbrev pub are_known : ℕ → Bool
are_known flags = bit_and flags (NBD_FLAG_C_FIXED_NEWSTYLE + NBD_FLAG_C_NO_ZEROES) == flags

-- the client wants no zeros behind the reply to NBD_OPT_EXPORT_NAME
abbrev pub wants_no_zeroes : ℕ → Bool
wants_no_zeroes flags = not (bit_and flags NBD_FLAG_C_NO_ZEROES == 0)

-- WHAT AN OPTION ASKS FOR

-- NBD_OPT_INFO and NBD_OPT_GO: the length of the export's name in four bytes, the name, a number in two and as many
-- numbers of two bytes
abbrev pub info_in : Wish → List ℕ → Wish
info_in wish bytes =
    if nat_lt (length bytes) 6 || nat_lt (length bytes) (6 + big_from 0 4 bytes) then Refuse Invalid
    else if not (big_from 0 4 bytes == 0) then Refuse Unknown
    else if length bytes == 6 + 2 * big_from 4 2 bytes then wish
    else Refuse Invalid

-- an option of this code with these data; the one export has the empty name
abbrev pub wish_in : ℕ → List ℕ → Wish
wish_in code bytes =
    if code == NBD_OPT_EXPORT_NAME then (if length bytes == 0 then Export else Close)
    else if nat_lt LONGEST_OPTION (length bytes) then Refuse TooBig
    else if code == NBD_OPT_ABORT then Leave
    else if code == NBD_OPT_LIST then (if length bytes == 0 then Exports else Refuse Invalid)
    else if code == NBD_OPT_INFO then info_in Info bytes
    else if code == NBD_OPT_GO then info_in Go bytes
    else if code == NBD_OPT_STRUCTURED_REPLY then StructuredReplies (length bytes == 0)
    else if code == NBD_OPT_LIST_META_CONTEXT then ListContexts (asked_in false bytes)
    else if code == NBD_OPT_SET_META_CONTEXT then SetContexts (asked_in true bytes)
    else Refuse Unsupported

-- what comes after an option
abbrev pub next_of : Wish → Next
next_of Export = Requests
next_of Go = Requests
next_of Leave = Ended Left
next_of Close = Ended Malformed
next_of _ = Options

-- REPLIES

abbrev pub option_error_number : OptionError → ℕ
option_error_number Unsupported = NBD_REP_ERR_UNSUP
option_error_number Invalid = NBD_REP_ERR_INVALID
option_error_number Unknown = NBD_REP_ERR_UNKNOWN
option_error_number TooBig = NBD_REP_ERR_TOO_BIG

-- the twenty bytes in front of a reply's data
abbrev pub option_header : ℕ → ℕ → ℕ → List ℕ
option_header code kind count = big_bytes 8 NBD_REP_MAGIC ++ (big_bytes 4 code ++ (big_bytes 4 kind ++ big_bytes 4 count))

abbrev pub option_reply : ℕ → ℕ → List ℕ → List ℕ
option_reply code kind bytes = option_header code kind (length bytes) ++ bytes

-- flush, FUA and zeros are served, and clients are told of an array that can't be written
abbrev pub export_flags : Bool → ℕ
export_flags read_only =
    NBD_FLAG_HAS_FLAGS + NBD_FLAG_SEND_FLUSH + NBD_FLAG_SEND_FUA + NBD_FLAG_SEND_WRITE_ZEROES + (if read_only then NBD_FLAG_READ_ONLY else 0)

-- the size of the export, and its transmission flags
abbrev pub export_bytes : Sizes → List ℕ
export_bytes sizes = big_bytes 8 sizes.bytes ++ big_bytes 2 (export_flags sizes.read_only)

-- the smallest block, the best and the longest
abbrev pub block_bytes : ℕ → List ℕ
block_bytes block = big_bytes 4 block ++ (big_bytes 4 4096 ++ big_bytes 4 LONGEST)

-- the export, its blocks, and an end
abbrev pub info_replies : Sizes → ℕ → List ℕ
info_replies sizes code =
    option_reply code NBD_REP_INFO (big_bytes 2 NBD_INFO_EXPORT ++ export_bytes sizes)
    ++ (option_reply code NBD_REP_INFO (big_bytes 2 NBD_INFO_BLOCK_SIZE ++ block_bytes sizes.block) ++ option_reply code NBD_REP_ACK [])

-- the names of the exports: one, which is empty
abbrev pub name_replies : ℕ → List ℕ
name_replies code = option_reply code NBD_REP_SERVER (big_bytes 4 0) ++ option_reply code NBD_REP_ACK []

-- the context under this number, if it was asked for
abbrev pub context_replies : ℕ → ℕ → Result Bool OptionError → List ℕ
context_replies code id (Ok true) = option_reply code NBD_REP_META_CONTEXT (big_bytes 4 id ++ allocation) ++ option_reply code NBD_REP_ACK []
context_replies code id (Ok false) = option_reply code NBD_REP_ACK []
context_replies code id (Err e) = option_reply code (option_error_number e) []

-- the reply of an export of these sizes
abbrev pub replies_to : Sizes → Bool → ℕ → Wish → List ℕ
replies_to sizes no_zeroes code Export = export_bytes sizes ++ (if no_zeroes then [] else replicate 124 0)
replies_to sizes no_zeroes code Leave = option_reply code NBD_REP_ACK []
replies_to sizes no_zeroes code Exports = name_replies code
replies_to sizes no_zeroes code Info = info_replies sizes code
replies_to sizes no_zeroes code Go = info_replies sizes code
replies_to sizes no_zeroes code (StructuredReplies true) = option_reply code NBD_REP_ACK []
replies_to sizes no_zeroes code (StructuredReplies false) = option_reply code NBD_REP_ERR_INVALID []
replies_to sizes no_zeroes code (ListContexts asked) = context_replies code 0 asked
replies_to sizes no_zeroes code (SetContexts asked) = context_replies code 1 asked
replies_to sizes no_zeroes code (Refuse e) = option_reply code (option_error_number e) []
replies_to sizes no_zeroes code Close = []

-- THE BYTES OF AN OPTION

-- sixteen bytes that begin an option of this code, and how many come behind it
pub record IsOptionHeader (bytes : List ℕ) (code count : ℕ) : Type 0 where
  pub long : length bytes ≡ 16
  pub magic : big_from 0 8 bytes ≡ IHAVEOPT
  pub code_is : code ≡ big_from 8 4 bytes
  pub count_is : count ≡ big_from 12 4 bytes

-- sixteen bytes that begin no option
pub record IsNoOption (bytes : List ℕ) : Type 0 where
  pub long : length bytes ≡ 16
  pub other : big_from 0 8 bytes ≢ IHAVEOPT

-- an option that was taken
pub record Asked : Type 0 where
  pub header : List ℕ
  pub code : ℕ
  pub content : List ℕ

pub record IsAsked (a : Asked) : Type 0 where
  pub is_header : IsOptionHeader a.header a.code (length a.content)

abbrev pub option_bytes : Asked → List ℕ
option_bytes a = a.header ++ a.content

abbrev pub wish_of : Asked → Wish
wish_of a = wish_in a.code a.content
