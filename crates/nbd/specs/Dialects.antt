-- How a client and the server talk, by the options that were asked for.
use Rattle.std.specs.Prelude.{ℕ, ◌==◌, ◌&&◌, Bool, true, false, if◌then◌else◌, Ok}
use Rattle.nbd.specs.declared.dialects.Dialect.{Dialect}
use Rattle.nbd.specs.declared.dialects.Dialect.TheVariants.{Plain, Simple, Structured}
use Rattle.nbd.specs.declared.options.Wish.{Wish}
use Rattle.nbd.specs.declared.options.Wish.TheVariants.{StructuredReplies, ListContexts, SetContexts, Refuse}
use Rattle.nbd.specs.declared.options.OptionError.TheVariants.{Unsupported, Invalid}
use Rattle.nbd.specs.declared.requests.Request.{Request}
use Rattle.nbd.specs.declared.constants.TheConstants.{NBD_OPT_SET_META_CONTEXT, NBD_CMD_BLOCK_STATUS}

-- what is done of an option's wish: contexts go with structured replies, and a plain session knows of neither
abbrev pub heard : Dialect → Wish → Wish
heard Plain (StructuredReplies bare) = Refuse Unsupported
heard Plain (ListContexts asked) = Refuse Unsupported
heard Plain (SetContexts asked) = Refuse Unsupported
heard Simple (ListContexts asked) = Refuse Invalid
heard Simple (SetContexts asked) = Refuse Invalid
heard dialect wish = wish

-- the wish chooses the context
abbrev pub chooses : Wish → Bool
chooses (SetContexts (Ok found)) = found
chooses wish = false

-- the dialect behind an option of this code, that asks for this. NBD_OPT_SET_META_CONTEXT replaces what was chosen before,
-- also where it fails
abbrev pub next_dialect : Dialect → ℕ → Wish → Dialect
next_dialect (Structured allocation) code wish = Structured (if code == NBD_OPT_SET_META_CONTEXT then chooses wish else allocation)
next_dialect Simple code (StructuredReplies true) = Structured false
next_dialect dialect code wish = dialect

-- a request asks which bytes are known to be zeros, and the context for that is chosen
abbrev pub asks_status : Dialect → Request → Bool
asks_status (Structured allocation) r = allocation && (r.kind == NBD_CMD_BLOCK_STATUS)
asks_status dialect r = false
