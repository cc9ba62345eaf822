-- The metadata context that a client may ask for.
use Rattle.std.specs.Prelude.{ℕ, zero, suc, ◌+◌, ◌==◌, ◌&&◌, ◌||◌, Bool, not, nat_lt, if◌then◌else◌, List, [], ◌∷◌, length, take, drop, codes, bytes_eq, Option, None, Some, option_map, Result, Ok, Err}
use Rattle.std.specs.List.{list_any}
use Rattle.std.specs.Option.{option_and_then}
use Rattle.byteorder.specs.Endian.{big_from}
use Rattle.nbd.specs.declared.options.OptionError.{OptionError}
use Rattle.nbd.specs.declared.options.OptionError.TheVariants.{Invalid, Unknown}

-- the name of the one context
abbrev pub allocation : List ℕ
allocation = codes "base:allocation"

-- a query asks for the context: by its name, or where contexts are only listed by that of its namespace
abbrev pub is_query_for : Bool → List ℕ → Bool
is_query_for chooses query = bytes_eq query allocation || (not chooses && bytes_eq query (codes "base:"))

-- a text behind its length in four bytes, and what stands behind it
abbrev pub text_at : List ℕ → Option (List ℕ × List ℕ)
text_at bytes =
    if nat_lt (length bytes) (4 + big_from 0 4 bytes) then None
    else Some (take (big_from 0 4 bytes) (drop 4 bytes), drop (4 + big_from 0 4 bytes) bytes)

-- so many texts, one behind the other, and nothing behind them
abbrev pub texts_in : ℕ → List ℕ → Option (List (List ℕ))
texts_in zero bytes = if length bytes == 0 then Some [] else None
texts_in (suc n) bytes = option_and_then (λ first. option_map (λ texts. first.0 ∷ texts) (texts_in n first.1)) (text_at bytes)

-- whether so many queries ask for the context: one of them does, or contexts are only listed and there is no query
abbrev pub queries_ask : Bool → ℕ → Option (List (List ℕ)) → Result Bool OptionError
queries_ask chooses count None = Err Invalid
queries_ask chooses count (Some queries) = Ok (list_any (is_query_for chooses) queries || ((count == 0) && not chooses))

-- whether the data of NBD_OPT_SET_META_CONTEXT, which chooses, or of NBD_OPT_LIST_META_CONTEXT ask for the context: the
-- length of the export's name in four bytes, the name, the number of queries in four, and the queries
abbrev pub asked_in : Bool → List ℕ → Result Bool OptionError
asked_in chooses bytes =
    if nat_lt (length bytes) 8 || nat_lt (length bytes) (8 + big_from 0 4 bytes) then Err Invalid
    else if not (big_from 0 4 bytes == 0) then Err Unknown
    else queries_ask chooses (big_from 4 4 bytes) (texts_in (big_from 4 4 bytes) (drop 8 bytes))
