-- The steps of a handshake.
use Rattle.std.specs.Prelude.{◌≡◌, ◌⊎◌, ℕ, Bool, List, [], ◌++◌, Option}
use Rattle.std.specs.Io.KnownBytes.{Appends, Consumes}
use Rattle.nbd.specs.declared.End.{End}
use Rattle.nbd.specs.declared.arrays.Sizes.{Sizes}
use Rattle.nbd.specs.declared.options.Next.{Next}
use Rattle.nbd.specs.declared.options.Next.TheVariants.{Options, Requests, Ended}
use Rattle.nbd.specs.Options.{Asked, IsAsked, greeting, next_of, option_bytes, wish_of}
use Rattle.nbd.specs.Session.{Begins, IsTold, said}
use Rattle.nbd.specs.declared.dialects.Dialect.{Dialect}
use Rattle.nbd.specs.Handshake.{answer_in, answers_in, dialect_after, dialect_behind, EndsGreeting, Leads, IsLastOption, AreFlags}

-- a stream began with bytes that end the options
pub record TakesLastOption (input : Option (List ℕ)) (end : End) : Type 0 where
  pub last : List ℕ
  pub asked : Begins input last
  pub is_last : IsLastOption end last

-- one option was taken and answered
pub record AsksOnce (sizes : Sizes) (no_zeroes : Bool) (dialect : Dialect) (input out rest after : Option (List ℕ)) (spoken : Dialect) (next : Next) : Type 0 where
  pub option : Asked
  pub is : IsAsked option
  pub next_is : next ≡ next_of (wish_of option)
  pub spoken_is : spoken ≡ dialect_behind dialect option
  pub taken : Consumes input rest (option_bytes option)
  pub told : Appends out after (answer_in dialect sizes no_zeroes option)

-- options were taken and answered, in order
pub record Haggles (sizes : Sizes) (no_zeroes : Bool) (dialect : Dialect) (input out rest after : Option (List ℕ)) (spoken : Dialect) (next : Next) : Type 0 where
  pub options : List Asked
  pub leads : Leads options next
  pub spoken_is : spoken ≡ dialect_after dialect options
  pub taken : Consumes input rest (said option_bytes options)
  pub told : Appends out after (answers_in dialect sizes no_zeroes options)

-- the session ended among the options: by one of them, or where none came
pub record EndsHaggling (sizes : Sizes) (no_zeroes : Bool) (dialect : Dialect) (input out : Option (List ℕ)) (end : End) (after : Option (List ℕ)) : Type 0 where
  pub options : List Asked
  pub next : Next
  pub last : List ℕ
  pub why : ((next ≡ Ended end) × (last ≡ [])) ⊎ ((next ≡ Options) × IsLastOption end last)
  pub leads : Leads options next
  pub asked : Begins input (said option_bytes options ++ last)
  pub told : IsTold end out after (answers_in dialect sizes no_zeroes options)

-- the server greeted, and the client's flags were taken
pub record Greets (input out rest after : Option (List ℕ)) (no_zeroes : Bool) : Type 0 where
  pub flags : List ℕ
  pub are_flags : AreFlags flags no_zeroes
  pub taken : Consumes input rest flags
  pub told : Appends out after greeting

-- a client was greeted, and its options were answered up to one that leads to requests in a dialect
pub record OpensIn (sizes : Sizes) (dialect : Dialect) (input out rest after : Option (List ℕ)) (spoken : Dialect) : Type 0 where
  pub flags : List ℕ
  pub no_zeroes : Bool
  pub are_flags : AreFlags flags no_zeroes
  pub options : List Asked
  pub leads : Leads options Requests
  pub spoken_is : spoken ≡ dialect_after dialect options
  pub taken : Consumes input rest (flags ++ said option_bytes options)
  pub told : Appends out after (greeting ++ answers_in dialect sizes no_zeroes options)

-- a session that ended among its options
pub record EndsOptionsIn (sizes : Sizes) (dialect : Dialect) (input out : Option (List ℕ)) (end : End) (after : Option (List ℕ)) : Type 0 where
  pub flags : List ℕ
  pub no_zeroes : Bool
  pub are_flags : AreFlags flags no_zeroes
  pub options : List Asked
  pub next : Next
  pub leads : Leads options next
  pub last : List ℕ
  pub why : ((next ≡ Ended end) × (last ≡ [])) ⊎ ((next ≡ Options) × IsLastOption end last)
  pub asked : Begins input (flags ++ (said option_bytes options ++ last))
  pub told : IsTold end out after (greeting ++ answers_in dialect sizes no_zeroes options)

-- a session that ended before its requests
abbrev pub EndsUnaskedIn : Sizes → Dialect → Option (List ℕ) → Option (List ℕ) → End → Option (List ℕ) → Type 0
EndsUnaskedIn sizes dialect input out end after = EndsGreeting input out end after ⊎ EndsOptionsIn sizes dialect input out end after
