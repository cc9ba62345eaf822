-- What is said before a client's requests.
use Rattle.std.specs.Prelude.{◌≡◌, ◌⊎◌, ℕ, Bool, List, [], ◌∷◌, ◌++◌, length, Option, IsTrue, IsFalse}
use Rattle.std.specs.Io.KnownBytes.{Appends, Consumes}
use Rattle.byteorder.specs.Endian.{big_from}
use Rattle.nbd.specs.declared.End.{End}
use Rattle.nbd.specs.declared.arrays.Sizes.{Sizes}
use Rattle.nbd.specs.declared.End.TheVariants.{Left, Malformed}
use Rattle.nbd.specs.declared.options.Next.{Next}
use Rattle.nbd.specs.declared.options.Next.TheVariants.{Options, Requests, Ended}
use Rattle.nbd.specs.declared.dialects.Dialect.{Dialect}
use Rattle.nbd.specs.declared.dialects.Dialect.TheVariants.{Plain, Simple}
use Rattle.nbd.specs.Content.{Content, sizes_of}
use Rattle.nbd.specs.Dialects.{heard, next_dialect}
use Rattle.nbd.specs.Options.{Asked, IsAsked, IsNoOption, are_known, greeting, next_of, option_bytes, replies_to, wants_no_zeroes, wish_of}
use Rattle.nbd.specs.Carrying.{Faulting}
use Rattle.nbd.specs.Session.{Begins, Exchange, IsTold, IsLast, Run, asked_by, said, told_in}

-- the replies to an option in a dialect
abbrev pub answer_in : Dialect → Sizes → Bool → Asked → List ℕ
answer_in dialect sizes no_zeroes a = replies_to sizes no_zeroes a.code (heard dialect (wish_of a))

-- the replies to an option where only simple replies are offered
abbrev pub answers_to : Sizes → Bool → Asked → List ℕ
answers_to sizes no_zeroes a = answer_in Plain sizes no_zeroes a

-- the dialect behind an option
abbrev pub dialect_behind : Dialect → Asked → Dialect
dialect_behind dialect a = next_dialect dialect a.code (wish_of a)

-- the dialect behind options
abbrev pub dialect_after : Dialect → List Asked → Dialect
dialect_after dialect [] = dialect
dialect_after dialect (a ∷ as') = dialect_after (dialect_behind dialect a) as'

-- the replies to options, each in the dialect of its moment
abbrev pub answers_in : Dialect → Sizes → Bool → List Asked → List ℕ
answers_in dialect sizes no_zeroes [] = []
answers_in dialect sizes no_zeroes (a ∷ as') = answer_in dialect sizes no_zeroes a ++ answers_in (dialect_behind dialect a) sizes no_zeroes as'

-- each of these options but the last leads to another option, and the last one leads to this
abbrev pub Leads : List Asked → Next → Type 0
Leads [] next = next ≡ Options
Leads (a ∷ []) next = IsAsked a × (next ≡ next_of (wish_of a))
Leads (a ∷ b ∷ as') next = IsAsked a × (Options ≡ next_of (wish_of a)) × Leads (b ∷ as') next

-- the bytes that end the options, where no option did
abbrev pub IsLastOption : End → List ℕ → Type 0
IsLastOption Left bytes = ⊥
IsLastOption Malformed bytes = IsNoOption bytes
IsLastOption _ bytes = bytes ≡ []

-- the four bytes of a client's flags
pub record AreFlags (bytes : List ℕ) (no_zeroes : Bool) : Type 0 where
  pub long : length bytes ≡ 4
  pub known : IsTrue (are_known (big_from 0 4 bytes))
  pub wants : no_zeroes ≡ wants_no_zeroes (big_from 0 4 bytes)

-- a session that came to its options: the bytes with which the stream began, what was written, what became of the array
pub record Talks (F : Faulting) (old : Content) (input out : Option (List ℕ)) (end : End) (new : Content) (after : Option (List ℕ)) : Type 0 where
  pub flags : List ℕ
  pub no_zeroes : Bool
  pub are_flags : AreFlags flags no_zeroes
  pub options : List Asked
  pub next : Next
  pub leads : Leads options next
  pub exchanges : List Exchange
  pub last : List ℕ
  -- no request is served but behind an option that leads to requests
  pub in_turn : ((next ≡ Requests) × IsLast end last) ⊎ ((exchanges ≡ []) × (((next ≡ Ended end) × (last ≡ [])) ⊎ ((next ≡ Options) × IsLastOption end last)))
  pub asked : Begins input (flags ++ (said option_bytes options ++ (said asked_by exchanges ++ last)))
  -- structured replies are offered, and used where they were asked for
  pub told : IsTold end out after (greeting ++ (answers_in Simple (sizes_of old) no_zeroes options ++ said (told_in (dialect_after Simple options)) exchanges))
  pub run : Run F (dialect_after Simple options) old exchanges new

-- four bytes with a flag that isn't known
pub record AreNoFlags (bytes : List ℕ) : Type 0 where
  pub long : length bytes ≡ 4
  pub unknown : IsFalse (are_known (big_from 0 4 bytes))

-- the bytes that end a session before its options
abbrev pub IsLastEarly : End → List ℕ → Type 0
IsLastEarly Left bytes = ⊥
IsLastEarly Malformed bytes = AreNoFlags bytes
IsLastEarly _ bytes = bytes ≡ []

-- a session that ended before its options
pub record EndsGreeting (input out : Option (List ℕ)) (end : End) (after : Option (List ℕ)) : Type 0 where
  pub last : List ℕ
  pub is_last : IsLastEarly end last
  pub asked : Begins input last
  pub told : IsTold end out after greeting

-- a client was greeted, and its options were answered up to one that leads to requests
pub record Opens (sizes : Sizes) (input out rest after : Option (List ℕ)) : Type 0 where
  pub flags : List ℕ
  pub no_zeroes : Bool
  pub are_flags : AreFlags flags no_zeroes
  pub options : List Asked
  pub leads : Leads options Requests
  pub taken : Consumes input rest (flags ++ said option_bytes options)
  pub told : Appends out after (greeting ++ said (answers_to sizes no_zeroes) options)

-- a session that ended among its options: by one of them, or where none came
pub record EndsOptions (sizes : Sizes) (input out : Option (List ℕ)) (end : End) (after : Option (List ℕ)) : Type 0 where
  pub flags : List ℕ
  pub no_zeroes : Bool
  pub are_flags : AreFlags flags no_zeroes
  pub options : List Asked
  pub next : Next
  pub leads : Leads options next
  pub last : List ℕ
  pub why : ((next ≡ Ended end) × (last ≡ [])) ⊎ ((next ≡ Options) × IsLastOption end last)
  pub asked : Begins input (flags ++ (said option_bytes options ++ last))
  pub told : IsTold end out after (greeting ++ said (answers_to sizes no_zeroes) options)

-- a session that ended before its requests
abbrev pub EndsUnasked : Sizes → Option (List ℕ) → Option (List ℕ) → End → Option (List ℕ) → Type 0
EndsUnasked sizes input out end after = EndsGreeting input out end after ⊎ EndsOptions sizes input out end after

-- a session ended before its options, and the array is as it was
pub record EndsEarly (old : Content) (input out : Option (List ℕ)) (end : End) (new : Content) (after : Option (List ℕ)) : Type 0 where
  pub same : new ≡ old
  pub ended : EndsGreeting input out end after

-- a whole session, over an array that may fail in these ways
abbrev pub IsSession : Faulting → Content → Option (List ℕ) → Option (List ℕ) → End → Content → Option (List ℕ) → Type 0
IsSession F old input out end new after = EndsEarly old input out end new after ⊎ Talks F old input out end new after
