-- What the lines of a script mean. A text is its bytes, of which 32 is a space and 35 a '#'.
use Rattle.std.specs.Prelude.{◌≡◌, ◌^◌, ◌<◌, ◌≤◌, ◌==◌, ◌+◌, ◌++◌, ℕ, Bool, false, true, if◌then◌else◌, All, map, reverse, List, [], ◌∷◌, Option, Some, None, IsSomeAnd, MatchOption, codes, filter, length, not, slice_get}
use Rattle.std.specs.List.{AllZip, slice_split}
use Rattle.std.specs.Str.Lines.{lines}
use Rattle.std.specs.Str.Parse.{IsNumeral, digits_value}
use Rattle.script.specs.declared.ScriptFault.{ScriptFault}
use Rattle.script.specs.declared.ScriptFault.TheVariants.{BadLine, NoMemory, OutputFailed}
use Rattle.script.specs.declared.Line.{Line}
use Rattle.script.specs.declared.Order.{Order}
use Rattle.script.specs.declared.Order.TheVariants.{Open, Close, Read, Write, Flush, Cancel, Mark, QueryRemove, CancelRemove, Remove, SurpriseRemove, Act, Finish, Reset}

-- what was found has the property, and nothing has it where nothing was found
abbrev pub Finds : {A : Type 0} → (A → Type 0) → Option A → Type 0
Finds {A} P found = MatchOption found ((x : A) → ¬ (P x)) P

-- the word is 1 to 20 decimal digits, which spell a number below 2^64
pub record IsNumber (word : List ℕ) (n : ℕ) : Type 0 where
  pub digits : IsNumeral 10 word
  pub count : length word ≤ 20
  pub value : n ≡ digits_value 10 word
  pub range : n < 2 ^ 64

-- the word is two hexadecimal digits, of either case, which spell a byte
pub record IsByte (word : List ℕ) (n : ℕ) : Type 0 where
  pub digits : IsNumeral 16 word
  pub count : length word ≡ 2
  pub value : n ≡ digits_value 16 word

-- the words of a line: the parts between spaces that are not empty
abbrev pub words_of : List ℕ → List (List ℕ)
words_of line = filter (λ word. not (length word == 0)) (slice_split (λ b. b == 32) line)

-- an argument of an order: a number, the length of a request in bytes, a byte, or the word through
pub data Argument : Type 0 where
  Number : ℕ → Argument
  Length : ℕ → Argument
  Byte : ℕ → Argument
  Through : Argument

-- a word spells an argument; a length is at most 65,537 sectors of 4,096 bytes
abbrev pub Spells : List ℕ → Argument → Type 0
Spells word (Number n) = IsNumber word n
Spells word (Length n) = IsNumber word n × (n ≤ 268439552)
Spells word (Byte n) = IsByte word n
Spells word Through = word ≡ codes "through"

-- the first of some words spells an argument
abbrev pub FirstSpells : List (List ℕ) → Argument → Type 0
FirstSpells words argument = IsSomeAnd (slice_get words 0) (λ word. Spells word argument)

-- the first word of an order
abbrev pub verb_of : Order → List ℕ
verb_of (Open partition) = codes "open"
verb_of (Close handle) = codes "close"
verb_of (Read handle offset count) = codes "read"
verb_of (Write handle offset count byte through) = codes "write"
verb_of (Flush handle) = codes "flush"
verb_of (Cancel handle request) = codes "cancel"
verb_of (Mark request) = codes "mark"
verb_of QueryRemove = codes "query-remove"
verb_of CancelRemove = codes "cancel-remove"
verb_of Remove = codes "remove"
verb_of SurpriseRemove = codes "surprise-remove"
verb_of (Act tag) = codes "act"
verb_of (Finish tag) = codes "finish"
verb_of Reset = codes "reset"

-- the last argument of a write, if it goes through
abbrev pub through_of : Bool → List Argument
through_of true = Through ∷ []
through_of false = []

-- the last argument of a cancel, if it is of one request
abbrev pub request_of : Option ℕ → List Argument
request_of (Some request) = Number request ∷ []
request_of None = []

-- the arguments behind the first word of an order
abbrev pub arguments_of : Order → List Argument
arguments_of (Open partition) = Number partition ∷ []
arguments_of (Close handle) = Number handle ∷ []
arguments_of (Read handle offset count) = Number handle ∷ Number offset ∷ Length count ∷ []
arguments_of (Write handle offset count byte through) = Number handle ∷ Number offset ∷ Length count ∷ Byte byte ∷ through_of through
arguments_of (Flush handle) = Number handle ∷ []
arguments_of (Cancel handle request) = Number handle ∷ request_of request
arguments_of (Mark request) = Number request ∷ []
arguments_of QueryRemove = []
arguments_of CancelRemove = []
arguments_of Remove = []
arguments_of SurpriseRemove = []
arguments_of (Act tag) = Number tag ∷ []
arguments_of (Finish tag) = Number tag ∷ []
arguments_of Reset = []

-- words ask for an order: its verb, and then its arguments one by one
abbrev pub Asks : List (List ℕ) → Order → Type 0
Asks [] order = ⊥
Asks (verb ∷ words) order = (verb ≡ verb_of order) × AllZip Spells words (arguments_of order)

-- a text without the spaces at its start
abbrev pub without_spaces : List ℕ → List ℕ
without_spaces [] = []
without_spaces (b ∷ bs) = if b == 32 then without_spaces bs else b ∷ bs

-- a text without the spaces at its ends
abbrev pub trimmed : List ℕ → List ℕ
trimmed text = reverse (without_spaces (reverse (without_spaces text)))

-- the lines of a script, trimmed: a line feed ends a line, and a carriage return before it is dropped
abbrev pub lines_of : List ℕ → List (List ℕ)
lines_of script = map trimmed (lines script)

-- a line, trimmed, is to be an event: it is neither empty nor a remark
abbrev pub is_event : List ℕ → Bool
is_event [] = false
is_event (b ∷ bs) = not (b == 35)

-- a line as it was read: its text, and the order that its words ask for
pub record IsLine (text : List ℕ) (line : Line) : Type 0 where
  pub same_text : line.text.now ≡ text
  pub asked : Asks (words_of text) line.order

-- the lines that are to be events were read, in order, each in its place
abbrev pub AreEvents : List (List ℕ) → List Line → Type 0
AreEvents texts read = AllZip IsLine (filter is_event texts) read

-- a line is bad: it is to be an event, and asks for no order
abbrev pub IsBad : List ℕ → Type 0
IsBad text = (is_event text ≡ true) × ((order : Order) → ¬ (Asks (words_of text) order))

-- the first bad line of a script has this number, from 1
pub record IsFirstBad (script : List ℕ) (number : ℕ) : Type 0 where
  pub before : List (List ℕ)
  pub bad : List ℕ
  pub after : List (List ℕ)
  pub split : lines_of script ≡ before ++ bad ∷ after
  pub counted : number ≡ length before + 1
  pub good : All (λ text. ¬ (IsBad text)) before
  pub is_bad : IsBad bad

-- why a script is refused: its first bad line, or want of memory
abbrev pub IsFaultOf : List ℕ → ScriptFault → Type 0
IsFaultOf script (BadLine line) = IsFirstBad script line
IsFaultOf script NoMemory = Unit {0}
IsFaultOf script OutputFailed = ⊥
