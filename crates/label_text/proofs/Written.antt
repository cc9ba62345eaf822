-- What is written of a label is read as it.
use Rattle.std.proofs.Common.{◌≡◌, ◌≤◌, ◌<◌, ◌^◌, ◌==◌, ◌&&◌, ◌/◌, ◌%◌, ◌++◌, ◌∙◌, ℕ, Bool, true, false, not, List, [], ◌∷◌, Option, None, Some, All, ap, arith, codes, cond, drop, length, nat_le, refl, subst, sym}
use Rattle.std.specs.Fmt.{decimal}
use Rattle.std.specs.Str.{bytes_eq}
use Rattle.std.specs.Option.{option_and_then, option_map}
use Rattle.std.proofs.lemmas.Bool.{and_parts, false_from_ne_true}
use Rattle.std.proofs.lemmas.Bool.Decides.{nat_tests}
use Rattle.std.proofs.lemmas.List.Elements.{All-append, All-cons, All-nil, All-head}
use Rattle.std.proofs.lemmas.Slice.Eq.{bytes_eq-Decides}
use Rattle.ntstatus.specs.declared.NtStatus.{NtStatus}
use Rattle.ntstatus.specs.declared.NtStatus.TheVariants as status
use Rattle.ntstatus.specs.declared.Sense.{Sense}
use Rattle.ntstatus.specs.Codes.{name_of}
use Rattle.srb.specs.declared.Class.{Class}
use Rattle.srb.specs.declared.Class.TheVariants.{Good, Busy, Bad}
use Rattle.srb.specs.declared.DeviceLabel.TheVariants.{Start, Act, Fault, Return}
use Rattle.srb.specs.declared.Kind.{Kind}
use Rattle.srb.specs.declared.Kind.TheVariants.{Read, Write, Flush}
use Rattle.machine.specs.declared.ClientRequest.{ClientRequest}
use Rattle.machine.specs.declared.Label.{Label}
use Rattle.machine.specs.declared.Label.TheVariants.{Call, Device, Answer, Cancel, Pause, Resume, Remove, Surprise, Removed}
use Rattle.trace_line.specs.declared.Line.{Line}
use Rattle.label_text.specs.Runs.{AreBytes, digit_of, digits_text, hex_bytes, hex_of, runs_of, runs_text}
use Rattle.label_text.specs.Lines.{BlockFits, ClassFits, Fits, Form, InDigits, InRuns, OwnerFits, OwnerIsSmall, PartitionFits, RequestFits, SenseFits, Words, block_words, bytes_words, class_words, extent_words, kind_word, owned, owner_words, partition_word, request_words_as, sense_words, through_words, verb_of, words_as, words_behind, words_behind_as}
use Rattle.label_text.specs.inside.Reading.{bare, behind, behind_block, behind_extent, behind_head, behind_placed, behind_start, block_at, block_in, byte_in, bytes_at, bytes_in, class_at, extent_at, flushed_at, head_at, in_partition_at, is_next, is_some_extent, kind_in, label_by, line_by, number_in, owned_start_at, owner_at, partition_in, placed_at, sense_at, sense_behind, short_block, start_at, status_in, two_at, with_bytes}
use Rattle.label_text.specs.declared.reading.Head.{Head}
use Rattle.label_text.proofs.Digits.{hex_above, hex_bytes_above, hex_bytes_is, hex_is}
use Rattle.label_text.proofs.Names.{status_is}
use Rattle.label_text.proofs.Numbers.{IsAbove, decimal_above, number_is}
use Rattle.label_text.proofs.Parting.{IsFree}
use Rattle.label_text.proofs.RunsRead.{free_of, runs_free}
use Rattle.label_text.proofs.WordsOfBytes.{word_is}

-- NO WORD HAS A SPACE

abbrev has_none : List ℕ → Bool
has_none [] = true
has_none (b ∷ bs) = not (b == 32) && has_none bs

none_by : (b : ℕ) (bs : List ℕ) → (not (b == 32) && has_none bs) ≡ true → ((b == 32) ≡ false) × (has_none bs ≡ true)
none_by b bs h = let both = and_parts (not (b == 32)) (has_none bs) h in (grind (arith, nat_tests), both.1)

plain : (word : List ℕ) → has_none word ≡ true → IsFree 32 word
plain [] h = All-nil (λ b. (b == 32) ≡ false)
plain (b ∷ bs) h = let both = none_by b bs h in All-cons (λ b. (b == 32) ≡ false) b bs both.0 (plain bs both.1)

abbrev AreFree : Words → Type 0
AreFree words = All (IsFree 32) words

and_then_free : (word : List ℕ) (words : Words) → IsFree 32 word → AreFree words → AreFree (word ∷ words)
and_then_free word words first more = All-cons (IsFree 32) word words first more

none_free : AreFree []
none_free = All-nil (IsFree 32)

decimal_free : (bits n : ℕ) → 2 ^ bits ≤ 10 ^ 64 → n < 2 ^ bits → IsFree 32 (decimal n)
decimal_free bits n most small = free_of 32 (decimal n) (omega arith) (decimal_above bits n most small)

digits_above : (bytes : List ℕ) → IsAbove 47 (digits_text bytes)
digits_above bytes = All-cons (λ x. 47 < x) 120 (hex_bytes bytes) (omega arith) (hex_bytes_above bytes)

hex_free : (b : ℕ) → IsFree 32 (hex_of b)
hex_free b = free_of 32 (hex_of b) (omega arith) (hex_above b)

bytes_words_free : (form : Form) (bytes : List ℕ) → AreBytes bytes → AreFree (bytes_words form bytes)
bytes_words_free InRuns [] h = none_free
bytes_words_free InRuns (b ∷ bs) h = and_then_free (runs_text (runs_of (b ∷ bs))) [] (runs_free (runs_of (b ∷ bs)) h.each) none_free
bytes_words_free InDigits [] h = none_free
bytes_words_free InDigits (b ∷ bs) h = and_then_free (digits_text (b ∷ bs)) [] (free_of 32 (digits_text (b ∷ bs)) (omega arith) (digits_above (b ∷ bs))) none_free

block_words_free : (bytes : List ℕ) → AreFree (block_words bytes)
block_words_free [] = none_free
block_words_free (b ∷ bs) = and_then_free (hex_bytes (b ∷ bs)) [] (free_of 32 (hex_bytes (b ∷ bs)) (omega arith) (hex_bytes_above (b ∷ bs))) none_free

two_free : (o l : ℕ) → o < 2 ^ 64 → l < 2 ^ 64 → AreFree (decimal o ∷ decimal l ∷ [])
two_free o l small short = and_then_free (decimal o) (decimal l ∷ []) (decimal_free 64 o (omega arith) small) (and_then_free (decimal l) [] (decimal_free 64 l (omega arith) short) none_free)

bare_free : (o l : ℕ) (t : Bool) → o < 2 ^ 64 → l < 2 ^ 64 → AreFree (cond t [] (codes "at" ∷ decimal o ∷ decimal l ∷ []))
bare_free o l true small short = none_free
bare_free o l false small short = and_then_free (codes "at") (decimal o ∷ decimal l ∷ []) (plain (codes "at") refl) (two_free o l small short)

extent_free : (kind : Kind) (o l : ℕ) → o < 2 ^ 64 → l < 2 ^ 64 → AreFree (extent_words kind o l)
extent_free Read o l small short = two_free o l small short
extent_free Write o l small short = two_free o l small short
extent_free Flush o l small short = bare_free o l ((o == 0) && (l == 0)) small short

through_free : (through : Bool) → AreFree (through_words through)
through_free true = and_then_free (codes "through") [] (plain (codes "through") refl) none_free
through_free false = none_free

partition_free : (partition : Option ℕ) → PartitionFits partition → IsFree 32 (partition_word partition)
partition_free None h = plain (codes "-") refl
partition_free (Some n) h = decimal_free 8 n (omega arith) h

kind_free : (kind : Kind) → IsFree 32 (kind_word kind)
kind_free Read = plain (codes "read") refl
kind_free Write = plain (codes "write") refl
kind_free Flush = plain (codes "flush") refl

request_free : (form : Form) (q : ClientRequest) → RequestFits q → AreFree (request_words_as form q)
request_free form q h =
    let last : AreFree (codes "in" ∷ partition_word q.partition ∷ bytes_words form q.bytes) =
    and_then_free (codes "in") (partition_word q.partition ∷ bytes_words form q.bytes) (plain (codes "in") refl)
    (and_then_free (partition_word q.partition) (bytes_words form q.bytes) (partition_free q.partition h.partition) (bytes_words_free form q.bytes h.bytes)) in
    and_then_free (kind_word q.kind) (extent_words q.kind q.offset q.length ++ (through_words q.through ++ (codes "in" ∷ partition_word q.partition ∷ bytes_words form q.bytes)))
    (kind_free q.kind)
    (All-append (IsFree 32) (extent_words q.kind q.offset q.length) (through_words q.through ++ (codes "in" ∷ partition_word q.partition ∷ bytes_words form q.bytes))
    (extent_free q.kind q.offset q.length h.offset h.bytes_long)
    (All-append (IsFree 32) (through_words q.through) (codes "in" ∷ partition_word q.partition ∷ bytes_words form q.bytes) (through_free q.through) last))

sense_free : (sense : Option Sense) → AreFree (sense_words sense)
sense_free None = none_free
sense_free (Some s) =
    and_then_free (hex_of s.key) (hex_of s.asc ∷ hex_of s.ascq ∷ []) (hex_free s.key)
    (and_then_free (hex_of s.asc) (hex_of s.ascq ∷ []) (hex_free s.asc) (and_then_free (hex_of s.ascq) [] (hex_free s.ascq) none_free))

class_free : (class : Class) → AreFree (class_words class)
class_free Good = and_then_free (codes "good") [] (plain (codes "good") refl) none_free
class_free Busy = and_then_free (codes "busy") [] (plain (codes "busy") refl) none_free
class_free (Bad c) =
    and_then_free (codes "bad") (hex_of c.srb_status ∷ hex_of c.scsi_status ∷ sense_words c.sense) (plain (codes "bad") refl)
    (and_then_free (hex_of c.srb_status) (hex_of c.scsi_status ∷ sense_words c.sense) (hex_free c.srb_status)
    (and_then_free (hex_of c.scsi_status) (sense_words c.sense) (hex_free c.scsi_status) (sense_free c.sense)))

name_free : (s : NtStatus) → has_none (name_of s) ≡ true
name_free status.Success = refl
name_free status.Pending = refl
name_free status.DeviceBusy = refl
name_free status.InvalidHandle = refl
name_free status.InvalidParameter = refl
name_free status.NoSuchDevice = refl
name_free status.InvalidDeviceRequest = refl
name_free status.NonexistentSector = refl
name_free status.MoreProcessingRequired = refl
name_free status.DeletePending = refl
name_free status.InsufficientResources = refl
name_free status.DeviceDataError = refl
name_free status.MediaWriteProtected = refl
name_free status.DeviceNotReady = refl
name_free status.Cancelled = refl
name_free status.IoDeviceError = refl
name_free status.NotFound = refl

verb_free : (l : Label) → has_none (verb_of l) ≡ true
verb_free (Call number q) = refl
verb_free (Device (Start piece tag block)) = refl
verb_free (Device (Act piece bytes)) = refl
verb_free (Device (Fault piece)) = refl
verb_free (Device (Return piece class)) = refl
verb_free (Answer number s information bytes) = refl
verb_free (Cancel number) = refl
verb_free Pause = refl
verb_free Resume = refl
verb_free Remove = refl
verb_free Surprise = refl
verb_free Removed = refl

piece_free : (piece : ℕ) (words : Words) → piece < 2 ^ 128 → AreFree words → AreFree (decimal piece ∷ words)
piece_free piece words small more = and_then_free (decimal piece) words (decimal_free 128 piece (omega arith) small) more

number_free : (number : ℕ) (words : Words) → number < 2 ^ 64 → AreFree words → AreFree (decimal number ∷ words)
number_free number words small more = and_then_free (decimal number) words (decimal_free 64 number (omega arith) small) more

owner_free : (owner : Option ℕ) → OwnerIsSmall owner → AreFree (owner_words owner)
owner_free None h = none_free
owner_free (Some number) h = and_then_free (codes "of") (decimal number ∷ []) (plain (codes "of") refl) (number_free number [] h none_free)

behind_free : (form : Form) (l : Label) (owner : Option ℕ) → Fits l → OwnerFits l owner → AreFree (words_behind_as form l owner)
behind_free form (Call number q) owner h o = number_free number (request_words_as form q) h.0 (request_free form q h.1)
behind_free form (Device (Start piece tag block)) owner h o =
    let last : AreFree (block_words block ++ owner_words owner) = All-append (IsFree 32) (block_words block) (owner_words owner) (block_words_free block) (owner_free owner o) in
    piece_free piece (codes "tag" ∷ decimal tag ∷ (block_words block ++ owner_words owner)) h.0
    (and_then_free (codes "tag") (decimal tag ∷ (block_words block ++ owner_words owner)) (plain (codes "tag") refl)
    (and_then_free (decimal tag) (block_words block ++ owner_words owner) (decimal_free 8 tag (omega arith) h.1) last))
behind_free form (Device (Act piece bytes)) owner h o = piece_free piece (bytes_words form bytes) h.0 (bytes_words_free form bytes h.1)
behind_free form (Device (Fault piece)) owner h o = piece_free piece [] h none_free
behind_free form (Device (Return piece class)) owner h o = piece_free piece (class_words class) h.0 (class_free class)
behind_free form (Answer number s information bytes) owner h o =
    number_free number (name_of s ∷ decimal information ∷ bytes_words form bytes) h.0
    (and_then_free (name_of s) (decimal information ∷ bytes_words form bytes) (plain (name_of s) (name_free s))
    (number_free information (bytes_words form bytes) h.1 (bytes_words_free form bytes h.2)))
behind_free form (Cancel number) owner h o = number_free number [] h none_free
behind_free form Pause owner h o = none_free
behind_free form Resume owner h o = none_free
behind_free form Remove owner h o = none_free
behind_free form Surprise owner h o = none_free
behind_free form Removed owner h o = none_free

pub all_free : (form : Form) (line : Line) → Fits line.label → OwnerFits line.label line.owner → AreFree (words_as form line)
all_free form line h o =
    and_then_free (verb_of line.label) (words_behind_as form line.label line.owner) (plain (verb_of line.label) (verb_free line.label)) (behind_free form line.label line.owner h o)

-- EACH PART IS READ

bytes_words_is : (form : Form) (bytes : List ℕ) → AreBytes bytes → bytes_at (bytes_words form bytes) ≡ Some bytes
bytes_words_is InRuns [] h = refl
bytes_words_is InRuns (b ∷ bs) h = word_is InRuns b bs h _ refl
bytes_words_is InDigits [] h = refl
bytes_words_is InDigits (b ∷ bs) h = word_is InDigits b bs h _ refl

some_length : (x : ℕ) (xs : List ℕ) → (length (x ∷ xs) == 0) ≡ false
some_length x xs = grind (arith, nat_tests)

short_is : (bytes : List ℕ) → length bytes ≤ 16 → short_block bytes ≡ Some bytes
short_is bytes short = let fits : nat_le (length bytes) 16 ≡ true = grind (arith, nat_tests) in ap (λ b. cond b (Some bytes) None) fits

-- no digit is the first letter of the word of
not_of : (b : ℕ) (rest : List ℕ) → b < 2 ^ 8 → bytes_eq (digit_of (b / 16) ∷ rest) (codes "of") ≡ false
not_of b rest small = false_from_ne_true _ (λ e.
    let same : digit_of (b / 16) ∷ rest ≡ codes "of" = (bytes_eq-Decides (digit_of (b / 16) ∷ rest) (codes "of")).0 e in
    let first : digit_of (b / 16) ≡ 111 = cc (same) in
    absurd (grind (arith, nat_tests, first)))

block_in_is : (b : ℕ) (bs : List ℕ) → BlockFits (b ∷ bs) → block_in (hex_bytes (b ∷ bs)) ≡ Some (b ∷ bs)
block_in_is b bs h =
    ap (λ t. cond t None (option_and_then short_block (bytes_in (hex_bytes (b ∷ bs))))) (some_length (digit_of (b / 16)) (digit_of (b % 16) ∷ hex_bytes bs))
    ∙ ap (option_and_then short_block) (hex_bytes_is (b ∷ bs) h.1) ∙ short_is (b ∷ bs) h.0

-- a block before an owner
block_is : (block : List ℕ) (owner : Option ℕ) → BlockFits block
    → (block_at (block_words block ++ owner_words owner) ≡ Some block) × (behind_block (block_words block ++ owner_words owner) ≡ owner_words owner)
block_is [] None h = (refl, refl)
block_is [] (Some number) h = (refl, refl)
block_is (b ∷ bs) owner h =
    let digits : List ℕ = digit_of (b % 16) ∷ hex_bytes bs in
    let other : bytes_eq (hex_bytes (b ∷ bs)) (codes "of") ≡ false = not_of b digits (All-head (λ x. x < 2 ^ 8) b bs h.1) in (
      ap (λ t. cond t (Some []) (block_in (hex_bytes (b ∷ bs)))) other ∙ block_in_is b bs h,
      ap (λ t. cond t (hex_bytes (b ∷ bs) ∷ owner_words owner) (owner_words owner)) other,
    )

owner_is : (owner : Option ℕ) → OwnerIsSmall owner → owner_at (owner_words owner) ≡ Some owner
owner_is None h = refl
owner_is (Some number) h = ap (option_and_then (λ n. Some (Some n))) (number_is 64 number (omega arith) h)

abbrev head_of : ClientRequest → Head
head_of q = record { partition = q.partition; kind = q.kind; offset = q.offset; length = q.length; through = q.through }

-- what stands behind the extent
abbrev last_words : Bool → Option ℕ → Words → Words
last_words through partition words = through_words through ++ (codes "in" ∷ partition_word partition ∷ words)

through_is : (through : Bool) (partition : Option ℕ) (words : Words) → is_next (codes "through") (last_words through partition words) ≡ through
through_is true partition words = refl
through_is false partition words = refl

behind_through : (through : Bool) (partition : Option ℕ) (words : Words)
    → behind (codes "through") (last_words through partition words) ≡ codes "in" ∷ partition_word partition ∷ words
behind_through true partition words = refl
behind_through false partition words = refl

not_at : (through : Bool) (partition : Option ℕ) (words : Words) → is_next (codes "at") (last_words through partition words) ≡ false
not_at true partition words = refl
not_at false partition words = refl

no_dash : (n : ℕ) → n < 2 ^ 8 → bytes_eq (decimal n) (codes "-") ≡ false
no_dash n small = false_from_ne_true _ (λ e.
    let same : decimal n ≡ 45 ∷ [] = (bytes_eq-Decides (decimal n) (codes "-")).0 e in
    let above : 47 < 45 = All-head (λ b. 47 < b) 45 [] (subst (λ w. All (λ b. 47 < b) w) same (decimal_above 8 n (omega arith) small)) in
    absurd (omega arith))

partition_is : (partition : Option ℕ) → PartitionFits partition → partition_in (partition_word partition) ≡ Some partition
partition_is None h = refl
partition_is (Some n) h =
    ap (λ b. cond b (Some None) (option_map (λ p. Some p) (number_in 8 (decimal n)))) (no_dash n h)
    ∙ ap (option_map (λ p. Some p)) (number_is 8 n (omega arith) h)

two_is : (o l : ℕ) (words : Words) → o < 2 ^ 64 → l < 2 ^ 64 → two_at (decimal o ∷ decimal l ∷ words) ≡ Some (o, l)
two_is o l words small short =
    ap (option_and_then (λ offset. option_map (λ bytes. (offset, bytes)) (number_in 64 (decimal l)))) (number_is 64 o (omega arith) small)
    ∙ ap (option_map (λ bytes. (o, bytes))) (number_is 64 l (omega arith) short)

flush_is : (o l : ℕ) (t : Bool) (through : Bool) (partition : Option ℕ) (words : Words) → ((o == 0) && (l == 0)) ≡ t → o < 2 ^ 64 → l < 2 ^ 64
    → (extent_at Flush (cond t [] (codes "at" ∷ decimal o ∷ decimal l ∷ []) ++ last_words through partition words) ≡ Some (o, l))
    × (behind_extent Flush (cond t [] (codes "at" ∷ decimal o ∷ decimal l ∷ []) ++ last_words through partition words) ≡ last_words through partition words)
flush_is o l true through partition words e small short =
    let both = and_parts (o == 0) (l == 0) e in
    let none : (o ≡ 0) × (l ≡ 0) = (grind (arith, nat_tests), grind (arith, nat_tests)) in (
      ap (λ b. cond b (flushed_at (drop 1 (last_words through partition words))) (Some (0, 0))) (not_at through partition words) ∙ (λ i. Some (sym none.0 i, sym none.1 i)),
      ap (λ b. cond b (drop 1 (drop 1 (drop 1 (last_words through partition words)))) (last_words through partition words)) (not_at through partition words),
    )
flush_is o l false through partition words e small short = (
  ap (option_and_then (λ (extent : ℕ × ℕ). cond (is_some_extent extent) (Some extent) None)) (two_is o l (last_words through partition words) small short)
      ∙ ap (λ b. cond (not b) (Some (o, l)) None) e,
  refl,
)

extent_is : (kind : Kind) (o l : ℕ) (through : Bool) (partition : Option ℕ) (words : Words) → o < 2 ^ 64 → l < 2 ^ 64
    → (extent_at kind (extent_words kind o l ++ last_words through partition words) ≡ Some (o, l))
    × (behind_extent kind (extent_words kind o l ++ last_words through partition words) ≡ last_words through partition words)
extent_is Read o l through partition words small short = (two_is o l (last_words through partition words) small short, refl)
extent_is Write o l through partition words small short = (two_is o l (last_words through partition words) small short, refl)
extent_is Flush o l through partition words small short = flush_is o l ((o == 0) && (l == 0)) through partition words refl small short

-- what stands behind the kind, where this stands behind the extent
placed_by : (kind : Kind) (o l : ℕ) (through : Bool) (partition : Option ℕ) (words all : Words) → PartitionFits partition
    → extent_at kind all ≡ Some (o, l) → behind_extent kind all ≡ last_words through partition words
    → (placed_at kind all ≡ Some (record { partition = partition; kind = kind; offset = o; length = l; through = through })) × (behind_placed kind all ≡ words)
placed_by kind o l through partition words all fits extent rest = (
  ap (option_and_then (λ (e : ℕ × ℕ). option_map
      (λ p. record { partition = p; kind = kind; offset = e.0; length = e.1; through = is_next (codes "through") (behind_extent kind all) })
      (in_partition_at (behind (codes "through") (behind_extent kind all))))) extent
      ∙ ap (λ r. option_map (λ p. record { partition = p; kind = kind; offset = o; length = l; through = is_next (codes "through") r }) (in_partition_at (behind (codes "through") r))) rest
      ∙ (λ i. option_map (λ p. record { partition = p; kind = kind; offset = o; length = l; through = through_is through partition words i })
      (in_partition_at (behind_through through partition words i)))
      ∙ ap (option_map (λ p. record { partition = p; kind = kind; offset = o; length = l; through = through })) (partition_is partition fits),
  ap (λ r. drop 1 (drop 1 (behind (codes "through") r))) rest ∙ ap (λ r. drop 1 (drop 1 r)) (behind_through through partition words),
)

head_is : (form : Form) (q : ClientRequest) → RequestFits q → (kind : Kind) → q.kind ≡ kind
    → (option_and_then (λ k. placed_at k (extent_words q.kind q.offset q.length ++ last_words q.through q.partition (bytes_words form q.bytes))) (Some q.kind) ≡ Some (head_of q))
    × (behind_placed q.kind (extent_words q.kind q.offset q.length ++ last_words q.through q.partition (bytes_words form q.bytes)) ≡ bytes_words form q.bytes)
head_is form q h kind e =
    let x = extent_is q.kind q.offset q.length q.through q.partition (bytes_words form q.bytes) h.offset h.bytes_long in
    placed_by q.kind q.offset q.length q.through q.partition (bytes_words form q.bytes) (extent_words q.kind q.offset q.length ++ last_words q.through q.partition (bytes_words form q.bytes)) h.partition x.0 x.1

kind_is : (kind : Kind) → kind_in (kind_word kind) ≡ Some kind
kind_is Read = refl
kind_is Write = refl
kind_is Flush = refl

request_is : (form : Form) (q : ClientRequest) → RequestFits q → (head_at (request_words_as form q) ≡ Some (head_of q)) × (behind_head (request_words_as form q) ≡ bytes_words form q.bytes)
request_is form q h =
    let x = head_is form q h q.kind refl in
    let rest : Words = extent_words q.kind q.offset q.length ++ last_words q.through q.partition (bytes_words form q.bytes) in (
      ap (option_and_then (λ k. placed_at k rest)) (kind_is q.kind) ∙ x.0,
      ap (λ o. elim o [ Some k ↦ behind_placed k rest | None ↦ [] ]) (kind_is q.kind) ∙ x.1,
    )

-- LABELS

sense_is : (sense : Option Sense) → SenseFits sense → sense_at (sense_words sense) ≡ Some sense
sense_is None h = refl
sense_is (Some s) h =
    ap (option_and_then (λ key. option_map (λ x. Some x) (sense_behind key (hex_of s.asc ∷ hex_of s.ascq ∷ [])))) (hex_is s.key h.0)
    ∙ ap (λ o. option_map (λ x. Some x) (option_and_then (λ asc. option_and_then (λ ascq. Some (record { key = s.key; asc = asc; ascq = ascq })) (byte_in (hex_of s.ascq))) o)) (hex_is s.asc h.1)
    ∙ ap (λ o. option_map (λ x. Some x) (option_and_then (λ ascq. Some (record { key = s.key; asc = s.asc; ascq = ascq })) o)) (hex_is s.ascq h.2)

class_is : (class : Class) → ClassFits class → class_at (class_words class) ≡ Some class
class_is Good h = refl
class_is Busy h = refl
class_is (Bad c) h =
    ap (λ o. option_map (λ x. Bad x) (option_and_then (λ srb. option_and_then (λ scsi. option_map (λ sense. record { srb_status = srb; scsi_status = scsi; sense = sense }) (sense_at (sense_words c.sense))) (byte_in (hex_of c.scsi_status))) o)) (hex_is c.srb_status h.0)
    ∙ ap (λ o. option_map (λ x. Bad x) (option_and_then (λ scsi. option_map (λ sense. record { srb_status = c.srb_status; scsi_status = scsi; sense = sense }) (sense_at (sense_words c.sense))) o)) (hex_is c.scsi_status h.1)
    ∙ ap (λ o. option_map (λ x. Bad x) (option_map (λ sense. record { srb_status = c.srb_status; scsi_status = c.scsi_status; sense = sense }) o)) (sense_is c.sense h.2)

start_is : (piece tag : ℕ) (block : List ℕ) (owner : Option ℕ) → Fits (Device (Start piece tag block))
    → start_at (words_behind (Device (Start piece tag block)) owner) ≡ Some (Device (Start piece tag block))
start_is piece tag block owner h =
    let rest : Words = block_words block ++ owner_words owner in
    ap (option_and_then (λ p. option_and_then (λ t. option_map (λ b. Device (Start p t b)) (block_at rest)) (number_in 8 (decimal tag)))) (number_is 128 piece (omega arith) h.0)
    ∙ ap (option_and_then (λ t. option_map (λ b. Device (Start piece t b)) (block_at rest))) (number_is 8 tag (omega arith) h.1)
    ∙ ap (option_map (λ b. Device (Start piece tag b))) (block_is block owner h.2).0

owned_start_is : (piece tag : ℕ) (block : List ℕ) (owner : Option ℕ) → Fits (Device (Start piece tag block)) → OwnerIsSmall owner
    → owned_start_at (words_behind (Device (Start piece tag block)) owner) ≡ Some (owned (Device (Start piece tag block)) owner)
owned_start_is piece tag block owner h o =
    let words : Words = words_behind (Device (Start piece tag block)) owner in
    ap (option_and_then (λ label. option_map (owned label) (owner_at (behind_start words)))) (start_is piece tag block owner h)
    ∙ ap (λ ws. option_map (owned (Device (Start piece tag block))) (owner_at ws)) (block_is block owner h.2).1
    ∙ ap (option_map (owned (Device (Start piece tag block)))) (owner_is owner o)

-- a label without an owner
bare_is : (l : Label) (owner : Option ℕ) (found : Option Label) → owner ≡ None → found ≡ Some l → option_map bare found ≡ Some (owned l owner)
bare_is l owner found none is = ap (option_map bare) is ∙ ap (λ x. Some (owned l x)) (sym none)

call_is : (form : Form) (number : ℕ) (q : ClientRequest) → Fits (Call number q) → label_by (codes "call") (words_behind_as form (Call number q) None) ≡ Some (Call number q)
call_is form number q h =
    let x = request_is form q h.1 in
    ap (option_and_then (λ n. option_and_then (λ p. option_map (λ bytes. Call n (with_bytes p bytes)) (bytes_at (behind_head (request_words_as form q)))) (head_at (request_words_as form q))))
    (number_is 64 number (omega arith) h.0)
    ∙ ap (option_and_then (λ p. option_map (λ bytes. Call number (with_bytes p bytes)) (bytes_at (behind_head (request_words_as form q))))) x.0
    ∙ ap (λ ws. option_map (λ bytes. Call number (with_bytes (head_of q) bytes)) (bytes_at ws)) x.1
    ∙ ap (option_map (λ bytes. Call number (with_bytes (head_of q) bytes))) (bytes_words_is form q.bytes h.1.bytes)

answer_is : (form : Form) (number : ℕ) (s : NtStatus) (information : ℕ) (bytes : List ℕ) → Fits (Answer number s information bytes)
    → label_by (codes "answer") (words_behind_as form (Answer number s information bytes) None) ≡ Some (Answer number s information bytes)
answer_is form number s information bytes h =
    ap (option_and_then (λ n. option_and_then (λ (o : NtStatus × ℕ). option_map (λ bs. Answer n o.0 o.1 bs) (bytes_at (bytes_words form bytes)))
    (option_and_then (λ x. option_map (λ i. (x, i)) (number_in 64 (decimal information))) (status_in (name_of s))))) (number_is 64 number (omega arith) h.0)
    ∙ ap (λ o. option_and_then (λ (o : NtStatus × ℕ). option_map (λ bs. Answer number o.0 o.1 bs) (bytes_at (bytes_words form bytes)))
    (option_and_then (λ x. option_map (λ i. (x, i)) (number_in 64 (decimal information))) o)) (status_is s)
    ∙ ap (λ o. option_and_then (λ (o : NtStatus × ℕ). option_map (λ bs. Answer number o.0 o.1 bs) (bytes_at (bytes_words form bytes)))
    (option_map (λ i. (s, i)) o)) (number_is 64 information (omega arith) h.1)
    ∙ ap (option_map (λ bs. Answer number s information bs)) (bytes_words_is form bytes h.2)

-- a line is read of its words
pub line_is : (form : Form) (l : Label) (owner : Option ℕ) → Fits l → OwnerFits l owner → line_by (verb_of l) (words_behind_as form l owner) ≡ Some (owned l owner)
line_is form (Device (Start piece tag block)) owner h o = owned_start_is piece tag block owner h o
line_is form (Call number q) owner h o = bare_is _ owner _ o (call_is form number q h)
line_is form (Device (Act piece bytes)) owner h o = bare_is _ owner _ o
    (ap (option_and_then (λ p. option_map (λ bs. Device (Act p bs)) (bytes_at (bytes_words form bytes)))) (number_is 128 piece (omega arith) h.0)
    ∙ ap (option_map (λ bs. Device (Act piece bs))) (bytes_words_is form bytes h.1))
line_is form (Device (Fault piece)) owner h o = bare_is _ owner _ o (ap (option_and_then (λ p. Some (Device (Fault p)))) (number_is 128 piece (omega arith) h))
line_is form (Device (Return piece class)) owner h o = bare_is _ owner _ o
    (ap (option_and_then (λ p. option_map (λ c. Device (Return p c)) (class_at (class_words class)))) (number_is 128 piece (omega arith) h.0)
    ∙ ap (option_map (λ c. Device (Return piece c))) (class_is class h.1))
line_is form (Answer number s information bytes) owner h o = bare_is _ owner _ o (answer_is form number s information bytes h)
line_is form (Cancel number) owner h o = bare_is _ owner _ o (ap (option_and_then (λ n. Some (Cancel n))) (number_is 64 number (omega arith) h))
line_is form Pause owner h o = bare_is _ owner _ o refl
line_is form Resume owner h o = bare_is _ owner _ o refl
line_is form Remove owner h o = bare_is _ owner _ o refl
line_is form Surprise owner h o = bare_is _ owner _ o refl
line_is form Removed owner h o = bare_is _ owner _ o refl
