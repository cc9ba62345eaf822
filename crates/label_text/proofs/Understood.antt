-- What is read of words is what is written of the label.
use Rattle.std.proofs.Common.{◌≡◌, ◌≤◌, ◌<◌, ◌^◌, ◌==◌, ◌&&◌, ◌++◌, ◌∙◌, ℕ, Bool, true, false, List, [], ◌∷◌, Option, None, Some, All, ap, arith, codes, cond, drop, length, nat_le, refl, slice_get, subst, sym}
use Rattle.std.specs.Fmt.{decimal}
use Rattle.std.specs.List.{join_with_byte}
use Rattle.std.specs.Str.{bytes_eq}
use Rattle.std.specs.Option.{option_and_then, option_map}
use Rattle.std.proofs.lemmas.Bool.Decides.{nat_tests}
use Rattle.std.proofs.lemmas.List.Splits.{join_with_byte-slice_split}
use Rattle.std.proofs.lemmas.List.Elements.{All-nil}
use Rattle.std.proofs.lemmas.Slice.Eq.{bytes_eq-Decides}
use Rattle.ntstatus.specs.declared.NtStatus.{NtStatus}
use Rattle.ntstatus.specs.declared.Sense.{Sense}
use Rattle.ntstatus.specs.Codes.{name_of}
use Rattle.srb.specs.declared.Class.{Class}
use Rattle.srb.specs.declared.Class.TheVariants.{Good, Busy, Bad}
use Rattle.srb.specs.declared.Completion.{Completion}
use Rattle.srb.specs.declared.DeviceLabel.TheVariants.{Start, Act, Fault, Return}
use Rattle.srb.specs.declared.Kind.{Kind}
use Rattle.srb.specs.declared.Kind.TheVariants.{Read, Write, Flush}
use Rattle.machine.specs.declared.Label.{Label}
use Rattle.machine.specs.declared.Label.TheVariants.{Call, Device, Answer, Cancel, Pause, Resume, Remove, Surprise, Removed}
use Rattle.trace_line.specs.declared.Line.{Line}
use Rattle.label_text.specs.Runs.{AreBytes, hex_bytes, hex_of}
use Rattle.label_text.specs.Lines.{BlockFits, ClassFits, Fits, Form, InRuns, OwnerFits, OwnerIsSmall, PartitionFits, SenseFits, Spells, Words, block_words, bytes_words, class_words, extent_words, kind_word, owned, owner_words, partition_word, sense_words, through_words, words_as}
use Rattle.label_text.specs.inside.Reading.{act_at, answer_at, at_end, bare, behind, behind_block, behind_extent, behind_head, behind_placed, behind_start, block_at, block_in, byte_at, byte_in, bytes_at, bytes_in, bytes_of, call_at, cancel_at, class_at, class_by, completion_at, extent_at, fault_at, flushed_at, head_at, in_partition_at, is_next, is_no_block, is_some_extent, kind_in, label_by, line_at, line_by, line_in, number_at, number_in, outcome_at, owned_start_at, owner_at, parted, partition_in, placed_at, return_at, sense_at, sense_behind, sense_from, short_block, short_by, start_at, status_in, tag_at, two_at, with_bytes}
use Rattle.label_text.specs.declared.reading.Head.{Head}
use Rattle.label_text.proofs.Digits.{hex_bytes_some, hex_some}
use Rattle.label_text.proofs.Found.{end_some, first_is, if_none, if_some, map_some, then_some_of}
use Rattle.label_text.proofs.Names.{status_some}
use Rattle.label_text.proofs.Numbers.{number_some}
use Rattle.label_text.proofs.Parting.{parts_again}
use Rattle.label_text.proofs.RunsRead.{byte_at_some, number_at_some}
use Rattle.label_text.proofs.WordsOfBytes.{as_words, word_some}
use Rattle.label_text.proofs.Written.{all_free, line_is}

-- two words are one
same_words : (v w : List ℕ) → bytes_eq v w ≡ true → v ≡ w
same_words v w e = (bytes_eq-Decides v w).0 e

-- by the word that stands first
pick_by : {A : Type 0} (v w : List ℕ) (t : Bool) (x rest : Option A) (y : A) (P : Type 0) → bytes_eq v w ≡ t → cond t x rest ≡ Some y → (v ≡ w → x ≡ Some y → P) → (rest ≡ Some y → P) → P
pick_by v w true x rest y P e h one other = one (same_words v w e) h
pick_by v w false x rest y P e h one other = other h

pick : {A : Type 0} (v w : List ℕ) (x rest : Option A) (y : A) (P : Type 0) → cond (bytes_eq v w) x rest ≡ Some y → (v ≡ w → x ≡ Some y → P) → (rest ≡ Some y → P) → P
pick v w x rest y P h one other = pick_by v w (bytes_eq v w) x rest y P refl h one other

-- the next word is this one
next_by : (word : List ℕ) (words : Words) (o : Option (List ℕ)) → slice_get words 0 ≡ o → elim o [ Some first ↦ bytes_eq first word | None ↦ false ] ≡ true → words ≡ word ∷ drop 1 words
next_by word words None e h = absurd (cc (h))
next_by word words (Some first) e h = first_is words first e ∙ ap (λ w. w ∷ drop 1 words) (same_words first word h)

next_is : (word : List ℕ) (words : Words) → is_next word words ≡ true → words ≡ word ∷ drop 1 words
next_is word words h = next_by word words (slice_get words 0) refl h

-- BYTES

-- words were read as bytes
record AreRead (words : Words) (bytes : List ℕ) : Type 0 where
  form : Form
  is : words ≡ bytes_words form bytes
  are : AreBytes bytes

bytes_by : (words : Words) (o : Option (List ℕ)) (bytes : List ℕ) → slice_get words 0 ≡ o
    → elim o [ Some word ↦ at_end (drop 1 words) (bytes_of word) | None ↦ Some [] ] ≡ Some bytes → AreRead words bytes
bytes_by [] None bytes e h =
    let none : [] ≡ bytes = cc (h) in subst (AreRead []) none (record { form = InRuns; is = refl; are = record { most = omega arith; each = All-nil _ } })
bytes_by (w ∷ ws) None bytes e h = absurd (cc (e))
bytes_by words (Some word) [] e h =
    let last = end_some (drop 1 words) (bytes_of word) [] h in
    let is = word_some word [] last.1 in
    absurd (omega (arith, is.some))
bytes_by words (Some word) (b ∷ bs) e h =
    let last = end_some (drop 1 words) (bytes_of word) (b ∷ bs) h in
    let is = word_some word (b ∷ bs) last.1 in
    record { form = is.form; is = first_is words word e ∙ (λ i. is.is i ∷ last.0 i) ∙ as_words is.form b bs; are = is.are }

bytes_some : (words : Words) (bytes : List ℕ) → bytes_at words ≡ Some bytes → AreRead words bytes
bytes_some words bytes h = bytes_by words (slice_get words 0) bytes refl h

-- COMMAND BLOCKS

short_some : (bytes block : List ℕ) → short_block bytes ≡ Some block → (bytes ≡ block) × (length block ≤ 16)
short_some bytes block h =
    let is = if_some (nat_le (length bytes) 16) (Some bytes) block h in
    let same : bytes ≡ block = cc (is.1) in
    let short : length bytes ≤ 16 = grind (arith, nat_tests, is.0) in
    (same, subst (λ b. length b ≤ 16) same short)

block_some : (word block : List ℕ) → block_in word ≡ Some block → (word ≡ hex_bytes block) × BlockFits block × (0 < length word)
block_some word block h =
    let some = if_none (length word == 0) (option_and_then short_block (bytes_in word)) block h in
    let bytes = then_some_of short_block (bytes_in word) block some.1 in
    let short = short_some bytes.0 block bytes.2 in
    let is = hex_bytes_some word bytes.0 bytes.1 in
    (is.0 ∙ ap hex_bytes short.0, (short.1, subst (All (λ b. b < 2 ^ 8)) short.0 is.1), grind (arith, nat_tests, some.0))

block_word_some : (words : Words) (block : List ℕ) → option_and_then block_in (slice_get words 0) ≡ Some block → (words ≡ block_words block ++ drop 1 words) × BlockFits block
block_word_some words [] h =
    let w = then_some_of block_in (slice_get words 0) [] h in
    let is = block_some w.0 [] w.2 in
    let none : 0 < length (hex_bytes []) = subst (λ w. 0 < length w) is.0 is.2 in
    absurd (omega arith)
block_word_some words (b ∷ bs) h =
    let w = then_some_of block_in (slice_get words 0) (b ∷ bs) h in
    let is = block_some w.0 (b ∷ bs) w.2 in
    (first_is words w.0 w.1 ∙ ap (λ word. word ∷ drop 1 words) is.0, is.1)

block_by : (words : Words) (t : Bool) (block : List ℕ) → cond t (Some []) (option_and_then block_in (slice_get words 0)) ≡ Some block
    → (words ≡ block_words block ++ cond t words (drop 1 words)) × BlockFits block
block_by words true block h =
    let none : [] ≡ block = cc (h) in subst (λ bs. (words ≡ block_words bs ++ words) × BlockFits bs) none (refl, (omega arith, All-nil _))
block_by words false block h = block_word_some words block h

block_at_some : (words : Words) (block : List ℕ) → block_at words ≡ Some block → (words ≡ block_words block ++ behind_block words) × BlockFits block
block_at_some words block h = block_by words (is_no_block words) block h

owner_by : (words : Words) (t : Bool) (owner : Option ℕ) → is_next (codes "of") words ≡ t
    → cond t (option_and_then (λ n. at_end (drop 1 (drop 1 words)) (Some (Some n))) (number_at 64 (drop 1 words))) (at_end words (Some None)) ≡ Some owner
    → (words ≡ owner_words owner) × OwnerIsSmall owner
owner_by words true owner e h =
    let n = then_some_of (λ n. at_end (drop 1 (drop 1 words)) (Some (Some n))) (number_at 64 (drop 1 words)) owner h in
    let last = end_some (drop 1 (drop 1 words)) (Some (Some n.0)) owner n.2 in
    let number = number_at_some 64 (drop 1 words) n.0 n.1 in
    let same : Some n.0 ≡ owner = cc (last.1) in
    subst (λ o. (words ≡ owner_words o) × OwnerIsSmall o) same
    (next_is (codes "of") words e ∙ ap (λ more. codes "of" ∷ more) (number.0 ∙ ap (λ more. decimal n.0 ∷ more) last.0), number.1)
owner_by words false owner e h =
    let last = end_some words (Some None) owner h in
    let same : None ≡ owner = cc (last.1) in
    subst (λ o. (words ≡ owner_words o) × OwnerIsSmall o) same (last.0, tt)

owner_some : (words : Words) (owner : Option ℕ) → owner_at words ≡ Some owner → (words ≡ owner_words owner) × OwnerIsSmall owner
owner_some words owner h = owner_by words (is_next (codes "of") words) owner refl h

-- REQUESTS

kind_some : (word : List ℕ) (kind : Kind) → kind_in word ≡ Some kind → word ≡ kind_word kind
kind_some word kind h =
    pick word (codes "read") (Some Read) _ kind (word ≡ kind_word kind) h (λ e is. let same : Read ≡ kind = cc (is) in e ∙ ap kind_word same)
    (λ h. pick word (codes "write") (Some Write) _ kind (word ≡ kind_word kind) h (λ e is. let same : Write ≡ kind = cc (is) in e ∙ ap kind_word same)
    (λ h. pick word (codes "flush") (Some Flush) _ kind (word ≡ kind_word kind) h (λ e is. let same : Flush ≡ kind = cc (is) in e ∙ ap kind_word same)
    (λ h. absurd (cc (h)))))

two_some : (words : Words) (extent : ℕ × ℕ) → two_at words ≡ Some extent
    → (words ≡ decimal extent.0 ∷ decimal extent.1 ∷ drop 1 (drop 1 words)) × (extent.0 < 2 ^ 64) × (extent.1 < 2 ^ 64)
two_some words extent h =
    let o = then_some_of (λ offset. option_map (λ bytes. (offset, bytes)) (number_at 64 (drop 1 words))) (number_at 64 words) extent h in
    let l = map_some (λ bytes. (o.0, bytes)) (number_at 64 (drop 1 words)) extent o.2 in
    let first = number_at_some 64 words o.0 o.1 in
    let second = number_at_some 64 (drop 1 words) l.0 l.1 in
    subst (λ (x : ℕ × ℕ). (words ≡ decimal x.0 ∷ decimal x.1 ∷ drop 1 (drop 1 words)) × (x.0 < 2 ^ 64) × (x.1 < 2 ^ 64)) l.2
    (first.0 ∙ ap (λ more. decimal o.0 ∷ more) second.0, first.1, second.1)

-- what an extent was read of
record IsExtent (kind : Kind) (words : Words) (extent : ℕ × ℕ) : Type 0 where
  is : words ≡ extent_words kind extent.0 extent.1 ++ behind_extent kind words
  offset : extent.0 < 2 ^ 64
  bytes_long : extent.1 < 2 ^ 64

flush_by : (words : Words) (extent : ℕ × ℕ) (t : Bool) → is_next (codes "at") words ≡ t → cond t (flushed_at (drop 1 words)) (Some (0, 0)) ≡ Some extent
    → (words ≡ extent_words Flush extent.0 extent.1 ++ cond t (drop 1 (drop 1 (drop 1 words))) words) × (extent.0 < 2 ^ 64) × (extent.1 < 2 ^ 64)
flush_by words extent true e h =
    let x = then_some_of (λ (y : ℕ × ℕ). cond (is_some_extent y) (Some y) None) (two_at (drop 1 words)) extent h in
    let some = if_some (is_some_extent x.0) (Some x.0) extent x.2 in
    let same : x.0 ≡ extent = cc (some.1) in
    let two = two_some (drop 1 words) x.0 x.1 in
    let bare : ((x.0.0 == 0) && (x.0.1 == 0)) ≡ false = grind (arith, nat_tests, some.0) in
    subst (λ (y : ℕ × ℕ). (words ≡ extent_words Flush y.0 y.1 ++ drop 1 (drop 1 (drop 1 words))) × (y.0 < 2 ^ 64) × (y.1 < 2 ^ 64)) same (
      next_is (codes "at") words e ∙ ap (λ more. codes "at" ∷ more) two.0
          ∙ ap (λ b. cond b [] (codes "at" ∷ decimal x.0.0 ∷ decimal x.0.1 ∷ []) ++ drop 1 (drop 1 (drop 1 words))) (sym bare),
      two.1,
      two.2,
    )
flush_by words extent false e h =
    let same : (0, 0) ≡ extent = cc (h) in
    subst (λ (y : ℕ × ℕ). (words ≡ extent_words Flush y.0 y.1 ++ words) × (y.0 < 2 ^ 64) × (y.1 < 2 ^ 64)) same (refl, omega arith, omega arith)

extent_some : (kind : Kind) (words : Words) (extent : ℕ × ℕ) → extent_at kind words ≡ Some extent → IsExtent kind words extent
extent_some Read words extent h = let two = two_some words extent h in record { is = two.0; offset = two.1; bytes_long = two.2 }
extent_some Write words extent h = let two = two_some words extent h in record { is = two.0; offset = two.1; bytes_long = two.2 }
extent_some Flush words extent h =
    let two = flush_by words extent (is_next (codes "at") words) refl h in record { is = two.0; offset = two.1; bytes_long = two.2 }

partition_some : (word : List ℕ) (partition : Option ℕ) → partition_in word ≡ Some partition → (word ≡ partition_word partition) × PartitionFits partition
partition_some word partition h =
    pick word (codes "-") (Some None) (option_map (λ p. Some p) (number_in 8 word)) partition ((word ≡ partition_word partition) × PartitionFits partition) h
    (λ e is. let same : None ≡ partition = cc (is) in subst (λ p. (word ≡ partition_word p) × PartitionFits p) same (e, tt))
    (λ is. let n = map_some (λ p. Some p) (number_in 8 word) partition is in
    let number = number_some 8 n.0 word n.1 in
    subst (λ p. (word ≡ partition_word p) × PartitionFits p) n.2 number)

in_partition_some : (words : Words) (partition : Option ℕ) → in_partition_at words ≡ Some partition
    → (words ≡ codes "in" ∷ partition_word partition ∷ drop 1 (drop 1 words)) × PartitionFits partition
in_partition_some words partition h =
    let next = if_some (is_next (codes "in") words) (option_and_then partition_in (slice_get (drop 1 words) 0)) partition h in
    let w = then_some_of partition_in (slice_get (drop 1 words) 0) partition next.1 in
    let is = partition_some w.0 partition w.2 in (
      next_is (codes "in") words next.0 ∙ ap (λ more. codes "in" ∷ more) (first_is (drop 1 words) w.0 w.1 ∙ ap (λ word. word ∷ drop 1 (drop 1 words)) is.0),
      is.1,
    )

through_by : (words : Words) (t : Bool) → is_next (codes "through") words ≡ t → words ≡ through_words t ++ cond t (drop 1 words) words
through_by words true e = next_is (codes "through") words e
through_by words false e = refl

through_some : (words : Words) → words ≡ through_words (is_next (codes "through") words) ++ behind (codes "through") words
through_some words = through_by words (is_next (codes "through") words) refl

-- what a request without its bytes was read of
record IsHead (words rest : Words) (h : Head) : Type 0 where
  is : words ≡ kind_word h.kind ∷ (extent_words h.kind h.offset h.length ++ (through_words h.through ++ (codes "in" ∷ partition_word h.partition ∷ rest)))
  offset : h.offset < 2 ^ 64
  bytes_long : h.length < 2 ^ 64
  partition : PartitionFits h.partition

abbrev headed : Kind → Bool → ℕ × ℕ → Option ℕ → Head
headed kind through extent partition = record { partition = partition; kind = kind; offset = extent.0; length = extent.1; through = through }

placed_some : (kind : Kind) (word : List ℕ) (words : Words) (h : Head) → word ≡ kind_word kind → placed_at kind words ≡ Some h → IsHead (word ∷ words) (behind_placed kind words) h
placed_some kind word words h first p =
    let after = behind_extent kind words in
    let t = is_next (codes "through") after in
    let x = then_some_of (λ (e : ℕ × ℕ). option_map (λ n. headed kind t e n) (in_partition_at (behind (codes "through") after))) (extent_at kind words) h p in
    let n = map_some (λ n. headed kind t x.0 n) (in_partition_at (behind (codes "through") after)) h x.2 in
    let extent = extent_some kind words x.0 x.1 in
    let place = in_partition_some (behind (codes "through") after) n.0 n.1 in
    subst (IsHead (word ∷ words) (behind_placed kind words)) n.2 (record {
      is =
          ap (λ w. w ∷ words) first
          ∙ ap (λ more. kind_word kind ∷ more) (extent.is ∙ ap (λ more. extent_words kind x.0.0 x.0.1 ++ more) (through_some after ∙ ap (λ more. through_words t ++ more) place.0));
      offset = extent.offset;
      bytes_long = extent.bytes_long;
      partition = place.1;
    })

behind_head_by : (words : Words) (o : Option Kind) (kind : Kind) → o ≡ Some kind → elim o [ Some k ↦ behind_placed k (drop 1 words) | None ↦ [] ] ≡ behind_placed kind (drop 1 words)
behind_head_by words o kind e = ap (λ x. elim x [ Some k ↦ behind_placed k (drop 1 words) | None ↦ [] ]) e

head_some : (words : Words) (h : Head) → head_at words ≡ Some h → IsHead words (behind_head words) h
head_some words h p =
    let k = then_some_of (λ kind. placed_at kind (drop 1 words)) (option_and_then kind_in (slice_get words 0)) h p in
    let w = then_some_of kind_in (slice_get words 0) k.0 k.1 in
    let is = placed_some k.0 w.0 (drop 1 words) h (kind_some w.0 k.0 w.2) k.2 in
    subst (λ ws. IsHead ws (behind_head words) h) (sym (first_is words w.0 w.1))
    (subst (λ rest. IsHead (w.0 ∷ drop 1 words) rest h) (sym (behind_head_by words (option_and_then kind_in (slice_get words 0)) k.0 k.1)) is)

-- LABELS

-- words are what is written of a label without an owner, behind its verb
record Tells (verb : List ℕ) (words : Words) (l : Label) : Type 0 where
  form : Form
  is : verb ∷ words ≡ words_as form (bare l)
  fits : Fits l
  has_none : OwnerFits l None

call_some : (words : Words) (l : Label) → call_at words ≡ Some l → Tells (codes "call") words l
call_some words l p =
    let n = then_some_of (λ number. option_and_then (λ h. option_map (λ bytes. Call number (with_bytes h bytes)) (bytes_at (behind_head (drop 1 words)))) (head_at (drop 1 words))) (number_at 64 words) l p in
    let h = then_some_of (λ h. option_map (λ bytes. Call n.0 (with_bytes h bytes)) (bytes_at (behind_head (drop 1 words)))) (head_at (drop 1 words)) l n.2 in
    let b = map_some (λ bytes. Call n.0 (with_bytes h.0 bytes)) (bytes_at (behind_head (drop 1 words))) l h.2 in
    let number = number_at_some 64 words n.0 n.1 in
    let head = head_some (drop 1 words) h.0 h.1 in
    let bytes = bytes_some (behind_head (drop 1 words)) b.0 b.1 in
    subst (Tells (codes "call") words) b.2 (record {
      form = bytes.form;
      is =
          ap (λ more. codes "call" ∷ more)
          (number.0 ∙ ap (λ more. decimal n.0 ∷ more) (head.is
          ∙ ap (λ rest. kind_word h.0.kind ∷ (extent_words h.0.kind h.0.offset h.0.length ++ (through_words h.0.through ++ (codes "in" ∷ partition_word h.0.partition ∷ rest)))) bytes.is));
      fits = (number.1, record { offset = head.offset; bytes_long = head.bytes_long; partition = head.partition; bytes = bytes.are });
      has_none = refl;
    })

act_some : (words : Words) (l : Label) → act_at words ≡ Some l → Tells (codes "act") words l
act_some words l p =
    let n = then_some_of (λ piece. option_map (λ bytes. Device (Act piece bytes)) (bytes_at (drop 1 words))) (number_at 128 words) l p in
    let b = map_some (λ bytes. Device (Act n.0 bytes)) (bytes_at (drop 1 words)) l n.2 in
    let piece = number_at_some 128 words n.0 n.1 in
    let bytes = bytes_some (drop 1 words) b.0 b.1 in
    subst (Tells (codes "act") words) b.2 (record {
      form = bytes.form;
      is = ap (λ more. codes "act" ∷ more) (piece.0 ∙ ap (λ more. decimal n.0 ∷ more) bytes.is);
      fits = (piece.1, bytes.are);
      has_none = refl;
    })

tag_some : (words : Words) (tag : ℕ) → tag_at words ≡ Some tag → (words ≡ codes "tag" ∷ decimal tag ∷ drop 1 (drop 1 words)) × (tag < 2 ^ 8)
tag_some words tag h =
    let next = if_some (is_next (codes "tag") words) (number_at 8 (drop 1 words)) tag h in
    let number = number_at_some 8 (drop 1 words) tag next.1 in
    (next_is (codes "tag") words next.0 ∙ ap (λ more. codes "tag" ∷ more) number.0, number.1)

-- words are what is written of a line behind its verb
record TellsLine (verb : List ℕ) (words : Words) (line : Line) : Type 0 where
  form : Form
  is : verb ∷ words ≡ words_as form line
  fits : Fits line.label
  owner_fits : OwnerFits line.label line.owner

start_some : (words : Words) (l : Label) (owner : Option ℕ) → start_at words ≡ Some l → behind_start words ≡ owner_words owner → OwnerIsSmall owner
    → TellsLine (codes "start") words (owned l owner)
start_some words l owner p rest small =
    let n = then_some_of (λ piece. option_and_then (λ tag. option_map (λ block. Device (Start piece tag block)) (block_at (drop 1 (drop 1 (drop 1 words))))) (tag_at (drop 1 words))) (number_at 128 words) l p in
    let t = then_some_of (λ tag. option_map (λ block. Device (Start n.0 tag block)) (block_at (drop 1 (drop 1 (drop 1 words))))) (tag_at (drop 1 words)) l n.2 in
    let b = map_some (λ block. Device (Start n.0 t.0 block)) (block_at (drop 1 (drop 1 (drop 1 words)))) l t.2 in
    let piece = number_at_some 128 words n.0 n.1 in
    let tag = tag_some (drop 1 words) t.0 t.1 in
    let block = block_at_some (drop 1 (drop 1 (drop 1 words))) b.0 b.1 in
    subst (λ x. TellsLine (codes "start") words (owned x owner)) b.2 (record {
      form = InRuns;
      is =
          ap (λ more. codes "start" ∷ more)
          (piece.0 ∙ ap (λ more. decimal n.0 ∷ more) (tag.0 ∙ ap (λ more. codes "tag" ∷ decimal t.0 ∷ more) (block.0 ∙ ap (λ more. block_words b.0 ++ more) rest)));
      fits = (piece.1, tag.1, block.1);
      owner_fits = small;
    })

owned_start_some : (words : Words) (line : Line) → owned_start_at words ≡ Some line → TellsLine (codes "start") words line
owned_start_some words line h =
    let l = then_some_of (λ label. option_map (owned label) (owner_at (behind_start words))) (start_at words) line h in
    let o = map_some (owned l.0) (owner_at (behind_start words)) line l.2 in
    let owner = owner_some (behind_start words) o.0 o.1 in
    subst (TellsLine (codes "start") words) o.2 (start_some words l.0 o.0 l.1 owner.0 owner.1)

fault_some : (words : Words) (l : Label) → fault_at words ≡ Some l → Tells (codes "fault") words l
fault_some words l p =
    let n = then_some_of (λ piece. at_end (drop 1 words) (Some (Device (Fault piece)))) (number_at 128 words) l p in
    let last = end_some (drop 1 words) (Some (Device (Fault n.0))) l n.2 in
    let piece = number_at_some 128 words n.0 n.1 in
    let same : Device (Fault n.0) ≡ l = cc (last.1) in
    subst (Tells (codes "fault") words) same (record {
      form = InRuns;
      is = ap (λ more. codes "fault" ∷ more) (piece.0 ∙ ap (λ more. decimal n.0 ∷ more) last.0);
      fits = piece.1;
      has_none = refl;
    })

cancel_some : (words : Words) (l : Label) → cancel_at words ≡ Some l → Tells (codes "cancel") words l
cancel_some words l p =
    let n = then_some_of (λ number. at_end (drop 1 words) (Some (Cancel number))) (number_at 64 words) l p in
    let last = end_some (drop 1 words) (Some (Cancel n.0)) l n.2 in
    let number = number_at_some 64 words n.0 n.1 in
    let same : Cancel n.0 ≡ l = cc (last.1) in
    subst (Tells (codes "cancel") words) same (record {
      form = InRuns;
      is = ap (λ more. codes "cancel" ∷ more) (number.0 ∙ ap (λ more. decimal n.0 ∷ more) last.0);
      fits = number.1;
      has_none = refl;
    })

sense_behind_some : (key : ℕ) (words : Words) (s : Sense) → sense_behind key words ≡ Some s
    → (words ≡ hex_of s.asc ∷ hex_of s.ascq ∷ []) × (s.key ≡ key) × (s.asc < 2 ^ 8) × (s.ascq < 2 ^ 8)
sense_behind_some key words s h =
    let a = then_some_of (λ asc. option_and_then (λ ascq. at_end (drop 1 (drop 1 words)) (Some (record { key = key; asc = asc; ascq = ascq }))) (byte_at (drop 1 words))) (byte_at words) s h in
    let q = then_some_of (λ ascq. at_end (drop 1 (drop 1 words)) (Some (record { key = key; asc = a.0; ascq = ascq }))) (byte_at (drop 1 words)) s a.2 in
    let last = end_some (drop 1 (drop 1 words)) (Some (record { key = key; asc = a.0; ascq = q.0 })) s q.2 in
    let asc = byte_at_some words a.0 a.1 in
    let ascq = byte_at_some (drop 1 words) q.0 q.1 in
    let same : record { key = key; asc = a.0; ascq = q.0 } ≡ s = cc (last.1) in
    subst (λ (x : Sense). (words ≡ hex_of x.asc ∷ hex_of x.ascq ∷ []) × (x.key ≡ key) × (x.asc < 2 ^ 8) × (x.ascq < 2 ^ 8)) same
    (asc.0 ∙ ap (λ more. hex_of a.0 ∷ more) (ascq.0 ∙ ap (λ more. hex_of q.0 ∷ more) last.0), refl, asc.1, ascq.1)

sense_from_some : (word : List ℕ) (words : Words) (sense : Option Sense) → sense_from word words ≡ Some sense → (word ∷ words ≡ sense_words sense) × SenseFits sense
sense_from_some word words sense h =
    let k = then_some_of (λ key. option_map (λ x. Some x) (sense_behind key words)) (byte_in word) sense h in
    let s = map_some (λ x. Some x) (sense_behind k.0 words) sense k.2 in
    let key = hex_some word k.0 k.1 in
    let rest = sense_behind_some k.0 words s.0 s.1 in
    subst (λ o. (word ∷ words ≡ sense_words o) × SenseFits o) s.2
    ((λ i. (key.0 ∙ ap hex_of (sym rest.1)) i ∷ rest.0 i), (subst (λ n. n < 2 ^ 8) (sym rest.1) key.1, rest.2, rest.3))

sense_by : (words : Words) (o : Option (List ℕ)) (sense : Option Sense) → slice_get words 0 ≡ o
    → elim o [ Some word ↦ sense_from word (drop 1 words) | None ↦ Some None ] ≡ Some sense → (words ≡ sense_words sense) × SenseFits sense
sense_by [] None sense e h = let none : None ≡ sense = cc (h) in subst (λ o. ([] ≡ sense_words o) × SenseFits o) none (refl, tt)
sense_by (w ∷ ws) None sense e h = absurd (cc (e))
sense_by words (Some word) sense e h = let is = sense_from_some word (drop 1 words) sense h in (first_is words word e ∙ is.0, is.1)

completion_some : (words : Words) (c : Completion) → completion_at words ≡ Some c
    → (words ≡ hex_of c.srb_status ∷ hex_of c.scsi_status ∷ sense_words c.sense) × (c.srb_status < 2 ^ 8) × (c.scsi_status < 2 ^ 8) × SenseFits c.sense
completion_some words c h =
    let a = then_some_of (λ srb. option_and_then (λ scsi. option_map (λ sense. record { srb_status = srb; scsi_status = scsi; sense = sense }) (sense_at (drop 1 (drop 1 words)))) (byte_at (drop 1 words))) (byte_at words) c h in
    let b = then_some_of (λ scsi. option_map (λ sense. record { srb_status = a.0; scsi_status = scsi; sense = sense }) (sense_at (drop 1 (drop 1 words)))) (byte_at (drop 1 words)) c a.2 in
    let s = map_some (λ sense. record { srb_status = a.0; scsi_status = b.0; sense = sense }) (sense_at (drop 1 (drop 1 words))) c b.2 in
    let srb = byte_at_some words a.0 a.1 in
    let scsi = byte_at_some (drop 1 words) b.0 b.1 in
    let sense = sense_by (drop 1 (drop 1 words)) (slice_get (drop 1 (drop 1 words)) 0) s.0 refl s.1 in
    subst (λ (x : Completion). (words ≡ hex_of x.srb_status ∷ hex_of x.scsi_status ∷ sense_words x.sense) × (x.srb_status < 2 ^ 8) × (x.scsi_status < 2 ^ 8) × SenseFits x.sense) s.2
    (srb.0 ∙ ap (λ more. hex_of a.0 ∷ more) (scsi.0 ∙ ap (λ more. hex_of b.0 ∷ more) sense.0), srb.1, scsi.1, sense.1)

class_some : (word : List ℕ) (words : Words) (class : Class) → class_by word words ≡ Some class → (word ∷ words ≡ class_words class) × ClassFits class
class_some word words class h =
    let P : Type 0 = (word ∷ words ≡ class_words class) × ClassFits class in
    pick word (codes "good") (at_end words (Some Good)) _ class P h
    (λ e x. let last = end_some words (Some Good) class x in
    let same : Good ≡ class = cc (last.1) in subst (λ c. (word ∷ words ≡ class_words c) × ClassFits c) same ((λ i. e i ∷ last.0 i), tt))
    (λ h. pick word (codes "busy") (at_end words (Some Busy)) _ class P h
    (λ e x. let last = end_some words (Some Busy) class x in
    let same : Busy ≡ class = cc (last.1) in subst (λ c. (word ∷ words ≡ class_words c) × ClassFits c) same ((λ i. e i ∷ last.0 i), tt))
    (λ h. pick word (codes "bad") (option_map (λ c. Bad c) (completion_at words)) None class P h
    (λ e x. let c = map_some (λ c. Bad c) (completion_at words) class x in
    let is = completion_some words c.0 c.1 in
    subst (λ y. (word ∷ words ≡ class_words y) × ClassFits y) c.2 ((λ i. e i ∷ is.0 i), (is.1, is.2, is.3)))
    (λ h. absurd (cc (h)))))

return_some : (words : Words) (l : Label) → return_at words ≡ Some l → Tells (codes "return") words l
return_some words l p =
    let n = then_some_of (λ piece. option_map (λ class. Device (Return piece class)) (class_at (drop 1 words))) (number_at 128 words) l p in
    let c = map_some (λ class. Device (Return n.0 class)) (class_at (drop 1 words)) l n.2 in
    let w = then_some_of (λ word. class_by word (drop 1 (drop 1 words))) (slice_get (drop 1 words) 0) c.0 c.1 in
    let piece = number_at_some 128 words n.0 n.1 in
    let class = class_some w.0 (drop 1 (drop 1 words)) c.0 w.2 in
    subst (Tells (codes "return") words) c.2 (record {
      form = InRuns;
      is = ap (λ more. codes "return" ∷ more) (piece.0 ∙ ap (λ more. decimal n.0 ∷ more) (first_is (drop 1 words) w.0 w.1 ∙ class.0));
      fits = (piece.1, class.1);
      has_none = refl;
    })

outcome_some : (words : Words) (o : NtStatus × ℕ) → outcome_at words ≡ Some o → (words ≡ name_of o.0 ∷ decimal o.1 ∷ drop 1 (drop 1 words)) × (o.1 < 2 ^ 64)
outcome_some words o h =
    let s = then_some_of (λ x. option_map (λ information. (x, information)) (number_at 64 (drop 1 words))) (option_and_then status_in (slice_get words 0)) o h in
    let w = then_some_of status_in (slice_get words 0) s.0 s.1 in
    let n = map_some (λ information. (s.0, information)) (number_at 64 (drop 1 words)) o s.2 in
    let number = number_at_some 64 (drop 1 words) n.0 n.1 in
    subst (λ (x : NtStatus × ℕ). (words ≡ name_of x.0 ∷ decimal x.1 ∷ drop 1 (drop 1 words)) × (x.1 < 2 ^ 64)) n.2
    (first_is words w.0 w.1 ∙ (λ i. status_some w.0 s.0 w.2 i ∷ number.0 i), number.1)

answer_some : (words : Words) (l : Label) → answer_at words ≡ Some l → Tells (codes "answer") words l
answer_some words l p =
    let n = then_some_of (λ number. option_and_then (λ (o : NtStatus × ℕ). option_map (λ bytes. Answer number o.0 o.1 bytes) (bytes_at (drop 1 (drop 1 (drop 1 words))))) (outcome_at (drop 1 words))) (number_at 64 words) l p in
    let o = then_some_of (λ (o : NtStatus × ℕ). option_map (λ bytes. Answer n.0 o.0 o.1 bytes) (bytes_at (drop 1 (drop 1 (drop 1 words))))) (outcome_at (drop 1 words)) l n.2 in
    let b = map_some (λ bytes. Answer n.0 o.0.0 o.0.1 bytes) (bytes_at (drop 1 (drop 1 (drop 1 words)))) l o.2 in
    let number = number_at_some 64 words n.0 n.1 in
    let outcome = outcome_some (drop 1 words) o.0 o.1 in
    let bytes = bytes_some (drop 1 (drop 1 (drop 1 words))) b.0 b.1 in
    subst (Tells (codes "answer") words) b.2 (record {
      form = bytes.form;
      is = ap (λ more. codes "answer" ∷ more) (number.0 ∙ ap (λ more. decimal n.0 ∷ more) (outcome.0 ∙ ap (λ more. name_of o.0.0 ∷ decimal o.0.1 ∷ more) bytes.is));
      fits = (number.1, outcome.1, bytes.are);
      has_none = refl;
    })

alone_some : (verb : List ℕ) (words : Words) (one l : Label) → at_end words (Some one) ≡ Some l → verb ∷ [] ≡ words_as InRuns (bare one) → Fits one → OwnerFits one None → Tells verb words l
alone_some verb words one l h is fits has_none =
    let last = end_some words (Some one) l h in
    let same : one ≡ l = cc (last.1) in
    subst (Tells verb words) same (record { form = InRuns; is = ap (λ more. verb ∷ more) last.0 ∙ is; fits = fits; has_none = has_none })

named_so : (v w : List ℕ) (words : Words) (l : Label) → v ≡ w → Tells w words l → Tells v words l
named_so v w words l e h = subst (λ x. Tells x words l) (sym e) h

short_some_label : (verb : List ℕ) (words : Words) (l : Label) → short_by verb words ≡ Some l → Tells verb words l
short_some_label verb words l h =
    let P : Type 0 = Tells verb words l in
    pick verb (codes "fault") (fault_at words) _ l P h (λ e x. named_so verb _ words l e (fault_some words l x))
    (λ h. pick verb (codes "return") (return_at words) _ l P h (λ e x. named_so verb _ words l e (return_some words l x))
    (λ h. pick verb (codes "cancel") (cancel_at words) _ l P h (λ e x. named_so verb _ words l e (cancel_some words l x))
    (λ h. pick verb (codes "pause") (at_end words (Some Pause)) _ l P h (λ e x. named_so verb _ words l e (alone_some _ words Pause l x refl tt refl))
    (λ h. pick verb (codes "resume") (at_end words (Some Resume)) _ l P h (λ e x. named_so verb _ words l e (alone_some _ words Resume l x refl tt refl))
    (λ h. pick verb (codes "remove") (at_end words (Some Remove)) _ l P h (λ e x. named_so verb _ words l e (alone_some _ words Remove l x refl tt refl))
    (λ h. pick verb (codes "surprise") (at_end words (Some Surprise)) _ l P h (λ e x. named_so verb _ words l e (alone_some _ words Surprise l x refl tt refl))
    (λ h. pick verb (codes "removed") (at_end words (Some Removed)) None l P h (λ e x. named_so verb _ words l e (alone_some _ words Removed l x refl tt refl))
    (λ h. absurd (cc (h))))))))))

label_some : (verb : List ℕ) (words : Words) (l : Label) → label_by verb words ≡ Some l → Tells verb words l
label_some verb words l h =
    let P : Type 0 = Tells verb words l in
    pick verb (codes "call") (call_at words) _ l P h (λ e x. named_so verb _ words l e (call_some words l x))
    (λ h. pick verb (codes "act") (act_at words) _ l P h (λ e x. named_so verb _ words l e (act_some words l x))
    (λ h. pick verb (codes "answer") (answer_at words) _ l P h (λ e x. named_so verb _ words l e (answer_some words l x))
    (λ h. short_some_label verb words l h)))

-- LINES

line_some : (verb : List ℕ) (words : Words) (line : Line) → line_by verb words ≡ Some line → TellsLine verb words line
line_some verb words line h =
    pick verb (codes "start") (owned_start_at words) (option_map bare (label_by verb words)) line (TellsLine verb words line) h
    (λ e is. subst (λ v. TellsLine v words line) (sym e) (owned_start_some words line is))
    (λ is. let l = map_some bare (label_by verb words) line is in
    let label = label_some verb words l.0 l.1 in
    subst (TellsLine verb words) l.2 (record { form = label.form; is = label.is; fits = label.fits; owner_fits = label.has_none }))

-- what is read of a text spells it
pub read_spells : (text : List ℕ) (line : Line) → line_in text ≡ Some line → Spells text line
read_spells text line h =
    let words = parted 32 text in
    let v = then_some_of (λ verb. line_by verb (drop 1 words)) (slice_get words 0) line h in
    let is = line_some v.0 (drop 1 words) line v.2 in record {
      form = is.form;
      is = sym (join_with_byte-slice_split 32 text) ∙ ap (join_with_byte 32) (first_is words v.0 v.1 ∙ is.is);
      fits = is.fits;
      owner_fits = is.owner_fits;
    }

-- and a text that spells a line is read as it
pub spelled_is_read : (text : List ℕ) (line : Line) → Spells text line → line_in text ≡ Some line
spelled_is_read text line h =
    ap line_in h.is ∙ ap line_at (parts_again 32 (words_as h.form line) (omega arith) (all_free h.form line h.fits h.owner_fits)) ∙ line_is h.form line.label line.owner h.fits h.owner_fits

pub only_one : (text : List ℕ) (line other : Line) → line_in text ≡ Some line → Spells text other → other ≡ line
only_one text line other h is = let again : line_in text ≡ Some other = spelled_is_read text other is in cc (h, again)

pub none_spelled : (text : List ℕ) → line_in text ≡ None → (line : Line) → ¬ (Spells text line)
none_spelled text h line is = let again : line_in text ≡ Some line = spelled_is_read text line is in absurd (cc (h, again))
