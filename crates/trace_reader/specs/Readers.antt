-- How the lines of a trace are read before they are judged.
use Rattle.std.specs.Prelude.{◌≡◌, ℕ, ◌++◌, Bool, true, false, List, [], ◌∷◌, Option, Some, None, codes, if◌then◌else◌}
use Rattle.std.specs.Fmt.{decimal}
use Rattle.std.specs.Option.{option_map}
use Rattle.trace_line.specs.declared.Line.{Line}
use Rattle.trace_tags.specs.Tags.{TagsView, AllFreeBy, BreaksTagBy, HasFreeTagBy, read_line_by, tag_text, tags_after}
use Rattle.trace_tags.specs.declared.TagRule.{TagRule}
use Rattle.trace_reader.specs.Known.{KnownView, after_line, byte_rule}
use Rattle.trace_reader.specs.Gaps.{blank_with, due_count}
use Rattle.trace_reader.specs.declared.known.ByteRule.{ByteRule}
use Rattle.trace_reader.specs.declared.known.ByteRule.TheVariants as byte_rules
use Rattle.trace_reader.specs.declared.Reader.{Reader}
use Rattle.trace_reader.specs.declared.Recorded.{Recorded}
use Rattle.trace_reader.specs.declared.ReadRule.{ReadRule}
use Rattle.trace_reader.specs.declared.ReadRule.TheVariants as read_rule

-- THE BYTES

-- where no bytes may be missing
abbrev pub told_rule : Bool → Option ByteRule
told_rule true = Some byte_rules.Untold
told_rule false = None

abbrev pub byte_rule_by : Option KnownView → Recorded → Option ByteRule
byte_rule_by None r = told_rule r.untold
byte_rule_by (Some v) r = byte_rule v r.line.label

abbrev pub due_by : Option KnownView → Recorded → Option ℕ
due_by None r = None
due_by (Some v) r = Some (due_count v r.line.label)

-- the line with zeros for its bytes, where some of the trace were not recorded
abbrev pub blank_by : Option KnownView → Recorded → Line
blank_by known r = blank_with (due_by known r) r

abbrev pub known_after : Option KnownView → Recorded → Option KnownView
known_after None r = None
known_after (Some v) r = Some (after_line v r.line)

-- A LINE

-- the line that is judged: its tag may be another, and its bytes zeros
abbrev pub read_line : Reader → Recorded → Line
read_line v r = read_line_by v.tags (blank_by v.known r)

abbrev pub reader_after : Reader → Recorded → Reader
reader_after v r = record { tags = tags_after v.tags (blank_by v.known r); known = known_after v.known r }

-- the line can be read: its tag is free, and its bytes are not otherwise than what was told
pub record CanRead (v : Reader) (r : Recorded) : Type 0 where
  pub free_tag : HasFreeTagBy v.tags r.line
  pub agrees : byte_rule_by v.known r ≡ None

-- why it can't
abbrev pub CantRead : Reader → Recorded → ReadRule → Type 0
CantRead v r (read_rule.Tag rule) = BreaksTagBy v.tags r.line rule
CantRead v r (read_rule.Bytes rule) = byte_rule_by v.known r ≡ Some rule

-- the sentence of a rule
abbrev pub byte_text : ByteRule → List ℕ
byte_text byte_rules.Untold = codes "its bytes were not recorded, and --gaps isn't given"
byte_text (byte_rules.Call piece) = codes "the bytes of piece " ++ (decimal piece ++ codes " are not those of its call")
byte_text (byte_rules.Sector piece sector) = codes "piece " ++ (decimal piece ++ (codes " read other bytes than were told of sector " ++ (decimal sector ++ codes " of the disk")))
byte_text (byte_rules.Act piece) = codes "the bytes of the answer are not those that piece " ++ (decimal piece ++ codes " read")

abbrev pub read_text : ReadRule → List ℕ
read_text (read_rule.Tag rule) = tag_text rule
read_text (read_rule.Bytes rule) = byte_text rule

-- ALL LINES

-- all lines as they are judged
abbrev pub read_all : Reader → List Recorded → List Line
read_all v [] = []
read_all v (r ∷ rs) = read_line v r ∷ read_all (reader_after v r) rs

-- the reader behind all lines
abbrev pub after_all : Reader → List Recorded → Reader
after_all v [] = v
after_all v (r ∷ rs) = after_all (reader_after v r) rs

-- each line can be read where it stands
abbrev pub CanReadAll : Reader → List Recorded → Type 0
CanReadAll v [] = Unit {0}
CanReadAll v (r ∷ rs) = CanRead v r × CanReadAll (reader_after v r) rs
