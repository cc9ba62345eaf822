-- Tags of a trace where any free tag will do: whether each is free, and how a line is read.
use Rattle.std.specs.Prelude.{◌≡◌, ◌<◌, ◌≤◌, ℕ, zero, suc, ◌==◌, ◌+◌, nat_lt, not, Bool, List, [], ◌∷◌, ◌++◌, Contains, Option, Some, None, codes, filter, unwrap_or, if◌then◌else◌}
use Rattle.std.specs.Fmt.{decimal}
use Rattle.std.specs.List.{find, list_any}
use Rattle.srb.specs.declared.DeviceLabel.{DeviceLabel}
use Rattle.srb.specs.declared.DeviceLabel.TheVariants.{Start, Act, Fault, Return}
use Rattle.machine.specs.declared.Label.{Label}
use Rattle.machine.specs.declared.Label.TheVariants.{Device}
use Rattle.trace_line.specs.declared.Line.{Line}
use Rattle.trace_tags.specs.declared.OnTag.{OnTag}
use Rattle.trace_tags.specs.declared.TagRule.{TagRule}
use Rattle.trace_tags.specs.declared.TagRule.TheVariants.{Depth, InUse}

-- how many tags the adapter has, and the pieces that are out
pub record TagsView : Type 0 where
  pub depth : ℕ
  pub out : List OnTag

abbrev pub has_tag : ℕ → OnTag → Bool
has_tag tag piece = piece.told == tag

abbrev pub is_given : ℕ → OnTag → Bool
is_given tag piece = piece.given == tag

abbrev pub is_other : ℕ → OnTag → Bool
is_other number piece = not (piece.piece == number)

-- WHETHER A TAG IS FREE

-- the sentence of a rule
abbrev pub tag_text : TagRule → List ℕ
tag_text (Depth tag depth) = codes "there is no tag " ++ (decimal tag ++ (codes ": the adapter has " ++ decimal depth))
tag_text (InUse tag piece) = codes "piece " ++ (decimal piece ++ (codes " is on tag " ++ decimal tag))

abbrev pub used_rule : ℕ → Option OnTag → Option TagRule
used_rule tag None = None
used_rule tag (Some piece) = Some (InUse tag piece.piece)

abbrev pub tag_rule : TagsView → ℕ → Option TagRule
tag_rule tags tag = if not (nat_lt tag tags.depth) then Some (Depth tag tags.depth) else used_rule tag (find (has_tag tag) tags.out)

-- the adapter has the tag, and no piece that is out is on it
pub record IsFree (tags : TagsView) (tag : ℕ) : Type 0 where
  pub within : tag < tags.depth
  pub free : (piece : OnTag) → Contains tags.out piece → ¬ (piece.told ≡ tag)

abbrev pub DeviceHasFreeTag : TagsView → DeviceLabel → Type 0
DeviceHasFreeTag tags (Start piece tag block) = IsFree tags tag
DeviceHasFreeTag tags (Act piece bytes) = Unit {0}
DeviceHasFreeTag tags (Fault piece) = Unit {0}
DeviceHasFreeTag tags (Return piece class) = Unit {0}

-- the label's tag is free, where it is a start
abbrev pub HasFreeTag : TagsView → Label → Type 0
HasFreeTag tags (Device label) = DeviceHasFreeTag tags label
HasFreeTag tags _ = Unit {0}

abbrev pub IsInUse : TagsView → ℕ → TagRule → Type 0
IsInUse tags tag (Depth t depth) = (t ≡ tag) × (depth ≡ tags.depth) × (depth ≤ t)
IsInUse tags tag (InUse t number) = (t ≡ tag) × (piece : OnTag) × Contains tags.out piece × (piece.told ≡ t) × (piece.piece ≡ number)

abbrev pub DeviceBreaksTag : TagsView → DeviceLabel → TagRule → Type 0
DeviceBreaksTag tags (Start piece tag block) rule = IsInUse tags tag rule
DeviceBreaksTag tags (Act piece bytes) rule = ⊥
DeviceBreaksTag tags (Fault piece) rule = ⊥
DeviceBreaksTag tags (Return piece class) rule = ⊥

-- the label is a start, and this is why its tag is not free
abbrev pub BreaksTag : TagsView → Label → TagRule → Type 0
BreaksTag tags (Device label) rule = DeviceBreaksTag tags label rule
BreaksTag tags _ rule = ⊥

-- HOW A LINE IS READ

-- the lowest of so many tags, from this one on, that was given to no piece that is out
abbrev pub lowest_from : List OnTag → ℕ → ℕ → Option ℕ
lowest_from out tag zero = None
lowest_from out tag (suc more) = if list_any (is_given tag) out then lowest_from out (tag + 1) more else Some tag

-- the tag that is given to a start which tells this one: the lowest of 256, or its own where all are out
abbrev pub tag_for : TagsView → ℕ → ℕ
tag_for tags told = unwrap_or (lowest_from tags.out 0 256) told

abbrev pub with_piece : TagsView → ℕ → ℕ → TagsView
with_piece tags number told = record tags { out = tags.out ++ record { piece = number; told = told; given = tag_for tags told } ∷ [] }

abbrev pub without_piece : TagsView → ℕ → TagsView
without_piece tags number = record tags { out = filter (is_other number) tags.out }

abbrev pub read_device : TagsView → DeviceLabel → DeviceLabel
read_device tags (Start piece tag block) = Start piece (tag_for tags tag) block
read_device tags (Act piece bytes) = Act piece bytes
read_device tags (Fault piece) = Fault piece
read_device tags (Return piece class) = Return piece class

-- the label as it is read
abbrev pub read_label : TagsView → Label → Label
read_label tags (Device label) = Device (read_device tags label)
read_label tags label = label

abbrev pub read_line : TagsView → Line → Line
read_line tags line = record line { label = read_label tags line.label }

abbrev pub after_device : TagsView → DeviceLabel → TagsView
after_device tags (Start piece tag block) = with_piece tags piece tag
after_device tags (Act piece bytes) = tags
after_device tags (Fault piece) = tags
after_device tags (Return piece class) = without_piece tags piece

-- the pieces that are out after a label
abbrev pub after_label : TagsView → Label → TagsView
after_label tags (Device label) = after_device tags label
after_label tags _ = tags

abbrev pub after_line : TagsView → Line → TagsView
after_line tags line = after_label tags line.label

-- OF ALL LINES

-- all lines as they are read, one after the other
abbrev pub read_all : TagsView → List Line → List Line
read_all tags [] = []
read_all tags (line ∷ lines) = read_line tags line ∷ read_all (after_line tags line) lines

-- the tags behind all lines
abbrev pub after_all : TagsView → List Line → TagsView
after_all tags [] = tags
after_all tags (line ∷ lines) = after_all (after_line tags line) lines

-- the tag of each start is free where it stands
abbrev pub AllFree : TagsView → List Line → Type 0
AllFree tags [] = Unit {0}
AllFree tags (line ∷ lines) = HasFreeTag tags line.label × AllFree (after_line tags line) lines

-- WHERE ANY FREE TAG WILL DO, OR NONE BUT THE LOWEST

abbrev pub read_line_by : Option TagsView → Line → Line
read_line_by None line = line
read_line_by (Some tags) line = read_line tags line

abbrev pub tags_after : Option TagsView → Line → Option TagsView
tags_after None line = None
tags_after (Some tags) line = Some (after_line tags line)

abbrev pub HasFreeTagBy : Option TagsView → Line → Type 0
HasFreeTagBy None line = Unit {0}
HasFreeTagBy (Some tags) line = HasFreeTag tags line.label

abbrev pub BreaksTagBy : Option TagsView → Line → TagRule → Type 0
BreaksTagBy None line rule = ⊥
BreaksTagBy (Some tags) line rule = BreaksTag tags line.label rule

-- all lines as they are read
abbrev pub read_by : Option TagsView → List Line → List Line
read_by None lines = lines
read_by (Some tags) lines = read_all tags lines

-- the tags behind all lines
abbrev pub tags_by : Option TagsView → List Line → Option TagsView
tags_by None lines = None
tags_by (Some tags) lines = Some (after_all tags lines)

abbrev pub AllFreeBy : Option TagsView → List Line → Type 0
AllFreeBy None lines = Unit {0}
AllFreeBy (Some tags) lines = AllFree tags lines
