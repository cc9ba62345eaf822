-- What the lines of a trace tell.
use Rattle.std.specs.Prelude.{◌≡◌, ◌⊎◌, ℕ, ◌+◌, ◌==◌, Bool, true, false, List, [], ◌∷◌, ◌++◌, All, IsUtf8, filter, length, if◌then◌else◌}
use Rattle.std.specs.List.{AllZip}
use Rattle.machine.specs.declared.Label.{Label}
use Rattle.machine.specs.declared.Label.TheVariants as label
use Rattle.srb.specs.declared.DeviceLabel.{DeviceLabel}
use Rattle.srb.specs.declared.DeviceLabel.TheVariants as device
use Rattle.trace_line.specs.declared.Line.{Line}
use Rattle.trace_reader.specs.declared.Recorded.{Recorded}
use Rattle.label_text.specs.Lines.{Spells, is_told}

abbrev pub has_no_device_bytes : DeviceLabel → Bool
has_no_device_bytes (device.Start piece tag block) = false
has_no_device_bytes (device.Act piece bytes) = length bytes == 0
has_no_device_bytes (device.Fault piece) = false
has_no_device_bytes (device.Return piece class) = false

-- a call, an act or an answer that tells no bytes
abbrev pub has_no_bytes : Label → Bool
has_no_bytes (label.Call number q) = length q.bytes == 0
has_no_bytes (label.Device l) = has_no_device_bytes l
has_no_bytes (label.Answer number status informed bytes) = length bytes == 0
has_no_bytes _ = false

-- a text records a line: it spells it, or, where its bytes were not recorded, it spells it without bytes, with a space and a question mark
-- behind
abbrev pub RecordsAs : List ℕ → Line → Bool → Type 0
RecordsAs text line false = Spells text line
RecordsAs text line true = (front : List ℕ) × (text ≡ front ++ 32 ∷ 63 ∷ []) × Spells front line × (has_no_bytes line.label ≡ true)

abbrev pub Records : List ℕ → Recorded → Type 0
Records text r = RecordsAs text r.line r.untold

-- the numbers of the lines that tell a label, where the first line has this number
abbrev pub numbers_from : ℕ → List (List ℕ) → List ℕ
numbers_from n [] = []
numbers_from n (text ∷ texts) = (if is_told text then n ∷ [] else []) ++ numbers_from (n + 1) texts

-- what the texts of a trace's lines tell, and the number of the line of each label, from 1
pub record AreTold (texts : List (List ℕ)) (lines : List Recorded) (numbers : List ℕ) : Type 0 where
  pub spelled : AllZip Records (filter is_told texts) lines
  pub counted : numbers ≡ numbers_from 1 texts
  pub as_many : length numbers ≡ length lines
  pub are_text : All (λ text. IsUtf8 text) texts

-- a text is a bad line: it is to tell a label, and spells none, or it is not UTF-8
abbrev pub IsBad : List ℕ → Type 0
IsBad text = ((is_told text ≡ true) × ((r : Recorded) → ¬ (Records text r))) ⊎ (¬ (IsUtf8 text))

-- the first bad line has this number, from 1
pub record IsFirstBad (texts : List (List ℕ)) (number : ℕ) : Type 0 where
  pub before : List (List ℕ)
  pub bad : List ℕ
  pub after : List (List ℕ)
  pub split : texts ≡ before ++ bad ∷ after
  pub counted : number ≡ length before + 1
  pub good : All (λ text. ¬ (IsBad text)) before
  pub is_bad : IsBad bad

-- what the first lines of a trace tell, up to one
pub record AreToldFirst (texts : List (List ℕ)) (lines : List Recorded) (numbers : List ℕ) : Type 0 where
  pub front : List (List ℕ)
  pub behind : List (List ℕ)
  pub split : texts ≡ front ++ behind
  pub told : AreTold front lines numbers
