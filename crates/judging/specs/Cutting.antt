-- What a refused trace is cut down to.
use Rattle.std.specs.Prelude.{◌≡◌, ◌||◌, ℕ, Bool, List, Option, codes, filter, nat_lt}
use Rattle.std.specs.Io.KnownBytes.{Appends}
use Rattle.std.specs.Str.Lines.{lines}
use Rattle.trace_reader.specs.declared.Recorded.{Recorded}
use Rattle.judge.specs.Judging.{IsLineRun}
use Rattle.startup.specs.Reading.{IsAllOf}
use Rattle.startup.specs.declared.ending.Verdict.{Verdict}
use Rattle.startup.specs.declared.ending.Verdict.TheVariants.{Passed, Failed}
use Rattle.judging.specs.Checked.{IsFirstRefused, judged, misstep_text, opening_of, rules_by}
use Rattle.judging.specs.Told.{AreTold}
use Rattle.judging.specs.declared.misstep.Misstep.{Misstep}
use Rattle.judging.specs.declared.opened.Standard.{Standard}

-- the labels of a text are a run
pub record IsRunIn (standard : Standard) (text : List ℕ) : Type 0 where
  pub told_lines : List Recorded
  pub numbers : List ℕ
  pub are_told : AreTold (lines text) told_lines numbers
  pub run : IsLineRun (rules_by standard) (opening_of standard) (judged standard told_lines)

-- the line of this number is the first of a text that is refused, for this
pub record IsRefusedIn (standard : Standard) (text : List ℕ) (number : ℕ) (misstep : Misstep) : Type 0 where
  pub told_lines : List Recorded
  pub numbers : List ℕ
  pub are_told : AreTold (lines text) told_lines numbers
  pub first : IsFirstRefused standard told_lines numbers number misstep

-- the byte is none of 0 to 9
abbrev pub is_no_digit : ℕ → Bool
is_no_digit byte = nat_lt byte 48 || nat_lt 57 byte

-- the same is said of two missteps, but for their numbers
abbrev pub IsSameRule : Misstep → Misstep → Type 0
IsSameRule a b = filter is_no_digit (misstep_text a) ≡ filter is_no_digit (misstep_text b)

-- a text was written that is refused for the same as the trace
pub record IsCutDown (standard : Standard) (trace old new : Option (List ℕ)) : Type 0 where
  pub text : List ℕ
  pub all : IsAllOf trace text
  pub number : ℕ
  pub misstep : Misstep
  pub refused : IsRefusedIn standard text number misstep
  pub left : List ℕ
  pub last : ℕ
  pub why : Misstep
  pub refused_too : IsRefusedIn standard left last why
  pub same : IsSameRule misstep why
  pub appends : Appends old new left

-- the trace is a run, and only a remark was written
pub record IsNotCut (standard : Standard) (trace old new : Option (List ℕ)) : Type 0 where
  pub text : List ℕ
  pub all : IsAllOf trace text
  pub run : IsRunIn standard text
  pub appends : Appends old new (codes "# The trace is legal.\n")

-- what is written of a trace that is cut down
abbrev pub PrintsCut : Standard → Option (List ℕ) → Option (List ℕ) → Option (List ℕ) → Verdict → Type 0
PrintsCut standard trace old new Passed = IsCutDown standard trace old new
PrintsCut standard trace old new Failed = IsNotCut standard trace old new
