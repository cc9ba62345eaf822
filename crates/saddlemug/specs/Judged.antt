-- A judge as C uses it.
use Rattle.std.specs.Prelude.{◌≡◌, ◌⊎◌, ℕ, List, [], Option, Some, None}
use Rattle.settings.specs.declared.Config.{Config}
use Rattle.settings.specs.Settings.{AreSettingsOf}
use Rattle.referee.specs.declared.telling.Told.{Told}
use Rattle.referee.specs.declared.telling.Told.TheVariants.{Line, Nothing, Bad}
use Rattle.referee.specs.declared.why.Why.{Why}
use Rattle.referee.specs.declared.why.Why.TheVariants as why
use Rattle.referee.specs.Numbers.{why_text}
use Rattle.referee.specs.Opening.{IsOpened}
use Rattle.referee.specs.Taking.{GoesBy, RefereeView}
use Rattle.referee.specs.Telling.{Tells}
use Rattle.saddlemug.specs.declared.labels.StackLabel.{StackLabel}
use Rattle.saddlemug.specs.Names.{IsPut}
use Rattle.saddlemug.specs.ToldLabels.{label_told}

-- a judge of the stack of a text's settings, that has taken no label
pub record IsNewJudge (text : List ℕ) (r : RefereeView) : Type 0 where
  pub config : Config
  pub settings : AreSettingsOf text config
  pub opened : IsOpened config r

-- C tells just this label, or none; or memory for it was refused
abbrev pub TellsLabel : StackLabel → List ℕ → Told → Type 0
TellsLabel l bytes (Line line) = (label_told l bytes ≡ Some line.label) × (line.owner ≡ None)
TellsLabel l bytes (Bad why.BadLabel) = label_told l bytes ≡ None
TellsLabel l bytes (Bad why.NoMemory) = Unit {0}
TellsLabel l bytes _ = ⊥

-- what was told in one of these ways was taken, and the number says so; or why it was not
abbrev pub Takes : (Told → Type 0) → RefereeView → ℕ → RefereeView → Type 0
Takes Is old number new = (told : Told) × Is told × GoesBy old told number new

abbrev pub TakesLabel : RefereeView → StackLabel → List ℕ → ℕ → RefereeView → Type 0
TakesLabel old l bytes number new = Takes (TellsLabel l bytes) old number new

abbrev pub TakesText : RefereeView → List ℕ → ℕ → RefereeView → Type 0
TakesText old text number new = Takes (Tells text) old number new

-- the sentence was told, or that of want of memory for it; and no text where nothing was refused
abbrev pub TellsWhy : Option Why → List ℕ → ℕ → List ℕ → Type 0
TellsWhy None before count after = IsPut [] before count after
TellsWhy (Some told) before count after = IsPut (why_text told) before count after ⊎ IsPut (why_text why.NoMemory) before count after
