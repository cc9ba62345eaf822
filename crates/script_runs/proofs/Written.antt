-- What is written of settings and a script.
use Rattle.std.proofs.Common.{◌≡◌, ℕ, Bool, IsTrue, List, Option, ap, subst, sym, ◌∙◌}
use Rattle.io_manager.specs.Shown.{ManagerView}
use Rattle.settings.specs.declared.Config.{Config}
use Rattle.startup.specs.Reading.{AreRead, IsAllOf}
use Rattle.startup.specs.Started.{IsStartOf}
use Rattle.script.specs.declared.Line.{Line}
use Rattle.script.specs.Script.{AreEvents, lines_of}
use Rattle.script.specs.declared.Style.{Style}
use Rattle.script.specs.declared.Style.TheVariants.{Trace}
use Rattle.script.specs.Trace.{IsTold, Prints}
use Rattle.script_runs.specs.Runs.{AreGiven, IsTextOf, keeps_bytes}

module _ (config script : Option (List ℕ)) (settings : Config) (are_read : AreRead config settings) where
  -- settings and the lines of a script, each as they were read
  pub given : (text bytes items : List ℕ) (lines : List Line) → IsAllOf script items → text ≡ bytes
      → bytes ≡ items → AreEvents (lines_of text) lines → AreGiven config script settings lines
  given text bytes items lines all same_text same_bytes events = record {
    are_read = are_read;
    script_text = text;
    all = subst (IsAllOf script) (sym (same_text ∙ same_bytes)) all;
    events = events;
  }

  -- played by the stack of those settings
  pub written : (style : Style) (lines shown : List Line) (start last : ManagerView) (a b : Option (List ℕ))
      → AreGiven config script settings lines → shown ≡ lines → IsStartOf (keeps_bytes style) settings start
      → Prints a b (λ text. IsTold style start shown text last) → Prints a b (IsTextOf style config script)
  written style lines shown start last a b are_given same_lines starts trace = record {
    text = trace.text;
    is = record {
      settings = settings;
      lines = lines;
      given = are_given;
      start = start;
      starts = starts;
      last = last;
      told = subst (λ (ls : List Line). IsTold style start ls trace.text last) same_lines trace.is;
    };
    appends = trace.appends;
  }

-- where the lines are told as a trace, the labels keep their bytes
pub traced_bytes : (style : Style) (settings : Config) (keeps : Bool) (start : ManagerView) → keeps ≡ keeps_bytes style → IsStartOf keeps settings start
    → style ≡ Trace → IsTrue start.rules.keeps_bytes
traced_bytes style settings keeps start same starts is = ap (λ r. r.keeps_bytes) starts.rules ∙ (same ∙ ap keeps_bytes is)
