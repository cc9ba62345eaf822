-- Commands of the grammar that get more words.
use Rattle.std.proofs.Common.{◌≡◌, ◌∙◌, ◌||◌, false, ap, ap₂}
use Rattle.clap.specs.declared.builder.arg.Arg.{Arg}
use Rattle.clap.specs.declared.builder.command.Command.{Command}
use Rattle.clap.specs.declared.builder.command.Command.TheViews.{out-Command}
use Rattle.clap.specs.Words.{AddsArg, AddsSubcommand, App, app_of, rule_of, with_rule, with_subcommand}
use Rattle.judge_words.specs.CommandLine.{IsApp}

pub opened : (app : App) (command : Command) → app_of command ≡ app → (out-Command command).has_globals ≡ false → IsApp app command
opened app command shape own = record { shape = shape; own = own }

pub added : (command : Command) (rule : Arg) (more : Command) → rule.global ≡ false → AddsArg command rule more → (app : App) → IsApp app command → IsApp (with_rule app (rule_of rule)) more
added command rule more none adds app is = record {
  shape = adds.shape none ∙ ap (λ (a : App). with_rule a (rule_of rule)) is.shape;
  own = adds.globals ∙ ap₂ (λ a b. a || b) is.own none;
}

pub commanded : (program command more : Command) → AddsSubcommand program command more → (app sub : App) → IsApp app program → IsApp sub command → IsApp (with_subcommand app sub.top) more
commanded program command more adds app sub is one = record {
  shape = adds.shape one.own ∙ ap₂ (λ (a b : App). with_subcommand a b.top) is.shape one.shape;
  own = adds.globals ∙ ap₂ (λ a b. a || b) is.own one.own;
}
